-- What a client does that is told whole transactions alone: it asks for its own keys, it doesn't die, and no audit fails.
--     Fine P act           a begin, a commit, or a call of a key that has P
--     IsTold P x           a request that was granted or gave way was for such a key; it is no death, and no audit failed
use Rattle.std.proofs.Common.{◌≡◌, ℕ, Bool, true, false, List, [], ◌∷◌, ◌++◌, Option, Some, None, map, refl, sym, ◌∙◌, subst}
use Rattle.std.specs.Prelude.{if◌then◌else◌}
use Rattle.std.specs.List.{AllByRecursion}
use Rattle.std.proofs.lemmas.List.{append-nil}
use Rattle.std.proofs.lemmas.List.Concat.{flat_map-cons}
use Rattle.dali_lists.proofs.Members.{all_append}
use Rattle.dali_record.specs.declared.records.Call.{Call}
use Rattle.dali_record.specs.declared.records.Record.TheVariants.{AuditFail, Restarted}
use Rattle.dali_runs.specs.declared.refusals.Refusal.{Refusal}
use Rattle.dali_transcripts.specs.Words.{Act, Begins as BeginAct, Calls, Commits as CommitAct, StoreFailed, Said, closes, key_of}
use Rattle.dali_transcripts.specs.World.{Logs, DiesOn, Claims, GivesBack, GetsLock, Yields, FindsDead, Meets, World}
use Rattle.dali_record.specs.declared.records.Record.TheVariants.{Forward, Back, Solo, Done, Ended}
use Rattle.dali_transcripts.specs.Moves.{Receipt, Place, Outside, LeftOut, Within, Ending, TakenBack, LeftBehind, Spot, Move, Begins, BeginsAgain, IsRefusedBegin, Skips, Rests, Answers, IsRefusedCall, Dies, GivesWay, GivesUp, Commits, CommitFails, IsRefusedCommit, Ends, StaysOpen, from, own, to, start, end_own, behind_close, operations, left}
use Rattle.dali_transcripts.specs.Causes.{IsCleanUp, IsAside, AreAside, IsAsking, AreAsking, IsWork, AreWork, IsTried, AreTried, IsBehind, AreBehind, HasCause}
use Rattle.dali_transcripts.specs.Transcripts.{IsPath, IsTranscript, own_by}
use Rattle.dali_served.specs.Served.{acts_of}

module _ (P : ℕ → Type 0) where
  abbrev pub Fine : Act → Type 0
  Fine BeginAct = Unit {0}
  Fine (Calls call) = P (key_of call)
  Fine CommitAct = Unit {0}
  Fine act = ⊥

  abbrev pub AreFine : List Act → Type 0
  AreFine acts = AllByRecursion Fine acts

  abbrev pub IsTold : Receipt → Type 0
  IsTold (n, GetsLock t k m) = P k
  IsTold (n, Yields f) = P f.key
  IsTold (n, DiesOn t r) = ⊥
  IsTold (n, Logs (AuditFail b rs)) = ⊥
  IsTold (n, Logs (Restarted rs ds)) = ⊥
  IsTold x = Unit {0}

  abbrev pub AreTold : List Receipt → Type 0
  AreTold xs = AllByRecursion IsTold xs

  -- ---- pieces of a step
  module _ (w : World) (c : ℕ) where
    clean_up : (t : ℕ) (x : Receipt) → IsCleanUp w c t x → IsTold x
    clean_up t (n, Logs (Back u b)) h = tt
    clean_up t (n, Logs (Ended u)) h = tt
    clean_up t (n, Claims u) h = tt
    clean_up t (n, GivesBack u o) h = tt
    clean_up t x h = absurd h

    aside : (t : ℕ) (x : Receipt) → IsAside w c t x → IsTold x
    aside t (n, Logs (Back u b)) h = tt
    aside t x h = clean_up t x h

    asides : (t : ℕ) (xs : List Receipt) → AreAside w c t xs → AreTold xs
    asides t [] h = tt
    asides t (x ∷ xs) h = (aside t x h.0, asides t xs h.1)

    asking : (t : ℕ) (call : Call) → (x : Receipt) → IsAsking w c t call x → IsTold x
    asking t call (n, FindsDead f) h = tt
    asking t call x h = aside t x h

    askings : (t : ℕ) (call : Call) → (xs : List Receipt) → AreAsking w c t call xs → AreTold xs
    askings t call [] h = tt
    askings t call (x ∷ xs) h = (asking t call x h.0, askings t call xs h.1)

    work : (t : ℕ) (call : Call) → P (key_of call) → (x : Receipt) → IsWork w c t call x → IsTold x
    work t call p (n, Logs (Forward u b)) h = tt
    work t call p (n, GetsLock u k m) h = subst P (sym h.1) p
    work t call p x h = asking t call x h

    works : (t : ℕ) (call : Call) → P (key_of call) → (xs : List Receipt) → AreWork w c t call xs → AreTold xs
    works t call p [] h = tt
    works t call p (x ∷ xs) h = (work t call p x h.0, works t call p xs h.1)

    tried : (t : ℕ) (call : Call) → P (key_of call) → (x : Receipt) → IsTried w c t call x → IsTold x
    tried t call p (n, Meets why) h = tt
    tried t call p x h = work t call p x h

    all_tried : (t : ℕ) (call : Call) → P (key_of call) → (xs : List Receipt) → AreTried w c t call xs → AreTold xs
    all_tried t call p [] h = tt
    all_tried t call p (x ∷ xs) h = (tried t call p x h.0, all_tried t call p xs h.1)

    behind : (t : ℕ) (x : Receipt) → IsBehind w c t x → IsTold x
    behind t (n, Meets StoreFailed) h = tt
    behind t (n, Logs (Solo u p b)) h = tt
    behind t (n, Logs (Ended u)) h = tt
    behind t x h = clean_up t x h

    behinds : (t : ℕ) (xs : List Receipt) → AreBehind w c t xs → AreTold xs
    behinds t [] h = tt
    behinds t (x ∷ xs) h = (behind t x h.0, behinds t xs h.1)

    end : (t : ℕ) (e : Ending) → AreTold (end_own t e)
    end t (TakenBack n) = (tt, tt)
    end t (LeftBehind n z) = (tt, tt)

    gave_way : (t : ℕ) (call : Call) (xs ys : List Receipt) (f : Refusal) (e : Ending) → P (key_of call) → f.key ≡ key_of call → AreAsking w c t call xs → AreAside w c t ys
        → AreTold (xs ++ (f.at, Yields f) ∷ ys ++ end_own t e)
    gave_way t call xs ys f e p key h g =
        all_append IsTold (xs ++ (f.at, Yields f) ∷ ys) (end_own t e) (all_append IsTold xs ((f.at, Yields f) ∷ ys) (askings t call xs h) (subst P (sym key) p, asides t ys g)) (end t e)

    -- ---- along a path
    abbrev commands_of : Place → List Act
    commands_of (Within t tries cs d s) = cs
    commands_of place = []

    abbrev deadly_of : Place → Option ℕ
    deadly_of (Within t tries cs d s) = d
    deadly_of place = None

    pub record StandsFine (q : Spot) : Type 0 where
      pub rest : AreFine q.rest
      pub commands : AreFine (commands_of q.place)
      pub lives : deadly_of q.place ≡ None

    fine_close : (acts : List Act) → AreFine acts → AreFine (behind_close acts)
    fine_close [] h = tt
    fine_close (act ∷ acts) h = by_test (closes act) (fine_close acts h.1)
      where
        by_test : (b : Bool) → AreFine (behind_close acts) → AreFine (if b then acts else behind_close acts)
        by_test true later = h.1
        by_test false later = later

    skipped_none : (b s : Bool) → AreFine (commands_of (if b then Outside s else LeftOut s))
    skipped_none true s = tt
    skipped_none false s = tt

    skipped_lives : (b s : Bool) → deadly_of (if b then Outside s else LeftOut s) ≡ None
    skipped_lives true s = refl
    skipped_lives false s = refl

    lives_on : (d : Option ℕ) (n : ℕ) → d ≡ None → left d n ≡ None
    lives_on None n e = refl
    lives_on (Some k) n e = absurd cc

    one : (x : Move) → HasCause w c x → StandsFine (from x) → StandsFine (to x) × AreTold (own x)
    one (Begins t n rest) cause h = (record { rest = h.rest.1; commands = h.rest; lives = refl }, (tt, tt))
    one (BeginsAgain t n tries held rest) cause h = (record { rest = h.rest.1; commands = h.rest; lives = refl }, (tt, tt))
    one (IsRefusedBegin place s n why rest) cause h = (record { rest = h.rest.1; commands = tt; lives = refl }, (tt, tt))
    one (Skips s act rest) cause h = (record { rest = h.rest.1; commands = skipped_none (closes act) s; lives = skipped_lives (closes act) s }, tt)
    one (Rests t act rest) cause h = (record { rest = h.rest.1; commands = tt; lives = refl }, tt)
    one (Answers t tries cs d xs n call a rest) cause h =
        (record { rest = h.rest.1; commands = h.commands; lives = lives_on d (operations t xs) h.lives }, all_append IsTold xs ((n, Logs (Done t call a)) ∷ []) (works t call h.rest.0 xs cause.0) (tt, tt))
    one (IsRefusedCall t tries cs d s xs n ys call why rest) cause h =
        (record { rest = h.rest.1; commands = h.commands; lives = lives_on d (operations t xs) h.lives }, all_append IsTold xs ((n, Meets why) ∷ ys) (all_tried t call h.rest.0 xs cause.0) (tt, asides t ys cause.2))
    one (Dies t tries cs d xs n r call rest) cause h = let never : Some d ≡ None = h.lives in absurd cc
    one (GivesWay t tries cs d xs call f ys e rest) cause h = (record { rest = h.commands; commands = tt; lives = refl }, gave_way t call xs ys f e h.rest.0 cause.1.key cause.0 cause.2)
    one (GivesUp t tries cs d xs call f ys e rest) cause h = (record { rest = fine_close rest h.rest.1; commands = tt; lives = refl }, gave_way t call xs ys f e h.rest.0 cause.1.key cause.0 cause.2)
    one (Commits t tries cs d n xs rest) cause h = (record { rest = h.rest.1; commands = tt; lives = refl }, (tt, behinds t xs cause.1))
    one (CommitFails t tries cs d n m why rest) cause h = (record { rest = h.rest.1; commands = tt; lives = refl }, (tt, (tt, tt)))
    one (IsRefusedCommit t tries cs d s n why rest) cause h = (record { rest = h.rest.1; commands = tt; lives = refl }, (tt, tt))
    one (Ends t tries cs d xs n) cause h = (record { rest = tt; commands = tt; lives = refl }, all_append IsTold xs ((n, Logs (Ended t)) ∷ []) (asides t xs cause.0) (tt, tt))
    one (StaysOpen t tries cs d s xs n z) cause h = (record { rest = tt; commands = tt; lives = refl }, all_append IsTold xs _ (asides t xs cause.0) (tt, tt))
    one x cause h = absurd h.rest.0

    along : (p : Spot) (xs : List Move) (q : Spot) → IsPath w c p xs q → StandsFine p → AreTold (own_by xs)
    along p [] q path h = tt
    along p (x ∷ xs) q path h =
        let step = one x path.1 (subst StandsFine path.0 h) in
        subst AreTold (sym (flat_map-cons own x xs)) (all_append IsTold (own x) (own_by xs) step.1 (along (to x) xs q path.2 step.0))

    pub told_all : (acts : List Act) (lines : List Said) (did : List Receipt) → IsTranscript w c acts lines did → AreFine acts → AreTold did
    told_all acts lines did tells fine =
        let so = tells.so_far in
        subst AreTold (sym (so.did_are ∙ append-nil (own_by so.moves))) (along (start acts) so.moves _ so.path (record { rest = fine; commands = tt; lives = refl }))

  -- ---- what a client is told
  pub fine_calls : (cs : List Call) (later : List Act) → AllByRecursion (λ call. P (key_of call)) cs → AreFine later → AreFine (map Calls cs ++ later)
  fine_calls [] later h g = g
  fine_calls (call ∷ cs) later h g = (h.0, fine_calls cs later h.1 g)

  pub fine_acts : (css : List (List Call)) → AllByRecursion (λ cs. AllByRecursion (λ call. P (key_of call)) cs) css → AreFine (acts_of css)
  fine_acts [] h = tt
  fine_acts (cs ∷ css) h = (tt, fine_calls cs (CommitAct ∷ acts_of css) h.0 (tt, fine_acts css h.1))
