-- The steps of a client that was told whole transactions, in a round that nothing hinders: each call is answered, each transaction commits.
--     IsCalm w             no latch compares, the engine runs at each place, the store hasn't failed, and no request gives way
--     OwnDeed t x          a record among the work of a call of t is one of its operations, or taken back from it
--     OwnEnd t x           a record behind the commit of t is a solo, or the end of t
--     Asked t cs xs        t answered these calls, one after another
--     Made css xs          transactions were begun one after another, each with its calls and its commit
use Rattle.std.proofs.Common.{◌≡◌, ℕ, Bool, true, false, List, [], ◌∷◌, ◌++◌, map, Option, Some, None, refl, sym, ◌∙◌, ap, subst, inl, inr}
use Rattle.std.specs.Prelude.{◌&&◌, slice_get}
use Rattle.std.specs.List.{list_all, AllByRecursion}
use Rattle.std.proofs.lemmas.List.{append_assoc}
use Rattle.std.proofs.lemmas.List.Concat.{flat_map-cons}
use Rattle.dali_record.specs.declared.records.Answer.{Answer}
use Rattle.dali_record.specs.declared.records.Call.{Call}
use Rattle.dali_record.specs.declared.records.Record.TheVariants.{Begin, Forward, Back, Solo, Done, Commit, Ended}
use Rattle.dali_runs.specs.declared.refusals.Refusal.{Refusal}
use Rattle.dali_transcripts.specs.Words.{Act, Begins as BeginAct, Calls, Commits as CommitAct, Why, StoppedBy, Full, Damaged, StoreFailed, UnderWay, Said, Refused}
use Rattle.dali_transcripts.specs.World.{Deed, Logs, Yields, World, stop_at}
use Rattle.dali_transcripts.specs.Moves.{Receipt, Place, Outside, Within, Spot, Move, Begins, IsRefusedBegin, Answers, IsRefusedCall, GivesWay, GivesUp, Commits, CommitFails, IsRefusedCommit, at, from, said, own, to}
use Rattle.dali_transcripts.specs.Causes.{IsCleaning, IsWork, AreWork, IsBehind, AreBehind, CanFail, IsDamagedIn, IsUnderWayIn, MetCause, HasCause}
use Rattle.dali_transcripts.specs.Transcripts.{IsPath, said_by, own_by}
use Rattle.dali_served.specs.Served.{acts_of}
use Rattle.dali_served.specs.Steady.{is_answered, NoneClaimed}
use Rattle.dali_served.specs.Free.{fits_log}
use Rattle.dali_served.proofs.Walked.{HasAnswered, answered}

pub record IsCalm (w : World) : Type 0 where
  pub looks : w.precheck ≡ false
  pub runs : (i : ℕ) → stop_at w i ≡ None
  pub store : w.core.vault.stopped ≡ false
  pub waits : (i d : ℕ) (f : Refusal) → slice_get w.happened i ≡ Some (Yields f, d) → ⊥
  pub claims : NoneClaimed w

abbrev pub Spares : Move → Type 0
Spares x = list_all fits_log (said x) ≡ true

-- ---- what such a client does
abbrev pub OwnDeed : ℕ → Receipt → Type 0
OwnDeed t (n, Logs (Forward u b)) = u ≡ t
OwnDeed t (n, Logs (Back u b)) = u ≡ t
OwnDeed t (n, Logs r) = ⊥
OwnDeed t x = Unit {0}

abbrev pub OwnEnd : ℕ → Receipt → Type 0
OwnEnd t (n, Logs (Solo u p b)) = Unit {0}
OwnEnd t (n, Logs (Ended u)) = u ≡ t
OwnEnd t (n, Logs r) = ⊥
OwnEnd t x = Unit {0}

abbrev pub Asked : ℕ → List Call → List Receipt → Type 0
Asked t [] xs = xs ≡ []
Asked t (call ∷ cs) xs =
    (work later : List Receipt) × (n : ℕ) × (a : Answer) × AllByRecursion (OwnDeed t) work × Asked t cs later × (xs ≡ work ++ ((n, Logs (Done t call a)) ∷ later))

abbrev pub Made : List (List Call) → List Receipt → Type 0
Made [] xs = xs ≡ []
Made (cs ∷ css) xs =
    (t n m : ℕ) × (asked end later : List Receipt) × Asked t cs asked × AllByRecursion (OwnEnd t) end × Made css later
    × (xs ≡ (n, Logs (Begin t)) ∷ (asked ++ ((m, Logs (Commit t)) ∷ (end ++ later))))

-- a begin, then answers, then a commit
all_then : (whole first behind asked mid rest : List Receipt) (b e : Receipt) → whole ≡ first ++ behind → first ≡ b ∷ [] → behind ≡ asked ++ mid → mid ≡ e ∷ rest → whole ≡ b ∷ (asked ++ (e ∷ rest))
all_then whole first behind asked mid rest b e is one calls end = is ∙ (ap (λ l. l ++ behind) one ∙ (ap (λ l. b ∷ l) calls ∙ ap (λ l. b ∷ (asked ++ l)) end))

-- ---- a refusal
module _ (w : World) (c : ℕ) (calm : IsCalm w) where
  no_damage : (i : ℕ) (act : Act) (o : Option ℕ) (r codeword found : ℕ) → IsDamagedIn w i act o r codeword found → ⊥
  no_damage i (Calls call) (Some t) r codeword found h = let never : true ≡ false = sym h.compares ∙ calm.looks in absurd cc
  no_damage i act o r codeword found h = h

  no_cause : (act : Act) (o : Option ℕ) (why : Why) (n : ℕ) → (CanFail act → ⊥) → ((i : ℕ) → IsUnderWayIn w i c act → ⊥) → MetCause w c n act o why → list_all fits_log (Refused act why ∷ []) ≡ true → ⊥
  no_cause act o (StoppedBy z) n fails meets met fine = let never : Some z ≡ None = sym met.cause.1 ∙ calm.runs met.met.place in absurd cc
  no_cause act o (Full end limit) n fails meets met fine = absurd cc
  no_cause act o (Damaged r codeword found) n fails meets met fine = no_damage met.met.place act o r codeword found met.cause
  no_cause act o StoreFailed n fails meets met fine = fails met.cause
  no_cause act o UnderWay n fails meets met fine = meets met.met.place met.cause

  -- ---- the work of a call, and what comes behind a commit
  no_clean_up : (t n u : ℕ) (x : Deed) → IsCleaning w c t n u x → ⊥
  no_clean_up t n u x h = let never : true ≡ false = sym h.claimed ∙ calm.claims h.done.place u in absurd cc

  own_one : (t : ℕ) (call : Call) (x : Receipt) → IsWork w c t call x → OwnDeed t x
  own_one t call (n, Logs (Forward u b)) h = h.0
  own_one t call (n, Logs (Back u b)) (inl same) = same
  own_one t call (n, Logs (Back u b)) (inr h) = absurd (no_clean_up t n u (Logs (Back u b)) h)
  own_one t call (n, Logs (Ended u)) h = absurd (no_clean_up t n u (Logs (Ended u)) h)
  own_one t call (n, Logs r) h = absurd h
  own_one t call x h = tt

  own_work : (t : ℕ) (call : Call) (xs : List Receipt) → AreWork w c t call xs → AllByRecursion (OwnDeed t) xs
  own_work t call [] h = tt
  own_work t call (x ∷ xs) h = (own_one t call x h.0, own_work t call xs h.1)

  end_one : (t : ℕ) (x : Receipt) → IsBehind w c t x → OwnEnd t x
  end_one t (n, Logs (Solo u p b)) h = tt
  end_one t (n, Logs (Ended u)) (inl same) = same
  end_one t (n, Logs (Ended u)) (inr h) = absurd (no_clean_up t n u (Logs (Ended u)) h)
  end_one t (n, Logs (Back u b)) h = absurd (no_clean_up t n u (Logs (Back u b)) h)
  end_one t (n, Logs r) h = absurd h
  end_one t x h = tt

  own_end : (t : ℕ) (xs : List Receipt) → AreBehind w c t xs → AllByRecursion (OwnEnd t) xs
  own_end t [] h = tt
  own_end t (x ∷ xs) h = (end_one t x h.0, own_end t xs h.1)

  -- ---- the steps
  record HasBegun (x : Move) (rest : List Act) : Type 0 where
    txn : ℕ
    number : ℕ
    own_is : own x ≡ (number, Logs (Begin txn)) ∷ []
    to_is : to x ≡ at (Within txn 0 (BeginAct ∷ rest) None false) rest
    tells : list_all is_answered (said x) ≡ true

  record HasCommitted (x : Move) (txn : ℕ) (rest : List Act) : Type 0 where
    number : ℕ
    end : List Receipt
    own_is : own x ≡ (number, Logs (Commit txn)) ∷ end
    are_own : AllByRecursion (OwnEnd txn) end
    to_is : to x ≡ at (Outside false) rest
    tells : list_all is_answered (said x) ≡ true

  begins : (r : List Act) (x : Move) → HasCause w c x → Outside false ≡ (from x).place → BeginAct ∷ r ≡ (from x).rest → Spares x → HasBegun x r
  begins r (Begins t n rest) cause p e fine =
      let same : rest ≡ r = cc in
      record { txn = t; number = n; own_is = refl; to_is = ap (λ l. at (Within t 0 (BeginAct ∷ l) None false) l) same; tells = refl }
  begins r (IsRefusedBegin place s n why rest) cause p e fine = absurd (no_cause BeginAct None why n (λ h. h) (λ i h. h) cause.1 fine)
  begins r x cause p e fine = absurd cc

  gave_way : (t : ℕ) (call : Call) (f : Refusal) (i : ℕ) → slice_get w.happened i ≡ Some (Yields f, c) → ⊥
  gave_way t call f i at = calm.waits i c f at

  answers : (u : ℕ) (ks : List Act) (k : Call) (r : List Act) (x : Move) → HasCause w c x → Within u 0 ks None false ≡ (from x).place → Calls k ∷ r ≡ (from x).rest → Spares x → HasAnswered w c (λ a. list_all is_answered (said x) ≡ true) x u ks k r
  answers u ks k r (Answers t tries cs None work n call a rest) cause p e fine =
      answered w c (λ z. list_all is_answered (said (Answers t tries cs None work n call a rest)) ≡ true) t u tries n cs ks call k a work rest r cause.0 p e refl
  answers u ks k r (Answers t tries cs (Some d) work n call a rest) cause p e fine = absurd cc
  answers u ks k r (IsRefusedCall t tries cs d s work n back call why rest) cause p e fine = absurd (no_cause (Calls call) (Some t) why n (λ h. h) (λ i h. h) cause.1.0 fine)
  answers u ks k r (GivesWay t tries cs d work call f back end rest) cause p e fine = absurd (gave_way t call f cause.1.done.place cause.1.done.there)
  answers u ks k r (GivesUp t tries cs d work call f back end rest) cause p e fine = absurd (gave_way t call f cause.1.done.place cause.1.done.there)
  answers u ks k r x cause p e fine = absurd cc

  commits : (u : ℕ) (ks : List Act) (r : List Act) (x : Move) → HasCause w c x → Within u 0 ks None false ≡ (from x).place → CommitAct ∷ r ≡ (from x).rest → Spares x → HasCommitted x u r
  commits u ks r (Commits t tries cs d n behind rest) cause p e fine =
      let txn : t ≡ u = cc in
      let left : rest ≡ r = cc in
      record {
        number = n;
        end = behind;
        own_is = ap (λ z. (n, Logs (Commit z)) ∷ behind) txn;
        are_own = subst (λ z. AllByRecursion (OwnEnd z) behind) txn (own_end t behind cause.1);
        to_is = ap (λ l. at (Outside false) l) left;
        tells = refl;
      }
  commits u ks r (CommitFails t tries cs d n m why rest) cause p e fine = let never : true ≡ false = sym cause.0.0 ∙ calm.store in absurd cc
  commits u ks r (IsRefusedCommit t tries cs d s n why rest) cause p e fine = absurd (no_cause CommitAct (Some t) why n (λ h. h) (λ i h. h) cause fine)
  commits u ks r x cause p e fine = absurd cc

  ends : (x : Move) → Outside false ≡ (from x).place → [] ≡ (from x).rest → ⊥
  ends (Begins t n rest) p e = absurd cc
  ends x p e = absurd cc

  -- ---- along a path
  both_true : (a b : Bool) → (a && b) ≡ true → (a ≡ true) × (b ≡ true)
  both_true true true e = (refl, refl)
  both_true true false e = absurd cc
  both_true false b e = absurd cc

  all_split : (p : Said → Bool) (xs ys : List Said) → list_all p (xs ++ ys) ≡ true → (list_all p xs ≡ true) × (list_all p ys ≡ true)
  all_split p [] ys e = (refl, e)
  all_split p (x ∷ xs) ys e =
      let one = both_true (p x) (list_all p (xs ++ ys)) e in
      let two = all_split p xs ys one.1 in
      (ap (λ b. b && list_all p xs) one.0 ∙ two.0, two.1)

  all_join : (p : Said → Bool) (xs ys : List Said) → list_all p xs ≡ true → list_all p ys ≡ true → list_all p (xs ++ ys) ≡ true
  all_join p [] ys e f = f
  all_join p (x ∷ xs) ys e f =
      let one = both_true (p x) (list_all p xs) e in
      ap (λ b. b && list_all p (xs ++ ys)) one.0 ∙ all_join p xs ys one.1 f

  spares_of : (x : Move) (xs : List Move) → list_all fits_log (said_by (x ∷ xs)) ≡ true → Spares x × (list_all fits_log (said_by xs) ≡ true)
  spares_of x xs e = all_split fits_log (said x) (said_by xs) (subst (λ l. list_all fits_log l ≡ true) (flat_map-cons said x xs) e)

  tells_of : (x : Move) (xs : List Move) → list_all is_answered (said x) ≡ true → list_all is_answered (said_by xs) ≡ true → list_all is_answered (said_by (x ∷ xs)) ≡ true
  tells_of x xs e f = subst (λ l. list_all is_answered l ≡ true) (sym (flat_map-cons said x xs)) (all_join is_answered (said x) (said_by xs) e f)

  -- the calls of a transaction, up to its commit
  record CallsMade (t : ℕ) (ks : List Act) (calls : List Call) (rest : List Act) (xs : List Move) (place : Place) : Type 0 where
    asked : List Receipt
    later : List Move
    are : Asked t calls asked
    path : IsPath w c (at (Within t 0 ks None false) (CommitAct ∷ rest)) later (at place [])
    fine : list_all fits_log (said_by later) ≡ true
    own_is : own_by xs ≡ asked ++ own_by later
    tells : list_all is_answered (said_by later) ≡ true → list_all is_answered (said_by xs) ≡ true

  calls_made : (t : ℕ) (ks : List Act) (calls : List Call) (rest : List Act) (xs : List Move) (place : Place)
      → IsPath w c (at (Within t 0 ks None false) (map Calls calls ++ CommitAct ∷ rest)) xs (at place []) → list_all fits_log (said_by xs) ≡ true → CallsMade t ks calls rest xs place
  calls_made t ks [] rest xs place path fine = record { asked = []; later = xs; are = refl; path = path; fine = fine; own_is = refl; tells = λ e. e }
  calls_made t ks (k ∷ calls) rest [] place path fine = let never : Calls k ∷ (map Calls calls ++ CommitAct ∷ rest) ≡ [] = ap (λ (q : Spot). q.rest) path in absurd cc
  calls_made t ks (k ∷ calls) rest (x ∷ xs) place path fine =
      let s = spares_of x xs fine in
      let one = answers t ks k (map Calls calls ++ CommitAct ∷ rest) x path.1 (ap (λ (q : Spot). q.place) path.0) (ap (λ (q : Spot). q.rest) path.0) s.0 in
      let more = calls_made t ks calls rest xs place (subst (λ p. IsPath w c p xs (at place [])) one.to_is path.2) s.1 in
      let done : Receipt = (one.number, Logs (Done t k one.answer)) in
      record {
        asked = one.work ++ (done ∷ more.asked);
        later = more.later;
        are = (one.work, more.asked, one.number, one.answer, own_work t k one.work one.are_work, more.are, refl);
        path = more.path;
        fine = more.fine;
        own_is =
            flat_map-cons own x xs
            ∙ (ap (λ l. l ++ own_by xs) one.own_is
            ∙ (ap (λ l. (one.work ++ done ∷ []) ++ l) more.own_is
            ∙ (append_assoc one.work (done ∷ []) (more.asked ++ own_by more.later) ∙ sym (append_assoc one.work (done ∷ more.asked) (own_by more.later)))));
        tells = λ e. tells_of x xs one.is_so (more.tells e);
      }

  -- its commit
  record IsClosed (t : ℕ) (rest : List Act) (xs : List Move) (place : Place) : Type 0 where
    number : ℕ
    end : List Receipt
    later : List Move
    are_own : AllByRecursion (OwnEnd t) end
    path : IsPath w c (at (Outside false) rest) later (at place [])
    fine : list_all fits_log (said_by later) ≡ true
    own_is : own_by xs ≡ (number, Logs (Commit t)) ∷ (end ++ own_by later)
    tells : list_all is_answered (said_by later) ≡ true → list_all is_answered (said_by xs) ≡ true

  closed : (t : ℕ) (ks rest : List Act) (xs : List Move) (place : Place)
      → IsPath w c (at (Within t 0 ks None false) (CommitAct ∷ rest)) xs (at place []) → list_all fits_log (said_by xs) ≡ true → IsClosed t rest xs place
  closed t ks rest [] place path fine = let never : CommitAct ∷ rest ≡ [] = ap (λ (q : Spot). q.rest) path in absurd cc
  closed t ks rest (x ∷ xs) place path fine =
      let s = spares_of x xs fine in
      let one = commits t ks rest x path.1 (ap (λ (q : Spot). q.place) path.0) (ap (λ (q : Spot). q.rest) path.0) s.0 in
      record {
        number = one.number;
        end = one.end;
        later = xs;
        are_own = one.are_own;
        path = subst (λ p. IsPath w c p xs (at place [])) one.to_is path.2;
        fine = s.1;
        own_is = flat_map-cons own x xs ∙ ap (λ l. l ++ own_by xs) one.own_is;
        tells = λ e. tells_of x xs one.tells e;
      }

  -- all of them
  pub record AllMade (css : List (List Call)) (xs : List Move) : Type 0 where
    pub are : Made css (own_by xs)
    pub tells : list_all is_answered (said_by xs) ≡ true

  pub all_made : (css : List (List Call)) (xs : List Move) (place : Place) → IsPath w c (at (Outside false) (acts_of css)) xs (at place []) → list_all fits_log (said_by xs) ≡ true → AllMade css xs
  all_made [] [] place path fine = record { are = refl; tells = refl }
  all_made [] (x ∷ xs) place path fine = absurd (ends x (ap (λ (q : Spot). q.place) path.0) (ap (λ (q : Spot). q.rest) path.0))
  all_made (cs ∷ css) [] place path fine = let never : BeginAct ∷ (map Calls cs ++ CommitAct ∷ acts_of css) ≡ [] = ap (λ (q : Spot). q.rest) path in absurd cc
  all_made (cs ∷ css) (x ∷ xs) place path fine =
      let s = spares_of x xs fine in
      let one = begins (map Calls cs ++ CommitAct ∷ acts_of css) x path.1 (ap (λ (q : Spot). q.place) path.0) (ap (λ (q : Spot). q.rest) path.0) s.0 in
      let ks = BeginAct ∷ (map Calls cs ++ CommitAct ∷ acts_of css) in
      let calls = calls_made one.txn ks cs (acts_of css) xs place (subst (λ p. IsPath w c p xs (at place [])) one.to_is path.2) s.1 in
      let end = closed one.txn ks (acts_of css) calls.later place calls.path calls.fine in
      let more = all_made css end.later place end.path end.fine in
      record {
        are = (
          one.txn,
          one.number,
          end.number,
          calls.asked,
          end.end,
          own_by end.later,
          calls.are,
          end.are_own,
          more.are,
          all_then (own_by (x ∷ xs)) (own x) (own_by xs) calls.asked (own_by calls.later) (end.end ++ own_by end.later) (one.number, Logs (Begin one.txn)) (end.number, Logs (Commit one.txn)) (flat_map-cons own x xs) one.own_is calls.own_is end.own_is,
        );
        tells = tells_of x xs one.tells (calls.tells (end.tells more.tells));
      }
