-- Each record of a transaction that a line has to tell is told by one line, in order.
use Rattle.std.proofs.Common.{◌≡◌, ℕ, Bool, true, false, List, [], ◌∷◌, ◌++◌, Option, Some, None, refl, ap, sym, subst, ◌∙◌, ⊎_elim}
use Rattle.std.specs.Prelude.{filter_map, option_to_list, if◌then◌else◌, ◌||◌, ◌+◌, ◌==◌}
use Rattle.std.proofs.lemmas.Bool.{le-ltb, lt-ltb}
use Rattle.std.proofs.lemmas.List.Concat.{flat_map-cons}
use Rattle.std.proofs.lemmas.List.Elements.{filter_map-append}
use Rattle.std.proofs.lemmas.List.{append-nil, append_assoc}
use Rattle.dali_runs.proofs.CountsLemmas.Lists.{self}
use Rattle.dali_record.specs.declared.records.Call.{Call}
use Rattle.dali_record.specs.declared.records.Record.TheVariants.{Forward, Back, Done, Ended, Solo, AuditBegin, AuditClean, AuditFail}
use Rattle.dali_runs.specs.declared.refusals.Refusal.{Refusal}
use Rattle.dali_runs.specs.State.{stable}
use Rattle.dali_transcripts.specs.Words.{Act, Begins as BeginAct, Calls, Commits as CommitAct, Aborts as AbortAct, Audits as AuditAct, Checkpoints as CheckpointAct, Why, StoppedBy, Full, Damaged, StoreFailed, UnderWay, Said, Answered, AbortOk, Aborted, LeftOpen, Died, Busy, AuditSaid, CheckpointSaid, CheckpointFailed, Refused, closes, is_stop}
use Rattle.dali_transcripts.specs.World.{Logs, DiesOn, Claims, GivesBack, GetsLock, Yields, FindsDead, MovesAnchor, EndsCheckpoint, Meets, World}
use Rattle.dali_transcripts.specs.Moves.{Receipt, Place, Outside, Within, Again, LeftOut, Gone, Spot, Ending, TakenBack, LeftBehind, Move, Begins, BeginsAgain, IsRefusedBegin, Skips, Rests, Answers, IsRefusedCall, Dies, IsArmed, GivesWay, GivesUp, Commits, CommitFails, IsRefusedCommit, Aborts, IsRefusedAbort, Ends, StaysOpen, Pokes, PokesNothing, Audits, IsRefusedAudit, Checkpoints, FailsCheckpoint, IsRefusedCheckpoint, from, said, own, to, end_line, end_own, is_open, left, operations, audit_own, failure_own, spanned, refused_own}
use Rattle.dali_transcripts.specs.Causes.{IsCleanUp, IsAside, AreAside, IsAsking, AreAsking, IsWork, AreWork, IsTried, AreTried, IsBehind, AreBehind, IsCutAudit, IsCutBy, MetCause, HasCause}
use Rattle.dali_transcripts.specs.Transcripts.{IsPath, IsSoFar, IsBeingSaid, said_by, own_by, line_told, is_own, line_of, txn_after, txn_behind, lines_of_records}
use Rattle.dali_transcripts.specs.Laws.{LinesAreRecords, CutLinesAreRecords}
use Rattle.dali_transcripts.proofs.Paths.{one_more_step}

-- some records leave the client in the same transaction, and no line tells them
abbrev AreQuiet : World → Option ℕ → List Receipt → Type 0
AreQuiet w in_txn xs = (lines_of_records (stable w.core) in_txn xs ≡ []) × (txn_behind in_txn xs ≡ in_txn)

-- the lines and the records agree, from this transaction on
abbrev Agree : World → Option ℕ → List Said → List Receipt → Type 0
Agree w in_txn lines own = filter_map line_told lines ≡ lines_of_records (stable w.core) in_txn own

-- where the client is in a transaction, it is in this one
abbrev IsIn : Place → Option ℕ → Type 0
IsIn (Within t tries cs d s) in_txn = in_txn ≡ Some t
IsIn place in_txn = Unit {0}

pub lines_append : (f : ℕ) (in_txn : Option ℕ) (xs ys : List Receipt) → lines_of_records f in_txn (xs ++ ys) ≡ lines_of_records f in_txn xs ++ lines_of_records f (txn_behind in_txn xs) ys
lines_append f in_txn [] ys = refl
lines_append f in_txn (x ∷ xs) ys =
    ap (λ l. option_to_list (line_of f in_txn x) ++ l) (lines_append f (txn_after in_txn x) xs ys)
    ∙ sym (append_assoc (option_to_list (line_of f in_txn x)) (lines_of_records f (txn_after in_txn x) xs) _)

pub txn_append : (in_txn : Option ℕ) (xs ys : List Receipt) → txn_behind in_txn (xs ++ ys) ≡ txn_behind (txn_behind in_txn xs) ys
txn_append in_txn [] ys = refl
txn_append in_txn (x ∷ xs) ys = txn_append (txn_after in_txn x) xs ys

module _ (w : World) (c : ℕ) where
  -- ---- what no line tells
  one_quiet : (in_txn : Option ℕ) (x : Receipt) → line_of (stable w.core) in_txn x ≡ None → txn_after in_txn x ≡ in_txn → (xs : List Receipt) → AreQuiet w in_txn xs → AreQuiet w in_txn (x ∷ xs)
  one_quiet in_txn x e same xs rest = rw (e, same) rest

  clean_up_told : (in_txn : Option ℕ) (t : ℕ) (x : Receipt) → ((u : ℕ) → (u == t) ≡ false → is_own u in_txn ≡ false) → IsCleanUp w c t x → line_of (stable w.core) in_txn x ≡ None
  clean_up_told in_txn t (n, Logs (Back u b)) apart h = refl
  clean_up_told in_txn t (n, Logs (Ended u)) apart h = rw (apart u h.apart) refl
  clean_up_told in_txn t (n, Claims u) apart h = refl
  clean_up_told in_txn t (n, GivesBack u latched) apart h = refl
  clean_up_told in_txn t x apart h = absurd h

  clean_up_in : (in_txn : Option ℕ) (t : ℕ) (x : Receipt) → IsCleanUp w c t x → txn_after in_txn x ≡ in_txn
  clean_up_in in_txn t (n, Logs (Back u b)) h = refl
  clean_up_in in_txn t (n, Logs (Ended u)) h = refl
  clean_up_in in_txn t (n, Claims u) h = refl
  clean_up_in in_txn t (n, GivesBack u latched) h = refl
  clean_up_in in_txn t x h = absurd h

  aside_told : (t : ℕ) (x : Receipt) → IsAside w c t x → line_of (stable w.core) (Some t) x ≡ None
  aside_told t (n, Logs (Back u b)) h = refl
  aside_told t x h = clean_up_told (Some t) t x (λ u e. e) h

  aside_in : (t : ℕ) (x : Receipt) → IsAside w c t x → txn_after (Some t) x ≡ Some t
  aside_in t (n, Logs (Back u b)) h = refl
  aside_in t x h = clean_up_in (Some t) t x h

  asides_quiet : (t : ℕ) (xs : List Receipt) → AreAside w c t xs → AreQuiet w (Some t) xs
  asides_quiet t [] h = (refl, refl)
  asides_quiet t (x ∷ xs) h = one_quiet (Some t) x (aside_told t x h.0) (aside_in t x h.0) xs (asides_quiet t xs h.1)

  asking_told : (t : ℕ) (call : Call) (x : Receipt) → IsAsking w c t call x → line_of (stable w.core) (Some t) x ≡ None
  asking_told t call (n, FindsDead f) h = refl
  asking_told t call x h = aside_told t x h

  asking_in : (t : ℕ) (call : Call) (x : Receipt) → IsAsking w c t call x → txn_after (Some t) x ≡ Some t
  asking_in t call (n, FindsDead f) h = refl
  asking_in t call x h = aside_in t x h

  askings_quiet : (t : ℕ) (call : Call) (xs : List Receipt) → AreAsking w c t call xs → AreQuiet w (Some t) xs
  askings_quiet t call [] h = (refl, refl)
  askings_quiet t call (x ∷ xs) h = one_quiet (Some t) x (asking_told t call x h.0) (asking_in t call x h.0) xs (askings_quiet t call xs h.1)

  work_told : (t : ℕ) (call : Call) (x : Receipt) → IsWork w c t call x → line_of (stable w.core) (Some t) x ≡ None
  work_told t call (n, Logs (Forward u b)) h = refl
  work_told t call (n, GetsLock u k m) h = refl
  work_told t call x h = asking_told t call x h

  work_in : (t : ℕ) (call : Call) (x : Receipt) → IsWork w c t call x → txn_after (Some t) x ≡ Some t
  work_in t call (n, Logs (Forward u b)) h = refl
  work_in t call (n, GetsLock u k m) h = refl
  work_in t call x h = asking_in t call x h

  works_quiet : (t : ℕ) (call : Call) (xs : List Receipt) → AreWork w c t call xs → AreQuiet w (Some t) xs
  works_quiet t call [] h = (refl, refl)
  works_quiet t call (x ∷ xs) h = one_quiet (Some t) x (work_told t call x h.0) (work_in t call x h.0) xs (works_quiet t call xs h.1)

  tried_told : (t : ℕ) (call : Call) (x : Receipt) → IsTried w c t call x → line_of (stable w.core) (Some t) x ≡ None
  tried_told t call (n, Meets why) h = refl
  tried_told t call x h = work_told t call x h

  tried_in : (t : ℕ) (call : Call) (x : Receipt) → IsTried w c t call x → txn_after (Some t) x ≡ Some t
  tried_in t call (n, Meets why) h = refl
  tried_in t call x h = work_in t call x h

  tried_quiet : (t : ℕ) (call : Call) (xs : List Receipt) → AreTried w c t call xs → AreQuiet w (Some t) xs
  tried_quiet t call [] h = (refl, refl)
  tried_quiet t call (x ∷ xs) h = one_quiet (Some t) x (tried_told t call x h.0) (tried_in t call x h.0) xs (tried_quiet t call xs h.1)

  behind_told : (t : ℕ) (x : Receipt) → IsBehind w c t x → line_of (stable w.core) None x ≡ None
  behind_told t (n, Meets StoreFailed) h = refl
  behind_told t (n, Logs (Solo u p b)) h = refl
  behind_told t (n, Logs (Ended u)) h = refl
  behind_told t x h = clean_up_told None t x (λ u e. refl) h

  behind_in : (t : ℕ) (x : Receipt) → IsBehind w c t x → txn_after None x ≡ None
  behind_in t (n, Meets StoreFailed) h = refl
  behind_in t (n, Logs (Solo u p b)) h = refl
  behind_in t (n, Logs (Ended u)) h = refl
  behind_in t x h = clean_up_in None t x h

  behinds_quiet : (t : ℕ) (xs : List Receipt) → AreBehind w c t xs → AreQuiet w None xs
  behinds_quiet t [] h = (refl, refl)
  behinds_quiet t (x ∷ xs) h = one_quiet None x (behind_told t x h.0) (behind_in t x h.0) xs (behinds_quiet t xs h.1)

  cut_quiet : (later : Bool) (in_txn : Option ℕ) (xs : List Receipt) → IsCutAudit w later xs → AreQuiet w in_txn xs
  cut_quiet later in_txn [] h = (refl, refl)
  cut_quiet later in_txn ((b, Logs AuditBegin) ∷ []) h = (refl, refl)
  cut_quiet later in_txn ((b, Logs AuditBegin) ∷ (n, Logs (AuditClean a)) ∷ []) h = (refl, refl)
  cut_quiet later in_txn ((b, Logs AuditBegin) ∷ (n, Logs (AuditFail a rs)) ∷ []) h = (refl, refl)
  cut_quiet later in_txn xs h = absurd h

  none_quiet : (in_txn : Option ℕ) (xs : List Receipt) → xs ≡ [] → AreQuiet w in_txn xs
  none_quiet in_txn xs e = rw e (refl, refl)

  cut_by_quiet : (later : Bool) (in_txn : Option ℕ) (why : Why) (xs : List Receipt) → IsCutBy w later why xs → AreQuiet w in_txn xs
  cut_by_quiet later in_txn (StoppedBy z) xs h = cut_quiet later in_txn xs h
  cut_by_quiet true in_txn StoreFailed xs h = cut_quiet true in_txn xs h
  cut_by_quiet false in_txn StoreFailed xs h = cut_quiet false in_txn xs h.0
  cut_by_quiet later in_txn (Full end limit) xs h = none_quiet in_txn xs h
  cut_by_quiet later in_txn (Damaged r codeword found) xs h = none_quiet in_txn xs h
  cut_by_quiet later in_txn UnderWay xs h = none_quiet in_txn xs h

  audited : (in_txn : Option ℕ) (b n : ℕ) (rs : List ℕ) → AreQuiet w in_txn (audit_own b n rs)
  audited in_txn b n [] = (refl, refl)
  audited in_txn b n (r ∷ rs) = (refl, refl)

  failed_quiet : (in_txn : Option ℕ) (failed : Option ℕ) → AreQuiet w in_txn (failure_own failed)
  failed_quiet in_txn None = (refl, refl)
  failed_quiet in_txn (Some m) = (refl, refl)

  quiet_append : (in_txn : Option ℕ) (xs ys : List Receipt) → AreQuiet w in_txn xs → AreQuiet w in_txn ys → AreQuiet w in_txn (xs ++ ys)
  quiet_append in_txn [] ys a b = b
  quiet_append in_txn xs ys a b = (
    lines_append (stable w.core) in_txn xs ys ∙ (ap (λ l. l ++ lines_of_records (stable w.core) (txn_behind in_txn xs) ys) a.0 ∙ (ap (λ o. lines_of_records (stable w.core) o ys) a.1 ∙ b.0)),
    txn_append in_txn xs ys ∙ (ap (λ o. txn_behind o ys) a.1 ∙ b.1),
  )

  -- a refusal and a checkpoint's start and end aren't told as records
  met_quiet : (in_txn : Option ℕ) (n : ℕ) (why : Why) (xs ys : List Receipt) → AreQuiet w in_txn xs → AreQuiet w in_txn ys → AreQuiet w in_txn (xs ++ (n, Meets why) ∷ ys)
  met_quiet in_txn n why xs ys a b = quiet_append in_txn xs ((n, Meets why) ∷ ys) a b

  span_quiet : (in_txn : Option ℕ) (span : Option (ℕ × ℕ)) (xs : List Receipt) → AreQuiet w in_txn xs → AreQuiet w in_txn (spanned span xs)
  span_quiet in_txn None xs a = a
  span_quiet in_txn (Some (since, until)) xs a = quiet_append in_txn xs ((until, EndsCheckpoint) ∷ []) a (refl, refl)

  late_quiet : (in_txn : Option ℕ) (late : Bool) (span : Option (ℕ × ℕ)) (xs : List Receipt) (n : ℕ) (why : Why) → AreQuiet w in_txn xs → AreQuiet w in_txn (refused_own late span xs (n, Meets why))
  late_quiet in_txn false span xs n why a = span_quiet in_txn span (xs ++ (n, Meets why) ∷ []) (met_quiet in_txn n why xs [] a (refl, refl))
  late_quiet in_txn true span xs n why a = met_quiet in_txn n why (spanned span xs) [] (span_quiet in_txn span xs a) (refl, refl)

  -- ---- a line that tells no record
  untold : (n : ℕ) (act : Act) (o : Option ℕ) (why : Why) → MetCause w c n act o why → line_told (Refused act why) ≡ None
  untold n CommitAct o StoreFailed h = absurd h.cause
  untold n act o why h = refl

  -- what a step owes
  Owes : Option ℕ → List Said → List Receipt → Place → Type 0
  Owes in_txn lines own place = Agree w in_txn lines own × IsIn place (txn_behind in_txn own)

  -- a line that tells nothing, behind quiet records, which leave the client where it is
  quietly : (in_txn : Option ℕ) (line : Said) (xs : List Receipt) (place : Place) → line_told line ≡ None → AreQuiet w in_txn xs → IsIn place in_txn → Owes in_txn (line ∷ []) xs place
  unfolding Owes
  quietly in_txn line xs place e quiet is_in = (rw (e, quiet.0) refl, subst (IsIn place) (sym quiet.1) is_in)

  -- records behind quiet ones
  behind_quiet : (t : ℕ) (xs ys : List Receipt) (lines : List Said) (place : Place) → AreQuiet w (Some t) xs → Owes (Some t) lines ys place → Owes (Some t) lines (xs ++ ys) place
  unfolding Owes
  behind_quiet t xs ys lines place quiet owes =
      let told : lines_of_records (stable w.core) (Some t) (xs ++ ys) ≡ lines_of_records (stable w.core) (Some t) ys =
      lines_append (stable w.core) (Some t) xs ys
      ∙ (ap (λ l. l ++ lines_of_records (stable w.core) (txn_behind (Some t) xs) ys) quiet.0
      ∙ ap (λ o. lines_of_records (stable w.core) o ys) quiet.1) in
      let stays : txn_behind (Some t) (xs ++ ys) ≡ txn_behind (Some t) ys = txn_append (Some t) xs ys ∙ ap (λ o. txn_behind o ys) quiet.1 in
      (owes.0 ∙ sym told, subst (IsIn place) (sym stays) owes.1)

  ended : (t n : ℕ) (line : Said) (place : Place) → line_told line ≡ Some Aborted → ((o : Option ℕ) → IsIn place o) → Owes (Some t) (line ∷ []) ((n, Logs (Ended t)) ∷ []) place
  unfolding Owes
  ended t n line place e is_in = (rw (e, self t) refl, is_in (Some t))

  -- what a try that got Busy did, and how it ended
  busy_quiet : (t : ℕ) (call : Call) (xs ys : List Receipt) (f : Refusal) → AreAsking w c t call xs → AreAside w c t ys → AreQuiet w (Some t) (xs ++ (f.at, Yields f) ∷ ys)
  busy_quiet t call xs ys f work back = quiet_append (Some t) xs ((f.at, Yields f) ∷ ys) (askings_quiet t call xs work) (asides_quiet t ys back)

  gave_way : (t : ℕ) (end : Ending) (place : Place) → ((o : Option ℕ) → IsIn place o) → Owes (Some t) (end_line end ∷ []) (end_own t end) place
  unfolding Owes
  gave_way t (TakenBack n) place is_in = ended t n Aborted place refl is_in
  gave_way t (LeftBehind n z) place is_in = (refl, is_in (Some t))

  gave_up : (t h : ℕ) (end : Ending) (place : Place) → ((o : Option ℕ) → IsIn place o) → Owes (Some t) (Busy h ∷ end_line end ∷ []) (end_own t end) place
  unfolding Owes
  gave_up t h (TakenBack n) place is_in = ended t n Aborted place refl is_in
  gave_up t h (LeftBehind n z) place is_in = (refl, is_in (Some t))

  -- the same, as the row has it
  busy_owes : (t : ℕ) (call : Call) (xs ys zs : List Receipt) (f : Refusal) (lines : List Said) (place : Place) → AreAsking w c t call xs → AreAside w c t ys → Owes (Some t) lines zs place
      → Owes (Some t) lines (xs ++ (f.at, Yields f) ∷ ys ++ zs) place
  busy_owes t call xs ys zs f lines place work back owes = behind_quiet t (xs ++ (f.at, Yields f) ∷ ys) zs lines place (busy_quiet t call xs ys f work back) owes

  anywhere : (o : Option ℕ) → Unit {0}
  anywhere o = tt

  skipped_in : (s : Bool) (b : Bool) (o : Option ℕ) → IsIn (if b then Outside s else LeftOut s) o
  skipped_in s true o = tt
  skipped_in s false o = tt

  one_owes : (x : Move) (in_txn : Option ℕ) → HasCause w c x → IsIn (from x).place in_txn → Owes in_txn (said x) (own x) (to x).place
  unfolding Owes
  one_owes (Begins t n rest) o h i = (refl, refl)
  one_owes (BeginsAgain t n tries held rest) o h i = (refl, refl)
  one_owes (IsRefusedBegin place s n why rest) o h i = quietly o (Refused BeginAct why) ((n, Meets why) ∷ []) (LeftOut (s || is_stop why)) (untold n BeginAct None why h.1) (refl, refl) tt
  one_owes (Skips s act rest) o h i = (refl, skipped_in s (closes act) o)
  one_owes (Rests t act rest) o h i = (refl, tt)
  one_owes (Answers t tries cs d xs n call a rest) o h i = rw i (behind_quiet t xs ((n, Logs (Done t call a)) ∷ []) (Answered call a ∷ []) (Within t tries cs (left d (operations t xs)) false) (works_quiet t call xs h.0) (refl, refl))
  one_owes (IsRefusedCall t tries cs d s xs n ys call why rest) o h i = rw i (quietly (Some t) (Refused (Calls call) why) (xs ++ (n, Meets why) ∷ ys) (Within t tries cs (left d (operations t xs)) (s || is_stop why)) (untold n (Calls call) (Some t) why h.1.0) (met_quiet (Some t) n why xs ys (tried_quiet t call xs h.0) (asides_quiet t ys h.2)) refl)
  one_owes (Dies t tries cs d xs n r call rest) o h i = rw i (quietly (Some t) Died (xs ++ (n, DiesOn t r) ∷ []) (Gone t) refl (quiet_append (Some t) xs ((n, DiesOn t r) ∷ []) (works_quiet t call xs h.0) (refl, refl)) tt)
  one_owes (IsArmed t tries cs d s count rest) o h i = (refl, i)
  one_owes (GivesWay t tries cs d xs call f ys end rest) o h i = rw i (busy_owes t call xs ys (end_own t end) f (end_line end ∷ []) (Again (tries + 1) f.holder (is_open end)) h.0 h.2 (gave_way t end (Again (tries + 1) f.holder (is_open end)) anywhere))
  one_owes (GivesUp t tries cs d xs call f ys end rest) o h i = rw i (busy_owes t call xs ys (end_own t end) f (Busy f.holder ∷ end_line end ∷ []) (Outside (is_open end)) h.0 h.2 (gave_up t f.holder end (Outside (is_open end)) anywhere))
  one_owes (Commits t tries cs d n xs rest) o h i = let q = behinds_quiet t xs h.1 in (rw (lt-ltb n (stable w.core) h.0, q.0) refl, tt)
  one_owes (CommitFails t tries cs d n m why rest) o h i = let lost = h.0 in (rw (le-ltb n (stable w.core) lost.1) refl, tt)
  one_owes (IsRefusedCommit t tries cs d s n why rest) o h i = quietly o (Refused CommitAct why) ((n, Meets why) ∷ []) (Outside true) (untold n CommitAct (Some t) why h) (refl, refl) tt
  one_owes (Aborts t tries cs d xs n rest) o h i = rw i (behind_quiet t xs ((n, Logs (Ended t)) ∷ []) (AbortOk ∷ []) (Outside false) (asides_quiet t xs h.0) (ended t n AbortOk (Outside false) refl anywhere))
  one_owes (IsRefusedAbort t tries cs d s xs n why rest) o h i = rw i (quietly (Some t) (Refused AbortAct why) (xs ++ (n, Meets why) ∷ []) (Outside true) (untold n AbortAct (Some t) why h.1) (met_quiet (Some t) n why xs [] (asides_quiet t xs h.0) (refl, refl)) tt)
  one_owes (Ends t tries cs d xs n) o h i = rw i (behind_quiet t xs ((n, Logs (Ended t)) ∷ []) (Aborted ∷ []) (Outside false) (asides_quiet t xs h.0) (ended t n Aborted (Outside false) refl anywhere))
  one_owes (StaysOpen t tries cs d s xs n z) o h i = rw i (quietly (Some t) LeftOpen (xs ++ (n, Meets (StoppedBy z)) ∷ []) (Outside true) refl (met_quiet (Some t) n (StoppedBy z) xs [] (asides_quiet t xs h.0) (refl, refl)) tt)
  one_owes (Pokes s n r word m rest) o h i = (refl, tt)
  one_owes (PokesNothing s r word m rest) o h i = (refl, tt)
  one_owes (Audits b n rs failed rest) o h i = quietly o (AuditSaid rs) (audit_own b n rs ++ failure_own failed) (Outside false) refl (quiet_append o (audit_own b n rs) (failure_own failed) (audited o b n rs) (failed_quiet o failed)) tt
  one_owes (IsRefusedAudit s xs n why rest) o h i = quietly o (Refused AuditAct why) (xs ++ (n, Meets why) ∷ []) (Outside (s || is_stop why)) (untold n AuditAct None why h.1) (met_quiet o n why xs [] (cut_by_quiet false o why xs h.0) (refl, refl)) tt
  one_owes (Checkpoints since b n m until current rest) o h i = quietly o (CheckpointSaid current) (spanned (Some (since, until)) (audit_own b n [] ++ (m, MovesAnchor current) ∷ [])) (Outside false) refl (refl, refl) tt
  one_owes (FailsCheckpoint since b n until r rs failed rest) o h i =
      let audit : AreQuiet w o (audit_own b n (r ∷ rs) ++ failure_own failed) = quiet_append o (audit_own b n (r ∷ rs)) (failure_own failed) (audited o b n (r ∷ rs)) (failed_quiet o failed) in
      quietly o (CheckpointFailed (r ∷ rs)) (spanned (Some (since, until)) (audit_own b n (r ∷ rs) ++ failure_own failed)) (Outside false) refl (span_quiet o (Some (since, until)) (audit_own b n (r ∷ rs) ++ failure_own failed) audit) tt
  one_owes (IsRefusedCheckpoint s span late xs n why rest) o h i = quietly o (Refused CheckpointAct why) (refused_own late span xs (n, Meets why)) (Outside (s || is_stop why)) (untold n CheckpointAct None why h.2.0) (late_quiet o late span xs n why (cut_by_quiet true o why xs h.0)) tt

  all_agree : (p : Spot) (xs : List Move) (q : Spot) (o : Option ℕ) → IsIn p.place o → IsPath w c p xs q → Agree w o (said_by xs) (own_by xs)
  unfolding Owes
  all_agree p [] q o i path = refl
  all_agree p (x ∷ xs) q o i path =
      let owes = one_owes x o path.1 (subst (λ (s : Spot). IsIn s.place o) path.0 i) in
      ap (λ l. filter_map line_told l) (flat_map-cons said x xs)
      ∙ (filter_map-append line_told (said x) (said_by xs)
      ∙ (ap (λ l. l ++ filter_map line_told (said_by xs)) owes.0
      ∙ (ap (λ l. lines_of_records (stable w.core) o (own x) ++ l) (all_agree (to x) xs q (txn_behind o (own x)) owes.1 path.2)
      ∙ (sym (lines_append (stable w.core) o (own x) (own_by xs))
      ∙ ap (λ l. lines_of_records (stable w.core) o l) (sym (flat_map-cons own x xs))))))

-- behind a step
agree_so_far : (w : World) (c : ℕ) (acts : List Act) (lines : List Said) (did : List Receipt) (q : Spot) → IsSoFar w c acts lines did [] q
    → filter_map line_told lines ≡ lines_of_records (stable w.core) None did
agree_so_far w c acts lines did q so =
    ap (λ l. filter_map line_told l) so.lines_are
    ∙ (all_agree w c _ so.moves _ None tt so.path ∙ ap (λ l. lines_of_records (stable w.core) None l) (sym (so.did_are ∙ append-nil (own_by so.moves))))

pub lines_are_records : LinesAreRecords
lines_are_records w c acts lines did transcript = agree_so_far w c acts lines did _ transcript.so_far

Lacks : World → List Said → List Receipt → Type 0
Lacks w lines did = (more : List Said) × (lines_of_records (stable w.core) None did ≡ filter_map line_told lines ++ more)

-- the step under way said nothing
unsaid : (w : World) (c : ℕ) (acts : List Act) (told : List Said) (did pending : List Receipt) (q : Spot) → IsSoFar w c acts told did pending q → Lacks w told did
unfolding Lacks
unsaid w c acts told did pending q so =
    let o = txn_behind None (own_by so.moves) in (
      lines_of_records (stable w.core) o pending,
      ap (λ l. lines_of_records (stable w.core) None l) so.did_are
          ∙ (lines_append (stable w.core) None (own_by so.moves) pending
          ∙ ap (λ l. l ++ lines_of_records (stable w.core) o pending) (sym (ap (λ l. filter_map line_told l) so.lines_are ∙ all_agree w c _ so.moves _ None tt so.path))),
    )

-- it said some of its lines
partly : (w : World) (c : ℕ) (acts : List Act) (told part : List Said) (did pending : List Receipt) (q : Spot) → IsSoFar w c acts told did pending q
    → IsBeingSaid w c q pending part → Lacks w (told ++ part) did
unfolding Lacks
partly w c acts told part did pending q so h =
    let whole = one_more_step w c acts told did pending q h.move so h.starts h.own_is h.cause in
    let lines : told ++ said h.move ≡ (told ++ part) ++ h.lacking = ap (λ l. told ++ l) h.said_is ∙ sym (append_assoc told part h.lacking) in (
      filter_map line_told h.lacking,
      sym (agree_so_far w c acts (told ++ said h.move) did (to h.move) whole) ∙ (ap (λ l. filter_map line_told l) lines ∙ filter_map-append line_told (told ++ part) h.lacking),
    )

pub cut_lines_are_records : CutLinesAreRecords
unfolding Lacks
cut_lines_are_records w c acts lines did cut =
    ⊎_elim
    (λ none. let same : lines ≡ cut.told = cut.lines_are ∙ (ap (λ l. cut.told ++ l) none.0 ∙ append-nil cut.told) in
    subst (λ l. Lacks w l did) (sym same) (unsaid w c acts cut.told did cut.pending cut.spot cut.so_far))
    (λ some. subst (λ l. Lacks w l did) (sym cut.lines_are) (partly w c acts cut.told cut.part did cut.pending cut.spot cut.so_far some))
    cut.under_way
