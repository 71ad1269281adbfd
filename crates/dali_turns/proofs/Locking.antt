-- The locks of the transactions of a round's clients.
use Rattle.std.proofs.Common.{◌≡◌, ℕ, zero, suc, ◌≤◌, Bool, true, false, List, [], ◌∷◌, ◌++◌, length, Option, Some, None, refl, ap, sym, subst, ◌∙◌, inl, inr, ⊎_elim, arith}
use Rattle.std.specs.Prelude.{◌==◌, ◌&&◌, if◌then◌else◌, Contains, fold, slice_get, drop}
use Rattle.std.specs.List.{list_any}
use Rattle.std.proofs.lemmas.List.Elements.{Contains-append_left}
use Rattle.dali_lists.proofs.Lists.{drop_front}
use Rattle.dali_runs.proofs.CountsLemmas.Lists.{self, equal, some_same}
use Rattle.dali_record.specs.declared.records.Record.{Record}
use Rattle.dali_record.specs.declared.records.Record.TheVariants.{Ended}
use Rattle.dali_record.specs.Epochs.{separates, last_epoch}
use Rattle.dali_record.specs.Legal.{txn_state}
use Rattle.dali_locks.specs.declared.mode.Mode.{Mode}
use Rattle.dali_locks.specs.declared.mode.Mode.TheVariants.{Shared, Exclusive}
use Rattle.dali_locks.specs.Locks.{both_shared, stronger_mode}
use Rattle.dali_runs.specs.Run.{Bases, RunsOn, no_image}
use Rattle.dali_runs.specs.State.{SystemState, row_of, state_in, state_of, lock_of}
use Rattle.dali_runs.proofs.LastEpochs.{last_epoch-append, none_separates}
use Rattle.dali_runs.proofs.FactsLemmas.KeysAndUndos.{ended_over, over_row}
use Rattle.dali_crash.specs.Checkpoints.{Point}
use Rattle.dali_crash.specs.StoreRuns.{StoreRun}
use Rattle.dali_transcripts.specs.World.{Logs, GetsLock, Happening, World, logged_by, HasGot, lock_step, IsNoWeaker, Grows}
use Rattle.dali_transcripts.specs.Moves.{Spot}
use Rattle.dali_transcripts.specs.Rounds.{Standing}
use Rattle.dali_transcripts.specs.Telling.Tells.{Tells}
use Rattle.dali_turns.specs.Within.{AreGot}
use Rattle.dali_turns.specs.Fits.{InTxn, OthersGot}
use Rattle.dali_turns.proofs.Refusals.{runs_on_log}
use Rattle.dali_transactions.specs.Beside.Went.{is_open}

-- a lock that was granted once, was granted later too
pub got_more : (w v : World) (g : Grows w v) (c t k : ℕ) (m : Mode) → HasGot w.happened c t k m → HasGot v.happened c t k m
got_more w v g c t k m h = subst (λ xs. Contains xs (GetsLock t k m, c)) (sym g.happened) (Contains-append_left w.happened g.more (GetsLock t k m, c) h)

-- where its locks are as they were
pub still_got : (p q : Point) (w v : World) (g : Grows w v) (c t : ℕ) → ((k : ℕ) → lock_of q.core.system t k ≡ lock_of p.core.system t k) → AreGot p w c t → AreGot q v c t
still_got p q w v g c t same h k m has = got_more w v g c t k m (h k m (sym (same k) ∙ has))

-- and where the other ones that are live or committed were so before, and have the locks that they had
pub others_on : (w v : World) (a b : Standing) (g : Grows w v) (y z : SystemState) → w.core.system ≡ y → v.core.system ≡ z → b.client ≡ a.client → b.spot ≡ a.spot → (z.stop ≡ None → y.stop ≡ None)
    → ((t : ℕ) → is_open (state_of z t) ≡ true → (is_open (state_of y t) ≡ true) × ((k : ℕ) → lock_of z t k ≡ lock_of y t k)) → OthersGot w a → OthersGot v b
others_on w v a b g y z is_y is_z client spot ran before h runs t k m lives has =
    let was = before t (ap (λ (n : SystemState). is_open (state_of n t)) (sym is_z) ∙ lives) in
    let ran_there : w.core.system.stop ≡ None = ap (λ (n : SystemState). n.stop) is_y ∙ ran (ap (λ (n : SystemState). n.stop) (sym is_z) ∙ runs) in
    let had : lock_of w.core.system t k ≡ Some m = ap (λ (n : SystemState). lock_of n t k) is_y ∙ (sym (was.1 k) ∙ (ap (λ (n : SystemState). lock_of n t k) (sym is_z) ∙ has)) in
    ⊎_elim
    (λ own. inl (subst (λ (q : Spot). InTxn q.place t) (sym spot) own))
    (λ got. inr (got.0, ap (λ n. got.0 == n) client ∙ got.1, got_more w v g got.0 t k m got.2))
    (h ran_there t k m (ap (λ (n : SystemState). is_open (state_of n t)) is_y ∙ was.0) had)

-- ---- as the deeds tell them: a lock that was granted is there until its transaction ends
abbrev pub NoneEnds : ℕ → List Happening → Type 0
NoneEnds t xs = (i c : ℕ) → slice_get xs i ≡ Some (Logs (Ended t), c) → ⊥

stronger_yet : (o : Option Mode) (m n : Mode) → IsNoWeaker o (Some m) → IsNoWeaker (Some (stronger_mode o n)) (Some m)
stronger_yet None m n h = absurd (cc)
stronger_yet (Some Shared) Shared Shared h = refl
stronger_yet (Some Shared) Shared Exclusive h = refl
stronger_yet (Some Shared) Exclusive n h = absurd (cc)
stronger_yet (Some Exclusive) m n h = refl

strong_enough : (o : Option Mode) (m : Mode) → IsNoWeaker (Some (stronger_mode o m)) (Some m)
strong_enough None Shared = refl
strong_enough None Exclusive = refl
strong_enough (Some Shared) Shared = refl
strong_enough (Some Shared) Exclusive = refl
strong_enough (Some Exclusive) m = refl

kept_by : (t k : ℕ) (m : Mode) (o : Option Mode) (x : Happening) → ((c : ℕ) → x ≡ (Logs (Ended t), c) → ⊥) → IsNoWeaker o (Some m) → IsNoWeaker (lock_step t k o x) (Some m)
kept_by t k m o (GetsLock u j n, c) none h = by_lock ((u == t) && (j == k))
  where
    by_lock : (b : Bool) → IsNoWeaker (if b then Some (stronger_mode o n) else o) (Some m)
    by_lock true = stronger_yet o m n h
    by_lock false = h
kept_by t k m o (Logs (Ended u), c) none h = by_test (u == t) refl
  where
    by_test : (b : Bool) → (u == t) ≡ b → IsNoWeaker (if b then None else o) (Some m)
    by_test true e = absurd (none c (ap (λ n. (Logs (Ended n), c)) (equal u t e)))
    by_test false e = h
kept_by t k m o x none h = h

kept_lock : (t k : ℕ) (m : Mode) (xs : List Happening) (o : Option Mode) → NoneEnds t xs → IsNoWeaker o (Some m) → IsNoWeaker (fold (lock_step t k) o xs) (Some m)
kept_lock t k m [] o none h = h
kept_lock t k m (x ∷ xs) o none h = kept_lock t k m xs (lock_step t k o x) (λ i c e. none (suc i) c e) (kept_by t k m o x (λ c e. none 0 c (ap Some e)) h)

granted_now : (t k : ℕ) (m : Mode) (o : Option Mode) → IsNoWeaker (if (t == t) && (k == k) then Some (stronger_mode o m) else o) (Some m)
granted_now t k m o = rw (self t, self k) (strong_enough o m)

pub got_lock : (t k c : ℕ) (m : Mode) (xs : List Happening) (o : Option Mode) → NoneEnds t xs → HasGot xs c t k m → IsNoWeaker (fold (lock_step t k) o xs) (Some m)
got_lock t k c m [] o none (i, below, e) = absurd (omega (arith, below))
got_lock t k c m (x ∷ xs) o none (zero, below, e) =
    kept_lock t k m xs (lock_step t k o x) (λ i d h. none (suc i) d h) (subst (λ z. IsNoWeaker (lock_step t k o z) (Some m)) (sym e) (granted_now t k m o))
got_lock t k c m (x ∷ xs) o none (suc i, below, e) = got_lock t k c m xs (lock_step t k o x) (λ j d h. none (suc j) d h) (i, omega (arith, below), e)

-- ---- a transaction that is live or committed hasn't ended in the round
logged_there : (xs : List Happening) (i c : ℕ) (x : Record) → slice_get xs i ≡ Some (Logs x, c) → (j : ℕ) × (slice_get (logged_by xs) j ≡ Some x)
logged_there [] i c x e = absurd (cc)
logged_there (y ∷ ys) zero c x e = (0, ap (λ z. slice_get (logged_by (z ∷ ys)) 0) (some_same e))
logged_there ((Logs r, d) ∷ ys) (suc i) c x e = let rest = logged_there ys i c x e in (suc rest.0, rest.1)
logged_there (y ∷ ys) (suc i) c x e = logged_there ys i c x e

pub get_behind : {X : Type 0} (A B : List X) (j : ℕ) (x : X) → slice_get B j ≡ Some x → (n : ℕ) × (slice_get (A ++ B) n ≡ Some x)
get_behind [] B j x e = (j, e)
get_behind (a ∷ A) B j x e = let rest = get_behind A B j x e in (suc rest.0, rest.1)

pub none_ended : (bases : Bases) (before : List Record) (w : World) (p : Point) → StoreRun bases before no_image p → Tells w p → length before ≤ length w.before → (t : ℕ) → is_open (state_of p.core.system t) ≡ true → NoneEnds t w.happened
none_ended bases before w p run tells since t lives i c e =
    let at = logged_there w.happened i c (Ended t) e in
    let in_epoch = get_behind (last_epoch w.before).records (logged_by w.happened) at.0 (Ended t) at.1 in
    let there : slice_get (last_epoch p.log).records in_epoch.0 ≡ Some (Ended t) = ap (λ L. slice_get (last_epoch L).records in_epoch.0) tells.log ∙ (ap (λ h. slice_get h.records in_epoch.0) (last_epoch-append w.before (logged_by w.happened) none) ∙ in_epoch.1) in
    let over = ended_over p.core.system.sizes t p.log (runs.log.legal.txns t) in_epoch.0 there in
    let gone : row_of p.core.system t ≡ None = over_row (txn_state p.core.system.sizes t p.log) (row_of p.core.system t) (runs.table t) over in
    let no : false ≡ true = sym (ap (λ r. is_open (state_in r)) gone) ∙ lives in absurd (cc)
  where
    runs : RunsOn bases p.log p.core
    runs = runs_on_log bases before p run

    first_below : (last_epoch p.log).first ≤ length w.before
    first_below = let below = run.run.run.began in let same : (last_epoch p.log).first ≤ length before = subst (λ L. (last_epoch L).first ≤ length before) (sym run.run.log) below in omega (arith, same, since)

    none : list_any separates (logged_by w.happened) ≡ false
    none = ap (list_any separates) (sym (ap (drop (length w.before)) tells.log ∙ drop_front w.before (logged_by w.happened))) ∙ none_separates p.log (length w.before) first_below

-- ---- modes
pub weaker_shared : (o : Option Mode) (m n : Mode) → both_shared m (stronger_mode o n) ≡ true → both_shared m n ≡ true
weaker_shared o Shared Shared e = refl
weaker_shared None Shared Exclusive e = e
weaker_shared (Some Shared) Shared Exclusive e = e
weaker_shared (Some Exclusive) Shared Exclusive e = e
weaker_shared o Exclusive n e = absurd (cc)

-- the lock is there, and conflicts still
pub clashing : (o : Option Mode) (m n : Mode) → IsNoWeaker o (Some n) → both_shared m n ≡ false → (h : Mode) × (o ≡ Some h) × (both_shared m h ≡ false)
clashing o m n e clash = (stronger_mode o n, e, still o m n clash)
  where
    still : (o : Option Mode) (m n : Mode) → both_shared m n ≡ false → both_shared m (stronger_mode o n) ≡ false
    still None m n e = e
    still (Some Shared) m n e = e
    still (Some Exclusive) Shared n e = refl
    still (Some Exclusive) Exclusive n e = refl
