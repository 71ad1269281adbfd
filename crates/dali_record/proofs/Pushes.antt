-- What one more record at the end of a log does to each definition over logs.
use Rattle.std.proofs.Common.{◌≡◌, ℕ, zero, suc, ◌<◌, ◌≤◌, Bool, true, false, List, [], ◌∷◌, ◌++◌, length, Option, Some, None, refl, ap, sym, subst, ◌∙◌, ◌⊎◌, inl, inr, ⊎_elim, arith}
use Rattle.std.specs.Prelude.{IsSome, not}
use Rattle.std.specs.List.{AllByRecursion}
use Rattle.std.specs.Prelude.{◌==◌}
use Rattle.std.proofs.lemmas.List.{take-append-le, take_at, length-append}
use Rattle.std.proofs.lemmas.Bool.{cases_lt, or_parts}
use Rattle.std.proofs.lemmas.List.Sums.{fold_push}
use Rattle.std.proofs.lemmas.List.Elements.{filter_map-append}
use Rattle.dali_lists.proofs.Lists.{get_push}
use Rattle.dali_lists.proofs.Members.{all_push}
use Rattle.dali_geometry.specs.Sizes.{Sizes}
use Rattle.dali_record.specs.declared.records.Record.{Record}
use Rattle.dali_record.specs.declared.records.Record.TheVariants.{Format, Solo, AuditBegin, AuditClean, AuditFail, Restarted}
use Rattle.dali_record.specs.Log.{Touch, touch_of, touch_in, touch_at, undos_of, undo_step, committed, commit_by, calls_of, call_by}
pub use Rattle.dali_record.specs.Epochs.{separates}
use Rattle.dali_record.specs.Epochs.{Epoch, Cut, cut, cut_step, last_epoch, AllEpochs}
use Rattle.dali_record.specs.Locks.{conflicts, EndedBetween, IsLockLegalIn, IsLockLegal}
use Rattle.dali_record.specs.Damage.{Damage, marks, mark_step, mark_of, rolled_list, deleted_list}
use Rattle.dali_record.specs.Settled.{redo, redo_all, IsSoundAt, IsSoundIn, AreSound}
use Rattle.dali_record.specs.Legal.{TxnState, Unbegun, txn_state, txn_next, txn_step, concerns, Active, Committed, Over, rules_state, rules_next, rules_start, TellsScan, ReadsWords, IsLegalFor}
use Rattle.dali_record.proofs.Ends.{get_old, get_push_cases}

-- ---- what is a fold takes one step
pub undos_of_push : (t : ℕ) (L : List Record) (r : Record) → undos_of t (L ++ r ∷ []) ≡ undo_step t (undos_of t L) r
undos_of_push t L r = fold_push (undo_step t) [] L r

pub txn_state_push : (s : Sizes) (t : ℕ) (L : List Record) (r : Record) → txn_state s t (L ++ r ∷ []) ≡ txn_next s t (txn_state s t L) r
txn_state_push s t L r = fold_push (txn_next s t) (Some Unbegun) L r

pub rules_state_push : (s : Sizes) (L : List Record) (r : Record) → rules_state s (L ++ r ∷ []) ≡ rules_next s (rules_state s L) r
rules_state_push s L r = fold_push (rules_next s) (Some rules_start) L r

pub cut_push : (L : List Record) (r : Record) → cut (L ++ r ∷ []) ≡ cut_step (cut L) r
cut_push L r = fold_push cut_step _ L r

pub none_now : (Y : List Record) (r : Record) → separates r ≡ true → (last_epoch (Y ++ r ∷ [])).records ≡ []
none_now Y (Format i j) e = ap (λ (c : Cut). c.now.records) (cut_push Y (Format i j))
none_now Y (Restarted rs ds) e = ap (λ (c : Cut). c.now.records) (cut_push Y (Restarted rs ds))
none_now Y _ e = absurd (cc)

pub redo_all_push : (base : List (List ℕ)) (L : List Record) (r : Record) → redo_all base (L ++ r ∷ []) ≡ redo (redo_all base L) r
redo_all_push base L r = fold_push redo base L r

pub marks_push : (d : Damage) (E : List Record) (r : Record) → marks d (E ++ r ∷ []) ≡ marks d E ++ (r, mark_of d (marks d E) r) ∷ []
marks_push d E r = fold_push (mark_step d) [] E r

pub committed_push : (L : List Record) (r : Record) → committed (L ++ r ∷ []) ≡ committed L ++ committed (r ∷ [])
committed_push L r = filter_map-append commit_by L (r ∷ [])

pub calls_of_push : (t : ℕ) (L : List Record) (r : Record) → calls_of t (L ++ r ∷ []) ≡ calls_of t L ++ calls_of t (r ∷ [])
calls_of_push t L r = filter_map-append (call_by t) L (r ∷ [])

-- ---- the block at a place
pub touch_old : (E : List Record) (r : Record) (i : ℕ) → i < length E → touch_at (E ++ r ∷ []) i ≡ touch_at E i
touch_old E r i h = ap touch_in (get_old E r i h)

pub touch_new : (E : List Record) (r : Record) → touch_at (E ++ r ∷ []) (length E) ≡ touch_of r
touch_new E r = ap touch_in (get_push E r)

pub touch_push_cases : (E : List Record) (r : Record) (j : ℕ) (b : Touch) → touch_at (E ++ r ∷ []) j ≡ Some b → ((j < length E) × (touch_at E j ≡ Some b)) ⊎ ((j ≡ length E) × (touch_of r ≡ Some b))
touch_push_cases [] r zero b e = inr (refl, e)
touch_push_cases [] r (suc j) b e = absurd (cc)
touch_push_cases (z ∷ E) r zero b e = inl (omega arith, e)
touch_push_cases (z ∷ E) r (suc j) b e = ⊎_elim (λ p. inl (omega (arith, p.0), p.1)) (λ p. inr (ap suc p.0, p.1)) (touch_push_cases E r j b e)

pub touch_within : (E : List Record) (i : ℕ) (a : Touch) → touch_at E i ≡ Some a → i < length E
touch_within [] i a e = absurd (cc)
touch_within (z ∷ E) zero a e = omega arith
touch_within (z ∷ E) (suc i) a e = omega (arith, touch_within E i a e)

-- ---- locks
pub EndedBetween-push : (t i j : ℕ) (E : List Record) (r : Record) → j ≤ length E → EndedBetween t i j E → EndedBetween t i j (E ++ r ∷ [])
EndedBetween-push t i j E r h w = (w.0, w.1, w.2, get_old E r w.0 (omega (arith, w.2)) ∙ w.3)

pub IsLockLegalIn-push :
    (E : List Record) (r : Record)
    → IsLockLegalIn E
    → ((i : ℕ) (a b : Touch) → touch_at E i ≡ Some a → touch_of r ≡ Some b → conflicts a b ≡ true → EndedBetween a.owner i (length E) E)
    → IsLockLegalIn (E ++ r ∷ [])
IsLockLegalIn-push E r legal here i j a b lt p q c =
    ⊎_elim
    (λ old. EndedBetween-push a.owner i j E r (omega (arith, old.0)) (legal i j a b lt (sym (touch_old E r i (omega (arith, lt, old.0))) ∙ p) old.1 c))
    (λ new.
    let within : i < length E = omega (arith, lt, new.0) in
    let w : EndedBetween a.owner i (length E) E = here i a b (sym (touch_old E r i within) ∙ p) new.1 c in
    subst (λ k. EndedBetween a.owner i k (E ++ r ∷ [])) (sym new.0) (EndedBetween-push a.owner i (length E) E r (omega arith) w))
    (touch_push_cases E r j b q)

-- ---- soundness
pub IsSoundAt-old : (base : List (List ℕ)) (E : List Record) (r : Record) (i : ℕ) → i < length E → IsSoundAt base E i → IsSoundAt base (E ++ r ∷ []) i
IsSoundAt-old base E r i h w =
    rw (touch_old E r i h, take-append-le i E (r ∷ []) (omega arith)) w

pub IsSoundAt-new : (base : List (List ℕ)) (E : List Record) (r : Record) → IsSoundIn (redo_all base E) r → IsSoundAt base (E ++ r ∷ []) (length E)
IsSoundAt-new base E r w = rw (touch_new E r, take_at E (r ∷ []) (length E) refl) w

pub AreSound-push : (base : List (List ℕ)) (E : List Record) (r : Record) → AreSound base E → IsSoundIn (redo_all base E) r → AreSound base (E ++ r ∷ [])
AreSound-push base E r sound here i h =
    ⊎_elim
    (λ old. IsSoundAt-old base E r i old (sound i old))
    (λ past. let at : i ≡ length E = omega (arith, past, h, length-append E (r ∷ [])) in subst (λ k. IsSoundAt base (E ++ r ∷ []) k) (sym at) (IsSoundAt-new base E r here))
    (cases_lt i (length E))

-- ---- the rules
pub TellsScan-push :
    (L : List Record) (r : Record)
    → TellsScan L
    → ((rs ds : List ℕ) → r ≡ Restarted rs ds → (rs ≡ rolled_list (last_epoch L)) × (ds ≡ deleted_list (last_epoch L)))
    → TellsScan (L ++ r ∷ [])
TellsScan-push L r tells here n rs ds e =
    ⊎_elim
    (λ old. rw (take-append-le n L (r ∷ []) (omega (arith, old.0))) (tells n rs ds old.1))
    (λ new. rw (new.0, take_at L (r ∷ []) (length L) refl) (here rs ds new.1))
    (get_push_cases L r n (Restarted rs ds) e)

-- a record that doesn't concern t leaves its state
pub txn_step-other : (s : Sizes) (t : ℕ) (x : TxnState) (r : Record) → concerns t r ≡ false → txn_step s t x r ≡ Some x
txn_step-other s t Unbegun (Format i h) e = refl
txn_step-other s t Unbegun (Solo u p b) e = let f = or_parts (u == t) (p == t) e in rw (f.0, f.1) refl
txn_step-other s t Unbegun AuditBegin e = refl
txn_step-other s t Unbegun (AuditClean b) e = refl
txn_step-other s t Unbegun (AuditFail b rs) e = refl
txn_step-other s t Unbegun (Restarted rs ds) e = refl
txn_step-other s t Unbegun _ e = rw e refl
txn_step-other s t (Active w) (Format i h) e = refl
txn_step-other s t (Active w) (Solo u p b) e = let f = or_parts (u == t) (p == t) e in rw (f.0, f.1) refl
txn_step-other s t (Active w) AuditBegin e = refl
txn_step-other s t (Active w) (AuditClean b) e = refl
txn_step-other s t (Active w) (AuditFail b rs) e = refl
txn_step-other s t (Active w) (Restarted rs ds) e = absurd (cc)
txn_step-other s t (Active w) _ e = rw e refl
txn_step-other s t (Committed ps) (Format i h) e = refl
txn_step-other s t (Committed ps) (Solo u p b) e = let f = or_parts (u == t) (p == t) e in rw (f.0, f.1) refl
txn_step-other s t (Committed ps) AuditBegin e = refl
txn_step-other s t (Committed ps) (AuditClean b) e = refl
txn_step-other s t (Committed ps) (AuditFail b rs) e = refl
txn_step-other s t (Committed ps) (Restarted rs ds) e = absurd (cc)
txn_step-other s t (Committed ps) _ e = rw e refl
txn_step-other s t Over (Format i h) e = refl
txn_step-other s t Over (Solo u p b) e = let f = or_parts (u == t) (p == t) e in rw (f.0, f.1) refl
txn_step-other s t Over AuditBegin e = refl
txn_step-other s t Over (AuditClean b) e = refl
txn_step-other s t Over (AuditFail b rs) e = refl
txn_step-other s t Over (Restarted rs ds) e = refl
txn_step-other s t Over _ e = rw e refl

txn_next-other : (s : Sizes) (t : ℕ) (o : Option TxnState) (r : Record) → concerns t r ≡ false → IsSome o → IsSome (txn_next s t o r)
txn_next-other s t None r e h = h
txn_next-other s t (Some x) r e h = rw (txn_step-other s t x r e) refl

pub txn_next-same : (s : Sizes) (t : ℕ) (o : Option TxnState) (r : Record) → concerns t r ≡ false → IsSome o → txn_next s t o r ≡ o
txn_next-same s t None r e h = absurd (cc)
txn_next-same s t (Some x) r e h = txn_step-other s t x r e

-- a record leaves the transactions that it doesn't concern
pub state_stays : (s : Sizes) (t : ℕ) (L : List Record) (r : Record) → concerns t r ≡ false → IsSome (txn_state s t L) → txn_state s t (L ++ r ∷ []) ≡ txn_state s t L
state_stays s t L r e h = txn_state_push s t L r ∙ txn_next-same s t (txn_state s t L) r e h

pub ReadsWords-push : (L : List Record) (r : Record) → ReadsWords L → ((a : Touch) → touch_of r ≡ Some a → not (a.block.read == 0) ≡ true) → ReadsWords (L ++ r ∷ [])
ReadsWords-push L r reads here i a e = ⊎_elim (λ old. reads i a old.1) (λ new. here a new.1) (touch_push_cases L r i a e)

-- the rules hold of one more record, where they do of the log, and the record is allowed to those transactions that it concerns
pub IsLegalFor-push :
    (s : Sizes) (L : List Record) (r : Record)
    → IsLegalFor s L
    → IsSome (rules_next s (rules_state s L) r)
    → ((t : ℕ) → concerns t r ≡ true → IsSome (txn_next s t (txn_state s t L) r))
    → ((rs ds : List ℕ) → r ≡ Restarted rs ds → (rs ≡ rolled_list (last_epoch L)) × (ds ≡ deleted_list (last_epoch L)))
    → ((a : Touch) → touch_of r ≡ Some a → not (a.block.read == 0) ≡ true)
    → IsLegalFor s (L ++ r ∷ [])
IsLegalFor-push s L r legal rule step scan reads = record {
  rules = rw (rules_state_push s L r) rule;
  txns = λ t. rw (txn_state_push s t L r) (by_concern t (concerns t r) refl);
  scans = TellsScan-push L r legal.scans scan;
  reads = ReadsWords-push L r legal.reads reads;
}
  where
    by_concern : (t : ℕ) (b : Bool) → concerns t r ≡ b → IsSome (txn_next s t (txn_state s t L) r)
    by_concern t true e = step t e
    by_concern t false e = txn_next-other s t (txn_state s t L) r e (legal.txns t)

-- ---- what holds of each epoch

AllCut : (Epoch → Type 0) → Cut → Type 0
AllCut P c = AllByRecursion P c.closed × P c.now

cut_step_all : (P : Epoch → Type 0) → ((f : ℕ) → P (record { first = f; records = [] })) → (c : Cut) (r : Record) → AllCut P c → (separates r ≡ false → P (record { first = c.now.first; records = c.now.records ++ r ∷ [] })) → AllCut P (cut_step c r)
unfolding AllCut
cut_step_all P fresh c (Format i h) all more = (all.0, fresh _)
cut_step_all P fresh c (Restarted rs ds) all more = (all_push P c.closed c.now all.0 all.1, fresh _)
cut_step_all P fresh c _ all more = (all.0, more refl)

pub AllEpochs-push :
    (P : Epoch → Type 0) → ((f : ℕ) → P (record { first = f; records = [] }))
    → (L : List Record) (r : Record) → AllEpochs P L
    → (separates r ≡ false → P (record { first = (last_epoch L).first; records = (last_epoch L).records ++ r ∷ [] }))
    → AllEpochs P (L ++ r ∷ [])
unfolding AllCut
AllEpochs-push P fresh L r all more = let stepped : AllCut P (cut_step (cut L) r) = cut_step_all P fresh (cut L) r all more in subst (AllCut P) (sym (cut_push L r)) stepped

-- a log stays lock-legal with a record that conflicts with no block whose owner is still running
pub IsLockLegal-push :
    (L : List Record) (r : Record) → IsLockLegal L
    → ((i : ℕ) (a b : Touch) → touch_at (last_epoch L).records i ≡ Some a → touch_of r ≡ Some b → conflicts a b ≡ true → EndedBetween a.owner i (length (last_epoch L).records) (last_epoch L).records)
    → IsLockLegal (L ++ r ∷ [])
IsLockLegal-push L r legal here =
    AllEpochs-push (λ e. IsLockLegalIn e.records) (λ f i j a b lt p q c. absurd (cc)) L r legal (λ e. IsLockLegalIn-push (last_epoch L).records r legal.1 here)
