-- What is known of each transaction holds along the list.
use Rattle.std.proofs.Common.{◌≡◌, ℕ, ◌+◌, ◌<◌, ◌≤◌, Bool, true, false, not, List, [], ◌∷◌, ◌++◌, length, Option, Some, None, refl, ap, sym, subst, ◌∙◌, ◌⊎◌, inl, inr, ⊎_elim, ◌≢◌, arith, append-nil}
use Rattle.std.specs.Prelude.{◌==◌, ◌&&◌, ◌||◌, if◌then◌else◌, nat_lt}
use Rattle.std.proofs.lemmas.List.{length-append}
use Rattle.std.proofs.lemmas.List.Folds.{list_any-append}
use Rattle.std.proofs.lemmas.Bool.Decides.{eqb_tells, nat_tests}
use Rattle.std.proofs.lemmas.Bool.{eqb-false, eq-eqb}
use mathlib.Core.Bool.{or-false}
use Rattle.dali_geometry.specs.Sizes.{Sizes}
use Rattle.dali_record.specs.declared.operations.Pending.{Pending}
use Rattle.dali_record.specs.declared.operations.Block.{Block}
use Rattle.dali_record.specs.declared.records.Record.{Record}
use Rattle.dali_record.specs.declared.records.Record.TheVariants.{Format, Begin, Forward, Done, Commit, Ended, Solo, AuditBegin, AuditClean, AuditFail, Restarted, Back}
use Rattle.dali_record.specs.Operations.{undo_op}
use Rattle.dali_record.specs.Log.{undos_of, undo_step, committed, calls_of, last_of, drop_last}
use Rattle.dali_record.specs.Damage.{has}
use Rattle.dali_record.specs.Calls.{Fresh}
use Rattle.dali_record.specs.Legal.{Working, Onward, TakingBack, Unwinding, TxnState, Unbegun, Active, Over, allowed, forward, back, is_of, is_answer, is_level, is_none_left, dead_of, way_back, Committed as IsOver}
use Rattle.dali_record.proofs.Ends.{get_push_cases}
use Rattle.dali_record.proofs.Pushes.{undos_of_push, committed_push, calls_of_push}
use Rattle.dali_record.proofs.Moves.{none_left}
use Rattle.dali_history.specs.Kept.Kept.{kept_step, freed_later}
use Rattle.dali_history.proofs.SlotsLemmas.AnswersAndBacks.{last_split}
use Rattle.dali_history.proofs.KeptLemmas.WithoutLast.{left, HasEnded}
use Rattle.dali_history.proofs.KeptLemmas.Invariant.{FitsWay, Knows}
use Rattle.dali_history.proofs.KeptLemmas.OperationsKeep.{Forwards, forward_is, fits_still, onward_still}

-- a record of t itself
abbrev own_of : ℕ → Record → Bool
own_of t (Forward u b) = u == t
own_of t (Back u b) = u == t
own_of t (Done u c a) = u == t
own_of t (Commit u) = u == t
own_of t (Ended u) = u == t
own_of t _ = false

abbrev Same : ℕ → List Record → Record → Type 0
Same t J r = (undos_of t (J ++ r ∷ []) ≡ undos_of t J) × (has (committed (J ++ r ∷ [])) t ≡ has (committed J) t) × (calls_of t (J ++ r ∷ []) ≡ calls_of t J) × (HasEnded t (J ++ r ∷ []) → HasEnded t J)

pub committed_has : (t : ℕ) (J : List Record) (r : Record) → has (committed (J ++ r ∷ [])) t ≡ (has (committed J) t || has (committed (r ∷ [])) t)
committed_has t J r = ap (λ ts. has ts t) (committed_push J r) ∙ list_any-append (λ x. x == t) (committed J) (committed (r ∷ []))

ended_push : (t : ℕ) (J : List Record) (r : Record) → HasEnded t (J ++ r ∷ []) → HasEnded t J ⊎ (r ≡ Ended t)
ended_push t J r h = ⊎_elim (λ a. inl (h.0, a.1)) (λ a. inr a.1) (get_push_cases J r h.0 (Ended t) h.1)

same_from : (t : ℕ) (J : List Record) (r : Record) → undo_step t (undos_of t J) r ≡ undos_of t J → has (committed (r ∷ [])) t ≡ false → calls_of t (r ∷ []) ≡ [] → (r ≢ Ended t) → Same t J r
same_from t J r undos commits calls ended =
    (undos_of_push t J r ∙ undos, committed_has t J r ∙ ap (λ b. has (committed J) t || b) commits ∙ or-false (has (committed J) t), calls_of_push t J r ∙ ap (λ cs. calls_of t J ++ cs) calls ∙ append-nil (calls_of t J), λ h. ⊎_elim (λ a. a) (λ a. absurd (ended a)) (ended_push t J r h))

same_for : (t : ℕ) (J : List Record) (r : Record) → own_of t r ≡ false → Same t J r
same_for t J (Format i h) e = same_from t J (Format i h) refl refl refl (λ x. cc (x))
same_for t J (Begin u) e = same_from t J (Begin u) refl refl refl (λ x. cc (x))
same_for t J (Forward u b) e = same_from t J (Forward u b) (rw e refl) refl refl (λ x. cc (x))
same_for t J (Done u c a) e = same_from t J (Done u c a) refl refl (rw e refl) (λ x. cc (x))
same_for t J (Commit u) e = same_from t J (Commit u) refl (rw e refl) refl (λ x. cc (x))
same_for t J (Ended u) e = same_from t J (Ended u) refl refl refl (λ x. let same : u ≡ t = cc (x) in eqb-false u t e same)
same_for t J (Solo u p b) e = same_from t J (Solo u p b) refl refl refl (λ x. cc (x))
same_for t J AuditBegin e = same_from t J AuditBegin refl refl refl (λ x. cc (x))
same_for t J (AuditClean b) e = same_from t J (AuditClean b) refl refl refl (λ x. cc (x))
same_for t J (AuditFail b rs) e = same_from t J (AuditFail b rs) refl refl refl (λ x. cc (x))
same_for t J (Restarted rs ds) e = same_from t J (Restarted rs ds) refl refl refl (λ x. cc (x))
same_for t J (Back u b) e = same_from t J (Back u b) (rw e refl) refl refl (λ x. cc (x))

keep : (t : ℕ) (J : List Record) (r : Record) (x : TxnState) → Same t J r → Knows t J (Some x) → Knows t (J ++ r ∷ []) (Some x)
keep t J r Unbegun m k = (m.0 ∙ k.0, m.1 ∙ k.1, m.2 ∙ k.2, λ h. k.3 (m.3 h))
keep t J r (Active w) m k = (m.0 ∙ k.0, m.1 ∙ k.1, (λ h. k.2 (m.3 h)), k.3)
keep t J r (IsOver ps) m k = (m.1 ∙ k.0, λ h. k.1 (m.3 h))
keep t J r Over m k = λ h. let undos = m.0 in let commits = m.1 in rw (commits, undos) (k (m.3 h))

-- ---- tests
pub not_allowed : (c : Bool) (x y : TxnState) → allowed (not c) (Some x) ≡ Some y → (c ≡ false) × (x ≡ y)
not_allowed true x y h = absurd (cc (h))
not_allowed false x y h = (refl, cc (h))

pub is_allowed : (c : Bool) (x y : TxnState) → allowed c (Some x) ≡ Some y → (c ≡ true) × (x ≡ y)
is_allowed true x y h = (refl, cc (h))
is_allowed false x y h = absurd (cc (h))

-- a record that is refused to t, or leaves it
stays : (t : ℕ) (J : List Record) (r : Record) (c : Bool) (x y : TxnState) → (c ≡ false → own_of t r ≡ false) → Knows t J (Some x) → allowed (not c) (Some x) ≡ Some y → Knows t (J ++ r ∷ []) (Some y)
stays t J r c x y own k e = let z = not_allowed c x y e in subst (λ v. Knows t (J ++ r ∷ []) (Some v)) z.1 (keep t J r x (same_for t J r (own z.0)) k)

still : (t : ℕ) (J : List Record) (r : Record) (x y : TxnState) → own_of t r ≡ false → Knows t J (Some x) → Some x ≡ Some y → Knows t (J ++ r ∷ []) (Some y)
still t J r x y own k e = let z : x ≡ y = cc (e) in subst (λ v. Knows t (J ++ r ∷ []) (Some v)) z (keep t J r x (same_for t J r own) k)

-- one that isn't of t, for a transaction that takes it
either_own : (t u : ℕ) (J : List Record) (r : Record) (o : Option TxnState) (x y : TxnState) → ((u == t) ≡ false → own_of t r ≡ false) → Knows t J (Some x) → (if u == t then o else Some x) ≡ Some y → (u ≡ t → o ≡ Some y → Knows t (J ++ r ∷ []) (Some y)) → Knows t (J ++ r ∷ []) (Some y)
either_own t u J r o x y own k e f = go (eqb_tells u t)
  where
    go : (((u == t) ≡ true) × (u ≡ t)) ⊎ (((u == t) ≡ false) × (u ≢ t)) → Knows t (J ++ r ∷ []) (Some y)
    go (inl a) = f a.1 (rw (a.0) at e)
    go (inr a) = still t J r x y (own a.0) k (rw (a.0) at e)

-- ---- a transaction with no record yet
knows_unbegun : (s : Sizes) (t : ℕ) (J : List Record) (r : Record) (y : TxnState) → Knows t J (Some Unbegun) → kept_step s t Unbegun r ≡ Some y → Knows t (J ++ r ∷ []) (Some y)
knows_unbegun s t J (Format i h) y k e = still t J (Format i h) Unbegun y refl k e
knows_unbegun s t J (Begin u) y k e = go (u == t) e
  where
    m : Same t J (Begin u)
    m = same_for t J (Begin u) refl

    go : (c : Bool) → Some (if c then Active (record { undos = []; mark = 0; progress = Fresh; way = Onward }) else Unbegun) ≡ Some y → Knows t (J ++ Begin u ∷ []) (Some y)
    go true g = let z : Active (record { undos = []; mark = 0; progress = Fresh; way = Onward }) ≡ y = cc (g) in subst (λ v. Knows t (J ++ Begin u ∷ []) (Some v)) z (m.0 ∙ k.0, m.1 ∙ k.1, (λ h. k.3 (m.3 h)), omega arith)
    go false g = still t J (Begin u) Unbegun y refl k g
knows_unbegun s t J (Forward u b) y k e = stays t J (Forward u b) (u == t) Unbegun y (λ z. z) k e
knows_unbegun s t J (Done u c a) y k e = stays t J (Done u c a) (u == t) Unbegun y (λ z. z) k e
knows_unbegun s t J (Commit u) y k e = stays t J (Commit u) (u == t) Unbegun y (λ z. z) k e
knows_unbegun s t J (Ended u) y k e = stays t J (Ended u) (u == t) Unbegun y (λ z. z) k e
knows_unbegun s t J (Solo u p b) y k e = go (u == t) e
  where
    m : Same t J (Solo u p b)
    m = same_for t J (Solo u p b) refl

    go : (c : Bool) → (if c then allowed (not (p == t)) (Some Over) else allowed (not (p == t)) (Some Unbegun)) ≡ Some y → Knows t (J ++ Solo u p b ∷ []) (Some y)
    go true g = let z = not_allowed (p == t) Over y g in subst (λ v. Knows t (J ++ Solo u p b ∷ []) (Some v)) z.1 (λ h. absurd (k.3 (m.3 h)))
    go false g = stays t J (Solo u p b) (p == t) Unbegun y (λ z. refl) k g
knows_unbegun s t J AuditBegin y k e = still t J AuditBegin Unbegun y refl k e
knows_unbegun s t J (AuditClean b) y k e = still t J (AuditClean b) Unbegun y refl k e
knows_unbegun s t J (AuditFail b rs) y k e = still t J (AuditFail b rs) Unbegun y refl k e
knows_unbegun s t J (Restarted rs ds) y k e = still t J (Restarted rs ds) Unbegun y refl k e
knows_unbegun s t J (Back u b) y k e = stays t J (Back u b) (u == t) Unbegun y (λ z. z) k e

-- ---- one that is over
knows_over : (s : Sizes) (t : ℕ) (J : List Record) (r : Record) (y : TxnState) → Knows t J (Some Over) → kept_step s t Over r ≡ Some y → Knows t (J ++ r ∷ []) (Some y)
knows_over s t J (Format i h) y k e = still t J (Format i h) Over y refl k e
knows_over s t J (Begin u) y k e = stays t J (Begin u) (u == t) Over y (λ z. refl) k e
knows_over s t J (Forward u b) y k e = stays t J (Forward u b) (u == t) Over y (λ z. z) k e
knows_over s t J (Done u c a) y k e = stays t J (Done u c a) (u == t) Over y (λ z. z) k e
knows_over s t J (Commit u) y k e = stays t J (Commit u) (u == t) Over y (λ z. z) k e
knows_over s t J (Ended u) y k e = stays t J (Ended u) (u == t) Over y (λ z. z) k e
knows_over s t J (Solo u p b) y k e = let z = is_allowed (not (u == t) && not (p == t)) Over y e in subst (λ v. Knows t (J ++ Solo u p b ∷ []) (Some v)) z.1 (keep t J (Solo u p b) Over (same_for t J (Solo u p b) refl) k)
knows_over s t J AuditBegin y k e = still t J AuditBegin Over y refl k e
knows_over s t J (AuditClean b) y k e = still t J (AuditClean b) Over y refl k e
knows_over s t J (AuditFail b rs) y k e = still t J (AuditFail b rs) Over y refl k e
knows_over s t J (Restarted rs ds) y k e = still t J (Restarted rs ds) Over y refl k e
knows_over s t J (Back u b) y k e = stays t J (Back u b) (u == t) Over y (λ z. z) k e

-- ---- one that is committed
pub freed_is : (b : Block) (ps : List Pending) (y : TxnState) → freed_later b ps ≡ Some y → (qs : List Pending) × (y ≡ IsOver qs)
freed_is b [] y e = absurd (cc (e))
freed_is b (p ∷ ps) y e = go (is_of (Rattle.dali_record.specs.Legal.freeing_op p.undo) p b) e (freed_is b ps y)
  where
    go : (c : Bool) → (if c then Some (IsOver ps) else freed_later b ps) ≡ Some y → (freed_later b ps ≡ Some y → (qs : List Pending) × (y ≡ IsOver qs)) → (qs : List Pending) × (y ≡ IsOver qs)
    go true g ih = (ps, cc (g))
    go false g ih = ih g

knows_committed : (s : Sizes) (t : ℕ) (J : List Record) (ps : List Pending) (r : Record) (y : TxnState) → Knows t J (Some (IsOver ps)) → kept_step s t (IsOver ps) r ≡ Some y → Knows t (J ++ r ∷ []) (Some y)
knows_committed s t J ps (Format i h) y k e = still t J (Format i h) (IsOver ps) y refl k e
knows_committed s t J ps (Begin u) y k e = stays t J (Begin u) (u == t) (IsOver ps) y (λ z. refl) k e
knows_committed s t J ps (Forward u b) y k e = stays t J (Forward u b) (u == t) (IsOver ps) y (λ z. z) k e
knows_committed s t J ps (Done u c a) y k e = stays t J (Done u c a) (u == t) (IsOver ps) y (λ z. z) k e
knows_committed s t J ps (Commit u) y k e = stays t J (Commit u) (u == t) (IsOver ps) y (λ z. z) k e
knows_committed s t J ps (Ended u) y k e = either_own t u J (Ended u) (Some Over) (IsOver ps) y (λ z. z) k e (λ on g. let z : Over ≡ y = cc (g) in subst (λ v. Knows t (J ++ Ended u ∷ []) (Some v)) z (λ h. left_nil))
  where
    left_nil : left t (J ++ Ended u ∷ []) ≡ []
    left_nil = let commits : has (committed (J ++ Ended u ∷ [])) t ≡ true = committed_has t J (Ended u) ∙ or-false (has (committed J) t) ∙ k.0 in rw commits refl
knows_committed s t J ps (Solo u p b) y k e = go (not (u == t)) (p == t) e
  where
    m : Same t J (Solo u p b)
    m = same_for t J (Solo u p b) refl

    go : (c d : Bool) → allowed c (if d then freed_later b ps else Some (IsOver ps)) ≡ Some y → Knows t (J ++ Solo u p b ∷ []) (Some y)
    go true true g = let z = freed_is b ps y g in subst (λ v. Knows t (J ++ Solo u p b ∷ []) (Some v)) (sym z.1) (m.1 ∙ k.0, λ h. k.1 (m.3 h))
    go true false g = still t J (Solo u p b) (IsOver ps) y refl k g
    go false d g = absurd (cc (g))
knows_committed s t J ps AuditBegin y k e = still t J AuditBegin (IsOver ps) y refl k e
knows_committed s t J ps (AuditClean b) y k e = still t J (AuditClean b) (IsOver ps) y refl k e
knows_committed s t J ps (AuditFail b rs) y k e = still t J (AuditFail b rs) (IsOver ps) y refl k e
knows_committed s t J ps (Restarted rs ds) y k e = let z : Over ≡ y = cc (e) in subst (λ v. Knows t (J ++ Restarted rs ds ∷ []) (Some v)) z (λ h. absurd (k.1 ((same_for t J (Restarted rs ds) refl).3 h)))
knows_committed s t J ps (Back u b) y k e = stays t J (Back u b) (u == t) (IsOver ps) y (λ z. z) k e

-- ---- one that runs
-- what the step of a running transaction's own record is
pub back_is : (w : Working) (b : Block) (o : Option Pending) (y : TxnState) → back w b o ≡ Some y → (p : Pending) × (o ≡ Some p) × (is_of (undo_op p.undo) p b ≡ true) × (Active (record { undos = drop_last w.undos; mark = w.mark; progress = w.progress; way = way_back w }) ≡ y)
back_is w b None y e = absurd (cc (e))
back_is w b (Some p) y e = let z = is_allowed (is_of (undo_op p.undo) p b) (Active (record { undos = drop_last w.undos; mark = w.mark; progress = w.progress; way = way_back w })) y e in (p, refl, z.0, z.1)

fits_back : (w : Working) (p : Pending) → last_of w.undos ≡ Some p → FitsWay w w.way → FitsWay (record { undos = drop_last w.undos; mark = w.mark; progress = w.progress; way = way_back w }) (way_back w)
fits_back w p last fits = go (nat_lt w.mark (length w.undos)) refl
  where
    long : length w.undos ≡ length (drop_last w.undos) + 1
    long = ap length (last_split w.undos p last) ∙ length-append (drop_last w.undos) (p ∷ [])

    less : (m n : ℕ) → nat_lt m n ≡ true → m < n
    less m n z = grind (arith, nat_tests)

    more : (m n : ℕ) → nat_lt m n ≡ false → n ≤ m
    more m n z = grind (arith, nat_tests)

    go : (c : Bool) → nat_lt w.mark (length w.undos) ≡ c → FitsWay (record { undos = drop_last w.undos; mark = w.mark; progress = w.progress; way = way_back w }) (if nat_lt w.mark (length w.undos) then TakingBack else Unwinding)
    go true e = rw e (let l = less w.mark (length w.undos) e in omega (arith, l, long))
    go false e = rw e (let l = more w.mark (length w.undos) e in omega (arith, l, long))

knows_active : (s : Sizes) (t : ℕ) (J : List Record) (w : Working) (r : Record) (y : TxnState) → Knows t J (Some (Active w)) → kept_step s t (Active w) r ≡ Some y → Knows t (J ++ r ∷ []) (Some y)
knows_active s t J w (Format i h) y k e = still t J (Format i h) (Active w) y refl k e
knows_active s t J w (Begin u) y k e = stays t J (Begin u) (u == t) (Active w) y (λ z. refl) k e
knows_active s t J w (Forward u b) y k e = either_own t u J (Forward u b) (forward s t w b) (Active w) y (λ z. z) k e own
  where
    own : u ≡ t → forward s t w b ≡ Some y → Knows t (J ++ Forward u b ∷ []) (Some y)
    own on g = go (forward_is s t w b y g)
      where
        undos : undos_of t (J ++ Forward u b ∷ []) ≡ w.undos ++ Rattle.dali_record.specs.Log.undo_added b b.undo
        undos = undos_of_push t J (Forward u b) ∙ rw (eq-eqb u t on) (ap (λ us. us ++ Rattle.dali_record.specs.Log.undo_added b b.undo) k.0)

        commits : has (committed (J ++ Forward u b ∷ [])) t ≡ false
        commits = committed_has t J (Forward u b) ∙ or-false (has (committed J) t) ∙ k.1

        ended : HasEnded t (J ++ Forward u b ∷ []) → ⊥
        ended h = ⊎_elim k.2 (λ z. cc (z)) (ended_push t J (Forward u b) h)

        go : Forwards s t w b y → Knows t (J ++ Forward u b ∷ []) (Some y)
        go (p, inl h) = subst (λ v. Knows t (J ++ Forward u b ∷ []) (Some v)) (sym h.2) (undos, commits, ended, let l = fits_still w w.way (onward_still w.way h.0) k.3 in omega (arith, l, length-append w.undos (Rattle.dali_record.specs.Log.undo_added b b.undo)))
        go (p, inr h) = subst (λ v. Knows t (J ++ Forward u b ∷ []) (Some v)) (sym h.2) (undos, commits, ended, omega (arith, length-append w.undos (Rattle.dali_record.specs.Log.undo_added b b.undo)))
knows_active s t J w (Done u c a) y k e = either_own t u J (Done u c a) (allowed (is_answer s w c a) (Some (Active (record { undos = w.undos; mark = length w.undos; progress = Fresh; way = Onward })))) (Active w) y (λ z. z) k e own
  where
    own : u ≡ t → allowed (is_answer s w c a) (Some (Active (record { undos = w.undos; mark = length w.undos; progress = Fresh; way = Onward }))) ≡ Some y → Knows t (J ++ Done u c a ∷ []) (Some y)
    own on g =
        let z = is_allowed (is_answer s w c a) (Active (record { undos = w.undos; mark = length w.undos; progress = Fresh; way = Onward })) y g in
        subst (λ v. Knows t (J ++ Done u c a ∷ []) (Some v)) z.1
        (undos_of_push t J (Done u c a) ∙ k.0, committed_has t J (Done u c a) ∙ or-false (has (committed J) t) ∙ k.1, (λ h. ⊎_elim k.2 (λ i. cc (i)) (ended_push t J (Done u c a) h)), omega arith)
knows_active s t J w (Commit u) y k e = either_own t u J (Commit u) (allowed (is_level w) (Some (IsOver (dead_of w.undos)))) (Active w) y (λ z. z) k e own
  where
    own : u ≡ t → allowed (is_level w) (Some (IsOver (dead_of w.undos))) ≡ Some y → Knows t (J ++ Commit u ∷ []) (Some y)
    own on g =
        let z = is_allowed (is_level w) (IsOver (dead_of w.undos)) y g in
        let one : has (committed (Commit u ∷ [])) t ≡ true = rw (eq-eqb u t on) refl in
        subst (λ v. Knows t (J ++ Commit u ∷ []) (Some v)) z.1
        (committed_has t J (Commit u) ∙ ap (λ b. b || has (committed (Commit u ∷ [])) t) k.1 ∙ one, λ h. ⊎_elim k.2 (λ i. cc (i)) (ended_push t J (Commit u) h))
knows_active s t J w (Ended u) y k e = either_own t u J (Ended u) (allowed (is_none_left w.undos) (Some Over)) (Active w) y (λ z. z) k e own
  where
    own : u ≡ t → allowed (is_none_left w.undos) (Some Over) ≡ Some y → Knows t (J ++ Ended u ∷ []) (Some y)
    own on g =
        let z = is_allowed (is_none_left w.undos) Over y g in
        let undos : undos_of t (J ++ Ended u ∷ []) ≡ [] = undos_of_push t J (Ended u) ∙ k.0 ∙ none_left w.undos z.0 in
        let commits : has (committed (J ++ Ended u ∷ [])) t ≡ false = committed_has t J (Ended u) ∙ or-false (has (committed J) t) ∙ k.1 in
        subst (λ v. Knows t (J ++ Ended u ∷ []) (Some v)) z.1 (λ h. rw (commits, undos) refl)
knows_active s t J w (Solo u p b) y k e = let z = is_allowed (not (u == t) && not (p == t)) (Active w) y e in subst (λ v. Knows t (J ++ Solo u p b ∷ []) (Some v)) z.1 (keep t J (Solo u p b) (Active w) (same_for t J (Solo u p b) refl) k)
knows_active s t J w AuditBegin y k e = still t J AuditBegin (Active w) y refl k e
knows_active s t J w (AuditClean b) y k e = still t J (AuditClean b) (Active w) y refl k e
knows_active s t J w (AuditFail b rs) y k e = still t J (AuditFail b rs) (Active w) y refl k e
knows_active s t J w (Restarted rs ds) y k e = let z : Over ≡ y = cc (e) in subst (λ v. Knows t (J ++ Restarted rs ds ∷ []) (Some v)) z (λ h. absurd (k.2 ((same_for t J (Restarted rs ds) refl).3 h)))
knows_active s t J w (Back u b) y k e = either_own t u J (Back u b) (back w b (last_of w.undos)) (Active w) y (λ z. z) k e own
  where
    own : u ≡ t → back w b (last_of w.undos) ≡ Some y → Knows t (J ++ Back u b ∷ []) (Some y)
    own on g =
        let z = back_is w b (last_of w.undos) y g in
        let undos : undos_of t (J ++ Back u b ∷ []) ≡ drop_last w.undos = undos_of_push t J (Back u b) ∙ rw (eq-eqb u t on) (ap drop_last k.0) in
        subst (λ v. Knows t (J ++ Back u b ∷ []) (Some v)) z.3
        (undos, committed_has t J (Back u b) ∙ or-false (has (committed J) t) ∙ k.1, (λ h. ⊎_elim k.2 (λ i. cc (i)) (ended_push t J (Back u b) h)), fits_back w z.0 z.1 k.3)

-- what is known of a transaction, after each record that it allows
pub knows_step : (s : Sizes) (t : ℕ) (J : List Record) (x : TxnState) (r : Record) (y : TxnState) → Knows t J (Some x) → kept_step s t x r ≡ Some y → Knows t (J ++ r ∷ []) (Some y)
knows_step s t J Unbegun r y k e = knows_unbegun s t J r y k e
knows_step s t J (Active w) r y k e = knows_active s t J w r y k e
knows_step s t J (IsOver ps) r y k e = knows_committed s t J ps r y k e
knows_step s t J Over r y k e = knows_over s t J r y k e
