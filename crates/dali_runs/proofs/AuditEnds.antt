-- What an audit that ends tells, by what it passed.
use Rattle.std.proofs.Common.{◌≡◌, ℕ, zero, suc, ◌<◌, Bool, true, false, List, [], ◌∷◌, Some, refl, ap, sym, subst, ◌∙◌, arith}
use Rattle.std.specs.Prelude.{◌==◌, ◌↔◌, ◌&&◌, ◌||◌, not, slice_get, length, nat_lt}
use Rattle.std.specs.List.{list_all}
use Rattle.std.proofs.lemmas.Option.{slice_get_within}
use Rattle.std.proofs.lemmas.Bool.{ltb-true, eqb-true}
use Rattle.dali_lists.proofs.Numbers.{eqb-self}
use Rattle.dali_lists.proofs.Options.{some_same}
use Rattle.dali_lists.proofs.Tests.{left_true, right_true}
use Rattle.dali_geometry.specs.Places.{regions}
use Rattle.dali_record.specs.declared.records.Record.{Record}
use Rattle.dali_record.specs.Damage.{has}
use Rattle.dali_record.specs.Epochs.{last_epoch}
use Rattle.dali_region.specs.State.{RegionState}
use Rattle.dali_runs.specs.State.{CoreState}
use Rattle.dali_runs.specs.Audits.{MayLogEnd, MayEndAudit, Certifies}
use Rattle.dali_runs.specs.Passes.{Pass, Audits, is_find_of, has_passed, has_found, IsVerdict, AuditsRun}

-- a region that was passed has a pass
pub pass_of : (ps : List Pass) (r : ℕ) → has_passed ps r ≡ true → (p : Pass) × (i : ℕ) × (slice_get ps i ≡ Some p) × (p.region ≡ r)
pass_of [] r e = absurd (cc)
pass_of (q ∷ ps) r e = by_test (q.region == r) refl e (pass_of ps r)
  where
    by_test : (b : Bool) → (q.region == r) ≡ b → (b || has_passed ps r) ≡ true → (has_passed ps r ≡ true → (p : Pass) × (i : ℕ) × (slice_get ps i ≡ Some p) × (p.region ≡ r))
        → (p : Pass) × (i : ℕ) × (slice_get (q ∷ ps) i ≡ Some p) × (p.region ≡ r)
    by_test true f g ih = (q, 0, refl, eqb-true q.region r f)
    by_test false f g ih = let later = ih g in (later.0, suc later.1, later.2, later.3)

-- a pass that found something
find_of : (ps : List Pass) (r : ℕ) → has_found ps r ≡ true → (p : Pass) × (i : ℕ) × (slice_get ps i ≡ Some p) × (p.region ≡ r) × ((p.answer == 0) ≡ false)
find_of [] r e = absurd (cc)
find_of (q ∷ ps) r e = by_test (q.region == r) refl (q.answer == 0) refl e (find_of ps r)
  where
    by_test : (b : Bool) → (q.region == r) ≡ b → (z : Bool) → (q.answer == 0) ≡ z → ((b && not z) || has_found ps r) ≡ true
        → (has_found ps r ≡ true → (p : Pass) × (i : ℕ) × (slice_get ps i ≡ Some p) × (p.region ≡ r) × ((p.answer == 0) ≡ false))
        → (p : Pass) × (i : ℕ) × (slice_get (q ∷ ps) i ≡ Some p) × (p.region ≡ r) × ((p.answer == 0) ≡ false)
    by_test true f false g h ih = (q, 0, refl, eqb-true q.region r f, g)
    by_test true f true g h ih = let later = ih h in (later.0, suc later.1, later.2, later.3, later.4)
    by_test false f z g h ih = let later = ih h in (later.0, suc later.1, later.2, later.3, later.4)

-- and the other way round
found_at : (ps : List Pass) (i : ℕ) (p : Pass) → slice_get ps i ≡ Some p → (p.answer == 0) ≡ false → has_found ps p.region ≡ true
found_at [] i p e f = absurd (cc)
found_at (q ∷ ps) zero p e f = let same : q ≡ p = some_same e in rw (same, eqb-self p.region, f) refl
found_at (q ∷ ps) (suc i) p e f = or_right (is_find_of p.region q) (found_at ps i p e f)
  where
    or_right : (b : Bool) {c : Bool} → c ≡ true → (b || c) ≡ true
    or_right true h = refl
    or_right false h = h

-- where each region was passed at most once, a find of it is what its pass answered
pub found_is : (ps : List Pass) (i : ℕ) (p : Pass) → slice_get ps i ≡ Some p → ((j k : ℕ) (q h : Pass) → slice_get ps j ≡ Some q → slice_get ps k ≡ Some h → q.region ≡ h.region → j ≡ k) → has_found ps p.region ≡ not (p.answer == 0)
found_is ps i p at once = by_answer (p.answer == 0) refl
  where
    by_found : (f : Bool) → has_found ps p.region ≡ f → (p.answer == 0) ≡ true → f ≡ false
    by_found false e z = refl
    by_found true e z =
        let find = find_of ps p.region e in
        let same : Some p ≡ Some find.0 = sym at ∙ (ap (slice_get ps) (once i find.1 p find.0 at find.2 (sym find.3)) ∙ find.2) in
        let answer : (p.answer == 0) ≡ false = ap (λ (q : Pass). q.answer == 0) (some_same same) ∙ find.4 in
        absurd (cc)

    by_answer : (z : Bool) → (p.answer == 0) ≡ z → has_found ps p.region ≡ not z
    by_answer false e = found_at ps i p at e
    by_answer true e = by_found (has_found ps p.region) refl e

-- a number that stands in a list of regions is one of a region
has_below : (n : ℕ) (rs : List ℕ) (r : ℕ) → list_all (λ q. nat_lt q n) rs ≡ true → has rs r ≡ true → nat_lt r n ≡ true
has_below n [] r e h = absurd (cc)
has_below n (q ∷ rs) r e h = by_test (q == r) refl h (has_below n rs r (right_true (nat_lt q n) _ e))
  where
    by_test : (b : Bool) → (q == r) ≡ b → (b || has rs r) ≡ true → (has rs r ≡ true → nat_lt r n ≡ true) → nat_lt r n ≡ true
    by_test true f g ih = subst (λ z. nat_lt z n ≡ true) (eqb-true q r f) (left_true (nat_lt q n) _ e)
    by_test false f g ih = ih g

pub may_end_audit :
    (L : List Record) (c : CoreState) (audits : Audits) (b : ℕ) (found : List ℕ) → length c.regions ≡ regions c.system.sizes → AuditsRun L c audits
    → MayLogEnd L c b found → IsVerdict c.system.sizes (audits b) found
    → MayEndAudit L c b found
may_end_audit L c audits b found whole run may verdict = record { may = may; stray = stray; certified = certified }
  where
    inside : (r : ℕ) (g : RegionState) → slice_get c.regions r ≡ Some g → r < regions c.system.sizes
    inside r g at = omega (arith, slice_get_within c.regions r g at, whole)

    stray : (r : ℕ) (g : RegionState) → slice_get c.regions r ≡ Some g → has found r ≡ true → g.poked ≡ true
    stray r g at named =
        let find = find_of (audits b) r (sym (verdict.named r (inside r g at)) ∙ named) in
        (run.tells b find.1 find.0 g find.2 (subst (λ z. slice_get c.regions z ≡ Some g) (sym find.3) at)).finds find.4

    certified : (r : ℕ) (g : RegionState) → slice_get c.regions r ≡ Some g → has found r ≡ false → Certifies (last_epoch L) b r g
    certified r g at unnamed = subst (λ z. Certifies (last_epoch L) b z g) pass.3 ((run.tells b pass.1 pass.0 g pass.2 (subst (λ z. slice_get c.regions z ≡ Some g) (sym pass.3) at)).certifies (by_answer (pass.0.answer == 0) refl))
      where
        pass : (p : Pass) × (i : ℕ) × (slice_get (audits b) i ≡ Some p) × (p.region ≡ r)
        pass = pass_of (audits b) r (verdict.passed r (inside r g at))

        by_answer : (z : Bool) → (pass.0.answer == 0) ≡ z → z ≡ true
        by_answer true f = refl
        by_answer false f = let here : has_found (audits b) r ≡ true = subst (λ z. has_found (audits b) z ≡ true) pass.3 (found_at (audits b) pass.1 pass.0 pass.2 f) in let none : has_found (audits b) r ≡ false = sym (verdict.named r (inside r g at)) ∙ unnamed in absurd (cc)

-- ---- clean exactly where no pass found something
none_named : (rs : List ℕ) → ((r : ℕ) → has rs r ≡ true → ⊥) → rs ≡ []
none_named [] none = refl
none_named (q ∷ rs) none = absurd (none q (rw (eqb-self q) refl))

pub none_found : (n : ℕ) (ps : List Pass) (found : List ℕ) → ((r : ℕ) → r < n → has found r ≡ has_found ps r) → list_all (λ q. nat_lt q n) found ≡ true → (found ≡ []) ↔ ((r : ℕ) → r < n → has_found ps r ≡ false)
none_found n ps found named numbers = (
  λ e r below. sym (named r below) ∙ ap (λ rs. has rs r) e,
  λ none. none_named found (λ r h. let below : r < n = below_of r (has_below n found r numbers h) in let is : has found r ≡ false = named r below ∙ none r below in absurd (cc)),
)
  where
    below_of : (r : ℕ) → nat_lt r n ≡ true → r < n
    below_of r e = ltb-true r n e
