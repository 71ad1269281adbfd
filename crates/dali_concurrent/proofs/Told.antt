-- What entries leave of the values that a history tells.
use Rattle.std.proofs.Common.{◌≡◌, ℕ, zero, suc, ◌<◌, true, false, List, [], ◌∷◌, ◌++◌, length, Some, refl, ap, sym, subst, ◌∙◌, arith}
use Rattle.std.specs.Prelude.{slice_get, fold}
use Rattle.std.proofs.lemmas.List.{length-set, map-append}
use Rattle.std.proofs.lemmas.List.Sums.{fold-append}
use Rattle.dali_lists.proofs.Lists.{get_set_other}
use Rattle.dali_lists.proofs.Tests.{not_both_ways}
use Rattle.dali_runs.proofs.CountsLemmas.Lists.{some_same}
use Rattle.dali_runs.specs.State.{CoreState}
use Rattle.dali_crash.specs.Checkpoints.{StoreStep, Point, IsPointCourse}
use Rattle.dali_notes.specs.History.{signs, IsSeen}
use Rattle.dali_concurrent.specs.Entries.{Entry, system_note, region_note}
use Rattle.dali_concurrent.specs.Rules.{Outset}
use Rattle.dali_concurrent.specs.Told.{Effect, Leaves, OnRegion, OnSystem, OnVault, OnBoth, OnStop, effect_on, told_step, EffectFits, Line, History, plain, plain_one, core_told}

-- ---- courses
pub course_join : (p k q : Point) (xs ys : List StoreStep) → IsPointCourse p xs k → IsPointCourse k ys q → IsPointCourse p (xs ++ ys) q
course_join p k q [] ys e c = subst (λ z. IsPointCourse z ys q) (sym e) c
course_join p k q (x ∷ xs) ys c d = (c.0, c.1, course_join c.0 k q xs ys c.2 d)

-- ---- one entry further
pub plain-append : (A B : History) → plain (A ++ B) ≡ plain A ++ plain B
plain-append A B = map-append plain_one A B

-- a place of the plain entries is that of a line
pub at_plain : (T : History) (i : ℕ) (e : List ℕ × Entry) → slice_get (plain T) i ≡ Some e → (l : Line) × (slice_get T i ≡ Some l) × (plain_one l ≡ e)
at_plain [] i e at = absurd (cc)
at_plain (l ∷ T) zero e at = (l, refl, some_same at)
at_plain (l ∷ T) (suc i) e at = at_plain T i e at

pub plain_seen : (new : History) (k : ℕ) (seen : History) → IsSeen new k seen → IsSeen (plain new) k (plain seen)
plain_seen new k seen is = record {
  rest = plain is.rest;
  all = ap plain is.all ∙ plain-append seen is.rest;
  none = λ x there.
      let w = at_plain is.rest there.0 x there.1 in
      subst (λ (z : List ℕ × Entry). signs k z.0 ≡ false) w.2 (is.none w.0 (there.0, w.1));
}

pub told_push : (o : Outset) (A : History) (e : Line) → core_told o (A ++ e ∷ []) ≡ effect_on (core_told o A) e.1.1
told_push o A e = fold-append told_step o.old A (e ∷ [])

as_long : (c : CoreState) (f : Effect) → length (effect_on c f).regions ≡ length c.regions
as_long c Leaves = refl
as_long c (OnRegion r g) = length-set c.regions r g
as_long c (OnSystem y) = refl
as_long c (OnVault v) = refl
as_long c (OnBoth r g y) = length-set c.regions r g
as_long c (OnStop v y) = refl

pub same_by_places : {X : Type 0} (xs ys : List X) → length xs ≡ length ys → ((i : ℕ) → i < length ys → slice_get xs i ≡ slice_get ys i) → xs ≡ ys
same_by_places [] [] e h = refl
same_by_places [] (y ∷ ys) e h = absurd (omega (arith, e))
same_by_places (x ∷ xs) [] e h = absurd (omega (arith, e))
same_by_places (x ∷ xs) (y ∷ ys) e h =
    let first : x ≡ y = some_same (h zero (omega arith)) in
    ap (λ z. z ∷ xs) first ∙ ap (λ l. y ∷ l) (same_by_places xs ys (omega (arith, e)) (λ i below. h (suc i) (omega (arith, below))))

-- ---- what an effect leaves
pub system_left : (ks : List ℕ) (f : Effect) (d : CoreState) → EffectFits ks f → signs system_note ks ≡ false → (effect_on d f).system ≡ d.system
system_left ks Leaves d g h = refl
system_left ks (OnRegion r x) d g h = refl
system_left ks (OnSystem y) d g h = absurd (not_both_ways g h)
system_left ks (OnVault v) d g h = refl
system_left ks (OnBoth r x y) d g h = absurd (not_both_ways g.1 h)
system_left ks (OnStop v y) d g h = absurd (not_both_ways g.1 h)

pub region_left : (ks : List ℕ) (f : Effect) (d : CoreState) (r : ℕ) → EffectFits ks f → signs (region_note r) ks ≡ false → slice_get (effect_on d f).regions r ≡ slice_get d.regions r
region_left ks Leaves d r g h = refl
region_left ks (OnRegion q x) d r g h = get_set_other d.regions q x r (λ same. not_both_ways (subst (λ n. signs (region_note n) ks ≡ true) same g) h)
region_left ks (OnSystem y) d r g h = refl
region_left ks (OnVault v) d r g h = refl
region_left ks (OnBoth q x y) d r g h = get_set_other d.regions q x r (λ same. not_both_ways (subst (λ n. signs (region_note n) ks ≡ true) same g.0) h)
region_left ks (OnStop v y) d r g h = refl

along : {X : Type 0} (f : CoreState → X) (c : CoreState) (R : History) → ((i : ℕ) (e : Line) (d : CoreState) → slice_get R i ≡ Some e → f (effect_on d e.1.1) ≡ f d) → f (fold told_step c R) ≡ f c
along f c [] h = refl
along f c (e ∷ R) h = along f (effect_on c e.1.1) R (λ i x d at. h (suc i) x d at) ∙ h zero e c refl

module _ (o : Outset) where
  -- what all entries of R leave
  pub told_same : {X : Type 0} (f : CoreState → X) (A R : History) → ((i : ℕ) (e : Line) (d : CoreState) → slice_get R i ≡ Some e → f (effect_on d e.1.1) ≡ f d)
      → f (core_told o (A ++ R)) ≡ f (core_told o A)
  told_same f A R h = ap f (fold-append told_step o.old A R) ∙ along f (core_told o A) R h

  pub lengths : (T : History) → length (core_told o T).regions ≡ length o.old.regions
  lengths T = along (λ c. length c.regions) o.old T (λ i e d at. as_long d e.1.1)
