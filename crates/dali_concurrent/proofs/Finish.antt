-- What each note had seen of the history that the notes leave.
use Rattle.std.proofs.Common.{◌≡◌, ℕ, zero, suc, ◌<◌, ◌≤◌, Bool, true, false, List, [], ◌∷◌, length, Some, refl, ap, subst, ◌∙◌, arith}
use Rattle.std.specs.Prelude.{slice_get, ◌==◌, if◌then◌else◌}
use Rattle.std.proofs.lemmas.Bool.{eqb-true}
use Rattle.dali_lists.proofs.Numbers.{eqb-self}
use Rattle.dali_runs.proofs.CountsLemmas.Lists.{some_same}
use Rattle.dali_notes.specs.History.{one_if, below, IsSeen, Sight, notes_of, AllSaw}
use Rattle.dali_concurrent.specs.Told.{Item, History}
use Rattle.dali_concurrent.specs.Finish.{seen_in, NotesFinish}

one_below : (k n : ℕ) → k < n → below k n ≡ 1
one_below zero zero h = absurd (omega (arith, h))
one_below zero (suc n) h = refl
one_below (suc k) zero h = absurd (omega (arith, h))
one_below (suc k) (suc n) h = one_below k n (omega (arith, h))

few_below : (k n : ℕ) → below k n ≤ 1
few_below zero zero = omega arith
few_below zero (suc n) = omega arith
few_below (suc k) zero = omega arith
few_below (suc k) (suc n) = few_below k n

saw : (H : History) (k : ℕ) (xs : List (Sight Item)) → AllSaw H xs → 1 ≤ notes_of k xs → IsSeen H k (seen_in k xs)
saw H k [] all h = absurd (omega (arith, h))
saw H k (x ∷ xs) all h = by_test (x.number == k) refl (λ more. saw H k xs all.1 more)
  where
    by_test : (b : Bool) → (x.number == k) ≡ b → (1 ≤ notes_of k xs → IsSeen H k (seen_in k xs)) → IsSeen H k (if b then x.seen else seen_in k xs)
    by_test true is later = subst (λ n. IsSeen H n x.seen) (eqb-true x.number k is) all.0
    by_test false is later = later (let f : one_if (x.number == k) ≡ 0 = ap one_if is in omega (arith, h, f))

there : (xs : List (Sight Item)) (i : ℕ) (x : Sight Item) → slice_get xs i ≡ Some x → 1 ≤ notes_of x.number xs
there [] i x e = absurd (cc)
there (y ∷ xs) zero x e =
    let one : one_if (y.number == x.number) ≡ 1 = ap one_if (subst (λ (z : Sight Item). (y.number == z.number) ≡ true) (some_same e) (eqb-self y.number)) in omega (arith, one)
there (y ∷ xs) (suc i) x e = omega (arith, there xs i x e)

its_own : (xs : List (Sight Item)) (i : ℕ) (x : Sight Item) → slice_get xs i ≡ Some x → notes_of x.number xs ≤ 1 → seen_in x.number xs ≡ x.seen
its_own [] i x e h = absurd (cc)
its_own (y ∷ xs) zero x e h =
    ap (λ b. if b then y.seen else seen_in x.number xs) (subst (λ (z : Sight Item). (y.number == z.number) ≡ true) (some_same e) (eqb-self y.number)) ∙ ap (λ (z : Sight Item). z.seen) (some_same e)
its_own (y ∷ xs) (suc i) x e h = by_test (y.number == x.number) refl (λ few. its_own xs i x e few)
  where
    by_test : (b : Bool) → (y.number == x.number) ≡ b → (notes_of x.number xs ≤ 1 → seen_in x.number xs ≡ x.seen) → (if b then y.seen else seen_in x.number xs) ≡ x.seen
    by_test true is later = absurd (let f : one_if (y.number == x.number) ≡ 1 = ap one_if is in omega (arith, h, f, there xs i x e))
    by_test false is later = later (omega (arith, h))

low_enough : (k n : ℕ) → 1 ≤ below k n → k < n
low_enough zero zero h = absurd (omega (arith, h))
low_enough zero (suc n) h = omega arith
low_enough (suc k) zero h = absurd (omega (arith, h))
low_enough (suc k) (suc n) h = let w = low_enough k n h in omega (arith, w)

pub notes_finish : NotesFinish
notes_finish bases p o H notes whole all = (
  record {
    count = length notes;
    numbered = whole.numbered;
    seen = λ k. seen_in k notes;
    is = λ k h. saw H k notes whole.seen (let e = whole.each k in let one = one_below k (length notes) h in omega (arith, e, one));
    all = all;
  },
  refl,
  λ i x e. (
    its_own notes i x e (let f = whole.each x.number in let few = few_below x.number (length notes) in omega (arith, f, few)),
    low_enough x.number (length notes) (let f = whole.each x.number in let one = there notes i x e in omega (arith, f, one)),
  ),
)
