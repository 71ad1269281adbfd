-- The slots of one key.
--     Part                     for each region and slot the state and what is held of the key, or nothing
--     put_part P r i xs        P with xs in slot i of region r
use Rattle.std.proofs.Common.{◌≡◌, ℕ, Bool, true, false, List, refl, sym, ◌∙◌, ◌⊎◌, inl, inr, ⊎_elim, ◌≢◌}
use Rattle.std.specs.Prelude.{◌==◌, if◌then◌else◌}
use Rattle.std.proofs.lemmas.Bool.{eq-eqb, ne_eqb}
use Rattle.std.proofs.lemmas.Bool.Decides.{eqb_tells}
use mathlib.Core.Path.{fun_ext}
use Rattle.dali_access.proofs.IndexLemmas.Worlds.{World, put_at, put_at-same, put_at-key, put_at-region, put_at-slot}

abbrev pub Part : Type 0
Part = ℕ → ℕ → List ℕ

unfoldable pub put_part : Part → ℕ → ℕ → List ℕ → Part
put_part P r i xs p j = if p == r then (if j == i then xs else P p j) else P p j

pub put_part-same : (P : Part) (r i : ℕ) (xs : List ℕ) → put_part P r i xs r i ≡ xs
unfolding put_part
put_part-same P r i xs = rw (eq-eqb r r refl, eq-eqb i i refl) refl

pub put_part-other : (P : Part) (r i : ℕ) (xs : List ℕ) (p j : ℕ) → (p ≢ r) ⊎ (j ≢ i) → put_part P r i xs p j ≡ P p j
unfolding put_part
put_part-other P r i xs p j (inl h) = rw (ne_eqb p r h) refl
put_part-other P r i xs p j (inr h) = by_region (p == r)
  where
    by_region : (b : Bool) → (if b then (if j == i then xs else P p j) else P p j) ≡ P p j
    by_region true = rw (ne_eqb j i h) refl
    by_region false = refl

-- the slot itself, or another
pub same_slot : (p j r i : ℕ) → ((p ≡ r) × (j ≡ i)) ⊎ ((p ≢ r) ⊎ (j ≢ i))
same_slot p j r i = ⊎_elim (λ a. ⊎_elim (λ b. inl (a.1, b.1)) (λ b. inr (inr b.1)) (eqb_tells j i)) (λ a. inr (inl a.1)) (eqb_tells p r)

pub put_part-cases : (P : Part) (r i : ℕ) (xs : List ℕ) (p j : ℕ) → ((p ≡ r) × (j ≡ i) × (put_part P r i xs p j ≡ xs)) ⊎ (((p ≢ r) ⊎ (j ≢ i)) × (put_part P r i xs p j ≡ P p j))
put_part-cases P r i xs p j = ⊎_elim (λ a. inl (a.0, a.1, rw (a.0, a.1) (put_part-same P r i xs))) (λ a. inr (a, put_part-other P r i xs p j a)) (same_slot p j r i)

-- a slot put twice, and one put back
pub put_part-twice : (P : Part) (r i : ℕ) (xs ys : List ℕ) → put_part (put_part P r i xs) r i ys ≡ put_part P r i ys
put_part-twice P r i xs ys = fun_ext (λ p. fun_ext (λ j. each p j))
  where
    each : (p j : ℕ) → put_part (put_part P r i xs) r i ys p j ≡ put_part P r i ys p j
    each p j = ⊎_elim (λ a. rw (a.0, a.1) (put_part-same (put_part P r i xs) r i ys ∙ sym (put_part-same P r i ys))) (λ a. put_part-other (put_part P r i xs) r i ys p j a ∙ put_part-other P r i xs p j a ∙ sym (put_part-other P r i ys p j a)) (same_slot p j r i)

pub put_part-own : (P : Part) (r i : ℕ) (xs : List ℕ) → P r i ≡ xs → put_part P r i xs ≡ P
put_part-own P r i xs h = fun_ext (λ p. fun_ext (λ j. each p j))
  where
    each : (p j : ℕ) → put_part P r i xs p j ≡ P p j
    each p j = ⊎_elim (λ a. rw (a.0, a.1) (put_part-same P r i xs ∙ sym h)) (λ a. put_part-other P r i xs p j a) (same_slot p j r i)

-- ---- the part of a world
pub put_at-own : (W : World) (k r i : ℕ) (xs : List ℕ) → put_at W k r i xs k ≡ put_part (W k) r i xs
put_at-own W k r i xs = fun_ext (λ p. fun_ext (λ j. each p j))
  where
    each : (p j : ℕ) → put_at W k r i xs k p j ≡ put_part (W k) r i xs p j
    each p j = ⊎_elim (λ a. rw (a.0, a.1) (put_at-same W k r i xs ∙ sym (put_part-same (W k) r i xs))) (λ a. ⊎_elim (λ b. put_at-region W k r i xs k p j b) (λ b. put_at-slot W k r i xs k p j b) a ∙ sym (put_part-other (W k) r i xs p j a)) (same_slot p j r i)

pub put_at-beside : (W : World) (k r i : ℕ) (xs : List ℕ) (q : ℕ) → q ≢ k → put_at W k r i xs q ≡ W q
put_at-beside W k r i xs q h = fun_ext (λ p. fun_ext (λ j. put_at-key W k r i xs q p j h))
