-- An image as what each slot holds of each key, and the overflow flags.
--     World                    for each key, region and slot the state and what is held, or nothing
--     part s image, flags image      those of an image
--     put_at W k r i xs        W with xs of key k in slot i of region r
--     raise F r                F with the flag of region r raised
use Rattle.std.proofs.Common.{◌≡◌, ℕ, ◌<◌, Bool, true, false, not, List, [], length, set, refl, sym, ◌∙◌, ◌⊎◌, inl, inr, ⊎_elim, ◌≢◌, get_or-set_other, get_or-set_same}
use Rattle.std.specs.Prelude.{◌==◌, ◌&&◌, ◌||◌, if◌then◌else◌}
use Rattle.std.proofs.lemmas.Bool.{eq-eqb, ne_eqb}
use Rattle.std.proofs.lemmas.Bool.Decides.{eqb_tells}
use mathlib.Core.Path.{fun_ext}
use Rattle.dali_geometry.specs.Sizes.{Sizes}
use Rattle.dali_geometry.specs.Places.{is_index}
use Rattle.dali_access.specs.Index.Entries as entry
use Rattle.dali_access.specs.Index.Records.{words_of as words_in}
use Rattle.dali_access.proofs.IndexLemmas.Slots.{entry_part, cell_part, Puts}

abbrev pub World : Type 0
World = ℕ → ℕ → ℕ → List ℕ

abbrev pub Flags : Type 0
Flags = ℕ → Bool

unfoldable pub part : Sizes → List (List ℕ) → World
part s image k r i = if is_index s r then entry_part k (words_in image r) i else cell_part k (words_in image r) i

unfoldable pub flags : List (List ℕ) → Flags
flags image r = not (entry.flag_of (words_in image r) == 0)

unfoldable pub put_at : World → ℕ → ℕ → ℕ → List ℕ → World
put_at W k r i xs q p j = if p == r then (if (q == k) && (j == i) then xs else W q p j) else W q p j

unfoldable pub raise : Flags → ℕ → Flags
raise F r q = (q == r) || F q

-- ---- a slot that is put, and the others
pub put_at-same : (W : World) (k r i : ℕ) (xs : List ℕ) → put_at W k r i xs k r i ≡ xs
unfolding put_at
put_at-same W k r i xs = rw (eq-eqb r r refl, eq-eqb k k refl, eq-eqb i i refl) refl

pub put_at-key : (W : World) (k r i : ℕ) (xs : List ℕ) (q p j : ℕ) → q ≢ k → put_at W k r i xs q p j ≡ W q p j
unfolding put_at
put_at-key W k r i xs q p j h = by_region (p == r)
  where
    by_region : (b : Bool) → (if b then (if (q == k) && (j == i) then xs else W q p j) else W q p j) ≡ W q p j
    by_region true = rw (ne_eqb q k h) refl
    by_region false = refl

pub put_at-region : (W : World) (k r i : ℕ) (xs : List ℕ) (q p j : ℕ) → p ≢ r → put_at W k r i xs q p j ≡ W q p j
unfolding put_at
put_at-region W k r i xs q p j h = rw (ne_eqb p r h) refl

pub put_at-slot : (W : World) (k r i : ℕ) (xs : List ℕ) (q p j : ℕ) → j ≢ i → put_at W k r i xs q p j ≡ W q p j
unfolding put_at
put_at-slot W k r i xs q p j h = by_region (p == r) (q == k)
  where
    by_region : (b c : Bool) → (if b then (if c && (j == i) then xs else W q p j) else W q p j) ≡ W q p j
    by_region true true = rw (ne_eqb j i h) refl
    by_region true false = refl
    by_region false c = refl

-- which slot it is
pub put_at-cases : (W : World) (k r i : ℕ) (xs : List ℕ) (q p j : ℕ) → ((q ≡ k) × (p ≡ r) × (j ≡ i) × (put_at W k r i xs q p j ≡ xs)) ⊎ (((q ≢ k) ⊎ (p ≢ r) ⊎ (j ≢ i)) × (put_at W k r i xs q p j ≡ W q p j))
put_at-cases W k r i xs q p j = go (eqb_tells q k) (eqb_tells p r) (eqb_tells j i)
  where
    go :
        (((q == k) ≡ true) × (q ≡ k)) ⊎ (((q == k) ≡ false) × (q ≢ k)) → (((p == r) ≡ true) × (p ≡ r)) ⊎ (((p == r) ≡ false) × (p ≢ r)) → (((j == i) ≡ true) × (j ≡ i)) ⊎ (((j == i) ≡ false) × (j ≢ i))
        → ((q ≡ k) × (p ≡ r) × (j ≡ i) × (put_at W k r i xs q p j ≡ xs)) ⊎ (((q ≢ k) ⊎ (p ≢ r) ⊎ (j ≢ i)) × (put_at W k r i xs q p j ≡ W q p j))
    go (inl a) (inl b) (inl c) = inl (a.1, b.1, c.1, rw (a.1, b.1, c.1) (put_at-same W k r i xs))
    go (inr a) b c = inr (inl a.1, put_at-key W k r i xs q p j a.1)
    go a (inr b) c = inr (inr (inl b.1), put_at-region W k r i xs q p j b.1)
    go a b (inr c) = inr (inr (inr c.1), put_at-slot W k r i xs q p j c.1)

-- a slot put back as it was
pub put_at-back : (W : World) (k r i : ℕ) (xs ys : List ℕ) → W k r i ≡ ys → put_at (put_at W k r i xs) k r i ys ≡ W
put_at-back W k r i xs ys h = fun_ext (λ q. fun_ext (λ p. fun_ext (λ j. each q p j)))
  where
    each : (q p j : ℕ) → put_at (put_at W k r i xs) k r i ys q p j ≡ W q p j
    each q p j = ⊎_elim (λ a. a.3 ∙ sym h ∙ (rw (a.0, a.1, a.2) refl)) (λ a. a.1 ∙ ⊎_elim (λ b. absurd (⊎_elim (λ n. n b.0) (λ m. ⊎_elim (λ n. n b.1) (λ n. n b.2) m) a.0)) (λ b. b.1) (put_at-cases W k r i xs q p j)) (put_at-cases (put_at W k r i xs) k r i ys q p j)

-- ---- a region that is written
pub words_in-same : (image : List (List ℕ)) (r : ℕ) (vs : List ℕ) → r < length image → words_in (set image r vs) r ≡ vs
words_in-same image r vs h = get_or-set_same image r vs [] h

pub words_in-other : (image : List (List ℕ)) (r : ℕ) (vs : List ℕ) (q : ℕ) → q ≢ r → words_in (set image r vs) q ≡ words_in image q
words_in-other image r vs q h = get_or-set_other image r q vs [] h

-- the slots of the region's kind
abbrev pub slot_part : Sizes → ℕ → ℕ → List ℕ → ℕ → List ℕ
slot_part s r = λ k ws i. if is_index s r then entry_part k ws i else cell_part k ws i

pub part_put :
    (s : Sizes) (image : List (List ℕ)) (r : ℕ) (vs : List ℕ) (k i : ℕ) (xs : List ℕ) → r < length image → Puts (slot_part s r) (words_in image r) vs k i xs → part s (set image r vs) ≡ put_at (part s image) k r i xs
unfolding part put_at
part_put s image r vs k i xs within h = fun_ext (λ q. fun_ext (λ p. fun_ext (λ j. each q p j (eqb_tells p r))))
  where
    each : (q p j : ℕ) → (((p == r) ≡ true) × (p ≡ r)) ⊎ (((p == r) ≡ false) × (p ≢ r)) → part s (set image r vs) q p j ≡ put_at (part s image) k r i xs q p j
    each q p j (inl a) = rw (a.0, a.1, words_in-same image r vs within) (h q j)
    each q p j (inr a) = rw (a.0, words_in-other image r vs p a.1) refl

pub part_kept : (s : Sizes) (image : List (List ℕ)) (r : ℕ) (vs : List ℕ) → r < length image → ((q j : ℕ) → slot_part s r q vs j ≡ slot_part s r q (words_in image r) j) → part s (set image r vs) ≡ part s image
unfolding part
part_kept s image r vs within h = fun_ext (λ q. fun_ext (λ p. fun_ext (λ j. each q p j (eqb_tells p r))))
  where
    each : (q p j : ℕ) → (((p == r) ≡ true) × (p ≡ r)) ⊎ (((p == r) ≡ false) × (p ≢ r)) → part s (set image r vs) q p j ≡ part s image q p j
    each q p j (inl a) = rw (a.1, words_in-same image r vs within) (h q j)
    each q p j (inr a) = rw (words_in-other image r vs p a.1) refl

pub flags_kept : (image : List (List ℕ)) (r : ℕ) (vs : List ℕ) → r < length image → entry.flag_of vs ≡ entry.flag_of (words_in image r) → flags (set image r vs) ≡ flags image
unfolding flags
flags_kept image r vs within h = fun_ext (λ q. each q (eqb_tells q r))
  where
    each : (q : ℕ) → (((q == r) ≡ true) × (q ≡ r)) ⊎ (((q == r) ≡ false) × (q ≢ r)) → flags (set image r vs) q ≡ flags image q
    each q (inl a) = rw (a.1, words_in-same image r vs within, h) refl
    each q (inr a) = rw (words_in-other image r vs q a.1) refl

pub flags_raised : (image : List (List ℕ)) (r : ℕ) (vs : List ℕ) → r < length image → entry.flag_of vs ≢ 0 → flags (set image r vs) ≡ raise (flags image) r
unfolding flags raise
flags_raised image r vs within h = fun_ext (λ q. each q (eqb_tells q r))
  where
    each : (q : ℕ) → (((q == r) ≡ true) × (q ≡ r)) ⊎ (((q == r) ≡ false) × (q ≢ r)) → flags (set image r vs) q ≡ raise (flags image) r q
    each q (inl a) = rw (a.0, a.1, words_in-same image r vs within, ne_eqb (entry.flag_of vs) 0 h) refl
    each q (inr a) = rw (a.0, words_in-other image r vs q a.1) refl

-- flags that were up stay up
pub raise_stays : (F : Flags) (r q : ℕ) → F q ≡ true → raise F r q ≡ true
unfolding raise
raise_stays F r q h = by_region (q == r)
  where
    by_region : (b : Bool) → (b || F q) ≡ true
    by_region true = refl
    by_region false = h
