-- The walk of a key step by step, and the pair that an entry stands for.
use Rattle.std.proofs.Common.{◌≡◌, ◌≢◌, ◌⊎◌, inl, inr, ℕ, suc, ◌+◌, ◌*◌, ◌-◌, ◌<◌, Bool, true, false, List, Option, Some, None, refl, ap, sym, ◌∙◌, arith, eq-eqb}
use Rattle.std.specs.Prelude.{◌==◌, slice_index, slice_index_or, if◌then◌else◌}
use Rattle.std.proofs.lemmas.Bool.{ne_eqb}
use Rattle.std.proofs.lemmas.Bool.Decides.{eqb_tells}
use Rattle.dali_lists.proofs.Options.{some_same}
use Rattle.dali_geometry.specs.Sizes.{Sizes}
use Rattle.dali_geometry.specs.Places.{next_index, cell_of, is_place, region_at, cell_at}
use Rattle.dali_access.specs.Index.Entries.{state_of, key_of, place_of, flag_of}
use Rattle.dali_access.specs.Index.Records.{words_of, reaches, is_reached, cell_value, pair_of, stored}

-- ---- one step
more : (counter end : ℕ) → counter < end → end - counter ≡ suc (end - (counter + 1))
more counter end low = omega (arith, low)

pub stops : (s : Sizes) (image : List (List ℕ)) (counter end here r : ℕ) (ws : List ℕ) → counter < end → (here ≡ r → ⊥) → ws ≡ words_of image here → slice_index_or ws 0 0 ≡ 0 → reaches s image (end - counter) here r ≡ false
stops s image counter end here r ws low other is down = rw (more counter end low) (rw (ne_eqb here r other) (rw (eq-eqb _ _ (sym (ap flag_of is) ∙ down)) refl))

pub goes : (s : Sizes) (image : List (List ℕ)) (counter end here r : ℕ) (ws : List ℕ) → counter < end → (here ≡ r → ⊥) → ws ≡ words_of image here → (slice_index_or ws 0 0 ≡ 0 → ⊥) → reaches s image (end - (counter + 1)) (next_index s here) r ≡ reaches s image (end - counter) here r
goes s image counter end here r ws low other is up = rw (more counter end low) (rw (ne_eqb here r other) (rw (ne_eqb (flag_of (words_of image here)) 0 (λ z. up (ap flag_of is ∙ z))) refl))

pub next_within : (s : Sizes) (r : ℕ) → r < s.index → next_index s r < s.index
next_within s r low = go (eqb_tells (r + 1) s.index)
  where
    go : (((r + 1 == s.index) ≡ true) × (r + 1 ≡ s.index)) ⊎ (((r + 1 == s.index) ≡ false) × (r + 1 ≢ s.index)) → next_index s r < s.index
    go (inl a) = rw a.0 (omega (arith, low))
    go (inr a) = rw a.0 (omega (arith, low, a.1))

-- ---- an entry
pub record IsAt (s : Sizes) (x : ℕ) (p : ℕ × ℕ) : Type 0 where
  pub placed : is_place s x ≡ true
  pub region : region_at x ≡ p.0
  pub cell : cell_at x ≡ p.1

pub at_place : (s : Sizes) (x : ℕ) (p : ℕ × ℕ) → cell_of s x ≡ Some p → IsAt s x p
at_place s x p e = go (is_place s x) refl e
  where
    go : (b : Bool) → is_place s x ≡ b → (if b then Some (region_at x, cell_at x) else None) ≡ Some p → IsAt s x p
    go true is e = let q = some_same e in record { placed = is; region = ap (λ z. z.0) q; cell = ap (λ z. z.1) q }
    go false is e = absurd (cc (e))

pub stands_for : (s : Sizes) (image : List (List ℕ)) (r e : ℕ) (ws : List ℕ) (p : ℕ × ℕ) (o : Option (List ℕ)) → ws ≡ words_of image r → (state_of ws e == 1) ≡ true → cell_of s (slice_index ws (3 * e + 3)) ≡ Some p → is_reached s image (slice_index ws (3 * e + 2)) r ≡ true → o ≡ cell_value (words_of image p.0) p.1 (slice_index ws (3 * e + 2)) → pair_of (slice_index ws (3 * e + 2)) o ≡ stored s image r e
stands_for s image r e ws p o is live at reached value =
    let key : slice_index ws (3 * e + 2) ≡ key_of (words_of image r) e = ap (λ us. key_of us e) is in
    let lives : (state_of (words_of image r) e == 1) ≡ true = ap (λ us. state_of us e == 1) (sym is) ∙ live in
    let placed = at_place s (place_of (words_of image r) e) p (ap (λ us. cell_of s (place_of us e)) (sym is) ∙ at) in
    let reaches : is_reached s image (key_of (words_of image r) e) r ≡ true = ap (λ k. is_reached s image k r) (sym key) ∙ reached in
    let here : o ≡ cell_value (words_of image p.0) p.1 (key_of (words_of image r) e) = value ∙ ap (cell_value (words_of image p.0) p.1) key in
    rw key (rw (lives, placed.placed, reaches, placed.region, placed.cell, sym here) refl)
