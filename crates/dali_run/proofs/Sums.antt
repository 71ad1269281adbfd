-- The stray writes of a round are those of its clients.
use Rattle.std.proofs.Common.{◌≡◌, ℕ, zero, suc, Bool, true, false, List, [], ◌∷◌, ◌++◌, Some, refl, sym, ◌∙◌, ap, subst, arith}
use Rattle.std.specs.Prelude.{◌==◌, ◌&&◌, ◌||◌, bit_xor, flat_map, fold, if◌then◌else◌, length, slice_get}
use Rattle.std.specs.List.{list_all}
use Rattle.std.specs.Int.Bits.{xor_assoc, xor_zero_l, xor_zero_r}
use Rattle.std.proofs.lemmas.Nat.{xor_comm}
use Rattle.std.proofs.lemmas.Bool.{eqb-true, eq-eqb}
use Rattle.std.proofs.Math.Bool.{or_assoc, or_comm}
use Rattle.dali_transcripts.specs.Words.{Said}
use Rattle.dali_transcripts.specs.World.{Strays, Happening, World, stray_step, stray_after, poked_step, poked_after}
use Rattle.dali_transcripts.specs.Moves.{Receipt}
use Rattle.dali_transcripts.specs.Transcripts.{AreTranscripts, EachTells, Told, count_with, deeds_of, is_among, owned, owned_one}
use Rattle.dali_transcripts.specs.Rounds.{AreBlocks, IsPlaced}
use Rattle.dali_run.specs.Masks.{masks_in, masks_of, xor_of, has_any}
use Rattle.dali_run.proofs.Pokings.{mask_by, mask_of, own_masks, client_matches}

-- the masks of what happened, in order
abbrev pub mask_at : ℕ → Happening → List ℕ
mask_at r x = mask_by r x.0

abbrev pub masks_at : ℕ → List Happening → List ℕ
masks_at r xs = flat_map (mask_at r) xs

-- no two blocks are of one client
abbrev Apart : List Told → Type 0
Apart bs = (i j : ℕ) (a b : Told) → slice_get bs i ≡ Some a → slice_get bs j ≡ Some b → a.client ≡ b.client → i ≡ j

abbrev Are : List Told → (Told → Type 0) → Type 0
Are bs P = (i : ℕ) (b : Told) → slice_get bs i ≡ Some b → P b

apart_rest : (b : Told) (bs : List Told) → Apart (b ∷ bs) → Apart bs
apart_rest b bs apart = λ i j x y e f same. omega (arith, apart (suc i) (suc j) x y e f same)

others : (b : Told) (bs : List Told) → Apart (b ∷ bs) → Are bs (λ x. (b.client == x.client) ≡ false)
others b bs apart = λ i x e. by_test i x e (b.client == x.client) refl
  where
    by_test : (i : ℕ) (x : Told) → slice_get bs i ≡ Some x → (same : Bool) → (b.client == x.client) ≡ same → (b.client == x.client) ≡ false
    by_test i x e false is = is
    by_test i x e true is = absurd (omega (arith, apart zero (suc i) b x refl e (eqb-true b.client x.client is)))

-- ---- sums in which the order doesn't count
module _ {T : Type 0} (op : T → T → T) (none : T) (of : ℕ → T) (assoc : (a b c : T) → op (op a b) c ≡ op a (op b c)) (comm : (a b : T) → op a b ≡ op b a) (unit : (a : T) → op none a ≡ a) where
  total : List ℕ → T
  total [] = none
  total (mask ∷ masks) = op (of mask) (total masks)

  total_both : (xs ys : List ℕ) → total (xs ++ ys) ≡ op (total xs) (total ys)
  unfolding total
  total_both [] ys = sym (unit (total ys))
  total_both (x ∷ xs) ys = ap (op (of x)) (total_both xs ys) ∙ sym (assoc (of x) (total xs) (total ys))

  middle : (a b c d : T) → op (op a b) (op c d) ≡ op (op a c) (op b d)
  middle a b c d =
      assoc a b (op c d)
      ∙ (ap (op a) (sym (assoc b c d) ∙ (ap (λ (x : T). op x d) (comm b c) ∙ assoc c b d)) ∙ sym (assoc a c (op b d)))

  -- of each client
  each : (ℕ → T) → List Told → T
  each g [] = none
  each g (b ∷ bs) = op (g b.client) (each g bs)

  each_both : (g h : ℕ → T) (bs : List Told) → each (λ c. op (g c) (h c)) bs ≡ op (each g bs) (each h bs)
  unfolding each
  each_both g h [] = sym (unit none)
  each_both g h (b ∷ bs) = ap (op (op (g b.client) (h b.client))) (each_both g h bs) ∙ middle (g b.client) (h b.client) (each g bs) (each h bs)

  each_same : (g h : ℕ → T) (bs : List Told) → ((c : ℕ) → g c ≡ h c) → each g bs ≡ each h bs
  unfolding each
  each_same g h [] same = refl
  each_same g h (b ∷ bs) same = ap (λ (x : T). op x (each g bs)) (same b.client) ∙ ap (op (h b.client)) (each_same g h bs same)

  each_none : (g : ℕ → T) (bs : List Told) → Are bs (λ b. g b.client ≡ none) → each g bs ≡ none
  unfolding each
  each_none g [] are = refl
  each_none g (b ∷ bs) are =
      ap (λ (x : T). op x (each g bs)) (are zero b refl) ∙ (ap (op none) (each_none g bs (λ i x e. are (suc i) x e)) ∙ unit none)

  -- what one client alone did
  abbrev by_one : ℕ → T → ℕ → T
  by_one d t c = if d == c then t else none

  right_unit : (a : T) → op a none ≡ a
  right_unit a = comm a none ∙ unit a

  not_by : (d : ℕ) (t : T) (c : ℕ) → (d == c) ≡ false → by_one d t c ≡ none
  not_by d t c e = ap (λ (b : Bool). if b then t else none) e

  is_by : (d : ℕ) (t : T) (c : ℕ) → c ≡ d → by_one d t c ≡ t
  is_by d t c e = ap (λ (b : Bool). if b then t else none) (eq-eqb d c (sym e))

  apart_by : (d c : ℕ) → (c == d) ≡ false → (d == c) ≡ false
  apart_by d c e = by_test (d == c) refl
    where
      by_test : (b : Bool) → (d == c) ≡ b → (d == c) ≡ false
      by_test false is = is
      by_test true is = let clash : true ≡ false = sym (eq-eqb c d (sym (eqb-true d c is))) ∙ e in absurd (cc clash)

  each_one : (d : ℕ) (t : T) (bs : List Told) → is_among bs d ≡ true → Apart bs → each (by_one d t) bs ≡ t
  unfolding each
  each_one d t [] among apart = absurd (cc among)
  each_one d t (b ∷ bs) among apart = by_test (b.client == d) refl among (each_one d t bs)
    where
      by_test : (same : Bool) → (b.client == d) ≡ same → (if same then true else is_among bs d) ≡ true → (is_among bs d ≡ true → Apart bs → each (by_one d t) bs ≡ t)
          → op (by_one d t b.client) (each (by_one d t) bs) ≡ t
      by_test true is among later =
          let same : b.client ≡ d = eqb-true b.client d is in
          ap (λ (x : T). op x (each (by_one d t) bs)) (is_by d t b.client same)
          ∙ (
          ap (op t) (each_none (by_one d t) bs (λ i x e. not_by d t x.client (subst (λ (n : ℕ). (n == x.client) ≡ false) same (others b bs apart i x e))))
          ∙ right_unit t
          )
      by_test false is among later =
          ap (λ (x : T). op x (each (by_one d t) bs)) (not_by d t b.client (apart_by d b.client is)) ∙ (unit (each (by_one d t) bs) ∙ later among (apart_rest b bs apart))

  -- the deeds of each client
  abbrev own_total : ℕ → ℕ → List Happening → ℕ → T
  own_total r n xs c = total (own_masks r (owned c n xs))

  one_more : (r : ℕ) (x : Receipt) (own : Bool) (ys : List Receipt)
      → total (own_masks r (owned_one own x ys)) ≡ op (if own then total (mask_of r x) else none) (total (own_masks r ys))
  one_more r x true ys = total_both (mask_of r x) (own_masks r ys)
  one_more r x false ys = sym (unit (total (own_masks r ys)))

  and_both : (a b : Bool) → (a && b) ≡ true → (a ≡ true) × (b ≡ true)
  and_both true b e = (refl, e)
  and_both false b e = absurd (cc e)

  all_owned : (r n : ℕ) (xs : List Happening) (bs : List Told) → list_all (λ (x : Happening). is_among bs x.1) xs ≡ true → Apart bs
      → total (masks_at r xs) ≡ each (own_total r n xs) bs
  unfolding total
  all_owned r n [] bs all apart = sym (each_none (λ c. none) bs (λ i b e. refl))
  all_owned r n ((x, d) ∷ xs) bs all apart =
      let parts = and_both (is_among bs d) (list_all (λ (y : Happening). is_among bs y.1) xs) all in
      let m = count_with n x in
      let t = total (mask_by r x) in
      total_both (mask_by r x) (masks_at r xs)
      ∙ (
      ap (op t) (all_owned r m xs bs parts.1 apart)
      ∙ (
      ap (λ (y : T). op y (each (own_total r m xs) bs)) (sym (each_one d t bs parts.0 apart))
      ∙ (
      sym (each_both (by_one d t) (own_total r m xs) bs)
      ∙ each_same (λ c. op (by_one d t c) (own_total r m xs c)) (own_total r n ((x, d) ∷ xs)) bs (λ c. sym (one_more r (n, x) (d == c) (owned c m xs)))
      )
      )
      )

  -- and its lines
  all_told : (r : ℕ) (w : World) (bs : List Told) (lines : List (List Said)) → EachTells true w bs lines → Are bs (λ b. IsPlaced false b.acts)
      → each (own_total r (length w.before) w.happened) bs ≡ total (masks_of r bs lines)
  unfolding total each
  all_told r w [] [] tells placed = refl
  all_told r w (b ∷ bs) (said ∷ more) tells placed =
      ap (λ (l : List ℕ). op (total l) (each (own_total r (length w.before) w.happened) bs)) (client_matches r w b.client b.acts said (deeds_of w b.client) (placed zero b refl) tells.0)
      ∙ (ap (op (total (masks_in r b.acts said))) (all_told r w bs more tells.1 (λ i x e. placed (suc i) x e)) ∙ sym (total_both (masks_in r b.acts said) (masks_of r bs more)))
  all_told r w [] (said ∷ more) tells placed = absurd tells
  all_told r w (b ∷ bs) [] tells placed = absurd tells

  round_told : (r : ℕ) (w : World) (bs : List Told) (lines : List (List Said)) → AreTranscripts true w bs lines → AreBlocks bs → total (masks_at r w.happened) ≡ total (masks_of r bs lines)
  round_told r w bs lines t are = all_owned r (length w.before) w.happened bs t.owners are.apart ∙ all_told r w bs lines t.each are.placed

-- ---- the exclusive-or, and whether there is one
xor_total : List ℕ → ℕ
xor_total masks = total bit_xor 0 (λ (m : ℕ). m) xor_assoc xor_comm xor_zero_l masks

any_total : List ℕ → Bool
any_total masks = total (λ (a b : Bool). a || b) false (λ (m : ℕ). true) or_assoc or_comm (λ a. refl) masks

fold_xor : (s : ℕ) (masks : List ℕ) → fold bit_xor s masks ≡ bit_xor s (xor_total masks)
unfolding total xor_total
fold_xor s [] = sym (xor_zero_r s)
fold_xor s (m ∷ masks) = fold_xor (bit_xor s m) masks ∙ xor_assoc s m (xor_total masks)

xor_is : (masks : List ℕ) → xor_total masks ≡ xor_of masks
xor_is masks = sym (fold_xor 0 masks ∙ xor_zero_l (xor_total masks))

any_is : (masks : List ℕ) → any_total masks ≡ has_any masks
unfolding total any_total
any_is [] = refl
any_is (m ∷ masks) = refl

-- more masks
pub xor_both : (xs ys : List ℕ) → xor_of (xs ++ ys) ≡ bit_xor (xor_of xs) (xor_of ys)
unfolding xor_total
xor_both xs ys =
    sym (xor_is (xs ++ ys)) ∙ (total_both bit_xor 0 (λ (m : ℕ). m) xor_assoc xor_comm xor_zero_l xs ys ∙ (ap (λ (n : ℕ). bit_xor n (xor_total ys)) (xor_is xs) ∙ ap (bit_xor (xor_of xs)) (xor_is ys)))

pub any_both : (xs ys : List ℕ) → has_any (xs ++ ys) ≡ (has_any xs || has_any ys)
any_both [] ys = refl
any_both (x ∷ xs) ys = refl

-- ---- what they leave of a region
stray_one : (r s : ℕ) (x : Happening) → stray_step r s x ≡ bit_xor s (xor_of (mask_at r x))
stray_one r s (Strays q word mask, c) = by_test (q == r)
  where
    by_test : (b : Bool) → (if b then bit_xor s mask else s) ≡ bit_xor s (xor_of (if b then mask ∷ [] else []))
    by_test true = ap (bit_xor s) (sym (xor_zero_l mask))
    by_test false = sym (xor_zero_r s)
stray_one r s _ = sym (xor_zero_r s)

stray_is : (r s : ℕ) (xs : List Happening) → stray_after r s xs ≡ bit_xor s (xor_of (masks_at r xs))
stray_is r s [] = sym (xor_zero_r s)
stray_is r s (x ∷ xs) =
    stray_is r (stray_step r s x) xs
    ∙ (
    ap (λ (n : ℕ). bit_xor n (xor_of (masks_at r xs))) (stray_one r s x)
    ∙ (xor_assoc s (xor_of (mask_at r x)) (xor_of (masks_at r xs)) ∙ ap (bit_xor s) (sym (xor_both (mask_at r x) (masks_at r xs))))
    )

or_none : (p : Bool) → p ≡ (p || false)
or_none true = refl
or_none false = refl

or_some : (p : Bool) → true ≡ (p || true)
or_some true = refl
or_some false = refl

poked_one : (r : ℕ) (p : Bool) (x : Happening) → poked_step r p x ≡ (p || has_any (mask_at r x))
poked_one r p (Strays q word mask, c) = by_test (q == r)
  where
    by_test : (b : Bool) → (if b then true else p) ≡ (p || has_any (if b then mask ∷ [] else []))
    by_test true = or_some p
    by_test false = or_none p
poked_one r p _ = or_none p

pub poked_is : (r : ℕ) (p : Bool) (xs : List Happening) → poked_after r p xs ≡ (p || has_any (masks_at r xs))
poked_is r p [] = or_none p
poked_is r p (x ∷ xs) =
    poked_is r (poked_step r p x) xs
    ∙ (
    ap (λ (b : Bool). b || has_any (masks_at r xs)) (poked_one r p x)
    ∙ (or_assoc p (has_any (mask_at r x)) (has_any (masks_at r xs)) ∙ ap (λ (b : Bool). p || b) (sym (any_both (mask_at r x) (masks_at r xs))))
    )

-- ---- a round
pub stray_told : (r s : ℕ) (w : World) (bs : List Told) (lines : List (List Said)) → AreTranscripts true w bs lines → AreBlocks bs
    → stray_after r s w.happened ≡ bit_xor s (xor_of (masks_of r bs lines))
unfolding xor_total
stray_told r s w bs lines t are =
    stray_is r s w.happened
    ∙ ap (bit_xor s)
    (sym (xor_is (masks_at r w.happened)) ∙ (round_told bit_xor 0 (λ (m : ℕ). m) xor_assoc xor_comm xor_zero_l r w bs lines t are ∙ xor_is (masks_of r bs lines)))

pub poked_told : (r : ℕ) (p : Bool) (w : World) (bs : List Told) (lines : List (List Said)) → AreTranscripts true w bs lines → AreBlocks bs
    → poked_after r p w.happened ≡ (p || has_any (masks_of r bs lines))
unfolding any_total
poked_told r p w bs lines t are =
    poked_is r p w.happened
    ∙ ap (λ (b : Bool). p || b)
    (
    sym (any_is (masks_at r w.happened))
    ∙ (round_told (λ (a b : Bool). a || b) false (λ (m : ℕ). true) or_assoc or_comm (λ a. refl) r w bs lines t are ∙ any_is (masks_of r bs lines))
    )
