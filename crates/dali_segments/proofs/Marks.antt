-- Segments that are dropped, all at once, by the mark's new length.
use Rattle.std.specs.Prelude.{◌⊎◌, ◌*◌, Bool, true, false, replicate}
use Rattle.std.proofs.Common.{◌≡◌, inl, inr, ⊎_elim, ℕ, zero, suc, ◌+◌, ◌-◌, ◌≤◌, ◌<◌, List, ◌++◌, length, get_or, take, drop, refl, sym, ◌∙◌, ap, subst, arith, length-append}
use Rattle.std.proofs.lemmas.List.{take-append-le, get_or-append-add, get_or_append_left, get_or-replicate, get_or_past, length-replicate}
use Rattle.std.proofs.lemmas.Bool.Decides.{nat_tests}
use Rattle.std.proofs.Math.Seq.{drop-append-add}
use Rattle.std.proofs.Math.Nat.{suc-mul}
use Rattle.dali_store.specs.Drops.{DroppedIn}
use Rattle.dali_files.specs.Files.{Contents, TornIn}
use Rattle.dali_files.specs.declared.key.FileKey.TheVariants.{Segment}
use Rattle.dali_segments.specs.Pieces.{joined}
use Rattle.dali_segments.specs.Segments.{mark, is_dropped, piece, log_of, store_of}
use Rattle.dali_segments.proofs.Joins.{HasSize, size_or, joined_full, joined_short, joined_same}
use Rattle.dali_segments.proofs.Logs.{images_same, piece_dropped, piece_kept, other_segment}

-- each byte is as before or 00, and from a place on they are the same
record Fades (below : ℕ) (old new : List ℕ) : Type 0 where
  size : length new ≡ length old
  behind : drop below new ≡ drop below old
  each : (i : ℕ) → (get_or new i 0 ≡ get_or old i 0) ⊎ (get_or new i 0 ≡ 0)

fades_same : (below : ℕ) (xs ys : List ℕ) → ys ≡ xs → Fades below xs ys
fades_same below xs ys same = record {
  size = ap length same;
  behind = ap (λ (l : List ℕ). drop below l) same;
  each = λ i. inl (ap (λ (l : List ℕ). get_or l i 0) same);
}

-- bytes that fade, and more of them behind
fades_on : (below : ℕ) (a b xs ys : List ℕ) → length b ≡ length a → ((i : ℕ) → (get_or b i 0 ≡ get_or a i 0) ⊎ (get_or b i 0 ≡ 0))
    → Fades below xs ys → Fades (length a + below) (a ++ xs) (b ++ ys)
fades_on below a b xs ys long each rest = record {
  size = omega (arith, long, rest.size, length-append a xs, length-append b ys);
  behind =
      ap (λ (n : ℕ). drop (n + below) (b ++ ys)) (sym long)
      ∙ drop-append-add b ys below
      ∙ rest.behind
      ∙ sym (drop-append-add a xs below);
  each = λ i. by_place i (place i);
}
  where
    place : (i : ℕ) → (i < length a) ⊎ (length a ≤ i)
    place i = grind arith

    there : (i : ℕ) → length a ≤ i → i ≡ length a + (i - length a)
    there i le = omega (arith, le)

    past_a : (i : ℕ) → length a ≤ i → get_or (a ++ xs) i 0 ≡ get_or xs (i - length a) 0
    past_a i le = ap (λ (k : ℕ). get_or (a ++ xs) k 0) (there i le) ∙ get_or-append-add a xs (i - length a) 0

    past_b : (i : ℕ) → length a ≤ i → get_or (b ++ ys) i 0 ≡ get_or ys (i - length a) 0
    past_b i le =
        ap (λ (k : ℕ). get_or (b ++ ys) k 0) (there i le ∙ ap (λ (n : ℕ). n + (i - length a)) (sym long))
        ∙ get_or-append-add b ys (i - length a) 0

    in_a : (i : ℕ) → i < length a → get_or (a ++ xs) i 0 ≡ get_or a i 0
    in_a i lt = get_or_append_left a xs 0 i lt

    in_b : (i : ℕ) → i < length a → get_or (b ++ ys) i 0 ≡ get_or b i 0
    in_b i lt = get_or_append_left b ys 0 i (omega (arith, lt, long))

    by_place : (i : ℕ) → (i < length a) ⊎ (length a ≤ i) → (get_or (b ++ ys) i 0 ≡ get_or (a ++ xs) i 0) ⊎ (get_or (b ++ ys) i 0 ≡ 0)
    by_place i (inl lt) = ⊎_elim (λ same. inl (in_b i lt ∙ same ∙ sym (in_a i lt))) (λ none. inr (in_b i lt ∙ none)) (each i)
    by_place i (inr le) = ⊎_elim (λ same. inl (past_b i le ∙ same ∙ sym (past_a i le))) (λ none. inr (past_b i le ∙ none)) (rest.each (i - length a))

-- a piece is the same, or it is full, becomes 00, and ends below a place
abbrev pub IsFading : ℕ → ℕ → ℕ → List ℕ → List ℕ → Type 0
IsFading size j below old new = (new ≡ old) ⊎ ((length old ≡ size) × ((new ≡ replicate size 0) × (suc j * size ≤ below)))

fading_long : (size j below : ℕ) (a b : List ℕ) → IsFading size j below a b → length a ≡ size → length b ≡ length a
fading_long size j below a b (inl same) full = ap length same
fading_long size j below a b (inr zeros) full = ap length zeros.1.0 ∙ length-replicate size 0 ∙ sym full

fading_each : (size j below : ℕ) (a b : List ℕ) → IsFading size j below a b → (i : ℕ) → (get_or b i 0 ≡ get_or a i 0) ⊎ (get_or b i 0 ≡ 0)
fading_each size j below a b (inl same) i = inl (ap (λ (l : List ℕ). get_or l i 0) same)
fading_each size j below a b (inr zeros) i = inr (ap (λ (l : List ℕ). get_or l i 0) zeros.1.0 ∙ zero_at i)
  where
    none : ℕ
    none = 0

    inside_or : (i n : ℕ) → (i < n) ⊎ (n ≤ i)
    inside_or i n = grind arith

    zero_at : (i : ℕ) → get_or (replicate size none) i none ≡ none
    zero_at i = ⊎_elim
        (λ lt. get_or-replicate size i none none lt)
        (λ past. get_or_past (replicate size none) i none (omega (arith, past, length-replicate size none)))
        (inside_or i size)

fades_step : (size : ℕ) (p q : ℕ → List ℕ) (n f below : ℕ) → IsFading size 0 below (p n) (q n)
    → ((size ≤ below) → Fades (below - size) (joined size p (suc n) f) (joined size q (suc n) f))
    → ((below < size) → joined size q n (suc f) ≡ joined size p n (suc f))
    → HasSize (length (p n)) size → Fades below (joined size p n (suc f)) (joined size q n (suc f))
fades_step size p q n f below is rest none (inr short) = fades_same below (joined size p n (suc f)) (joined size q n (suc f)) same
  where
    first : q n ≡ p n
    first = ⊎_elim (λ as_before. as_before) (λ zeros. absurd (short.1 zeros.0)) is

    same : joined size q n (suc f) ≡ joined size p n (suc f)
    same = joined_short size q n f (λ full. short.1 (sym (ap length first) ∙ full)) ∙ first ∙ sym (joined_short size p n f short.1)
fades_step size p q n f below is rest none (inl full) = by_place (place below size)
  where
    place : (below size : ℕ) → (size ≤ below) ⊎ (below < size)
    place below size = grind arith

    long : length (q n) ≡ length (p n)
    long = fading_long size 0 below (p n) (q n) is full.1

    by_place : (size ≤ below) ⊎ (below < size) → Fades below (joined size p n (suc f)) (joined size q n (suc f))
    by_place (inl le) =
        let here : length (p n) + (below - size) ≡ below = omega (arith, full.1, le) in
        subst (λ (k : ℕ). Fades k (joined size p n (suc f)) (joined size q n (suc f))) here
        (
        subst (λ (l : List ℕ). Fades (length (p n) + (below - size)) l (joined size q n (suc f))) (sym (joined_full size p n f full.1))
        (
        subst (λ (l : List ℕ). Fades (length (p n) + (below - size)) (p n ++ joined size p (suc n) f) l) (sym (joined_full size q n f (long ∙ full.1)))
        (
        fades_on (below - size) (p n) (q n) (joined size p (suc n) f) (joined size q (suc n) f) long
        (fading_each size 0 below (p n) (q n) is) (rest le)
        )
        )
        )
    by_place (inr lt) = fades_same below (joined size p n (suc f)) (joined size q n (suc f)) (none lt)

-- below a piece's size no piece changes
fading_none : (size j below : ℕ) (a b : List ℕ) → below < size → IsFading size j below a b → b ≡ a
fading_none size j below a b lt (inl same) = same
fading_none size j below a b lt (inr zeros) = absurd (omega (arith, lt, zeros.1.1, suc-mul j size))

fading_less : (size j below : ℕ) (a b : List ℕ) → size ≤ below → IsFading size (suc j) below a b → IsFading size j (below - size) a b
fading_less size j below a b le (inl same) = inl same
fading_less size j below a b le (inr zeros) = inr (zeros.0, (zeros.1.0, omega (arith, le, zeros.1.1, suc-mul (suc j) size)))

fades_joined : (size : ℕ) (p q : ℕ → List ℕ) (n f below : ℕ) → ((j : ℕ) → j < f → IsFading size j below (p (n + j)) (q (n + j)))
    → Fades below (joined size p n f) (joined size q n f)
fades_joined size p q n zero below is =
    fades_same below (joined size p n zero) (joined size q n zero) (joined_same size p q n zero (λ k from lt. absurd (omega (arith, from, lt))))
fades_joined size p q n (suc f) below is =
    let here : n + 0 ≡ n = omega arith in
    fades_step size p q n f below
    (subst (λ (k : ℕ). IsFading size 0 below (p k) (q k)) here (is 0 (omega arith)))
    (λ le.
    fades_joined size p q (suc n) f (below - size) (λ j lt.
    let next : n + suc j ≡ suc n + j = omega arith in
    fading_less size j below (p (suc n + j)) (q (suc n + j)) le
    (subst (λ (k : ℕ). IsFading size (suc j) below (p k) (q k)) next (is (suc j) (omega (arith, lt))))))
    (λ lt. joined_same size p q n (suc f) (λ k from under.
    let there : n + (k - n) ≡ k = omega (arith, from) in
    subst (λ (i : ℕ). q i ≡ p i) there (fading_none size (k - n) below (p (n + (k - n))) (q (n + (k - n))) lt (is (k - n) (omega (arith, from, under))))))
    (size_or (length (p n)) size)

-- the first piece stays, and so do the first 64 bytes
front_step : (size : ℕ) (p q : ℕ → List ℕ) (f : ℕ) → 64 ≤ size → q 0 ≡ p 0 → HasSize (length (p 0)) size
    → take 64 (joined size q 0 (suc f)) ≡ take 64 (joined size p 0 (suc f))
front_step size p q f large same (inl full) =
    ap (λ (l : List ℕ). take 64 l) (joined_full size q 0 f (ap length same ∙ full.1))
    ∙ take-append-le 64 (q 0) (joined size q 1 f) (omega (arith, large, full.1, ap length same))
    ∙ ap (λ (l : List ℕ). take 64 l) same
    ∙ sym (take-append-le 64 (p 0) (joined size p 1 f) (omega (arith, large, full.1)))
    ∙ ap (λ (l : List ℕ). take 64 l) (sym (joined_full size p 0 f full.1))
front_step size p q f large same (inr short) =
    ap (λ (l : List ℕ). take 64 l) (joined_short size q 0 f (λ full. short.1 (sym (ap length same) ∙ full)) ∙ same ∙ sym (joined_short size p 0 f short.1))

-- the mark grows over segments that are full and end at a place or before it
module _ (size below at m : ℕ) (large : 64 ≤ size) (old new : Contents) (torn : TornIn mark at m old new)
    (full : (n : ℕ) → length (old mark) < n → n ≤ length (new mark) → n < 4095 → (length (piece size old n) ≡ size) × (suc n * size ≤ below)) where
  test_or : (b : Bool) → (b ≡ true) ⊎ (b ≡ false)
  test_or true = inl refl
  test_or false = inr refl

  grows : length (old mark) ≤ length (new mark)
  grows = torn.torn.no_shorter

  more_dropped : (a b n : ℕ) → a ≤ b → is_dropped a n ≡ true → is_dropped b n ≡ true
  more_dropped a b n le is = grind (arith, nat_tests)

  between : (a b n : ℕ) → is_dropped a n ≡ false → is_dropped b n ≡ true → (a < n) × (n ≤ b)
  between a b n before now = (above a b n before now, under b n now)
    where
      above : (a b n : ℕ) → is_dropped a n ≡ false → is_dropped b n ≡ true → a < n
      above a b n before now = grind (arith, nat_tests)

      under : (b n : ℕ) → is_dropped b n ≡ true → n ≤ b
      under b n now = grind (arith, nat_tests)

  same_bytes : (n : ℕ) → n < 4095 → new (Segment n) ≡ old (Segment n)
  same_bytes n lt = torn.same (Segment n) (other_segment n 4095 (λ is. omega (arith, is, lt)))

  fading : (n : ℕ) → n < 4095 → IsFading size n below (piece size old n) (piece size new n)
  fading n lt = ⊎_elim
      (λ before. inl (piece_dropped size new n (more_dropped (length (old mark)) (length (new mark)) n grows before) ∙ sym (piece_dropped size old n before)))
      (λ before. ⊎_elim
      (λ now.
      let place = between (length (old mark)) (length (new mark)) n before now in
      let is = full n place.0 place.1 lt in
      inr (is.0, (piece_dropped size new n now, is.1)))
      (λ now. inl (piece_kept size new n now ∙ same_bytes n lt ∙ sym (piece_kept size old n before)))
      (test_or (is_dropped (length (new mark)) n)))
      (test_or (is_dropped (length (old mark)) n))

  fades : Fades below (log_of size old) (log_of size new)
  fades = fades_joined size (λ n. piece size old n) (λ n. piece size new n) 0 4095 below (λ j lt.
      let here : j ≡ 0 + j = omega arith in
      subst (λ (k : ℕ). IsFading size j below (piece size old k) (piece size new k)) here (fading j lt))

  first : piece size new 0 ≡ piece size old 0
  first = same_bytes 0 (omega arith)

  front : take 64 (log_of size new) ≡ take 64 (log_of size old)
  front = front_step size (λ n. piece size old n) (λ n. piece size new n) 4094 large first (size_or (length (piece size old 0)) size)

  pub dropped_store : DroppedIn below (store_of size old) (store_of size new)
  dropped_store = record {
    dropped = record { size = fades.size; front = front; behind = fades.behind; each = fades.each };
    same = images_same size 4095 old new torn.same;
  }
