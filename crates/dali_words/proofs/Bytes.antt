-- A value comes back from the words that it was packed into.
use Rattle.std.proofs.Common.{◌≡◌, ℕ, ◌+◌, ◌-◌, ◌*◌, ◌/◌, ◌%◌, ◌^◌, ◌<◌, ◌≤◌, List, [], ◌∷◌, ◌++◌, length, take, drop, replicate, refl, ap, sym, ◌∙◌, arith, All, true, length-append, length-drop, take-append-drop, drop-drop, drop_of_length-le}
use Rattle.std.proofs.Math.Seq.{take-append_seam}
use Rattle.std.proofs.lemmas.Bool.Decides.{nat_tests}
use Rattle.std.proofs.lemmas.List.Elements.{All-append, All-replicate, All-drop}
use Rattle.std.proofs.lemmas.List.{length-replicate}
use Rattle.dali_words.specs.Values.{packed, unpacked, is_size, IsValue, number_after, word_at, bytes_of_word, bytes_of_words}

-- eight bytes come back from their word
pub eight_bytes : (a b c d e f g h : ℕ) → a < 256 → b < 256 → c < 256 → d < 256 → e < 256 → f < 256 → g < 256 → h < 256 → bytes_of_word (number_after 0 (a ∷ b ∷ c ∷ d ∷ e ∷ f ∷ g ∷ h ∷ [])) ≡ a ∷ b ∷ c ∷ d ∷ e ∷ f ∷ g ∷ h ∷ []
eight_bytes a b c d e f g h p0 p1 p2 p3 p4 p5 p6 p7 =
    let w : ℕ = 256 * (256 * (256 * (256 * (256 * (256 * (256 * (256 * 0 + a) + b) + c) + d) + e) + f) + g) + h in
    let e0 : w / 2 ^ 56 % 256 ≡ a = omega arith in
    let e1 : w / 2 ^ 48 % 256 ≡ b = omega arith in
    let e2 : w / 2 ^ 40 % 256 ≡ c = omega arith in
    let e3 : w / 2 ^ 32 % 256 ≡ d = omega arith in
    let e4 : w / 2 ^ 24 % 256 ≡ e = omega arith in
    let e5 : w / 2 ^ 16 % 256 ≡ f = omega arith in
    let e6 : w / 2 ^ 8 % 256 ≡ g = omega arith in
    let e7 : w % 256 ≡ h = omega arith in
    rw (e0, e1, e2, e3, e4, e5, e6, e7) refl

abbrev AreBytes : List ℕ → Type 0
AreBytes xs = All (λ b. b < 256) xs

-- eight bytes at the front of a list
first_word : (xs : List ℕ) → 8 ≤ length xs → AreBytes xs → bytes_of_word (number_after 0 (take 8 xs)) ≡ take 8 xs
first_word (a ∷ b ∷ c ∷ d ∷ e ∷ f ∷ g ∷ h ∷ xs) long all =
    eight_bytes a b c d e f g h (all 0 0 (omega arith)) (all 1 0 (omega arith)) (all 2 0 (omega arith)) (all 3 0 (omega arith)) (all 4 0 (omega arith)) (all 5 0 (omega arith)) (all 6 0 (omega arith)) (all 7 0 (omega arith))
first_word _ long all = absurd (omega arith)

word_bytes : (xs : List ℕ) (i : ℕ) → 8 * i + 8 ≤ length xs → AreBytes xs → bytes_of_word (word_at xs i) ≡ take 8 (drop (8 * i) xs)
word_bytes xs i long all = first_word (drop (8 * i) xs) (omega (arith, length-drop (8 * i) xs)) (All-drop (λ b. b < 256) (8 * i) xs all)

-- five times eight
forty : (xs : List ℕ) → length xs ≡ 40 → take 8 (drop 0 xs) ++ (take 8 (drop 8 xs) ++ (take 8 (drop 16 xs) ++ (take 8 (drop 24 xs) ++ (take 8 (drop 32 xs) ++ [])))) ≡ xs
forty xs long = e0
  where
    e5 : drop 40 xs ≡ []
    e5 = drop_of_length-le xs {i = 40} (omega arith)

    piece : (n : ℕ) → take 8 (drop n xs) ++ drop (n + 8) xs ≡ drop n xs
    piece n = ap (λ ys. take 8 (drop n xs) ++ ys) (sym (drop-drop 8 n xs)) ∙ take-append-drop 8 (drop n xs)

    e4 : take 8 (drop 32 xs) ++ [] ≡ drop 32 xs
    e4 = ap (λ ys. take 8 (drop 32 xs) ++ ys) (sym e5) ∙ piece 32

    e3 : take 8 (drop 24 xs) ++ (take 8 (drop 32 xs) ++ []) ≡ drop 24 xs
    e3 = ap (λ ys. take 8 (drop 24 xs) ++ ys) e4 ∙ piece 24

    e2 : take 8 (drop 16 xs) ++ (take 8 (drop 24 xs) ++ (take 8 (drop 32 xs) ++ [])) ≡ drop 16 xs
    e2 = ap (λ ys. take 8 (drop 16 xs) ++ ys) e3 ∙ piece 16

    e1 : take 8 (drop 8 xs) ++ (take 8 (drop 16 xs) ++ (take 8 (drop 24 xs) ++ (take 8 (drop 32 xs) ++ []))) ≡ drop 8 xs
    e1 = ap (λ ys. take 8 (drop 8 xs) ++ ys) e2 ∙ piece 8

    e0 : take 8 (drop 0 xs) ++ (take 8 (drop 8 xs) ++ (take 8 (drop 16 xs) ++ (take 8 (drop 24 xs) ++ (take 8 (drop 32 xs) ++ [])))) ≡ xs
    e0 = ap (λ ys. take 8 (drop 0 xs) ++ ys) e1 ∙ piece 0

five_same : (x0 x1 x2 x3 x4 y0 y1 y2 y3 y4 : List ℕ) → x0 ≡ y0 → x1 ≡ y1 → x2 ≡ y2 → x3 ≡ y3 → x4 ≡ y4 → x0 ++ (x1 ++ (x2 ++ (x3 ++ (x4 ++ [])))) ≡ y0 ++ (y1 ++ (y2 ++ (y3 ++ (y4 ++ []))))
five_same x0 x1 x2 x3 x4 y0 y1 y2 y3 y4 e0 e1 e2 e3 e4 = rw (e0, e1, e2, e3, e4) refl

whole : (xs : List ℕ) → length xs ≡ 40 → AreBytes xs → bytes_of_words (word_at xs 0 ∷ word_at xs 1 ∷ word_at xs 2 ∷ word_at xs 3 ∷ word_at xs 4 ∷ []) ≡ xs
whole xs long all =
    five_same _ _ _ _ _ _ _ _ _ _ (word_bytes xs 0 (omega arith) all) (word_bytes xs 1 (omega arith) all) (word_bytes xs 2 (omega arith) all) (word_bytes xs 3 (omega arith) all) (word_bytes xs 4 (omega arith) all)
    ∙ forty xs long

size_fits : (n : ℕ) → is_size n ≡ true → n ≤ 40
size_fits n h = grind (arith, nat_tests)

-- a value comes back from its five words
pub unpacked-packed : (v : List ℕ) → IsValue v → unpacked (length v) (packed v) ≡ v
unpacked-packed v h =
    let fits : length v ≤ 40 = size_fits (length v) h.0 in
    let long : length (v ++ replicate (40 - length v) 0) ≡ 40 = omega (arith, length-append v (replicate (40 - length v) 0), length-replicate {A = ℕ} (40 - length v) 0) in
    let all : AreBytes (v ++ replicate (40 - length v) 0) = All-append (λ b. b < 256) v (replicate (40 - length v) 0) h.1 (All-replicate (λ b. b < 256) (40 - length v) 0 (omega arith)) in
    ap (take (length v)) (whole (v ++ replicate (40 - length v) 0) long all) ∙ take-append_seam v (replicate (40 - length v) 0)
