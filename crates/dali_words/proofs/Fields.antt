-- What the code does with the fields of a value.
use Rattle.std.proofs.Common.{◌≡◌, ℕ, ◌-◌, ◌*◌, ◌<◌, ◌≤◌, true, List, [], ◌∷◌, ◌++◌, length, take, drop, replicate, ap, sym, ◌∙◌, subst, arith, get_or, All, length-append, length-drop}
use Rattle.std.proofs.Math.Seq.{take-append_seam}
use Rattle.std.proofs.lemmas.Bool.Decides.{nat_tests}
use Rattle.std.proofs.lemmas.List.{drop-replicate, length-replicate, length-take-le}
use Rattle.std.proofs.lemmas.List.Elements.{All-from_get_or}
use Rattle.byteorder.specs.Endian.{big_from, big_number, IsRead}
use Rattle.dali_words.specs.Values.{number_after, word_at, packed, IsValue, is_size}

-- ---- eight bytes as a number
eight : (a b c d e f g h : ℕ) (xs : List ℕ) → big_from 0 8 (a ∷ b ∷ c ∷ d ∷ e ∷ f ∷ g ∷ h ∷ xs) ≡ number_after 0 (a ∷ b ∷ c ∷ d ∷ e ∷ f ∷ g ∷ h ∷ [])
eight a b c d e f g h xs = omega arith

number_is : (xs : List ℕ) → 8 ≤ length xs → big_from 0 8 xs ≡ number_after 0 (take 8 xs)
number_is (a ∷ b ∷ c ∷ d ∷ e ∷ f ∷ g ∷ h ∷ xs) long = eight a b c d e f g h xs
number_is _ long = absurd (omega arith)

-- the words that are read from 40 bytes
pub words_are : (bs ws : List ℕ) → length bs ≡ 40 → length ws ≡ 5 → IsRead big_number 8 bs ws → ws ≡ word_at bs 0 ∷ word_at bs 1 ∷ word_at bs 2 ∷ word_at bs 3 ∷ word_at bs 4 ∷ []
words_are bs (a ∷ b ∷ c ∷ d ∷ e ∷ []) long five read = let e0 = at 0 (omega arith) in let e1 = at 1 (omega arith) in let e2 = at 2 (omega arith) in let e3 = at 3 (omega arith) in let e4 = at 4 (omega arith) in cc
  where
    at : (k : ℕ) → k < 5 → get_or (a ∷ b ∷ c ∷ d ∷ e ∷ []) k 0 ≡ word_at bs k
    at k h = read k h ∙ number_is (drop (8 * k) bs) (omega (arith, length-drop (8 * k) bs))
words_are bs _ long five read = absurd (omega arith)

pub packs : (count : ℕ) (bs ws v : List ℕ) → count ≤ 40 → length bs ≡ 40 → bs ≡ take count bs ++ replicate (40 - count) 0 → take count bs ≡ v → length ws ≡ 5 → IsRead big_number 8 bs ws → ws ≡ packed v
packs count bs ws v few long whole is five read =
    let size : length v ≡ count = ap length (sym is) ∙ length-take-le count bs (omega arith) in
    let same : bs ≡ v ++ replicate (40 - length v) 0 = whole ∙ ap (λ xs. xs ++ replicate (40 - count) 0) is ∙ ap (λ n. v ++ replicate (40 - n) 0) (sym size) in
    words_are bs ws long five read ∙ ap (λ xs. word_at xs 0 ∷ word_at xs 1 ∷ word_at xs 2 ∷ word_at xs 3 ∷ word_at xs 4 ∷ []) same

-- ---- the fields of a value
pub size_is : (n : ℕ) → 1 ≤ n → n ≤ 40 → is_size n ≡ true
size_is n some few = grind (arith, nat_tests)

pub field_value : (count : ℕ) (bs v : List ℕ) → take count bs ≡ v → 1 ≤ count → count ≤ 40 → length bs ≡ 40 → All (λ b. b < 256) (take count bs) → IsValue v
field_value count bs v is some few long all =
    let size : length v ≡ count = ap length (sym is) ∙ length-take-le count bs (omega arith) in
    (size_is (length v) (omega arith) (omega arith), subst (λ xs. All (λ b. b < 256) xs) is all)

abbrev pub HasFields : ℕ → List ℕ → Type 0
HasFields count bs = (1 ≤ count) × (count ≤ 40) × (length bs ≡ 40) × (bs ≡ take count bs ++ replicate (40 - count) 0) × All (λ b. b < 256) (take count bs)

pub has_fields : (bs xs : List ℕ) → 1 ≤ length bs → length bs ≤ 40 → ((i : ℕ) → get_or bs i 0 < 256) → xs ≡ bs → HasFields (length bs) (xs ++ drop (length bs) (replicate 40 0))
has_fields bs xs some few small is =
    let rest : drop (length bs) (replicate 40 0) ≡ replicate (40 - length bs) 0 = drop-replicate (length bs) 40 0 in
    let same : bs ++ replicate (40 - length bs) 0 ≡ xs ++ drop (length bs) (replicate 40 0) = ap (λ ys. ys ++ replicate (40 - length bs) 0) (sym is) ∙ ap (λ ys. xs ++ ys) (sym rest) in
    let front : take (length bs) (bs ++ replicate (40 - length bs) 0) ≡ bs = take-append_seam bs (replicate (40 - length bs) 0) in
    let long : length (bs ++ replicate (40 - length bs) 0) ≡ 40 = omega (arith, length-append bs (replicate (40 - length bs) 0), length-replicate {A = ℕ} (40 - length bs) 0) in
    let all : All (λ b. b < 256) bs = All-from_get_or (λ b. b < 256) bs 0 (λ i _. small i) in
    let held : HasFields (length bs) (bs ++ replicate (40 - length bs) 0) = (some, few, long, ap (λ ys. ys ++ replicate (40 - length bs) 0) (sym front), subst (λ ys. All (λ b. b < 256) ys) (sym front) all) in
    subst (λ ys. HasFields (length bs) ys) same held
