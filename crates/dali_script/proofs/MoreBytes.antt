-- Reading one byte more.
use Rattle.std.proofs.Common.{◌≡◌, ℕ, zero, suc, ◌+◌, ◌-◌, ◌*◌, ◌<◌, ◌≤◌, ◌^◌, Bool, true, false, cond, List, [], ◌∷◌, ◌++◌, length, drop, Option, Some, None, refl, sym, ◌∙◌, ap, arith, append_assoc}
use Rattle.std.proofs.lemmas.Bool.Decides.{nat_tests}
use Rattle.dali_script.specs.Texts.{◌>>=◌, digits_from, fits, within, bytes_of, first_of, number_of, hex_of, hex_from, nonzero}
use Rattle.std.proofs.lemmas.Nat.{pow-add}
use Rattle.std.proofs.Math.Nat.{pow-le-pow_right}
use Rattle.std.proofs.lemmas.List.{drop_more, drop_all}
use Rattle.std.proofs.Common.{get_or}
use Rattle.std.specs.Prelude.{◌==◌}

-- bytes that were read, and those that are read next
abbrev pub with_front : List ℕ → Option (List ℕ) → Option (List ℕ)
with_front front (Some bytes) = Some (front ++ bytes)
with_front front None = None

-- a number that is too large stays so
pub too_large : (n : ℕ) (text : List ℕ) → 2 ^ 64 ≤ n → (digits_from n text >>= fits) ≡ None
too_large n [] large = grind (arith, nat_tests)
too_large n (byte ∷ text) large = by_test (within 48 57 byte) (too_large (10 * n + (byte - 48)) text (omega (arith, large)))
  where
    by_test : (b : Bool) → (digits_from (10 * n + (byte - 48)) text >>= fits) ≡ None → (cond b (digits_from (10 * n + (byte - 48)) text) None >>= fits) ≡ None
    by_test true h = h
    by_test false h = refl

pub number_is : (text : List ℕ) (r : Option ℕ) (empty : Bool) → empty ≡ (length text == 0) → empty ≡ false → length text ≤ 20 → (digits_from 0 text >>= fits) ≡ r → number_of text ≡ r
number_is text r empty test some few is = grind (arith, nat_tests)

-- the digit that makes a number too large
pub overflows : (n byte k : ℕ) (text : List ℕ) (total : Option ℕ) → k < length text → byte ≡ get_or text k 0 → 2 ^ 64 ≤ 10 * n + (byte - 48) → (digits_from n (drop k text) >>= fits) ≡ total → total ≡ None
overflows n byte k text total inside is large so_far = sym so_far ∙ ap (λ (l : List ℕ). digits_from n l >>= fits) (drop_more text k 0 inside ∙ ap (λ (b : ℕ). b ∷ drop (k + 1) text) (sym is)) ∙ by_test (within 48 57 byte)
  where
    after : (digits_from (10 * n + (byte - 48)) (drop (k + 1) text) >>= fits) ≡ None
    after = too_large (10 * n + (byte - 48)) (drop (k + 1) text) large

    by_test : (b : Bool) → (cond b (digits_from (10 * n + (byte - 48)) (drop (k + 1) text)) None >>= fits) ≡ None
    by_test true = after
    by_test false = refl

pub ends : (n k : ℕ) (text : List ℕ) (total : Option ℕ) → length text ≤ k → n < 2 ^ 64 → (digits_from n (drop k text) >>= fits) ≡ total → total ≡ Some n
ends n k text total all small so_far = sym so_far ∙ ap (λ (l : List ℕ). digits_from n l >>= fits) (drop_all k text all) ∙ fit n small
  where
    fit : (n : ℕ) → n < 2 ^ 64 → fits n ≡ Some n
    fit n small = grind (arith, nat_tests)

pub with_nothing : (read : Option (List ℕ)) → with_front [] read ≡ read
with_nothing (Some bytes) = refl
with_nothing None = refl

regroup : (front : List ℕ) (byte : ℕ) (read : Option (List ℕ)) → with_front front (read >>= λ bytes. Some (byte ∷ bytes)) ≡ with_front (front ++ byte ∷ []) read
regroup front byte (Some bytes) = ap Some (sym (append_assoc front (byte ∷ []) bytes))
regroup front byte None = refl

-- one byte more
pub goes_on : (n left : ℕ) (front new rest behind : List ℕ) (byte : ℕ) (total : Option (List ℕ)) → n ≡ suc left → new ≡ front ++ byte ∷ [] → first_of rest ≡ Some (byte, behind) → with_front front (bytes_of n rest) ≡ total → with_front new (bytes_of left behind) ≡ total
goes_on n left front new [] behind byte total more added first so_far = absurd cc
goes_on n left front new (b ∷ rest) behind byte total more added first so_far =
    ap (λ (l : List ℕ). with_front l (bytes_of left behind)) added ∙ sym (regroup front byte (bytes_of left behind))
    ∙ ap (λ (x : Option (ℕ × List ℕ)). with_front front (x >>= λ y. bytes_of left y.1 >>= λ bytes. Some (y.0 ∷ bytes))) (sym first)
    ∙ ap (λ (k : ℕ). with_front front (bytes_of k (b ∷ rest))) (sym more) ∙ so_far

-- a byte that stands for nothing
pub stops : (n : ℕ) (front rest : List ℕ) (total : Option (List ℕ)) → 0 < length rest → first_of rest ≡ None → with_front front (bytes_of n rest) ≡ total → total ≡ None
stops n front [] total some first so_far = absurd (omega (arith, some))
stops zero front (b ∷ rest) total some first so_far = sym so_far
stops (suc n) front (b ∷ rest) total some first so_far = sym so_far ∙ ap (λ (x : Option (ℕ × List ℕ)). with_front front (x >>= λ y. bytes_of n y.1 >>= λ bytes. Some (y.0 ∷ bytes))) first

-- ---- masks
bound_of : (i : ℕ) → i < 16 → 2 ^ (4 * i) ≤ 2 ^ 60
bound_of i below = let exponent : 4 * i ≤ 60 = omega (arith, below) in pow-le-pow_right {n = 2} (omega arith) exponent

pub room_for_a_digit : (n i digit : ℕ) → n < 2 ^ (4 * i) → i < 16 → digit < 16 → 16 * n + digit < 2 ^ 64
room_for_a_digit n i digit small below d = omega (arith, small, d, bound_of i below)

pub small_with_a_digit : (n i digit : ℕ) → n < 2 ^ (4 * i) → digit < 16 → 16 * n + digit < 2 ^ (4 * (i + 1))
small_with_a_digit n i digit small d =
    let exponent : 4 * (i + 1) ≡ 4 * i + 4 = omega arith in
    let power : 2 ^ (4 * (i + 1)) ≡ 2 ^ (4 * i) * 16 = ap (λ (k : ℕ). 2 ^ k) exponent ∙ pow-add 2 (4 * i) 4 in
    omega (arith, small, d, power)

-- one hexadecimal digit more
pub mask_goes_on : (n byte digit k : ℕ) (text : List ℕ) (total : Option ℕ) → k < length text → byte ≡ get_or text k 0 → hex_of byte ≡ Some digit → (hex_from n (drop k text) >>= nonzero) ≡ total → (hex_from (16 * n + digit) (drop (k + 1) text) >>= nonzero) ≡ total
mask_goes_on n byte digit k text total inside is one so_far = sym (ap (λ (l : List ℕ). hex_from n l >>= nonzero) (drop_more text k 0 inside ∙ ap (λ (b : ℕ). b ∷ drop (k + 1) text) (sym is)) ∙ ap (λ (o : Option ℕ). (o >>= λ d. hex_from (16 * n + d) (drop (k + 1) text)) >>= nonzero) one) ∙ so_far
