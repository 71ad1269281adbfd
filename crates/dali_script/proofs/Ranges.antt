-- What numbers, masks and values of a script can be.
use Rattle.std.proofs.Common.{◌≡◌, ℕ, zero, suc, ◌+◌, ◌*◌, ◌^◌, ◌<◌, ◌≤◌, Bool, true, false, cond, ◌||◌, List, [], ◌∷◌, length, Option, Some, None, refl, ap, subst, ◌∙◌, arith}
use Rattle.std.specs.Prelude.{Ok, Err, ok_or, nat_lt, ◌==◌, All}
use Rattle.std.specs.Char.{digit_value}
use Rattle.std.proofs.lemmas.Bool.Decides.{nat_tests}
use Rattle.std.proofs.lemmas.List.Elements.{All-nil, All-cons}
use Rattle.std.proofs.Math.Nat.{pow-le-pow_right}
use Rattle.dali_words.specs.Values.{is_size, IsValue, value_of}
use Rattle.dali_script.specs.Texts.{◌>>=◌, within, digits_from, fits, number_of, hex_of, hex_from, nonzero, mask_of, escaped, first_byte, bytes_of, value_in}
use Rattle.dali_script.specs.Items.{Text, range_of, number_in, key_in, mask_in, stored_in}
use Rattle.dali_script.specs.declared.faults.Kind.{Kind}
use Rattle.dali_script.specs.declared.faults.Kind.TheVariants as kind
use Rattle.dali_script.proofs.MoreBytes.{small_with_a_digit}

-- ---- options in a row
pub then_some : {A B : Type 0} (o : Option A) (f : A → Option B) (y : B) → (o >>= f) ≡ Some y → (x : A) × (o ≡ Some x) × (f x ≡ Some y)
then_some (Some x) f y e = (x, refl, e)
then_some None f y e = absurd (cc)

some_ok : {A : Type 0} (o : Option A) (k : Kind) (x : A) → ok_or o k ≡ Ok x → o ≡ Some x
some_ok (Some a) k x e = let same : a ≡ x = cc in ap Some same
some_ok None k x e = absurd (cc)

-- a test that leaves something
unless : {A : Type 0} (b : Bool) (o : Option A) (x : A) → cond b None o ≡ Some x → (b ≡ false) × (o ≡ Some x)
unless true o x e = absurd (cc)
unless false o x e = (refl, e)

where_so : {A : Type 0} (b : Bool) (o : Option A) (x : A) → cond b o None ≡ Some x → (b ≡ true) × (o ≡ Some x)
where_so true o x e = (refl, e)
where_so false o x e = absurd (cc)

-- ---- numbers
between : (low high n : ℕ) → within low high n ≡ true → (low ≤ n) × (n ≤ high)
between low high n e = (grind (arith, nat_tests, e), grind (arith, nat_tests, e))

pub ranged : (low high : ℕ) (text : Text) (n : ℕ) → number_in low high text ≡ Ok n → (low ≤ n) × (n ≤ high)
ranged low high text n e = by_number (number_of text) e
  where
    by_test : (b : Bool) (m : ℕ) → within low high m ≡ b → cond b (Ok m) (Err kind.Number) ≡ Ok n → (low ≤ n) × (n ≤ high)
    by_test true m is f = let same : m ≡ n = cc in subst (λ (k : ℕ). (low ≤ k) × (k ≤ high)) same (between low high m is)
    by_test false m is f = absurd (cc)

    by_number : (o : Option ℕ) → range_of low high o ≡ Ok n → (low ≤ n) × (n ≤ high)
    by_number (Some m) f = by_test (within low high m) m refl f
    by_number None f = absurd (cc)

small : (o : Option ℕ) (n : ℕ) → (o >>= fits) ≡ Some n → n < 2 ^ 64
small o n e = let read = then_some o fits n e in by_fit read.0 read.2
  where
    by_fit : (m : ℕ) → fits m ≡ Some n → n < 2 ^ 64
    by_fit m f = let so = where_so (nat_lt m (2 ^ 64)) (Some m) n f in let same : m ≡ n = cc in subst (λ (k : ℕ). k < 2 ^ 64) same (grind (arith, nat_tests, so.0))

pub key_fits : (text : Text) (n : ℕ) → key_in text ≡ Ok n → n < 2 ^ 64
key_fits text n e = small (digits_from 0 text) n (unless ((length text == 0) || nat_lt 20 (length text)) (digits_from 0 text >>= fits) n (some_ok (number_of text) kind.Number n e)).1

-- ---- hexadecimal digits
hex_small : (byte digit : ℕ) → hex_of byte ≡ Some digit → digit < 16
hex_small byte digit e = below (digit_value byte) e
  where
    below : (n : ℕ) → cond (nat_lt n 16) (Some n) None ≡ Some digit → digit < 16
    below n f =
        let so = where_so (nat_lt n 16) (Some n) digit f in
        let same : n ≡ digit = cc in
        subst (λ (k : ℕ). k < 16) same (grind (arith, nat_tests, so.0))

hex_bounded : (text : List ℕ) (n i m : ℕ) → n < 2 ^ (4 * i) → hex_from n text ≡ Some m → m < 2 ^ (4 * (i + length text))
hex_bounded [] n i m below e =
    let same : n ≡ m = cc in
    let count : i ≡ i + 0 = omega arith in
    subst (λ (k : ℕ). m < 2 ^ (4 * k)) count (subst (λ (k : ℕ). k < 2 ^ (4 * i)) same below)
hex_bounded (byte ∷ text) n i m below e =
    let first = then_some (hex_of byte) (λ digit. hex_from (16 * n + digit) text) m e in
    let digit : ℕ = first.0 in
    let rest = hex_bounded text (16 * n + digit) (i + 1) m (small_with_a_digit n i digit below (hex_small byte digit first.1)) first.2 in
    let count : (i + 1) + length text ≡ i + suc (length text) = omega arith in
    subst (λ (k : ℕ). m < 2 ^ (4 * k)) count rest

pub mask_fits : (text : Text) (m : ℕ) → mask_in text ≡ Ok m → (1 ≤ m) × (m < 2 ^ 64)
mask_fits text m e =
    let right = unless ((length text == 0) || nat_lt 16 (length text)) (hex_from 0 text >>= nonzero) m (some_ok (mask_of text) kind.Number m e) in
    let read = then_some (hex_from 0 text) nonzero m right.1 in
    let some = unless (read.0 == 0) (Some read.0) m read.2 in
    let same : read.0 ≡ m = cc in
    let few : length text ≤ 16 = grind (arith, nat_tests, right.0) in
    let bound : m < 2 ^ (4 * (0 + length text)) = hex_bounded text 0 0 m (omega arith) (read.1 ∙ ap Some same) in
    let exponent : 4 * (0 + length text) ≤ 64 = omega (arith, few) in
    let power : 2 ^ (4 * (0 + length text)) ≤ 2 ^ 64 = pow-le-pow_right {n = 2} (omega arith) exponent in
    let above : 1 ≤ read.0 = grind (arith, nat_tests, some.0) in
    (subst (λ (k : ℕ). 1 ≤ k) same above, omega (arith, bound, power))

-- ---- values
escaped_small : (text : List ℕ) (x : ℕ × List ℕ) → escaped text ≡ Some x → x.0 < 256
escaped_small [] x e = absurd (cc)
escaped_small (a ∷ []) x e = absurd (cc)
escaped_small (a ∷ high ∷ []) x e = absurd (cc)
escaped_small (a ∷ high ∷ low ∷ rest) x e =
    let right = where_so (a == 120) (hex_of high >>= λ h. hex_of low >>= λ l. Some (16 * h + l, rest)) x e in
    let one = then_some (hex_of high) (λ h. hex_of low >>= λ l. Some (16 * h + l, rest)) x right.1 in
    let two = then_some (hex_of low) (λ l. Some (16 * one.0 + l, rest)) x one.2 in
    let same : (16 * one.0 + two.0, rest) ≡ x = cc in
    subst (λ (y : ℕ × List ℕ). y.0 < 256) same (omega (arith, hex_small high one.0 one.1, hex_small low two.0 two.1))

first_small : (byte : ℕ) (rest : List ℕ) (x : ℕ × List ℕ) → first_byte byte rest ≡ Some x → x.0 < 256
first_small byte rest x e = by_escape (byte == 92) e
  where
    by_seen : (b : Bool) → within 33 126 byte ≡ b → cond b (Some (byte, rest)) None ≡ Some x → x.0 < 256
    by_seen true is f = let same : (byte, rest) ≡ x = cc in subst (λ (y : ℕ × List ℕ). y.0 < 256) same (omega (arith, (between 33 126 byte is).1))
    by_seen false is f = absurd (cc)

    by_escape : (b : Bool) → cond b (escaped rest) (cond (within 33 126 byte) (Some (byte, rest)) None) ≡ Some x → x.0 < 256
    by_escape true f = escaped_small rest x f
    by_escape false f = by_seen (within 33 126 byte) refl f

bytes_small : (n : ℕ) (text bytes : List ℕ) → bytes_of n text ≡ Some bytes → All (λ b. b < 256) bytes
bytes_small n [] bytes e = let same : [] ≡ bytes = cc in subst (All (λ b. b < 256)) same (All-nil (λ b. b < 256))
bytes_small zero (byte ∷ rest) bytes e = absurd (cc)
bytes_small (suc n) (byte ∷ rest) bytes e =
    let first = then_some (first_byte byte rest) (λ x. bytes_of n x.1 >>= λ bs. Some (x.0 ∷ bs)) bytes e in
    let x : ℕ × List ℕ = first.0 in
    let more = then_some (bytes_of n x.1) (λ bs. Some (x.0 ∷ bs)) bytes first.2 in
    let same : (x.0 ∷ more.0) ≡ bytes = cc in
    subst (All (λ b. b < 256)) same (All-cons (λ b. b < 256) x.0 more.0 (first_small byte rest x first.1) (bytes_small n x.1 more.0 more.1))

pub stored_is_value : (text : Text) (v : List ℕ) → stored_in text ≡ Ok v → IsValue v
stored_is_value text v e =
    let read = then_some (bytes_of 40 text) value_of v (some_ok (value_in text) kind.Value v e) in
    let right = where_so (is_size (length read.0)) (Some read.0) v read.2 in
    let same : read.0 ≡ v = cc in
    subst IsValue same (right.0, bytes_small 40 text read.0 read.1)
