-- A number that is read is the number that was written, and what was written is read again.
use Rattle.std.proofs.Common.{◌≡◌, ℕ, ◌+◌, ◌^◌, ◌<◌, ◌≤◌, Bool, true, false, cond, ltb, List, ◌++◌, length, take, drop, Some, None, refl, sym, subst, inl, inr, ◌∙◌, arith, length-append, length-drop}
use Rattle.std.specs.Int.{w32, w64, from_be_bytes}
use Rattle.std.proofs.lemmas.Bool.{cases_lt, le-ltb, ltb-false}
use Rattle.std.proofs.lemmas.List.{drop-drop, take_at, drop_at, take-append-drop, length-take, get_or-take, get_or-drop, get_or_past}
use Rattle.std.proofs.lemmas.Nat.{be_bytes_4, be_bytes_8}
use Rattle.byteorder.specs.Endian.{big_number}
use Rattle.byteorder.specs.Numbers.{big_number-reads_back, big_from-take, big_from-lt}
use Rattle.dali_bytes.specs.Cursor.{IsBytes}
use Rattle.dali_bytes.specs.Fields.{number32, number64}
use Rattle.dali_bytes.specs.Reading.{number32_at, number64_at, bytes_at}

big_4 : (bs : List ℕ) → big_number 4 bs ≡ from_be_bytes w32 bs
big_4 bs = omega arith

big_8 : (bs : List ℕ) → big_number 8 bs ≡ from_be_bytes w64 bs
big_8 bs = omega arith

pub IsBytes-take : (n : ℕ) (bs : List ℕ) → IsBytes bs → IsBytes (take n bs)
IsBytes-take n bs h i =
    elim (cases_lt i n) [
      | inl lt ↦ rw (get_or-take n bs i 0 lt) (h i)
      | inr le ↦ rw (get_or_past (take n bs) i 0 (omega (arith, length-take n bs))) (omega arith)
    ]

pub IsBytes-drop : (n : ℕ) (bs : List ℕ) → IsBytes bs → IsBytes (drop n bs)
IsBytes-drop n bs h i = rw get_or-drop (h (n + i))

pub length-number32 : (n : ℕ) → length (number32 n) ≡ 4
unfolding number32
length-number32 n = refl

pub length-number64 : (n : ℕ) → length (number64 n) ≡ 8
unfolding number64
length-number64 n = refl

pub number32-big : (bs : List ℕ) → 4 ≤ length bs → IsBytes bs → number32 (big_number 4 bs) ≡ take 4 bs
unfolding number32
number32-big bs long fits =
    be_bytes_4 (take 4 bs) (big_number 4 bs) (omega (arith, length-take 4 bs)) (IsBytes-take 4 bs fits) (sym (big_from-take 0 4 4 bs (omega arith)) ∙ big_4 (take 4 bs))

pub number64-big : (bs : List ℕ) → 8 ≤ length bs → IsBytes bs → number64 (big_number 8 bs) ≡ take 8 bs
unfolding number64
number64-big bs long fits =
    be_bytes_8 (take 8 bs) (big_number 8 bs) (omega (arith, length-take 8 bs)) (IsBytes-take 8 bs fits) (sym (big_from-take 0 8 8 bs (omega arith)) ∙ big_8 (take 8 bs))

pub number32_next : (bs : List ℕ) → 4 ≤ length bs → IsBytes bs → bs ≡ number32 (big_number 4 bs) ++ drop 4 bs
number32_next bs long fits = rw (number32-big bs long fits) (sym (take-append-drop 4 bs))

pub number64_next : (bs : List ℕ) → 8 ≤ length bs → IsBytes bs → bs ≡ number64 (big_number 8 bs) ++ drop 8 bs
number64_next bs long fits = rw (number64-big bs long fits) (sym (take-append-drop 8 bs))

-- a test that did not fail
pub guard_some : {A : Type 0} (b : Bool) (x y : A) → cond b None (Some x) ≡ Some y → (b ≡ false) × (x ≡ y)
guard_some true x y e = absurd cc
guard_some false x y e = (refl, cc)

-- what is read is a number, written so, and the bytes after it
pub number32_taken : (bs : List ℕ) (n : ℕ) (rest : List ℕ) → IsBytes bs → number32_at bs ≡ Some (n, rest) → (bs ≡ number32 n ++ rest) × (n < 2 ^ 32)
unfolding number32_at
number32_taken bs n rest fits e =
    let g = guard_some (ltb (length bs) 4) (big_number 4 bs, drop 4 bs) (n, rest) e in
    let long : 4 ≤ length bs = ltb-false _ _ g.0 in
    subst (λ (p : ℕ × List ℕ). (bs ≡ number32 p.0 ++ p.1) × (p.0 < 2 ^ 32)) g.1 (number32_next bs long fits, big_from-lt 0 4 bs fits)

back32 : (n : ℕ) (rest : List ℕ) → n < 2 ^ 32 → big_number 4 (number32 n ++ rest) ≡ n
unfolding number32
back32 n rest lt = big_number-reads_back 4 n rest lt

-- what is written so is read
pub number32_again : (n : ℕ) (rest : List ℕ) → n < 2 ^ 32 → number32_at (number32 n ++ rest) ≡ Some (n, rest)
unfolding number32_at
number32_again n rest lt =
    let len : length (number32 n) ≡ 4 = length-number32 n in
    let long : ltb (length (number32 n ++ rest)) 4 ≡ false = le-ltb _ _ (omega (arith, length-append (number32 n) rest)) in
    rw (long, drop_at (number32 n) rest 4 len, back32 n rest lt) refl

-- what is read is a number, written so, and the bytes after it
pub number64_taken : (bs : List ℕ) (n : ℕ) (rest : List ℕ) → IsBytes bs → number64_at bs ≡ Some (n, rest) → (bs ≡ number64 n ++ rest) × (n < 2 ^ 64)
unfolding number64_at
number64_taken bs n rest fits e =
    let g = guard_some (ltb (length bs) 8) (big_number 8 bs, drop 8 bs) (n, rest) e in
    let long : 8 ≤ length bs = ltb-false _ _ g.0 in
    subst (λ (p : ℕ × List ℕ). (bs ≡ number64 p.0 ++ p.1) × (p.0 < 2 ^ 64)) g.1 (number64_next bs long fits, big_from-lt 0 8 bs fits)

back64 : (n : ℕ) (rest : List ℕ) → n < 2 ^ 64 → big_number 8 (number64 n ++ rest) ≡ n
unfolding number64
back64 n rest lt = big_number-reads_back 8 n rest lt

-- what is written so is read
pub number64_again : (n : ℕ) (rest : List ℕ) → n < 2 ^ 64 → number64_at (number64 n ++ rest) ≡ Some (n, rest)
unfolding number64_at
number64_again n rest lt =
    let len : length (number64 n) ≡ 8 = length-number64 n in
    let long : ltb (length (number64 n ++ rest)) 8 ≡ false = le-ltb _ _ (omega (arith, length-append (number64 n) rest)) in
    rw (long, drop_at (number64 n) rest 8 len, back64 n rest lt) refl

-- what is taken are the first bytes
pub bytes_taken : (n : ℕ) (bs front rest : List ℕ) → bytes_at n bs ≡ Some (front, rest) → (bs ≡ front ++ rest) × (length front ≡ n)
unfolding bytes_at
bytes_taken n bs front rest e =
    let g = guard_some (ltb (length bs) n) (take n bs, drop n bs) (front, rest) e in
    let long : n ≤ length bs = ltb-false _ _ g.0 in
    subst (λ (p : List ℕ × List ℕ). (bs ≡ p.0 ++ p.1) × (length p.0 ≡ n)) g.1 (sym (take-append-drop n bs), omega (arith, length-take n bs))

pub bytes_again : (front rest : List ℕ) → bytes_at (length front) (front ++ rest) ≡ Some (front, rest)
unfolding bytes_at
bytes_again front rest =
    let long : ltb (length (front ++ rest)) (length front) ≡ false = le-ltb _ _ (omega (arith, length-append front rest)) in
    rw (long, take_at front rest (length front) refl, drop_at front rest (length front) refl) refl

-- a number that is read at a place is written there
pub number32_read : (all : List ℕ) (at n : ℕ) → at + 4 ≤ length all → IsBytes all → n ≡ big_number 4 (drop at all) → drop at all ≡ number32 n ++ drop (at + 4) all
number32_read all at n long fits is =
    rw (is, ← drop-drop 4 at all) (number32_next (drop at all) (omega (arith, length-drop at all)) (IsBytes-drop at all fits))

pub number64_read : (all : List ℕ) (at n : ℕ) → at + 8 ≤ length all → IsBytes all → n ≡ big_number 8 (drop at all) → drop at all ≡ number64 n ++ drop (at + 8) all
number64_read all at n long fits is =
    rw (is, ← drop-drop 8 at all) (number64_next (drop at all) (omega (arith, length-drop at all)) (IsBytes-drop at all fits))
