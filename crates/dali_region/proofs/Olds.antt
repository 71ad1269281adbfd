-- Words that are restored: those in a set as they were, all others as they stand.
use Rattle.std.proofs.Common.{◌≡◌, ◌≢◌, ℕ, ◌+◌, ◌<◌, ◌≤◌, ◌^◌, Bool, true, false, List, length, cond, refl, ap, sym, subst, ◌∙◌, ◌⊎◌, inl, inr, ⊎_elim, arith, get_or, set, Option, Some, None}
use Rattle.std.specs.Prelude.{not, bit_and, bit_or, bit_xor}
use Rattle.std.proofs.lemmas.Bool.Decides.{Decides-eqb, eqb_tells}
use Rattle.std.specs.Int.{bit_at}
use Rattle.std.proofs.lemmas.Nat.Bits.{bit_at_or, bit_at-lt, bit_at-zero, bit_at-pow_same, bit_at-pow_other}
use Rattle.std.proofs.lemmas.List.{length-set, ext_get_or, get_or-set_same, get_or-set_other}
use Rattle.std.proofs.lemmas.Bool.{cases_Bool, cases_eq}
use Rattle.dali_words.specs.Words.{under}
use Rattle.dali_words.proofs.Masks.{length-write_under, write_under_other}
use Rattle.dali_words.proofs.Writes.{write_under_in, write_nothing}
use Rattle.dali_region.specs.declared.Hold.{Hold}
use Rattle.dali_region.specs.State.{is_in, restored, written, has_written, kept, damaged}
use Rattle.dali_region.proofs.Holds.{out_is_zero, zero_is_out}

-- ---- bits

in_is_one : (m i : ℕ) → is_in m i ≡ true → bit_at m i ≡ 1
in_is_one m i h = ⊎_elim (λ z. let no : is_in m i ≡ false = zero_is_out m i z in absurd (cc)) (λ z. z) (bits (bit_at m i) (bit_at-lt m i))
  where
    bits : (b : ℕ) → b < 2 → (b ≡ 0) ⊎ (b ≡ 1)
    bits b lt = grind arith

one_is_in : (m i : ℕ) → bit_at m i ≡ 1 → is_in m i ≡ true
one_is_in m i h = ⊎_elim (λ t. t) (λ f. let z = out_is_zero m i f in absurd (omega (arith, h, z))) (cases_Bool (is_in m i))

-- ---- words
pub length-restored : (m : ℕ) (olds ws : List ℕ) → length (restored m olds ws) ≡ length ws
length-restored m olds ws = length-write_under m (under m olds) ws

pub restored_in : (m : ℕ) (olds ws : List ℕ) (i : ℕ) → length olds ≡ length ws → is_in m i ≡ true → get_or (restored m olds ws) i 0 ≡ get_or olds i 0
restored_in m olds ws i e h = write_under_in m olds ws i e (in_is_one m i h)

pub restored_out : (m : ℕ) (olds ws : List ℕ) (i : ℕ) → is_in m i ≡ false → get_or (restored m olds ws) i 0 ≡ get_or ws i 0
restored_out m olds ws i h = write_under_other m (under m olds) ws i (out_is_zero m i h)

pub restored_by : (m : ℕ) (olds ws xs : List ℕ) → length olds ≡ length ws → length xs ≡ length ws → ((i : ℕ) → is_in m i ≡ true → get_or xs i 0 ≡ get_or olds i 0) → ((i : ℕ) → is_in m i ≡ false → get_or xs i 0 ≡ get_or ws i 0) → xs ≡ restored m olds ws
restored_by m olds ws xs e long inside outside = ext_get_or 0 xs (restored m olds ws) (long ∙ sym (length-restored m olds ws)) (λ i _. each i (cases_Bool (is_in m i)))
  where
    each : (i : ℕ) → (is_in m i ≡ true) ⊎ (is_in m i ≡ false) → get_or xs i 0 ≡ get_or (restored m olds ws) i 0
    each i (inl h) = inside i h ∙ sym (restored_in m olds ws i e h)
    each i (inr h) = outside i h ∙ sym (restored_out m olds ws i h)

pub restored_nothing : (olds ws : List ℕ) → restored 0 olds ws ≡ ws
restored_nothing olds ws = write_nothing (under 0 olds) ws

-- ---- a word is written
pub restored_written : (m i v : ℕ) (olds ws : List ℕ) → length olds ≡ length ws → i < length ws → restored (bit_or m (2 ^ i)) (kept m i ws olds) (set ws i v) ≡ restored m olds ws
restored_written m i v olds ws e lt = sym (restored_by (bit_or m (2 ^ i)) (kept m i ws olds) (set ws i v) (restored m olds ws) (long ∙ sym (length-set ws i v)) (length-restored m olds ws ∙ sym (length-set ws i v)) inside outside)
  where
    long : length (kept m i ws olds) ≡ length ws
    long = by_test (is_in m i)
      where
        by_test : (b : Bool) → length (cond b olds (set olds i (get_or ws i 0))) ≡ length ws
        by_test true = e
        by_test false = length-set olds i (get_or ws i 0) ∙ e

    inside : (k : ℕ) → is_in (bit_or m (2 ^ i)) k ≡ true → get_or (restored m olds ws) k 0 ≡ get_or (kept m i ws olds) k 0
    inside k h = go (cases_Bool (is_in m k)) (cases_eq k i) (cases_Bool (is_in m i))
      where
        go : (is_in m k ≡ true) ⊎ (is_in m k ≡ false) → (k ≡ i) ⊎ (k ≢ i) → (is_in m i ≡ true) ⊎ (is_in m i ≡ false) → get_or (restored m olds ws) k 0 ≡ get_or (kept m i ws olds) k 0
        go (inl a) same (inl c) = restored_in m olds ws k e a ∙ ap (λ b. get_or (cond b olds (set olds i (get_or ws i 0))) k 0) (sym c)
        go (inl a) (inl b) (inr c) = let no : is_in m i ≡ true = ap (is_in m) (sym b) ∙ a in absurd (cc)
        go (inl a) (inr b) (inr c) = restored_in m olds ws k e a ∙ sym (get_or-set_other olds i k (get_or ws i 0) 0 b) ∙ ap (λ t. get_or (cond t olds (set olds i (get_or ws i 0))) k 0) (sym c)
        go (inr a) (inl b) (inl c) = let no : is_in m k ≡ true = ap (is_in m) b ∙ c in absurd (cc)
        go (inr a) (inl b) (inr c) =
            restored_out m olds ws k a ∙ ap (λ j. get_or ws j 0) b ∙ sym (get_or-set_same olds i (get_or ws i 0) 0 (omega (arith, e, lt))) ∙ ap (λ j. get_or (set olds i (get_or ws i 0)) j 0) (sym b)
            ∙ ap (λ t. get_or (cond t olds (set olds i (get_or ws i 0))) k 0) (sym c)
        go (inr a) (inr b) c = absurd (omega (arith, in_is_one (bit_or m (2 ^ i)) k h, bit_at_or m (2 ^ i) k, out_is_zero m k a, bit_at-pow_other i k b))

    outside : (k : ℕ) → is_in (bit_or m (2 ^ i)) k ≡ false → get_or (restored m olds ws) k 0 ≡ get_or (set ws i v) k 0
    outside k h =
        let both = bit_at_or m (2 ^ i) k in
        let none = out_is_zero (bit_or m (2 ^ i)) k h in
        let apart : k ≢ i = λ q. omega (arith, both, none, ap (λ j. bit_at (2 ^ i) j) q, bit_at-pow_same i) in
        restored_out m olds ws k (zero_is_out m k (omega (arith, both, none))) ∙ sym (get_or-set_other ws i k v 0 apart)

-- ---- a word is damaged
pub restored_damaged : (m i x : ℕ) (olds ws : List ℕ) → length olds ≡ length ws → i < length ws → restored m olds (damaged i x ws) ≡ cond (is_in m i) (restored m olds ws) (damaged i x (restored m olds ws))
restored_damaged m i x olds ws e lt = by_test (cases_Bool (is_in m i))
  where
    new : ℕ
    new = bit_xor (get_or ws i 0) x

    size : length (damaged i x ws) ≡ length ws
    size = length-set ws i (bit_xor (get_or ws i 0) x)

    by_test : (is_in m i ≡ true) ⊎ (is_in m i ≡ false) → restored m olds (damaged i x ws) ≡ cond (is_in m i) (restored m olds ws) (damaged i x (restored m olds ws))
    by_test (inl h) = rw h (sym (restored_by m olds (damaged i x ws) (restored m olds ws) (e ∙ sym size) (length-restored m olds ws ∙ sym size) (λ k a. restored_in m olds ws k e a) outside))
      where
        outside : (k : ℕ) → is_in m k ≡ false → get_or (restored m olds ws) k 0 ≡ get_or (damaged i x ws) k 0
        outside k a =
            let apart : k ≢ i = λ q. let no : is_in m k ≡ true = ap (is_in m) q ∙ h in absurd (cc) in
            restored_out m olds ws k a ∙ sym (get_or-set_other ws i k (bit_xor (get_or ws i 0) x) 0 apart)
    by_test (inr h) = rw h (sym (restored_by m olds (damaged i x ws) (damaged i x (restored m olds ws)) (e ∙ sym size) (length-set (restored m olds ws) i _ ∙ length-restored m olds ws ∙ sym size) inside outside))
      where
        inside : (k : ℕ) → is_in m k ≡ true → get_or (damaged i x (restored m olds ws)) k 0 ≡ get_or olds k 0
        inside k a =
            let apart : k ≢ i = λ q. let no : is_in m i ≡ true = ap (is_in m) (sym q) ∙ a in absurd (cc) in
            get_or-set_other (restored m olds ws) i k _ 0 apart ∙ restored_in m olds ws k e a

        outside : (k : ℕ) → is_in m k ≡ false → get_or (damaged i x (restored m olds ws)) k 0 ≡ get_or (damaged i x ws) k 0
        outside k a = go (cases_eq k i)
          where
            go : (k ≡ i) ⊎ (k ≢ i) → get_or (damaged i x (restored m olds ws)) k 0 ≡ get_or (damaged i x ws) k 0
            go (inl q) =
                ap (λ j. get_or (damaged i x (restored m olds ws)) j 0) q ∙ get_or-set_same (restored m olds ws) i _ 0 (omega (arith, lt, length-restored m olds ws))
                ∙ ap (λ n. bit_xor n x) (restored_out m olds ws i h) ∙ sym (get_or-set_same ws i _ 0 lt) ∙ ap (λ j. get_or (damaged i x ws) j 0) (sym q)
            go (inr q) = get_or-set_other (restored m olds ws) i k _ 0 q ∙ restored_out m olds ws k a ∙ sym (get_or-set_other ws i k _ 0 q)

-- ---- what a hold has written
pub written_is : (o : Option Hold) (i : ℕ) → is_in (written o) i ≡ has_written o i
written_is None i = zero_is_out 0 i (bit_at-zero i)
written_is (Some h) i = refl

pub updated_back : (h : Hold) (i v b : ℕ) (olds news ws : List ℕ) → length olds ≡ length ws → i < length ws → b ≡ 2 ^ i → news ≡ kept h.write i ws olds → restored (bit_or h.write b) news (set ws i v) ≡ restored h.write olds ws
updated_back h i v b olds news ws e lt is_bit is_new = ap (λ n. restored (bit_or h.write n) news (set ws i v)) is_bit ∙ ap (λ xs. restored (bit_or h.write (2 ^ i)) xs (set ws i v)) is_new ∙ restored_written h.write i v olds ws e lt

pub poked_back : (o : Option Hold) (i m : ℕ) (olds ws news : List ℕ) → length olds ≡ length ws → i < length ws → news ≡ damaged i m ws → restored (written o) olds news ≡ cond (has_written o i) (restored (written o) olds ws) (damaged i m (restored (written o) olds ws))
poked_back o i m olds ws news e lt is_new = ap (restored (written o) olds) is_new ∙ restored_damaged (written o) i m olds ws e lt ∙ ap (λ b. cond b (restored (written o) olds ws) (damaged i m (restored (written o) olds ws))) (written_is o i)

-- ---- the loop that restores
-- the words before word k are restored, all others are as they were
pub record IsRestoredTo (m : ℕ) (olds ws cur : List ℕ) (k : ℕ) : Type 0 where
  pub size : length cur ≡ length ws
  pub done : (i : ℕ) → i < k → get_or cur i 0 ≡ get_or (restored m olds ws) i 0
  pub left : (i : ℕ) → k ≤ i → get_or cur i 0 ≡ get_or ws i 0

from_next : (P : ℕ → Type 0) (k i : ℕ) → P k → (i < k → P i) → i < k + 1 → P i
from_next P k i here before lt = ⊎_elim (λ e. subst P (sym e) here) (λ ne. before (omega (arith, ne, lt))) (cases_eq i k)

pub restores_one : (m k b : ℕ) (olds ws cur new : List ℕ) → IsRestoredTo m olds ws cur k → length olds ≡ length ws → k < length ws → b ≡ 2 ^ k → bit_and m b ≢ 0 → new ≡ set cur k (get_or olds k 0) → IsRestoredTo m olds ws new (k + 1)
restores_one m k b olds ws cur new r e lt is_bit found is_new = rw is_new record {
  size = length-set cur k (get_or olds k 0) ∙ r.size;
  done = λ i h. from_next (λ j. get_or (set cur k (get_or olds k 0)) j 0 ≡ get_or (restored m olds ws) j 0) k i (get_or-set_same cur k (get_or olds k 0) 0 (omega (arith, r.size, lt)) ∙ sym (restored_in m olds ws k e here)) (λ q. get_or-set_other cur k i (get_or olds k 0) 0 (λ x. omega (arith, q, x)) ∙ r.done i q) h;
  left = λ i h. get_or-set_other cur k i (get_or olds k 0) 0 (λ x. omega (arith, h, x)) ∙ r.left i (omega (arith, h));
}
  where
    here : is_in m k ≡ true
    here = ⊎_elim (λ t. t) (λ f. absurd (found (ap (bit_and m) is_bit ∙ zero_of f))) (cases_Bool (is_in m k))
      where
        zero_of : is_in m k ≡ false → bit_and m (2 ^ k) ≡ 0
        zero_of f = ⊎_elim (λ p. p.1) (λ p. let no : is_in m k ≡ true = ap not p.0 in absurd (cc)) (eqb_tells (bit_and m (2 ^ k)) 0)

pub restores_none : (m k b : ℕ) (olds ws cur new : List ℕ) → IsRestoredTo m olds ws cur k → length olds ≡ length ws → k < length ws → b ≡ 2 ^ k → bit_and m b ≡ 0 → new ≡ cur → IsRestoredTo m olds ws new (k + 1)
restores_none m k b olds ws cur new r e lt is_bit none is_new = rw is_new record {
  size = r.size;
  done = λ i h. from_next (λ j. get_or cur j 0 ≡ get_or (restored m olds ws) j 0) k i (r.left k (omega arith) ∙ sym (restored_out m olds ws k here)) (λ q. r.done i q) h;
  left = λ i h. r.left i (omega (arith, h));
}
  where
    here : is_in m k ≡ false
    here = let z : bit_and m (2 ^ k) ≡ 0 = ap (bit_and m) (sym is_bit) ∙ none in ap not ((Decides-eqb (bit_and m (2 ^ k)) 0).1 z)

pub restored_all : (m n : ℕ) (olds ws cur : List ℕ) → IsRestoredTo m olds ws cur n → length ws ≤ n → cur ≡ restored m olds ws
restored_all m n olds ws cur r few = ext_get_or 0 cur (restored m olds ws) (r.size ∙ sym (length-restored m olds ws)) (λ i h. r.done i (omega (arith, h, r.size, few)))
