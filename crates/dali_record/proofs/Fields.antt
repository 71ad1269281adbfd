-- The readers of fields.
use Rattle.std.proofs.Common.{◌≡◌, ℕ, zero, suc, ◌<◌, Bool, true, false, cond, ◌==◌, List, [], ◌∷◌, ◌++◌, length, Some, None, refl, ap, subst, ◌∙◌, append_assoc, inl, inr}
use Rattle.std.specs.Prelude.{flat_map}
use Rattle.std.specs.List.{All, AllByRecursion}
use Rattle.std.proofs.lemmas.Bool.{eqb-true}
use Rattle.std.proofs.lemmas.List.Elements.{All-from_recursion}
use Rattle.std.proofs.lemmas.List.Concat.{flat_map-cons}
use Rattle.dali_words.specs.Values.{is_size, IsValue, value_of}
use Rattle.dali_bytes.specs.Cursor.{IsBytes}
use Rattle.dali_bytes.specs.Fields.{number32, number64}
use Rattle.dali_bytes.specs.Reading.{byte_at, number32_at, number64_at, bytes_at}
use Rattle.dali_bytes.proofs.Numbers.{number32_taken, number64_taken, number32_again, number64_again, bytes_taken, bytes_again}
use Rattle.dali_record.specs.Spelling.{byte, value_bytes, flag_bytes, words_bytes, counted32, counted64, Is32, Is64, is_cell, is_entry, IsCell, IsEntry, AreRegions, AreNumbers, ascends}
use Rattle.dali_record.specs.Reading.{At, ◌>>=◌, tested, as_flag, cell_at, entry_at, flag_at, value_at, many, numbers_at, regions_at, counted32_at, counted64_at}
use Rattle.dali_record.proofs.Readers.{Takes, Takes-then, IsBytes-rest, bind_some, some_is, chosen_is, IsReader, tested_reader}

-- the bytes behind a front
pub IsBytes-behind : (xs ys : List ℕ) → IsBytes (xs ++ ys) → IsBytes ys
IsBytes-behind [] ys h = h
IsBytes-behind (x ∷ xs) ys h = IsBytes-behind xs ys (IsBytes-rest x (xs ++ ys) h)

pub IsBytes-front : (xs ys : List ℕ) → IsBytes (xs ++ ys) → All (λ b. b < 256) xs
IsBytes-front xs ys h = All-from_recursion (λ b. b < 256) xs (each xs ys h)
  where
    each : (xs ys : List ℕ) → IsBytes (xs ++ ys) → AllByRecursion (λ b. b < 256) xs
    each [] ys h = tt
    each (x ∷ xs) ys h = (h 0, each xs ys (IsBytes-rest x (xs ++ ys) h))

-- ---- numbers
pub reader_byte : IsReader byte_at byte (λ b. b < 256)
reader_byte = record {
  takes = λ bytes x rest fits e. byte_taken bytes x rest fits e;
  again = λ x rest p. refl;
}
  where
    byte_taken : (bytes : List ℕ) (x : ℕ) (rest : List ℕ) → IsBytes bytes → byte_at bytes ≡ Some (x, rest) → Takes bytes (byte x) rest × (x < 256)
    byte_taken [] x rest fits e = absurd cc
    byte_taken (b ∷ bs) x rest fits e =
        let whole : Takes (b ∷ bs) (byte b) bs = record { parts = refl; rest_fits = IsBytes-rest b bs fits } in
        subst (λ (p : ℕ × List ℕ). Takes (b ∷ bs) (byte p.0) p.1 × (p.0 < 256)) (some_is (b, bs) (x, rest) e) (whole, fits 0)

pub reader32 : IsReader number32_at number32 Is32
reader32 = record {
  takes = λ bytes n rest fits e.
      let t = number32_taken bytes n rest fits e in
      (record { parts = t.0; rest_fits = IsBytes-behind (number32 n) rest (subst IsBytes t.0 fits) }, t.1);
  again = λ n rest p. number32_again n rest p;
}

pub reader64 : IsReader number64_at number64 Is64
reader64 = record {
  takes = λ bytes n rest fits e.
      let t = number64_taken bytes n rest fits e in
      (record { parts = t.0; rest_fits = IsBytes-behind (number64 n) rest (subst IsBytes t.0 fits) }, t.1);
  again = λ n rest p. number64_again n rest p;
}

pub reader_cell : IsReader cell_at byte IsCell
unfolding cell_at
reader_cell = record {
  takes = λ bytes x rest fits e.
      let t = (tested_reader reader_byte is_cell).takes bytes x rest fits e in
      (t.0, t.1.1);
  again = λ x rest p. rw p refl;
}

pub reader_entry : IsReader entry_at byte IsEntry
unfolding entry_at
reader_entry = record {
  takes = λ bytes x rest fits e.
      let t = (tested_reader reader_byte is_entry).takes bytes x rest fits e in
      (t.0, t.1.1);
  again = λ x rest p. rw p refl;
}

flag_is : (n : ℕ) (b : Bool) → as_flag n ≡ Some b → flag_bytes b ≡ byte n
flag_is n b e =
    elim (chosen_is (n == 0) (Some false) (cond (n == 1) (Some true) None) (Some b) e) [
      | inl h ↦ rw (← some_is false b h.1, eqb-true n 0 h.0) refl
      | inr h ↦ elim (chosen_is (n == 1) (Some true) None (Some b) h.1) [
        | inl g ↦ rw (← some_is true b g.1, eqb-true n 1 g.0) refl
        | inr g ↦ absurd cc
      ]
    ]

pub reader_flag : IsReader flag_at flag_bytes (λ b. Unit {0})
unfolding flag_at
reader_flag = record { takes = flag_taken; again = flag_again }
  where
    flag_taken : (bytes : List ℕ) (x : Bool) (rest : List ℕ) → IsBytes bytes → flag_at bytes ≡ Some (x, rest) → Takes bytes (flag_bytes x) rest × Unit {0}
    flag_taken [] x rest fits e = absurd cc
    flag_taken (n ∷ bs) x rest fits e =
        let a = bind_some (as_flag n) (λ b. Some (b, bs)) (x, rest) e in
        let flag : flag_bytes a.0 ≡ byte n = flag_is n a.0 a.1 in
        let whole : Takes (n ∷ bs) (flag_bytes a.0) bs = record { parts = rw flag refl; rest_fits = IsBytes-rest n bs fits } in
        subst (λ (p : Bool × List ℕ). Takes (n ∷ bs) (flag_bytes p.0) p.1 × Unit {0}) (some_is (a.0, bs) (x, rest) a.2) (whole, tt)

    flag_again : (x : Bool) (rest : List ℕ) → Unit {0} → flag_at (flag_bytes x ++ rest) ≡ Some (x, rest)
    flag_again false rest h = refl
    flag_again true rest h = refl

-- ---- values
value_is : (bs v : List ℕ) → value_of bs ≡ Some v → (is_size (length bs) ≡ true) × (bs ≡ v)
value_is bs v e =
    elim (chosen_is (is_size (length bs)) (Some bs) None (Some v) e) [
      | inl h ↦ (h.0, some_is bs v h.1)
      | inr h ↦ absurd cc
    ]

value_made : (bytes u more w v rest : List ℕ) → u ≡ w → ◌≡◌ {A = List ℕ × List ℕ} (w, more) (v, rest) → Takes bytes (value_bytes u) more → IsValue u → Takes bytes (value_bytes v) rest × IsValue v
value_made bytes u more w v rest e f t h =
    let back : ◌≡◌ {A = List ℕ × List ℕ} (u, more) (v, rest) = ap (λ (x : List ℕ). (x, more)) e ∙ f in
    subst (λ (p : List ℕ × List ℕ). Takes bytes (value_bytes p.0) p.1 × IsValue p.0) back (t, h)

pub reader_value : IsReader value_at value_bytes IsValue
unfolding value_at
reader_value = record { takes = value_taken; again = value_again }
  where
    value_taken : (bytes : List ℕ) (v : List ℕ) (rest : List ℕ) → IsBytes bytes → value_at bytes ≡ Some (v, rest) → Takes bytes (value_bytes v) rest × IsValue v
    value_taken [] v rest fits e = absurd cc
    value_taken (n ∷ bs) v rest fits e =
        let a = bind_some (bytes_at n bs) (λ x. value_of x.0 >>= λ w. Some (w, x.1)) (v, rest) e in
        let b = bind_some (value_of a.0.0) (λ w. Some (w, a.0.1)) (v, rest) a.2 in
        let c = value_is a.0.0 b.0 b.1 in
        let t = bytes_taken n bs a.0.0 a.0.1 a.1 in
        let rest_fits : IsBytes (a.0.0 ++ a.0.1) = subst IsBytes t.0 (IsBytes-rest n bs fits) in
        let whole : Takes (n ∷ bs) (value_bytes a.0.0) a.0.1 = record { parts = rw t.1 (ap (λ (l : List ℕ). n ∷ l) t.0); rest_fits = IsBytes-behind a.0.0 a.0.1 rest_fits } in
        let is : IsValue a.0.0 = (c.0, IsBytes-front a.0.0 a.0.1 rest_fits) in
        value_made (n ∷ bs) a.0.0 a.0.1 b.0 v rest c.1 (some_is (b.0, a.0.1) (v, rest) b.2) whole is

    value_again : (v : List ℕ) (rest : List ℕ) → IsValue v → value_at (value_bytes v ++ rest) ≡ Some (v, rest)
    value_again v rest h = rw (bytes_again v rest, h.0) refl

-- ---- lists of numbers
many_takes : (n_at : At ℕ) (s : ℕ → List ℕ) (P : ℕ → Type 0) → IsReader n_at s P → (k : ℕ) (bytes : List ℕ) (ns rest : List ℕ) → IsBytes bytes → many k n_at bytes ≡ Some (ns, rest)
    → Takes bytes (flat_map s ns) rest × (length ns ≡ k) × AllByRecursion P ns
many_takes n_at s P r zero bytes ns rest fits e =
    let whole : Takes bytes (flat_map s []) bytes = record { parts = refl; rest_fits = fits } in
    subst (λ (p : List ℕ × List ℕ). Takes bytes (flat_map s p.0) p.1 × (length p.0 ≡ 0) × AllByRecursion P p.0) (some_is ([], bytes) (ns, rest) e) (whole, refl, tt)
many_takes n_at s P r (suc k) bytes ns rest fits e =
    let a = bind_some (n_at bytes) (λ n. many k n_at n.1 >>= λ ms. Some (n.0 ∷ ms.0, ms.1)) (ns, rest) e in
    let b = bind_some (many k n_at a.0.1) (λ ms. Some (a.0.0 ∷ ms.0, ms.1)) (ns, rest) a.2 in
    let t = r.takes bytes a.0.0 a.0.1 fits a.1 in
    let u = many_takes n_at s P r k a.0.1 b.0.0 b.0.1 t.0.rest_fits b.1 in
    let both = Takes-then bytes (s a.0.0) a.0.1 (flat_map s b.0.0) b.0.1 t.0 u.0 in
    let whole : Takes bytes (flat_map s (a.0.0 ∷ b.0.0)) b.0.1 = rw flat_map-cons both in
    subst (λ (p : List ℕ × List ℕ). Takes bytes (flat_map s p.0) p.1 × (length p.0 ≡ suc k) × AllByRecursion P p.0) (some_is (a.0.0 ∷ b.0.0, b.0.1) (ns, rest) b.2) (whole, ap suc u.1, (t.1, u.2))

many_again : (n_at : At ℕ) (s : ℕ → List ℕ) (P : ℕ → Type 0) → IsReader n_at s P → (ns rest : List ℕ) → AllByRecursion P ns → many (length ns) n_at (flat_map s ns ++ rest) ≡ Some (ns, rest)
many_again n_at s P r [] rest h = refl
many_again n_at s P r (n ∷ ns) rest h =
    let regrouped : flat_map s (n ∷ ns) ++ rest ≡ s n ++ (flat_map s ns ++ rest) = ap (λ (x : List ℕ). x ++ rest) (flat_map-cons s n ns) ∙ append_assoc (s n) (flat_map s ns) rest in
    ap (many (suc (length ns)) n_at) regrouped ∙ rw (r.again n (flat_map s ns ++ rest) h.0, many_again n_at s P r ns rest h.1) refl

-- so many words
pub reader_words : (k : ℕ) → IsReader (numbers_at k) words_bytes (λ ns. (length ns ≡ k) × AllByRecursion Is64 ns)
unfolding numbers_at
reader_words k = record {
  takes = λ bytes ns rest fits e.
      let t = many_takes number64_at number64 Is64 reader64 k bytes ns rest fits e in
      (t.0, (t.1, t.2));
  again = λ ns rest h. rw (← h.0) (many_again number64_at number64 Is64 reader64 ns rest h.1);
}

reader_regions : (k : ℕ) → IsReader (regions_at k) (λ ns. flat_map number32 ns) (λ ns. (length ns ≡ k) × AllByRecursion Is32 ns)
unfolding regions_at
reader_regions k = record {
  takes = λ bytes ns rest fits e.
      let t = many_takes number32_at number32 Is32 reader32 k bytes ns rest fits e in
      (t.0, (t.1, t.2));
  again = λ ns rest h. rw (← h.0) (many_again number32_at number32 Is32 reader32 ns rest h.1);
}

pub reader_counted32 : IsReader counted32_at counted32 AreRegions
unfolding counted32_at
reader_counted32 = record {
  takes = λ bytes ns rest fits e.
      let a = bind_some (number32_at bytes) (λ n. tested ascends (regions_at n.0) n.1) (ns, rest) e in
      let t = reader32.takes bytes a.0.0 a.0.1 fits a.1 in
      let u = (tested_reader (reader_regions a.0.0) ascends).takes a.0.1 ns rest t.0.rest_fits a.2 in
      let both = Takes-then bytes (number32 a.0.0) a.0.1 (flat_map number32 ns) rest t.0 u.0 in
      (rw u.1.0.0 both, (rw u.1.0.0 t.1, u.1.0.1, u.1.1));
  again = λ ns rest h.
      rw (append_assoc (number32 (length ns)) (flat_map number32 ns) rest, reader32.again (length ns) (flat_map number32 ns ++ rest) h.0)
      ((tested_reader (reader_regions (length ns)) ascends).again ns rest ((refl, h.1), h.2));
}

pub reader_counted64 : IsReader counted64_at counted64 AreNumbers
unfolding counted64_at
reader_counted64 = record {
  takes = λ bytes ns rest fits e.
      let a = bind_some (number32_at bytes) (λ n. tested ascends (numbers_at n.0) n.1) (ns, rest) e in
      let t = reader32.takes bytes a.0.0 a.0.1 fits a.1 in
      let u = (tested_reader (reader_words a.0.0) ascends).takes a.0.1 ns rest t.0.rest_fits a.2 in
      let both = Takes-then bytes (number32 a.0.0) a.0.1 (words_bytes ns) rest t.0 u.0 in
      (rw u.1.0.0 both, (rw u.1.0.0 t.1, u.1.0.1, u.1.1));
  again = λ ns rest h.
      rw (append_assoc (number32 (length ns)) (words_bytes ns) rest, reader32.again (length ns) (words_bytes ns ++ rest) h.0)
      ((tested_reader (reader_words (length ns)) ascends).again ns rest ((refl, h.1), h.2));
}
