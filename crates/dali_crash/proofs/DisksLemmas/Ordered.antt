-- A new image file that is written in order is read as it was written.
use Rattle.std.proofs.Common.{◌≡◌, ℕ, zero, suc, ◌+◌, ◌<◌, ◌≤◌, List, ◌++◌, length, take, drop, ap, sym, subst, ◌∙◌, ⊎_elim, arith, append_assoc, length-append}
use Rattle.std.proofs.lemmas.Bool.{cases_lt}
use Rattle.std.proofs.lemmas.List.{drop_at, length-take-le}
use Rattle.dali_geometry.specs.Sizes.{Sizes}
use Rattle.dali_geometry.specs.Places.{regions}
use Rattle.dali_record.specs.Spelling.{words_bytes}
use Rattle.dali_record.proofs.Lengths.{words_are_8}
use Rattle.dali_store.specs.Store.{Holds}
use Rattle.dali_crash.specs.Checkpoints.{Head}
use Rattle.dali_crash.specs.Disks.Disks.{header_bytes, table_bytes}
use Rattle.dali_crash.specs.Disks.Places.{place_of}
use Rattle.dali_crash.specs.Disks.Ordered.{IsWrittenInOrder, IsReadInOrder, OrderedIsRead}
use Rattle.dali_crash.proofs.DisksLemmas.Places.{before_it, there}
use Rattle.dali_crash.proofs.DisksLemmas.Images.{header_is_64}

-- a write reaches its own end at least
pub reaches : (old new bs : List ℕ) (at : ℕ) → at ≤ length old → Holds old at bs new → at + length bs ≤ length new
reaches old new bs at within holds =
    let size : length (take at old) ≡ at = length-take-le at old within in
    let whole : length new ≡ (length (take at old) + length bs) + length (drop (at + length bs) old) = ap length holds ∙ (length-append (take at old ++ bs) (drop (at + length bs) old) ∙ ap (λ m. m + length (drop (at + length bs) old)) (length-append (take at old) bs)) in
    omega (arith, size, whole)

module _ (s : Sizes) (h : Head) (words : ℕ → List ℕ) (old : List ℕ) (files : ℕ → List ℕ) (new : List ℕ) (full : (r : ℕ) → r < regions s → length (words r) ≡ 64) (is : IsWrittenInOrder s h words old files new) where
  long : (r : ℕ) → r < regions s → length (words_bytes (words r)) ≡ 512
  long r lt = omega (arith, words_are_8 (words r), full r lt)

  inside : (r : ℕ) → r ≤ regions s → place_of r ≤ length (files r)
  inside zero le = omega (arith, reaches old (files 0) (header_bytes s h) 0 (omega arith) is.header, header_is_64 s h)
  inside (suc r) le =
      let lt : r < regions s = omega (arith, le) in
      let at : suc r ≡ r + 1 = omega arith in
      subst (λ m. place_of m ≤ length (files m)) (sym at) (omega (arith, reaches (files r) (files (r + 1)) (words_bytes (words r)) (place_of r) (inside r (omega (arith, le))) (is.region r lt), long r lt))

  header : (r : ℕ) → r ≤ regions s → take 64 (drop 0 (files r)) ≡ header_bytes s h
  header zero le = ap (λ (n : ℕ). take n (drop 0 (files 0))) (sym (header_is_64 s h)) ∙ there old (files 0) (header_bytes s h) 0 (omega arith) is.header
  header (suc r) le =
      let at : suc r ≡ r + 1 = omega arith in
      subst (λ m. take 64 (drop 0 (files m)) ≡ header_bytes s h) (sym at)
      (before_it (files r) (files (r + 1)) (words_bytes (words r)) (place_of r) (inside r (omega (arith, le))) (is.region r (omega (arith, le))) 64 0 (omega arith) ∙ header r (omega (arith, le)))

  written : (r : ℕ) → r ≤ regions s → (q : ℕ) → q < r → take 512 (drop (place_of q) (files r)) ≡ words_bytes (words q)
  written zero le q lt = absurd (omega (arith, lt))
  written (suc r) le q lt =
      let at : suc r ≡ r + 1 = omega arith in
      subst (λ m. take 512 (drop (place_of q) (files m)) ≡ words_bytes (words q)) (sym at) (⊎_elim (earlier (λ less. written r (omega (arith, le)) q less)) here (cases_lt q r))
    where
      one : Holds (files r) (place_of r) (words_bytes (words r)) (files (r + 1))
      one = is.region r (omega (arith, le))

      within : place_of r ≤ length (files r)
      within = inside r (omega (arith, le))

      earlier : (q < r → take 512 (drop (place_of q) (files r)) ≡ words_bytes (words q)) → q < r → take 512 (drop (place_of q) (files (r + 1))) ≡ words_bytes (words q)
      earlier ih less = before_it (files r) (files (r + 1)) (words_bytes (words r)) (place_of r) within one 512 (place_of q) (omega (arith, less)) ∙ ih less

      here : r ≤ q → take 512 (drop (place_of q) (files (r + 1))) ≡ words_bytes (words q)
      here ge =
          let same : r ≡ q = omega (arith, ge, lt) in
          subst (λ m. take 512 (drop (place_of m) (files (r + 1))) ≡ words_bytes (words m)) same
          (ap (λ (n : ℕ). take n (drop (place_of r) (files (r + 1)))) (sym (long r (omega (arith, le)))) ∙ there (files r) (files (r + 1)) (words_bytes (words r)) (place_of r) within one)

  last : List ℕ
  last = files (regions s)

  end : place_of (regions s) ≤ length (files (regions s))
  end = inside (regions s) (omega arith)

  read : IsReadInOrder s h words files new
  read = record {
    inside = inside;
    places = λ q lt. before_it (files (regions s)) new (table_bytes h.table) (place_of (regions s)) end is.table 512 (place_of q) (omega (arith, lt)) ∙ written (regions s) (omega arith) q lt;
    head = record {
      header = before_it (files (regions s)) new (table_bytes h.table) (place_of (regions s)) end is.table 64 0 (omega arith) ∙ header (regions s) (omega arith);
      rest = drop (place_of (regions s) + length (table_bytes h.table)) (files (regions s));
      table =
          ap (drop (place_of (regions s))) (is.table ∙ append_assoc (take (place_of (regions s)) (files (regions s))) (table_bytes h.table) (drop (place_of (regions s) + length (table_bytes h.table)) (files (regions s))))
          ∙ drop_at (take (place_of (regions s)) (files (regions s))) (table_bytes h.table ++ drop (place_of (regions s) + length (table_bytes h.table)) (files (regions s))) (place_of (regions s)) (length-take-le (place_of (regions s)) (files (regions s)) end);
    };
  }

pub ordered_is_read : OrderedIsRead
ordered_is_read s h words old files new full is = read s h words old files new full is
