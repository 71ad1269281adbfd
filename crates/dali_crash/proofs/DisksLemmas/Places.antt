-- Reading an image file by its places, and writing one of them.
use Rattle.std.proofs.Common.{◌≡◌, ℕ, zero, suc, ◌+◌, ◌<◌, ◌≤◌, Bool, true, false, List, ◌++◌, length, take, drop, refl, ap, sym, ◌∙◌, inl, inr, ⊎_elim, arith, append_assoc, length-append, length-take, length-drop, take-append-drop}
use Rattle.std.specs.Prelude.{◌⊎◌, ◌==◌, map, flat_map}
use Rattle.std.specs.List.{range_with_len}
use Rattle.std.proofs.lemmas.Bool.{cases_lt, eq-eqb}
use Rattle.std.proofs.lemmas.List.{drop-drop, drop_at, take_at, take-append-le, drop-append-le}
use Rattle.std.proofs.lemmas.Slice.{drop-append-drop}
use Rattle.dali_geometry.specs.Sizes.{Sizes}
use Rattle.dali_geometry.specs.Places.{regions}
use Rattle.dali_record.specs.Spelling.{words_bytes}
use Rattle.dali_record.proofs.Lengths.{words_are_8}
use Rattle.dali_store.specs.Store.{Holds}
use Rattle.dali_crash.specs.Disks.Disks.{header_bytes, table_bytes}
use Rattle.dali_crash.specs.Checkpoints.{Head}
use Rattle.dali_crash.specs.Disks.Places.{place_of, ReadsHead, SamePlace, ImageIsRead, WriteIsRead}

-- n places from place k on
places_read :
    (words : ℕ → List ℕ) (bytes : List ℕ) (k n : ℕ) → ((r : ℕ) → r < k + n → take 512 (drop (place_of r) bytes) ≡ words_bytes (words r))
    → drop (place_of k) bytes ≡ flat_map words_bytes (map words (range_with_len k n)) ++ drop (place_of (k + n)) bytes
places_read words bytes k zero each = ap (λ (m : ℕ). drop (place_of m) bytes) (let e : k ≡ k + 0 = omega arith in e)
places_read words bytes k (suc n) each =
    sym (take-append-drop 512 (drop (place_of k) bytes))
    ∙ (ap (λ l. l ++ drop 512 (drop (place_of k) bytes)) (each k (omega arith))
    ∙ (ap (λ l. words_bytes (words k) ++ l) (drop-drop 512 (place_of k) bytes ∙ (ap (λ (m : ℕ). drop m bytes) (let e : place_of k + 512 ≡ place_of (k + 1) = omega arith in e) ∙ places_read words bytes (k + 1) n (λ r lt. each r (omega (arith, lt)))))
    ∙ (sym (append_assoc (words_bytes (words k)) (flat_map words_bytes (map words (range_with_len (k + 1) n))) (drop (place_of (k + 1 + n)) bytes))
    ∙ ap (λ (m : ℕ). flat_map words_bytes (map words (range_with_len k (suc n))) ++ drop (place_of m) bytes) (let e : k + 1 + n ≡ k + suc n = omega arith in e))))

pub image_is_read : ImageIsRead
image_is_read s h words bytes head places fits = record {
  fits = fits;
  rest = head.rest;
  spells =
      sym (take-append-drop 64 bytes)
      ∙ (ap (λ l. l ++ drop 64 bytes) head.header
      ∙ (ap (λ l. header_bytes s h ++ l) (places_read words bytes 0 (regions s) (λ r lt. places r (omega (arith, lt))) ∙ (ap (λ (m : ℕ). image ++ drop (place_of m) bytes) (let e : 0 + regions s ≡ regions s = omega arith in e) ∙ (ap (λ l. image ++ l) head.table ∙ sym (append_assoc image (table_bytes h.table) head.rest))))
      ∙ sym (append_assoc (header_bytes s h) (image ++ table_bytes h.table) head.rest)));
}
  where
    image : List ℕ
    image = flat_map words_bytes (map words (range_with_len 0 (regions s)))

-- ---- a write
front_only : (n p : ℕ) (xs zs : List ℕ) → p + n ≤ length xs → take n (drop p (xs ++ zs)) ≡ take n (drop p xs)
front_only n p xs zs le =
    ap (take n) (drop-append-le p xs zs (omega (arith, le)))
    ∙ take-append-le n (drop p xs) zs (omega (arith, le, length-drop p xs))

module _ (old new bs : List ℕ) (at : ℕ) (within : at ≤ length old) (holds : Holds old at bs new) where
  size : length (take at old) ≡ at
  size = omega (arith, length-take at old, within)

  whole : new ≡ take at old ++ (bs ++ drop (at + length bs) old)
  whole = holds ∙ append_assoc (take at old) bs (drop (at + length bs) old)

  pub before_it : (n p : ℕ) → p + n ≤ at → take n (drop p new) ≡ take n (drop p old)
  before_it n p le =
      ap (λ l. take n (drop p l)) whole
      ∙ (front_only n p (take at old) (bs ++ drop (at + length bs) old) (omega (arith, le, size))
      ∙ (sym (front_only n p (take at old) (drop at old) (omega (arith, le, size)))
      ∙ ap (λ l. take n (drop p l)) (take-append-drop at old)))

  pub there : take (length bs) (drop at new) ≡ bs
  there =
      ap (λ l. take (length bs) (drop at l)) whole
      ∙ (ap (take (length bs)) (drop_at (take at old) (bs ++ drop (at + length bs) old) at size)
      ∙ take_at bs (drop (at + length bs) old) (length bs) refl)

  pub behind_it : (p : ℕ) → at + length bs ≤ p → drop p new ≡ drop p old
  behind_it p le =
      ap (drop p) holds
      ∙ drop-append-drop (at + length bs) old (take at old ++ bs) p le (omega (arith, length-append (take at old) bs, size))

-- header and table stay
pub head_behind :
    (s : Sizes) (old new : List ℕ) (r : ℕ) (ws : List ℕ) → r < regions s → length ws ≡ 64 → place_of r ≤ length old
    → Holds old (place_of r) (words_bytes ws) new
    → (h : Head) → ReadsHead s h old → ReadsHead s h new
head_behind s old new r ws inside count within holds h is = record {
  header = before_it old new (words_bytes ws) (place_of r) within holds 64 0 (omega arith) ∙ is.header;
  rest = is.rest;
  table = behind_it old new (words_bytes ws) (place_of r) within holds (place_of (regions s)) (omega (arith, inside, words_are_8 ws, count)) ∙ is.table;
}

pub write_is_read : WriteIsRead
write_is_read s old new r ws inside count within holds = record {
  here = ap (λ (n : ℕ). take n (drop (place_of r) new)) (sym long) ∙ there old new (words_bytes ws) (place_of r) within holds;
  others = λ q e. other q (apart q e);
  head = λ h is. head_behind s old new r ws inside count within holds h is;
}
  where
    long : length (words_bytes ws) ≡ 512
    long = omega (arith, words_are_8 ws, count)

    other : (q : ℕ) → (q < r) ⊎ (r < q) → SamePlace q old new
    other q (inl less) = before_it old new (words_bytes ws) (place_of r) within holds 512 (place_of q) (omega (arith, less))
    other q (inr more) = ap (take 512) (behind_it old new (words_bytes ws) (place_of r) within holds (place_of q) (omega (arith, more, long)))

    apart : (q : ℕ) → (q == r) ≡ false → (q < r) ⊎ (r < q)
    apart q e = ⊎_elim (λ lt. inl lt) (λ ge. ⊎_elim (λ gt. inr gt) (λ le. absurd (clash (eq-eqb q r (omega (arith, ge, le))) e)) (cases_lt r q)) (cases_lt q r)
      where
        clash : {b : Bool} → b ≡ true → b ≡ false → ⊥
        clash g h = cc
