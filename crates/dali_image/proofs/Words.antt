-- The words of regions, as they are read from their bytes.
use Rattle.std.proofs.Common.{◌≡◌, ℕ, zero, suc, ◌+◌, ◌*◌, ◌<◌, List, [], ◌∷◌, ◌++◌, length, take, drop, get_or, ap, sym, ◌∙◌, arith, length-take, length-drop, take-add, take-append-drop}
use Rattle.std.proofs.Math.ListN.{set}
use Rattle.std.specs.Prelude.{flat_map}
use Rattle.std.proofs.lemmas.List.{drop-drop, nil_from_length, take_more_set, append-nil}
use Rattle.std.proofs.lemmas.List.Concat.{flat_map-cons, flat_map-append}
use Rattle.byteorder.specs.Endian.{big_number, IsRead}
use Rattle.dali_bytes.specs.Cursor.{IsBytes}
use Rattle.dali_bytes.specs.Fields.{number64}
use Rattle.dali_bytes.proofs.Numbers.{number64-big, IsBytes-drop, IsBytes-take}
use Rattle.dali_record.specs.Spelling.{words_bytes}

pub read_words : (ws part : List ℕ) → length part ≡ 8 * length ws → IsBytes part → IsRead big_number 8 part ws → part ≡ words_bytes ws
read_words [] part size fits read = nil_from_length part (omega (arith, size))
read_words (w ∷ ws) part size fits read =
    let first : number64 w ≡ take 8 part = ap number64 (read 0 (omega arith)) ∙ number64-big part (omega (arith, size)) fits in
    let rest : IsRead big_number 8 (drop 8 part) ws = λ k lt. read (suc k) (omega (arith, lt)) ∙ ap (big_number 8) (ap (λ (n : ℕ). drop n part) (let e : 8 * suc k ≡ 8 + 8 * k = omega arith in e) ∙ sym (drop-drop (8 * k) 8 part)) in
    sym (take-append-drop 8 part)
    ∙ (ap (λ l. l ++ drop 8 part) (sym first)
    ∙ (ap (λ l. number64 w ++ l) (read_words ws (drop 8 part) (omega (arith, size, length-drop 8 part)) (IsBytes-drop 8 part fits) rest)
    ∙ sym (flat_map-cons number64 w ws)))

-- one region more
pub region_more : (bytes : List ℕ) (into : List (List ℕ)) (ws : List ℕ) (i at k : ℕ) → at ≡ 512 * i → k ≡ 512 → i < length into → length bytes ≡ 512 * length into → IsBytes bytes → length ws ≡ 64
    → IsRead big_number 8 (take k (drop at bytes)) ws → take (512 * i) bytes ≡ flat_map words_bytes (take i into) → take (512 * (i + 1)) bytes ≡ flat_map words_bytes (take (i + 1) (set into i ws))
region_more bytes into ws i at k here size inside long fits count read so_far =
    let part = take k (drop at bytes) in
    let part_size : length part ≡ 512 = omega (arith, length-take k (drop at bytes), length-drop at bytes, here, size, inside, long) in
    let words : part ≡ words_bytes ws = read_words ws part (omega (arith, part_size, count)) (IsBytes-take k (drop at bytes) (IsBytes-drop at bytes fits)) read in
    let same : take 512 (drop (512 * i) bytes) ≡ part = ap (λ n. take n (drop (512 * i) bytes)) (sym size) ∙ ap (λ n. take k (drop n bytes)) (sym here) in
    ap (λ (n : ℕ). take n bytes) (let e : 512 * (i + 1) ≡ 512 * i + 512 = omega arith in e)
    ∙ (take-add (512 * i) 512 bytes
    ∙ (ap (λ l. l ++ take 512 (drop (512 * i) bytes)) so_far
    ∙ (ap (λ l. flat_map words_bytes (take i into) ++ l) (same ∙ words ∙ sym (append-nil (words_bytes ws)))
    ∙ (sym (flat_map-append words_bytes (take i into) (ws ∷ []))
    ∙ ap (flat_map words_bytes) (sym (take_more_set into i ws inside))))))

-- each region has 64 words again
pub stay_sized : (into : List (List ℕ)) (ws : List ℕ) (i : ℕ) → length ws ≡ 64 → ((j : ℕ) → j < length into → length (get_or into j []) ≡ 64) → (j : ℕ) → j < length (set into i ws) → length (get_or (set into i ws) j []) ≡ 64
stay_sized [] ws i count each j inside = absurd (omega (arith, inside))
stay_sized (x ∷ xs) ws zero count each zero inside = count
stay_sized (x ∷ xs) ws zero count each (suc j) inside = each (suc j) inside
stay_sized (x ∷ xs) ws (suc i) count each zero inside = each zero (omega arith)
stay_sized (x ∷ xs) ws (suc i) count each (suc j) inside = stay_sized xs ws i count (λ k lt. each (suc k) (omega (arith, lt))) j (omega (arith, inside))
