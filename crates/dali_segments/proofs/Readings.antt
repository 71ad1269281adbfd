-- A read of the log, part after part.
use Rattle.std.specs.Prelude.{◌⊎◌, ◌*◌, ◌/◌, ◌%◌, min, Bool, true, false, Option, Some, None, IfSome, replicate, refl}
use Rattle.std.specs.Option.{ForSome}
use Rattle.std.proofs.Common.{◌≡◌, inl, inr, ⊎_elim, ℕ, suc, ◌+◌, ◌-◌, ◌≤◌, ◌<◌, List, ◌++◌, length, take, drop, sym, ◌∙◌, ap, subst, arith, append_assoc, length-drop}
use Rattle.std.proofs.lemmas.List.{length-take-le, take_at, take-append-drop, drop-take, drop-drop, drop-replicate, take-replicate, length-replicate, append-nil}
use Rattle.std.proofs.lemmas.Bool.Decides.{nat_tests}
use Rattle.std.proofs.Math.Seq.{take-add, drop-append-add, drop-length}
use Rattle.dali_store.specs.Store.{ReadsAt}
use Rattle.dali_files.specs.Files.{Contents}
use Rattle.dali_segments.specs.Pieces.{joined}
use Rattle.dali_files.specs.declared.key.FileKey.{FileKey}
use Rattle.dali_segments.specs.Segments.{mark, is_dropped, piece, log_of, told_of, IsSound, EndsIn}
use Rattle.dali_segments.proofs.Joins.{joined_behind, joined_front}
use Rattle.dali_segments.proofs.Logs.{piece_dropped}
use Rattle.dali_segments.proofs.Places.{place_of, mul_up, mul_next}
use Rattle.dali_segments.proofs.Sounds.{ends_length, ready_ends}

-- a part of the log in one segment
pub log_part : (size last dropped : ℕ) (fs : Contents) → last < 4095 → EndsIn size last dropped fs → (number offset k : ℕ) → number ≤ last → offset + k ≤ length (piece size fs number)
    → take k (drop (number * size + offset) (log_of size fs)) ≡ take k (drop offset (piece size fs number))
log_part size last dropped fs below is number offset k under inside =
    let here : 0 + number ≡ number = omega arith in
    let more : 4095 - number ≡ suc (4094 - number) = omega (arith, under, below) in
    ap (λ (l : List ℕ). take k l) (sym (drop-drop offset (number * size) (log_of size fs)))
    ∙ ap (λ (l : List ℕ). take k (drop offset l))
    (
    joined_behind size (λ n. piece size fs n) 0 number 4095 (omega (arith, under, below)) (λ n from lt. is.full n (omega (arith, lt, under)))
    ∙ ap (λ (n : ℕ). joined size (λ i. piece size fs i) n (4095 - number)) here
    ∙ ap (λ (n : ℕ). joined size (λ i. piece size fs i) number n) more
    )
    ∙ joined_front size (λ n. piece size fs n) number (4094 - number) offset k inside

none_or : (n : ℕ) → (n ≡ 0) ⊎ (0 < n)
none_or n = grind arith

take_none : (a b : List ℕ) → take 0 a ≡ take 0 b
take_none a b = refl

-- the same where nothing is left of the segment
part_or : (size last dropped : ℕ) (fs : Contents) → last < 4095 → EndsIn size last dropped fs → (number offset k : ℕ) → number ≤ last → k ≤ length (piece size fs number) - offset
    → take k (drop (number * size + offset) (log_of size fs)) ≡ take k (drop offset (piece size fs number))
part_or size last dropped fs below is number offset k under inside = ⊎_elim
    (λ none. subst (λ (n : ℕ). take n (drop (number * size + offset) (log_of size fs)) ≡ take n (drop offset (piece size fs number))) (sym none)
    (take_none (drop (number * size + offset) (log_of size fs)) (drop offset (piece size fs number))))
    (λ some. log_part size last dropped fs below is number offset k under (omega (arith, inside, some)))
    (none_or k)

-- so far the buffer has what the log has
pub record HasRead (size at count : ℕ) (fs : Contents) (first now : List ℕ) : Type 0 where
  pub within : count ≤ length (log_of size fs) - at
  pub bytes : now ≡ take count (drop at (log_of size fs)) ++ drop count first

pub read_none : (size at : ℕ) (fs : Contents) (first : List ℕ) → HasRead size at 0 fs first first
read_none size at fs first = record { within = omega arith; bytes = refl }

-- one part more
pub read_next : (size last dropped at count more most number offset : ℕ) (fs : Contents) (first now next : List ℕ) → last < 4095 → EndsIn size last dropped fs → 64 ≤ size
    → number ≤ last → number * size + offset ≡ at + count → more ≡ min most (length (piece size fs number) - offset) → count + most ≤ length first
    → next ≡ take count now ++ take more (drop offset (piece size fs number)) ++ drop (count + more) now → HasRead size at count fs first now → HasRead size at (count + more) fs first next
read_next size last dropped at count more most number offset fs first now next below is large under place more_is room next_is so_far = record {
  within = within;
  bytes = next_is
      ∙ ap (λ (l : List ℕ). l ++ take more (drop offset p) ++ drop (count + more) now) front
      ∙ ap (λ (l : List ℕ). take count d ++ l ++ drop (count + more) now) middle
      ∙ ap (λ (l : List ℕ). l ++ drop (count + more) now) (sym (take-add count more d))
      ∙ ap (λ (l : List ℕ). take (count + more) d ++ l) behind;
}
  where
    log : List ℕ
    log = log_of size fs

    p : List ℕ
    p = piece size fs number

    d : List ℕ
    d = drop at (log_of size fs)

    long : length (take count d) ≡ count
    long = length-take-le count d (omega (arith, so_far.within, length-drop at log))

    front : take count now ≡ take count d
    front = ap (λ (l : List ℕ). take count l) so_far.bytes ∙ take_at (take count d) (drop count first) count long

    middle : take more (drop offset p) ≡ take more (drop count d)
    middle =
        sym (part_or size last dropped fs below is number offset more under (omega (arith, more_is)))
        ∙ ap (λ (n : ℕ). take more (drop n log)) place
        ∙ ap (λ (l : List ℕ). take more l) (sym (drop-drop count at log))

    behind : drop (count + more) now ≡ drop (count + more) first
    behind =
        ap (λ (l : List ℕ). drop (count + more) l) so_far.bytes
        ∙ ap (λ (n : ℕ). drop (n + more) (take count d ++ drop count first)) (sym long)
        ∙ drop-append-add (take count d) (drop count first) more
        ∙ drop-drop more count first

    within : count + more ≤ length log - at
    within = ⊎_elim
        (λ none. omega (arith, none, so_far.within))
        (λ some. ⊎_elim
        (λ inner. omega (arith, more_is, some, place, ends, inner, mul_up (number + 1) last size inner, mul_next number size, is.full number (omega (arith, inner))))
        (λ here. omega (arith, more_is, some, place, ends, ap (λ (n : ℕ). n * size) here, ap (λ (n : ℕ). length (piece size fs n)) here))
        (inner_or number last under))
        (none_or more)
      where
        ends : length log ≡ last * size + length (piece size fs last)
        ends = ends_length size last dropped fs large below is

        inner_or : (n last : ℕ) → n ≤ last → (n + 1 ≤ last) ⊎ (n ≡ last)
        inner_or n last le = grind arith

-- the end of a read
pub read_done : (size at count : ℕ) (fs : Contents) (first now : List ℕ) → HasRead size at count fs first now → count ≡ min (length first) (length (log_of size fs) - at)
    → ReadsAt (log_of size fs) at first count now
read_done size at count fs first now so_far is = record { count = is; bytes = so_far.bytes }

-- a segment that gave less than was asked is the last one
pub read_short : (size last dropped at count more most number offset : ℕ) (fs : Contents) (first now : List ℕ) → last < 4095 → EndsIn size last dropped fs → 64 ≤ size
    → number ≤ last → number * size + offset ≡ at + count → more ≡ min most (length (piece size fs number) - offset) → offset + most ≤ size → count + most ≤ length first → HasRead size at count fs first now
    → (more < most) ⊎ (count + more ≡ length first) → count + more ≤ length (log_of size fs) - at → count + more ≡ min (length first) (length (log_of size fs) - at)
read_short size last dropped at count more most number offset fs first now below is large under place more_is inside room so_far (inr all) step = omega (arith, all, step)
read_short size last dropped at count more most number offset fs first now below is large under place more_is inside room so_far (inl less) step = ⊎_elim
    (λ inner. absurd (omega (arith, more_is, less, inside, is.full number (omega (arith, inner)))))
    (λ here. omega (arith, more_is, less, place, room, so_far.within, step, ends_length size last dropped fs large below is, ap (λ (n : ℕ). n * size) here, ap (λ (n : ℕ). length (piece size fs n)) here))
    (inner_or number last under)
  where
    inner_or : (n last : ℕ) → n ≤ last → (n + 1 ≤ last) ⊎ (n ≡ last)
    inner_or n last le = grind arith

-- behind the last segment nothing is left
pub read_all : (size last dropped at count number offset : ℕ) (fs : Contents) (first now : List ℕ) → last < 4095 → EndsIn size last dropped fs → 64 ≤ size
    → last < number → number * size + offset ≡ at + count → count ≤ length first → HasRead size at count fs first now → count ≡ min (length first) (length (log_of size fs) - at)
read_all size last dropped at count number offset fs first now below is large above place room so_far =
    omega (arith, place, room, so_far.within, is.ends, ends_length size last dropped fs large below is, mul_next last size, mul_up (last + 1) number size (omega (arith, above)))

-- a part of a buffer that was read into
pub read_into : (from count n offset : ℕ) (p before part : List ℕ) → n ≤ count → part ≡ take n (drop offset p) ++ drop n (take count (drop from before))
    → take from before ++ part ++ drop (from + count) before ≡ take from before ++ take n (drop offset p) ++ drop (from + n) before
read_into from count n offset p before part le is =
    ap (λ (l : List ℕ). take from before ++ l ++ drop (from + count) before) is
    ∙ ap (λ (l : List ℕ). l ++ drop (from + count) before) (sym (append_assoc (take from before) (take n (drop offset p)) (drop n (take count (drop from before)))))
    ∙ append_assoc (take from before ++ take n (drop offset p)) (drop n (take count (drop from before))) (drop (from + count) before)
    ∙ ap (λ (l : List ℕ). take from before ++ take n (drop offset p) ++ l) rest
  where
    rest : drop n (take count (drop from before)) ++ drop (from + count) before ≡ drop (from + n) before
    rest =
        let whole : count ≡ n + (count - n) = omega (arith, le) in
        let far : from + count ≡ (from + n) + (count - n) = omega (arith, le) in
        ap (λ (k : ℕ). drop n (take k (drop from before)) ++ drop (from + count) before) whole
        ∙ ap (λ (l : List ℕ). l ++ drop (from + count) before) (drop-take n (count - n) (drop from before))
        ∙ ap (λ (l : List ℕ). take (count - n) l ++ drop (from + count) before) (drop-drop n from before)
        ∙ ap (λ (k : ℕ). take (count - n) (drop (from + n) before) ++ drop k before) far
        ∙ ap (λ (l : List ℕ). take (count - n) (drop (from + n) before) ++ l) (sym (drop-drop (count - n) (from + n) before))
        ∙ take-append-drop (count - n) (drop (from + n) before)

-- a dropped segment
pub read_zeros : (size number offset : ℕ) (fs : Contents) (before : List ℕ) → is_dropped (length (fs mark)) number ≡ true → offset + length before ≤ size
    → ReadsAt (piece size fs number) offset before (length before) (replicate (length before) 0)
read_zeros size number offset fs before gone inside = subst (λ (l : List ℕ). ReadsAt l offset before (length before) (replicate (length before) 0)) (sym (piece_dropped size fs number gone))
    (record {
      count = omega (arith, inside, length-replicate size zero_byte);
      bytes = sym (
          ap (λ (l : List ℕ). take (length before) l ++ drop (length before) before) (drop-replicate offset size zero_byte)
          ∙ ap (λ (l : List ℕ). l ++ drop (length before) before) (take-replicate (length before) (size - offset) zero_byte (omega (arith, inside)))
          ∙ ap (λ (l : List ℕ). replicate (length before) zero_byte ++ l) (drop-length before)
          ∙ append-nil (replicate (length before) zero_byte)
          );
    })
  where
    zero_byte : ℕ
    zero_byte = 0

pub next_place : (size at count more most number offset room : ℕ) → most ≡ min (room - count) (size - offset) → most ≤ more → more ≤ most → count + more < room → number * size + offset ≡ at + count → offset < size
    → (number + 1) * size + 0 ≡ at + (count + more)
next_place size at count more most number offset room is least le room_left place inside = omega (arith, is, least, le, room_left, place, inside, mul_next number size)

-- the same where it may not be told what reads give
pub told_none : (size last dropped at : ℕ) (first : List ℕ) (told : Option Contents) → IfSome told (λ fs. EndsIn size last dropped fs → HasRead size at 0 fs first first)
told_none size last dropped at first None = tt
told_none size last dropped at first (Some fs) = λ is. read_none size at fs first

module _ (size last dropped at count more most number offset : ℕ) (first now next : List ℕ) (below : last < 4095) (large : 64 ≤ size) (under : number ≤ last) (place : number * size + offset ≡ at + count)
    (inside : offset + most ≤ size) (room : count + most ≤ length first) where
  pub told_next : (old mid : Option Contents) → mid ≡ old → IfSome old (λ fs. EndsIn size last dropped fs → HasRead size at count fs first now)
      → IfSome mid (λ fs. length (fs mark) ≡ dropped → (more ≡ min most (length (piece size fs number) - offset)) × (next ≡ take count now ++ take more (drop offset (piece size fs number)) ++ drop (count + more) now))
      → IfSome old (λ fs. EndsIn size last dropped fs → HasRead size at (count + more) fs first next)
  told_next None mid same so_far step = tt
  told_next (Some fs) mid same so_far step =
      let here = subst (λ (t : Option Contents). IfSome t (λ fs. length (fs mark) ≡ dropped → (more ≡ min most (length (piece size fs number) - offset)) × (next ≡ take count now ++ take more (drop offset (piece size fs number)) ++ drop (count + more) now))) same step in
      λ is.
      let part = here is.marked in
      read_next size last dropped at count more most number offset fs first now next below is large under place part.0 room part.1 (so_far is)

  pub told_short : (old mid : Option Contents) → mid ≡ old → IfSome old (λ fs. EndsIn size last dropped fs → HasRead size at count fs first now)
      → IfSome mid (λ fs. length (fs mark) ≡ dropped → (more ≡ min most (length (piece size fs number) - offset)) × (next ≡ take count now ++ take more (drop offset (piece size fs number)) ++ drop (count + more) now))
      → (more < most) ⊎ (length first ≤ count + more)
      → IfSome old (λ fs. EndsIn size last dropped fs → ReadsAt (log_of size fs) at first (count + more) next)
  told_short None mid same so_far step end = tt
  told_short (Some fs) mid same so_far step end =
      let here = subst (λ (t : Option Contents). IfSome t (λ fs. length (fs mark) ≡ dropped → (more ≡ min most (length (piece size fs number) - offset)) × (next ≡ take count now ++ take more (drop offset (piece size fs number)) ++ drop (count + more) now))) same step in
      λ is.
      let part = here is.marked in
      let all = read_next size last dropped at count more most number offset fs first now next below is large under place part.0 room part.1 (so_far is) in
      read_done size at (count + more) fs first next all
      (read_short size last dropped at count more most number offset fs first now below is large under place part.0 inside room (so_far is)
      (⊎_elim (λ less. inl less) (λ full. inr (omega (arith, full, part.0, room))) end) all.within)

pub told_all : (size last dropped at count number offset : ℕ) (first now : List ℕ) → last < 4095 → 64 ≤ size → last < number → number * size + offset ≡ at + count → count ≤ length first
    → (told : Option Contents) → IfSome told (λ fs. EndsIn size last dropped fs → HasRead size at count fs first now)
    → IfSome told (λ fs. EndsIn size last dropped fs → ReadsAt (log_of size fs) at first count now)
told_all size last dropped at count number offset first now below large above place room None so_far = tt
told_all size last dropped at count number offset first now below large above place room (Some fs) so_far =
    λ is. read_done size at count fs first now (so_far is) (read_all size last dropped at count number offset fs first now below is large above place room (so_far is))

-- a place behind the last segment
pub told_past : (size last dropped at : ℕ) (first : List ℕ) → last < 4095 → 64 ≤ size → last < at / size → (told : Option Contents) → IfSome told (λ fs. EndsIn size last dropped fs → ReadsAt (log_of size fs) at first 0 first)
told_past size last dropped at first below large above told =
    told_all size last dropped at 0 (at / size) (at % size) first first below large above (omega (arith, place_of at size)) (omega arith) told (told_none size last dropped at first told)

-- a part of a buffer that was read into, as the buffer is written out
pub told_part : (number size dropped from count n offset far : ℕ) (before part : List ℕ) → far ≡ count → n ≤ count → from + count ≤ length before → (told : Option Contents)
    → IfSome told (λ fs. length (fs mark) ≡ dropped → ReadsAt (piece size fs number) offset (take far (drop from before)) n part)
    → IfSome told (λ fs. length (fs mark) ≡ dropped → (n ≡ min count (length (piece size fs number) - offset)) × (take from before ++ (part ++ drop far (drop from before)) ≡ take from before ++ take n (drop offset (piece size fs number)) ++ drop (from + n) before))
told_part number size dropped from count n offset far before part same le room None reads = tt
told_part number size dropped from count n offset far before part same le room (Some fs) reads = λ marked.
    let here = subst (λ (k : ℕ). ReadsAt (piece size fs number) offset (take k (drop from before)) n part) same (reads marked) in (
      here.count ∙ ap (λ (k : ℕ). min k (length (piece size fs number) - offset)) (length-take-le count (drop from before) (omega (arith, room, length-drop from before))),
      ap (λ (k : ℕ). take from before ++ (part ++ drop k (drop from before))) same
          ∙ ap (λ (l : List ℕ). take from before ++ (part ++ l)) (drop-drop count from before)
          ∙ sym (append_assoc (take from before) part (drop (from + count) before))
          ∙ read_into from count n offset (piece size fs number) before part le here.bytes,
    )

-- a dropped segment, where it may not be told what reads give
pub told_zeros : (size number dropped offset n : ℕ) (before after : List ℕ) → 0 < number → number ≤ dropped → offset + length before ≤ size → n ≡ length before → after ≡ replicate (length before) 0 → (told : Option Contents)
    → IfSome told (λ fs. length (fs mark) ≡ dropped → ReadsAt (piece size fs number) offset before n after)
told_zeros size number dropped offset n before after above under inside long is None = tt
told_zeros size number dropped offset n before after above under inside long is (Some fs) = λ marked.
    subst (λ (k : ℕ). ReadsAt (piece size fs number) offset before k after) (sym long)
    (
    subst (λ (l : List ℕ). ReadsAt (piece size fs number) offset before (length before) l) (sym is)
    (read_zeros size number offset fs before (ap (λ (m : ℕ). is_dropped m number) marked ∙ gone dropped number above under) inside)
    )
  where
    gone : (marked n : ℕ) → 0 < n → n ≤ marked → is_dropped marked n ≡ true
    gone marked n above under = grind (arith, nat_tests)

-- the log of files that are ready
pub told_ready : (lost : Bool) (size last dropped settled at n : ℕ) (before after : List ℕ) → lost ≡ false → (told : Option Contents) (outcomes : Contents → Type 0) (going : FileKey → Type 0)
    → ForSome told (λ fs. IsSound lost size last dropped settled outcomes going fs) → IfSome told (λ fs. EndsIn size last dropped fs → ReadsAt (log_of size fs) at before n after)
    → IfSome (told_of size told) (λ fs. ReadsAt fs.log at before n after)
told_ready lost size last dropped settled at n before after found None outcomes going sound reads = tt
told_ready lost size last dropped settled at n before after found (Some fs) outcomes going sound reads = reads (ready_ends size last dropped settled outcomes going fs ((sound fs refl).ready found))

pub part_count : (from count n far : ℕ) (before : List ℕ) → far ≡ count → from + count ≤ length before → n ≤ length (take far (drop from before)) → n ≤ count
part_count from count n far before same room le =
    omega (arith, le, same, room, length-drop from before, length-take-le far (drop from before) (omega (arith, same, room, length-drop from before)))
