-- A write over several segments: one turn of its loop.
use Rattle.std.specs.Prelude.{◌⊎◌, ◌*◌, ◌/◌, ◌%◌, false, max, min, Option, Some, None, IfSome}
use Rattle.std.proofs.Common.{◌≡◌, inl, inr, ⊎_elim, ℕ, ◌+◌, ◌-◌, ◌≤◌, ◌<◌, List, length, take, drop, sym, ◌∙◌, ap, subst, arith}
use Rattle.std.proofs.lemmas.List.{length-take-le, take_all}
use Rattle.std.proofs.Math.Seq.{take-add}
use Rattle.dali_store.specs.Store.{Files, HoldsIn}
use Rattle.dali_store.specs.declared.store.FileName.TheVariants.{Log}
use Rattle.dali_files.specs.Files.{Contents}
use Rattle.dali_segments.specs.Segments.{is_dropped, piece, FullBelow}
use Rattle.dali_segments.specs.Writes.{Writes, IsSpan, CanWrite}
use Rattle.dali_segments.proofs.Places.{place_of, place_in, mul_up, mul_next}
use Rattle.dali_segments.proofs.Runs.{writes_on, holds_told_on, holds_reach}

-- the numbers of a turn: from one segment to the next one
pub record IsTurn (size start count last number offset done more : ℕ) : Type 0 where
  pub within : done + more ≤ count
  pub inside : offset + more ≤ size
  pub next : number + 1 ≤ last → (number + 1) * size + 0 ≡ start + (done + more)
  pub ended : last < number + 1 → done + more ≡ count

pub a_turn : (size start count last number offset done more : ℕ) → last * size < start + count → start + count ≤ (last + 1) * size → number ≤ last → done ≤ count → offset < size
    → number * size + offset ≡ start + done → more ≡ min (count - done) (size - offset) → IsTurn size start count last number offset done more
a_turn size start count last number offset done more begins ends under some inside place is = record {
  within = omega (arith, is, some);
  inside = omega (arith, is, inside);
  next = λ le. omega (arith, is, some, inside, place, begins, mul_next number size, mul_up (number + 1) last size le);
  ended = λ lt. omega (arith, is, some, inside, place, ends, mul_next last size, mul_up last number size (omega (arith, lt)));
}

-- where the next part begins is in the log
pub turn_place : (start done e : ℕ) (bytes : List ℕ) (old new : Option Files) → e ≡ start + done → done ≤ length bytes → IfSome old (λ fs. start ≤ length fs.log)
    → HoldsIn Log start (take done bytes) old new → IfSome new (λ fs. e ≤ length fs.log)
turn_place start done e bytes old new is some le holds =
    subst (λ (k : ℕ). IfSome new (λ fs. k ≤ length fs.log)) (sym is)
    (subst (λ (k : ℕ). IfSome new (λ fs. start + k ≤ length fs.log)) (length-take-le done bytes some) (holds_reach start (take done bytes) old new le holds))

-- and its segment is full in each outcome, where it isn't the last one
pub turn_full : (size first_last last k : ℕ) (told : Option Contents) (outcomes : Contents → Type 0) → (last ≤ first_last) ⊎ (last ≤ k) → FullBelow size first_last told outcomes
    → IfSome told (λ fs. k < last → (d : Contents) → outcomes d → length (piece size d k) ≡ size)
turn_full size first_last last k None outcomes reach full = tt
turn_full size first_last last k (Some fs) outcomes reach full = λ lt d out. ⊎_elim
    (λ le. full d out k (omega (arith, lt, le)))
    (λ le. absurd (omega (arith, lt, le)))
    reach

pub turn_reach : (first_last last now k : ℕ) → now ≡ max last k → (last ≤ first_last) ⊎ (last ≤ k) → (now ≤ first_last) ⊎ (now ≤ k + 1)
turn_reach first_last last now k is (inl le) = ⊎_elim (λ under. inl (omega (arith, is, le, under))) (λ above. inr (omega (arith, is, le, above))) (place k first_last)
  where
    place : (k first_last : ℕ) → (k ≤ first_last) ⊎ (first_last ≤ k)
    place k first_last = grind arith
turn_reach first_last last now k is (inr le) = inr (omega (arith, is, le))

-- what was written, and the next part
pub turn_writes : (start done more e : ℕ) → e ≡ start + done → (old mid new : Option Files) (a b c : Files → Type 0) (ma mb mc : ℕ) (pa pb pc : ℕ → Files → Type 0) (n : ℕ) → n ≡ more
    → Writes start done old mid a b ma mb pa pb → Writes e n mid new b c mb mc pb pc → Writes start (done + more) old new a c ma mc pa pc
turn_writes start done more e is old mid new a b c ma mb mc pa pb pc n long one two =
    writes_on start done more old mid new a b c ma mb mc pa pb pc one
    (subst (λ (k : ℕ). Writes start_there k mid new b c mb mc pb pc) long (subst (λ (k : ℕ). Writes k n mid new b c mb mc pb pc) is two))
  where
    start_there : ℕ
    start_there = start + done

pub turn_holds : (start done more e : ℕ) → e ≡ start + done → (bytes part : List ℕ) → part ≡ take more (drop done bytes) → done ≤ length bytes → (old mid new : Option Files)
    → IfSome old (λ fs. start ≤ length fs.log) → HoldsIn Log start (take done bytes) old mid → HoldsIn Log e part mid new → HoldsIn Log start (take (done + more) bytes) old new
turn_holds start done more e is bytes part part_is some old mid new le one two =
    subst (λ (l : List ℕ). HoldsIn Log start l old new) (sym (take-add done more bytes))
    (
    holds_told_on start (take done bytes) (take more (drop done bytes)) old mid new le one
    (
    subst (λ (l : List ℕ). HoldsIn Log (start + length (take done bytes)) l mid new) part_is
    (
    subst (λ (k : ℕ). HoldsIn Log (start + k) part mid new) (sym (length-take-le done bytes some))
    (subst (λ (k : ℕ). HoldsIn Log k part mid new) is two)
    )
    )
    )

-- the numbers of a whole write
pub a_span : (size at count end : ℕ) → 64 ≤ size → 0 < count → end ≡ at + count → IsSpan size at count (at / size) ((end - 1) / size) (at % size)
a_span size at count end large some is =
    let place = place_of at size in
    let inside = place_in at size large in
    let last = place_of (end - 1) size in
    let last_inside = place_in (end - 1) size large in
    record {
      place = place;
      inside = inside;
      under = under;
      begins = omega (arith, is, some, place, last);
      ends = omega (arith, is, some, place, last, last_inside, mul_next ((end - 1) / size) size);
    }
  where
    under : at / size ≤ (end - 1) / size
    under = ⊎_elim
        (λ le. le)
        (λ lt. absurd (omega (
          arith,
          is,
          some,
          place_of at size,
          place_of (end - 1) size,
          place_in (end - 1) size large,
          mul_next ((end - 1) / size) size,
          mul_up ((end - 1) / size + 1) (at / size) size (omega (arith, lt)),
        )))
        (either (at / size) ((end - 1) / size))
      where
        either : (a b : ℕ) → (a ≤ b) ⊎ (b < a)
        either a b = grind arith

-- what a write that was made has, where nothing is left to be written
pub whole_holds : (start : ℕ) (bytes : List ℕ) (done : ℕ) (old new : Option Files) → done ≡ length bytes → HoldsIn Log start (take done bytes) old new → HoldsIn Log start bytes old new
whole_holds start bytes done old new is holds =
    subst (λ (l : List ℕ). HoldsIn Log start l old new) (ap (λ (k : ℕ). take k bytes) is ∙ take_all (length bytes) bytes (omega arith)) holds

pub can_write : (size dropped at count end first last offset : ℕ) → 64 ≤ size → 0 < count → end ≡ at + count → first ≡ at / size → last ≡ (end - 1) / size → offset ≡ at % size → last < 4095
    → ((n : ℕ) → first ≤ n → n ≤ last → is_dropped dropped n ≡ false) → CanWrite size dropped at count first last offset
can_write size dropped at count end first last offset large some is first_is last_is offset_is few kept = record {
  span = subst (λ (i : ℕ). IsSpan size at count i last offset) (sym first_is)
      (
      subst (λ (i : ℕ). IsSpan size at count (at / size) i offset) (sym last_is)
      (subst (λ (i : ℕ). IsSpan size at count (at / size) ((end - 1) / size) i) (sym offset_is) (a_span size at count end large some is))
      );
  few = few;
  kept = kept;
}

pub can_moved : (size dropped now_size now_dropped at count first last offset : ℕ) → now_size ≡ size → now_dropped ≡ dropped → CanWrite size dropped at count first last offset
    → CanWrite now_size now_dropped at count first last offset
can_moved size dropped now_size now_dropped at count first last offset same_size same_dropped can =
    subst (λ (i : ℕ). CanWrite i now_dropped at count first last offset) (sym same_size) (subst (λ (i : ℕ). CanWrite size i at count first last offset) (sym same_dropped) can)

pub moved_place : (e at : ℕ) → e ≡ at → (old new : Option Files) → new ≡ old → IfSome old (λ fs. at ≤ length fs.log) → IfSome new (λ fs. e ≤ length fs.log)
moved_place e at is old new same le =
    subst (λ (t : Option Files). IfSome t (λ fs. e ≤ length fs.log)) (sym same) (subst (λ (k : ℕ). IfSome old (λ fs. k ≤ length fs.log)) (sym is) le)

pub moved_writes : (e at n : ℕ) → e ≡ at → (old new : Option Files) (a b : Files → Type 0) (ma mb : ℕ) (pa pb : ℕ → Files → Type 0) → Writes e n old new a b ma mb pa pb → Writes at n old new a b ma mb pa pb
moved_writes e at n is old new a b ma mb pa pb writes = subst (λ (k : ℕ). Writes k n old new a b ma mb pa pb) is writes

pub moved_holds : (e at : ℕ) (bytes : List ℕ) → e ≡ at → (old mid new : Option Files) → mid ≡ old → HoldsIn Log e bytes mid new → HoldsIn Log at bytes old new
moved_holds e at bytes is old mid new same holds =
    subst (λ (t : Option Files). HoldsIn Log at bytes t new) same (subst (λ (k : ℕ). HoldsIn Log k bytes mid new) is holds)
