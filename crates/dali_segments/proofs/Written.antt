-- A write to one segment, as the log sees it.
use Rattle.std.specs.Prelude.{◌⊎◌, ◌≢◌, ◌*◌, Bool, false, max, min, Option, Some, None, IfSome, Result, OnOk, is_some, refl}
use Rattle.std.specs.Option.{ForSome}
use Rattle.std.proofs.Common.{◌≡◌, inl, inr, ⊎_elim, ℕ, ◌+◌, ◌≤◌, ◌<◌, List, [], length, sym, ◌∙◌, ap, subst, arith, Ok, Err}
use Rattle.dali_store.specs.Store.{Torn, Holds, HoldsIn as HoldsFile, TornIn as TornFile}
use Rattle.dali_store.specs.declared.store.FileName.TheVariants.{Log}
use Rattle.dali_files.specs.Files.{Contents, HoldsIn, TornIn, TornTold, Follows, Elapses}
use Rattle.dali_files.specs.declared.key.FileKey.{FileKey}
use Rattle.dali_files.specs.declared.key.FileKey.TheVariants.{ImageA, ImageB, Anchor, Segment}
use Rattle.dali_segments.specs.Segments.{mark, is_dropped, piece, log_of, store_of, told_of, LeavesWhere, IsReady, IsHeld, IsSound, FullBelow}
use Rattle.dali_segments.specs.Writes.{Writes}
use Rattle.dali_segments.specs.Laws.{Shorter, time_law}
use Rattle.dali_segments.proofs.Logs.{piece_kept, piece_other, marks_same, torn_store, holds_log, images_same, crash_write}
use Rattle.dali_segments.proofs.Places.{number_at_end}
use Rattle.dali_segments.proofs.Sounds.{ready_ends, ends_length}
use Rattle.dali_segments.proofs.Helds.{sound_ready}
use Rattle.dali_segments.proofs.Runs.{torn_in_same}

is_or : (n k : ℕ) → (n ≡ k) ⊎ (n ≢ k)
is_or n k = grind arith

below_or : (n last : ℕ) → (n < last) ⊎ (last ≤ n)
below_or n last = grind arith

module _ (size : ℕ) (large : 64 ≤ size) (last dropped settled k at m : ℕ) (below : k < 4095) (last_below : last < 4095) (inside : at + m ≤ size) (kept : is_dropped dropped k ≡ false)
    (before : Contents → Type 0) (was_going : FileKey → Type 0) (old : Contents)
    (ready : IsReady size last dropped settled before was_going old) (in_log : k * size + at ≤ length (log_of size old)) where
  some : 1 ≤ size
  some = omega (arith, large)

  place : (k ≤ last) ⊎ ((k ≡ last + 1) × ((length (piece size old last) ≡ size) × (at ≡ 0)))
  place = number_at_end k at last size (length (piece size old last)) ready.ends
      (omega (arith, in_log, ends_length size last dropped old large last_below (ready_ends size last dropped settled before was_going old ready))) large

  bounded : length (piece size old k) ≤ size
  bounded = ⊎_elim
      (λ under. ⊎_elim
      (λ lt. omega (arith, ready.full k lt))
      (λ le. subst (λ (i : ℕ). length (piece size old i) ≤ size) (same last k le under) ready.ends)
      (below_or k last))
      (λ next. omega (arith, ap (λ (l : List ℕ). length l) (ready.none k (omega (arith, next.0)) below)))
      place
    where
      same : (last k : ℕ) → last ≤ k → k ≤ last → last ≡ k
      same last k le under = omega (arith, le, under)

  kept_in : (d : Contents) → length (d mark) ≡ dropped → is_dropped (length (d mark)) k ≡ false
  kept_in d same = ap (λ (n : ℕ). is_dropped n k) same ∙ kept

  -- the place is in the segment's file
  pub in_segment : at ≤ length (old (Segment k))
  in_segment = subst (λ (l : List ℕ). at ≤ length l) (piece_kept size old k (kept_in old ready.marked)) (⊎_elim
      (λ under. ⊎_elim
      (λ lt. omega (arith, ready.full k lt, inside))
      (λ le. subst (λ (i : ℕ). at ≤ length (piece size old i)) (same last k le under) (at_last (same last k le under)))
      (below_or k last))
      (λ next. omega (arith, next.1.1))
      place)
    where
      same : (last k : ℕ) → last ≤ k → k ≤ last → last ≡ k
      same last k le under = omega (arith, le, under)

      at_last : last ≡ k → at ≤ length (piece size old last)
      at_last is = omega (
        arith,
        in_log,
        ends_length size last dropped old large last_below (ready_ends size last dropped settled before was_going old ready),
        ap (λ (i : ℕ). i * size) is,
      )

  full_before : (n : ℕ) → n < k → length (piece size old n) ≡ size
  full_before n lt = ⊎_elim
      (λ under. ready.full n (omega (arith, lt, under)))
      (λ next. ⊎_elim
      (λ first. ready.full n first)
      (λ le. subst (λ (i : ℕ). length (piece size old i) ≡ size) (same n last k lt le next.0) next.1.0)
      (below_or n last))
      place
    where
      same : (n last k : ℕ) → n < k → last ≤ n → k ≡ last + 1 → last ≡ n
      same n last k lt le next = omega (arith, lt, le, next)

  ends_or : (length (piece size old k) ≡ size) ⊎ ((n : ℕ) → k < n → n < 4095 → piece size old n ≡ [])
  ends_or = ⊎_elim (λ lt. inl (ready.full k lt)) (λ le. inr (λ n above lt. ready.none n (omega (arith, le, above)) lt)) (below_or k last)

  -- one outcome of a crash and another one behind the write
  marks_in : (d e : Contents) → TornIn (Segment k) at m d e → length (e mark) ≡ length (d mark)
  marks_in d e torn = marks_same k d e below torn.same

  other_in : (d e : Contents) → TornIn (Segment k) at m d e → (n : ℕ) → n ≢ k → piece size e n ≡ piece size d n
  other_in d e torn n differs = piece_other size k d e below torn.same n differs

  torn_in : (d e : Contents) → length (d mark) ≡ dropped → TornIn (Segment k) at m d e → Torn at m (piece size d k) (piece size e k)
  torn_in d e marked torn =
      subst (λ (l : List ℕ). Torn at m l (piece size e k)) (sym (piece_kept size d k (kept_in d marked)))
      (subst (λ (l : List ℕ). Torn at m (d (Segment k)) l) (sym (piece_kept size e k (kept_in e (marks_in d e torn ∙ marked)))) torn.torn)

  full_stays : (d e : Contents) → length (d mark) ≡ dropped → TornIn (Segment k) at m d e → (n : ℕ) → length (piece size d n) ≡ size → length (piece size e n) ≡ size
  full_stays d e marked torn n full = ⊎_elim
      (λ same. subst (λ (i : ℕ). length (piece size e i) ≡ size) (sym same) (here (subst (λ (i : ℕ). length (piece size d i) ≡ size) same full)))
      (λ differs. ap (λ (l : List ℕ). length l) (other_in d e torn n differs) ∙ full)
      (is_or n k)
    where
      here : length (piece size d k) ≡ size → length (piece size e k) ≡ size
      here is = let step = torn_in d e marked torn in omega (arith, is, step.no_shorter, step.no_longer, inside)

  module _ (after : Contents → Type 0) (is_going : FileKey → Type 0) (new : Contents)
      (torn : TornIn (Segment k) at m old new) (follows : Follows (TornIn (Segment k) at m) before after) (less : (g : FileKey) → is_going g → was_going g) where
    step_here : Torn at m (piece size old k) (piece size new k)
    step_here = torn_in old new ready.marked torn

    most_or : (last k : ℕ) → (max last k ≡ k) ⊎ ((max last k ≡ last) × (last ≢ k))
    most_or last k = grind arith

    pub ready_written : IsReady size (max last k) dropped (min settled k) after is_going new
    ready_written = record {
      marked = marks_in old new torn ∙ ready.marked;
      full = λ n lt. full_stays old new ready.marked torn n (full_old n lt);
      ends = ⊎_elim
          (λ is. subst (λ (i : ℕ). length (piece size new i) ≤ size) (sym is) (omega (arith, step_here.no_longer, bounded, inside)))
          (λ is. subst (λ (i : ℕ). length (piece size new i) ≤ size) (sym is.0) (omega (arith, ap (λ (l : List ℕ). length l) (other_in old new torn last is.1), ready.ends)))
          (most_or last k);
      none = λ n above lt. other_in old new torn n (λ is. omega (arith, above, is)) ∙ ready.none n (omega (arith, above)) lt;
      same_mark = λ d out. let was = follows d out in marks_in was.0 d was.2 ∙ ready.same_mark was.0 was.1;
      settled_same = λ d out n lt.
          let was = follows d out in
          other_in was.0 d was.2 n (λ is. omega (arith, lt, is))
          ∙ ready.settled_same was.0 was.1 n (omega (arith, lt))
          ∙ sym (other_in old new torn n (λ is. omega (arith, lt, is)));
      none_left = λ d out n above lt.
          let was = follows d out in
          other_in was.0 d was.2 n (λ is. omega (arith, above, is)) ∙ ready.none_left was.0 was.1 n (omega (arith, above)) lt;
      stays = λ n above lt going. ready.stays n above lt (less (Segment n) going);
      first = λ going. ready.first (less (Segment 0) going);
    }
      where
        full_old : (n : ℕ) → n < max last k → length (piece size old n) ≡ size
        full_old n lt = ⊎_elim (λ first. ready.full n first) (λ le. full_before n (omega (arith, lt, le))) (below_or n last)

    pub torn_here : TornFile Log (k * size + at) m (store_of size old) (store_of size new)
    torn_here = torn_store size some k at m below inside old new (kept_in old ready.marked) bounded ends_or torn

    pub holds_here : (bytes : List ℕ) → length bytes ≡ m → Holds (old (Segment k)) at bytes (new (Segment k)) → Holds (log_of size old) (k * size + at) bytes (log_of size new)
    holds_here bytes long holds =
        holds_log size some k at m below inside old new (kept_in old ready.marked) bounded ends_or torn bytes long full_before holds

    pub full_after : (l : ℕ) → ((d : Contents) → before d → (n : ℕ) → n < l → length (piece size d n) ≡ size)
        → (d : Contents) → after d → (n : ℕ) → n < l → length (piece size d n) ≡ size
    full_after l full d out n lt = let was = follows d out in full_stays was.0 d (ready.same_mark was.0 was.1) was.2 n (full was.0 was.1 n lt)

    pub crash_here : IsHeld size before was_going → (k < last → (d : Contents) → before d → length (piece size d k) ≡ size)
        → (d e : Contents) → before d → TornIn (Segment k) at m d e → TornFile Log (k * size + at) m (store_of size d) (store_of size e)
    crash_here held full d e out step =
        torn_store size some k at m below inside d e (kept_in d (ready.same_mark d out)) (held.small d out k below)
        (⊎_elim (λ lt. inl (full lt d out)) (λ le. inr (λ n above lt. ready.none_left d out n (omega (arith, le, above)) lt)) (below_or k last))
        step

-- all of it, where it may not be told what reads give
module _ (size : ℕ) (large : 64 ≤ size) (last dropped settled k at m : ℕ) (below : k < 4095) (last_below : last < 4095) (few : dropped < 4095) (inside : at + m ≤ size) (kept : is_dropped dropped k ≡ false)
    (lost : Bool) (found : lost ≡ false) where
  pub segment_place : (told : Option Contents) (before : Contents → Type 0) (was_going : FileKey → Type 0)
      → ForSome told (λ fs. IsSound lost size last dropped settled before was_going fs) → IfSome (told_of size told) (λ fs. k * size + at ≤ length fs.log)
      → IfSome told (λ fs. at ≤ length (fs (Segment k)))
  segment_place None before was_going sound in_log = tt
  segment_place (Some fs) before was_going sound in_log =
      in_segment size large last dropped settled k at m below last_below inside kept before was_going fs ((sound fs refl).ready found) in_log

  pub segment_writes : (old new : Option Contents) (before after : Contents → Type 0) (was_going is_going : FileKey → Type 0) (moment now : ℕ) (past since : ℕ → Contents → Type 0)
      → ForSome old (λ fs. IsSound lost size last dropped settled before was_going fs) → IfSome (told_of size old) (λ fs. k * size + at ≤ length fs.log)
      → IfSome old (λ fs. k < last → (d : Contents) → before d → length (piece size d k) ≡ size)
      → TornTold (Segment k) at m old new → Follows (TornIn (Segment k) at m) before after → ((c : Contents) → before c → after c)
      → ((g : FileKey) → is_going g → was_going g) → is_some new ≡ is_some old → Elapses moment now past since after
      → Writes (k * size + at) m (told_of size old) (told_of size new) (LeavesWhere size old before) (LeavesWhere size new after) moment now (λ t. LeavesWhere size old (past t)) (λ t. LeavesWhere size new (since t))
  segment_writes None None before after was_going is_going moment now past since sound in_log full torn follows more less tells time = record {
    torn = refl;
    crash = λ c out. (c, tt, torn_in_same (k * size + at) m c);
    more = λ c out. tt;
    time = time_law size moment now None None past since after tells time;
  }
  segment_writes None (Some ns) before after was_going is_going moment now past since sound in_log full torn follows more less tells time = absurd cc
  segment_writes (Some fs) None before after was_going is_going moment now past since sound in_log full torn follows more less tells time = absurd torn
  segment_writes (Some fs) (Some ns) before after was_going is_going moment now past since sound in_log full torn follows more less tells time =
      let is : IsSound lost size last dropped settled before was_going fs = sound fs refl in
      record {
        torn = torn_here size large last dropped settled k at m below last_below inside kept before was_going fs (is.ready found) in_log after is_going ns torn follows less;
        crash = crash_write size k at m before after follows
            (crash_here size large last dropped settled k at m below last_below inside kept before was_going fs (is.ready found) in_log after is_going ns torn follows less is.held full);
        more = λ c left. (left.0, more left.0 left.1, left.2);
        time = time_law size moment now (Some fs) (Some ns) past since after tells time;
      }

  pub segment_holds : (old new : Option Contents) (before after : Contents → Type 0) (was_going is_going : FileKey → Type 0) (bytes : List ℕ)
      → ForSome old (λ fs. IsSound lost size last dropped settled before was_going fs) → IfSome (told_of size old) (λ fs. k * size + at ≤ length fs.log)
      → TornTold (Segment k) at m old new → Follows (TornIn (Segment k) at m) before after → ((g : FileKey) → is_going g → was_going g)
      → length bytes ≡ m → HoldsIn (Segment k) at bytes old new → HoldsFile Log (k * size + at) bytes (told_of size old) (told_of size new)
  segment_holds None None before after was_going is_going bytes sound in_log torn follows less long holds = refl
  segment_holds None (Some ns) before after was_going is_going bytes sound in_log torn follows less long holds = absurd cc
  segment_holds (Some fs) None before after was_going is_going bytes sound in_log torn follows less long holds = absurd holds
  segment_holds (Some fs) (Some ns) before after was_going is_going bytes sound in_log torn follows less long holds = (
    holds_here size large last dropped settled k at m below last_below inside kept before was_going fs ((sound fs refl).ready found) in_log after is_going ns torn follows less bytes long holds.0,
    images_same size k fs ns torn.same,
  )

  pub segment_full : (l : ℕ) (old new : Option Contents) (before after : Contents → Type 0) (was_going is_going : FileKey → Type 0)
      → ForSome old (λ fs. IsSound lost size last dropped settled before was_going fs) → IfSome (told_of size old) (λ fs. k * size + at ≤ length fs.log)
      → TornTold (Segment k) at m old new → Follows (TornIn (Segment k) at m) before after → ((g : FileKey) → is_going g → was_going g)
      → FullBelow size l old before → FullBelow size l new after
  segment_full l None None before after was_going is_going sound in_log torn follows less full = tt
  segment_full l None (Some ns) before after was_going is_going sound in_log torn follows less full = absurd cc
  segment_full l (Some fs) None before after was_going is_going sound in_log torn follows less full = tt
  segment_full l (Some fs) (Some ns) before after was_going is_going sound in_log torn follows less full =
      full_after size large last dropped settled k at m below last_below inside kept before was_going fs ((sound fs refl).ready found) in_log after is_going ns torn follows less l full

  pub segment_sound : (most least : ℕ) → most ≡ max last k → least ≡ min settled k → (old new : Option Contents) (before after : Contents → Type 0) (was_going is_going : FileKey → Type 0)
      → ForSome old (λ fs. IsSound lost size last dropped settled before was_going fs) → IfSome (told_of size old) (λ fs. k * size + at ≤ length fs.log)
      → TornTold (Segment k) at m old new → Follows (TornIn (Segment k) at m) before after → ((g : FileKey) → is_going g → was_going g)
      → IfSome new (λ fs. after fs) → IfSome new (λ fs. Shorter after is_going fs)
      → ForSome new (λ fs. IsSound lost size most dropped least after is_going fs)
  segment_sound most least most_is least_is old new before after was_going is_going sound in_log torn follows less now shorter =
      subst (λ (i : ℕ). ForSome new (λ fs. IsSound lost size i dropped least after is_going fs)) (sym most_is)
      (
      subst (λ (i : ℕ). ForSome new (λ fs. IsSound lost size (max last k) dropped i after is_going fs)) (sym least_is)
      (sound_ready lost size (max last k) dropped (min settled k) new after is_going few now shorter (by_told old new sound in_log torn))
      )
    where
      by_told : (o n : Option Contents) → ForSome o (λ fs. IsSound lost size last dropped settled before was_going fs) → IfSome (told_of size o) (λ fs. k * size + at ≤ length fs.log)
          → TornTold (Segment k) at m o n
          → IfSome n (λ fs. ((is_going ImageA → ⊥) × ((is_going ImageB → ⊥) × (is_going Anchor → ⊥))) × IsReady size (max last k) dropped (min settled k) after is_going fs)
      by_told None None sound in_log torn = tt
      by_told None (Some ns) sound in_log torn = absurd cc
      by_told (Some fs) None sound in_log torn = tt
      by_told (Some fs) (Some ns) sound in_log torn =
          let is : IsSound lost size last dropped settled before was_going fs = sound fs refl in
          let images = is.held.images in (
            (λ g. images.0 (less ImageA g), (λ g. images.1.0 (less ImageB g), λ g. images.1.1 (less Anchor g))),
            ready_written size large last dropped settled k at m below last_below inside kept before was_going fs (is.ready found) in_log after is_going ns torn follows less,
          )

-- of each outcome the segments below the last one are full, where they wait for no sync
pub settled_full : (lost : Bool) → lost ≡ false → (size last dropped settled : ℕ) → last ≤ settled → (told : Option Contents) (outcomes : Contents → Type 0) (going : FileKey → Type 0)
    → ForSome told (λ fs. IsSound lost size last dropped settled outcomes going fs) → FullBelow size last told outcomes
settled_full lost found size last dropped settled above None outcomes going sound = tt
settled_full lost found size last dropped settled above (Some fs) outcomes going sound =
    let ready : IsReady size last dropped settled outcomes going fs = (sound fs refl).ready found in
    λ d out n lt. ap (λ (l : List ℕ). length l) (ready.settled_same d out n (omega (arith, lt, above))) ∙ ready.full n lt

-- the result of a call
pub on_ok : {T E P Q : Type 0} (r : Result T E) → (P → Q) → OnOk r P → OnOk r Q
on_ok (Ok x) f is = f is
on_ok (Err e) f is = tt
