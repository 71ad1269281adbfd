-- Where the log ends, and what is removed behind it.
use Rattle.std.specs.Prelude.{◌⊎◌, ◌≢◌, min, Bool, true, false, Option, Some, None, IfSome, is_some, refl}
use Rattle.std.specs.Option.{ForSome}
use Rattle.std.proofs.Common.{◌≡◌, inl, inr, ⊎_elim, ℕ, zero, suc, ◌+◌, ◌-◌, ◌≤◌, ◌<◌, List, [], ◌++◌, length, sym, ◌∙◌, ap, subst, arith}
use Rattle.dali_store.specs.Store.{Files, file_of, Elapses as FilesElapse}
use Rattle.dali_store.specs.declared.store.FileName.{FileName}
use Rattle.dali_store.specs.declared.store.FileName.TheVariants.{Log, ImageA, ImageB, Anchor}
use Rattle.dali_store.proofs.Moments.{same_files}
use Rattle.dali_files.specs.Files.{Contents, Only}
use Rattle.dali_files.specs.declared.key.FileKey.{FileKey}
use Rattle.dali_files.specs.declared.key.FileKey.TheVariants.{ImageA as KeyA, ImageB as KeyB, Anchor as KeyAnchor, Segment}
use Rattle.dali_segments.specs.Segments.{mark, is_dropped, piece_by, piece, log_of, store_of, told_of, LeavesWhere, IsReady, IsHeld, IsSound}
use Rattle.dali_segments.specs.Extents.{piece_from, IsLast, Measures, StopsIn, IsFixed}
use Rattle.dali_segments.specs.Pieces.{joined}
use Rattle.dali_segments.specs.Clears.{IsWithin, IsCleared, ClearedTold, After, Clears, AreGone}
use Rattle.dali_segments.specs.Laws.{Shorter}
use Rattle.dali_segments.proofs.Joins.{joined_none, joined_full, joined_short, size_or}
use Rattle.dali_segments.proofs.Logs.{piece_same, piece_kept}
use Rattle.dali_segments.proofs.Helds.{test_or, is_kept, full_length, sound_at, sound_ready}
use Rattle.dali_segments.proofs.Sounds.{held_fewer}

-- from what was measured
pub measured : (size dropped last behind : ℕ) (fs : Contents) → last < 4095 → Measures size dropped last behind fs → behind ≤ size → dropped ≤ last - 1 → StopsIn size last dropped fs
measured size dropped last behind fs below is fits under = record {
  ends = record {
    marked = marked;
    full = λ n lt. ap (λ (l : List ℕ). length l) (here n) ∙ is.last_one.full n lt;
    ends = omega (arith, ap (λ (l : List ℕ). length l) (here last), is.behind_is, fits);
    nothing_more = ⊎_elim
        (λ short. inl (λ full. short (sym (ap (λ (l : List ℕ). length l) (here last)) ∙ full)))
        (λ end. inr (λ n above lt. absurd (omega (arith, end, above, lt))))
        is.last_one.stops;
  };
  stops = is.last_one.stops;
}
  where
    marked : length (fs mark) ≡ dropped
    marked = omega (arith, is.marked, under, below)

    here : (n : ℕ) → piece size fs n ≡ piece_from size dropped fs n
    here n = ap (λ (m : ℕ). piece_by size m (λ k. fs (Segment k)) n) marked

-- the first that isn't full, one after another
abbrev pub AreFull : ℕ → ℕ → ℕ → Option Contents → Type 0
AreFull size dropped below told = IfSome told (λ fs. (n : ℕ) → n < below → length (piece_from size dropped fs n) ≡ size)

place_or : (n below : ℕ) → n < below + 1 → (n ≡ below) ⊎ (n < below)
place_or n below lt = grind arith

pub last_none : (size dropped : ℕ) (told : Option Contents) → AreFull size dropped 0 told
last_none size dropped None = tt
last_none size dropped (Some fs) = λ n lt. absurd (omega (arith, lt))

pub last_next : (size dropped number behind : ℕ) → behind ≡ size → (told mid : Option Contents) → mid ≡ told → AreFull size dropped number told
    → IfSome mid (λ fs. behind ≡ length (piece_from size dropped fs number)) → AreFull size dropped (number + 1) told
last_next size dropped number behind is None mid same full here = tt
last_next size dropped number behind is (Some fs) mid same full here =
    let at_fs = subst (λ (t : Option Contents). IfSome t (λ fs. behind ≡ length (piece_from size dropped fs number))) same here in
    λ n lt. ⊎_elim
    (λ same_n. ap (λ (k : ℕ). length (piece_from size dropped fs k)) same_n ∙ sym at_fs ∙ is)
    (λ under. full n under)
    (place_or n number lt)

pub last_here : (size dropped number behind : ℕ) → behind ≢ size → (told mid : Option Contents) → mid ≡ told → AreFull size dropped number told
    → IfSome mid (λ fs. behind ≡ length (piece_from size dropped fs number)) → IfSome told (λ fs. IsLast size dropped number fs)
last_here size dropped number behind is None mid same full here = tt
last_here size dropped number behind is (Some fs) mid same full here =
    let at_fs = subst (λ (t : Option Contents). IfSome t (λ fs. behind ≡ length (piece_from size dropped fs number))) same here in
    record { full = full; stops = inl (λ long. is (at_fs ∙ long)) }

pub last_all : (size dropped number : ℕ) → 4095 ≤ number → (told : Option Contents) → AreFull size dropped number told → IfSome told (λ fs. IsLast size dropped 4094 fs)
last_all size dropped number above None full = tt
last_all size dropped number above (Some fs) full = record { full = λ n lt. full n (omega (arith, lt, above)); stops = inr refl }

pub measures : (size marked dropped last behind : ℕ) → dropped ≡ min marked 4095 → (told mid end : Option Contents) → mid ≡ told → end ≡ mid
    → IfSome told (λ fs. marked ≡ length (fs mark)) → IfSome mid (λ fs. IsLast size dropped last fs) → IfSome end (λ fs. behind ≡ length (piece_from size dropped fs last))
    → IfSome told (λ fs. Measures size dropped last behind fs)
measures size marked dropped last behind is None mid end one two mark_is last_is behind_is = tt
measures size marked dropped last behind is (Some fs) mid end one two mark_is last_is behind_is = record {
  marked = is ∙ ap (λ (n : ℕ). min n 4095) mark_is;
  last_one = subst (λ (t : Option Contents). IfSome t (λ fs. IsLast size dropped last fs)) one last_is;
  behind_is = subst (λ (t : Option Contents). IfSome t (λ fs. behind ≡ length (piece_from size dropped fs last))) (two ∙ one) behind_is;
}

-- what is told of a log that was measured
pub told_stops : (size dropped last behind : ℕ) (told : Option Contents) → last < 4095 → IfSome told (λ fs. Measures size dropped last behind fs) → behind ≤ size → dropped ≤ last - 1
    → IfSome told (λ fs. StopsIn size last dropped fs)
told_stops size dropped last behind None below is fits under = tt
told_stops size dropped last behind (Some fs) below is fits under = measured size dropped last behind fs below is fits under

pub told_whole : (size dropped last behind : ℕ) (told : Option Contents) → IfSome told (λ fs. Measures size dropped last behind fs) → size < behind → last ≡ 0 → IfSome told (λ fs. size < length (fs (Segment 0)))
told_whole size dropped last behind None is long first = tt
told_whole size dropped last behind (Some fs) is long first =
    omega (arith, long, is.behind_is, ap (λ (n : ℕ). length (piece_from size dropped fs n)) first)

-- pieces are joined to the same bytes where they are the same up to the last one, and it is short or the last of all
pub joined_upto : (size : ℕ) (p q : ℕ → List ℕ) (n c f : ℕ) → c < f → ((k : ℕ) → n ≤ k → k < n + (c + 1) → q k ≡ p k) → (length (p (n + c)) ≢ size) ⊎ (f ≡ c + 1) → joined size q n f ≡ joined size p n f
joined_upto size p q n c zero below same stops = absurd (omega (arith, below))
joined_upto size p q n zero (suc f) below same stops =
    let first : q n ≡ p n = same n (omega arith) (omega arith) in
    let here : n + zero ≡ n = omega arith in
    ⊎_elim
    (λ full. ⊎_elim
    (λ short. absurd (short (ap (λ (k : ℕ). length (p k)) here ∙ full.1)))
    (λ end.
    let none : f ≡ zero = omega (arith, end) in
    joined_full size q n f (ap (λ (l : List ℕ). length l) first ∙ full.1)
    ∙ ap (λ (l : List ℕ). l ++ joined size q (suc n) f) first
    ∙ ap (λ (l : List ℕ). p n ++ l) (ap (λ (k : ℕ). joined size q (suc n) k) none ∙ joined_none size q (suc n) ∙ sym (joined_none size p (suc n)) ∙ ap (λ (k : ℕ). joined size p (suc n) k) (sym none))
    ∙ sym (joined_full size p n f full.1))
    stops)
    (λ short. joined_short size q n f (λ full. short.1 (sym (ap (λ (l : List ℕ). length l) first) ∙ full)) ∙ first ∙ sym (joined_short size p n f short.1))
    (size_or (length (p n)) size)
joined_upto size p q n (suc c) (suc f) below same stops =
    let first : q n ≡ p n = same n (omega arith) (omega arith) in
    let next : suc n + c ≡ n + suc c = omega arith in
    let rest : joined size q (suc n) f ≡ joined size p (suc n) f =
    joined_upto size p q (suc n) c f (omega (arith, below)) (λ k from lt. same k (omega (arith, from)) (omega (arith, lt)))
    (⊎_elim (λ short. inl (λ full. short (ap (λ (k : ℕ). length (p k)) (sym next) ∙ full))) (λ end. inr (omega (arith, end))) stops) in
    ⊎_elim
    (λ full.
    joined_full size q n f (ap (λ (l : List ℕ). length l) first ∙ full.1)
    ∙ ap (λ (l : List ℕ). l ++ joined size q (suc n) f) first
    ∙ ap (λ (l : List ℕ). p n ++ l) rest
    ∙ sym (joined_full size p n f full.1))
    (λ short. joined_short size q n f (λ full. short.1 (sym (ap (λ (l : List ℕ). length l) first) ∙ full)) ∙ first ∙ sym (joined_short size p n f short.1))
    (size_or (length (p n)) size)

-- where a crash leaves just the files
pub only_fixed : (last : ℕ) (outcomes : Contents → Type 0) (going : FileKey → Type 0) (fs : Contents) → Only fs outcomes → ((g : FileKey) → going g → ⊥) → IsFixed last outcomes going fs
only_fixed last outcomes going fs only none = record {
  marks = λ c out. ap (λ (x : Contents). x mark) (only c out);
  segments = λ c out n lt. ap (λ (x : Contents). x (Segment n)) (only c out);
  images = λ c out. (ap (λ (x : Contents). x KeyA) (only c out), (ap (λ (x : Contents). x KeyB) (only c out), ap (λ (x : Contents). x KeyAnchor) (only c out)));
  mark_stays = none mark;
  segments_stay = λ n lt. none (Segment n);
  images_stay = (none KeyA, (none KeyB, none KeyAnchor));
}

module _ (size last dropped : ℕ) (large : 64 ≤ size) (below : last < 4095) (under : dropped ≤ last - 1) (fs : Contents) (ends : StopsIn size last dropped fs) where
  -- files that have the mark, the images and the segments up to the last one
  module _ (x : Contents) (marks : x mark ≡ fs mark) (segments : (n : ℕ) → n < last + 1 → x (Segment n) ≡ fs (Segment n)) where
    pub same_piece : (n : ℕ) → n < last + 1 → piece size x n ≡ piece size fs n
    same_piece n lt = piece_same size fs x n (ap (λ (l : List ℕ). length l) marks) (segments n lt)

    piece_stops : (length (piece size fs (0 + last)) ≢ size) ⊎ (4095 ≡ last + 1)
    piece_stops = ⊎_elim
        (λ short. inl (λ full. short (sym (ap (λ (m : ℕ). length (piece_by size m (λ k. fs (Segment k)) last)) ends.ends.marked) ∙ ap (λ (k : ℕ). length (piece size fs k)) here ∙ full)))
        (λ end. inr (omega (arith, end)))
        ends.stops
      where
        here : last ≡ 0 + last
        here = omega arith

    pub same_log : log_of size x ≡ log_of size fs
    same_log = joined_upto size (λ n. piece size fs n) (λ n. piece size x n) 0 last 4095 below (λ k from lt. same_piece k (omega (arith, lt))) piece_stops

    pub same_store : x KeyA ≡ fs KeyA → x KeyB ≡ fs KeyB → x KeyAnchor ≡ fs KeyAnchor → store_of size x ≡ store_of size fs
    same_store a b anchor = same_files (store_of size x) (store_of size fs) each
      where
        each : (f : FileName) → file_of f (store_of size x) ≡ file_of f (store_of size fs)
        each Log = same_log
        each ImageA = a
        each ImageB = b
        each Anchor = anchor

  -- behind removals of segments above the last one
  cleared_key : (w x : Contents) → IsCleared (last + 1) 4095 w x → (key : FileKey) → (IsWithin (last + 1) 4095 key → ⊥) → x key ≡ w key
  cleared_key w x cleared key out = ⊎_elim (λ same. same) (λ none. absurd (out none.1)) (cleared key)

  cleared_mark : (w x : Contents) → IsCleared (last + 1) 4095 w x → x mark ≡ w mark
  cleared_mark w x cleared = cleared_key w x cleared mark (λ is. omega (arith, is.1))

  cleared_segment : (w x : Contents) → IsCleared (last + 1) 4095 w x → (n : ℕ) → n < last + 1 → x (Segment n) ≡ w (Segment n)
  cleared_segment w x cleared n lt = cleared_key w x cleared (Segment n) (λ is. omega (arith, is.0, lt))

  module _ (outcomes : Contents → Type 0) (going : FileKey → Type 0) (fixed : IsFixed last outcomes going fs) where
    -- an outcome, and one behind removals
    pub fixed_store : (x : Contents) → After (IsCleared (last + 1) 4095) outcomes x → store_of size x ≡ store_of size fs
    fixed_store x was =
        let images = fixed.images was.0 was.1 in
        same_store x
        (cleared_mark was.0 x was.2 ∙ fixed.marks was.0 was.1)
        (λ n lt. cleared_segment was.0 x was.2 n lt ∙ fixed.segments was.0 was.1 n lt)
        (cleared_key was.0 x was.2 KeyA (λ is. is) ∙ images.0)
        (cleared_key was.0 x was.2 KeyB (λ is. is) ∙ images.1.0)
        (cleared_key was.0 x was.2 KeyAnchor (λ is. is) ∙ images.1.1)

    pub told_store : (x : Contents) → IsCleared (last + 1) 4095 fs x → store_of size x ≡ store_of size fs
    told_store x cleared =
        same_store x (cleared_mark fs x cleared) (λ n lt. cleared_segment fs x cleared n lt)
        (cleared_key fs x cleared KeyA (λ is. is)) (cleared_key fs x cleared KeyB (λ is. is)) (cleared_key fs x cleared KeyAnchor (λ is. is))

    module _ (after : Contents → Type 0) (is_going : FileKey → Type 0) (new : Contents) (told : IsCleared (last + 1) 4095 fs new)
        (follows : (x : Contents) → after x → After (IsCleared (last + 1) 4095) outcomes x) (goes : (g : FileKey) → is_going g → IsWithin (last + 1) 4095 g ⊎ going g) where
      stays : (key : FileKey) → (IsWithin (last + 1) 4095 key → ⊥) → (going key → ⊥) → is_going key → ⊥
      stays key out was is = ⊎_elim out was (goes key is)

      pub images_stay : (is_going KeyA → ⊥) × ((is_going KeyB → ⊥) × (is_going KeyAnchor → ⊥))
      images_stay = (stays KeyA (λ is. is) fixed.images_stay.0, (stays KeyB (λ is. is) fixed.images_stay.1.0, stays KeyAnchor (λ is. is) fixed.images_stay.1.1))

      outcome_piece : (x : Contents) → after x → (n : ℕ) → n < last + 1 → piece size x n ≡ piece size fs n
      outcome_piece x out n lt =
          let was = follows x out in
          same_piece x (cleared_mark was.0 x was.2 ∙ fixed.marks was.0 was.1) (λ k under. cleared_segment was.0 x was.2 k under ∙ fixed.segments was.0 was.1 k under) n lt

      -- also where a removal failed
      pub fixed_held : ((x : Contents) → after x → (n : ℕ) → n < 4095 → length (piece size x n) ≤ size) → IsHeld size after is_going
      fixed_held small = record {
        images = images_stay;
        marked = stays mark (λ is. omega (arith, is.1)) fixed.mark_stays;
        small = small;
        behind = λ x out n lt is kept full. ⊎_elim
            (λ within. ⊎_elim
            (λ short. short (sym (ap (λ (m : ℕ). length (piece_by size m (λ k. fs (Segment k)) last)) ends.ends.marked) ∙ ap (λ (l : List ℕ). length l) (sym (outcome_piece x out last (omega arith))) ∙ full last (omega (arith, within.0))))
            (λ end. omega (arith, end, within.0, lt))
            ends.stops)
            (λ was. ⊎_elim
            (λ near. fixed.segments_stay n near was)
            (λ far. ⊎_elim
            (λ short. short (sym (ap (λ (m : ℕ). length (piece_by size m (λ k. fs (Segment k)) last)) ends.ends.marked) ∙ ap (λ (l : List ℕ). length l) (sym (outcome_piece x out last (omega arith))) ∙ full last (omega (arith, far))))
            (λ end. omega (arith, end, far, lt))
            ends.stops)
            (near_or n))
            (goes (Segment n) is);
      }
        where
          near_or : (n : ℕ) → (n < last + 1) ⊎ (last + 1 ≤ n)
          near_or n = grind arith

      pub fixed_ready : ((n : ℕ) → last + 1 ≤ n → n < 4095 → new (Segment n) ≡ []) → ((x : Contents) → after x → (n : ℕ) → last + 1 ≤ n → n < 4095 → x (Segment n) ≡ [])
          → ((n : ℕ) → last + 1 ≤ n → n < 4095 → is_going (Segment n) → ⊥) → IsReady size last dropped (last + 1) after is_going new
      fixed_ready empty left settled = record {
        marked = ap (λ (l : List ℕ). length l) (cleared_mark fs new told) ∙ ends.ends.marked;
        full = λ n lt. ap (λ (l : List ℕ). length l) (new_piece n (omega (arith, lt))) ∙ ends.ends.full n lt;
        ends = omega (arith, ap (λ (l : List ℕ). length l) (new_piece last (omega arith)), ends.ends.ends);
        none = λ n above lt. bare new (ap (λ (l : List ℕ). length l) (cleared_mark fs new told) ∙ ends.ends.marked) n above (empty n (omega (arith, above)) lt);
        same_mark = λ x out. let was = follows x out in ap (λ (l : List ℕ). length l) (cleared_mark was.0 x was.2 ∙ fixed.marks was.0 was.1) ∙ ends.ends.marked;
        settled_same = λ x out n lt. outcome_piece x out n lt ∙ sym (new_piece n lt);
        none_left = λ x out n above lt.
            let was = follows x out in
            bare x (ap (λ (l : List ℕ). length l) (cleared_mark was.0 x was.2 ∙ fixed.marks was.0 was.1) ∙ ends.ends.marked) n above (left x out n (omega (arith, above)) lt);
        stays = λ n above lt is. ⊎_elim
            (λ near. stays (Segment n) (λ within. omega (arith, within.0, near)) (fixed.segments_stay n near) is)
            (λ far. ⊎_elim (λ inner. settled n far inner is) (λ end. stays (Segment n) (λ within. omega (arith, within.1, end)) (still n end) is) (end_or n lt))
            (near_or n);
        first = stays (Segment 0) (λ within. omega (arith, within.0)) (fixed.segments_stay 0 (omega arith));
      }
        where
          near_or : (n : ℕ) → (n < last + 1) ⊎ (last + 1 ≤ n)
          near_or n = grind arith

          end_or : (n : ℕ) → n < 4096 → (n < 4095) ⊎ (n ≡ 4095)
          end_or n lt = grind arith

          still : (n : ℕ) → n ≡ 4095 → going (Segment n) → ⊥
          still n end was = fixed.mark_stays (subst (λ (k : ℕ). going (Segment k)) end was)

          new_piece : (n : ℕ) → n < last + 1 → piece size new n ≡ piece size fs n
          new_piece n lt = same_piece new (cleared_mark fs new told) (λ k under_k. cleared_segment fs new told k under_k) n lt

          bare : (x : Contents) → length (x mark) ≡ dropped → (n : ℕ) → last < n → x (Segment n) ≡ [] → piece size x n ≡ []
          bare x marked n above none = piece_kept size x n (is_kept (length (x mark)) n (inr (omega (arith, marked, under, above)))) ∙ none

is_told : Option Contents → Bool
is_told t = is_some t

-- all of it, where it may not be told what reads give: removals behind the end of a log whose outcomes are fixed
module _ (size last dropped : ℕ) (large : 64 ≤ size) (below : last < 4095) (under : dropped ≤ last - 1)
    (mid new : Option Contents) (b c : Contents → Type 0) (gb gc : FileKey → Type 0) (mm mn : ℕ) (pm pn : ℕ → Contents → Type 0)
    (fixed : IfSome mid (λ fs. IsFixed last b gb fs × StopsIn size last dropped fs)) (clears : Clears (last + 1) 4095 mid new b c gb gc mm mn pm pn) where
  pub cleared_told : told_of size new ≡ told_of size mid
  cleared_told = by_told mid new fixed clears.told
    where
      by_told : (m n : Option Contents) → IfSome m (λ fs. IsFixed last b gb fs × StopsIn size last dropped fs) → ClearedTold (last + 1) 4095 m n → told_of size n ≡ told_of size m
      by_told None n is step = ap (λ (t : Option Contents). told_of size t) step
      by_told (Some fs) None is step = absurd step
      by_told (Some fs) (Some ns) is step = ap (λ (x : Files). Some x) (told_store size last dropped large below under fs is.1 b gb is.0 ns step)

  pub cleared_crash : IfSome mid (λ fs. b fs) → (x : Files) → LeavesWhere size new c x → LeavesWhere size mid b x
  cleared_crash now = by_told mid new fixed clears.told now
    where
      by_told : (m n : Option Contents) → IfSome m (λ fs. IsFixed last b gb fs × StopsIn size last dropped fs) → ClearedTold (last + 1) 4095 m n → IfSome m (λ fs. b fs)
          → (x : Files) → LeavesWhere size n c x → LeavesWhere size m b x
      by_told None n is step now x left = tt
      by_told (Some fs) None is step now x left = absurd step
      by_told (Some fs) (Some ns) is step now x left = (fs, now, left.2 ∙ fixed_store size last dropped large below under fs is.1 b gb is.0 left.0 (clears.crash left.0 left.1))

  pub cleared_time : IfSome mid (λ fs. b fs) → ((t : ℕ) (x : Contents) → t ≤ mm → b x → pm t x)
      → FilesElapse mm mn (λ t. LeavesWhere size mid (pm t)) (λ t. LeavesWhere size new (pn t)) (LeavesWhere size new c)
  cleared_time now counts = by_told mid new fixed clears.told now
    where
      by_told : (m n : Option Contents) → IfSome m (λ fs. IsFixed last b gb fs × StopsIn size last dropped fs) → ClearedTold (last + 1) 4095 m n → IfSome m (λ fs. b fs)
          → FilesElapse mm mn (λ t. LeavesWhere size m (pm t)) (λ t. LeavesWhere size n (pn t)) (LeavesWhere size n c)
      by_told None None is step now = record { later = clears.time.later; nothing_else = λ t x le left. inl tt; keeps = λ t x le left. tt }
      by_told None (Some ns) is step now = absurd cc
      by_told (Some fs) None is step now = absurd step
      by_told (Some fs) (Some ns) is step now = record {
        later = clears.time.later;
        nothing_else = λ t x le left. ⊎_elim
            (λ past. inl (left.0, past, left.2))
            (λ was. inl (fs, counts t fs le now, left.2 ∙ fixed_store size last dropped large below under fs is.1 b gb is.0 left.0 was))
            (clears.time.nothing_else t left.0 le left.1);
        keeps = λ t x le left. (left.0, clears.time.keeps t left.0 le left.1, left.2);
      }

  pub cleared_only : IfSome (told_of size new) (λ y. (z : Files) → LeavesWhere size new c z → z ≡ y)
  cleared_only = by_told mid new fixed clears.told
    where
      by_told : (m n : Option Contents) → IfSome m (λ fs. IsFixed last b gb fs × StopsIn size last dropped fs) → ClearedTold (last + 1) 4095 m n
          → IfSome (told_of size n) (λ y. (z : Files) → LeavesWhere size n c z → z ≡ y)
      by_told None None is step = tt
      by_told None (Some ns) is step = absurd cc
      by_told (Some fs) None is step = absurd step
      by_told (Some fs) (Some ns) is step = λ z left.
          left.2
          ∙ fixed_store size last dropped large below under fs is.1 b gb is.0 left.0 (clears.crash left.0 left.1)
          ∙ sym (told_store size last dropped large below under fs is.1 b gb is.0 ns step)

  small_behind : ((w : Contents) → b w → (n : ℕ) → n < 4095 → length (piece size w n) ≤ size) → (x : Contents) → After (IsCleared (last + 1) 4095) b x → (n : ℕ) → n < 4095 → length (piece size x n) ≤ size
  small_behind small x was n lt = ⊎_elim
      (λ same. omega (arith, ap (λ (l : List ℕ). length l) (piece_same size was.0 x n marks same), small was.0 was.1 n lt))
      (λ none. ⊎_elim
      (λ gone. omega (arith, full_length size x n gone))
      (λ kept. omega (arith, ap (λ (l : List ℕ). length l) (piece_kept size x n kept ∙ none.0)))
      (test_or (is_dropped (length (x mark)) n)))
      (was.2 (Segment n))
    where
      marks : length (x mark) ≡ length (was.0 mark)
      marks = ap (λ (l : List ℕ). length l) (⊎_elim (λ same. same) (λ none. absurd (omega (arith, none.1.1))) (was.2 mark))

  -- behind a fault
  pub cleared_lost : (now_lost : Bool) → now_lost ≡ true → (l d s : ℕ) → IfSome mid (λ fs. (w : Contents) → b w → (n : ℕ) → n < 4095 → length (piece size w n) ≤ size)
      → IfSome new (λ fs. c fs) → IfSome new (λ fs. Shorter c gc fs) → ForSome new (λ fs. IsSound now_lost size l d s c gc fs)
  cleared_lost now_lost is_lost l d s small now shorter = sound_at now_lost size l d s new c gc now shorter (by_told mid new fixed clears.told small)
    where
      not_lost : {P : Type 0} (t : Bool) → t ≡ true → t ≡ false → P
      not_lost t yes_lost no_lost = absurd cc

      by_told : (m n : Option Contents) → IfSome m (λ fs. IsFixed last b gb fs × StopsIn size last dropped fs) → ClearedTold (last + 1) 4095 m n
          → IfSome m (λ fs. (w : Contents) → b w → (n : ℕ) → n < 4095 → length (piece size w n) ≤ size)
          → IfSome n (λ fs. IsHeld size c gc × (now_lost ≡ false → IsReady size l d s c gc fs))
      by_told None None is step small = tt
      by_told None (Some ns) is step small = absurd cc
      by_told (Some fs) None is step small = absurd step
      by_told (Some fs) (Some ns) is step small = (
        fixed_held size last dropped large below under fs is.1 b gb is.0 c gc ns step clears.crash clears.going (λ x out n lt. small_behind small x (clears.crash x out) n lt),
        λ no_lost. not_lost now_lost is_lost no_lost,
      )

  -- behind Ok
  pub cleared_sound : (now_lost : Bool) → AreGone (last + 1) 4095 new c gc → IfSome new (λ fs. c fs) → IfSome new (λ fs. Shorter c gc fs)
      → ForSome new (λ fs. IsSound now_lost size last dropped (last + 1) c gc fs)
  cleared_sound now_lost gone now shorter = sound_ready now_lost size last dropped (last + 1) new c gc (omega (arith, under, below)) now shorter (by_told mid new fixed clears.told gone.empty gone.kept)
    where
      by_told : (m n : Option Contents) → IfSome m (λ fs. IsFixed last b gb fs × StopsIn size last dropped fs) → ClearedTold (last + 1) 4095 m n
          → IfSome n (λ fs. (k : ℕ) → last + 1 ≤ k → k < 4095 → fs (Segment k) ≡ []) → IfSome n (λ fs. (x : Contents) → c x → (k : ℕ) → last + 1 ≤ k → k < 4095 → x (Segment k) ≡ [])
          → IfSome n (λ fs. ((gc KeyA → ⊥) × ((gc KeyB → ⊥) × (gc KeyAnchor → ⊥))) × IsReady size last dropped (last + 1) c gc fs)
      by_told None None is step empty left = tt
      by_told None (Some ns) is step empty left = absurd cc
      by_told (Some fs) None is step empty left = absurd step
      by_told (Some fs) (Some ns) is step empty left = (
        images_stay size last dropped large below under fs is.1 b gb is.0 c gc ns step clears.crash clears.going,
        fixed_ready size last dropped large below under fs is.1 b gb is.0 c gc ns step clears.crash clears.going empty left gone.settled,
      )

-- a call that leaves less of what a crash may leave, behind a fault
pub less_sound : (lost now_lost : Bool) → now_lost ≡ true → (size last dropped settled : ℕ) (old new : Option Contents) (a b : Contents → Type 0) (ga gb : FileKey → Type 0) → is_some new ≡ is_some old
    → ((d : Contents) → b d → a d) → ((g : FileKey) → gb g → ga g) → ForSome old (λ fs. IsSound lost size last dropped settled a ga fs)
    → IfSome new (λ fs. b fs) → IfSome new (λ fs. Shorter b gb fs) → ForSome new (λ fs. IsSound now_lost size last dropped settled b gb fs)
less_sound lost now_lost is_lost size last dropped settled old new a b ga gb tells fewer less sound now shorter =
    sound_at now_lost size last dropped settled new b gb now shorter (by_told old new tells sound)
  where
    not_lost : {P : Type 0} (t : Bool) → t ≡ true → t ≡ false → P
    not_lost t yes_lost no_lost = absurd cc

    by_told : (o n : Option Contents) → is_some n ≡ is_some o → ForSome o (λ fs. IsSound lost size last dropped settled a ga fs)
        → IfSome n (λ fs. IsHeld size b gb × (now_lost ≡ false → IsReady size last dropped settled b gb fs))
    by_told o None tells sound = tt
    by_told None (Some ns) tells sound = absurd cc
    by_told (Some fs) (Some ns) tells sound = (held_fewer size a b ga gb fewer less (sound fs refl).held, λ no_lost. not_lost now_lost is_lost no_lost)

-- no segment of an outcome is longer than it may be
pub less_small : (lost : Bool) (size last dropped settled : ℕ) (old new : Option Contents) (a b : Contents → Type 0) (ga : FileKey → Type 0) → is_some new ≡ is_some old
    → ((d : Contents) → b d → a d) → ForSome old (λ fs. IsSound lost size last dropped settled a ga fs)
    → IfSome new (λ fs. (w : Contents) → b w → (n : ℕ) → n < 4095 → length (piece size w n) ≤ size)
less_small lost size last dropped settled old None a b ga tells fewer sound = tt
less_small lost size last dropped settled None (Some ns) a b ga tells fewer sound = absurd cc
less_small lost size last dropped settled (Some fs) (Some ns) a b ga tells fewer sound = λ w out. (sound fs refl).held.small w (fewer w out)

-- behind a cut, whatever is looked at
pub cut_fixed : (size last dropped : ℕ) (mid now : Option Contents) (b c : Contents → Type 0) (gb gc : FileKey → Type 0) → now ≡ mid → ((d : Contents) → c d → b d) → ((g : FileKey) → gc g → gb g)
    → IfSome mid (λ fs. Only fs b) → ((g : FileKey) → gb g → ⊥) → IfSome mid (λ fs. StopsIn size last dropped fs) → IfSome now (λ fs. IsFixed last c gc fs × StopsIn size last dropped fs)
cut_fixed size last dropped mid now b c gb gc same fewer less only none stops =
    subst (λ (t : Option Contents). IfSome t (λ fs. IsFixed last c gc fs × StopsIn size last dropped fs)) (sym same) (by_told mid only stops)
  where
    by_told : (m : Option Contents) → IfSome m (λ fs. Only fs b) → IfSome m (λ fs. StopsIn size last dropped fs) → IfSome m (λ fs. IsFixed last c gc fs × StopsIn size last dropped fs)
    by_told None only stops = tt
    by_told (Some fs) only stops = (only_fixed last c gc fs (λ x out. only x (fewer x out)) (λ g is. none g (less g is)), stops)

-- what a crash leaves is some of what it left
pub less_leaves : (size : ℕ) (old new : Option Contents) (a b : Contents → Type 0) → is_some new ≡ is_some old → ((d : Contents) → b d → a d) → (x : Files) → LeavesWhere size new b x → LeavesWhere size old a x
less_leaves size None new a b tells fewer x left = tt
less_leaves size (Some fs) None a b tells fewer x left = absurd cc
less_leaves size (Some fs) (Some ns) a b tells fewer x left = (left.0, fewer left.0 left.1, left.2)

-- calls that leave less, one after another
pub less_time : (a b c : Files → Type 0) (ma mb mc : ℕ) (pa pb pc : ℕ → Files → Type 0) → ((x : Files) → b x → a x) → ((t : ℕ) (x : Files) → t ≤ ma → a x → pa t x)
    → FilesElapse ma mb pa pb b → FilesElapse mb mc pb pc c → FilesElapse ma mc pa pc c
less_time a b c ma mb mc pa pb pc fewer counts one two = record {
  later = omega (arith, one.later, two.later);
  nothing_else = λ t x le since. ⊎_elim
      (λ before. ⊎_elim (λ past. inl past) (λ between. inl (counts t x le (fewer x between))) (one.nothing_else t x le before))
      (λ now. inr now)
      (two.nothing_else t x (omega (arith, le, one.later)) since);
  keeps = λ t x le past. two.keeps t x (omega (arith, le, one.later)) (one.keeps t x le past);
}
