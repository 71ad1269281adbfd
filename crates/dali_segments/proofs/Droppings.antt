-- A drop of segments: by steps, and as the log sees it.
use Rattle.std.specs.Prelude.{◌⊎◌, ◌≢◌, ◌*◌, Bool, true, false, Option, Some, None, IfSome, is_some, refl}
use Rattle.std.specs.Option.{ForSome}
use Rattle.std.proofs.Common.{◌≡◌, inl, inr, ⊎_elim, ℕ, suc, ◌+◌, ◌-◌, ◌≤◌, ◌<◌, List, ◌++◌, length, take, drop, sym, ◌∙◌, ap, subst, arith, length-append, length-drop}
use Rattle.std.proofs.lemmas.List.{length-take-le}
use Rattle.std.proofs.lemmas.Bool.Decides.{nat_tests}
use Rattle.dali_store.specs.Store.{Files, file_of, Follows as FilesFollow, Elapses as FilesElapse}
use Rattle.dali_store.specs.declared.store.FileName.{FileName}
use Rattle.dali_store.specs.declared.store.FileName.TheVariants.{Log, ImageA, ImageB, Anchor}
use Rattle.dali_store.specs.Drops.{DroppedIn, DroppedTold, After as AfterFiles}
use Rattle.dali_store.proofs.Drops.{dropped_none_in}
use Rattle.dali_store.proofs.Moments.{same_files}
use Rattle.dali_files.specs.Files.{Contents, HoldsIn, TornIn, TornTold, Follows, Elapses}
use Rattle.dali_files.specs.declared.key.FileKey.{FileKey}
use Rattle.dali_files.specs.declared.key.FileKey.TheVariants.{ImageA as KeyA, ImageB as KeyB, Anchor as KeyAnchor, Segment}
use Rattle.dali_segments.specs.Segments.{mark, is_dropped, piece, store_of, told_of, LeavesWhere, IsReady, IsHeld, IsSound}
use Rattle.dali_segments.specs.Quiet.{IsQuiet}
use Rattle.dali_segments.specs.Clears.{IsWithin, IsCleared, After, Clears}
use Rattle.dali_segments.specs.Drops.{DropsIn, DropsTold, Drops, AreMarked}
use Rattle.dali_segments.specs.Laws.{Shorter}
use Rattle.dali_segments.proofs.Joins.{joined_same}
use Rattle.dali_segments.proofs.Logs.{piece_same, piece_kept, piece_dropped, other_segment}
use Rattle.dali_segments.proofs.Parts.{drop_above}
use Rattle.dali_segments.proofs.Places.{mul_up}
use Rattle.dali_segments.proofs.Marks.{dropped_store}
use Rattle.dali_segments.proofs.Clearings.{cleared_same, cleared_on}
use Rattle.dali_segments.proofs.Helds.{true_false, test_or, more_dropped, fewer_dropped, kept_place, is_kept, full_length, sound_at}

-- removals leave the mark
pub mark_stays : (from below : ℕ) → below ≤ 4095 → (old new : Contents) → IsCleared from below old new → new mark ≡ old mark
mark_stays from below le old new cleared = ⊎_elim (λ same. same) (λ none. absurd (omega (arith, none.1.1, le))) (cleared mark)

module _ (size : ℕ) (from to : ℕ) (more : from < to) (few : to < 4095) where
  -- what is so of one outcome
  module _ (d x : Contents) (marked : length (d mark) ≡ from) (step : DropsIn from to d x) where
    grown : length (step.mid mark) ≤ to
    grown = omega (arith, step.marks.torn.no_longer, marked, more)

    x_mark : x mark ≡ step.mid mark
    x_mark = mark_stays (from + 1) (length (step.mid mark) + 1) (omega (arith, grown, few)) step.mid x step.clears

    same_marks : length (x mark) ≡ length (step.mid mark)
    same_marks = ap (λ (l : List ℕ). length l) x_mark

    pub marks_more : from ≤ length (x mark)
    marks_more = omega (arith, step.marks.torn.no_shorter, marked, same_marks)

    marks_most : length (x mark) ≤ to
    marks_most = omega (arith, grown, same_marks)

    mid_segment : (n : ℕ) → n < 4095 → step.mid (Segment n) ≡ d (Segment n)
    mid_segment n lt = step.marks.same (Segment n) (other_segment n 4095 (λ is. omega (arith, is, lt)))

    -- it reads as behind the mark's write
    piece_mid : (n : ℕ) → piece size x n ≡ piece size step.mid n
    piece_mid n = ⊎_elim
        (λ same. piece_same size step.mid x n same_marks same)
        (λ none.
        let gone : is_dropped (length (step.mid mark)) n ≡ true = is_gone (length (step.mid mark)) n (omega (arith, none.1.0)) (omega (arith, none.1.1)) in
        piece_dropped size x n (ap (λ (k : ℕ). is_dropped k n) same_marks ∙ gone) ∙ sym (piece_dropped size step.mid n gone))
        (step.clears (Segment n))
      where
        is_gone : (marked n : ℕ) → 0 < n → n ≤ marked → is_dropped marked n ≡ true
        is_gone marked n above under = grind (arith, nat_tests)

    image_same : (key : FileKey) → key ≢ mark → (IsWithin (from + 1) (length (step.mid mark) + 1) key → ⊥) → x key ≡ d key
    image_same key differs out = ⊎_elim (λ same. same) (λ none. absurd (out none.1)) (step.clears key) ∙ step.marks.same key differs

    same_store : store_of size x ≡ store_of size step.mid
    same_store = same_files (store_of size x) (store_of size step.mid) each
      where
        key_same : (key : FileKey) → (IsWithin (from + 1) (length (step.mid mark) + 1) key → ⊥) → x key ≡ step.mid key
        key_same key out = ⊎_elim (λ same. same) (λ none. absurd (out none.1)) (step.clears key)

        each : (f : FileName) → file_of f (store_of size x) ≡ file_of f (store_of size step.mid)
        each Log = joined_same size (λ n. piece size step.mid n) (λ n. piece size x n) 0 4095 (λ n from lt. piece_mid n)
        each ImageA = key_same KeyA (λ is. is)
        each ImageB = key_same KeyB (λ is. is)
        each Anchor = key_same KeyAnchor (λ is. is)

    -- one that isn't dropped reads as before
    pub piece_stays : (n : ℕ) → n < 4095 → is_dropped (length (x mark)) n ≡ false → piece size x n ≡ piece size d n
    piece_stays n lt kept =
        let kept_mid : is_dropped (length (step.mid mark)) n ≡ false = sym (ap (λ (k : ℕ). is_dropped k n) same_marks) ∙ kept in
        let kept_d : is_dropped (length (d mark)) n ≡ false = fewer_dropped (length (d mark)) (length (step.mid mark)) n step.marks.torn.no_shorter kept_mid in
        piece_mid n ∙ piece_kept size step.mid n kept_mid ∙ mid_segment n lt ∙ sym (piece_kept size d n kept_d)

    -- where what is dropped was full, a drop of the log
    pub drop_in : 64 ≤ size → ((n : ℕ) → from < n → n ≤ to → length (piece size d n) ≡ size) → DroppedIn ((to + 1) * size) (store_of size d) (store_of size x)
    drop_in large full = subst (λ (y : Files). DroppedIn ((to + 1) * size) (store_of size d) y) (sym same_store)
        (
        dropped_store size ((to + 1) * size) from (to - from) large d step.mid step.marks (λ n above under lt.
        (full n (omega (arith, marked, above)) (omega (arith, under, grown)), mul_up (suc n) (to + 1) size (omega (arith, under, grown))))
        )

  -- the first part of a drop
  pub drops_torn : (n : ℕ) → n ≡ to - from → (old mid : Option Contents) (a b : Contents → Type 0) (ga gb : FileKey → Type 0) (ma mb : ℕ) (pa pb : ℕ → Contents → Type 0)
      → is_some mid ≡ is_some old → TornTold mark from n old mid → Follows (TornIn mark from n) a b → ((g : FileKey) → gb g → ga g) → Elapses ma mb pa pb b
      → Drops from to old mid a b ga gb ma mb pa pb
  drops_torn n long old mid a b ga gb ma mb pa pb tells torn follows less time = record {
    tells = tells;
    told = by_told old mid torn;
    crash = given old step;
    going = given old (λ g is. inl (less g is));
    later = time.later;
    time = given old (record {
      later = time.later;
      nothing_else = λ t c le since. ⊎_elim (λ past. inl past) (λ now. inr (step c now)) (time.nothing_else t c le since);
      keeps = time.keeps;
    });
  }
    where
      given : {P : Type 0} (o : Option Contents) → P → IfSome o (λ _. P)
      given None is = tt
      given (Some fs) is = is

      one : (d x : Contents) → TornIn mark from n d x → DropsIn from to d x
      one d x is = record { mid = x; marks = subst (λ (k : ℕ). TornIn mark from k d x) long is; clears = cleared_same (from + 1) (length (x mark) + 1) x }

      step : Follows (DropsIn from to) a b
      step c out = let was = follows c out in (was.0, was.1, one was.0 c was.2)

      by_told : (o w : Option Contents) → TornTold mark from n o w → DropsTold from to o w
      by_told None w is = is
      by_told (Some o) None is = is
      by_told (Some o) (Some w) is = one o w is

  -- the mark behind its write and its sync
  pub marked_by : (bytes : List ℕ) → length bytes ≡ to - from → (old mid new : Option Contents) (b : Contents → Type 0)
      → IfSome old (λ fs. length (fs mark) ≡ from) → HoldsIn mark from bytes old mid → new ≡ mid → IfSome mid (λ fs. (x : Contents) → b x → x mark ≡ fs mark) → AreMarked to new b
  marked_by bytes long old mid new b first holds same kept = subst (λ (t : Option Contents). AreMarked to t b) (sym same) (by_told old mid first holds kept)
    where
      by_told : (o m : Option Contents) → IfSome o (λ fs. length (fs mark) ≡ from) → HoldsIn mark from bytes o m → IfSome m (λ fs. (x : Contents) → b x → x mark ≡ fs mark) → AreMarked to m b
      by_told None None first holds kept = tt
      by_told None (Some ms) first holds kept = absurd cc
      by_told (Some os) None first holds kept = tt
      by_told (Some os) (Some ms) first holds kept = (reached, λ x out. ap (λ (l : List ℕ). length l) (kept x out) ∙ reached)
        where
          reached : length (ms mark) ≡ to
          reached = omega (
            arith,
            more,
            long,
            first,
            ap (λ (l : List ℕ). length l) holds.0,
            length-append (take from (os mark) ++ bytes) (drop (from + length bytes) (os mark)),
            length-append (take from (os mark)) bytes,
            length-take-le from (os mark) (omega (arith, first)),
            length-drop (from + length bytes) (os mark),
          )

  -- a call that changes nothing behind it
  pub drops_quiet : (old mid new : Option Contents) (a b c : Contents → Type 0) (ga gb gc : FileKey → Type 0) (ma mb mc : ℕ) (pa pb pc : ℕ → Contents → Type 0)
      → Drops from to old mid a b ga gb ma mb pa pb → IsQuiet mid new b c gb gc mb mc pb pc → Drops from to old new a c ga gc ma mc pa pc
  drops_quiet old mid new a b c ga gb gc ma mb mc pa pb pc drops quiet = record {
    tells = ap (λ (t : Option Contents). is_told t) quiet.told ∙ drops.tells;
    told = subst (λ (t : Option Contents). DropsTold from to old t) (sym quiet.told) drops.told;
    crash = with old drops.crash (λ follows x out. follows x (quiet.crash x out));
    going = with old drops.going (λ going g is. ⊎_elim (λ was. inl was) (λ within. inr (within.0, λ x out. within.1 x (quiet.crash x out))) (going g (quiet.going g is)));
    later = omega (arith, drops.later, quiet.time.later);
    time = two old drops.crash drops.time (λ follows time. record {
      later = omega (arith, drops.later, quiet.time.later);
      nothing_else = λ t x le since. ⊎_elim
          (λ past. time.nothing_else t x le past)
          (λ now. inr (follows x (quiet.crash x now)))
          (quiet.time.nothing_else t x (omega (arith, le, drops.later)) since);
      keeps = λ t x le past. quiet.time.keeps t x (omega (arith, le, drops.later)) (time.keeps t x le past);
    });
  }
    where
      is_told : Option Contents → Bool
      is_told t = is_some t

      with : {P Q : Type 0} (o : Option Contents) → IfSome o (λ _. P) → (P → Q) → IfSome o (λ _. Q)
      with None is f = tt
      with (Some fs) is f = f is

      two : {P Q R : Type 0} (o : Option Contents) → IfSome o (λ _. P) → IfSome o (λ _. Q) → (P → Q → R) → IfSome o (λ _. R)
      two None p q f = tt
      two (Some fs) p q f = f p q

  -- removals behind the mark's sync
  pub drops_clear : (old mid new : Option Contents) (a b c : Contents → Type 0) (ga gb gc : FileKey → Type 0) (ma mb mc : ℕ) (pa pb pc : ℕ → Contents → Type 0)
      → IfSome old (λ fs. length (fs mark) ≡ from) → IfSome old (λ fs. (x : Contents) → a x → length (x mark) ≡ from)
      → Drops from to old mid a b ga gb ma mb pa pb → AreMarked to mid b → Clears (from + 1) (to + 1) mid new b c gb gc mb mc pb pc
      → (Drops from to old new a c ga gc ma mc pa pc) × (AreMarked to new c)
  drops_clear None None new a b c ga gb gc ma mb mc pa pb pc first before drops marked clears = (
    record {
      tells = ap (λ (t : Option Contents). is_told t) clears.told;
      told = clears.told;
      crash = tt;
      going = tt;
      later = omega (arith, drops.later, clears.time.later);
      time = tt;
    },
    subst (λ (t : Option Contents). AreMarked to t c) (sym clears.told) tt,
  )
    where
      is_told : Option Contents → Bool
      is_told t = is_some t
  drops_clear None (Some md) new a b c ga gb gc ma mb mc pa pb pc first before drops marked clears = absurd (some_none md drops.told)
    where
      some_none : (x : Contents) → Some x ≡ None → ⊥
      some_none x e = cc
  drops_clear (Some od) None new a b c ga gb gc ma mb mc pa pb pc first before drops marked clears = absurd drops.told
  drops_clear (Some od) (Some md) None a b c ga gb gc ma mb mc pa pb pc first before drops marked clears = absurd clears.told
  drops_clear (Some od) (Some md) (Some nd) a b c ga gb gc ma mb mc pa pb pc first before drops marked clears = (
    record {
      tells = refl;
      told = join od md nd first marked.0 drops.told clears.told;
      crash = step;
      going = λ g is. ⊎_elim
          (λ within. inr (within, after_marks))
          (λ was. ⊎_elim (λ old. inl old) (λ within. inr (within.0, after_marks)) (drops.going g was))
          (clears.going g is);
      later = omega (arith, drops.later, clears.time.later);
      time = record {
        later = omega (arith, drops.later, clears.time.later);
        nothing_else = λ t x le since. ⊎_elim
            (λ past. drops.time.nothing_else t x le past)
            (λ now. inr (onward x now))
            (clears.time.nothing_else t x (omega (arith, le, drops.later)) since);
        keeps = λ t x le past. clears.time.keeps t x (omega (arith, le, drops.later)) (drops.time.keeps t x le past);
      };
    },
    (ap (λ (l : List ℕ). length l) (mark_stays (from + 1) (to + 1) bound md nd clears.told) ∙ marked.0, after_marks),
  )
    where
      bound : to + 1 ≤ 4095
      bound = omega (arith, few)

      join : (d w x : Contents) → length (d mark) ≡ from → length (w mark) ≡ to → DropsIn from to d w → IsCleared (from + 1) (to + 1) w x → DropsIn from to d x
      join d w x d_marked w_marked one two =
          let ends : to + 1 ≡ length (one.mid mark) + 1 = omega (arith, w_marked, same_marks d w d_marked one) in
          record {
            mid = one.mid;
            marks = one.marks;
            clears = cleared_on (from + 1) (length (one.mid mark) + 1) one.mid w x one.clears (subst (λ (n : ℕ). IsCleared (from + 1) n w x) ends two);
          }

      onward : (x : Contents) → After (IsCleared (from + 1) (to + 1)) b x → After (DropsIn from to) a x
      onward x was =
          let start = drops.crash was.0 was.1 in
          (start.0, start.1, join start.0 was.0 x (before start.0 start.1) (marked.1 was.0 was.1) start.2 was.2)

      step : Follows (DropsIn from to) a c
      step x out = onward x (clears.crash x out)

      after_marks : (x : Contents) → c x → length (x mark) ≡ to
      after_marks x out =
          let was = clears.crash x out in
          ap (λ (l : List ℕ). length l) (mark_stays (from + 1) (to + 1) bound was.0 x was.2) ∙ marked.1 was.0 was.1

  -- as the log sees it
  module _ (large : 64 ≤ size) (last settled below : ℕ) (inside : to < last) (last_below : last < 4095) (kept : last < settled) (bound : settled ≤ last + 1) (reach : (to + 1) * size ≤ below) where
    dropped_less : (x y : Files) → DroppedIn ((to + 1) * size) x y → DroppedIn below x y
    dropped_less x y is = record {
      dropped = record {
        size = is.dropped.size;
        front = is.dropped.front;
        behind = drop_above ((to + 1) * size) below y.log x.log reach is.dropped.behind;
        each = is.dropped.each;
      };
      same = is.same;
    }

    module _ (old : Contents) (a : Contents → Type 0) (ga : FileKey → Type 0) (ready : IsReady size last from settled a ga old) where
      full_in : (d : Contents) → a d → (n : ℕ) → from < n → n ≤ to → length (piece size d n) ≡ size
      full_in d out n above under =
          ap (λ (l : List ℕ). length l) (ready.settled_same d out n (omega (arith, under, inside, kept))) ∙ ready.full n (omega (arith, under, inside))

      pub one_dropped : (d x : Contents) → a d → DropsIn from to d x → DroppedIn below (store_of size d) (store_of size x)
      one_dropped d x out step = dropped_less (store_of size d) (store_of size x) (drop_in d x (ready.same_mark d out) step large (full_in d out))

      pub told_dropped : (x : Contents) → DropsIn from to old x → DroppedIn below (store_of size old) (store_of size x)
      told_dropped x step =
          dropped_less (store_of size old) (store_of size x) (drop_in old x ready.marked step large (λ n above under. ready.full n (omega (arith, under, inside))))

      module _ (c : Contents → Type 0) (gc : FileKey → Type 0) (follows : Follows (DropsIn from to) a c)
          (going : (g : FileKey) → gc g → ga g ⊎ (IsWithin (from + 1) (to + 1) g × ((x : Contents) → c x → length (x mark) ≡ to))) where
        pub drops_held : IsHeld size a ga → IsHeld size c gc
        drops_held held = record {
          images = (image KeyA (λ is. is) held.images.0, (image KeyB (λ is. is) held.images.1.0, image KeyAnchor (λ is. is) held.images.1.1));
          marked = λ is. ⊎_elim held.marked (λ within. omega (arith, within.0.1, few)) (going mark is);
          small = λ x out n lt.
              let was = follows x out in
              ⊎_elim
              (λ gone. omega (arith, full_length size x n gone))
              (λ stays. omega (arith, ap (λ (l : List ℕ). length l) (piece_stays was.0 x (ready.same_mark was.0 was.1) was.2 n lt stays), held.small was.0 was.1 n lt))
              (test_or (is_dropped (length (x mark)) n));
          behind = λ x out n lt is kept full.
              let was = follows x out in
              let more_marked : from ≤ length (x mark) = marks_more was.0 x (ready.same_mark was.0 was.1) was.2 in
              true_false (sym (⊎_elim
              (λ old_one. more_dropped from (length (x mark)) n more_marked (was_dropped n lt old_one))
              (λ within. is_gone (length (x mark)) n (omega (arith, within.0.0)) (omega (arith, within.0.1, within.1 x out)))
              (going (Segment n) is)) ∙ kept);
        }
          where
            image : (key : FileKey) → (IsWithin (from + 1) (to + 1) key → ⊥) → (ga key → ⊥) → gc key → ⊥
            image key out was is = ⊎_elim was (λ within. out within.0) (going key is)

            is_gone : (marked n : ℕ) → 0 < n → n ≤ marked → is_dropped marked n ≡ true
            is_gone marked n above under = grind (arith, nat_tests)

            was_dropped : (n : ℕ) → n < 4095 → ga (Segment n) → is_dropped from n ≡ true
            was_dropped n lt was = ⊎_elim
                (λ gone. gone)
                (λ stays. absurd (⊎_elim
                (λ first. ready.first (subst (λ (k : ℕ). ga (Segment k)) first was))
                (λ above. ready.stays n above (omega (arith, lt)) was)
                (kept_place from n stays)))
                (test_or (is_dropped from n))

        pub drops_ready : (new : Contents) → DropsIn from to old new → length (new mark) ≡ to → ((x : Contents) → c x → length (x mark) ≡ to)
            → IsReady size last to settled c gc new
        drops_ready new step marked marks = record {
          marked = marked;
          full = λ n lt. ⊎_elim
              (λ gone. full_length size new n gone)
              (λ stays. ap (λ (l : List ℕ). length l) (new_stays n (omega (arith, lt, last_below)) stays) ∙ ready.full n lt)
              (test_or (is_dropped (length (new mark)) n));
          ends = omega (arith, ap (λ (l : List ℕ). length l) (new_stays last last_below (above_kept last inside)), ready.ends);
          none = λ n above lt. new_stays n lt (above_kept n (omega (arith, above, inside))) ∙ ready.none n above lt;
          same_mark = marks;
          settled_same = λ x out n lt.
              let was = follows x out in
              let near : n < 4095 = omega (arith, lt, bound, last_below) in
              ⊎_elim
              (λ gone. piece_dropped size x n (ap (λ (k : ℕ). is_dropped k n) (marks x out ∙ sym marked) ∙ gone) ∙ sym (piece_dropped size new n gone))
              (λ stays. x_stays x out n near (ap (λ (k : ℕ). is_dropped k n) (marks x out ∙ sym marked) ∙ stays)
              ∙ ready.settled_same was.0 was.1 n lt
              ∙ sym (new_stays n near stays))
              (test_or (is_dropped (length (new mark)) n));
          none_left = λ x out n above lt.
              let was = follows x out in
              x_stays x out n lt (ap (λ (k : ℕ). is_dropped k n) (marks x out) ∙ is_kept to n (inr (omega (arith, above, inside)))) ∙ ready.none_left was.0 was.1 n above lt;
          stays = λ n above lt is. ⊎_elim
              (λ was. ready.stays n (omega (arith, above, more)) lt was)
              (λ within. omega (arith, within.0.1, above))
              (going (Segment n) is);
          first = λ is. ⊎_elim ready.first (λ within. omega (arith, within.0.0)) (going (Segment 0) is);
        }
          where
            new_stays : (n : ℕ) → n < 4095 → is_dropped (length (new mark)) n ≡ false → piece size new n ≡ piece size old n
            new_stays n lt stays = piece_stays old new ready.marked step n lt stays

            above_kept : (n : ℕ) → to < n → is_dropped (length (new mark)) n ≡ false
            above_kept n above = ap (λ (k : ℕ). is_dropped k n) marked ∙ is_kept to n (inr above)

            x_stays : (x : Contents) (out : c x) (n : ℕ) → n < 4095 → is_dropped (length (x mark)) n ≡ false → piece size x n ≡ piece size (follows x out).0 n
            x_stays x out n lt stays = let was = follows x out in piece_stays was.0 x (ready.same_mark was.0 was.1) was.2 n lt stays

  -- all of it, where it may not be told what reads give
  module _ (large : 64 ≤ size) (last settled below : ℕ) (inside : to < last) (last_below : last < 4095) (kept : last < settled) (bound : settled ≤ last + 1) (reach : (to + 1) * size ≤ below)
      (lost : Bool) (found : lost ≡ false) (old new : Option Contents) (a c : Contents → Type 0) (ga gc : FileKey → Type 0) (ma mc : ℕ) (pa pc : ℕ → Contents → Type 0)
      (sound : ForSome old (λ fs. IsSound lost size last from settled a ga fs)) (drops : Drops from to old new a c ga gc ma mc pa pc) where
    pub drops_told : DroppedTold below (told_of size old) (told_of size new)
    drops_told = by_told old new sound drops.told
      where
        by_told : (o n : Option Contents) → ForSome o (λ fs. IsSound lost size last from settled a ga fs) → DropsTold from to o n → DroppedTold below (told_of size o) (told_of size n)
        by_told None None sound step = refl
        by_told None (Some ns) sound step = absurd cc
        by_told (Some fs) None sound step = absurd step
        by_told (Some fs) (Some ns) sound step = told_dropped large last settled below inside last_below kept bound reach fs a ga ((sound fs refl).ready found) ns step

    pub drops_crash : FilesFollow (DroppedIn below) (LeavesWhere size old a) (LeavesWhere size new c)
    drops_crash = by_told old new sound drops.told drops.crash
      where
        by_told : (o n : Option Contents) → ForSome o (λ fs. IsSound lost size last from settled a ga fs) → DropsTold from to o n → IfSome o (λ fs. Follows (DropsIn from to) a c)
            → FilesFollow (DroppedIn below) (LeavesWhere size o a) (LeavesWhere size n c)
        by_told None n sound step follows x left = (x, tt, dropped_none_in below x)
        by_told (Some fs) None sound step follows x left = absurd step
        by_told (Some fs) (Some ns) sound step follows x left =
            let was = follows left.0 left.1 in (
              store_of size was.0,
              (was.0, was.1, refl),
              subst (λ (y : Files). DroppedIn below (store_of size was.0) y) (sym left.2)
                  (one_dropped large last settled below inside last_below kept bound reach fs a ga ((sound fs refl).ready found) was.0 left.0 was.1 was.2),
            )

    pub drops_time : FilesElapse ma mc (λ t. LeavesWhere size old (pa t)) (λ t. LeavesWhere size new (pc t)) (AfterFiles (DroppedIn below) (LeavesWhere size old a))
    drops_time = by_told old new sound drops.told drops.time
      where
        by_told : (o n : Option Contents) → ForSome o (λ fs. IsSound lost size last from settled a ga fs) → DropsTold from to o n → IfSome o (λ fs. Elapses ma mc pa pc (After (DropsIn from to) a))
            → FilesElapse ma mc (λ t. LeavesWhere size o (pa t)) (λ t. LeavesWhere size n (pc t)) (AfterFiles (DroppedIn below) (LeavesWhere size o a))
        by_told None None sound step time = record {
          later = drops.later;
          nothing_else = λ t x le since. inr (x, tt, dropped_none_in below x);
          keeps = λ t x le past. tt;
        }
        by_told None (Some ns) sound step time = absurd cc
        by_told (Some fs) None sound step time = absurd step
        by_told (Some fs) (Some ns) sound step time = record {
          later = drops.later;
          nothing_else = λ t x le left. ⊎_elim
              (λ past. inl (left.0, past, left.2))
              (λ was. inr (
                store_of size was.0,
                (was.0, was.1, refl),
                subst (λ (y : Files). DroppedIn below (store_of size was.0) y) (sym left.2)
                    (one_dropped large last settled below inside last_below kept bound reach fs a ga ((sound fs refl).ready found) was.0 left.0 was.1 was.2),
              ))
              (time.nothing_else t left.0 le left.1);
          keeps = λ t x le left. (left.0, time.keeps t left.0 le left.1, left.2);
        }

    -- behind a fault
    pub drops_lost : (now_lost : Bool) → now_lost ≡ true → (dropped : ℕ) → IfSome new (λ fs. c fs) → IfSome new (λ fs. Shorter c gc fs) → ForSome new (λ fs. IsSound now_lost size last dropped settled c gc fs)
    drops_lost now_lost is dropped now shorter = sound_at now_lost size last dropped settled new c gc now shorter (by_told old new sound drops.told drops.crash drops.going)
      where
        not_lost : {P : Type 0} (b : Bool) → b ≡ true → b ≡ false → P
        not_lost b yes_lost no_lost = absurd cc

        by_told : (o n : Option Contents) → ForSome o (λ fs. IsSound lost size last from settled a ga fs) → DropsTold from to o n → IfSome o (λ fs. Follows (DropsIn from to) a c)
            → IfSome o (λ fs. (g : FileKey) → gc g → ga g ⊎ (IsWithin (from + 1) (to + 1) g × ((x : Contents) → c x → length (x mark) ≡ to)))
            → IfSome n (λ fs. IsHeld size c gc × (now_lost ≡ false → IsReady size last dropped settled c gc fs))
        by_told None None sound step follows going = tt
        by_told None (Some ns) sound step follows going = absurd cc
        by_told (Some fs) None sound step follows going = absurd step
        by_told (Some fs) (Some ns) sound step follows going = (
          drops_held large last settled below inside last_below kept bound reach fs a ga ((sound fs refl).ready found) c gc follows going (sound fs refl).held,
          λ no_lost. not_lost now_lost is no_lost,
        )

    -- behind Ok
    pub drops_sound : (now_lost : Bool) → IfSome new (λ fs. c fs) → IfSome new (λ fs. Shorter c gc fs) → AreMarked to new c → ForSome new (λ fs. IsSound now_lost size last to settled c gc fs)
    drops_sound now_lost now shorter marked = sound_at now_lost size last to settled new c gc now shorter (by_told old new sound drops.told drops.crash drops.going marked)
      where
        by_told : (o n : Option Contents) → ForSome o (λ fs. IsSound lost size last from settled a ga fs) → DropsTold from to o n → IfSome o (λ fs. Follows (DropsIn from to) a c)
            → IfSome o (λ fs. (g : FileKey) → gc g → ga g ⊎ (IsWithin (from + 1) (to + 1) g × ((x : Contents) → c x → length (x mark) ≡ to)))
            → AreMarked to n c
            → IfSome n (λ fs. IsHeld size c gc × (now_lost ≡ false → IsReady size last to settled c gc fs))
        by_told None None sound step follows going marked = tt
        by_told None (Some ns) sound step follows going marked = absurd cc
        by_told (Some fs) None sound step follows going marked = absurd step
        by_told (Some fs) (Some ns) sound step follows going marked = (
          drops_held large last settled below inside last_below kept bound reach fs a ga ((sound fs refl).ready found) c gc follows going (sound fs refl).held,
          λ is. drops_ready large last settled below inside last_below kept bound reach fs a ga ((sound fs refl).ready found) c gc follows going ns step marked.0 marked.1,
        )
