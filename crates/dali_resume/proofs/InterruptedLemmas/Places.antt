-- The place of an image and the number of the anchor, along the steps of a run with its store.
use Rattle.std.proofs.Common.{◌≡◌, ℕ, zero, suc, ◌+◌, ◌<◌, ◌≤◌, false, List, [], ◌∷◌, length, take, Some, refl, ap, sym, subst, ◌∙◌, ◌⊎◌, inl, inr, ⊎_elim, arith}
use Rattle.std.specs.Prelude.{flat_map, slice_get, sum_by}
use Rattle.std.proofs.lemmas.List.{length-append, length-take-le}
use Rattle.std.proofs.lemmas.List.Concat.{flat_map-append}
use Rattle.std.proofs.lemmas.List.Sums.{sum_by-append}
use Rattle.dali_record.specs.declared.records.Record.{Record}
use Rattle.dali_record.specs.declared.records.Record.TheVariants.{AuditClean, Format}
use Rattle.dali_record.specs.Epochs.{last_epoch}
use Rattle.dali_record.specs.Files.{Files, Fits, batch_length}
use Rattle.dali_record.specs.Legal.{sizes_of}
use Rattle.dali_record.proofs.Batches.{number_is_length}
use Rattle.dali_history.specs.Recovered.{base_of}
use Rattle.dali_history.proofs.Restarts.{none_in_nothing}
use Rattle.dali_runs.specs.State.{stable}
use Rattle.dali_runs.specs.Flushes.{frame_of, with_frame}
use Rattle.dali_runs.specs.Run.{Bases, IsPrefix, RunsOn, log_in, only}
use Rattle.dali_runs.specs.Courses.{CameBy, Faults, Flushes, Step}
use Rattle.dali_crash.specs.Checkpoints.{Came, Copies, CopyFails, Does, Finishes, Head, HeadFails, IsOverwritten, IsPointStep, IsTurnedFrom, Keeps, MayTurn, Point, Skips, Starts, StoreStep, SyncFails, Syncs, Traced, TurnFails, Turns, WritesHead, image_side, side_of, target, turned}
use Rattle.dali_crash.specs.StoreRuns.{IsKept, IsPlace, StoreRun}
use Rattle.dali_crash.specs.Traces.{bases_of, start_point}
use Rattle.dali_crash.proofs.Restarts.{begins_behind}
use Rattle.dali_crash.proofs.StoreRuns.{later_than, store_step_keeps, other_side}
use Rattle.dali_crash.proofs.Traces.{start_runs}
use Rattle.dali_resume.specs.Again.{closing}
use Rattle.dali_resume.proofs.Reading.{placed}
use Rattle.dali_resume.specs.Interrupted.Found.{FormatHasPlace, KeepsPlace, StartHasPlace, TurnedHasPlace}
use Rattle.dali_resume.specs.Interrupted.Stages.{HasPlace}
use Rattle.dali_resume.proofs.InterruptedLemmas.Stages.{behind_found, closing_log, found_log}

-- ---- bytes before a place
pub some_bytes : (bs : List (List Record)) → 0 < length (flat_map (λ b. b) bs) → 0 < sum_by batch_length bs
some_bytes [] h = absurd (omega (arith, h))
some_bytes (b ∷ bs) h = omega (arith, sum_by-append batch_length (b ∷ []) bs)

-- ---- where a core is made
pub format_has_place : FormatHasPlace
format_has_place s F is = record { placed = omega (arith, is.place); moved = omega (arith, is.gates); some = inl is.gates; read = inl is.gates }

pub turned_has_place : TurnedHasPlace
turned_has_place L B n F w t = subst HasPlace (sym t.2) (record {
  placed = some_bytes t.0.batches (omega (arith, ap length (found_log L B n t.0 w t.1), none_in_nothing L w.some.0 w.some.1 w.some.2));
  moved = omega (arith, t.1.place.moved, behind_found L B n t.0 w t.1);
  some = inr (omega (
    arith,
    ap length (closing_log L B n t.0 w t.1),
    length-append L (closing L ∷ []),
    none_in_nothing L w.some.0 w.some.1 w.some.2,
  ));
  read = inr (omega (arith, ap length (closing_log L B n t.0 w t.1), length-append L (closing L ∷ [])));
})

-- the image of a log without a record in its last epoch stands at the log's end, or a record before it
pub start_has_place : StartHasPlace
start_has_place s D from either = ⊎_elim none some either
  where
    fits : Fits (sizes_of s.log) (base_of (sizes_of s.log) s.log) s.log D (last_epoch s.log)
    fits = from.rests.files.fits

    none : s.vault.current ≡ 0 → HasPlace D
    none e =
        let gates : D.gates ≡ 0 = from.rests.current ∙ e in
        record { placed = omega (arith, (fits.fresh gates).0); moved = omega (arith, gates); some = inl gates; read = inl gates }

    low : length s.log ≤ D.first + 1
    low =
        omega (
          arith,
          (placed (sizes_of s.log) s.log (last_epoch s.log) D.first from.lawful.legal.rules fits.epoch).1,
          number_is_length s.log,
          ap length from.rests.none,
        )

    some : 1 < length s.log → HasPlace D
    some two = record {
      placed = subst (λ m. 0 < m) (sym fits.batch.2)
          (some_bytes (take fits.batch.0 D.batches) (omega (arith, ap length fits.batch.1, length-take-le D.first s.log fits.count, low, two)));
      moved = omega (arith, from.rests.current, from.rests.vault.moved, low);
      some = inr (omega (arith, two, ap length fits.log));
      read = from.rests.read;
    }

-- ---- sides
-- the next image isn't written where the current one stands

-- ---- one step
framed : (D : Files) (frame : List Record) → HasPlace D → HasPlace (with_frame D frame)
framed D [] has = record { placed = has.placed; moved = has.moved; some = has.some; read = has.read }
framed D (r ∷ rs) has = record {
  placed = has.placed;
  moved = has.moved;
  some = ⊎_elim (λ none. inl none) (λ two. inr (omega (arith, two, longer))) has.some;
  read = ⊎_elim (λ none. inl none) (λ behind. inr (omega (arith, behind, longer))) has.read;
}
  where
    longer : length (log_in D) ≤ length (log_in (with_frame D (r ∷ rs)))
    longer =
        omega (
          arith,
          ap length (flat_map-append (λ b. b) D.batches ((r ∷ rs) ∷ [])),
          length-append (log_in D) (flat_map (λ b. b) ((r ∷ rs) ∷ [])),
        )

module _ (bases : Bases) (before : List Record) (st : Point) (D : Files) (run : StoreRun bases before (only D) st) where
  on : RunsOn bases st.log st.core
  on = subst (λ M. RunsOn bases M st.core) (sym run.run.log) run.run.run.runs

  gates : st.core.vault.stopped ≡ false → D.gates ≡ st.core.vault.current
  gates runs = run.anchor runs D refl

  overwritten : (F : Files) → st.core.vault.stopped ≡ false → (F ≡ D) ⊎ IsOverwritten (target st) D F → HasPlace D → HasPlace F
  overwritten F runs (inl same) has = subst HasPlace (sym same) has
  overwritten F runs (inr other) has = absurd (other_side st.core.vault.current (ap image_side (sym (gates runs)) ∙ other.0))

  -- what a checkpoint kept stands behind the record that began the log
  head_has_place : (h : Head) (b k : ℕ) (image : List (List ℕ)) → st.core.vault.stopped ≡ false → MayTurn st h b k → HasPlace (turned D h image)
  head_has_place h b k image runs may = record {
    placed = subst (λ m. 0 < m) (sym at.2) (some_bytes (take at.0 D.batches)
        (omega (
          arith,
          ap length at.1,
          length-take-le h.first (log_in D) (kept.held D refl),
          kept.from,
          begins_behind st.core.system.sizes st.log on.log.format,
        )));
    moved = omega (arith, gates runs, kept.moved);
    some = inr (omega (arith, behind_format k may.clean, may.flushed, is.flushed, ap length is.log, length-take-le is.count st.log is.within));
    read = inr (omega (arith, later_than bases before (only D) st h b k run may, may.ends, may.flushed, is.flushed, ap length is.log, length-take-le is.count st.log is.within));
  }
    where
      is : IsPrefix st.log (stable st.core) D
      is = subst (λ M. IsPrefix M (stable st.core) D) (sym run.run.log) (run.run.run.vault.prefix D refl)

      -- the audit's end isn't the record that began the log
      behind_format : (i : ℕ) → slice_get st.log i ≡ Some (AuditClean b) → 0 < i
      behind_format zero e =
          let never : Some (Format st.core.system.sizes.index st.core.system.sizes.heap) ≡ Some (AuditClean b) = sym on.log.format ∙ e in
          absurd (cc)
      behind_format (suc i) e = omega arith

      kept : IsKept st.log st.core.vault (only D) h
      kept = run.kept h may.begun

      at : IsPlace D h.first h.place
      at = kept.place D refl

  turns : (h : Head) (b k : ℕ) (F : Files) → st.core.vault.stopped ≡ false → MayTurn st h b k → IsTurnedFrom st D F → HasPlace F
  turns h b k F runs may t = subst HasPlace (sym (t.3 ∙ ap (λ (z : Head). turned D z t.1) same)) (head_has_place h b k t.1 runs may)
    where
      side : side_of (D.gates + 1) ≡ target st
      side = ap (λ n. side_of (n + 1)) (gates runs)

      same : t.0 ≡ h
      same = t.2.head_is (ap st.synced side ∙ may.synced) ∙ (ap st.heads side ∙ may.head)

  by_core : (y : Step) (F : Files) → CameBy st.log st.core y D F → HasPlace D → HasPlace F
  by_core Flushes F came has = subst HasPlace (sym came) (framed D (frame_of st.log st.core) has)
  by_core (Faults n) F (inl same) has = subst HasPlace (sym same) has
  by_core (Faults n) F (inr longer) has = subst HasPlace (sym longer) (framed D (frame_of st.log st.core) has)
  by_core y F came has = subst HasPlace (sym came) has

  place_step : (q : Point) (x : StoreStep) (F : Files) → IsPointStep st x q → Came st x D F → HasPlace D → HasPlace F
  place_step q (Does y) F s came has = by_core y F came has
  place_step q (Copies r n) F s came has = overwritten F s.2.runs came has
  place_step q (WritesHead h) F s came has = overwritten F s.0.runs came has
  place_step q (CopyFails r ws n) F s came has = overwritten F s.3.may.runs came has
  place_step q (HeadFails h n) F s came has = overwritten F s.0.may.runs came has
  place_step q Turns F s came has = turns s.0 s.1 s.2 F s.3.runs s.4 came
  place_step q (TurnFails n) F s (inl same) has = subst HasPlace (sym same) has
  place_step q (TurnFails n) F s (inr t) has = turns s.0 s.1 s.2 F s.3.may.runs s.4 t
  place_step q Starts F s came has = subst HasPlace (sym came) has
  place_step q Keeps F s came has = subst HasPlace (sym came) has
  place_step q (Skips r n) F s came has = subst HasPlace (sym came) has
  place_step q Syncs F s came has = subst HasPlace (sym came) has
  place_step q (SyncFails n) F s came has = subst HasPlace (sym came) has
  place_step q Finishes F s came has = subst HasPlace (sym came) has

-- ---- any steps
place_course :
    (bases : Bases) (before : List Record) (st new : Point) (xs : List StoreStep) (D F : Files) → StoreRun bases before (only D) st
    → Traced st D xs new F → HasPlace D → HasPlace F
place_course bases before st new [] D F run t has = subst HasPlace t.1 has
place_course bases before st new (x ∷ xs) D F run t has =
    place_course bases before t.0 new xs t.1 F (store_step_keeps bases before st t.0 x D t.1 run t.2 t.3) t.4
    (place_step bases before st D run t.0 x t.1 t.2 t.3 has)

pub keeps_place : KeepsPlace
keeps_place s D from has xs p F t = place_course (bases_of s) s.log (start_point s) p xs D F (start_runs s D from) t has
