-- The worked run: each premise of each step is met.
use Rattle.std.proofs.Common.{◌≡◌, List, [], ◌∷◌, refl, ap, ℕ, ◌++◌, sym, arith, zero, suc, ◌<◌, Some, false, Option, ◌∙◌}
use Rattle.std.specs.Prelude.{replicate, slice_get, is_some}
use Rattle.dali_record.specs.declared.records.Record.TheVariants.{Format, Begin, Commit, Done, Forward}
use Rattle.dali_runs.specs.Worked.{small, first_log, first_vault, start, first_files, formatted_files}
use Rattle.dali_runs.proofs.Worked.{logs_by, alive_by, first_store}
use Rattle.dali_crash.specs.Worked.{look, steps, WorkedRun}
use Rattle.dali_record.specs.declared.records.Call.TheVariants.{Get}
use Rattle.dali_record.specs.declared.records.Answer.TheVariants.{Missing}
use Rattle.dali_record.specs.Files.{Files}
use Rattle.dali_region.specs.State.{RegionState, loaded, latched, with_reads, touched}
use Rattle.dali_locks.specs.declared.mode.Mode.TheVariants.{Shared}
use Rattle.dali_runs.specs.Run.{log_in, blocks_on}
use Rattle.dali_runs.specs.Steps.{begun, commit_logged, op_logged, done_logged, granted, taken}
use Rattle.dali_runs.specs.Keeps.{with_system, with_region, with_touched}
use Rattle.dali_runs.specs.Regions.{Latch, NoteReads}
use Rattle.dali_runs.specs.Flushes.{with_vault, longer, frame_of}
use Rattle.dali_runs.specs.Courses.{Begins, Operates, Answers, Commits, Locks, OnRegion, Takes, Flushes, Moment, IsStepAt, CameBy, CoreTraced}
use Rattle.dali_runs.proofs.Loads.{no_lock}
use Rattle.dali_words.specs.Words.{AreWords}
use Rattle.dali_record.specs.Spelling.{IsBlock}
use Rattle.dali_record.specs.declared.operations.Op.TheVariants.{Look}
use Rattle.dali_access.specs.Index.Entries.{entries}
use Rattle.dali_record.proofs.Made.{made_is_block}
use Rattle.dali_record.specs.Legal.{passes, rules_start}
use Rattle.dali_geometry.specs.Places.{formatted_image}
use Rattle.dali_record.specs.Epochs.{last_epoch}
use Rattle.dali_crash.proofs.Courses.{format_is_history}
use Rattle.dali_crash.specs.Restarts.{RestartsRight}
use Rattle.dali_lists.proofs.Options.{some_same}
use Rattle.dali_att.specs.Table.{fresh_row}
use Rattle.dali_runs.proofs.Tables.{added}
use Rattle.dali_runs.proofs.RowStates.{begun_state, op_state}
use Rattle.dali_att.specs.declared.state.State.TheVariants.{Live}
use Rattle.dali_runs.specs.State.{TxnRow, state_of}
use Rattle.dali_runs.proofs.Damage.{shared_covers}
use Rattle.dali_crash.proofs.Traces.{every_core_trace_is_right}

-- ---- the moments
abbrev first : Moment
first = start (formatted_image small)

abbrev begun_1 : Moment
begun_1 = record { log = first_log ++ Begin 1 ∷ []; core = with_system first.core (begun first.core.system); audits = first.audits }

abbrev committed_1 : Moment
committed_1 = record { log = begun_1.log ++ Commit 1 ∷ []; core = with_system begun_1.core (commit_logged begun_1.core.system 1); audits = first.audits }

abbrev taken_1 : Moment
taken_1 = record { log = committed_1.log; core = with_system committed_1.core (taken committed_1.core.system); audits = committed_1.audits }

abbrev begun_2 : Moment
begun_2 = record { log = taken_1.log ++ Begin 2 ∷ []; core = with_system taken_1.core (begun taken_1.core.system); audits = taken_1.audits }

-- the begin of transaction 2 isn't in the frame
abbrev flushed_1 : Moment
flushed_1 = record {
  log = begun_2.log;
  core = with_vault begun_2.core (longer begun_2.core.vault (frame_of begun_2.log begun_2.core));
  audits = begun_2.audits;
}

abbrev locked : Moment
locked = record { log = begun_2.log; core = with_system flushed_1.core (granted flushed_1.core.system 2 5 Shared); audits = flushed_1.audits }

abbrev words : List ℕ
words = replicate 64 0

abbrev held : RegionState
held = latched 2 (loaded words)

abbrev latch : Moment
latch = record { log = begun_2.log; core = with_region locked.core 0 held; audits = flushed_1.audits }

abbrev opened : RegionState
opened = with_reads look.read held

abbrev read : Moment
read = record { log = begun_2.log; core = with_region latch.core 0 opened; audits = flushed_1.audits }

abbrev operated : Moment
operated = record { log = begun_2.log ++ Forward 2 look ∷ []; core = with_touched read.core (op_logged read.core.system 2 look) 0 opened; audits = flushed_1.audits }

abbrev answered : Moment
answered = record { log = operated.log ++ Done 2 (Get 5) Missing ∷ []; core = with_system operated.core (done_logged operated.core.system 2 (Get 5) Missing); audits = flushed_1.audits }

-- ---- each step
step_1 : IsStepAt first Begins begun_1
step_1 = ((record { runs = refl; room = omega arith }, (refl, refl)), refl)

step_2 : IsStepAt begun_1 (Commits 1) committed_1
step_2 = ((refl, record { next = refl; by = logs_by _ Live (Commit 1) (begun_state first.core.system 1) refl }, (refl, refl)), refl)

takes : IsStepAt committed_1 Takes taken_1
takes = ((refl, refl), refl)

step_3 : IsStepAt begun_2 Flushes flushed_1
step_3 = ((refl, (refl, refl)), refl)

step_4 : IsStepAt taken_1 Begins begun_2
step_4 = ((record { runs = refl; room = omega arith }, (refl, refl)), refl)

step_5 : IsStepAt flushed_1 (Locks 2 5 Shared) locked
step_5 = ((ap (λ (row : Option TxnRow). is_some row) (added taken_1.core.system.table 2 fresh_row 2), (λ u n d e. absurd (no_lock u 5 n e)), (refl, refl)), refl)

live_locked : state_of locked.core.system 2 ≡ Some Live
live_locked = begun_state taken_1.core.system 2

live_operated : state_of operated.core.system 2 ≡ Some Live
live_operated = op_state read.core.system 2 look 2 ∙ live_locked

step_6 : IsStepAt locked (OnRegion 0 (Latch 2)) latch
step_6 = ((loaded words, refl, (refl, alive_by _ Live live_locked refl), (refl, refl)), refl)

step_7 : IsStepAt latch (OnRegion 0 (NoteReads look.read)) read
unfolding look entries
step_7 = ((held, refl, (((refl, refl), omega arith), tt), (refl, refl)), refl)

are_words : AreWords words
are_words = (refl, omega arith)

is_look : IsBlock look
unfolding look
is_look = made_is_block Look 5 0 words tt (omega arith) (omega arith) are_words

step_8 : IsStepAt read (Operates 2 look) operated
unfolding look entries
step_8 = (
  (
    opened,
    record { runs = refl; room = omega arith },
    record {
      runs = refl;
      spelled = (omega arith, is_look, refl);
      next = refl;
      by = logs_by _ Live (Forward 2 look) live_locked refl;
      kind = refl;
      locked = shared_covers begun_2.core.system.locks;
      at = refl;
      is_open = record { hold = refl; reads = refl; sound = λ h. refl; stands = λ h. refl };
    },
    (refl, refl),
  ),
  refl,
)

step_9 : IsStepAt operated (Answers 2 (Get 5) Missing) answered
unfolding look entries
step_9 = ((record { runs = refl; room = omega arith }, (omega arith, omega arith, tt, refl), record { next = refl; by = logs_by _ Live (Done 2 (Get 5) Missing) live_operated refl }, (refl, refl)), refl)

-- ---- what is left
crash : Files
crash = formatted_files (first_log ∷ (Begin 1 ∷ Commit 1 ∷ []) ∷ [])

behind_flush : CoreTraced flushed_1 crash (Locks 2 5 Shared ∷ OnRegion 0 (Latch 2) ∷ OnRegion 0 (NoteReads look.read) ∷ Operates 2 look ∷ Answers 2 (Get 5) Missing ∷ []) answered crash
behind_flush = (locked, crash, step_5, refl, (latch, crash, step_6, refl, (read, crash, step_7, refl, (operated, crash, step_8, refl, (answered, crash, step_9, refl, (refl, refl))))))

came : CameBy begun_2.log begun_2.core Flushes first_files crash
unfolding crash
came = refl

trace : CoreTraced first first_files steps answered crash
trace = (begun_1, first_files, step_1, refl, (committed_1, first_files, step_2, refl, (taken_1, first_files, takes, refl, (begun_2, first_files, step_4, refl, (flushed_1, crash, step_3, came, behind_flush)))))

right : RestartsRight first_log answered.core crash
unfolding crash look entries
right =
    every_core_trace_is_right first_log (passes rules_start (Format 1 1)) 1000000 first_vault first_files (format_is_history small (refl, refl)) refl refl (omega arith) first_store refl
    steps answered crash trace
    (record { seen = λ r g e. not_missed r g e; named = λ r g e h. absurd (none_lost r g e h) })
  where
    not_missed : (r : ℕ) (g : RegionState) → slice_get answered.core.regions r ≡ Some g → g.missed ≡ false
    not_missed zero g e = let is : slice_get answered.core.regions 0 ≡ Some (touched opened) = refl in sym (ap (λ (z : RegionState). z.missed) (some_same e))
    not_missed (suc zero) g e = sym (ap (λ (z : RegionState). z.missed) (some_same e))
    not_missed (suc (suc r)) g e = absurd (cc)

    none_lost : (r : ℕ) (g : RegionState) → slice_get answered.core.regions r ≡ Some g → g.sound < blocks_on r (last_epoch (log_in crash)).records → ⊥
    none_lost r g e h = none r h
      where
        none : (q : ℕ) → g.sound < blocks_on q (Begin 1 ∷ Commit 1 ∷ []) → ⊥
        none q k = omega (arith, k)

pub worked_run : WorkedRun
unfolding crash look entries
worked_run = record {
  finish = answered;
  log = refl;
  acknowledged = (0, omega arith, refl);
  crash = crash;
  trace = trace;
  right = right;
}
