-- The worked life with its store: its checkpoint, its stop, and what a crash then leaves.
use Rattle.std.proofs.Common.{◌≡◌, ℕ, zero, suc, ◌<◌, true, false, List, [], ◌∷◌, ◌++◌, map, Some, None, refl, ap, inl, arith}
use Rattle.std.specs.List.{list_any}
use Rattle.std.proofs.lemmas.Bool.{or_parts}
use Rattle.dali_record.specs.declared.records.Record.{Record}
use Rattle.dali_record.specs.declared.records.Record.TheVariants.{Format, AuditBegin, AuditClean}
use Rattle.dali_record.specs.Legal.{rules_state}
use Rattle.dali_record.specs.Files.{Files}
use Rattle.dali_access.specs.Heap.Cells.{cells}
use Rattle.dali_access.specs.Index.Entries.{entries}
use Rattle.dali_region.specs.declared.Side.TheVariants.{A}
use Rattle.dali_region.specs.State.{RegionState, checked}
use Rattle.dali_region.specs.Answers.{cleaned}
use Rattle.dali_runs.specs.Steps.{audit_begun, audit_ended, taken, store_stopped}
use Rattle.dali_runs.specs.Keeps.{with_system, with_region}
use Rattle.dali_runs.specs.Audits.{IsAuditing}
use Rattle.dali_runs.specs.Passes.{audits_with, has_passed, has_found, IsVerdict}
use Rattle.dali_runs.specs.Flushes.{with_vault, longer, faulted, frame_of}
use Rattle.dali_runs.specs.Courses.{Step, AuditBegins, AuditEnds, Passes, Takes, Flushes, Faults, Stops, Moment, CoreTraced}
use Rattle.dali_runs.specs.ImageSteps.{told_with}
use Rattle.dali_runs.specs.Worked.{small, first_log, look as found, kill_cell, kill_entry, free_cell, free_entry, first_files, formatted_files}
use Rattle.dali_runs.proofs.Removal.{named_by}
use Rattle.dali_runs.proofs.Touching.{passing, quiet_trace}
use Rattle.dali_crash.specs.Worked.{look}
use Rattle.dali_crash.specs.Restarted.{put, add}
use Rattle.dali_crash.specs.Checkpoints.{Head, Point, StoreStep, Does, Starts, Keeps, Copies, WritesHead, Syncs, Turns, Finishes, is_of_checkpoint, target, head_now, head_with, synced_with, copies_with, copies_after, MayTurn, IsPointStep, with_current, with_flag, turned, Came, IsTurnedFrom, Traced, moment_of}
use Rattle.dali_crash.specs.Checkpointed.{no_head, checkpoint_start, checkpoint_from}
use Rattle.dali_crash.proofs.Checkpointed.{may_turn, history, starts, right}
use Rattle.dali_during.specs.Whole.{look_free, put_again, unput, before_checkpoint, worked, life, WorkedLife}
use Rattle.dali_during.proofs.Gaps.{first}
use Rattle.dali_during.proofs.Whole.{ready, index_now, heap_now, course_before}
use Rattle.dali_crash.proofs.Traces.{join_point_traces, traced_course}
use Rattle.dali_during.specs.During.{CourseIsQuiet}
use Rattle.dali_during.proofs.UnpokedCourses.{unpoked_traces, unpoked_point_courses}

abbrev bare : Moment → Point
bare m = record { log = m.log; core = m.core; audits = m.audits; told = λ side r. []; heads = λ side. no_head; synced = λ side. false; begun = None; copies = λ side r. None }

does_bare : (m n : Moment) (xs : List Step) (D F : Files) → list_any is_of_checkpoint xs ≡ false → CoreTraced m D xs n F → Traced (bare m) D (map Does xs) (bare n) F
does_bare m n [] D F quiet t = (ap bare t.0, t.1)
does_bare m n (x ∷ xs) D F quiet t = let p = or_parts (is_of_checkpoint x) (list_any is_of_checkpoint xs) quiet in (bare t.0, t.1, (p.0, t.2, refl), t.3, does_bare t.0 n xs t.1 F p.1 t.4)

-- ---- the moments
abbrev after : Point → Step → Moment → Point
after st x n = record st { log = n.log; core = n.core; audits = n.audits; copies = copies_after st.core x st.copies }

abbrev s0 : Point
s0 = bare ready

abbrev s1 : Point
s1 = record s0 { core = (with_flag s0.core true) }

abbrev in_hand : Point → Point
in_hand st = after st Takes (record { log = st.log; core = with_system st.core (taken st.core.system); audits = st.audits })

abbrev flushed_to : Point → Point
flushed_to st = after st Flushes (record { log = st.log; core = with_vault st.core (longer st.core.vault (frame_of st.log st.core)); audits = st.audits })

abbrev two : List (List Record)
two = (Format 1 1 ∷ []) ∷ worked ∷ []

abbrev three : List (List Record)
three = (Format 1 1 ∷ []) ∷ worked ∷ (AuditBegin ∷ AuditClean 24 ∷ []) ∷ []

-- the files of the format, with these batches
unfoldable old_files : List (List Record) → Files
old_files bs = formatted_files bs

abbrev s2 : Point
s2 = in_hand s1

abbrev s3 : Point
s3 = flushed_to s2

abbrev new_head : Head
new_head = head_now s3.log s3.core

abbrev s4 : Point
s4 = record s3 { begun = Some new_head }

abbrev copied : Point → ℕ → RegionState → Point
copied st r g = record st {
  core = (with_region st.core r (cleaned (target st) g));
  told = told_with st.told (target st) r g.back;
  synced = synced_with st.synced (target st) false;
  copies = copies_with st.copies (target st) r (Some (record { at = 24; passed = false }));
}

abbrev s5 : Point
s5 = copied s4 0 index_now

abbrev s6 : Point
s6 = copied s5 1 heap_now

abbrev s7 : Point
s7 = record s6 { heads = head_with s6.heads (target s6) new_head; synced = synced_with s6.synced (target s6) false }

abbrev s8 : Point
s8 = after s7 AuditBegins (record { log = s7.log ++ AuditBegin ∷ []; core = with_system s7.core (audit_begun s7.core.system); audits = audits_with s7.audits 24 [] })

abbrev s9 : Point
s9 = after s8 (Passes 24 0) (passing (moment_of s8) 24 0 (checked (cleaned A index_now)))

abbrev s10 : Point
s10 = after s9 (Passes 24 1) (passing (moment_of s9) 24 1 (checked (cleaned A heap_now)))

abbrev s11 : Point
s11 = after s10 (AuditEnds 24 []) (record { log = s10.log ++ AuditClean 24 ∷ []; core = with_system s10.core (audit_ended s10.core.system 24 []); audits = s10.audits })

abbrev s12 : Point
s12 = in_hand s11

abbrev s13 : Point
s13 = flushed_to s12

abbrev s14 : Point
s14 = record s13 { synced = synced_with s13.synced (target s13) true }

abbrev new_image : List (List ℕ)
new_image = index_now.back ∷ heap_now.back ∷ []

unfoldable crash : Files
crash = turned (old_files three) new_head new_image

abbrev s15 : Point
s15 = record s14 { core = (with_current s14.core); begun = None }

abbrev s16 : Point
s16 = record s15 { core = (with_flag s15.core false); begun = None }

abbrev s17 : Point
s17 = after s16 (Faults 1) (record { log = s16.log; core = with_vault s16.core (faulted s16.core.vault 1); audits = s16.audits })

abbrev s18 : Point
s18 = after s17 Stops (record { log = s17.log; core = with_system s17.core (store_stopped s17.core.system); audits = s17.audits })

-- ---- the steps
t1 : IsPointStep s0 Starts s1
unfolding look put add found kill_cell kill_entry free_cell free_entry look_free put_again unput entries cells
t1 = (refl, refl)

t2 : IsPointStep s1 (Does Takes) s2
unfolding look put add found kill_cell kill_entry free_cell free_entry look_free put_again unput entries cells
t2 = (refl, ((refl, refl), refl), refl)

t3 : IsPointStep s2 (Does Flushes) s3
unfolding look put add found kill_cell kill_entry free_cell free_entry look_free put_again unput entries cells
t3 = (refl, ((refl, (refl, refl)), refl), refl)

t4 : IsPointStep s3 Keeps s4
unfolding look put add found kill_cell kill_entry free_cell free_entry look_free put_again unput entries cells
t4 = (refl, refl, refl, refl, refl)

t5 : IsPointStep s4 (Copies 0 24) s5
unfolding look put add found kill_cell kill_entry free_cell free_entry look_free put_again unput entries cells
t5 = (index_now, refl, record { runs = refl; under_way = refl }, refl, record { within = omega arith; none = refl }, refl)

t6 : IsPointStep s5 (Copies 1 24) s6
unfolding look put add found kill_cell kill_entry free_cell free_entry look_free put_again unput entries cells
t6 = (heap_now, refl, record { runs = refl; under_way = refl }, refl, record { within = omega arith; none = refl }, refl)

t7 : IsPointStep s6 (WritesHead new_head) s7
unfolding look put add found kill_cell kill_entry free_cell free_entry look_free put_again unput entries cells
t7 = (record { runs = refl; under_way = refl }, refl)

t8 : IsPointStep s7 (Does AuditBegins) s8
unfolding look put add found kill_cell kill_entry free_cell free_entry look_free put_again unput entries cells
t8 = (refl, ((refl, omega arith, (refl, refl)), refl), refl)

is_auditing : IsAuditing small s8.log 24
unfolding look put add found kill_cell kill_entry free_cell free_entry look_free put_again unput entries cells
is_auditing = record { named = named_by 24 (rules_state small s8.log) refl; within = omega arith }

t9 : IsPointStep s8 (Does (Passes 24 0)) s9
unfolding look put add found kill_cell kill_entry free_cell free_entry look_free put_again unput entries cells
t9 = (refl, ((cleaned A index_now, refl, (refl, refl)), (record { auditing = is_auditing; unpassed = refl }, refl)), refl)

t10 : IsPointStep s9 (Does (Passes 24 1)) s10
unfolding look put add found kill_cell kill_entry free_cell free_entry look_free put_again unput entries cells
t10 = (refl, ((cleaned A heap_now, refl, (refl, refl)), (record { auditing = is_auditing; unpassed = refl }, refl)), refl)

verdict : IsVerdict small (s10.audits 24) []
unfolding look put add found kill_cell kill_entry free_cell free_entry look_free put_again unput entries cells
verdict = record { passed = passed_all; named = named_none }
  where
    passed_all : (r : ℕ) → r < 2 → has_passed (s10.audits 24) r ≡ true
    passed_all zero h = refl
    passed_all (suc zero) h = refl
    passed_all (suc (suc r)) h = absurd (omega (arith, h))

    named_none : (r : ℕ) → r < 2 → false ≡ has_found (s10.audits 24) r
    named_none zero h = refl
    named_none (suc zero) h = refl
    named_none (suc (suc r)) h = absurd (omega (arith, h))

t11 : IsPointStep s10 (Does (AuditEnds 24 [])) s11
unfolding look put add found kill_cell kill_entry free_cell free_entry look_free put_again unput entries cells
t11 = (refl, ((record { runs = refl; auditing = is_auditing; spelled = omega arith; numbers = refl }, (refl, refl)), (verdict, refl)), refl)

t12 : IsPointStep s11 (Does Takes) s12
unfolding look put add found kill_cell kill_entry free_cell free_entry look_free put_again unput entries cells
t12 = (refl, ((refl, refl), refl), refl)

t13 : IsPointStep s12 (Does Flushes) s13
unfolding look put add found kill_cell kill_entry free_cell free_entry look_free put_again unput entries cells
t13 = (refl, ((refl, (refl, refl)), refl), refl)

t14 : IsPointStep s13 Syncs s14
unfolding look put add found kill_cell kill_entry free_cell free_entry look_free put_again unput entries cells
t14 = (record { runs = refl; under_way = refl }, refl)

may : MayTurn s14 new_head 24 25
unfolding look put add found kill_cell kill_entry free_cell free_entry look_free put_again unput entries cells
may = may_turn s14 new_head 24 25 refl refl refl refl (omega arith) (omega arith) refl (omega arith) refl refl

t15 : IsPointStep s14 Turns s15
unfolding look put add found kill_cell kill_entry free_cell free_entry look_free put_again unput entries cells
t15 = (
  new_head,
  24,
  25,
  record { runs = refl; under_way = refl },
  may,
  refl,
)

t16 : IsPointStep s15 Finishes s16
unfolding look put add found kill_cell kill_entry free_cell free_entry look_free put_again unput entries cells
t16 = (refl, refl)

t17 : IsPointStep s16 (Does (Faults 1)) s17
unfolding look put add found kill_cell kill_entry free_cell free_entry look_free put_again unput entries cells
t17 = (refl, ((refl, inl (omega arith), (refl, refl)), refl), refl)

t18 : IsPointStep s17 (Does Stops) s18
unfolding look put add found kill_cell kill_entry free_cell free_entry look_free put_again unput entries cells
t18 = (refl, ((refl, (refl, refl)), refl), refl)

abbrev ending : List StoreStep
ending =
    Starts ∷ Does Takes ∷ Does Flushes ∷ Keeps
    ∷ Copies 0 24 ∷ Copies 1 24 ∷ WritesHead new_head
    ∷ Does AuditBegins ∷ Does (Passes 24 0) ∷ Does (Passes 24 1) ∷ Does (AuditEnds 24 []) ∷ Does Takes ∷ Does Flushes
    ∷ Syncs ∷ Turns ∷ Finishes ∷ Does (Faults 1) ∷ Does Stops ∷ []

came_two : Came s2 (Does Flushes) first_files (old_files two)
unfolding look put add found kill_cell kill_entry free_cell free_entry look_free put_again unput entries cells old_files
came_two = refl

came_three : Came s12 (Does Flushes) (old_files two) (old_files three)
unfolding look put add found kill_cell kill_entry free_cell free_entry look_free put_again unput entries cells old_files
came_three = refl

came_turned : IsTurnedFrom s14 (old_files three) crash
unfolding look put add found kill_cell kill_entry free_cell free_entry look_free put_again unput entries cells old_files crash
came_turned = (new_head, new_image, record { head_is = λ e. refl; image_is = λ e. refl }, refl)

turn_trace : Traced s13 (old_files three) (Syncs ∷ Turns ∷ Finishes ∷ Does (Faults 1) ∷ Does Stops ∷ []) s18 crash
turn_trace = (s14, old_files three, t14, refl, (s15, crash, t15, came_turned, (s16, crash, t16, refl, (s17, crash, t17, inl refl, (s18, crash, t18, refl, (refl, refl))))))

audit_trace : Traced s7 (old_files two) (Does AuditBegins ∷ Does (Passes 24 0) ∷ Does (Passes 24 1) ∷ Does (AuditEnds 24 []) ∷ Does Takes ∷ Does Flushes ∷ Syncs ∷ Turns ∷ Finishes ∷ Does (Faults 1) ∷ Does Stops ∷ []) s18 crash
audit_trace = (s8, old_files two, t8, refl, (s9, old_files two, t9, refl, (s10, old_files two, t10, refl, (s11, old_files two, t11, refl, (s12, old_files two, t12, refl, (s13, old_files three, t13, came_three, turn_trace))))))

end_trace : Traced s0 first_files ending s18 crash
end_trace = (s1, first_files, t1, refl, (s2, first_files, t2, refl, (s3, old_files two, t3, came_two, (s4, old_files two, t4, refl, (s5, old_files two, t5, inl refl, (s6, old_files two, t6, inl refl, (s7, old_files two, t7, inl refl, audit_trace)))))))

life_trace : Traced checkpoint_start first_files (life new_head) s18 crash
life_trace =
    join_point_traces checkpoint_start s0 s18 first_files first_files crash (map Does before_checkpoint) ending
    (does_bare first ready before_checkpoint first_files first_files refl (quiet_trace first ready before_checkpoint first_files refl course_before))
    end_trace

-- ---- what is left
is_quiet : CourseIsQuiet first_log (moment_of s18)
is_quiet = unpoked_point_courses checkpoint_from history starts.rules starts.rests.none starts.fits starts.rests.vault (life new_head) s18 refl (traced_course checkpoint_start s18 first_files crash (life new_head) life_trace)

pub worked_life : WorkedLife
unfolding look put add found kill_cell kill_entry free_cell free_entry look_free put_again unput entries cells crash old_files
worked_life = record {
  head = new_head;
  finish = s18;
  crash = crash;
  trace = life_trace;
  unpoked = refl;
  stop = refl;
  gates = refl;
  first = refl;
  batches = refl;
  survive = (unpoked_traces checkpoint_from first_files history starts (life new_head) s18 crash refl life_trace).none_deleted (refl, tt);
  right = right (life new_head) s18 crash refl life_trace;
  quiet = is_quiet;
}
