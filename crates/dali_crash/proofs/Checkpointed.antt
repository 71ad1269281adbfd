-- The worked checkpoint: each premise of each step is met.
use Rattle.std.proofs.Common.{◌≡◌, ℕ, zero, suc, ◌<◌, ◌≤◌, true, false, List, [], ◌∷◌, ◌++◌, Some, None, refl, ap, sym, inl, arith, take}
use Rattle.std.specs.Prelude.{◌&&◌, not, replicate, slice_get}
use Rattle.dali_geometry.specs.Places.{regions, formatted_image}
use Rattle.dali_record.specs.declared.records.Record.TheVariants.{Begin, Commit, Ended, AuditBegin, AuditClean}
use Rattle.dali_record.specs.Damage.{has}
use Rattle.dali_record.specs.Legal.{Rules}
use Rattle.dali_record.specs.Files.{Files}
use Rattle.dali_region.specs.declared.Side.TheVariants.{A}
use Rattle.dali_region.specs.State.{RegionState, loaded, checked}
use Rattle.dali_region.specs.Answers.{cleaned}
use Rattle.dali_runs.specs.Steps.{begun, commit_logged, ended_logged, audit_begun, audit_ended, taken}
use Rattle.dali_att.specs.declared.state.State.TheVariants.{Live, Committed}
use Rattle.dali_runs.specs.State.{state_of, stable}
use Rattle.dali_runs.specs.Passes.{audits_with, has_passed, has_found, IsVerdict}
use Rattle.dali_runs.specs.Keeps.{with_system, with_region, IsFree}
use Rattle.dali_runs.specs.Audits.{IsAuditing, MayLogEnd}
use Rattle.dali_runs.specs.Flushes.{with_vault, longer, frame_of}
use Rattle.dali_runs.specs.Courses.{Begins, Commits, Ends, AuditBegins, AuditEnds, Passes, Takes, Flushes, Step, Moment}
use Rattle.dali_runs.specs.ImageSteps.{told_with}
use Rattle.dali_runs.specs.Worked.{small, first_log, first_vault, first_files, formatted_files}
use Rattle.dali_crash.specs.Checkpoints.{Head, Copy, Point, Does, Starts, Keeps, copy_at, Copies, WritesHead, Syncs, Turns, Finishes, target, head_now, head_with, synced_with, copies_with, copies_after, IsCertified, MayTurn, IsPointStep, with_current, with_flag, Came, IsTurnedFrom, StoreStep, Traced, moment_of}
use Rattle.dali_crash.specs.Checkpointed.{new_head, checkpoint_start, checkpoint_steps, WorkedCheckpoint, batches_2, batches_3, checkpoint_from, moved_files}
use Rattle.dali_crash.proofs.Starts.{lawful}
use Rattle.dali_crash.proofs.Courses.{format_is_history}
use Rattle.dali_runs.proofs.Worked.{logs_by}
use Rattle.dali_runs.proofs.RowStates.{begun_state, commit_state}
use Rattle.dali_runs.proofs.Touching.{passing}
use Rattle.dali_crash.specs.Unpoked.{store_pokes}
use Rattle.dali_crash.specs.Traces.{IsFreshImage, StartsAt}
use Rattle.dali_crash.specs.StoreRuns.{CrashIsRightWith}
use Rattle.dali_crash.proofs.Traces.{fresh_rests, unpoked_trace_is_right}
use Rattle.dali_history.specs.History.{IsHistory}
use Rattle.std.specs.List.{list_any}
use Rattle.dali_lists.proofs.Numbers.{both_below_two}
use Rattle.dali_lists.proofs.Options.{some_same}

-- ---- the moments
-- the files of the format; behind the first flush; and behind the second
abbrev pub files_2 : Files
files_2 = formatted_files batches_2

abbrev pub files_3 : Files
files_3 = formatted_files batches_3

abbrev after : Point → Step → Moment → Point
after st x n = record st { log = n.log; core = n.core; audits = n.audits; copies = copies_after st.core x st.copies }

abbrev pub m1 : Point
m1 = after checkpoint_start Begins (record { log = first_log ++ Begin 1 ∷ []; core = with_system checkpoint_start.core (begun checkpoint_start.core.system); audits = checkpoint_start.audits })

abbrev pub m2 : Point
m2 = after m1 (Commits 1) (record { log = m1.log ++ Commit 1 ∷ []; core = with_system m1.core (commit_logged m1.core.system 1); audits = m1.audits })

abbrev pub m3 : Point
m3 = after m2 (Ends 1) (record { log = m2.log ++ Ended 1 ∷ []; core = with_system m2.core (ended_logged m2.core.system 1); audits = m2.audits })

abbrev pub m4 : Point
m4 = record m3 { core = (with_flag m3.core true) }

abbrev pub m5 : Point
m5 = after m4 Takes (record { log = m4.log; core = with_system m4.core (taken m4.core.system); audits = m4.audits })

abbrev pub m6 : Point
m6 = after m5 Flushes (record { log = m5.log; core = with_vault m5.core (longer m5.core.vault (frame_of m5.log m5.core)); audits = m5.audits })

abbrev pub m7 : Point
m7 = record m6 { begun = Some (head_now m6.log m6.core) }

abbrev pub index_region : RegionState
index_region = loaded (replicate 64 0)

abbrev pub heap_region : RegionState
heap_region = loaded (1 ∷ replicate 63 0)

abbrev pub copied : Point → ℕ → RegionState → Point
copied st r g = record st {
  core = (with_region st.core r (cleaned (target st) g));
  told = told_with st.told (target st) r g.back;
  synced = synced_with st.synced (target st) false;
  copies = copies_with st.copies (target st) r (Some (copy_at 4));
}

abbrev pub m8 : Point
m8 = copied m7 0 index_region

abbrev pub m9 : Point
m9 = after m8 AuditBegins (record { log = m8.log ++ AuditBegin ∷ []; core = with_system m8.core (audit_begun m8.core.system); audits = audits_with m8.audits 4 [] })

-- there are five records then
abbrev pub m10 : Point
m10 = copied m9 1 heap_region

abbrev pub m11 : Point
m11 = record m10 { heads = head_with m10.heads (target m10) new_head; synced = synced_with m10.synced (target m10) false }

abbrev pub m12 : Point
m12 = after m11 (Passes 4 0) (passing (moment_of m11) 4 0 (checked (cleaned A index_region)))

abbrev pub m13 : Point
m13 = after m12 (Passes 4 1) (passing (moment_of m12) 4 1 (checked (cleaned A heap_region)))

abbrev pub m14 : Point
m14 = after m13 (AuditEnds 4 []) (record { log = m13.log ++ AuditClean 4 ∷ []; core = with_system m13.core (audit_ended m13.core.system 4 []); audits = m13.audits })

abbrev pub m15 : Point
m15 = after m14 Takes (record { log = m14.log; core = with_system m14.core (taken m14.core.system); audits = m14.audits })

abbrev pub m16 : Point
m16 = after m15 Flushes (record { log = m15.log; core = with_vault m15.core (longer m15.core.vault (frame_of m15.log m15.core)); audits = m15.audits })

abbrev pub m17 : Point
m17 = record m16 { synced = synced_with m16.synced (target m16) true }

abbrev m18 : Point
m18 = record m17 { core = (with_current m17.core); begun = None }

abbrev m19 : Point
m19 = record m18 { core = (with_flag m18.core false); begun = None }

-- ---- each step
pub step_1 : IsPointStep checkpoint_start (Does Begins) m1
step_1 = (refl, ((record { runs = refl; room = omega arith }, (refl, refl)), refl), refl)

live : state_of m1.core.system 1 ≡ Some Live
live = begun_state checkpoint_start.core.system 1

row_committed : state_of m2.core.system 1 ≡ Some Committed
row_committed = commit_state m1.core.system 1 Live live

free : IsFree m2.core 1
free zero h e = absurd (cc)
free (suc zero) h e = absurd (cc)
free (suc (suc r)) h e = absurd (cc)

pub step_2 : IsPointStep m1 (Does (Commits 1)) m2
step_2 = (refl, ((refl, record { next = refl; by = logs_by _ Live (Commit 1) live refl }, (refl, refl)), refl), refl)

pub step_3 : IsPointStep m2 (Does (Ends 1)) m3
step_3 = (refl, ((refl, (record { next = refl; by = logs_by _ Committed (Ended 1) row_committed refl }, free), (refl, refl)), refl), refl)

pub step_4 : IsPointStep m3 Starts m4
step_4 = (refl, refl)

pub step_5 : IsPointStep m4 (Does Takes) m5
step_5 = (refl, ((refl, refl), refl), refl)

pub step_6 : IsPointStep m5 (Does Flushes) m6
step_6 = (refl, ((refl, (refl, refl)), refl), refl)

pub step_7 : IsPointStep m6 Keeps m7
step_7 = (refl, refl, refl, refl, refl)

pub step_8 : IsPointStep m7 (Copies 0 4) m8
step_8 = (index_region, refl, record { runs = refl; under_way = refl }, refl, record { within = omega arith; none = refl }, refl)

pub step_9 : IsPointStep m8 (Does AuditBegins) m9
step_9 = (refl, ((refl, omega arith, (refl, refl)), refl), refl)

pub step_10 : IsPointStep m9 (Copies 1 4) m10
step_10 = (heap_region, refl, record { runs = refl; under_way = refl }, refl, record { within = omega arith; none = refl }, refl)

pub step_11 : IsPointStep m10 (WritesHead new_head) m11
step_11 = (record { runs = refl; under_way = refl }, refl)

is_auditing : IsAuditing small m11.log 4
is_auditing = record { named = λ g e. ap (λ (z : Rules). has z.audits 4 && not (has z.closed 4)) (some_same (sym e)); within = omega arith }

pub step_12 : IsPointStep m11 (Does (Passes 4 0)) m12
step_12 = (refl, ((cleaned A index_region, refl, (refl, refl)), (record { auditing = is_auditing; unpassed = refl }, refl)), refl)

pub step_13 : IsPointStep m12 (Does (Passes 4 1)) m13
step_13 = (refl, ((cleaned A heap_region, refl, (refl, refl)), (record { auditing = is_auditing; unpassed = refl }, refl)), refl)

verdict : IsVerdict small (m13.audits 4) []
verdict = record { passed = passed_all; named = named_none }
  where
    passed_all : (r : ℕ) → r < 2 → has_passed (m13.audits 4) r ≡ true
    passed_all zero h = refl
    passed_all (suc zero) h = refl
    passed_all (suc (suc r)) h = absurd (omega (arith, h))

    named_none : (r : ℕ) → r < 2 → false ≡ has_found (m13.audits 4) r
    named_none zero h = refl
    named_none (suc zero) h = refl
    named_none (suc (suc r)) h = absurd (omega (arith, h))

may_end : MayLogEnd m13.log m13.core 4 []
may_end = record {
  runs = refl;
  auditing = is_auditing;
  spelled = omega arith;
  numbers = refl;
}

pub step_14 : IsPointStep m13 (Does (AuditEnds 4 [])) m14
step_14 = (refl, ((may_end, (refl, refl)), (verdict, refl)), refl)

pub step_15 : IsPointStep m14 (Does Takes) m15
step_15 = (refl, ((refl, refl), refl), refl)

pub step_16 : IsPointStep m15 (Does Flushes) m16
step_16 = (refl, ((refl, (refl, refl)), refl), refl)

pub step_17 : IsPointStep m16 Syncs m17
step_17 = (record { runs = refl; under_way = refl }, refl)

-- of two regions, each with its place brought up to date where the audit began
pub may_turn :
    (p : Point) (h : Head) (b k : ℕ) → p.begun ≡ Some h → p.heads (target p) ≡ h → p.synced (target p) ≡ true
    → slice_get p.log k ≡ Some (AuditClean b) → b ≤ k → k < stable p.core
    → regions p.core.system.sizes ≡ 2 → h.first ≤ b
    → p.copies (target p) 0 ≡ Some (record { at = b; passed = true }) → p.copies (target p) 1 ≡ Some (record { at = b; passed = true })
    → MayTurn p h b k
may_turn p h b k begun head synced clean ends flushed two since first second = record {
  begun = begun;
  head = head;
  synced = synced;
  clean = clean;
  ends = ends;
  flushed = flushed;
  copies = λ r w. both_below_two (λ r. (c : Copy) × (p.copies (target p) r ≡ Some c) × IsCertified h b c) (record { at = b; passed = true }, first, certified) (record { at = b; passed = true }, second, certified) r (omega (arith, two, w));
}
  where
    certified : IsCertified h b (record { at = b; passed = true })
    certified = record { since = since; until = omega arith; passed = refl }

pub may : MayTurn m17 new_head 4 5
may = may_turn m17 new_head 4 5 refl refl refl refl (omega arith) (omega arith) refl (omega arith) refl refl

step_18 : IsPointStep m17 Turns m18
step_18 = (new_head, 4, 5, record { runs = refl; under_way = refl }, may, refl)

step_19 : IsPointStep m18 Finishes m19
step_19 = (refl, refl)

-- ---- what is left
unfoldable pub crash : Files
crash = moved_files batches_3

pub turned_3 : IsTurnedFrom m17 files_3 crash
unfolding crash
turned_3 = (new_head, formatted_image small, record { head_is = λ e. refl; image_is = λ e. refl }, refl)

pub came_2 : Came m5 (Does Flushes) first_files files_2
came_2 = refl

pub came_3 : Came m15 (Does Flushes) files_2 files_3
came_3 = refl

-- from the format on to the first flush, then to the second
pub to_flush : (xs : List StoreStep) (q : Point) (F : Files) → Traced m6 files_2 xs q F → Traced checkpoint_start first_files (take 6 checkpoint_steps ++ xs) q F
to_flush xs q F t = (m1, first_files, step_1, refl, (m2, first_files, step_2, refl, (m3, first_files, step_3, refl, (m4, first_files, step_4, refl, (m5, first_files, step_5, refl, (m6, files_2, step_6, came_2, t))))))

abbrev pub audit_on : List StoreStep → List StoreStep
audit_on xs = Keeps ∷ Copies 0 4 ∷ Does AuditBegins ∷ xs

abbrev pub second_on : List StoreStep → List StoreStep
second_on xs = WritesHead new_head ∷ Does (Passes 4 0) ∷ Does (Passes 4 1) ∷ Does (AuditEnds 4 []) ∷ Does Takes ∷ Does Flushes ∷ xs

pub to_audit : (xs : List StoreStep) (q : Point) (F : Files) → Traced m9 files_2 xs q F → Traced m6 files_2 (audit_on xs) q F
to_audit xs q F t = (m7, files_2, step_7, refl, (m8, files_2, step_8, inl refl, (m9, files_2, step_9, refl, t)))

pub to_second : (xs : List StoreStep) (q : Point) (F : Files) → Traced m16 files_3 xs q F → Traced m10 files_2 (second_on xs) q F
to_second xs q F t = (m11, files_2, step_11, inl refl, (m12, files_2, step_12, refl, (m13, files_2, step_13, refl, (m14, files_2, step_14, refl, (m15, files_2, step_15, refl, (m16, files_3, step_16, came_3, t))))))

-- up to the second flush
pub to_end : (xs : List StoreStep) (q : Point) (F : Files) → Traced m16 files_3 xs q F → Traced checkpoint_start first_files (take 16 checkpoint_steps ++ xs) q F
to_end xs q F t = to_flush (audit_on (Copies 1 4 ∷ second_on xs)) q F (to_audit (Copies 1 4 ∷ second_on xs) q F (m10, files_2, step_10, inl refl, to_second xs q F t))

trace : Traced checkpoint_start first_files checkpoint_steps m19 crash
trace = to_end (Syncs ∷ Turns ∷ Finishes ∷ []) m19 crash (m17, files_3, step_17, refl, (m18, crash, step_18, turned_3, (m19, crash, step_19, refl, (refl, refl))))

-- ---- where it starts
pub history : IsHistory first_log
history = format_is_history small (refl, refl)

fresh : IsFreshImage first_log first_vault first_files
fresh = record {
  vault = record { runs = refl; flushed = refl; faults = omega arith; faults_fit = omega arith; short = omega arith; moved = omega arith };
  none = refl;
  files = record { log = refl; kind = inl (record { batches = refl; gates = refl; place = refl; first = refl; weight = refl; next = refl; image = refl; table = refl }) };
  end = refl;
  current = refl;
}

pub starts : StartsAt checkpoint_from first_files
starts = record { lawful = lawful first_log history; rules = refl; fits = omega arith; rests = fresh_rests first_log first_vault first_files fresh }

pub right : (xs : List StoreStep) (q : Point) (F : Files) → list_any store_pokes xs ≡ false → Traced checkpoint_start first_files xs q F → CrashIsRightWith first_log q.core F
right xs q F quiet t = (unpoked_trace_is_right checkpoint_from first_files history starts xs q F quiet t).0

pub worked_checkpoint : WorkedCheckpoint
unfolding crash
worked_checkpoint = record {
  starts = starts;
  finish = m19;
  crash = crash;
  trace = trace;
  number = refl;
  free = refl;
  gates = refl;
  first = refl;
  right = right checkpoint_steps m19 crash refl trace;
}
