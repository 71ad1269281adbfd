-- The worked run of a removal: the entry is killed too, the transaction commits, what it removed is freed, an audit is clean.
use Rattle.std.proofs.Common.{◌≡◌, ℕ, zero, suc, ◌<◌, Bool, true, false, List, [], ◌∷◌, ◌++◌, Option, Some, None, refl, subst, ◌∙◌, arith}
use Rattle.std.specs.Prelude.{not, ◌&&◌}
use Rattle.dali_lists.proofs.Options.{some_same}
use Rattle.dali_record.specs.declared.records.Call.TheVariants.{Delete}
use Rattle.dali_record.specs.declared.records.Answer.TheVariants.{Ok as AnswerOk}
use Rattle.dali_record.specs.declared.records.Record.TheVariants.{Forward, Done, Commit, Ended, Solo, AuditBegin, AuditClean}
use Rattle.dali_record.specs.Damage.{has}
use Rattle.dali_record.specs.Legal.{Rules, rules_state}
use Rattle.dali_access.specs.Index.Entries.{entries}
use Rattle.dali_region.specs.declared.Side.TheVariants.{A}
use Rattle.dali_region.specs.State.{RegionState, touched, checked}
use Rattle.dali_region.specs.Answers.{cleaned}
use Rattle.dali_att.specs.declared.state.State.TheVariants.{Live, Committed}
use Rattle.dali_runs.specs.State.{state_of}
use Rattle.dali_runs.specs.Steps.{op_logged, done_logged, commit_logged, solo_logged, ended_logged, audit_begun, audit_ended, in_checkpoint}
use Rattle.dali_runs.specs.Keeps.{with_system, IsFree}
use Rattle.dali_runs.specs.Regions.{Clean}
use Rattle.dali_runs.specs.Audits.{IsAuditing}
use Rattle.dali_runs.specs.Passes.{audits_with, has_passed, has_found, IsVerdict}
use Rattle.dali_runs.specs.Courses.{Step, Operates, Frees, Answers, Commits, Ends, AuditBegins, AuditEnds, OnRegion, Passes, Checkpoints, Moment, IsStepAt, IsCourse, CoreTraced}
use Rattle.dali_runs.specs.Worked.{small, first_log, start, opening, touching, stored, look, kill_cell, kill_entry, free_cell, free_entry, kills, removal, Removal, first_files}
use Rattle.dali_runs.proofs.Courses.{course_keeps}
use Rattle.dali_runs.proofs.Touching.{join, with_one, passing, after_all, touches, quiet_trace}
use Rattle.dali_runs.proofs.Worked.{stored_regions, start_runs, exclusive_covers, logging, at_look, at_kill_cell, cell_killed, live_killed, logs_by, logs_block, alive_by, is_kill_entry, is_free_cell, is_free_entry, kills_course}
use Rattle.dali_runs.proofs.RowStates.{op_state, commit_state}

-- ---- the entry is killed
abbrev at_kill_entry : RegionState
at_kill_entry = after_all (opening 1 kill_entry ((1, 2) ∷ [])) (touched at_look)

abbrev entry_killed : Moment
entry_killed = logging cell_killed (Forward 1 kill_entry) (op_logged cell_killed.core.system 1 kill_entry) 0 at_kill_entry

kills_entry : IsStepAt (with_one cell_killed 0 at_kill_entry) (Operates 1 kill_entry) entry_killed
unfolding look kill_cell kill_entry entries
kills_entry = (
  (
    at_kill_entry,
    record { runs = refl; room = omega arith },
    logs_block (with_one cell_killed 0 at_kill_entry) (Forward 1 kill_entry) kill_entry at_kill_entry Live live_killed refl refl (omega arith, is_kill_entry, refl) refl refl (exclusive_covers true) refl (record { hold = refl; reads = refl; sound = λ h. refl; stands = λ h. refl }),
    (refl, refl),
  ),
  refl,
)

kill_course : IsCourse cell_killed (touching 1 kill_entry ((1, 2) ∷ []) (Operates 1 kill_entry)) entry_killed
unfolding look kill_cell kill_entry entries
kill_course = touches cell_killed entry_killed 1 kill_entry ((1, 2) ∷ []) (Operates 1 kill_entry) (touched at_look) refl (alive_by _ Live live_killed refl) (refl, (((refl, refl), omega arith), (((refl, omega arith), omega arith), tt))) kills_entry

-- ---- the call is answered, the transaction commits
abbrev answered : Moment
answered = record { log = entry_killed.log ++ Done 1 (Delete 5) AnswerOk ∷ []; core = with_system entry_killed.core (done_logged entry_killed.core.system 1 (Delete 5) AnswerOk); audits = entry_killed.audits }

abbrev committed : Moment
committed = record { log = answered.log ++ Commit 1 ∷ []; core = with_system answered.core (commit_logged answered.core.system 1); audits = answered.audits }

live_now : state_of entry_killed.core.system 1 ≡ Some Live
live_now = op_state cell_killed.core.system 1 kill_entry 1 ∙ live_killed

row_committed : state_of committed.core.system 1 ≡ Some Committed
row_committed = commit_state answered.core.system 1 Live live_now

answers : IsStepAt entry_killed (Answers 1 (Delete 5) AnswerOk) answered
unfolding look kill_cell kill_entry entries
answers = ((record { runs = refl; room = omega arith }, (omega arith, omega arith, tt, refl), record { next = refl; by = logs_by _ Live (Done 1 (Delete 5) AnswerOk) live_now refl }, (refl, refl)), refl)

commits : IsStepAt answered (Commits 1) committed
unfolding look kill_cell kill_entry entries
commits = ((refl, record { next = refl; by = logs_by _ Live (Commit 1) live_now refl }, (refl, refl)), refl)

-- ---- what was removed is freed
abbrev at_free_cell : RegionState
at_free_cell = after_all (opening 1 free_cell ((8, 0) ∷ [])) (touched at_kill_cell)

abbrev cell_freed : Moment
cell_freed = logging committed (Solo 2 1 free_cell) (solo_logged committed.core.system 1 free_cell) 1 at_free_cell

abbrev at_free_entry : RegionState
at_free_entry = after_all (opening 1 free_entry ((1, 0) ∷ [])) (touched at_kill_entry)

abbrev entry_freed : Moment
entry_freed = logging cell_freed (Solo 3 1 free_entry) (solo_logged cell_freed.core.system 1 free_entry) 0 at_free_entry

frees_cell : IsStepAt (with_one committed 1 at_free_cell) (Frees 1 free_cell) cell_freed
unfolding look kill_cell kill_entry free_cell entries
frees_cell = (
  (
    at_free_cell,
    logs_block (with_one committed 1 at_free_cell) (Solo 2 1 free_cell) free_cell at_free_cell Committed row_committed refl refl (omega arith, omega arith, is_free_cell, refl) refl refl (exclusive_covers true) refl (record { hold = refl; reads = refl; sound = λ h. refl; stands = λ h. refl }),
    (refl, refl),
  ),
  refl,
)

frees_entry : IsStepAt (with_one cell_freed 0 at_free_entry) (Frees 1 free_entry) entry_freed
unfolding look kill_cell kill_entry free_cell free_entry entries
frees_entry = (
  (
    at_free_entry,
    logs_block (with_one cell_freed 0 at_free_entry) (Solo 3 1 free_entry) free_entry at_free_entry Committed row_committed refl refl (omega arith, omega arith, is_free_entry, refl) refl refl (exclusive_covers true) refl (record { hold = refl; reads = refl; sound = λ h. refl; stands = λ h. refl }),
    (refl, refl),
  ),
  refl,
)

cell_course : IsCourse committed (touching 1 free_cell ((8, 0) ∷ []) (Frees 1 free_cell)) cell_freed
unfolding look kill_cell kill_entry free_cell entries
cell_course = touches committed cell_freed 1 free_cell ((8, 0) ∷ []) (Frees 1 free_cell) (touched at_kill_cell) refl (alive_by _ Committed row_committed refl) (refl, (((refl, refl), omega arith), (((refl, omega arith), omega arith), tt))) frees_cell

entry_course : IsCourse cell_freed (touching 1 free_entry ((1, 0) ∷ []) (Frees 1 free_entry)) entry_freed
unfolding look kill_cell kill_entry free_cell free_entry entries
entry_course = touches cell_freed entry_freed 1 free_entry ((1, 0) ∷ []) (Frees 1 free_entry) (touched at_kill_entry) refl (alive_by _ Committed row_committed refl) (refl, (((refl, refl), omega arith), (((refl, omega arith), omega arith), tt))) frees_entry

-- ---- the end, and an audit in a checkpoint
abbrev ended : Moment
ended = record { log = entry_freed.log ++ Ended 1 ∷ []; core = with_system entry_freed.core (ended_logged entry_freed.core.system 1); audits = entry_freed.audits }

abbrev checking : Moment
checking = record { log = ended.log; core = with_system ended.core (in_checkpoint ended.core.system true); audits = ended.audits }

abbrev copied : Moment
copied = with_one checking 0 (cleaned A (touched at_free_entry))

abbrev auditing : Moment
auditing = record { log = copied.log ++ AuditBegin ∷ []; core = with_system copied.core (audit_begun copied.core.system); audits = audits_with copied.audits 10 [] }

abbrev passed_0 : Moment
passed_0 = passing auditing 10 0 (checked (cleaned A (touched at_free_entry)))

abbrev passed : Moment
passed = passing passed_0 10 1 (checked (touched at_free_cell))

abbrev audited : Moment
audited = record { log = passed.log ++ AuditClean 10 ∷ []; core = with_system passed.core (audit_ended passed.core.system 10 []); audits = passed.audits }

abbrev finish : Moment
finish = record { log = audited.log; core = with_system audited.core (in_checkpoint audited.core.system false); audits = audited.audits }

-- no region is latched then
free : IsFree entry_freed.core 1
unfolding look kill_cell kill_entry free_cell free_entry entries
free zero h e = absurd (cc)
free (suc zero) h e = absurd (cc)
free (suc (suc r)) h e = absurd (cc)

ends : IsStepAt entry_freed (Ends 1) ended
unfolding look kill_cell kill_entry free_cell free_entry entries
ends = ((refl, (record { next = refl; by = logs_by _ Committed (Ended 1) row_committed refl }, free), (refl, refl)), refl)

starts_checkpoint : IsStepAt ended (Checkpoints true) checking
starts_checkpoint = ((refl, (refl, refl)), refl)

copies : IsStepAt checking (OnRegion 0 (Clean A)) copied
copies = ((touched at_free_entry, refl, (tt, tt), (refl, refl)), refl)

begins_audit : IsStepAt copied AuditBegins auditing
unfolding look kill_cell kill_entry free_cell free_entry entries
begins_audit = ((refl, omega arith, (refl, refl)), refl)

-- the rules name the audit that began at b
abbrev pub is_named : ℕ → Option Rules → Bool
is_named b None = false
is_named b (Some g) = has g.audits b && not (has g.closed b)

pub named_by : (b : ℕ) (o : Option Rules) → is_named b o ≡ true → (g : Rules) → o ≡ Some g → (has g.audits b && not (has g.closed b)) ≡ true
named_by b None t g e = absurd (cc)
named_by b (Some h) t g e = subst (λ (q : Rules). (has q.audits b && not (has q.closed b)) ≡ true) (some_same e) t

is_auditing : IsAuditing small auditing.log 10
unfolding look kill_cell kill_entry free_cell free_entry entries
is_auditing = record { named = named_by 10 (rules_state small auditing.log) refl; within = omega arith }

passes_0 : IsStepAt auditing (Passes 10 0) passed_0
unfolding look kill_cell kill_entry free_cell free_entry entries
passes_0 = ((cleaned A (touched at_free_entry), refl, (refl, refl)), (record { auditing = is_auditing; unpassed = refl }, refl))

passes_1 : IsStepAt passed_0 (Passes 10 1) passed
unfolding look kill_cell kill_entry free_cell free_entry entries
passes_1 = ((touched at_free_cell, refl, (refl, refl)), (record { auditing = is_auditing; unpassed = refl }, refl))

verdict : IsVerdict small (passed.audits 10) []
unfolding look kill_cell kill_entry free_cell free_entry entries
verdict = record { passed = passed_all; named = named_none }
  where
    passed_all : (r : ℕ) → r < 2 → has_passed (passed.audits 10) r ≡ true
    passed_all zero h = refl
    passed_all (suc zero) h = refl
    passed_all (suc (suc r)) h = absurd (omega (arith, h))

    named_none : (r : ℕ) → r < 2 → false ≡ has_found (passed.audits 10) r
    named_none zero h = refl
    named_none (suc zero) h = refl
    named_none (suc (suc r)) h = absurd (omega (arith, h))

ends_audit : IsStepAt passed (AuditEnds 10 []) audited
unfolding look kill_cell kill_entry free_cell free_entry entries
ends_audit = ((record { runs = refl; auditing = is_auditing; spelled = omega arith; numbers = refl }, (refl, refl)), (verdict, refl))

ends_checkpoint : IsStepAt audited (Checkpoints false) finish
ends_checkpoint = ((refl, (refl, refl)), refl)

-- ---- all of it
abbrev last_steps : List Step
last_steps = Ends 1 ∷ Checkpoints true ∷ OnRegion 0 (Clean A) ∷ AuditBegins ∷ Passes 10 0 ∷ Passes 10 1 ∷ AuditEnds 10 [] ∷ Checkpoints false ∷ []

last_course : IsCourse entry_freed last_steps finish
last_course = (ended, ends, (checking, starts_checkpoint, (copied, copies, (auditing, begins_audit, (passed_0, passes_0, (passed, passes_1, (audited, ends_audit, (finish, ends_checkpoint, refl))))))))

abbrev entry_freeing : List Step
entry_freeing = touching 1 free_entry ((1, 0) ∷ []) (Frees 1 free_entry) ++ last_steps

abbrev freeing : List Step
freeing = touching 1 free_cell ((8, 0) ∷ []) (Frees 1 free_cell) ++ entry_freeing

abbrev committing : List Step
committing = Answers 1 (Delete 5) AnswerOk ∷ Commits 1 ∷ freeing

free_course : IsCourse committed freeing finish
free_course =
    join committed cell_freed finish (touching 1 free_cell ((8, 0) ∷ []) (Frees 1 free_cell)) entry_freeing cell_course
    (join cell_freed entry_freed finish (touching 1 free_entry ((1, 0) ∷ []) (Frees 1 free_entry)) last_steps entry_course last_course)

commit_course : IsCourse entry_killed committing finish
commit_course = (answered, answers, (committed, commits, free_course))

removal_course : IsCourse (start stored) removal finish
removal_course =
    join (start stored) cell_killed finish kills (touching 1 kill_entry ((1, 2) ∷ []) (Operates 1 kill_entry) ++ committing) kills_course
    (join cell_killed entry_killed finish (touching 1 kill_entry ((1, 2) ∷ []) (Operates 1 kill_entry)) committing kill_course commit_course)

removal_trace : CoreTraced (start stored) first_files removal finish first_files
removal_trace = quiet_trace (start stored) finish removal first_files refl removal_course

pub removed : Removal
unfolding look kill_cell kill_entry free_cell free_entry entries
removed = record {
  finish = finish;
  trace = removal_trace;
  run = course_keeps (λ n. stored) first_log (start stored) finish removal first_files first_files (start_runs stored refl stored_regions) removal_trace;
  log = refl;
  words = refl;
}
