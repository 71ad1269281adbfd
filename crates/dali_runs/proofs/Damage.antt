-- The worked run with damage: a poke, a transaction that reads it and commits, an audit that fails.
use Rattle.std.proofs.Common.{◌≡◌, ℕ, zero, suc, ◌<◌, true, false, List, [], ◌∷◌, ◌++◌, Option, Some, None, refl, ap, sym, ◌∙◌, arith}
use Rattle.std.specs.Prelude.{slice_get, replicate, is_some}
use Rattle.std.specs.FinMap.{get}
use Rattle.dali_lists.proofs.Options.{some_same}
use Rattle.dali_words.specs.Words.{AreWords, AllAreWords}
use Rattle.dali_geometry.specs.Places.{formatted_image}
use Rattle.dali_record.specs.declared.operations.Op.TheVariants.{Look}
use Rattle.dali_record.specs.declared.records.Call.TheVariants.{Get}
use Rattle.dali_record.specs.declared.records.Answer.TheVariants.{Missing}
use Rattle.dali_record.specs.declared.records.Record.TheVariants.{Begin, Forward, Done, Commit, AuditBegin, AuditFail}
use Rattle.dali_record.specs.Spelling.{IsBlock}
use Rattle.dali_record.specs.Epochs.{last_epoch}
use Rattle.dali_record.specs.Damage.{has}
use Rattle.dali_record.specs.Files.{Files}
use Rattle.dali_record.specs.Legal.{rules_state}
use Rattle.dali_record.proofs.Made.{made_is_block}
use Rattle.dali_access.specs.Index.Entries.{entries}
use Rattle.dali_region.specs.State.{RegionState, loaded, poked, touched, checked}
use Rattle.dali_locks.specs.declared.mode.Mode.{Mode}
use Rattle.dali_locks.specs.declared.mode.Mode.TheVariants.{Shared, Exclusive}
use Rattle.dali_locks.specs.Locks.{stronger_mode, Locks, locks_with}
use Rattle.dali_locks.proofs.Changes.{get-locks_with}
use Rattle.dali_att.specs.declared.state.State.TheVariants.{Live}
use Rattle.dali_att.specs.Table.{fresh_row}
use Rattle.dali_runs.specs.State.{TxnRow, state_of}
use Rattle.dali_runs.specs.Run.{log_in, covers, blocks_on}
use Rattle.dali_runs.specs.Steps.{begun, commit_logged, granted, op_logged, done_logged, taken, audit_begun, audit_ended}
use Rattle.dali_runs.specs.Keeps.{with_system}
use Rattle.dali_runs.specs.Regions.{Poke}
use Rattle.dali_runs.specs.Flushes.{with_vault, longer, frame_of}
use Rattle.dali_runs.specs.Audits.{IsAuditing}
use Rattle.dali_runs.specs.Passes.{audits_with, has_passed, has_found, IsVerdict}
use Rattle.dali_runs.specs.Crashes.{NoneEscapes}
use Rattle.dali_runs.specs.Courses.{Step, Begins, Commits, OnRegion, Passes, Locks as Asks, Operates, Answers, Takes, Flushes, AuditBegins, AuditEnds, Moment, IsStepAt, IsCourse, CameBy, CoreTraced}
use Rattle.dali_runs.specs.Worked.{small, first_log, start, opening, touching, damaged_words, damaged_look, damage, committed_batch, audit_batch, Damaged, first_files, formatted_files}
use Rattle.dali_runs.proofs.Loads.{no_lock}
use Rattle.dali_runs.proofs.Tables.{added}
use Rattle.dali_runs.proofs.Courses.{course_keeps}
use Rattle.dali_runs.proofs.Touching.{with_one, passing, after_all, touches, join_traces, quiet_trace}
use Rattle.dali_runs.proofs.Worked.{start_runs, logging, logs_by, alive_by}
use Rattle.dali_runs.proofs.RowStates.{begun_state, op_state}
use Rattle.dali_runs.proofs.Removal.{named_by}

-- ---- the moments
abbrev formatted : List (List ℕ)
formatted = formatted_image small

abbrev begun_1 : Moment
begun_1 = record { log = first_log ++ Begin 1 ∷ []; core = with_system (start formatted).core (begun (start formatted).core.system); audits = (start formatted).audits }

abbrev committed_1 : Moment
committed_1 = record { log = begun_1.log ++ Commit 1 ∷ []; core = with_system begun_1.core (commit_logged begun_1.core.system 1); audits = begun_1.audits }

abbrev hit : RegionState
hit = poked 0 1 (loaded (replicate 64 0))

abbrev poked_0 : Moment
poked_0 = with_one committed_1 0 hit

abbrev begun_2 : Moment
begun_2 = record { log = poked_0.log ++ Begin 2 ∷ []; core = with_system poked_0.core (begun poked_0.core.system); audits = poked_0.audits }

abbrev locked : Moment
locked = record { log = begun_2.log; core = with_system begun_2.core (granted begun_2.core.system 2 5 Shared); audits = begun_2.audits }

abbrev at_look : RegionState
at_look = after_all (opening 2 damaged_look []) hit

abbrev looked : Moment
looked = logging locked (Forward 2 damaged_look) (op_logged locked.core.system 2 damaged_look) 0 at_look

abbrev answered : Moment
answered = record { log = looked.log ++ Done 2 (Get 5) Missing ∷ []; core = with_system looked.core (done_logged looked.core.system 2 (Get 5) Missing); audits = looked.audits }

abbrev committed_2 : Moment
committed_2 = record { log = answered.log ++ Commit 2 ∷ []; core = with_system answered.core (commit_logged answered.core.system 2); audits = answered.audits }

abbrev taken_2 : Moment
taken_2 = record { log = committed_2.log; core = with_system committed_2.core (taken committed_2.core.system); audits = committed_2.audits }

abbrev begun_audit : Moment
begun_audit = record { log = taken_2.log ++ AuditBegin ∷ []; core = with_system taken_2.core (audit_begun taken_2.core.system); audits = audits_with taken_2.audits 7 [] }

-- the audit's begin isn't in the frame
abbrev auditing : Moment
auditing = record {
  log = begun_audit.log;
  core = with_vault begun_audit.core (longer begun_audit.core.vault (frame_of begun_audit.log begun_audit.core));
  audits = begun_audit.audits;
}

abbrev passed_0 : Moment
passed_0 = passing auditing 7 0 (checked (touched at_look))

abbrev passed : Moment
passed = passing passed_0 7 1 (checked (loaded (1 ∷ replicate 63 0)))

abbrev audited : Moment
audited = record { log = passed.log ++ AuditFail 7 (0 ∷ []) ∷ []; core = with_system passed.core (audit_ended passed.core.system 7 (0 ∷ [])); audits = passed.audits }

abbrev taken_audit : Moment
taken_audit = record { log = audited.log; core = with_system audited.core (taken audited.core.system); audits = audited.audits }

abbrev pub finish : Moment
finish = record {
  log = audited.log;
  core = with_vault taken_audit.core (longer taken_audit.core.vault (frame_of taken_audit.log taken_audit.core));
  audits = audited.audits;
}

-- ---- the steps
begins_1 : IsStepAt (start formatted) Begins begun_1
begins_1 = ((record { runs = refl; room = omega arith }, (refl, refl)), refl)

commits_1 : IsStepAt begun_1 (Commits 1) committed_1
commits_1 = ((refl, record { next = refl; by = logs_by _ Live (Commit 1) (begun_state (start formatted).core.system 1) refl }, (refl, refl)), refl)

pokes : IsStepAt committed_1 (OnRegion 0 (Poke 0 1)) poked_0
pokes = ((loaded (replicate 64 0), refl, ((omega arith, omega arith, omega arith), tt), (refl, refl)), refl)

begins_2 : IsStepAt poked_0 Begins begun_2
begins_2 = ((record { runs = refl; room = omega arith }, (refl, refl)), refl)

asks : IsStepAt begun_2 (Asks 2 5 Shared) locked
asks = ((ap (λ (row : Option TxnRow). is_some row) (added poked_0.core.system.table 2 fresh_row 2), (λ u n d e. absurd (no_lock u 5 n e)), (refl, refl)), refl)

are_damaged : AreWords damaged_words
are_damaged = (refl, omega arith)

is_damaged_look : IsBlock damaged_look
unfolding damaged_look
is_damaged_look = made_is_block Look 5 0 damaged_words tt (omega arith) (omega arith) are_damaged

shared : (o : Option Mode) → covers (Some (stronger_mode o Shared)) false ≡ true
shared None = refl
shared (Some Shared) = refl
shared (Some Exclusive) = refl

-- the lock that 2 was granted on key 5 covers what only reads
pub shared_covers : (y : Locks) → covers (get (locks_with y 2 5 Shared) (2, 5)) false ≡ true
shared_covers y = ap (λ (o : Option Mode). covers o false) (get-locks_with y 2 5 Shared 2 5) ∙ shared (get y (2, 5))

live_locked : state_of locked.core.system 2 ≡ Some Live
live_locked = begun_state poked_0.core.system 2

live_looked : state_of looked.core.system 2 ≡ Some Live
live_looked = op_state locked.core.system 2 damaged_look 2 ∙ live_locked

looks : IsStepAt (with_one locked 0 at_look) (Operates 2 damaged_look) looked
unfolding damaged_look entries
looks = (
  (
    at_look,
    record { runs = refl; room = omega arith },
    record {
      runs = refl;
      spelled = (omega arith, is_damaged_look, refl);
      next = refl;
      by = logs_by _ Live (Forward 2 damaged_look) live_locked refl;
      kind = refl;
      locked = shared_covers begun_2.core.system.locks;
      at = refl;
      is_open = record { hold = refl; reads = refl; sound = λ h. absurd (cc); stands = λ h. absurd (cc) };
    },
    (refl, refl),
  ),
  refl,
)

look_course : IsCourse locked (touching 2 damaged_look [] (Operates 2 damaged_look)) looked
unfolding damaged_look entries
look_course = touches locked looked 2 damaged_look [] (Operates 2 damaged_look) hit refl (alive_by _ Live live_locked refl) (refl, (((refl, refl), omega arith), tt)) looks

answers : IsStepAt looked (Answers 2 (Get 5) Missing) answered
unfolding damaged_look entries
answers = ((record { runs = refl; room = omega arith }, (omega arith, omega arith, tt, refl), record { next = refl; by = logs_by _ Live (Done 2 (Get 5) Missing) live_looked refl }, (refl, refl)), refl)

commits_2 : IsStepAt answered (Commits 2) committed_2
unfolding damaged_look entries
commits_2 = ((refl, record { next = refl; by = logs_by _ Live (Commit 2) live_looked refl }, (refl, refl)), refl)

takes : IsStepAt committed_2 Takes taken_2
takes = ((refl, refl), refl)

flushes : IsStepAt begun_audit Flushes auditing
unfolding damaged_look entries
flushes = ((refl, (refl, refl)), refl)

begins_audit : IsStepAt taken_2 AuditBegins begun_audit
unfolding damaged_look entries
begins_audit = ((refl, omega arith, (refl, refl)), refl)

is_auditing : IsAuditing small auditing.log 7
unfolding damaged_look entries
is_auditing = record { named = named_by 7 (rules_state small auditing.log) refl; within = omega arith }

passes_0 : IsStepAt auditing (Passes 7 0) passed_0
unfolding damaged_look entries
passes_0 = ((touched at_look, refl, (refl, refl)), (record { auditing = is_auditing; unpassed = refl }, refl))

passes_1 : IsStepAt passed_0 (Passes 7 1) passed
unfolding damaged_look entries
passes_1 = ((loaded (1 ∷ replicate 63 0), refl, (refl, refl)), (record { auditing = is_auditing; unpassed = refl }, refl))

-- region 0, to which the poke came, answered other than 0
verdict : IsVerdict small (passed.audits 7) (0 ∷ [])
unfolding damaged_look entries
verdict = record { passed = passed_all; named = named_first }
  where
    passed_all : (r : ℕ) → r < 2 → has_passed (passed.audits 7) r ≡ true
    passed_all zero h = refl
    passed_all (suc zero) h = refl
    passed_all (suc (suc r)) h = absurd (omega (arith, h))

    named_first : (r : ℕ) → r < 2 → has (0 ∷ []) r ≡ has_found (passed.audits 7) r
    named_first zero h = refl
    named_first (suc zero) h = refl
    named_first (suc (suc r)) h = absurd (omega (arith, h))

ends_audit : IsStepAt passed (AuditEnds 7 (0 ∷ [])) audited
unfolding damaged_look entries
ends_audit = ((record { runs = refl; auditing = is_auditing; spelled = (omega arith, (omega arith, (omega arith, tt), refl), omega arith); numbers = refl }, (refl, refl)), (verdict, refl))

takes_audit : IsStepAt audited Takes taken_audit
takes_audit = ((refl, refl), refl)

flushes_audit : IsStepAt taken_audit Flushes finish
flushes_audit = ((refl, (refl, refl)), refl)

-- ---- all of it
abbrev auditing_steps : List Step
auditing_steps = Answers 2 (Get 5) Missing ∷ Commits 2 ∷ Takes ∷ AuditBegins ∷ Flushes ∷ Passes 7 0 ∷ Passes 7 1 ∷ AuditEnds 7 (0 ∷ []) ∷ Takes ∷ Flushes ∷ []

abbrev with_commits : Files
with_commits = formatted_files (first_log ∷ committed_batch ∷ [])

abbrev pub crash : Files
crash = formatted_files (first_log ∷ committed_batch ∷ audit_batch ∷ [])

commits_came : CameBy begun_audit.log begun_audit.core Flushes first_files with_commits
unfolding damaged_look entries
commits_came = refl

audit_came : CameBy taken_audit.log taken_audit.core Flushes with_commits crash
unfolding damaged_look entries
audit_came = refl

end_trace : CoreTraced auditing with_commits (Passes 7 0 ∷ Passes 7 1 ∷ AuditEnds 7 (0 ∷ []) ∷ Takes ∷ Flushes ∷ []) finish crash
end_trace = (passed_0, with_commits, passes_0, refl, (passed, with_commits, passes_1, refl, (audited, with_commits, ends_audit, refl, (taken_audit, with_commits, takes_audit, refl, (finish, crash, flushes_audit, audit_came, (refl, refl))))))

audit_trace : CoreTraced looked first_files auditing_steps finish crash
audit_trace = (answered, first_files, answers, refl, (committed_2, first_files, commits_2, refl, (taken_2, first_files, takes, refl, (begun_audit, first_files, begins_audit, refl, (auditing, with_commits, flushes, commits_came, end_trace)))))

rest_trace : CoreTraced locked first_files (touching 2 damaged_look [] (Operates 2 damaged_look) ++ auditing_steps) finish crash
rest_trace =
    join_traces locked looked finish first_files first_files crash (touching 2 damaged_look [] (Operates 2 damaged_look)) auditing_steps
    (quiet_trace locked looked (touching 2 damaged_look [] (Operates 2 damaged_look)) first_files refl look_course)
    audit_trace

pub damage_trace : CoreTraced (start formatted) first_files damage finish crash
damage_trace = (begun_1, first_files, begins_1, refl, (committed_1, first_files, commits_1, refl, (poked_0, first_files, pokes, refl, (begun_2, first_files, begins_2, refl, (locked, first_files, asks, refl, rest_trace)))))

formatted_regions : AllAreWords formatted
formatted_regions = ((refl, omega arith), ((refl, omega arith), tt))

-- ---- what is left
pub none_escapes : NoneEscapes (last_epoch (log_in crash)) finish.core
unfolding damaged_look entries
none_escapes = record { seen = seen; named = named }
  where
    seen : (r : ℕ) (g : RegionState) → slice_get finish.core.regions r ≡ Some g → g.missed ≡ false
    seen zero g e = sym (ap (λ (z : RegionState). z.missed) (some_same e))
    seen (suc zero) g e = sym (ap (λ (z : RegionState). z.missed) (some_same e))
    seen (suc (suc r)) g e = absurd (cc)

    named : (r : ℕ) (g : RegionState) → slice_get finish.core.regions r ≡ Some g → g.sound < blocks_on r (last_epoch (log_in crash)).records → has (0 ∷ []) r ≡ true
    named zero g e h = refl
    named (suc zero) g e h = absurd (omega (arith, h))
    named (suc (suc r)) g e h = absurd (cc)

pub was_damaged : Damaged
unfolding damaged_look entries
was_damaged = record {
  finish = finish;
  crash = crash;
  trace = damage_trace;
  run = course_keeps (λ n. formatted) first_log (start formatted) finish damage first_files crash (start_runs formatted refl formatted_regions) damage_trace;
  log = refl;
  words = refl;
  stop = refl;
  batches = refl;
  escapes = none_escapes;
}
