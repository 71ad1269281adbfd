-- The worked run of a client that dies: transaction 2 is refused, 1 dies in its next operation, is claimed, given back, claimed again and taken
-- back, and ends; the store fails.
use Rattle.std.proofs.Common.{◌≡◌, ℕ, zero, suc, ◌≤◌, true, false, List, [], ◌∷◌, ◌++◌, Option, Some, None, refl, ap, sym, subst, ◌∙◌, arith, inl}
use Rattle.std.specs.FinMap.{get, empty, get-empty}
use Rattle.std.specs.Prelude.{is_some}
use Rattle.dali_lists.proofs.Options.{some_same}
use Rattle.dali_record.specs.declared.operations.Op.TheVariants.{ReviveCell}
use Rattle.dali_record.specs.declared.records.Record.TheVariants.{Format, Begin, Back, Ended}
use Rattle.dali_record.specs.Legal.{passes, rules_start}
use Rattle.dali_record.specs.Spelling.{IsBlock}
use Rattle.dali_record.proofs.Made.{made_is_block}
use Rattle.dali_access.specs.Index.Entries.{entries}
use Rattle.dali_region.specs.declared.Hold.{Hold}
use Rattle.dali_region.specs.State.{RegionState, touched, taken_back, dead, reading, writing}
use Rattle.dali_locks.specs.declared.mode.Mode.{Mode}
use Rattle.dali_locks.specs.declared.mode.Mode.TheVariants.{Shared, Exclusive}
use Rattle.dali_locks.specs.Locks.{lock_cmp, stronger_mode, IsConflict, IsOldestConflict}
use Rattle.dali_locks.proofs.Changes.{get-locks_with}
use Rattle.dali_att.specs.declared.state.State.TheVariants.{Live, Dead, Cleaning}
use Rattle.dali_att.specs.Table.{fresh_row}
use Rattle.dali_runs.specs.State.{TxnRow, state_of, hold_of}
use Rattle.dali_runs.specs.Steps.{begun, refused, in_state, back_logged, ended_logged, store_stopped, taken}
use Rattle.dali_runs.specs.Keeps.{with_system, Latches, IsFree, died}
use Rattle.dali_runs.specs.Flushes.{with_vault, faulted, read_failed}
use Rattle.dali_runs.specs.Courses.{Step, Begins, Refuses, Dies, Claims, GivesBack, Recovers, TakesBack, Ends, Takes, Faults, ReadFails, Stops, Moment, IsStepAt, IsCourse, CoreTraced}
use Rattle.dali_runs.specs.Worked.{small, first_log, first_vault, start, opening, touching, index_words, heap_words, stored, look, kill_cell, kill_entry, revive_cell, kills, abandoned, Abandoned, first_files}
use Rattle.dali_runs.proofs.Courses.{course_keeps, with_none}
use Rattle.dali_runs.proofs.Tables.{added}
use Rattle.dali_runs.proofs.Wholes.{slain}
use Rattle.dali_runs.proofs.RowStates.{begun_state, back_state, turned_state}
use Rattle.dali_runs.proofs.WholeSteps.{whole_course_keeps, load_is_whole}
use Rattle.dali_runs.proofs.Touching.{with_one, after_all, touches, join_traces, quiet_trace, trace_course}
use Rattle.dali_runs.proofs.Worked.{are_heap, stored_regions, start_runs, exclusive_covers, logging, at_look, at_kill_cell, cell_killed, live_killed, logs_by, logs_block, alive_by, kills_course}
use Rattle.dali_runs.specs.Run.{only}

-- ---- another transaction asks for the key
abbrev begun_2 : Moment
begun_2 = record { log = cell_killed.log ++ Begin 2 ∷ []; core = with_system cell_killed.core (begun cell_killed.core.system); audits = cell_killed.audits }

abbrev refused_2 : Moment
refused_2 = record { log = begun_2.log; core = with_system begun_2.core (refused begun_2.core.system 2 5 Shared 1); audits = begun_2.audits }

begins : IsStepAt cell_killed Begins begun_2
unfolding look kill_cell entries
begins = ((record { runs = refl; room = omega arith }, (refl, refl)), refl)

-- transaction 1 holds the key, and nobody else does
holds_key : get begun_2.core.system.locks (1, 5) ≡ Some Exclusive
holds_key = get-locks_with empty 1 5 Exclusive 1 5 ∙ ap (λ (o : Option Mode). Some (stronger_mode o Exclusive)) (get-empty lock_cmp (1, 5))

nobody_else : get begun_2.core.system.locks (0, 5) ≡ None
nobody_else = get-locks_with empty 1 5 Exclusive 0 5 ∙ get-empty lock_cmp (0, 5)

oldest : (u : ℕ) → IsConflict begun_2.core.system.locks 2 5 Shared u → 1 ≤ u
oldest zero way = absurd (let none : None ≡ Some way.mode = sym nobody_else ∙ way.holds in cc)
oldest (suc u) way = omega arith

in_the_way : IsOldestConflict begun_2.core.system.locks 2 5 Shared 1
in_the_way = record { conflict = record { other = refl; mode = Exclusive; holds = holds_key; clash = refl }; oldest = oldest }

refuses : IsStepAt begun_2 (Refuses 2 5 Shared 1) refused_2
refuses = ((ap (λ (row : Option TxnRow). is_some row) (added cell_killed.core.system.table 2 fresh_row 2), (in_the_way, omega arith), (refl, refl)), refl)

-- ---- the client of transaction 1 dies in an operation, and another client claims it, gives it back, and claims it again
abbrev at_death : RegionState
at_death = after_all (opening 1 kill_entry ((1, 2) ∷ [])) (touched at_look)

abbrev left_dead : Moment
left_dead = record { log = refused_2.log; core = died (with_one refused_2 0 at_death).core 1 (Some 0); audits = refused_2.audits }

abbrev claimed_first : Moment
claimed_first = record { log = left_dead.log; core = with_system left_dead.core (in_state left_dead.core.system 1 (Cleaning (Some 0))); audits = left_dead.audits }

abbrev given_back : Moment
given_back = record { log = claimed_first.log; core = with_system claimed_first.core (in_state claimed_first.core.system 1 (Dead (Some 0))); audits = claimed_first.audits }

abbrev claimed : Moment
claimed = record { log = given_back.log; core = with_system given_back.core (in_state given_back.core.system 1 (Cleaning (Some 0))); audits = given_back.audits }

live_refused : state_of refused_2.core.system 1 ≡ Some Live
live_refused = begun_state cell_killed.core.system 1 ∙ live_killed

-- the hold of the operation in which the client dies
abbrev death_hold : Hold
death_hold = writing 1 (reading kill_entry.read (index_words 1) (record { txn = 1; dead = false; read = 0; xor = 0; write = 0 }))

latches : Latches (with_one refused_2 0 at_death).core 1 false (Some 0)
unfolding look kill_cell kill_entry entries
latches = record { held = held; only = only }
  where
    held : (r : ℕ) → Some 0 ≡ Some r → (h : Hold) × (hold_of (with_one refused_2 0 at_death).core r ≡ Some h) × (h.txn ≡ 1) × (h.dead ≡ false)
    held r e = subst (λ q. (h : Hold) × (hold_of (with_one refused_2 0 at_death).core q ≡ Some h) × (h.txn ≡ 1) × (h.dead ≡ false)) (some_same e) (death_hold, refl, refl, refl)

    only : (r : ℕ) (h : Hold) → hold_of (with_one refused_2 0 at_death).core r ≡ Some h → h.txn ≡ 1 → h.dead ≡ false → Some 0 ≡ Some r
    only zero h e is d = refl
    only (suc zero) h e is d = absurd (cc)
    only (suc (suc r)) h e is d = absurd (cc)

dies : IsStepAt (with_one refused_2 0 at_death) (Dies 1 (Some 0)) left_dead
dies = ((record { lives = live_refused; latched = latches }, (refl, refl)), refl)

death_course : IsCourse refused_2 (touching 1 kill_entry ((1, 2) ∷ []) (Dies 1 (Some 0))) left_dead
unfolding look kill_cell kill_entry entries
death_course = touches refused_2 left_dead 1 kill_entry ((1, 2) ∷ []) (Dies 1 (Some 0)) (touched at_look) refl (alive_by _ Live live_refused refl) (refl, (((refl, refl), omega arith), (((refl, omega arith), omega arith), tt))) dies

state_dead : state_of left_dead.core.system 1 ≡ Some (Dead (Some 0))
state_dead = turned_state refused_2.core.system 1 Live (Dead (Some 0)) live_refused

state_claimed : state_of claimed_first.core.system 1 ≡ Some (Cleaning (Some 0))
state_claimed = turned_state left_dead.core.system 1 (Dead (Some 0)) (Cleaning (Some 0)) state_dead

state_given_back : state_of given_back.core.system 1 ≡ Some (Dead (Some 0))
state_given_back = turned_state claimed_first.core.system 1 (Cleaning (Some 0)) (Dead (Some 0)) state_claimed

state_claimed_again : state_of claimed.core.system 1 ≡ Some (Cleaning (Some 0))
state_claimed_again = turned_state given_back.core.system 1 (Dead (Some 0)) (Cleaning (Some 0)) state_given_back

claims_first : IsStepAt left_dead (Claims 1) claimed_first
claims_first = ((Some 0, state_dead, (refl, refl)), refl)

still : Latches claimed_first.core 1 true (Some 0)
unfolding look kill_cell kill_entry entries
still = record { held = held; only = only }
  where
    held : (r : ℕ) → Some 0 ≡ Some r → (h : Hold) × (hold_of claimed_first.core r ≡ Some h) × (h.txn ≡ 1) × (h.dead ≡ true)
    held r e = subst (λ q. (h : Hold) × (hold_of claimed_first.core q ≡ Some h) × (h.txn ≡ 1) × (h.dead ≡ true)) (some_same e) (slain death_hold, refl, refl, refl)

    only : (r : ℕ) (h : Hold) → hold_of claimed_first.core r ≡ Some h → h.txn ≡ 1 → h.dead ≡ true → Some 0 ≡ Some r
    only zero h e is d = refl
    only (suc zero) h e is d = absurd (cc)
    only (suc (suc r)) h e is d = absurd (cc)

idle : Latches claimed_first.core 1 false None
unfolding look kill_cell kill_entry entries
idle = record { held = λ r e. absurd (cc); only = only }
  where
    none_live : (h : Hold) → hold_of claimed_first.core 0 ≡ Some h → h.dead ≡ false → ⊥
    none_live h e d = let is : true ≡ h.dead = ap (λ (z : Hold). z.dead) (some_same e) in cc

    only : (r : ℕ) (h : Hold) → hold_of claimed_first.core r ≡ Some h → h.txn ≡ 1 → h.dead ≡ false → None ≡ Some r
    only zero h e is d = absurd (none_live h e d)
    only (suc zero) h e is d = absurd (cc)
    only (suc (suc r)) h e is d = absurd (cc)

gives_back : IsStepAt claimed_first (GivesBack 1 (Some 0)) given_back
gives_back = ((record { was = Some 0; claimed = state_claimed; left = still; idle = idle }, (refl, refl)), refl)

claims : IsStepAt given_back (Claims 1) claimed
claims = ((Some 0, state_given_back, (refl, refl)), refl)

-- ---- it is taken back
abbrev put_back : Moment
put_back = with_one claimed 0 (taken_back (dead at_death))

abbrev at_revive : RegionState
at_revive = after_all (opening 1 revive_cell ((8, 1) ∷ [])) (touched at_kill_cell)

abbrev revived : Moment
revived = logging put_back (Back 1 revive_cell) (back_logged put_back.core.system 1 revive_cell) 1 at_revive

takes : IsStepAt claimed (Recovers 0) put_back
unfolding look kill_cell kill_entry entries
takes = ((dead at_death, refl, record { hold = slain death_hold; at = refl; dead = refl; latched = Some 0; claimed = state_claimed_again }, (refl, refl)), refl)

is_revive : IsBlock revive_cell
unfolding revive_cell
is_revive = made_is_block (ReviveCell 1) 5 1 (heap_words 2) refl (omega arith) (omega arith) (are_heap 2 (omega arith))

revives : IsStepAt (with_one put_back 1 at_revive) (TakesBack 1 revive_cell) revived
unfolding look kill_cell kill_entry revive_cell entries
revives = (
  (
    at_revive,
    logs_block (with_one put_back 1 at_revive) (Back 1 revive_cell) revive_cell at_revive (Cleaning (Some 0)) state_claimed_again refl refl (omega arith, is_revive, refl) refl refl (exclusive_covers true) refl (record { hold = refl; reads = refl; sound = λ h. refl; stands = λ h. refl }),
    (refl, refl),
  ),
  refl,
)

revive_course : IsCourse put_back (touching 1 revive_cell ((8, 1) ∷ []) (TakesBack 1 revive_cell)) revived
unfolding look kill_cell kill_entry revive_cell entries
revive_course = touches put_back revived 1 revive_cell ((8, 1) ∷ []) (TakesBack 1 revive_cell) (touched at_kill_cell) refl (alive_by _ (Cleaning (Some 0)) state_claimed_again refl) (refl, (((refl, refl), omega arith), (((refl, omega arith), omega arith), tt))) revives

-- ---- it ends, and the store fails
abbrev ended : Moment
ended = record { log = revived.log ++ Ended 1 ∷ []; core = with_system revived.core (ended_logged revived.core.system 1); audits = revived.audits }

abbrev in_hand : Moment
in_hand = record { log = ended.log; core = with_system ended.core (taken ended.core.system); audits = ended.audits }

abbrev unread : Moment
unread = record { log = in_hand.log; core = with_vault in_hand.core (read_failed in_hand.core.vault 1); audits = in_hand.audits }

abbrev failed : Moment
failed = record { log = unread.log; core = with_vault unread.core (faulted unread.core.vault 2); audits = unread.audits }

abbrev finish : Moment
finish = record { log = failed.log; core = with_system failed.core (store_stopped failed.core.system); audits = failed.audits }

state_revived : state_of revived.core.system 1 ≡ Some (Cleaning (Some 0))
state_revived = back_state put_back.core.system 1 revive_cell 1 ∙ state_claimed_again

free : IsFree revived.core 1
unfolding look kill_cell kill_entry revive_cell entries
free zero h e = absurd (cc)
free (suc zero) h e = absurd (cc)
free (suc (suc r)) h e = absurd (cc)

ends : IsStepAt revived (Ends 1) ended
unfolding look kill_cell kill_entry revive_cell entries
ends = ((refl, (record { next = refl; by = logs_by _ (Cleaning (Some 0)) (Ended 1) state_revived refl }, free), (refl, refl)), refl)

takes_frame : IsStepAt ended Takes in_hand
takes_frame = ((refl, refl), refl)

fails_to_read : IsStepAt in_hand (ReadFails 1) unread
fails_to_read = ((inl (omega arith), (refl, refl)), refl)

fails : IsStepAt unread (Faults 2) failed
fails = ((refl, inl (omega arith), (refl, refl)), refl)

stops : IsStepAt failed Stops finish
stops = ((refl, (refl, refl)), refl)

-- ---- all of it
abbrev ending : List Step
ending = Ends 1 ∷ Takes ∷ ReadFails 1 ∷ Faults 2 ∷ Stops ∷ []

abbrev reviving : List Step
reviving = touching 1 revive_cell ((8, 1) ∷ []) (TakesBack 1 revive_cell) ++ ending

abbrev claiming : List Step
claiming = Claims 1 ∷ GivesBack 1 (Some 0) ∷ Claims 1 ∷ Recovers 0 ∷ reviving

abbrev dying : List Step
dying = touching 1 kill_entry ((1, 2) ∷ []) (Dies 1 (Some 0)) ++ claiming

abbrev left : Moment → List Step → Type 0
left m xs = CoreTraced m first_files xs finish first_files

revive_to_end : left put_back reviving
revive_to_end =
    join_traces put_back revived finish first_files first_files first_files (touching 1 revive_cell ((8, 1) ∷ []) (TakesBack 1 revive_cell)) ending
    (quiet_trace put_back revived (touching 1 revive_cell ((8, 1) ∷ []) (TakesBack 1 revive_cell)) first_files refl revive_course)
    (ended, first_files, ends, refl, (in_hand, first_files, takes_frame, refl, (unread, first_files, fails_to_read, refl, (failed, first_files, fails, inl refl, (finish, first_files, stops, refl, (refl, refl))))))

claim_trace : left left_dead claiming
claim_trace = (claimed_first, first_files, claims_first, refl, (given_back, first_files, gives_back, refl, (claimed, first_files, claims, refl, (put_back, first_files, takes, refl, revive_to_end))))

refuse_trace : left cell_killed (Begins ∷ Refuses 2 5 Shared 1 ∷ dying)
refuse_trace = (
  begun_2,
  first_files,
  begins,
  refl,
  (
    refused_2,
    first_files,
    refuses,
    refl,
    join_traces refused_2 left_dead finish first_files first_files first_files (touching 1 kill_entry ((1, 2) ∷ []) (Dies 1 (Some 0))) claiming
        (quiet_trace refused_2 left_dead (touching 1 kill_entry ((1, 2) ∷ []) (Dies 1 (Some 0))) first_files refl death_course)
        claim_trace,
  ),
)

abbrev refusing : List Step
refusing = Begins ∷ Refuses 2 5 Shared 1 ∷ dying

-- nothing of the batch is left
abandoned_trace : CoreTraced (start stored) first_files abandoned finish first_files
abandoned_trace =
    join_traces (start stored) cell_killed finish first_files first_files first_files kills refusing (quiet_trace (start stored) cell_killed kills first_files refl kills_course) refuse_trace

pub was_abandoned : Abandoned
unfolding look kill_cell kill_entry revive_cell entries
was_abandoned = record {
  finish = finish;
  trace = abandoned_trace;
  run = course_keeps (λ n. stored) first_log (start stored) finish abandoned first_files first_files (start_runs stored refl stored_regions) abandoned_trace;
  whole = whole_course_keeps (λ n. stored) first_log (start stored) finish abandoned (with_none (λ n. stored) first_log (only first_files) (start stored) (start_runs stored refl stored_regions)) (load_is_whole small stored (passes rules_start (Format 1 1)) 1000000 first_vault refl) (trace_course (start stored) finish first_files first_files abandoned abandoned_trace);
  log = refl;
  words = refl;
  refused = refl;
  stop = refl;
}
