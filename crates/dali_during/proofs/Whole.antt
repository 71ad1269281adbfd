-- The worked life: each premise of each step is met.
use Rattle.std.proofs.Common.{◌≡◌, ℕ, zero, suc, Bool, true, false, List, [], ◌∷◌, ◌++◌, Option, Some, None, refl, ap, sym, subst, ◌∙◌, arith}
use Rattle.std.specs.Prelude.{◌==◌, ◌&&◌, is_some, if◌then◌else◌}
use Rattle.std.specs.FinMap.{get, empty}
use Rattle.dali_lists.proofs.Options.{some_same}
use Rattle.dali_record.specs.declared.operations.Op.TheVariants.{Look, Put, FreeCell}
use Rattle.dali_record.specs.declared.records.Call.TheVariants.{Insert, Delete}
use Rattle.dali_record.specs.declared.records.Answer.TheVariants.{Ok as AnswerOk}
use Rattle.dali_record.specs.declared.records.Record.TheVariants.{Begin, Forward, Done, Commit, Ended, Solo, Back}
use Rattle.dali_record.specs.Spelling.{IsBlock}
use Rattle.dali_record.proofs.Made.{made_is_block}
use Rattle.dali_access.specs.Heap.Cells.{cells}
use Rattle.dali_access.specs.Index.Entries.{entries}
use Rattle.dali_region.specs.declared.Hold.{Hold}
use Rattle.dali_region.specs.State.{RegionState, touched, taken_back, dead, reading}
use Rattle.dali_locks.specs.declared.mode.Mode.{Mode}
use Rattle.dali_locks.specs.declared.mode.Mode.TheVariants.{Exclusive}
use Rattle.dali_locks.specs.Locks.{Locks, lock_cmp, IsFree as IsUnheld, stronger_mode, locks_with, locks_without}
use Rattle.dali_locks.proofs.Changes.{get-locks_with}
use Rattle.dali_att.specs.declared.state.State.TheVariants.{Live, Dead, Cleaning, Committed}
use Rattle.dali_att.specs.Table.{fresh_row}
use Rattle.dali_locks.proofs.Kept.{locks_without_at}
use Rattle.dali_runs.specs.State.{TxnRow, state_of, hold_of}
use Rattle.dali_runs.specs.Run.{covers}
use Rattle.dali_runs.specs.Steps.{begun, granted, back_logged, solo_logged, done_logged, commit_logged, ended_logged, in_state}
use Rattle.dali_runs.specs.Keeps.{with_system, died, IsFree, Latches}
use Rattle.dali_runs.specs.Courses.{Step, Begins, Operates, TakesBack, Frees, Answers, Commits, Ends, Locks as Asks, Dies, Claims, Recovers, Moment, IsStepAt, IsCourse}
use Rattle.dali_runs.specs.Worked.{opening, touching, index_words, heap_words, look as found, kill_cell, kill_entry, free_cell, free_entry}
use Rattle.dali_runs.proofs.Tables.{added}
use Rattle.dali_runs.proofs.Wholes.{slain}
use Rattle.dali_runs.proofs.RowStates.{begun_state, op_state, back_state, commit_state, turned_state}
use Rattle.dali_runs.proofs.Loads.{no_lock}
use Rattle.dali_runs.proofs.Touching.{join, with_one, after_all, touches}
use Rattle.dali_runs.proofs.Worked.{are_index, are_heap, logging, logs_by, alive_by, is_look as is_found, is_kill_cell, is_kill_entry, is_free_cell, is_free_entry, strongest}
use Rattle.dali_crash.specs.Worked.{look}
use Rattle.dali_crash.specs.Restarted.{put, add, put_writes, add_writes}
use Rattle.dali_during.specs.Whole.{look_free, put_again, unput, before_checkpoint}
use Rattle.dali_during.proofs.Gaps.{as_system, adding, operated, is_value, put_so_far_course, cell_put, add_course, entry_added, at_put, at_add, live_added, inserted, answers}

-- ---- locks: between transactions nobody holds any
abbrev NoneHeld : Locks → Type 0
NoneHeld l = (u k : ℕ) → get l (u, k) ≡ None

none_held : (l : Locks) (t k : ℕ) → NoneHeld l → NoneHeld (locks_without (locks_with l t k Exclusive) t)
none_held l t k free u j = locks_without_at (locks_with l t k Exclusive) t u j ∙ by_test (t == u) (get-locks_with l t k Exclusive u j)
  where
    by_test : (b : Bool) → get (locks_with l t k Exclusive) (u, j) ≡ (if b && (k == j) then Some (stronger_mode (get l (u, j)) Exclusive) else get l (u, j)) → (if b then None else get (locks_with l t k Exclusive) (u, j)) ≡ None
    by_test true e = refl
    by_test false e = e ∙ free u j

unheld : (l : Locks) (t k : ℕ) → NoneHeld l → IsUnheld l t k Exclusive
unheld l t k free u n d e = absurd (let no : None ≡ Some n = sym (free u k) ∙ e in cc)

held_by : (l : Locks) (t : ℕ) (d : Bool) → (t == t) ≡ true → covers (get (locks_with l t 5 Exclusive) (t, 5)) d ≡ true
held_by l t d same = ap (λ (o : Option Mode). covers o d) (get-locks_with l t 5 Exclusive t 5 ∙ ap (λ b. if b && (5 == 5) then Some (stronger_mode (get l (t, 5)) Exclusive) else get l (t, 5)) same) ∙ strongest (get l (t, 5)) d

-- ---- the blocks
is_look_free : IsBlock look_free
unfolding look_free
is_look_free = made_is_block Look 5 0 (index_words 0) tt (omega arith) (omega arith) (are_index 0 (omega arith))

is_put_again : IsBlock put_again
unfolding put_again
is_put_again = made_is_block (Put (0 ∷ [])) 5 1 (heap_words 0) is_value (omega arith) (omega arith) (are_heap 0 (omega arith))

is_unput : IsBlock unput
unfolding unput
is_unput = made_is_block (FreeCell 1) 5 1 (heap_words 1) refl (omega arith) (omega arith) (are_heap 1 (omega arith))

-- ---- the moments and the steps
free_first : (u k : ℕ) → get (empty {X = Mode} {R = lock_cmp}) (u, k) ≡ None
free_first u k = by_get (get (empty {X = Mode} {R = lock_cmp}) (u, k)) refl
  where
    by_get : (o : Option Mode) → get (empty {X = Mode} {R = lock_cmp}) (u, k) ≡ o → get (empty {X = Mode} {R = lock_cmp}) (u, k) ≡ None
    by_get None e = e
    by_get (Some m) e = absurd (no_lock u k m e)

abbrev m1 : Moment
m1 = adding inserted (Commit 1) (commit_logged inserted.core.system 1)

to_m1 : IsStepAt inserted (Commits 1) m1
unfolding look put add found kill_cell kill_entry free_cell free_entry look_free put_again unput entries cells
to_m1 = ((refl, record { next = refl; by = logs_by _ Live (Commit 1) live_added refl }, (refl, refl)), refl)

live_m1 : state_of m1.core.system 1 ≡ Some Committed
live_m1 = commit_state inserted.core.system 1 Live live_added

idle_m1 : IsFree m1.core 1
unfolding look put add found kill_cell kill_entry free_cell free_entry look_free put_again unput entries cells
idle_m1 zero h e = absurd (cc)
idle_m1 (suc zero) h e = absurd (cc)
idle_m1 (suc (suc r)) h e = absurd (cc)

abbrev m2 : Moment
m2 = adding m1 (Ended 1) (ended_logged m1.core.system 1)

to_m2 : IsStepAt m1 (Ends 1) m2
unfolding look put add found kill_cell kill_entry free_cell free_entry look_free put_again unput entries cells
to_m2 = ((refl, (record { next = refl; by = logs_by _ (Committed) (Ended 1) live_m1 refl }, idle_m1), (refl, refl)), refl)

abbrev m3 : Moment
m3 = adding m2 (Begin 2) (begun m2.core.system)

to_m3 : IsStepAt m2 (Begins) m3
unfolding look put add found kill_cell kill_entry free_cell free_entry look_free put_again unput entries cells
to_m3 = ((record { runs = refl; room = omega arith }, (refl, refl)), refl)

live_m3 : state_of m3.core.system 2 ≡ Some Live
unfolding look put add found kill_cell kill_entry free_cell free_entry look_free put_again unput entries cells
live_m3 = begun_state m2.core.system 2

some_m3 : is_some (get m3.core.system.table 2) ≡ true
some_m3 = ap (λ (row : Option TxnRow). is_some row) (added m2.core.system.table 2 fresh_row 2)

free_m3 : NoneHeld m3.core.system.locks
free_m3 = none_held _ 1 5 free_first

abbrev m4 : Moment
m4 = as_system m3 (granted m3.core.system 2 5 Exclusive)

to_m4 : IsStepAt m3 (Asks 2 5 Exclusive) m4
unfolding look put add found kill_cell kill_entry free_cell free_entry look_free put_again unput entries cells
to_m4 = ((some_m3, (unheld _ 2 5 free_m3), (refl, refl)), refl)

abbrev at_m5 : RegionState
at_m5 = after_all (opening 2 found []) (touched at_add)

abbrev m5 : Moment
m5 = operated m4 2 found 0 at_m5

to_m5 : IsStepAt (with_one m4 0 at_m5) (Operates 2 found) m5
unfolding look put add found kill_cell kill_entry free_cell free_entry look_free put_again unput entries cells
to_m5 = ((at_m5, record { runs = refl; room = omega arith }, record { runs = refl; spelled = (omega arith, is_found, refl); next = refl; by = logs_by _ Live (Forward 2 found) live_m3 refl; kind = refl; locked = held_by _ 2 false refl; at = refl; is_open = record { hold = refl; reads = refl; sound = λ h. refl; stands = λ h. refl } }, (refl, refl)), refl)

on_m5 : IsCourse m4 (touching 2 found [] (Operates 2 found)) m5
unfolding look put add found kill_cell kill_entry free_cell free_entry look_free put_again unput entries cells
on_m5 = touches m4 m5 2 found [] (Operates 2 found) (touched at_add) refl (alive_by _ Live live_m3 refl) (refl, (((refl, refl), omega arith), tt)) to_m5

live_m5 : state_of m5.core.system 2 ≡ Some (Live)
live_m5 = op_state m4.core.system 2 found 2 ∙ live_m3

abbrev at_m6 : RegionState
at_m6 = after_all (opening 2 kill_cell ((8, 2) ∷ [])) (touched at_put)

abbrev m6 : Moment
m6 = operated m5 2 kill_cell 1 at_m6

to_m6 : IsStepAt (with_one m5 1 at_m6) (Operates 2 kill_cell) m6
unfolding look put add found kill_cell kill_entry free_cell free_entry look_free put_again unput entries cells
to_m6 = ((at_m6, record { runs = refl; room = omega arith }, record { runs = refl; spelled = (omega arith, is_kill_cell, refl); next = refl; by = logs_by _ Live (Forward 2 kill_cell) live_m5 refl; kind = refl; locked = held_by _ 2 true refl; at = refl; is_open = record { hold = refl; reads = refl; sound = λ h. refl; stands = λ h. refl } }, (refl, refl)), refl)

on_m6 : IsCourse m5 (touching 2 kill_cell ((8, 2) ∷ []) (Operates 2 kill_cell)) m6
unfolding look put add found kill_cell kill_entry free_cell free_entry look_free put_again unput entries cells
on_m6 = touches m5 m6 2 kill_cell ((8, 2) ∷ []) (Operates 2 kill_cell) (touched at_put) refl (alive_by _ Live live_m5 refl) (refl, (((refl, refl), omega arith), (((refl, omega arith), omega arith), tt))) to_m6

live_m6 : state_of m6.core.system 2 ≡ Some (Live)
live_m6 = op_state m5.core.system 2 kill_cell 2 ∙ live_m5

abbrev at_m7 : RegionState
at_m7 = after_all (opening 2 kill_entry ((1, 2) ∷ [])) (touched at_m5)

abbrev m7 : Moment
m7 = operated m6 2 kill_entry 0 at_m7

to_m7 : IsStepAt (with_one m6 0 at_m7) (Operates 2 kill_entry) m7
unfolding look put add found kill_cell kill_entry free_cell free_entry look_free put_again unput entries cells
to_m7 = ((at_m7, record { runs = refl; room = omega arith }, record { runs = refl; spelled = (omega arith, is_kill_entry, refl); next = refl; by = logs_by _ Live (Forward 2 kill_entry) live_m6 refl; kind = refl; locked = held_by _ 2 true refl; at = refl; is_open = record { hold = refl; reads = refl; sound = λ h. refl; stands = λ h. refl } }, (refl, refl)), refl)

on_m7 : IsCourse m6 (touching 2 kill_entry ((1, 2) ∷ []) (Operates 2 kill_entry)) m7
unfolding look put add found kill_cell kill_entry free_cell free_entry look_free put_again unput entries cells
on_m7 = touches m6 m7 2 kill_entry ((1, 2) ∷ []) (Operates 2 kill_entry) (touched at_m5) refl (alive_by _ Live live_m6 refl) (refl, (((refl, refl), omega arith), (((refl, omega arith), omega arith), tt))) to_m7

live_m7 : state_of m7.core.system 2 ≡ Some (Live)
live_m7 = op_state m6.core.system 2 kill_entry 2 ∙ live_m6

abbrev m8 : Moment
m8 = adding m7 (Done 2 (Delete 5) AnswerOk) (done_logged m7.core.system 2 (Delete 5) AnswerOk)

to_m8 : IsStepAt m7 (Answers 2 (Delete 5) AnswerOk) m8
unfolding look put add found kill_cell kill_entry free_cell free_entry look_free put_again unput entries cells
to_m8 = ((record { runs = refl; room = omega arith }, (omega arith, omega arith, tt, refl), record { next = refl; by = logs_by _ Live (Done 2 (Delete 5) AnswerOk) live_m7 refl }, (refl, refl)), refl)

abbrev m9 : Moment
m9 = adding m8 (Commit 2) (commit_logged m8.core.system 2)

to_m9 : IsStepAt m8 (Commits 2) m9
unfolding look put add found kill_cell kill_entry free_cell free_entry look_free put_again unput entries cells
to_m9 = ((refl, record { next = refl; by = logs_by _ Live (Commit 2) live_m7 refl }, (refl, refl)), refl)

live_m9 : state_of m9.core.system 2 ≡ Some Committed
live_m9 = commit_state m8.core.system 2 Live live_m7

abbrev at_m10 : RegionState
at_m10 = after_all (opening 2 free_cell ((8, 0) ∷ [])) (touched at_m6)

abbrev m10 : Moment
m10 = logging m9 (Solo 3 2 free_cell) (solo_logged m9.core.system 2 free_cell) 1 at_m10

to_m10 : IsStepAt (with_one m9 1 at_m10) (Frees 2 free_cell) m10
unfolding look put add found kill_cell kill_entry free_cell free_entry look_free put_again unput entries cells
to_m10 = ((at_m10, record { runs = refl; spelled = (omega arith, omega arith, is_free_cell, refl); next = refl; by = logs_by _ Committed (Solo 3 2 free_cell) live_m9 refl; kind = refl; locked = held_by _ 2 true refl; at = refl; is_open = record { hold = refl; reads = refl; sound = λ h. refl; stands = λ h. refl } }, (refl, refl)), refl)

on_m10 : IsCourse m9 (touching 2 free_cell ((8, 0) ∷ []) (Frees 2 free_cell)) m10
unfolding look put add found kill_cell kill_entry free_cell free_entry look_free put_again unput entries cells
on_m10 = touches m9 m10 2 free_cell ((8, 0) ∷ []) (Frees 2 free_cell) (touched at_m6) refl (alive_by _ Committed live_m9 refl) (refl, (((refl, refl), omega arith), (((refl, omega arith), omega arith), tt))) to_m10

abbrev at_m11 : RegionState
at_m11 = after_all (opening 2 free_entry ((1, 0) ∷ [])) (touched at_m7)

abbrev m11 : Moment
m11 = logging m10 (Solo 4 2 free_entry) (solo_logged m10.core.system 2 free_entry) 0 at_m11

to_m11 : IsStepAt (with_one m10 0 at_m11) (Frees 2 free_entry) m11
unfolding look put add found kill_cell kill_entry free_cell free_entry look_free put_again unput entries cells
to_m11 = ((at_m11, record { runs = refl; spelled = (omega arith, omega arith, is_free_entry, refl); next = refl; by = logs_by _ Committed (Solo 4 2 free_entry) live_m9 refl; kind = refl; locked = held_by _ 2 true refl; at = refl; is_open = record { hold = refl; reads = refl; sound = λ h. refl; stands = λ h. refl } }, (refl, refl)), refl)

on_m11 : IsCourse m10 (touching 2 free_entry ((1, 0) ∷ []) (Frees 2 free_entry)) m11
unfolding look put add found kill_cell kill_entry free_cell free_entry look_free put_again unput entries cells
on_m11 = touches m10 m11 2 free_entry ((1, 0) ∷ []) (Frees 2 free_entry) (touched at_m7) refl (alive_by _ Committed live_m9 refl) (refl, (((refl, refl), omega arith), (((refl, omega arith), omega arith), tt))) to_m11

idle_m11 : IsFree m11.core 2
unfolding look put add found kill_cell kill_entry free_cell free_entry look_free put_again unput entries cells
idle_m11 zero h e = absurd (cc)
idle_m11 (suc zero) h e = absurd (cc)
idle_m11 (suc (suc r)) h e = absurd (cc)

abbrev m12 : Moment
m12 = adding m11 (Ended 2) (ended_logged m11.core.system 2)

to_m12 : IsStepAt m11 (Ends 2) m12
unfolding look put add found kill_cell kill_entry free_cell free_entry look_free put_again unput entries cells
to_m12 = ((refl, (record { next = refl; by = logs_by _ (Committed) (Ended 2) live_m9 refl }, idle_m11), (refl, refl)), refl)

abbrev m13 : Moment
m13 = adding m12 (Begin 5) (begun m12.core.system)

to_m13 : IsStepAt m12 (Begins) m13
unfolding look put add found kill_cell kill_entry free_cell free_entry look_free put_again unput entries cells
to_m13 = ((record { runs = refl; room = omega arith }, (refl, refl)), refl)

live_m13 : state_of m13.core.system 5 ≡ Some Live
unfolding look put add found kill_cell kill_entry free_cell free_entry look_free put_again unput entries cells
live_m13 = begun_state m12.core.system 5

some_m13 : is_some (get m13.core.system.table 5) ≡ true
some_m13 = ap (λ (row : Option TxnRow). is_some row) (added m12.core.system.table 5 fresh_row 5)

free_m13 : NoneHeld m13.core.system.locks
free_m13 = none_held _ 2 5 free_m3

abbrev m14 : Moment
m14 = as_system m13 (granted m13.core.system 5 5 Exclusive)

to_m14 : IsStepAt m13 (Asks 5 5 Exclusive) m14
unfolding look put add found kill_cell kill_entry free_cell free_entry look_free put_again unput entries cells
to_m14 = ((some_m13, (unheld _ 5 5 free_m13), (refl, refl)), refl)

abbrev at_m15 : RegionState
at_m15 = after_all (opening 5 look_free []) (touched at_m11)

abbrev m15 : Moment
m15 = operated m14 5 look_free 0 at_m15

to_m15 : IsStepAt (with_one m14 0 at_m15) (Operates 5 look_free) m15
unfolding look put add found kill_cell kill_entry free_cell free_entry look_free put_again unput entries cells
to_m15 = ((at_m15, record { runs = refl; room = omega arith }, record { runs = refl; spelled = (omega arith, is_look_free, refl); next = refl; by = logs_by _ Live (Forward 5 look_free) live_m13 refl; kind = refl; locked = held_by _ 5 false refl; at = refl; is_open = record { hold = refl; reads = refl; sound = λ h. refl; stands = λ h. refl } }, (refl, refl)), refl)

on_m15 : IsCourse m14 (touching 5 look_free [] (Operates 5 look_free)) m15
unfolding look put add found kill_cell kill_entry free_cell free_entry look_free put_again unput entries cells
on_m15 = touches m14 m15 5 look_free [] (Operates 5 look_free) (touched at_m11) refl (alive_by _ Live live_m13 refl) (refl, (((refl, refl), omega arith), tt)) to_m15

live_m15 : state_of m15.core.system 5 ≡ Some (Live)
live_m15 = op_state m14.core.system 5 look_free 5 ∙ live_m13

abbrev at_m16 : RegionState
at_m16 = after_all (opening 5 put_again put_writes) (touched at_m10)

abbrev m16 : Moment
m16 = operated m15 5 put_again 1 at_m16

to_m16 : IsStepAt (with_one m15 1 at_m16) (Operates 5 put_again) m16
unfolding look put add found kill_cell kill_entry free_cell free_entry look_free put_again unput entries cells
to_m16 = ((at_m16, record { runs = refl; room = omega arith }, record { runs = refl; spelled = (omega arith, is_put_again, refl); next = refl; by = logs_by _ Live (Forward 5 put_again) live_m15 refl; kind = refl; locked = held_by _ 5 true refl; at = refl; is_open = record { hold = refl; reads = refl; sound = λ h. refl; stands = λ h. refl } }, (refl, refl)), refl)

on_m16 : IsCourse m15 (touching 5 put_again put_writes (Operates 5 put_again)) m16
unfolding look put add found kill_cell kill_entry free_cell free_entry look_free put_again unput entries cells
on_m16 = touches m15 m16 5 put_again put_writes (Operates 5 put_again) (touched at_m10) refl (alive_by _ Live live_m15 refl) (refl, (((refl, refl), omega arith), (((refl, omega arith), omega arith), (((refl, omega arith), omega arith), (((refl, omega arith), omega arith), (((refl, omega arith), omega arith), (((refl, omega arith), omega arith), (((refl, omega arith), omega arith), (((refl, omega arith), omega arith), (((refl, omega arith), omega arith), tt)))))))))) to_m16

live_m16 : state_of m16.core.system 5 ≡ Some (Live)
live_m16 = op_state m15.core.system 5 put_again 5 ∙ live_m15

abbrev at_m17 : RegionState
at_m17 = after_all (opening 5 unput ((8, 0) ∷ [])) (touched at_m16)

abbrev m17 : Moment
m17 = logging m16 (Back 5 unput) (back_logged m16.core.system 5 unput) 1 at_m17

to_m17 : IsStepAt (with_one m16 1 at_m17) (TakesBack 5 unput) m17
unfolding look put add found kill_cell kill_entry free_cell free_entry look_free put_again unput entries cells
to_m17 = ((at_m17, record { runs = refl; spelled = (omega arith, is_unput, refl); next = refl; by = logs_by _ Live (Back 5 unput) live_m16 refl; kind = refl; locked = held_by _ 5 true refl; at = refl; is_open = record { hold = refl; reads = refl; sound = λ h. refl; stands = λ h. refl } }, (refl, refl)), refl)

on_m17 : IsCourse m16 (touching 5 unput ((8, 0) ∷ []) (TakesBack 5 unput)) m17
unfolding look put add found kill_cell kill_entry free_cell free_entry look_free put_again unput entries cells
on_m17 = touches m16 m17 5 unput ((8, 0) ∷ []) (TakesBack 5 unput) (touched at_m16) refl (alive_by _ Live live_m16 refl) (refl, (((refl, refl), omega arith), (((refl, omega arith), omega arith), tt))) to_m17

live_m17 : state_of m17.core.system 5 ≡ Some (Live)
live_m17 = back_state m16.core.system 5 unput 5 ∙ live_m16

idle_m17 : IsFree m17.core 5
unfolding look put add found kill_cell kill_entry free_cell free_entry look_free put_again unput entries cells
idle_m17 zero h e = absurd (cc)
idle_m17 (suc zero) h e = absurd (cc)
idle_m17 (suc (suc r)) h e = absurd (cc)

abbrev m18 : Moment
m18 = adding m17 (Ended 5) (ended_logged m17.core.system 5)

to_m18 : IsStepAt m17 (Ends 5) m18
unfolding look put add found kill_cell kill_entry free_cell free_entry look_free put_again unput entries cells
to_m18 = ((refl, (record { next = refl; by = logs_by _ (Live) (Ended 5) live_m17 refl }, idle_m17), (refl, refl)), refl)

abbrev m19 : Moment
m19 = adding m18 (Begin 6) (begun m18.core.system)

to_m19 : IsStepAt m18 (Begins) m19
unfolding look put add found kill_cell kill_entry free_cell free_entry look_free put_again unput entries cells
to_m19 = ((record { runs = refl; room = omega arith }, (refl, refl)), refl)

live_m19 : state_of m19.core.system 6 ≡ Some Live
unfolding look put add found kill_cell kill_entry free_cell free_entry look_free put_again unput entries cells
live_m19 = begun_state m18.core.system 6

abbrev at_death : RegionState
at_death = after_all (opening 6 look_free []) (touched at_m15)

abbrev left_dead : Moment
left_dead = record { log = m19.log; core = died (with_one m19 0 at_death).core 6 (Some 0); audits = m19.audits }

abbrev death_hold : Hold
death_hold = reading look_free.read (index_words 0) (record { txn = 6; dead = false; read = 0; xor = 0; write = 0 })

latches : Latches (with_one m19 0 at_death).core 6 false (Some 0)
unfolding look put add found kill_cell kill_entry free_cell free_entry look_free put_again unput entries cells
latches = record { held = held; only = only }
  where
    held : (r : ℕ) → Some 0 ≡ Some r → (h : Hold) × (hold_of (with_one m19 0 at_death).core r ≡ Some h) × (h.txn ≡ 6) × (h.dead ≡ false)
    held r e = subst (λ q. (h : Hold) × (hold_of (with_one m19 0 at_death).core q ≡ Some h) × (h.txn ≡ 6) × (h.dead ≡ false)) (some_same e) (death_hold, refl, refl, refl)

    only : (r : ℕ) (h : Hold) → hold_of (with_one m19 0 at_death).core r ≡ Some h → h.txn ≡ 6 → h.dead ≡ false → Some 0 ≡ Some r
    only zero h e is d = refl
    only (suc zero) h e is d = absurd (cc)
    only (suc (suc r)) h e is d = absurd (cc)

to_left_dead : IsStepAt (with_one m19 0 at_death) (Dies 6 (Some 0)) left_dead
unfolding look put add found kill_cell kill_entry free_cell free_entry look_free put_again unput entries cells
to_left_dead = ((record { lives = live_m19; latched = latches }, (refl, refl)), refl)

on_left_dead : IsCourse m19 (touching 6 look_free [] (Dies 6 (Some 0))) left_dead
unfolding look put add found kill_cell kill_entry free_cell free_entry look_free put_again unput entries cells
on_left_dead = touches m19 left_dead 6 look_free [] (Dies 6 (Some 0)) (touched at_m15) refl (alive_by _ Live live_m19 refl) (refl, (((refl, refl), omega arith), tt)) to_left_dead

state_dead : state_of left_dead.core.system 6 ≡ Some (Dead (Some 0))
state_dead = turned_state m19.core.system 6 Live (Dead (Some 0)) live_m19

abbrev m20 : Moment
m20 = record { log = left_dead.log; core = with_system left_dead.core (in_state left_dead.core.system 6 (Cleaning (Some 0))); audits = left_dead.audits }

to_m20 : IsStepAt left_dead (Claims 6) m20
unfolding look put add found kill_cell kill_entry free_cell free_entry look_free put_again unput entries cells
to_m20 = ((Some 0, state_dead, (refl, refl)), refl)

state_claimed : state_of m20.core.system 6 ≡ Some (Cleaning (Some 0))
state_claimed = turned_state left_dead.core.system 6 (Dead (Some 0)) (Cleaning (Some 0)) state_dead

abbrev m21 : Moment
m21 = with_one m20 0 (taken_back (dead at_death))

to_m21 : IsStepAt m20 (Recovers 0) m21
unfolding look put add found kill_cell kill_entry free_cell free_entry look_free put_again unput entries cells
to_m21 = ((dead at_death, refl, record { hold = slain death_hold; at = refl; dead = refl; latched = Some 0; claimed = state_claimed }, (refl, refl)), refl)

idle_m21 : IsFree m21.core 6
unfolding look put add found kill_cell kill_entry free_cell free_entry look_free put_again unput entries cells
idle_m21 zero h e = absurd (cc)
idle_m21 (suc zero) h e = absurd (cc)
idle_m21 (suc (suc r)) h e = absurd (cc)

abbrev m22 : Moment
m22 = adding m21 (Ended 6) (ended_logged m21.core.system 6)

to_m22 : IsStepAt m21 (Ends 6) m22
unfolding look put add found kill_cell kill_entry free_cell free_entry look_free put_again unput entries cells
to_m22 = ((refl, (record { next = refl; by = logs_by _ (Cleaning (Some 0)) (Ended 6) state_claimed refl }, idle_m21), (refl, refl)), refl)

abbrev pub ready : Moment
ready = m22

abbrev pub index_now : RegionState
index_now = (taken_back (dead at_death))

abbrev pub heap_now : RegionState
heap_now = (touched at_m17)

-- ---- all of them
abbrev steps_23 : List Step
steps_23 = []

from_23 : IsCourse m22 steps_23 m22
from_23 = refl

abbrev steps_22 : List Step
steps_22 = (Ends 6 ∷ []) ++ steps_23

from_22 : IsCourse m21 steps_22 m22
from_22 = join m21 m22 m22 (Ends 6 ∷ []) steps_23 (m22, to_m22, refl) from_23

abbrev steps_21 : List Step
steps_21 = (Recovers 0 ∷ []) ++ steps_22

from_21 : IsCourse m20 steps_21 m22
from_21 = join m20 m21 m22 (Recovers 0 ∷ []) steps_22 (m21, to_m21, refl) from_22

abbrev steps_20 : List Step
steps_20 = (Claims 6 ∷ []) ++ steps_21

from_20 : IsCourse left_dead steps_20 m22
from_20 = join left_dead m20 m22 (Claims 6 ∷ []) steps_21 (m20, to_m20, refl) from_21

abbrev steps_19 : List Step
steps_19 = touching 6 look_free [] (Dies 6 (Some 0)) ++ steps_20

from_19 : IsCourse m19 steps_19 m22
from_19 = join m19 left_dead m22 (touching 6 look_free [] (Dies 6 (Some 0))) steps_20 on_left_dead from_20

abbrev steps_18 : List Step
steps_18 = (Begins ∷ []) ++ steps_19

from_18 : IsCourse m18 steps_18 m22
from_18 = join m18 m19 m22 (Begins ∷ []) steps_19 (m19, to_m19, refl) from_19

abbrev steps_17 : List Step
steps_17 = (Ends 5 ∷ []) ++ steps_18

from_17 : IsCourse m17 steps_17 m22
from_17 = join m17 m18 m22 (Ends 5 ∷ []) steps_18 (m18, to_m18, refl) from_18

abbrev steps_16 : List Step
steps_16 = touching 5 unput ((8, 0) ∷ []) (TakesBack 5 unput) ++ steps_17

from_16 : IsCourse m16 steps_16 m22
from_16 = join m16 m17 m22 (touching 5 unput ((8, 0) ∷ []) (TakesBack 5 unput)) steps_17 on_m17 from_17

abbrev steps_15 : List Step
steps_15 = touching 5 put_again put_writes (Operates 5 put_again) ++ steps_16

from_15 : IsCourse m15 steps_15 m22
from_15 = join m15 m16 m22 (touching 5 put_again put_writes (Operates 5 put_again)) steps_16 on_m16 from_16

abbrev steps_14 : List Step
steps_14 = touching 5 look_free [] (Operates 5 look_free) ++ steps_15

from_14 : IsCourse m14 steps_14 m22
from_14 = join m14 m15 m22 (touching 5 look_free [] (Operates 5 look_free)) steps_15 on_m15 from_15

abbrev steps_13 : List Step
steps_13 = (Asks 5 5 Exclusive ∷ []) ++ steps_14

from_13 : IsCourse m13 steps_13 m22
from_13 = join m13 m14 m22 (Asks 5 5 Exclusive ∷ []) steps_14 (m14, to_m14, refl) from_14

abbrev steps_12 : List Step
steps_12 = (Begins ∷ []) ++ steps_13

from_12 : IsCourse m12 steps_12 m22
from_12 = join m12 m13 m22 (Begins ∷ []) steps_13 (m13, to_m13, refl) from_13

abbrev steps_11 : List Step
steps_11 = (Ends 2 ∷ []) ++ steps_12

from_11 : IsCourse m11 steps_11 m22
from_11 = join m11 m12 m22 (Ends 2 ∷ []) steps_12 (m12, to_m12, refl) from_12

abbrev steps_10 : List Step
steps_10 = touching 2 free_entry ((1, 0) ∷ []) (Frees 2 free_entry) ++ steps_11

from_10 : IsCourse m10 steps_10 m22
from_10 = join m10 m11 m22 (touching 2 free_entry ((1, 0) ∷ []) (Frees 2 free_entry)) steps_11 on_m11 from_11

abbrev steps_9 : List Step
steps_9 = touching 2 free_cell ((8, 0) ∷ []) (Frees 2 free_cell) ++ steps_10

from_9 : IsCourse m9 steps_9 m22
from_9 = join m9 m10 m22 (touching 2 free_cell ((8, 0) ∷ []) (Frees 2 free_cell)) steps_10 on_m10 from_10

abbrev steps_8 : List Step
steps_8 = (Commits 2 ∷ []) ++ steps_9

from_8 : IsCourse m8 steps_8 m22
from_8 = join m8 m9 m22 (Commits 2 ∷ []) steps_9 (m9, to_m9, refl) from_9

abbrev steps_7 : List Step
steps_7 = (Answers 2 (Delete 5) AnswerOk ∷ []) ++ steps_8

from_7 : IsCourse m7 steps_7 m22
from_7 = join m7 m8 m22 (Answers 2 (Delete 5) AnswerOk ∷ []) steps_8 (m8, to_m8, refl) from_8

abbrev steps_6 : List Step
steps_6 = touching 2 kill_entry ((1, 2) ∷ []) (Operates 2 kill_entry) ++ steps_7

from_6 : IsCourse m6 steps_6 m22
from_6 = join m6 m7 m22 (touching 2 kill_entry ((1, 2) ∷ []) (Operates 2 kill_entry)) steps_7 on_m7 from_7

abbrev steps_5 : List Step
steps_5 = touching 2 kill_cell ((8, 2) ∷ []) (Operates 2 kill_cell) ++ steps_6

from_5 : IsCourse m5 steps_5 m22
from_5 = join m5 m6 m22 (touching 2 kill_cell ((8, 2) ∷ []) (Operates 2 kill_cell)) steps_6 on_m6 from_6

abbrev steps_4 : List Step
steps_4 = touching 2 found [] (Operates 2 found) ++ steps_5

from_4 : IsCourse m4 steps_4 m22
from_4 = join m4 m5 m22 (touching 2 found [] (Operates 2 found)) steps_5 on_m5 from_5

abbrev steps_3 : List Step
steps_3 = (Asks 2 5 Exclusive ∷ []) ++ steps_4

from_3 : IsCourse m3 steps_3 m22
from_3 = join m3 m4 m22 (Asks 2 5 Exclusive ∷ []) steps_4 (m4, to_m4, refl) from_4

abbrev steps_2 : List Step
steps_2 = (Begins ∷ []) ++ steps_3

from_2 : IsCourse m2 steps_2 m22
from_2 = join m2 m3 m22 (Begins ∷ []) steps_3 (m3, to_m3, refl) from_3

abbrev steps_1 : List Step
steps_1 = (Ends 1 ∷ []) ++ steps_2

from_1 : IsCourse m1 steps_1 m22
from_1 = join m1 m2 m22 (Ends 1 ∷ []) steps_2 (m2, to_m2, refl) from_2

abbrev steps_0 : List Step
steps_0 = (Commits 1 ∷ []) ++ steps_1

from_0 : IsCourse inserted steps_0 m22
from_0 = join inserted m1 m22 (Commits 1 ∷ []) steps_1 (m1, to_m1, refl) from_1

abbrev added_on : List Step
added_on = touching 1 add add_writes (Operates 1 add) ++ Answers 1 (Insert 5 (0 ∷ [])) AnswerOk ∷ steps_0

pub course_before : IsCourse Rattle.dali_during.proofs.Gaps.first before_checkpoint ready
course_before =
    join Rattle.dali_during.proofs.Gaps.first cell_put ready Rattle.dali_during.specs.Gaps.put_so_far added_on put_so_far_course
    (join cell_put entry_added ready (touching 1 add add_writes (Operates 1 add)) (Answers 1 (Insert 5 (0 ∷ [])) AnswerOk ∷ steps_0) add_course (inserted, answers, from_0))
