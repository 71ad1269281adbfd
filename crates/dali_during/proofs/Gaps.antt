-- The worked runs that are cut off: each premise of each step is met, and the key has its gap.
use Rattle.std.proofs.Common.{◌≡◌, ℕ, zero, suc, ◌<◌, true, false, List, [], ◌∷◌, ◌++◌, Option, Some, refl, ap, ◌∙◌, arith}
use Rattle.std.specs.Prelude.{is_some, replicate}
use Rattle.std.specs.List.{All}
use Rattle.dali_geometry.specs.Places.{formatted_image}
use Rattle.dali_record.specs.declared.operations.Block.{Block}
use Rattle.dali_record.specs.declared.operations.Op.TheVariants.{Look, Put, Add, KillCell}
use Rattle.dali_record.specs.declared.records.Call.TheVariants.{Insert}
use Rattle.dali_record.specs.declared.records.Answer.TheVariants.{Ok as AnswerOk}
use Rattle.dali_record.specs.declared.records.Record.{Record}
use Rattle.dali_record.specs.declared.records.Record.TheVariants.{Begin, Forward, Done}
use Rattle.dali_words.specs.Words.{AreWords}
use Rattle.dali_record.specs.Spelling.{IsBlock}
use Rattle.dali_record.proofs.Made.{made_is_block}
use Rattle.dali_words.specs.Values.{IsValue}
use Rattle.dali_access.specs.Heap.Cells.{cells}
use Rattle.dali_access.specs.Index.Entries.{entries}
use Rattle.dali_region.specs.State.{RegionState, loaded, touched}
use Rattle.dali_locks.specs.declared.mode.Mode.TheVariants.{Exclusive}
use Rattle.dali_att.specs.Table.{fresh_row}
use Rattle.dali_runs.specs.State.{TxnRow, SystemState, state_of}
use Rattle.dali_att.specs.declared.state.State.TheVariants.{Live}
use Rattle.dali_runs.proofs.RowStates.{begun_state, op_state}
use Rattle.dali_runs.specs.Steps.{begun, granted, op_logged, done_logged}
use Rattle.dali_runs.specs.Keeps.{with_system}
use Rattle.dali_runs.specs.Courses.{Step, Begins, Operates, Answers, Locks as Asks, Moment, IsStepAt, IsCourse}
use Rattle.dali_runs.specs.Worked.{small, start, opening, touching, index_words, heap_words, look as found, kill_cell}
use Rattle.dali_runs.proofs.Loads.{no_lock}
use Rattle.dali_runs.proofs.Tables.{added}
use Rattle.dali_runs.proofs.Touching.{join, with_one, after_all, touches}
use Rattle.dali_runs.proofs.Worked.{are_index, are_heap, exclusive_covers, logging, logs_by, alive_by}
use Rattle.dali_crash.specs.Worked.{look}
use Rattle.dali_crash.specs.Restarted.{put, add, put_writes, add_writes}
use Rattle.dali_during.specs.Gaps.{put_so_far, killed_so_far}

-- ---- the moments
abbrev pub first : Moment
first = start (formatted_image small)

abbrev pub as_system : Moment → SystemState → Moment
as_system m y = record { log = m.log; core = with_system m.core y; audits = m.audits }

abbrev pub adding : Moment → Record → SystemState → Moment
adding m x y = record { log = m.log ++ x ∷ []; core = with_system m.core y; audits = m.audits }

abbrev pub begun_1 : Moment
begun_1 = adding first (Begin 1) (begun first.core.system)

abbrev pub locked : Moment
locked = as_system begun_1 (granted begun_1.core.system 1 5 Exclusive)

abbrev pub operated : Moment → ℕ → Block → ℕ → RegionState → Moment
operated m t b r g = logging m (Forward t b) (op_logged m.core.system t b) r g

abbrev pub at_look : RegionState
at_look = after_all (opening 1 look []) (loaded (replicate 64 0))

abbrev pub looked : Moment
looked = operated locked 1 look 0 at_look

abbrev pub at_put : RegionState
at_put = after_all (opening 1 put put_writes) (loaded (1 ∷ replicate 63 0))

abbrev pub cell_put : Moment
cell_put = operated looked 1 put 1 at_put

abbrev pub at_add : RegionState
at_add = after_all (opening 1 add add_writes) (touched at_look)

abbrev pub entry_added : Moment
entry_added = operated cell_put 1 add 0 at_add

abbrev pub inserted : Moment
inserted = adding entry_added (Done 1 (Insert 5 (0 ∷ [])) AnswerOk) (done_logged entry_added.core.system 1 (Insert 5 (0 ∷ [])) AnswerOk)

abbrev pub at_found : RegionState
at_found = after_all (opening 1 found []) (touched at_add)

abbrev pub found_again : Moment
found_again = operated inserted 1 found 0 at_found

abbrev pub at_kill_cell : RegionState
at_kill_cell = after_all (opening 1 kill_cell ((8, 2) ∷ [])) (touched at_put)

abbrev pub cell_killed : Moment
cell_killed = operated found_again 1 kill_cell 1 at_kill_cell

-- ---- transaction 1 is live
pub live_locked : state_of locked.core.system 1 ≡ Some Live
live_locked = begun_state first.core.system 1

pub live_looked : state_of looked.core.system 1 ≡ Some Live
live_looked = op_state locked.core.system 1 look 1 ∙ live_locked

pub live_put : state_of cell_put.core.system 1 ≡ Some Live
live_put = op_state looked.core.system 1 put 1 ∙ live_looked

pub live_added : state_of entry_added.core.system 1 ≡ Some Live
live_added = op_state cell_put.core.system 1 add 1 ∙ live_put

live_inserted : state_of inserted.core.system 1 ≡ Some Live
live_inserted = live_added

live_found : state_of found_again.core.system 1 ≡ Some Live
live_found = op_state inserted.core.system 1 found 1 ∙ live_inserted

-- ---- the blocks
are_zeros : AreWords (replicate 64 0)
are_zeros = (refl, omega arith)

are_empty : AreWords (1 ∷ replicate 63 0)
are_empty = (refl, omega arith)

byte : All (λ b. b < 256) (0 ∷ [])
byte zero d h = omega arith
byte (suc k) d h = absurd (omega (arith, h))

pub is_value : IsValue (0 ∷ [])
is_value = (refl, byte)

pub is_look_block : IsBlock look
unfolding look
is_look_block = made_is_block Look 5 0 (replicate 64 0) tt (omega arith) (omega arith) are_zeros

pub is_put_block : IsBlock put
unfolding put
is_put_block = made_is_block (Put (0 ∷ [])) 5 1 (1 ∷ replicate 63 0) is_value (omega arith) (omega arith) are_empty

pub is_add_block : IsBlock add
unfolding add
is_add_block = made_is_block (Add 9) 5 0 (replicate 64 0) (omega arith) (omega arith) (omega arith) are_zeros

is_found_block : IsBlock found
unfolding found
is_found_block = made_is_block Look 5 0 (index_words 1) tt (omega arith) (omega arith) (are_index 1 (omega arith))

is_kill_block : IsBlock kill_cell
unfolding kill_cell
is_kill_block = made_is_block (KillCell 1) 5 1 (heap_words 1) refl (omega arith) (omega arith) (are_heap 1 (omega arith))

-- ---- the steps
begins : IsStepAt first Begins begun_1
begins = ((record { runs = refl; room = omega arith }, (refl, refl)), refl)

asks : IsStepAt begun_1 (Asks 1 5 Exclusive) locked
asks = ((ap (λ (row : Option TxnRow). is_some row) (added first.core.system.table 1 fresh_row 1), (λ u n d e. absurd (no_lock u 5 n e)), (refl, refl)), refl)

looks : IsStepAt (with_one locked 0 at_look) (Operates 1 look) looked
unfolding look entries
looks = ((at_look, record { runs = refl; room = omega arith }, record { runs = refl; spelled = (omega arith, is_look_block, refl); next = refl; by = logs_by _ Live (Forward 1 look) live_locked refl; kind = refl; locked = exclusive_covers false; at = refl; is_open = record { hold = refl; reads = refl; sound = λ h. refl; stands = λ h. refl } }, (refl, refl)), refl)

puts : IsStepAt (with_one looked 1 at_put) (Operates 1 put) cell_put
unfolding look put entries cells
puts = ((at_put, record { runs = refl; room = omega arith }, record { runs = refl; spelled = (omega arith, is_put_block, refl); next = refl; by = logs_by _ Live (Forward 1 put) live_looked refl; kind = refl; locked = exclusive_covers true; at = refl; is_open = record { hold = refl; reads = refl; sound = λ h. refl; stands = λ h. refl } }, (refl, refl)), refl)

adds : IsStepAt (with_one cell_put 0 at_add) (Operates 1 add) entry_added
unfolding look put add entries cells
adds = ((at_add, record { runs = refl; room = omega arith }, record { runs = refl; spelled = (omega arith, is_add_block, refl); next = refl; by = logs_by _ Live (Forward 1 add) live_put refl; kind = refl; locked = exclusive_covers true; at = refl; is_open = record { hold = refl; reads = refl; sound = λ h. refl; stands = λ h. refl } }, (refl, refl)), refl)

pub answers : IsStepAt entry_added (Answers 1 (Insert 5 (0 ∷ [])) AnswerOk) inserted
unfolding look put add entries cells
answers = ((record { runs = refl; room = omega arith }, (omega arith, (omega arith, is_value), tt, refl), record { next = refl; by = logs_by _ Live (Done 1 (Insert 5 (0 ∷ [])) AnswerOk) live_added refl }, (refl, refl)), refl)

finds : IsStepAt (with_one inserted 0 at_found) (Operates 1 found) found_again
unfolding look put add found entries cells
finds = ((at_found, record { runs = refl; room = omega arith }, record { runs = refl; spelled = (omega arith, is_found_block, refl); next = refl; by = logs_by _ Live (Forward 1 found) live_inserted refl; kind = refl; locked = exclusive_covers false; at = refl; is_open = record { hold = refl; reads = refl; sound = λ h. refl; stands = λ h. refl } }, (refl, refl)), refl)

kills : IsStepAt (with_one found_again 1 at_kill_cell) (Operates 1 kill_cell) cell_killed
unfolding look put add found kill_cell entries cells
kills = ((at_kill_cell, record { runs = refl; room = omega arith }, record { runs = refl; spelled = (omega arith, is_kill_block, refl); next = refl; by = logs_by _ Live (Forward 1 kill_cell) live_found refl; kind = refl; locked = exclusive_covers true; at = refl; is_open = record { hold = refl; reads = refl; sound = λ h. refl; stands = λ h. refl } }, (refl, refl)), refl)

pub look_course : IsCourse locked (touching 1 look [] (Operates 1 look)) looked
unfolding look entries cells
look_course = touches locked looked 1 look [] (Operates 1 look) (loaded (replicate 64 0)) refl (alive_by _ Live live_locked refl) (refl, (((refl, refl), omega arith), tt)) looks

pub put_course : IsCourse looked (touching 1 put put_writes (Operates 1 put)) cell_put
unfolding look put entries cells
put_course = touches looked cell_put 1 put put_writes (Operates 1 put) (loaded (1 ∷ replicate 63 0)) refl (alive_by _ Live live_looked refl) (refl, (((refl, refl), omega arith), (((refl, omega arith), omega arith), (((refl, omega arith), omega arith), (((refl, omega arith), omega arith), (((refl, omega arith), omega arith), (((refl, omega arith), omega arith), (((refl, omega arith), omega arith), (((refl, omega arith), omega arith), (((refl, omega arith), omega arith), tt)))))))))) puts

pub add_course : IsCourse cell_put (touching 1 add add_writes (Operates 1 add)) entry_added
unfolding look put add entries cells
add_course = touches cell_put entry_added 1 add add_writes (Operates 1 add) (touched at_look) refl (alive_by _ Live live_put refl) (refl, (((refl, refl), omega arith), (((refl, omega arith), omega arith), (((refl, omega arith), omega arith), (((refl, omega arith), omega arith), tt))))) adds

find_course : IsCourse inserted (touching 1 found [] (Operates 1 found)) found_again
unfolding look put add found entries cells
find_course = touches inserted found_again 1 found [] (Operates 1 found) (touched at_add) refl (alive_by _ Live live_inserted refl) (refl, (((refl, refl), omega arith), tt)) finds

kill_course : IsCourse found_again (touching 1 kill_cell ((8, 2) ∷ []) (Operates 1 kill_cell)) cell_killed
unfolding look put add found kill_cell entries cells
kill_course = touches found_again cell_killed 1 kill_cell ((8, 2) ∷ []) (Operates 1 kill_cell) (touched at_put) refl (alive_by _ Live live_found refl) (refl, (((refl, refl), omega arith), (((refl, omega arith), omega arith), tt))) kills

pub put_so_far_course : IsCourse first put_so_far cell_put
put_so_far_course = (begun_1, begins, (locked, asks, join locked looked cell_put (touching 1 look [] (Operates 1 look)) (touching 1 put put_writes (Operates 1 put)) look_course put_course))

abbrev deleting : List Step
deleting = touching 1 found [] (Operates 1 found) ++ touching 1 kill_cell ((8, 2) ∷ []) (Operates 1 kill_cell)

abbrev behind_put : List Step
behind_put = touching 1 add add_writes (Operates 1 add) ++ Answers 1 (Insert 5 (0 ∷ [])) AnswerOk ∷ deleting

delete_course : IsCourse inserted deleting cell_killed
delete_course = join inserted found_again cell_killed (touching 1 found [] (Operates 1 found)) (touching 1 kill_cell ((8, 2) ∷ []) (Operates 1 kill_cell)) find_course kill_course

pub killed_so_far_course : IsCourse first killed_so_far cell_killed
killed_so_far_course =
    join first cell_put cell_killed put_so_far behind_put put_so_far_course
    (join cell_put entry_added cell_killed (touching 1 add add_writes (Operates 1 add)) (Answers 1 (Insert 5 (0 ∷ [])) AnswerOk ∷ deleting) add_course (inserted, answers, delete_course))
