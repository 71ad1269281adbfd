-- The worked runs' beginnings: a core over a base that stores key 5, in which transaction 1 has killed the cell of that key.
use Rattle.std.proofs.Common.{◌≡◌, ℕ, ◌<◌, ◌^◌, Bool, true, false, List, [], ◌∷◌, ◌++◌, length, Option, Some, None, refl, ap, sym, ◌∙◌, arith}
use Rattle.std.specs.Prelude.{sum_by, is_some, slice_get}
use Rattle.std.specs.FinMap.{get, empty}
use Rattle.dali_words.specs.Words.{AreWords, AllAreWords}
use Rattle.dali_record.specs.declared.operations.Op.TheVariants.{Look, KillEntry, KillCell, FreeCell, FreeEntry}
use Rattle.dali_record.specs.declared.operations.Block.{Block}
use Rattle.dali_record.specs.declared.records.Record.{Record}
use Rattle.dali_record.specs.declared.records.Record.TheVariants.{Format, Begin, Forward}
use Rattle.dali_record.specs.Spelling.{IsBlock, CanBeSpelled}
use Rattle.dali_record.specs.Files.{Files, batch_length}
use Rattle.dali_record.specs.Legal.{on_kind, passes, rules_start}
use Rattle.dali_record.proofs.Made.{made_is_block}
use Rattle.dali_access.specs.Index.Entries.{entries}
use Rattle.dali_region.specs.State.{RegionState, loaded}
use Rattle.dali_locks.specs.declared.mode.Mode.{Mode}
use Rattle.dali_locks.specs.declared.mode.Mode.TheVariants.{Shared, Exclusive}
use Rattle.dali_locks.specs.Locks.{stronger_mode, locks_with}
use Rattle.dali_locks.proofs.Changes.{get-locks_with}
use Rattle.dali_att.specs.Table.{fresh_row}
use Rattle.dali_att.specs.declared.state.State.{State}
use Rattle.dali_att.specs.declared.state.State.TheVariants.{Live}
use Rattle.dali_runs.specs.State.{TxnRow, SystemState, state_of}
use Rattle.dali_runs.specs.Regions.{IsOpen, is_alive}
use Rattle.dali_runs.specs.Run.{log_in, VaultRun, covers, holds, only, no_image}
use Rattle.dali_runs.specs.Steps.{begun, op_logged, granted}
use Rattle.dali_runs.specs.Keeps.{with_system, with_touched, may_log, may_log_in, IsNext, MayLogBlock}
use Rattle.dali_runs.specs.Courses.{Begins, Operates, Locks as Asks, Moment, IsStepAt, IsCourse, RunsAt}
use Rattle.dali_runs.specs.Worked.{small, first_log, first_vault, start, opening, touching, index_words, heap_words, stored, look, kill_cell, kill_entry, free_cell, free_entry, kills, first_files}
use Rattle.dali_runs.proofs.Loads.{no_lock, format_rests}
use Rattle.dali_runs.proofs.Tables.{added}
use Rattle.dali_runs.proofs.RowStates.{begun_state, op_state}
use Rattle.dali_runs.proofs.Courses.{load_runs_at}
use Rattle.dali_runs.proofs.Touching.{join, with_one, after_all, touches}

-- ---- the first moment
pub first_store : VaultRun (only first_files) first_log 1 first_vault
first_store = record {
  within = omega arith;
  prefix = λ F h. record { count = 1; flushed = omega arith; within = omega arith; log = ap log_in h };
  exact = λ e F h. record { log = ap log_in h; end = sym (ap (λ (G : Files). sum_by batch_length G.batches) h) };
  short = omega arith;
  then_fits = omega arith;
  counts = omega arith;
  rose = λ h. absurd (cc);
}

pub bare_store : VaultRun no_image first_log 1 first_vault
bare_store = record { within = omega arith; prefix = λ F h. absurd h; exact = λ e F h. absurd h; short = omega arith; then_fits = omega arith; counts = omega arith; rose = λ h. absurd (cc) }

pub start_runs : (base : List (List ℕ)) → length base ≡ 2 → AllAreWords base → RunsAt (λ n. base) first_log (only first_files) (start base)
start_runs base whole words = load_runs_at (λ n. base) small first_log (passes rules_start (Format 1 1)) 1000000 first_vault first_files (format_rests small (refl, refl)) (omega arith) whole words first_store refl

-- ---- the words
pub are_index : (state : ℕ) → state < 2 ^ 64 → AreWords (index_words state)
are_index state h = (refl, omega (arith, h))

pub are_heap : (state : ℕ) → state < 2 ^ 64 → AreWords (heap_words state)
are_heap state h = (refl, omega (arith, h))

pub stored_regions : AllAreWords stored
stored_regions = (are_index 1 (omega arith), (are_heap 1 (omega arith), tt))

-- ---- a lock
pub strongest : (o : Option Mode) (d : Bool) → covers (Some (stronger_mode o Exclusive)) d ≡ true
strongest None d = refl
strongest (Some Shared) d = refl
strongest (Some Exclusive) d = refl

pub exclusive_covers : (d : Bool) → covers (get (locks_with (empty) 1 5 Exclusive) (1, 5)) d ≡ true
exclusive_covers d = ap (λ (o : Option Mode). covers o d) (get-locks_with empty 1 5 Exclusive 1 5) ∙ strongest (get empty (1, 5)) d

-- ---- the moments
abbrev pub begun_1 : Moment
begun_1 = record { log = first_log ++ Begin 1 ∷ []; core = with_system (start stored).core (begun (start stored).core.system); audits = (start stored).audits }

abbrev pub locked : Moment
locked = record { log = begun_1.log; core = with_system begun_1.core (granted begun_1.core.system 1 5 Exclusive); audits = begun_1.audits }

-- one more record, with its region touched
abbrev pub logging : Moment → Record → SystemState → ℕ → RegionState → Moment
logging m x y r g = record { log = m.log ++ x ∷ []; core = with_touched (with_one m r g).core y r g; audits = m.audits }

abbrev pub at_look : RegionState
at_look = after_all (opening 1 look []) (loaded (index_words 1))

abbrev pub looked : Moment
looked = logging locked (Forward 1 look) (op_logged locked.core.system 1 look) 0 at_look

abbrev pub at_kill_cell : RegionState
at_kill_cell = after_all (opening 1 kill_cell ((8, 2) ∷ [])) (loaded (heap_words 1))

abbrev pub cell_killed : Moment
cell_killed = logging looked (Forward 1 kill_cell) (op_logged looked.core.system 1 kill_cell) 1 at_kill_cell

-- ---- transaction 1 is live
pub live_locked : state_of locked.core.system 1 ≡ Some Live
live_locked = begun_state (start stored).core.system 1

pub live_looked : state_of looked.core.system 1 ≡ Some Live
live_looked = op_state locked.core.system 1 look 1 ∙ live_locked

pub live_killed : state_of cell_killed.core.system 1 ≡ Some Live
live_killed = op_state looked.core.system 1 kill_cell 1 ∙ live_looked

pub logs_by : (o : Option State) (st : State) (x : Record) → o ≡ Some st → may_log st x ≡ true → may_log_in o x ≡ true
logs_by o st x e may = rw e may

-- transaction 1 may log a block that its region has open
pub logs_block :
    (m : Moment) (x : Record) (b : Block) (g : RegionState) (st : State) → state_of m.core.system 1 ≡ Some st → may_log st x ≡ true
    → m.core.system.stop ≡ None → CanBeSpelled x → IsNext m.core.system.sizes m.log 1 x → on_kind m.core.system.sizes b.region b.op ≡ true
    → holds m.core.system 1 b ≡ true → slice_get m.core.regions b.region ≡ Some g → IsOpen g 1 b
    → MayLogBlock m.log m.core x 1 b g
logs_block m x b g st is may runs spelled next kind held at is_open = record { runs = runs; spelled = spelled; next = next; by = logs_by (state_of m.core.system 1) st x is may; kind = kind; locked = held; at = at; is_open = is_open }

pub alive_by : (o : Option State) (st : State) → o ≡ Some st → is_alive (Some st) ≡ true → is_alive o ≡ true
alive_by o st e may = rw e may

-- ---- the steps
begins : IsStepAt (start stored) Begins begun_1
begins = ((record { runs = refl; room = omega arith }, (refl, refl)), refl)

asks : IsStepAt begun_1 (Asks 1 5 Exclusive) locked
asks = ((ap (λ (row : Option TxnRow). is_some row) (added (start stored).core.system.table 1 fresh_row 1), (λ u n d e. absurd (no_lock u 5 n e)), (refl, refl)), refl)

pub is_look : IsBlock look
unfolding look
is_look = made_is_block Look 5 0 (index_words 1) tt (omega arith) (omega arith) (are_index 1 (omega arith))

pub is_kill_cell : IsBlock kill_cell
unfolding kill_cell
is_kill_cell = made_is_block (KillCell 1) 5 1 (heap_words 1) refl (omega arith) (omega arith) (are_heap 1 (omega arith))

pub is_kill_entry : IsBlock kill_entry
unfolding kill_entry
is_kill_entry = made_is_block (KillEntry 0) 5 0 (index_words 1) refl (omega arith) (omega arith) (are_index 1 (omega arith))

pub is_free_cell : IsBlock free_cell
unfolding free_cell
is_free_cell = made_is_block (FreeCell 1) 5 1 (heap_words 2) refl (omega arith) (omega arith) (are_heap 2 (omega arith))

pub is_free_entry : IsBlock free_entry
unfolding free_entry
is_free_entry = made_is_block (FreeEntry 0) 5 0 (index_words 2) refl (omega arith) (omega arith) (are_index 2 (omega arith))

looks : IsStepAt (with_one locked 0 at_look) (Operates 1 look) looked
unfolding look entries
looks = (
  (
    at_look,
    record { runs = refl; room = omega arith },
    logs_block (with_one locked 0 at_look) (Forward 1 look) look at_look Live live_locked refl refl (omega arith, is_look, refl) refl refl (exclusive_covers false) refl (record { hold = refl; reads = refl; sound = λ h. refl; stands = λ h. refl }),
    (refl, refl),
  ),
  refl,
)

kills_cell : IsStepAt (with_one looked 1 at_kill_cell) (Operates 1 kill_cell) cell_killed
unfolding look kill_cell entries
kills_cell = (
  (
    at_kill_cell,
    record { runs = refl; room = omega arith },
    logs_block (with_one looked 1 at_kill_cell) (Forward 1 kill_cell) kill_cell at_kill_cell Live live_looked refl refl (omega arith, is_kill_cell, refl) refl refl (exclusive_covers true) refl (record { hold = refl; reads = refl; sound = λ h. refl; stands = λ h. refl }),
    (refl, refl),
  ),
  refl,
)

look_course : IsCourse locked (touching 1 look [] (Operates 1 look)) looked
unfolding look entries
look_course = touches locked looked 1 look [] (Operates 1 look) (loaded (index_words 1)) refl (alive_by _ Live live_locked refl) (refl, (((refl, refl), omega arith), tt)) looks

kill_course : IsCourse looked (touching 1 kill_cell ((8, 2) ∷ []) (Operates 1 kill_cell)) cell_killed
unfolding kill_cell
kill_course = touches looked cell_killed 1 kill_cell ((8, 2) ∷ []) (Operates 1 kill_cell) (loaded (heap_words 1)) refl (alive_by _ Live live_looked refl) (refl, (((refl, refl), omega arith), (((refl, omega arith), omega arith), tt))) kills_cell

pub kills_course : IsCourse (start stored) kills cell_killed
kills_course = (begun_1, begins, (locked, asks, join locked looked cell_killed (touching 1 look [] (Operates 1 look)) (touching 1 kill_cell ((8, 2) ∷ []) (Operates 1 kill_cell)) look_course kill_course))
