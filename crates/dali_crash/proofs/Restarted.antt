-- The worked run behind a restart: each premise of each step is met.
use Rattle.std.proofs.Common.{◌≡◌, zero, suc, ◌<◌, Bool, true, false, List, [], ◌∷◌, ◌++◌, map, take, Option, Some, refl, ap, sym, ◌∙◌, inr, arith}
use Rattle.std.specs.Prelude.{is_some, replicate}
use Rattle.std.specs.List.{list_any, All}
use Rattle.std.specs.FinMap.{get, empty}
use Rattle.dali_geometry.specs.Places.{formatted_image}
use Rattle.dali_record.specs.declared.operations.Op.TheVariants.{Look, Put, Add}
use Rattle.dali_record.specs.declared.records.Call.TheVariants.{Insert}
use Rattle.dali_record.specs.declared.records.Answer.TheVariants.{Ok as AnswerOk}
use Rattle.dali_record.specs.declared.records.Record.TheVariants.{Begin, Forward, Done, Commit, Ended, Restarted}
use Rattle.dali_words.specs.Words.{AreWords}
use Rattle.dali_record.specs.Spelling.{IsBlock}
use Rattle.dali_record.specs.Legal.{sizes_of}
use Rattle.dali_record.specs.Files.{Files}
use Rattle.dali_record.proofs.Made.{made_is_block}
use Rattle.dali_access.specs.Index.Entries.{entries}
use Rattle.dali_access.specs.Heap.Cells.{cells}
use Rattle.dali_words.specs.Values.{IsValue}
use Rattle.dali_region.specs.State.{RegionState, loaded, touched}
use Rattle.dali_locks.specs.declared.mode.Mode.{Mode}
use Rattle.dali_locks.specs.declared.mode.Mode.TheVariants.{Exclusive}
use Rattle.dali_locks.specs.Locks.{locks_with}
use Rattle.dali_locks.proofs.Changes.{get-locks_with}
use Rattle.dali_att.specs.Table.{fresh_row}
use Rattle.dali_history.specs.Recovered.{recovered}
use Rattle.dali_history.specs.History.{IsHistory}
use Rattle.dali_runs.specs.State.{TxnRow, state_of}
use Rattle.dali_runs.specs.Run.{covers}
use Rattle.dali_runs.specs.Steps.{begun, granted, op_logged, done_logged, commit_logged, taken}
use Rattle.dali_runs.specs.Keeps.{with_system}
use Rattle.dali_runs.specs.Flushes.{with_vault, longer, frame_of}
use Rattle.dali_runs.specs.Courses.{Step, Begins, Operates, Answers, Commits, Locks as Asks, Takes, Flushes, Moment, IsStepAt, IsCourse, CameBy, CoreTraced}
use Rattle.dali_runs.specs.Worked.{small, opening, touching, first_log}
use Rattle.dali_runs.proofs.Loads.{no_lock}
use Rattle.dali_runs.proofs.Tables.{added}
use Rattle.dali_runs.proofs.RowStates.{begun_state, op_state}
use Rattle.dali_att.specs.declared.state.State.TheVariants.{Live}
use Rattle.dali_runs.proofs.Touching.{with_one, after_all, touches, is_flush, join_traces, quiet_trace}
use Rattle.dali_runs.proofs.Worked.{logging, logs_by, alive_by, strongest}
use Rattle.dali_crash.specs.Starts.{IsRestarted}
use Rattle.dali_crash.specs.Checkpoints.{Point, Does, Traced, moment_of}
use Rattle.dali_crash.specs.StoreRuns.{CrashIsRightWith}
use Rattle.dali_crash.specs.Worked.{look}
use Rattle.dali_crash.specs.Checkpointed.{checkpoint_steps, moved_files, txn_batch, batches_2}
use Rattle.dali_crash.specs.Restarted.{closed_log, restarted_log, restarted_vault, put, add, put_writes, add_writes, insert_batch, inserts, WorkedRestart, restarted_files, restarted_from}
use Rattle.dali_crash.proofs.Starts.{lawful, stands_before, restart_starts}
use Rattle.dali_crash.proofs.Checkpointed.{m6, files_2, to_flush, right}
use Rattle.dali_crash.specs.Traces.{IsFreshImage, StartsAt, start_point}
use Rattle.dali_crash.proofs.Traces.{fresh_rests, unpoked_trace_is_right, does_traced}

-- ---- the log that the restart left
closed_history : IsHistory closed_log
closed_history = (right (take 6 checkpoint_steps) m6 files_2 refl (to_flush [] m6 files_2 (refl, refl))).restarts.history

history : IsHistory restarted_log
history = (restart_starts closed_log (Begin 1) (Commit 1 ∷ Ended 1 ∷ []) closed_history refl).history

is_recovered : recovered (sizes_of restarted_log) restarted_log ≡ formatted_image small
unfolding entries cells
is_recovered = refl

files : IsRestarted restarted_log restarted_files
files = stands_before closed_log [] [] batches_2 1 (formatted_image small) (Begin 1, Commit 1 ∷ Ended 1 ∷ [], refl) refl (omega arith) (sym is_recovered)

fresh : IsFreshImage restarted_log restarted_vault restarted_files
fresh = record {
  vault = record { runs = refl; flushed = refl; faults = omega arith; faults_fit = omega arith; short = omega arith; moved = omega arith };
  none = refl;
  files = record { log = refl; kind = inr files };
  end = refl;
  current = refl;
}

starts : StartsAt restarted_from restarted_files
starts = record { lawful = lawful restarted_log history; rules = refl; fits = omega arith; rests = fresh_rests restarted_log restarted_vault restarted_files fresh }

-- ---- the moments
abbrev first : Moment
first = moment_of (start_point restarted_from)

abbrev begun_2 : Moment
begun_2 = record { log = first.log ++ Begin 2 ∷ []; core = with_system first.core (begun first.core.system); audits = first.audits }

abbrev locked : Moment
locked = record { log = begun_2.log; core = with_system begun_2.core (granted begun_2.core.system 2 5 Exclusive); audits = begun_2.audits }

abbrev at_look : RegionState
at_look = after_all (opening 2 look []) (loaded (replicate 64 0))

abbrev looked : Moment
looked = logging locked (Forward 2 look) (op_logged locked.core.system 2 look) 0 at_look

abbrev at_put : RegionState
at_put = after_all (opening 2 put put_writes) (loaded (1 ∷ replicate 63 0))

abbrev cell_put : Moment
cell_put = logging looked (Forward 2 put) (op_logged looked.core.system 2 put) 1 at_put

abbrev at_add : RegionState
at_add = after_all (opening 2 add add_writes) (touched at_look)

abbrev entry_added : Moment
entry_added = logging cell_put (Forward 2 add) (op_logged cell_put.core.system 2 add) 0 at_add

abbrev answered : Moment
answered = record { log = entry_added.log ++ Done 2 (Insert 5 (0 ∷ [])) AnswerOk ∷ []; core = with_system entry_added.core (done_logged entry_added.core.system 2 (Insert 5 (0 ∷ [])) AnswerOk); audits = entry_added.audits }

abbrev committed : Moment
committed = record { log = answered.log ++ Commit 2 ∷ []; core = with_system answered.core (commit_logged answered.core.system 2); audits = answered.audits }

abbrev in_hand : Moment
in_hand = record { log = committed.log; core = with_system committed.core (taken committed.core.system); audits = committed.audits }

abbrev last : Moment
last = record { log = in_hand.log; core = with_vault in_hand.core (longer in_hand.core.vault (frame_of in_hand.log in_hand.core)); audits = in_hand.audits }

-- ---- the steps
begins : IsStepAt first Begins begun_2
begins = ((record { runs = refl; room = omega arith }, (refl, refl)), refl)

asks : IsStepAt begun_2 (Asks 2 5 Exclusive) locked
asks = ((ap (λ (row : Option TxnRow). is_some row) (added first.core.system.table 2 fresh_row 2), (λ u n d e. absurd (no_lock u 5 n e)), (refl, refl)), refl)

covered : (d : Bool) → covers (get (locks_with empty 2 5 Exclusive) (2, 5)) d ≡ true
covered d = ap (λ (o : Option Mode). covers o d) (get-locks_with empty 2 5 Exclusive 2 5) ∙ strongest (get empty (2, 5)) d

are_zero : AreWords (replicate 64 0)
are_zero = (refl, omega arith)

are_heap : AreWords (1 ∷ replicate 63 0)
are_heap = (refl, omega arith)

byte : All (λ b. b < 256) (0 ∷ [])
byte zero d h = omega arith
byte (suc k) d h = absurd (omega (arith, h))

is_value : IsValue (0 ∷ [])
is_value = (refl, byte)

is_look_block : IsBlock look
unfolding look
is_look_block = made_is_block Look 5 0 (replicate 64 0) tt (omega arith) (omega arith) are_zero

is_put_block : IsBlock put
unfolding put
is_put_block = made_is_block (Put (0 ∷ [])) 5 1 (1 ∷ replicate 63 0) is_value (omega arith) (omega arith) are_heap

is_add_block : IsBlock add
unfolding add
is_add_block = made_is_block (Add 9) 5 0 (replicate 64 0) (omega arith) (omega arith) (omega arith) are_zero

live_locked : state_of locked.core.system 2 ≡ Some Live
live_locked = begun_state first.core.system 2

live_looked : state_of looked.core.system 2 ≡ Some Live
live_looked = op_state locked.core.system 2 look 2 ∙ live_locked

live_put : state_of cell_put.core.system 2 ≡ Some Live
live_put = op_state looked.core.system 2 put 2 ∙ live_looked

live_added : state_of entry_added.core.system 2 ≡ Some Live
live_added = op_state cell_put.core.system 2 add 2 ∙ live_put

looks : IsStepAt (with_one locked 0 at_look) (Operates 2 look) looked
unfolding look entries cells
looks = ((at_look, record { runs = refl; room = omega arith }, record { runs = refl; spelled = (omega arith, is_look_block, refl); next = refl; by = logs_by _ Live (Forward 2 look) live_locked refl; kind = refl; locked = covered false; at = refl; is_open = record { hold = refl; reads = refl; sound = λ h. refl; stands = λ h. refl } }, (refl, refl)), refl)

puts : IsStepAt (with_one looked 1 at_put) (Operates 2 put) cell_put
unfolding look put entries cells
puts = ((at_put, record { runs = refl; room = omega arith }, record { runs = refl; spelled = (omega arith, is_put_block, refl); next = refl; by = logs_by _ Live (Forward 2 put) live_looked refl; kind = refl; locked = covered true; at = refl; is_open = record { hold = refl; reads = refl; sound = λ h. refl; stands = λ h. refl } }, (refl, refl)), refl)

adds : IsStepAt (with_one cell_put 0 at_add) (Operates 2 add) entry_added
unfolding look put add entries cells
adds = ((at_add, record { runs = refl; room = omega arith }, record { runs = refl; spelled = (omega arith, is_add_block, refl); next = refl; by = logs_by _ Live (Forward 2 add) live_put refl; kind = refl; locked = covered true; at = refl; is_open = record { hold = refl; reads = refl; sound = λ h. refl; stands = λ h. refl } }, (refl, refl)), refl)

look_course : IsCourse locked (touching 2 look [] (Operates 2 look)) looked
unfolding look entries cells
look_course = touches locked looked 2 look [] (Operates 2 look) (loaded (replicate 64 0)) refl (alive_by _ Live live_locked refl) (refl, (((refl, refl), omega arith), tt)) looks

put_course : IsCourse looked (touching 2 put put_writes (Operates 2 put)) cell_put
unfolding look put entries cells
put_course = touches looked cell_put 2 put put_writes (Operates 2 put) (loaded (1 ∷ replicate 63 0)) refl (alive_by _ Live live_looked refl) (refl, (((refl, refl), omega arith), (((refl, omega arith), omega arith), (((refl, omega arith), omega arith), (((refl, omega arith), omega arith), (((refl, omega arith), omega arith), (((refl, omega arith), omega arith), (((refl, omega arith), omega arith), (((refl, omega arith), omega arith), (((refl, omega arith), omega arith), tt)))))))))) puts

add_course : IsCourse cell_put (touching 2 add add_writes (Operates 2 add)) entry_added
unfolding look put add entries cells
add_course = touches cell_put entry_added 2 add add_writes (Operates 2 add) (touched at_look) refl (alive_by _ Live live_put refl) (refl, (((refl, refl), omega arith), (((refl, omega arith), omega arith), (((refl, omega arith), omega arith), (((refl, omega arith), omega arith), tt))))) adds

answers : IsStepAt entry_added (Answers 2 (Insert 5 (0 ∷ [])) AnswerOk) answered
unfolding look put add entries cells
answers = ((record { runs = refl; room = omega arith }, (omega arith, (omega arith, is_value), tt, refl), record { next = refl; by = logs_by _ Live (Done 2 (Insert 5 (0 ∷ [])) AnswerOk) live_added refl }, (refl, refl)), refl)

commits : IsStepAt answered (Commits 2) committed
unfolding look put add entries cells
commits = ((refl, record { next = refl; by = logs_by _ Live (Commit 2) live_added refl }, (refl, refl)), refl)

takes : IsStepAt committed Takes in_hand
takes = ((refl, refl), refl)

flushes : IsStepAt in_hand Flushes last
flushes = ((refl, (refl, refl)), refl)

abbrev ending : List Step
ending = Answers 2 (Insert 5 (0 ∷ [])) AnswerOk ∷ Commits 2 ∷ Takes ∷ Flushes ∷ []

unfoldable crash : Files
crash = moved_files (first_log ∷ txn_batch ∷ (Restarted [] [] ∷ []) ∷ insert_batch ∷ [])

came : CameBy in_hand.log in_hand.core Flushes restarted_files crash
unfolding crash
came = refl

end_trace : CoreTraced entry_added restarted_files ending last crash
end_trace = (answered, restarted_files, answers, refl, (committed, restarted_files, commits, refl, (in_hand, restarted_files, takes, refl, (last, crash, flushes, came, (refl, refl)))))

-- steps that flush nothing, and what comes behind them
then : (m k : Moment) (xs ys : List Step) → list_any is_flush xs ≡ false → IsCourse m xs k → CoreTraced k restarted_files ys last crash → CoreTraced m restarted_files (xs ++ ys) last crash
then m k xs ys quiet course t = join_traces m k last restarted_files restarted_files crash xs ys (quiet_trace m k xs restarted_files quiet course) t

abbrev adding : List Step
adding = touching 2 add add_writes (Operates 2 add) ++ ending

abbrev putting : List Step
putting = touching 2 put put_writes (Operates 2 put) ++ adding

insert_trace : CoreTraced first restarted_files inserts last crash
insert_trace = (
  begun_2,
  restarted_files,
  begins,
  refl,
  (
    locked,
    restarted_files,
    asks,
    refl,
    then locked looked (touching 2 look [] (Operates 2 look)) putting refl look_course
        (then looked cell_put (touching 2 put put_writes (Operates 2 put)) adding refl put_course (then cell_put entry_added (touching 2 add add_writes (Operates 2 add)) ending refl add_course end_trace)),
  ),
)

-- ---- with the store
whole : (q : Point) × (moment_of q ≡ last) × Traced (start_point restarted_from) restarted_files (map Does inserts) q crash
whole = does_traced (start_point restarted_from) inserts last restarted_files crash refl insert_trace

restarts : CrashIsRightWith restarted_log whole.0.core crash
restarts = (unpoked_trace_is_right restarted_from restarted_files history starts (map Does inserts) whole.0 crash refl whole.2).0

pub worked_restart : WorkedRestart
unfolding look put add crash entries cells
worked_restart = record {
  history = history;
  rules = refl;
  fresh = fresh;
  finish = whole.0;
  crash = crash;
  trace = whole.2;
  gates = refl;
  first = refl;
  image = refl;
  behind = refl;
  redone = refl;
  survive = refl;
  right = restarts;
}
