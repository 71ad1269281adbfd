-- Worked runs, which take each kind of step between them, so that the premises of each can be met.
--     start base               a store of one index region and one heap region, just formatted, and a core over this base
--     touching owner b writes last      the steps of an operation: its latch, its reads, these writes, and the step that logs its block
--     stored                   a base that stores key 5: entry 0 of region 0 names cell 1 of region 1
--     kills                    transaction 1 gets an exclusive lock on key 5, finds it, and kills its cell
--     removal, Removal         it kills the entry too, is answered and commits; both are freed; it ends. In a checkpoint an audit is clean
--     abandoned, Abandoned     transaction 2 asks for the key and is refused. The client of 1 dies in its next operation; 1 is claimed,
--                              given back, claimed again, taken back, and ends. The store fails in a flush, and the engine stops
--     damage, Damaged          transaction 1 commits without a call. A poke hits region 0; transaction 2 looks for key 5 there, finds
--                              nothing, and commits; this is taken to be flushed. An audit begins, then the frame is flushed; the audit
--                              finds the region and stops the engine; its records are flushed
use Rattle.std.specs.Prelude.{◌≡◌, ℕ, true, false, List, [], ◌∷◌, ◌++◌, Some, map, replicate}
use Rattle.dali_geometry.specs.Sizes.{Sizes}
use Rattle.dali_geometry.specs.Places.{formatted_image}
use Rattle.dali_record.specs.declared.operations.Block.{Block}
use Rattle.dali_record.specs.declared.operations.Op.TheVariants.{Look, KillCell, KillEntry, FreeCell, FreeEntry, ReviveCell}
use Rattle.dali_record.specs.declared.records.Call.TheVariants.{Delete, Get}
use Rattle.dali_record.specs.declared.records.Answer.TheVariants.{Ok as AnswerOk, Missing}
use Rattle.dali_record.specs.declared.records.Record.{Record}
use Rattle.dali_record.specs.declared.records.Record.TheVariants.{Format, Begin, Forward, Done, Commit, Ended, Solo, AuditBegin, AuditClean, AuditFail, Back}
use Rattle.dali_record.specs.Blocks.{made}
use Rattle.dali_record.specs.Epochs.{last_epoch}
use Rattle.dali_record.specs.Legal.{passes, rules_start}
use Rattle.dali_record.specs.Files.{Files}
use Rattle.dali_region.specs.declared.Side.TheVariants.{A}
use Rattle.dali_region.specs.State.{RegionState}
use Rattle.dali_locks.specs.declared.mode.Mode.TheVariants.{Shared, Exclusive}
use Rattle.dali_runs.specs.declared.causes.Cause.TheVariants.{Damage as StoppedByDamage, Store}
use Rattle.dali_runs.specs.State.{VaultState}
use Rattle.dali_runs.specs.Run.{log_in, only}
use Rattle.dali_runs.specs.Regions.{RegionStep, Latch, NoteReads, Update, Poke, Clean}
use Rattle.dali_runs.specs.Loads.{new_core}
use Rattle.dali_runs.specs.Passes.{no_audits}
use Rattle.dali_runs.specs.Wholes.{IsWhole}
use Rattle.dali_runs.specs.Crashes.{NoneEscapes}
use Rattle.dali_runs.specs.Courses.{Step, Begins, Operates, TakesBack, Frees, Answers, Commits, Ends, AuditBegins, AuditEnds, Locks, Refuses, OnRegion, Passes, Dies, Claims, GivesBack, Recovers, Stops, Checkpoints, Takes, Flushes, Faults, ReadFails, Moment, CoreTraced, RunsAt}

-- ---- the first moment
abbrev pub small : Sizes
small = record { index = 1; heap = 1 }

abbrev pub first_log : List Record
first_log = Format 1 1 ∷ []

abbrev pub first_vault : VaultState
first_vault = record { stopped = false; end = 15; flushed = 0; current = 0; faults_then = 0; faults = 0 }

-- the files of the format, with these batches
abbrev pub formatted_files : List (List Record) → Files
formatted_files batches = record { batches = batches; gates = 0; number = 0; place = 15; first = 1; weight = 10; next = 1; image = formatted_image small; table = [] }

abbrev pub first_files : Files
first_files = formatted_files (first_log ∷ [])

abbrev pub start : List (List ℕ) → Moment
start base = record {
  log = first_log;
  core = new_core small base (passes rules_start (Format 1 1)) 1000000 first_vault;
  audits = no_audits;
}

-- ---- an operation
abbrev pub opening : ℕ → Block → List (ℕ × ℕ) → List RegionStep
opening owner b writes = Latch owner ∷ NoteReads b.read ∷ map (λ w. Update w.0 w.1) writes

abbrev pub touching : ℕ → Block → List (ℕ × ℕ) → Step → List Step
touching owner b writes last = map (λ x. OnRegion b.region x) (opening owner b writes) ++ last ∷ []

-- ---- a stored key
-- entry 0, of key 5 and place 9, is in this state
abbrev pub index_words : ℕ → List ℕ
index_words state = 0 ∷ state ∷ 5 ∷ 9 ∷ replicate 60 0

-- cell 1, of key 5 and with a value of one byte, is in this state
abbrev pub heap_words : ℕ → List ℕ
heap_words state = 1 ∷ 0 ∷ 0 ∷ 0 ∷ 0 ∷ 0 ∷ 0 ∷ 0 ∷ state ∷ 5 ∷ 1 ∷ replicate 53 0

abbrev pub stored : List (List ℕ)
stored = index_words 1 ∷ heap_words 1 ∷ []

unfoldable pub look : Block
look = made (index_words 1) 5 0 Look

unfoldable pub kill_cell : Block
kill_cell = made (heap_words 1) 5 1 (KillCell 1)

unfoldable pub kill_entry : Block
kill_entry = made (index_words 1) 5 0 (KillEntry 0)

unfoldable pub free_cell : Block
free_cell = made (heap_words 2) 5 1 (FreeCell 1)

unfoldable pub free_entry : Block
free_entry = made (index_words 2) 5 0 (FreeEntry 0)

unfoldable pub revive_cell : Block
revive_cell = made (heap_words 2) 5 1 (ReviveCell 1)

abbrev pub words_at : Moment → List (List ℕ)
words_at m = map (λ (g : RegionState). g.words) m.core.regions

-- ---- a removal
abbrev pub kills : List Step
kills =
    Begins ∷ Locks 1 5 Exclusive ∷ []
    ++ touching 1 look [] (Operates 1 look)
    ++ touching 1 kill_cell ((8, 2) ∷ []) (Operates 1 kill_cell)

abbrev pub removal : List Step
removal =
    kills
    ++ touching 1 kill_entry ((1, 2) ∷ []) (Operates 1 kill_entry)
    ++ Answers 1 (Delete 5) AnswerOk ∷ Commits 1 ∷ []
    ++ touching 1 free_cell ((8, 0) ∷ []) (Frees 1 free_cell)
    ++ touching 1 free_entry ((1, 0) ∷ []) (Frees 1 free_entry)
    ++ Ends 1 ∷ Checkpoints true ∷ OnRegion 0 (Clean A) ∷ AuditBegins ∷ Passes 10 0 ∷ Passes 10 1 ∷ AuditEnds 10 [] ∷ Checkpoints false ∷ []

pub record Removal : Type 0 where
  pub finish : Moment
  pub trace : CoreTraced (start stored) first_files removal finish first_files
  pub run : RunsAt (λ n. stored) first_log (only first_files) finish
  pub log :
      finish.log
      ≡ Format 1 1 ∷ Begin 1 ∷ Forward 1 look ∷ Forward 1 kill_cell ∷ Forward 1 kill_entry ∷ Done 1 (Delete 5) AnswerOk ∷ Commit 1
      ∷ Solo 2 1 free_cell ∷ Solo 3 1 free_entry ∷ Ended 1 ∷ AuditBegin ∷ AuditClean 10 ∷ []
  pub words : words_at finish ≡ index_words 0 ∷ heap_words 0 ∷ []

-- ---- a client that dies
abbrev pub abandoned : List Step
abandoned =
    kills
    ++ Begins ∷ Refuses 2 5 Shared 1 ∷ []
    ++ touching 1 kill_entry ((1, 2) ∷ []) (Dies 1 (Some 0))
    ++ Claims 1 ∷ GivesBack 1 (Some 0) ∷ Claims 1 ∷ Recovers 0 ∷ []
    ++ touching 1 revive_cell ((8, 1) ∷ []) (TakesBack 1 revive_cell)
    ++ Ends 1 ∷ Takes ∷ ReadFails 1 ∷ Faults 2 ∷ Stops ∷ []

pub record Abandoned : Type 0 where
  pub finish : Moment
  pub trace : CoreTraced (start stored) first_files abandoned finish first_files
  pub run : RunsAt (λ n. stored) first_log (only first_files) finish
  pub whole : IsWhole finish.core
  pub log : finish.log ≡ Format 1 1 ∷ Begin 1 ∷ Forward 1 look ∷ Forward 1 kill_cell ∷ Begin 2 ∷ Back 1 revive_cell ∷ Ended 1 ∷ []
  pub words : words_at finish ≡ stored
  pub refused : finish.core.system.refusals ≡ record { txn = 2; key = 5; mode = Shared; holder = 1; at = 5 } ∷ []
  pub stop : finish.core.system.stop ≡ Some Store

-- ---- damage
-- the poke raises the flag of an index region that has no entry
abbrev pub damaged_words : List ℕ
damaged_words = 1 ∷ replicate 63 0

unfoldable pub damaged_look : Block
damaged_look = made damaged_words 5 0 Look

abbrev pub damage : List Step
damage =
    Begins ∷ Commits 1 ∷ OnRegion 0 (Poke 0 1) ∷ Begins ∷ Locks 2 5 Shared ∷ []
    ++ touching 2 damaged_look [] (Operates 2 damaged_look)
    ++ Answers 2 (Get 5) Missing ∷ Commits 2 ∷ Takes ∷ AuditBegins ∷ Flushes
    ∷ Passes 7 0 ∷ Passes 7 1 ∷ AuditEnds 7 (0 ∷ []) ∷ Takes ∷ Flushes ∷ []

abbrev pub committed_batch : List Record
committed_batch = Begin 1 ∷ Commit 1 ∷ Begin 2 ∷ Forward 2 damaged_look ∷ Done 2 (Get 5) Missing ∷ Commit 2 ∷ []

abbrev pub audit_batch : List Record
audit_batch = AuditBegin ∷ AuditFail 7 (0 ∷ []) ∷ []

pub record Damaged : Type 0 where
  pub finish : Moment
  pub crash : Files
  pub trace : CoreTraced (start (formatted_image small)) first_files damage finish crash
  pub run : RunsAt (λ n. formatted_image small) first_log (only crash) finish
  pub log : finish.log ≡ first_log ++ committed_batch ++ audit_batch
  pub words : words_at finish ≡ damaged_words ∷ (1 ∷ replicate 63 0) ∷ []
  pub stop : finish.core.system.stop ≡ Some (StoppedByDamage 0)
  pub batches : crash.batches ≡ first_log ∷ committed_batch ∷ audit_batch ∷ []
  pub escapes : NoneEscapes (last_epoch (log_in crash)) finish.core
