-- What is counted of the records that are read.
--     nothing_counted        of none
--     before_restart n g     what stands before the record g, where it is that of a restart and n was counted before it
--     one_more n g           of the record g more
--     IsLast p bs o          what is told of the last record of the batches bs, which stand at place p
--     AreCounted p bs n      n is counted of their records
--     AreUpTo n e            none of it is above this place
use Rattle.std.specs.Prelude.{◌≡◌, ◌≤◌, ℕ, ◌+◌, ◌-◌, false, List, [], ◌∷◌, ◌++◌, if◌then◌else◌, Option, Some, None, IfSome, length, sum_by}
use Rattle.dali_record.specs.declared.records.Record.{Record}
use Rattle.dali_record.specs.declared.records.Record.TheVariants.{Restarted}
use Rattle.dali_record.specs.Files.{is_restarted}
use Rattle.dali_record.specs.Log.{last_of}
use Rattle.dali_record.specs.Spelling.{record_length}
use Rattle.dali_log.specs.declared.reader.Placed.{Placed}
use Rattle.dali_log.specs.Batch.{batches}
use Rattle.dali_log.specs.Log.{bodies}
use Rattle.dali_resume.specs.Batches.{records_of}
use Rattle.dali_resume.specs.Rules.{ends_restarted}
use Rattle.dali_recovery.specs.declared.reload.counts.BeforeRestart.{BeforeRestart}
use Rattle.dali_recovery.specs.declared.reload.counts.Counts.{Counts}

abbrev pub nothing_counted : Counts
nothing_counted = record { records = 0; bytes = 0; restarted = None }

abbrev pub before_restart : Counts → Placed → Option BeforeRestart
before_restart n g = if is_restarted g.entry then Some (record { place = g.at - 5; bytes = n.bytes }) else None

abbrev pub one_more : Counts → Placed → Counts
one_more n g = record { records = n.records + 1; bytes = n.bytes + record_length g.entry; restarted = before_restart n g }

-- ---- of all of them
pub record StandsBefore (p : ℕ) (bs : List (List Record)) (m : BeforeRestart) : Type 0 where
  pub front : List (List Record)
  pub rolled : List ℕ
  pub deleted : List ℕ
  pub alone : bs ≡ front ++ (Restarted rolled deleted ∷ []) ∷ []
  pub place : m.place ≡ p + length (batches (bodies front))
  pub bytes : m.bytes ≡ sum_by record_length (records_of front)

abbrev pub IsLast : ℕ → List (List Record) → Option BeforeRestart → Type 0
IsLast p bs None = ends_restarted (last_of (records_of bs)) ≡ false
IsLast p bs (Some m) = StandsBefore p bs m

pub record AreCounted (p : ℕ) (bs : List (List Record)) (n : Counts) : Type 0 where
  pub records : n.records ≡ length (records_of bs)
  pub bytes : n.bytes ≡ sum_by record_length (records_of bs)
  pub last : IsLast p bs n.restarted

-- whatever a store tells
pub record AreUpTo (n : Counts) (e : ℕ) : Type 0 where
  pub records : n.records ≤ e
  pub bytes : n.bytes ≤ e
  pub before : IfSome n.restarted (λ m. (m.place ≤ e) × (m.bytes ≤ e))
