-- The bytes of the records since the load, in a run.
--     RecordsAreLight          they are fewer than 2^40: the limit of all bytes, 2^62, is never met
use Rattle.std.specs.Prelude.{◌<◌, ◌^◌, List, length}
use Rattle.dali_record.specs.declared.records.Record.{Record}
use Rattle.dali_log.specs.Log.{body_bytes}
use Rattle.dali_runs.specs.State.{CoreState, log_after}
use Rattle.dali_runs.specs.Run.{Bases, RunsOn}

abbrev pub RecordsAreLight : Type 0
RecordsAreLight = (bases : Bases) (before : List Record) (c : CoreState) → RunsOn bases (log_after before c.system) c → length (body_bytes c.system.since) < 2 ^ 40
