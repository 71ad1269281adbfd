-- What a run says of transactions, in words of its log.
--     GoneHasEnded             one without a row whose Begin is in the last epoch has its Ended there
--     LiveIsUncommitted        a live one has no Commit in the log
--     EndedSince               one that had a row and has none has logged its Ended in between
use Rattle.std.specs.Prelude.{◌≡◌, ℕ, List, ◌++◌, Some, None, IsSome, Contains}
use Rattle.dali_record.specs.declared.records.Record.{Record}
use Rattle.dali_record.specs.declared.records.Record.TheVariants.{Begin, Commit, Ended}
use Rattle.dali_record.specs.Epochs.{last_epoch}
use Rattle.dali_att.specs.declared.state.State.TheVariants.{Live}
use Rattle.dali_runs.specs.State.{CoreState, row_of, state_of}
use Rattle.dali_runs.specs.Run.{Bases, RunsOn}
use Rattle.dali_runs.specs.Courses.{Step, Moment, IsCourse}

abbrev pub GoneHasEnded : Type 0
GoneHasEnded =
    (bases : Bases) (L : List Record) (c : CoreState) (t : ℕ) → RunsOn bases L c → row_of c.system t ≡ None
    → Contains (last_epoch L).records (Begin t) → Contains (last_epoch L).records (Ended t)

abbrev pub LiveIsUncommitted : Type 0
LiveIsUncommitted = (bases : Bases) (L : List Record) (c : CoreState) (t : ℕ) → RunsOn bases L c → state_of c.system t ≡ Some Live → Contains L (Commit t) → ⊥

abbrev pub EndedSince : Type 0
EndedSince =
    (m n : Moment) (xs : List Step) (t : ℕ) → IsCourse m xs n → IsSome (row_of m.core.system t) → row_of n.core.system t ≡ None
    → (own : List Record) × (n.log ≡ m.log ++ own) × Contains own (Ended t)
