-- What an abort and a clean-up give back, where no stray write came.
--     ComesQuietly n           steps without a stray write led to the moment n, from a core that was just made over a history, as behind a format or a
--                              restart
--     AbortGivesBack           behind an abort each key of the transaction's blocks has the records from before its first block on it
--     CleanUpGivesBack         so it has behind the clean-up of a transaction whose client died
use Rattle.std.specs.Prelude.{◌≡◌, ℕ, ◌≤◌, false, List, [], ◌∷◌, ◌++◌, Some, length}
use Rattle.std.specs.List.{list_any}
use Rattle.dali_record.specs.declared.records.Record.{Record}
use Rattle.dali_record.specs.declared.records.Record.TheVariants.{Ended}
use Rattle.dali_record.specs.Epochs.{last_epoch}
use Rattle.dali_record.specs.Legal.{sizes_of, Rules, rules_state}
use Rattle.dali_region.specs.State.{RegionState}
use Rattle.dali_history.specs.Recovered.{base_of, recovered}
use Rattle.dali_history.specs.History.{IsHistory}
use Rattle.dali_att.specs.declared.state.State.TheVariants.{Live}
use Rattle.dali_runs.specs.State.{SystemState, CoreState, VaultState, state_of}
use Rattle.dali_runs.specs.Run.{Bases, VaultRun, no_image}
use Rattle.dali_runs.specs.Wholes.{IsWhole}
use Rattle.dali_runs.specs.Courses.{Step, Moment, IsCourse}
use Rattle.dali_crash.specs.Unpoked.{pokes}
use Rattle.dali_crash.specs.Traces.{core_start}
use Rattle.dali_during.specs.During.{image_of, IsTakenBack}
use Rattle.dali_calls.specs.Single.Ending.{IsEnded}
use Rattle.dali_clean.specs.Cleaned.{core, IsDead, Ends, IsEnded as IsCleanedUp}

pub record ComesQuietly (n : Moment) : Type 0 where
  pub log : List Record
  pub rules : Rules
  pub limit : ℕ
  pub vault : VaultState
  pub history : IsHistory log
  pub rules_are : rules_state (sizes_of log) log ≡ Some rules
  pub none : (last_epoch log).records ≡ []
  pub fits : limit ≤ 268435456
  pub runs : VaultRun no_image log (length log) vault
  pub flushed : vault.flushed ≡ 0
  pub steps : List Step
  pub quiet : list_any pokes steps ≡ false
  pub course : IsCourse (core_start log rules limit vault) steps n

-- t has logged its end behind the log M, and its core is c then
abbrev pub GivesBack : List Record → CoreState → ℕ → Type 0
GivesBack M c t = IsTakenBack c.system.sizes (image_of c) (base_of c.system.sizes (M ++ Ended t ∷ [])) (last_epoch M).records t

abbrev pub AbortGivesBack : Type 0
AbortGivesBack =
    (n : Moment) (t : ℕ) (d : CoreState) → ComesQuietly n → state_of n.core.system t ≡ Some Live
    → (e : IsEnded n.log n.core t d) → GivesBack e.log d t

-- the bases of the run that began there
abbrev pub bases_behind : List Record → Bases
bases_behind L = λ k. recovered (sizes_of L) L

abbrev pub CleanUpGivesBack : Type 0
CleanUpGivesBack =
    (n : Moment) (t : ℕ) (rs : List RegionState) (z : SystemState) (q : ComesQuietly n) → IsWhole n.core → IsDead (state_of n.core.system t)
    → Ends n.core.regions n.core.system t rs z
    → (e : IsCleanedUp (bases_behind q.log) q.log n t rs z) × GivesBack e.log (core rs z n.core.vault) t
