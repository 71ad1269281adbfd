-- A core that was just made, over a log whose last epoch has no record yet.
--     new_system s first next end limit      the system as it is made
--     new_core s base g limit v       the core, over regions with these words
--     IsAtRest s L g           the last epoch of L is empty, and no transaction runs
--     LoadRuns                 a core made over such a log is a run
--     FormatRests, EmptyRests      logs that are at rest
use Rattle.std.specs.Prelude.{◌≡◌, ℕ, ◌≤◌, false, List, [], ◌∷◌, Some, None, map, length, ◌==◌}
use Rattle.std.specs.FinMap.{empty}
use Rattle.dali_words.specs.Words.{AllAreWords}
use Rattle.dali_geometry.specs.Sizes.{Sizes}
use Rattle.dali_geometry.specs.Places.{regions}
use Rattle.dali_record.specs.declared.records.Record.{Record}
use Rattle.dali_record.specs.declared.records.Record.TheVariants.{Format}
use Rattle.dali_record.specs.Spelling.{CanBeSpelled}
use Rattle.dali_record.specs.Epochs.{last_epoch}
use Rattle.dali_record.specs.Legal.{Rules, passes, rules_start, rules_state, txn_state, Unbegun}
use Rattle.dali_region.specs.State.{loaded}
use Rattle.dali_runs.specs.State.{SystemState, VaultState, CoreState}
use Rattle.dali_runs.specs.Run.{LogRun, Bases, base_at, RunsOn, is_running}

abbrev pub new_system : Sizes → ℕ → ℕ → ℕ → ℕ → SystemState
new_system s first next end limit = record { sizes = s; first = first; since = []; taken = 0; table = empty; locks = empty; refusals = []; records = first; end = end; next = next; limit = limit; stop = None; checking = false }

-- the last epoch is empty, and no transaction runs
pub record IsAtRest (s : Sizes) (L : List Record) (g : Rules) : Type 0 where
  pub log : LogRun s L
  pub rules : rules_state s L ≡ Some g
  pub some : (g.count == 0) ≡ false
  pub failed : g.failed ≡ false
  pub none : (last_epoch L).records ≡ []
  pub number : (last_epoch L).first ≡ g.count
  pub idle : (t : ℕ) → is_running (txn_state s t L) ≡ false
  pub fresh : (t : ℕ) → g.next ≤ t → txn_state s t L ≡ Some Unbegun

abbrev pub new_core : Sizes → List (List ℕ) → Rules → ℕ → VaultState → CoreState
new_core s base g limit v = record { regions = map loaded base; system = new_system s g.count g.next g.weight limit; vault = v }

abbrev pub LoadRuns : Type 0
LoadRuns =
    (bases : Bases) (s : Sizes) (L : List Record) (g : Rules) (limit : ℕ) (v : VaultState) → IsAtRest s L g
    → limit ≤ 268435456 → length (base_at bases L) ≡ regions s → AllAreWords (base_at bases L)
    → RunsOn bases L (new_core s (base_at bases L) g limit v)

-- the log of a store that was just formatted
abbrev pub FormatRests : Type 0
FormatRests = (s : Sizes) → CanBeSpelled (Format s.index s.heap) → IsAtRest s (Format s.index s.heap ∷ []) (passes rules_start (Format s.index s.heap))

-- a log whose last epoch has no record, as behind a format or a restart
abbrev pub EmptyRests : Type 0
EmptyRests = (s : Sizes) (L : List Record) (g : Rules) → LogRun s L → rules_state s L ≡ Some g → (last_epoch L).records ≡ [] → IsAtRest s L g
