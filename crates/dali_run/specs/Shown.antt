-- What the words in memory hold between two rounds.
--     IsServing y              the engine runs, and no transaction is left: each one whose client died was cleaned up
--     HoldsExpected L gs y     the words of the regions have the records that the log L is expected to leave, each key's and no others
--     ShowsExpected            so it is where a round may begin, if no region was poked since the core was made and the engine serves
--     VerifiesAlways           there memory, answers and deleted transactions are those that a plain replay of the whole log comes to
use Rattle.std.specs.Prelude.{◌≡◌, ℕ, true, List, Some, None, IfSome, is_some, map}
use Rattle.dali_record.specs.declared.records.Record.{Record}
use Rattle.dali_region.specs.State.{RegionState}
use Rattle.dali_history.specs.Serial.{Map, expected}
use Rattle.dali_history.specs.Images.{HasRecords}
use Rattle.dali_history.specs.History.{IsHistory}
use Rattle.dali_store.specs.declared.store.Store.{Ghosts}
use Rattle.dali_runs.specs.State.{SystemState, row_of}
use Rattle.dali_crash.specs.Checkpoints.{Point}
use Rattle.dali_crash.specs.CrashLogs.{IsUnpoked}
use Rattle.dali_crash.specs.Traces.{Start}
use Rattle.dali_core.specs.Vault.Vaulted.{Vaulted}
use Rattle.dali_listing.specs.Listing.{in_memory}
use Rattle.dali_verify.specs.Verified.{IsWholeLog, IsVerified}
use Rattle.dali_round.specs.Leads.{BeginsAt}

pub record IsServing (y : SystemState) : Type 0 where
  pub runs : y.stop ≡ None
  pub nobody : (t : ℕ) → row_of y t ≡ None

pub record HoldsExpected (L : List Record) (gs : List RegionState) (y : SystemState) : Type 0 where
  pub expects : Map
  pub defined : expected L ≡ Some expects
  pub records : HasRecords y.sizes (map (λ g. g.words) gs) expects

module _ {V : Type 0} (g : Ghosts V) where
  abbrev pub ShowsExpected : Type 0
  ShowsExpected =
      (s : Start) (B : List (List Record)) (p : Point) (gs : List RegionState) (y : SystemState) (v : Vaulted V)
      → BeginsAt g s B p gs y v → is_some (g.told v.store) ≡ true → IsHistory s.log → IsServing y → IsUnpoked p.core
      → HoldsExpected p.log gs y

  abbrev pub VerifiesAlways : Type 0
  VerifiesAlways =
      (s : Start) (B : List (List Record)) (p : Point) (gs : List RegionState) (y : SystemState) (v : Vaulted V)
      → BeginsAt g s B p gs y v → is_some (g.told v.store) ≡ true → IsHistory s.log → IsServing y → IsUnpoked p.core
      → IfSome (g.told v.store) (λ fs. (L : List Record) → IsWholeLog fs.log y L → IsVerified y.sizes (in_memory gs) L)
