-- What each value keeps where a round begins.
--     ValuesStart bases p o    nothing was done: the system, the regions and the clients are as told
--     RoundStarts              so it is from each point at which a round may begin
--     VaultStarts              and the vault is where it stands there
use Rattle.std.specs.Prelude.{◌≡◌, ℕ, List, [], Some, slice_get}
use Rattle.dali_record.specs.declared.records.Record.{Record}
use Rattle.dali_region.specs.State.{RegionState}
use Rattle.dali_store.specs.declared.store.Store.{Ghosts}
use Rattle.dali_runs.specs.Run.{Bases}
use Rattle.dali_crash.specs.Checkpoints.{Point}
use Rattle.dali_crash.specs.Traces.{Start}
use Rattle.dali_transcripts.specs.Words.{Act}
use Rattle.dali_core.specs.Vault.Vaulted.{Vaulted}
use Rattle.dali_core.specs.Steps.At.{IsAt}
use Rattle.dali_concurrent.specs.Rules.{Outset}
use Rattle.dali_concurrent.specs.Landing.{BeginsAt}
use Rattle.dali_concurrent.specs.Kept.{SystemTold, RegionTold}
use Rattle.dali_concurrent.specs.Clients.{ClientTold, begun_at}
use Rattle.dali_concurrent.specs.Calls.{VaultAt}

pub record ValuesStart (bases : Bases) (p : Point) (o : Outset) : Type 0 where
  pub system : SystemTold o o.old.system []
  pub regions : (r : ℕ) (g : RegionState) → slice_get o.old.regions r ≡ Some g → RegionTold o r g []
  pub clients : (c : ℕ) (acts : List Act) → ClientTold o (begun_at c acts) []

abbrev pub RoundStarts : Type 0
RoundStarts = (bases : Bases) (p : Point) (o : Outset) → BeginsAt bases p o → ValuesStart bases p o

abbrev pub VaultStarts : {V : Type 0} → Ghosts V → Type 0
VaultStarts {V} means =
    (s : Start) (B : List (List Record)) (p : Point) (o : Outset) (v : Vaulted V) → IsAt means s B p v → VaultAt means s B p o v []
