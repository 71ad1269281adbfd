-- A core over a log at rest.
--     system_at r limit        its system: no transaction, no lock, no record since
--     IsRisen r words limit store gs y v       its core: regions with these words, this system, and a vault over this store, which runs
--     IsAtLog M g r words      the log M, which the rules allow and come to g, has no record in its last epoch; these are its numbers, and these words it
--                              comes to. Its end and the number of its image are no greater than its records allow
--     start_at                 the start of a run over that log
--     RunBegins                a run begins with this core, where each disk spells files from which it may start, whatever it takes the words, heads and
--                              syncs of the image files for, which aren't read before a checkpoint
use Rattle.std.specs.Prelude.{◌≡◌, ◌≤◌, ◌+◌, ◌*◌, ◌^◌, ℕ, Bool, List, [], Option, Some, IfSome, false, length, map, sum_by}
use Rattle.std.specs.FinMap as finite
use Rattle.dali_record.specs.declared.records.Record.{Record}
use Rattle.dali_record.specs.Epochs.{last_epoch}
use Rattle.dali_record.specs.Legal.{Rules, rules_state, sizes_of}
use Rattle.dali_record.specs.Spelling.{record_length}
use Rattle.dali_history.specs.Recovered.{recovered}
use Rattle.dali_region.specs.declared.Side.{Side}
use Rattle.dali_region.specs.State.{RegionState, loaded}
use Rattle.dali_store.specs.Store.{Files as Disk}
use Rattle.dali_store.specs.declared.store.Store.{Ghosts}
use Rattle.dali_runs.specs.State.{SystemState}
use Rattle.dali_runs.specs.Loads.{new_system}
use Rattle.dali_runs.specs.Images.{Told}
use Rattle.dali_system.specs.Served.{Served}
use Rattle.dali_crash.specs.Checkpoints.{Head}
use Rattle.dali_crash.specs.Starts.{IsLawful}
use Rattle.dali_crash.specs.Traces.{Start, StartsAt, start_point}
use Rattle.dali_crash.specs.Disks.Disks.{AllSpell}
use Rattle.dali_core.specs.Vault.Vaulted.{Vaulted}
use Rattle.dali_core.specs.Vault.Stepped.{vault_in}
use Rattle.dali_core.specs.Cores.{IsCoreAt}
use Rattle.dali_restart.specs.declared.rise.rising.Resting.{Resting}

abbrev pub system_at : Resting → ℕ → Served
system_at r limit = record { state = new_system r.geometry r.records r.next r.weight limit; promised = finite.empty }

pub record IsRisen {V : Type 0} (r : Resting) (words : List (List ℕ)) (limit : ℕ) (store : V) (gs : List RegionState) (y : Served) (v : Vaulted V) : Type 0 where
  pub regions : gs ≡ map loaded words
  pub system : y ≡ system_at r limit
  pub vault : v ≡ record { store = store; end = r.end; flushed = 0; current = r.current; stopped = false }

pub record IsAtLog (M : List Record) (g : Rules) (r : Resting) (words : List (List ℕ)) : Type 0 where
  pub lawful : IsLawful M
  pub rules : rules_state (sizes_of M) M ≡ Some g
  pub none : (last_epoch M).records ≡ []
  pub sizes : r.geometry ≡ sizes_of M
  pub records : r.records ≡ g.count
  pub weight : r.weight ≡ g.weight
  pub next : r.next ≡ g.next
  pub image : words ≡ recovered (sizes_of M) M
  pub short : r.end ≤ sum_by record_length M + 5 * length M
  pub moved : r.current ≤ length M + 2 ^ 61

module _ {V : Type 0} (means : Ghosts V) where
  abbrev pub start_at : List Record → Rules → ℕ → Vaulted V → Told → (Side → Head) → (Side → Bool) → Start
  start_at M g limit v words heads synced = record { log = M; rules = g; limit = limit; vault = vault_in means.faults (means.faults v.store) v; told = words; heads = heads; synced = synced }

  abbrev pub RunBegins : Resting → List (List ℕ) → ℕ → List RegionState → SystemState → Vaulted V → Type 0
  RunBegins r image limit gs y v =
      (M : List Record) (g : Rules) (B : List (List Record)) (words : Told) (heads : Side → Head) (synced : Side → Bool) → IsAtLog M g r image
      → let start = start_at M g limit v words heads synced in
      IfSome (means.told v.store) (λ _. AllSpell (means.may_leave v.store) (λ F. StartsAt start F × (F.batches ≡ B)))
      → IsCoreAt means start B (start_point start) gs y v
