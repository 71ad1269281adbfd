-- A database that was just made, as a core over its store.
--     first_body s             the bytes of the one record of its log
--     formatted_regions s      its regions
--     first_system s limit     its system: a log of one record, no transaction, no lock
--     IsNewCore s limit gs y v     its core: these regions, this system, and a vault over a log that ends behind the first batch, with no image
--     MakesAtAnyMoment s old new   a crash at any moment leaves the files as before, or, where the log was without batches, a log without batches or with the first one
--     IsLeft s old new         this, and what else is so whatever is answered: a count of faults that never falls, and twelve calls at most
--     first_at                 the start of a run over such a log
--     RunBegins                a run begins with this core, whatever it takes the words of the image files for, which it doesn't read
use Rattle.std.specs.Prelude.{◌≡◌, ◌≤◌, ◌⊎◌, ℕ, Bool, false, List, [], ◌∷◌, Option, IfSome, is_some, map}
use Rattle.std.specs.FinMap as finite
use Rattle.dali_geometry.specs.Sizes.{Sizes}
use Rattle.dali_geometry.specs.Places.{formatted_image}
use Rattle.dali_record.specs.declared.records.Record.{Record}
use Rattle.dali_record.specs.declared.records.Record.TheVariants.{Format}
use Rattle.dali_record.specs.Spelling.{spelling}
use Rattle.dali_record.specs.Legal.{passes, rules_start}
use Rattle.dali_region.specs.declared.Side.{Side}
use Rattle.dali_region.specs.State.{RegionState, loaded}
use Rattle.dali_store.specs.Store.{Files as Disk, LeavesOnly}
use Rattle.dali_store.specs.Calls.{PassesFewer, MakesAtMost}
use Rattle.dali_store.specs.declared.store.Store.{Ghosts}
use Rattle.dali_log.specs.Batch.{IsUnformatted}
use Rattle.dali_log.specs.Formatting.{FormatLeaves}
use Rattle.dali_runs.specs.State.{SystemState}
use Rattle.dali_runs.specs.Loads.{new_system}
use Rattle.dali_runs.specs.Images.{Told}
use Rattle.dali_system.specs.Served.{Served}
use Rattle.dali_crash.specs.Checkpoints.{Head}
use Rattle.dali_crash.specs.Traces.{Start, start_point}
use Rattle.dali_crash.specs.Disks.Bridges.{first_start}
use Rattle.dali_core.specs.Vault.Vaulted.{Vaulted}
use Rattle.dali_core.specs.Vault.Stepped.{vault_in}
use Rattle.dali_core.specs.Cores.{IsCoreAt}

abbrev pub first_record : Sizes → Record
first_record s = Format s.index s.heap

abbrev pub first_body : Sizes → List ℕ
first_body s = spelling (first_record s)

abbrev pub formatted_regions : Sizes → List RegionState
formatted_regions s = map loaded (formatted_image s)

abbrev pub first_system : Sizes → ℕ → Served
first_system s limit = record { state = new_system s 1 1 10 limit; promised = finite.empty }

pub record IsNewCore {V : Type 0} (s : Sizes) (limit : ℕ) (gs : List RegionState) (y : Served) (v : Vaulted V) : Type 0 where
  pub regions : gs ≡ formatted_regions s
  pub system : y ≡ first_system s limit
  pub vault : v ≡ record { store = v.store; end = 15; flushed = 0; current = 0; stopped = false }

module _ {V : Type 0} (told : V → Option Disk) (may_leave : V → Disk → Type 0) (moment : V → ℕ) (left_since : V → ℕ → Disk → Type 0) where
  abbrev pub MakesAtAnyMoment : Sizes → V → V → Type 0
  MakesAtAnyMoment s old new =
      IfSome (told old) (λ fs. LeavesOnly moment left_since old new (λ c. may_leave old c ⊎ (IsUnformatted fs.log × FormatLeaves (may_leave old) (first_body s) c)))

module _ {V : Type 0} (means : Ghosts V) where
  pub record IsLeft (s : Sizes) (old new : V) : Type 0 where
    pub any_moment : MakesAtAnyMoment means.told means.may_leave means.moment means.left_since s old new
    pub tells : is_some (means.told new) ≡ is_some (means.told old)
    pub later : means.faults old ≤ means.faults new
    pub most : MakesAtMost 12 (means.lets_pass old) (means.lets_pass new)
    pub passes : PassesFewer (means.lets_pass old) (means.lets_pass new)

module _ {V : Type 0} (means : Ghosts V) where
  abbrev pub first_at : Sizes → ℕ → Vaulted V → Told → (Side → Head) → (Side → Bool) → Start
  first_at s limit v words heads synced =
      first_start s.index s.heap (passes rules_start (first_record s)) limit (vault_in means.faults (means.faults v.store) v) words heads synced

  abbrev pub RunBegins : Sizes → ℕ → List RegionState → SystemState → Vaulted V → Type 0
  RunBegins s limit gs y v =
      (words : Told) (heads : Side → Head) (synced : Side → Bool)
      → let start = first_at s limit v words heads synced in IsCoreAt means start ((first_record s ∷ []) ∷ []) (start_point start) gs y v
