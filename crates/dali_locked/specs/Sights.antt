-- What contracts see of the values behind locks and of a client, each with the history that its note has seen; and what a step tells.
--     ClientSight, SystemSight, RegionSight, VaultSight    what contracts see of each
--     client_sight b x ..      its note
--     Tells notes item new     these notes add the item together, and have then seen this
--     Knows b P x              the client x knows that P is so of what it has seen, wherever the round began
--     Acts c t                 the client c acts for t, which is live
--     HasLogged n x            the record with the number n is x
use Rattle.std.specs.Prelude.{◌≡◌, ℕ, List, Some, slice_get}
use Rattle.dali_record.specs.declared.records.Record.{Record}
use Rattle.dali_region.specs.State.{RegionState}
use Rattle.dali_att.specs.declared.state.State.TheVariants.{Live}
use Rattle.dali_system.specs.Served.{Served}
use Rattle.dali_core.specs.Vault.Vaulted.{Vaulted}
use Rattle.dali_notes.specs.History.{Sight, Added}
use Rattle.dali_concurrent.specs.Entries.{system_note, vault_note, region_note, client_note, actor_by}
use Rattle.dali_concurrent.specs.Rules.{Outset, log_by, state_by}
use Rattle.dali_concurrent.specs.Told.{Item, History, plain}
use Rattle.dali_locked.specs.Begun.{Begun, Of}

pub record ClientSight : Type 0 where
  pub id : ℕ
  pub seen : History

pub record SystemSight : Type 0 where
  pub served : Served
  pub seen : History

pub record RegionSight : Type 0 where
  pub number : ℕ
  -- how many operations' steps its note has told
  pub steps : ℕ
  -- audits that began at earlier records than this one have passed it last
  pub audits : ℕ
  pub region : RegionState
  pub seen : History

pub record VaultSight (V : Type 0) : Type 0 where
  pub vault : Vaulted V
  pub seen : History

-- ---- their notes
abbrev pub client_sight : Begun → ClientSight → Sight Item
client_sight b x = record { table = b.table; number = client_note b.count x.id; seen = x.seen }

abbrev pub system_sight : Begun → SystemSight → Sight Item
system_sight b x = record { table = b.table; number = system_note; seen = x.seen }

abbrev pub region_sight : Begun → RegionSight → Sight Item
region_sight b x = record { table = b.table; number = region_note x.number; seen = x.seen }

abbrev pub vault_sight : {V : Type 0} → Begun → VaultSight V → Sight Item
vault_sight b x = record { table = b.table; number = vault_note; seen = x.seen }

-- ---- what a client knows
abbrev pub Knows : Begun → (Outset → History → Type 0) → ClientSight → Type 0
Knows b P x = Of b P x.seen

pub record Acts (c t : ℕ) (o : Outset) (T : History) : Type 0 where
  pub actor : actor_by t (plain T) ≡ Some c
  pub lives : state_by o (plain T) t ≡ Some Live

abbrev pub HasLogged : ℕ → Record → Outset → History → Type 0
HasLogged n x o T = slice_get (log_by o (plain T)) n ≡ Some x
