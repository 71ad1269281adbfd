-- A core as one value, and its place in a run.
--     IsCoreAt s B p gs y v    a run from the start s has come to the point p with these regions, this system and this vault, and while the vault
--                              runs, no frame is in hand: what was taken is flushed
--     HoldsPlaces gs fs        where a region's flag for a side is clear, the file of that side has its place
--     IsWholeCore told gs y v  the core is whole, and so are its image files, where the store tells them
--     IsNoShorter told v w     where the store tells its files, it still does, and no image file became shorter
use Rattle.std.specs.Prelude.{◌≡◌, ℕ, ◌+◌, ◌≤◌, false, List, Some, None, Option, IfSome, length, slice_get}
use Rattle.dali_record.specs.declared.records.Record.{Record}
use Rattle.dali_region.specs.declared.Side.{Side}
use Rattle.dali_region.specs.State.{RegionState}
use Rattle.dali_region.specs.Answers.{is_dirty}
use Rattle.dali_store.specs.Store.{Files as Disk}
use Rattle.dali_store.specs.declared.store.Store.{Ghosts}
use Rattle.dali_runs.specs.State.{SystemState, VaultState}
use Rattle.dali_runs.specs.Wholes.{IsWhole}
use Rattle.dali_crash.specs.Checkpoints.{Point}
use Rattle.dali_crash.specs.Traces.{Start}
use Rattle.dali_crash.specs.Disks.Disks.{image_file}
use Rattle.dali_crash.specs.Disks.Places.{place_of}
use Rattle.dali_core.specs.Vault.Vaulted.{Vaulted}
use Rattle.dali_core.specs.Steps.At.{IsAt}

abbrev pub HoldsPlaces : List RegionState → Disk → Type 0
HoldsPlaces gs fs = (side : Side) (r : ℕ) (g : RegionState) → slice_get gs r ≡ Some g → is_dirty g side ≡ false → place_of (r + 1) ≤ length (image_file side fs)

pub record IsWholeCore {V : Type 0} (told : V → Option Disk) (gs : List RegionState) (y : SystemState) (v : Vaulted V) : Type 0 where
  -- whatever a run says of the vault
  pub parts : (u : VaultState) → IsWhole (record { regions = gs; system = y; vault = u })
  pub files : IfSome (told v.store) (HoldsPlaces gs)

abbrev pub NoShorter : Option Disk → Option Disk → Type 0
NoShorter (Some a) (Some b) = (side : Side) → length (image_file side a) ≤ length (image_file side b)
NoShorter (Some a) None = ⊥
NoShorter None new = new ≡ None

abbrev pub IsNoShorter : {V : Type 0} → (V → Option Disk) → Vaulted V → Vaulted V → Type 0
IsNoShorter told v w = NoShorter (told v.store) (told w.store)

module _ {V : Type 0} (means : Ghosts V) where
  pub record IsCoreAt (s : Start) (B : List (List Record)) (p : Point) (gs : List RegionState) (y : SystemState) (v : Vaulted V) : Type 0 where
    pub regions : p.core.regions ≡ gs
    pub system : p.core.system ≡ y
    pub vault : IsAt means s B p v
    pub none_in_hand : v.stopped ≡ false → v.flushed ≡ y.taken
