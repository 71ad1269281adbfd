-- Which values of a core a deed is made on. Each region, the system and the vault may stand behind a lock of its own: who does the deed has the locks of all
-- these values in hand at that moment, and no other value changes by it.
--     Touched                  one region at most, the system or not, the vault or not
--     touches x                what the deed x is made on
--     is_at r x                the region r is among it
--     HoldersTouch             what the holder of a region does on it is made on the region and on the system
--     OthersAreLeft            what is told of a region, of the system or of the vault changes by the deeds alone that are made on it
use Rattle.std.specs.Prelude.{◌≡◌, ℕ, Bool, true, false, ◌==◌, Option, Some, None}
use Rattle.std.specs.Option.{option_map, option_map_or}
use Rattle.dali_record.specs.Log.{Touch, touch_of}
use Rattle.dali_locks.specs.declared.mode.Mode.{Mode}
use Rattle.dali_att.specs.declared.state.State.{State}
use Rattle.dali_transcripts.specs.Words.{Why, Damaged, StoreFailed}
use Rattle.dali_transcripts.specs.World.{Deed, Logs, Strays, DiesOn, GivesBack, MovesAnchor, Meets, record_of, state_step, lock_step, refusal_of, span_step, failing, stray_step, poked_step}
use Rattle.dali_transcripts.specs.Rounds.{is_on}

pub record Touched : Type 0 where
  pub region : Option ℕ
  pub system : Bool
  pub vault : Bool

-- the system, with a region if there is one
abbrev pub on_system : Option ℕ → Touched
on_system region = record { region = region; system = true; vault = false }

-- a refusal is the system's; what a latch finds damaged is seen on its region; and where a store call fails, vault and system stop in one step
abbrev pub met_on : Why → Touched
met_on (Damaged region codeword found) = on_system (Some region)
met_on StoreFailed = record { region = None; system = true; vault = true }
met_on why = on_system None

abbrev pub touches : Deed → Touched
-- a block that is logged ends the hold of its region
touches (Logs x) = on_system (option_map (λ (a : Touch). a.block.region) (touch_of x))
touches (Strays r word mask) = record { region = Some r; system = false; vault = false }
-- the hold is dead, and so is the row
touches (DiesOn t r) = on_system (Some r)
touches (GivesBack t latched) = on_system latched
touches (MovesAnchor number) = record { region = None; system = false; vault = true }
touches (Meets why) = met_on why
touches x = on_system None

abbrev pub is_at : ℕ → Deed → Bool
is_at r x = option_map_or (λ q. q == r) (touches x).region false

abbrev pub HoldersTouch : Type 0
HoldersTouch = (r : ℕ) (x : Deed) → is_on r x ≡ true → (is_at r x ≡ true) × ((touches x).system ≡ true)

pub record OthersAreLeft : Type 0 where
  pub region : (r : ℕ) (x : Deed) (c : ℕ) → is_at r x ≡ false → ((s : ℕ) → stray_step r s (x, c) ≡ s) × ((p : Bool) → poked_step r p (x, c) ≡ p)
  pub system : (x : Deed) (c : ℕ) → (touches x).system ≡ false
      → (record_of (x, c) ≡ None) × (refusal_of (x, c) ≡ None) × ((o : Option ℕ) → span_step o (x, c) ≡ o)
      × ((t : ℕ) (o : Option State) → state_step t o (x, c) ≡ o) × ((t k : ℕ) (o : Option Mode) → lock_step t k o (x, c) ≡ o)
  -- its failure; the anchor's number is in its own deed
  pub vault : (x : Deed) (c : ℕ) → (touches x).vault ≡ false → (b : Bool) → failing b (x, c) ≡ b
