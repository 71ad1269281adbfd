-- A history: entries with what they leave, and the core and the world that it tells.
--     Effect                   what an entry leaves of the values whose locks are in hand
--     vault_on was v           the vault behind an entry that leaves v
--     Item                     an entry with its effect, and with the steps of the core since the last entry
--     Line, History            an item behind the numbers of the notes that signed it;  a list of these
--     plain H                  the entries alone
--     core_told o H            the core that they leave
--     world_told o H           the round's world by then
--     steps_told H             the steps that they tell
--     Comes p o H q            by these steps a run went on from the point p to q, where just this core stands
--     EffectFits ks f          the effect f is on values whose notes are among ks
--     AllOn H                  so is each entry's
--     is_tie e                 the entry is no deed
use Rattle.std.specs.Prelude.{◌≡◌, ℕ, Bool, true, false, List, Some, fold, flat_map, map, slice_get, slice_set}
use Rattle.dali_region.specs.State.{RegionState}
use Rattle.dali_runs.specs.State.{SystemState, VaultState, CoreState}
use Rattle.dali_crash.specs.Checkpoints.{StoreStep, Point, IsPointCourse}
use Rattle.dali_transcripts.specs.World.{World}
use Rattle.dali_transcripts.specs.Grown.{world_of}
use Rattle.dali_notes.specs.History.{signs}
use Rattle.dali_concurrent.specs.Entries.{Entry, Did, Entries, system_note, vault_note, region_note, deeds_of}
use Rattle.dali_concurrent.specs.Rules.{Outset, before, log_by}

pub data Effect : Type 0 where
  Leaves : Effect
  OnRegion : (region : ℕ) → (after : RegionState) → Effect
  OnSystem : (after : SystemState) → Effect
  OnVault : (after : VaultState) → Effect
  -- a deed on a region
  OnBoth : (region : ℕ) → (after : RegionState) → (system : SystemState) → Effect
  -- the store fails
  OnStop : (vault : VaultState) → (system : SystemState) → Effect

-- how many faults were counted before the run is of where it began: who has the vault in hand doesn't know it
abbrev pub vault_on : VaultState → VaultState → VaultState
vault_on was v = record v { faults_then = was.faults_then }

abbrev pub effect_on : CoreState → Effect → CoreState
effect_on c Leaves = c
effect_on c (OnRegion r g) = record { regions = slice_set c.regions r g; system = c.system; vault = c.vault }
effect_on c (OnSystem y) = record { regions = c.regions; system = y; vault = c.vault }
effect_on c (OnVault v) = record { regions = c.regions; system = c.system; vault = vault_on c.vault v }
effect_on c (OnBoth r g y) = record { regions = slice_set c.regions r g; system = y; vault = c.vault }
effect_on c (OnStop v y) = record { regions = c.regions; system = y; vault = vault_on c.vault v }

abbrev pub Item : Type 0
Item = Entry × Effect × List StoreStep

abbrev pub Line : Type 0
Line = List ℕ × Item

abbrev pub History : Type 0
History = List Line

abbrev pub plain_one : Line → List ℕ × Entry
plain_one p = (p.0, p.1.0)

abbrev pub plain : History → Entries
plain H = map plain_one H

abbrev pub told_step : CoreState → Line → CoreState
told_step c p = effect_on c p.1.1

abbrev pub core_told : Outset → History → CoreState
core_told o H = fold told_step o.old H

abbrev pub world_told : Outset → History → World
world_told o H = world_of o.old (before o) o.precheck (deeds_of (plain H)) (core_told o H)

-- ---- the course
abbrev pub steps_told : History → List StoreStep
steps_told H = flat_map (λ (e : Line). e.1.2) H

pub record Comes (p : Point) (o : Outset) (H : History) (q : Point) : Type 0 where
  pub course : IsPointCourse p (steps_told H) q
  pub log : q.log ≡ log_by o (plain H)
  pub core : q.core ≡ core_told o H

-- ---- effects
abbrev pub EffectFits : List ℕ → Effect → Type 0
EffectFits ks Leaves = Unit {0}
EffectFits ks (OnRegion r g) = signs (region_note r) ks ≡ true
EffectFits ks (OnSystem y) = signs system_note ks ≡ true
EffectFits ks (OnVault v) = signs vault_note ks ≡ true
EffectFits ks (OnBoth r g y) = (signs (region_note r) ks ≡ true) × (signs system_note ks ≡ true)
EffectFits ks (OnStop v y) = (signs vault_note ks ≡ true) × (signs system_note ks ≡ true)

abbrev pub AllOn : History → Type 0
AllOn H = (i : ℕ) (e : Line) → slice_get H i ≡ Some e → EffectFits e.0 e.1.1

-- ---- ties
abbrev pub is_tie : Entry → Bool
is_tie (Did x c) = false
is_tie e = true
