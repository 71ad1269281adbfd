-- What laws over the definitions speak of.
--     MarksAreChains           the marks are the blocks at the end of a chain
--     IsHonestFor d base E     each block that isn't sound stands on a failing region, at or after the clean place
use Rattle.std.specs.Prelude.{◌≡◌, ℕ, ◌+◌, ◌<◌, ◌≤◌, ◌⊎◌, ◌↔◌, true, List, Some, length}
use Rattle.dali_record.specs.declared.records.Record.{Record}
use Rattle.dali_record.specs.Log.{Touch, touch_at}
use Rattle.dali_record.specs.Damage.{Damage, has, marks, mark_at, IsCorrupt}
use Rattle.dali_record.specs.Settled.{IsSoundAt}

-- the marks are the blocks at the end of a chain
abbrev pub MarksAreChains : Type 0
MarksAreChains = (d : Damage) (E : List Record) (q : ℕ) → q < length E → (mark_at (marks d E) q ≡ true) ↔ IsCorrupt d E q

-- each block that isn't sound stands on a failing region, at or after the clean place
abbrev pub IsHonestFor : Damage → List (List ℕ) → List Record → Type 0
IsHonestFor d base E = (i : ℕ) (a : Touch) → touch_at E i ≡ Some a → IsSoundAt base E i ⊎ ((d.clean ≤ d.first + i) × (has d.failing a.block.region ≡ true))
