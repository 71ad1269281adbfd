-- What the blocks of a log keep.
--     HasValue op, HasValues L         the values that operations name are values: 1 to 40 bytes
--     IsWhole b, HasWholeBlocks L      what any operation gives: it reads some word, and an undo comes only with a change
use Rattle.std.specs.Prelude.{◌≡◌, ℕ, true, not, ⊤, List, ◌==◌, Some, IsSome}
use Rattle.dali_words.specs.Values.{IsValue}
use Rattle.dali_record.specs.declared.operations.Op.{Op}
use Rattle.dali_record.specs.declared.operations.Op.TheVariants.{Put, Change}
use Rattle.dali_record.specs.declared.operations.Block.{Block}
use Rattle.dali_record.specs.declared.records.Record.{Record}
use Rattle.dali_record.specs.Blocks.{changes_item}
use Rattle.dali_record.specs.Log.{Touch, touch_at}

abbrev pub HasValue : Op → Type 0
HasValue (Put v) = IsValue v
HasValue (Change c v) = IsValue v
HasValue _ = ⊤

abbrev pub HasValues : List Record → Type 0
HasValues K = (i : ℕ) (a : Touch) → touch_at K i ≡ Some a → HasValue a.block.op

-- what the block of any operation keeps, whatever words it found
pub record IsWhole (b : Block) : Type 0 where
  pub reads : not (b.read == 0) ≡ true
  pub gives : IsSome b.undo → changes_item b ≡ true

abbrev pub HasWholeBlocks : List Record → Type 0
HasWholeBlocks L = (i : ℕ) (a : Touch) → touch_at L i ≡ Some a → IsWhole a.block
