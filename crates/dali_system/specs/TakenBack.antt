-- A transaction that is taken back.
--     next_undo undos n        the undo that is performed next, where more than n are left: the last one
--     want_of o                what the plan needs next, by that undo
--     IsMadeOf u b, IsUndoBlock o b    b is the block of its operation on some words
--     IsUndoOn ws o b          it is that of its operation on the words ws
use Rattle.std.specs.Prelude.{◌≡◌, ℕ, List, Option, Some, None, if◌then◌else◌, nat_lt, length}
use Rattle.dali_record.specs.declared.operations.Pending.{Pending}
use Rattle.dali_record.specs.declared.operations.Block.{Block}
use Rattle.dali_record.specs.Operations.{undo_op}
use Rattle.dali_record.specs.Blocks.{made}
use Rattle.dali_record.specs.Spelling.{IsBlock}
use Rattle.dali_att.specs.Table.{last_of}
use Rattle.dali_system.specs.declared.want.Want.{Want}
use Rattle.dali_system.specs.declared.want.Want.TheVariants.{Region, Nothing}

abbrev pub next_undo : List Pending → ℕ → Option Pending
next_undo undos n = if nat_lt n (length undos) then last_of undos else None

abbrev pub want_of : Option Pending → Want
want_of None = Nothing
want_of (Some u) = Region u.region

pub record IsMadeOf (u : Pending) (b : Block) : Type 0 where
  pub words : List ℕ
  pub made_on : b ≡ made words u.key u.region (undo_op u.undo)
  pub spelled : IsBlock b

abbrev pub IsUndoBlock : Option Pending → Block → Type 0
IsUndoBlock None b = ⊥
IsUndoBlock (Some u) b = IsMadeOf u b

abbrev pub IsUndoOn : List ℕ → Option Pending → Block → Type 0
IsUndoOn ws None b = ⊥
IsUndoOn ws (Some u) b = b ≡ made ws u.key u.region (undo_op u.undo)
