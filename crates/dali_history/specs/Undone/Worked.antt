-- A worked undo of an entry, and one of a change. Transaction 1 puts the value of key 5 into cell 1 and adds its entry; 2 changes it.
--     added, changed           the two undos
--     first_records, records   the records behind the entry's block, and behind the change
--     EntryIsAsLeft            the entry is found with its key and its place, and is free once the undo was performed
--     ChangeIsAsLeft           the cell is found with the value that was put in, and has its old length and value then
use Rattle.std.specs.Prelude.{◌≡◌, ℕ, List, [], ◌∷◌, Some}
use Rattle.dali_geometry.specs.Sizes.{Sizes}
use Rattle.dali_geometry.specs.Places.{formatted_image}
use Rattle.dali_record.specs.declared.operations.Block.{Block}
use Rattle.dali_record.specs.declared.operations.Pending.{Pending}
use Rattle.dali_record.specs.declared.operations.Op.TheVariants.{Add, Put, Change}
use Rattle.dali_record.specs.declared.operations.Outcome.TheVariants.{Added, Put as PutIn, Changed}
use Rattle.dali_record.specs.declared.operations.Undo.TheVariants.{FreeCell as UndoFreeCell, Restore as UndoRestore, FreeEntry as UndoFreeEntry}
use Rattle.dali_record.specs.declared.records.Record.{Record}
use Rattle.dali_record.specs.declared.records.Record.TheVariants.{Begin, Commit, Forward}
use Rattle.dali_record.specs.Settled.{redo_all}
use Rattle.dali_history.specs.Undos.{undone}
use Rattle.dali_history.specs.Undone.AsLeft.{IsAsLeft, moment, slot_at}

abbrev pub small : Sizes
small = record { index = 1; heap = 1 }

abbrev pub put : Block
put = record { key = 5; region = 1; op = Put (97 ∷ 98 ∷ 99 ∷ []); read = 0xff00; xor = 0x0; write = 0xff00; after = 1 ∷ 5 ∷ 3 ∷ 7017280021047803904 ∷ 0 ∷ 0 ∷ 0 ∷ 0 ∷ []; outcome = PutIn 1; undo = Some (UndoFreeCell 1) }

abbrev pub add : Block
add = record { key = 5; region = 0; op = Add 9; read = 0xe; xor = 0x0; write = 0xe; after = 1 ∷ 5 ∷ 9 ∷ []; outcome = Added 0; undo = Some (UndoFreeEntry 0) }

abbrev pub change : Block
change = record { key = 5; region = 1; op = Change 1 (121 ∷ []); read = 0xff00; xor = 0x6162630000000007; write = 0xfc00; after = 1 ∷ 8718968878589280256 ∷ 0 ∷ 0 ∷ 0 ∷ 0 ∷ []; outcome = Changed; undo = Some (UndoRestore 1 3 (7017280021047803904 ∷ 0 ∷ 0 ∷ 0 ∷ 0 ∷ [])) }

abbrev pub added : Pending
added = record { key = 5; region = 0; undo = UndoFreeEntry 0 }

abbrev pub changed : Pending
changed = record { key = 5; region = 1; undo = UndoRestore 1 3 (7017280021047803904 ∷ 0 ∷ 0 ∷ 0 ∷ 0 ∷ []) }

abbrev pub first_records : List Record
first_records = Begin 1 ∷ Forward 1 put ∷ Forward 1 add ∷ []

abbrev pub records : List Record
records = Begin 1 ∷ Forward 1 put ∷ Forward 1 add ∷ Commit 1 ∷ Begin 2 ∷ Forward 2 change ∷ []

abbrev pub image_of : List Record → List (List ℕ)
image_of K = redo_all (formatted_image small) K

pub record EntryIsAsLeft : Type 0 where
  pub left : IsAsLeft (formatted_image small) first_records 1 1 added (moment (image_of first_records) first_records [] 1 1)
  pub slot : slot_at (image_of first_records) added ≡ 1 ∷ 5 ∷ 9 ∷ []
  pub freed : slot_at (undone (image_of first_records) (added ∷ [])) added ≡ 0 ∷ 5 ∷ 9 ∷ []

pub record ChangeIsAsLeft : Type 0 where
  pub left : IsAsLeft (formatted_image small) records 2 0 changed (moment (image_of records) records [] 2 0)
  pub slot : slot_at (image_of records) changed ≡ 1 ∷ 5 ∷ 1 ∷ 8718968878589280256 ∷ 0 ∷ 0 ∷ 0 ∷ 0 ∷ []
  pub restored : slot_at (undone (image_of records) (changed ∷ [])) changed ≡ 1 ∷ 5 ∷ 3 ∷ 7017280021047803904 ∷ 0 ∷ 0 ∷ 0 ∷ 0 ∷ []
