-- What the blocks of a spelled log keep, in each of its epochs.
use Rattle.std.proofs.Common.{◌≡◌, ◌<◌, ◌^◌, true, List}
use Rattle.std.specs.Prelude.{IsSome, Contains}
use Rattle.dali_record.specs.declared.records.Record.{Record}
use Rattle.dali_record.specs.Blocks.{changes_item}
use Rattle.dali_record.specs.Spelling.{IsBlock}
use Rattle.dali_record.specs.Log.{Touch}
use Rattle.dali_record.specs.Epochs.{Epoch, epochs}
use Rattle.dali_record.proofs.Undos.{undo_changes}
use Rattle.dali_record.proofs.EpochRules.{EachTouch, touches_in_epochs, AllEpochs-contains}
use Rattle.dali_history.specs.History.{AreSpelled}
use Rattle.dali_history.proofs.Spelled.{block_at}

-- an undo comes only with a change, and the words that are read are those of a region
abbrev pub IsFine : Touch → Type 0
IsFine a = (IsSome a.block.undo → changes_item a.block ≡ true) × (a.block.read < 2 ^ 64)

pub fine_in_epochs : (L : List Record) (e : Epoch) → AreSpelled L → Contains (epochs L) e → EachTouch IsFine e.records
fine_in_epochs L e spelled here = AllEpochs-contains (λ d. EachTouch IsFine d.records) L e (touches_in_epochs IsFine L each) here
  where
    each : EachTouch IsFine L
    each i a at = let b : IsBlock a.block = block_at L spelled i a at in (undo_changes a.block b, b.read)
