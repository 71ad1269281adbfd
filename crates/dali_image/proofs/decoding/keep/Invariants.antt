use Rattle.std.proofs.Common.{◌≡◌, take}
use Rattle.std.specs.FinMap.{insert}
use Rattle.dali_att.specs.declared.state.State.TheVariants.{Live}
use Rattle.dali_image.proofs.decoding.keep.Given as goal

abbrev pub invariant-loop-undo : goal.invariant-loop-undo
invariant-loop-undo l = l.att ≡ insert l.fn.att l.row.txn (record { state = Live; undos = take l.undo-index l.row.undos.items })
