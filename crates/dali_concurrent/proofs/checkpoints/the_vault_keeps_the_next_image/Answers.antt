use Rattle.dali_concurrent.proofs.Calls.{at_meets, files_hold, header_holds, table_holds, sync_holds, turn_holds}
use Rattle.dali_concurrent.proofs.checkpoints.the_vault_keeps_the_next_image.Goals as goal

pub returns : goal.returns
returns g c = record {
  meets = at_meets g.V.Store;
  files = files_hold g.V.Store;
  header = header_holds g.V.Store;
  table = table_holds g.V.Store;
  synced = sync_holds g.V.Store;
  turned = turn_holds g.V.Store;
}
