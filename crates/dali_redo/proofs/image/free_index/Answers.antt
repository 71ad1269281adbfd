use Rattle.std.specs.Prelude.{fold, map}
use Rattle.dali_access.specs.Index.Entries as entry
use Rattle.dali_history.specs.Recovered.{free_word}
use Rattle.dali_redo.proofs.Writes.{one_more_in}
use Rattle.dali_redo.proofs.image.free_index.Goals as goal

pub loop-region-preserved : goal.loop-region-preserved
loop-region-preserved c =
    one_more_in (λ ws. fold free_word ws (map entry.state_word entry.entries)) c.loop-region.regions c.args.regions.now c.loop-region.region _ c.free_entries.new.words c.loop-region-test.true c.loop-region.invariant c.free_entries.ensures
