use Rattle.std.proofs.Common.{◌≡◌, ◌++◌, take, drop}
use Rattle.std.specs.Prelude.{fold, map}
use Rattle.dali_access.specs.Index.Entries as entry
use Rattle.dali_history.specs.Recovered.{free_word}
use Rattle.dali_redo.proofs.image.free_index.Given as goal

abbrev pub invariant-loop-region : goal.invariant-loop-region
invariant-loop-region l = l.regions ≡ map (λ ws. fold free_word ws (map entry.state_word entry.entries)) (take l.region l.initial.regions) ++ drop l.region l.initial.regions
