use Rattle.std.proofs.Common.{◌≡◌, ◌-◌, take, drop, map}
use Rattle.dali_words.specs.Words.{mask_of}
use Rattle.dali_access.specs.Heap.Cells.{cells, state_word}
use Rattle.dali_access.specs.Heap.Rows.{put, put_among}
use Rattle.dali_access.proofs.heap.put.Given as goal

abbrev pub invariant-loop-cell : goal.invariant-loop-cell
invariant-loop-cell l = record {
  seen : l.read ≡ mask_of (map state_word (take (l.cell - 1) cells));
  rest : put_among l.words l.key l.value (map state_word (take (l.cell - 1) cells)) (drop (l.cell - 1) cells) ≡ put l.words l.key l.value;
}
