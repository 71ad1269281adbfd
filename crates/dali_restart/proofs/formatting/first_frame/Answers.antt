use Rattle.std.proofs.Common.{◌++◌, List, ℕ, ap, ◌∙◌}
use Rattle.dali_record.specs.declared.records.Record.TheVariants.{Format}
use Rattle.dali_record.specs.Spelling.{spelling}
use Rattle.dali_restart.proofs.Formatted.{few_bytes}
use Rattle.dali_restart.proofs.formatting.first_frame.Goals as goal

pub add-requires : goal.add-requires
add-requires c =
    few_bytes (record { index = c.index.result; heap = c.heap.result }) c.in_ok-frame.frame.body c.deref.result.now
    (c.deref.ensures.value ∙ c.in_ok-encode.ensures.ok ∙ ap (λ (l : List ℕ). l ++ spelling (Format c.index.result c.heap.result)) c.new-bytes.ensures.items)
    c.in_ok-frame.ensures.0
