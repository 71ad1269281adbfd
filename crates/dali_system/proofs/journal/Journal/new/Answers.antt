use Rattle.std.proofs.Common.{◌≡◌, ap, arith, List, [], ◌∙◌}
use Rattle.dali_record.specs.declared.records.Record.{Record}
use Rattle.dali_system.specs.Journaled.{Journaled}
use Rattle.dali_system.specs.Promised.{Promised, total}
use Rattle.dali_system.proofs.Totals.{total_none}
use Rattle.dali_system.proofs.Journals.{kept_none}
use Rattle.dali_system.proofs.journal.Journal.new.Goals as goal

pub invariant_of-result : goal.invariant_of-result
invariant_of-result c =
    let none : total c.new-3.result ≡ 0 = ap total c.new-3.ensures ∙ total_none in (
      kept_none c.new.result.items c.in_ok-new.field-0 c.new.ensures c.in_ok-new.ensures.0 c.in_ok-new.ensures.1,
      record { frame = omega (arith, none); few = rw c.in_ok-new.ensures.0 (omega (arith, none)); small = omega (arith, none) },
    )

pub returns : goal.returns
returns c =
    ap (λ (l : List Record). let m : Journaled = record { since = l; taken = 0; promised = c.new-3.result } in m) c.new.ensures
    ∙ ap (λ (p : Promised). let m : Journaled = record { since = []; taken = 0; promised = p } in m) c.new-3.ensures
