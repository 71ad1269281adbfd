use Rattle.std.specs.Prelude.{codes}
use Rattle.dali_script.specs.Names.{text_of as name_text}
use Rattle.dali_report.proofs.Fronts.{three}
use Rattle.dali_report.proofs.said.put_stop.Goals as goal

pub returns-in_ok-put_number-in-Damage-clause-ok : goal.returns-in_ok-put_number-in-Damage-clause-ok
returns-in_ok-put_number-in-Damage-clause-ok c =
    rw c.in-Damage.is (three c.args.into.now.items (name_text c.args.name) (codes " stopped damage ") _ _ _ _ c.in_ok-put_with_name-in-Damage.ensures.ok c.in_ok-put_number-in-Damage.ensures.ok c.from.ensures)
