use Rattle.dali_words.proofs.Fields.{field_value}
use Rattle.dali_words.proofs.Value.bytes.Goals as goal

pub returns-clause-value : goal.returns-clause-value
returns-clause-value c = let h = c.self.invariant in field_value c.self.inside.count c.self.inside.bytes c.args.self.now c.self.view_is h.0 h.1 h.2 h.4
