use Rattle.std.proofs.lemmas.Result.{IfOk-weaker}
use Rattle.std.proofs.Common.{◌≡◌, ◌∙◌, ap, true}
use Rattle.dali_record.specs.Spelling.{ascends}
use Rattle.dali_resume.specs.Resumed.{deleted_by}
use Rattle.dali_redo.specs.Taint.Following.{scanned}
use Rattle.dali_redo.proofs.TaintLemmas.Starts.{ascends_from, deleted_list}
use Rattle.dali_redo.proofs.taint.taint.Taint.deleted.Goals as goal

pub returns-clause-deleted : goal.returns-clause-deleted
returns-clause-deleted c = λ s d k f. IfOk-weaker c.ascending.result (λ list. list.items ≡ c.args.self.now.deleted.keys) (λ list. list.items ≡ deleted_by k.table k.seen (scanned d k)) (λ list e. e ∙ deleted_list s c.args.self.now d k c.ascending.ensures.ordered f) c.ascending.ensures.keys

pub returns-clause-ascending : goal.returns-clause-ascending
returns-clause-ascending c = IfOk-weaker c.ascending.result (λ list. list.items ≡ c.args.self.now.deleted.keys) (λ list. ascends list.items ≡ true) (λ list e. ap ascends e ∙ ascends_from c.args.self.now.deleted.keys c.ascending.ensures.ordered) c.ascending.ensures.keys
