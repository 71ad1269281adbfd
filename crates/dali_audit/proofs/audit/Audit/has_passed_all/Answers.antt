use Rattle.std.proofs.Common.{◌≡◌, ◌∙◌, List, ap, sym, rules}
use Rattle.std.specs.List.{list_all}
use Rattle.dali_audit.specs.declared.audit.Finding.{Finding}
use Rattle.dali_audit.specs.Findings.{is_passed}
use Rattle.dali_audit.proofs.Passed.{all_from, all_to}
use Rattle.dali_audit.proofs.audit.Audit.has_passed_all.Goals as goal

pub returns-clause-all : goal.returns-clause-all
returns-clause-all c =
    let same : c.deref.result.now ≡ c.args.self.now.findings = search rules in
    λ all. all_from c.args.self.now.findings (ap (λ (fs : List Finding). list_all is_passed fs) (sym same) ∙ (sym c.are_passed.ensures ∙ all))

pub returns-clause-told : goal.returns-clause-told
returns-clause-told c =
    let same : c.deref.result.now ≡ c.args.self.now.findings = search rules in
    λ all. c.are_passed.ensures ∙ (ap (λ (fs : List Finding). list_all is_passed fs) same ∙ all_to c.args.self.now.findings all)
