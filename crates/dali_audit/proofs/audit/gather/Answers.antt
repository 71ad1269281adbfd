use Rattle.std.proofs.Common.{◌≡◌, ◌+◌, ◌++◌, suc, ℕ, List, ◌∷◌, [], Some, take, get_or, ap, ◌∙◌, sym, arith}
use Rattle.std.specs.Prelude.{slice_get}
use Rattle.dali_audit.specs.declared.audit.Finding.{Finding}
use Rattle.std.proofs.lemmas.Option.{slice_get-get_or}
use Rattle.dali_audit.specs.declared.audit.Finding.TheVariants.{Waiting}
use Rattle.dali_audit.specs.Findings.{damaged, damaged_from}
use Rattle.dali_audit.proofs.Collected.{from_more}
use Rattle.dali_audit.proofs.audit.gather.Goals as goal

pub loop-number-preserved : goal.loop-number-preserved
loop-number-preserved c = (omega (arith, c.loop-number.invariant.0, c.add_if_damaged-found.ensures.bound), c.add_if_damaged-found.auto.failing ∙ c.loop-number.invariant.1, c.add_if_damaged-found.ensures.front ∙ one_more c.loop-number.number (get_or c.args.findings.now c.loop-number.number Waiting) c.args.findings.now (take c.loop-number.found c.loop-number.failing) c.loop-number.invariant.2 (slice_get-get_or c.args.findings.now c.loop-number.number Waiting c.loop-number-test.true))
  where
    one_more : (k : ℕ) (f : Finding) (fs : List Finding) (front : List ℕ) → front ≡ damaged (take k fs) → slice_get fs k ≡ Some f → front ++ damaged_from k (f ∷ []) ≡ damaged (take (k + 1) fs)
    one_more k f fs front e is = let z : 0 + k ≡ k = omega arith in let s : k + 1 ≡ suc k = omega arith in rw (s, e) (sym (from_more 0 k f fs is ∙ ap (λ n. damaged (take k fs) ++ damaged_from n (f ∷ [])) z))
