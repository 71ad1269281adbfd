use Rattle.std.proofs.Common.{◌≡◌, ℕ, subst, ap, ◌∙◌}
use Rattle.std.specs.Prelude.{bit_xor}
use Rattle.dali_words.specs.Words.{parity_of}
use Rattle.dali_region.specs.State.{RegionState, IsProtected, taken_back, restored}
use Rattle.dali_region.specs.Fields.{state_of}
use Rattle.dali_region.proofs.Holds.{taken_back_keeps, taken_back_is, same_stray, to_same, others_stay}
use Rattle.dali_region.proofs.Olds.{restored_nothing}
use Rattle.dali_region.proofs.Region.take_back.Goals as goal

-- the words that are left
words_are : (c : goal.After-self-2-1) → c.restore.new.words ≡ (state_of c.self.inside).back
words_are c = c.restore.ensures ∙ ap (λ m. restored m c.self.inside.olds c.self.inside.words) c.written.ensures

pub returns-clause-after : goal.returns-clause-after
returns-clause-after c =
    let before : ℕ = c.parity-before.result in
    let codeword = same_stray (state_of c.self.inside) _ c.parity-before.result (parity_of (state_of c.self.inside).back) c.self.invariant c.parity-before.ensures (ap (λ n. bit_xor c.self.inside.codeword (bit_xor c.parity-before.result n)) (c.parity.ensures ∙ ap parity_of (words_are c))) in
    taken_back_is (state_of c.self.inside) c.args.self.now _ c.restore.new.words _ c.self.view_is (words_are c) (restored_nothing c.self.inside.olds c.restore.new.words ∙ words_are c) codeword

pub returns-clause-protected : goal.returns-clause-protected
returns-clause-protected c = to_same _ _ (returns-clause-after c) (subst (λ (g : RegionState). IsProtected (taken_back g)) c.self.view_is (taken_back_keeps (state_of c.self.inside) c.self.invariant))

pub returns-clause-others : goal.returns-clause-others
returns-clause-others c = others_stay (state_of c.self.inside) c.args.self.now c.restore.new.words c.self.view_is c.self.invariant (words_are c)

pub invariant_of-self : goal.invariant_of-self
invariant_of-self c = returns-clause-protected c
