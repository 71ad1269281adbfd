-- The passes of an audit, one after another.
use Rattle.std.proofs.Common.{◌≡◌, ℕ, suc, ◌+◌, ◌<◌, List, length, map, replicate, Some, ap, sym, subst, ◌∙◌, arith}
use Rattle.std.specs.Prelude.{slice_get, slice_set}
use Rattle.dali_lists.proofs.Lists.{get_within}
use Rattle.dali_lists.proofs.Options.{some_same}
use Rattle.dali_region.specs.State.{RegionState, checked}
use Rattle.dali_audit.specs.declared.audit.Finding.{Finding}
use Rattle.dali_audit.specs.declared.audit.Finding.TheVariants.{Waiting}
use Rattle.dali_audit.specs.Findings.{Audited, finding_of, AllPassed}
use Rattle.dali_checkpoint.specs.Making.{found_in}
use Rattle.dali_checkpoint.proofs.Walks.{walk, walk_get, walk_set, walk_all, map_none}
use Rattle.dali_checkpoint.proofs.Results.{all_found}

module _ (init gs : List RegionState) (a0 a : Audited) (i : ℕ) (is : a ≡ record a0 { findings = walk found_in (λ _. Waiting) i init }) (regions : gs ≡ walk checked (λ g. g) i init) (within : i < length init) where
  pub waits_at : slice_get a.findings i ≡ Some Waiting
  waits_at =
      let x = get_within init i within in
      ap (λ (b : Audited). slice_get b.findings i) is ∙ walk_get found_in (λ _. Waiting) i init x.0 x.1

  module _ (g h : RegionState) (b : Audited) (at : slice_get gs i ≡ Some g) (passed : b ≡ record a { findings = slice_set a.findings i (finding_of g.stray) }) (checks : h ≡ checked g) where
    one : (x : RegionState) × (slice_get init i ≡ Some x)
    one = get_within init i within

    same : g ≡ one.0
    same = some_same (sym at ∙ (ap (λ l. slice_get l i) regions ∙ walk_get checked (λ z. z) i init one.0 one.1))

    step_is : suc i ≡ i + 1
    step_is = omega arith

    pub passed_one : b ≡ record a0 { findings = walk found_in (λ _. Waiting) (i + 1) init }
    passed_one =
        passed
        ∙ (ap (λ (c : Audited). record c { findings = slice_set c.findings i (finding_of g.stray) }) is
        ∙ ap (λ (fs : List Finding). record a0 { findings = fs })
        (ap (λ (x : RegionState). slice_set (walk found_in (λ _. Waiting) i init) i (found_in x)) same
        ∙ (walk_set found_in (λ _. Waiting) i init one.0 one.1 ∙ ap (λ n. walk found_in (λ _. Waiting) n init) step_is)))

    pub checked_one : slice_set gs i h ≡ walk checked (λ z. z) (i + 1) init
    checked_one =
        ap (λ l. slice_set l i h) regions
        ∙ (ap (λ (x : RegionState). slice_set (walk checked (λ z. z) i init) i x) (checks ∙ ap checked same)
        ∙ (walk_set checked (λ z. z) i init one.0 one.1 ∙ ap (λ n. walk checked (λ z. z) n init) step_is))

-- behind the last one
pub passed_all : (init : List RegionState) (a0 a : Audited) (i : ℕ) → i ≡ length init → a ≡ record a0 { findings = walk found_in (λ _. Waiting) i init } → a ≡ record a0 { findings = map found_in init }
passed_all init a0 a i end is = is ∙ ap (λ (fs : List Finding). record a0 { findings = fs }) (ap (λ n. walk found_in (λ _. Waiting) n init) end ∙ walk_all found_in (λ _. Waiting) init)

pub checked_all : (init gs : List RegionState) (i : ℕ) → i ≡ length init → gs ≡ walk checked (λ g. g) i init → gs ≡ map checked init
checked_all init gs i end is = is ∙ (ap (λ n. walk checked (λ g. g) n init) end ∙ walk_all checked (λ g. g) init)

-- before the first, and behind all
pub none_passed : (init : List RegionState) (a : Audited) (b n : ℕ) → a ≡ record { begin = b; findings = replicate n Waiting } → length init ≡ n → a.findings ≡ map (λ _. Waiting) init
none_passed init a b n is all = ap (λ (c : Audited). c.findings) is ∙ (ap (λ m. replicate m Waiting) (sym all) ∙ sym (map_none Waiting init))

pub end_passed : (init : List RegionState) (a0 a : Audited) → a ≡ record a0 { findings = map found_in init } → AllPassed a.findings
end_passed init a0 a is = subst (λ (c : Audited). AllPassed c.findings) (sym is) (all_found init)
