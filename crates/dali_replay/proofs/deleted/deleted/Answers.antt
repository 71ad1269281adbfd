use Rattle.std.proofs.Common.{◌≡◌, ◌∙◌, ℕ, List, sym, subst}
use Rattle.std.specs.Prelude.{Contains, nat_eq}
use Rattle.std.specs.List.{dedup}
use Rattle.std.proofs.lemmas.List.Sorted.{Contains-permutation, IsPermutation-sym}
use Rattle.std.proofs.lemmas.List.Filters.{dedup_is}
use Rattle.std.proofs.lemmas.List.Kept.{Contains-dedup_nat, Contains-from_dedup}
use Rattle.std.proofs.lemmas.Map.Keys.{IsStrictlyIncreasing-dedup}
use Rattle.std.specs.List.Sorted.{IsStrictlyIncreasing}
use Rattle.dali_replay.proofs.Deletes.{deleted_by_chain}
use Rattle.dali_replay.proofs.deleted.deleted.Goals as goal

pub returns-clause-ascends : goal.returns-clause-ascends
returns-clause-ascends c = subst IsStrictlyIncreasing (sym (dedup_is nat_eq c.sort.new.self.items c.dedup.new.self.items c.dedup.ensures.filtered)) (IsStrictlyIncreasing-dedup c.sort.new.self.items c.in_ok-sort.ensures.sorted)

pub returns-clause-deleted : goal.returns-clause-deleted
returns-clause-deleted c t =
    let is : c.dedup.new.self.items ≡ dedup nat_eq c.sort.new.self.items = dedup_is nat_eq c.sort.new.self.items c.dedup.new.self.items c.dedup.ensures.filtered in (
      (λ h. (deleted_by_chain c.args.log.now t).0 (subst (λ (xs : List ℕ). Contains xs t) c.in_ok-deleted.ensures (Contains-permutation c.sort.new.self.items c.in_ok-deleted.deleted.items t (IsPermutation-sym c.in_ok-deleted.deleted.items c.sort.new.self.items c.sort.ensures.permutation) (Contains-from_dedup nat_eq c.sort.new.self.items t (subst (λ (xs : List ℕ). Contains xs t) is h))))),
      (λ h. subst (λ (xs : List ℕ). Contains xs t) (sym is) (Contains-dedup_nat c.sort.new.self.items t (Contains-permutation c.in_ok-deleted.deleted.items c.sort.new.self.items t c.sort.ensures.permutation (subst (λ (xs : List ℕ). Contains xs t) (sym c.in_ok-deleted.ensures) ((deleted_by_chain c.args.log.now t).1 h))))),
    )
