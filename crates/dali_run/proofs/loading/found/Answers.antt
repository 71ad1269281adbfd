use Rattle.std.proofs.Common.{◌≡◌, List, sym, ◌∙◌, subst}
use Rattle.dali_listing.specs.Listing.{in_memory, IsListing}
use Rattle.dali_listing.specs.declared.Listed.{Listed}
use Rattle.dali_run.proofs.loading.found.Goals as goal

pub returns-then-are_same-clause-finds : goal.returns-then-are_same-clause-finds
returns-then-are_same-clause-finds g c =
    let same : c.args.rows.now ≡ c.in_ok-listed-in-Ok.listed.items = c.are_same.ensures.0 c.if-are_same.true ∙ c.deref.ensures.value in
    record {
      found = c.in-Ok.found;
      finds = c.in-Ok.ensures.finds;
      listing = subst (λ (rows : List Listed). IsListing c.in-Ok.found.geometry (in_memory c.in-Ok.found.regions.items) rows) (sym same) c.in_ok-listed-in-Ok.ensures;
    }

pub returns-in-Ok-clause-fails : goal.returns-in-Ok-clause-fails
returns-in-Ok-clause-fails g c = record {
  others = c.in_ok-listed-in-Ok.listed.items;
  finds = record { found = c.in-Ok.found; finds = c.in-Ok.ensures.finds; listing = c.in_ok-listed-in-Ok.ensures };
  differ = λ same. let yes = c.are_same.ensures.1 (same ∙ sym c.deref.ensures.value) in let no = c.if-are_same.false in cc;
}
