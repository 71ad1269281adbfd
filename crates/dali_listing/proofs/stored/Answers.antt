use Rattle.std.proofs.Common.{ap, sym, ◌∙◌, ◌+◌, ◌*◌, None, Some}
use Rattle.std.specs.Prelude.{slice_index}
use Rattle.dali_access.specs.Index.Records.{cell_value}
use Rattle.dali_listing.specs.Listing.{in_memory}
use Rattle.dali_listing.proofs.Walk.{stands_for}
use Rattle.dali_listing.proofs.stored.Goals as goal

pub returns-in_err-value : goal.returns-in_err-value
returns-in_err-value c = rw c.from_residual-in_err-value.ensures (stands_for c.args.geometry.now (in_memory c.args.regions.now) c.args.region c.args.entry c.words_at-words.result.now (c.in_ok-place.place, c.in_ok-place.cell) None c.words_at-words.ensures (sym c.is_live.ensures ∙ c.if-not-is_live.false) (sym c.cell_of.ensures ∙ c.in_ok-place.was) (sym c.is_reached.ensures ∙ c.if-not-is_reached.false) (sym (c.in_err-value.was) ∙ c.value_of.ensures ∙ ap (λ us. cell_value us c.in_ok-place.cell (slice_index c.words_at-words.result.now (3 * c.args.entry + 2))) c.words_at.ensures))

pub returns : goal.returns
returns c = stands_for c.args.geometry.now (in_memory c.args.regions.now) c.args.region c.args.entry c.words_at-words.result.now (c.in_ok-place.place, c.in_ok-place.cell) (Some c.in_ok-value.value) c.words_at-words.ensures (sym c.is_live.ensures ∙ c.if-not-is_live.false) (sym c.cell_of.ensures ∙ c.in_ok-place.was) (sym c.is_reached.ensures ∙ c.if-not-is_reached.false) (sym (c.in_ok-value.was) ∙ c.value_of.ensures ∙ ap (λ us. cell_value us c.in_ok-place.cell (slice_index c.words_at-words.result.now (3 * c.args.entry + 2))) c.words_at.ensures)
