use Rattle.std.proofs.Common.{sym, ◌∙◌}
use Rattle.dali_listing.specs.Listing.{in_memory}
use Rattle.dali_listing.proofs.Walk.{stops, goes, next_within}
use Rattle.dali_listing.proofs.is_reached.Goals as goal

pub returns-then-words_at-eq0 : goal.returns-then-words_at-eq0
returns-then-words_at-eq0 c = sym (stops c.args.geometry.now (in_memory c.args.regions.now) c.loop.counter c.index-end.result c.loop.here c.args.region c.words_at.result.now c.loop-test.true c.if-here-region.false c.words_at.ensures c.if-words_at-eq0.true) ∙ c.loop.invariant.rest

pub loop-preserved : goal.loop-preserved
loop-preserved c = rw c.next_index-here.ensures (record {
  within = next_within c.args.geometry.now c.loop.here c.loop.invariant.within;
  rest = goes c.args.geometry.now (in_memory c.args.regions.now) c.loop.counter c.index-end.result c.loop.here c.args.region c.words_at.result.now c.loop-test.true c.if-here-region.false c.words_at.ensures c.if-words_at-eq0.false ∙ c.loop.invariant.rest;
})
