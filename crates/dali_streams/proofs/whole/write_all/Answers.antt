use Rattle.std.proofs.Common.{◌≡◌, ◌∙◌, ◌-◌, List, ℕ, length, take, drop, sym, subst}
use Rattle.std.proofs.lemmas.List.{take_rest}
use Rattle.dali_streams.proofs.Steps.{Writes, writes_on, rest_goes_on, some_written}
use Rattle.dali_streams.proofs.whole.write_all.Goals as goal

pub returns-in_err-count-clause-some : goal.returns-in_err-count-clause-some
returns-in_err-count-clause-some g c =
    some_written _ (g.K.Sink.taken c.loop-rest.sink) _ c.args.bytes.now c.loop-rest.rest.now c.in_err-count.ensures.err c.loop-rest.invariant.rest c.loop-rest.invariant.so_far

pub loop-rest-preserved : goal.loop-rest-preserved
loop-rest-preserved g c =
    let rest = c.loop-rest.rest.now in
    let n = c.in_ok-count.count in
    let same : take (length rest - n) (drop n rest) ≡ drop n rest = take_rest rest n in
    record {
      so_far =
          subst (λ (l : List ℕ). Writes (g.K.Sink.taken c.args.sink.now) c.args.bytes.now l (g.K.Sink.taken c.write.new.self)) (sym same)
          (writes_on _ (g.K.Sink.taken c.loop-rest.sink) _ c.args.bytes.now rest n c.loop-rest.invariant.so_far c.in_ok-count.ensures.bytes);
      rest = rest_goes_on c.args.bytes.now rest _ n same c.loop-rest.invariant.rest;
      kept = c.in_ok-count.ensures.cause.kept ∙ c.loop-rest.invariant.kept;
    }
