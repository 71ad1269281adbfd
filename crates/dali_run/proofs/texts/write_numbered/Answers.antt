use Rattle.std.proofs.Common.{◌≡◌, ◌++◌, ℕ, List, ◌∙◌, subst}
use Rattle.std.specs.Fmt.{decimal}
use Rattle.dali_streams.specs.Streams.{Appends, AppendsSome}
use Rattle.dali_run.proofs.Pieces.{some_first, then_some}
use Rattle.dali_run.proofs.texts.write_numbered.Goals as goal

pub returns-in_err-write_all-2-clause-some : goal.returns-in_err-write_all-2-clause-some
returns-in_err-write_all-2-clause-some g c =
    let number : c.as_bytes.result.now ≡ decimal c.args.number = c.as_bytes.ensures.value ∙ c.format.ensures.text in
    then_some (g.K.Sink.taken c.args.sink.now) (g.K.Sink.taken c.write_all.new.sink) (g.K.Sink.taken c.write_all-2.new.sink) c.args.before.now (decimal c.args.number ++ c.args.behind.now) c.in_ok-write_all.ensures.all
    (some_first (g.K.Sink.taken c.write_all.new.sink) (g.K.Sink.taken c.write_all-2.new.sink) (decimal c.args.number) c.args.behind.now
    (subst (λ (l : List ℕ). AppendsSome (g.K.Sink.taken c.write_all.new.sink) l (g.K.Sink.taken c.write_all-2.new.sink)) number c.write_all-2.ensures.some))

pub returns-clause-some : goal.returns-clause-some
returns-clause-some g c =
    let number : c.as_bytes.result.now ≡ decimal c.args.number = c.as_bytes.ensures.value ∙ c.format.ensures.text in
    then_some (g.K.Sink.taken c.args.sink.now) (g.K.Sink.taken c.write_all.new.sink) (g.K.Sink.taken c.write_all-3.new.sink) c.args.before.now (decimal c.args.number ++ c.args.behind.now) c.in_ok-write_all.ensures.all
    (then_some (g.K.Sink.taken c.write_all.new.sink) (g.K.Sink.taken c.write_all-2.new.sink) (g.K.Sink.taken c.write_all-3.new.sink) (decimal c.args.number) c.args.behind.now
    (subst (λ (l : List ℕ). Appends (g.K.Sink.taken c.write_all.new.sink) l (g.K.Sink.taken c.write_all-2.new.sink)) number c.in_ok-write_all-2.ensures.all) c.write_all-3.ensures.some)
