use Rattle.std.proofs.Common.{◌++◌, ℕ, List, subst}
use Rattle.std.specs.Prelude.{codes}
use Rattle.std.specs.Fmt.{decimal}
use Rattle.dali_store.specs.Store.{name_of as file_text}
use Rattle.dali_streams.specs.Streams.{Appends, AppendsSome}
use Rattle.dali_run.proofs.Pieces.{some_first, then_some}
use Rattle.dali_run.proofs.texts.write_bad_store.Goals as goal

pub returns-in_err-write_all-clause-some : goal.returns-in_err-write_all-clause-some
returns-in_err-write_all-clause-some g c =
    some_first (g.K.Sink.taken c.args.sink.now) (g.K.Sink.taken c.write_all.new.sink) (codes "bad store ") (file_text c.args.file ++ (codes " " ++ (decimal c.args.at ++ codes "\n"))) c.write_all.ensures.some

pub returns-in_err-write_all-2-clause-some : goal.returns-in_err-write_all-2-clause-some
returns-in_err-write_all-2-clause-some g c =
    then_some (g.K.Sink.taken c.args.sink.now) (g.K.Sink.taken c.write_all.new.sink) (g.K.Sink.taken c.write_all-2.new.sink) (codes "bad store ") (file_text c.args.file ++ (codes " " ++ (decimal c.args.at ++ codes "\n"))) c.in_ok-write_all.ensures.all
    (some_first (g.K.Sink.taken c.write_all.new.sink) (g.K.Sink.taken c.write_all-2.new.sink) (file_text c.args.file) (codes " " ++ (decimal c.args.at ++ codes "\n"))
    (subst (λ (l : List ℕ). AppendsSome (g.K.Sink.taken c.write_all.new.sink) l (g.K.Sink.taken c.write_all-2.new.sink)) c.name_of.ensures c.write_all-2.ensures.some))

pub returns-clause-some : goal.returns-clause-some
returns-clause-some g c =
    then_some (g.K.Sink.taken c.args.sink.now) (g.K.Sink.taken c.write_all.new.sink) (g.K.Sink.taken c.write_numbered.new.sink) (codes "bad store ") (file_text c.args.file ++ (codes " " ++ (decimal c.args.at ++ codes "\n"))) c.in_ok-write_all.ensures.all
    (then_some (g.K.Sink.taken c.write_all.new.sink) (g.K.Sink.taken c.write_all-2.new.sink) (g.K.Sink.taken c.write_numbered.new.sink) (file_text c.args.file) (codes " " ++ (decimal c.args.at ++ codes "\n"))
    (subst (λ (l : List ℕ). Appends (g.K.Sink.taken c.write_all.new.sink) l (g.K.Sink.taken c.write_all-2.new.sink)) c.name_of.ensures c.in_ok-write_all-2.ensures.all) c.write_numbered.ensures.some)
