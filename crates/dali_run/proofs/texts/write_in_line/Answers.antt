use Rattle.std.proofs.Common.{◌≡◌, ◌++◌, ℕ, List, ◌∙◌, ap, subst, append_assoc}
use Rattle.std.specs.Prelude.{codes}
use Rattle.std.specs.Fmt.{decimal}
use Rattle.dali_streams.specs.Streams.{AppendsSome}
use Rattle.dali_run.proofs.Pieces.{some_first, then_some}
use Rattle.dali_run.proofs.texts.write_in_line.Goals as goal

-- the number in its line, and what is behind it
parted : (n : ℕ) (rest : List ℕ) → (codes "line " ++ (decimal n ++ codes ": ")) ++ rest ≡ codes "line " ++ (decimal n ++ (codes ": " ++ rest))
parted n rest = append_assoc (codes "line ") (decimal n ++ codes ": ") rest ∙ ap (λ (l : List ℕ). codes "line " ++ l) (append_assoc (decimal n) (codes ": ") rest)

pub returns-in_err-write_numbered-clause-some : goal.returns-in_err-write_numbered-clause-some
returns-in_err-write_numbered-clause-some g c =
    subst (λ (l : List ℕ). AppendsSome (g.K.Sink.taken c.args.sink.now) l (g.K.Sink.taken c.write_numbered.new.sink)) (parted c.args.number (c.args.text.now ++ codes "\n"))
    (some_first (g.K.Sink.taken c.args.sink.now) (g.K.Sink.taken c.write_numbered.new.sink) (codes "line " ++ (decimal c.args.number ++ codes ": ")) (c.args.text.now ++ codes "\n") c.write_numbered.ensures.some)

pub returns-in_err-write_all-clause-some : goal.returns-in_err-write_all-clause-some
returns-in_err-write_all-clause-some g c =
    subst (λ (l : List ℕ). AppendsSome (g.K.Sink.taken c.args.sink.now) l (g.K.Sink.taken c.write_all.new.sink)) (parted c.args.number (c.args.text.now ++ codes "\n"))
    (then_some (g.K.Sink.taken c.args.sink.now) (g.K.Sink.taken c.write_numbered.new.sink) (g.K.Sink.taken c.write_all.new.sink) (codes "line " ++ (decimal c.args.number ++ codes ": ")) (c.args.text.now ++ codes "\n")
    c.in_ok-write_numbered.ensures.all
    (some_first (g.K.Sink.taken c.write_numbered.new.sink) (g.K.Sink.taken c.write_all.new.sink) c.args.text.now (codes "\n") c.write_all.ensures.some))

pub returns-clause-some : goal.returns-clause-some
returns-clause-some g c =
    subst (λ (l : List ℕ). AppendsSome (g.K.Sink.taken c.args.sink.now) l (g.K.Sink.taken c.write_all-2.new.sink)) (parted c.args.number (c.args.text.now ++ codes "\n"))
    (then_some (g.K.Sink.taken c.args.sink.now) (g.K.Sink.taken c.write_numbered.new.sink) (g.K.Sink.taken c.write_all-2.new.sink) (codes "line " ++ (decimal c.args.number ++ codes ": ")) (c.args.text.now ++ codes "\n")
    c.in_ok-write_numbered.ensures.all
    (then_some (g.K.Sink.taken c.write_numbered.new.sink) (g.K.Sink.taken c.write_all.new.sink) (g.K.Sink.taken c.write_all-2.new.sink) c.args.text.now (codes "\n") c.in_ok-write_all.ensures.all c.write_all-2.ensures.some))
