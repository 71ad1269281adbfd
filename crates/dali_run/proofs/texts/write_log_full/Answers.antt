use Rattle.std.proofs.Common.{◌≡◌, ◌++◌, ℕ, List, ◌∙◌, ap, subst, append_assoc}
use Rattle.std.specs.Prelude.{codes}
use Rattle.std.specs.Fmt.{decimal}
use Rattle.dali_streams.specs.Streams.{AppendsSome}
use Rattle.dali_run.proofs.Pieces.{some_first, then_some}
use Rattle.dali_run.proofs.texts.write_log_full.Goals as goal

-- the first number in its line, and what is behind it
parted : (n : ℕ) (rest : List ℕ) → (codes "log full " ++ (decimal n ++ codes " ")) ++ rest ≡ codes "log full " ++ (decimal n ++ (codes " " ++ rest))
parted n rest = append_assoc (codes "log full ") (decimal n ++ codes " ") rest ∙ ap (λ (l : List ℕ). codes "log full " ++ l) (append_assoc (decimal n) (codes " ") rest)

pub returns-in_err-write_numbered-clause-some : goal.returns-in_err-write_numbered-clause-some
returns-in_err-write_numbered-clause-some g c =
    subst (λ (l : List ℕ). AppendsSome (g.K.Sink.taken c.args.sink.now) l (g.K.Sink.taken c.write_numbered.new.sink)) (parted c.args.end (decimal c.args.limit ++ codes "\n"))
    (some_first (g.K.Sink.taken c.args.sink.now) (g.K.Sink.taken c.write_numbered.new.sink) (codes "log full " ++ (decimal c.args.end ++ codes " ")) (decimal c.args.limit ++ codes "\n") c.write_numbered.ensures.some)

pub returns-clause-some : goal.returns-clause-some
returns-clause-some g c =
    subst (λ (l : List ℕ). AppendsSome (g.K.Sink.taken c.args.sink.now) l (g.K.Sink.taken c.write_numbered-2.new.sink)) (parted c.args.end (decimal c.args.limit ++ codes "\n"))
    (then_some (g.K.Sink.taken c.args.sink.now) (g.K.Sink.taken c.write_numbered.new.sink) (g.K.Sink.taken c.write_numbered-2.new.sink) (codes "log full " ++ (decimal c.args.end ++ codes " ")) (decimal c.args.limit ++ codes "\n")
    c.in_ok-write_numbered.ensures.all c.write_numbered-2.ensures.some)
