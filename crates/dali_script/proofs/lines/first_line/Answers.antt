use Rattle.std.proofs.Common.{◌+◌, ◌∷◌, take, sym, ◌∙◌, ap}
use Rattle.std.proofs.lemmas.List.{take_rest}
use Rattle.dali_script.specs.Lines.{lines_of}
use Rattle.dali_script.proofs.CutLines.{cut_at, cut_nowhere}
use Rattle.dali_script.proofs.lines.first_line.Goals as goal

pub returns-in-Some-clause-lines : goal.returns-in-Some-clause-lines
returns-in-Some-clause-lines c =
    let text = c.args.text.now in
    let k = c.in-Some.end in
    cut_at _ text k (sym c.in-Some.ensures) ∙ ap (λ rest. take k text ∷ lines_of rest) (sym (take_rest text (k + 1)))

pub returns-in-None-clause-lines : goal.returns-in-None-clause-lines
returns-in-None-clause-lines c = cut_nowhere _ c.args.text.now (sym c.in-None.ensures)
