use Rattle.std.proofs.Common.{◌∙◌, sym}
use Rattle.clap.specs.Words.{first_of, found_of, rows_of}
use Rattle.dali_arguments.specs.Meaning.{number_between}
use Rattle.dali_arguments.proofs.Getters.{absent, behind, given, nothing}
use Rattle.dali_arguments.proofs.reading.amount.Goals as goal

pub returns-in_err-get_str : goal.returns-in_err-get_str
returns-in_err-get_str c =
    let f = found_of c.args.matches.now in
    let none = absent f c.args.name.now c.get_str.result c.get_str.ensures c.in_err-get_str.was in
    c.from_residual.ensures ∙ sym (nothing (first_of c.args.name.now (rows_of f)) (number_between 1 c.args.most) none)

pub returns-in_err-amount : goal.returns-in_err-amount
returns-in_err-amount c =
    let f = found_of c.args.matches.now in
    let text = given f c.args.name.now c.get_str.result c.in_ok-get_str.field-0 c.get_str.ensures c.in_ok-get_str.was in
    c.from_residual-in_err-amount.ensures ∙ (sym c.in_err-amount.was ∙ (c.between.ensures
    ∙ sym (behind (first_of c.args.name.now (rows_of f)) c.in_ok-get_str.field-0.now (number_between 1 c.args.most) text)))

pub returns : goal.returns
returns c =
    let f = found_of c.args.matches.now in
    let text = given f c.args.name.now c.get_str.result c.in_ok-get_str.field-0 c.get_str.ensures c.in_ok-get_str.was in
    sym c.in_ok-amount.was ∙ (c.between.ensures
    ∙ sym (behind (first_of c.args.name.now (rows_of f)) c.in_ok-get_str.field-0.now (number_between 1 c.args.most) text))
