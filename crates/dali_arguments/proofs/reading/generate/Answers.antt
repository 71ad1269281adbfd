use Rattle.std.proofs.Common.{◌∙◌, ap, sym}
use Rattle.std.specs.Prelude.{codes}
use Rattle.clap.specs.Words.{found_of, rows_of}
use Rattle.dali_script.specs.Texts.{number_of}
use Rattle.dali_arguments.proofs.Getters.{absent, given, generated_none, generated_unread, generated_with}
use Rattle.dali_arguments.proofs.reading.generate.Goals as goal

pub returns-in_err-get_str : goal.returns-in_err-get_str
returns-in_err-get_str c =
    let f = found_of c.args.matches.now in
    c.from_residual-in_err-get_str.ensures ∙ sym (generated_none (rows_of f) c.in_ok-amount.field-0 c.in_ok-amount-2.field-0
    (sym c.amount.ensures ∙ c.in_ok-amount.was) (sym c.amount-2.ensures ∙ c.in_ok-amount-2.was)
    (absent f (codes "number") c.get_str.result c.get_str.ensures c.in_err-get_str.was))

pub returns-in_err-number : goal.returns-in_err-number
returns-in_err-number c =
    let f = found_of c.args.matches.now in
    let text = c.in_ok-get_str.field-0 in
    c.from_residual-in_err-number.ensures ∙ sym (generated_unread (rows_of f) c.in_ok-amount.field-0 c.in_ok-amount-2.field-0 text.now
    (sym c.amount.ensures ∙ c.in_ok-amount.was) (sym c.amount-2.ensures ∙ c.in_ok-amount-2.was)
    (given f (codes "number") c.get_str.result text c.get_str.ensures c.in_ok-get_str.was)
    (ap number_of (sym c.as_bytes.ensures.value) ∙ (sym c.number.ensures ∙ c.in_err-number.was)))

pub returns : goal.returns
returns c =
    let f = found_of c.args.matches.now in
    let text = c.in_ok-get_str.field-0 in
    sym (generated_with (rows_of f) c.in_ok-amount.field-0 c.in_ok-amount-2.field-0 c.in_ok-number.field-0 text.now
    (sym c.amount.ensures ∙ c.in_ok-amount.was) (sym c.amount-2.ensures ∙ c.in_ok-amount-2.was)
    (given f (codes "number") c.get_str.result text c.get_str.ensures c.in_ok-get_str.was)
    (ap number_of (sym c.as_bytes.ensures.value) ∙ (sym c.number.ensures ∙ c.in_ok-number.was)))
