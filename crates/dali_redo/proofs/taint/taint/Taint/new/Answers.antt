use Rattle.std.proofs.Common.{sym, ap, ◌∙◌}
use Rattle.std.specs.Prelude.{nat_eq}
use Rattle.std.specs.List.{list_any}
use Rattle.std.specs.Ordering.{nat_cmp}
use Rattle.std.specs.BTreeMap.{is_at}
use Rattle.dali_record.specs.Damage.{has}
use Rattle.dali_redo.proofs.TaintLemmas.Starts.{starts, zero_words}
use Rattle.dali_redo.proofs.taint.taint.Taint.new.Goals as goal

pub returns : goal.returns
returns c = λ d k e g b. starts c.args.geometry _ d k c.args.att.now (sym e)
    (λ t. c.in_ok-set_of.ensures t ∙ ap (λ ns. has ns t) (sym g))
    (c.in_ok-no_words.ensures ∙ ap zero_words c.regions.ensures.count)
    (λ i. ap (list_any (nat_eq i)) c.new.ensures.empty)
    (λ t. ap (list_any (is_at (nat_cmp t))) c.new-2.ensures.empty)
    c.in_ok-copy.ensures
    (λ t. ap (list_any (is_at (nat_cmp t))) c.new-3.ensures.empty)
    b
