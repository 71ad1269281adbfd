use Rattle.std.proofs.Common.{not, map, rules, tests, ap, ◌∙◌}
use Rattle.std.proofs.lemmas.Iterator.Consumers.{YieldsList-at, YieldsList-from_filter}
use Rattle.std.proofs.lemmas.Iterator.Splits.{YieldsList-from_slice_split}
use Rattle.dali_script.specs.Lines.{is_blank, is_empty}
use Rattle.dali_script.proofs.Extended.{map_from_extend}
use Rattle.dali_script.proofs.lines.put_words.Goals as goal

pub returns : goal.returns
returns c =
    map_from_extend c.extend.result c.extend.ensures.ran
    (YieldsList-from_filter _ (λ word. not (is_empty word))
    (YieldsList-at c.filter.ensures.source (YieldsList-from_slice_split _ is_blank c.args.line.now c.split.ensures.rest c.split.ensures.done c.split.ensures.closure (λ x b q k. search (rules, tests))))
    c.filter.ensures.closure (λ x b q k. search (rules, tests)))
    (λ xs yielded added. ap (λ items. map (λ word. word.now) items) (added.0 ∙ cc) ∙ yielded)
