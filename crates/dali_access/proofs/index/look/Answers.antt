use Rattle.std.proofs.Common.{◌≡◌, ◌∙◌, ◌+◌, ◌*◌, ap, refl, arith, get_or}
use Rattle.std.specs.Prelude.{◌==◌, not}
use Rattle.dali_access.specs.Index.Entries.{place_word}
use Rattle.dali_access.specs.declared.index.LookOutcome.TheVariants.{Found, Absent}
use Rattle.dali_access.proofs.IndexLemmas.Walks.{look_seen, look_on, look_found, look_ended}
use Rattle.dali_access.proofs.IndexLemmas.Dependence.{look_by_reads}
use Rattle.dali_access.proofs.index.look.Goals as goal

pub returns-then-has_key-clause-by_reads : goal.returns-then-has_key-clause-by_reads
returns-then-has_key-clause-by_reads c = look_by_reads c.args.key c.args.words.now

pub returns-clause-by_reads : goal.returns-clause-by_reads
returns-clause-by_reads c = look_by_reads c.args.key c.args.words.now

pub returns-then-has_key-clause-row : goal.returns-then-has_key-clause-row
returns-then-has_key-clause-row c =
    let at : 3 * c.loop-entry.entry + 1 + 2 ≡ place_word c.loop-entry.entry = omega arith in
    ap (λ e. (e, Found c.loop-entry.entry (get_or c.args.words.now (3 * c.loop-entry.entry + 1 + 2) 0))) c.reading.ensures
    ∙ look_found c.args.words.now c.args.key c.loop-entry.entry c.loop-entry.read c.bits.result _ c.has_key.result c.loop-entry-test.true c.has_key.ensures c.if-has_key.true c.loop-entry.invariant.seen c.bits.ensures (ap (λ i. get_or c.args.words.now i 0) at) c.loop-entry.invariant.rest

pub loop-entry-preserved : goal.loop-entry-preserved
loop-entry-preserved c = record {
  seen = look_seen c.args.words.now c.loop-entry.entry c.loop-entry.read c.passed-read.result c.loop-entry-test.true c.loop-entry.invariant.seen c.passed-read.ensures;
  rest = look_on c.args.words.now c.args.key c.loop-entry.entry c.has_key.result c.loop-entry-test.true c.has_key.ensures c.if-has_key.false c.loop-entry.invariant.rest;
}

pub returns-clause-row : goal.returns-clause-row
returns-clause-row c =
    ap (λ e. (e, Absent (not (get_or c.args.words.now 0 0 == 0)))) c.reading-2.ensures
    ∙ look_ended c.args.words.now c.args.key c.loop-entry.entry c.loop-entry.read c.bit.result _ c.loop-entry-test.false c.loop-entry.invariant.seen c.bit.ensures refl c.loop-entry.invariant.rest
