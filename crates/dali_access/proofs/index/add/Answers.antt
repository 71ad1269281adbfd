use Rattle.std.proofs.Common.{◌∙◌, ap}
use Rattle.dali_access.specs.declared.index.AddOutcome.TheVariants.{Added, NoEntry}
use Rattle.dali_access.proofs.IndexLemmas.Walks.{add_seen, add_on, add_found, add_raised, add_ended}
use Rattle.dali_access.proofs.IndexLemmas.Dependence.{add_by_reads}
use Rattle.dali_access.proofs.index.add.Goals as goal

pub returns-then-words-first-eq-FREE-clause-by_reads : goal.returns-then-words-first-eq-FREE-clause-by_reads
returns-then-words-first-eq-FREE-clause-by_reads c = add_by_reads c.args.key c.args.place c.args.words.now

pub returns-then-words-eq0-clause-by_reads : goal.returns-then-words-eq0-clause-by_reads
returns-then-words-eq0-clause-by_reads c = add_by_reads c.args.key c.args.place c.args.words.now

pub returns-clause-by_reads : goal.returns-clause-by_reads
returns-clause-by_reads c = add_by_reads c.args.key c.args.place c.args.words.now

pub returns-then-words-first-eq-FREE-clause-row : goal.returns-then-words-first-eq-FREE-clause-row
returns-then-words-first-eq-FREE-clause-row c =
    ap (λ e. (e, Added c.loop-entry.entry)) c.writing.ensures ∙ add_found c.args.words.now c.args.key c.args.place c.loop-entry.entry c.loop-entry.read c.bits.result c.loop-entry-test.true c.if-words-first-eq-FREE.true c.loop-entry.invariant.seen c.bits.ensures c.loop-entry.invariant.rest

pub loop-entry-preserved : goal.loop-entry-preserved
loop-entry-preserved c = record {
  seen = add_seen c.loop-entry.entry c.loop-entry.read c.bit-read.result c.loop-entry-test.true c.loop-entry.invariant.seen c.bit-read.ensures;
  rest = add_on c.args.words.now c.args.key c.args.place c.loop-entry.entry c.loop-entry-test.true c.if-words-first-eq-FREE.false c.loop-entry.invariant.rest;
}

pub returns-then-words-eq0-clause-row : goal.returns-then-words-eq0-clause-row
returns-then-words-eq0-clause-row c =
    ap (λ e. (e, NoEntry)) c.writing-then-words-eq0.ensures ∙ add_raised c.args.words.now c.args.key c.args.place c.loop-entry.entry c.loop-entry.read c.bit.result c.loop-entry-test.false c.if-words-eq0.true c.loop-entry.invariant.seen c.bit.ensures c.loop-entry.invariant.rest

pub returns-clause-row : goal.returns-clause-row
returns-clause-row c =
    ap (λ e. (e, NoEntry)) c.reading.ensures ∙ add_ended c.args.words.now c.args.key c.args.place c.loop-entry.entry c.loop-entry.read c.bit.result c.loop-entry-test.false c.if-words-eq0.false c.loop-entry.invariant.seen c.bit.ensures c.loop-entry.invariant.rest
