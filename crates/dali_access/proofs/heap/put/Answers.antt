use Rattle.std.proofs.Common.{◌≡◌, ◌∙◌, ap, lit≤, ℕ, List, [], ◌∷◌, ◌++◌, length}
use Rattle.dali_words.specs.Values.{packed}
use Rattle.dali_access.specs.declared.heap.PutOutcome.TheVariants.{Put, NoCell}
use Rattle.dali_access.proofs.HeapLemmas.Dependence.{put_by_reads}
use Rattle.dali_access.proofs.HeapLemmas.Walk.{seen_more, rest_more, found, none}
use Rattle.dali_access.proofs.heap.put.Goals as goal

pub returns-then-words-first-eq-FREE-clause-by_reads : goal.returns-then-words-first-eq-FREE-clause-by_reads
returns-then-words-first-eq-FREE-clause-by_reads c = put_by_reads c.args.key c.args.value.now c.args.words.now

pub returns-clause-by_reads : goal.returns-clause-by_reads
returns-clause-by_reads c = put_by_reads c.args.key c.args.value.now c.args.words.now

pub returns-then-words-first-eq-FREE-clause-row : goal.returns-then-words-first-eq-FREE-clause-row
returns-then-words-first-eq-FREE-clause-row c =
    let size : length c.bytes.result.now ≡ length c.args.value.now = ap length c.bytes.ensures.same in
    let packs : c.copy_from_slice.new.self ≡ packed c.args.value.now = c.copy_from_slice.ensures.after ∙ c.pack.ensures in
    let news = ap (λ (xs : List ℕ). 1 ∷ c.args.key ∷ length c.bytes.result.now ∷ (xs ++ [])) packs ∙ ap (λ n. 1 ∷ c.args.key ∷ n ∷ packed c.args.value.now) size in
    ap (λ e. (e, Put c.loop-cell.cell)) c.writing.ensures ∙ found c.args.words.now c.args.key c.args.value.now _ c.loop-cell.cell c.loop-cell.read c.bits.result c.loop-cell.auto.cell c.loop-cell-test.true c.if-words-first-eq-FREE.true c.loop-cell.invariant.seen c.bits.ensures news c.loop-cell.invariant.rest

pub loop-cell-preserved : goal.loop-cell-preserved
loop-cell-preserved c = record {
  seen = seen_more c.loop-cell.cell c.loop-cell.read c.bit-read.result c.loop-cell.auto.cell c.loop-cell-test.true c.loop-cell.invariant.seen c.bit-read.ensures;
  rest = rest_more c.args.words.now c.args.key c.args.value.now c.loop-cell.cell c.loop-cell.auto.cell c.loop-cell-test.true c.if-words-first-eq-FREE.false c.loop-cell.invariant.rest;
}

pub returns-clause-row : goal.returns-clause-row
returns-clause-row c =
    ap (λ e. (e, NoCell)) c.reading.ensures ∙ none c.args.words.now c.args.key c.args.value.now c.loop-cell.cell c.loop-cell.read c.loop-cell-test.false (c.loop-cell.auto.cell-end (lit≤ tt)) c.loop-cell.invariant.seen c.loop-cell.invariant.rest
