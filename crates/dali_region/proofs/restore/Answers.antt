use Rattle.std.proofs.Common.{◌≡◌, ◌+◌, ◌<◌, length, sym, ◌∙◌, arith}
use Rattle.dali_region.proofs.Olds.{IsRestoredTo, restores_one, restores_none, restored_all}
use Rattle.dali_region.proofs.restore.Goals as goal
use Rattle.dali_region.proofs.restore.Goals.{then-set-bit-ne0, else-set-bit-ne0}

pub loop-word-preserved : goal.loop-word-preserved
loop-word-preserved c = record { size = next.size; done = next.done; left = next.left }
  where
    so_far : IsRestoredTo c.args.set c.args.olds.now c.args.words.now c.loop-word.words c.loop-word.word
    so_far = record { size = c.loop-word.invariant.size; done = c.loop-word.invariant.done; left = c.loop-word.invariant.left }

    even : length c.args.olds.now ≡ length c.args.words.now
    even = c.told-olds ∙ sym c.told-words

    within : c.loop-word.word < length c.args.words.now
    within = omega (arith, c.told-words, c.loop-word-test.true)

    next : IsRestoredTo c.args.set c.args.olds.now c.args.words.now c.if-set-bit-ne0.words (c.loop-word.word + 1)
    next = elim c.if-set-bit-ne0.branch [
      | then-set-bit-ne0 w ↦ restores_one c.args.set c.loop-word.word c.bit.result c.args.olds.now c.args.words.now c.loop-word.words c.if-set-bit-ne0.words so_far even within c.bit.ensures w.if-set-bit-ne0.true w.words-is
      | else-set-bit-ne0 w ↦ restores_none c.args.set c.loop-word.word c.bit.result c.args.olds.now c.args.words.now c.loop-word.words c.if-set-bit-ne0.words so_far even within c.bit.ensures w.if-set-bit-ne0.false w.words-is
    ]

pub returns : goal.returns
returns c = restored_all c.args.set c.loop-word.word c.args.olds.now c.args.words.now c.loop-word.words (record { size = c.loop-word.invariant.size; done = c.loop-word.invariant.done; left = c.loop-word.invariant.left }) (omega (arith, c.told-words, c.loop-word-test.false))
