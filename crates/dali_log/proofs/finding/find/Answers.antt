use Rattle.std.proofs.Common.{◌≡◌, ◌∙◌, ◌⊎◌, inl, inr, sym, arith, ◌+◌, ◌^◌, ◌<◌, take, drop, ℕ, subst}
use Rattle.dali_store.specs.Store.{Files}
use Rattle.dali_bytes.specs.Fields.{number32}
use Rattle.dali_log.specs.Batch.{IsOpenAt}
use Rattle.dali_log.proofs.Finds.{if_some_two, if_some_same, open_read, cut_length, bad_length, batch_read}
use Rattle.dali_log.proofs.finding.find.Goals.{then-size-eq0-via-then-size-eq0, then-size-eq0-via-else-size-eq0+then-size-gt-MOST_BYTES, then-size-eq0-via-else-size-eq0+else-size-gt-MOST_BYTES+then-length-at-2}
use Rattle.dali_log.proofs.finding.find.Goals as goal

pub returns-then-not-branch-2-clause-bad : goal.returns-then-not-branch-2-clause-bad
returns-then-not-branch-2-clause-bad g c = λ bad e.
    let gate = if_some_same _ _ _ c.length.ensures.told (c.in_ok-fill.ensures.whole c.if-not-branch.false) in
    let short = if_some_same _ _ _ (c.fill.ensures.reads.same ∙ c.length.ensures.told) (c.in_ok-fill-2.ensures.short c.if-not-branch-2.true) in
    if_some_two _ _ _ (g.V.Store.told c.args.store.now) gate short (λ fs read short. inr (cut_length fs.log c.args.at (open_read fs.log c.fill.new.into c.args.at read.0 read.1 c.if-gate.false) short, cc))

pub returns-then-size-eq0-clause-bad : goal.returns-then-size-eq0-clause-bad
returns-then-size-eq0-clause-bad g c = λ bad e.
    let size = c.number_of-size.result in
    let gate = if_some_same _ _ _ c.length.ensures.told (c.in_ok-fill.ensures.whole c.if-not-branch.false) in
    let number = if_some_same _ _ _ (c.fill.ensures.reads.same ∙ c.length.ensures.told) (c.in_ok-fill-2.ensures.whole c.if-not-branch-2.false) in
    let cases : (size ≡ 0) ⊎ (2 ^ 30 < size) ⊎ (c.in_ok-length.length < c.args.at + 5 + size) = elim c.then-size-eq0.branch [
      | then-size-eq0-via-then-size-eq0 w ↦ inl w.if-size-eq0.true
      | then-size-eq0-via-else-size-eq0+then-size-gt-MOST_BYTES w ↦ inr (inl w.if-size-gt-MOST_BYTES.true)
      | then-size-eq0-via-else-size-eq0+else-size-gt-MOST_BYTES+then-length-at-2 w ↦ inr (inr (omega (arith, w.if-length-at-2.true)))
    ] in
    if_some_two _ _ _ (g.V.Store.told c.args.store.now) (if_some_two _ _ (λ (fs : Files). IsOpenAt c.args.at fs.log × (number32 size ≡ take 4 (drop (c.args.at + 1) fs.log))) (g.V.Store.told c.args.store.now) gate number
    (λ fs read four. (open_read fs.log c.fill.new.into c.args.at read.0 read.1 c.if-gate.false, sym c.number_of-size.ensures ∙ four.1)))
    c.in_ok-length.ensures.length
    (λ fs both long. inr (bad_length fs.log c.args.at size both.0 both.1 (omega (arith, c.number_of-size.type_inv)) (subst (λ (n : ℕ). (size ≡ 0) ⊎ (2 ^ 30 < size) ⊎ (n < c.args.at + 5 + size)) long cases), cc))

pub returns-clause-found : goal.returns-clause-found
returns-clause-found g c =
    let size = c.number_of-size.result in
    let gate = if_some_same _ _ _ c.length.ensures.told (c.in_ok-fill.ensures.whole c.if-not-branch.false) in
    let number = if_some_same _ _ _ (c.fill.ensures.reads.same ∙ c.length.ensures.told) (c.in_ok-fill-2.ensures.whole c.if-not-branch-2.false) in
    let bytes = if_some_same _ _ _ (c.fill-2.ensures.reads.same ∙ c.fill.ensures.reads.same ∙ c.length.ensures.told) (rw c.in-Some.is at c.in_ok-body.ensures.read) in
    if_some_two _ _ _ (g.V.Store.told c.args.store.now) (if_some_two _ _ (λ (fs : Files). IsOpenAt c.args.at fs.log × (number32 size ≡ take 4 (drop (c.args.at + 1) fs.log))) (g.V.Store.told c.args.store.now) gate number
    (λ fs read four. (open_read fs.log c.fill.new.into c.args.at read.0 read.1 c.if-gate.false, sym c.number_of-size.ensures ∙ four.1)))
    bytes
    (λ fs both body. batch_read fs.log c.in-Some.body c.args.at size both.0 both.1 body.0 body.1 (omega arith) (omega arith))
