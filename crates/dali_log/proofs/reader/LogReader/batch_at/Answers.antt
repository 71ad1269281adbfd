use Rattle.std.proofs.Common.{◌≡◌, ◌∙◌, ◌⊎◌, inl, inr, sym, refl, arith, ◌+◌, ◌^◌, ◌<◌, take, drop, length}
use Rattle.dali_lists.proofs.Options.{if_some_then}
use Rattle.dali_store.specs.Store.{Files}
use Rattle.dali_log.specs.Stream.{IsWindow}
use Rattle.dali_log.proofs.Finds.{if_some_two, if_some_same, open_read, cut_length, bad_length, batch_read}
use Rattle.dali_log.proofs.Streaming.{part_of, closed_read}
use Rattle.dali_log.proofs.reader.LogReader.batch_at.Goals.{then-size-eq0-via-then-size-eq0, then-size-eq0-via-else-size-eq0+then-size-gt-MOST_BYTES}
use Rattle.dali_log.proofs.reader.LogReader.batch_at.Goals as goal

pub returns-then-part-clause-none : goal.returns-then-part-clause-none
returns-then-part-clause-none g c = λ none.
    if_some_then _ _ (g.V.Store.told c.args.store.now) c.in_ok-need.ensures.window (λ fs opens window.
    let p = part_of fs.log c.need.new.self c.args.at 1 (opens window) (c.in_ok-need.ensures.whole c.if-not-branch.false).0 in
    closed_read fs.log c.part.result.now c.args.at p.0 (c.part.ensures ∙ p.1) c.if-part.true)

pub returns-then-not-branch-2-clause-bad : goal.returns-then-not-branch-2-clause-bad
returns-then-not-branch-2-clause-bad g c = λ bad e.
    let short = if_some_same _ _ _ c.need.ensures.store.reads.same (c.in_ok-need-2.ensures.short c.if-not-branch-2.true) in
    if_some_two _ _ _ (g.V.Store.told c.args.store.now) c.in_ok-need.ensures.window short (λ fs opens less window.
    let p = part_of fs.log c.need.new.self c.args.at 1 (opens window) (c.in_ok-need.ensures.whole c.if-not-branch.false).0 in
    inr (cut_length fs.log c.args.at (open_read fs.log c.part.result.now c.args.at p.0 (c.part.ensures ∙ p.1) c.if-part.false) (less (opens window)), cc))

pub returns-then-size-eq0-clause-bad : goal.returns-then-size-eq0-clause-bad
returns-then-size-eq0-clause-bad g c = λ bad e.
    let size = c.number_of-size.result in
    let cases : (size ≡ 0) ⊎ (2 ^ 30 < size) = elim c.then-size-eq0.branch [
      | then-size-eq0-via-then-size-eq0 w ↦ inl w.if-size-eq0.true
      | then-size-eq0-via-else-size-eq0+then-size-gt-MOST_BYTES w ↦ inr w.if-size-gt-MOST_BYTES.true
    ] in
    let later = if_some_same _ _ _ c.need.ensures.store.reads.same c.in_ok-need-2.ensures.window in
    if_some_two _ _ _ (g.V.Store.told c.args.store.now) c.in_ok-need.ensures.window later (λ fs opens then window.
    let p = part_of fs.log c.need.new.self c.args.at 1 (opens window) (c.in_ok-need.ensures.whole c.if-not-branch.false).0 in
    let q = part_of fs.log c.need-2.new.self (c.args.at + 1) 4 (then (opens window)) (c.in_ok-need-2.ensures.whole c.if-not-branch-2.false).0 in
    let gate = open_read fs.log c.part.result.now c.args.at p.0 (c.part.ensures ∙ p.1) c.if-part.false in
    let wrong : (size ≡ 0) ⊎ (2 ^ 30 < size) ⊎ (length fs.log < c.args.at + 5 + size) = elim cases [ inl z ↦ inl z | inr z ↦ inr (inl z) ] in
    inr (bad_length fs.log c.args.at size gate (sym c.number_of-size.ensures ∙ c.part-2.ensures ∙ q.1) (omega (arith, c.number_of-size.type_inv)) wrong, cc))

pub returns-then-not-branch-3-clause-bad : goal.returns-then-not-branch-3-clause-bad
returns-then-not-branch-3-clause-bad g c = λ bad e.
    let size = c.number_of-size.result in
    let later = if_some_same _ _ _ c.need.ensures.store.reads.same c.in_ok-need-2.ensures.window in
    let short = if_some_same _ _ _ (c.need-2.ensures.store.reads.same ∙ c.need.ensures.store.reads.same) (c.in_ok-need-3.ensures.short c.if-not-branch-3.true) in
    let windows = if_some_two _ _ (λ (fs : Files). IsWindow fs.log c.args.self.now → IsWindow fs.log c.need.new.self × IsWindow fs.log c.need-2.new.self) (g.V.Store.told c.args.store.now) c.in_ok-need.ensures.window later (λ fs opens then window. (opens window, then (opens window))) in
    if_some_two _ _ _ (g.V.Store.told c.args.store.now) windows short (λ fs opens less window.
    let w = opens window in
    let p = part_of fs.log c.need.new.self c.args.at 1 w.0 (c.in_ok-need.ensures.whole c.if-not-branch.false).0 in
    let q = part_of fs.log c.need-2.new.self (c.args.at + 1) 4 w.1 (c.in_ok-need-2.ensures.whole c.if-not-branch-2.false).0 in
    let gate = open_read fs.log c.part.result.now c.args.at p.0 (c.part.ensures ∙ p.1) c.if-part.false in
    inr (bad_length fs.log c.args.at size gate (sym c.number_of-size.ensures ∙ c.part-2.ensures ∙ q.1) (omega (arith, c.number_of-size.type_inv)) (inr (inr (less w.1))), cc))

pub returns-clause-batch : goal.returns-clause-batch
returns-clause-batch g c =
    let size = c.number_of-size.result in
    let later = if_some_same _ _ _ c.need.ensures.store.reads.same c.in_ok-need-2.ensures.window in
    let last = if_some_same _ _ _ (c.need-2.ensures.store.reads.same ∙ c.need.ensures.store.reads.same) c.in_ok-need-3.ensures.window in
    let windows = if_some_two _ _ (λ (fs : Files). IsWindow fs.log c.args.self.now → IsWindow fs.log c.need.new.self × IsWindow fs.log c.need-2.new.self) (g.V.Store.told c.args.store.now) c.in_ok-need.ensures.window later (λ fs opens then window. (opens window, then (opens window))) in
    if_some_two _ _ _ (g.V.Store.told c.args.store.now) windows last (λ fs opens then window.
    let w = opens window in
    let p = part_of fs.log c.need.new.self c.args.at 1 w.0 (c.in_ok-need.ensures.whole c.if-not-branch.false).0 in
    let q = part_of fs.log c.need-2.new.self (c.args.at + 1) 4 w.1 (c.in_ok-need-2.ensures.whole c.if-not-branch-2.false).0 in
    let r = part_of fs.log c.need-3.new.self (c.args.at + 5) size (then w.1) (c.in_ok-need-3.ensures.whole c.if-not-branch-3.false).0 in
    let gate = open_read fs.log c.part.result.now c.args.at p.0 (c.part.ensures ∙ p.1) c.if-part.false in
    let found = batch_read fs.log (take size (drop (c.args.at + 5) fs.log)) c.args.at size gate (sym c.number_of-size.ensures ∙ c.part-2.ensures ∙ q.1) r.0 refl (omega arith) (omega arith) in
    let long : length (take size (drop (c.args.at + 5) fs.log)) ≡ size = omega (arith, found.1) in
    (found.0, long))
