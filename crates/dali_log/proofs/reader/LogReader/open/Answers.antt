use Rattle.std.proofs.Common.{◌≡◌, ◌∙◌, ◌+◌, arith, sym, refl, rules, length, take, drop, subst}
use Rattle.std.specs.Prelude.{IsNone}
use Rattle.std.proofs.lemmas.Result.{err_from_is_err_and}
use Rattle.dali_log.specs.Stream.{IsWindow}
use Rattle.dali_log.proofs.Finds.{if_some_two, if_some_three, if_some_same}
use Rattle.dali_log.proofs.Fronts.{log_bad, first_bad, bad_of_first, first_front, run_of_front}
use Rattle.dali_log.proofs.Streaming.{part_of, empty_window, no_first, first_read}
use Rattle.dali_log.proofs.reader.LogReader.open.Goals as goal

pub returns-in_err-size-clause-bad : goal.returns-in_err-size-clause-bad
returns-in_err-size-clause-bad g c =
    let p = err_from_is_err_and c.from_residual-in_err-size.result c.from_residual-in_err-size.ensures.1 in
    rw (p.1, p.2) (λ bad e.
    if_some_two _ _ _ (g.V.Store.told c.args.store.now) c.in_ok-length.ensures.length (if_some_same _ _ _ c.length.ensures.told (c.in_err-size.ensures.bad bad (log_bad c.in_err-size.field-0.0 bad e)))
    (λ fs long is. first_bad fs.log bad (omega (arith, long, c.if-length-lt2.false)) (is (empty_window fs.log _ long c.new.ensures.items refl))))

pub returns-in_default-format_of-clause-bad : goal.returns-in_default-format_of-clause-bad
returns-in_default-format_of-clause-bad g c = λ bad e.
    let five : 5 ≡ bad = cc in
    let nothing : IsNone c.format_of.result = search rules in
    let batch = if_some_same _ _ _ c.length.ensures.told (rw c.in-Some.is at c.in_ok-size.ensures.batch) in
    let there = rw c.in-Some.is at c.in_ok-size.ensures.there in
    if_some_three _ _ _ _ (g.V.Store.told c.args.store.now) c.in_ok-length.ensures.length batch (if_some_same _ _ _ c.length.ensures.told c.in_ok-size.ensures.window)
    (λ fs long is opens. no_first fs.log _ c.batch_at.new.self c.in-Some.size bad _ is opens (empty_window fs.log _ long c.new.ensures.items refl) there.0 c.part.ensures (c.format_of.ensures.none nothing) five)

pub returns-in_err-size-clause-log : goal.returns-in_err-size-clause-log
returns-in_err-size-clause-log g c =
    let p = err_from_is_err_and c.from_residual-in_err-size.result c.from_residual-in_err-size.ensures.1 in
    rw (p.1, p.2) (λ bad e.
    if_some_two _ _ _ (g.V.Store.told c.args.store.now) c.in_ok-length.ensures.length (if_some_same _ _ _ c.length.ensures.told (c.in_err-size.ensures.bad bad (log_bad c.in_err-size.field-0.0 bad e)))
    (λ fs long is. bad_of_first fs.log bad (first_bad fs.log bad (omega (arith, long, c.if-length-lt2.false)) (is (empty_window fs.log _ long c.new.ensures.items refl)))))

pub returns-in_default-format_of-clause-log : goal.returns-in_default-format_of-clause-log
returns-in_default-format_of-clause-log g c = λ bad e.
    let five : 5 ≡ bad = cc in
    let nothing : IsNone c.format_of.result = search rules in
    let batch = if_some_same _ _ _ c.length.ensures.told (rw c.in-Some.is at c.in_ok-size.ensures.batch) in
    let there = rw c.in-Some.is at c.in_ok-size.ensures.there in
    if_some_three _ _ _ _ (g.V.Store.told c.args.store.now) c.in_ok-length.ensures.length batch (if_some_same _ _ _ c.length.ensures.told c.in_ok-size.ensures.window)
    (λ fs long is opens. bad_of_first fs.log bad (no_first fs.log _ c.batch_at.new.self c.in-Some.size bad _ is opens (empty_window fs.log _ long c.new.ensures.items refl) there.0 c.part.ensures (c.format_of.ensures.none nothing) five))

pub returns-clause-first : goal.returns-clause-first
returns-clause-first g c =
    let batch = if_some_same _ _ _ c.length.ensures.told (rw c.in-Some.is at c.in_ok-size.ensures.batch) in
    let window = if_some_same _ _ _ c.length.ensures.told c.in_ok-size.ensures.window in
    let there = rw c.in-Some.is at c.in_ok-size.ensures.there in
    let some = rw c.in-Some-format_of.is at c.format_of.ensures.some in
    if_some_three _ _ _ _ (g.V.Store.told c.args.store.now) c.in_ok-length.ensures.length batch window (λ fs long is opens.
    let start = empty_window fs.log _ long c.new.ensures.items refl in
    let found = is start in
    let seen = opens start in
    let held = subst (IsWindow fs.log) (sym c.reader.view_is) seen in
    let body = part_of fs.log c.batch_at.new.self 5 c.in-Some.size seen there.0 in
    let place : 5 + c.in-Some.size ≡ 0 + 5 + length (take c.in-Some.size (drop (0 + 5) fs.log)) = omega (arith, found.1) in
    first_read fs.log _ c.in-Some-format_of.sizes.0 c.in-Some-format_of.sizes.1 (0 + 5 + length (take c.in-Some.size (drop (0 + 5) fs.log)))
    (run_of_front fs.log _ _ (first_front fs.log (take c.in-Some.size (drop (0 + 5) fs.log)) c.in-Some-format_of.sizes.0 c.in-Some-format_of.sizes.1 found.0 some.0 (sym body.1 ∙ sym c.part.ensures ∙ some.1))) place place
    (record { all = held.all; part = held.part; within = held.within }))
