use Rattle.std.proofs.Common.{◌≡◌, ◌+◌, ◌-◌, ◌<◌, [], length, length-append, sym, ap, ◌∙◌, arith}
use Rattle.dali_notes.proofs.Moves.{fronts, deals, seen_is}
use Rattle.dali_notes.proofs.Lists.{fresh_more}
use Rattle.dali_notes.specs.Kept.{fresh_from}
use Rattle.dali_notes.proofs.history.deal.Goals as goal

pub split_seat-seat-requires : goal.split_seat-seat-requires
split_seat-seat-requires g c =
    let i = c.loop-number.invariant in
    let left : 0 < c.args.count - c.loop-number.number = omega arith in
    (i.table, omega arith, fronts _ _ c.loop-number.number (c.args.count - c.loop-number.number) c.loop-number.host.me left i.host)

pub loop-number-preserved : goal.loop-number-preserved
loop-number-preserved g c =
    let i = c.loop-number.invariant in
    let k = c.loop-number.number in
    let left : 0 < c.args.count - k = omega arith in
    let d = deals k (c.args.count - k) c.loop-number.host.me c.split_seat-seat.new.seat.me c.split_seat-seat.result.me left i.host c.split_seat-seat.ensures.2 c.split_seat-seat.ensures.4 in
    let less : c.args.count - k - 1 ≡ c.args.count - (k + 1) = omega arith in
    record {
      within = omega arith;
      table = c.split_seat-seat.ensures.0 ∙ i.table;
      host = d.0 ∙ ap (λ m. (fresh_from (k + 1) m, [])) less;
      dealt = ap length c.in_ok-push.ensures.items ∙ (length-append c.loop-number.notes.items _ ∙ omega arith);
      fresh = rw c.in_ok-push.ensures.items (fresh_more _ 0 _ _ i.fresh (c.split_seat-seat.ensures.3 ∙ i.table) (sym i.dealt ∙ omega arith) (seen_is k [] c.split_seat-seat.result.me d.1));
    }
