use Rattle.std.proofs.Common.{◌≡◌, length, vec_len, rules, eq-eqb}
use Rattle.dali_replay.proofs.Keys.{popped}
use Rattle.dali_replay.proofs.links.keep_undo.Goals as goal

pub returns-then-writer-txn-2 : goal.returns-then-writer-txn-2
returns-then-writer-txn-2 c =
    let long : vec_len c.args.keys.now ≡ length c.args.keys.now.items = search rules in
    rw (c.in-Back.is, eq-eqb c.in-Back.writer c.args.txn c.if-writer-txn-2.true) (popped c.args.keys.now.items c.pop.new.self.items c.pop.result (vec_len c.args.keys.now) long c.pop.ensures.items c.pop.ensures.variant)
