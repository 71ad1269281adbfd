use Rattle.std.proofs.Common.{◌≡◌, sym, ap, ◌∙◌, length, take, ◌++◌, drop, Bool, cond, ◌<◌, arith, rules}
use Rattle.std.specs.Int.Bits.{bit_or}
use Rattle.std.specs.Prelude.{◌||◌, ◌==◌, map}
use mathlib.Core.Bool.{or-false}
use Rattle.dali_record.specs.Damage.{has}
use Rattle.dali_redo.specs.Taint.Tables.{word_set}
use Rattle.dali_redo.proofs.TaintLemmas.Blocks.{put_back, other_way}
use Rattle.dali_redo.proofs.taint.taint.Taint.drop_block.Goals as goal

ap2 : {a b p q : Bool} → a ≡ b → p ≡ q → (a || p) ≡ (b || q)
ap2 {a = a} {b = b} {p = p} {q = q} e g = ap (λ z. z || p) e ∙ ap (λ z. b || z) g

same_length : (c : goal.After-forget) → length c.mark_words.new.sets ≡ length c.args.self.now.words.items
same_length c = search rules

back : (c : goal.After-forget) → take c.args.self.now.words.len (c.mark_words.new.sets ++ drop (length c.mark_words.new.sets) c.args.self.now.words.items) ≡ c.mark_words.new.sets
back c = put_back c.args.self.now.words.len c.mark_words.new.sets c.args.self.now.words.items (search rules) (same_length c)

pub returns-clause-ok : goal.returns-clause-ok
returns-clause-ok c = record {
  steady = record { clean = search rules; failing = search rules; regions = ap length (back c) ∙ same_length c };
  words = λ fits q.
      let low : c.args.block.now.region < length c.args.self.now.words.items = fits (record { txn = c.args.txn; owner = c.args.txn; block = c.args.block.now }) (search rules) in
      let e : length c.deref_mut.result.now ≡ length c.args.self.now.words.items = ap length c.deref_mut.ensures.value in
      let within : c.args.block.now.region < length c.deref_mut.result.now = omega (arith, low, e) in
      ap (λ ws. word_set ws q) (back c) ∙ (c.mark_words.ensures within q ∙ ap (λ ws. cond (c.args.block.now.region == q) (bit_or (word_set ws q) c.args.block.now.write) (word_set ws q)) c.deref_mut.ensures.value);
  items = λ k. other_way _ _ _ _ _ (c.mark_changed.ensures k) (c.mark_undone.ensures.marked k ∙ ap2 (c.make_room.ensures.same k) (ap (λ us. has (map (λ u. u.key) us) k) c.undos-undos.ensures));
  corrupt = λ t. (c.in_ok-note.ensures).ok t;
  undos = λ t. c.forget.ensures t;
  deleted = λ t. sym (or-false _);
}
