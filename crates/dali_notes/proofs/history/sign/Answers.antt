use Rattle.std.proofs.Common.{[], ◌++◌, ◌∷◌, ap, ◌∙◌, arith}
use Rattle.dali_notes.specs.Kept.{signers, all_with}
use Rattle.dali_notes.proofs.Moves.{enters}
use Rattle.dali_notes.proofs.history.sign.Goals as goal

pub fetch_add-requires : goal.fetch_add-requires
fetch_add-requires g c = let e = c.requires.entry in (c.requires.table, (let w = c.requires.words in omega arith), enters _ _ _ _ e.0 c.args.seat.now.me e.1 e.2)

pub returns : goal.returns
returns g c = record {
  table = c.fetch_add.ensures.0 ∙ c.requires.table;
  entered = λ e is. let t = c.fetch_add.ensures.2 e is in
      (t.0, t.1, t.2, t.3 ∙ ap (λ l. (all_with (t.0 ++ (signers c.args.seat.now.me.0, e) ∷ []) c.args.seat.now.me.0, l)) c.requires.empty);
}
