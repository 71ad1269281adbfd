use Rattle.std.proofs.Common.{◌≡◌, ◌<◌, [], ◌∷◌, ◌++◌, length, sym, ap, ◌∙◌, subst, arith}
use Rattle.dali_notes.specs.History.{AreOf, Sight, below}
use Rattle.std.proofs.lemmas.Grind.{common_steps}
use mathlib.Core.Option.{none}
use Rattle.atomic_table.specs.Table.{Allows, step}
use Rattle.dali_notes.specs.Kept.{Kept, Counts, Fits, hands_of}
use Rattle.dali_notes.proofs.Lists.{of_front, of_last, nothing}
use Rattle.dali_notes.proofs.Moves.{arrives, joins_before, counts, hands, hands-snoc, hands-notes, length-hands, all_saw}
use Rattle.dali_notes.proofs.history.close.Goals as goal

pub load_new_seat-seat-requires : goal.load_new_seat-seat-requires
load_new_seat-seat-requires g c = (omega arith, arrives c.args.board.now.key c.args.board.now.table_id.slots)

pub join_seat-requires : goal.join_seat-requires
join_seat-requires g c =
    let all = subst (AreOf c.args.board.now.table_id) c.in-Some.ensures.items c.loop-note.invariant.tables in (
      c.loop-note.invariant.table,
      ap (λ (x : Sight g.row.E.Denot). x.table) c.note.view_is ∙ of_last c.args.board.now.table_id c.pop.new.self.items c.in-Some.note all,
      ap (λ (x : _). x.1) c.note.invariant.0,
      omega arith,
      joins_before _ _ _ _ _,
    )

pub loop-note-preserved : goal.loop-note-preserved
loop-note-preserved g c =
    let i = c.loop-note.invariant in
    let all = subst (AreOf c.args.board.now.table_id) c.in-Some.ensures.items i.tables in
    let mine : c.note.inside.seat.me.0 ≡ (c.in-Some.note.number, c.in-Some.note.seen) ∷ [] = ap (λ (x : _). x.0) c.note.invariant.0 ∙ ap (λ (x : Sight g.row.E.Denot). (x.number, x.seen) ∷ []) c.note.view_is in
    let both : c.join_seat.new.seat.me.0 ≡ (c.in-Some.note.number, c.in-Some.note.seen) ∷ c.loop-note.seat.me.0 = ap (λ (x : _). x.0) c.join_seat.ensures.2 ∙ ap (λ w. w ++ c.loop-note.seat.me.0) mine in
    record {
      table = c.join_seat.ensures.0 ∙ i.table;
      tables = of_front c.args.board.now.table_id c.pop.new.self.items c.in-Some.note all;
      empty = ap (λ (x : _). x.1) c.join_seat.ensures.2 ∙ i.empty;
      seat = ap (λ w. hands c.pop.new.self.items ++ w) both ∙ hands-snoc c.pop.new.self.items c.in-Some.note c.loop-note.seat.me.0 (hands c.args.notes.items) (ap (λ xs. hands xs ++ c.loop-note.seat.me.0) (sym c.in-Some.ensures.items) ∙ i.seat);
    }

pub load-requires : goal.load-requires
load-requires g c = (c.loop-note.invariant.table, omega arith, subst (λ k. Allows (Kept g.R.Rules.may k) c.args.board.now.table_id.slots c.loop-note.seat.id c.loop-note.seat.me 0 (λ n. n) (Counts g.R.Rules.may g.C.Counted.count (step c.args.board.now.table_id.slots 0 0 0 none) c.loop-note.seat.me)) c.requires.count (counts g.C.Counted.count _ _ _))

pub returns : goal.returns
returns g c =
    let l = c.load.ensures.2 in
    let i = c.loop-note.invariant in
    let left : c.loop-note.notes.items ≡ [] = nothing c.loop-note.notes.items (grind (arith, common_steps, c.in_default.ensures.cases)) in
    let whole : c.loop-note.seat.me.0 ≡ hands c.args.notes.items = ap (λ xs. hands xs ++ c.loop-note.seat.me.0) (sym left) ∙ i.seat in
    let many : g.C.Counted.count ≡ length c.args.notes.items = c.requires.count ∙ sym c.requires.all.1 in
    let hands_are : length c.loop-note.seat.me.0 ≡ g.C.Counted.count = ap length whole ∙ (length-hands c.args.notes.items ∙ sym many) in (
      l.0,
      record {
        seen = all_saw l.0 c.args.notes.items (subst (Fits l.0) whole l.1);
        numbered = λ x m n is. subst (λ k. n < k) many (l.3 x m n is);
        each = λ n. sym (hands-notes n c.args.notes.items) ∙ (sym (ap (hands_of n) whole) ∙ (l.4 hands_are n ∙ ap (below n) many));
      },
      l.2,
    )
