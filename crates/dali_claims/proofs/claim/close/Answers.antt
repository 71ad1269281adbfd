use Rattle.std.proofs.Common.{◌≡◌, ℕ, ◌+◌, [], ◌∷◌, ◌++◌, length, length-append, sym, ap, ◌∙◌, subst, arith}
use Rattle.std.proofs.lemmas.Grind.{common_steps}
use mathlib.Core.Option.{none}
use Rattle.atomic_table.specs.Table.{Allows, step}
use Rattle.dali_claims.specs.Claims.{AreOf, Drawn, times, drawn_by, over_by, one_if}
use Rattle.dali_claims.specs.Rule.{Kept, Learns}
use Rattle.dali_claims.proofs.Lists.{of_front, of_last, drawn_by-snoc, over_by-snoc, times-append, nothing}
use Rattle.dali_claims.proofs.Moves.{arrives, joins, learns}
use Rattle.dali_claims.proofs.claim.close.Goals as goal

pub load_new_seat-seat-requires : goal.load_new_seat-seat-requires
load_new_seat-seat-requires g c = (omega (arith, c.requires.board.0), arrives c.args.board.now.key.0 c.args.board.now.key.1 c.args.board.now.table_id.slots)

pub join_seat-requires : goal.join_seat-requires
join_seat-requires g c =
    let all = subst (AreOf c.args.board.now.table_id) c.in-Some.ensures.items c.loop-taken.invariant.tables in (
      c.loop-taken.invariant.table,
      ap (λ (x : Drawn). x.table) c.taken.view_is ∙ of_last c.args.board.now.table_id c.pop.new.self.items c.in-Some.taken all,
      ap (λ (x : _). x.1) c.taken.invariant,
      omega (arith, c.requires.board.0),
      joins _ _ _ _ _ _,
    )

pub loop-taken-preserved : goal.loop-taken-preserved
loop-taken-preserved g c =
    let i = c.loop-taken.invariant in
    let items = c.in-Some.ensures.items in
    let all = subst (AreOf c.args.board.now.table_id) items i.tables in
    let x = c.in-Some.taken in
    let seats_are : c.join_seat.new.seat.me.0.seats ≡ c.loop-taken.seat.me.0.seats + c.taken.inside.seat.me.0.seats = ap (λ me. me.0.seats) c.join_seat.ensures.2 in
    let one : c.taken.inside.seat.me.0.seats ≡ 1 = ap (λ me. me.0.seats) c.taken.invariant in
    let over_are : c.join_seat.new.seat.me.0.over ≡ c.loop-taken.seat.me.0.over + c.taken.inside.seat.me.0.over = ap (λ me. me.0.over) c.join_seat.ensures.2 in
    let over_is : c.taken.inside.seat.me.0.over ≡ one_if x.over = ap (λ me. me.0.over) c.taken.invariant ∙ ap (λ (d : Drawn). one_if d.over) c.taken.view_is in
    let drawn_are : c.join_seat.new.seat.me.0.drawn ≡ c.loop-taken.seat.me.0.drawn ++ x.drawn = ap (λ me. me.0.drawn) c.join_seat.ensures.2 ∙ ap (λ (d : Drawn). c.loop-taken.seat.me.0.drawn ++ d.drawn) c.taken.view_is in
    let len : length c.loop-taken.seats.items ≡ length c.pop.new.self.items + 1 = ap length items ∙ length-append c.pop.new.self.items (x ∷ []) in
    record {
      table = c.join_seat.ensures.0 ∙ i.table;
      tables = of_front c.args.board.now.table_id c.pop.new.self.items x all;
      empty = ap (λ me. me.1) c.join_seat.ensures.2 ∙ i.empty;
      seats = omega (arith, seats_are, one, len, i.seats);
      drawn = λ n. omega (arith, ap (times n) drawn_are, times-append n c.loop-taken.seat.me.0.drawn x.drawn, ap (drawn_by n) items, drawn_by-snoc n c.pop.new.self.items x, i.drawn n);
      over = omega (arith, over_are, over_is, ap over_by items, over_by-snoc c.pop.new.self.items x, i.over);
    }

pub load-requires : goal.load-requires
load-requires g c = (
  c.loop-taken.invariant.table,
  omega (arith, c.requires.board.0),
  subst (λ (k : ℕ × ℕ). Allows (Kept k) c.args.board.now.table_id.slots c.loop-taken.seat.id c.loop-taken.seat.me 0 (λ n. n) (Learns g.C.Sizes.count g.C.Sizes.seats (step c.args.board.now.table_id.slots 0 0 0 none) c.loop-taken.seat.me)) (sym c.requires.board.1)
      (learns g.C.Sizes.count g.C.Sizes.seats _ _ _),
)

pub returns : goal.returns
returns g c =
    let i = c.loop-taken.invariant in
    let left : c.loop-taken.seats.items ≡ [] = nothing c.loop-taken.seats.items (grind (arith, common_steps, c.in_default.ensures.cases)) in
    let whole : c.loop-taken.seat.me.0.seats ≡ g.C.Sizes.seats = omega (arith, ap length left, i.seats, c.requires.all.1) in
    let l = c.load.ensures.2 whole in
    record {
      n = l.0;
      within = l.1;
      each = λ x. omega (arith, i.drawn x, ap (drawn_by x) left, l.2 x);
      whole = λ over. l.3 (omega (arith, i.over, ap over_by left));
    }
