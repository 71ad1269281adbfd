use Rattle.std.proofs.Common.{ℕ, ◌+◌, ◌%◌, sym, subst, arith}
use mathlib.Core.Option.{none}
use Rattle.atomic_table.specs.Table.{Allows, step}
use Rattle.dali_claims.specs.Rule.{Kept, DrawsOne}
use Rattle.dali_claims.proofs.Moves.{draws_at, after_low, after_high}
use Rattle.dali_claims.proofs.claim.draw_one.Goals as goal

pub fetch_add-requires : goal.fetch_add-requires
fetch_add-requires g c = (
  c.requires.seat.0,
  omega (arith, c.requires.board.0),
  subst (λ (k : ℕ × ℕ). Allows (Kept k) c.args.board.now.table_id.slots c.args.seat.now.id c.args.seat.now.me 0 (λ n. (n + 1) % 18446744073709551616) (DrawsOne g.C.Sizes.count (step c.args.board.now.table_id.slots 0 1 0 none) c.args.seat.now.me)) (sym c.requires.board.1)
      (draws_at g.C.Sizes.count g.C.Sizes.seats c.args.board.now.table_id.slots c.args.seat.now.id c.args.seat.now.me c.requires.board.2 c.requires.board.3 c.requires.seat.1),
)

pub returns : goal.returns
returns g c = record {
  table = c.fetch_add.ensures.0;
  below = c.fetch_add.ensures.2.1;
  some = λ h. after_low g.C.Sizes.count c.fetch_add.result c.args.seat.now.me c.fetch_add.new.seat.me c.requires.seat.1 h c.fetch_add.ensures.2;
  none = λ h. after_high g.C.Sizes.count c.fetch_add.result c.args.seat.now.me c.fetch_add.new.seat.me c.requires.seat.1 h c.fetch_add.ensures.2;
}
