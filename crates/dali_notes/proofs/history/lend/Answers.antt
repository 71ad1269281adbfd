use Rattle.std.proofs.Common.{[], ◌++◌, ap, ◌∙◌, arith}
use Rattle.dali_notes.proofs.Moves.{whole, joins}
use Rattle.dali_notes.proofs.history.lend.Goals as goal

pub split_seat-guest-requires : goal.split_seat-guest-requires
split_seat-guest-requires g c = (c.requires.tables.1, (let w = c.requires.words in omega arith), whole _ _ _)

pub join_seat-requires : goal.join_seat-requires
join_seat-requires g c = (
  c.requires.tables.0,
  c.split_seat-guest.ensures.3 ∙ c.requires.tables.1,
  ap (λ (x : _). x.1) c.split_seat-guest.ensures.4,
  (let w = c.requires.words in omega arith),
  joins _ _ _ _ _,
)

pub returns : goal.returns
returns g c = record {
  tables = (c.join_seat.ensures.0 ∙ c.requires.tables.0, c.split_seat-guest.ensures.0 ∙ c.requires.tables.1);
  seat = c.join_seat.ensures.2 ∙ (λ i. (c.args.seat.now.me.0 ++ (c.split_seat-guest.ensures.4 i).0, c.requires.empty.0 i));
  other = c.split_seat-guest.ensures.2 ∙ ap (λ l. ([], l)) c.requires.empty.1;
}
