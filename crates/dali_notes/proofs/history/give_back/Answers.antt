use Rattle.std.proofs.Common.{◌++◌, ap, ◌∙◌, arith}
use Rattle.dali_notes.specs.Kept.{first_of_hands}
use Rattle.dali_notes.proofs.Moves.{guests_any, joins}
use Rattle.dali_notes.proofs.history.give_back.Goals as goal

pub split_seat-back-requires : goal.split_seat-back-requires
split_seat-back-requires g c = (c.requires.tables.0, (let w = c.requires.words in omega arith), guests_any _ _ _)

pub join_seat-requires : goal.join_seat-requires
join_seat-requires g c = (
  c.requires.tables.1,
  c.split_seat-back.ensures.3 ∙ c.requires.tables.0,
  ap (λ (x : _). x.1) c.split_seat-back.ensures.4,
  (let w = c.requires.words in omega arith),
  joins _ _ _ _ _,
)

pub returns : goal.returns
returns g c = record {
  tables = (c.split_seat-back.ensures.0 ∙ c.requires.tables.0, c.join_seat.ensures.0 ∙ c.requires.tables.1);
  seat = c.split_seat-back.ensures.2 ∙ ap (λ l. (first_of_hands c.args.seat.now.me.0, l)) c.requires.hands.0;
  other = c.join_seat.ensures.2 ∙ (λ i. ((c.requires.hands.1 i).0 ++ (c.split_seat-back.ensures.4 i).0, (c.requires.hands.1 i).1));
}
