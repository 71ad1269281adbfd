use Rattle.std.proofs.Common.{◌≡◌, [], ◌∷◌, ◌++◌, refl, sym, ap, ◌∙◌, subst}
use Rattle.dali_notes.specs.History.{Added, AllMay, Sight}
use Rattle.dali_notes.specs.Kept.{first_of_hands, others_of_hands}
use Rattle.dali_notes.proofs.Moves.{hands, may_sign, Signed, signed, hand_seen, seen_is}
use Rattle.dali_notes.proofs.history.Notes.add_both.Given as given
use Rattle.dali_notes.proofs.history.Notes.add_both.Goals as goal
use Rattle.dali_notes.proofs.history.Notes.add_both.Goals.{After-give_back}

pub sign-requires-clause-entry : goal.sign-requires-clause-entry
sign-requires-clause-entry g c κs within = (_, refl, may_sign g.R.Rules.may _ (c.args.note.now ∷ c.args.other.now ∷ []) _ (ap (λ (m : _). m.0) c.lend.ensures.seat ∙ (λ i. (ap (λ (m : _). m.0) c.note.invariant.0 ∙ ap (λ x. hands (x ∷ [])) c.note.view_is) i ++ (ap (λ (m : _). m.0) c.other.invariant.0 ∙ ap (λ x. hands (x ∷ [])) c.other.view_is) i)) c.requires.may)

pub give_back-requires-clause-hands : goal.give_back-requires-clause-hands
give_back-requires-clause-hands g c κs within = (ap (λ (m : _). m.1) (signed g.R.Rules.may _ (c.args.note.now ∷ c.args.other.now ∷ []) _ _ (ap (λ (m : _). m.0) c.lend.ensures.seat ∙ (λ i. (ap (λ (m : _). m.0) c.note.invariant.0 ∙ ap (λ x. hands (x ∷ [])) c.note.view_is) i ++ (ap (λ (m : _). m.0) c.other.invariant.0 ∙ ap (λ x. hands (x ∷ [])) c.other.view_is) i)) (c.sign.ensures.entered _ refl)).is, c.lend.ensures.other)

told : (g : given.Over) (c : After-give_back g) → Signed g.R.Rules.may (g.M.Tells.entry c.args.about.now) (c.args.note.now ∷ c.args.other.now ∷ []) c.sign.new.seat.me
told g c = signed g.R.Rules.may _ (c.args.note.now ∷ c.args.other.now ∷ []) _ _ (ap (λ (m : _). m.0) c.lend.ensures.seat ∙ (λ i. (ap (λ (m : _). m.0) c.note.invariant.0 ∙ ap (λ x. hands (x ∷ [])) c.note.view_is) i ++ (ap (λ (m : _). m.0) c.other.invariant.0 ∙ ap (λ x. hands (x ∷ [])) c.other.view_is) i)) (c.sign.ensures.entered _ refl)

note_is : (g : given.Over) (c : After-give_back g) → c.give_back.new.seat.me ≡ ((c.args.note.now.number, (told g c).log) ∷ [], [])
note_is g c = c.give_back.ensures.seat ∙ ap (λ (m : _). (first_of_hands m.0, [])) (told g c).is

pub invariant_of-note : goal.invariant_of-note
invariant_of-note g c =
    let is = note_is g c ∙ ap (λ (x : Sight g.row.E.Denot). ((x.number, (told g c).log) ∷ [], [])) (sym c.note.view_is) in
    (hand_seen c.note.inside.number (told g c).log c.give_back.new.seat.me is, subst (AllMay g.R.Rules.may) (sym (seen_is _ _ c.give_back.new.seat.me is)) (told g c).all)

other_is : (g : given.Over) (c : After-give_back g) → c.give_back.new.other.me ≡ ((c.args.other.now.number, (told g c).log) ∷ [], [])
other_is g c = c.give_back.ensures.other ∙ ap (λ (m : _). (others_of_hands m.0, [])) (told g c).is

pub invariant_of-other : goal.invariant_of-other
invariant_of-other g c =
    let is = other_is g c ∙ ap (λ (x : Sight g.row.E.Denot). ((x.number, (told g c).log) ∷ [], [])) (sym c.other.view_is) in
    (hand_seen c.other.inside.number (told g c).log c.give_back.new.other.me is, subst (AllMay g.R.Rules.may) (sym (seen_is _ _ c.give_back.new.other.me is)) (told g c).all)

pub returns-clause-added : goal.returns-clause-added
returns-clause-added g c = subst (Added (c.args.note.now ∷ c.args.other.now ∷ []) (g.M.Tells.entry c.args.about.now)) (sym (seen_is _ _ c.give_back.new.seat.me (note_is g c))) (told g c).added

pub returns-clause-all : goal.returns-clause-all
returns-clause-all g c = subst (AllMay g.R.Rules.may) (sym (seen_is _ _ c.give_back.new.seat.me (note_is g c))) (told g c).all

pub returns-clause-other : goal.returns-clause-other
returns-clause-other g c = λ i. record {
  table = (c.give_back.ensures.tables.1 ∙ (ap (λ (x : _). x.table) c.self.view_is ∙ sym c.requires.table.1)) i;
  number = (ap (λ (x : Sight g.row.E.Denot). x.number) c.other.view_is) i;
  seen = (seen_is _ _ c.give_back.new.other.me (other_is g c) ∙ sym (seen_is _ _ c.give_back.new.seat.me (note_is g c))) i;
}
