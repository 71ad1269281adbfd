use Rattle.std.proofs.Common.{[], ◌∷◌, refl, sym, ap, ◌∙◌, subst}
use Rattle.dali_notes.specs.History.{Added, AllMay, Sight}
use Rattle.dali_notes.proofs.Moves.{hands, may_sign, Signed, signed, hand_seen, seen_is}
use Rattle.dali_notes.proofs.history.Notes.add.Given as given
use Rattle.dali_notes.proofs.history.Notes.add.Goals as goal
use Rattle.dali_notes.proofs.history.Notes.add.Goals.{After-sign}

pub sign-requires-clause-entry : goal.sign-requires-clause-entry
sign-requires-clause-entry g c κs within = (_, refl, may_sign g.R.Rules.may _ (c.args.note.now ∷ []) _ (ap (λ (m : _). m.0) c.note.invariant.0 ∙ ap (λ x. hands (x ∷ [])) c.note.view_is) c.requires.may)

told : (g : given.Over) (c : After-sign g) → Signed g.R.Rules.may (g.M.Tells.entry c.args.about.now) (c.args.note.now ∷ []) c.sign.new.seat.me
told g c = signed g.R.Rules.may _ (c.args.note.now ∷ []) _ _ (ap (λ (m : _). m.0) c.note.invariant.0 ∙ ap (λ x. hands (x ∷ [])) c.note.view_is) (c.sign.ensures.entered _ refl)

pub invariant_of-note : goal.invariant_of-note
invariant_of-note g c =
    let is = (told g c).is ∙ ap (λ (x : Sight g.row.E.Denot). ((x.number, (told g c).log) ∷ [], [])) (sym c.note.view_is) in
    (hand_seen c.note.inside.number (told g c).log c.sign.new.seat.me is, subst (AllMay g.R.Rules.may) (sym (seen_is _ _ c.sign.new.seat.me is)) (told g c).all)

pub returns-clause-added : goal.returns-clause-added
returns-clause-added g c = subst (Added (c.args.note.now ∷ []) (g.M.Tells.entry c.args.about.now)) (sym (seen_is _ _ c.sign.new.seat.me (told g c).is)) (told g c).added

pub returns-clause-all : goal.returns-clause-all
returns-clause-all g c = subst (AllMay g.R.Rules.may) (sym (seen_is _ _ c.sign.new.seat.me (told g c).is)) (told g c).all
