use Rattle.std.proofs.Common.{[], ◌∷◌, ◌++◌, sym, ap, ◌∙◌, subst, arith}
use Rattle.dali_notes.specs.History.{IsSeen, AllMay, Sight}
use Rattle.dali_notes.proofs.Moves.{hands, looks, hand_seen, seen_is, Met, met}
use Rattle.dali_notes.proofs.history.Notes.meet.Given as given
use Rattle.dali_notes.proofs.history.Notes.meet.Goals as goal
use Rattle.dali_notes.proofs.history.Notes.meet.Goals.{After-give_back}

pub load-requires : goal.load-requires
load-requires g c = (c.lend.ensures.tables.0, (let w = c.self.invariant in omega arith), looks _ _ _ _)

now : (g : given.Over) (c : After-give_back g) → Met g.R.Rules.may c.args.note.now c.args.other.now c.give_back.new.seat.me c.give_back.new.other.me
now g c = met g.R.Rules.may c.args.note.now c.args.other.now c.lend.new.seat.me c.load.new.seat.me _ _
    (c.lend.ensures.seat ∙ (λ i. ((ap (λ (m : _). m.0) c.note.invariant.0 ∙ ap (λ x. hands (x ∷ [])) c.note.view_is) i ++ (ap (λ (m : _). m.0) c.other.invariant.0 ∙ ap (λ x. hands (x ∷ [])) c.other.view_is) i, [])))
    c.load.ensures.2 c.give_back.ensures.seat c.give_back.ensures.other

pub invariant_of-note : goal.invariant_of-note
invariant_of-note g c =
    let m = now g c in
    let is = m.note ∙ ap (λ (x : Sight g.row.E.Denot). ((x.number, m.log) ∷ [], [])) (sym c.note.view_is) in
    (hand_seen c.note.inside.number m.log c.give_back.new.seat.me is, subst (AllMay g.R.Rules.may) (sym (seen_is _ _ c.give_back.new.seat.me is)) m.all)

pub invariant_of-other : goal.invariant_of-other
invariant_of-other g c =
    let m = now g c in
    let is = m.other ∙ ap (λ (x : Sight g.row.E.Denot). ((x.number, x.seen) ∷ [], [])) (sym c.other.view_is) in
    (hand_seen c.other.inside.number _ c.give_back.new.other.me is, subst (AllMay g.R.Rules.may) (sym (seen_is _ _ c.give_back.new.other.me is)) c.other.invariant.1)

pub returns-clause-seen : goal.returns-clause-seen
returns-clause-seen g c = let m = now g c in subst (λ h. IsSeen h c.args.note.now.number c.args.note.now.seen) (sym (seen_is _ _ c.give_back.new.seat.me m.note)) m.seen

pub returns-clause-theirs : goal.returns-clause-theirs
returns-clause-theirs g c = let m = now g c in subst (λ h. IsSeen h c.args.other.now.number c.args.other.now.seen) (sym (seen_is _ _ c.give_back.new.seat.me m.note)) m.theirs

pub returns-clause-all : goal.returns-clause-all
returns-clause-all g c = let m = now g c in subst (AllMay g.R.Rules.may) (sym (seen_is _ _ c.give_back.new.seat.me m.note)) m.all

pub returns-clause-other : goal.returns-clause-other
returns-clause-other g c = λ i. record {
  table = (c.give_back.ensures.tables.1 ∙ (ap (λ (x : _). x.table) c.self.view_is ∙ sym c.requires.1)) i;
  number = (ap (λ (x : Sight g.row.E.Denot). x.number) c.other.view_is) i;
  seen = (seen_is _ _ c.give_back.new.other.me (now g c).other) i;
}
