-- The steps of a plan, over the rules of the log.
use Rattle.std.proofs.Common.{◌≡◌, ℕ, Bool, true, false, cond, List, [], ◌∷◌, ◌++◌, length, Option, Some, None, refl, ap, ◌∙◌}
use Rattle.std.specs.Prelude.{◌==◌}
use Rattle.dali_geometry.specs.Sizes.{Sizes}
use Rattle.dali_record.specs.declared.operations.Block.{Block}
use Rattle.dali_record.specs.declared.records.Call.{Call}
use Rattle.dali_record.specs.declared.records.Answer.{Answer}
use Rattle.dali_record.specs.declared.records.Record.{Record}
use Rattle.dali_record.specs.declared.records.Record.TheVariants.{Forward, Done, Back}
use Rattle.std.proofs.lemmas.Slice.Eq.{bytes_eq-Decides}
use Rattle.dali_lists.proofs.Numbers.{eqb-self}
use Rattle.dali_record.specs.declared.operations.Pending.{Pending}
use Rattle.dali_record.specs.declared.operations.Undo.{Undo}
use Rattle.dali_record.specs.declared.operations.Undo.TheVariants.{FreeCell as UndoFreeCell, ReviveCell as UndoReviveCell, Restore as UndoRestore, FreeEntry as UndoFreeEntry, ReviveEntry as UndoReviveEntry}
use Rattle.dali_record.specs.Operations.{undo_op}
use Rattle.dali_record.specs.Calls.{Progress, Fresh, follow}
use Rattle.dali_record.specs.Log.{undo_added, last_of, drop_last}
use Rattle.dali_record.specs.Legal.{TxnState, Active, Working, Onward, txn_state, txn_next, allowed, either_state, goes_on, starts, forward, is_onward, is_level, is_answer, rested, same_op, is_of, back, way_back}
use Rattle.dali_record.proofs.Pushes.{txn_state_push}
use Rattle.dali_runs.specs.Facts.Plans.{AtWork, PlanGoesOn, PlanStarts, PlanAnswers, TakeBackGoesOn}

-- a record of t itself
own_op : (s : Sizes) (t : ℕ) (L : List Record) (w : Working) (b : Block) → AtWork s L t w → txn_state s t (L ++ Forward t b ∷ []) ≡ forward s t w b
own_op s t L w b e = txn_state_push s t L (Forward t b) ∙ (ap (λ o. txn_next s t o (Forward t b)) e ∙ rw (eqb-self t) refl)

went : (s : Sizes) (t : ℕ) (w : Working) (b : Block) (q : Progress) → is_onward w.way ≡ true → follow s t w.progress b ≡ Some q → forward s t w b ≡ Some (Active (record { undos = w.undos ++ undo_added b b.undo; mark = w.mark; progress = q; way = Onward }))
went s t w b q e f = rw (e, f) refl

pub plan_goes_on : PlanGoesOn
plan_goes_on s L t p q mark b plan f = record {
  working = record { undos = plan.working.undos ++ undo_added b b.undo; mark = plan.working.mark; progress = q; way = Onward };
  at_work = own_op s t L plan.working b plan.at_work ∙ went s t plan.working b q plan.onward (ap (λ r. follow s t r b) plan.progress_is ∙ f);
  progress_is = refl;
  onward = refl;
  mark_is = plan.mark_is;
}

none_first : (c : Bool) (o p : Option TxnState) → (c ≡ true → o ≡ None) → either_state (allowed c o) p ≡ p
none_first true o p e = rw (e refl) refl
none_first false o p e = refl

began : (s : Sizes) (t : ℕ) (w : Working) (b : Block) (q : Progress) → is_level w ≡ true → (is_onward w.way ≡ true → follow s t w.progress b ≡ None) → follow s t Fresh b ≡ Some q → forward s t w b ≡ Some (Active (record { undos = w.undos ++ undo_added b b.undo; mark = length w.undos; progress = q; way = Onward }))
began s t w b q e f g = none_first (is_onward w.way) (goes_on w b (follow s t w.progress b)) _ (λ onward. ap (goes_on w b) (f onward)) ∙ (ap (λ c. allowed c (starts w b (follow s t Fresh b))) e ∙ ap (starts w b) g)

pub plan_starts : PlanStarts
plan_starts s L t w q b at level none f = record {
  working = record { undos = w.undos ++ undo_added b b.undo; mark = length w.undos; progress = q; way = Onward };
  at_work = own_op s t L w b at ∙ began s t w b q level none f;
  progress_is = refl;
  onward = refl;
  mark_is = refl;
}

own_done : (s : Sizes) (t : ℕ) (L : List Record) (w : Working) (k : Call) (a : Answer) → AtWork s L t w → is_answer s w k a ≡ true → txn_state s t (L ++ Done t k a ∷ []) ≡ Some (rested w)
own_done s t L w k a e f = txn_state_push s t L (Done t k a) ∙ (ap (λ o. txn_next s t o (Done t k a)) e ∙ (test (t == t) (eqb-self t) ∙ ap (λ c. allowed c (Some (rested w))) f))
  where
    test : (c : Bool) → c ≡ true → cond c (allowed (is_answer s w k a) (Some (rested w))) (Some (Active w)) ≡ allowed (is_answer s w k a) (Some (rested w))
    test true h = refl
    test false h = absurd (cc)

pub plan_answers : PlanAnswers
plan_answers s L t w k a at f = (record { undos = w.undos; mark = length w.undos; progress = Fresh; way = Onward }, own_done s t L w k a at f, refl, refl, refl, refl)

-- ---- taking back
same_undo : (u : Undo) → same_op (undo_op u) (undo_op u) ≡ true
same_undo (UndoFreeCell c) = eqb-self c
same_undo (UndoReviveCell c) = eqb-self c
same_undo (UndoRestore c n vs) = rw (eqb-self c, eqb-self n, (bytes_eq-Decides vs vs).1 refl) refl
same_undo (UndoFreeEntry e) = eqb-self e
same_undo (UndoReviveEntry e) = eqb-self e

is_its : (p : Pending) (b : Block) → b.key ≡ p.key → b.region ≡ p.region → b.op ≡ undo_op p.undo → is_of (undo_op p.undo) p b ≡ true
is_its p b k r o = rw (k, r, o, eqb-self p.key, eqb-self p.region, same_undo p.undo) refl

own_back : (s : Sizes) (t : ℕ) (L : List Record) (w : Working) (b : Block) (p : Pending) → AtWork s L t w → last_of w.undos ≡ Some p → is_of (undo_op p.undo) p b ≡ true → txn_state s t (L ++ Back t b ∷ []) ≡ Some (Active (record { undos = drop_last w.undos; mark = w.mark; progress = w.progress; way = way_back w }))
own_back s t L w b p e l i = txn_state_push s t L (Back t b) ∙ (ap (λ o. txn_next s t o (Back t b)) e ∙ (test (t == t) (eqb-self t) ∙ (ap (back w b) l ∙ ap (λ c. allowed c (Some (Active (record { undos = drop_last w.undos; mark = w.mark; progress = w.progress; way = way_back w })))) i)))
  where
    test : (c : Bool) → c ≡ true → cond c (back w b (last_of w.undos)) (Some (Active w)) ≡ back w b (last_of w.undos)
    test true h = refl
    test false h = absurd (cc)

pub take_back_goes_on : TakeBackGoesOn
take_back_goes_on s L t w p b at l k r o = (record { undos = drop_last w.undos; mark = w.mark; progress = w.progress; way = way_back w }, own_back s t L w b p at l (is_its p b k r o), refl, refl, refl, refl)
