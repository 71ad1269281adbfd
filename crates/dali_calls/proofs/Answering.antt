-- The answer of a plan is allowed, and its calls make steps.
use Rattle.std.proofs.Common.{◌≡◌, ℕ, Bool, true, false, not, ◌&&◌, [], ◌∷◌, ◌++◌, Option, Some, None, refl, sym, ap, ◌∙◌, length}
use Rattle.std.specs.Prelude.{◌==◌, if◌then◌else◌}
use Rattle.std.proofs.lemmas.List.{append-nil}
use Rattle.std.proofs.lemmas.Slice.Eq.{bytes_eq-Decides}
use Rattle.std.proofs.lemmas.Option.{same_Some}
use Rattle.dali_lists.proofs.Numbers.{eqb-self}
use Rattle.dali_geometry.specs.Sizes.{Sizes}
use Rattle.dali_geometry.specs.Places.{is_place}
use Rattle.dali_record.specs.declared.operations.Op.{Op}
use Rattle.dali_record.specs.declared.records.Answer.{Answer}
use Rattle.dali_record.specs.declared.records.Answer.TheVariants.{Exists, Missing, Got, Odd}
use Rattle.dali_record.specs.declared.records.Call.{Call}
use Rattle.dali_record.specs.declared.records.Call.TheVariants.{Insert, Update, Delete, Get}
use Rattle.dali_record.specs.declared.records.Record.TheVariants.{Done}
use Rattle.dali_record.specs.Calls.{Fresh as FreshCall, answers, takes_back, same_call, same_answer}
use Rattle.dali_record.specs.Legal.{Working, Onward, is_level, is_onward, is_unwinding, is_none_left, is_answer}
use Rattle.dali_record.proofs.Moves.{none_left}
use Rattle.dali_runs.specs.Facts.Plans.{AtWork}
use Rattle.dali_runs.proofs.FactsLemmas.Plans.{plan_answers}
use Rattle.dali_system.specs.declared.want.Want.TheVariants.{Done as AnswerIsNext}
use Rattle.dali_calls.specs.declared.stage.Stage.{Stage}
use Rattle.dali_calls.specs.declared.stage.Stage.TheVariants.{Fresh, Walking, Nowhere, Somewhere, Storing, Adding, Removing, Finished}
use Rattle.dali_calls.specs.declared.plan.Phase.{Phase}
use Rattle.dali_calls.specs.declared.plan.Phase.TheVariants.{Calling, Refused, Answered}
use Rattle.dali_calls.specs.Steps.{progress_of, answer_of, is_fresh}
use Rattle.dali_calls.specs.Plans.{is_answered, is_back, is_back_in, goes_back, plan_next, want_in}
use Rattle.dali_calls.specs.Followed.{is_amid, DoneFollows}
use Rattle.dali_calls.proofs.Following.{level_is, nothing_left, or_amid}
use Rattle.dali_calls.proofs.Wholes.{back_next}

-- ---- the answer of a stage is the one that the rules give
same_calls : (c : Call) → same_call c c ≡ true
same_calls (Insert k v) = rw (eqb-self k) ((bytes_eq-Decides v v).1 refl)
same_calls (Update k v) = rw (eqb-self k) ((bytes_eq-Decides v v).1 refl)
same_calls (Delete k) = eqb-self k
same_calls (Get k) = eqb-self k

same_answers : (a : Answer) → same_answer a a ≡ true
same_answers (Got v) = (bytes_eq-Decides v v).1 refl
same_answers (Odd p) = eqb-self p
same_answers _ = refl

no_place : (s : Sizes) (place : ℕ) (b : Bool) (a : Answer) → is_place s place ≡ b → (if b then None else Some (Odd place)) ≡ Some a → (is_place s place ≡ false) × (Odd place ≡ a)
no_place s place true a e f = absurd cc
no_place s place false a e f = (e, same_Some (Odd place) a f)

odd_answers : (k p : ℕ) (b : Bool) → b ≡ false → ((k == k) && (p == p) && not b) ≡ true
odd_answers k p b e = rw (eqb-self k, eqb-self p, e) refl

stage_answers : (s : Sizes) (call : Call) (stage : Stage) (a : Answer) → answer_of s call stage ≡ Some a → answers s (progress_of call stage) call a ≡ true
stage_answers s call Fresh a e = absurd cc
stage_answers s call (Walking r n) a e = absurd cc
stage_answers s (Insert k v) Nowhere a e = absurd cc
stage_answers s (Update k v) Nowhere a e = ap (answers s (progress_of (Update k v) Nowhere) (Update k v)) (sym (same_Some Missing a e)) ∙ eqb-self k
stage_answers s (Delete k) Nowhere a e = ap (answers s (progress_of (Delete k) Nowhere) (Delete k)) (sym (same_Some Missing a e)) ∙ eqb-self k
stage_answers s (Get k) Nowhere a e = ap (answers s (progress_of (Get k) Nowhere) (Get k)) (sym (same_Some Missing a e)) ∙ eqb-self k
stage_answers s (Insert k v) (Somewhere r n p) a e = ap (answers s (progress_of (Insert k v) (Somewhere r n p)) (Insert k v)) (sym (same_Some Exists a e)) ∙ eqb-self k
stage_answers s (Update k v) (Somewhere r n p) a e =
    let w = no_place s p (is_place s p) a refl e in ap (answers s (progress_of (Update k v) (Somewhere r n p)) (Update k v)) (sym w.1) ∙ odd_answers k p (is_place s p) w.0
stage_answers s (Delete k) (Somewhere r n p) a e =
    let w = no_place s p (is_place s p) a refl e in ap (answers s (progress_of (Delete k) (Somewhere r n p)) (Delete k)) (sym w.1) ∙ odd_answers k p (is_place s p) w.0
stage_answers s (Get k) (Somewhere r n p) a e =
    let w = no_place s p (is_place s p) a refl e in ap (answers s (progress_of (Get k) (Somewhere r n p)) (Get k)) (sym w.1) ∙ odd_answers k p (is_place s p) w.0
stage_answers s call (Storing r n) a e = absurd cc
stage_answers s call (Adding p r n) a e = absurd cc
stage_answers s call (Removing r n p) a e = absurd cc
stage_answers s call (Finished b) a e =
    let same = same_Some b a e in ap (answers s (progress_of call (Finished b)) call) (sym same) ∙ (ap (λ (c : Bool). c && same_answer b b) (same_calls call) ∙ same_answers b)

fresh_none : (s : Sizes) (call : Call) (stage : Stage) (a : Answer) → answer_of s call stage ≡ Some a → (c : Bool) → is_fresh stage ≡ c → is_fresh stage ≡ false
fresh_none s call Fresh a e c f = absurd cc
fresh_none s call _ a e c f = refl

-- ---- a plan that wants its answer
is_calling : (phase : Phase) (o : Option (ℕ × Op)) → want_in phase o ≡ AnswerIsNext → (phase ≡ Calling) × (o ≡ None)
is_calling Calling None e = (refl, refl)
is_calling Calling (Some o) e = absurd cc
is_calling Refused None e = absurd cc
is_calling Refused (Some o) e = absurd cc
is_calling Answered None e = absurd cc
is_calling Answered (Some o) e = absurd cc

pub done_follows : DoneFollows
done_follows s L p a sizes w follows wants answer = record {
  working = done.0;
  at_work = done.1;
  before = follows.before;
  undos = done.2 ∙ follows.undos;
  rests = λ e. level_is done.0 (ap length done.2 ∙ sym done.4) (ap is_unwinding done.5);
  progress = λ e. absurd cc;
  mark = λ e. absurd cc;
  winds = λ e. absurd cc;
  onward = λ e f g. absurd cc;
}
  where
    calls : p.phase ≡ Calling
    calls = (is_calling p.phase (plan_next p) wants).0

    none : plan_next p ≡ None
    none = (is_calling p.phase (plan_next p) wants).1

    amid : is_amid p ≡ true
    amid = or_amid p (ap is_answered calls) (fresh_none p.geometry p.call p.stage a answer (is_fresh p.stage) refl)

    right : answers s follows.working.progress p.call a ≡ true
    right = ap (λ q. answers s q p.call a) (follows.progress amid) ∙ (ap (λ (z : Sizes). answers z (progress_of p.call p.stage) p.call a) (sym sizes) ∙ stage_answers p.geometry p.call p.stage a answer)

    back_is : goes_back (answer_of p.geometry p.call p.stage) ≡ takes_back a
    back_is = ap goes_back answer

    back_in : is_back p ≡ (takes_back a && not (is_none_left p.changes))
    back_in = ap (λ (f : Phase). is_back_in f (answer_of p.geometry p.call p.stage) p.changes) calls ∙ ap (λ (c : Bool). c && not (is_none_left p.changes)) back_is

    -- before an answer that takes back nothing is left
    level : takes_back a ≡ true → is_level follows.working ≡ true
    level t = by_left (is_none_left p.changes) refl
      where
        by_left : (c : Bool) → is_none_left p.changes ≡ c → is_level follows.working ≡ true
        by_left true e = level_is follows.working (ap length follows.undos ∙ (ap (λ us. length (follows.before ++ us)) (none_left p.changes e) ∙ (ap length (append-nil follows.before) ∙ sym (follows.mark amid)))) (follows.winds amid)
        by_left false e =
            let back : is_back p ≡ true = back_in ∙ (ap (λ (c : Bool). c && not (is_none_left p.changes)) t ∙ ap not e) in
            let empty : p.changes ≡ [] = nothing_left p.changes (sym (back_next p (is_back p) refl back) ∙ none) in
            let left : is_none_left p.changes ≡ true = ap is_none_left empty in absurd cc

    allowed : (c : Bool) → takes_back a ≡ c → is_answer s follows.working p.call a ≡ true
    allowed true t = ap (λ (b : Bool). b && (if takes_back a then is_level follows.working else is_onward follows.working.way)) right ∙ (ap (λ (b : Bool). if b then is_level follows.working else is_onward follows.working.way) t ∙ level t)
    allowed false t =
        ap (λ (b : Bool). b && (if takes_back a then is_level follows.working else is_onward follows.working.way)) right
        ∙ (ap (λ (b : Bool). if b then is_level follows.working else is_onward follows.working.way) t ∙ follows.onward amid calls (back_is ∙ t))

    done : (v : Working) × AtWork s (L ++ Done p.txn p.call a ∷ []) p.txn v × (v.undos ≡ follows.working.undos) × (v.progress ≡ FreshCall) × (v.mark ≡ length follows.working.undos) × (v.way ≡ Onward)
    done = plan_answers s L p.txn follows.working p.call a follows.at_work (allowed (takes_back a) refl)
