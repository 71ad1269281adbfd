-- A plan follows the log.
use Rattle.std.proofs.Common.{◌≡◌, ℕ, ◌<◌, Bool, true, false, not, ◌&&◌, ◌||◌, List, [], ◌∷◌, ◌++◌, Option, Some, None, refl, sym, ap, subst, ◌∙◌, arith, length, length-append}
use Rattle.std.specs.List.{AllByRecursion}
use Rattle.std.specs.Prelude.{◌==◌, if◌then◌else◌}
use Rattle.std.proofs.lemmas.Bool.{eq-eqb, lt-ltb}
use Rattle.std.proofs.lemmas.Bool.Decides.{Decides-eqb}
use Rattle.std.proofs.lemmas.List.{append-nil, append_assoc, nil_from_length}
use Rattle.std.proofs.lemmas.List.Sums.{fold-append}
use Rattle.dali_lists.proofs.Numbers.{eqb-self}
use Rattle.dali_lists.proofs.Tests.{left_true}
use Rattle.dali_geometry.specs.Sizes.{Sizes}
use Rattle.dali_geometry.specs.Places.{home, heap_start, is_place, region_at, cell_at}
use Rattle.dali_record.specs.declared.operations.Op.{Op}
use Rattle.dali_record.specs.declared.operations.Op.TheVariants.{Look}
use Rattle.dali_record.specs.declared.operations.Block.{Block}
use Rattle.dali_record.specs.declared.operations.Pending.{Pending}
use Rattle.dali_record.specs.declared.records.Answer.{Answer}
use Rattle.dali_record.specs.declared.records.Call.{Call}
use Rattle.dali_record.specs.declared.records.Call.TheVariants.{Insert, Update, Delete, Get}
use Rattle.dali_record.specs.declared.records.Answer.TheVariants.{Odd}
use Rattle.dali_record.specs.declared.records.Record.{Record}
use Rattle.dali_record.specs.declared.records.Record.TheVariants.{Forward, Back}
use Rattle.dali_record.specs.Operations.{undo_op}
use Rattle.dali_record.specs.Log.{last_of, drop_last, undo_added, undos_of, undo_step}
use Rattle.dali_record.specs.Calls.{Progress, Fresh as FreshCall, Walking as WalkingCall, Nowhere as NowhereCall, Somewhere as SomewhereCall, Storing as StoringCall, Adding as AddingCall, Removing as RemovingCall, Finished as FinishedCall, follow, look_next, put_next, store_next, add_next, cell_next, entry_next, after_look, when, on_item}
use Rattle.dali_record.specs.Legal.{Working, Way, Onward, TakingBack, Unwinding, way_back, is_level, is_onward, is_unwinding, is_none_left}
use Rattle.dali_record.proofs.Tracks.{active-undos}
use Rattle.dali_runs.specs.Facts.Plans.{AtWork, IsPlan}
use Rattle.dali_runs.proofs.FactsLemmas.Plans.{plan_goes_on, plan_starts, take_back_goes_on}
use Rattle.dali_system.specs.declared.want.Want.TheVariants.{Nothing}
use Rattle.dali_calls.specs.declared.stage.Stage.{Stage}
use Rattle.dali_calls.specs.declared.stage.Stage.TheVariants.{Fresh, Walking, Nowhere, Somewhere, Storing, Adding, Removing, Finished}
use Rattle.dali_calls.specs.declared.plan.Phase.{Phase}
use Rattle.dali_calls.specs.declared.plan.Phase.TheVariants.{Calling, Refused, Answered}
use Rattle.dali_calls.specs.Steps.{call_key, progress_of, in_cell, next_op, answer_of, is_fresh, most}
use Rattle.dali_calls.specs.Plans.{Planned, is_answered, is_back, is_back_in, goes_back, undo_next, onward_next, plan_next, want_in, want_of, went_back, IsUndoOf}
use Rattle.dali_calls.specs.Followed.{is_amid, Follows, OnwardFollows, BackFollows, RefusedRests}
use Rattle.dali_calls.proofs.Away.{IsAway, away_is, walks_away}
use Rattle.dali_calls.proofs.Wholes.{onward_of, back_next, second_of}

-- ---- small facts
pub level_is : (w : Working) → length w.undos ≡ w.mark → is_unwinding w.way ≡ false → is_level w ≡ true
level_is w e u = ap (λ (b : Bool). b && not (is_unwinding w.way)) (eq-eqb (length w.undos) w.mark e) ∙ ap not u

level_mark : (w : Working) → is_level w ≡ true → length w.undos ≡ w.mark
level_mark w e = (Decides-eqb (length w.undos) w.mark).0 (left_true (length w.undos == w.mark) (not (is_unwinding w.way)) e)

onward_winds : (x : Way) → is_onward x ≡ true → is_unwinding x ≡ false
onward_winds Onward e = refl
onward_winds TakingBack e = absurd cc
onward_winds Unwinding e = absurd cc

pub or_amid : (p : Planned) → is_answered p.phase ≡ false → is_fresh p.stage ≡ false → is_amid p ≡ true
or_amid p a f = ap (λ (b : Bool). not (b || is_fresh p.stage)) a ∙ ap not f

-- ---- the undo list with one block more
more_undos : (s : Sizes) (t : ℕ) (L : List Record) (b : Block) (w v : Working) → AtWork s L t w → AtWork s (L ++ Forward t b ∷ []) t v → v.undos ≡ w.undos ++ undo_added b b.undo
more_undos s t L b w v old new =
    active-undos s t (L ++ Forward t b ∷ []) v new
    ∙ (fold-append (undo_step t) [] L (Forward t b ∷ [])
    ∙ (ap (λ (c : Bool). if c then undos_of t L ++ undo_added b b.undo else undos_of t L) (eqb-self t) ∙ ap (λ (us : List Pending). us ++ undo_added b b.undo) (sym (active-undos s t L w old))))

-- ---- the first block of a call
look_of_home : (s : Sizes) (t : ℕ) (b : Block) (p : Progress) → b.op ≡ Look → b.region ≡ home s b.key → (p ≡ FreshCall → ⊥) → 0 < s.index → IsAway s p → follow s t p b ≡ None
look_of_home s t b FreshCall op r n some away = absurd (n refl)
look_of_home s t b (WalkingCall key region m) op r n some away = ap (look_next s key region m b) op ∙ by_key (b.key == key) refl
  where
    by_key : (c : Bool) → (b.key == key) ≡ c → when (on_item key region b) (after_look s key region m b.outcome) ≡ None
    by_key false e = ap (λ (c : Bool). when (c && (b.region == region)) (after_look s key region m b.outcome)) e
    by_key true e = ap (λ (c : Bool). when (c && (b.region == region)) (after_look s key region m b.outcome)) e ∙ ap (λ (c : Bool). when c (after_look s key region m b.outcome)) (elsewhere (b.region == region) refl)
      where
        elsewhere : (c : Bool) → (b.region == region) ≡ c → (b.region == region) ≡ false
        elsewhere false f = f
        elsewhere true f = absurd (away_is s key region m some away (sym ((Decides-eqb b.region region).0 f) ∙ (r ∙ ap (home s) ((Decides-eqb b.key key).0 e))))
look_of_home s t b (NowhereCall key) op r n some away = ap (put_next s key (heap_start s t) 0 b) op
look_of_home s t b (SomewhereCall key region entry at) op r n some away = ap (cell_next s key region entry at b) op
look_of_home s t b (StoringCall key v region tried) op r n some away = ap (store_next s key v region tried b) op
look_of_home s t b (AddingCall key v at region tried) op r n some away = ap (add_next s key v at region tried b) op
look_of_home s t b (RemovingCall key region entry at) op r n some away = ap (entry_next key region entry at b) op
look_of_home s t b (FinishedCall c a) op r n some away = refl

is_new : Progress → Bool
is_new FreshCall = true
is_new _ = false

new_is : (p : Progress) → is_new p ≡ true → p ≡ FreshCall
unfolding is_new
new_is FreshCall e = refl
new_is _ e = absurd cc

not_new : (p : Progress) → is_new p ≡ false → p ≡ FreshCall → ⊥
unfolding is_new
not_new p e f = let g : is_new p ≡ true = ap is_new f in absurd cc

-- from between two calls, the first block leads to the plan's next stage
pub first_block : (s : Sizes) (L : List Record) (t : ℕ) (b : Block) (w : Working) (q : Progress) → 0 < s.index → AtWork s L t w → is_level w ≡ true → b.op ≡ Look → b.region ≡ home s b.key → follow s t FreshCall b ≡ Some q
    → IsPlan s (L ++ Forward t b ∷ []) t q (length w.undos)
first_block s L t b w q some at level op r f = by_new (is_new w.progress) refl
  where
    by_way : (c : Bool) → is_onward w.way ≡ c → w.progress ≡ FreshCall → IsPlan s (L ++ Forward t b ∷ []) t q (length w.undos)
    by_way true o e =
        plan_goes_on s L t FreshCall q (length w.undos) b (record { working = w; at_work = at; progress_is = e; onward = o; mark_is = sym (level_mark w level) }) f
    by_way false o e = plan_starts s L t w q b at level (λ h. absurd (cc)) f

    by_new : (c : Bool) → is_new w.progress ≡ c → IsPlan s (L ++ Forward t b ∷ []) t q (length w.undos)
    by_new true e = by_way (is_onward w.way) refl (new_is w.progress e)
    by_new false e = plan_starts s L t w q b at level (λ h. look_of_home s t b w.progress op r (not_new w.progress e) some (walks_away s t L w some at)) f

fresh_is : (stage : Stage) → is_fresh stage ≡ true → stage ≡ Fresh
fresh_is Fresh e = refl
fresh_is stage e = absurd cc

pub first_of : (a b : ℕ × Op) → (let o : Option (ℕ × Op) = Some b in Some a ≡ o) → a.0 ≡ b.0
first_of a b e = cc

none_next : (x : ℕ × Op) → (let o : Option (ℕ × Op) = None in o ≡ Some x) → ⊥
none_next x e = absurd cc

both_false : (phase : Phase) (a : Option Answer) (us : List Pending) → phase ≡ Calling → goes_back a ≡ false → is_back_in phase a us ≡ true → ⊥
both_false phase a us c g e = let f : is_back_in Calling a us ≡ true = ap (λ (z : Phase). is_back_in z a us) (sym c) ∙ e in let h : (goes_back a && not (is_none_left us)) ≡ false = ap (λ (b : Bool). b && not (is_none_left us)) g in absurd cc

turned_in : (phase : Phase) (a : Option Answer) (us : List Pending) (o : Option (ℕ × Op)) → is_answered phase ≡ false → want_in phase o ≡ Nothing → is_back_in phase a us ≡ true
turned_in Calling a us None h e = absurd cc
turned_in Calling a us (Some o) h e = absurd cc
turned_in Refused a us o h e = refl
turned_in Answered a us o h e = absurd cc

open_amid : (a f : Bool) → not (a || f) ≡ true → a ≡ false
open_amid false f e = refl
open_amid true f e = absurd cc

turned : (p : Planned) → is_amid p ≡ true → want_of p ≡ Nothing → is_back p ≡ true
turned p amid e = turned_in p.phase (answer_of p.geometry p.call p.stage) p.changes (plan_next p) (open_amid (is_answered p.phase) (is_fresh p.stage) amid) e

-- ---- the block of the next operation
calling_of : (phase : Phase) (b : Bool) (a : Option Answer) (us : List Pending) (o : Option (ℕ × Op)) (x : ℕ × Op) → is_back_in phase a us ≡ false → onward_next phase o ≡ Some x → phase ≡ Calling
calling_of Calling b a us o x e f = refl
calling_of Refused b a us o x e f = absurd cc
calling_of Answered b a us o x e f = absurd cc

going : (a : Option Answer) → (o : Option (ℕ × Op)) (x : ℕ × Op) → (o ≡ Some x) → (o ≡ Some x → a ≡ None) → goes_back a ≡ false
going a o x e f = ap goes_back (f e)

-- a stage with a next operation has no answer
no_answer_in : (s : Sizes) (call : Call) (place : ℕ) (b : Bool) → is_place s place ≡ b → (x : ℕ × Op) → (if b then in_cell call (region_at place) (cell_at place) else None) ≡ Some x → (if b then None else Some (Odd place)) ≡ None
no_answer_in s call place true e x f = refl
no_answer_in s call place false e x f = absurd cc

no_answer : (s : Sizes) (t : ℕ) (call : Call) (stage : Stage) (x : ℕ × Op) → next_op s t call stage ≡ Some x → answer_of s call stage ≡ None
no_answer s t call Fresh x e = refl
no_answer s t call (Walking r n) x e = refl
no_answer s t (Insert key v) Nowhere x e = refl
no_answer s t (Update key v) Nowhere x e = absurd cc
no_answer s t (Delete key) Nowhere x e = absurd cc
no_answer s t (Get key) Nowhere x e = absurd cc
no_answer s t (Insert key v) (Somewhere r n place) x e = absurd (in_none (is_place s place) e)
  where
    in_none : (b : Bool) → (if b then None else None) ≡ Some x → ⊥
    in_none true f = absurd cc
    in_none false f = absurd cc
no_answer s t (Update key v) (Somewhere r n place) x e = no_answer_in s (Update key v) place (is_place s place) refl x e
no_answer s t (Delete key) (Somewhere r n place) x e = no_answer_in s (Delete key) place (is_place s place) refl x e
no_answer s t (Get key) (Somewhere r n place) x e = no_answer_in s (Get key) place (is_place s place) refl x e
no_answer s t call (Storing r n) x e = refl
no_answer s t call (Adding p r n) x e = refl
no_answer s t call (Removing r n p) x e = refl
no_answer s t call (Finished a) x e = absurd cc

pub onward_follows : OnwardFollows
onward_follows s L p q b sizes w follows way of goes = by_fresh (is_fresh p.stage) refl
  where
    x : ℕ × Op
    x = (b.region, b.op)

    next : onward_next p.phase (next_op p.geometry p.txn p.call p.stage) ≡ Some x
    next = sym (onward_of p (is_back p) refl way) ∙ of.op

    calls : p.phase ≡ Calling
    calls = calling_of p.phase false (answer_of p.geometry p.call p.stage) p.changes (next_op p.geometry p.txn p.call p.stage) x way next

    op_is : next_op p.geometry p.txn p.call p.stage ≡ Some x
    op_is = ap (λ (f : Phase). onward_next f (next_op p.geometry p.txn p.call p.stage)) (sym calls) ∙ next

    unanswered : is_answered p.phase ≡ false
    unanswered = ap is_answered calls

    followed : follow s p.txn (progress_of p.call p.stage) b ≡ Some (progress_of p.call q.stage)
    followed = ap (λ (z : Sizes). follow z p.txn (progress_of p.call p.stage) b) (sym sizes) ∙ goes.follows

    amid : is_amid q ≡ true
    amid = ap is_amid goes.rest ∙ or_amid (record p { stage = q.stage }) unanswered goes.begun

    plan_then : (m : ℕ) (old : List Pending) → (follows.working.undos ≡ old ++ p.changes) → m ≡ length old → IsPlan s (L ++ Forward p.txn b ∷ []) p.txn (progress_of p.call q.stage) m → Follows s (L ++ Forward p.txn b ∷ []) q
    plan_then m old undos is plan = record {
      working = plan.working;
      at_work = subst (λ (z : Planned). AtWork s (L ++ Forward p.txn b ∷ []) z.txn plan.working) (sym goes.rest) plan.at_work;
      before = old;
      undos = more_undos s p.txn L b follows.working plan.working follows.at_work plan.at_work ∙ (ap (λ us. us ++ undo_added b b.undo) undos ∙ (append_assoc old p.changes (undo_added b b.undo) ∙ ap (λ us. old ++ us) (sym goes.changes)));
      rests = λ e. absurd (let f : is_amid q ≡ true = amid in cc);
      progress = λ e. plan.progress_is ∙ ap (λ (z : Planned). progress_of z.call q.stage) (sym goes.rest);
      mark = λ e. plan.mark_is ∙ is;
      winds = λ e. onward_winds plan.working.way plan.onward;
      onward = λ e f g. plan.onward;
    }

    by_fresh : (c : Bool) → is_fresh p.stage ≡ c → Follows s (L ++ Forward p.txn b ∷ []) q
    by_fresh true f =
        let new : p.stage ≡ Fresh = fresh_is p.stage f in
        let none : p.changes ≡ [] = nil_from_length p.changes (omega (arith, w.few, ap most new)) in
        let look : Some (home p.geometry (call_key p.call), Look) ≡ Some x = ap (next_op p.geometry p.txn p.call) (sym new) ∙ op_is in
        let still : is_amid p ≡ false = ap (λ (c : Bool). not (c || is_fresh p.stage)) unanswered ∙ ap not f in
        let key : b.key ≡ call_key p.call = ap (λ (z : Block). z.key) of.made_on in
        plan_then (length follows.working.undos) follows.working.undos (sym (ap (λ us. follows.working.undos ++ us) none ∙ append-nil follows.working.undos)) refl
        (first_block s L p.txn b follows.working (progress_of p.call q.stage) (omega (arith, w.sizes.some_index, ap (λ (z : Sizes). z.index) sizes)) follows.at_work (follows.rests still)
        (sym (second_of (home p.geometry (call_key p.call), Look) x look))
        (sym (first_of (home p.geometry (call_key p.call), Look) x look) ∙ (ap (λ (z : Sizes). home z (call_key p.call)) sizes ∙ ap (home s) (sym key)))
        (ap (λ (z : Stage). follow s p.txn (progress_of p.call z) b) (sym new) ∙ followed))
    by_fresh false f =
        let begun : is_amid p ≡ true = or_amid p unanswered f in
        let onward = follows.onward begun calls (ap goes_back (no_answer p.geometry p.txn p.call p.stage x op_is)) in
        plan_then (length follows.before) follows.before follows.undos refl
        (plan_goes_on s L p.txn (progress_of p.call p.stage) (progress_of p.call q.stage) (length follows.before) b
        (record { working = follows.working; at_work = follows.at_work; progress_is = follows.progress begun; onward = onward; mark_is = follows.mark begun }) followed)

-- ---- on the way back
pub last_all : (P : Pending → Type 0) (us : List Pending) (u : Pending) → AllByRecursion P us → last_of us ≡ Some u → P u
last_all P [] u h e = absurd cc
last_all P (v ∷ []) u h e = let same : v ≡ u = cc in subst P same h.0
last_all P (v ∷ x ∷ us) u h e = last_all P (x ∷ us) u h.1 e

last_append : (us vs : List Pending) (u : Pending) → last_of vs ≡ Some u → last_of (us ++ vs) ≡ Some u
last_append [] vs u e = e
last_append (x ∷ []) (v ∷ vs) u e = e
last_append (x ∷ []) [] u e = absurd cc
last_append (x ∷ y ∷ us) vs u e = last_append (y ∷ us) vs u e

pub drop_append : (us vs : List Pending) (u : Pending) → last_of vs ≡ Some u → drop_last (us ++ vs) ≡ us ++ drop_last vs
drop_append [] vs u e = refl
drop_append (x ∷ []) (v ∷ vs) u e = refl
drop_append (x ∷ []) [] u e = absurd cc
drop_append (x ∷ y ∷ us) vs u e = ap (λ zs. x ∷ zs) (drop_append (y ∷ us) vs u e)

some_there : (us : List Pending) (u : Pending) → last_of us ≡ Some u → 0 < length us
some_there [] u e = absurd cc
some_there (x ∷ us) u e = omega arith

not_answered : (phase : Phase) (a : Option Answer) (us : List Pending) → is_back_in phase a us ≡ true → is_answered phase ≡ false
not_answered Calling a us e = refl
not_answered Refused a us e = refl
not_answered Answered a us e = absurd cc

none_fewer : (stage : Stage) (c : Bool) → is_fresh stage ≡ c → 0 < most stage → is_fresh stage ≡ false
none_fewer stage false e h = e
none_fewer stage true e h = absurd (omega (arith, h, ap most (fresh_is stage e)))

taking_back : (w : Working) → w.mark < length w.undos → way_back w ≡ TakingBack
taking_back w h = ap (λ (c : Bool). if c then TakingBack else Unwinding) (lt-ltb w.mark (length w.undos) h)

pub back_follows : BackFollows
back_follows s L p b sizes w follows way of = by_last (last_of p.changes) refl
  where
    x : ℕ × Op
    x = (b.region, b.op)

    next : undo_next (last_of p.changes) ≡ Some x
    next = sym (back_next p (is_back p) refl way) ∙ of.op

    by_last : (o : Option Pending) → last_of p.changes ≡ o → Follows s (L ++ Back p.txn b ∷ []) (went_back p)
    by_last None e = absurd (none_next x (ap undo_next (sym e) ∙ next))
    by_last (Some u) e =
        let is : Some (u.region, undo_op u.undo) ≡ Some x = ap undo_next (sym e) ∙ next in
        let mine : IsUndoOf p.geometry p.call u = last_all (IsUndoOf p.geometry p.call) p.changes u w.undoes e in
        let some : 0 < length p.changes = some_there p.changes u e in
        let amid : is_amid p ≡ true = or_amid p (not_answered p.phase (answer_of p.geometry p.call p.stage) p.changes way) (none_fewer p.stage (is_fresh p.stage) refl (omega (arith, w.few, some))) in
        let last : last_of follows.working.undos ≡ Some u = ap last_of follows.undos ∙ last_append follows.before p.changes u e in
        let key : b.key ≡ u.key = ap (λ (z : Block). z.key) of.made_on ∙ sym mine.key in
        let v = take_back_goes_on s L p.txn follows.working u b follows.at_work last key (sym (first_of (u.region, undo_op u.undo) x is)) (sym (second_of (u.region, undo_op u.undo) x is)) in
        let longer : follows.working.mark < length follows.working.undos = omega (arith, follows.mark amid, ap length follows.undos, length-append follows.before p.changes, some) in
        record {
          working = v.0;
          at_work = v.1;
          before = follows.before;
          undos = v.2 ∙ (ap drop_last follows.undos ∙ drop_append follows.before p.changes u e);
          rests = λ f. absurd (let g : is_amid p ≡ true = amid in cc);
          progress = λ f. v.4 ∙ follows.progress amid;
          mark = λ f. v.3 ∙ follows.mark amid;
          winds = λ f. ap is_unwinding (v.5 ∙ taking_back follows.working longer);
          onward = λ f c g. absurd (both_false p.phase (answer_of p.geometry p.call p.stage) p.changes c g way);
        }

-- ---- a plan that wants nothing
pub nothing_left : (us : List Pending) → undo_next (last_of us) ≡ None → us ≡ []
nothing_left [] e = refl
nothing_left (u ∷ us) e = absurd (never (u ∷ us) (omega arith) e)
  where
    never : (vs : List Pending) → 0 < length vs → undo_next (last_of vs) ≡ None → ⊥
    never [] h f = omega (arith, h)
    never (v ∷ []) h f = absurd cc
    never (v ∷ x ∷ vs) h f = never (x ∷ vs) (omega arith) f

none_wanted : (phase : Phase) (o : Option (ℕ × Op)) → want_in phase o ≡ Nothing → o ≡ None
none_wanted phase (Some o) e = absurd cc
none_wanted phase None e = refl

pub refused_rests : RefusedRests
refused_rests s L p w follows wants = (follows.working, follows.at_work, by_amid (is_amid p) refl)
  where
    by_amid : (c : Bool) → is_amid p ≡ c → is_level follows.working ≡ true
    by_amid false e = follows.rests e
    by_amid true e =
        let back : is_back p ≡ true = turned p e wants in
        let none : p.changes ≡ [] = nothing_left p.changes (sym (back_next p (is_back p) refl back) ∙ none_wanted p.phase (plan_next p) wants) in
        level_is follows.working (ap length follows.undos ∙ (ap (λ us. length (follows.before ++ us)) none ∙ (ap length (append-nil follows.before) ∙ sym (follows.mark e)))) (follows.winds e)
