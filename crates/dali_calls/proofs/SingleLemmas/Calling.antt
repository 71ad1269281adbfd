-- A whole call: its request, its plan, and its end.
use Rattle.std.proofs.Common.{inl, inr, ◌≡◌, ℕ, Bool, true, false, not, ◌&&◌, ◌||◌, List, [], ◌∷◌, ◌++◌, Option, Some, None, IsSome, refl, sym, ap, subst, ◌∙◌, length, slice_get, slice_set}
use Rattle.std.specs.Prelude.{◌==◌, if◌then◌else◌}
use Rattle.std.specs.List.{AllByRecursion}
use Rattle.std.specs.FinMap.{get}
use Rattle.std.proofs.lemmas.Bool.Decides.{Decides-eqb}
use Rattle.std.proofs.lemmas.List.{append-nil}
use Rattle.dali_lists.proofs.Lists.{set_same}
use Rattle.dali_lists.proofs.Members.{all_weaker, all_append}
use Rattle.dali_geometry.specs.Sizes.{Sizes}
use Rattle.dali_geometry.specs.Places.{regions}
use Rattle.dali_record.specs.declared.operations.Op.{Op}
use Rattle.dali_record.specs.declared.operations.Undo.{Undo}
use Rattle.dali_record.specs.declared.operations.Undo.TheVariants.{FreeCell as UndoFreeCell}
use Rattle.dali_record.specs.declared.operations.Pending.{Pending}
use Rattle.dali_record.specs.Spelling.{IsUndo, IsOperation}
use Rattle.dali_record.specs.declared.records.Answer.{Answer}
use Rattle.dali_record.specs.declared.records.Call.{Call}
use Rattle.dali_record.specs.declared.records.Record.{Record}
use Rattle.dali_record.specs.declared.records.Record.TheVariants.{Done}
use Rattle.dali_record.specs.Operations.{undo_op}
use Rattle.dali_record.specs.Log.{last_of}
use Rattle.dali_record.specs.Legal.{Working, is_level, on_kind}
use Rattle.dali_region.specs.State.{RegionState}
use Rattle.dali_locks.specs.declared.mode.Mode.{Mode}
use Rattle.dali_locks.specs.declared.mode.Mode.TheVariants.{Shared, Exclusive}
use Rattle.dali_locks.specs.declared.mode.LockAnswer.{LockAnswer}
use Rattle.dali_locks.specs.declared.mode.LockAnswer.TheVariants.{Granted, Busy as LockBusy}
use Rattle.dali_locks.specs.Locks.{Locks, locks_with, stronger_mode, IsAnswer}
use Rattle.dali_locks.proofs.Changes.{get-locks_with}
use Rattle.dali_att.specs.declared.state.State.TheVariants.{Live}
use Rattle.dali_att.specs.Table.{undos_at}
use Rattle.dali_runs.specs.State.{SystemState, VaultState, CoreState, row_of, state_of, lock_of}
use Rattle.dali_runs.specs.Run.{covers}
use Rattle.dali_runs.specs.Steps.{granted, refused as not_granted, done_logged}
use Rattle.dali_runs.specs.Keeps.{HasRoom, IsFree, with_system}
use Rattle.dali_runs.specs.Courses.{Step, IsStep, Locks as AsksLock, Answers}
use Rattle.dali_runs.specs.Facts.Plans.{AtWork}
use Rattle.dali_system.specs.Served.{Served}
use Rattle.dali_system.specs.Asked.{after_request}
use Rattle.dali_system.specs.declared.want.Want.TheVariants.{Done as AnswerIsNext, Nothing}
use Rattle.dali_calls.specs.declared.stage.Stage.TheVariants.{Fresh}
use Rattle.dali_calls.specs.declared.plan.Phase.{Phase}
use Rattle.dali_calls.specs.declared.plan.Phase.TheVariants.{Calling, Refused as RefusedPhase}
use Rattle.dali_calls.specs.Steps.{call_key, is_get, is_fresh, answer_of}
use Rattle.dali_calls.specs.Plans.{Planned, mode_of, plan_next, want_of, want_in, undo_next, is_back, is_back_in, is_answered, refused, IsUndoOf, IsWhole}
use Rattle.dali_calls.specs.Followed.{Follows}
use Rattle.dali_calls.proofs.Wholes.{back_next}
use Rattle.dali_calls.proofs.Answering.{done_follows}
use Rattle.dali_calls.proofs.Following.{refused_rests}
use Rattle.dali_calls.proofs.Stepping.{done_is_step}
use Rattle.dali_calls.proofs.Operating.{steps_on}
use Rattle.dali_calls.specs.Single.Stands.{core, IsAtRest, AtPlan}
use Rattle.dali_calls.specs.declared.single.error.CallError.{CallError}
use Rattle.dali_calls.specs.declared.single.error.StepError.{StepError}
use Rattle.dali_calls.specs.Single.Refusals.{IsRefusal}
use Rattle.dali_calls.specs.declared.single.error.CallError.TheVariants.{Wait, Busy, Refused, HalfDone}
use Rattle.dali_runs.specs.Facts.Undos.{MayBePerformed}
use Rattle.dali_calls.specs.Single.Single.{Leads, MayCall, IsAnswered, IsRefusedAt, IsAsBefore, IsHalfDone, Fails, AreCovered, Keeps}
use Rattle.dali_calls.specs.Single.Operated.{IsLeftOf}
use Rattle.dali_calls.specs.Single.Advanced.{Led, Advanced, Finished, AreLeftOf, Halts, GivenUp}
use Rattle.dali_calls.proofs.SingleLemmas.Leading.{leads_there, stays_free}
use Rattle.dali_calls.proofs.SingleLemmas.Going.{row_there, alive, stays, none_operated, goes_further}

-- ---- the lock
covered : (o : Option Mode) (b : Bool) → covers (Some (stronger_mode o (if b then Shared else Exclusive))) (not b) ≡ true
covered (Some Shared) true = refl
covered (Some Shared) false = refl
covered _ true = refl
covered _ false = refl

both_same : (t k : ℕ) → ((t == t) && (k == k)) ≡ true
both_same t k = ap (λ (b : Bool). b && (k == k)) ((Decides-eqb t t).1 refl) ∙ (Decides-eqb k k).1 refl

lock_here : (locks : Locks) (t k : ℕ) (m : Mode) → get (locks_with locks t k m) (t, k) ≡ Some (stronger_mode (get locks (t, k)) m)
lock_here locks t k m = get-locks_with locks t k m t k ∙ ap (λ (b : Bool). if b then Some (stronger_mode (get locks (t, k)) m) else get locks (t, k)) (both_same t k)

abbrev pub new_plan : Sizes → ℕ → Call → Planned
new_plan s t call = record { geometry = s; txn = t; call = call; stage = Fresh; phase = Calling; changes = []; operation = None }

holds_new : (y : SystemState) (t : ℕ) (call : Call) → covers (lock_of (granted y t (call_key call) (mode_of call)) t (call_key call)) (not (is_get call)) ≡ true
holds_new y t call =
    ap (λ (o : Option Mode). covers o (not (is_get call))) (lock_here y.locks t (call_key call) (mode_of call))
    ∙ covered (get y.locks (t, call_key call)) (is_get call)

pub lock_apart : (locks : Locks) (t u k j : ℕ) (m : Mode) → (t == u) ≡ false → get (locks_with locks t k m) (u, j) ≡ get locks (u, j)
lock_apart locks t u k j m e = get-locks_with locks t k m u j ∙ ap (λ (b : Bool). if b && (k == j) then Some (stronger_mode (get locks (u, j)) m) else get locks (u, j)) e

-- ---- the plan
plan_begins : (s : Sizes) (L : List Record) (t : ℕ) (call : Call) (w : Working) → AtWork s L t w → is_level w ≡ true
    → Follows s L (record { geometry = s; txn = t; call = call; stage = Fresh; phase = Calling; changes = []; operation = None })
plan_begins s L t call w at level = record {
  working = w;
  at_work = at;
  before = w.undos;
  undos = none_more w.undos;
  rests = λ e. level;
  progress = λ e. absurd (cc);
  mark = λ e. absurd (cc);
  winds = λ e. absurd (cc);
  onward = λ e. absurd (cc);
}
  where
    none_more : (us : List Pending) → us ≡ us ++ []
    none_more [] = refl
    none_more (u ∷ us) = ap (λ (l : List Pending). u ∷ l) (none_more us)

pub plan_turns : (s : Sizes) (L : List Record) (p : Planned) → is_answered p.phase ≡ false → Follows s L p → Follows s L (refused p)
plan_turns s L p e f = record {
  working = f.working;
  at_work = f.at_work;
  before = f.before;
  undos = f.undos;
  rests = λ h. f.rests (same ∙ h);
  progress = λ h. f.progress (same ∙ h);
  mark = λ h. f.mark (same ∙ h);
  winds = λ h. f.winds (same ∙ h);
  onward = λ h g. absurd (cc);
}
  where
    same : not (is_answered p.phase || is_fresh p.stage) ≡ not (false || is_fresh p.stage)
    same = ap (λ (b : Bool). not (b || is_fresh p.stage)) e

-- ---- a call is asked for
pub rest_new : (rs : List RegionState) (y : SystemState) (t : ℕ) (call : Call) → length rs ≡ regions y.sizes → state_of y t ≡ Some Live
    → IsAtRest rs (granted y t (call_key call) (mode_of call)) (new_plan y.sizes t call)
rest_new rs y t call whole lives = record { sizes = refl; whole = whole; lives = lives; closed = refl }

pub at_new : (L : List Record) (rs : List RegionState) (y : SystemState) (v : VaultState) (t : ℕ) (call : Call) → MayCall L (core rs y v) t
    → AtPlan L (core rs (granted y t (call_key call) (mode_of call)) v) (new_plan y.sizes t call)
at_new L rs y v t call may = record {
  follows = plan_begins y.sizes L t call may.working may.at_work may.level;
  holds = holds_new y t call;
  free = may.free;
}

asked : (precheck : Bool) (L M : List Record) (c : CoreState) (d e : CoreState) (t k : ℕ) (m : Mode) (xs : List Step) → IsSome (row_of c.system t) → IsAnswer c.system.locks t k m Granted
    → d ≡ with_system c (granted c.system t k m) → Leads precheck t L d xs M e → Leads precheck t L c (AsksLock t k m ∷ xs) M e
asked precheck L M c d e t k m xs row free is rest = (L, d, ((row, free, (refl, is)), refl, refl, tt), rest)

-- ---- it is answered
answers : (L : List Record) (c : CoreState) (p : Planned) (a : Answer) → state_of c.system p.txn ≡ Some Live → AtPlan L c p → IsWhole p → p.geometry ≡ c.system.sizes → want_of p ≡ AnswerIsNext
    → answer_of p.geometry p.call p.stage ≡ Some a → HasRoom c.system (Done p.txn p.call a)
    → IsStep L c (Answers p.txn p.call a) (L ++ Done p.txn p.call a ∷ []) (with_system c (done_logged c.system p.txn p.call a)) × MayCall (L ++ Done p.txn p.call a ∷ []) (with_system c (done_logged c.system p.txn p.call a)) p.txn
answers L c p a lives plan w sizes wants given room =
    let now = done_follows c.system.sizes L p a sizes w plan.follows wants given in (
      done_is_step L c p a sizes w plan.follows wants given room lives,
      record { working = now.working; at_work = now.at_work; level = now.rests refl; free = plan.free },
    )

txn_kept : (precheck : Bool) (rs rs' : List RegionState) (y y' : SystemState) (p q : Planned) → Advanced precheck rs y p rs' y' q → q.txn ≡ p.txn
txn_kept precheck rs rs' y y' p q a = ap (λ (z : Planned). z.txn) a.same

call_kept : (precheck : Bool) (rs rs' : List RegionState) (y y' : SystemState) (p q : Planned) → Advanced precheck rs y p rs' y' q → q.call ≡ p.call
call_kept precheck rs rs' y y' p q a = ap (λ (z : Planned). z.call) a.same

finished_there : (precheck : Bool) (L : List Record) (rs rs' : List RegionState) (y z : SystemState) (v : VaultState) (p q : Planned) (a : Answer) → Advanced precheck rs y p rs' z q → IsWhole q → want_of q ≡ AnswerIsNext
    → answer_of q.geometry q.call q.stage ≡ Some a → HasRoom z (Done q.txn q.call a) → AtPlan L (core rs y v) p
    → IsAnswered precheck L (core rs y v) q.txn q.call a (core rs' (done_logged z q.txn q.call a) v)
finished_there precheck L rs rs' y z v p q a go w wants given room plan =
    let led = subst (λ (n : ℕ). Led precheck n L (core rs y v) (core rs' z v) q) (sym (txn_kept precheck rs rs' y z p q go)) (go.goes L v plan) in
    let last = answers led.log (core rs' z v) q a go.rest.lives led.at w go.rest.sizes wants given room in
    record { log = led.log; mid = core rs' z v; steps = led.steps; leads = led.leads; answers = last.0; may = last.1 }

pub call_answered : (precheck : Bool) (rs rs' : List RegionState) (y y' : SystemState) (t : ℕ) (call : Call) (a : Answer) → length rs ≡ regions y.sizes → state_of y t ≡ Some Live → IsAnswer y.locks t (call_key call) (mode_of call) Granted
    → Finished precheck rs (granted y t (call_key call) (mode_of call)) (new_plan y.sizes t call) a rs' y'
    → (L : List Record) (v : VaultState) → MayCall L (core rs y v) t → IsAnswered precheck L (core rs y v) t call a (core rs' y' v)
call_answered precheck rs rs' y y' t call a whole lives free f L v may =
    let go = f.advanced in
    let q = f.plan in
    let txn = txn_kept precheck rs rs' (granted y t (call_key call) (mode_of call)) f.system (new_plan y.sizes t call) q go in
    let same = call_kept precheck rs rs' (granted y t (call_key call) (mode_of call)) f.system (new_plan y.sizes t call) q go in
    let there = finished_there precheck L rs rs' (granted y t (call_key call) (mode_of call)) f.system v (new_plan y.sizes t call) q a go f.whole f.wants f.given f.room (at_new L rs y v t call may) in
    let now : IsAnswered precheck L (core rs (granted y t (call_key call) (mode_of call)) v) t call a (core rs' y' v) =
    subst (λ (u : ℕ). IsAnswered precheck L (core rs (granted y t (call_key call) (mode_of call)) v) u call a (core rs' y' v)) txn
    (subst (λ (k : Call). IsAnswered precheck L (core rs (granted y t (call_key call) (mode_of call)) v) q.txn k a (core rs' y' v)) same
    (subst (λ (x : SystemState). IsAnswered precheck L (core rs (granted y t (call_key call) (mode_of call)) v) q.txn q.call a (core rs' x v)) (sym f.logged) there)) in
    record {
      log = now.log;
      mid = now.mid;
      steps = AsksLock t (call_key call) (mode_of call) ∷ now.steps;
      leads = asked precheck L now.log (core rs y v) (core rs (granted y t (call_key call) (mode_of call)) v) now.mid t (call_key call) (mode_of call) now.steps (row_there y t Live lives) free refl now.leads;
      answers = now.answers;
      may = now.may;
    }

-- ---- what takes t back is covered
covers_still : (o : Option Mode) (m : Mode) → covers o true ≡ true → covers (Some (stronger_mode o m)) true ≡ true
covers_still None m e = absurd cc
covers_still (Some Shared) m e = absurd cc
covers_still (Some Exclusive) m e = refl

lock_still : (locks : Locks) (t k : ℕ) (m : Mode) (j : ℕ) → covers (get locks (t, j)) true ≡ true → covers (get (locks_with locks t k m) (t, j)) true ≡ true
lock_still locks t k m j e = ap (λ (o : Option Mode). covers o true) (get-locks_with locks t k m t j) ∙ by_test ((t == t) && (k == j)) refl
  where
    by_test : (b : Bool) → ((t == t) && (k == j)) ≡ b → covers (if b then Some (stronger_mode (get locks (t, j)) m) else get locks (t, j)) true ≡ true
    by_test true i = covers_still (get locks (t, j)) m e
    by_test false i = e

undo_still : (y z : SystemState) (t k : ℕ) (m : Mode) (u : Pending) → z.sizes ≡ y.sizes → z.locks ≡ locks_with y.locks t k m → MayBePerformed y t u → MayBePerformed z t u
undo_still y z t k m u sizes locks may = record {
  spelled = may.spelled;
  kind = ap (λ (s : Sizes). on_kind s u.region (undo_op u.undo)) sizes ∙ may.kind;
  lock = ap (λ (l : Locks). covers (get l (t, u.key)) true) locks ∙ lock_still y.locks t k m u.key may.lock;
}

undo_spelled : (u : Undo) → IsOperation (undo_op u) → IsUndo u
undo_spelled (UndoFreeCell c) h = h
undo_spelled _ h = h

undo_new : (z : SystemState) (s : Sizes) (t : ℕ) (call : Call) (u : Pending) → z.sizes ≡ s → covers (lock_of z t (call_key call)) true ≡ true → IsUndoOf s call u → MayBePerformed z t u
undo_new z s t call u sizes lock of = record {
  spelled = undo_spelled u.undo of.spelled;
  kind = ap (λ (x : Sizes). on_kind x u.region (undo_op u.undo)) sizes ∙ of.kind;
  lock = ap (λ (k : ℕ). covers (lock_of z t k) true) of.key ∙ lock;
}

-- whatever the plan has changed
new_covered : (z : SystemState) (q : Planned) (t : ℕ) → z.sizes ≡ q.geometry → (is_get q.call ≡ false → covers (lock_of z t (call_key q.call)) true ≡ true) → IsWhole q → AllByRecursion (MayBePerformed z t) q.changes
new_covered z q t sizes lock w = by_call (is_get q.call) refl
  where
    by_call : (b : Bool) → is_get q.call ≡ b → AllByRecursion (MayBePerformed z t) q.changes
    by_call true e = subst (AllByRecursion (MayBePerformed z t)) (sym (w.gets e)) tt
    by_call false e = all_weaker (IsUndoOf q.geometry q.call) (MayBePerformed z t) q.changes (λ u of. undo_new z q.geometry t q.call u sizes (lock e) of) w.undoes

pub stays_covered : (y z : SystemState) (t : ℕ) (call : Call) (q : Planned) → z.sizes ≡ y.sizes → z.locks ≡ locks_with y.locks t (call_key call) (mode_of call) → q.geometry ≡ z.sizes → q.call ≡ call → IsWhole q
    → undos_at z.table t ≡ undos_at y.table t ++ q.changes → AreCovered y t → AreCovered z t
stays_covered y z t call q sizes locks geometry same w undos old =
    subst (AllByRecursion (MayBePerformed z t)) (sym undos)
    (all_append (MayBePerformed z t) (undos_at y.table t) q.changes
    (all_weaker (MayBePerformed y t) (MayBePerformed z t) (undos_at y.table t) (λ u may. undo_still y z t (call_key call) (mode_of call) u sizes locks may) old)
    (new_covered z q t (sym geometry) (λ e. lock e) w))
  where
    lock : is_get q.call ≡ false → covers (lock_of z t (call_key q.call)) true ≡ true
    lock e =
        ap (λ (c : Call). covers (lock_of z t (call_key c)) true) same
        ∙ (ap (λ (l : Locks). covers (get l (t, call_key call)) true) locks
        ∙ (ap (λ (b : Bool). covers (get (locks_with y.locks t (call_key call) (mode_of call)) (t, call_key call)) (not b)) (sym (ap is_get (sym same) ∙ e)) ∙ holds_new y t call))

pub finished_keeps : (precheck : Bool) (rs rs' : List RegionState) (y y' : SystemState) (t : ℕ) (call : Call) (a : Answer) → state_of y t ≡ Some Live
    → Finished precheck rs (granted y t (call_key call) (mode_of call)) (new_plan y.sizes t call) a rs' y' → Keeps y t y'
finished_keeps precheck rs rs' y y' t call a lives f =
    let txn = txn_kept precheck rs rs' (granted y t (call_key call) (mode_of call)) f.system (new_plan y.sizes t call) f.plan f.advanced in
    subst (λ (x : SystemState). Keeps y t x) (sym f.logged) (record {
      sizes = f.advanced.sizes;
      state = subst (λ (u : ℕ). state_of f.system u ≡ Some Live) txn f.advanced.rest.lives ∙ sym lives;
      others = λ u e. (f.advanced.rows u e, λ k. ap (λ (l : Locks). get l (u, k)) f.advanced.locks ∙ lock_apart y.locks t u (call_key call) k (mode_of call) e);
      covered = stays_covered y (done_logged f.system f.plan.txn f.plan.call a) t call f.plan f.advanced.sizes f.advanced.locks f.advanced.rest.sizes (call_kept precheck rs rs' (granted y t (call_key call) (mode_of call)) f.system (new_plan y.sizes t call) f.plan f.advanced) f.whole (f.advanced.undos (undos_at y.table t) (sym (append-nil (undos_at y.table t))));
    })

-- ---- it is refused
none_there : (us : List Pending) → last_of us ≡ None → us ≡ []
none_there [] e = refl
none_there (u ∷ []) e = absurd cc
none_there (u ∷ v ∷ us) e = absurd (never (none_there (v ∷ us) e))
  where
    never : (let n : List Pending = [] in v ∷ us ≡ n) → ⊥
    never g = cc

undo_none : (o : Option Pending) → (let n : Option (ℕ × Op) = None in undo_next o ≡ n) → o ≡ None
undo_none None e = refl
undo_none (Some u) e = absurd cc

refused_back : (q : Planned) → q.phase ≡ RefusedPhase → is_back q ≡ true
refused_back q e = ap (λ (ph : Phase). is_back_in ph (answer_of q.geometry q.call q.stage) q.changes) e

refused_wants : (q : Planned) → q.phase ≡ RefusedPhase → plan_next q ≡ None → want_of q ≡ Nothing
refused_wants q e n = ap (want_in q.phase) n ∙ ap (λ (ph : Phase). want_in ph None) e

none_left : (q : Planned) → q.phase ≡ RefusedPhase → plan_next q ≡ None → q.changes ≡ []
none_left q e n = none_there q.changes (undo_none (last_of q.changes) (sym (back_next q (is_back q) refl (refused_back q e)) ∙ n))

turned : (L : List Record) (c : CoreState) (p : Planned) → p.phase ≡ Calling → AtPlan L c p → AtPlan L c (refused p)
turned L c p e plan = record { follows = plan_turns c.system.sizes L p (ap is_answered e) plan.follows; holds = plan.holds; free = plan.free }

pub rest_turned : (rs : List RegionState) (y : SystemState) (p : Planned) → IsAtRest rs y p → IsAtRest rs y (refused p)
rest_turned rs y p rest = record { sizes = rest.sizes; whole = rest.whole; lives = rest.lives; closed = rest.closed }

-- what the plan of a call of t came to when it was refused
pub record Turned (precheck : Bool) (rs : List RegionState) (y : SystemState) (t : ℕ) (call : Call) (rs2 : List RegionState) (y2 : SystemState) (q : Planned) : Type 0 where
  pub mid_regions : List RegionState
  pub mid_system : SystemState
  pub mid : Planned
  pub calling : mid.phase ≡ Calling
  pub onward : Advanced precheck rs (granted y t (call_key call) (mode_of call)) (new_plan y.sizes t call) mid_regions mid_system mid
  pub back : Advanced false mid_regions mid_system (refused mid) rs2 y2 q

turned_txn : (precheck : Bool) (rs rs2 : List RegionState) (y y2 : SystemState) (t : ℕ) (call : Call) (q : Planned) → Turned precheck rs y t call rs2 y2 q → q.txn ≡ t
turned_txn precheck rs rs2 y y2 t call q m = ap (λ (z : Planned). z.txn) m.back.same ∙ ap (λ (z : Planned). z.txn) m.onward.same

turned_undos : (precheck : Bool) (rs rs2 : List RegionState) (y y2 : SystemState) (t : ℕ) (call : Call) (q : Planned) → Turned precheck rs y t call rs2 y2 q → undos_at y2.table t ≡ undos_at y.table t ++ q.changes
turned_undos precheck rs rs2 y y2 t call q m =
    let mid_txn = txn_kept precheck rs m.mid_regions (granted y t (call_key call) (mode_of call)) m.mid_system (new_plan y.sizes t call) m.mid m.onward in
    let first = m.onward.undos (undos_at y.table t) (sym (append-nil (undos_at y.table t))) in
    ap (undos_at y2.table) (sym mid_txn) ∙ m.back.undos (undos_at y.table t) (subst (λ (u : ℕ). undos_at m.mid_system.table u ≡ undos_at y.table t ++ m.mid.changes) (sym mid_txn) first)

-- where it stood when it was refused
abbrev refused_at : (precheck : Bool) (rs rs2 : List RegionState) (y y2 : SystemState) (t : ℕ) (call : Call) (q : Planned) (cause : StepError) → state_of y t ≡ Some Live → IsAnswer y.locks t (call_key call) (mode_of call) Granted
    → (m : Turned precheck rs y t call rs2 y2 q) → IsWhole m.mid → IsRefusal precheck m.mid m.mid_regions m.mid_system cause
    → (L : List Record) (v : VaultState) → MayCall L (core rs y v) t → IsRefusedAt precheck L (core rs y v) t call Calling cause
refused_at precheck rs rs2 y y2 t call q cause lives free m w why L v may =
    let one = m.onward.goes L v (at_new L rs y v t call may) in
    record {
      log = one.log;
      mid = core m.mid_regions m.mid_system v;
      steps = AsksLock t (call_key call) (mode_of call) ∷ one.steps;
      leads = asked precheck L one.log (core rs y v) (core rs (granted y t (call_key call) (mode_of call)) v) (core m.mid_regions m.mid_system v) t (call_key call) (mode_of call) one.steps (row_there y t Live lives) free refl one.leads;
      plan = m.mid;
      is_of = (
        txn_kept precheck rs m.mid_regions (granted y t (call_key call) (mode_of call)) m.mid_system (new_plan y.sizes t call) m.mid m.onward,
        call_kept precheck rs m.mid_regions (granted y t (call_key call) (mode_of call)) m.mid_system (new_plan y.sizes t call) m.mid m.onward,
        m.calling,
      );
      whole = w;
      rest = m.onward.rest;
      at = one.at;
      refused = why;
    }

-- the steps that took back
led_back : (precheck : Bool) (L : List Record) (rs rs2 : List RegionState) (y y2 : SystemState) (v : VaultState) (t : ℕ) (call : Call) (q : Planned) → (m : Turned precheck rs y t call rs2 y2 q)
    → AtPlan L (core m.mid_regions m.mid_system v) m.mid → Led false t L (core m.mid_regions m.mid_system v) (core rs2 y2 v) q
led_back precheck L rs rs2 y y2 v t call q m at =
    let mid_txn = txn_kept precheck rs m.mid_regions (granted y t (call_key call) (mode_of call)) m.mid_system (new_plan y.sizes t call) m.mid m.onward in
    subst (λ (n : ℕ). Led false n L (core m.mid_regions m.mid_system v) (core rs2 y2 v) q) mid_txn (m.back.goes L v (turned L (core m.mid_regions m.mid_system v) m.mid m.calling at))

pub call_taken_back : (precheck : Bool) (rs rs2 : List RegionState) (y y2 : SystemState) (t : ℕ) (call : Call) (q : Planned) (cause : StepError) → state_of y t ≡ Some Live → IsAnswer y.locks t (call_key call) (mode_of call) Granted
    → (m : Turned precheck rs y t call rs2 y2 q) → IsWhole m.mid → IsRefusal precheck m.mid m.mid_regions m.mid_system cause → IsWhole q → plan_next q ≡ None
    → (L : List Record) (v : VaultState) → MayCall L (core rs y v) t → IsAsBefore L (core rs y v) t call precheck cause (core rs2 y2 v)
call_taken_back precheck rs rs2 y y2 t call q cause lives free m mid_whole why w none L v may =
    let first : IsRefusedAt precheck L (core rs y v) t call Calling cause = refused_at precheck rs rs2 y y2 t call q cause lives free m mid_whole why L v may in
    let one = m.onward.goes L v (at_new L rs y v t call may) in
    let led = led_back precheck one.log rs rs2 y y2 v t call q m one.at in
    let txn = turned_txn precheck rs rs2 y y2 t call q m in
    let phase : q.phase ≡ RefusedPhase = ap (λ (z : Planned). z.phase) m.back.same in
    let now = refused_rests y2.sizes led.log q w led.at.follows (refused_wants q phase none) in
    record {
      refused = first;
      log = led.log;
      steps = led.steps;
      back = led.leads;
      may = subst (λ (u : ℕ). MayCall led.log (core rs2 y2 v) u) txn (record { working = now.0; at_work = now.1; level = now.2; free = led.at.free });
      undos = turned_undos precheck rs rs2 y y2 t call q m ∙ (ap (λ (us : List Pending). undos_at y.table t ++ us) (none_left q phase none) ∙ append-nil (undos_at y.table t));
    }

-- ---- what a refused operation leaves
pub left_advanced : (precheck : Bool) (rs rs' : List RegionState) (y : SystemState) (p : Planned) → IsAtRest rs y p → AreLeftOf p.txn rs rs' → Advanced precheck rs y p rs' y p
left_advanced precheck rs rs' y p rest (inl same) = subst (λ (gs : List RegionState). Advanced precheck rs y p gs y p) (sym same) (stays precheck rs y p rest)
left_advanced precheck rs rs' y p rest (inr o) = subst (λ (gs : List RegionState). Advanced precheck rs y p gs y p) (sym o.5) (none_operated precheck rs y p o.0 o.1 o.2 rest o.3 o.4)

-- its steps log nothing
record Left (t : ℕ) (L : List Record) (c d : CoreState) : Type 0 where
  pub steps : List Step
  pub leads : Leads false t L c steps L d
  pub free : IsFree d t

left_in : (L : List Record) (rs : List RegionState) (y : SystemState) (v : VaultState) (t r : ℕ) (g h : RegionState) → state_of y t ≡ Some Live → IsFree (core rs y v) t → slice_get rs r ≡ Some g → IsLeftOf t g h
    → Left t L (core rs y v) (core (slice_set rs r h) y v)
left_in L rs y v t r g h lives free at (inl same) =
    subst (λ (gs : List RegionState). Left t L (core rs y v) (core gs y v)) (sym (set_same rs r h (at ∙ ap Some (sym same)))) (record { steps = []; leads = (refl, refl); free = free })
left_in L rs y v t r g h lives free at (inr left) = record {
  steps = steps_on r left.0;
  leads = leads_there false L (core rs y v) t r g h left.0 (alive (state_of y t) lives) at left.1;
  free = stays_free (core rs y v) (core (slice_set rs r h) y v) t r g h free at left.2 refl;
}

left_leads : (L : List Record) (rs rs' : List RegionState) (y : SystemState) (v : VaultState) (t : ℕ) → state_of y t ≡ Some Live → IsFree (core rs y v) t → AreLeftOf t rs rs' → Left t L (core rs y v) (core rs' y v)
left_leads L rs rs' y v t lives free (inl same) = subst (λ (gs : List RegionState). Left t L (core rs y v) (core gs y v)) (sym same) (record { steps = []; leads = (refl, refl); free = free })
left_leads L rs rs' y v t lives free (inr o) = subst (λ (gs : List RegionState). Left t L (core rs y v) (core gs y v)) (sym o.5) (left_in L rs y v t o.0 o.1 o.2 lives free o.3 o.4)

pub call_half_done : (precheck : Bool) (rs rs2 rs3 : List RegionState) (y y2 : SystemState) (t : ℕ) (call : Call) (q : Planned) (first cause : StepError) → state_of y t ≡ Some Live → IsAnswer y.locks t (call_key call) (mode_of call) Granted
    → (m : Turned precheck rs y t call rs2 y2 q) → IsWhole m.mid → IsRefusal precheck m.mid m.mid_regions m.mid_system first → IsWhole q → IsRefusal false q rs2 y2 cause → AreLeftOf q.txn rs2 rs3
    → (L : List Record) (v : VaultState) → MayCall L (core rs y v) t → IsHalfDone L (core rs y v) t call precheck cause (core rs3 y2 v)
call_half_done precheck rs rs2 rs3 y y2 t call q first cause lives free m mid_whole why w stuck left L v may =
    let at_first : IsRefusedAt precheck L (core rs y v) t call Calling first = refused_at precheck rs rs2 y y2 t call q first lives free m mid_whole why L v may in
    let one = m.onward.goes L v (at_new L rs y v t call may) in
    let led = led_back precheck one.log rs rs2 y y2 v t call q m one.at in
    let txn = turned_txn precheck rs rs2 y y2 t call q m in
    let more = left_leads led.log rs2 rs3 y2 v t (subst (λ (u : ℕ). state_of y2 u ≡ Some Live) txn m.back.rest.lives) (subst (IsFree (core rs2 y2 v)) txn led.at.free) (subst (λ (u : ℕ). AreLeftOf u rs2 rs3) txn left) in
    record {
      first = first;
      refused = at_first;
      stuck = record {
        log = led.log;
        mid = core rs2 y2 v;
        steps = led.steps;
        leads = led.leads;
        plan = q;
        is_of = (txn, ap (λ (z : Planned). z.call) m.back.same ∙ call_kept precheck rs m.mid_regions (granted y t (call_key call) (mode_of call)) m.mid_system (new_plan y.sizes t call) m.mid m.onward, ap (λ (z : Planned). z.phase) m.back.same);
        whole = w;
        rest = m.back.rest;
        at = led.at;
        refused = stuck;
      };
      steps = more.steps;
      left = more.leads;
      working = led.at.follows.working;
      at_work = subst (λ (u : ℕ). AtWork y2.sizes led.log u led.at.follows.working) txn led.at.follows.at_work;
      free = more.free;
    }

pub turned_keeps : (precheck : Bool) (rs rs2 : List RegionState) (y y2 : SystemState) (t : ℕ) (call : Call) (q : Planned) → state_of y t ≡ Some Live → IsWhole q → Turned precheck rs y t call rs2 y2 q → Keeps y t y2
turned_keeps precheck rs rs2 y y2 t call q lives w m = record {
  covered = stays_covered y y2 t call q (m.back.sizes ∙ m.onward.sizes) (m.back.locks ∙ m.onward.locks) m.back.rest.sizes (ap (λ (z : Planned). z.call) m.back.same ∙ ap (λ (z : Planned). z.call) m.onward.same) w (turned_undos precheck rs rs2 y y2 t call q m);
  sizes = m.back.sizes ∙ m.onward.sizes;
  state = subst (λ (u : ℕ). state_of y2 u ≡ Some Live) (turned_txn precheck rs rs2 y y2 t call q m) m.back.rest.lives ∙ sym lives;
  others = λ u e. (
    m.back.rows u (ap (λ (n : ℕ). n == u) (txn_kept precheck rs m.mid_regions (granted y t (call_key call) (mode_of call)) m.mid_system (new_plan y.sizes t call) m.mid m.onward) ∙ e) ∙ m.onward.rows u e,
    λ k. ap (λ (l : Locks). get l (u, k)) (m.back.locks ∙ m.onward.locks) ∙ lock_apart y.locks t u (call_key call) k (mode_of call) e,
  );
}

-- ---- in terms of what the calls gave
-- the state and the plan behind a request that was granted
pub record IsAsked (y : Served) (t : ℕ) (call : Call) (asked : Served) (p : Planned) : Type 0 where
  pub granted_there : asked.state ≡ granted y.state t (call_key call) (mode_of call)
  pub plan : p ≡ new_plan y.state.sizes t call
  pub free : IsAnswer y.state.locks t (call_key call) (mode_of call) Granted

pub is_asked : (y asked : Served) (t : ℕ) (call : Call) (p : Planned) (g : Sizes) (lock : ℕ × Mode) (a : LockAnswer) → a ≡ Granted → g ≡ y.state.sizes → p ≡ new_plan g t call → lock ≡ (call_key p.call, mode_of p.call)
    → asked ≡ record y { state = after_request y.state t lock.0 lock.1 a } → IsAnswer y.state.locks t lock.0 lock.1 a
    → IsAsked y t call asked p
is_asked y asked t call p g lock a granted_is sizes plan is now free =
    let keys : lock ≡ (call_key call, mode_of call) = is ∙ ap (λ (x : Planned). (call_key x.call, mode_of x.call)) plan in
    record {
      granted_there = ap (λ (s : Served). s.state) now ∙ (ap (after_request y.state t lock.0 lock.1) granted_is ∙ ap (λ (l : ℕ × Mode). granted y.state t l.0 l.1) keys);
      plan = plan ∙ ap (λ (s : Sizes). new_plan s t call) sizes;
      free = subst (λ (l : ℕ × Mode). IsAnswer y.state.locks t l.0 l.1 Granted) keys (subst (IsAnswer y.state.locks t lock.0 lock.1) granted_is free);
    }

finished_as : (precheck : Bool) (rs rs' : List RegionState) (y asked : Served) (y' : SystemState) (t : ℕ) (call : Call) (p : Planned) (a : Answer) → IsAsked y t call asked p → Finished precheck rs asked.state p a rs' y'
    → Finished precheck rs (granted y.state t (call_key call) (mode_of call)) (new_plan y.state.sizes t call) a rs' y'
finished_as precheck rs rs' y asked y' t call p a is f = subst (λ (x : Planned). Finished precheck rs (granted y.state t (call_key call) (mode_of call)) x a rs' y') is.plan (subst (λ (x : SystemState). Finished precheck rs x p a rs' y') is.granted_there f)

pub answered_there : (precheck : Bool) (rs rs' : List RegionState) (y asked : Served) (y' : SystemState) (t : ℕ) (call : Call) (p : Planned) (a : Answer) → length rs ≡ regions y.state.sizes → state_of y.state t ≡ Some Live
    → IsAsked y t call asked p → Finished precheck rs asked.state p a rs' y'
    → (L : List Record) (v : VaultState) → MayCall L (core rs y.state v) t → IsAnswered precheck L (core rs y.state v) t call a (core rs' y' v)
answered_there precheck rs rs' y asked y' t call p a whole lives is f = call_answered precheck rs rs' y.state y' t call a whole lives is.free (finished_as precheck rs rs' y asked y' t call p a is f)

pub answered_keeps : (precheck : Bool) (rs rs' : List RegionState) (y asked : Served) (y' : SystemState) (t : ℕ) (call : Call) (p : Planned) (a : Answer) → state_of y.state t ≡ Some Live → IsAsked y t call asked p → Finished precheck rs asked.state p a rs' y' → Keeps y.state t y'
answered_keeps precheck rs rs' y asked y' t call p a lives is f = finished_keeps precheck rs rs' y.state y' t call a lives (finished_as precheck rs rs' y asked y' t call p a is f)

advanced_as : (precheck : Bool) (rs rs' : List RegionState) (y asked : Served) (y' : SystemState) (t : ℕ) (call : Call) (p q : Planned) → IsAsked y t call asked p → Advanced precheck rs asked.state p rs' y' q
    → Advanced precheck rs (granted y.state t (call_key call) (mode_of call)) (new_plan y.state.sizes t call) rs' y' q
advanced_as precheck rs rs' y asked y' t call p q is f = subst (λ (x : Planned). Advanced precheck rs (granted y.state t (call_key call) (mode_of call)) x rs' y' q) is.plan (subst (λ (x : SystemState). Advanced precheck rs x p rs' y' q) is.granted_there f)

-- what it came to, from where it stood
abbrev turned_as : (precheck : Bool) (rs rs1 rs2 : List RegionState) (y asked : Served) (y1 y2 : SystemState) (t : ℕ) (call : Call) (p p1 q : Planned) (given : StepError) → IsAsked y t call asked p → (h : Halts precheck rs asked.state p rs1 y1 p1 given)
    → Advanced false rs1 y1 (refused p1) rs2 y2 q → Turned precheck rs y.state t call rs2 y2 q
turned_as precheck rs rs1 rs2 y asked y1 y2 t call p p1 q given is h b =
    let now = advanced_as precheck rs h.mid y asked y1 t call p p1 is h.advanced in
    record {
      mid_regions = h.mid;
      mid_system = y1;
      mid = p1;
      calling = ap (λ (x : Planned). x.phase) now.same;
      onward = now;
      back = goes_further false h.mid rs1 rs2 y1 y1 y2 (refused p1) (refused p1) q (left_advanced false h.mid rs1 y1 (refused p1) (rest_turned h.mid y1 p1 h.advanced.rest) h.left) b;
    }

pub failed_there : (precheck : Bool) (e : CallError) (rs rs1 rs2 : List RegionState) (y asked : Served) (y1 y2 : SystemState) (t : ℕ) (call : Call) (p p1 : Planned) (given : StepError) → state_of y.state t ≡ Some Live
    → IsAsked y t call asked p → Halts precheck rs asked.state p rs1 y1 p1 given → GivenUp e given rs1 y1 p1 rs2 y2
    → (L : List Record) (v : VaultState) → MayCall L (core rs y.state v) t → Fails precheck e L (core rs y.state v) t call (core rs2 y2 v)
failed_there precheck (Wait h) rs rs1 rs2 y asked y1 y2 t call p p1 given row is a g = absurd g
failed_there precheck (Busy h) rs rs1 rs2 y asked y1 y2 t call p p1 given row is a g = absurd g
failed_there precheck (Refused cause) rs rs1 rs2 y asked y1 y2 t call p p1 given row is a g = λ L v may.
    inr (call_taken_back precheck rs rs2 y.state y2 t call g.1 cause row is.free (turned_as precheck rs rs1 rs2 y asked y1 y2 t call p p1 g.1 given is a g.3) a.whole
    (subst (λ (e : StepError). IsRefusal precheck p1 a.mid y1 e) (sym g.0) a.refused) g.2 g.4 L v may)
failed_there precheck (HalfDone cause) rs rs1 rs2 y asked y1 y2 t call p p1 given row is a g =
    call_half_done precheck rs g.1.mid rs2 y.state y2 t call g.0 given cause row is.free (turned_as precheck rs rs1 g.1.mid y asked y1 y2 t call p p1 g.0 given is a g.1.advanced) a.whole a.refused g.1.whole g.1.refused g.1.left

pub failed_keeps : (precheck : Bool) (e : CallError) (rs rs1 rs2 : List RegionState) (y asked : Served) (y1 y2 : SystemState) (t : ℕ) (call : Call) (p p1 : Planned) (given : StepError) → state_of y.state t ≡ Some Live
    → IsAsked y t call asked p → Halts precheck rs asked.state p rs1 y1 p1 given → GivenUp e given rs1 y1 p1 rs2 y2 → Keeps y.state t y2
failed_keeps precheck (Wait h) rs rs1 rs2 y asked y1 y2 t call p p1 given lives is a g = absurd g
failed_keeps precheck (Busy h) rs rs1 rs2 y asked y1 y2 t call p p1 given lives is a g = absurd g
failed_keeps precheck (Refused cause) rs rs1 rs2 y asked y1 y2 t call p p1 given lives is a g = turned_keeps precheck rs rs2 y.state y2 t call g.1 lives g.2 (turned_as precheck rs rs1 rs2 y asked y1 y2 t call p p1 g.1 given is a g.3)
failed_keeps precheck (HalfDone cause) rs rs1 rs2 y asked y1 y2 t call p p1 given lives is a g =
    turned_keeps precheck rs g.1.mid y.state y2 t call g.0 lives g.1.whole (turned_as precheck rs rs1 g.1.mid y asked y1 y2 t call p p1 g.0 given is a g.1.advanced)

-- ---- a request that was refused
pub busy_keeps : (y asked : Served) (t k : ℕ) (m : Mode) (a : LockAnswer) (h : ℕ) → a ≡ LockBusy h → asked ≡ record y { state = after_request y.state t k m a } → Keeps y.state t asked.state
busy_keeps y asked t k m a h busy is =
    let now : asked.state ≡ not_granted y.state t k m h = ap (λ (s : Served). s.state) is ∙ ap (after_request y.state t k m) busy in
    subst (λ (x : SystemState). Keeps y.state t x) (sym now) (record {
      sizes = refl;
      state = refl;
      others = λ u e. (refl, λ k. refl);
      covered = all_weaker (MayBePerformed y.state t) (MayBePerformed (not_granted y.state t k m h) t) (undos_at y.state.table t) (λ u may. record { spelled = may.spelled; kind = may.kind; lock = may.lock });
    })

pub keeps_same : (y z : Served) (t : ℕ) → z ≡ y → Keeps y.state t z.state
keeps_same y z t same = subst (λ (x : Served). Keeps y.state t x.state) (sym same) (record { sizes = refl; state = refl; covered = λ h. h; others = λ u e. (refl, λ k. refl) })
