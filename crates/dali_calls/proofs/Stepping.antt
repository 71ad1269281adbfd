-- What the calls of a plan leave is a step of a core.
use Rattle.std.proofs.Common.{◌≡◌, ℕ, Bool, true, false, not, List, [], ◌∷◌, ◌++◌, Option, Some, None, IsSome, is_some, if◌then◌else◌, refl, sym, ap, subst, ◌∙◌}
use Rattle.std.proofs.lemmas.Option.{same_Some}
use Rattle.dali_geometry.specs.Sizes.{Sizes}
use Rattle.dali_geometry.specs.Places.{is_place}
use Rattle.dali_record.specs.declared.operations.Block.{Block}
use Rattle.dali_record.specs.declared.operations.Pending.{Pending}
use Rattle.dali_record.specs.declared.records.Answer.{Answer}
use Rattle.dali_record.specs.declared.records.Answer.TheVariants.{Exists, Missing, Odd}
use Rattle.dali_record.specs.declared.records.Call.{Call}
use Rattle.dali_record.specs.declared.records.Call.TheVariants.{Insert, Update, Delete, Get}
use Rattle.dali_record.specs.declared.records.Record.TheVariants.{Forward, Done, Back}
use Rattle.dali_record.specs.Operations.{undo_op}
use Rattle.dali_record.specs.Blocks.{changes_item}
use Rattle.dali_record.specs.Log.{last_of}
use Rattle.dali_record.specs.Legal.{TxnState, on_kind}
use Rattle.dali_record.specs.Spelling.{Is64, IsAnswer, is_answer_of}
use Rattle.dali_region.specs.State.{RegionState}
use Rattle.dali_locks.specs.declared.mode.Mode.{Mode}
use Rattle.dali_locks.specs.declared.mode.Mode.TheVariants.{Shared, Exclusive}
use Rattle.dali_runs.specs.State.{lock_of}
use Rattle.dali_runs.specs.Run.{covers}
use Rattle.dali_runs.specs.Regions.{IsOpen}
use Rattle.dali_att.specs.declared.state.State.{State}
use Rattle.dali_runs.specs.Keeps.{may_log_in}
use Rattle.dali_runs.specs.Facts.Plans.{AtWork}
use Rattle.dali_system.specs.declared.operation.Operation.{Operation}
use Rattle.dali_calls.specs.declared.stage.Stage.{Stage}
use Rattle.dali_calls.specs.declared.stage.Stage.TheVariants.{Fresh, Walking, Nowhere, Somewhere, Storing, Adding, Removing, Finished}
use Rattle.dali_calls.specs.Steps.{call_key, answer_of, is_get, IsAt}
use Rattle.dali_calls.specs.Plans.{Planned, is_back, undo_next, IsUndoOf, IsWhole}
use Rattle.dali_calls.specs.Followed.{OnwardIsStep, BackIsStep, DoneIsStep}
use Rattle.dali_calls.proofs.Wholes.{open_of, onward_kind, onward_spelled, onward_block, back_spelled, back_next, get_leaves, second_of}
use Rattle.dali_calls.proofs.Following.{onward_follows, back_follows, last_all, first_of}
use Rattle.dali_calls.proofs.Answering.{done_follows}

pub state_there : (o : Option TxnState) (x : TxnState) → o ≡ Some x → IsSome o
state_there o x e = ap is_some e

-- ---- the lock
pub covers_all : (m : Option Mode) (c : Bool) → covers m true ≡ true → covers m c ≡ true
covers_all None c e = absurd cc
covers_all (Some Shared) c e = absurd cc
covers_all (Some Exclusive) c e = refl

pub by_get : (m : Option Mode) (g c : Bool) → covers m (not g) ≡ true → (g ≡ true → c ≡ false) → covers m c ≡ true
by_get m true c e f = ap (covers m) (f refl) ∙ e
by_get m false c e f = covers_all m c e

open_for : (p : Planned) (o : Operation) (g : RegionState) → IsWhole p → p.operation ≡ Some o → IsOpen g o.txn o.block → IsOpen g p.txn o.block
open_for p o g w e h = subst (λ (t : ℕ). IsOpen g t o.block) (open_of p o w e).0 h

pub onward_is_step : OnwardIsStep
onward_is_step L c p o g ready follows way room q goes =
    let of = (open_of p o ready.whole ready.is_open).1 in
    let spelled = onward_spelled p o ready.whole ready.is_open way in
    let kind = (onward_kind p o ready.whole ready.is_open way).0 in
    let key : o.block.key ≡ call_key p.call = ap (λ (b : Block). b.key) of.made_on in
    let now = onward_follows c.system.sizes L p q o.block ready.sizes ready.whole follows way of goes in
    let txn = ap (λ (z : Planned). z.txn) goes.rest in
    let leaves = get_leaves p.geometry p.txn p.call p.stage o.block ready.whole.at in (
      g,
      room,
      record {
        runs = room.runs;
        spelled = (ready.whole.txn, spelled.0, spelled.1);
        next = state_there _ _ (subst (λ (t : ℕ). AtWork c.system.sizes (L ++ Forward p.txn o.block ∷ []) t now.working) txn now.at_work);
        by = ap (λ (st : Option State). may_log_in st (Forward p.txn o.block)) ready.lives;
        kind = ap (λ (z : Sizes). on_kind z o.block.region o.block.op) (sym ready.sizes) ∙ kind;
        locked = ap (λ (k : ℕ). covers (lock_of c.system p.txn k) (changes_item o.block)) key ∙ by_get (lock_of c.system p.txn (call_key p.call)) (is_get p.call) (changes_item o.block) ready.holds (λ e. (leaves e (onward_block p o ready.whole ready.is_open way)).0);
        at = ready.at;
        is_open = open_for p o g ready.whole ready.is_open ready.written;
      },
      (refl, refl),
    )

-- ---- the way back
not_get : (g : Bool) (us : List Pending) (u : Pending) → (g ≡ true → us ≡ []) → last_of us ≡ Some u → g ≡ false
not_get false us u f e = refl
not_get true us u f e = absurd (never us (f refl) e)
  where
    never : (vs : List Pending) → vs ≡ [] → last_of vs ≡ Some u → ⊥
    never [] n h = absurd cc
    never (v ∷ vs) n h = absurd cc

back_kind : (p : Planned) (b : Block) (o : Option Pending) → IsWhole p → last_of p.changes ≡ o → undo_next o ≡ Some (b.region, b.op) → (on_kind p.geometry b.region b.op ≡ true) × (is_get p.call ≡ false)
back_kind p b None w e next = absurd cc
back_kind p b (Some u) w e next =
    let mine : IsUndoOf p.geometry p.call u = last_all (IsUndoOf p.geometry p.call) p.changes u w.undoes e in (
      ap (λ (r : ℕ). on_kind p.geometry r b.op) (sym (first_of (u.region, undo_op u.undo) (b.region, b.op) next)) ∙ (ap (on_kind p.geometry u.region) (sym (second_of (u.region, undo_op u.undo) (b.region, b.op) next)) ∙ mine.kind),
      not_get (is_get p.call) p.changes u w.gets e,
    )

pub back_is_step : BackIsStep
back_is_step L c p o g ready follows way runs =
    let of = (open_of p o ready.whole ready.is_open).1 in
    let spelled = back_spelled p o ready.whole ready.is_open way in
    let both = back_kind p o.block (last_of p.changes) ready.whole refl (sym (back_next p (is_back p) refl way) ∙ of.op) in
    let key : o.block.key ≡ call_key p.call = ap (λ (b : Block). b.key) of.made_on in
    let now = back_follows c.system.sizes L p o.block ready.sizes ready.whole follows way of in
    let all : covers (lock_of c.system p.txn (call_key p.call)) true ≡ true = ap (λ (b : Bool). covers (lock_of c.system p.txn (call_key p.call)) (not b)) (sym both.1) ∙ ready.holds in (
      g,
      record {
        runs = runs;
        spelled = (ready.whole.txn, spelled.0, spelled.1);
        next = state_there _ _ now.at_work;
        by = ap (λ (st : Option State). may_log_in st (Back p.txn o.block)) ready.lives;
        kind = ap (λ (z : Sizes). on_kind z o.block.region o.block.op) (sym ready.sizes) ∙ both.0;
        locked = ap (λ (k : ℕ). covers (lock_of c.system p.txn k) (changes_item o.block)) key ∙ covers_all (lock_of c.system p.txn (call_key p.call)) (changes_item o.block) all;
        at = ready.at;
        is_open = open_for p o g ready.whole ready.is_open ready.written;
      },
      (refl, refl),
    )

-- ---- the answer

abbrev IsGiven : Call → Answer → Type 0
IsGiven call a = IsAnswer a × (is_answer_of call a ≡ true)

odd_given : (call : Call) (place : ℕ) (b : Bool) (a : Answer) → Is64 place → is_answer_of call (Odd place) ≡ true → (if b then None else Some (Odd place)) ≡ Some a → IsGiven call a
odd_given call place true a h k e = absurd cc
odd_given call place false a h k e = subst (IsGiven call) (same_Some (Odd place) a e) (h, k)

answer_given : (s : Sizes) (call : Call) (stage : Stage) (a : Answer) → IsAt s call stage → answer_of s call stage ≡ Some a → IsGiven call a
answer_given s call Fresh a at e = absurd cc
answer_given s call (Walking r n) a at e = absurd cc
answer_given s (Insert k v) Nowhere a at e = absurd cc
answer_given s (Update k v) Nowhere a at e = subst (IsGiven (Update k v)) (same_Some Missing a e) (tt, refl)
answer_given s (Delete k) Nowhere a at e = subst (IsGiven (Delete k)) (same_Some Missing a e) (tt, refl)
answer_given s (Get k) Nowhere a at e = subst (IsGiven (Get k)) (same_Some Missing a e) (tt, refl)
answer_given s (Insert k v) (Somewhere r n p) a at e = subst (IsGiven (Insert k v)) (same_Some Exists a e) (tt, refl)
answer_given s (Update k v) (Somewhere r n p) a at e = odd_given (Update k v) p (is_place s p) a at.2 refl e
answer_given s (Delete k) (Somewhere r n p) a at e = odd_given (Delete k) p (is_place s p) a at.2 refl e
answer_given s (Get k) (Somewhere r n p) a at e = odd_given (Get k) p (is_place s p) a at.2 refl e
answer_given s call (Storing r n) a at e = absurd cc
answer_given s call (Adding p r n) a at e = absurd cc
answer_given s call (Removing r n p) a at e = absurd cc
answer_given s call (Finished b) a at e = subst (IsGiven call) (same_Some b a e) (at.0, at.1)

pub done_is_step : DoneIsStep
done_is_step L c p a sizes whole follows wants answer room lives =
    let given = answer_given p.geometry p.call p.stage a whole.at answer in
    let now = done_follows c.system.sizes L p a sizes whole follows wants answer in
    (room, (whole.txn, whole.call, given.0, given.1), record { next = state_there _ _ now.at_work; by = ap (λ (st : Option State). may_log_in st (Done p.txn p.call a)) lives }, (refl, refl))
