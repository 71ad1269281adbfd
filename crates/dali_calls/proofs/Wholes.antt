-- What is true of every plan stays, behind the block of its next operation.
use Rattle.std.proofs.Common.{◌≡◌, ℕ, ◌+◌, ◌≤◌, Bool, true, false, ◌++◌, Option, Some, None, refl, sym, ap, subst, ◌∙◌, arith, length, length-append}
use Rattle.std.specs.Prelude.{if◌then◌else◌, is_none, List, IsSomeAnd}
use Rattle.dali_lists.proofs.Tests.{last_true, middle_true}
use Rattle.dali_record.specs.declared.operations.Op.{Op}
use Rattle.dali_record.specs.declared.operations.Op.TheVariants.{Look, Add, KillEntry, Put, Read, Change, KillCell}
use Rattle.dali_record.specs.declared.operations.Outcome.{Outcome}
use Rattle.dali_record.specs.declared.operations.Outcome.TheVariants.{Found, Absent, Added, Killed, Put as PutIn, Value, Changed, NotLive, OtherKey, OddLength}
use Rattle.dali_record.specs.declared.operations.Undo.{Undo}
use Rattle.dali_record.specs.declared.operations.Block.{Block}
use Rattle.dali_record.specs.Log.{last_of, drop_last, undo_added}
use Rattle.dali_record.specs.Legal.{on_kind}
use Rattle.dali_record.specs.Spelling.{IsBlock, is_forward, is_back as takes_back, undoes, is_within, is_outcome_of, is_look_outcome, is_read_outcome}
use Rattle.dali_geometry.specs.Sizes.{Sizes}
use Rattle.dali_record.specs.declared.records.Call.{Call}
use Rattle.dali_record.specs.declared.records.Call.TheVariants.{Insert, Update, Delete, Get}
use Rattle.dali_geometry.specs.Places.{home, is_place, region_at, cell_at}
use Rattle.dali_record.specs.Operations.{changes}
use Rattle.dali_record.specs.Blocks.{made, changes_item}
use Rattle.dali_system.specs.declared.operation.Operation.{Operation}
use Rattle.dali_calls.specs.declared.stage.Stage.{Stage}
use Rattle.dali_calls.specs.declared.stage.Stage.TheVariants.{Fresh, Walking, Nowhere, Somewhere, Storing, Adding, Removing, Finished}
use Rattle.dali_calls.specs.declared.plan.Phase.{Phase}
use Rattle.dali_calls.specs.declared.plan.Phase.TheVariants.{Calling, Refused, Answered}
use Rattle.dali_calls.specs.Steps.{call_key, in_cell, next_op, is_get, most, adds, IsAt, IsBlockOf, IsNextBlock}
use Rattle.dali_calls.specs.Plans.{Planned, IsWhole, IsOfPlan, is_back, undo_next, onward_next, plan_next, went_back}
use Rattle.dali_calls.proofs.OnKind.{next_kind, back_kind, dropped_undoes, dropped_shorter, added_undoes}

-- the operation that is open
pub open_of : (p : Planned) (o : Operation) → IsWhole p → p.operation ≡ Some o → (o.txn ≡ p.txn) × IsBlockOf (plan_next p) (call_key p.call) o.block
open_of p o w e = subst (IsOfPlan p) e w.operation

-- it has just been started
pub started_whole : (p : Planned) (s : Option Operation) (words : List ℕ) (key number : ℕ) (op : Op) → IsWhole p → plan_next p ≡ Some (number, op) → call_key p.call ≡ key
    → IsSomeAnd s (λ o. (o.block ≡ made words key number op) × IsBlock o.block × (o.txn ≡ p.txn)) → IsWhole (record p { operation = s })
started_whole p None words key number op w next k h = absurd h
started_whole p (Some o) words key number op w next k h = record {
  sizes = w.sizes;
  txn = w.txn;
  call = w.call;
  at = w.at;
  undoes = w.undoes;
  few = w.few;
  gets = w.gets;
  operation = (
    h.2,
    record {
      op = next ∙ ap (λ (b : Block). Some (b.region, b.op)) (sym h.0);
      words = words;
      made_on = subst (λ (n : ℕ). o.block ≡ made words n o.block.region o.block.op) (sym k) (h.0 ∙ ap (λ (b : Block). made words key b.region b.op) (sym h.0));
      spelled = h.1;
    },
  );
}

pub back_next : (p : Planned) (b : Bool) → is_back p ≡ b → b ≡ true → plan_next p ≡ undo_next (last_of p.changes)
back_next p true e h = ap (λ (c : Bool). if c then undo_next (last_of p.changes) else onward_next p.phase (next_op p.geometry p.txn p.call p.stage)) e
back_next p false e h = absurd cc

pub onward_of : (p : Planned) (b : Bool) → is_back p ≡ b → b ≡ false → plan_next p ≡ onward_next p.phase (next_op p.geometry p.txn p.call p.stage)
onward_of p false e h = ap (λ (c : Bool). if c then undo_next (last_of p.changes) else onward_next p.phase (next_op p.geometry p.txn p.call p.stage)) e
onward_of p true e h = absurd cc

-- ---- on the way back
pub back_spelled : (p : Planned) (o : Operation) → IsWhole p → p.operation ≡ Some o → is_back p ≡ true → IsBlock o.block × (takes_back o.block.op ≡ true)
back_spelled p o w e h =
    let of = (open_of p o w e).1 in
    (of.spelled, back_kind (last_of p.changes) o.block.region o.block.op (sym (back_next p (is_back p) refl h) ∙ of.op))

pub back_whole : (p : Planned) → IsWhole p → IsWhole (went_back p)
back_whole p w = record {
  sizes = w.sizes;
  txn = w.txn;
  call = w.call;
  at = w.at;
  undoes = dropped_undoes p.geometry p.call p.changes w.undoes;
  few = let less = dropped_shorter p.changes in omega (arith, less, w.few);
  gets = λ e. ap drop_last (w.gets e);
  operation = tt;
}

-- ---- onward
pub onward_kind : (p : Planned) (o : Operation) → IsWhole p → p.operation ≡ Some o → is_back p ≡ false → (on_kind p.geometry o.block.region o.block.op ≡ true) × (is_forward o.block.op ≡ true)
onward_kind p o w e h =
    let of = (open_of p o w e).1 in next_kind p.geometry p.txn p.call p.stage p.phase o.block.region o.block.op w.sizes w.at (sym (onward_of p (is_back p) refl h) ∙ of.op)

pub onward_spelled : (p : Planned) (o : Operation) → IsWhole p → p.operation ≡ Some o → is_back p ≡ false → IsBlock o.block × (is_forward o.block.op ≡ true)
onward_spelled p o w e h = ((open_of p o w e).1.spelled, (onward_kind p o w e h).1)

onward_phase : (phase : Phase) (o : Option (ℕ × Op)) (r : ℕ) (op : Op) → (let p : Option (ℕ × Op) = Some (r, op) in onward_next phase o ≡ p) → (let p : Option (ℕ × Op) = Some (r, op) in o ≡ p)
onward_phase Calling o r op e = e
onward_phase Refused o r op e = e
onward_phase Answered o r op e = absurd cc

pub onward_block : (p : Planned) (o : Operation) → IsWhole p → p.operation ≡ Some o → is_back p ≡ false → IsNextBlock p.geometry p.txn p.call p.stage o.block
onward_block p o w e h =
    let of = (open_of p o w e).1 in record {
      op = onward_phase p.phase (next_op p.geometry p.txn p.call p.stage) o.block.region o.block.op (sym (onward_of p (is_back p) refl h) ∙ of.op);
      words = of.words;
      made_on = of.made_on;
      spelled = of.spelled;
    }

-- it adds at most one to what takes the call back
undo_adds : (op : Op) (o : Outcome) (u : Undo) → undoes op o (Some u) ≡ true → adds o ≡ 1
undo_adds (Add p) (Added e) u h = refl
undo_adds (KillEntry e) Killed u h = refl
undo_adds (Put v) (PutIn c) u h = refl
undo_adds (Change c v) Changed u h = refl
undo_adds (KillCell c) Killed u h = refl
undo_adds op o u h = absurd cc

pub few_added : (b : Block) → IsBlock b → length (undo_added b b.undo) ≤ adds b.outcome
few_added b block = by_undo b.undo refl
  where
    by_undo : (o : Option Undo) → b.undo ≡ o → length (undo_added b o) ≤ adds b.outcome
    by_undo None e = omega arith
    by_undo (Some u) e =
        omega (arith, undo_adds b.op b.outcome u (ap (undoes b.op b.outcome) (sym e) ∙ last_true (is_within b.write b.read) (is_outcome_of b.op b.outcome) (undoes b.op b.outcome b.undo) block.fit))

-- a get changes nothing
abbrev Leaves : Block → Type 0
Leaves b = (changes_item b ≡ false) × (b.undo ≡ None)

looks_leave : (o : Outcome) → is_look_outcome o ≡ true → changes o ≡ false
looks_leave (Found e p) h = refl
looks_leave (Absent b) h = refl
looks_leave o h = absurd cc

reads_leave : (o : Outcome) → is_read_outcome o ≡ true → changes o ≡ false
reads_leave (Value v) h = refl
reads_leave (NotLive n) h = refl
reads_leave (OtherKey k) h = refl
reads_leave (OddLength n) h = refl
reads_leave o h = absurd cc

none_undone : (u : Option Undo) → is_none u ≡ true → u ≡ None
none_undone None h = refl
none_undone (Some u) h = absurd cc

look_leaves : (b : Block) → IsBlock b → Look ≡ b.op → Leaves b
look_leaves b block e = (
  looks_leave b.outcome (ap (λ (op : Op). is_outcome_of op b.outcome) e ∙ middle_true (is_within b.write b.read) (is_outcome_of b.op b.outcome) (undoes b.op b.outcome b.undo) block.fit),
  none_undone b.undo (ap (λ (op : Op). undoes op b.outcome b.undo) e ∙ last_true (is_within b.write b.read) (is_outcome_of b.op b.outcome) (undoes b.op b.outcome b.undo) block.fit),
)

read_leaves : (b : Block) (cell : ℕ) → IsBlock b → Read cell ≡ b.op → Leaves b
read_leaves b cell block e = (
  reads_leave b.outcome (ap (λ (op : Op). is_outcome_of op b.outcome) e ∙ middle_true (is_within b.write b.read) (is_outcome_of b.op b.outcome) (undoes b.op b.outcome b.undo) block.fit),
  none_undone b.undo (ap (λ (op : Op). undoes op b.outcome b.undo) e ∙ last_true (is_within b.write b.read) (is_outcome_of b.op b.outcome) (undoes b.op b.outcome b.undo) block.fit),
)

pub second_of : (a b : ℕ × Op) → (let o : Option (ℕ × Op) = Some b in Some a ≡ o) → a.1 ≡ b.1
second_of a b e = cc

next_op_is : (r : ℕ) (op : Op) (b : Block) → (let p : Option (ℕ × Op) = Some (b.region, b.op) in Some (r, op) ≡ p) → op ≡ b.op
next_op_is r op b e = second_of (r, op) (b.region, b.op) e

cell_leaves : (key place : ℕ) (b : Block) (c : Bool) → IsBlock b → (let p : Option (ℕ × Op) = if c then in_cell (Get key) (region_at place) (cell_at place) else None in p ≡ Some (b.region, b.op)) → Leaves b
cell_leaves key place b true block e = read_leaves b (cell_at place) block (next_op_is (region_at place) (Read (cell_at place)) b e)
cell_leaves key place b false block e = absurd cc

pub get_leaves : (s : Sizes) (t : ℕ) (call : Call) (stage : Stage) (b : Block) → IsAt s call stage → is_get call ≡ true → IsNextBlock s t call stage b → Leaves b
get_leaves s t (Insert key v) stage b at g next = absurd cc
get_leaves s t (Update key v) stage b at g next = absurd cc
get_leaves s t (Delete key) stage b at g next = absurd cc
get_leaves s t (Get key) Fresh b at g next = look_leaves b next.spelled (next_op_is (home s key) Look b next.op)
get_leaves s t (Get key) (Walking r n) b at g next = look_leaves b next.spelled (next_op_is r Look b next.op)
get_leaves s t (Get key) Nowhere b at g next = let e = next.op in absurd cc
get_leaves s t (Get key) (Somewhere r n place) b at g next = cell_leaves key place b (is_place s place) next.spelled next.op
get_leaves s t (Get key) (Storing r n) b at g next = let e = next.op in absurd cc
get_leaves s t (Get key) (Adding p r n) b at g next = let e = at.3 in absurd cc
get_leaves s t (Get key) (Removing r n p) b at g next = let e = at.2 in absurd cc
get_leaves s t (Get key) (Finished a) b at g next = let e = next.op in absurd cc

-- a stage with a next operation has changed at most one thing
one_next : (s : Sizes) (t : ℕ) (call : Call) (stage : Stage) (r : ℕ) (op : Op) → (let p : Option (ℕ × Op) = Some (r, op) in next_op s t call stage ≡ p) → most stage ≤ 1
one_next s t call (Finished a) r op e = absurd cc
one_next s t call _ r op e = omega arith

one_added : (o : Outcome) → adds o ≤ 1
one_added (Added e) = omega arith
one_added _ = omega arith

pub onward_room : (p : Planned) (o : Operation) → IsWhole p → p.operation ≡ Some o → is_back p ≡ false → length p.changes + length (undo_added o.block o.block.undo) ≤ 2
onward_room p o w e h =
    let next = onward_block p o w e h in
    let few = few_added o.block next.spelled in
    let one = one_added o.block.outcome in
    let stage = one_next p.geometry p.txn p.call p.stage o.block.region o.block.op next.op in
    omega (arith, w.few, few, one, stage)

pub onward_whole : (p : Planned) (o : Operation) (stage : Stage) → IsWhole p → p.operation ≡ Some o → is_back p ≡ false → IsAt p.geometry p.call stage → adds o.block.outcome + most p.stage ≤ most stage
    → IsWhole (record p { stage = stage; changes = p.changes ++ undo_added o.block o.block.undo; operation = None })
onward_whole p o stage w e h at more =
    let next = onward_block p o w e h in
    let few = few_added o.block next.spelled in
    record {
      sizes = w.sizes;
      txn = w.txn;
      call = w.call;
      at = at;
      undoes = added_undoes p.geometry p.call p.changes o.block w.undoes next.spelled (ap (λ (b : Block). b.key) next.made_on) (onward_kind p o w e h).0;
      few = omega (arith, length-append p.changes (undo_added o.block o.block.undo), w.few, few, more);
      gets = λ e. ap (λ us. us ++ undo_added o.block o.block.undo) (w.gets e) ∙ ap (undo_added o.block) (get_leaves p.geometry p.txn p.call p.stage o.block w.at e next).1;
      operation = tt;
    }
