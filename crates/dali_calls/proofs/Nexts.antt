-- The next operation of a plan can be spelled.
use Rattle.std.proofs.Common.{◌≡◌, ℕ, ◌%◌, ◌<◌, Bool, true, false, List, [], ◌∷◌, Option, Some, None, refl, sym, subst, arith}
use Rattle.std.specs.Prelude.{if◌then◌else◌, nat_le, ⊤}
use Rattle.std.specs.List.{AllByRecursion}
use Rattle.std.proofs.Math.Nat.{mod-lt}
use Rattle.std.proofs.lemmas.Bool.{le-leb, and_from}
use Rattle.dali_lists.proofs.Tests.{right_true}
use Rattle.dali_geometry.specs.Sizes.{Sizes}
use Rattle.dali_geometry.specs.Places.{is_place, is_heap, region_at, cell_at}
use Rattle.dali_record.specs.declared.operations.Op.{Op}
use Rattle.dali_record.specs.declared.operations.Pending.{Pending}
use Rattle.dali_record.specs.declared.records.Call.{Call}
use Rattle.dali_record.specs.declared.records.Call.TheVariants.{Insert, Update, Delete, Get}
use Rattle.dali_record.specs.Log.{last_of}
use Rattle.dali_record.specs.Spelling.{IsOperation, IsCell, IsCall}
use Rattle.dali_calls.specs.declared.stage.Stage.{Stage}
use Rattle.dali_calls.specs.declared.stage.Stage.TheVariants.{Fresh, Walking, Nowhere, Somewhere, Storing, Adding, Removing, Finished}
use Rattle.dali_calls.specs.declared.plan.Phase.{Phase}
use Rattle.dali_calls.specs.declared.plan.Phase.TheVariants.{Calling, Refused, Answered}
use Rattle.dali_calls.specs.Steps.{in_cell, next_op, IsAt}
use Rattle.dali_calls.specs.Plans.{Planned, is_back, undo_next, onward_next, plan_next, IsUndoOf, IsWhole}

abbrev IsSpelled : Option (ℕ × Op) → Type 0
IsSpelled None = ⊤
IsSpelled (Some o) = IsOperation o.1

cell_in_range : (s : Sizes) (p : ℕ) → is_place s p ≡ true → IsCell (cell_at p)
cell_in_range s p e = and_from (nat_le 1 (p % 8)) (nat_le (p % 8) 7) (right_true (is_heap s (region_at p)) (nat_le 1 (cell_at p)) e) (le-leb (p % 8) 7 (let below : p % 8 < 8 = mod-lt p (omega arith) in omega (arith, below)))

cell_spelled : (s : Sizes) (call : Call) (place : ℕ) (b : Bool) → is_place s place ≡ b → IsCall call → IsSpelled (if b then in_cell call (region_at place) (cell_at place) else None)
cell_spelled s (Insert key v) place true e h = tt
cell_spelled s (Update key v) place true e h = (cell_in_range s place e, h.1)
cell_spelled s (Delete key) place true e h = cell_in_range s place e
cell_spelled s (Get key) place true e h = cell_in_range s place e
cell_spelled s call place false e h = tt

stage_spelled : (s : Sizes) (t : ℕ) (call : Call) (stage : Stage) → IsCall call → IsAt s call stage → IsSpelled (next_op s t call stage)
stage_spelled s t call Fresh h at = tt
stage_spelled s t call (Walking region looked) h at = tt
stage_spelled s t (Insert key v) Nowhere h at = h.1
stage_spelled s t (Update key v) Nowhere h at = tt
stage_spelled s t (Delete key) Nowhere h at = tt
stage_spelled s t (Get key) Nowhere h at = tt
stage_spelled s t call (Somewhere region entry place) h at = cell_spelled s call place (is_place s place) refl h
stage_spelled s t (Insert key v) (Storing region tried) h at = h.1
stage_spelled s t (Update key v) (Storing region tried) h at = tt
stage_spelled s t (Delete key) (Storing region tried) h at = tt
stage_spelled s t (Get key) (Storing region tried) h at = tt
stage_spelled s t call (Adding place region tried) h at = at.0
stage_spelled s t call (Removing region entry place) h at = at.1
stage_spelled s t call (Finished answer) h at = tt

undo_spelled : (s : Sizes) (call : Call) (us : List Pending) → AllByRecursion (IsUndoOf s call) us → IsSpelled (undo_next (last_of us))
undo_spelled s call [] h = tt
undo_spelled s call (u ∷ []) h = h.0.spelled
undo_spelled s call (u ∷ v ∷ us) h = undo_spelled s call (v ∷ us) h.1

onward_spelled : (phase : Phase) (o : Option (ℕ × Op)) → IsSpelled o → IsSpelled (onward_next phase o)
onward_spelled Calling o h = h
onward_spelled Refused o h = h
onward_spelled Answered o h = tt

either : (b : Bool) (x y : Option (ℕ × Op)) → IsSpelled x → IsSpelled y → IsSpelled (if b then x else y)
either true x y p q = p
either false x y p q = q

pub next_spelled : (p : Planned) (r : ℕ) (op : Op) → IsWhole p → (let o : Option (ℕ × Op) = Some (r, op) in o ≡ plan_next p) → IsOperation op
next_spelled p r op w e =
    subst IsSpelled (sym e) (either (is_back p) (undo_next (last_of p.changes)) (onward_next p.phase (next_op p.geometry p.txn p.call p.stage)) (undo_spelled p.geometry p.call p.changes w.undoes)
    (onward_spelled p.phase (next_op p.geometry p.txn p.call p.stage) (stage_spelled p.geometry p.txn p.call p.stage w.call w.at)))
