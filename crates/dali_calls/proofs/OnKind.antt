-- The next operation of a plan is on a region of its kind, and so is what takes it back.
use Rattle.std.proofs.Common.{◌≡◌, ℕ, ◌%◌, ◌<◌, ◌≤◌, Bool, true, false, List, [], ◌∷◌, ◌++◌, Option, Some, None, refl, sym, ap, subst, ◌∙◌, arith, length}
use Rattle.std.specs.Prelude.{if◌then◌else◌, nat_le, nat_lt, ⊤}
use Rattle.std.specs.List.{AllByRecursion}
use Rattle.std.proofs.Math.Nat.{mod-lt}
use Rattle.std.proofs.lemmas.Bool.{le-leb, lt-ltb, and_from}
use Rattle.dali_lists.proofs.Members.{all_append}
use Rattle.dali_lists.proofs.Tests.{left_true, last_true}
use Rattle.dali_geometry.specs.Sizes.{Sizes, AreInRange}
use Rattle.dali_geometry.specs.Places.{home, heap_start, is_place, is_heap, is_index, region_at, cell_at, regions}
use Rattle.dali_record.specs.declared.operations.Op.{Op}
use Rattle.dali_record.specs.declared.operations.Op.TheVariants.{Add, KillEntry, Put, Change, KillCell}
use Rattle.dali_record.specs.declared.operations.Outcome.{Outcome}
use Rattle.dali_record.specs.declared.operations.Outcome.TheVariants.{Added, Killed, Put as PutIn, Changed}
use Rattle.dali_record.specs.declared.operations.Undo.{Undo}
use Rattle.dali_record.specs.declared.operations.Undo.TheVariants.{FreeCell as UndoFreeCell, ReviveCell as UndoReviveCell, Restore as UndoRestore, FreeEntry as UndoFreeEntry, ReviveEntry as UndoReviveEntry}
use Rattle.dali_record.specs.declared.operations.Block.{Block}
use Rattle.dali_record.specs.declared.operations.Pending.{Pending}
use Rattle.dali_record.specs.declared.records.Call.{Call}
use Rattle.dali_record.specs.declared.records.Call.TheVariants.{Insert, Update, Delete, Get}
use Rattle.dali_record.specs.Operations.{undo_op}
use Rattle.dali_record.specs.Log.{drop_last, undo_added}
use Rattle.dali_record.specs.Legal.{on_kind}
use Rattle.dali_record.specs.Spelling.{IsOperation, IsUndo, MayBeUndo, IsBlock, is_forward, is_back, undoes, undoes_add, undoes_kill_entry, undoes_put, undoes_change, undoes_kill_cell, is_within, is_outcome_of}
use Rattle.dali_runs.proofs.FactsLemmas.Undos.{all_dropped}
use Rattle.dali_calls.specs.declared.stage.Stage.{Stage}
use Rattle.dali_calls.specs.declared.stage.Stage.TheVariants.{Fresh, Walking, Nowhere, Somewhere, Storing, Adding, Removing, Finished}
use Rattle.dali_calls.specs.declared.plan.Phase.{Phase}
use Rattle.dali_calls.specs.declared.plan.Phase.TheVariants.{Calling, Refused, Answered}
use Rattle.dali_calls.specs.Steps.{call_key, in_cell, next_op, IsAt}
use Rattle.dali_calls.specs.Plans.{undo_next, onward_next, IsUndoOf}

-- ---- what takes an operation back is on the same kind of region
frees_entry_kind : (o : Outcome) (u : Undo) → undoes_add o (Some u) ≡ true → (s : Sizes) (r : ℕ) → on_kind s r (undo_op u) ≡ is_index s r
frees_entry_kind (Added e) (UndoFreeEntry f) h s r = refl
frees_entry_kind o u h s r = absurd cc

revives_entry_kind : (e : ℕ) (o : Outcome) (u : Undo) → undoes_kill_entry e o (Some u) ≡ true → (s : Sizes) (r : ℕ) → on_kind s r (undo_op u) ≡ is_index s r
revives_entry_kind e Killed (UndoReviveEntry f) h s r = refl
revives_entry_kind e o u h s r = absurd cc

frees_cell_kind : (o : Outcome) (u : Undo) → undoes_put o (Some u) ≡ true → (s : Sizes) (r : ℕ) → on_kind s r (undo_op u) ≡ is_heap s r
frees_cell_kind (PutIn c) (UndoFreeCell d) h s r = refl
frees_cell_kind o u h s r = absurd cc

restores_kind : (c : ℕ) (o : Outcome) (u : Undo) → undoes_change c o (Some u) ≡ true → (s : Sizes) (r : ℕ) → on_kind s r (undo_op u) ≡ is_heap s r
restores_kind c Changed (UndoRestore d n ws) h s r = refl
restores_kind c o u h s r = absurd cc

revives_cell_kind : (c : ℕ) (o : Outcome) (u : Undo) → undoes_kill_cell c o (Some u) ≡ true → (s : Sizes) (r : ℕ) → on_kind s r (undo_op u) ≡ is_heap s r
revives_cell_kind c Killed (UndoReviveCell d) h s r = refl
revives_cell_kind c o u h s r = absurd cc

pub same_kind : (s : Sizes) (r : ℕ) (op : Op) (o : Outcome) (u : Undo) → undoes op o (Some u) ≡ true → on_kind s r (undo_op u) ≡ on_kind s r op
same_kind s r (Add p) o u h = frees_entry_kind o u h s r
same_kind s r (KillEntry e) o u h = revives_entry_kind e o u h s r
same_kind s r (Put v) o u h = frees_cell_kind o u h s r
same_kind s r (Change c v) o u h = restores_kind c o u h s r
same_kind s r (KillCell c) o u h = revives_cell_kind c o u h s r
same_kind s r op o u h = absurd cc

-- ---- the next operation of a call
abbrev pub IsKind : Sizes → Option (ℕ × Op) → Type 0
IsKind s None = ⊤
IsKind s (Some o) = (on_kind s o.0 o.1 ≡ true) × (is_forward o.1 ≡ true)

heap_kind : (s : Sizes) (r : ℕ) → s.index ≤ r → r < regions s → is_heap s r ≡ true
heap_kind s r low high = and_from (nat_le s.index r) (nat_lt r (regions s)) (le-leb s.index r low) (lt-ltb r (regions s) high)

start_kind : (s : Sizes) (t : ℕ) → AreInRange s → is_heap s (heap_start s t) ≡ true
start_kind s t range = let low : t % s.heap < s.heap = mod-lt t (omega (arith, range.some_heap)) in heap_kind s (heap_start s t) (omega arith) (omega (arith, low))

cell_kind : (s : Sizes) (call : Call) (place : ℕ) (b : Bool) → is_place s place ≡ b → IsKind s (if b then in_cell call (region_at place) (cell_at place) else None)
cell_kind s (Insert key v) place true e = tt
cell_kind s (Update key v) place true e = (left_true (is_heap s (region_at place)) (nat_le 1 (cell_at place)) e, refl)
cell_kind s (Delete key) place true e = (left_true (is_heap s (region_at place)) (nat_le 1 (cell_at place)) e, refl)
cell_kind s (Get key) place true e = (left_true (is_heap s (region_at place)) (nat_le 1 (cell_at place)) e, refl)
cell_kind s call place false e = tt

stage_kind : (s : Sizes) (t : ℕ) (call : Call) (stage : Stage) → AreInRange s → IsAt s call stage → IsKind s (next_op s t call stage)
stage_kind s t call Fresh range at = (lt-ltb (home s (call_key call)) s.index (mod-lt (call_key call) (omega (arith, range.some_index))), refl)
stage_kind s t call (Walking region looked) range at = (lt-ltb region s.index at.0, refl)
stage_kind s t (Insert key v) Nowhere range at = (start_kind s t range, refl)
stage_kind s t (Update key v) Nowhere range at = tt
stage_kind s t (Delete key) Nowhere range at = tt
stage_kind s t (Get key) Nowhere range at = tt
stage_kind s t call (Somewhere region entry place) range at = cell_kind s call place (is_place s place) refl
stage_kind s t (Insert key v) (Storing region tried) range at = (heap_kind s region at.0 at.1, refl)
stage_kind s t (Update key v) (Storing region tried) range at = tt
stage_kind s t (Delete key) (Storing region tried) range at = tt
stage_kind s t (Get key) (Storing region tried) range at = tt
stage_kind s t call (Adding place region tried) range at = (lt-ltb region s.index at.1, refl)
stage_kind s t call (Removing region entry place) range at = (lt-ltb region s.index at.0, refl)
stage_kind s t call (Finished answer) range at = tt

onward_kind : (s : Sizes) (phase : Phase) (o : Option (ℕ × Op)) → IsKind s o → IsKind s (onward_next phase o)
onward_kind s Calling o h = h
onward_kind s Refused o h = h
onward_kind s Answered o h = tt

pub next_kind : (s : Sizes) (t : ℕ) (call : Call) (stage : Stage) (phase : Phase) (r : ℕ) (op : Op) → AreInRange s → IsAt s call stage
    → (let o : Option (ℕ × Op) = Some (r, op) in onward_next phase (next_op s t call stage) ≡ o) → (on_kind s r op ≡ true) × (is_forward op ≡ true)
next_kind s t call stage phase r op range at e = subst (IsKind s) e (onward_kind s phase (next_op s t call stage) (stage_kind s t call stage range at))

-- ---- the way back
abbrev IsBackOf : Option (ℕ × Op) → Type 0
IsBackOf None = ⊤
IsBackOf (Some o) = is_back o.1 ≡ true

pub undo_back : (u : Undo) → is_back (undo_op u) ≡ true
undo_back (UndoFreeCell c) = refl
undo_back _ = refl

last_back : (o : Option Pending) → IsBackOf (undo_next o)
last_back None = tt
last_back (Some u) = undo_back u.undo

pub back_kind : (o : Option Pending) (r : ℕ) (op : Op) → (let p : Option (ℕ × Op) = Some (r, op) in undo_next o ≡ p) → is_back op ≡ true
back_kind o r op e = subst IsBackOf e (last_back o)

-- ---- the list of what takes the call back
undo_is_operation : (u : Undo) → IsUndo u → IsOperation (undo_op u)
undo_is_operation (UndoFreeCell c) h = h
undo_is_operation _ h = h

pub dropped_undoes : (s : Sizes) (call : Call) (us : List Pending) → AllByRecursion (IsUndoOf s call) us → AllByRecursion (IsUndoOf s call) (drop_last us)
dropped_undoes s call us h = all_dropped (IsUndoOf s call) us h

pub dropped_shorter : (us : List Pending) → length (drop_last us) ≤ length us
dropped_shorter [] = omega arith
dropped_shorter (u ∷ []) = omega arith
dropped_shorter (u ∷ v ∷ us) = let rest = dropped_shorter (v ∷ us) in omega (arith, rest)

pub added_undoes : (s : Sizes) (call : Call) (us : List Pending) (b : Block) → AllByRecursion (IsUndoOf s call) us → IsBlock b → b.key ≡ call_key call → on_kind s b.region b.op ≡ true
    → AllByRecursion (IsUndoOf s call) (us ++ undo_added b b.undo)
added_undoes s call us b h block key kind = all_append (IsUndoOf s call) us (undo_added b b.undo) h (by_undo b.undo refl)
  where
    by_undo : (o : Option Undo) → b.undo ≡ o → AllByRecursion (IsUndoOf s call) (undo_added b o)
    by_undo None e = tt
    by_undo (Some u) e =
        let undone : undoes b.op b.outcome (Some u) ≡ true = ap (undoes b.op b.outcome) (sym e) ∙ last_true (is_within b.write b.read) (is_outcome_of b.op b.outcome) (undoes b.op b.outcome b.undo) block.fit in
        let small : IsUndo u = subst MayBeUndo e block.undo in
        (record { key = key; kind = same_kind s b.region b.op b.outcome u undone ∙ kind; spelled = undo_is_operation u small }, tt)
