-- The block of the next operation is one that the call goes on with.
use Rattle.std.proofs.Common.{◌≡◌, ℕ, ◌<◌, Bool, true, false, ◌&&◌, Option, Some, None, refl, sym, ap, subst, ◌∙◌, arith}
use Rattle.std.specs.Prelude.{◌==◌, if◌then◌else◌}
use Rattle.std.proofs.Math.Nat.{mod-lt}
use Rattle.std.proofs.lemmas.Bool.{eq-eqb, and_from}
use Rattle.dali_lists.proofs.Tests.{middle_true, all_three_true}
use Rattle.dali_geometry.specs.Sizes.{Sizes}
use Rattle.dali_geometry.specs.Places.{home, heap_start, regions, is_place, region_at, cell_at}
use Rattle.dali_record.specs.declared.operations.Op.{Op}
use Rattle.dali_record.specs.declared.operations.Op.TheVariants.{Look, KillEntry, Put, Read, Change, KillCell}
use Rattle.dali_record.specs.declared.operations.Block.{Block}
use Rattle.dali_record.specs.declared.records.Call.{Call}
use Rattle.dali_record.specs.declared.records.Call.TheVariants.{Insert, Update, Delete, Get}
use Rattle.dali_record.specs.Spelling.{is_within, undoes, is_outcome_of}
use Rattle.dali_record.specs.Calls.{when, on_item, cell_next, entry_next, after_read, after_change, after_kill_cell, after_kill_entry, follow}
use Rattle.dali_calls.specs.declared.stage.Stage.{Stage}
use Rattle.dali_calls.specs.declared.stage.Stage.TheVariants.{Fresh, Nowhere, Somewhere, Removing}
use Rattle.dali_calls.specs.Steps.{call_key, progress_of, in_cell, next_op, is_cell_outcome, after_cell, is_delete, IsAt, IsNextBlock}

pub record Facts (call : Call) (r : ℕ) (op : Op) (b : Block) : Type 0 where
  pub region : b.region ≡ r
  pub op_is : b.op ≡ op
  pub key : b.key ≡ call_key call
  pub outcome : is_outcome_of op b.outcome ≡ true

first_of : Option (ℕ × Op) → ℕ → ℕ
first_of None d = d
first_of (Some p) d = p.0

second_of : Option (ℕ × Op) → Op → Op
second_of None d = d
second_of (Some p) d = p.1

first_is : (a b : ℕ × Op) → Some a ≡ Some b → a.0 ≡ b.0
unfolding first_of
first_is a b e = ap (λ (o : Option (ℕ × Op)). first_of o 0) e

second_is : (a b : ℕ × Op) → Some a ≡ Some b → a.1 ≡ b.1
unfolding second_of
second_is a b e = ap (λ (o : Option (ℕ × Op)). second_of o Look) e

pub facts : (s : Sizes) (t : ℕ) (call : Call) (stage : Stage) (b : Block) (r : ℕ) (op : Op) → IsNextBlock s t call stage b → next_op s t call stage ≡ Some (r, op) → Facts call r op b
facts s t call stage b r op is e =
    let same : Some (b.region, b.op) ≡ Some (r, op) = sym is.op ∙ e in
    let op_is : b.op ≡ op = second_is (b.region, b.op) (r, op) same in
    record {
      region = first_is (b.region, b.op) (r, op) same;
      op_is = op_is;
      key = ap (λ (x : Block). x.key) is.made_on;
      outcome = ap (λ (o : Op). is_outcome_of o b.outcome) (sym op_is) ∙ middle_true (is_within b.write b.read) (is_outcome_of b.op b.outcome) (undoes b.op b.outcome b.undo) is.spelled.fit;
    }

pub none_next : (p : ℕ × Op) → None ≡ Some p → ⊥
none_next p e = absurd cc

pub on_it : (key region : ℕ) (b : Block) → b.key ≡ key → b.region ≡ region → on_item key region b ≡ true
on_it key region b k r = ap (λ (c : Bool). c && (b.region == region)) (eq-eqb b.key key k) ∙ eq-eqb b.region region r

-- the first look, and the first put
pub fresh_region : (s : Sizes) (t : ℕ) (call : Call) (stage : Stage) (b : Block) → IsNextBlock s t call stage b → stage ≡ Fresh → 0 < s.index → b.region < s.index
fresh_region s t call stage b is e some =
    subst (λ (r : ℕ). r < s.index) (sym ((facts s t call stage b (home s (call_key call)) Look is (ap (next_op s t call) e)).region)) (mod-lt (call_key call) some)

pub put_region : (s : Sizes) (t : ℕ) (call : Call) (stage : Stage) (b : Block) → IsNextBlock s t call stage b → stage ≡ Nowhere → 0 < s.heap → b.region < regions s
put_region s t (Insert key v) stage b is e some =
    subst (λ (r : ℕ). r < regions s) (sym ((facts s t (Insert key v) stage b (heap_start s t) (Put v) is (ap (next_op s t (Insert key v)) e)).region)) (omega (arith, mod-lt t some))
put_region s t (Update key v) stage b is e some = absurd (none_next (b.region, b.op) (sym (ap (next_op s t (Update key v)) e) ∙ is.op))
put_region s t (Delete key) stage b is e some = absurd (none_next (b.region, b.op) (sym (ap (next_op s t (Delete key)) e) ∙ is.op))
put_region s t (Get key) stage b is e some = absurd (none_next (b.region, b.op) (sym (ap (next_op s t (Get key)) e) ∙ is.op))

-- ---- the operation on the cell

-- the operation is on the cell that the place names
on_cell : (s : Sizes) (key place r : ℕ) (op : Op) (b : Block) → is_place s place ≡ true → (let o : Option (ℕ × Op) = Some (region_at place, op) in o ≡ Some (b.region, b.op)) → b.key ≡ key
    → (is_place s place && on_item key (region_at place) b && (cell_at place == cell_at place)) ≡ true
on_cell s key place r op b p e k =
    all_three_true (is_place s place) (on_item key (region_at place) b) (cell_at place == cell_at place) p (on_it key (region_at place) b k (sym (first_is (region_at place, op) (b.region, b.op) e))) (eq-eqb (cell_at place) (cell_at place) refl)

cell_follows : (s : Sizes) (call : Call) (region entry place : ℕ) (b : Block) → is_place s place ≡ true → in_cell call (region_at place) (cell_at place) ≡ Some (b.region, b.op) → b.key ≡ call_key call
    → cell_next s (call_key call) region entry place b b.op ≡ after_cell call region entry place b.outcome
cell_follows s (Insert key v) region entry place b p e k = absurd (none_next (b.region, b.op) e)
cell_follows s (Update key v) region entry place b p e k =
    ap (cell_next s key region entry place b) (sym (second_is (region_at place, Change (cell_at place) v) (b.region, b.op) e))
    ∙ ap (λ (x : Bool). when x (after_change key place v b.outcome)) (on_cell s key place region (Change (cell_at place) v) b p e k)
cell_follows s (Delete key) region entry place b p e k =
    ap (cell_next s key region entry place b) (sym (second_is (region_at place, KillCell (cell_at place)) (b.region, b.op) e))
    ∙ ap (λ (x : Bool). when x (after_kill_cell key region entry place b.outcome)) (on_cell s key place region (KillCell (cell_at place)) b p e k)
cell_follows s (Get key) region entry place b p e k =
    ap (cell_next s key region entry place b) (sym (second_is (region_at place, Read (cell_at place)) (b.region, b.op) e))
    ∙ ap (λ (x : Bool). when x (after_read key place b.outcome)) (on_cell s key place region (Read (cell_at place)) b p e k)

cell_outcome : (call : Call) (r c : ℕ) (b : Block) → in_cell call r c ≡ Some (b.region, b.op) → is_outcome_of b.op b.outcome ≡ true → is_cell_outcome call b.outcome ≡ true
cell_outcome (Insert key v) r c b e h = absurd (none_next (b.region, b.op) e)
cell_outcome (Update key v) r c b e h = ap (λ (o : Op). is_outcome_of o b.outcome) (second_is (r, Change c v) (b.region, b.op) e) ∙ h
cell_outcome (Delete key) r c b e h = ap (λ (o : Op). is_outcome_of o b.outcome) (second_is (r, KillCell c) (b.region, b.op) e) ∙ h
cell_outcome (Get key) r c b e h = ap (λ (o : Op). is_outcome_of o b.outcome) (second_is (r, Read c) (b.region, b.op) e) ∙ h

-- the place names a cell, and the operation is the call's there
pub record InCell (s : Sizes) (call : Call) (place : ℕ) (b : Block) : Type 0 where
  pub is_one : is_place s place ≡ true
  pub does : in_cell call (region_at place) (cell_at place) ≡ Some (b.region, b.op)
  pub key : b.key ≡ call_key call
  pub outcome : is_outcome_of b.op b.outcome ≡ true

by_place : (s : Sizes) (call : Call) (place : ℕ) (b : Block) (c : Bool) → is_place s place ≡ c → (if c then in_cell call (region_at place) (cell_at place) else None) ≡ Some (b.region, b.op)
    → (is_place s place ≡ true) × (in_cell call (region_at place) (cell_at place) ≡ Some (b.region, b.op))
by_place s call place b true p e = (p, e)
by_place s call place b false p e = absurd (none_next (b.region, b.op) e)

in_its_cell : (s : Sizes) (t : ℕ) (call : Call) (stage : Stage) (region entry place : ℕ) (b : Block) → IsNextBlock s t call stage b → stage ≡ Somewhere region entry place → InCell s call place b
in_its_cell s t call stage region entry place b is e =
    let both = by_place s call place b (is_place s place) refl (sym (ap (next_op s t call) e) ∙ is.op) in
    record {
      is_one = both.0;
      does = both.1;
      key = ap (λ (x : Block). x.key) is.made_on;
      outcome = middle_true (is_within b.write b.read) (is_outcome_of b.op b.outcome) (undoes b.op b.outcome b.undo) is.spelled.fit;
    }

pub somewhere_outcome : (s : Sizes) (t : ℕ) (call : Call) (stage : Stage) (region entry place : ℕ) (b : Block) → IsNextBlock s t call stage b → stage ≡ Somewhere region entry place → is_cell_outcome call b.outcome ≡ true
somewhere_outcome s t call stage region entry place b is e =
    let w = in_its_cell s t call stage region entry place b is e in cell_outcome call (region_at place) (cell_at place) b w.does w.outcome

pub somewhere_follows : (s : Sizes) (t : ℕ) (call : Call) (stage after : Stage) (region entry place : ℕ) (b : Block) → IsNextBlock s t call stage b → stage ≡ Somewhere region entry place
    → after_cell call region entry place b.outcome ≡ Some (progress_of call after) → follow s t (progress_of call stage) b ≡ Some (progress_of call after)
somewhere_follows s t call stage after region entry place b is e answers =
    let w = in_its_cell s t call stage region entry place b is e in
    ap (λ (x : Stage). follow s t (progress_of call x) b) e ∙ (cell_follows s call region entry place b w.is_one w.does w.key ∙ answers)

-- ---- the kill of the entry

pub removing_follows : (s : Sizes) (t : ℕ) (call : Call) (stage after : Stage) (region entry place : ℕ) (b : Block) → IsNextBlock s t call stage b → stage ≡ Removing region entry place → is_delete call ≡ true
    → ((key : ℕ) → after_kill_entry key place b.outcome ≡ Some (progress_of (Delete key) after)) → follow s t (progress_of call stage) b ≡ Some (progress_of call after)
removing_follows s t (Insert key v) stage after region entry place b is e d answers = absurd cc
removing_follows s t (Update key v) stage after region entry place b is e d answers = absurd cc
removing_follows s t (Get key) stage after region entry place b is e d answers = absurd cc
removing_follows s t (Delete key) stage after region entry place b is e d answers =
    let w = facts s t (Delete key) stage b region (KillEntry entry) is (ap (next_op s t (Delete key)) e) in
    ap (λ (x : Stage). follow s t (progress_of (Delete key) x) b) e
    ∙ (ap (entry_next key region entry place b) w.op_is
    ∙ (ap (λ (x : Bool). when x (after_kill_entry key place b.outcome)) (and_from (on_item key region b) (entry == entry) (on_it key region b w.key w.region) (eq-eqb entry entry refl))
    ∙ answers key))

pub removing_at : (s : Sizes) (call : Call) (after : Stage) → is_delete call ≡ true → ((z : Sizes) (key : ℕ) → IsAt z (Delete key) after) → IsAt s call after
removing_at s (Insert key v) after d at = absurd cc
removing_at s (Update key v) after d at = absurd cc
removing_at s (Get key) after d at = absurd cc
removing_at s (Delete key) after d at = at s key
