-- How many operations a call has left at most: each one that goes on with it leaves fewer.
use Rattle.std.proofs.Common.{◌≡◌, ℕ, ◌+◌, ◌-◌, ◌*◌, ◌<◌, ◌≤◌, Bool, true, false, ◌&&◌, List, Option, Some, None, refl, sym, ap, subst, ◌∙◌, arith, length, length-append}
use Rattle.std.specs.Prelude.{◌==◌, if◌then◌else◌, nat_lt, bytes_eq, ⊤}
use Rattle.std.proofs.lemmas.Bool.{ltb-true}
use Rattle.dali_geometry.specs.Sizes.{Sizes}
use Rattle.dali_geometry.specs.Places.{home, heap_start, next_index, is_place, region_at, cell_at, place}
use Rattle.dali_record.specs.declared.operations.Op.{Op}
use Rattle.dali_record.specs.declared.operations.Op.TheVariants.{Look, Add, KillEntry, Put, Read, Change, KillCell}
use Rattle.dali_record.specs.declared.operations.Outcome.{Outcome}
use Rattle.dali_record.specs.declared.operations.Outcome.TheVariants.{Found, Absent, Added, NoEntry, Killed, Put as PutIn, NoCell, Value, Changed, NotLive, OtherKey, OddLength}
use Rattle.dali_record.specs.declared.operations.Block.{Block}
use Rattle.dali_record.specs.declared.operations.Undo.{Undo}
use Rattle.dali_record.specs.declared.operations.Pending.{Pending}
use Rattle.dali_record.specs.declared.records.Call.{Call}
use Rattle.dali_record.specs.Log.{last_of, drop_last, undo_added}
use Rattle.dali_region.specs.State.{RegionState}
use Rattle.dali_runs.specs.State.{SystemState}
use Rattle.dali_calls.specs.declared.stage.Stage.{Stage}
use Rattle.dali_calls.specs.declared.stage.Stage.TheVariants.{Walking as StageWalking, Storing as StageStoring, Adding as StageAdding}
use Rattle.dali_calls.specs.Steps.{progress_of, IsAt}
use Rattle.dali_calls.specs.Plans.{Planned, undo_next, plan_next, is_back, went_back, GoesOn, IsWhole}
use Rattle.dali_calls.proofs.Wholes.{back_next}
use Rattle.dali_calls.proofs.Undoing.{drop_one}
use Rattle.dali_calls.specs.Single.Operated.{Operated}
use Rattle.dali_record.specs.Calls.{Progress, Fresh, Walking, Nowhere, Somewhere, Storing, Adding, Removing, Finished, follow, after_look, after_read, after_change, after_kill_cell, after_kill_entry, after_put, after_add, when, on_item, look_next, put_next, store_next, add_next, cell_next, entry_next}

-- ---- of a call that has come so far
abbrev pub ops_left : Sizes → Progress → ℕ
ops_left s Fresh = s.index + s.index + s.heap + 5
ops_left s (Walking key region looked) = s.index + s.heap + 4 + (s.index - looked)
ops_left s (Nowhere key) = s.index + s.heap + 4
ops_left s (Somewhere key region entry at) = 2
ops_left s (Storing key v region tried) = s.index + 2 + (s.heap - tried)
ops_left s (Adding key v at region tried) = 1 + (s.index - tried)
ops_left s (Removing key region entry at) = 1
ops_left s (Finished call answer) = 0

-- it has looked at fewer regions than there are
abbrev pub IsWithin : Sizes → Progress → Type 0
IsWithin s (Walking key region looked) = looked < s.index
IsWithin s (Storing key v region tried) = tried < s.heap
IsWithin s (Adding key v at region tried) = tried < s.index
IsWithin s p = ⊤

abbrev Less : Sizes → ℕ → Option Progress → Type 0
Less s n o = (q : Progress) → o ≡ Some q → ops_left s q < n

less_of : (s : Sizes) (n : ℕ) (p q : Progress) → (let o : Option Progress = Some q in Some p ≡ o) → ops_left s p < n → ops_left s q < n
less_of s n p q e h = subst (λ (r : Progress). ops_left s r < n) (inside p q e) h
  where
    inside : (a b : Progress) → (let o : Option Progress = Some b in Some a ≡ o) → a ≡ b
    inside a b f = cc

some : (s : Sizes) (n : ℕ) (p : Progress) → ops_left s p < n → Less s n (Some p)
some s n p h q e = less_of s n p q e h

none : (s : Sizes) (n : ℕ) → Less s n None
none s n q e = absurd cc

by_when : (s : Sizes) (n : ℕ) (b : Bool) (o : Option Progress) → Less s n o → Less s n (when b o)
by_when s n true o h = h
by_when s n false o h = none s n

by_if : (s : Sizes) (n : ℕ) (b : Bool) (p q : Progress) → (b ≡ true → ops_left s p < n) → ops_left s q < n → Less s n (Some (if b then p else q))
by_if s n true p q f h = some s n p (f refl)
by_if s n false p q f h = some s n q h

look_less : (s : Sizes) (key region looked n : ℕ) (o : Outcome) → s.index + s.heap + 4 < n → s.index + s.heap + 4 + (s.index - (looked + 1)) < n → Less s n (after_look s key region looked o)
look_less s key region looked n (Found e at) h k = some s n (Somewhere key region e at) (omega (arith, h))
look_less s key region looked n (Absent true) h k = by_if s n (nat_lt (looked + 1) s.index) (Walking key (next_index s region) (looked + 1)) (Nowhere key) (λ e. k) h
look_less s key region looked n (Absent false) h k = some s n (Nowhere key) h
look_less s key region looked n _ h k = none s n

read_less : (s : Sizes) (key at n : ℕ) (o : Outcome) → 0 < n → Less s n (after_read key at o)
read_less s key at n (Value v) h q e = less_of s n _ q e h
read_less s key at n (NotLive k) h q e = less_of s n _ q e h
read_less s key at n (OtherKey k) h q e = less_of s n _ q e h
read_less s key at n (OddLength k) h q e = less_of s n _ q e h
read_less s key at n _ h q e = none s n q e

change_less : (s : Sizes) (key at n : ℕ) (v : List ℕ) (o : Outcome) → 0 < n → Less s n (after_change key at v o)
change_less s key at n v Changed h q e = less_of s n _ q e h
change_less s key at n v (NotLive k) h q e = less_of s n _ q e h
change_less s key at n v (OtherKey k) h q e = less_of s n _ q e h
change_less s key at n v (OddLength k) h q e = less_of s n _ q e h
change_less s key at n v _ h q e = none s n q e

kill_cell_less : (s : Sizes) (key region entry at n : ℕ) (o : Outcome) → 1 < n → Less s n (after_kill_cell key region entry at o)
kill_cell_less s key region entry at n Killed h q e = less_of s n _ q e h
kill_cell_less s key region entry at n (NotLive k) h q e = less_of s n _ q e (omega (arith, h))
kill_cell_less s key region entry at n (OtherKey k) h q e = less_of s n _ q e (omega (arith, h))
kill_cell_less s key region entry at n (OddLength k) h q e = less_of s n _ q e (omega (arith, h))
kill_cell_less s key region entry at n _ h q e = none s n q e

kill_entry_less : (s : Sizes) (key at n : ℕ) (o : Outcome) → 0 < n → Less s n (after_kill_entry key at o)
kill_entry_less s key at n Killed h q e = less_of s n _ q e h
kill_entry_less s key at n (NotLive k) h q e = less_of s n _ q e h
kill_entry_less s key at n (OtherKey k) h q e = less_of s n _ q e h
kill_entry_less s key at n _ h q e = none s n q e

put_less : (s : Sizes) (key : ℕ) (v : List ℕ) (region tried n : ℕ) (o : Outcome) → s.index + 1 < n → (tried + 1 < s.heap → s.index + 2 + (s.heap - (tried + 1)) < n) → Less s n (after_put s key v region tried o)
put_less s key v region tried n (PutIn cell) h k = some s n (Adding key v (place region cell) (home s key) 0) (omega (arith, h))
put_less s key v region tried n NoCell h k = by_if s n (nat_lt (tried + 1) s.heap) _ _ (λ e. k (ltb-true (tried + 1) s.heap e)) (omega (arith, h))
put_less s key v region tried n _ h k = none s n

add_less : (s : Sizes) (key : ℕ) (v : List ℕ) (at region tried n : ℕ) (o : Outcome) → 0 < n → (tried + 1 < s.index → 1 + (s.index - (tried + 1)) < n) → Less s n (after_add s key v at region tried o)
add_less s key v at region tried n (Added entry) h k = some s n _ h
add_less s key v at region tried n NoEntry h k = by_if s n (nat_lt (tried + 1) s.index) _ _ (λ e. k (ltb-true (tried + 1) s.index e)) h
add_less s key v at region tried n _ h k = none s n

-- ---- by the operation
looks : (s : Sizes) (key region looked n : ℕ) (b : Block) (op : Op) → s.index + s.heap + 4 < n → s.index + s.heap + 4 + (s.index - (looked + 1)) < n → Less s n (look_next s key region looked b op)
looks s key region looked n b Look h k = by_when s n (on_item key region b) _ (look_less s key region looked n b.outcome h k)
looks s key region looked n b _ h k = none s n

puts : (s : Sizes) (key region tried n : ℕ) (b : Block) (op : Op) → s.index + 1 < n → (tried + 1 < s.heap → s.index + 2 + (s.heap - (tried + 1)) < n) → Less s n (put_next s key region tried b op)
puts s key region tried n b (Put v) h k = by_when s n (on_item key region b) _ (put_less s key v region tried n b.outcome h k)
puts s key region tried n b _ h k = none s n

stores : (s : Sizes) (key : ℕ) (v : List ℕ) (region tried n : ℕ) (b : Block) (op : Op) → s.index + 1 < n → (tried + 1 < s.heap → s.index + 2 + (s.heap - (tried + 1)) < n) → Less s n (store_next s key v region tried b op)
stores s key v region tried n b (Put w) h k = by_when s n (on_item key region b && bytes_eq v w) _ (put_less s key v region tried n b.outcome h k)
stores s key v region tried n b _ h k = none s n

adds : (s : Sizes) (key : ℕ) (v : List ℕ) (at region tried n : ℕ) (b : Block) (op : Op) → 0 < n → (tried + 1 < s.index → 1 + (s.index - (tried + 1)) < n) → Less s n (add_next s key v at region tried b op)
adds s key v at region tried n b (Add p) h k = by_when s n (on_item key region b && (p == at)) _ (add_less s key v at region tried n b.outcome h k)
adds s key v at region tried n b _ h k = none s n

cells : (s : Sizes) (key region entry at n : ℕ) (b : Block) (op : Op) → 1 < n → Less s n (cell_next s key region entry at b op)
cells s key region entry at n b (Read c) h = by_when s n (is_place s at && on_item key (region_at at) b && (c == cell_at at)) _ (read_less s key at n b.outcome (omega (arith, h)))
cells s key region entry at n b (Change c v) h = by_when s n (is_place s at && on_item key (region_at at) b && (c == cell_at at)) _ (change_less s key at n v b.outcome (omega (arith, h)))
cells s key region entry at n b (KillCell c) h = by_when s n (is_place s at && on_item key (region_at at) b && (c == cell_at at)) _ (kill_cell_less s key region entry at n b.outcome h)
cells s key region entry at n b _ h = none s n

entries : (s : Sizes) (key region entry at n : ℕ) (b : Block) (op : Op) → 0 < n → Less s n (entry_next key region entry at b op)
entries s key region entry at n b (KillEntry e) h = by_when s n (on_item key region b && (e == entry)) _ (kill_entry_less s key at n b.outcome h)
entries s key region entry at n b _ h = none s n

pub follow_less : (s : Sizes) (t : ℕ) (p q : Progress) (b : Block) → IsWithin s p → follow s t p b ≡ Some q → ops_left s q < ops_left s p
follow_less s t Fresh q b w e = looks s b.key (home s b.key) 0 (ops_left s Fresh) b b.op (omega arith) (omega arith) q e
follow_less s t (Walking key region looked) q b w e = looks s key region looked (ops_left s (Walking key region looked)) b b.op (omega (arith, w)) (omega (arith, w)) q e
follow_less s t (Nowhere key) q b w e = puts s key (heap_start s t) 0 (ops_left s (Nowhere key)) b b.op (omega arith) (λ h. omega (arith, h)) q e
follow_less s t (Somewhere key region entry at) q b w e = cells s key region entry at 2 b b.op (omega arith) q e
follow_less s t (Storing key v region tried) q b w e = stores s key v region tried (ops_left s (Storing key v region tried)) b b.op (omega (arith, w)) (λ h. omega (arith, w, h)) q e
follow_less s t (Adding key v at region tried) q b w e = adds s key v at region tried (ops_left s (Adding key v at region tried)) b b.op (omega (arith, w)) (λ h. omega (arith, w, h)) q e
follow_less s t (Removing key region entry at) q b w e = entries s key region entry at 1 b b.op (omega arith) q e
follow_less s t (Finished call answer) q b w e = absurd cc

-- ---- of a plan: an operation on its call may add one that takes it back
pub one_more_at_most : (b : Block) (u : Option Undo) → length (undo_added b u) ≤ 1
one_more_at_most b None = omega arith
one_more_at_most b (Some u) = omega arith

within : (s : Sizes) (call : Call) (stage : Stage) → IsAt s call stage → IsWithin s (progress_of call stage)
within s call (StageWalking region looked) at = at.1
within s call (StageStoring region tried) at = at.2
within s call (StageAdding spot region tried) at = at.2
within s call _ at = tt

abbrev pub plan_left : Planned → ℕ
plan_left p = 2 * ops_left p.geometry (progress_of p.call p.stage) + length p.changes

last_there : (us : List Pending) (o : Option Pending) → last_of us ≡ o → (let n : Option (ℕ × Op) = None in undo_next o ≡ n → ⊥) → length (drop_last us) < length us
last_there us None e f = absurd (f refl)
last_there us (Some u) e f = drop_one us u e

pub onward_fewer : (p q : Planned) (b : Block) → IsWhole p → GoesOn p b q → plan_left q < plan_left p
onward_fewer p q b w on =
    let geometry = ap (λ (z : Planned). z.geometry) on.rest in
    let call = ap (λ (z : Planned). z.call) on.rest in
    let less = follow_less p.geometry p.txn (progress_of p.call p.stage) (progress_of p.call q.stage) b (within p.geometry p.call p.stage w.at) on.follows in
    let left : ops_left q.geometry (progress_of q.call q.stage) ≡ ops_left p.geometry (progress_of p.call q.stage) = ap (λ (s : Sizes). ops_left s (progress_of q.call q.stage)) geometry ∙ ap (λ (c : Call). ops_left p.geometry (progress_of c q.stage)) call in
    let few = one_more_at_most b b.undo in
    let long : length q.changes ≡ length p.changes + length (undo_added b b.undo) = ap length on.changes ∙ length-append p.changes (undo_added b b.undo) in
    omega (arith, less, left, few, long)

pub back_fewer : (p : Planned) (b : Block) → is_back p ≡ true → plan_next p ≡ Some (b.region, b.op) → plan_left (went_back p) < plan_left p
back_fewer p b way next =
    let less = last_there p.changes (last_of p.changes) refl (λ n. none (sym n ∙ (sym (back_next p (is_back p) refl way) ∙ next))) in
    omega (arith, less)
  where
    none : (let n : Option (ℕ × Op) = None in n ≡ Some (b.region, b.op)) → ⊥
    none e = cc

pub fewer_left : (precheck : Bool) (p q : Planned) (g h : RegionState) (y z : SystemState) → IsWhole p → Operated precheck p g y q h z → plan_left q < plan_left p
fewer_left precheck p q g h y z w o = by_way (is_back p) refl
  where
    by_way : (b : Bool) → is_back p ≡ b → plan_left q < plan_left p
    by_way false e = onward_fewer p q o.block w (o.onward e).2
    by_way true e = subst (λ (x : Planned). plan_left x < plan_left p) (sym (o.back e).2) (back_fewer p o.block e o.of.op)
