-- The key that a call is on.
--     IsOff k p       the call that has come to p is on another key than k, or has no block yet
use Rattle.std.proofs.Common.{◌≡◌, ℕ, ◌+◌, ◌<◌, Bool, true, false, List, Some, refl, sym, subst, ◌∙◌, ◌≢◌}
use Rattle.std.specs.Prelude.{◌==◌, ◌&&◌, if◌then◌else◌, nat_lt, bytes_eq, ⊤}
use Rattle.std.proofs.lemmas.Bool.{eqb-true, and_parts}
use Rattle.dali_geometry.specs.Sizes.{Sizes}
use Rattle.dali_geometry.specs.Places.{is_place, region_at, cell_at, place, home, next_index, heap_start, next_heap}
use Rattle.dali_record.specs.declared.operations.Op.{Op}
use Rattle.dali_record.specs.declared.operations.Op.TheVariants.{Look, Add, KillEntry, Put, Read, Change, KillCell}
use Rattle.dali_record.specs.declared.operations.Outcome.{Outcome}
use Rattle.dali_record.specs.declared.operations.Outcome.TheVariants.{Found, Absent, Added, NoEntry, Killed, Put as PutIn, NoCell, Value, Changed, NotLive, OtherKey, OddLength}
use Rattle.dali_record.specs.declared.operations.Block.{Block}
use Rattle.dali_record.specs.declared.records.Call.TheVariants.{Insert, Update, Delete, Get}
use Rattle.dali_record.specs.declared.records.Answer.TheVariants.{Ok as AnswerOk, Got, FullHeap, FullIndex, Odd}
use Rattle.dali_record.specs.Calls.{Progress, Fresh, Walking, Nowhere, Somewhere, Storing, Adding, Removing, Finished, follow, look_next, after_look, put_next, after_put, store_next, add_next, after_add, cell_next, after_read, after_change, after_kill_cell, entry_next, after_kill_entry, on_item}
use Rattle.dali_history.proofs.SlotsLemmas.SlotSteps.{IsForward}
use Rattle.dali_history.proofs.SlotsLemmas.CallProgress.{IsOn, when_some, on_item_is}
use Rattle.dali_access.proofs.IndexLemmas.Gaps.{place_heap}

abbrev pub IsOff : ℕ → Progress → Type 0
IsOff k Fresh = ⊤
IsOff k p = IsOn k p → ⊥

-- a call on j is off k, or on it
pub off_other : (j k : ℕ) (p : Progress) → IsOn j p → j ≢ k → IsOff k p
off_other j k Fresh h n = tt
off_other j k _ h n = λ e. n (sym h ∙ e)

-- a call that is off k and on k has no block yet
pub off_on : (k : ℕ) (p : Progress) → IsOff k p → IsOn k p → p ≡ Fresh
off_on k Fresh n h = refl
off_on k _ n h = absurd (n h)

-- ---- an operation of a call is on the key of the call
look_on : (s : Sizes) (key region looked : ℕ) (o : Outcome) (p : Progress) → after_look s key region looked o ≡ Some p → IsOn key p
look_on s key region looked (Found i at) p e = let same : p ≡ Somewhere key region i at = cc (e) in rw same refl
look_on s key region looked (Absent true) p e = by_count (nat_lt (looked + 1) s.index) e
  where
    by_count : (c : Bool) → Some (if c then Walking key (next_index s region) (looked + 1) else Nowhere key) ≡ Some p → IsOn key p
    by_count true x = let same : p ≡ Walking key (next_index s region) (looked + 1) = cc (x) in rw same refl
    by_count false x = let same : p ≡ Nowhere key = cc (x) in rw same refl
look_on s key region looked (Absent false) p e = let same : p ≡ Nowhere key = cc (e) in rw same refl
look_on s key region looked _ p e = absurd (cc (e))

put_on : (s : Sizes) (key : ℕ) (v : List ℕ) (region tried : ℕ) (o : Outcome) (p : Progress) → after_put s key v region tried o ≡ Some p → IsOn key p
put_on s key v region tried (PutIn c) p e = let same : p ≡ Adding key v (place region c) (home s key) 0 = cc (e) in rw same refl
put_on s key v region tried NoCell p e = by_count (nat_lt (tried + 1) s.heap) e
  where
    by_count : (c : Bool) → Some (if c then Storing key v (next_heap s region) (tried + 1) else Finished (Insert key v) FullHeap) ≡ Some p → IsOn key p
    by_count true x = let same : p ≡ Storing key v (next_heap s region) (tried + 1) = cc (x) in rw same refl
    by_count false x = let same : p ≡ Finished (Insert key v) FullHeap = cc (x) in rw same refl
put_on s key v region tried _ p e = absurd (cc (e))

add_on : (s : Sizes) (key : ℕ) (v : List ℕ) (at region tried : ℕ) (o : Outcome) (p : Progress) → after_add s key v at region tried o ≡ Some p → IsOn key p
add_on s key v at region tried (Added i) p e = let same : p ≡ Finished (Insert key v) AnswerOk = cc (e) in rw same refl
add_on s key v at region tried NoEntry p e = by_count (nat_lt (tried + 1) s.index) e
  where
    by_count : (c : Bool) → Some (if c then Adding key v at (next_index s region) (tried + 1) else Finished (Insert key v) FullIndex) ≡ Some p → IsOn key p
    by_count true x = let same : p ≡ Adding key v at (next_index s region) (tried + 1) = cc (x) in rw same refl
    by_count false x = let same : p ≡ Finished (Insert key v) FullIndex = cc (x) in rw same refl
add_on s key v at region tried _ p e = absurd (cc (e))

read_on : (key at : ℕ) (o : Outcome) (p : Progress) → after_read key at o ≡ Some p → IsOn key p
read_on key at (Value v) p e = let same : p ≡ Finished (Get key) (Got v) = cc (e) in rw same refl
read_on key at (NotLive n) p e = let same : p ≡ Finished (Get key) (Odd at) = cc (e) in rw same refl
read_on key at (OtherKey n) p e = let same : p ≡ Finished (Get key) (Odd at) = cc (e) in rw same refl
read_on key at (OddLength n) p e = let same : p ≡ Finished (Get key) (Odd at) = cc (e) in rw same refl
read_on key at _ p e = absurd (cc (e))

change_on : (key at : ℕ) (v : List ℕ) (o : Outcome) (p : Progress) → after_change key at v o ≡ Some p → IsOn key p
change_on key at v Changed p e = let same : p ≡ Finished (Update key v) AnswerOk = cc (e) in rw same refl
change_on key at v (NotLive n) p e = let same : p ≡ Finished (Update key v) (Odd at) = cc (e) in rw same refl
change_on key at v (OtherKey n) p e = let same : p ≡ Finished (Update key v) (Odd at) = cc (e) in rw same refl
change_on key at v (OddLength n) p e = let same : p ≡ Finished (Update key v) (Odd at) = cc (e) in rw same refl
change_on key at v _ p e = absurd (cc (e))

kill_cell_on : (key region i at : ℕ) (o : Outcome) (p : Progress) → after_kill_cell key region i at o ≡ Some p → IsOn key p
kill_cell_on key region i at Killed p e = let same : p ≡ Removing key region i at = cc (e) in rw same refl
kill_cell_on key region i at (NotLive n) p e = let same : p ≡ Finished (Delete key) (Odd at) = cc (e) in rw same refl
kill_cell_on key region i at (OtherKey n) p e = let same : p ≡ Finished (Delete key) (Odd at) = cc (e) in rw same refl
kill_cell_on key region i at (OddLength n) p e = let same : p ≡ Finished (Delete key) (Odd at) = cc (e) in rw same refl
kill_cell_on key region i at _ p e = absurd (cc (e))

kill_entry_on : (key at : ℕ) (o : Outcome) (p : Progress) → after_kill_entry key at o ≡ Some p → IsOn key p
kill_entry_on key at Killed p e = let same : p ≡ Finished (Delete key) AnswerOk = cc (e) in rw same refl
kill_entry_on key at (NotLive n) p e = let same : p ≡ Finished (Delete key) (Odd at) = cc (e) in rw same refl
kill_entry_on key at (OtherKey n) p e = let same : p ≡ Finished (Delete key) (Odd at) = cc (e) in rw same refl
kill_entry_on key at _ p e = absurd (cc (e))

abbrev pub Says : Block → ℕ → Op → Progress → Type 0
Says b key op p = IsForward op × (key ≡ b.key) × IsOn b.key p

look_says : (s : Sizes) (key region looked : ℕ) (b : Block) (op : Op) (p : Progress) → look_next s key region looked b op ≡ Some p → Says b key op p
look_says s key region looked b Look p e = let x = when_some (on_item key region b) _ p e in let y = on_item_is key region b x.0 in (tt, sym y.0, subst (λ j. IsOn j p) (sym y.0) (look_on s key region looked b.outcome p x.1))
look_says s key region looked b _ p e = absurd (cc (e))

put_says : (s : Sizes) (key region tried : ℕ) (b : Block) (op : Op) (p : Progress) → put_next s key region tried b op ≡ Some p → Says b key op p
put_says s key region tried b (Put v) p e = let x = when_some (on_item key region b) _ p e in let y = on_item_is key region b x.0 in (tt, sym y.0, subst (λ j. IsOn j p) (sym y.0) (put_on s key v region tried b.outcome p x.1))
put_says s key region tried b _ p e = absurd (cc (e))

store_says : (s : Sizes) (key : ℕ) (v : List ℕ) (region tried : ℕ) (b : Block) (op : Op) (p : Progress) → store_next s key v region tried b op ≡ Some p → Says b key op p
store_says s key v region tried b (Put w) p e = let x = when_some (on_item key region b && bytes_eq v w) _ p e in let y = on_item_is key region b (and_parts (on_item key region b) _ x.0).0 in (tt, sym y.0, subst (λ j. IsOn j p) (sym y.0) (put_on s key v region tried b.outcome p x.1))
store_says s key v region tried b _ p e = absurd (cc (e))

add_says : (s : Sizes) (key : ℕ) (v : List ℕ) (at region tried : ℕ) (b : Block) (op : Op) (p : Progress) → add_next s key v at region tried b op ≡ Some p → Says b key op p
add_says s key v at region tried b (Add q) p e = let x = when_some (on_item key region b && (q == at)) _ p e in let y = on_item_is key region b (and_parts (on_item key region b) _ x.0).0 in (tt, sym y.0, subst (λ j. IsOn j p) (sym y.0) (add_on s key v at region tried b.outcome p x.1))
add_says s key v at region tried b _ p e = absurd (cc (e))

entry_says : (key region i at : ℕ) (b : Block) (op : Op) (p : Progress) → entry_next key region i at b op ≡ Some p → Says b key op p
entry_says key region i at b (KillEntry f) p e = let x = when_some (on_item key region b && (f == i)) _ p e in let y = on_item_is key region b (and_parts (on_item key region b) _ x.0).0 in (tt, sym y.0, subst (λ j. IsOn j p) (sym y.0) (kill_entry_on key at b.outcome p x.1))
entry_says key region i at b _ p e = absurd (cc (e))

cell_tests : (s : Sizes) (key at c : ℕ) (b : Block) → ((is_place s at && on_item key (region_at at) b) && (c == cell_at at)) ≡ true → (b.key ≡ key) × (0 < c) × (c < 8)
cell_tests s key at c b h =
    let x = and_parts (is_place s at && on_item key (region_at at) b) (c == cell_at at) h in
    let y = and_parts (is_place s at) (on_item key (region_at at) b) x.0 in
    let small = place_heap s at y.0 in
    let same : c ≡ cell_at at = eqb-true c (cell_at at) x.1 in
    ((on_item_is key (region_at at) b y.1).0, rw same (small.2), rw same (small.3))

cell_says : (s : Sizes) (key region i at : ℕ) (b : Block) (op : Op) (p : Progress) → cell_next s key region i at b op ≡ Some p → Says b key op p
cell_says s key region i at b (Read c) p e = let x = when_some _ _ p e in let y = cell_tests s key at c b x.0 in ((y.1, y.2), sym y.0, subst (λ j. IsOn j p) (sym y.0) (read_on key at b.outcome p x.1))
cell_says s key region i at b (Change c v) p e = let x = when_some _ _ p e in let y = cell_tests s key at c b x.0 in ((y.1, y.2), sym y.0, subst (λ j. IsOn j p) (sym y.0) (change_on key at v b.outcome p x.1))
cell_says s key region i at b (KillCell c) p e = let x = when_some _ _ p e in let y = cell_tests s key at c b x.0 in ((y.1, y.2), sym y.0, subst (λ j. IsOn j p) (sym y.0) (kill_cell_on key region i at b.outcome p x.1))
cell_says s key region i at b _ p e = absurd (cc (e))

-- a block that a call follows with is an operation of a call, on the call's key
pub follow_says : (s : Sizes) (t : ℕ) (q : Progress) (b : Block) (p : Progress) → follow s t q b ≡ Some p → IsForward b.op × IsOn b.key q × IsOn b.key p
follow_says s t Fresh b p e = let x = look_says s b.key (home s b.key) 0 b b.op p e in (x.0, tt, x.2)
follow_says s t (Walking key region looked) b p e = look_says s key region looked b b.op p e
follow_says s t (Nowhere key) b p e = put_says s key (heap_start s t) 0 b b.op p e
follow_says s t (Somewhere key region i at) b p e = cell_says s key region i at b b.op p e
follow_says s t (Storing key v region tried) b p e = store_says s key v region tried b b.op p e
follow_says s t (Adding key v at region tried) b p e = add_says s key v at region tried b b.op p e
follow_says s t (Removing key region i at) b p e = entry_says key region i at b b.op p e
follow_says s t (Finished c a) b p e = absurd (cc (e))
