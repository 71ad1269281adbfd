-- Cells and entries as kinds of slots: which blocks take one, and which calls under way have taken one.
use Rattle.std.proofs.Common.{◌≡◌, ℕ, ◌+◌, ◌≤◌, Bool, true, false, List, length, Option, Some, None, refl, ap, subst, ◌∙◌, arith}
use Rattle.std.specs.Prelude.{◌==◌, ◌&&◌, if◌then◌else◌, nat_lt, bytes_eq}
use Rattle.std.proofs.lemmas.Bool.{and_parts}
use Rattle.dali_words.specs.declared.KillOutcome.{KillOutcome}
use Rattle.dali_words.specs.declared.KillOutcome.TheVariants.{NotLive as KillNotLive, OtherKey as KillOtherKey, OddLength as KillOddLength, Killed as KillKilled}
use Rattle.dali_geometry.specs.Sizes.{Sizes}
use Rattle.dali_geometry.specs.Places.{home, next_index, heap_start, next_heap, place}
use Rattle.dali_access.specs.declared.heap.PutOutcome.{PutOutcome}
use Rattle.dali_access.specs.declared.heap.PutOutcome.TheVariants.{Put as PutDone, NoCell as PutNoCell}
use Rattle.dali_access.specs.declared.heap.ReadOutcome.{ReadOutcome}
use Rattle.dali_access.specs.declared.heap.ReadOutcome.TheVariants.{NotLive as ReadNotLive, OtherKey as ReadOtherKey, OddLength as ReadOddLength, Value as ReadValue}
use Rattle.dali_access.specs.declared.heap.ChangeOutcome.{ChangeOutcome}
use Rattle.dali_access.specs.declared.heap.ChangeOutcome.TheVariants.{NotLive as ChangeNotLive, OtherKey as ChangeOtherKey, OddLength as ChangeOddLength, Changed as ChangeDone}
use Rattle.dali_access.specs.Heap.Rows as heap
use Rattle.dali_access.specs.declared.index.LookOutcome.{LookOutcome}
use Rattle.dali_access.specs.declared.index.LookOutcome.TheVariants.{Found as LookFound, Absent as LookAbsent}
use Rattle.dali_access.specs.declared.index.AddOutcome.{AddOutcome}
use Rattle.dali_access.specs.declared.index.AddOutcome.TheVariants.{Added as AddDone, NoEntry as AddNoEntry}
use Rattle.dali_access.specs.Index.Rows as index
use Rattle.dali_record.specs.declared.operations.Op.{Op}
use Rattle.dali_record.specs.declared.operations.Op.TheVariants.{Look, Add, KillEntry, Put, Read, Change, KillCell, FreeCell, ReviveCell, Restore, FreeEntry, ReviveEntry}
use Rattle.dali_record.specs.declared.operations.Outcome.{Outcome}
use Rattle.dali_record.specs.declared.operations.Outcome.TheVariants.{Found, Absent, Added, NoEntry, Killed, Put as PutIn, NoCell, Value, Changed, NotLive, OtherKey, OddLength, Undone}
use Rattle.dali_record.specs.declared.operations.Undo.{Undo}
use Rattle.dali_record.specs.declared.operations.Block.{Block}
use Rattle.dali_record.specs.declared.records.Call.{Call}
use Rattle.dali_record.specs.declared.records.Call.TheVariants.{Insert, Update, Delete, Get}
use Rattle.dali_record.specs.declared.records.Answer.{Answer}
use Rattle.dali_record.specs.declared.records.Answer.TheVariants.{Ok as AnswerOk, Got, FullHeap, FullIndex, Odd}
use Rattle.dali_record.specs.Blocks.{IsSoundOn}
use Rattle.dali_record.specs.Log.{undo_added}
use Rattle.dali_record.specs.Operations.{effect, looked, added, undo_of_add, killed, stored, undo_of_put, read, changed}
use Rattle.dali_record.specs.Calls.{Progress, Fresh, Walking, Nowhere, Somewhere, Storing, Adding, Removing, Finished, after_look, after_put, after_add, after_read, after_change, after_kill_cell, after_kill_entry, look_next, put_next, store_next, add_next, cell_next, entry_next, follow, on_item, answers, same_call, same_answer}
use Rattle.dali_history.proofs.SlotsLemmas.CallProgress.{when_some}
use Rattle.dali_history.specs.Room.Room.{cell_in, entry_in, is_insert}
use Rattle.dali_history.proofs.RoomLemmas.Tally.{one_if, Tells}

abbrev pub size : Option (ℕ × ℕ) → ℕ
size None = 0
size (Some p) = 1

-- ---- an operation that takes a slot leaves an undo
-- the outcomes that do
abbrev leaves_undo : Outcome → Bool
leaves_undo (Added entry) = true
leaves_undo (PutIn cell) = true
leaves_undo _ = false

module _ (slot : ℕ → Outcome → Option (ℕ × ℕ)) (none : (r : ℕ) (o : Outcome) → leaves_undo o ≡ false → size (slot r o) ≡ 0) (ws : List ℕ) (b : Block) where
  abbrev Leaves : Type 0
  Leaves = size (slot b.region b.outcome) ≤ length (undo_added b b.undo)

  nothing : (o : Outcome) → o ≡ b.outcome → leaves_undo o ≡ false → Leaves
  nothing o e f = omega (arith, ap (λ z. size (slot b.region z)) e, none b.region o f)

  few : (o : Option (ℕ × ℕ)) → size o ≤ 1
  few None = omega arith
  few (Some p) = omega arith

  something : (u : Undo) → Some u ≡ b.undo → Leaves
  something u e = subst (λ z. size (slot b.region b.outcome) ≤ length (undo_added b z)) e (few (slot b.region b.outcome))

  of_look : (r : LookOutcome) → looked r ≡ b.outcome → Leaves
  of_look (LookFound x y) e = nothing (Found x y) e refl
  of_look (LookAbsent x) e = nothing (Absent x) e refl

  of_add : (r : AddOutcome) → added r ≡ b.outcome → undo_of_add r ≡ b.undo → Leaves
  of_add (AddDone x) e f = something _ f
  of_add AddNoEntry e f = nothing NoEntry e refl

  of_put : (r : PutOutcome) → stored r ≡ b.outcome → undo_of_put r ≡ b.undo → Leaves
  of_put (PutDone x) e f = something _ f
  of_put PutNoCell e f = nothing NoCell e refl

  of_kill : (r : KillOutcome) → killed r ≡ b.outcome → Leaves
  of_kill (KillNotLive x) e = nothing (NotLive x) e refl
  of_kill (KillOtherKey x) e = nothing (OtherKey x) e refl
  of_kill (KillOddLength x) e = nothing (OddLength x) e refl
  of_kill KillKilled e = nothing Killed e refl

  of_read : (r : ReadOutcome) → read r ≡ b.outcome → Leaves
  of_read (ReadNotLive x) e = nothing (NotLive x) e refl
  of_read (ReadOtherKey x) e = nothing (OtherKey x) e refl
  of_read (ReadOddLength x) e = nothing (OddLength x) e refl
  of_read (ReadValue v) e = nothing (Value v) e refl

  of_change : (r : ChangeOutcome) → changed r ≡ b.outcome → Leaves
  of_change (ChangeNotLive x) e = nothing (NotLive x) e refl
  of_change (ChangeOtherKey x) e = nothing (OtherKey x) e refl
  of_change (ChangeOddLength x) e = nothing (OddLength x) e refl
  of_change ChangeDone e = nothing Changed e refl

  go : (op : Op) → (effect op b.key ws).1 ≡ b.outcome → (effect op b.key ws).2 ≡ b.undo → Leaves
  go Look e f = of_look (index.look ws b.key).1 e
  go (Add p) e f = of_add (index.add ws b.key p).1 e f
  go (KillEntry x) e f = of_kill (index.kill ws x b.key).1 e
  go (Put v) e f = of_put (heap.put ws b.key v).1 e f
  go (Read c) e f = of_read (heap.read ws c b.key).1 e
  go (Change c v) e f = of_change (heap.change ws c b.key v).1 e
  go (KillCell c) e f = of_kill (heap.kill ws c b.key).1 e
  go (FreeCell c) e f = nothing Undone e refl
  go (ReviveCell c) e f = nothing Undone e refl
  go (Restore c n vs) e f = nothing Undone e refl
  go (FreeEntry x) e f = nothing Undone e refl
  go (ReviveEntry x) e f = nothing Undone e refl

  undone : IsSoundOn ws b → Leaves
  undone h = go b.op (ap (λ (x : Block). x.outcome) h) (ap (λ (x : Block). x.undo) h)

-- ---- cells
abbrev pub takes_cell : Block → ℕ
takes_cell b = size (cell_in b.region b.outcome)

abbrev pub cell_kept : Call → Answer → ℕ
cell_kept (Insert k v) AnswerOk = 1
cell_kept (Insert k v) FullIndex = 1
cell_kept _ _ = 0

abbrev pub cell_pends : Progress → ℕ
cell_pends (Adding key v at region tried) = 1
cell_pends (Finished c a) = cell_kept c a
cell_pends _ = 0

cell_look : (s : Sizes) (key region looked r : ℕ) (o : Outcome) (p : Progress) → after_look s key region looked o ≡ Some p → cell_pends p ≡ size (cell_in r o)
cell_look s key region looked r (Found entry at) p e = let same : p ≡ Somewhere key region entry at = cc (e) in rw same refl
cell_look s key region looked r (Absent true) p e = go (nat_lt (looked + 1) s.index) e
  where
    go : (c : Bool) → Some (if c then Walking key (next_index s region) (looked + 1) else Nowhere key) ≡ Some p → cell_pends p ≡ 0
    go true f = let same : p ≡ Walking key (next_index s region) (looked + 1) = cc (f) in rw same refl
    go false f = let same : p ≡ Nowhere key = cc (f) in rw same refl
cell_look s key region looked r (Absent false) p e = let same : p ≡ Nowhere key = cc (e) in rw same refl
cell_look s key region looked r _ p e = absurd (cc (e))

cell_put : (s : Sizes) (key : ℕ) (v : List ℕ) (region tried r : ℕ) (o : Outcome) (p : Progress) → after_put s key v region tried o ≡ Some p → cell_pends p ≡ size (cell_in r o)
cell_put s key v region tried r (PutIn c) p e = let same : p ≡ Adding key v (place region c) (home s key) 0 = cc (e) in rw same refl
cell_put s key v region tried r NoCell p e = go (nat_lt (tried + 1) s.heap) e
  where
    go : (c : Bool) → Some (if c then Storing key v (next_heap s region) (tried + 1) else Finished (Insert key v) FullHeap) ≡ Some p → cell_pends p ≡ 0
    go true f = let same : p ≡ Storing key v (next_heap s region) (tried + 1) = cc (f) in rw same refl
    go false f = let same : p ≡ Finished (Insert key v) FullHeap = cc (f) in rw same refl
cell_put s key v region tried r _ p e = absurd (cc (e))

cell_add : (s : Sizes) (key : ℕ) (v : List ℕ) (at region tried r : ℕ) (o : Outcome) (p : Progress) → after_add s key v at region tried o ≡ Some p → cell_pends p ≡ size (cell_in r o) + 1
cell_add s key v at region tried r (Added entry) p e = let same : p ≡ Finished (Insert key v) AnswerOk = cc (e) in rw same refl
cell_add s key v at region tried r NoEntry p e = go (nat_lt (tried + 1) s.index) e
  where
    go : (c : Bool) → Some (if c then Adding key v at (next_index s region) (tried + 1) else Finished (Insert key v) FullIndex) ≡ Some p → cell_pends p ≡ 1
    go true f = let same : p ≡ Adding key v at (next_index s region) (tried + 1) = cc (f) in rw same refl
    go false f = let same : p ≡ Finished (Insert key v) FullIndex = cc (f) in rw same refl
cell_add s key v at region tried r _ p e = absurd (cc (e))

cell_read : (key at r : ℕ) (o : Outcome) (p : Progress) → after_read key at o ≡ Some p → cell_pends p ≡ size (cell_in r o)
cell_read key at r (Value v) p e = let same : p ≡ Finished (Get key) (Got v) = cc (e) in rw same refl
cell_read key at r (NotLive n) p e = let same : p ≡ Finished (Get key) (Odd at) = cc (e) in rw same refl
cell_read key at r (OtherKey n) p e = let same : p ≡ Finished (Get key) (Odd at) = cc (e) in rw same refl
cell_read key at r (OddLength n) p e = let same : p ≡ Finished (Get key) (Odd at) = cc (e) in rw same refl
cell_read key at r _ p e = absurd (cc (e))

cell_change : (key at : ℕ) (v : List ℕ) (r : ℕ) (o : Outcome) (p : Progress) → after_change key at v o ≡ Some p → cell_pends p ≡ size (cell_in r o)
cell_change key at v r Changed p e = let same : p ≡ Finished (Update key v) AnswerOk = cc (e) in rw same refl
cell_change key at v r (NotLive n) p e = let same : p ≡ Finished (Update key v) (Odd at) = cc (e) in rw same refl
cell_change key at v r (OtherKey n) p e = let same : p ≡ Finished (Update key v) (Odd at) = cc (e) in rw same refl
cell_change key at v r (OddLength n) p e = let same : p ≡ Finished (Update key v) (Odd at) = cc (e) in rw same refl
cell_change key at v r _ p e = absurd (cc (e))

cell_kill_cell : (key region entry at r : ℕ) (o : Outcome) (p : Progress) → after_kill_cell key region entry at o ≡ Some p → cell_pends p ≡ size (cell_in r o)
cell_kill_cell key region entry at r Killed p e = let same : p ≡ Removing key region entry at = cc (e) in rw same refl
cell_kill_cell key region entry at r (NotLive n) p e = let same : p ≡ Finished (Delete key) (Odd at) = cc (e) in rw same refl
cell_kill_cell key region entry at r (OtherKey n) p e = let same : p ≡ Finished (Delete key) (Odd at) = cc (e) in rw same refl
cell_kill_cell key region entry at r (OddLength n) p e = let same : p ≡ Finished (Delete key) (Odd at) = cc (e) in rw same refl
cell_kill_cell key region entry at r _ p e = absurd (cc (e))

cell_kill_entry : (key at r : ℕ) (o : Outcome) (p : Progress) → after_kill_entry key at o ≡ Some p → cell_pends p ≡ size (cell_in r o)
cell_kill_entry key at r Killed p e = let same : p ≡ Finished (Delete key) AnswerOk = cc (e) in rw same refl
cell_kill_entry key at r (NotLive n) p e = let same : p ≡ Finished (Delete key) (Odd at) = cc (e) in rw same refl
cell_kill_entry key at r (OtherKey n) p e = let same : p ≡ Finished (Delete key) (Odd at) = cc (e) in rw same refl
cell_kill_entry key at r _ p e = absurd (cc (e))

module _ (s : Sizes) (b : Block) where
  cell_looks : (key region looked : ℕ) (op : Op) (p : Progress) → look_next s key region looked b op ≡ Some p → cell_pends p ≡ takes_cell b + 0
  cell_looks key region looked Look p e = cell_look s key region looked b.region b.outcome p (when_some (on_item key region b) _ p e).1 ∙ omega arith
  cell_looks key region looked _ p e = absurd (cc (e))

  cell_puts : (key region tried : ℕ) (op : Op) (p : Progress) → put_next s key region tried b op ≡ Some p → cell_pends p ≡ takes_cell b + 0
  cell_puts key region tried (Put v) p e = cell_put s key v region tried b.region b.outcome p (when_some (on_item key region b) _ p e).1 ∙ omega arith
  cell_puts key region tried _ p e = absurd (cc (e))

  cell_stores : (key : ℕ) (v : List ℕ) (region tried : ℕ) (op : Op) (p : Progress) → store_next s key v region tried b op ≡ Some p → cell_pends p ≡ takes_cell b + 0
  cell_stores key v region tried (Put w) p e = cell_put s key v region tried b.region b.outcome p (when_some (on_item key region b && bytes_eq v w) _ p e).1 ∙ omega arith
  cell_stores key v region tried _ p e = absurd (cc (e))

  cell_adds : (key : ℕ) (v : List ℕ) (at region tried : ℕ) (op : Op) (p : Progress) → add_next s key v at region tried b op ≡ Some p → cell_pends p ≡ takes_cell b + 1
  cell_adds key v at region tried (Add q) p e = cell_add s key v at region tried b.region b.outcome p (when_some (on_item key region b && (q == at)) _ p e).1
  cell_adds key v at region tried _ p e = absurd (cc (e))

  cell_cells : (key region entry at : ℕ) (op : Op) (p : Progress) → cell_next s key region entry at b op ≡ Some p → cell_pends p ≡ takes_cell b + 0
  cell_cells key region entry at (Read c) p e = cell_read key at b.region b.outcome p (when_some _ _ p e).1 ∙ omega arith
  cell_cells key region entry at (Change c v) p e = cell_change key at v b.region b.outcome p (when_some _ _ p e).1 ∙ omega arith
  cell_cells key region entry at (KillCell c) p e = cell_kill_cell key region entry at b.region b.outcome p (when_some _ _ p e).1 ∙ omega arith
  cell_cells key region entry at _ p e = absurd (cc (e))

  cell_entries : (key region entry at : ℕ) (op : Op) (p : Progress) → entry_next key region entry at b op ≡ Some p → cell_pends p ≡ takes_cell b + 0
  cell_entries key region entry at (KillEntry f) p e = cell_kill_entry key at b.region b.outcome p (when_some _ _ p e).1 ∙ omega arith
  cell_entries key region entry at _ p e = absurd (cc (e))

  cell_follows : (t : ℕ) (q p : Progress) → follow s t q b ≡ Some p → cell_pends p ≡ takes_cell b + cell_pends q
  cell_follows t Fresh p e = cell_looks b.key (home s b.key) 0 b.op p e
  cell_follows t (Walking key region looked) p e = cell_looks key region looked b.op p e
  cell_follows t (Nowhere key) p e = cell_puts key (heap_start s t) 0 b.op p e
  cell_follows t (Somewhere key region entry at) p e = cell_cells key region entry at b.op p e
  cell_follows t (Storing key v region tried) p e = cell_stores key v region tried b.op p e
  cell_follows t (Adding key v at region tried) p e = cell_adds key v at region tried b.op p e
  cell_follows t (Removing key region entry at) p e = cell_entries key region entry at b.op p e
  cell_follows t (Finished c a) p e = absurd (cc (e))

cell_few : (k : ℕ) (v : List ℕ) (a : Answer) → cell_kept (Insert k v) a ≤ 1
cell_few k v AnswerOk = omega arith
cell_few k v _ = omega arith

cell_call : (d c : Call) (a : Answer) → same_call d c ≡ true → cell_kept d a ≤ one_if (is_insert c)
cell_call (Insert k v) (Insert l w) a e = cell_few k v a
cell_call (Insert k v) (Update l w) a e = absurd (cc (e))
cell_call (Insert k v) (Delete l) a e = absurd (cc (e))
cell_call (Insert k v) (Get l) a e = absurd (cc (e))
cell_call (Update k v) c a e = omega arith
cell_call (Delete k) c a e = omega arith
cell_call (Get k) c a e = omega arith

cell_answered : (s : Sizes) (p : Progress) (c : Call) (a : Answer) → answers s p c a ≡ true → cell_pends p ≤ one_if (is_insert c)
cell_answered s (Adding key v at region tried) c a e = absurd (cc (e))
cell_answered s (Finished d b) c a e = cell_call d c b (and_parts (same_call d c) (same_answer b a) e).0
cell_answered s _ c a e = omega arith

no_cell : (r : ℕ) (o : Outcome) → leaves_undo o ≡ false → size (cell_in r o) ≡ 0
no_cell r (PutIn cell) e = absurd (cc (e))
no_cell r _ e = refl

pub cell_tells : Tells takes_cell cell_pends
cell_tells = record { follows = λ s t q b p e. cell_follows s b t q p e; first = refl; answered = cell_answered; undone = undone cell_in no_cell }

-- ---- entries
abbrev pub takes_entry : Block → ℕ
takes_entry b = size (entry_in b.region b.outcome)

abbrev pub entry_kept : Call → Answer → ℕ
entry_kept (Insert k v) AnswerOk = 1
entry_kept _ _ = 0

abbrev pub entry_pends : Progress → ℕ
entry_pends (Adding key v at region tried) = 0
entry_pends (Finished c a) = entry_kept c a
entry_pends _ = 0

entry_look : (s : Sizes) (key region looked r : ℕ) (o : Outcome) (p : Progress) → after_look s key region looked o ≡ Some p → entry_pends p ≡ size (entry_in r o)
entry_look s key region looked r (Found entry at) p e = let same : p ≡ Somewhere key region entry at = cc (e) in rw same refl
entry_look s key region looked r (Absent true) p e = go (nat_lt (looked + 1) s.index) e
  where
    go : (c : Bool) → Some (if c then Walking key (next_index s region) (looked + 1) else Nowhere key) ≡ Some p → entry_pends p ≡ 0
    go true f = let same : p ≡ Walking key (next_index s region) (looked + 1) = cc (f) in rw same refl
    go false f = let same : p ≡ Nowhere key = cc (f) in rw same refl
entry_look s key region looked r (Absent false) p e = let same : p ≡ Nowhere key = cc (e) in rw same refl
entry_look s key region looked r _ p e = absurd (cc (e))

entry_put : (s : Sizes) (key : ℕ) (v : List ℕ) (region tried r : ℕ) (o : Outcome) (p : Progress) → after_put s key v region tried o ≡ Some p → entry_pends p ≡ size (entry_in r o)
entry_put s key v region tried r (PutIn c) p e = let same : p ≡ Adding key v (place region c) (home s key) 0 = cc (e) in rw same refl
entry_put s key v region tried r NoCell p e = go (nat_lt (tried + 1) s.heap) e
  where
    go : (c : Bool) → Some (if c then Storing key v (next_heap s region) (tried + 1) else Finished (Insert key v) FullHeap) ≡ Some p → entry_pends p ≡ 0
    go true f = let same : p ≡ Storing key v (next_heap s region) (tried + 1) = cc (f) in rw same refl
    go false f = let same : p ≡ Finished (Insert key v) FullHeap = cc (f) in rw same refl
entry_put s key v region tried r _ p e = absurd (cc (e))

entry_add : (s : Sizes) (key : ℕ) (v : List ℕ) (at region tried r : ℕ) (o : Outcome) (p : Progress) → after_add s key v at region tried o ≡ Some p → entry_pends p ≡ size (entry_in r o) + 0
entry_add s key v at region tried r (Added entry) p e = let same : p ≡ Finished (Insert key v) AnswerOk = cc (e) in rw same refl
entry_add s key v at region tried r NoEntry p e = go (nat_lt (tried + 1) s.index) e
  where
    go : (c : Bool) → Some (if c then Adding key v at (next_index s region) (tried + 1) else Finished (Insert key v) FullIndex) ≡ Some p → entry_pends p ≡ 0
    go true f = let same : p ≡ Adding key v at (next_index s region) (tried + 1) = cc (f) in rw same refl
    go false f = let same : p ≡ Finished (Insert key v) FullIndex = cc (f) in rw same refl
entry_add s key v at region tried r _ p e = absurd (cc (e))

entry_read : (key at r : ℕ) (o : Outcome) (p : Progress) → after_read key at o ≡ Some p → entry_pends p ≡ size (entry_in r o)
entry_read key at r (Value v) p e = let same : p ≡ Finished (Get key) (Got v) = cc (e) in rw same refl
entry_read key at r (NotLive n) p e = let same : p ≡ Finished (Get key) (Odd at) = cc (e) in rw same refl
entry_read key at r (OtherKey n) p e = let same : p ≡ Finished (Get key) (Odd at) = cc (e) in rw same refl
entry_read key at r (OddLength n) p e = let same : p ≡ Finished (Get key) (Odd at) = cc (e) in rw same refl
entry_read key at r _ p e = absurd (cc (e))

entry_change : (key at : ℕ) (v : List ℕ) (r : ℕ) (o : Outcome) (p : Progress) → after_change key at v o ≡ Some p → entry_pends p ≡ size (entry_in r o)
entry_change key at v r Changed p e = let same : p ≡ Finished (Update key v) AnswerOk = cc (e) in rw same refl
entry_change key at v r (NotLive n) p e = let same : p ≡ Finished (Update key v) (Odd at) = cc (e) in rw same refl
entry_change key at v r (OtherKey n) p e = let same : p ≡ Finished (Update key v) (Odd at) = cc (e) in rw same refl
entry_change key at v r (OddLength n) p e = let same : p ≡ Finished (Update key v) (Odd at) = cc (e) in rw same refl
entry_change key at v r _ p e = absurd (cc (e))

entry_kill_cell : (key region entry at r : ℕ) (o : Outcome) (p : Progress) → after_kill_cell key region entry at o ≡ Some p → entry_pends p ≡ size (entry_in r o)
entry_kill_cell key region entry at r Killed p e = let same : p ≡ Removing key region entry at = cc (e) in rw same refl
entry_kill_cell key region entry at r (NotLive n) p e = let same : p ≡ Finished (Delete key) (Odd at) = cc (e) in rw same refl
entry_kill_cell key region entry at r (OtherKey n) p e = let same : p ≡ Finished (Delete key) (Odd at) = cc (e) in rw same refl
entry_kill_cell key region entry at r (OddLength n) p e = let same : p ≡ Finished (Delete key) (Odd at) = cc (e) in rw same refl
entry_kill_cell key region entry at r _ p e = absurd (cc (e))

entry_kill_entry : (key at r : ℕ) (o : Outcome) (p : Progress) → after_kill_entry key at o ≡ Some p → entry_pends p ≡ size (entry_in r o)
entry_kill_entry key at r Killed p e = let same : p ≡ Finished (Delete key) AnswerOk = cc (e) in rw same refl
entry_kill_entry key at r (NotLive n) p e = let same : p ≡ Finished (Delete key) (Odd at) = cc (e) in rw same refl
entry_kill_entry key at r (OtherKey n) p e = let same : p ≡ Finished (Delete key) (Odd at) = cc (e) in rw same refl
entry_kill_entry key at r _ p e = absurd (cc (e))

module _ (s : Sizes) (b : Block) where
  entry_looks : (key region looked : ℕ) (op : Op) (p : Progress) → look_next s key region looked b op ≡ Some p → entry_pends p ≡ takes_entry b + 0
  entry_looks key region looked Look p e = entry_look s key region looked b.region b.outcome p (when_some (on_item key region b) _ p e).1 ∙ omega arith
  entry_looks key region looked _ p e = absurd (cc (e))

  entry_puts : (key region tried : ℕ) (op : Op) (p : Progress) → put_next s key region tried b op ≡ Some p → entry_pends p ≡ takes_entry b + 0
  entry_puts key region tried (Put v) p e = entry_put s key v region tried b.region b.outcome p (when_some (on_item key region b) _ p e).1 ∙ omega arith
  entry_puts key region tried _ p e = absurd (cc (e))

  entry_stores : (key : ℕ) (v : List ℕ) (region tried : ℕ) (op : Op) (p : Progress) → store_next s key v region tried b op ≡ Some p → entry_pends p ≡ takes_entry b + 0
  entry_stores key v region tried (Put w) p e = entry_put s key v region tried b.region b.outcome p (when_some (on_item key region b && bytes_eq v w) _ p e).1 ∙ omega arith
  entry_stores key v region tried _ p e = absurd (cc (e))

  entry_adds : (key : ℕ) (v : List ℕ) (at region tried : ℕ) (op : Op) (p : Progress) → add_next s key v at region tried b op ≡ Some p → entry_pends p ≡ takes_entry b + 0
  entry_adds key v at region tried (Add q) p e = entry_add s key v at region tried b.region b.outcome p (when_some (on_item key region b && (q == at)) _ p e).1
  entry_adds key v at region tried _ p e = absurd (cc (e))

  entry_cells : (key region entry at : ℕ) (op : Op) (p : Progress) → cell_next s key region entry at b op ≡ Some p → entry_pends p ≡ takes_entry b + 0
  entry_cells key region entry at (Read c) p e = entry_read key at b.region b.outcome p (when_some _ _ p e).1 ∙ omega arith
  entry_cells key region entry at (Change c v) p e = entry_change key at v b.region b.outcome p (when_some _ _ p e).1 ∙ omega arith
  entry_cells key region entry at (KillCell c) p e = entry_kill_cell key region entry at b.region b.outcome p (when_some _ _ p e).1 ∙ omega arith
  entry_cells key region entry at _ p e = absurd (cc (e))

  entry_entries : (key region entry at : ℕ) (op : Op) (p : Progress) → entry_next key region entry at b op ≡ Some p → entry_pends p ≡ takes_entry b + 0
  entry_entries key region entry at (KillEntry f) p e = entry_kill_entry key at b.region b.outcome p (when_some _ _ p e).1 ∙ omega arith
  entry_entries key region entry at _ p e = absurd (cc (e))

  entry_follows : (t : ℕ) (q p : Progress) → follow s t q b ≡ Some p → entry_pends p ≡ takes_entry b + entry_pends q
  entry_follows t Fresh p e = entry_looks b.key (home s b.key) 0 b.op p e
  entry_follows t (Walking key region looked) p e = entry_looks key region looked b.op p e
  entry_follows t (Nowhere key) p e = entry_puts key (heap_start s t) 0 b.op p e
  entry_follows t (Somewhere key region entry at) p e = entry_cells key region entry at b.op p e
  entry_follows t (Storing key v region tried) p e = entry_stores key v region tried b.op p e
  entry_follows t (Adding key v at region tried) p e = entry_adds key v at region tried b.op p e
  entry_follows t (Removing key region entry at) p e = entry_entries key region entry at b.op p e
  entry_follows t (Finished c a) p e = absurd (cc (e))

entry_few : (k : ℕ) (v : List ℕ) (a : Answer) → entry_kept (Insert k v) a ≤ 1
entry_few k v AnswerOk = omega arith
entry_few k v _ = omega arith

entry_call : (d c : Call) (a : Answer) → same_call d c ≡ true → entry_kept d a ≤ one_if (is_insert c)
entry_call (Insert k v) (Insert l w) a e = entry_few k v a
entry_call (Insert k v) (Update l w) a e = absurd (cc (e))
entry_call (Insert k v) (Delete l) a e = absurd (cc (e))
entry_call (Insert k v) (Get l) a e = absurd (cc (e))
entry_call (Update k v) c a e = omega arith
entry_call (Delete k) c a e = omega arith
entry_call (Get k) c a e = omega arith

entry_answered : (s : Sizes) (p : Progress) (c : Call) (a : Answer) → answers s p c a ≡ true → entry_pends p ≤ one_if (is_insert c)
entry_answered s (Adding key v at region tried) c a e = absurd (cc (e))
entry_answered s (Finished d b) c a e = entry_call d c b (and_parts (same_call d c) (same_answer b a) e).0
entry_answered s _ c a e = omega arith

no_entry : (r : ℕ) (o : Outcome) → leaves_undo o ≡ false → size (entry_in r o) ≡ 0
no_entry r (Added entry) e = absurd (cc (e))
no_entry r _ e = refl

pub entry_tells : Tells takes_entry entry_pends
entry_tells = record { follows = λ s t q b p e. entry_follows s b t q p e; first = refl; answered = entry_answered; undone = undone entry_in no_entry }
