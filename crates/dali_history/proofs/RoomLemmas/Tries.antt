-- The regions that a call has tried in vain, in a circle.
--     Turn n a i x                        x is i steps after a in a circle of n
--     Tries n low Full region tried       so many regions were tried from some place on, each of them full, and this one is next
--     IsFullHeap r J, IsFullIndex r J     each cell, each entry of region r was taken
--     Seen s J p                          what a call knows of full regions that has come to p
use Rattle.std.proofs.Common.{◌≡◌, ℕ, ◌+◌, ◌-◌, ◌<◌, ◌≤◌, Bool, true, false, List, [], ◌∷◌, ◌++◌, Some, refl, ap, sym, subst, ◌∙◌, ◌⊎◌, inl, inr, ⊎_elim, ◌≢◌, arith}
use Rattle.std.specs.Prelude.{◌%◌, ◌==◌, ◌&&◌, ⊤, if◌then◌else◌, nat_lt, bytes_eq, Contains}
use Rattle.std.proofs.lemmas.Bool.{and_parts, ltb-true, ltb-false}
use Rattle.std.proofs.lemmas.Bool.Decides.{eqb_tells}
use Rattle.std.proofs.lemmas.List.Elements.{Contains-append_left, filter_map-append}
use Rattle.dali_geometry.specs.Sizes.{Sizes}
use Rattle.dali_geometry.specs.Places.{home, next_index, heap_start, next_heap, place, regions}
use Rattle.dali_record.specs.declared.operations.Op.{Op}
use Rattle.dali_record.specs.declared.operations.Op.TheVariants.{Look, Add, KillEntry, Put, Read, Change, KillCell}
use Rattle.dali_record.specs.declared.operations.Outcome.{Outcome}
use Rattle.dali_record.specs.declared.operations.Outcome.TheVariants.{Found, Absent, Added, NoEntry, Killed, Put as PutIn, NoCell, Value, Changed, NotLive, OtherKey, OddLength}
use Rattle.dali_record.specs.declared.operations.Block.{Block}
use Rattle.dali_record.specs.declared.records.Call.TheVariants.{Insert, Update, Delete, Get}
use Rattle.dali_record.specs.declared.records.Answer.{Answer}
use Rattle.dali_record.specs.declared.records.Answer.TheVariants.{Ok as AnswerOk, Got, FullHeap, FullIndex, Odd}
use Rattle.dali_record.specs.declared.records.Record.{Record}
use Rattle.dali_record.specs.Calls.{Progress, Fresh, Walking, Nowhere, Somewhere, Storing, Adding, Removing, Finished, after_look, after_put, after_add, after_read, after_change, after_kill_cell, after_kill_entry, look_next, put_next, store_next, add_next, cell_next, entry_next, follow, on_item}
use Rattle.dali_history.proofs.SlotsLemmas.CallProgress.{when_some, on_item_is}
use Rattle.dali_history.specs.Room.Room.{cells_taken, entries_taken, cell_by, entry_by}

-- ---- a circle
abbrev pub Turn : (n a i x : ℕ) → Type 0
Turn n a i x = (x < n) × ((x ≡ a + i) ⊎ (x + n ≡ a + i))

turn_same : (n a i x y : ℕ) → Turn n a i x → Turn n a i y → x ≡ y
turn_same n a i x y (p, inl e) (q, inl f) = omega arith
turn_same n a i x y (p, inl e) (q, inr f) = absurd (omega arith)
turn_same n a i x y (p, inr e) (q, inl f) = absurd (omega arith)
turn_same n a i x y (p, inr e) (q, inr f) = omega arith

turn_next : (n a i x : ℕ) → a < n → i + 1 < n → Turn n a i x → x + 1 ≢ n → Turn n a (i + 1) (x + 1)
turn_next n a i x low few (p, inl e) other = (omega (arith, other), inl (omega arith))
turn_next n a i x low few (p, inr e) other = (omega (arith, other), inr (omega arith))

turn_over : (n a i x : ℕ) → a < n → i + 1 < n → Turn n a i x → x + 1 ≡ n → Turn n a (i + 1) 0
turn_over n a i x low few (p, inl e) same = (omega arith, inr (omega arith))
turn_over n a i x low few (p, inr e) same = absurd (omega arith)

-- each comes
turn_each : (n a x : ℕ) → a < n → x < n → (i : ℕ) × (i < n) × Turn n a i x
turn_each n a x low below = ⊎_elim (λ h. (x - a, omega (arith, h), (below, inl (omega (arith, h))))) (λ h. (x + n - a, omega (arith, h), (below, inr (omega (arith, h))))) (split a x)
  where
    split : (a x : ℕ) → (a ≤ x) ⊎ (x < a)
    split a x = grind arith

-- ---- the regions of one kind, from low on
pub record Tries (n low : ℕ) (Full : ℕ → Type 0) (region tried : ℕ) : Type 0 where
  pub start : ℕ
  pub step : ℕ
  pub starts : start < n
  pub few : tried < n
  pub turn : Turn n start tried step
  pub region_is : region ≡ low + step
  pub full : (i x : ℕ) → i < tried → Turn n start i x → Full (low + x)

pub first_try : (n low a : ℕ) (Full : ℕ → Type 0) (region : ℕ) → a < n → region ≡ low + a → Tries n low Full region 0
first_try n low a Full region h e = record { start = a; step = a; starts = h; few = omega (arith, h); turn = (h, inl (omega arith)); region_is = e; full = λ i x l t. absurd (omega (arith, l)) }

tried_full : (n low : ℕ) (Full : ℕ → Type 0) (region tried : ℕ) (h : Tries n low Full region tried) → Full region → (i x : ℕ) → i < tried + 1 → Turn n h.start i x → Full (low + x)
tried_full n low Full region tried h f i x l t = ⊎_elim (λ a. h.full i x a t) (λ a. subst Full (same a) f) (split i tried l)
  where
    split : (i m : ℕ) → i < m + 1 → (i < m) ⊎ (i ≡ m)
    split i m l = grind arith

    same : i ≡ tried → region ≡ low + x
    same a = h.region_is ∙ ap (λ z. low + z) (turn_same n h.start tried h.step x h.turn (subst (λ z. Turn n h.start z x) a t))

pub next_try :
    (n low stop first : ℕ) (Full : ℕ → Type 0) (region tried : ℕ) → stop ≡ low + n → first ≡ low → Tries n low Full region tried → Full region → tried + 1 < n
    → Tries n low Full (if region + 1 == stop then first else region + 1) (tried + 1)
next_try n low stop first Full region tried ends begins h f few = by_end (eqb_tells (region + 1) stop)
  where
    by_end : (((region + 1 == stop) ≡ true) × (region + 1 ≡ stop)) ⊎ (((region + 1 == stop) ≡ false) × (region + 1 ≢ stop)) → Tries n low Full (if region + 1 == stop then first else region + 1) (tried + 1)
    by_end (inl a) = rw (a.0) (record { start = h.start; step = 0; starts = h.starts; few = few; turn = turn_over n h.start tried h.step h.starts few h.turn (omega (arith, a.1, ends, h.region_is)); region_is = omega (arith, begins); full = tried_full n low Full region tried h f })
    by_end (inr a) = rw (a.0) (record { start = h.start; step = h.step + 1; starts = h.starts; few = few; turn = turn_next n h.start tried h.step h.starts few h.turn (λ e. a.1 (omega (arith, e, ends, h.region_is))); region_is = omega (arith, h.region_is); full = tried_full n low Full region tried h f })

-- behind the last
pub all_tried : (n low : ℕ) (Full : ℕ → Type 0) (region tried : ℕ) → Tries n low Full region tried → Full region → n ≤ tried + 1 → (x : ℕ) → x < n → Full (low + x)
all_tried n low Full region tried h f many x below = let t = turn_each n h.start x h.starts below in tried_full n low Full region tried h f t.0 x (omega (arith, t.1)) t.2

pub tries_more : (n low : ℕ) (Full More : ℕ → Type 0) (region tried : ℕ) → ((r : ℕ) → Full r → More r) → Tries n low Full region tried → Tries n low More region tried
tries_more n low Full More region tried up h = record { start = h.start; step = h.step; starts = h.starts; few = h.few; turn = h.turn; region_is = h.region_is; full = λ i x l t. up (low + x) (h.full i x l t) }

-- ---- full regions
abbrev pub IsFullHeap : ℕ → List Record → Type 0
IsFullHeap r J = (c : ℕ) → 1 ≤ c → c ≤ 7 → Contains (cells_taken J) (r, c)

abbrev pub IsFullIndex : ℕ → List Record → Type 0
IsFullIndex r J = (e : ℕ) → e ≤ 20 → Contains (entries_taken J) (r, e)

pub cells_more : (J : List Record) (x : Record) (p : ℕ × ℕ) → Contains (cells_taken J) p → Contains (cells_taken (J ++ x ∷ [])) p
cells_more J x p h = subst (λ ps. Contains ps p) (sym (filter_map-append cell_by J (x ∷ []))) (Contains-append_left (cells_taken J) (cells_taken (x ∷ [])) p h)

pub entries_more : (J : List Record) (x : Record) (p : ℕ × ℕ) → Contains (entries_taken J) p → Contains (entries_taken (J ++ x ∷ [])) p
entries_more J x p h = subst (λ ps. Contains ps p) (sym (filter_map-append entry_by J (x ∷ []))) (Contains-append_left (entries_taken J) (entries_taken (x ∷ [])) p h)

pub full_heap_more : (J : List Record) (x : Record) (r : ℕ) → IsFullHeap r J → IsFullHeap r (J ++ x ∷ [])
full_heap_more J x r h c a b = cells_more J x (r, c) (h c a b)

pub full_index_more : (J : List Record) (x : Record) (r : ℕ) → IsFullIndex r J → IsFullIndex r (J ++ x ∷ [])
full_index_more J x r h e a = entries_more J x (r, e) (h e a)

-- ---- what a call knows
abbrev pub AllHeap : Sizes → List Record → Type 0
AllHeap s J = (x : ℕ) → x < s.heap → IsFullHeap (s.index + x) J

abbrev pub AllIndex : Sizes → List Record → Type 0
AllIndex s J = (x : ℕ) → x < s.index → IsFullIndex (0 + x) J

abbrev pub Told : Sizes → List Record → Answer → Type 0
Told s J FullHeap = AllHeap s J
Told s J FullIndex = AllIndex s J
Told s J _ = ⊤

abbrev pub Seen : Sizes → List Record → Progress → Type 0
Seen s J (Storing key v region tried) = Tries s.heap s.index (λ r. IsFullHeap r J) region tried
Seen s J (Adding key v at region tried) = Tries s.index 0 (λ r. IsFullIndex r J) region tried
Seen s J (Finished c a) = Told s J a
Seen s J _ = ⊤

pub told_more : (s : Sizes) (J : List Record) (x : Record) (a : Answer) → Told s J a → Told s (J ++ x ∷ []) a
told_more s J x FullHeap h = λ r b. full_heap_more J x (s.index + r) (h r b)
told_more s J x FullIndex h = λ r b. full_index_more J x (0 + r) (h r b)
told_more s J x _ h = tt

pub seen_more : (s : Sizes) (J : List Record) (x : Record) (p : Progress) → Seen s J p → Seen s (J ++ x ∷ []) p
seen_more s J x (Storing key v region tried) h = tries_more s.heap s.index (λ r. IsFullHeap r J) (λ r. IsFullHeap r (J ++ x ∷ [])) region tried (full_heap_more J x) h
seen_more s J x (Adding key v at region tried) h = tries_more s.index 0 (λ r. IsFullIndex r J) (λ r. IsFullIndex r (J ++ x ∷ [])) region tried (full_index_more J x) h
seen_more s J x (Finished c a) h = told_more s J x a h
seen_more s J x _ h = tt

-- a block that found no room stands for a full region
pub record Finds (J : List Record) (b : Block) : Type 0 where
  pub heap : (v : List ℕ) → b.op ≡ Put v → b.outcome ≡ NoCell → IsFullHeap b.region J
  pub index : (p : ℕ) → b.op ≡ Add p → b.outcome ≡ NoEntry → IsFullIndex b.region J

module _ (s : Sizes) (J : List Record) (some_index : 0 < s.index) (some_heap : 0 < s.heap) where
  look_seen : (key region looked : ℕ) (o : Outcome) (p : Progress) → after_look s key region looked o ≡ Some p → Seen s J p
  look_seen key region looked (Found entry at) p e = let same : p ≡ Somewhere key region entry at = cc (e) in rw same tt
  look_seen key region looked (Absent true) p e = go (nat_lt (looked + 1) s.index) e
    where
      go : (c : Bool) → Some (if c then Walking key (next_index s region) (looked + 1) else Nowhere key) ≡ Some p → Seen s J p
      go true f = let same : p ≡ Walking key (next_index s region) (looked + 1) = cc (f) in rw same tt
      go false f = let same : p ≡ Nowhere key = cc (f) in rw same tt
  look_seen key region looked (Absent false) p e = let same : p ≡ Nowhere key = cc (e) in rw same tt
  look_seen key region looked _ p e = absurd (cc (e))

  first_index : (key : ℕ) → Tries s.index 0 (λ r. IsFullIndex r J) (home s key) 0
  first_index key = first_try s.index 0 (home s key) (λ r. IsFullIndex r J) (home s key) (omega (arith, some_index)) (omega arith)

  first_heap : (t : ℕ) → Tries s.heap s.index (λ r. IsFullHeap r J) (heap_start s t) 0
  first_heap t = first_try s.heap s.index (t % s.heap) (λ r. IsFullHeap r J) (heap_start s t) (omega (arith, some_heap)) refl

  put_seen :
      (key : ℕ) (v : List ℕ) (region tried : ℕ) (o : Outcome) (p : Progress) → (o ≡ NoCell → IsFullHeap region J) → Tries s.heap s.index (λ r. IsFullHeap r J) region tried
      → after_put s key v region tried o ≡ Some p → Seen s J p
  put_seen key v region tried (PutIn c) p full h e = let same : p ≡ Adding key v (place region c) (home s key) 0 = cc (e) in rw same (first_index key)
  put_seen key v region tried NoCell p full h e = go (nat_lt (tried + 1) s.heap) refl e
    where
      go : (c : Bool) → nat_lt (tried + 1) s.heap ≡ c → Some (if c then Storing key v (next_heap s region) (tried + 1) else Finished (Insert key v) FullHeap) ≡ Some p → Seen s J p
      go true l f = let same : p ≡ Storing key v (next_heap s region) (tried + 1) = cc (f) in rw same (next_try s.heap s.index (regions s) s.index (λ r. IsFullHeap r J) region tried refl refl h (full refl) (ltb-true (tried + 1) s.heap l))
      go false l f = let same : p ≡ Finished (Insert key v) FullHeap = cc (f) in rw same (all_tried s.heap s.index (λ r. IsFullHeap r J) region tried h (full refl) (ltb-false (tried + 1) s.heap l))
  put_seen key v region tried _ p full h e = absurd (cc (e))

  add_seen :
      (key : ℕ) (v : List ℕ) (at region tried : ℕ) (o : Outcome) (p : Progress) → (o ≡ NoEntry → IsFullIndex region J) → Tries s.index 0 (λ r. IsFullIndex r J) region tried
      → after_add s key v at region tried o ≡ Some p → Seen s J p
  add_seen key v at region tried (Added entry) p full h e = let same : p ≡ Finished (Insert key v) AnswerOk = cc (e) in rw same tt
  add_seen key v at region tried NoEntry p full h e = go (nat_lt (tried + 1) s.index) refl e
    where
      ends : s.index ≡ 0 + s.index
      ends = omega arith

      go : (c : Bool) → nat_lt (tried + 1) s.index ≡ c → Some (if c then Adding key v at (next_index s region) (tried + 1) else Finished (Insert key v) FullIndex) ≡ Some p → Seen s J p
      go true l f = let same : p ≡ Adding key v at (next_index s region) (tried + 1) = cc (f) in rw same (next_try s.index 0 s.index 0 (λ r. IsFullIndex r J) region tried ends refl h (full refl) (ltb-true (tried + 1) s.index l))
      go false l f = let same : p ≡ Finished (Insert key v) FullIndex = cc (f) in rw same (all_tried s.index 0 (λ r. IsFullIndex r J) region tried h (full refl) (ltb-false (tried + 1) s.index l))
  add_seen key v at region tried _ p full h e = absurd (cc (e))

  read_seen : (key at : ℕ) (o : Outcome) (p : Progress) → after_read key at o ≡ Some p → Seen s J p
  read_seen key at (Value v) p e = let same : p ≡ Finished (Get key) (Got v) = cc (e) in rw same tt
  read_seen key at (NotLive n) p e = let same : p ≡ Finished (Get key) (Odd at) = cc (e) in rw same tt
  read_seen key at (OtherKey n) p e = let same : p ≡ Finished (Get key) (Odd at) = cc (e) in rw same tt
  read_seen key at (OddLength n) p e = let same : p ≡ Finished (Get key) (Odd at) = cc (e) in rw same tt
  read_seen key at _ p e = absurd (cc (e))

  change_seen : (key at : ℕ) (v : List ℕ) (o : Outcome) (p : Progress) → after_change key at v o ≡ Some p → Seen s J p
  change_seen key at v Changed p e = let same : p ≡ Finished (Update key v) AnswerOk = cc (e) in rw same tt
  change_seen key at v (NotLive n) p e = let same : p ≡ Finished (Update key v) (Odd at) = cc (e) in rw same tt
  change_seen key at v (OtherKey n) p e = let same : p ≡ Finished (Update key v) (Odd at) = cc (e) in rw same tt
  change_seen key at v (OddLength n) p e = let same : p ≡ Finished (Update key v) (Odd at) = cc (e) in rw same tt
  change_seen key at v _ p e = absurd (cc (e))

  kill_cell_seen : (key region entry at : ℕ) (o : Outcome) (p : Progress) → after_kill_cell key region entry at o ≡ Some p → Seen s J p
  kill_cell_seen key region entry at Killed p e = let same : p ≡ Removing key region entry at = cc (e) in rw same tt
  kill_cell_seen key region entry at (NotLive n) p e = let same : p ≡ Finished (Delete key) (Odd at) = cc (e) in rw same tt
  kill_cell_seen key region entry at (OtherKey n) p e = let same : p ≡ Finished (Delete key) (Odd at) = cc (e) in rw same tt
  kill_cell_seen key region entry at (OddLength n) p e = let same : p ≡ Finished (Delete key) (Odd at) = cc (e) in rw same tt
  kill_cell_seen key region entry at _ p e = absurd (cc (e))

  kill_entry_seen : (key at : ℕ) (o : Outcome) (p : Progress) → after_kill_entry key at o ≡ Some p → Seen s J p
  kill_entry_seen key at Killed p e = let same : p ≡ Finished (Delete key) AnswerOk = cc (e) in rw same tt
  kill_entry_seen key at (NotLive n) p e = let same : p ≡ Finished (Delete key) (Odd at) = cc (e) in rw same tt
  kill_entry_seen key at (OtherKey n) p e = let same : p ≡ Finished (Delete key) (Odd at) = cc (e) in rw same tt
  kill_entry_seen key at _ p e = absurd (cc (e))

  -- ---- the next operation
  module _ (b : Block) (finds : Finds J b) where
    look_goes : (key region looked : ℕ) (op : Op) (p : Progress) → look_next s key region looked b op ≡ Some p → Seen s J p
    look_goes key region looked Look p e = look_seen key region looked b.outcome p (when_some (on_item key region b) _ p e).1
    look_goes key region looked _ p e = absurd (cc (e))

    put_goes : (key region tried : ℕ) (op : Op) (p : Progress) → b.op ≡ op → Tries s.heap s.index (λ r. IsFullHeap r J) region tried → put_next s key region tried b op ≡ Some p → Seen s J p
    put_goes key region tried (Put v) p o h e =
        let x = when_some (on_item key region b) _ p e in
        let y = on_item_is key region b x.0 in
        put_seen key v region tried b.outcome p (λ n. subst (λ r. IsFullHeap r J) y.1 (finds.heap v o n)) h x.1
    put_goes key region tried _ p o h e = absurd (cc (e))

    store_goes : (key : ℕ) (v : List ℕ) (region tried : ℕ) (op : Op) (p : Progress) → b.op ≡ op → Tries s.heap s.index (λ r. IsFullHeap r J) region tried → store_next s key v region tried b op ≡ Some p → Seen s J p
    store_goes key v region tried (Put w) p o h e =
        let x = when_some (on_item key region b && bytes_eq v w) _ p e in
        let y = on_item_is key region b (and_parts (on_item key region b) _ x.0).0 in
        put_seen key v region tried b.outcome p (λ n. subst (λ r. IsFullHeap r J) y.1 (finds.heap w o n)) h x.1
    store_goes key v region tried _ p o h e = absurd (cc (e))

    add_goes : (key : ℕ) (v : List ℕ) (at region tried : ℕ) (op : Op) (p : Progress) → b.op ≡ op → Tries s.index 0 (λ r. IsFullIndex r J) region tried → add_next s key v at region tried b op ≡ Some p → Seen s J p
    add_goes key v at region tried (Add q) p o h e =
        let x = when_some (on_item key region b && (q == at)) _ p e in
        let y = on_item_is key region b (and_parts (on_item key region b) _ x.0).0 in
        add_seen key v at region tried b.outcome p (λ n. subst (λ r. IsFullIndex r J) y.1 (finds.index q o n)) h x.1
    add_goes key v at region tried _ p o h e = absurd (cc (e))

    cell_goes : (key region entry at : ℕ) (op : Op) (p : Progress) → cell_next s key region entry at b op ≡ Some p → Seen s J p
    cell_goes key region entry at (Read c) p e = read_seen key at b.outcome p (when_some _ _ p e).1
    cell_goes key region entry at (Change c v) p e = change_seen key at v b.outcome p (when_some _ _ p e).1
    cell_goes key region entry at (KillCell c) p e = kill_cell_seen key region entry at b.outcome p (when_some _ _ p e).1
    cell_goes key region entry at _ p e = absurd (cc (e))

    entry_goes : (key region entry at : ℕ) (op : Op) (p : Progress) → entry_next key region entry at b op ≡ Some p → Seen s J p
    entry_goes key region entry at (KillEntry f) p e = kill_entry_seen key at b.outcome p (when_some _ _ p e).1
    entry_goes key region entry at _ p e = absurd (cc (e))

    pub follow_seen : (t : ℕ) (q p : Progress) → Seen s J q → follow s t q b ≡ Some p → Seen s J p
    follow_seen t Fresh p h e = look_goes b.key (home s b.key) 0 b.op p e
    follow_seen t (Walking key region looked) p h e = look_goes key region looked b.op p e
    follow_seen t (Nowhere key) p h e = put_goes key (heap_start s t) 0 b.op p refl (first_heap t) e
    follow_seen t (Somewhere key region entry at) p h e = cell_goes key region entry at b.op p e
    follow_seen t (Storing key v region tried) p h e = store_goes key v region tried b.op p refl h e
    follow_seen t (Adding key v at region tried) p h e = add_goes key v at region tried b.op p refl h e
    follow_seen t (Removing key region entry at) p h e = entry_goes key region entry at b.op p e
    follow_seen t (Finished c a) p h e = absurd (cc (e))
