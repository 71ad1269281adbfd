-- How far a call has come, by the slots of its key.
--     Own s F k P R v p       a call on k has come to p: its key's slots are P, those before it R, and they stood for v
use Rattle.std.proofs.Common.{◌≡◌, ℕ, zero, suc, ◌+◌, ◌<◌, ◌≤◌, Bool, true, false, List, [], ◌∷◌, length, Option, Some, None, refl, ap, sym, subst, ◌∙◌, ◌⊎◌, inl, inr, ⊎_elim, ◌≢◌, arith}
use Rattle.std.specs.Prelude.{◌==◌, if◌then◌else◌, nat_le, nat_lt, bytes_eq, ⊤}
use Rattle.std.proofs.lemmas.Bool.Decides.{eqb_tells, nat_tests}
use Rattle.std.proofs.lemmas.Bool.{eqb-true, and_parts, ltb-true}
use Rattle.std.proofs.lemmas.Slice.Eq.{bytes_eq-Decides}
use Rattle.dali_words.specs.Values.{packed, unpacked, is_size, IsValue}
use Rattle.dali_geometry.specs.Sizes.{Sizes}
use Rattle.dali_geometry.specs.Places.{is_heap, is_place, region_at, cell_at, place, home, next_index, next_heap}
use Rattle.dali_record.specs.declared.operations.Op.TheVariants.{Add, KillEntry, Put, Read, Change, KillCell}
use Rattle.dali_record.specs.declared.operations.Outcome.{Outcome}
use Rattle.dali_record.specs.declared.operations.Outcome.TheVariants.{Found, Absent, Killed, Value, Changed}
use Rattle.dali_record.specs.declared.operations.Undo.{Undo}
use Rattle.dali_record.specs.declared.operations.Undo.TheVariants.{ReviveCell as UndoReviveCell, Restore as UndoRestore}
use Rattle.dali_record.specs.declared.operations.Block.{Block}
use Rattle.dali_record.specs.declared.records.Call.TheVariants.{Insert, Update, Delete, Get}
use Rattle.dali_record.specs.declared.records.Answer.TheVariants.{Ok as AnswerOk, Got, FullHeap, FullIndex}
use Rattle.dali_record.specs.Calls.{Progress, Fresh, Walking, Nowhere, Somewhere, Storing, Adding, Removing, Finished, after_look, after_put, after_add, after_read, after_change, after_kill_cell, after_kill_entry, when, on_item, takes_back}
use Rattle.dali_history.specs.Serial.{value_after, call_key}
use Rattle.dali_access.proofs.IndexLemmas.Worlds.{World, Flags, put_at, raise}
use Rattle.dali_history.proofs.SlotsLemmas.BlockOnSlots.{Does, IsLive, Stay}
use Rattle.dali_access.proofs.IndexLemmas.Parts.{Part, put_part, put_part-other, put_part-cases, put_at-own}
use Rattle.dali_history.proofs.SlotsLemmas.SlotSteps.{raise_rises, raised-same}
use Rattle.dali_access.proofs.IndexLemmas.Reaches.{walk, Raised}
use Rattle.dali_history.proofs.SlotsLemmas.ValueSlots.{Reached, Lives, Stands, lives_entry, stands_changed, stands_removed, stands_inserted}
use Rattle.dali_words.proofs.Bytes.{unpacked-packed}
use Rattle.dali_access.proofs.IndexLemmas.Gaps.{place_heap}

abbrev pub NoEntryIn : Part → ℕ → Type 0
NoEntryIn P r = (i p : ℕ) → P r i ≢ 1 ∷ p ∷ []

abbrev pub Own : Sizes → Flags → ℕ → Part → Part → Option (List ℕ) → Progress → Type 0
Own s F k P R v Fresh = P ≡ R
Own s F k P R v (Walking key region looked) = (P ≡ R) × (looked < s.index) × (region ≡ walk s looked (home s k)) × ((m : ℕ) → m < looked → NoEntryIn R (walk s m (home s k)))
Own s F k P R v (Nowhere key) = (P ≡ R) × (v ≡ None)
Own s F k P R v (Somewhere key region entry at) = (P ≡ R) × (region < s.index) × (R region entry ≡ 1 ∷ at ∷ [])
Own s F k P R v (Storing key w region tried) = (P ≡ R) × (v ≡ None) × IsValue w
Own s F k P R v (Adding key w at region tried) = (v ≡ None) × IsValue w × (is_place s at ≡ true) × (P ≡ put_part R (region_at at) (cell_at at) (1 ∷ length w ∷ packed w)) × (tried < s.index) × (region ≡ walk s tried (home s k)) × Raised s F k tried
Own s F k P R v (Removing key region entry at) = (n : ℕ) × (ws : List ℕ) × (region < s.index) × (R region entry ≡ 1 ∷ at ∷ []) × (is_place s at ≡ true) × (P ≡ put_part R (region_at at) (cell_at at) (2 ∷ n ∷ ws))
Own s F k P R v (Finished c a) = (w : Option (List ℕ)) × (value_after v c a ≡ Some w) × (takes_back a ≡ true → w ≡ v) × (takes_back a ≡ false → Stands s P w × Reached s F k P)

-- the key of a call
abbrev pub IsOn : ℕ → Progress → Type 0
IsOn k Fresh = ⊤
IsOn k (Walking key region looked) = key ≡ k
IsOn k (Nowhere key) = key ≡ k
IsOn k (Somewhere key region entry at) = key ≡ k
IsOn k (Storing key w region tried) = key ≡ k
IsOn k (Adding key w at region tried) = key ≡ k
IsOn k (Removing key region entry at) = key ≡ k
IsOn k (Finished c a) = call_key c ≡ k

-- ---- tests
pub when_some : (b : Bool) (o : Option Progress) (p : Progress) → when b o ≡ Some p → (b ≡ true) × (o ≡ Some p)
when_some true o p h = (refl, h)
when_some false o p h = absurd (cc (h))

pub on_item_is : (key region : ℕ) (b : Block) → on_item key region b ≡ true → (b.key ≡ key) × (b.region ≡ region)
on_item_is key region b h = let x = and_parts (b.key == key) (b.region == region) h in (eqb-true b.key key x.0, eqb-true b.region region x.1)

-- ---- the walk
pub walk_below : (s : Sizes) (n r : ℕ) → r < s.index → walk s n r < s.index
walk_below s zero r h = h
walk_below s (suc n) r h = by_end (eqb_tells (walk s n r + 1) s.index) (walk_below s n r h)
  where
    by_end : (((walk s n r + 1 == s.index) ≡ true) × (walk s n r + 1 ≡ s.index)) ⊎ (((walk s n r + 1 == s.index) ≡ false) × (walk s n r + 1 ≢ s.index)) → walk s n r < s.index → walk s (suc n) r < s.index
    by_end (inl a) b = rw (a.0) (omega arith)
    by_end (inr a) b = rw (a.0) (omega (arith, a.1))

pub home_below : (s : Sizes) (k : ℕ) → 0 < s.index → home s k < s.index
home_below s k h = omega arith

-- where no region that is reached has a live entry, the slots stand for nothing
none_left : (s : Sizes) (F : Flags) (k : ℕ) (R : Part) (v : Option (List ℕ)) → Stands s R v → Reached s F k R → ((n : ℕ) → n < s.index → Raised s F k n → NoEntryIn R (walk s n (home s k))) → v ≡ None
none_left s F k R None h reached none = refl
none_left s F k R (Some w) h reached none =
    let there = reached h.region h.slot 1 (h.at ∷ []) h.in_index h.entry in
    absurd (none there.0 there.1 there.3 h.slot h.at (subst (λ x. R x h.slot ≡ 1 ∷ h.at ∷ []) (sym there.2) h.entry))

-- a look in the next region of the walk
pub own_look :
    (s : Sizes) (F : Flags) (k : ℕ) (R : Part) (v : Option (List ℕ)) (looked : ℕ) (o : Outcome) (p : Progress)
    → Stands s R v → Reached s F k R → looked < s.index → ((m : ℕ) → m < looked → NoEntryIn R (walk s m (home s k))) → 0 < s.index
    → ((i at : ℕ) × (o ≡ Found i at) × (i < 21) × (R (walk s looked (home s k)) i ≡ 1 ∷ at ∷ [])) ⊎ ((o ≡ Absent (F (walk s looked (home s k)))) × NoEntryIn R (walk s looked (home s k)))
    → after_look s k (walk s looked (home s k)) looked o ≡ Some p → Own s F k R R v p × IsOn k p
own_look s F k R v looked o p stands reached below none some (inl h) e =
    let same : p ≡ Somewhere k (walk s looked (home s k)) h.0 h.1 = let x = rw (h.2) at e in cc (x) in
    rw same ((refl, walk_below s looked (home s k) (home_below s k some), h.4), refl)
own_look s F k R v looked o p stands reached below none some (inr h) e = go (F (walk s looked (home s k))) refl (rw (h.0) at e)
  where
    -- all regions so far
    so_far : (m : ℕ) → m < suc looked → NoEntryIn R (walk s m (home s k))
    so_far m b = ⊎_elim (λ l. none m l) (λ l. rw l (h.1)) (split m b)
      where
        split : (m : ℕ) → m < suc looked → (m < looked) ⊎ (m ≡ looked)
        split m b = grind arith

    go : (f : Bool) → F (walk s looked (home s k)) ≡ f → after_look s k (walk s looked (home s k)) looked (Absent (F (walk s looked (home s k)))) ≡ Some p → Own s F k R R v p × IsOn k p
    go true g e = by_count (nat_lt (looked + 1) s.index) refl (rw g at e)
      where
        by_count : (c : Bool) → nat_lt (looked + 1) s.index ≡ c → Some (if nat_lt (looked + 1) s.index then Walking k (next_index s (walk s looked (home s k))) (looked + 1) else Nowhere k) ≡ Some p → Own s F k R R v p × IsOn k p
        by_count true l x =
            let y : Some (Walking k (next_index s (walk s looked (home s k))) (looked + 1)) ≡ Some p = rw l at x in
            let same : p ≡ Walking k (next_index s (walk s looked (home s k))) (looked + 1) = cc (y) in
            rw same ((refl, less (looked + 1) s.index l, ap (λ z. walk s z (home s k)) one, λ m b. so_far m (omega arith)), refl)
          where
            less : (a b : ℕ) → nat_lt a b ≡ true → a < b
            less a b z = grind (arith, nat_tests)

            one : suc looked ≡ looked + 1
            one = omega arith
        by_count false l x =
            let y : Some (Nowhere k) ≡ Some p = rw l at x in
            let same : p ≡ Nowhere k = cc (y) in
            let all : s.index ≤ looked + 1 = more (looked + 1) s.index l in
            rw same ((refl, none_left s F k R v stands reached (λ n b r. so_far n (omega arith))), refl)
          where
            more : (a b : ℕ) → nat_lt a b ≡ false → b ≤ a
            more a b z = grind (arith, nat_tests)
    go false g e =
        let y : Some (Nowhere k) ≡ Some p = rw g at e in
        let same : p ≡ Nowhere k = cc (y) in
        rw same ((refl, none_left s F k R v stands reached (λ n b r. so_far n (first n r))), refl)
      where
        first : (n : ℕ) → Raised s F k n → n < suc looked
        first n r = ⊎_elim (λ a. a) (λ a. let x : F (walk s looked (home s k)) ≡ true = r looked (omega arith) in absurd (cc (x, g))) (split n)
          where
            split : (n : ℕ) → (n < suc looked) ⊎ (looked < n)
            split n = grind arith

-- ---- the operations behind the walk

-- a put where nothing stands
pub own_put :
    (s : Sizes) (W V : World) (F G : Flags) (k r : ℕ) (R : Part) (v : Option (List ℕ)) (w : List ℕ) (tried : ℕ) (o : Outcome) (u : Option Undo) (p : Progress)
    → v ≡ None → W k ≡ R → Does W F V G k r (Put w) o u → is_heap s r ≡ true → IsValue w → 0 < s.index → after_put s k w r tried o ≡ Some p → Own s G k (V k) R v p × IsOn k p
own_put s W V F G k r R v w tried o u p none was (inl h) kind value some e =
    let x : Some (Adding k w (place r h.0) (home s k) 0) ≡ Some p = rw (h.1) at e in
    let same : p ≡ Adding k w (place r h.0) (home s k) 0 = cc (x) in
    let small : h.0 < 8 = h.4 in
    let region : region_at (place r h.0) ≡ r = omega arith in
    let cell : cell_at (place r h.0) ≡ h.0 = omega arith in
    let put : V k ≡ put_part R r h.0 (1 ∷ length w ∷ packed w) = ap (λ (X : World). X k) h.6 ∙ put_at-own W k r h.0 (1 ∷ length w ∷ packed w) ∙ ap (λ (X : Part). put_part X r h.0 (1 ∷ length w ∷ packed w)) was in
    rw same ((none, value, rw (region, cell, kind) (some_cell h.0 h.3), rw (region, cell) put, some, refl, λ m b. absurd (omega arith)), refl)
  where
    some_cell : (c : ℕ) → 0 < c → nat_le 1 c ≡ true
    some_cell c l = grind (arith, nat_tests)
own_put s W V F G k r R v w tried o u p none was (inr h) kind value some e = by_count (nat_lt (tried + 1) s.heap) refl (rw (h.1) at e)
  where
    now : V k ≡ R
    now = ap (λ (X : World). X k) h.0.0 ∙ was

    by_count : (c : Bool) → nat_lt (tried + 1) s.heap ≡ c → Some (if nat_lt (tried + 1) s.heap then Storing k w (next_heap s r) (tried + 1) else Finished (Insert k w) FullHeap) ≡ Some p → Own s G k (V k) R v p × IsOn k p
    by_count true l x =
        let y : Some (Storing k w (next_heap s r) (tried + 1)) ≡ Some p = rw l at x in
        let same : p ≡ Storing k w (next_heap s r) (tried + 1) = cc (y) in
        rw same ((now, none, value), refl)
    by_count false l x =
        let y : Some (Finished (Insert k w) FullHeap) ≡ Some p = rw l at x in
        let same : p ≡ Finished (Insert k w) FullHeap = cc (y) in
        rw same ((None, rw none refl, (λ z. sym none), λ z. absurd (cc (z))), refl)

-- an add behind the put
pub own_add :
    (s : Sizes) (W V : World) (F G : Flags) (k : ℕ) (P R : Part) (v : Option (List ℕ)) (w : List ℕ) (at r tried : ℕ) (o : Outcome) (u : Option Undo) (p : Progress)
    → W k ≡ P → Own s F k P R v (Adding k w at r tried) → Stands s R v → Reached s F k R → Does W F V G k r (Add at) o u → 0 < s.index → after_add s k w at r tried o ≡ Some p → Own s G k (V k) R v p × IsOn k p
own_add s W V F G k P R v w at r tried o u p was own stands reached (inl h) some e =
    let x : Some (Finished (Insert k w) AnswerOk) ≡ Some p = rw (h.1) at e in
    let same : p ≡ Finished (Insert k w) AnswerOk = cc (x) in
    let put : V k ≡ put_part (put_part R (region_at at) (cell_at at) (1 ∷ length w ∷ packed w)) r h.0 (1 ∷ at ∷ []) = ap (λ (X : World). X k) h.5 ∙ put_at-own W k r h.0 (1 ∷ at ∷ []) ∙ ap (λ (X : Part). put_part X r h.0 (1 ∷ at ∷ [])) (was ∙ own.3) in
    let below : r < s.index = rw (own.5) (walk_below s tried (home s k) (home_below s k some)) in
    let nothing : Stands s R None = subst (λ x. Stands s R x) own.0 stands in
    rw same (
      (
        Some w,
        rw (own.0) refl,
        (λ z. absurd (cc (z))),
        λ z. (
          subst (λ (X : Part). Lives s X w) (sym put) (stands_inserted s R w r h.0 at (length w) (packed w) nothing below own.2 own.1.0 refl (unpacked-packed w own.1)),
          rw (h.6, put) (there below),
        ),
      ),
      refl,
    )
  where
    there : r < s.index → Reached s F k (put_part (put_part R (region_at at) (cell_at at) (1 ∷ length w ∷ packed w)) r h.0 (1 ∷ at ∷ []))
    there below q i x xs low g = ⊎_elim (λ a. (tried, own.4, sym own.5 ∙ sym a.0, own.6)) (λ a. reached q i x xs low (sym (put_part-other R (region_at at) (cell_at at) (1 ∷ length w ∷ packed w) q i (inl (λ z. omega (arith, (place_heap s at own.2).1)))) ∙ sym a.1 ∙ g)) (put_part-cases (put_part R (region_at at) (cell_at at) (1 ∷ length w ∷ packed w)) r h.0 (1 ∷ at ∷ []) q i)
own_add s W V F G k P R v w at r tried o u p was own stands reached (inr h) some e = by_count (nat_lt (tried + 1) s.index) refl (rw (h.0) at e)
  where
    now : V k ≡ P
    now = ap (λ (X : World). X k) h.2 ∙ was

    raised : Raised s G k (tried + 1)
    raised m b = ⊎_elim (λ l. rw (h.3) (raise_rises F r (walk s m (home s k)) (own.6 m l))) (λ l. rw (h.3) (subst (λ x. raise F r x ≡ true) (own.5 ∙ ap (λ x. walk s x (home s k)) (sym l)) (raised-same F r))) (split m b)
      where
        split : (m : ℕ) → m < tried + 1 → (m < tried) ⊎ (m ≡ tried)
        split m b = grind arith

    by_count : (c : Bool) → nat_lt (tried + 1) s.index ≡ c → Some (if nat_lt (tried + 1) s.index then Adding k w at (next_index s r) (tried + 1) else Finished (Insert k w) FullIndex) ≡ Some p → Own s G k (V k) R v p × IsOn k p
    by_count true l x =
        let y : Some (Adding k w at (next_index s r) (tried + 1)) ≡ Some p = rw l at x in
        let same : p ≡ Adding k w at (next_index s r) (tried + 1) = cc (y) in
        let one : suc tried ≡ tried + 1 = omega arith in
        rw same ((own.0, own.1, own.2, now ∙ own.3, ltb-true (tried + 1) s.index l, ap (next_index s) own.5 ∙ ap (λ z. walk s z (home s k)) one, raised), refl)
    by_count false l x =
        let y : Some (Finished (Insert k w) FullIndex) ≡ Some p = rw l at x in
        let same : p ≡ Finished (Insert k w) FullIndex = cc (y) in
        rw same ((None, rw (own.0) refl, (λ z. sym own.0), λ z. absurd (cc (z))), refl)

-- where the walk found an entry, a value stands, and the entry names its cell
pub somewhere : (s : Sizes) (R : Part) (v : Option (List ℕ)) (r i at : ℕ) → Stands s R v → r < s.index → R r i ≡ 1 ∷ at ∷ [] → (w : List ℕ) × (h : Lives s R w) × (v ≡ Some w) × (r ≡ h.region) × (i ≡ h.slot) × (at ≡ h.at)
somewhere s R None r i at stands below e = let two : ◌≡◌ {A = ℕ} 1 2 = stands r i 1 (at ∷ []) e in absurd (omega (arith, two))
somewhere s R (Some w) r i at stands below e =
    let x = lives_entry s R w stands r i (at ∷ []) below e in
    let y = x.2 in
    (w, stands, refl, x.0, x.1, cc (y))

cell_there : (s : Sizes) (P R : Part) (w : List ℕ) (at : ℕ) (h : Lives s R w) → P ≡ R → at ≡ h.at → P (region_at at) (cell_at at) ≡ 1 ∷ h.count ∷ h.words
cell_there s P R w at h was same = ap (λ (X : Part). X (region_at at) (cell_at at)) was ∙ ap (λ x. R (region_at x) (cell_at x)) same ∙ h.cell.0

pub own_read :
    (s : Sizes) (W V : World) (F G : Flags) (k : ℕ) (R : Part) (v : Option (List ℕ)) (r i at : ℕ) (o : Outcome) (u : Option Undo) (p : Progress)
    → W k ≡ R → Stands s R v → r < s.index → R r i ≡ 1 ∷ at ∷ [] → Reached s F k R → is_place s at ≡ true → Does W F V G k (region_at at) (Read (cell_at at)) o u → after_read k at o ≡ Some p → Own s G k (V k) R v p × IsOn k p
own_read s W V F G k R v r i at o u p was stands below entry reached place h e = go (somewhere s R v r i at stands below entry)
  where
    now : V k ≡ R
    now = ap (λ (X : World). X k) h.0.0 ∙ was

    go : (w : List ℕ) × (l : Lives s R w) × (v ≡ Some w) × (r ≡ l.region) × (i ≡ l.slot) × (at ≡ l.at) → Own s G k (V k) R v p × IsOn k p
    go is = ⊎_elim found lost (h.1 (place_heap s at place).2 (place_heap s at place).3)
      where
        found : (n : ℕ) × (xs : List ℕ) × (o ≡ Value (unpacked n xs)) × IsLive (W k (region_at at) (cell_at at)) n xs → Own s G k (V k) R v p × IsOn k p
        found a =
            let x : Some (Finished (Get k) (Got (unpacked a.0 a.1))) ≡ Some p = rw (a.2) at e in
            let same : p ≡ Finished (Get k) (Got (unpacked a.0 a.1)) = cc (x) in
            let both : 1 ∷ a.0 ∷ a.1 ≡ 1 ∷ is.1.count ∷ is.1.words = sym a.3.0 ∙ cell_there s (W k) R is.0 at is.1 was is.5 in
            let n : a.0 ≡ is.1.count = cc (both) in
            let ws : a.1 ≡ is.1.words = cc (both) in
            let value : unpacked a.0 a.1 ≡ is.0 = rw (n, ws) (is.1.value) in
            let test : bytes_eq is.0 is.0 ≡ true = (bytes_eq-Decides is.0 is.0).1 refl in
            rw (same, value) ((v, rw (is.2, test) refl, (λ z. refl), λ z. (subst (λ (X : Part). Stands s X v) (sym now) stands, rw (h.0.1, now) reached)), refl)

        lost : ((x : List ℕ) → o ≢ Value x) × ((n : ℕ) (xs : List ℕ) → is_size n ≡ true → W k (region_at at) (cell_at at) ≢ 1 ∷ n ∷ xs) → Own s G k (V k) R v p × IsOn k p
        lost a = absurd (a.1 is.1.count is.1.words is.1.cell.1 (cell_there s (W k) R is.0 at is.1 was is.5))

pub own_change :
    (s : Sizes) (W V : World) (F G : Flags) (k : ℕ) (R : Part) (v : Option (List ℕ)) (r i at : ℕ) (w : List ℕ) (o : Outcome) (u : Option Undo) (p : Progress)
    → W k ≡ R → Stands s R v → r < s.index → R r i ≡ 1 ∷ at ∷ [] → Reached s F k R → is_place s at ≡ true → IsValue w → Does W F V G k (region_at at) (Change (cell_at at) w) o u → after_change k at w o ≡ Some p → Own s G k (V k) R v p × IsOn k p
own_change s W V F G k R v r i at w o u p was stands below entry reached place value h e = go (somewhere s R v r i at stands below entry)
  where
    go : (x : List ℕ) × (l : Lives s R x) × (v ≡ Some x) × (r ≡ l.region) × (i ≡ l.slot) × (at ≡ l.at) → Own s G k (V k) R v p × IsOn k p
    go is = ⊎_elim found lost (h (place_heap s at place).2 (place_heap s at place).3)
      where
        found : (n : ℕ) × (xs : List ℕ) × (o ≡ Changed) × (u ≡ Some (UndoRestore (cell_at at) n xs)) × IsLive (W k (region_at at) (cell_at at)) n xs × (V ≡ put_at W k (region_at at) (cell_at at) (1 ∷ length w ∷ packed w)) × (G ≡ F) → Own s G k (V k) R v p × IsOn k p
        found a =
            let x : Some (Finished (Update k w) AnswerOk) ≡ Some p = rw (a.2) at e in
            let same : p ≡ Finished (Update k w) AnswerOk = cc (x) in
            let put : V k ≡ put_part R (region_at at) (cell_at at) (1 ∷ length w ∷ packed w) = ap (λ (X : World). X k) a.5 ∙ put_at-own W k (region_at at) (cell_at at) (1 ∷ length w ∷ packed w) ∙ ap (λ (X : Part). put_part X (region_at at) (cell_at at) (1 ∷ length w ∷ packed w)) was in
            let there : Lives s (put_part R (region_at at) (cell_at at) (1 ∷ length w ∷ packed w)) w = rw (is.5) (stands_changed s R is.0 w is.1 (length w) (packed w) value.0 refl (unpacked-packed w value)) in
            rw same ((Some w, rw (is.2) refl, (λ z. absurd (cc (z))), λ z. (subst (λ (X : Part). Lives s X w) (sym put) there, rw (a.6, put) still)), refl)
          where
            still : Reached s F k (put_part R (region_at at) (cell_at at) (1 ∷ length w ∷ packed w))
            still q j x xs low g = reached q j x xs low (sym (put_part-other R (region_at at) (cell_at at) (1 ∷ length w ∷ packed w) q j (inl (λ z. omega (arith, (place_heap s at place).1)))) ∙ g)

        lost : Stay W F V G u × (o ≢ Changed) × ((n : ℕ) (xs : List ℕ) → is_size n ≡ true → W k (region_at at) (cell_at at) ≢ 1 ∷ n ∷ xs) → Own s G k (V k) R v p × IsOn k p
        lost a = absurd (a.2 is.1.count is.1.words is.1.cell.1 (cell_there s (W k) R is.0 at is.1 was is.5))

pub own_kill_cell :
    (s : Sizes) (W V : World) (F G : Flags) (k : ℕ) (R : Part) (v : Option (List ℕ)) (r i at : ℕ) (o : Outcome) (u : Option Undo) (p : Progress)
    → W k ≡ R → Stands s R v → r < s.index → R r i ≡ 1 ∷ at ∷ [] → is_place s at ≡ true → Does W F V G k (region_at at) (KillCell (cell_at at)) o u → after_kill_cell k r i at o ≡ Some p → Own s G k (V k) R v p × IsOn k p
own_kill_cell s W V F G k R v r i at o u p was stands below entry place h e = go (somewhere s R v r i at stands below entry)
  where
    go : (x : List ℕ) × (l : Lives s R x) × (v ≡ Some x) × (r ≡ l.region) × (i ≡ l.slot) × (at ≡ l.at) → Own s G k (V k) R v p × IsOn k p
    go is = ⊎_elim found lost (h (place_heap s at place).2 (place_heap s at place).3)
      where
        found : (n : ℕ) × (xs : List ℕ) × (o ≡ Killed) × (u ≡ Some (UndoReviveCell (cell_at at))) × IsLive (W k (region_at at) (cell_at at)) n xs × (V ≡ put_at W k (region_at at) (cell_at at) (2 ∷ n ∷ xs)) × (G ≡ F) → Own s G k (V k) R v p × IsOn k p
        found a =
            let x : Some (Removing k r i at) ≡ Some p = rw (a.2) at e in
            let same : p ≡ Removing k r i at = cc (x) in
            let put : V k ≡ put_part R (region_at at) (cell_at at) (2 ∷ a.0 ∷ a.1) = ap (λ (X : World). X k) a.5 ∙ put_at-own W k (region_at at) (cell_at at) (2 ∷ a.0 ∷ a.1) ∙ ap (λ (X : Part). put_part X (region_at at) (cell_at at) (2 ∷ a.0 ∷ a.1)) was in
            rw same ((a.0, a.1, below, entry, place, put), refl)

        lost : Stay W F V G u × (o ≢ Killed) × ((n : ℕ) (xs : List ℕ) → is_size n ≡ true → W k (region_at at) (cell_at at) ≢ 1 ∷ n ∷ xs) → Own s G k (V k) R v p × IsOn k p
        lost a = absurd (a.2 is.1.count is.1.words is.1.cell.1 (cell_there s (W k) R is.0 at is.1 was is.5))

pub own_kill_entry :
    (s : Sizes) (W V : World) (F G : Flags) (k : ℕ) (P R : Part) (v : Option (List ℕ)) (r i at : ℕ) (o : Outcome) (u : Option Undo) (p : Progress)
    → W k ≡ P → Own s F k P R v (Removing k r i at) → Stands s R v → Reached s F k R → Does W F V G k r (KillEntry i) o u → after_kill_entry k at o ≡ Some p → Own s G k (V k) R v p × IsOn k p
own_kill_entry s W V F G k P R v r i at o u p was own stands reached h e = go (somewhere s R v r i at stands own.2 own.3) h
  where
    away : (r ≢ region_at at) ⊎ (i ≢ cell_at at)
    away = inl (λ z. omega (arith, own.2, (place_heap s at own.4).1))

    live : W k r i ≡ 1 ∷ at ∷ []
    live = ap (λ (X : Part). X r i) (was ∙ own.5) ∙ put_part-other R (region_at at) (cell_at at) (2 ∷ own.0 ∷ own.1) r i away ∙ own.3

    go : (x : List ℕ) × (l : Lives s R x) × (v ≡ Some x) × (r ≡ l.region) × (i ≡ l.slot) × (at ≡ l.at) → Does W F V G k r (KillEntry i) o u → Own s G k (V k) R v p × IsOn k p
    go is (inl a) =
        let x : Some (Finished (Delete k) AnswerOk) ≡ Some p = rw (a.1) at e in
        let same : p ≡ Finished (Delete k) AnswerOk = cc (x) in
        let put : V k ≡ put_part (put_part R (region_at at) (cell_at at) (2 ∷ own.0 ∷ own.1)) r i (2 ∷ a.0 ∷ []) = ap (λ (X : World). X k) a.4 ∙ put_at-own W k r i (2 ∷ a.0 ∷ []) ∙ ap (λ (X : Part). put_part X r i (2 ∷ a.0 ∷ [])) (was ∙ own.5) in
        let gone : Stands s (put_part (put_part R (region_at at) (cell_at at) (2 ∷ own.0 ∷ own.1)) r i (2 ∷ a.0 ∷ [])) None = rw (is.3, is.4, is.5) (stands_removed s R is.0 is.1 own.0 (own.0 ∷ own.1) (a.0 ∷ [])) in
        rw same ((None, rw (is.2) refl, (λ z. absurd (cc (z))), λ z. (subst (λ (X : Part). Stands s X None) (sym put) gone, rw (a.5, put) (still a.0))), refl)
      where
        still : (n : ℕ) → Reached s F k (put_part (put_part R (region_at at) (cell_at at) (2 ∷ own.0 ∷ own.1)) r i (2 ∷ n ∷ []))
        still n q j x xs low g =
            ⊎_elim (λ b. reached q j 1 (at ∷ []) low (ap (λ z. R z j) b.0 ∙ ap (λ z. R r z) b.1 ∙ own.3))
            (λ b. reached q j x xs low (sym (put_part-other R (region_at at) (cell_at at) (2 ∷ own.0 ∷ own.1) q j (inl (λ z. omega (arith, (place_heap s at own.4).1)))) ∙ sym b.1 ∙ g))
            (put_part-cases (put_part R (region_at at) (cell_at at) (2 ∷ own.0 ∷ own.1)) r i (2 ∷ n ∷ []) q j)
    go is (inr a) = absurd (a.2 at live)
