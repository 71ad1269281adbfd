-- The base: the slots of each key stand for what its map has there.
use Rattle.std.proofs.Common.{◌≡◌, ℕ, ◌+◌, ◌<◌, ◌≤◌, Bool, true, false, List, [], ◌∷◌, length, Option, Some, None, refl, ap, sym, subst, ◌∙◌, ◌⊎◌, inl, ⊎_elim, ◌≢◌, arith}
use Rattle.std.specs.Prelude.{◌==◌, ◌&&◌, if◌then◌else◌}
use Rattle.std.specs.List.{find}
use Rattle.std.proofs.lemmas.Bool.Decides.{nat_tests}
use Rattle.std.proofs.lemmas.Bool.{eq-eqb, ne_eqb, eqb-true, eqb-false, and_parts}
use Rattle.dali_words.specs.Values.{unpacked}
use Rattle.dali_geometry.specs.Sizes.{Sizes}
use Rattle.dali_geometry.specs.Places.{is_index, is_heap, is_place, region_at, cell_at, place}
use Rattle.dali_access.specs.Heap.Cells as cell
use Rattle.dali_access.specs.Index.Entries as entry
use Rattle.dali_access.specs.Index.Records.{records, stored, is_reached, pair_of, cell_value}
use Rattle.dali_record.specs.Settled.{words_in}
use Rattle.dali_access.specs.Index.Invariant.{IsImage, IsIndexed, IsTidy, IsLiveEntry, IsLiveCell}
use Rattle.dali_history.specs.Images.{map_of, value_in}
use Rattle.dali_access.proofs.IndexLemmas.Slots.{entry_is, cell_is, entry_none, cell_none, value_of-value_at, value_at}
use Rattle.dali_access.proofs.IndexLemmas.Worlds.{part, flags}
use Rattle.dali_history.proofs.SlotsLemmas.BlockOnSlots.{IsLive, part_entry, part_cell}
use Rattle.dali_history.proofs.SlotsLemmas.ValueSlots.{Reached, Lives, Stands}
use Rattle.dali_history.proofs.SlotsLemmas.StoredRecords.{find_some, find_none}
use Rattle.std.proofs.lemmas.List.{get_or_past}
use Rattle.dali_lists.proofs.Numbers.{one_of_two}
use Rattle.dali_access.proofs.IndexLemmas.Starts.{tests_reach}
use Rattle.dali_access.proofs.IndexLemmas.Fitting.{index_below}
use Rattle.dali_access.proofs.IndexLemmas.Stored.{in_records, records_in}

-- an entry that is seen is live
pub seen_entry : (s : Sizes) (image : List (List ℕ)) (k r i x : ℕ) (xs : List ℕ) → IsImage s image → IsTidy s image → is_index s r ≡ true → part s image k r i ≡ x ∷ xs → IsLiveEntry s image r i × (x ≡ 1) × (entry.key_of (words_in image r) i ≡ k) × (xs ≡ entry.place_of (words_in image r) i ∷ [])
seen_entry s image k r i x xs form tidy kind e =
    let at = sym (part_entry s image k r i kind) ∙ e in
    let is = entry_is k (words_in image r) i x xs at in
    let low : r < s.index = index_below s r kind in
    let small = entry_none k (words_in image r) i x xs (form.words r (omega (arith, low))) at in
    let one = one_of_two (entry.state_of (words_in image r) i) (tidy.entries r i low small) is.3 in
    ((low, small, one), sym is.0 ∙ one, is.2, sym is.1)

-- each entry that is seen is reached
pub base_reached : (s : Sizes) (image : List (List ℕ)) (k : ℕ) → IsImage s image → IsIndexed s image → IsTidy s image → Reached s (flags image) k (part s image k)
base_reached s image k form indexed tidy r i x xs low e =
    let l = seen_entry s image k r i x xs form tidy (kind s r low) e in
    tests_reach s image k r (subst (λ q. is_reached s image q r ≡ true) l.2 (indexed.reached r i (l.0.0, l.0.1, inl l.0.2)))
  where
    kind : (z : Sizes) (q : ℕ) → q < z.index → is_index z q ≡ true
    kind z q h = grind (arith, nat_tests)

heap_is : (s : Sizes) (r : ℕ) → is_index s r ≡ false → r < s.index + s.heap → is_heap s r ≡ true
heap_is s r h b = grind (arith, nat_tests)

-- a cell that is seen is live
pub seen_cell : (s : Sizes) (image : List (List ℕ)) (k r c x : ℕ) (xs : List ℕ) → IsImage s image → IsTidy s image → is_index s r ≡ false → part s image k r c ≡ x ∷ xs → IsLiveCell s image r c × (x ≡ 1) × (cell.key_of (words_in image r) c ≡ k)
seen_cell s image k r c x xs form tidy kind e = ⊎_elim inside outside (split r (s.index + s.heap))
  where
    split : (a b : ℕ) → (a < b) ⊎ (b ≤ a)
    split a b = grind arith

    is : (cell.state_of (words_in image r) c ≡ x) × (cell.length_of (words_in image r) c ∷ value_at (words_in image r) c ≡ xs) × (cell.key_of (words_in image r) c ≡ k) × (cell.state_of (words_in image r) c ≢ 0) × (c ≢ 0)
    is = cell_is k (words_in image r) c x xs (sym (part_cell s image k r c kind) ∙ e)

    inside : r < s.index + s.heap → IsLiveCell s image r c × (x ≡ 1) × (cell.key_of (words_in image r) c ≡ k)
    inside low =
        let small = cell_none k (words_in image r) c x xs (form.words r low) (sym (part_cell s image k r c kind) ∙ e) in
        let heap = heap_is s r kind low in
        let one = one_of_two (cell.state_of (words_in image r) c) (tidy.cells r c heap small.0 small.1) is.3 in
        ((heap, small.0, small.1, one), sym is.0 ∙ one, is.2)

    outside : s.index + s.heap ≤ r → IsLiveCell s image r c × (x ≡ 1) × (cell.key_of (words_in image r) c ≡ k)
    outside far = let none : words_in image r ≡ [] = get_or_past image r [] (omega (arith, form.count)) in absurd (is.3 (ap (λ ws. cell.state_of ws c) none))

-- a live entry stands for a pair
pub live_stored : (s : Sizes) (image : List (List ℕ)) (r e : ℕ) → IsIndexed s image → IsTidy s image → IsLiveEntry s image r e → (v : List ℕ) × (stored s image r e ≡ Some (entry.key_of (words_in image r) e, v)) × (v ≡ unpacked (cell.length_of (words_in image (region_at (entry.place_of (words_in image r) e))) (cell_at (entry.place_of (words_in image r) e))) (cell.value_of (words_in image (region_at (entry.place_of (words_in image r) e))) (cell_at (entry.place_of (words_in image r) e))))
live_stored s image r e indexed tidy live =
    let names = indexed.names_cell r e live in
    let reached = indexed.reached r e (live.0, live.1, inl live.2) in
    let size = tidy.sizes (region_at (entry.place_of (words_in image r) e)) (cell_at (entry.place_of (words_in image r) e)) names.1 in
    let state = eq-eqb (entry.state_of (words_in image r) e) 1 live.2 in
    let place = names.0 in
    let cell_state = eq-eqb (cell.state_of (words_in image (region_at (entry.place_of (words_in image r) e))) (cell_at (entry.place_of (words_in image r) e))) 1 names.1.3 in
    let cell_key = eq-eqb (cell.key_of (words_in image (region_at (entry.place_of (words_in image r) e))) (cell_at (entry.place_of (words_in image r) e))) (entry.key_of (words_in image r) e) names.2 in (
      unpacked (cell.length_of (words_in image (region_at (entry.place_of (words_in image r) e))) (cell_at (entry.place_of (words_in image r) e))) (cell.value_of (words_in image (region_at (entry.place_of (words_in image r) e))) (cell_at (entry.place_of (words_in image r) e))),
      rw (state, place, reached, cell_state, cell_key, size) refl,
      refl,
    )

-- ---- the value of a key
live_cell_part : (s : Sizes) (image : List (List ℕ)) (k r c : ℕ) → IsImage s image → IsTidy s image → is_index s r ≡ false → IsLiveCell s image r c → cell.key_of (words_in image r) c ≡ k → IsLive (part s image k r c) (cell.length_of (words_in image r) c) (cell.value_of (words_in image r) c)
live_cell_part s image k r c form tidy kind live key =
    let low : r < s.index + s.heap = heap_low s r live.0 in
    let long = form.words r low in
    let some = live.1 in
    let small = live.2 in
    let value = value_of-value_at (words_in image r) c (omega (arith, long, small)) in
    (part_cell s image k r c kind ∙ rw (ne_eqb c 0 (λ e. omega arith), live.3, key, eq-eqb k k refl, value) refl, tidy.sizes r c live, ap length value)
  where
    heap_low : (z : Sizes) (q : ℕ) → is_heap z q ≡ true → q < z.index + z.heap
    heap_low z q h = grind (arith, nat_tests)

-- a live cell is named by a live entry of its key
named_cell :
    (s : Sizes) (image : List (List ℕ)) (q i : ℕ) → IsIndexed s image → IsLiveCell s image q i
    → (r : ℕ) × (e : ℕ) × IsLiveEntry s image r e × (region_at (entry.place_of (words_in image r) e) ≡ q) × (cell_at (entry.place_of (words_in image r) e) ≡ i) × (cell.key_of (words_in image q) i ≡ entry.key_of (words_in image r) e)
named_cell s image q i indexed live =
    let n = indexed.is_named q i live in
    let small : i < 8 = live.2 in
    let at_region : region_at (place q i) ≡ q = omega arith in
    let at_cell : cell_at (place q i) ≡ i = omega arith in
    let other = indexed.names_cell n.0 n.1 n.2 in
    let region : region_at (entry.place_of (words_in image n.0) n.1) ≡ q = ap region_at n.3 ∙ at_region in
    let slot : cell_at (entry.place_of (words_in image n.0) n.1) ≡ i = ap cell_at n.3 ∙ at_cell in
    let there : cell.key_of (words_in image q) i ≡ entry.key_of (words_in image n.0) n.1 = subst (λ y. cell.key_of (words_in image q) y ≡ entry.key_of (words_in image n.0) n.1) slot (subst (λ y. cell.key_of (words_in image y) (cell_at (entry.place_of (words_in image n.0) n.1)) ≡ entry.key_of (words_in image n.0) n.1) region other.2) in
    (n.0, n.1, n.2, region, slot, there)

-- where an entry of the key is live, the slots stand for its value
pub live_stands : (s : Sizes) (image : List (List ℕ)) (k r e : ℕ) (v : List ℕ) → IsImage s image → IsIndexed s image → IsTidy s image → IsLiveEntry s image r e → entry.key_of (words_in image r) e ≡ k → stored s image r e ≡ Some (k, v) → Lives s (part s image k) v
live_stands s image k r e v form indexed tidy live key h = record {
  region = r;
  slot = e;
  at = entry.place_of (words_in image r) e;
  count = cell.length_of (words_in image (region_at (entry.place_of (words_in image r) e))) (cell_at (entry.place_of (words_in image r) e));
  words = cell.value_of (words_in image (region_at (entry.place_of (words_in image r) e))) (cell_at (entry.place_of (words_in image r) e));
  in_index = live.0;
  entry = part_entry s image k r e (index_kind s r live.0) ∙ rw (live.2, key, eq-eqb k k refl) refl;
  is_place = names.0;
  cell = live_cell_part s image k (region_at (entry.place_of (words_in image r) e)) (cell_at (entry.place_of (words_in image r) e)) form tidy (heap_kind s (region_at (entry.place_of (words_in image r) e)) names.1.0) names.1 (names.2 ∙ key);
  value = value;
  others = λ q i a b x xs g. others q i a b x xs g (is_index s q) refl;
}
  where
    names : (is_place s (entry.place_of (words_in image r) e) ≡ true) × IsLiveCell s image (region_at (entry.place_of (words_in image r) e)) (cell_at (entry.place_of (words_in image r) e)) × (cell.key_of (words_in image (region_at (entry.place_of (words_in image r) e))) (cell_at (entry.place_of (words_in image r) e)) ≡ entry.key_of (words_in image r) e)
    names = indexed.names_cell r e live

    index_kind : (z : Sizes) (q : ℕ) → q < z.index → is_index z q ≡ true
    index_kind z q l = grind (arith, nat_tests)

    heap_kind : (z : Sizes) (q : ℕ) → is_heap z q ≡ true → is_index z q ≡ false
    heap_kind z q l = grind (arith, nat_tests)

    value : unpacked (cell.length_of (words_in image (region_at (entry.place_of (words_in image r) e))) (cell_at (entry.place_of (words_in image r) e))) (cell.value_of (words_in image (region_at (entry.place_of (words_in image r) e))) (cell_at (entry.place_of (words_in image r) e))) ≡ v
    value =
        let x = live_stored s image r e indexed tidy live in
        let both : Some (entry.key_of (words_in image r) e, x.0) ≡ Some (k, v) = sym x.1 ∙ h in
        sym x.2 ∙ ap second both
      where
        second : Option (ℕ × List ℕ) → List ℕ
        second None = []
        second (Some p) = p.1

    others : (q i : ℕ) → (q ≢ r) ⊎ (i ≢ e) → (q ≢ region_at (entry.place_of (words_in image r) e)) ⊎ (i ≢ cell_at (entry.place_of (words_in image r) e)) → (x : ℕ) (xs : List ℕ) → part s image k q i ≡ x ∷ xs → (b : Bool) → is_index s q ≡ b → x ≡ 2
    others q i a b x xs g true kind =
        let l = seen_entry s image k q i x xs form tidy kind g in
        let same = indexed.one_entry q i r e l.0 live (l.2 ∙ sym key) in
        absurd (⊎_elim (λ n. n same.0) (λ n. n same.1) a)
    others q i a b x xs g false kind =
        let l = seen_cell s image k q i x xs form tidy kind g in
        let n = named_cell s image q i indexed l.0 in
        let same = indexed.one_entry n.0 n.1 r e n.2 live (sym n.5 ∙ l.2 ∙ sym key) in
        let place_same : entry.place_of (words_in image n.0) n.1 ≡ entry.place_of (words_in image r) e = ap (λ y. entry.place_of (words_in image y) n.1) same.0 ∙ ap (λ y. entry.place_of (words_in image r) y) same.1 in
        absurd (⊎_elim (λ m. m (sym n.3 ∙ ap region_at place_same)) (λ m. m (sym n.4 ∙ ap cell_at place_same)) b)

-- an entry that stands for a pair is live, and its key is the pair's
stored_live : (s : Sizes) (image : List (List ℕ)) (r e : ℕ) (p : ℕ × List ℕ) → stored s image r e ≡ Some p → (entry.state_of (words_in image r) e ≡ 1) × (entry.key_of (words_in image r) e ≡ p.0)
stored_live s image r e p h = go (((entry.state_of (words_in image r) e == 1) && is_place s (entry.place_of (words_in image r) e)) && is_reached s image (entry.key_of (words_in image r) e) r) refl h
  where
    first : ℕ → Option (ℕ × List ℕ) → ℕ
    first n None = n
    first n (Some q) = q.0

    pair : (o : Option (List ℕ)) → pair_of (entry.key_of (words_in image r) e) o ≡ Some p → entry.key_of (words_in image r) e ≡ p.0
    pair None g = absurd (cc (g))
    pair (Some v) g = ap (first 0) g

    go : (b : Bool) → (((entry.state_of (words_in image r) e == 1) && is_place s (entry.place_of (words_in image r) e)) && is_reached s image (entry.key_of (words_in image r) e) r) ≡ b → (if b then pair_of (entry.key_of (words_in image r) e) (cell_value (words_in image (region_at (entry.place_of (words_in image r) e))) (cell_at (entry.place_of (words_in image r) e)) (entry.key_of (words_in image r) e)) else None) ≡ Some p → (entry.state_of (words_in image r) e ≡ 1) × (entry.key_of (words_in image r) e ≡ p.0)
    go true t g =
        let x = and_parts ((entry.state_of (words_in image r) e == 1) && is_place s (entry.place_of (words_in image r) e)) (is_reached s image (entry.key_of (words_in image r) e) r) t in
        let y = and_parts (entry.state_of (words_in image r) e == 1) (is_place s (entry.place_of (words_in image r) e)) x.0 in
        (eqb-true (entry.state_of (words_in image r) e) 1 y.0, pair (cell_value (words_in image (region_at (entry.place_of (words_in image r) e))) (cell_at (entry.place_of (words_in image r) e)) (entry.key_of (words_in image r) e)) g)
    go false t g = absurd (cc (g))

-- the slots of each key stand for what the map has there
pub base_stands : (s : Sizes) (image : List (List ℕ)) (k : ℕ) → IsImage s image → IsIndexed s image → IsTidy s image → Stands s (part s image k) (map_of s image k)
base_stands s image k form indexed tidy = go (find (λ p. p.0 == k) (records s image)) refl
  where
    go : (o : Option (ℕ × List ℕ)) → find (λ p. p.0 == k) (records s image) ≡ o → Stands s (part s image k) (value_in o)
    go (Some p) e =
        let x = find_some (λ q. q.0 == k) (records s image) p e in
        let y = records_in s image p x.0 in
        let key : p.0 ≡ k = eqb-true p.0 k x.1 in
        let live = stored_live s image y.0 y.1 p y.4 in
        live_stands s image k y.0 y.1 p.1 form indexed tidy (y.2, y.3, live.0) (live.1 ∙ key) (y.4 ∙ ap (λ (z : ℕ). Some (z, p.1)) key)
    go None e = λ q i x xs g. none q i x xs g (is_index s q) refl
      where
        no_entry : (r i : ℕ) → IsLiveEntry s image r i → entry.key_of (words_in image r) i ≡ k → ⊥
        no_entry r i live key =
            let x = live_stored s image r i indexed tidy live in
            let c = in_records s image r i (entry.key_of (words_in image r) i, x.0) live.0 live.1 x.1 in
            let f : (entry.key_of (words_in image r) i == k) ≡ false = find_none (λ q. q.0 == k) (records s image) e (entry.key_of (words_in image r) i, x.0) c in
            eqb-false (entry.key_of (words_in image r) i) k f key

        none : (q i x : ℕ) (xs : List ℕ) → part s image k q i ≡ x ∷ xs → (b : Bool) → is_index s q ≡ b → x ≡ 2
        none q i x xs g true kind = let l = seen_entry s image k q i x xs form tidy kind g in absurd (no_entry q i l.0 l.2)
        none q i x xs g false kind =
            let l = seen_cell s image k q i x xs form tidy kind g in
            let n = named_cell s image q i indexed l.0 in
            absurd (no_entry n.0 n.1 n.2 (sym n.5 ∙ l.2))
