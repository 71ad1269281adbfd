-- The end: an image whose slots stand for a map, with no dead slot, has the index's invariant and the map's records.
--     IsEnd s image m          the slots of each key stand for what m has there, each entry is reached, and no slot is dead
use Rattle.std.proofs.Common.{◌≡◌, ℕ, ◌+◌, ◌<◌, ◌≤◌, true, false, List, [], ◌∷◌, Option, Some, None, refl, ap, sym, subst, ◌∙◌, ◌⊎◌, inl, inr, ⊎_elim, ◌≢◌, arith}
use Rattle.std.specs.Prelude.{◌==◌, Contains}
use Rattle.std.proofs.lemmas.Bool.Decides.{nat_tests, eqb_tells}
use Rattle.std.proofs.lemmas.Bool.{ne_eqb}
use Rattle.dali_words.specs.Values.{is_size}
use Rattle.dali_geometry.specs.Sizes.{Sizes}
use Rattle.dali_geometry.specs.Places.{is_heap, is_place, region_at, cell_at, place}
use Rattle.dali_access.specs.Heap.Cells as cell
use Rattle.dali_access.specs.Index.Entries as entry
use Rattle.dali_access.specs.Index.Records.{records, stored, is_reached}
use Rattle.dali_record.specs.Settled.{words_in}
use Rattle.dali_history.specs.Serial.{Map}
use Rattle.dali_access.specs.Index.Invariant.{IsImage, IsIndexed, IsTidy, IsLiveEntry, IsUsedEntry, IsLiveCell}
use Rattle.dali_history.specs.Images.{HasRecords}
use Rattle.dali_history.specs.Recovered.{freed}
use Rattle.dali_access.proofs.IndexLemmas.Slots.{entry_is, cell_is, entry_none, value_at, seen_used}
use Rattle.dali_access.proofs.IndexLemmas.Worlds.{part, flags}
use Rattle.dali_history.proofs.SlotsLemmas.BlockOnSlots.{part_entry, part_cell}
use Rattle.dali_access.proofs.IndexLemmas.Parts.{Part, same_slot}
use Rattle.dali_history.proofs.SlotsLemmas.ValueSlots.{Reached, Lives, Stands, lives_entry, stands_same}
use Rattle.dali_access.proofs.IndexLemmas.Starts.{reach_tests}
use Rattle.dali_history.proofs.KeptLemmas.AtBase.{live_stored, live_stands}
use Rattle.dali_history.proofs.KeptLemmas.FreedImage.{freed_alive, flags_freed, none_dead, stands_alive, reached_alive}
use Rattle.dali_access.proofs.IndexLemmas.Fitting.{index_kind, heap_kind}
use Rattle.dali_access.proofs.IndexLemmas.Gaps.{place_heap}
use Rattle.dali_access.proofs.IndexLemmas.Steps.{place_at}
use Rattle.dali_access.proofs.IndexLemmas.Stored.{in_records, records_in}
use Rattle.dali_history.proofs.Images.{image_freed}

pub record IsEnd (s : Sizes) (image : List (List ℕ)) (m : Map) : Type 0 where
  pub form : IsImage s image
  pub stands : (k : ℕ) → Stands s (part s image k) (m k)
  pub reached : (k : ℕ) → Reached s (flags image) k (part s image k)
  pub no_dead : (k r i x : ℕ) (xs : List ℕ) → part s image k r i ≡ x ∷ xs → x ≢ 2

-- ---- a slot that isn't dead is the entry or the cell of the value
pub lives_slot : (s : Sizes) (P : Part) (v : List ℕ) (h : Lives s P v) (r i x : ℕ) (xs : List ℕ) → P r i ≡ x ∷ xs → x ≢ 2 → (x ≡ 1) × (((r ≡ h.region) × (i ≡ h.slot)) ⊎ ((r ≡ region_at h.at) × (i ≡ cell_at h.at)))
lives_slot s P v h r i x xs e n = go (same_slot r i h.region h.slot) (same_slot r i (region_at h.at) (cell_at h.at))
  where
    go : ((r ≡ h.region) × (i ≡ h.slot)) ⊎ ((r ≢ h.region) ⊎ (i ≢ h.slot)) → ((r ≡ region_at h.at) × (i ≡ cell_at h.at)) ⊎ ((r ≢ region_at h.at) ⊎ (i ≢ cell_at h.at)) → (x ≡ 1) × (((r ≡ h.region) × (i ≡ h.slot)) ⊎ ((r ≡ region_at h.at) × (i ≡ cell_at h.at)))
    go (inl a) b =
        let there : P r i ≡ P h.region h.slot = ap (λ y. P y i) a.0 ∙ ap (λ y. P h.region y) a.1 in
        let both : x ∷ xs ≡ 1 ∷ h.at ∷ [] = sym e ∙ there ∙ h.entry in
        (cc (both), inl a)
    go (inr a) (inl b) =
        let there : P r i ≡ P (region_at h.at) (cell_at h.at) = ap (λ y. P y i) b.0 ∙ ap (λ y. P (region_at h.at) y) b.1 in
        let both : x ∷ xs ≡ 1 ∷ h.count ∷ h.words = sym e ∙ there ∙ h.cell.0 in
        (cc (both), inr b)
    go (inr a) (inr b) = absurd (n (h.others r i a b x xs e))

-- so the slots stand for a value
pub stands_slot : (s : Sizes) (P : Part) (o : Option (List ℕ)) → Stands s P o → (r i x : ℕ) (xs : List ℕ) → P r i ≡ x ∷ xs → x ≢ 2 → (v : List ℕ) × Lives s P v × (o ≡ Some v)
stands_slot s P None h r i x xs e n = absurd (n (h r i x xs e))
stands_slot s P (Some v) h r i x xs e n = (v, h, refl)

heap_from : (s : Sizes) (r : ℕ) → is_heap s r ≡ true → s.index ≤ r
heap_from s r l = grind (arith, nat_tests)

-- ---- slots that are used, under their own keys
used_entry : (s : Sizes) (image : List (List ℕ)) (r e : ℕ) → r < s.index → entry.state_of (words_in image r) e ≢ 0 → part s image (entry.key_of (words_in image r) e) r e ≡ entry.state_of (words_in image r) e ∷ entry.place_of (words_in image r) e ∷ []
used_entry s image r e low some = part_entry s image (entry.key_of (words_in image r) e) r e (index_kind s r low) ∙ seen_used (entry.key_of (words_in image r) e) (entry.state_of (words_in image r) e) (entry.place_of (words_in image r) e ∷ []) some

used_cell : (s : Sizes) (image : List (List ℕ)) (r c : ℕ) → is_heap s r ≡ true → 0 < c → cell.state_of (words_in image r) c ≢ 0 → part s image (cell.key_of (words_in image r) c) r c ≡ cell.state_of (words_in image r) c ∷ cell.length_of (words_in image r) c ∷ value_at (words_in image r) c
used_cell s image r c kind low some = part_cell s image (cell.key_of (words_in image r) c) r c (heap_kind s r kind) ∙ rw (ne_eqb c 0 (λ e. omega arith)) (seen_used (cell.key_of (words_in image r) c) (cell.state_of (words_in image r) c) (cell.length_of (words_in image r) c ∷ value_at (words_in image r) c) some)

-- what is used is live, and its key has a value
abbrev OfValue : Sizes → List (List ℕ) → Map → ℕ → ℕ → ℕ → ℕ → Type 0
OfValue s image m k r i x = (x ≡ 1) × (v : List ℕ) × (h : Lives s (part s image k) v) × (m k ≡ Some v) × (((r ≡ h.region) × (i ≡ h.slot)) ⊎ ((r ≡ region_at h.at) × (i ≡ cell_at h.at)))

of_value : (s : Sizes) (image : List (List ℕ)) (m : Map) → IsEnd s image m → (k r i x : ℕ) (xs : List ℕ) → part s image k r i ≡ x ∷ xs → OfValue s image m k r i x
of_value s image m end k r i x xs e =
    let n = end.no_dead k r i x xs e in
    let v = stands_slot s (part s image k) (m k) (end.stands k) r i x xs e n in
    let y = lives_slot s (part s image k) v.0 v.1 r i x xs e n in
    (y.0, v.0, v.1, v.2, y.1)

-- the entry of a live entry's key
of_entry : (s : Sizes) (image : List (List ℕ)) (m : Map) → IsEnd s image m → (r e : ℕ) → IsLiveEntry s image r e → (v : List ℕ) × (h : Lives s (part s image (entry.key_of (words_in image r) e)) v) × (m (entry.key_of (words_in image r) e) ≡ Some v) × (r ≡ h.region) × (e ≡ h.slot) × (entry.place_of (words_in image r) e ≡ h.at)
of_entry s image m end r e live =
    let some : entry.state_of (words_in image r) e ≢ 0 = live_some (entry.state_of (words_in image r) e) live.2 in
    let at = used_entry s image r e live.0 some in
    let x = of_value s image m end (entry.key_of (words_in image r) e) r e (entry.state_of (words_in image r) e) (entry.place_of (words_in image r) e ∷ []) at in
    let one : part s image (entry.key_of (words_in image r) e) r e ≡ 1 ∷ entry.place_of (words_in image r) e ∷ [] = at ∙ ap (λ y. y ∷ entry.place_of (words_in image r) e ∷ []) live.2 in
    let y = lives_entry s (part s image (entry.key_of (words_in image r) e)) x.1 x.2 r e (entry.place_of (words_in image r) e ∷ []) live.0 one in
    (x.1, x.2, x.3, y.0, y.1, first (entry.place_of (words_in image r) e) x.2.at y.2)
  where
    live_some : (n : ℕ) → n ≡ 1 → n ≢ 0
    live_some n a b = omega (arith, a, b)

    first : (a b : ℕ) → a ∷ [] ≡ b ∷ [] → a ≡ b
    first a b h = cc (h)

-- a live cell is the one that the entry of its key names
of_cell : (s : Sizes) (image : List (List ℕ)) (m : Map) → IsEnd s image m → (r c : ℕ) → IsLiveCell s image r c → (v : List ℕ) × (h : Lives s (part s image (cell.key_of (words_in image r) c)) v) × (r ≡ region_at h.at) × (c ≡ cell_at h.at)
of_cell s image m end r c live =
    let some : cell.state_of (words_in image r) c ≢ 0 = live_some (cell.state_of (words_in image r) c) live.3 in
    let at = used_cell s image r c live.0 live.1 some in
    let x = of_value s image m end (cell.key_of (words_in image r) c) r c (cell.state_of (words_in image r) c) (cell.length_of (words_in image r) c ∷ value_at (words_in image r) c) at in
    ⊎_elim (λ a. absurd (no s r x.2.region (heap_from s r live.0) x.2.in_index a.0)) (λ a. (x.1, x.2, a.0, a.1)) x.4
  where
    live_some : (n : ℕ) → n ≡ 1 → n ≢ 0
    live_some n a b = omega (arith, a, b)

    no : (z : Sizes) (a b : ℕ) → z.index ≤ a → b < z.index → a ≡ b → ⊥
    no z a b x y e = omega (arith, x, y, e)

-- ---- the index
-- the entry of a value is live
lives_live : (s : Sizes) (image : List (List ℕ)) (k : ℕ) (v : List ℕ) → IsImage s image → (h : Lives s (part s image k) v) → IsLiveEntry s image h.region h.slot × (entry.key_of (words_in image h.region) h.slot ≡ k) × (entry.place_of (words_in image h.region) h.slot ≡ h.at)
lives_live s image k v form h =
    let at : _ ≡ 1 ∷ h.at ∷ [] = sym (part_entry s image k h.region h.slot (index_kind s h.region h.in_index)) ∙ h.entry in
    let is = entry_is k (words_in image h.region) h.slot 1 (h.at ∷ []) at in
    let small = entry_none k (words_in image h.region) h.slot 1 (h.at ∷ []) (form.words h.region (below s h.region h.in_index)) at in
    ((h.in_index, small, is.0), is.2, first (entry.place_of (words_in image h.region) h.slot) h.at is.1)
  where
    first : (a b : ℕ) → a ∷ [] ≡ b ∷ [] → a ≡ b
    first a b e = cc (e)

    below : (z : Sizes) (r : ℕ) → r < z.index → r < z.index + z.heap
    below z r l = omega (arith, l)

-- the cell of a value is live
lives_cell : (s : Sizes) (image : List (List ℕ)) (k : ℕ) (v : List ℕ) (h : Lives s (part s image k) v) → IsLiveCell s image (region_at h.at) (cell_at h.at) × (cell.key_of (words_in image (region_at h.at)) (cell_at h.at) ≡ k) × (cell.length_of (words_in image (region_at h.at)) (cell_at h.at) ≡ h.count)
lives_cell s image k v h =
    let heap = place_heap s h.at h.is_place in
    let is = cell_is k (words_in image (region_at h.at)) (cell_at h.at) 1 (h.count ∷ h.words) (sym (part_cell s image k (region_at h.at) (cell_at h.at) (heap_kind s (region_at h.at) heap.0)) ∙ h.cell.0) in
    ((heap.0, heap.2, heap.3, is.0), is.2, first (cell.length_of (words_in image (region_at h.at)) (cell_at h.at)) h.count (value_at (words_in image (region_at h.at)) (cell_at h.at)) h.words is.1)
  where
    first : (a b : ℕ) (xs ys : List ℕ) → a ∷ xs ≡ b ∷ ys → a ≡ b
    first a b xs ys e = cc (e)

one_entry : (s : Sizes) (image : List (List ℕ)) (m : Map) → IsEnd s image m → (r e q f : ℕ) → IsLiveEntry s image r e → IsLiveEntry s image q f → entry.key_of (words_in image r) e ≡ entry.key_of (words_in image q) f → (r ≡ q) × (e ≡ f)
one_entry s image m end r e q f a b key =
    let x = of_entry s image m end r e a in
    let at : part s image (entry.key_of (words_in image r) e) q f ≡ 1 ∷ entry.place_of (words_in image q) f ∷ [] = part_entry s image (entry.key_of (words_in image r) e) q f (index_kind s q b.0) ∙ there (entry.key_of (words_in image r) e) (entry.key_of (words_in image q) f) (entry.state_of (words_in image q) f) (entry.place_of (words_in image q) f ∷ []) key b.2 in
    let y = lives_entry s (part s image (entry.key_of (words_in image r) e)) x.0 x.1 q f (entry.place_of (words_in image q) f ∷ []) b.0 at in
    (x.3 ∙ sym y.0, x.4 ∙ sym y.1)
  where
    there : (k key state : ℕ) (rest : List ℕ) → k ≡ key → state ≡ 1 → Rattle.dali_access.proofs.IndexLemmas.Slots.seen k state key rest ≡ 1 ∷ rest
    there k key state rest same one = subst (λ y. Rattle.dali_access.proofs.IndexLemmas.Slots.seen y state key rest ≡ 1 ∷ rest) (sym same) (subst (λ y. Rattle.dali_access.proofs.IndexLemmas.Slots.seen key y key rest ≡ 1 ∷ rest) (sym one) (seen_used key 1 rest (λ z. omega arith)))

reached_of : (s : Sizes) (image : List (List ℕ)) (m : Map) → IsEnd s image m → (r e : ℕ) → IsUsedEntry s image r e → is_reached s image (entry.key_of (words_in image r) e) r ≡ true
reached_of s image m end r e used =
    let some : entry.state_of (words_in image r) e ≢ 0 = some (entry.state_of (words_in image r) e) used.2 in
    reach_tests s image (entry.key_of (words_in image r) e) r (end.reached (entry.key_of (words_in image r) e) r e (entry.state_of (words_in image r) e) (entry.place_of (words_in image r) e ∷ []) used.0 (used_entry s image r e used.0 some))
  where
    some : (n : ℕ) → (n ≡ 1) ⊎ (n ≡ 2) → n ≢ 0
    some n (inl a) b = omega (arith, a, b)
    some n (inr a) b = omega (arith, a, b)

abbrev Names : Sizes → List (List ℕ) → ℕ → ℕ → Type 0
Names s image k p = (is_place s p ≡ true) × IsLiveCell s image (region_at p) (cell_at p) × (cell.key_of (words_in image (region_at p)) (cell_at p) ≡ k)

names_cell : (s : Sizes) (image : List (List ℕ)) (m : Map) → IsEnd s image m → (r e : ℕ) → IsLiveEntry s image r e → Names s image (entry.key_of (words_in image r) e) (entry.place_of (words_in image r) e)
names_cell s image m end r e live =
    let x = of_entry s image m end r e live in
    let c = lives_cell s image (entry.key_of (words_in image r) e) x.0 x.1 in
    let here : Names s image (entry.key_of (words_in image r) e) x.1.at = (x.1.is_place, c.0, c.1) in
    subst (λ p. Names s image (entry.key_of (words_in image r) e) p) (sym x.5) here

is_named : (s : Sizes) (image : List (List ℕ)) (m : Map) → IsEnd s image m → (r c : ℕ) → IsLiveCell s image r c → (q e : ℕ) × IsLiveEntry s image q e × (entry.place_of (words_in image q) e ≡ place r c)
is_named s image m end r c live =
    let x = of_cell s image m end r c live in
    let l = lives_live s image (cell.key_of (words_in image r) c) x.0 end.form x.1 in
    let at : place r c ≡ x.1.at = ap (λ y. place y c) x.2 ∙ ap (λ y. place (region_at x.1.at) y) x.3 ∙ place_at x.1.at in
    (x.1.region, x.1.slot, l.0, l.2 ∙ sym at)

pub ended_indexed : (s : Sizes) (image : List (List ℕ)) (m : Map) → IsEnd s image m → IsIndexed s image
ended_indexed s image m end = record {
  one_entry = λ r e q f a b key. one_entry s image m end r e q f a b key;
  reached = λ r e used. reached_of s image m end r e used;
  names_cell = λ r e live. names_cell s image m end r e live;
  is_named = λ r c live. is_named s image m end r c live;
}

-- ---- states and sizes
small : (n : ℕ) → (n ≢ 0 → n ≡ 1) → n < 2
small n h = go (eqb_tells n 0)
  where
    go : (((n == 0) ≡ true) × (n ≡ 0)) ⊎ (((n == 0) ≡ false) × (n ≢ 0)) → n < 2
    go (inl a) = omega (arith, a.1)
    go (inr a) = let one = h a.1 in omega (arith, one)

pub ended_tidy : (s : Sizes) (image : List (List ℕ)) (m : Map) → IsEnd s image m → IsTidy s image
ended_tidy s image m end = record {
  entries = λ r e low b. small (entry.state_of (words_in image r) e) (λ some. (of_value s image m end (entry.key_of (words_in image r) e) r e (entry.state_of (words_in image r) e) (entry.place_of (words_in image r) e ∷ []) (used_entry s image r e low some)).0);
  cells = λ r c kind low b. small (cell.state_of (words_in image r) c) (λ some. (of_value s image m end (cell.key_of (words_in image r) c) r c (cell.state_of (words_in image r) c) (cell.length_of (words_in image r) c ∷ value_at (words_in image r) c) (used_cell s image r c kind low some)).0);
  sizes = λ r c live. size r c live;
}
  where
    size : (r c : ℕ) → IsLiveCell s image r c → is_size (cell.length_of (words_in image r) c) ≡ true
    size r c live =
        let x = of_cell s image m end r c live in
        let l = lives_cell s image (cell.key_of (words_in image r) c) x.0 x.1 in
        let same : cell.length_of (words_in image r) c ≡ x.1.count = ap (λ y. cell.length_of (words_in image y) c) x.2 ∙ ap (λ y. cell.length_of (words_in image (region_at x.1.at)) y) x.3 ∙ l.2 in
        ap is_size same ∙ x.1.cell.1

-- ---- the records
-- an entry that stands for a pair is live
stored_live : (s : Sizes) (image : List (List ℕ)) (r e : ℕ) (p : ℕ × List ℕ) → stored s image r e ≡ Some p → entry.state_of (words_in image r) e ≡ 1
stored_live s image r e p h = go (eqb_tells (entry.state_of (words_in image r) e) 1)
  where
    go : (((entry.state_of (words_in image r) e == 1) ≡ true) × (entry.state_of (words_in image r) e ≡ 1)) ⊎ (((entry.state_of (words_in image r) e == 1) ≡ false) × (entry.state_of (words_in image r) e ≢ 1)) → entry.state_of (words_in image r) e ≡ 1
    go (inl a) = a.1
    go (inr a) = let no : None ≡ Some p = rw (a.0) at h in absurd (cc (no))

abbrev key_in : ℕ → Option (ℕ × List ℕ) → ℕ
key_in n None = n
key_in n (Some p) = p.0

pub ended_records : (s : Sizes) (image : List (List ℕ)) (m : Map) → IsEnd s image m → HasRecords s image m
ended_records s image m end k v = (out, back)
  where
    indexed : IsIndexed s image
    indexed = ended_indexed s image m end

    tidy : IsTidy s image
    tidy = ended_tidy s image m end

    out : Contains (records s image) (k, v) → m k ≡ Some v
    out c =
        let x = records_in s image (k, v) c in
        let live : IsLiveEntry s image x.0 x.1 = (x.2, x.3, stored_live s image x.0 x.1 (k, v) x.4) in
        let y = live_stored s image x.0 x.1 indexed tidy live in
        let both : Some (entry.key_of (words_in image x.0) x.1, y.0) ≡ Some (k, v) = sym y.1 ∙ x.4 in
        let key : entry.key_of (words_in image x.0) x.1 ≡ k = ap (key_in 0) both in
        stands_same s (part s image k) (m k) (Some v) (end.stands k) (live_stands s image k x.0 x.1 v end.form indexed tidy live key x.4)

    back : m k ≡ Some v → Contains (records s image) (k, v)
    back e =
        let h : Lives s (part s image k) v = subst (λ (o : Option (List ℕ)). Stands s (part s image k) o) e (end.stands k) in
        let l = lives_live s image k v end.form h in
        let y = live_stored s image h.region h.slot indexed tidy l.0 in
        let there : stored s image h.region h.slot ≡ Some (k, y.0) = y.1 ∙ ap (λ (z : ℕ). Some (z, y.0)) l.1 in
        let lives : Lives s (part s image k) y.0 = live_stands s image k h.region h.slot y.0 end.form indexed tidy l.0 l.1 there in
        let same : Some y.0 ≡ Some v = stands_same s (part s image k) (Some y.0) (Some v) lives h in
        subst (λ z. Contains (records s image) (k, z)) (item y.0 v same) (in_records s image h.region h.slot (k, y.0) l.0.0 l.0.1 there)
      where
        item : (a b : List ℕ) → Some a ≡ Some b → a ≡ b
        item a b g = cc (g)

-- ---- freed
-- an image whose slots stand for a map, freed, is at the end
pub freed_ended : (s : Sizes) (image : List (List ℕ)) (m : Map) → IsImage s image → ((k : ℕ) → Stands s (part s image k) (m k)) → ((k : ℕ) → Reached s (flags image) k (part s image k)) → IsEnd s (freed s image) m
freed_ended s image m form stands reached = record {
  form = image_freed s image form;
  stands = λ k. subst (λ (P : Part). Stands s P (m k)) (sym (freed_alive s image k form)) (stands_alive s (part s image k) (m k) (stands k));
  reached = λ k. subst (λ (P : Part). Reached s (flags (freed s image)) k P) (sym (freed_alive s image k form)) (rw (flags_freed s image form) (reached_alive s (flags image) k (part s image k) (reached k)));
  no_dead = λ k r i x xs e. none_dead (part s image k) r i x xs (sym (ap (λ (P : Part). P r i) (freed_alive s image k form)) ∙ e);
}

-- so it has the index's invariant and the map's records
pub freed_end : (s : Sizes) (image : List (List ℕ)) (m : Map) → IsImage s image → ((k : ℕ) → Stands s (part s image k) (m k)) → ((k : ℕ) → Reached s (flags image) k (part s image k)) → IsIndexed s (freed s image) × IsTidy s (freed s image) × HasRecords s (freed s image) m
freed_end s image m form stands reached =
    let end = freed_ended s image m form stands reached in
    (ended_indexed s (freed s image) m end, ended_tidy s (freed s image) m end, ended_records s (freed s image) m end)
