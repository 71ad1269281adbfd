-- The gap of a key in the words of an image, and by what its slots hold.
use Rattle.std.proofs.Common.{◌≡◌, ◌≢◌, ℕ, ◌+◌, ◌<◌, ◌≤◌, true, false, List, [], ◌∷◌, refl, ap, sym, subst, ◌∙◌, ◌⊎◌, inl, inr, ⊎_elim, arith}
use Rattle.std.specs.Prelude.{◌==◌}
use Rattle.std.proofs.lemmas.Bool.Decides.{nat_tests}
use Rattle.std.proofs.lemmas.Bool.{ne_eqb}
use Rattle.dali_geometry.specs.Sizes.{Sizes}
use Rattle.dali_geometry.specs.Places.{is_index, is_heap, region_at, cell_at}
use Rattle.dali_access.specs.Heap.Cells as cell
use Rattle.dali_access.specs.Index.Entries as entry
use Rattle.dali_access.specs.Index.Records.{words_of, is_reached}
use Rattle.dali_access.specs.Index.Invariant.{IsImage, IsUsedEntry, EntryIs, CellIs, HasEntry, HasDeadCell, Gap, Matched, CellAlone, EntryAlone, Fits, entry_key, entry_place}
use Rattle.dali_access.proofs.IndexLemmas.Slots.{seen, entry_part, cell_part, value_at, entry_is, cell_is, entry_none, seen_used}
use Rattle.dali_access.proofs.IndexLemmas.Worlds.{Flags, part, flags}
use Rattle.dali_access.proofs.IndexLemmas.Parts.{Part}
use Rattle.dali_access.proofs.IndexLemmas.Reaches.{Reach}
use Rattle.dali_access.proofs.IndexLemmas.Starts.{reach_tests, tests_reach}
use Rattle.dali_access.proofs.IndexLemmas.Gaps.{LiveEntry, StateOfCell, FitsPart, place_heap}

-- ---- regions of each kind
pub part_entry : (s : Sizes) (image : List (List ℕ)) (k r i : ℕ) → is_index s r ≡ true → part s image k r i ≡ entry_part k (words_of image r) i
unfolding part
part_entry s image k r i h = rw h refl

pub part_cell : (s : Sizes) (image : List (List ℕ)) (k r i : ℕ) → is_index s r ≡ false → part s image k r i ≡ cell_part k (words_of image r) i
unfolding part
part_cell s image k r i h = rw h refl

pub index_kind : (s : Sizes) (r : ℕ) → r < s.index → is_index s r ≡ true
index_kind s r l = grind (arith, nat_tests)

pub index_below : (s : Sizes) (r : ℕ) → is_index s r ≡ true → r < s.index
index_below s r l = grind (arith, nat_tests)

pub heap_kind : (s : Sizes) (r : ℕ) → is_heap s r ≡ true → is_index s r ≡ false
heap_kind s r l = grind (arith, nat_tests)

pub heap_bounds : (s : Sizes) (r : ℕ) → is_heap s r ≡ true → (s.index ≤ r) × (r < s.index + s.heap)
heap_bounds s r l = (grind (arith, nat_tests), grind (arith, nat_tests))

one_some : (n x : ℕ) → n ≡ x → x ≢ 0 → n ≢ 0
one_some n x e h g = h (sym e ∙ g)

-- ---- entries
-- what stands in an entry of this key and state
pub entry_seen : (s : Sizes) (image : List (List ℕ)) (k r e x : ℕ) → x ≢ 0 → EntryIs s image k r e x → part s image k r e ≡ x ∷ entry_place image r e ∷ []
entry_seen s image k r e x some h =
    part_entry s image k r e (index_kind s r h.0)
    ∙ ap (λ y. seen y (entry.state_of (words_of image r) e) (entry.key_of (words_of image r) e) (entry.place_of (words_of image r) e ∷ [])) (sym h.3)
    ∙ seen_used (entry.key_of (words_of image r) e) (entry.state_of (words_of image r) e) (entry.place_of (words_of image r) e ∷ []) (one_some (entry.state_of (words_of image r) e) x h.2 some)
    ∙ ap (λ y. y ∷ entry.place_of (words_of image r) e ∷ []) h.2

first_item : (a b : ℕ) → a ∷ [] ≡ b ∷ [] → a ≡ b
first_item a b h = cc (h)

below_all : (s : Sizes) (r : ℕ) → r < s.index → r < s.index + s.heap
below_all s r h = omega (arith, h)

pub seen_entry : (s : Sizes) (image : List (List ℕ)) (k r e x p : ℕ) → IsImage s image → r < s.index → part s image k r e ≡ x ∷ p ∷ [] → EntryIs s image k r e x × (entry_place image r e ≡ p)
seen_entry s image k r e x p form low h =
    let at : entry_part k (words_of image r) e ≡ x ∷ p ∷ [] = sym (part_entry s image k r e (index_kind s r low)) ∙ h in
    let is = entry_is k (words_of image r) e x (p ∷ []) at in
    let few = entry_none k (words_of image r) e x (p ∷ []) (form.words r (below_all s r low)) at in
    ((low, few, is.0, is.2), first_item (entry.place_of (words_of image r) e) p is.1)

pub live_seen : (s : Sizes) (image : List (List ℕ)) (k r e : ℕ) → HasEntry s image k r e → LiveEntry s (part s image k) r e (entry_place image r e)
live_seen s image k r e h = (h.0, entry_seen s image k r e 1 (λ e. omega (arith, e)) h)

-- ---- cells
pub cell_seen : (s : Sizes) (image : List (List ℕ)) (k p x : ℕ) → x ≢ 0 → CellIs s image k p x → StateOfCell s (part s image k) p x
cell_seen s image k p x some h =
    let heap = place_heap s p h.0 in
    let ws : List ℕ = words_of image (region_at p) in
    let c : ℕ = cell_at p in
    let rest : List ℕ = cell.length_of ws c ∷ value_at ws c in
    let no_zero : (c == 0) ≡ false = ne_eqb c 0 (λ e. omega (arith, heap.2, e)) in
    let here : cell_part k ws c ≡ seen k (cell.state_of ws c) (cell.key_of ws c) rest = rw no_zero refl in
    let used : seen k (cell.state_of ws c) (cell.key_of ws c) rest ≡ x ∷ rest =
    ap (λ y. seen y (cell.state_of ws c) (cell.key_of ws c) rest) (sym h.2) ∙ seen_used (cell.key_of ws c) (cell.state_of ws c) rest (one_some (cell.state_of ws c) x h.1 some) ∙ ap (λ y. y ∷ rest) h.1 in
    (h.0, rest, part_cell s image k (region_at p) c (heap_kind s (region_at p) heap.0) ∙ here ∙ used)

pub seen_cell : (s : Sizes) (image : List (List ℕ)) (k p x : ℕ) → StateOfCell s (part s image k) p x → CellIs s image k p x
seen_cell s image k p x h =
    let heap = place_heap s p h.0 in
    let is = cell_is k (words_of image (region_at p)) (cell_at p) x h.1 (sym (part_cell s image k (region_at p) (cell_at p) (heap_kind s (region_at p) heap.0)) ∙ h.2) in
    (h.0, is.0, is.2)

-- ---- gaps
one_not_zero : ◌≢◌ {A = ℕ} 1 0
one_not_zero e = omega (arith, e)

two_not_zero : ◌≢◌ {A = ℕ} 2 0
two_not_zero e = omega (arith, e)

pub fits_part : (s : Sizes) (image : List (List ℕ)) (k : ℕ) (g : Gap) → IsImage s image → Fits s image k g → FitsPart s (part s image k) g
fits_part s image k Matched form m = record {
  one_entry = λ r e p q f o a b. m.one_entry r e q f (seen_entry s image k r e 1 p form a.0 a.1).0 (seen_entry s image k q f 1 o form b.0 b.1).0;
  names_cell = λ r e p a. let x = seen_entry s image k r e 1 p form a.0 a.1 in subst (λ z. StateOfCell s (part s image k) z 1) x.1 (cell_seen s image k (entry_place image r e) 1 one_not_zero (m.names_cell r e x.0));
  is_named = λ p a. let x = m.is_named p (seen_cell s image k p 1 a) in (x.0, x.1, subst (λ z. LiveEntry s (part s image k) x.0 x.1 z) x.3 (live_seen s image k x.0 x.1 x.2));
}
fits_part s image k (CellAlone p) form m = record {
  cell = cell_seen s image k p 1 one_not_zero m.cell;
  one_cell = λ q a. m.one_cell q (seen_cell s image k q 1 a);
  no_entry = λ r e q a. m.no_entry r e (seen_entry s image k r e 1 q form a.0 a.1).0;
}
fits_part s image k (EntryAlone r e) form m = record {
  at = entry_place image r e;
  entry = live_seen s image k r e m.entry;
  one_entry = λ q f o a. m.one_entry q f (seen_entry s image k q f 1 o form a.0 a.1).0;
  dead = cell_seen s image k (entry_place image r e) 2 two_not_zero m.dead;
  no_cell = λ p a. m.no_cell p (seen_cell s image k p 1 a);
}

pub part_fits : (s : Sizes) (image : List (List ℕ)) (k : ℕ) (g : Gap) → IsImage s image → FitsPart s (part s image k) g → Fits s image k g
part_fits s image k Matched form m = record {
  one_entry = λ r e q f a b. m.one_entry r e (entry_place image r e) q f (entry_place image q f) (live_seen s image k r e a) (live_seen s image k q f b);
  names_cell = λ r e a. seen_cell s image k (entry_place image r e) 1 (m.names_cell r e (entry_place image r e) (live_seen s image k r e a));
  is_named = λ p a. let x = m.is_named p (cell_seen s image k p 1 one_not_zero a) in let y = seen_entry s image k x.0 x.1 1 p form x.2.0 x.2.1 in (x.0, x.1, y.0, y.1);
}
part_fits s image k (CellAlone p) form m = record {
  cell = seen_cell s image k p 1 m.cell;
  one_cell = λ q a. m.one_cell q (cell_seen s image k q 1 one_not_zero a);
  no_entry = λ r e a. m.no_entry r e (entry_place image r e) (live_seen s image k r e a);
}
part_fits s image k (EntryAlone r e) form m =
    let x = seen_entry s image k r e 1 m.at form m.entry.0 m.entry.1 in
    record {
      entry = x.0;
      one_entry = λ q f a. m.one_entry q f (entry_place image q f) (live_seen s image k q f a);
      dead = subst (λ z. HasDeadCell s image k z) (sym x.1) (seen_cell s image k m.at 2 m.dead);
      no_cell = λ p a. m.no_cell p (cell_seen s image k p 1 one_not_zero a);
    }

-- ---- reached
abbrev pub PartReached : Sizes → Flags → ℕ → Part → Type 0
PartReached s F k P = (r i x p : ℕ) → r < s.index → P r i ≡ x ∷ p ∷ [] → (x ≡ 1) ⊎ (x ≡ 2) → Reach s F k r

pub reached_part : (s : Sizes) (image : List (List ℕ)) (k : ℕ) → IsImage s image → ((r e : ℕ) → IsUsedEntry s image r e → is_reached s image (entry_key image r e) r ≡ true) → PartReached s (flags image) k (part s image k)
reached_part s image k form h r i x p low e used =
    let is = seen_entry s image k r i x p form low e in
    let state : (entry.state_of (words_of image r) i ≡ 1) ⊎ (entry.state_of (words_of image r) i ≡ 2) = ⊎_elim (λ a. inl (is.0.2 ∙ a)) (λ a. inr (is.0.2 ∙ a)) used in
    tests_reach s image k r (subst (λ z. is_reached s image z r ≡ true) is.0.3 (h r i (low, is.0.1, state)))

pub part_reached : (s : Sizes) (image : List (List ℕ)) → ((k : ℕ) → PartReached s (flags image) k (part s image k)) → (r e : ℕ) → IsUsedEntry s image r e → is_reached s image (entry_key image r e) r ≡ true
part_reached s image h r e used = ⊎_elim (λ a. go 1 one_not_zero (inl refl) a) (λ a. go 2 two_not_zero (inr refl) a) used.2
  where
    go : (x : ℕ) → x ≢ 0 → (x ≡ 1) ⊎ (x ≡ 2) → entry.state_of (words_of image r) e ≡ x → is_reached s image (entry_key image r e) r ≡ true
    go x some which state = reach_tests s image (entry_key image r e) r (h (entry_key image r e) r e x (entry_place image r e) used.0 (entry_seen s image (entry_key image r e) r e x some (used.0, used.1, state, refl)) which)
