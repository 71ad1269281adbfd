-- The gap of a key by what its slots hold, and what a write to one slot makes of it.
use Rattle.std.proofs.Common.{◌≡◌, ◌≢◌, ℕ, ◌<◌, ◌≤◌, Bool, true, false, List, [], ◌∷◌, refl, ap, sym, subst, ◌∙◌, ◌⊎◌, inl, inr, ⊎_elim, arith}
use Rattle.std.specs.Prelude.{nat_le, ◌&&◌}
use Rattle.std.proofs.lemmas.Bool.Decides.{nat_tests}
use Rattle.dali_lists.proofs.Numbers.{one_not_two}
use Rattle.dali_geometry.specs.Sizes.{Sizes}
use Rattle.dali_geometry.specs.Places.{is_heap, is_place, region_at, cell_at, place}
use Rattle.dali_access.specs.Index.Invariant.{Gap, Matched, CellAlone, EntryAlone}
use Rattle.dali_access.proofs.IndexLemmas.Parts.{Part, put_part, put_part-same, put_part-other, put_part-cases, same_slot}

-- ---- places
-- a place names a heap region's cell
pub place_heap : (s : Sizes) (p : ℕ) → is_place s p ≡ true → (is_heap s (region_at p) ≡ true) × (s.index ≤ region_at p) × (0 < cell_at p) × (cell_at p < 8)
place_heap s p h = go (is_heap s (region_at p)) refl h
  where
    go : (b : Bool) → is_heap s (region_at p) ≡ b → (b && nat_le 1 (cell_at p)) ≡ true → (is_heap s (region_at p) ≡ true) × (s.index ≤ region_at p) × (0 < cell_at p) × (cell_at p < 8)
    go true e g = (e, low s (region_at p) e, some (cell_at p) g, omega arith)
      where
        low : (z : Sizes) (r : ℕ) → is_heap z r ≡ true → z.index ≤ r
        low z r x = grind (arith, nat_tests)

        some : (c : ℕ) → nat_le 1 c ≡ true → 0 < c
        some c x = grind (arith, nat_tests)
    go false e g = absurd (cc)

pub region_place : (r c : ℕ) → c < 8 → region_at (place r c) ≡ r
region_place r c h = omega arith

pub cell_place : (r c : ℕ) → c < 8 → cell_at (place r c) ≡ c
cell_place r c h = omega arith

pub is_place_of : (s : Sizes) (r c : ℕ) → is_heap s r ≡ true → 1 ≤ c → c < 8 → is_place s (place r c) ≡ true
is_place_of s r c heap low high = by_parts (region_at (place r c)) (cell_at (place r c)) (region_place r c high) (cell_place r c high)
  where
    test : nat_le 1 c ≡ true
    test = grind (arith, nat_tests)

    by_parts : (q d : ℕ) → q ≡ r → d ≡ c → (is_heap s q && nat_le 1 d) ≡ true
    by_parts q d a b = rw (a, b, heap, test) refl

-- two cells with one region and one number have one place
pub place_same : (p q : ℕ) → region_at p ≡ region_at q → cell_at p ≡ cell_at q → p ≡ q
place_same p q a b = omega arith

-- ---- gaps
abbrev pub LiveEntry : Sizes → Part → ℕ → ℕ → ℕ → Type 0
LiveEntry s P r e p = (r < s.index) × (P r e ≡ 1 ∷ p ∷ [])

abbrev pub CellOf : Part → ℕ → List ℕ
CellOf P p = P (region_at p) (cell_at p)

abbrev pub StateOfCell : Sizes → Part → ℕ → ℕ → Type 0
StateOfCell s P p x = (is_place s p ≡ true) × (xs : List ℕ) × (CellOf P p ≡ x ∷ xs)

pub record PartMatched (s : Sizes) (P : Part) : Type 0 where
  pub one_entry : (r e p q f o : ℕ) → LiveEntry s P r e p → LiveEntry s P q f o → (r ≡ q) × (e ≡ f)
  pub names_cell : (r e p : ℕ) → LiveEntry s P r e p → StateOfCell s P p 1
  pub is_named : (p : ℕ) → StateOfCell s P p 1 → (r e : ℕ) × LiveEntry s P r e p

pub record PartCellAlone (s : Sizes) (P : Part) (p : ℕ) : Type 0 where
  pub cell : StateOfCell s P p 1
  pub one_cell : (q : ℕ) → StateOfCell s P q 1 → q ≡ p
  pub no_entry : (r e q : ℕ) → ¬ LiveEntry s P r e q

pub record PartEntryAlone (s : Sizes) (P : Part) (r e : ℕ) : Type 0 where
  pub at : ℕ
  pub entry : LiveEntry s P r e at
  pub one_entry : (q f o : ℕ) → LiveEntry s P q f o → (q ≡ r) × (f ≡ e)
  pub dead : StateOfCell s P at 2
  pub no_cell : (p : ℕ) → ¬ StateOfCell s P p 1

abbrev pub FitsPart : Sizes → Part → Gap → Type 0
FitsPart s P Matched = PartMatched s P
FitsPart s P (CellAlone p) = PartCellAlone s P p
FitsPart s P (EntryAlone r e) = PartEntryAlone s P r e

-- ---- a slot that is put

-- an index region's slot isn't a cell's
apart_cell : (s : Sizes) (r p : ℕ) → r < s.index → is_place s p ≡ true → region_at p ≢ r
apart_cell s r p low h e = let x = place_heap s p h in omega (arith, x.1, e)

-- a slot of an index region that was put, and cells
cell_stays : (s : Sizes) (P : Part) (r i : ℕ) (xs : List ℕ) (p x : ℕ) → r < s.index → StateOfCell s P p x → StateOfCell s (put_part P r i xs) p x
cell_stays s P r i xs p x low h = (h.0, h.1, put_part-other P r i xs (region_at p) (cell_at p) (inl (apart_cell s r p low h.0)) ∙ h.2)

cell_stood : (s : Sizes) (P : Part) (r i : ℕ) (xs : List ℕ) (p x : ℕ) → r < s.index → StateOfCell s (put_part P r i xs) p x → StateOfCell s P p x
cell_stood s P r i xs p x low h = (h.0, h.1, sym (put_part-other P r i xs (region_at p) (cell_at p) (inl (apart_cell s r p low h.0))) ∙ h.2)

-- a slot of a heap region that was put, and entries
entry_stays : (s : Sizes) (P : Part) (r i : ℕ) (xs : List ℕ) (q f o : ℕ) → s.index ≤ r → LiveEntry s P q f o → LiveEntry s (put_part P r i xs) q f o
entry_stays s P r i xs q f o high h = (h.0, put_part-other P r i xs q f (inl (λ e. omega (arith, h.0, high, e))) ∙ h.1)

entry_stood : (s : Sizes) (P : Part) (r i : ℕ) (xs : List ℕ) (q f o : ℕ) → s.index ≤ r → LiveEntry s (put_part P r i xs) q f o → LiveEntry s P q f o
entry_stood s P r i xs q f o high h = (h.0, sym (put_part-other P r i xs q f (inl (λ e. omega (arith, h.0, high, e)))) ∙ h.1)

-- a live entry after a slot was put: the one that was put, or one that stood
entry_after : (s : Sizes) (P : Part) (r i : ℕ) (xs : List ℕ) (q f o : ℕ) → LiveEntry s (put_part P r i xs) q f o → ((q ≡ r) × (f ≡ i) × (xs ≡ 1 ∷ o ∷ [])) ⊎ (((q ≢ r) ⊎ (f ≢ i)) × LiveEntry s P q f o)
entry_after s P r i xs q f o h = ⊎_elim (λ a. inl (a.0, a.1, sym a.2 ∙ h.1)) (λ a. inr (a.0, (h.0, sym a.1 ∙ h.1))) (put_part-cases P r i xs q f)

-- a cell after a slot was put: the one that was put, or one that stood
cell_after : (s : Sizes) (P : Part) (r i : ℕ) (xs : List ℕ) (p x : ℕ) → StateOfCell s (put_part P r i xs) p x → ((region_at p ≡ r) × (cell_at p ≡ i) × (ys : List ℕ) × (xs ≡ x ∷ ys)) ⊎ (((region_at p ≢ r) ⊎ (cell_at p ≢ i)) × StateOfCell s P p x)
cell_after s P r i xs p x h = ⊎_elim (λ a. inl (a.0, a.1, h.1, sym a.2 ∙ h.2)) (λ a. inr (a.0, (h.0, h.1, sym a.1 ∙ h.2))) (put_part-cases P r i xs (region_at p) (cell_at p))

cell_kept : (s : Sizes) (P : Part) (r i : ℕ) (xs : List ℕ) (p x : ℕ) → (region_at p ≢ r) ⊎ (cell_at p ≢ i) → StateOfCell s P p x → StateOfCell s (put_part P r i xs) p x
cell_kept s P r i xs p x a h = (h.0, h.1, put_part-other P r i xs (region_at p) (cell_at p) a ∙ h.2)

entry_kept : (s : Sizes) (P : Part) (r i : ℕ) (xs : List ℕ) (q f o : ℕ) → (q ≢ r) ⊎ (f ≢ i) → LiveEntry s P q f o → LiveEntry s (put_part P r i xs) q f o
entry_kept s P r i xs q f o a h = (h.0, put_part-other P r i xs q f a ∙ h.1)

no_nothing : (x : ℕ) (xs : List ℕ) → [] ≡ x ∷ xs → ⊥
no_nothing x xs e = absurd (cc (e))

same_state : (x y : ℕ) (xs ys : List ℕ) → x ∷ xs ≡ y ∷ ys → x ≡ y
same_state x y xs ys e = cc (e)

same_place : (p q : ℕ) → 1 ∷ p ∷ [] ≡ 1 ∷ q ∷ [] → p ≡ q
same_place p q e = cc (e)

-- ---- put: a cell is alone
pub gap_put : (s : Sizes) (P : Part) (r c : ℕ) (xs : List ℕ) → PartMatched s P → ((q f o : ℕ) → ¬ LiveEntry s P q f o) → is_heap s r ≡ true → s.index ≤ r → 1 ≤ c → c < 8 → PartCellAlone s (put_part P r c (1 ∷ xs)) (place r c)
gap_put s P r c xs m none heap high low few = record {
  cell = (is_place_of s r c heap low few, xs, rw (region_place r c few, cell_place r c few) (put_part-same P r c (1 ∷ xs)));
  one_cell = λ q h. ⊎_elim (λ a. place_same q (place r c) (a.0 ∙ sym (region_place r c few)) (a.1 ∙ sym (cell_place r c few))) (λ a. let x = m.is_named q a.1 in absurd (none x.0 x.1 q x.2)) (cell_after s P r c (1 ∷ xs) q 1 h);
  no_entry = λ q f o h. none q f o (entry_stood s P r c (1 ∷ xs) q f o high h);
}

-- ---- add: they match
pub gap_add : (s : Sizes) (P : Part) (r e p : ℕ) → PartCellAlone s P p → r < s.index → PartMatched s (put_part P r e (1 ∷ p ∷ []))
gap_add s P r e p alone low = record {
  one_entry = λ q f o q2 f2 o2 a b. let x = only q f o a in let y = only q2 f2 o2 b in (x.0 ∙ sym y.0, x.1 ∙ sym y.1);
  names_cell = λ q f o h. subst (λ x. StateOfCell s (put_part P r e (1 ∷ p ∷ [])) x 1) (only q f o h).2 (cell_stays s P r e (1 ∷ p ∷ []) p 1 low alone.cell);
  is_named = λ q h. (r, e, (low, put_part-same P r e (1 ∷ p ∷ []) ∙ ap (λ x. 1 ∷ x ∷ []) (sym (alone.one_cell q (cell_stood s P r e (1 ∷ p ∷ []) q 1 low h)))));
}
  where
    only : (q f o : ℕ) → LiveEntry s (put_part P r e (1 ∷ p ∷ [])) q f o → (q ≡ r) × (f ≡ e) × (p ≡ o)
    only q f o h = ⊎_elim (λ a. (a.0, a.1, same_place p o a.2)) (λ a. absurd (alone.no_entry q f o a.1)) (entry_after s P r e (1 ∷ p ∷ []) q f o h)

-- ---- the cell is killed: the entry is alone
pub gap_kill_cell : (s : Sizes) (P : Part) (q e p : ℕ) (xs : List ℕ) → PartMatched s P → LiveEntry s P q e p → PartEntryAlone s (put_part P (region_at p) (cell_at p) (2 ∷ xs)) q e
gap_kill_cell s P q e p xs m h =
    let named = m.names_cell q e p h in
    let heap = place_heap s p named.0 in
    record {
      at = p;
      entry = entry_stays s P (region_at p) (cell_at p) (2 ∷ xs) q e p heap.1 h;
      one_entry = λ q2 f2 o2 a. m.one_entry q2 f2 o2 q e p (entry_stood s P (region_at p) (cell_at p) (2 ∷ xs) q2 f2 o2 heap.1 a) h;
      dead = (named.0, xs, put_part-same P (region_at p) (cell_at p) (2 ∷ xs));
      no_cell = λ o a. ⊎_elim (λ b. one_not_two (sym (same_state 2 1 xs b.2 b.3))) (λ b. none named.0 o b.0 b.1) (cell_after s P (region_at p) (cell_at p) (2 ∷ xs) o 1 a);
    }
  where
    none : is_place s p ≡ true → (o : ℕ) → (region_at o ≢ region_at p) ⊎ (cell_at o ≢ cell_at p) → StateOfCell s P o 1 → ⊥
    none g o other live =
        let x = m.is_named o live in
        let y = m.one_entry x.0 x.1 o q e p x.2 h in
        let there : P x.0 x.1 ≡ P q e = ap (λ z. P z x.1) y.0 ∙ ap (λ z. P q z) y.1 in
        let same : o ≡ p = same_place o p (sym x.2.1 ∙ there ∙ h.1) in
        ⊎_elim (λ b. b (ap region_at same)) (λ b. b (ap cell_at same)) other

-- ---- the entry is killed: they match
pub gap_kill_entry : (s : Sizes) (P : Part) (r e : ℕ) (xs : List ℕ) → PartEntryAlone s P r e → PartMatched s (put_part P r e (2 ∷ xs))
gap_kill_entry s P r e xs alone = record {
  one_entry = λ q f o q2 f2 o2 a b. absurd (none q f o a);
  names_cell = λ q f o a. absurd (none q f o a);
  is_named = λ p h. absurd (alone.no_cell p (cell_stood s P r e (2 ∷ xs) p 1 alone.entry.0 h));
}
  where
    none : (q f o : ℕ) → LiveEntry s (put_part P r e (2 ∷ xs)) q f o → ⊥
    none q f o h = ⊎_elim (λ a. one_not_two (sym (same_state 2 1 xs (o ∷ []) a.2))) (λ a. let x = alone.one_entry q f o a.1 in ⊎_elim (λ b. b x.0) (λ b. b x.1) a.0) (entry_after s P r e (2 ∷ xs) q f o h)

-- ---- the value of a cell changes: each gap stays
state_kept : (s : Sizes) (P : Part) (r c x : ℕ) (ys zs : List ℕ) (p y : ℕ) → P r c ≡ x ∷ ys → StateOfCell s P p y → StateOfCell s (put_part P r c (x ∷ zs)) p y
state_kept s P r c x ys zs p y was h = ⊎_elim same (λ a. cell_kept s P r c (x ∷ zs) p y a h) (same_slot (region_at p) (cell_at p) r c)
  where
    same : (region_at p ≡ r) × (cell_at p ≡ c) → StateOfCell s (put_part P r c (x ∷ zs)) p y
    same a =
        let there : CellOf P p ≡ P r c = ap (λ z. P z (cell_at p)) a.0 ∙ ap (λ z. P r z) a.1 in
        let e : x ≡ y = same_state x y ys h.1 (sym was ∙ sym there ∙ h.2) in
        (h.0, zs, ap (λ z. put_part P r c (x ∷ zs) z (cell_at p)) a.0 ∙ ap (λ z. put_part P r c (x ∷ zs) r z) a.1 ∙ put_part-same P r c (x ∷ zs) ∙ ap (λ z. z ∷ zs) e)

state_stood : (s : Sizes) (P : Part) (r c x : ℕ) (ys zs : List ℕ) (p y : ℕ) → P r c ≡ x ∷ ys → StateOfCell s (put_part P r c (x ∷ zs)) p y → StateOfCell s P p y
state_stood s P r c x ys zs p y was h = ⊎_elim same (λ a. a.1) (cell_after s P r c (x ∷ zs) p y h)
  where
    same : (region_at p ≡ r) × (cell_at p ≡ c) × (us : List ℕ) × (x ∷ zs ≡ y ∷ us) → StateOfCell s P p y
    same a = (h.0, ys, ap (λ z. P z (cell_at p)) a.0 ∙ ap (λ z. P r z) a.1 ∙ was ∙ ap (λ z. z ∷ ys) (same_state x y zs a.2 a.3))

pub gap_change : (s : Sizes) (P : Part) (r c x : ℕ) (ys zs : List ℕ) (g : Gap) → s.index ≤ r → P r c ≡ x ∷ ys → FitsPart s P g → FitsPart s (put_part P r c (x ∷ zs)) g
gap_change s P r c x ys zs Matched high was m = record {
  one_entry = λ q f o q2 f2 o2 a b. m.one_entry q f o q2 f2 o2 (entry_stood s P r c (x ∷ zs) q f o high a) (entry_stood s P r c (x ∷ zs) q2 f2 o2 high b);
  names_cell = λ q f o a. state_kept s P r c x ys zs o 1 was (m.names_cell q f o (entry_stood s P r c (x ∷ zs) q f o high a));
  is_named = λ p a. let n = m.is_named p (state_stood s P r c x ys zs p 1 was a) in (n.0, n.1, entry_stays s P r c (x ∷ zs) n.0 n.1 p high n.2);
}
gap_change s P r c x ys zs (CellAlone p) high was m = record {
  cell = state_kept s P r c x ys zs p 1 was m.cell;
  one_cell = λ q a. m.one_cell q (state_stood s P r c x ys zs q 1 was a);
  no_entry = λ q f o a. m.no_entry q f o (entry_stood s P r c (x ∷ zs) q f o high a);
}
gap_change s P r c x ys zs (EntryAlone q e) high was m = record {
  at = m.at;
  entry = entry_stays s P r c (x ∷ zs) q e m.at high m.entry;
  one_entry = λ q2 f o a. m.one_entry q2 f o (entry_stood s P r c (x ∷ zs) q2 f o high a);
  dead = state_kept s P r c x ys zs m.at 2 was m.dead;
  no_cell = λ p a. m.no_cell p (state_stood s P r c x ys zs p 1 was a);
}

-- ---- the cell alone is freed: they match
pub gap_free_cell : (s : Sizes) (P : Part) (p : ℕ) → PartCellAlone s P p → PartMatched s (put_part P (region_at p) (cell_at p) [])
gap_free_cell s P p alone =
    let heap = place_heap s p alone.cell.0 in
    record {
      one_entry = λ q f o q2 f2 o2 a b. absurd (alone.no_entry q f o (entry_stood s P (region_at p) (cell_at p) [] q f o heap.1 a));
      names_cell = λ q f o a. absurd (alone.no_entry q f o (entry_stood s P (region_at p) (cell_at p) [] q f o heap.1 a));
      is_named = λ q a. ⊎_elim (λ b. absurd (no_nothing 1 b.2 b.3)) (λ b. let e = alone.one_cell q b.1 in absurd (⊎_elim (λ n. n (ap region_at e)) (λ n. n (ap cell_at e)) b.0)) (cell_after s P (region_at p) (cell_at p) [] q 1 a);
    }

-- ---- a dead cell is freed: they still match
pub gap_dead_cell : (s : Sizes) (P : Part) (p : ℕ) → StateOfCell s P p 2 → PartMatched s P → PartMatched s (put_part P (region_at p) (cell_at p) [])
gap_dead_cell s P p dead m =
    let heap = place_heap s p dead.0 in
    record {
      one_entry = λ q f o q2 f2 o2 a b. m.one_entry q f o q2 f2 o2 (entry_stood s P (region_at p) (cell_at p) [] q f o heap.1 a) (entry_stood s P (region_at p) (cell_at p) [] q2 f2 o2 heap.1 b);
      names_cell = λ q f o a. let live = m.names_cell q f o (entry_stood s P (region_at p) (cell_at p) [] q f o heap.1 a) in cell_kept s P (region_at p) (cell_at p) [] o 1 (apart o live) live;
      is_named = λ q a. ⊎_elim (λ b. absurd (no_nothing 1 b.2 b.3)) (λ b. let n = m.is_named q b.1 in (n.0, n.1, entry_stays s P (region_at p) (cell_at p) [] n.0 n.1 q heap.1 n.2)) (cell_after s P (region_at p) (cell_at p) [] q 1 a);
    }
  where
    apart : (o : ℕ) → StateOfCell s P o 1 → (region_at o ≢ region_at p) ⊎ (cell_at o ≢ cell_at p)
    apart o live = ⊎_elim (λ a. let there : CellOf P o ≡ CellOf P p = ap (λ z. P z (cell_at o)) a.0 ∙ ap (λ z. P (region_at p) z) a.1 in absurd (one_not_two (same_state 1 2 live.1 dead.1 (sym live.2 ∙ there ∙ dead.2)))) (λ a. a) (same_slot (region_at o) (cell_at o) (region_at p) (cell_at p))

-- ---- the live entry is freed: its cell is alone
pub gap_free_entry : (s : Sizes) (P : Part) (r e p : ℕ) → PartMatched s P → LiveEntry s P r e p → PartCellAlone s (put_part P r e []) p
gap_free_entry s P r e p m h = record {
  cell = cell_stays s P r e [] p 1 h.0 (m.names_cell r e p h);
  one_cell = λ q a. one q (cell_stood s P r e [] q 1 h.0 a);
  no_entry = λ q f o a. ⊎_elim (λ b. no_nothing 1 (o ∷ []) b.2) (λ b. let x = m.one_entry q f o r e p b.1 h in ⊎_elim (λ n. n x.0) (λ n. n x.1) b.0) (entry_after s P r e [] q f o a);
}
  where
    one : (q : ℕ) → StateOfCell s P q 1 → q ≡ p
    one q live =
        let x = m.is_named q live in
        let y = m.one_entry x.0 x.1 q r e p x.2 h in
        let there : P x.0 x.1 ≡ P r e = ap (λ z. P z x.1) y.0 ∙ ap (λ z. P r z) y.1 in
        same_place q p (sym x.2.1 ∙ there ∙ h.1)

-- ---- a dead entry is freed: each gap stays
module _ (s : Sizes) (P : Part) (r e : ℕ) (ys : List ℕ) (low : r < s.index) (was : P r e ≡ 2 ∷ ys) where
  dead_apart : (q f o : ℕ) → LiveEntry s P q f o → (q ≢ r) ⊎ (f ≢ e)
  dead_apart q f o h = ⊎_elim (λ a. let there : P q f ≡ P r e = ap (λ z. P z f) a.0 ∙ ap (λ z. P r z) a.1 in absurd (one_not_two (same_state 1 2 (o ∷ []) ys (sym h.1 ∙ there ∙ was)))) (λ a. a) (same_slot q f r e)

  live_kept : (q f o : ℕ) → LiveEntry s P q f o → LiveEntry s (put_part P r e []) q f o
  live_kept q f o h = entry_kept s P r e [] q f o (dead_apart q f o h) h

  live_stood : (q f o : ℕ) → LiveEntry s (put_part P r e []) q f o → LiveEntry s P q f o
  live_stood q f o h = ⊎_elim (λ a. absurd (no_nothing 1 (o ∷ []) a.2)) (λ a. a.1) (entry_after s P r e [] q f o h)

  pub gap_dead_entry : (g : Gap) → FitsPart s P g → FitsPart s (put_part P r e []) g
  gap_dead_entry Matched m = record {
    one_entry = λ q f o q2 f2 o2 a b. m.one_entry q f o q2 f2 o2 (live_stood q f o a) (live_stood q2 f2 o2 b);
    names_cell = λ q f o a. cell_stays s P r e [] o 1 low (m.names_cell q f o (live_stood q f o a));
    is_named = λ p a. let n = m.is_named p (cell_stood s P r e [] p 1 low a) in (n.0, n.1, live_kept n.0 n.1 p n.2);
  }
  gap_dead_entry (CellAlone p) m = record {
    cell = cell_stays s P r e [] p 1 low m.cell;
    one_cell = λ q a. m.one_cell q (cell_stood s P r e [] q 1 low a);
    no_entry = λ q f o a. m.no_entry q f o (live_stood q f o a);
  }
  gap_dead_entry (EntryAlone q f) m = record {
    at = m.at;
    entry = live_kept q f m.at m.entry;
    one_entry = λ q2 f2 o2 a. m.one_entry q2 f2 o2 (live_stood q2 f2 o2 a);
    dead = cell_stays s P r e [] m.at 2 low m.dead;
    no_cell = λ p a. m.no_cell p (cell_stood s P r e [] p 1 low a);
  }

-- ---- the dead cell of the entry alone is revived: they match
pub gap_revive_cell : (s : Sizes) (P : Part) (q e : ℕ) (xs : List ℕ) (alone : PartEntryAlone s P q e) → PartMatched s (put_part P (region_at alone.at) (cell_at alone.at) (1 ∷ xs))
gap_revive_cell s P q e xs alone =
    let heap = place_heap s alone.at alone.dead.0 in
    record {
      one_entry = λ q1 f1 o1 q2 f2 o2 a b.
          let x = alone.one_entry q1 f1 o1 (entry_stood s P (region_at alone.at) (cell_at alone.at) (1 ∷ xs) q1 f1 o1 heap.1 a) in
          let y = alone.one_entry q2 f2 o2 (entry_stood s P (region_at alone.at) (cell_at alone.at) (1 ∷ xs) q2 f2 o2 heap.1 b) in
          (x.0 ∙ sym y.0, x.1 ∙ sym y.1);
      names_cell = λ q1 f1 o1 a. named q1 f1 o1 (entry_stood s P (region_at alone.at) (cell_at alone.at) (1 ∷ xs) q1 f1 o1 heap.1 a);
      is_named = λ p a. ⊎_elim (λ b. let e2 : alone.at ≡ p = place_same alone.at p (sym b.0) (sym b.1) in (q, e, subst (λ z. LiveEntry s (put_part P (region_at alone.at) (cell_at alone.at) (1 ∷ xs)) q e z) e2 (entry_stays s P (region_at alone.at) (cell_at alone.at) (1 ∷ xs) q e alone.at heap.1 alone.entry))) (λ b. absurd (alone.no_cell p b.1)) (cell_after s P (region_at alone.at) (cell_at alone.at) (1 ∷ xs) p 1 a);
    }
  where
    named : (q1 f1 o1 : ℕ) → LiveEntry s P q1 f1 o1 → StateOfCell s (put_part P (region_at alone.at) (cell_at alone.at) (1 ∷ xs)) o1 1
    named q1 f1 o1 h =
        let x = alone.one_entry q1 f1 o1 h in
        let there : P q1 f1 ≡ P q e = ap (λ z. P z f1) x.0 ∙ ap (λ z. P q z) x.1 in
        let same : alone.at ≡ o1 = same_place alone.at o1 (sym alone.entry.1 ∙ sym there ∙ h.1) in
        subst (λ z. StateOfCell s (put_part P (region_at alone.at) (cell_at alone.at) (1 ∷ xs)) z 1) same (alone.dead.0, xs, put_part-same P (region_at alone.at) (cell_at alone.at) (1 ∷ xs))

-- ---- a dead entry is revived: it is alone
pub gap_revive_entry : (s : Sizes) (P : Part) (r e p : ℕ) → PartMatched s P → ((q f o : ℕ) → ¬ LiveEntry s P q f o) → r < s.index → StateOfCell s P p 2 → PartEntryAlone s (put_part P r e (1 ∷ p ∷ [])) r e
gap_revive_entry s P r e p m none low dead = record {
  at = p;
  entry = (low, put_part-same P r e (1 ∷ p ∷ []));
  one_entry = λ q f o a. ⊎_elim (λ b. (b.0, b.1)) (λ b. absurd (none q f o b.1)) (entry_after s P r e (1 ∷ p ∷ []) q f o a);
  dead = cell_stays s P r e (1 ∷ p ∷ []) p 2 low dead;
  no_cell = λ q a. let x = m.is_named q (cell_stood s P r e (1 ∷ p ∷ []) q 1 low a) in none x.0 x.1 q x.2;
}
