-- What each operation on one region keeps of the index's invariant.
use Rattle.std.proofs.Common.{◌≡◌, ◌≢◌, ℕ, ◌+◌, ◌*◌, ◌<◌, ◌≤◌, Bool, true, false, List, [], ◌∷◌, length, get_or, set, refl, ap, sym, subst, ◌∙◌, ◌⊎◌, inl, inr, ⊎_elim, arith, length-set}
use Rattle.std.specs.Prelude.{◌==◌, zip}
use Rattle.std.proofs.lemmas.Bool.Decides.{eqb_tells}
use Rattle.std.proofs.lemmas.Bool.{ne_eqb}
use Rattle.dali_words.specs.declared.Effect.{Effect}
use Rattle.dali_words.specs.declared.KillOutcome.{KillOutcome}
use Rattle.dali_words.specs.declared.KillOutcome.TheVariants.{Killed}
use Rattle.dali_words.specs.Values.{is_size, packed}
use Rattle.dali_words.specs.Effects.{write_all}
use Rattle.dali_words.proofs.Masks.{IsIn, length-write_all}
use Rattle.dali_words.proofs.Rows.{unwritten, zip_within}
use Rattle.dali_geometry.specs.Sizes.{Sizes}
use Rattle.dali_geometry.specs.Places.{is_heap}
use Rattle.dali_access.specs.Heap.Cells as cell
use Rattle.dali_access.specs.Heap.Rows as heap
use Rattle.dali_access.specs.Index.Entries as entry
use Rattle.dali_access.specs.Index.Rows as index
use Rattle.dali_access.specs.Index.Records.{words_of}
use Rattle.dali_access.specs.Index.Invariant.{IsImage, IsIndexedBut, Gap, Fits, with_gap}
use Rattle.dali_access.proofs.IndexLemmas.Slots.{seen, entry_part, cell_part, value_at, Puts, puts_by, cell_same, cell_other, cell_free, seen_used}
use Rattle.dali_access.proofs.IndexLemmas.Worlds.{World, Flags, part, flags, put_at, put_at-cases, part_put, part_kept, flags_kept, words_in-same, words_in-other}
use Rattle.dali_access.proofs.IndexLemmas.Parts.{Part, put_part, put_at-own, put_at-beside}
use Rattle.dali_access.proofs.IndexLemmas.Reaches.{Reach, Rises, reach_rises}
use Rattle.dali_access.proofs.IndexLemmas.Gaps.{FitsPart, gap_change}
use Rattle.dali_access.proofs.IndexLemmas.Fitting.{part_cell, index_kind, heap_kind, heap_bounds, fits_part, part_fits, PartReached, reached_part, part_reached}

-- ---- a region is written
pub written : (s : Sizes) (image : List (List ℕ)) (r : ℕ) (vs : List ℕ) → IsImage s image → r < s.index + s.heap → length vs ≡ 64 → IsImage s (set image r vs)
written s image r vs form within long = record {
  some_index = form.some_index;
  some_heap = form.some_heap;
  count = length-set image r vs ∙ form.count;
  words = λ q h. ⊎_elim (λ a. ap (λ z. length (words_of (set image r vs) z)) a.1 ∙ ap length (words_in-same image r vs (omega (arith, within, form.count))) ∙ long) (λ a. ap length (words_in-other image r vs q a.1) ∙ form.words q h) (eqb_tells q r);
}

abbrev pub Goes : Sizes → List (List ℕ) → (ℕ → Gap) → Type 0
Goes s image gaps = IsImage s image × IsIndexedBut s image gaps

-- one slot of key k was put
slot_step :
    (s : Sizes) (image : List (List ℕ)) (gaps : ℕ → Gap) (k r i : ℕ) (xs vs : List ℕ) (g : Gap)
    → IsImage s image → IsIndexedBut s image gaps → r < s.index + s.heap → length vs ≡ 64
    → part s (set image r vs) ≡ put_at (part s image) k r i xs → flags (set image r vs) ≡ flags image
    → FitsPart s (put_part (part s image k) r i xs) g
    → ((x p : ℕ) → r < s.index → xs ≡ x ∷ p ∷ [] → (x ≡ 1) ⊎ (x ≡ 2) → Reach s (flags image) k r)
    → Goes s (set image r vs) (with_gap k g gaps)
slot_step s image gaps k r i xs vs g form idx within long parts flag fit reach = (new, record { reached = part_reached s (set image r vs) reached; keys = keys })
  where
    new : IsImage s (set image r vs)
    new = written s image r vs form within long

    keys : (q : ℕ) → Fits s (set image r vs) q (with_gap k g gaps q)
    keys q = go (eqb_tells q k)
      where
        own : part s (set image r vs) k ≡ put_part (part s image k) r i xs
        own = ap (λ (W : World). W k) parts ∙ put_at-own (part s image) k r i xs

        go : (((q == k) ≡ true) × (q ≡ k)) ⊎ (((q == k) ≡ false) × (q ≢ k)) → Fits s (set image r vs) q (with_gap k g gaps q)
        go (inl a) = rw (a.0) (subst (λ z. Fits s (set image r vs) z g) (sym a.1) (part_fits s (set image r vs) k g new (subst (λ (P : Part). FitsPart s P g) (sym own) fit)))
        go (inr a) =
            let same : part s (set image r vs) q ≡ part s image q = ap (λ (W : World). W q) parts ∙ put_at-beside (part s image) k r i xs q a.1 in
            rw (a.0) (part_fits s (set image r vs) q (gaps q) new (subst (λ (P : Part). FitsPart s P (gaps q)) (sym same) (fits_part s image q (gaps q) form (idx.keys q))))

    reached : (q : ℕ) → PartReached s (flags (set image r vs)) q (part s (set image r vs) q)
    reached q j t x p low e used = subst (λ (F : Flags). Reach s F q j) (sym flag) (go (put_at-cases (part s image) k r i xs q j t))
      where
        there : put_at (part s image) k r i xs q j t ≡ x ∷ p ∷ []
        there = sym (ap (λ (W : World). W q j t) parts) ∙ e

        go : ((q ≡ k) × (j ≡ r) × (t ≡ i) × (put_at (part s image) k r i xs q j t ≡ xs)) ⊎ (((q ≢ k) ⊎ (j ≢ r) ⊎ (t ≢ i)) × (put_at (part s image) k r i xs q j t ≡ part s image q j t)) → Reach s (flags image) q j
        go (inl a) = subst (λ z. Reach s (flags image) z j) (sym a.0) (subst (λ z. Reach s (flags image) k z) (sym a.1) (reach x p (subst (λ z. z < s.index) a.1 low) (sym a.3 ∙ there) used))
        go (inr a) = reached_part s image q form idx.reached j t x p low (sym a.1 ∙ there) used

-- no slot changed, and flags at most rose
pub same_step :
    (s : Sizes) (image : List (List ℕ)) (gaps : ℕ → Gap) (r : ℕ) (vs : List ℕ)
    → IsImage s image → IsIndexedBut s image gaps → r < s.index + s.heap → length vs ≡ 64
    → part s (set image r vs) ≡ part s image → Rises (flags image) (flags (set image r vs))
    → Goes s (set image r vs) gaps
same_step s image gaps r vs form idx within long parts up = (new, record { reached = part_reached s (set image r vs) reached; keys = keys })
  where
    new : IsImage s (set image r vs)
    new = written s image r vs form within long

    keys : (q : ℕ) → Fits s (set image r vs) q (gaps q)
    keys q = part_fits s (set image r vs) q (gaps q) new (subst (λ (W : World). FitsPart s (W q) (gaps q)) (sym parts) (fits_part s image q (gaps q) form (idx.keys q)))

    reached : (q : ℕ) → PartReached s (flags (set image r vs)) q (part s (set image r vs) q)
    reached q j t x p low e used = reach_rises s (flags image) (flags (set image r vs)) q j up (reached_part s image q form idx.reached j t x p low (sym (ap (λ (W : World). W q j t) parts) ∙ e) used)

-- the words as they were
pub plain_step : (s : Sizes) (image : List (List ℕ)) (gaps : ℕ → Gap) (r : ℕ) (vs : List ℕ) → IsImage s image → IsIndexedBut s image gaps → r < s.index + s.heap → vs ≡ words_of image r → Goes s (set image r vs) gaps
plain_step s image gaps r vs form idx within e =
    let size : r < length image = omega (arith, within, form.count) in
    same_step s image gaps r vs form idx within (ap length e ∙ form.words r within) (part_kept s image r vs size (rw e (λ q j. refl))) (λ q h. subst (λ (F : Flags). F q ≡ true) (sym (flags_kept image r vs size (rw e refl))) h)

-- a cell of key k was put
pub cell_step :
    (s : Sizes) (image : List (List ℕ)) (gaps : ℕ → Gap) (k r c : ℕ) (xs vs : List ℕ) (g : Gap)
    → IsImage s image → IsIndexedBut s image gaps → is_heap s r ≡ true → length vs ≡ 64
    → Puts cell_part (words_of image r) vs k c xs → entry.flag_of vs ≡ entry.flag_of (words_of image r)
    → FitsPart s (put_part (part s image k) r c xs) g → Goes s (set image r vs) (with_gap k g gaps)
cell_step s image gaps k r c xs vs g form idx kind long puts flag fit =
    let at = heap_bounds s r kind in
    let size : r < length image = omega (arith, at.1, form.count) in
    slot_step s image gaps k r c xs vs g form idx at.1 long (part_put s image r vs k c xs size (rw (heap_kind s r kind) puts)) (flags_kept image r vs size flag) fit (λ x p low e used. absurd (omega (arith, at.0, low)))

-- an entry of key k was put
pub entry_step :
    (s : Sizes) (image : List (List ℕ)) (gaps : ℕ → Gap) (k r e : ℕ) (xs vs : List ℕ) (g : Gap)
    → IsImage s image → IsIndexedBut s image gaps → r < s.index → length vs ≡ 64
    → Puts entry_part (words_of image r) vs k e xs → entry.flag_of vs ≡ entry.flag_of (words_of image r)
    → FitsPart s (put_part (part s image k) r e xs) g → ((x p : ℕ) → xs ≡ x ∷ p ∷ [] → Reach s (flags image) k r) → Goes s (set image r vs) (with_gap k g gaps)
entry_step s image gaps k r e xs vs g form idx low long puts flag fit reach =
    let size : r < length image = omega (arith, low, form.count) in
    slot_step s image gaps k r e xs vs g form idx (omega (arith, low)) long (part_put s image r vs k e xs size (rw (index_kind s r low) puts)) (flags_kept image r vs size flag) fit (λ x p _ eq used. reach x p eq)

-- the gap of a key whose gap was this already
pub same_gap : (s : Sizes) (image : List (List ℕ)) (k : ℕ) (g : Gap) (gaps : ℕ → Gap) → gaps k ≡ g → Goes s image (with_gap k g gaps) → Goes s image gaps
same_gap s image k g gaps e h = (h.0, record { reached = h.1.reached; keys = keys })
  where
    keys : (q : ℕ) → Fits s image q (gaps q)
    keys q = go (eqb_tells q k) (h.1.keys q)
      where
        go : (((q == k) ≡ true) × (q ≡ k)) ⊎ (((q == k) ≡ false) × (q ≢ k)) → Fits s image q (with_gap k g gaps q) → Fits s image q (gaps q)
        go (inl a) f =
            let there : gaps q ≡ g = ap gaps a.1 ∙ e in
            let here : Fits s image q g = rw (a.0) at f in
            subst (λ z. Fits s image q z) (sym there) here
        go (inr a) f = rw (a.0) at f

-- ---- what a kill and a change find
abbrev pub Kills : List ℕ → ℕ → ℕ → Effect → KillOutcome → Type 0
Kills ws i key e o = ((o ≡ Killed) × (get_or ws i 0 ≡ 1) × (get_or ws (i + 1) 0 ≡ key) × (e.after ≡ set ws i 2)) ⊎ ((o ≢ Killed) × (e.after ≡ ws))

pub cell_kills : (ws : List ℕ) (c key : ℕ) → Kills ws (8 * c) key (heap.kill ws c key).0 (heap.kill ws c key).1
cell_kills ws c key = go (eqb_tells (cell.state_of ws c) 1) (eqb_tells (cell.key_of ws c) key) (is_size (cell.length_of ws c)) refl
  where
    go :
        (((cell.state_of ws c == 1) ≡ true) × (cell.state_of ws c ≡ 1)) ⊎ (((cell.state_of ws c == 1) ≡ false) × (cell.state_of ws c ≢ 1))
        → (((cell.key_of ws c == key) ≡ true) × (cell.key_of ws c ≡ key)) ⊎ (((cell.key_of ws c == key) ≡ false) × (cell.key_of ws c ≢ key))
        → (z : Bool) → is_size (cell.length_of ws c) ≡ z → Kills ws (8 * c) key (heap.kill ws c key).0 (heap.kill ws c key).1
    go (inl p) (inl q) true r = rw (p.0, q.0, r) (inl (refl, p.1, q.1, refl))
    go (inl p) (inl q) false r = rw (p.0, q.0, r) (inr ((λ h. absurd (cc (h))), refl))
    go (inl p) (inr q) z r = rw (p.0, q.0) (inr ((λ h. absurd (cc (h))), refl))
    go (inr p) q z r = rw (p.0) (inr ((λ h. absurd (cc (h))), refl))

pub entry_kills : (ws : List ℕ) (e key : ℕ) → Kills ws (3 * e + 1) key (index.kill ws e key).0 (index.kill ws e key).1
entry_kills ws e key = go (eqb_tells (entry.state_of ws e) 1) (eqb_tells (entry.key_of ws e) key)
  where
    next : 3 * e + 1 + 1 ≡ 3 * e + 2
    next = omega arith

    go :
        (((entry.state_of ws e == 1) ≡ true) × (entry.state_of ws e ≡ 1)) ⊎ (((entry.state_of ws e == 1) ≡ false) × (entry.state_of ws e ≢ 1))
        → (((entry.key_of ws e == key) ≡ true) × (entry.key_of ws e ≡ key)) ⊎ (((entry.key_of ws e == key) ≡ false) × (entry.key_of ws e ≢ key))
        → Kills ws (3 * e + 1) key (index.kill ws e key).0 (index.kill ws e key).1
    go (inl p) (inl q) = rw (p.0, q.0) (inl (refl, p.1, ap (λ i. get_or ws i 0) next ∙ q.1, refl))
    go (inl p) (inr q) = rw (p.0, q.0) (inr ((λ h. absurd (cc (h))), refl))
    go (inr p) q = rw (p.0) (inr ((λ h. absurd (cc (h))), refl))

pub reads_stay : (ws : List ℕ) (c key : ℕ) → (heap.read ws c key).0.after ≡ ws
reads_stay ws c key = go (cell.state_of ws c == 1) refl (cell.key_of ws c == key) refl (is_size (cell.length_of ws c)) refl
  where
    go : (x : Bool) → (cell.state_of ws c == 1) ≡ x → (y : Bool) → (cell.key_of ws c == key) ≡ y → (z : Bool) → is_size (cell.length_of ws c) ≡ z → (heap.read ws c key).0.after ≡ ws
    go true p true q true r = rw (p, q, r) refl
    go true p true q false r = rw (p, q, r) refl
    go true p false q z r = rw (p, q) refl
    go false p y q z r = rw (p) refl

abbrev pub value_written : List ℕ → ℕ → List ℕ → List ℕ
value_written ws c news = write_all ws (zip (cell.length_word c ∷ cell.value_words c) news)

pub changes_are : (ws : List ℕ) (c key : ℕ) (v : List ℕ) → ((heap.change ws c key v).0.after ≡ value_written ws c (length v ∷ packed v)) ⊎ ((heap.change ws c key v).0.after ≡ ws)
changes_are ws c key v = go (cell.state_of ws c == 1) refl (cell.key_of ws c == key) refl (is_size (cell.length_of ws c)) refl
  where
    go : (x : Bool) → (cell.state_of ws c == 1) ≡ x → (y : Bool) → (cell.key_of ws c == key) ≡ y → (z : Bool) → is_size (cell.length_of ws c) ≡ z → ((heap.change ws c key v).0.after ≡ value_written ws c (length v ∷ packed v)) ⊎ ((heap.change ws c key v).0.after ≡ ws)
    go true p true q true r = rw (p, q, r) (inl refl)
    go true p true q false r = rw (p, q, r) (inr refl)
    go true p false q z r = rw (p, q) (inr refl)
    go false p y q z r = rw (p) (inr refl)

-- ---- the length and the value of a cell are written
pub in_value : (c i : ℕ) → IsIn (cell.length_word c ∷ cell.value_words c) i → (8 * c + 2 ≤ i) × (i < 8 * c + 8)
in_value c i h = (grind (arith, h), grind (arith, h))

pub value_stays : (ws : List ℕ) (c : ℕ) (news : List ℕ) (i : ℕ) → (i < 8 * c + 2) ⊎ (8 * c + 8 ≤ i) → get_or (value_written ws c news) i 0 ≡ get_or ws i 0
value_stays ws c news i out = unwritten ws (zip (cell.length_word c ∷ cell.value_words c) news) i (λ h. let at = in_value c i (zip_within (cell.length_word c ∷ cell.value_words c) news i h) in ⊎_elim (λ a. omega (arith, at.0, a)) (λ a. omega (arith, at.1, a)) out)

other_cell : (q : ℕ) (ws : List ℕ) (c j : ℕ) (news : List ℕ) → j ≢ c → cell_part q (value_written ws c news) j ≡ cell_part q ws j
other_cell q ws c j news apart =
    cell_same ws (value_written ws c news) j (out (8 * j) (omega arith) (omega arith)) (out (8 * j + 1) (omega arith) (omega arith))
    (rw (out (8 * j + 2) (omega arith) (omega arith), out (8 * j + 3) (omega arith) (omega arith), out (8 * j + 4) (omega arith) (omega arith), out (8 * j + 5) (omega arith) (omega arith), out (8 * j + 6) (omega arith) (omega arith), out (8 * j + 7) (omega arith) (omega arith)) refl) q
  where
    out : (i : ℕ) → 8 * j ≤ i → i < 8 * j + 8 → get_or (value_written ws c news) i 0 ≡ get_or ws i 0
    out i low high = value_stays ws c news i (side (eqb_tells j c))
      where
        side : (((j == c) ≡ true) × (j ≡ c)) ⊎ (((j == c) ≡ false) × (j ≢ c)) → (i < 8 * c + 2) ⊎ (8 * c + 8 ≤ i)
        side a = grind arith

-- of a cell that is used
value_puts : (ws : List ℕ) (c : ℕ) (news : List ℕ) → 0 < c → cell.state_of ws c ≢ 0 → Puts cell_part ws (value_written ws c news) (cell.key_of ws c) c (cell.state_of ws c ∷ cell.length_of (value_written ws c news) c ∷ value_at (value_written ws c news) c)
value_puts ws c news some used = puts_by cell_part ws vs (cell.key_of ws c) c _ here beside (λ q j apart. other_cell q ws c j news apart)
  where
    vs : List ℕ
    vs = value_written ws c news

    no_zero : (c == 0) ≡ false
    no_zero = ne_eqb c 0 (λ e. omega (arith, some, e))

    state : cell.state_of vs c ≡ cell.state_of ws c
    state = value_stays ws c news (8 * c) (inl (omega arith))

    key : cell.key_of vs c ≡ cell.key_of ws c
    key = value_stays ws c news (8 * c + 1) (inl (omega arith))

    here : cell_part (cell.key_of ws c) vs c ≡ cell.state_of ws c ∷ cell.length_of vs c ∷ value_at vs c
    here = rw (no_zero, state, key) (seen_used (cell.key_of ws c) (cell.state_of ws c) (cell.length_of vs c ∷ value_at vs c) used)

    beside : (q : ℕ) → q ≢ cell.key_of ws c → cell_part q vs c ≡ cell_part q ws c
    beside q apart = cell_other q vs c (λ h. apart (sym h ∙ key)) ∙ sym (cell_other q ws c (λ h. apart (sym h)))

-- of a free cell
value_none : (ws : List ℕ) (c : ℕ) (news : List ℕ) → cell.state_of ws c ≡ 0 → (q j : ℕ) → cell_part q (value_written ws c news) j ≡ cell_part q ws j
value_none ws c news free q j = ⊎_elim (λ a. ap (λ z. cell_part q (value_written ws c news) z) a.1 ∙ cell_free q (value_written ws c news) c (value_stays ws c news (8 * c) (inl (omega arith)) ∙ free) ∙ sym (cell_free q ws c free) ∙ ap (λ z. cell_part q ws z) (sym a.1)) (λ a. other_cell q ws c j news a.1) (eqb_tells j c)

pub value_step : (s : Sizes) (image : List (List ℕ)) (gaps : ℕ → Gap) (r c : ℕ) (news vs : List ℕ) → IsImage s image → IsIndexedBut s image gaps → is_heap s r ≡ true → 1 ≤ c → vs ≡ value_written (words_of image r) c news → Goes s (set image r vs) gaps
value_step s image gaps r c news vs form idx kind some e = subst (λ (xs : List ℕ). Goes s (set image r xs) gaps) (sym e) (go (eqb_tells (cell.state_of ws c) 0))
  where
    ws : List ℕ
    ws = words_of image r

    at : (s.index ≤ r) × (r < s.index + s.heap)
    at = heap_bounds s r kind

    size : r < length image
    size = omega (arith, at.1, form.count)

    long : length (value_written ws c news) ≡ 64
    long = length-write_all ws (zip (cell.length_word c ∷ cell.value_words c) news) ∙ form.words r at.1

    flag : entry.flag_of (value_written ws c news) ≡ entry.flag_of ws
    flag = value_stays ws c news 0 (inl (omega arith))

    go : (((cell.state_of ws c == 0) ≡ true) × (cell.state_of ws c ≡ 0)) ⊎ (((cell.state_of ws c == 0) ≡ false) × (cell.state_of ws c ≢ 0)) → Goes s (set image r (value_written ws c news)) gaps
    go (inl a) = same_step s image gaps r (value_written ws c news) form idx at.1 long (part_kept s image r (value_written ws c news) size (rw (heap_kind s r kind) (value_none ws c news a.1))) (λ q h. subst (λ (F : Flags). F q ≡ true) (sym (flags_kept image r (value_written ws c news) size flag)) h)
    go (inr a) =
        let k : ℕ = cell.key_of ws c in
        let no_zero : (c == 0) ≡ false = ne_eqb c 0 (λ x. omega (arith, some, x)) in
        let rest : List ℕ = cell.length_of ws c ∷ value_at ws c in
        let here : cell_part (cell.key_of ws c) ws c ≡ seen (cell.key_of ws c) (cell.state_of ws c) (cell.key_of ws c) rest = rw no_zero refl in
        let was : part s image (cell.key_of ws c) r c ≡ cell.state_of ws c ∷ rest = part_cell s image (cell.key_of ws c) r c (heap_kind s r kind) ∙ here ∙ seen_used (cell.key_of ws c) (cell.state_of ws c) rest a.1 in
        same_gap s (set image r (value_written ws c news)) (cell.key_of ws c) (gaps (cell.key_of ws c)) gaps refl
        (cell_step s image gaps (cell.key_of ws c) r c _ (value_written ws c news) (gaps (cell.key_of ws c)) form idx kind long (value_puts ws c news (omega arith) a.1) flag
        (gap_change s (part s image (cell.key_of ws c)) r c (cell.state_of ws c) rest _ (gaps (cell.key_of ws c)) at.0 was (fits_part s image (cell.key_of ws c) (gaps (cell.key_of ws c)) form (idx.keys (cell.key_of ws c)))))
