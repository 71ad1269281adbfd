-- The undos that are left, in any order of their transactions: the same image.
--     Uses s p P               the undo p is of its region's kind, and its slot isn't free in P
--     left_beside              the undos of two transactions are on different slots
--     same_image               undone in any order
use Rattle.std.proofs.Common.{◌≡◌, ℕ, ◌+◌, ◌*◌, ◌≤◌, Bool, true, false, not, Option, List, [], ◌∷◌, ◌++◌, refl, ap, sym, subst, ◌∙◌, ◌⊎◌, inl, inr, ⊎_elim, ◌≢◌, arith, IsPermutation}
use Rattle.std.specs.Prelude.{◌==◌, ⊤, All, flat_map, reverse, if◌then◌else◌}
use Rattle.std.proofs.lemmas.Bool.Decides.{eqb_tells, leb_tells, nat_tests}
use Rattle.std.proofs.lemmas.List.Elements.{All-head, All-tail, filter_passes}
use Rattle.std.proofs.lemmas.List.Sorted.{All-permutation, IsPermutation-sym}
use Rattle.dali_geometry.specs.Sizes.{Sizes}
use Rattle.dali_geometry.specs.Places.{is_index, is_heap}
use Rattle.dali_record.specs.declared.operations.Pending.{Pending}
use Rattle.dali_record.specs.declared.operations.Undo.{Undo}
use Rattle.dali_record.specs.declared.operations.Undo.TheVariants.{FreeCell as UndoFreeCell, ReviveCell as UndoReviveCell, Restore as UndoRestore, FreeEntry as UndoFreeEntry, ReviveEntry as UndoReviveEntry}
use Rattle.dali_record.specs.declared.records.Record.{Record}
use Rattle.dali_record.specs.Operations.{undo_op}
use Rattle.dali_record.specs.Log.{undos_of, begun, committed}
use Rattle.dali_record.specs.Damage.{has}
use Rattle.dali_record.specs.Settled.{words_in, redo_all}
use Rattle.dali_record.specs.Legal.{on_kind}
use Rattle.dali_history.specs.Kept.Kept.{AreKept, uncommitted}
use Rattle.dali_history.specs.Undos.{undos_in, undone}
use Rattle.dali_history.specs.Images.{map_of}
use Rattle.dali_history.specs.Recovered.{freed}
use Rattle.dali_access.proofs.IndexLemmas.Slots.{entry_is, cell_is}
use Rattle.dali_access.proofs.IndexLemmas.Worlds.{World, Flags, part, flags}
use Rattle.dali_history.proofs.SlotsLemmas.BlockOnSlots.{part_entry, part_cell}
use Rattle.dali_access.proofs.IndexLemmas.Parts.{Part, put_part-cases}
use Rattle.dali_history.proofs.SlotsLemmas.SlotUndos.{slot_of, undone_slot, Left, undone_part, Leads, NoneOn, none_reverse}
use Rattle.dali_history.proofs.KeptLemmas.WithoutLast.{left}
use Rattle.dali_history.proofs.KeptLemmas.Invariant.{Keyed}
use Rattle.dali_history.proofs.KeptLemmas.InvariantSteps.{along_kept}
use Rattle.dali_history.proofs.KeptLemmas.AnyOrderWords.{low, high, IsBeside, IsBesideAll, AreBeside, any_order}

-- ---- the slots that undos are on
abbrev pub IsUsed : List ℕ → Type 0
IsUsed xs = (y : ℕ) × (ys : List ℕ) × (xs ≡ y ∷ ys)

abbrev pub Uses : Sizes → Pending → Part → Type 0
Uses s p P = (on_kind s p.region (undo_op p.undo) ≡ true) × IsUsed (P p.region (slot_of p.undo))

left_uses : (s : Sizes) (r : ℕ) (d : Undo) (xs : List ℕ) → Left s r d xs → (on_kind s r (undo_op d) ≡ true) × IsUsed xs
left_uses s r (UndoFreeCell c) xs h = (h.0, (1, h.1, h.2))
left_uses s r (UndoReviveCell c) xs h = (h.0, (2, h.1, h.2))
left_uses s r (UndoRestore c n vs) xs h = (h.0, (1, h.1, h.2))
left_uses s r (UndoFreeEntry e) xs h = (h.0, (1, h.1, h.2))
left_uses s r (UndoReviveEntry e) xs h = (h.0, (2, h.1, h.2))

-- the undos of ps on k use slots of P
abbrev pub AllUse : Sizes → ℕ → List Pending → Part → Type 0
AllUse s k [] P = ⊤
AllUse s k (p ∷ ps) P = (p.key ≡ k → Uses s p P) × AllUse s k ps P

-- undos that lead somewhere only use slots that were used before the first
leads_use : (s : Sizes) (k : ℕ) (ps : List Pending) (P Q R : Part) → ((r i : ℕ) → IsUsed (P r i) → IsUsed (R r i)) → Leads s k ps P Q → AllUse s k ps R
leads_use s k [] P Q R below h = tt
leads_use s k (p ∷ ps) P Q R below (inr h) = ((λ e. absurd (h.0 e)), leads_use s k ps P Q R below h.1)
leads_use s k (p ∷ ps) P Q R below (inl h) = ((λ e. (first.0, there)), leads_use s k ps (undone_part P p) Q R still h.2)
  where
    first : (on_kind s p.region (undo_op p.undo) ≡ true) × IsUsed (P p.region (slot_of p.undo))
    first = left_uses s p.region p.undo (P p.region (slot_of p.undo)) h.1

    there : IsUsed (R p.region (slot_of p.undo))
    there = below p.region (slot_of p.undo) first.1

    still : (r i : ℕ) → IsUsed (undone_part P p r i) → IsUsed (R r i)
    still r i used = ⊎_elim (λ a. rw (a.0, a.1) there) (λ a. below r i (subst IsUsed a.1 used)) (put_part-cases P p.region (slot_of p.undo) (undone_slot p.undo (P p.region (slot_of p.undo))) r i)

none_use : (s : Sizes) (k : ℕ) (ps : List Pending) (P : Part) → NoneOn k ps → AllUse s k ps P
none_use s k [] P h = tt
none_use s k (p ∷ ps) P h = ((λ e. absurd (h.0 e)), none_use s k ps P h.1)

-- ---- undos on different keys are on different slots
-- a used slot has one key
one_key : (s : Sizes) (image : List (List ℕ)) (k q r i : ℕ) → IsUsed (part s image k r i) → IsUsed (part s image q r i) → k ≡ q
one_key s image k q r i a b = go (is_index s r) refl
  where
    go : (x : Bool) → is_index s r ≡ x → k ≡ q
    go true e =
        let one = entry_is k (words_in image r) i a.0 a.1 (sym (part_entry s image k r i e) ∙ a.2) in
        let two = entry_is q (words_in image r) i b.0 b.1 (sym (part_entry s image q r i e) ∙ b.2) in
        sym one.2 ∙ two.2
    go false e =
        let one = cell_is k (words_in image r) i a.0 a.1 (sym (part_cell s image k r i e) ∙ a.2) in
        let two = cell_is q (words_in image r) i b.0 b.1 (sym (part_cell s image q r i e) ∙ b.2) in
        sym one.2 ∙ two.2

-- the words of an undo's slot, by the kind of its region
abbrev Spans : Sizes → ℕ → Undo → Type 0
Spans s r d = ((is_heap s r ≡ true) × (low d ≡ 8 * slot_of d) × (high d ≡ 8 * slot_of d + 8)) ⊎ ((is_index s r ≡ true) × (low d ≡ 3 * slot_of d + 1) × (high d ≡ 3 * slot_of d + 4))

spans : (s : Sizes) (r : ℕ) (d : Undo) → on_kind s r (undo_op d) ≡ true → Spans s r d
spans s r (UndoFreeCell c) h = inl (h, refl, refl)
spans s r (UndoReviveCell c) h = inl (h, refl, refl)
spans s r (UndoRestore c n vs) h = inl (h, refl, refl)
spans s r (UndoFreeEntry e) h = inr (h, refl, refl)
spans s r (UndoReviveEntry e) h = inr (h, refl, refl)

two_kinds : (s : Sizes) (r : ℕ) → is_heap s r ≡ true → is_index s r ≡ true → ⊥
two_kinds s r h g = grind (arith, nat_tests)

eights : (a b m n i j : ℕ) → m ≢ n → a ≡ 8 * m → i ≡ 8 * m + 8 → b ≡ 8 * n → j ≡ 8 * n + 8 → (i ≤ b) ⊎ (j ≤ a)
eights a b m n i j h e f g k = ⊎_elim (λ l. inl (omega (arith, h, l.1, e, f, g, k))) (λ l. inr (omega (arith, l.1, e, f, g, k))) (leb_tells m n)

threes : (a b m n i j : ℕ) → m ≢ n → a ≡ 3 * m + 1 → i ≡ 3 * m + 4 → b ≡ 3 * n + 1 → j ≡ 3 * n + 4 → (i ≤ b) ⊎ (j ≤ a)
threes a b m n i j h e f g k = ⊎_elim (λ l. inl (omega (arith, h, l.1, e, f, g, k))) (λ l. inr (omega (arith, l.1, e, f, g, k))) (leb_tells m n)

apart_words : (s : Sizes) (r : ℕ) (d e : Undo) → slot_of d ≢ slot_of e → Spans s r d → Spans s r e → (high d ≤ low e) ⊎ (high e ≤ low d)
apart_words s r d e h (inl a) (inl b) = eights (low d) (low e) (slot_of d) (slot_of e) (high d) (high e) h a.1 a.2 b.1 b.2
apart_words s r d e h (inr a) (inr b) = threes (low d) (low e) (slot_of d) (slot_of e) (high d) (high e) h a.1 a.2 b.1 b.2
apart_words s r d e h (inl a) (inr b) = absurd (two_kinds s r a.0 b.0)
apart_words s r d e h (inr a) (inl b) = absurd (two_kinds s r b.0 a.0)

uses_beside : (s : Sizes) (image : List (List ℕ)) (p q : Pending) → Uses s p (part s image p.key) → Uses s q (part s image q.key) → p.key ≢ q.key → IsBeside p q
uses_beside s image p q a b apart = go (eqb_tells p.region q.region)
  where
    slots : p.region ≡ q.region → slot_of p.undo ≢ slot_of q.undo
    slots e f = apart (one_key s image p.key q.key p.region (slot_of p.undo) a.1 (subst (λ i. IsUsed (part s image q.key p.region i)) (sym f) (subst (λ r. IsUsed (part s image q.key r (slot_of q.undo))) (sym e) b.1)))

    go : (((p.region == q.region) ≡ true) × (p.region ≡ q.region)) ⊎ (((p.region == q.region) ≡ false) × (p.region ≢ q.region)) → IsBeside p q
    go (inr n) = inl n.1
    go (inl e) = inr (apart_words s p.region p.undo q.undo (slots e.1) (spans s p.region p.undo a.0) (spans s p.region q.undo (subst (λ r. on_kind s r (undo_op q.undo) ≡ true) (sym e.1) b.0)))

-- two lists that share no key
beside_all : (s : Sizes) (image : List (List ℕ)) (p : Pending) (qs : List Pending) → Uses s p (part s image p.key) → ((k : ℕ) → AllUse s k qs (part s image k)) → NoneOn p.key qs → IsBesideAll p qs
beside_all s image p [] a b none = tt
beside_all s image p (q ∷ qs) a b none = (uses_beside s image p q a ((b q.key).0 refl) (λ e. none.0 (sym e)), beside_all s image p qs a (λ k. (b k).1) none.1)

lists_beside : (s : Sizes) (image : List (List ℕ)) (ps qs : List Pending) → ((k : ℕ) → AllUse s k ps (part s image k)) → ((k : ℕ) → AllUse s k qs (part s image k)) → ((k : ℕ) → NoneOn k ps ⊎ NoneOn k qs) → AreBeside ps qs
lists_beside s image [] qs a b none = tt
lists_beside s image (p ∷ ps) qs a b none = (beside_all s image p qs ((a p.key).0 refl) b (⊎_elim (λ n. absurd (n.0 refl)) (λ n. n) (none p.key)), lists_beside s image ps qs (λ k. (a k).1) b (λ k. ⊎_elim (λ n. inl n.1) (λ n. inr n) (none k)))

-- ---- the undos of transactions
abbrev pub left_back : List Record → ℕ → List Pending
left_back K t = reverse (left t K)

keyed_use : (s : Sizes) (cuts : List ℕ) (K : List Record) (W : World) (F : Flags) (o : Option (List ℕ)) (k t : ℕ) → Keyed s cuts K W F o k → AllUse s k (left_back K t) (W k)
keyed_use s cuts K W F o k t h = go (eqb_tells t h.holder)
  where
    go : (((t == h.holder) ≡ true) × (t ≡ h.holder)) ⊎ (((t == h.holder) ≡ false) × (t ≢ h.holder)) → AllUse s k (left_back K t) (W k)
    go (inl e) = subst (λ x. AllUse s k (left_back K x) (W k)) (sym e.1) (leads_use s k (left_back K h.holder) (W k) h.slots (W k) (λ r i u. u) h.leads)
    go (inr n) = none_use s k (left_back K t) (W k) (none_reverse k (left t K) (h.others t n.1))

keyed_one : (s : Sizes) (cuts : List ℕ) (K : List Record) (W : World) (F : Flags) (o : Option (List ℕ)) (k t u : ℕ) → Keyed s cuts K W F o k → t ≢ u → NoneOn k (left_back K t) ⊎ NoneOn k (left_back K u)
keyed_one s cuts K W F o k t u h apart = go (eqb_tells t h.holder)
  where
    go : (((t == h.holder) ≡ true) × (t ≡ h.holder)) ⊎ (((t == h.holder) ≡ false) × (t ≢ h.holder)) → NoneOn k (left_back K t) ⊎ NoneOn k (left_back K u)
    go (inl e) = inr (none_reverse k (left u K) (h.others u (λ f. apart (e.1 ∙ sym f))))
    go (inr n) = inl (none_reverse k (left t K) (h.others t n.1))

pub left_beside : (s : Sizes) (base : List (List ℕ)) (cuts : List ℕ) (K : List Record) → AreKept s base cuts K → (t u : ℕ) → t ≢ u → AreBeside (left_back K t) (left_back K u)
left_beside s base cuts K h t u apart =
    let along = along_kept s base cuts K h in
    let image = redo_all base K in
    lists_beside s image (left_back K t) (left_back K u)
    (λ k. keyed_use s cuts K (part s image) (flags image) (map_of s base k) k t (along.keyed k))
    (λ k. keyed_use s cuts K (part s image) (flags image) (map_of s base k) k u (along.keyed k))
    (λ k. keyed_one s cuts K (part s image) (flags image) (map_of s base k) k t u (along.keyed k) apart)

-- ---- any order
pub undos_in-left : (K : List Record) (ts : List ℕ) → All (λ t. not (has (committed K) t) ≡ true) ts → undos_in ts K ≡ flat_map (left_back K) ts
undos_in-left K [] h = refl
undos_in-left K (t ∷ ts) h = ap (λ us. us ++ undos_in ts K) (first (has (committed K) t) (All-head (λ x. not (has (committed K) x) ≡ true) t ts h)) ∙ ap (λ us. left_back K t ++ us) (undos_in-left K ts (All-tail (λ x. not (has (committed K) x) ≡ true) t ts h))
  where
    first : (b : Bool) → not b ≡ true → reverse (undos_of t K) ≡ reverse (if b then [] else undos_of t K)
    first true e = absurd (cc (e))
    first false e = refl

pub all_uncommitted : (K : List Record) (order : List ℕ) → IsPermutation order (uncommitted K) → All (λ t. not (has (committed K) t) ≡ true) order
all_uncommitted K order moved = All-permutation (λ t. not (has (committed K) t) ≡ true) (uncommitted K) order (IsPermutation-sym order (uncommitted K) moved) (filter_passes (λ t. not (has (committed K) t)) (begun K))

pub same_image : (s : Sizes) (base : List (List ℕ)) (cuts : List ℕ) (K : List Record) (order : List ℕ) → AreKept s base cuts K → IsPermutation order (uncommitted K) → undone (redo_all base K) (undos_in order K) ≡ undone (redo_all base K) (undos_in (uncommitted K) K)
same_image s base cuts K order h moved =
    let one = undos_in-left K order (all_uncommitted K order moved) in
    let two = undos_in-left K (uncommitted K) (filter_passes (λ t. not (has (committed K) t)) (begun K)) in
    let image = redo_all base K in
    ap (undone image) one ∙ any_order (left_back K) (left_beside s base cuts K h) image order (uncommitted K) moved ∙ sym (ap (undone image) two)

-- the law's `same`
pub same_freed : (s : Sizes) (base : List (List ℕ)) (cuts : List ℕ) (K : List Record) (order : List ℕ) → AreKept s base cuts K → IsPermutation order (uncommitted K) → freed s (undone (redo_all base K) (undos_in order K)) ≡ freed s (undone (redo_all base K) (undos_in (uncommitted K) K))
same_freed s base cuts K order h moved = ap (freed s) (same_image s base cuts K order h moved)
