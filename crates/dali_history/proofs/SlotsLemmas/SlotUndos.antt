-- Undos on the slots of one key.
--     Finds p P                the slot of the undo p is as its transaction left it
--     undone_part P p          P after the undo
--     Leads s k ps P Q         the undos on k among ps, from the front, find their slots and lead from P to Q
use Rattle.std.proofs.Common.{◌≡◌, ℕ, zero, suc, true, List, [], ◌∷◌, length, refl, sym, subst, ◌⊎◌, inl, inr, ◌≢◌}
use Rattle.std.specs.Prelude.{◌==◌, if◌then◌else◌}
use Rattle.std.proofs.lemmas.List.{reverse-append}
use Rattle.dali_geometry.specs.Sizes.{Sizes}
use Rattle.dali_geometry.specs.Places.{is_index, is_heap}
use Rattle.dali_record.specs.declared.operations.Pending.{Pending}
use Rattle.dali_record.specs.declared.operations.Undo.{Undo}
use Rattle.dali_record.specs.declared.operations.Undo.TheVariants.{FreeCell as UndoFreeCell, ReviveCell as UndoReviveCell, Restore as UndoRestore, FreeEntry as UndoFreeEntry, ReviveEntry as UndoReviveEntry}
use Rattle.dali_access.proofs.IndexLemmas.Parts.{Part, put_part}

-- ---- undos
abbrev pub rest : List ℕ → List ℕ
rest [] = []
rest (x ∷ xs) = xs

abbrev pub slot_of : Undo → ℕ
slot_of (UndoFreeCell c) = c
slot_of (UndoReviveCell c) = c
slot_of (UndoRestore c n vs) = c
slot_of (UndoFreeEntry e) = e
slot_of (UndoReviveEntry e) = e

-- what stands in the slot after the undo, from what stood there
abbrev pub undone_slot : Undo → List ℕ → List ℕ
undone_slot (UndoFreeCell c) xs = []
undone_slot (UndoReviveCell c) xs = 1 ∷ rest xs
undone_slot (UndoRestore c n vs) xs = 1 ∷ n ∷ vs
undone_slot (UndoFreeEntry e) xs = []
undone_slot (UndoReviveEntry e) xs = 1 ∷ rest xs

-- what its transaction left there
abbrev pub Left : Sizes → ℕ → Undo → List ℕ → Type 0
Left s r (UndoFreeCell c) xs = (is_heap s r ≡ true) × (ys : List ℕ) × (xs ≡ 1 ∷ ys)
Left s r (UndoReviveCell c) xs = (is_heap s r ≡ true) × (ys : List ℕ) × (xs ≡ 2 ∷ ys)
Left s r (UndoRestore c n vs) xs = (is_heap s r ≡ true) × (ys : List ℕ) × (xs ≡ 1 ∷ ys) × (length vs ≡ 5)
Left s r (UndoFreeEntry e) xs = (is_index s r ≡ true) × (ys : List ℕ) × (xs ≡ 1 ∷ ys)
Left s r (UndoReviveEntry e) xs = (is_index s r ≡ true) × (ys : List ℕ) × (xs ≡ 2 ∷ ys)

abbrev pub Finds : Sizes → Pending → Part → Type 0
Finds s p P = Left s p.region p.undo (P p.region (slot_of p.undo))

abbrev pub undone_part : Part → Pending → Part
undone_part P p = put_part P p.region (slot_of p.undo) (undone_slot p.undo (P p.region (slot_of p.undo)))

abbrev pub Leads : Sizes → ℕ → List Pending → Part → Part → Type 0
Leads s k [] P Q = P ≡ Q
Leads s k (p ∷ ps) P Q = ((p.key ≡ k) × Finds s p P × Leads s k ps (undone_part P p) Q) ⊎ ((p.key ≢ k) × Leads s k ps P Q)

-- no undo is on k
abbrev pub NoneOn : ℕ → List Pending → Type 0
NoneOn k [] = Rattle.std.specs.Prelude.⊤
NoneOn k (p ∷ ps) = (p.key ≢ k) × NoneOn k ps

pub leads_none : (s : Sizes) (k : ℕ) (ps : List Pending) (P Q : Part) → NoneOn k ps → Leads s k ps P Q → P ≡ Q
leads_none s k [] P Q n h = h
leads_none s k (p ∷ ps) P Q n (inl h) = absurd (n.0 h.0)
leads_none s k (p ∷ ps) P Q n (inr h) = leads_none s k ps P Q n.1 h.1

pub leads_stay : (s : Sizes) (k : ℕ) (ps : List Pending) (P : Part) → NoneOn k ps → Leads s k ps P P
leads_stay s k [] P n = refl
leads_stay s k (p ∷ ps) P n = inr (n.0, leads_stay s k ps P n.1)

-- undos before others
pub leads_append : (s : Sizes) (k : ℕ) (ps qs : List Pending) (P Q R : Part) → Leads s k ps P Q → Leads s k qs Q R → Leads s k (Rattle.std.specs.Prelude.◌++◌ ps qs) P R
leads_append s k [] qs P Q R h g = subst (λ (X : Part). Leads s k qs X R) (sym h) g
leads_append s k (p ∷ ps) qs P Q R (inl h) g = inl (h.0, h.1, leads_append s k ps qs (undone_part P p) Q R h.2 g)
leads_append s k (p ∷ ps) qs P Q R (inr h) g = inr (h.0, leads_append s k ps qs P Q R h.1 g)

-- the first of the undos on k
pub leads_first : (s : Sizes) (k : ℕ) (p : Pending) (ps : List Pending) (P Q : Part) → p.key ≡ k → Leads s k (p ∷ ps) P Q → Finds s p P × Leads s k ps (undone_part P p) Q
leads_first s k p ps P Q e (inl h) = (h.1, h.2)
leads_first s k p ps P Q e (inr h) = absurd (h.0 e)

pub leads_other : (s : Sizes) (k : ℕ) (p : Pending) (ps : List Pending) (P Q : Part) → p.key ≢ k → Leads s k (p ∷ ps) P Q → Leads s k ps P Q
leads_other s k p ps P Q e (inl h) = absurd (e h.0)
leads_other s k p ps P Q e (inr h) = h.1

-- ---- lists with no undo on the key
pub none_append : (k : ℕ) (ps qs : List Pending) → NoneOn k ps → NoneOn k qs → NoneOn k (Rattle.std.specs.Prelude.◌++◌ ps qs)
none_append k [] qs h g = g
none_append k (p ∷ ps) qs h g = (h.0, none_append k ps qs h.1 g)

pub none_reverse : (k : ℕ) (ps : List Pending) → NoneOn k ps → NoneOn k (Rattle.std.specs.Prelude.reverse ps)
none_reverse k [] h = tt
none_reverse k (p ∷ ps) h = subst (λ qs. NoneOn k qs) (sym (reverse-append (p ∷ []) ps)) (none_append k (Rattle.std.specs.Prelude.reverse ps) (p ∷ []) (none_reverse k ps h.1) (h.0, tt))

pub none_drop : (k n : ℕ) (ps : List Pending) → NoneOn k ps → NoneOn k (Rattle.std.specs.Prelude.drop n ps)
none_drop k zero ps h = h
none_drop k (suc n) [] h = tt
none_drop k (suc n) (p ∷ ps) h = none_drop k n ps h.1
