-- What undos lead the slots of one key to.
--     one k p P                P after the undo p, where it is on k
--     after k ps P             P after those of ps, from the front
use Rattle.std.proofs.Common.{◌≡◌, ℕ, List, [], ◌∷◌, ◌++◌, refl, ap, sym, subst, ◌∙◌, inl, inr, ◌≢◌}
use Rattle.std.specs.Prelude.{◌==◌, if◌then◌else◌, reverse}
use Rattle.std.proofs.lemmas.List.{reverse-append}
use Rattle.std.proofs.lemmas.Bool.{eq-eqb, ne_eqb}
use Rattle.dali_geometry.specs.Sizes.{Sizes}
use Rattle.dali_record.specs.declared.operations.Pending.{Pending}
use Rattle.dali_access.proofs.IndexLemmas.Parts.{Part}
use Rattle.dali_history.proofs.SlotsLemmas.SlotUndos.{Leads, NoneOn, undone_part}

abbrev pub one : ℕ → Pending → Part → Part
one k p P = if p.key == k then undone_part P p else P

abbrev pub after : ℕ → List Pending → Part → Part
after k [] P = P
after k (p ∷ ps) P = after k ps (one k p P)

pub one_on : (k : ℕ) (p : Pending) (P : Part) → p.key ≡ k → one k p P ≡ undone_part P p
one_on k p P e = rw (eq-eqb p.key k e) refl

pub one_off : (k : ℕ) (p : Pending) (P : Part) → p.key ≢ k → one k p P ≡ P
one_off k p P n = rw (ne_eqb p.key k n) refl

pub after_append : (k : ℕ) (ps qs : List Pending) (P : Part) → after k (ps ++ qs) P ≡ after k qs (after k ps P)
after_append k [] qs P = refl
after_append k (p ∷ ps) qs P = after_append k ps qs (one k p P)

pub after_none : (k : ℕ) (ps : List Pending) (P : Part) → NoneOn k ps → after k ps P ≡ P
after_none k [] P h = refl
after_none k (p ∷ ps) P h = ap (after k ps) (one_off k p P h.0) ∙ after_none k ps P h.1

pub reverse_push : (ps : List Pending) (p : Pending) → reverse (ps ++ p ∷ []) ≡ p ∷ reverse ps
reverse_push ps p = reverse-append ps (p ∷ [])

-- the last of a list comes first
pub after_push : (k : ℕ) (ps : List Pending) (p : Pending) (P : Part) → after k (reverse (ps ++ p ∷ [])) P ≡ after k (reverse ps) (one k p P)
after_push k ps p P = ap (λ qs. after k qs P) (reverse_push ps p)

-- a list in two
pub leads_after : (s : Sizes) (k : ℕ) (ps qs : List Pending) (P R : Part) → Leads s k (ps ++ qs) P R → Leads s k ps P (after k ps P) × Leads s k qs (after k ps P) R
leads_after s k [] qs P R h = (refl, h)
leads_after s k (p ∷ ps) qs P R (inl h) =
    let same : one k p P ≡ undone_part P p = one_on k p P h.0 in
    let y = leads_after s k ps qs (undone_part P p) R h.2 in
    (inl (h.0, h.1, subst (λ (X : Part). Leads s k ps (undone_part P p) (after k ps X)) (sym same) y.0), subst (λ (X : Part). Leads s k qs (after k ps X) R) (sym same) y.1)
leads_after s k (p ∷ ps) qs P R (inr h) =
    let same : one k p P ≡ P = one_off k p P h.0 in
    let y = leads_after s k ps qs P R h.1 in
    (inr (h.0, subst (λ (X : Part). Leads s k ps P (after k ps X)) (sym same) y.0), subst (λ (X : Part). Leads s k qs (after k ps X) R) (sym same) y.1)

-- one of a list isn't beside the key
pub none_at : (k : ℕ) (ps : List Pending) (p : Pending) (qs : List Pending) → NoneOn k (ps ++ p ∷ qs) → p.key ≢ k
none_at k [] p qs h = h.0
none_at k (x ∷ ps) p qs h = none_at k ps p qs h.1
