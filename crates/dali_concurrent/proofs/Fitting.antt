-- Histories of which each entry fits.
use Rattle.std.proofs.Common.{ℕ, ◌+◌, List, [], ◌∷◌, ◌++◌, length, subst, ◌∙◌}
use Rattle.std.specs.Prelude.{take}
use Rattle.dali_lists.proofs.Lists.{get_behind}
use Rattle.dali_notes.specs.History.{IsSeen}
use Rattle.dali_concurrent.specs.Entries.{Entry, Entries, At, notes_of}
use Rattle.dali_concurrent.specs.Rules.{Outset, count_of, Fits, AllFit}
use Rattle.dali_concurrent.proofs.Lists.{take_length, get_of_front, get_back_of, by_fronts}
use Rattle.dali_concurrent.proofs.Entries.{Quiet, not_signed}

-- ---- fronts
pub good_front : (o : Outset) (A B : Entries) → AllFit o (A ++ B) → AllFit o A
good_front o A B good i p e = let w = get_of_front A B i p e in subst (λ P. Fits o P p) w.1 (good i p w.0)

pub fits_next : (o : Outset) (A : Entries) (p : List ℕ × Entry) (B : Entries) → AllFit o (A ++ p ∷ B) → Fits o A p
fits_next o A p B good = subst (λ P. Fits o P p) (take_length A (p ∷ B)) (good (length A) p (get_behind A p B))

pub fits_behind : (o : Outset) (A B : Entries) (j : ℕ) (p : List ℕ × Entry) → AllFit o (A ++ B) → At B j p → Fits o (take (length A + j) (A ++ B)) p
fits_behind o A B j p good e = good (length A + j) p (get_back_of A B j ∙ e)

pub good_seen : (o : Outset) (H : Entries) (k : ℕ) (seen : Entries) → AllFit o H → IsSeen H k seen → AllFit o seen
good_seen o H k seen good is = good_front o seen is.rest (subst (AllFit o) is.all good)

-- behind what a note has seen stand entries that it hasn't signed
pub quiet_rest : (o : Outset) (H : Entries) (k : ℕ) (seen : Entries) → AllFit o H → (is : IsSeen H k seen) → Quiet (count_of o) k is.rest
quiet_rest o H k seen good is i p e =
    not_signed k (notes_of (count_of o) p.1) p.0 ((fits_behind o seen is.rest i p (subst (AllFit o) is.all good) e).by k) (is.none p (i, e))

-- ---- by induction on the history
module _ (o : Outset) (Q : Entries → Type 0) (first : Q []) (more : (P : Entries) (p : List ℕ × Entry) → AllFit o P → Fits o P p → Q P → Q (P ++ p ∷ [])) where
  pub by_entries : (H : Entries) → AllFit o H → Q H
  by_entries = by_fronts (Fits o) Q first more
