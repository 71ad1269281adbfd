-- Notes that nobody has used, and the clients that get them.
use Rattle.std.proofs.Common.{◌≡◌, ℕ, suc, ◌+◌, List, [], ◌∷◌, ◌++◌, length, refl, sym, ap, ◌∙◌, arith}
use Rattle.std.proofs.lemmas.List.{length-append}
use Rattle.atomic_table.specs.Seated.{TableId}
use Rattle.dali_notes.specs.History.{AreFresh, Sight}
use Rattle.dali_locked.specs.Sights.{ClientSight}
use Rattle.dali_locked.specs.Beginnings.{AreNew}

module _ {E : Type 0} where
  pub fresh_front : (t : TableId) (k : ℕ) (xs : List (Sight E)) (x : Sight E) → AreFresh t k (xs ++ x ∷ []) → AreFresh t k xs
  fresh_front t k [] x f = tt
  fresh_front t k (y ∷ ys) x f = (f.0, fresh_front t (suc k) ys x f.1)

  pub fresh_last : (t : TableId) (k : ℕ) (xs : List (Sight E)) (x : Sight E) → AreFresh t k (xs ++ x ∷ []) → (x.table ≡ t) × (x.number ≡ k + length xs) × (x.seen ≡ [])
  fresh_last t k [] x f = (f.0.0, f.0.1 ∙ omega arith, f.0.2)
  fresh_last t k (y ∷ ys) x f = let last = fresh_last t (suc k) ys x f.1 in (last.0, last.1 ∙ omega arith, last.2)

pub one_shorter : {X : Type 0} (xs ys : List X) (x : X) → xs ≡ ys ++ x ∷ [] → length xs ≡ suc (length ys)
one_shorter xs ys x is = ap length is ∙ (length-append ys (x ∷ []) ∙ omega arith)

-- one more, below the others
pub new_more : (kept low high : ℕ) (xs : List ClientSight) (x : ClientSight) → AreNew kept (suc low) high xs → kept + x.id ≡ low → x.seen ≡ [] → AreNew kept low high (xs ++ x ∷ [])
new_more kept low high [] x a is none = (a ∙ ap suc (sym is), none, is)
new_more kept low high (y ∷ ys) x a is none = (a.0, a.1, new_more kept low (kept + y.id) ys x a.2 is none)
