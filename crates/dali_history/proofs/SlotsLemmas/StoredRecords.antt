-- The records of an image, by region and entry.
use Rattle.std.proofs.Common.{◌≡◌, Bool, true, false, cond, List, [], ◌∷◌, Some, None, refl, subst, ◌⊎◌, ⊎_elim}
use Rattle.std.specs.Prelude.{Contains}
use Rattle.std.specs.List.{find}
use Rattle.dali_lists.proofs.Members.{contains_first, contains_more, contains_cases, contains_none}

-- ---- elements

-- the first that passes
pub find_some : {X : Type 0} (test : X → Bool) (xs : List X) (x : X) → find test xs ≡ Some x → Contains xs x × (test x ≡ true)
find_some test [] x h = absurd (cc (h))
find_some test (y ∷ xs) x h = go (test y) refl h (find_some test xs x)
  where
    go : (b : Bool) → test y ≡ b → cond b (Some y) (find test xs) ≡ Some x → (find test xs ≡ Some x → Contains xs x × (test x ≡ true)) → Contains (y ∷ xs) x × (test x ≡ true)
    go true e g ih = let same : y ≡ x = cc (g) in (subst (λ z. Contains (y ∷ xs) z) same (contains_first y xs), subst (λ z. test z ≡ true) same e)
    go false e g ih = let z = ih g in (contains_more y x xs z.0, z.1)

pub find_none : {X : Type 0} (test : X → Bool) (xs : List X) → find test xs ≡ None → (x : X) → Contains xs x → test x ≡ false
find_none test [] h x c = absurd (contains_none x c)
find_none test (y ∷ xs) h x c = go (test y) refl h (find_none test xs)
  where
    go : (b : Bool) → test y ≡ b → cond b (Some y) (find test xs) ≡ None → (find test xs ≡ None → (z : _) → Contains xs z → test z ≡ false) → test x ≡ false
    go true e g ih = absurd (cc (g))
    go false e g ih = ⊎_elim (λ a. subst (λ z. test z ≡ false) a e) (λ a. ih g x a) (contains_cases y x xs c)
