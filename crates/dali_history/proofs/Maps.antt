-- The map of an image is the one map that its records stand for.
use Rattle.std.proofs.Common.{◌≡◌, ℕ, zero, suc, ◌<◌, Bool, true, false, List, [], ◌∷◌, length, Option, Some, None, refl, ap, sym, subst, ◌∙◌, arith}
use Rattle.std.specs.Prelude.{slice_index_or, Contains, ◌==◌}
use Rattle.std.specs.List.{find}
use Rattle.std.proofs.lemmas.Bool.Decides.{Decides-eqb}
use Rattle.std.proofs.lemmas.Bool.{both_ways}
use Rattle.dali_geometry.specs.Sizes.{Sizes}
use Rattle.dali_access.specs.Index.Records.{records}
use Rattle.dali_history.specs.Serial.{Map}
use Rattle.dali_history.specs.Images.{HasRecords, map_of, value_in}

-- ---- look-ups
find_some : {X : Type 0} (p : X → Bool) (xs : List X) (x : X) → find p xs ≡ Some x → (p x ≡ true) × Contains xs x
find_some p [] x e = absurd (cc)
find_some {X = X} p (y ∷ ys) x e = by_test (λ g. find_some p ys x g) (p y) refl
  where
    by_test : (find p ys ≡ Some x → (p x ≡ true) × Contains ys x) → (b : Bool) → p y ≡ b → (p x ≡ true) × Contains (y ∷ ys) x
    by_test later true f =
        let g : Some y ≡ Some x = rw f at e in
        let same : y ≡ x = cc in
        (subst (λ z. p z ≡ true) same f, (0, omega arith, same))
    by_test later false f =
        let g : find p ys ≡ Some x = rw f at e in
        let r : (p x ≡ true) × Contains ys x = later g in
        (r.0, (suc r.1.0, omega (arith, r.1.1), r.1.2))

find_none : {X : Type 0} (p : X → Bool) (xs : List X) (k : ℕ) (x : X) → find p xs ≡ None → k < length xs → slice_index_or xs k x ≡ x → p x ≡ false
find_none p [] k x e h g = absurd (omega (arith, h))
find_none p (y ∷ ys) k x e h g = by_test (λ j i l m. find_none p ys j x i l m) (p y) refl k h g
  where
    by_test : ((j : ℕ) → find p ys ≡ None → j < length ys → slice_index_or ys j x ≡ x → p x ≡ false) → (b : Bool) → p y ≡ b → (j : ℕ) → j < length (y ∷ ys) → slice_index_or (y ∷ ys) j x ≡ x → p x ≡ false
    by_test later true f j l i = let never : Some y ≡ None = rw f at e in absurd (cc)
    by_test later false f zero l i = subst (λ z. p z ≡ false) i f
    by_test later false f (suc j) l i = later j (rw f at e) (omega (arith, l)) i

-- ---- maps
-- maps with the same value at each key are one
pub same_maps : (m n : Map) → ((k : ℕ) → m k ≡ n k) → m ≡ n
same_maps m n h = λ i k. h k i

-- a map whose pairs are the records is the map of the image
pub map_is : (s : Sizes) (image : List (List ℕ)) (m : Map) → HasRecords s image m → m ≡ map_of s image
map_is s image m has_records = same_maps m (map_of s image) (λ k. at k (find (λ p. p.0 == k) (records s image)) refl)
  where
    none : (k : ℕ) (o : Option (List ℕ)) → m k ≡ o → find (λ p. p.0 == k) (records s image) ≡ None → o ≡ None
    none k None f e = refl
    none k (Some v) f e =
        let c = (has_records k v).1 f in
        let other : (k == k) ≡ false = find_none (λ p. p.0 == k) (records s image) c.0 (k, v) e c.1 c.2 in
        absurd (both_ways (k == k) other ((Decides-eqb k k).1 refl))

    at : (k : ℕ) (o : Option (ℕ × List ℕ)) → find (λ p. p.0 == k) (records s image) ≡ o → m k ≡ map_of s image k
    at k None e = none k (m k) refl e ∙ sym (ap value_in e)
    at k (Some p) e =
        let r = find_some (λ q. q.0 == k) (records s image) p e in
        let same : p.0 ≡ k = (Decides-eqb p.0 k).0 r.0 in
        let value : m p.0 ≡ Some p.1 = (has_records p.0 p.1).0 r.1 in
        subst (λ q. m q ≡ Some p.1) same value ∙ sym (ap value_in e)
