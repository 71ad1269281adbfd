-- The entries of an ordered map, as a finite map.
use Rattle.std.proofs.Common.{◌≡◌, true, false, cond, List, [], ◌∷◌, ◌++◌, refl, sym, ◌∙◌, ap}
use Rattle.std.specs.Prelude.{Some, None}
use Rattle.std.specs.declared.cmp.Ordering.{Ordering}
use Rattle.std.specs.declared.cmp.Ordering.TheVariants.{Less, Greater}
use Rattle.std.specs.Cmp.{IsTotalOrder, eq_by_cmp_equiv}
use Rattle.std.specs.Ordering.{eq_by_cmp, ordering_reverse}
use Rattle.std.specs.List.{AllByRecursion}
use Rattle.std.specs.List.Sorted.{IsStrictlySortedBy}
use Rattle.std.specs.Map.{lookup, keys_of}
use Rattle.std.specs.BTreeMap.{is_at, insert_entry}
use Rattle.std.specs.FinMap.{FinMap, IsAntisymmetric, entries, from_entries, get, insert, remove, find, put, get-from_entries, get-insert, get-remove, entries-insert, len-entries, len-empty, same_map}
use Rattle.std.proofs.lemmas.Map.Views.{tells_apart}
use Rattle.std.proofs.lemmas.List.{nil_from_length}

module _ {K X : Type 0} (R : K → K → Ordering) where
  find_lookup : (es : List (K × X)) (q : K) → find R q es ≡ lookup (is_at (R q)) es
  find_lookup [] q = refl
  find_lookup (e ∷ es) q = ap (cond (is_at (R q) e.0) (Some e.1)) (find_lookup es q)

module _ {K X : Type 0} {R : K → K → Ordering} (o : IsTotalOrder R) where
  -- what the map that the entries make has at a key
  pub get_entries : (es : List (K × X)) (q : K) → get (from_entries {R = R} es) q ≡ lookup (is_at (R q)) es
  get_entries es q = get-from_entries o es q ∙ find_lookup R es q

  put_first : (k : K) (v : X) (es : List (K × X)) → IsStrictlySortedBy R (keys_of ((k, v) ∷ es)) → put R k v es ≡ (k, v) ∷ es
  unfolding IsStrictlySortedBy
  put_first k v [] rises = refl
  put_first k v (e ∷ es) rises = rw rises.0.0

  rest_rises : (e : K × X) (es : List (K × X)) → IsStrictlySortedBy R (keys_of (e ∷ es)) → IsStrictlySortedBy R (keys_of es)
  unfolding IsStrictlySortedBy
  rest_rises e es rises = rises.1

  -- entries in order are those of the map that they make
  pub in_order : (es : List (K × X)) → IsStrictlySortedBy R (keys_of es) → entries (from_entries {R = R} es) ≡ es
  in_order [] rises = nil_from_length _ (sym (len-entries _) ∙ len-empty R X)
  in_order (e ∷ es) rises = entries-insert o (from_entries es) e.0 e.1 ∙ ap (put R e.0 e.1) (in_order es (rest_rises e es rises)) ∙ put_first e.0 e.1 es rises

module _ {K X : Type 0} {R : K → K → Ordering} (o : IsTotalOrder R) (exact : IsAntisymmetric R) where
  same_there : (m : FinMap R X) (k : K) (v : X) → get m k ≡ Some v → (q : K) → cond (eq_by_cmp R q k) (Some v) (get m q) ≡ get m q
  same_there m k v stands q = elim (eq_by_cmp R q k) as (λ b. eq_by_cmp R q k ≡ b → cond b (Some v) (get m q) ≡ get m q) [
    | true ↦ λ is. sym (ap (get m) (tells_apart exact q k is) ∙ stands)
    | false ↦ λ _. refl
  ] refl

  -- entries that differ at one key make maps that differ there
  pub inserted : (es fs : List (K × X)) (k : K) (v : X) → ((q : K) → lookup (is_at (R q)) fs ≡ cond (is_at (R k) q) (Some v) (lookup (is_at (R q)) es)) → from_entries {R = R} fs ≡ insert (from_entries es) k v
  inserted es fs k v h = same_map o exact _ _ (λ q.
      get_entries o fs q ∙ h q ∙ ap (λ b. cond b (Some v) (lookup (is_at (R q)) es)) ((eq_by_cmp_equiv o).symm k q)
      ∙ sym (get-insert o (from_entries es) k v q ∙ ap (cond (is_at (R q) k) (Some v)) (get_entries o es q)))

  pub removed : (es fs : List (K × X)) (k : K) → ((q : K) → lookup (is_at (R q)) fs ≡ cond (is_at (R k) q) None (lookup (is_at (R q)) es)) → from_entries {R = R} fs ≡ remove (from_entries es) k
  removed es fs k h = same_map o exact _ _ (λ q.
      get_entries o fs q ∙ h q ∙ ap (λ b. cond b None (lookup (is_at (R q)) es)) ((eq_by_cmp_equiv o).symm k q)
      ∙ sym (get-remove o (from_entries es) k q ∙ ap (cond (is_at (R q) k) None) (get_entries o es q)))

  -- a value that stands is inserted again
  pub inserted_again : (m : FinMap R X) (k : K) (v : X) → get m k ≡ Some v → insert m k v ≡ m
  inserted_again m k v stands = same_map o exact _ _ (λ q. get-insert o m k v q ∙ same_there m k v stands q)

above : {K : Type 0} {R : K → K → Ordering} → IsTotalOrder R → (x y : K) → R x y ≡ Less → R y x ≡ Greater
above o x y less = o.antisymm y x ∙ ap ordering_reverse less

first_below : {K X : Type 0} (R : K → K → Ordering) (x : K) (es : List (K × X)) (k : K) (v : X) (rest : List (K × X)) → AllByRecursion (λ y. R x y ≡ Less) (keys_of (es ++ (k, v) ∷ rest)) → R x k ≡ Less
first_below R x [] k v rest below = below.0
first_below R x (e ∷ es) k v rest below = first_below R x es k v rest below.1

module _ {K X : Type 0} {R : K → K → Ordering} (o : IsTotalOrder R) where
  -- a key above all others goes to the end
  pub insert_last : (es : List (K × X)) (k : K) (v : X) (rest : List (K × X)) → IsStrictlySortedBy R (keys_of (es ++ (k, v) ∷ rest)) → insert_entry R es k v ≡ es ++ (k, v) ∷ []
  unfolding IsStrictlySortedBy
  insert_last [] k v rest rises = refl
  insert_last (e ∷ es) k v rest rises = rw (above o e.0 k (first_below R e.0 es k v rest rises.0)) (ap (λ fs. e ∷ fs) (insert_last es k v rest rises.1))
