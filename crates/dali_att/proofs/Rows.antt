-- The table's rows, read from the entries of the ordered map that keeps them.
use Rattle.std.proofs.Common.{◌≡◌, ℕ, cond, List, [], ◌∷◌, ◌++◌, append_assoc, ◌<◌, ◌≤◌, false, arith, refl, sym, ◌∙◌, ap, subst}
use Rattle.std.specs.Prelude.{Option, Some, None, IsSome}
use Rattle.std.specs.Option.{option_map, option_map_or}
use Rattle.std.specs.Ordering.{nat_cmp, is_gt}
use Rattle.std.specs.declared.cmp.Ordering.{Ordering}
use Rattle.std.specs.declared.cmp.Ordering.TheVariants.{Less, Equal, Greater}
use Rattle.std.specs.Cmp.{nat_cmp_total, ranked}
use Rattle.std.specs.List.Sorted.{IsStrictlySortedBy}
use Rattle.std.specs.Map.{lookup, keys_of}
use Rattle.std.specs.BTreeMap.{is_at, insert_entry}
use Rattle.std.specs.FinMap.{from_entries, get, insert, nat_cmp-IsAntisymmetric}
use Rattle.dali_att.specs.Table.{Row, Table, with_row, undos_at, state_at, IsFirst}
use Rattle.dali_att.proofs.Maps.{get_entries, inserted, inserted_again, insert_last}

module _ {U : Type 0} (es : List (ℕ × Row U)) (m : Table U) (seen : from_entries es ≡ m) (t : ℕ) where
  pub has : get m t ≡ lookup (is_at (nat_cmp t)) es
  has = ap (λ (n : Table U). get n t) (sym seen) ∙ get_entries nat_cmp_total es t

  -- a row that was asked for is there
  pub not_absent : IsSome (get m t) → lookup (is_at (nat_cmp t)) es ≡ None → ⊥
  not_absent present none = let gone : get m t ≡ None = has ∙ none in cc

  -- entries that have another row at t
  pub written : (fs : List (ℕ × Row U)) (change : Row U → Row U) (old new : Row U) → lookup (is_at (nat_cmp t)) es ≡ Some old → new ≡ change old
      → ((q : ℕ) → lookup (is_at (nat_cmp q)) fs ≡ cond (is_at (nat_cmp t) q) (Some new) (lookup (is_at (nat_cmp q)) es)) → from_entries fs ≡ with_row m t change
  written fs change old new found changed h =
      inserted nat_cmp_total nat_cmp-IsAntisymmetric es fs t new h
      ∙ ap (λ (n : Table U). insert n t new) seen ∙ ap (insert m t) changed
      ∙ sym (ap (λ (o : Option (Row U)). option_map_or (λ row. insert m t (change row)) o m) (has ∙ found))

  -- entries that have the same row at t again
  pub rewritten : (fs : List (ℕ × Row U)) (old new : Row U) → lookup (is_at (nat_cmp t)) es ≡ Some old → new ≡ old
      → ((q : ℕ) → lookup (is_at (nat_cmp q)) fs ≡ cond (is_at (nat_cmp t) q) (Some new) (lookup (is_at (nat_cmp q)) es)) → from_entries fs ≡ m
  rewritten fs old new found same h =
      inserted nat_cmp_total nat_cmp-IsAntisymmetric es fs t new h
      ∙ ap (λ (n : Table U). insert n t new) seen ∙ ap (insert m t) same
      ∙ inserted_again nat_cmp_total nat_cmp-IsAntisymmetric m t old (has ∙ found)

  -- no row, and no change
  pub unwritten : (change : Row U → Row U) → lookup (is_at (nat_cmp t)) es ≡ None → from_entries es ≡ with_row m t change
  unwritten change none = seen ∙ sym (ap (λ (o : Option (Row U)). option_map_or (λ row. insert m t (change row)) o m) (has ∙ none))

  pub undos_found : (row : Row U) → lookup (is_at (nat_cmp t)) es ≡ Some row → undos_at m t ≡ row.undos
  undos_found row found = ap (λ (o : Option (Row U)). option_map_or (λ r. r.undos) o []) (has ∙ found)

  pub undos_absent : lookup (is_at (nat_cmp t)) es ≡ None → undos_at m t ≡ []
  undos_absent none = ap (λ (o : Option (Row U)). option_map_or (λ r. r.undos) o []) (has ∙ none)

  pub state_found : (o : Option (Row U)) → lookup (is_at (nat_cmp t)) es ≡ o → state_at m t ≡ option_map (λ r. r.state) o
  state_found o found = ap (λ (o : Option (Row U)). option_map (λ r. r.state) o) (has ∙ found)

-- one more row of the copy, from those that are left
pub copied : {U : Type 0} (all es left rest fs : List (ℕ × Row U)) (t : ℕ) (row new : Row U) → IsStrictlySortedBy nat_cmp (keys_of all) → es ++ left ≡ all → left ≡ (t, row) ∷ rest → fs ≡ insert_entry nat_cmp es t new → new ≡ row → fs ++ rest ≡ all
copied {U = U} all es left rest fs t row new rises so_far next added same =
    let split : es ++ (t, new) ∷ rest ≡ all = ap (λ (r : Row U). es ++ (t, r) ∷ rest) same ∙ ap (λ ys. es ++ ys) (sym next) ∙ so_far in
    ap (λ ys. ys ++ rest) (added ∙ insert_last nat_cmp_total es t new rest (subst (λ (ys : List (ℕ × Row U)). IsStrictlySortedBy nat_cmp (keys_of ys)) (sym split) rises))
    ∙ append_assoc es ((t, new) ∷ []) rest ∙ split

not_above : (t q : ℕ) (r : Ordering) → r ≡ nat_cmp t q → is_gt r ≡ false → t ≤ q
not_above t q Less is h = let less : t < q = ranked t q Less is in omega arith
not_above t q Equal is h = let same : t ≡ q = ranked t q Equal is in omega arith
not_above t q Greater is h = cc

-- the first of the entries has the least number
pub first_found : {U : Type 0} (es : List (ℕ × Row U)) (m : Table U) → from_entries es ≡ m → (t : ℕ) (row : Row U) → lookup (is_at (nat_cmp t)) es ≡ Some row
    → ((q : ℕ) → IsSome (lookup (is_at (nat_cmp q)) es) → is_gt (nat_cmp t q) ≡ false) → IsFirst m t
first_found {U = U} es m seen t row found least =
    (subst (λ (o : Option (Row U)). IsSome o) (sym (has es m seen t ∙ found)) refl, λ q present. not_above t q (nat_cmp t q) refl (least q (subst (λ (o : Option (Row U)). IsSome o) (has es m seen q) present)))
