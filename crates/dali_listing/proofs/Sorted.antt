-- What is left of the rows once they are sorted and each stands there once.
use Rattle.std.proofs.Common.{◌≡◌, ◌≢◌, ◌⊎◌, inl, inr, ℕ, ◌<◌, Bool, true, false, true≢false, List, ap, sym, subst, ◌∙◌}
use Rattle.std.proofs.lemmas.Bool.Decides.{eqb_tells}
use Rattle.std.specs.Prelude.{nat_eq, Contains, ◌==◌, ◌&&◌}
use Rattle.std.specs.List.{dedup}
use Rattle.std.specs.List.Sorted.{IsPermutation, IsSorted}
use Rattle.std.specs.Cmp.{first_so, second_so, IsEquivalence, IsTotalOrder, then_total, on_total, nat_cmp_total}
use Rattle.std.specs.Ordering.{eq_by_cmp}
use Rattle.std.specs.Cmp.Lexicographic.{pointwise, bytes_decides, nat_list_cmp_total}
use Rattle.std.proofs.lemmas.List.Kept.{Contains-dedup, Contains-from_dedup, IsStrictlySortedBy-dedup}
use Rattle.std.proofs.lemmas.List.Sorted.{Contains-permutation, IsPermutation-sym}
use Rattle.std.proofs.Math.ListN.{get_or-map}
use Rattle.std.proofs.lemmas.List.{length-map}
use Rattle.dali_geometry.specs.Sizes.{Sizes}
use Rattle.dali_access.specs.Index.Records.{records}
use Rattle.dali_listing.specs.declared.Listed.{Listed}
use Rattle.dali_listing.specs.Listing.{pair_of, pairs_of, order, IsListing}

abbrev pub row_of : ℕ × List ℕ → Listed
row_of p = record { key = p.0; value = p.1 }

pub in_pairs : (rows : List Listed) (row : Listed) → Contains rows row → Contains (pairs_of rows) (pair_of row)
in_pairs rows row h = (h.0, subst (λ n. h.0 < n) (sym (length-map rows pair_of)) h.1, get_or-map pair_of rows h.0 row ∙ ap pair_of h.2)

pub pairs_in : (rows : List Listed) (row : Listed) → Contains (pairs_of rows) (pair_of row) → Contains rows row
pairs_in rows row h = (h.0, subst (λ n. h.0 < n) (length-map rows pair_of) h.1, ap row_of (sym (get_or-map pair_of rows h.0 row) ∙ h.2))

abbrev pub alike : Listed → Listed → Bool
alike x y = (x.key == y.key) && pointwise nat_eq x.value y.value

pub one_row : (x y : Listed) → x.key ≡ y.key → x.value ≡ y.value → x ≡ y
one_row x y k v i = record { key = k i; value = v i }

pub alike_is_one : (x y : Listed) → alike x y ≡ true → x ≡ y
alike_is_one x y h = one_row x y (keys (eqb_tells x.key y.key)) ((bytes_decides x.value y.value).0 (second_so (x.key == y.key) (pointwise nat_eq x.value y.value) h))
  where
    keys : (((x.key == y.key) ≡ true) × (x.key ≡ y.key)) ⊎ (((x.key == y.key) ≡ false) × (x.key ≢ y.key)) → x.key ≡ y.key
    keys (inl a) = a.1
    keys (inr a) = absurd (true≢false (sym (first_so (x.key == y.key) (pointwise nat_eq x.value y.value) h) ∙ a.0))

pub in_order : IsTotalOrder order
in_order = then_total (on_total (λ (row : Listed). row.key) nat_cmp_total) (on_total (λ (row : Listed). row.value) nat_list_cmp_total)

pub listing : (same : Listed → Listed → Bool) → IsEquivalence same → ((x y : Listed) → same x y ≡ eq_by_cmp order x y) → ((x y : Listed) → same x y ≡ true → x ≡ y) → (s : Sizes) (image : List (List ℕ)) (rows sorted : List Listed) → pairs_of rows ≡ records s image → IsPermutation rows sorted → IsSorted order sorted → IsListing s image (dedup same sorted)
listing same equal ties decides s image rows sorted so moved rises = record {
  exact = λ k v. (λ h. there (row_of (k, v)) h, λ h. back (row_of (k, v)) h);
  ascending = IsStrictlySortedBy-dedup in_order ties sorted rises;
}
  where
    there : (row : Listed) → Contains (pairs_of (dedup same sorted)) (pair_of row) → Contains (records s image) (pair_of row)
    there row h = subst (λ ps. Contains ps (pair_of row)) so (in_pairs rows row (Contains-permutation sorted rows row (IsPermutation-sym rows sorted moved) (Contains-from_dedup same sorted row (pairs_in (dedup same sorted) row h))))

    back : (row : Listed) → Contains (records s image) (pair_of row) → Contains (pairs_of (dedup same sorted)) (pair_of row)
    back row h = in_pairs (dedup same sorted) row (Contains-dedup equal decides sorted row (Contains-permutation rows sorted row moved (pairs_in rows row (subst (λ ps. Contains ps (pair_of row)) (sym so) h))))
