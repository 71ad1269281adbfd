-- The test by which two rows are compared.
use Rattle.std.proofs.Common.{◌≡◌, ◌≢◌, ◌⊎◌, inl, inr, true, false, refl, ◌∙◌, ap, subst}
use Rattle.std.specs.Prelude.{nat_eq, ◌==◌, ◌&&◌}
use Rattle.std.specs.Cmp.Lexicographic.{pointwise, bytes_decides}
use Rattle.std.proofs.lemmas.Bool.Decides.{eqb_tells}
use Rattle.dali_listing.specs.declared.Listed.{Listed}
use Rattle.dali_listing.proofs.Sorted.{alike, alike_is_one}

one_is_alike : (x y : Listed) → x ≡ y → alike x y ≡ true
one_is_alike x y e = subst (λ z. alike x z ≡ true) e (both (eqb_tells x.key x.key) ((bytes_decides x.value x.value).1 refl))
  where
    both : (((x.key == x.key) ≡ true) × (x.key ≡ x.key)) ⊎ (((x.key == x.key) ≡ false) × (x.key ≢ x.key)) → pointwise nat_eq x.value x.value ≡ true → alike x x ≡ true
    both (inl a) v = ap (λ b. b && pointwise nat_eq x.value x.value) a.0 ∙ v
    both (inr a) v = absurd (a.1 refl)

pub rows_decide : (x y : Listed) → (alike x y ≡ true → x ≡ y) × (x ≡ y → alike x y ≡ true)
rows_decide x y = (alike_is_one x y, one_is_alike x y)
