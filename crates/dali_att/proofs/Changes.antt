-- What the table has at a transaction after each change.
use Rattle.std.proofs.Common.{◌≡◌, ℕ, Bool, cond, refl, sym, ◌∙◌, ap}
use Rattle.std.specs.Prelude.{Option, Some, None, is_some, true, false, if◌then◌else◌, ◌==◌}
use Rattle.std.specs.Option.{option_map, option_map_or}
use Rattle.std.specs.Ordering.{nat_cmp, eq_by_cmp}
use Rattle.std.specs.Cmp.{nat_cmp_total, eq_by_cmp_equiv, unsigned_tied}
use Rattle.std.specs.FinMap.{get, insert, remove, get-insert, get-remove}
use Rattle.std.proofs.lemmas.Map.Views.{exact_unsigned_eq}
use Rattle.dali_att.specs.Table.{Row, Table, with_row}

same_number : (u t : ℕ) → eq_by_cmp nat_cmp u t ≡ (t == u)
same_number u t = (eq_by_cmp_equiv nat_cmp_total).symm u t ∙ unsigned_tied t u

none_there : {U : Type 0} (m : Table U) (t u : ℕ) → get m t ≡ None → (b : Bool) → (t == u) ≡ b → get m u ≡ (if b then None else get m u)
none_there m t u is true same = ap (get m) (sym (exact_unsigned_eq t u same)) ∙ is
none_there m t u is false apart = refl

there : {U : Type 0} (m : Table U) (t u : ℕ) (o : Option (Row U)) (change : Row U → Row U) → get m t ≡ o → get (option_map_or (λ row. insert m t (change row)) o m) u ≡ (if t == u then option_map change o else get m u)
there m t u (Some row) change is = get-insert nat_cmp_total m t (change row) u ∙ ap (λ b. cond b (Some (change row)) (get m u)) (same_number u t)
there m t u None change is = none_there m t u is (t == u) refl

mapped : {U : Type 0} (o : Option (Row U)) (change : Row U → Row U) → is_some (option_map change o) ≡ is_some o
mapped (Some row) change = refl
mapped None change = refl

as_before : {U : Type 0} (m : Table U) (t u : ℕ) (change : Row U → Row U) (b : Bool) → (t == u) ≡ b → is_some (if b then option_map change (get m t) else get m u) ≡ is_some (get m u)
as_before m t u change true same = mapped (get m t) change ∙ ap (λ v. is_some (get m v)) (exact_unsigned_eq t u same)
as_before m t u change false apart = refl

module _ {U : Type 0} (m : Table U) (t : ℕ) where
  pub get-added : (row : Row U) (u : ℕ) → get (insert m t row) u ≡ (if t == u then Some row else get m u)
  get-added row u = get-insert nat_cmp_total m t row u ∙ ap (λ b. cond b (Some row) (get m u)) (same_number u t)

  pub get-ended : (u : ℕ) → get (remove m t) u ≡ (if t == u then None else get m u)
  get-ended u = get-remove nat_cmp_total m t u ∙ ap (λ b. cond b None (get m u)) (same_number u t)

  pub get-with_row : (change : Row U → Row U) (u : ℕ) → get (with_row m t change) u ≡ (if t == u then option_map change (get m t) else get m u)
  get-with_row change u = there m t u (get m t) change refl

  -- who is there stays
  pub is_some-with_row : (change : Row U → Row U) (u : ℕ) → is_some (get (with_row m t change) u) ≡ is_some (get m u)
  is_some-with_row change u = ap (λ (o : Option (Row U)). is_some o) (get-with_row change u) ∙ as_before m t u change (t == u) refl
