-- The sum of what is promised, behind each change.
use Rattle.std.proofs.Common.{◌≡◌, ℕ, ◌+◌, ◌-◌, ◌≤◌, Bool, true, false, cond, List, [], ◌∷◌, Option, Some, None, refl, sym, ap, subst, ◌∙◌, arith}
use Rattle.std.specs.Prelude.{◌&&◌, ◌==◌, T, length}
use Rattle.std.specs.Option.{option_map_or}
use Rattle.std.specs.Ordering.{nat_cmp, eq_by_cmp, is_lt, is_eq}
use Rattle.std.specs.declared.cmp.Ordering.{Ordering}
use Rattle.std.specs.declared.cmp.Ordering.TheVariants.{Less, Equal, Greater}
use Rattle.std.specs.Cmp.{nat_cmp_total, tied_itself, eq_by_cmp_equiv, unsigned_tied}
use Rattle.std.specs.FinMap.{get, insert, remove, empty, entries, entries_sorted, entries-insert, get-entries, get-insert, get-remove, find, put, is_sorted, same_map, nat_cmp-IsAntisymmetric, len-entries, len-empty}
use Rattle.std.specs.FinMap.Entries.{below_all, by_order}
use Rattle.std.specs.Map.{lookup}
use Rattle.std.specs.BTreeMap.{is_at}
use Rattle.dali_lists.proofs.Tests.{T_left, T_right}
use Rattle.dali_att.proofs.Maps.{get_entries, inserted}
use Rattle.dali_system.specs.declared.promises.Uses.{Uses}
use Rattle.dali_system.specs.declared.promises.Uses.TheVariants.{Nothing, Bytes, All}
use Rattle.dali_system.specs.Promised.{Promised, OwnChanges, OthersStay, Covers, behind, of_entries, promised_to, sum_of, total, used}

abbrev pub found : Option ℕ → ℕ
found o = option_map_or (λ n. n) o 0

-- ---- entries in order

less : (o : Ordering) → T (is_lt o) → o ≡ Less
less Less p = refl
less Equal p = absurd p
less Greater p = absurd p

both : (a b : Bool) → T a → T b → T (a && b)
both true b p q = q
both false b p q = p

below_less : (x y : ℕ) (es : List (ℕ × ℕ)) → nat_cmp x y ≡ Less → T (below_all nat_cmp y es) → T (below_all nat_cmp x es)
below_less x y [] p h = tt
below_less x y (e ∷ es) p h = both _ _ (subst (λ r. T (is_lt r)) (sym (nat_cmp_total.trans x y e.0 p (less _ (T_left _ _ h)))) tt) (below_less x y es p (T_right _ _ h))

find_below : (q : ℕ) (es : List (ℕ × ℕ)) → T (below_all nat_cmp q es) → find nat_cmp q es ≡ None
find_below q [] h = refl
find_below q (e ∷ es) h = ap (λ r. cond (is_eq r) (Some e.1) (find nat_cmp q es)) (less _ (T_left _ _ h)) ∙ find_below q es (T_right _ _ h)

sum_put : (k v : ℕ) (es : List (ℕ × ℕ)) → T (is_sorted nat_cmp es) → sum_of (put nat_cmp k v es) + found (find nat_cmp k es) ≡ sum_of es + v
sum_put k v [] h = omega arith
sum_put k v (e ∷ es) h =
    elim (nat_cmp k e.0) as (λ r. nat_cmp k e.0 ≡ r → sum_of (by_order r ((k, v) ∷ e ∷ es) ((e.0, v) ∷ es) (e ∷ put nat_cmp k v es)) + found (cond (is_eq r) (Some e.1) (find nat_cmp k es)) ≡ e.1 + sum_of es + v) [
      | Less ↦ λ p. subst (λ (x : Option ℕ). v + (e.1 + sum_of es) + found x ≡ e.1 + sum_of es + v) (sym (find_below k es (below_less k e.0 es p (T_left _ _ h)))) (omega arith)
      | Equal ↦ λ p. omega arith
      | Greater ↦ λ p. let rest = sum_put k v es (T_right _ _ h) in omega (arith, rest)
    ] refl

-- ---- each change
pub total_none : total empty ≡ 0
total_none = ap sum_of (no_items (entries empty) (sym (len-entries (empty {R = nat_cmp})) ∙ len-empty nat_cmp ℕ))
  where
    no_items : (es : List (ℕ × ℕ)) → length es ≡ 0 → es ≡ []
    no_items [] e = refl
    no_items (x ∷ es) e = absurd (omega (arith, e))

pub total_insert : (m : Promised) (t v : ℕ) → total (insert m t v) + promised_to m t ≡ total m + v
total_insert m t v =
    ap (λ es. sum_of es + promised_to m t) (entries-insert nat_cmp_total m t v)
    ∙ ap (λ o. sum_of (put nat_cmp t v (entries m)) + found o) (get-entries m t) ∙ sum_put t v (entries m) (entries_sorted m)

same : (t : ℕ) → eq_by_cmp nat_cmp t t ≡ true
same t = ap is_eq (tied_itself nat_cmp_total t)

removed_none : (m : Promised) (t : ℕ) → promised_to (remove m t) t ≡ 0
removed_none m t = ap found (get-remove nat_cmp_total m t t ∙ ap (λ b. cond b None (get m t)) (same t))

put_twice : (m : Promised) (t v : ℕ) → insert (remove m t) t v ≡ insert m t v
put_twice m t v = same_map nat_cmp_total nat_cmp-IsAntisymmetric _ _ (λ q.
    get-insert nat_cmp_total (remove m t) t v q ∙ ap (cond (eq_by_cmp nat_cmp q t) (Some v)) (get-remove nat_cmp_total m t q)
    ∙ at (eq_by_cmp nat_cmp q t) (get m q) ∙ sym (get-insert nat_cmp_total m t v q))
  where
    at : (b : Bool) (o : Option ℕ) → cond b (Some v) (cond b None o) ≡ cond b (Some v) o
    at true o = refl
    at false o = refl

pub total_remove : (m : Promised) (t : ℕ) → total (remove m t) + promised_to m t ≡ total m
total_remove m t = omega (arith, total_insert (remove m t) t 0, removed_none m t, ap total (put_twice m t 0), total_insert m t 0)

pub total_used : (m : Promised) (t n : ℕ) → total (used m t n) + promised_to m t ≡ total m + (promised_to m t - n)
total_used m t n = at (get m t) refl
  where
    at : (o : Option ℕ) → get m t ≡ o → total (option_map_or (λ p. insert m t (p - n)) o m) + promised_to m t ≡ total m + (promised_to m t - n)
    at None e = let none : promised_to m t ≡ 0 = ap found e in omega (arith, none)
    at (Some p) e = let some : promised_to m t ≡ p = ap found e in omega (arith, some, total_insert m t (p - n))

pub part : (m : Promised) (t : ℕ) → promised_to m t ≤ total m
part m t = omega (arith, total_remove m t)

-- what is behind a record, and what the record may use, are promised now
pub covered : (m : Promised) (u : Uses) (n : ℕ) → Covers m u n → n + total (behind m u) ≤ total m
covered m Nothing n c = absurd c
covered m (Bytes t most) n c = omega (arith, total_used m t most, part m t, c.0, c.1)
covered m (All t) n c = omega (arith, total_remove m t, c)

-- ---- of one transaction
insert_own : (m : Promised) (t n : ℕ) → promised_to (insert m t n) t ≡ n
insert_own m t n = ap found (get-insert nat_cmp_total m t n t ∙ ap (λ b. cond b (Some n) (get m t)) (same t))

used_own : (m : Promised) (t n : ℕ) → promised_to (used m t n) t ≡ promised_to m t - n
used_own m t n = at (get m t) refl
  where
    at : (o : Option ℕ) → get m t ≡ o → promised_to (option_map_or (λ p. insert m t (p - n)) o m) t ≡ promised_to m t - n
    at None e = let none : promised_to m t ≡ 0 = ap found e in omega (arith, none)
    at (Some p) e = insert_own m t (p - n) ∙ ap (λ k. k - n) (sym (ap found e))

pub own_changes : OwnChanges
own_changes m t n = (insert_own m t n, used_own m t n, removed_none m t)

apart : (t u : ℕ) → (t == u) ≡ false → eq_by_cmp nat_cmp u t ≡ false
apart t u e = (eq_by_cmp_equiv nat_cmp_total).symm u t ∙ unsigned_tied t u ∙ e

insert_other : (m : Promised) (t u n : ℕ) → (t == u) ≡ false → promised_to (insert m t n) u ≡ promised_to m u
insert_other m t u n e = ap found (get-insert nat_cmp_total m t n u ∙ ap (λ b. cond b (Some n) (get m u)) (apart t u e))

used_other : (m : Promised) (t u n : ℕ) → (t == u) ≡ false → promised_to (used m t n) u ≡ promised_to m u
used_other m t u n e = at (get m t)
  where
    at : (o : Option ℕ) → promised_to (option_map_or (λ p. insert m t (p - n)) o m) u ≡ promised_to m u
    at None = refl
    at (Some p) = insert_other m t u (p - n) e

pub others_stay : OthersStay
others_stay m t u n e = (insert_other m t u n e, used_other m t u n e, ap found (get-remove nat_cmp_total m t u ∙ ap (λ b. cond b None (get m u)) (apart t u e)))

-- ---- the entries of an ordered map
module _ (es : List (ℕ × ℕ)) (t : ℕ) where
  has : (o : Option ℕ) → lookup (is_at (nat_cmp t)) es ≡ o → get (of_entries es) t ≡ o
  has o is = get_entries nat_cmp_total es t ∙ is

  pub read : (m : Promised) → of_entries es ≡ m → (o : Option ℕ) → lookup (is_at (nat_cmp t)) es ≡ o → promised_to m t ≡ found o
  read m seen o is = ap (λ (n : Promised). promised_to n t) (sym seen) ∙ ap found (has o is)

  pub lowered : (fs : List (ℕ × ℕ)) (n old new : ℕ) → lookup (is_at (nat_cmp t)) es ≡ Some old → new ≡ old - n
      → ((q : ℕ) → lookup (is_at (nat_cmp q)) fs ≡ cond (is_at (nat_cmp t) q) (Some new) (lookup (is_at (nat_cmp q)) es)) → of_entries fs ≡ used (of_entries es) t n
  lowered fs n old new is less h =
      inserted nat_cmp_total nat_cmp-IsAntisymmetric es fs t new h
      ∙ ap (insert (of_entries es) t) less
      ∙ sym (ap (λ (o : Option ℕ). option_map_or (λ p. insert (of_entries es) t (p - n)) o (of_entries es)) (has (Some old) is))

  pub not_lowered : (n : ℕ) → lookup (is_at (nat_cmp t)) es ≡ None → of_entries es ≡ used (of_entries es) t n
  not_lowered n is = sym (ap (λ (o : Option ℕ). option_map_or (λ p. insert (of_entries es) t (p - n)) o (of_entries es)) (has None is))
