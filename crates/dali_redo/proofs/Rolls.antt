-- The undos of two tables, performed transaction by transaction, the least first.
use Rattle.std.proofs.Common.{◌≡◌, ℕ, zero, suc, ◌+◌, ◌-◌, ◌<◌, ◌≤◌, Bool, true, false, cond, List, [], ◌∷◌, length, Option, Some, None, IsSome, refl, ap, sym, subst, ◌∙◌, ⊎_elim, arith}
use Rattle.std.specs.Prelude.{◌==◌, fold, is_some, reverse, All}
use Rattle.std.proofs.lemmas.List.Elements.{All-from_recursion}
use Rattle.dali_record.specs.Spelling.{IsUndo}
use Rattle.std.specs.List.Sorted.{IsStrictlyIncreasing}
use Rattle.std.specs.Option.{option_map, option_map_or}
use Rattle.std.specs.FinMap.{empty, get, remove, len, len-remove, get-empty, empty_of_len}
use Rattle.std.specs.Ordering.{nat_cmp}
use Rattle.std.proofs.Math.ListN.{length-set}
use Rattle.std.specs.Cmp.{nat_cmp_total}
use Rattle.std.proofs.lemmas.Bool.{cases_lt, ne_eqb, false≢true, eq-eqb, eqb-true}
use Rattle.dali_att.specs.Table.{Row, Table}
use Rattle.dali_record.specs.declared.operations.Pending.{Pending}
use Rattle.dali_record.specs.Damage.{has}
use Rattle.dali_history.specs.Recovered.{roll_back, undo_into}
use Rattle.dali_history.proofs.Members.{fold_within}
use Rattle.dali_history.proofs.Rising.{Up, up_from, above, not_below}
use Rattle.dali_resume.specs.Laws.{undos_in}
use Rattle.dali_resume.specs.Tests.{Status, Idle}
use Rattle.dali_runs.proofs.Tables.{ended}
use Rattle.dali_redo.specs.Redoing.{AreUndos, status_at, either, performed_in}
use Rattle.dali_redo.specs.Steps.{Covers, rolled, Performs}
use Rattle.dali_redo.specs.Tables.{IsLeast}
use Rattle.dali_redo.proofs.Statuses.{status_of, put_status}

abbrev pub rolls : (ℕ → List Pending) → List (List ℕ) → List ℕ → List (List ℕ)
rolls us image ts = fold (λ im t. roll_back im (us t)) image ts

pub rolls_nothing : (us : ℕ → List Pending) (ts : List ℕ) (image : List (List ℕ)) → ((t : ℕ) → us t ≡ []) → rolls us image ts ≡ image
rolls_nothing us [] image h = refl
rolls_nothing us (t ∷ ts) image h = ap (λ vs. fold (λ im u. roll_back im (us u)) (roll_back image vs) ts) (h t) ∙ rolls_nothing us ts image h

-- the first of them, performed before the others
first_taken : (us vs : ℕ → List Pending) (t : ℕ) → ((u : ℕ) → u < t → us u ≡ []) → ((u : ℕ) → vs u ≡ cond (t == u) [] (us u)) → (ts : List ℕ) → Up ts → (has ts t ≡ false → us t ≡ [])
    → (image : List (List ℕ)) → rolls us image ts ≡ rolls vs (roll_back image (us t)) ts
first_taken us vs t low gone [] up covers image = ap (roll_back image) (sym (covers refl))
first_taken us vs t low gone (x ∷ xs) up covers image = ⊎_elim (before (λ h. first_taken us vs t low gone xs up.1 h image)) behind (cases_lt x t)
  where
    apart : (u : ℕ) → (t == u) ≡ false → vs u ≡ us u
    apart u e = gone u ∙ ap (λ b. cond b [] (us u)) e

    before : ((has xs t ≡ false → us t ≡ []) → rolls us image xs ≡ rolls vs (roll_back image (us t)) xs) → x < t → rolls us image (x ∷ xs) ≡ rolls vs (roll_back image (us t)) (x ∷ xs)
    before later h =
        let none : us x ≡ [] = low x h in
        let other : (x == t) ≡ false = ne_eqb x t (λ e. absurd (omega (arith, h, e))) in
        let same : vs x ≡ [] = apart x (ne_eqb t x (λ e. absurd (omega (arith, h, e)))) ∙ none in
        ap (λ ws. rolls us (roll_back image ws) xs) none
        ∙ later (λ e. covers (rw (other, e) refl))
        ∙ sym (ap (λ ws. rolls vs (roll_back (roll_back image (us t)) ws) xs) same)

    rest : t ≤ x → (u : ℕ) → has xs u ≡ true → (im : List (List ℕ)) → roll_back im (us u) ≡ roll_back im (vs u)
    rest h u e im = let up' : x < u = above x xs u up.0 e in ap (roll_back im) (sym (apart u (ne_eqb t u (λ g. absurd (omega (arith, h, up', g))))))

    behind : t ≤ x → rolls us image (x ∷ xs) ≡ rolls vs (roll_back image (us t)) (x ∷ xs)
    behind h = by_test (t == x) refl
      where
        by_test : (b : Bool) → (t == x) ≡ b → rolls us image (x ∷ xs) ≡ rolls vs (roll_back image (us t)) (x ∷ xs)
        by_test true e =
            let same : t ≡ x = eqb-true t x e in
            let none : vs x ≡ [] = gone x ∙ ap (λ b. cond b [] (us x)) e in
            ap (λ u. rolls us (roll_back image (us u)) xs) (sym same)
            ∙ fold_within (λ im u. roll_back im (us u)) (λ im u. roll_back im (vs u)) xs (rest h) (roll_back image (us t))
            ∙ sym (ap (λ ws. rolls vs (roll_back (roll_back image (us t)) ws) xs) none)
        by_test false e =
            let other : (x == t) ≡ false = ne_eqb x t (λ g. absurd (differ (sym g) e)) in
            let low' : has xs t ≡ false = not_below x xs t up.0 h in
            let none : us t ≡ [] = covers (rw (other, low') refl) in
            fold_within (λ im u. roll_back im (us u)) (λ im u. roll_back im (vs u)) xs (rest h) (roll_back image (us x))
            ∙ ap (λ ws. rolls vs (roll_back image ws) xs) (sym (apart x e))
            ∙ sym (ap (λ ws. rolls vs (roll_back (roll_back image ws) (vs x)) xs) none)
          where
            differ : t ≡ x → (t == x) ≡ false → ⊥
            differ g f = let yes : (t == x) ≡ true = eq-eqb t x g in cc

-- ---- what is performed, by rows
abbrev pub left_row : Option (Row Pending) → Bool
left_row o = is_some (option_map (λ row. row.state) o)

abbrev pub by_rows : Option (Row Pending) → Status → List Pending
by_rows o z = either (left_row o) (option_map_or (λ row. row.undos) o []) (undos_in z)

pub performed_gone : (left table : Table Pending) (t u : ℕ) → performed_in (remove left t) (remove table t) u ≡ cond (t == u) [] (performed_in left table u)
performed_gone left table t u =
    ap (λ z. by_rows (get (remove left t) u) z) (put_status table (remove table t) t None (ended table t) u)
    ∙ ap (λ o. by_rows o (cond (t == u) Idle (status_at table u))) (ended left t u)
    ∙ split (t == u)
  where
    split : (b : Bool) → by_rows (cond b None (get left u)) (cond b Idle (status_at table u)) ≡ cond b [] (by_rows (get left u) (status_at table u))
    split true = refl
    split false = refl

absent_none : (left table : Table Pending) (u : ℕ) → (IsSome (get table u) → ⊥) → (IsSome (get left u) → ⊥) → performed_in left table u ≡ []
absent_none left table u no_row none = by_both (get left u) none (get table u) no_row
  where
    by_both : (o : Option (Row Pending)) → (IsSome o → ⊥) → (p : Option (Row Pending)) → (IsSome p → ⊥) → by_rows o (status_of p) ≡ []
    by_both None h None g = refl
    by_both None h (Some row) g = absurd (g refl)
    by_both (Some row) h p g = absurd (h refl)

below_none : (left table : Table Pending) (t u : ℕ) → IsLeast table left t → u < t → performed_in left table u ≡ []
below_none left table t u l low =
    absent_none left table u
    (λ h. let up : t ≤ u = l.one u h in absurd (omega (arith, low, up)))
    (λ h. let up : t ≤ u = l.other u h in absurd (omega (arith, low, up)))

-- ---- the loop
pub record IsSoFar (left0 table0 : Table Pending) (image0 : List (List ℕ)) (left table : Table Pending) (image : List (List ℕ)) : Type 0 where
  pub rolled_alike : (ts : List ℕ) → IsStrictlyIncreasing ts → Covers left0 table0 ts → rolled left0 table0 image0 ts ≡ rolled left table image ts
  pub covers : (t : ℕ) → performed_in left0 table0 t ≡ [] → performed_in left table t ≡ []

pub so_far_start : (left table : Table Pending) (image : List (List ℕ)) → IsSoFar left table image left table image
so_far_start left table image = record { rolled_alike = λ ts up covers. refl; covers = λ t h. h }

pub so_far_next : (left0 table0 : Table Pending) (image0 : List (List ℕ)) (left table : Table Pending) (image : List (List ℕ)) (t : ℕ) → IsSoFar left0 table0 image0 left table image → IsLeast table left t
    → IsSoFar left0 table0 image0 (remove left t) (remove table t) (roll_back image (performed_in left table t))
so_far_next left0 table0 image0 left table image t s l = record {
  rolled_alike = λ ts up covers.
      s.rolled_alike ts up covers ∙ first_taken (performed_in left table) (performed_in (remove left t) (remove table t)) t (λ u low. below_none left table t u l low) (performed_gone left table t) ts (up_from ts up) (λ e. s.covers t (covers t e)) image;
  covers = λ u h. performed_gone left table t u ∙ by_test (t == u) (s.covers u h);
}
  where
    by_test : {us : List Pending} (b : Bool) → us ≡ [] → cond b [] us ≡ []
    by_test true e = refl
    by_test false e = e

-- ---- an undo list keeps the number of regions
undone_length : (us : List Pending) (image : List (List ℕ)) → length (fold undo_into image us) ≡ length image
undone_length [] image = refl
undone_length (p ∷ us) image = undone_length us (undo_into image p) ∙ length-set image p.region _

pub rolled_length : (us : List Pending) (image : List (List ℕ)) → length (roll_back image us) ≡ length image
rolled_length us image = undone_length (reverse us) image

-- the same of what the calls leave
pub so_far_on : (left0 table0 : Table Pending) (image0 : List (List ℕ)) (left table : Table Pending) (image : List (List ℕ)) (t : ℕ) (l m : Table Pending) (im : List (List ℕ)) (us : List Pending)
    → IsSoFar left0 table0 image0 left table image → IsLeast table left t → l ≡ remove left t → m ≡ remove table t → us ≡ performed_in left table t → im ≡ roll_back image us
    → IsSoFar left0 table0 image0 l m im
so_far_on left0 table0 image0 left table image t l m im us s least e f g h =
    subst (λ o. IsSoFar left0 table0 image0 o m im) (sym e)
    (subst (λ o. IsSoFar left0 table0 image0 (remove left t) o im) (sym f)
    (subst (λ o. IsSoFar left0 table0 image0 (remove left t) (remove table t) o) (sym (h ∙ ap (roll_back image) g)) (so_far_next left0 table0 image0 left table image t s least)))

pub undos_on : (left table l m : Table Pending) (t : ℕ) → l ≡ remove left t → m ≡ remove table t → ((u : ℕ) → AreUndos (performed_in left table u)) → (u : ℕ) → AreUndos (performed_in l m u)
undos_on left table l m t e f h u =
    subst (λ o. AreUndos (performed_in o m u)) (sym e)
    (subst (λ o. AreUndos (performed_in (remove left t) o u)) (sym f)
    (subst AreUndos (sym (performed_gone left table t u)) (by_test (performed_in left table u) (t == u) (h u))))
  where
    by_test : (us : List Pending) (b : Bool) → AreUndos us → AreUndos (cond b [] us)
    by_test us true g = tt
    by_test us false g = g

pub all_undos : (us vs : List Pending) → us ≡ vs → AreUndos vs → All (λ p. IsUndo p.undo) us
all_undos us vs e h = All-from_recursion (λ p. IsUndo p.undo) us (subst AreUndos (sym e) h)

pub rolled_length_on : (us : List Pending) (image0 image im : List (List ℕ)) → im ≡ roll_back image us → length image ≡ length image0 → length im ≡ length image0
rolled_length_on us image0 image im e h = ap length e ∙ (rolled_length us image ∙ h)

no_row : (t : ℕ) → IsSome (get (empty {X = Row Pending} {R = nat_cmp}) t) → ⊥
no_row t h = by_row (get (empty {X = Row Pending} {R = nat_cmp}) t) (get-empty {X = Row Pending} nat_cmp t) h
  where
    by_row : (o : Option (Row Pending)) → o ≡ None → IsSome o → ⊥
    by_row None e g = false≢true g
    by_row (Some row) e g = cc

pub none_performed : (t : ℕ) → performed_in empty empty t ≡ []
none_performed t = absent_none empty empty t (no_row t) (no_row t)

pub performs_end : (left0 table0 left table : Table Pending) (image0 image : List (List ℕ)) → IsSoFar left0 table0 image0 left table image → table ≡ empty → left ≡ empty → Performs left0 table0 image0 image
performs_end left0 table0 left table image0 image s e f ts up covers =
    sym (s.rolled_alike ts up covers ∙ rolls_nothing (performed_in left table) ts image (λ t. ap (λ m. performed_in left m t) e ∙ (ap (λ m. performed_in m empty t) f ∙ none_performed t)))

-- ---- what one removal does to their count
shorter : (m : Table Pending) (t : ℕ) → len (remove m t) ≤ len m
shorter m t = by_one (is_some (get m t)) (len-remove nat_cmp_total m t)
  where
    by_one : (b : Bool) → len (remove m t) ≡ cond b (len m - 1) (len m) → len (remove m t) ≤ len m
    by_one true e = omega (arith, e)
    by_one false e = omega (arith, e)

one_less : (m : Table Pending) (t : ℕ) → IsSome (get m t) → len (remove m t) < len m
one_less m t h = by_count (len m) refl
  where
    gone : len (remove m t) ≡ len m - 1
    gone = len-remove nat_cmp_total m t ∙ ap (λ b. cond b (len m - 1) (len m)) (some h)
      where
        some : IsSome (get m t) → is_some (get m t) ≡ true
        some g = g

    by_count : (n : ℕ) → len m ≡ n → len (remove m t) < len m
    by_count zero e = absurd (no_row t (subst (λ o. IsSome (get o t)) (empty_of_len m e) h))
    by_count (suc n) e = omega (arith, e, gone)

pub fewer : (left table : Table Pending) (t : ℕ) → IsLeast table left t → len (remove table t) + len (remove left t) < len table + len left
fewer left table t l = ⊎_elim
    (λ h. let a = one_less table t h in let b = shorter left t in omega (arith, a, b))
    (λ h. let a = shorter table t in let b = one_less left t h in omega (arith, a, b))
    l.there
