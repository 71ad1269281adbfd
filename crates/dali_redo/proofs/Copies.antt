-- Lists that are copied into a table, and removed again.
use Rattle.std.proofs.Common.{◌≡◌, ℕ, ◌≤◌, ◌<◌, Bool, true, false, cond, List, [], ◌∷◌, ◌++◌, Option, Some, None, IsSome, refl, ap, sym, subst, ◌∙◌, inl, inr, arith, append_assoc, get_or}
use Rattle.std.specs.Prelude.{◌==◌, ◌+◌, fold, take, length}
use Rattle.std.proofs.lemmas.List.Sums.{fold_more}
use Rattle.std.specs.Option.{option_map}
use Rattle.std.specs.Cmp.{nat_cmp_total}
use Rattle.std.specs.Ordering.{nat_cmp}
use Rattle.std.specs.FinMap.{empty, get, insert, remove, get-empty, same_map, nat_cmp-IsAntisymmetric}
use Rattle.std.proofs.lemmas.List.{append-nil}
use Rattle.std.proofs.lemmas.Bool.{false≢true, eq-eqb, eqb-true}
use Rattle.dali_lists.proofs.Numbers.{eqb-self}
use Rattle.dali_att.specs.declared.state.State.{State}
use Rattle.dali_att.specs.declared.state.State.TheVariants.{Live}
use Rattle.dali_att.specs.Table.{Row, Table, fresh_row, state_at, with_row, with_undo, IsFirst}
use Rattle.dali_record.specs.declared.operations.Pending.{Pending}
use Rattle.dali_record.specs.declared.records.Record.{Record}
use Rattle.dali_record.specs.Files.{is_restarted}
use Rattle.dali_record.specs.Log.{txn_of}
use Rattle.dali_resume.specs.Laws.{undos_in}
use Rattle.dali_runs.proofs.Tables.{added, changed, ended}
use Rattle.dali_redo.specs.Redoing.{status_at, is_of}
use Rattle.dali_redo.specs.Tables.{IsCopied, AddsAll, row_held, IsHeld, Holds, IsLeast}

abbrev pub all_added : Table Pending → ℕ → List Pending → Table Pending
all_added m t us = fold (λ o p. with_row o t (with_undo p)) m us

row_at : (us : List Pending) (m : Table Pending) (t : ℕ) (row : Row Pending) → get m t ≡ Some row → get (all_added m t us) t ≡ Some (record { state = row.state; undos = row.undos ++ us })
row_at [] m t row e = e ∙ ap (λ vs. Some (record { state = row.state; undos = vs })) (sym (append-nil row.undos))
row_at (p ∷ us) m t row e =
    row_at us (with_row m t (with_undo p)) t (with_undo p row) (changed m t (with_undo p) t ∙ rw (eqb-self t, e) refl)
    ∙ ap (λ vs. Some (record { state = row.state; undos = vs })) (append_assoc row.undos (p ∷ []) us)

pub others_stay : (us : List Pending) (m : Table Pending) (t u : ℕ) → (t == u) ≡ false → get (all_added m t us) u ≡ get m u
others_stay [] m t u e = refl
others_stay (p ∷ us) m t u e = others_stay us (with_row m t (with_undo p)) t u e ∙ (changed m t (with_undo p) u ∙ rw e refl)

pub apart : (t u : ℕ) → (u ≡ t → ⊥) → (t == u) ≡ false
apart t u h = by_test (t == u) refl
  where
    by_test : (b : Bool) → (t == u) ≡ b → b ≡ false
    by_test false e = refl
    by_test true e = absurd (h (sym (eqb-true t u e)))

pub apart_from : (t u : ℕ) → (t == u) ≡ false → u ≡ t → ⊥
apart_from t u e h = let yes : (t == u) ≡ true = eq-eqb t u (sym h) in cc

pub stays_there : (m : Table Pending) (t : ℕ) (p : Pending) → IsSome (get m t) → IsSome (get (with_row m t (with_undo p)) t)
stays_there m t p h = subst (λ (o : Option (Row Pending)). IsSome o) (sym (changed m t (with_undo p) t ∙ ap (λ b. cond b (option_map (with_undo p) (get m t)) (get m t)) (eqb-self t))) (by_row (get m t) h)
  where
    by_row : (o : Option (Row Pending)) → IsSome o → IsSome (option_map (with_undo p) o)
    by_row None e = e
    by_row (Some row) e = refl

pub copied : (m n : Table Pending) (t : ℕ) (us : List Pending) → AddsAll (insert m t fresh_row) n t us → IsCopied m n t us
copied m n t us is u = ap (λ o. get o u) is ∙ by_test (t == u) refl
  where
    by_test : (b : Bool) → (t == u) ≡ b → get (all_added (insert m t fresh_row) t us) u ≡ cond b (Some (record { state = Live; undos = us })) (get m u)
    by_test true e =
        subst (λ v. get (all_added (insert m t fresh_row) t us) v ≡ Some (record { state = Live; undos = us })) (eqb-true t u e)
        (row_at us (insert m t fresh_row) t fresh_row (added m t fresh_row t ∙ ap (λ b. cond b (Some fresh_row) (get m t)) (eqb-self t)))
    by_test false e = others_stay us (insert m t fresh_row) t u e ∙ (added m t fresh_row u ∙ ap (λ b. cond b (Some fresh_row) (get m u)) e)

-- what was added to a table that lacked it is removed again
pub removed_again : (m n : Table Pending) (t : ℕ) → get m t ≡ None → ((u : ℕ) → (t == u) ≡ false → get n u ≡ get m u) → remove n t ≡ m
removed_again m n t none same = same_map nat_cmp_total nat_cmp-IsAntisymmetric (remove n t) m (λ u. ended n t u ∙ by_test u (t == u) refl)
  where
    by_test : (u : ℕ) (b : Bool) → (t == u) ≡ b → cond b None (get n u) ≡ get m u
    by_test u true e = sym (ap (get m) (sym (eqb-true t u e)) ∙ none)
    by_test u false e = same u e

pub removed_fresh : (m n : Table Pending) (t : ℕ) → get m t ≡ None → ((u : ℕ) → (u ≡ t → ⊥) → get n u ≡ get (insert m t fresh_row) u) → remove n t ≡ m
removed_fresh m n t none same = removed_again m n t none (λ u e. same u (apart_from t u e) ∙ (added m t fresh_row u ∙ ap (λ b. cond b (Some fresh_row) (get m u)) e))

pub added_more : (m o n : Table Pending) (t : ℕ) (us : List Pending) (i : ℕ) (d : Pending) → i < length us → AddsAll m o t (take i us) → n ≡ with_row o t (with_undo (get_or us i d)) → AddsAll m n t (take (i + 1) us)
added_more m o n t us i d within so_far e =
    e ∙ (ap (λ q. with_row q t (with_undo (get_or us i d))) so_far ∙ sym (fold_more (λ q p. with_row q t (with_undo p)) m us i d within))

-- ---- what is held

held_old_row : (o : Table Pending) (b : Bool) (u : ℕ) (row : Option (Row Pending)) → (b ≡ true → IsSome row) → row ≡ row_held o b u row
held_old_row o true u None h = absurd (false≢true (h refl))
held_old_row o false u None h = refl
held_old_row o b u (Some row) h = refl

pub held_old : (m o : Table Pending) (t : ℕ) (z : State) → state_at m t ≡ Some z → IsHeld m o (Some t) None m
held_old m o t z e = record {
  rows = λ u. held_old_row o (t == u) u (get m u) (λ g. subst (λ v. IsSome (get m v)) (eqb-true t u g) (by_row (get m t) e));
  none = λ h. refl;
  back = λ u h. absurd (cc);
}
  where
    by_row : (p : Option (Row Pending)) → option_map (λ row. row.state) p ≡ Some z → IsSome p
    by_row None f = absurd (cc)
    by_row (Some row) f = refl

pub held_new : (m o n : Table Pending) (t : ℕ) → get m t ≡ None → IsCopied m n t (undos_in (status_at o t)) → IsHeld m o (Some t) (Some t) n
held_new m o n t none copy = record {
  rows = λ u. copy u ∙ by_test u (t == u) refl;
  none = λ h. absurd (cc);
  back = λ u h. subst (λ v. remove n v ≡ m) (some_same t u h) (removed_again m n t none (λ v e. copy v ∙ ap (λ b. cond b (Some (record { state = Live; undos = undos_in (status_at o t) })) (get m v)) e));
}
  where
    some_same : (u v : ℕ) → Some u ≡ Some v → u ≡ v
    some_same u v h = cc

    by_test : (u : ℕ) (b : Bool) → (t == u) ≡ b → cond b (Some (record { state = Live; undos = undos_in (status_at o t) })) (get m u) ≡ row_held o b u (get m u)
    by_test u true e = subst (λ v. Some (record { state = Live; undos = undos_in (status_at o t) }) ≡ row_held o true v (get m v)) (eqb-true t u e) (sym (ap (row_held o true t) none))
    by_test u false e = held_old_row o false u (get m u) (λ g. absurd (cc))

pub held_none : (m o : Table Pending) → IsHeld m o None None m
held_none m o = record {
  rows = λ u. held_old_row o false u (get m u) (λ g. absurd (cc));
  none = λ h. refl;
  back = λ u h. absurd (cc);
}

pub holds : (m o n : Table Pending) (r : Record) (h : Option ℕ) → IsHeld m o (txn_of r) h n → Holds m o r (cond (is_restarted r) empty n)
holds m o n r h w u = by_test (is_restarted r)
  where
    by_test : (b : Bool) → get (cond b empty n) u ≡ cond b None (row_held o (is_of u r) u (get m u))
    by_test true = get-empty {X = Row Pending} nat_cmp u
    by_test false = w.rows u

-- ---- the least of two tables
pub least_first : (m n : Table Pending) (a b : ℕ) → IsFirst m a → IsFirst n b → a < b → IsLeast m n a
least_first m n a b f g h = record { there = inl f.0; one = f.1; other = λ u e. let low : b ≤ u = g.1 u e in omega (arith, low, h) }

pub least_second : (m n : Table Pending) (a b : ℕ) → IsFirst m a → IsFirst n b → b ≤ a → IsLeast m n b
least_second m n a b f g h = record { there = inr g.0; one = λ u e. let low : a ≤ u = f.1 u e in omega (arith, low, h); other = g.1 }

none_in : (m : Table Pending) → m ≡ empty → (u : ℕ) → IsSome (get m u) → ⊥
none_in m e u h = by_row (get m u) (ap (λ o. get o u) e ∙ get-empty {X = Row Pending} nat_cmp u) h
  where
    by_row : (o : Option (Row Pending)) → o ≡ None → IsSome o → ⊥
    by_row None f g = false≢true g
    by_row (Some row) f g = cc

pub least_one : (m n : Table Pending) (a : ℕ) → IsFirst m a → n ≡ empty → IsLeast m n a
least_one m n a f e = record { there = inl f.0; one = f.1; other = λ u h. absurd (none_in n e u h) }

pub least_other : (m n : Table Pending) (b : ℕ) → m ≡ empty → IsFirst n b → IsLeast m n b
least_other m n b e g = record { there = inr g.0; one = λ u h. absurd (none_in m e u h); other = g.1 }
