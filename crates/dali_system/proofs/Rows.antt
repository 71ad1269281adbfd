-- The table with a row or an undo that is taken away again.
use Rattle.std.proofs.Common.{◌≡◌, ℕ, Bool, true, false, cond, List, [], ◌∷◌, ◌++◌, length, take, Option, Some, None, refl, sym, ap, subst, ◌∙◌, arith, length-append}
use Rattle.std.specs.Prelude.{◌==◌, ◌-◌, IsSome}
use Rattle.std.specs.Option.{option_map}
use Rattle.std.proofs.lemmas.Bool.{eqb-true}
use Rattle.std.proofs.lemmas.List.{take_at}
use Rattle.std.specs.Cmp.{nat_cmp_total}
use Rattle.std.specs.FinMap.{get, insert, remove, same_map, nat_cmp-IsAntisymmetric}
use Rattle.dali_lists.proofs.Numbers.{eqb-self}
use Rattle.dali_record.specs.declared.operations.Block.{Block}
use Rattle.dali_record.specs.declared.operations.Pending.{Pending}
use Rattle.dali_record.specs.declared.operations.Undo.{Undo}
use Rattle.dali_att.specs.Table.{Table, Row, fresh_row, with_row, with_undo, without_last}
use Rattle.dali_att.proofs.Changes.{get-added, get-ended, get-with_row}
use Rattle.dali_runs.specs.Steps.{undo_kept}

undone : (us : List Pending) (u : Pending) → take (length (us ++ u ∷ []) - 1) (us ++ u ∷ []) ≡ us
undone us u = let e : length (us ++ u ∷ []) - 1 ≡ length us = omega (arith, length-append us (u ∷ [])) in ap (λ (n : ℕ). take n (us ++ u ∷ [])) e ∙ take_at us (u ∷ []) (length us) refl

row_undone : (u : Pending) (o : Option (Row Pending)) → option_map without_last (option_map (with_undo u) o) ≡ o
row_undone u None = refl
row_undone u (Some row) = ap (λ (us : List Pending). let r : Row Pending = record { state = row.state; undos = us } in Some r) (undone row.undos u)

-- an undo that is kept and then dropped
pub undo_forgotten : (m : Table Pending) (t : ℕ) (u : Pending) → with_row (with_row m t (with_undo u)) t without_last ≡ m
undo_forgotten m t u = same_map nat_cmp_total nat_cmp-IsAntisymmetric _ _ (λ q. at q (t == q) refl)
  where
    at : (q : ℕ) (c : Bool) → (t == q) ≡ c → get (with_row (with_row m t (with_undo u)) t without_last) q ≡ get m q
    at q true e =
        get-with_row (with_row m t (with_undo u)) t without_last q
        ∙ ap (λ (b : Bool). cond b (option_map without_last (get (with_row m t (with_undo u)) t)) (get (with_row m t (with_undo u)) q)) e
        ∙ ap (option_map without_last) (get-with_row m t (with_undo u) t ∙ ap (λ (b : Bool). cond b (option_map (with_undo u) (get m t)) (get m t)) (eqb-self t))
        ∙ row_undone u (get m t) ∙ ap (get m) (eqb-true t q e)
    at q false e =
        get-with_row (with_row m t (with_undo u)) t without_last q
        ∙ ap (λ (b : Bool). cond b (option_map without_last (get (with_row m t (with_undo u)) t)) (get (with_row m t (with_undo u)) q)) e
        ∙ get-with_row m t (with_undo u) q
        ∙ ap (λ (b : Bool). cond b (option_map (with_undo u) (get m t)) (get m q)) e

-- a row that is added and removed again
pub row_forgotten : (m : Table Pending) (t : ℕ) → get m t ≡ None → remove (insert m t fresh_row) t ≡ m
row_forgotten m t none = same_map nat_cmp_total nat_cmp-IsAntisymmetric _ _ (λ q. at q (t == q) refl)
  where
    at : (q : ℕ) (c : Bool) → (t == q) ≡ c → get (remove (insert m t fresh_row) t) q ≡ get m q
    at q true e = get-ended (insert m t fresh_row) t q ∙ ap (λ (b : Bool). cond b None (get (insert m t fresh_row) q)) e ∙ sym none ∙ ap (get m) (eqb-true t q e)
    at q false e =
        get-ended (insert m t fresh_row) t q ∙ ap (λ (b : Bool). cond b None (get (insert m t fresh_row) q)) e
        ∙ get-added m t fresh_row q ∙ ap (λ (b : Bool). cond b (Some fresh_row) (get m q)) e

-- what an undo's keeping and dropping leave, by the block's undo
pub kept_and_forgotten : (before m n : Table Pending) (t : ℕ) (b : Block) (u : Undo) → b.undo ≡ Some u → m ≡ undo_kept before t b b.undo → n ≡ with_row m t without_last → n ≡ before
kept_and_forgotten before m n t b u is kept dropped =
    dropped ∙ ap (λ (k : Table Pending). with_row k t without_last) (kept ∙ ap (undo_kept before t b) is) ∙ undo_forgotten before t (record { key = b.key; region = b.region; undo = u })

-- a row that is changed twice
twice : (f g : Row Pending → Row Pending) (o : Option (Row Pending)) → option_map g (option_map f o) ≡ option_map (λ r. g (f r)) o
twice f g None = refl
twice f g (Some row) = refl

pub row_twice : (m : Table Pending) (t : ℕ) (f g : Row Pending → Row Pending) → with_row (with_row m t f) t g ≡ with_row m t (λ r. g (f r))
row_twice m t f g = same_map nat_cmp_total nat_cmp-IsAntisymmetric _ _ (λ q. at q (t == q) refl)
  where
    at : (q : ℕ) (c : Bool) → (t == q) ≡ c → get (with_row (with_row m t f) t g) q ≡ get (with_row m t (λ r. g (f r))) q
    at q true e =
        get-with_row (with_row m t f) t g q
        ∙ ap (λ (b : Bool). cond b (option_map g (get (with_row m t f) t)) (get (with_row m t f) q)) e
        ∙ ap (option_map g) (get-with_row m t f t ∙ ap (λ (b : Bool). cond b (option_map f (get m t)) (get m t)) (eqb-self t))
        ∙ twice f g (get m t)
        ∙ sym (get-with_row m t (λ r. g (f r)) q ∙ ap (λ (b : Bool). cond b (option_map (λ r. g (f r)) (get m t)) (get m q)) e)
    at q false e =
        get-with_row (with_row m t f) t g q
        ∙ ap (λ (b : Bool). cond b (option_map g (get (with_row m t f) t)) (get (with_row m t f) q)) e
        ∙ get-with_row m t f q
        ∙ ap (λ (b : Bool). cond b (option_map f (get m t)) (get m q)) e
        ∙ sym (get-with_row m t (λ r. g (f r)) q ∙ ap (λ (b : Bool). cond b (option_map (λ r. g (f r)) (get m t)) (get m q)) e)

-- a row that is there stays
some_mapped : (f : Row Pending → Row Pending) (o : Option (Row Pending)) → IsSome o → IsSome (option_map f o)
some_mapped f (Some row) h = refl
some_mapped f None h = absurd cc

pub row_stays : (m n : Table Pending) (t : ℕ) (f : Row Pending → Row Pending) → n ≡ with_row m t f → IsSome (get m t) → IsSome (get n t)
row_stays m n t f e h =
    subst (λ (o : Option (Row Pending)). IsSome o)
    (sym (ap (λ (k : Table Pending). get k t) e ∙ get-with_row m t f t ∙ ap (λ (b : Bool). cond b (option_map f (get m t)) (get m t)) (eqb-self t))) (some_mapped f (get m t) h)
