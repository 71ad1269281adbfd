-- Rows that are put into a table.
use Rattle.std.proofs.Common.{◌≡◌, ℕ, ◌<◌, ◌≤◌, ◌+◌, Bool, true, false, cond, List, [], ◌∷◌, ◌++◌, length, take, get_or, refl, ap, sym, subst, ◌∙◌, arith}
use Rattle.std.specs.Prelude.{Option, Some, None, IsSome, ◌==◌}
use Rattle.std.specs.Option.{option_map_or}
use Rattle.std.specs.Ordering.{nat_cmp}
use Rattle.std.specs.Cmp.{nat_cmp_total}
use Rattle.std.specs.FinMap.{get, insert, empty, get-empty, same_map, nat_cmp-IsAntisymmetric}
use Rattle.std.proofs.lemmas.Bool.{lt-ltb, ltb-true}
use Rattle.std.proofs.lemmas.List.{take_more, take_all}
use Rattle.std.proofs.lemmas.Bool.Decides.{nat_tests}
use Rattle.dali_lists.proofs.Numbers.{eqb-self}
use Rattle.dali_att.specs.declared.state.State.TheVariants.{Live, Committed}
use Rattle.dali_att.specs.Table.{Row as Entry, Table, with_undo, with_state, with_row as with_entry}
use Rattle.dali_att.proofs.Changes.{get-added}
use Rattle.dali_record.specs.declared.operations.Pending.{Pending}
use Rattle.dali_record.specs.Reading.{is_above}
use Rattle.dali_record.specs.Files.{Row}
use Rattle.dali_image.specs.Rows.{kept, state_read}
use Rattle.dali_image.specs.Decoding.{with_row}
use Rattle.dali_image.proofs.Above.{IsAbove}

pub get_there : (m : Table Pending) (t : ℕ) (r : Entry Pending) → get (insert m t r) t ≡ Some r
get_there m t r = get-added m t r t ∙ ap (λ b. cond b (Some r) (get m t)) (eqb-self t)

collapse : (b : Bool) (x y z : Option (Entry Pending)) → cond b x (cond b y z) ≡ cond b x z
collapse true x y z = refl
collapse false x y z = refl

insert_twice : (m : Table Pending) (t : ℕ) (r q : Entry Pending) → insert (insert m t r) t q ≡ insert m t q
insert_twice m t r q = same_map nat_cmp_total nat_cmp-IsAntisymmetric _ _ (λ u.
    get-added (insert m t r) t q u
    ∙ ap (λ (o : Option (Entry Pending)). cond (t == u) (Some q) o) (get-added m t r u)
    ∙ collapse (t == u) (Some q) (Some r) (get m u)
    ∙ sym (get-added m t q u))

-- the row that was put there, changed
pub changed : (m : Table Pending) (t : ℕ) (r : Entry Pending) (f : Entry Pending → Entry Pending) → with_entry (insert m t r) t f ≡ insert m t (f r)
changed m t r f = ap (λ (o : Option (Entry Pending)). option_map_or (λ row. insert (insert m t r) t (f row)) o (insert m t r)) (get_there m t r) ∙ insert_twice m t r (f r)

-- ---- tables with numbers up to a last one
later : (last : Option ℕ) (t u : ℕ) → is_above last t ≡ true → t < u → is_above last u ≡ true
later None t u a lt = refl
later (Some l) t u a lt = let below : l < t = ltb-true l t a in lt-ltb l u (omega (arith, below, lt))

pub none_above : IsAbove empty None
none_above t h = get-empty nat_cmp t

pub above_next : (m : Table Pending) (last : Option ℕ) (row : Row) → IsAbove m last → is_above last row.txn ≡ true → IsAbove (with_row m row) (Some row.txn)
above_next m last row h a u more =
    let lt : row.txn < u = ltb-true row.txn u more in
    let apart : (row.txn == u) ≡ false = grind (arith, nat_tests, lt) in
    get-added m row.txn (kept row) u ∙ ap (λ b. cond b (Some (kept row)) (get m u)) apart ∙ h u (later last row.txn u a lt)

-- ---- a row, undo by undo
pub present : (m n : Table Pending) (t : ℕ) (r : Entry Pending) → n ≡ insert m t r → IsSome (get n t)
present m n t r is = subst (λ (o : Option (Entry Pending)). IsSome o) (sym (ap (λ (k : Table Pending). get k t) is ∙ get_there m t r)) refl

abbrev active : List Pending → Entry Pending
active us = record { state = Live; undos = us }

-- one undo more
pub pushed : (m n k : Table Pending) (t i : ℕ) (us vs : List Pending) (d : Pending) → i < length vs → vs ≡ us → n ≡ insert m t (active (take i us)) → k ≡ with_entry n t (with_undo (get_or vs i d)) → k ≡ insert m t (active (take (i + 1) us))
pushed m n k t i us vs d lt same is e =
    e
    ∙ ap (λ (x : Table Pending). with_entry x t (with_undo (get_or vs i d))) is
    ∙ changed m t (active (take i us)) (with_undo (get_or vs i d))
    ∙ ap (λ (x : List Pending). insert m t (active (take i us ++ get_or x i d ∷ []))) same
    ∙ ap (λ (x : List Pending). insert m t (active x)) (sym (take_more us i d (omega (arith, lt, ap length same))))

pub committed : (m n k : Table Pending) (row : Row) (i : ℕ) (vs : List Pending) → length vs ≤ i → vs ≡ row.undos → row.is_committed ≡ true → n ≡ insert m row.txn (active (take i row.undos)) → k ≡ with_entry n row.txn (with_state Committed) → k ≡ with_row m row
committed m n k row i vs le same so is e =
    e
    ∙ ap (λ (x : Table Pending). with_entry x row.txn (with_state Committed)) is
    ∙ changed m row.txn (active (take i row.undos)) (with_state Committed)
    ∙ ap (λ (x : List Pending). insert m row.txn (record { state = Committed; undos = x })) (take_all i row.undos (omega (arith, le, ap length same)))
    ∙ ap (λ b. insert m row.txn (record { state = state_read b; undos = row.undos })) (sym so)
