-- What is known of a transaction that is claimed, by its state, and of a region by the operation that is under way.
use Rattle.std.proofs.Common.{◌≡◌, ℕ, Option, Some, None, true, sym, subst}
use Rattle.std.specs.Prelude.{IsSomeAnd, IfSome}
use Rattle.dali_record.specs.declared.operations.Block.{Block}
use Rattle.dali_region.specs.declared.Hold.{Hold}
use Rattle.std.specs.Option.{option_map}
use Rattle.std.specs.FinMap.{get}
use Rattle.dali_att.specs.Table.{with_state, without_last}
use Rattle.dali_runs.specs.State.{SystemState, TxnRow, state_in, state_of}
use Rattle.dali_runs.specs.Steps.{in_state, back_logged}
use Rattle.dali_system.specs.Served.{Served}
use Rattle.dali_system.specs.declared.operation.Operation.{Operation}
use Rattle.dali_att.specs.declared.state.State.TheVariants.{Dead, Cleaning}
use Rattle.dali_calls.specs.TakingBack.{is_claimed}
use Rattle.dali_calls.proofs.Rows.{row_here}

pub is_left : (t : ℕ) (o : Option Hold) (h : Hold) → o ≡ Some h → h.dead ≡ true → h.txn ≡ t → IsSomeAnd o (λ h. (h.dead ≡ true) × (h.txn ≡ t))
is_left t o h is dead own = subst (λ (o : Option Hold). IsSomeAnd o (λ h. (h.dead ≡ true) × (h.txn ≡ t))) (sym is) (dead, own)

-- ---- the claim stands
pub claimed_now : (y : SystemState) (t : ℕ) (o : Option ℕ) → state_of y t ≡ Some (Dead o) → IsSomeAnd (state_of (in_state y t (Cleaning o)) t) is_claimed
claimed_now y t o dead = subst (λ (r : Option TxnRow). IsSomeAnd (state_in r) is_claimed) (sym (row_here y.table t (with_state (Cleaning o)))) (by_row (get y.table t) dead)
  where
    by_row : (r : Option TxnRow) → state_in r ≡ Some (Dead o) → IsSomeAnd (state_in (option_map (with_state (Cleaning o)) r)) is_claimed
    by_row None e = let no : None ≡ Some (Dead o) = e in absurd cc
    by_row (Some row) e = tt

pub claimed_still : (y : SystemState) (t : ℕ) (b : Block) → IsSomeAnd (state_of y t) is_claimed → IsSomeAnd (state_of (back_logged y t b) t) is_claimed
claimed_still y t b was = subst (λ (r : Option TxnRow). IsSomeAnd (state_in r) is_claimed) (sym (row_here y.table t without_last)) (by_row (get y.table t) was)
  where
    by_row : (r : Option TxnRow) → IsSomeAnd (state_in r) is_claimed → IsSomeAnd (state_in (option_map without_last r)) is_claimed
    by_row None h = h
    by_row (Some row) h = h

pub claimed_behind : (o : Option Operation) (y z : Served) (t : ℕ) (P Q : Operation → Type 0) → IsSomeAnd o P → IfSome o (λ p. (z ≡ record y { state = back_logged y.state t p.block }) × Q p)
    → IsSomeAnd (state_of y.state t) is_claimed → IsSomeAnd (state_of z.state t) is_claimed
claimed_behind None y z t P Q h e was = absurd h
claimed_behind (Some p) y z t P Q h e was = subst (λ (s : Served). IsSomeAnd (state_of s.state t) is_claimed) (sym e.0) (claimed_still y.state t p.block was)
