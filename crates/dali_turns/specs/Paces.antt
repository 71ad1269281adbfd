-- When the clients of a round make their steps, where they go by turns.
--     none_begun               nothing has begun
--     begun_at p i             what has begun at place i, if that one is paced
--     is_in r o                this has begun, in region r
--     IsInUse p r              an operation has begun in region r
--     one_turn_on o            what is left of the operation o behind a turn of its client
--     ComesNearer p i o due q  the operation o at place i is a turn nearer, or is made
--     StartsIn p i r q         an operation begins in region r, where none has begun. It takes two turns, and n more
--     WaitsFor p r q           none begins, since region r is in use
--     IsPaced p i o next due q a turn of the client at place i, where o has begun, if that one is paced, and whose next operation is in this region, if one is
use Rattle.std.specs.Prelude.{◌≡◌, ℕ, ◌≤◌, ◌-◌, Bool, true, false, ◌==◌, ◌⊎◌, if◌then◌else◌, nat_lt, List, Option, Some, None, replicate, slice_get, slice_set}
use Rattle.dali_turns.specs.declared.paces.Begun.{Begun}
use Rattle.dali_turns.specs.declared.paces.Paces.{Paces}

abbrev pub none_begun : List (Option Begun)
none_begun = replicate 64 None

abbrev pub begun_at : Paces → ℕ → Option (Option Begun)
begun_at p i = if nat_lt i p.count then slice_get p.begun i else None

abbrev pub is_in : ℕ → Option (Option Begun) → Bool
is_in r (Some (Some o)) = o.region == r
is_in r o = false

abbrev pub IsInUse : Paces → ℕ → Type 0
IsInUse p r = (i : ℕ) × (is_in r (begun_at p i) ≡ true)

abbrev pub one_turn_on : Begun → Option Begun
one_turn_on o = if o.turns == 0 then None else Some (record o { turns = o.turns - 1 })

abbrev pub ComesNearer : Paces → ℕ → Begun → Bool → Paces → Type 0
ComesNearer p i o due q = (due ≡ (o.turns == 0)) × (q.begun ≡ slice_set p.begun i (one_turn_on o))

abbrev pub StartsIn : Paces → ℕ → ℕ → Paces → Type 0
StartsIn p i r q = (IsInUse p r → ⊥) × ((n : ℕ) × (n ≤ 8) × (q.begun ≡ slice_set p.begun i (Some (record { region = r; turns = n }))))

abbrev pub WaitsFor : Paces → ℕ → Paces → Type 0
WaitsFor p r q = IsInUse p r × (q.begun ≡ p.begun)

abbrev pub IsPaced : Paces → ℕ → Option (Option Begun) → Option ℕ → Bool → Paces → Type 0
IsPaced p i (Some (Some o)) next due q = ComesNearer p i o due q
IsPaced p i (Some None) (Some r) due q = (due ≡ false) × (StartsIn p i r q ⊎ WaitsFor p r q)
IsPaced p i o next due q = (due ≡ true) × (q.begun ≡ p.begun)
