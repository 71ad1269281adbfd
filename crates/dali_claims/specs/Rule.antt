-- The rule of the one word, and what each step tells.
use Rattle.std.specs.Prelude.{◌≡◌, ℕ, ◌+◌, ◌<◌, ◌≤◌, min, MatchBool, List, [], ◌∷◌, ◌++◌}
use mathlib.Core.Option.{some}
use lib.ListN.{get_elem?}
use lib.Dec.{ltb}
use Rattle.atomic_table.specs.Table.{State, Me, Step}
use Rattle.dali_claims.specs.Claims.{times, below, AllBelow}
use Rattle.dali_claims.specs.declared.claim.View.{View}

module _ {A : Type 0} where
  abbrev pub total : (A → ℕ) → List A → ℕ
  total f [] = 0
  total f (x ∷ xs) = f x + total f xs

-- a view has some of the seats, the numbers that they drew, and how many of the seats drew past the count
abbrev pub hand : ℕ → List ℕ → ℕ → View
hand seats drawn over = record { seats = seats; drawn = drawn; over = over }

-- the word is how many were drawn, of which those past the count are of seats that draw no more
pub record IsKept (count seats : ℕ) (s : State Unit View) (n : ℕ) : Type 0 where
  pub word : s.words ≡ n ∷ []
  pub parts : total (λ v. v.seats) s.views ≡ seats
  pub drawn : (x : ℕ) → total (λ v. times x v.drawn) s.views ≡ below x (min n count)
  pub past : min n count + total (λ v. v.over) s.views ≡ n
  pub each : (seat : ℕ) (v : View) → get_elem? s.views seat ≡ some v → (v.over ≤ v.seats) × (v.seats ≡ 0 → v.drawn ≡ [])

abbrev pub Kept : ℕ × ℕ → State Unit View → Type 0
Kept key s = (n : ℕ) × IsKept key.0 key.1 s n

-- a number below the count was drawn, above all before, or the count was reached
abbrev pub DrawsOne : ℕ → Step Unit → Me Unit View → ℕ → Me Unit View → Type 0
DrawsOne count s v n w = MatchBool (ltb n count) (w ≡ (hand v.0.seats (v.0.drawn ++ n ∷ []) v.0.over, v.1)) (w ≡ (hand v.0.seats v.0.drawn 1, v.1)) × AllBelow n v.0.drawn

-- who has all seats learns what was drawn
abbrev pub Learns : ℕ → ℕ → Step Unit → Me Unit View → ℕ → Me Unit View → Type 0
Learns count seats s v n w = v.0.seats ≡ seats → (m : ℕ) × (m ≤ count) × ((x : ℕ) → times x v.0.drawn ≡ below x m) × (0 < v.0.over → m ≡ count)
