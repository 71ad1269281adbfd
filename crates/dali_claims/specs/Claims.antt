-- Numbers that seats draw.
--     Offer, Drawn               what contracts see of the claims, and of a seat
--     Draws count n old new      the seat, which has drawn none at or past the count, drew n below it, above all before
--     IsRow count seats          what the seats drew is the numbers below some n, each once
use Rattle.std.specs.Prelude.{◌≡◌, ℕ, zero, suc, ◌+◌, ◌<◌, ◌≤◌, ◌==◌, Bool, true, false, List, [], ◌∷◌, ◌++◌}
use Rattle.atomic_table.specs.Seated.{TableId}

abbrev pub one_if : Bool → ℕ
one_if true = 1
one_if false = 0

-- how often x stands in the list
abbrev pub times : ℕ → List ℕ → ℕ
times x [] = 0
times x (y ∷ ys) = one_if (y == x) + times x ys

-- 1 where the first number is below the second
abbrev pub below : ℕ → ℕ → ℕ
below zero zero = 0
below zero (suc m) = 1
below (suc n) zero = 0
below (suc n) (suc m) = below n m

-- all of these numbers are below n
abbrev pub AllBelow : ℕ → List ℕ → Type 0
AllBelow n [] = Unit {0}
AllBelow n (y ∷ ys) = (y < n) × AllBelow n ys

pub record Offer : Type 0 where
  pub table : TableId
  pub count : ℕ
  pub seats : ℕ

-- the numbers below the count that a seat drew, and whether it drew a later one
pub record Drawn : Type 0 where
  pub table : TableId
  pub drawn : List ℕ
  pub over : Bool

pub record Draws (count n : ℕ) (old new : Drawn) : Type 0 where
  pub within : n < count
  pub above : AllBelow n old.drawn
  pub before : old.over ≡ false
  pub drawn : new.drawn ≡ old.drawn ++ n ∷ []
  pub after : new.over ≡ false

-- seats of this table that have drawn nothing
abbrev pub AreFresh : TableId → List Drawn → Type 0
AreFresh t [] = Unit {0}
AreFresh t (x ∷ xs) = ((x.table ≡ t) × (x.drawn ≡ []) × (x.over ≡ false)) × AreFresh t xs

-- seats of this table
abbrev pub AreOf : TableId → List Drawn → Type 0
AreOf t [] = Unit {0}
AreOf t (x ∷ xs) = (x.table ≡ t) × AreOf t xs

-- how often x was drawn by these seats
abbrev pub drawn_by : ℕ → List Drawn → ℕ
drawn_by x [] = 0
drawn_by x (s ∷ ss) = times x s.drawn + drawn_by x ss

-- how many of the seats drew a number at or past the count
abbrev pub over_by : List Drawn → ℕ
over_by [] = 0
over_by (s ∷ ss) = one_if s.over + over_by ss

-- n is the count where a seat has drawn one at or past it
pub record IsRow (count : ℕ) (seats : List Drawn) : Type 0 where
  pub n : ℕ
  pub within : n ≤ count
  pub each : (x : ℕ) → drawn_by x seats ≡ below x n
  pub whole : 0 < over_by seats → n ≡ count
