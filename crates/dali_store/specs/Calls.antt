-- How many calls a store still makes before it fails each, where it counts them.
-- Words: one_less, fewer, left_of, PassesFewer, MakesAtMost.
use Rattle.std.specs.Prelude.{◌≡◌, ◌≤◌, ℕ, ◌+◌, ◌-◌, Option, Some, None, is_some}

-- what is left after one call
abbrev pub one_less : Option ℕ → Option ℕ
one_less None = None
one_less (Some n) = Some (n - 1)

-- what is left after so many calls
abbrev pub fewer : ℕ → Option ℕ → Option ℕ
fewer calls None = None
fewer calls (Some n) = Some (n - calls)

abbrev pub left_of : Option ℕ → ℕ
left_of None = 0
left_of (Some n) = n

-- calls were made and none were added: they are counted exactly where they were, and no more are left
pub record PassesFewer (before now : Option ℕ) : Type 0 where
  pub counted : is_some now ≡ is_some before
  pub fewer : left_of now ≤ left_of before

-- at most so many calls were made: where more than these were left, no more than these are gone
abbrev pub MakesAtMost : ℕ → Option ℕ → Option ℕ → Type 0
MakesAtMost most before now = left_of before ≤ left_of now + most
