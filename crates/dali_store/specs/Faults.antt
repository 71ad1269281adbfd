-- Why a call fails: a count of faults, which never falls, rose in it; and where it stayed the call is Ok.
-- Words: Rose, HasCause, one_more.
use Rattle.std.specs.Prelude.{◌≡◌, ◌<◌, ◌≤◌, ◌⊎◌, ◌+◌, ◌^◌, ℕ, ◌-◌, min, Result, OnOk, OnErr}

-- a count has risen, or it stands still at its type's end
abbrev pub Rose : ℕ → ℕ → Type 0
Rose before now = (before < now) ⊎ (2 ^ 64 ≤ now + 1)

-- the count hasn't fallen: an error is answered where it rose, and Ok where it stayed
pub record HasCause {T E : Type 0} (before now : ℕ) (result : Result T E) : Type 0 where
  pub later : before ≤ now
  pub failed : OnErr result (Rose before now)
  pub kept : OnOk result (now ≡ before)

-- a count after one more, which stands still at its type's end
abbrev pub one_more : ℕ → ℕ
one_more n = min (n + 1) (2 ^ 64 - 1)
