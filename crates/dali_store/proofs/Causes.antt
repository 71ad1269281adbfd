-- How causes of faults go on from call to call.
use Rattle.std.proofs.Common.{inl, inr, ⊎_elim, ℕ, ◌≤◌, arith}
use Rattle.dali_store.specs.Faults.{Rose}

-- a count that rose, and didn't fall before
pub rose_after : (before mid now : ℕ) → before ≤ mid → Rose mid now → Rose before now
rose_after before mid now le rose = ⊎_elim (λ more. inl (omega (arith, more, le))) (λ full. inr full) rose

-- a count that rose, and hasn't fallen since
pub rose_before : (before mid now : ℕ) → Rose before mid → mid ≤ now → Rose before now
rose_before before mid now rose le = ⊎_elim (λ more. inl (omega (arith, more, le))) (λ full. inr (omega (arith, full, le))) rose
