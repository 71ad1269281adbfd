-- Calls that only read, one after another.
use Rattle.std.proofs.Common.{ℕ, ◌∙◌, Option}
use Rattle.dali_store.specs.Store.{Files}
use Rattle.dali_store.proofs.Moments.{joins}
use Rattle.dali_log.specs.Reads.{OnlyReads}

pub reads_then : {V : Type 0} (told : V → Option Files) (moment : V → ℕ) (left_since : V → ℕ → Files → Type 0) (may_leave : V → Files → Type 0) (old mid new : V)
    → OnlyReads told moment left_since may_leave old mid → OnlyReads told moment left_since may_leave mid new → OnlyReads told moment left_since may_leave old new
reads_then told moment left_since may_leave old mid new one two = record {
  same = two.same ∙ one.same;
  crash = λ c left. one.crash c (two.crash c left);
  any_moment = joins moment left_since old mid new (may_leave old) (may_leave mid) (may_leave old) one.any_moment two.any_moment (λ c p. p) one.crash;
}
