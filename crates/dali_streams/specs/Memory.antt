-- What sources and sinks in memory hold.
--     SourceHeld      the bytes that are left, how many one read gives at most, the numbers of the calls that fail, and the counts of calls and faults
--     SinkHeld        the bytes that were taken, how many one write takes at most, the numbers of the calls that fail, and the counts of calls, faults and refusals of memory
--     HasFailed old new      a write failed and took nothing: its number is among the failing ones, or it found no memory
use Rattle.std.specs.Prelude.{ℕ, ◌≡◌, ◌⊎◌, List, Contains}
use Rattle.dali_store.specs.Faults.{one_more}

pub record SourceHeld : Type 0 where
  pub left : List ℕ
  pub piece : ℕ
  pub failing : List ℕ
  pub calls : ℕ
  pub faults : ℕ

pub record SinkHeld : Type 0 where
  pub taken : List ℕ
  pub piece : ℕ
  pub failing : List ℕ
  pub calls : ℕ
  pub faults : ℕ
  pub refused : ℕ

abbrev pub HasFailed : SinkHeld → SinkHeld → Type 0
HasFailed old new =
    (Contains old.failing old.calls × (new ≡ record old { calls = one_more old.calls; faults = one_more old.faults }))
    ⊎ ((Contains old.failing old.calls → ⊥) × (new ≡ record old { calls = one_more old.calls; faults = one_more old.faults; refused = one_more old.refused }))
