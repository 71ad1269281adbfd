-- Which calls fail, and how many did.
-- Words: Counts, passed, failed, refused.
use Rattle.std.specs.Prelude.{ℕ, List, Contains}
use Rattle.dali_store.specs.Faults.{one_more}

-- the numbers of the calls that fail, from 0; how many calls were made, how many failed, and how many of these
-- found no memory
pub record Counts : Type 0 where
  pub failing : List ℕ
  pub calls : ℕ
  pub faults : ℕ
  pub refused : ℕ

-- this call is among those that fail
abbrev pub IsListed : Counts → Type 0
IsListed c = Contains c.failing c.calls

abbrev pub passed : Counts → Counts
passed c = record c { calls = one_more c.calls }

abbrev pub failed : Counts → Counts
failed c = record c { calls = one_more c.calls; faults = one_more c.faults }

abbrev pub refused : Counts → Counts
refused c = record c { calls = one_more c.calls; faults = one_more c.faults; refused = one_more c.refused }
