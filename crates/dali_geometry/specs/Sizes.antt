-- How many regions of each kind a database has.
--     AreInRange s       1 to 32,768 index regions, and 1 to 65,536 heap regions
use Rattle.std.specs.Prelude.{ℕ, ◌≤◌}

pub record Sizes : Type 0 where
  pub index : ℕ
  pub heap : ℕ

pub record AreInRange (s : Sizes) : Type 0 where
  pub some_index : 1 ≤ s.index
  pub few_index : s.index ≤ 32768
  pub some_heap : 1 ≤ s.heap
  pub few_heap : s.heap ≤ 65536
