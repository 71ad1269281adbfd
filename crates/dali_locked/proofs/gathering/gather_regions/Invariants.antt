use Rattle.std.proofs.Common.{◌≡◌, ◌+◌, length, vec_len, vec_capacity}
use Rattle.dali_notes.specs.History.{AreOf}
use Rattle.dali_locked.specs.Endings.{RegionsAreTold}
use Rattle.dali_locked.specs.Begun.{homed}
use Rattle.dali_locked.proofs.gathering.gather_regions.Given as goal

abbrev pub invariant-loop-lock : goal.invariant-loop-lock
invariant-loop-lock g l = record {
  places : vec_len l.locks + length l.regions.items ≡ vec_len l.fn.locks;
  many : length l.notes.items ≡ length l.regions.items;
  told : RegionsAreTold (homed g.H.Home.table g.B.Beginning.begun) l.regions.items l.notes.items;
  tables : AreOf (homed g.H.Home.table g.B.Beginning.begun).table l.notes.items;
  spare : (vec_capacity l.regions ≡ vec_capacity l.fn.regions) × (vec_capacity l.notes ≡ vec_capacity l.fn.notes);
}

abbrev pub decreases-loop-lock : goal.decreases-loop-lock
decreases-loop-lock g l = vec_len l.locks
