-- What the calls of a region answer.
--     latch_answer precheck g      what a latch answers, with precheck or without
--     is_dirty g side              the flag of an image
--     cleaned side g               with the flag of an image cleared
use Rattle.std.specs.Prelude.{Bool, false, ◌&&◌, not, ◌==◌, if◌then◌else◌, Option, Some, None, Result, Ok, Err}
use Rattle.dali_words.specs.Words.{parity_of}
use Rattle.dali_region.specs.declared.Hold.{Hold}
use Rattle.dali_region.specs.declared.LatchError.{LatchError}
use Rattle.dali_region.specs.declared.LatchError.TheVariants.{Latched, DeadHolder, Damaged}
use Rattle.dali_region.specs.declared.Side.{Side}
use Rattle.dali_region.specs.declared.Side.TheVariants.{A, B}
use Rattle.dali_region.specs.State.{RegionState}

abbrev pub latch_answer : Bool → RegionState → Result (Unit {0}) LatchError
latch_answer precheck g = by_hold g.hold
  where
    by_hold : Option Hold → Result (Unit {0}) LatchError
    by_hold (Some h) = if h.dead then Err (DeadHolder h.txn) else Err (Latched h.txn)
    by_hold None = if precheck && not (g.codeword == parity_of g.words) then Err (Damaged g.codeword (parity_of g.words)) else Ok tt

abbrev pub is_dirty : RegionState → Side → Bool
is_dirty g A = g.dirty_a
is_dirty g B = g.dirty_b

abbrev pub cleaned : Side → RegionState → RegionState
cleaned A g = record g { dirty_a = false }
cleaned B g = record g { dirty_b = false }
