-- What a client knows of its plan whose call is refused.
--     PlanTurns                it drives the plan on its way back too, which no step of others or of its own has to tell
--     PlanRests                once nothing is left to be taken back its transaction may call again
use Rattle.std.specs.Prelude.{◌≡◌, ℕ, false}
use Rattle.dali_system.specs.declared.want.Want.TheVariants.{Nothing}
use Rattle.dali_calls.specs.Plans.{Planned, is_answered, refused, want_of, IsWhole}
use Rattle.dali_concurrent.specs.Told.{History}
use Rattle.dali_locked.specs.Begun.{Begun, Of}
use Rattle.dali_locked.specs.SystemSteps.{Driving, Resting}

abbrev pub PlanTurns : Begun → Type 0
PlanTurns b = (c : ℕ) (p : Planned) (T : History) → is_answered p.phase ≡ false → Of b (Driving c p) T → Of b (Driving c (refused p)) T

abbrev pub PlanRests : Begun → Type 0
PlanRests b = (c : ℕ) (p : Planned) (T : History) → IsWhole p → want_of p ≡ Nothing → Of b (Driving c p) T → Of b (Resting c p.txn) T
