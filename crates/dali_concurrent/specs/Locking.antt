-- Locks, as the deeds of a history tell them; and what is right of a refusal.
--     lock_by o P t k          the lock on k that the deeds leave t
--     LocksAreTold             it is the one that the core which is told has
--     YieldsRight              what is right of Yields, by the system in hand, where the client never got the holder's lock, and cleans none up
--     FindsDeadRight           what is right of FindsDead, by the system in hand
use Rattle.std.specs.Prelude.{◌≡◌, ℕ, true, false, Option, Some, None, fold}
use Rattle.dali_locks.specs.declared.mode.Mode.{Mode}
use Rattle.dali_locks.specs.declared.mode.LockAnswer.TheVariants.{Busy}
use Rattle.dali_locks.specs.Locks.{IsAnswer}
use Rattle.dali_runs.specs.State.{SystemState, state_of, lock_of}
use Rattle.dali_runs.specs.Run.{Bases}
use Rattle.dali_runs.specs.Steps.{refused}
use Rattle.dali_crash.specs.Checkpoints.{Point}
use Rattle.dali_transcripts.specs.World.{Yields, FindsDead, HasGot, lock_step, claimer_step, is_dead_in, is_claimed_in}
use Rattle.dali_transcripts.specs.Telling.Deeds.{refusal_at}
use Rattle.dali_concurrent.specs.Entries.{Did, Entries, deeds_of}
use Rattle.dali_concurrent.specs.Rules.{Outset}
use Rattle.dali_concurrent.specs.Told.{OnSystem, History, plain, core_told}
use Rattle.dali_concurrent.specs.Sorts.{RightHere}
use Rattle.dali_concurrent.specs.Holds.{IsLed}

abbrev pub lock_by : Outset → Entries → ℕ → ℕ → Option Mode
lock_by o P t k = fold (lock_step t k) (lock_of o.old.system t k) (deeds_of P)

abbrev pub LocksAreTold : Type 0
LocksAreTold =
    (bases : Bases) (p : Point) (o : Outset) (T : History) (t k : ℕ) → IsLed bases p o T
    → lock_of (core_told o T).system t k ≡ lock_by o (plain T) t k

abbrev pub YieldsRight : Type 0
YieldsRight =
    (bases : Bases) (p : Point) (o : Outset) (T : History) (c t k h : ℕ) (m : Mode) (y : SystemState) → IsLed bases p o T → y ≡ (core_told o T).system
    → IsAnswer y.locks t k m (Busy h) → y.stop ≡ None → is_dead_in (state_of y h) ≡ false
    → ((n : Mode) → HasGot (deeds_of (plain T)) c h k n → ⊥)
    → (fold (claimer_step h) None (deeds_of (plain T)) ≡ Some c → is_claimed_in (state_of y h) ≡ false)
    → RightHere bases p o T (Did (Yields (refusal_at y t k m h)) c) (OnSystem (refused y t k m h))

abbrev pub FindsDeadRight : Type 0
FindsDeadRight =
    (bases : Bases) (p : Point) (o : Outset) (T : History) (c t k h : ℕ) (m : Mode) (y : SystemState) → IsLed bases p o T → y ≡ (core_told o T).system
    → y.stop ≡ None → is_dead_in (state_of y h) ≡ true
    → RightHere bases p o T (Did (FindsDead (refusal_at y t k m h)) c) (OnSystem (refused y t k m h))
