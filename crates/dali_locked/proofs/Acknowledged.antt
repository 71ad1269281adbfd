-- What was acknowledged is in each log that a crash may leave at any later time.
use Rattle.std.proofs.Common.{◌≡◌, ◌≤◌, ◌++◌, Some, refl, ap, ◌∙◌, arith}
use Rattle.std.specs.Prelude.{slice_get}
use Rattle.std.proofs.lemmas.Option.{IfSome_then}
use Rattle.dali_lists.proofs.Lists.{get_take}
use Rattle.dali_record.specs.Files.{Files}
use Rattle.dali_store.specs.declared.store.Store.{Ghosts}
use Rattle.dali_runs.specs.State.{stable}
use Rattle.dali_runs.specs.Run.{log_in}
use Rattle.dali_crash.specs.Checkpoints.{Point}
use Rattle.dali_crash.specs.Traces.{bases_of}
use Rattle.dali_crash.specs.Disks.Bridges.{LeavesRightAt}
use Rattle.dali_core.proofs.StepsLemmas.Steps.{crash_is_right}
use Rattle.dali_concurrent.specs.Rules.{log_by}
use Rattle.dali_concurrent.specs.Told.{plain, core_told}
use Rattle.dali_concurrent.specs.Landing.{Stands}
use Rattle.dali_concurrent.specs.Calls.{VaultAt}
use Rattle.dali_concurrent.proofs.Lists.{get_of_front}
use Rattle.dali_concurrent.proofs.Landing.{front_stands, way_grows}
use Rattle.dali_concurrent.proofs.Kept.{stands_of}
use Rattle.dali_concurrent.proofs.Stored.{vault_meets}
use Rattle.dali_locked.specs.Vaults.{AcknowledgedIsHeld}
use Rattle.dali_locked.proofs.Vaulting.{log_behind}

pub acknowledged_is_held : {V : Type 0} (means : Ghosts V) → AcknowledgedIsHeld means
acknowledged_is_held means s B p o S R seen n x v begins all logged durable is at =
    IfSome_then (means.told v.store) (crash_is_right means s B stood.0 v (there.at stood.0 stood.1)) (λ fs right c left. let D = right c left in (D.0, D.1, held D.0 D.2))
  where
    stood : (q : Point) × Stands (bases_of s) p o (S ++ R) q
    stood = stands_of (bases_of s) p o (S ++ R) begins all

    there : VaultAt means s B p o v (S ++ R)
    there = vault_meets means s B p o seen (S ++ R) v begins is all at

    further : stable (core_told o S) ≤ stable (core_told o (S ++ R))
    further = let f = front_stands (bases_of s) p o S R (S ++ R) stood.0 begins refl stood.1 in (way_grows o S f.0 R stood.0 f.2).flushed

    held : (F : Files) → LeavesRightAt s stood.0 F → slice_get (log_in F) n ≡ Some x
    held F right =
        ap (λ L. slice_get L n) right.prefix.log
        ∙ (get_take right.prefix.count n stood.0.log (omega (arith, durable, further, ap stable stood.1.comes.core, right.prefix.flushed))
        ∙ (ap (λ L. slice_get L n) (stood.1.comes.log ∙ log_behind o S R)
        ∙ (get_of_front (log_by o (plain S)) _ n x logged).0))
