-- What is told of a copy is told of the files that were copied.
use Rattle.std.proofs.Common.{◌≡◌, ◌∙◌, ℕ, List, [], false, Option, Some, None, Result, Ok, Err, IfSome, IfErr, OnOk, refl, sym, ap, subst}
use Rattle.dali_store.specs.declared.store.FileName.{FileName}
use Rattle.dali_store.specs.Store.{Files as Disk}
use Rattle.dali_store.specs.declared.store.Store.{Ghosts}
use Rattle.dali_region.specs.State.{RegionState}
use Rattle.dali_runs.specs.State.{SystemState}
use Rattle.dali_crash.specs.Disks.Disks.{head_of}
use Rattle.dali_core.specs.Vault.Vaulted.{Vaulted}
use Rattle.dali_restart.specs.declared.error.RestartError.{RestartError}
use Rattle.dali_restart.specs.declared.error.RestartError.TheVariants as restarts
use Rattle.dali_restart.specs.Restarting.{BeginsRun}
use Rattle.dali_inspect.specs.declared.error.InspectError.TheVariants as errors
use Rattle.dali_inspect.specs.Errors.{inspect_error}
use Rattle.dali_inspect.specs.Inspected.{Weighs}

-- ---- errors
same_place : {f h : FileName} {a b : ℕ} → errors.BadStore f a ≡ errors.BadStore h b → restarts.BadStore f a ≡ restarts.BadStore h b
same_place e = cc

pub bad_as : (e : RestartError) (file : FileName) (at : ℕ) → inspect_error e ≡ errors.BadStore file at → e ≡ restarts.BadStore file at
bad_as restarts.Fault file at e = absurd (cc)
bad_as (restarts.BadStore f a) file at e = same_place e
bad_as restarts.Unformatted file at e = absurd (cc)
bad_as restarts.Formatted file at e = absurd (cc)
bad_as restarts.TooLong file at e = absurd (cc)
bad_as restarts.Unsteady file at e = absurd (cc)
bad_as restarts.OutOfMemory file at e = absurd (cc)

pub unformatted_as : (e : RestartError) → inspect_error e ≡ errors.Unformatted → e ≡ restarts.Unformatted
unformatted_as restarts.Fault e = absurd (cc)
unformatted_as (restarts.BadStore f a) e = absurd (cc)
unformatted_as restarts.Unformatted e = refl
unformatted_as restarts.Formatted e = absurd (cc)
unformatted_as restarts.TooLong e = absurd (cc)
unformatted_as restarts.Unsteady e = absurd (cc)
unformatted_as restarts.OutOfMemory e = absurd (cc)

pub long_as : (e : RestartError) → inspect_error e ≡ errors.TooLong → e ≡ restarts.TooLong
long_as restarts.Fault e = absurd (cc)
long_as (restarts.BadStore f a) e = absurd (cc)
long_as restarts.Unformatted e = absurd (cc)
long_as restarts.Formatted e = absurd (cc)
long_as restarts.TooLong e = refl
long_as restarts.Unsteady e = absurd (cc)
long_as restarts.OutOfMemory e = absurd (cc)

-- ---- the log
pub weighs : {V : Type 0} (means : Ghosts V) (fs : Disk) (limit : ℕ) (gs : List RegionState) (y : SystemState) (v : Vaulted V) (end : ℕ)
    → end ≡ y.end → BeginsRun means limit fs gs y v → Weighs fs end
weighs means fs limit gs y v end is begins F spells finds =
    let run = begins F spells finds in
    record {
      log = run.log;
      goes_on = run.goes_on;
      rules = run.rules;
      allowed = run.allowed;
      weight = is ∙ sym (ap (λ (z : SystemState). z.end) (run.begins (λ side r. []) (λ side. head_of F) (λ side. false)).system);
    }

-- ---- the copy
pub along : (P : Disk → Type 0) (o : Option Disk) (d : Disk) → IfSome o (λ fs. d ≡ fs) → P d → IfSome o P
along P None d copied h = tt
along P (Some fs) d copied h = subst P copied h

pub weaker_err : {X E : Type 0} (P Q : E → Type 0) (r : Result X E) → ((e : E) → P e → Q e) → IfErr r P → IfErr r Q
weaker_err P Q (Ok x) f h = tt
weaker_err P Q (Err e) f h = f e h

pub weaker_ok : {X E : Type 0} (P Q : Type 0) (r : Result X E) → (P → Q) → OnOk r P → OnOk r Q
weaker_ok P Q (Ok x) f h = f h
weaker_ok P Q (Err e) f h = tt
