-- What the calls of a vault leave are steps of a run.
use Rattle.std.proofs.Common.{◌≡◌, ℕ, ◌+◌, ◌<◌, List, [], ◌∷◌, length, refl, ap, sym, subst, ◌∙◌, arith}
use Rattle.std.specs.Prelude.{◌^◌, sum_by}
use Rattle.dali_record.specs.declared.records.Record.{Record}
use Rattle.dali_record.specs.Files.{batch_length}
use Rattle.dali_runs.proofs.CountsLemmas.SmallLogs.{is_small}
use Rattle.dali_log.specs.Batch.{Framed, batches}
use Rattle.dali_log.specs.Appending.{bodies_of}
use Rattle.dali_log.specs.Log.{AreSpelled, body_bytes}
use Rattle.dali_log.proofs.Bytes.{batches_length}
use Rattle.dali_runs.specs.State.{VaultState, taken_to, stable, log_after}
use Rattle.dali_runs.specs.Run.{HasRisen}
use Rattle.dali_runs.specs.Flushes.{frame_of, with_vault, longer, faulted as faulted_in, read_failed}
use Rattle.dali_runs.proofs.Flushes.{length-frame}
use Rattle.dali_crash.proofs.DisksLemmas.Bridges.{frame_bodies, frames, frames_spelled, frame_spelled}
use Rattle.dali_core.specs.Vault.Vaulted.{Vaulted, grown}
use Rattle.dali_core.specs.Vault.Stepped.{counted_then, vault_in, BeginsRight, IsFrameOf, FlushIsStep, FaultIsStep, ReadFailIsStep, TurnIsCounted, OthersLeave}

module _ {V : Type 0} (faults : V → ℕ) where
  pub begins_right : BeginsRight faults
  begins_right L store end current short moved = record {
    runs = refl;
    flushed = refl;
    faults = omega arith;
    faults_fit = omega arith;
    short = short;
    moved = moved;
  }

  -- ---- a flush
  bytes_of : (rs : List Record) → AreSpelled rs → length (batches (bodies_of (body_bytes rs))) ≡ sum_by batch_length (frames rs)
  bytes_of rs all = ap (λ more. length (batches more)) (sym (frame_bodies rs)) ∙ batches_length (frames rs) (frames_spelled rs all)

  same_state : (v : VaultState) (end flushed k : ℕ) → end ≡ v.end → flushed ≡ v.flushed → k ≡ v.faults → record { stopped = v.stopped; end = end; flushed = flushed; current = v.current; faults_then = v.faults_then; faults = k } ≡ v
  same_state v end flushed k e f g =
      ap (λ n. record { stopped = v.stopped; end = n; flushed = flushed; current = v.current; faults_then = v.faults_then; faults = k }) e
      ∙ (ap (λ n. record { stopped = v.stopped; end = v.end; flushed = n; current = v.current; faults_then = v.faults_then; faults = k }) f
      ∙ ap (λ n. record { stopped = v.stopped; end = v.end; flushed = v.flushed; current = v.current; faults_then = v.faults_then; faults = n }) g)

  longer_is : (n : ℕ) (v : Vaulted V) (store : V) (f : Framed) (rs : List Record) → IsFrameOf f rs → AreSpelled rs → v.flushed + length rs < 2 ^ 64 → faults store ≡ faults v.store → vault_in faults n (grown v store f) ≡ longer (vault_in faults n v) rs
  longer_is n v store f [] has all few same = same_state (vault_in faults n v) _ _ _ (omega (arith, ap (λ b. length (batches (bodies_of b))) has.body)) (omega (arith, has.records, few)) same
  longer_is n v store f (r ∷ rs) has all few same = same_state (longer (vault_in faults n v) (r ∷ rs)) _ _ _ (omega (arith, ap (λ b. length (batches (bodies_of b))) has.body, bytes_of (r ∷ rs) all)) (omega (arith, has.records, few)) same

  pub flush_is_step : FlushIsStep faults
  flush_is_step bases before c n v store f run is has runs same = (
    ap (λ (w : VaultState). w.stopped) is ∙ runs,
    (refl, ap (with_vault c) (longer_is n v store f (frame_of L c) has (frame_spelled bases before c run) few same ∙ ap (λ w. longer w (frame_of L c)) (sym is))),
  )
    where
      L : List Record
      L = log_after before c.system

      few : v.flushed + length (frame_of (log_after before c.system) c) < 2 ^ 64
      few = omega (arith, ap (λ (w : VaultState). w.flushed) is, length-frame L (stable c) (taken_to c.system) run.frame run.taken, run.taken, is_small c.system.sizes L run.runs.log.legal)

  -- ---- the others
  pub fault_is_step : FaultIsStep faults
  fault_is_step L c n v store is runs rose = (
    ap (λ (w : VaultState). w.stopped) is ∙ runs,
    subst (λ k. HasRisen k (faults store)) (sym (ap (λ (w : VaultState). w.faults) is)) rose,
    (refl, ap (λ w. with_vault c (faulted_in w (faults store))) (sym is)),
  )

  pub read_fail_is_step : ReadFailIsStep faults
  read_fail_is_step L c n v store is rose = (
    subst (λ k. HasRisen k (faults store)) (sym (ap (λ (w : VaultState). w.faults) is)) rose,
    (refl, ap (λ w. with_vault c (read_failed w (faults store))) (sym is)),
  )

  pub turn_is_counted : TurnIsCounted faults
  turn_is_counted c n v store is same =
      ap (λ k. with_vault c (record { stopped = v.stopped; end = v.end; flushed = v.flushed; current = v.current + 1; faults_then = counted_then n; faults = k })) same
      ∙ ap (λ (w : VaultState). with_vault c (record w { current = w.current + 1 })) (sym is)

  pub others_leave : OthersLeave faults
  others_leave n v store = (
    λ same. ap (λ k. record { stopped = v.stopped; end = v.end; flushed = v.flushed; current = v.current; faults_then = counted_then n; faults = k }) same,
    refl,
  )
