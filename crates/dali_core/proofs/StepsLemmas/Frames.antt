-- The frame that was taken, and the vault behind it. The lemmas on bytes are copies of private ones of dali_traces.
use Rattle.std.proofs.Common.{◌≡◌, ℕ, ◌+◌, ◌<◌, ◌^◌, List, [], ◌∷◌, length, take, Some, refl, ap, sym, subst, ◌∙◌, arith, length-append, length-take, length-drop}
use Rattle.std.specs.Prelude.{slice_get}
use Rattle.dali_record.specs.declared.records.Record.{Record}
use Rattle.dali_record.specs.Spelling.{CanBeSpelled}
use Rattle.dali_runs.proofs.CountsLemmas.SmallLogs.{is_small}
use Rattle.dali_log.specs.Batch.{Framed, batch, batches}
use Rattle.dali_log.specs.Appending.{bodies_of, next_place}
use Rattle.dali_log.specs.Log.{body_bytes, AreSpelled}
use Rattle.dali_log.proofs.Bytes.{length-batch, body_length}
use Rattle.dali_log.proofs.Unique.{some_bytes}
use Rattle.dali_runs.specs.State.{VaultState, taken_to, stable}
use Rattle.dali_runs.specs.Run.{no_image}
use Rattle.dali_runs.specs.Flushes.{frame_of, longer}
use Rattle.dali_runs.specs.Courses.{RunsAt}
use Rattle.dali_crash.specs.Checkpoints.{Point, moment_of}
use Rattle.dali_core.specs.Vault.Vaulted.{Vaulted, grown}
use Rattle.dali_runs.specs.Run.{Bases}
use Rattle.dali_runs.proofs.Flushes.{longer_stopped, longer_flushed}
use Rattle.dali_crash.proofs.StepLeaves.{longer_parts}
use Rattle.dali_crash.proofs.DisksLemmas.Bridges.{get_in_take, spelled_behind}
use Rattle.dali_core.specs.Steps.At.{IsVault}

-- ---- the bytes of a frame

one_body : (body : List ℕ) → ([] ≡ body → ⊥) → bodies_of body ≡ body ∷ []
one_body [] some = absurd (some refl)
one_body (b ∷ bs) some = refl

-- ---- what a run says of it
module _ (bases : Bases) (before : List Record) (p : Point) (run : RunsAt bases before no_image (moment_of p)) where
  pub spelled_frame : AreSpelled (frame_of p.log p.core)
  spelled_frame =
      spelled_behind (stable p.core) (take (taken_to p.core.system) p.log)
      (λ i r e. subst (λ L. (k : ℕ) (x : Record) → slice_get L k ≡ Some x → CanBeSpelled x) (sym run.log) run.run.runs.log.spelled i r (get_in_take (taken_to p.core.system) p.log i r e))

  pub frame_is_small : p.core.vault.flushed + length (frame_of p.log p.core) < 2 ^ 40
  frame_is_small =
      omega (
        arith,
        length-drop (stable p.core) (take (taken_to p.core.system) p.log),
        length-take (taken_to p.core.system) p.log,
        run.run.frame,
        run.run.taken,
        ap length run.log,
        is_small p.core.system.sizes _ run.run.runs.log.legal,
      )

-- ---- the vault behind it

pub longer_faults : (u : VaultState) (rs : List Record) → (longer u rs).faults ≡ u.faults
longer_faults u [] = refl
longer_faults u (r ∷ rs) = refl

longer_end : (u : VaultState) (rs : List Record) → AreSpelled rs → (longer u rs).end ≡ next_place u.end (bodies_of (body_bytes rs))
longer_end u [] all = omega arith
longer_end u (r ∷ rs) all =
    ap (λ n. u.end + n) (sym (ap (λ more. length (batches more)) (one_body (body_bytes (r ∷ rs)) (some_bytes r (body_bytes rs)))
    ∙ (length-append (batch (body_bytes (r ∷ rs))) [] ∙ omega (arith, length-batch (body_bytes (r ∷ rs)), body_length (r ∷ rs) all))))

pub longer_is : {V : Type 0} (faults : V → ℕ) (v w : Vaulted V) (u : VaultState) (f : Framed) (rs : List Record) → IsVault faults v u
    → f.body ≡ body_bytes rs → f.records ≡ length rs → AreSpelled rs → u.flushed + length rs < 2 ^ 40
    → w ≡ grown v w.store f → faults w.store ≡ faults v.store
    → IsVault faults w (longer u rs)
longer_is {V = V} faults v w u f rs is body records all small vault kept = record {
  stopped = longer_stopped u rs ∙ (is.stopped ∙ sym (ap (λ (z : Vaulted V). z.stopped) vault));
  end = longer_end u rs all ∙ (ap (λ n. next_place n (bodies_of (body_bytes rs))) is.end ∙ (ap (λ b. next_place v.end (bodies_of b)) (sym body) ∙ sym (ap (λ (z : Vaulted V). z.end) vault)));
  flushed = omega (arith, longer_flushed u rs, is.flushed, records, small, ap (λ (z : Vaulted V). z.flushed) vault);
  current = longer_parts u rs ∙ (is.current ∙ sym (ap (λ (z : Vaulted V). z.current) vault));
  counted = longer_faults u rs ∙ (is.counted ∙ sym kept);
}
