-- What a crash inside a call of the store leaves restarts right, with the regions in memory as they were before the call.
use Rattle.std.proofs.Common.{◌≡◌, ℕ, ◌+◌, false, List, Option, IfSome, ◌∙◌}
use Rattle.std.proofs.lemmas.Option.{IfSome_then}
use Rattle.dali_record.specs.declared.records.Record.{Record}
use Rattle.dali_region.specs.State.{RegionState}
use Rattle.dali_store.specs.Store.{Files as Disk}
use Rattle.dali_store.specs.declared.store.Store.{Ghosts}
use Rattle.dali_runs.specs.State.{SystemState}
use Rattle.dali_crash.specs.Checkpoints.{Head, Point, side_of}
use Rattle.dali_crash.specs.Traces.{Start}
use Rattle.dali_crash.specs.Disks.Disks.{AllSpell, image_name}
use Rattle.dali_core.specs.Vault.Vaulted.{Vaulted}
use Rattle.dali_core.specs.Steps.Said.{TornFrom}
use Rattle.dali_core.specs.Cores.{IsCoreAt}
use Rattle.dali_core.specs.Moments.{FlushLeaves, IsRightWithin}
use Rattle.dali_core.proofs.Moments.{flush_right}
use Rattle.dali_checkpoint.specs.Kept.{Checkpointed, side_in}
use Rattle.dali_checkpoint.specs.Running.{IsIdle, IsCopying, IsSettled, IsCertifiedAt}
use Rattle.dali_checkpoint.specs.Moments.{WriteLeaves, TurnLeaves}
use Rattle.dali_checkpoint.proofs.Moments.{start_right, copy_right, settle_right, certify_right}
use Rattle.dali_turns.specs.Moments.{IsRightIn}

module _ {V : Type 0} (means : Ghosts V) (s : Start) (B : List (List Record)) (p : Point) (gs : List RegionState) (y : SystemState) (v : Vaulted V) where
  in_memory : (P : Disk → Type 0) → p.core.regions ≡ gs → IfSome (means.told v.store) (λ _. AllSpell P (IsRightWithin s p)) → IfSome (means.told v.store) (λ _. AllSpell P (IsRightIn s p gs))
  in_memory P regions right = IfSome_then (means.told v.store) right (λ fs all c left.
      let D = all c left in
      (D.0, D.1, record { to = D.2.to; steps = D.2.steps; course = D.2.course; same = D.2.same; regions = D.2.regions ∙ regions; right = D.2.right }))

  pub flush_leaves : IsCoreAt means s B p gs y v → v.stopped ≡ false → IfSome (means.told v.store) (λ _. AllSpell (FlushLeaves means.may_leave y v) (IsRightIn s p gs))
  flush_leaves at runs = in_memory (FlushLeaves means.may_leave y v) at.regions (flush_right means s B p gs y v at runs)

  pub start_leaves_in : IsIdle means s B p gs y v → v.stopped ≡ false
      → IfSome (means.told v.store) (λ _. AllSpell (WriteLeaves means y v (image_name (side_of (v.current + 1))) 0 64) (IsRightIn s p gs))
  start_leaves_in idle runs = in_memory (WriteLeaves means y v (image_name (side_of (v.current + 1))) 0 64) idle.at.regions (start_right means s B p gs y v idle runs)

  module _ (c : Checkpointed) (h : Head) where
    pub copy_leaves_in : (at n : ℕ) → IsCopying means s B p gs y v c h → v.stopped ≡ false
        → IfSome (means.told v.store) (λ _. AllSpell (TornFrom (means.may_leave v.store) (image_name (side_in c)) at n) (IsRightIn s p gs))
    copy_leaves_in at n k runs = in_memory (TornFrom (means.may_leave v.store) (image_name (side_in c)) at n) k.at.regions (copy_right means s B p gs y v c h at n k runs)

    pub settle_leaves_in : (at n : ℕ) → IsCopying means s B p gs y v c h → v.stopped ≡ false
        → IfSome (means.told v.store) (λ _. AllSpell (WriteLeaves means y v (image_name (side_in c)) at n) (IsRightIn s p gs))
    settle_leaves_in at n k runs = in_memory (WriteLeaves means y v (image_name (side_in c)) at n) k.at.regions (settle_right means s B p gs y v c h at n k runs)

    pub certify_leaves_in : (n b : ℕ) → IsSettled means s B p gs y v c h n → IsCertifiedAt p n b → v.stopped ≡ false
        → IfSome (means.told v.store) (λ _. AllSpell (TurnLeaves means y v (side_in c)) (IsRightIn s p gs))
    certify_leaves_in n b k certified runs = in_memory (TurnLeaves means y v (side_in c)) k.at.regions (certify_right means s B p gs y v c h n b k certified runs)
