-- What a crash at any moment of the vault's calls leaves, while others go on.
use Rattle.std.proofs.Common.{◌+◌, [], IfSome, is_some, refl, ap, subst}
use Rattle.std.proofs.lemmas.List.{append-nil}
use Rattle.dali_store.specs.Store.{Files as Disk}
use Rattle.dali_store.specs.declared.store.Store.{Ghosts}
use Rattle.dali_crash.specs.Checkpoints.{Point, MayTurn, side_of}
use Rattle.dali_crash.specs.Traces.{Start}
use Rattle.dali_crash.specs.Disks.Disks.{AllSpell, image_name}
use Rattle.dali_crash.specs.Disks.Bridges.{LeavesRightAt}
use Rattle.dali_core.specs.Vault.Vaulted.{Vaulted}
use Rattle.dali_core.specs.Steps.Said.{TornFrom}
use Rattle.dali_core.specs.Moments.{Within}
use Rattle.dali_core.proofs.StepsLemmas.Steps.{write_is_right_in, turn_is_right_in, crash_is_right}
use Rattle.dali_core.proofs.Moments.{leaves_more}
use Rattle.dali_checkpoint.proofs.Moments.{each_told, there as at_told}
use Rattle.dali_checkpoint.proofs.CopyingOut.{wait_write_is_right}
use Rattle.dali_concurrent.specs.CallMoments.{FlushAdds, WriteAdds, RunAdds, SyncAdds, TurnAdds}
use Rattle.dali_concurrent.specs.Moments.{LeavesBetween}
use Rattle.dali_concurrent.proofs.Moments.{call_adds, flush_leaves_right}
use Rattle.dali_concurrent.proofs.Calls.{ready_turns, ready_held}

module _ {V : Type 0} (means : Ghosts V) where
  -- each disk that may be left restarts right at this point
  left_right : (s : Start) (q : Point) (v w : Vaulted V) (P : Disk → Type 0) → IfSome (means.told v.store) (λ _. AllSpell P (LeavesRightAt s q)) → Within means.told means.moment means.left_since v w P
      → Within means.told means.moment means.left_since v w (LeavesBetween s q q)
  left_right s q v w P right within = each_told (means.told v.store) _ (λ e. leaves_more means.moment means.left_since v.store w.store P (LeavesBetween s q q)
      (λ c left. let D = at_told (means.told v.store) _ e right c left in
      (D.0, D.1, record { between = q; before = []; comes = refl; behind = []; goes = refl; to = q; steps = []; course = refl; regions = refl; rest = []; log = append-nil q.log; right = D.2 }))
      (at_told (means.told v.store) _ e within))

  pub flush_adds : FlushAdds means
  flush_adds s B p o T f v0 v w held moments runs frame longer within = call_adds means s p o T v0 v w moments longer (λ q at. flush_leaves_right means s B q v w f (held.at q at) (frame q at) runs within)

  pub write_adds : WriteAdds means
  write_adds s B p o T place n v0 v w held moments runs longer within = call_adds means s p o T v0 v w moments longer (λ q at.
      left_right s q v w (TornFrom (means.may_leave v.store) (image_name (side_of (v.current + 1))) place n)
      (subst (λ c. IfSome (means.told v.store) (λ _. AllSpell (TornFrom (means.may_leave v.store) (image_name (side_of (c + 1))) place n) (LeavesRightAt s q))) (held.at q at).vault.current
      (write_is_right_in means s B q v place n (held.at q at) runs)) within)

  pub run_adds : RunAdds means
  run_adds s B p o T r place n ws v0 v w held moments runs longer within = call_adds means s p o T v0 v w moments longer (λ q at.
      left_right s q v w (TornFrom (means.may_leave v.store) (image_name (side_of (v.current + 1))) place n)
      (subst (λ c. IfSome (means.told v.store) (λ _. AllSpell (TornFrom (means.may_leave v.store) (image_name (side_of (c + 1))) place n) (LeavesRightAt s q))) (held.at q at).vault.current
      (wait_write_is_right means s B q r ws v place n (held.at q at) runs)) within)

  pub sync_adds : SyncAdds means
  sync_adds s B p o T v0 v w held moments longer within = call_adds means s p o T v0 v w moments longer (λ q at. left_right s q v w (means.may_leave v.store) (crash_is_right means s B q v (held.at q at)) within)

  pub turn_adds : TurnAdds means
  turn_adds s B p o T h b end v0 v w begins held moments runs ready longer within = call_adds means s p o T v0 v w moments longer (λ q at.
      let may : MayTurn q h b end = ready_turns s p o T h b end q begins ready at in
      left_right s q v w _ (turn_is_right_in means s B q v h b end (held.at q at) runs (ap is_some may.begun) may (ready_held means s B p o T h b end v q held runs ready at)) within)
