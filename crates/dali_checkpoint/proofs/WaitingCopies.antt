-- A checkpoint whose next regions are copied, and whose words wait to be written.
use Rattle.std.proofs.Common.{◌≡◌, ℕ, ◌+◌, true, false, cond, [], ◌∷◌, ◌++◌, length, Some, refl, ap, sym, subst, ◌∙◌, arith}
use Rattle.std.specs.Prelude.{◌&&◌, ◌==◌, flat_map, is_some, slice_get, slice_set}
use Rattle.std.proofs.lemmas.Bool.{eq-eqb}
use Rattle.std.proofs.lemmas.Option.{IfSome_then}
use Rattle.dali_record.specs.Spelling.{words_bytes}
use Rattle.dali_region.specs.declared.Side.{Side}
use Rattle.dali_region.specs.Answers.{is_dirty, cleaned}
use Rattle.dali_store.specs.declared.store.Store.{Ghosts}
use Rattle.dali_store.specs.Store.{TornIn}
use Rattle.dali_runs.specs.State.{SystemState, VaultState}
use Rattle.dali_runs.specs.Keeps.{with_region}
use Rattle.dali_runs.specs.ImageSteps.{told_with}
use Rattle.dali_runs.proofs.ImageSteps.{side_self}
use Rattle.dali_crash.specs.Checkpoints.{Does, Copies, HeadFails, Point, IsPointStep, target, synced_with, copies_with, copy_at}
use Rattle.dali_crash.specs.Disks.Disks.{image_name}
use Rattle.dali_crash.specs.Disks.Places.{place_of}
use Rattle.dali_crash.proofs.Flags.{flag_changes}
use Rattle.dali_core.specs.Vault.Vaulted.{Vaulted}
use Rattle.dali_core.specs.Steps.At.{Goes}
use Rattle.dali_core.specs.Steps.Said.{HasWritten, WriteHasFailed}
use Rattle.dali_checkpoint.specs.Kept.{side_in}
use Rattle.dali_checkpoint.specs.Running.{AreCopied}
use Rattle.dali_checkpoint.specs.CopiedOut.{IsAtBut, IsUnderWayBut, Waits, WaitsOn, WaitsForOne, WaitIsOver, OutBegins, OutGoes, OutStays, OutEnds, OutFails, OutIsRight}
use Rattle.dali_checkpoint.proofs.Calls.{untouched_now, next_copied, side_is_next}
use Rattle.dali_checkpoint.proofs.Stays.{Stays, does_stays, is_of_on, all_copied_on}
use Rattle.dali_checkpoint.proofs.CopyingOut.{one_more, silent_is_calm, clash, wait_begins, silent_waits, copy_waits, write_ends, write_fails, wait_write_is_right}

module _ {V : Type 0} (means : Ghosts V) where
  pub out_begins : OutBegins means
  out_begins s B p gs y v c h k = record {
    regions = k.at.regions;
    system = k.at.system;
    vault = none.is;
    none_in_hand = k.at.none_in_hand;
    flag = k.flag;
    is = k.is;
    copies = subst (AreCopied p h (length p.log)) here k.copies;
    under_way = subst (λ i. IsUnderWayBut means p h i c.copied [] v.store) here (none.under_way h c.copied k.under_way);
  }
    where
      none : Waits means s B p c.copied v
      none = wait_begins means s B p c.copied v k.at.vault

      here : c.copied ≡ c.copied + 0
      here = omega arith

  pub out_goes : OutGoes means
  out_goes s B p gs y v c h ws g k runs at dirty = record {
    to = q;
    step = step;
    is = record {
      regions = ap (λ l. slice_set l r (cleaned side g)) k.regions ∙ ap (λ z. slice_set gs r (cleaned z g)) (sym side_is);
      system = k.system;
      vault = subst (λ w. IsAtBut means s B q c.copied (ws ++ w ∷ []) v) told one.is;
      none_in_hand = k.none_in_hand;
      flag = k.flag;
      is = record { begun = k.is.begun; header = k.is.header; table = k.is.table };
      copies = λ i l. next_copied p q h r i (omega (arith, l, one_more ws g.back)) (k.vault.run.kept h k.is.begun).to refl refl refl k.copies;
      under_way = subst (λ w. IsUnderWayBut means q h (c.copied + length (ws ++ w ∷ [])) c.copied (ws ++ w ∷ []) v.store) told (one.further h r k.under_way (omega arith));
    };
  }
    where
      side : Side
      side = target p

      r : ℕ
      r = c.copied + length ws

      side_is : side_in c ≡ target p
      side_is = side_is_next means s B p gs y v c h k.vault.run k.is

      q : Point
      q = record p {
        core = with_region p.core r (cleaned side g);
        told = told_with p.told side r g.back;
        synced = synced_with p.synced side false;
        copies = copies_with p.copies side r (Some (copy_at (length p.log)));
      }

      step : IsPointStep p (Copies r (length p.log)) q
      step = (
        g,
        ap (λ l. slice_get l r) k.regions ∙ at,
        record { runs = k.vault.vault.stopped ∙ runs; under_way = ap is_some k.is.begun },
        subst (λ z. is_dirty g z ≡ true) side_is dirty,
        untouched_now p.log r,
        refl,
      )

      one : WaitsForOne means s B p q c.copied ws (ws ++ q.told side r ∷ []) v
      one = copy_waits means s B p q c.copied (length p.log) ws v k.vault step

      told : q.told side r ≡ g.back
      told = ap (λ b. cond (b && (r == r)) g.back (p.told side r)) (side_self side) ∙ ap (λ b. cond b g.back (p.told side r)) (eq-eqb r r refl)

  pub out_stays : OutStays means
  out_stays s B p q gs y v c h ws x k quiet step taken = record {
    regions = refl;
    system = refl;
    vault = on.is;
    none_in_hand = λ runs. k.none_in_hand runs ∙ (ap (λ (z : SystemState). z.taken) (sym k.system) ∙ sym taken);
    flag = flag_changes p q (Does x) step ∙ (ap (λ (z : SystemState). z.checking) k.system ∙ k.flag);
    is = is_of_on p q c h stay k.is;
    copies = all_copied_on p q h (length p.log) (length q.log) (c.copied + length ws) stay stay.longer k.copies;
    under_way = on.under_way h (c.copied + length ws) k.under_way;
  }
    where
      on : WaitsOn means s B p q c.copied ws v
      on = silent_waits means s B p q (Does x) c.copied ws v k.vault quiet step

      stay : Stays p q
      stay = does_stays p q x step (ap (λ (u : VaultState). u.current) (silent_is_calm p q (Does x) quiet step).vault)

  pub out_ends : OutEnds means
  out_ends s B p gs y v w c h ws k said = record {
    at = record {
      regions = k.regions;
      system = k.system;
      vault = d.is;
      none_in_hand = λ runs. ap (λ (x : Vaulted V). x.flushed) said.vault ∙ k.none_in_hand (sym (ap (λ (x : Vaulted V). x.stopped) said.vault) ∙ runs);
    };
    flag = k.flag;
    is = record { begun = k.is.begun; header = k.is.header; table = k.is.table };
    copies = k.copies;
    under_way = d.under_way h (c.copied + length ws) k.under_way;
  }
    where
      d : WaitIsOver means s B p c.copied ws v w
      d = write_ends means s B p c.copied ws v w k.vault
          (subst (λ side. HasWritten means v (image_name side) (place_of c.copied) (flat_map words_bytes ws) w) (side_is_next means s B p gs y v c h k.vault.run k.is) said)

  pub out_fails : OutFails means
  out_fails s B p gs y v w c h now ws k said = record {
    to = goes.to;
    batches = B;
    course = (goes.to, goes.step, refl);
    at = record {
      regions = ap (λ (q : Point). q.core.regions) goes.step.1 ∙ k.regions;
      system = ap (λ (q : Point). q.core.system) goes.step.1 ∙ k.system;
      vault = goes.is;
      none_in_hand = λ runs. absurd (clash (sym runs ∙ ap (λ (x : Vaulted V). x.stopped) said.vault));
    };
  }
    where
      goes : Goes means s p (HeadFails now (means.faults w.store)) B w
      goes = write_fails means s B p c.copied ws v w now (place_of c.copied) (length (flat_map words_bytes ws)) k.vault (ap is_some k.is.begun)
          (subst (λ side. WriteHasFailed means v (image_name side) (place_of c.copied) (length (flat_map words_bytes ws)) w) (side_is_next means s B p gs y v c h k.vault.run k.is) said)

  pub out_is_right : OutIsRight means
  out_is_right s B p gs y v c h ws place n k runs = IfSome_then (means.told v.store) (wait_write_is_right means s B p c.copied ws v place n k.vault runs) (λ fs all d torn.
      let D = all d (torn.0, torn.1, subst (λ side. TornIn (image_name side) place n torn.0 d) (side_is_next means s B p gs y v c h k.vault.run k.is) torn.2) in
      (D.0, D.1, record { to = p; steps = []; course = refl; same = refl; regions = refl; right = D.2 }))
