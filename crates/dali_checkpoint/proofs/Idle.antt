-- Where a checkpoint has ended, none is under way.
use Rattle.std.proofs.Common.{◌≡◌, ℕ, ◌+◌, ◌*◌, ◌<◌, ◌≤◌, ◌^◌, Bool, true, false, List, length, take, drop, Option, Some, None, is_some, refl, ap, sym, subst, ◌∙◌, arith}
use Rattle.std.specs.Prelude.{sum_by}
use Rattle.std.proofs.lemmas.List.{take-append-drop}
use Rattle.std.proofs.lemmas.List.Sums.{sum_by-append}
use Rattle.dali_runs.proofs.CountsLemmas.LightLogs.{is_light}
use Rattle.dali_runs.proofs.CountsLemmas.SmallLogs.{is_small}
use Rattle.dali_geometry.specs.Sizes.{Sizes}
use Rattle.dali_record.specs.declared.records.Record.{Record}
use Rattle.dali_record.specs.Spelling.{record_length}
use Rattle.dali_core.proofs.StepsLemmas.Steps.{places_are_small}
use Rattle.dali_runs.specs.Run.{LogRun}
use Rattle.dali_store.specs.Store.{Files as Disk}
use Rattle.dali_store.specs.declared.store.Store.{Ghosts}
use Rattle.dali_runs.specs.State.{SystemState, log_after, stable}
use Rattle.dali_crash.specs.Checkpoints.{Head}
use Rattle.dali_crash.proofs.Flags.{along}
use Rattle.dali_checkpoint.specs.Laws.{PointsTell, EndsIdle, EndIsFar}

none_of : (o : Option Head) (flag : Bool) → (is_some o ≡ true → flag ≡ true) → flag ≡ false → o ≡ None
none_of None flag tells e = refl
none_of (Some h) flag tells e = let t : flag ≡ true = tells refl in absurd (cc)

none_tells : (o : Option Head) (flag : Bool) → o ≡ None → is_some o ≡ true → flag ≡ true
none_tells None flag e some = absurd (cc)
none_tells (Some h) flag e some = absurd (cc)

-- a front of a legal log is light
end_low : (s : Sizes) (L : List Record) (n end : ℕ) → LogRun s L → n ≤ length L → end ≤ sum_by record_length (take n L) + 5 * n → end < 2 ^ 61
end_low s L n end log within short =
    let whole : sum_by record_length L ≡ sum_by record_length (take n L) + sum_by record_length (drop n L) =
    ap (sum_by record_length) (sym (take-append-drop n L)) ∙ sum_by-append record_length (take n L) (drop n L) in
    omega (arith, short, within, whole, is_light s L log.legal log.spelled, is_small s L log.legal)

module _ {V : Type 0} (means : Ghosts V) where
  pub points_tell : PointsTell means
  points_tell s B p gs y v = record {
    idle = λ k. none_tells p.begun p.core.system.checking k.begun;
    copying = λ c h k some. ap (λ (x : SystemState). x.checking) k.at.system ∙ k.flag;
    settled = λ c h n k some. ap (λ (x : SystemState). x.checking) k.at.system ∙ k.flag;
    under_way = λ at flag some. ap (λ (x : SystemState). x.checking) at.system ∙ flag;
  }

  pub ends_idle : EndsIdle means
  ends_idle s p gs z w tells e flag = record {
    at = e.at;
    flag = flag;
    begun = none_of e.to.begun e.to.core.system.checking (along p e.to e.steps tells e.course) (ap (λ (x : SystemState). x.checking) e.at.system ∙ flag);
  }

  pub end_is_far : EndIsFar means
  end_is_far s B p gs y v at =
      let run = at.vault.run.run.run in (
        subst (λ n. n < 2 ^ 61) at.vault.vault.end (end_low p.core.system.sizes (log_after s.log p.core.system) (stable p.core) p.core.vault.end run.runs.log run.vault.within run.vault.short),
        (places_are_small means s B p v at.vault).1,
      )
