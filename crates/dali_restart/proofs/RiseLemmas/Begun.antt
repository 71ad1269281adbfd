-- The core over a log at rest is whole, and a run begins with it.
use Rattle.std.proofs.Common.{◌≡◌, ◌≤◌, ℕ, true, List, Option, Some, None, IfSome, length, refl, ap, sym, subst, ◌∙◌}
use Rattle.std.specs.Prelude.{map}
use Rattle.dali_geometry.specs.Places.{regions}
use Rattle.dali_record.specs.Legal.{Rules, rules_start}
use Rattle.dali_region.specs.State.{RegionState, loaded}
use Rattle.dali_region.specs.Answers.{is_dirty}
use Rattle.dali_store.specs.Store.{Files as Disk}
use Rattle.dali_store.proofs.Moments.{if_some_with}
use Rattle.dali_store.specs.declared.store.Store.{Ghosts}
use Rattle.dali_runs.specs.Loads.{new_system}
use Rattle.dali_runs.proofs.WholeSteps.{load_is_whole}
use Rattle.dali_system.specs.Served.{Served}
use Rattle.dali_crash.specs.Traces.{MayRun, Start, start_point}
use Rattle.dali_crash.proofs.StoreStarts.{all_dirty}
use Rattle.dali_crash.proofs.Traces.{bare_start_runs}
use Rattle.dali_crash.proofs.DisksLemmas.Bridges.{store_starts}
use Rattle.dali_crash.proofs.DisksLemmas.NewFiles.{start_reads}
use Rattle.dali_core.specs.Vault.Vaulted.{Vaulted}
use Rattle.dali_core.specs.Vault.Stepped.{vault_in}
use Rattle.dali_core.proofs.VaultLemmas.Stepped.{begins_right}
use Rattle.dali_core.specs.Cores.{IsWholeCore}
use Rattle.dali_restart.specs.declared.rise.rising.Resting.{Resting}
use Rattle.dali_restart.specs.Rise.Risen.{IsRisen, RunBegins, start_at, system_at}

every : {A : Type 0} (o : Option A) (P : A → Type 0) → ((x : A) → P x) → IfSome o P
every None P all = tt
every (Some x) P all = all x

module _ {V : Type 0} (told : V → Option Disk) where
  pub is_whole : (r : Resting) (words : List (List ℕ)) (limit : ℕ) (store : V) (gs : List RegionState) (y : Served) (v : Vaulted V) → length words ≡ regions r.geometry → IsRisen r words limit store gs y v → IsWholeCore told gs y.state v
  is_whole r words limit store gs y v size is = subst (λ (rs : List RegionState). IsWholeCore told rs y.state v) (sym is.regions) (subst (λ (z : Served). IsWholeCore told (map loaded words) z.state v) (sym is.system) whole)
    where
      g : Rules
      g = record rules_start { count = r.records; next = r.next; weight = r.weight }

      whole : IsWholeCore told (map loaded words) (system_at r limit).state v
      whole = record {
        parts = λ u. load_is_whole r.geometry words g limit u size;
        files = every (told v.store) _ (λ fs side n at_n there clean. let dirty : is_dirty at_n side ≡ true = all_dirty words n at_n side there in absurd (cc));
      }

module _ {V : Type 0} (means : Ghosts V) where
  pub run_begins : (r : Resting) (image : List (List ℕ)) (limit : ℕ) (store : V) (gs : List RegionState) (y : Served) (v : Vaulted V) → limit ≤ 268435456 → IsRisen r image limit store gs y v → RunBegins means r image limit gs y.state v
  run_begins r image limit store gs y v fits is M g B words heads synced at_log left = record {
    regions = sym (is.regions ∙ ap (map loaded) at_log.image);
    system = sym (ap (λ (z : Served). z.state) is.system ∙ system);
    vault = record {
      run = bare_start_runs start at_log.lawful at_log.rules at_log.none fits may_run;
      vault = record { stopped = refl; end = refl; flushed = refl; current = refl; counted = refl };
      files = if_some_with _ (means.told v.store) (λ all. store_starts (means.may_leave v.store) start B all) left;
      reads = λ runs. every (means.told v.store) _ (λ fs. start_reads start fs);
    };
    none_in_hand = λ runs. ap (λ (w : Vaulted V). w.flushed) is.vault ∙ ap (λ (z : Served). z.state.taken) (sym is.system);
  }
    where
      start : Start
      start = start_at means M g limit v words heads synced

      system : new_system r.geometry r.records r.next r.weight limit ≡ (start_point start).core.system
      system = λ i. new_system (at_log.sizes i) (at_log.records i) (at_log.next i) (at_log.weight i) limit

      may_run : MayRun M (vault_in means.faults (means.faults v.store) v)
      may_run =
          subst (λ (w : Vaulted V). MayRun M (vault_in means.faults (means.faults w.store) w)) (sym is.vault)
          (begins_right means.faults M store r.end r.current at_log.short at_log.moved)
