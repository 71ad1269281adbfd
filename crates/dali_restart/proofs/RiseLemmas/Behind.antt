-- The log that a restart has renewed is at rest, and a run begins over it.
use Rattle.std.proofs.Common.{◌≡◌, ℕ, ◌+◌, List, [], ◌∷◌, ◌++◌, Option, IfSome, filter_map, length, refl, ap, sym, subst, ◌∙◌, arith, length-append}
use Rattle.std.specs.Prelude.{sum_by}
use Rattle.std.proofs.lemmas.List.{append-nil}
use Rattle.std.proofs.lemmas.List.Elements.{filter_map-append}
use Rattle.std.proofs.lemmas.List.Sums.{sum_by-append}
use Rattle.dali_record.specs.declared.records.Record.{Record}
use Rattle.dali_record.specs.Damage.{rolled_list, deleted_list}
use Rattle.dali_record.specs.Epochs.{Cut, last_epoch}
use Rattle.dali_record.specs.Legal.{sizes_of}
use Rattle.dali_record.specs.Spelling.{record_length}
use Rattle.dali_record.specs.Files.{Files, batch_length, draws, next_after}
use Rattle.dali_record.proofs.Pushes.{cut_push}
use Rattle.dali_history.specs.Recovered.{recovered}
use Rattle.dali_history.proofs.Restarts.{recovered-same, sizes_of-restarted}
use Rattle.dali_store.specs.Store.{Files as Disk}
use Rattle.dali_store.proofs.Moments.{if_some_with}
use Rattle.dali_store.specs.declared.store.Store.{Ghosts}
use Rattle.dali_runs.proofs.CountsLemmas.Tallies.{numbers, numbers_drawn, tallies}
use Rattle.dali_crash.specs.Traces.{MayRun, Start, StartsAt}
use Rattle.dali_crash.proofs.Closing.{lawful_restarts}
use Rattle.dali_crash.specs.Disks.Disks.{AllSpell}
use Rattle.dali_core.specs.Vault.Vaulted.{Vaulted}
use Rattle.dali_core.specs.Vault.Stepped.{vault_in}
use Rattle.dali_core.proofs.VaultLemmas.Stepped.{begins_right}
use Rattle.dali_resume.specs.Again.{closing, closed_log}
use Rattle.dali_resume.specs.Interrupted.Stages.{IsTurned}
use Rattle.dali_resume.proofs.InterruptedLemmas.Stages.{starts_behind}
use Rattle.dali_restart.specs.Rise.Risen.{start_at}
use Rattle.dali_restart.specs.Rise.Behind.{BeginsBehind, RestsBehind}

pub rests_behind : RestsBehind
rests_behind L B n p words end g is room rules = record {
  lawful = lawful_restarts L is.restarting.some.0 is.restarting.some.1 is.restarting.lawful is.restarting.some.2;
  rules = rules;
  none = ap (λ (q : Cut). q.now.records) (cut_push L (closing L));
  sizes = is.sizes ∙ sym same_sizes;
  records = ap (λ k. k + 1) is.first ∙ (sym (length-append L (closing L ∷ [])) ∙ sym tally.0);
  weight = weight;
  next = is.next ∙ (sym same_next ∙ (sym (numbers_drawn (closed_log L)) ∙ sym tally.2));
  image = is.image ∙ sym (ap (λ s. recovered s (closed_log L)) same_sizes ∙ recovered-same (sizes_of L) L is.restarting.some.0 is.restarting.some.1 (rolled_list (last_epoch L)) (deleted_list (last_epoch L)) is.restarting.some.2);
  short = room.short;
  moved = room.moved;
}
  where
    tally : (g.count ≡ length (closed_log L)) × (g.weight ≡ sum_by record_length (closed_log L)) × (g.next ≡ numbers (closed_log L))
    tally = tallies (sizes_of (closed_log L)) (closed_log L) g rules

    same_sizes : sizes_of (closed_log L) ≡ sizes_of L
    same_sizes = sizes_of-restarted L (rolled_list (last_epoch L)) (deleted_list (last_epoch L))

    same_next : next_after (closed_log L) ≡ next_after L
    same_next = ap (λ (l : List ℕ). length l + 1) (filter_map-append draws L (closing L ∷ []) ∙ append-nil (filter_map draws L))

    weight : p.weight + record_length (closing L) ≡ g.weight
    weight = omega (arith, is.weight, sum_by-append record_length L (closing L ∷ []), tally.1)

module _ {V : Type 0} (means : Ghosts V) where
  pub begins_behind : BeginsBehind means
  begins_behind L B n p image end limit g store gs y v words heads synced is room fits rules ends turned risen begins =
      begins (closed_log L) g (B ++ (closing L ∷ []) ∷ []) words heads synced (rests_behind L B n p image end g is room rules) starts
    where
      start : Start
      start = start_at means (closed_log L) g limit v words heads synced

      may_run : MayRun (closed_log L) (vault_in means.faults (means.faults v.store) v)
      may_run =
          subst (λ (w : Vaulted V). MayRun (closed_log L) (vault_in means.faults (means.faults w.store) w)) (sym risen.vault)
          (begins_right means.faults (closed_log L) store end (p.current + 1) room.short room.moved)

      here : store ≡ v.store
      here = sym (ap (λ (w : Vaulted V). w.store) risen.vault)

      starts : IfSome (means.told v.store) (λ _. AllSpell (means.may_leave v.store) (λ F. StartsAt start F × (F.batches ≡ B ++ (closing L ∷ []) ∷ [])))
      starts = if_some_with _ (means.told v.store) (λ all c left. let q = all c left in (q.0, q.1, one q.0 q.2)) (subst (λ (w : V). IfSome (means.told w) (λ _. AllSpell (means.may_leave w) (IsTurned L B n))) here turned)
        where
          one : (F : Files) → IsTurned L B n F → StartsAt start F × (F.batches ≡ B ++ (closing L ∷ []) ∷ [])
          one F t =
              let batches : F.batches ≡ B ++ (closing L ∷ []) ∷ [] = ap (λ (G : Files). G.batches) t.2 ∙ ap (λ (bs : List (List Record)). bs ++ (closing L ∷ []) ∷ []) t.1.batches in (
                starts_behind L B n F start is.restarting t refl rules fits may_run
                    (ap (λ (w : Vaulted V). w.end) risen.vault ∙ (ends ∙ ap (λ (bs : List (List Record)). sum_by batch_length bs) (sym batches)))
                    (ap (λ (w : Vaulted V). w.current) risen.vault ∙ ap (λ m. m + 1) is.current),
                batches,
              )
