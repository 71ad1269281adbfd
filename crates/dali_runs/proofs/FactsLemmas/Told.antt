-- What a run tells of refused requests, of the stop, and of the regions.
use Rattle.std.proofs.Common.{◌≡◌, ℕ, List, [], ◌∷◌, take, Option, Some, None, refl, ap, sym, ◌∙◌, inl, inr, ⊎_elim}
use Rattle.std.specs.Prelude.{fold, slice_index}
use Rattle.dali_lists.proofs.Options.{some_of}
use Rattle.dali_geometry.specs.Sizes.{Sizes}
use Rattle.dali_record.specs.declared.records.Record.{Record}
use Rattle.dali_record.specs.declared.records.Record.TheVariants.{Format}
use Rattle.dali_record.specs.Log.{begun, ended}
use Rattle.dali_record.specs.Epochs.{last_epoch, failing, failing_step}
use Rattle.dali_record.specs.Damage.{has}
use Rattle.dali_record.specs.Legal.{Rules, rules_state, txn_state}
use Rattle.dali_region.proofs.Holds.{unheld-same}
use Rattle.dali_runs.proofs.CountsLemmas.Fronts.{prefix_legal}
use Rattle.dali_runs.specs.declared.causes.Cause.{Cause}
use Rattle.dali_runs.specs.declared.causes.Cause.TheVariants.{Damage, Store}
use Rattle.dali_runs.specs.State.{log_after}
use Rattle.dali_runs.specs.Run.{IsRefusal, first_of, fail_step, damage_in}
use Rattle.dali_runs.specs.Facts.Facts.{RefusalsTell, StopTells, RegionsTell}
use Rattle.dali_runs.proofs.FactsLemmas.Begun.{stands, running_stands, holds_the_begun}

-- ---- refused requests
-- the rules of a beginning of the log

pub refusals_tell : RefusalsTell
refusals_tell bases L c run n f at = record {
  older = old.older;
  within = old.within;
  asked = running_stands (txn_state s f.txn front) (has (begun (last_epoch front).records) f.txn) (has (ended (last_epoch front).records) f.txn) old.asking (stands s f.txn front rules.0 rules.1);
  ran = running_stands (txn_state s f.holder front) (has (begun (last_epoch front).records) f.holder) (has (ended (last_epoch front).records) f.holder) old.running (stands s f.holder front rules.0 rules.1);
  conflict = ⊎_elim (λ since. inl since) (λ way. inr ((holds_the_begun bases L c run f.holder).0 (run.locks.owned f.holder f.key way.mode way.holds), way)) old.conflict;
}
  where
    s : Sizes
    s = c.system.sizes

    front : List Record
    front = take f.at L

    old : IsRefusal s L c.system.locks f
    old = run.locks.refused n f at

    rules : (g : Rules) × (rules_state s front ≡ Some g)
    rules = some_of (rules_state s front) (prefix_legal s L f.at run.log.legal).rules

-- ---- the stop
same_step : (rs : List ℕ) (x : Record) → first_of (failing_step rs x) ≡ fail_step (first_of rs) x
same_step rs (Format i h) = refl
same_step rs _ = refl

first_failing : (rs : List ℕ) (E : List Record) → first_of (fold failing_step rs E) ≡ fold fail_step (first_of rs) E
first_failing rs [] = refl
first_failing rs (x ∷ E) = first_failing (failing_step rs x) E ∙ ap (λ o. fold fail_step o E) (same_step rs x)

by_damage : (o : Option Cause) (r : ℕ) → damage_in o ≡ Some r → o ≡ Some (Damage r)
by_damage None r e = absurd (cc)
by_damage (Some (Damage q)) r e = cc
by_damage (Some Store) r e = absurd (cc)

pub stop_tells : StopTells
stop_tells bases before c run = record {
  damage = λ r. (λ e. sym named ∙ ap damage_in e, λ e. by_damage c.system.stop r (named ∙ e));
  store = λ e. let stopped = run.runs.stop.store e in (stopped, run.vault.rose stopped);
}
  where
    named : damage_in c.system.stop ≡ first_of (failing (last_epoch (log_after before c.system)))
    named = run.runs.stop.damage ∙ sym (first_failing [] (last_epoch (log_after before c.system)).records)

-- ---- the regions
pub regions_tell : RegionsTell
regions_tell bases L c run r g at = record {
  codeword = (run.regions r g at).protected.codeword;
  settled = λ un i out. (run.regions r g at).protected.rest i out ∙ ap (λ (ws : List ℕ). slice_index ws i) ((run.regions r g at).settled un);
  unheld = λ un none. unheld-same g (run.regions r g at).protected none ∙ (run.regions r g at).settled un;
}
