use Rattle.std.proofs.Common.{◌≤◌, rules, length, ap, sym, subst, ◌∙◌}
use Rattle.dali_geometry.specs.Places.{regions}
use Rattle.dali_crash.specs.Disks.Places.{place_of}
use Rattle.dali_checkpoint.specs.Kept.{Checkpointed, side_in}
use Rattle.dali_checkpoint.specs.Done.{Reaches}
use Rattle.dali_checkpoint.specs.Runs.{run_bytes}
use Rattle.dali_checkpoint.proofs.Copying.{copies_begin, copies_count, copies_next, copies_stop, copies_end}
use Rattle.dali_checkpoint.proofs.Onward.{copies_right_none, copies_right_next}
use Rattle.dali_checkpoint.proofs.Results.{still_runs}
use Rattle.dali_checkpoint.proofs.Lengths.{no_shorter_tells}
use Rattle.dali_checkpoint.proofs.making.copy_all.Goals as goal

pub loop-regions-init : goal.loop-regions-init
loop-regions-init g c = record {
  copies = copies_begin g.V.Store c.args.checkpoint.now c.args.regions.now c.args.vault.now c.requires.first c.requires.reaches c.requires.places;
  right = copies_right_none g.V.Store c.args.regions.now c.args.vault.now c.args.checkpoint.now (λ d past. g.met.V.Store.only_now c.args.vault.now.store d past);
}

pub copy_run-requires-clause-all : goal.copy_run-requires-clause-all
copy_run-requires-clause-all g c =
    copies_count g.V.Store c.args.checkpoint.now c.args.regions.now c.args.vault.now c.loop-regions.checkpoint c.loop-regions.regions c.loop-regions.vault c.loop-regions.invariant.copies ∙ (c.requires.all ∙ ap (λ (x : Checkpointed). regions x.header.geometry) (sym c.loop-regions.invariant.copies.checkpoint))

pub copy_run-requires-clause-reaches : goal.copy_run-requires-clause-reaches
copy_run-requires-clause-reaches g c =
    subst (λ side. Reaches g.V.Store.told side c.loop-regions.checkpoint.copied c.loop-regions.vault) (sym (ap side_in c.loop-regions.invariant.copies.checkpoint)) c.loop-regions.invariant.copies.reaches

pub returns-in-Err-clause-fault : goal.returns-in-Err-clause-fault
returns-in-Err-clause-fault g c =
    let runs = still_runs c.args.vault.now c.loop-regions.vault c.loop-regions.invariant.copies.vault c.requires.runs in
    let said = c.in-Err.ensures.fault runs in (
      said.0,
      copies_stop g.V.Store c.args.checkpoint.now c.args.regions.now c.args.vault.now c.loop-regions.checkpoint c.loop-regions.regions c.loop-regions.vault c.loop-regions.invariant.copies c.copy_run.new.self c.copy_run.new.regions c.copy_run.new.vault
          c.in-Err.ensures.regions said.1 c.in-Err.ensures.files (c.in-Err.ensures.failed runs),
    )

pub loop-regions-preserved : goal.loop-regions-preserved
loop-regions-preserved g c =
    let runs = still_runs c.args.vault.now c.loop-regions.vault c.loop-regions.invariant.copies.vault c.requires.runs in
    record {
      copies = copies_next g.V.Store c.args.checkpoint.now c.args.regions.now c.args.vault.now c.loop-regions.checkpoint c.loop-regions.regions c.loop-regions.vault c.loop-regions.invariant.copies c.copy_run.new.self c.copy_run.new.regions c.copy_run.new.vault
          c.in-Ok.ensures.ok.0 c.in-Ok.ensures.ok.1 c.in-Ok.ensures.further.1 c.in-Ok.ensures.reaches c.in-Ok.ensures.places
          (λ clean. let same = c.in-Ok.ensures.clean clean in (same.1, same.2)) c.in-Ok.ensures.written (λ dirty. c.in-Ok.ensures.calls dirty runs);
      right = copies_right_next g.V.Store c.args.checkpoint.now c.args.regions.now c.args.vault.now c.loop-regions.checkpoint c.loop-regions.regions c.loop-regions.vault c.loop-regions.invariant.copies
          c.copy_run.new.vault (place_of c.loop-regions.checkpoint.copied) (length (run_bytes c.loop-regions.checkpoint c.loop-regions.regions)) c.loop-regions.invariant.right
          (λ clean. (c.in-Ok.ensures.clean clean).2) c.in-Ok.ensures.any_moment;
    }

pub returns-clause-ok : goal.returns-clause-ok
returns-clause-ok g c =
    let all : length c.loop-regions.regions ≤ c.loop-regions.checkpoint.copied = search rules in
    copies_end g.V.Store c.args.checkpoint.now c.args.regions.now c.args.vault.now c.loop-regions.checkpoint c.loop-regions.regions c.loop-regions.vault c.loop-regions.invariant.copies all

pub returns-in-Err-clause-any_moment : goal.returns-in-Err-clause-any_moment
returns-in-Err-clause-any_moment g c =
    copies_right_next g.V.Store c.args.checkpoint.now c.args.regions.now c.args.vault.now c.loop-regions.checkpoint c.loop-regions.regions c.loop-regions.vault c.loop-regions.invariant.copies
    c.copy_run.new.vault (place_of c.loop-regions.checkpoint.copied) (length (run_bytes c.loop-regions.checkpoint c.loop-regions.regions)) c.loop-regions.invariant.right
    (λ clean. (c.in-Err.ensures.clean clean).2) c.in-Err.ensures.any_moment

pub returns-clause-any_moment : goal.returns-clause-any_moment
returns-clause-any_moment g c = c.loop-regions.invariant.right

pub returns-in-Err-clause-tells : goal.returns-in-Err-clause-tells
returns-in-Err-clause-tells g c = no_shorter_tells (g.V.Store.told c.loop-regions.vault.store) (g.V.Store.told c.copy_run.new.vault.store) c.in-Err.ensures.files ∙ c.loop-regions.invariant.copies.tells

pub returns-clause-tells : goal.returns-clause-tells
returns-clause-tells g c = c.loop-regions.invariant.copies.tells
