use Rattle.std.proofs.Common.{◌≡◌, ◌∙◌, refl, ap, sym, [], length, rules}
use Rattle.std.proofs.lemmas.List.{length-set}
use Rattle.dali_calls.proofs.Flags.{flags_same, flags_further, flags_set}
use Rattle.dali_calls.proofs.Rows.{undos_in}
use Rattle.dali_calls.specs.Single.Ending.{IsBackOf}
use Rattle.dali_geometry.specs.Places.{regions}
use Rattle.dali_att.specs.Table.{undos_at}
use Rattle.dali_runs.specs.Regions.{is_alive}
use Rattle.dali_runs.specs.State.{state_in}
use Rattle.dali_transactions.specs.Refused.{abort_error}
use Rattle.dali_system.specs.TakenBack.{next_undo}
use Rattle.std.specs.List.{list_any}
use Rattle.std.proofs.lemmas.Option.{slice_get-get_or}
use Rattle.dali_transactions.specs.Left.{is_on}
use Rattle.dali_transactions.proofs.Guarding.{released_here}
use Rattle.dali_transactions.proofs.Releasing.{cleared}
use Rattle.dali_transactions.proofs.Alone.{left_none, left_on, running_on, covered_on, some_undone, all_undone, stuck_memory, undo_within, cleared_left, fewer_held, all_kept, some_kept, undos_fewer, kept_but}
use Rattle.dali_transactions.proofs.parts.take_back.Goals as goal

pub loop-cause-init : goal.loop-cause-init
loop-cause-init c = record {
  left = left_none (IsBackOf c.args.txn) c.args.txn c.args.regions.now c.args.system.now;
  whole = c.requires.may.whole;
  lives = c.requires.may.lives;
  covered = c.requires.may.covered;
  runs = c.requires.runs;
  flags = flags_same c.args.regions.now;
  holds = λ r q none. refl;
  fewer = λ r q none. none;
}

pub returns-in-Ok-clause-ok : goal.returns-in-Ok-clause-ok
returns-in-Ok-clause-ok c =
    left_on (IsBackOf c.args.txn) _ c.args.txn c.args.regions.now c.loop-cause.regions c.abort.new.regions c.args.system.now c.loop-cause.system c.abort.new.system c.loop-cause.invariant.left
    (all_undone c.loop-cause.regions c.abort.new.regions c.loop-cause.system c.abort.new.system c.args.txn c.loop-cause.invariant.lives c.in-Ok.ensures.ok c.in-Ok.ensures.others c.in-Ok.ensures.promises c.in-Ok.ensures.holds)

pub returns-in-Ok-clause-in_the_way : goal.returns-in-Ok-clause-in_the_way
returns-in-Ok-clause-in_the_way c run q none =
    let r = running_on (IsBackOf c.args.txn) [] c.args.txn c.args.regions.now c.loop-cause.regions c.args.system.now c.loop-cause.system run c.loop-cause.invariant.left in
    all_kept c.loop-cause.regions c.abort.new.regions c.loop-cause.system.state c.abort.new.system.state c.args.txn r c.loop-cause.invariant.lives c.in-Ok.ensures.ok q ∙ c.loop-cause.invariant.holds run q none

pub returns-in-Ok-clause-flags : goal.returns-in-Ok-clause-flags
returns-in-Ok-clause-flags c = flags_further c.args.regions.now c.loop-cause.regions c.abort.new.regions c.loop-cause.invariant.flags c.in-Ok.ensures.flags

pub returns-in-Err-System-clause-left : goal.returns-in-Err-System-clause-left
returns-in-Err-System-clause-left c =
    left_on (IsBackOf c.args.txn) [] c.args.txn c.args.regions.now c.loop-cause.regions c.abort.new.regions c.args.system.now c.loop-cause.system c.abort.new.system c.loop-cause.invariant.left
    (some_undone c.loop-cause.regions c.abort.new.regions c.loop-cause.system c.abort.new.system c.args.txn c.loop-cause.invariant.lives c.in-Err-System.ensures.err c.in-Err-System.ensures.others c.in-Err-System.ensures.promises c.in-Err-System.ensures.holds)

pub returns-in-Err-System-clause-memory : goal.returns-in-Err-System-clause-memory
returns-in-Err-System-clause-memory c =
    let runs = c.in-Err-System.ensures.stop ∙ c.loop-cause.invariant.runs in
    c.abort_refused.ensures ∙ ap abort_error (stuck_memory (next_undo (undos_at c.abort.new.system.state.table c.args.txn) 0) c.abort.new.regions c.abort.new.system.state _ c.in-Err-System.cause c.in-Err-System.field-0-is runs c.in-Err-System.ensures.cause)

pub returns-in-Err-System-clause-in_the_way : goal.returns-in-Err-System-clause-in_the_way
returns-in-Err-System-clause-in_the_way c run q none =
    let r = running_on (IsBackOf c.args.txn) [] c.args.txn c.args.regions.now c.loop-cause.regions c.args.system.now c.loop-cause.system run c.loop-cause.invariant.left in
    some_kept c.loop-cause.regions c.abort.new.regions c.loop-cause.system.state c.abort.new.system.state c.args.txn r c.loop-cause.invariant.lives c.in-Err-System.ensures.err q ∙ c.loop-cause.invariant.holds run q none

pub returns-in-Err-System-clause-flags : goal.returns-in-Err-System-clause-flags
returns-in-Err-System-clause-flags c = flags_further c.args.regions.now c.loop-cause.regions c.abort.new.regions c.loop-cause.invariant.flags c.in-Err-System.ensures.flags

pub returns-then-not-is_releasable-clause-left : goal.returns-then-not-is_releasable-clause-left
returns-then-not-is_releasable-clause-left c =
    left_on (IsBackOf c.args.txn) [] c.args.txn c.args.regions.now c.loop-cause.regions c.abort.new.regions c.args.system.now c.loop-cause.system c.abort.new.system c.loop-cause.invariant.left
    (some_undone c.loop-cause.regions c.abort.new.regions c.loop-cause.system c.abort.new.system c.args.txn c.loop-cause.invariant.lives c.in-Err-Latch.ensures.err c.in-Err-Latch.ensures.others c.in-Err-Latch.ensures.promises c.in-Err-Latch.ensures.holds)

pub returns-then-not-is_releasable-clause-in_the_way : goal.returns-then-not-is_releasable-clause-in_the_way
returns-then-not-is_releasable-clause-in_the_way c run q none =
    let r = running_on (IsBackOf c.args.txn) [] c.args.txn c.args.regions.now c.loop-cause.regions c.args.system.now c.loop-cause.system run c.loop-cause.invariant.left in
    some_kept c.loop-cause.regions c.abort.new.regions c.loop-cause.system.state c.abort.new.system.state c.args.txn r c.loop-cause.invariant.lives c.in-Err-Latch.ensures.err q ∙ c.loop-cause.invariant.holds run q none

pub bounds-regions-undo : goal.bounds-regions-undo
bounds-regions-undo c =
    let size : length c.abort.new.regions ≡ length c.loop-cause.regions = search rules in
    undo_within c.abort.new.regions c.abort.new.system.state c.args.txn c.in-Some.undo (size ∙ (c.loop-cause.invariant.whole ∙ sym (ap regions c.in-Err-Latch.ensures.sizes))) (c.in-Err-Latch.ensures.again.covered c.loop-cause.invariant.covered) (sym c.in-Some.ensures.last)

pub bounds-regions-undo-in-loop-cause : goal.bounds-regions-undo-in-loop-cause
bounds-regions-undo-in-loop-cause c =
    let size : length c.abort.new.regions ≡ length c.loop-cause.regions = search rules in
    undo_within c.abort.new.regions c.abort.new.system.state c.args.txn c.in-Some.undo (size ∙ (c.loop-cause.invariant.whole ∙ sym (ap regions c.in-Err-Latch.ensures.sizes))) (c.in-Err-Latch.ensures.again.covered c.loop-cause.invariant.covered) (sym c.in-Some.ensures.last)

pub release-requires : goal.release-requires
release-requires c =
    let size : length c.abort.new.regions ≡ length c.loop-cause.regions = search rules in
    let within = undo_within c.abort.new.regions c.abort.new.system.state c.args.txn c.in-Some.undo (size ∙ (c.loop-cause.invariant.whole ∙ sym (ap regions c.in-Err-Latch.ensures.sizes))) (c.in-Err-Latch.ensures.again.covered c.loop-cause.invariant.covered) (sym c.in-Some.ensures.last) in
    record { dead = released_here c.abort.new.regions c.in-Some.undo.region _ _ c.hold.result c.is_releasable.result within c.hold.ensures.value c.is_releasable.ensures c.if-not-is_releasable.false }

pub loop-cause-smaller : goal.loop-cause-smaller
loop-cause-smaller c =
    let size : length c.abort.new.regions ≡ length c.loop-cause.regions = search rules in
    fewer_held c.loop-cause.regions c.abort.new.regions c.abort.new.system.state (undos_at c.abort.new.system.state.table c.args.txn) c.in-Some.undo _ _ c.release.new.region c.in-Err-Latch.field-0-is size c.in-Err-Latch.ensures.holds (sym c.in-Some.ensures.last) c.in-Err-Latch.ensures.cause c.release.ensures.unheld

pub loop-cause-preserved : goal.loop-cause-preserved
loop-cause-preserved c =
    let inv = c.loop-cause.invariant in
    let size : length c.abort.new.regions ≡ length c.loop-cause.regions = search rules in
    let whole = size ∙ (inv.whole ∙ sym (ap regions c.in-Err-Latch.ensures.sizes)) in
    let covered = c.in-Err-Latch.ensures.again.covered inv.covered in
    let one = some_undone c.loop-cause.regions c.abort.new.regions c.loop-cause.system c.abort.new.system c.args.txn inv.lives c.in-Err-Latch.ensures.err c.in-Err-Latch.ensures.others c.in-Err-Latch.ensures.promises c.in-Err-Latch.ensures.holds in
    let within = undo_within c.abort.new.regions c.abort.new.system.state c.args.txn c.in-Some.undo whole covered (sym c.in-Some.ensures.last) in
    let at = slice_get-get_or c.abort.new.regions c.in-Some.undo.region _ within in
    let lives = c.in-Err-Latch.ensures.again.state ∙ inv.lives in
    let two = cleared c.abort.new.regions c.abort.new.system c.release.new.system c.args.txn c.in-Some.undo.region _ c.release.new.region (ap is_alive lives) at c.release.ensures.released c.release.ensures.promised in
    record {
      left = left_on (IsBackOf c.args.txn) [] c.args.txn c.args.regions.now c.loop-cause.regions _ c.args.system.now c.loop-cause.system c.release.new.system inv.left
          (left_on (IsBackOf c.args.txn) [] c.args.txn c.loop-cause.regions c.abort.new.regions _ c.loop-cause.system c.abort.new.system c.release.new.system one (cleared_left (IsBackOf c.args.txn) c.args.txn c.abort.new.regions _ c.abort.new.system c.release.new.system two));
      whole = length-set c.abort.new.regions c.in-Some.undo.region c.release.new.region ∙ (whole ∙ sym (ap regions two.sizes));
      lives = ap state_in two.row ∙ lives;
      covered = covered_on c.args.txn c.abort.new.regions _ c.abort.new.system c.release.new.system two covered;
      runs = two.stop ∙ (c.in-Err-Latch.ensures.stop ∙ inv.runs);
      flags = flags_further c.args.regions.now c.loop-cause.regions _ inv.flags
          (flags_further c.loop-cause.regions c.abort.new.regions _ c.in-Err-Latch.ensures.flags (flags_set c.abort.new.regions c.in-Some.undo.region _ c.release.new.region at c.release.ensures.flags));
      holds = λ run.
          let r = running_on (IsBackOf c.args.txn) [] c.args.txn c.args.regions.now c.loop-cause.regions c.args.system.now c.loop-cause.system run inv.left in
          kept_but (undos_at c.args.system.now.state.table c.args.txn) (undos_at c.abort.new.system.state.table c.args.txn) _ c.in-Some.undo c.args.regions.now c.abort.new.regions c.release.new.region
          (λ q none. some_kept c.loop-cause.regions c.abort.new.regions c.loop-cause.system.state c.abort.new.system.state c.args.txn r inv.lives c.in-Err-Latch.ensures.err q ∙ inv.holds run q none)
          (λ q none. undos_fewer c.loop-cause.regions c.abort.new.regions c.loop-cause.system.state c.abort.new.system.state c.args.txn (is_on q) r inv.lives c.in-Err-Latch.ensures.err c.in-Err-Latch.ensures.sizes (inv.fewer run q none)) (sym c.in-Some.ensures.last);
      fewer = λ run q none.
          let r = running_on (IsBackOf c.args.txn) [] c.args.txn c.args.regions.now c.loop-cause.regions c.args.system.now c.loop-cause.system run inv.left in
          ap (λ row. list_any (is_on q) (undos_in row)) two.row ∙ undos_fewer c.loop-cause.regions c.abort.new.regions c.loop-cause.system.state c.abort.new.system.state c.args.txn (is_on q) r inv.lives c.in-Err-Latch.ensures.err c.in-Err-Latch.ensures.sizes (inv.fewer run q none);
    }
