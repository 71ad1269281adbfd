use Rattle.std.proofs.Common.{rules, ◌≡◌, ◌≤◌, ◌+◌, length, inl, refl, ap, subst, ◌∙◌}
use Rattle.dali_system.specs.Served.{Served}
use Rattle.dali_image.specs.declared.header.Header.{Header}
use Rattle.dali_checkpoint.specs.Kept.{header_at}
use Rattle.dali_checkpoint.proofs.Joined.{writes, header_now}
use Rattle.dali_checkpoint.proofs.Moments.{none_left, no_call, flush_write}
use Rattle.dali_store.specs.Store.{LeavesOnly}
use Rattle.dali_core.specs.Steps.Said.{TornFrom}
use Rattle.dali_crash.specs.Disks.Disks.{image_name}
use Rattle.dali_crash.specs.Disks.Places.{place_of}
use Rattle.dali_crash.specs.Checkpoints.{side_of}
use Rattle.dali_checkpoint.specs.Done.{Reaches}
use Rattle.dali_checkpoint.proofs.Lengths.{at_start, written_reaches}
use Rattle.dali_checkpoint.proofs.checkpoint.begin.Goals as goal

pub returns-clause-ok : goal.returns-clause-ok
returns-clause-ok g c =
    let made : ◌≡◌ {A = Header} (record { geometry = c.geometry.result; number = c.current.result + 1; place = c.end.result; first = c.records.result; weight = c.end-2.result; next = c.next.result; table = c.len.result }) (header_at c.flush.new.system.state c.flush.new.vault (length c.in-Ok.table.items)) = search rules in
    record {
      header = made ∙ header_now g.V.Store c.args.system.now.state c.flush.new.system.state c.flush.new.vault c.write.new.vault (length c.in-Ok.table.items) (ap (λ (s : Served). s.state) c.in_ok-flush.ensures.ok.0) c.in_ok-write.ensures.ok.1.vault;
      table = search rules;
      copied = refl;
      settled = refl;
      faulted = refl;
      writes = writes g.V.Store c.args.system.now.state c.args.vault.now c.flush.new.vault c.write.new.vault _ 0 _ c.in_ok-flush.ensures.ok.1 (search rules);
    }

pub returns-in-Some-clause-any_moment : goal.returns-in-Some-clause-any_moment
returns-in-Some-clause-any_moment g c runs =
    no_call g.V.Store c.args.vault.now c.args.vault.now _ (λ d past. g.met.V.Store.only_now c.args.vault.now.store d past) refl
    (λ d left. inl (none_left g.V.Store c.args.system.now.state c.args.vault.now d left))

pub returns-in_default-table_bytes-clause-any_moment : goal.returns-in_default-table_bytes-clause-any_moment
returns-in_default-table_bytes-clause-any_moment g c runs =
    no_call g.V.Store c.args.vault.now c.args.vault.now _ (λ d past. g.met.V.Store.only_now c.args.vault.now.store d past) refl
    (λ d left. inl (none_left g.V.Store c.args.system.now.state c.args.vault.now d left))

pub returns-in_default-with_capacity-clause-any_moment : goal.returns-in_default-with_capacity-clause-any_moment
returns-in_default-with_capacity-clause-any_moment g c runs =
    no_call g.V.Store c.args.vault.now c.args.vault.now _ (λ d past. g.met.V.Store.only_now c.args.vault.now.store d past) refl
    (λ d left. inl (none_left g.V.Store c.args.system.now.state c.args.vault.now d left))

pub returns-in_err-write-clause-any_moment : goal.returns-in_err-write-clause-any_moment
returns-in_err-write-clause-any_moment g c runs =
    let torn : LeavesOnly g.V.Store.moment g.V.Store.left_since c.flush.new.vault.store c.write.new.vault.store (TornFrom (g.V.Store.may_leave c.flush.new.vault.store) (image_name (side_of (c.args.vault.now.current + 1))) 0 64) = search rules in
    flush_write g.V.Store c.args.system.now.state c.args.vault.now c.flush.new.vault c.write.new.vault (image_name (side_of (c.args.vault.now.current + 1))) 0 64
    c.in_ok-flush.ensures.ok.1 c.flush.ensures.any_moment torn

pub returns-clause-any_moment : goal.returns-clause-any_moment
returns-clause-any_moment g c runs =
    let torn : LeavesOnly g.V.Store.moment g.V.Store.left_since c.flush.new.vault.store c.write.new.vault.store (TornFrom (g.V.Store.may_leave c.flush.new.vault.store) (image_name (side_of (c.args.vault.now.current + 1))) 0 64) = search rules in
    flush_write g.V.Store c.args.system.now.state c.args.vault.now c.flush.new.vault c.write.new.vault (image_name (side_of (c.args.vault.now.current + 1))) 0 64
    c.in_ok-flush.ensures.ok.1 c.flush.ensures.any_moment torn

pub returns-clause-reaches : goal.returns-clause-reaches
returns-clause-reaches g c =
    let big : place_of 0 ≤ 0 + length c.header_bytes.result = search rules in
    let there : Reaches g.V.Store.told c.side_of-side.result 0 c.write.new.vault = written_reaches c.side_of-side.result 0 0 c.header_bytes.result (g.V.Store.told c.flush.new.vault.store) (g.V.Store.told c.write.new.vault.store) big (at_start (g.V.Store.told c.flush.new.vault.store) c.side_of-side.result) c.in_ok-write.ensures.ok.1.written in
    subst (λ side. Reaches g.V.Store.told side 0 c.write.new.vault) c.side_of-side.ensures there
