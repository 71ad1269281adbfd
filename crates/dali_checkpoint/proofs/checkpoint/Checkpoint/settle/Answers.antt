use Rattle.std.proofs.Common.{rules, inl, refl, length}
use Rattle.dali_crash.specs.Disks.Disks.{image_name}
use Rattle.dali_crash.specs.Disks.Places.{place_of}
use Rattle.dali_checkpoint.specs.Kept.{side_in}
use Rattle.dali_checkpoint.proofs.Joined.{writes}
use Rattle.dali_checkpoint.proofs.Moments.{none_left, no_call, flush_write}
use Rattle.dali_store.specs.Store.{LeavesOnly}
use Rattle.dali_core.specs.Steps.Said.{TornFrom}
use Rattle.dali_checkpoint.proofs.checkpoint.Checkpoint.settle.Goals as goal

pub returns-clause-ok : goal.returns-clause-ok
returns-clause-ok g c =
    writes g.V.Store c.args.system.now.state c.args.vault.now c.flush.new.vault c.write.new.vault (image_name (side_in c.args.self.now)) (place_of c.args.self.now.copied) c.args.self.now.table
    c.in_ok-flush.ensures.ok.1 (search rules)

pub returns-in-Some-clause-any_moment : goal.returns-in-Some-clause-any_moment
returns-in-Some-clause-any_moment g c runs =
    no_call g.V.Store c.args.vault.now c.args.vault.now _ (λ d past. g.met.V.Store.only_now c.args.vault.now.store d past) refl
    (λ d left. inl (none_left g.V.Store c.args.system.now.state c.args.vault.now d left))

pub returns-in_err-write-clause-any_moment : goal.returns-in_err-write-clause-any_moment
returns-in_err-write-clause-any_moment g c runs =
    let torn : LeavesOnly g.V.Store.moment g.V.Store.left_since c.flush.new.vault.store c.write.new.vault.store (TornFrom (g.V.Store.may_leave c.flush.new.vault.store) (image_name (side_in c.args.self.now)) (place_of c.args.self.now.copied) (length c.args.self.now.table)) = search rules in
    flush_write g.V.Store c.args.system.now.state c.args.vault.now c.flush.new.vault c.write.new.vault (image_name (side_in c.args.self.now)) (place_of c.args.self.now.copied) (length c.args.self.now.table)
    c.in_ok-flush.ensures.ok.1 c.flush.ensures.any_moment torn

pub returns-clause-any_moment : goal.returns-clause-any_moment
returns-clause-any_moment g c runs =
    let torn : LeavesOnly g.V.Store.moment g.V.Store.left_since c.flush.new.vault.store c.write.new.vault.store (TornFrom (g.V.Store.may_leave c.flush.new.vault.store) (image_name (side_in c.args.self.now)) (place_of c.args.self.now.copied) (length c.args.self.now.table)) = search rules in
    flush_write g.V.Store c.args.system.now.state c.args.vault.now c.flush.new.vault c.write.new.vault (image_name (side_in c.args.self.now)) (place_of c.args.self.now.copied) (length c.args.self.now.table)
    c.in_ok-flush.ensures.ok.1 c.flush.ensures.any_moment torn
