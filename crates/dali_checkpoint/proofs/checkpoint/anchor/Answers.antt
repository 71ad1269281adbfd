use Rattle.std.proofs.Common.{rules, inl, refl}
use Rattle.dali_crash.specs.Checkpoints.{side_of}
use Rattle.dali_crash.specs.Disks.Disks.{image_name}
use Rattle.dali_core.specs.Steps.Said.{HasSynced, SyncHasFailed, TurnHasFailed}
use Rattle.dali_checkpoint.specs.Done.{FailsToTurn}
use Rattle.dali_checkpoint.proofs.Joined.{turns, sync_fails, turn_fails}
use Rattle.dali_checkpoint.proofs.Moments.{none_left, no_call, flush_sync, flush_turn}
use Rattle.dali_checkpoint.proofs.checkpoint.anchor.Goals as goal

pub returns-in_err-sync-clause-fault : goal.returns-in_err-sync-clause-fault
returns-in_err-sync-clause-fault g c none =
    let failed : SyncHasFailed g.V.Store c.flush.new.vault c.sync.new.vault = search rules in
    let fails : FailsToTurn g.V.Store c.args.system.now.state c.args.vault.now (side_of c.args.number) c.sync.new.vault = sync_fails g.V.Store c.args.system.now.state c.args.vault.now c.flush.new.vault c.sync.new.vault (side_of c.args.number) c.in_ok-flush.ensures.ok.1 failed in
    search rules

pub returns-in_err-turn-clause-fault : goal.returns-in_err-turn-clause-fault
returns-in_err-turn-clause-fault g c none =
    let synced : HasSynced g.V.Store c.flush.new.vault (image_name (side_of c.args.number)) c.sync.new.vault = search rules in
    let failed : TurnHasFailed g.V.Store c.sync.new.vault c.turn.new.vault = search rules in
    let fails : FailsToTurn g.V.Store c.args.system.now.state c.args.vault.now (side_of c.args.number) c.turn.new.vault = turn_fails g.V.Store c.args.system.now.state c.args.vault.now c.flush.new.vault c.sync.new.vault c.turn.new.vault (side_of c.args.number) c.in_ok-flush.ensures.ok.1 synced failed in
    search rules

pub returns-clause-ok : goal.returns-clause-ok
returns-clause-ok g c =
    (search rules, turns g.V.Store c.args.system.now.state c.args.vault.now c.flush.new.vault c.sync.new.vault c.turn.new.vault (side_of c.args.number) c.in_ok-flush.ensures.ok.1 (search rules) c.in_ok-turn.ensures.ok.1)

pub returns-in-Some-clause-any_moment : goal.returns-in-Some-clause-any_moment
returns-in-Some-clause-any_moment g c runs =
    no_call g.V.Store c.args.vault.now c.args.vault.now _ (λ d past. g.met.V.Store.only_now c.args.vault.now.store d past) refl
    (λ d left. inl (none_left g.V.Store c.args.system.now.state c.args.vault.now d left))

pub returns-in_err-sync-clause-any_moment : goal.returns-in_err-sync-clause-any_moment
returns-in_err-sync-clause-any_moment g c runs =
    flush_sync g.V.Store c.args.system.now.state c.args.vault.now c.flush.new.vault c.sync.new.vault (side_of c.args.number)
    c.in_ok-flush.ensures.ok.1 c.flush.ensures.any_moment c.sync.ensures.any_moment

pub returns-in_err-turn-clause-any_moment : goal.returns-in_err-turn-clause-any_moment
returns-in_err-turn-clause-any_moment g c runs =
    let synced : HasSynced g.V.Store c.flush.new.vault (image_name (side_of c.args.number)) c.sync.new.vault = search rules in
    flush_turn g.V.Store c.args.system.now.state c.args.vault.now c.flush.new.vault c.sync.new.vault c.turn.new.vault (side_of c.args.number)
    c.in_ok-flush.ensures.ok.1 synced c.flush.ensures.any_moment c.sync.ensures.any_moment c.turn.ensures.any_moment

pub returns-clause-any_moment : goal.returns-clause-any_moment
returns-clause-any_moment g c runs =
    let synced : HasSynced g.V.Store c.flush.new.vault (image_name (side_of c.args.number)) c.sync.new.vault = search rules in
    flush_turn g.V.Store c.args.system.now.state c.args.vault.now c.flush.new.vault c.sync.new.vault c.turn.new.vault (side_of c.args.number)
    c.in_ok-flush.ensures.ok.1 synced c.flush.ensures.any_moment c.sync.ensures.any_moment c.turn.ensures.any_moment
