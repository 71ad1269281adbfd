use Rattle.std.proofs.Common.{◌+◌, sym, subst, arith}
use Rattle.dali_files.specs.Files.{Contents}
use Rattle.std.specs.Prelude.{Option, ◌≤◌}
use Rattle.dali_segments.proofs.Quiets.{AreKept}
use Rattle.dali_segments.proofs.Sounds.{sound_quiet, sound_synced, log_durable}
use Rattle.dali_segments.proofs.segmented.Segmented.sync_log.Goals as goal

pub invariant_of-self-in-Break-1 : goal.invariant_of-self-in-Break-1
invariant_of-self-in-Break-1 g c = record {
  in_range = c.args.self.now.in_range;
  sound = sound_quiet c.sync_segments.ensures.quiet _ _ _ _ _ c.args.self.now.sound;
}

pub invariant_of-self-2 : goal.invariant_of-self-2
invariant_of-self-2 g c =
    let range = c.args.self.now.in_range in
    let equal : c.args.self.now.last + 1 ≤ c.args.self.now.last + 1 = omega arith in
    record {
      in_range = (range.0, (range.1.0, (equal, range.1.1.1)));
      sound = sound_synced _ _ _ _ c.args.self.now.settled _ _ _
          (subst (λ (t : Option Contents). AreKept t (g.F.Files.may_leave c.sync_segments.new.files) c.args.self.now.settled (c.args.self.now.last + 1)) (sym c.sync_segments.ensures.quiet.told) c.in_ok-sync_segments.ensures.durable)
          (sound_quiet c.sync_segments.ensures.quiet _ _ _ _ _ c.args.self.now.sound);
    }

pub returns-clause-durable : goal.returns-clause-durable
returns-clause-durable g c =
    log_durable _ c.args.self.now.last c.args.self.now.dropped c.args.self.now.lost c.if-self.false _ _ _ (g.F.Files.is_going c.sync_segments.new.files) c.sync_segments.ensures.quiet.told
    (
    sound_synced _ _ _ _ c.args.self.now.settled _ _ _
    (subst (λ (t : Option Contents). AreKept t (g.F.Files.may_leave c.sync_segments.new.files) c.args.self.now.settled (c.args.self.now.last + 1)) (sym c.sync_segments.ensures.quiet.told) c.in_ok-sync_segments.ensures.durable)
    (sound_quiet c.sync_segments.ensures.quiet _ _ _ _ _ c.args.self.now.sound)
    )
