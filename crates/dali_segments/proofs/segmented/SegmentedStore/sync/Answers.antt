use Rattle.dali_segments.proofs.Sounds.{sound_quiet}
use Rattle.dali_segments.proofs.segmented.SegmentedStore.sync.Goals as goal

pub invariant_of-self : goal.invariant_of-self
invariant_of-self g c = record {
  in_range = c.args.self.now.in_range;
  sound = sound_quiet (record { told = c.sync.ensures.told; crash = c.sync.ensures.crash; going = c.sync.ensures.going; time = c.sync.ensures.time }) _ _ _ _ _ c.args.self.now.sound;
}
