use Rattle.dali_segments.proofs.Sounds.{sound_quiet}
use Rattle.dali_segments.proofs.segmented.SegmentedStore.length.Goals as goal

pub invariant_of-self : goal.invariant_of-self
invariant_of-self g c = record {
  in_range = c.args.self.now.in_range;
  sound = sound_quiet (record { told = c.length.ensures.told; crash = c.length.ensures.crash; going = c.length.ensures.going; time = c.length.ensures.time }) _ _ _ _ _ c.args.self.now.sound;
}
