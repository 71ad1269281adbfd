use Rattle.std.proofs.Common.{◌≡◌, sym, subst, length, ◌+◌}
use Rattle.std.specs.Prelude.{IfSome}
use Rattle.dali_store.specs.Store.{Files}
use Rattle.dali_segments.specs.Segments.{told_of}
use Rattle.dali_segments.proofs.Sounds.{sound_quiet, length_told}
use Rattle.dali_segments.proofs.segmented.Segmented.log_length.Goals as goal

pub invariant_of-self-in-Break-1 : goal.invariant_of-self-in-Break-1
invariant_of-self-in-Break-1 g c = record {
  in_range = c.args.self.now.in_range;
  sound = sound_quiet (record { told = c.length.ensures.told; crash = c.length.ensures.crash; going = c.length.ensures.going; time = c.length.ensures.time }) _ _ _ _ _ c.args.self.now.sound;
}

pub invariant_of-self-in-Some : goal.invariant_of-self-in-Some
invariant_of-self-in-Some g c = record {
  in_range = c.args.self.now.in_range;
  sound = sound_quiet (record { told = c.length.ensures.told; crash = c.length.ensures.crash; going = c.length.ensures.going; time = c.length.ensures.time }) _ _ _ _ _ c.args.self.now.sound;
}

pub invariant_of-self-in_default : goal.invariant_of-self-in_default
invariant_of-self-in_default g c = record {
  in_range = c.args.self.now.in_range;
  sound = sound_quiet (record { told = c.length.ensures.told; crash = c.length.ensures.crash; going = c.length.ensures.going; time = c.length.ensures.time }) _ _ _ _ _ c.args.self.now.sound;
}

pub returns-in-Some-clause-length : goal.returns-in-Some-clause-length
returns-in-Some-clause-length g c =
    let range = c.args.self.now.in_range in
    subst (λ k. IfSome (told_of c.args.self.now.size (g.F.Files.told c.args.self.now.files)) (λ (fs : Files). k + c.in_ok-behind.behind ≡ length fs.log)) (sym c.in-Some.ensures.1)
    (length_told c.args.self.now.lost c.args.self.now.size c.args.self.now.last c.args.self.now.dropped c.args.self.now.settled _ _ _ _ c.if-self.false range.0 range.1.0 range.1.1.1 c.args.self.now.sound c.in_ok-behind.ensures.length)
