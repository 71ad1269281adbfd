use Rattle.std.specs.Prelude.{IfSome}
use Rattle.std.proofs.Common.{sym}
use Rattle.dali_store.specs.Store.{ReadsAt, file_of}
use Rattle.dali_segments.specs.Segments.{told_of}
use Rattle.dali_segments.proofs.Sounds.{sound_quiet}
use Rattle.dali_segments.proofs.Images.{image_reads, log_told, if_ok}
use Rattle.dali_segments.proofs.segmented.SegmentedStore.read_at.Goals as goal

pub invariant_of-self : goal.invariant_of-self
invariant_of-self g c = record {
  in_range = c.args.self.now.in_range;
  sound = sound_quiet (record { told = c.read_at.ensures.told; crash = c.read_at.ensures.crash; going = c.read_at.ensures.going; time = c.read_at.ensures.time }) _ _ _ _ _ c.args.self.now.sound;
}

pub returns-in-Some-clause-bytes : goal.returns-in-Some-clause-bytes
returns-in-Some-clause-bytes g c =
    if_ok (λ k. IfSome (g.F.Files.told c.args.self.now.files) (λ fs. ReadsAt (fs c.in-Some.key) c.args.at c.args.into.now k c.read_at.new.into)) (λ k. IfSome (told_of c.args.self.now.size (g.F.Files.told c.args.self.now.files)) (λ fs. ReadsAt (file_of c.args.file fs) c.args.at c.args.into.now k c.read_at.new.into)) c.read_at.result
    (λ k reads. image_reads c.args.self.now.size c.args.file c.in-Some.key (sym c.in-Some.ensures) c.args.at k c.args.into.now c.read_at.new.into (g.F.Files.told c.args.self.now.files) reads) c.read_at.ensures.bytes

pub returns-in-None-clause-bytes : goal.returns-in-None-clause-bytes
returns-in-None-clause-bytes g c =
    if_ok (λ k. IfSome (told_of c.args.self.now.size (g.F.Files.told c.args.self.now.files)) (λ fs. ReadsAt fs.log c.args.at c.args.into.now k c.read_from.new.into)) (λ k. IfSome (told_of c.args.self.now.size (g.F.Files.told c.args.self.now.files)) (λ fs. ReadsAt (file_of c.args.file fs) c.args.at c.args.into.now k c.read_from.new.into)) c.read_from.result
    (λ k reads. log_told c.args.file (sym c.in-None.ensures) (λ l. ReadsAt l c.args.at c.args.into.now k c.read_from.new.into) (told_of c.args.self.now.size (g.F.Files.told c.args.self.now.files)) reads) c.read_from.ensures.bytes
