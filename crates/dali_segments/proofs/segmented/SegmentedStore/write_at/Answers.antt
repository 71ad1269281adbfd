use Rattle.std.specs.Prelude.{OnOk, length}
use Rattle.std.proofs.Common.{refl, sym, subst}
use Rattle.dali_store.specs.Store.{HoldsIn, TornIn, TornTold, Follows}
use Rattle.dali_store.specs.declared.store.FileName.{FileName}
use Rattle.dali_segments.specs.Segments.{told_of, LeavesWhere}
use Rattle.dali_segments.specs.Laws.{tells_law, time_law}
use Rattle.dali_segments.proofs.Written.{on_ok}
use Rattle.dali_segments.proofs.Images.{image_key, image_place, image_torn_told, image_crash, image_holds, image_sound, log_is, log_place, torn_tells, stays_droppable}
use Rattle.dali_segments.proofs.segmented.SegmentedStore.write_at.Goals as goal

pub write_at-requires-clause-key : goal.write_at-requires-clause-key
write_at-requires-clause-key g c = image_key c.args.file c.in-Some.key (sym c.in-Some.ensures)

pub write_at-requires-clause-place : goal.write_at-requires-clause-place
write_at-requires-clause-place g c = image_place c.args.self.now.size c.args.file c.in-Some.key (sym c.in-Some.ensures) c.args.at (g.F.Files.told c.args.self.now.files) c.requires

pub write_log-requires : goal.write_log-requires
write_log-requires g c = log_place c.args.file (sym c.in-None.ensures) c.args.at (told_of c.args.self.now.size (g.F.Files.told c.args.self.now.files)) c.requires

pub invariant_of-self : goal.invariant_of-self
invariant_of-self g c = record {
  in_range = c.args.self.now.in_range;
  sound = image_sound c.args.self.now.size c.args.file c.in-Some.key (sym c.in-Some.ensures) c.args.self.now.lost c.args.self.now.last c.args.self.now.dropped c.args.self.now.settled c.args.at (length c.args.bytes.now) (g.F.Files.told c.args.self.now.files) (g.F.Files.told c.write_at.new.self) (g.F.Files.may_leave c.args.self.now.files) (g.F.Files.may_leave c.write_at.new.self) (g.F.Files.is_going c.args.self.now.files) (g.F.Files.is_going c.write_at.new.self)
      c.args.self.now.sound c.write_at.ensures.torn c.write_at.ensures.crash c.write_at.ensures.going (g.met.F.Files.reads_now c.write_at.new.self) (g.met.F.Files.no_longer c.write_at.new.self);
}

pub returns-in-Some-clause-tells : goal.returns-in-Some-clause-tells
returns-in-Some-clause-tells g c = tells_law c.args.self.now.size (g.F.Files.told c.args.self.now.files) (g.F.Files.told c.write_at.new.self) c.write_at.ensures.tells

pub returns-in-Some-clause-written : goal.returns-in-Some-clause-written
returns-in-Some-clause-written g c =
    on_ok c.write_at.result (image_holds c.args.self.now.size c.args.file c.in-Some.key (sym c.in-Some.ensures) c.args.at c.args.bytes.now (g.F.Files.told c.args.self.now.files) (g.F.Files.told c.write_at.new.self)) c.write_at.ensures.written

pub returns-in-Some-clause-torn : goal.returns-in-Some-clause-torn
returns-in-Some-clause-torn g c = image_torn_told c.args.self.now.size c.args.file c.in-Some.key (sym c.in-Some.ensures) c.args.at (length c.args.bytes.now) (g.F.Files.told c.args.self.now.files) (g.F.Files.told c.write_at.new.self) c.write_at.ensures.torn

pub returns-in-Some-clause-crash : goal.returns-in-Some-clause-crash
returns-in-Some-clause-crash g c =
    image_crash c.args.self.now.size c.args.file c.in-Some.key (sym c.in-Some.ensures) c.args.at (length c.args.bytes.now) (g.F.Files.told c.args.self.now.files) (g.F.Files.told c.write_at.new.self) (g.F.Files.may_leave c.args.self.now.files) (g.F.Files.may_leave c.write_at.new.self) c.write_at.ensures.torn c.write_at.ensures.crash

pub returns-in-Some-clause-time : goal.returns-in-Some-clause-time
returns-in-Some-clause-time g c = time_law c.args.self.now.size (g.F.Files.moment c.args.self.now.files) (g.F.Files.moment c.write_at.new.self) (g.F.Files.told c.args.self.now.files) (g.F.Files.told c.write_at.new.self) (g.F.Files.left_since c.args.self.now.files) (g.F.Files.left_since c.write_at.new.self) (g.F.Files.may_leave c.write_at.new.self) c.write_at.ensures.tells c.write_at.ensures.time

pub returns-in-Some-clause-droppable : goal.returns-in-Some-clause-droppable
returns-in-Some-clause-droppable g c = stays_droppable c.args.self.now.size c.args.self.now.dropped c.args.self.now.size c.args.self.now.dropped refl refl (told_of c.args.self.now.size (g.F.Files.told c.args.self.now.files))

pub returns-in-None-clause-tells : goal.returns-in-None-clause-tells
returns-in-None-clause-tells g c = torn_tells _ _ _ (told_of c.args.self.now.size (g.F.Files.told c.args.self.now.files)) (told_of c.write_log.new.self.size (g.F.Files.told c.write_log.new.self.files)) c.write_log.ensures.torn

pub returns-in-None-clause-written : goal.returns-in-None-clause-written
returns-in-None-clause-written g c =
    subst (λ (f : FileName). OnOk c.write_log.result (HoldsIn f c.args.at c.args.bytes.now (told_of c.args.self.now.size (g.F.Files.told c.args.self.now.files)) (told_of c.write_log.new.self.size (g.F.Files.told c.write_log.new.self.files)))) (sym (log_is c.args.file (sym c.in-None.ensures))) c.write_log.ensures.written

pub returns-in-None-clause-torn : goal.returns-in-None-clause-torn
returns-in-None-clause-torn g c =
    subst (λ (f : FileName). TornTold f c.args.at (length c.args.bytes.now) (told_of c.args.self.now.size (g.F.Files.told c.args.self.now.files)) (told_of c.write_log.new.self.size (g.F.Files.told c.write_log.new.self.files))) (sym (log_is c.args.file (sym c.in-None.ensures))) c.write_log.ensures.torn

pub returns-in-None-clause-crash : goal.returns-in-None-clause-crash
returns-in-None-clause-crash g c =
    subst (λ (f : FileName). Follows (TornIn f c.args.at (length c.args.bytes.now)) (LeavesWhere c.args.self.now.size (g.F.Files.told c.args.self.now.files) (g.F.Files.may_leave c.args.self.now.files)) (LeavesWhere c.write_log.new.self.size (g.F.Files.told c.write_log.new.self.files) (g.F.Files.may_leave c.write_log.new.self.files))) (sym (log_is c.args.file (sym c.in-None.ensures))) c.write_log.ensures.crash

pub returns-in-None-clause-droppable : goal.returns-in-None-clause-droppable
returns-in-None-clause-droppable g c = stays_droppable c.args.self.now.size c.args.self.now.dropped c.write_log.new.self.size c.write_log.new.self.dropped c.write_log.ensures.extent.0 c.write_log.ensures.extent.1 (told_of c.args.self.now.size (g.F.Files.told c.args.self.now.files))
