use Rattle.std.specs.Prelude.{Option, true, is_some}
use Rattle.std.proofs.Common.{◌∙◌, ℕ, ◌+◌, refl, ap, arith}
use Rattle.dali_files.specs.Files.{Contents}
use Rattle.dali_segments.specs.Segments.{told_of}
use Rattle.dali_segments.proofs.Quiets.{cause_behind, cause_both}
use Rattle.dali_segments.proofs.Sounds.{told_quiet}
use Rattle.dali_segments.proofs.Extents.{cut_fixed, cleared_told, cleared_only, cleared_lost, cleared_sound, less_sound, less_small}
use Rattle.dali_segments.proofs.Lessening.{less_files, less_quiet, less_clears, less_on}
use Rattle.dali_segments.proofs.segmented.Segmented.cut_all.Goals as goal

pub invariant_of-self : goal.invariant_of-self
invariant_of-self g c = record {
  in_range = c.args.self.now.in_range;
  sound = less_sound c.args.self.now.lost true refl c.args.self.now.size c.args.self.now.last c.args.self.now.dropped c.args.self.now.settled (g.F.Files.told c.args.self.now.files) (g.F.Files.told c.cut.new.self) (g.F.Files.may_leave c.args.self.now.files) (g.F.Files.may_leave c.cut.new.self) (g.F.Files.is_going c.args.self.now.files) (g.F.Files.is_going c.cut.new.self) c.cut.ensures.tells c.cut.ensures.crash c.cut.ensures.going c.args.self.now.sound (g.met.F.Files.reads_now c.cut.new.self) (g.met.F.Files.no_longer c.cut.new.self);
}

pub invariant_of-self-in-Err : goal.invariant_of-self-in-Err
invariant_of-self-in-Err g c = record {
  in_range = c.args.self.now.in_range;
  sound = less_sound c.args.self.now.lost true refl c.args.self.now.size c.args.self.now.last c.args.self.now.dropped c.args.self.now.settled (g.F.Files.told c.args.self.now.files) (g.F.Files.told c.extent_of.new.files) (g.F.Files.may_leave c.args.self.now.files) (g.F.Files.may_leave c.extent_of.new.files) (g.F.Files.is_going c.args.self.now.files) (g.F.Files.is_going c.extent_of.new.files) (ap (λ (t : Option Contents). is_some t) c.extent_of.ensures.quiet.told ∙ c.cut.ensures.tells) (λ x out. c.cut.ensures.crash x (c.extent_of.ensures.quiet.crash x out)) (λ f is. c.cut.ensures.going f (c.extent_of.ensures.quiet.going f is)) c.args.self.now.sound (g.met.F.Files.reads_now c.extent_of.new.files) (g.met.F.Files.no_longer c.extent_of.new.files);
}

pub invariant_of-self-in-Break-branch-2 : goal.invariant_of-self-in-Break-branch-2
invariant_of-self-in-Break-branch-2 g c = record {
  in_range = c.args.self.now.in_range;
  sound = cleared_lost c.args.self.now.size c.in-Ok.extent.last c.in-Ok.extent.dropped c.args.self.now.in_range.0 c.in-Ok.ensures.few.0 c.in-Ok.ensures.few.1 (g.F.Files.told c.extent_of.new.files) (g.F.Files.told c.clear.new.files) (g.F.Files.may_leave c.extent_of.new.files) (g.F.Files.may_leave c.clear.new.files) (g.F.Files.is_going c.extent_of.new.files) (g.F.Files.is_going c.clear.new.files) (g.F.Files.moment c.extent_of.new.files) (g.F.Files.moment c.clear.new.files) (g.F.Files.left_since c.extent_of.new.files) (g.F.Files.left_since c.clear.new.files) (cut_fixed c.args.self.now.size c.in-Ok.extent.last c.in-Ok.extent.dropped (g.F.Files.told c.cut.new.self) (g.F.Files.told c.extent_of.new.files) (g.F.Files.may_leave c.cut.new.self) (g.F.Files.may_leave c.extent_of.new.files) (g.F.Files.is_going c.cut.new.self) (g.F.Files.is_going c.extent_of.new.files) c.extent_of.ensures.quiet.told c.extent_of.ensures.quiet.crash c.extent_of.ensures.quiet.going c.in_ok-cut.ensures.durable c.in_ok-cut.ensures.gone c.in-Ok.ensures.stops) c.clear.ensures.clears true refl c.args.self.now.last c.args.self.now.dropped c.args.self.now.settled (less_small c.args.self.now.lost c.args.self.now.size c.args.self.now.last c.args.self.now.dropped c.args.self.now.settled (g.F.Files.told c.args.self.now.files) (g.F.Files.told c.extent_of.new.files) (g.F.Files.may_leave c.args.self.now.files) (g.F.Files.may_leave c.extent_of.new.files) (g.F.Files.is_going c.args.self.now.files) (ap (λ (t : Option Contents). is_some t) c.extent_of.ensures.quiet.told ∙ c.cut.ensures.tells) (λ x out. c.cut.ensures.crash x (c.extent_of.ensures.quiet.crash x out)) c.args.self.now.sound) (g.met.F.Files.reads_now c.clear.new.files) (g.met.F.Files.no_longer c.clear.new.files);
}

pub invariant_of-self-2 : goal.invariant_of-self-2
invariant_of-self-2 g c = record {
  in_range = (c.args.self.now.in_range.0, (c.in-Ok.ensures.few.0, (omega arith, c.in-Ok.ensures.few.1)));
  sound = cleared_sound c.args.self.now.size c.in-Ok.extent.last c.in-Ok.extent.dropped c.args.self.now.in_range.0 c.in-Ok.ensures.few.0 c.in-Ok.ensures.few.1 (g.F.Files.told c.extent_of.new.files) (g.F.Files.told c.clear.new.files) (g.F.Files.may_leave c.extent_of.new.files) (g.F.Files.may_leave c.clear.new.files) (g.F.Files.is_going c.extent_of.new.files) (g.F.Files.is_going c.clear.new.files) (g.F.Files.moment c.extent_of.new.files) (g.F.Files.moment c.clear.new.files) (g.F.Files.left_since c.extent_of.new.files) (g.F.Files.left_since c.clear.new.files) (cut_fixed c.args.self.now.size c.in-Ok.extent.last c.in-Ok.extent.dropped (g.F.Files.told c.cut.new.self) (g.F.Files.told c.extent_of.new.files) (g.F.Files.may_leave c.cut.new.self) (g.F.Files.may_leave c.extent_of.new.files) (g.F.Files.is_going c.cut.new.self) (g.F.Files.is_going c.extent_of.new.files) c.extent_of.ensures.quiet.told c.extent_of.ensures.quiet.crash c.extent_of.ensures.quiet.going c.in_ok-cut.ensures.durable c.in_ok-cut.ensures.gone c.in-Ok.ensures.stops) c.clear.ensures.clears _ c.in_ok-clear.ensures.gone (g.met.F.Files.reads_now c.clear.new.files) (g.met.F.Files.no_longer c.clear.new.files);
}

pub returns-in_err-cut-clause-less : goal.returns-in_err-cut-clause-less
returns-in_err-cut-clause-less g c = (less_files c.args.self.now.size (g.F.Files.told c.args.self.now.files) (g.F.Files.told c.cut.new.self) (g.F.Files.may_leave c.args.self.now.files) (g.F.Files.may_leave c.cut.new.self) (g.F.Files.moment c.args.self.now.files) (g.F.Files.moment c.cut.new.self) (g.F.Files.left_since c.args.self.now.files) (g.F.Files.left_since c.cut.new.self) c.cut.ensures.tells c.cut.ensures.crash c.cut.ensures.time)

pub returns-in-Err-clause-less : goal.returns-in-Err-clause-less
returns-in-Err-clause-less g c = (less_on c.args.self.now.size (g.F.Files.told c.args.self.now.files) (g.F.Files.told c.cut.new.self) (g.F.Files.told c.extent_of.new.files) (g.F.Files.may_leave c.args.self.now.files) (g.F.Files.may_leave c.cut.new.self) (g.F.Files.may_leave c.extent_of.new.files) (g.F.Files.moment c.args.self.now.files) (g.F.Files.moment c.cut.new.self) (g.F.Files.moment c.extent_of.new.files) (g.F.Files.left_since c.args.self.now.files) (g.F.Files.left_since c.cut.new.self) (g.F.Files.left_since c.extent_of.new.files) (λ t x le. g.met.F.Files.counts_now c.args.self.now.files t x le) (less_files c.args.self.now.size (g.F.Files.told c.args.self.now.files) (g.F.Files.told c.cut.new.self) (g.F.Files.may_leave c.args.self.now.files) (g.F.Files.may_leave c.cut.new.self) (g.F.Files.moment c.args.self.now.files) (g.F.Files.moment c.cut.new.self) (g.F.Files.left_since c.args.self.now.files) (g.F.Files.left_since c.cut.new.self) c.cut.ensures.tells c.cut.ensures.crash c.cut.ensures.time) (less_quiet c.args.self.now.size (g.F.Files.told c.cut.new.self) (g.F.Files.told c.extent_of.new.files) (g.F.Files.may_leave c.cut.new.self) (g.F.Files.may_leave c.extent_of.new.files) (g.F.Files.is_going c.cut.new.self) (g.F.Files.is_going c.extent_of.new.files) (g.F.Files.moment c.cut.new.self) (g.F.Files.moment c.extent_of.new.files) (g.F.Files.left_since c.cut.new.self) (g.F.Files.left_since c.extent_of.new.files) c.extent_of.ensures.quiet))

pub returns-in_err-clear-clause-less : goal.returns-in_err-clear-clause-less
returns-in_err-clear-clause-less g c = (less_on c.args.self.now.size (g.F.Files.told c.args.self.now.files) (g.F.Files.told c.extent_of.new.files) (g.F.Files.told c.clear.new.files) (g.F.Files.may_leave c.args.self.now.files) (g.F.Files.may_leave c.extent_of.new.files) (g.F.Files.may_leave c.clear.new.files) (g.F.Files.moment c.args.self.now.files) (g.F.Files.moment c.extent_of.new.files) (g.F.Files.moment c.clear.new.files) (g.F.Files.left_since c.args.self.now.files) (g.F.Files.left_since c.extent_of.new.files) (g.F.Files.left_since c.clear.new.files) (λ t x le. g.met.F.Files.counts_now c.args.self.now.files t x le) (less_on c.args.self.now.size (g.F.Files.told c.args.self.now.files) (g.F.Files.told c.cut.new.self) (g.F.Files.told c.extent_of.new.files) (g.F.Files.may_leave c.args.self.now.files) (g.F.Files.may_leave c.cut.new.self) (g.F.Files.may_leave c.extent_of.new.files) (g.F.Files.moment c.args.self.now.files) (g.F.Files.moment c.cut.new.self) (g.F.Files.moment c.extent_of.new.files) (g.F.Files.left_since c.args.self.now.files) (g.F.Files.left_since c.cut.new.self) (g.F.Files.left_since c.extent_of.new.files) (λ t x le. g.met.F.Files.counts_now c.args.self.now.files t x le) (less_files c.args.self.now.size (g.F.Files.told c.args.self.now.files) (g.F.Files.told c.cut.new.self) (g.F.Files.may_leave c.args.self.now.files) (g.F.Files.may_leave c.cut.new.self) (g.F.Files.moment c.args.self.now.files) (g.F.Files.moment c.cut.new.self) (g.F.Files.left_since c.args.self.now.files) (g.F.Files.left_since c.cut.new.self) c.cut.ensures.tells c.cut.ensures.crash c.cut.ensures.time) (less_quiet c.args.self.now.size (g.F.Files.told c.cut.new.self) (g.F.Files.told c.extent_of.new.files) (g.F.Files.may_leave c.cut.new.self) (g.F.Files.may_leave c.extent_of.new.files) (g.F.Files.is_going c.cut.new.self) (g.F.Files.is_going c.extent_of.new.files) (g.F.Files.moment c.cut.new.self) (g.F.Files.moment c.extent_of.new.files) (g.F.Files.left_since c.cut.new.self) (g.F.Files.left_since c.extent_of.new.files) c.extent_of.ensures.quiet)) (less_clears c.args.self.now.size c.in-Ok.extent.last c.in-Ok.extent.dropped c.args.self.now.in_range.0 c.in-Ok.ensures.few.0 c.in-Ok.ensures.few.1 (g.F.Files.told c.extent_of.new.files) (g.F.Files.told c.clear.new.files) (g.F.Files.may_leave c.extent_of.new.files) (g.F.Files.may_leave c.clear.new.files) (g.F.Files.is_going c.extent_of.new.files) (g.F.Files.is_going c.clear.new.files) (g.F.Files.moment c.extent_of.new.files) (g.F.Files.moment c.clear.new.files) (g.F.Files.left_since c.extent_of.new.files) (g.F.Files.left_since c.clear.new.files) (cut_fixed c.args.self.now.size c.in-Ok.extent.last c.in-Ok.extent.dropped (g.F.Files.told c.cut.new.self) (g.F.Files.told c.extent_of.new.files) (g.F.Files.may_leave c.cut.new.self) (g.F.Files.may_leave c.extent_of.new.files) (g.F.Files.is_going c.cut.new.self) (g.F.Files.is_going c.extent_of.new.files) c.extent_of.ensures.quiet.told c.extent_of.ensures.quiet.crash c.extent_of.ensures.quiet.going c.in_ok-cut.ensures.durable c.in_ok-cut.ensures.gone c.in-Ok.ensures.stops) c.clear.ensures.clears (g.met.F.Files.reads_now c.extent_of.new.files) (λ t x le. g.met.F.Files.counts_now c.extent_of.new.files t x le)))

pub returns-clause-less : goal.returns-clause-less
returns-clause-less g c = (less_on c.args.self.now.size (g.F.Files.told c.args.self.now.files) (g.F.Files.told c.extent_of.new.files) (g.F.Files.told c.clear.new.files) (g.F.Files.may_leave c.args.self.now.files) (g.F.Files.may_leave c.extent_of.new.files) (g.F.Files.may_leave c.clear.new.files) (g.F.Files.moment c.args.self.now.files) (g.F.Files.moment c.extent_of.new.files) (g.F.Files.moment c.clear.new.files) (g.F.Files.left_since c.args.self.now.files) (g.F.Files.left_since c.extent_of.new.files) (g.F.Files.left_since c.clear.new.files) (λ t x le. g.met.F.Files.counts_now c.args.self.now.files t x le) (less_on c.args.self.now.size (g.F.Files.told c.args.self.now.files) (g.F.Files.told c.cut.new.self) (g.F.Files.told c.extent_of.new.files) (g.F.Files.may_leave c.args.self.now.files) (g.F.Files.may_leave c.cut.new.self) (g.F.Files.may_leave c.extent_of.new.files) (g.F.Files.moment c.args.self.now.files) (g.F.Files.moment c.cut.new.self) (g.F.Files.moment c.extent_of.new.files) (g.F.Files.left_since c.args.self.now.files) (g.F.Files.left_since c.cut.new.self) (g.F.Files.left_since c.extent_of.new.files) (λ t x le. g.met.F.Files.counts_now c.args.self.now.files t x le) (less_files c.args.self.now.size (g.F.Files.told c.args.self.now.files) (g.F.Files.told c.cut.new.self) (g.F.Files.may_leave c.args.self.now.files) (g.F.Files.may_leave c.cut.new.self) (g.F.Files.moment c.args.self.now.files) (g.F.Files.moment c.cut.new.self) (g.F.Files.left_since c.args.self.now.files) (g.F.Files.left_since c.cut.new.self) c.cut.ensures.tells c.cut.ensures.crash c.cut.ensures.time) (less_quiet c.args.self.now.size (g.F.Files.told c.cut.new.self) (g.F.Files.told c.extent_of.new.files) (g.F.Files.may_leave c.cut.new.self) (g.F.Files.may_leave c.extent_of.new.files) (g.F.Files.is_going c.cut.new.self) (g.F.Files.is_going c.extent_of.new.files) (g.F.Files.moment c.cut.new.self) (g.F.Files.moment c.extent_of.new.files) (g.F.Files.left_since c.cut.new.self) (g.F.Files.left_since c.extent_of.new.files) c.extent_of.ensures.quiet)) (less_clears c.args.self.now.size c.in-Ok.extent.last c.in-Ok.extent.dropped c.args.self.now.in_range.0 c.in-Ok.ensures.few.0 c.in-Ok.ensures.few.1 (g.F.Files.told c.extent_of.new.files) (g.F.Files.told c.clear.new.files) (g.F.Files.may_leave c.extent_of.new.files) (g.F.Files.may_leave c.clear.new.files) (g.F.Files.is_going c.extent_of.new.files) (g.F.Files.is_going c.clear.new.files) (g.F.Files.moment c.extent_of.new.files) (g.F.Files.moment c.clear.new.files) (g.F.Files.left_since c.extent_of.new.files) (g.F.Files.left_since c.clear.new.files) (cut_fixed c.args.self.now.size c.in-Ok.extent.last c.in-Ok.extent.dropped (g.F.Files.told c.cut.new.self) (g.F.Files.told c.extent_of.new.files) (g.F.Files.may_leave c.cut.new.self) (g.F.Files.may_leave c.extent_of.new.files) (g.F.Files.is_going c.cut.new.self) (g.F.Files.is_going c.extent_of.new.files) c.extent_of.ensures.quiet.told c.extent_of.ensures.quiet.crash c.extent_of.ensures.quiet.going c.in_ok-cut.ensures.durable c.in_ok-cut.ensures.gone c.in-Ok.ensures.stops) c.clear.ensures.clears (g.met.F.Files.reads_now c.extent_of.new.files) (λ t x le. g.met.F.Files.counts_now c.extent_of.new.files t x le)))

pub returns-clause-chosen : goal.returns-clause-chosen
returns-clause-chosen g c =
    cleared_told c.args.self.now.size c.in-Ok.extent.last c.in-Ok.extent.dropped c.args.self.now.in_range.0 c.in-Ok.ensures.few.0 c.in-Ok.ensures.few.1 (g.F.Files.told c.extent_of.new.files) (g.F.Files.told c.clear.new.files) (g.F.Files.may_leave c.extent_of.new.files) (g.F.Files.may_leave c.clear.new.files) (g.F.Files.is_going c.extent_of.new.files) (g.F.Files.is_going c.clear.new.files) (g.F.Files.moment c.extent_of.new.files) (g.F.Files.moment c.clear.new.files) (g.F.Files.left_since c.extent_of.new.files) (g.F.Files.left_since c.clear.new.files) (cut_fixed c.args.self.now.size c.in-Ok.extent.last c.in-Ok.extent.dropped (g.F.Files.told c.cut.new.self) (g.F.Files.told c.extent_of.new.files) (g.F.Files.may_leave c.cut.new.self) (g.F.Files.may_leave c.extent_of.new.files) (g.F.Files.is_going c.cut.new.self) (g.F.Files.is_going c.extent_of.new.files) c.extent_of.ensures.quiet.told c.extent_of.ensures.quiet.crash c.extent_of.ensures.quiet.going c.in_ok-cut.ensures.durable c.in_ok-cut.ensures.gone c.in-Ok.ensures.stops) c.clear.ensures.clears ∙ told_quiet c.extent_of.ensures.quiet c.args.self.now.size ∙ ap (λ (t : Option Contents). told_of c.args.self.now.size t) c.in_ok-cut.ensures.chosen

pub returns-clause-durable : goal.returns-clause-durable
returns-clause-durable g c = cleared_only c.args.self.now.size c.in-Ok.extent.last c.in-Ok.extent.dropped c.args.self.now.in_range.0 c.in-Ok.ensures.few.0 c.in-Ok.ensures.few.1 (g.F.Files.told c.extent_of.new.files) (g.F.Files.told c.clear.new.files) (g.F.Files.may_leave c.extent_of.new.files) (g.F.Files.may_leave c.clear.new.files) (g.F.Files.is_going c.extent_of.new.files) (g.F.Files.is_going c.clear.new.files) (g.F.Files.moment c.extent_of.new.files) (g.F.Files.moment c.clear.new.files) (g.F.Files.left_since c.extent_of.new.files) (g.F.Files.left_since c.clear.new.files) (cut_fixed c.args.self.now.size c.in-Ok.extent.last c.in-Ok.extent.dropped (g.F.Files.told c.cut.new.self) (g.F.Files.told c.extent_of.new.files) (g.F.Files.may_leave c.cut.new.self) (g.F.Files.may_leave c.extent_of.new.files) (g.F.Files.is_going c.cut.new.self) (g.F.Files.is_going c.extent_of.new.files) c.extent_of.ensures.quiet.told c.extent_of.ensures.quiet.crash c.extent_of.ensures.quiet.going c.in_ok-cut.ensures.durable c.in_ok-cut.ensures.gone c.in-Ok.ensures.stops) c.clear.ensures.clears

pub returns-in-Err-clause-cause : goal.returns-in-Err-clause-cause
returns-in-Err-clause-cause g c =
    cause_both _ _ _ _ _ c.refuse.result c.in_ok-cut.ensures.cause.kept c.extent_of.ensures.later c.refuse.ensures.fits c.refuse.ensures.more c.refuse.ensures.err

pub returns-in_err-clear-clause-cause : goal.returns-in_err-clear-clause-cause
returns-in_err-clear-clause-cause g c =
    cause_behind _ _ _ _ _ c.from_residual-in_err-clear.result (ap (λ (n : ℕ). n + c.args.self.now.refused) (c.in-Ok.ensures.kept ∙ c.in_ok-cut.ensures.cause.kept))
    c.from_residual-in_err-clear.ensures.0 refl c.clear.ensures.cause.later c.in_err-clear.ensures.cause.failed
