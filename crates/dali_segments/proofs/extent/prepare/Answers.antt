use Rattle.std.proofs.Common.{◌∙◌}
use Rattle.dali_segments.specs.Extents.{IsFixed, StopsIn}
use Rattle.dali_segments.proofs.Quiets.{rose_up}
use Rattle.dali_segments.proofs.Sounds.{told_quiet}
use Rattle.dali_segments.proofs.Fixings.{both_told, told_moved}
use Rattle.dali_segments.proofs.Extents.{cleared_told, cleared_only, cleared_sound}
use Rattle.dali_segments.proofs.Lessening.{less_quiet, less_clears, less_on}
use Rattle.dali_segments.proofs.extent.prepare.Goals as goal

pub returns-in_err-extent-clause-told : goal.returns-in_err-extent-clause-told
returns-in_err-extent-clause-told g c = told_quiet c.extent_of.ensures.quiet c.args.size

pub returns-in_err-extent-clause-less : goal.returns-in_err-extent-clause-less
returns-in_err-extent-clause-less g c = (less_quiet c.args.size (g.F.Files.told c.args.files.now) (g.F.Files.told c.extent_of.new.files) (g.F.Files.may_leave c.args.files.now) (g.F.Files.may_leave c.extent_of.new.files) (g.F.Files.is_going c.args.files.now) (g.F.Files.is_going c.extent_of.new.files) (g.F.Files.moment c.args.files.now) (g.F.Files.moment c.extent_of.new.files) (g.F.Files.left_since c.args.files.now) (g.F.Files.left_since c.extent_of.new.files) c.extent_of.ensures.quiet)

pub returns-in-Err-clause-told : goal.returns-in-Err-clause-told
returns-in-Err-clause-told g c = told_quiet c.sync_all.ensures.quiet c.args.size ∙ told_quiet c.extent_of.ensures.quiet c.args.size

pub returns-in-Err-clause-less : goal.returns-in-Err-clause-less
returns-in-Err-clause-less g c = (less_on c.args.size (g.F.Files.told c.args.files.now) (g.F.Files.told c.extent_of.new.files) (g.F.Files.told c.sync_all.new.files) (g.F.Files.may_leave c.args.files.now) (g.F.Files.may_leave c.extent_of.new.files) (g.F.Files.may_leave c.sync_all.new.files) (g.F.Files.moment c.args.files.now) (g.F.Files.moment c.extent_of.new.files) (g.F.Files.moment c.sync_all.new.files) (g.F.Files.left_since c.args.files.now) (g.F.Files.left_since c.extent_of.new.files) (g.F.Files.left_since c.sync_all.new.files) (λ t x le. g.met.F.Files.counts_now c.args.files.now t x le) (less_quiet c.args.size (g.F.Files.told c.args.files.now) (g.F.Files.told c.extent_of.new.files) (g.F.Files.may_leave c.args.files.now) (g.F.Files.may_leave c.extent_of.new.files) (g.F.Files.is_going c.args.files.now) (g.F.Files.is_going c.extent_of.new.files) (g.F.Files.moment c.args.files.now) (g.F.Files.moment c.extent_of.new.files) (g.F.Files.left_since c.args.files.now) (g.F.Files.left_since c.extent_of.new.files) c.extent_of.ensures.quiet) (less_quiet c.args.size (g.F.Files.told c.extent_of.new.files) (g.F.Files.told c.sync_all.new.files) (g.F.Files.may_leave c.extent_of.new.files) (g.F.Files.may_leave c.sync_all.new.files) (g.F.Files.is_going c.extent_of.new.files) (g.F.Files.is_going c.sync_all.new.files) (g.F.Files.moment c.extent_of.new.files) (g.F.Files.moment c.sync_all.new.files) (g.F.Files.left_since c.extent_of.new.files) (g.F.Files.left_since c.sync_all.new.files) c.sync_all.ensures.quiet))

pub returns-in-Err-clause-fault : goal.returns-in-Err-clause-fault
returns-in-Err-clause-fault g c = λ is. rose_up _ _ _ c.in_ok-extent.ensures.kept c.in-Err.ensures.cause.failed

pub returns-in-Err-clear-clause-told : goal.returns-in-Err-clear-clause-told
returns-in-Err-clear-clause-told g c = cleared_told c.args.size c.in_ok-extent.extent.last c.in_ok-extent.extent.dropped c.requires c.in_ok-extent.ensures.few.0 c.in_ok-extent.ensures.few.1 (g.F.Files.told c.sync_all.new.files) (g.F.Files.told c.clear.new.files) (g.F.Files.may_leave c.sync_all.new.files) (g.F.Files.may_leave c.clear.new.files) (g.F.Files.is_going c.sync_all.new.files) (g.F.Files.is_going c.clear.new.files) (g.F.Files.moment c.sync_all.new.files) (g.F.Files.moment c.clear.new.files) (g.F.Files.left_since c.sync_all.new.files) (g.F.Files.left_since c.clear.new.files) (both_told (λ fs. IsFixed c.in_ok-extent.extent.last (g.F.Files.may_leave c.sync_all.new.files) (g.F.Files.is_going c.sync_all.new.files) fs) (λ fs. StopsIn c.args.size c.in_ok-extent.extent.last c.in_ok-extent.extent.dropped fs) (g.F.Files.told c.extent_of.new.files) (g.F.Files.told c.sync_all.new.files) c.sync_all.ensures.quiet.told c.in-Ok.ensures.fixed (told_moved (λ fs. StopsIn c.args.size c.in_ok-extent.extent.last c.in_ok-extent.extent.dropped fs) (g.F.Files.told c.args.files.now) (g.F.Files.told c.extent_of.new.files) c.extent_of.ensures.quiet.told c.in_ok-extent.ensures.stops)) c.clear.ensures.clears ∙ told_quiet c.sync_all.ensures.quiet c.args.size ∙ told_quiet c.extent_of.ensures.quiet c.args.size

pub returns-in-Err-clear-clause-less : goal.returns-in-Err-clear-clause-less
returns-in-Err-clear-clause-less g c = (less_on c.args.size (g.F.Files.told c.args.files.now) (g.F.Files.told c.sync_all.new.files) (g.F.Files.told c.clear.new.files) (g.F.Files.may_leave c.args.files.now) (g.F.Files.may_leave c.sync_all.new.files) (g.F.Files.may_leave c.clear.new.files) (g.F.Files.moment c.args.files.now) (g.F.Files.moment c.sync_all.new.files) (g.F.Files.moment c.clear.new.files) (g.F.Files.left_since c.args.files.now) (g.F.Files.left_since c.sync_all.new.files) (g.F.Files.left_since c.clear.new.files) (λ t x le. g.met.F.Files.counts_now c.args.files.now t x le) (less_on c.args.size (g.F.Files.told c.args.files.now) (g.F.Files.told c.extent_of.new.files) (g.F.Files.told c.sync_all.new.files) (g.F.Files.may_leave c.args.files.now) (g.F.Files.may_leave c.extent_of.new.files) (g.F.Files.may_leave c.sync_all.new.files) (g.F.Files.moment c.args.files.now) (g.F.Files.moment c.extent_of.new.files) (g.F.Files.moment c.sync_all.new.files) (g.F.Files.left_since c.args.files.now) (g.F.Files.left_since c.extent_of.new.files) (g.F.Files.left_since c.sync_all.new.files) (λ t x le. g.met.F.Files.counts_now c.args.files.now t x le) (less_quiet c.args.size (g.F.Files.told c.args.files.now) (g.F.Files.told c.extent_of.new.files) (g.F.Files.may_leave c.args.files.now) (g.F.Files.may_leave c.extent_of.new.files) (g.F.Files.is_going c.args.files.now) (g.F.Files.is_going c.extent_of.new.files) (g.F.Files.moment c.args.files.now) (g.F.Files.moment c.extent_of.new.files) (g.F.Files.left_since c.args.files.now) (g.F.Files.left_since c.extent_of.new.files) c.extent_of.ensures.quiet) (less_quiet c.args.size (g.F.Files.told c.extent_of.new.files) (g.F.Files.told c.sync_all.new.files) (g.F.Files.may_leave c.extent_of.new.files) (g.F.Files.may_leave c.sync_all.new.files) (g.F.Files.is_going c.extent_of.new.files) (g.F.Files.is_going c.sync_all.new.files) (g.F.Files.moment c.extent_of.new.files) (g.F.Files.moment c.sync_all.new.files) (g.F.Files.left_since c.extent_of.new.files) (g.F.Files.left_since c.sync_all.new.files) c.sync_all.ensures.quiet)) (less_clears c.args.size c.in_ok-extent.extent.last c.in_ok-extent.extent.dropped c.requires c.in_ok-extent.ensures.few.0 c.in_ok-extent.ensures.few.1 (g.F.Files.told c.sync_all.new.files) (g.F.Files.told c.clear.new.files) (g.F.Files.may_leave c.sync_all.new.files) (g.F.Files.may_leave c.clear.new.files) (g.F.Files.is_going c.sync_all.new.files) (g.F.Files.is_going c.clear.new.files) (g.F.Files.moment c.sync_all.new.files) (g.F.Files.moment c.clear.new.files) (g.F.Files.left_since c.sync_all.new.files) (g.F.Files.left_since c.clear.new.files) (both_told (λ fs. IsFixed c.in_ok-extent.extent.last (g.F.Files.may_leave c.sync_all.new.files) (g.F.Files.is_going c.sync_all.new.files) fs) (λ fs. StopsIn c.args.size c.in_ok-extent.extent.last c.in_ok-extent.extent.dropped fs) (g.F.Files.told c.extent_of.new.files) (g.F.Files.told c.sync_all.new.files) c.sync_all.ensures.quiet.told c.in-Ok.ensures.fixed (told_moved (λ fs. StopsIn c.args.size c.in_ok-extent.extent.last c.in_ok-extent.extent.dropped fs) (g.F.Files.told c.args.files.now) (g.F.Files.told c.extent_of.new.files) c.extent_of.ensures.quiet.told c.in_ok-extent.ensures.stops)) c.clear.ensures.clears (g.met.F.Files.reads_now c.sync_all.new.files) (λ t x le. g.met.F.Files.counts_now c.sync_all.new.files t x le)))

pub returns-in-Err-clear-clause-fault : goal.returns-in-Err-clear-clause-fault
returns-in-Err-clear-clause-fault g c = λ is. rose_up _ _ _ (c.in-Ok.ensures.cause.kept ∙ c.in_ok-extent.ensures.kept) c.in-Err-clear.ensures.cause.failed

pub returns-in-Ok-clear-clause-told : goal.returns-in-Ok-clear-clause-told
returns-in-Ok-clear-clause-told g c = cleared_told c.args.size c.in_ok-extent.extent.last c.in_ok-extent.extent.dropped c.requires c.in_ok-extent.ensures.few.0 c.in_ok-extent.ensures.few.1 (g.F.Files.told c.sync_all.new.files) (g.F.Files.told c.clear.new.files) (g.F.Files.may_leave c.sync_all.new.files) (g.F.Files.may_leave c.clear.new.files) (g.F.Files.is_going c.sync_all.new.files) (g.F.Files.is_going c.clear.new.files) (g.F.Files.moment c.sync_all.new.files) (g.F.Files.moment c.clear.new.files) (g.F.Files.left_since c.sync_all.new.files) (g.F.Files.left_since c.clear.new.files) (both_told (λ fs. IsFixed c.in_ok-extent.extent.last (g.F.Files.may_leave c.sync_all.new.files) (g.F.Files.is_going c.sync_all.new.files) fs) (λ fs. StopsIn c.args.size c.in_ok-extent.extent.last c.in_ok-extent.extent.dropped fs) (g.F.Files.told c.extent_of.new.files) (g.F.Files.told c.sync_all.new.files) c.sync_all.ensures.quiet.told c.in-Ok.ensures.fixed (told_moved (λ fs. StopsIn c.args.size c.in_ok-extent.extent.last c.in_ok-extent.extent.dropped fs) (g.F.Files.told c.args.files.now) (g.F.Files.told c.extent_of.new.files) c.extent_of.ensures.quiet.told c.in_ok-extent.ensures.stops)) c.clear.ensures.clears ∙ told_quiet c.sync_all.ensures.quiet c.args.size ∙ told_quiet c.extent_of.ensures.quiet c.args.size

pub returns-in-Ok-clear-clause-less : goal.returns-in-Ok-clear-clause-less
returns-in-Ok-clear-clause-less g c = (less_on c.args.size (g.F.Files.told c.args.files.now) (g.F.Files.told c.sync_all.new.files) (g.F.Files.told c.clear.new.files) (g.F.Files.may_leave c.args.files.now) (g.F.Files.may_leave c.sync_all.new.files) (g.F.Files.may_leave c.clear.new.files) (g.F.Files.moment c.args.files.now) (g.F.Files.moment c.sync_all.new.files) (g.F.Files.moment c.clear.new.files) (g.F.Files.left_since c.args.files.now) (g.F.Files.left_since c.sync_all.new.files) (g.F.Files.left_since c.clear.new.files) (λ t x le. g.met.F.Files.counts_now c.args.files.now t x le) (less_on c.args.size (g.F.Files.told c.args.files.now) (g.F.Files.told c.extent_of.new.files) (g.F.Files.told c.sync_all.new.files) (g.F.Files.may_leave c.args.files.now) (g.F.Files.may_leave c.extent_of.new.files) (g.F.Files.may_leave c.sync_all.new.files) (g.F.Files.moment c.args.files.now) (g.F.Files.moment c.extent_of.new.files) (g.F.Files.moment c.sync_all.new.files) (g.F.Files.left_since c.args.files.now) (g.F.Files.left_since c.extent_of.new.files) (g.F.Files.left_since c.sync_all.new.files) (λ t x le. g.met.F.Files.counts_now c.args.files.now t x le) (less_quiet c.args.size (g.F.Files.told c.args.files.now) (g.F.Files.told c.extent_of.new.files) (g.F.Files.may_leave c.args.files.now) (g.F.Files.may_leave c.extent_of.new.files) (g.F.Files.is_going c.args.files.now) (g.F.Files.is_going c.extent_of.new.files) (g.F.Files.moment c.args.files.now) (g.F.Files.moment c.extent_of.new.files) (g.F.Files.left_since c.args.files.now) (g.F.Files.left_since c.extent_of.new.files) c.extent_of.ensures.quiet) (less_quiet c.args.size (g.F.Files.told c.extent_of.new.files) (g.F.Files.told c.sync_all.new.files) (g.F.Files.may_leave c.extent_of.new.files) (g.F.Files.may_leave c.sync_all.new.files) (g.F.Files.is_going c.extent_of.new.files) (g.F.Files.is_going c.sync_all.new.files) (g.F.Files.moment c.extent_of.new.files) (g.F.Files.moment c.sync_all.new.files) (g.F.Files.left_since c.extent_of.new.files) (g.F.Files.left_since c.sync_all.new.files) c.sync_all.ensures.quiet)) (less_clears c.args.size c.in_ok-extent.extent.last c.in_ok-extent.extent.dropped c.requires c.in_ok-extent.ensures.few.0 c.in_ok-extent.ensures.few.1 (g.F.Files.told c.sync_all.new.files) (g.F.Files.told c.clear.new.files) (g.F.Files.may_leave c.sync_all.new.files) (g.F.Files.may_leave c.clear.new.files) (g.F.Files.is_going c.sync_all.new.files) (g.F.Files.is_going c.clear.new.files) (g.F.Files.moment c.sync_all.new.files) (g.F.Files.moment c.clear.new.files) (g.F.Files.left_since c.sync_all.new.files) (g.F.Files.left_since c.clear.new.files) (both_told (λ fs. IsFixed c.in_ok-extent.extent.last (g.F.Files.may_leave c.sync_all.new.files) (g.F.Files.is_going c.sync_all.new.files) fs) (λ fs. StopsIn c.args.size c.in_ok-extent.extent.last c.in_ok-extent.extent.dropped fs) (g.F.Files.told c.extent_of.new.files) (g.F.Files.told c.sync_all.new.files) c.sync_all.ensures.quiet.told c.in-Ok.ensures.fixed (told_moved (λ fs. StopsIn c.args.size c.in_ok-extent.extent.last c.in_ok-extent.extent.dropped fs) (g.F.Files.told c.args.files.now) (g.F.Files.told c.extent_of.new.files) c.extent_of.ensures.quiet.told c.in_ok-extent.ensures.stops)) c.clear.ensures.clears (g.met.F.Files.reads_now c.sync_all.new.files) (λ t x le. g.met.F.Files.counts_now c.sync_all.new.files t x le)))

pub returns-in-Ok-clear-clause-only : goal.returns-in-Ok-clear-clause-only
returns-in-Ok-clear-clause-only g c = cleared_only c.args.size c.in_ok-extent.extent.last c.in_ok-extent.extent.dropped c.requires c.in_ok-extent.ensures.few.0 c.in_ok-extent.ensures.few.1 (g.F.Files.told c.sync_all.new.files) (g.F.Files.told c.clear.new.files) (g.F.Files.may_leave c.sync_all.new.files) (g.F.Files.may_leave c.clear.new.files) (g.F.Files.is_going c.sync_all.new.files) (g.F.Files.is_going c.clear.new.files) (g.F.Files.moment c.sync_all.new.files) (g.F.Files.moment c.clear.new.files) (g.F.Files.left_since c.sync_all.new.files) (g.F.Files.left_since c.clear.new.files) (both_told (λ fs. IsFixed c.in_ok-extent.extent.last (g.F.Files.may_leave c.sync_all.new.files) (g.F.Files.is_going c.sync_all.new.files) fs) (λ fs. StopsIn c.args.size c.in_ok-extent.extent.last c.in_ok-extent.extent.dropped fs) (g.F.Files.told c.extent_of.new.files) (g.F.Files.told c.sync_all.new.files) c.sync_all.ensures.quiet.told c.in-Ok.ensures.fixed (told_moved (λ fs. StopsIn c.args.size c.in_ok-extent.extent.last c.in_ok-extent.extent.dropped fs) (g.F.Files.told c.args.files.now) (g.F.Files.told c.extent_of.new.files) c.extent_of.ensures.quiet.told c.in_ok-extent.ensures.stops)) c.clear.ensures.clears

pub returns-in-Ok-clear-clause-sound : goal.returns-in-Ok-clear-clause-sound
returns-in-Ok-clear-clause-sound g c = cleared_sound c.args.size c.in_ok-extent.extent.last c.in_ok-extent.extent.dropped c.requires c.in_ok-extent.ensures.few.0 c.in_ok-extent.ensures.few.1 (g.F.Files.told c.sync_all.new.files) (g.F.Files.told c.clear.new.files) (g.F.Files.may_leave c.sync_all.new.files) (g.F.Files.may_leave c.clear.new.files) (g.F.Files.is_going c.sync_all.new.files) (g.F.Files.is_going c.clear.new.files) (g.F.Files.moment c.sync_all.new.files) (g.F.Files.moment c.clear.new.files) (g.F.Files.left_since c.sync_all.new.files) (g.F.Files.left_since c.clear.new.files) (both_told (λ fs. IsFixed c.in_ok-extent.extent.last (g.F.Files.may_leave c.sync_all.new.files) (g.F.Files.is_going c.sync_all.new.files) fs) (λ fs. StopsIn c.args.size c.in_ok-extent.extent.last c.in_ok-extent.extent.dropped fs) (g.F.Files.told c.extent_of.new.files) (g.F.Files.told c.sync_all.new.files) c.sync_all.ensures.quiet.told c.in-Ok.ensures.fixed (told_moved (λ fs. StopsIn c.args.size c.in_ok-extent.extent.last c.in_ok-extent.extent.dropped fs) (g.F.Files.told c.args.files.now) (g.F.Files.told c.extent_of.new.files) c.extent_of.ensures.quiet.told c.in_ok-extent.ensures.stops)) c.clear.ensures.clears _ c.in-Ok-clear.ensures.gone (g.met.F.Files.reads_now c.clear.new.files) (g.met.F.Files.no_longer c.clear.new.files)
