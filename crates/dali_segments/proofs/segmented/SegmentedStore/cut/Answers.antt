use Rattle.std.specs.Prelude.{IfSome, Option}
use Rattle.std.proofs.Common.{sym, subst}
use Rattle.dali_store.specs.Store.{Files}
use Rattle.dali_segments.specs.Segments.{LeavesWhere}
use Rattle.dali_segments.specs.Laws.{cuts_law}
use Rattle.dali_segments.proofs.Written.{on_ok}
use Rattle.dali_segments.proofs.segmented.SegmentedStore.cut.Goals as goal

pub returns-clause-cut : goal.returns-clause-cut
returns-clause-cut g c =
    on_ok c.cut_all.result
    (λ e. subst (λ (t : Option Files). IfSome t (λ fs. LeavesWhere c.args.self.now.size (g.F.Files.told c.args.self.now.files) (g.F.Files.may_leave c.args.self.now.files) fs)) (sym e)
    (cuts_law c.args.self.now.size (g.F.Files.told c.args.self.now.files) (g.F.Files.cuts c.args.self.now.files c.args.choice) (g.F.Files.may_leave c.args.self.now.files) (g.met.F.Files.tells_cuts c.args.self.now.files c.args.choice) (g.met.F.Files.cuts_leave c.args.self.now.files c.args.choice)))
    c.cut_all.ensures.chosen
