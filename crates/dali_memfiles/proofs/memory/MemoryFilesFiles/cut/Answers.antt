use Rattle.std.proofs.lemmas.Result.{on_ok_weaker}
use Rattle.dali_memfiles.specs.declared.event.Event.TheVariants.{Cut}
use Rattle.dali_memfiles.proofs.Events.{cut_chosen, cut_told, cut_crash, cut_durable, cut_gone, crash_same, going_still, elapses_push, elapses_same}
use Rattle.dali_memfiles.proofs.Results.{by_result}
use Rattle.dali_memfiles.proofs.memory.MemoryFilesFiles.cut.Goals as goal

pub returns-clause-chosen : goal.returns-clause-chosen
returns-clause-chosen c = on_ok_weaker c.cut.result (cut_chosen c.args.choice _ _) c.cut.ensures.cut

pub returns-clause-cut : goal.returns-clause-cut
returns-clause-cut c = on_ok_weaker c.cut.result (cut_told c.args.choice _ _) c.cut.ensures.cut

pub returns-clause-durable : goal.returns-clause-durable
returns-clause-durable c = on_ok_weaker c.cut.result (cut_durable c.args.choice _ _) c.cut.ensures.cut

pub returns-clause-crash : goal.returns-clause-crash
returns-clause-crash c = by_result c.cut.result (cut_crash c.args.choice _ _) (crash_same _ _) c.cut.ensures.cut c.cut.ensures.uncut

pub returns-clause-going : goal.returns-clause-going
returns-clause-going c =
    by_result c.cut.result (λ cut g going. absurd (cut_gone c.args.choice _ _ cut g going)) (going_still _ _) c.cut.ensures.cut c.cut.ensures.uncut

pub returns-clause-gone : goal.returns-clause-gone
returns-clause-gone c = on_ok_weaker c.cut.result (cut_gone c.args.choice _ _) c.cut.ensures.cut

pub returns-clause-time : goal.returns-clause-time
returns-clause-time c = by_result c.cut.result (elapses_push (Cut c.args.choice) _ _) (elapses_same _ _) c.cut.ensures.cut c.cut.ensures.uncut
