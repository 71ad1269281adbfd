use Rattle.std.proofs.Common.{subst}
use Rattle.std.proofs.lemmas.Result.{on_ok_weaker}
use Rattle.dali_memstore.proofs.Events.{cut_chosen, cut_told, cut_crash, cut_durable, elapses_happened, elapses_same}
use Rattle.dali_memstore.specs.Memory.{History, disks, IsCrash}
use Rattle.dali_memstore.specs.declared.event.Event.TheVariants.{Cut}
use Rattle.dali_memstore.proofs.Results.{by_result}
use Rattle.dali_memstore.proofs.memory.MemoryStoreStore.cut.Goals as goal

pub returns-clause-chosen : goal.returns-clause-chosen
returns-clause-chosen c = on_ok_weaker c.cut.result (cut_chosen c.args.choice _ _) c.cut.ensures.cut

pub returns-clause-cut : goal.returns-clause-cut
returns-clause-cut c = on_ok_weaker c.cut.result (cut_told c.args.choice _ _) c.cut.ensures.cut

pub returns-clause-durable : goal.returns-clause-durable
returns-clause-durable c = on_ok_weaker c.cut.result (cut_durable c.args.choice _ _) c.cut.ensures.cut

pub returns-clause-crash : goal.returns-clause-crash
returns-clause-crash c =
    by_result c.cut.result (cut_crash c.args.choice _ _) (λ same d left. subst (λ (h : History). IsCrash (disks h) d) same left) c.cut.ensures.cut c.cut.ensures.uncut

pub returns-clause-time : goal.returns-clause-time
returns-clause-time c = by_result c.cut.result (elapses_happened (Cut c.args.choice) _ _) (elapses_same _ _) c.cut.ensures.cut c.cut.ensures.uncut
