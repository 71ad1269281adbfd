-- The parts together are a run.
use Rattle.dali_runs.specs.Parts.Joined.{PartsAreARun}

pub parts_are_a_run : PartsAreARun
parts_are_a_run bases L c = (
  λ p. record {
    log = p.system.log;
    counts = p.system.counts;
    table = p.system.table;
    locks = p.system.locks;
    stop = record { damage = p.system.damage; failed = p.system.failed; store = p.store };
    whole = p.whole;
    base = p.base;
    regions = p.regions;
  },
  λ run. record {
    system = record { log = run.log; counts = run.counts; table = run.table; locks = run.locks; damage = run.stop.damage; failed = run.stop.failed };
    store = run.stop.store;
    whole = run.whole;
    base = run.base;
    regions = run.regions;
  },
)
