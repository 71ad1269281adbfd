use Rattle.std.specs.Prelude.{codes}
use Rattle.clap.specs.Words.{found_of, rows_of}
use Rattle.dali_arguments.proofs.Getters.{absent, given, limit_absent, limit_given}
use Rattle.dali_arguments.proofs.reading.limit.Goals as goal

pub returns-in-Some : goal.returns-in-Some
returns-in-Some c =
    let f = found_of c.args.matches.now in
    limit_given (rows_of f) c.in-Some.text.now c.between.result (given f (codes "log-limit") c.get_str.result c.in-Some.text c.get_str.ensures c.in-Some.is) c.between.ensures

pub returns-in-None : goal.returns-in-None
returns-in-None c =
    let f = found_of c.args.matches.now in
    limit_absent (rows_of f) (absent f (codes "log-limit") c.get_str.result c.get_str.ensures c.in-None.is)
