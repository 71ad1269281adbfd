use Rattle.std.specs.Prelude.{codes}
use Rattle.clap.specs.Words.{found_of, rows_of}
use Rattle.dali_arguments.proofs.Getters.{absent, flag_absent, flag_given, given}
use Rattle.dali_arguments.proofs.reading.precheck.Goals as goal

pub returns-in-Some : goal.returns-in-Some
returns-in-Some c =
    let f = found_of c.args.matches.now in
    flag_given (rows_of f) c.in-Some.value.now c.eq.result (given f (codes "precheck") c.get_str.result c.in-Some.value c.get_str.ensures c.in-Some.is) c.eq.ensures

pub returns-in-None : goal.returns-in-None
returns-in-None c =
    let f = found_of c.args.matches.now in
    flag_absent (rows_of f) (absent f (codes "precheck") c.get_str.result c.get_str.ensures c.in-None.is)
