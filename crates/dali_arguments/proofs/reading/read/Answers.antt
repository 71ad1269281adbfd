use Rattle.std.proofs.Common.{map, string_bytes}
use Rattle.clap.specs.Words.{app_of}
use Rattle.dali_arguments.proofs.Answered.{answered, failed}
use Rattle.dali_arguments.proofs.reading.read.Goals as goal

pub returns-in_err-matches-clause-faulty : goal.returns-in_err-matches-clause-faulty
returns-in_err-matches-clause-faulty c =
    failed (app_of c.in_ok-command.field-0) (map string_bytes c.args.words.now) c.in_err-matches.field-0.0 c.from_residual-in_err-matches.result
    c.in_ok-command.ensures c.in_err-matches.ensures.kinds c.from_residual-in_err-matches.ensures.1

pub returns : goal.returns
returns c =
    let both = answered (app_of c.in_ok-command.field-0) (map string_bytes c.args.words.now) c.in_ok-matches.matches c.task.result c.ok_or.result
    c.in_ok-command.ensures c.in_ok-matches.ensures.kinds c.in_ok-matches.ensures.matches c.task.ensures c.ok_or.ensures.value in
    record { means = both.0; faulty = both.1 }
