use Rattle.std.specs.Prelude.{map, string_bytes, IsErrOf}
use Rattle.std.proofs.Common.{◌≡◌, ◌∙◌, Result, ap, sym, subst}
use Rattle.dali_arguments.specs.Meaning.{meaning}
use Rattle.dali_run.specs.declared.halt.Halt.{Halt}
use Rattle.dali_run.specs.declared.halt.Halt.TheVariants as halts
use Rattle.dali_run.specs.declared.status.Status.{Status}
use Rattle.dali_run.specs.declared.status.Status.TheVariants as statuses
use Rattle.dali_run.specs.Halts.{status_in}
use Rattle.dali_run.specs.Ends.{Ended, course}
use Rattle.dali_run.proofs.LastLines.{ended_still}
use Rattle.dali_run.proofs.top.run.Goals as goal

write_fails : (r : Result (Unit {0}) Halt) → IsErrOf r halts.WriteFault → status_in r ≡ statuses.WriteFault
write_fails r e = ap status_in e

pub returns-clause-ended : goal.returns-clause-ended
returns-clause-ended g c =
    let task = meaning (map string_bytes c.args.words.now) in
    let mid = g.K.Sink.taken c.run_words-store.new.sink in
    let count = g.K.Sink.faults c.run_words-store.new.sink in
    let before = course g.S.Source g.K.Sink c.args.source.now c.run_words-store.new.source c.args.sink.now c.run_words-store.new.sink c.args.store c.run_words-store.result.0 in
    let status = sym c.finish-status.ensures.status in
    record {
      mid = mid;
      count = count;
      ended = ended_still g.V.Store before
          (g.K.Sink.taken c.finish-status.new.sink) (g.K.Sink.faults c.finish-status.new.sink) mid count task c.finish-status.result
          (subst (λ (s : Status). Ended g.V.Store task before mid count s) status c.run_words-store.ensures.ended);
      earlier = c.run_words-store.ensures.later;
      kept = λ no. c.run_words-store.ensures.kept (λ e. no (c.finish-status.ensures.status ∙ write_fails c.run_words-store.result.1 e));
      later = c.finish-status.ensures.later;
      read = λ no. c.run_words-store.ensures.read (λ is. no (c.finish-status.ensures.status ∙ is));
      last = c.finish-status.ensures.last;
    }
