use Rattle.std.proofs.Common.{None, arith, rules, sym}
use Rattle.std.proofs.lemmas.Result.{err_from_is_err_and}
use Rattle.dali_bytes.specs.Cursor.{left}
use Rattle.dali_bytes.specs.Reading.{number32_at}
use Rattle.dali_record.proofs.Loops.{passed, passes_on, passes_none, passes_below, passes_end, counted32_none, counted32_all}
use Rattle.dali_record.proofs.codec.reading.pass32.Goals as goal

pub returns-in_err-number-clause-read : goal.returns-in_err-number-clause-read
returns-in_err-number-clause-read c =
    let p = err_from_is_err_and c.from_residual-in_err-number.result c.from_residual-in_err-number.ensures.1 in
    rw p.1 (counted32_none (left c.args.reader.now) c.in_ok-count.count (left c.number32.new.self) c.in_ok-count.ensures.exact
    (passes_none number32_at c.loop.last c.in_ok-count.count c.loop.counter (left c.loop.reader) (passed number32_at None c.in_ok-count.count (left c.number32.new.self)) c.loop-test.true c.in_err-number.ensures.exact c.loop.invariant.so_far))

pub returns-then-not-is_above-clause-read : goal.returns-then-not-is_above-clause-read
returns-then-not-is_above-clause-read c =
    counted32_none (left c.args.reader.now) c.in_ok-count.count (left c.number32.new.self) c.in_ok-count.ensures.exact
    (passes_below number32_at c.loop.last c.in_ok-count.count c.loop.counter (left c.loop.reader) c.in_ok-number.number (left c.number32-in-loop.new.self) (passed number32_at None c.in_ok-count.count (left c.number32.new.self)) c.loop-test.true c.in_ok-number.ensures.exact (sym c.if-not-is_above.ensures) c.loop.invariant.so_far)

pub loop-preserved : goal.loop-preserved
loop-preserved c = record {
  same = search rules;
  later = rw c.in_ok-number.ensures.moved (omega arith);
  so_far = passes_on number32_at c.loop.last c.in_ok-count.count c.loop.counter (left c.loop.reader) c.in_ok-number.number (left c.number32-in-loop.new.self) (passed number32_at None c.in_ok-count.count (left c.number32.new.self)) c.loop-test.true c.in_ok-number.ensures.exact (sym c.if-not-is_above.ensures) c.loop.invariant.so_far;
}

pub returns-clause-read : goal.returns-clause-read
returns-clause-read c =
    counted32_all (left c.args.reader.now) c.in_ok-count.count (left c.number32.new.self) (left c.loop.reader) c.in_ok-count.ensures.exact
    (passes_end number32_at c.loop.last c.in_ok-count.count c.loop.counter (left c.loop.reader) (passed number32_at None c.in_ok-count.count (left c.number32.new.self)) c.loop-test.false c.loop.invariant.so_far)
