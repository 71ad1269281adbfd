use Rattle.std.proofs.Common.{eqb-true, eq-eqb, ◌≡◌, ◌∙◌, ◌++◌, ◌+◌, ◌-◌, ◌≤◌, take, drop, arith, sym, ap, length, length-append, length-drop, ℕ, List, subst}
use Rattle.dali_bytes.specs.Cursor.{Cursor, left}
use Rattle.dali_record.specs.declared.records.Record.{Record}
use Rattle.dali_record.specs.Spelling.{spelling, Begins}
use Rattle.dali_log.specs.Log.{BadBehind}
use Rattle.dali_log.specs.Stream.{Reading, IsWhole, IsWindow, place_of}
use Rattle.dali_log.proofs.Bodies.{bad_at}
use Rattle.dali_log.proofs.Streaming.{bad_record, record_read}
use Rattle.dali_log.proofs.reader.LogReader.next_record.Goals as goal

pub returns-in-Ok-clause-read : goal.returns-in-Ok-clause-read
returns-in-Ok-clause-read c = λ log start front done read.
    let whole = subst IsWhole c.self.view_is c.self.invariant in
    let part = c.part.result.now in
    let taken = subst (λ (r : Reading). c.part.result.now ≡ take (r.end - r.at) (drop (r.at - c.args.self.now.from) c.args.self.now.bytes)) c.self.view_is c.part.ensures in
    let held = subst (IsWindow log) (sym c.self.view_is) read.window in
    let more = left c.decode_into.new.reader in
    let x = c.decode_into.new.into in
    let spells : part ≡ spelling x ++ more = sym (ap left c.new-reader.ensures) ∙ c.in-Ok.ensures.record.1 in
    let all : c.decode_into.new.reader.all ≡ part = c.in-Ok.ensures.same ∙ ap (λ (r : Cursor). r.all) c.new-reader.ensures in
    let here = ap (λ (r : Reading). r.at) c.self.view_is in
    let begun = ap (λ (r : Reading). r.body) c.self.view_is in
    let size : c.self.inside.at + c.at-size.result ≡ c.args.self.now.at + length (spelling x) = omega (arith, here, ap length spells, length-append (spelling x) more, length-drop c.decode_into.new.reader.at c.decode_into.new.reader.all, ap length all, c.at-size.ensures.at, c.at-size.ensures.inside) in
    record_read log c.args.self.now start front done c.requires.left (whole.there c.requires.left) read _ _ part more c.in-Ok.ensures.record.0 taken spells size begun (ap (λ (r : Reading). r.end) c.self.view_is)
    (record { all = held.all; part = held.part; within = held.within }) here
    (λ e. sym here ∙ eqb-true _ _ e ∙ begun, λ same. eq-eqb _ _ (here ∙ same ∙ sym begun))

pub returns-in-Err-BadRecord-clause-bad : goal.returns-in-Err-BadRecord-clause-bad
returns-in-Err-BadRecord-clause-bad c = λ bad e log start front done read.
    let whole = subst IsWhole c.self.view_is c.self.invariant in
    let part = c.part.result.now in
    let taken = subst (λ (r : Reading). c.part.result.now ≡ take (r.end - r.at) (drop (r.at - c.args.self.now.from) c.args.self.now.bytes)) c.self.view_is c.part.ensures in
    let at = ap (λ (r : Reading). r.at) c.self.view_is in
    let here : c.args.self.now.at ≡ bad = cc in
    let none = c.decode_into.ensures.bad.0 (bad_at c.decode_into.result c.in-Err-BadRecord.field-0 c.new-reader.result.at c.in-Err-BadRecord.field-0-0 c.in-Err-BadRecord.is c.in-Err-BadRecord.field-0-is c.decode_into.ensures.errors) in
    subst (λ (n : ℕ). BadBehind log start front n × (n ≤ place_of start front done)) here (bad_record log c.args.self.now start front done c.requires.left (whole.there c.requires.left) read part taken
    (subst (λ (l : List ℕ). (r : Record) → Begins l r → ⊥) (ap left c.new-reader.ensures) none))

pub returns-in-Ok-clause-spelled : goal.returns-in-Ok-clause-spelled
returns-in-Ok-clause-spelled c = c.in-Ok.ensures.record.0
