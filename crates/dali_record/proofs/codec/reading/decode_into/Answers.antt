use Rattle.std.proofs.Common.{◌≡◌, true, ap, Err, None}
use Rattle.dali_bytes.specs.Cursor.{left, IsBytes}
use Rattle.dali_bytes.proofs.Numbers.{IsBytes-drop}
use Rattle.dali_record.specs.declared.error.DecodeError.TheVariants.{BadRecord}
use Rattle.dali_record.specs.declared.records.Record.{Record}
use Rattle.dali_record.specs.Spelling.{Begins, has_list}
use Rattle.dali_record.specs.Reading.{record_at}
use Rattle.dali_record.proofs.Spelled.{record_taken, none_begins, list_begins}
use Rattle.dali_record.proofs.codec.reading.decode_into.Goals as goal

pub returns-in-Ok-clause-record : goal.returns-in-Ok-clause-record
returns-in-Ok-clause-record c =
    let fits : IsBytes (left c.args.reader.now) = IsBytes-drop c.args.reader.now.at c.args.reader.now.all c.at-start.ensures.bytes in
    record_taken (left c.args.reader.now) c.record.new.into (left c.record.new.reader) fits c.in-Ok.ensures.read

pub returns-in-Ok-clause-bad : goal.returns-in-Ok-clause-bad
returns-in-Ok-clause-bad c =
    let fits : IsBytes (left c.args.reader.now) = IsBytes-drop c.args.reader.now.at c.args.reader.now.all c.at-start.ensures.bytes in
    let t = record_taken (left c.args.reader.now) c.record.new.into (left c.record.new.reader) fits c.in-Ok.ensures.read in
    (λ e. absurd cc, λ none. absurd (none c.record.new.into (t.0, left c.record.new.reader, t.1)))

pub returns-in-Err-NoSpelling-clause-bad : goal.returns-in-Err-NoSpelling-clause-bad
returns-in-Err-NoSpelling-clause-bad c =
    let read : record_at (left c.args.reader.now) ≡ None = rw c.in-Err-NoSpelling.field-0-is at c.in-Err-NoSpelling.ensures.read in
    (λ e r begins. none_begins (left c.args.reader.now) read r begins.1 begins.0 begins.2, λ none. ap (λ at. Err (BadRecord at)) c.at-start.ensures.at)

pub returns-in-Err-OutOfMemory-clause-bad : goal.returns-in-Err-OutOfMemory-clause-bad
returns-in-Err-OutOfMemory-clause-bad c =
    let fits : IsBytes (left c.args.reader.now) = IsBytes-drop c.args.reader.now.at c.args.reader.now.all c.at-start.ensures.bytes in
    let l : (r : Record) × Begins (left c.args.reader.now) r × (has_list r ≡ true) = list_begins (left c.args.reader.now) fits (rw c.in-Err-OutOfMemory.field-0-is at c.in-Err-OutOfMemory.ensures.read) (c.in-Err-OutOfMemory.ensures.lists (ap (λ failure. Err failure) c.in-Err-OutOfMemory.field-0-is)) in
    (λ e. absurd cc, λ none. absurd (none l.0 l.1))

pub returns-in-Err-OutOfMemory-clause-memory : goal.returns-in-Err-OutOfMemory-clause-memory
returns-in-Err-OutOfMemory-clause-memory c =
    let fits : IsBytes (left c.args.reader.now) = IsBytes-drop c.args.reader.now.at c.args.reader.now.all c.at-start.ensures.bytes in
    λ e. list_begins (left c.args.reader.now) fits (rw c.in-Err-OutOfMemory.field-0-is at c.in-Err-OutOfMemory.ensures.read) (c.in-Err-OutOfMemory.ensures.lists (ap (λ failure. Err failure) c.in-Err-OutOfMemory.field-0-is))
