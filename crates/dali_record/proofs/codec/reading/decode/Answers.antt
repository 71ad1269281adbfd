use Rattle.std.proofs.Common.{◌≡◌, ap, Err}
use Rattle.dali_record.specs.declared.error.DecodeError.TheVariants.{BadRecord}
use Rattle.dali_record.proofs.codec.reading.decode.Goals as goal

pub returns-in-Err-clause-bad : goal.returns-in-Err-clause-bad
returns-in-Err-clause-bad c = (
  λ e.
      let same : c.in-Err.error ≡ BadRecord c.args.reader.now.at = cc in
      c.in-Err.ensures.bad.0 (ap (λ error. Err error) same),
  λ none.
      let e = c.in-Err.ensures.bad.1 none in
      let same : c.in-Err.error ≡ BadRecord c.args.reader.now.at = cc in
      ap (λ error. Err error) same,
)
