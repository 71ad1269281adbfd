-- The bytes that spell a log are as many as its records weigh.
use Rattle.std.proofs.Common.{◌≡◌, suc, ◌+◌, List, [], ◌∷◌, ◌++◌, refl, arith, length, length-append}
use Rattle.std.specs.Prelude.{sum_by}
use Rattle.std.proofs.lemmas.List.Sums.{sum_by-append}
use Rattle.dali_record.specs.declared.records.Record.{Record}
use Rattle.dali_record.specs.Spelling.{record_length, spelling}
use Rattle.dali_record.proofs.Lengths.{length-spelling}
use Rattle.dali_log.specs.Log.{body_bytes}
use Rattle.dali_runs.specs.Counts.Counts.{AreSpelled}
use Rattle.dali_runs.proofs.CountsLemmas.LightLogs.{is_light}
use Rattle.dali_runs.specs.State.{log_after}
use Rattle.dali_system.specs.Light.{RecordsAreLight}

weighs : (L : List Record) → AreSpelled L → length (body_bytes L) ≡ sum_by record_length L
weighs [] spelled = refl
weighs (x ∷ L) spelled =
    let long = length-append (spelling x) (body_bytes L) in
    let head = length-spelling x (spelled 0 x refl) in
    let rest = weighs L (λ i r e. spelled (suc i) r e) in
    let sum = sum_by-append record_length (x ∷ []) L in
    omega (arith, long, head, rest, sum)

both : (K L : List Record) → length (body_bytes (K ++ L)) ≡ length (body_bytes K) + length (body_bytes L)
both [] L = omega arith
both (x ∷ K) L =
    let one = length-append (spelling x) (body_bytes (K ++ L)) in
    let two = length-append (spelling x) (body_bytes K) in
    let rest = both K L in
    omega (arith, one, two, rest)

pub records_are_light : RecordsAreLight
records_are_light bases before c run =
    let all = log_after before c.system in
    let light = is_light c.system.sizes all run.log.legal run.log.spelled in
    let same = weighs all run.log.spelled in
    let parts = both before c.system.since in
    omega (arith, light, same, parts)
