use Rattle.dali_concurrent.proofs.Passed.{passes_are_lines}
use Rattle.dali_concurrent.proofs.Audits.{began_is_here, pass_fits_here, passes_land, audit_ends_land}
use Rattle.dali_concurrent.proofs.laws.an_audit_is_told.Goals as goal

pub returns : goal.returns
returns c = record {
  began = began_is_here;
  lines = passes_are_lines;
  fits = pass_fits_here;
  passes = passes_land;
  ends = audit_ends_land;
}
