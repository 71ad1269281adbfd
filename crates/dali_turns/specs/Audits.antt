-- Where a client stands in an audit, its own or that of its checkpoint.
--     IsPassing p w audit next     the audit began in this round, and has passed the regions below next
--     FitsAuditing audit next  the client is in it
use Rattle.std.specs.Prelude.{◌≡◌, ℕ, ◌<◌, ◌≤◌, ◌^◌, false, true, List, [], ◌∷◌, Some, length, slice_get}
use Rattle.dali_geometry.specs.Places.{regions}
use Rattle.dali_record.specs.declared.records.Record.TheVariants.{AuditBegin}
use Rattle.dali_runs.specs.Audits.{IsAuditing}
use Rattle.dali_crash.specs.Checkpoints.{Point}
use Rattle.dali_audit.specs.declared.audit.Finding.{Finding}
use Rattle.dali_audit.specs.declared.audit.Finding.TheVariants.{Waiting}
use Rattle.dali_audit.specs.Findings.{Audited, is_passed}
use Rattle.dali_audit.specs.Stepped.{AreFindings}
use Rattle.dali_transcripts.specs.Words.{Act, Audits}
use Rattle.dali_transcripts.specs.World.{World, Logs}
use Rattle.dali_transcripts.specs.Moves.{Outside, at}
use Rattle.dali_transcripts.specs.Rounds.{Standing, IsPlaced}
use Rattle.dali_transcripts.specs.Telling.Deeds.{BeganHere}

pub record IsPassing (p : Point) (w : World) (audit : Audited) (next : ℕ) : Type 0 where
  pub began : BeganHere w audit.begin
  pub auditing : IsAuditing p.core.system.sizes p.log audit.begin
  pub findings : AreFindings (p.audits audit.begin) audit.findings
  pub count : length audit.findings ≡ regions p.core.system.sizes
  pub passed : (r : ℕ) (f : Finding) → r < next → slice_get audit.findings r ≡ Some f → is_passed f ≡ true
  pub waits : (r : ℕ) → next ≤ r → r < length audit.findings → slice_get audit.findings r ≡ Some Waiting
  pub fits : audit.begin < 2 ^ 64
  pub few : length audit.findings < 2 ^ 32

pub record FitsAuditing (p : Point) (w : World) (a : Standing) (rest : List Act) (audit : Audited) (next : ℕ) : Type 0 where
  pub more : List Act
  pub audits : rest ≡ Audits ∷ more
  pub spot : a.spot ≡ at (Outside false) rest
  pub pending : a.pending ≡ (audit.begin, Logs AuditBegin) ∷ []
  pub placed : IsPlaced false rest
  pub passing : IsPassing p w audit next
