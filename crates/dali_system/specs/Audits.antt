-- The records of audits.
--     is_audit x               whether x is one
--     audit_noted y x          the system after it: one that failed stops the engine
--     audit_refusal y x        why it isn't logged, if so
use Rattle.std.specs.Prelude.{◌+◌, Bool, true, false, Option}
use Rattle.dali_record.specs.declared.records.Record.{Record}
use Rattle.dali_record.specs.declared.records.Record.TheVariants.{AuditBegin, AuditClean, AuditFail}
use Rattle.dali_runs.specs.State.{SystemState}
use Rattle.dali_runs.specs.Steps.{logged, stop_by_audit}
use Rattle.dali_system.specs.declared.error.SystemError.{SystemError}
use Rattle.dali_system.specs.Refused.{room_of, stop_refusal}

abbrev pub is_audit : Record → Bool
is_audit AuditBegin = true
is_audit (AuditClean b) = true
is_audit (AuditFail b regions) = true
is_audit _ = false

abbrev pub audit_noted : SystemState → Record → SystemState
audit_noted y (AuditFail b regions) = record (logged y (AuditFail b regions)) { stop = stop_by_audit regions y.stop }
audit_noted y x = logged y x

abbrev pub audit_refusal : SystemState → Record → Option SystemError
audit_refusal y AuditBegin = room_of y.stop y.end (y.limit + 1048576) 1
audit_refusal y _ = stop_refusal y
