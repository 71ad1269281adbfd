use Rattle.std.proofs.Common.{◌≡◌, ◌≤◌, length, take}
use Rattle.dali_audit.specs.Findings.{damaged}
use Rattle.dali_audit.proofs.audit.gather.Given as goal

abbrev pub invariant-loop-number : goal.invariant-loop-number
invariant-loop-number l = (l.found ≤ l.number) × (length l.failing ≡ length l.findings) × (take l.found l.failing ≡ damaged (take l.number l.findings))
