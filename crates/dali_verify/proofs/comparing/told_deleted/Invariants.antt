use Rattle.std.proofs.Common.{◌≡◌, take}
use Rattle.dali_verify.specs.Verified.{told_deleted}
use Rattle.dali_verify.proofs.comparing.told_deleted.Given as goal

abbrev pub invariant-loop-logged : goal.invariant-loop-logged
invariant-loop-logged l = l.deleted.items ≡ told_deleted (take l.logged-index l.log)
