-- What a call has changed so far, in two places.
use Rattle.std.specs.Prelude.{◌≡◌, ⊤, Option, Some, None}
use Rattle.dali_record.specs.declared.operations.Pending.{Pending}

-- the first place is filled first
abbrev pub InOrder : Option Pending → Option Pending → Type 0
InOrder None second = second ≡ None
InOrder (Some p) second = ⊤
