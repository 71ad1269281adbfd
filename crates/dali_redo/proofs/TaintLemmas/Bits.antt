-- The items of undos.
use Rattle.std.proofs.Common.{ℕ, List}
use Rattle.std.specs.Prelude.{map}
use Rattle.dali_record.specs.declared.operations.Pending.{Pending}

abbrev pub keys : List Pending → List ℕ
keys us = map (λ u. u.key) us
