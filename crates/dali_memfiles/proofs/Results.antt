-- Facts that hold where a result is Ok, and where it is an error.
use Rattle.std.specs.Prelude.{Result, OnOk, OnErr}
use Rattle.std.proofs.Common.{Ok, Err}

-- what follows from either
pub by_result : {T E P Q R : Type 0} (r : Result T E) → (P → R) → (Q → R) → OnOk r P → OnErr r Q → R
by_result (Ok x) f g p q = f p
by_result (Err e) f g p q = g q
