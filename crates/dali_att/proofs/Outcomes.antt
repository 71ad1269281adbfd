-- What follows from a fact of one outcome.
use Rattle.std.specs.Prelude.{Result, Ok, Err, IfOk}

module _ {T E : Type 0} {P Q : T → Type 0} where
  pub if_ok : (r : Result T E) → ((x : T) → P x → Q x) → IfOk r P → IfOk r Q
  if_ok (Ok x) f p = f x p
  if_ok (Err e) f p = tt
