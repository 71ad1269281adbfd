-- The words, where they were read.
use Rattle.std.proofs.Common.{◌≡◌, Result, Ok, Err, subst}
use Rattle.std.specs.Prelude.{IfOk}

pub if_ok : {T E : Type 0} (P : T → Type 0) (r : Result T E) (x : T) → r ≡ Ok x → P x → IfOk r P
if_ok P (Ok y) x is p = let same : x ≡ y = cc in subst P same p
if_ok P (Err e) x is p = absurd cc
