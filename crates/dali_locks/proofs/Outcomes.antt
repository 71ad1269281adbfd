-- What follows from a fact of one outcome.
use Rattle.std.proofs.Common.{◌≡◌, Bool, true, false, not}
use Rattle.std.specs.Prelude.{Option, Some, None, IfNone, Result, Ok, Err, OnOk, OnErr}

pub on_either : {T E P Q A : Type 0} (r : Result T E) → OnOk r P → OnErr r Q → (P → A) → (Q → A) → A
on_either (Ok x) p q f g = f p
on_either (Err e) p q f g = g q

pub if_none : {T P : Type 0} (o : Option T) → IfNone o P → o ≡ None → P
if_none None p is = p
if_none (Some x) p is = cc

pub not_shared : (b : Bool) → true ≡ not b → b ≡ false
not_shared true is = cc
not_shared false is = λ i. false

pub is_shared : (b : Bool) → false ≡ not b → b ≡ true
is_shared true is = λ i. true
is_shared false is = cc
