-- Options, and the errors of results. (Two that are equal: `same_Some`, `none-some` of std.)
use Rattle.std.proofs.Common.{◌≡◌, true, false, Option, Some, None, IfSome, IsSome, refl, subst}
use Rattle.std.specs.Prelude.{is_some, Result, Ok, Err, OnErr}

pub some_same : {X : Type 0} {x y : X} → Some x ≡ Some y → x ≡ y
some_same e = cc

pub some_of : {X : Type 0} (o : Option X) → IsSome o → (x : X) × (o ≡ Some x)
some_of None h = absurd cc
some_of (Some x) h = (x, refl)

pub some_of_test : {X : Type 0} (o : Option X) → is_some o ≡ true → (x : X) × (o ≡ Some x)
some_of_test None e = absurd cc
some_of_test (Some x) e = (x, refl)

pub none_of_test : {X : Type 0} (o : Option X) → is_some o ≡ false → o ≡ None
none_of_test None e = refl
none_of_test (Some x) e = absurd cc

pub if_some_at : {X : Type 0} (o : Option X) (P : X → Type 0) (x : X) → o ≡ Some x → IfSome o P → P x
if_some_at o P x e h = subst (λ z. IfSome z P) e h

pub if_some_then : {X : Type 0} (P Q : X → Type 0) (o : Option X) → IfSome o P → ((x : X) → P x → Q x) → IfSome o Q
if_some_then P Q None p f = tt
if_some_then P Q (Some x) p f = f x p

pub on_err_any : {T E P : Type 0} (r : Result T E) → P → OnErr r P
on_err_any (Ok x) p = tt
on_err_any (Err e) p = p
