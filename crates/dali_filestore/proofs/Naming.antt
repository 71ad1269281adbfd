-- The file that a counted failure names.
use Rattle.std.proofs.Common.{◌≡◌, sym, subst, Option, Some, Result, Ok, Err, OnErr, IfOk, IfErr, IfSome}
use Rattle.dali_store.specs.declared.store.FileName.{FileName}
use Rattle.dali_filestore.specs.Failures.{file_in}
use Rattle.dali_filestore.specs.declared.failure.Failure.{Failure}

pub on_err : {T E : Type 0} {P : Type 0} (result : Result T E) → P → OnErr result P
on_err (Ok x) holds = tt
on_err (Err e) holds = holds

pub named : {T E : Type 0} (file : FileName) (failure : Option Failure) (outcome : Result T Failure) (result : Result T E)
    → IfOk outcome (λ x. result ≡ Ok x) → IfErr outcome (λ why. failure ≡ Some why) → IfErr outcome (λ why. file_in why ≡ Some file)
    → OnErr result (IfSome failure (λ why. file_in why ≡ Some file))
named {T} {E} file failure (Ok x) result handed told names =
    subst (λ (r : Result T E). OnErr r (IfSome failure (λ why. file_in why ≡ Some file))) (sym handed) tt
named {T} {E} file failure (Err why) result handed told names =
    on_err result (subst (λ (f : Option Failure). IfSome f (λ why. file_in why ≡ Some file)) (sym told) names)
