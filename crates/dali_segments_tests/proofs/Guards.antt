-- Premises of calls on a store, by what its length tells.
use Rattle.std.specs.Prelude.{◌≡◌, ◌≤◌, ◌<◌, ℕ, length, Option, Some, None, IfSome}
use Rattle.std.proofs.Common.{sym, subst, arith}
use Rattle.dali_store.specs.Store.{Files}

pub placed : (at n : ℕ) (old new : Option Files) → at ≤ n → new ≡ old → IfSome old (λ fs. n ≡ length fs.log) → IfSome new (λ fs. at ≤ length fs.log)
placed at n old new le same is = subst (λ (t : Option Files). IfSome t (λ fs. at ≤ length fs.log)) (sym same) (by_told old is)
  where
    by_told : (t : Option Files) → IfSome t (λ fs. n ≡ length fs.log) → IfSome t (λ fs. at ≤ length fs.log)
    by_told None is = tt
    by_told (Some fs) is = omega (arith, le, is)

pub below : (at n : ℕ) (old new : Option Files) → at < n → new ≡ old → IfSome old (λ fs. n ≡ length fs.log) → IfSome new (λ fs. at < length fs.log)
below at n old new lt same is = subst (λ (t : Option Files). IfSome t (λ fs. at < length fs.log)) (sym same) (by_told old is)
  where
    by_told : (t : Option Files) → IfSome t (λ fs. n ≡ length fs.log) → IfSome t (λ fs. at < length fs.log)
    by_told None is = tt
    by_told (Some fs) is = omega (arith, lt, is)
