-- A header that is as it is wanted has no wrong place.
use Rattle.std.proofs.Common.{◌≡◌, ℕ, ◌<◌, ◌^◌, Bool, true, false, cond, Option, Some, None, refl, ap, arith}
use Rattle.std.specs.Prelude.{◌==◌, not}
use Rattle.std.proofs.lemmas.Bool.Decides.{nat_tests}
use Rattle.std.proofs.lemmas.Bool.{or_from, le-ltb, lt-leb}
use Rattle.dali_image.specs.Headers.{IsWanted, bad_header}
use Rattle.dali_image.specs.declared.header.Header.{Header}
use Rattle.dali_image.specs.declared.header.Expected.{Expected}

next_is : (b : Bool) (at : ℕ) (o : Option ℕ) → b ≡ false → o ≡ None → cond b (Some at) o ≡ None
next_is true at o e none = absurd cc
next_is false at o e none = none

same : (a b : ℕ) → a ≡ b → not (a == b) ≡ false
same a b e = grind (arith, nat_tests, e)

some : (a : ℕ) → 0 < a → (a == 0) ≡ false
some a lt = grind (arith, nat_tests, lt)

pub right_header : (h : Header) (x : Expected) → IsWanted h x → bad_header h x ≡ None
right_header h x is =
    next_is _ 8 _ (or_from _ _ (same h.geometry.index x.geometry.index (ap (λ g. g.index) is.geometry))
    (same h.geometry.heap x.geometry.heap (ap (λ g. g.heap) is.geometry)))
    (next_is _ 16 _ (same h.number x.number is.number)
    (next_is _ 24 _ (or_from _ _ (le-ltb h.place 15 is.place.0) (lt-leb x.log h.place is.place.1))
    (next_is _ 32 _ (or_from _ _ (lt-leb (2 ^ 40) h.first is.first.1) (some h.first is.first.0))
    (next_is _ 40 _ (lt-leb (2 ^ 40) h.weight is.weight)
    (next_is _ 48 _ (or_from _ _ (lt-leb (2 ^ 40) h.next is.next.1) (some h.next is.next.0)) refl)))))
