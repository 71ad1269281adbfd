-- What a test by several parts says of each part. (Both parts at once: `and_parts`, `or_parts` of std.)
use Rattle.std.proofs.Common.{◌≡◌, Bool, true, false, ◌&&◌, ◌||◌, refl, ap, sym, ◌∙◌}
use Rattle.std.specs.Prelude.{T, not}

pub left_true : (a b : Bool) → (a && b) ≡ true → a ≡ true
left_true true b e = refl
left_true false b e = absurd cc

pub right_true : (a b : Bool) → (a && b) ≡ true → b ≡ true
right_true true b e = e
right_true false b e = absurd cc

pub left_false : (a b : Bool) → (a || b) ≡ false → a ≡ false
left_false true b e = e
left_false false b e = refl

pub middle_true : (a b c : Bool) → (a && b && c) ≡ true → b ≡ true
middle_true true true c e = refl
middle_true true false c e = absurd cc
middle_true false b c e = absurd cc

pub last_true : (a b c : Bool) → (a && b && c) ≡ true → c ≡ true
last_true true true c e = e
last_true true false c e = absurd cc
last_true false b c e = absurd cc

pub all_three_true : (a b c : Bool) → a ≡ true → b ≡ true → c ≡ true → (a && b && c) ≡ true
all_three_true a b c p q r = ap (λ (x : Bool). x && b && c) p ∙ ap (λ (x : Bool). x && c) q ∙ r

pub not_both_ways : {b : Bool} → b ≡ true → b ≡ false → ⊥
not_both_ways e f = cc

pub not_itself : (b : Bool) → not b ≡ true → b ≡ true → ⊥
not_itself true e f = absurd cc
not_itself false e f = absurd cc

pub same_tests : (a b : Bool) → (a ≡ true → b ≡ true) → (b ≡ true → a ≡ true) → a ≡ b
same_tests true b f g = sym (f refl)
same_tests false true f g = g refl
same_tests false false f g = refl

-- ---- tests as types
pub T_left : (a b : Bool) → T (a && b) → T a
T_left true b p = tt
T_left false b p = p

pub T_right : (a b : Bool) → T (a && b) → T b
T_right true b p = p
T_right false b p = absurd p
