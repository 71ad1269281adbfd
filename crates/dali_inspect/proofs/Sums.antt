-- Sums up to a number.
use Rattle.std.proofs.Common.{◌≡◌, ◌≤◌, ◌∙◌, ◌+◌, ℕ, suc, Bool, true, false, refl, sym, ap, arith}
use mir.Val.{bool_byte}
use Rattle.dali_inspect.specs.Counts.{one, sum_below}

pub none_yet : (f : ℕ → ℕ) → 0 ≡ sum_below f 0
unfolding sum_below
none_yet f = refl

pub one_more : (f : ℕ → ℕ) (n x y z : ℕ) → x ≡ sum_below f n → y ≡ f n → z ≡ x + y → z ≡ sum_below f (n + 1)
unfolding sum_below
one_more f n x y z was more is =
    let next : n + 1 ≡ suc n = omega arith in
    is ∙ ap (λ (k : ℕ). k + y) was ∙ ap (λ (k : ℕ). sum_below f n + k) more ∙ sym (ap (λ (k : ℕ). sum_below f k) next)

pub all_summed : (f : ℕ → ℕ) (n m x : ℕ) → n ≤ m → m ≤ n → x ≡ sum_below f n → x ≡ sum_below f m
all_summed f n m x low high is =
    let same : n ≡ m = omega (arith, low, high) in
    is ∙ ap (λ (k : ℕ). sum_below f k) same

pub at_most_one : (b : Bool) (x : ℕ) → x ≡ one b → x ≤ 1
at_most_one true x is = omega (arith, is)
at_most_one false x is = omega (arith, is)

pub as_one : (b : Bool) → bool_byte b ≡ one b
as_one true = refl
as_one false = refl
