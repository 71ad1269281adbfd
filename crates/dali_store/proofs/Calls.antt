-- How the number of calls that a store still lets pass goes on from call to call.
use Rattle.std.proofs.Common.{◌≡◌, refl, ℕ, ◌+◌, ◌-◌, arith, Option, Some, None, ap, ◌∙◌}
use Rattle.std.specs.Prelude.{is_some}
use Rattle.dali_store.specs.Calls.{one_less, fewer, left_of, PassesFewer, MakesAtMost}

pub passes_same : (before : Option ℕ) → PassesFewer before before
passes_same before = record { counted = refl; fewer = omega arith }

pub some-one_less : (before : Option ℕ) → is_some (one_less before) ≡ is_some before
some-one_less None = refl
some-one_less (Some n) = refl

pub left-one_less : (before : Option ℕ) → left_of (one_less before) ≡ left_of before - 1
left-one_less None = refl
left-one_less (Some n) = refl

pub some-fewer : (n : ℕ) (before : Option ℕ) → is_some (fewer n before) ≡ is_some before
some-fewer n None = refl
some-fewer n (Some k) = refl

pub left-fewer : (n : ℕ) (before : Option ℕ) → left_of (fewer n before) ≡ left_of before - n
left-fewer n None = omega arith
left-fewer n (Some k) = refl

-- one call
pub passes_one : (before now : Option ℕ) → now ≡ one_less before → PassesFewer before now
passes_one before now is = record { counted = ap is_some is ∙ some-one_less before; fewer = omega (arith, ap left_of is, left-one_less before) }

-- no call, and one
pub most_none : (before : Option ℕ) → MakesAtMost 0 before before
most_none before = omega arith

pub most_one : (before now : Option ℕ) → now ≡ one_less before → MakesAtMost 1 before now
most_one before now is = omega (arith, ap left_of is, left-one_less before)

-- some calls and then others
pub passes_on : (before mid now : Option ℕ) → PassesFewer before mid → PassesFewer mid now → PassesFewer before now
passes_on before mid now first second = record { counted = second.counted ∙ first.counted; fewer = omega (arith, first.fewer, second.fewer) }

-- one call more than so many
pub fewer_one : (n : ℕ) (before : Option ℕ) → one_less (fewer n before) ≡ fewer (n + 1) before
fewer_one n None = refl
fewer_one n (Some k) = ap (λ (j : ℕ). Some j) (omega arith)
