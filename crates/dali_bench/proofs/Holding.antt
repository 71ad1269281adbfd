-- An operation that notes one word has read it.
use Rattle.std.proofs.Common.{◌≡◌, ◌∙◌, sym, ap, subst, refl, arith, ℕ, ◌^◌}
use Rattle.std.specs.Prelude.{bit_and, bit_or, IsBitSet}
use Rattle.std.specs.Int.Bits.{and_self, or_zero_l}
use Rattle.std.proofs.lemmas.Nat.{pow_pos}
use Rattle.dali_region.specs.State.{RegionState, HasRead, latched, with_reads}

bit_is_set : (i : ℕ) → IsBitSet (bit_or 0 (2 ^ i)) i
bit_is_set i = λ z.
    let same : bit_and (bit_or 0 (2 ^ i)) (2 ^ i) ≡ 2 ^ i = ap (λ n. bit_and n (2 ^ i)) (or_zero_l (2 ^ i)) ∙ and_self (2 ^ i) in
    let none : 2 ^ i ≡ 0 = sym same ∙ z in
    let some = pow_pos i in
    omega (arith, none, some)

pub has_read : (g h k : RegionState) (t m i : ℕ) → h ≡ latched t g → k ≡ with_reads m h → m ≡ 2 ^ i → HasRead k i
has_read g h k t m i taken read bit =
    let all : k ≡ with_reads (2 ^ i) (latched t g) = read ∙ ap (λ n. with_reads n h) bit ∙ ap (with_reads (2 ^ i)) taken in
    subst (λ (s : RegionState). HasRead s i) (sym all) (refl, bit_is_set i)
