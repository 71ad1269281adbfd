-- How a sync brings what it keeps up to what reads give, range by range.
use Rattle.std.specs.Prelude.{◌<◌, ◌≡◌, ◌⊎◌, ℕ, ◌+◌, ◌≤◌, ◌-◌, min, List, [], ◌∷◌, length, take, drop}
use Rattle.std.proofs.Common.{get_or, ◌∙◌, arith, inl, inr, ⊎_elim, length-take, length-drop, rules}
use Rattle.std.proofs.lemmas.List.{places, ext_get_or}
use Rattle.dali_disk.specs.declared.disk.Span.{Span}
use Rattle.dali_disk.specs.State.{written, Agree}
use Rattle.dali_disk.specs.Sound.{length-written, untouched}

get-copied : (at n : ℕ) (from file : List ℕ) (i : ℕ)
    → at ≤ i → i < at + n → at + n ≤ length from → at + n ≤ length file
    → get_or (written at (take n (drop at from)) file) i 0 ≡ get_or from i 0
get-copied at n from file i le lt few fewer = search (rules, places)

length-copied : (at n : ℕ) (from : List ℕ) → at + n ≤ length from → length (take n (drop at from)) ≡ n
length-copied at n from le = omega (arith, length-take n (drop at from), length-drop at from)

-- one range more agrees
pub agree_step : (old end : ℕ) (span : Span) (rest : List Span) (xs ys : List ℕ)
    → end ≡ min (span.at + span.count) old → span.at < end → old ≤ length xs → length xs ≡ length ys
    → Agree old (span ∷ rest) xs ys
    → Agree old rest (written span.at (take (end - span.at) (drop span.at ys)) xs) ys
agree_step old end span rest xs ys is lt le size agree i inside out = by_place (either_place i)
  where
    n : ℕ
    n = end - span.at

    copy : List ℕ
    copy = take n (drop span.at ys)

    new : List ℕ
    new = written span.at copy xs

    copied : length copy ≡ n
    copied = length-copied span.at n ys (omega (arith, is, lt, le, size))

    same_size : length new ≡ length xs
    same_size = omega (arith, length-written span.at copy xs (omega (arith, is, lt, le)), copied, is, lt, le)

    either_place : (i : ℕ) → ((span.at ≤ i) × (i < end)) ⊎ ((span.at ≤ i) × (i < end) → ⊥)
    either_place i = grind arith

    by_place : ((span.at ≤ i) × (i < end)) ⊎ ((span.at ≤ i) × (i < end) → ⊥) → get_or new i 0 ≡ get_or ys i 0
    by_place (inl within) =
        get-copied span.at n ys xs i within.0 (omega (arith, within.1)) (omega (arith, is, lt, le, size)) (omega (arith, is, lt, le))
    by_place (inr apart) =
        untouched span.at copy xs i here (λ range. apart (range.0, omega (arith, range.1, copied, lt)))
        ∙ agree i here (λ old_one is_in. ⊎_elim (λ there. apart (there.0, omega (arith, there.1, is, old_one))) (out old_one) is_in)
      where
        here : i < length xs
        here = omega (arith, inside, same_size)

-- where all ranges are done, the lists are the same
pub agree_all : (old : ℕ) (xs ys : List ℕ) → length xs ≡ length ys → Agree old [] xs ys → xs ≡ ys
agree_all old xs ys size agree = ext_get_or 0 xs ys size (λ i lt. agree i lt (λ old_one none. none))
