-- The first line of a text.
use Rattle.std.proofs.Common.{◌≡◌, ℕ, ◌+◌, ◌<◌, ◌≤◌, Bool, true, false, cond, List, [], ◌∷◌, length, take, drop, Some, None, refl, sym, ◌∙◌, ap, arith}
use Rattle.std.specs.Prelude.{nat_lt, position}
use Rattle.std.specs.List.{slice_split, position_or_len}
use Rattle.std.proofs.lemmas.List.Splits.{slice_split_first, slice_split_none}
use Rattle.std.proofs.lemmas.List.Sums.{fails_before_first}
use Rattle.std.proofs.lemmas.Bool.{ltb-true, ltb-false}

pub cut_at : (p : ℕ → Bool) (xs : List ℕ) (k : ℕ) → position p xs ≡ Some k → slice_split p xs ≡ take k xs ∷ slice_split p (drop (k + 1) xs)
cut_at p xs k e = by_test (nat_lt (position_or_len p xs) (length xs)) refl
  where
    by_test : (b : Bool) → nat_lt (position_or_len p xs) (length xs) ≡ b → slice_split p xs ≡ take k xs ∷ slice_split p (drop (k + 1) xs)
    by_test true t =
        let here : Some (position_or_len p xs) ≡ Some k = sym (ap (λ b. cond b (Some (position_or_len p xs)) None) t) ∙ e in
        let at : position_or_len p xs ≡ k = cc in
        let inside : position_or_len p xs < length xs = ltb-true (position_or_len p xs) (length xs) t in
        slice_split_first p xs 0 inside ∙ ap (λ n. take n xs ∷ slice_split p (drop (n + 1) xs)) at
    by_test false t =
        let nowhere : None ≡ Some k = sym (ap (λ b. cond b (Some (position_or_len p xs)) None) t) ∙ e in
        absurd (cc)

pub cut_nowhere : (p : ℕ → Bool) (xs : List ℕ) → position p xs ≡ None → slice_split p xs ≡ xs ∷ []
cut_nowhere p xs e = by_test (nat_lt (position_or_len p xs) (length xs)) refl
  where
    by_test : (b : Bool) → nat_lt (position_or_len p xs) (length xs) ≡ b → slice_split p xs ≡ xs ∷ []
    by_test true t =
        let somewhere : Some (position_or_len p xs) ≡ None = sym (ap (λ b. cond b (Some (position_or_len p xs)) None) t) ∙ e in
        absurd (cc)
    by_test false t =
        let past : length xs ≤ position_or_len p xs = ltb-false (position_or_len p xs) (length xs) t in
        slice_split_none p xs (λ k d inside. fails_before_first p xs k d (omega (arith, past, inside)))
