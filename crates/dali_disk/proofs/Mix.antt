-- What stood before a write that a crash cut short.
use Rattle.std.specs.Prelude.{◌<◌, ◌≡◌, ◌⊎◌, ℕ, zero, suc, ◌+◌, ◌≤◌, min, max, List, [], ◌∷◌, length, take, drop, refl}
use Rattle.std.proofs.Common.{get_or, ap, subst, arith, inl, inr, ⊎_elim}
use Rattle.std.proofs.lemmas.List.{drop_all}
use Rattle.dali_store.specs.Store.{Torn}

-- the bytes of c, but those of the file in n places from at, as far as both go
abbrev pub mix : ℕ → ℕ → List ℕ → List ℕ → List ℕ
mix zero zero file c = c
mix zero (suc n) (x ∷ file) (y ∷ c) = x ∷ mix zero n file c
mix zero (suc n) [] c = []
mix zero (suc n) (x ∷ file) [] = []
mix (suc at) n (x ∷ file) (y ∷ c) = y ∷ mix at n file c
mix (suc at) n [] c = []
mix (suc at) n (x ∷ file) [] = []

pub length-mix : (at n : ℕ) (file c : List ℕ)
    → at ≤ length file → length c ≤ max (length file) (at + n) → length (mix at n file c) ≡ min (length file) (length c)
length-mix zero zero file c le few = omega arith
length-mix zero (suc n) [] c le few = omega arith
length-mix zero (suc n) (x ∷ file) [] le few = omega arith
length-mix zero (suc n) (x ∷ file) (y ∷ c) le few =
    let rest = length-mix zero n file c (omega arith) (omega arith) in omega (arith, rest)
length-mix (suc at) n [] c le few = absurd (omega arith)
length-mix (suc at) n (x ∷ file) [] le few = omega arith
length-mix (suc at) n (x ∷ file) (y ∷ c) le few =
    let rest = length-mix at n file c (omega arith) (omega arith) in omega (arith, rest)

take-mix : (at n : ℕ) (file c : List ℕ) → at ≤ length file → take at c ≡ take at (mix at n file c)
take-mix zero n file c le = refl
take-mix (suc at) n [] c le = absurd (omega arith)
take-mix (suc at) n (x ∷ file) [] le = refl
take-mix (suc at) n (x ∷ file) (y ∷ c) le = ap (λ (l : List ℕ). y ∷ l) (take-mix at n file c (omega arith))

drop-mix-zero : (n : ℕ) (file c : List ℕ) → length c ≤ max (length file) n → drop n c ≡ drop n (mix zero n file c)
drop-mix-zero zero file c few = refl
drop-mix-zero (suc n) [] c few = drop_all (suc n) c (omega arith)
drop-mix-zero (suc n) (x ∷ file) [] few = refl
drop-mix-zero (suc n) (x ∷ file) (y ∷ c) few = drop-mix-zero n file c (omega arith)

drop-mix : (at n k : ℕ) (file c : List ℕ)
    → k ≡ at + n → at ≤ length file → length c ≤ max (length file) (at + n) → drop k c ≡ drop k (mix at n file c)
drop-mix zero n k file c is le few =
    let same : n ≡ k = omega arith in
    subst (λ (j : ℕ). drop j c ≡ drop j (mix zero n file c)) same (drop-mix-zero n file c (omega arith))
drop-mix (suc at) n k [] c is le few = absurd (omega arith)
drop-mix (suc at) n zero (x ∷ file) c is le few = absurd (omega arith)
drop-mix (suc at) n (suc k) (x ∷ file) [] is le few = refl
drop-mix (suc at) n (suc k) (x ∷ file) (y ∷ c) is le few = drop-mix at n k file c (omega arith) (omega arith) (omega arith)

-- a place in the range has the file's byte, and another one that of c
pub get-mix : (at n : ℕ) (file c : List ℕ) (i : ℕ)
    → i < length (mix at n file c)
    → ((at ≤ i) × (i < at + n) × (get_or (mix at n file c) i 0 ≡ get_or file i 0))
    ⊎ (((i < at) ⊎ (at + n ≤ i)) × (get_or (mix at n file c) i 0 ≡ get_or c i 0))
get-mix zero zero file c i lt = inr (inr (omega arith), refl)
get-mix zero (suc n) [] c i lt = absurd (omega arith)
get-mix zero (suc n) (x ∷ file) [] i lt = absurd (omega arith)
get-mix zero (suc n) (x ∷ file) (y ∷ c) zero lt = inl (omega arith, omega arith, refl)
get-mix zero (suc n) (x ∷ file) (y ∷ c) (suc i) lt =
    ⊎_elim (λ here. inl (omega arith, omega (arith, here.1), here.2))
    (λ there. inr (⊎_elim (λ before. absurd (omega (arith, before))) (λ behind. inr (omega (arith, behind))) there.0, there.1))
    (get-mix zero n file c i (omega arith))
get-mix (suc at) n [] c i lt = absurd (omega arith)
get-mix (suc at) n (x ∷ file) [] i lt = absurd (omega arith)
get-mix (suc at) n (x ∷ file) (y ∷ c) zero lt = inr (inl (omega arith), refl)
get-mix (suc at) n (x ∷ file) (y ∷ c) (suc i) lt =
    ⊎_elim (λ here. inl (omega (arith, here.0), omega (arith, here.1), here.2))
    (λ there. inr (⊎_elim (λ before. inl (omega (arith, before))) (λ behind. inr (omega (arith, behind))) there.0, there.1))
    (get-mix at n file c i (omega arith))

-- a write over what the mix has may leave c
pub torn-mix : (at n : ℕ) (file c : List ℕ)
    → at ≤ length file → length c ≤ max (length file) (at + n) → Torn at n (mix at n file c) c
torn-mix at n file c le few = record {
  before = take-mix at n file c le;
  after = drop-mix at n (at + n) file c refl le few;
  no_shorter = omega (arith, length-mix at n file c le few);
  no_longer = omega (arith, length-mix at n file c le few);
}
