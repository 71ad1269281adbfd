-- Files have numbers of their own.
use Rattle.std.specs.Prelude.{◌≡◌, ◌≢◌, ◌⊎◌, ◌==◌, if◌then◌else◌, ℕ, zero, suc, Bool, true, false, refl}
use Rattle.std.proofs.Common.{ap, subst, sym, arith, inl, inr, ⊎_elim, List}
use Rattle.std.proofs.lemmas.Bool.Decides.{nat_tests}
use Rattle.dali_files.specs.Files.{Contents}
use Rattle.dali_files.specs.declared.key.FileKey.{FileKey}
use Rattle.dali_files.specs.declared.key.FileKey.TheVariants.{ImageA, ImageB, Anchor, Segment}
use Rattle.dali_memfiles.specs.Shelf.{number_of}

same_number : (g f : FileKey) → number_of g ≡ number_of f → g ≡ f
same_number ImageA ImageA is = refl
same_number ImageA ImageB is = absurd (omega (arith, is))
same_number ImageA Anchor is = absurd (omega (arith, is))
same_number ImageA (Segment zero) is = absurd (omega (arith, is))
same_number ImageA (Segment (suc m)) is = absurd (omega (arith, is))
same_number ImageB ImageA is = absurd (omega (arith, is))
same_number ImageB ImageB is = refl
same_number ImageB Anchor is = absurd (omega (arith, is))
same_number ImageB (Segment zero) is = absurd (omega (arith, is))
same_number ImageB (Segment (suc m)) is = absurd (omega (arith, is))
same_number Anchor ImageA is = absurd (omega (arith, is))
same_number Anchor ImageB is = absurd (omega (arith, is))
same_number Anchor Anchor is = refl
same_number Anchor (Segment zero) is = absurd (omega (arith, is))
same_number Anchor (Segment (suc m)) is = absurd (omega (arith, is))
same_number (Segment zero) ImageA is = absurd (omega (arith, is))
same_number (Segment zero) ImageB is = absurd (omega (arith, is))
same_number (Segment zero) Anchor is = absurd (omega (arith, is))
same_number (Segment zero) (Segment zero) is = refl
same_number (Segment zero) (Segment (suc m)) is = absurd (omega (arith, is))
same_number (Segment (suc n)) ImageA is = absurd (omega (arith, is))
same_number (Segment (suc n)) ImageB is = absurd (omega (arith, is))
same_number (Segment (suc n)) Anchor is = absurd (omega (arith, is))
same_number (Segment (suc n)) (Segment zero) is = absurd (omega (arith, is))
same_number (Segment (suc n)) (Segment (suc m)) is =
    let same : n ≡ m = omega (arith, is) in
    ap (λ (k : ℕ). Segment (suc k)) same

-- two files are the same, or their numbers differ
pub by_number : (g f : FileKey) → (g ≡ f) ⊎ ((number_of g == number_of f) ≡ false)
by_number g f = by_test (number_of g == number_of f) refl
  where
    by_test : (b : Bool) → (number_of g == number_of f) ≡ b → (g ≡ f) ⊎ ((number_of g == number_of f) ≡ false)
    by_test true is =
        let same : number_of g ≡ number_of f = grind (arith, nat_tests) in
        inl (same_number g f same)
    by_test false is = inr is

pub equal_numbers : (n : ℕ) → (n == n) ≡ true
equal_numbers n = grind (arith, nat_tests)

-- one file among them
abbrev pub with_bytes : FileKey → List ℕ → Contents → Contents
with_bytes f bytes c g = if number_of g == number_of f then bytes else c g

pub bytes_with : (f : FileKey) (bytes : List ℕ) (c : Contents) → with_bytes f bytes c f ≡ bytes
bytes_with f bytes c = ap (λ (b : Bool). if b then bytes else c f) (equal_numbers (number_of f))

pub bytes_other : (g f : FileKey) (bytes : List ℕ) (c : Contents) → g ≢ f → with_bytes f bytes c g ≡ c g
bytes_other g f bytes c other = ⊎_elim (λ same. absurd (other same)) (λ differ. ap (λ (b : Bool). if b then bytes else c g) differ) (by_number g f)

-- what is so of the changed file and of the others is so of each
pub each_bytes : (P : FileKey → List ℕ → Type 0) (f : FileKey) (bytes : List ℕ) (c : Contents) → P f bytes → ((g : FileKey) → g ≢ f → P g (c g)) → (g : FileKey) → P g (with_bytes f bytes c g)
each_bytes P f bytes c here there g = by_test (number_of g == number_of f) refl
  where
    by_test : (b : Bool) → (number_of g == number_of f) ≡ b → P g (if b then bytes else c g)
    by_test true is =
        let number : number_of g ≡ number_of f = grind (arith, nat_tests) in
        subst (λ (h : FileKey). P h bytes) (sym (same_number g f number)) here
    by_test false is = there g (λ same. differs (ap number_of same))
      where
        differs : number_of g ≡ number_of f → ⊥
        differs number = grind (arith, nat_tests)
