-- Who signs a line of a client and a region.
use Rattle.std.proofs.Common.{◌≡◌, ℕ, ◌<◌, Bool, true, false, [], ◌∷◌, refl, ap, sym, ◌∙◌, arith}
use Rattle.std.specs.Prelude.{◌==◌, ◌||◌}
use Rattle.std.proofs.lemmas.Bool.{eqb-true}
use Rattle.dali_lists.proofs.Numbers.{eqb-self}
use Rattle.dali_notes.specs.History.{signs}
use Rattle.dali_concurrent.specs.Entries.{system_note, region_note, client_note}

pub signs_pair : (k r : ℕ) → signs (region_note r) (k ∷ region_note r ∷ []) ≡ true
signs_pair k r = ap (λ b. (k == region_note r) || (b || false)) (eqb-self (region_note r)) ∙ either (k == region_note r)
  where
    either : (b : Bool) → (b || true) ≡ true
    either true = refl
    either false = refl

-- of regions just this one
pub signs_one : (n c r q : ℕ) → q < n → signs (region_note q) (client_note n c ∷ region_note r ∷ []) ≡ true → r ≡ q
signs_one n c r q low h = by_test (client_note n c == region_note q) refl h
  where
    of_region : (b : Bool) → (region_note r == region_note q) ≡ b → (b || false) ≡ true → r ≡ q
    of_region true e f = let same : region_note r ≡ region_note q = eqb-true (region_note r) (region_note q) e in omega (arith, same)
    of_region false e f = absurd (cc)

    by_test : (b : Bool) → (client_note n c == region_note q) ≡ b → (b || ((region_note r == region_note q) || false)) ≡ true → r ≡ q
    by_test true e f = let same : client_note n c ≡ region_note q = eqb-true (client_note n c) (region_note q) e in absurd (omega (arith, same, low))
    by_test false e f = of_region (region_note r == region_note q) refl f

-- ---- a client, the system and a region
pub signs_three : (k r : ℕ) → signs (region_note r) (k ∷ system_note ∷ region_note r ∷ []) ≡ true
signs_three k r = ap (λ b. (k == region_note r) || ((system_note == region_note r) || (b || false))) (eqb-self (region_note r)) ∙ either (k == region_note r) (system_note == region_note r)
  where
    either : (a b : Bool) → (a || (b || true)) ≡ true
    either true b = refl
    either false true = refl
    either false false = refl

pub signs_system : (k r : ℕ) → signs system_note (k ∷ system_note ∷ region_note r ∷ []) ≡ true
signs_system k r = ap (λ b. (k == system_note) || (b || ((region_note r == system_note) || false))) (eqb-self system_note) ∙ either (k == system_note)
  where
    either : (a : Bool) → (a || true) ≡ true
    either true = refl
    either false = refl

pub signs_one_of_three : (n c r q : ℕ) → q < n → signs (region_note q) (client_note n c ∷ system_note ∷ region_note r ∷ []) ≡ true → r ≡ q
signs_one_of_three n c r q low h = signs_one n c r q low (by_test (system_note == region_note q) refl)
  where
    by_test : (b : Bool) → (system_note == region_note q) ≡ b → signs (region_note q) (client_note n c ∷ region_note r ∷ []) ≡ true
    by_test true e = let same : system_note ≡ region_note q = eqb-true system_note (region_note q) e in absurd (omega (arith, same))
    by_test false e = sym (ap (λ b. (client_note n c == region_note q) || (b || ((region_note r == region_note q) || false))) e) ∙ h
