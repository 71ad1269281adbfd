-- The numbers of the damaged regions: one finding more at a time; they ascend, and are those whose finding says so.
use Rattle.std.proofs.Common.{◌≡◌, ◌==◌, refl, ℕ, zero, suc, ◌+◌, ◌<◌, ◌≤◌, ◌^◌, Bool, true, false, nat_lt, ◌&&◌, ◌||◌, List, [], ◌∷◌, ◌++◌, Some, length, take, ap, sym, arith}
use Rattle.std.specs.Prelude.{slice_get}
use Rattle.std.proofs.lemmas.Bool.{eq-eqb, lt-ltb, ne_eqb}
use Rattle.std.specs.List.{list_all, AllByRecursion}
use Rattle.dali_lists.proofs.Options.{some_same}
use Rattle.dali_record.specs.Damage.{has}
use Rattle.dali_record.specs.Spelling.{ascends, CanBeSpelled}
use Rattle.dali_runs.specs.Steps.{audit_record}
use Rattle.dali_audit.specs.declared.audit.Finding.{Finding}
use Rattle.dali_audit.specs.declared.audit.Finding.TheVariants.{Waiting, Clean, Damaged}
use Rattle.dali_audit.specs.Findings.{damaged, damaged_from, is_damaged}

-- one finding more
pub from_more : (n k : ℕ) (f : Finding) (fs : List Finding) → slice_get fs k ≡ Some f → damaged_from n (take (suc k) fs) ≡ damaged_from n (take k fs) ++ damaged_from (n + k) (f ∷ [])
from_more n k f [] e = cc
from_more n zero f (g ∷ fs) e = let z : n + 0 ≡ n = omega arith in rw (some_same e, z) refl
from_more n (suc k) f (g ∷ fs) e = let z : n + suc k ≡ suc n + k = omega arith in rw z (later g (from_more (suc n) k f fs e))
  where
    later : (h : Finding) → damaged_from (suc n) (take (suc k) fs) ≡ damaged_from (suc n) (take k fs) ++ damaged_from (suc n + k) (f ∷ [])
        → damaged_from n (h ∷ take (suc k) fs) ≡ damaged_from n (h ∷ take k fs) ++ damaged_from (suc n + k) (f ∷ [])
    later Damaged rest = ap (λ xs. n ∷ xs) rest
    later Clean rest = rest
    later Waiting rest = rest

-- behind a smaller number they ascend
ascends_after : (m n : ℕ) (fs : List Finding) → m < n → ascends (m ∷ damaged_from n fs) ≡ true
ascends_after m n [] lt = refl
ascends_after m n (Damaged ∷ fs) lt = both (nat_lt m n) (ascends (n ∷ damaged_from (suc n) fs)) (lt-ltb m n lt) (ascends_after n (suc n) fs (omega arith))
  where
    both : (a b : Bool) → a ≡ true → b ≡ true → (a && b) ≡ true
    both true true d e = refl
    both true false d e = cc
    both false b d e = cc
ascends_after m n (Clean ∷ fs) lt = ascends_after m (suc n) fs (omega (arith, lt))
ascends_after m n (Waiting ∷ fs) lt = ascends_after m (suc n) fs (omega (arith, lt))

damaged_ascend : (n : ℕ) (fs : List Finding) → ascends (damaged_from n fs) ≡ true
damaged_ascend n [] = refl
damaged_ascend n (Damaged ∷ fs) = ascends_after n (suc n) fs (omega arith)
damaged_ascend n (Clean ∷ fs) = damaged_ascend (suc n) fs
damaged_ascend n (Waiting ∷ fs) = damaged_ascend (suc n) fs

-- they are numbers of findings
all_below : (k n : ℕ) (fs : List Finding) → n + length fs ≤ k → AllByRecursion (λ r. r < k) (damaged_from n fs)
all_below k n [] le = tt
all_below k n (Damaged ∷ fs) le = (omega (arith, le), all_below k (suc n) fs (omega (arith, le)))
all_below k n (Clean ∷ fs) le = all_below k (suc n) fs (omega (arith, le))
all_below k n (Waiting ∷ fs) le = all_below k (suc n) fs (omega (arith, le))

tested_below : (k : ℕ) (xs : List ℕ) → AllByRecursion (λ r. r < k) xs → list_all (λ r. nat_lt r k) xs ≡ true
tested_below k [] all = refl
tested_below k (x ∷ xs) all = both (nat_lt x k) (list_all (λ r. nat_lt r k) xs) (lt-ltb x k all.0) (tested_below k xs all.1)
  where
    both : (a b : Bool) → a ≡ true → b ≡ true → (a && b) ≡ true
    both true true d e = refl
    both true false d e = cc
    both false b d e = cc

pub numbers_below : (k : ℕ) (fs : List Finding) → length fs ≤ k → list_all (λ r. nat_lt r k) (damaged fs) ≡ true
numbers_below k fs le = tested_below k (damaged fs) (all_below k 0 fs (omega (arith, le)))

no_more : (n : ℕ) (fs : List Finding) → length (damaged_from n fs) ≤ length fs
no_more n [] = omega arith
no_more n (Damaged ∷ fs) = let h = no_more (suc n) fs in omega (arith, h)
no_more n (Clean ∷ fs) = let h = no_more (suc n) fs in omega (arith, h)
no_more n (Waiting ∷ fs) = let h = no_more (suc n) fs in omega (arith, h)

-- so the end of an audit has a spelling
pub end_is_spelled : (b : ℕ) (fs : List Finding) → b < 2 ^ 64 → length fs < 2 ^ 32 → CanBeSpelled (audit_record b (damaged fs))
end_is_spelled b fs number few = by_list (damaged fs) (damaged_ascend 0 fs) (all_below (2 ^ 32) 0 fs (omega (arith, few))) (let h = no_more 0 fs in omega (arith, h, few))
  where
    by_list : (xs : List ℕ) → ascends xs ≡ true → AllByRecursion (λ r. r < 2 ^ 32) xs → length xs < 2 ^ 32 → CanBeSpelled (audit_record b xs)
    by_list [] up all short = number
    by_list (x ∷ xs) up all short = (number, (short, all, up), omega arith)

-- a number below them all isn't among them
not_before : (m n : ℕ) (fs : List Finding) → m < n → has (damaged_from n fs) m ≡ false
not_before m n [] lt = refl
not_before m n (Damaged ∷ fs) lt = neither (n == m) (has (damaged_from (suc n) fs) m) (ne_eqb n m (omega (arith, lt))) (not_before m (suc n) fs (omega (arith, lt)))
  where
    neither : (a b : Bool) → a ≡ false → b ≡ false → (a || b) ≡ false
    neither false false d e = refl
    neither false true d e = cc
    neither true b d e = cc
not_before m n (Clean ∷ fs) lt = not_before m (suc n) fs (omega (arith, lt))
not_before m n (Waiting ∷ fs) lt = not_before m (suc n) fs (omega (arith, lt))

-- and one of theirs is where its finding says so
pub has_number : (n r : ℕ) (f : Finding) (fs : List Finding) → slice_get fs r ≡ Some f → has (damaged_from n fs) (n + r) ≡ is_damaged f
has_number n r f [] e = cc
has_number n zero f (g ∷ fs) e = rw (some_same (sym e)) (first g)
  where
    first : (h : Finding) → has (damaged_from n (h ∷ fs)) (n + 0) ≡ is_damaged h
    first Damaged = let same : (n == n + 0) ≡ true = eq-eqb n (n + 0) (omega arith) in rw same refl
    first Clean = not_before (n + 0) (suc n) fs (omega arith)
    first Waiting = not_before (n + 0) (suc n) fs (omega arith)
has_number n (suc r) f (g ∷ fs) e = let k : n + suc r ≡ suc n + r = omega arith in rw k (later g (has_number (suc n) r f fs e))
  where
    later : (h : Finding) → has (damaged_from (suc n) fs) (suc n + r) ≡ is_damaged f → has (damaged_from n (h ∷ fs)) (suc n + r) ≡ is_damaged f
    later Damaged rest = let other : (n == suc n + r) ≡ false = ne_eqb n (suc n + r) (omega arith) in rw other rest
    later Clean rest = rest
    later Waiting rest = rest
