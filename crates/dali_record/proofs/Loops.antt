-- Reading numbers one after the other, as a loop does.
use Rattle.std.proofs.Common.{length-append, drop, get_or, ◌≢◌, ◌%◌, ◌/◌, ◌^◌, ◌≡◌, ℕ, zero, suc, Bool, true, false, cond, ltb, ◌&&◌, length, ◌-◌, ◌+◌, ◌≤◌, ◌<◌, List, [], ◌∷◌, ◌++◌, Option, Some, None, refl, sym, ap, ◌∙◌, append_assoc, arith}
use Rattle.std.proofs.lemmas.List.{append-nil}
use Rattle.std.proofs.lemmas.Bool.Decides.{nat_tests, Decides-eqb}
use Rattle.std.proofs.lemmas.List.{drop_more}
use Rattle.std.specs.Prelude.{bit_and}
use Rattle.std.specs.Int.Count.{count_trailing_zeros}
use Rattle.dali_words.specs.Words.{under}
use Rattle.dali_words.proofs.Lowest.{under-lowest, under_few}
use Rattle.dali_record.specs.Spelling.{ascends}
use Rattle.dali_record.proofs.Readers.{bind_some, only_some, some_is}
use Rattle.dali_record.specs.Reading.{At, ◌>>=◌, only, many, tested, is_above, numbers_at, regions_at, counted32_at, counted64_at}
use Rattle.dali_bytes.specs.Reading.{number32_at, number64_at}

-- what was read before, and what is still read
abbrev pub with_front : List ℕ → Option (List ℕ × List ℕ) → Option (List ℕ × List ℕ)
with_front front read = read >>= λ x. Some (front ++ x.0, x.1)

regroup : (front : List ℕ) (n : ℕ) (read : Option (List ℕ × List ℕ)) → with_front front (read >>= λ x. Some (n ∷ x.0, x.1)) ≡ with_front (front ++ n ∷ []) read
regroup front n (Some x) = ap (λ (ns : List ℕ). Some (ns, x.1)) (simp append_assoc)
regroup front n None = refl

pub goes_on : (n_at : At ℕ) (front : List ℕ) (count i : ℕ) (bytes : List ℕ) (n : ℕ) (after : List ℕ) (total : Option (List ℕ × List ℕ)) → i < count → n_at bytes ≡ Some (n, after)
    → with_front front (many (count - i) n_at bytes) ≡ total → with_front (front ++ n ∷ []) (many (count - (i + 1)) n_at after) ≡ total
goes_on n_at front count i bytes n after total lt h so_far =
    let k : count - i ≡ suc (count - (i + 1)) = omega arith in
    let one : with_front front (many (count - i) n_at bytes) ≡ with_front (front ++ n ∷ []) (many (count - (i + 1)) n_at after) = rw (k, h) (regroup front n (many (count - (i + 1)) n_at after)) in
    sym one ∙ so_far

pub ends : (n_at : At ℕ) (front : List ℕ) (count i : ℕ) (bytes : List ℕ) (total : Option (List ℕ × List ℕ)) → i < count → n_at bytes ≡ None
    → with_front front (many (count - i) n_at bytes) ≡ total → total ≡ None
ends n_at front count i bytes total lt h so_far =
    let k : count - i ≡ suc (count - (i + 1)) = omega arith in
    let one : with_front front (many (count - i) n_at bytes) ≡ None = rw (k, h) refl in
    sym so_far ∙ one

pub is_done : (n_at : At ℕ) (front : List ℕ) (count i : ℕ) (bytes : List ℕ) (total : Option (List ℕ × List ℕ)) → count ≤ i → with_front front (many (count - i) n_at bytes) ≡ total → total ≡ Some (front, bytes)
is_done n_at front count i bytes total le so_far =
    let k : count - i ≡ 0 = omega arith in
    let one : with_front front (many (count - i) n_at bytes) ≡ Some (front, bytes) = rw k (ap (λ (ns : List ℕ). Some (ns, bytes)) (append-nil front)) in
    sym so_far ∙ one

-- ---- passing over a list of ascending numbers
-- so many more numbers, each above the one before: what is left behind them
abbrev pub passed : At ℕ → Option ℕ → ℕ → List ℕ → Option (List ℕ)
passed n_at last zero bytes = Some bytes
passed n_at last (suc k) bytes = n_at bytes >>= λ n. let later = passed n_at (Some n.0) k n.1 in cond (is_above last n.0) later None

abbrev pub ascends_from : Option ℕ → List ℕ → Bool
ascends_from None ns = ascends ns
ascends_from (Some m) ns = ascends (m ∷ ns)

abbrev pub rest_in : Option (List ℕ × List ℕ) → Option (List ℕ)
rest_in None = None
rest_in (Some x) = Some x.1

one_more : (last : Option ℕ) (n : ℕ) (ns rest : List ℕ) → rest_in (only (ascends_from last (n ∷ ns)) (n ∷ ns, rest)) ≡ cond (is_above last n) (rest_in (only (ascends (n ∷ ns)) (ns, rest))) None
one_more None n ns rest = elim (ascends (n ∷ ns)) as (λ b. rest_in (only b (n ∷ ns, rest)) ≡ rest_in (only b (ns, rest))) [ true ↦ refl | false ↦ refl ]
one_more (Some m) n ns rest =
    elim (ltb m n) as (λ a. rest_in (only (a && ascends (n ∷ ns)) (n ∷ ns, rest)) ≡ cond a (rest_in (only (ascends (n ∷ ns)) (ns, rest))) None) [
      | true ↦ elim (ascends (n ∷ ns)) as (λ b. rest_in (only b (n ∷ ns, rest)) ≡ rest_in (only b (ns, rest))) [ true ↦ refl | false ↦ refl ]
      | false ↦ refl
    ]

step_more : (last : Option ℕ) (n : ℕ) (read : Option (List ℕ × List ℕ))
    → cond (is_above last n) (rest_in (read >>= λ x. only (ascends (n ∷ x.0)) x)) None ≡ rest_in ((read >>= λ ns. Some (n ∷ ns.0, ns.1)) >>= λ x. only (ascends_from last x.0) x)
step_more last n None = elim (is_above last n) as (λ b. ◌≡◌ {A = Option (List ℕ)} (cond b None None) None) [ true ↦ refl | false ↦ refl ]
step_more last n (Some x) = sym (one_more last n x.0 x.1)

step_on : (n_at : At ℕ) (last : Option ℕ) (k : ℕ) (read : Option (ℕ × List ℕ)) → ((n : ℕ) (more : List ℕ) → passed n_at (Some n) k more ≡ rest_in (tested (ascends_from (Some n)) (many k n_at) more))
    → (read >>= λ n. cond (is_above last n.0) (passed n_at (Some n.0) k n.1) None) ≡ rest_in ((read >>= λ n. many k n_at n.1 >>= λ ns. Some (n.0 ∷ ns.0, ns.1)) >>= λ x. only (ascends_from last x.0) x)
step_on n_at last k None h = refl
step_on n_at last k (Some n) h = rw (h n.0 n.1) (step_more last n.0 (many k n_at n.1))

pub passed_is : (n_at : At ℕ) (last : Option ℕ) (k : ℕ) (bytes : List ℕ) → passed n_at last k bytes ≡ rest_in (tested (ascends_from last) (many k n_at) bytes)
passed_is n_at None zero bytes = refl
passed_is n_at (Some m) zero bytes = refl
passed_is n_at last (suc k) bytes = step_on n_at last k (n_at bytes) (λ n more. passed_is n_at (Some n) k more)

many-length : (n_at : At ℕ) (k : ℕ) (bytes ns rest : List ℕ) → many k n_at bytes ≡ Some (ns, rest) → length ns ≡ k
many-length n_at zero bytes ns rest e = let h = some_is ([], bytes) (ns, rest) e in ap (λ (x : List ℕ × List ℕ). length x.0) (sym h)
many-length n_at (suc k) bytes ns rest e =
    let a = bind_some (n_at bytes) (λ n. many k n_at n.1 >>= λ ms. Some (n.0 ∷ ms.0, ms.1)) (ns, rest) e in
    let b = bind_some (many k n_at a.0.1) (λ ms. Some (a.0.0 ∷ ms.0, ms.1)) (ns, rest) a.2 in
    let h = some_is (a.0.0 ∷ b.0.0, b.0.1) (ns, rest) b.2 in
    let tail = many-length n_at k a.0.1 b.0.0 b.0.1 b.1 in
    ap (λ (x : List ℕ × List ℕ). length x.0) (sym h) ∙ ap suc tail

rest_some : (read : Option (List ℕ × List ℕ)) (rest : List ℕ) → rest_in read ≡ Some rest → (ns : List ℕ) × (read ≡ Some (ns, rest))
rest_some None rest e = absurd cc
rest_some (Some x) rest e = (x.0, ap (λ (l : List ℕ). Some (x.0, l)) (some_is x.1 rest e))

rest_none : (read : Option (List ℕ × List ℕ)) → rest_in read ≡ None → read ≡ None
rest_none None e = refl
rest_none (Some x) e = absurd cc

-- all of the list was passed over
pub passed_all : (n_at : At ℕ) (k : ℕ) (bytes rest : List ℕ) → passed n_at None k bytes ≡ Some rest → (ns : List ℕ) × (tested ascends (many k n_at) bytes ≡ Some (ns, rest)) × (length ns ≡ k)
passed_all n_at k bytes rest e =
    let h = rest_some (tested ascends (many k n_at) bytes) rest (sym (passed_is n_at None k bytes) ∙ e) in
    let a = bind_some (many k n_at bytes) (λ x. only (ascends x.0) x) (h.0, rest) h.1 in
    let o = only_some (ascends a.0.0) a.0 (h.0, rest) a.2 in
    (h.0, h.1, ap (λ (x : List ℕ × List ℕ). length x.0) (sym o.1) ∙ many-length n_at k bytes a.0.0 a.0.1 a.1)

pub passed_none : (n_at : At ℕ) (k : ℕ) (bytes : List ℕ) → passed n_at None k bytes ≡ None → tested ascends (many k n_at) bytes ≡ None
passed_none n_at k bytes e = rest_none (tested ascends (many k n_at) bytes) (sym (passed_is n_at None k bytes) ∙ e)

-- one more number, or the end of it
pub passes_on : (n_at : At ℕ) (last : Option ℕ) (count i : ℕ) (bytes : List ℕ) (n : ℕ) (after : List ℕ) (total : Option (List ℕ)) → i < count → n_at bytes ≡ Some (n, after) → is_above last n ≡ true
    → passed n_at last (count - i) bytes ≡ total → passed n_at (Some n) (count - (i + 1)) after ≡ total
passes_on n_at last count i bytes n after total lt h above so_far =
    let k : count - i ≡ suc (count - (i + 1)) = omega arith in
    let one : passed n_at last (count - i) bytes ≡ passed n_at (Some n) (count - (i + 1)) after = rw (k, h, above) refl in
    sym one ∙ so_far

pub passes_none : (n_at : At ℕ) (last : Option ℕ) (count i : ℕ) (bytes : List ℕ) (total : Option (List ℕ)) → i < count → n_at bytes ≡ None
    → passed n_at last (count - i) bytes ≡ total → total ≡ None
passes_none n_at last count i bytes total lt h so_far =
    let k : count - i ≡ suc (count - (i + 1)) = omega arith in
    let one : passed n_at last (count - i) bytes ≡ None = rw (k, h) refl in
    sym so_far ∙ one

pub passes_below : (n_at : At ℕ) (last : Option ℕ) (count i : ℕ) (bytes : List ℕ) (n : ℕ) (after : List ℕ) (total : Option (List ℕ)) → i < count → n_at bytes ≡ Some (n, after) → is_above last n ≡ false
    → passed n_at last (count - i) bytes ≡ total → total ≡ None
passes_below n_at last count i bytes n after total lt h above so_far =
    let k : count - i ≡ suc (count - (i + 1)) = omega arith in
    let one : passed n_at last (count - i) bytes ≡ None = rw (k, h, above) refl in
    sym so_far ∙ one

pub passes_end : (n_at : At ℕ) (last : Option ℕ) (count i : ℕ) (bytes : List ℕ) (total : Option (List ℕ)) → count ≤ i → passed n_at last (count - i) bytes ≡ total → total ≡ Some bytes
passes_end n_at last count i bytes total le so_far =
    let k : count - i ≡ 0 = omega arith in
    let one : passed n_at last (count - i) bytes ≡ Some bytes = rw k refl in
    sym so_far ∙ one

pub counted64_none : (bytes : List ℕ) (n : ℕ) (more : List ℕ) → number32_at bytes ≡ Some (n, more) → passed number64_at None n more ≡ None → counted64_at bytes ≡ None
unfolding counted64_at numbers_at
counted64_none bytes n more e h = rw e (passed_none number64_at n more h)

pub counted64_all : (bytes : List ℕ) (n : ℕ) (more rest : List ℕ) → number32_at bytes ≡ Some (n, more) → passed number64_at None n more ≡ Some rest → (ns : List ℕ) × (counted64_at bytes ≡ Some (ns, rest)) × (length ns ≡ n)
unfolding counted64_at numbers_at
counted64_all bytes n more rest e h = rw e (passed_all number64_at n more rest h)

pub counted32_none : (bytes : List ℕ) (n : ℕ) (more : List ℕ) → number32_at bytes ≡ Some (n, more) → passed number32_at None n more ≡ None → counted32_at bytes ≡ None
unfolding counted32_at regions_at
counted32_none bytes n more e h = rw e (passed_none number32_at n more h)

pub counted32_all : (bytes : List ℕ) (n : ℕ) (more rest : List ℕ) → number32_at bytes ≡ Some (n, more) → passed number32_at None n more ≡ Some rest → (ns : List ℕ) × (counted32_at bytes ≡ Some (ns, rest)) × (length ns ≡ n)
unfolding counted32_at regions_at
counted32_all bytes n more rest e h = rw e (passed_all number32_at n more rest h)

-- ---- one word more of a set
pub lowest_chosen : (m : ℕ) (old new ws all : List ℕ) → 0 < m → m < 2 ^ length ws → new ≡ old ++ get_or ws (count_trailing_zeros (length ws) m) 0 ∷ [] → old ++ under m ws ≡ all → new ++ under (bit_and m (m - 1)) ws ≡ all
lowest_chosen m old new ws all some fits is so_far =
    let rest : List ℕ = under (bit_and m (m - 1)) ws in
    ap (λ (l : List ℕ). l ++ rest) is ∙ append_assoc old (get_or ws (count_trailing_zeros (length ws) m) 0 ∷ []) rest ∙ ap (λ (l : List ℕ). old ++ l) (sym (under-lowest m ws some fits)) ∙ so_far

pub room_for_lowest : (m mask : ℕ) (old ws : List ℕ) → 0 < m → m < 2 ^ length ws → old ++ under m ws ≡ under mask ws → length old < length ws
room_for_lowest m mask old ws some fits so_far =
    omega (arith, length-append old (under m ws), ap length so_far, ap length (under-lowest m ws some fits), under_few mask ws)
