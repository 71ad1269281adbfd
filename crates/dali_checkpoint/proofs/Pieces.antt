-- Runs of regions: where one ends, how many there are, and regions that are changed from one place to another.
use Rattle.std.proofs.Common.{◌≡◌, ℕ, zero, suc, ◌+◌, ◌-◌, ◌≤◌, ◌<◌, Bool, true, false, cond, List, [], ◌∷◌, ◌++◌, length, map, take, drop, Some, refl, ap, sym, subst, ◌∙◌, arith, inl, inr, ◌⊎◌, ⊎_elim}
use Rattle.std.specs.Prelude.{min, not, flat_map, if◌then◌else◌, slice_get, slice_set, slice_index_or}
use Rattle.std.specs.List.{prefix_len}
use Rattle.std.proofs.lemmas.List.{drop_more, length-drop, take_more, get_or-drop, append-nil}
use Rattle.std.proofs.lemmas.List.Concat.{flat_map-append, flat_map-cons}
use Rattle.dali_record.specs.Spelling.{words_bytes}
use Rattle.std.proofs.lemmas.List.Sums.{prefix_len-drop_yes, prefix_len-drop_no, prefix_len-le-length}
use Rattle.dali_lists.proofs.Lists.{get_drop}
use Rattle.dali_lists.proofs.Options.{some_same}
use Rattle.dali_region.specs.declared.Side.{Side}
use Rattle.dali_region.specs.declared.Side.TheVariants.{A as SideA, B as SideB}
use Rattle.dali_region.specs.State.{RegionState}
use Rattle.dali_region.specs.Answers.{is_dirty, cleaned}
use Rattle.dali_checkpoint.specs.Runs.{has_flag, is_first_dirty, run_of, AreNext, change, runs_from, runs_in, bytes_between}
use Rattle.dali_checkpoint.proofs.Walks.{get_here}

-- ---- elements that are changed
pub change_none : {A : Type 0} (f : A → A) (i : ℕ) (xs : List A) → change f i 0 xs ≡ xs
change_none f i [] = refl
change_none f zero (x ∷ xs) = refl
change_none f (suc i) (x ∷ xs) = ap (λ l. x ∷ l) (change_none f i xs)

pub change_set : {A : Type 0} (f : A → A) (i n : ℕ) (xs : List A) (x : A) → slice_get xs (i + n) ≡ Some x → slice_set (change f i n xs) (i + n) (f x) ≡ change f i (suc n) xs
change_set f i n [] x e = absurd (cc)
change_set f zero zero (y ∷ ys) x e = ap (λ z. f z ∷ ys) (sym (some_same e)) ∙ ap (λ l. f y ∷ l) (sym (change_none f 0 ys))
change_set f zero (suc n) (y ∷ ys) x e =
    let at : 0 + suc n ≡ suc (0 + n) = omega arith in
    ap (λ k. slice_set (f y ∷ change f zero n ys) k (f x)) at
    ∙ ap (λ l. f y ∷ l) (change_set f zero n ys x (ap (slice_get (y ∷ ys)) (sym at) ∙ e))
change_set f (suc i) n (y ∷ ys) x e =
    let at : suc i + n ≡ suc (i + n) = omega arith in
    ap (λ k. slice_set (y ∷ change f i n ys) k (f x)) at
    ∙ ap (λ l. y ∷ l) (change_set f i n ys x (ap (slice_get (y ∷ ys)) (sym at) ∙ e))

pub change_length : {A : Type 0} (f : A → A) (i n : ℕ) (xs : List A) → length (change f i n xs) ≡ length xs
change_length f i n [] = refl
change_length f zero zero (x ∷ xs) = refl
change_length f zero (suc n) (x ∷ xs) = ap suc (change_length f zero n xs)
change_length f (suc i) n (x ∷ xs) = ap suc (change_length f i n xs)

-- the elements that aren't reached yet
pub change_get : {A : Type 0} (f : A → A) (i n r : ℕ) (xs : List A) → i + n ≤ r → slice_get (change f i n xs) r ≡ slice_get xs r
change_get f i n r [] le = refl
change_get f zero zero r (x ∷ xs) le = refl
change_get f zero (suc n) zero (x ∷ xs) le = absurd (omega (arith, le))
change_get f zero (suc n) (suc r) (x ∷ xs) le = change_get f zero n r xs (omega (arith, le))
change_get f (suc i) n zero (x ∷ xs) le = absurd (omega (arith, le))
change_get f (suc i) n (suc r) (x ∷ xs) le = change_get f i n r xs (omega (arith, le))

-- the first one and then the others
pub change_first : {A : Type 0} (f : A → A) (i n : ℕ) (xs : List A) (x : A) → slice_get xs i ≡ Some x → change f (suc i) n (slice_set xs i (f x)) ≡ change f i (suc n) xs
change_first f i n [] x e = absurd (cc)
change_first f zero n (y ∷ ys) x e = ap (λ z. f z ∷ change f zero n ys) (sym (some_same e))
change_first f (suc i) n (y ∷ ys) x e = ap (λ l. y ∷ l) (change_first f i n ys x e)

-- changed up to a place, and then from there on
pub change_then : {A : Type 0} (f : A → A) (i n : ℕ) (xs : List A) → change f i n (change f 0 i xs) ≡ change f 0 (i + n) xs
change_then f i n [] = refl
change_then f zero n (x ∷ xs) = ap (change f 0 n) (change_none f 0 (x ∷ xs)) ∙ ap (λ k. change f 0 k (x ∷ xs)) (let at : n ≡ 0 + n = omega arith in at)
change_then f (suc i) n (x ∷ xs) =
    ap (λ l. f x ∷ l) (change_then f i n xs)
    ∙ ap (λ k. change f 0 k (x ∷ xs)) (let at : suc (i + n) ≡ suc i + n = omega arith in at)

pub change_all : {A : Type 0} (f : A → A) (xs : List A) → change f 0 (length xs) xs ≡ map f xs
change_all f [] = refl
change_all f (x ∷ xs) = ap (λ l. f x ∷ l) (change_all f xs)

pub drop_changed : {A : Type 0} (f : A → A) (i : ℕ) (xs : List A) → drop i (change f 0 i xs) ≡ drop i xs
drop_changed f zero xs = change_none f 0 xs
drop_changed f (suc i) [] = refl
drop_changed f (suc i) (x ∷ xs) = drop_changed f i xs

pub change_map : {A C : Type 0} (f : A → A) (h : A → C) → ((x : A) → h (f x) ≡ h x) → (i n : ℕ) (xs : List A) → map h (change f i n xs) ≡ map h xs
change_map f h e i n [] = refl
change_map f h e zero zero (x ∷ xs) = refl
change_map f h e zero (suc n) (x ∷ xs) = ap (λ z. z ∷ map h (change f zero n xs)) (e x) ∙ ap (λ l. h x ∷ l) (change_map f h e zero n xs)
change_map f h e (suc i) n (x ∷ xs) = ap (λ l. h x ∷ l) (change_map f h e i n xs)

-- an element is changed, or as it was
abbrev pub IsCase : {A : Type 0} → (A → A) → ℕ → List A → ℕ → A → Type 0
IsCase {A = A} f m xs r y = (x : A) × (slice_get xs r ≡ Some x) × (((r < m) × (y ≡ f x)) ⊎ (y ≡ x))

case_on : {A : Type 0} (f : A → A) (x : A) (xs : List A) (m n r : ℕ) (y : A) → n ≡ suc m → IsCase f m xs r y → IsCase f n (x ∷ xs) (suc r) y
case_on f x xs m n r y e k = (k.0, k.1, ⊎_elim (λ p. inl (omega (arith, p.0, e), p.1)) (λ p. inr p) k.2)

pub change_cases : {A : Type 0} (f : A → A) (i n : ℕ) (xs : List A) (r : ℕ) (y : A) → slice_get (change f i n xs) r ≡ Some y → IsCase f (i + n) xs r y
change_cases f i n [] r y e = absurd (cc)
change_cases f zero zero (x ∷ xs) r y e = (y, e, inr refl)
change_cases f zero (suc n) (x ∷ xs) zero y e = (x, refl, inl (omega arith, sym (some_same e)))
change_cases f zero (suc n) (x ∷ xs) (suc r) y e = case_on f x xs (0 + n) (0 + suc n) r y (omega arith) (change_cases f zero n xs r y e)
change_cases f (suc i) n (x ∷ xs) zero y e = (x, refl, inr (sym (some_same e)))
change_cases f (suc i) n (x ∷ xs) (suc r) y e = case_on f x xs (i + n) (suc i + n) r y (omega arith) (change_cases f i n xs r y e)

-- where each is as it would be changed
pub change_same : {A : Type 0} (f : A → A) (i n : ℕ) (xs : List A) → ((k : ℕ) (x : A) → k < n → slice_get xs (i + k) ≡ Some x → f x ≡ x) → change f i n xs ≡ xs
change_same f i n [] same = refl
change_same f zero zero (x ∷ xs) same = refl
change_same f zero (suc n) (x ∷ xs) same =
    ap (λ z. z ∷ change f zero n xs) (same 0 x (omega arith) refl)
    ∙ ap (λ l. x ∷ l) (change_same f zero n xs (λ k y lt e. same (suc k) y (omega (arith, lt)) (ap (slice_get (x ∷ xs)) (let at : 0 + suc k ≡ suc (0 + k) = omega arith in at) ∙ e)))
change_same f (suc i) n (x ∷ xs) same = ap (λ l. x ∷ l) (change_same f i n xs (λ k y lt e. same k y lt (ap (slice_get (x ∷ xs)) (let at : suc i + k ≡ suc (i + k) = omega arith in at) ∙ e)))

-- ---- the runs are counted
dirty_first : (side : Side) (k : ℕ) (gs : List RegionState) → runs_from side k gs ≡ runs_from side 0 (drop (min k (prefix_len (has_flag side true) gs)) gs)
dirty_first side zero gs = ap (λ k. runs_from side 0 (drop k gs)) (let at : 0 ≡ min 0 (prefix_len (has_flag side true) gs) = omega arith in at)
dirty_first side (suc k) [] = ap (λ n. runs_from side 0 (drop n [])) (let at : 0 ≡ min (suc k) 0 = omega arith in at)
dirty_first side (suc k) (g ∷ gs) = by_flag (dirty_first side k gs) (is_dirty g side) refl
  where
    by_flag : runs_from side k gs ≡ runs_from side 0 (drop (min k (prefix_len (has_flag side true) gs)) gs) → (b : Bool) → is_dirty g side ≡ b → runs_from side (suc k) (g ∷ gs) ≡ runs_from side 0 (drop (min (suc k) (prefix_len (has_flag side true) (g ∷ gs))) (g ∷ gs))
    by_flag later true e =
        ap (λ b. if b then runs_from side k gs else runs_from side 0 gs) e
        ∙ (later
        ∙ (let at : suc (min k (prefix_len (has_flag side true) gs)) ≡ min (suc k) (1 + prefix_len (has_flag side true) gs) = omega arith in
        ap (λ n. runs_from side 0 (drop n (g ∷ gs))) at
        ∙ ap (λ b. runs_from side 0 (drop (min (suc k) (cond b (1 + prefix_len (has_flag side true) gs) 0)) (g ∷ gs))) (sym e)))
    by_flag later false e =
        ap (λ b. if b then runs_from side k gs else runs_from side 0 gs) e
        ∙ (ap (λ b. if b then suc (runs_from side 127 gs) else runs_from side 0 gs) (sym e)
        ∙ (let at : 0 ≡ min (suc k) 0 = omega arith in ap (λ n. runs_from side 0 (drop n (g ∷ gs))) at
        ∙ ap (λ b. runs_from side 0 (drop (min (suc k) (cond b (1 + prefix_len (has_flag side true) gs) 0)) (g ∷ gs))) (sym e)))

clean_first : (side : Side) (k : ℕ) (gs : List RegionState) → runs_from side 0 gs ≡ runs_from side 0 (drop (min k (prefix_len (has_flag side false) gs)) gs)
clean_first side zero gs = ap (λ k. runs_from side 0 (drop k gs)) (let at : 0 ≡ min 0 (prefix_len (has_flag side false) gs) = omega arith in at)
clean_first side (suc k) [] = ap (λ n. runs_from side 0 (drop n [])) (let at : 0 ≡ min (suc k) 0 = omega arith in at)
clean_first side (suc k) (g ∷ gs) = by_flag (clean_first side k gs) (is_dirty g side) refl
  where
    by_flag : runs_from side 0 gs ≡ runs_from side 0 (drop (min k (prefix_len (has_flag side false) gs)) gs) → (b : Bool) → is_dirty g side ≡ b → runs_from side 0 (g ∷ gs) ≡ runs_from side 0 (drop (min (suc k) (prefix_len (has_flag side false) (g ∷ gs))) (g ∷ gs))
    by_flag later true e =
        let at : 0 ≡ min (suc k) 0 = omega arith in
        ap (λ n. runs_from side 0 (drop n (g ∷ gs))) at
        ∙ ap (λ b. runs_from side 0 (drop (min (suc k) (cond (not b) (1 + prefix_len (has_flag side false) gs) 0)) (g ∷ gs))) (sym e)
    by_flag later false e =
        ap (λ b. if b then suc (runs_from side 127 gs) else runs_from side 0 gs) e
        ∙ (later
        ∙ (let at : suc (min k (prefix_len (has_flag side false) gs)) ≡ min (suc k) (1 + prefix_len (has_flag side false) gs) = omega arith in
        ap (λ n. runs_from side 0 (drop n (g ∷ gs))) at
        ∙ ap (λ b. runs_from side 0 (drop (min (suc k) (cond (not b) (1 + prefix_len (has_flag side false) gs) 0)) (g ∷ gs))) (sym e)))

-- a run is one more where its flag is set
abbrev pub one_if : Bool → ℕ
one_if b = if b then 1 else 0

pub runs_step : (side : Side) (gs : List RegionState) → runs_in side gs ≡ one_if (is_first_dirty side gs) + runs_in side (drop (run_of side gs) gs)
runs_step side [] = refl
runs_step side (g ∷ rest) = by_flag (is_dirty g side) refl
  where
    by_flag : (b : Bool) → is_dirty g side ≡ b → runs_in side (g ∷ rest) ≡ one_if (is_dirty g side) + runs_in side (drop (run_of side (g ∷ rest)) (g ∷ rest))
    by_flag true e =
        let p : ℕ = prefix_len (has_flag side true) rest in
        let at : suc (min 127 p) ≡ min 128 (1 + p) = omega arith in
        let run : run_of side (g ∷ rest) ≡ suc (min 127 p) = ap (λ b. min 128 (prefix_len (has_flag side b) (g ∷ rest))) e ∙ (ap (λ b. min 128 (cond b (1 + p) 0)) e ∙ sym at) in
        let one : runs_in side (g ∷ rest) ≡ suc (runs_from side 127 rest) = ap (λ b. if b then suc (runs_from side 127 rest) else runs_from side 0 rest) e in
        let rest_is : runs_from side 127 rest ≡ runs_in side (drop (run_of side (g ∷ rest)) (g ∷ rest)) = dirty_first side 127 rest ∙ ap (λ n. runs_in side (drop n (g ∷ rest))) (sym run) in
        let flag : one_if (is_dirty g side) ≡ 1 = ap one_if e in
        omega (arith, one, rest_is, flag)
    by_flag false e =
        let run : run_of side (g ∷ rest) ≡ min 128 (prefix_len (has_flag side false) (g ∷ rest)) = ap (λ b. min 128 (prefix_len (has_flag side b) (g ∷ rest))) e in
        let rest_is : runs_in side (g ∷ rest) ≡ runs_in side (drop (run_of side (g ∷ rest)) (g ∷ rest)) = clean_first side 128 (g ∷ rest) ∙ ap (λ n. runs_in side (drop n (g ∷ rest))) (sym run) in
        let flag : one_if (is_dirty g side) ≡ 0 = ap one_if e in
        omega (arith, rest_is, flag)

-- ---- where a run ends
run_is : (side : Side) (gs : List RegionState) (from : ℕ) (d : RegionState) (flag : Bool) → from < length gs → is_dirty (slice_index_or gs from d) side ≡ flag → run_of side (drop from gs) ≡ min 128 (prefix_len (has_flag side flag) (drop from gs))
run_is side gs from d flag within is =
    ap (run_of side) (drop_more gs from d within)
    ∙ (ap (λ b. min 128 (prefix_len (has_flag side b) (slice_index_or gs from d ∷ drop (from + 1) gs))) is
    ∙ ap (λ l. min 128 (prefix_len (has_flag side flag) l)) (sym (drop_more gs from d within)))

has_own : (side : Side) (g : RegionState) (flag : Bool) → is_dirty g side ≡ flag → has_flag side flag g ≡ true
has_own side g true e = e
has_own side g false e = ap not e

has_other : (side : Side) (g : RegionState) (flag : Bool) → (is_dirty g side ≡ flag → ⊥) → has_flag side flag g ≡ false
has_other side g flag other = by_both flag (is_dirty g side) refl other
  where
    by_both : (f b : Bool) → is_dirty g side ≡ b → (is_dirty g side ≡ f → ⊥) → has_flag side f g ≡ false
    by_both true true e differs = absurd (differs e)
    by_both true false e differs = e
    by_both false true e differs = ap not e
    by_both false false e differs = absurd (differs e)

-- the regions so far have the first one's flag
abbrev pub AreAlike : Side → Bool → List RegionState → ℕ → ℕ → Type 0
AreAlike side flag gs from count = prefix_len (has_flag side flag) (drop from gs) ≡ count + prefix_len (has_flag side flag) (drop (from + count) gs)

pub alike_begin : (side : Side) (gs : List RegionState) (from : ℕ) (d : RegionState) (flag : Bool) → from < length gs → is_dirty (slice_index_or gs from d) side ≡ flag → AreAlike side flag gs from 1
alike_begin side gs from d flag within is = prefix_len-drop_yes (has_flag side flag) gs from d within (has_own side (slice_index_or gs from d) flag is)

pub alike_next : (side : Side) (gs : List RegionState) (from count : ℕ) (d : RegionState) (flag : Bool) → from + count < length gs → is_dirty (slice_index_or gs (from + count) d) side ≡ flag → AreAlike side flag gs from count → AreAlike side flag gs from (count + 1)
alike_next side gs from count d flag within is alike =
    let at : from + count + 1 ≡ from + (count + 1) = omega arith in
    let one = prefix_len-drop_yes (has_flag side flag) gs (from + count) d within (has_own side (slice_index_or gs (from + count) d) flag is) in
    let here = ap (λ (k : ℕ). prefix_len (has_flag side flag) (drop k gs)) at in
    omega (arith, alike, one, here)

-- the next one hasn't
pub run_stops : (side : Side) (gs : List RegionState) (from count : ℕ) (c d : RegionState) (flag : Bool) → from < length gs → is_dirty (slice_index_or gs from c) side ≡ flag → AreAlike side flag gs from count
    → count ≤ 128 → from + count < length gs → (is_dirty (slice_index_or gs (from + count) d) side ≡ flag → ⊥) → count ≡ run_of side (drop from gs)
run_stops side gs from count c d flag within is alike few inside other =
    let none = prefix_len-drop_no (has_flag side flag) gs (from + count) d inside (has_other side (slice_index_or gs (from + count) d) flag other) in
    let run = run_is side gs from c flag within is in
    omega (arith, alike, none, run, few)

-- all that fit, or all that are left
pub run_fills : (side : Side) (gs : List RegionState) (from most : ℕ) (c : RegionState) (flag : Bool) → from < length gs → is_dirty (slice_index_or gs from c) side ≡ flag → AreAlike side flag gs from most
    → most ≡ min (length gs - from) 128 → most ≡ run_of side (drop from gs)
run_fills side gs from most c flag within is alike all =
    let run = run_is side gs from c flag within is in
    let few = prefix_len-le-length (has_flag side flag) (drop from gs) in
    let size = length-drop from gs in
    omega (arith, alike, run, all, few, size)

-- ---- a loop over elements that are changed
pub changes_begin : {A : Type 0} (f : A → A) (from : ℕ) (xs : List A) → xs ≡ change f from (from - from) xs
changes_begin f from xs = sym (ap (λ n. change f from n xs) (let at : from - from ≡ 0 = omega arith in at) ∙ change_none f from xs)

pub changes_next : {A : Type 0} (f : A → A) (from n : ℕ) (xs ys : List A) (d y : A) → from ≤ n → n < length xs → ys ≡ change f from (n - from) xs → y ≡ f (slice_index_or ys n d) → slice_set ys n y ≡ change f from (n + 1 - from) xs
changes_next f from n xs ys d y le within is now =
    ap (λ l. slice_set l n y) is
    ∙ (ap (slice_set (change f from (n - from) xs) n) (now ∙ ap f at_x)
    ∙ (ap (λ k. slice_set (change f from (n - from) xs) k (f (slice_index_or xs n d))) (sym sum)
    ∙ (change_set f from (n - from) xs (slice_index_or xs n d) (ap (slice_get xs) sum ∙ get_here xs n d within)
    ∙ ap (λ k. change f from k xs) more)))
  where
    sum : from + (n - from) ≡ n
    sum = omega (arith, le)

    more : suc (n - from) ≡ n + 1 - from
    more = omega (arith, le)

    same : slice_get ys n ≡ slice_get xs n
    same = ap (λ l. slice_get l n) is ∙ change_get f from (n - from) n xs (omega (arith, sum))

    within_ys : n < length ys
    within_ys = omega (arith, within, ap length is, change_length f from (n - from) xs)

    at_x : slice_index_or ys n d ≡ slice_index_or xs n d
    at_x = some_same (sym (get_here ys n d within_ys) ∙ (same ∙ get_here xs n d within))

-- ---- the regions of a run
pub first_dirty : (side : Side) (i : ℕ) (gs : List RegionState) (g : RegionState) → slice_get gs i ≡ Some g → is_first_dirty side (drop i gs) ≡ is_dirty g side
first_dirty side i [] g e = absurd (cc)
first_dirty side zero (x ∷ xs) g e = ap (λ z. is_dirty z side) (some_same e)
first_dirty side (suc i) (x ∷ xs) g e = first_dirty side i xs g e

taken_dirty : (side : Side) (n : ℕ) (gs : List RegionState) → n ≤ prefix_len (has_flag side true) gs → AreNext side true gs 0 (take n gs)
taken_dirty side zero gs le k g e = absurd (cc)
taken_dirty side (suc n) [] le k g e = absurd (cc)
taken_dirty side (suc n) (x ∷ xs) le k g e = by_flag (is_dirty x side) refl (λ m. taken_dirty side n xs m) k e
  where
    size : (b : Bool) → is_dirty x side ≡ b → suc n ≤ cond b (1 + prefix_len (has_flag side true) xs) 0
    size b e = subst (λ c. suc n ≤ cond c (1 + prefix_len (has_flag side true) xs) 0) e le

    by_flag : (b : Bool) → is_dirty x side ≡ b → (n ≤ prefix_len (has_flag side true) xs → AreNext side true xs 0 (take n xs)) → (j : ℕ) → slice_get (x ∷ take n xs) j ≡ Some g → (slice_get (x ∷ xs) (0 + j) ≡ Some g) × (is_dirty g side ≡ true)
    by_flag false e later j at = absurd (omega (arith, size false e))
    by_flag true e later zero at = (at, ap (λ z. is_dirty z side) (sym (some_same at)) ∙ e)
    by_flag true e later (suc j) at =
        let one = later (omega (arith, size true e)) j g at in
        (ap (slice_get (x ∷ xs)) (let sum : 0 + suc j ≡ suc (0 + j) = omega arith in sum) ∙ one.0, one.1)

next_on : (side : Side) (x : RegionState) (gs : List RegionState) (i : ℕ) (run : List RegionState) → AreNext side true gs i run → AreNext side true (x ∷ gs) (suc i) run
next_on side x gs i run next k g e = let one = next k g e in (ap (slice_get (x ∷ gs)) (let sum : suc i + k ≡ suc (i + k) = omega arith in sum) ∙ one.0, one.1)

taken_next : (side : Side) (i n : ℕ) (gs : List RegionState) → n ≤ prefix_len (has_flag side true) (drop i gs) → AreNext side true gs i (take n (drop i gs))
taken_next side zero n gs le k g e = taken_dirty side n gs le k g e
taken_next side (suc i) zero [] le k g e = absurd (cc)
taken_next side (suc i) (suc n) [] le k g e = absurd (cc)
taken_next side (suc i) n (x ∷ xs) le k g e = next_on side x xs i (take n (drop i xs)) (λ j h at. taken_next side i n xs le j h at) k g e

-- the run of a list that begins with this flag
run_within : (side : Side) (b : Bool) (gs : List RegionState) → is_first_dirty side gs ≡ b → run_of side gs ≤ prefix_len (has_flag side b) gs
run_within side b [] e = omega arith
run_within side b (g ∷ gs) e = subst (λ c. run_of side (g ∷ gs) ≤ prefix_len (has_flag side c) (g ∷ gs)) e (omega arith)

pub run_next : (side : Side) (i : ℕ) (gs : List RegionState) → is_first_dirty side (drop i gs) ≡ true → AreNext side true gs i (take (run_of side (drop i gs)) (drop i gs))
run_next side i gs dirty = taken_next side i (run_of side (drop i gs)) gs (run_within side true (drop i gs) dirty)

pub run_length : (side : Side) (gs : List RegionState) → run_of side gs ≤ length gs
run_length side [] = omega arith
run_length side (g ∷ gs) = omega (arith, prefix_len-le-length (has_flag side (is_dirty g side)) (g ∷ gs))

pub run_some : (side : Side) (gs : List RegionState) → 0 < length gs → 0 < run_of side gs
run_some side [] some = absurd (omega (arith, some))
run_some side (g ∷ gs) some = omega (arith, ap (λ b. cond b (1 + prefix_len (has_flag side (is_dirty g side)) gs) 0) (has_own side g (is_dirty g side) refl))

-- its flags are clear
pub clean_ones : (side : Side) (n : ℕ) (gs : List RegionState) → n ≤ prefix_len (has_flag side false) gs → (k : ℕ) (g : RegionState) → k < n → slice_get gs k ≡ Some g → is_dirty g side ≡ false
clean_ones side zero gs le k g lt e = absurd (omega (arith, lt))
clean_ones side (suc n) [] le k g lt e = absurd (cc)
clean_ones side (suc n) (x ∷ xs) le k g lt e = by_flag (is_dirty x side) refl (λ m j l at. clean_ones side n xs m j g l at) k lt e
  where
    size : (b : Bool) → is_dirty x side ≡ b → suc n ≤ cond (not b) (1 + prefix_len (has_flag side false) xs) 0
    size b e = subst (λ c. suc n ≤ cond (not c) (1 + prefix_len (has_flag side false) xs) 0) e le

    by_flag : (b : Bool) → is_dirty x side ≡ b → (n ≤ prefix_len (has_flag side false) xs → (j : ℕ) → j < n → slice_get xs j ≡ Some g → is_dirty g side ≡ false) → (j : ℕ) → j < suc n → slice_get (x ∷ xs) j ≡ Some g → is_dirty g side ≡ false
    by_flag true e later j l at = absurd (omega (arith, size true e))
    by_flag false e later zero l at = ap (λ z. is_dirty z side) (sym (some_same at)) ∙ e
    by_flag false e later (suc j) l at = later (omega (arith, size false e)) j (omega (arith, l)) at

pub run_clean : (side : Side) (i : ℕ) (gs : List RegionState) → is_first_dirty side (drop i gs) ≡ false → (k : ℕ) (g : RegionState) → k < run_of side (drop i gs) → slice_get gs (i + k) ≡ Some g → is_dirty g side ≡ false
run_clean side i gs clean k g lt e = clean_ones side (run_of side (drop i gs)) (drop i gs) (run_within side false (drop i gs) clean) k g lt (get_drop i k gs ∙ e)

clean_same : (side : Side) (g : RegionState) → is_dirty g side ≡ false → cleaned side g ≡ g
clean_same SideA g e = ap (λ b. record g { dirty_a = b }) (sym e)
clean_same SideB g e = ap (λ b. record g { dirty_b = b }) (sym e)

pub clean_run_same : (side : Side) (i : ℕ) (gs : List RegionState) → is_first_dirty side (drop i gs) ≡ false → change (cleaned side) i (run_of side (drop i gs)) gs ≡ gs
clean_run_same side i gs clean = change_same (cleaned side) i (run_of side (drop i gs)) gs (λ k g lt e. clean_same side g (run_clean side i gs clean k g lt e))

pub flag_first : (side : Side) (i : ℕ) (gs : List RegionState) (d : RegionState) → i < length gs → is_first_dirty side (drop i gs) ≡ is_dirty (slice_index_or gs i d) side
flag_first side i gs d lt = first_dirty side i gs (slice_index_or gs i d) (get_here gs i d lt)

-- ---- the bytes of a run
pub gathers_begin : (from : ℕ) (gs : List RegionState) → [] ≡ bytes_between from (from - from) gs
gathers_begin from gs = ap (λ n. bytes_between from n gs) (let e : 0 ≡ from - from = omega arith in e)

pub gathers_next : (from n : ℕ) (gs : List RegionState) (d : RegionState) (bytes more : List ℕ) → from ≤ n → n < length gs → bytes ≡ bytes_between from (n - from) gs → more ≡ words_bytes (slice_index_or gs n d).back
    → bytes ++ more ≡ bytes_between from (n + 1 - from) gs
gathers_next from n gs d bytes more le lt is next =
    ap (λ l. l ++ more) is
    ∙ (ap (λ l. bytes_between from (n - from) gs ++ l) (next ∙ (ap (λ (g : RegionState). words_bytes g.back) at ∙ (sym (append-nil (words_bytes one.back)) ∙ sym (flat_map-cons (λ (g : RegionState). words_bytes g.back) one []))))
    ∙ (sym (flat_map-append (λ (g : RegionState). words_bytes g.back) (take (n - from) (drop from gs)) (one ∷ []))
    ∙ (ap (flat_map (λ (g : RegionState). words_bytes g.back)) (sym (take_more (drop from gs) (n - from) d (omega (arith, le, lt, length-drop from gs))))
    ∙ ap (λ k. bytes_between from k gs) (let e : n - from + 1 ≡ n + 1 - from = omega (arith, le) in e))))
  where
    one : RegionState
    one = slice_index_or (drop from gs) (n - from) d

    at : slice_index_or gs n d ≡ one
    at = sym (get_or-drop from gs (n - from) d ∙ ap (λ k. slice_index_or gs k d) (let e : from + (n - from) ≡ n = omega (arith, le) in e))
