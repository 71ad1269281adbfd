-- Who is next is expected, and nobody is next only where nobody is expected. So it stays with each change of the table.
use Rattle.std.proofs.Common.{◌≡◌, ◌≢◌, ℕ, zero, suc, ◌+◌, ◌%◌, ◌^◌, ◌≤◌, ◌==◌, Bool, true, false, List, [], ◌∷◌, Option, Some, None, IfSome, IfNone, length, drop, max, slice_index_or, slice_set, refl, ap, ◌∙◌, sym, arith, subst}
use Rattle.std.specs.Option.{ForSome, ForNone}
use Rattle.std.proofs.lemmas.List.{get_or-drop, get_or-set_other, length-set}
use Rattle.std.proofs.lemmas.Bool.{eq-eqb, false≢true}
use Rattle.dali_schedule.specs.declared.order.Order.{Order}
use Rattle.dali_schedule.specs.declared.order.Order.TheVariants.{Turns, Seeded}
use Rattle.dali_schedule.specs.Seats.{lowest_from, lowest, or_else, count, ranked_from, drawn, next_after, Table, is_some_of, is_holder, IsKept}

-- the client is expected; nobody is
abbrev IsIn : List Bool → ℕ → Type 0
IsIn xs c = slice_index_or xs c false ≡ true

abbrev AreOut : List Bool → Type 0
AreOut xs = (c : ℕ) → slice_index_or xs c false ≡ false

-- it is expected, in seats that begin with the number k
abbrev IsPast : ℕ → List Bool → ℕ → Type 0
IsPast k xs c = (i : ℕ) × (c ≡ k + i) × IsIn xs i

one_more : (k : ℕ) (b : Bool) (xs : List Bool) (o : Option ℕ) → IfSome o (IsPast (suc k) xs) → IfSome o (IsPast k (b ∷ xs))
one_more k b xs None h = h
one_more k b xs (Some c) h = (suc h.0, (let e = h.1 in omega arith), h.2)

one_out : (xs : List Bool) → AreOut xs → AreOut (false ∷ xs)
one_out xs out zero = refl
one_out xs out (suc c) = out c

one_out_if : (xs : List Bool) (o : Option ℕ) → IfNone o (AreOut xs) → IfNone o (AreOut (false ∷ xs))
one_out_if xs None h = one_out xs h
one_out_if xs (Some c) h = h

-- ---- the lowest
lowest_is_past : (k : ℕ) (xs : List Bool) → IfSome (lowest_from k xs) (IsPast k xs)
lowest_is_past k [] = tt
lowest_is_past k (true ∷ xs) = (0, omega arith, refl)
lowest_is_past k (false ∷ xs) = one_more k false xs (lowest_from (suc k) xs) (lowest_is_past (suc k) xs)

none_is_out : (k : ℕ) (xs : List Bool) → IfNone (lowest_from k xs) (AreOut xs)
none_is_out k [] = λ c. refl
none_is_out k (true ∷ xs) = tt
none_is_out k (false ∷ xs) = one_out_if xs (lowest_from (suc k) xs) (none_is_out (suc k) xs)

past_is_in : (n : ℕ) (xs : List Bool) (o : Option ℕ) → IfSome o (IsPast n (drop n xs)) → IfSome o (IsIn xs)
past_is_in n xs None h = h
past_is_in n xs (Some c) h = ap (λ d. slice_index_or xs d false) h.1 ∙ sym (get_or-drop n xs h.0 false) ∙ h.2

lowest_is_in : (xs : List Bool) (n : ℕ) → IfSome (lowest xs n) (IsIn xs)
lowest_is_in xs n = past_is_in n xs (lowest xs n) (lowest_is_past n (drop n xs))

-- ---- the next in turn
either_is_in : (xs : List Bool) (o p : Option ℕ) → IfSome o (IsIn xs) → IfSome p (IsIn xs) → IfSome (or_else o p) (IsIn xs)
either_is_in xs None p h k = k
either_is_in xs (Some c) p h k = h

neither_is_out : (xs : List Bool) (o p : Option ℕ) → IfNone p (AreOut xs) → IfNone (or_else o p) (AreOut xs)
neither_is_out xs None p h = h
neither_is_out xs (Some c) p h = tt

-- ---- the one that is drawn
ranked_is_past : (n : ℕ) (xs : List Bool) (k : ℕ) → IfSome (ranked_from n xs k) (IsPast n xs)
ranked_is_past n [] k = tt
ranked_is_past n (false ∷ xs) k = one_more n false xs (ranked_from (suc n) xs k) (ranked_is_past (suc n) xs k)
ranked_is_past n (true ∷ xs) zero = (0, omega arith, refl)
ranked_is_past n (true ∷ xs) (suc k) = one_more n true xs (ranked_from (suc n) xs k) (ranked_is_past (suc n) xs k)

more_than : (k m : ℕ) (o : Option ℕ) → IfNone o (m ≤ k) → IfNone o (1 + m ≤ suc k)
more_than k m None h = omega arith
more_than k m (Some c) h = tt

no_more : (k m : ℕ) (o : Option ℕ) → IfNone o (m ≤ k) → IfNone o (0 + m ≤ k)
no_more k m None h = omega arith
no_more k m (Some c) h = tt

none_is_few : (n : ℕ) (xs : List Bool) (k : ℕ) → IfNone (ranked_from n xs k) (count xs ≤ k)
none_is_few n [] k = omega arith
none_is_few n (false ∷ xs) k = no_more k (count xs) (ranked_from (suc n) xs k) (none_is_few (suc n) xs k)
none_is_few n (true ∷ xs) zero = tt
none_is_few n (true ∷ xs) (suc k) = more_than k (count xs) (ranked_from (suc n) xs k) (none_is_few (suc n) xs k)

none_counted : (xs : List Bool) → count xs ≡ 0 → AreOut xs
none_counted [] e = λ c. refl
none_counted (true ∷ xs) e = absurd (omega arith)
none_counted (false ∷ xs) e = one_out xs (none_counted xs (let f : 0 + count xs ≡ 0 = e in omega arith))

few_is_out : (xs : List Bool) (word : ℕ) (o : Option ℕ) → IfNone o (count xs ≤ word % max (count xs) 1) → IfNone o (AreOut xs)
few_is_out xs word None h = none_counted xs (omega arith)
few_is_out xs word (Some c) h = tt

drawn_is_in : (xs : List Bool) (word : ℕ) → IfSome (drawn xs word) (IsIn xs)
drawn_is_in xs word = past_is_in 0 xs (drawn xs word) (ranked_is_past 0 xs (word % max (count xs) 1))

none_drawn : (xs : List Bool) (word : ℕ) → IfNone (drawn xs word) (AreOut xs)
none_drawn xs word = few_is_out xs word (drawn xs word) (none_is_few 0 xs (word % max (count xs) 1))

-- ---- who is next
next_is_in : (order : Order) (xs : List Bool) (c : ℕ) → IfSome (next_after order xs c).1 (IsIn xs)
next_is_in Turns xs c = either_is_in xs (lowest xs (c + 1)) (lowest xs 0) (lowest_is_in xs (c + 1)) (lowest_is_in xs 0)
next_is_in (Seeded numbers) xs c = drawn_is_in xs _

none_is_next : (order : Order) (xs : List Bool) (c : ℕ) → IfNone (next_after order xs c).1 (AreOut xs)
none_is_next Turns xs c = neither_is_out xs (lowest xs (c + 1)) (lowest xs 0) (none_is_out 0 xs)
none_is_next (Seeded numbers) xs c = none_drawn xs _

-- ---- what is kept
pub length_as : (xs ys : List Bool) (c : ℕ) → ys ≡ slice_set xs c false → length xs ≤ 2 ^ 32 → length ys ≤ 2 ^ 32
length_as xs ys c e few = subst (λ n. n ≤ 2 ^ 32) (sym (ap length e ∙ length-set xs c false)) few

differs : (d c : ℕ) → (d == c) ≡ false → d ≢ c
differs d c e same = false≢true (sym e ∙ eq-eqb d c same)

for_some : (P : ℕ → Type 0) (o : Option ℕ) → IfSome o P → ForSome o P
for_some P o h c e = subst (λ p. IfSome p P) e h

for_none : (P : Type 0) (o : Option ℕ) → IfNone o P → ForNone o P
for_none P o h e = subst (λ p. IfNone p P) e h

-- the baton goes from c to the next
pub handed : (order order' : Order) (xs ys : List Bool) (c : ℕ) (next : Option ℕ) → length ys ≤ 2 ^ 32 → xs ≡ ys → (order', next) ≡ next_after order xs c → IsKept (record { expected = ys; holder = next; at_work = false; order = order' })
handed order order' xs ys c next few same e =
    let is : next ≡ (next_after order ys c).1 = ap (λ p. p.1) e ∙ ap (λ zs. (next_after order zs c).1) same in
    record {
      few = few;
      held = for_some (IsIn ys) next (subst (λ o. IfSome o (IsIn ys)) (sym is) (next_is_in order ys c));
      idle = for_none (AreOut ys) next (subst (λ o. IfNone o (AreOut ys)) (sym is) (none_is_next order ys c));
    }

still_out : (xs : List Bool) (k : ℕ) → AreOut xs → AreOut (slice_set xs k false)
still_out [] k out c = out c
still_out (x ∷ xs) zero out zero = refl
still_out (x ∷ xs) zero out (suc c) = out (suc c)
still_out (x ∷ xs) (suc k) out zero = out zero
still_out (x ∷ xs) (suc k) out (suc c) = still_out xs k (λ i. out (suc i)) c

-- c leaves, which hasn't the baton
pub left : (t : Table) (xs : List Bool) (c : ℕ) → IsKept t → xs ≡ slice_set t.expected c false → is_holder c t ≡ false → IsKept (record { expected = xs; holder = t.holder; at_work = t.at_work; order = t.order })
left t xs c kept is other = subst (λ ys. IsKept (record { expected = ys; holder = t.holder; at_work = t.at_work; order = t.order })) (sym is) (record {
  few = length_as t.expected _ c refl kept.few;
  held = λ d e. get_or-set_other t.expected c d false false (differs d c (sym (ap (is_some_of c) e) ∙ other)) ∙ kept.held d e;
  idle = λ e. still_out t.expected c (kept.idle e);
})
