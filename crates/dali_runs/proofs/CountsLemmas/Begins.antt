-- A legal log has one Begin of each transaction.
use Rattle.std.proofs.Common.{◌≡◌, ℕ, zero, suc, ◌+◌, ◌≤◌, Bool, true, false, cond, List, [], ◌∷◌, fold, Option, Some, None, refl, ap, sym, subst, ◌∙◌, arith}
use Rattle.std.specs.Prelude.{◌==◌, IsSome, slice_get}
use Rattle.dali_geometry.specs.Sizes.{Sizes}
use Rattle.dali_record.specs.declared.records.Record.{Record}
use Rattle.dali_record.specs.declared.records.Record.TheVariants.{Begin}
use Rattle.dali_record.specs.Legal.{Rules, rules_state, rules_next, rules_step, rules_first, rules_behind, runs, has_room}
use Rattle.dali_runs.specs.Counts.Counts.{next_with}
use Rattle.dali_runs.proofs.CountsLemmas.Lists.{and_left, equal, some_same}
use Rattle.dali_runs.proofs.CountsLemmas.Tallies.{tells_step, if_kept, if_none}
use Rattle.dali_runs.proofs.CountsLemmas.NewNumbers.{next_grows}
use Rattle.dali_runs.proofs.CountsLemmas.Fronts.{none_rules}

pub begin_number : (s : Sizes) (h : Rules) (u : ℕ) → IsSome (rules_step s h (Begin u)) → u ≡ h.next
begin_number s h u k = by_test (h.count == 0) k
  where
    by_test : (c : Bool) → IsSome (cond c (rules_first s h (Begin u)) (rules_behind s h (Begin u))) → u ≡ h.next
    by_test true k = absurd (cc)
    by_test false k = equal u h.next (and_left (u == h.next) (has_room h (Begin u)) (if_kept _ _ (if_none h.failed (runs s h (Begin u)) k)))

record FirstStep (s : Sizes) (h : Rules) (x : Record) (xs : List Record) : Type 0 where
  behind : Rules
  step : rules_step s h x ≡ Some behind
  rest : IsSome (fold (rules_next s) (Some behind) xs)
  next : behind.next ≡ next_with x h.next

first_step : (s : Sizes) (h : Rules) (x : Record) (xs : List Record) → IsSome (fold (rules_next s) (Some h) (x ∷ xs)) → FirstStep s h x xs
first_step s h x xs some = by_step (rules_step s h x) refl some
  where
    by_step : (o : Option Rules) → rules_step s h x ≡ o → IsSome (fold (rules_next s) o xs) → FirstStep s h x xs
    by_step None e more = let no_way : false ≡ true = subst (λ (o : Option Rules). IsSome o) (none_rules s xs) more in absurd (cc)
    by_step (Some g) e more = record { behind = g; step = e; rest = more; next = (tells_step s h x g e).2 }

begins_above : (s : Sizes) (h : Rules) (xs : List Record) (i t : ℕ) → IsSome (fold (rules_next s) (Some h) xs) → slice_get xs i ≡ Some (Begin t) → h.next ≤ t
begins_above s h [] i t some e = absurd (cc)
begins_above s h (x ∷ xs) zero t some e =
    let f = first_step s h x xs some in
    let is : x ≡ Begin t = some_same e in
    let number : t ≡ h.next = begin_number s h t (subst (λ z. IsSome (rules_step s h z)) is (subst (λ (o : Option Rules). IsSome o) (sym f.step) refl)) in
    omega (arith, number)
begins_above s h (x ∷ xs) (suc i) t some e =
    let f = first_step s h x xs some in
    let more = begins_above s f.behind xs i t f.rest e in
    let up = next_grows x h.next in
    omega (arith, more, up, f.next)

never : {X : Type 0} (s : Sizes) (h : Rules) (x : Record) (xs : List Record) (j t : ℕ) → IsSome (fold (rules_next s) (Some h) (x ∷ xs)) → Some x ≡ Some (Begin t) → slice_get xs j ≡ Some (Begin t) → X
never s h x xs j t some e f =
    let one = first_step s h x xs some in
    let is : x ≡ Begin t = some_same e in
    let above = begins_above s one.behind xs j t one.rest f in
    let number : t ≡ h.next = begin_number s h t (subst (λ z. IsSome (rules_step s h z)) is (subst (λ (o : Option Rules). IsSome o) (sym one.step) refl)) in
    let next : one.behind.next ≡ h.next + 1 = one.next ∙ ap (λ z. next_with z h.next) is in
    absurd (omega (arith, above, number, next))

one_from : (s : Sizes) (h : Rules) (xs : List Record) (i j t : ℕ) → IsSome (fold (rules_next s) (Some h) xs) → slice_get xs i ≡ Some (Begin t) → slice_get xs j ≡ Some (Begin t) → i ≡ j
one_from s h [] i j t some e f = absurd (cc)
one_from s h (x ∷ xs) zero zero t some e f = refl
one_from s h (x ∷ xs) (suc i) (suc j) t some e f = ap suc (one_from s (first_step s h x xs some).behind xs i j t (first_step s h x xs some).rest e f)
one_from s h (x ∷ xs) zero (suc j) t some e f = never s h x xs j t some e f
one_from s h (x ∷ xs) (suc i) zero t some e f = never s h x xs i t some f e

pub one_begin : (s : Sizes) (L : List Record) (i j t : ℕ) → IsSome (rules_state s L) → slice_get L i ≡ Some (Begin t) → slice_get L j ≡ Some (Begin t) → i ≡ j
one_begin s L i j t legal e f = one_from s _ L i j t legal e f
