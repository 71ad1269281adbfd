-- Each step keeps the rule.
use Rattle.std.proofs.Common.{◌≡◌, ◌≢◌, ℕ, zero, suc, ◌+◌, ◌-◌, ◌%◌, ◌≤◌, ◌<◌, min, Bool, true, false, List, [], ◌∷◌, ◌++◌, slice_set, slice_index, refl, sym, ap, ◌∙◌, subst, ⊎_elim, arith}
use Rattle.std.proofs.lemmas.Bool.Decides.{nat_tests}
use Rattle.std.specs.Prelude.{MatchBool}
use lib.Dec.{ltb}
use mathlib.Core.Option.{some, none, some-ne-none, some-injective}
use lib.ListN.{get_elem?}
use Rattle.atomic_table.specs.Table
use Rattle.atomic_table.specs.Table.{State, Me, Step, step, Act, keeps, opening, Allows, Splits, Joins}
use Rattle.atomic_table.proofs.Lists.{at_set, at_snoc}
use Rattle.dali_claims.specs.declared.claim.View.{View}
use Rattle.dali_claims.specs.Claims.{times, below, AllBelow}
use Rattle.dali_claims.specs.Rule.{total, hand, IsKept, Kept, DrawsOne, Learns}
use Rattle.dali_claims.proofs.Lists.{below-is, below_more, times-append, all_below, total_set, total_snoc, total_one, total_strict, alone, all_set}

abbrev Is : Me Unit View → Me Unit View → Type 0
Is v w = v ≡ w

abbrev Fits : View → Type 0
Fits v = (v.over ≤ v.seats) × (v.seats ≡ 0 → v.drawn ≡ [])

pub begins : (count seats : ℕ) → Kept (count, seats) (opening (0 ∷ []) [] (hand seats [] 0))
begins count seats = (
  0,
  record {
    word = refl;
    parts = omega arith;
    drawn = λ x. let z : below x (min 0 count) ≡ 0 = ap (below x) (omega arith) ∙ none_below x in omega arith;
    past = omega arith;
    each = one;
  },
)
  where
    none_below : (x : ℕ) → below x 0 ≡ 0
    none_below zero = refl
    none_below (suc x) = refl

    one : (seat : ℕ) (v : View) → get_elem? (hand seats [] 0 ∷ []) seat ≡ some v → Fits v
    one zero v e = subst Fits (some-injective _ _ e) (omega arith, λ _. refl)
    one (suc seat) v e = absurd (some-ne-none v (sym e))

-- what a seat drew is below the word
low : (count seats id : ℕ) (v : View) (s : State Unit View) (n : ℕ) → IsKept count seats s n → get_elem? s.views id ≡ some v → AllBelow n v.drawn
low count seats id v s n k at = all_below n v.drawn (λ y more.
    let in_all = total_one (λ (u : View). times y u.drawn) s.views id v at in
    let there : y < min n count = below-is y (min n count) (omega (arith, in_all, k.drawn y)) in omega arith)

drawn_if : (count seats slots id : ℕ) (drawn : List ℕ) (s : State Unit View) (n : ℕ) (b : Bool) → ltb n count ≡ b → count < 4294967296 → seats < 4294967296 → IsKept count seats s n → get_elem? s.views id ≡ some (hand 1 drawn 0)
    → (w : View) × Kept (count, seats) (record { words = slice_set s.words 0 ((slice_index s.words 0 + 1) % 18446744073709551616); homes = s.homes; views = slice_set s.views id w })
    × MatchBool b (Is (w, []) (hand 1 (drawn ++ n ∷ []) 0, [])) (Is (w, []) (hand 1 drawn 1, []))
drawn_if count seats slots id drawn s n true is small few k at =
    let v = hand 1 drawn 0 in
    let w = hand 1 (drawn ++ n ∷ []) 0 in
    let less : n < count = grind (arith, nat_tests) in (
      w,
      (
        suc n,
        record {
          word = ap (λ ws. slice_set ws 0 ((slice_index ws 0 + 1) % 18446744073709551616)) k.word ∙ ap (λ m. m ∷ []) (omega arith);
          parts = omega (arith, total_set (λ (u : View). u.seats) s.views id v w at, k.parts);
          drawn = λ x. let m : min (suc n) count ≡ suc n = omega arith in let o : min n count ≡ n = omega arith in
              let a : below x (min (suc n) count) ≡ below x (suc n) = ap (below x) m in let b : below x (min n count) ≡ below x n = ap (below x) o in
              omega (arith, total_set (λ (u : View). times x u.drawn) s.views id v w at, k.drawn x, a, b, below_more x n, times-append x drawn (n ∷ []));
          past = omega (arith, total_set (λ (u : View). u.over) s.views id v w at, k.past);
          each = all_set Fits s.views id w (omega arith, λ z. absurd (omega arith)) k.each;
        },
      ),
      refl,
    )
drawn_if count seats slots id drawn s n false is small few k at =
    let v = hand 1 drawn 0 in
    let w = hand 1 drawn 1 in
    let more : count ≤ n = grind (arith, nat_tests) in
    let room : total (λ (u : View). u.over) s.views < total (λ (u : View). u.seats) s.views = total_strict (λ (u : View). u.over) (λ (u : View). u.seats) s.views id v (λ j u e. (k.each j u e).0) at (omega arith) in
    let bound : n < 8589934592 = omega (arith, k.past, k.parts) in (
      w,
      (
        suc n,
        record {
          word = ap (λ ws. slice_set ws 0 ((slice_index ws 0 + 1) % 18446744073709551616)) k.word ∙ ap (λ m. m ∷ []) (omega arith);
          parts = omega (arith, total_set (λ (u : View). u.seats) s.views id v w at, k.parts);
          drawn = λ x. let m : min (suc n) count ≡ min n count = omega arith in
              omega (arith, total_set (λ (u : View). times x u.drawn) s.views id v w at, k.drawn x, ap (below x) m);
          past = omega (arith, total_set (λ (u : View). u.over) s.views id v w at, k.past);
          each = all_set Fits s.views id w (omega arith, λ z. absurd (omega arith)) k.each;
        },
      ),
      refl,
    )

pub draws : (count seats slots id : ℕ) (drawn : List ℕ) → count < 4294967296 → seats < 4294967296
    → Allows (Kept (count, seats)) slots id (hand 1 drawn 0, []) 0 (λ k. (k + 1) % 18446744073709551616) (DrawsOne count (step slots 0 1 0 none) (hand 1 drawn 0, []))
draws count seats slots id drawn small few s kept homes at fits =
    let n = kept.0 in
    let word : slice_index s.words 0 ≡ n = ap (λ ws. slice_index ws 0) kept.1.word in
    let d = drawn_if count seats slots id drawn s n (ltb n count) refl small few kept.1 at in
    (d.0, keeps, tt, d.1, subst (λ m. DrawsOne count (step slots 0 1 0 none) (hand 1 drawn 0, []) m (d.0, [])) (sym word) (d.2, low count seats id (hand 1 drawn 0) s n kept.1 at))

pub learns : (count seats slots id : ℕ) (me : Me Unit View) → Allows (Kept (count, seats)) slots id me 0 (λ n. n) (Learns count seats (step slots 0 0 0 none) me)
learns count seats slots id me s kept homes at fits =
    let v = me.0 in
    let k = kept.1 in
    let n = kept.0 in (
      v,
      keeps,
      tt,
      (
        n,
        record {
          word = ap (λ ws. slice_set ws 0 (slice_index ws 0)) k.word;
          parts = omega (arith, total_set (λ (u : View). u.seats) s.views id v v at, k.parts);
          drawn = λ x. omega (arith, total_set (λ (u : View). times x u.drawn) s.views id v v at, k.drawn x);
          past = omega (arith, total_set (λ (u : View). u.over) s.views id v v at, k.past);
          each = all_set Fits s.views id v (k.each id v at) k.each;
        },
      ),
      λ all. (
        min n count,
        omega arith,
        (λ x. sym (alone (λ (u : View). times x u.drawn) (λ (u : View). u.seats) s.views id v (λ j u e z. ap (times x) ((k.each j u e).1 z)) at (k.parts ∙ sym all)) ∙ k.drawn x),
        λ over. omega (arith, k.past, total_one (λ (u : View). u.over) s.views id v at),
      ),
    )

pub splits : (count seats id : ℕ) (v : View) → 0 < v.seats → v.over ≡ 0 → v.drawn ≡ [] → Splits (Kept (count, seats)) id v (hand (v.seats - 1) v.drawn v.over) (hand 1 [] 0)
splits count seats id v some_left none_over none_drawn s kept at =
    let k = kept.1 in
    let l = hand (v.seats - 1) v.drawn v.over in
    let r = hand 1 [] 0 in (
      kept.0,
      record {
        word = k.word;
        parts = omega (arith, total_snoc (λ (u : View). u.seats) (slice_set s.views id l) r, total_set (λ (u : View). u.seats) s.views id v l at, k.parts);
        drawn = λ x. omega (arith, total_snoc (λ (u : View). times x u.drawn) (slice_set s.views id l) r, total_set (λ (u : View). times x u.drawn) s.views id v l at, k.drawn x);
        past = omega (arith, total_snoc (λ (u : View). u.over) (slice_set s.views id l) r, total_set (λ (u : View). u.over) s.views id v l at, k.past);
        each = λ j u there. ⊎_elim
            (λ old. all_set Fits s.views id l (omega arith, λ _. none_drawn) k.each j u old)
            (λ (is : r ≡ u). subst Fits is (omega arith, λ _. refl))
            (at_snoc (slice_set s.views id l) r u j there);
      },
    )

pub joins : (count seats id : ℕ) (v : View) (other : ℕ) (w : View) → Joins (Kept (count, seats)) id v other w (hand (v.seats + w.seats) (v.drawn ++ w.drawn) (v.over + w.over)) (hand 0 [] 0)
joins count seats id v other w s kept at apart there =
    let k = kept.1 in
    let b = hand (v.seats + w.seats) (v.drawn ++ w.drawn) (v.over + w.over) in
    let z = hand 0 [] 0 in
    let vs : List View = slice_set s.views id b in
    let was : get_elem? s.views other ≡ some w = ⊎_elim (λ (x : (other ≡ id) × (b ≡ w)). absurd (apart x.0)) (λ (x : (other ≢ id) × (get_elem? s.views other ≡ some w)). x.1) (at_set s.views id other b w there) in
    let fv = k.each id v at in
    let fw = k.each other w was in (
      kept.0,
      record {
        word = k.word;
        parts = omega (arith, total_set (λ (u : View). u.seats) vs other w z there, total_set (λ (u : View). u.seats) s.views id v b at, k.parts);
        drawn = λ x. omega (arith, total_set (λ (u : View). times x u.drawn) vs other w z there, total_set (λ (u : View). times x u.drawn) s.views id v b at, k.drawn x, times-append x v.drawn w.drawn);
        past = omega (arith, total_set (λ (u : View). u.over) vs other w z there, total_set (λ (u : View). u.over) s.views id v b at, k.past);
        each = all_set Fits vs other z (omega arith, λ _. refl)
            (λ j u e. all_set Fits s.views id b (omega (arith, fv.0, fw.0), λ none_left. ap (λ l. l ++ w.drawn) (fv.1 (omega arith)) ∙ fw.1 (omega arith)) k.each j u e);
      },
    )

pub arrives : (count seats slots : ℕ) → Table.Enters (Kept (count, seats)) slots 0 (λ (n : ℕ) (w : View). w ≡ hand 0 [] 0)
arrives count seats slots s kept homes small = let k = kept.1 in let z = hand 0 [] 0 in (
  z,
  (
    kept.0,
    record {
      word = k.word;
      parts = omega (arith, total_snoc (λ (u : View). u.seats) s.views z, k.parts);
      drawn = λ x. omega (arith, total_snoc (λ (u : View). times x u.drawn) s.views z, k.drawn x);
      past = omega (arith, total_snoc (λ (u : View). u.over) s.views z, k.past);
      each = λ j u there. ⊎_elim (λ old. k.each j u old) (λ (is : z ≡ u). subst Fits is (omega arith, λ _. refl)) (at_snoc s.views z u j there);
    },
  ),
  refl,
)

pub draws_at : (count seats slots id : ℕ) (me : Me Unit View) → count < 4294967296 → seats < 4294967296 → me ≡ (hand 1 me.0.drawn 0, [])
    → Allows (Kept (count, seats)) slots id me 0 (λ k. (k + 1) % 18446744073709551616) (DrawsOne count (step slots 0 1 0 none) me)
draws_at count seats slots id me small few is = subst (λ (m : Me Unit View). Allows (Kept (count, seats)) slots id m 0 (λ k. (k + 1) % 18446744073709551616) (DrawsOne count (step slots 0 1 0 none) m)) (sym is) (draws count seats slots id me.0.drawn small few)

drawn_low : (count n : ℕ) (P Q : Type 0) → n < count → MatchBool (ltb n count) P Q → P
drawn_low count n P Q less m = subst (λ b. MatchBool b P Q) (let t : ltb n count ≡ true = grind (arith, nat_tests) in t) m

drawn_high : (count n : ℕ) (P Q : Type 0) → count ≤ n → MatchBool (ltb n count) P Q → Q
drawn_high count n P Q more m = subst (λ b. MatchBool b P Q) (let t : ltb n count ≡ false = grind (arith, nat_tests) in t) m

pub after_low : (count n : ℕ) (old new : Me Unit View) → old ≡ (hand 1 old.0.drawn 0, []) → n < count → DrawsOne count (step 0 0 1 0 none) old n new → new ≡ (hand 1 (old.0.drawn ++ n ∷ []) 0, [])
after_low count n old new is less d = drawn_low count n _ _ less d.0 ∙ ap (λ (me : Me Unit View). (hand me.0.seats (me.0.drawn ++ n ∷ []) me.0.over, me.1)) is

pub after_high : (count n : ℕ) (old new : Me Unit View) → old ≡ (hand 1 old.0.drawn 0, []) → count ≤ n → DrawsOne count (step 0 0 1 0 none) old n new → new ≡ (hand 1 old.0.drawn 1, [])
after_high count n old new is more d = drawn_high count n _ _ more d.0 ∙ ap (λ (me : Me Unit View). (hand me.0.seats me.0.drawn 1, me.1)) is
