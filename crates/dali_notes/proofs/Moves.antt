-- Each step keeps the rule.
use Rattle.std.proofs.Common.{◌≡◌, ◌≢◌, ℕ, zero, suc, ◌+◌, ◌-◌, ◌%◌, ◌≤◌, ◌<◌, true, false, ◌==◌, List, [], ◌∷◌, ◌++◌, length, slice_set, slice_index, refl, sym, ap, ◌∙◌, subst, ⊎_elim, arith, length-append}
use mathlib.Core.Option.{Option, some, none, some-ne-none, some-injective}
use lib.ListN.{get_elem?}
use Rattle.atomic_table.specs.Table.{State, Me, Step, step, Act, keeps, opening, Allows, Splits, Joins}
use Rattle.atomic_table.specs.Table
use Rattle.atomic_table.proofs.Lists.{at_set, at_snoc}
use Rattle.dali_notes.specs.History.{one_if, below, signs, IsSeen, Added, AllMay, MayAdd, Sight, AllSaw, numbers, signed_by, notes_of}
use Rattle.dali_notes.specs.Kept.{hands_of, Fits, fresh_from, signers, with_seen, all_with, seen_of, first_of_hands, others_of_hands, IsKept, Kept, Looks, Counts, Enters}
use Rattle.dali_notes.proofs.Lists.{below-is, below-most, false_if, all_append, all_one, all_none, fits_grow, fits_all_with, length-all_with, hands-all_with, hands-signs, hands-append, fits-append, fits_with_seen, hands-with_seen, length-with_seen, hands-none, fits_fresh, fresh_each, length-fresh, total_set, total_snoc, total_one, total_two, alone, all_set, may_more}

abbrev pub View : Type 0 → Type 0
View E = List (ℕ × List (List ℕ × E))

module _ {E : Type 0} {may : List (List ℕ × E) → List ℕ × E → Type 0} where
  pub begins : (count : ℕ) → Kept may count (opening (0 ∷ []) [] (fresh_from {E = E} 0 count))
  begins count = (
    [],
    record {
      word = refl;
      lawful = λ i x is. absurd (cc);
      numbered = all_none (λ (x : List ℕ × E). (n : ℕ) → signs n x.0 ≡ true → n < count);
      fits = one;
      all = omega (arith, length-fresh E 0 count);
      each = λ n. let z : below n (0 + count) ≡ below n count = ap (below n) (omega arith) in omega (arith, fresh_each E n 0 count (omega arith));
    },
  )
    where
      one : (seat : ℕ) (v : View E) → get_elem? (fresh_from {E = E} 0 count ∷ []) seat ≡ some v → Fits [] v
      one zero v e = subst (Fits []) (some-injective _ _ e) (fits_fresh E 0 count)
      one (suc seat) v e = absurd (some-ne-none v (sym e))

  -- a seat looks
  looked : (count id : ℕ) (v : View E) (s : State Unit (View E)) (log : List (List ℕ × E)) → IsKept may count s log → get_elem? s.views id ≡ some v
      → IsKept may count (record { words = slice_set s.words 0 (slice_index s.words 0); homes = s.homes; views = slice_set s.views id (with_seen log v) }) log
  looked count id v s log k at = record {
    word = ap (λ ws. slice_set ws 0 (slice_index ws 0)) k.word;
    lawful = k.lawful;
    numbered = k.numbered;
    fits = all_set (Fits log) s.views id (with_seen log v) (fits_with_seen log v (k.fits id v at)) (λ j u _ e. k.fits j u e);
    all = omega (arith, total_set length s.views id v (with_seen log v) at, length-with_seen log v, k.all);
    each = λ n. omega (arith, total_set (hands_of n) s.views id v (with_seen log v) at, hands-with_seen n log v, k.each n);
  }

  pub looks : (count slots id : ℕ) (me : Me Unit (View E)) → Allows (Kept may count) slots id me 0 (λ n. n) (Looks may (step slots 0 0 0 none) me)
  looks count slots id me s kept homes at small =
      (with_seen kept.0 me.0, keeps, tt, (kept.0, looked count id me.0 s kept.0 kept.1 at), (kept.0, kept.1.fits id me.0 at, kept.1.lawful, refl))

  pub counts : (count slots id : ℕ) (me : Me Unit (View E)) → Allows (Kept may count) slots id me 0 (λ n. n) (Counts may count (step slots 0 0 0 none) me)
  counts count slots id me s kept homes at small = (
    with_seen kept.0 me.0,
    keeps,
    tt,
    (kept.0, looked count id me.0 s kept.0 kept.1 at),
    (
      kept.0,
      kept.1.fits id me.0 at,
      kept.1.lawful,
      kept.1.numbered,
      λ whole k. sym (alone (hands_of k) length s.views id me.0 (hands-none k) at (kept.1.all ∙ sym whole)) ∙ kept.1.each k,
    ),
  )

  -- the hands add an entry
  entered : (count id : ℕ) (e : E) (v : View E) (log : List (List ℕ × E)) (s : State Unit (View E)) → IsKept may count s log → may log (signers v, e) → get_elem? s.views id ≡ some v
      → IsKept may count (record { words = slice_set s.words 0 ((slice_index s.words 0 + 1) % 18446744073709551616); homes = s.homes; views = slice_set s.views id (all_with (log ++ (signers v, e) ∷ []) v) }) (log ++ (signers v, e) ∷ [])
  entered count id e v log s k next at =
      let new : List (List ℕ × E) = log ++ (signers v, e) ∷ [] in
      let w : View E = all_with new v in
      record {
        word = ap (λ ws. slice_set ws 0 ((slice_index ws 0 + 1) % 18446744073709551616)) k.word ∙ ap (λ m. m ∷ []) (omega (arith, length-append log ((signers v, e) ∷ [])));
        lawful = may_more may log (signers v, e) k.lawful next;
        numbered = all_append (λ (x : List ℕ × E). (n : ℕ) → signs n x.0 ≡ true → n < count) log ((signers v, e) ∷ []) k.numbered
            (all_one (λ (x : List ℕ × E). (n : ℕ) → signs n x.0 ≡ true → n < count) (signers v, e)
            (λ n is. below-is n count (omega (arith, hands-signs n v is, total_one (hands_of n) s.views id v at, k.each n))));
        fits = all_set (Fits new) s.views id w (fits_all_with new v)
            (λ j u apart there. fits_grow log ((signers v, e) ∷ []) u (k.fits j u there)
            (λ m more. all_one (λ (x : List ℕ × E). signs m x.0 ≡ false) (signers v, e) (false_if (signs m (signers v)) (λ is. let two = total_two (hands_of m) s.views id j v u apart at there in
            let low : below m count ≤ 1 = below-most m count in
            absurd (omega (arith, two, more, hands-signs m v is, k.each m, low))))));
        all = omega (arith, total_set length s.views id v w at, length-all_with new v, k.all);
        each = λ m. omega (arith, total_set (hands_of m) s.views id v w at, hands-all_with m new v, k.each m);
      }

  pub enters : (count slots id : ℕ) (o : Option E) (e : E) (me : Me Unit (View E)) → o ≡ some e
      → ((now : List (List ℕ × E)) → Fits now me.0 → AllMay may now → may now (signers me.0, e))
      → Allows (Kept may count) slots id me 0 (λ k. (k + 1) % 18446744073709551616) (Enters may o (step slots 0 1 0 none) me)
  enters count slots id o e me is adds s kept homes at small =
      let log = kept.0 in
      let saw = kept.1.fits id me.0 at in
      let next : may log (signers me.0, e) = adds log saw kept.1.lawful in (
        all_with (log ++ (signers me.0, e) ∷ []) me.0,
        keeps,
        tt,
        (log ++ (signers me.0, e) ∷ [], entered count id e me.0 log s kept.1 next at),
        λ e' is'. let eq : e ≡ e' = some-injective e e' (sym is ∙ is') in
            (log, saw, subst (λ x. AllMay may (log ++ (signers me.0, x) ∷ [])) eq (may_more may log (signers me.0, e) kept.1.lawful next), ap (λ x. (all_with (log ++ (signers me.0, x) ∷ []) me.0, me.1)) eq),
      )

  -- a view is cut in two
  pub splits : (count id : ℕ) (v l r : View E) → ((n : ℕ) → hands_of n l + hands_of n r ≡ hands_of n v) → length l + length r ≡ length v → ((log : List (List ℕ × E)) → Fits log v → Fits log l × Fits log r) → Splits (Kept may count) id v l r
  splits count id v l r sums parts cut s kept at =
      let k = kept.1 in
      let both = cut kept.0 (k.fits id v at) in (
        kept.0,
        record {
          word = k.word;
          lawful = k.lawful;
          numbered = k.numbered;
          fits = λ j u there. ⊎_elim
              (λ old. all_set (Fits kept.0) s.views id l both.0 (λ i x _ e. k.fits i x e) j u old)
              (λ (is : r ≡ u). subst (Fits kept.0) is both.1)
              (at_snoc (slice_set s.views id l) r u j there);
          all = omega (arith, total_snoc length (slice_set s.views id l) r, total_set length s.views id v l at, parts, k.all);
          each = λ n. omega (arith, total_snoc (hands_of n) (slice_set s.views id l) r, total_set (hands_of n) s.views id v l at, sums n, k.each n);
        },
      )

  pub front : (count id : ℕ) (x : ℕ × List (List ℕ × E)) (v : View E) → Splits (Kept may count) id (x ∷ v) v (x ∷ [])
  front count id x v = splits count id (x ∷ v) v (x ∷ []) (λ n. omega arith) (omega arith) (λ log f. (f.1, (f.0, tt)))

  pub guests : (count id : ℕ) (x : ℕ × List (List ℕ × E)) (v : View E) → Splits (Kept may count) id (x ∷ v) (x ∷ []) v
  guests count id x v = splits count id (x ∷ v) (x ∷ []) v (λ n. omega arith) (omega arith) (λ log f. ((f.0, tt), f.1))

  pub whole : (count id : ℕ) (v : View E) → Splits (Kept may count) id v [] v
  whole count id v = splits count id v [] v (λ n. omega arith) (omega arith) (λ log f. (tt, f))

  -- two views are made one
  joins_as : (count id : ℕ) (v : View E) (other : ℕ) (w b : View E) → ((n : ℕ) → hands_of n b ≡ hands_of n v + hands_of n w) → length b ≡ length v + length w → ((log : List (List ℕ × E)) → Fits log v → Fits log w → Fits log b) → Joins (Kept may count) id v other w b []
  joins_as count id v other w b sums parts glue s kept at apart there =
      let k = kept.1 in
      let vs : List (View E) = slice_set s.views id b in
      let was : get_elem? s.views other ≡ some w = ⊎_elim (λ (x : (other ≡ id) × (b ≡ w)). absurd (apart x.0)) (λ (x : (other ≢ id) × (get_elem? s.views other ≡ some w)). x.1) (at_set s.views id other b w there) in (
        kept.0,
        record {
          word = k.word;
          lawful = k.lawful;
          numbered = k.numbered;
          fits = all_set (Fits kept.0) vs other [] tt
              (λ j u _ e. all_set (Fits kept.0) s.views id b (glue kept.0 (k.fits id v at) (k.fits other w was)) (λ i x _ h. k.fits i x h) j u e);
          all = omega (arith, total_set length vs other w [] there, total_set length s.views id v b at, parts, k.all);
          each = λ n. omega (arith, total_set (hands_of n) vs other w [] there, total_set (hands_of n) s.views id v b at, sums n, k.each n);
        },
      )

  pub joins : (count id : ℕ) (v : View E) (other : ℕ) (w : View E) → Joins (Kept may count) id v other w (v ++ w) []
  joins count id v other w = joins_as count id v other w (v ++ w) (λ n. hands-append n v w) (length-append v w) (λ log f h. fits-append log v w f h)

  pub joins_before : (count id : ℕ) (v : View E) (other : ℕ) (w : View E) → Joins (Kept may count) id v other w (w ++ v) []
  joins_before count id v other w = joins_as count id v other w (w ++ v) (λ n. omega (arith, hands-append n w v)) (omega (arith, length-append w v)) (λ log f h. fits-append log w v h f)

  pub arrives : (count slots : ℕ) → Table.Enters (Kept may count) slots 0 (λ (n : ℕ) (w : View E). w ≡ [])
  arrives count slots s kept homes small = (
    [],
    (
      kept.0,
      record {
        word = kept.1.word;
        lawful = kept.1.lawful;
        numbered = kept.1.numbered;
        fits = λ j u there. ⊎_elim (λ old. kept.1.fits j u old) (λ (is : [] ≡ u). subst (Fits kept.0) is tt) (at_snoc s.views [] u j there);
        all = omega (arith, total_snoc length s.views [], kept.1.all);
        each = λ n. omega (arith, total_snoc (hands_of n) s.views [], kept.1.each n);
      },
    ),
    refl,
  )

  pub guests_any : (count id : ℕ) (v : View E) → Splits (Kept may count) id v (first_of_hands v) (others_of_hands v)
  guests_any count id [] = splits count id [] [] [] (λ n. omega arith) (omega arith) (λ log f. (tt, tt))
  guests_any count id (x ∷ v) = guests count id x v

  pub front_at : (count id : ℕ) (v : View E) (x : ℕ × List (List ℕ × E)) (xs : View E) → v ≡ x ∷ xs → Splits (Kept may count) id v (others_of_hands v) (first_of_hands v)
  front_at count id v x xs is = subst (λ (y : View E). Splits (Kept may count) id y (others_of_hands y) (first_of_hands y)) (sym is) (front count id x xs)

  pub fronts : (count id k m : ℕ) (a : Me Unit (View E)) → 0 < m → a ≡ (fresh_from k m, []) → Splits (Kept may count) id a.0 (others_of_hands a.0) (first_of_hands a.0)
  fronts count id k zero a h pa = absurd (omega arith)
  fronts count id k (suc m) a h pa = front_at count id a.0 (k, []) (fresh_from (suc k) m) (ap (λ (me : Me Unit (View E)). me.0) pa)

module _ {E : Type 0} where
  pub hand_seen : (n : ℕ) (log : List (List ℕ × E)) (me : Me Unit (View E)) → me ≡ ((n, log) ∷ [], []) → me ≡ ((n, seen_of me.0) ∷ [], [])
  hand_seen n log me h = h ∙ ap (λ l. ((n, l) ∷ [], [])) (sym (ap (λ (x : Me Unit (View E)). seen_of x.0) h))

  pub seen_is : (n : ℕ) (log : List (List ℕ × E)) (me : Me Unit (View E)) → me ≡ ((n, log) ∷ [], []) → seen_of me.0 ≡ log
  seen_is n log me h = ap (λ (x : Me Unit (View E)). seen_of x.0) h

  -- the host's next number
  pub deals : (k m : ℕ) (a b c : Me Unit (View E)) → 0 < m → a ≡ (fresh_from k m, []) → b ≡ (others_of_hands a.0, a.1) → c ≡ (first_of_hands a.0, [])
      → (b ≡ (fresh_from (k + 1) (m - 1), [])) × (c ≡ ((k, []) ∷ [], []))
  deals k zero a b c h pa pb pc = absurd (omega arith)
  deals k (suc m) a b c h pa pb pc =
      let next : suc k ≡ k + 1 = omega arith in
      let less : m ≡ suc m - 1 = omega arith in (
        pb ∙ (ap (λ (me : Me Unit (View E)). (others_of_hands me.0, me.1)) pa ∙ (λ i. (fresh_from (next i) (less i), []))),
        pc ∙ ap (λ (me : Me Unit (View E)). (first_of_hands me.0, [])) pa,
      )

  abbrev pub hands : List (Sight E) → View E
  hands [] = []
  hands (x ∷ xs) = (x.number, x.seen) ∷ hands xs

  pub hands-snoc : (xs : List (Sight E)) (x : Sight E) (v all : View E) → hands (xs ++ x ∷ []) ++ v ≡ all → hands xs ++ ((x.number, x.seen) ∷ v) ≡ all
  hands-snoc [] x v all h = h
  hands-snoc (y ∷ ys) x v all h = ap (λ (w : View E). (y.number, y.seen) ∷ w) (hands-snoc ys x v (hands (ys ++ x ∷ []) ++ v) refl) ∙ h

  pub all_saw : (log : List (List ℕ × E)) (xs : List (Sight E)) → Fits log (hands xs) → AllSaw log xs
  all_saw log [] f = tt
  all_saw log (x ∷ xs) f = (f.0, all_saw log xs f.1)

  pub hands-notes : (n : ℕ) (xs : List (Sight E)) → hands_of n (hands xs) ≡ notes_of n xs
  hands-notes n [] = refl
  hands-notes n (x ∷ xs) = ap (λ k. one_if (x.number == n) + k) (hands-notes n xs)

  pub length-hands : (xs : List (Sight E)) → length (hands xs) ≡ length xs
  length-hands [] = refl
  length-hands (x ∷ xs) = ap suc (length-hands xs)

  pub signers-hands : (xs : List (Sight E)) → signers (hands xs) ≡ numbers xs
  signers-hands [] = refl
  signers-hands (x ∷ xs) = ap (λ ns. x.number ∷ ns) (signers-hands xs)

module _ {E : Type 0} (may : List (List ℕ × E) → List ℕ × E → Type 0) where
  -- the notes whose hands a seat has may sign
  pub may_sign : (e : E) (xs : List (Sight E)) (v : View E) → v ≡ hands xs → MayAdd may xs e → (now : List (List ℕ × E)) → Fits now v → AllMay may now → may now (signers v, e)
  may_sign e xs v is adds now f all = subst (λ k. may now (k, e)) (sym (ap signers is ∙ signers-hands xs)) (adds now (all_saw now xs (subst (Fits now) is f)) all)

  pub record Signed (e : E) (xs : List (Sight E)) (new : Me Unit (View E)) : Type 0 where
    pub log : List (List ℕ × E)
    pub added : Added xs e log
    pub all : AllMay may log
    pub is : new ≡ (all_with log (hands xs), [])

  pub signed : (e : E) (xs : List (Sight E)) (v : View E) (new : Me Unit (View E)) → v ≡ hands xs
      → ((now : List (List ℕ × E)) × Fits now v × AllMay may (now ++ (signers v, e) ∷ []) × (new ≡ (all_with (now ++ (signers v, e) ∷ []) v, [])))
      → Signed e xs new
  signed e xs v new is t =
      let same : signers v ≡ numbers xs = ap signers is ∙ signers-hands xs in record {
        log = t.0 ++ signed_by xs e ∷ [];
        added = (t.0, all_saw t.0 xs (subst (Fits t.0) is t.1), refl);
        all = subst (λ k. AllMay may (t.0 ++ (k, e) ∷ [])) same t.2;
        is = t.3 ∙ (λ i. (all_with (t.0 ++ (same i, e) ∷ []) (is i), []));
      }

  pub record Met (x y : Sight E) (f z : Me Unit (View E)) : Type 0 where
    pub log : List (List ℕ × E)
    pub note : f ≡ ((x.number, log) ∷ [], [])
    pub other : z ≡ ((y.number, y.seen) ∷ [], [])
    pub seen : IsSeen log x.number x.seen
    pub theirs : IsSeen log y.number y.seen
    pub all : AllMay may log

  -- of two hands in one seat the first looks
  pub met : (x y : Sight E) (d e f z : Me Unit (View E)) → d ≡ (hands (x ∷ y ∷ []), [])
      → ((log : List (List ℕ × E)) × Fits log d.0 × AllMay may log × (e ≡ (with_seen log d.0, d.1)))
      → f ≡ (first_of_hands e.0, []) → z ≡ (others_of_hands e.0, [])
      → Met x y f z
  met x y d e f z is l pf pz =
      let fits = subst (λ (m : Me Unit (View E)). Fits l.0 m.0) is l.1 in
      let after : e ≡ ((x.number, l.0) ∷ (y.number, y.seen) ∷ [], []) = l.3 ∙ ap (λ (m : Me Unit (View E)). (with_seen l.0 m.0, m.1)) is in record {
        log = l.0;
        note = pf ∙ ap (λ (m : Me Unit (View E)). (first_of_hands m.0, [])) after;
        other = pz ∙ ap (λ (m : Me Unit (View E)). (others_of_hands m.0, [])) after;
        seen = fits.0;
        theirs = fits.1.0;
        all = l.2;
      }
