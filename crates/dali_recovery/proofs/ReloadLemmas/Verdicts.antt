-- The answers over batches, from what a recovery takes and refuses.
use Rattle.std.proofs.Common.{◌≡◌, ◌≤◌, ℕ, ◌+◌, Bool, true, false, cond, List, [], ◌∷◌, ◌++◌, Option, Some, None, refl, ap, sym, subst, ◌∙◌, arith, length, drop, append_assoc, length-append}
use Rattle.std.specs.Prelude.{◌||◌, fold, nat_le}
use Rattle.std.specs.List.{list_all, list_any}
use Rattle.std.proofs.lemmas.Bool.{leb-true, le-leb}
use Rattle.dali_lists.proofs.Options.{some_same, some_of}
use Rattle.dali_lists.proofs.Tests.{left_true, right_true}
use Rattle.dali_geometry.specs.Sizes.{Sizes}
use Rattle.dali_record.specs.declared.records.Record.{Record}
use Rattle.dali_record.specs.Files.{Files, is_restarted, is_restarted_first}
use Rattle.dali_resume.specs.Again.{Outcome}
use Rattle.dali_resume.specs.Batches.{bad_of, earlier, either_place, first_restarted, further, misplaced, misplaced_in, records_of, verdict_over}
use Rattle.dali_resume.specs.Onward.{HandedOut, Misfit as NamedMisfit, goes_through, hands_on, verdict_by}
use Rattle.dali_resume.specs.Tests.{Known, first_bad, known_at, known_next, may_follow, one_later, test_next, tests}
use Rattle.dali_resume.proofs.Batches.{answers_over_batches, finds_misplaced, one_some, good_batch}
use Rattle.dali_resume.proofs.Reached.{none_passes}
use Rattle.dali_recovery.specs.Laws.{IsBehind, IsHandedOut, outcome_of}
use Rattle.dali_recovery.specs.Standing.{Fails, HandsOn}
use Rattle.dali_recovery.specs.declared.error.RecoveryError.TheVariants.{Misfit}
use Rattle.dali_recovery.specs.declared.recovery.Recovered.{Recovered}
use Rattle.dali_recovery.specs.declared.recovery.Recovery.{Recovery}
use Rattle.dali_recovery.proofs.Whole.{hands_out_verdict, names_misfit}
use Rattle.dali_recovery.proofs.ReloadLemmas.Lists.{behind_some, drop_some, none_behind, records_with}

-- ---- the end
pub handed : (s : Sizes) (F : Files) (bs : List (List Record)) (x : Recovery) (o : Recovered) → IsBehind s F (records_of bs) x
    → list_all is_restarted_first bs ≡ true → HandsOn x o
    → (verdict_over s F bs ≡ HandedOut (outcome_of o)) × (o.number ≡ F.first + length (records_of bs)) × (o.next ≡ (goes_through s F (records_of bs)).known.next)
handed s F bs x o b first h =
    let same : records_of bs ≡ drop F.first (behind_some F.first (records_of bs)) = sym (drop_some F.first (records_of bs)) in
    let w : IsHandedOut s F (behind_some F.first (records_of bs)) o = hands_out_verdict s F (behind_some F.first (records_of bs)) x o (subst (λ Q. IsBehind s F Q x) same b) h in (
      (answers_over_batches s F (behind_some F.first (records_of bs)) bs same).0 ((finds_misplaced bs).0.1 first) ∙ w.verdict,
      w.number ∙ ap (λ (Q : List Record). F.first + length Q) (sym same),
      w.next ∙ ap (λ (Q : List Record). (goes_through s F Q).known.next) (sym same),
    )

-- ---- places that come late
abbrev IsLate : ℕ → Option ℕ → Type 0
IsLate n o = (j : ℕ) → o ≡ Some j → n ≤ j

further_some : (n : ℕ) (o : Option ℕ) (i : ℕ) → further n o ≡ Some i → (j : ℕ) × (o ≡ Some j) × (i ≡ n + j)
further_some n None i e = absurd (cc)
further_some n (Some j) i e = (j, refl, sym (some_same e))

late_further : (n m : ℕ) (o : Option ℕ) → IsLate m o → IsLate (n + m) (further n o)
late_further n m o late j e = let w = further_some n o j e in omega (arith, w.2, late w.0 w.1)

late_here : (n m : ℕ) (o : Option ℕ) → n ≤ m → IsLate n (further m o)
late_here n m o le j e = let w = further_some m o j e in omega (arith, w.2, le)

late_either : (n : ℕ) (o p : Option ℕ) → IsLate n o → IsLate n p → IsLate n (either_place o p)
late_either n None p a b = b
late_either n (Some i) p a b = a

earlier_first : (o p : Option ℕ) (i : ℕ) → o ≡ Some i → IsLate i p → earlier o p ≡ Some i
earlier_first o None i e late = ap (λ z. earlier z None) e
earlier_first o (Some j) i e late = ap (λ z. earlier z (Some j)) e ∙ ap (λ c. cond c (Some i) (Some j)) (le-leb i j (late j refl))

earlier_second : (o p : Option ℕ) (i : ℕ) → p ≡ Some i → IsLate i o → earlier o p ≡ Some i
earlier_second None p i e late = ap (λ z. earlier None z) e
earlier_second (Some a) p i e late = ap (λ z. earlier (Some a) z) e ∙ by_test (nat_le a i) refl
  where
    by_test : (c : Bool) → nat_le a i ≡ c → cond c (Some a) (Some i) ≡ Some i
    by_test true h = ap (λ n. Some n) (let same : a ≡ i = omega (arith, late a refl, leb-true a i h) in same)
    by_test false h = refl

-- ---- the rules
late_bad : (s : Sizes) (n : ℕ) (Q Z : List Record) (g k : Known) → tests s n g Q ≡ Some k → IsLate (length Q) (first_bad s n g (Q ++ Z))
late_bad s n [] Z g k e j f = omega arith
late_bad s n (q ∷ Q) Z g k e j f = by_test (λ z. late_bad s n Q Z (known_next g q) k z) (may_follow s n g q) refl e f
  where
    by_test : (tests s n (known_next g q) Q ≡ Some k → IsLate (length Q) (first_bad s n (known_next g q) (Q ++ Z)))
        → (b : Bool) → may_follow s n g q ≡ b → fold (test_next s n) (cond b (Some (known_next g q)) None) Q ≡ Some k
        → cond b (one_later (first_bad s n (known_next g q) (Q ++ Z))) (Some 0) ≡ Some j → length (q ∷ Q) ≤ j
    by_test later false h p z = absurd (none_passes s n Q k p)
    by_test later true h p z = let w = one_some (first_bad s n (known_next g q) (Q ++ Z)) j z in omega (arith, w.2, later p w.0 w.1)

named : (n k : ℕ) (o : Outcome) (p : Option ℕ) → verdict_by n o p ≡ NamedMisfit (n + k) → p ≡ Some k
named n k o None e = absurd (cc)
named n k o (Some i) e = ap (λ z. Some z) (let same : i ≡ k = omega (arith, misfit_same e) in same)
  where
    misfit_same : {a b : ℕ} → NamedMisfit a ≡ NamedMisfit b → a ≡ b
    misfit_same f = cc

bad_here : (s : Sizes) (F : Files) (Q Z : List Record) (x y : Recovery) (r : Record) → IsBehind s F Q x → Fails x y r Misfit
    → first_bad s F.first (known_at F.first F.next F.table) (Q ++ r ∷ Z) ≡ Some (length Q)
bad_here s F Q Z x y r b f =
    let L = behind_some F.first (Q ++ r ∷ Z) in
    let same : drop F.first L ≡ Q ++ r ∷ Z = drop_some F.first (Q ++ r ∷ Z) in
    ap (first_bad s F.first (known_at F.first F.next F.table)) (sym same)
    ∙ named F.first (length Q) (hands_on s (goes_through s F (drop F.first L))) (first_bad s F.first (known_at F.first F.next F.table) (drop F.first L)) (names_misfit s F L Q Z x y r b same f).0

-- ---- the places of restarts

further_zero : (o : Option ℕ) → o ≡ further 0 o
further_zero None = refl
further_zero (Some i) = ap (λ n. Some n) (let same : i ≡ 0 + i = omega arith in same)

further_twice : (a b : ℕ) (o : Option ℕ) → further a (further b o) ≡ further (a + b) o
further_twice a b None = refl
further_twice a b (Some i) = ap (λ n. Some n) (let same : a + (b + i) ≡ a + b + i = omega arith in same)

front_misplaced : (front more : List (List Record)) → list_all is_restarted_first front ≡ true
    → misplaced (front ++ more) ≡ further (length (records_of front)) (misplaced more)
front_misplaced [] more e = further_zero (misplaced more)
front_misplaced (b ∷ front) more e =
    ap (λ o. either_place o (further (length b) (misplaced (front ++ more)))) (good_batch b (left_true (is_restarted_first b) _ e))
    ∙ (ap (further (length b)) (front_misplaced front more (right_true (is_restarted_first b) _ e))
    ∙ (further_twice (length b) (length (records_of front)) (misplaced more)
    ∙ ap (λ n. further n (misplaced more)) (sym (length-append b (records_of front)))))

late_first : (ds X : List Record) → list_any is_restarted ds ≡ false → IsLate (length ds) (first_restarted (ds ++ X))
late_first [] X e j f = omega arith
late_first (d ∷ ds) X e j f = by_test (is_restarted d) (late_first ds X) e f
  where
    by_test : (c : Bool) → (list_any is_restarted ds ≡ false → IsLate (length ds) (first_restarted (ds ++ X))) → (c || list_any is_restarted ds) ≡ false
        → cond c (Some 0) (one_later (first_restarted (ds ++ X))) ≡ Some j → length (d ∷ ds) ≤ j
    by_test true later p z = absurd (cc)
    by_test false later p z = let w = one_some (first_restarted (ds ++ X)) j z in omega (arith, w.2, later p w.0 w.1)

late_in : (done X : List Record) → is_restarted_first done ≡ true → IsLate (length done) (misplaced_in (done ++ X))
late_in [] X e j f = omega arith
late_in (d ∷ ds) X e j f = let w = one_some (first_restarted (ds ++ X)) j f in omega (arith, w.2, late_first ds X (none_behind d ds e) w.0 w.1)

late_batch : (done X : List Record) (more : List (List Record)) → is_restarted_first done ≡ true → IsLate (length done) (misplaced ((done ++ X) ∷ more))
late_batch done X more e = late_either (length done) (misplaced_in (done ++ X)) (further (length (done ++ X)) (misplaced more)) (late_in done X e) (late_here (length done) (length (done ++ X)) (misplaced more) (omega (arith, length-append done X)))

first_here : (ds X : List Record) (r : Record) → list_any is_restarted ds ≡ false → is_restarted r ≡ true → first_restarted (ds ++ r ∷ X) ≡ Some (length ds)
first_here [] X r e is = ap (λ c. cond c (Some 0) (one_later (first_restarted X))) is
first_here (d ∷ ds) X r e is = by_test (is_restarted d) (λ z. first_here ds X r z is) e
  where
    by_test : (c : Bool) → (list_any is_restarted ds ≡ false → first_restarted (ds ++ r ∷ X) ≡ Some (length ds)) → (c || list_any is_restarted ds) ≡ false
        → cond c (Some 0) (one_later (first_restarted (ds ++ r ∷ X))) ≡ Some (length (d ∷ ds))
    by_test true later p = absurd (cc)
    by_test false later p = ap one_later (later p) ∙ ap (λ n. Some n) (let more : length ds + 1 ≡ length (d ∷ ds) = omega arith in more)

misplaced_here : (d : Record) (ds X : List Record) (r : Record) (more : List (List Record)) → is_restarted_first (d ∷ ds) ≡ true → is_restarted r ≡ true
    → misplaced (((d ∷ ds) ++ r ∷ X) ∷ more) ≡ Some (length (d ∷ ds))
misplaced_here d ds X r more e is =
    ap (λ o. either_place (one_later o) (further (length ((d ∷ ds) ++ r ∷ X)) (misplaced more))) (first_here ds X r (none_behind d ds e) is)
    ∙ ap (λ n. Some n) (let more : length ds + 1 ≡ length (d ∷ ds) = omega arith in more)

-- ---- the first that fails
module _ (s : Sizes) (F : Files) (front : List (List Record)) (done : List Record) (r : Record) (x : Recovery) (b : IsBehind s F (records_of front ++ done) x)
    (good : list_all is_restarted_first front ≡ true) (here : is_restarted_first done ≡ true) (rest : List Record) (more : List (List Record)) where
  abbrev pub whole : List (List Record)
  whole = front ++ (done ++ r ∷ rest) ∷ more

  abbrev pub number : ℕ
  number = length (records_of front ++ done)

  records_are : records_of whole ≡ (records_of front ++ done) ++ r ∷ (rest ++ records_of more)
  records_are =
      records_with front (done ++ r ∷ rest) more
      ∙ (ap (λ z. records_of front ++ z) (append_assoc done (r ∷ rest) (records_of more))
      ∙ sym (append_assoc (records_of front) done (r ∷ (rest ++ records_of more))))

  verdict_at : earlier (bad_of s F whole) (misplaced whole) ≡ Some number → verdict_over s F whole ≡ NamedMisfit (F.first + number)
  verdict_at e = ap (verdict_by F.first (hands_on s (goes_through s F (records_of whole)))) e

  known : (k : Known) × (tests s F.first (known_at F.first F.next F.table) (records_of front ++ done) ≡ Some k)
  known = some_of (tests s F.first (known_at F.first F.next F.table) (records_of front ++ done)) b.passed

  pub fails_rule : (y : Recovery) → Fails x y r Misfit → verdict_over s F whole ≡ NamedMisfit (F.first + number)
  fails_rule y f = verdict_at (earlier_first (bad_of s F whole) (misplaced whole) number bad late)
    where
      bad : bad_of s F whole ≡ Some number
      bad = ap (first_bad s F.first (known_at F.first F.next F.table)) records_are ∙ bad_here s F (records_of front ++ done) (rest ++ records_of more) x y r b f

      late : IsLate number (misplaced whole)
      late j e =
          let w = late_further (length (records_of front)) (length done) (misplaced ((done ++ r ∷ rest) ∷ more)) (late_batch done (r ∷ rest) more here) j (sym (front_misplaced front ((done ++ r ∷ rest) ∷ more) good) ∙ e) in
          omega (arith, w, length-append (records_of front) done)

  pub fails_place : (d : Record) (ds : List Record) → done ≡ d ∷ ds → is_restarted r ≡ true → verdict_over s F whole ≡ NamedMisfit (F.first + number)
  fails_place d ds e is = verdict_at (earlier_second (bad_of s F whole) (misplaced whole) number bad late)
    where
      bad : misplaced whole ≡ Some number
      bad =
          front_misplaced front ((done ++ r ∷ rest) ∷ more) good
          ∙ (ap (λ (z : List Record). further (length (records_of front)) (misplaced ((z ++ r ∷ rest) ∷ more))) e
          ∙ (ap (further (length (records_of front))) (misplaced_here d ds rest r more (subst (λ z. is_restarted_first z ≡ true) e here) is)
          ∙ ap (λ n. Some n) (let sum : length (records_of front) + length (d ∷ ds) ≡ number = omega (arith, length-append (records_of front) done, ap length e) in sum)))

      late : IsLate number (bad_of s F whole)
      late j f = late_bad s F.first (records_of front ++ done) (r ∷ (rest ++ records_of more)) (known_at F.first F.next F.table) known.0 known.1 j (sym (ap (first_bad s F.first (known_at F.first F.next F.table)) records_are) ∙ f)
