-- A recovery over whole lists of records.
use Rattle.std.proofs.Common.{◌≡◌, ℕ, ◌<◌, ◌≤◌, ◌+◌, ◌^◌, Bool, true, false, cond, List, [], ◌∷◌, ◌++◌, Option, Some, None, refl, ap, sym, subst, ◌∙◌, arith, length, drop}
use Rattle.std.specs.Prelude.{fold, not, ◌&&◌, IsSome, is_some, nat_le}
use Rattle.std.proofs.lemmas.Bool.{le-leb, leb-true, eq-eqb}
use Rattle.std.proofs.lemmas.List.Sums.{fold_push}
use Rattle.dali_lists.proofs.Options.{some_of}
use Rattle.dali_geometry.specs.Sizes.{Sizes}
use Rattle.dali_record.specs.declared.records.Record.{Record}
use Rattle.dali_record.specs.Files.{Files, is_restarted}
use Rattle.dali_record.specs.Legal.{sizes_of}
use Rattle.dali_history.specs.History.{RestartGives}
use Rattle.dali_resume.specs.Again.{Outcome}
use Rattle.dali_resume.specs.Batches.{bad_of, earlier, further, misplaced, records_of}
use Rattle.dali_resume.specs.Onward.{Going, HandedOut, IsResumed, IsRightAtEnd, Misfit as NamedMisfit, Verdict, goes_through, going_at, going_next, hands_on, history_says, verdict_by}
use Rattle.dali_resume.specs.Tests.{Known, first_bad, known_at, known_next, may_follow, one_later, same_numbers, test_next, tests}
use Rattle.dali_resume.proofs.Reached.{knows_alike, none_passes}
use Rattle.dali_resume.proofs.Stopped.{resumes_histories}
use Rattle.dali_resume.proofs.Through.{resumes_through}
use Rattle.dali_recovery.specs.Laws.{BeginsBehind, FitsLegal, HandsOutOverBatches, HandsOutVerdict, IsBehind, NamesMisfit, NamesOverBatches, NoneIsMisfit, RecoversHistory, RecoversLegal, ScansOn, StaysAssumed, TakesFurther, TellsUnscanned, damage_through, outcome_of}
use Rattle.dali_recovery.specs.Standing.{IsFor, IsHanded, SameDamage, Stands, Takes, is_unscanned, unscanned_by}
use Rattle.dali_recovery.specs.declared.scan.Scan.{Scan}
use Rattle.dali_recovery.specs.declared.recovery.Recovered.{Recovered}
use Rattle.dali_recovery.specs.declared.recovery.Recovery.{Recovery}

pub number_through : (s : Sizes) (n : ℕ) (Q : List Record) (c : Going) → (fold (going_next s n) c Q).known.number ≡ c.known.number + length Q
number_through s n [] c = omega arith
number_through s n (r ∷ Q) c = omega (arith, number_through s n Q (going_next s n c r))

pub begins_behind : BeginsBehind
begins_behind s F x st = record { stands = st; passed = refl }

-- what the tests know is what is gone through
known_is : (s : Sizes) (F : Files) (Q : List Record) → IsSome (tests s F.first (known_at F.first F.next F.table) Q) → tests s F.first (known_at F.first F.next F.table) Q ≡ Some (goes_through s F Q).known
known_is s F Q some =
    let k = some_of (tests s F.first (known_at F.first F.next F.table) Q) some in
    k.1 ∙ ap (λ z. Some z) (sym (knows_alike s F Q k.0 k.1))

pub takes_further : TakesFurther
takes_further s F Q x y r b t room =
    let w = t s F.first (goes_through s F Q) b.stands (subst (λ m. m + 1 < 2 ^ 64) (sym (number_through s F.first Q (going_at F))) room) in
    record {
      stands = subst (λ c. Stands s F.first y c) (sym (fold_push (going_next s F.first) (going_at F) Q r)) w.1;
      passed = ap is_some (
          fold_push (test_next s F.first) (Some (known_at F.first F.next F.table)) Q r
          ∙ (ap (λ o. test_next s F.first o r) (known_is s F Q b.passed)
          ∙ ap (λ z. cond z (Some (known_next (goes_through s F Q).known r)) None) w.0));
    }

-- without a scan there is none behind it either
pub plain_further : (s : Sizes) (F : Files) (Q : List Record) (x y : Recovery) (r : Record) → IsBehind s F Q x → Takes x y r → F.first + length Q + 1 < 2 ^ 64 → x.scan ≡ None → y.scan ≡ None
plain_further s F Q x y r b t room none =
    by_kind (t s F.first (goes_through s F Q) b.stands (subst (λ m. m + 1 < 2 ^ 64) (sym (number_through s F.first Q (going_at F))) room)).2
    (t s F.first (goes_through s F Q) b.stands (subst (λ m. m + 1 < 2 ^ 64) (sym (number_through s F.first Q (going_at F))) room)).3 (is_restarted r) refl
  where
    by_kind : (is_restarted r ≡ false → SameDamage x.scan y.scan) → (is_restarted r ≡ true → y.scan ≡ None) → (k : Bool) → is_restarted r ≡ k → y.scan ≡ None
    by_kind within behind true e = behind e
    by_kind within behind false e = subst (λ (o : Option Scan). SameDamage o y.scan) none (within e)

-- ---- a record that may not follow
bad_behind : (s : Sizes) (n : ℕ) (Q Z : List Record) (g k : Known) (r : Record) → tests s n g Q ≡ Some k → may_follow s n k r ≡ false → first_bad s n g (Q ++ r ∷ Z) ≡ Some (length Q)
bad_behind s n [] Z g k r e bad =
    let same : may_follow s n g r ≡ false = subst (λ h. may_follow s n h r ≡ false) (sym (some_known g k e)) bad in
    ap (λ b. cond b (one_later (first_bad s n (known_next g r) Z)) (Some 0)) same
  where
    some_known : (g k : Known) → Some g ≡ Some k → g ≡ k
    some_known g k q = cc
bad_behind s n (q ∷ Q) Z g k r e bad = by_test (λ f. bad_behind s n Q Z (known_next g q) k r f bad) (may_follow s n g q) refl e
  where
    by_test : (tests s n (known_next g q) Q ≡ Some k → first_bad s n (known_next g q) (Q ++ r ∷ Z) ≡ Some (length Q))
        → (b : Bool) → may_follow s n g q ≡ b → fold (test_next s n) (cond b (Some (known_next g q)) None) Q ≡ Some k → first_bad s n g (q ∷ Q ++ r ∷ Z) ≡ Some (length (q ∷ Q))
    by_test later false h f = absurd (none_passes s n Q k f)
    by_test later true h f =
        ap (λ b. cond b (one_later (first_bad s n (known_next g q) (Q ++ r ∷ Z))) (Some 0)) h
        ∙ (ap one_later (later f) ∙ ap (λ m. Some m) (let more : length Q + 1 ≡ length (q ∷ Q) = omega arith in more))

pub names_misfit : NamesMisfit
names_misfit s F L Q Z x y r b at f =
    let bad = f.0 s F.first (goes_through s F Q) b.stands in (
      ap (verdict_by F.first (hands_on s (goes_through s F (drop F.first L)))) (ap (first_bad s F.first (known_at F.first F.next F.table)) at ∙ bad_behind s F.first Q Z (known_at F.first F.next F.table) (goes_through s F Q).known r (known_is s F Q b.passed) bad),
      record { stands = f.1 s F.first (goes_through s F Q) b.stands; passed = b.passed },
    )

same_list : (xs : List ℕ) → same_numbers xs xs ≡ true
same_list [] = refl
same_list (x ∷ xs) = ap (λ b. b && same_numbers xs xs) (eq-eqb x x refl) ∙ same_list xs

assumes_right : (o : Option Scan) (failed : Bool) (clean m : ℕ) (failing rs : List ℕ) → IsFor clean failing o → m ≡ clean → rs ≡ failing → unscanned_by o failed m rs ≡ false
assumes_right None failed clean m failing rs h e f = absurd h
assumes_right (Some z) failed clean m failing rs h e f =
    ap (λ b. not (b && same_numbers z.failing.items rs)) (eq-eqb z.clean m (h.0 ∙ sym e))
    ∙ ap (λ b. not b) (ap (λ us. same_numbers us rs) (h.1 ∙ sym f) ∙ same_list rs)

pub tells_unscanned : TellsUnscanned
tells_unscanned s F Q x b = (
  λ none. (λ h. sym b.stands.failed ∙ (sym (plain none) ∙ h), λ h. plain none ∙ (b.stands.failed ∙ h)),
  λ h. assumes_right x.scan x.failed (damage_through s F Q).clean x.clean (damage_through s F Q).failing x.failing.items h b.stands.clean b.stands.failing,
)
  where
    plain : x.scan ≡ None → is_unscanned x ≡ x.failed
    plain none = ap (λ o. unscanned_by o x.failed x.clean x.failing.items) none

pub scans_behind : ScansOn
scans_behind s F Q x y clean failing b f = (record { stands = f.stands s F.first (goes_through s F Q) b.stands; passed = b.passed }, f.assumes)

same_for : (o q : Option Scan) (clean : ℕ) (failing : List ℕ) → SameDamage o q → IsFor clean failing o → IsFor clean failing q
same_for None q clean failing h f = absurd f
same_for (Some z) None clean failing h f = absurd h
same_for (Some z) (Some w) clean failing h f = (h.0 ∙ f.0, h.1 ∙ f.1)

pub stays_assumed : StaysAssumed
stays_assumed s F Q x y r clean failing b t room inside f =
    same_for x.scan y.scan clean failing ((t s F.first (goes_through s F Q) b.stands (subst (λ m. m + 1 < 2 ^ 64) (sym (number_through s F.first Q (going_at F))) room)).2 inside) f

-- ---- the end
none_bad : (s : Sizes) (n : ℕ) (Q : List Record) (g k : Known) → tests s n g Q ≡ Some k → first_bad s n g Q ≡ None
none_bad s n [] g k e = refl
none_bad s n (q ∷ Q) g k e = by_test (λ f. none_bad s n Q (known_next g q) k f) (may_follow s n g q) refl e
  where
    by_test : (tests s n (known_next g q) Q ≡ Some k → first_bad s n (known_next g q) Q ≡ None)
        → (b : Bool) → may_follow s n g q ≡ b → fold (test_next s n) (cond b (Some (known_next g q)) None) Q ≡ Some k → first_bad s n g (q ∷ Q) ≡ None
    by_test later false h f = absurd (none_passes s n Q k f)
    by_test later true h f = ap (λ b. cond b (one_later (first_bad s n (known_next g q) Q)) (Some 0)) h ∙ ap one_later (later f)

outcome_is : (s : Sizes) (c : Going) (o : Recovered) → IsHanded s c o → hands_on s c ≡ outcome_of o
outcome_is s c o h = ap3 h.image h.rolled h.deleted
  where
    ap3 : {a b : List (List ℕ)} {p q : List ℕ} {u v : List ℕ} → a ≡ b → p ≡ q → u ≡ v
        → (let z : Outcome = record { image = b; rolled = q; deleted = v } in z) ≡ (let z : Outcome = record { image = a; rolled = p; deleted = u } in z)
    ap3 {a = a} {b = b} {p = p} {q = q} {u = u} {v = v} e f g =
        ap (λ im. let z : Outcome = record { image = im; rolled = q; deleted = v } in z) (sym e)
        ∙ (ap (λ rs. let z : Outcome = record { image = a; rolled = rs; deleted = v } in z) (sym f)
        ∙ ap (λ ds. let z : Outcome = record { image = a; rolled = p; deleted = ds } in z) (sym g))

pub hands_out_verdict : HandsOutVerdict
hands_out_verdict s F L x o b h =
    let Q = drop F.first L in
    let w : IsHanded s (goes_through s F Q) o = h s F.first (goes_through s F Q) b.stands in
    record {
      verdict =
          ap (verdict_by F.first (hands_on s (goes_through s F Q))) (none_bad s F.first Q (known_at F.first F.next F.table) (goes_through s F Q).known (known_is s F Q b.passed))
          ∙ ap (λ z. HandedOut z) (outcome_is s (goes_through s F Q) o w);
      number = w.number ∙ number_through s F.first Q (going_at F);
      next = w.next;
    }

-- ---- batches
-- behind records that pass, the place of the first that doesn't is told from there on
bad_later : (s : Sizes) (n : ℕ) (Q R : List Record) (g k : Known) → tests s n g Q ≡ Some k → first_bad s n g (Q ++ R) ≡ further (length Q) (first_bad s n k R)
bad_later s n [] R g k e = ap (λ h. first_bad s n h R) (some_known g k e) ∙ sym (zero_further (first_bad s n k R))
  where
    some_known : (g k : Known) → Some g ≡ Some k → g ≡ k
    some_known g k q = cc

    zero_further : (o : Option ℕ) → further 0 o ≡ o
    zero_further None = refl
    zero_further (Some i) = ap (λ m. Some m) (let same : 0 + i ≡ i = omega arith in same)
bad_later s n (q ∷ Q) R g k e = by_test (λ f. bad_later s n Q R (known_next g q) k f) (may_follow s n g q) refl e
  where
    one_more : (o : Option ℕ) → one_later (further (length Q) o) ≡ further (length (q ∷ Q)) o
    one_more None = refl
    one_more (Some i) = ap (λ m. Some m) (let more : length Q + i + 1 ≡ length (q ∷ Q) + i = omega arith in more)

    by_test : (tests s n (known_next g q) Q ≡ Some k → first_bad s n (known_next g q) (Q ++ R) ≡ further (length Q) (first_bad s n k R))
        → (b : Bool) → may_follow s n g q ≡ b → fold (test_next s n) (cond b (Some (known_next g q)) None) Q ≡ Some k → first_bad s n g (q ∷ Q ++ R) ≡ further (length (q ∷ Q)) (first_bad s n k R)
    by_test later false h f = absurd (none_passes s n Q k f)
    by_test later true h f = ap (λ b. cond b (one_later (first_bad s n (known_next g q) (Q ++ R))) (Some 0)) h ∙ (ap one_later (later f) ∙ one_more (first_bad s n k R))

-- of two places the earlier one
earlier_here : (n : ℕ) (o : Option ℕ) → earlier (further n o) (Some n) ≡ Some n
earlier_here n None = refl
earlier_here n (Some i) = by_test (nat_le (n + i) n) refl
  where
    by_test : (b : Bool) → nat_le (n + i) n ≡ b → cond b (Some (n + i)) (Some n) ≡ Some n
    by_test true e = ap (λ m. Some m) (let low : n + i ≤ n = leb-true (n + i) n e in omega (arith, low))
    by_test false e = refl

earlier_there : (n : ℕ) (o : Option ℕ) → ((j : ℕ) → o ≡ Some j → n ≤ j) → earlier (Some n) o ≡ Some n
earlier_there n None h = refl
earlier_there n (Some j) h = ap (λ b. cond b (Some n) (Some j)) (le-leb n j (h j refl))

pub names_over_batches : NamesOverBatches
names_over_batches s F bs Q Z x r b at = (
  λ e. ap (verdict_by F.first (hands_on s (goes_through s F (records_of bs)))) (ap (λ o. earlier (bad_of s F bs) o) e ∙ (ap (λ o. earlier o (Some (length Q))) bad ∙ earlier_here (length Q) (first_bad s F.first (goes_through s F Q).known (r ∷ Z)))),
  λ y f low. ap (verdict_by F.first (hands_on s (goes_through s F (records_of bs)))) (ap (λ o. earlier o (misplaced bs)) (there (f.0 s F.first (goes_through s F Q) b.stands)) ∙ earlier_there (length Q) (misplaced bs) low),
)
  where
    bad : bad_of s F bs ≡ further (length Q) (first_bad s F.first (goes_through s F Q).known (r ∷ Z))
    bad = ap (first_bad s F.first (known_at F.first F.next F.table)) at ∙ bad_later s F.first Q (r ∷ Z) (known_at F.first F.next F.table) (goes_through s F Q).known (known_is s F Q b.passed)

    there : may_follow s F.first (goes_through s F Q).known r ≡ false → bad_of s F bs ≡ Some (length Q)
    there no_more = ap (first_bad s F.first (known_at F.first F.next F.table)) at ∙ bad_behind s F.first Q Z (known_at F.first F.next F.table) (goes_through s F Q).known r (known_is s F Q b.passed) no_more

pub hands_out_over_batches : HandsOutOverBatches
hands_out_over_batches s F bs x o b none h =
    ap (verdict_by F.first (hands_on s (goes_through s F (records_of bs))))
    (ap (λ z. earlier (bad_of s F bs) z) none ∙ ap (λ z. earlier z None) (none_bad s F.first (records_of bs) (known_at F.first F.next F.table) (goes_through s F (records_of bs)).known (known_is s F (records_of bs) b.passed)))
    ∙ ap (λ z. HandedOut z) (outcome_is s (goes_through s F (records_of bs)) o (h s F.first (goes_through s F (records_of bs)) b.stands))

-- ---- a legal log
right : (s : Sizes) (K Z : List Record) (F : Files) → FitsLegal s K Z F → IsRightAtEnd s (K ++ Z) F (goes_through s F (drop F.first (K ++ Z)))
right s K Z F f = resumes_through s K Z F f.index f.heap f.front f.some f.legal f.spelled

apart : (o : Outcome) (m : ℕ) (v : Verdict) → v ≡ HandedOut o → v ≡ NamedMisfit m → ⊥
apart o m v e f = let bad : HandedOut o ≡ NamedMisfit m = sym e ∙ f in absurd (cc)

pub none_is_misfit : NoneIsMisfit
none_is_misfit s K Z F Q R x y r f at b e = apart _ _ _ (right s K Z F f).verdict (names_misfit s F (K ++ Z) Q R x y r b at e).0

pub recovers_legal : RecoversLegal
recovers_legal s K Z F x o f b h =
    let c = goes_through s F (drop F.first (K ++ Z)) in
    let w : IsHanded s (goes_through s F (drop F.first (K ++ Z))) o = h s F.first c b.stands in
    let all = right s K Z F f in
    record {
      resumed = subst (λ u. IsResumed s (K ++ Z) F.first u) (outcome_is s c o w) all.resumed;
      number = w.number ∙ all.number;
      next = w.next ∙ all.next;
    }

pub handed_same : (o p : Outcome) → HandedOut o ≡ HandedOut p → o ≡ p
handed_same o p e = cc

pub recovers_history : RecoversHistory
recovers_history K Z F x o history some front more b h =
    let w = resumes_histories K Z F history some front more in
    let same : history_says (K ++ Z) ≡ outcome_of o = handed_same _ _ (sym w.0 ∙ (hands_out_verdict (sizes_of K) F (K ++ Z) x o b h).verdict) in
    subst (λ (u : Outcome). RestartGives (K ++ Z) u.image u.rolled u.deleted) same w.1
