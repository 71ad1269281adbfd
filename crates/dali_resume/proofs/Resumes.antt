-- What a restart makes of an image is computed from its table and the records behind it.
use Rattle.std.proofs.Common.{◌≡◌, ℕ, zero, suc, ◌+◌, ◌-◌, ◌≤◌, Bool, true, false, cond, List, [], ◌∷◌, ◌++◌, length, take, drop, Option, Some, None, refl, ap, sym, subst, ◌∙◌, ⊎_elim, arith}
use Rattle.std.specs.Prelude.{not, ◌&&◌, ◌||◌, ◌==◌, fold, filter, map, nat_le}
use Rattle.std.proofs.lemmas.List.{take-append-drop, take-append-le, take_all, append_cancel_left}
use Rattle.std.proofs.lemmas.List.Sums.{fold-append}
use Rattle.std.proofs.lemmas.List.Elements.{filter-append, filter_map-append}
use Rattle.std.proofs.lemmas.Bool.{or_left, or_right, or_cases, both_ways, false_from_ne_true, and_parts, eq-eqb, eqb-true, leb-true}
use Rattle.dali_geometry.specs.Sizes.{Sizes}
use Rattle.dali_record.specs.declared.operations.Pending.{Pending}
use Rattle.dali_record.specs.declared.records.Record.{Record}
use Rattle.dali_record.specs.declared.records.Record.TheVariants.{Forward, Back}
use Rattle.dali_record.specs.Log.{Touch, touch_of, touch_at, begun, begin_by, committed, commit_by, ended, ended_by, undos_of, undo_step}
use Rattle.dali_record.specs.Damage.{Damage, has, any_touch, marks, mark_step, has_corrupt, kept_from, kept}
use Rattle.dali_record.specs.Settled.{redo_all}
use Rattle.dali_record.specs.Files.{Row, row_of}
use Rattle.dali_record.specs.Scan.{GivesUndos}
use Rattle.dali_record.proofs.Chains.{marks-records, chain_ascends}
use Rattle.dali_record.proofs.Keeping.{before_corrupt-none}
use Rattle.dali_record.proofs.Recovery.{has_to_corrupt}
use Rattle.dali_record.proofs.Survivors.{has_filter, filter_same}
use Rattle.dali_history.specs.Recovered.{roll_back, freed, undos_left}
use Rattle.dali_history.proofs.Members.{has_append, has-filter, has-filter_from, fold_within}
use Rattle.dali_crash.proofs.FromImage.{kept_append, step_more}
use Rattle.dali_resume.specs.Resumed.{row_undos, row_committed, Scan, scan_step, scan_start, begun_by, committed_by, losers_by, rolled_by, deleted_by, recovered_by}
use Rattle.dali_resume.proofs.Scanned.{Knows, all_kept, Carries, ReadsSmall, knows_scan}
use Rattle.dali_resume.proofs.Standing.{Stood, HasNoBlock}

-- ---- lists
filter_skip : (p keep : ℕ → Bool) (xs : List ℕ) → ((t : ℕ) → has xs t ≡ true → keep t ≡ false → p t ≡ false) → filter p xs ≡ filter p (filter keep xs)
filter_skip p keep [] h = refl
filter_skip p keep (x ∷ xs) h = by_keep (filter_skip p keep xs (λ t e. h t (or_right (x == t) (has xs t) e))) (keep x) refl
  where
    by_test : filter p xs ≡ filter p (filter keep xs) → (b : Bool) → cond b (x ∷ filter p xs) (filter p xs) ≡ cond b (x ∷ filter p (filter keep xs)) (filter p (filter keep xs))
    by_test rest true = ap (λ ys. x ∷ ys) rest
    by_test rest false = rest

    by_keep : filter p xs ≡ filter p (filter keep xs) → (k : Bool) → keep x ≡ k → filter p (x ∷ xs) ≡ filter p (filter keep (x ∷ xs))
    by_keep rest true e = rw e (by_test rest (p x))
    by_keep rest false e = rw (e, h x (or_left (x == x) (has xs x) (eq-eqb x x refl)) e) rest

fold_skip : {X : Type 0} (f : X → ℕ → X) (p keep : ℕ → Bool) (xs : List ℕ) → ((t : ℕ) → has xs t ≡ true → keep t ≡ false → p t ≡ true → (x : X) → f x t ≡ x) → (x : X) → fold f x (filter p xs) ≡ fold f x (filter p (filter keep xs))
fold_skip f p keep [] h x = refl
fold_skip {X = X} f p keep (y ∷ xs) h x = by_keep (fold_skip f p keep xs (λ t e. h t (or_right (y == t) (has xs t) e))) (keep y) refl
  where
    by_both : ((z : X) → fold f z (filter p xs) ≡ fold f z (filter p (filter keep xs))) → (b : Bool) → fold f x (cond b (y ∷ filter p xs) (filter p xs)) ≡ fold f x (cond b (y ∷ filter p (filter keep xs)) (filter p (filter keep xs)))
    by_both rest true = rest (f x y)
    by_both rest false = rest x

    by_one : keep y ≡ false → ((z : X) → fold f z (filter p xs) ≡ fold f z (filter p (filter keep xs))) → (b : Bool) → p y ≡ b → fold f x (cond b (y ∷ filter p xs) (filter p xs)) ≡ fold f x (filter p (filter keep xs))
    by_one e rest true g = ap (λ z. fold f z (filter p xs)) (h y (or_left (y == y) (has xs y) (eq-eqb y y refl)) e g x) ∙ rest x
    by_one e rest false g = rest x

    by_keep : ((z : X) → fold f z (filter p xs) ≡ fold f z (filter p (filter keep xs))) → (k : Bool) → keep y ≡ k → fold f x (filter p (y ∷ xs)) ≡ fold f x (filter p (filter keep (y ∷ xs)))
    by_keep rest true e = rw e (by_both rest (p y))
    by_keep rest false e = rw e (by_one e rest (p y) refl)

touch_behind : (P R : List Record) (n : ℕ) (a : Touch) → length P ≤ n → touch_at (P ++ R) n ≡ Some a → touch_at R (n - length P) ≡ Some a
touch_behind [] R n a h e = let same : n - 0 ≡ n = omega arith in rw same e
touch_behind (p ∷ P) R zero a h e = absurd (omega (arith, h))
touch_behind (p ∷ P) R (suc n) a h e = let same : suc n - length (p ∷ P) ≡ n - length P = omega arith in rw same (touch_behind P R n a (omega (arith, h)) e)

-- ---- the table
-- the transactions of the table
abbrev pub running : List Record → List ℕ
running P = filter (λ t. not (has (ended P) t)) (begun P)

abbrev pub table_of : List Record → List Row
table_of P = map (row_of P) (running P)

row_txns : (P : List Record) (ts : List ℕ) → map (λ w. w.txn) (map (row_of P) ts) ≡ ts
row_txns P [] = refl
row_txns P (t ∷ ts) = ap (λ us. t ∷ us) (row_txns P ts)

row_undos_is : (P : List Record) (ts : List ℕ) (t : ℕ) → row_undos (map (row_of P) ts) t ≡ cond (has ts t) (cond (has (committed P) t) [] (undos_of t P)) []
row_undos_is P [] t = refl
row_undos_is P (u ∷ ts) t = by_test (row_undos_is P ts t) (u == t) refl
  where
    by_test : row_undos (map (row_of P) ts) t ≡ cond (has ts t) (cond (has (committed P) t) [] (undos_of t P)) [] → (b : Bool) → (u == t) ≡ b → row_undos (map (row_of P) (u ∷ ts)) t ≡ cond (has (u ∷ ts) t) (cond (has (committed P) t) [] (undos_of t P)) []
    by_test ih true e = rw e (ap (λ v. cond (has (committed P) v) [] (undos_of v P)) (eqb-true u t e))
    by_test ih false e = rw e ih

row_committed_is : (P : List Record) (ts : List ℕ) (t : ℕ) → row_committed (map (row_of P) ts) t ≡ (has ts t && has (committed P) t)
row_committed_is P [] t = refl
row_committed_is P (u ∷ ts) t = by_test (row_committed_is P ts t) (u == t) refl
  where
    same : (a b : Bool) → (a || (b && a)) ≡ a
    same true b = refl
    same false true = refl
    same false false = refl

    by_test : row_committed (map (row_of P) ts) t ≡ (has ts t && has (committed P) t) → (b : Bool) → (u == t) ≡ b → row_committed (map (row_of P) (u ∷ ts)) t ≡ (has (u ∷ ts) t && has (committed P) t)
    by_test ih true e = rw (e, ih) (ap (λ v. has (committed P) v || (has ts t && has (committed P) t)) (eqb-true u t e) ∙ same (has (committed P) t) (has ts t))
    by_test ih false e = rw (e, ih) refl

pub has_running : (P : List Record) (t : ℕ) → has (running P) t ≡ (not (has (ended P) t) && has (begun P) t)
has_running P t = has_filter (λ u. not (has (ended P) u)) (begun P) t

-- ---- records without a block of t
undo_step-untouched : (t : ℕ) (us : List Pending) (r : Record) → any_touch (λ a. a.txn == t) (touch_of r) ≡ false → undo_step t us r ≡ us
undo_step-untouched t us (Forward u b) e = rw e refl
undo_step-untouched t us (Back u b) e = rw e refl
undo_step-untouched t us _ e = refl

undos_untouched : (t : ℕ) (us : List Pending) (R : List Record) → HasNoBlock t R → fold (undo_step t) us R ≡ us
undos_untouched t us [] h = refl
undos_untouched t us (r ∷ R) h = ap (λ vs. fold (undo_step t) vs R) (undo_step-untouched t us r (none (touch_of r) refl)) ∙ undos_untouched t us R (λ i a e. h (suc i) a e)
  where
    none : (o : Option Touch) → touch_of r ≡ o → any_touch (λ a. a.txn == t) o ≡ false
    none None e = refl
    none (Some a) e = false_from_ne_true (a.txn == t) (λ g. h 0 a e (eqb-true a.txn t g))

-- ---- an epoch's records P before the image's number, and R from it on
module _ (d : Damage) (P R : List Record) (early : d.first + length P ≤ d.clean) (gives : GivesUndos (P ++ R)) (small : ReadsSmall R) (stands : (t : ℕ) → Stood P R t) where
  abbrev E : List Record
  E = P ++ R

  abbrev rows : List Row
  rows = table_of P

  abbrev ms : List (Record × Bool)
  ms = marks d (P ++ R)

  abbrev c : Scan
  c = fold (scan_step d) (scan_start (d.first + length P) (table_of P)) R

  pub absent : (t : ℕ) → has (begun P) t ≡ false → undos_of t P ≡ [] → undos_of t P ≡ row_undos (table_of P) t
  absent t b us = us ∙ sym (row_undos_is P (running P) t ∙ ap (λ x. cond x (cond (has (committed P) t) [] (undos_of t P)) []) (has_running P t ∙ ap (λ x. not (has (ended P) t) && x) b ∙ none (not (has (ended P) t))))
    where
      none : (x : Bool) → (x && false) ≡ false
      none true = refl
      none false = refl

  pub present : (t : ℕ) → has (running P) t ≡ true → has (committed P) t ≡ false → undos_of t P ≡ row_undos (table_of P) t
  present t h k = sym (row_undos_is P (running P) t ∙ rw (h, k) refl)

  pub carries : Carries P (table_of P) R
  carries i a e = ⊎_elim (λ w. present a.txn (has_running P a.txn ∙ rw (w.2, w.0) refl) w.1) (λ w. absent a.txn w.0 w.1) ((stands a.txn).block i a e refl)

  pub knows : Knows d P (table_of P) (P ++ R) (fold (scan_step d) (scan_start (d.first + length P) (table_of P)) R)
  knows = knows_scan d P (table_of P) early R gives small carries

  -- a corrupt transaction has a block among R
  corrupt_block : (t : ℕ) → has_corrupt (marks d (P ++ R)) t ≡ true → HasNoBlock t R → ⊥
  corrupt_block t h none =
      let w = has_to_corrupt d (P ++ R) t h in
      let f = w.4.2 in
      let p = and_parts (nat_le d.clean (d.first + w.4.0) && has d.failing f.0.block.region) (not (f.0.block.read == 0)) f.2 in
      let q = and_parts (nat_le d.clean (d.first + w.4.0)) (has d.failing f.0.block.region) p.0 in
      let late : length P ≤ w.0 = omega (arith, leb-true d.clean (d.first + w.4.0) q.0, early, chain_ascends (P ++ R) w.4.0 w.4.1 w.0 w.4.3) in
      none (w.0 - length P) w.1 (touch_behind P R w.0 w.1 late w.2) w.3

  uncorrupted : (t : ℕ) → HasNoBlock t R → has_corrupt (marks d (P ++ R)) t ≡ false
  uncorrupted t none = false_from_ne_true (has_corrupt (marks d (P ++ R)) t) (λ h. corrupt_block t h none)

  -- ---- the records that are written
  pub kept_is : kept_from (take (length P) (marks d (P ++ R))) (drop (length P) (marks d (P ++ R))) ≡ c.kept
  kept_is = append_cancel_left P (kept_from (take (length P) ms) (drop (length P) ms)) c.kept
      (ap (λ L. L ++ kept_from (take (length P) ms) (drop (length P) ms)) (sym front)
      ∙ (sym (kept_append [] (take (length P) ms) (drop (length P) ms))
      ∙ (ap kept (take-append-drop (length P) ms) ∙ knows.kept)))
    where
      more : (Z : List (Record × Bool)) × (ms ≡ marks d P ++ Z)
      more = let w = step_more d (marks d P) R in (w.0, fold-append (mark_step d) [] P R ∙ w.1)

      size : length (marks d P) ≡ length P
      size = sym (length_recs (marks d P)) ∙ ap length (marks-records d P)
        where
          length_recs : (ns : List (Record × Bool)) → length (map (λ m. m.0) ns) ≡ length ns
          length_recs [] = refl
          length_recs (n ∷ ns) = ap suc (length_recs ns)

      front : kept_from [] (take (length P) ms) ≡ P
      front = ap (kept_from []) (ap (take (length P)) more.1 ∙ take-append-le (length P) (marks d P) more.0 (omega (arith, size)) ∙ take_all (length P) (marks d P) (omega (arith, size))) ∙ all_kept d P early

  -- ---- the lists
  pub committed_is : (t : ℕ) → has (committed (P ++ R)) t ≡ (has (committed P) t || has (committed R) t)
  committed_is t = ap (λ ts. has ts t) (filter_map-append commit_by P R) ∙ has_append (committed P) (committed R) t

  ended_is : (t : ℕ) → has (ended (P ++ R)) t ≡ (has (ended P) t || has (ended R) t)
  ended_is t = ap (λ ts. has ts t) (filter_map-append ended_by P R) ∙ has_append (ended P) (ended R) t

  in_running : (t : ℕ) → has (running P) t ≡ true → (has (ended P) t ≡ false)
  in_running t h = by_test (has (ended P) t) refl
    where
      by_test : (b : Bool) → has (ended P) t ≡ b → b ≡ false
      by_test true e = let g : (not true && has (begun P) t) ≡ true = subst (λ x. (not x && has (begun P) t) ≡ true) e (sym (has_running P t) ∙ h) in absurd (cc)
      by_test false e = refl

  pub running_committed : (t : ℕ) → has (running P) t ≡ true → has (committed (P ++ R)) t ≡ committed_by (table_of P) R t
  running_committed t h = committed_is t ∙ ap (λ x. x || has (committed R) t) (sym (row_committed_is P (running P) t ∙ rw h refl))

  pub begun_committed : (t : ℕ) → has (begun R) t ≡ true → has (committed (P ++ R)) t ≡ committed_by (table_of P) R t
  begun_committed t h =
      let w = (stands t).began h in
      committed_is t ∙ ap (λ x. x || has (committed R) t) (w.1 ∙ sym (row_committed_is P (running P) t ∙ rw w.1 (none (has (running P) t))))
    where
      none : (x : Bool) → (x && false) ≡ false
      none true = refl
      none false = refl

  begun_is : begun (P ++ R) ≡ begun P ++ begun R
  begun_is = filter_map-append begin_by P R

  pub begun_by_is : begun_by (table_of P) R ≡ running P ++ begun R
  begun_by_is = ap (λ ts. ts ++ begun R) (row_txns P (running P))

  -- a test that fails for all that ended, and agrees elsewhere
  pub filtered : (p q : ℕ → Bool) → ((t : ℕ) → has (ended P) t ≡ true → p t ≡ false) → ((t : ℕ) → has (running P) t ≡ true → p t ≡ q t) → ((t : ℕ) → has (begun R) t ≡ true → p t ≡ q t)
      → filter p (begun (P ++ R)) ≡ filter q (begun_by (table_of P) R)
  filtered p q gone run new =
      ap (filter p) begun_is ∙ (filter-append p (begun P) (begun R)
      ∙ (ap (λ ts. ts ++ filter p (begun R)) (filter_skip p (λ t. not (has (ended P) t)) (begun P) (λ t h e. gone t (is_true (has (ended P) t) e)) ∙ filter_same p q (running P) run)
      ∙ (ap (λ ts. filter q (running P) ++ ts) (filter_same p q (begun R) new)
      ∙ (sym (filter-append q (running P) (begun R)) ∙ ap (filter q) (sym begun_by_is)))))
    where
      is_true : (x : Bool) → not x ≡ false → x ≡ true
      is_true true e = refl
      is_true false e = sym e

  pub rolled_is : filter (λ t. not (has (committed (P ++ R)) t) && not (has (ended (P ++ R)) t)) (begun (P ++ R)) ≡ rolled_by (table_of P) R
  rolled_is = filtered _ _
      (λ t e. rw (ended_is t, e) (none (not (has (committed (P ++ R)) t))))
      (λ t h. rw (running_committed t h, ended_is t, in_running t h) refl)
      (λ t h. rw (begun_committed t h, ended_is t, ((stands t).began h).2) refl)
    where
      none : (x : Bool) → (x && false) ≡ false
      none true = refl
      none false = refl

  pub deleted_is : filter (λ t. has (committed (P ++ R)) t && has_corrupt (marks d (P ++ R)) t) (begun (P ++ R)) ≡ deleted_by (table_of P) R c
  deleted_is = filtered _ _
      (λ t e. rw (uncorrupted t ((stands t).over e).1) (none (has (committed (P ++ R)) t)))
      (λ t h. rw (running_committed t h, knows.corrupt t) refl)
      (λ t h. rw (begun_committed t h, knows.corrupt t) refl)
    where
      none : (x : Bool) → (x && false) ≡ false
      none true = refl
      none false = refl

  -- ---- the undos
  loses : ℕ → Bool
  loses t = has_corrupt (marks d (P ++ R)) t || not (has (committed (P ++ R)) t)

  loses_by : ℕ → Bool
  loses_by t = c.corrupt t || not (committed_by (table_of P) R t)

  -- a transaction that had committed before isn't rolled back
  uncommitted : (t : ℕ) → (has_corrupt (marks d (P ++ R)) t || not (has (committed (P ++ R)) t)) ≡ true → has (committed P) t ≡ false
  uncommitted t h = false_from_ne_true (has (committed P) t) (λ k. by_parts k (uncorrupted t ((stands t).done k)))
    where
      by_parts : has (committed P) t ≡ true → has_corrupt (marks d (P ++ R)) t ≡ false → ⊥
      by_parts k f = let g : false ≡ true = rw (f, committed_is t, k) at h in cc

  undos_is : (t : ℕ) → undos_of t P ≡ row_undos (table_of P) t → undos_left (marks d (P ++ R)) t ≡ c.undos t
  undos_is t row = sym (knows.undos t row)

  -- one that had ended before has none left
  none_left : (t : ℕ) → has (ended P) t ≡ true → (has_corrupt (marks d (P ++ R)) t || not (has (committed (P ++ R)) t)) ≡ true → undos_left (marks d (P ++ R)) t ≡ []
  none_left t e h =
      let w = (stands t).over e in
      let clean : has_corrupt (marks d (P ++ R)) t ≡ false = uncorrupted t w.1 in
      ap (undos_of t) (before_corrupt-none d (P ++ R) t clean) ∙ (fold-append (undo_step t) [] P R ∙ (undos_untouched t (undos_of t P) R w.1 ∙ w.0 (uncommitted t h)))

  pub rolled_back_is : (im : List (List ℕ))
      → fold (λ x t. roll_back x (undos_left (marks d (P ++ R)) t)) im (filter (λ t. has_corrupt (marks d (P ++ R)) t || not (has (committed (P ++ R)) t)) (begun (P ++ R)))
      ≡ fold (λ x t. roll_back x (c.undos t)) im (losers_by (table_of P) R c)
  rolled_back_is im =
      ap (λ ts. fold f im (filter p ts)) begun_is ∙ (ap (fold f im) (filter-append p (begun P) (begun R)) ∙ (fold-append f im (filter p (begun P)) (filter p (begun R))
      ∙ (ap (λ x. fold f x (filter p (begun R))) first ∙ (second (fold g im (filter q (running P)))
      ∙ (sym (fold-append g im (filter q (running P)) (filter q (begun R))) ∙ (ap (fold g im) (sym (filter-append q (running P) (begun R))) ∙ ap (λ ts. fold g im (filter q ts)) (sym begun_by_is)))))))
    where
      f : List (List ℕ) → ℕ → List (List ℕ)
      f x t = roll_back x (undos_left (marks d (P ++ R)) t)

      g : List (List ℕ) → ℕ → List (List ℕ)
      g x t = roll_back x (c.undos t)

      p : ℕ → Bool
      p t = has_corrupt (marks d (P ++ R)) t || not (has (committed (P ++ R)) t)

      q : ℕ → Bool
      q t = c.corrupt t || not (committed_by (table_of P) R t)

      is_true : (x : Bool) → not x ≡ false → x ≡ true
      is_true true e = refl
      is_true false e = sym e

      running_same : (t : ℕ) → has (running P) t ≡ true → p t ≡ q t
      running_same t h = rw (running_committed t h, knows.corrupt t) refl

      begun_same : (t : ℕ) → has (begun R) t ≡ true → p t ≡ q t
      begun_same t h = rw (begun_committed t h, knows.corrupt t) refl

      first : fold f im (filter p (begun P)) ≡ fold g im (filter q (running P))
      first =
          fold_skip f p (λ t. not (has (ended P) t)) (begun P) (λ t h k l x. ap (roll_back x) (none_left t (is_true (has (ended P) t) k) l)) im
          ∙ (ap (fold f im) (filter_same p q (running P) running_same)
          ∙ fold_within f g (filter q (running P)) (λ t h x.
          let w = has-filter q (running P) t h in
          ap (roll_back x) (undos_is t (present t w.0 (uncommitted t (running_same t w.0 ∙ w.1))))) im)

      second : (x : List (List ℕ)) → fold f x (filter p (begun R)) ≡ fold g x (filter q (begun R))
      second y =
          ap (fold f y) (filter_same p q (begun R) begun_same)
          ∙ fold_within f g (filter q (begun R)) (λ t h x. let w = has-filter q (begun R) t h in let b = (stands t).began w.0 in ap (roll_back x) (undos_is t (absent t b.0 b.3))) y

  -- ---- the image
  pub recovers_by : (s : Sizes) (image : List (List ℕ))
      → freed s (fold (λ im t. roll_back im (undos_left (marks d (P ++ R)) t)) (redo_all image (kept_from (take (length P) (marks d (P ++ R))) (drop (length P) (marks d (P ++ R))))) (filter (λ t. has_corrupt (marks d (P ++ R)) t || not (has (committed (P ++ R)) t)) (begun (P ++ R))))
      ≡ recovered_by s image (table_of P) R c
  recovers_by s image = ap (freed s) (rolled_back_is (redo_all image (kept_from (take (length P) (marks d (P ++ R))) (drop (length P) (marks d (P ++ R)))))
      ∙ ap (λ K. fold (λ x t. roll_back x (c.undos t)) (redo_all image K) (losers_by (table_of P) R c)) kept_is)

  -- ---- which undos are performed
  begun_either : (t : ℕ) → has (begun (P ++ R)) t ≡ (has (begun P) t || has (begun R) t)
  begun_either t = ap (λ ts. has ts t) begun_is ∙ has_append (begun P) (begun R) t

  table_either : (t : ℕ) → has (begun_by (table_of P) R) t ≡ (has (running P) t || has (begun R) t)
  table_either t = ap (λ ts. has ts t) begun_by_is ∙ has_append (running P) (begun R) t

  same_running : (t : ℕ) → has (running P) t ≡ true → (has_corrupt (marks d (P ++ R)) t || not (has (committed (P ++ R)) t)) ≡ (c.corrupt t || not (committed_by (table_of P) R t))
  same_running t h = rw (running_committed t h, knows.corrupt t) refl

  same_begun : (t : ℕ) → has (begun R) t ≡ true → (has_corrupt (marks d (P ++ R)) t || not (has (committed (P ++ R)) t)) ≡ (c.corrupt t || not (committed_by (table_of P) R t))
  same_begun t h = rw (begun_committed t h, knows.corrupt t) refl

  abbrev all_losers : List ℕ
  all_losers = filter (λ t. has_corrupt (marks d (P ++ R)) t || not (has (committed (P ++ R)) t)) (begun (P ++ R))

  pub undoes : (t : ℕ) → has (losers_by (table_of P) R c) t ≡ true
      → (has (filter (λ u. has_corrupt (marks d (P ++ R)) u || not (has (committed (P ++ R)) u)) (begun (P ++ R))) t ≡ true) × (undos_left (marks d (P ++ R)) t ≡ c.undos t)
  undoes t h = ⊎_elim old new (or_cases (has (running P) t) (has (begun R) t) (sym (table_either t) ∙ w.0))
    where
      w : (has (begun_by (table_of P) R) t ≡ true) × ((c.corrupt t || not (committed_by (table_of P) R t)) ≡ true)
      w = has-filter (λ u. c.corrupt u || not (committed_by (table_of P) R u)) (begun_by (table_of P) R) t h

      member : (has_corrupt (marks d (P ++ R)) t || not (has (committed (P ++ R)) t)) ≡ true → has (begun (P ++ R)) t ≡ true → has (filter (λ u. has_corrupt (marks d (P ++ R)) u || not (has (committed (P ++ R)) u)) (begun (P ++ R))) t ≡ true
      member a b = has-filter_from (λ u. has_corrupt (marks d (P ++ R)) u || not (has (committed (P ++ R)) u)) (begun (P ++ R)) t b a

      old : has (running P) t ≡ true → (has (filter (λ u. has_corrupt (marks d (P ++ R)) u || not (has (committed (P ++ R)) u)) (begun (P ++ R))) t ≡ true) × (undos_left (marks d (P ++ R)) t ≡ c.undos t)
      old k =
          let p = same_running t k ∙ w.1 in
          let b = has-filter (λ u. not (has (ended P) u)) (begun P) t k in
          (member p (begun_either t ∙ or_left (has (begun P) t) (has (begun R) t) b.0), undos_is t (present t k (uncommitted t p)))

      new : has (begun R) t ≡ true → (has (filter (λ u. has_corrupt (marks d (P ++ R)) u || not (has (committed (P ++ R)) u)) (begun (P ++ R))) t ≡ true) × (undos_left (marks d (P ++ R)) t ≡ c.undos t)
      new k =
          let b = (stands t).began k in
          (member (same_begun t k ∙ w.1) (begun_either t ∙ or_right (has (begun P) t) (has (begun R) t) k), undos_is t (absent t b.0 b.3))

  pub undoes_none : (t : ℕ) → has (filter (λ u. has_corrupt (marks d (P ++ R)) u || not (has (committed (P ++ R)) u)) (begun (P ++ R))) t ≡ true → has (losers_by (table_of P) R c) t ≡ false → undos_left (marks d (P ++ R)) t ≡ []
  undoes_none t h none = ⊎_elim old (λ k. absurd (both_ways (has (losers_by (table_of P) R c) t) none (member (sym (same_begun t k) ∙ w.1) (or_right (has (running P) t) (has (begun R) t) k)))) (or_cases (has (begun P) t) (has (begun R) t) (sym (begun_either t) ∙ w.0))
    where
      w : (has (begun (P ++ R)) t ≡ true) × ((has_corrupt (marks d (P ++ R)) t || not (has (committed (P ++ R)) t)) ≡ true)
      w = has-filter (λ u. has_corrupt (marks d (P ++ R)) u || not (has (committed (P ++ R)) u)) (begun (P ++ R)) t h

      member : (c.corrupt t || not (committed_by (table_of P) R t)) ≡ true → (has (running P) t || has (begun R) t) ≡ true → has (losers_by (table_of P) R c) t ≡ true
      member a b = has-filter_from (λ u. c.corrupt u || not (committed_by (table_of P) R u)) (begun_by (table_of P) R) t (table_either t ∙ b) a

      old : has (begun P) t ≡ true → undos_left (marks d (P ++ R)) t ≡ []
      old b = by_end (has (ended P) t) refl
        where
          by_end : (x : Bool) → has (ended P) t ≡ x → undos_left (marks d (P ++ R)) t ≡ []
          by_end true e = none_left t e w.1
          by_end false e =
              let k : has (running P) t ≡ true = has_running P t ∙ rw (e, b) refl in
              absurd (both_ways (has (losers_by (table_of P) R c) t) none (member (sym (same_running t k) ∙ w.1) (or_left (has (running P) t) (has (begun R) t) k)))
