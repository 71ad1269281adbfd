-- The tables as an epoch begins, and the list that they give in the end.
use Rattle.std.proofs.Common.{◌≡◌, ℕ, zero, suc, ◌≤◌, ◌<◌, Bool, true, false, cond, List, [], ◌∷◌, length, refl, ap, sym, subst, ◌∙◌, ⊎_elim, arith, replicate, get_or}
use Rattle.std.specs.Prelude.{◌&&◌, ◌||◌, ◌==◌, map, nat_lt}
use Rattle.std.specs.List.{list_any}
use Rattle.std.specs.List.Sorted.{IsStrictlyIncreasing, IsStrictlySortedBy}
use Rattle.std.specs.Ordering.{nat_cmp}
use Rattle.std.specs.BTreeSet.{IsOrdered}
use Rattle.std.specs.BTreeMap.{is_at}
use Rattle.std.proofs.lemmas.Bool.Decides.{nat_tests}
use Rattle.std.specs.Cmp.{nat_cmp_total}
use Rattle.std.proofs.lemmas.Bool.{or_cases, or_left, or_right, or_from, or_parts, both_ways, false_from_ne_true, and_parts, and_from, lt-ltb, eqb-true}
use Rattle.std.proofs.lemmas.List.{append-nil}
use Rattle.std.proofs.lemmas.List.Kept.{IsStrictlySortedBy-filter}
use Rattle.std.proofs.lemmas.Map.Keys.{sorted_from_strictly_increasing, sorted_tail, below_from_sorted}
use Rattle.std.proofs.lemmas.Map.Lookups.{btree_set_from_contains, exact_unsigned}
use Rattle.std.proofs.lemmas.Option.{get_or_from_slice_get, slice_get_within}
use mathlib.Core.Bool.{or-false}
use Rattle.dali_geometry.specs.Sizes.{Sizes}
use Rattle.dali_geometry.specs.Places.{regions}
use Rattle.dali_att.specs.Table.{Table, undos_at}
use Rattle.dali_record.specs.declared.operations.Pending.{Pending}
use Rattle.dali_record.specs.Damage.{Damage, has}
use Rattle.dali_record.specs.Files.{Row}
use Rattle.dali_record.specs.Spelling.{ascends}
use Rattle.dali_record.proofs.Chains.{any_get}
use Rattle.dali_history.proofs.Members.{has-filter, has-filter_from}
use Rattle.dali_resume.specs.Resumed.{scan, scan_start, row_undos, row_committed, begun_by, committed_by, deleted_by}
use Rattle.dali_resume.specs.Tests.{Known, Running, Waiting, is_running, status_in}
use Rattle.dali_redo.specs.Taint.Tables.{word_set, has_item, has_number}
use Rattle.dali_redo.specs.Taint.Following.{scanned, is_committed, IsOrderly, FollowsScan, Follows, Begins}
use Rattle.dali_redo.specs.declared.taint.taint.Taint.{Taint}

abbrev pub txns : List Row → List ℕ
txns rows = map (λ w. w.txn) rows

-- ---- rows
absent : (x : ℕ) (xs : List ℕ) → IsStrictlySortedBy nat_cmp (x ∷ xs) → has xs x ≡ false
absent x xs sorted = false_from_ne_true (has xs x) there
  where
    there : has xs x ≡ true → ⊥
    there h =
        let w = any_get (λ z. z == x) xs h in
        let in' : w.0 < length xs = slice_get_within xs w.0 w.1 w.2 in
        let same : get_or xs w.0 0 ≡ x = get_or_from_slice_get xs w.0 w.1 0 w.2 ∙ eqb-true w.1 x w.3 in
        let below : x < get_or xs w.0 0 = below_from_sorted (x ∷ xs) 0 (suc w.0) 0 sorted (omega arith) (omega (arith, in')) in
        absurd (omega (arith, below, same))

pub committed_there : (rows : List Row) (t : ℕ) → row_committed rows t ≡ true → has (txns rows) t ≡ true
committed_there [] t h = absurd (cc)
committed_there (w ∷ ws) t h = ⊎_elim (λ e. or_left (w.txn == t) (has (txns ws) t) (and_parts (w.txn == t) w.is_committed e).0) (λ e. or_right (w.txn == t) (has (txns ws) t) (committed_there ws t e)) (or_cases ((w.txn == t) && w.is_committed) (row_committed ws t) h)

running_row : (rows : List Row) (t : ℕ) → IsStrictlySortedBy nat_cmp (txns rows) → is_running (status_in rows t) ≡ true → (has (txns rows) t ≡ true) × (row_committed rows t ≡ false)
running_row [] t sorted h = absurd (cc)
running_row (w ∷ ws) t sorted h = by_test (λ g. running_row ws t (sorted_tail nat_cmp w.txn (txns ws) sorted) g) (w.txn == t) refl
  where
    by_test : (is_running (status_in ws t) ≡ true → (has (txns ws) t ≡ true) × (row_committed ws t ≡ false)) → (b : Bool) → (w.txn == t) ≡ b → ((b || has (txns ws) t) ≡ true) × (((b && w.is_committed) || row_committed ws t) ≡ false)
    by_test ih true e = (refl, or_from w.is_committed (row_committed ws t) (live w.is_committed refl) (false_from_ne_true (row_committed ws t) (λ g. both_ways (has (txns ws) t) none (committed_there ws t g))))
      where
        none : has (txns ws) t ≡ false
        none = subst (λ u. has (txns ws) u ≡ false) (eqb-true w.txn t e) (absent w.txn (txns ws) sorted)

        live : (c : Bool) → w.is_committed ≡ c → c ≡ false
        live false g = refl
        live true g =
            let waits : is_running (cond true Waiting (Running w.undos)) ≡ true = subst (λ z. is_running (cond z Waiting (Running w.undos)) ≡ true) g (subst (λ z. is_running (cond z (cond w.is_committed Waiting (Running w.undos)) (status_in ws t)) ≡ true) e h) in
            absurd (cc)
    by_test ih false e = ih (subst (λ z. is_running (cond z (cond w.is_committed Waiting (Running w.undos)) (status_in ws t)) ≡ true) e h)

pub no_row : (rows : List Row) (t : ℕ) → has (txns rows) t ≡ false → row_undos rows t ≡ []
no_row [] t h = refl
no_row (w ∷ ws) t h = let p = or_parts (w.txn == t) (has (txns ws) t) h in rw p.0 (no_row ws t p.1)

abbrev pub zero_words : ℕ → List ℕ
zero_words n = replicate n 0

none_marked : (n i : ℕ) → word_set (zero_words n) i ≡ 0
none_marked zero i = refl
none_marked (suc n) zero = refl
none_marked (suc n) (suc i) = none_marked n i

-- ---- the start
module _ (d : Damage) (k : Known) (m : Table Pending) (b : Begins d k m) where
  begun_is : begun_by k.table k.seen ≡ txns k.table
  begun_is = ap (begun_by k.table) b.seen ∙ append-nil (txns k.table)

  committed_is : (t : ℕ) → is_committed k t ≡ row_committed k.table t
  committed_is t = ap (λ R. committed_by k.table R t) b.seen ∙ or-false (row_committed k.table t)

  sorted : IsStrictlySortedBy nat_cmp (txns k.table)
  sorted = sorted_from_strictly_increasing (txns k.table) b.ascend

  unbegun : (t : ℕ) → k.next ≤ t → has (txns k.table) t ≡ false
  unbegun t above = false_from_ne_true (has (txns k.table) t) (λ h. let low = b.drawn t h in absurd (omega (arith, low, above)))

  orderly : IsOrderly k (scan_start d.first k.table)
  orderly = record {
    number = b.number;
    ascend = subst IsStrictlyIncreasing (sym begun_is) b.ascend;
    begun = λ t h. ap (λ ts. has ts t) begun_is ∙ committed_there k.table t (sym (committed_is t) ∙ h);
    works = λ t h.
        let w = running_row k.table t sorted (subst (λ z. is_running z ≡ true) (b.statuses t) h) in
        (ap (λ ts. has ts t) begun_is ∙ w.0, committed_is t ∙ w.1);
    marked = λ t i h there. absurd (cc);
    new = λ t above. record { unbegun = ap (λ ts. has ts t) begun_is ∙ unbegun t above; sound = refl; undos = no_row k.table t (unbegun t above) };
  }

pub starts :
    (s : Sizes) (x : Taint) (d : Damage) (k : Known) (m : Table Pending) → x.clean ≡ d.clean → ((t : ℕ) → has_number x.failing t ≡ has d.failing t) → x.words.items ≡ zero_words (regions s)
    → ((i : ℕ) → has_item x.items i ≡ false) → ((t : ℕ) → has_number x.corrupt t ≡ false) → x.undos ≡ m → ((t : ℕ) → has_number x.deleted t ≡ false) → Begins d k m
    → Follows s x d k
starts s x d k m clean failing words items corrupt undos deleted b = subst (λ c. FollowsScan s x d k c) (ap (scan d k.table) (sym b.seen)) here
  where
    nothing : (a : Bool) → false ≡ (a && false)
    nothing true = refl
    nothing false = refl

    here : FollowsScan s x d k (scan_start d.first k.table)
    here = record {
      orderly = orderly d k m b;
      clean = clean;
      failing = failing;
      regions = ap length words ∙ as_many (regions s);
      words = λ r. ap (λ ws. word_set ws r) words ∙ none_marked (regions s) r;
      items = items;
      corrupt = corrupt;
      undos = λ t h e. ap (λ z. undos_at z t) undos ∙ sym (b.undos t);
      gone = λ t e. absurd (cc);
      new = λ t above. ap (λ z. undos_at z t) undos ∙ (sym (b.undos t) ∙ no_row k.table t (unbegun d k m b t above));
      deleted = λ t. deleted t ∙ nothing (is_committed k t);
    }
      where
        as_many : (n : ℕ) → length (zero_words n) ≡ n
        as_many zero = refl
        as_many (suc n) = ap suc (as_many n)

-- ---- the end
-- the keys of a map ascend
pub ascends_from : (xs : List ℕ) → IsStrictlySortedBy nat_cmp xs → ascends xs ≡ true
ascends_from [] sorted = refl
ascends_from (x ∷ []) sorted = refl
ascends_from (x ∷ y ∷ ys) sorted =
    and_from (nat_lt x y) (ascends (y ∷ ys)) (lt-ltb x y (below_from_sorted (x ∷ y ∷ ys) 0 1 0 sorted (omega arith) (omega arith))) (ascends_from (y ∷ ys) (sorted_tail nat_cmp x (y ∷ ys) sorted))

at_is : (q x : ℕ) → is_at (nat_cmp q) x ≡ (x == q)
at_is q x = grind (arith, nat_tests)

any_is : (q : ℕ) (xs : List ℕ) → list_any (is_at (nat_cmp q)) xs ≡ has xs q
any_is q [] = refl
any_is q (x ∷ xs) = rw (at_is q x, any_is q xs) refl

pub deleted_list : (s : Sizes) (x : Taint) (d : Damage) (k : Known) → IsOrdered nat_cmp x.deleted → Follows s x d k → x.deleted.keys ≡ deleted_by k.table k.seen (scanned d k)
deleted_list s x d k ordered f = btree_set_from_contains nat_cmp_total x.deleted (record { keys = deleted_by k.table k.seen (scanned d k) }) ordered up same exact_unsigned
  where
    is : ℕ → Bool
    is t = is_committed k t && (scanned d k).corrupt t

    up : IsStrictlySortedBy nat_cmp (deleted_by k.table k.seen (scanned d k))
    up = IsStrictlySortedBy-filter nat_cmp (λ t. is_committed k t && (scanned d k).corrupt t) (begun_by k.table k.seen) (sorted_from_strictly_increasing (begun_by k.table k.seen) f.orderly.ascend)

    same_bools : (a b : Bool) → (a ≡ true → b ≡ true) → (b ≡ true → a ≡ true) → a ≡ b
    same_bools true b g e = sym (g refl)
    same_bools false true g e = e refl
    same_bools false false g e = refl

    same : (q : ℕ) → has_number x.deleted q ≡ list_any (is_at (nat_cmp q)) (deleted_by k.table k.seen (scanned d k))
    same q = f.deleted q ∙ (same_bools (is_committed k q && (scanned d k).corrupt q) (has (deleted_by k.table k.seen (scanned d k)) q)
        (λ h. has-filter_from (λ t. is_committed k t && (scanned d k).corrupt t) (begun_by k.table k.seen) q (f.orderly.begun q (and_parts (is_committed k q) ((scanned d k).corrupt q) h).0) h)
        (λ h. (has-filter (λ t. is_committed k t && (scanned d k).corrupt t) (begun_by k.table k.seen) q h).1)
        ∙ sym (any_is q (deleted_by k.table k.seen (scanned d k))))
