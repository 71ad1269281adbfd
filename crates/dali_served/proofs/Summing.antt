-- The summary of a listing.
use Rattle.std.proofs.Common.{◌≡◌, ℕ, zero, suc, ◌<◌, ◌%◌, ◌^◌, List, [], ◌∷◌, length, map, sum, Option, Some, None, is_some, IsSome, refl, sym, ◌∙◌, ap, subst, arith}
use Rattle.std.specs.Prelude.{Contains, sum_by}
use Rattle.std.specs.declared.cmp.Ordering.{Ordering}
use Rattle.std.specs.declared.cmp.Ordering.TheVariants.{Less, Equal, Greater}
use Rattle.std.specs.Cmp.Lexicographic.{slice_cmp}
use Rattle.std.specs.Ordering.{MatchOrdering, ordering_reverse, ordering_then, nat_cmp}
use Rattle.std.proofs.lemmas.Cmp.{nat_list_cmp_total, ranked}
use Rattle.std.specs.List.{AllByRecursion}
use Rattle.std.specs.List.Sorted.{IsStrictlySortedBy}
use Rattle.std.proofs.lemmas.Map.Keys.{IsStrictlyIncreasing-from_sorted}
use Rattle.std.proofs.lemmas.List.Sums.{sum-map}
use Rattle.dali_history.specs.Serial.{Map, empty_map, serial}
use Rattle.dali_listing.specs.declared.Listed.{Listed}
use Rattle.dali_listing.specs.Listing.{order, pair_of, pairs_of}
use Rattle.dali_record.specs.Log.{committed}
use Rattle.dali_generator.specs.Left.{left, keys_left}
use Rattle.dali_generator.specs.Summary.{summary_of}
use Rattle.dali_generator.proofs.Along.{leaves_them}
use Rattle.dali_generator.proofs.Keys.{has_their_keys}
use Rattle.dali_served.specs.Generates.{SummariesFollow}
use Rattle.dali_served.proofs.Inserted.{have_run}
use Rattle.dali_served.proofs.Undamaged.{calm_survive, none_in}

abbrev key_of : Listed → ℕ
key_of row = row.key

abbrev keys : List Listed → List ℕ
keys rows = map key_of rows

-- ---- members
first_row : (row : Listed) (rows : List Listed) → Contains (pairs_of (row ∷ rows)) (pair_of row)
first_row row rows = (0, omega arith, refl)

later_row : (row : Listed) (rows : List Listed) (p : ℕ × List ℕ) → Contains (pairs_of rows) p → Contains (pairs_of (row ∷ rows)) p
later_row row rows p h = (suc h.0, omega (arith, h.1), h.2)

key_told : (rows : List Listed) (k : ℕ) (v : List ℕ) → Contains (pairs_of rows) (k, v) → Contains (keys rows) k
key_told [] k v h = absurd (omega (arith, h.1))
key_told (row ∷ rows) k v (zero, l, e) = (0, omega arith, ap (λ (p : ℕ × List ℕ). p.0) e)
key_told (row ∷ rows) k v (suc i, l, e) = let rest = key_told rows k v (i, omega (arith, l), e) in (suc rest.0, omega (arith, rest.1), rest.2)

row_told : (rows : List Listed) (k : ℕ) → Contains (keys rows) k → (v : List ℕ) × Contains (pairs_of rows) (k, v)
row_told [] k h = absurd (omega (arith, h.1))
row_told (row ∷ rows) k (zero, l, e) = (row.value, subst (λ x. Contains (pairs_of (row ∷ rows)) (x, row.value)) e (first_row row rows))
row_told (row ∷ rows) k (suc i, l, e) = let rest = row_told rows k (i, omega (arith, l), e) in (rest.0, later_row row rows (k, rest.0) rest.1)

-- ---- a map has one value at a key
never_less : (v : List ℕ) → slice_cmp nat_cmp v v ≡ Less → ⊥
never_less v e =
    let both : Less ≡ Greater = sym e ∙ (nat_list_cmp_total.antisymm v v ∙ ap ordering_reverse e) in
    absurd cc

less_key : (row other : Listed) → order row other ≡ Less → (row.key ≡ other.key → row.value ≡ other.value) → nat_cmp row.key other.key ≡ Less
less_key row other less same = by_order (nat_cmp row.key other.key) (ranked row.key other.key (nat_cmp row.key other.key) refl) less
  where
    by_order : (o : Ordering) → MatchOrdering o (row.key < other.key) (row.key ≡ other.key) (other.key < row.key) → ordering_then o (slice_cmp nat_cmp row.value other.value) ≡ Less → o ≡ Less
    by_order Less is e = refl
    by_order Equal is e = absurd (never_less row.value (subst (λ v. slice_cmp nat_cmp row.value v ≡ Less) (sym (same is)) e))
    by_order Greater is e = absurd cc

Told : Map → List Listed → Type 0
Told m rows = AllByRecursion (λ (row : Listed). m row.key ≡ Some row.value) rows

all_told : (m : Map) (rows : List Listed) → ((k : ℕ) (v : List ℕ) → Contains (pairs_of rows) (k, v) → m k ≡ Some v) → Told m rows
unfolding Told
all_told m [] h = tt
all_told m (row ∷ rows) h = (h row.key row.value (first_row row rows), all_told m rows (λ k v g. h k v (later_row row rows (k, v) g)))

less_all : (m : Map) (row : Listed) (rows : List Listed) → m row.key ≡ Some row.value → Told m rows → AllByRecursion (λ y. order row y ≡ Less) rows → AllByRecursion (λ k. nat_cmp row.key k ≡ Less) (keys rows)
unfolding Told
less_all m row [] here all less = tt
less_all m row (y ∷ ys) here all less = (less_key row y less.0 (λ e. value e), less_all m row ys here all.1 less.1)
  where
    value : row.key ≡ y.key → row.value ≡ y.value
    value e = let both : Some row.value ≡ Some y.value = sym here ∙ (ap m e ∙ all.0) in cc

rising : (m : Map) (rows : List Listed) → Told m rows → IsStrictlySortedBy order rows → IsStrictlySortedBy nat_cmp (keys rows)
unfolding Told IsStrictlySortedBy
rising m [] all sorted = tt
rising m (row ∷ rows) all sorted = (less_all m row rows all.0 all.1 sorted.0, rising m rows all.1 sorted.1)

some_is : (o : Option (List ℕ)) → IsSome o → (v : List ℕ) × (o ≡ Some v)
some_is None h = absurd cc
some_is (Some v) h = (v, refl)

counted : (rows : List Listed) → length (keys rows) ≡ length rows
counted [] = refl
counted (row ∷ rows) = ap suc (counted rows)

pub summaries_follow : SummariesFollow
summaries_follow clients size number K m s image rows within served expected_is stored listing =
    let survive = calm_survive K (none_in K served.none_failed) in
    let defined : serial empty_map (committed K) K ≡ Some m = subst (λ ts. serial empty_map ts K ≡ Some m) survive expected_is in
    let run = have_run clients size number within K (committed K) served.made m defined in
    let left_is : (k : ℕ) → m k ≡ left clients size number k = leaves_them clients size number K (committed K) m within run defined in
    let told = all_told m rows (λ k v h. (stored k v).0 ((listing.exact k v).0 h)) in
    let all : keys rows ≡ keys_left clients size number =
    has_their_keys clients size number (keys rows) within (IsStrictlyIncreasing-from_sorted (keys rows) (rising m rows told listing.ascending))
    (λ k. (on k left_is, back k left_is)) in
    ap (λ n. summary_of clients size n (sum_by key_of rows % 2 ^ 64)) (sym (counted rows) ∙ ap length all)
    ∙ ap (λ n. summary_of clients size (length (keys_left clients size number)) (n % 2 ^ 64)) (sym (sum-map key_of rows) ∙ ap sum all)
  where
    on : (k : ℕ) → ((j : ℕ) → m j ≡ left clients size number j) → Contains (keys rows) k → IsSome (left clients size number k)
    on k left_is h =
        let row = row_told rows k h in
        let is : m k ≡ Some row.0 = (stored k row.0).0 ((listing.exact k row.0).0 row.1) in
        subst (λ (o : Option (List ℕ)). IsSome o) (left_is k) (ap is_some is)

    back : (k : ℕ) → ((j : ℕ) → m j ≡ left clients size number j) → IsSome (left clients size number k) → Contains (keys rows) k
    back k left_is h =
        let some = some_is (left clients size number k) h in
        key_told rows k some.0 ((listing.exact k some.0).1 ((stored k some.0).1 (left_is k ∙ some.1)))
