-- Rows of memory beside those of a map, and a replay beside what the log told.
use Rattle.std.proofs.Common.{◌≡◌, ◌≢◌, ◌⊎◌, inl, inr, ℕ, Bool, true, false, true≢false, List, [], ◌∷◌, refl, sym, ◌∙◌, ap, subst, Some}
use Rattle.std.proofs.lemmas.Bool.Decides.{eqb_tells}
use Rattle.std.specs.Prelude.{◌↔◌, nat_eq, Contains, ◌==◌, ◌&&◌, IsTrue, Result, Ok, Err, IfOk}
use Rattle.std.specs.declared.cmp.Ordering.TheVariants.{Less}
use Rattle.std.specs.declared.cmp.Ordering.{Ordering}
use Rattle.std.specs.Ordering.{nat_cmp, ordering_then}
use Rattle.std.specs.Cmp.{IsTotalOrder, nat_cmp_total}
use Rattle.std.specs.Cmp.Lexicographic.{slice_cmp, pointwise, bytes_decides}
use Rattle.std.specs.List.{AllByRecursion}
use Rattle.std.specs.List.Sorted.{IsStrictlySortedBy, IsStrictlyIncreasing}
use Rattle.std.specs.Map.{keys_of, lookup}
use Rattle.std.specs.BTreeMap.{BTreeMap, IsOrdered, is_at}
use Rattle.std.specs.BTreeSet.{BTreeSet}
use Rattle.std.specs.BTreeSet as keys
use Rattle.std.specs.FinMap.{FinMap, from_entries, get, get-from_entries}
use Rattle.std.proofs.lemmas.Map.Keys.{sorted_from_strictly_increasing}
use Rattle.std.proofs.lemmas.Map.Lookups.{CmpEqualImpliesEq, exact_unsigned, exact_bytes, exact_pairs, btree_set_from_contains}
use Rattle.std.proofs.lemmas.Map.Views.{btree_map_get_iff, btree_set_contains_iff}
use Rattle.dali_lists.proofs.Options.{some_of_test}
use Rattle.dali_lists.proofs.Tests.{same_tests}
use Rattle.dali_geometry.specs.Sizes.{Sizes}
use Rattle.dali_access.specs.Index.Records.{records}
use Rattle.dali_record.specs.declared.records.Record.{Record}
use Rattle.dali_history.specs.Serial.{expected}
use Rattle.dali_replay.specs.Replayed.{Replayed, IsReplay}
use Rattle.dali_replay.proofs.Replays.{find_lookup}
use Rattle.dali_listing.specs.declared.Listed.{Listed}
use Rattle.dali_listing.specs.Listing.{pair_of, pairs_of, order, IsListing}
use Rattle.dali_listing.proofs.Sorted.{in_pairs, pairs_in, row_of, alike, alike_is_one, in_order}
use Rattle.dali_verify.specs.Verified.{told_deleted, HoldsJust, IsVerified}

-- ---- lists that ascend and have the same members

pub same_sorted : {K : Type 0} {R : K → K → Ordering} → IsTotalOrder R → CmpEqualImpliesEq R → (xs ys : List K) → IsStrictlySortedBy R xs → IsStrictlySortedBy R ys → ((k : K) → Contains xs k ↔ Contains ys k) → xs ≡ ys
same_sorted {K = K} {R = R} total exact xs ys up vp same =
    let s : BTreeSet K = record { keys = xs } in
    let t : BTreeSet K = record { keys = ys } in
    btree_set_from_contains total s t up vp
    (λ q. same_tests (keys.contains R s q) (keys.contains R t q)
    (λ is. (btree_set_contains_iff total exact t q).1 ((same q).0 ((btree_set_contains_iff total exact s q).0 is)))
    (λ is. (btree_set_contains_iff total exact s q).1 ((same q).1 ((btree_set_contains_iff total exact t q).0 is))))
    exact

-- ---- rows
one_is_alike : (x y : Listed) → x ≡ y → alike x y ≡ true
one_is_alike x y e = subst (λ z. alike x z ≡ true) e (both (eqb_tells x.key x.key) ((bytes_decides x.value x.value).1 refl))
  where
    both : (((x.key == x.key) ≡ true) × (x.key ≡ x.key)) ⊎ (((x.key == x.key) ≡ false) × (x.key ≢ x.key)) → pointwise nat_eq x.value x.value ≡ true → alike x x ≡ true
    both (inl a) v = ap (λ b. b && pointwise nat_eq x.value x.value) a.0 ∙ v
    both (inr a) v = absurd (a.1 refl)

pub rows_decide : (x y : Listed) → (alike x y ≡ true → x ≡ y) × (x ≡ y → alike x y ≡ true)
rows_decide x y = (alike_is_one x y, one_is_alike x y)

exact_rows : CmpEqualImpliesEq order
exact_rows x y e = ap row_of (exact_pairs nat_cmp (slice_cmp nat_cmp) exact_unsigned exact_bytes (pair_of x) (pair_of y) e)

-- rows with ascending keys ascend
all_behind : (row : Listed) (rows : List Listed) → AllByRecursion (λ k. nat_cmp row.key k ≡ Less) (keys_of (pairs_of rows)) → AllByRecursion (λ other. order row other ≡ Less) rows
all_behind row [] h = tt
all_behind row (other ∷ rows) h = (ap (λ o. ordering_then o (slice_cmp nat_cmp row.value other.value)) h.0, all_behind row rows h.1)

rows_ascend : (rows : List Listed) → IsStrictlySortedBy nat_cmp (keys_of (pairs_of rows)) → IsStrictlySortedBy order rows
unfolding IsStrictlySortedBy
rows_ascend [] h = tt
rows_ascend (row ∷ rows) h = (all_behind row rows h.0, rows_ascend rows h.1)

-- what a map has at a key is an entry
entry_at : (m : BTreeMap ℕ (List ℕ)) → IsOrdered nat_cmp m → (k : ℕ) (v : List ℕ) → (get (from_entries {R = nat_cmp} m.entries) k ≡ Some v) ↔ Contains m.entries (k, v)
entry_at m ordered k v =
    let here : get (from_entries {R = nat_cmp} m.entries) k ≡ lookup (is_at (nat_cmp k)) m.entries = get-from_entries nat_cmp_total m.entries k ∙ find_lookup m.entries k in
    let there = btree_map_get_iff nat_cmp_total exact_unsigned m ordered k v in
    (λ e. there.0 (sym here ∙ e), λ e. here ∙ there.1 e)

pub stores_just : (s : Sizes) (image : List (List ℕ)) (rows wanted : List Listed) (m : BTreeMap ℕ (List ℕ)) → IsListing s image rows → pairs_of wanted ≡ m.entries → IsOrdered nat_cmp m
    → (rows ≡ wanted) ↔ HoldsJust s image (get (from_entries {R = nat_cmp} m.entries))
stores_just s image rows wanted m listing pairs ordered = (λ same k v. there same k v, back)
  where
    there : rows ≡ wanted → (k : ℕ) (v : List ℕ) → Contains (records s image) (k, v) ↔ (get (from_entries {R = nat_cmp} m.entries) k ≡ Some v)
    there same k v =
        let as_entries : pairs_of rows ≡ m.entries = ap pairs_of same ∙ pairs in (
          λ h. (entry_at m ordered k v).1 (subst (λ (ps : List (ℕ × List ℕ)). Contains ps (k, v)) as_entries ((listing.exact k v).1 h)),
          λ e. (listing.exact k v).0 (subst (λ (ps : List (ℕ × List ℕ)). Contains ps (k, v)) (sym as_entries) ((entry_at m ordered k v).0 e)),
        )

    back : HoldsJust s image (get (from_entries {R = nat_cmp} m.entries)) → rows ≡ wanted
    back just = same_sorted in_order exact_rows rows wanted listing.ascending (rows_ascend wanted (subst (λ (ps : List (ℕ × List ℕ)). IsStrictlySortedBy nat_cmp (keys_of ps)) (sym pairs) ordered))
        (λ row. (
          λ h. pairs_in wanted row (subst (λ (ps : List (ℕ × List ℕ)). Contains ps (pair_of row)) (sym pairs) ((entry_at m ordered row.key row.value).0 ((just row.key row.value).0 ((listing.exact row.key row.value).0 (in_pairs rows row h))))),
          λ h. pairs_in rows row ((listing.exact row.key row.value).1 ((just row.key row.value).1 ((entry_at m ordered row.key row.value).1 (subst (λ (ps : List (ℕ × List ℕ)). Contains ps (pair_of row)) pairs (in_pairs wanted row h))))),
        ))

-- ---- a replay

pub told_as_replayed : (s : Sizes) (image : List (List ℕ)) (L : List Record) (r : Replayed) → IsReplay L r → IsVerified s image L → told_deleted L ≡ r.deleted
told_as_replayed s image L r replay is =
    same_sorted nat_cmp_total exact_unsigned (told_deleted L) r.deleted (sorted_from_strictly_increasing (told_deleted L) is.ascends) (sorted_from_strictly_increasing r.deleted replay.ascends)
    (λ t. (λ h. (replay.deleted t).1 ((is.deleted t).0 h), λ h. (is.deleted t).1 ((replay.deleted t).0 h)))

pub holds_as_replayed : (s : Sizes) (image : List (List ℕ)) (L : List Record) (r : Replayed) → IsReplay L r → IsVerified s image L → HoldsJust s image (get r.map)
holds_as_replayed s image L r replay is = λ k v. (λ h. replay.map is.map is.answers k ∙ (is.records k v).0 h, λ e. (is.records k v).1 (sym (replay.map is.map is.answers k) ∙ e))

pub verified : (s : Sizes) (image : List (List ℕ)) (L : List Record) (r : Replayed) → IsReplay L r → r.agrees ≡ true → told_deleted L ≡ r.deleted → HoldsJust s image (get r.map) → IsVerified s image L
verified s image L r replay agrees told just =
    let some = some_of_test (expected L) (sym replay.agrees ∙ agrees) in
    record {
      map = some.0;
      answers = some.1;
      records = λ k v. (λ h. sym (replay.map some.0 some.1 k) ∙ (just k v).0 h, λ e. (just k v).1 (replay.map some.0 some.1 k ∙ e));
      deleted = λ t. (λ h. (replay.deleted t).0 (subst (λ (ts : List ℕ). Contains ts t) told h), λ h. subst (λ (ts : List ℕ). Contains ts t) (sym told) ((replay.deleted t).1 h));
      ascends = subst IsStrictlyIncreasing (sym told) replay.ascends;
    }

-- ---- the answer
pub if_ok_then : {T E : Type 0} (P Q : T → Type 0) (r : Result T E) → IfOk r P → ((x : T) → P x → Q x) → IfOk r Q
if_ok_then P Q (Ok x) p f = f x p
if_ok_then P Q (Err e) p f = tt

pub not_told : (s : Sizes) (image : List (List ℕ)) (L : List Record) (r : Replayed) (deleted : List ℕ) (told : Bool) → IsReplay L r → deleted ≡ r.deleted → (IsTrue told ↔ (told_deleted L ≡ deleted)) → told ≡ false → IsTrue false ↔ IsVerified s image L
not_told s image L r deleted told replay same tells not_so =
    (λ is. absurd (true≢false (sym is)), λ is. sym not_so ∙ tells.1 (told_as_replayed s image L r replay is ∙ sym same))

pub as_replayed : (s : Sizes) (image : List (List ℕ)) (L : List Record) (r : Replayed) (deleted : List ℕ) (m : FinMap nat_cmp (List ℕ)) (told is : Bool) → IsReplay L r → r.agrees ≡ true → deleted ≡ r.deleted → (IsTrue told ↔ (told_deleted L ≡ deleted)) → told ≡ true
    → m ≡ r.map → (IsTrue is ↔ HoldsJust s image (get m)) → IsTrue is ↔ IsVerified s image L
as_replayed s image L r deleted m told is replay agrees same tells so map_is just = (
  λ yes_is. verified s image L r replay agrees (tells.0 so ∙ same) (subst (λ (n : FinMap nat_cmp (List ℕ)). HoldsJust s image (get n)) map_is (just.0 yes_is)),
  λ holds. just.1 (subst (λ (n : FinMap nat_cmp (List ℕ)). HoldsJust s image (get n)) (sym map_is) (holds_as_replayed s image L r replay holds)),
)
