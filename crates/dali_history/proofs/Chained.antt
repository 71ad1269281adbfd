-- The committed transactions that don't survive are those that a chain deletes, and those that committed before stay.
use Rattle.std.proofs.Common.{◌≡◌, ℕ, zero, suc, ◌<◌, Bool, true, false, List, [], ◌∷◌, ◌++◌, length, Option, Some, None, refl, ap, sym, subst, ◌∙◌, ◌⊎◌, inl, inr, ⊎_elim, arith}
use Rattle.std.specs.Prelude.{slice_get, Contains, ◌==◌, ◌||◌, not, filter_map, ◌↔◌}
use Rattle.std.specs.List.{list_any}
use Rattle.std.proofs.lemmas.List.Elements.{filter_map-append, Contains-append_left}
use Rattle.std.proofs.lemmas.Bool.{both_ways, or_cases, or_left, or_right, and_parts, and_from, not-true}
use Rattle.std.proofs.lemmas.Bool.Decides.{Decides-eqb}
use Rattle.std.proofs.lemmas.Map.Keys.{any_passes_from_place}
use Rattle.dali_lists.proofs.Lists.{get_within}
use Rattle.dali_lists.proofs.Members.{contains_from_get}
use Rattle.dali_record.specs.declared.records.Record.{Record}
use Rattle.dali_record.specs.declared.records.Record.TheVariants.{Commit}
use Rattle.dali_record.specs.Log.{Touch, touch_of, touch_at, committed, commit_by}
use Rattle.dali_record.specs.Epochs.{Epoch, epochs}
use Rattle.dali_record.specs.Damage.{Damage, damage_of, has, marks, mark_at, is_corrupt_of, has_corrupt, HasCorrupt, IsDeleted}
use Rattle.dali_record.proofs.Pushes.{touch_within}
use Rattle.dali_record.proofs.Chains.{any_get, touch_true, true_touch, recs, touch_at-recs, mark_at-get, marks-records, marks_are_chains}
use Rattle.dali_history.specs.Serial.{is_deleted_in, is_deleted, survivors}
use Rattle.dali_history.specs.Acknowledged.{IsDeletedByChain, KeepsCommitted}
use Rattle.dali_history.proofs.Places.{get_from_Contains}
use Rattle.dali_history.proofs.Members.{has-filter, Contains-from_has, has_from_Contains, has-filter_from}
use Rattle.dali_record.proofs.Survivors.{commit_is}

-- ---- what a list of records is filtered to
filter_map_get : {X Y : Type 0} (h : X → Option Y) (p : Y → Bool) (xs : List X) → list_any p (filter_map h xs) ≡ true → (i : ℕ) × (x : X) × (y : Y) × (slice_get xs i ≡ Some x) × (h x ≡ Some y) × (p y ≡ true)
filter_map_get h p [] e = absurd (both_ways false refl e)
filter_map_get {X = X} {Y = Y} h p (x ∷ xs) e = by_value (λ f. filter_map_get h p xs f) (h x) refl
  where
    later : ((i : ℕ) × (z : X) × (y : Y) × (slice_get xs i ≡ Some z) × (h z ≡ Some y) × (p y ≡ true)) → (i : ℕ) × (z : X) × (y : Y) × (slice_get (x ∷ xs) i ≡ Some z) × (h z ≡ Some y) × (p y ≡ true)
    later r = (suc r.0, r.1, r.2, r.3, r.4, r.5)

    by_value : (list_any p (filter_map h xs) ≡ true → (i : ℕ) × (z : X) × (y : Y) × (slice_get xs i ≡ Some z) × (h z ≡ Some y) × (p y ≡ true)) → (o : Option Y) → h x ≡ o → (i : ℕ) × (z : X) × (y : Y) × (slice_get (x ∷ xs) i ≡ Some z) × (h z ≡ Some y) × (p y ≡ true)
    by_value ih None f = later (ih (rw f at e))
    by_value ih (Some y) f =
        let g : (p y || list_any p (filter_map h xs)) ≡ true = rw f at e in
        ⊎_elim (λ k. (0, x, y, refl, f, k)) (λ k. later (ih k)) (or_cases (p y) (list_any p (filter_map h xs)) g)

get_filter_map : {X Y : Type 0} (h : X → Option Y) (p : Y → Bool) (xs : List X) (i : ℕ) (x : X) (y : Y) → slice_get xs i ≡ Some x → h x ≡ Some y → p y ≡ true → list_any p (filter_map h xs) ≡ true
get_filter_map h p [] i x y e f g = absurd (cc)
get_filter_map h p (z ∷ xs) zero x y e f g =
    let same : z ≡ x = cc in
    let at : h z ≡ Some y = ap h same ∙ f in
    rw at (or_left (p y) (list_any p (filter_map h xs)) g)
get_filter_map {Y = Y} h p (z ∷ xs) (suc i) x y e f g = by_value (get_filter_map h p xs i x y e f g) (h z) refl
  where
    by_value : list_any p (filter_map h xs) ≡ true → (o : Option Y) → h z ≡ o → list_any p (filter_map h (z ∷ xs)) ≡ true
    by_value ih None k = rw k ih
    by_value ih (Some w) k = rw k (or_right (p w) (list_any p (filter_map h xs)) ih)

-- a number is in a list of what the records of one kind name where the list has that record
pub filtered_is_Contains : (h : Record → Option ℕ) (made : ℕ → Record) → ((t : ℕ) → h (made t) ≡ Some t) → ((r : Record) (t : ℕ) → h r ≡ Some t → r ≡ made t) → (E : List Record) (t : ℕ) → (has (filter_map h E) t ≡ true) ↔ Contains E (made t)
filtered_is_Contains h made gives from_h E t = (to, from)
  where
    to : has (filter_map h E) t ≡ true → Contains E (made t)
    to k =
        let g = filter_map_get h (λ x. x == t) E k in
        let same : g.1 ≡ made t = from_h g.1 t (g.4 ∙ ap (λ x. Some x) ((Decides-eqb g.2 t).0 g.5)) in
        contains_from_get E g.0 (made t) (g.3 ∙ ap (λ x. Some x) same)

    from : Contains E (made t) → has (filter_map h E) t ≡ true
    from c = let g = get_from_Contains E (made t) c in get_filter_map h (λ x. x == t) E g.0 (made t) t g.1 (gives t) ((Decides-eqb t t).1 refl)

-- t committed where the list has its Commit
pub committed_is_Contains : (E : List Record) (t : ℕ) → (has (committed E) t ≡ true) ↔ Contains E (Commit t)
committed_is_Contains E t = filtered_is_Contains commit_by (λ u. Commit u) (λ u. refl) commit_is E t

-- ---- chains
-- a transaction has a corrupt block by the marks where it has one at the end of a chain
pub has_corrupt_is_chain : (d : Damage) (E : List Record) (t : ℕ) → (has_corrupt (marks d E) t ≡ true) ↔ HasCorrupt d E t
has_corrupt_is_chain d E t = (to, from)
  where
    same : recs (marks d E) ≡ E
    same = marks-records d E

    to : has_corrupt (marks d E) t ≡ true → HasCorrupt d E t
    to h =
        let g = any_get (is_corrupt_of t) (marks d E) h in
        let p = and_parts g.1.1 _ g.3 in
        let a = touch_true (λ c. c.txn == t) (touch_of g.1.0) p.1 in
        let at : touch_at E g.0 ≡ Some a.0 = subst (λ M. touch_at M g.0 ≡ touch_of g.1.0) same (touch_at-recs (marks d E) g.0 g.1 g.2) ∙ a.1 in
        let mark : mark_at (marks d E) g.0 ≡ true = mark_at-get (marks d E) g.0 g.1 g.2 ∙ p.0 in
        (g.0, a.0, at, (Decides-eqb a.0.txn t).0 a.2, (marks_are_chains d E g.0 (touch_within E g.0 a.0 at)).0 mark)

    size : (p : ℕ) (a : Touch) → touch_at E p ≡ Some a → p < length (marks d E)
    size p a e =
        let within : p < length (recs (marks d E)) = rw same (touch_within E p a e) in
        omega (arith, within, Rattle.std.proofs.lemmas.List.length-map (marks d E) (λ (m : Record × Bool). m.0))

    from : HasCorrupt d E t → has_corrupt (marks d E) t ≡ true
    from c =
        let g = get_within (marks d E) c.0 (size c.0 c.1 c.2) in
        let touch : touch_of g.0.0 ≡ Some c.1 = sym (touch_at-recs (marks d E) c.0 g.0 g.1) ∙ ap (λ M. touch_at M c.0) same ∙ c.2 in
        let mark : g.0.1 ≡ true = sym (mark_at-get (marks d E) c.0 g.0 g.1) ∙ (marks_are_chains d E c.0 (touch_within E c.0 c.1 c.2)).1 c.4 in
        let one : is_corrupt_of t g.0 ≡ true = and_from g.0.1 _ mark (true_touch (λ a. a.txn == t) (touch_of g.0.0) c.1 touch ((Decides-eqb c.1.txn t).1 c.3)) in
        any_passes_from_place (is_corrupt_of t) (marks d E) c.0 g.0 g.1 one

-- t is deleted in an epoch where a chain deletes it there
pub is_deleted_in_is_chain : (e : Epoch) (t : ℕ) → (is_deleted_in t e ≡ true) ↔ IsDeleted (damage_of e) e.records t
is_deleted_in_is_chain e t = (
  (λ h. let p = and_parts (has (committed e.records) t) _ h in ((committed_is_Contains e.records t).0 p.0, (has_corrupt_is_chain (damage_of e) e.records t).0 p.1)),
  (λ d. and_from (has (committed e.records) t) _ ((committed_is_Contains e.records t).1 d.0) ((has_corrupt_is_chain (damage_of e) e.records t).1 d.1)),
)

-- a transaction is deleted where a chain deletes it
pub is_deleted_is_chain : (L : List Record) (t : ℕ) → (is_deleted L t ≡ true) ↔ IsDeletedByChain L t
is_deleted_is_chain L t = (to, from)
  where
    to : is_deleted L t ≡ true → IsDeletedByChain L t
    to h = let g = any_get (is_deleted_in t) (epochs L) h in (g.1, contains_from_get (epochs L) g.0 g.1 g.2, (is_deleted_in_is_chain g.1 t).0 g.3)

    from : IsDeletedByChain L t → is_deleted L t ≡ true
    from d = let g = get_from_Contains (epochs L) d.0 d.1 in any_passes_from_place (is_deleted_in t) (epochs L) g.0 d.0 g.1 ((is_deleted_in_is_chain d.0 t).1 d.2)

-- ---- survivors
-- a survivor committed, and no chain deletes it
pub survivor_is_whole : (L : List Record) (t : ℕ) → Contains (survivors L) t → Contains (committed L) t × (IsDeletedByChain L t → ⊥)
survivor_is_whole L t c =
    let f = has-filter (λ u. not (is_deleted L u)) (committed L) t (has_from_Contains (survivors L) t c) in
    (Contains-from_has (committed L) t f.0, λ d. both_ways (is_deleted L t) (not-true (is_deleted L t) f.1) ((is_deleted_is_chain L t).1 d))

-- what committed survives, or a chain deletes it
pub survives_or_chain : (L : List Record) (t : ℕ) → Contains (committed L) t → Contains (survivors L) t ⊎ IsDeletedByChain L t
survives_or_chain L t c = by_test (is_deleted L t) refl
  where
    by_test : (b : Bool) → is_deleted L t ≡ b → Contains (survivors L) t ⊎ IsDeletedByChain L t
    by_test true e = inr ((is_deleted_is_chain L t).0 e)
    by_test false e = inl (Contains-from_has (survivors L) t (has-filter_from (λ u. not (is_deleted L u)) (committed L) t (has_from_Contains (committed L) t c) (rw e refl)))

-- the committed transactions that don't survive are exactly those that a chain deletes
pub deleted_by_chain : (L : List Record) (t : ℕ) → Contains (committed L) t → (Contains (survivors L) t → ⊥) ↔ IsDeletedByChain L t
deleted_by_chain L t c = (
  (λ n. ⊎_elim (λ s. absurd (n s)) (λ d. d) (survives_or_chain L t c)),
  (λ d s. (survivor_is_whole L t s).1 d),
)

-- what committed in a log committed in each log that goes on from it
pub committed_stays : (L M : List Record) (t : ℕ) → Contains (committed L) t → Contains (committed (L ++ M)) t
committed_stays L M t c = rw (filter_map-append commit_by L M) (Contains-append_left (committed L) (committed M) t c)

-- each log keeps what committed in its fronts
pub keeps_committed : (L M : List Record) → KeepsCommitted L (L ++ M)
keeps_committed L M = record {
  stays = λ t c. committed_stays L M t c;
  survives = λ t c. survives_or_chain (L ++ M) t (committed_stays L M t c);
  not_both = λ t s d. (survivor_is_whole (L ++ M) t s).1 d;
}
