-- An epoch without a failed audit: no block is corrupt, all records are kept, each committed transaction survives, and in an honest log each block is sound.
use Rattle.std.proofs.Common.{◌≡◌, ℕ, ◌+◌, Bool, true, false, List, [], ◌∷◌, ◌++◌, length, Option, Some, None, refl, ap, sym, subst, ◌∙◌, ⊎_elim}
use Rattle.std.specs.Prelude.{◌==◌, ◌&&◌, ◌||◌, not, nat_le, fold, filter, map, slice_get, ⊤}
use Rattle.std.specs.List.{list_any, AllByRecursion}
use Rattle.std.proofs.lemmas.List.Folds.{list_any-append}
use Rattle.std.proofs.lemmas.List.Elements.{filter_agree}
use Rattle.std.proofs.lemmas.Bool.{or_parts, or_from, and_right, both_ways}
use Rattle.dali_geometry.specs.Sizes.{Sizes}
use Rattle.dali_record.specs.declared.operations.Pending.{Pending}
use Rattle.dali_record.specs.declared.records.Record.{Record}
use Rattle.dali_record.specs.Log.{Touch, touch_of, touch_at, txn_of, undos_of, begun, committed}
use Rattle.dali_record.specs.Epochs.{Epoch, failing, epochs}
use Rattle.dali_record.specs.Damage.{Damage, damage_of, has, is_first, any_touch, is_linked_from, is_linked, mark_of, marks, is_corrupt_of, has_corrupt, before_corrupt, any_txn, kept_from, deleted_list}
use Rattle.dali_record.specs.Settled.{redo_all, IsSoundTouch, IsSoundAt, AreSound}
use Rattle.dali_record.proofs.Ends.{by_push}
use Rattle.dali_record.proofs.Pushes.{marks_push}
use Rattle.dali_record.proofs.Chains.{recs, marks-records}
use Rattle.dali_history.specs.Serial.{is_deleted_in, is_deleted, survivors}
use Rattle.dali_history.specs.Recovered.{roll_back, freed, losers, undos_left, recover, IsHonestIn}
use Rattle.dali_history.specs.Marked.{marks_of, kept_of}
use Rattle.dali_history.proofs.Survivors.{survivors_in}

-- no record is marked
abbrev pub is_marked : Record × Bool → Bool
is_marked m = m.1

abbrev pub AreUnmarked : List (Record × Bool) → Type 0
AreUnmarked ms = list_any is_marked ms ≡ false

-- ---- marks
middle_false : (x y : Bool) → (x && false && y) ≡ false
middle_false true y = refl
middle_false false y = refl

no_first : (d : Damage) (p : ℕ) (a : Touch) → d.failing ≡ [] → is_first d p a ≡ false
no_first d p a e = ap (λ rs. nat_le d.clean (d.first + p) && has rs a.block.region && not (a.block.read == 0)) e ∙ middle_false (nat_le d.clean (d.first + p)) (not (a.block.read == 0))

no_touch : (test : Touch → Bool) (o : Option Touch) → ((a : Touch) → test a ≡ false) → any_touch test o ≡ false
no_touch test None h = refl
no_touch test (Some a) h = h a

no_link : (before : List Record) (ms : List (Record × Bool)) (b : Touch) → AreUnmarked ms → is_linked before ms b ≡ false
no_link before [] b h = refl
no_link before (m ∷ ms) b h =
    let p = or_parts m.1 (list_any is_marked ms) h in
    or_from (m.1 && any_touch (λ a. is_linked_from before (m ∷ ms) a b) (touch_of m.0)) (is_linked (before ++ m.0 ∷ []) ms b) (Rattle.std.proofs.lemmas.Bool.and_left m.1 (any_touch (λ a. is_linked_from before (m ∷ ms) a b) (touch_of m.0)) p.0) (no_link (before ++ m.0 ∷ []) ms b p.1)

no_mark : (d : Damage) (ms : List (Record × Bool)) (r : Record) → d.failing ≡ [] → AreUnmarked ms → mark_of d ms r ≡ false
no_mark d ms r e h = no_touch (λ b. is_first d (length ms) b || is_linked [] ms b) (touch_of r) (λ b. or_from (is_first d (length ms) b) (is_linked [] ms b) (no_first d (length ms) b e) (no_link [] ms b h))

unmarked_push : (ms : List (Record × Bool)) (m : Record × Bool) → AreUnmarked ms → m.1 ≡ false → AreUnmarked (ms ++ m ∷ [])
unmarked_push ms m h e = list_any-append is_marked ms (m ∷ []) ∙ or_from (list_any is_marked ms) (m.1 || false) h (or_from m.1 false e refl)

-- where no audit of the epoch failed, no record is marked
pub unmarked : (d : Damage) (E : List Record) → d.failing ≡ [] → AreUnmarked (marks d E)
unmarked d E e = by_push (λ F. AreUnmarked (marks d F)) refl (λ F r h. rw (marks_push d F r) (unmarked_push (marks d F) (r, mark_of d (marks d F) r) h (no_mark d (marks d F) r e h))) E

-- without a mark no transaction has a corrupt block
pub no_corrupt : (ms : List (Record × Bool)) (t : ℕ) → AreUnmarked ms → has_corrupt ms t ≡ false
no_corrupt [] t h = refl
no_corrupt (m ∷ ms) t h =
    let p = or_parts m.1 (list_any is_marked ms) h in
    or_from (is_corrupt_of t m) (has_corrupt ms t) (Rattle.std.proofs.lemmas.Bool.and_left m.1 (any_touch (λ a. a.txn == t) (touch_of m.0)) p.0) (no_corrupt ms t p.1)

-- ---- what is kept
none_dropped : (ms : List (Record × Bool)) (o : Option ℕ) → AreUnmarked ms → any_txn (has_corrupt ms) o ≡ false
none_dropped ms None h = refl
none_dropped ms (Some t) h = no_corrupt ms t h

pub all_kept : (before ms : List (Record × Bool)) → AreUnmarked before → AreUnmarked ms → kept_from before ms ≡ recs ms
all_kept before [] g h = refl
all_kept before (m ∷ ms) g h =
    let p = or_parts m.1 (list_any is_marked ms) h in
    let so_far : AreUnmarked (before ++ m ∷ []) = unmarked_push before m g p.0 in
    rw (none_dropped (before ++ m ∷ []) (txn_of m.0) so_far) (ap (λ rs. m.0 ∷ rs) (all_kept (before ++ m ∷ []) ms so_far p.1))

all_before : (t : ℕ) (ms : List (Record × Bool)) → AreUnmarked ms → before_corrupt t ms ≡ recs ms
all_before t [] h = refl
all_before t (m ∷ ms) h =
    let p = or_parts m.1 (list_any is_marked ms) h in
    rw (Rattle.std.proofs.lemmas.Bool.and_left m.1 (any_touch (λ a. a.txn == t) (touch_of m.0)) p.0) (ap (λ rs. m.0 ∷ rs) (all_before t ms p.1))

-- ---- an epoch without a failed audit
pub undamaged_kept : (e : Epoch) → failing e ≡ [] → kept_of e ≡ e.records
undamaged_kept e h = all_kept [] (marks_of e) refl (unmarked (damage_of e) e.records h) ∙ marks-records (damage_of e) e.records

-- each transaction leaves its undos at the end
pub undamaged_undos : (e : Epoch) (t : ℕ) → failing e ≡ [] → undos_left (marks_of e) t ≡ undos_of t e.records
undamaged_undos e t h = ap (undos_of t) (all_before t (marks_of e) (unmarked (damage_of e) e.records h) ∙ marks-records (damage_of e) e.records)

-- nothing is deleted
pub none_deleted_in : (e : Epoch) (t : ℕ) → failing e ≡ [] → is_deleted_in t e ≡ false
none_deleted_in e t h = and_right (has (committed e.records) t) (has_corrupt (marks_of e) t) (no_corrupt (marks_of e) t (unmarked (damage_of e) e.records h))

keep_all : (p : ℕ → Bool) → ((t : ℕ) → p t ≡ true) → (xs : List ℕ) → filter p xs ≡ xs
keep_all p h [] = refl
keep_all p h (x ∷ xs) = rw (h x) (ap (λ ys. x ∷ ys) (keep_all p h xs))

keep_none : (p : ℕ → Bool) → ((t : ℕ) → p t ≡ false) → (xs : List ℕ) → filter p xs ≡ []
keep_none p h [] = refl
keep_none p h (x ∷ xs) = rw (h x) (keep_none p h xs)

-- all that committed in it survive
pub undamaged_survivors : (e : Epoch) → failing e ≡ [] → survivors_in e ≡ committed e.records
undamaged_survivors e h = keep_all (λ t. not (is_deleted_in t e)) (λ t. ap not (none_deleted_in e t h)) (committed e.records)

-- its list of the deleted is empty
pub undamaged_deleted : (e : Epoch) → failing e ≡ [] → deleted_list e ≡ []
undamaged_deleted e h = keep_none (λ t. is_deleted_in t e) (λ t. none_deleted_in e t h) (begun e.records)

-- those are rolled back that have no Commit
pub undamaged_losers : (e : Epoch) → failing e ≡ [] → losers e (marks_of e) ≡ filter (λ t. not (has (committed e.records) t)) (begun e.records)
undamaged_losers e h =
    filter_agree (λ t. has_corrupt (marks_of e) t || not (has (committed e.records) t)) (λ t. not (has (committed e.records) t))
    (λ t. ap (λ b. b || not (has (committed e.records) t)) (no_corrupt (marks_of e) t (unmarked (damage_of e) e.records h))) (begun e.records)

same_roll : (f g : ℕ → List Pending) → ((t : ℕ) → f t ≡ g t) → (image : List (List ℕ)) (ts : List ℕ) → fold (λ i t. roll_back i (f t)) image ts ≡ fold (λ i t. roll_back i (g t)) image ts
same_roll f g h image [] = refl
same_roll f g h image (t ∷ ts) = ap (λ us. fold (λ i u. roll_back i (f u)) (roll_back image us) ts) (h t) ∙ same_roll f g h (roll_back image (g t)) ts

-- its recovery writes all its blocks and rolls back what has no Commit
pub undamaged_recover :
    (s : Sizes) (base : List (List ℕ)) (e : Epoch) → failing e ≡ []
    → recover s base e ≡ freed s (fold (λ i t. roll_back i (undos_of t e.records)) (redo_all base e.records) (filter (λ t. not (has (committed e.records) t)) (begun e.records)))
undamaged_recover s base e h =
    ap (λ K. freed s (fold (λ i t. roll_back i (undos_left (marks_of e) t)) (redo_all base K) (losers e (marks_of e)))) (undamaged_kept e h)
    ∙ ap (λ ts. freed s (fold (λ i t. roll_back i (undos_left (marks_of e) t)) (redo_all base e.records) ts)) (undamaged_losers e h)
    ∙ ap (λ i. freed s i) (same_roll (λ t. undos_left (marks_of e) t) (λ t. undos_of t e.records) (λ t. undamaged_undos e t h) (redo_all base e.records) (filter (λ t. not (has (committed e.records) t)) (begun e.records)))

-- where it is honest, each of its blocks is sound
pub undamaged_sound : (base : List (List ℕ)) (e : Epoch) → failing e ≡ [] → IsHonestIn base e → AreSound base e.records
undamaged_sound base e h honest i l = by_touch (touch_at e.records i) refl
  where
    by_touch : (o : Option Touch) → touch_at e.records i ≡ o → IsSoundAt base e.records i
    by_touch None f = subst (λ o. IsSoundTouch (redo_all base (Rattle.std.specs.Prelude.take i e.records)) o) (sym f) tt
    by_touch (Some a) f = ⊎_elim (λ s. s) (λ w. absurd (both_ways (has (failing e) a.block.region) (ap (λ rs. has rs a.block.region) h) w.1)) (honest i a f)

-- ---- a log without a failed audit
abbrev pub AreUndamaged : List Epoch → Type 0
AreUndamaged es = AllByRecursion (λ e. failing e ≡ []) es

none_in : (t : ℕ) (es : List Epoch) → AreUndamaged es → list_any (is_deleted_in t) es ≡ false
none_in t [] h = refl
none_in t (e ∷ es) h = or_from (is_deleted_in t e) (list_any (is_deleted_in t) es) (none_deleted_in e t h.0) (none_in t es h.1)

-- all that committed survives
pub all_survive : (L : List Record) → AreUndamaged (epochs L) → survivors L ≡ committed L
all_survive L h = keep_all (λ t. not (is_deleted L t)) (λ t. ap not (none_in t (epochs L) h)) (committed L)
