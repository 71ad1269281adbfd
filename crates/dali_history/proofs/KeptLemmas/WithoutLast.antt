-- What the premises of the law say of a list without its last record, and what locks say of the last block.
--     left t J               the undos of t that stand, where t has no Commit
--     Touches t k J          t has a block on k
--     Alters t k J           t has a block that changes k
use Rattle.std.proofs.Common.{◌≡◌, ℕ, ◌+◌, ◌<◌, ◌≤◌, true, false, List, [], ◌∷◌, ◌++◌, length, map, Option, Some, None, refl, sym, subst, ◌∙◌, ◌⊎◌, inl, inr, ⊎_elim, ◌≢◌, arith}
use Rattle.std.specs.Prelude.{◌||◌, if◌then◌else◌, slice_get, IsSome}
use Rattle.std.proofs.lemmas.List.{length-append, take-append-le}
use Rattle.std.proofs.Math.Seq.{take-append_seam}
use Rattle.std.proofs.lemmas.List.Sums.{fold_push}
use Rattle.std.proofs.lemmas.Bool.{eq-eqb, ne_eqb, or_left, or_right}
use Rattle.dali_geometry.specs.Sizes.{Sizes}
use Rattle.dali_record.specs.declared.operations.Pending.{Pending}
use Rattle.dali_record.specs.declared.records.Record.{Record}
use Rattle.dali_record.specs.declared.records.Record.TheVariants.{Forward, Ended, Back}
use Rattle.dali_record.specs.Blocks.{changes_item}
use Rattle.dali_record.specs.Log.{Touch, touch_of, touch_at, undos_of, undo_step, committed}
use Rattle.dali_record.specs.Locks.{conflicts, EndedBetween}
use Rattle.dali_record.specs.Damage.{has}
use Rattle.dali_record.specs.Settled.{redo_all, IsSoundIn, AreSound, IsSoundTouch}
use Rattle.dali_record.specs.Legal.{TxnState, Unbegun}
use Rattle.dali_record.proofs.Ends.{get_old}
use Rattle.dali_record.proofs.Pushes.{undos_of_push, touch_old, touch_new, touch_within}
use Rattle.dali_history.specs.Kept.Kept.{kept_state, kept_next, KeepsCalls, IsLockLegalBut, IsCutBefore}
use Rattle.dali_history.specs.Blocks.{HasValues}

pub kept_state_push : (s : Sizes) (t : ℕ) (J : List Record) (r : Record) → kept_state s t (J ++ r ∷ []) ≡ kept_next s t (kept_state s t J) r
kept_state_push s t J r = fold_push (kept_next s t) (Some Unbegun) J r

-- ---- the premises of the list without its last record
pub kept_before : (s : Sizes) (t : ℕ) (J : List Record) (r : Record) → IsSome (kept_state s t (J ++ r ∷ [])) → IsSome (kept_state s t J)
kept_before s t J r h = go (kept_state s t J) (subst (λ o. IsSome o) (kept_state_push s t J r) h)
  where
    go : (o : Option TxnState) → IsSome (kept_next s t o r) → IsSome o
    go None g = g
    go (Some x) g = refl

pub calls_before : (s : Sizes) (J : List Record) (r : Record) → KeepsCalls s (J ++ r ∷ []) → KeepsCalls s J
calls_before s J r h = record {
  txns = λ t. kept_before s t J r (h.txns t);
  kinds = λ i a e. h.kinds i a (touch_old J r i (touch_within J i a e) ∙ e);
}

pub values_before : (J : List Record) (r : Record) → HasValues (J ++ r ∷ []) → HasValues J
values_before J r h i a e = h i a (touch_old J r i (touch_within J i a e) ∙ e)

-- undos change by blocks of the transaction alone
pub undos_other : (t : ℕ) (us : List Pending) (r : Record) → ((a : Touch) → touch_of r ≡ Some a → a.txn ≢ t) → undo_step t us r ≡ us
undos_other t us (Forward u b) n = rw (ne_eqb u t (n (record { txn = u; owner = u; block = b }) refl)) refl
undos_other t us (Back u b) n = rw (ne_eqb u t (n (record { txn = u; owner = u; block = b }) refl)) refl
undos_other t us _ n = refl

pub cut_before : (cuts : List ℕ) (J : List Record) (r : Record) (t key j : ℕ) → j < length J → IsCutBefore cuts (J ++ r ∷ []) t key j → IsCutBefore cuts J t key j
cut_before cuts J r t key j below h = (h.0, rw same at h.1, λ i x. h.2 i (x.0, touch_old J r i (touch_within J i x.0 x.1) ∙ x.1, x.2))
  where
    none : (a : Touch) → touch_of r ≡ Some a → a.txn ≢ t
    none a e of = let late = h.2 (length J) (a, touch_new J r ∙ e, of) in omega (arith, late)

    same : undos_of t (J ++ r ∷ []) ≡ undos_of t J
    same = undos_of_push t J r ∙ undos_other t (undos_of t J) r none

ended_before : (t i j : ℕ) (J : List Record) (r : Record) → j ≤ length J → EndedBetween t i j (J ++ r ∷ []) → EndedBetween t i j J
ended_before t i j J r below h = (h.0, h.1, h.2, sym (get_old J r h.0 (omega (arith, h.2))) ∙ h.3)

pub locks_before : (cuts : List ℕ) (J : List Record) (r : Record) → IsLockLegalBut cuts (J ++ r ∷ []) → IsLockLegalBut cuts J
locks_before cuts J r h i j a b before e f c =
    let wi = touch_within J i a e in
    let wj = touch_within J j b f in
    ⊎_elim (λ x. inl (ended_before a.owner i j J r (omega (arith, wj)) x)) (λ x. inr (cut_before cuts J r a.owner a.block.key j wj x)) (h i j a b before (touch_old J r i wi ∙ e) (touch_old J r j wj ∙ f) c)

pub sound_before : (base : List (List ℕ)) (J : List Record) (r : Record) → AreSound base (J ++ r ∷ []) → AreSound base J × IsSoundIn (redo_all base J) r
sound_before base J r h = (old, new)
  where
    long : length (J ++ r ∷ []) ≡ length J + 1
    long = length-append J (r ∷ [])

    old : AreSound base J
    old i below = let x = h i (omega (arith, long)) in subst₂' (take-append-le i J (r ∷ []) (omega (arith, below))) (touch_old J r i below) x
      where
        subst₂' : {K L : List Record} {o p : Option Touch} → K ≡ L → o ≡ p → IsSoundTouch (redo_all base K) o → IsSoundTouch (redo_all base L) p
        subst₂' {K = K} {L = L} {o = o} {p = p} e f x = subst (λ q. IsSoundTouch (redo_all base L) q) f (subst (λ M. IsSoundTouch (redo_all base M) o) e x)

    new : IsSoundIn (redo_all base J) r
    new =
        let x = h (length J) (omega (arith, long)) in
        subst (λ q. IsSoundTouch (redo_all base J) q) (touch_new J r) (subst (λ M. IsSoundTouch (redo_all base M) (touch_at (J ++ r ∷ []) (length J))) (take-append_seam J (r ∷ [])) x)

-- ---- who stands on a key
abbrev pub left : ℕ → List Record → List Pending
left t J = if has (committed J) t then [] else undos_of t J

abbrev pub Touches : ℕ → ℕ → List Record → Type 0
Touches t k J = (i : ℕ) × (a : Touch) × (touch_at J i ≡ Some a) × (a.owner ≡ t) × (a.block.key ≡ k)

abbrev pub Alters : ℕ → ℕ → List Record → Type 0
Alters t k J = (i : ℕ) × (a : Touch) × (touch_at J i ≡ Some a) × (a.owner ≡ t) × (a.block.key ≡ k) × (changes_item a.block ≡ true)

abbrev pub HasEnded : ℕ → List Record → Type 0
HasEnded t J = (i : ℕ) × (slice_get J i ≡ Some (Ended t))

pub touches_push : (t k : ℕ) (J : List Record) (r : Record) → Touches t k J → Touches t k (J ++ r ∷ [])
touches_push t k J r h = (h.0, h.1, touch_old J r h.0 (touch_within J h.0 h.1 h.2) ∙ h.2, h.3, h.4)

pub alters_push : (t k : ℕ) (J : List Record) (r : Record) → Alters t k J → Alters t k (J ++ r ∷ [])
alters_push t k J r h = (h.0, h.1, touch_old J r h.0 (touch_within J h.0 h.1 h.2) ∙ h.2, h.3, h.4, h.5)

-- two blocks on one key of two owners, one of which changes it
conflict : (a b : Touch) (k : ℕ) → a.block.key ≡ k → b.block.key ≡ k → a.owner ≢ b.owner → (changes_item a.block || changes_item b.block) ≡ true → conflicts a b ≡ true
conflict a b k e f apart c = rw (eq-eqb a.block.key b.block.key (e ∙ sym f), ne_eqb a.owner b.owner apart, c) refl

-- the last block conflicts with an earlier one of t: t has ended, or is cut with no undo on the key
abbrev pub Yields : List ℕ → ℕ → ℕ → List Record → Record → Type 0
Yields cuts t k J r = HasEnded t J ⊎ ((has cuts t ≡ true) × (has (map (λ (u : Pending). u.key) (undos_of t (J ++ r ∷ []))) k ≡ false) × ((a : Touch) → touch_of r ≡ Some a → a.txn ≢ t))

yields : (cuts : List ℕ) (J : List Record) (r : Record) (b : Touch) (i : ℕ) (a : Touch) (k : ℕ) → IsLockLegalBut cuts (J ++ r ∷ []) → touch_of r ≡ Some b → touch_at J i ≡ Some a → a.block.key ≡ k → b.block.key ≡ k → a.owner ≢ b.owner → (changes_item a.block || changes_item b.block) ≡ true → Yields cuts a.owner k J r
yields cuts J r b i a k locks last at e f apart c =
    let within = touch_within J i a at in
    ⊎_elim
    (λ x. inl (x.0, sym (get_old J r x.0 x.2) ∙ x.3))
    (λ x. inr (x.0, subst (λ q. has (map (λ (u : Pending). u.key) (undos_of a.owner (J ++ r ∷ []))) q ≡ false) e x.1, λ d g of. let late = x.2 (length J) (d, touch_new J r ∙ g, of) in omega (arith, late)))
    (locks i (length J) a b within (touch_old J r i within ∙ at) (touch_new J r ∙ last) (conflict a b k e f apart c))

pub yields_altered : (cuts : List ℕ) (J : List Record) (r : Record) (b : Touch) (t k : ℕ) → IsLockLegalBut cuts (J ++ r ∷ []) → touch_of r ≡ Some b → b.block.key ≡ k → t ≢ b.owner → Alters t k J → Yields cuts t k J r
yields_altered cuts J r b t k locks last f apart h =
    subst (λ x. Yields cuts x k J r) h.3 (yields cuts J r b h.0 h.1 k locks last h.2 h.4 f (λ e. apart (sym h.3 ∙ e)) (or_left (changes_item h.1.block) (changes_item b.block) h.5))

pub yields_touched : (cuts : List ℕ) (J : List Record) (r : Record) (b : Touch) (t k : ℕ) → IsLockLegalBut cuts (J ++ r ∷ []) → touch_of r ≡ Some b → b.block.key ≡ k → t ≢ b.owner → changes_item b.block ≡ true → Touches t k J → Yields cuts t k J r
yields_touched cuts J r b t k locks last f apart alters h =
    subst (λ x. Yields cuts x k J r) h.3 (yields cuts J r b h.0 h.1 k locks last h.2 h.4 f (λ e. apart (sym h.3 ∙ e)) (or_right (changes_item h.1.block) (changes_item b.block) alters))
