-- The lists that a restart reports: the transactions that a chain deleted in the recovered epoch, and those that had no Commit and no Ended, each ascending.
use Rattle.std.proofs.Common.{◌≡◌, ℕ, suc, true, false, List, [], ◌∷◌, ◌++◌, Option, Some, None, refl, ap, sym, ◌∙◌, arith}
use Rattle.std.specs.Prelude.{Contains, ◌&&◌, ◌||◌, not, flat_map, ◌↔◌, unwrap_or}
use Rattle.std.specs.List.{list_any}
use Rattle.std.proofs.lemmas.List.Elements.{filter_map-append, Contains-append_left, Contains-append_right}
use Rattle.std.proofs.lemmas.Grind.{flat_map-append}
use Rattle.std.proofs.lemmas.Bool.{both_ways, and_parts, and_from, or_left, or_right, or_parts, or_from, not-true, not_from_false, false_from_ne_true}
use mathlib.Core.Bool.{or-false}
use Rattle.dali_geometry.specs.Sizes.{Sizes}
use Rattle.dali_record.specs.declared.records.Record.{Record}
use Rattle.dali_record.specs.declared.records.Record.TheVariants.{Begin, Commit, Ended}
use Rattle.dali_record.specs.Log.{last_of, begun, begin_by, committed, ended, ended_by}
use Rattle.dali_record.specs.Epochs.{Epoch, cut, epochs, recovered_or, recovered_epoch}
use Rattle.dali_record.specs.Damage.{has, damage_of, IsDeleted, deleted_list, rolled_list}
use Rattle.dali_record.specs.Legal.{IsLegalFor}
use Rattle.dali_record.proofs.Survivors.{begin_is}
use Rattle.dali_history.specs.Serial.{is_deleted_in}
use Rattle.dali_history.proofs.Places.{split_at}
use Rattle.dali_history.proofs.Members.{has-filter, Contains-from_has, has_from_Contains, has-filter_from, has_append}
use Rattle.dali_history.proofs.OwnEpoch.{is_by, AreQuiet, others_are_quiet, loud_from_committed}
use Rattle.dali_history.proofs.ByEpochs.{in_epochs, committed_in_epochs}
use Rattle.dali_history.proofs.Chained.{filtered_is_Contains, committed_is_Contains, is_deleted_in_is_chain}
use Rattle.dali_history.proofs.Began.{begun_from_committed}

-- ---- a Begin in the same epoch
quiet_begin : (t : ℕ) (r : Record) → is_by t r ≡ false → has (begun (r ∷ [])) t ≡ false
quiet_begin t (Begin u) f = rw f refl
quiet_begin t _ f = refl

quiet_begun : (t : ℕ) (E : List Record) → list_any (is_by t) E ≡ false → has (begun E) t ≡ false
quiet_begun t [] f = refl
quiet_begun t (r ∷ E) f =
    let p = or_parts (is_by t r) (list_any (is_by t) E) f in
    ap (λ ts. has ts t) (filter_map-append begin_by (r ∷ []) E) ∙ has_append (begun (r ∷ [])) (begun E) t ∙ or_from (has (begun (r ∷ [])) t) (has (begun E) t) (quiet_begin t r p.0) (quiet_begun t E p.1)

none_begun : (t : ℕ) (es : List Epoch) → AreQuiet t es → has (flat_map (λ e. begun e.records) es) t ≡ false
none_begun t [] q = refl
none_begun t (e ∷ es) q = has_append (begun e.records) (flat_map (λ f. begun f.records) es) t ∙ or_from (has (begun e.records) t) (has (flat_map (λ f. begun f.records) es) t) (quiet_begun t e.records q.0) (none_begun t es q.1)

has_in_own : (t : ℕ) (A : List Epoch) (e : Epoch) (B : List Epoch) → AreQuiet t A × AreQuiet t B → has (flat_map (λ f. begun f.records) (A ++ e ∷ B)) t ≡ has (begun e.records) t
has_in_own t A e B quiet =
    ap (λ ts. has ts t) (flat_map-append (λ f. begun f.records) A (e ∷ B))
    ∙ has_append (flat_map (λ f. begun f.records) A) (flat_map (λ f. begun f.records) (e ∷ B)) t
    ∙ ap (λ b. b || has (flat_map (λ f. begun f.records) (e ∷ B)) t) (none_begun t A quiet.0)
    ∙ has_append (begun e.records) (flat_map (λ f. begun f.records) B) t
    ∙ ap (λ b. has (begun e.records) t || b) (none_begun t B quiet.1)
    ∙ or-false (has (begun e.records) t)

has_committed : (t : ℕ) (A : List Epoch) (e : Epoch) (B : List Epoch) → has (committed e.records) t ≡ true → has (flat_map (λ f. committed f.records) (A ++ e ∷ B)) t ≡ true
has_committed t A e B h =
    ap (λ ts. has ts t) (flat_map-append (λ f. committed f.records) A (e ∷ B))
    ∙ has_append (flat_map (λ f. committed f.records) A) (flat_map (λ f. committed f.records) (e ∷ B)) t
    ∙ or_right (has (flat_map (λ f. committed f.records) A) t) (has (flat_map (λ f. committed f.records) (e ∷ B)) t)
    (has_append (committed e.records) (flat_map (λ f. committed f.records) B) t ∙ or_left (has (committed e.records) t) (has (flat_map (λ f. committed f.records) B) t) h)

-- what committed in an epoch had begun in it
pub begun_in_own : (s : Sizes) (L : List Record) (e : Epoch) (t : ℕ) → IsLegalFor s L → Contains (epochs L) e → has (committed e.records) t ≡ true → has (begun e.records) t ≡ true
begun_in_own s L e t legal here h =
    let p = split_at (epochs L) e here in
    let quiet = others_are_quiet s t L p.0 e p.1 (legal.txns t) p.2 (loud_from_committed t e h) in
    let all : has (committed L) t ≡ true = ap (λ ts. has ts t) (committed_in_epochs s L legal.rules ∙ ap (λ es. flat_map (λ f. committed f.records) es) p.2) ∙ has_committed t p.0 e p.1 h in
    let begins : begun L ≡ flat_map (λ f. begun f.records) (p.0 ++ e ∷ p.1) = in_epochs _ begin_by (λ i n. refl) (λ rs ds. refl) s L legal.rules ∙ ap (λ es. flat_map (λ f. begun f.records) es) p.2 in
    sym (has_in_own t p.0 e p.1 quiet) ∙ sym (ap (λ ts. has ts t) begins) ∙ begun_from_committed s t L (legal.txns t) all

-- ---- the deleted
-- the list of the deleted has exactly those that a chain deletes in the epoch
pub deleted_list_is : (s : Sizes) (L : List Record) (e : Epoch) (t : ℕ) → IsLegalFor s L → Contains (epochs L) e → Contains (deleted_list e) t ↔ IsDeleted (damage_of e) e.records t
deleted_list_is s L e t legal here = (to, from)
  where
    to : Contains (deleted_list e) t → IsDeleted (damage_of e) e.records t
    to c = (is_deleted_in_is_chain e t).0 (has-filter (λ u. is_deleted_in u e) (begun e.records) t (has_from_Contains (deleted_list e) t c)).1

    from : IsDeleted (damage_of e) e.records t → Contains (deleted_list e) t
    from d =
        let h : is_deleted_in t e ≡ true = (is_deleted_in_is_chain e t).1 d in
        Contains-from_has (deleted_list e) t (has-filter_from (λ u. is_deleted_in u e) (begun e.records) t (begun_in_own s L e t legal here (and_parts (has (committed e.records) t) _ h).0) h)

-- ---- the rolled back

pub ended_from : (r : Record) (t : ℕ) → ended_by r ≡ Some t → r ≡ Ended t
ended_from (Ended u) t e = let same : u ≡ t = cc in ap (λ v. Ended v) same
ended_from _ t e = absurd (cc)

-- t has begun where the list has its Begin
pub begun_is_Contains : (E : List Record) (t : ℕ) → (has (begun E) t ≡ true) ↔ Contains E (Begin t)
begun_is_Contains E t = filtered_is_Contains begin_by (λ u. Begin u) (λ u. refl) begin_is E t

-- t has ended where the list has its Ended
pub ended_is_Contains : (E : List Record) (t : ℕ) → (has (ended E) t ≡ true) ↔ Contains E (Ended t)
ended_is_Contains E t = filtered_is_Contains ended_by (λ u. Ended u) (λ u. refl) ended_from E t

-- the list of the rolled back has exactly those with a Begin in the epoch and with neither Commit nor Ended
pub rolled_list_is : (e : Epoch) (t : ℕ) → Contains (rolled_list e) t ↔ (Contains e.records (Begin t) × (Contains e.records (Commit t) → ⊥) × (Contains e.records (Ended t) → ⊥))
rolled_list_is e t = (to, from)
  where
    E : List Record
    E = e.records

    to : Contains (rolled_list e) t → Contains e.records (Begin t) × (Contains e.records (Commit t) → ⊥) × (Contains e.records (Ended t) → ⊥)
    to c =
        let f = has-filter (λ u. not (has (committed e.records) u) && not (has (ended e.records) u)) (begun e.records) t (has_from_Contains (rolled_list e) t c) in
        let p = and_parts (not (has (committed e.records) t)) (not (has (ended e.records) t)) f.1 in (
          (begun_is_Contains e.records t).0 f.0,
          λ k. both_ways (has (committed e.records) t) (not-true (has (committed e.records) t) p.0) ((committed_is_Contains e.records t).1 k),
          λ k. both_ways (has (ended e.records) t) (not-true (has (ended e.records) t) p.1) ((ended_is_Contains e.records t).1 k),
        )

    from : Contains e.records (Begin t) × (Contains e.records (Commit t) → ⊥) × (Contains e.records (Ended t) → ⊥) → Contains (rolled_list e) t
    from d =
        let no_commit : has (committed e.records) t ≡ false = false_from_ne_true (has (committed e.records) t) (λ h. d.1 ((committed_is_Contains e.records t).0 h)) in
        let no_end : has (ended e.records) t ≡ false = false_from_ne_true (has (ended e.records) t) (λ h. d.2 ((ended_is_Contains e.records t).0 h)) in
        Contains-from_has (rolled_list e) t
        (has-filter_from (λ u. not (has (committed e.records) u) && not (has (ended e.records) u)) (begun e.records) t ((begun_is_Contains e.records t).1 d.0)
        (and_from (not (has (committed e.records) t)) (not (has (ended e.records) t)) (not_from_false (has (committed e.records) t) no_commit) (not_from_false (has (ended e.records) t) no_end)))

-- ---- the recovered epoch is one of the log's
last_in : {X : Type 0} (xs : List X) (x d : X) → last_of xs ≡ Some x → Contains xs (unwrap_or (last_of xs) d)
last_in [] x d e = absurd (cc)
last_in (y ∷ []) x d e = (0, omega arith, refl)
last_in (y ∷ z ∷ zs) x d e = let c = last_in (z ∷ zs) x d e in (suc c.0, omega (arith, c.1), c.2)

-- the last epoch, or the last closed one
pub recovered_epoch_in : (L : List Record) → Contains (epochs L) (recovered_epoch L)
recovered_epoch_in L = by_records (cut L).now.records
  where
    now_in : Contains (epochs L) (cut L).now
    now_in = Contains-append_right (cut L).closed ((cut L).now ∷ []) (cut L).now (0, omega arith, refl)

    by_last : (o : Option Epoch) → last_of (cut L).closed ≡ o → Contains (epochs L) (unwrap_or (last_of (cut L).closed) (cut L).now)
    by_last None e = rw e now_in
    by_last (Some f) e = Contains-append_left (cut L).closed ((cut L).now ∷ []) (unwrap_or (last_of (cut L).closed) (cut L).now) (last_in (cut L).closed f (cut L).now e)

    by_records : (E : List Record) → Contains (epochs L) (recovered_or (cut L) E)
    by_records [] = by_last (last_of (cut L).closed) refl
    by_records (r ∷ E) = now_in
