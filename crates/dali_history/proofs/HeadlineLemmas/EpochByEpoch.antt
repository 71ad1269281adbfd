-- What a restart gives has the records that the survivors leave, from the law of kept records epoch by epoch.
use Rattle.std.proofs.Common.{◌≡◌, ℕ, ◌<◌, true, false, List, [], ◌∷◌, ◌++◌, Some, refl, ap, sym, ◌∙◌, arith, append_assoc}
use Rattle.std.specs.Prelude.{◌&&◌, not, filter, flat_map, fold, Contains}
use Rattle.std.proofs.lemmas.List.{append-nil}
use Rattle.std.proofs.lemmas.List.Sums.{fold-append}
use Rattle.std.proofs.lemmas.List.Sorted.{IsPermutation-refl}
use Rattle.std.proofs.lemmas.List.Elements.{Contains-append_right}
use Rattle.std.proofs.lemmas.Grind.{flat_map-append}
use Rattle.std.proofs.lemmas.Bool.{not-true}
use Rattle.dali_geometry.specs.Sizes.{Sizes}
use Rattle.dali_geometry.specs.Places.{formatted_image}
use Rattle.dali_access.proofs.IndexLemmas.Forms.{formatted_is_image, formatted_is_indexed, formatted_is_tidy}
use Rattle.dali_record.specs.declared.records.Record.{Record}
use Rattle.dali_record.specs.Log.{calls_of, committed}
use Rattle.dali_record.specs.Epochs.{Epoch, cut, epochs}
use Rattle.dali_record.specs.Damage.{has, has_corrupt}
use Rattle.dali_record.specs.Legal.{sizes_of}
use Rattle.dali_history.specs.Serial.{Map, empty_map, calls_after, serial, is_deleted_in, survivors, expected}
use Rattle.dali_history.specs.Recovered.{recover, base_of, recovered, recovered_now, IsHonestIn, AreHonest}
use Rattle.dali_history.specs.Images.{map_of}
use Rattle.dali_history.specs.Kept.Kept.{uncommitted, Stands}
use Rattle.dali_history.specs.History.{IsHistory, HasExpected}
use Rattle.dali_history.specs.Marked.{marks_of, kept_of}
use Rattle.dali_history.specs.Headline.Holds.{Holds}
use Rattle.dali_history.specs.Headline.Bridge.{cuts_of, EpochIsKept}
use Rattle.dali_history.proofs.Formatted.{formatted_has_none}
use Rattle.dali_history.proofs.Members.{has-filter, fold_within}
use Rattle.dali_history.proofs.Maps.{map_is}
use Rattle.dali_history.proofs.Survivors.{survivors_in, calls_of_own, survivors_in_epochs}
use Rattle.dali_history.proofs.HeadlineLemmas.KeptEpochs.{history_is_kept}
use Rattle.dali_history.proofs.KeptLemmas.Law.{law_of_kept_records}

-- the formatted image holds the empty map
pub formatted_holds : (s : Sizes) → 0 < s.index → 0 < s.heap → Holds s (formatted_image s) empty_map
formatted_holds s a b = record { image_is = formatted_is_image s a b; indexed = formatted_is_indexed s; tidy = formatted_is_tidy s; records_are = formatted_has_none s }

-- a survivor of an epoch has no corrupt block there
survivor_is_clean : (e : Epoch) (t : ℕ) → has (committed e.records) t ≡ true → not (is_deleted_in t e) ≡ true → has_corrupt (marks_of e) t ≡ false
survivor_is_clean e t h n =
    let f : (has (committed e.records) t && has_corrupt (marks_of e) t) ≡ false = not-true (is_deleted_in t e) n in
    rw h at f

-- one transaction after another, then some more
pub serial_then : (m n : Map) (ts us : List ℕ) (L : List Record) → serial m ts L ≡ Some n → serial m (ts ++ us) L ≡ serial n us L
serial_then m n ts us L e = fold-append (λ o t. calls_after o (calls_of t L)) (Some m) ts us ∙ ap (λ o. fold (λ p t. calls_after p (calls_of t L)) o us) e

-- what the recovery of one epoch holds is the survivors of the epoch replayed on what its base holds
pub recover_holds :
    (L : List Record) → IsHistory L
    → (A : List Epoch) (e : Epoch) (B : List Epoch) → epochs L ≡ A ++ e ∷ B
    → (base : List (List ℕ)) (m : Map) → IsHonestIn base e → Holds (sizes_of L) base m
    → (n : Map) × (serial m (survivors_in e) L ≡ Some n) × Holds (sizes_of L) (recover (sizes_of L) base e) n
recover_holds L history A e B split base m honest holds = (stands.replayed.0, replayed, recovered_holds)
  where
    s : Sizes
    s = sizes_of L

    K : List Record
    K = kept_of e

    here : Contains (epochs L) e
    here = rw split (Contains-append_right A (e ∷ B) e (0, omega arith, refl))

    epoch : EpochIsKept (sizes_of L) base e
    epoch = history_is_kept L base e history here honest holds.image_is holds.indexed holds.tidy

    stands : Stands (sizes_of L) base (kept_of e) (uncommitted (kept_of e))
    stands = law_of_kept_records (sizes_of L) base (cuts_of e) (kept_of e) (uncommitted (kept_of e)) epoch.kept (IsPermutation-refl (uncommitted (kept_of e)))

    same_calls : (t : ℕ) → has (survivors_in e) t ≡ true → calls_of t L ≡ calls_of t (kept_of e)
    same_calls t h =
        let r = has-filter (λ u. not (is_deleted_in u e)) (committed e.records) t h in
        calls_of_own (sizes_of L) L A e B t history.legal split r.0 ∙ sym (epoch.calls_are t (survivor_is_clean e t r.0 r.1))

    on_kept : serial m (survivors_in e) (kept_of e) ≡ Some stands.replayed.0
    on_kept =
        ap (λ p. serial p (survivors_in e) (kept_of e)) (map_is (sizes_of L) base m holds.records_are)
        ∙ ap (λ ts. serial (map_of (sizes_of L) base) ts (kept_of e)) (sym epoch.committed_are)
        ∙ stands.replayed.1

    replayed : serial m (survivors_in e) L ≡ Some stands.replayed.0
    replayed =
        fold_within (λ o t. calls_after o (calls_of t L)) (λ o t. calls_after o (calls_of t (kept_of e))) (survivors_in e) (λ t h o. ap (λ cs. calls_after o cs) (same_calls t h)) (Some m)
        ∙ on_kept

    recovered_holds : Holds (sizes_of L) (recover (sizes_of L) base e) stands.replayed.0
    recovered_holds = rw epoch.recovered_is (record { image_is = stands.image; indexed = stands.indexed; tidy = stands.tidy; records_are = stands.replayed.2 })

-- the same over closed epochs, one after another, and the open one is honest on what they lead to
pub closed_hold :
    (L : List Record) → IsHistory L
    → (A es : List Epoch) (now : Epoch) → epochs L ≡ A ++ (es ++ now ∷ [])
    → (base : List (List ℕ)) (m : Map) → AreHonest (sizes_of L) base (es ++ now ∷ []) → Holds (sizes_of L) base m
    → (n : Map) × (serial m (flat_map survivors_in es) L ≡ Some n) × Holds (sizes_of L) (fold (recover (sizes_of L)) base es) n × IsHonestIn (fold (recover (sizes_of L)) base es) now
closed_hold L history A [] now split base m honest holds = (m, refl, holds, honest.0)
closed_hold L history A (e ∷ es) now split base m honest holds =
    let first = recover_holds L history A e (es ++ now ∷ []) split base m honest.0 holds in
    let rest = closed_hold L history (A ++ e ∷ []) es now (split ∙ sym (append_assoc A (e ∷ []) (es ++ now ∷ []))) (recover (sizes_of L) base e) first.0 honest.1 first.2 in
    (rest.0, serial_then m first.0 (survivors_in e) (flat_map survivors_in es) L first.1 ∙ rest.1, rest.2, rest.3)

-- the base of a history's last epoch holds what the survivors of the closed epochs leave, and that epoch is honest on it
pub base_holds :
    (L : List Record) → IsHistory L
    → (m : Map) × (serial empty_map (flat_map survivors_in (cut L).closed) L ≡ Some m) × Holds (sizes_of L) (base_of (sizes_of L) L) m × IsHonestIn (base_of (sizes_of L) L) (cut L).now
base_holds L history =
    closed_hold L history [] (cut L).closed (cut L).now refl (formatted_image (sizes_of L)) empty_map history.honest (formatted_holds (sizes_of L) history.some_index history.some_heap)

-- what a restart recovers from a history is such an image too, and holds what is expected
pub recovered_holds : (L : List Record) → IsHistory L → (m : Map) × (expected L ≡ Some m) × Holds (sizes_of L) (recovered (sizes_of L) L) m
recovered_holds L history = (last.0, all, last.2)
  where
    closed : (n : Map) × (serial empty_map (flat_map survivors_in (cut L).closed) L ≡ Some n) × Holds (sizes_of L) (base_of (sizes_of L) L) n × IsHonestIn (base_of (sizes_of L) L) (cut L).now
    closed = base_holds L history

    by_records : (E : List Record) → (cut L).now.records ≡ E → (n : Map) × (serial closed.0 (survivors_in (cut L).now) L ≡ Some n) × Holds (sizes_of L) (recovered_now (sizes_of L) (base_of (sizes_of L) L) (cut L).now E) n
    by_records [] e = (closed.0, ap (λ E. serial closed.0 (filter (λ t. not (is_deleted_in t (cut L).now)) (committed E)) L) e, closed.2)
    by_records (r ∷ E) e = recover_holds L history (cut L).closed (cut L).now [] refl (base_of (sizes_of L) L) closed.0 closed.3 closed.2

    last : (n : Map) × (serial closed.0 (survivors_in (cut L).now) L ≡ Some n) × Holds (sizes_of L) (recovered (sizes_of L) L) n
    last = by_records (cut L).now.records refl

    in_order : survivors L ≡ flat_map survivors_in (cut L).closed ++ survivors_in (cut L).now
    in_order =
        survivors_in_epochs (sizes_of L) L history.legal
        ∙ flat_map-append survivors_in (cut L).closed ((cut L).now ∷ [])
        ∙ ap (λ ts. flat_map survivors_in (cut L).closed ++ ts) (append-nil (survivors_in (cut L).now))

    all : expected L ≡ Some last.0
    all = ap (λ ts. serial empty_map ts L) in_order ∙ serial_then empty_map closed.0 (flat_map survivors_in (cut L).closed) (survivors_in (cut L).now) L closed.1 ∙ last.1

-- the headline over lists
pub recovered_is_expected : (L : List Record) → IsHistory L → HasExpected L (recovered (sizes_of L) L)
recovered_is_expected L history =
    let r = recovered_holds L history in
    record { map = r.0; expected_is = r.1; records_are = r.2.records_are }
