-- The deleted transactions of an epoch, and of a log.
use Rattle.std.proofs.Common.{◌≡◌, ℕ, ◌+◌, ◌<◌, Bool, List, [], ◌∷◌, ◌++◌, length, take, get_or, refl, ap, sym, subst, ◌∙◌}
use Rattle.std.specs.Prelude.{◌||◌, ◌==◌, ◌↔◌, filter, flat_map, fold, Contains, IsPermutation}
use Rattle.std.specs.List.{list_any}
use Rattle.std.proofs.lemmas.List.{length-map, take_more}
use Rattle.std.proofs.lemmas.List.Folds.{list_any-append}
use Rattle.std.proofs.lemmas.List.Elements.{filter_map-append, filter_agree, filter-append}
use Rattle.std.proofs.lemmas.List.Sorted.{Contains-permutation, IsPermutation-sym}
use mathlib.Core.Bool.{and_comm}
use Rattle.dali_record.specs.declared.records.Record.{Record}
use Rattle.dali_record.specs.Log.{commit_by, committed}
use Rattle.dali_record.specs.Epochs.{Epoch, epochs, clean_step, failing_step}
use Rattle.dali_record.specs.Damage.{Damage, damage_of, has, marks, has_corrupt}
use Rattle.dali_record.proofs.Chains.{marks-records}
use Rattle.dali_record.proofs.Survivors.{has_filter}
use Rattle.dali_history.specs.Serial.{is_deleted_in}
use Rattle.dali_history.specs.Acknowledged.{IsDeletedByChain}
use Rattle.dali_history.proofs.Members.{Contains-from_has, has_from_Contains}
use Rattle.dali_history.proofs.Chained.{is_deleted_is_chain}
use Rattle.dali_replay.specs.Marking.{marks_only, corrupted, deleted_of}
use Rattle.dali_replay.proofs.Marks.{corrupted_is, length-ticks, length-recs}

-- as many marks as records
pub marks_fit : (d : Damage) (E : List Record) → length (marks_only d E) ≡ length E
marks_fit d E = length-ticks (marks d E) ∙ sym (length-recs (marks d E)) ∙ ap length (marks-records d E)

-- one Commit more
pub keep_more : (p : ℕ → Bool) (E : List Record) (n : ℕ) (r : Record) (old ds js : List ℕ) → n < length E → r ≡ get_or E n r → ds ≡ old ++ filter p (committed (take n E)) → js ≡ ds ++ filter p (committed (r ∷ [])) → js ≡ old ++ filter p (committed (take (n + 1) E))
keep_more p E n r old ds js l is h j =
    j ∙ ap (λ xs. xs ++ filter p (committed (r ∷ []))) h
    ∙ Rattle.std.proofs.Common.append_assoc old (filter p (committed (take n E))) (filter p (committed (r ∷ [])))
    ∙ ap (λ xs. old ++ xs) (sym (filter-append p (committed (take n E)) (committed (r ∷ []))) ∙ ap (filter p) (sym (filter_map-append commit_by (take n E) (r ∷ []))) ∙ ap (λ xs. filter p (committed xs)) (sym (take_more E n r l ∙ ap (λ x. take n E ++ x ∷ []) (sym is))))

-- what was found of the epoch is its damage
pub damage_is : (d : Damage) (first : ℕ) (E : List Record) → d.first ≡ first → d.clean ≡ fold clean_step first E → d.failing ≡ fold failing_step [] E → d ≡ damage_of (record { first = first; records = E })
damage_is d first E a b c = ap (λ x. record { first = x; clean = d.clean; failing = d.failing }) a ∙ ap (λ x. record { first = first; clean = x; failing = d.failing }) b ∙ ap (λ x. record { first = first; clean = fold clean_step first E; failing = x }) c

pub deleted_is : (d : Damage) (first : ℕ) (E : List Record) (ks : List Bool) → d ≡ damage_of (record { first = first; records = E }) → ks ≡ marks_only d E → filter (corrupted E ks) (committed E) ≡ deleted_of (record { first = first; records = E })
deleted_is d first E ks e k =
    ap (λ xs. filter (corrupted E xs) (committed E)) k
    ∙ filter_agree (corrupted E (marks_only d E)) (λ t. has_corrupt (marks d E) t) (λ t. sym (corrupted_is d E t)) (committed E)
    ∙ ap (λ x. filter (λ t. has_corrupt (marks x E) t) (committed E)) e

-- ---- the whole log

deleted_in : (e : Epoch) (t : ℕ) → has (deleted_of e) t ≡ is_deleted_in t e
deleted_in e t = has_filter (λ u. has_corrupt (marks (damage_of e) e.records) u) (committed e.records) t ∙ and_comm (has_corrupt (marks (damage_of e) e.records) t) (has (committed e.records) t)

deleted_among : (es : List Epoch) (t : ℕ) → has (flat_map deleted_of es) t ≡ list_any (is_deleted_in t) es
deleted_among [] t = refl
deleted_among (e ∷ es) t = list_any-append (λ x. x == t) (deleted_of e) (flat_map deleted_of es) ∙ ap (λ b. b || has (flat_map deleted_of es) t) (deleted_in e t) ∙ ap (λ b. is_deleted_in t e || b) (deleted_among es t)

pub deleted_by_chain : (L : List Record) (t : ℕ) → Contains (flat_map deleted_of (epochs L)) t ↔ IsDeletedByChain L t
deleted_by_chain L t = (
  (λ c. (is_deleted_is_chain L t).0 (sym (deleted_among (epochs L) t) ∙ has_from_Contains (flat_map deleted_of (epochs L)) t c)),
  (λ d. Contains-from_has (flat_map deleted_of (epochs L)) t (deleted_among (epochs L) t ∙ (is_deleted_is_chain L t).1 d)),
)
