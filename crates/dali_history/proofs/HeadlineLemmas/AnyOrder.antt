-- In whatever order a restart takes the transactions that it rolls back, each undo finds its slot and the image is the recovered one.
use Rattle.std.proofs.Common.{◌≡◌, ℕ, List, [], ◌∷◌, refl, ap, sym, ◌∙◌, arith}
use Rattle.std.specs.Prelude.{reverse, Contains, IsPermutation}
use Rattle.std.proofs.lemmas.List.Sums.{fold-append}
use Rattle.std.proofs.lemmas.List.Elements.{Contains-append_right}
use Rattle.dali_record.specs.declared.records.Record.{Record}
use Rattle.dali_record.specs.Log.{undos_of}
use Rattle.dali_record.specs.Epochs.{Epoch, cut, last_epoch, epochs}
use Rattle.dali_record.specs.Settled.{redo_all}
use Rattle.dali_record.specs.Legal.{sizes_of}
use Rattle.dali_history.specs.Serial.{Map}
use Rattle.dali_history.specs.Recovered.{undo_into, roll_back, freed, losers, undos_left, base_of, recovered, recovered_now, IsHonestIn}
use Rattle.dali_history.specs.Undos.{FindsAll, undos_in, undone}
use Rattle.dali_history.specs.Kept.Kept.{Stands}
use Rattle.dali_history.specs.History.{IsHistory}
use Rattle.dali_history.specs.Marked.{marks_of, kept_of}
use Rattle.dali_history.specs.Headline.Bridge.{cuts_of, EpochIsKept}
use Rattle.dali_history.specs.Headline.Holds.{Holds}
use Rattle.dali_history.specs.Headline.Rollback.{rolled, RollsBack}
use Rattle.dali_history.proofs.HeadlineLemmas.EpochByEpoch.{base_holds}
use Rattle.dali_history.proofs.HeadlineLemmas.KeptEpochs.{history_is_kept}
use Rattle.dali_history.proofs.KeptLemmas.Law.{law_of_kept_records}

-- what a restart performs is what the law of kept records speaks of
rolled_is_undone : (e : Epoch) → ((t : ℕ) → undos_left (marks_of e) t ≡ undos_of t (kept_of e)) → (image : List (List ℕ)) (order : List ℕ) → rolled e image order ≡ undone image (undos_in order (kept_of e))
rolled_is_undone e same image [] = refl
rolled_is_undone e same image (t ∷ ts) =
    ap (λ us. rolled e (roll_back image us) ts) (same t)
    ∙ rolled_is_undone e same (roll_back image (undos_of t (kept_of e))) ts
    ∙ sym (fold-append undo_into image (reverse (undos_of t (kept_of e))) (undos_in ts (kept_of e)))

-- in each epoch of a history, on a base from which it is honest
pub rolls_back :
    (L : List Record) → IsHistory L
    → (e : Epoch) → Contains (epochs L) e
    → (base : List (List ℕ)) (m : Map) → IsHonestIn base e → Holds (sizes_of L) base m
    → (order : List ℕ) → IsPermutation order (losers e (marks_of e)) → RollsBack (sizes_of L) base e order
rolls_back L history e here base m honest holds order permutes = record {
  found = stands.found;
  same = ap (λ i. freed (sizes_of L) i) (rolled_is_undone e epoch.undos_are (redo_all base (kept_of e)) order) ∙ stands.same ∙ sym epoch.recovered_is;
}
  where
    epoch : EpochIsKept (sizes_of L) base e
    epoch = history_is_kept L base e history here honest holds.image_is holds.indexed holds.tidy

    stands : Stands (sizes_of L) base (kept_of e) order
    stands = law_of_kept_records (sizes_of L) base (cuts_of e) (kept_of e) order epoch.kept (rw epoch.losers_are at permutes)

-- so it is with the epoch that a restart recovers
pub recovered_in_any_order :
    (L : List Record) (r : Record) (E : List Record) → IsHistory L → (last_epoch L).records ≡ r ∷ E
    → (order : List ℕ) → IsPermutation order (losers (last_epoch L) (marks_of (last_epoch L)))
    → FindsAll (redo_all (base_of (sizes_of L) L) (kept_of (last_epoch L))) (undos_in order (kept_of (last_epoch L)))
    × (freed (sizes_of L) (rolled (last_epoch L) (redo_all (base_of (sizes_of L) L) (kept_of (last_epoch L))) order) ≡ recovered (sizes_of L) L)
recovered_in_any_order L r E history some order permutes = (back.found, back.same ∙ sym (ap (λ R. recovered_now (sizes_of L) (base_of (sizes_of L) L) (cut L).now R) some))
  where
    back : RollsBack (sizes_of L) (base_of (sizes_of L) L) (last_epoch L) order
    back =
        let b = base_holds L history in
        rolls_back L history (last_epoch L) (Contains-append_right (cut L).closed ((cut L).now ∷ []) (cut L).now (0, omega arith, refl)) (base_of (sizes_of L) L) b.0 b.3 b.2 order permutes
