-- The base of a running log: where the closed epochs are honest it holds what the log up to its last epoch is expected to leave, whatever the last epoch does.
use Rattle.std.proofs.Common.{◌≡◌, ℕ, Bool, true, false, List, [], ◌∷◌, ◌++◌, Some, refl, ap, sym, subst, ◌∙◌, arith, append_assoc}
use Rattle.std.specs.Prelude.{fold}
use Rattle.std.proofs.lemmas.List.{append-nil}
use Rattle.dali_geometry.specs.Sizes.{Sizes}
use Rattle.dali_geometry.specs.Places.{formatted_image}
use Rattle.dali_record.specs.declared.records.Record.{Record}
use Rattle.dali_record.specs.declared.records.Record.TheVariants.{Format, Restarted}
use Rattle.dali_record.specs.Log.{touch_at}
use Rattle.dali_record.specs.Epochs.{Epoch, Cut, cut, last_epoch}
use Rattle.dali_record.specs.Locks.{IsLockLegal}
use Rattle.dali_record.specs.Legal.{sizes_of, IsLegalFor}
use Rattle.dali_record.proofs.Ends.{by_push}
use Rattle.dali_record.proofs.Pushes.{cut_push, separates}
use Rattle.dali_history.specs.Serial.{Map, empty_map, expected}
use Rattle.dali_history.specs.Recovered.{recover, base_of, recovered, IsHonestIn, AreHonest}
use Rattle.dali_history.specs.History.{AreSpelled, IsHistory}
use Rattle.dali_history.proofs.OwnEpoch.{cut_step_more}
use Rattle.dali_history.specs.Headline.Holds.{Holds, IsFront, IsRunning}
use Rattle.dali_history.proofs.HeadlineLemmas.EpochByEpoch.{formatted_holds, recovered_holds}
use Rattle.dali_history.proofs.Restarts.{honest_push}
use Rattle.dali_history.proofs.Spelled.{AreSpelled-front}
use Rattle.dali_history.proofs.Prefixes.{IsLegalFor-front, IsLockLegal-front, sizes_of-front}
use Rattle.dali_history.proofs.HeadlineLemmas.NothingToFree.{recovered-base}

grows : (L F : List Record) (r : Record) → separates r ≡ false → IsFront L F → IsFront (L ++ r ∷ []) F
grows L F r f front = record {
  splits = ap (λ M. M ++ r ∷ []) front.splits ∙ append_assoc F (last_epoch L).records (r ∷ []) ∙ sym (ap (λ (c : Cut). F ++ c.now.records) stepped);
  empty = front.empty;
  same = ap (λ (c : Cut). c.closed) stepped ∙ front.same;
}
  where
    stepped : cut (L ++ r ∷ []) ≡ record { closed = (cut L).closed; now = record { first = (cut L).now.first; records = (cut L).now.records ++ r ∷ [] } }
    stepped = cut_push L r ∙ cut_step_more (cut L) r f

begins_anew : (L : List Record) → (last_epoch L).records ≡ [] → IsFront L L
begins_anew L e = record { splits = sym (ap (λ E. L ++ E) e ∙ append-nil L); empty = e; same = refl }

-- each log has a front
pub front_of : (L : List Record) → (F : List Record) × IsFront L F
front_of L = by_push (λ M. (F : List Record) × IsFront M F) ([], begins_anew [] refl) (λ M r ih. by_kind M r (separates r) refl ih) L
  where
    by_kind : (M : List Record) (r : Record) (b : Bool) → separates r ≡ b → (F : List Record) × IsFront M F → (F : List Record) × IsFront (M ++ r ∷ []) F
    by_kind M r false f front = (front.0, grows M front.0 r f front.1)
    by_kind M (Format i n) true f front = (M ++ Format i n ∷ [], begins_anew (M ++ Format i n ∷ []) (ap (λ (c : Cut). c.now.records) (cut_push M (Format i n))))
    by_kind M (Restarted rs ds) true f front = (M ++ Restarted rs ds ∷ [], begins_anew (M ++ Restarted rs ds ∷ []) (ap (λ (c : Cut). c.now.records) (cut_push M (Restarted rs ds))))
    by_kind M r true f front = absurd (cc)

same_base : (s : Sizes) (L F : List Record) → IsFront L F → base_of s L ≡ base_of s F
same_base s L F front = ap (λ es. fold (recover s) (formatted_image s) es) front.same

no_damage : (base : List (List ℕ)) (e : Epoch) → e.records ≡ [] → IsHonestIn base e
no_damage base e none i a f = let never : touch_at [] i ≡ Some a = ap (λ E. touch_at E i) (sym none) ∙ f in absurd (cc)

-- the front of a running log is a history
front_is_history : (L : List Record) (x : Record) (F : List Record) → IsRunning L → IsFront L (x ∷ F) → (sizes_of L ≡ sizes_of (x ∷ F)) × IsHistory (x ∷ F)
front_is_history L x F running front = (
  sizes,
  record {
    some_index = rw sizes at running.some_index;
    some_heap = rw sizes at running.some_heap;
    spelled = AreSpelled-front (x ∷ F) E (subst AreSpelled front.splits running.spelled);
    legal = IsLegalFor-front (sizes_of (x ∷ F)) (x ∷ F) E legal;
    locks = IsLockLegal-front (sizes_of (x ∷ F)) (x ∷ F) E legal.rules (subst IsLockLegal front.splits running.locks);
    honest = honest_push s (formatted_image s) (cut (x ∷ F)).closed (cut (x ∷ F)).now closed (no_damage (fold (recover s) (formatted_image s) (cut (x ∷ F)).closed) (cut (x ∷ F)).now front.empty);
  },
)
  where
    E : List Record
    E = (last_epoch L).records

    s : Sizes
    s = sizes_of (x ∷ F)

    sizes : sizes_of L ≡ sizes_of (x ∷ F)
    sizes = ap sizes_of front.splits ∙ sizes_of-front (x ∷ F) (last_epoch L).records (omega arith)

    legal : IsLegalFor (sizes_of (x ∷ F)) ((x ∷ F) ++ (last_epoch L).records)
    legal = subst (λ M. IsLegalFor (sizes_of (x ∷ F)) M) front.splits (subst (λ z. IsLegalFor z L) sizes running.legal)

    closed : AreHonest (sizes_of (x ∷ F)) (formatted_image (sizes_of (x ∷ F))) (cut (x ∷ F)).closed
    closed = subst (λ es. AreHonest (sizes_of (x ∷ F)) (formatted_image (sizes_of (x ∷ F))) es) front.same (subst (λ z. AreHonest z (formatted_image z) (cut L).closed) sizes running.honest)

-- the base of a running log is one that the law of kept records takes, with the records that its front is expected to leave
pub running_base_holds : (L F : List Record) → IsRunning L → IsFront L F → (m : Map) × (expected F ≡ Some m) × Holds (sizes_of L) (base_of (sizes_of L) L) m
running_base_holds L [] running front = (empty_map, refl, rw (same_base (sizes_of L) L [] front) (formatted_holds (sizes_of L) running.some_index running.some_heap))
running_base_holds L (x ∷ F) running front =
    let h = front_is_history L x F running front in
    let r = recovered_holds (x ∷ F) h.1 in
    let image : recovered (sizes_of (x ∷ F)) (x ∷ F) ≡ base_of (sizes_of (x ∷ F)) L = recovered-base (sizes_of (x ∷ F)) (x ∷ F) front.empty ∙ sym (same_base (sizes_of (x ∷ F)) L (x ∷ F) front) in
    (r.0, r.1, rw h.0 (subst (λ i. Holds (sizes_of (x ∷ F)) i r.0) image r.2))
