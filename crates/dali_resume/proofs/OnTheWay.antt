-- Undos on the way behind restarts.
use Rattle.std.proofs.Common.{◌≡◌, ℕ, ◌<◌, List, [], ◌∷◌, ◌++◌, drop, ap, sym, subst, ◌∙◌, append_assoc}
use Rattle.std.specs.Prelude.{fold}
use Rattle.std.proofs.lemmas.List.{append-nil}
use Rattle.std.proofs.lemmas.List.Sums.{fold-append}
use Rattle.dali_geometry.specs.Sizes.{Sizes}
use Rattle.dali_geometry.specs.Places.{formatted_image}
use Rattle.dali_record.specs.declared.records.Record.{Record}
use Rattle.dali_record.specs.declared.records.Record.TheVariants.{Format, Begin, Forward, Done, Commit, Ended, Solo, AuditBegin, AuditClean, AuditFail, Restarted, Back}
use Rattle.dali_record.specs.Epochs.{Epoch, Cut, cut, cut_step, epochs, last_epoch}
use Rattle.dali_record.specs.Legal.{sizes_of, IsLegalFor}
use Rattle.dali_record.specs.Settled.{redo_all}
use Rattle.dali_history.specs.Marked.{kept_of}
use Rattle.dali_history.specs.Recovered.{base_of, recover, IsHonest, AreHonest}
use Rattle.dali_history.proofs.Prefixes.{sizes_of-front, IsHistory-front}
use Rattle.dali_history.proofs.HeadlineLemmas.AnyOrder.{rolls_back}
use Rattle.dali_history.specs.Undone.AsLeft.{IsEpochOn}
use Rattle.dali_history.proofs.UndoneLemmas.Restarts.{last_on, epoch_undos_find}
use Rattle.dali_resume.specs.Onward.{goes_through}
use Rattle.dali_resume.specs.OnTheWay.{rewritten_by, WritesOnTheWay, FindThere, FindsOnTheWay, EndsAreHistories}
use Rattle.dali_resume.proofs.Through.{through}

pub writes_on_the_way : WritesOnTheWay
writes_on_the_way s K Z F some_index some_heap front some legal spelled = (through s K Z F some_index some_heap front some legal spelled).1.writes

pub finds_on_the_way : FindsOnTheWay
finds_on_the_way K Z F history some front order permutes =
    subst (λ image. FindThere (K ++ Z) image order) (sym written)
    (record { all = (rolls_back (K ++ Z) history (last_epoch (K ++ Z)) on.epoch (base_of (sizes_of (K ++ Z)) (K ++ Z)) on.map on.honest on.holds order permutes).found; as_left = epoch_undos_find (K ++ Z) (last_epoch (K ++ Z)) (base_of (sizes_of (K ++ Z)) (K ++ Z)) on order permutes })
  where
    sizes : sizes_of (K ++ Z) ≡ sizes_of K
    sizes = sizes_of-front K Z some

    on : IsEpochOn (K ++ Z) (last_epoch (K ++ Z)) (base_of (sizes_of (K ++ Z)) (K ++ Z))
    on = last_on (K ++ Z) history

    written : rewritten_by (goes_through (sizes_of K) F (drop F.first (K ++ Z))) ≡ redo_all (base_of (sizes_of (K ++ Z)) (K ++ Z)) (kept_of (last_epoch (K ++ Z)))
    written =
        writes_on_the_way (sizes_of K) K Z F (subst (λ z. 0 < z.index) sizes history.some_index) (subst (λ z. 0 < z.heap) sizes history.some_heap) front some (subst (λ z. IsLegalFor z (K ++ Z)) sizes history.legal) history.spelled
        ∙ ap (λ z. redo_all (base_of z (K ++ Z)) (kept_of (last_epoch (K ++ Z)))) (sym sizes)

-- ---- the front before a Restarted
-- the epochs that are closed stay
closed_stay : (Z : List Record) (c : Cut) → (M : List Epoch) × ((fold cut_step c Z).closed ≡ c.closed ++ M)
closed_stay [] c = ([], sym (append-nil c.closed))
closed_stay (Format i h ∷ Z) c = closed_stay Z (cut_step c (Format i h))
closed_stay (Begin t ∷ Z) c = closed_stay Z (cut_step c (Begin t))
closed_stay (Forward t b ∷ Z) c = closed_stay Z (cut_step c (Forward t b))
closed_stay (Done t q a ∷ Z) c = closed_stay Z (cut_step c (Done t q a))
closed_stay (Commit t ∷ Z) c = closed_stay Z (cut_step c (Commit t))
closed_stay (Ended t ∷ Z) c = closed_stay Z (cut_step c (Ended t))
closed_stay (Solo t p b ∷ Z) c = closed_stay Z (cut_step c (Solo t p b))
closed_stay (AuditBegin ∷ Z) c = closed_stay Z (cut_step c AuditBegin)
closed_stay (AuditClean b ∷ Z) c = closed_stay Z (cut_step c (AuditClean b))
closed_stay (AuditFail b rs ∷ Z) c = closed_stay Z (cut_step c (AuditFail b rs))
closed_stay (Restarted rs ds ∷ Z) c =
    let w = closed_stay Z (cut_step c (Restarted rs ds)) in
    (c.now ∷ w.0, w.1 ∙ append_assoc c.closed (c.now ∷ []) w.0)
closed_stay (Back t b ∷ Z) c = closed_stay Z (cut_step c (Back t b))

honest_front : (s : Sizes) (base : List (List ℕ)) (es ms : List Epoch) → AreHonest s base (es ++ ms) → AreHonest s base es
honest_front s base [] ms h = tt
honest_front s base (e ∷ es) ms h = (h.0, honest_front s (recover s base e) es ms h.1)

more_epochs : (L Z : List Record) (rs ds : List ℕ) → (M : List Epoch) × (epochs (L ++ Restarted rs ds ∷ Z) ≡ epochs L ++ M)
more_epochs L Z rs ds =
    let w = closed_stay Z (cut_step (cut L) (Restarted rs ds)) in
    let all : cut (L ++ Restarted rs ds ∷ Z) ≡ fold cut_step (cut_step (cut L) (Restarted rs ds)) Z = fold-append cut_step (record { closed = []; now = record { first = 0; records = [] } }) L (Restarted rs ds ∷ Z) in (
      w.0 ++ (cut (L ++ Restarted rs ds ∷ Z)).now ∷ [],
      ap (λ (c : Cut). c.closed ++ (cut (L ++ Restarted rs ds ∷ Z)).now ∷ []) all
          ∙ (ap (λ es. es ++ (cut (L ++ Restarted rs ds ∷ Z)).now ∷ []) w.1 ∙ append_assoc (epochs L) w.0 ((cut (L ++ Restarted rs ds ∷ Z)).now ∷ [])),
    )

pub ends_are_histories : EndsAreHistories
ends_are_histories L Z rs ds some history = IsHistory-front L (Restarted rs ds ∷ Z) some history honest
  where
    w : (M : List Epoch) × (epochs (L ++ Restarted rs ds ∷ Z) ≡ epochs L ++ M)
    w = more_epochs L Z rs ds

    honest : IsHonest (sizes_of L) L
    honest = honest_front (sizes_of L) (formatted_image (sizes_of L)) (epochs L) w.0
        (subst (AreHonest (sizes_of L) (formatted_image (sizes_of L))) w.1 (subst (λ z. IsHonest z (L ++ Restarted rs ds ∷ Z)) (sizes_of-front L (Restarted rs ds ∷ Z) some) history.honest))
