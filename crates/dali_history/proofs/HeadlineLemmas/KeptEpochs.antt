-- The kept records of each epoch of a history are as the law of kept records asks.
use Rattle.std.proofs.Common.{◌≡◌, ℕ, Bool, true, false, List, [], ◌∷◌, Option, Some, None, refl, ap, sym, subst, ◌∙◌}
use Rattle.std.specs.Prelude.{not, ◌&&◌, ◌||◌, ◌==◌, fold, filter, filter_map, reverse}
use Rattle.std.proofs.lemmas.List.Sums.{fold-append}
use Rattle.std.proofs.lemmas.List.Elements.{filter_agree}
use Rattle.dali_geometry.specs.Sizes.{Sizes}
use Rattle.dali_record.specs.declared.operations.Block.{Block}
use Rattle.dali_record.specs.declared.records.Record.{Record}
use Rattle.dali_record.specs.Blocks.{IsSoundOn}
use Rattle.dali_record.specs.Log.{Touch, touch_of, undos_of, begun, committed}
use Rattle.dali_record.specs.Epochs.{Epoch}
use Rattle.dali_record.specs.Locks.{IsLockLegalIn}
use Rattle.dali_record.specs.Damage.{has, damage_of, has_corrupt}
use Rattle.dali_record.specs.Settled.{redo_all}
use Rattle.dali_record.specs.Legal.{sizes_of}
use Rattle.dali_record.proofs.Keeping.{undos_of-kept, calls_of-clean}
use Rattle.dali_record.proofs.Recovery.{kept_sound}
use Rattle.dali_record.proofs.Fronts.{kept_touch}
use Rattle.dali_record.proofs.Whole.{made_reads, made_gives}
use Rattle.dali_record.proofs.Survivors.{filter_same, has_filter, clean_in, committed_kept, begun_kept}
use Rattle.dali_record.proofs.EpochRules.{EachTouch, IsOnKind, StandsThrough, rules_kinds, touches_in_epochs, stands_in_epochs, AllEpochs-contains}
use Rattle.dali_history.specs.Serial.{is_deleted_in}
use Rattle.dali_history.specs.Recovered.{undo_into, roll_back, losers, undos_left, freed, IsHonestIn}
use Rattle.dali_access.specs.Index.Invariant.{IsImage, IsIndexed, IsTidy}
use Rattle.dali_history.specs.Blocks.{HasValue, IsWhole}
use Rattle.dali_history.specs.Kept.Kept.{uncommitted}
use Rattle.dali_history.specs.Undos.{undos_in, undone}
use Rattle.dali_history.specs.Marked.{marks_of, kept_of}
use Rattle.dali_history.specs.Headline.Bridge.{cut_by, cuts_of, EpochIsKept, HistoryIsKept}
use Rattle.dali_history.proofs.Spelled.{spelled_values, spelled_whole}
use Rattle.dali_history.proofs.HeadlineLemmas.KeptTxns.{kept_txn}
use Rattle.dali_history.proofs.HeadlineLemmas.KeptLocks.{kept_locks}

-- a block that is sound on some words is as the premise on blocks asks
pub IsWhole-sound : (ws : List ℕ) (b : Block) → IsSoundOn ws b → IsWhole b
IsWhole-sound ws b sound = subst IsWhole sound (record { reads = made_reads b.op b.key b.region ws; gives = made_gives b.op b.key b.region ws })

-- the transactions that are cut are those with a corrupt block
has_cuts : (ms : List (Record × Bool)) (t : ℕ) → has (filter_map cut_by ms) t ≡ has_corrupt ms t
has_cuts [] t = refl
has_cuts (m ∷ ms) t = by_mark (has_cuts ms t) m.1 refl (touch_of m.0) refl
  where
    by_mark : has (filter_map cut_by ms) t ≡ has_corrupt ms t → (b : Bool) → m.1 ≡ b → (o : Option Touch) → touch_of m.0 ≡ o → has (filter_map cut_by (m ∷ ms)) t ≡ has_corrupt (m ∷ ms) t
    by_mark ih true e None f = rw (e, f) ih
    by_mark ih true e (Some a) f = rw (e, f) (ap (λ b. (a.txn == t) || b) ih)
    by_mark ih false e o f = rw e ih

-- the premises of an epoch
record Premises (s : Sizes) (base : List (List ℕ)) (e : Epoch) : Type 0 where
  stands : StandsThrough s e
  kinds : EachTouch (IsOnKind s) e.records
  values : EachTouch (λ a. HasValue a.block.op) e.records
  whole : EachTouch (λ a. IsWhole a.block) e.records
  locks : IsLockLegalIn e.records
  honest : IsHonestIn base e
  image : IsImage s base
  indexed : IsIndexed s base
  tidy : IsTidy s base

epoch_is_kept : (s : Sizes) (base : List (List ℕ)) (e : Epoch) → Premises s base e → EpochIsKept s base e
epoch_is_kept s base e p = record {
  kept = record {
    image = p.image;
    indexed = p.indexed;
    tidy = p.tidy;
    values = λ i a at. let w = kept_touch (damage_of e) e.records i a at in p.values w.0 a w.1;
    uncut = uncut;
    calls = record {
      txns = λ t. let w = p.stands.1 t in kept_txn s (damage_of e) t w.0 e.records w.1 p.stands.0 (λ i a at. (p.whole i a at).gives) w.2;
      kinds = λ i a at. let w = kept_touch (damage_of e) e.records i a at in p.kinds w.0 a w.1;
    };
    sound = kept_sound (damage_of e) base e.records p.honest (λ i a at. (p.whole i a at).reads);
    locks = kept_locks (damage_of e) e.records (cuts_of e) (has_cuts (marks_of e)) p.locks;
  };
  committed_are = committed_is ∙ filter_same (clean_in (damage_of e) e.records) (λ t. not (is_deleted_in t e)) (committed e.records) (λ t h. rw h refl);
  calls_are = λ t h. calls_of-clean (damage_of e) e.records t h;
  losers_are = losers_is;
  undos_are = undos_is;
  recovered_is = ap (freed s) (ap (fold (λ image t. roll_back image (undos_left (marks_of e) t)) (redo_all base (kept_of e))) losers_is ∙ rolled (redo_all base (kept_of e)) (uncommitted (kept_of e)));
}
  where
    committed_is : committed (kept_of e) ≡ filter (clean_in (damage_of e) e.records) (committed e.records)
    committed_is = committed_kept s (damage_of e) e.records p.stands.0 p.stands.1

    has_committed : (t : ℕ) → has (committed (kept_of e)) t ≡ (not (has_corrupt (marks_of e) t) && has (committed e.records) t)
    has_committed t = ap (λ ts. has ts t) committed_is ∙ has_filter (clean_in (damage_of e) e.records) (committed e.records) t

    uncut : (t : ℕ) → has (cuts_of e) t ≡ true → has (committed (kept_of e)) t ≡ false
    uncut t h = let f : has_corrupt (marks_of e) t ≡ true = sym (has_cuts (marks_of e) t) ∙ h in has_committed t ∙ rw f refl

    loses : (t : ℕ) → (has_corrupt (marks_of e) t || not (has (committed e.records) t)) ≡ not (has (committed (kept_of e)) t)
    loses t = de_morgan (has_corrupt (marks_of e) t) (has (committed e.records) t) ∙ ap not (sym (has_committed t))
      where
        de_morgan : (a b : Bool) → (a || not b) ≡ not (not a && b)
        de_morgan true b = refl
        de_morgan false b = refl

    losers_is : losers e (marks_of e) ≡ uncommitted (kept_of e)
    losers_is = filter_agree (λ t. has_corrupt (marks_of e) t || not (has (committed e.records) t)) (λ t. not (has (committed (kept_of e)) t)) loses (begun e.records) ∙ ap (filter (λ t. not (has (committed (kept_of e)) t))) (sym (begun_kept s (damage_of e) e.records p.stands.0 p.stands.1))

    undos_is : (t : ℕ) → undos_left (marks_of e) t ≡ undos_of t (kept_of e)
    undos_is t = sym (undos_of-kept (damage_of e) e.records t)

    rolled : (image : List (List ℕ)) (ts : List ℕ) → fold (λ im t. roll_back im (undos_left (marks_of e) t)) image ts ≡ undone image (undos_in ts (kept_of e))
    rolled image [] = refl
    rolled image (t ∷ ts) =
        rolled (roll_back image (undos_left (marks_of e) t)) ts
        ∙ ap (λ us. undone (fold undo_into image (reverse us)) (undos_in ts (kept_of e))) (undos_is t)
        ∙ sym (fold-append undo_into image (reverse (undos_of t (kept_of e))) (undos_in ts (kept_of e)))

-- each epoch of a history, on a base from which it is honest
pub history_is_kept : HistoryIsKept
history_is_kept L base e history in' honest image indexed tidy = epoch_is_kept (sizes_of L) base e (record {
  stands = AllEpochs-contains (StandsThrough (sizes_of L)) L e (stands_in_epochs (sizes_of L) L history.legal) in';
  kinds = AllEpochs-contains (λ f. EachTouch (IsOnKind (sizes_of L)) f.records) L e (touches_in_epochs (IsOnKind (sizes_of L)) L (rules_kinds (sizes_of L) L history.legal.rules)) in';
  values = AllEpochs-contains (λ f. EachTouch (λ a. HasValue a.block.op) f.records) L e (touches_in_epochs (λ a. HasValue a.block.op) L (spelled_values L history.spelled)) in';
  whole = AllEpochs-contains (λ f. EachTouch (λ a. IsWhole a.block) f.records) L e (touches_in_epochs (λ a. IsWhole a.block) L (spelled_whole L history.spelled history.legal.reads)) in';
  locks = AllEpochs-contains (λ f. IsLockLegalIn f.records) L e history.locks in';
  honest = honest;
  image = image;
  indexed = indexed;
  tidy = tidy;
})
