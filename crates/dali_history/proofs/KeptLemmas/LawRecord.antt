-- The law's record for one order of the undos, from where its undos lead and from the image that they leave.
--     Lead s base cuts K order h      for each key, the undos of the order lead to the slots that stand for its value
use Rattle.std.proofs.Common.{◌≡◌, ℕ, List, Option, Some, sym, subst}
use Rattle.dali_geometry.specs.Sizes.{Sizes}
use Rattle.dali_record.specs.declared.records.Record.{Record}
use Rattle.dali_record.specs.Log.{committed}
use Rattle.dali_record.specs.Settled.{redo_all}
use Rattle.dali_history.specs.Serial.{Map, serial}
use Rattle.dali_access.specs.Index.Invariant.{IsIndexed, IsTidy, IsImage}
use Rattle.dali_history.specs.Images.{HasRecords, map_of}
use Rattle.dali_history.specs.Undos.{FindsAll, undone, undos_in}
use Rattle.dali_history.specs.Kept.Kept.{AreKept, uncommitted, Stands as IsStanding}
use Rattle.dali_history.specs.Recovered.{freed}
use Rattle.dali_record.specs.declared.operations.Pending.{Pending}
use Rattle.dali_access.proofs.IndexLemmas.Worlds.{World, Flags, part, flags}
use Rattle.dali_access.proofs.IndexLemmas.Parts.{Part}
use Rattle.dali_history.proofs.SlotsLemmas.SlotUndos.{Leads}
use Rattle.dali_history.proofs.SlotsLemmas.ValueSlots.{Stands, Reached}
use Rattle.dali_history.proofs.Images.{image_freed}
use Rattle.dali_history.proofs.SlotsLemmas.SoundBlocks.{image_redo_all}
use Rattle.dali_history.proofs.KeptLemmas.InvariantSteps.{along_kept, serial_kept}
use Rattle.dali_history.proofs.KeptLemmas.UndoOnImage.{undo_list}
use Rattle.dali_history.proofs.KeptLemmas.AtEnd.{freed_end}

-- undos that lead from each key's slots to slots that stand for a map leave, with the dead slots freed, an image of that map
pub undone_end : (s : Sizes) (image : List (List ℕ)) (ps : List Pending) (Q : World) (m : Map) → IsImage s image → ((k : ℕ) → Leads s k ps (part s image k) (Q k)) → ((k : ℕ) → Stands s (Q k) (m k)) → ((k : ℕ) → Reached s (flags image) k (Q k)) → FindsAll image ps × IsIndexed s (freed s (undone image ps)) × IsTidy s (freed s (undone image ps)) × HasRecords s (freed s (undone image ps)) m × IsImage s (freed s (undone image ps))
undone_end s image ps Q m form leads stands reached =
    let y = freed_end s (undone image ps) m x.3 (λ k. subst (λ (P : Part). Stands s P (m k)) (sym (x.1 k)) (stands k)) (λ k. subst (λ (P : Part). Reached s (flags (undone image ps)) k P) (sym (x.1 k)) (subst (λ (F : Flags). Reached s F k (Q k)) (sym x.2) (reached k))) in
    (x.0, y.0, y.1, y.2, image_freed s (undone image ps) x.3)
  where
    x : FindsAll image ps × ((k : ℕ) → part s (undone image ps) k ≡ Q k) × (flags (undone image ps) ≡ flags image) × IsImage s (undone image ps)
    x = undo_list s ps image Q form leads

abbrev pub Lead : (s : Sizes) (base : List (List ℕ)) (cuts : List ℕ) (K : List Record) (order : List ℕ) → AreKept s base cuts K → Type 0
Lead s base cuts K order h = (k : ℕ) → Leads s k (undos_in order K) (part s (redo_all base K) k) ((along_kept s base cuts K h).keyed k).slots

-- all of the law's record but that the image is the same in any order
pub kept_end :
    (s : Sizes) (base : List (List ℕ)) (cuts : List ℕ) (K : List Record) (order : List ℕ) (h : AreKept s base cuts K) → Lead s base cuts K order h
    → FindsAll (redo_all base K) (undos_in order K) × IsIndexed s (freed s (undone (redo_all base K) (undos_in order K))) × IsTidy s (freed s (undone (redo_all base K) (undos_in order K))) × ((m : Map) × (serial (map_of s base) (committed K) K ≡ Some m) × HasRecords s (freed s (undone (redo_all base K) (undos_in order K))) m) × IsImage s (freed s (undone (redo_all base K) (undos_in order K)))
kept_end s base cuts K order h leads = (y.0, y.1, y.2, (x.0, x.1, y.3), y.4)
  where
    x : (m : Map) × (serial (map_of s base) (committed K) K ≡ Some m) × ((k : ℕ) → m k ≡ ((along_kept s base cuts K h).keyed k).value)
    x = serial_kept s base cuts K h

    y : FindsAll (redo_all base K) (undos_in order K) × IsIndexed s (freed s (undone (redo_all base K) (undos_in order K))) × IsTidy s (freed s (undone (redo_all base K) (undos_in order K))) × HasRecords s (freed s (undone (redo_all base K) (undos_in order K))) x.0 × IsImage s (freed s (undone (redo_all base K) (undos_in order K)))
    y = undone_end s (redo_all base K) (undos_in order K) (λ k. ((along_kept s base cuts K h).keyed k).slots) x.0 (image_redo_all s base K h.image) leads (λ k. subst (λ (o : Option (List ℕ)). Stands s ((along_kept s base cuts K h).keyed k).slots o) (sym (x.2 k)) ((along_kept s base cuts K h).keyed k).stands) (λ k. ((along_kept s base cuts K h).keyed k).reached)

-- with that too, the law's record
pub kept_stands : (s : Sizes) (base : List (List ℕ)) (cuts : List ℕ) (K : List Record) (order : List ℕ) (h : AreKept s base cuts K) → Lead s base cuts K order h → freed s (undone (redo_all base K) (undos_in order K)) ≡ freed s (undone (redo_all base K) (undos_in (uncommitted K) K)) → IsStanding s base K order
kept_stands s base cuts K order h leads same = record {
  found = x.0;
  same = same;
  image = x.4;
  indexed = x.1;
  tidy = x.2;
  replayed = x.3;
}
  where
    x : FindsAll (redo_all base K) (undos_in order K) × IsIndexed s (freed s (undone (redo_all base K) (undos_in order K))) × IsTidy s (freed s (undone (redo_all base K) (undos_in order K))) × ((m : Map) × (serial (map_of s base) (committed K) K ≡ Some m) × HasRecords s (freed s (undone (redo_all base K) (undos_in order K))) m) × IsImage s (freed s (undone (redo_all base K) (undos_in order K)))
    x = kept_end s base cuts K order h leads
