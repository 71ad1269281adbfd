-- On the way behind further restarts, too, each undo finds its slot as its transaction left it. So it is at the end of the log, and at each Restarted where
-- an epoch is recovered, whose front of the log a restart has come through then.
--     rewritten_by c           what the scan of the present epoch keeps, written over the words over which it began
--     WritesOnTheWay           that is what the kept records of the epoch come to over its base
--     FindsOnTheWay            there each undo finds its slot as it was left, whichever transaction comes first
--     EndsAreHistories         what stands before a Restarted of a history is a history, so this holds there
use Rattle.std.specs.Prelude.{◌≡◌, ◌<◌, ℕ, List, ◌∷◌, ◌++◌, IsPermutation, length, drop}
use Rattle.dali_geometry.specs.Sizes.{Sizes}
use Rattle.dali_record.specs.declared.records.Record.{Record}
use Rattle.dali_record.specs.declared.records.Record.TheVariants.{Restarted}
use Rattle.dali_record.specs.Epochs.{last_epoch}
use Rattle.dali_record.specs.Legal.{sizes_of, IsLegalFor}
use Rattle.dali_record.specs.Files.{Files}
use Rattle.dali_record.specs.Settled.{redo_all}
use Rattle.dali_history.specs.History.{AreSpelled, IsHistory}
use Rattle.dali_history.specs.Marked.{marks_of, kept_of}
use Rattle.dali_history.specs.Recovered.{base_of, losers}
use Rattle.dali_history.specs.Undos.{FindsAll, undos_in}
use Rattle.dali_history.specs.Undone.AsLeft.{FindAsLeft}
use Rattle.dali_resume.specs.Resumed.{damage_from, scan}
use Rattle.dali_resume.specs.Onward.{FitsFront, Going, goes_through}

abbrev pub rewritten_by : Going → List (List ℕ)
rewritten_by c = redo_all c.image (scan (damage_from c.known.first c.known.seen) c.known.table c.known.seen).kept

abbrev pub WritesOnTheWay : Type 0
WritesOnTheWay =
    (s : Sizes) (K Z : List Record) (F : Files) → 0 < s.index → 0 < s.heap → FitsFront s K F → 0 < length K → IsLegalFor s (K ++ Z) → AreSpelled (K ++ Z)
    → rewritten_by (goes_through s F (drop F.first (K ++ Z))) ≡ redo_all (base_of s (K ++ Z)) (kept_of (last_epoch (K ++ Z)))

-- the image over which they are performed, and the kept records of the epoch
pub record FindThere (L : List Record) (image : List (List ℕ)) (order : List ℕ) : Type 0 where
  pub all : FindsAll image (undos_in order (kept_of (last_epoch L)))
  pub as_left : FindAsLeft (base_of (sizes_of L) L) (kept_of (last_epoch L)) image order

abbrev pub FindsOnTheWay : Type 0
FindsOnTheWay =
    (K Z : List Record) (F : Files) → IsHistory (K ++ Z) → 0 < length K → FitsFront (sizes_of K) K F
    → (order : List ℕ) → IsPermutation order (losers (last_epoch (K ++ Z)) (marks_of (last_epoch (K ++ Z))))
    → FindThere (K ++ Z) (rewritten_by (goes_through (sizes_of K) F (drop F.first (K ++ Z)))) order

abbrev pub EndsAreHistories : Type 0
EndsAreHistories = (L Z : List Record) (rs ds : List ℕ) → 0 < length L → IsHistory (L ++ Restarted rs ds ∷ Z) → IsHistory L
