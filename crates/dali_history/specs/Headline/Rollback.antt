-- The transactions that a restart rolls back, in any order.
--     rolled e image order         the image with the undos of these transactions of an epoch performed, each list from its last
--     RollsBack s base e order     each undo finds its slot as its transaction left it, and the image is what recovery makes
use Rattle.std.specs.Prelude.{◌≡◌, ℕ, List, fold}
use Rattle.dali_geometry.specs.Sizes.{Sizes}
use Rattle.dali_record.specs.Epochs.{Epoch}
use Rattle.dali_record.specs.Settled.{redo_all}
use Rattle.dali_history.specs.Marked.{marks_of, kept_of}
use Rattle.dali_history.specs.Undos.{FindsAll, undos_in}
use Rattle.dali_history.specs.Recovered.{roll_back, undos_left, freed, recover}

abbrev pub rolled : Epoch → List (List ℕ) → List ℕ → List (List ℕ)
rolled e image order = fold (λ i t. roll_back i (undos_left (marks_of e) t)) image order

pub record RollsBack (s : Sizes) (base : List (List ℕ)) (e : Epoch) (order : List ℕ) : Type 0 where
  pub found : FindsAll (redo_all base (kept_of e)) (undos_in order (kept_of e))
  pub same : freed s (rolled e (redo_all base (kept_of e)) order) ≡ recover s base e
