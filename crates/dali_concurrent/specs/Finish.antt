-- From the history that the notes leave to what each had seen.
--     seen_in k notes          what the note with this number has seen
--     NotesFinish              the history is closed: each number has one note, which has seen all of its own entries
use Rattle.std.specs.Prelude.{◌≡◌, ℕ, ◌<◌, ◌==◌, List, [], ◌∷◌, if◌then◌else◌, Some, length, slice_get}
use Rattle.dali_runs.specs.Run.{Bases}
use Rattle.dali_crash.specs.Checkpoints.{Point}
use Rattle.dali_notes.specs.History.{Sight, IsWhole}
use Rattle.dali_concurrent.specs.Rules.{Outset}
use Rattle.dali_concurrent.specs.Told.{Item, History}
use Rattle.dali_concurrent.specs.Kept.{AllFollow}
use Rattle.dali_concurrent.specs.Closed.{Closed}

abbrev pub seen_in : ℕ → List (Sight Item) → History
seen_in k [] = []
seen_in k (x ∷ xs) = if x.number == k then x.seen else seen_in k xs

abbrev pub NotesFinish : Type 0
NotesFinish =
    (bases : Bases) (p : Point) (o : Outset) (H : History) (notes : List (Sight Item)) → IsWhole H notes → AllFollow bases p o H
    → (closed : Closed bases p o H) × (closed.count ≡ length notes)
    × ((i : ℕ) (x : Sight Item) → slice_get notes i ≡ Some x → (closed.seen x.number ≡ x.seen) × (x.number < length notes))
