-- Bytes in pieces, one behind the other up to the first that isn't full.
-- Words: joined.
use Rattle.std.specs.Prelude.{ℕ, zero, suc, ◌==◌, if◌then◌else◌, List, [], ◌++◌, length}

-- of so many pieces from one on, those up to the first that hasn't this size
unfoldable pub joined : ℕ → (ℕ → List ℕ) → ℕ → ℕ → List ℕ
joined size pieces n zero = []
joined size pieces n (suc more) =
    if length (pieces n) == size then pieces n ++ joined size pieces (suc n) more else pieces n
