-- Entries in memory that go with maps of the definitions.
--     Holds es m             the entries have at each key what m has there
--     Comes w es agrees      agrees is that of the walk w, and the entries hold its map
--     Follows f old new agrees      whatever map the old entries hold, the new ones and agrees are what f comes to there
--     survive_among ds ts    the transactions ts that aren't among the deleted ds
use Rattle.std.specs.Prelude.{◌≡◌, ℕ, Bool, not, List, Option, filter}
use Rattle.std.specs.Map.{lookup}
use Rattle.std.specs.BTreeMap.{is_at}
use Rattle.std.specs.Ordering.{nat_cmp}
use Rattle.dali_record.specs.Damage.{has}
use Rattle.dali_history.specs.Serial.{Map}
use Rattle.dali_replay.specs.Walking.{Walk}

abbrev pub value_at : List (ℕ × List ℕ) → ℕ → Option (List ℕ)
value_at es k = lookup (is_at (nat_cmp k)) es

abbrev pub Holds : List (ℕ × List ℕ) → Map → Type 0
Holds es m = (k : ℕ) → value_at es k ≡ m k

abbrev pub Comes : Walk → List (ℕ × List ℕ) → Bool → Type 0
Comes w es agrees = (agrees ≡ w.agrees) × Holds es w.map

abbrev pub Follows : (Map → Walk) → List (ℕ × List ℕ) → List (ℕ × List ℕ) → Bool → Type 0
Follows f old new agrees = (m : Map) → Holds old m → Comes (f m) new agrees

abbrev pub survive_among : List ℕ → List ℕ → List ℕ
survive_among ds ts = filter (λ t. not (has ds t)) ts
