-- The record of a restart, as the one batch that is added to the log.
--     restart_of rs ds         that record: these transactions were rolled back, and these deleted
--     restart_body rs ds       its bytes
--     restart_bodies rs ds     the bodies of that batch
--     restart_length rs ds     how many bytes it has
--     AreAscending rs ds       both lists ascend, as a record's lists do
use Rattle.std.specs.Prelude.{◌≡◌, ℕ, true, List, [], ◌∷◌}
use Rattle.dali_record.specs.declared.records.Record.{Record}
use Rattle.dali_record.specs.declared.records.Record.TheVariants.{Restarted}
use Rattle.dali_record.specs.Spelling.{ascends, record_length, spelling}
use Rattle.dali_log.specs.Log.{bodies}

abbrev pub restart_of : List ℕ → List ℕ → Record
restart_of rs ds = Restarted rs ds

abbrev pub restart_body : List ℕ → List ℕ → List ℕ
restart_body rs ds = spelling (restart_of rs ds)

abbrev pub restart_bodies : List ℕ → List ℕ → List (List ℕ)
restart_bodies rs ds = bodies ((restart_of rs ds ∷ []) ∷ [])

abbrev pub restart_length : List ℕ → List ℕ → ℕ
restart_length rs ds = record_length (restart_of rs ds)

abbrev pub AreAscending : List ℕ → List ℕ → Type 0
AreAscending rs ds = (ascends rs ≡ true) × (ascends ds ≡ true)
