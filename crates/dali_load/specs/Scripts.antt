-- The script that stores rows in a new database.
--     groups count              how many groups of seven so many rows make, the last of which may have fewer
--     group_at rows i           the i-th group
--     insert row                the command that stores a row
--     transaction rows          one that stores these
--     round_of rows             the round of client 1 that makes it
--     script_of index heap rows      the whole: a database is made, a round stores each group, and a checkpoint is made
use Rattle.std.specs.Prelude.{ℕ, ◌+◌, ◌*◌, ◌/◌, ◌%◌, min, List, [], ◌∷◌, ◌++◌, length, map, take, drop}
use Rattle.dali_access.specs.Index.Records.{below}
use Rattle.dali_listing.specs.declared.Listed.{Listed}
use Rattle.dali_script.specs.declared.commands.ClientCommand.{ClientCommand}
use Rattle.dali_script.specs.declared.commands.ClientCommand.TheVariants.{Begin, Insert, Commit}
use Rattle.dali_script.specs.declared.commands.Command.{Command}
use Rattle.dali_script.specs.declared.commands.Command.TheVariants.{Size, Round, Checkpoint}

abbrev pub groups : ℕ → ℕ
groups count = count / 7 + min 1 (count % 7)

abbrev pub group_at : List Listed → ℕ → List Listed
group_at rows i = take 7 (drop (7 * i) rows)

abbrev pub insert : Listed → ClientCommand
insert row = Insert row.key row.value

abbrev pub transaction : List Listed → List ClientCommand
transaction rows = Begin ∷ map insert rows ++ Commit ∷ []

abbrev pub round_of : List Listed → Command
round_of rows = Round (record { client = 1; commands = transaction rows } ∷ [])

abbrev pub rounds_of : List Listed → List Command
rounds_of rows = map (λ i. round_of (group_at rows i)) (below (groups (length rows)))

abbrev pub script_of : (index heap : ℕ) → List Listed → List Command
script_of index heap rows = Size index heap ∷ rounds_of rows ++ Checkpoint ∷ []
