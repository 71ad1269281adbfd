-- Blocks of a script in the words of transcripts, and what is asked of a command.
--     act_by command           a command of a block
--     told_by block            a block
--     alone act                the block of one client that does this alone
--     sizes_of index heap      the sizes of a database
--     IsFit command            where it makes a database, its sizes are those that a database may have; the blocks of its round are such as a round
--                              asks for
use Rattle.std.specs.Prelude.{ℕ, List, [], ◌∷◌, map}
use Rattle.std.specs.List.{AllByRecursion}
use Rattle.dali_geometry.specs.Sizes.{Sizes, AreInRange}
use Rattle.dali_record.specs.declared.records.Call.TheVariants as calls
use Rattle.dali_transcripts.specs.Words.{Act, Begins, Calls, Arms, Commits, Aborts, Pokes, Audits, Checkpoints}
use Rattle.dali_transcripts.specs.Transcripts.{Told}
use Rattle.dali_transcripts.specs.Rounds.{AreBlocks}
use Rattle.dali_script.specs.declared.commands.Block.{Block}
use Rattle.dali_script.specs.declared.commands.ClientCommand.{ClientCommand}
use Rattle.dali_script.specs.declared.commands.ClientCommand.TheVariants as clients
use Rattle.dali_script.specs.declared.commands.Command.{Command}
use Rattle.dali_script.specs.declared.commands.Command.TheVariants.{Size, Round, Poke}

abbrev pub act_by : ClientCommand → Act
act_by clients.Begin = Begins
act_by (clients.Insert key value) = Calls (calls.Insert key value)
act_by (clients.Update key value) = Calls (calls.Update key value)
act_by (clients.Delete key) = Calls (calls.Delete key)
act_by (clients.Get key) = Calls (calls.Get key)
act_by (clients.Die operation) = Arms operation
act_by clients.Commit = Commits
act_by clients.Abort = Aborts
act_by (clients.Poke region word mask) = Pokes region word mask
act_by clients.Audit = Audits
act_by clients.Checkpoint = Checkpoints

abbrev pub told_by : Block → Told
told_by block = record { client = block.client; acts = map act_by block.commands }

abbrev pub alone : Act → List Told
alone act = record { client = 1; acts = act ∷ [] } ∷ []

abbrev pub sizes_of : ℕ → ℕ → Sizes
sizes_of index heap = record { index = index; heap = heap }

abbrev pub IsFit : Command → Type 0
IsFit (Size index heap) = AreInRange (sizes_of index heap)
IsFit (Round blocks) = AreBlocks (map told_by blocks)
IsFit (Poke region word mask) = AreBlocks (alone (Pokes region word mask))
IsFit _ = Unit {0}

abbrev pub AreFit : List Command → Type 0
AreFit commands = AllByRecursion IsFit commands
