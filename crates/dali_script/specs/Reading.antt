-- Reading line after line, as the private functions of the crate do it.
--     State                  what was read so far
--     context_of s           what it makes of the place behind it
--     taken n item s         with one command line more
--     read_line n line s     with one line more, or the line's fault
--     read_lines n ls s      with these lines more, the first of which has the number n
--     finished n s           the script, or the fault at the end of n lines
--     outcome bytes          the script that bytes spell, or the fault
--     Gives view r expected  a result, seen by view, is what is expected, unless memory ran out
use Rattle.std.specs.Prelude.{◌≡◌, ℕ, ◌+◌, List, [], ◌∷◌, ◌++◌, length, Option, Some, None, Result, Ok, Err, if◌then◌else◌}
use Rattle.dali_script.specs.Lines.{lines_of, command_in, is_empty}
use Rattle.dali_script.specs.Faults.{◌>>=◌}
use Rattle.dali_script.specs.Places.{is_in_block, after}
use Rattle.dali_script.specs.Grammar.{Context, verdict}
use Rattle.dali_script.specs.declared.faults.Kind.{Kind}
use Rattle.dali_script.specs.declared.faults.Kind.TheVariants as kind
use Rattle.dali_script.specs.declared.faults.ScriptError.{ScriptError}
use Rattle.dali_script.specs.declared.faults.ScriptError.TheVariants as error
use Rattle.dali_script.specs.declared.items.Item.{Item}
use Rattle.dali_script.specs.declared.items.Item.TheVariants as item
use Rattle.dali_script.specs.declared.places.Place.{Place}
use Rattle.dali_script.specs.declared.places.Place.TheVariants as place
use Rattle.dali_script.specs.declared.commands.ClientCommand.{ClientCommand}
use Rattle.dali_script.specs.declared.commands.ClientCommand.TheVariants as step
use Rattle.dali_script.specs.declared.commands.Block.{Block}
use Rattle.dali_script.specs.declared.commands.Command.{Command}
use Rattle.dali_script.specs.declared.commands.Command.TheVariants as single

pub record State : Type 0 where
  pub place : Place
  -- the line and the number of the last `client`, the clients of the round that may still go on, and the commands of the block that is open
  pub opened : ℕ
  pub client : ℕ
  pub clients : List ℕ
  pub steps : List ClientCommand
  -- the blocks of the round that may still go on
  pub blocks : List Block
  pub commands : List Command

abbrev pub at_start : State
at_start = record { place = place.Start; opened = 0; client = 0; clients = []; steps = []; blocks = []; commands = [] }

abbrev pub context_of : State → Context
context_of s = record { place = s.place; clients = s.clients; opened = s.opened }

-- what a line is as a command of a block, and as a single command
abbrev pub step_of : Item → Option ClientCommand
step_of item.Begin = Some step.Begin
step_of (item.Insert k v) = Some (step.Insert k v)
step_of (item.Update k v) = Some (step.Update k v)
step_of (item.Delete k) = Some (step.Delete k)
step_of (item.Get k) = Some (step.Get k)
step_of (item.Die n) = Some (step.Die n)
step_of item.Commit = Some step.Commit
step_of item.Abort = Some step.Abort
step_of (item.Poke r w m) = Some (step.Poke r w m)
step_of item.Audit = Some step.Audit
step_of item.Checkpoint = Some step.Checkpoint
step_of _ = None

abbrev pub single_of : Item → Option Command
single_of (item.Size i h) = Some (single.Size i h)
single_of item.Open = Some single.Open
single_of (item.Poke r w m) = Some (single.Poke r w m)
single_of item.Audit = Some single.Audit
single_of item.Checkpoint = Some single.Checkpoint
single_of item.Cleanup = Some single.Cleanup
single_of (item.Crash n) = Some (single.Crash n)
single_of item.Restart = Some single.Restart
single_of item.Show = Some single.Show
single_of item.Verify = Some single.Verify
single_of item.Next = Some single.Next
single_of (item.Fuse n) = Some (single.Fuse n)
single_of _ = None

-- the commands, with the round that ends here
abbrev pub ended : List Block → List Command → List Command
ended blocks commands = if is_empty blocks then commands else commands ++ single.Round blocks ∷ []

abbrev pub with_step : Option ClientCommand → State → State
with_step None s = s
with_step (Some command) s = record s { steps = s.steps ++ command ∷ [] }

abbrev pub with_round_ended : State → State
with_round_ended s = record s { clients = []; blocks = []; commands = ended s.blocks s.commands }

abbrev pub with_single : Option Command → State → State
with_single None s = s
with_single (Some command) s = record s { clients = []; blocks = []; commands = ended s.blocks s.commands ++ command ∷ [] }

-- a line at its place, which stays
abbrev pub put : ℕ → Item → State → State
put n (item.Client m) s = record s { opened = n; client = m; clients = s.clients ++ m ∷ [] }
put n item.End s = record s { steps = []; blocks = s.blocks ++ record { client = s.client; commands = s.steps } ∷ [] }
put n made s = if is_in_block s.place then with_step (step_of made) s else with_single (single_of made) s

abbrev pub taken : ℕ → Item → State → State
taken n made s = record (put n made s) { place = after made s.place }

abbrev pub Fault : Type 0
Fault = ℕ × Kind

abbrev pub in_line : {A : Type 0} → ℕ → Result A Kind → Result A Fault
in_line n (Ok x) = Ok x
in_line n (Err k) = Err (n, k)

abbrev pub read_command : Option (ℕ × List (List ℕ)) → State → Result State Fault
read_command None s = Ok s
read_command (Some l) s = in_line l.0 (verdict (context_of s) l.1) >>= λ made. Ok (taken l.0 made s)

abbrev pub read_line : ℕ → List ℕ → State → Result State Fault
read_line n line s = read_command (command_in n line) s

abbrev pub read_lines : ℕ → List (List ℕ) → State → Result State Fault
read_lines n [] s = Ok s
read_lines n (line ∷ lines) s = read_line n line s >>= λ t. read_lines (n + 1) lines t

abbrev pub finish_at : Place → ℕ → State → Result (List Command) Fault
finish_at place.Start n s = Err (n, kind.SizeOrOpenWanted)
finish_at place.Outside n s = Ok (ended s.blocks s.commands)
finish_at place.InBlock n s = Err (s.opened, kind.Unended)
finish_at place.InTransaction n s = Err (s.opened, kind.Unended)

abbrev pub finished : ℕ → State → Result (List Command) Fault
finished n s = finish_at s.place n s

abbrev pub outcome : List ℕ → Result (List Command) Fault
outcome bytes = read_lines 1 (lines_of bytes) at_start >>= finished (length (lines_of bytes))

abbrev pub Fails : {B : Type 0} → ScriptError → Result B Fault → Type 0
Fails (error.BadLine n k) expected = expected ≡ Err (n, k)
Fails error.OutOfMemory expected = Unit {0}

abbrev pub Gives : {A B : Type 0} → (A → B) → Result A ScriptError → Result B Fault → Type 0
Gives view (Ok x) expected = expected ≡ Ok (view x)
Gives view (Err e) expected = Fails e expected
