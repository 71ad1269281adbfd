-- The grammar: which script bytes spell, and what is wrong with bytes that spell none.
--     Context                what the lines so far make of the place behind them
--     verdict c words        the command line that words are behind such lines, or the first test that they fail
--     next n item c          what the line with the number n makes of the place behind it
--     Reads c ls items d     behind lines that lead to c, each of these lines is right, they are these command lines, and they lead to d
--     lines_of_script s      the command lines of a script, one after another
--     IsGrouped s            each round of the script has a block, and no round follows another
--     IsSpelled bytes s      bytes spell the script s
--     IsWrong bytes n kind   n is the first line that is wrong, and kind the first test that it fails
use Rattle.std.specs.Prelude.{◌≡◌, ℕ, ◌<◌, Bool, true, false, not, ◌||◌, ◌==◌, List, [], ◌∷◌, ◌++◌, length, map, flat_map, Option, Some, None, Result, Ok, Err, ok_or, if◌then◌else◌, ◌⊎◌}
use Rattle.std.specs.List.{list_any}
use Rattle.dali_script.specs.Lines.{lines_of, command_lines}
use Rattle.dali_script.specs.Faults.{◌>>=◌, test}
use Rattle.dali_script.specs.Names.{name_of}
use Rattle.dali_script.specs.Items.{item_of}
use Rattle.dali_script.specs.Places.{is_start, is_in_block, may_stand, after}
use Rattle.dali_script.specs.declared.faults.Kind.{Kind}
use Rattle.dali_script.specs.declared.faults.Kind.TheVariants as kind
use Rattle.dali_script.specs.declared.names.Name.{Name}
use Rattle.dali_script.specs.declared.names.Name.TheVariants as name
use Rattle.dali_script.specs.declared.items.Item.{Item}
use Rattle.dali_script.specs.declared.items.Item.TheVariants as item
use Rattle.dali_script.specs.declared.places.Place.{Place}
use Rattle.dali_script.specs.declared.places.Place.TheVariants as place
use Rattle.dali_script.specs.declared.commands.ClientCommand.{ClientCommand}
use Rattle.dali_script.specs.declared.commands.ClientCommand.TheVariants as step
use Rattle.dali_script.specs.declared.commands.Block.{Block}
use Rattle.dali_script.specs.declared.commands.Command.{Command}
use Rattle.dali_script.specs.declared.commands.Command.TheVariants as single

pub record Context : Type 0 where
  pub place : Place
  -- the clients of the round that may still go on here
  pub clients : List ℕ
  -- the line of the last `client`
  pub opened : ℕ

abbrev pub start : Context
start = record { place = place.Start; clients = []; opened = 0 }

-- ---- one line
abbrev pub begins_a_script : Option Name → Bool
begins_a_script None = false
begins_a_script (Some name.Size) = true
begins_a_script (Some name.Open) = true
begins_a_script (Some _) = false

abbrev pub is_new_here : Context → Item → Bool
is_new_here c (item.Client n) = not (list_any (λ m. m == n) c.clients)
is_new_here c _ = true

-- the tests of a line, in their order
abbrev pub verdict : Context → List (List ℕ) → Result Item Kind
verdict c [] = Err kind.Unknown
verdict c (word ∷ arguments) = do
  wanted ← test (not (is_start c.place) || begins_a_script (name_of word)) kind.SizeOrOpenWanted
  name ← ok_or (name_of word) kind.Unknown
  placed ← test (may_stand name c.place) kind.Place
  made ← item_of name arguments
  fresh ← test (is_new_here c made) kind.Client
  Ok made

-- ---- line after line
-- a single command ends the round
abbrev pub clients_after : Item → Context → List ℕ
clients_after (item.Client n) c = c.clients ++ n ∷ []
clients_after _ c = if is_in_block c.place then c.clients else []

abbrev pub opened_after : ℕ → Item → Context → ℕ
opened_after n (item.Client m) c = n
opened_after n _ c = c.opened

abbrev pub next : ℕ → Item → Context → Context
next n made c = record { place = after made c.place; clients = clients_after made c; opened = opened_after n made c }

abbrev pub Reads : Context → List (ℕ × List (List ℕ)) → List Item → Context → Type 0
Reads c [] [] d = c ≡ d
Reads c [] (made ∷ more) d = ⊥
Reads c (l ∷ ls) [] d = ⊥
Reads c (l ∷ ls) (made ∷ more) d = (verdict c l.1 ≡ Ok made) × Reads (next l.0 made c) ls more d

-- ---- scripts
abbrev pub line_of_step : ClientCommand → Item
line_of_step step.Begin = item.Begin
line_of_step (step.Insert k v) = item.Insert k v
line_of_step (step.Update k v) = item.Update k v
line_of_step (step.Delete k) = item.Delete k
line_of_step (step.Get k) = item.Get k
line_of_step (step.Die n) = item.Die n
line_of_step step.Commit = item.Commit
line_of_step step.Abort = item.Abort
line_of_step (step.Poke r w m) = item.Poke r w m
line_of_step step.Audit = item.Audit
line_of_step step.Checkpoint = item.Checkpoint

abbrev pub lines_of_block : Block → List Item
lines_of_block b = item.Client b.client ∷ map line_of_step b.commands ++ item.End ∷ []

abbrev pub lines_of_command : Command → List Item
lines_of_command (single.Size i h) = item.Size i h ∷ []
lines_of_command single.Open = item.Open ∷ []
lines_of_command (single.Round blocks) = flat_map lines_of_block blocks
lines_of_command (single.Poke r w m) = item.Poke r w m ∷ []
lines_of_command single.Audit = item.Audit ∷ []
lines_of_command single.Checkpoint = item.Checkpoint ∷ []
lines_of_command single.Cleanup = item.Cleanup ∷ []
lines_of_command (single.Crash n) = item.Crash n ∷ []
lines_of_command single.Restart = item.Restart ∷ []
lines_of_command single.Show = item.Show ∷ []
lines_of_command single.Verify = item.Verify ∷ []
lines_of_command single.Next = item.Next ∷ []
lines_of_command (single.Fuse n) = item.Fuse n ∷ []

abbrev pub lines_of_script : List Command → List Item
lines_of_script s = flat_map lines_of_command s

-- the blocks of a round
abbrev pub round_in : Command → Option (List Block)
round_in (single.Round blocks) = Some blocks
round_in _ = None

abbrev pub is_round : Option (List Block) → Bool
is_round None = false
is_round (Some blocks) = true

-- a round has a block, and follows no round
abbrev pub IsGroupedBy : Bool → Option (List Block) → Type 0
IsGroupedBy after None = Unit {0}
IsGroupedBy after (Some blocks) = (after ≡ false) × (0 < length blocks)

-- after a round, or not
abbrev pub IsGroupedAfter : Bool → List Command → Type 0
IsGroupedAfter after [] = Unit {0}
IsGroupedAfter after (command ∷ commands) = IsGroupedBy after (round_in command) × IsGroupedAfter (is_round (round_in command)) commands

abbrev pub IsGrouped : List Command → Type 0
IsGrouped s = IsGroupedAfter false s

pub record IsSpelled (bytes : List ℕ) (s : List Command) : Type 0 where
  pub end : Context
  pub reads : Reads start (command_lines bytes) (lines_of_script s) end
  pub outside : end.place ≡ place.Outside
  pub grouped : IsGrouped s

-- the lines before it are right, and it isn't
pub record IsWrongLine (bytes : List ℕ) (n : ℕ) (fault : Kind) : Type 0 where
  pub before : List (ℕ × List (List ℕ))
  pub words : List (List ℕ)
  pub behind : List (ℕ × List (List ℕ))
  pub split : command_lines bytes ≡ before ++ (n, words) ∷ behind
  pub lines : List Item
  pub context : Context
  pub reads : Reads start before lines context
  pub refused : verdict context words ≡ Err fault

-- there is no command; the line is then the one behind the last line feed
pub record HasNoCommand (bytes : List ℕ) (n : ℕ) (fault : Kind) : Type 0 where
  pub none : command_lines bytes ≡ []
  pub last : n ≡ length (lines_of bytes)
  pub wanted : fault ≡ kind.SizeOrOpenWanted

-- all lines are right, and a block is open at the end
pub record IsUnended (bytes : List ℕ) (n : ℕ) (fault : Kind) : Type 0 where
  pub lines : List Item
  pub end : Context
  pub reads : Reads start (command_lines bytes) lines end
  pub inside : is_in_block end.place ≡ true
  pub client : n ≡ end.opened
  pub unended : fault ≡ kind.Unended

abbrev pub IsWrong : List ℕ → ℕ → Kind → Type 0
IsWrong bytes n fault = IsWrongLine bytes n fault ⊎ (HasNoCommand bytes n fault ⊎ IsUnended bytes n fault)
