-- The command line of dali, as what clap reads of a command.
--     run, generate, dump, show, status, load    its subcommands
--     dali                                       the whole: one of them is wanted, and none of clap's helps is there
--     IsPart shape c                             c is the command of this shape, with no subcommand of its own
use Rattle.std.specs.Prelude.{◌≡◌, true, false, [], ◌∷◌, Some, codes}
use Rattle.clap.specs.Words.{App, Rule, Shape, Text, app_of, new_rule}
use Rattle.clap.specs.Simple.{new_shape}
use Rattle.clap.specs.declared.builder.ArgAction.TheVariants.{Set, SetTrue}
use Rattle.clap.specs.declared.builder.Command.{Command}
use Rattle.clap.specs.declared.builder.Command.TheViews.{out-Command}

-- `--name`, once at most
abbrev pub flag : Text → Rule
flag name = record (new_rule name) { long = Some name; action = Some SetTrue }

-- `--name VALUE` or `--name=VALUE`, once at most
abbrev pub setting : Text → Rule
setting name = record (new_rule name) { long = Some name; action = Some Set }

-- a word that is wanted
abbrev pub wanted : Text → Rule
wanted name = record (new_rule name) { required = true }

abbrev pub run : Shape
run = record (new_shape (codes "run")) { rules = flag (codes "precheck") ∷ setting (codes "log-limit") ∷ [] }

abbrev pub generate : Shape
generate = record (new_shape (codes "gen")) { rules = wanted (codes "clients") ∷ wanted (codes "size") ∷ wanted (codes "number") ∷ [] }

abbrev pub dump : Shape
dump = new_shape (codes "dump")

abbrev pub show : Shape
show = new_shape (codes "show")

abbrev pub status : Shape
status = new_shape (codes "status")

abbrev pub load : Shape
load = record (new_shape (codes "load")) { rules = wanted (codes "index") ∷ wanted (codes "heap") ∷ [] }

abbrev pub dali : App
dali = record {
  top = record (new_shape (codes "dali")) {
    is_leaf = false;
    no_binary_name = true;
    disable_help_flag = true;
    disable_help_subcommand = true;
    subcommand_required = true;
  };
  subs = run ∷ generate ∷ dump ∷ show ∷ status ∷ load ∷ [];
}

abbrev pub alone : Shape → App
alone shape = record { top = shape; subs = [] }

abbrev pub IsPart : Shape → Command → Type 0
IsPart shape c = (app_of c ≡ alone shape) × ((out-Command c).has_globals ≡ false)
