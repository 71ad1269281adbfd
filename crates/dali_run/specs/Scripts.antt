-- How a script is read and run.
--     Spells, SpellsNone        a source was read to its end, and gave the bytes of a script, or bytes that are none
--     RanWhole                  all commands were run, and their lines written
--     StoppedIn halt            a command ended the run with this: those before it were run and their lines written
--     CutIn                     the sink failed in writing the lines of a command: the lines of those before it were written, and some of the first bytes of its own
use Rattle.std.specs.Prelude.{◌≡◌, ℕ, ◌+◌, ◌<◌, ◌≤◌, Bool, List, [], ◌∷◌, ◌++◌, length, take, Option}
use Rattle.dali_fuse.specs.Fuse.{inner}
use Rattle.dali_fuse.specs.declared.fuse.Fuse.{Fuse}
use Rattle.dali_run.specs.declared.halt.Halt.{Halt}
use Rattle.dali_run.specs.declared.program.Program.{Program}
use Rattle.dali_run.specs.Fails.{Fails}
use Rattle.dali_run.specs.Program.{store_of}
use Rattle.dali_run.specs.Run.{HasRun}
use Rattle.dali_run.specs.Steps.{Steps}
use Rattle.dali_script.specs.declared.commands.Command.{Command}
use Rattle.dali_script.specs.declared.faults.Kind.{Kind}
use Rattle.dali_script.specs.Grammar.{IsSpelled, IsWrong}
use Rattle.dali_store.specs.declared.store.Store.{Ghosts}
use Rattle.dali_streams.specs.Streams.{ReadAll, Appends, AppendsSome}

pub record Spells (before : Option (List ℕ)) (script : List Command) (after : Option (List ℕ)) : Type 0 where
  pub bytes : List ℕ
  pub all : ReadAll before bytes after
  pub short : length bytes ≤ 1048576
  pub spelled : IsSpelled bytes script

pub record SpellsNone (before : Option (List ℕ)) (line : ℕ) (kind : Kind) (after : Option (List ℕ)) : Type 0 where
  pub bytes : List ℕ
  pub all : ReadAll before bytes after
  pub short : length bytes ≤ 1048576
  pub wrong : IsWrong bytes line kind

-- a command of the script with those before it
pub record IsNext (script : List Command) (count : ℕ) (command : Command) : Type 0 where
  pub within : count < length script
  pub next : take (count + 1) script ≡ take count script ++ command ∷ []

module _ {V : Type 0} (g : Ghosts V) (limit : ℕ) (precheck : Bool) where
  pub record RanWhole (start : V) (script : List Command) (before after : Option (List ℕ)) (end : V) : Type 0 where
    pub text : List ℕ
    pub state : Program V
    pub run : HasRun g limit precheck start script (length script) text state
    pub store : inner (store_of state) ≡ end
    pub written : Appends before text after

  pub record StoppedIn (halt : Halt) (start : V) (script : List Command) (before after : Option (List ℕ)) (end : V) : Type 0 where
    pub count : ℕ
    pub command : Command
    pub next : IsNext script count command
    pub text : List ℕ
    pub state : Program V
    pub run : HasRun g limit precheck start script count text state
    pub last : Fuse V
    pub fails : Fails g precheck halt command state last
    pub store : inner last ≡ end
    pub written : Appends before text after

  pub record CutIn (start : V) (script : List Command) (before after : Option (List ℕ)) (end : V) : Type 0 where
    pub count : ℕ
    pub command : Command
    pub next : IsNext script count command
    pub text : List ℕ
    pub earlier : Program V
    pub ran : HasRun g limit precheck start script count text earlier
    pub more : List ℕ
    pub state : Program V
    pub steps : Steps g limit precheck earlier command more state
    pub store : inner (store_of state) ≡ end
    pub between : Option (List ℕ)
    pub written : Appends before text between
    pub cut : AppendsSome between more after
