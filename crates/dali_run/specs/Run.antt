-- A run: one step for each command, from a state of the program to the next one.
--     RunsAll old commands text new       the commands one after another
--     HasRun start script n text new      from a program that is down over the handed-in store, the first n commands of the script were run, and printed this
use Rattle.std.specs.Prelude.{◌≡◌, ℕ, Bool, List, [], ◌∷◌, ◌++◌, take}
use Rattle.dali_run.specs.declared.program.Program.{Program}
use Rattle.dali_run.specs.Program.{IsDown}
use Rattle.dali_run.specs.Steps.{Steps}
use Rattle.dali_script.specs.declared.commands.Command.{Command}
use Rattle.dali_store.specs.declared.store.Store.{Ghosts}

module _ {V : Type 0} (g : Ghosts V) (limit : ℕ) (precheck : Bool) where
  abbrev pub RunsAll : Program V → List Command → List ℕ → Program V → Type 0
  RunsAll old [] text new = (text ≡ []) × (new ≡ old)
  RunsAll old (command ∷ later) text new =
      (first : List ℕ) × (mid : Program V) × (rest : List ℕ) × Steps g limit precheck old command first mid × RunsAll mid later rest new × (text ≡ first ++ rest)

  pub record HasRun (start : V) (script : List Command) (count : ℕ) (text : List ℕ) (new : Program V) : Type 0 where
    pub first : Program V
    pub down : IsDown first start
    pub runs : RunsAll first (take count script) text new
