-- A client that is done goes no further.
use Rattle.std.proofs.Common.{◌≡◌, Bool, true, false, List, [], ◌∷◌, length, Some, None, refl, ap, sym, ◌∙◌, arith}
use Rattle.std.specs.Prelude.{◌==◌, slice_get}
use Rattle.dali_runs.proofs.CountsLemmas.Lists.{equal}
use Rattle.dali_transcripts.specs.declared.clients.command.Command.{Command}
use Rattle.dali_turns.specs.declared.client.Client.{Client}
use Rattle.dali_turns.specs.declared.client.State.{State}
use Rattle.dali_turns.specs.Clients.{next_of, is_over}

-- its state was taken out of it for the step
pub over_in : (taken state : State) (none : Bool) → taken ≡ state → is_over state none ≡ true → is_over taken none ≡ true
over_in taken state none e over = ap (λ s. is_over s none) e ∙ over

pub not_over : {X : Type 0} (taken state : State) (none : Bool) → taken ≡ state → is_over taken none ≡ false → is_over state none ≡ true → X
not_over taken state none e busy over = let never : false ≡ true = sym busy ∙ over_in taken state none e over in absurd (cc)

-- without a command
no_command : (xs : List Command) → (length xs == 0) ≡ true → slice_get xs 0 ≡ None
no_command [] e = refl
no_command (x ∷ xs) e = absurd (omega (arith, equal (length (x ∷ xs)) 0 e))

pub none_next : (k : Client) → (length k.rest.now == 0) ≡ true → next_of k ≡ None
none_next k none = no_command k.rest.now none

pub some_next : {X : Type 0} (k : Client) (command : Command) → next_of k ≡ Some command → (length k.rest.now == 0) ≡ true → X
some_next k command some none = let never : None ≡ Some command = sym (none_next k none) ∙ some in absurd (cc)
