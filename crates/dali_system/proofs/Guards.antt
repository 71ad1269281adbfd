-- What the state of a transaction tells of its row.
use Rattle.std.proofs.Common.{◌≡◌, Option, Some, None, refl}
use Rattle.std.specs.Prelude.{IsSome}
use Rattle.dali_runs.specs.State.{TxnRow, state_in}
use Rattle.dali_att.specs.declared.state.State.{State}

pub no_row : (row : Option TxnRow) → state_in row ≡ None → row ≡ None
no_row None e = refl
no_row (Some row) e = cc

pub some_row : (row : Option TxnRow) (s : State) → state_in row ≡ Some s → IsSome row
some_row None s e = cc
some_row (Some row) s e = refl
