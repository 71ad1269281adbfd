-- What a change of one row of the table leaves at each transaction.
use Rattle.std.proofs.Common.{◌≡◌, ℕ, Bool, false, List, [], Option, ap, ◌∙◌, option_map}
use Rattle.std.specs.Prelude.{◌==◌, if◌then◌else◌}
use Rattle.std.specs.Option.{option_map_or}
use Rattle.std.specs.FinMap.{get}
use Rattle.dali_lists.proofs.Numbers.{eqb-self}
use Rattle.dali_record.specs.declared.operations.Pending.{Pending}
use Rattle.dali_att.specs.Table.{Table, with_row}
use Rattle.dali_att.proofs.Changes.{get-with_row}
use Rattle.dali_runs.specs.State.{TxnRow}

abbrev pub undos_in : Option TxnRow → List Pending
undos_in row = option_map_or (λ (r : TxnRow). r.undos) row []

pub row_here : (m : Table Pending) (t : ℕ) (f : TxnRow → TxnRow) → get (with_row m t f) t ≡ option_map f (get m t)
row_here m t f = get-with_row m t f t ∙ ap (λ (b : Bool). if b then option_map f (get m t) else get m t) (eqb-self t)

pub row_apart : (m : Table Pending) (t u : ℕ) (f : TxnRow → TxnRow) → (t == u) ≡ false → get (with_row m t f) u ≡ get m u
row_apart m t u f e = get-with_row m t f u ∙ ap (λ (b : Bool). if b then option_map f (get m t) else get m u) e
