-- What the worked logs are tested for.
--     values L ks            what the expected map has at these keys, where it is defined
--     is_ruled L ts          the rules allow the log as a whole, and each of these transactions
use Rattle.std.specs.Prelude.{ℕ, Bool, ◌&&◌, List, [], Option, Some, None, map, is_some}
use Rattle.std.specs.List.{list_all}
use Rattle.dali_record.specs.declared.records.Record.{Record}
use Rattle.dali_record.specs.Legal.{sizes_of, txn_state, rules_state}
use Rattle.dali_history.specs.Serial.{Map, expected}

abbrev pub values_at : Option Map → List ℕ → List (Option (List ℕ))
values_at None ks = []
values_at (Some m) ks = map m ks

abbrev pub values : List Record → List ℕ → List (Option (List ℕ))
values L ks = values_at (expected L) ks

abbrev pub is_ruled : List Record → List ℕ → Bool
is_ruled L ts = is_some (rules_state (sizes_of L) L) && list_all (λ t. is_some (txn_state (sizes_of L) t L)) ts
