-- Codes of what contracts see.
use Rattle.std.specs.Prelude.{ℕ, Bool, List, Option, refl}
use Rattle.std.specs.FinMap as map
use Rattle.std.specs.Coded.{Coded, code_by, coded×, coded_ℕ, coded_bool, coded_list, coded_option}
use Rattle.dali_record.specs.declared.records.Record.{Record}
use Rattle.dali_record.specs.contracts.records.Record.{the_row as record_row}
use Rattle.dali_record.specs.contracts.operations.Pending.{the_row as pending_row}
use Rattle.dali_runs.specs.contracts.refusals.Refusal.{the_row as refusal_row}
use Rattle.dali_runs.specs.contracts.causes.Cause.{the_row as cause_row}
use Rattle.dali_runs.specs.declared.refusals.Refusal.{Refusal}
use Rattle.dali_runs.specs.declared.causes.Cause.{Cause}
use Rattle.dali_att.specs.Table.{Table, coded_row}
use Rattle.dali_record.specs.declared.operations.Pending.{Pending}
use Rattle.dali_locks.specs.Locks.{Locks, coded_mode}
use Rattle.dali_runs.specs.State.{SystemState}
use Rattle.dali_system.specs.Journaled.{Journaled}
use Rattle.dali_system.specs.Promised.{Promised, promised_code}

abbrev pub journaled_code : Coded Journaled
journaled_code = code_by (List Record × (ℕ × Promised)) (coded× (coded_list record_row.coded) (coded× coded_ℕ promised_code)) (λ j. (j.since, (j.taken, j.promised))) (λ p. record { since = p.0; taken = p.1.0; promised = p.1.1 }) (λ _. refl)

abbrev Counts : Type 0
Counts = ℕ × (ℕ × (ℕ × (ℕ × (ℕ × (ℕ × ℕ)))))

abbrev Parts : Type 0
Parts = (ℕ × ℕ) × (List Record × (Table Pending × (Locks × (List Refusal × (Option Cause × (Bool × (ℕ × (ℕ × (ℕ × (ℕ × (ℕ × ℕ)))))))))))

abbrev parts_code : Coded Parts
parts_code =
    coded× (coded× coded_ℕ coded_ℕ) (coded× (coded_list record_row.coded) (coded× (map.code coded_ℕ (coded_row pending_row.coded)) (coded× (map.code (coded× coded_ℕ coded_ℕ) coded_mode)
    (coded× (coded_list refusal_row.coded) (coded× (coded_option cause_row.coded) (coded× coded_bool (coded× coded_ℕ (coded× coded_ℕ (coded× coded_ℕ (coded× coded_ℕ (coded× coded_ℕ coded_ℕ)))))))))))

abbrev to_parts : SystemState → Parts
to_parts y = ((y.sizes.index, y.sizes.heap), (y.since, (y.table, (y.locks, (y.refusals, (y.stop, (y.checking, (y.first, (y.taken, (y.records, (y.end, (y.next, y.limit))))))))))))

abbrev from_parts : Parts → SystemState
from_parts p =
    let a = p.1 in let b = a.1 in let c = b.1 in let d = c.1 in let e = d.1 in let f = e.1 in let g = f.1 in let h = g.1 in let i = h.1 in let k = i.1 in let l = k.1 in
    record { sizes = record { index = p.0.0; heap = p.0.1 }; since = a.0; table = b.0; locks = c.0; refusals = d.0; stop = e.0; checking = f.0; first = g.0; taken = h.0; records = i.0; end = k.0; next = l.0; limit = l.1 }

abbrev pub system_code : Coded SystemState
system_code = code_by Parts parts_code to_parts from_parts (λ _. refl)
