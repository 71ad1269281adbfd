-- What contracts see of a redo, and what it tells.
--     Redoing
--     status_at m t            how far transaction t has come, by a table of those that began and haven't ended
--     is_left x t              a record of t was skipped
--     performed x t            the undos of t that are performed: those at its first skipped record, and where none was skipped, those at work
--     told x                   what the table tells the tests
--     Knows x k                that is what is known
--     is_tested r              a record whose rule is tested
--     breaks s k r             it is, and breaks its rule
--     is_of t r                r is a record of t
--     AreUndos us              the undos have a spelling
--     MayUndo r                so has that of the record's block, if it adds one
use Rattle.std.specs.Prelude.{◌≡◌, ℕ, ⊤, Bool, true, false, not, ◌&&◌, ◌==◌, List, [], Option, Some, None, is_some, refl}
use Rattle.std.specs.List.{AllByRecursion}
use Rattle.std.specs.FinMap as map
use Rattle.std.specs.Coded.{Coded, code_by, coded×, coded_ℕ, coded_list}
use Rattle.dali_geometry.specs.Sizes.{Sizes}
use Rattle.dali_att.specs.declared.state.State.{State}
use Rattle.dali_att.specs.declared.state.State.TheVariants.{Live, Dead, Cleaning, Committed}
use Rattle.dali_att.specs.Table.{Table, coded_row, state_at, undos_at}
use Rattle.dali_record.specs.contracts.operations.Pending.{the_row as pending_row}
use Rattle.dali_record.specs.declared.operations.Pending.{Pending}
use Rattle.dali_record.specs.declared.records.Record.{Record}
use Rattle.dali_record.specs.declared.records.Record.TheVariants.{Forward}
use Rattle.dali_record.specs.Damage.{any_txn}
use Rattle.dali_record.specs.Log.{txn_of}
use Rattle.dali_record.specs.Spelling.{IsUndo, MayBeUndo}
use Rattle.dali_resume.specs.Laws.{undos_in}
use Rattle.dali_resume.specs.Tests.{Known, Status, Idle, Running, Waiting, allows}

pub record Redoing : Type 0 where
  pub sizes : Sizes
  pub image : List (List ℕ)
  -- who has begun and not ended
  pub table : Table Pending
  -- of whom a record was skipped, with the undos at the first such
  pub left : Table Pending
  -- the least number that the next transaction may have
  pub next : ℕ

-- ---- the table
abbrev pub status_by : Option State → List Pending → Status
status_by None us = Idle
status_by (Some Live) us = Running us
status_by (Some (Dead latched)) us = Running us
status_by (Some (Cleaning latched)) us = Running us
status_by (Some Committed) us = Waiting

abbrev pub status_at : Table Pending → ℕ → Status
status_at m t = status_by (state_at m t) (undos_at m t)

-- ---- the undos
abbrev pub is_left : Redoing → ℕ → Bool
is_left x t = is_some (state_at x.left t)

abbrev pub either : Bool → List Pending → List Pending → List Pending
either true us vs = us
either false us vs = vs

abbrev pub performed_in : Table Pending → Table Pending → ℕ → List Pending
performed_in left table t = either (is_some (state_at left t)) (undos_at left t) (undos_in (status_at table t))

abbrev pub performed : Redoing → ℕ → List Pending
performed x t = performed_in x.left x.table t

abbrev pub AreUndos : List Pending → Type 0
AreUndos us = AllByRecursion (λ p. IsUndo p.undo) us

abbrev pub MayUndo : Record → Type 0
MayUndo (Forward t b) = MayBeUndo b.undo
MayUndo _ = ⊤

-- ---- the tests
abbrev pub told_by : Table Pending → ℕ → Known
told_by m next = record { number = 0; next = next; statuses = λ t. status_at m t; audits = []; failed = false; restarted = false; first = 0; table = []; seen = [] }

abbrev pub told : Redoing → Known
told x = told_by x.table x.next

pub record Knows (x : Redoing) (k : Known) : Type 0 where
  pub next : x.next ≡ k.next
  pub statuses : (t : ℕ) → status_at x.table t ≡ k.statuses t

abbrev pub is_tested : Record → Bool
is_tested r = is_some (txn_of r)

abbrev pub breaks : Sizes → Known → Record → Bool
breaks s k r = is_tested r && not (allows s 0 k r)

abbrev pub is_of : ℕ → Record → Bool
is_of t r = any_txn (λ u. u == t) (txn_of r)

-- ---- a code
abbrev table_code : Coded (Table Pending)
table_code = map.code coded_ℕ (coded_row pending_row.coded)

abbrev Parts : Type 0
Parts = (ℕ × ℕ) × (List (List ℕ) × (Table Pending × (Table Pending × ℕ)))

abbrev pub redoing_code : Coded Redoing
redoing_code =
    code_by Parts (coded× (coded× coded_ℕ coded_ℕ) (coded× (coded_list (coded_list coded_ℕ)) (coded× table_code (coded× table_code coded_ℕ))))
    (λ x. ((x.sizes.index, x.sizes.heap), (x.image, (x.table, (x.left, x.next)))))
    (λ p. record { sizes = record { index = p.0.0; heap = p.0.1 }; image = p.1.0; table = p.1.1.0; left = p.1.1.1.0; next = p.1.1.1.1 })
    (λ _. refl)
