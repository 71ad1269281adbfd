-- What a restart tests of each record behind an image, beginning with what the image says: its record number, the next transaction's
-- number, and its table.
--     Status                   of a transaction: idle, running with an undo list, or committed and waiting for its Ended
--     Known                    what is known before the next record
--     known_at n next rows     behind the image
--     may_follow s n g r       r may be the next record, where n is the image's record number
--     known_next g r           what is known behind it
--     tests s n g Q            what is known behind the records Q, or None where one of them may not follow
--     first_bad s n g Q        the place of the first of them that may not
use Rattle.std.specs.Prelude.{ℕ, ◌+◌, ◌^◌, Bool, true, false, not, ◌&&◌, ◌||◌, List, [], ◌∷◌, ◌++◌, if◌then◌else◌, ◌==◌, nat_lt, nat_le, Option, Some, None, fold}
use Rattle.std.specs.List.{list_all}
use Rattle.dali_geometry.specs.Sizes.{Sizes}
use Rattle.dali_geometry.specs.Places.{regions}
use Rattle.dali_record.specs.declared.operations.Block.{Block}
use Rattle.dali_record.specs.declared.operations.Pending.{Pending}
use Rattle.dali_record.specs.declared.records.Record.{Record}
use Rattle.dali_record.specs.declared.records.Record.TheVariants.{Format, Begin, Forward, Done, Commit, Ended, Solo, AuditBegin, AuditClean, AuditFail, Restarted, Back}
use Rattle.dali_record.specs.Operations.{undo_op}
use Rattle.dali_record.specs.Log.{undo_step, last_of}
use Rattle.dali_record.specs.Epochs.{separates}
use Rattle.dali_record.specs.Damage.{has}
use Rattle.dali_record.specs.Legal.{is_of, is_none_left, on_kind}
use Rattle.dali_record.specs.Files.{Row, is_restarted}
use Rattle.dali_resume.specs.Resumed.{damage_from, scan, rolled_by, deleted_by}

pub data Status : Type 0 where
  Idle : Status
  Running : (undos : List Pending) → Status
  Waiting : Status

pub record Known : Type 0 where
  pub number : ℕ
  pub next : ℕ
  pub statuses : ℕ → Status
  -- the audits that were begun in this epoch, behind the image
  pub audits : List ℕ
  pub failed : Bool
  -- the last record is Restarted
  pub restarted : Bool
  -- of this epoch: the number of the first record that was read, the table before it, and the records
  pub first : ℕ
  pub table : List Row
  pub seen : List Record

abbrev pub status_in : List Row → ℕ → Status
status_in [] t = Idle
status_in (w ∷ ws) t = if w.txn == t then (if w.is_committed then Waiting else Running w.undos) else status_in ws t

abbrev pub known_at : ℕ → ℕ → List Row → Known
known_at n next rows = record { number = n; next = next; statuses = λ t. status_in rows t; audits = []; failed = false; restarted = false; first = n; table = rows; seen = [] }

-- ---- a transaction
abbrev pub is_running : Status → Bool
is_running (Running us) = true
is_running _ = false

abbrev pub is_waiting : Status → Bool
is_waiting Waiting = true
is_waiting _ = false

abbrev pub may_end : Status → Bool
may_end Idle = false
may_end (Running us) = is_none_left us
may_end Waiting = true

abbrev pub undoes_last : Block → Option Pending → Bool
undoes_last b None = false
undoes_last b (Some p) = is_of (undo_op p.undo) p b

abbrev pub may_take_back : Status → Block → Bool
may_take_back (Running us) b = undoes_last b (last_of us)
may_take_back _ b = false

abbrev pub idle_next : ℕ → Record → Status
idle_next t (Begin u) = if u == t then Running [] else Idle
idle_next t _ = Idle

abbrev pub running_next : ℕ → List Pending → Record → Status
running_next t us (Commit u) = if u == t then Waiting else Running us
running_next t us (Ended u) = if u == t then Idle else Running us
running_next t us (Restarted rs ds) = Idle
running_next t us r = Running (undo_step t us r)

abbrev pub waiting_next : ℕ → Record → Status
waiting_next t (Ended u) = if u == t then Idle else Waiting
waiting_next t (Restarted rs ds) = Idle
waiting_next t _ = Waiting

abbrev pub status_next : ℕ → Status → Record → Status
status_next t Idle r = idle_next t r
status_next t (Running us) r = running_next t us r
status_next t Waiting r = waiting_next t r

-- ---- a record
abbrev pub same_numbers : List ℕ → List ℕ → Bool
same_numbers [] [] = true
same_numbers [] (y ∷ ys) = false
same_numbers (x ∷ xs) [] = false
same_numbers (x ∷ xs) (y ∷ ys) = (x == y) && same_numbers xs ys

abbrev pub tells_lists : Known → List ℕ → List ℕ → Bool
tells_lists g rs ds = same_numbers rs (rolled_by g.table g.seen) && same_numbers ds (deleted_by g.table g.seen (scan (damage_from g.first g.seen) g.table g.seen))

-- its number is below 2^40 and at least the next one
abbrev pub draws_number : Known → ℕ → Bool
draws_number g t = nat_lt t (2 ^ 40) && nat_le g.next t

abbrev pub ends_audit : ℕ → Known → ℕ → Bool
ends_audit n g b = has g.audits b || nat_lt b n

abbrev pub allows : Sizes → ℕ → Known → Record → Bool
allows s n g (Format i h) = g.number == 0
allows s n g (Begin t) = draws_number g t
allows s n g (Forward t b) = is_running (g.statuses t) && on_kind s b.region b.op
allows s n g (Done t c a) = is_running (g.statuses t)
allows s n g (Back t b) = may_take_back (g.statuses t) b && on_kind s b.region b.op
allows s n g (Commit t) = is_running (g.statuses t)
allows s n g (Ended t) = may_end (g.statuses t)
allows s n g (Solo t p b) = draws_number g t && (is_waiting (g.statuses p) && on_kind s b.region b.op)
allows s n g AuditBegin = true
allows s n g (AuditClean b) = ends_audit n g b
allows s n g (AuditFail b rs) = ends_audit n g b && list_all (λ r. nat_lt r (regions s)) rs
-- the lists aren't tested at the image's place
allows s n g (Restarted rs ds) = not g.restarted && ((g.number == n) || tells_lists g rs ds)

-- behind a failed audit only Restarted may follow
abbrev pub may_follow : Sizes → ℕ → Known → Record → Bool
may_follow s n g r = allows s n g r && (not g.failed || is_restarted r)

abbrev pub next_behind : ℕ → Record → ℕ
next_behind m (Begin t) = t + 1
next_behind m (Solo t p b) = t + 1
next_behind m _ = m

abbrev pub audits_behind : ℕ → List ℕ → Record → List ℕ
audits_behind k bs AuditBegin = k ∷ bs
audits_behind k bs (Restarted rs ds) = []
audits_behind k bs _ = bs

abbrev pub failed_behind : Bool → Record → Bool
failed_behind f (AuditFail b rs) = true
failed_behind f (Restarted rs ds) = false
failed_behind f _ = f

abbrev pub known_next : Known → Record → Known
known_next g r = record {
  number = g.number + 1;
  next = next_behind g.next r;
  statuses = λ t. status_next t (g.statuses t) r;
  audits = audits_behind g.number g.audits r;
  failed = failed_behind g.failed r;
  restarted = is_restarted r;
  first = if separates r then g.number + 1 else g.first;
  table = if separates r then [] else g.table;
  seen = if separates r then [] else g.seen ++ r ∷ [];
}

abbrev pub test_next : Sizes → ℕ → Option Known → Record → Option Known
test_next s n None r = None
test_next s n (Some g) r = if may_follow s n g r then Some (known_next g r) else None

abbrev pub tests : Sizes → ℕ → Known → List Record → Option Known
tests s n g Q = fold (test_next s n) (Some g) Q

abbrev pub one_later : Option ℕ → Option ℕ
one_later None = None
one_later (Some i) = Some (i + 1)

abbrev pub first_bad : Sizes → ℕ → Known → List Record → Option ℕ
first_bad s n g [] = None
first_bad s n g (r ∷ Q) = let later = first_bad s n (known_next g r) Q in if may_follow s n g r then one_later later else Some 0
