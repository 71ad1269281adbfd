-- The rules that a log keeps.
--     TxnState                 where a transaction stands
--     txn_step s t x r         where t stands after the record r, or None where r isn't allowed there
--     txn_state s t L          where t stands after L, or None where some record of L wasn't allowed
--     Rules                    what the rules on numbers, lengths, audits and restarts look at
--     rules_step s g r, rules_state s L      the same for these
--     TellsScan L              each Restarted names the transactions that were rolled back and deleted in its epoch
--     ReadsWords L             each block reads some word
--     IsLegal L                the log keeps all of them
use Rattle.std.specs.Prelude.{◌≡◌, ℕ, ◌+◌, Bool, true, false, not, ◌&&◌, ◌||◌, List, [], ◌∷◌, ◌++◌, if◌then◌else◌, ◌==◌, nat_lt, nat_le, Option, Some, None, IsSome, fold, filter, take, length, bytes_eq, slice_get}
use Rattle.std.specs.List.{list_all}
use Rattle.dali_geometry.specs.Sizes.{Sizes}
use Rattle.dali_geometry.specs.Places.{regions, is_index, is_heap}
use Rattle.dali_record.specs.declared.operations.Op.{Op}
use Rattle.dali_record.specs.declared.operations.Op.TheVariants.{Look, Add, KillEntry, FreeCell, ReviveCell, Restore, FreeEntry, ReviveEntry}
use Rattle.dali_record.specs.declared.operations.Undo.{Undo}
use Rattle.dali_record.specs.declared.operations.Undo.TheVariants.{ReviveCell as UndoReviveCell, ReviveEntry as UndoReviveEntry}
use Rattle.dali_record.specs.declared.operations.Block.{Block}
use Rattle.dali_record.specs.declared.operations.Pending.{Pending}
use Rattle.dali_record.specs.declared.records.Call.{Call}
use Rattle.dali_record.specs.declared.records.Answer.{Answer}
use Rattle.dali_record.specs.declared.records.Record.{Record}
use Rattle.dali_record.specs.declared.records.Record.TheVariants.{Format, Begin, Forward, Done, Commit, Ended, Solo, AuditBegin, AuditClean, AuditFail, Restarted, Back}
use Rattle.dali_record.specs.Operations.{undo_op}
use Rattle.dali_record.specs.Log.{Touch, touch_at, drop_last, last_of, undo_added}
use Rattle.dali_record.specs.Epochs.{last_epoch}
use Rattle.dali_record.specs.Damage.{has, rolled_list, deleted_list}
use Rattle.dali_record.specs.Spelling.{record_length}
use Rattle.dali_record.specs.Calls.{Progress, Fresh, follow, answers, takes_back}

-- ---- one transaction
-- whether the present call takes its changes back, or the transaction those of calls that were answered
pub data Way : Type 0 where
  Onward : Way
  TakingBack : Way
  Unwinding : Way

pub record Working : Type 0 where
  pub undos : List Pending
  -- how many of them stood there when the present call began
  pub mark : ℕ
  pub progress : Progress
  pub way : Way

pub data TxnState : Type 0 where
  Unbegun : TxnState
  Active : (working : Working) → TxnState
  -- the removals that no solo has freed yet
  Committed : (dead : List Pending) → TxnState
  Over : TxnState

abbrev pub is_onward : Way → Bool
is_onward Onward = true
is_onward _ = false

abbrev pub is_unwinding : Way → Bool
is_unwinding Unwinding = true
is_unwinding _ = false

-- the present call has no change that stands
abbrev pub is_level : Working → Bool
is_level w = (length w.undos == w.mark) && not (is_unwinding w.way)

-- an operation of the present call
abbrev pub goes_on : Working → Block → Option Progress → Option TxnState
goes_on w b None = None
goes_on w b (Some p) = Some (Active (record { undos = w.undos ++ undo_added b b.undo; mark = w.mark; progress = p; way = Onward }))

-- the first operation of a call
abbrev pub starts : Working → Block → Option Progress → Option TxnState
starts w b None = None
starts w b (Some p) = Some (Active (record { undos = w.undos ++ undo_added b b.undo; mark = length w.undos; progress = p; way = Onward }))

abbrev pub either_state : Option TxnState → Option TxnState → Option TxnState
either_state None o = o
either_state (Some x) o = Some x

abbrev pub allowed : Bool → Option TxnState → Option TxnState
allowed false o = None
allowed true o = o

abbrev pub forward : Sizes → ℕ → Working → Block → Option TxnState
forward s t w b =
    either_state (allowed (is_onward w.way) (goes_on w b (follow s t w.progress b)))
    (allowed (is_level w) (starts w b (follow s t Fresh b)))

-- ---- taking back
abbrev pub same_op : Op → Op → Bool
same_op (FreeCell c) (FreeCell d) = c == d
same_op (ReviveCell c) (ReviveCell d) = c == d
same_op (Restore c n vs) (Restore d m ws) = (c == d) && (n == m) && bytes_eq vs ws
same_op (FreeEntry e) (FreeEntry f) = e == f
same_op (ReviveEntry e) (ReviveEntry f) = e == f
same_op _ _ = false

abbrev pub is_of : Op → Pending → Block → Bool
is_of op p b = (b.key == p.key) && (b.region == p.region) && same_op b.op op

abbrev pub way_back : Working → Way
way_back w = if nat_lt w.mark (length w.undos) then TakingBack else Unwinding

abbrev pub back : Working → Block → Option Pending → Option TxnState
back w b None = None
back w b (Some p) = allowed (is_of (undo_op p.undo) p b) (Some (Active (record { undos = drop_last w.undos; mark = w.mark; progress = w.progress; way = way_back w })))

-- ---- the end of a call, and of the transaction
abbrev pub is_answer : Sizes → Working → Call → Answer → Bool
is_answer s w c a = answers s w.progress c a && (if takes_back a then is_level w else is_onward w.way)

abbrev pub rested : Working → TxnState
rested w = Active (record { undos = w.undos; mark = length w.undos; progress = Fresh; way = Onward })

abbrev pub is_removal : Undo → Bool
is_removal (UndoReviveCell c) = true
is_removal (UndoReviveEntry e) = true
is_removal _ = false

abbrev pub dead_of : List Pending → List Pending
dead_of us = filter (λ p. is_removal p.undo) us

-- what frees for good what was removed
abbrev pub freeing_op : Undo → Op
freeing_op (UndoReviveCell c) = FreeCell c
freeing_op (UndoReviveEntry e) = FreeEntry e
freeing_op u = undo_op u

abbrev pub freed : Block → List Pending → Option TxnState
freed b [] = None
freed b (p ∷ ps) = allowed (is_of (freeing_op p.undo) p b) (Some (Committed ps))

abbrev pub is_none_left : List Pending → Bool
is_none_left [] = true
is_none_left (p ∷ ps) = false

-- ---- a record of t, and one that ends all transactions
abbrev pub unbegun_step : ℕ → Record → Option TxnState
unbegun_step t (Begin u) = Some (if u == t then Active (record { undos = []; mark = 0; progress = Fresh; way = Onward }) else Unbegun)
unbegun_step t (Forward u b) = allowed (not (u == t)) (Some Unbegun)
unbegun_step t (Back u b) = allowed (not (u == t)) (Some Unbegun)
unbegun_step t (Done u c a) = allowed (not (u == t)) (Some Unbegun)
unbegun_step t (Commit u) = allowed (not (u == t)) (Some Unbegun)
unbegun_step t (Ended u) = allowed (not (u == t)) (Some Unbegun)
unbegun_step t (Solo u p b) = if u == t then allowed (not (p == t)) (Some Over) else allowed (not (p == t)) (Some Unbegun)
unbegun_step t _ = Some Unbegun

abbrev pub active_step : Sizes → ℕ → Working → Record → Option TxnState
active_step s t w (Begin u) = allowed (not (u == t)) (Some (Active w))
active_step s t w (Forward u b) = if u == t then forward s t w b else Some (Active w)
active_step s t w (Back u b) = if u == t then back w b (last_of w.undos) else Some (Active w)
active_step s t w (Done u c a) = if u == t then allowed (is_answer s w c a) (Some (rested w)) else Some (Active w)
active_step s t w (Commit u) = if u == t then allowed (is_level w) (Some (Committed (dead_of w.undos))) else Some (Active w)
active_step s t w (Ended u) = if u == t then allowed (is_none_left w.undos) (Some Over) else Some (Active w)
active_step s t w (Solo u p b) = allowed (not (u == t) && not (p == t)) (Some (Active w))
active_step s t w (Restarted rs ds) = Some Over
active_step s t w _ = Some (Active w)

abbrev pub committed_step : ℕ → List Pending → Record → Option TxnState
committed_step t ps (Begin u) = allowed (not (u == t)) (Some (Committed ps))
committed_step t ps (Forward u b) = allowed (not (u == t)) (Some (Committed ps))
committed_step t ps (Back u b) = allowed (not (u == t)) (Some (Committed ps))
committed_step t ps (Done u c a) = allowed (not (u == t)) (Some (Committed ps))
committed_step t ps (Commit u) = allowed (not (u == t)) (Some (Committed ps))
committed_step t ps (Ended u) = if u == t then allowed (is_none_left ps) (Some Over) else Some (Committed ps)
committed_step t ps (Solo u p b) = allowed (not (u == t)) (if p == t then freed b ps else Some (Committed ps))
committed_step t ps (Restarted rs ds) = Some Over
committed_step t ps _ = Some (Committed ps)

abbrev pub over_step : ℕ → Record → Option TxnState
over_step t (Begin u) = allowed (not (u == t)) (Some Over)
over_step t (Forward u b) = allowed (not (u == t)) (Some Over)
over_step t (Back u b) = allowed (not (u == t)) (Some Over)
over_step t (Done u c a) = allowed (not (u == t)) (Some Over)
over_step t (Commit u) = allowed (not (u == t)) (Some Over)
over_step t (Ended u) = allowed (not (u == t)) (Some Over)
over_step t (Solo u p b) = allowed (not (u == t) && not (p == t)) (Some Over)
over_step t _ = Some Over

abbrev pub txn_step : Sizes → ℕ → TxnState → Record → Option TxnState
txn_step s t Unbegun r = unbegun_step t r
txn_step s t (Active w) r = active_step s t w r
txn_step s t (Committed ps) r = committed_step t ps r
txn_step s t Over r = over_step t r

abbrev pub txn_next : Sizes → ℕ → Option TxnState → Record → Option TxnState
txn_next s t None r = None
txn_next s t (Some x) r = txn_step s t x r

abbrev pub txn_state : Sizes → ℕ → List Record → Option TxnState
txn_state s t L = fold (txn_next s t) (Some Unbegun) L

-- whether the record may move t
abbrev pub concerns : ℕ → Record → Bool
concerns t (Begin u) = u == t
concerns t (Forward u b) = u == t
concerns t (Back u b) = u == t
concerns t (Done u c a) = u == t
concerns t (Commit u) = u == t
concerns t (Ended u) = u == t
concerns t (Solo u p b) = (u == t) || (p == t)
concerns t (Restarted rs ds) = true
concerns t _ = false

-- ---- the rules on the whole log
pub record Rules : Type 0 where
  pub count : ℕ
  -- the sum of the lengths of the records
  pub weight : ℕ
  -- the number of the next transaction
  pub next : ℕ
  -- the audits that were begun in this epoch, and those among them that were ended
  pub audits : List ℕ
  pub closed : List ℕ
  -- an audit of this epoch failed
  pub failed : Bool
  -- the last record is Restarted
  pub restarted : Bool

abbrev pub rules_start : Rules
rules_start = record { count = 0; weight = 0; next = 1; audits = []; closed = []; failed = false; restarted = false }

-- the greatest sum of lengths behind a record that uses room
abbrev pub room : ℕ
room = 269484032

abbrev pub passes : Rules → Record → Rules
passes g r = record { count = g.count + 1; weight = g.weight + record_length r; next = g.next; audits = g.audits; closed = g.closed; failed = g.failed; restarted = false }

abbrev pub has_room : Rules → Record → Bool
has_room g r = nat_le (g.weight + record_length r) room

-- the operation is on a region of its kind
abbrev pub on_kind : Sizes → ℕ → Op → Bool
on_kind s r Look = is_index s r
on_kind s r (Add p) = is_index s r
on_kind s r (KillEntry e) = is_index s r
on_kind s r (FreeEntry e) = is_index s r
on_kind s r (ReviveEntry e) = is_index s r
on_kind s r _ = is_heap s r

abbrev pub kept_if : Bool → Rules → Option Rules
kept_if false g = None
kept_if true g = Some g

-- a record behind the first, in an epoch without a failed audit
abbrev pub runs : Sizes → Rules → Record → Option Rules
runs s g (Format i h) = None
runs s g (Begin t) = let p = passes g (Begin t) in kept_if ((t == g.next) && has_room g (Begin t)) (record p { next = g.next + 1 })
runs s g (Forward t b) = kept_if (on_kind s b.region b.op && has_room g (Forward t b)) (passes g (Forward t b))
runs s g (Back t b) = kept_if (on_kind s b.region b.op) (passes g (Back t b))
runs s g (Done t c a) = kept_if (has_room g (Done t c a)) (passes g (Done t c a))
runs s g (Commit t) = Some (passes g (Commit t))
runs s g (Ended t) = Some (passes g (Ended t))
runs s g (Solo t p b) = let q = passes g (Solo t p b) in kept_if ((t == g.next) && on_kind s b.region b.op) (record q { next = g.next + 1 })
runs s g AuditBegin = let p = passes g AuditBegin in kept_if (has_room g AuditBegin) (record p { audits = g.count ∷ g.audits })
runs s g (AuditClean b) = let p = passes g (AuditClean b) in kept_if (has g.audits b && not (has g.closed b)) (record p { closed = b ∷ g.closed })
runs s g (AuditFail b rs) = let p = passes g (AuditFail b rs) in kept_if (has g.audits b && not (has g.closed b) && list_all (λ r. nat_lt r (regions s)) rs) (record p { closed = b ∷ g.closed; failed = true })
runs s g (Restarted rs ds) = None

abbrev pub restarts : Rules → Record → Rules
restarts g r = record { count = g.count + 1; weight = g.weight + record_length r; next = g.next; audits = []; closed = []; failed = false; restarted = true }

abbrev pub rules_behind : Sizes → Rules → Record → Option Rules
rules_behind s g (Restarted rs ds) = kept_if (not g.restarted) (restarts g (Restarted rs ds))
rules_behind s g r = if g.failed then None else runs s g r

abbrev pub rules_first : Sizes → Rules → Record → Option Rules
rules_first s g (Format i h) = kept_if ((i == s.index) && (h == s.heap)) (passes g (Format i h))
rules_first s g r = None

abbrev pub rules_step : Sizes → Rules → Record → Option Rules
rules_step s g r = if g.count == 0 then rules_first s g r else rules_behind s g r

abbrev pub rules_next : Sizes → Option Rules → Record → Option Rules
rules_next s None r = None
rules_next s (Some g) r = rules_step s g r

abbrev pub rules_state : Sizes → List Record → Option Rules
rules_state s L = fold (rules_next s) (Some rules_start) L

-- ---- all of them
abbrev pub sizes_of : List Record → Sizes
sizes_of [] = record { index = 0; heap = 0 }
sizes_of (Format i h ∷ L) = record { index = i; heap = h }
sizes_of (r ∷ L) = record { index = 0; heap = 0 }

abbrev pub TellsScan : List Record → Type 0
TellsScan L = (n : ℕ) (rs ds : List ℕ) → slice_get L n ≡ Some (Restarted rs ds) → (rs ≡ rolled_list (last_epoch (take n L))) × (ds ≡ deleted_list (last_epoch (take n L)))

-- each block reads some word, as every operation does
abbrev pub ReadsWords : List Record → Type 0
ReadsWords L = (i : ℕ) (a : Touch) → touch_at L i ≡ Some a → not (a.block.read == 0) ≡ true

pub record IsLegalFor (s : Sizes) (L : List Record) : Type 0 where
  pub rules : IsSome (rules_state s L)
  pub txns : (t : ℕ) → IsSome (txn_state s t L)
  pub scans : TellsScan L
  pub reads : ReadsWords L

abbrev pub IsLegal : List Record → Type 0
IsLegal L = IsLegalFor (sizes_of L) L
