-- The steps of one client: from where it stands, what it says, what it does, and where it stands then.
--     Receipt                  a deed with the number of records that stood before it: for a logged record its own number
--     Place, Spot              where a client stands;  with the commands that are left
--     Ending                   how a try that got Busy ended
--     Move                     the kinds of step
--     row x                    what such a step does
--     from x, said x, own x, to x     the columns of the row
use Rattle.std.specs.Prelude.{ℕ, ◌+◌, ◌-◌, Bool, true, false, ◌||◌, if◌then◌else◌, ◌==◌, List, [], ◌∷◌, ◌++◌, Option, Some, None, filter, length}
use Rattle.dali_record.specs.declared.records.Call.{Call}
use Rattle.dali_record.specs.declared.records.Answer.{Answer}
use Rattle.dali_record.specs.declared.records.Record.TheVariants.{Begin, Forward, Done, Commit, Ended, AuditBegin}
use Rattle.dali_runs.specs.declared.causes.Cause.{Cause}
use Rattle.dali_runs.specs.declared.refusals.Refusal.{Refusal}
use Rattle.dali_runs.specs.Steps.{audit_record}
use Rattle.dali_transcripts.specs.World.{Deed, Logs, Strays, DiesOn, Yields, StartsCheckpoint, MovesAnchor, EndsCheckpoint, Meets}
use Rattle.dali_transcripts.specs.Words.{Act, Begins as BeginAct, Calls, Arms, Commits as CommitAct, Aborts as AbortAct, Pokes as PokeAct, Audits as AuditAct, Checkpoints as CheckpointAct, Why, StoppedBy, StoreFailed, Said, Begun, Answered, CommitOk, AbortOk, Aborted, LeftOpen, Died, Busy, PokeOk, PokeOutOfRange, AuditSaid, CheckpointSaid, CheckpointFailed, Refused, is_stop, closes}

abbrev pub Receipt : Type 0
Receipt = ℕ × Deed

-- stopped: the client has printed that the engine or the store is stopped
pub data Place : Type 0 where
  Outside : (stopped : Bool) → Place
  -- in a transaction, of which so many tries got Busy; the commands from its begin on; and in which operation the client dies
  Within : (txn tries : ℕ) → (commands : List Act) → (deadly : Option ℕ) → (stopped : Bool) → Place
  -- so many tries got Busy, the last one from this holder
  Again : (tries holder : ℕ) → (stopped : Bool) → Place
  -- the begin was refused
  LeftOut : (stopped : Bool) → Place
  -- the client died in this transaction
  Gone : (txn : ℕ) → Place

pub record Spot : Type 0 where
  pub place : Place
  pub rest : List Act

abbrev pub at : Place → List Act → Spot
at place rest = record { place = place; rest = rest }

-- where a client begins
abbrev pub start : List Act → Spot
start acts = at (Outside false) acts

pub data Ending : Type 0 where
  -- by the Ended of this number
  TakenBack : (number : ℕ) → Ending
  -- the engine is stopped, as was met when so many records stood
  LeftBehind : (at : ℕ) → (cause : Cause) → Ending

pub data Move : Type 0 where
  Begins : (txn number : ℕ) → (rest : List Act) → Move
  BeginsAgain : (txn number tries holder : ℕ) → (rest : List Act) → Move
  IsRefusedBegin : (place : Place) → (stopped : Bool) → (at : ℕ) → (why : Why) → (rest : List Act) → Move
  Skips : (stopped : Bool) → (act : Act) → (rest : List Act) → Move
  Rests : (txn : ℕ) → (act : Act) → (rest : List Act) → Move
  Answers : (txn tries : ℕ) → (commands : List Act) → (deadly : Option ℕ) → (work : List Receipt) → (number : ℕ) → (call : Call) → (answer : Answer) → (rest : List Act) → Move
  -- what the call did before it was refused, and what it took back then
  IsRefusedCall : (txn tries : ℕ) → (commands : List Act) → (deadly : Option ℕ) → (stopped : Bool) → (work : List Receipt) → (at : ℕ) → (back : List Receipt) → (call : Call) → (why : Why) → (rest : List Act) → Move
  Dies : (txn tries : ℕ) → (commands : List Act) → (deadly : ℕ) → (work : List Receipt) → (at region : ℕ) → (call : Call) → (rest : List Act) → Move
  IsArmed : (txn tries : ℕ) → (commands : List Act) → (deadly : Option ℕ) → (stopped : Bool) → (operations : ℕ) → (rest : List Act) → Move
  -- what was done before the request was refused, and what was taken back then
  GivesWay : (txn tries : ℕ) → (commands : List Act) → (deadly : Option ℕ) → (work : List Receipt) → (call : Call) → (refusal : Refusal) → (back : List Receipt) → (end : Ending) → (rest : List Act) → Move
  GivesUp : (txn tries : ℕ) → (commands : List Act) → (deadly : Option ℕ) → (work : List Receipt) → (call : Call) → (refusal : Refusal) → (back : List Receipt) → (end : Ending) → (rest : List Act) → Move
  Commits : (txn tries : ℕ) → (commands : List Act) → (deadly : Option ℕ) → (number : ℕ) → (behind : List Receipt) → (rest : List Act) → Move
  -- its own flush fails, or it meets the stop behind that of another client
  CommitFails : (txn tries : ℕ) → (commands : List Act) → (deadly : Option ℕ) → (number at : ℕ) → (why : Why) → (rest : List Act) → Move
  IsRefusedCommit : (txn tries : ℕ) → (commands : List Act) → (deadly : Option ℕ) → (stopped : Bool) → (at : ℕ) → (why : Why) → (rest : List Act) → Move
  Aborts : (txn tries : ℕ) → (commands : List Act) → (deadly : Option ℕ) → (work : List Receipt) → (number : ℕ) → (rest : List Act) → Move
  IsRefusedAbort : (txn tries : ℕ) → (commands : List Act) → (deadly : Option ℕ) → (stopped : Bool) → (work : List Receipt) → (at : ℕ) → (why : Why) → (rest : List Act) → Move
  -- at the end of the block
  Ends : (txn tries : ℕ) → (commands : List Act) → (deadly : Option ℕ) → (work : List Receipt) → (number : ℕ) → Move
  StaysOpen : (txn tries : ℕ) → (commands : List Act) → (deadly : Option ℕ) → (stopped : Bool) → (work : List Receipt) → (at : ℕ) → (cause : Cause) → Move
  Pokes : (stopped : Bool) → (at region word mask : ℕ) → (rest : List Act) → Move
  PokesNothing : (stopped : Bool) → (region word mask : ℕ) → (rest : List Act) → Move
  -- failed: its own flush fails, where that of another client had its end
  Audits : (begin number : ℕ) → (regions : List ℕ) → (failed : Option ℕ) → (rest : List Act) → Move
  IsRefusedAudit : (stopped : Bool) → (work : List Receipt) → (at : ℕ) → (why : Why) → (rest : List Act) → Move
  -- how many records stood when it started, when the anchor moved, and when it ended
  Checkpoints : (since begin number turned until current : ℕ) → (rest : List Act) → Move
  FailsCheckpoint : (since begin number until region : ℕ) → (regions : List ℕ) → (failed : Option ℕ) → (rest : List Act) → Move
  -- span: where it started and ended, if it started; late: it was refused behind its end
  IsRefusedCheckpoint : (stopped : Bool) → (span : Option (ℕ × ℕ)) → (late : Bool) → (work : List Receipt) → (at : ℕ) → (why : Why) → (rest : List Act) → Move

-- ---- pieces of a row
-- the operations of t among some records
abbrev pub is_operation : ℕ → Receipt → Bool
is_operation t (n, Logs (Forward u b)) = u == t
is_operation t x = false

abbrev pub operations : ℕ → List Receipt → ℕ
operations t work = length (filter (is_operation t) work)

-- how many operations are left, after so many
abbrev pub left : Option ℕ → ℕ → Option ℕ
left None count = None
left (Some deadly) count = Some (deadly - count)

-- behind the end of the transaction
abbrev pub behind_close : List Act → List Act
behind_close [] = []
behind_close (act ∷ rest) = if closes act then rest else behind_close rest

-- a transaction was taken back, or left open
abbrev pub end_line : Ending → Said
end_line (TakenBack n) = Aborted
end_line (LeftBehind n cause) = LeftOpen

abbrev pub end_own : ℕ → Ending → List Receipt
end_own t (TakenBack n) = (n, Logs (Ended t)) ∷ []
end_own t (LeftBehind n cause) = (n, Meets (StoppedBy cause)) ∷ []

abbrev pub is_open : Ending → Bool
is_open (TakenBack n) = false
is_open (LeftBehind n cause) = true

abbrev pub skipped : Bool → Act → Place
skipped stopped act = if closes act then Outside stopped else LeftOut stopped

abbrev pub audit_own : ℕ → ℕ → List ℕ → List Receipt
audit_own begin n regions = (begin, Logs AuditBegin) ∷ (n, Logs (audit_record begin regions)) ∷ []

-- its own flush fails when so many records stand
abbrev pub failure_own : Option ℕ → List Receipt
failure_own None = []
failure_own (Some n) = (n, Meets StoreFailed) ∷ []

-- a checkpoint from its start to its end
abbrev pub spanned : Option (ℕ × ℕ) → List Receipt → List Receipt
spanned None xs = xs
spanned (Some (since, until)) xs = (since, StartsCheckpoint) ∷ xs ++ (until, EndsCheckpoint) ∷ []

abbrev pub refused_own : Bool → Option (ℕ × ℕ) → List Receipt → Receipt → List Receipt
refused_own false span work x = spanned span (work ++ x ∷ [])
refused_own true span work x = spanned span work ++ x ∷ []

-- ---- the table
pub record Row : Type 0 where
  pub from : Spot
  pub said : List Said
  pub own : List Receipt
  pub to : Spot

abbrev pub gives : Spot → List Said → List Receipt → Spot → Row
gives from said own to = record { from = from; said = said; own = own; to = to }

abbrev pub row : Move → Row
row (Begins t n rest) =
    gives (at (Outside false) (BeginAct ∷ rest)) (Begun t ∷ []) ((n, Logs (Begin t)) ∷ []) (at (Within t 0 (BeginAct ∷ rest) None false) rest)
row (BeginsAgain t n tries h rest) =
    gives (at (Again tries h false) (BeginAct ∷ rest)) (Begun t ∷ []) ((n, Logs (Begin t)) ∷ []) (at (Within t tries (BeginAct ∷ rest) None false) rest)
row (IsRefusedBegin place s n why rest) =
    gives (at place (BeginAct ∷ rest)) (Refused BeginAct why ∷ []) ((n, Meets why) ∷ []) (at (LeftOut (s || is_stop why)) rest)
row (Skips s act rest) =
    gives (at (LeftOut s) (act ∷ rest)) [] [] (at (skipped s act) rest)
row (Rests t act rest) =
    gives (at (Gone t) (act ∷ rest)) [] [] (at (Gone t) rest)
row (Answers t tries cs d work n call a rest) =
    gives (at (Within t tries cs d false) (Calls call ∷ rest)) (Answered call a ∷ []) (work ++ (n, Logs (Done t call a)) ∷ []) (at (Within t tries cs (left d (operations t work)) false) rest)
row (IsRefusedCall t tries cs d s work n back call why rest) =
    gives (at (Within t tries cs d s) (Calls call ∷ rest)) (Refused (Calls call) why ∷ []) (work ++ (n, Meets why) ∷ back) (at (Within t tries cs (left d (operations t work)) (s || is_stop why)) rest)
row (Dies t tries cs d work n r call rest) =
    gives (at (Within t tries cs (Some d) false) (Calls call ∷ rest)) (Died ∷ []) (work ++ (n, DiesOn t r) ∷ []) (at (Gone t) rest)
row (IsArmed t tries cs d s count rest) =
    gives (at (Within t tries cs d s) (Arms count ∷ rest)) [] [] (at (Within t tries cs (Some count) s) rest)
row (GivesWay t tries cs d work call f back end rest) =
    gives (at (Within t tries cs d false) (Calls call ∷ rest)) (end_line end ∷ []) (work ++ (f.at, Yields f) ∷ back ++ end_own t end) (at (Again (tries + 1) f.holder (is_open end)) cs)
row (GivesUp t tries cs d work call f back end rest) =
    gives (at (Within t tries cs d false) (Calls call ∷ rest)) (Busy f.holder ∷ end_line end ∷ []) (work ++ (f.at, Yields f) ∷ back ++ end_own t end) (at (Outside (is_open end)) (behind_close rest))
row (Commits t tries cs d n behind rest) =
    gives (at (Within t tries cs d false) (CommitAct ∷ rest)) (CommitOk ∷ []) ((n, Logs (Commit t)) ∷ behind) (at (Outside false) rest)
row (CommitFails t tries cs d n m why rest) =
    gives (at (Within t tries cs d false) (CommitAct ∷ rest)) (Refused CommitAct StoreFailed ∷ []) ((n, Logs (Commit t)) ∷ (m, Meets why) ∷ []) (at (Outside true) rest)
row (IsRefusedCommit t tries cs d s n why rest) =
    gives (at (Within t tries cs d s) (CommitAct ∷ rest)) (Refused CommitAct why ∷ []) ((n, Meets why) ∷ []) (at (Outside true) rest)
row (Aborts t tries cs d work n rest) =
    gives (at (Within t tries cs d false) (AbortAct ∷ rest)) (AbortOk ∷ []) (work ++ (n, Logs (Ended t)) ∷ []) (at (Outside false) rest)
row (IsRefusedAbort t tries cs d s work n why rest) =
    gives (at (Within t tries cs d s) (AbortAct ∷ rest)) (Refused AbortAct why ∷ []) (work ++ (n, Meets why) ∷ []) (at (Outside true) rest)
row (Ends t tries cs d work n) =
    gives (at (Within t tries cs d false) []) (Aborted ∷ []) (work ++ (n, Logs (Ended t)) ∷ []) (at (Outside false) [])
row (StaysOpen t tries cs d s work n cause) =
    gives (at (Within t tries cs d s) []) (LeftOpen ∷ []) (work ++ (n, Meets (StoppedBy cause)) ∷ []) (at (Outside true) [])
row (Pokes s n r w m rest) =
    gives (at (Outside s) (PokeAct r w m ∷ rest)) (PokeOk ∷ []) ((n, Strays r w m) ∷ []) (at (Outside s) rest)
row (PokesNothing s r w m rest) =
    gives (at (Outside s) (PokeAct r w m ∷ rest)) (PokeOutOfRange ∷ []) [] (at (Outside s) rest)
row (Audits b n rs failed rest) =
    gives (at (Outside false) (AuditAct ∷ rest)) (AuditSaid rs ∷ []) (audit_own b n rs ++ failure_own failed) (at (Outside false) rest)
row (IsRefusedAudit s work n why rest) =
    gives (at (Outside s) (AuditAct ∷ rest)) (Refused AuditAct why ∷ []) (work ++ (n, Meets why) ∷ []) (at (Outside (s || is_stop why)) rest)
row (Checkpoints since b n m until current rest) =
    gives (at (Outside false) (CheckpointAct ∷ rest)) (CheckpointSaid current ∷ []) (spanned (Some (since, until)) (audit_own b n [] ++ (m, MovesAnchor current) ∷ [])) (at (Outside false) rest)
row (FailsCheckpoint since b n until r rs failed rest) =
    gives (at (Outside false) (CheckpointAct ∷ rest)) (CheckpointFailed (r ∷ rs) ∷ []) (spanned (Some (since, until)) (audit_own b n (r ∷ rs) ++ failure_own failed)) (at (Outside false) rest)
row (IsRefusedCheckpoint s span late work n why rest) =
    gives (at (Outside s) (CheckpointAct ∷ rest)) (Refused CheckpointAct why ∷ []) (refused_own late span work (n, Meets why)) (at (Outside (s || is_stop why)) rest)

abbrev pub from : Move → Spot
from x = (row x).from

abbrev pub said : Move → List Said
said x = (row x).said

abbrev pub own : Move → List Receipt
own x = (row x).own

abbrev pub to : Move → Spot
to x = (row x).to
