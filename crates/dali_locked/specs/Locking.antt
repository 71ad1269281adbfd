-- What a call through the locks leaves of what its client knows, and what it tells.
--     Begins S T          the history T begins with S
--     HasGrown x z        z is the client x, and has seen all that x had
--     StaysIdle b x z     no checkpoint of it is under way where none was
--     StaysOpen b x z     its audits are open that were
--     Advances b x z      all of these
--     KeepsAll b x z      and it has the transactions that it had, each where it stood
--     KeepsBut b x u z    so it is but of u
--     HasAtMost n         the log that was seen has at most n records
--     IsCauseOf q e       the step was refused for the cause q, or want of memory where there is none: by e
--     HasMetWhy b why x z the client x met this, told it, and is z behind it
--     HasMet b e x z      so it did of the error e; or nothing was told, of want of memory
--     ClientBegins b      a client that has done nothing has no transaction, no claim and no checkpoint
--     SeenStays b         what a client has seen of the log, and of passes, each one knows that has seen as much
--     NumbersAscend b     a record that is told is above those that were seen before
--     PassesAreKnown b    an audit is told right by who has seen each of its passes
use Rattle.std.specs.Prelude.{◌≡◌, ◌<◌, ◌≤◌, ℕ, Bool, true, false, not, List, [], ◌++◌, Option, Some, None, length, slice_get}
use Rattle.dali_record.specs.declared.records.Record.{Record}
use Rattle.dali_runs.specs.declared.causes.Cause.{Cause}
use Rattle.dali_system.specs.declared.error.SystemError.{SystemError}
use Rattle.dali_system.specs.declared.error.SystemError.TheVariants.{Stopped, LogFull, OutOfMemory}
use Rattle.dali_transcripts.specs.Words.{Why, StoppedBy, Full}
use Rattle.dali_transcripts.specs.World.{Meets}
use Rattle.dali_audit.specs.declared.audit.Finding.{Finding}
use Rattle.dali_audit.specs.Findings.{is_passed, is_damaged}
use Rattle.dali_concurrent.specs.Entries.{Did}
use Rattle.dali_concurrent.specs.Rules.{Outset, count_of, log_by}
use Rattle.dali_concurrent.specs.Told.{Leaves, History, plain}
use Rattle.dali_locked.specs.Begun.{Begun, FromEach, outset}
use Rattle.dali_locked.specs.Sights.{ClientSight, SystemSight, Knows, HasLogged}
use Rattle.dali_locked.specs.SystemSteps.{Keeps, StaysAll, StaysBut, HasJust, NotChecking, Auditing, PassesTold, BothTell}
use Rattle.dali_locked.specs.Regions.{HasPassed}

abbrev pub Begins : History → History → Type 0
Begins S T = (rest : History) × (T ≡ S ++ rest)

pub record HasGrown (x z : ClientSight) : Type 0 where
  pub id : z.id ≡ x.id
  pub seen : Begins x.seen z.seen

abbrev pub StaysIdle : Begun → (x z : ClientSight) → Type 0
StaysIdle b x z = Knows b (NotChecking x.id) x → Knows b (NotChecking x.id) z

abbrev pub StaysOpen : Begun → (x z : ClientSight) → Type 0
StaysOpen b x z = (a : ℕ) → Knows b (Auditing x.id a) x → Knows b (Auditing x.id a) z

abbrev pub Advances : Begun → (x z : ClientSight) → Type 0
Advances b x z = HasGrown x z × StaysIdle b x z × StaysOpen b x z

abbrev pub KeepsAll : Begun → (x z : ClientSight) → Type 0
KeepsAll b x z = Advances b x z × Keeps b x z × StaysAll b x z

abbrev pub KeepsBut : Begun → (x : ClientSight) → ℕ → (z : ClientSight) → Type 0
KeepsBut b x u z = Advances b x z × Keeps b x z × StaysBut b x u z

abbrev pub NoRound : Begun → Type 0
NoRound b = FromEach b (λ s p. ⊥)

-- ---- records ascend
abbrev pub HasAtMost : ℕ → Outset → History → Type 0
HasAtMost n o T = length (log_by o (plain T)) ≤ n

-- ---- refusals
abbrev pub IsCauseOf : Option SystemError → SystemError → Type 0
IsCauseOf None e = e ≡ OutOfMemory
IsCauseOf (Some cause) e = e ≡ cause

abbrev pub HasMetWhy : Begun → Why → (x z : ClientSight) → Type 0
HasMetWhy b why x z = (y : SystemSight) × (w : SystemSight) × BothTell b x y (Did (Meets why) x.id, Leaves, []) z w

abbrev pub HasMet : Begun → SystemError → (x z : ClientSight) → Type 0
HasMet b (Stopped cause) x z = HasMetWhy b (StoppedBy cause) x z
HasMet b (LogFull end limit) x z = HasMetWhy b (Full end limit) x z
HasMet b OutOfMemory x z = z ≡ x

abbrev pub HasMetCause : Begun → Option Cause → (x z : ClientSight) → Type 0
HasMetCause b None x z = z ≡ x
HasMetCause b (Some cause) x z = HasMetWhy b (StoppedBy cause) x z

-- ---- laws
abbrev pub ClientBegins : Begun → Type 0
ClientBegins b = (x : ClientSight) → x.seen ≡ [] → Knows b (HasJust x.id None None) x × Knows b (NotChecking x.id) x

pub record StaysSeen (b : Begun) (x z : ClientSight) : Type 0 where
  pub passed : (r a : ℕ) (right : Bool) → Knows b (HasPassed r a right) x → Knows b (HasPassed r a right) z
  pub logged : (n : ℕ) (y : Record) → Knows b (HasLogged n y) x → Knows b (HasLogged n y) z

abbrev pub SeenStays : Begun → Type 0
SeenStays b = (x z : ClientSight) → Begins x.seen z.seen → StaysSeen b x z

abbrev pub NumbersAscend : Begun → Type 0
NumbersAscend b = (x : ClientSight) (n m : ℕ) (y : Record) → Knows b (HasLogged n y) x → Knows b (HasAtMost m) x → FromEach b (λ s p. n < m)

abbrev pub PassesAreKnown : Begun → Type 0
PassesAreKnown b =
    (x : ClientSight) (a : ℕ) (fs : List Finding) → FromEach b (λ s p. length fs ≡ count_of (outset b s p))
    → ((r : ℕ) (f : Finding) → slice_get fs r ≡ Some f → is_passed f ≡ true → Knows b (HasPassed r a (not (is_damaged f))) x)
    → Knows b (PassesTold a fs) x
