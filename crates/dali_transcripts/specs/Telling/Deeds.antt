-- The deeds of a client that tell the steps which it makes of a core.
--     HasLookedFor w c x       with precheck the client c has looked, where the deed x needs a look
--     BeganHere w b            the audit that began at record b is one of the round
--     refusal_at y t k m h, refusal_now c t k m h      the refusal that a system, and so its core, keeps of a request
--     TellsStep y x ds         the deeds ds tell the step x of a core that has the system y, in whatever world
--     AreOfCore w c p x ds     so they do at the point p, behind the world w, and the client c may do them there
--     AreOf w c p x ds         they tell the step x of a core with its store, which the client c makes
use Rattle.std.specs.Prelude.{◌≡◌, ◌⊎◌, ℕ, ◌+◌, ◌≤◌, true, List, [], ◌∷◌, Some, None, length}
use Rattle.dali_record.specs.declared.records.Record.TheVariants.{Begin, Forward, Back, Solo, Done, Commit, Ended, AuditBegin}
use Rattle.dali_locks.specs.declared.mode.Mode.{Mode}
use Rattle.dali_runs.specs.declared.refusals.Refusal.{Refusal}
use Rattle.dali_runs.specs.State.{SystemState, CoreState}
use Rattle.dali_runs.specs.Steps.{audit_record}
use Rattle.dali_runs.specs.Regions.{Poke}
use Rattle.dali_runs.specs.Courses.{Step, Begins, Operates, TakesBack, Frees, Answers, Commits, Ends, AuditBegins, AuditEnds, Locks, Refuses, OnRegion, Dies, Claims, GivesBack, Faults, ReadFails}
use Rattle.dali_crash.specs.Checkpoints.{StoreStep, Does, Starts, Turns, CopyFails, HeadFails, SyncFails, TurnFails, Finishes, Point}
use Rattle.dali_transcripts.specs.Words.{StoreFailed}
use Rattle.dali_transcripts.specs.Together.{RightBy}
use Rattle.dali_transcripts.specs.World.{Deed, Logs, Strays, DiesOn, Claims as ClaimsTxn, GivesBack as GivesTxnBack, GetsLock, Yields, FindsDead, StartsCheckpoint, MovesAnchor, EndsCheckpoint, Meets, World, IsLogged, under_way}

abbrev pub HasLookedFor : World → (client : ℕ) → Deed → Type 0
HasLookedFor w c x = w.precheck ≡ true → RightBy w c x

pub record BeganHere (w : World) (b : ℕ) : Type 0 where
  pub since : length w.before ≤ b
  pub began : IsLogged w b AuditBegin

abbrev pub refusal_at : SystemState → ℕ → ℕ → Mode → ℕ → Refusal
refusal_at y t k m h = record { txn = t; key = k; mode = m; holder = h; at = y.records }

abbrev pub refusal_now : CoreState → ℕ → ℕ → Mode → ℕ → Refusal
refusal_now c t k m h = refusal_at c.system t k m h

-- one that logs a record is told by it; a lock that is granted may be told; a refusal by a live or by a dead holder; no client dies outside of an operation, and none reads the log
abbrev pub TellsStep : SystemState → Step → List Deed → Type 0
TellsStep y Begins ds = ds ≡ Logs (Begin y.next) ∷ []
TellsStep y (Operates t b) ds = ds ≡ Logs (Forward t b) ∷ []
TellsStep y (TakesBack t b) ds = ds ≡ Logs (Back t b) ∷ []
TellsStep y (Frees t b) ds = ds ≡ Logs (Solo y.next t b) ∷ []
TellsStep y (Answers t call a) ds = ds ≡ Logs (Done t call a) ∷ []
TellsStep y (Commits t) ds = ds ≡ Logs (Commit t) ∷ []
TellsStep y (Ends t) ds = ds ≡ Logs (Ended t) ∷ []
TellsStep y AuditBegins ds = ds ≡ Logs AuditBegin ∷ []
TellsStep y (AuditEnds b found) ds = ds ≡ Logs (audit_record b found) ∷ []
TellsStep y (Locks t k m) ds = (ds ≡ []) ⊎ (ds ≡ GetsLock t k m ∷ [])
TellsStep y (Refuses t k m h) ds = (ds ≡ Yields (refusal_at y t k m h) ∷ []) ⊎ (ds ≡ FindsDead (refusal_at y t k m h) ∷ [])
TellsStep y (OnRegion r (Poke word mask)) ds = ds ≡ Strays r word mask ∷ []
TellsStep y (Dies t None) ds = ⊥
TellsStep y (Dies t (Some r)) ds = ds ≡ DiesOn t r ∷ []
TellsStep y (Claims t) ds = ds ≡ ClaimsTxn t ∷ []
TellsStep y (GivesBack t o) ds = ds ≡ GivesTxnBack t o ∷ []
TellsStep y (Faults n) ds = ds ≡ Meets StoreFailed ∷ []
TellsStep y (ReadFails n) ds = ⊥
TellsStep y x ds = ds ≡ []

-- with precheck an operation, and a death in one, ask for the client's look, which is at its latch; the end of an audit asks that it began in the round
abbrev pub AreOfCore : World → (client : ℕ) → Point → Step → List Deed → Type 0
AreOfCore w c p (Operates t b) ds = TellsStep p.core.system (Operates t b) ds × HasLookedFor w c (Logs (Forward t b))
AreOfCore w c p (AuditEnds b found) ds = TellsStep p.core.system (AuditEnds b found) ds × BeganHere w b
AreOfCore w c p (Dies t (Some r)) ds = TellsStep p.core.system (Dies t (Some r)) ds × HasLookedFor w c (DiesOn t r)
AreOfCore w c p x ds = TellsStep p.core.system x ds

abbrev pub AreOf : World → (client : ℕ) → Point → StoreStep → List Deed → Type 0
AreOf w c p (Does x) ds = AreOfCore w c p x ds
AreOf w c p Starts ds = ds ≡ StartsCheckpoint ∷ []
AreOf w c p Turns ds = ds ≡ MovesAnchor (p.core.vault.current + 1) ∷ []
AreOf w c p (CopyFails r ws n) ds = ds ≡ Meets StoreFailed ∷ []
AreOf w c p (HeadFails h n) ds = ds ≡ Meets StoreFailed ∷ []
AreOf w c p (SyncFails n) ds = ds ≡ Meets StoreFailed ∷ []
AreOf w c p (TurnFails n) ds = ds ≡ Meets StoreFailed ∷ []
AreOf w c p Finishes ds = (ds ≡ EndsCheckpoint ∷ []) × (under_way w.happened ≡ Some c)
AreOf w c p x ds = ds ≡ []
