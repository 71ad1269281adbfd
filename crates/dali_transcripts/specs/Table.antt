-- The table of lines and records: what each line of a client tells of the core that the round leaves.
--     Tells w c did line       of a client c that did these deeds
use Rattle.std.specs.Prelude.{◌≡◌, ℕ, List, Contains, Option}
use Rattle.std.specs.List.{AllByRecursion}
use Rattle.dali_record.specs.declared.records.Call.{Call}
use Rattle.dali_record.specs.declared.records.Record.TheVariants.{Begin, Done, Commit, Ended, AuditClean}
use Rattle.dali_runs.specs.declared.causes.Cause.{Cause}
use Rattle.dali_runs.specs.declared.refusals.Refusal.{Refusal}
use Rattle.dali_runs.specs.Steps.{audit_record}
use Rattle.dali_transcripts.specs.Words.{Act, Commits as CommitAct, Why, StoppedBy, StoreFailed, Said, Begun, Answered, CommitOk, AbortOk, Aborted, LeftOpen, Died, Busy, PokeOk, PokeOutOfRange, AuditSaid, CheckpointSaid, CheckpointFailed, Refused}
use Rattle.dali_transcripts.specs.World.{Deed, Logs, Strays, DiesOn, MovesAnchor, World, IsFlushed, IsLost, IsUncommitted}
use Rattle.dali_transcripts.specs.Moves.{Receipt}
use Rattle.dali_transcripts.specs.Causes.{MetCause, GetsBusy}

abbrev pub Has : List Receipt → ℕ → Deed → Type 0
Has did n x = Contains did (n, x)

-- a commit that the store failed logged its record
abbrev pub TellsRefused : World → ℕ → List Receipt → Act → Why → Type 0
TellsRefused w c did CommitAct StoreFailed = (t n : ℕ) × Has did n (Logs (Commit t)) × IsLost w n
TellsRefused w c did act why = (o : Option ℕ) × (n : ℕ) × MetCause w c n act o why

abbrev pub Tells : World → ℕ → List Receipt → Said → Type 0
Tells w c did (Begun t) = (n : ℕ) × Has did n (Logs (Begin t))
Tells w c did (Answered call a) = (t n : ℕ) × Has did n (Logs (Done t call a))
Tells w c did CommitOk = (t n : ℕ) × Has did n (Logs (Commit t)) × IsFlushed w n
Tells w c did AbortOk = (t n : ℕ) × Has did n (Logs (Ended t)) × IsUncommitted w t n
Tells w c did Aborted = (t n : ℕ) × Has did n (Logs (Ended t)) × IsUncommitted w t n
Tells w c did (AuditSaid rs) = (b n : ℕ) × Has did n (Logs (audit_record b rs)) × IsFlushed w n
Tells w c did (CheckpointSaid number) = (b n m : ℕ) × Has did n (Logs (AuditClean b)) × IsFlushed w n × Has did m (MovesAnchor number)
Tells w c did (CheckpointFailed rs) = (b n : ℕ) × Has did n (Logs (audit_record b rs)) × IsFlushed w n
Tells w c did Died = (t r n : ℕ) × Has did n (DiesOn t r)
Tells w c did PokeOk = (n r word mask : ℕ) × Has did n (Strays r word mask)
Tells w c did LeftOpen = (act : Act) × (o : Option ℕ) × (n : ℕ) × (cause : Cause) × MetCause w c n act o (StoppedBy cause)
Tells w c did (Busy h) = (t : ℕ) × (call : Call) × (f : Refusal) × GetsBusy w c t call f × (f.holder ≡ h)
Tells w c did PokeOutOfRange = Unit {0}
Tells w c did (Refused act why) = TellsRefused w c did act why

abbrev pub AllTell : World → ℕ → List Receipt → List Said → Type 0
AllTell w c did lines = AllByRecursion (Tells w c did) lines
