-- How a client fits the world, by where it stands.
--     rest_of k, lines_of k    its commands that are left, and its lines, in words of transcripts
--     Speaks w a k             this standing of the world is the client's
--     InTxn place t            a client that stands there is in the transaction t
--     OthersGot w a            while the engine runs, the locks of each other transaction that is live or committed were granted to another client
--     IsOf w a k               the client's standing, before a step of it
--     Fits s B p w gs y v a rest state     and it stands so
--     Owns state t             the transaction t is its open one
--     Audits state b           it is in the audit that began at record b
--     Makes state              it makes a checkpoint
use Rattle.std.specs.Prelude.{◌≡◌, ◌⊎◌, ℕ, ◌==◌, true, false, List, Option, Some, None, map}
use Rattle.dali_record.specs.declared.records.Record.{Record}
use Rattle.dali_region.specs.State.{RegionState}
use Rattle.dali_store.specs.Store.{Files as Disk}
use Rattle.dali_store.specs.declared.store.Store.{Ghosts}
use Rattle.dali_locks.specs.declared.mode.Mode.{Mode}
use Rattle.dali_runs.specs.State.{SystemState, state_of, lock_of}
use Rattle.dali_crash.specs.Checkpoints.{Point}
use Rattle.dali_crash.specs.Traces.{Start}
use Rattle.dali_core.specs.Vault.Vaulted.{Vaulted}
use Rattle.dali_transactions.specs.Beside.Went.{is_open}
use Rattle.dali_transcripts.specs.Words.{Act, Said}
use Rattle.dali_transcripts.specs.World.{World, HasGot}
use Rattle.dali_transcripts.specs.Moves.{Place, Within as IsWithin}
use Rattle.dali_transcripts.specs.Rounds.{Standing, Stands}
use Rattle.dali_transcripts.specs.Clients.Told.{act_of, said_of}
use Rattle.dali_turns.specs.declared.client.Client.{Client}
use Rattle.dali_turns.specs.declared.client.State.{State}
use Rattle.dali_turns.specs.declared.client.State.TheVariants.{Outside, LeftOut, Within, Calling, TakingBack, Committing, Waiting, Auditing, Copying, Certifying, Gone}
use Rattle.dali_turns.specs.Outside.{FitsOutside, FitsLeftOut, FitsWaiting, FitsGone}
use Rattle.dali_turns.specs.Within.{FitsWithin, FitsCalling, FitsTakingBack}
use Rattle.dali_turns.specs.Audits.{FitsAuditing}
use Rattle.dali_turns.specs.Checkpoints.{FitsCopying, FitsCertifying}
use Rattle.dali_turns.specs.Commits.{FitsCommitting}

abbrev pub rest_of : Client → List Act
rest_of k = map act_of k.rest.now

abbrev pub lines_of : Client → List Said
lines_of k = map said_of k.transcript.lines

pub record Speaks (w : World) (a : Standing) (k : Client) : Type 0 where
  pub client : a.client ≡ k.transcript.client
  pub lines : a.lines ≡ lines_of k
  pub stands : Stands w a

abbrev pub InTxn : Place → ℕ → Type 0
InTxn (IsWithin t tries cs d s) u = t ≡ u
InTxn place u = ⊥

abbrev pub OthersGot : World → Standing → Type 0
OthersGot w a =
    w.core.system.stop ≡ None → (t k : ℕ) (m : Mode) → is_open (state_of w.core.system t) ≡ true → lock_of w.core.system t k ≡ Some m
    → InTxn a.spot.place t ⊎ ((d : ℕ) × ((d == a.client) ≡ false) × HasGot w.happened d t k m)

pub record IsOf (w : World) (a : Standing) (k : Client) : Type 0 where
  pub client : a.client ≡ k.transcript.client
  pub lines : a.lines ≡ lines_of k
  pub stands : Stands w a
  pub others : OthersGot w a

abbrev pub Owns : State → ℕ → Type 0
Owns (Within x) t = x.txn ≡ t
Owns (Calling x plan) t = x.txn ≡ t
Owns (TakingBack x plan why) t = x.txn ≡ t
Owns (Committing x number removals next) t = x.txn ≡ t
Owns state t = ⊥

abbrev pub Audits : State → ℕ → Type 0
Audits (Auditing audit next) b = audit.begin ≡ b
Audits (Certifying c audit next) b = audit.begin ≡ b
Audits state b = ⊥

abbrev pub Makes : State → Type 0
Makes (Copying c next) = Unit {0}
Makes (Certifying c audit next) = Unit {0}
Makes state = ⊥

module _ {V : Type 0} (means : Ghosts V) where
  abbrev pub Fits : Start → List (List Record) → Point → World → List RegionState → SystemState → Vaulted V → Standing → List Act → State → Type 0
  Fits s B p w gs y v a rest Outside = FitsOutside y a rest
  Fits s B p w gs y v a rest LeftOut = FitsLeftOut y a rest
  Fits s B p w gs y v a rest (Within x) = FitsWithin p w a rest x
  Fits s B p w gs y v a rest (Calling x plan) = FitsCalling p w a rest x plan
  Fits s B p w gs y v a rest (TakingBack x plan why) = FitsTakingBack p w a rest x plan why
  Fits s B p w gs y v a rest (Committing x number removals next) = FitsCommitting p w a rest x number removals.items next
  Fits s B p w gs y v a rest (Waiting tries holder) = FitsWaiting w y a rest tries holder
  Fits s B p w gs y v a rest (Auditing audit next) = FitsAuditing p w a rest audit next
  Fits s B p w gs y v a rest (Copying c next) = FitsCopying means s B p w gs y v a rest c next
  Fits s B p w gs y v a rest (Certifying c audit next) = FitsCertifying means s B p w gs y v a rest c audit next
  Fits s B p w gs y v a rest Gone = FitsGone a
