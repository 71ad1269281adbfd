-- Where a client stands in a commit.
--     FitsCommitting x number us next  its commit is record number; behind its flush the removals below next were freed
--     awaits_flush state y v   its commit is logged, and not flushed
use Rattle.std.specs.Prelude.{◌≡◌, ◌⊎◌, ◌<◌, ℕ, ◌+◌, Bool, true, false, not, nat_lt, List, [], ◌∷◌, None, Some, drop, length, map}
use Rattle.dali_record.specs.declared.operations.Pending.{Pending}
use Rattle.dali_record.specs.declared.records.Record.TheVariants.{Commit}
use Rattle.dali_att.specs.declared.state.State.TheVariants.{Committed}
use Rattle.dali_runs.specs.State.{SystemState, state_of}
use Rattle.dali_runs.specs.Facts.Ends.{IsEnding}
use Rattle.dali_crash.specs.Checkpoints.{Point}
use Rattle.dali_core.specs.Vault.Vaulted.{Vaulted}
use Rattle.dali_transcripts.specs.Words.{Act, Commits}
use Rattle.dali_transcripts.specs.World.{World, Logs, log_of, IsFlushed}
use Rattle.dali_transcripts.specs.Moves.{Receipt, Within, at}
use Rattle.dali_transcripts.specs.Causes.{AreBehind}
use Rattle.dali_transcripts.specs.Rounds.{Standing, IsPlaced}
use Rattle.dali_transcripts.specs.Clients.Told.{act_of}
use Rattle.dali_turns.specs.declared.client.Transaction.{Transaction}
use Rattle.dali_turns.specs.declared.client.State.{State}
use Rattle.dali_turns.specs.declared.client.State.TheVariants.{Committing}
use Rattle.dali_turns.specs.Within.{AreGot}

pub record FitsCommitting (p : Point) (w : World) (a : Standing) (rest : List Act) (x : Transaction) (number : ℕ) (removals : List Pending) (next : ℕ) : Type 0 where
  pub more : List Act
  pub commits : rest ≡ Commits ∷ more
  pub spot : a.spot ≡ at (Within x.txn x.tries (map act_of x.commands.now) x.deadly false) rest
  pub placed : IsPlaced true rest
  -- what it has done behind its commit
  pub behind : List Receipt
  pub pending : a.pending ≡ (number, Logs (Commit x.txn)) ∷ behind
  pub are : AreBehind w a.client x.txn behind
  -- nothing before the flush
  pub first : ((behind ≡ []) × (next ≡ 0)) ⊎ IsFlushed w number
  pub below : number < length (log_of w)
  pub committed : state_of p.core.system x.txn ≡ Some Committed
  pub locks : AreGot p w a.client x.txn
  -- an audit may have stopped the engine since then, or another client's flush that failed
  pub ending : p.core.system.stop ≡ None → IsEnding p.core.system.sizes p.log x.txn (drop next removals)

abbrev pub awaits_flush : {V : Type 0} → State → SystemState → Vaulted V → Bool
awaits_flush (Committing x number removals next) y v = not (nat_lt number (y.first + v.flushed))
awaits_flush state y v = false
