-- How a round ends.
--     EndGoes ..               from wherever it began it leads to its end, with the lines and receipts of its clients
--     named bs ks              the transcripts of the clients of these blocks, each under its block's number
use Rattle.std.specs.Prelude.{ℕ, Bool, true, List, [], ◌∷◌, Option, map}
use Rattle.dali_region.specs.State.{RegionState}
use Rattle.dali_store.specs.Store.{Files as Disk}
use Rattle.dali_store.specs.declared.store.Store.{Ghosts}
use Rattle.dali_runs.specs.State.{SystemState}
use Rattle.dali_crash.specs.Checkpoints.{Point}
use Rattle.dali_crash.specs.Traces.{Start}
use Rattle.dali_core.specs.Vault.Vaulted.{Vaulted}
use Rattle.dali_transcripts.specs.Transcripts.{Told}
use Rattle.dali_transcripts.specs.declared.clients.command.Block.{Block}
use Rattle.dali_transcripts.specs.Clients.Said.{Transcribed}
use Rattle.dali_turns.specs.declared.client.Client.{Client}
use Rattle.dali_turns.specs.Fits.{lines_of}
use Rattle.dali_round.specs.Leads.{RoundLeads}
use Rattle.dali_round.specs.Played.{Played}

abbrev pub named : List Block → List Client → List Transcribed
named (b ∷ bs) (k ∷ ks) = record k.transcript { client = b.client } ∷ named bs ks
named bs ks = []

module _ {V : Type 0} (means : Ghosts V) where
  abbrev pub EndGoes : Bool → List Client → List RegionState → SystemState → Vaulted V → Bool → List Client → List RegionState → SystemState → Vaulted V → Type 0
  EndGoes precheck ks gs y v whole js hs z u =
      (s : Start) (p : Point) (bs : List Told) → Played means true precheck s p bs ks gs y v
      → RoundLeads means precheck whole s p bs (map lines_of js) (map (λ (k : Client). k.transcript.receipts) js) hs z u
