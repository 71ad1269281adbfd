-- A round in which nobody does anything: so what a round's end asks for can be met, wherever a round may begin.
--     HaveSeenNothing notes    each note has the number of its place, and has seen nothing
--     RoundMayBegin            a round may begin where the core stands, with its flag, and is as between two rounds
--     IdleRoundEnds            from there, with the empty history and such notes of system, vault, regions and clients, what the caller held at the start is as
--                              told at its end; each client had no command, and was handed no number
use Rattle.std.specs.Prelude.{◌≡◌, ◌+◌, ◌<◌, ◌≤◌, ℕ, Bool, true, List, [], Some, length, map, slice_get}
use Rattle.dali_geometry.specs.Places.{regions}
use Rattle.dali_record.specs.declared.records.Record.{Record}
use Rattle.dali_region.specs.State.{RegionState}
use Rattle.dali_store.specs.Store.{Files as Disk}
use Rattle.dali_store.specs.declared.store.Store.{Ghosts}
use Rattle.dali_runs.specs.State.{SystemState}
use Rattle.dali_crash.specs.Checkpoints.{Point}
use Rattle.dali_crash.specs.StoreRuns.{FlagTells}
use Rattle.dali_crash.specs.Traces.{Start}
use Rattle.dali_transcripts.specs.Rounds.{IsBetween}
use Rattle.dali_core.specs.Vault.Vaulted.{Vaulted}
use Rattle.dali_transactions.specs.Stands.{StandsAt}
use Rattle.dali_notes.specs.History.{Sight, IsWhole}
use Rattle.dali_concurrent.specs.Entries.{client_note}
use Rattle.dali_concurrent.specs.Told.{Item}
use Rattle.dali_concurrent.specs.Clients.{begun_at}
use Rattle.dali_concurrent.specs.Leads.{outset_of, MayBegin, FromEach, RoundEnds}

abbrev pub HaveSeenNothing : List (Sight Item) → Type 0
HaveSeenNothing notes = (n : ℕ) (x : Sight Item) → slice_get notes n ≡ Some x → (x.number ≡ n) × (x.seen ≡ [])

module _ {V : Type 0} (means : Ghosts V) where
  abbrev pub RoundMayBegin : Type 0
  RoundMayBegin =
      (s : Start) (B : List (List Record)) (p : Point) (gs : List RegionState) (y : SystemState) (v : Vaulted V)
      → StandsAt means s B p gs y v → FlagTells p → IsBetween p.core → MayBegin means s B p gs y v

  -- cs: the clients
  abbrev pub IdleRoundEnds : Type 0
  IdleRoundEnds =
      (precheck : Bool) (gs : List RegionState) (y : SystemState) (v : Vaulted V) (notes : List (Sight Item)) (cs : List ℕ)
      → ((c : Disk) → means.left_since v.store (means.moment v.store) c → means.may_leave v.store c)
      → HaveSeenNothing notes → length gs + 2 ≤ length notes → ((i c : ℕ) → slice_get cs i ≡ Some c → client_note (regions y.sizes) c < length notes)
      → IsWhole [] notes
      × FromEach means gs y v (λ s p. RoundEnds means true s p (outset_of precheck s p) v notes gs y v (map (λ c. begun_at c []) cs) (map (λ c. []) cs))
