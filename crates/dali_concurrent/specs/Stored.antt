-- What the vault keeps of what its note has seen of the history, and what a round hands out of the core.
--     NoneInHand               what was taken is flushed, unless the vault is stopped
--     VaultMeets, NoneInHandMeets      entries of others leave that so, and the vault where the history has come to (`VaultAt` of Calls)
--     HandedOut ..             a run went on to a point where this core stands, by just what the round's deeds tell;  while the vault runs, the image files
--                              have the place of each region whose flag is clear
--     HandsOut                 so it did where a round is closed
use Rattle.std.specs.Prelude.{◌≡◌, false, List, IfSome}
use Rattle.dali_record.specs.declared.records.Record.{Record}
use Rattle.dali_region.specs.State.{RegionState}
use Rattle.dali_store.specs.declared.store.Store.{Ghosts}
use Rattle.dali_runs.specs.State.{SystemState}
use Rattle.dali_runs.specs.Run.{Bases}
use Rattle.dali_crash.specs.Checkpoints.{Point}
use Rattle.dali_crash.specs.StoreRuns.{FlagTells}
use Rattle.dali_crash.specs.Traces.{Start, bases_of}
use Rattle.dali_transcripts.specs.Rounds.{Standing}
use Rattle.dali_core.specs.Vault.Vaulted.{Vaulted}
use Rattle.dali_core.specs.Cores.{HoldsPlaces}
use Rattle.dali_transactions.specs.Stands.{StandsAt}
use Rattle.dali_notes.specs.History.{IsSeen}
use Rattle.dali_concurrent.specs.Entries.{vault_note}
use Rattle.dali_concurrent.specs.Rules.{Outset}
use Rattle.dali_concurrent.specs.Told.{History, core_told}
use Rattle.dali_concurrent.specs.Landing.{BeginsAt, Stands}
use Rattle.dali_concurrent.specs.Kept.{AllFollow}
use Rattle.dali_concurrent.specs.Calls.{VaultAt}
use Rattle.dali_concurrent.specs.Closed.{Closed, ValuesTold, ClientsTold}

module _ {V : Type 0} (means : Ghosts V) where
  -- so it is where the vault's lock is free
  abbrev pub NoneInHand : Outset → Vaulted V → History → Type 0
  NoneInHand o v T = v.stopped ≡ false → v.flushed ≡ (core_told o T).system.taken

  abbrev pub VaultMeets : Type 0
  VaultMeets =
      (s : Start) (B : List (List Record)) (p : Point) (o : Outset) (seen new : History) (v : Vaulted V) → BeginsAt (bases_of s) p o
      → IsSeen new vault_note seen → AllFollow (bases_of s) p o new
      → VaultAt means s B p o v seen → VaultAt means s B p o v new

  abbrev pub NoneInHandMeets : Type 0
  NoneInHandMeets =
      (bases : Bases) (p : Point) (o : Outset) (seen new : History) (v : Vaulted V) → BeginsAt bases p o
      → IsSeen new vault_note seen → AllFollow bases p o new
      → NoneInHand o v seen → NoneInHand o v new

  pub record HandedOut (s : Start) (B : List (List Record)) (p : Point) (o : Outset) (T : History) (gs : List RegionState) (y : SystemState) (u : Vaulted V) : Type 0 where
    pub to : Point
    pub is : Stands (bases_of s) p o T to
    pub stands : StandsAt means s B to gs y u
    pub files : u.stopped ≡ false → IfSome (means.told u.store) (HoldsPlaces gs)
    pub keeps : FlagTells to

  abbrev pub HandsOut : Type 0
  HandsOut =
      (s : Start) (B : List (List Record)) (p : Point) (o : Outset) (T : History) (closed : Closed (bases_of s) p o T)
      (gs : List RegionState) (y : SystemState) (u : Vaulted V) (ss : List Standing)
      → ValuesTold (bases_of s) p o T closed gs y → ClientsTold (bases_of s) p o T closed ss → BeginsAt (bases_of s) p o
      → VaultAt means s B p o u (closed.seen vault_note) → NoneInHand o u (closed.seen vault_note)
      → HandedOut s B p o T gs y u
