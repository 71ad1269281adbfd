-- What a crash at any moment of the vault's calls leaves, while others go on. Each law is of a call that answers whatever it will.
--     FlushAdds                a flush leaves files that restart right at each of its moments
--     WriteAdds                so does a write to the next image, of head, table or words
--     RunAdds                  and that of words that were copied before, while others went on
--     SyncAdds                 so does a sync
--     TurnAdds                 and the anchor's move
use Rattle.std.specs.Prelude.{◌≡◌, ℕ, false, List}
use Rattle.dali_record.specs.declared.records.Record.{Record}
use Rattle.dali_store.specs.declared.store.Store.{Ghosts}
use Rattle.dali_log.specs.Batch.{Framed}
use Rattle.dali_log.specs.Anchors.{MayHaveMoved}
use Rattle.dali_log.specs.Appending.{bodies_of, SomeAdded}
use Rattle.dali_crash.specs.Checkpoints.{Head, Point}
use Rattle.dali_crash.specs.Traces.{Start, bases_of}
use Rattle.dali_core.specs.Vault.Vaulted.{Vaulted}
use Rattle.dali_core.specs.Steps.Said.{IsFrameAt, TornFrom}
use Rattle.dali_core.specs.Cores.{IsNoShorter}
use Rattle.dali_core.specs.Moments.{Within}
use Rattle.dali_concurrent.specs.Rules.{Outset}
use Rattle.dali_concurrent.specs.Told.{History}
use Rattle.dali_concurrent.specs.Landing.{BeginsAt, Stands}
use Rattle.dali_concurrent.specs.Calls.{next_image, VaultAt, VaultBut, IsReady}
use Rattle.dali_concurrent.specs.Moments.{VaultMoments}

module _ {V : Type 0} (means : Ghosts V) where
  abbrev pub FlushAdds : Type 0
  FlushAdds =
      (s : Start) (B : List (List Record)) (p : Point) (o : Outset) (T : History) (f : Framed) (v0 v w : Vaulted V) → VaultAt means s B p o v T → VaultMoments means s p o v0 v T → v.stopped ≡ false
      → ((q : Point) → Stands (bases_of s) p o T q → IsFrameAt q f) → IsNoShorter means.told v0 w
      → Within means.told means.moment means.left_since v w (SomeAdded (means.may_leave v.store) v.end (bodies_of f.body))
      → VaultMoments means s p o v0 w T

  abbrev pub WriteAdds : Type 0
  WriteAdds =
      (s : Start) (B : List (List Record)) (p : Point) (o : Outset) (T : History) (at n : ℕ) (v0 v w : Vaulted V) → VaultAt means s B p o v T → VaultMoments means s p o v0 v T → v.stopped ≡ false
      → IsNoShorter means.told v0 w
      → Within means.told means.moment means.left_since v w (TornFrom (means.may_leave v.store) (next_image v) at n)
      → VaultMoments means s p o v0 w T

  abbrev pub RunAdds : Type 0
  RunAdds =
      (s : Start) (B : List (List Record)) (p : Point) (o : Outset) (T : History) (r at n : ℕ) (ws : List (List ℕ)) (v0 v w : Vaulted V) → VaultBut means s B p o r ws v T → VaultMoments means s p o v0 v T → v.stopped ≡ false
      → IsNoShorter means.told v0 w
      → Within means.told means.moment means.left_since v w (TornFrom (means.may_leave v.store) (next_image v) at n)
      → VaultMoments means s p o v0 w T

  abbrev pub SyncAdds : Type 0
  SyncAdds =
      (s : Start) (B : List (List Record)) (p : Point) (o : Outset) (T : History) (v0 v w : Vaulted V) → VaultAt means s B p o v T → VaultMoments means s p o v0 v T
      → IsNoShorter means.told v0 w
      → Within means.told means.moment means.left_since v w (means.may_leave v.store)
      → VaultMoments means s p o v0 w T

  abbrev pub TurnAdds : Type 0
  TurnAdds =
      (s : Start) (B : List (List Record)) (p : Point) (o : Outset) (T : History) (h : Head) (b end : ℕ) (v0 v w : Vaulted V) → BeginsAt (bases_of s) p o
      → VaultAt means s B p o v T → VaultMoments means s p o v0 v T → v.stopped ≡ false → IsReady o T h b end
      → IsNoShorter means.told v0 w
      → Within means.told means.moment means.left_since v w (MayHaveMoved (means.may_leave v.store) v.current)
      → VaultMoments means s p o v0 w T
