-- What a write to the log does, also where it fails.
-- Words: Writes, IsSpan, CanWrite.
use Rattle.std.specs.Prelude.{◌≡◌, ◌≤◌, ◌<◌, ℕ, ◌+◌, ◌*◌, false, Option}
use Rattle.dali_store.specs.Store.{Files, TornIn, TornTold, Follows, Elapses}
use Rattle.dali_store.specs.declared.store.FileName.TheVariants.{Log}
use Rattle.dali_segments.specs.Segments.{is_dropped}

-- a write of so many bytes at a place; all that a crash might leave it may leave behind it
pub record Writes (at n : ℕ) (old new : Option Files) (before after : Files → Type 0) (moment now : ℕ) (past since : ℕ → Files → Type 0) : Type 0 where
  pub torn : TornTold Log at n old new
  pub crash : Follows (TornIn Log at n) before after
  pub more : (c : Files) → before c → after c
  pub time : Elapses moment now past since after

-- the first and the last segment of so many bytes at a place, and the place in the first one
pub record IsSpan (size at count first last offset : ℕ) : Type 0 where
  pub place : first * size + offset ≡ at
  pub inside : offset < size
  pub under : first ≤ last
  pub begins : last * size < first * size + offset + count
  pub ends : first * size + offset + count ≤ (last + 1) * size

-- they are segments of a log, of which none is dropped
pub record CanWrite (size dropped at count first last offset : ℕ) : Type 0 where
  pub span : IsSpan size at count first last offset
  pub few : last < 4095
  pub kept : (n : ℕ) → first ≤ n → n ≤ last → is_dropped dropped n ≡ false
