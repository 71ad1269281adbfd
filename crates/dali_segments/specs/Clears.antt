-- Segments that are removed, one after another.
-- Words: IsWithin, IsCleared, ClearedTold, After, Clears, AreGone.
use Rattle.std.specs.Prelude.{◌≡◌, ◌⊎◌, ◌≤◌, ◌<◌, ℕ, [], Option, Some, None, IfSome}
use Rattle.dali_files.specs.Files.{Contents, Follows, Elapses}
use Rattle.dali_files.specs.declared.key.FileKey.{FileKey}
use Rattle.dali_files.specs.declared.key.FileKey.TheVariants.{ImageA, ImageB, Anchor, Segment}

-- a segment from one number on and below another one
abbrev pub IsWithin : ℕ → ℕ → FileKey → Type 0
IsWithin from below (Segment n) = (from ≤ n) × (n < below)
IsWithin from below ImageA = ⊥
IsWithin from below ImageB = ⊥
IsWithin from below Anchor = ⊥

-- some of these segments are empty, and all else is the same
abbrev pub IsCleared : ℕ → ℕ → Contents → Contents → Type 0
IsCleared from below old new = (key : FileKey) → (new key ≡ old key) ⊎ ((new key ≡ []) × IsWithin from below key)

-- the same of what reads give, where it is told, and it is told as before
abbrev pub ClearedTold : ℕ → ℕ → Option Contents → Option Contents → Type 0
ClearedTold from below (Some old) (Some new) = IsCleared from below old new
ClearedTold from below (Some old) None = ⊥
ClearedTold from below None new = new ≡ None

-- an outcome of a crash after a step
abbrev pub After : (Contents → Contents → Type 0) → (Contents → Type 0) → Contents → Type 0
After step old c = (d : Contents) × old d × step d c

-- what the removal of these segments does, also where it fails
pub record Clears (from below : ℕ) (old new : Option Contents) (before after : Contents → Type 0) (was_going is_going : FileKey → Type 0) (moment now : ℕ) (past since : ℕ → Contents → Type 0) : Type 0 where
  pub told : ClearedTold from below old new
  pub crash : Follows (IsCleared from below) before after
  pub going : (g : FileKey) → is_going g → IsWithin from below g ⊎ was_going g
  pub time : Elapses moment now past since (After (IsCleared from below) before)

-- these segments are gone, and stay so behind a crash
pub record AreGone (from below : ℕ) (told : Option Contents) (left : Contents → Type 0) (going : FileKey → Type 0) : Type 0 where
  pub empty : IfSome told (λ fs. (n : ℕ) → from ≤ n → n < below → fs (Segment n) ≡ [])
  pub kept : IfSome told (λ fs. (c : Contents) → left c → (n : ℕ) → from ≤ n → n < below → c (Segment n) ≡ [])
  pub settled : (n : ℕ) → from ≤ n → n < below → going (Segment n) → ⊥
