-- Segments that are dropped: the mark's write and its sync, and then their removal.
-- Words: DropsIn, DropsTold, Drops, AreMarked.
use Rattle.std.specs.Prelude.{◌≡◌, ◌⊎◌, ◌≤◌, ℕ, ◌+◌, ◌-◌, Option, Some, None, IfSome, is_some, length}
use Rattle.dali_files.specs.Files.{Contents, TornIn, Follows, Elapses}
use Rattle.dali_files.specs.declared.key.FileKey.{FileKey}
use Rattle.dali_segments.specs.Segments.{mark}
use Rattle.dali_segments.specs.Clears.{IsWithin, IsCleared, After}

-- the mark's write was cut short, and some of the segments that it says are dropped are empty
pub record DropsIn (from to : ℕ) (old new : Contents) : Type 0 where
  pub mid : Contents
  pub marks : TornIn mark from (to - from) old mid
  pub clears : IsCleared (from + 1) (length (mid mark) + 1) mid new

-- the same of what reads give, where it is told, and it is told as before
abbrev pub DropsTold : ℕ → ℕ → Option Contents → Option Contents → Type 0
DropsTold from to (Some old) (Some new) = DropsIn from to old new
DropsTold from to (Some old) None = ⊥
DropsTold from to None new = new ≡ None

-- so many segments are dropped: as the files read, and behind a crash
abbrev pub AreMarked : ℕ → Option Contents → (Contents → Type 0) → Type 0
AreMarked dropped told outcomes = IfSome told (λ fs. (length (fs mark) ≡ dropped) × ((c : Contents) → outcomes c → length (c mark) ≡ dropped))

-- what a drop of the segments above the first of these numbers, up to the other one, does, also where it fails
pub record Drops (from to : ℕ) (old new : Option Contents) (before after : Contents → Type 0) (was_going is_going : FileKey → Type 0) (moment now : ℕ) (past since : ℕ → Contents → Type 0) : Type 0 where
  pub tells : is_some new ≡ is_some old
  pub told : DropsTold from to old new
  pub crash : IfSome old (λ fs. Follows (DropsIn from to) before after)
  pub going : IfSome old (λ fs. (g : FileKey) → is_going g → was_going g ⊎ (IsWithin (from + 1) (to + 1) g × ((c : Contents) → after c → length (c mark) ≡ to)))
  pub later : moment ≤ now
  pub time : IfSome old (λ fs. Elapses moment now past since (After (DropsIn from to) before))
