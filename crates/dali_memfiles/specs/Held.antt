-- A file, and what it was where a removal of it waits for a sync.
-- Words: HeldState, no_file, held_wrote, held_kept, held_removed, held_restored, held_cut; IsLeft, IsGoing, IsHeldSound.
use Rattle.std.specs.Prelude.{⊤, ◌⊎◌, ℕ, zero, suc, List, [], Option, Some, None, IfSome}
use Rattle.dali_disk.specs.State.{State, begun_with, wrote, kept, IsImage, cut_by}
use Rattle.dali_disk.specs.Sound.{IsSound}

pub record HeldState : Type 0 where
  pub file : State
  pub before : Option State

abbrev pub no_file : HeldState
no_file = record { file = begun_with []; before = None }

-- what a file was before its removal
abbrev pub first_of : Option State → State → State
first_of None file = file
first_of (Some before) file = before

abbrev pub held_wrote : ℕ → List ℕ → HeldState → HeldState
held_wrote at bytes h = record h { file = wrote at bytes h.file }

abbrev pub held_kept : HeldState → HeldState
held_kept h = record { file = kept h.file; before = None }

abbrev pub held_removed : HeldState → HeldState
held_removed h = record { file = begun_with []; before = Some (first_of h.before h.file) }

abbrev pub held_restored : HeldState → HeldState
held_restored h = record { file = first_of h.before h.file; before = None }

-- a crash: choice 0 keeps a removal, and every other one takes it back
abbrev pub held_cut : ℕ → ℕ → HeldState → HeldState
held_cut zero number h = held_kept h
held_cut (suc n) number h = record { file = cut_by (suc n) number (first_of h.before h.file); before = None }

abbrev pub IsBefore : Option State → List ℕ → Type 0
IsBefore None c = ⊥
IsBefore (Some s) c = IsImage s c

-- a crash may leave this: an image of the file, or one of what it was before its removal
abbrev pub IsLeft : HeldState → List ℕ → Type 0
IsLeft h c = IsImage h.file c ⊎ IsBefore h.before c

-- a removal waits for a sync
abbrev pub IsGoing : Option State → Type 0
IsGoing None = ⊥
IsGoing (Some s) = ⊤

pub record IsHeldSound (h : HeldState) : Type 0 where
  pub file : IsSound h.file
  pub before : IfSome h.before (λ s. IsSound s)
