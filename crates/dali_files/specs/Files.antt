-- What the calls on the files do to them, and what a crash may leave.
-- Words: Contents, SameBut; HoldsIn, TornIn, TornTold; RemovedIn, EmptiedIn, EmptiedTold; Follows, Only; Elapses, LeavesOnly.
use Rattle.std.specs.Prelude.{◌≡◌, ◌≢◌, ◌⊎◌, ℕ, ◌≤◌, List, [], Option, Some, None}
use Rattle.dali_store.specs.Store.{Holds, Torn}
use Rattle.dali_files.specs.declared.key.FileKey.{FileKey}

-- the bytes of each file at one moment: none of a file that isn't there
abbrev pub Contents : Type 0
Contents = FileKey → List ℕ

-- each other file is the same
abbrev pub SameBut : FileKey → Contents → Contents → Type 0
SameBut f old new = (g : FileKey) → g ≢ f → new g ≡ old g

-- the file is as before with these bytes at this place, and each other one the same, where they are told; and they are told as before
abbrev pub HoldsIn : FileKey → ℕ → List ℕ → Option Contents → Option Contents → Type 0
HoldsIn f at bytes (Some old) (Some new) = Holds (old f) at bytes (new f) × SameBut f old new
HoldsIn f at bytes (Some old) None = ⊥
HoldsIn f at bytes None new = new ≡ None

-- after a write of n bytes that is cut short: any bytes in the range and past the old end, the same elsewhere
pub record TornIn (f : FileKey) (at n : ℕ) (old new : Contents) : Type 0 where
  pub torn : Torn at n (old f) (new f)
  pub same : SameBut f old new

-- the same of what reads give, where it is told, and it is told as before
abbrev pub TornTold : FileKey → ℕ → ℕ → Option Contents → Option Contents → Type 0
TornTold f at n (Some old) (Some new) = TornIn f at n old new
TornTold f at n (Some old) None = ⊥
TornTold f at n None new = new ≡ None

-- the file is gone, and each other one the same, where they are told; and they are told as before
abbrev pub RemovedIn : FileKey → Option Contents → Option Contents → Type 0
RemovedIn f (Some old) (Some new) = (new f ≡ []) × SameBut f old new
RemovedIn f (Some old) None = ⊥
RemovedIn f None new = new ≡ None

-- the file is as it was or empty, and each other one the same
pub record EmptiedIn (f : FileKey) (old new : Contents) : Type 0 where
  pub either : (new f ≡ old f) ⊎ (new f ≡ [])
  pub same : SameBut f old new

-- the same of what reads give, where it is told, and it is told as before
abbrev pub EmptiedTold : FileKey → Option Contents → Option Contents → Type 0
EmptiedTold f (Some old) (Some new) = EmptiedIn f old new
EmptiedTold f (Some old) None = ⊥
EmptiedTold f None new = new ≡ None

-- each new outcome of a crash is an old outcome after a step
abbrev pub Follows : (Contents → Contents → Type 0) → (Contents → Type 0) → (Contents → Type 0) → Type 0
Follows step old new = (c : Contents) → new c → (d : Contents) × old d × step d c

-- a crash leaves these files and nothing else
abbrev pub Only : Contents → (Contents → Type 0) → Type 0
Only files outcomes = (c : Contents) → outcomes c → c ≡ files

-- Time goes on: a crash since t might have left what it might have left before, or what it may leave now.
pub record Elapses (before now : ℕ) (past since : ℕ → Contents → Type 0) (may_leave : Contents → Type 0) : Type 0 where
  pub later : before ≤ now
  pub nothing_else : (t : ℕ) (c : Contents) → t ≤ before → since t c → past t c ⊎ may_leave c
  pub keeps : (t : ℕ) (c : Contents) → t ≤ before → past t c → since t c
