-- What the calls of a store do to its four files, and what a crash may leave of them.
-- Words: Files, file_of, name_of, SameBut, NoLonger; Holds, HoldsIn, ReadsAt; Torn, TornIn, TornTold; Follows, Only; Elapses, LeavesOnly.
use Rattle.std.specs.Prelude.{◌≡◌, ◌≢◌, ◌⊎◌, ℕ, ◌+◌, ◌-◌, ◌≤◌, max, min, List, ◌++◌, length, take, drop, codes, Option, Some, None}
use Rattle.dali_store.specs.declared.store.FileName.{FileName}
use Rattle.dali_store.specs.declared.store.FileName.TheVariants.{Log, ImageA, ImageB, Anchor}

-- the bytes of the four files at one moment
pub record Files : Type 0 where
  pub log : List ℕ
  pub a : List ℕ
  pub b : List ℕ
  pub anchor : List ℕ

abbrev pub file_of : FileName → Files → List ℕ
file_of Log fs = fs.log
file_of ImageA fs = fs.a
file_of ImageB fs = fs.b
file_of Anchor fs = fs.anchor

-- what is printed of a file's name
abbrev pub name_of : FileName → List ℕ
name_of Log = codes "log"
name_of ImageA = codes "a"
name_of ImageB = codes "b"
name_of Anchor = codes "anchor"

-- each other file is the same
abbrev pub SameBut : FileName → Files → Files → Type 0
SameBut f old new = (g : FileName) → g ≢ f → file_of g new ≡ file_of g old

-- no file of c is longer than it is in fs
abbrev pub NoLonger : Files → Files → Type 0
NoLonger c fs = (f : FileName) → length (file_of f c) ≤ length (file_of f fs)

-- new is old with these bytes at this place
abbrev pub Holds : List ℕ → ℕ → List ℕ → List ℕ → Type 0
Holds old at bytes new = new ≡ take at old ++ bytes ++ drop (at + length bytes) old

-- the same of one file among four, where they are told, and they are told as before
abbrev pub HoldsIn : FileName → ℕ → List ℕ → Option Files → Option Files → Type 0
HoldsIn f at bytes (Some old) (Some new) = Holds (file_of f old) at bytes (file_of f new) × SameBut f old new
HoldsIn f at bytes (Some old) None = ⊥
HoldsIn f at bytes None new = new ≡ None

-- what a read into a buffer gives: as many bytes as the buffer has, fewer only at the end, and the rest of the buffer stays
pub record ReadsAt (file : List ℕ) (at : ℕ) (before : List ℕ) (n : ℕ) (after : List ℕ) : Type 0 where
  pub count : n ≡ min (length before) (length file - at)
  pub bytes : after ≡ take n (drop at file) ++ drop n before

-- after a write of n bytes that is cut short: any bytes in the range and past the old end, the same elsewhere
pub record Torn (at n : ℕ) (old new : List ℕ) : Type 0 where
  pub before : take at new ≡ take at old
  pub after : drop (at + n) new ≡ drop (at + n) old
  pub no_shorter : length old ≤ length new
  pub no_longer : length new ≤ max (length old) (at + n)

pub record TornIn (f : FileName) (at n : ℕ) (old new : Files) : Type 0 where
  pub torn : Torn at n (file_of f old) (file_of f new)
  pub same : SameBut f old new

-- the same of what reads give, where it is told, and it is told as before
abbrev pub TornTold : FileName → ℕ → ℕ → Option Files → Option Files → Type 0
TornTold f at n (Some old) (Some new) = TornIn f at n old new
TornTold f at n (Some old) None = ⊥
TornTold f at n None new = new ≡ None

-- each new outcome of a crash is an old outcome after a step
abbrev pub Follows : (Files → Files → Type 0) → (Files → Type 0) → (Files → Type 0) → Type 0
Follows step old new = (c : Files) → new c → (d : Files) × old d × step d c

-- a crash leaves these files and nothing else
abbrev pub Only : Files → (Files → Type 0) → Type 0
Only files outcomes = (c : Files) → outcomes c → c ≡ files

-- Time goes on: a crash since t might have left what it might have left before, or what it may leave now.
pub record Elapses (before now : ℕ) (past since : ℕ → Files → Type 0) (may_leave : Files → Type 0) : Type 0 where
  pub later : before ≤ now
  pub nothing_else : (t : ℕ) (c : Files) → t ≤ before → since t c → past t c ⊎ may_leave c
  pub keeps : (t : ℕ) (c : Files) → t ≤ before → past t c → since t c

-- A crash at any moment since old leaves files that have P.
pub record LeavesOnly {D : Type 0} (moment : D → ℕ) (left_since : D → ℕ → Files → Type 0) (old new : D) (P : Files → Type 0) : Type 0 where
  pub later : moment old ≤ moment new
  pub each : (c : Files) → left_since new (moment old) c → P c
  -- for a run that began earlier
  pub before : (t : ℕ) (c : Files) → t ≤ moment old → left_since new t c → left_since old t c ⊎ P c
