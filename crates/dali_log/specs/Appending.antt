-- What a log reads as while batches are added to it, and what a crash may leave of it.
--     bodies_of body              the batches that a frame adds: itself, or none where it is empty
--     next_place at more          the place behind these batches from place at on
--     Adds at more old new        read from any place from which the old log ended at this place, the new one has the same batches and these more
--     SomeAdded may at more c     files that a crash leaves while batches are added: the other files as before, and the log without them or with some, the first ones first
--     AllAdded may at more c      files that a crash leaves once they have been added
use Rattle.std.specs.Prelude.{ℕ, ◌+◌, ◌≤◌, List, [], ◌∷◌, ◌++◌, length, take}
use Rattle.dali_store.specs.declared.store.FileName.TheVariants.{Log}
use Rattle.dali_store.specs.Store.{Files, SameBut}
use Rattle.dali_log.specs.Batch.{batches, IsClosedAt, Ends}

abbrev pub bodies_of : List ℕ → List (List ℕ)
bodies_of [] = []
bodies_of (byte ∷ bytes) = (byte ∷ bytes) ∷ []

abbrev pub next_place : ℕ → List (List ℕ) → ℕ
next_place at more = at + length (batches more)

abbrev pub Adds : ℕ → List (List ℕ) → List ℕ → List ℕ → Type 0
Adds at more old new = (p : ℕ) (bodies : List (List ℕ)) → Ends old p bodies at → Ends new p (bodies ++ more) (next_place at more)

-- The crash images of different files may be tied to one another, so what is known of the log and of the others is said of one old image each.
pub record SomeAdded (may_leave : Files → Type 0) (at : ℕ) (more : List (List ℕ)) (c : Files) : Type 0 where
  pub others : (d : Files) × may_leave d × SameBut Log d c
  pub log : (d : Files) × may_leave d × (n : ℕ) × (n ≤ length more) × Adds at (take n more) d.log c.log

pub record AllAdded (may_leave : Files → Type 0) (at : ℕ) (more : List (List ℕ)) (c : Files) : Type 0 where
  pub others : (d : Files) × may_leave d × SameBut Log d c
  pub log : (d : Files) × may_leave d × Adds at more d.log c.log
  pub closed : IsClosedAt (next_place at more) c.log
