-- What is left by calls that write to one file of a store, and the image file that a restart writes.
--     LeftBeside may f c       a disk that might have been left before, but for this file
--     WritesOnly f old new     reads of the other files give what they gave, and a crash at any moment leaves such a disk
--     without_rows h           the header of an image whose table has no row
--     head_in h                what it says of the log
--     new_image h words        the bytes of an image with this header, these words and such a table
--     pieces n                 how many writes put the words of n regions into it, 128 regions in each but the last
--     image_calls n            how many store calls write an image of n regions
use Rattle.std.specs.Prelude.{◌≡◌, ℕ, ◌+◌, ◌/◌, List, [], ◌++◌, Option, Some, None, flat_map}
use Rattle.dali_bytes.specs.Fields.{number32}
use Rattle.dali_record.specs.Spelling.{words_bytes}
use Rattle.dali_store.specs.declared.store.FileName.{FileName}
use Rattle.dali_store.specs.Store.{Files, LeavesOnly, SameBut}
use Rattle.dali_crash.specs.Checkpoints.{Head}
use Rattle.dali_image.specs.Headers.{heading}
use Rattle.dali_image.specs.declared.header.Header.{Header}

abbrev pub LeftBeside : (Files → Type 0) → FileName → Files → Type 0
LeftBeside may f c = (d : Files) × may d × SameBut f d c

abbrev pub ToldBeside : FileName → Option Files → Option Files → Type 0
ToldBeside f (Some old) (Some new) = SameBut f old new
ToldBeside f (Some old) None = ⊥
ToldBeside f None new = new ≡ None

module _ {V : Type 0} (told : V → Option Files) (may_leave : V → Files → Type 0) (moment : V → ℕ) (left_since : V → ℕ → Files → Type 0) where
  pub record WritesOnly (f : FileName) (old new : V) : Type 0 where
    pub reads : ToldBeside f (told old) (told new)
    pub any_moment : LeavesOnly moment left_since old new (LeftBeside (may_leave old) f)

-- its table is the number of its rows alone
abbrev pub without_rows : Header → Header
without_rows h = record h { table = 4 }

abbrev pub head_in : Header → Head
head_in h = record { number = h.number; place = h.place; first = h.first; weight = h.weight; next = h.next; table = [] }

abbrev pub new_image : Header → List (List ℕ) → List ℕ
new_image h words = (heading (without_rows h) ++ flat_map words_bytes words) ++ number32 0

abbrev pub pieces : ℕ → ℕ
pieces n = (n + 127) / 128

abbrev pub image_calls : ℕ → ℕ
image_calls n = pieces n + 3
