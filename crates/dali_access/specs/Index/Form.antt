-- The form of an image: states and lengths that operations write, and the image before anything is stored.
--     IsInForm s image       each state is 0, 1 or 2, and each live or dead cell has the length of a value
--     HasNoDead s image      no state is 2
--     TidyIsForm             an image is tidy where it is in form and nothing is dead
--     FormIsKept             each operation leads from an image in form to one in form, where the values that it is given are values, and what it revives isn't free
--     FormattedIsEmpty       the formatted image is an image, has the index's invariant, is tidy, and has no records
use Rattle.std.specs.Prelude.{◌≡◌, ◌≢◌, ℕ, ◌<◌, ◌≤◌, true, List, [], length}
use Rattle.dali_words.specs.Values.{is_size}
use Rattle.dali_geometry.specs.Sizes.{Sizes}
use Rattle.dali_geometry.specs.Places.{is_index, is_heap, formatted_image}
use Rattle.dali_access.specs.Heap.Cells as cell
use Rattle.dali_access.specs.Heap.Rows as heap
use Rattle.dali_access.specs.Index.Entries as entry
use Rattle.dali_access.specs.Index.Rows as index
use Rattle.dali_access.specs.Index.Records.{words_of, records}
use Rattle.dali_access.specs.Index.Invariant.{IsImage, IsIndexed, IsTidy}
use Rattle.dali_access.specs.Index.Keeps.{after}

pub record IsInForm (s : Sizes) (image : List (List ℕ)) : Type 0 where
  pub entries : (r e : ℕ) → r < s.index → e < 21 → entry.state_of (words_of image r) e < 3
  pub cells : (r c : ℕ) → is_heap s r ≡ true → 0 < c → c < 8 → cell.state_of (words_of image r) c < 3
  pub sizes : (r c : ℕ) → is_heap s r ≡ true → 0 < c → c < 8 → cell.state_of (words_of image r) c ≢ 0 → is_size (cell.length_of (words_of image r) c) ≡ true

pub record HasNoDead (s : Sizes) (image : List (List ℕ)) : Type 0 where
  pub entries : (r e : ℕ) → r < s.index → e < 21 → entry.state_of (words_of image r) e ≢ 2
  pub cells : (r c : ℕ) → is_heap s r ≡ true → 0 < c → c < 8 → cell.state_of (words_of image r) c ≢ 2

pub record TidyIsForm : Type 0 where
  pub form : (s : Sizes) (image : List (List ℕ)) → IsTidy s image → IsInForm s image
  pub no_dead : (s : Sizes) (image : List (List ℕ)) → IsTidy s image → HasNoDead s image
  pub tidy : (s : Sizes) (image : List (List ℕ)) → IsInForm s image → HasNoDead s image → IsTidy s image

-- an image of these sizes in form, and one of its heap regions, one of its index regions
pub record HasCells (s : Sizes) (image : List (List ℕ)) (r : ℕ) : Type 0 where
  pub image_is : IsImage s image
  pub form : IsInForm s image
  pub kind : is_heap s r ≡ true

pub record HasEntries (s : Sizes) (image : List (List ℕ)) (r : ℕ) : Type 0 where
  pub image_is : IsImage s image
  pub form : IsInForm s image
  pub kind : is_index s r ≡ true

pub record FormIsKept : Type 0 where
  pub put : (s : Sizes) (image : List (List ℕ)) (r k : ℕ) (v : List ℕ) → HasCells s image r → is_size (length v) ≡ true → IsInForm s (after image r (heap.put (words_of image r) k v).0)
  pub read : (s : Sizes) (image : List (List ℕ)) (r c k : ℕ) → HasCells s image r → IsInForm s (after image r (heap.read (words_of image r) c k).0)
  pub change : (s : Sizes) (image : List (List ℕ)) (r c k : ℕ) (v : List ℕ) → HasCells s image r → c ≤ 7 → is_size (length v) ≡ true → IsInForm s (after image r (heap.change (words_of image r) c k v).0)
  pub kill_cell : (s : Sizes) (image : List (List ℕ)) (r c k : ℕ) → HasCells s image r → c ≤ 7 → IsInForm s (after image r (heap.kill (words_of image r) c k).0)
  pub free_cell : (s : Sizes) (image : List (List ℕ)) (r c : ℕ) → HasCells s image r → c ≤ 7 → IsInForm s (after image r (heap.free (words_of image r) c))
  pub revive_cell : (s : Sizes) (image : List (List ℕ)) (r c : ℕ) → HasCells s image r → 1 ≤ c → c ≤ 7 → cell.state_of (words_of image r) c ≢ 0 → IsInForm s (after image r (heap.revive (words_of image r) c))
  pub restore : (s : Sizes) (image : List (List ℕ)) (r c n : ℕ) (vs : List ℕ) → HasCells s image r → c ≤ 7 → is_size n ≡ true → IsInForm s (after image r (heap.restore (words_of image r) c n vs))
  pub look : (s : Sizes) (image : List (List ℕ)) (r k : ℕ) → HasEntries s image r → IsInForm s (after image r (index.look (words_of image r) k).0)
  pub add : (s : Sizes) (image : List (List ℕ)) (r k p : ℕ) → HasEntries s image r → IsInForm s (after image r (index.add (words_of image r) k p).0)
  pub kill_entry : (s : Sizes) (image : List (List ℕ)) (r e k : ℕ) → HasEntries s image r → e ≤ 20 → IsInForm s (after image r (index.kill (words_of image r) e k).0)
  pub free_entry : (s : Sizes) (image : List (List ℕ)) (r e : ℕ) → HasEntries s image r → e ≤ 20 → IsInForm s (after image r (index.free (words_of image r) e))
  pub revive_entry : (s : Sizes) (image : List (List ℕ)) (r e : ℕ) → HasEntries s image r → e ≤ 20 → IsInForm s (after image r (index.revive (words_of image r) e))

pub record FormattedIsEmpty : Type 0 where
  pub image_is : (s : Sizes) → 0 < s.index → 0 < s.heap → IsImage s (formatted_image s)
  pub indexed : (s : Sizes) → IsIndexed s (formatted_image s)
  pub tidy : (s : Sizes) → IsTidy s (formatted_image s)
  pub no_records : (s : Sizes) → records s (formatted_image s) ≡ []
