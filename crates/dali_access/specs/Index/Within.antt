-- Each operation writes only words that it reads, and leaves all others: those on cells and those on entries, in one place.
use Rattle.std.specs.Prelude.{ℕ, List}
use Rattle.dali_words.specs.Effects.{IsWithin}
use Rattle.dali_access.specs.Heap.Rows as heap
use Rattle.dali_access.specs.Index.Rows as index

pub record WritesWithinReads : Type 0 where
  pub put : (ws v : List ℕ) (k : ℕ) → IsWithin ws (heap.put ws k v).0
  pub read : (ws : List ℕ) (c k : ℕ) → IsWithin ws (heap.read ws c k).0
  pub change : (ws v : List ℕ) (c k : ℕ) → IsWithin ws (heap.change ws c k v).0
  pub kill_cell : (ws : List ℕ) (c k : ℕ) → IsWithin ws (heap.kill ws c k).0
  pub free_cell : (ws : List ℕ) (c : ℕ) → IsWithin ws (heap.free ws c)
  pub revive_cell : (ws : List ℕ) (c : ℕ) → IsWithin ws (heap.revive ws c)
  pub restore : (ws vs : List ℕ) (c n : ℕ) → IsWithin ws (heap.restore ws c n vs)
  pub look : (ws : List ℕ) (k : ℕ) → IsWithin ws (index.look ws k).0
  pub add : (ws : List ℕ) (k p : ℕ) → IsWithin ws (index.add ws k p).0
  pub kill_entry : (ws : List ℕ) (e k : ℕ) → IsWithin ws (index.kill ws e k).0
  pub free_entry : (ws : List ℕ) (e : ℕ) → IsWithin ws (index.free ws e)
  pub revive_entry : (ws : List ℕ) (e : ℕ) → IsWithin ws (index.revive ws e)
