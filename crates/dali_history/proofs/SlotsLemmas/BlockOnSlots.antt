-- What a sound block does to the slots and flags of an image.
--     Does W F V G k r op o u     op on key k in region r, with outcome o and undo u, leads from the slots W and flags F to V and G
use Rattle.std.proofs.Common.{◌≡◌, ℕ, ◌+◌, ◌-◌, ◌*◌, ◌++◌, replicate, ◌<◌, Bool, true, false, not, List, [], ◌∷◌, length, get_or, set, Option, Some, None, refl, ap, sym, ◌∙◌, ◌⊎◌, inl, inr, ⊎_elim, ◌≢◌, arith, get_or-set_other, get_or-set_same}
use Rattle.std.specs.Prelude.{◌==◌, if◌then◌else◌, zip}
use Rattle.std.proofs.lemmas.Bool.{eq-eqb, ne_eqb, eqb-false}
use Rattle.std.proofs.lemmas.Bool.Decides.{eqb_tells}
use Rattle.dali_words.specs.declared.Effect.{Effect}
use Rattle.dali_words.specs.Values.{packed, unpacked, is_size, word_at}
use Rattle.dali_words.specs.Effects.{write_all}
use Rattle.dali_geometry.specs.Sizes.{Sizes}
use Rattle.dali_geometry.specs.Places.{is_index}
use Rattle.dali_access.specs.Heap.Cells as cell
use Rattle.dali_access.specs.Heap.Rows as heap
use Rattle.dali_access.specs.Index.Entries as entry
use Rattle.dali_access.specs.Index.Rows as index
use Rattle.dali_record.specs.declared.operations.Op.{Op}
use Rattle.dali_record.specs.declared.operations.Op.TheVariants.{Look, Add, KillEntry, Put, Read, Change, KillCell, FreeCell, ReviveCell, Restore, FreeEntry, ReviveEntry}
use Rattle.dali_record.specs.declared.operations.Outcome.{Outcome}
use Rattle.dali_record.specs.declared.operations.Outcome.TheVariants.{Found, Absent, Added, NoEntry, Killed, Put as PutIn, NoCell, Value, Changed, Undone}
use Rattle.dali_record.specs.declared.operations.Undo.{Undo}
use Rattle.dali_record.specs.declared.operations.Undo.TheVariants.{FreeCell as UndoFreeCell, ReviveCell as UndoReviveCell, Restore as UndoRestore, FreeEntry as UndoFreeEntry, ReviveEntry as UndoReviveEntry}
use Rattle.dali_record.specs.Operations.{effect, looked, added, undo_of_add, stored, undo_of_put}
use Rattle.dali_access.specs.Index.Entries.{entries}
use Rattle.dali_access.specs.Heap.Cells.{cells}
use Rattle.dali_access.specs.declared.heap.PutOutcome.TheVariants.{Put as PutDone}
use Rattle.dali_access.specs.declared.index.AddOutcome.TheVariants.{Added as AddDone}
use Rattle.dali_record.specs.Legal.{on_kind}
use Rattle.dali_record.specs.Settled.{words_in}
use Rattle.dali_access.proofs.IndexLemmas.Slots.{entry_part, cell_part, Puts, seen_free, cell_free, entry_is, cell_is, value_of-value_at, entry_same, entry_none, cell_none}
use Rattle.dali_access.proofs.IndexLemmas.Moves.{entry_put, entry_state_put, cell_put, cell_value_put, cell_state_put, entry_writes, value_writes, word_zero, held}
use Rattle.dali_history.proofs.SlotsLemmas.OperationFinds.{AddFinds, PutFinds, Each, each_from, entries-from, look_finds, add_finds, put_finds}
use Rattle.dali_access.proofs.IndexLemmas.Worlds.{World, Flags, part, flags, put_at, raise, part_put, part_kept, flags_kept, flags_raised}
use Rattle.dali_access.proofs.IndexLemmas.Fitting.{heap_kind}

abbrev pub IsLive : List ℕ → ℕ → List ℕ → Type 0
IsLive xs n vs = (xs ≡ 1 ∷ n ∷ vs) × (is_size n ≡ true) × (length vs ≡ 5)

abbrev pub Stay : World → Flags → World → Flags → Option Undo → Type 0
Stay W F V G u = (V ≡ W) × (G ≡ F) × (u ≡ None)

abbrev pub Does : World → Flags → World → Flags → ℕ → ℕ → Op → Outcome → Option Undo → Type 0
Does W F V G k r Look o u =
    Stay W F V G u
    × (((i p : ℕ) × (o ≡ Found i p) × (i < 21) × (W k r i ≡ 1 ∷ p ∷ [])) ⊎ ((o ≡ Absent (F r)) × ((i p : ℕ) → W k r i ≢ 1 ∷ p ∷ [])))
Does W F V G k r (Add p) o u =
    ((i : ℕ) × (o ≡ Added i) × (u ≡ Some (UndoFreeEntry i)) × (i < 21) × (W k r i ≡ []) × (V ≡ put_at W k r i (1 ∷ p ∷ [])) × (G ≡ F))
    ⊎ ((o ≡ NoEntry) × (u ≡ None) × (V ≡ W) × (G ≡ raise F r))
Does W F V G k r (KillEntry e) o u =
    ((p : ℕ) × (o ≡ Killed) × (u ≡ Some (UndoReviveEntry e)) × (W k r e ≡ 1 ∷ p ∷ []) × (V ≡ put_at W k r e (2 ∷ p ∷ [])) × (G ≡ F))
    ⊎ (Stay W F V G u × (o ≢ Killed) × ((p : ℕ) → W k r e ≢ 1 ∷ p ∷ []))
Does W F V G k r (Put v) o u =
    ((c : ℕ) × (o ≡ PutIn c) × (u ≡ Some (UndoFreeCell c)) × (0 < c) × (c < 8) × (W k r c ≡ []) × (V ≡ put_at W k r c (1 ∷ length v ∷ packed v)) × (G ≡ F))
    ⊎ (Stay W F V G u × (o ≡ NoCell))
Does W F V G k r (Read c) o u =
    Stay W F V G u × (0 < c → c < 8 → ((n : ℕ) × (xs : List ℕ) × (o ≡ Value (unpacked n xs)) × IsLive (W k r c) n xs)
    ⊎ (((v : List ℕ) → o ≢ Value v) × ((n : ℕ) (xs : List ℕ) → is_size n ≡ true → W k r c ≢ 1 ∷ n ∷ xs)))
Does W F V G k r (Change c v) o u =
    0 < c → c < 8 → ((n : ℕ) × (xs : List ℕ) × (o ≡ Changed) × (u ≡ Some (UndoRestore c n xs)) × IsLive (W k r c) n xs × (V ≡ put_at W k r c (1 ∷ length v ∷ packed v)) × (G ≡ F))
    ⊎ (Stay W F V G u × (o ≢ Changed) × ((n : ℕ) (xs : List ℕ) → is_size n ≡ true → W k r c ≢ 1 ∷ n ∷ xs))
Does W F V G k r (KillCell c) o u =
    0 < c → c < 8 → ((n : ℕ) × (xs : List ℕ) × (o ≡ Killed) × (u ≡ Some (UndoReviveCell c)) × IsLive (W k r c) n xs × (V ≡ put_at W k r c (2 ∷ n ∷ xs)) × (G ≡ F))
    ⊎ (Stay W F V G u × (o ≢ Killed) × ((n : ℕ) (xs : List ℕ) → is_size n ≡ true → W k r c ≢ 1 ∷ n ∷ xs))
Does W F V G k r (FreeCell c) o u = (x : ℕ) (xs : List ℕ) → W k r c ≡ x ∷ xs → (V ≡ put_at W k r c []) × (G ≡ F) × (o ≡ Undone)
Does W F V G k r (ReviveCell c) o u = (x : ℕ) (xs : List ℕ) → W k r c ≡ x ∷ xs → (V ≡ put_at W k r c (1 ∷ xs)) × (G ≡ F) × (o ≡ Undone)
Does W F V G k r (Restore c n vs) o u = (x : ℕ) (xs : List ℕ) → W k r c ≡ x ∷ xs → length vs ≡ 5 → (V ≡ put_at W k r c (x ∷ n ∷ vs)) × (G ≡ F) × (o ≡ Undone)
Does W F V G k r (FreeEntry e) o u = (x : ℕ) (xs : List ℕ) → W k r e ≡ x ∷ xs → (V ≡ put_at W k r e []) × (G ≡ F) × (o ≡ Undone)
Does W F V G k r (ReviveEntry e) o u = (x : ℕ) (xs : List ℕ) → W k r e ≡ x ∷ xs → (V ≡ put_at W k r e (1 ∷ xs)) × (G ≡ F) × (o ≡ Undone)

-- ---- regions of each kind
pub part_entry : (s : Sizes) (image : List (List ℕ)) (k r i : ℕ) → is_index s r ≡ true → part s image k r i ≡ entry_part k (words_in image r) i
unfolding part
part_entry s image k r i h = rw h refl

pub part_cell : (s : Sizes) (image : List (List ℕ)) (k r i : ℕ) → is_index s r ≡ false → part s image k r i ≡ cell_part k (words_in image r) i
unfolding part
part_cell s image k r i h = rw h refl

part_put_entry : (s : Sizes) (image : List (List ℕ)) (r : ℕ) (vs : List ℕ) (k i : ℕ) (xs : List ℕ) → is_index s r ≡ true → r < length image → Puts entry_part (words_in image r) vs k i xs → part s (set image r vs) ≡ put_at (part s image) k r i xs
part_put_entry s image r vs k i xs kind within h = part_put s image r vs k i xs within (rw kind h)

part_put_cell : (s : Sizes) (image : List (List ℕ)) (r : ℕ) (vs : List ℕ) (k i : ℕ) (xs : List ℕ) → is_index s r ≡ false → r < length image → Puts cell_part (words_in image r) vs k i xs → part s (set image r vs) ≡ put_at (part s image) k r i xs
part_put_cell s image r vs k i xs kind within h = part_put s image r vs k i xs within (rw kind h)

-- a region written as it was
stays : (s : Sizes) (image : List (List ℕ)) (r : ℕ) (vs : List ℕ) → r < length image → vs ≡ words_in image r → (part s (set image r vs) ≡ part s image) × (flags (set image r vs) ≡ flags image)
stays s image r vs within e = (part_kept s image r vs within (rw e (λ q j. refl)), flags_kept image r vs within (rw e refl))

-- ---- index operations
entry_live : (ws : List ℕ) (k e p : ℕ) → entry.state_of ws e ≡ 1 → entry.key_of ws e ≡ k → entry.place_of ws e ≡ p → entry_part k ws e ≡ 1 ∷ p ∷ []
entry_live ws k e p a b c = rw (a, b, c, eq-eqb k k refl) refl

-- the operation on the words of region r, written back there
abbrev pub DoesIn : Sizes → List (List ℕ) → ℕ → ℕ → Op → Effect → Outcome → Option Undo → Type 0
DoesIn s image k r op e o u = Does (part s image) (flags image) (part s (set image r e.after)) (flags (set image r e.after)) k r op o u

abbrev pub Performs : Sizes → List (List ℕ) → ℕ → ℕ → Op → Type 0
Performs s image k r op = DoesIn s image k r op (effect op k (words_in image r)).0 (effect op k (words_in image r)).1 (effect op k (words_in image r)).2

-- the words of an image's region
abbrev pub IsRegion : Sizes → List (List ℕ) → ℕ → Type 0
IsRegion s image r = (r < length image) × (length (words_in image r) ≡ 64)

flag_is : (image : List (List ℕ)) (r : ℕ) → not (entry.flag_of (words_in image r) == 0) ≡ flags image r
unfolding flags
flag_is image r = refl

does_look : (s : Sizes) (image : List (List ℕ)) (k r : ℕ) → IsRegion s image r → is_index s r ≡ true → Performs s image k r Look
does_look s image k r within kind =
    let f = look_finds (words_in image r) k in
    let same = stays s image r (index.look (words_in image r) k).0.after within.0 f.1 in (
      (same.0, same.1, refl),
      ⊎_elim
          (λ a. inl (a.0, a.1, ap looked a.2, a.3, part_entry s image k r a.0 kind ∙ entry_live (words_in image r) k a.0 a.1 a.4 a.5 a.6))
          (λ a. inr (ap looked a.0 ∙ ap (λ b. Absent b) (flag_is image r), none a.1))
          f.2,
    )
  where
    none : Each (λ i. entry.state_of (words_in image r) i ≡ 1 → entry.key_of (words_in image r) i ≢ k) entries → (i p : ℕ) → part s image k r i ≢ 1 ∷ p ∷ []
    none all i p h =
        let at : entry_part k (words_in image r) i ≡ 1 ∷ p ∷ [] = sym (part_entry s image k r i kind) ∙ h in
        let is = entry_is k (words_in image r) i 1 (p ∷ []) at in
        let small = entry_none k (words_in image r) i 1 (p ∷ []) within.1 at in
        let each = each_from (λ j. entry.state_of (words_in image r) j ≡ 1 → entry.key_of (words_in image r) j ≢ k) 0 21 (rw entries-from at all) i (omega arith) (omega arith) in
        each is.0 is.2

does_add : (s : Sizes) (image : List (List ℕ)) (k r p : ℕ) → IsRegion s image r → is_index s r ≡ true → Performs s image k r (Add p)
does_add s image k r p within kind = ⊎_elim (λ a. inl (put a)) (λ a. let n = none a.1 (entry.flag_of (words_in image r) == 0) refl in inr (ap added a.0, ap undo_of_add a.0, n.0, n.1)) f.1
  where
    f : AddFinds (words_in image r) k p (index.add (words_in image r) k p).0 (index.add (words_in image r) k p).1 entries
    f = add_finds (words_in image r) k p

    put :
        (i : ℕ) × ((index.add (words_in image r) k p).1 ≡ AddDone i) × (i < 21) × (entry.state_of (words_in image r) i ≡ 0) × ((index.add (words_in image r) k p).0.after ≡ write_all (words_in image r) (entry_writes i k p))
        → (i : ℕ) × (added (index.add (words_in image r) k p).1 ≡ Added i) × (undo_of_add (index.add (words_in image r) k p).1 ≡ Some (UndoFreeEntry i)) × (i < 21) × (part s image k r i ≡ []) × (part s (set image r (index.add (words_in image r) k p).0.after) ≡ put_at (part s image) k r i (1 ∷ p ∷ [])) × (flags (set image r (index.add (words_in image r) k p).0.after) ≡ flags image)
    put a = (
      a.0,
      ap added a.1,
      ap undo_of_add a.1,
      a.2,
      part_entry s image k r a.0 kind ∙ seen_free k (entry.key_of (words_in image r) a.0) (entry.state_of (words_in image r) a.0) (entry.place_of (words_in image r) a.0 ∷ []) a.3,
      rw (a.4) (part_put_entry s image r (write_all (words_in image r) (entry_writes a.0 k p)) k a.0 (1 ∷ p ∷ []) kind within.0 (entry_put (words_in image r) k a.0 p (omega (arith, within.1, a.2)) a.3)),
      rw (a.4) (flags_kept image r (write_all (words_in image r) (entry_writes a.0 k p)) within.0 (word_zero (words_in image r) (entry_writes a.0 k p) (omega arith))),
    )

    none :
        (index.add (words_in image r) k p).0.after ≡ (if entry.flag_of (words_in image r) == 0 then set (words_in image r) 0 1 else words_in image r)
        → (b : Bool) → (entry.flag_of (words_in image r) == 0) ≡ b → (part s (set image r (index.add (words_in image r) k p).0.after) ≡ part s image) × (flags (set image r (index.add (words_in image r) k p).0.after) ≡ raise (flags image) r)
    none e true g =
        let after : (index.add (words_in image r) k p).0.after ≡ set (words_in image r) 0 1 = rw g at e in
        let flag : get_or (set (words_in image r) 0 1) 0 0 ≡ 1 = get_or-set_same (words_in image r) 0 1 0 (omega (arith, within.1)) in
        rw after (
          part_kept s image r (set (words_in image r) 0 1) within.0 (rw kind (λ q j. entry_same (words_in image r) (set (words_in image r) 0 1) j (other (3 * j + 1) (omega arith)) (other (3 * j + 2) (omega arith)) (other (3 * j + 3) (omega arith)) q)),
          flags_raised image r (set (words_in image r) 0 1) within.0 (λ h. omega (arith, flag, h)),
        )
      where
        other : (i : ℕ) → i ≢ 0 → get_or (set (words_in image r) 0 1) i 0 ≡ get_or (words_in image r) i 0
        other i h = get_or-set_other (words_in image r) 0 i 1 0 h
    none e false g =
        let after : (index.add (words_in image r) k p).0.after ≡ words_in image r = rw g at e in
        let same = stays s image r (index.add (words_in image r) k p).0.after within.0 after in
        (same.0, flags_raised image r (index.add (words_in image r) k p).0.after within.0 (λ h. eqb-false (entry.flag_of (words_in image r)) 0 g (ap entry.flag_of (sym after) ∙ h)))

-- ---- cells and entries that are freed, revived or restored
-- the state of an entry that is used is written
entry_state : (s : Sizes) (image : List (List ℕ)) (k r e y x : ℕ) (xs : List ℕ) → IsRegion s image r → is_index s r ≡ true → part s image k r e ≡ y ∷ xs → (part s (set image r (set (words_in image r) (entry.state_word e) x)) ≡ put_at (part s image) k r e (held x xs)) × (flags (set image r (set (words_in image r) (entry.state_word e) x)) ≡ flags image)
entry_state s image k r e y x xs within kind h =
    let at : entry_part k (words_in image r) e ≡ y ∷ xs = sym (part_entry s image k r e kind) ∙ h in
    let small = entry_none k (words_in image r) e y xs within.1 at in (
      part_put_entry s image r (set (words_in image r) (entry.state_word e) x) k e (held x xs) kind within.0 (entry_state_put (words_in image r) k e x y xs (omega (arith, within.1)) at),
      flags_kept image r (set (words_in image r) (entry.state_word e) x) within.0 (word_zero (words_in image r) ((entry.state_word e, x) ∷ []) (omega arith)),
    )

cell_state : (s : Sizes) (image : List (List ℕ)) (k r c y x : ℕ) (xs : List ℕ) → IsRegion s image r → is_index s r ≡ false → part s image k r c ≡ y ∷ xs → (part s (set image r (set (words_in image r) (cell.state_word c) x)) ≡ put_at (part s image) k r c (held x xs)) × (flags (set image r (set (words_in image r) (cell.state_word c) x)) ≡ flags image)
cell_state s image k r c y x xs within kind h =
    let at : cell_part k (words_in image r) c ≡ y ∷ xs = sym (part_cell s image k r c kind) ∙ h in
    let small = cell_none k (words_in image r) c y xs within.1 at in (
      part_put_cell s image r (set (words_in image r) (cell.state_word c) x) k c (held x xs) kind within.0 (cell_state_put (words_in image r) k c x y xs small.0 (omega (arith, within.1, small.1)) at),
      flags_kept image r (set (words_in image r) (cell.state_word c) x) within.0 (word_zero (words_in image r) ((cell.state_word c, x) ∷ []) (omega (arith, small.0))),
    )

does_kill_entry : (s : Sizes) (image : List (List ℕ)) (k r e : ℕ) → IsRegion s image r → is_index s r ≡ true → Performs s image k r (KillEntry e)
does_kill_entry s image k r e within kind = go (eqb_tells (entry.state_of (words_in image r) e) 1) (eqb_tells (entry.key_of (words_in image r) e) k)
  where
    same : (part s (set image r (words_in image r)) ≡ part s image) × (flags (set image r (words_in image r)) ≡ flags image)
    same = stays s image r (words_in image r) within.0 refl

    go :
        (((entry.state_of (words_in image r) e == 1) ≡ true) × (entry.state_of (words_in image r) e ≡ 1)) ⊎ (((entry.state_of (words_in image r) e == 1) ≡ false) × (entry.state_of (words_in image r) e ≢ 1))
        → (((entry.key_of (words_in image r) e == k) ≡ true) × (entry.key_of (words_in image r) e ≡ k)) ⊎ (((entry.key_of (words_in image r) e == k) ≡ false) × (entry.key_of (words_in image r) e ≢ k))
        → Performs s image k r (KillEntry e)
    go (inl p) (inl q) =
        let live : part s image k r e ≡ 1 ∷ entry.place_of (words_in image r) e ∷ [] = part_entry s image k r e kind ∙ entry_live (words_in image r) k e (entry.place_of (words_in image r) e) p.1 q.1 refl in
        let put = entry_state s image k r e 1 2 (entry.place_of (words_in image r) e ∷ []) within kind live in
        rw (p.0, q.0) (inl (entry.place_of (words_in image r) e, refl, refl, live, put.0, put.1))
    go (inl p) (inr q) = rw (p.0, q.0) (inr ((same.0, same.1, refl), (λ h. absurd (cc)), λ v h. q.1 (entry_is k (words_in image r) e 1 (v ∷ []) (sym (part_entry s image k r e kind) ∙ h)).2))
    go (inr p) q = rw (p.0) (inr ((same.0, same.1, refl), (λ h. absurd (cc)), λ v h. p.1 (entry_is k (words_in image r) e 1 (v ∷ []) (sym (part_entry s image k r e kind) ∙ h)).0))

-- ---- heap operations
does_put : (s : Sizes) (image : List (List ℕ)) (k r : ℕ) (v : List ℕ) → IsRegion s image r → is_index s r ≡ false → Performs s image k r (Put v)
does_put s image k r v within kind = ⊎_elim (λ a. inl (put a)) (λ a. let same = stays s image r (heap.put (words_in image r) k v).0.after within.0 a.1 in inr ((same.0, same.1, ap undo_of_put a.0), ap stored a.0)) f.1
  where
    f : PutFinds (words_in image r) k v (heap.put (words_in image r) k v).0 (heap.put (words_in image r) k v).1 cells
    f = put_finds (words_in image r) k v

    put :
        (c : ℕ) × ((heap.put (words_in image r) k v).1 ≡ PutDone c) × (0 < c) × (c < 8) × (cell.state_of (words_in image r) c ≡ 0) × ((heap.put (words_in image r) k v).0.after ≡ write_all (words_in image r) (zip (cell.cell_words c) (1 ∷ k ∷ length v ∷ packed v)))
        → (c : ℕ) × (stored (heap.put (words_in image r) k v).1 ≡ PutIn c) × (undo_of_put (heap.put (words_in image r) k v).1 ≡ Some (UndoFreeCell c)) × (0 < c) × (c < 8) × (part s image k r c ≡ []) × (part s (set image r (heap.put (words_in image r) k v).0.after) ≡ put_at (part s image) k r c (1 ∷ length v ∷ packed v)) × (flags (set image r (heap.put (words_in image r) k v).0.after) ≡ flags image)
    put a = (
      a.0,
      ap stored a.1,
      ap undo_of_put a.1,
      a.2,
      a.3,
      part_cell s image k r a.0 kind ∙ cell_free k (words_in image r) a.0 a.4,
      rw (a.5) (part_put_cell s image r (write_all (words_in image r) (zip (cell.cell_words a.0) (1 ∷ k ∷ length v ∷ packed v))) k a.0 (1 ∷ length v ∷ packed v) kind within.0 (cell_put (words_in image r) k a.0 (length v) (word_at (v ++ replicate (40 - length v) 0) 0) (word_at (v ++ replicate (40 - length v) 0) 1) (word_at (v ++ replicate (40 - length v) 0) 2) (word_at (v ++ replicate (40 - length v) 0) 3) (word_at (v ++ replicate (40 - length v) 0) 4) a.2 (omega (arith, within.1, a.3)) a.4)),
      rw (a.5) (flags_kept image r (write_all (words_in image r) (zip (cell.cell_words a.0) (1 ∷ k ∷ length v ∷ packed v))) within.0 (word_zero (words_in image r) (zip (cell.cell_words a.0) (1 ∷ k ∷ length v ∷ packed v)) (let some = a.2 in omega arith))),
    )

-- what a live cell holds, as the rows read it
abbrev pub CellIs : List ℕ → ℕ → ℕ → Type 0
CellIs ws k c = (cell.state_of ws c ≡ 1) × (cell.key_of ws c ≡ k) × (is_size (cell.length_of ws c) ≡ true)

-- the tests that read, change and kill make
cell_tests : (ws : List ℕ) (k c : ℕ) → ((CellIs ws k c) × ((cell.state_of ws c == 1) ≡ true) × ((cell.key_of ws c == k) ≡ true)) ⊎ (((cell.state_of ws c == 1) ≡ false) × (cell.state_of ws c ≢ 1)) ⊎ (((cell.state_of ws c == 1) ≡ true) × ((cell.key_of ws c == k) ≡ false) × (cell.key_of ws c ≢ k)) ⊎ (((cell.state_of ws c == 1) ≡ true) × ((cell.key_of ws c == k) ≡ true) × (is_size (cell.length_of ws c) ≡ false))
cell_tests ws k c = go (eqb_tells (cell.state_of ws c) 1) (eqb_tells (cell.key_of ws c) k) (is_size (cell.length_of ws c)) refl
  where
    go :
        (((cell.state_of ws c == 1) ≡ true) × (cell.state_of ws c ≡ 1)) ⊎ (((cell.state_of ws c == 1) ≡ false) × (cell.state_of ws c ≢ 1))
        → (((cell.key_of ws c == k) ≡ true) × (cell.key_of ws c ≡ k)) ⊎ (((cell.key_of ws c == k) ≡ false) × (cell.key_of ws c ≢ k))
        → (b : Bool) → is_size (cell.length_of ws c) ≡ b
        → ((CellIs ws k c) × ((cell.state_of ws c == 1) ≡ true) × ((cell.key_of ws c == k) ≡ true)) ⊎ (((cell.state_of ws c == 1) ≡ false) × (cell.state_of ws c ≢ 1)) ⊎ (((cell.state_of ws c == 1) ≡ true) × ((cell.key_of ws c == k) ≡ false) × (cell.key_of ws c ≢ k)) ⊎ (((cell.state_of ws c == 1) ≡ true) × ((cell.key_of ws c == k) ≡ true) × (is_size (cell.length_of ws c) ≡ false))
    go (inl p) (inl q) true h = inl ((p.1, q.1, h), p.0, q.0)
    go (inl p) (inl q) false h = inr (inr (inr (p.0, q.0, h)))
    go (inl p) (inr q) b h = inr (inr (inl (p.0, q.0, q.1)))
    go (inr p) q b h = inr (inl (p.0, p.1))

-- a live cell in the image
cell_live : (s : Sizes) (image : List (List ℕ)) (k r c : ℕ) → IsRegion s image r → is_index s r ≡ false → 0 < c → c < 8 → CellIs (words_in image r) k c → IsLive (part s image k r c) (cell.length_of (words_in image r) c) (cell.value_of (words_in image r) c)
cell_live s image k r c within kind some small h =
    let value = value_of-value_at (words_in image r) c (omega (arith, within.1)) in
    (part_cell s image k r c kind ∙ rw (ne_eqb c 0 (λ e. omega arith), h.0, h.1, eq-eqb k k refl, value) refl, h.2, ap length value)

-- and one that isn't
not_live : (s : Sizes) (image : List (List ℕ)) (k r c n : ℕ) (xs : List ℕ) → is_index s r ≡ false → part s image k r c ≡ 1 ∷ n ∷ xs → (cell.state_of (words_in image r) c ≡ 1) × (cell.key_of (words_in image r) c ≡ k) × (cell.length_of (words_in image r) c ≡ n)
not_live s image k r c n xs kind h =
    let is = cell_is k (words_in image r) c 1 (n ∷ xs) (sym (part_cell s image k r c kind) ∙ h) in
    let rest = is.1 in
    (is.0, is.2, cc rest)

does_read : (s : Sizes) (image : List (List ℕ)) (k r c : ℕ) → IsRegion s image r → is_index s r ≡ false → Performs s image k r (Read c)
does_read s image k r c within kind = ⊎_elim live (λ a. ⊎_elim dead (λ b. ⊎_elim other odd b) a) (cell_tests (words_in image r) k c)
  where
    same : (part s (set image r (words_in image r)) ≡ part s image) × (flags (set image r (words_in image r)) ≡ flags image)
    same = stays s image r (words_in image r) within.0 refl

    live : (CellIs (words_in image r) k c) × ((cell.state_of (words_in image r) c == 1) ≡ true) × ((cell.key_of (words_in image r) c == k) ≡ true) → Performs s image k r (Read c)
    live p = let size = p.0.2 in rw (p.1, p.2, size) ((same.0, same.1, refl), λ some small. inl (cell.length_of (words_in image r) c, cell.value_of (words_in image r) c, refl, cell_live s image k r c within kind some small p.0))

    dead : ((cell.state_of (words_in image r) c == 1) ≡ false) × (cell.state_of (words_in image r) c ≢ 1) → Performs s image k r (Read c)
    dead p = rw (p.0) ((same.0, same.1, refl), λ some small. inr ((λ v h. absurd (cc)), λ n xs f h. p.1 (not_live s image k r c n xs kind h).0))

    other : ((cell.state_of (words_in image r) c == 1) ≡ true) × ((cell.key_of (words_in image r) c == k) ≡ false) × (cell.key_of (words_in image r) c ≢ k) → Performs s image k r (Read c)
    other p = rw (p.0, p.1) ((same.0, same.1, refl), λ some small. inr ((λ v h. absurd (cc)), λ n xs f h. p.2 (not_live s image k r c n xs kind h).1))

    odd : ((cell.state_of (words_in image r) c == 1) ≡ true) × ((cell.key_of (words_in image r) c == k) ≡ true) × (is_size (cell.length_of (words_in image r) c) ≡ false) → Performs s image k r (Read c)
    odd p = rw (p.0, p.1, p.2) ((same.0, same.1, refl), λ some small. inr ((λ v h. absurd (cc)), λ n xs f h. let size : is_size (cell.length_of (words_in image r) c) ≡ true = ap is_size (not_live s image k r c n xs kind h).2 ∙ f in absurd (cc (size, p.2))))

does_change : (s : Sizes) (image : List (List ℕ)) (k r c : ℕ) (v : List ℕ) → IsRegion s image r → is_index s r ≡ false → Performs s image k r (Change c v)
does_change s image k r c v within kind = ⊎_elim live (λ a. ⊎_elim dead (λ b. ⊎_elim other odd b) a) (cell_tests (words_in image r) k c)
  where
    same : (part s (set image r (words_in image r)) ≡ part s image) × (flags (set image r (words_in image r)) ≡ flags image)
    same = stays s image r (words_in image r) within.0 refl

    live : (CellIs (words_in image r) k c) × ((cell.state_of (words_in image r) c == 1) ≡ true) × ((cell.key_of (words_in image r) c == k) ≡ true) → Performs s image k r (Change c v)
    live p = let size = p.0.2 in rw (p.1, p.2, size) (λ some small. inl (cell.length_of (words_in image r) c, cell.value_of (words_in image r) c, refl, refl, cell_live s image k r c within kind some small p.0, put some small, flag some))
      where
        put : 0 < c → c < 8 → part s (set image r (write_all (words_in image r) (zip (cell.length_word c ∷ cell.value_words c) (length v ∷ packed v)))) ≡ put_at (part s image) k r c (1 ∷ length v ∷ packed v)
        put some small =
            part_put_cell s image r (write_all (words_in image r) (zip (cell.length_word c ∷ cell.value_words c) (length v ∷ packed v))) k c (1 ∷ length v ∷ packed v) kind within.0
            (cell_value_put (words_in image r) k c 1 (cell.length_of (words_in image r) c ∷ cell.value_of (words_in image r) c) (length v) (word_at (v ++ replicate (40 - length v) 0) 0) (word_at (v ++ replicate (40 - length v) 0) 1) (word_at (v ++ replicate (40 - length v) 0) 2) (word_at (v ++ replicate (40 - length v) 0) 3) (word_at (v ++ replicate (40 - length v) 0) 4) some (omega (arith, within.1))
            (sym (part_cell s image k r c kind) ∙ (cell_live s image k r c within kind some small p.0).0))

        flag : 0 < c → flags (set image r (write_all (words_in image r) (zip (cell.length_word c ∷ cell.value_words c) (length v ∷ packed v)))) ≡ flags image
        flag some = flags_kept image r (write_all (words_in image r) (zip (cell.length_word c ∷ cell.value_words c) (length v ∷ packed v))) within.0 (word_zero (words_in image r) (zip (cell.length_word c ∷ cell.value_words c) (length v ∷ packed v)) (omega arith))

    dead : ((cell.state_of (words_in image r) c == 1) ≡ false) × (cell.state_of (words_in image r) c ≢ 1) → Performs s image k r (Change c v)
    dead p = rw (p.0) (λ some small. inr ((same.0, same.1, refl), (λ h. absurd (cc)), λ n xs f h. p.1 (not_live s image k r c n xs kind h).0))

    other : ((cell.state_of (words_in image r) c == 1) ≡ true) × ((cell.key_of (words_in image r) c == k) ≡ false) × (cell.key_of (words_in image r) c ≢ k) → Performs s image k r (Change c v)
    other p = rw (p.0, p.1) (λ some small. inr ((same.0, same.1, refl), (λ h. absurd (cc)), λ n xs f h. p.2 (not_live s image k r c n xs kind h).1))

    odd : ((cell.state_of (words_in image r) c == 1) ≡ true) × ((cell.key_of (words_in image r) c == k) ≡ true) × (is_size (cell.length_of (words_in image r) c) ≡ false) → Performs s image k r (Change c v)
    odd p = rw (p.0, p.1, p.2) (λ some small. inr ((same.0, same.1, refl), (λ h. absurd (cc)), λ n xs f h. let size : is_size (cell.length_of (words_in image r) c) ≡ true = ap is_size (not_live s image k r c n xs kind h).2 ∙ f in absurd (cc (size, p.2))))

does_kill_cell : (s : Sizes) (image : List (List ℕ)) (k r c : ℕ) → IsRegion s image r → is_index s r ≡ false → Performs s image k r (KillCell c)
does_kill_cell s image k r c within kind = ⊎_elim live (λ a. ⊎_elim dead (λ b. ⊎_elim other odd b) a) (cell_tests (words_in image r) k c)
  where
    same : (part s (set image r (words_in image r)) ≡ part s image) × (flags (set image r (words_in image r)) ≡ flags image)
    same = stays s image r (words_in image r) within.0 refl

    live : (CellIs (words_in image r) k c) × ((cell.state_of (words_in image r) c == 1) ≡ true) × ((cell.key_of (words_in image r) c == k) ≡ true) → Performs s image k r (KillCell c)
    live p =
        let size = p.0.2 in
        rw (p.1, p.2, size) (λ some small.
        let is = cell_live s image k r c within kind some small p.0 in
        let put = cell_state s image k r c 1 2 (cell.length_of (words_in image r) c ∷ cell.value_of (words_in image r) c) within kind is.0 in
        inl (cell.length_of (words_in image r) c, cell.value_of (words_in image r) c, refl, refl, is, put.0, put.1))

    dead : ((cell.state_of (words_in image r) c == 1) ≡ false) × (cell.state_of (words_in image r) c ≢ 1) → Performs s image k r (KillCell c)
    dead p = rw (p.0) (λ some small. inr ((same.0, same.1, refl), (λ h. absurd (cc)), λ n xs f h. p.1 (not_live s image k r c n xs kind h).0))

    other : ((cell.state_of (words_in image r) c == 1) ≡ true) × ((cell.key_of (words_in image r) c == k) ≡ false) × (cell.key_of (words_in image r) c ≢ k) → Performs s image k r (KillCell c)
    other p = rw (p.0, p.1) (λ some small. inr ((same.0, same.1, refl), (λ h. absurd (cc)), λ n xs f h. p.2 (not_live s image k r c n xs kind h).1))

    odd : ((cell.state_of (words_in image r) c == 1) ≡ true) × ((cell.key_of (words_in image r) c == k) ≡ true) × (is_size (cell.length_of (words_in image r) c) ≡ false) → Performs s image k r (KillCell c)
    odd p = rw (p.0, p.1, p.2) (λ some small. inr ((same.0, same.1, refl), (λ h. absurd (cc)), λ n xs f h. let size : is_size (cell.length_of (words_in image r) c) ≡ true = ap is_size (not_live s image k r c n xs kind h).2 ∙ f in absurd (cc (size, p.2))))

does_restore : (s : Sizes) (image : List (List ℕ)) (k r c n : ℕ) (vs : List ℕ) → IsRegion s image r → is_index s r ≡ false → Performs s image k r (Restore c n vs)
does_restore s image k r c n (a0 ∷ a1 ∷ a2 ∷ a3 ∷ a4 ∷ []) within kind x xs h long =
    let at : cell_part k (words_in image r) c ≡ x ∷ xs = sym (part_cell s image k r c kind) ∙ h in
    let small = cell_none k (words_in image r) c x xs within.1 at in
    let some = small.0 in (
      part_put_cell s image r (write_all (words_in image r) (value_writes c n a0 a1 a2 a3 a4)) k c (x ∷ n ∷ a0 ∷ a1 ∷ a2 ∷ a3 ∷ a4 ∷ []) kind within.0 (cell_value_put (words_in image r) k c x xs n a0 a1 a2 a3 a4 small.0 (omega (arith, within.1, small.1)) at),
      flags_kept image r (write_all (words_in image r) (value_writes c n a0 a1 a2 a3 a4)) within.0 (word_zero (words_in image r) (value_writes c n a0 a1 a2 a3 a4) (omega arith)),
      refl,
    )
does_restore s image k r c n _ within kind x xs h long = absurd (omega arith)

-- ---- each operation
pub performs : (s : Sizes) (image : List (List ℕ)) (k r : ℕ) (op : Op) → IsRegion s image r → on_kind s r op ≡ true → Performs s image k r op
performs s image k r Look within kind = does_look s image k r within kind
performs s image k r (Add p) within kind = does_add s image k r p within kind
performs s image k r (KillEntry e) within kind = does_kill_entry s image k r e within kind
performs s image k r (Put v) within kind = does_put s image k r v within (heap_kind s r kind)
performs s image k r (Read c) within kind = does_read s image k r c within (heap_kind s r kind)
performs s image k r (Change c v) within kind = does_change s image k r c v within (heap_kind s r kind)
performs s image k r (KillCell c) within kind = does_kill_cell s image k r c within (heap_kind s r kind)
performs s image k r (FreeCell c) within kind = λ x xs h. let a = cell_state s image k r c x 0 xs within (heap_kind s r kind) h in (a.0, a.1, refl)
performs s image k r (ReviveCell c) within kind = λ x xs h. let a = cell_state s image k r c x 1 xs within (heap_kind s r kind) h in (a.0, a.1, refl)
performs s image k r (Restore c n vs) within kind = does_restore s image k r c n vs within (heap_kind s r kind)
performs s image k r (FreeEntry e) within kind = λ x xs h. let a = entry_state s image k r e x 0 xs within kind h in (a.0, a.1, refl)
performs s image k r (ReviveEntry e) within kind = λ x xs h. let a = entry_state s image k r e x 1 xs within kind h in (a.0, a.1, refl)
