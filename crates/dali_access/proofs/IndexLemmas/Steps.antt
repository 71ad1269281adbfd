-- The laws on the index's invariant, operation by operation.
use Rattle.std.proofs.Common.{◌≡◌, ◌≢◌, ℕ, ◌+◌, ◌*◌, ◌<◌, ◌≤◌, Bool, true, false, cond, List, [], ◌∷◌, length, get_or, set, refl, ap, sym, subst, ◌∙◌, ◌⊎◌, inl, inr, ⊎_elim, arith, length-set, get_or-set_same, get_or-set_other}
use Rattle.std.specs.Prelude.{◌==◌, zip}
use Rattle.std.proofs.lemmas.Bool.{eq-eqb}
use Rattle.dali_words.specs.declared.Effect.{Effect}
use Rattle.dali_words.specs.declared.KillOutcome.TheVariants.{Killed}
use Rattle.dali_words.specs.Values.{packed}
use Rattle.dali_words.specs.Effects.{write_all}
use Rattle.dali_words.proofs.Masks.{length-write_all}
use Rattle.dali_geometry.specs.Sizes.{Sizes}
use Rattle.dali_geometry.specs.Places.{is_index, is_heap, region_at, cell_at, place}
use Rattle.dali_access.specs.declared.heap.PutOutcome.TheVariants.{Put, NoCell}
use Rattle.dali_access.specs.Heap.Cells as cell
use Rattle.dali_access.specs.Heap.Rows as heap
use Rattle.dali_access.proofs.HeapLemmas.CellLaws.{Walked, put_walked}
use Rattle.dali_access.specs.declared.index.AddOutcome.TheVariants.{Added, NoEntry}
use Rattle.dali_access.specs.Index.Entries as entry
use Rattle.dali_access.specs.Index.Rows as index
use Rattle.dali_access.specs.Index.Records.{words_of, is_reached}
use Rattle.dali_access.specs.Index.Invariant.{IsImage, IsIndexed, IsIndexedBut, IsLiveEntry, IsLiveCell, EntryIs, HasEntry, HasNoEntry, HasCell, HasDeadCell, HasDeadEntry, Gap, Matched, CellAlone, EntryAlone, IsMatched, Fits, with_gap, entry_key, entry_place, cell_key}
use Rattle.dali_access.specs.Index.Keeps.{after, UnderWay, KeepsBut, Keeps, GapsAreNone, PutKeeps, AddKeeps, KillCellKeeps, KillEntryKeeps, OthersKeep, FreeEntryKeeps, FreeCellKeeps, ReviveEntryKeeps, ReviveCellKeeps, DeadAreFreed, InsertKeeps, DeleteKeeps}
use Rattle.dali_access.proofs.IndexLemmas.EntryLaws.{Tried, add_walked, look_walked}
use Rattle.dali_access.proofs.IndexLemmas.Slots.{entry_same, entry_part, cell_part}
use Rattle.dali_access.proofs.IndexLemmas.Moves.{held, entry_put, entry_state_put, entry_writes, cell_put, cell_state_put, word_zero}
use Rattle.dali_access.proofs.IndexLemmas.Worlds.{Flags, part, flags, raise_stays, part_kept, flags_kept, flags_raised, words_in-other}
use Rattle.dali_access.proofs.IndexLemmas.Parts.{Part, put_part}
use Rattle.dali_access.proofs.IndexLemmas.Reaches.{Reach}
use Rattle.dali_access.proofs.IndexLemmas.Starts.{tests_reach, reach_tests}
use Rattle.dali_access.proofs.IndexLemmas.Gaps.{LiveEntry, StateOfCell, FitsPart, PartMatched, PartCellAlone, PartEntryAlone, place_heap, region_place, cell_place, is_place_of, gap_put, gap_add, gap_kill_cell, gap_kill_entry, gap_free_cell, gap_dead_cell, gap_free_entry, gap_dead_entry, gap_revive_cell, gap_revive_entry}
use Rattle.dali_access.proofs.IndexLemmas.Fitting.{part_entry, part_cell, index_kind, index_below, heap_kind, heap_bounds, entry_seen, live_seen, seen_entry, cell_seen, fits_part, reached_part}
use Rattle.dali_access.proofs.IndexLemmas.Keeping.{Goes, Kills, plain_step, same_step, cell_step, entry_step, same_gap, value_step, cell_kills, entry_kills, reads_stay, changes_are}

-- ---- no gaps
pub place_at : (p : ℕ) → place (region_at p) (cell_at p) ≡ p
place_at p = omega arith

pub gaps_are_none : GapsAreNone
gaps_are_none = record { all_matched = λ s image x. record { reached = x.reached; keys = λ k. matched s image x k }; indexed = λ s image gaps x all. indexed s image gaps x all }
  where
    matched : (s : Sizes) (image : List (List ℕ)) → IsIndexed s image → (k : ℕ) → IsMatched s image k
    matched s image x k = record {
      one_entry = λ r e q f a b. x.one_entry r e q f (a.0, a.1, a.2) (b.0, b.1, b.2) (a.3 ∙ sym b.3);
      names_cell = λ r e a. let n = x.names_cell r e (a.0, a.1, a.2) in (n.0, n.1.3, n.2 ∙ a.3);
      is_named = λ p a. named p a;
    }
      where
        named : (p : ℕ) → HasCell s image k p → (r e : ℕ) × HasEntry s image k r e × (entry_place image r e ≡ p)
        named p a =
            let heap = place_heap s p a.0 in
            let n = x.is_named (region_at p) (cell_at p) (heap.0, heap.2, heap.3, a.1) in
            let at : entry_place image n.0 n.1 ≡ p = n.3 ∙ place_at p in
            let c = x.names_cell n.0 n.1 n.2 in
            let key : cell_key image (region_at p) (cell_at p) ≡ entry_key image n.0 n.1 = subst (λ z. cell_key image (region_at z) (cell_at z) ≡ entry_key image n.0 n.1) at c.2 in
            (n.0, n.1, (n.2.0, n.2.1, n.2.2, sym key ∙ a.2), at)

    indexed : (s : Sizes) (image : List (List ℕ)) (gaps : ℕ → Gap) → IsIndexedBut s image gaps → ((k : ℕ) → gaps k ≡ Matched) → IsIndexed s image
    indexed s image gaps x all = record {
      one_entry = λ r e q f a b key. (of (entry_key image r e)).one_entry r e q f (a.0, a.1, a.2, refl) (b.0, b.1, b.2, sym key);
      reached = x.reached;
      names_cell = λ r e a. let n = (of (entry_key image r e)).names_cell r e (a.0, a.1, a.2, refl) in let heap = place_heap s (entry_place image r e) n.0 in (n.0, (heap.0, heap.2, heap.3, n.1), n.2);
      is_named = λ r c a. named r c a;
    }
      where
        of : (k : ℕ) → IsMatched s image k
        of k = subst (λ g. Fits s image k g) (all k) (x.keys k)

        named : (r c : ℕ) → IsLiveCell s image r c → (q e : ℕ) × IsLiveEntry s image q e × (entry_place image q e ≡ place r c)
        named r c a =
            let state : cell.state_of (words_of image (region_at (place r c))) (cell_at (place r c)) ≡ 1 = ap (λ z. cell.state_of (words_of image z) (cell_at (place r c))) (region_place r c a.2) ∙ ap (λ z. cell.state_of (words_of image r) z) (cell_place r c a.2) ∙ a.3 in
            let n = (of (cell_key image (region_at (place r c)) (cell_at (place r c)))).is_named (place r c) (is_place_of s r c a.0 (omega (arith, a.1)) a.2, state, refl) in
            (n.0, n.1, (n.2.0, n.2.1, n.2.2), n.3)

-- ---- places and slots
at_cell : (s : Sizes) (P : Part) (r c : ℕ) (xs : List ℕ) (g : Gap) → c < 8 → FitsPart s (put_part P (region_at (place r c)) (cell_at (place r c)) xs) g → FitsPart s (put_part P r c xs) g
at_cell s P r c xs g few h = subst (λ z. FitsPart s (put_part P z c xs) g) (region_place r c few) (subst (λ z. FitsPart s (put_part P (region_at (place r c)) z xs) g) (cell_place r c few) h)

-- what stands in the cell at a place
cell_holds : (s : Sizes) (image : List (List ℕ)) (k r c x : ℕ) → is_heap s r ≡ true → c < 8 → StateOfCell s (part s image k) (place r c) x → (xs : List ℕ) × (cell_part k (words_of image r) c ≡ x ∷ xs)
cell_holds s image k r c x kind few h =
    let there : part s image k r c ≡ x ∷ h.1 = ap (λ z. part s image k z c) (sym (region_place r c few)) ∙ ap (λ z. part s image k (region_at (place r c)) z) (sym (cell_place r c few)) ∙ h.2 in
    (h.1, sym (part_cell s image k r c (heap_kind s r kind)) ∙ there)

entry_holds : (s : Sizes) (image : List (List ℕ)) (k r e x : ℕ) → x ≢ 0 → EntryIs s image k r e x → entry_part k (words_of image r) e ≡ x ∷ entry_place image r e ∷ []
entry_holds s image k r e x some h = sym (part_entry s image k r e (index_kind s r h.0)) ∙ entry_seen s image k r e x some h

no_live : (s : Sizes) (image : List (List ℕ)) (k : ℕ) → IsImage s image → HasNoEntry s image k → (q f o : ℕ) → ¬ LiveEntry s (part s image k) q f o
no_live s image k form none q f o a = none q f (seen_entry s image k q f 1 o form a.0 a.1).0

the_gap : (s : Sizes) (image : List (List ℕ)) (k : ℕ) (g : Gap) (gaps : ℕ → Gap) → UnderWay s image k g gaps → FitsPart s (part s image k) g
the_gap s image k g gaps u = subst (λ z. FitsPart s (part s image k) z) u.gap (fits_part s image k (gaps k) u.form (u.indexed.keys k))

to_set : (s : Sizes) (image : List (List ℕ)) (r : ℕ) (vs us : List ℕ) (gaps : ℕ → Gap) → us ≡ vs → Goes s (set image r vs) gaps → Goes s (set image r us) gaps
to_set s image r vs us gaps e h = subst (λ (xs : List ℕ). Goes s (set image r xs) gaps) (sym e) h

-- ---- a state is written
cell_state_step : (s : Sizes) (image : List (List ℕ)) (gaps : ℕ → Gap) (k r c x y : ℕ) (xs : List ℕ) (g : Gap) → IsImage s image → IsIndexedBut s image gaps → is_heap s r ≡ true → 1 ≤ c → c < 8 → cell_part k (words_of image r) c ≡ y ∷ xs → FitsPart s (put_part (part s image k) r c (held x xs)) g → Goes s (set image r (set (words_of image r) (8 * c) x)) (with_gap k g gaps)
cell_state_step s image gaps k r c x y xs g form idx kind low few was fit =
    let at = heap_bounds s r kind in
    let long : length (words_of image r) ≡ 64 = form.words r at.1 in
    cell_step s image gaps k r c (held x xs) (set (words_of image r) (8 * c) x) g form idx kind (length-set (words_of image r) (8 * c) x ∙ long) (cell_state_put (words_of image r) k c x y xs (omega arith) (omega (arith, long)) was) (word_zero (words_of image r) ((cell.state_word c, x) ∷ []) ((omega arith), tt)) fit

entry_state_step : (s : Sizes) (image : List (List ℕ)) (gaps : ℕ → Gap) (k r e x y : ℕ) (xs : List ℕ) (g : Gap) → IsImage s image → IsIndexedBut s image gaps → r < s.index → e < 21 → entry_part k (words_of image r) e ≡ y ∷ xs → FitsPart s (put_part (part s image k) r e (held x xs)) g → ((z p : ℕ) → held x xs ≡ z ∷ p ∷ [] → Reach s (flags image) k r) → Goes s (set image r (set (words_of image r) (3 * e + 1) x)) (with_gap k g gaps)
entry_state_step s image gaps k r e x y xs g form idx low few was fit reach =
    let long : length (words_of image r) ≡ 64 = form.words r (omega (arith, low)) in
    entry_step s image gaps k r e (held x xs) (set (words_of image r) (3 * e + 1) x) g form idx low (length-set (words_of image r) (3 * e + 1) x ∙ long) (entry_state_put (words_of image r) k e x y xs (omega (arith, long)) was) (word_zero (words_of image r) ((entry.state_word e, x) ∷ []) ((omega arith), tt)) fit reach

-- the walk comes to the region of an entry that is live or dead
entry_reached : (s : Sizes) (image : List (List ℕ)) (gaps : ℕ → Gap) (k r e x : ℕ) → IsImage s image → IsIndexedBut s image gaps → x ≢ 0 → (x ≡ 1) ⊎ (x ≡ 2) → EntryIs s image k r e x → Reach s (flags image) k r
entry_reached s image gaps k r e x form idx some which h = reached_part s image k form idx.reached r e x (entry_place image r e) h.0 (entry_seen s image k r e x some h) which

one_some : ◌≢◌ {A = ℕ} 1 0
one_some e = omega (arith, e)

two_some : ◌≢◌ {A = ℕ} 2 0
two_some e = omega (arith, e)

-- ---- put
pub put_keeps : PutKeeps
put_keeps s image gaps k r v u kind none = ((λ c e. stored c (subst (λ o. Walked ws k v 1 7 eff o) e walked)), (λ e. plain (subst (λ o. Walked ws k v 1 7 eff o) e walked)))
  where
    ws : List ℕ
    ws = words_of image r

    eff : Effect
    eff = (heap.put (words_of image r) k v).0

    walked : Walked ws k v 1 7 eff (heap.put (words_of image r) k v).1
    walked = put_walked (words_of image r) k v

    at : (s.index ≤ r) × (r < s.index + s.heap)
    at = heap_bounds s r kind

    long : length ws ≡ 64
    long = u.form.words r at.1

    stored : (c : ℕ) → Walked ws k v 1 7 eff (Put c) → KeepsBut s image r eff k (CellAlone (place r c)) gaps
    stored c h =
        to_set s image r (write_all ws (zip (cell.cell_words c) (1 ∷ k ∷ length v ∷ packed v))) eff.after (with_gap k (CellAlone (place r c)) gaps) h.4
        (cell_step s image gaps k r c (1 ∷ length v ∷ packed v) (write_all ws (zip (cell.cell_words c) (1 ∷ k ∷ length v ∷ packed v))) (CellAlone (place r c)) u.form u.indexed kind
        (length-write_all ws (zip (cell.cell_words c) (1 ∷ k ∷ length v ∷ packed v)) ∙ long)
        (cell_put ws k c (length v) _ _ _ _ _ (omega (arith, h.0)) (omega (arith, long, h.1)) h.2)
        (word_zero ws (zip (cell.cell_words c) (1 ∷ k ∷ length v ∷ packed v)) (omega (arith, h.0)))
        (gap_put s (part s image k) r c (length v ∷ packed v) (the_gap s image k Matched gaps u) (no_live s image k u.form none) kind at.0 h.0 (omega (arith, h.1))))

    plain : Walked ws k v 1 7 eff NoCell → Keeps s image r eff gaps
    plain h = plain_step s image gaps r eff.after u.form u.indexed at.1 h.1

-- ---- add
pub add_keeps : AddKeeps
add_keeps s image gaps k r p u kind reach = ((λ e eq. stored e (subst (λ o. Tried ws k p 0 21 eff o) eq tried)), (λ eq. raised (subst (λ o. Tried ws k p 0 21 eff o) eq tried)))
  where
    ws : List ℕ
    ws = words_of image r

    eff : Effect
    eff = (index.add (words_of image r) k p).0

    tried : Tried ws k p 0 21 eff (index.add (words_of image r) k p).1
    tried = add_walked (words_of image r) k p

    low : r < s.index
    low = index_below s r kind

    within : r < s.index + s.heap
    within = omega (arith, low)

    size : r < length image
    size = omega (arith, within, u.form.count)

    long : length ws ≡ 64
    long = u.form.words r within

    stored : (e : ℕ) → Tried ws k p 0 21 eff (Added e) → KeepsBut s image r eff k Matched gaps
    stored e h =
        to_set s image r (write_all ws (entry_writes e k p)) eff.after (with_gap k Matched gaps) h.4
        (entry_step s image gaps k r e (1 ∷ p ∷ []) (write_all ws (entry_writes e k p)) Matched u.form u.indexed low (length-write_all ws (entry_writes e k p) ∙ long)
        (entry_put ws k e p (omega (arith, long, h.1)) h.2) (word_zero ws (entry_writes e k p) (omega arith))
        (gap_add s (part s image k) r e p (the_gap s image k (CellAlone p) gaps u) low) (λ x q eq. tests_reach s image k r reach))

    raised : Tried ws k p 0 21 eff NoEntry → Keeps s image r eff gaps
    raised h = to_set s image r (cond (entry.flag_of ws == 0) (set ws 0 1) ws) eff.after gaps h.1 (go (entry.flag_of ws == 0))
      where
        slots : (q j : ℕ) → entry_part q (set ws 0 1) j ≡ entry_part q ws j
        slots q j = entry_same ws (set ws 0 1) j (other (3 * j + 1) (omega arith)) (other (3 * j + 2) (omega arith)) (other (3 * j + 3) (omega arith)) q
          where
            other : (i : ℕ) → i ≢ 0 → get_or (set ws 0 1) i 0 ≡ get_or ws i 0
            other i n = get_or-set_other ws 0 i 1 0 n

        up : entry.flag_of (set ws 0 1) ≢ 0
        up e = let one : get_or (set ws 0 1) 0 0 ≡ 1 = get_or-set_same ws 0 1 0 (omega (arith, long)) in omega (arith, one, e)

        go : (b : Bool) → Goes s (set image r (cond b (set ws 0 1) ws)) gaps
        go true = same_step s image gaps r (set ws 0 1) u.form u.indexed within (length-set ws 0 1 ∙ long) (part_kept s image r (set ws 0 1) size (rw (index_kind s r low) slots)) (λ q h. subst (λ (F : Flags). F q ≡ true) (sym (flags_raised image r (set ws 0 1) size up)) (raise_stays (flags image) r q h))
        go false = plain_step s image gaps r ws u.form u.indexed within refl

-- ---- kills
pub kill_cell_keeps : KillCellKeeps
kill_cell_keeps s image gaps k r c q e u kind low few entry names = ((λ o. ⊎_elim (λ a. dead a.3) (λ a. absurd (a.0 o)) found), (λ o. ⊎_elim (λ a. absurd (o a.0)) (λ a. plain_step s image gaps r eff.after u.form u.indexed at.1 a.1) found))
  where
    ws : List ℕ
    ws = words_of image r

    eff : Effect
    eff = (heap.kill (words_of image r) c k).0

    found : Kills ws (8 * c) k eff (heap.kill (words_of image r) c k).1
    found = cell_kills (words_of image r) c k

    at : (s.index ≤ r) × (r < s.index + s.heap)
    at = heap_bounds s r kind

    live : LiveEntry s (part s image k) q e (place r c)
    live = subst (λ z. LiveEntry s (part s image k) q e z) names (live_seen s image k q e entry)

    matched : PartMatched s (part s image k)
    matched = the_gap s image k Matched gaps u

    holds : (xs : List ℕ) × (cell_part k ws c ≡ 1 ∷ xs)
    holds = cell_holds s image k r c 1 kind (omega (arith, few)) (matched.names_cell q e (place r c) live)

    dead : eff.after ≡ set ws (8 * c) 2 → KeepsBut s image r eff k (EntryAlone q e) gaps
    dead is =
        to_set s image r (set ws (8 * c) 2) eff.after (with_gap k (EntryAlone q e) gaps) is
        (cell_state_step s image gaps k r c 2 1 holds.0 (EntryAlone q e) u.form u.indexed kind low (omega (arith, few)) holds.1
        (at_cell s (part s image k) r c (2 ∷ holds.0) (EntryAlone q e) (omega (arith, few)) (gap_kill_cell s (part s image k) q e (place r c) holds.0 matched live)))

pub kill_entry_keeps : KillEntryKeeps
kill_entry_keeps s image gaps k r e u = ((λ o. ⊎_elim (λ a. dead a.3) (λ a. absurd (a.0 o)) found), (λ o. ⊎_elim (λ a. absurd (o a.0)) (λ a. plain_step s image gaps r eff.after u.form u.indexed (omega (arith, low)) a.1) found))
  where
    ws : List ℕ
    ws = words_of image r

    eff : Effect
    eff = (index.kill (words_of image r) e k).0

    found : Kills ws (3 * e + 1) k eff (index.kill (words_of image r) e k).1
    found = entry_kills (words_of image r) e k

    alone : PartEntryAlone s (part s image k) r e
    alone = the_gap s image k (EntryAlone r e) gaps u

    live : EntryIs s image k r e 1 × (entry_place image r e ≡ alone.at)
    live = seen_entry s image k r e 1 alone.at u.form alone.entry.0 alone.entry.1

    low : r < s.index
    low = alone.entry.0

    dead : eff.after ≡ set ws (3 * e + 1) 2 → KeepsBut s image r eff k Matched gaps
    dead is =
        to_set s image r (set ws (3 * e + 1) 2) eff.after (with_gap k Matched gaps) is
        (entry_state_step s image gaps k r e 2 1 (entry_place image r e ∷ []) Matched u.form u.indexed low live.0.1 (entry_holds s image k r e 1 one_some live.0)
        (gap_kill_entry s (part s image k) r e (entry_place image r e ∷ []) alone) (λ z p _. entry_reached s image gaps k r e 1 u.form u.indexed one_some (inl refl) live.0))

-- ---- what changes no gap
pub others_keep : OthersKeep
others_keep = record {
  look = λ s image gaps k r form idx kind. plain_step s image gaps r (index.look (words_of image r) k).0.after form idx (below s r kind) (look_walked (words_of image r) k).1.1;
  read = λ s image gaps k r c form idx kind low few. plain_step s image gaps r (heap.read (words_of image r) c k).0.after form idx (heap_bounds s r kind).1 (reads_stay (words_of image r) c k);
  change = λ s image gaps k r c v form idx kind low few. ⊎_elim (λ a. value_step s image gaps r c (length v ∷ packed v) (heap.change (words_of image r) c k v).0.after form idx kind low a) (λ a. plain_step s image gaps r (heap.change (words_of image r) c k v).0.after form idx (heap_bounds s r kind).1 a) (changes_are (words_of image r) c k v);
  restore = λ s image gaps r c n vs form idx kind low few. value_step s image gaps r c (n ∷ vs) (heap.restore (words_of image r) c n vs).after form idx kind low refl;
}
  where
    below : (s : Sizes) (r : ℕ) → is_index s r ≡ true → r < s.index + s.heap
    below s r kind = omega (arith, index_below s r kind)

-- ---- what takes back
pub free_entry_keeps : FreeEntryKeeps
free_entry_keeps s image gaps k r e u h =
    entry_state_step s image gaps k r e 0 1 (entry_place image r e ∷ []) (CellAlone (entry_place image r e)) u.form u.indexed h.0 h.1 (entry_holds s image k r e 1 one_some h)
    (gap_free_entry s (part s image k) r e (entry_place image r e) (the_gap s image k Matched gaps u) (live_seen s image k r e h)) (λ z p eq. absurd (cc (eq)))

pub free_cell_keeps : FreeCellKeeps
free_cell_keeps s image gaps k r c kind low few u =
    let alone : PartCellAlone s (part s image k) (place r c) = the_gap s image k (CellAlone (place r c)) gaps u in
    let holds = cell_holds s image k r c 1 kind (omega (arith, few)) alone.cell in
    cell_state_step s image gaps k r c 0 1 holds.0 Matched u.form u.indexed kind low (omega (arith, few)) holds.1
    (at_cell s (part s image k) r c [] Matched (omega (arith, few)) (gap_free_cell s (part s image k) (place r c) alone))

pub revive_entry_keeps : ReviveEntryKeeps
revive_entry_keeps s image gaps k r e u none h dead =
    entry_state_step s image gaps k r e 1 2 (entry_place image r e ∷ []) (EntryAlone r e) u.form u.indexed h.0 h.1 (entry_holds s image k r e 2 two_some h)
    (gap_revive_entry s (part s image k) r e (entry_place image r e) (the_gap s image k Matched gaps u) (no_live s image k u.form none) h.0 (cell_seen s image k (entry_place image r e) 2 two_some dead))
    (λ z p eq. entry_reached s image gaps k r e 2 u.form u.indexed two_some (inr refl) h)

pub revive_cell_keeps : ReviveCellKeeps
revive_cell_keeps s image gaps k r c q e kind low few u names =
    let alone : PartEntryAlone s (part s image k) q e = the_gap s image k (EntryAlone q e) gaps u in
    let at : alone.at ≡ place r c = sym (seen_entry s image k q e 1 alone.at u.form alone.entry.0 alone.entry.1).1 ∙ names in
    let dead : StateOfCell s (part s image k) (place r c) 2 = subst (λ z. StateOfCell s (part s image k) z 2) at alone.dead in
    let holds = cell_holds s image k r c 2 kind (omega (arith, few)) dead in
    let fit : PartMatched s (put_part (part s image k) (region_at (place r c)) (cell_at (place r c)) (1 ∷ holds.0)) = subst (λ z. PartMatched s (put_part (part s image k) (region_at z) (cell_at z) (1 ∷ holds.0))) at (gap_revive_cell s (part s image k) q e holds.0 alone) in
    cell_state_step s image gaps k r c 1 2 holds.0 Matched u.form u.indexed kind low (omega (arith, few)) holds.1
    (at_cell s (part s image k) r c (1 ∷ holds.0) Matched (omega (arith, few)) fit)

pub dead_are_freed : DeadAreFreed
dead_are_freed = record { entry = freed_entry; cell = freed_cell }
  where
    freed_entry : (s : Sizes) (image : List (List ℕ)) (gaps : ℕ → Gap) (k r e : ℕ) → IsImage s image → IsIndexedBut s image gaps → HasDeadEntry s image k r e → Keeps s image r (index.free (words_of image r) e) gaps
    freed_entry s image gaps k r e form idx h =
        same_gap s (after image r (index.free (words_of image r) e)) k (gaps k) gaps refl
        (entry_state_step s image gaps k r e 0 2 (entry_place image r e ∷ []) (gaps k) form idx h.0 h.1 (entry_holds s image k r e 2 two_some h)
        (gap_dead_entry s (part s image k) r e (entry_place image r e ∷ []) h.0 (entry_seen s image k r e 2 two_some h) (gaps k) (fits_part s image k (gaps k) form (idx.keys k))) (λ z p eq. absurd (cc (eq))))

    freed_cell : (s : Sizes) (image : List (List ℕ)) (gaps : ℕ → Gap) (k r c : ℕ) → is_heap s r ≡ true → 1 ≤ c → c ≤ 7 → UnderWay s image k Matched gaps → HasDeadCell s image k (place r c) → Keeps s image r (heap.free (words_of image r) c) gaps
    freed_cell s image gaps k r c kind low few u h =
        let dead = cell_seen s image k (place r c) 2 two_some h in
        let holds = cell_holds s image k r c 2 kind (omega (arith, few)) dead in
        same_gap s (after image r (heap.free (words_of image r) c)) k Matched gaps u.gap
        (cell_state_step s image gaps k r c 0 2 holds.0 Matched u.form u.indexed kind low (omega (arith, few)) holds.1
        (at_cell s (part s image k) r c [] Matched (omega (arith, few)) (gap_dead_cell s (part s image k) (place r c) dead (the_gap s image k Matched gaps u))))

-- ---- whole calls
gap_there : (k : ℕ) (g : Gap) (gaps : ℕ → Gap) → with_gap k g gaps k ≡ g
gap_there k g gaps = rw (eq-eqb k k refl) refl

all_none : (k : ℕ) (g : Gap) (q : ℕ) → with_gap k Matched (with_gap k g (λ _. Matched)) q ≡ Matched
all_none k g q = go (q == k)
  where
    go : (b : Bool) → cond b Matched (cond b g Matched) ≡ Matched
    go true = refl
    go false = refl

other_kind : (s : Sizes) (q r : ℕ) → q < s.index → s.index ≤ r → q ≢ r
other_kind s q r a b e = omega (arith, a, b, e)

-- a put leaves the flags
put_flags : (s : Sizes) (image : List (List ℕ)) (k r c : ℕ) (v : List ℕ) (e : Effect) → IsImage s image → is_heap s r ≡ true → Walked (words_of image r) k v 1 7 e (Put c) → flags (after image r e) ≡ flags image
put_flags s image k r c v e form kind h =
    flags_kept image r e.after (omega (arith, (heap_bounds s r kind).1, form.count))
    (ap entry.flag_of h.4 ∙ word_zero (words_of image r) (zip (cell.cell_words c) (1 ∷ k ∷ length v ∷ packed v)) (omega (arith, h.0)))

pub insert_keeps : InsertKeeps
insert_keeps s image k r c q e v form idx none kind low reach put add =
    let first = (put_keeps s image (λ _. Matched) k r v (record { form = form; indexed = gaps_are_none.all_matched s image idx; gap = refl }) kind none).0 c put in
    let flag : flags one ≡ flags image = put_flags s image k r c v (heap.put (words_of image r) k v).0 form kind (subst (λ o. Walked (words_of image r) k v 1 7 (heap.put (words_of image r) k v).0 o) put (put_walked (words_of image r) k v)) in
    let up : is_reached s one k q ≡ true = reach_tests s one k q (subst (λ (F : Flags). Reach s F k q) (sym flag) (tests_reach s image k q reach)) in
    let way : UnderWay s one k (CellAlone (place r c)) gaps = record { form = first.0; indexed = first.1; gap = gap_there k (CellAlone (place r c)) (λ _. Matched) } in
    let second = (add_keeps s one gaps k q (place r c) way low up).0 e (subst (λ (ws : List ℕ). (index.add ws k (place r c)).1 ≡ Added e) (sym same) add) in
    let two : IsIndexed s (after one q (index.add (words_of one q) k (place r c)).0) = gaps_are_none.indexed s (after one q (index.add (words_of one q) k (place r c)).0) (with_gap k Matched gaps) second.1 (all_none k (CellAlone (place r c))) in
    subst (λ (ws : List ℕ). IsIndexed s (after one q (index.add ws k (place r c)).0)) same two
  where
    one : List (List ℕ)
    one = after image r (heap.put (words_of image r) k v).0

    gaps : ℕ → Gap
    gaps = with_gap k (CellAlone (place r c)) (λ _. Matched)

    same : words_of one q ≡ words_of image q
    same = words_in-other image r (heap.put (words_of image r) k v).0.after q (other_kind s q r (index_below s q low) (heap_bounds s r kind).0)

pub delete_keeps : DeleteKeeps
delete_keeps s image k r c q e form idx entry names kind low few cell_dead entry_dead =
    let first = (kill_cell_keeps s image (λ _. Matched) k r c q e (record { form = form; indexed = gaps_are_none.all_matched s image idx; gap = refl }) kind low few entry names).0 cell_dead in
    let way : UnderWay s one k (EntryAlone q e) gaps = record { form = first.0; indexed = first.1; gap = gap_there k (EntryAlone q e) (λ _. Matched) } in
    let second = (kill_entry_keeps s one gaps k q e way).0 (subst (λ (ws : List ℕ). (index.kill ws e k).1 ≡ Killed) (sym same) entry_dead) in
    let two : IsIndexed s (after one q (index.kill (words_of one q) e k).0) = gaps_are_none.indexed s (after one q (index.kill (words_of one q) e k).0) (with_gap k Matched gaps) second.1 (all_none k (EntryAlone q e)) in
    subst (λ (ws : List ℕ). IsIndexed s (after one q (index.kill ws e k).0)) same two
  where
    one : List (List ℕ)
    one = after image r (heap.kill (words_of image r) c k).0

    gaps : ℕ → Gap
    gaps = with_gap k (EntryAlone q e) (λ _. Matched)

    same : words_of one q ≡ words_of image q
    same = words_in-other image r (heap.kill (words_of image r) c k).0.after q (other_kind s q r entry.0 (heap_bounds s r kind).0)
