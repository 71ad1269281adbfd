-- A sound block, written into an image, does what its operation does.
use Rattle.std.proofs.Common.{◌≡◌, ℕ, ◌+◌, ◌<◌, Bool, true, false, cond, List, [], ◌∷◌, length, set, Option, Some, None, refl, ap, sym, subst, ◌∙◌, ◌⊎◌, inl, inr, ◌≢◌, arith, length-set}
use Rattle.std.specs.Prelude.{◌==◌, zip}
use Rattle.std.proofs.lemmas.Bool.Decides.{eqb_tells}
use Rattle.dali_words.specs.declared.Effect.{Effect}
use Rattle.dali_words.specs.Words.{under, write_under}
use Rattle.dali_words.specs.Effects.{effect_of}
use Rattle.dali_words.specs.Values.{packed, unpacked, is_size}
use Rattle.dali_words.specs.declared.KillOutcome.TheVariants.{NotLive as EntryNotLive, OtherKey as EntryOtherKey, OddLength as KillOddLength, Killed as EntryKilled}
use Rattle.dali_access.specs.declared.heap.ReadOutcome.TheVariants.{NotLive as ReadNotLive, OtherKey as ReadOtherKey, OddLength as ReadOddLength, Value as ReadValue}
use Rattle.dali_access.specs.declared.heap.ChangeOutcome.TheVariants.{NotLive as ChangeNotLive, OtherKey as ChangeOtherKey, OddLength as ChangeOddLength, Changed as ChangeDone}
use Rattle.dali_geometry.specs.Sizes.{Sizes}
use Rattle.dali_access.specs.Heap.Cells as cell
use Rattle.dali_access.specs.Index.Entries as entry
use Rattle.dali_record.specs.declared.operations.Op.{Op}
use Rattle.dali_record.specs.declared.operations.Op.TheVariants.{Look, Add, KillEntry, Put, Read, Change, KillCell, FreeCell, ReviveCell, Restore, FreeEntry, ReviveEntry}
use Rattle.dali_record.specs.declared.operations.Block.{Block}
use Rattle.dali_record.specs.Operations.{effect}
use Rattle.dali_record.specs.Blocks.{IsSoundOn, rewritten}
use Rattle.dali_record.specs.Legal.{on_kind}
use Rattle.dali_record.specs.Log.{Touch, touch_of}
use Rattle.dali_record.specs.Settled.{words_in, redo, redo_touch, redo_all}
use Rattle.dali_record.specs.declared.records.Record.{Record}
use Rattle.dali_access.specs.Index.Invariant.{IsImage}
use Rattle.dali_words.proofs.Writes.{written_back}
use Rattle.dali_history.proofs.SlotsLemmas.OperationFinds.{IsEffect, look_finds, add_finds, put_finds}
use Rattle.dali_access.proofs.IndexLemmas.Worlds.{part, flags, words_in-same, words_in-other}
use Rattle.dali_history.proofs.SlotsLemmas.BlockOnSlots.{Does, IsRegion, performs}
use Rattle.dali_words.proofs.Masks.{length-write_under}

-- the rows with two tests and with three
by_two : {X : Type 0} (ws : List ℕ) (a b : Bool) (r0 r1 r2 : List ℕ) (w : List (ℕ × ℕ)) (o0 o1 o2 : X) → IsEffect ws (cond {A = Effect × X} a (cond {A = Effect × X} b (effect_of ws r0 w, o0) (effect_of ws r1 [], o1)) (effect_of ws r2 [], o2)).0
by_two ws true true r0 r1 r2 w o0 o1 o2 = (r0, w, refl)
by_two ws true false r0 r1 r2 w o0 o1 o2 = (r1, [], refl)
by_two ws false b r0 r1 r2 w o0 o1 o2 = (r2, [], refl)

by_three :
    {X : Type 0} (ws : List ℕ) (a b c : Bool) (r0 r1 r2 r3 : List ℕ) (w : List (ℕ × ℕ)) (o0 o1 o2 o3 : X)
    → IsEffect ws (cond {A = Effect × X} a (cond {A = Effect × X} b (cond {A = Effect × X} c (effect_of ws r0 w, o0) (effect_of ws r1 [], o1)) (effect_of ws r2 [], o2)) (effect_of ws r3 [], o3)).0
by_three ws true true true r0 r1 r2 r3 w o0 o1 o2 o3 = (r0, w, refl)
by_three ws true true false r0 r1 r2 r3 w o0 o1 o2 o3 = (r1, [], refl)
by_three ws true false c r0 r1 r2 r3 w o0 o1 o2 o3 = (r2, [], refl)
by_three ws false b c r0 r1 r2 r3 w o0 o1 o2 o3 = (r3, [], refl)

-- each operation reads some words, and writes some
pub is_effect : (op : Op) (key : ℕ) (ws : List ℕ) → IsEffect ws (effect op key ws).0
is_effect Look key ws = (look_finds ws key).0
is_effect (Add p) key ws = (add_finds ws key p).0
is_effect (KillEntry e) key ws = by_two ws (entry.state_of ws e == 1) (entry.key_of ws e == key) (entry.state_word e ∷ entry.key_word e ∷ []) (entry.state_word e ∷ entry.key_word e ∷ []) (entry.state_word e ∷ []) ((entry.state_word e, 2) ∷ []) EntryKilled (EntryOtherKey (entry.key_of ws e)) (EntryNotLive (entry.state_of ws e))
is_effect (Put v) key ws = (put_finds ws key v).0
is_effect (Read c) key ws = by_three ws (cell.state_of ws c == 1) (cell.key_of ws c == key) (is_size (cell.length_of ws c)) (cell.cell_words c) (cell.state_word c ∷ cell.key_word c ∷ cell.length_word c ∷ []) (cell.state_word c ∷ cell.key_word c ∷ []) (cell.state_word c ∷ []) ([]) (ReadValue (unpacked (cell.length_of ws c) (cell.value_of ws c))) (ReadOddLength (cell.length_of ws c)) (ReadOtherKey (cell.key_of ws c)) (ReadNotLive (cell.state_of ws c))
is_effect (Change c v) key ws = by_three ws (cell.state_of ws c == 1) (cell.key_of ws c == key) (is_size (cell.length_of ws c)) (cell.cell_words c) (cell.state_word c ∷ cell.key_word c ∷ cell.length_word c ∷ []) (cell.state_word c ∷ cell.key_word c ∷ []) (cell.state_word c ∷ []) (zip (cell.length_word c ∷ cell.value_words c) (length v ∷ packed v)) ChangeDone (ChangeOddLength (cell.length_of ws c)) (ChangeOtherKey (cell.key_of ws c)) (ChangeNotLive (cell.state_of ws c))
is_effect (KillCell c) key ws = by_three ws (cell.state_of ws c == 1) (cell.key_of ws c == key) (is_size (cell.length_of ws c)) (cell.state_word c ∷ cell.key_word c ∷ cell.length_word c ∷ []) (cell.state_word c ∷ cell.key_word c ∷ cell.length_word c ∷ []) (cell.state_word c ∷ cell.key_word c ∷ []) (cell.state_word c ∷ []) ((cell.state_word c, 2) ∷ []) EntryKilled (KillOddLength (cell.length_of ws c)) (EntryOtherKey (cell.key_of ws c)) (EntryNotLive (cell.state_of ws c))
is_effect (FreeCell c) key ws = (cell.state_word c ∷ [], (cell.state_word c, 0) ∷ [], refl)
is_effect (ReviveCell c) key ws = (cell.state_word c ∷ [], (cell.state_word c, 1) ∷ [], refl)
is_effect (Restore c n vs) key ws = (cell.length_word c ∷ cell.value_words c, zip (cell.length_word c ∷ cell.value_words c) (n ∷ vs), refl)
is_effect (FreeEntry e) key ws = (entry.state_word e ∷ [], (entry.state_word e, 0) ∷ [], refl)
is_effect (ReviveEntry e) key ws = (entry.state_word e ∷ [], (entry.state_word e, 1) ∷ [], refl)

-- the words of an effect, under its mask, written back
effect_back : (ws : List ℕ) (e : Effect) → IsEffect ws e → write_under e.write (under e.write e.after) ws ≡ e.after
effect_back ws e h = subst (λ (x : Effect). write_under x.write (under x.write x.after) ws ≡ x.after) (sym h.2) (written_back ws h.1)

-- a sound block leaves what its operation leaves
pub sound_rewritten : (ws : List ℕ) (b : Block) → IsSoundOn ws b → rewritten b ws ≡ (effect b.op b.key ws).0.after
sound_rewritten ws b h = ap (λ (x : Block). rewritten x ws) (sym h) ∙ effect_back ws (effect b.op b.key ws).0 (is_effect b.op b.key ws)

pub sound_does :
    (s : Sizes) (image : List (List ℕ)) (b : Block) → IsRegion s image b.region → on_kind s b.region b.op ≡ true → IsSoundOn (words_in image b.region) b
    → Does (part s image) (flags image) (part s (set image b.region (rewritten b (words_in image b.region)))) (flags (set image b.region (rewritten b (words_in image b.region)))) b.key b.region b.op b.outcome b.undo
sound_does s image b within kind sound =
    let o : (effect b.op b.key (words_in image b.region)).1 ≡ b.outcome = ap (λ (x : Block). x.outcome) sound in
    let u : (effect b.op b.key (words_in image b.region)).2 ≡ b.undo = ap (λ (x : Block). x.undo) sound in
    rw (sound_rewritten (words_in image b.region) b sound, ← o, ← u) (performs s image b.key b.region b.op within kind)

-- ---- images keep their form
pub image_set : (s : Sizes) (image : List (List ℕ)) (r : ℕ) (vs : List ℕ) → IsImage s image → (r < s.index + s.heap → length vs ≡ 64) → IsImage s (set image r vs)
image_set s image r vs h long = record {
  some_index = h.some_index;
  some_heap = h.some_heap;
  count = length-set image r vs ∙ h.count;
  words = λ q below. go q below (eqb_tells q r);
}
  where
    go : (q : ℕ) → q < s.index + s.heap → (((q == r) ≡ true) × (q ≡ r)) ⊎ (((q == r) ≡ false) × (q ≢ r)) → length (words_in (set image r vs) q) ≡ 64
    go q below (inl a) = let within : r < length image = omega (arith, h.count, a.1) in let small : r < s.index + s.heap = omega (arith, a.1) in ap (λ x. length (words_in (set image r vs) x)) a.1 ∙ ap length (words_in-same image r vs within) ∙ long small
    go q below (inr a) = ap length (words_in-other image r vs q a.1) ∙ h.words q below

pub image_redo_touch : (s : Sizes) (image : List (List ℕ)) (o : Option Touch) → IsImage s image → IsImage s (redo_touch image o)
image_redo_touch s image None h = h
image_redo_touch s image (Some a) h = image_set s image a.block.region (rewritten a.block (words_in image a.block.region)) h (λ below. length-write_under a.block.write a.block.after (words_in image a.block.region) ∙ h.words a.block.region below)

-- a record keeps the form of an image
pub image_redo : (s : Sizes) (image : List (List ℕ)) (r : Record) → IsImage s image → IsImage s (redo image r)
image_redo s image r h = image_redo_touch s image (touch_of r) h

pub image_redo_all : (s : Sizes) (image : List (List ℕ)) (K : List Record) → IsImage s image → IsImage s (redo_all image K)
image_redo_all s image [] h = h
image_redo_all s image (r ∷ K) h = image_redo_all s (redo image r) K (image_redo s image r h)
