-- What has been taken, along the records of an epoch.
--     Was s r i J              an operation of J took slot i of region r
--     WereThere s J us         so it is of each slot that one of these undos revives
--     Held s base J            each slot that stands was taken; so was each that an undo may revive; and what calls know of full regions
use Rattle.std.proofs.Common.{◌≡◌, ℕ, Bool, true, false, List, [], ◌∷◌, ◌++◌, length, set, Option, Some, None, refl, ap, sym, subst, ◌∙◌, ◌⊎◌, inl, inr, ⊎_elim, arith}
use Rattle.std.specs.Prelude.{⊤, Contains, filter_map}
use Rattle.std.proofs.lemmas.Bool.{and_parts}
use Rattle.std.proofs.lemmas.List.Elements.{Contains-push, Contains-push_cases, filter_map-append}
use Rattle.dali_lists.proofs.Options.{some_of}
use Rattle.dali_geometry.specs.Sizes.{Sizes}
use Rattle.dali_geometry.specs.Places.{is_index, formatted_image}
use Rattle.dali_record.specs.declared.operations.Op.{Op}
use Rattle.dali_record.specs.declared.operations.Op.TheVariants.{Look, Add, KillEntry, Put, Read, Change, KillCell, FreeCell, ReviveCell, Restore, FreeEntry, ReviveEntry}
use Rattle.dali_record.specs.declared.operations.Outcome.TheVariants.{NoEntry, NoCell}
use Rattle.dali_record.specs.declared.operations.Undo.{Undo}
use Rattle.dali_record.specs.declared.operations.Undo.TheVariants.{FreeCell as UndoFreeCell, ReviveCell as UndoReviveCell, Restore as UndoRestore, FreeEntry as UndoFreeEntry, ReviveEntry as UndoReviveEntry}
use Rattle.dali_record.specs.declared.operations.Pending.{Pending}
use Rattle.dali_record.specs.declared.operations.Block.{Block}
use Rattle.dali_record.specs.declared.records.Call.{Call}
use Rattle.dali_record.specs.declared.records.Call.TheVariants.{Insert, Update, Delete, Get}
use Rattle.dali_record.specs.declared.records.Answer.{Answer}
use Rattle.dali_record.specs.declared.records.Answer.TheVariants.{Ok as AnswerOk, Exists, Missing, Got, FullHeap, FullIndex, Odd}
use Rattle.dali_record.specs.declared.records.Record.{Record}
use Rattle.dali_record.specs.declared.records.Record.TheVariants.{Format, Begin, Forward, Done, Commit, Ended, Solo, AuditBegin, AuditClean, AuditFail, Restarted, Back}
use Rattle.dali_record.specs.Blocks.{IsSoundOn}
use Rattle.dali_record.specs.Log.{Touch, touch_of, undo_added, drop_last, last_of}
use Rattle.dali_record.specs.Operations.{effect, undo_op}
use Rattle.dali_record.specs.Settled.{words_in, redo, redo_all, AreSound, IsSoundIn}
use Rattle.dali_record.specs.Calls.{Progress, Fresh, Walking, Nowhere, Somewhere, Storing, Adding, Removing, Finished, answers, answers_nowhere, answers_somewhere, same_call, same_answer, takes_back}
use Rattle.dali_record.specs.Legal.{back, Working, TxnState, Active, on_kind, is_removal, is_of, freeing_op, is_answer, rested}
use Rattle.dali_record.proofs.Ends.{by_push}
use Rattle.dali_record.proofs.Pushes.{redo_all_push, touch_new}
use Rattle.dali_access.specs.Index.Invariant.{IsImage}
use Rattle.dali_access.proofs.IndexLemmas.Fitting.{heap_kind}
use Rattle.dali_access.proofs.IndexLemmas.Worlds.{part}
use Rattle.dali_history.proofs.SlotsLemmas.BlockOnSlots.{IsRegion}
use Rattle.dali_history.proofs.SlotsLemmas.SoundBlocks.{sound_does, sound_rewritten, image_redo_all}
use Rattle.dali_history.proofs.SlotsLemmas.SlotSteps.{IsForward, forward_changes}
use Rattle.dali_history.proofs.SlotsLemmas.SlotUndos.{slot_of}
use Rattle.dali_history.proofs.SlotsLemmas.CallKey.{follow_says}
use Rattle.dali_history.specs.Kept.Kept.{kept_state, kept_step, KeepsCalls}
use Rattle.dali_history.proofs.KeptLemmas.WithoutLast.{kept_before, calls_before, sound_before}
use Rattle.dali_history.proofs.KeptLemmas.AnswersKeep.{rested_of}
use Rattle.dali_history.proofs.KeptLemmas.OperationsKeep.{Forwards, forward_is, gone_on, started}
use Rattle.dali_history.proofs.KeptLemmas.KnownTxns.{back_is, is_allowed}
use Rattle.dali_history.proofs.KeptLemmas.InvariantAlong.{forward_state, back_state, done_state, region_within, image_region, is_of_is}
use Rattle.dali_history.proofs.KeptLemmas.InvariantSteps.{state_step}
use Rattle.dali_history.specs.Room.Room.{cell_in, entry_in, cell_by, entry_by, cells_taken, entries_taken}
use Rattle.dali_history.proofs.RoomLemmas.Slots.{IsTaken, TakesSlot, Revives, IsBackward, IsUsed, does_take, does_remove, used_taken, backward_take, formatted_free, no_cell, no_entry}
use Rattle.dali_history.proofs.RoomLemmas.Steps.{HasFreed, Stepped, stays, begins, goes, backs, answers as answered, commits, ends, closes, frees, alone, restarts, stepped, solo_frees, taken_back, fresh}
use Rattle.dali_history.proofs.RoomLemmas.Tries.{Told, Seen, Finds, told_more, seen_more, cells_more, entries_more, follow_seen}

abbrev pub taken_in : Bool → List Record → List (ℕ × ℕ)
taken_in true J = entries_taken J
taken_in false J = cells_taken J

abbrev pub Was : Sizes → ℕ → ℕ → List Record → Type 0
Was s r i J = Contains (taken_in (is_index s r) J) (r, i)

abbrev pub WereThere : Sizes → List Record → List Pending → Type 0
WereThere s J [] = ⊤
WereThere s J (p ∷ ps) = (is_removal p.undo ≡ true → Was s p.region (slot_of p.undo) J) × WereThere s J ps

pub record Held (s : Sizes) (base : List (List ℕ)) (J : List Record) : Type 0 where
  pub taken : (r i : ℕ) → IsTaken (part s (redo_all base J)) r i → Was s r i J
  pub removals : (t : ℕ) (w : Working) → kept_state s t J ≡ Some (Active w) → WereThere s J w.undos
  pub calls : (t : ℕ) (w : Working) → kept_state s t J ≡ Some (Active w) → Seen s J w.progress
  pub told : (t : ℕ) (c : Call) (a : Answer) → Contains J (Done t c a) → Told s J a

-- ---- one record more
was_more : (s : Sizes) (r i : ℕ) (J : List Record) (x : Record) → Was s r i J → Was s r i (J ++ x ∷ [])
was_more s r i J x h = go (is_index s r) h
  where
    go : (b : Bool) → Contains (taken_in b J) (r, i) → Contains (taken_in b (J ++ x ∷ [])) (r, i)
    go true h = entries_more J x (r, i) h
    go false h = cells_more J x (r, i) h

one_of : (h : Record → Option (ℕ × ℕ)) (x : Record) (p : ℕ × ℕ) → h x ≡ Some p → filter_map h (x ∷ []) ≡ p ∷ []
one_of h x p e = rw e refl

new_of : (h : Record → Option (ℕ × ℕ)) (J : List Record) (x : Record) (p : ℕ × ℕ) → h x ≡ Some p → Contains (filter_map h (J ++ x ∷ [])) p
new_of h J x p e = subst (λ ps. Contains ps p) (sym (filter_map-append h J (x ∷ []) ∙ ap (λ ps. filter_map h J ++ ps) (one_of h x p e))) (Contains-push (filter_map h J) p)

was_new : (s : Sizes) (i t : ℕ) (b : Block) (J : List Record) → on_kind s b.region b.op ≡ true → TakesSlot b.op b.outcome i → Was s b.region i (J ++ Forward t b ∷ [])
was_new s i t b J kind takes = go b.op kind takes
  where
    go : (op : Op) → on_kind s b.region op ≡ true → TakesSlot op b.outcome i → Was s b.region i (J ++ Forward t b ∷ [])
    go (Put v) k e = subst (λ c. Contains (taken_in c (J ++ Forward t b ∷ [])) (b.region, i)) (sym (heap_kind s b.region k)) (new_of cell_by J (Forward t b) (b.region, i) (ap (λ o. cell_in b.region o) e))
    go (Add p) k e = subst (λ c. Contains (taken_in c (J ++ Forward t b ∷ [])) (b.region, i)) (sym k) (new_of entry_by J (Forward t b) (b.region, i) (ap (λ o. entry_in b.region o) e))
    go Look k e = absurd e
    go (KillEntry f) k e = absurd e
    go (Read c) k e = absurd e
    go (Change c v) k e = absurd e
    go (KillCell c) k e = absurd e
    go (FreeCell c) k e = absurd e
    go (ReviveCell c) k e = absurd e
    go (Restore c n vs) k e = absurd e
    go (FreeEntry f) k e = absurd e
    go (ReviveEntry f) k e = absurd e

-- ---- undos
there_more : (s : Sizes) (J : List Record) (x : Record) (us : List Pending) → WereThere s J us → WereThere s (J ++ x ∷ []) us
there_more s J x [] h = tt
there_more s J x (p ∷ ps) h = ((λ m. was_more s p.region (slot_of p.undo) J x (h.0 m)), there_more s J x ps h.1)

there_append : (s : Sizes) (J : List Record) (us vs : List Pending) → WereThere s J us → WereThere s J vs → WereThere s J (us ++ vs)
there_append s J [] vs g h = h
there_append s J (p ∷ ps) vs g h = (g.0, there_append s J ps vs g.1 h)

there_drop : (s : Sizes) (J : List Record) (us : List Pending) → WereThere s J us → WereThere s J (drop_last us)
there_drop s J [] h = tt
there_drop s J (p ∷ []) h = tt
there_drop s J (p ∷ q ∷ ps) h = (h.0, there_drop s J (q ∷ ps) h.1)

there_last : (s : Sizes) (J : List Record) (us : List Pending) (p : Pending) → last_of us ≡ Some p → WereThere s J us → is_removal p.undo ≡ true → Was s p.region (slot_of p.undo) J
there_last s J [] p e h m = absurd (cc (e))
there_last s J (q ∷ []) p e h m = let same : q ≡ p = cc (e) in subst (λ (z : Pending). is_removal z.undo ≡ true → Was s z.region (slot_of z.undo) J) same h.0 m
there_last s J (q ∷ r ∷ ps) p e h m = there_last s J (r ∷ ps) p e h.1 m

backward_undo : (d : Undo) → IsBackward (undo_op d)
backward_undo (UndoFreeCell c) = tt
backward_undo _ = tt

revived : (d : Undo) (i : ℕ) → Revives (undo_op d) i → (is_removal d ≡ true) × (slot_of d ≡ i)
revived (UndoFreeCell c) i h = absurd h
revived (UndoReviveCell c) i h = (refl, h)
revived (UndoRestore c n vs) i h = absurd h
revived (UndoFreeEntry c) i h = absurd h
revived (UndoReviveEntry c) i h = (refl, h)

backward_freeing : (d : Undo) → IsBackward (freeing_op d)
backward_freeing (UndoFreeCell c) = tt
backward_freeing _ = tt

freeing_revives : (d : Undo) (i : ℕ) → Revives (freeing_op d) i → ⊥
freeing_revives (UndoFreeCell c) i h = h
freeing_revives _ i h = h

-- ---- answers
not_nowhere : (key : ℕ) (c : Call) (a : Answer) → takes_back a ≡ true → answers_nowhere key c a ≡ true → ⊥
not_nowhere key (Insert k v) a m e = cc (e)
not_nowhere key (Update k v) FullHeap m e = cc (e)
not_nowhere key (Update k v) FullIndex m e = cc (e)
not_nowhere key (Update k v) (Odd p) m e = cc (e)
not_nowhere key (Update k v) AnswerOk m e = cc (m)
not_nowhere key (Update k v) Exists m e = cc (m)
not_nowhere key (Update k v) Missing m e = cc (m)
not_nowhere key (Update k v) (Got x) m e = cc (m)
not_nowhere key (Delete k) FullHeap m e = cc (e)
not_nowhere key (Delete k) FullIndex m e = cc (e)
not_nowhere key (Delete k) (Odd p) m e = cc (e)
not_nowhere key (Delete k) AnswerOk m e = cc (m)
not_nowhere key (Delete k) Exists m e = cc (m)
not_nowhere key (Delete k) Missing m e = cc (m)
not_nowhere key (Delete k) (Got x) m e = cc (m)
not_nowhere key (Get k) FullHeap m e = cc (e)
not_nowhere key (Get k) FullIndex m e = cc (e)
not_nowhere key (Get k) (Odd p) m e = cc (e)
not_nowhere key (Get k) AnswerOk m e = cc (m)
not_nowhere key (Get k) Exists m e = cc (m)
not_nowhere key (Get k) Missing m e = cc (m)
not_nowhere key (Get k) (Got x) m e = cc (m)

heap_nowhere : (s : Sizes) (key at : ℕ) (c : Call) → answers_somewhere s key at c FullHeap ≡ true → ⊥
heap_nowhere s key at (Insert k v) e = cc (e)
heap_nowhere s key at (Update k v) e = cc (e)
heap_nowhere s key at (Delete k) e = cc (e)
heap_nowhere s key at (Get k) e = cc (e)

index_nowhere : (s : Sizes) (key at : ℕ) (c : Call) → answers_somewhere s key at c FullIndex ≡ true → ⊥
index_nowhere s key at (Insert k v) e = cc (e)
index_nowhere s key at (Update k v) e = cc (e)
index_nowhere s key at (Delete k) e = cc (e)
index_nowhere s key at (Get k) e = cc (e)

heap_answer : (b : Answer) → same_answer b FullHeap ≡ true → b ≡ FullHeap
heap_answer FullHeap e = refl
heap_answer _ e = absurd (cc (e))

index_answer : (b : Answer) → same_answer b FullIndex ≡ true → b ≡ FullIndex
index_answer FullIndex e = refl
index_answer _ e = absurd (cc (e))

answer_told : (s : Sizes) (J : List Record) (p : Progress) (c : Call) (a : Answer) → answers s p c a ≡ true → Seen s J p → Told s J a
answer_told s J p c AnswerOk e h = tt
answer_told s J p c Exists e h = tt
answer_told s J p c Missing e h = tt
answer_told s J p c (Got v) e h = tt
answer_told s J p c (Odd at) e h = tt
answer_told s J p c FullHeap e h = go p e h
  where
    go : (p : Progress) → answers s p c FullHeap ≡ true → Seen s J p → Told s J FullHeap
    go Fresh e h = absurd (cc (e))
    go (Walking key region looked) e h = absurd (cc (e))
    go (Nowhere key) e h = absurd (not_nowhere key c FullHeap refl e)
    go (Somewhere key region entry at) e h = absurd (heap_nowhere s key at c e)
    go (Storing key v region tried) e h = absurd (cc (e))
    go (Adding key v at region tried) e h = absurd (cc (e))
    go (Removing key region entry at) e h = absurd (cc (e))
    go (Finished d b) e h = subst (λ z. Told s J z) (heap_answer b (and_parts (same_call d c) (same_answer b FullHeap) e).1) h
answer_told s J p c FullIndex e h = go p e h
  where
    go : (p : Progress) → answers s p c FullIndex ≡ true → Seen s J p → Told s J FullIndex
    go Fresh e h = absurd (cc (e))
    go (Walking key region looked) e h = absurd (cc (e))
    go (Nowhere key) e h = absurd (not_nowhere key c FullIndex refl e)
    go (Somewhere key region entry at) e h = absurd (index_nowhere s key at c e)
    go (Storing key v region tried) e h = absurd (cc (e))
    go (Adding key v at region tried) e h = absurd (cc (e))
    go (Removing key region entry at) e h = absurd (cc (e))
    go (Finished d b) e h = subst (λ z. Told s J z) (index_answer b (and_parts (same_call d c) (same_answer b FullIndex) e).1) h

-- ---- blocks
-- what is known of the block of an operation
pub record Fine (s : Sizes) (image : List (List ℕ)) (b : Block) : Type 0 where
  pub region : IsRegion s image b.region
  pub kind : on_kind s b.region b.op ≡ true
  pub sound : IsSoundOn (words_in image b.region) b

pub forward_op : (s : Sizes) (t : ℕ) (w : Working) (b : Block) (y : TxnState) → Forwards s t w b y → IsForward b.op
forward_op s t w b y (p, inl a) = (follow_says s t w.progress b p a.1).0
forward_op s t w b y (p, inr a) = (follow_says s t Fresh b p a.1).0

pub touch_fine : (s : Sizes) (base : List (List ℕ)) (J : List Record) (x : Record) (a : Touch) → IsImage s base → KeepsCalls s (J ++ x ∷ []) → touch_of x ≡ Some a → IsSoundOn (words_in (redo_all base J) a.block.region) a.block → Fine s (redo_all base J) a.block
touch_fine s base J x a image calls e sound = record { region = image_region s (redo_all base J) a.block.region (image_redo_all s base J image) (region_within s a.block.region a.block.op kind); kind = kind; sound = sound }
  where
    kind : on_kind s a.block.region a.block.op ≡ true
    kind = calls.kinds (length J) a (touch_new J x ∙ e)

module _ (s : Sizes) (base : List (List ℕ)) (J : List Record) (image : IsImage s base) (held : Held s base J) where
  abbrev now : List (List ℕ)
  now = redo_all base J

  -- a block that found no room stands for a full region
  finds : (b : Block) → Fine s now b → Finds J b
  finds b fine = record {
    heap = λ v op o c low high.
        let out : (effect (Put v) b.key (words_in (redo_all base J) b.region)).1 ≡ NoCell = ap (λ z. (effect z b.key (words_in (redo_all base J) b.region)).1) (sym op) ∙ ap (λ (z : Block). z.outcome) fine.sound ∙ o in
        let kind : is_index s b.region ≡ false = heap_kind s b.region (subst (λ z. on_kind s b.region z ≡ true) op fine.kind) in
        let used : IsUsed (is_index s b.region) (words_in (redo_all base J) b.region) c = subst (λ k. IsUsed k (words_in (redo_all base J) b.region) c) (sym kind) ((λ e. omega (arith, e)), no_cell (words_in (redo_all base J) b.region) b.key v out c low high) in
        subst (λ k. Contains (taken_in k J) (b.region, c)) kind (held.taken b.region c (used_taken s (redo_all base J) b.region c used));
    index = λ p op o e low.
        let out : (effect (Add p) b.key (words_in (redo_all base J) b.region)).1 ≡ NoEntry = ap (λ z. (effect z b.key (words_in (redo_all base J) b.region)).1) (sym op) ∙ ap (λ (z : Block). z.outcome) fine.sound ∙ o in
        let kind : is_index s b.region ≡ true = subst (λ z. on_kind s b.region z ≡ true) op fine.kind in
        let used : IsUsed (is_index s b.region) (words_in (redo_all base J) b.region) e = subst (λ k. IsUsed k (words_in (redo_all base J) b.region) e) (sym kind) (no_entry (words_in (redo_all base J) b.region) b.key p out e low) in
        subst (λ k. Contains (taken_in k J) (b.region, e)) kind (held.taken b.region e (used_taken s (redo_all base J) b.region e used));
  }

  -- the image behind the record
  behind : (x : Record) (r i : ℕ) → IsTaken (part s (redo_all base (J ++ x ∷ []))) r i → IsTaken (part s (redo (redo_all base J) x)) r i
  behind x r i t = subst (λ im. IsTaken (part s im) r i) (redo_all_push base J x) t

  backward :
      (b : Block) (x : Record) → Fine s now b → IsBackward b.op → redo now x ≡ redo now (Back 0 b) → ((i : ℕ) → Revives b.op i → Was s b.region i J)
      → (r i : ℕ) → IsTaken (part s (redo_all base (J ++ x ∷ []))) r i → Was s r i (J ++ x ∷ [])
  backward b x fine back same old r i t = was_more s r i J x (⊎_elim (λ a. held.taken r i a) (λ a. subst (λ q. Was s q i J) (sym a.0) (old i a.1)) cases)
    where
      at : IsTaken (part s (redo (redo_all base J) (Back 0 b))) r i
      at = subst (λ im. IsTaken (part s im) r i) same (behind x r i t)

      written : redo (redo_all base J) (Back 0 b) ≡ set (redo_all base J) b.region (effect b.op b.key (words_in (redo_all base J) b.region)).0.after
      written = ap (λ vs. set (redo_all base J) b.region vs) (sound_rewritten (words_in (redo_all base J) b.region) b fine.sound)

      cases : IsTaken (part s (redo_all base J)) r i ⊎ ((r ≡ b.region) × Revives b.op i)
      cases = backward_take s (redo_all base J) b.region b.op b.key fine.region.0 back fine.kind r i (subst (λ im. IsTaken (part s im) r i) written at)

  -- ---- the slots
  taken_behind : (x : Record) → KeepsCalls s (J ++ x ∷ []) → AreSound base (J ++ x ∷ []) → (r i : ℕ) → IsTaken (part s (redo_all base (J ++ x ∷ []))) r i → Was s r i (J ++ x ∷ [])
  taken_behind (Format a h) calls sound r i t = was_more s r i J (Format a h) (held.taken r i (behind (Format a h) r i t))
  taken_behind (Begin u) calls sound r i t = was_more s r i J (Begin u) (held.taken r i (behind (Begin u) r i t))
  taken_behind (Forward u b) calls sound r i t = ⊎_elim (λ a. was_more s r i J (Forward u b) (held.taken r i a)) (λ a. subst (λ q. Was s q i (J ++ Forward u b ∷ [])) (sym a.0) (was_new s i u b J fine.kind a.1)) cases
    where
      fine : Fine s (redo_all base J) b
      fine = touch_fine s base J (Forward u b) (record { txn = u; owner = u; block = b }) image calls refl (sound_before base J (Forward u b) sound).1

      was : (y : TxnState) × (kept_state s u J ≡ Some y)
      was = some_of (kept_state s u J) (kept_before s u J (Forward u b) (calls.txns u))

      is : (y : TxnState) × (kept_state s u (J ++ Forward u b ∷ []) ≡ Some y)
      is = some_of (kept_state s u (J ++ Forward u b ∷ [])) (calls.txns u)

      forward : IsForward b.op
      forward =
          let f = forward_state s u was.0 is.0 b (state_step s u J (Forward u b) was.0 is.0 was.1 is.1) in
          forward_op s u f.0 b is.0 (forward_is s u f.0 b is.0 f.2)

      cases : IsTaken (part s (redo_all base J)) r i ⊎ ((r ≡ b.region) × TakesSlot b.op b.outcome i)
      cases = does_take (part s (redo_all base J)) (part s (redo (redo_all base J) (Forward u b))) _ _ b.key b.region b.op b.outcome b.undo (sound_does s (redo_all base J) b fine.region fine.kind fine.sound) forward r i (behind (Forward u b) r i t)
  taken_behind (Done u c a) calls sound r i t = was_more s r i J (Done u c a) (held.taken r i (behind (Done u c a) r i t))
  taken_behind (Commit u) calls sound r i t = was_more s r i J (Commit u) (held.taken r i (behind (Commit u) r i t))
  taken_behind (Ended u) calls sound r i t = was_more s r i J (Ended u) (held.taken r i (behind (Ended u) r i t))
  taken_behind (Solo u o b) calls sound r i t = backward b (Solo u o b) fine (subst IsBackward (sym op) (backward_freeing f.2.undo)) refl (λ j h. absurd (freeing_revives f.2.undo j (subst (λ z. Revives z j) op h))) r i t
    where
      fine : Fine s (redo_all base J) b
      fine = touch_fine s base J (Solo u o b) (record { txn = u; owner = o; block = b }) image calls refl (sound_before base J (Solo u o b) sound).1

      was : (y : TxnState) × (kept_state s o J ≡ Some y)
      was = some_of (kept_state s o J) (kept_before s o J (Solo u o b) (calls.txns o))

      is : (y : TxnState) × (kept_state s o (J ++ Solo u o b ∷ []) ≡ Some y)
      is = some_of (kept_state s o (J ++ Solo u o b ∷ [])) (calls.txns o)

      f : HasFreed b was.0 is.0
      f = solo_frees s o u b was.0 is.0 (state_step s o J (Solo u o b) was.0 is.0 was.1 is.1)

      op : b.op ≡ freeing_op f.2.undo
      op = (is_of_is (freeing_op f.2.undo) f.2 b f.4).2
  taken_behind AuditBegin calls sound r i t = was_more s r i J AuditBegin (held.taken r i (behind AuditBegin r i t))
  taken_behind (AuditClean b) calls sound r i t = was_more s r i J (AuditClean b) (held.taken r i (behind (AuditClean b) r i t))
  taken_behind (AuditFail b rs) calls sound r i t = was_more s r i J (AuditFail b rs) (held.taken r i (behind (AuditFail b rs) r i t))
  taken_behind (Restarted rs ds) calls sound r i t = was_more s r i J (Restarted rs ds) (held.taken r i (behind (Restarted rs ds) r i t))
  taken_behind (Back u b) calls sound r i t = backward b (Back u b) fine (subst IsBackward (sym is_op.2) (backward_undo g.0.undo)) refl old r i t
    where
      fine : Fine s (redo_all base J) b
      fine = touch_fine s base J (Back u b) (record { txn = u; owner = u; block = b }) image calls refl (sound_before base J (Back u b) sound).1

      was : (y : TxnState) × (kept_state s u J ≡ Some y)
      was = some_of (kept_state s u J) (kept_before s u J (Back u b) (calls.txns u))

      is : (y : TxnState) × (kept_state s u (J ++ Back u b ∷ []) ≡ Some y)
      is = some_of (kept_state s u (J ++ Back u b ∷ [])) (calls.txns u)

      f : (w : Working) × (was.0 ≡ Active w) × (back w b (last_of w.undos) ≡ Some is.0)
      f = back_state s u was.0 is.0 b (state_step s u J (Back u b) was.0 is.0 was.1 is.1)

      g : (p : Pending) × (last_of f.0.undos ≡ Some p) × (is_of (undo_op p.undo) p b ≡ true) × (Active (taken_back f.0) ≡ is.0)
      g = back_is f.0 b (last_of f.0.undos) is.0 f.2

      is_op : (b.key ≡ g.0.key) × (b.region ≡ g.0.region) × (b.op ≡ undo_op g.0.undo)
      is_op = is_of_is (undo_op g.0.undo) g.0 b g.2

      old : (i : ℕ) → Revives b.op i → Was s b.region i J
      old i h =
          let m = revived g.0.undo i (subst (λ z. Revives z i) is_op.2 h) in
          let there = there_last s J f.0.undos g.0 g.1 (held.removals u f.0 (was.1 ∙ ap (λ z. Some z) f.1)) m.0 in
          subst (λ q. Was s q i J) (sym is_op.1) (subst (λ j. Was s g.0.region j J) m.1 there)

  -- ---- the transactions
  state_at : (t : ℕ) (x : Record) → KeepsCalls s (J ++ x ∷ []) → (y : TxnState) × (kept_state s t J ≡ Some y)
  state_at t x calls = some_of (kept_state s t J) (kept_before s t J x (calls.txns t))

  step_at : (t : ℕ) (x : Record) (calls : KeepsCalls s (J ++ x ∷ [])) (y : TxnState) → kept_state s t (J ++ x ∷ []) ≡ Some y → Stepped s t (state_at t x calls).0 x y
  step_at t x calls y e = stepped s t (state_at t x calls).0 x y (state_step s t J x (state_at t x calls).0 y (state_at t x calls).1 e)

  -- the block of an operation
  fine_at : (t : ℕ) (x : Record) (b : Block) → KeepsCalls s (J ++ x ∷ []) → AreSound base (J ++ x ∷ []) → x ≡ Forward t b → Fine s now b
  fine_at t x b calls sound e = touch_fine s base J x (record { txn = t; owner = t; block = b }) image calls (ap touch_of e) (subst (λ z. IsSoundIn (redo_all base J) z) e (sound_before base J x sound).1)

  -- an operation's own undo
  added_there : (t : ℕ) (w : Working) (b : Block) (y : TxnState) → Fine s now b → Forwards s t w b y → WereThere s J (undo_added b b.undo)
  added_there t w b y fine f = go b.undo refl
    where
      go : (u : Option Undo) → b.undo ≡ u → WereThere s J (undo_added b u)
      go None e = tt
      go (Some d) e =
          ((λ m. held.taken b.region (slot_of d) (does_remove s (part s (redo_all base J)) _ b.key b.region b.undo d (forward_changes s _ _ _ _ b.key b.region b.op b.outcome b.undo (sound_does s (redo_all base J) b fine.region fine.kind fine.sound) fine.kind (forward_op s t w b y f)).0 e m)), tt)

  undos_gone : (t : ℕ) (w v : Working) (b : Block) → Forwards s t w b (Active v) → v.undos ≡ w.undos ++ undo_added b b.undo
  undos_gone t w v b (p, inl h) = let same : v ≡ gone_on w b p = let x = h.2 in cc (x) in ap (λ (y : Working). y.undos) same
  undos_gone t w v b (p, inr h) = let same : v ≡ started w b p = let x = h.2 in cc (x) in ap (λ (y : Working). y.undos) same

  seen_gone : (t : ℕ) (w v : Working) (b : Block) → Fine s now b → Seen s J w.progress → Forwards s t w b (Active v) → Seen s J v.progress
  seen_gone t w v b fine h (p, inl a) = let same : v ≡ gone_on w b p = let x = a.2 in cc (x) in rw same (follow_seen s J image.some_index image.some_heap b (finds b fine) t w.progress p h a.1)
  seen_gone t w v b fine h (p, inr a) = let same : v ≡ started w b p = let x = a.2 in cc (x) in rw same (follow_seen s J image.some_index image.some_heap b (finds b fine) t Fresh p tt a.1)

  same_work : (w v : Working) → Active w ≡ Active v → w ≡ v
  same_work w v e = cc (e)

  -- what an undo may revive, and what a call knows
  active_behind : (x : Record) → KeepsCalls s (J ++ x ∷ []) → AreSound base (J ++ x ∷ []) → (t : ℕ) (v : Working) → kept_state s t (J ++ x ∷ []) ≡ Some (Active v) → WereThere s J v.undos × Seen s J v.progress
  active_behind x calls sound t v e = go (step_at t x calls (Active v) e)
    where
      old : (w : Working) → (state_at t x calls).0 ≡ Active w → WereThere s J w.undos × Seen s J w.progress
      old w f = let at = (state_at t x calls).1 ∙ ap (λ z. Some z) f in (held.removals t w at, held.calls t w at)

      by : (w : Working) → v ≡ w → WereThere s J w.undos × Seen s J w.progress → WereThere s J v.undos × Seen s J v.progress
      by w f h = subst (λ (z : Working). WereThere s J z.undos × Seen s J z.progress) (sym f) h

      go : Stepped s t (state_at t x calls).0 x (Active v) → WereThere s J v.undos × Seen s J v.progress
      go (stays c f) = old v (sym f)
      go (begins u r f) = by fresh (same_work v fresh f) (tt, tt)
      go (goes w b f r g) = (
        subst (λ z. WereThere s J z) (sym (undos_gone t w v b g)) (there_append s J w.undos (undo_added b b.undo) (old w f).0 (added_there t w b (Active v) (fine_at t x b calls sound r) g)),
        seen_gone t w v b (fine_at t x b calls sound r) (old w f).1 g,
      )
      go (backs w b p f r l i g) = by (taken_back w) (same_work v (taken_back w) g) (there_drop s J w.undos (old w f).0, (old w f).1)
      go (answered w c a f r i g) = by (rested_of w) (same_work v (rested_of w) g) ((old w f).0, tt)
      go (commits w f r l g) = absurd (cc (g))
      go (ends w f r l g) = absurd (cc (g))
      go (closes ps f r g) = absurd (cc (g))
      go (frees u b p ps qs f r i g) = absurd (cc (g))
      go (alone p b f r g) = absurd (cc (g))
      go (restarts rs ds r n) = absurd (n v refl)

  -- what was answered
  told_behind : (x : Record) → KeepsCalls s (J ++ x ∷ []) → (t : ℕ) (c : Call) (a : Answer) → Contains (J ++ x ∷ []) (Done t c a) → Told s (J ++ x ∷ []) a
  told_behind x calls t c a h = told_more s J x a (⊎_elim (λ old. held.told t c a old) new (Contains-push_cases J x (Done t c a) h))
    where
      is : (y : TxnState) × (kept_state s t (J ++ x ∷ []) ≡ Some y)
      is = some_of (kept_state s t (J ++ x ∷ [])) (calls.txns t)

      new : x ≡ Done t c a → Told s J a
      new same =
          let step : kept_step s t (state_at t x calls).0 (Done t c a) ≡ Some is.0 = subst (λ z. kept_step s t (state_at t x calls).0 z ≡ Some is.0) same (state_step s t J x (state_at t x calls).0 is.0 (state_at t x calls).1 is.1) in
          let f = done_state s t (state_at t x calls).0 is.0 c a step in
          let g = is_allowed (is_answer s f.0 c a) (rested f.0) is.0 f.2 in
          let k = and_parts (answers s f.0.progress c a) _ g.0 in
          answer_told s J f.0.progress c a k.0 (held.calls t f.0 ((state_at t x calls).1 ∙ ap (λ z. Some z) f.1))

  pub held_push : (x : Record) → KeepsCalls s (J ++ x ∷ []) → AreSound base (J ++ x ∷ []) → Held s base (J ++ x ∷ [])
  held_push x calls sound = record {
    taken = taken_behind x calls sound;
    removals = λ t v e. there_more s J x v.undos (active_behind x calls sound t v e).0;
    calls = λ t v e. seen_more s J x v.progress (active_behind x calls sound t v e).1;
    told = told_behind x calls;
  }

-- before the first record
held_first : (s : Sizes) → Held s (formatted_image s) []
held_first s = record {
  taken = λ r i t. absurd (formatted_free s r i t);
  removals = λ t w e. absurd (cc (e));
  calls = λ t w e. absurd (cc (e));
  told = λ t c a h. absurd (nothing (Done t c a) h);
}
  where
    nothing : (x : Record) → Contains [] x → ⊥
    nothing x h = let l = h.1 in omega (arith, l)

-- behind all records of an epoch on the formatted image
pub held_along : (s : Sizes) (E : List Record) → IsImage s (formatted_image s) → KeepsCalls s E → AreSound (formatted_image s) E → Held s (formatted_image s) E
held_along s E image = by_push (λ J. KeepsCalls s J → AreSound (formatted_image s) J → Held s (formatted_image s) J) (λ c d. held_first s) (λ J x ih c d. held_push s (formatted_image s) J image (ih (calls_before s J x c) (sound_before (formatted_image s) J x d).0) x c d) E
