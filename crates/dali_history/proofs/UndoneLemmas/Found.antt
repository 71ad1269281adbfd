-- Kept records: each undo finds its slot as the block that left it made it.
use Rattle.std.proofs.Common.{◌≡◌, ℕ, suc, ◌+◌, ◌<◌, true, false, List, [], ◌∷◌, ◌++◌, length, take, drop, Option, Some, None, IsPermutation, refl, ap, sym, subst, ◌∙◌, ⊎_elim, ◌≢◌, arith, append_assoc, append-nil}
use Rattle.std.specs.Prelude.{reverse, slice_get}
use Rattle.std.proofs.Math.ListN.{drop_of_length-le}
use Rattle.std.proofs.lemmas.List.{reverse-append, length-append, take-append-drop}
use Rattle.std.proofs.lemmas.Bool.{eq-eqb}
use Rattle.std.proofs.lemmas.Bool.Decides.{eqb_tells}
use Rattle.dali_lists.proofs.Lists.{get_push}
use Rattle.dali_words.specs.Values.{packed}
use Rattle.dali_geometry.specs.Sizes.{Sizes}
use Rattle.dali_record.specs.declared.operations.Pending.{Pending}
use Rattle.dali_record.specs.declared.operations.Block.{Block}
use Rattle.dali_record.specs.declared.operations.Undo.{Undo}
use Rattle.dali_record.specs.declared.operations.Undo.TheVariants.{FreeCell as UndoFreeCell, ReviveCell as UndoReviveCell, Restore as UndoRestore, FreeEntry as UndoFreeEntry, ReviveEntry as UndoReviveEntry}
use Rattle.dali_record.specs.declared.operations.Outcome.{Outcome}
use Rattle.dali_record.specs.declared.operations.Outcome.TheVariants.{Added, Killed, Put as PutIn, Changed}
use Rattle.dali_record.specs.declared.operations.Op.{Op}
use Rattle.dali_record.specs.declared.operations.Op.TheVariants.{Look, Add, KillEntry, Put, Read, Change, KillCell, FreeCell, ReviveCell, Restore, FreeEntry, ReviveEntry}
use Rattle.dali_record.specs.declared.records.Record.{Record}
use Rattle.dali_record.specs.declared.records.Record.TheVariants.{Forward, Back}
use Rattle.dali_record.specs.Blocks.{pending}
use Rattle.dali_record.specs.Log.{undos_of, undo_added, committed, drop_last}
use Rattle.dali_record.specs.Damage.{has}
use Rattle.dali_record.specs.Legal.{on_kind}
use Rattle.dali_record.specs.Settled.{words_in, redo_all}
use Rattle.dali_record.proofs.Ends.{by_push}
use Rattle.dali_record.proofs.Scans.{take_get}
use Rattle.dali_access.specs.Index.Invariant.{IsImage}
use Rattle.dali_access.proofs.IndexLemmas.Worlds.{World, Flags, part, flags, put_at, put_at-same}
use Rattle.dali_access.proofs.IndexLemmas.Parts.{Part}
use Rattle.dali_history.specs.Images.{map_of}
use Rattle.dali_history.specs.Undos.{FindsAll, undos_in, undone}
use Rattle.dali_history.proofs.SlotsLemmas.BlockOnSlots.{Does, IsLive}
use Rattle.dali_history.proofs.SlotsLemmas.SoundBlocks.{image_redo_all}
use Rattle.dali_history.proofs.SlotsLemmas.SlotUndos.{NoneOn, Leads, Finds, leads_stay, leads_first, none_reverse}
use Rattle.dali_history.proofs.SlotsLemmas.SlotSteps.{IsForward}
use Rattle.dali_history.specs.Kept.Kept.{AreKept, uncommitted}
use Rattle.dali_history.proofs.KeptLemmas.WithoutLast.{left}
use Rattle.dali_history.proofs.KeptLemmas.Invariant.{Keyed}
use Rattle.dali_history.proofs.KeptLemmas.InvariantSteps.{Fine, Along, fine_before, fine_kept, along_all, along_start, along_kept}
use Rattle.dali_history.proofs.KeptLemmas.UndoOnImage.{left_finds, undo_list}
use Rattle.dali_history.proofs.KeptLemmas.Counts.{count, count-append}
use Rattle.dali_history.proofs.KeptLemmas.AllUndos.{AreOpen, all_lists, order_once, order_open, left_open, none_undos}
use Rattle.dali_history.specs.Undone.AsLeft.{slot_at, slot_in, slot_by, IsPushed, IsAsLeft, moment, FindAsLeft, KeptUndosFind, OwnUndosFind, BacksFind}
use Rattle.dali_history.proofs.UndoneLemmas.After.{after, after_append, after_none, leads_after}
use Rattle.dali_history.proofs.UndoneLemmas.Listed.{get_nil, split_at}
use Rattle.dali_history.proofs.UndoneLemmas.Words.{slot_seen, same_slot_at}
use Rattle.dali_history.proofs.UndoneLemmas.Stepped.{forward_op, block_does, kind_of, takes_back, TakesBack}
use Rattle.dali_history.proofs.UndoneLemmas.Left.{Left, all_left, holds_on}

-- ---- what the block left there
-- the undo of an operation, with what its slot held and holds
written_by :
    (s : Sizes) (image other : List (List ℕ)) (F G : Flags) (k r : ℕ) (op : Op) (o : Outcome) (u : Option Undo) (d : Undo)
    → IsImage s image → IsImage s other → Does (part s image) F (part s other) G k r op o u → on_kind s r op ≡ true → IsForward op → u ≡ Some d
    → slot_in (words_in other r) d ≡ slot_by op k (slot_in (words_in image r) d)
written_by s image other F G k r Look o u d f g h kind forward e = let no : None ≡ Some d = sym h.0.2 ∙ e in absurd (cc (no))
written_by s image other F G k r (Add p) o u d f g h kind forward e = ⊎_elim some (λ a. let no : None ≡ Some d = sym a.1 ∙ e in absurd (cc (no))) h
  where
    some : (i : ℕ) × (o ≡ Added i) × (u ≡ Some (UndoFreeEntry i)) × (i < 21) × (part s image k r i ≡ []) × (part s other ≡ put_at (part s image) k r i (1 ∷ p ∷ [])) × (G ≡ F) → slot_in (words_in other r) d ≡ 1 ∷ k ∷ p ∷ []
    some a =
        let is : d ≡ UndoFreeEntry a.0 = let same : Some d ≡ Some (UndoFreeEntry a.0) = sym e ∙ a.2 in cc (same) in
        subst (λ z. slot_in (words_in other r) z ≡ 1 ∷ k ∷ p ∷ []) (sym is) (slot_seen s other k r (UndoFreeEntry a.0) 1 (p ∷ []) g kind (ap (λ (X : World). X k r a.0) a.5 ∙ put_at-same (part s image) k r a.0 (1 ∷ p ∷ [])))
written_by s image other F G k r (KillEntry i) o u d f g h kind forward e = ⊎_elim some (λ a. let no : None ≡ Some d = sym a.0.2 ∙ e in absurd (cc (no))) h
  where
    some : (p : ℕ) × (o ≡ Killed) × (u ≡ Some (UndoReviveEntry i)) × (part s image k r i ≡ 1 ∷ p ∷ []) × (part s other ≡ put_at (part s image) k r i (2 ∷ p ∷ [])) × (G ≡ F) → slot_in (words_in other r) d ≡ 2 ∷ drop 1 (slot_in (words_in image r) d)
    some a =
        let is : d ≡ UndoReviveEntry i = let same : Some d ≡ Some (UndoReviveEntry i) = sym e ∙ a.2 in cc (same) in
        subst (λ z. slot_in (words_in other r) z ≡ 2 ∷ drop 1 (slot_in (words_in image r) z)) (sym is)
        (slot_seen s other k r (UndoReviveEntry i) 2 (a.0 ∷ []) g kind (ap (λ (X : World). X k r i) a.4 ∙ put_at-same (part s image) k r i (2 ∷ a.0 ∷ []))
        ∙ ap (λ xs. 2 ∷ drop 1 xs) (sym (slot_seen s image k r (UndoReviveEntry i) 1 (a.0 ∷ []) f kind a.3)))
written_by s image other F G k r (Put v) o u d f g h kind forward e = ⊎_elim some (λ a. let no : None ≡ Some d = sym a.0.2 ∙ e in absurd (cc (no))) h
  where
    some : (c : ℕ) × (o ≡ PutIn c) × (u ≡ Some (UndoFreeCell c)) × (0 < c) × (c < 8) × (part s image k r c ≡ []) × (part s other ≡ put_at (part s image) k r c (1 ∷ length v ∷ packed v)) × (G ≡ F) → slot_in (words_in other r) d ≡ 1 ∷ k ∷ length v ∷ packed v
    some a =
        let is : d ≡ UndoFreeCell a.0 = let same : Some d ≡ Some (UndoFreeCell a.0) = sym e ∙ a.2 in cc (same) in
        subst (λ z. slot_in (words_in other r) z ≡ 1 ∷ k ∷ length v ∷ packed v) (sym is) (slot_seen s other k r (UndoFreeCell a.0) 1 (length v ∷ packed v) g kind (ap (λ (X : World). X k r a.0) a.6 ∙ put_at-same (part s image) k r a.0 (1 ∷ length v ∷ packed v)))
written_by s image other F G k r (Read c) o u d f g h kind forward e = let no : None ≡ Some d = sym h.0.2 ∙ e in absurd (cc (no))
written_by s image other F G k r (Change c v) o u d f g h kind forward e = ⊎_elim some (λ a. let no : None ≡ Some d = sym a.0.2 ∙ e in absurd (cc (no))) (h forward.0 forward.1)
  where
    some : (n : ℕ) × (xs : List ℕ) × (o ≡ Changed) × (u ≡ Some (UndoRestore c n xs)) × IsLive (part s image k r c) n xs × (part s other ≡ put_at (part s image) k r c (1 ∷ length v ∷ packed v)) × (G ≡ F) → slot_in (words_in other r) d ≡ 1 ∷ k ∷ length v ∷ packed v
    some a =
        let is : d ≡ UndoRestore c a.0 a.1 = let same : Some d ≡ Some (UndoRestore c a.0 a.1) = sym e ∙ a.3 in cc (same) in
        subst (λ z. slot_in (words_in other r) z ≡ 1 ∷ k ∷ length v ∷ packed v) (sym is) (slot_seen s other k r (UndoRestore c a.0 a.1) 1 (length v ∷ packed v) g kind (ap (λ (X : World). X k r c) a.5 ∙ put_at-same (part s image) k r c (1 ∷ length v ∷ packed v)))
written_by s image other F G k r (KillCell c) o u d f g h kind forward e = ⊎_elim some (λ a. let no : None ≡ Some d = sym a.0.2 ∙ e in absurd (cc (no))) (h forward.0 forward.1)
  where
    some : (n : ℕ) × (xs : List ℕ) × (o ≡ Killed) × (u ≡ Some (UndoReviveCell c)) × IsLive (part s image k r c) n xs × (part s other ≡ put_at (part s image) k r c (2 ∷ n ∷ xs)) × (G ≡ F) → slot_in (words_in other r) d ≡ 2 ∷ drop 1 (slot_in (words_in image r) d)
    some a =
        let is : d ≡ UndoReviveCell c = let same : Some d ≡ Some (UndoReviveCell c) = sym e ∙ a.3 in cc (same) in
        subst (λ z. slot_in (words_in other r) z ≡ 2 ∷ drop 1 (slot_in (words_in image r) z)) (sym is)
        (slot_seen s other k r (UndoReviveCell c) 2 (a.0 ∷ a.1) g kind (ap (λ (X : World). X k r c) a.5 ∙ put_at-same (part s image) k r c (2 ∷ a.0 ∷ a.1))
        ∙ ap (λ xs. 2 ∷ drop 1 xs) (sym (slot_seen s image k r (UndoReviveCell c) 1 (a.0 ∷ a.1) f kind a.4.0)))
written_by s image other F G k r (FreeCell c) o u d f g h kind forward e = absurd forward
written_by s image other F G k r (ReviveCell c) o u d f g h kind forward e = absurd forward
written_by s image other F G k r (Restore c n vs) o u d f g h kind forward e = absurd forward
written_by s image other F G k r (FreeEntry i) o u d f g h kind forward e = absurd forward
written_by s image other F G k r (ReviveEntry i) o u d f g h kind forward e = absurd forward

added_is : (b : Block) (o : Option Undo) (p : Pending) → undo_added b o ≡ p ∷ [] → (d : Undo) × (o ≡ Some d) × (pending b d ≡ p)
added_is b None p e = absurd (cc (e))
added_is b (Some d) p e = (d, refl, cc (e))

fine_front : (s : Sizes) (base : List (List ℕ)) (cuts : List ℕ) (A B : List Record) → Fine s base cuts (A ++ B) → Fine s base cuts A
fine_front s base cuts A B = by_push (λ M. Fine s base cuts (A ++ M) → Fine s base cuts A) (λ h. subst (λ J. Fine s base cuts J) (append-nil A) h) (λ M x ih h. ih (fine_before s base cuts (A ++ M) x (subst (λ J. Fine s base cuts J) (sym (append_assoc A M (x ∷ []))) h))) B

fine_take : (s : Sizes) (base : List (List ℕ)) (cuts : List ℕ) (K : List Record) (n : ℕ) → Fine s base cuts K → Fine s base cuts (take n K)
fine_take s base cuts K n h = fine_front s base cuts (take n K) (drop n K) (subst (λ J. Fine s base cuts J) (sym (take-append-drop n K)) h)

pub written_there : (s : Sizes) (base : List (List ℕ)) (cuts : List ℕ) (K : List Record) (t n i : ℕ) (b : Block) (p : Pending) → Fine s base cuts K → IsPushed t K n i b p → slot_at (redo_all base (take (i + 1) K)) p ≡ slot_by b.op b.key (slot_at (redo_all base (take i K)) p)
written_there s base cuts K t n i b p h pushed =
    subst (λ (q : Pending). slot_at (redo_all base (take (i + 1) K)) q ≡ slot_by b.op b.key (slot_at (redo_all base (take i K)) q)) d.2
    (subst (λ J. slot_in (words_in (redo_all base J) b.region) d.0 ≡ slot_by b.op b.key (slot_in (words_in (redo_all base (take i K)) b.region) d.0)) (sym shape)
    (written_by s (redo_all base (take i K)) (redo_all base (take i K ++ Forward t b ∷ [])) (flags (redo_all base (take i K))) (flags (redo_all base (take i K ++ Forward t b ∷ []))) b.key b.region b.op b.outcome b.undo d.0
    (image_redo_all s base (take i K) h.image) (image_redo_all s base (take i K ++ Forward t b ∷ []) h.image) (block_does s base cuts (take i K) t b fine) (kind_of s base cuts (take i K) (Forward t b) (record { txn = t; owner = t; block = b }) fine refl) (forward_op s base cuts (take i K) t b fine) d.1))
  where
    d : (d : Undo) × (b.undo ≡ Some d) × (pending b d ≡ p)
    d = added_is b b.undo p pushed.adds

    one_more : i + 1 ≡ suc i
    one_more = omega arith

    shape : take (i + 1) K ≡ take i K ++ Forward t b ∷ []
    shape = ap (λ m. take m K) one_more ∙ take_get K i (Forward t b) pushed.block

    fine : Fine s base cuts (take i K ++ Forward t b ∷ [])
    fine = subst (λ J. Fine s base cuts J) shape (fine_take s base cuts K (i + 1) h)

-- ---- one undo, when it comes
abbrev pub LeadsAll : Sizes → List (List ℕ) → List Pending → Type 0
LeadsAll s image ps = (k : ℕ) → (Q : Part) × Leads s k ps (part s image k) Q

pub finds_as_left :
    (s : Sizes) (base : List (List ℕ)) (cuts : List ℕ) (K : List Record) (t n : ℕ) (p : Pending) (before rest : List Pending)
    → Fine s base cuts K → Left s base t K n p → NoneOn p.key before
    → LeadsAll s (redo_all base K) ((before ++ reverse (drop (n + 1) (undos_of t K))) ++ p ∷ rest)
    → IsAsLeft base K t n p (undone (redo_all base K) (before ++ reverse (drop (n + 1) (undos_of t K))))
finds_as_left s base cuts K t n p before rest fine l none leads = record {
  place = l.place;
  block = l.block;
  pushed = l.pushed;
  found = left_finds s there p finds_there;
  as_left = same_slot_at s there (redo_all base (take (l.place + 1) K)) p there_form (image_redo_all s base (take (l.place + 1) K) fine.image) finds_there slots;
  written = written_there s base cuts K t n l.place l.block p fine l.pushed;
}
  where
    above : List Pending
    above = reverse (drop (n + 1) (undos_of t K))

    ps : List Pending
    ps = before ++ reverse (drop (n + 1) (undos_of t K))

    there : List (List ℕ)
    there = undone (redo_all base K) (before ++ reverse (drop (n + 1) (undos_of t K)))

    split : (k : ℕ) → Leads s k (before ++ reverse (drop (n + 1) (undos_of t K))) (part s (redo_all base K) k) (after k (before ++ reverse (drop (n + 1) (undos_of t K))) (part s (redo_all base K) k)) × Leads s k (p ∷ rest) (after k (before ++ reverse (drop (n + 1) (undos_of t K))) (part s (redo_all base K) k)) (leads k).0
    split k = leads_after s k ps (p ∷ rest) (part s (redo_all base K) k) (leads k).0 (leads k).1

    comes : FindsAll (redo_all base K) ps × ((k : ℕ) → part s (undone (redo_all base K) (before ++ reverse (drop (n + 1) (undos_of t K)))) k ≡ after k (before ++ reverse (drop (n + 1) (undos_of t K))) (part s (redo_all base K) k)) × (flags (undone (redo_all base K) (before ++ reverse (drop (n + 1) (undos_of t K)))) ≡ flags (redo_all base K)) × IsImage s (undone (redo_all base K) (before ++ reverse (drop (n + 1) (undos_of t K))))
    comes = undo_list s ps (redo_all base K) (λ k. after k ps (part s (redo_all base K) k)) (image_redo_all s base K fine.image) (λ k. (split k).0)

    there_form : IsImage s (undone (redo_all base K) (before ++ reverse (drop (n + 1) (undos_of t K))))
    there_form = comes.3

    finds_there : Finds s p (part s (undone (redo_all base K) (before ++ reverse (drop (n + 1) (undos_of t K)))) p.key)
    finds_there = subst (λ (P : Part). Finds s p P) (sym (comes.1 p.key)) (leads_first s p.key p rest (after p.key ps (part s (redo_all base K) p.key)) (leads p.key).0 refl (split p.key).1).0

    slots : part s (undone (redo_all base K) (before ++ reverse (drop (n + 1) (undos_of t K)))) p.key ≡ part s (redo_all base (take (l.place + 1) K)) p.key
    slots =
        comes.1 p.key
        ∙ after_append p.key before above (part s (redo_all base K) p.key)
        ∙ ap (after p.key above) (after_none p.key before (part s (redo_all base K) p.key) none)
        ∙ l.slots

-- ---- lists
undos_split : (us : List Pending) (n : ℕ) (p : Pending) → slice_get us n ≡ Some p → reverse us ≡ reverse (drop (n + 1) us) ++ p ∷ reverse (take n us)
undos_split us n p at =
    ap reverse (split_at us n p at)
    ∙ reverse-append (take n us) (p ∷ drop (n + 1) us)
    ∙ ap (λ xs. xs ++ reverse (take n us)) (reverse-append (p ∷ []) (drop (n + 1) us))
    ∙ append_assoc (reverse (drop (n + 1) us)) (p ∷ []) (reverse (take n us))

undos_in_append : (A B : List ℕ) (K : List Record) → undos_in (A ++ B) K ≡ undos_in A K ++ undos_in B K
undos_in_append [] B K = refl
undos_in_append (t ∷ A) B K = ap (λ xs. reverse (undos_of t K) ++ xs) (undos_in_append A B K) ∙ sym (append_assoc (reverse (undos_of t K)) (undos_in A K) (undos_in B K))

-- the undos of an order, with one of them in the middle
order_split :
    (K : List Record) (before behind : List ℕ) (t n : ℕ) (p : Pending) → slice_get (undos_of t K) n ≡ Some p
    → undos_in (before ++ t ∷ behind) K ≡ (undos_in before K ++ reverse (drop (n + 1) (undos_of t K))) ++ p ∷ (reverse (take n (undos_of t K)) ++ undos_in behind K)
order_split K before behind t n p at =
    undos_in_append before (t ∷ behind) K
    ∙ ap (λ xs. undos_in before K ++ (xs ++ undos_in behind K)) (undos_split (undos_of t K) n p at)
    ∙ ap (λ xs. undos_in before K ++ xs) (append_assoc (reverse (drop (n + 1) (undos_of t K))) (p ∷ reverse (take n (undos_of t K))) (undos_in behind K))
    ∙ sym (append_assoc (undos_in before K) (reverse (drop (n + 1) (undos_of t K))) (p ∷ (reverse (take n (undos_of t K)) ++ undos_in behind K)))

open_in : (K : List Record) (before behind : List ℕ) (t : ℕ) → AreOpen K (before ++ t ∷ behind) → AreOpen K before × (has (committed K) t ≡ false)
open_in K [] behind t h = (tt, h.0)
open_in K (x ∷ before) behind t h = let y = open_in K before behind t h.1 in ((h.0, y.0), y.1)

-- ---- any order
-- who has an undo on a key is alone there
alone_there : (s : Sizes) (base : List (List ℕ)) (cuts : List ℕ) (K : List Record) (t k : ℕ) → Along s base cuts K → (NoneOn k (left t K) → ⊥) → (u : ℕ) → u ≢ t → NoneOn k (left u K)
alone_there s base cuts K t k along holds u apart = go (along.keyed k)
  where
    go : Keyed s cuts K (part s (redo_all base K)) (flags (redo_all base K)) (map_of s base k) k → NoneOn k (left u K)
    go e = ⊎_elim (λ a. e.others u (λ i. apart (i ∙ sym a.1))) (λ a. absurd (holds (e.others t a.1))) (eqb_tells t e.holder)

pub order_finds : (s : Sizes) (base : List (List ℕ)) (cuts : List ℕ) (K : List Record) (order : List ℕ) → AreKept s base cuts K → IsPermutation order (uncommitted K) → FindAsLeft base K (redo_all base K) order
order_finds s base cuts K order kept permutes before behind t n p shape at =
    finds_as_left s base cuts K t n p (undos_in before K) (reverse (take n (undos_of t K)) ++ undos_in behind K) fine
    (all_left s base cuts K t (along_start s base cuts kept.image kept.indexed kept.tidy) fine opens.1 n p at)
    (none_undos p.key t K before opens.0 (alone_there s base cuts K t p.key along (holds_on t K n p opens.1 at)) none_before)
    (λ k. (((along_kept s base cuts K kept).keyed k).slots, subst (λ ps. Leads s k ps (part s (redo_all base K) k) ((along_kept s base cuts K kept).keyed k).slots) (ap (λ ts. undos_in ts K) shape ∙ order_split K before behind t n p at) (all_lists s base cuts K order kept permutes k)))
  where
    fine : Fine s base cuts K
    fine = fine_kept s base cuts K kept

    along : Along s base cuts K
    along = along_kept s base cuts K kept

    opens : AreOpen K before × (has (committed K) t ≡ false)
    opens = open_in K before behind t (subst (λ ts. AreOpen K ts) shape (order_open K order permutes))

    none_before : count t before ≡ 0
    none_before = ⊎_elim (λ a. let all : count t (before ++ t ∷ behind) ≡ 1 = ap (count t) (sym shape) ∙ a in let parts = count-append t before (t ∷ behind) in let own : count t (t ∷ behind) ≡ 1 + count t behind = rw (eq-eqb t t refl) refl in omega (arith, all, parts, own))
        (λ a. absurd (get_nil (undos_of t K) n p (sym (left_open K t opens.1) ∙ a.1) at))
        (order_once s K order t kept.calls permutes)

-- a front of kept records is kept
kept_front : (s : Sizes) (base : List (List ℕ)) (cuts : List ℕ) (K : List Record) (i : ℕ) → AreKept s base cuts K → AreKept s base cuts (take i K)
kept_front s base cuts K i kept =
    let h = fine_take s base cuts K i (fine_kept s base cuts K kept) in
    record { image = kept.image; indexed = kept.indexed; tidy = kept.tidy; values = h.values; uncut = h.uncut; calls = h.calls; sound = h.sound; locks = h.locks }

pub kept_undos_find : KeptUndosFind
kept_undos_find s base cuts K kept i order permutes = order_finds s base cuts (take i K) order (kept_front s base cuts K i kept) permutes

-- ---- one transaction by itself
own_leads : (s : Sizes) (base : List (List ℕ)) (cuts : List ℕ) (K : List Record) (t : ℕ) → Along s base cuts K → has (committed K) t ≡ false → LeadsAll s (redo_all base K) (reverse (undos_of t K))
own_leads s base cuts K t along un k = go (along.keyed k)
  where
    all : left t K ≡ undos_of t K
    all = left_open K t un

    go : Keyed s cuts K (part s (redo_all base K)) (flags (redo_all base K)) (map_of s base k) k → (Q : Part) × Leads s k (reverse (undos_of t K)) (part s (redo_all base K) k) Q
    go e = ⊎_elim
        (λ a. (e.slots, subst (λ us. Leads s k (reverse us) (part s (redo_all base K) k) e.slots) all (subst (λ z. Leads s k (reverse (left z K)) (part s (redo_all base K) k) e.slots) (sym a.1) e.leads)))
        (λ a. (part s (redo_all base K) k, leads_stay s k (reverse (undos_of t K)) (part s (redo_all base K) k) (none_reverse k (undos_of t K) (subst (λ us. NoneOn k us) all (e.others t a.1)))))
        (eqb_tells t e.holder)

pub own_finds : (s : Sizes) (base : List (List ℕ)) (cuts : List ℕ) (K : List Record) (t n : ℕ) (p : Pending) → Along s base cuts [] → Fine s base cuts K → has (committed K) t ≡ false → slice_get (undos_of t K) n ≡ Some p → IsAsLeft base K t n p (moment (redo_all base K) K [] t n)
own_finds s base cuts K t n p start fine un at =
    finds_as_left s base cuts K t n p [] (reverse (take n (undos_of t K))) fine (all_left s base cuts K t start fine un n p at) tt
    (λ k. let q = own_leads s base cuts K t (along_all s base cuts K start fine) un k in (q.0, subst (λ ps. Leads s k ps (part s (redo_all base K) k) q.0) (undos_split (undos_of t K) n p at) q.1))

-- an order of one transaction
only_one : (before behind : List ℕ) (t u : ℕ) → t ∷ [] ≡ before ++ u ∷ behind → (before ≡ []) × (u ≡ t)
only_one [] behind t u e = (refl, let same : t ≡ u = cc (e) in sym same)
only_one (x ∷ []) behind t u e = absurd (cc (e))
only_one (x ∷ y ∷ before) behind t u e = absurd (cc (e))

pub own_order_finds : (s : Sizes) (base : List (List ℕ)) (cuts : List ℕ) (K : List Record) → AreKept s base cuts K → (t : ℕ) → has (committed K) t ≡ false → FindAsLeft base K (redo_all base K) (t ∷ [])
own_order_finds s base cuts K kept t un before behind u n p shape at =
    let is = only_one before behind t u shape in
    subst (λ xs. IsAsLeft base K u n p (moment (redo_all base K) K xs u n)) (sym is.0)
    (own_finds s base cuts K u n p (along_start s base cuts kept.image kept.indexed kept.tidy) (fine_kept s base cuts K kept) (subst (λ z. has (committed K) z ≡ false) (sym is.1) un) at)

pub own_undos_find : OwnUndosFind
own_undos_find s base cuts K kept i t un = own_order_finds s base cuts (take i K) (kept_front s base cuts K i kept) t un

-- ---- blocks that took back
pub backs_find : BacksFind
backs_find s base cuts K kept i t b at = record {
  number = length (drop_last (undos_of t (take i K)));
  undo = back.undo;
  last = last;
  is = is;
  key = back.is.0;
  region = back.is.1;
  op = back.is.2;
  as_left = subst (λ us. IsAsLeft base (take i K) t (length (drop_last (undos_of t (take i K)))) back.undo (undone (redo_all base (take i K)) (reverse us))) (drop_of_length-le (undos_of t (take i K)) (omega (arith, last)))
      (own_finds s base cuts (take i K) t (length (drop_last (undos_of t (take i K)))) back.undo start (fine_before s base cuts (take i K) (Back t b) fine) back.running is);
}
  where
    start : Along s base cuts []
    start = along_start s base cuts kept.image kept.indexed kept.tidy

    one_more : i + 1 ≡ suc i
    one_more = omega arith

    fine : Fine s base cuts (take i K ++ Back t b ∷ [])
    fine = subst (λ J. Fine s base cuts J) (ap (λ m. take m K) one_more ∙ take_get K i (Back t b) at) (fine_take s base cuts K (i + 1) (fine_kept s base cuts K kept))

    back : TakesBack s base (take i K) t b
    back = takes_back s base cuts (take i K) t b fine (along_all s base cuts (take i K) start (fine_before s base cuts (take i K) (Back t b) fine))

    last : length (undos_of t (take i K)) ≡ length (drop_last (undos_of t (take i K))) + 1
    last = ap length back.split ∙ length-append (drop_last (undos_of t (take i K))) (back.undo ∷ [])

    is : slice_get (undos_of t (take i K)) (length (drop_last (undos_of t (take i K)))) ≡ Some back.undo
    is = ap (λ us. slice_get us (length (drop_last (undos_of t (take i K))))) back.split ∙ get_push (drop_last (undos_of t (take i K))) back.undo
