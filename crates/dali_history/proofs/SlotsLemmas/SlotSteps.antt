-- What one block does to the slots of its key and of other keys, and that its undo takes it back.
use Rattle.std.proofs.Common.{◌≡◌, ℕ, ◌<◌, Bool, true, false, List, [], ◌∷◌, ◌++◌, length, Option, Some, None, refl, ap, sym, subst, ◌∙◌, ◌⊎◌, inl, inr, ⊎_elim, ◌≢◌}
use Rattle.std.specs.Prelude.{◌==◌, ◌||◌, ⊤}
use Rattle.std.proofs.lemmas.Bool.{eq-eqb}
use Rattle.std.proofs.lemmas.Bool.Decides.{eqb_tells}
use Rattle.dali_words.specs.Values.{packed}
use Rattle.dali_geometry.specs.Sizes.{Sizes}
use Rattle.dali_record.specs.declared.operations.Op.{Op}
use Rattle.dali_record.specs.declared.operations.Op.TheVariants.{Look, Add, KillEntry, Put, Read, Change, KillCell}
use Rattle.dali_record.specs.declared.operations.Outcome.{Outcome}
use Rattle.dali_record.specs.declared.operations.Undo.{Undo}
use Rattle.dali_record.specs.declared.operations.Undo.TheVariants.{FreeCell as UndoFreeCell, ReviveCell as UndoReviveCell, Restore as UndoRestore, FreeEntry as UndoFreeEntry, ReviveEntry as UndoReviveEntry}
use Rattle.dali_record.specs.declared.operations.Pending.{Pending}
use Rattle.dali_record.specs.Operations.{undo_op}
use Rattle.dali_record.specs.Legal.{on_kind}
use Rattle.dali_access.proofs.IndexLemmas.Worlds.{World, Flags, put_at, raise}
use Rattle.dali_access.proofs.IndexLemmas.Reaches.{Rises}
use Rattle.dali_history.proofs.SlotsLemmas.BlockOnSlots.{Does}
use Rattle.dali_access.proofs.IndexLemmas.Parts.{Part, put_part, put_part-same, put_part-twice, put_part-own, put_at-own, put_at-beside}
use Rattle.dali_history.proofs.SlotsLemmas.SlotUndos.{Finds, Left, undone_part, undone_slot, slot_of, rest, Leads}

pub raise_rises : (F : Flags) (r : ℕ) → Rises F (raise F r)
unfolding raise
raise_rises F r q h = by_region (q == r)
  where
    by_region : (b : Bool) → (b || F q) ≡ true
    by_region true = refl
    by_region false = h

-- an operation of a call; its cell is one
abbrev pub IsForward : Op → Type 0
IsForward Look = ⊤
IsForward (Add p) = ⊤
IsForward (KillEntry e) = ⊤
IsForward (Put v) = ⊤
IsForward (Read c) = (0 < c) × (c < 8)
IsForward (Change c v) = (0 < c) × (c < 8)
IsForward (KillCell c) = (0 < c) × (c < 8)
IsForward _ = ⊥

-- one slot of the key is put, with its undo, or none is
abbrev pub Changed : Sizes → World → World → ℕ → ℕ → Option Undo → Type 0
Changed s W V k r u = ((V ≡ W) × (u ≡ None)) ⊎ ((d : Undo) × (xs : List ℕ) × (u ≡ Some d) × (V ≡ put_at W k r (slot_of d) xs) × Left s r d xs × (undone_slot d xs ≡ W k r (slot_of d)))

pub forward_changes : (s : Sizes) (W V : World) (F G : Flags) (k r : ℕ) (op : Op) (o : Outcome) (u : Option Undo) → Does W F V G k r op o u → on_kind s r op ≡ true → IsForward op → Changed s W V k r u × Rises F G
forward_changes s W V F G k r Look o u h kind f = (inl (h.0.0, h.0.2), stay h.0.1)
  where
    stay : G ≡ F → Rises F G
    stay e = λ q g. rw e g
forward_changes s W V F G k r (Add p) o u h kind f = ⊎_elim (λ a. (inr (UndoFreeEntry a.0, 1 ∷ p ∷ [], a.2, a.5, (kind, p ∷ [], refl), sym a.4), λ q g. rw (a.6) g)) (λ a. (inl (a.2, a.1), λ q g. rw (a.3) (raise_rises F r q g))) h
forward_changes s W V F G k r (KillEntry e) o u h kind f = ⊎_elim (λ a. (inr (UndoReviveEntry e, 2 ∷ a.0 ∷ [], a.2, a.4, (kind, a.0 ∷ [], refl), sym a.3), λ q g. rw (a.5) g)) (λ a. (inl (a.0.0, a.0.2), λ q g. rw (a.0.1) g)) h
forward_changes s W V F G k r (Put v) o u h kind f = ⊎_elim (λ a. (inr (UndoFreeCell a.0, 1 ∷ length v ∷ packed v, a.2, a.6, (kind, length v ∷ packed v, refl), sym a.5), λ q g. rw (a.7) g)) (λ a. (inl (a.0.0, a.0.2), λ q g. rw (a.0.1) g)) h
forward_changes s W V F G k r (Read c) o u h kind f = (inl (h.0.0, h.0.2), stay h.0.1)
  where
    stay : G ≡ F → Rises F G
    stay e = λ q g. rw e g
forward_changes s W V F G k r (Change c v) o u h kind f = ⊎_elim (λ a. (inr (UndoRestore c a.0 a.1, 1 ∷ length v ∷ packed v, a.3, a.5, (kind, length v ∷ packed v, refl, a.4.2), sym a.4.0), λ q g. rw (a.6) g)) (λ a. (inl (a.0.0, a.0.2), λ q g. rw (a.0.1) g)) (h f.0 f.1)
forward_changes s W V F G k r (KillCell c) o u h kind f = ⊎_elim (λ a. (inr (UndoReviveCell c, 2 ∷ a.0 ∷ a.1, a.3, a.5, (kind, a.0 ∷ a.1, refl), sym a.4.0), λ q g. rw (a.6) g)) (λ a. (inl (a.0.0, a.0.2), λ q g. rw (a.0.1) g)) (h f.0 f.1)
forward_changes s W V F G k r _ o u h kind f = absurd f

-- the slots of other keys stay
pub changed_beside : (s : Sizes) (W V : World) (k r : ℕ) (u : Option Undo) (q : ℕ) → Changed s W V k r u → q ≢ k → V q ≡ W q
changed_beside s W V k r u q (inl h) apart = ap (λ (X : World). X q) h.0
changed_beside s W V k r u q (inr h) apart = ap (λ (X : World). X q) h.3 ∙ put_at-beside W k r (slot_of h.0) h.1 q apart

-- the undos that a block adds
abbrev pub added_by : ℕ → ℕ → Option Undo → List Pending
added_by k r None = []
added_by k r (Some d) = record { key = k; region = r; undo = d } ∷ []

-- the undo of a change leads back to what stood before it
pub changed_leads : (s : Sizes) (W V : World) (k r : ℕ) (u : Option Undo) (q : ℕ) (ps : List Pending) (Q : Part) → Changed s W V k r u → Leads s q ps (W q) Q → Leads s q (added_by k r u ++ ps) (V q) Q
changed_leads s W V k r u q ps Q (inl h) g = rw (h.0, h.1) g
changed_leads s W V k r u q ps Q (inr h) g = rw (h.2) (by_key (eqb_tells k q))
  where
    p : Pending
    p = record { key = k; region = r; undo = h.0 }

    by_key : (((k == q) ≡ true) × (k ≡ q)) ⊎ (((k == q) ≡ false) × (k ≢ q)) → Leads s q (p ∷ ps) (V q) Q
    by_key (inl e) =
        let now : V q ≡ put_part (W q) r (slot_of h.0) h.1 = ap (λ (X : World). X q) h.3 ∙ subst (λ x. put_at W x r (slot_of h.0) h.1 q ≡ put_part (W q) r (slot_of h.0) h.1) (sym e.1) (put_at-own W q r (slot_of h.0) h.1) in
        let there : V q r (slot_of h.0) ≡ h.1 = ap (λ (X : Part). X r (slot_of h.0)) now ∙ put_part-same (W q) r (slot_of h.0) h.1 in
        let was : undone_slot h.0 h.1 ≡ W q r (slot_of h.0) = h.5 ∙ ap (λ x. W x r (slot_of h.0)) e.1 in
        let back : undone_part (V q) p ≡ W q = ap (λ (X : Part). undone_part X p) now ∙ rw (put_part-same (W q) r (slot_of h.0) h.1) (put_part-twice (W q) r (slot_of h.0) h.1 (undone_slot h.0 h.1) ∙ put_part-own (W q) r (slot_of h.0) (undone_slot h.0 h.1) (sym was)) in
        inl (e.1, rw there (h.4), subst (λ (X : Part). Leads s q ps X Q) (sym back) g)
    by_key (inr e) = inr (e.1, subst (λ (X : Part). Leads s q ps X Q) (sym (changed_beside s W V k r u q (inr h) (λ x. e.1 (sym x)))) g)

-- ---- taking back
-- a block that performs an undo whose slot is as it was left does so
pub undo_does : (s : Sizes) (W V : World) (F G : Flags) (p : Pending) (o : Outcome) (u : Option Undo) → Does W F V G p.key p.region (undo_op p.undo) o u → Finds s p (W p.key) → (V ≡ put_at W p.key p.region (slot_of p.undo) (undone_slot p.undo (W p.key p.region (slot_of p.undo)))) × (G ≡ F)
undo_does s W V F G p o u h f = go p.undo h f
  where
    go : (d : Undo) → Does W F V G p.key p.region (undo_op d) o u → Left s p.region d (W p.key p.region (slot_of d)) → (V ≡ put_at W p.key p.region (slot_of d) (undone_slot d (W p.key p.region (slot_of d)))) × (G ≡ F)
    go (UndoFreeCell c) h f = let a = h 1 f.1 f.2 in (a.0, a.1)
    go (UndoReviveCell c) h f = let a = h 2 f.1 f.2 in let e : rest (W p.key p.region c) ≡ f.1 = ap rest f.2 in (rw e (a.0), a.1)
    go (UndoRestore c n vs) h f = let a = h 1 f.1 f.2 f.3 in (a.0, a.1)
    go (UndoFreeEntry e) h f = let a = h 1 f.1 f.2 in (a.0, a.1)
    go (UndoReviveEntry e) h f = let a = h 2 f.1 f.2 in let i : rest (W p.key p.region e) ≡ f.1 = ap rest f.2 in (rw i (a.0), a.1)

pub raised-same : (F : Flags) (r : ℕ) → raise F r r ≡ true
unfolding raise
raised-same F r = rw (eq-eqb r r refl) refl
