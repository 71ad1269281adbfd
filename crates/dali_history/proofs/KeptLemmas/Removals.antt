-- The removals that a commit leaves: they stand dead, each in a slot of its own.
use Rattle.std.proofs.Common.{◌≡◌, ℕ, Bool, true, false, cond, List, [], ◌∷◌, ◌++◌, refl, ap, sym, subst, ◌∙◌, ◌⊎◌, inl, inr, ⊎_elim, ◌≢◌, append-nil}
use Rattle.std.specs.Prelude.{⊤, reverse}
use Rattle.std.proofs.lemmas.List.{reverse-append}
use Rattle.std.proofs.lemmas.List.Elements.{filter-append}
use Rattle.dali_lists.proofs.Numbers.{one_not_two}
use Rattle.dali_geometry.specs.Sizes.{Sizes}
use Rattle.dali_record.specs.declared.operations.Pending.{Pending}
use Rattle.dali_record.specs.declared.operations.Undo.{Undo}
use Rattle.dali_record.specs.declared.operations.Undo.TheVariants.{FreeCell as UndoFreeCell, ReviveCell as UndoReviveCell, Restore as UndoRestore, FreeEntry as UndoFreeEntry, ReviveEntry as UndoReviveEntry}
use Rattle.dali_record.specs.Legal.{dead_of, is_removal}
use Rattle.dali_record.proofs.Ends.{by_push}
use Rattle.dali_access.proofs.IndexLemmas.Parts.{Part, put_part-same, put_part-other, same_slot}
use Rattle.dali_history.proofs.SlotsLemmas.SlotUndos.{Leads, NoneOn, Left, undone_part, undone_slot, slot_of}
use Rattle.dali_history.proofs.KeptLemmas.Invariant.{AreDead, Apart}

-- the removals of a list with no undo on the key
pub dead_of_none : (k : ℕ) (ps : List Pending) → NoneOn k ps → NoneOn k (dead_of ps)
dead_of_none k [] h = tt
dead_of_none k (p ∷ ps) h = by_test (is_removal p.undo) (dead_of_none k ps h.1)
  where
    by_test : (b : Bool) → NoneOn k (dead_of ps) → NoneOn k (cond b (p ∷ dead_of ps) (dead_of ps))
    by_test true ih = (h.0, ih)
    by_test false ih = ih

abbrev first_word : List ℕ → ℕ
first_word [] = 0
first_word (x ∷ xs) = x

-- what an undo leaves isn't dead
not_dead : (d : Undo) (xs ys : List ℕ) → undone_slot d xs ≡ 2 ∷ ys → ⊥
not_dead (UndoFreeCell c) xs ys e = cc (e)
not_dead (UndoReviveCell c) xs ys e = one_not_two (ap first_word e)
not_dead (UndoRestore c n vs) xs ys e = one_not_two (ap first_word e)
not_dead (UndoFreeEntry c) xs ys e = cc (e)
not_dead (UndoReviveEntry c) xs ys e = one_not_two (ap first_word e)

-- each of these is on another slot than p
abbrev AllApart : ℕ → Pending → List Pending → Type 0
AllApart k p [] = ⊤
AllApart k p (q ∷ qs) = (q.key ≡ k → (p.region ≢ q.region) ⊎ (slot_of p.undo ≢ slot_of q.undo)) × AllApart k p qs

-- what stands dead after an undo stood so before it, elsewhere
dead_before : (k : ℕ) (P : Part) (p : Pending) (qs : List Pending) → AreDead k qs (undone_part P p) → AreDead k qs P × AllApart k p qs
dead_before k P p [] h = (tt, tt)
dead_before k P p (q ∷ qs) h =
    let rest = dead_before k P p qs h.2 in
    (((λ e. let g = h.0 e in let y = there e (g.0, g.1) in (y.1.0, y.1.1, g.2)), h.1, rest.0), ((λ e. let g = h.0 e in let y = there e (g.0, g.1) in y.0), rest.1))
  where
    there : q.key ≡ k → (ys : List ℕ) × (undone_part P p q.region (slot_of q.undo) ≡ 2 ∷ ys) → ((p.region ≢ q.region) ⊎ (slot_of p.undo ≢ slot_of q.undo)) × ((ys : List ℕ) × (P q.region (slot_of q.undo) ≡ 2 ∷ ys))
    there e y = ⊎_elim same other (same_slot q.region (slot_of q.undo) p.region (slot_of p.undo))
      where
        same : (q.region ≡ p.region) × (slot_of q.undo ≡ slot_of p.undo) → ((p.region ≢ q.region) ⊎ (slot_of p.undo ≢ slot_of q.undo)) × ((ys : List ℕ) × (P q.region (slot_of q.undo) ≡ 2 ∷ ys))
        same a =
            let at : undone_part P p q.region (slot_of q.undo) ≡ undone_part P p p.region (slot_of p.undo) = ap (λ r. undone_part P p r (slot_of q.undo)) a.0 ∙ ap (λ i. undone_part P p p.region i) a.1 in
            absurd (not_dead p.undo (P p.region (slot_of p.undo)) y.0 (sym (put_part-same P p.region (slot_of p.undo) (undone_slot p.undo (P p.region (slot_of p.undo)))) ∙ sym at ∙ y.1))

        other : (q.region ≢ p.region) ⊎ (slot_of q.undo ≢ slot_of p.undo) → ((p.region ≢ q.region) ⊎ (slot_of p.undo ≢ slot_of q.undo)) × ((ys : List ℕ) × (P q.region (slot_of q.undo) ≡ 2 ∷ ys))
        other a = (⊎_elim (λ n. inl (λ i. n (sym i))) (λ n. inr (λ i. n (sym i))) a, (y.0, sym (put_part-other P p.region (slot_of p.undo) (undone_slot p.undo (P p.region (slot_of p.undo))) q.region (slot_of q.undo) a) ∙ y.1))

apart_push : (k : ℕ) (q p : Pending) (qs : List Pending) → Apart k q qs → (p.key ≡ k → (p.region ≢ q.region) ⊎ (slot_of p.undo ≢ slot_of q.undo)) → Apart k q (qs ++ p ∷ [])
apart_push k q p [] h g = (g, tt)
apart_push k q p (x ∷ qs) h g = (h.0, apart_push k q p qs h.1 g)

dead_push : (k : ℕ) (P : Part) (p : Pending) (qs : List Pending) → AreDead k qs P → AllApart k p qs → (p.key ≡ k → (ys : List ℕ) × (P p.region (slot_of p.undo) ≡ 2 ∷ ys) × (is_removal p.undo ≡ true)) → AreDead k (qs ++ p ∷ []) P
dead_push k P p [] h a g = (g, (λ e. tt), tt)
dead_push k P p (q ∷ qs) h a g = (h.0, (λ e. apart_push k q p qs (h.1 e) (λ i. a.0 e)), dead_push k P p qs h.2 a.1 g)

-- one off the key is apart from all
off_apart : (k : ℕ) (P : Part) (p : Pending) (qs : List Pending) → p.key ≢ k → AreDead k qs P → AreDead k (qs ++ p ∷ []) P
off_apart k P p [] off h = ((λ e. absurd (off e)), (λ e. tt), tt)
off_apart k P p (q ∷ qs) off h = (h.0, (λ e. apart_push k q p qs (h.1 e) (λ i. absurd (off i))), off_apart k P p qs off h.2)

removed_is : (s : Sizes) (r : ℕ) (d : Undo) (xs : List ℕ) → is_removal d ≡ true → Left s r d xs → (ys : List ℕ) × (xs ≡ 2 ∷ ys)
removed_is s r (UndoFreeCell c) xs h l = absurd (cc (h))
removed_is s r (UndoReviveCell c) xs h l = (l.1, l.2)
removed_is s r (UndoRestore c n vs) xs h l = absurd (cc (h))
removed_is s r (UndoFreeEntry c) xs h l = absurd (cc (h))
removed_is s r (UndoReviveEntry c) xs h l = (l.1, l.2)

-- the removals of a list of undos that leads back stand dead
pub leads_dead : (s : Sizes) (k : ℕ) (us : List Pending) (P Q : Part) → Leads s k (reverse us) P Q → AreDead k (dead_of us) P
leads_dead s k us = by_push (λ vs. (P Q : Part) → Leads s k (reverse vs) P Q → AreDead k (dead_of vs) P) (λ P Q h. tt) step us
  where
    step : (vs : List Pending) (p : Pending) → ((P Q : Part) → Leads s k (reverse vs) P Q → AreDead k (dead_of vs) P) → (P Q : Part) → Leads s k (reverse (vs ++ p ∷ [])) P Q → AreDead k (dead_of (vs ++ p ∷ [])) P
    step vs p ih P Q h = subst (λ xs. AreDead k xs P) (sym list) (by_test (is_removal p.undo) refl leads)
      where
        list : dead_of (vs ++ p ∷ []) ≡ dead_of vs ++ cond (is_removal p.undo) (p ∷ []) []
        list = filter-append (λ q. is_removal q.undo) vs (p ∷ [])

        leads : Leads s k (p ∷ reverse vs) P Q
        leads = subst (λ xs. Leads s k xs P Q) (reverse-append vs (p ∷ [])) h

        by_test : (b : Bool) → is_removal p.undo ≡ b → Leads s k (p ∷ reverse vs) P Q → AreDead k (dead_of vs ++ cond b (p ∷ []) []) P
        by_test true e (inl g) = let old = dead_before k P p (dead_of vs) (ih (undone_part P p) Q g.2) in dead_push k P p (dead_of vs) old.0 old.1 (λ i. let y = removed_is s p.region p.undo (P p.region (slot_of p.undo)) e g.1 in (y.0, y.1, e))
        by_test true e (inr g) = off_apart k P p (dead_of vs) g.0 (ih P Q g.1)
        by_test false e (inl g) = subst (λ xs. AreDead k xs P) (sym (append-nil (dead_of vs))) (dead_before k P p (dead_of vs) (ih (undone_part P p) Q g.2)).0
        by_test false e (inr g) = subst (λ xs. AreDead k xs P) (sym (append-nil (dead_of vs))) (ih P Q g.1)
