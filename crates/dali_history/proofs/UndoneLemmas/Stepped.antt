-- What one record more does to the undos of a running transaction and to the slots of a key on which it has one: others leave them alone.
--     Same, Adds, Drops        the record leaves both, adds an undo that leads back, or takes the last one back
--     Stepped                  one of these
use Rattle.std.proofs.Common.{◌≡◌, ℕ, Bool, true, false, List, [], ◌∷◌, ◌++◌, length, Option, Some, None, refl, ap, sym, subst, ◌∙◌, ◌⊎◌, inl, inr, ⊎_elim, ◌≢◌, append-nil}
use Rattle.std.specs.Prelude.{◌==◌, ◌||◌}
use Rattle.std.proofs.lemmas.Bool.Decides.{eqb_tells}
use Rattle.std.proofs.lemmas.Bool.{both_ways}
use Rattle.dali_lists.proofs.Options.{some_of}
use Rattle.dali_geometry.specs.Sizes.{Sizes}
use Rattle.dali_record.specs.declared.operations.Undo.{Undo}
use Rattle.dali_record.specs.declared.operations.Pending.{Pending}
use Rattle.dali_record.specs.declared.operations.Block.{Block}
use Rattle.dali_record.specs.declared.records.Record.{Record}
use Rattle.dali_record.specs.declared.records.Record.TheVariants.{Format, Begin, Forward, Done, Commit, Ended, Solo, AuditBegin, AuditClean, AuditFail, Restarted, Back}
use Rattle.dali_record.specs.Operations.{undo_op}
use Rattle.dali_record.specs.Blocks.{IsSoundOn, pending}
use Rattle.dali_record.specs.Calls.{Fresh}
use Rattle.dali_record.specs.Log.{Touch, touch_of, undos_of, undo_step, undo_added, committed, last_of, drop_last}
use Rattle.dali_record.specs.Damage.{has}
use Rattle.dali_record.specs.Legal.{Working, TxnState, Active, on_kind, is_of, freeing_op, is_removal, Committed as IsOver}
use Rattle.dali_record.specs.Settled.{redo, redo_all, words_in}
use Rattle.dali_record.proofs.Pushes.{undos_of_push, touch_new, redo_all_push}
use Rattle.dali_access.proofs.IndexLemmas.Worlds.{World, part, flags, put_at}
use Rattle.dali_access.proofs.IndexLemmas.Parts.{Part, put_at-beside}
use Rattle.dali_history.specs.Images.{map_of}
use Rattle.dali_history.proofs.SlotsLemmas.BlockOnSlots.{Does, IsRegion}
use Rattle.dali_history.proofs.SlotsLemmas.SoundBlocks.{sound_does, image_redo_all}
use Rattle.dali_history.proofs.SlotsLemmas.SlotUndos.{NoneOn, Leads, leads_first, undone_part, slot_of}
use Rattle.dali_history.proofs.SlotsLemmas.SlotSteps.{IsForward, Changed, added_by, forward_changes, changed_beside, changed_leads, undo_does}
use Rattle.dali_history.proofs.SlotsLemmas.CallKey.{follow_says}
use Rattle.dali_history.proofs.SlotsLemmas.AnswersAndBacks.{Undoes, undoes_part, last_split}
use Rattle.dali_history.specs.Kept.Kept.{kept_state, freed_later}
use Rattle.dali_history.proofs.KeptLemmas.WithoutLast.{left, sound_before, yields_altered}
use Rattle.dali_history.proofs.KeptLemmas.Invariant.{Knows, yields_left}
use Rattle.dali_history.proofs.KeptLemmas.OperationsKeep.{Forwards, forward_is}
use Rattle.dali_history.proofs.KeptLemmas.BacksKeep.{BackStep, back_finds, taken_back}
use Rattle.dali_history.proofs.KeptLemmas.SolosKeep.{frees_dead}
use Rattle.dali_history.proofs.KeptLemmas.InvariantAlong.{forward_state, back_state, region_within, image_region, does_of, is_of_is}
use Rattle.dali_history.proofs.KeptLemmas.InvariantSteps.{Fine, Along, fine_before, block_takes_back, state_step, frees_is, solo_state, frees_slot}
use Rattle.dali_history.proofs.KeptLemmas.KnownTxns.{back_is, committed_has}
use Rattle.dali_history.proofs.UndoneLemmas.After.{one, one_on, one_off}

abbrev pub Same : ℕ → List Record → Record → Part → Part → Type 0
Same t J r P Q = (undos_of t (J ++ r ∷ []) ≡ undos_of t J) × (Q ≡ P)

abbrev pub Adds : ℕ → ℕ → List Record → Record → Part → Part → Type 0
Adds k t J r P Q = (q : Pending) × (undos_of t (J ++ r ∷ []) ≡ undos_of t J ++ q ∷ []) × (one k q Q ≡ P)

abbrev pub Drops : ℕ → ℕ → List Record → Record → Part → Part → Type 0
Drops k t J r P Q = (q : Pending) × (undos_of t J ≡ undos_of t (J ++ r ∷ []) ++ q ∷ []) × (Q ≡ one k q P)

abbrev pub Stepped : ℕ → ℕ → List Record → Record → Part → Part → Type 0
Stepped k t J r P Q = Same t J r P Q ⊎ Adds k t J r P Q ⊎ Drops k t J r P Q

-- ---- no other transaction's block is on the key
pub nobody_else :
    (s : Sizes) (base : List (List ℕ)) (cuts : List ℕ) (J : List Record) (r : Record) (a : Touch) (t k : ℕ) → Fine s base cuts (J ++ r ∷ []) → Along s base cuts J → (NoneOn k (left t J) → ⊥)
    → touch_of r ≡ Some a → t ≢ a.owner → a.block.key ≡ k → ⊥
nobody_else s base cuts J r a t k h along holds at apart key =
    ⊎_elim holds (λ alters. holds (yields_left cuts J r t k (kept_state s t J) (along.known t) (yields_altered cuts J r a t k h.locks at key apart alters))) ((along.keyed k).altered t)

-- ---- an operation
pub forward_op : (s : Sizes) (base : List (List ℕ)) (cuts : List ℕ) (J : List Record) (u : ℕ) (b : Block) → Fine s base cuts (J ++ Forward u b ∷ []) → IsForward b.op
forward_op s base cuts J u b h = go (some_of (kept_state s u J) ((fine_before s base cuts J (Forward u b) h).calls.txns u)) (some_of (kept_state s u (J ++ Forward u b ∷ [])) (h.calls.txns u))
  where
    go : (x : TxnState) × (kept_state s u J ≡ Some x) → (y : TxnState) × (kept_state s u (J ++ Forward u b ∷ []) ≡ Some y) → IsForward b.op
    go x y = run (forward_state s u x.0 y.0 b (state_step s u J (Forward u b) x.0 y.0 x.1 y.1))
      where
        run : (w : Working) × (x.0 ≡ Active w) × (Rattle.dali_record.specs.Legal.forward s u w b ≡ Some y.0) → IsForward b.op
        run z = let f : Forwards s u z.0 b y.0 = forward_is s u z.0 b y.0 z.2 in ⊎_elim (λ a. (follow_says s u z.0.progress b f.0 a.1).0) (λ a. (follow_says s u Fresh b f.0 a.1).0) f.1

-- a block of the last record is on a region of its kind, and does what its operation does
pub kind_of : (s : Sizes) (base : List (List ℕ)) (cuts : List ℕ) (J : List Record) (r : Record) (a : Touch) → Fine s base cuts (J ++ r ∷ []) → touch_of r ≡ Some a → on_kind s a.block.region a.block.op ≡ true
kind_of s base cuts J r a h e = h.calls.kinds (length J) a (touch_new J r ∙ e)

pub block_does :
    (s : Sizes) (base : List (List ℕ)) (cuts : List ℕ) (J : List Record) (u : ℕ) (b : Block) → Fine s base cuts (J ++ Forward u b ∷ [])
    → Does (part s (redo_all base J)) (flags (redo_all base J)) (part s (redo_all base (J ++ Forward u b ∷ []))) (flags (redo_all base (J ++ Forward u b ∷ []))) b.key b.region b.op b.outcome b.undo
block_does s base cuts J u b h =
    let kind = kind_of s base cuts J (Forward u b) (record { txn = u; owner = u; block = b }) h refl in
    let region = image_region s (redo_all base J) b.region (image_redo_all s base J h.image) (region_within s b.region b.op kind) in
    subst (λ image. Does (part s (redo_all base J)) (flags (redo_all base J)) (part s image) (flags image) b.key b.region b.op b.outcome b.undo) (sym (redo_all_push base J (Forward u b))) (sound_does s (redo_all base J) b region kind (sound_before base J (Forward u b) h.sound).1)

forward_step :
    (s : Sizes) (base : List (List ℕ)) (cuts : List ℕ) (J : List Record) (u : ℕ) (b : Block) → Fine s base cuts (J ++ Forward u b ∷ []) → Along s base cuts J
    → (t k : ℕ) → (NoneOn k (left t J) → ⊥) → Stepped k t J (Forward u b) (part s (redo_all base J) k) (part s (redo_all base (J ++ Forward u b ∷ [])) k)
forward_step s base cuts J u b h along t k holds = ⊎_elim mine other (eqb_tells u t)
  where
    W : World
    W = part s (redo_all base J)

    V : World
    V = part s (redo_all base (J ++ Forward u b ∷ []))

    changed : Changed s (part s (redo_all base J)) (part s (redo_all base (J ++ Forward u b ∷ []))) b.key b.region b.undo
    changed = (forward_changes s (part s (redo_all base J)) (part s (redo_all base (J ++ Forward u b ∷ []))) (flags (redo_all base J)) (flags (redo_all base (J ++ Forward u b ∷ []))) b.key b.region b.op b.outcome b.undo (block_does s base cuts J u b h) (kind_of s base cuts J (Forward u b) (record { txn = u; owner = u; block = b }) h refl) (forward_op s base cuts J u b h)).0

    other : ((u == t) ≡ false) × (u ≢ t) → Stepped k t J (Forward u b) (part s (redo_all base J) k) (part s (redo_all base (J ++ Forward u b ∷ [])) k)
    other a = inl (undos_of_push t J (Forward u b) ∙ rw (a.0) refl, ⊎_elim (λ e. absurd (nobody_else s base cuts J (Forward u b) (record { txn = u; owner = u; block = b }) t k h along holds refl (λ i. a.1 (sym i)) e.1)) (λ e. changed_beside s W V b.key b.region b.undo k changed (λ i. e.1 (sym i))) (eqb_tells b.key k))

    mine : ((u == t) ≡ true) × (u ≡ t) → Stepped k t J (Forward u b) (part s (redo_all base J) k) (part s (redo_all base (J ++ Forward u b ∷ [])) k)
    mine a = by_undo b.undo refl
      where
        more : undos_of t (J ++ Forward u b ∷ []) ≡ undos_of t J ++ undo_added b b.undo
        more = undos_of_push t J (Forward u b) ∙ rw (a.0) refl

        still : b.undo ≡ None → Changed s (part s (redo_all base J)) (part s (redo_all base (J ++ Forward u b ∷ []))) b.key b.region b.undo → part s (redo_all base (J ++ Forward u b ∷ [])) k ≡ part s (redo_all base J) k
        still e (inl x) = ap (λ (X : World). X k) x.0
        still e (inr x) = let no : None ≡ Some x.0 = sym e ∙ x.2 in absurd (cc (no))

        by_undo : (o : Option Undo) → b.undo ≡ o → Stepped k t J (Forward u b) (part s (redo_all base J) k) (part s (redo_all base (J ++ Forward u b ∷ [])) k)
        by_undo None e = inl (more ∙ ap (λ o. undos_of t J ++ undo_added b o) e ∙ append-nil (undos_of t J), still e changed)
        by_undo (Some d) e = inr (inl (pending b d, more ∙ ap (λ o. undos_of t J ++ undo_added b o) e, ⊎_elim on off (eqb_tells b.key k)))
          where
            on : ((b.key == k) ≡ true) × (b.key ≡ k) → one k (pending b d) (part s (redo_all base (J ++ Forward u b ∷ [])) k) ≡ part s (redo_all base J) k
            on x = one_on k (pending b d) (V k) x.1 ∙ (leads_first s k (pending b d) [] (V k) (W k) x.1 (subst (λ o. Leads s k (added_by b.key b.region o ++ []) (V k) (W k)) e (changed_leads s W V b.key b.region b.undo k [] (W k) changed refl))).1

            off : ((b.key == k) ≡ false) × (b.key ≢ k) → one k (pending b d) (part s (redo_all base (J ++ Forward u b ∷ [])) k) ≡ part s (redo_all base J) k
            off x = one_off k (pending b d) (V k) x.1 ∙ changed_beside s W V b.key b.region b.undo k changed (λ i. x.1 (sym i))

-- ---- a block that takes back
-- its undo, and that the slot was found
pub record TakesBack (s : Sizes) (base : List (List ℕ)) (J : List Record) (u : ℕ) (b : Block) : Type 0 where
  pub undo : Pending
  pub split : undos_of u J ≡ drop_last (undos_of u J) ++ undo ∷ []
  pub is : (b.key ≡ undo.key) × (b.region ≡ undo.region) × (b.op ≡ undo_op undo.undo)
  pub running : has (committed J) u ≡ false
  pub finds : Rattle.dali_history.proofs.SlotsLemmas.SlotUndos.Finds s undo (part s (redo_all base J) undo.key)
  pub undoes : Undoes (part s (redo_all base J)) (part s (redo_all base (J ++ Back u b ∷ []))) undo

pub takes_back : (s : Sizes) (base : List (List ℕ)) (cuts : List ℕ) (J : List Record) (u : ℕ) (b : Block) → Fine s base cuts (J ++ Back u b ∷ []) → Along s base cuts J → TakesBack s base J u b
takes_back s base cuts J u b h along = go (some_of (kept_state s u J) (old.calls.txns u)) (some_of (kept_state s u (J ++ Back u b ∷ [])) (h.calls.txns u))
  where
    old : Fine s base cuts J
    old = fine_before s base cuts J (Back u b) h

    kind : on_kind s b.region b.op ≡ true
    kind = kind_of s base cuts J (Back u b) (record { txn = u; owner = u; block = b }) h refl

    region : IsRegion s (redo_all base J) b.region
    region = image_region s (redo_all base J) b.region (image_redo_all s base J h.image) (region_within s b.region b.op kind)

    sound : IsSoundOn (words_in (redo_all base J) b.region) b
    sound = (sound_before base J (Back u b) h.sound).1

    does : Does (part s (redo_all base J)) (flags (redo_all base J)) (part s (redo_all base (J ++ Back u b ∷ []))) (flags (redo_all base (J ++ Back u b ∷ []))) b.key b.region b.op b.outcome b.undo
    does = subst (λ image. Does (part s (redo_all base J)) (flags (redo_all base J)) (part s image) (flags image) b.key b.region b.op b.outcome b.undo) (sym (redo_all_push base J (Back u b))) (sound_does s (redo_all base J) b region kind sound)

    go : (x : TxnState) × (kept_state s u J ≡ Some x) → (y : TxnState) × (kept_state s u (J ++ Back u b ∷ []) ≡ Some y) → TakesBack s base J u b
    go x y = run (back_state s u x.0 y.0 b (state_step s u J (Back u b) x.0 y.0 x.1 y.1))
      where
        run : (w : Working) × (x.0 ≡ Active w) × (Rattle.dali_record.specs.Legal.back w b (last_of w.undos) ≡ Some y.0) → TakesBack s base J u b
        run z = with (back_is z.0 b (last_of z.0.undos) y.0 z.2)
          where
            known : Knows u J (Some (Active z.0))
            known = subst (λ o. Knows u J o) (x.1 ∙ ap (λ o. Some o) z.1) (along.known u)

            with : (p : Pending) × (last_of z.0.undos ≡ Some p) × (is_of (undo_op p.undo) p b ≡ true) × (Active (taken_back z.0) ≡ y.0) → TakesBack s base J u b
            with p = record {
              undo = p.0;
              split = last_split (undos_of u J) p.0 (ap last_of known.0 ∙ p.1);
              is = is;
              running = known.1;
              finds = finds;
              undoes = (undo_does s (part s (redo_all base J)) (part s (redo_all base (J ++ Back u b ∷ []))) (flags (redo_all base J)) (flags (redo_all base (J ++ Back u b ∷ []))) p.0 b.outcome b.undo (does_of (part s (redo_all base J)) (part s (redo_all base (J ++ Back u b ∷ []))) (flags (redo_all base J)) (flags (redo_all base (J ++ Back u b ∷ []))) (undo_op p.0.undo) p.0 b p.2 does) finds).0;
            }
              where
                is : (b.key ≡ p.0.key) × (b.region ≡ p.0.region) × (b.op ≡ undo_op p.0.undo)
                is = is_of_is (undo_op p.0.undo) p.0 b p.2

                step : BackStep s cuts J u b z.0 p.0
                step = block_takes_back s base cuts J u b z.0 p.0 h along (x.1 ∙ ap (λ o. Some o) z.1) (y.1 ∙ ap (λ o. Some o) (sym p.3)) p.1 is

                finds : Rattle.dali_history.proofs.SlotsLemmas.SlotUndos.Finds s p.0 (part s (redo_all base J) p.0.key)
                finds = back_finds s cuts J (part s (redo_all base J)) (part s (redo_all base (J ++ Back u b ∷ []))) (flags (redo_all base J)) u b z.0 p.0 step (map_of s base p.0.key) (along.keyed p.0.key)

back_step :
    (s : Sizes) (base : List (List ℕ)) (cuts : List ℕ) (J : List Record) (u : ℕ) (b : Block) → Fine s base cuts (J ++ Back u b ∷ []) → Along s base cuts J
    → (t k : ℕ) → (NoneOn k (left t J) → ⊥) → Stepped k t J (Back u b) (part s (redo_all base J) k) (part s (redo_all base (J ++ Back u b ∷ [])) k)
back_step s base cuts J u b h along t k holds = ⊎_elim mine other (eqb_tells u t)
  where
    back : TakesBack s base J u b
    back = takes_back s base cuts J u b h along

    parts : ((back.undo.key ≡ k) × (part s (redo_all base (J ++ Back u b ∷ [])) k ≡ undone_part (part s (redo_all base J) k) back.undo)) ⊎ ((back.undo.key ≢ k) × (part s (redo_all base (J ++ Back u b ∷ [])) k ≡ part s (redo_all base J) k))
    parts = undoes_part (part s (redo_all base J)) (part s (redo_all base (J ++ Back u b ∷ []))) back.undo k back.undoes

    other : ((u == t) ≡ false) × (u ≢ t) → Stepped k t J (Back u b) (part s (redo_all base J) k) (part s (redo_all base (J ++ Back u b ∷ [])) k)
    other a = inl (undos_of_push t J (Back u b) ∙ rw (a.0) refl, ⊎_elim (λ e. absurd (nobody_else s base cuts J (Back u b) (record { txn = u; owner = u; block = b }) t k h along holds refl (λ i. a.1 (sym i)) (back.is.0 ∙ e.0))) (λ e. e.1) parts)

    mine : ((u == t) ≡ true) × (u ≡ t) → Stepped k t J (Back u b) (part s (redo_all base J) k) (part s (redo_all base (J ++ Back u b ∷ [])) k)
    mine a = inr (inr (back.undo, less, ⊎_elim (λ e. e.1 ∙ sym (one_on k back.undo (part s (redo_all base J) k) e.0)) (λ e. e.1 ∙ sym (one_off k back.undo (part s (redo_all base J) k) e.0)) parts))
      where
        dropped : undos_of t (J ++ Back u b ∷ []) ≡ drop_last (undos_of t J)
        dropped = undos_of_push t J (Back u b) ∙ rw (a.0) refl

        less : undos_of t J ≡ undos_of t (J ++ Back u b ∷ []) ++ back.undo ∷ []
        less = subst (λ z. undos_of z J ≡ drop_last (undos_of z J) ++ back.undo ∷ []) a.1 back.split ∙ ap (λ us. us ++ back.undo ∷ []) (sym dropped)

-- ---- a solo
pub stays_committed : (t : ℕ) (J : List Record) (r : Record) → has (committed (J ++ r ∷ [])) t ≡ false → has (committed J) t ≡ false
stays_committed t J r h = go (has (committed J) t) (sym (committed_has t J r) ∙ h)
  where
    go : (b : Bool) → (b || has (committed (r ∷ [])) t) ≡ false → b ≡ false
    go true x = absurd (cc (x))
    go false x = refl

solo_step :
    (s : Sizes) (base : List (List ℕ)) (cuts : List ℕ) (J : List Record) (x u : ℕ) (b : Block) → Fine s base cuts (J ++ Solo x u b ∷ []) → Along s base cuts J
    → (t k : ℕ) → has (committed J) t ≡ false → (NoneOn k (left t J) → ⊥) → Stepped k t J (Solo x u b) (part s (redo_all base J) k) (part s (redo_all base (J ++ Solo x u b ∷ [])) k)
solo_step s base cuts J x u b h along t k un holds = go (some_of (kept_state s u J) (old.calls.txns u)) (some_of (kept_state s u (J ++ Solo x u b ∷ [])) (h.calls.txns u))
  where
    old : Fine s base cuts J
    old = fine_before s base cuts J (Solo x u b) h

    kind : on_kind s b.region b.op ≡ true
    kind = kind_of s base cuts J (Solo x u b) (record { txn = x; owner = u; block = b }) h refl

    region : IsRegion s (redo_all base J) b.region
    region = image_region s (redo_all base J) b.region (image_redo_all s base J h.image) (region_within s b.region b.op kind)

    does : Does (part s (redo_all base J)) (flags (redo_all base J)) (part s (redo_all base (J ++ Solo x u b ∷ []))) (flags (redo_all base (J ++ Solo x u b ∷ []))) b.key b.region b.op b.outcome b.undo
    does = subst (λ image. Does (part s (redo_all base J)) (flags (redo_all base J)) (part s image) (flags image) b.key b.region b.op b.outcome b.undo) (sym (redo_all_push base J (Solo x u b))) (sound_does s (redo_all base J) b region kind (sound_before base J (Solo x u b) h.sound).1)

    go : (y : TxnState) × (kept_state s u J ≡ Some y) → (z : TxnState) × (kept_state s u (J ++ Solo x u b ∷ []) ≡ Some z) → Stepped k t J (Solo x u b) (part s (redo_all base J) k) (part s (redo_all base (J ++ Solo x u b ∷ [])) k)
    go y z = run (solo_state s x u b y.0 z.0 (state_step s u J (Solo x u b) y.0 z.0 y.1 z.1))
      where
        run : (ps : List Pending) × (y.0 ≡ IsOver ps) × (freed_later b ps ≡ Some z.0) → Stepped k t J (Solo x u b) (part s (redo_all base J) k) (part s (redo_all base (J ++ Solo x u b ∷ [])) k)
        run q = with (frees_is b q.0 z.0 q.2)
          where
            before : kept_state s u J ≡ Some (IsOver q.0)
            before = y.1 ∙ ap (λ o. Some o) q.1

            known : Knows u J (Some (IsOver q.0))
            known = subst (λ o. Knows u J o) before (along.known u)

            apart : t ≢ u
            apart e = both_ways (has (committed J) t) un (subst (λ i. has (committed J) i ≡ true) (sym e) known.0)

            with : (d : Pending) × (qs : List Pending) × (z.0 ≡ IsOver qs) × Rattle.dali_history.proofs.KeptLemmas.SolosKeep.Frees q.0 d qs × (is_of (freeing_op d.undo) d b ≡ true) → Stepped k t J (Solo x u b) (part s (redo_all base J) k) (part s (redo_all base (J ++ Solo x u b ∷ [])) k)
            with d = inl (undos_of_push t J (Solo x u b), ⊎_elim (λ e. absurd (nobody_else s base cuts J (Solo x u b) (record { txn = x; owner = u; block = b }) t k h along holds refl apart (is.0 ∙ e.1))) (λ e. ap (λ (X : World). X k) frees ∙ put_at-beside (part s (redo_all base J)) d.0.key d.0.region (slot_of d.0.undo) [] k (λ i. e.1 (sym i))) (eqb_tells d.0.key k))
              where
                is : (b.key ≡ d.0.key) × (b.region ≡ d.0.region) × (b.op ≡ freeing_op d.0.undo)
                is = is_of_is (freeing_op d.0.undo) d.0 b d.4

                dead : (ys : List ℕ) × (part s (redo_all base J) d.0.key d.0.region (slot_of d.0.undo) ≡ 2 ∷ ys) × (is_removal d.0.undo ≡ true)
                dead = (frees_dead d.0.key q.0 d.1 d.0 (part s (redo_all base J) d.0.key) d.3 ((along.keyed d.0.key).dead u q.0 before).1 refl).0

                frees : part s (redo_all base (J ++ Solo x u b ∷ [])) ≡ put_at (part s (redo_all base J)) d.0.key d.0.region (slot_of d.0.undo) []
                frees = (frees_slot (part s (redo_all base J)) (part s (redo_all base (J ++ Solo x u b ∷ []))) (flags (redo_all base J)) (flags (redo_all base (J ++ Solo x u b ∷ []))) d.0.key d.0.region d.0.undo b.outcome b.undo dead.0 dead.2 (does_of (part s (redo_all base J)) (part s (redo_all base (J ++ Solo x u b ∷ []))) (flags (redo_all base J)) (flags (redo_all base (J ++ Solo x u b ∷ []))) (freeing_op d.0.undo) d.0 b d.4 does) dead.1).0

-- ---- all records
same_step : (s : Sizes) (base : List (List ℕ)) (J : List Record) (r : Record) (t k : ℕ) → undo_step t (undos_of t J) r ≡ undos_of t J → redo (redo_all base J) r ≡ redo_all base J → Stepped k t J r (part s (redo_all base J) k) (part s (redo_all base (J ++ r ∷ [])) k)
same_step s base J r t k same e = inl (undos_of_push t J r ∙ same, ap (λ image. part s image k) (redo_all_push base J r ∙ e))

-- a transaction that runs on, with an undo on the key
pub stepped :
    (s : Sizes) (base : List (List ℕ)) (cuts : List ℕ) (J : List Record) (r : Record) → Fine s base cuts (J ++ r ∷ []) → Along s base cuts J
    → (t k : ℕ) → has (committed J) t ≡ false → (NoneOn k (left t J) → ⊥) → Stepped k t J r (part s (redo_all base J) k) (part s (redo_all base (J ++ r ∷ [])) k)
stepped s base cuts J (Forward u b) h along t k un holds = forward_step s base cuts J u b h along t k holds
stepped s base cuts J (Back u b) h along t k un holds = back_step s base cuts J u b h along t k holds
stepped s base cuts J (Solo x u b) h along t k un holds = solo_step s base cuts J x u b h along t k un holds
stepped s base cuts J (Commit u) h along t k un holds = same_step s base J (Commit u) t k refl refl
stepped s base cuts J (Format i n) h along t k un holds = same_step s base J (Format i n) t k refl refl
stepped s base cuts J (Begin u) h along t k un holds = same_step s base J (Begin u) t k refl refl
stepped s base cuts J (Done u c a) h along t k un holds = same_step s base J (Done u c a) t k refl refl
stepped s base cuts J (Ended u) h along t k un holds = same_step s base J (Ended u) t k refl refl
stepped s base cuts J AuditBegin h along t k un holds = same_step s base J AuditBegin t k refl refl
stepped s base cuts J (AuditClean n) h along t k un holds = same_step s base J (AuditClean n) t k refl refl
stepped s base cuts J (AuditFail n rs) h along t k un holds = same_step s base J (AuditFail n rs) t k refl refl
stepped s base cuts J (Restarted rs ds) h along t k un holds = same_step s base J (Restarted rs ds) t k refl refl
