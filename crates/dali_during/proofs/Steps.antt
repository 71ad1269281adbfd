-- Each record makes one of the moves on each key.
use Rattle.std.proofs.Common.{◌≡◌, ℕ, Bool, true, false, List, [], ◌∷◌, ◌++◌, length, Option, Some, None, refl, ap, sym, subst, ◌∙◌, ◌⊎◌, inl, inr, ⊎_elim, ◌≢◌, append-nil}
use Rattle.std.specs.Prelude.{◌==◌, ◌||◌, if◌then◌else◌}
use Rattle.std.proofs.lemmas.List.Elements.{filter-append}
use Rattle.std.proofs.lemmas.Bool.Decides.{eqb_tells}
use Rattle.std.proofs.lemmas.Bool.{eq-eqb, ne_eqb}
use Rattle.dali_lists.proofs.Options.{some_of}
use Rattle.dali_geometry.specs.Sizes.{Sizes}
use Rattle.dali_record.specs.declared.operations.Undo.{Undo}
use Rattle.dali_record.specs.declared.operations.Pending.{Pending}
use Rattle.dali_record.specs.declared.operations.Block.{Block}
use Rattle.dali_record.specs.declared.records.Record.{Record}
use Rattle.dali_record.specs.declared.records.Record.TheVariants.{Format, Begin, Forward, Done, Commit, Ended, Solo, AuditBegin, AuditClean, AuditFail, Restarted, Back}
use Rattle.dali_record.specs.Operations.{changes, undo_op}
use Rattle.dali_record.specs.Blocks.{changes_item, IsSoundOn}
use Rattle.dali_record.specs.Log.{Touch, undos_of, undo_step, undo_added, committed, last_of, drop_last}
use Rattle.dali_record.specs.Damage.{has}
use Rattle.dali_record.specs.Legal.{Working, TxnState, Active, on_kind, is_of, freeing_op, is_removal, Committed as IsOver}
use Rattle.dali_record.specs.Settled.{redo, redo_all, words_in}
use Rattle.dali_record.proofs.Pushes.{undos_of_push, touch_new, redo_all_push}
use Rattle.dali_access.proofs.IndexLemmas.Worlds.{World, Flags, part, flags, put_at}
use Rattle.dali_access.proofs.IndexLemmas.Parts.{Part, put_at-beside}
use Rattle.dali_access.proofs.IndexLemmas.Reaches.{Rises}
use Rattle.dali_history.specs.Images.{map_of}
use Rattle.dali_history.proofs.SlotsLemmas.BlockOnSlots.{Does, IsRegion}
use Rattle.dali_history.proofs.SlotsLemmas.SoundBlocks.{sound_does, image_redo_all}
use Rattle.dali_history.proofs.SlotsLemmas.SlotUndos.{NoneOn, Leads, leads_first, undone_part, slot_of}
use Rattle.dali_history.proofs.SlotsLemmas.SlotSteps.{Changed, added_by, forward_changes, changed_beside, changed_leads, undo_does}
use Rattle.dali_history.proofs.SlotsLemmas.ValueSlots.{Reached, Stands}
use Rattle.dali_history.proofs.SlotsLemmas.AnswersAndBacks.{Undoes, undoes_part, last_split}
use Rattle.dali_history.specs.Kept.Kept.{kept_state, freed_later}
use Rattle.dali_history.proofs.KeptLemmas.WithoutLast.{left, sound_before, yields_altered}
use Rattle.dali_history.proofs.KeptLemmas.Invariant.{IsAlone, Knows, yields_left, undo_changes}
use Rattle.dali_history.proofs.KeptLemmas.BacksKeep.{BackStep, back_finds, taken_back}
use Rattle.dali_history.proofs.KeptLemmas.SolosKeep.{frees_dead}
use Rattle.dali_history.proofs.KeptLemmas.InvariantAlong.{back_state, region_within, image_region, does_of, is_of_is}
use Rattle.dali_history.proofs.KeptLemmas.InvariantSteps.{Fine, Along, fine_before, block_takes_back, state_step, sound_changes, undone_changes, freeing_changes, frees_is, solo_state, frees_slot}
use Rattle.dali_history.proofs.KeptLemmas.KnownTxns.{back_is, committed_has}
use Rattle.dali_during.proofs.NoneAmiss.{Comes, forward_comes}
use Rattle.dali_during.proofs.Moves.{on, own, on_none, left_push, left_same, Good, stands_good, own_good, Move, all_quiet, ends_others}

-- ---- lists
on_own : (k : ℕ) (ps : List Pending) (p : Pending) → p.key ≡ k → on k (ps ++ p ∷ []) ≡ on k ps ++ p ∷ []
on_own k ps p e = filter-append (λ (q : Pending). q.key == k) ps (p ∷ []) ∙ rw (eq-eqb p.key k e) refl

on_other : (k : ℕ) (ps : List Pending) (p : Pending) → p.key ≢ k → on k (ps ++ p ∷ []) ≡ on k ps
on_other k ps p n = filter-append (λ (q : Pending). q.key == k) ps (p ∷ []) ∙ rw (ne_eqb p.key k n) (append-nil (on k ps))

-- a block that makes a record of no other transaction
own_beside : (k t u : ℕ) (J : List Record) (r : Record) → committed (r ∷ []) ≡ [] → undo_step u (undos_of u J) r ≡ undos_of u J → own k u (J ++ r ∷ []) ≡ own k u J
own_beside k t u J r none same = ap (on k) (left_same u J r none same)

quiet_same : (s : Sizes) (k : ℕ) (J : List Record) (r : Record) (P Q : Part) (G : Flags) → committed (r ∷ []) ≡ [] → ((u : ℕ) → undo_step u (undos_of u J) r ≡ undos_of u J) → Q ≡ P → Move s k J r P Q G
quiet_same s k J r P Q G none same e = inl (record { same = e; owns = λ u. ap (on k) (left_same u J r none (same u)) })

-- ---- an operation
move_forward :
    (s : Sizes) (base : List (List ℕ)) (J : List Record) (t : ℕ) (b : Block) → Fine s base [] (J ++ Forward t b ∷ []) → Along s base [] J → Along s base [] (J ++ Forward t b ∷ [])
    → (k : ℕ) → Rises (flags (redo_all base J)) (flags (redo_all base (J ++ Forward t b ∷ []))) × Move s k J (Forward t b) (part s (redo_all base J) k) (part s (redo_all base (J ++ Forward t b ∷ [])) k) (flags (redo_all base (J ++ Forward t b ∷ [])))
move_forward s base J t b h along next k = (rises, by_key (eqb_tells b.key k))
  where
    r : Record
    r = Forward t b

    W : World
    W = part s (redo_all base J)

    V : World
    V = part s (redo_all base (J ++ Forward t b ∷ []))

    F : Flags
    F = flags (redo_all base J)

    G : Flags
    G = flags (redo_all base (J ++ Forward t b ∷ []))

    comes : Comes s (flags (redo_all base (J ++ Forward t b ∷ []))) J t b (part s (redo_all base (J ++ Forward t b ∷ [])) b.key)
    comes = forward_comes s base J t b h along next

    kind : on_kind s b.region b.op ≡ true
    kind = h.calls.kinds (length J) (record { txn = t; owner = t; block = b }) (touch_new J (Forward t b))

    region : IsRegion s (redo_all base J) b.region
    region = image_region s (redo_all base J) b.region (image_redo_all s base J h.image) (region_within s b.region b.op kind)

    does : Does (part s (redo_all base J)) (flags (redo_all base J)) (part s (redo_all base (J ++ Forward t b ∷ []))) (flags (redo_all base (J ++ Forward t b ∷ []))) b.key b.region b.op b.outcome b.undo
    does = subst (λ image. Does (part s (redo_all base J)) (flags (redo_all base J)) (part s image) (flags image) b.key b.region b.op b.outcome b.undo) (sym (redo_all_push base J (Forward t b))) (sound_does s (redo_all base J) b region kind (sound_before base J (Forward t b) h.sound).1)

    changed : Changed s (part s (redo_all base J)) (part s (redo_all base (J ++ Forward t b ∷ []))) b.key b.region b.undo × Rises (flags (redo_all base J)) (flags (redo_all base (J ++ Forward t b ∷ [])))
    changed = forward_changes s W V F G b.key b.region b.op b.outcome b.undo does kind comes.forward

    rises : Rises (flags (redo_all base J)) (flags (redo_all base (J ++ Forward t b ∷ [])))
    rises = changed.1

    left_is : (u : ℕ) → left u (J ++ Forward t b ∷ []) ≡ (if has (committed J) u then [] else (if t == u then undos_of u J ++ undo_added b b.undo else undos_of u J))
    left_is u = left_push u J (Forward t b) refl

    -- another transaction
    beside : (u : ℕ) → u ≢ t → own k u (J ++ Forward t b ∷ []) ≡ own k u J
    beside u apart = ap (on k) (left_is u ∙ rw (ne_eqb t u (λ e. apart (sym e))) refl)

    running : has (committed J) t ≡ false
    running = comes.running

    own_is : own k t (J ++ Forward t b ∷ []) ≡ on k (undos_of t J ++ undo_added b b.undo)
    own_is = ap (on k) (left_is t ∙ rw (comes.running, eq-eqb t t refl) refl)

    own_was : own k t J ≡ on k (undos_of t J)
    own_was = ap (on k) (rw (comes.running) refl)

    no_more : on k (undos_of t J ++ undo_added b b.undo) ≡ on k (undos_of t J) → (u : ℕ) → own k u (J ++ Forward t b ∷ []) ≡ own k u J
    no_more e u = ⊎_elim (λ a. subst (λ z. own k z (J ++ Forward t b ∷ []) ≡ own k z J) (sym a.1) (own_is ∙ e ∙ sym own_was)) (λ a. beside u a.1) (eqb_tells u t)

    added_off : (o : Option Undo) → b.key ≢ k → on k (undos_of t J ++ undo_added b o) ≡ on k (undos_of t J)
    added_off None n = ap (on k) (append-nil (undos_of t J))
    added_off (Some d) n = on_other k (undos_of t J) (record { key = b.key; region = b.region; undo = d }) n

    by_undo : (o : Option Undo) → b.undo ≡ o → b.key ≡ k → Move s k J (Forward t b) (part s (redo_all base J) k) (part s (redo_all base (J ++ Forward t b ∷ [])) k) (flags (redo_all base (J ++ Forward t b ∷ [])))
    by_undo None e key = inl (record { same = still changed.0; owns = no_more (ap (λ o. on k (undos_of t J ++ undo_added b o)) e ∙ ap (on k) (append-nil (undos_of t J))) })
      where
        still : Changed s (part s (redo_all base J)) (part s (redo_all base (J ++ Forward t b ∷ []))) b.key b.region b.undo → part s (redo_all base (J ++ Forward t b ∷ [])) k ≡ part s (redo_all base J) k
        still (inl x) = ap (λ (X : World). X k) x.0
        still (inr x) = let no : None ≡ Some x.0 = sym e ∙ x.2 in absurd (cc (no))
    by_undo (Some d) e key = inr (inl (record {
      txn = t;
      undo = p;
      mine = own_is ∙ ap (λ o. on k (undos_of t J ++ undo_added b o)) e ∙ on_own k (undos_of t J) p key ∙ ap (λ xs. xs ++ p ∷ []) (sym own_was);
      others = λ u apart. let none = on_none k (left u (J ++ Forward t b ∷ [])) (subst (λ z. IsAlone t z (J ++ Forward t b ∷ [])) key comes.alone u apart) in (sym (beside u apart) ∙ none, none);
      back = (leads_first s k p [] (V k) (W k) key (subst (λ o. Leads s k (added_by b.key b.region o ++ []) (V k) (W k)) e (changed_leads s W V b.key b.region b.undo k [] (W k) changed.0 refl))).1;
      good = subst (λ z. Good s (flags (redo_all base (J ++ Forward t b ∷ []))) z (part s (redo_all base (J ++ Forward t b ∷ [])) z)) key (own_good s G b.key (V b.key) comes.slots comes.value b.outcome comes.progress comes.stands comes.reached comes.tells ch comes.own);
      owner = λ a e. let same : record { txn = t; owner = t; block = b } ≡ a = cc (e) in ap (λ (x : Touch). x.owner) (sym same);
      ends = ends_others k J (Forward t b) (record { txn = t; owner = t; block = b }) refl key ch h.locks;
    }))
      where
        p : Pending
        p = record { key = b.key; region = b.region; undo = d }

        ch : changes b.outcome ≡ true
        ch = undo_changes s W V F G b.key b.region b.op b.outcome b.undo d does comes.forward e

    by_key : (((b.key == k) ≡ true) × (b.key ≡ k)) ⊎ (((b.key == k) ≡ false) × (b.key ≢ k)) → Move s k J (Forward t b) (part s (redo_all base J) k) (part s (redo_all base (J ++ Forward t b ∷ [])) k) (flags (redo_all base (J ++ Forward t b ∷ [])))
    by_key (inl a) = by_undo b.undo refl a.1
    by_key (inr a) = inl (record { same = changed_beside s W V b.key b.region b.undo k changed.0 (λ e. a.1 (sym e)); owns = no_more (added_off b.undo a.1) })

-- ---- a block that takes back
move_back :
    (s : Sizes) (base : List (List ℕ)) (J : List Record) (t : ℕ) (b : Block) → Fine s base [] (J ++ Back t b ∷ []) → Along s base [] J
    → (k : ℕ) → Rises (flags (redo_all base J)) (flags (redo_all base (J ++ Back t b ∷ []))) × Move s k J (Back t b) (part s (redo_all base J) k) (part s (redo_all base (J ++ Back t b ∷ [])) k) (flags (redo_all base (J ++ Back t b ∷ [])))
move_back s base J t b h along k = go (some_of (kept_state s t J) (old.calls.txns t)) (some_of (kept_state s t (J ++ Back t b ∷ [])) (h.calls.txns t))
  where
    old : Fine s base [] J
    old = fine_before s base [] J (Back t b) h

    kind : on_kind s b.region b.op ≡ true
    kind = h.calls.kinds (length J) (record { txn = t; owner = t; block = b }) (touch_new J (Back t b))

    region : IsRegion s (redo_all base J) b.region
    region = image_region s (redo_all base J) b.region (image_redo_all s base J h.image) (region_within s b.region b.op kind)

    sound : IsSoundOn (words_in (redo_all base J) b.region) b
    sound = (sound_before base J (Back t b) h.sound).1

    does : Does (part s (redo_all base J)) (flags (redo_all base J)) (part s (redo_all base (J ++ Back t b ∷ []))) (flags (redo_all base (J ++ Back t b ∷ []))) b.key b.region b.op b.outcome b.undo
    does = subst (λ image. Does (part s (redo_all base J)) (flags (redo_all base J)) (part s image) (flags image) b.key b.region b.op b.outcome b.undo) (sym (redo_all_push base J (Back t b))) (sound_does s (redo_all base J) b region kind sound)

    go : (x : TxnState) × (kept_state s t J ≡ Some x) → (y : TxnState) × (kept_state s t (J ++ Back t b ∷ []) ≡ Some y) → Rises (flags (redo_all base J)) (flags (redo_all base (J ++ Back t b ∷ []))) × Move s k J (Back t b) (part s (redo_all base J) k) (part s (redo_all base (J ++ Back t b ∷ [])) k) (flags (redo_all base (J ++ Back t b ∷ [])))
    go x y = run (back_state s t x.0 y.0 b (state_step s t J (Back t b) x.0 y.0 x.1 y.1))
      where
        run : (w : Working) × (x.0 ≡ Active w) × (Rattle.dali_record.specs.Legal.back w b (last_of w.undos) ≡ Some y.0) → Rises (flags (redo_all base J)) (flags (redo_all base (J ++ Back t b ∷ []))) × Move s k J (Back t b) (part s (redo_all base J) k) (part s (redo_all base (J ++ Back t b ∷ [])) k) (flags (redo_all base (J ++ Back t b ∷ [])))
        run z = with (back_is z.0 b (last_of z.0.undos) y.0 z.2)
          where
            known : Knows t J (Some (Active z.0))
            known = subst (λ o. Knows t J o) (x.1 ∙ ap (λ o. Some o) z.1) (along.known t)

            with : (p : Pending) × (last_of z.0.undos ≡ Some p) × (is_of (undo_op p.undo) p b ≡ true) × (Active (taken_back z.0) ≡ y.0) → Rises (flags (redo_all base J)) (flags (redo_all base (J ++ Back t b ∷ []))) × Move s k J (Back t b) (part s (redo_all base J) k) (part s (redo_all base (J ++ Back t b ∷ [])) k) (flags (redo_all base (J ++ Back t b ∷ [])))
            with p = ((λ q up. rw (undoes.1) up), ⊎_elim on_key off_key (undoes_part (part s (redo_all base J)) (part s (redo_all base (J ++ Back t b ∷ []))) p.0 k undoes.0))
              where
                is : (b.key ≡ p.0.key) × (b.region ≡ p.0.region) × (b.op ≡ undo_op p.0.undo)
                is = is_of_is (undo_op p.0.undo) p.0 b p.2

                ch : changes_item b ≡ true
                ch = sound_changes (words_in (redo_all base J) b.region) b (undo_op p.0.undo) sound is.2 (undone_changes p.0.undo b.key (words_in (redo_all base J) b.region))

                step : BackStep s [] J t b z.0 p.0
                step = block_takes_back s base [] J t b z.0 p.0 h along (x.1 ∙ ap (λ o. Some o) z.1) (y.1 ∙ ap (λ o. Some o) (sym p.3)) p.1 is

                undoes : (Undoes (part s (redo_all base J)) (part s (redo_all base (J ++ Back t b ∷ []))) p.0) × (flags (redo_all base (J ++ Back t b ∷ [])) ≡ flags (redo_all base J))
                undoes = undo_does s (part s (redo_all base J)) (part s (redo_all base (J ++ Back t b ∷ []))) (flags (redo_all base J)) (flags (redo_all base (J ++ Back t b ∷ []))) p.0 b.outcome b.undo (does_of (part s (redo_all base J)) (part s (redo_all base (J ++ Back t b ∷ []))) (flags (redo_all base J)) (flags (redo_all base (J ++ Back t b ∷ []))) (undo_op p.0.undo) p.0 b p.2 does) (back_finds s [] J (part s (redo_all base J)) (part s (redo_all base (J ++ Back t b ∷ []))) (flags (redo_all base J)) t b z.0 p.0 step (map_of s base p.0.key) (along.keyed p.0.key))

                split : undos_of t J ≡ drop_last (undos_of t J) ++ p.0 ∷ []
                split = last_split (undos_of t J) p.0 (ap last_of known.0 ∙ p.1)

                left_is : (u : ℕ) → left u (J ++ Back t b ∷ []) ≡ (if has (committed J) u then [] else (if t == u then drop_last (undos_of u J) else undos_of u J))
                left_is u = left_push u J (Back t b) refl

                beside : (u : ℕ) → u ≢ t → own k u (J ++ Back t b ∷ []) ≡ own k u J
                beside u apart = ap (on k) (left_is u ∙ rw (ne_eqb t u (λ e. apart (sym e))) refl)

                own_is : own k t (J ++ Back t b ∷ []) ≡ on k (drop_last (undos_of t J))
                own_is = ap (on k) (left_is t ∙ rw (known.1, eq-eqb t t refl) refl)

                own_was : own k t J ≡ on k (drop_last (undos_of t J) ++ p.0 ∷ [])
                own_was = ap (on k) ((rw (known.1) refl) ∙ split)

                on_key : (p.0.key ≡ k) × (part s (redo_all base (J ++ Back t b ∷ [])) k ≡ undone_part (part s (redo_all base J) k) p.0) → Move s k J (Back t b) (part s (redo_all base J) k) (part s (redo_all base (J ++ Back t b ∷ [])) k) (flags (redo_all base (J ++ Back t b ∷ [])))
                on_key a = inr (inr (inl (record {
                  txn = t;
                  undo = p.0;
                  mine = own_was ∙ on_own k (drop_last (undos_of t J)) p.0 a.0 ∙ ap (λ xs. xs ++ p.0 ∷ []) (sym own_is);
                  others = beside;
                  back = a.1;
                  owner = λ c e. let same : record { txn = t; owner = t; block = b } ≡ c = cc (e) in ap (λ (x : Touch). x.owner) (sym same);
                  ends = ends_others k J (Back t b) (record { txn = t; owner = t; block = b }) refl (is.0 ∙ a.0) ch h.locks;
                })))

                off_key : (p.0.key ≢ k) × (part s (redo_all base (J ++ Back t b ∷ [])) k ≡ part s (redo_all base J) k) → Move s k J (Back t b) (part s (redo_all base J) k) (part s (redo_all base (J ++ Back t b ∷ [])) k) (flags (redo_all base (J ++ Back t b ∷ [])))
                off_key a = inl (record { same = a.1; owns = λ u. ⊎_elim (λ e. subst (λ z. own k z (J ++ Back t b ∷ []) ≡ own k z J) (sym e.1) (own_is ∙ sym (on_other k (drop_last (undos_of t J)) p.0 a.0) ∙ sym own_was)) (λ e. beside u e.1) (eqb_tells u t) })

-- ---- a solo
move_solo :
    (s : Sizes) (base : List (List ℕ)) (J : List Record) (t u : ℕ) (b : Block) → Fine s base [] (J ++ Solo t u b ∷ []) → Along s base [] J → Along s base [] (J ++ Solo t u b ∷ [])
    → (k : ℕ) → Rises (flags (redo_all base J)) (flags (redo_all base (J ++ Solo t u b ∷ []))) × Move s k J (Solo t u b) (part s (redo_all base J) k) (part s (redo_all base (J ++ Solo t u b ∷ [])) k) (flags (redo_all base (J ++ Solo t u b ∷ [])))
move_solo s base J t u b h along next k = go (some_of (kept_state s u J) (old.calls.txns u)) (some_of (kept_state s u (J ++ Solo t u b ∷ [])) (h.calls.txns u))
  where
    old : Fine s base [] J
    old = fine_before s base [] J (Solo t u b) h

    kind : on_kind s b.region b.op ≡ true
    kind = h.calls.kinds (length J) (record { txn = t; owner = u; block = b }) (touch_new J (Solo t u b))

    region : IsRegion s (redo_all base J) b.region
    region = image_region s (redo_all base J) b.region (image_redo_all s base J h.image) (region_within s b.region b.op kind)

    sound : IsSoundOn (words_in (redo_all base J) b.region) b
    sound = (sound_before base J (Solo t u b) h.sound).1

    does : Does (part s (redo_all base J)) (flags (redo_all base J)) (part s (redo_all base (J ++ Solo t u b ∷ []))) (flags (redo_all base (J ++ Solo t u b ∷ []))) b.key b.region b.op b.outcome b.undo
    does = subst (λ image. Does (part s (redo_all base J)) (flags (redo_all base J)) (part s image) (flags image) b.key b.region b.op b.outcome b.undo) (sym (redo_all_push base J (Solo t u b))) (sound_does s (redo_all base J) b region kind sound)

    same_left : (x : ℕ) → left x (J ++ Solo t u b ∷ []) ≡ left x J
    same_left x = left_same x J (Solo t u b) refl refl

    go : (x : TxnState) × (kept_state s u J ≡ Some x) → (y : TxnState) × (kept_state s u (J ++ Solo t u b ∷ []) ≡ Some y) → Rises (flags (redo_all base J)) (flags (redo_all base (J ++ Solo t u b ∷ []))) × Move s k J (Solo t u b) (part s (redo_all base J) k) (part s (redo_all base (J ++ Solo t u b ∷ [])) k) (flags (redo_all base (J ++ Solo t u b ∷ [])))
    go x y = run (solo_state s t u b x.0 y.0 (state_step s u J (Solo t u b) x.0 y.0 x.1 y.1))
      where
        run : (ps : List Pending) × (x.0 ≡ IsOver ps) × (freed_later b ps ≡ Some y.0) → Rises (flags (redo_all base J)) (flags (redo_all base (J ++ Solo t u b ∷ []))) × Move s k J (Solo t u b) (part s (redo_all base J) k) (part s (redo_all base (J ++ Solo t u b ∷ [])) k) (flags (redo_all base (J ++ Solo t u b ∷ [])))
        run z = with (frees_is b z.0 y.0 z.2)
          where
            before : kept_state s u J ≡ Some (IsOver z.0)
            before = x.1 ∙ ap (λ o. Some o) z.1

            known : Knows u J (Some (IsOver z.0))
            known = subst (λ o. Knows u J o) before (along.known u)

            with : (d : Pending) × (qs : List Pending) × (y.0 ≡ IsOver qs) × Rattle.dali_history.proofs.KeptLemmas.SolosKeep.Frees z.0 d qs × (is_of (freeing_op d.undo) d b ≡ true) → Rises (flags (redo_all base J)) (flags (redo_all base (J ++ Solo t u b ∷ []))) × Move s k J (Solo t u b) (part s (redo_all base J) k) (part s (redo_all base (J ++ Solo t u b ∷ [])) k) (flags (redo_all base (J ++ Solo t u b ∷ [])))
            with d = ((λ q up. rw (frees.1) up), by_key (eqb_tells d.0.key k))
              where
                is : (b.key ≡ d.0.key) × (b.region ≡ d.0.region) × (b.op ≡ freeing_op d.0.undo)
                is = is_of_is (freeing_op d.0.undo) d.0 b d.4

                ch : changes_item b ≡ true
                ch = sound_changes (words_in (redo_all base J) b.region) b (freeing_op d.0.undo) sound is.2 (freeing_changes d.0.undo b.key (words_in (redo_all base J) b.region))

                dead : (ys : List ℕ) × (part s (redo_all base J) d.0.key d.0.region (slot_of d.0.undo) ≡ 2 ∷ ys) × (is_removal d.0.undo ≡ true)
                dead = (frees_dead d.0.key z.0 d.1 d.0 (part s (redo_all base J) d.0.key) d.3 ((along.keyed d.0.key).dead u z.0 before).1 refl).0

                frees : (part s (redo_all base (J ++ Solo t u b ∷ [])) ≡ put_at (part s (redo_all base J)) d.0.key d.0.region (slot_of d.0.undo) []) × (flags (redo_all base (J ++ Solo t u b ∷ [])) ≡ flags (redo_all base J))
                frees = frees_slot (part s (redo_all base J)) (part s (redo_all base (J ++ Solo t u b ∷ []))) (flags (redo_all base J)) (flags (redo_all base (J ++ Solo t u b ∷ []))) d.0.key d.0.region d.0.undo b.outcome b.undo dead.0 dead.2 (does_of (part s (redo_all base J)) (part s (redo_all base (J ++ Solo t u b ∷ []))) (flags (redo_all base J)) (flags (redo_all base (J ++ Solo t u b ∷ []))) (freeing_op d.0.undo) d.0 b d.4 does) dead.1

                by_key : (((d.0.key == k) ≡ true) × (d.0.key ≡ k)) ⊎ (((d.0.key == k) ≡ false) × (d.0.key ≢ k)) → Move s k J (Solo t u b) (part s (redo_all base J) k) (part s (redo_all base (J ++ Solo t u b ∷ [])) k) (flags (redo_all base (J ++ Solo t u b ∷ [])))
                by_key (inr a) = inl (record { same = ap (λ (X : World). X k) frees.0 ∙ put_at-beside (part s (redo_all base J)) d.0.key d.0.region (slot_of d.0.undo) [] k (λ e. a.1 (sym e)); owns = λ v. ap (on k) (same_left v) })
                by_key (inl a) = inr (inr (inr (inr (record {
                  txn = u;
                  owner = λ c e. let same : record { txn = t; owner = u; block = b } ≡ c = cc (e) in ap (λ (x : Touch). x.owner) (sym same);
                  none = λ v. on_none k (left v (J ++ Solo t u b ∷ [])) (clear v);
                  good = stands_good s (flags (redo_all base (J ++ Solo t u b ∷ []))) k (part s (redo_all base (J ++ Solo t u b ∷ [])) k) (next.keyed k).value stands.0 stands.1;
                  commits = known.0;
                  ends = ends_others k J (Solo t u b) (record { txn = t; owner = u; block = b }) refl (is.0 ∙ a.1) ch h.locks;
                }))))
                  where
                    clear_old : (v : ℕ) → NoneOn k (left v J)
                    clear_old v = ⊎_elim (λ e. subst (λ z. NoneOn k (left z J)) (sym e.1) (let none : left u J ≡ [] = rw (known.0) refl in subst (λ xs. NoneOn k xs) (sym none) tt)) (λ e. ⊎_elim (λ n. n) (λ n. yields_left [] J (Solo t u b) v k (kept_state s v J) (along.known v) (yields_altered [] J (Solo t u b) (record { txn = t; owner = u; block = b }) v k h.locks refl (is.0 ∙ a.1) e.1 n)) ((along.keyed k).altered v)) (eqb_tells v u)

                    clear : (v : ℕ) → NoneOn k (left v (J ++ Solo t u b ∷ []))
                    clear v = subst (λ xs. NoneOn k xs) (sym (same_left v)) (clear_old v)

                    stands : Stands s (part s (redo_all base (J ++ Solo t u b ∷ [])) k) (next.keyed k).value × Reached s (flags (redo_all base (J ++ Solo t u b ∷ []))) k (part s (redo_all base (J ++ Solo t u b ∷ [])) k)
                    stands = all_quiet s (J ++ Solo t u b ∷ []) (part s (redo_all base (J ++ Solo t u b ∷ []))) (flags (redo_all base (J ++ Solo t u b ∷ []))) (map_of s base k) k clear (next.keyed k)

-- ---- all records
move_commit : (s : Sizes) (base : List (List ℕ)) (J : List Record) (t k : ℕ) → Move s k J (Commit t) (part s (redo_all base J) k) (part s (redo_all base (J ++ Commit t ∷ [])) k) (flags (redo_all base (J ++ Commit t ∷ [])))
move_commit s base J t k = inr (inr (inr (inl (record {
  txn = t;
  mine = ap (on k) none;
  others = λ u apart. ap (on k) (let c : has (committed (J ++ Commit t ∷ [])) u ≡ has (committed J) u = committed_has u J (Commit t) ∙ rw (ne_eqb t u (λ e. apart (sym e))) (mathlib.Core.Bool.or-false (has (committed J) u)) in let us : undos_of u (J ++ Commit t ∷ []) ≡ undos_of u J = undos_of_push u J (Commit t) in rw (c, us) refl);
  same = ap (λ image. part s image k) (redo_all_push base J (Commit t));
  commits = mine;
}))))
  where
    or_true : (a b : Bool) → b ≡ true → (a || b) ≡ true
    or_true true b e = refl
    or_true false b e = e

    mine : has (committed (J ++ Commit t ∷ [])) t ≡ true
    mine = committed_has t J (Commit t) ∙ or_true (has (committed J) t) (has (committed (Commit t ∷ [])) t) (rw (eq-eqb t t refl) refl)

    none : left t (J ++ Commit t ∷ []) ≡ []
    none = rw (mine) refl

same_move : (s : Sizes) (base : List (List ℕ)) (J : List Record) (r : Record) (k : ℕ) → committed (r ∷ []) ≡ [] → ((u : ℕ) → undo_step u (undos_of u J) r ≡ undos_of u J) → redo (redo_all base J) r ≡ redo_all base J
    → Rises (flags (redo_all base J)) (flags (redo_all base (J ++ r ∷ []))) × Move s k J r (part s (redo_all base J) k) (part s (redo_all base (J ++ r ∷ [])) k) (flags (redo_all base (J ++ r ∷ [])))
same_move s base J r k none same e = ((λ q up. subst (λ image. flags image q ≡ true) (sym (redo_all_push base J r ∙ e)) up), quiet_same s k J r (part s (redo_all base J) k) (part s (redo_all base (J ++ r ∷ [])) k) (flags (redo_all base (J ++ r ∷ []))) none same (ap (λ image. part s image k) (redo_all_push base J r ∙ e)))

pub moves :
    (s : Sizes) (base : List (List ℕ)) (J : List Record) (r : Record) → Fine s base [] (J ++ r ∷ []) → Along s base [] J → Along s base [] (J ++ r ∷ [])
    → (k : ℕ) → Rises (flags (redo_all base J)) (flags (redo_all base (J ++ r ∷ []))) × Move s k J r (part s (redo_all base J) k) (part s (redo_all base (J ++ r ∷ [])) k) (flags (redo_all base (J ++ r ∷ [])))
moves s base J (Forward t b) h along next k = move_forward s base J t b h along next k
moves s base J (Back t b) h along next k = move_back s base J t b h along k
moves s base J (Solo t u b) h along next k = move_solo s base J t u b h along next k
moves s base J (Commit t) h along next k = ((λ q up. subst (λ image. flags image q ≡ true) (sym (redo_all_push base J (Commit t))) up), move_commit s base J t k)
moves s base J (Format i n) h along next k = same_move s base J (Format i n) k refl (λ u. refl) refl
moves s base J (Begin t) h along next k = same_move s base J (Begin t) k refl (λ u. refl) refl
moves s base J (Done t c a) h along next k = same_move s base J (Done t c a) k refl (λ u. refl) refl
moves s base J (Ended t) h along next k = same_move s base J (Ended t) k refl (λ u. refl) refl
moves s base J AuditBegin h along next k = same_move s base J AuditBegin k refl (λ u. refl) refl
moves s base J (AuditClean n) h along next k = same_move s base J (AuditClean n) k refl (λ u. refl) refl
moves s base J (AuditFail n rs) h along next k = same_move s base J (AuditFail n rs) k refl (λ u. refl) refl
moves s base J (Restarted rs ds) h along next k = same_move s base J (Restarted rs ds) k refl (λ u. refl) refl
