-- The invariant of each key, along a list that keeps the law's premises.
--     Fine s base cuts J       the premises on the records
--     Along s base cuts J      what is known of each transaction and holds of each key
use Rattle.std.proofs.Common.{◌≡◌, ℕ, Bool, true, false, not, List, [], ◌∷◌, ◌++◌, length, Option, Some, refl, ap, sym, subst, ◌∙◌, ◌⊎◌, inl, inr, ⊎_elim, ◌≢◌}
use Rattle.std.specs.Prelude.{◌==◌, ◌&&◌, ◌||◌, if◌then◌else◌, IsSome}
use Rattle.std.proofs.lemmas.Bool.Decides.{eqb_tells}
use Rattle.std.proofs.lemmas.Bool.{eq-eqb, ne_eqb}
use Rattle.dali_lists.proofs.Options.{some_of}
use Rattle.dali_geometry.specs.Sizes.{Sizes}
use Rattle.dali_record.specs.declared.operations.Op.{Op}
use Rattle.dali_record.specs.declared.operations.Outcome.{Outcome}
use Rattle.dali_record.specs.declared.operations.Undo.{Undo}
use Rattle.dali_record.specs.declared.operations.Undo.TheVariants.{FreeCell as UndoFreeCell, ReviveCell as UndoReviveCell, Restore as UndoRestore, FreeEntry as UndoFreeEntry, ReviveEntry as UndoReviveEntry}
use Rattle.dali_record.specs.declared.operations.Pending.{Pending}
use Rattle.dali_record.specs.declared.operations.Block.{Block}
use Rattle.dali_record.specs.declared.records.Call.{Call}
use Rattle.dali_record.specs.declared.records.Answer.{Answer}
use Rattle.dali_record.specs.declared.records.Record.{Record}
use Rattle.dali_record.specs.declared.records.Record.TheVariants.{Format, Begin, Forward, Done, Commit, Ended, Solo, AuditBegin, AuditClean, AuditFail, Restarted, Back}
use Rattle.dali_record.specs.Operations.{undo_op, changes, effect}
use Rattle.dali_record.specs.Blocks.{IsSoundOn}
use Rattle.dali_record.specs.Calls.{Fresh}
use Rattle.dali_history.proofs.SlotsLemmas.AnswersAndBacks.{Undoes}
use Rattle.dali_record.specs.Log.{Touch, touch_of, committed, last_of}
use Rattle.dali_record.specs.Damage.{has}
use Rattle.dali_record.specs.Settled.{words_in, redo, redo_all, AreSound}
use Rattle.dali_record.specs.Legal.{Onward, is_none_left, Working, TxnState, Unbegun, Active, Over, on_kind, concerns, is_of, is_answer, is_level, is_removal, dead_of, freeing_op, Committed as IsOver, allowed}
use Rattle.dali_record.proofs.Pushes.{redo_all_push, touch_new, undos_of_push}
use Rattle.dali_access.specs.Index.Invariant.{IsImage, IsIndexed, IsTidy}
use Rattle.dali_history.specs.Kept.Kept.{kept_state, kept_step, kept_next, KeepsCalls, IsLockLegalBut, AreKept, freed_later}
use Rattle.dali_history.specs.Blocks.{HasValues, HasValue}
use Rattle.dali_history.specs.Images.{map_of}
use Rattle.dali_access.proofs.IndexLemmas.Worlds.{World, Flags, part, flags, put_at}
use Rattle.dali_history.proofs.SlotsLemmas.BlockOnSlots.{Does, IsRegion}
use Rattle.dali_history.proofs.KeptLemmas.AtBase.{base_stands, base_reached}
use Rattle.dali_history.specs.Serial.{Map, serial, calls_after, calls_in_order}
use Rattle.dali_history.proofs.ByKey.{serial-calls, calls_after-each, calls_after-allowed}
use Rattle.dali_history.proofs.SlotsLemmas.SoundBlocks.{sound_does, image_redo_all}
use Rattle.dali_history.proofs.SlotsLemmas.SlotUndos.{slot_of}
use Rattle.dali_history.proofs.SlotsLemmas.SlotSteps.{undo_does}
use Rattle.dali_history.proofs.KeptLemmas.WithoutLast.{kept_state_push, kept_before, calls_before, values_before, locks_before, sound_before}
use Rattle.dali_history.proofs.KeptLemmas.Invariant.{Keyed, Knows}
use Rattle.dali_history.proofs.KeptLemmas.OperationsKeep.{Forwards, forward_is, gone_on, started, keyed_forward, level_still}
use Rattle.dali_history.proofs.KeptLemmas.CommitsKeep.{keyed_commit}
use Rattle.dali_history.proofs.KeptLemmas.AnswersKeep.{keyed_done, QuietStep, QuietState, keyed_quiet, rested_of}
use Rattle.dali_record.proofs.Ends.{by_push}
use Rattle.dali_history.proofs.KeptLemmas.SolosKeep.{Frees, SoloStep, frees_dead, keyed_solo}
use Rattle.dali_history.proofs.KeptLemmas.BacksKeep.{BackStep, keyed_back, back_finds, taken_back}
use Rattle.dali_history.proofs.KeptLemmas.KnownTxns.{knows_step, committed_has, back_is, is_allowed}
use Rattle.dali_history.proofs.KeptLemmas.InvariantAlong.{state_beside, forward_state, back_state, commit_state, done_state, refused, region_within, image_region, does_of, is_of_is}

pub record Fine (s : Sizes) (base : List (List ℕ)) (cuts : List ℕ) (J : List Record) : Type 0 where
  pub image : IsImage s base
  pub values : HasValues J
  pub uncut : (t : ℕ) → has cuts t ≡ true → has (committed J) t ≡ false
  pub calls : KeepsCalls s J
  pub sound : AreSound base J
  pub locks : IsLockLegalBut cuts J

pub record Along (s : Sizes) (base : List (List ℕ)) (cuts : List ℕ) (J : List Record) : Type 0 where
  pub known : (u : ℕ) → Knows u J (kept_state s u J)
  pub keyed : (k : ℕ) → Keyed s cuts J (part s (redo_all base J)) (flags (redo_all base J)) (map_of s base k) k

-- committed already
uncut_before : (cuts : List ℕ) (J : List Record) (r : Record) → ((t : ℕ) → has cuts t ≡ true → has (committed (J ++ r ∷ [])) t ≡ false) → (t : ℕ) → has cuts t ≡ true → has (committed J) t ≡ false
uncut_before cuts J r h t e = go (has (committed J) t) (sym (committed_has t J r) ∙ h t e)
  where
    go : (b : Bool) → (b || has (committed (r ∷ [])) t) ≡ false → b ≡ false
    go true x = absurd (cc (x))
    go false x = refl

-- the premises of the list without its last record
pub fine_before : (s : Sizes) (base : List (List ℕ)) (cuts : List ℕ) (J : List Record) (r : Record) → Fine s base cuts (J ++ r ∷ []) → Fine s base cuts J
fine_before s base cuts J r h = record {
  image = h.image;
  values = values_before J r h.values;
  uncut = uncut_before cuts J r h.uncut;
  calls = calls_before s J r h.calls;
  sound = (sound_before base J r h.sound).0;
  locks = locks_before cuts J r h.locks;
}

-- the step of one transaction
pub state_step : (s : Sizes) (t : ℕ) (J : List Record) (r : Record) (x y : TxnState) → kept_state s t J ≡ Some x → kept_state s t (J ++ r ∷ []) ≡ Some y → kept_step s t x r ≡ Some y
state_step s t J r x y e f = sym (kept_state_push s t J r ∙ ap (λ o. kept_next s t o r) e) ∙ f

-- what is known goes on
pub known_push : (s : Sizes) (J : List Record) (r : Record) → KeepsCalls s (J ++ r ∷ []) → ((u : ℕ) → Knows u J (kept_state s u J)) → (u : ℕ) → Knows u (J ++ r ∷ []) (kept_state s u (J ++ r ∷ []))
known_push s J r calls h u =
    let x = some_of (kept_state s u J) (kept_before s u J r (calls.txns u)) in
    let y = some_of (kept_state s u (J ++ r ∷ [])) (calls.txns u) in
    subst (λ o. Knows u (J ++ r ∷ []) o) (sym y.1) (knows_step s u J x.0 r y.0 (subst (λ o. Knows u J o) x.1 (h u)) (state_step s u J r x.0 y.0 x.1 y.1))

-- ---- records that are blocks
-- a block of the last record, in the image before it
block_does :
    (s : Sizes) (base : List (List ℕ)) (cuts : List ℕ) (J : List Record) (r : Record) (a : Touch) → Fine s base cuts (J ++ r ∷ []) → touch_of r ≡ Some a
    → (on_kind s a.block.region a.block.op ≡ true) × HasValue a.block.op
block_does s base cuts J r a h e = (h.calls.kinds (length J) a (touch_new J r ∙ e), h.values (length J) a (touch_new J r ∙ e))

along_forward : (s : Sizes) (base : List (List ℕ)) (cuts : List ℕ) (J : List Record) (t : ℕ) (b : Block) → Fine s base cuts (J ++ Forward t b ∷ []) → Along s base cuts J → (k : ℕ) → Keyed s cuts (J ++ Forward t b ∷ []) (part s (redo_all base (J ++ Forward t b ∷ []))) (flags (redo_all base (J ++ Forward t b ∷ []))) (map_of s base k) k
along_forward s base cuts J t b h along k = subst (λ image. Keyed s cuts (J ++ Forward t b ∷ []) (part s image) (flags image) (map_of s base k) k) (sym (redo_all_push base J (Forward t b))) (go (some_of (kept_state s t J) (old.calls.txns t)) (some_of (kept_state s t (J ++ Forward t b ∷ [])) (h.calls.txns t)))
  where
    old : Fine s base cuts J
    old = fine_before s base cuts J (Forward t b) h

    facts : (on_kind s b.region b.op ≡ true) × HasValue b.op
    facts = block_does s base cuts J (Forward t b) (record { txn = t; owner = t; block = b }) h refl

    region : IsRegion s (redo_all base J) b.region
    region = image_region s (redo_all base J) b.region (image_redo_all s base J h.image) (region_within s b.region b.op facts.0)

    go : (x : TxnState) × (kept_state s t J ≡ Some x) → (y : TxnState) × (kept_state s t (J ++ Forward t b ∷ []) ≡ Some y) → Keyed s cuts (J ++ Forward t b ∷ []) (part s (redo (redo_all base J) (Forward t b))) (flags (redo (redo_all base J) (Forward t b))) (map_of s base k) k
    go x y = run (forward_state s t x.0 y.0 b (state_step s t J (Forward t b) x.0 y.0 x.1 y.1))
      where
        run : (w : Working) × (x.0 ≡ Active w) × (Rattle.dali_record.specs.Legal.forward s t w b ≡ Some y.0) → Keyed s cuts (J ++ Forward t b ∷ []) (part s (redo (redo_all base J) (Forward t b))) (flags (redo (redo_all base J) (Forward t b))) (map_of s base k) k
        run z = ⊎_elim (λ a. with (gone_on z.0 b f.0) a.2 (f.0, inl (a.0, a.1, refl))) (λ a. with (started z.0 b f.0) a.2 (f.0, inr (a.0, a.1, refl))) f.1
          where
            f : Forwards s t z.0 b y.0
            f = forward_is s t z.0 b y.0 z.2

            with : (v : Working) → y.0 ≡ Active v → Forwards s t z.0 b (Active v) → Keyed s cuts (J ++ Forward t b ∷ []) (part s (redo (redo_all base J) (Forward t b))) (flags (redo (redo_all base J) (Forward t b))) (map_of s base k) k
            with v e forwards =
                keyed_forward s cuts J (part s (redo_all base J)) (part s (redo (redo_all base J) (Forward t b))) (flags (redo_all base J)) (flags (redo (redo_all base J) (Forward t b))) t b z.0 v
                (record {
                  some = h.image.some_index;
                  knows = along.known;
                  before = x.1 ∙ ap (λ o. Some o) z.1;
                  after = y.1 ∙ ap (λ o. Some o) e;
                  forwards = forwards;
                  beside = λ u apart. state_beside s u J (Forward t b) (old.calls.txns u) (ne_eqb t u (λ i. apart (sym i)));
                  locks = h.locks;
                  uncut = old.uncut;
                  does = sound_does s (redo_all base J) b region facts.0 (sound_before base J (Forward t b) h.sound).1;
                  kind = facts.0;
                  value = facts.1;
                }) k (map_of s base k) (along.keyed k)

along_commit : (s : Sizes) (base : List (List ℕ)) (cuts : List ℕ) (J : List Record) (t : ℕ) → Fine s base cuts (J ++ Commit t ∷ []) → Along s base cuts J → (k : ℕ) → Keyed s cuts (J ++ Commit t ∷ []) (part s (redo_all base (J ++ Commit t ∷ []))) (flags (redo_all base (J ++ Commit t ∷ []))) (map_of s base k) k
along_commit s base cuts J t h along k = subst (λ image. Keyed s cuts (J ++ Commit t ∷ []) (part s image) (flags image) (map_of s base k) k) (sym (redo_all_push base J (Commit t))) (go (some_of (kept_state s t J) (old.calls.txns t)) (some_of (kept_state s t (J ++ Commit t ∷ [])) (h.calls.txns t)))
  where
    old : Fine s base cuts J
    old = fine_before s base cuts J (Commit t) h

    -- a transaction that commits isn't cut
    whole : (b : Bool) → has cuts t ≡ b → b ≡ false
    whole true e =
        let no : has (committed (J ++ Commit t ∷ [])) t ≡ false = h.uncut t e in
        let one : has (committed (Commit t ∷ [])) t ≡ true = rw (eq-eqb t t refl) refl in
        absurd (both (has (committed J) t) (has (committed (Commit t ∷ [])) t) one (sym (committed_has t J (Commit t)) ∙ no))
      where
        both : (c d : Bool) → d ≡ true → (c || d) ≡ false → ⊥
        both true d e f = cc (f)
        both false d e f = let x : true ≡ false = sym e ∙ f in cc (x)
    whole false e = refl

    go : (x : TxnState) × (kept_state s t J ≡ Some x) → (y : TxnState) × (kept_state s t (J ++ Commit t ∷ []) ≡ Some y) → Keyed s cuts (J ++ Commit t ∷ []) (part s (redo_all base J)) (flags (redo_all base J)) (map_of s base k) k
    go x y =
        let z = commit_state s t x.0 y.0 (state_step s t J (Commit t) x.0 y.0 x.1 y.1) in
        let a = is_allowed (is_level z.0) (IsOver (dead_of z.0.undos)) y.0 z.2 in
        let before : kept_state s t J ≡ Some (Active z.0) = x.1 ∙ ap (λ o. Some o) z.1 in
        keyed_commit s cuts J (part s (redo_all base J)) (flags (redo_all base J)) t z.0
        (record {
          before = before;
          known = subst (λ o. Knows t J o) before (along.known t);
          level = a.0;
          still = level_still z.0 a.0;
          after = y.1 ∙ ap (λ o. Some o) (sym a.1);
          beside = λ u apart. state_beside s u J (Commit t) (old.calls.txns u) (ne_eqb t u (λ i. apart (sym i)));
          uncut = whole (has cuts t) refl;
        }) k (map_of s base k) (along.keyed k)

along_done : (s : Sizes) (base : List (List ℕ)) (cuts : List ℕ) (J : List Record) (t : ℕ) (c : Call) (a : Answer) → Fine s base cuts (J ++ Done t c a ∷ []) → Along s base cuts J → (k : ℕ) → Keyed s cuts (J ++ Done t c a ∷ []) (part s (redo_all base (J ++ Done t c a ∷ []))) (flags (redo_all base (J ++ Done t c a ∷ []))) (map_of s base k) k
along_done s base cuts J t c a h along k = subst (λ image. Keyed s cuts (J ++ Done t c a ∷ []) (part s image) (flags image) (map_of s base k) k) (sym (redo_all_push base J (Done t c a))) (go (some_of (kept_state s t J) (old.calls.txns t)) (some_of (kept_state s t (J ++ Done t c a ∷ [])) (h.calls.txns t)))
  where
    old : Fine s base cuts J
    old = fine_before s base cuts J (Done t c a) h

    go : (x : TxnState) × (kept_state s t J ≡ Some x) → (y : TxnState) × (kept_state s t (J ++ Done t c a ∷ []) ≡ Some y) → Keyed s cuts (J ++ Done t c a ∷ []) (part s (redo_all base J)) (flags (redo_all base J)) (map_of s base k) k
    go x y =
        let z = done_state s t x.0 y.0 c a (state_step s t J (Done t c a) x.0 y.0 x.1 y.1) in
        let b = is_allowed (is_answer s z.0 c a) (Active (rested_of z.0)) y.0 z.2 in
        let before : kept_state s t J ≡ Some (Active z.0) = x.1 ∙ ap (λ o. Some o) z.1 in
        keyed_done s cuts J (part s (redo_all base J)) (flags (redo_all base J)) t c a z.0
        (record {
          before = before;
          running = (subst (λ o. Knows t J o) before (along.known t)).1;
          answer = b.0;
          after = y.1 ∙ ap (λ o. Some o) (sym b.1);
          beside = λ u apart. state_beside s u J (Done t c a) (old.calls.txns u) (ne_eqb t u (λ i. apart (sym i)));
        }) k (map_of s base k) (along.keyed k)

-- the outcome of a block that takes back or frees
pub undone_changes : (d : Undo) (key : ℕ) (ws : List ℕ) → changes (effect (undo_op d) key ws).1 ≡ true
undone_changes (UndoFreeCell c) key ws = refl
undone_changes _ key ws = refl

pub freeing_changes : (d : Undo) (key : ℕ) (ws : List ℕ) → changes (effect (freeing_op d) key ws).1 ≡ true
freeing_changes (UndoFreeCell c) key ws = refl
freeing_changes _ key ws = refl

pub sound_changes : (ws : List ℕ) (b : Block) (op : Op) → IsSoundOn ws b → b.op ≡ op → changes (effect op b.key ws).1 ≡ true → changes b.outcome ≡ true
sound_changes ws b op sound e h = ap (λ (x : Block). changes x.outcome) (sym sound) ∙ ap (λ o. changes (effect o b.key ws).1) e ∙ h

-- what is known of a block that takes back
pub block_takes_back :
    (s : Sizes) (base : List (List ℕ)) (cuts : List ℕ) (J : List Record) (t : ℕ) (b : Block) (w : Working) (p : Pending) → Fine s base cuts (J ++ Back t b ∷ []) → Along s base cuts J
    → kept_state s t J ≡ Some (Active w) → kept_state s t (J ++ Back t b ∷ []) ≡ Some (Active (taken_back w))
    → last_of w.undos ≡ Some p → (b.key ≡ p.key) × (b.region ≡ p.region) × (b.op ≡ undo_op p.undo)
    → BackStep s cuts J t b w p
block_takes_back s base cuts J t b w p h along before after last is = record {
  knows = along.known;
  before = before;
  after = after;
  beside = λ u apart. state_beside s u J (Back t b) (old.calls.txns u) (ne_eqb t u (λ i. apart (sym i)));
  last = last;
  on = is.0;
  changes = sound_changes (words_in (redo_all base J) b.region) b (undo_op p.undo) (sound_before base J (Back t b) h.sound).1 is.2 (undone_changes p.undo b.key (words_in (redo_all base J) b.region));
  locks = h.locks;
  uncut = old.uncut;
}
  where
    old : Fine s base cuts J
    old = fine_before s base cuts J (Back t b) h

along_back : (s : Sizes) (base : List (List ℕ)) (cuts : List ℕ) (J : List Record) (t : ℕ) (b : Block) → Fine s base cuts (J ++ Back t b ∷ []) → Along s base cuts J → (k : ℕ) → Keyed s cuts (J ++ Back t b ∷ []) (part s (redo_all base (J ++ Back t b ∷ []))) (flags (redo_all base (J ++ Back t b ∷ []))) (map_of s base k) k
along_back s base cuts J t b h along k = subst (λ image. Keyed s cuts (J ++ Back t b ∷ []) (part s image) (flags image) (map_of s base k) k) (sym (redo_all_push base J (Back t b))) (go (some_of (kept_state s t J) (old.calls.txns t)) (some_of (kept_state s t (J ++ Back t b ∷ [])) (h.calls.txns t)))
  where
    old : Fine s base cuts J
    old = fine_before s base cuts J (Back t b) h

    facts : (on_kind s b.region b.op ≡ true) × HasValue b.op
    facts = block_does s base cuts J (Back t b) (record { txn = t; owner = t; block = b }) h refl

    region : IsRegion s (redo_all base J) b.region
    region = image_region s (redo_all base J) b.region (image_redo_all s base J h.image) (region_within s b.region b.op facts.0)

    sound : IsSoundOn (words_in (redo_all base J) b.region) b
    sound = (sound_before base J (Back t b) h.sound).1

    does : Does (part s (redo_all base J)) (flags (redo_all base J)) (part s (redo (redo_all base J) (Back t b))) (flags (redo (redo_all base J) (Back t b))) b.key b.region b.op b.outcome b.undo
    does = sound_does s (redo_all base J) b region facts.0 sound

    go : (x : TxnState) × (kept_state s t J ≡ Some x) → (y : TxnState) × (kept_state s t (J ++ Back t b ∷ []) ≡ Some y) → Keyed s cuts (J ++ Back t b ∷ []) (part s (redo (redo_all base J) (Back t b))) (flags (redo (redo_all base J) (Back t b))) (map_of s base k) k
    go x y = run (back_state s t x.0 y.0 b (state_step s t J (Back t b) x.0 y.0 x.1 y.1))
      where
        run : (w : Working) × (x.0 ≡ Active w) × (Rattle.dali_record.specs.Legal.back w b (last_of w.undos) ≡ Some y.0) → Keyed s cuts (J ++ Back t b ∷ []) (part s (redo (redo_all base J) (Back t b))) (flags (redo (redo_all base J) (Back t b))) (map_of s base k) k
        run z = with (back_is z.0 b (last_of z.0.undos) y.0 z.2)
          where
            with : (p : Pending) × (last_of z.0.undos ≡ Some p) × (is_of (undo_op p.undo) p b ≡ true) × (Active (taken_back z.0) ≡ y.0) → Keyed s cuts (J ++ Back t b ∷ []) (part s (redo (redo_all base J) (Back t b))) (flags (redo (redo_all base J) (Back t b))) (map_of s base k) k
            with p = subst (λ G. Keyed s cuts (J ++ Back t b ∷ []) (part s (redo (redo_all base J) (Back t b))) G (map_of s base k) k) (sym undoes.1) (keyed_back s cuts J (part s (redo_all base J)) (part s (redo (redo_all base J) (Back t b))) (flags (redo_all base J)) t b z.0 p.0 step undoes.0 k (map_of s base k) (along.keyed k))
              where
                is : (b.key ≡ p.0.key) × (b.region ≡ p.0.region) × (b.op ≡ undo_op p.0.undo)
                is = is_of_is (undo_op p.0.undo) p.0 b p.2

                step : BackStep s cuts J t b z.0 p.0
                step = block_takes_back s base cuts J t b z.0 p.0 h along (x.1 ∙ ap (λ o. Some o) z.1) (y.1 ∙ ap (λ o. Some o) (sym p.3)) p.1 is

                undoes : (Undoes (part s (redo_all base J)) (part s (redo (redo_all base J) (Back t b))) p.0) × (flags (redo (redo_all base J) (Back t b)) ≡ flags (redo_all base J))
                undoes = undo_does s (part s (redo_all base J)) (part s (redo (redo_all base J) (Back t b))) (flags (redo_all base J)) (flags (redo (redo_all base J) (Back t b))) p.0 b.outcome b.undo (does_of (part s (redo_all base J)) (part s (redo (redo_all base J) (Back t b))) (flags (redo_all base J)) (flags (redo (redo_all base J) (Back t b))) (undo_op p.0.undo) p.0 b p.2 does) (back_finds s cuts J (part s (redo_all base J)) (part s (redo (redo_all base J) (Back t b))) (flags (redo_all base J)) t b z.0 p.0 step (map_of s base p.0.key) (along.keyed p.0.key))

-- ---- quiet records
along_quiet : (s : Sizes) (base : List (List ℕ)) (cuts : List ℕ) (J : List Record) (r : Record) → redo (redo_all base J) r ≡ redo_all base J → QuietStep s J r → Along s base cuts J → (k : ℕ) → Keyed s cuts (J ++ r ∷ []) (part s (redo_all base (J ++ r ∷ []))) (flags (redo_all base (J ++ r ∷ []))) (map_of s base k) k
along_quiet s base cuts J r same quiet along k = subst (λ image. Keyed s cuts (J ++ r ∷ []) (part s image) (flags image) (map_of s base k) k) (sym (redo_all_push base J r ∙ same)) (keyed_quiet s cuts J (part s (redo_all base J)) (flags (redo_all base J)) r quiet k (map_of s base k) (along.keyed k))

-- a record that concerns nobody
nobody : (s : Sizes) (J : List Record) (r : Record) → KeepsCalls s J → ((u : ℕ) → concerns u r ≡ false) → (u : ℕ) → QuietState s J r u
nobody s J r calls none u = inl (state_beside s u J r (calls.txns u) (none u))

begin_state : (s : Sizes) (t : ℕ) (x y : TxnState) → kept_step s t x (Begin t) ≡ Some y → (x ≡ Unbegun) × (y ≡ Active (record { undos = []; mark = 0; progress = Fresh; way = Onward }))
begin_state s t Unbegun y e = let z : Some (Active (record { undos = []; mark = 0; progress = Fresh; way = Onward })) ≡ Some y = rw (eq-eqb t t refl) at e in (refl, sym (cc (z)))
begin_state s t (Active w) y e = absurd (refused t (Active w) y e)
begin_state s t (IsOver ps) y e = absurd (refused t (IsOver ps) y e)
begin_state s t Over y e = absurd (refused t Over y e)

ended_state : (s : Sizes) (t : ℕ) (x y : TxnState) → kept_step s t x (Ended t) ≡ Some y → y ≡ Over
ended_state s t Unbegun y e = absurd (refused t Unbegun y e)
ended_state s t (Active w) y e = sym (is_allowed (is_none_left w.undos) Over y (rw (eq-eqb t t refl) at e)).1
ended_state s t (IsOver ps) y e = let z : Some Over ≡ Some y = rw (eq-eqb t t refl) at e in sym (cc (z))
ended_state s t Over y e = absurd (refused t Over y e)

restarted_state : (s : Sizes) (t : ℕ) (x y : TxnState) (rs ds : List ℕ) → kept_step s t x (Restarted rs ds) ≡ Some y → (x ≡ y) ⊎ (y ≡ Over)
restarted_state s t Unbegun y rs ds e = inl (cc (e))
restarted_state s t (Active w) y rs ds e = let z : Over ≡ y = cc (e) in inr (sym z)
restarted_state s t (IsOver ps) y rs ds e = let z : Over ≡ y = cc (e) in inr (sym z)
restarted_state s t Over y rs ds e = inl (cc (e))

-- ---- solos
pub frees_is : (b : Block) (ps : List Pending) (y : TxnState) → freed_later b ps ≡ Some y → (d : Pending) × (qs : List Pending) × (y ≡ IsOver qs) × Frees ps d qs × (is_of (freeing_op d.undo) d b ≡ true)
frees_is b [] y e = absurd (cc (e))
frees_is b (p ∷ ps) y e = go (is_of (freeing_op p.undo) p b) refl e (frees_is b ps y)
  where
    go :
        (c : Bool) → is_of (freeing_op p.undo) p b ≡ c → (if c then Some (IsOver ps) else freed_later b ps) ≡ Some y
        → (freed_later b ps ≡ Some y → (d : Pending) × (qs : List Pending) × (y ≡ IsOver qs) × Frees ps d qs × (is_of (freeing_op d.undo) d b ≡ true))
        → (d : Pending) × (qs : List Pending) × (y ≡ IsOver qs) × Frees (p ∷ ps) d qs × (is_of (freeing_op d.undo) d b ≡ true)
    go true f g ih = (p, ps, sym (cc (g)), inl (refl, refl), f)
    go false f g ih = let z = ih g in (z.0, z.1, z.2, inr z.3, z.4)

-- the transaction that a solo frees for is committed, and the solo's own is new
pub solo_state : (s : Sizes) (t u : ℕ) (b : Block) (x y : TxnState) → kept_step s u x (Solo t u b) ≡ Some y → (ps : List Pending) × (x ≡ IsOver ps) × (freed_later b ps ≡ Some y)
solo_state s t u b Unbegun y e = absurd (go (t == u) (u == u) (eq-eqb u u refl) e)
  where
    go : (c d : Bool) → d ≡ true → (if c then allowed (not d) (Some Over) else allowed (not d) (Some Unbegun)) ≡ Some y → ⊥
    go true true f g = cc (g)
    go false true f g = cc (g)
    go c false f g = cc (f)
solo_state s t u b (Active w) y e = absurd (go (t == u) (u == u) (eq-eqb u u refl) e)
  where
    go : (c d : Bool) → d ≡ true → allowed (not c && not d) (Some (Active w)) ≡ Some y → ⊥
    go true true f g = cc (g)
    go false true f g = cc (g)
    go c false f g = cc (f)
solo_state s t u b (IsOver ps) y e = (ps, refl, go (t == u) (u == u) (eq-eqb u u refl) e)
  where
    go : (c d : Bool) → d ≡ true → allowed (not c) (if d then freed_later b ps else Some (IsOver ps)) ≡ Some y → freed_later b ps ≡ Some y
    go true d f g = absurd (cc (g))
    go false true f g = g
    go false false f g = absurd (cc (f))
solo_state s t u b Over y e = absurd (go (t == u) (u == u) (eq-eqb u u refl) e)
  where
    go : (c d : Bool) → d ≡ true → allowed (not c && not d) (Some Over) ≡ Some y → ⊥
    go true true f g = cc (g)
    go false true f g = cc (g)
    go c false f g = cc (f)

solo_own : (s : Sizes) (t u : ℕ) (b : Block) (x y : TxnState) → kept_step s t x (Solo t u b) ≡ Some y → y ≡ Over
solo_own s t u b Unbegun y e = go (t == t) (not (u == t)) (eq-eqb t t refl) e
  where
    go : (c d : Bool) → c ≡ true → (if c then allowed d (Some Over) else allowed d (Some Unbegun)) ≡ Some y → y ≡ Over
    go true true f g = sym (cc (g))
    go true false f g = absurd (cc (g))
    go false d f g = absurd (cc (f))
solo_own s t u b (Active w) y e = absurd (go (t == t) (not (u == t)) (eq-eqb t t refl) e)
  where
    go : (c d : Bool) → c ≡ true → allowed (not c && d) (Some (Active w)) ≡ Some y → ⊥
    go true d f g = cc (g)
    go false d f g = cc (f)
solo_own s t u b (IsOver ps) y e = absurd (go (t == t) (eq-eqb t t refl) e)
  where
    go : (c : Bool) → c ≡ true → allowed (not c) (if u == t then freed_later b ps else Some (IsOver ps)) ≡ Some y → ⊥
    go true f g = cc (g)
    go false f g = cc (f)
solo_own s t u b Over y e = absurd (go (t == t) (not (u == t)) (eq-eqb t t refl) e)
  where
    go : (c d : Bool) → c ≡ true → allowed (not c && d) (Some Over) ≡ Some y → ⊥
    go true d f g = cc (g)
    go false d f g = cc (f)

-- a dead slot is freed
pub frees_slot : (W V : World) (F G : Flags) (k r : ℕ) (d : Undo) (o : Outcome) (u : Option Undo) (ys : List ℕ) → is_removal d ≡ true → Does W F V G k r (freeing_op d) o u → W k r (slot_of d) ≡ 2 ∷ ys → (V ≡ put_at W k r (slot_of d) []) × (G ≡ F)
frees_slot W V F G k r (UndoFreeCell c) o u ys m h e = absurd (cc (m))
frees_slot W V F G k r (UndoReviveCell c) o u ys m h e = let a = h 2 ys e in (a.0, a.1)
frees_slot W V F G k r (UndoRestore c n vs) o u ys m h e = absurd (cc (m))
frees_slot W V F G k r (UndoFreeEntry c) o u ys m h e = absurd (cc (m))
frees_slot W V F G k r (UndoReviveEntry c) o u ys m h e = let a = h 2 ys e in (a.0, a.1)

along_solo : (s : Sizes) (base : List (List ℕ)) (cuts : List ℕ) (J : List Record) (t u : ℕ) (b : Block) → Fine s base cuts (J ++ Solo t u b ∷ []) → Along s base cuts J → (k : ℕ) → Keyed s cuts (J ++ Solo t u b ∷ []) (part s (redo_all base (J ++ Solo t u b ∷ []))) (flags (redo_all base (J ++ Solo t u b ∷ []))) (map_of s base k) k
along_solo s base cuts J t u b h along k = subst (λ image. Keyed s cuts (J ++ Solo t u b ∷ []) (part s image) (flags image) (map_of s base k) k) (sym (redo_all_push base J (Solo t u b))) (go (some_of (kept_state s u J) (old.calls.txns u)) (some_of (kept_state s u (J ++ Solo t u b ∷ [])) (h.calls.txns u)))
  where
    old : Fine s base cuts J
    old = fine_before s base cuts J (Solo t u b) h

    facts : (on_kind s b.region b.op ≡ true) × HasValue b.op
    facts = block_does s base cuts J (Solo t u b) (record { txn = t; owner = u; block = b }) h refl

    region : IsRegion s (redo_all base J) b.region
    region = image_region s (redo_all base J) b.region (image_redo_all s base J h.image) (region_within s b.region b.op facts.0)

    sound : IsSoundOn (words_in (redo_all base J) b.region) b
    sound = (sound_before base J (Solo t u b) h.sound).1

    does : Does (part s (redo_all base J)) (flags (redo_all base J)) (part s (redo (redo_all base J) (Solo t u b))) (flags (redo (redo_all base J) (Solo t u b))) b.key b.region b.op b.outcome b.undo
    does = sound_does s (redo_all base J) b region facts.0 sound

    beside : (i : ℕ) → i ≢ u → (kept_state s i (J ++ Solo t u b ∷ []) ≡ kept_state s i J) ⊎ (kept_state s i (J ++ Solo t u b ∷ []) ≡ Some Over)
    beside i apart = ⊎_elim own (λ a. inl (state_beside s i J (Solo t u b) (old.calls.txns i) (rw (ne_eqb t i (λ e. a.1 (sym e)), ne_eqb u i (λ e. apart (sym e))) refl))) (eqb_tells i t)
      where
        own : ((i == t) ≡ true) × (i ≡ t) → (kept_state s i (J ++ Solo t u b ∷ []) ≡ kept_state s i J) ⊎ (kept_state s i (J ++ Solo t u b ∷ []) ≡ Some Over)
        own a =
            let x = some_of (kept_state s t J) (old.calls.txns t) in
            let y = some_of (kept_state s t (J ++ Solo t u b ∷ [])) (h.calls.txns t) in
            inr (subst (λ z. kept_state s z (J ++ Solo t u b ∷ []) ≡ Some Over) (sym a.1) (y.1 ∙ ap (λ o. Some o) (solo_own s t u b x.0 y.0 (state_step s t J (Solo t u b) x.0 y.0 x.1 y.1))))

    go : (x : TxnState) × (kept_state s u J ≡ Some x) → (y : TxnState) × (kept_state s u (J ++ Solo t u b ∷ []) ≡ Some y) → Keyed s cuts (J ++ Solo t u b ∷ []) (part s (redo (redo_all base J) (Solo t u b))) (flags (redo (redo_all base J) (Solo t u b))) (map_of s base k) k
    go x y = run (solo_state s t u b x.0 y.0 (state_step s u J (Solo t u b) x.0 y.0 x.1 y.1))
      where
        run : (ps : List Pending) × (x.0 ≡ IsOver ps) × (freed_later b ps ≡ Some y.0) → Keyed s cuts (J ++ Solo t u b ∷ []) (part s (redo (redo_all base J) (Solo t u b))) (flags (redo (redo_all base J) (Solo t u b))) (map_of s base k) k
        run z = with (frees_is b z.0 y.0 z.2)
          where
            before : kept_state s u J ≡ Some (IsOver z.0)
            before = x.1 ∙ ap (λ o. Some o) z.1

            with : (d : Pending) × (qs : List Pending) × (y.0 ≡ IsOver qs) × Frees z.0 d qs × (is_of (freeing_op d.undo) d b ≡ true) → Keyed s cuts (J ++ Solo t u b ∷ []) (part s (redo (redo_all base J) (Solo t u b))) (flags (redo (redo_all base J) (Solo t u b))) (map_of s base k) k
            with d = subst (λ G. Keyed s cuts (J ++ Solo t u b ∷ []) (part s (redo (redo_all base J) (Solo t u b))) G (map_of s base k) k) (sym frees.1) (keyed_solo s cuts J (part s (redo_all base J)) (part s (redo (redo_all base J) (Solo t u b))) (flags (redo_all base J)) t u b z.0 d.1 d.0 step frees.0 k (map_of s base k) (along.keyed k))
              where
                is : (b.key ≡ d.0.key) × (b.region ≡ d.0.region) × (b.op ≡ freeing_op d.0.undo)
                is = is_of_is (freeing_op d.0.undo) d.0 b d.4

                step : SoloStep s cuts J t u b z.0 d.1 d.0
                step = record {
                  knows = along.known;
                  before = before;
                  after = y.1 ∙ ap (λ o. Some o) d.2;
                  beside = beside;
                  frees = d.3;
                  on = is.0;
                  changes = sound_changes (words_in (redo_all base J) b.region) b (freeing_op d.0.undo) sound is.2 (freeing_changes d.0.undo b.key (words_in (redo_all base J) b.region));
                  locks = h.locks;
                  uncut = old.uncut;
                }

                dead : (ys : List ℕ) × (part s (redo_all base J) d.0.key d.0.region (slot_of d.0.undo) ≡ 2 ∷ ys) × (is_removal d.0.undo ≡ true)
                dead = (frees_dead d.0.key z.0 d.1 d.0 (part s (redo_all base J) d.0.key) d.3 ((along.keyed d.0.key).dead u z.0 before).1 refl).0

                frees : (part s (redo (redo_all base J) (Solo t u b)) ≡ put_at (part s (redo_all base J)) d.0.key d.0.region (slot_of d.0.undo) []) × (flags (redo (redo_all base J) (Solo t u b)) ≡ flags (redo_all base J))
                frees = frees_slot (part s (redo_all base J)) (part s (redo (redo_all base J) (Solo t u b))) (flags (redo_all base J)) (flags (redo (redo_all base J) (Solo t u b))) d.0.key d.0.region d.0.undo b.outcome b.undo dead.0 dead.2 (does_of (part s (redo_all base J)) (part s (redo (redo_all base J) (Solo t u b))) (flags (redo_all base J)) (flags (redo (redo_all base J) (Solo t u b))) (freeing_op d.0.undo) d.0 b d.4 does) dead.1

-- ---- one more record
quiet_own : (s : Sizes) (J : List Record) (r : Record) (t : ℕ) → KeepsCalls s J → ((u : ℕ) → u ≢ t → concerns u r ≡ false) → QuietState s J r t → (u : ℕ) → QuietState s J r u
quiet_own s J r t calls beside own u = ⊎_elim (λ a. subst (λ z. QuietState s J r z) (sym a.1) own) (λ a. inl (state_beside s u J r (calls.txns u) (beside u a.1))) (eqb_tells u t)

pub keyed_push : (s : Sizes) (base : List (List ℕ)) (cuts : List ℕ) (J : List Record) (r : Record) → Fine s base cuts (J ++ r ∷ []) → Along s base cuts J → (k : ℕ) → Keyed s cuts (J ++ r ∷ []) (part s (redo_all base (J ++ r ∷ []))) (flags (redo_all base (J ++ r ∷ []))) (map_of s base k) k
keyed_push s base cuts J (Forward t b) h along = along_forward s base cuts J t b h along
keyed_push s base cuts J (Back t b) h along = along_back s base cuts J t b h along
keyed_push s base cuts J (Solo t u b) h along = along_solo s base cuts J t u b h along
keyed_push s base cuts J (Done t c a) h along = along_done s base cuts J t c a h along
keyed_push s base cuts J (Commit t) h along = along_commit s base cuts J t h along
keyed_push s base cuts J (Format i n) h along = along_quiet s base cuts J (Format i n) refl (record { commits = refl; calls = λ u. refl; undos = λ u. undos_of_push u J (Format i n); states = nobody s J (Format i n) (fine_before s base cuts J (Format i n) h).calls (λ u. refl) }) along
keyed_push s base cuts J AuditBegin h along = along_quiet s base cuts J AuditBegin refl (record { commits = refl; calls = λ u. refl; undos = λ u. undos_of_push u J AuditBegin; states = nobody s J AuditBegin (fine_before s base cuts J AuditBegin h).calls (λ u. refl) }) along
keyed_push s base cuts J (AuditClean n) h along = along_quiet s base cuts J (AuditClean n) refl (record { commits = refl; calls = λ u. refl; undos = λ u. undos_of_push u J (AuditClean n); states = nobody s J (AuditClean n) (fine_before s base cuts J (AuditClean n) h).calls (λ u. refl) }) along
keyed_push s base cuts J (AuditFail n rs) h along = along_quiet s base cuts J (AuditFail n rs) refl (record { commits = refl; calls = λ u. refl; undos = λ u. undos_of_push u J (AuditFail n rs); states = nobody s J (AuditFail n rs) (fine_before s base cuts J (AuditFail n rs) h).calls (λ u. refl) }) along
keyed_push s base cuts J (Restarted rs ds) h along = along_quiet s base cuts J (Restarted rs ds) refl (record { commits = refl; calls = λ u. refl; undos = λ u. undos_of_push u J (Restarted rs ds); states = states }) along
  where
    states : (u : ℕ) → QuietState s J (Restarted rs ds) u
    states u =
        let x = some_of (kept_state s u J) ((fine_before s base cuts J (Restarted rs ds) h).calls.txns u) in
        let y = some_of (kept_state s u (J ++ Restarted rs ds ∷ [])) (h.calls.txns u) in
        ⊎_elim (λ e. inl (y.1 ∙ ap (λ o. Some o) (sym e) ∙ sym x.1)) (λ e. inr (inl (y.1 ∙ ap (λ o. Some o) e))) (restarted_state s u x.0 y.0 rs ds (state_step s u J (Restarted rs ds) x.0 y.0 x.1 y.1))
keyed_push s base cuts J (Ended t) h along = along_quiet s base cuts J (Ended t) refl (record { commits = refl; calls = λ u. refl; undos = λ u. undos_of_push u J (Ended t); states = quiet_own s J (Ended t) t (fine_before s base cuts J (Ended t) h).calls (λ u apart. ne_eqb t u (λ i. apart (sym i))) own }) along
  where
    own : QuietState s J (Ended t) t
    own =
        let x = some_of (kept_state s t J) ((fine_before s base cuts J (Ended t) h).calls.txns t) in
        let y = some_of (kept_state s t (J ++ Ended t ∷ [])) (h.calls.txns t) in
        inr (inl (y.1 ∙ ap (λ o. Some o) (ended_state s t x.0 y.0 (state_step s t J (Ended t) x.0 y.0 x.1 y.1))))
keyed_push s base cuts J (Begin t) h along = along_quiet s base cuts J (Begin t) refl (record { commits = refl; calls = λ u. refl; undos = λ u. undos_of_push u J (Begin t); states = quiet_own s J (Begin t) t (fine_before s base cuts J (Begin t) h).calls (λ u apart. ne_eqb t u (λ i. apart (sym i))) own }) along
  where
    own : QuietState s J (Begin t) t
    own =
        let x = some_of (kept_state s t J) ((fine_before s base cuts J (Begin t) h).calls.txns t) in
        let y = some_of (kept_state s t (J ++ Begin t ∷ [])) (h.calls.txns t) in
        let z = begin_state s t x.0 y.0 (state_step s t J (Begin t) x.0 y.0 x.1 y.1) in
        let k : Knows t J (Some Unbegun) = subst (λ o. Knows t J o) (x.1 ∙ ap (λ o. Some o) z.0) (along.known t) in
        inr (inr (record { undos = []; mark = 0; progress = Fresh; way = Onward }, y.1 ∙ ap (λ o. Some o) z.1, refl, refl, k.2))

-- the invariant along a whole list, from the base
pub along_all : (s : Sizes) (base : List (List ℕ)) (cuts : List ℕ) (K : List Record) → Along s base cuts [] → Fine s base cuts K → Along s base cuts K
along_all s base cuts K start = by_push (λ J. Fine s base cuts J → Along s base cuts J) (λ h. start) step K
  where
    step : (J : List Record) (r : Record) → (Fine s base cuts J → Along s base cuts J) → Fine s base cuts (J ++ r ∷ []) → Along s base cuts (J ++ r ∷ [])
    step J r ih h = let along = ih (fine_before s base cuts J r h) in record { known = known_push s J r h.calls along.known; keyed = keyed_push s base cuts J r h along }

-- ---- from the base
pub fine_kept : (s : Sizes) (base : List (List ℕ)) (cuts : List ℕ) (K : List Record) → AreKept s base cuts K → Fine s base cuts K
fine_kept s base cuts K h = record { image = h.image; values = h.values; uncut = h.uncut; calls = h.calls; sound = h.sound; locks = h.locks }

-- before the first record
pub along_start : (s : Sizes) (base : List (List ℕ)) (cuts : List ℕ) → IsImage s base → IsIndexed s base → IsTidy s base → Along s base cuts []
along_start s base cuts form indexed tidy = record {
  known = λ u. (refl, refl, refl, λ e. cc (e.1));
  keyed = λ k. record {
    value = map_of s base k;
    slots = part s base k;
    holder = 0;
    replayed = refl;
    stands = base_stands s base k form indexed tidy;
    reached = base_reached s base k form indexed tidy;
    leads = refl;
    others = λ u apart. tt;
    altered = λ u. inl tt;
    txns = λ t w e uncut still. let no : Some Unbegun ≡ Some (Active w) = e in absurd (cc (no));
    dead = λ t ps e. let no : Some Unbegun ≡ Some (IsOver ps) = e in absurd (cc (no));
  };
}

-- the invariant at the end of a list that keeps the law's premises
pub along_kept : (s : Sizes) (base : List (List ℕ)) (cuts : List ℕ) (K : List Record) → AreKept s base cuts K → Along s base cuts K
along_kept s base cuts K h = along_all s base cuts K (along_start s base cuts h.image h.indexed h.tidy) (fine_kept s base cuts K h)

-- the serial replay of the law is defined, and has at each key the value that its slots stand for before the undos of those that still run
pub serial_kept : (s : Sizes) (base : List (List ℕ)) (cuts : List ℕ) (K : List Record) (h : AreKept s base cuts K) → (m : Map) × (serial (map_of s base) (committed K) K ≡ Some m) × ((k : ℕ) → m k ≡ ((along_kept s base cuts K h).keyed k).value)
serial_kept s base cuts K h = (x.0, replay, each)
  where
    x : (m : Map) × (calls_after (Some (map_of s base)) (calls_in_order (committed K) K) ≡ Some m)
    x = some_of (calls_after (Some (map_of s base)) (calls_in_order (committed K) K)) (calls_after-allowed (map_of s base) (calls_in_order (committed K) K) (λ k. subst (λ o. IsSome o) (sym ((along_kept s base cuts K h).keyed k).replayed) refl))

    replay : serial (map_of s base) (committed K) K ≡ Some x.0
    replay = serial-calls (map_of s base) (committed K) K ∙ x.1

    each : (k : ℕ) → x.0 k ≡ ((along_kept s base cuts K h).keyed k).value
    each k =
        let both : Some (x.0 k) ≡ Some ((along_kept s base cuts K h).keyed k).value = sym (calls_after-each (map_of s base) x.0 (calls_in_order (committed K) K) x.1 k) ∙ ((along_kept s base cuts K h).keyed k).replayed in
        cc (both)
