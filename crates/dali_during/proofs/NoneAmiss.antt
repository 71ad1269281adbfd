-- On a right base sound blocks find their slots, and no call answers Odd: for each transaction, whether it commits or not.
use Rattle.std.proofs.Common.{◌≡◌, ℕ, false, List, [], ◌∷◌, ◌++◌, Option, Some, None, refl, ap, sym, subst, ◌∙◌, ⊎_elim}
use Rattle.std.specs.Prelude.{◌==◌}
use Rattle.std.proofs.lemmas.List.Sums.{fold-append}
use Rattle.std.proofs.lemmas.List.Elements.{filter-append}
use Rattle.std.proofs.lemmas.Bool.{eq-eqb}
use Rattle.dali_lists.proofs.Lists.{push-not_nil}
use Rattle.dali_lists.proofs.Options.{some_of}
use Rattle.dali_geometry.specs.Sizes.{Sizes}
use Rattle.dali_record.specs.declared.operations.Op.{Op}
use Rattle.dali_record.specs.declared.operations.Block.{Block}
use Rattle.dali_record.specs.declared.operations.Undo.{Undo}
use Rattle.dali_record.specs.declared.operations.Undo.TheVariants.{FreeCell as UndoFreeCell}
use Rattle.dali_record.specs.declared.records.Call.{Call}
use Rattle.dali_record.specs.declared.records.Answer.{Answer}
use Rattle.dali_record.specs.declared.records.Answer.TheVariants.{Odd}
use Rattle.dali_record.specs.declared.records.Record.{Record}
use Rattle.dali_record.specs.declared.records.Record.TheVariants.{Forward, Done, Solo, Back}
use Rattle.dali_record.specs.Blocks.{IsSoundOn}
use Rattle.dali_record.specs.Operations.{undo_op, effect}
use Rattle.dali_record.specs.Calls.{Progress, Fresh, Walking, Nowhere, Somewhere, Storing, Adding, Removing, Finished, follow}
use Rattle.dali_record.specs.Log.{Touch, touch_of, calls_of, last_of}
use Rattle.dali_record.specs.Legal.{Working, TxnState, Active, Onward, freeing_op, is_answer, Committed as IsOver}
use Rattle.dali_record.specs.Settled.{redo_all, words_in}
use Rattle.dali_record.proofs.Ends.{by_push, get_push_cases}
use Rattle.dali_record.proofs.Pushes.{touch_push_cases}
use Rattle.dali_access.proofs.IndexLemmas.Worlds.{part, flags}
use Rattle.dali_access.proofs.IndexLemmas.Parts.{Part}
use Rattle.dali_access.proofs.IndexLemmas.Worlds.{Flags}
use Rattle.dali_history.specs.Serial.{value_step, values_after, on_key, call_key}
use Rattle.dali_history.proofs.NoOdd.{odd_value}
use Rattle.dali_history.proofs.SlotsLemmas.CallKey.{IsOff, off_on, follow_says}
use Rattle.dali_history.proofs.SlotsLemmas.CallProgress.{Own, IsOn}
use Rattle.dali_history.proofs.SlotsLemmas.RunningTxn.{Runs}
use Rattle.dali_history.specs.Kept.Kept.{kept_state, AreKept}
use Rattle.dali_history.proofs.KeptLemmas.WithoutLast.{Touches, sound_before}
use Rattle.dali_history.proofs.KeptLemmas.Invariant.{IsClear, IsAlone, Knows}
use Rattle.dali_history.proofs.KeptLemmas.OperationsKeep.{Forwards, forward_is, gone_on, started}
use Rattle.dali_history.proofs.KeptLemmas.AnswersKeep.{rested_of, done_own}
use Rattle.dali_history.proofs.KeptLemmas.InvariantAlong.{forward_state, back_state, done_state, is_of_is}
use Rattle.dali_history.proofs.KeptLemmas.InvariantSteps.{Fine, Along, fine_before, fine_kept, along_all, along_start, state_step}
use Rattle.dali_history.proofs.KeptLemmas.KnownTxns.{back_is, is_allowed}
use Rattle.dali_during.specs.During.{is_amiss, IsQuiet}
use Rattle.dali_during.proofs.Follows.{Tells, follow_tells}
use Rattle.dali_history.proofs.KeptLemmas.InvariantSteps.{frees_is, solo_state}

odd_step : (o : Option (Option (List ℕ))) (c : Call) (p : ℕ) → value_step o (c, Odd p) ≡ None
odd_step None c p = refl
odd_step (Some v) c p = odd_value v c p

-- the last of the calls on its key
last_call : (c : Call) (a : Answer) (cs : List (Call × Answer)) → on_key (call_key c) (cs ++ (c, a) ∷ []) ≡ on_key (call_key c) cs ++ (c, a) ∷ []
last_call c a cs = filter-append (λ p. call_key p.0 == call_key c) cs ((c, a) ∷ []) ∙ rw (eq-eqb (call_key c) (call_key c) refl) refl

pub uncut : (t : ℕ) → Rattle.dali_record.specs.Damage.has [] t ≡ false
uncut t = refl

-- ---- answers

not_odd : (s : Sizes) (base : List (List ℕ)) (J : List Record) (t : ℕ) (c : Call) (p : ℕ) → Fine s base [] (J ++ Done t c (Odd p) ∷ []) → Along s base [] (J ++ Done t c (Odd p) ∷ []) → ⊥
not_odd s base J t c p h along = go (some_of (kept_state s t J) ((fine_before s base [] J (Done t c (Odd p)) h).calls.txns t)) (some_of (kept_state s t (J ++ Done t c (Odd p) ∷ [])) (h.calls.txns t))
  where
    K : List Record
    K = J ++ Done t c (Odd p) ∷ []

    k : ℕ
    k = call_key c

    go : (x : TxnState) × (kept_state s t J ≡ Some x) → (y : TxnState) × (kept_state s t (J ++ Done t c (Odd p) ∷ []) ≡ Some y) → ⊥
    go x y =
        let z = done_state s t x.0 y.0 c (Odd p) (state_step s t J (Done t c (Odd p)) x.0 y.0 x.1 y.1) in
        let b = is_allowed (is_answer s z.0 c (Odd p)) (Active (rested_of z.0)) y.0 z.2 in
        ⊎_elim clear runs ((along.keyed (call_key c)).txns t (rested_of z.0) (y.1 ∙ ap (λ o. Some o) (sym b.1)) refl refl)
      where
        list : on_key (call_key c) (calls_of t (J ++ Done t c (Odd p) ∷ [])) ≡ on_key (call_key c) (calls_of t J) ++ (c, Odd p) ∷ []
        list = ap (on_key (call_key c)) (done_own t c (Odd p) J) ∙ last_call c (Odd p) (calls_of t J)

        clear : {w : Working} → IsClear (call_key c) (calls_of t (J ++ Done t c (Odd p) ∷ [])) w → ⊥
        clear d = push-not_nil (on_key (call_key c) (calls_of t J)) (c, Odd p) (sym list ∙ d.none)

        runs : {w : Working} {F : Flags} {P : Part} {o : Option (List ℕ)} → Touches t (call_key c) (J ++ Done t c (Odd p) ∷ []) × IsAlone t (call_key c) (J ++ Done t c (Odd p) ∷ []) × Runs s F (call_key c) o P (calls_of t (J ++ Done t c (Odd p) ∷ [])) w → ⊥
        runs {o = o} d =
            let r = d.2 in
            let no : None ≡ Some r.value = sym (odd_step (values_after (Some o) (on_key (call_key c) (calls_of t J))) c p) ∙ sym (fold-append value_step (Some o) (on_key (call_key c) (calls_of t J)) ((c, Odd p) ∷ [])) ∙ sym (ap (values_after (Some o)) list) ∙ r.replayed in
            cc (no)

-- ---- blocks
-- what an operation leads its call to, on the slots of its key
pub record Comes (s : Sizes) (F : Flags) (J : List Record) (t : ℕ) (b : Block) (P : Part) : Type 0 where
  pub progress : Progress
  pub tells : Tells b.outcome progress
  pub alone : IsAlone t b.key (J ++ Forward t b ∷ [])
  pub forward : Rattle.dali_history.proofs.SlotsLemmas.SlotSteps.IsForward b.op
  pub running : Rattle.dali_record.specs.Damage.has (Rattle.dali_record.specs.Log.committed J) t ≡ false
  pub slots : Part
  pub value : Option (List ℕ)
  pub stands : Rattle.dali_history.proofs.SlotsLemmas.ValueSlots.Stands s slots value
  pub reached : Rattle.dali_history.proofs.SlotsLemmas.ValueSlots.Reached s F b.key slots
  pub own : Own s F b.key P slots value progress

not_fresh : (o : Rattle.dali_record.specs.declared.operations.Outcome.Outcome) (p : Progress) → Tells o p → p ≡ Fresh → ⊥
not_fresh o p h e = let no : Tells o Fresh = subst (λ q. Tells o q) e h in no

pub forward_comes :
    (s : Sizes) (base : List (List ℕ)) (J : List Record) (t : ℕ) (b : Block) → Fine s base [] (J ++ Forward t b ∷ []) → Along s base [] J → Along s base [] (J ++ Forward t b ∷ [])
    → Comes s (flags (redo_all base (J ++ Forward t b ∷ []))) J t b (part s (redo_all base (J ++ Forward t b ∷ [])) b.key)
forward_comes s base J t b h before_along along = go (some_of (kept_state s t J) ((fine_before s base [] J (Forward t b) h).calls.txns t)) (some_of (kept_state s t (J ++ Forward t b ∷ [])) (h.calls.txns t))
  where
    F : Flags
    F = flags (redo_all base (J ++ Forward t b ∷ []))

    P : Part
    P = part s (redo_all base (J ++ Forward t b ∷ [])) b.key

    with :
        (w : Working) (q p : Progress) → Rattle.dali_record.specs.Damage.has (Rattle.dali_record.specs.Log.committed J) t ≡ false → kept_state s t (J ++ Forward t b ∷ []) ≡ Some (Active w) → w.progress ≡ p → w.way ≡ Onward → follow s t q b ≡ Some p
        → Comes s (flags (redo_all base (J ++ Forward t b ∷ []))) J t b (part s (redo_all base (J ++ Forward t b ∷ [])) b.key)
    with w q p unended state at way e = ⊎_elim clear runs ((along.keyed b.key).txns t w state refl (ap Rattle.dali_record.specs.Legal.is_unwinding way))
      where
        tells : Tells b.outcome p
        tells = follow_tells s t q b p e

        on : IsOn b.key p
        on = (follow_says s t q b p e).2

        clear : IsClear b.key (calls_of t (J ++ Forward t b ∷ [])) w → Comes s (flags (redo_all base (J ++ Forward t b ∷ []))) J t b (part s (redo_all base (J ++ Forward t b ∷ [])) b.key)
        clear d = absurd (not_fresh b.outcome p tells (off_on b.key p (subst (λ x. IsOff b.key x) at d.off) on))

        runs : Touches t b.key (J ++ Forward t b ∷ []) × IsAlone t b.key (J ++ Forward t b ∷ []) × Runs s (flags (redo_all base (J ++ Forward t b ∷ []))) b.key (along.keyed b.key).value (part s (redo_all base (J ++ Forward t b ∷ [])) b.key) (calls_of t (J ++ Forward t b ∷ [])) w → Comes s (flags (redo_all base (J ++ Forward t b ∷ []))) J t b (part s (redo_all base (J ++ Forward t b ∷ [])) b.key)
        runs d = record {
          progress = p;
          tells = tells;
          alone = d.1;
          forward = (follow_says s t q b p e).0;
          running = unended;
          slots = d.2.slots;
          value = d.2.value;
          stands = d.2.stands;
          reached = d.2.reached;
          own = ⊎_elim (λ x. x.1) (λ x. absurd (not_fresh b.outcome p tells (off_on b.key p x.0 on))) goes;
        }
          where
            goes : Rattle.dali_history.proofs.SlotsLemmas.RunningTxn.OnOrOff s (flags (redo_all base (J ++ Forward t b ∷ []))) b.key (part s (redo_all base (J ++ Forward t b ∷ [])) b.key) d.2.slots d.2.value p
            goes = subst (λ x. Rattle.dali_history.proofs.SlotsLemmas.RunningTxn.OnOrOff s (flags (redo_all base (J ++ Forward t b ∷ []))) b.key (part s (redo_all base (J ++ Forward t b ∷ [])) b.key) d.2.slots d.2.value x) at
                (subst (λ y. Rattle.dali_history.proofs.SlotsLemmas.RunningTxn.Goes s (flags (redo_all base (J ++ Forward t b ∷ []))) b.key (part s (redo_all base (J ++ Forward t b ∷ [])) b.key) d.2.slots d.2.value y w.progress) way d.2.goes)

    go : (x : TxnState) × (kept_state s t J ≡ Some x) → (y : TxnState) × (kept_state s t (J ++ Forward t b ∷ []) ≡ Some y) → Comes s (flags (redo_all base (J ++ Forward t b ∷ []))) J t b (part s (redo_all base (J ++ Forward t b ∷ [])) b.key)
    go x y =
        let z = forward_state s t x.0 y.0 b (state_step s t J (Forward t b) x.0 y.0 x.1 y.1) in
        let f : Forwards s t z.0 b y.0 = forward_is s t z.0 b y.0 z.2 in
        let known : Knows t J (Some (Active z.0)) = subst (λ o. Knows t J o) (x.1 ∙ ap (λ o. Some o) z.1) (before_along.known t) in
        let unended = known.1 in
        ⊎_elim (λ a. with (gone_on z.0 b f.0) z.0.progress f.0 unended (y.1 ∙ ap (λ o. Some o) a.2) refl refl a.1)
        (λ a. with (started z.0 b f.0) Fresh f.0 unended (y.1 ∙ ap (λ o. Some o) a.2) refl refl a.1) f.1

not_amiss : (s : Sizes) (F : Flags) (k : ℕ) (P R : Part) (v : Option (List ℕ)) (o : Rattle.dali_record.specs.declared.operations.Outcome.Outcome) (p : Progress) → Tells o p → Own s F k P R v p → is_amiss o ≡ false
not_amiss s F k P R v o Fresh t h = absurd t
not_amiss s F k P R v o (Walking key region looked) t h = t.0
not_amiss s F k P R v o (Nowhere key) t h = t.0
not_amiss s F k P R v o (Somewhere key region entry at) t h = t.0
not_amiss s F k P R v o (Storing key w region tried) t h = t.0
not_amiss s F k P R v o (Adding key w at region tried) t h = t
not_amiss s F k P R v o (Removing key region entry at) t h = t
not_amiss s F k P R v o (Finished c (Odd n)) t h = let no : None ≡ Some h.0 = sym (odd_value v c n) ∙ h.1 in absurd (cc (no))
not_amiss s F k P R v o (Finished c Rattle.dali_record.specs.declared.records.Answer.TheVariants.Ok) t h = t.0
not_amiss s F k P R v o _ t h = t.0

-- blocks that take back or free find nothing
undo_quiet : (d : Undo) (key : ℕ) (ws : List ℕ) → is_amiss (effect (undo_op d) key ws).1 ≡ false
undo_quiet (UndoFreeCell c) key ws = refl
undo_quiet _ key ws = refl

free_quiet : (d : Undo) (key : ℕ) (ws : List ℕ) → is_amiss (effect (freeing_op d) key ws).1 ≡ false
free_quiet (UndoFreeCell c) key ws = refl
free_quiet _ key ws = refl

sound_quiet : (ws : List ℕ) (b : Block) (op : Op) → IsSoundOn ws b → b.op ≡ op → is_amiss (effect op b.key ws).1 ≡ false → is_amiss b.outcome ≡ false
sound_quiet ws b op sound e h = ap (λ (x : Block). is_amiss x.outcome) (sym sound) ∙ ap (λ o. is_amiss (effect o b.key ws).1) e ∙ h

-- ---- along the records
forward_quiet : (s : Sizes) (base : List (List ℕ)) (J : List Record) (t : ℕ) (b : Block) → Fine s base [] (J ++ Forward t b ∷ []) → Along s base [] J → Along s base [] (J ++ Forward t b ∷ []) → is_amiss b.outcome ≡ false
forward_quiet s base J t b h before along =
    let x = forward_comes s base J t b h before along in
    not_amiss s (flags (redo_all base (J ++ Forward t b ∷ []))) b.key (part s (redo_all base (J ++ Forward t b ∷ [])) b.key) x.slots x.value b.outcome x.progress x.tells x.own

back_quiet : (s : Sizes) (base : List (List ℕ)) (J : List Record) (t : ℕ) (b : Block) → Fine s base [] (J ++ Back t b ∷ []) → is_amiss b.outcome ≡ false
back_quiet s base J t b h = go (some_of (kept_state s t J) ((fine_before s base [] J (Back t b) h).calls.txns t)) (some_of (kept_state s t (J ++ Back t b ∷ [])) (h.calls.txns t))
  where
    go : (x : TxnState) × (kept_state s t J ≡ Some x) → (y : TxnState) × (kept_state s t (J ++ Back t b ∷ []) ≡ Some y) → is_amiss b.outcome ≡ false
    go x y =
        let z = back_state s t x.0 y.0 b (state_step s t J (Back t b) x.0 y.0 x.1 y.1) in
        let p = back_is z.0 b (last_of z.0.undos) y.0 z.2 in
        let is = is_of_is (undo_op p.0.undo) p.0 b p.2 in
        sound_quiet (words_in (redo_all base J) b.region) b (undo_op p.0.undo) (sound_before base J (Back t b) h.sound).1 is.2 (undo_quiet p.0.undo b.key (words_in (redo_all base J) b.region))

solo_quiet : (s : Sizes) (base : List (List ℕ)) (J : List Record) (t u : ℕ) (b : Block) → Fine s base [] (J ++ Solo t u b ∷ []) → is_amiss b.outcome ≡ false
solo_quiet s base J t u b h = go (some_of (kept_state s u J) ((fine_before s base [] J (Solo t u b) h).calls.txns u)) (some_of (kept_state s u (J ++ Solo t u b ∷ [])) (h.calls.txns u))
  where
    go : (x : TxnState) × (kept_state s u J ≡ Some x) → (y : TxnState) × (kept_state s u (J ++ Solo t u b ∷ []) ≡ Some y) → is_amiss b.outcome ≡ false
    go x y =
        let z = solo_state s t u b x.0 y.0 (state_step s u J (Solo t u b) x.0 y.0 x.1 y.1) in
        let d = frees_is b z.0 y.0 z.2 in
        let is = is_of_is (freeing_op d.0.undo) d.0 b d.4 in
        sound_quiet (words_in (redo_all base J) b.region) b (freeing_op d.0.undo) (sound_before base J (Solo t u b) h.sound).1 is.2 (free_quiet d.0.undo b.key (words_in (redo_all base J) b.region))

touch_quiet : (s : Sizes) (base : List (List ℕ)) (J : List Record) (r : Record) → Fine s base [] (J ++ r ∷ []) → Along s base [] J → Along s base [] (J ++ r ∷ []) → (a : Touch) → touch_of r ≡ Some a → is_amiss a.block.outcome ≡ false
touch_quiet s base J (Forward t b) h before along a e = let same : record { txn = t; owner = t; block = b } ≡ a = cc (e) in subst (λ (x : Touch). is_amiss x.block.outcome ≡ false) same (forward_quiet s base J t b h before along)
touch_quiet s base J (Back t b) h before along a e = let same : record { txn = t; owner = t; block = b } ≡ a = cc (e) in subst (λ (x : Touch). is_amiss x.block.outcome ≡ false) same (back_quiet s base J t b h)
touch_quiet s base J (Solo t u b) h before along a e = let same : record { txn = t; owner = u; block = b } ≡ a = cc (e) in subst (λ (x : Touch). is_amiss x.block.outcome ≡ false) same (solo_quiet s base J t u b h)
touch_quiet s base J _ h before along a e = absurd (cc (e))

pub kept_quiet : (s : Sizes) (base : List (List ℕ)) (K : List Record) → AreKept s base [] K → IsQuiet K
kept_quiet s base K kept = by_push (λ J. Fine s base [] J → IsQuiet J) start step K (fine_kept s base [] K kept)
  where
    begins : Along s base [] []
    begins = along_start s base [] kept.image kept.indexed kept.tidy

    start : Fine s base [] [] → IsQuiet []
    start h = record { answers = λ i t c p e. absurd (cc (e)); blocks = λ i a e. absurd (cc (e)) }

    step : (J : List Record) (r : Record) → (Fine s base [] J → IsQuiet J) → Fine s base [] (J ++ r ∷ []) → IsQuiet (J ++ r ∷ [])
    step J r ih h = record {
      answers = λ i t c p e. ⊎_elim (λ a. (ih (fine_before s base [] J r h)).answers i t c p a.1) (λ a. last t c p a.1) (get_push_cases J r i (Done t c (Odd p)) e);
      blocks = λ i a e. ⊎_elim (λ x. (ih (fine_before s base [] J r h)).blocks i a x.1) (λ x. touch_quiet s base J r h (along_all s base [] J begins (fine_before s base [] J r h)) (along_all s base [] (J ++ r ∷ []) begins h) a x.1) (touch_push_cases J r i a e);
    }
      where
        last : (t : ℕ) (c : Call) (p : ℕ) → r ≡ Done t c (Odd p) → ⊥
        last t c p e = let g = subst (λ x. Fine s base [] (J ++ x ∷ [])) e h in not_odd s base J t c p g (along_all s base [] (J ++ Done t c (Odd p) ∷ []) begins g)
