-- What an answer, and a block that takes back, do to a running transaction.
use Rattle.std.proofs.Common.{◌≡◌, ℕ, ◌<◌, ◌≤◌, Bool, true, false, not, List, [], ◌∷◌, ◌++◌, length, drop, Option, Some, None, refl, ap, sym, subst, ◌∙◌, ◌⊎◌, inl, inr, ⊎_elim, ◌≢◌, arith, drop_of_length-le}
use Rattle.std.specs.Prelude.{◌==◌, ◌&&◌, if◌then◌else◌, bytes_eq, reverse}
use Rattle.std.proofs.lemmas.List.{reverse-append, drop-append-le, length-append}
use Rattle.std.proofs.lemmas.List.Sums.{fold-append}
use Rattle.std.proofs.lemmas.List.Elements.{filter-append}
use Rattle.std.proofs.lemmas.Bool.Decides.{eqb_tells}
use Rattle.std.proofs.lemmas.Bool.{eqb-true, eq-eqb, ne_eqb, and_parts}
use Rattle.std.proofs.lemmas.Slice.Eq.{bytes_eq-Decides}
use Rattle.dali_lists.proofs.Tests.{not_itself}
use Rattle.dali_geometry.specs.Sizes.{Sizes}
use Rattle.dali_geometry.specs.Places.{is_place}
use Rattle.dali_record.specs.declared.operations.Pending.{Pending}
use Rattle.dali_record.specs.declared.records.Call.{Call}
use Rattle.dali_record.specs.declared.records.Call.TheVariants.{Insert, Update, Delete, Get}
use Rattle.dali_record.specs.declared.records.Answer.{Answer}
use Rattle.dali_record.specs.declared.records.Answer.TheVariants.{Ok as AnswerOk, Exists, Missing, Got, FullHeap, FullIndex, Odd}
use Rattle.dali_record.specs.Log.{last_of, drop_last}
use Rattle.dali_record.specs.Calls.{Progress, Fresh, Walking, Nowhere, Somewhere, Storing, Adding, Removing, Finished, answers, answers_nowhere, answers_somewhere, same_call, same_answer, takes_back}
use Rattle.dali_record.specs.Legal.{Working, Way, Onward, TakingBack, Unwinding, is_onward, is_unwinding, is_level, is_answer}
use Rattle.dali_history.specs.Serial.{value_after, call_key, values_after, value_step, on_key}
use Rattle.dali_access.proofs.IndexLemmas.Worlds.{World, Flags, put_at}
use Rattle.dali_access.proofs.IndexLemmas.Parts.{Part, put_at-own, put_at-beside}
use Rattle.dali_history.proofs.SlotsLemmas.SlotUndos.{Leads, NoneOn, undone_part, undone_slot, slot_of, leads_first, leads_other}
use Rattle.dali_history.proofs.SlotsLemmas.ValueSlots.{Stands, Reached}
use Rattle.dali_history.proofs.SlotsLemmas.CallProgress.{Own, IsOn, somewhere}
use Rattle.dali_history.proofs.SlotsLemmas.CallKey.{IsOff, off_other, off_on}
use Rattle.dali_history.proofs.SlotsLemmas.RunningTxn.{Runs, Goes, OnOrOff, IsSafe, beyond, level_same, runs_new}

-- ---- equal calls and answers
same_call_is : (d c : Call) → same_call d c ≡ true → d ≡ c
same_call_is (Insert k v) (Insert l w) h = let x = and_parts (k == l) (bytes_eq v w) h in let a : k ≡ l = eqb-true k l x.0 in let b : v ≡ w = (bytes_eq-Decides v w).0 x.1 in cc (a, b)
same_call_is (Update k v) (Update l w) h = let x = and_parts (k == l) (bytes_eq v w) h in let a : k ≡ l = eqb-true k l x.0 in let b : v ≡ w = (bytes_eq-Decides v w).0 x.1 in cc (a, b)
same_call_is (Delete k) (Delete l) h = let a : k ≡ l = eqb-true k l h in cc (a)
same_call_is (Get k) (Get l) h = let a : k ≡ l = eqb-true k l h in cc (a)
same_call_is _ _ h = absurd (cc (h))

same_answer_is : (a b : Answer) → same_answer a b ≡ true → a ≡ b
same_answer_is AnswerOk AnswerOk h = refl
same_answer_is Exists Exists h = refl
same_answer_is Missing Missing h = refl
same_answer_is (Got v) (Got w) h = let e : v ≡ w = (bytes_eq-Decides v w).0 h in cc (e)
same_answer_is FullHeap FullHeap h = refl
same_answer_is FullIndex FullIndex h = refl
same_answer_is (Odd p) (Odd q) h = let e : p ≡ q = eqb-true p q h in cc (e)
same_answer_is _ _ h = absurd (cc (h))

-- ---- the answer of a call
-- a call with no block has no answer, and an answer is on the call's key
nowhere_on : (key : ℕ) (c : Call) (a : Answer) → answers_nowhere key c a ≡ true → key ≡ call_key c
nowhere_on key (Update k v) Missing h = sym (eqb-true k key h)
nowhere_on key (Delete k) Missing h = sym (eqb-true k key h)
nowhere_on key (Get k) Missing h = sym (eqb-true k key h)
nowhere_on key _ _ h = absurd (cc (h))

somewhere_on : (s : Sizes) (key at : ℕ) (c : Call) (a : Answer) → answers_somewhere s key at c a ≡ true → key ≡ call_key c
somewhere_on s key at (Insert k v) Exists h = sym (eqb-true k key h)
somewhere_on s key at (Update k v) (Odd p) h = sym (eqb-true k key (and_parts (k == key) (p == at) (and_parts ((k == key) && (p == at)) (not (is_place s at)) h).0).0)
somewhere_on s key at (Delete k) (Odd p) h = sym (eqb-true k key (and_parts (k == key) (p == at) (and_parts ((k == key) && (p == at)) (not (is_place s at)) h).0).0)
somewhere_on s key at (Get k) (Odd p) h = sym (eqb-true k key (and_parts (k == key) (p == at) (and_parts ((k == key) && (p == at)) (not (is_place s at)) h).0).0)
somewhere_on s key at _ _ h = absurd (cc (h))

pub answers_on : (s : Sizes) (q : Progress) (c : Call) (a : Answer) → answers s q c a ≡ true → IsOn (call_key c) q × (q ≢ Fresh)
answers_on s (Nowhere key) c a h = (nowhere_on key c a h, λ e. cc (e))
answers_on s (Somewhere key region entry at) c a h = (somewhere_on s key at c a h, λ e. cc (e))
answers_on s (Finished d b) c a h = (ap call_key (same_call_is d c (and_parts (same_call d c) (same_answer b a) h).0), λ e. cc (e))
answers_on s _ c a h = absurd (cc (h))

-- what an answer says of the value, and of the slots where nothing is taken back
abbrev pub Answered : Sizes → Flags → ℕ → Part → Option (List ℕ) → Call → Answer → Type 0
Answered s F k P v c a = (w : Option (List ℕ)) × (value_after v c a ≡ Some w) × (takes_back a ≡ true → w ≡ v) × (takes_back a ≡ false → Stands s P w × Reached s F k P)

nowhere_answers : (s : Sizes) (F : Flags) (k : ℕ) (P : Part) (v : Option (List ℕ)) (key : ℕ) (c : Call) (a : Answer) → v ≡ None → Stands s P v → Reached s F k P → answers_nowhere key c a ≡ true → Answered s F k P v c a
nowhere_answers s F k P v key (Update l x) Missing none stands reached h = (v, rw none refl, (λ z. refl), λ z. (stands, reached))
nowhere_answers s F k P v key (Delete l) Missing none stands reached h = (v, rw none refl, (λ z. refl), λ z. (stands, reached))
nowhere_answers s F k P v key (Get l) Missing none stands reached h = (v, rw none refl, (λ z. refl), λ z. (stands, reached))
nowhere_answers s F k P v key _ _ none stands reached h = absurd (cc (h))

somewhere_answers : (s : Sizes) (F : Flags) (k : ℕ) (P : Part) (v : Option (List ℕ)) (key at : ℕ) (x : List ℕ) (c : Call) (a : Answer) → v ≡ Some x → is_place s at ≡ true → Stands s P v → Reached s F k P → answers_somewhere s key at c a ≡ true → Answered s F k P v c a
somewhere_answers s F k P v key at x (Insert l y) Exists some place stands reached h = (v, rw some refl, (λ z. refl), λ z. (stands, reached))
somewhere_answers s F k P v key at x (Update l y) (Odd p) some place stands reached h = absurd (not_itself (is_place s at) (and_parts ((l == key) && (p == at)) (not (is_place s at)) h).1 place)
somewhere_answers s F k P v key at x (Delete l) (Odd p) some place stands reached h = absurd (not_itself (is_place s at) (and_parts ((l == key) && (p == at)) (not (is_place s at)) h).1 place)
somewhere_answers s F k P v key at x (Get l) (Odd p) some place stands reached h = absurd (not_itself (is_place s at) (and_parts ((l == key) && (p == at)) (not (is_place s at)) h).1 place)
somewhere_answers s F k P v key at x _ _ some place stands reached h = absurd (cc (h))

own_answers : (s : Sizes) (F : Flags) (k : ℕ) (P R : Part) (v : Option (List ℕ)) (q : Progress) (c : Call) (a : Answer) → Stands s R v → Reached s F k R → Own s F k P R v q → answers s q c a ≡ true → Answered s F k P v c a
own_answers s F k P R v Fresh c a stands reached own h = absurd (cc (h))
own_answers s F k P R v (Walking key region looked) c a stands reached own h = absurd (cc (h))
own_answers s F k P R v (Nowhere key) c a stands reached own h = nowhere_answers s F k P v key c a own.1 (subst (λ (X : Part). Stands s X v) (sym own.0) stands) (subst (λ (X : Part). Reached s F k X) (sym own.0) reached) h
own_answers s F k P R v (Somewhere key region entry at) c a stands reached own h =
    let x = somewhere s R v region entry at stands own.1 own.2 in
    somewhere_answers s F k P v key at x.0 c a x.2 (rw (x.5) (x.1.is_place)) (subst (λ (X : Part). Stands s X v) (sym own.0) stands) (subst (λ (X : Part). Reached s F k X) (sym own.0) reached) h
own_answers s F k P R v (Storing key w region tried) c a stands reached own h = absurd (cc (h))
own_answers s F k P R v (Adding key w at region tried) c a stands reached own h = absurd (cc (h))
own_answers s F k P R v (Removing key region entry at) c a stands reached own h = absurd (cc (h))
own_answers s F k P R v (Finished d b) c a stands reached own h =
    let x = and_parts (same_call d c) (same_answer b a) h in
    let call : d ≡ c = same_call_is d c x.0 in
    let answer : b ≡ a = same_answer_is b a x.1 in
    rw (← call, ← answer) own

-- a call that goes on may take back what it changed
pub goes_safe : (s : Sizes) (F : Flags) (k : ℕ) (P R : Part) (v : Option (List ℕ)) (y : Way) (q : Progress) → Stands s R v → Reached s F k R → Goes s F k P R v y q → IsSafe s k v q
goes_safe s F k P R v Onward q stands reached (inl h) c a g back on = let x = own_answers s F k P R v q c a stands reached h.1 g in x.1 ∙ ap (λ z. Some z) (x.2 back)
goes_safe s F k P R v Onward q stands reached (inr h) c a g back on = let x = answers_on s q c a g in absurd (x.1 (off_on k q h.0 (subst (λ j. IsOn j q) on x.0)))
goes_safe s F k P R v TakingBack q stands reached h c a g back on = h c a g back on
goes_safe s F k P R v Unwinding q stands reached h c a g back on = absurd h

-- ---- the answer, and the next call
calls_one : (k : ℕ) (o v : Option (List ℕ)) (calls : List (Call × Answer)) (c : Call) (a : Answer) (w : Option (List ℕ)) → values_after (Some o) (on_key k calls) ≡ Some v → call_key c ≡ k → value_after v c a ≡ Some w → values_after (Some o) (on_key k (calls ++ (c, a) ∷ [])) ≡ Some w
calls_one k o v calls c a w h on g =
    ap (values_after (Some o)) (filter-append (λ p. call_key p.0 == k) calls ((c, a) ∷ []))
    ∙ fold-append value_step (Some o) (on_key k calls) (on_key k ((c, a) ∷ []))
    ∙ ap (λ x. values_after x (on_key k ((c, a) ∷ []))) h
    ∙ rw (eq-eqb (call_key c) k on) g

calls_none : (k : ℕ) (o v : Option (List ℕ)) (calls : List (Call × Answer)) (c : Call) (a : Answer) → values_after (Some o) (on_key k calls) ≡ Some v → call_key c ≢ k → values_after (Some o) (on_key k (calls ++ (c, a) ∷ [])) ≡ Some v
calls_none k o v calls c a h off =
    ap (values_after (Some o)) (filter-append (λ p. call_key p.0 == k) calls ((c, a) ∷ []))
    ∙ fold-append value_step (Some o) (on_key k calls) (on_key k ((c, a) ∷ []))
    ∙ ap (λ x. values_after x (on_key k ((c, a) ∷ []))) h
    ∙ rw (ne_eqb (call_key c) k off) refl

rested_beyond : (us : List Pending) → reverse (drop (length us) us) ≡ []
rested_beyond us = ap reverse (drop_of_length-le us {i = length us} (omega arith))

pub runs_done :
    (s : Sizes) (F : Flags) (k : ℕ) (o : Option (List ℕ)) (P : Part) (calls : List (Call × Answer)) (w : Working) (c : Call) (a : Answer)
    → is_answer s w c a ≡ true → Runs s F k o P calls w → Runs s F k o P (calls ++ (c, a) ∷ []) (record { undos = w.undos; mark = length w.undos; progress = Fresh; way = Onward })
runs_done s F k o P calls w c a h g = by_key (eqb_tells (call_key c) k)
  where
    tests : (answers s w.progress c a ≡ true) × ((if takes_back a then is_level w else is_onward w.way) ≡ true)
    tests = and_parts (answers s w.progress c a) (if takes_back a then is_level w else is_onward w.way) h

    -- with this value now
    with : (v : Option (List ℕ)) → values_after (Some o) (on_key k (calls ++ (c, a) ∷ [])) ≡ Some v → Stands s P v → Reached s F k P → Runs s F k o P (calls ++ (c, a) ∷ []) (record { undos = w.undos; mark = length w.undos; progress = Fresh; way = Onward })
    with v e stands reached = record {
      value = v;
      slots = P;
      replayed = e;
      stands = stands;
      reached = reached;
      leads = subst (λ ps. Leads s k ps P P) (sym (rested_beyond w.undos)) refl;
      goes = inl (tt, refl);
    }

    -- the slots are those before the call
    as_before : P ≡ g.slots → Stands s P g.value × Reached s F k P
    as_before e = (subst (λ (X : Part). Stands s X g.value) (sym e) g.stands, subst (λ (X : Part). Reached s F k X) (sym e) g.reached)

    onward_is : (y : Way) → is_onward y ≡ true → Goes s F k P g.slots g.value y w.progress → OnOrOff s F k P g.slots g.value w.progress
    onward_is Onward f x = x
    onward_is TakingBack f x = absurd (cc (f))
    onward_is Unwinding f x = absurd x

    on_key_k : call_key c ≡ k → (b : Bool) → takes_back a ≡ b → Runs s F k o P (calls ++ (c, a) ∷ []) (record { undos = w.undos; mark = length w.undos; progress = Fresh; way = Onward })
    on_key_k on true back =
        let level : is_level w ≡ true = rw back at tests.1 in
        let value = goes_safe s F k P g.slots g.value w.way w.progress g.stands g.reached g.goes c a tests.0 back on in
        let before = as_before (level_same s k P g.slots w level g.leads) in
        with g.value (calls_one k o g.value calls c a g.value g.replayed on value) before.0 before.1
    on_key_k on false back = go (onward_is w.way (rw back at tests.1) g.goes)
      where
        go : OnOrOff s F k P g.slots g.value w.progress → Runs s F k o P (calls ++ (c, a) ∷ []) (record { undos = w.undos; mark = length w.undos; progress = Fresh; way = Onward })
        go (inl x) = let y = own_answers s F k P g.slots g.value w.progress c a g.stands g.reached x.1 tests.0 in let z = y.3 back in with y.0 (calls_one k o g.value calls c a y.0 g.replayed on y.1) z.0 z.1
        go (inr x) = let y = answers_on s w.progress c a tests.0 in absurd (y.1 (off_on k w.progress x.0 (subst (λ j. IsOn j w.progress) on y.0)))

    off_key : call_key c ≢ k → (b : Bool) → takes_back a ≡ b → P ≡ g.slots
    off_key off true back = level_same s k P g.slots w (rw back at tests.1) g.leads
    off_key off false back = go (onward_is w.way (rw back at tests.1) g.goes)
      where
        go : OnOrOff s F k P g.slots g.value w.progress → P ≡ g.slots
        go (inl x) = let y = answers_on s w.progress c a tests.0 in absurd (y.1 (off_on k w.progress (off_other (call_key c) k w.progress y.0 off) x.0))
        go (inr x) = x.1

    by_key : (((call_key c == k) ≡ true) × (call_key c ≡ k)) ⊎ (((call_key c == k) ≡ false) × (call_key c ≢ k)) → Runs s F k o P (calls ++ (c, a) ∷ []) (record { undos = w.undos; mark = length w.undos; progress = Fresh; way = Onward })
    by_key (inl x) = on_key_k x.1 (takes_back a) refl
    by_key (inr x) = let before = as_before (off_key x.1 (takes_back a) refl) in with g.value (calls_none k o g.value calls c a g.replayed x.1) before.0 before.1

-- ---- a block that takes back
pub last_split : {X : Type 0} (xs : List X) (x : X) → last_of xs ≡ Some x → xs ≡ drop_last xs ++ x ∷ []
last_split [] x h = absurd (cc (h))
last_split (y ∷ []) x h = let e : y ≡ x = cc (h) in rw e refl
last_split (y ∷ z ∷ zs) x h = ap (λ ws. y ∷ ws) (last_split (z ∷ zs) x h)

-- the undo on k is performed; one on another key leaves the slots of k
abbrev pub Undoes : World → World → Pending → Type 0
Undoes W V p = V ≡ put_at W p.key p.region (slot_of p.undo) (undone_slot p.undo (W p.key p.region (slot_of p.undo)))

pub undoes_part : (W V : World) (p : Pending) (k : ℕ) → Undoes W V p → ((p.key ≡ k) × (V k ≡ undone_part (W k) p)) ⊎ ((p.key ≢ k) × (V k ≡ W k))
undoes_part W V p k h = ⊎_elim on off (eqb_tells p.key k)
  where
    on : ((p.key == k) ≡ true) × (p.key ≡ k) → ((p.key ≡ k) × (V k ≡ undone_part (W k) p)) ⊎ ((p.key ≢ k) × (V k ≡ W k))
    on a = inl (a.1, ap (λ (X : World). X k) h ∙ subst (λ x. put_at W x p.region (slot_of p.undo) (undone_slot p.undo (W x p.region (slot_of p.undo))) k ≡ undone_part (W k) p) (sym a.1) (put_at-own W k p.region (slot_of p.undo) (undone_slot p.undo (W k p.region (slot_of p.undo)))))

    off : ((p.key == k) ≡ false) × (p.key ≢ k) → ((p.key ≡ k) × (V k ≡ undone_part (W k) p)) ⊎ ((p.key ≢ k) × (V k ≡ W k))
    off a = inr (a.1, ap (λ (X : World). X k) h ∙ put_at-beside W p.key p.region (slot_of p.undo) (undone_slot p.undo (W p.key p.region (slot_of p.undo))) k (λ e. a.1 (sym e)))

-- the rest of the list leads on
pub undoes_leads : (s : Sizes) (W V : World) (p : Pending) (k : ℕ) (ps : List Pending) (Q : Part) → Undoes W V p → Leads s k (p ∷ ps) (W k) Q → Leads s k ps (V k) Q
undoes_leads s W V p k ps Q h g = ⊎_elim (λ a. subst (λ (X : Part). Leads s k ps X Q) (sym a.1) (leads_first s k p ps (W k) Q a.0 g).1) (λ a. subst (λ (X : Part). Leads s k ps X Q) (sym a.1) (leads_other s k p ps (W k) Q a.0 g)) (undoes_part W V p k h)

pub runs_back :
    (s : Sizes) (W V : World) (F : Flags) (k : ℕ) (o : Option (List ℕ)) (calls : List (Call × Answer)) (w : Working) (p : Pending)
    → last_of w.undos ≡ Some p → w.mark < length w.undos → Undoes W V p → Runs s F k o (W k) calls w → Runs s F k o (V k) calls (record { undos = drop_last w.undos; mark = w.mark; progress = w.progress; way = TakingBack })
runs_back s W V F k o calls w p last more h g = record {
  value = g.value;
  slots = g.slots;
  replayed = g.replayed;
  stands = g.stands;
  reached = g.reached;
  leads = undoes_leads s W V p k (reverse (drop w.mark (drop_last w.undos))) g.slots h (subst (λ ps. Leads s k ps (W k) g.slots) list g.leads);
  goes = goes_safe s F k (W k) g.slots g.value w.way w.progress g.stands g.reached g.goes;
}
  where
    split : w.undos ≡ drop_last w.undos ++ p ∷ []
    split = last_split w.undos p last

    fits : w.mark ≤ length (drop_last w.undos)
    fits = omega (arith, ap length split, length-append (drop_last w.undos) (p ∷ []))

    list : beyond w ≡ p ∷ reverse (drop w.mark (drop_last w.undos))
    list = ap (λ us. reverse (drop w.mark us)) split ∙ ap reverse (drop-append-le w.mark (drop_last w.undos) (p ∷ []) fits) ∙ reverse-append (drop w.mark (drop_last w.undos)) (p ∷ [])

-- a transaction that has nothing to do with the key yet
pub runs_fresh : (s : Sizes) (F : Flags) (k : ℕ) (o : Option (List ℕ)) (P : Part) (calls : List (Call × Answer)) (w : Working) → on_key k calls ≡ [] → is_unwinding w.way ≡ false → IsOff k w.progress → NoneOn k (beyond w) → Stands s P o → Reached s F k P → Runs s F k o P calls w
runs_fresh s F k o P calls w none still off clear stands reached = runs_new s F k o P calls w none clear stands reached (by_way w.way still)
  where
    by_way : (y : Way) → is_unwinding y ≡ false → Goes s F k P P o y w.progress
    by_way Onward f = inr (off, refl)
    by_way TakingBack f = goes_safe s F k P P o Onward w.progress stands reached (inr (off, refl))
    by_way Unwinding f = absurd (cc (f))
