-- Each undo of a row is that of a block of its transaction in the present epoch.
use Rattle.std.proofs.Common.{◌≡◌, ℕ, Bool, true, false, cond, List, [], ◌∷◌, ◌++◌, Option, Some, None, refl, sym, subst, ◌∙◌}
use Rattle.std.specs.Prelude.{◌==◌, ◌&&◌, not, ⊤, IsSome, if◌then◌else◌, length, slice_get}
use Rattle.std.specs.List.{AllByRecursion}
use Rattle.std.specs.Option.{option_map_or}
use Rattle.std.proofs.lemmas.Bool.{and_parts, eqb-true}
use Rattle.dali_lists.proofs.Members.{all_append, all_weaker}
use Rattle.dali_geometry.specs.Sizes.{Sizes}
use Rattle.dali_record.specs.declared.operations.Block.{Block}
use Rattle.dali_record.specs.declared.operations.Pending.{Pending}
use Rattle.dali_record.specs.declared.operations.Undo.{Undo}
use Rattle.dali_record.specs.declared.records.Record.{Record}
use Rattle.dali_record.specs.declared.records.Record.TheVariants.{Format, Begin, Forward, Done, Commit, Ended, Solo, AuditBegin, AuditClean, AuditFail, Restarted, Back}
use Rattle.dali_record.specs.Blocks.{pending}
use Rattle.dali_record.specs.Log.{Touch, touch_of, touch_at, undo_added, last_of, drop_last}
use Rattle.dali_record.specs.Epochs.{Cut, cut, last_epoch}
use Rattle.dali_record.specs.Calls.{Progress, Fresh, follow}
use Rattle.dali_record.specs.Spelling.{CanBeSpelled, IsBlock, IsUndo, MayBeUndo, is_within, is_outcome_of, undoes}
use Rattle.dali_record.specs.Legal.{TxnState, Unbegun, Active, Committed as Ending, Over, Working, txn_state, txn_next, allowed, either_state, goes_on, starts, forward, back, is_onward, is_level, is_answer, is_none_left, dead_of, is_removal, freed, rested, Rules, rules_state}
use Rattle.dali_record.proofs.Ends.{by_push}
use Rattle.dali_record.proofs.Pushes.{txn_state_push, cut_push, touch_old, touch_new, touch_within}
use Rattle.dali_record.proofs.EpochRules.{format_first, EachTouch, IsOnKind, rules_kinds, touches_in_epochs, rules_before}
use Rattle.dali_record.proofs.Undos.{undo_changes}
use Rattle.dali_record.proofs.Fronts.{touch_get}
use Rattle.dali_runs.specs.State.{TxnRow, CoreState, row_of, lock_of}
use Rattle.dali_runs.specs.Run.{Bases, RunsOn, IsRow, covers, holds}
use Rattle.dali_runs.proofs.OneMore.{is_inside, step_inside}
use Rattle.dali_runs.proofs.UndoKinds.{undo_kind}
use Rattle.dali_runs.specs.Facts.Undos.{MayBePerformed, UndosMayBePerformed, RemovalsMayBePerformed}
use Rattle.dali_runs.proofs.FactsLemmas.KeysAndUndos.{holds_its_keys}

record FromBlock (E : List Record) (t : ℕ) (u : Pending) : Type 0 where
  place : ℕ
  touch : Touch
  at : touch_at E place ≡ Some touch
  owner : touch.owner ≡ t
  undo : touch.block.undo ≡ Some u.undo
  of : u ≡ pending touch.block u.undo

abbrev AllFrom : List Record → ℕ → List Pending → Type 0
AllFrom E t us = AllByRecursion (FromBlock E t) us

-- what a committed transaction still has to free: the undos of its removals
abbrev FromRemoval : List Record → ℕ → Pending → Type 0
FromRemoval E t u = FromBlock E t u × (is_removal u.undo ≡ true)

abbrev AllRemoved : List Record → ℕ → List Pending → Type 0
AllRemoved E t us = AllByRecursion (FromRemoval E t) us

abbrev Comes : List Record → ℕ → Option TxnState → Type 0
Comes E t (Some (Active w)) = AllFrom E t w.undos
Comes E t (Some (Ending ps)) = AllRemoved E t ps
Comes E t _ = ⊤

-- ---- one record more
from_old : (E : List Record) (x : Record) (t : ℕ) (u : Pending) → FromBlock E t u → FromBlock (E ++ x ∷ []) t u
from_old E x t u f = record { place = f.place; touch = f.touch; at = touch_old E x f.place (touch_within E f.place f.touch f.at) ∙ f.at; owner = f.owner; undo = f.undo; of = f.of }

all_old : (E : List Record) (x : Record) (t : ℕ) (us : List Pending) → AllFrom E t us → AllFrom (E ++ x ∷ []) t us
all_old E x t [] h = tt
all_old E x t (u ∷ us) h = (from_old E x t u h.0, all_old E x t us h.1)

all_removed_old : (E : List Record) (x : Record) (t : ℕ) (us : List Pending) → AllRemoved E t us → AllRemoved (E ++ x ∷ []) t us
all_removed_old E x t [] h = tt
all_removed_old E x t (u ∷ us) h = ((from_old E x t u h.0.0, h.0.1), all_removed_old E x t us h.1)

all_dead : (E : List Record) (t : ℕ) (us : List Pending) → AllFrom E t us → AllRemoved E t (dead_of us)
all_dead E t [] h = tt
all_dead E t (u ∷ us) h = by_removal (is_removal u.undo) refl (all_dead E t us h.1)
  where
    by_removal : (b : Bool) → is_removal u.undo ≡ b → AllRemoved E t (dead_of us) → AllRemoved E t (if b then u ∷ dead_of us else dead_of us)
    by_removal true e rest = ((h.0, e), rest)
    by_removal false e rest = rest

comes_old : (E : List Record) (x : Record) (t : ℕ) (o : Option TxnState) → Comes E t o → Comes (E ++ x ∷ []) t o
comes_old E x t None h = tt
comes_old E x t (Some Unbegun) h = tt
comes_old E x t (Some (Active w)) h = all_old E x t w.undos h
comes_old E x t (Some (Ending ps)) h = all_removed_old E x t ps h
comes_old E x t (Some Over) h = tt

pub all_dropped : (Q : Pending → Type 0) (us : List Pending) → AllByRecursion Q us → AllByRecursion Q (drop_last us)
all_dropped Q [] h = tt
all_dropped Q (u ∷ []) h = tt
all_dropped Q (u ∷ v ∷ us) h = (h.0, all_dropped Q (v ∷ us) h.1)

now_added : (E : List Record) (t : ℕ) (b : Block) (o : Option Undo) → b.undo ≡ o → AllFrom (E ++ Forward t b ∷ []) t (undo_added b o)
now_added E t b None e = tt
now_added E t b (Some u) e = (record { place = length E; touch = record { txn = t; owner = t; block = b }; at = touch_new E (Forward t b); owner = refl; undo = e; of = refl }, tt)

c_allowed : (E : List Record) (t : ℕ) (c : Bool) (o : Option TxnState) → Comes E t o → Comes E t (allowed c o)
c_allowed E t true o h = h
c_allowed E t false o h = tt

c_either : (E : List Record) (t : ℕ) (o p : Option TxnState) → Comes E t o → Comes E t p → Comes E t (either_state o p)
c_either E t None p h g = g
c_either E t (Some x) p h g = h

c_test : (E : List Record) (t : ℕ) (c : Bool) (o p : Option TxnState) → (c ≡ true → Comes E t o) → Comes E t p → Comes E t (cond c o p)
c_test E t true o p h g = h refl
c_test E t false o p h g = g

c_goes_on : (E : List Record) (t : ℕ) (w : Working) (q : Block) (o : Option Progress) → AllFrom E t (w.undos ++ undo_added q q.undo) → Comes E t (goes_on w q o)
c_goes_on E t w q None h = tt
c_goes_on E t w q (Some p) h = h

c_starts : (E : List Record) (t : ℕ) (w : Working) (q : Block) (o : Option Progress) → AllFrom E t (w.undos ++ undo_added q q.undo) → Comes E t (starts w q o)
c_starts E t w q None h = tt
c_starts E t w q (Some p) h = h

c_forward : (s : Sizes) (E : List Record) (t : ℕ) (w : Working) (q : Block) → AllFrom E t (w.undos ++ undo_added q q.undo) → Comes E t (forward s t w q)
c_forward s E t w q h =
    c_either E t (allowed (is_onward w.way) (goes_on w q (follow s t w.progress q))) (allowed (is_level w) (starts w q (follow s t Fresh q)))
    (c_allowed E t (is_onward w.way) (goes_on w q (follow s t w.progress q)) (c_goes_on E t w q (follow s t w.progress q) h))
    (c_allowed E t (is_level w) (starts w q (follow s t Fresh q)) (c_starts E t w q (follow s t Fresh q) h))

c_back : (E : List Record) (t : ℕ) (w : Working) (q : Block) (o : Option Pending) → AllFrom E t w.undos → Comes E t (back w q o)
c_back E t w q None h = tt
c_back E t w q (Some p) h = c_allowed E t _ (Some (Active _)) (all_dropped (FromBlock E t) w.undos h)

c_freed : (E : List Record) (t : ℕ) (q : Block) (ps : List Pending) → AllRemoved E t ps → Comes E t (freed q ps)
c_freed E t q [] h = tt
c_freed E t q (p ∷ ps) h = c_allowed E t _ (Some (Ending ps)) h.1

c_begin : (E : List Record) (t : ℕ) (c : Bool) (w : Working) → w.undos ≡ [] → Comes E t (Some (cond c (Active w) Unbegun))
c_begin E t true w e = rw e tt
c_begin E t false w e = tt

-- behind a block of t
forward_now : (s : Sizes) (E : List Record) (t u : ℕ) (w : Working) (q : Block) → AllFrom E t w.undos → (u == t) ≡ true → Comes (E ++ Forward u q ∷ []) t (forward s t w q)
forward_now s E t u w q h e =
    let same : u ≡ t = eqb-true u t e in
    c_forward s (E ++ Forward u q ∷ []) t w q (all_append (FromBlock (E ++ Forward u q ∷ []) t) w.undos (undo_added q q.undo)
    (all_old E (Forward u q) t w.undos h)
    (subst (λ v. AllFrom (E ++ Forward u q ∷ []) v (undo_added q q.undo)) same (now_added E u q q.undo refl)))

inside : (s : Sizes) (E : List Record) (t : ℕ) (o : Option TxnState) (x : Record) → is_inside x ≡ true → Comes E t o → Comes (E ++ x ∷ []) t (txn_next s t o x)
inside s E t None x k h = tt
inside s E t (Some st) (Format i n) k h = absurd (cc)
inside s E t (Some st) (Restarted rs ds) k h = absurd (cc)
inside s E t (Some Unbegun) (Begin u) k h = c_begin (E ++ Begin u ∷ []) t (u == t) _ refl
inside s E t (Some Unbegun) (Forward u q) k h = c_allowed (E ++ Forward u q ∷ []) t _ (Some Unbegun) tt
inside s E t (Some Unbegun) (Back u q) k h = c_allowed (E ++ Back u q ∷ []) t _ (Some Unbegun) tt
inside s E t (Some Unbegun) (Done u c a) k h = c_allowed (E ++ Done u c a ∷ []) t _ (Some Unbegun) tt
inside s E t (Some Unbegun) (Commit u) k h = c_allowed (E ++ Commit u ∷ []) t _ (Some Unbegun) tt
inside s E t (Some Unbegun) (Ended u) k h = c_allowed (E ++ Ended u ∷ []) t _ (Some Unbegun) tt
inside s E t (Some Unbegun) (Solo u p q) k h = c_test (E ++ Solo u p q ∷ []) t (u == t) _ _ (λ e. c_allowed (E ++ Solo u p q ∷ []) t _ (Some Over) tt) (c_allowed (E ++ Solo u p q ∷ []) t _ (Some Unbegun) tt)
inside s E t (Some Unbegun) AuditBegin k h = tt
inside s E t (Some Unbegun) (AuditClean a) k h = tt
inside s E t (Some Unbegun) (AuditFail a rs) k h = tt
inside s E t (Some (Active w)) (Begin u) k h = c_allowed (E ++ Begin u ∷ []) t _ (Some (Active w)) (all_old E (Begin u) t w.undos h)
inside s E t (Some (Active w)) (Forward u q) k h = c_test (E ++ Forward u q ∷ []) t (u == t) (forward s t w q) (Some (Active w)) (forward_now s E t u w q h) (all_old E (Forward u q) t w.undos h)
inside s E t (Some (Active w)) (Back u q) k h = c_test (E ++ Back u q ∷ []) t (u == t) (back w q (last_of w.undos)) (Some (Active w)) (λ e. c_back (E ++ Back u q ∷ []) t w q (last_of w.undos) (all_old E (Back u q) t w.undos h)) (all_old E (Back u q) t w.undos h)
inside s E t (Some (Active w)) (Done u c a) k h = c_test (E ++ Done u c a ∷ []) t (u == t) _ (Some (Active w)) (λ e. c_allowed (E ++ Done u c a ∷ []) t (is_answer s w c a) (Some (rested w)) (all_old E (Done u c a) t w.undos h)) (all_old E (Done u c a) t w.undos h)
inside s E t (Some (Active w)) (Commit u) k h = c_test (E ++ Commit u ∷ []) t (u == t) _ (Some (Active w)) (λ e. c_allowed (E ++ Commit u ∷ []) t (is_level w) (Some (Ending (dead_of w.undos))) (all_dead (E ++ Commit u ∷ []) t w.undos (all_old E (Commit u) t w.undos h))) (all_old E (Commit u) t w.undos h)
inside s E t (Some (Active w)) (Ended u) k h = c_test (E ++ Ended u ∷ []) t (u == t) _ (Some (Active w)) (λ e. c_allowed (E ++ Ended u ∷ []) t (is_none_left w.undos) (Some Over) tt) (all_old E (Ended u) t w.undos h)
inside s E t (Some (Active w)) (Solo u p q) k h = c_allowed (E ++ Solo u p q ∷ []) t _ (Some (Active w)) (all_old E (Solo u p q) t w.undos h)
inside s E t (Some (Active w)) AuditBegin k h = all_old E AuditBegin t w.undos h
inside s E t (Some (Active w)) (AuditClean a) k h = all_old E (AuditClean a) t w.undos h
inside s E t (Some (Active w)) (AuditFail a rs) k h = all_old E (AuditFail a rs) t w.undos h
inside s E t (Some (Ending ps)) (Begin u) k h = c_allowed (E ++ Begin u ∷ []) t _ (Some (Ending ps)) (all_removed_old E (Begin u) t ps h)
inside s E t (Some (Ending ps)) (Forward u q) k h = c_allowed (E ++ Forward u q ∷ []) t _ (Some (Ending ps)) (all_removed_old E (Forward u q) t ps h)
inside s E t (Some (Ending ps)) (Back u q) k h = c_allowed (E ++ Back u q ∷ []) t _ (Some (Ending ps)) (all_removed_old E (Back u q) t ps h)
inside s E t (Some (Ending ps)) (Done u c a) k h = c_allowed (E ++ Done u c a ∷ []) t _ (Some (Ending ps)) (all_removed_old E (Done u c a) t ps h)
inside s E t (Some (Ending ps)) (Commit u) k h = c_allowed (E ++ Commit u ∷ []) t _ (Some (Ending ps)) (all_removed_old E (Commit u) t ps h)
inside s E t (Some (Ending ps)) (Ended u) k h = c_test (E ++ Ended u ∷ []) t (u == t) _ (Some (Ending ps)) (λ e. c_allowed (E ++ Ended u ∷ []) t (is_none_left ps) (Some Over) tt) (all_removed_old E (Ended u) t ps h)
inside s E t (Some (Ending ps)) (Solo u p q) k h = c_allowed (E ++ Solo u p q ∷ []) t (not (u == t)) _ (c_test (E ++ Solo u p q ∷ []) t (p == t) (freed q ps) (Some (Ending ps)) (λ e. c_freed (E ++ Solo u p q ∷ []) t q ps (all_removed_old E (Solo u p q) t ps h)) (all_removed_old E (Solo u p q) t ps h))
inside s E t (Some (Ending ps)) AuditBegin k h = all_removed_old E AuditBegin t ps h
inside s E t (Some (Ending ps)) (AuditClean a) k h = all_removed_old E (AuditClean a) t ps h
inside s E t (Some (Ending ps)) (AuditFail a rs) k h = all_removed_old E (AuditFail a rs) t ps h
inside s E t (Some Over) (Begin u) k h = c_allowed (E ++ Begin u ∷ []) t _ (Some Over) tt
inside s E t (Some Over) (Forward u q) k h = c_allowed (E ++ Forward u q ∷ []) t _ (Some Over) tt
inside s E t (Some Over) (Back u q) k h = c_allowed (E ++ Back u q ∷ []) t _ (Some Over) tt
inside s E t (Some Over) (Done u c a) k h = c_allowed (E ++ Done u c a ∷ []) t _ (Some Over) tt
inside s E t (Some Over) (Commit u) k h = c_allowed (E ++ Commit u ∷ []) t _ (Some Over) tt
inside s E t (Some Over) (Ended u) k h = c_allowed (E ++ Ended u ∷ []) t _ (Some Over) tt
inside s E t (Some Over) (Solo u p q) k h = c_allowed (E ++ Solo u p q ∷ []) t _ (Some Over) tt
inside s E t (Some Over) AuditBegin k h = tt
inside s E t (Some Over) (AuditClean a) k h = tt
inside s E t (Some Over) (AuditFail a rs) k h = tt

-- ---- all logs
abbrev ComesIn : Sizes → ℕ → List Record → Type 0
ComesIn s t L = (g : Rules) → rules_state s L ≡ Some g → Comes (last_epoch L).records t (txn_state s t L)

abbrev ComesCut : ℕ → Option TxnState → Cut → Type 0
ComesCut t o c = Comes c.now.records t o

restarted : (s : Sizes) (t : ℕ) (o : Option TxnState) (rs ds : List ℕ) (E : List Record) → Comes E t (txn_next s t o (Restarted rs ds))
restarted s t None rs ds E = tt
restarted s t (Some Unbegun) rs ds E = tt
restarted s t (Some (Active w)) rs ds E = tt
restarted s t (Some (Ending ps)) rs ds E = tt
restarted s t (Some Over) rs ds E = tt

at_format : (s : Sizes) (t : ℕ) (L : List Record) (i n : ℕ) → L ≡ [] → ComesCut t (txn_state s t (L ++ Format i n ∷ [])) (cut (L ++ Format i n ∷ []))
at_format s t [] i n e = tt
at_format s t (x ∷ L) i n e = absurd (cc)

comes_push : (s : Sizes) (t : ℕ) (L : List Record) (x : Record) → ComesIn s t L → ComesIn s t (L ++ x ∷ [])
comes_push s t L x ih g e = by_kind x e
  where
    more : (y : Record) → is_inside y ≡ true → rules_state s (L ++ y ∷ []) ≡ Some g → ComesCut t (txn_state s t (L ++ y ∷ [])) (cut (L ++ y ∷ []))
    more y is f =
        let before = rules_before s L y g f in
        subst (λ (c : Cut). ComesCut t (txn_state s t (L ++ y ∷ [])) c) (sym (cut_push L y ∙ step_inside (cut L) y is))
        (subst (λ o. Comes ((cut L).now.records ++ y ∷ []) t o) (sym (txn_state_push s t L y)) (inside s (cut L).now.records t (txn_state s t L) y is (ih before.0 before.1)))

    by_kind : (y : Record) → rules_state s (L ++ y ∷ []) ≡ Some g → ComesCut t (txn_state s t (L ++ y ∷ [])) (cut (L ++ y ∷ []))
    by_kind (Format i n) f = at_format s t L i n (format_first s L i n g f)
    by_kind (Restarted rs ds) f =
        subst (λ o. Comes (cut (L ++ Restarted rs ds ∷ [])).now.records t o) (sym (txn_state_push s t L (Restarted rs ds))) (restarted s t (txn_state s t L) rs ds (cut (L ++ Restarted rs ds ∷ [])).now.records)
    by_kind y f = more y refl f

comes : (s : Sizes) (t : ℕ) (L : List Record) → ComesIn s t L
comes s t = by_push (ComesIn s t) (λ g e. tt) (λ L x ih. comes_push s t L x ih)

-- ---- the rows of a run
spelled_touch : (x : Record) (a : Touch) → touch_of x ≡ Some a → CanBeSpelled x → IsBlock a.block
spelled_touch (Forward u b) a e h = let same : record { txn = u; owner = u; block = b } ≡ a = cc in subst (λ (z : Touch). IsBlock z.block) same h.1
spelled_touch (Solo u p b) a e h = let same : record { txn = u; owner = p; block = b } ≡ a = cc in subst (λ (z : Touch). IsBlock z.block) same h.2
spelled_touch (Back u b) a e h = let same : record { txn = u; owner = u; block = b } ≡ a = cc in subst (λ (z : Touch). IsBlock z.block) same h.1
spelled_touch _ a e h = absurd (cc)

each_spelled : (L : List Record) → ((i : ℕ) (x : Record) → slice_get L i ≡ Some x → CanBeSpelled x) → EachTouch (λ a. IsBlock a.block) L
each_spelled L h i a e = let x = touch_get L i a e in spelled_touch x.0 a x.2 (h i x.0 x.1)

undo_spelled : (o : Option Undo) (u : Undo) → o ≡ Some u → MayBeUndo o → IsUndo u
undo_spelled None u e h = absurd (cc)
undo_spelled (Some v) u e h = subst IsUndo (ap_some e) h
  where
    ap_some : Some v ≡ Some u → v ≡ u
    ap_some q = cc

performed : (bases : Bases) (L : List Record) (c : CoreState) → RunsOn bases L c → (t : ℕ) → IsSome (row_of c.system t)
    → (u : Pending) → FromBlock (last_epoch L).records t u → MayBePerformed c.system t u
performed bases L c run t some u f = subst (MayBePerformed c.system t) (sym f.of) (record {
  spelled = undo_spelled f.touch.block.undo u.undo f.undo is.undo;
  kind = undo_kind c.system.sizes f.touch.block.region f.touch.block.op f.touch.block.outcome u.undo gives (kinds f.place f.touch f.at);
  lock = subst (λ (k : Bool). covers (lock_of c.system t f.touch.block.key) k ≡ true) (undo_changes f.touch.block is (subst IsSome (sym f.undo) refl)) held;
})
  where
    kinds : EachTouch (IsOnKind c.system.sizes) (last_epoch L).records
    kinds = (touches_in_epochs (IsOnKind c.system.sizes) L (rules_kinds c.system.sizes L (subst IsSome (sym run.counts.rules) refl))).1

    is : IsBlock f.touch.block
    is = (touches_in_epochs (λ a. IsBlock a.block) L (each_spelled L run.log.spelled)).1 f.place f.touch f.at

    gives : undoes f.touch.block.op f.touch.block.outcome (Some u.undo) ≡ true
    gives = subst (λ o. undoes f.touch.block.op f.touch.block.outcome o ≡ true) f.undo (and_parts (is_within f.touch.block.write f.touch.block.read && is_outcome_of f.touch.block.op f.touch.block.outcome) (undoes f.touch.block.op f.touch.block.outcome f.touch.block.undo) is.fit).1

    held : holds c.system t f.touch.block ≡ true
    held = subst (λ v. holds c.system v f.touch.block ≡ true) f.owner (holds_its_keys bases L c run f.place f.touch f.at (subst (λ v. IsSome (row_of c.system v)) (sym f.owner) some))

row_performed : (Q : Pending → Type 0) (o : Option TxnState) (row : Option TxnRow) (E : List Record) (t : ℕ) → IsRow o row → Comes E t o → (IsSome row → (u : Pending) → FromBlock E t u → Q u)
    → AllByRecursion Q (option_map_or (λ r. r.undos) row [])
row_performed Q None row E t i h f = absurd i
row_performed Q (Some Unbegun) row E t i h f = rw i tt
row_performed Q (Some (Active w)) row E t i h f = subst (λ (o : Option TxnRow). (IsSome o → (u : Pending) → FromBlock E t u → Q u) → AllByRecursion Q (option_map_or (λ r. r.undos) o [])) (sym i.2) (λ g. all_weaker (FromBlock E t) Q w.undos (g refl) h) f
row_performed Q (Some (Ending ps)) row E t i h f = rw i tt
row_performed Q (Some Over) row E t i h f = rw i tt

pub undos_may_be_performed : UndosMayBePerformed
undos_may_be_performed bases L c run t =
    row_performed (MayBePerformed c.system t) (txn_state c.system.sizes t L) (row_of c.system t) (last_epoch L).records t (run.table t)
    (comes c.system.sizes t L run.counts.now run.counts.rules) (performed bases L c run t)

-- ---- and the removals of a committed transaction
row_of_ending : (o : Option TxnState) (row : Option TxnRow) (us : List Pending) → IsRow o row → o ≡ Some (Ending us) → IsSome row
row_of_ending None row us i e = absurd i
row_of_ending (Some (Ending ps)) row us i e = subst IsSome (sym i) refl
row_of_ending (Some o) row us i e = absurd (cc)

pub removals_may_be_performed : RemovalsMayBePerformed
removals_may_be_performed bases L c run t us ending =
    all_weaker (FromRemoval (last_epoch L).records t) (λ (u : Pending). (is_removal u.undo ≡ true) × MayBePerformed c.system t u) us
    (λ u from. (from.1, performed bases L c run t (row_of_ending (txn_state c.system.sizes t L) (row_of c.system t) us (run.table t) ending) u from.0))
    (subst (Comes (last_epoch L).records t) ending (comes c.system.sizes t L run.counts.now run.counts.rules))
