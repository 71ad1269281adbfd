-- The invariant holds after each record of a list that keeps the law's premises.
use Rattle.std.proofs.Common.{◌≡◌, ℕ, ◌+◌, ◌<◌, Bool, true, false, not, List, [], ◌∷◌, ◌++◌, length, Some, None, refl, ap, sym, subst, ◌∙◌, arith}
use Rattle.std.specs.Prelude.{◌==◌, ◌&&◌, ◌||◌, if◌then◌else◌, IsSome, bytes_eq}
use Rattle.std.proofs.lemmas.Bool.Decides.{nat_tests}
use Rattle.std.proofs.lemmas.Bool.{eqb-true, eq-eqb, and_parts}
use Rattle.std.proofs.lemmas.Slice.Eq.{bytes_eq-Decides}
use Rattle.dali_lists.proofs.Options.{some_of}
use Rattle.dali_geometry.specs.Sizes.{Sizes}
use Rattle.dali_geometry.specs.Places.{is_index, is_heap}
use Rattle.dali_record.specs.declared.operations.Op.{Op}
use Rattle.dali_record.specs.declared.operations.Op.TheVariants.{Look, Add, KillEntry, Put, Read, Change, KillCell, FreeCell, ReviveCell, Restore, FreeEntry, ReviveEntry}
use Rattle.dali_record.specs.declared.operations.Pending.{Pending}
use Rattle.dali_record.specs.declared.operations.Block.{Block}
use Rattle.dali_record.specs.declared.records.Call.{Call}
use Rattle.dali_record.specs.declared.records.Answer.{Answer}
use Rattle.dali_record.specs.Calls.{Fresh}
use Rattle.dali_record.specs.declared.records.Record.{Record}
use Rattle.dali_record.specs.declared.records.Record.TheVariants.{Format, Begin, Forward, Done, Commit, Ended, Solo, AuditBegin, AuditClean, AuditFail, Restarted, Back}
use Rattle.dali_record.specs.Log.{last_of}
use Rattle.dali_record.specs.Legal.{Onward, Working, TxnState, Unbegun, Active, Over, concerns, on_kind, forward, back, is_of, same_op, is_answer, is_level, dead_of, allowed, Committed as IsOver}
use Rattle.dali_record.proofs.Pushes.{txn_step-other}
use Rattle.dali_access.specs.Index.Invariant.{IsImage}
use Rattle.dali_history.specs.Kept.Kept.{kept_state, kept_step, kept_next, freed_later}
use Rattle.dali_access.proofs.IndexLemmas.Worlds.{World, Flags}
use Rattle.dali_history.proofs.SlotsLemmas.BlockOnSlots.{Does, IsRegion}
use Rattle.dali_history.proofs.KeptLemmas.WithoutLast.{kept_state_push}

-- ---- a transaction that the record doesn't concern
pub step_beside : (s : Sizes) (t : ℕ) (x : TxnState) (r : Record) → concerns t r ≡ false → kept_step s t x r ≡ Some x
step_beside s t Unbegun r e = txn_step-other s t Unbegun r e
step_beside s t (Active w) r e = txn_step-other s t (Active w) r e
step_beside s t Over r e = txn_step-other s t Over r e
step_beside s t (IsOver ps) (Ended u) e = rw e refl
step_beside s t (IsOver ps) (Solo u p b) e = go (u == t) (p == t) e
  where
    go : (c d : Bool) → (c || d) ≡ false → allowed (not c) (if d then freed_later b ps else Some (IsOver ps)) ≡ Some (IsOver ps)
    go true d h = absurd (cc (h))
    go false true h = absurd (cc (h))
    go false false h = refl
step_beside s t (IsOver ps) (Format i h) e = txn_step-other s t (IsOver ps) (Format i h) e
step_beside s t (IsOver ps) (Begin u) e = txn_step-other s t (IsOver ps) (Begin u) e
step_beside s t (IsOver ps) (Forward u b) e = txn_step-other s t (IsOver ps) (Forward u b) e
step_beside s t (IsOver ps) (Done u c a) e = txn_step-other s t (IsOver ps) (Done u c a) e
step_beside s t (IsOver ps) (Commit u) e = txn_step-other s t (IsOver ps) (Commit u) e
step_beside s t (IsOver ps) AuditBegin e = txn_step-other s t (IsOver ps) AuditBegin e
step_beside s t (IsOver ps) (AuditClean b) e = txn_step-other s t (IsOver ps) (AuditClean b) e
step_beside s t (IsOver ps) (AuditFail b rs) e = txn_step-other s t (IsOver ps) (AuditFail b rs) e
step_beside s t (IsOver ps) (Restarted rs ds) e = txn_step-other s t (IsOver ps) (Restarted rs ds) e
step_beside s t (IsOver ps) (Back u b) e = txn_step-other s t (IsOver ps) (Back u b) e

pub state_beside : (s : Sizes) (t : ℕ) (J : List Record) (r : Record) → IsSome (kept_state s t J) → concerns t r ≡ false → kept_state s t (J ++ r ∷ []) ≡ kept_state s t J
state_beside s t J r h e = let x = some_of (kept_state s t J) h in kept_state_push s t J r ∙ ap (λ o. kept_next s t o r) x.1 ∙ step_beside s t x.0 r e ∙ sym x.1

-- ---- what a transaction's own record says of its state
-- refused, where it is no record of a running one
abbrev RunsOn : TxnState → Type 0
RunsOn x = (w : Working) × (x ≡ Active w)

pub refused : (t : ℕ) (x y : TxnState) → allowed (not (t == t)) (Some x) ≡ Some y → ⊥
refused t x y e = let no : None ≡ Some y = rw (eq-eqb t t refl) at e in cc (no)

pub forward_state : (s : Sizes) (t : ℕ) (x y : TxnState) (b : Block) → kept_step s t x (Forward t b) ≡ Some y → (w : Working) × (x ≡ Active w) × (forward s t w b ≡ Some y)
forward_state s t Unbegun y b e = absurd (refused t Unbegun y e)
forward_state s t (Active w) y b e = (w, refl, rw (eq-eqb t t refl) at e)
forward_state s t (IsOver ps) y b e = absurd (refused t (IsOver ps) y e)
forward_state s t Over y b e = absurd (refused t Over y e)

pub back_state : (s : Sizes) (t : ℕ) (x y : TxnState) (b : Block) → kept_step s t x (Back t b) ≡ Some y → (w : Working) × (x ≡ Active w) × (back w b (last_of w.undos) ≡ Some y)
back_state s t Unbegun y b e = absurd (refused t Unbegun y e)
back_state s t (Active w) y b e = (w, refl, rw (eq-eqb t t refl) at e)
back_state s t (IsOver ps) y b e = absurd (refused t (IsOver ps) y e)
back_state s t Over y b e = absurd (refused t Over y e)

pub commit_state : (s : Sizes) (t : ℕ) (x y : TxnState) → kept_step s t x (Commit t) ≡ Some y → (w : Working) × (x ≡ Active w) × (allowed (is_level w) (Some (IsOver (dead_of w.undos))) ≡ Some y)
commit_state s t Unbegun y e = absurd (refused t Unbegun y e)
commit_state s t (Active w) y e = (w, refl, rw (eq-eqb t t refl) at e)
commit_state s t (IsOver ps) y e = absurd (refused t (IsOver ps) y e)
commit_state s t Over y e = absurd (refused t Over y e)

pub done_state : (s : Sizes) (t : ℕ) (x y : TxnState) (c : Call) (a : Answer) → kept_step s t x (Done t c a) ≡ Some y → (w : Working) × (x ≡ Active w) × (allowed (is_answer s w c a) (Some (Active (record { undos = w.undos; mark = length w.undos; progress = Fresh; way = Onward }))) ≡ Some y)
done_state s t Unbegun y c a e = absurd (refused t Unbegun y e)
done_state s t (Active w) y c a e = (w, refl, rw (eq-eqb t t refl) at e)
done_state s t (IsOver ps) y c a e = absurd (refused t (IsOver ps) y e)
done_state s t Over y c a e = absurd (refused t Over y e)

-- ---- regions
pub region_within : (s : Sizes) (r : ℕ) (op : Op) → on_kind s r op ≡ true → r < s.index + s.heap
region_within s r op h = go op h
  where
    of_index : is_index s r ≡ true → r < s.index + s.heap
    of_index x = low s r x
      where
        low : (z : Sizes) (q : ℕ) → is_index z q ≡ true → q < z.index + z.heap
        low z q x = grind (arith, nat_tests)

    of_heap : is_heap s r ≡ true → r < s.index + s.heap
    of_heap x = low s r x
      where
        low : (z : Sizes) (q : ℕ) → is_heap z q ≡ true → q < z.index + z.heap
        low z q x = grind (arith, nat_tests)

    go : (o : Op) → on_kind s r o ≡ true → r < s.index + s.heap
    go Look x = of_index x
    go (Add p) x = of_index x
    go (KillEntry e) x = of_index x
    go (FreeEntry e) x = of_index x
    go (ReviveEntry e) x = of_index x
    go (Put v) x = of_heap x
    go (Read c) x = of_heap x
    go (Change c v) x = of_heap x
    go (KillCell c) x = of_heap x
    go (FreeCell c) x = of_heap x
    go (ReviveCell c) x = of_heap x
    go (Restore c n vs) x = of_heap x

pub image_region : (s : Sizes) (image : List (List ℕ)) (r : ℕ) → IsImage s image → r < s.index + s.heap → IsRegion s image r
image_region s image r h below = (omega (arith, h.count, below), h.words r below)

-- ---- blocks that take back or free
pub same_op_is : (a b : Op) → same_op a b ≡ true → a ≡ b
same_op_is (FreeCell c) (FreeCell d) h = let e : c ≡ d = eqb-true c d h in cc (e)
same_op_is (ReviveCell c) (ReviveCell d) h = let e : c ≡ d = eqb-true c d h in cc (e)
same_op_is (Restore c n vs) (Restore d m ws) h =
    let x = and_parts ((c == d) && (n == m)) (bytes_eq vs ws) h in
    let y = and_parts (c == d) (n == m) x.0 in
    let e : c ≡ d = eqb-true c d y.0 in
    let f : n ≡ m = eqb-true n m y.1 in
    let g : vs ≡ ws = (bytes_eq-Decides vs ws).0 x.1 in
    cc (e, f, g)
same_op_is (FreeEntry c) (FreeEntry d) h = let e : c ≡ d = eqb-true c d h in cc (e)
same_op_is (ReviveEntry c) (ReviveEntry d) h = let e : c ≡ d = eqb-true c d h in cc (e)
same_op_is _ _ h = absurd (cc (h))

pub is_of_is : (op : Op) (p : Pending) (b : Block) → is_of op p b ≡ true → (b.key ≡ p.key) × (b.region ≡ p.region) × (b.op ≡ op)
is_of_is op p b h =
    let x = and_parts ((b.key == p.key) && (b.region == p.region)) (same_op b.op op) h in
    let y = and_parts (b.key == p.key) (b.region == p.region) x.0 in
    (eqb-true b.key p.key y.0, eqb-true b.region p.region y.1, same_op_is b.op op x.1)

-- the effect of such a block, said of the undo's item
pub does_of : (W V : World) (F G : Flags) (op : Op) (p : Pending) (b : Block) → is_of op p b ≡ true → Does W F V G b.key b.region b.op b.outcome b.undo → Does W F V G p.key p.region op b.outcome b.undo
does_of W V F G op p b h d =
    let x = is_of_is op p b h in
    subst (λ o. Does W F V G p.key p.region o b.outcome b.undo) x.2 (subst (λ r. Does W F V G p.key r b.op b.outcome b.undo) x.1 (subst (λ k. Does W F V G k b.region b.op b.outcome b.undo) x.0 d))
