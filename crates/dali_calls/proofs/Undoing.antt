-- The operation of an undo, from its latch to its record; and the undo that is last.
use Rattle.std.proofs.Common.{◌≡◌, ℕ, suc, ◌-◌, ◌<◌, Bool, true, false, List, [], ◌∷◌, ◌++◌, Option, Some, None, IsSomeAnd, IfSome, refl, sym, ap, subst, ◌∙◌, arith, length}
use Rattle.std.specs.Prelude.{◌^◌, if◌then◌else◌, nat_lt}
use Rattle.std.proofs.lemmas.Bool.{lt-ltb}
use Rattle.dali_record.specs.declared.operations.Block.{Block}
use Rattle.dali_record.specs.declared.operations.Pending.{Pending}
use Rattle.dali_record.specs.Log.{last_of, drop_last}
use Rattle.dali_region.specs.State.{RegionState, touched, taken_back}
use Rattle.dali_att.specs.Table.{undos_at, last_of as table_last}
use Rattle.dali_runs.specs.Steps.{back_logged}
use Rattle.dali_runs.specs.Regions.{RegionStep, TakeBack as TakesRegionBack, IsOpen}
use Rattle.dali_runs.proofs.Tables.{last_same}
use Rattle.dali_system.specs.declared.operation.Operation.{Operation}
use Rattle.dali_system.specs.declared.take_back.TakeBack.{TakeBack}
use Rattle.dali_system.specs.declared.want.Want.TheVariants.{Region}
use Rattle.dali_system.specs.TakenBack.{next_undo, want_of, IsUndoBlock, IsUndoOn}
use Rattle.dali_system.specs.Served.{Served}
use Rattle.dali_system.specs.UnderWay.{OneIsUnderWay}
use Rattle.dali_system.proofs.UnderWays.{IsSameWay, IsMadeBack}
use Rattle.dali_calls.specs.Operating.{IsHeldBy, AreWritten, Goes, IsTakenBack, Undone}
use Rattle.dali_calls.proofs.Operating.{opened_by, goes_on, held_open}

-- ---- the operation of an undo
pub record Rewritten (p : TakeBack) (g : RegionState) (q : TakeBack) (h : RegionState) : Type 0 where
  pub operation : Operation
  pub is : q ≡ record p { operation = Some operation }
  pub txn : operation.txn ≡ p.txn
  pub of : IsUndoBlock p.next operation.block
  pub on : IsUndoOn g.words p.next operation.block
  pub steps : List RegionStep
  pub goes : Goes p.txn g steps h
  pub is_open : IsOpen h operation.txn operation.block

-- on the region's own words
abbrev pub IsMadeOn : TakeBack → RegionState → Option Operation → Type 0
IsMadeOn p g o = IsSomeAnd o (λ o. IsUndoOn g.words p.next o.block)

pub way_back_of : (p : TakeBack) (g : RegionState) (o : Option Operation) (g1 : RegionState) → IsMadeBack p g o g1 → OneIsUnderWay o g1
way_back_of p g None g1 m = absurd m
way_back_of p g (Some o) g1 m = m.2

reads_fit : (o : Option Pending) (b : Block) → IsUndoBlock o b → b.read < 2 ^ 64
reads_fit None b h = absurd h
reads_fit (Some u) b h = h.spelled.read

pub rewritten : (p p1 p2 : TakeBack) (g g1 g2 : RegionState) → g.hold ≡ None → IsMadeBack p g p1.operation g1 → IsMadeOn p g p1.operation → p1 ≡ record p { operation = p1.operation }
    → IsSomeAnd p2.operation (λ o. IsOpen g2 o.txn o.block) → IsSameWay p1.operation p2.operation → p2 ≡ record p1 { operation = p2.operation } → AreWritten g1 g2
    → Rewritten p g p2 g2
rewritten p p1 p2 g g1 g2 free made on one opened same two w = by_both p1.operation p2.operation refl refl made on opened same
  where
    by_both : (a b : Option Operation) → p1.operation ≡ a → p2.operation ≡ b → IsMadeBack p g a g1 → IsMadeOn p g a → IsSomeAnd b (λ o. IsOpen g2 o.txn o.block) → IsSameWay a b → Rewritten p g p2 g2
    by_both None b i j m n o s = absurd m
    by_both (Some a) None i j m n o s = absurd o
    by_both (Some a) (Some b) i j m n o s =
        let goes = opened_by p.txn a.block g g1 g2 free (reads_fit p.next a.block m.1) m.3 w in
        record {
          operation = b;
          is = two ∙ (ap (λ (x : TakeBack). record x { operation = p2.operation }) one ∙ ap (λ (x : Option Operation). record p { operation = x }) j);
          txn = s.0 ∙ m.0;
          of = subst (IsUndoBlock p.next) (sym s.1) m.1;
          on = subst (IsUndoOn g.words p.next) (sym s.1) n;
          steps = goes.0;
          goes = goes.1;
          is_open = o;
        }

pub is_taken_back : (p q : TakeBack) (g h k : RegionState) → Rewritten p g q h → k ≡ taken_back h → IsTakenBack p.txn g k
is_taken_back p q g h k w is =
    let held = held_open h w.operation.txn w.operation.block w.is_open in
    (w.steps ++ TakesRegionBack ∷ [], goes_on p.txn g h k w.steps (TakesRegionBack ∷ []) w.goes (held.1, subst (λ (n : ℕ). IsHeldBy n h) w.txn held.0, sym is), ap (λ (x : RegionState). x.hold) is)

pub promise_kept : (p q : TakeBack) (g h k : RegionState) (y z : Served) → Rewritten p g q h → IfSome q.operation (λ o. (z ≡ record y { state = back_logged y.state q.txn o.block }) × (k ≡ touched h)) → z.promised ≡ y.promised
promise_kept p q g h k y z w ok =
    ap (λ (x : Served). x.promised) (subst (λ (x : TakeBack). IfSome x.operation (λ o. (z ≡ record y { state = back_logged y.state x.txn o.block }) × (k ≡ touched h))) w.is ok).0

pub undone : (p q r : TakeBack) (g h k : RegionState) (y z : Served) → Rewritten p g q h
    → IfSome q.operation (λ o. (z ≡ record y { state = back_logged y.state q.txn o.block }) × (k ≡ touched h))
    → r ≡ record q { next = next_undo (undos_at z.state.table q.txn) q.down_to; operation = None } → y.state.stop ≡ None
    → Undone p g y.state r k z.state
undone p q r g h k y z w ok next runs =
    let now : (z ≡ record y { state = back_logged y.state p.txn w.operation.block }) × (k ≡ touched h) = subst (λ (x : TakeBack). IfSome x.operation (λ o. (z ≡ record y { state = back_logged y.state x.txn o.block }) × (k ≡ touched h))) w.is ok in
    record {
      block = w.operation.block;
      of = w.of;
      on = w.on;
      opened = h;
      steps = w.steps;
      goes = w.goes;
      is_open = subst (λ (t : ℕ). IsOpen h t w.operation.block) w.txn w.is_open;
      region = now.1;
      runs = runs;
      system = ap (λ (x : Served). x.state) now.0;
      next = next ∙ ap (λ (x : TakeBack). record x { next = next_undo (undos_at z.state.table x.txn) x.down_to; operation = None }) w.is;
    }

-- ---- the last undo
pub next_last : (us : List Pending) (u : Pending) → next_undo us 0 ≡ Some u → last_of us ≡ Some u
next_last us u e = by_test (nat_lt 0 (length us)) refl
  where
    by_test : (b : Bool) → nat_lt 0 (length us) ≡ b → last_of us ≡ Some u
    by_test true i = sym (last_same us) ∙ (sym (ap (λ (b : Bool). if b then table_last us else None) i) ∙ e)
    by_test false i = absurd (never (sym (ap (λ (b : Bool). if b then table_last us else None) i) ∙ e))
      where
        never : (let n : Option Pending = None in n ≡ Some u) → ⊥
        never f = cc

pub drop_one : (us : List Pending) (u : Pending) → last_of us ≡ Some u → length (drop_last us) < length us
drop_one [] u e = absurd (never e)
  where
    never : (let n : Option Pending = None in n ≡ Some u) → ⊥
    never f = cc
drop_one (v ∷ []) u e = omega arith
drop_one (v ∷ w ∷ us) u e = omega (arith, drop_one (w ∷ us) u e)

-- ---- what the plan wants
pub wanted_undo : (o : Option Pending) (r : ℕ) → Region r ≡ want_of o → (u : Pending) × (o ≡ Some u) × (u.region ≡ r)
wanted_undo None r e = absurd cc
wanted_undo (Some u) r e = (u, refl, cc)

-- all undos of t are to be taken back, the last one first
abbrev pub TakesAllBack : TakeBack → ℕ → List Pending → Type 0
TakesAllBack b t us = (b.txn ≡ t) × (b.down_to ≡ 0) × (b.next ≡ next_undo us 0)

pub none_wanted : (us : List Pending) (o : Option Pending) → o ≡ next_undo us 0 → ((r : ℕ) → want_of o ≡ Region r → ⊥) → us ≡ []
none_wanted [] o e f = refl
none_wanted (u ∷ us) o e f = absurd (some (table_last (u ∷ us)) refl (last_some u us))
  where
    last_some : (v : Pending) (vs : List Pending) → (w : Pending) × (table_last (v ∷ vs) ≡ Some w)
    last_some v [] = (v, refl)
    last_some v (x ∷ vs) = let rest = last_some x vs in let n : length (v ∷ x ∷ vs) - 1 ≡ suc (length (x ∷ vs) - 1) = omega arith in (rest.0, rw n rest.1)

    test : nat_lt 0 (length (u ∷ us)) ≡ true
    test = lt-ltb 0 (length (u ∷ us)) (omega arith)

    some : (p : Option Pending) → table_last (u ∷ us) ≡ p → (w : Pending) × (table_last (u ∷ us) ≡ Some w) → ⊥
    some p i w = f w.0.region (ap want_of (e ∙ (ap (λ (b : Bool). if b then table_last (u ∷ us) else None) test ∙ w.1)))
