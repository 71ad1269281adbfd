-- A plan goes on by one operation.
use Rattle.std.proofs.Common.{inl, inr, ◌≡◌, ℕ, Bool, true, false, List, [], ◌∷◌, ◌++◌, Option, Some, None, IsSome, refl, sym, ap, subst, ◌∙◌, append_assoc, length, slice_get, slice_set, option_map}
use Rattle.std.proofs.lemmas.List.{append-nil, set-set}
use Rattle.std.specs.Prelude.{◌==◌}
use Rattle.std.specs.FinMap.{get}
use Rattle.std.proofs.lemmas.List.{length-set}
use Rattle.dali_lists.proofs.Lists.{set_same, get_set}
use Rattle.dali_geometry.specs.Sizes.{Sizes}
use Rattle.dali_geometry.specs.Places.{regions}
use Rattle.dali_record.specs.declared.operations.Op.{Op}
use Rattle.dali_record.specs.declared.operations.Undo.{Undo}
use Rattle.dali_record.specs.declared.operations.Block.{Block}
use Rattle.dali_record.specs.declared.operations.Pending.{Pending}
use Rattle.dali_record.specs.declared.records.Record.{Record}
use Rattle.dali_record.specs.declared.records.Record.TheVariants.{Forward, Back}
use Rattle.dali_record.specs.Log.{last_of, drop_last, undo_added}
use Rattle.dali_region.specs.State.{RegionState, touched}
use Rattle.dali_att.specs.declared.state.State.{State}
use Rattle.dali_att.specs.declared.state.State.TheVariants.{Live}
use Rattle.dali_att.specs.Table.{Table, undos_at, with_row, with_undo, without_last}
use Rattle.dali_runs.specs.State.{TxnRow, SystemState, VaultState, CoreState, row_of, state_of, state_in}
use Rattle.dali_runs.specs.Steps.{op_logged, back_logged, undo_kept}
use Rattle.dali_runs.specs.Keeps.{HasRoom, IsFree, with_region, with_touched}
use Rattle.dali_runs.specs.Regions.{RegionStep, IsOpen, is_alive}
use Rattle.dali_runs.specs.Courses.{Step, Operates, TakesBack, IsStep}
use Rattle.dali_runs.proofs.Tables.{but_last}
use Rattle.dali_system.specs.declared.operation.Operation.{Operation}
use Rattle.dali_system.proofs.Guards.{some_row}
use Rattle.dali_calls.specs.Steps.{call_key, IsBlockOf}
use Rattle.dali_calls.specs.Plans.{Planned, plan_next, undo_next, is_back, went_back, with_operation, GoesOn, IsWhole}
use Rattle.dali_calls.specs.Followed.{Follows, HoldsCall, IsReady}
use Rattle.dali_calls.specs.Operating.{Goes}
use Rattle.dali_calls.proofs.Wholes.{back_next}
use Rattle.dali_calls.proofs.Following.{onward_follows, back_follows, drop_append}
use Rattle.dali_calls.proofs.Stepping.{onward_is_step, back_is_step}
use Rattle.dali_calls.proofs.Operating.{steps_on, held_open}
use Rattle.dali_calls.proofs.Rows.{row_here, row_apart, undos_in}
use Rattle.dali_calls.specs.Single.Stands.{core, IsAtRest, AtPlan}
use Rattle.dali_calls.specs.Single.Operated.{Operated, IsLeftOf}
use Rattle.dali_calls.specs.Single.Single.{is_end, IsOwnStep, Look, IsRightOn, LooksRight, Leads}
use Rattle.dali_calls.specs.Single.Advanced.{Led, Advanced}
use Rattle.dali_calls.proofs.SingleLemmas.Leading.{leads_on, one_step, leads_looked, leads_there, stays_free, free_unheld}

-- ---- the row of the transaction
-- a change that leaves the state, and whose undos are those of g
pub record Changes (old new : Option TxnRow) (us vs : List Pending) : Type 0 where
  pub there : IsSome old → IsSome new
  pub state : state_in new ≡ state_in old
  pub undos : undos_in old ≡ us → IsSome old → undos_in new ≡ vs

changes_added : (row : Option TxnRow) (us : List Pending) (u : Pending) → Changes row (option_map (with_undo u) row) us (us ++ u ∷ [])
changes_added None us u = record { there = λ h. h; state = refl; undos = λ e h. absurd cc }
changes_added (Some r) us u = record { there = λ h. refl; state = refl; undos = λ e h. ap (λ (l : List Pending). l ++ u ∷ []) e }

changes_none : (row : Option TxnRow) (us : List Pending) → Changes row row us (us ++ [])
changes_none row us = record { there = λ h. h; state = refl; undos = λ e h. e ∙ sym (append-nil us) }

changes_kept : (m : Table Pending) (t : ℕ) (b : Block) (o : Option Undo) (us : List Pending) → Changes (get m t) (get (undo_kept m t b o) t) us (us ++ undo_added b o)
changes_kept m t b None us = changes_none (get m t) us
changes_kept m t b (Some u) us =
    subst (λ (row : Option TxnRow). Changes (get m t) row us (us ++ undo_added b (Some u))) (sym (row_here m t (with_undo (record { key = b.key; region = b.region; undo = u })))) (changes_added (get m t) us (record { key = b.key; region = b.region; undo = u }))

changes_popped_in : (row : Option TxnRow) (us : List Pending) → Changes row (option_map without_last row) us (drop_last us)
changes_popped_in None us = record { there = λ h. h; state = refl; undos = λ e h. absurd cc }
changes_popped_in (Some r) us = record { there = λ h. refl; state = refl; undos = λ e h. but_last r.undos ∙ ap drop_last e }

pub changes_popped : (m : Table Pending) (t : ℕ) (us : List Pending) → Changes (get m t) (get (with_row m t without_last) t) us (drop_last us)
changes_popped m t us = subst (λ (row : Option TxnRow). Changes (get m t) row us (drop_last us)) (sym (row_here m t without_last)) (changes_popped_in (get m t) us)

-- ---- the rows of others
pub kept_apart : (m : Table Pending) (t u : ℕ) (b : Block) (o : Option Undo) → (t == u) ≡ false → get (undo_kept m t b o) u ≡ get m u
kept_apart m t u b None e = refl
kept_apart m t u b (Some w) e = row_apart m t u (with_undo (record { key = b.key; region = b.region; undo = w })) e

pub row_there : (y : SystemState) (t : ℕ) (s : State) → state_of y t ≡ Some s → IsSome (row_of y t)
row_there y t s e = some_row (row_of y t) s e

-- ---- one operation, in a core
pub alive : (o : Option State) → o ≡ Some Live → is_alive o ≡ true
alive o e = ap is_alive e

abbrev open_now : Planned → Block → Operation
open_now p b = record { txn = p.txn; block = b; left = 0; taken = 0 }

whole_now : (p : Planned) (b : Block) → IsWhole p → IsBlockOf (plan_next p) (call_key p.call) b → IsWhole (with_operation p (Some (open_now p b)))
whole_now p b w of = record { sizes = w.sizes; txn = w.txn; call = w.call; at = w.at; undoes = w.undoes; few = w.few; gets = w.gets; operation = (refl, of) }

follows_now : (s : Sizes) (L : List Record) (p : Planned) (o : Option Operation) → Follows s L p → Follows s L (with_operation p o)
follows_now s L p o f = record { working = f.working; at_work = f.at_work; before = f.before; undos = f.undos; rests = f.rests; progress = f.progress; mark = f.mark; winds = f.winds; onward = f.onward }

goes_now : (p q : Planned) (b : Block) (o : Option Operation) → GoesOn p b q → GoesOn (with_operation p o) b q
goes_now p q b o g = record { follows = g.follows; begun = g.begun; changes = g.changes; rest = g.rest }

ready_now : (c : CoreState) (p : Planned) (b : Block) (opened : RegionState) → p.geometry ≡ c.system.sizes → IsWhole p → IsBlockOf (plan_next p) (call_key p.call) b
    → state_of c.system p.txn ≡ Some Live → HoldsCall c.system p → slice_get c.regions b.region ≡ Some opened → IsOpen opened p.txn b
    → IsReady c (with_operation p (Some (open_now p b))) (open_now p b) opened
ready_now c p b opened sizes w of lives holds at is = record { sizes = sizes; whole = whole_now p b w of; lives = lives; holds = holds; is_open = refl; at = at; written = is }

-- the steps on the region, and the step that logs
pub both_steps : (precheck asks : Bool) (L M : List Record) (rs : List RegionState) (y z : SystemState) (v : VaultState) (t r : ℕ) (g opened : RegionState) (xs : List RegionStep) (x : Step) (b : Block)
    → state_of y t ≡ Some Live → IsFree (core rs y v) t → slice_get rs r ≡ Some g → Goes t g xs opened → IsOpen opened t b → (asks ≡ true → g.stray ≡ 0)
    → IsOwnStep t (with_region (core rs y v) r opened) x → is_end x ≡ false → ((o : Look) → (asks ≡ true → IsRightOn r o) → LooksRight precheck o x)
    → IsStep L (with_region (core rs y v) r opened) x M (with_touched (with_region (core rs y v) r opened) z r opened)
    → Leads precheck t L (core rs y v) (steps_on r xs ++ x ∷ []) M (core (slice_set rs r (touched opened)) z v)
both_steps precheck asks L M rs y z v t r g opened xs x b lives free at goes is clean own quiet looks step =
    leads_looked precheck asks L M (core rs y v) (core (slice_set rs r (touched opened)) z v) t r g opened xs x (alive (state_of y t) lives) at goes (free_unheld (core rs y v) t r g free at) (held_open opened t b is).0 clean
    (λ o right. one_step precheck t o L M (with_region (core rs y v) r opened) (core (slice_set rs r (touched opened)) z v) x
    (subst (λ (gs : List RegionState). IsStep L (with_region (core rs y v) r opened) x M (core gs z v)) (set-set rs r opened (touched opened)) step) own quiet (looks o right))

onward_led : (precheck : Bool) (L : List Record) (rs : List RegionState) (y : SystemState) (v : VaultState) (p q : Planned) (b : Block) (g opened : RegionState) (xs : List RegionStep)
    → IsWhole p → p.geometry ≡ y.sizes → IsBlockOf (plan_next p) (call_key p.call) b → is_back p ≡ false
    → slice_get rs b.region ≡ Some g → Goes p.txn g xs opened → IsOpen opened p.txn b → HasRoom y (Forward p.txn b) → GoesOn p b q
    → state_of y p.txn ≡ Some Live → (precheck ≡ true → g.stray ≡ 0) → AtPlan L (core rs y v) p → Led precheck p.txn L (core rs y v) (core (slice_set rs b.region (touched opened)) (op_logged y p.txn b) v) q
onward_led precheck L rs y v p q b g opened xs w sizes of way at goes is room on lives checked plan =
    let c = with_region (core rs y v) b.region opened in
    let now = with_operation p (Some (open_now p b)) in
    let here = get_set rs b.region g opened at in
    let step = onward_is_step L c now (open_now p b) opened (ready_now c p b opened sizes w of lives plan.holds here is) (follows_now y.sizes L p (Some (open_now p b)) plan.follows) way room q (goes_now p q b (Some (open_now p b)) on) in
    let txn : q.txn ≡ p.txn = ap (λ (z : Planned). z.txn) on.rest in
    let call = ap (λ (z : Planned). z.call) on.rest in
    record {
      log = L ++ Forward p.txn b ∷ [];
      steps = steps_on b.region xs ++ Operates p.txn b ∷ [];
      leads = both_steps precheck precheck L (L ++ Forward p.txn b ∷ []) rs y (op_logged y p.txn b) v p.txn b.region g opened xs (Operates p.txn b) b lives plan.free at goes is checked refl refl (λ o right. right) step;
      at = record {
        follows = onward_follows y.sizes L p q b sizes w plan.follows way of on;
        holds = subst (λ (z : Planned). HoldsCall (op_logged y p.txn b) z) (sym on.rest) plan.holds;
        free = subst (IsFree (core (slice_set rs b.region (touched opened)) (op_logged y p.txn b) v)) (sym txn) (stays_free (core rs y v) (core (slice_set rs b.region (touched opened)) (op_logged y p.txn b) v) p.txn b.region g (touched opened) plan.free at refl refl);
      };
    }

back_led : (precheck : Bool) (L : List Record) (rs : List RegionState) (y : SystemState) (v : VaultState) (p : Planned) (b : Block) (g opened : RegionState) (xs : List RegionStep)
    → IsWhole p → p.geometry ≡ y.sizes → IsBlockOf (plan_next p) (call_key p.call) b → is_back p ≡ true
    → slice_get rs b.region ≡ Some g → Goes p.txn g xs opened → IsOpen opened p.txn b → y.stop ≡ None
    → state_of y p.txn ≡ Some Live → AtPlan L (core rs y v) p → Led precheck p.txn L (core rs y v) (core (slice_set rs b.region (touched opened)) (back_logged y p.txn b) v) (went_back p)
back_led precheck L rs y v p b g opened xs w sizes of way at goes is runs lives plan =
    let c = with_region (core rs y v) b.region opened in
    let now = with_operation p (Some (open_now p b)) in
    let here = get_set rs b.region g opened at in
    let step = back_is_step L c now (open_now p b) opened (ready_now c p b opened sizes w of lives plan.holds here is) (follows_now y.sizes L p (Some (open_now p b)) plan.follows) way runs in
    record {
      log = L ++ Back p.txn b ∷ [];
      steps = steps_on b.region xs ++ TakesBack p.txn b ∷ [];
      leads = both_steps precheck false L (L ++ Back p.txn b ∷ []) rs y (back_logged y p.txn b) v p.txn b.region g opened xs (TakesBack p.txn b) b lives plan.free at goes is (λ e. absurd (cc)) refl refl (λ o right. tt) step;
      at = record {
        follows = back_follows y.sizes L p b sizes w plan.follows way of;
        holds = plan.holds;
        free = stays_free (core rs y v) (core (slice_set rs b.region (touched opened)) (back_logged y p.txn b) v) p.txn b.region g (touched opened) plan.free at refl refl;
      };
    }

-- ---- one operation, of regions and system
is_last : (us : List Pending) (b : Block) → undo_next (last_of us) ≡ Some (b.region, b.op) → (u : Pending) × (last_of us ≡ Some u)
is_last us b e = by_last (last_of us) refl
  where
    by_last : (o : Option Pending) → last_of us ≡ o → (u : Pending) × (last_of us ≡ Some u)
    by_last None f = absurd (never (sym (ap undo_next f) ∙ e))
      where
        never : (let n : Option (ℕ × Op) = None in n ≡ Some (b.region, b.op)) → ⊥
        never g = cc
    by_last (Some u) f = (u, f)

set_long : (rs : List RegionState) (r n : ℕ) (h : RegionState) → length rs ≡ n → length (slice_set rs r h) ≡ n
set_long rs r n h e = length-set rs r h ∙ e

by_way : (p : Planned) (b : Bool) {A : Type 0} → is_back p ≡ b → (is_back p ≡ false → A) → (is_back p ≡ true → A) → A
by_way p true e f g = g e
by_way p false e f g = f e

pub one_operated : (precheck : Bool) (rs : List RegionState) (y z : SystemState) (p q : Planned) (r : ℕ) (op : Op) (g h : RegionState) → IsAtRest rs y p → IsWhole p → plan_next p ≡ Some (r, op) → slice_get rs r ≡ Some g
    → Operated precheck p g y q h z → Advanced precheck rs y p (slice_set rs r h) z q
one_operated precheck rs y z p q r op g h rest w next at o = subst (λ (n : ℕ). Advanced precheck rs y p (slice_set rs n h) z q) (sym here) (subst (λ (k : RegionState). Advanced precheck rs y p (slice_set rs o.block.region k) z q) (sym o.region) (by_way p (is_back p) refl onward back))
  where
    first_of : (a b : ℕ × Op) → (let x : Option (ℕ × Op) = Some b in Some a ≡ x) → a.0 ≡ b.0
    first_of a b e = cc

    here : r ≡ o.block.region
    here = first_of (r, op) (o.block.region, o.block.op) (sym next ∙ o.of.op)

    there : slice_get rs o.block.region ≡ Some g
    there = ap (slice_get rs) (sym here) ∙ at

    onward : is_back p ≡ false → Advanced precheck rs y p (slice_set rs o.block.region (touched o.opened)) z q
    onward way =
        let on = o.onward way in
        let row = changes_kept y.table p.txn o.block o.block.undo in
        let txn : q.txn ≡ p.txn = ap (λ (x : Planned). x.txn) on.2.rest in
        subst (λ (x : SystemState). Advanced precheck rs y p (slice_set rs o.block.region (touched o.opened)) x q) (sym on.0) (record {
          rest = record {
            sizes = ap (λ (x : Planned). x.geometry) on.2.rest ∙ rest.sizes;
            whole = set_long rs o.block.region (regions y.sizes) (touched o.opened) rest.whole;
            lives = subst (λ (t : ℕ). state_of (op_logged y p.txn o.block) t ≡ Some Live) (sym txn) ((row []).state ∙ rest.lives);
            closed = ap (λ (x : Planned). x.operation) on.2.rest;
          };
          sizes = refl;
          locks = refl;
          rows = λ u e. kept_apart y.table p.txn u o.block o.block.undo e;
          same = on.2.rest ∙ ap (λ (k : Option Operation). record p { stage = q.stage; changes = q.changes; operation = k }) (sym (ap (λ (x : Planned). x.operation) on.2.rest));
          undos = λ before e. (row (before ++ p.changes)).undos e (row_there y p.txn Live rest.lives) ∙ (append_assoc before p.changes (undo_added o.block o.block.undo) ∙ ap (λ (us : List Pending). before ++ us) (sym on.2.changes));
          goes = λ L v plan. onward_led precheck L rs y v p q o.block g o.opened o.steps w rest.sizes o.of way there o.goes o.is_open on.1 on.2 rest.lives (o.checked way) plan;
        })

    back : is_back p ≡ true → Advanced precheck rs y p (slice_set rs o.block.region (touched o.opened)) z q
    back way =
        let on = o.back way in
        let row = changes_popped y.table p.txn in
        let last = is_last p.changes o.block (sym (back_next p (is_back p) refl way) ∙ o.of.op) in
        subst (λ (x : SystemState). Advanced precheck rs y p (slice_set rs o.block.region (touched o.opened)) x q) (sym on.0) (subst (λ (x : Planned). Advanced precheck rs y p (slice_set rs o.block.region (touched o.opened)) (back_logged y p.txn o.block) x) (sym on.2) (record {
          rest = record {
            sizes = rest.sizes;
            whole = set_long rs o.block.region (regions y.sizes) (touched o.opened) rest.whole;
            lives = (row []).state ∙ rest.lives;
            closed = refl;
          };
          sizes = refl;
          locks = refl;
          rows = λ u e. row_apart y.table p.txn u without_last e;
          same = refl;
          undos = λ before e. (row (before ++ p.changes)).undos e (row_there y p.txn Live rest.lives) ∙ drop_append before p.changes last.0 last.1;
          goes = λ L v plan. back_led precheck L rs y v p o.block g o.opened o.steps w rest.sizes o.of way there o.goes o.is_open on.1 rest.lives plan;
        }))

-- ---- no operation
pub stays : (precheck : Bool) (rs : List RegionState) (y : SystemState) (p : Planned) → IsAtRest rs y p → Advanced precheck rs y p rs y p
stays precheck rs y p rest = record {
  rest = rest;
  sizes = refl;
  locks = refl;
  rows = λ u e. refl;
  same = refl;
  undos = λ before e. e;
  goes = λ L v plan. record { log = L; steps = []; leads = (refl, refl); at = plan };
}

pub none_operated : (precheck : Bool) (rs : List RegionState) (y : SystemState) (p : Planned) (r : ℕ) (g h : RegionState) → IsAtRest rs y p → slice_get rs r ≡ Some g
    → IsLeftOf p.txn g h → Advanced precheck rs y p (slice_set rs r h) y p
none_operated precheck rs y p r g h rest at (inl same) = subst (λ (gs : List RegionState). Advanced precheck rs y p gs y p) (sym (set_same rs r h (at ∙ ap Some (sym same)))) (stays precheck rs y p rest)
none_operated precheck rs y p r g h rest at (inr left) = record {
  rest = record { sizes = rest.sizes; whole = set_long rs r (regions y.sizes) h rest.whole; lives = rest.lives; closed = rest.closed };
  sizes = refl;
  locks = refl;
  rows = λ u e. refl;
  same = refl;
  undos = λ before e. e;
  goes = λ L v plan. record {
    log = L;
    steps = steps_on r left.0;
    leads = leads_there precheck L (core rs y v) p.txn r g h left.0 (alive (state_of y p.txn) rest.lives) at left.1;
    at = record { follows = plan.follows; holds = plan.holds; free = stays_free (core rs y v) (core (slice_set rs r h) y v) p.txn r g h plan.free at left.2 refl };
  };
}

-- ---- one behind another
pub goes_further : (precheck : Bool) (rs rs' rs'' : List RegionState) (y y' y'' : SystemState) (p p' p'' : Planned) → Advanced precheck rs y p rs' y' p' → Advanced precheck rs' y' p' rs'' y'' p'' → Advanced precheck rs y p rs'' y'' p''
goes_further precheck rs rs' rs'' y y' y'' p p' p'' a b = record {
  rest = b.rest;
  sizes = b.sizes ∙ a.sizes;
  locks = b.locks ∙ a.locks;
  rows = λ u e. b.rows u (ap (λ (n : ℕ). n == u) txn ∙ e) ∙ a.rows u e;
  same = b.same ∙ ap (λ (x : Planned). record x { stage = p''.stage; changes = p''.changes; operation = p''.operation }) a.same;
  undos = λ before e. subst (λ (t : ℕ). undos_at y''.table t ≡ before ++ p''.changes) txn (b.undos before (subst (λ (t : ℕ). undos_at y'.table t ≡ before ++ p'.changes) (sym txn) (a.undos before e)));
  goes = λ L v plan.
      let one = a.goes L v plan in
      let two = subst (λ (n : ℕ). Led precheck n one.log (core rs' y' v) (core rs'' y'' v) p'') txn (b.goes one.log v one.at) in
      record { log = two.log; steps = one.steps ++ two.steps; leads = leads_on precheck p.txn L one.log two.log (core rs y v) (core rs' y' v) (core rs'' y'' v) one.steps two.steps one.leads two.leads; at = two.at };
}
  where
    txn : p'.txn ≡ p.txn
    txn = ap (λ (x : Planned). x.txn) a.same
