-- An undo is performed, and then the next one.
use Rattle.std.proofs.Common.{inl, inr, ◌≡◌, ℕ, ◌<◌, Bool, false, List, [], ◌∷◌, ◌++◌, Option, Some, None, refl, sym, ap, subst, ◌∙◌, arith, length, slice_get, slice_set}
use Rattle.std.specs.Prelude.{if◌then◌else◌}
use Rattle.std.specs.FinMap.{get}
use Rattle.std.specs.List.{AllByRecursion}
use Rattle.std.proofs.lemmas.List.{length-set, append-nil}
use Rattle.dali_lists.proofs.Lists.{set_same, get_set}
use Rattle.dali_lists.proofs.Members.{all_append, all_weaker}
use Rattle.dali_geometry.specs.Places.{regions}
use Rattle.dali_record.specs.declared.operations.Block.{Block}
use Rattle.dali_record.specs.declared.operations.Pending.{Pending}
use Rattle.dali_record.specs.declared.records.Record.{Record}
use Rattle.dali_record.specs.declared.records.Record.TheVariants.{Back, Ended}
use Rattle.dali_record.specs.Operations.{undo_op}
use Rattle.dali_record.specs.Log.{last_of, drop_last}
use Rattle.dali_record.specs.Spelling.{Is64}
use Rattle.dali_record.proofs.EpochRules.{kind_in}
use Rattle.dali_region.specs.State.{RegionState, touched, taken_back}
use Rattle.dali_att.specs.declared.state.State.{State}
use Rattle.dali_att.specs.declared.state.State.TheVariants.{Live}
use Rattle.dali_att.specs.Table.{undos_at, without_last}
use Rattle.dali_att.proofs.Changes.{get-ended}
use Rattle.dali_locks.proofs.Kept.{locks_without_at}
use Rattle.dali_runs.specs.State.{SystemState, VaultState, state_of}
use Rattle.dali_runs.specs.Steps.{back_logged, ended_logged}
use Rattle.dali_runs.specs.Keeps.{may_log_in, with_region, with_touched}
use Rattle.dali_runs.specs.Regions.{RegionStep, IsOpen}
use Rattle.dali_runs.specs.Courses.{TakesBack, Ends, IsStep}
use Rattle.dali_runs.proofs.FactsLemmas.Ends.{empty_end_is_step}
use Rattle.dali_system.specs.declared.operation.Operation.{Operation}
use Rattle.dali_system.specs.declared.take_back.TakeBack.{TakeBack}
use Rattle.dali_system.specs.declared.want.Want.TheVariants.{Region}
use Rattle.dali_system.specs.TakenBack.{next_undo, want_of, IsMadeOf, IsUndoBlock}
use Rattle.dali_system.specs.Served.{Served}
use Rattle.dali_calls.specs.Operating.{Goes, Undone}
use Rattle.dali_calls.proofs.TakingBack.{taking_back_is_step}
use Rattle.dali_calls.proofs.Following.{last_all}
use Rattle.dali_calls.proofs.Operating.{steps_on}
use Rattle.dali_calls.proofs.Rows.{row_apart}
use Rattle.dali_calls.proofs.Undoing.{drop_one, wanted_undo, Rewritten, next_last, is_taken_back}
use Rattle.dali_calls.proofs.Others.{holds_put, holds_further}
use Rattle.dali_calls.specs.Single.Stands.{core}
use Rattle.dali_calls.specs.Single.Operated.{IsLeftOf}
use Rattle.dali_runs.specs.Facts.Undos.{MayBePerformed}
use Rattle.dali_runs.proofs.FactsLemmas.Undos.{all_dropped}
use Rattle.dali_calls.specs.Single.Single.{OthersStay, AreCovered, Keeps}
use Rattle.dali_calls.specs.Single.Ending.{IsBackOf, IsAtWork, IsEnded, IsStillAtWork, UndoesFrom}
use Rattle.dali_calls.proofs.SingleLemmas.Lists.{logged_on}
use Rattle.dali_calls.proofs.SingleLemmas.Leading.{leads_on, leads_there, stays_free}
use Rattle.dali_calls.proofs.SingleLemmas.Going.{changes_popped, both_steps, alive, row_there}

-- ---- the operation of an undo
pub back_left_over : (p q : TakeBack) (g h k : RegionState) → Rewritten p g q h → k ≡ taken_back h → IsLeftOf p.txn g k
back_left_over p q g h k w is = inr (is_taken_back p q g h k w is)

pub back_as_before : (p q r : TakeBack) (g h : RegionState) → p.operation ≡ None → Rewritten p g q h → r ≡ record q { operation = None } → r ≡ p
back_as_before p q r g h closed w is = is ∙ (ap (λ (x : TakeBack). record x { operation = None }) w.is ∙ ap (λ (o : Option Operation). record p { operation = o }) (sym closed))

-- ---- one undo, in a core
one_led : (L : List Record) (rs : List RegionState) (y : SystemState) (v : VaultState) (t : ℕ) (u : Pending) (b : Block) (g opened : RegionState) (xs : List RegionStep) → Is64 t → state_of y t ≡ Some Live
    → last_of (undos_at y.table t) ≡ Some u → MayBePerformed y t u → IsMadeOf u b → y.stop ≡ None → slice_get rs u.region ≡ Some g → Goes t g xs opened → IsOpen opened t b
    → IsAtWork L (core rs y v) t → IsStillAtWork L (core rs y v) t (core (slice_set rs u.region (touched opened)) (back_logged y t b) v)
one_led L rs y v t u b g opened xs fits lives last may made runs at goes is work =
    let c = with_region (core rs y v) u.region opened in
    let here = get_set rs u.region g opened at in
    let same : b.region ≡ u.region = ap (λ (x : Block). x.region) made.made_on in
    let by = taking_back_is_step L c t work.working u b opened work.at_work (ap last_of (sym work.undos) ∙ last) (record {
      txn = fits;
      runs = runs;
      by = ap (λ (o : Option State). may_log_in o (Back t b)) lives;
      holds = may.lock;
      kind = may.kind;
      made = made;
      at = here;
      written = is;
    }) in
    let there = both_steps false false L (L ++ Back t b ∷ []) rs y (back_logged y t b) v t u.region g opened xs (TakesBack t b) b lives work.free at goes is (λ e. absurd (cc)) refl refl (λ o right. tt)
    (subst (λ (n : ℕ). IsStep L c (TakesBack t b) (L ++ Back t b ∷ []) (with_touched c (back_logged y t b) n opened)) same by.step) in
    let popped = changes_popped y.table t in
    record {
      log = L ++ Back t b ∷ [];
      steps = steps_on u.region xs ++ TakesBack t b ∷ [];
      leads = there;
      own = Back t b ∷ [];
      logged = refl;
      backs = (refl, tt);
      at = record {
        working = by.left;
        at_work = by.at_work;
        undos = (popped work.working.undos).undos work.undos (row_there y t Live lives) ∙ sym by.undos;
        free = stays_free (core rs y v) (core (slice_set rs u.region (touched opened)) (back_logged y t b) v) t u.region g (touched opened) work.free at refl refl;
      };
    }

pub nothing_undone : (rs : List RegionState) (y : SystemState) (t : ℕ) → length rs ≡ regions y.sizes → state_of y t ≡ Some Live → AreCovered y t → UndoesFrom rs y t rs y
nothing_undone rs y t whole lives covered = record {
  whole = whole;
  sizes = refl;
  lives = lives;
  covered = covered;
  others = λ n e. (refl, λ k. refl);
  stop = refl;
  holds = λ q. inl refl;
  leads = λ L v work. record { log = L; steps = []; leads = (refl, refl); own = []; logged = sym (append-nil L); backs = tt; at = work };
}

pub one_undone : (rs : List RegionState) (y z : SystemState) (t r : ℕ) (p q : TakeBack) (u : Pending) (g h : RegionState) → Is64 t → length rs ≡ regions y.sizes → state_of y t ≡ Some Live → AreCovered y t
    → p.txn ≡ t → p.next ≡ Some u → u.region ≡ r → next_undo (undos_at y.table t) 0 ≡ Some u → slice_get rs r ≡ Some g → Undone p g y q h z
    → UndoesFrom rs y t (slice_set rs r h) z
one_undone rs y z t r p q u g h fits whole lives covered txn next region is at o =
    subst (λ (n : ℕ). UndoesFrom rs y t (slice_set rs n h) z) region
    (subst (λ (k : RegionState). UndoesFrom rs y t (slice_set rs u.region k) z) (sym o.region)
    (subst (λ (x : SystemState). UndoesFrom rs y t (slice_set rs u.region (touched o.opened)) x) (sym (o.system ∙ ap (λ (n : ℕ). back_logged y n o.block) txn)) there))
  where
    last : last_of (undos_at y.table t) ≡ Some u
    last = next_last (undos_at y.table t) u is

    popped : undos_at (back_logged y t o.block).table t ≡ drop_last (undos_at y.table t)
    popped = (changes_popped y.table t (undos_at y.table t)).undos refl (row_there y t Live lives)

    there : UndoesFrom rs y t (slice_set rs u.region (touched o.opened)) (back_logged y t o.block)
    there = record {
      whole = length-set rs u.region (touched o.opened) ∙ whole;
      sizes = refl;
      lives = (changes_popped y.table t []).state ∙ lives;
      others = λ n e. (row_apart y.table t n without_last e, λ k. refl);
      stop = refl;
      holds = holds_put rs u.region g (touched o.opened) (ap (slice_get rs) region ∙ at) refl;
      covered = subst (AllByRecursion (MayBePerformed (back_logged y t o.block) t)) (sym popped) (all_weaker (MayBePerformed y t) (MayBePerformed (back_logged y t o.block) t) (drop_last (undos_at y.table t)) (λ w may. record { spelled = may.spelled; kind = may.kind; lock = may.lock }) (all_dropped (MayBePerformed y t) (undos_at y.table t) covered));
      leads = λ L v work.
          one_led L rs y v t u o.block g o.opened o.steps fits lives last (last_all (MayBePerformed y t) (undos_at y.table t) u covered last) (subst (λ (n : Option Pending). IsUndoBlock n o.block) next o.of) o.runs
          (ap (slice_get rs) region ∙ at) (subst (λ (n : ℕ). Goes n g o.steps o.opened) txn o.goes) (subst (λ (n : ℕ). IsOpen o.opened n o.block) txn o.is_open) work;
    }

pub none_undone : (rs : List RegionState) (y : SystemState) (t r : ℕ) (g h : RegionState) → length rs ≡ regions y.sizes → state_of y t ≡ Some Live → AreCovered y t → slice_get rs r ≡ Some g
    → IsLeftOf t g h → UndoesFrom rs y t (slice_set rs r h) y
none_undone rs y t r g h whole lives covered at (inl same) = subst (λ (gs : List RegionState). UndoesFrom rs y t gs y) (sym (set_same rs r h (at ∙ ap Some (sym same)))) (nothing_undone rs y t whole lives covered)
none_undone rs y t r g h whole lives covered at (inr left) = record {
  whole = length-set rs r h ∙ whole;
  sizes = refl;
  lives = lives;
  covered = covered;
  others = λ n e. (refl, λ k. refl);
  stop = refl;
  holds = holds_put rs r g h at left.2;
  leads = λ L v work. record {
    log = L;
    steps = steps_on r left.0;
    leads = leads_there false L (core rs y v) t r g h left.0 (alive (state_of y t) lives) at left.1;
    own = [];
    logged = sym (append-nil L);
    backs = tt;
    at = record { working = work.working; at_work = work.at_work; undos = work.undos; free = stays_free (core rs y v) (core (slice_set rs r h) y v) t r g h work.free at left.2 refl };
  };
}

pub undoes_further : (rs rs' rs'' : List RegionState) (y y' y'' : SystemState) (t : ℕ) → UndoesFrom rs y t rs' y' → UndoesFrom rs' y' t rs'' y'' → UndoesFrom rs y t rs'' y''
undoes_further rs rs' rs'' y y' y'' t a b = record {
  whole = b.whole;
  sizes = b.sizes ∙ a.sizes;
  lives = b.lives;
  covered = b.covered;
  others = λ n e. ((b.others n e).0 ∙ (a.others n e).0, λ k. (b.others n e).1 k ∙ (a.others n e).1 k);
  stop = b.stop ∙ a.stop;
  holds = holds_further rs rs' rs'' a.holds b.holds;
  leads = λ L v work.
      let one = a.leads L v work in
      let two = b.leads one.log v one.at in
      record {
        log = two.log;
        steps = one.steps ++ two.steps;
        leads = leads_on false t L one.log two.log (core rs y v) (core rs' y' v) (core rs'' y'' v) one.steps two.steps one.leads two.leads;
        own = one.own ++ two.own;
        logged = logged_on L one.log two.log one.own two.own one.logged two.logged;
        backs = all_append (IsBackOf t) one.own two.own one.backs two.backs;
        at = two.at;
      };
}

-- ---- the end
pub abort_ends : (rs rs' : List RegionState) (y y1 z : SystemState) (t : ℕ) → UndoesFrom rs y t rs' y1 → undos_at y1.table t ≡ [] → y1.stop ≡ None → z ≡ ended_logged y1 t
    → (L : List Record) (v : VaultState) → IsAtWork L (core rs y v) t → IsEnded L (core rs y v) t (core rs' z v)
abort_ends rs rs' y y1 z t u none runs is L v work =
    let led = u.leads L v work in
    let last = empty_end_is_step led.log (core rs' y1 v) t led.at.working led.at.at_work (sym led.at.undos ∙ none) runs led.at.free (ap (λ (o : Option State). may_log_in o (Ended t)) u.lives) in
    record {
      log = led.log;
      mid = core rs' y1 v;
      steps = led.steps;
      leads = led.leads;
      records = led.own;
      logged = led.logged;
      are = led.backs;
      ends = subst (λ (x : SystemState). IsStep led.log (core rs' y1 v) (Ends t) (led.log ++ Ended t ∷ []) (core rs' x v)) (sym is) last;
    }

-- its row and its locks are gone, and those of others stay
pub ended_others : (y z : SystemState) (t : ℕ) → z ≡ ended_logged y t → OthersStay y t z
ended_others y z t is = subst (λ (x : SystemState). OthersStay y t x) (sym is) (λ n e. (get-ended y.table t n ∙ ap (λ (b : Bool). if b then None else get y.table n) e, λ k. locks_without_at y.locks t n k ∙ ap (λ (b : Bool). if b then None else get y.locks (n, k)) e))

pub others_further : (y m z : SystemState) (t : ℕ) → OthersStay y t m → OthersStay m t z → OthersStay y t z
others_further y m z t a b n e = ((b n e).0 ∙ (a n e).0, λ k. (b n e).1 k ∙ (a n e).1 k)

pub undoes_keep : (rs rs' : List RegionState) (y z : SystemState) (t : ℕ) → state_of y t ≡ Some Live → UndoesFrom rs y t rs' z → Keeps y t z
undoes_keep rs rs' y z t lives u = record { sizes = u.sizes; state = u.lives ∙ sym lives; covered = λ old. u.covered; others = u.others }

-- ---- the region of an undo
pub undo_there : (rs : List RegionState) (y : SystemState) (t : ℕ) (u : Pending) → length rs ≡ regions y.sizes → AreCovered y t → next_undo (undos_at y.table t) 0 ≡ Some u → u.region < length rs
undo_there rs y t u whole covered is =
    let may = last_all (MayBePerformed y t) (undos_at y.table t) u covered (next_last (undos_at y.table t) u is) in
    let less = kind_in y.sizes u.region (undo_op u.undo) may.kind in
    omega (arith, less, whole)

pub fewer_undos : (m : SystemState) (t : ℕ) (b : Block) (u : Pending) → state_of m t ≡ Some Live → next_undo (undos_at m.table t) 0 ≡ Some u → length (undos_at (back_logged m t b).table t) < length (undos_at m.table t)
fewer_undos m t b u lives is =
    let popped = ap length ((changes_popped m.table t (undos_at m.table t)).undos refl (row_there m t Live lives)) in
    let less = drop_one (undos_at m.table t) u (next_last (undos_at m.table t) u is) in
    omega (arith, popped, less)

-- ---- the loop over all undos
pub undo_region : (rs0 rs : List RegionState) (y0 y : SystemState) (t r : ℕ) (next : Option Pending) → UndoesFrom rs0 y0 t rs y → next ≡ next_undo (undos_at y.table t) 0 → Region r ≡ want_of next → r < length rs
undo_region rs0 rs y0 y t r next goes is want =
    let u = wanted_undo next r want in
    let there = undo_there rs y t u.0 goes.whole goes.covered (sym is ∙ u.1) in
    subst (λ (n : ℕ). n < length rs) u.2 there

pub undo_further : (rs0 rs : List RegionState) (y0 y z : SystemState) (t r : ℕ) (p q : TakeBack) (g h : RegionState) → Is64 t → UndoesFrom rs0 y0 t rs y → p.txn ≡ t → p.next ≡ next_undo (undos_at y.table t) 0 → Region r ≡ want_of p.next
    → slice_get rs r ≡ Some g → Undone p g y q h z → UndoesFrom rs0 y0 t (slice_set rs r h) z
undo_further rs0 rs y0 y z t r p q g h fits goes txn is want at o =
    let u = wanted_undo p.next r want in
    undoes_further rs0 rs (slice_set rs r h) y0 y z t goes (one_undone rs y z t r p q u.0 g h fits goes.whole goes.lives goes.covered txn u.1 u.2 (sym is ∙ u.1) at o)

pub undo_fewer : (y z : SystemState) (t r : ℕ) (p q : TakeBack) (g h : RegionState) → state_of y t ≡ Some Live → p.txn ≡ t → p.next ≡ next_undo (undos_at y.table t) 0 → Region r ≡ want_of p.next → Undone p g y q h z
    → length (undos_at z.table t) < length (undos_at y.table t)
undo_fewer y z t r p q g h lives txn is want o =
    let u = wanted_undo p.next r want in
    subst (λ (x : SystemState). length (undos_at x.table t) < length (undos_at y.table t)) (sym (o.system ∙ ap (λ (n : ℕ). back_logged y n o.block) txn)) (fewer_undos y t o.block u.0 lives (sym is ∙ u.1))

pub undo_next : (y z : SystemState) (t : ℕ) (p q : TakeBack) (g h : RegionState) → p.txn ≡ t → p.down_to ≡ 0 → Undone p g y q h z → q.next ≡ next_undo (undos_at z.table t) 0
undo_next y z t p q g h txn down o = ap (λ (x : TakeBack). x.next) o.next ∙ (ap (λ (n : ℕ). next_undo (undos_at z.table n) p.down_to) txn ∙ ap (next_undo (undos_at z.table t)) down)

pub undo_refused : (rs0 rs : List RegionState) (y0 : SystemState) (s z : Served) (t r : ℕ) (p : TakeBack) (g h : RegionState) → UndoesFrom rs0 y0 t rs s.state → p.txn ≡ t → slice_get rs r ≡ Some g
    → z ≡ s → IsLeftOf p.txn g h → UndoesFrom rs0 y0 t (slice_set rs r h) z.state
undo_refused rs0 rs y0 s z t r p g h goes txn at still left =
    subst (λ (x : Served). UndoesFrom rs0 y0 t (slice_set rs r h) x.state) (sym still)
    (undoes_further rs0 rs (slice_set rs r h) y0 s.state s.state t goes (none_undone rs s.state t r g h goes.whole goes.lives goes.covered at (subst (λ (n : ℕ). IsLeftOf n g h) txn left)))
