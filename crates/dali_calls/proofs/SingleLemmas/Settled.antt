-- What a committed transaction removed is freed, one after another.
use Rattle.std.proofs.Common.{inl, inr, ◌≡◌, ℕ, zero, suc, ◌+◌, ◌-◌, ◌<◌, ◌≤◌, Bool, true, false, List, [], ◌∷◌, ◌++◌, Option, Some, None, IsSome, is_some, refl, sym, ap, subst, ◌∙◌, arith, length, drop, get_or, slice_get, slice_set, option_map}
use Rattle.std.specs.Prelude.{◌||◌, ◌==◌, ◌^◌, if◌then◌else◌}
use Rattle.std.proofs.lemmas.Bool.Decides.{Decides-eqb}
use Rattle.dali_geometry.specs.Sizes.{Sizes}
use Rattle.std.specs.List.{AllByRecursion}
use Rattle.std.specs.FinMap.{insert}
use Rattle.std.proofs.lemmas.List.{length-set, append-nil, drop_more, set-set}
use Rattle.dali_lists.proofs.Lists.{set_same, get_set}
use Rattle.dali_lists.proofs.Members.{all_append, all_weaker}
use Rattle.dali_geometry.specs.Places.{regions}
use Rattle.dali_record.specs.declared.operations.Op.{Op}
use Rattle.dali_record.specs.declared.operations.Undo.{Undo}
use Rattle.dali_record.specs.declared.operations.Undo.TheVariants.{FreeCell as UndoFreeCell, ReviveCell as UndoReviveCell, Restore as UndoRestore, FreeEntry as UndoFreeEntry, ReviveEntry as UndoReviveEntry}
use Rattle.dali_record.specs.declared.operations.Block.{Block}
use Rattle.dali_record.specs.declared.operations.Pending.{Pending}
use Rattle.dali_record.specs.declared.records.Record.{Record}
use Rattle.dali_record.specs.declared.records.Record.TheVariants.{Solo, Commit, Ended}
use Rattle.dali_record.specs.Blocks.{made, changes_item}
use Rattle.dali_record.specs.Legal.{Unbegun, Active, Working, Committed as Ending, txn_state, is_removal, dead_of, freeing_op, on_kind}
use Rattle.dali_record.specs.Operations.{undo_op}
use Rattle.dali_record.specs.Spelling.{Is64, IsUndo, IsBlock, IsOperation, is_solo}
use Rattle.dali_record.proofs.EpochRules.{kind_in}
use Rattle.dali_region.specs.State.{RegionState, latched, with_reads, touched, taken_back}
use Rattle.dali_att.specs.declared.state.State.{State}
use Rattle.dali_att.specs.declared.state.State.TheVariants.{Live, Committed}
use Rattle.dali_att.specs.Table.{undos_at}
use Rattle.dali_runs.specs.State.{TxnRow, SystemState, VaultState, row_of, state_of, state_in, lock_of}
use Rattle.dali_runs.specs.Run.{covers}
use Rattle.dali_runs.specs.Steps.{solo_logged, commit_logged, committed_row, ended_logged}
use Rattle.dali_runs.specs.Regions.{RegionStep, TakeBack as TakesRegionBack, IsOpen, is_alive}
use Rattle.dali_runs.specs.Keeps.{with_region, with_touched, may_log_in}
use Rattle.dali_runs.specs.Courses.{Frees, Ends, IsStep}
use Rattle.dali_runs.specs.Facts.Plans.{AtWork}
use Rattle.dali_runs.specs.Facts.Ends.{IsUnbegun, IsEnding}
use Rattle.dali_runs.proofs.FactsLemmas.Ends.{commit_follows, commit_is_step, solo_follows, end_follows, others_leave}
use Rattle.dali_calls.specs.Operating.{IsHeldBy, AreWritten, Goes}
use Rattle.dali_calls.proofs.Stepping.{covers_all}
use Rattle.dali_calls.proofs.Operating.{steps_on, goes_on, opened_by, held_open}
use Rattle.dali_calls.proofs.Rows.{row_here, row_apart}
use Rattle.dali_calls.proofs.Others.{holds_put, holds_further}
use Rattle.dali_system.specs.declared.operation.Operation.{Operation}
use Rattle.dali_system.specs.Served.{Served, solo_room, promised_for}
use Rattle.dali_system.specs.Promised.{Promised, promised_to, used}
use Rattle.dali_system.proofs.Totals.{own_changes}
use Rattle.dali_calls.specs.Single.Stands.{core}
use Rattle.dali_calls.specs.Single.Operated.{IsLeftOf}
use Rattle.dali_calls.specs.declared.single.error.StepError.{StepError}
use Rattle.dali_calls.specs.Single.Refusals.{IsUnfreed, IsStuck}
use Rattle.dali_runs.specs.Facts.Undos.{MayBePerformed}
use Rattle.dali_calls.specs.Single.Single.{OthersStay}
use Rattle.dali_calls.specs.Single.Settling.{settle_room, IsPromised, MayFree, IsSoloOf, MayCommit, Commits, IsCommitted, IsSettled, IsLeft, left_behind, Freed, AreFreed}
use Rattle.dali_calls.proofs.SingleLemmas.Lists.{logged_on}
use Rattle.dali_calls.proofs.SingleLemmas.Leading.{leads_on, one_step, leads_there, stays_free}
use Rattle.dali_calls.proofs.SingleLemmas.Undoing.{ended_others, others_further}
use Rattle.dali_calls.proofs.SingleLemmas.Refusing.{stuck_there}

-- ---- the operation
pub freeing_spelled : (u : Undo) → is_removal u ≡ true → IsUndo u → IsOperation (freeing_op u) × (is_solo (freeing_op u) ≡ true)
freeing_spelled (UndoReviveCell c) h i = (i, refl)
freeing_spelled (UndoReviveEntry e) h i = (i, refl)
freeing_spelled (UndoFreeCell c) h i = absurd cc
freeing_spelled (UndoFreeEntry e) h i = absurd cc
freeing_spelled (UndoRestore c n ws) h i = absurd cc

pub freed : (u : Pending) (g g1 g2 h : RegionState) (t : ℕ) (op : Op) (o p : Operation) (b : Block) (y z : SystemState) → op ≡ freeing_op u.undo → g.hold ≡ None
    → o.block ≡ made g.words u.key u.region op → IsBlock o.block → o.txn ≡ t → g1 ≡ with_reads o.block.read (latched t g) → AreWritten g1 g2
    → (p.txn ≡ o.txn) × (p.block ≡ o.block) → IsOpen g2 p.txn p.block → b ≡ p.block → z ≡ solo_logged y t b → h ≡ touched g2 → y.stop ≡ None → y.next < 2 ^ 64
    → Freed u g y t h z
freed u g g1 g2 h t op o p b y z is none made_on spelled txn reads w same opened block system region runs fits =
    let goes = opened_by t o.block g g1 g2 none spelled.read reads w in
    let all : b ≡ o.block = block ∙ same.1 in
    record {
      block = b;
      made_on = all ∙ (made_on ∙ ap (made g.words u.key u.region) is);
      spelled = subst IsBlock (sym all) spelled;
      opened = g2;
      steps = goes.0;
      goes = goes.1;
      is_open = subst (λ (x : Block). IsOpen g2 t x) (sym block) (subst (λ (n : ℕ). IsOpen g2 n p.block) (same.0 ∙ txn) opened);
      region = region;
      runs = runs;
      fits = fits;
      system = system;
    }

pub free_left_over : (g g1 g2 k : RegionState) (t : ℕ) (o p : Operation) → g.hold ≡ None → IsBlock o.block → o.txn ≡ t → g1 ≡ with_reads o.block.read (latched t g) → AreWritten g1 g2
    → (p.txn ≡ o.txn) × (p.block ≡ o.block) → IsOpen g2 p.txn p.block → k ≡ taken_back g2 → IsLeftOf t g k
free_left_over g g1 g2 k t o p none spelled txn reads w same opened is =
    let goes = opened_by t o.block g g1 g2 none spelled.read reads w in
    let held = held_open g2 p.txn p.block opened in
    inr (goes.0 ++ TakesRegionBack ∷ [], goes_on t g g2 k goes.0 (TakesRegionBack ∷ []) goes.1 (held.1, subst (λ (n : ℕ). IsHeldBy n g2) (same.0 ∙ txn) held.0, sym is), ap (λ (x : RegionState). x.hold) is)

-- ---- in a core
committed_alive : (o : Option State) → o ≡ Some Committed → is_alive o ≡ true
committed_alive o e = ap is_alive e

differ : (s : Sizes) (L : List Record) (p n : ℕ) (us : List Pending) → IsEnding s L p us → IsUnbegun s L n → (b : Bool) → (p == n) ≡ b → b ≡ false
differ s L p n us e f true q = absurd (let g : Some (Ending us) ≡ Some Unbegun = sym e ∙ (ap (λ k. txn_state s k L) ((Decides-eqb p n).0 q) ∙ f) in cc)
differ s L p n us e f false q = refl

pub above : (m n : ℕ) → m + 1 ≤ n → (m == n) ≡ false
above m n h = by_test (m == n) refl
  where
    by_test : (b : Bool) → (m == n) ≡ b → (m == n) ≡ false
    by_test true q = absurd (let same : m ≡ n = (Decides-eqb m n).0 q in omega (arith, h, same))
    by_test false q = q

pub freed_led : (L : List Record) (rs : List RegionState) (y : SystemState) (v : VaultState) (t : ℕ) (u : Pending) (us : List Pending) (b : Block) (ws : List ℕ) (g opened : RegionState) (xs : List RegionStep) → Is64 t
    → MayFree y t u → b ≡ made ws u.key u.region (freeing_op u.undo) → IsBlock b → slice_get rs u.region ≡ Some g → Goes t g xs opened → IsOpen opened t b → y.stop ≡ None → y.next < 2 ^ 64
    → state_of y t ≡ Some Committed → IsCommitted L (core rs y v) t (u ∷ us) → IsLeft L (core rs y v) t us (core (slice_set rs u.region (touched opened)) (solo_logged y t b) v)
freed_led L rs y v t u us b ws g opened xs fits may made_on spelled at goes is runs next state work =
    let c = with_region (core rs y v) u.region opened in
    let key : b.key ≡ u.key = ap (λ (x : Block). x.key) made_on in
    let region : b.region ≡ u.region = ap (λ (x : Block). x.region) made_on in
    let op : b.op ≡ freeing_op u.undo = ap (λ (x : Block). x.op) made_on in
    let solo = (freeing_spelled u.undo may.removal may.spelled).1 in
    let one = solo_follows y.sizes L t y.next u us b work.ending (work.unbegun y.next (omega arith)) (record { key = key; region = region; op = op }) in
    let new = core (slice_set rs u.region (touched opened)) (solo_logged y t b) v in
    let step : IsStep L c (Frees t b) (L ++ Solo y.next t b ∷ []) (with_touched c (solo_logged y t b) b.region opened) = (
      opened,
      record {
        runs = runs;
        spelled = (next, fits, spelled, ap is_solo op ∙ solo);
        next = ap is_some one.left;
        by = ap (λ (o : Option State). may_log_in o (Solo y.next t b)) state;
        kind = ap (λ (r : ℕ). on_kind y.sizes r b.op) region ∙ (ap (on_kind y.sizes u.region) op ∙ may.kind);
        locked = ap (λ (k : ℕ). covers (lock_of y t k) (changes_item b)) key ∙ covers_all (lock_of y t u.key) (changes_item b) may.lock;
        at = ap (slice_get c.regions) region ∙ get_set rs u.region g opened at;
        is_open = is;
      },
      (refl, refl),
    ) in
    record {
      log = L ++ Solo y.next t b ∷ [];
      steps = steps_on u.region xs ++ Frees t b ∷ [];
      leads = leads_on false t L L (L ++ Solo y.next t b ∷ []) (core rs y v) c new (steps_on u.region xs) (Frees t b ∷ [])
          (leads_there false L (core rs y v) t u.region g opened xs (committed_alive (state_of y t) state) at goes)
          (one_step false t None L (L ++ Solo y.next t b ∷ []) c new (Frees t b)
          (subst (λ (gs : List RegionState). IsStep L c (Frees t b) (L ++ Solo y.next t b ∷ []) (core gs (solo_logged y t b) v)) (set-set rs u.region opened (touched opened))
          (subst (λ (n : ℕ). IsStep L c (Frees t b) (L ++ Solo y.next t b ∷ []) (with_touched c (solo_logged y t b) n opened)) region step)) refl refl tt);
      own = Solo y.next t b ∷ [];
      logged = refl;
      solos = (refl, tt);
      at = record {
        ending = one.left;
        free = stays_free (core rs y v) new t u.region g (touched opened) work.free at refl refl;
        unbegun = λ n h.
            let old = work.unbegun n (omega (arith, h)) in
            others_leave y.sizes L n (Solo y.next t b) (ap (λ (b : Bool). b || (t == n)) (above y.next n h) ∙ differ y.sizes L t n (u ∷ us) work.ending old (t == n) refl) ∙ old;
      };
    }

pub none_freed : (rs : List RegionState) (y : SystemState) (t : ℕ) (us : List Pending) → length rs ≡ regions y.sizes → AllByRecursion (MayFree y t) us → state_of y t ≡ Some Committed → AreFreed rs y t us us rs y
none_freed rs y t us whole may state = record { whole = whole; sizes = refl; may = may; state = state; others = λ n e. (refl, λ k. refl); holds = λ q. inl refl; leads = λ L v work. record { log = L; steps = []; leads = (refl, refl); own = []; logged = sym (append-nil L); solos = tt; at = work } }

same_may : (y : SystemState) (t u : ℕ) (b : Block) (us : List Pending) → AllByRecursion (MayFree y t) us → AllByRecursion (MayFree (solo_logged y u b) t) us
same_may y t u b us h = all_weaker (MayFree y t) (MayFree (solo_logged y u b) t) us (λ w may. record { removal = may.removal; spelled = may.spelled; kind = may.kind; lock = may.lock }) h

pub free_further : (rs0 rs : List RegionState) (y0 y z : SystemState) (t : ℕ) (all us : List Pending) (u : Pending) (g h : RegionState) → Is64 t → AreFreed rs0 y0 t all (u ∷ us) rs y
    → slice_get rs u.region ≡ Some g → Freed u g y t h z → AreFreed rs0 y0 t all us (slice_set rs u.region h) z
free_further rs0 rs y0 y z t all us u g h fits goes at o =
    subst (λ (k : RegionState). AreFreed rs0 y0 t all us (slice_set rs u.region k) z) (sym o.region)
    (subst (λ (x : SystemState). AreFreed rs0 y0 t all us (slice_set rs u.region (touched o.opened)) x) (sym o.system) (record {
      whole = length-set rs u.region (touched o.opened) ∙ goes.whole;
      sizes = goes.sizes;
      may = same_may y t t o.block us goes.may.1;
      state = goes.state;
      others = goes.others;
      holds = holds_further rs0 rs (slice_set rs u.region (touched o.opened)) goes.holds (holds_put rs u.region g (touched o.opened) at refl);
      leads = λ L v work.
          let one = goes.leads L v work in
          let two = freed_led one.log rs y v t u us o.block g.words g o.opened o.steps fits goes.may.0 o.made_on o.spelled at o.goes o.is_open o.runs o.fits goes.state one.at in
          record {
            log = two.log;
            steps = one.steps ++ two.steps;
            leads = leads_on false t L one.log two.log (core rs0 y0 v) (core rs y v) (core (slice_set rs u.region (touched o.opened)) (solo_logged y t o.block) v) one.steps two.steps one.leads two.leads;
            own = one.own ++ two.own;
            logged = logged_on L one.log two.log one.own two.own one.logged two.logged;
            solos = all_append (IsSoloOf t) one.own two.own one.solos two.solos;
            at = two.at;
          };
    }))

pub free_refused : (rs0 rs : List RegionState) (y0 : SystemState) (s z : Served) (t r : ℕ) (all us : List Pending) (g h : RegionState) → AreFreed rs0 y0 t all us rs s.state → slice_get rs r ≡ Some g
    → z ≡ s → IsLeftOf t g h → AreFreed rs0 y0 t all us (slice_set rs r h) z.state
free_refused rs0 rs y0 s z t r all us g h goes at still (inl same) =
    subst (λ (x : Served). AreFreed rs0 y0 t all us (slice_set rs r h) x.state) (sym still) (subst (λ (gs : List RegionState). AreFreed rs0 y0 t all us gs s.state) (sym (set_same rs r h (at ∙ ap Some (sym same)))) goes)
free_refused rs0 rs y0 s z t r all us g h goes at still (inr left) =
    subst (λ (x : Served). AreFreed rs0 y0 t all us (slice_set rs r h) x.state) (sym still) (record {
      whole = length-set rs r h ∙ goes.whole;
      sizes = goes.sizes;
      may = goes.may;
      state = goes.state;
      others = goes.others;
      holds = holds_further rs0 rs (slice_set rs r h) goes.holds (holds_put rs r g h at left.2);
      leads = λ L v work.
          let one = goes.leads L v work in
          record {
            log = one.log;
            steps = one.steps ++ steps_on r left.0;
            leads = leads_on false t L one.log one.log (core rs0 y0 v) (core rs s.state v) (core (slice_set rs r h) s.state v) one.steps (steps_on r left.0) one.leads (leads_there false one.log (core rs s.state v) t r g h left.0 (committed_alive (state_of s.state t) goes.state) at left.1);
            own = one.own;
            logged = one.logged;
            solos = one.solos;
            at = record { ending = one.at.ending; free = stays_free (core rs s.state v) (core (slice_set rs r h) s.state v) t r g h one.at.free at left.2 refl; unbegun = one.at.unbegun };
          };
    })

pub free_there : (rs0 rs : List RegionState) (y0 y : SystemState) (t : ℕ) (all us : List Pending) (u : Pending) → AreFreed rs0 y0 t all (u ∷ us) rs y → u.region < length rs
free_there rs0 rs y0 y t all us u goes = let less = kind_in y.sizes u.region (freeing_op u.undo) goes.may.0.kind in omega (arith, less, goes.whole)

pub settle_ends : (rs rs' : List RegionState) (y y1 z : SystemState) (t : ℕ) (us : List Pending) → AreFreed rs y t us [] rs' y1 → y1.stop ≡ None → z ≡ ended_logged y1 t
    → (L : List Record) (v : VaultState) → IsCommitted L (core rs y v) t us → IsSettled L (core rs y v) t (core rs' z v)
settle_ends rs rs' y y1 z t us goes runs is L v work =
    let one = goes.leads L v work in
    let last : IsStep one.log (core rs' y1 v) (Ends t) (one.log ++ Ended t ∷ []) (core rs' (ended_logged y1 t) v) = (
      runs,
      (record { next = ap is_some (end_follows y1.sizes one.log t one.at.ending); by = ap (λ (o : Option State). may_log_in o (Ended t)) goes.state }, one.at.free),
      (refl, refl),
    ) in
    record {
      log = one.log;
      mid = core rs' y1 v;
      steps = one.steps;
      leads = one.leads;
      records = one.own;
      logged = one.logged;
      are = one.solos;
      ends = subst (λ (x : SystemState). IsStep one.log (core rs' y1 v) (Ends t) (one.log ++ Ended t ∷ []) (core rs' x v)) (sym is) last;
    }

pub settled_others : (rs rs' : List RegionState) (y y1 z : SystemState) (t : ℕ) (us left : List Pending) → AreFreed rs y t us left rs' y1 → z ≡ ended_logged y1 t → OthersStay y t z
settled_others rs rs' y y1 z t us left goes is = others_further y y1 z t goes.others (ended_others y1 z t is)

pub removal_there : (rs0 rs : List RegionState) (y0 y : SystemState) (t i : ℕ) (all : List Pending) (d : Pending) → i < length all → AreFreed rs0 y0 t all (drop i all) rs y → AreFreed rs0 y0 t all (get_or all i d ∷ drop (i + 1) all) rs y
removal_there rs0 rs y0 y t i all d h goes = subst (λ (us : List Pending). AreFreed rs0 y0 t all us rs y) (drop_more all i d h) goes

-- ---- how many were freed
drop_all : (us : List Pending) → drop (length us) us ≡ []
drop_all [] = refl
drop_all (u ∷ us) = drop_all us

left_is : (y z : SystemState) (i : ℕ) (all : List Pending) → z.next ≡ y.next + i → left_behind y z all ≡ drop i all
left_is y z i all e = let n : z.next - y.next ≡ i = omega (arith, e) in ap (λ (k : ℕ). drop k all) n

next_still : (y : SystemState) (s z : Served) (i : ℕ) → s.state.next ≡ y.next + i → z ≡ s → z.state.next ≡ y.next + i
next_still y s z i e still = ap (λ (x : Served). x.state.next) still ∙ e

pub next_further : (y0 y z : SystemState) (t i : ℕ) (u : Pending) (g h : RegionState) → y.next ≡ y0.next + i → Freed u g y t h z → z.next ≡ y0.next + (i + 1)
next_further y0 y z t i u g h e o = let one : z.next ≡ y.next + 1 = ap (λ (x : SystemState). x.next) o.system in omega (arith, e, one)

pub those_left : (rs rs' : List RegionState) (y : SystemState) (s z : Served) (t i : ℕ) (all : List Pending) (d : Pending) → i < length all → s.state.next ≡ y.next + i → z ≡ s → AreFreed rs y t all (get_or all i d ∷ drop (i + 1) all) rs' z.state
    → AreFreed rs y t all (left_behind y z.state all) rs' z.state
those_left rs rs' y s z t i all d h e still goes = subst (λ (us : List Pending). AreFreed rs y t all us rs' z.state) (sym (left_is y z.state i all (next_still y s z i e still) ∙ drop_more all i d h)) goes

pub none_behind : (y : SystemState) (s z : Served) (us : List Pending) → z ≡ s → s.state.next ≡ y.next + length us → slice_get (left_behind y z.state us) 0 ≡ None
none_behind y s z us still e = ap (λ (left : List Pending). slice_get left 0) (left_is y z.state (length us) us (next_still y s z (length us) e still) ∙ drop_all us)

-- the next one is what is refused
pub removal_stuck : (rs : List RegionState) (y : SystemState) (s z : Served) (i : ℕ) (all : List Pending) (d : Pending) (g h : RegionState) (e : StepError) → i < length all → s.state.next ≡ y.next + i → z ≡ s
    → slice_get rs (get_or all i d).region ≡ Some g → IsUnfreed h z.state e → IsStuck (slice_get (left_behind y z.state all) 0) (slice_set rs (get_or all i d).region h) z.state e
removal_stuck rs y s z i all d g h e less next still at why =
    subst (λ (us : List Pending). IsStuck (slice_get us 0) (slice_set rs (get_or all i d).region h) z.state e) (sym (left_is y z.state i all (next_still y s z i next still) ∙ drop_more all i d less))
    (stuck_there rs (get_or all i d).region (get_or all i d) g h z.state e refl at why)

pub settle_refused : (rs rs' : List RegionState) (y : SystemState) (s z : Served) (t : ℕ) (us : List Pending) → AreFreed rs y t us [] rs' s.state → z ≡ s → s.state.next ≡ y.next + length us
    → (L : List Record) (v : VaultState) → IsCommitted L (core rs y v) t us → IsLeft L (core rs y v) t (left_behind y z.state us) (core rs' z.state v)
settle_refused rs rs' y s z t us goes still e L v work =
    subst (λ (left : List Pending). IsLeft L (core rs y v) t left (core rs' z.state v)) (sym (left_is y z.state (length us) us (next_still y s z (length us) e still) ∙ drop_all us))
    (subst (λ (x : Served). IsLeft L (core rs y v) t [] (core rs' x.state v)) (sym still) (goes.leads L v work))

pub none_left_again : (rs rs' : List RegionState) (y : SystemState) (s z : Served) (t : ℕ) (us : List Pending) → AreFreed rs y t us [] rs' s.state → z ≡ s → s.state.next ≡ y.next + length us
    → AllByRecursion (MayFree z.state t) (left_behind y z.state us) × (state_of z.state t ≡ Some Committed)
none_left_again rs rs' y s z t us goes still e = (
  subst (AllByRecursion (MayFree z.state t)) (sym (left_is y z.state (length us) us (next_still y s z (length us) e still) ∙ drop_all us)) tt,
  ap (λ (x : Served). state_of x.state t) still ∙ goes.state,
)

-- ---- the commit
freeing_kind : (s : Sizes) (r : ℕ) (u : Undo) → is_removal u ≡ true → on_kind s r (undo_op u) ≡ true → on_kind s r (freeing_op u) ≡ true
freeing_kind s r (UndoReviveCell c) h k = k
freeing_kind s r (UndoReviveEntry e) h k = k
freeing_kind s r (UndoFreeCell c) h k = absurd cc
freeing_kind s r (UndoFreeEntry e) h k = absurd cc
freeing_kind s r (UndoRestore c n ws) h k = absurd cc

pub may_free_all : (y : SystemState) (t : ℕ) (us : List Pending) → AllByRecursion (MayBePerformed y t) us → AllByRecursion (MayFree (commit_logged y t) t) (dead_of us)
may_free_all y t [] h = tt
may_free_all y t (u ∷ us) h = by_removal (is_removal u.undo) refl (may_free_all y t us h.1)
  where
    by_removal : (b : Bool) → is_removal u.undo ≡ b → AllByRecursion (MayFree (commit_logged y t) t) (dead_of us) → AllByRecursion (MayFree (commit_logged y t) t) (if b then u ∷ dead_of us else dead_of us)
    by_removal true i rest = (record { removal = i; spelled = h.0.spelled; kind = freeing_kind y.sizes u.region u.undo i h.0.kind; lock = h.0.lock }, rest)
    by_removal false i rest = rest

pub committed_state : (y : SystemState) (t : ℕ) → IsSome (row_of y t) → state_of (commit_logged y t) t ≡ Some Committed
committed_state y t row = ap state_in (row_here y.table t committed_row) ∙ by_row (row_of y t) row
  where
    by_row : (o : Option TxnRow) → IsSome o → state_in (option_map committed_row o) ≡ Some Committed
    by_row None h = absurd cc
    by_row (Some r) h = refl

pub commit_led : (y z : SystemState) (t : ℕ) (us : List Pending) → state_of y t ≡ Some Live → us ≡ dead_of (undos_at y.table t) → z ≡ commit_logged y t → y.stop ≡ None
    → (L : List Record) (rs : List RegionState) (v : VaultState) → MayCommit L (core rs y v) t → Commits L (core rs y v) t us (core rs z v)
commit_led y z t us lives removals is runs L rs v may =
    let c = core rs y v in
    let d = core rs (commit_logged y t) v in
    let step = commit_is_step L c t may.may.working may.may.at_work may.may.level runs lives in
    let ending = commit_follows y.sizes L t may.may.working may.may.at_work may.may.level in
    subst (λ (x : SystemState). Commits L c t us (core rs x v)) (sym is) (record {
      step = step;
      is = record {
        ending = subst (IsEnding y.sizes (L ++ Commit t ∷ []) t) (ap dead_of (sym may.undos) ∙ sym removals) ending;
        free = may.may.free;
        unbegun = λ n h.
            let old = may.unbegun n h in
            others_leave y.sizes L n (Commit t) (active_apart y.sizes L t n may.may.working may.may.at_work old (t == n) refl) ∙ old;
      };
    })
  where
    active_apart : (s : Sizes) (K : List Record) (p n : ℕ) (w : Working) → AtWork s K p w → IsUnbegun s K n → (b : Bool) → (p == n) ≡ b → b ≡ false
    active_apart s K p n w e f true q = absurd (let g : Some (Active w) ≡ Some Unbegun = sym e ∙ (ap (λ k. txn_state s k K) ((Decides-eqb p n).0 q) ∙ f) in cc)
    active_apart s K p n w e f false q = refl

pub commit_others : (y z : SystemState) (t : ℕ) → z ≡ commit_logged y t → OthersStay y t z
commit_others y z t is = subst (λ (x : SystemState). OthersStay y t x) (sym is) (λ n e. (row_apart y.table t n committed_row e, λ k. refl))

-- ---- memory that is promised
pub promise_left : (m : Promised) (t removals : ℕ) → promised_to (used (insert m t (promised_for removals)) t 9) t ≡ settle_room removals
promise_left m t removals =
    let spent = (own_changes (insert m t (promised_for removals)) t 9).1 in
    let put = (own_changes m t (promised_for removals)).0 in
    omega (arith, spent, put)

pub spends_one : (s z : Served) (t n : ℕ) (b : Block) → z ≡ record { state = solo_logged s.state t b; promised = used s.promised t solo_room } → IsPromised s t (solo_room + n) → IsPromised z t n
spends_one s z t n b is h =
    subst (λ (x : Served). IsPromised x t n) (sym is) (record {
      runs = h.runs;
      enough = let spent = (own_changes s.promised t solo_room).1 in let enough = h.enough in omega (arith, spent, enough);
    })

pub less_promised : (s : Served) (t n m : ℕ) → m ≤ n → IsPromised s t n → IsPromised s t m
less_promised s t n m le h = record { runs = h.runs; enough = let enough = h.enough in omega (arith, le, enough) }

drop_long : (us : List Pending) (i : ℕ) → i < length us → length (drop i us) ≡ length (drop (i + 1) us) + 1
drop_long [] i h = absurd (omega (arith, h))
drop_long (u ∷ us) zero h = omega arith
drop_long (u ∷ us) (suc i) h = let e : suc i + 1 ≡ suc (i + 1) = omega arith in rw e (drop_long us i (omega (arith, h)))

pub promised_further : (s z : Served) (t i : ℕ) (all : List Pending) → i < length all → IsPromised s t (settle_room (length (drop i all))) → ((n : ℕ) → IsPromised s t (solo_room + n) → IsPromised z t n)
    → IsPromised z t (settle_room (length (drop (i + 1) all)))
promised_further s z t i all less h kept =
    let long = drop_long all i less in
    kept (settle_room (length (drop (i + 1) all))) (less_promised s t (settle_room (length (drop i all))) (solo_room + settle_room (length (drop (i + 1) all))) (omega (arith, long)) h)

pub promised_still : (y : SystemState) (s z : Served) (t i : ℕ) (all : List Pending) → s.state.next ≡ y.next + i → z ≡ s → IsPromised s t (settle_room (length (drop i all))) → IsPromised z t (settle_room (length (left_behind y z.state all)))
promised_still y s z t i all next still h =
    subst (λ (us : List Pending). IsPromised z t (settle_room (length us))) (sym (left_is y z.state i all (next_still y s z i next still)))
    (subst (λ (x : Served). IsPromised x t (settle_room (length (drop i all)))) (sym still) h)

pub promised_one : (s : Served) (t i : ℕ) (all : List Pending) → i < length all → IsPromised s t (settle_room (length (drop i all))) → IsPromised s t solo_room
promised_one s t i all less h = let long = drop_long all i less in less_promised s t (settle_room (length (drop i all))) solo_room (omega (arith, long)) h
