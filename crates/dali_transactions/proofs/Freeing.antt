-- One removal of a committed transaction is freed, and its end is logged, as steps of a run.
use Rattle.std.proofs.Common.{inl, inr, ◌≡◌, ◌&&◌, ℕ, Bool, true, false, List, [], ◌∷◌, ◌++◌, Option, Some, None, IfSome, refl, ap, sym, subst, ◌∙◌, slice_get, slice_set}
use Rattle.std.proofs.lemmas.List.{append-nil}
use Rattle.dali_record.specs.declared.operations.Pending.{Pending}
use Rattle.dali_record.specs.declared.operations.Undo.{Undo}
use Rattle.dali_record.specs.declared.operations.Undo.TheVariants.{FreeCell as UndoFreeCell, ReviveCell as UndoReviveCell, Restore as UndoRestore, FreeEntry as UndoFreeEntry, ReviveEntry as UndoReviveEntry}
use Rattle.dali_record.specs.declared.records.Record.{Record}
use Rattle.dali_record.specs.declared.records.Record.TheVariants.{Commit, Ended}
use Rattle.dali_record.specs.Legal.{TxnState, Committed as Ending, is_removal, freeing_op, on_kind, txn_state}
use Rattle.dali_record.specs.Operations.{undo_op}
use Rattle.dali_record.specs.Spelling.{Is64, IsUndo}
use Rattle.dali_geometry.specs.Sizes.{Sizes}
use Rattle.dali_region.specs.State.{RegionState, touched}
use Rattle.dali_att.specs.declared.state.State.TheVariants.{Live, Committed}
use Rattle.dali_store.specs.Store.{Files as Disk}
use Rattle.dali_store.specs.declared.store.Store.{Ghosts}
use Rattle.dali_runs.specs.State.{TxnRow, SystemState, VaultState, row_of, state_of, state_in, lock_of, hold_in}
use Rattle.dali_runs.specs.Steps.{solo_logged, ended_logged}
use Rattle.dali_runs.specs.Run.{Bases, IsRow, RunsOn, covers}
use Rattle.dali_runs.specs.Wholes.{is_of_kind}
use Rattle.dali_runs.specs.Regions.{is_alive}
use Rattle.dali_runs.specs.Passes.{Audits}
use Rattle.dali_runs.specs.Courses.{Ends, IsStep}
use Rattle.dali_runs.specs.Facts.Ends.{IsEnding}
use Rattle.dali_runs.proofs.FactsLemmas.Ends.{end_is_step}
use Rattle.dali_runs.specs.Facts.Undos.{MayBePerformed}
use Rattle.dali_runs.proofs.FactsLemmas.Undos.{removals_may_be_performed}
use Rattle.dali_crash.specs.Traces.{bases_of}
use Rattle.dali_core.specs.Vault.Vaulted.{Vaulted}
use Rattle.dali_system.specs.Served.{Served}
use Rattle.dali_calls.proofs.Operating.{steps_on}
use Rattle.dali_calls.proofs.Others.{holds_put}
use Rattle.dali_calls.specs.declared.single.error.StepError.{StepError}
use Rattle.dali_calls.specs.declared.single.error.StepError.TheVariants.{Latch as LatchRefused, System as SystemRefused}
use Rattle.dali_calls.specs.Single.Operated.{IsLeftOf}
use Rattle.dali_calls.specs.Single.Refusals.{IsUnfreed, IsLatched}
use Rattle.dali_calls.specs.Single.Settling.{MayFree, IsSoloOf, IsCommitted, IsLeft, Freed}
use Rattle.dali_calls.proofs.SingleLemmas.Leading.{leads_there}
use Rattle.dali_calls.proofs.SingleLemmas.Settled.{freed_led}
use Rattle.std.proofs.lemmas.Bool.{and_parts}
use Rattle.dali_lists.proofs.Lists.{set_same}
use Rattle.dali_lists.proofs.Members.{all_weaker}
use Rattle.dali_transactions.proofs.CoursesLemmas.Making.{own_steps_make}
use Rattle.dali_clean.specs.Cleaned.{core, moment, AreDead, InRun}
use Rattle.dali_clean.specs.Others.{OthersStay}
use Rattle.dali_clean.proofs.Courses.{runs_of}
use Rattle.dali_clean.proofs.Others.{others_further}
use Rattle.dali_transactions.specs.Ended.{Walked, Walks}
use Rattle.dali_transactions.specs.Left.{Left, none_of, Cleared, FreesIn}
use Rattle.dali_transactions.specs.Steps.{CommitLogs, RemovalFrees, CommitEnds}
use Rattle.dali_transactions.specs.Guards.{is_covered, is_releasable, is_releasable_on, MayFreeOn, UpMayFree}
use Rattle.dali_transactions.proofs.Guarding.{releasable_dead, none_alive}
use Rattle.dali_transactions.proofs.Walking.{walked_more, walked_on, run_on}
use Rattle.dali_transactions.proofs.Alone.{answer_of_none, leads_front, settling_here, dead_still, ending_on, may_still, rows_left, left_on}
use Rattle.dali_transactions.proofs.Standing.{run_at, come, come_log}
use Rattle.dali_transactions.proofs.Durable.{Leaves, logged, logged_as}

-- ---- a removal
pub same_kind : (s : Sizes) (u : Pending) → is_removal u.undo ≡ true → on_kind s u.region (freeing_op u.undo) ≡ on_kind s u.region (undo_op u.undo)
same_kind s u e = by_undo u.undo e
  where
    by_undo : (o : Undo) → is_removal o ≡ true → on_kind s u.region (freeing_op o) ≡ on_kind s u.region (undo_op o)
    by_undo (UndoReviveCell c) f = refl
    by_undo (UndoReviveEntry c) f = refl
    by_undo (UndoFreeCell c) f = absurd (cc)
    by_undo (UndoFreeEntry c) f = absurd (cc)
    by_undo (UndoRestore c n ws) f = absurd (cc)

pub may_free : (y : SystemState) (t : ℕ) (u : Pending) → (is_removal u.undo ≡ true) × IsUndo u.undo → is_covered y t u ≡ true → MayFree y t u
may_free y t u removal covered =
    record {
      removal = removal.0;
      spelled = removal.1;
      kind = same_kind y.sizes u removal.0 ∙ (and_parts (is_of_kind y.sizes u) (covers (lock_of y t u.key) true) covered).0;
      lock = (and_parts (is_of_kind y.sizes u) (covers (lock_of y t u.key) true) covered).1;
    }

-- what the guard looks at
pub covered_removal : (y : SystemState) (t : ℕ) (u : Pending) → MayFree y t u → is_covered y t u ≡ true
covered_removal y t u may =
    let kind : is_of_kind y.sizes u ≡ true = sym (same_kind y.sizes u may.removal) ∙ may.kind in
    ap (λ (b : Bool). b && covers (lock_of y t u.key) true) kind ∙ may.lock

pub releasable_one : (gs : List RegionState) (u : Pending) (g : RegionState) → is_releasable_on gs u ≡ true → slice_get gs u.region ≡ Some g → IfSome g.hold (λ h. h.dead ≡ true)
releasable_one gs u g e at = releasable_dead g.hold (ap (λ (o : Option RegionState). is_releasable (hold_in o)) (sym at) ∙ e)

-- ---- the steps of one that is freed
abbrev left_walked : (t : ℕ) (us : List Pending) (gs hs : List RegionState) (y z : SystemState) (L : List Record) (v : VaultState) (a : Audits) → (left : IsLeft L (core gs y v) t us (core hs z v))
    → (w : Walked t (IsSoloOf t) [] (moment gs y L v a) hs z) × IsEnding z.sizes w.log t us
left_walked t us gs hs y z L v a left = (
  record {
    log = left.log;
    front = left.steps;
    by = leads_front t L left.log (core gs y v) (core hs z v) left.steps left.leads;
    steps = left.steps;
    is = sym (append-nil left.steps);
    course = (own_steps_make false t L left.log (core gs y v) (core hs z v) left.steps a left.leads).0;
    records = left.own;
    are = left.solos;
    logged = left.logged ∙ sym (append-nil (L ++ left.own));
  },
  left.at.ending,
)

led_there : (t : ℕ) (us : List Pending) (gs : List RegionState) (y z : SystemState) (u : Pending) (g h : RegionState) (L : List Record) (v : VaultState) → Is64 t → MayFree y t u → state_of y t ≡ Some Committed → slice_get gs u.region ≡ Some g
    → Freed u g y t h z → IsCommitted L (core gs y v) t (u ∷ us) → IsLeft L (core gs y v) t us (core (slice_set gs u.region h) z v)
led_there t us gs y z u g h L v fits may committed at o work =
    subst (λ (k : RegionState). IsLeft L (core gs y v) t us (core (slice_set gs u.region k) z v)) (sym o.region)
    (subst (λ (x : SystemState). IsLeft L (core gs y v) t us (core (slice_set gs u.region (touched o.opened)) x v)) (sym o.system)
    (freed_led L gs y v t u us o.block g.words g o.opened o.steps fits may o.made_on o.spelled at o.goes o.is_open o.runs o.fits committed work))

pub frees_in : (t : ℕ) (u : Pending) (gs hs : List RegionState) (s m : Served) (z : SystemState) (g h : RegionState) → Is64 t → Cleared t gs s hs m → MayFree s.state t u → state_of s.state t ≡ Some Committed → slice_get hs u.region ≡ Some g
    → Freed u g m.state t h z → FreesIn t u gs s.state (slice_set hs u.region h) z
frees_in t u gs hs s m z g h fits c may committed at o us bases before L v a run dead ending =
    let first = c.left.walks bases before L v a run dead in
    let run_there = run_on t none_of [] bases before L v a gs hs s.state m.state run first in
    let dead_there = dead_still t gs hs s.state m.state c.left.others dead in
    let ending_there = ending_on L first.log first.records t (u ∷ us) s.state m.state first.are first.logged c.sizes ending in
    let committed_there : state_of m.state t ≡ Some Committed = ap state_in c.row ∙ committed in
    let work = settling_here bases before first.log hs m.state v a run_there dead_there t (u ∷ us) committed_there ending_there in
    let two = left_walked t us hs (slice_set hs u.region h) m.state z first.log v a
    (led_there t us hs m.state z u g h first.log v fits (may_still t (u ∷ []) gs hs s m c (may, tt)).0 committed_there at o work) in (
      walked_on t (IsSoloOf t) [] (moment gs s.state L v a) hs (slice_set hs u.region h) m.state z (walked_more t none_of (IsSoloOf t) [] (moment gs s.state L v a) hs m.state (λ x never. absurd never) first) two.0,
      two.1,
    )

solo_others : (gs : List RegionState) (u : Pending) (y z : SystemState) (t : ℕ) (g h : RegionState) → slice_get gs u.region ≡ Some g → Freed u g y t h z → OthersStay gs y t (slice_set gs u.region h) z
solo_others gs u y z t g h at o =
    subst (λ (x : SystemState). OthersStay gs y t (slice_set gs u.region h) x) (sym o.system)
    (rows_left gs (slice_set gs u.region h) y (solo_logged y t o.block) t (λ n e. (refl, λ k. refl)) (holds_put gs u.region g h at (ap (λ (k : RegionState). k.hold) o.region)))

pub freed_others : (t : ℕ) (u : Pending) (gs hs : List RegionState) (s m : Served) (z : SystemState) (g h : RegionState) → Cleared t gs s hs m → slice_get hs u.region ≡ Some g → Freed u g m.state t h z → OthersStay gs s.state t (slice_set hs u.region h) z
freed_others t u gs hs s m z g h c at o = others_further gs hs (slice_set hs u.region h) s.state m.state z t c.left.others (solo_others hs u m.state z t g h at o)

pub freed_still : (t : ℕ) (u : Pending) (gs hs : List RegionState) (s m : Served) (z : SystemState) (g h : RegionState) → Cleared t gs s hs m → state_of s.state t ≡ Some Committed → Freed u g m.state t h z → state_of z t ≡ Some Committed
freed_still t u gs hs s m z g h c committed o = ap (λ (x : SystemState). state_of x t) o.system ∙ (ap state_in c.row ∙ committed)

-- ---- and of one that is refused
-- where memory is promised that is none whose region isn't latched
pub frees_promised : (t : ℕ) (g h : RegionState) (z : SystemState) (e : StepError) → g.hold ≡ None → IsLeftOf t g h → IsUnfreed h z e → IsLatched e → ⊥
frees_promised t g h z (SystemRefused e) none left why never = never
frees_promised t g h z (LatchRefused e) none (inl same) why latched = answer_of_none h e (ap (λ (k : RegionState). k.hold) same ∙ none) why
frees_promised t g h z (LatchRefused e) none (inr back) why latched = answer_of_none h e back.2 why

left_walks : (t r : ℕ) (gs : List RegionState) (y : SystemState) (g h : RegionState) → is_alive (state_of y t) ≡ true → slice_get gs r ≡ Some g → IsLeftOf t g h → Walks t none_of [] gs y (slice_set gs r h) y
left_walks t r gs y g h alive at (inl same) bases before L v a run dead = record {
  log = L;
  front = [];
  by = tt;
  steps = [];
  is = refl;
  course = ap (λ (rs : List RegionState). moment rs y L v a) (sym (set_same gs r h (at ∙ ap Some (sym same))));
  records = [];
  are = tt;
  logged = sym (append-nil (L ++ []) ∙ append-nil L);
}
left_walks t r gs y g h alive at (inr went) bases before L v a run dead =
    let leads = leads_there false L (core gs y v) t r g h went.0 alive at went.1 in
    record {
      log = L;
      front = steps_on r went.0;
      by = leads_front t L L (core gs y v) (core (slice_set gs r h) y v) (steps_on r went.0) leads;
      steps = steps_on r went.0;
      is = sym (append-nil (steps_on r went.0));
      course = (own_steps_make false t L L (core gs y v) (core (slice_set gs r h) y v) (steps_on r went.0) a leads).0;
      records = [];
      are = tt;
      logged = sym (append-nil (L ++ []) ∙ append-nil L);
    }

left_holds : (gs : List RegionState) (r t : ℕ) (y : SystemState) (g h : RegionState) → slice_get gs r ≡ Some g → IsLeftOf t g h → OthersStay gs y t (slice_set gs r h) y
left_holds gs r t y g h at (inl same) = subst (λ (rs : List RegionState). OthersStay gs y t rs y) (sym (set_same gs r h (at ∙ ap Some (sym same)))) (record { rows = λ u e. inl refl; locks = λ u k e. refl; holds = λ q. inl refl })
left_holds gs r t y g h at (inr went) = rows_left gs (slice_set gs r h) y y t (λ n e. (refl, λ k. refl)) (holds_put gs r g h at went.2)

pub unfreed_left : (t r : ℕ) (gs hs : List RegionState) (s m z : Served) (g h : RegionState) → Cleared t gs s hs m → state_of s.state t ≡ Some Committed → slice_get hs r ≡ Some g → z ≡ m → IsLeftOf t g h → Left none_of [] t gs s (slice_set hs r h) z
unfreed_left t r gs hs s m z g h c committed at same left =
    subst (λ (x : Served). Left none_of [] t gs s (slice_set hs r h) x) (sym same)
    (left_on none_of [] t gs hs (slice_set hs r h) s m m c.left (record {
      walks = left_walks t r hs m.state g h (ap is_alive (ap state_in c.row ∙ committed)) at left;
      others = left_holds hs r t m.state g h at left;
      promises = λ u e. refl;
    }))

pub unfreed_still : (t : ℕ) (gs hs : List RegionState) (s m z : Served) → Cleared t gs s hs m → state_of s.state t ≡ Some Committed → z ≡ m → state_of z.state t ≡ Some Committed
unfreed_still t gs hs s m z c committed same = ap (λ (x : Served). state_of x.state t) same ∙ (ap state_in c.row ∙ committed)

-- ---- at a point of a run
ending_row : (us : List Pending) (o : Option TxnState) (row : Option TxnRow) → IsRow o row → o ≡ Some (Ending us) → state_in row ≡ Some Committed
ending_row us None row is e = absurd is
ending_row us (Some (Ending ps)) row is e = ap state_in is
ending_row us (Some o) row is e = absurd (cc)

dead_releasable_on : (gs : List RegionState) (u : Pending) → AreDead gs → is_releasable_on gs u ≡ true
dead_releasable_on gs u dead = (and_parts (is_releasable_on gs u) true (none_alive gs (u ∷ []) dead)).0

module _ {V : Type 0} (means : Ghosts V) where
  pub removal_frees : (t : ℕ) (u : Pending) (gs hs : List RegionState) (y z : SystemState) (v : Vaulted V) → FreesIn t u gs y hs z → OthersStay gs y t hs z → RemovalFrees means t u gs y v hs z
  removal_frees t u gs hs y z v frees others us s B p k ending =
      let walk = frees us (bases_of s) s.log p.log p.core.vault p.audits (run_at means s B p gs y v k) k.dead ending in
      let come_there = come means t (IsSoloOf t) [] s B p gs hs y z v k walk.0 (dead_still t gs hs y z others k.dead) in
      record { come = come_there; ending = subst (λ (l : List Record). IsEnding z.sizes l t us) (sym (come_log means t (IsSoloOf t) [] s B p gs hs y z v k walk.0 (dead_still t gs hs y z others k.dead))) walk.1 }

  pub commit_logs : (gs : List RegionState) (y y1 : SystemState) (v : Vaulted V) (t : ℕ) (us : List Pending) → state_of y t ≡ Some Live → Leaves y y1 t us → CommitLogs means gs y v t us
  commit_logs gs y y1 v t us lives leaves s B p k may =
      let found = logged_as means s B p gs y y1 v t us k may leaves in
      let l = logged means s B p gs y v t k may lives found.0 in
      record {
        logged = l;
        ending = subst (λ (x : List Record). IsEnding y.sizes x t us) (sym l.log) (subst (λ x. IsEnding x (p.log ++ Commit t ∷ []) t us) (ap (λ (x : SystemState). x.sizes) found.1) found.2);
      }

  -- ---- what is left to a committed transaction
  pub up_may_free : UpMayFree means
  up_may_free s B p gs y v k t us ending =
      let run = run_at means s B p gs y v k in
      let here : RunsOn (bases_of s) p.log (core gs y p.core.vault) = runs_of (bases_of s) s.log (moment gs y p.log p.core.vault p.audits) run in
      all_weaker (λ (u : Pending). (is_removal u.undo ≡ true) × MayBePerformed y t u) (MayFreeOn gs y t) us
      (λ u may. record {
        whole = run.whole.regions;
        committed = ending_row us (txn_state y.sizes t p.log) (row_of y t) (here.table t) ending;
        may = record { removal = may.0; spelled = may.1.spelled; kind = same_kind y.sizes u may.0 ∙ may.1.kind; lock = may.1.lock };
        releasable = dead_releasable_on gs u k.dead;
      })
      (removals_may_be_performed (bases_of s) p.log (core gs y p.core.vault) here t us ending)

  -- ---- the end
  ended_walked : (t : ℕ) (gs : List RegionState) (y : SystemState) (bases : Bases) (before L : List Record) (v : VaultState) (a : Audits) → InRun bases before (moment gs y L v a) → AreDead gs → y.stop ≡ None → IsEnding y.sizes L t []
      → Walked t none_of (Ended t ∷ []) (moment gs y L v a) gs (ended_logged y t)
  ended_walked t gs y bases before L v a run dead runs ending =
      let here : RunsOn bases L (core gs y v) = runs_of bases before (moment gs y L v a) run in
      let committed : state_of y t ≡ Some Committed = ending_row [] (txn_state y.sizes t L) (row_of y t) (here.table t) ending in
      let work = settling_here bases before L gs y v a run dead t [] committed ending in
      let step : IsStep L (core gs y v) (Ends t) (L ++ Ended t ∷ []) (core gs (ended_logged y t) v) = end_is_step bases L (core gs y v) t here ending runs work.free in
      record {
        log = L ++ Ended t ∷ [];
        front = [];
        by = tt;
        steps = Ends t ∷ [];
        is = refl;
        course = (moment gs (ended_logged y t) (L ++ Ended t ∷ []) v a, (step, refl), refl);
        records = [];
        are = tt;
        logged = ap (λ (l : List Record). l ++ Ended t ∷ []) (sym (append-nil L));
      }

  pub commit_ends : (t : ℕ) (gs : List RegionState) (y z : SystemState) (v : Vaulted V) → y.stop ≡ None → z ≡ ended_logged y t → CommitEnds means t gs y v gs z
  commit_ends t gs y z v runs is =
      subst (λ (x : SystemState). CommitEnds means t gs y v gs x) (sym is) (λ s B p k ending.
      come means t none_of (Ended t ∷ []) s B p gs gs y (ended_logged y t) v k (ended_walked t gs y (bases_of s) s.log p.log p.core.vault p.audits (run_at means s B p gs y v k) k.dead runs ending) k.dead)
