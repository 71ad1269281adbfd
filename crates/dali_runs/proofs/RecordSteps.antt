-- Each step that logs a record of a transaction keeps a run.
use Rattle.std.proofs.Common.{◌≡◌, ℕ, ◌+◌, ◌<◌, ◌≤◌, Bool, true, false, cond, List, [], ◌∷◌, ◌++◌, length, Option, Some, None, refl, ap, sym, subst, ◌∙◌, ◌⊎◌, inl, inr, ⊎_elim, arith}
use Rattle.std.specs.Prelude.{IsSome, is_some, ◌==◌, not, slice_get, slice_set, ◌^◌}
use Rattle.std.proofs.lemmas.List.{length-set}
use Rattle.std.proofs.lemmas.Bool.{cases_lt, ne_eqb, le-leb, eqb-true, or_cases, eq-eqb}
use Rattle.dali_geometry.specs.Sizes.{Sizes}
use Rattle.dali_record.specs.declared.operations.Block.{Block}
use Rattle.dali_record.specs.declared.operations.Pending.{Pending}
use Rattle.dali_record.specs.declared.records.Call.{Call}
use Rattle.dali_record.specs.declared.records.Answer.{Answer}
use Rattle.dali_record.specs.declared.records.Record.{Record}
use Rattle.dali_record.specs.declared.records.Record.TheVariants.{Format, Begin, Forward, Done, Commit, Ended, Solo, AuditClean, AuditFail, Restarted, Back}
use Rattle.dali_record.specs.Log.{Touch, touch_of, undo_added, drop_last, last_of}
use Rattle.dali_record.specs.Epochs.{last_epoch}
use Rattle.dali_record.specs.Calls.{Progress, Fresh, follow}
use Rattle.dali_record.specs.Spelling.{record_length, CanBeSpelled}
use Rattle.dali_record.specs.Operations.{undo_op}
use Rattle.dali_record.specs.Legal.{TxnState, Unbegun, Active, Committed as Ending, Over, Working, txn_state, txn_next, txn_step, concerns, Rules, rules_state, rules_next, runs, passes, has_room, room, on_kind, either_state, allowed, goes_on, starts, forward, back, is_onward, is_level, is_of, is_answer, is_none_left, dead_of, freed, rested}
use Rattle.dali_record.proofs.Pushes.{txn_state_push}
use Rattle.dali_locks.specs.declared.mode.Mode.{Mode}
use Rattle.dali_att.specs.declared.state.State.{State}
use Rattle.dali_att.specs.declared.state.State.TheVariants.{Live, Committed}
use Rattle.dali_runs.specs.State.{TxnRow, SystemState, CoreState}
use Rattle.dali_runs.specs.Run.{is_committed, IsRow, TableRun, holds, RegionRun, Bases, base_at, RunsOn}
use Rattle.dali_region.specs.State.{RegionState, touched}
use Rattle.dali_runs.specs.Steps.{committed_row, undo_kept}
use Rattle.dali_runs.specs.Keeps.{IsNext, MayLogBlock, BeginKeeps, OpKeeps, BackKeeps, SoloKeeps, DoneKeeps, CommitKeeps, EndedKeeps}
use Rattle.dali_runs.proofs.OneMore.{TableRun-push, is_plain, one_more}
use Rattle.dali_runs.proofs.Logging.{Fitting, RunsOn-logged, TableRun-one, regions_quiet, regions_touched}
use Rattle.dali_runs.specs.Counts.Counts.{next_with}
use Rattle.dali_runs.proofs.CountsLemmas.SmallLogs.{next_is_small, never_solo}
use Rattle.dali_runs.proofs.Tables.{added, changed, dropped, ended, kept, some_changed, some_with, still_there, with_undos}
use Rattle.std.specs.FinMap.{get, insert, remove}
use Rattle.std.specs.Option.{option_map}
use Rattle.dali_lists.proofs.Numbers.{eqb-self}
use Rattle.dali_att.specs.Table.{Table, fresh_row, with_row, without_last}
use Rattle.dali_locks.specs.Locks.{Locks, locks_without}
use Rattle.dali_locks.proofs.Kept.{locks_without_at}

-- ---- the rules of the whole log
-- the engine runs: no audit failed in this epoch
pub not_failed : (bases : Bases) (L : List Record) (c : CoreState) (run : RunsOn bases L c) → c.system.stop ≡ None → run.counts.now.failed ≡ false
not_failed bases L c run none = rw none at (run.stop.failed run.counts.now run.counts.rules)

has_it : (bases : Bases) (L : List Record) (c : CoreState) (run : RunsOn bases L c) (x : Record) → c.system.end + record_length x ≤ c.system.limit → has_room run.counts.now x ≡ true
has_it bases L c run x h = le-leb (run.counts.now.weight + record_length x) room (omega (arith, h, run.counts.end, run.counts.limit))

-- a transaction to which the record is allowed, where it wouldn't be before a begin, has a number that was given
given : (bases : Bases) (L : List Record) (c : CoreState) (run : RunsOn bases L c) (t : ℕ) (x : Record) → IsNext c.system.sizes L t x → txn_step c.system.sizes t Unbegun x ≡ None → t < run.counts.now.next
given bases L c run t x next none = ⊎_elim (λ h. h) (λ h. absurd (late h)) (cases_lt t run.counts.now.next)
  where
    late : run.counts.now.next ≤ t → ⊥
    late h =
        let gone : txn_state c.system.sizes t (L ++ x ∷ []) ≡ None = txn_state_push c.system.sizes t L x ∙ (ap (λ o. txn_next c.system.sizes t o x) (run.counts.fresh t h) ∙ none) in
        let is : is_some (txn_state c.system.sizes t (L ++ x ∷ [])) ≡ true = next in
        let isnt : is_some (txn_state c.system.sizes t (L ++ x ∷ [])) ≡ false = ap is_some gone in
        absurd (cc)

next_at : (s : Sizes) (L : List Record) (t : ℕ) (x : Record) → IsNext s L t x → IsSome (txn_next s t (txn_state s t L) x)
next_at s L t x h = rw (txn_state_push s t L x) at h

apart_above : (t n u : ℕ) → t < n → n ≤ u → (t == u) ≡ false
apart_above t n u h k = ne_eqb t u (λ e. absurd (omega (arith, h, k, e)))

-- in an epoch without a failed audit, behind the first record
rule_at : (s : Sizes) (o : Option Rules) (now : Rules) (x : Record) → is_plain x ≡ true → o ≡ Some now → (now.count == 0) ≡ false → now.failed ≡ false → rules_next s o x ≡ runs s now x
rule_at s o now (Format i h) p e f g = absurd (cc)
rule_at s o now (AuditClean b) p e f g = absurd (cc)
rule_at s o now (AuditFail b rs) p e f g = absurd (cc)
rule_at s o now (Restarted rs ds) p e f g = absurd (cc)
rule_at s o now _ p e f g = rw (e, f, g) refl

pub rule_of : (bases : Bases) (L : List Record) (c : CoreState) (run : RunsOn bases L c) (x : Record) → is_plain x ≡ true → c.system.stop ≡ None → rules_next c.system.sizes (rules_state c.system.sizes L) x ≡ runs c.system.sizes run.counts.now x
rule_of bases L c run x plain none = rule_at c.system.sizes (rules_state c.system.sizes L) run.counts.now x plain run.counts.rules run.counts.some (not_failed bases L c run none)

-- ---- begin
begin_rule : (s : Sizes) (now : Rules) (t : ℕ) → (t == now.next) ≡ true → has_room now (Begin t) ≡ true → runs s now (Begin t) ≡ Some (record (passes now (Begin t)) { next = now.next + 1 })
begin_rule s now t e f = rw (e, f) refl

begin_row : (s : Sizes) (t : ℕ) (o : Option TxnState) → o ≡ Some Unbegun → IsRow (txn_next s t o (Begin t)) (Some (record { state = Live; undos = [] }))
begin_row s t o e = rw (e, eqb-self t) (Live, refl, refl)

pub begin_keeps : BeginKeeps
begin_keeps bases L c run may = RunsOn-logged bases L c run (Begin t) (insert c.system.table t fresh_row) c.system.locks c.regions (record {
  plain = refl;
  then = record (passes now (Begin t)) { next = now.next + 1 };
  rule = rule_of bases L c run (Begin t) refl may.runs ∙ begin_rule s now t (eq-eqb t now.next run.counts.next) (has_it bases L c run (Begin t) may.room);
  count = refl;
  weight = refl;
  next = refl;
  failed = refl;
  grows = omega arith;
  known = λ u h. ne_eqb t u (λ e. absurd (omega (arith, h, e, run.counts.next)));
  spelled = omega (arith, run.counts.next, next_is_small s L now run.log.legal run.counts.rules);
  reads = λ a e. absurd (cc);
  table = TableRun-one s L (Begin t) c.system.table t (Some fresh_row) _ run.table (added c.system.table t fresh_row) (λ u. refl) (begin_row s t (txn_state s t L) (run.counts.fresh t (omega (arith, run.counts.next))));
  keeps = λ u k. inr refl;
  fewer = λ u k m e. (e, still_there c.system.table t (Some fresh_row) _ (added c.system.table t fresh_row) (λ h. refl) u (run.locks.owned u k m e));
  owner = λ a e. absurd (cc);
  whole = refl;
  regions = regions_quiet bases L c run (Begin t) refl refl;
})
  where
    s : Sizes
    s = c.system.sizes

    t : ℕ
    t = c.system.next

    now : Rules
    now = run.counts.now

-- ---- rows
abbrev Gives : Option TxnRow → Option TxnState → Type 0
Gives row o = IsSome o → IsRow o row

gives_none : (row : Option TxnRow) → Gives row None
gives_none row h = absurd (cc)

gives_allowed : (row : Option TxnRow) (c : Bool) (o : Option TxnState) → Gives row o → Gives row (allowed c o)
gives_allowed row true o h = h
gives_allowed row false o h = gives_none row

gives_either : (row : Option TxnRow) (o p : Option TxnState) → Gives row o → Gives row p → Gives row (either_state o p)
gives_either row None p h g = g
gives_either row (Some x) p h g = h

gives_goes_on : (st : State) → is_committed st ≡ false → (w : Working) (b : Block) (o : Option Progress) → Gives (Some (record { state = st; undos = w.undos ++ undo_added b b.undo })) (goes_on w b o)
gives_goes_on st n w b None h = gives_none (Some (record { state = st; undos = w.undos ++ undo_added b b.undo })) h
gives_goes_on st n w b (Some p) h = (st, n, refl)

gives_starts : (st : State) → is_committed st ≡ false → (w : Working) (b : Block) (o : Option Progress) → Gives (Some (record { state = st; undos = w.undos ++ undo_added b b.undo })) (starts w b o)
gives_starts st n w b None h = gives_none (Some (record { state = st; undos = w.undos ++ undo_added b b.undo })) h
gives_starts st n w b (Some p) h = (st, n, refl)

gives_forward : (s : Sizes) (t : ℕ) (st : State) → is_committed st ≡ false → (w : Working) (b : Block) → Gives (Some (record { state = st; undos = w.undos ++ undo_added b b.undo })) (forward s t w b)
gives_forward s t st n w b =
    gives_either _ (allowed (is_onward w.way) (goes_on w b (follow s t w.progress b))) (allowed (is_level w) (starts w b (follow s t Fresh b)))
    (gives_allowed _ (is_onward w.way) (goes_on w b (follow s t w.progress b)) (gives_goes_on st n w b (follow s t w.progress b)))
    (gives_allowed _ (is_level w) (starts w b (follow s t Fresh b)) (gives_starts st n w b (follow s t Fresh b)))

gives_back : (st : State) → is_committed st ≡ false → (w : Working) (b : Block) (o : Option Pending) → Gives (Some (record { state = st; undos = drop_last w.undos })) (back w b o)
gives_back st n w b None h = gives_none (Some (record { state = st; undos = drop_last w.undos })) h
gives_back st n w b (Some p) h = gives_allowed (Some (record { state = st; undos = drop_last w.undos })) (is_of (undo_op p.undo) p b) (Some (Active _)) (λ k. (st, n, refl)) h

gives_freed : (b : Block) (ps : List Pending) → Gives (Some (record { state = Committed; undos = [] })) (freed b ps)
gives_freed b [] h = gives_none (Some (record { state = Committed; undos = [] })) h
gives_freed b (p ∷ ps) h = gives_allowed (Some (record { state = Committed; undos = [] })) _ (Some (Ending ps)) (λ k. refl) h

pub never : (c : Bool) (o : Option TxnState) (row : Option TxnRow) → c ≡ true → IsSome (allowed (not c) o) → IsRow (allowed (not c) o) row
never true o row e h = absurd (cc)
never false o row e h = absurd (cc)

pub op_row : (s : Sizes) (t : ℕ) (b : Block) (o : Option TxnState) (row : Option TxnRow) → IsRow o row → IsSome (txn_next s t o (Forward t b)) → IsRow (txn_next s t o (Forward t b)) (with_undos (λ us. us ++ undo_added b b.undo) row)
op_row s t b None row r h = absurd r
op_row s t b (Some Unbegun) row r h = never (t == t) _ _ (eqb-self t) h
op_row s t b (Some (Active w)) row r h = let h2 = rw (eqb-self t) at h in rw (eqb-self t, r.2) (gives_forward s t r.0 r.1 w b h2)
op_row s t b (Some (Ending ps)) row r h = never (t == t) _ _ (eqb-self t) h
op_row s t b (Some Over) row r h = never (t == t) _ _ (eqb-self t) h

pub back_row : (s : Sizes) (t : ℕ) (b : Block) (o : Option TxnState) (row : Option TxnRow) → IsRow o row → IsSome (txn_next s t o (Back t b)) → IsRow (txn_next s t o (Back t b)) (with_undos drop_last row)
back_row s t b None row r h = absurd r
back_row s t b (Some Unbegun) row r h = never (t == t) _ _ (eqb-self t) h
back_row s t b (Some (Active w)) row r h = let h2 = rw (eqb-self t) at h in rw (eqb-self t, r.2) (gives_back r.0 r.1 w b (last_of w.undos) h2)
back_row s t b (Some (Ending ps)) row r h = never (t == t) _ _ (eqb-self t) h
back_row s t b (Some Over) row r h = never (t == t) _ _ (eqb-self t) h

pub done_row : (s : Sizes) (t : ℕ) (k : Call) (a : Answer) (o : Option TxnState) (row : Option TxnRow) → IsRow o row → IsSome (txn_next s t o (Done t k a)) → IsRow (txn_next s t o (Done t k a)) row
done_row s t k a None row r h = absurd r
done_row s t k a (Some Unbegun) row r h = never (t == t) _ _ (eqb-self t) h
done_row s t k a (Some (Active w)) row r h = let h2 = rw (eqb-self t) at h in rw (eqb-self t, r.2) (gives_allowed (Some (record { state = r.0; undos = w.undos })) (is_answer s w k a) (Some (rested w)) (λ q. (r.0, r.1, refl)) h2)
done_row s t k a (Some (Ending ps)) row r h = never (t == t) _ _ (eqb-self t) h
done_row s t k a (Some Over) row r h = never (t == t) _ _ (eqb-self t) h

pub commit_row : (s : Sizes) (t : ℕ) (o : Option TxnState) (row : Option TxnRow) → IsRow o row → IsSome (txn_next s t o (Commit t)) → IsRow (txn_next s t o (Commit t)) (option_map committed_row row)
commit_row s t None row r h = absurd r
commit_row s t (Some Unbegun) row r h = never (t == t) _ _ (eqb-self t) h
commit_row s t (Some (Active w)) row r h = let h2 = rw (eqb-self t) at h in rw (eqb-self t, r.2) (gives_allowed (Some (record { state = Committed; undos = [] })) (is_level w) (Some (Ending (dead_of w.undos))) (λ q. refl) h2)
commit_row s t (Some (Ending ps)) row r h = never (t == t) _ _ (eqb-self t) h
commit_row s t (Some Over) row r h = never (t == t) _ _ (eqb-self t) h

pub ended_row : (s : Sizes) (t : ℕ) (o : Option TxnState) (row : Option TxnRow) → IsRow o row → IsSome (txn_next s t o (Ended t)) → IsRow (txn_next s t o (Ended t)) None
ended_row s t None row r h = absurd r
ended_row s t (Some Unbegun) row r h = never (t == t) _ _ (eqb-self t) h
ended_row s t (Some (Active w)) row r h = let h2 = rw (eqb-self t) at h in rw (eqb-self t) (gives_allowed None (is_none_left w.undos) (Some Over) (λ q. refl) h2)
ended_row s t (Some (Ending ps)) row r h = let h2 = rw (eqb-self t) at h in rw (eqb-self t) (gives_allowed None (is_none_left ps) (Some Over) (λ q. refl) h2)
ended_row s t (Some Over) row r h = never (t == t) _ _ (eqb-self t) h

TableRun-same :
    (s : Sizes) (L : List Record) (x : Record) (table : Table Pending) (t : ℕ) → TableRun s L table
    → ((u : ℕ) → concerns u x ≡ (t == u))
    → IsRow (txn_next s t (txn_state s t L) x) (get table t)
    → TableRun s (L ++ x ∷ []) table
TableRun-same s L x table t run only here =
    TableRun-push s L x table table run
    (λ u e. let same : (t == u) ≡ true = sym (only u) ∙ e in subst (λ v. IsRow (txn_next s v (txn_state s v L) x) (get table v)) (eqb-true t u same) here)
    (λ u e. refl)

of_touch : {t p : ℕ} {b : Block} (y : SystemState) (a : Touch) → Some (record { txn = t; owner = p; block = b }) ≡ Some a → holds y p b ≡ true → holds y a.owner a.block ≡ true
of_touch {t = t} {p = p} {b = b} y a e h = let same : record { txn = t; owner = p; block = b } ≡ a = cc in subst (λ (q : Touch). holds y q.owner q.block ≡ true) same h

of_open : (t p : ℕ) (b : Block) → not (b.read == 0) ≡ true → (a : Touch) → Some (record { txn = t; owner = p; block = b }) ≡ Some a → not (a.block.read == 0) ≡ true
of_open t p b h a e = let same : record { txn = t; owner = p; block = b } ≡ a = cc in subst (λ (q : Touch). not (q.block.read == 0) ≡ true) same h

-- ---- a record of a transaction that has begun, which gives no number
fits_own :
    (bases : Bases) (L : List Record) (c : CoreState) (run : RunsOn bases L c)
    (t : ℕ) (x : Record) (T : Table Pending) (K : Locks) (rs : List RegionState)
    → is_plain x ≡ true → run.counts.now.next ≡ next_with x run.counts.now.next → ((u : ℕ) → concerns u x ≡ (t == u))
    → t < run.counts.now.next
    → rules_next c.system.sizes (rules_state c.system.sizes L) x ≡ Some (passes run.counts.now x)
    → CanBeSpelled x
    → TableRun c.system.sizes (L ++ x ∷ []) T
    → ((u k : ℕ) → (x ≡ Ended u) ⊎ (get K (u, k) ≡ get c.system.locks (u, k)))
    → ((u k : ℕ) (m : Mode) → get K (u, k) ≡ Some m → (get c.system.locks (u, k) ≡ Some m) × IsSome (get T u))
    → ((a : Touch) → touch_of x ≡ Some a → (not (a.block.read == 0) ≡ true) × (holds c.system a.owner a.block ≡ true))
    → length rs ≡ length c.regions
    → ((r : ℕ) (g : RegionState) → slice_get rs r ≡ Some g → RegionRun (base_at bases L) (one_more (last_epoch L) x) r g)
    → Fitting bases L c x run.counts.now T K rs
fits_own bases L c run t x T K rs plain same only was rule spelled table keeps fewer touch whole regions = record {
  plain = plain;
  then = passes run.counts.now x;
  rule = rule;
  count = refl;
  weight = refl;
  next = same;
  failed = refl;
  grows = omega arith;
  known = λ u h. only u ∙ apart_above t run.counts.now.next u was h;
  spelled = spelled;
  reads = λ a e. (touch a e).0;
  table = table;
  keeps = keeps;
  fewer = fewer;
  owner = λ a e. (touch a e).1;
  whole = whole;
  regions = regions;
}

-- with a block, which touches its region
fits_touching :
    (bases : Bases) (L : List Record) (c : CoreState) (run : RunsOn bases L c)
    (t : ℕ) (x : Record) (b : Block) (g : RegionState) (T : Table Pending)
    → is_plain x ≡ true → run.counts.now.next ≡ next_with x run.counts.now.next → ((u : ℕ) → concerns u x ≡ (t == u))
    → touch_of x ≡ Some (record { txn = t; owner = t; block = b })
    → txn_step c.system.sizes t Unbegun x ≡ None
    → MayLogBlock L c x t b g
    → rules_next c.system.sizes (rules_state c.system.sizes L) x ≡ Some (passes run.counts.now x)
    → TableRun c.system.sizes (L ++ x ∷ []) T
    → ((u k : ℕ) (m : Mode) → get c.system.locks (u, k) ≡ Some m → IsSome (get T u))
    → Fitting bases L c x run.counts.now T c.system.locks (slice_set c.regions b.region (touched g))
fits_touching bases L c run t x b g T plain same only is none may rule table there =
    fits_own bases L c run t x T c.system.locks (slice_set c.regions b.region (touched g)) plain same only
    (given bases L c run t x may.next none)
    rule
    may.spelled
    table
    (λ u k. inr refl)
    (λ u k m e. (e, there u k m e))
    (λ a e. (of_open t t b may.is_open.reads a (sym is ∙ e), of_touch {t = t} {p = t} {b = b} c.system a (sym is ∙ e) may.locked))
    (length-set c.regions b.region (touched g))
    (regions_touched bases L c run x (record { txn = t; owner = t; block = b }) g t plain is may.at may.is_open)

-- ---- an operation
op_rule : (s : Sizes) (now : Rules) (t : ℕ) (b : Block) → on_kind s b.region b.op ≡ true → has_room now (Forward t b) ≡ true → runs s now (Forward t b) ≡ Some (passes now (Forward t b))
op_rule s now t b e f = rw (e, f) refl

pub op_keeps : OpKeeps
op_keeps bases L c t b g run has may =
    RunsOn-logged bases L c run x (undo_kept c.system.table t b b.undo) c.system.locks (slice_set c.regions b.region (touched g))
    (fits_touching bases L c run t x b g (undo_kept c.system.table t b b.undo) refl refl (λ u. refl) refl (rw (eqb-self t) refl) may
    (rule_of bases L c run x refl may.runs ∙ op_rule s run.counts.now t b may.kind (has_it bases L c run x has.room))
    (TableRun-one s L x c.system.table t _ _ run.table (kept c.system.table t b b.undo) (λ u. refl) (op_row s t b (txn_state s t L) (get c.system.table t) (run.table t) (next_at s L t x may.next)))
    (λ u k m e. still_there c.system.table t _ _ (kept c.system.table t b b.undo) (some_with _ (get c.system.table t)) u (run.locks.owned u k m e)))
  where
    s : Sizes
    s = c.system.sizes

    x : Record
    x = Forward t b

-- ---- a taking back
back_rule : (s : Sizes) (now : Rules) (t : ℕ) (b : Block) → on_kind s b.region b.op ≡ true → runs s now (Back t b) ≡ Some (passes now (Back t b))
back_rule s now t b e = rw e refl

pub back_keeps : BackKeeps
back_keeps bases L c t b g run may =
    RunsOn-logged bases L c run x (with_row c.system.table t without_last) c.system.locks (slice_set c.regions b.region (touched g))
    (fits_touching bases L c run t x b g (with_row c.system.table t without_last) refl refl (λ u. refl) refl (rw (eqb-self t) refl) may
    (rule_of bases L c run x refl may.runs ∙ back_rule s run.counts.now t b may.kind)
    (TableRun-one s L x c.system.table t _ _ run.table (dropped c.system.table t) (λ u. refl) (back_row s t b (txn_state s t L) (get c.system.table t) (run.table t) (next_at s L t x may.next)))
    (λ u k m e. still_there c.system.table t _ _ (dropped c.system.table t) (some_with drop_last (get c.system.table t)) u (run.locks.owned u k m e)))
  where
    s : Sizes
    s = c.system.sizes

    x : Record
    x = Back t b

-- ---- the end of a call
done_rule : (s : Sizes) (now : Rules) (t : ℕ) (k : Call) (a : Answer) → has_room now (Done t k a) ≡ true → runs s now (Done t k a) ≡ Some (passes now (Done t k a))
done_rule s now t k a e = rw e refl

pub done_keeps : DoneKeeps
done_keeps bases L c t k a run may spelled next =
    RunsOn-logged bases L c run x c.system.table c.system.locks c.regions
    (fits_own bases L c run t x c.system.table c.system.locks c.regions refl refl (λ u. refl) (given bases L c run t x next (rw (eqb-self t) refl))
    (rule_of bases L c run x refl may.runs ∙ done_rule s run.counts.now t k a (has_it bases L c run x may.room))
    spelled
    (TableRun-same s L x c.system.table t run.table (λ u. refl) (done_row s t k a (txn_state s t L) (get c.system.table t) (run.table t) (next_at s L t x next)))
    (λ u l. inr refl)
    (λ u l m e. (e, run.locks.owned u l m e))
    (λ q e. absurd (cc)) refl (regions_quiet bases L c run x refl refl))
  where
    s : Sizes
    s = c.system.sizes

    x : Record
    x = Done t k a

-- ---- the commit record
pub commit_keeps : CommitKeeps
commit_keeps bases L c t run runs next =
    RunsOn-logged bases L c run x (with_row c.system.table t committed_row) c.system.locks c.regions
    (fits_own bases L c run t x (with_row c.system.table t committed_row) c.system.locks c.regions refl refl (λ u. refl) was
    (rule_of bases L c run x refl runs)
    small
    (TableRun-one s L x c.system.table t _ _ run.table (changed c.system.table t committed_row) (λ u. refl) (commit_row s t (txn_state s t L) (get c.system.table t) (run.table t) (next_at s L t x next)))
    (λ u l. inr refl)
    (λ u l m e. (e, still_there c.system.table t _ _ (changed c.system.table t committed_row) (some_changed committed_row (get c.system.table t)) u (run.locks.owned u l m e)))
    (λ q e. absurd (cc)) refl (regions_quiet bases L c run x refl refl))
  where
    s : Sizes
    s = c.system.sizes

    x : Record
    x = Commit t

    was : t < run.counts.now.next
    was = given bases L c run t x next (rw (eqb-self t) refl)

    small : t < 2 ^ 64
    small = omega (arith, was, next_is_small s L run.counts.now run.log.legal run.counts.rules)

-- ---- the end of a transaction
pub ended_keeps : EndedKeeps
ended_keeps bases L c t run runs next =
    RunsOn-logged bases L c run x (remove c.system.table t) (locks_without c.system.locks t) c.regions
    (fits_own bases L c run t x (remove c.system.table t) (locks_without c.system.locks t) c.regions refl refl (λ u. refl) was
    (rule_of bases L c run x refl runs)
    small
    (TableRun-one s L x c.system.table t None _ run.table (ended c.system.table t) (λ u. refl) (ended_row s t (txn_state s t L) (get c.system.table t) (run.table t) (next_at s L t x next)))
    (λ u l. keeps u l (t == u) refl)
    fewer
    (λ q e. absurd (cc)) refl (regions_quiet bases L c run x refl refl))
  where
    s : Sizes
    s = c.system.sizes

    x : Record
    x = Ended t

    was : t < run.counts.now.next
    was = given bases L c run t x next (rw (eqb-self t) refl)

    small : t < 2 ^ 64
    small = omega (arith, was, next_is_small s L run.counts.now run.log.legal run.counts.rules)

    locks : (u l : ℕ) → get (locks_without c.system.locks t) (u, l) ≡ cond (t == u) None (get c.system.locks (u, l))
    locks u l = locks_without_at c.system.locks t u l

    keeps : (u l : ℕ) (b : Bool) → (t == u) ≡ b → (Ended t ≡ Ended u) ⊎ (get (locks_without c.system.locks t) (u, l) ≡ get c.system.locks (u, l))
    keeps u l true e = inl (ap Ended (eqb-true t u e))
    keeps u l false e = inr (locks u l ∙ ap (λ (b : Bool). cond b None (get c.system.locks (u, l))) e)

    fewer_at : (u l : ℕ) (m : Mode) (b : Bool) → (t == u) ≡ b → cond b None (get c.system.locks (u, l)) ≡ Some m → (get c.system.locks (u, l) ≡ Some m) × IsSome (cond b None (get c.system.table u))
    fewer_at u l m true e f = absurd (cc)
    fewer_at u l m false e f = (f, run.locks.owned u l m f)

    fewer : (u l : ℕ) (m : Mode) → get (locks_without c.system.locks t) (u, l) ≡ Some m → (get c.system.locks (u, l) ≡ Some m) × IsSome (get (remove c.system.table t) u)
    fewer u l m e = rw (ended c.system.table t u) (fewer_at u l m (t == u) refl (sym (locks u l) ∙ e))

-- ---- a solo
solo_rule : (s : Sizes) (now : Rules) (n p : ℕ) (b : Block) → (n == now.next) ≡ true → on_kind s b.region b.op ≡ true → runs s now (Solo n p b) ≡ Some (record (passes now (Solo n p b)) { next = now.next + 1 })
solo_rule s now n p b e f = rw (e, f) refl

-- the parent's row
pub solo_row : (s : Sizes) (n p : ℕ) (b : Block) (o : Option TxnState) (row : Option TxnRow) → IsRow o row → (n == p) ≡ false → IsSome (txn_next s p o (Solo n p b)) → IsRow (txn_next s p o (Solo n p b)) row
solo_row s n p b None row r e h = absurd r
solo_row s n p b (Some Unbegun) row r e h = let h2 = rw (e, eqb-self p) at h in absurd (cc)
solo_row s n p b (Some (Active w)) row r e h = let h2 = rw (e, eqb-self p) at h in absurd (cc)
solo_row s n p b (Some (Ending ps)) row r e h = let h2 = rw (e, eqb-self p) at h in rw (e, eqb-self p, r) (gives_freed b ps h2)
solo_row s n p b (Some Over) row r e h = let h2 = rw (e, eqb-self p) at h in absurd (cc)

-- the solo's own number
solo_own : (s : Sizes) (n p : ℕ) (b : Block) (o : Option TxnState) (row : Option TxnRow) → o ≡ Some Unbegun → IsRow o row → (p == n) ≡ false → IsRow (txn_next s n o (Solo n p b)) row
solo_own s n p b o row e r apart = let r2 : row ≡ None = rw e at r in rw (e, eqb-self n, apart) r2

pub solo_keeps : SoloKeeps
solo_keeps bases L c p b g run may = RunsOn-logged bases L c run x c.system.table c.system.locks (slice_set c.regions b.region (touched g)) (record {
  plain = refl;
  then = record (passes now x) { next = now.next + 1 };
  rule = rule_of bases L c run x refl may.runs ∙ solo_rule s now n p b (eq-eqb n now.next run.counts.next) may.kind;
  count = refl;
  weight = refl;
  next = refl;
  failed = refl;
  grows = omega arith;
  known = λ u h. rw (apart_above n (now.next + 1) u (omega (arith, run.counts.next)) h, apart_above p now.next u old (omega (arith, h))) refl;
  spelled = may.spelled;
  reads = of_open n p b may.is_open.reads;
  table = TableRun-push s L x c.system.table c.system.table run.table
      (λ u e. ⊎_elim
      (λ f. subst (λ v. IsRow (txn_next s v (txn_state s v L) x) (get c.system.table v)) (eqb-true n u f) (solo_own s n p b (txn_state s n L) (get c.system.table n) (run.counts.fresh n (omega (arith, run.counts.next))) (run.table n) (ne_eqb p n (λ k. absurd (omega (arith, k, old, run.counts.next))))))
      (λ f. subst (λ v. IsRow (txn_next s v (txn_state s v L) x) (get c.system.table v)) (eqb-true p u f) (solo_row s n p b (txn_state s p L) (get c.system.table p) (run.table p) (ne_eqb n p (λ k. absurd (omega (arith, k, old, run.counts.next)))) (next_at s L p x may.next)))
      (or_cases (n == u) (p == u) e))
      (λ u e. refl);
  keeps = λ u k. inr refl;
  fewer = λ u k m e. (e, run.locks.owned u k m e);
  owner = λ a e. of_touch c.system a e may.locked;
  whole = length-set c.regions b.region (touched g);
  regions = regions_touched bases L c run x (record { txn = n; owner = p; block = b }) g p refl refl may.at may.is_open;
})
  where
    s : Sizes
    s = c.system.sizes

    n : ℕ
    n = c.system.next

    now : Rules
    now = run.counts.now

    x : Record
    x = Solo n p b

    old : p < now.next
    old = given bases L c run p x may.next (never_solo s n p b)
