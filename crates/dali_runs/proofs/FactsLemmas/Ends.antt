-- The records of a transaction outside its calls, over the rules of the log.
use Rattle.std.proofs.Common.{◌≡◌, ℕ, Bool, true, false, cond, List, [], ◌∷◌, ◌++◌, Option, Some, None, refl, ap, sym, subst, ◌∙◌, inl, inr, arith}
use Rattle.std.specs.Prelude.{◌==◌, ◌||◌, not, IsSome, is_some}
use Rattle.std.proofs.lemmas.Slice.Eq.{bytes_eq-Decides}
use Rattle.std.proofs.lemmas.Bool.{eqb-true}
use Rattle.dali_lists.proofs.Numbers.{eqb-self}
use Rattle.dali_geometry.specs.Sizes.{Sizes}
use Rattle.dali_record.specs.declared.operations.Block.{Block}
use Rattle.dali_record.specs.declared.operations.Pending.{Pending}
use Rattle.dali_record.specs.declared.operations.Undo.{Undo}
use Rattle.dali_record.specs.declared.operations.Undo.TheVariants.{FreeCell as UndoFreeCell, ReviveCell as UndoReviveCell, Restore as UndoRestore, FreeEntry as UndoFreeEntry, ReviveEntry as UndoReviveEntry}
use Rattle.dali_record.specs.declared.records.Record.{Record}
use Rattle.dali_record.specs.declared.records.Record.TheVariants.{Format, Begin, Forward, Done, Commit, Ended, Solo, AuditBegin, AuditClean, AuditFail, Restarted, Back}
use Rattle.dali_record.specs.Calls.{Fresh}
use Rattle.dali_record.specs.Legal.{Working, TxnState, Unbegun, Active, Committed, Over, Onward, txn_state, txn_next, txn_step, allowed, freed, concerns, is_level, is_none_left, is_of, same_op, dead_of, freeing_op}
use Rattle.dali_record.proofs.Pushes.{txn_state_push, txn_step-other}
use Rattle.dali_record.proofs.Moves.{none_left}
use Rattle.dali_att.specs.declared.state.State.TheVariants.{Committed as RowCommitted}
use Rattle.dali_runs.specs.State.{TxnRow, CoreState, row_of, state_of, state_in}
use Rattle.dali_runs.specs.Run.{Bases, IsRow, RunsOn}
use Rattle.dali_runs.specs.Keeps.{IsNext, may_log_in}
use Rattle.dali_runs.specs.Facts.Plans.{AtWork}
use Rattle.dali_runs.specs.Facts.Ends.{IsEnding, IsFreed, BeginFollows, NextIsUnbegun, CommitFollows, SoloFollows, EndFollows, EmptyEnds, FreesFirst, MayFollowCommit, OnlyThese, OthersLeave, CommitIsStep, SoloIsStep, EndIsStep, EmptyEndIsStep}

-- one record more, from a state that is known
stepped : (s : Sizes) (t : ℕ) (L : List Record) (x : Record) (y : TxnState) → txn_state s t L ≡ Some y → txn_state s t (L ++ x ∷ []) ≡ txn_step s t y x
stepped s t L x y e = txn_state_push s t L x ∙ ap (λ o. txn_next s t o x) e

pub begin_follows : BeginFollows
begin_follows s L t e = record { working = fresh; at_work = at_work; undos = refl; level = refl; plan = record { working = fresh; at_work = at_work; progress_is = refl; onward = refl; mark_is = refl } }
  where
    fresh : Working
    fresh = record { undos = []; mark = 0; progress = Fresh; way = Onward }

    at_work : AtWork s (L ++ Begin t ∷ []) t fresh
    at_work = stepped s t L (Begin t) Unbegun e ∙ ap (λ c. let o : Option TxnState = Some (cond c (Active fresh) Unbegun) in o) (eqb-self t)

pub next_is_unbegun : NextIsUnbegun
next_is_unbegun bases L c run = run.counts.fresh c.system.next (omega (arith, run.counts.next))

pub commit_follows : CommitFollows
commit_follows s L t w e level =
    stepped s t L (Commit t) (Active w) e
    ∙ (ap (λ c. cond c (allowed (is_level w) (Some (Committed (dead_of w.undos)))) (Some (Active w))) (eqb-self t) ∙ ap (λ c. allowed c (Some (Committed (dead_of w.undos)))) level)

-- ---- what frees for good
same_freeing : (u : Undo) → same_op (freeing_op u) (freeing_op u) ≡ true
same_freeing (UndoFreeCell c) = eqb-self c
same_freeing (UndoReviveCell c) = eqb-self c
same_freeing (UndoRestore c n vs) = rw (eqb-self c, eqb-self n, (bytes_eq-Decides vs vs).1 refl) refl
same_freeing (UndoFreeEntry e) = eqb-self e
same_freeing (UndoReviveEntry e) = eqb-self e

frees_it : (u : Pending) (b : Block) → IsFreed u b → is_of (freeing_op u.undo) u b ≡ true
frees_it u b f = rw (f.key, f.region, f.op, eqb-self u.key, eqb-self u.region, same_freeing u.undo) refl

-- one that is committed has a record, and so another number than one without
apart : (s : Sizes) (L : List Record) (p t : ℕ) (dead : List Pending) → txn_state s p L ≡ Some (Committed dead) → txn_state s t L ≡ Some Unbegun → (t == p) ≡ false
apart s L p t dead e f = by_test (t == p) refl
  where
    by_test : (c : Bool) → (t == p) ≡ c → c ≡ false
    by_test true q = absurd (let g : Some (Committed dead) ≡ Some Unbegun = sym e ∙ (ap (λ n. txn_state s n L) (sym (eqb-true t p q)) ∙ f) in cc)
    by_test false q = refl

pub solo_follows : SoloFollows
solo_follows s L p t u us b e f is = record {
  left = stepped s p L (Solo t p b) (Committed (u ∷ us)) e
      ∙ (ap (λ c. allowed (not c) (cond (p == p) (freed b (u ∷ us)) (Some (Committed (u ∷ us))))) (apart s L p t (u ∷ us) e f)
      ∙ (ap (λ c. cond c (freed b (u ∷ us)) (Some (Committed (u ∷ us)))) (eqb-self p)
      ∙ ap (λ c. allowed c (Some (Committed us))) (frees_it u b is)));
  over = stepped s t L (Solo t p b) Unbegun f
      ∙ (ap (λ c. cond c (allowed (not (p == t)) (Some Over)) (allowed (not (p == t)) (Some Unbegun))) (eqb-self t)
      ∙ ap (λ c. allowed (not c) (Some Over)) (other (p == t) refl));
}
  where
    other : (c : Bool) → (p == t) ≡ c → c ≡ false
    other true q = absurd (let g : Some Unbegun ≡ Some (Committed (u ∷ us)) = sym f ∙ (ap (λ n. txn_state s n L) (sym (eqb-true p t q)) ∙ e) in cc)
    other false q = refl

pub end_follows : EndFollows
end_follows s L t e = stepped s t L (Ended t) (Committed []) e ∙ ap (λ c. cond c (Some Over) (Some (Committed []))) (eqb-self t)

pub empty_ends : EmptyEnds
empty_ends s L t w e none =
    stepped s t L (Ended t) (Active w) e
    ∙ (ap (λ c. cond c (allowed (is_none_left w.undos) (Some Over)) (Some (Active w))) (eqb-self t) ∙ ap (λ us. allowed (is_none_left us) (Some Over)) none)

-- ---- nothing else
allowed_true : (c : Bool) (o : Option TxnState) → IsSome (allowed c o) → (c ≡ true) × IsSome o
allowed_true true o h = (refl, h)
allowed_true false o h = absurd (cc)

never : {A : Type 0} (c : Bool) (o : Option TxnState) → c ≡ true → IsSome (allowed (not c) o) → A
never true o e h = absurd (cc)
never false o e h = absurd (cc)

first_is : (t n : ℕ) (b : Block) (dead : List Pending) → IsSome (freed b dead) → FreesFirst t dead (Solo n t b)
first_is t n b [] h = absurd (cc)
first_is t n b (u ∷ us) h = record { number = n; block = b; first = u; others = us; is = refl; dead_is = refl; of = (allowed_true (is_of (freeing_op u.undo) u b) (Some (Committed us)) h).0 }

after_commit : (s : Sizes) (t : ℕ) (dead : List Pending) (x : Record) → concerns t x ≡ true → IsSome (txn_step s t (Committed dead) x) → MayFollowCommit t dead x
after_commit s t dead (Format i h) e k = absurd (cc)
after_commit s t dead (Begin u) e k = never (u == t) (Some (Committed dead)) e k
after_commit s t dead (Forward u b) e k = never (u == t) (Some (Committed dead)) e k
after_commit s t dead (Done u c a) e k = never (u == t) (Some (Committed dead)) e k
after_commit s t dead (Commit u) e k = never (u == t) (Some (Committed dead)) e k
after_commit s t dead (Ended u) e k =
    let same : u ≡ t = eqb-true u t e in
    let there : IsSome (allowed (is_none_left dead) (Some Over)) = subst (λ c. IsSome (cond c (allowed (is_none_left dead) (Some Over)) (Some (Committed dead)))) e k in
    inl (ap Ended same, none_left dead (allowed_true (is_none_left dead) (Some Over) there).0)
after_commit s t dead (Solo u p b) e k = by_number (u == t) (p == t) refl e k
  where
    by_number : (c d : Bool) → (p == t) ≡ d → (c || d) ≡ true → IsSome (allowed (not c) (cond d (freed b dead) (Some (Committed dead)))) → MayFollowCommit t dead (Solo u p b)
    by_number true d q f h = absurd (cc)
    by_number false true q f h = inr (inl (subst (λ n. FreesFirst t dead (Solo u n b)) (sym (eqb-true p t q)) (first_is t u b dead h)))
    by_number false false q f h = absurd (cc)
after_commit s t dead AuditBegin e k = absurd (cc)
after_commit s t dead (AuditClean b) e k = absurd (cc)
after_commit s t dead (AuditFail b rs) e k = absurd (cc)
after_commit s t dead (Restarted rs ds) e k = inr (inr (rs, ds, refl))
after_commit s t dead (Back u b) e k = never (u == t) (Some (Committed dead)) e k

pub only_these : OnlyThese
only_these s L t dead x e concerned next = after_commit s t dead x concerned (subst (λ o. IsSome o) (stepped s t L x (Committed dead) e) next)

-- ---- others

pub others_leave : OthersLeave
others_leave s L t x e = txn_state_push s t L x ∙ by_state (txn_state s t L)
  where
    by_state : (o : Option TxnState) → txn_next s t o x ≡ o
    by_state None = refl
    by_state (Some y) = txn_step-other s t y x e

-- ---- the steps of a run
is_next : (s : Sizes) (L : List Record) (t : ℕ) (x : Record) (y : TxnState) → txn_state s t (L ++ x ∷ []) ≡ Some y → IsNext s L t x
is_next s L t x y e = ap is_some e

-- the row of one that is committed says so
committed_in : (bases : Bases) (L : List Record) (c : CoreState) (t : ℕ) (dead : List Pending) (x : Record) → RunsOn bases L c → IsEnding c.system.sizes L t dead → may_log_in (Some RowCommitted) x ≡ true → may_log_in (state_of c.system t) x ≡ true
committed_in bases L c t dead x run e may =
    let row : row_of c.system t ≡ Some (record { state = RowCommitted; undos = [] }) = subst (λ (o : Option TxnState). IsRow o (row_of c.system t)) e (run.table t) in
    ap (λ (r : Option TxnRow). may_log_in (state_in r) x) row ∙ may

pub commit_is_step : CommitIsStep
commit_is_step L c t w e level runs lives = (
  runs,
  record { next = is_next c.system.sizes L t (Commit t) (Committed (dead_of w.undos)) (commit_follows c.system.sizes L t w e level); by = ap (λ st. may_log_in st (Commit t)) lives },
  (refl, refl),
)

pub solo_is_step : SoloIsStep
solo_is_step bases L c p u us b g run e runs is held = (
  g,
  record {
    runs = runs;
    spelled = held.spelled;
    next = is_next c.system.sizes L p (Solo c.system.next p b) (Committed us) (solo_follows c.system.sizes L p c.system.next u us b e (next_is_unbegun bases L c run) is).left;
    by = committed_in bases L c p (u ∷ us) (Solo c.system.next p b) run e refl;
    kind = held.kind;
    locked = held.locked;
    at = held.at;
    is_open = held.is_open;
  },
  (refl, refl),
)

pub end_is_step : EndIsStep
end_is_step bases L c t run e runs free = (
  runs,
  (record { next = is_next c.system.sizes L t (Ended t) Over (end_follows c.system.sizes L t e); by = committed_in bases L c t [] (Ended t) run e refl }, free),
  (refl, refl),
)

pub empty_end_is_step : EmptyEndIsStep
empty_end_is_step L c t w e none runs free may = (
  runs,
  (record { next = is_next c.system.sizes L t (Ended t) Over (empty_ends c.system.sizes L t w e none); by = may }, free),
  (refl, refl),
)
