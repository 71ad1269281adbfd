-- An abort and a settling by a thread that has regions and system to itself, as steps of a run.
use Rattle.std.proofs.Common.{inl, inr, ◌≡◌, ◌≢◌, ℕ, zero, suc, ◌+◌, ◌<◌, ◌≤◌, Bool, true, false, ◌||◌, List, [], ◌∷◌, ◌++◌, Option, Some, None, IfSome, IsSomeAnd, Result, Ok, Err, refl, ap, sym, subst, ◌∙◌, arith, length, drop, get_or, slice_get, slice_set}
use Rattle.std.specs.Prelude.{◌==◌, ◌⊎◌, ◌↔◌, if◌then◌else◌}
use Rattle.std.specs.List.{AllByRecursion, list_all, list_any, fold}
use Rattle.std.proofs.lemmas.Bool.{lt-ltb, or_parts, and_parts}
use Rattle.std.proofs.lemmas.Bool.Decides.{Decides-eqb}
use Rattle.std.proofs.lemmas.List.{append-nil}
use Rattle.std.proofs.lemmas.List.Sums.{fold-append}
use Rattle.dali_geometry.specs.Sizes.{Sizes}
use Rattle.dali_geometry.specs.Places.{regions}
use Rattle.dali_record.specs.declared.operations.Block.{Block}
use Rattle.dali_record.specs.declared.operations.Pending.{Pending}
use Rattle.dali_record.specs.declared.records.Record.{Record}
use Rattle.dali_record.specs.declared.records.Record.TheVariants.{Back, Ended}
use Rattle.std.specs.FinMap.{get}
use Rattle.std.proofs.lemmas.Option.{same_Some, slice_get-get_or, none-some}
use Rattle.dali_lists.proofs.Lists.{get_set_other}
use Rattle.dali_record.specs.Legal.{freeing_op, on_kind, Working, TxnState, Unbegun, Active, txn_next, txn_state, allowed, is_of, back, way_back}
use Rattle.dali_record.specs.Log.{last_of as pop_of, drop_last}
use Rattle.dali_record.specs.Operations.{undo_op}
use Rattle.dali_record.proofs.EpochRules.{kind_in}
use Rattle.dali_region.specs.declared.Hold.{Hold}
use Rattle.dali_region.specs.declared.LatchError.{LatchError}
use Rattle.dali_region.specs.State.{RegionState}
use Rattle.dali_region.specs.Answers.{latch_answer}
use Rattle.dali_att.specs.declared.state.State.{State}
use Rattle.dali_att.specs.declared.state.State.TheVariants.{Live, Committed}
use Rattle.dali_att.specs.Table.{undos_at, last_of}
use Rattle.dali_runs.specs.State.{SystemState, VaultState, CoreState, row_of, state_of, hold_in}
use Rattle.dali_runs.specs.Run.{Bases, covers}
use Rattle.dali_runs.specs.Regions.{RegionStep, Latch, NoteReads, Update, TakeBack}
use Rattle.dali_runs.specs.Keeps.{IsFree}
use Rattle.dali_runs.specs.Wholes.{latched_in}
use Rattle.dali_runs.specs.Passes.{Audits}
use Rattle.dali_runs.specs.Courses.{Step, Operates, TakesBack, Frees, Ends, Answers, Commits, Locks, OnRegion, IsStep}
use Rattle.dali_runs.specs.Facts.Undos.{MayBePerformed}
use Rattle.dali_runs.specs.Facts.Ends.{IsEnding}
use Rattle.dali_runs.proofs.FactsLemmas.Undos.{undos_may_be_performed}
use Rattle.dali_system.specs.declared.error.SystemError.{SystemError}
use Rattle.dali_system.specs.declared.error.SystemError.TheVariants.{OutOfMemory as Memory}
use Rattle.dali_system.specs.Refused.{stop_of}
use Rattle.dali_system.specs.TakenBack.{next_undo}
use Rattle.dali_system.specs.Promised.{Promised, promised_to}
use Rattle.dali_system.specs.Served.{Served}
use Rattle.dali_calls.specs.Operating.{IsOwn}
use Rattle.dali_calls.specs.Others.{PromisesStay, IsGone, HoldStays}
use Rattle.dali_calls.proofs.Rows.{undos_in}
use Rattle.dali_calls.proofs.Others.{promises_further}
use Rattle.dali_calls.specs.declared.single.error.StepError.{StepError}
use Rattle.dali_calls.specs.declared.single.error.StepError.TheVariants.{Latch as LatchRefused, System as SystemRefused}
use Rattle.dali_calls.specs.Single.Refusals.{IsAnswerTo, IsUnfreed, IsStuck, IsLatched}
use Rattle.dali_calls.specs.Single.Single.{is_end, IsOwnStep, Look, look_behind, LeadsFrom, Leads, OthersStay as RowsStay, AreCovered}
use Rattle.dali_calls.specs.Single.Ending.{IsBackOf, IsAtWork, HasEnded, IsEnded, IsStillAtWork}
use Rattle.dali_calls.specs.Single.Settling.{MayFree, IsPromised, IsSoloOf, IsCommitted, IsSettled}
use Rattle.dali_calls.proofs.SingleLemmas.Standing.{own_steps_stand}
use Rattle.dali_transactions.proofs.CoursesLemmas.Making.{own_steps_make, end_makes}
use Rattle.dali_clean.specs.Cleaned.{core, moment, AreDead, InRun}
use Rattle.dali_clean.specs.Others.{OthersStay}
use Rattle.dali_clean.proofs.Courses.{runs_of, HasWork, work_of}
use Rattle.dali_clean.proofs.Others.{others_further}
use Rattle.dali_clean.specs.Steps.{is_own_change}
use Rattle.dali_transactions.specs.Ended.{AreOfEnd, Walked}
use Rattle.dali_transactions.specs.Left.{held, is_on, HoldsStay, IsRunning, IsSettling, Left, none_of, Cleared, Settled}
use Rattle.dali_transactions.specs.Guards.{is_releasable, is_releasable_on}
use Rattle.dali_transactions.proofs.Walking.{walked_more, walked_on, run_on, walks_on, walks_more, walks_none}
use Rattle.dali_transactions.proofs.Guarding.{releasable_dead}
use Rattle.dali_transactions.proofs.Releasing.{hold_is_dead, dead_on, held_less, held_no_more}

-- ---- steps of a transaction's own
change_own : (t : ℕ) (x : RegionStep) (o : Option RegionState) → IsSomeAnd o (IsOwn t x) → is_own_change t x ≡ true
change_own t x None own = absurd own
change_own t (Latch u) (Some g) own = (Decides-eqb u t).1 own
change_own t (NoteReads mask) (Some g) own = refl
change_own t (Update word value) (Some g) own = refl
change_own t TakeBack (Some g) own = refl
change_own t x (Some g) own = absurd own

own_front : (t : ℕ) (c : CoreState) (x : Step) (xs : List Step) → IsOwnStep t c x → is_end x ≡ false → AreOfEnd t xs → AreOfEnd t (x ∷ xs)
own_front t c (Operates u b) xs own e rest = (own, rest)
own_front t c (TakesBack u b) xs own e rest = (own, rest)
own_front t c (Frees p b) xs own e rest = (own, rest)
own_front t c (Locks u k m) xs own e rest = (own, rest)
own_front t c (OnRegion r x) xs own e rest = (change_own t x (slice_get c.regions r) own, rest)
own_front t c (Ends u) xs own e rest = absurd cc
own_front t c (Answers u k a) xs own e rest = absurd cc
own_front t c (Commits u) xs own e rest = absurd cc
own_front t c x xs own e rest = absurd own

front_from : (t : ℕ) (o : Look) (L M : List Record) (c d : CoreState) (xs : List Step) → LeadsFrom false t o L c xs M d → AreOfEnd t xs
front_from t o L M c d [] leads = tt
front_from t o L M c d (x ∷ xs) leads = own_front t c x xs leads.2.1 leads.2.2 (front_from t (look_behind c x o) leads.0 M leads.1 d xs leads.3)

pub leads_front : (t : ℕ) (L M : List Record) (c d : CoreState) (xs : List Step) → Leads false t L c xs M d → AreOfEnd t xs
leads_front t L M c d xs leads = front_from t None L M c d xs leads

-- ---- what a run says of a transaction without a dead hold
module _ (bases : Bases) (before L : List Record) (gs : List RegionState) (y : SystemState) (v : VaultState) (a : Audits) (run : InRun bases before (moment gs y L v a)) (dead : AreDead gs) (t : ℕ) where
  pub free_here : (st : State) → state_of y t ≡ Some st → latched_in (Some st) ≡ None → IsFree (core gs y v) t
  free_here st is none r h there = by_test (h.txn == t) refl
    where
      by_test : (b : Bool) → (h.txn == t) ≡ b → (h.txn == t) ≡ false
      by_test false e = e
      by_test true e =
          let names = run.whole.dead r h there (hold_is_dead gs r h dead there) in
          absurd (none-some r (sym none ∙ (ap latched_in (sym is) ∙ (ap (λ (n : ℕ). latched_in (state_of y n)) (sym ((Decides-eqb h.txn t).0 e)) ∙ names))))

  pub work_here : state_of y t ≡ Some Live → IsAtWork L (core gs y v) t
  work_here lives =
      let work : HasWork y.sizes L t (row_of y t) = work_of y.sizes L t (row_of y t) Live ((runs_of bases before (moment gs y L v a) run).table t) lives refl in
      record { working = work.working; at_work = work.at_work; undos = work.undos; free = free_here Live lives refl }

  pub settling_here : (us : List Pending) → state_of y t ≡ Some Committed → IsEnding y.sizes L t us → IsCommitted L (core gs y v) t us
  settling_here us state ending =
      let runs = runs_of bases before (moment gs y L v a) run in
      record {
        ending = ending;
        free = free_here Committed state refl;
        unbegun = λ n more. runs.counts.fresh n (omega (arith, runs.counts.next, more));
      }

-- ---- holds
-- a thread's own steps leave the holds of the others
holds_same : (t : ℕ) (gs hs : List RegionState) (y z : SystemState) (v : VaultState) (L M : List Record) (xs : List Step) → Leads false t L (core gs y v) xs M (core hs z v) → IsFree (core gs y v) t → IsFree (core hs z v) t → (r : ℕ)
    → hold_in (slice_get hs r) ≡ hold_in (slice_get gs r)
holds_same t gs hs y z v L M xs leads before behind r = by_hold (hold_in (slice_get hs r)) refl
  where
    stand : (h : Hold) → (t == h.txn) ≡ false → (hold_in (slice_get gs r) ≡ Some h) ↔ (hold_in (slice_get hs r) ≡ Some h)
    stand h apart = (own_steps_stand false t L M (core gs y v) (core hs z v) xs leads).holds h.txn r h apart refl

    other_way : (h : Hold) → (h.txn == t) ≡ false → (t == h.txn) ≡ false
    other_way h e = by_test (t == h.txn) refl
      where
        by_test : (b : Bool) → (t == h.txn) ≡ b → (t == h.txn) ≡ false
        by_test false f = f
        by_test true f = let own : (h.txn == t) ≡ true = (Decides-eqb h.txn t).1 (sym ((Decides-eqb t h.txn).0 f)) in absurd cc

    by_hold : (o : Option Hold) → hold_in (slice_get hs r) ≡ o → hold_in (slice_get hs r) ≡ hold_in (slice_get gs r)
    by_hold (Some h) e = e ∙ sym ((stand h (other_way h (behind r h e))).1 e)
    by_hold None e = by_first (hold_in (slice_get gs r)) refl
      where
        by_first : (o : Option Hold) → hold_in (slice_get gs r) ≡ o → hold_in (slice_get hs r) ≡ hold_in (slice_get gs r)
        by_first None f = e ∙ sym f
        by_first (Some h) f = absurd (none-some h (sym e ∙ (stand h (other_way h (before r h f))).0 f))

-- ---- an abort
abbrev Aborts : ℕ → List RegionState → SystemState → List RegionState → SystemState → Type 0
Aborts t gs y hs z = (L : List Record) (v : VaultState) → IsAtWork L (core gs y v) t → IsEnded L (core gs y v) t (core hs z v)

abbrev Undoes : ℕ → List RegionState → SystemState → List RegionState → SystemState → Type 0
Undoes t gs y hs z = (L : List Record) (v : VaultState) → IsAtWork L (core gs y v) t → IsStillAtWork L (core gs y v) t (core hs z v)

pub rows_left : (gs hs : List RegionState) (y z : SystemState) (t : ℕ) → RowsStay y t z → ((r : ℕ) → HoldStays gs hs r) → OthersStay gs y t hs z
rows_left gs hs y z t stay holds = record { rows = λ u e. inl (stay u e).0; locks = λ u k e. (stay u e).1 k; holds = holds }

pub some_undone : (gs hs : List RegionState) (s z : Served) (t : ℕ) → state_of s.state t ≡ Some Live → Undoes t gs s.state hs z.state → RowsStay s.state t z.state → PromisesStay s t z → ((r : ℕ) → HoldStays gs hs r)
    → Left (IsBackOf t) [] t gs s hs z
some_undone gs hs s z t lives undoes stay promises holds = record {
  walks = λ bases before L v a run dead. walked bases before L v a (undoes L v (work_here bases before L gs s.state v a run dead t lives));
  others = rows_left gs hs s.state z.state t stay holds;
  promises = promises;
}
  where
    walked : (bases : Bases) (before L : List Record) (v : VaultState) (a : Audits) → IsStillAtWork L (core gs s.state v) t (core hs z.state v) → Walked t (IsBackOf t) [] (moment gs s.state L v a) hs z.state
    walked bases before L v a still = record {
      log = still.log;
      front = still.steps;
      by = leads_front t L still.log (core gs s.state v) (core hs z.state v) still.steps still.leads;
      steps = still.steps;
      is = sym (append-nil still.steps);
      course = (own_steps_make false t L still.log (core gs s.state v) (core hs z.state v) still.steps a still.leads).0;
      records = still.own;
      are = still.backs;
      logged = still.logged ∙ sym (append-nil (L ++ still.own));
    }

-- the core before the end has the regions of the core behind it
mid_regions : (t : ℕ) (log M : List Record) (mid : CoreState) (hs : List RegionState) (z : SystemState) (v : VaultState) → IsStep log mid (Ends t) M (core hs z v) → mid ≡ core hs mid.system v
mid_regions t log M mid hs z v ends =
    ap (λ (rs : List RegionState). let c : CoreState = record { regions = rs; system = mid.system; vault = mid.vault } in c) (sym (ap (λ (k : CoreState). k.regions) ends.2.1))
    ∙ ap (λ (u : VaultState). core hs mid.system u) (sym (ap (λ (k : CoreState). k.vault) ends.2.1))

-- an end behind records of one kind
walked_to_end : (own : Record → Type 0) (gs hs : List RegionState) (y z : SystemState) (t : ℕ) (L : List Record) (v : VaultState) (a : Audits) → HasEnded own L (core gs y v) t (core hs z v) → Walked t own (Ended t ∷ []) (moment gs y L v a) hs z
walked_to_end own gs hs y z t L v a end = record {
  log = end.log ++ Ended t ∷ [];
  front = end.steps;
  by = leads_front t L end.log (core gs y v) end.mid end.steps end.leads;
  steps = end.steps ++ Ends t ∷ [];
  is = refl;
  course = (end_makes own L (core gs y v) (core hs z v) t a end).0;
  records = end.records;
  are = end.are;
  logged = ap (λ (l : List Record). l ++ Ended t ∷ []) end.logged;
}

pub all_undone : (gs hs : List RegionState) (s z : Served) (t : ℕ) → state_of s.state t ≡ Some Live → Aborts t gs s.state hs z.state → RowsStay s.state t z.state → PromisesStay s t z → ((r : ℕ) → HoldStays gs hs r)
    → Left (IsBackOf t) (Ended t ∷ []) t gs s hs z
all_undone gs hs s z t lives aborts stay promises holds = record {
  walks = λ bases before L v a run dead. walked_to_end (IsBackOf t) gs hs s.state z.state t L v a (aborts L v (work_here bases before L gs s.state v a run dead t lives));
  others = rows_left gs hs s.state z.state t stay holds;
  promises = promises;
}

ended_same : (t : ℕ) (gs hs : List RegionState) (y z : SystemState) (v : VaultState) (L log M : List Record) (mid : CoreState) (xs : List Step) → Leads false t L (core gs y v) xs log mid → IsStep log mid (Ends t) M (core hs z v) → IsFree (core gs y v) t
    → (r : ℕ) → hold_in (slice_get hs r) ≡ hold_in (slice_get gs r)
ended_same t gs hs y z v L log M mid xs leads ends before =
    let same = mid_regions t log M mid hs z v ends in
    holds_same t gs hs y mid.system v L log xs (subst (λ (c : CoreState). Leads false t L (core gs y v) xs log c) same leads) before (subst (λ (c : CoreState). IsFree c t) same ends.1.1)

-- ---- which holds an abort leaves
pub all_kept : (gs hs : List RegionState) (y z : SystemState) (t : ℕ) → IsRunning gs y → state_of y t ≡ Some Live → Aborts t gs y hs z → (r : ℕ) → hold_in (slice_get hs r) ≡ hold_in (slice_get gs r)
all_kept gs hs y z t running lives aborts =
    let at = work_here running.bases running.before running.log gs y running.vault running.audits running.run running.dead t lives in
    let end = aborts running.log running.vault at in
    ended_same t gs hs y z running.vault running.log end.log (end.log ++ Ended t ∷ []) end.mid end.steps end.leads end.ends at.free

pub some_kept : (gs hs : List RegionState) (y z : SystemState) (t : ℕ) → IsRunning gs y → state_of y t ≡ Some Live → Undoes t gs y hs z → (r : ℕ) → hold_in (slice_get hs r) ≡ hold_in (slice_get gs r)
some_kept gs hs y z t running lives undoes =
    let at = work_here running.bases running.before running.log gs y running.vault running.audits running.run running.dead t lives in
    let still = undoes running.log running.vault at in
    holds_same t gs hs y z running.vault running.log still.log still.steps still.leads at.free still.at.free

less_any : (p : Pending → Bool) (us : List Pending) → list_any p us ≡ false → list_any p (drop_last us) ≡ false
less_any p [] e = refl
less_any p (u ∷ []) e = refl
less_any p (u ∷ v ∷ us) e =
    let both = or_parts (p u) (list_any p (v ∷ us)) e in
    ap (λ b. b || list_any p (drop_last (v ∷ us))) both.0 ∙ less_any p (v ∷ us) both.1

stuck_none : (s : Sizes) (t : ℕ) (xs : List Record) → fold (txn_next s t) None xs ≡ None
stuck_none s t [] = refl
stuck_none s t (x ∷ xs) = stuck_none s t xs

abbrev popped : Working → Working
popped w = record { undos = drop_last w.undos; mark = w.mark; progress = w.progress; way = way_back w }

goes_back : (w : Working) (b : Block) (o : Option Pending) → (back w b o ≡ None) ⊎ (back w b o ≡ Some (Active (popped w)))
goes_back w b None = inl refl
goes_back w b (Some u) = by_test (is_of (undo_op u.undo) u b) refl
  where
    by_test : (c : Bool) → is_of (undo_op u.undo) u b ≡ c → (back w b (Some u) ≡ None) ⊎ (back w b (Some u) ≡ Some (Active (popped w)))
    by_test true e = inr (ap (λ c. allowed c (Some (Active (popped w)))) e)
    by_test false e = inl (ap (λ c. allowed c (Some (Active (popped w)))) e)

back_next : (s : Sizes) (t u : ℕ) (w : Working) (b : Block) → u ≡ t → (txn_next s t (Some (Active w)) (Back u b) ≡ None) ⊎ (txn_next s t (Some (Active w)) (Back u b) ≡ Some (Active (popped w)))
back_next s t u w b own = by_last (goes_back w b (pop_of w.undos))
  where
    same : txn_next s t (Some (Active w)) (Back u b) ≡ back w b (pop_of w.undos)
    same = ap (λ c. if c then back w b (pop_of w.undos) else Some (Active w)) ((Decides-eqb u t).1 own)

    by_last : (back w b (pop_of w.undos) ≡ None) ⊎ (back w b (pop_of w.undos) ≡ Some (Active (popped w))) → (txn_next s t (Some (Active w)) (Back u b) ≡ None) ⊎ (txn_next s t (Some (Active w)) (Back u b) ≡ Some (Active (popped w)))
    by_last (inl e) = inl (same ∙ e)
    by_last (inr e) = inr (same ∙ e)

one_working : (a b : Working) → (let o : Option TxnState = Some (Active a) in o ≡ Some (Active b)) → a ≡ b
one_working a b e = cc

never_active : (w : Working) → (let n : Option TxnState = None in n ≡ Some (Active w)) → ⊥
never_active w e = cc

backs_one : (s : Sizes) (t u : ℕ) (p : Pending → Bool) (w x : Working) (b : Block) (own : List Record) → (txn_next s t (Some (Active w)) (Back u b) ≡ None) ⊎ (txn_next s t (Some (Active w)) (Back u b) ≡ Some (Active (popped w)))
    → fold (txn_next s t) (txn_next s t (Some (Active w)) (Back u b)) own ≡ Some (Active x) → (fold (txn_next s t) (Some (Active (popped w))) own ≡ Some (Active x) → list_any p x.undos ≡ false) → list_any p x.undos ≡ false
backs_one s t u p w x b own (inl i) e rest = absurd (never_active x (sym (ap (λ (o : Option TxnState). fold (txn_next s t) o own) i ∙ stuck_none s t own) ∙ e))
backs_one s t u p w x b own (inr i) e rest = rest (sym (ap (λ (o : Option TxnState). fold (txn_next s t) o own) i) ∙ e)

backs_any : (s : Sizes) (t : ℕ) (p : Pending → Bool) (w x : Working) (own : List Record) → AllByRecursion (IsBackOf t) own → fold (txn_next s t) (Some (Active w)) own ≡ Some (Active x) → list_any p w.undos ≡ false → list_any p x.undos ≡ false
backs_any s t p w x [] are e none = subst (λ (k : Working). list_any p k.undos ≡ false) (one_working w x e) none
backs_any s t p w x (Back u b ∷ own) are e none = backs_one s t u p w x b own (back_next s t u w b are.0) e (λ f. backs_any s t p (popped w) x own are.1 f (less_any p w.undos none))
backs_any s t p w x (r ∷ own) are e none = absurd are.0

pub undos_fewer : (gs hs : List RegionState) (y z : SystemState) (t : ℕ) (p : Pending → Bool) → IsRunning gs y → state_of y t ≡ Some Live → Undoes t gs y hs z → z.sizes ≡ y.sizes → list_any p (undos_at y.table t) ≡ false → list_any p (undos_at z.table t) ≡ false
undos_fewer gs hs y z t p running lives undoes sizes none =
    let at = work_here running.bases running.before running.log gs y running.vault running.audits running.run running.dead t lives in
    let still = undoes running.log running.vault at in
    let there : txn_state y.sizes t (running.log ++ still.own) ≡ Some (Active still.at.working) = subst (λ x. txn_state y.sizes t x ≡ Some (Active still.at.working)) still.logged (subst (λ x. txn_state x t still.log ≡ Some (Active still.at.working)) sizes still.at.at_work) in
    let rest : fold (txn_next y.sizes t) (Some (Active at.working)) still.own ≡ Some (Active still.at.working) =
    sym (ap (λ (o : Option TxnState). fold (txn_next y.sizes t) o still.own) at.at_work) ∙ (sym (fold-append (txn_next y.sizes t) (Some Unbegun) running.log still.own) ∙ there) in
    ap (list_any p) still.at.undos ∙ backs_any y.sizes t p at.working still.at.working still.own still.backs rest (ap (list_any p) (sym at.undos) ∙ none)

-- ---- a region that has no undo on it
any_of : (p : Pending → Bool) (us : List Pending) (i : ℕ) (u : Pending) → list_any p us ≡ false → slice_get us i ≡ Some u → p u ≡ false
any_of p [] i u e at = absurd (none-some u at)
any_of p (v ∷ us) zero u e at = let same : v ≡ u = cc in ap p (sym same) ∙ (or_parts (p v) (list_any p us) e).0
any_of p (v ∷ us) (suc i) u e at = any_of p us i u (or_parts (p v) (list_any p us) e).1 at

-- one region more is freed
pub kept_but : (us vs : List Pending) (i : ℕ) (u : Pending) (gs hs : List RegionState) (h : RegionState) → HoldsStay us gs hs → ((r : ℕ) → list_any (is_on r) us ≡ false → list_any (is_on r) vs ≡ false) → slice_get vs i ≡ Some u → HoldsStay us gs (slice_set hs u.region h)
kept_but us vs i u gs hs h stay fewer at r none =
    let off : (u.region == r) ≡ false = any_of (is_on r) vs i u (fewer r none) at in
    let apart : u.region ≢ r = λ e. let on : (u.region == r) ≡ true = (Decides-eqb u.region r).1 e in cc in
    ap hold_in (get_set_other hs u.region h r apart) ∙ stay r none

-- ---- a settling
abbrev Settles : ℕ → List Pending → List RegionState → SystemState → List RegionState → SystemState → Type 0
Settles t us gs y hs z = (L : List Record) (v : VaultState) → IsCommitted L (core gs y v) t us → IsSettled L (core gs y v) t (core hs z v)

pub all_freed : (gs hs : List RegionState) (s z : Served) (t : ℕ) (us : List Pending) → state_of s.state t ≡ Some Committed → Settles t us gs s.state hs z.state → RowsStay s.state t z.state → PromisesStay s t z → ((r : ℕ) → HoldStays gs hs r)
    → IsGone z.state t → promised_to z.promised t ≡ 0 → Settled t us gs s hs z
all_freed gs hs s z t us state settles stay promises holds gone released = record {
  walks = λ bases before L v a run dead ending. walked_to_end (IsSoloOf t) gs hs s.state z.state t L v a (settles L v (settling_here bases before L gs s.state v a run dead t us state ending));
  others = rows_left gs hs s.state z.state t stay holds;
  promises = promises;
  gone = gone;
  released = released;
  holds = λ settling q none. same settling q;
}
  where
    same : IsSettling gs s.state t us → (r : ℕ) → hold_in (slice_get hs r) ≡ hold_in (slice_get gs r)
    same settling =
        let r = settling.running in
        let at = settling_here r.bases r.before r.log gs s.state r.vault r.audits r.run r.dead t us state settling.ending in
        let end = settles r.log r.vault at in
        ended_same t gs hs s.state z.state r.vault r.log end.log (end.log ++ Ended t ∷ []) end.mid end.steps end.leads end.ends at.free

-- ---- one part behind another
-- no live hold is left
pub dead_still : (t : ℕ) (gs hs : List RegionState) (y z : SystemState) → OthersStay gs y t hs z → AreDead gs → AreDead hs
dead_still t gs hs y z others dead = dead_on gs hs dead others.holds

pub running_on : (own : Record → Type 0) (last : List Record) (t : ℕ) (gs hs : List RegionState) (s z : Served) → IsRunning gs s.state → Left own last t gs s hs z → IsRunning hs z.state
running_on own last t gs hs s z r left =
    let walk = left.walks r.bases r.before r.log r.vault r.audits r.run r.dead in
    record {
      bases = r.bases;
      before = r.before;
      log = walk.log;
      vault = r.vault;
      audits = r.audits;
      run = run_on t own last r.bases r.before r.log r.vault r.audits gs hs s.state z.state r.run walk;
      dead = dead_still t gs hs s.state z.state left.others r.dead;
    }

pub left_none : (own : Record → Type 0) (t : ℕ) (gs : List RegionState) (s : Served) → Left own [] t gs s gs s
left_none own t gs s = record {
  walks = walks_none t own gs s.state;
  others = record { rows = λ u e. inl refl; locks = λ u k e. refl; holds = λ r. inl refl };
  promises = λ u e. refl;
}

pub left_on : (own : Record → Type 0) (last : List Record) (t : ℕ) (gs hs ks : List RegionState) (s m z : Served) → Left own [] t gs s hs m → Left own last t hs m ks z → Left own last t gs s ks z
left_on own last t gs hs ks s m z a b = record {
  walks = walks_on t own last gs hs ks s.state m.state z.state (dead_still t gs hs s.state m.state a.others) a.walks b.walks;
  others = others_further gs hs ks s.state m.state z.state t a.others b.others;
  promises = promises_further s m z t a.promises b.promises;
}

pub cleared_left : (own : Record → Type 0) (t : ℕ) (gs hs : List RegionState) (s z : Served) → Cleared t gs s hs z → Left own [] t gs s hs z
cleared_left own t gs hs s z c = record { walks = walks_more t none_of own [] gs hs s.state z.state (λ x never. absurd never) c.left.walks; others = c.left.others; promises = c.left.promises }

pub cleared_none : (t : ℕ) (gs : List RegionState) (s : Served) → Cleared t gs s gs s
cleared_none t gs s = record { left = left_none none_of t gs s; sizes = refl; stop = refl; locks = refl; promised = refl; row = refl }

pub cleared_on : (t : ℕ) (gs hs ks : List RegionState) (s m z : Served) → Cleared t gs s hs m → Cleared t hs m ks z → Cleared t gs s ks z
cleared_on t gs hs ks s m z a b = record {
  left = left_on none_of [] t gs hs ks s m z a.left b.left;
  sizes = b.sizes ∙ a.sizes;
  stop = b.stop ∙ a.stop;
  locks = b.locks ∙ a.locks;
  promised = b.promised ∙ a.promised;
  row = b.row ∙ a.row;
}

-- nothing was logged
none_logged : (L : List Record) (own : List Record) → AllByRecursion none_of own → L ++ own ++ [] ≡ L
none_logged L [] never = append-nil (L ++ []) ∙ append-nil L
none_logged L (x ∷ own) never = absurd never.0

pub ending_on : (L M : List Record) (own : List Record) (t : ℕ) (us : List Pending) (y z : SystemState) → AllByRecursion none_of own → M ≡ L ++ own ++ [] → z.sizes ≡ y.sizes → IsEnding y.sizes L t us → IsEnding z.sizes M t us
ending_on L M own t us y z never logged sizes ending =
    subst (λ (x : List Record). IsEnding z.sizes x t us) (sym (logged ∙ none_logged L own never)) (subst (λ x. IsEnding x L t us) (sym sizes) ending)

settling_on : (t : ℕ) (us : List Pending) (gs hs : List RegionState) (s z : Served) → Cleared t gs s hs z → IsSettling gs s.state t us → IsSettling hs z.state t us
settling_on t us gs hs s z c settling = record {
  running = record {
    bases = r.bases;
    before = r.before;
    log = walk.log;
    vault = r.vault;
    audits = r.audits;
    run = run_on t none_of [] r.bases r.before r.log r.vault r.audits gs hs s.state z.state r.run walk;
    dead = dead_still t gs hs s.state z.state c.left.others r.dead;
  };
  ending = ending_on r.log walk.log walk.records t us s.state z.state walk.are walk.logged c.sizes settling.ending;
}
  where
    r : IsRunning gs s.state
    r = settling.running

    walk : Walked t none_of [] (moment gs s.state r.log r.vault r.audits) hs z.state
    walk = c.left.walks r.bases r.before r.log r.vault r.audits r.run r.dead

pub settled_on : (t : ℕ) (us : List Pending) (gs hs ks : List RegionState) (s m z : Served) → Cleared t gs s hs m → HoldsStay us gs hs → Settled t us hs m ks z → Settled t us gs s ks z
settled_on t us gs hs ks s m z c stay b = record {
  walks = λ bases before L v a run dead ending.
      let first = c.left.walks bases before L v a run dead in
      walked_on t (IsSoloOf t) (Ended t ∷ []) (moment gs s.state L v a) hs ks m.state z.state (walked_more t none_of (IsSoloOf t) [] (moment gs s.state L v a) hs m.state (λ x never. absurd never) first)
      (b.walks bases before first.log v a (run_on t none_of [] bases before L v a gs hs s.state m.state run first) (dead_still t gs hs s.state m.state c.left.others dead) (ending_on L first.log first.records t us s.state m.state first.are first.logged c.sizes ending));
  others = others_further gs hs ks s.state m.state z.state t c.left.others b.others;
  promises = promises_further s m z t c.left.promises b.promises;
  gone = b.gone;
  released = b.released;
  holds = λ settling r none. b.holds (settling_on t us gs hs s m c settling) r none ∙ stay r none;
}

pub may_still : (t : ℕ) (us : List Pending) (gs hs : List RegionState) (s z : Served) → Cleared t gs s hs z → AllByRecursion (MayFree s.state t) us → AllByRecursion (MayFree z.state t) us
may_still t [] gs hs s z c h = tt
may_still t (u ∷ us) gs hs s z c h = (
  record {
    removal = h.0.removal;
    spelled = h.0.spelled;
    kind = ap (λ x. on_kind x u.region (freeing_op u.undo)) c.sizes ∙ h.0.kind;
    lock = ap (λ l. covers (get l (t, u.key)) true) c.locks ∙ h.0.lock;
  },
  may_still t us gs hs s z c h.1,
)

-- what t's undos need
covered_all : (y z : SystemState) (t : ℕ) (us : List Pending) → z.sizes ≡ y.sizes → z.locks ≡ y.locks → AllByRecursion (MayBePerformed y t) us → AllByRecursion (MayBePerformed z t) us
covered_all y z t [] sizes locks h = tt
covered_all y z t (u ∷ us) sizes locks h = (
  record {
    spelled = h.0.spelled;
    kind = ap (λ x. on_kind x u.region (undo_op u.undo)) sizes ∙ h.0.kind;
    lock = ap (λ l. covers (get l (t, u.key)) true) locks ∙ h.0.lock;
  },
  covered_all y z t us sizes locks h.1,
)

pub covered_on : (t : ℕ) (gs hs : List RegionState) (s z : Served) → Cleared t gs s hs z → AreCovered s.state t → AreCovered z.state t
covered_on t gs hs s z c covered = subst (AllByRecursion (MayBePerformed z.state t)) (sym (ap undos_in c.row)) (covered_all s.state z.state t (undos_at s.state.table t) c.sizes c.locks covered)

-- ---- who is in the way
pub all_get : (P : Pending → Type 0) (us : List Pending) (i : ℕ) (u : Pending) → AllByRecursion P us → slice_get us i ≡ Some u → P u
all_get P [] i u h e = absurd (none-some u e)
all_get P (v ∷ us) zero u h e = let same : v ≡ u = cc in subst P same h.0
all_get P (v ∷ us) (suc i) u h e = all_get P us i u h.1 e

next_is_last : (us : List Pending) → next_undo us 0 ≡ last_of us
next_is_last [] = refl
next_is_last (u ∷ us) = ap (λ (b : Bool). if b then last_of (u ∷ us) else None) (lt-ltb 0 (length (u ∷ us)) (omega arith))

pub answer_of_none : (g : RegionState) (e : LatchError) → g.hold ≡ None → Err e ≡ latch_answer false g → ⊥
answer_of_none g e none is = let free : latch_answer false g ≡ Ok tt = rw none refl in differ (is ∙ free)
  where
    differ : (let r : Result (Unit {0}) LatchError = Ok tt in Err e ≡ r) → ⊥
    differ f = cc

-- the region of the next undo is latched
pub in_the_way : (hs : List RegionState) (z : SystemState) (u : Pending) (o : Option Pending) (e : LatchError) → o ≡ Some u → IsStuck o hs z (LatchRefused e) → (g : RegionState) × (k : Hold) × (slice_get hs u.region ≡ Some g) × (g.hold ≡ Some k)
in_the_way hs z u o e is stuck = by_region (slice_get hs u.region) refl (subst (λ (p : Option Pending). IsStuck p hs z (LatchRefused e)) is stuck)
  where
    by_region : (p : Option RegionState) → slice_get hs u.region ≡ p → IsSomeAnd p (λ g. IsUnfreed g z (LatchRefused e)) → (g : RegionState) × (k : Hold) × (slice_get hs u.region ≡ Some g) × (g.hold ≡ Some k)
    by_region None i never = absurd never
    by_region (Some g) i why = by_hold g.hold refl
      where
        by_hold : (q : Option Hold) → g.hold ≡ q → (g : RegionState) × (k : Hold) × (slice_get hs u.region ≡ Some g) × (g.hold ≡ Some k)
        by_hold None none = absurd (answer_of_none g e none why)
        by_hold (Some k) there = (g, k, i, there)

-- while the engine runs memory alone is refused
unfreed_memory : (g : RegionState) (z : SystemState) (e : SystemError) → z.stop ≡ None → IsUnfreed g z (SystemRefused e) → e ≡ Memory
unfreed_memory g z e runs why = subst (λ (o : Option SystemError). IsAnswerTo o e) (ap stop_of runs) why.1

stuck_by : (o : Option Pending) (hs : List RegionState) (z : SystemState) (e : SystemError) → z.stop ≡ None → IsStuck o hs z (SystemRefused e) → e ≡ Memory
stuck_by None hs z e runs stuck = subst (λ (p : Option SystemError). IsAnswerTo p e) (ap stop_of runs) stuck
stuck_by (Some u) hs z e runs stuck = by_region (slice_get hs u.region) stuck
  where
    by_region : (p : Option RegionState) → IsSomeAnd p (λ g. IsUnfreed g z (SystemRefused e)) → e ≡ Memory
    by_region None never = absurd never
    by_region (Some g) why = unfreed_memory g z e runs why

pub stuck_memory : (o : Option Pending) (hs : List RegionState) (z : SystemState) (r : StepError) (e : SystemError) → r ≡ SystemRefused e → z.stop ≡ None → IsStuck o hs z r → e ≡ Memory
stuck_memory o hs z r e is runs stuck = stuck_by o hs z e runs (subst (λ (x : StepError). IsStuck o hs z x) is stuck)

-- ---- regions of undos and removals
pub undo_within : (gs : List RegionState) (y : SystemState) (t : ℕ) (u : Pending) → length gs ≡ regions y.sizes → AreCovered y t → last_of (undos_at y.table t) ≡ Some u → u.region < length gs
undo_within gs y t u whole covered last =
    let may = all_get (MayBePerformed y t) (undos_at y.table t) _ u covered last in
    let less = kind_in y.sizes u.region (undo_op u.undo) may.kind in
    omega (arith, less, whole)

pub removal_within : (gs : List RegionState) (y : SystemState) (t : ℕ) (u : Pending) → length gs ≡ regions y.sizes → MayFree y t u → u.region < length gs
removal_within gs y t u whole may =
    let less = kind_in y.sizes u.region (freeing_op u.undo) may.kind in
    omega (arith, less, whole)

-- ---- a settling isn't refused where no removal's region is latched
drop_get : (us : List Pending) (n : ℕ) → slice_get (drop n us) 0 ≡ slice_get us n
drop_get [] zero = refl
drop_get [] (suc n) = refl
drop_get (u ∷ us) zero = refl
drop_get (u ∷ us) (suc n) = drop_get us n

abbrev pub AreUnheld : List RegionState → List Pending → Type 0
AreUnheld gs us = (i : ℕ) (u : Pending) → slice_get us i ≡ Some u → hold_in (slice_get gs u.region) ≡ None

pub not_stuck : (gs hs : List RegionState) (z : SystemState) (us : List Pending) (n : ℕ) (e : StepError) → AreUnheld gs us → ((r : ℕ) → HoldStays gs hs r) → IsStuck (slice_get (drop n us) 0) hs z e → IsLatched e → ⊥
not_stuck gs hs z us n (SystemRefused e) unheld holds stuck never = never
not_stuck gs hs z us n (LatchRefused e) unheld holds stuck latched = by_next (slice_get us n) refl (subst (λ (o : Option Pending). IsStuck o hs z (LatchRefused e)) (drop_get us n) stuck)
  where
    by_next : (o : Option Pending) → slice_get us n ≡ o → IsStuck o hs z (LatchRefused e) → ⊥
    by_next None i never = never
    by_next (Some u) i why =
        let way = in_the_way hs z u (Some u) e refl why in
        let there : hold_in (slice_get hs u.region) ≡ Some way.1 = ap hold_in way.2 ∙ way.3 in
        by_hold there (holds u.region)
      where
        by_hold : {k : Hold} → hold_in (slice_get hs u.region) ≡ Some k → HoldStays gs hs u.region → ⊥
        by_hold {k = k} there (inl same) = none-some k (sym (unheld n u i) ∙ (sym same ∙ there))
        by_hold {k = k} there (inr none) = none-some k (sym none ∙ there)

-- ---- for the calls
pub covered_here : (gs : List RegionState) (y : SystemState) (t : ℕ) → IsRunning gs y → AreCovered y t
covered_here gs y t r = undos_may_be_performed r.bases r.log (core gs y r.vault) (runs_of r.bases r.before (moment gs y r.log r.vault r.audits) r.run) t

pub whole_here : (gs : List RegionState) (y : SystemState) → IsRunning gs y → length gs ≡ regions y.sizes
whole_here gs y r = r.run.whole.regions

pub removal_there : (t : ℕ) (us : List Pending) (gs hs : List RegionState) (s z : Served) (i : ℕ) (d : Pending) → length hs ≡ regions z.state.sizes → AllByRecursion (MayFree s.state t) us → Cleared t gs s hs z → i < length us → (get_or us i d).region < length hs
removal_there t us gs hs s z i d whole may c less =
    removal_within hs z.state t (get_or us i d) whole (all_get (MayFree z.state t) us i (get_or us i d) (may_still t us gs hs s z c may) (slice_get-get_or us i d less))

-- the hold on a removal's region is dead, if there is one
pub releasable_there : (us : List Pending) (gs hs : List RegionState) (i : ℕ) (u : Pending) (g : RegionState) → list_all (is_releasable_on gs) us ≡ true → ((r : ℕ) → HoldStays gs hs r) → slice_get us i ≡ Some u → slice_get hs u.region ≡ Some g → IfSome g.hold (λ h. h.dead ≡ true)
releasable_there us gs hs i u g all holds at there = by_hold (holds u.region) (each us i all at)
  where
    each : (vs : List Pending) (j : ℕ) → list_all (is_releasable_on gs) vs ≡ true → slice_get vs j ≡ Some u → is_releasable_on gs u ≡ true
    each [] j e f = absurd (none-some u f)
    each (v ∷ vs) zero e f = let same : v ≡ u = cc in ap (is_releasable_on gs) (sym same) ∙ (and_parts (is_releasable_on gs v) (list_all (is_releasable_on gs) vs) e).0
    each (v ∷ vs) (suc j) e f = each vs j (and_parts (is_releasable_on gs v) (list_all (is_releasable_on gs) vs) e).1 f

    by_hold : HoldStays gs hs u.region → is_releasable_on gs u ≡ true → IfSome g.hold (λ h. h.dead ≡ true)
    by_hold (inl same) e = releasable_dead g.hold (ap is_releasable (sym (ap hold_in there)) ∙ (ap is_releasable same ∙ e))
    by_hold (inr none) e = subst (λ (o : Option Hold). IfSome o (λ h. h.dead ≡ true)) (sym none ∙ ap hold_in there) tt

pub unheld_on : (gs hs : List RegionState) (us : List Pending) (i : ℕ) (d : Pending) → ((j : ℕ) (u : Pending) → j < i → slice_get us j ≡ Some u → hold_in (slice_get gs u.region) ≡ None) → ((r : ℕ) → HoldStays gs hs r) → i < length us
    → hold_in (slice_get hs (get_or us i d).region) ≡ None → (j : ℕ) (u : Pending) → j < i + 1 → slice_get us j ≡ Some u → hold_in (slice_get hs u.region) ≡ None
unheld_on gs hs us i d before holds less now j u within at = by_test (j == i) refl
  where
    freed : HoldStays gs hs u.region → hold_in (slice_get gs u.region) ≡ None → hold_in (slice_get hs u.region) ≡ None
    freed (inl same) none = same ∙ none
    freed (inr gone) none = gone

    by_test : (b : Bool) → (j == i) ≡ b → hold_in (slice_get hs u.region) ≡ None
    by_test true e =
        let same : j ≡ i = (Decides-eqb j i).0 e in
        let here : get_or us i d ≡ u = same_Some (get_or us i d) u (sym (slice_get-get_or us i d less) ∙ (ap (slice_get us) (sym same) ∙ at)) in
        subst (λ (w : Pending). hold_in (slice_get hs w.region) ≡ None) here now
    by_test false e =
        let apart : j ≢ i = λ same. differs ((Decides-eqb j i).1 same) e in
        freed (holds u.region) (before j u (omega (arith, within, apart)) at)
      where
        differs : {b : Bool} → b ≡ true → b ≡ false → ⊥
        differs p q = cc

pub promised_on : (t n : ℕ) (gs hs : List RegionState) (s z : Served) → Cleared t gs s hs z → IsPromised s t n → IsPromised z t n
promised_on t n gs hs s z c h = record {
  runs = c.stop ∙ h.runs;
  enough = subst (λ (m : Promised). n ≤ promised_to m t) (sym c.promised) h.enough;
}

-- ---- a turn of an abort
pub latch_held : (hs : List RegionState) (z : SystemState) (us : List Pending) (u : Pending) (e : LatchError) → last_of us ≡ Some u → IsStuck (next_undo us 0) hs z (LatchRefused e) → (g : RegionState) × (k : Hold) × (slice_get hs u.region ≡ Some g) × (g.hold ≡ Some k)
latch_held hs z us u e last stuck = in_the_way hs z u (next_undo us 0) e (next_is_last us ∙ last) stuck

pub fewer_held : (gs hs : List RegionState) (z : SystemState) (us : List Pending) (u : Pending) (r : StepError) (e : LatchError) (h : RegionState) → r ≡ LatchRefused e → length hs ≡ length gs → ((r : ℕ) → HoldStays gs hs r) → last_of us ≡ Some u → IsStuck (next_undo us 0) hs z r → h.hold ≡ None
    → held (slice_set hs u.region h) < held gs
fewer_held gs hs z us u r e h is size holds last stuck none =
    let way = latch_held hs z us u e last (subst (λ (x : StepError). IsStuck (next_undo us 0) hs z x) is stuck) in
    let less = held_less hs u.region way.0 h way.1 way.2 way.3 none in
    let no_more = held_no_more gs hs size holds in
    omega (arith, less, no_more)
