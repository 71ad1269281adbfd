-- A commit from a point where the core stands: what it leaves of others.
use Rattle.std.proofs.Common.{inl, inr, ◌≡◌, ℕ, Bool, true, false, List, [], ◌∷◌, ◌++◌, Option, Some, None, refl, ap, sym, subst, ◌∙◌, arith, append_assoc, option_map}
use Rattle.std.specs.Prelude.{◌==◌, Contains}
use Rattle.std.specs.List.{AllByRecursion}
use Rattle.std.proofs.lemmas.Bool.Decides.{Decides-eqb}
use Rattle.std.proofs.lemmas.List.Elements.{Contains-append_right}
use Rattle.dali_lists.proofs.Members.{all_append}
use Rattle.dali_record.specs.declared.records.Record.{Record}
use Rattle.dali_record.specs.declared.records.Record.TheVariants.{Commit, Ended, Solo}
use Rattle.dali_region.specs.State.{RegionState}
use Rattle.dali_att.specs.declared.state.State.{State}
use Rattle.dali_att.specs.declared.state.State.TheVariants.{Live, Dead}
use Rattle.dali_att.specs.Table.{with_state}
use Rattle.dali_store.specs.Store.{Files as Disk}
use Rattle.dali_store.specs.declared.store.Store.{Ghosts}
use Rattle.dali_runs.specs.State.{TxnRow, SystemState, row_of, state_of, state_in}
use Rattle.dali_runs.specs.Steps.{commit_logged}
use Rattle.dali_runs.specs.Courses.{Commits, Takes, Flushes, Faults, Stops}
use Rattle.dali_crash.specs.Checkpoints.{Point, Does, IsPointCourse, moment_of}
use Rattle.dali_crash.specs.Traces.{Start, bases_of}
use Rattle.dali_crash.proofs.Courses.{flush_logs_none}
use Rattle.dali_core.specs.Vault.Vaulted.{Vaulted}
use Rattle.dali_calls.specs.Single.Single.{MayCall}
use Rattle.dali_calls.specs.Single.Ending.{IsBackOf}
use Rattle.dali_calls.specs.Single.Settling.{IsSoloOf}
use Rattle.dali_clean.specs.Others.{RowStays, OthersStay}
use Rattle.dali_calls.specs.Stepwise.Beside.{LeavesBe}
use Rattle.dali_calls.proofs.StepwiseLemmas.Waiting.{call_waits}
use Rattle.dali_transactions.specs.Stands.{StandsAt}
use Rattle.dali_transactions.specs.Ended.{HasCome}
use Rattle.dali_transactions.specs.Committed.{IsLogged}
use Rattle.dali_transactions.proofs.Standing.{come_of_end}
use Rattle.dali_transactions.proofs.Wholes.{core_course, whole_here}
use Rattle.dali_transactions.specs.Beside.Went.{is_open, Went, AreBetween}
use Rattle.dali_transactions.specs.Beside.Calls.{IsOfEnd, EndGoes, CommitLeaves, FailureLeaves}
use Rattle.dali_transactions.specs.Beside.Keeps.{EndKeeps, CommitKeeps, FailureKeeps}
use Rattle.dali_transactions.proofs.BesideLemmas.Going.{runs_here}
use Rattle.dali_transactions.proofs.BesideLemmas.Beside.{Onward, onward_on, course_onward, left_be, by_core}
use Rattle.dali_transactions.proofs.BesideLemmas.Calls.{end_goes}
use Rattle.dali_transactions.proofs.BesideLemmas.Cleaning.{backs_of}
use Rattle.dali_transactions.proofs.BesideLemmas.Runs.{live_is_uncommitted}

pub solos_of : (t : ℕ) (xs : List Record) → AllByRecursion (IsSoloOf t) xs → AllByRecursion (IsOfEnd t) xs
solos_of t [] are = tt
solos_of t (x ∷ xs) are = (on x are.0, solos_of t xs are.1)
  where
    on : (r : Record) → IsSoloOf t r → IsOfEnd t r
    on (Solo n u b) own = own
    on r own = absurd own

flush_onward : (p q : Point) → IsPointCourse p (Does Takes ∷ Does Flushes ∷ []) q → Onward p.core.system q.core.system
flush_onward p q c =
    subst (λ (x : Point). Onward p.core.system x.core.system) c.2.2
    (onward_on p.core.system c.0.core.system c.2.0.core.system (by_core p.core c.0.core _ c.1.1.0.1 (refl, omega arith)) (by_core c.0.core c.2.0.core _ c.2.1.1.0.1.1 (refl, omega arith)))

fault_onward : (p q : Point) (n : ℕ) → IsPointCourse p (Does Takes ∷ Does (Faults n) ∷ Does Stops ∷ []) q → Onward p.core.system q.core.system
fault_onward p q n c =
    subst (λ (x : Point). Onward p.core.system x.core.system) c.2.2.2
    (onward_on p.core.system c.0.core.system c.2.2.0.core.system (by_core p.core c.0.core _ c.1.1.0.1 (refl, omega arith))
    (onward_on c.0.core.system c.2.0.core.system c.2.2.0.core.system (by_core c.0.core c.2.0.core _ c.2.1.1.0.2.1 (refl, omega arith)) (by_core c.2.0.core c.2.2.0.core _ c.2.2.1.1.0.1.1 (refl, omega arith))))

-- ---- who is live
pub gone_is_dead : (y : SystemState) (t : ℕ) → row_of y t ≡ None → state_of y t ≡ Some Live → ⊥
gone_is_dead y t none lives = never (sym (ap state_in none) ∙ lives)
  where
    never : (let n : Option State = None in n ≡ Some Live) → ⊥
    never e = cc

-- who is live behind it was live
pub was_live : (gs hs : List RegionState) (y z : SystemState) (u : ℕ) → RowStays gs y u hs z → state_of z u ≡ Some Live → state_of y u ≡ Some Live
was_live gs hs y z u (inl same) lives = ap state_in (sym same) ∙ lives
was_live gs hs y z u (inr dead) lives = absurd (by_row (row_of y u) dead.2)
  where
    never : (let n : Option State = None in n ≡ Some Live) → ⊥
    never e = cc

    differ : Some (Dead None) ≡ Some Live → ⊥
    differ e = cc

    by_row : (row : Option TxnRow) → row_of z u ≡ option_map (with_state (Dead None)) row → ⊥
    by_row None e = never (sym (ap state_in e) ∙ lives)
    by_row (Some row) e = differ (sym (ap state_in e) ∙ lives)

module _ {V : Type 0} (means : Ghosts V) where
  pub commit_leaves : CommitLeaves means
  commit_leaves s B p gs hs y z v w t k c others =
      left_be means t (Commit t ∷ own) s B c.flushed.batches p c.settled.to gs hs y z v w k c.settled.stands log (refl, all_append (IsOfEnd t) c.settled.records (Ended t ∷ []) (solos_of t c.settled.records c.settled.are) (refl, tt)) onward others
    where
      own : List Record
      own = c.settled.records ++ Ended t ∷ []

      log : c.settled.to.log ≡ p.log ++ (Commit t ∷ own)
      log =
          c.settled.log
          ∙ (append_assoc c.flushed.to.log c.settled.records (Ended t ∷ [])
          ∙ (ap (λ (l : List Record). l ++ own) (flush_logs_none c.logged.to c.flushed.to c.flushed.course ∙ c.logged.log)
          ∙ append_assoc p.log (Commit t ∷ []) own))

      onward : Onward y z
      onward =
          let first : Onward y c.logged.to.core.system = subst (λ (x : SystemState). Onward y x) (sym c.logged.stands.at.system) (refl, omega arith) in
          let then = flush_onward c.logged.to c.flushed.to c.flushed.course in
          let last = course_onward (moment_of c.flushed.to) (moment_of c.settled.to) c.settled.steps (come_of_end means t (IsSoloOf t) (Ended t ∷ []) s c.flushed.batches c.flushed.to w hs z c.settled) (core_course c.flushed.to c.settled.to c.settled.steps c.settled.course) in
          subst (λ (x : SystemState). Onward y x) c.settled.stands.at.system
          (onward_on y c.logged.to.core.system c.settled.to.core.system first (onward_on c.logged.to.core.system c.flushed.to.core.system c.settled.to.core.system then last))

  pub failure_leaves : FailureLeaves means
  failure_leaves s B p gs y z v w t k c others =
      left_be means t (Commit t ∷ []) s B B p c.stopped.to gs gs y z v w k c.stands c.log (refl, tt) onward others
    where
      onward : Onward y z
      onward =
          let first : Onward y c.logged.to.core.system = subst (λ (x : SystemState). Onward y x) (sym c.logged.stands.at.system) (refl, omega arith) in
          let then = fault_onward c.logged.to c.stopped.to (means.faults w.store) c.stopped.course in
          subst (λ (x : SystemState). Onward y x) c.stands.at.system (onward_on y c.logged.to.core.system c.stopped.to.core.system first then)

  -- ---- in steps
  unfoldable pub commit_logs_go : (s : Start) (B : List (List Record)) (p : Point) (gs : List RegionState) (y : SystemState) (v : Vaulted V) (t : ℕ) → StandsAt means s B p gs y v → (l : IsLogged means s B p gs y v t)
      → OthersStay gs y t gs (commit_logged y t) → Went means t (Commit t ∷ []) s B p gs gs (commit_logged y t) v
  commit_logs_go s B p gs y v t k l others = record {
    to = l.to;
    steps = Commits t ∷ [];
    calm = refl;
    course = l.course;
    log = l.log;
    stands = l.stands;
    keeps = l.keeps;
    others = left_be means t (Commit t ∷ []) s B B p l.to gs gs y (commit_logged y t) v v k l.stands l.log (refl, tt) (refl, omega arith) others;
    places = λ files. files;
    whole = λ whole. whole_here means s B l.to gs (commit_logged y t) v l.stands whole.files;
  }

  pub solos_go : (last : List Record) (own : Record → Type 0) (s : Start) (B : List (List Record)) (p : Point) (gs hs : List RegionState) (y z : SystemState) (v : Vaulted V) (t : ℕ) → StandsAt means s B p gs y v
      → (e : HasCome means t own last s B p v hs z) → AllByRecursion (IsOfEnd t) (e.records ++ last) → OthersStay gs y t hs z
      → (w : Went means t (e.records ++ last) s B p gs hs z v) × (w.to ≡ e.to) × (w.steps ≡ e.steps)
  solos_go last own s B p gs hs y z v t k e are others = end_goes means own last s B p gs hs y z v t k e are others

  pub backs_go : EndGoes means
  backs_go last s B p gs hs y z v t k e ends others = end_goes means (IsBackOf t) last s B p gs hs y z v t k e (all_append (IsOfEnd t) e.records last (backs_of t e.records e.are) ends) others

  -- ---- between the calls
  others_between : (t : ℕ) (gs hs : List RegionState) (y z : SystemState) (v w : Vaulted V) (b : AreBetween means gs y v) (C : List (List Record)) (q : Point) → StandsAt means b.up.start C q hs z w
      → ((u : ℕ) → (t == u) ≡ false → is_open (state_of b.up.point.core.system u) ≡ true → LeavesBe u b.up.point.log b.up.point.core q.log q.core) → OthersStay gs y t hs z → (state_of z t ≡ Some Live → ⊥)
      → AreBetween means hs z w
  others_between t gs hs y z v w b C q stands leaves others not = record {
    up = record { start = b.up.start; batches = C; point = q; stands = stands };
    each = λ u lives. by_test u (t == u) refl lives;
  }
    where
      by_test : (u : ℕ) (e : Bool) → (t == u) ≡ e → state_of z u ≡ Some Live → MayCall q.log q.core u
      by_test u true e lives = absurd (not (ap (λ (n : ℕ). state_of z n) ((Decides-eqb t u).0 e) ∙ lives))
      by_test u false e lives =
          let was : state_of y u ≡ Some Live = was_live gs hs y z u (others.rows u e) lives in
          call_waits b.up.point.log q.log b.up.point.core q.core u (leaves u e (ap (λ (x : SystemState). is_open (state_of x u)) b.up.stands.at.system ∙ ap is_open was)) (b.each u was)

  pub end_keeps : EndKeeps means
  end_keeps gs hs y z v t b comes others gone =
      let e = comes b.up.start b.up.batches b.up.point b.up.stands in
      let w = (end_goes means (IsBackOf t) (Ended t ∷ []) b.up.start b.up.batches b.up.point gs hs y z v t b.up.stands e (all_append (IsOfEnd t) e.records (Ended t ∷ []) (backs_of t e.records e.are) (refl, tt)) others).0 in
      others_between t gs hs y z v v b b.up.batches w.to w.stands w.others others (gone_is_dead z t gone.0)

  pub commit_keeps : CommitKeeps means
  commit_keeps gs hs y z v w t b lives goes others gone =
      let c = goes b.up.start b.up.batches b.up.point b.up.stands (b.each t lives) in
      others_between t gs hs y z v w b c.flushed.batches c.settled.to c.settled.stands (commit_leaves b.up.start b.up.batches b.up.point gs hs y z v w t b.up.stands c others) others (gone_is_dead z t gone.0)

  pub failure_keeps : FailureKeeps means
  failure_keeps gs y z v w t b lives fails others =
      let c = fails b.up.start b.up.batches b.up.point b.up.stands (b.each t lives) in
      others_between t gs gs y z v w b b.up.batches c.stopped.to c.stands (failure_leaves b.up.start b.up.batches b.up.point gs y z v w t b.up.stands c others) others
      (λ still. live_is_uncommitted (bases_of b.up.start) c.stopped.to.log c.stopped.to.core t (runs_here means b.up.start b.up.batches c.stopped.to gs z w c.stands)
      (ap (λ (x : SystemState). state_of x t) c.stands.at.system ∙ still)
      (subst (λ (l : List Record). Contains l (Commit t)) (sym c.log) (Contains-append_right b.up.point.log (Commit t ∷ []) (Commit t) (0, omega arith, refl))))
