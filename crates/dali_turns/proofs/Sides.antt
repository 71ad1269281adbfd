-- Steps by which a client ends a transaction, or takes back what dead clients left: the deeds that tell them, each right at its place.
use Rattle.std.proofs.Common.{◌≡◌, ℕ, ◌+◌, Bool, true, false, List, [], ◌∷◌, ◌++◌, length, map, fold, Option, Some, None, is_some, refl, ap, sym, subst, ◌∙◌, ◌⊎◌, inl, inr, ⊎_elim, arith}
use Rattle.std.specs.Prelude.{◌==◌, slice_get, slice_set, if◌then◌else◌}
use Rattle.std.specs.List.{AllByRecursion}
use Rattle.std.proofs.lemmas.List.{append-nil, append_assoc, append_cancel_left, length-append}
use Rattle.std.proofs.lemmas.List.Sums.{fold-append}
use Rattle.std.proofs.lemmas.Bool.{ne_eqb}
use Rattle.std.proofs.lemmas.Option.{none-some, same_Some}
use Rattle.dali_lists.proofs.Members.{all_map}
use Rattle.dali_lists.proofs.Tests.{not_both_ways}
use Rattle.dali_runs.proofs.CountsLemmas.Lists.{equal, self}
use Rattle.dali_record.specs.declared.operations.Block.{Block}
use Rattle.dali_record.specs.declared.records.Record.{Record}
use Rattle.dali_record.specs.declared.records.Record.TheVariants.{Forward, Back, Ended, Solo}
use Rattle.dali_region.specs.declared.Hold.{Hold}
use Rattle.dali_region.specs.State.{RegionState, map_hold, reading, writing, touched, taken_back}
use Rattle.dali_att.specs.declared.state.State.{State as RowState}
use Rattle.dali_att.specs.declared.state.State.TheVariants.{Live, Dead, Cleaning, Committed}
use Rattle.dali_runs.specs.State.{CoreState, state_of, hold_in, hold_of}
use Rattle.dali_runs.specs.Run.{Bases, no_image}
use Rattle.dali_runs.specs.Keeps.{may_log_in, MayRecover}
use Rattle.dali_runs.specs.Regions.{RegionStep, Latch, NoteReads, Update, TakeBack, region_after}
use Rattle.dali_runs.specs.Wholes.{IsWhole, latched_in}
use Rattle.dali_runs.specs.declared.causes.Cause.{Cause}
use Rattle.dali_runs.specs.Courses.{Step, Operates, TakesBack, Frees, Ends, Locks, OnRegion, Claims, GivesBack, Recovers}
use Rattle.dali_runs.proofs.Courses.{step_goes}
use Rattle.dali_runs.proofs.WholeSteps.{whole_keeps}
use Rattle.dali_crash.specs.Checkpoints.{StoreStep, Does, Point, IsPointStep, IsPointCourse, moment_of}
use Rattle.dali_crash.specs.StoreRuns.{StoreRun}
use Rattle.dali_crash.proofs.StoreRuns.{bare_store_course_keeps}
use Rattle.dali_clean.specs.Steps.{is_own_change}
use Rattle.dali_clean.proofs.Lists.{get_set, get_apart}
use Rattle.dali_calls.specs.Single.Ending.{IsBackOf}
use Rattle.dali_calls.specs.Single.Settling.{IsSoloOf}
use Rattle.dali_calls.proofs.SingleLemmas.Lists.{all_both}
use Rattle.dali_transactions.specs.Ended.{AreOfEnd}
use Rattle.dali_transcripts.specs.World.{Deed, Logs, Claims as ClaimsTxn, GivesBack as GivesTxnBack, World, logged_by, log_of, claimed, given_back, state_step, state_after, state_at, is_dead_in, is_claimed_in, failing, has_failed, claimer_step, claimer_at, Grows}
use Rattle.dali_transcripts.specs.Moves.{Receipt}
use Rattle.dali_transcripts.specs.Causes.{IsCleaning, HasClaimed, HasGivenBack, IsUntouched, AreAside, AreBehind, IsRight}
use Rattle.dali_transcripts.specs.Transcripts.{count_with}
use Rattle.dali_transcripts.specs.Laws.{receipts_from}
use Rattle.dali_transcripts.specs.Rounds.{by}
use Rattle.dali_transcripts.proofs.Owned.{counts}
use Rattle.dali_transcripts.proofs.Growing.{placed, cleaning, has_claimed, given_back as given_back_on}
use Rattle.dali_clean.proofs.Cleaning.{holds_at}
use Rattle.dali_transcripts.specs.Telling.Deeds.{AreOf}
use Rattle.dali_transcripts.specs.Telling.Tells.{after, AreRightThen, Tells, Goes}
use Rattle.dali_transcripts.specs.Telling.Laws.{AreOfCourse}
use Rattle.dali_transcripts.proofs.TellingLemmas.Told.{log_is}
use Rattle.dali_transcripts.proofs.TellingLemmas.Courses.{after_after}
use Rattle.dali_turns.proofs.Deeds.{step_tells, course_tells, goes_on}
use Rattle.dali_turns.proofs.Refusals.{front, done_last, runs_on_log, runs_there}

-- ---- the records
-- what they log
abbrev pub IsSideRecord : ℕ → Record → Type 0
IsSideRecord t (Back u b) = u ≡ t
IsSideRecord t (Solo n u b) = u ≡ t
IsSideRecord t x = ⊥

-- ---- the deeds
-- it takes back or frees for the client's transaction m, or is one of a clean-up
abbrev pub IsSide : World → (client txn : ℕ) → Receipt → Type 0
IsSide w c m (n, Logs (Back u b)) = (u ≡ m) ⊎ IsCleaning w c m n u (Logs (Back u b))
IsSide w c m (n, Logs (Solo u p b)) = p ≡ m
IsSide w c m (n, ClaimsTxn u) = ((u == m) ≡ false) × HasClaimed w c n u
IsSide w c m (n, GivesTxnBack u latched) = ((u == m) ≡ false) × HasGivenBack w c n u latched
IsSide w c m x = ⊥

abbrev pub AreSideDeeds : World → ℕ → ℕ → List Receipt → Type 0
AreSideDeeds w c m xs = AllByRecursion (IsSide w c m) xs

side_grows : (v w : World) (g : Grows v w) (c m : ℕ) (x : Receipt) → IsSide v c m x → IsSide w c m x
side_grows v w g c m (n, Logs (Back u b)) (inl e) = inl e
side_grows v w g c m (n, Logs (Back u b)) (inr h) = inr (cleaning v w g c m n u (Logs (Back u b)) h)
side_grows v w g c m (n, Logs (Solo u p b)) h = h
side_grows v w g c m (n, ClaimsTxn u) h = (h.0, has_claimed v w g c n u h.1)
side_grows v w g c m (n, GivesTxnBack u latched) h = (h.0, given_back_on v w g c n u latched h.1)
side_grows v w g c m x h = absurd h

side_right : (v w : World) (c m n i : ℕ) (r : Record) → IsSide v c m (n, Logs r) → IsRight w c i (Logs r)
side_right v w c m n i (Back u b) h = tt
side_right v w c m n i (Solo u p b) h = tt
side_right v w c m n i r h = absurd h

-- none is a failure of the store
none_fails : (v : World) (c m n : ℕ) (ds : List Deed) (b : Bool) → AreSideDeeds v c m (receipts_from n ds) → has_failed b (by c ds) ≡ b
none_fails v c m n [] b h = refl
none_fails v c m n (Logs x ∷ ds) b h = none_fails v c m (n + 1) ds b h.1
none_fails v c m n (ClaimsTxn u ∷ ds) b h = none_fails v c m n ds b h.1
none_fails v c m n (GivesTxnBack u o ∷ ds) b h = none_fails v c m n ds b h.1
none_fails v c m n (x ∷ ds) b h = absurd h.0

pub sides_grow : (v w : World) (g : Grows v w) (c m : ℕ) (xs : List Receipt) → AreSideDeeds v c m xs → AreSideDeeds w c m xs
sides_grow v w g c m xs h = all_map (IsSide v c m) (IsSide w c m) (side_grows v w g c m) xs h

pub receipts_then : (c n : ℕ) (ds es : List Deed) → receipts_from n (ds ++ es) ≡ receipts_from n ds ++ receipts_from (n + length (logged_by (by c ds))) es
receipts_then c n [] es = let e : n ≡ n + 0 = omega arith in ap (λ k. receipts_from k es) e
receipts_then c n (x ∷ xs) es =
    ap (λ l. (n, x) ∷ l) (receipts_then c (count_with n x) xs es)
    ∙ ap (λ k. (n, x) ∷ receipts_from (count_with n x) xs ++ receipts_from k es) (counts n (x, c) (by c xs))

-- ---- the table and the claims, as the world tells them
pub state_here : (w : World) (c : ℕ) (x : Deed) (d : CoreState) (p : Point) (u : ℕ) → Tells w p → state_at (after w c (x ∷ []) d) (length w.happened) u ≡ state_of p.core.system u
state_here w c x d p u told = ap (λ xs. state_after w xs u) (front w c x d) ∙ (sym (told.together.states u) ∙ ap (λ (k : CoreState). state_of k.system u) told.core)

pub claimer_here : (w : World) (c : ℕ) (x : Deed) (d : CoreState) (u : ℕ) → claimer_at (after w c (x ∷ []) d) (length w.happened) u ≡ fold (claimer_step u) None w.happened
claimer_here w c x d u = ap (fold (claimer_step u) None) (front w c x d)

pub state_then : (w : World) (c : ℕ) (ds : List Deed) (p q : Point) (u : ℕ) → Tells w p → Tells (after w c ds q.core) q → state_of q.core.system u ≡ fold (state_step u) (state_of p.core.system u) (by c ds)
state_then w c ds p q u told later =
    later.together.states u
    ∙ (fold-append (state_step u) (state_of w.old.system u) w.happened (by c ds)
    ∙ ap (λ o. fold (state_step u) o (by c ds)) (sym (told.together.states u) ∙ ap (λ (k : CoreState). state_of k.system u) told.core))

pub claimer_then : (w : World) (c : ℕ) (ds : List Deed) (d : CoreState) (u : ℕ) → fold (claimer_step u) None (after w c ds d).happened ≡ fold (claimer_step u) (fold (claimer_step u) None w.happened) (by c ds)
claimer_then w c ds d u = fold-append (claimer_step u) None w.happened (by c ds)

-- ---- what a point has
pub record At (bases : Bases) (before : List Record) (w : World) (p : Point) : Type 0 where
  pub run : StoreRun bases before no_image p
  pub tells : Tells w p
  pub whole : IsWhole p.core

-- nothing is left of an operation in which the client of t died
abbrev pub HasNoDead : ℕ → CoreState → Type 0
HasNoDead t c = (r : ℕ) (h : Hold) → hold_of c r ≡ Some h → h.txn ≡ t → h.dead ≡ true → ⊥

-- t is the client's own, or another one that it has claimed
abbrev pub IsInHand : World → Point → (client own txn : ℕ) → Type 0
IsInHand w p c m t = (t ≡ m) ⊎ (((t == m) ≡ false) × (is_claimed_in (state_of p.core.system t) ≡ true) × (fold (claimer_step t) None w.happened ≡ Some c))

pub record InHand (w : World) (p : Point) (c m t : ℕ) : Type 0 where
  -- nobody else is claimed
  pub others : (u : ℕ) → is_claimed_in (state_of p.core.system u) ≡ true → u ≡ t
  pub free : HasNoDead t p.core
  pub lives : is_dead_in (state_of p.core.system m) ≡ false
  pub holds : IsInHand w p c m t

-- ---- small facts

-- a region changes
free_set : (t : ℕ) (gs : List RegionState) (r : ℕ) (g h : RegionState) → slice_get gs r ≡ Some g → ((k : Hold) → h.hold ≡ Some k → k.txn ≡ t → k.dead ≡ true → ⊥)
    → ((q : ℕ) (k : Hold) → hold_in (slice_get gs q) ≡ Some k → k.txn ≡ t → k.dead ≡ true → ⊥) → (q : ℕ) (k : Hold) → hold_in (slice_get (slice_set gs r h) q) ≡ Some k → k.txn ≡ t → k.dead ≡ true → ⊥
free_set t gs r g h at here there q k held own dead = by_test (r == q) refl
  where
    differ : (r == q) ≡ false → r ≡ q → ⊥
    differ e same = not_both_ways (subst (λ (n : ℕ). (r == n) ≡ true) same (self r)) e

    by_test : (b : Bool) → (r == q) ≡ b → ⊥
    by_test true e =
        let same : r ≡ q = equal r q e in
        here k (sym (ap hold_in (subst (λ (n : ℕ). slice_get (slice_set gs r h) n ≡ Some h) same (get_set gs r g h at))) ∙ held) own dead
    by_test false e = there q k (ap hold_in (sym (get_apart gs r h q (differ e))) ∙ held) own dead

mapped_dead : (t : ℕ) (o : Option Hold) (f : Hold → Hold) → ((h : Hold) → (f h).txn ≡ h.txn) → ((h : Hold) → (f h).dead ≡ h.dead) → ((k : Hold) → o ≡ Some k → k.txn ≡ t → k.dead ≡ true → ⊥)
    → (k : Hold) → map_hold f o ≡ Some k → k.txn ≡ t → k.dead ≡ true → ⊥
mapped_dead t None f txn gone was k e own dead = none-some k e
mapped_dead t (Some h) f txn gone was k e own dead =
    let same : f h ≡ k = same_Some (f h) k e in
    was h refl (sym (txn h) ∙ (ap (λ (x : Hold). x.txn) same ∙ own)) (sym (gone h) ∙ (ap (λ (x : Hold). x.dead) same ∙ dead))

change_free : (t : ℕ) (x : RegionStep) (g : RegionState) → is_own_change t x ≡ true → ((k : Hold) → g.hold ≡ Some k → k.txn ≡ t → k.dead ≡ true → ⊥)
    → (k : Hold) → (region_after x g).hold ≡ Some k → k.txn ≡ t → k.dead ≡ true → ⊥
change_free t (Latch u) g e was k held own dead =
    let here : Hold = record { txn = u; dead = false; read = 0; xor = 0; write = 0 } in
    not_both_ways dead (sym (ap (λ (x : Hold). x.dead) (same_Some here k held)))
change_free t (NoteReads mask) g e was k held own dead = mapped_dead t g.hold (reading mask g.words) (λ h. refl) (λ h. refl) was k held own dead
change_free t (Update word value) g e was k held own dead = mapped_dead t g.hold (writing word) (λ h. refl) (λ h. refl) was k held own dead
change_free t TakeBack g e was k held own dead = none-some k held
change_free t x g e was k held own dead = absurd (cc)

same_free : (t : ℕ) (c d e : CoreState) → d ≡ e → e.regions ≡ c.regions → HasNoDead t c → HasNoDead t d
same_free t c d e is regions was r h held = was r h (ap (λ (gs : List RegionState). hold_in (slice_get gs r)) (sym (ap (λ (k : CoreState). k.regions) is ∙ regions)) ∙ held)

set_free : (t : ℕ) (c d e : CoreState) (r : ℕ) (g h : RegionState) → d ≡ e → e.regions ≡ slice_set c.regions r h → slice_get c.regions r ≡ Some g → ((k : Hold) → h.hold ≡ Some k → k.txn ≡ t → k.dead ≡ true → ⊥)
    → HasNoDead t c → HasNoDead t d
set_free t c d e r g h is regions at here was q k held =
    free_set t c.regions r g h at here was q k (ap (λ (gs : List RegionState). hold_in (slice_get gs q)) (sym (ap (λ (x : CoreState). x.regions) is ∙ regions)) ∙ held)

-- ---- one step
module _ (bases : Bases) (before : List Record) (c : ℕ) where
  module _ (w : World) (p k : Point) (x : Step) (ds : List Deed) (at : At bases before w p) (step : IsPointStep p (Does x) k) (are : AreOf w c p (Does x) ds) (right : AreRightThen w c ds k.core) where
    pub one_goes : Goes w c p ds (after w c ds k.core) k
    one_goes = step_tells bases before w c p k (Does x) ds at.run at.tells step are right

    pub at_next : At bases before (after w c ds k.core) k
    at_next = record {
      run = bare_store_course_keeps bases before p k (Does x ∷ []) at.run (k, step, refl);
      tells = one_goes.tells;
      whole = whole_keeps bases p.log k.log p.core k.core x (runs_on_log bases before p at.run) at.whole step.1.0;
    }

  -- ---- the log
  pub side_log : (p q : Point) (xs : List Step) → IsPointCourse p (map Does xs) q → (more : List Record) × (q.log ≡ p.log ++ more)
  side_log p q [] course = ([], ap (λ (z : Point). z.log) (sym course) ∙ sym (append-nil p.log))
  side_log p q (x ∷ xs) (k, step, course) =
      let rest = side_log k q xs course in
      ⊎_elim (λ same. (rest.0, rest.1 ∙ ap (λ l. l ++ rest.0) same))
      (λ more. (more.0 ∷ rest.0, rest.1 ∙ (ap (λ l. l ++ rest.0) more.2 ∙ append_assoc p.log (more.0 ∷ []) rest.0)))
      (step_goes (moment_of p) (moment_of k) x step.1).log

  -- the step's record is the first of those that are logged
  pub first_logged : (p k q : Point) (xs : List Step) (x : Record) (rest : List Record) → k.log ≡ p.log ++ x ∷ [] → IsPointCourse k (map Does xs) q → q.log ≡ p.log ++ rest
      → (more : List Record) × (rest ≡ x ∷ more) × (q.log ≡ k.log ++ more)
  first_logged p k q xs x rest one course all =
      let behind = side_log k q xs course in (
        behind.0,
        append_cancel_left p.log rest (x ∷ behind.0) (sym all ∙ (behind.1 ∙ (ap (λ l. l ++ behind.0) one ∙ append_assoc p.log (x ∷ []) behind.0))),
        behind.1,
      )

  -- ---- lists of steps
  -- m: the transaction of the client; t: the one that is in hand
  module _ (m t : ℕ) where
    pub record Sided (w : World) (p : Point) (xs : List Step) (q : Point) : Type 0 where
      pub ds : List Deed
      pub are : AreOfCourse w c p (map Does xs) q ds
      pub sides : AreSideDeeds (after w c ds q.core) c m (receipts_from (length (log_of w)) ds)
      pub at : At bases before (after w c ds q.core) q
      pub hand : InHand (after w c ds q.core) q c m t

    -- the store doesn't fail in it, and an engine that is stopped stays so
    module _ (w : World) (p q : Point) (xs : List Step) (at : At bases before w p) (stops : p.core.vault.stopped ≡ true → is_some p.core.system.stop ≡ true) (sided : Sided w p xs q) where
      abbrev reached : World
      reached = after w c sided.ds q.core

      reaches : Goes w c p sided.ds reached q
      reaches = course_tells bases before w c p q (map Does xs) sided.ds at.run at.tells sided.are

      stops_still : q.core.vault.stopped ≡ true → is_some q.core.system.stop ≡ true
      stops_still failed = by_stop p.core.system.stop refl (stops before_it)
        where
          before_it : p.core.vault.stopped ≡ true
          before_it =
              ap (λ (k : CoreState). k.vault.stopped) (sym at.tells.core)
              ∙ (at.tells.together.faults.stopped
              ∙ (sym (fold-append failing w.old.vault.stopped w.happened (by c sided.ds) ∙ none_fails reached c m (length (log_of w)) sided.ds (has_failed w.old.vault.stopped w.happened) sided.sides)
              ∙ (sym sided.at.tells.together.faults.stopped ∙ failed)))

          by_stop : (o : Option Cause) → p.core.system.stop ≡ o → is_some p.core.system.stop ≡ true → is_some q.core.system.stop ≡ true
          by_stop None e h = let both : true ≡ false = sym h ∙ ap is_some e in absurd (cc)
          by_stop (Some cause) e h = ap is_some (reaches.grows.stopped cause (ap (λ (k : CoreState). k.system.stop) at.tells.core ∙ e))

      -- so a transaction ends behind it where the engine runs
      pub ended_right : (u : ℕ) (r : Point) → IsPointStep q (Does (Ends u)) r → AreRightThen reached c (Logs (Ended u) ∷ []) r.core
      ended_right u r step = (runs_there bases before reached c q sided.at.run sided.at.tells stops_still (Logs (Ended u)) r.core step.1.0.0, tt)

    module _ (w : World) (p k q : Point) (x : Step) (xs : List Step) (one : List Deed) (at : At bases before w p) (step : IsPointStep p (Does x) k) (are : AreOf w c p (Does x) one) (right : AreRightThen w c one k.core) where
      abbrev there : World
      there = after w c one k.core

      count_there : length (log_of there) ≡ length (log_of w) + length (logged_by (by c one))
      count_there = ap length (log_is w c one k.core) ∙ length-append (log_of w) (logged_by (by c one))

      pub joined : AreSideDeeds there c m (receipts_from (length (log_of w)) one) → Sided there k xs q → Sided w p (x ∷ xs) q
      joined first rest = record {
        ds = one ++ rest.ds;
        are = (k, one, rest.ds, step, are, right, rest.are, refl);
        sides = subst (λ (v : World). AreSideDeeds v c m (receipts_from (length (log_of w)) (one ++ rest.ds))) whole.is
            (subst (λ rs. AreSideDeeds end c m rs) (sym (receipts_then c (length (log_of w)) one rest.ds ∙ ap (λ n. receipts_from (length (log_of w)) one ++ receipts_from n rest.ds) (sym count_there)))
            (all_both (IsSide end c m) (receipts_from (length (log_of w)) one) (receipts_from (length (log_of there)) rest.ds) (sides_grow there end second.grows c m (receipts_from (length (log_of w)) one) first) rest.sides));
        at = subst (λ (v : World). At bases before v q) whole.is rest.at;
        hand = subst (λ (v : World). InHand v q c m t) whole.is rest.hand;
      }
        where
          end : World
          end = after there c rest.ds q.core

          next : At bases before there k
          next = at_next w p k x one at step are right

          second : Goes there c k rest.ds end q
          second = course_tells bases before there c k q (map Does xs) rest.ds next.run next.tells rest.are

          whole : Goes w c p (one ++ rest.ds) end q
          whole = goes_on w there end c p k q one rest.ds (one_goes w p k x one at step are right) second

    -- a step that leaves table and claims as they were
    pub hand_kept : (w v : World) (p k : Point) → ((u : ℕ) → state_of k.core.system u ≡ state_of p.core.system u) → fold (claimer_step t) None v.happened ≡ fold (claimer_step t) None w.happened → HasNoDead t k.core
        → InHand w p c m t → InHand v k c m t
    hand_kept w v p k states claimer free hand = record {
      others = λ u e. hand.others u (ap is_claimed_in (sym (states u)) ∙ e);
      free = free;
      lives = ap is_dead_in (states m) ∙ hand.lives;
      holds = ⊎_elim (λ own. inl own) (λ h. inr (h.0, ap is_claimed_in (states t) ∙ h.1, claimer ∙ h.2)) hand.holds;
    }

    -- nothing is done
    none_sided : (w : World) (p q : Point) → At bases before w p → InHand w p c m t → p ≡ q → Sided w p [] q
    none_sided w p q at hand same = record {
      ds = [];
      are = (same, refl);
      sides = tt;
      at = record {
        run = subst (λ (z : Point). StoreRun bases before no_image z) same at.run;
        tells = (course_tells bases before w c p q [] [] at.run at.tells (same, refl)).tells;
        whole = subst (λ (z : Point). IsWhole z.core) same at.whole;
      };
      hand = hand_kept w (after w c [] q.core) p q (λ u. ap (λ (z : Point). state_of z.core.system u) (sym same)) (claimer_then w c [] q.core t) (subst (λ (z : Point). HasNoDead t z.core) same hand.free) hand;
    }

    -- a step that nothing tells
    module _ (w : World) (p k q : Point) (x : Step) (xs : List Step) (at : At bases before w p) (hand : InHand w p c m t) (step : IsPointStep p (Does x) k) (are : AreOf w c p (Does x) []) (free : HasNoDead t k.core) where
      silent : (At bases before (after w c [] k.core) k → InHand (after w c [] k.core) k c m t → Sided (after w c [] k.core) k xs q) → Sided w p (x ∷ xs) q
      silent rest = joined w p k q x xs [] at step are tt tt (rest next (hand_kept w (after w c [] k.core) p k (λ u. state_then w c [] p k u at.tells next.tells) (claimer_then w c [] k.core t) free hand))
        where
          next : At bases before (after w c [] k.core) k
          next = at_next w p k x [] at step are tt

    -- one that logs a record of t
    module _ (w : World) (p k q : Point) (x : Step) (xs : List Step) (r : Record) (at : At bases before w p) (hand : InHand w p c m t) (step : IsPointStep p (Does x) k) (are : AreOf w c p (Does x) (Logs r ∷ []))
        (plain : (u : ℕ) (o : Option RowState) → state_step u o (Logs r, c) ≡ o) (free : HasNoDead t k.core) where
      logging : IsSide (after w c (Logs r ∷ []) k.core) c m (length (log_of w), Logs r)
          → (At bases before (after w c (Logs r ∷ []) k.core) k → InHand (after w c (Logs r ∷ []) k.core) k c m t → Sided (after w c (Logs r ∷ []) k.core) k xs q) → Sided w p (x ∷ xs) q
      logging side rest =
          joined w p k q x xs (Logs r ∷ []) at step are (side_right (after w c (Logs r ∷ []) k.core) (after w c (Logs r ∷ []) k.core) c m (length (log_of w)) (length w.happened) r side, tt) (side, tt)
          (rest next (hand_kept w (after w c (Logs r ∷ []) k.core) p k (λ u. state_then w c (Logs r ∷ []) p k u at.tells next.tells ∙ plain u (state_of p.core.system u)) (claimer_then w c (Logs r ∷ []) k.core t) free hand))
        where
          next : At bases before (after w c (Logs r ∷ []) k.core) k
          next = at_next w p k x (Logs r ∷ []) at step are (side_right (after w c (Logs r ∷ []) k.core) (after w c (Logs r ∷ []) k.core) c m (length (log_of w)) (length w.happened) r side, tt)

    back_side : (w : World) (p : Point) (d : CoreState) (u : ℕ) (b : Block) → At bases before w p → InHand w p c m t → u ≡ t → IsSide (after w c (Logs (Back u b) ∷ []) d) c m (length (log_of w), Logs (Back u b))
    back_side w p d u b at hand own = ⊎_elim (λ mine. inl (own ∙ mine)) (λ h. inr (record {
      apart = ap (λ (n : ℕ). n == m) own ∙ h.0;
      done = done_last w c (Logs (Back u b)) d;
      claimed = ap is_claimed_in (state_here w c (Logs (Back u b)) d p u at.tells ∙ ap (λ (n : ℕ). state_of p.core.system n) own) ∙ h.1;
      own = claimer_here w c (Logs (Back u b)) d u ∙ (ap (λ (n : ℕ). fold (claimer_step n) None w.happened) own ∙ h.2);
    })) hand.holds

    solo_side : (w : World) (p : Point) (d : CoreState) (n u : ℕ) (b : Block) → InHand w p c m t → u ≡ t → may_log_in (state_of p.core.system u) (Solo n u b) ≡ true → IsSide (after w c (Logs (Solo n u b) ∷ []) d) c m (length (log_of w), Logs (Solo n u b))
    solo_side w p d n u b hand own may = ⊎_elim (λ mine. own ∙ mine) (λ h. absurd (no_solo (state_of p.core.system t) h.1 (subst (λ (k : ℕ). may_log_in (state_of p.core.system k) (Solo n k b) ≡ true) own may))) hand.holds
      where
        no_solo : (o : Option RowState) → is_claimed_in o ≡ true → may_log_in o (Solo n t b) ≡ true → ⊥
        no_solo None e f = absurd (cc)
        no_solo (Some (Cleaning latched)) e f = absurd (cc)
        no_solo (Some Live) e f = absurd (cc)
        no_solo (Some (Dead latched)) e f = absurd (cc)
        no_solo (Some Committed) e f = absurd (cc)

    -- what another dead client left is taken back
    module _ (w : World) (p k1 k2 k3 q : Point) (u r : ℕ) (xs : List Step) (at : At bases before w p) (hand : InHand w p c m t) (apart : (u == t) ≡ false)
        (st1 : IsPointStep p (Does (Claims u)) k1) (st2 : IsPointStep k1 (Does (Recovers r)) k2) (st3 : IsPointStep k2 (Does (GivesBack u None)) k3) where
      abbrev w1 : World
      w1 = after w c (ClaimsTxn u ∷ []) k1.core

      abbrev w2 : World
      w2 = after w1 c [] k2.core

      abbrev w3 : World
      w3 = after w2 c (GivesTxnBack u None ∷ []) k3.core

      abbrev latched : Option ℕ
      latched = st1.1.0.0

      was : state_of p.core.system u ≡ Some (Dead latched)
      was = st1.1.0.1

      dead_then : is_dead_in (state_at w1 (length w.happened) u) ≡ true
      dead_then = ap is_dead_in (state_here w c (ClaimsTxn u) k1.core p u at.tells ∙ was)

      at1 : At bases before w1 k1
      at1 = at_next w p k1 (Claims u) (ClaimsTxn u ∷ []) at st1 refl (dead_then, tt)

      at2 : At bases before w2 k2
      at2 = at_next w1 k1 k2 (Recovers r) [] at1 st2 refl tt

      state1 : (v : ℕ) → state_of k1.core.system v ≡ (if u == v then claimed (state_of p.core.system v) else state_of p.core.system v)
      state1 v = state_then w c (ClaimsTxn u ∷ []) p k1 v at.tells at1.tells

      state2 : (v : ℕ) → state_of k2.core.system v ≡ state_of k1.core.system v
      state2 v = state_then w1 c [] k1 k2 v at1.tells at2.tells

      taken : state_of k1.core.system u ≡ Some (Cleaning latched)
      taken = state1 u ∙ (ap (λ (b : Bool). if b then claimed (state_of p.core.system u) else state_of p.core.system u) (self u) ∙ ap claimed was)

      abbrev g : RegionState
      g = st2.1.0.0

      may : MayRecover k1.core g
      may = st2.1.0.2

      named : latched_in (state_of k1.core.system may.hold.txn) ≡ Some r
      named = at1.whole.dead r may.hold (holds_at k1.core.regions r g may.hold st2.1.0.1 may.at) may.dead

      regions1 : k1.core.regions ≡ p.core.regions
      regions1 = ap (λ (k : CoreState). k.regions) st1.1.0.2.1

      -- it is its operation
      holder_is : u ≡ may.hold.txn
      holder_is = by_test (u == may.hold.txn) refl
        where
          by_test : (b : Bool) → (u == may.hold.txn) ≡ b → u ≡ may.hold.txn
          by_test true e = equal u may.hold.txn e
          by_test false e =
              let same : state_of k1.core.system may.hold.txn ≡ state_of p.core.system may.hold.txn =
              state1 may.hold.txn ∙ ap (λ (b : Bool). if b then claimed (state_of p.core.system may.hold.txn) else state_of p.core.system may.hold.txn) e in
              absurd (hand.free r may.hold (ap (λ (gs : List RegionState). hold_in (slice_get gs r)) (sym regions1) ∙ holds_at k1.core.regions r g may.hold st2.1.0.1 may.at)
              (hand.others may.hold.txn (ap is_claimed_in (sym same ∙ may.claimed))) may.dead)

      latched_is : latched ≡ Some r
      latched_is = sym (ap latched_in taken) ∙ (ap (λ (n : ℕ). latched_in (state_of k1.core.system n)) holder_is ∙ named)

      claimed_then : state_at w3 (length w2.happened) u ≡ Some (Cleaning latched)
      claimed_then = state_here w2 c (GivesTxnBack u None) k3.core k2 u at2.tells ∙ (state2 u ∙ taken)

      claimer : fold (claimer_step u) None w2.happened ≡ Some c
      claimer =
          claimer_then w1 c [] k2.core u
          ∙ (claimer_then w c (ClaimsTxn u ∷ []) k1.core u
          ∙ ap (λ (b : Bool). let o : Option ℕ = if b then Some c else fold (claimer_step u) None w.happened in o) (self u))

      own_then : claimer_at w3 (length w2.happened) u ≡ Some c
      own_then = claimer_here w2 c (GivesTxnBack u None) k3.core u ∙ claimer

      right3 : AreRightThen w2 c (GivesTxnBack u None ∷ []) k3.core
      right3 = ((latched, claimed_then, inr refl, own_then), tt)

      at3 : At bases before w3 k3
      at3 = at_next w2 k2 k3 (GivesBack u None) (GivesTxnBack u None ∷ []) at2 st3 refl right3

      not_own : (u == m) ≡ false
      not_own = ne_eqb u m (λ same. not_both_ways (ap is_dead_in was) (subst (λ (n : ℕ). is_dead_in (state_of p.core.system n) ≡ false) (sym same) hand.lives))

      goes2 : Goes w1 c k1 [] w2 k2
      goes2 = one_goes w1 k1 k2 (Recovers r) [] at1 st2 refl tt

      goes3 : Goes w2 c k2 (GivesTxnBack u None ∷ []) w3 k3
      goes3 = one_goes w2 k2 k3 (GivesBack u None) (GivesTxnBack u None ∷ []) at2 st3 refl right3

      behind : length w2.happened ≡ length w.happened + 1
      behind = omega (arith, length-append w1.happened [], length-append w.happened ((ClaimsTxn u, c) ∷ []))

      untouched : IsUntouched w3 c u (length w2.happened)
      untouched = (
        length w.happened,
        omega (arith, behind),
        placed w2 w3 goes3.grows (length w.happened) (ClaimsTxn u, c) (placed w1 w2 goes2.grows (length w.happened) (ClaimsTxn u, c) (done_last w c (ClaimsTxn u) k1.core).there),
        λ n d b since until e. absurd (omega (arith, since, until, behind)),
      )

      given : IsSide w3 c m (length (log_of w2), GivesTxnBack u None)
      given = (
        not_own,
        record {
          given = record { done = done_last w2 c (GivesTxnBack u None) k3.core; was = latched; claimed = claimed_then; own = own_then; left = inr refl };
          why = inl (r, latched_is, refl, untouched);
        },
      )

      other_state : (v : ℕ) → (u == v) ≡ false → state_of k3.core.system v ≡ state_of p.core.system v
      other_state v e =
          state_then w2 c (GivesTxnBack u None ∷ []) k2 k3 v at2.tells at3.tells
          ∙ (ap (λ (b : Bool). if b then given_back None (state_of k2.core.system v) else state_of k2.core.system v) e
          ∙ (state2 v ∙ (state1 v ∙ ap (λ (b : Bool). if b then claimed (state_of p.core.system v) else state_of p.core.system v) e)))

      own_state : state_of k3.core.system u ≡ Some (Dead None)
      own_state =
          state_then w2 c (GivesTxnBack u None ∷ []) k2 k3 u at2.tells at3.tells
          ∙ (ap (λ (b : Bool). if b then given_back None (state_of k2.core.system u) else state_of k2.core.system u) (self u)
          ∙ ap (given_back None) (state2 u ∙ taken))

      free3 : HasNoDead t k3.core
      free3 = same_free t k2.core k3.core _ st3.1.0.1.1 refl
          (set_free t k1.core k2.core _ r g (taken_back g) st2.1.0.3.1 refl st2.1.0.1 (λ k held. absurd (none-some k held)) (same_free t p.core k1.core _ st1.1.0.2.1 refl hand.free))

      claimer3 : fold (claimer_step t) None w3.happened ≡ fold (claimer_step t) None w.happened
      claimer3 =
          claimer_then w2 c (GivesTxnBack u None ∷ []) k3.core t
          ∙ (claimer_then w1 c [] k2.core t
          ∙ (claimer_then w c (ClaimsTxn u ∷ []) k1.core t ∙ ap (λ (b : Bool). if b then Some c else fold (claimer_step t) None w.happened) apart))

      hand3 : InHand w3 k3 c m t
      hand3 = record {
        others = λ v e. by_test v (u == v) refl e;
        free = free3;
        lives = ap is_dead_in (other_state m not_own) ∙ hand.lives;
        holds = ⊎_elim (λ own. inl own) (λ h. inr (h.0, ap is_claimed_in (other_state t apart) ∙ h.1, claimer3 ∙ h.2)) hand.holds;
      }
        where
          by_test : (v : ℕ) (b : Bool) → (u == v) ≡ b → is_claimed_in (state_of k3.core.system v) ≡ true → v ≡ t
          by_test v true e is = absurd (not_both_ways is (ap (λ (n : ℕ). is_claimed_in (state_of k3.core.system n)) (sym (equal u v e)) ∙ ap is_claimed_in own_state))
          by_test v false e is = hand.others v (ap is_claimed_in (sym (other_state v e)) ∙ is)

      log3 : k3.log ≡ p.log
      log3 = st3.1.0.1.0 ∙ (st2.1.0.3.0 ∙ st1.1.0.2.0)

      released : (At bases before w3 k3 → InHand w3 k3 c m t → Sided w3 k3 xs q) → Sided w p (Claims u ∷ Recovers r ∷ GivesBack u None ∷ xs) q
      released rest =
          joined w p k1 q (Claims u) (Recovers r ∷ GivesBack u None ∷ xs) (ClaimsTxn u ∷ []) at st1 refl (dead_then, tt) ((not_own, record { done = done_last w c (ClaimsTxn u) k1.core; dead = dead_then }), tt)
          (joined w1 k1 k2 q (Recovers r) (GivesBack u None ∷ xs) [] at1 st2 refl tt tt
          (joined w2 k2 k3 q (GivesBack u None) xs (GivesTxnBack u None ∷ []) at2 st3 refl right3 (given, tt) (rest at3 hand3)))

    -- no lone one is: nobody else is claimed, and t has nothing left
    no_recovery : (w : World) (p k : Point) (r : ℕ) → InHand w p c m t → IsPointStep p (Does (Recovers r)) k → ⊥
    no_recovery w p k r hand step =
        let may = step.1.0.2 in
        hand.free r may.hold (holds_at p.core.regions r step.1.0.0 may.hold step.1.0.1 may.at) (hand.others may.hold.txn (ap is_claimed_in may.claimed)) may.dead

    change_told : (x : RegionStep) (w : World) (p : Point) (r : ℕ) → is_own_change t x ≡ true → AreOf w c p (Does (OnRegion r x)) []
    change_told (Latch u) w p r e = refl
    change_told (NoteReads mask) w p r e = refl
    change_told (Update word value) w p r e = refl
    change_told TakeBack w p r e = refl
    change_told x w p r e = absurd (cc)

    pub sided : (xs : List Step) (w : World) (p q : Point) (rest : List Record) → AreOfEnd t xs → At bases before w p → InHand w p c m t → IsPointCourse p (map Does xs) q → q.log ≡ p.log ++ rest → AllByRecursion (IsSideRecord t) rest
        → Sided w p xs q
    sided [] w p q rest are at hand course log records = none_sided w p q at hand course
    sided (OnRegion r x ∷ xs) w p q rest are at hand (k, step, course) log records =
        silent w p k q (OnRegion r x) xs at hand step (change_told x w p r are.0)
        (set_free t p.core k.core _ r step.1.0.0 (region_after x step.1.0.0) step.1.0.3.1 refl step.1.0.1
        (change_free t x step.1.0.0 are.0 (λ h held. hand.free r h (holds_at p.core.regions r step.1.0.0 h step.1.0.1 held))) hand.free)
        (λ next now. sided xs (after w c [] k.core) k q rest are.1 next now course (log ∙ ap (λ l. l ++ rest) (sym step.1.0.3.0)) records)
    sided (Locks u key mode ∷ xs) w p q rest are at hand (k, step, course) log records =
        silent w p k q (Locks u key mode) xs at hand step (inl refl) (same_free t p.core k.core _ step.1.0.2.1 refl hand.free)
        (λ next now. sided xs (after w c [] k.core) k q rest are.1 next now course (log ∙ ap (λ l. l ++ rest) (sym step.1.0.2.0)) records)
    sided (Operates u b ∷ xs) w p q rest are at hand (k, step, course) log records =
        let first = first_logged p k q xs (Forward u b) rest step.1.0.3.0 course log in
        absurd (subst (λ rs. AllByRecursion (IsSideRecord t) rs) first.1 records).0
    sided (TakesBack u b ∷ xs) w p q rest are at hand (k, step, course) log records =
        let first = first_logged p k q xs (Back u b) rest step.1.0.2.0 course log in
        let more = subst (λ rs. AllByRecursion (IsSideRecord t) rs) first.1 records in
        logging w p k q (TakesBack u b) xs (Back u b) at hand step refl (λ n o. refl)
        (set_free t p.core k.core _ b.region step.1.0.0 (touched step.1.0.0) step.1.0.2.1 refl step.1.0.1.at (λ h held. absurd (none-some h held)) hand.free)
        (back_side w p k.core u b at hand are.0)
        (λ next now. sided xs (after w c (Logs (Back u b) ∷ []) k.core) k q first.0 are.1 next now course first.2 more.1)
    sided (Frees u b ∷ xs) w p q rest are at hand (k, step, course) log records =
        let first = first_logged p k q xs (Solo p.core.system.next u b) rest step.1.0.2.0 course log in
        let more = subst (λ rs. AllByRecursion (IsSideRecord t) rs) first.1 records in
        logging w p k q (Frees u b) xs (Solo p.core.system.next u b) at hand step refl (λ n o. refl)
        (set_free t p.core k.core _ b.region step.1.0.0 (touched step.1.0.0) step.1.0.2.1 refl step.1.0.1.at (λ h held. absurd (none-some h held)) hand.free)
        (solo_side w p k.core p.core.system.next u b hand are.0 step.1.0.1.by)
        (λ next now. sided xs (after w c (Logs (Solo p.core.system.next u b) ∷ []) k.core) k q first.0 are.1 next now course first.2 more.1)
    sided (Claims u ∷ Recovers r ∷ GivesBack v o ∷ xs) w p q rest are at hand (k1, st1, (k2, st2, (k3, st3, course))) log records =
        subst (λ (ys : List Step). Sided w p (Claims u ∷ Recovers r ∷ ys) q) (sym (ap (λ n. GivesBack n o ∷ xs) are.1 ∙ ap (λ n. GivesBack u n ∷ xs) are.2))
        (released w p k1 k2 k3 q u r xs at hand are.0 st1 st2 (subst (λ n. IsPointStep k2 (Does (GivesBack u n)) k3) are.2 (subst (λ n. IsPointStep k2 (Does (GivesBack n o)) k3) are.1 st3))
        (λ next now. sided xs _ k3 q rest are.3 next now course (log ∙ ap (λ l. l ++ rest) (sym (st3.1.0.1.0 ∙ (st2.1.0.3.0 ∙ st1.1.0.2.0)))) records))
    sided (Recovers r ∷ xs) w p q rest are at hand (k, step, course) log records = absurd (no_recovery w p k r hand step)
    sided (x ∷ xs) w p q rest are at hand course log records = absurd are

-- ---- one list behind another

pub course_split : (p q : Point) (xs ys : List Step) → IsPointCourse p (map Does (xs ++ ys)) q → (k : Point) × IsPointCourse p (map Does xs) k × IsPointCourse k (map Does ys) q
course_split p q [] ys course = (p, refl, course)
course_split p q (x ∷ xs) ys (m, step, course) = let rest = course_split m q xs ys course in (rest.0, (m, step, rest.1), rest.2)

pub courses_told : (w : World) (c : ℕ) (p k q : Point) (xs ys : List StoreStep) (ds es : List Deed) → w.core ≡ p.core → AreOfCourse w c p xs k ds → AreOfCourse (after w c ds k.core) c k ys q es → AreOfCourse w c p (xs ++ ys) q (ds ++ es)
courses_told w c p k q [] ys ds es here first second =
    let same : after w c [] p.core ≡ w = ap (λ l. record w { happened = l; core = p.core }) (append-nil w.happened) ∙ ap (λ (d : CoreState). record w { core = d }) (sym here) in
    subst (λ l. AreOfCourse w c p ys q (l ++ es)) (sym first.1)
    (subst (λ (v : World). AreOfCourse v c p ys q es) same
    (subst (λ (z : Point). AreOfCourse (after w c [] z.core) c z ys q es) (sym first.0) (subst (λ l. AreOfCourse (after w c l k.core) c k ys q es) first.1 second)))
courses_told w c p k q (x ∷ xs) ys ds es here (m, own, more, step, are, right, rest, is) second = (
  m,
  own,
  more ++ es,
  step,
  are,
  right,
  courses_told (after w c own m.core) c m k q xs ys more es refl rest
      (subst (λ (v : World). AreOfCourse v c k ys q es) (sym (after_after w c own more m.core k.core)) (subst (λ l. AreOfCourse (after w c l k.core) c k ys q es) is second)),
  ap (λ l. l ++ es) is ∙ append_assoc own more es,
)

-- what was logged, by the log
pub logged_is : (w : World) (c : ℕ) (ds : List Deed) (p q : Point) (rest : List Record) → Tells w p → Tells (after w c ds q.core) q → q.log ≡ p.log ++ rest → logged_by (by c ds) ≡ rest
logged_is w c ds p q rest told later log =
    append_cancel_left (log_of w) (logged_by (by c ds)) rest
    (sym (log_is w c ds q.core) ∙ (sym later.log ∙ (log ∙ ap (λ l. l ++ rest) told.log)))

-- ---- what moves ask of these deeds
abbrev pub AreBacks : ℕ → List Record → Type 0
AreBacks t xs = AllByRecursion (IsBackOf t) xs

abbrev pub AreSolos : ℕ → List Record → Type 0
AreSolos t xs = AllByRecursion (IsSoloOf t) xs

pub backs_sides : (t : ℕ) (xs : List Record) → AreBacks t xs → AllByRecursion (IsSideRecord t) xs
backs_sides t xs h = all_map (IsBackOf t) (IsSideRecord t) one xs h
  where
    one : (x : Record) → IsBackOf t x → IsSideRecord t x
    one (Back u b) e = e
    one x e = absurd e

pub solos_sides : (t : ℕ) (xs : List Record) → AreSolos t xs → AllByRecursion (IsSideRecord t) xs
solos_sides t xs h = all_map (IsSoloOf t) (IsSideRecord t) one xs h
  where
    one : (x : Record) → IsSoloOf t x → IsSideRecord t x
    one (Solo n u b) e = e
    one x e = absurd e

-- where only takings back are logged
pub asides_of : (w : World) (c m t n : ℕ) (ds : List Deed) → AreSideDeeds w c m (receipts_from n ds) → AreBacks t (logged_by (by c ds)) → AreAside w c m (receipts_from n ds)
asides_of w c m t n [] h backs = tt
asides_of w c m t n (Logs (Back u b) ∷ ds) h backs = (h.0, asides_of w c m t (n + 1) ds h.1 backs.1)
asides_of w c m t n (Logs (Solo u p b) ∷ ds) h backs = absurd backs.0
asides_of w c m t n (Logs x ∷ ds) h backs = absurd h.0
asides_of w c m t n (ClaimsTxn u ∷ ds) h backs = (h.0, asides_of w c m t n ds h.1 backs)
asides_of w c m t n (GivesTxnBack u o ∷ ds) h backs = (h.0, asides_of w c m t n ds h.1 backs)
asides_of w c m t n (x ∷ ds) h backs = absurd h.0

-- where only solos are
pub behinds_of : (w : World) (c m t n : ℕ) (ds : List Deed) → AreSideDeeds w c m (receipts_from n ds) → AreSolos t (logged_by (by c ds)) → AreBehind w c m (receipts_from n ds)
behinds_of w c m t n [] h solos = tt
behinds_of w c m t n (Logs (Back u b) ∷ ds) h solos = absurd solos.0
behinds_of w c m t n (Logs (Solo u p b) ∷ ds) h solos = (h.0, behinds_of w c m t (n + 1) ds h.1 solos.1)
behinds_of w c m t n (Logs x ∷ ds) h solos = absurd h.0
behinds_of w c m t n (ClaimsTxn u ∷ ds) h solos = (h.0, behinds_of w c m t n ds h.1 solos)
behinds_of w c m t n (GivesTxnBack u o ∷ ds) h solos = (h.0, behinds_of w c m t n ds h.1 solos)
behinds_of w c m t n (x ∷ ds) h solos = absurd h.0
