-- A client takes back a transaction whose client died, in the midst of its own one.
use Rattle.std.proofs.Common.{◌≡◌, ℕ, ◌+◌, Bool, true, false, ◌&&◌, List, [], ◌∷◌, ◌++◌, length, map, fold, Option, Some, None, is_some, refl, ap, sym, subst, ◌∙◌, inr, ⊎_elim}
use Rattle.std.specs.Prelude.{◌==◌, if◌then◌else◌, slice_get}
use Rattle.std.specs.List.{AllByRecursion, list_all}
use Rattle.std.proofs.lemmas.List.{append_assoc, append_cancel_right, length-append, map-append}
use Rattle.std.proofs.lemmas.Bool.{ne_eqb}
use Rattle.std.proofs.lemmas.Option.{none-some, same_Some}
use Rattle.dali_lists.proofs.Members.{all_map}
use Rattle.dali_lists.proofs.Tests.{not_both_ways}
use Rattle.dali_runs.proofs.CountsLemmas.Lists.{equal, self}
use Rattle.dali_record.specs.declared.operations.Pending.{Pending}
use Rattle.dali_record.specs.declared.records.Record.{Record}
use Rattle.dali_record.specs.declared.records.Record.TheVariants.{Ended}
use Rattle.dali_region.specs.declared.Hold.{Hold}
use Rattle.dali_region.specs.State.{RegionState, taken_back}
use Rattle.dali_att.specs.declared.state.State.TheVariants.{Live, Dead, Cleaning}
use Rattle.dali_store.specs.Store.{Files as Disk}
use Rattle.dali_store.specs.declared.store.Store.{Ghosts}
use Rattle.dali_runs.specs.declared.causes.Cause.{Cause}
use Rattle.dali_runs.specs.State.{SystemState, CoreState, row_of, state_in, state_of, hold_in, hold_of}
use Rattle.dali_runs.specs.Keeps.{MayGiveBack}
use Rattle.dali_runs.specs.Wholes.{latched_in}
use Rattle.dali_runs.specs.Courses.{Step, TakesBack, Ends, OnRegion, Claims, GivesBack, Recovers}
use Rattle.dali_crash.specs.Checkpoints.{Does, Point, IsPointStep, IsPointCourse}
use Rattle.dali_crash.specs.Traces.{Start, bases_of}
use Rattle.dali_core.specs.Vault.Vaulted.{Vaulted}
use Rattle.dali_calls.specs.Others.{IsGone}
use Rattle.dali_calls.proofs.Operating.{held_of}
use Rattle.dali_calls.proofs.SingleLemmas.Lists.{all_both}
use Rattle.dali_clean.specs.Steps.{AreBack, recovers}
use Rattle.dali_clean.specs.Cleaned.{AreDead, IsDead, Ends as EndsTxn, GivesBack as LeavesTxn}
use Rattle.dali_clean.specs.Others.{OthersStay}
use Rattle.dali_calls.specs.Stepwise.Beside.{LeavesBe}
use Rattle.dali_transactions.specs.Ended.{AreOfEnd}
use Rattle.dali_transactions.specs.Beside.Went.{Went as GoneOn}
use Rattle.dali_transactions.proofs.BesideLemmas.Cleaning.{clean_goes, left_goes}
use Rattle.dali_transcripts.specs.World.{Deed, Logs, Claims as ClaimsTxn, GivesBack as GivesTxnBack, World, logged_by, log_of, claimed, is_dead_in, is_claimed_in, claimer_step, state_at, stop_at}
use Rattle.dali_transcripts.specs.Moves.{Receipt}
use Rattle.dali_transcripts.specs.Causes.{LetsGo, IsAside, AreAside, IsCutAside, undos_behind}
use Rattle.dali_transcripts.specs.Laws.{receipts_from}
use Rattle.dali_transcripts.specs.Rounds.{by}
use Rattle.dali_transcripts.proofs.Growing.{asides}
use Rattle.dali_transcripts.specs.Telling.Deeds.{AreOf}
use Rattle.dali_transcripts.specs.Telling.Tells.{after, AreRightThen, Goes}
use Rattle.dali_transcripts.specs.Telling.Laws.{AreOfCourse}
use Rattle.dali_transcripts.proofs.TellingLemmas.Told.{log_is}
use Rattle.dali_transcripts.proofs.TellingLemmas.Courses.{after_after}
use Rattle.dali_turns.specs.declared.client.State.{State}
use Rattle.dali_turns.specs.Stood.{Stood}
use Rattle.dali_turns.proofs.Deeds.{course_tells, stop_is_told}
use Rattle.dali_turns.proofs.Beside.{is_out_of}
use Rattle.dali_turns.proofs.Doing.{Did, vault_stops}
use Rattle.dali_turns.proofs.Refusals.{done_last, stop_there}
use Rattle.dali_turns.proofs.Sides.{At, InHand, Sided, AreBacks, HasNoDead, sided, one_goes, at_next, joined, state_here, claimer_here, state_then, claimer_then, receipts_then, course_split, courses_told, logged_is, backs_sides, asides_of, ended_right}
use Rattle.dali_turns.proofs.Undoing.{undone_on, undone_apart}
use Rattle.dali_turns.proofs.Along.{end_out, out_both, did_calm}
use Rattle.dali_turns.proofs.Closing.{unclaimed_then}
use Rattle.dali_turns.proofs.Cutting.{cut_of}
use Rattle.dali_transactions.specs.Beside.Went.{is_open}

-- ---- the steps
pub back_end : (t : ℕ) (xs : List Step) → AreBack t xs → AreOfEnd t xs
back_end t [] are = tt
back_end t (OnRegion r x ∷ xs) are = (are.0, back_end t xs are.1)
back_end t (TakesBack u b ∷ xs) are = (are.0, back_end t xs are.1)
back_end t (Claims u ∷ Recovers r ∷ GivesBack v o ∷ xs) are = (are.0, are.1, are.2, back_end t xs are.3)
back_end t (Recovers r ∷ xs) are = back_end t xs are
back_end t (x ∷ xs) are = absurd are

clean_out : (b t : ℕ) (o : Option ℕ) (back : List Step) (x : Step) → AreOfEnd t back → is_out_of b (Does x) ≡ true → list_all (is_out_of b) (map Does (Claims t ∷ (recovers o ++ (back ++ x ∷ [])))) ≡ true
clean_out b t None back x are e = subst (λ xs. list_all (is_out_of b) xs ≡ true) (sym (map-append Does back (x ∷ []))) (out_both b (map Does back) (Does x ∷ []) (end_out b t back are) (ap (λ c. c && true) e))
clean_out b t (Some r) back x are e = subst (λ xs. list_all (is_out_of b) xs ≡ true) (sym (map-append Does back (x ∷ []))) (out_both b (map Does back) (Does x ∷ []) (end_out b t back are) (ap (λ c. c && true) e))

-- ---- what the client does
module _ {V : Type 0} (means : Ghosts V)
    (precheck : Bool) (s : Start) (B : List (List Record)) (p : Point) (w : World) (gs : List RegionState) (y : SystemState) (v : Vaulted V) (c : ℕ) (state : State) (m : ℕ) (to : Point) (hs : List RegionState) (z : SystemState) where
  -- a clean-up to its end, or one that a stop cut short
  pub record CleansUp : Type 0 where
    pub deeds : List Deed
    pub did : Did means precheck s B p w c state gs y v deeds B to hs z v
    pub aside : AreAside (after w c deeds to.core) c m (receipts_from (length (log_of w)) deeds)
    pub still : (us : List Pending) → undos_behind m us (receipts_from (length (log_of w)) deeds) ≡ us
    pub leaves : (u : ℕ) → is_open (state_of y u) ≡ true → LeavesBe u p.log p.core to.log to.core

  -- memory was refused
  pub record CleansHalf : Type 0 where
    pub deeds : List Deed
    pub did : Did means precheck s B p w c state gs y v deeds B to hs z v
    pub cut : AllByRecursion (IsCutAside (after w c deeds to.core) c m) (receipts_from (length (log_of w)) deeds)
    pub still : (us : List Pending) → undos_behind m us (receipts_from (length (log_of w)) deeds) ≡ us

module _ {V : Type 0} (means : Ghosts V)
    (precheck : Bool) (s : Start) (B : List (List Record)) (p : Point) (w : World) (gs : List RegionState) (y : SystemState) (v : Vaulted V) (stood : Stood means s B p w precheck gs y v)
    (c : ℕ) (state : State) (m : ℕ) (lives : state_of y m ≡ Some Live) (t : ℕ) (latched : Option ℕ) (was : state_of y t ≡ Some (Dead latched)) where
  first_at : At (bases_of s) s.log w p
  first_at = record { run = stood.stands.at.vault.run; tells = stood.tells; whole = stood.stands.whole }

  here : (u : ℕ) → state_of p.core.system u ≡ state_of y u
  here u = ap (λ (x : SystemState). state_of x u) stood.stands.at.system

  was_here : state_of p.core.system t ≡ Some (Dead latched)
  was_here = here t ∙ was

  not_own : (t == m) ≡ false
  not_own = ne_eqb t m (λ same. let no : Some Live ≡ Some (Dead latched) = sym lives ∙ (ap (λ (n : ℕ). state_of y n) (sym same) ∙ was) in absurd (cc))

  -- a dead hold of t is on the region that its row names
  named : (r : ℕ) (h : Hold) → hold_of p.core r ≡ Some h → h.txn ≡ t → h.dead ≡ true → latched ≡ Some r
  named r h held own dead = sym (ap latched_in was_here) ∙ subst (λ (n : ℕ). latched_in (state_of p.core.system n) ≡ Some r) own (stood.stands.whole.dead r h held dead)

  -- ---- the claim
  module _ (k : Point) (step : IsPointStep p (Does (Claims t)) k) where
    abbrev w1 : World
    w1 = after w c (ClaimsTxn t ∷ []) k.core

    dead_then : is_dead_in (state_at w1 (length w.happened) t) ≡ true
    dead_then = ap is_dead_in (state_here w c (ClaimsTxn t) k.core p t stood.tells ∙ was_here)

    at1 : At (bases_of s) s.log w1 k
    at1 = at_next (bases_of s) s.log c w p k (Claims t) (ClaimsTxn t ∷ []) first_at step refl (dead_then, tt)

    state1 : (u : ℕ) → state_of k.core.system u ≡ (if t == u then claimed (state_of p.core.system u) else state_of p.core.system u)
    state1 u = state_then w c (ClaimsTxn t ∷ []) p k u stood.tells at1.tells

    other1 : (u : ℕ) → (t == u) ≡ false → state_of k.core.system u ≡ state_of p.core.system u
    other1 u e = state1 u ∙ ap (λ (b : Bool). if b then claimed (state_of p.core.system u) else state_of p.core.system u) e

    own1 : state_of k.core.system t ≡ Some (Cleaning latched)
    own1 = state1 t ∙ (ap (λ (b : Bool). if b then claimed (state_of p.core.system t) else state_of p.core.system t) (self t) ∙ ap claimed was_here)

    claimer1 : fold (claimer_step t) None w1.happened ≡ Some c
    claimer1 = claimer_then w c (ClaimsTxn t ∷ []) k.core t ∙ ap (λ (b : Bool). let o : Option ℕ = if b then Some c else fold (claimer_step t) None w.happened in o) (self t)

    -- the table stays so
    hand_of : (x : World) (n : Point) → ((u : ℕ) → state_of n.core.system u ≡ state_of k.core.system u) → fold (claimer_step t) None x.happened ≡ fold (claimer_step t) None w1.happened → HasNoDead t n.core → InHand x n c m t
    hand_of x n states claimer free = record {
      others = λ u e. by_test u (t == u) refl e;
      free = free;
      lives = ap is_dead_in (states m ∙ (other1 m not_own ∙ (here m ∙ lives)));
      holds = inr (not_own, ap is_claimed_in (states t ∙ own1), claimer ∙ claimer1);
    }
      where
        by_test : (u : ℕ) (b : Bool) → (t == u) ≡ b → is_claimed_in (state_of n.core.system u) ≡ true → u ≡ t
        by_test u true e is = sym (equal t u e)
        by_test u false e is = absurd (not_both_ways is (ap is_claimed_in (states u ∙ (other1 u e ∙ here u)) ∙ stood.quiet.unclaimed u))

    claim_side : AllByRecursion (IsAside w1 c m) ((length (log_of w), ClaimsTxn t) ∷ [])
    claim_side = ((not_own, record { done = done_last w c (ClaimsTxn t) k.core; dead = dead_then }), tt)

    free_then : (d : CoreState) → d.regions ≡ k.core.regions → k.core.regions ≡ p.core.regions → latched ≡ None → HasNoDead t d
    free_then d e f none r h held own dead = none-some r (sym none ∙ named r h (ap (λ (rs : List RegionState). hold_in (slice_get rs r)) (sym (e ∙ f)) ∙ held) own dead)

  -- ---- and what is taken back behind it
  module _ (mid : Point) (records : List Record) (backs : AreBacks t records) (log : mid.log ≡ p.log ++ records) (back : List Step) (are : AreOfEnd t back) where
    no_latch : latched ≡ None → IsPointCourse p (map Does (Claims t ∷ back)) mid → Sided (bases_of s) s.log c m t w p (Claims t ∷ back) mid
    no_latch none (k, step, course) =
        joined (bases_of s) s.log c m t w p k mid (Claims t) back (ClaimsTxn t ∷ []) first_at step refl (dead_then k step, tt) (claim_side k step)
        (sided (bases_of s) s.log c m t back (w1 k step) k mid records are (at1 k step) (hand_of k step (w1 k step) k (λ u. refl) refl (free_then k step k.core refl (ap (λ (d : CoreState). d.regions) step.1.0.2.1) none)) course
        (log ∙ ap (λ l. l ++ records) (sym step.1.0.2.0)) (backs_sides t records backs))

    a_latch : (r : ℕ) → latched ≡ Some r → IsPointCourse p (map Does (Claims t ∷ (Recovers r ∷ back))) mid → Sided (bases_of s) s.log c m t w p (Claims t ∷ (Recovers r ∷ back)) mid
    a_latch r is (k, step, (n, next, course)) =
        joined (bases_of s) s.log c m t w p k mid (Claims t) (Recovers r ∷ back) (ClaimsTxn t ∷ []) first_at step refl (dead_then k step, tt) (claim_side k step)
        (joined (bases_of s) s.log c m t x1 k n mid (Recovers r) back [] (at1 k step) next refl tt tt
        (sided (bases_of s) s.log c m t back (after x1 c [] n.core) n mid records are at2
        (hand_of k step (after x1 c [] n.core) n (λ u. state_then x1 c [] k n u (at1 k step).tells at2.tells) (claimer_then x1 c [] n.core t) free) course
        (log ∙ ap (λ l. l ++ records) (sym (next.1.0.3.0 ∙ step.1.0.2.0))) (backs_sides t records backs)))
      where
        x1 : World
        x1 = w1 k step

        at2 : At (bases_of s) s.log (after x1 c [] n.core) n
        at2 = at_next (bases_of s) s.log c x1 k n (Recovers r) [] (at1 k step) next refl tt

        free : HasNoDead t n.core
        free q h held own dead =
            let there = held_of k.core.regions r next.1.0.0 (taken_back next.1.0.0) q h next.1.0.1 refl (ap (λ (d : CoreState). hold_of d q) (sym next.1.0.3.1) ∙ held) in
            there.0 (same_Some r q (sym is ∙ named q h (ap (λ (rs : List RegionState). hold_in (slice_get rs q)) (sym (ap (λ (d : CoreState). d.regions) step.1.0.2.1)) ∙ there.1) own dead))

    pub claimed_first : IsPointCourse p (map Does (Claims t ∷ (recovers latched ++ back))) mid → Sided (bases_of s) s.log c m t w p (Claims t ∷ (recovers latched ++ back)) mid
    claimed_first = by_latch latched refl
      where
        by_latch : (o : Option ℕ) → latched ≡ o → IsPointCourse p (map Does (Claims t ∷ (recovers o ++ back))) mid → Sided (bases_of s) s.log c m t w p (Claims t ∷ (recovers o ++ back)) mid
        by_latch None e course = no_latch e course
        by_latch (Some r) e course = a_latch r e course

  -- ---- a step behind it is its last one
  module _ (own : List Record) (hs : List RegionState) (z : SystemState) (g : GoneOn means t own s B p gs hs z v) (others : OthersStay gs y t hs z) (back : List Step) (undone : AreBack t back)
      (records : List Record) (backs : AreBacks t records) (x : Step) (steps_are : g.steps ≡ Claims t ∷ (recovers latched ++ (back ++ x ∷ []))) where
    abbrev front : List Step
    front = Claims t ∷ (recovers latched ++ back)

    front_is : g.steps ≡ front ++ x ∷ []
    front_is = steps_are ∙ ap (λ l. Claims t ∷ l) (sym (append_assoc (recovers latched) back (x ∷ [])))

    parts : (k : Point) × IsPointCourse p (map Does front) k × IsPointCourse k (map Does (x ∷ [])) g.to
    parts = course_split p g.to front (x ∷ []) (subst (λ xs. IsPointCourse p (map Does xs) g.to) front_is g.course)

    abbrev mid : Point
    mid = parts.0

    last_step : IsPointStep mid (Does x) g.to
    last_step = subst (λ (k : Point). IsPointStep mid (Does x) k) parts.2.2 parts.2.1

    apart_from : (u : ℕ) → is_open (state_of y u) ≡ true → (t == u) ≡ false
    apart_from u lives = ne_eqb t u (λ same. let no : true ≡ false = sym lives ∙ ap is_open (ap (λ (n : ℕ). state_of y n) (sym same) ∙ was) in absurd (cc))

    out : (b : ℕ) → is_out_of b (Does x) ≡ true → list_all (is_out_of b) (map Does g.steps) ≡ true
    out b e = subst (λ xs. list_all (is_out_of b) (map Does xs) ≡ true) (sym steps_are) (clean_out b t latched back x (back_end t back undone) e)

    leaves_each : (u : ℕ) → is_open (state_of y u) ≡ true → LeavesBe u p.log p.core g.to.log g.to.core
    leaves_each u lives = g.others u (apart_from u lives) (ap is_open (here u) ∙ lives)

    module _ (mid_log : mid.log ≡ p.log ++ records) where
      abbrev first : Sided (bases_of s) s.log c m t w p front mid
      first = claimed_first mid records backs mid_log back (back_end t back undone) parts.1

      abbrev between : World
      between = after w c first.ds mid.core

      claimed_mid : (is_claimed_in (state_of mid.core.system t) ≡ true) × (fold (claimer_step t) None between.happened ≡ Some c)
      claimed_mid = ⊎_elim (λ same. let no : true ≡ false = sym (self t) ∙ (ap (λ (n : ℕ). t == n) same ∙ not_own) in absurd (cc)) (λ h. (h.1, h.2)) first.hand.holds

      front_aside : AreAside between c m (receipts_from (length (log_of w)) first.ds)
      front_aside = asides_of between c m t (length (log_of w)) first.ds first.sides (subst (λ xs. AreBacks t xs) (sym (logged_is w c first.ds p mid records stood.tells first.at.tells mid_log)) backs)

      module _ (one : Deed) (told_by : AreOf between c mid (Does x) (one ∷ [])) (right : AreRightThen between c (one ∷ []) g.to.core) where
        abbrev late : World
        late = after w c (first.ds ++ one ∷ []) g.to.core

        same_late : after between c (one ∷ []) g.to.core ≡ late
        same_late = after_after w c first.ds (one ∷ []) mid.core g.to.core

        last_goes : Goes between c mid (one ∷ []) late g.to
        last_goes = subst (λ (n : World). Goes between c mid (one ∷ []) n g.to) same_late (one_goes (bases_of s) s.log c between mid g.to x (one ∷ []) first.at last_step told_by right)

        told_all : AreOfCourse w c p (map Does g.steps) g.to (first.ds ++ one ∷ [])
        told_all =
            subst (λ xs. AreOfCourse w c p (map Does xs) g.to (first.ds ++ one ∷ [])) (sym front_is)
            (subst (λ xs. AreOfCourse w c p xs g.to (first.ds ++ one ∷ [])) (sym (map-append Does front (x ∷ [])))
            (courses_told w c p mid g.to (map Does front) (Does x ∷ []) first.ds (one ∷ []) stood.tells.core first.are (g.to, one ∷ [], [], last_step, told_by, right, (refl, refl), refl)))

        did_all : is_claimed_in (state_of z t) ≡ false → ((b : ℕ) → is_out_of b (Does x) ≡ true) → Did means precheck s B p w c state gs y v (first.ds ++ one ∷ []) B g.to hs z v
        did_all unclaimed e = did_calm means precheck s B p w gs y v stood c state t own hs z g (first.ds ++ one ∷ []) told_all
            (unclaimed_then gs hs y z t others stood.quiet unclaimed) (λ u lives other. apart_from u lives) (λ b. out b (e b))

        receipts_all : receipts_from (length (log_of w)) (first.ds ++ one ∷ []) ≡ receipts_from (length (log_of w)) first.ds ++ (length (log_of between), one) ∷ []
        receipts_all = receipts_then c (length (log_of w)) first.ds (one ∷ []) ∙ ap (λ n. receipts_from (length (log_of w)) first.ds ++ (n, one) ∷ []) (sym count)
          where
            count : length (log_of between) ≡ length (log_of w) + length (logged_by (by c first.ds))
            count = ap length (log_is w c first.ds mid.core) ∙ length-append (log_of w) (logged_by (by c first.ds))

        -- with what is known of the last deed
        asides_all : IsAside late c m (length (log_of between), one) → AreAside late c m (receipts_from (length (log_of w)) (first.ds ++ one ∷ []))
        asides_all side =
            subst (λ rs. AreAside late c m rs) (sym receipts_all)
            (all_both (IsAside late c m) (receipts_from (length (log_of w)) first.ds) ((length (log_of between), one) ∷ []) (asides between late last_goes.grows c m (receipts_from (length (log_of w)) first.ds) front_aside) (side, tt))

        undone_all : ((us : List Pending) → undos_behind m us ((length (log_of between), one) ∷ []) ≡ us) → (us : List Pending) → undos_behind m us (receipts_from (length (log_of w)) (first.ds ++ one ∷ [])) ≡ us
        undone_all last us =
            ap (undos_behind m us) receipts_all
            ∙ undone_on m us us (receipts_from (length (log_of w)) first.ds) ((length (log_of between), one) ∷ [])
            (undone_apart t m c (length (log_of w)) us first.ds not_own (subst (λ xs. AreBacks t xs) (sym (logged_is w c first.ds p mid records stood.tells first.at.tells mid_log)) backs)) last

        unfinished_all : (P : Receipt → Type 0) → ((r : Receipt) → IsAside late c m r → P r) → P (length (log_of between), one) → AllByRecursion P (receipts_from (length (log_of w)) (first.ds ++ one ∷ []))
        unfinished_all P more side =
            subst (λ rs. AllByRecursion P rs) (sym receipts_all)
            (all_both P (receipts_from (length (log_of w)) first.ds) ((length (log_of between), one) ∷ [])
            (all_map (IsAside late c m) P more (receipts_from (length (log_of w)) first.ds) (asides between late last_goes.grows c m (receipts_from (length (log_of w)) first.ds) front_aside)) (side, tt))

  -- ---- to its end
  module _ (own : List Record) (hs : List RegionState) (z : SystemState) (g : GoneOn means t own s B p gs hs z v) (others : OthersStay gs y t hs z) (back : List Step) (undone : AreBack t back)
      (records : List Record) (backs : AreBacks t records) (steps_are : g.steps ≡ Claims t ∷ (recovers latched ++ (back ++ Ends t ∷ []))) (own_is : own ≡ records ++ Ended t ∷ []) (gone : row_of z t ≡ None) where
    end_there : IsPointStep (mid own hs z g others back undone records backs (Ends t) steps_are) (Does (Ends t)) g.to
    end_there = last_step own hs z g others back undone records backs (Ends t) steps_are

    logged_there : (mid own hs z g others back undone records backs (Ends t) steps_are).log ≡ p.log ++ records
    logged_there = append_cancel_right _ (p.log ++ records) (Ended t ∷ []) (sym end_there.1.0.2.0 ∙ (g.log ∙ (ap (λ l. p.log ++ l) own_is ∙ sym (append_assoc p.log records (Ended t ∷ [])))))

    ended_there : AreRightThen (between own hs z g others back undone records backs (Ends t) steps_are logged_there) c (Logs (Ended t) ∷ []) g.to.core
    ended_there =
        ended_right (bases_of s) s.log c m t w p (mid own hs z g others back undone records backs (Ends t) steps_are) (Claims t ∷ (recovers latched ++ back)) first_at
        (vault_stops means precheck s B p w gs y v stood) (first own hs z g others back undone records backs (Ends t) steps_are logged_there) t g.to end_there

    pub cleans_up : CleansUp means precheck s B p w gs y v c state m g.to hs z
    cleans_up =
        let side = first own hs z g others back undone records backs (Ends t) steps_are logged_there in
        let here = claimed_mid own hs z g others back undone records backs (Ends t) steps_are logged_there in
        record {
          deeds = side.ds ++ Logs (Ended t) ∷ [];
          did = did_all own hs z g others back undone records backs (Ends t) steps_are logged_there (Logs (Ended t)) refl ended_there (ap (λ r. is_claimed_in (state_in r)) gone) (λ b. refl);
          aside = asides_all own hs z g others back undone records backs (Ends t) steps_are logged_there (Logs (Ended t)) refl ended_there
              (subst (λ (n : World). IsAside n c m (length (log_of (between own hs z g others back undone records backs (Ends t) steps_are logged_there)), Logs (Ended t))) (same_late own hs z g others back undone records backs (Ends t) steps_are logged_there (Logs (Ended t)) refl ended_there)
              (record {
                apart = not_own;
                done = done_last (between own hs z g others back undone records backs (Ends t) steps_are logged_there) c (Logs (Ended t)) g.to.core;
                claimed = ap is_claimed_in (state_here (between own hs z g others back undone records backs (Ends t) steps_are logged_there) c (Logs (Ended t)) g.to.core _ t side.at.tells) ∙ here.0;
                own = claimer_here (between own hs z g others back undone records backs (Ends t) steps_are logged_there) c (Logs (Ended t)) g.to.core t ∙ here.1;
              }));
          still = undone_all own hs z g others back undone records backs (Ends t) steps_are logged_there (Logs (Ended t)) refl ended_there (λ us. refl);
          leaves = leaves_each own hs z g others back undone records backs (Ends t) steps_are;
        }

  -- ---- or it is refused, and the claim given back
  module _ (own : List Record) (hs : List RegionState) (z : SystemState) (g : GoneOn means t own s B p gs hs z v) (others : OthersStay gs y t hs z) (back : List Step) (undone : AreBack t back)
      (records : List Record) (backs : AreBacks t records) (steps_are : g.steps ≡ Claims t ∷ (recovers latched ++ (back ++ GivesBack t None ∷ []))) (own_is : own ≡ records) (again : state_of z t ≡ Some (Dead None)) where
    abbrev end : Point
    end = mid own hs z g others back undone records backs (GivesBack t None) steps_are

    gift_there : IsPointStep end (Does (GivesBack t None)) g.to
    gift_there = last_step own hs z g others back undone records backs (GivesBack t None) steps_are

    logged_mid : end.log ≡ p.log ++ records
    logged_mid = sym gift_there.1.0.1.0 ∙ (g.log ∙ ap (λ l. p.log ++ l) own_is)

    abbrev side : Sided (bases_of s) s.log c m t w p (Claims t ∷ (recovers latched ++ back)) end
    side = first own hs z g others back undone records backs (GivesBack t None) steps_are logged_mid

    abbrev before_it : World
    before_it = between own hs z g others back undone records backs (GivesBack t None) steps_are logged_mid

    may : MayGiveBack end.core t None
    may = gift_there.1.0.0

    abbrev gift : Deed
    gift = GivesTxnBack t None

    lets_go : LetsGo (after before_it c (gift ∷ []) g.to.core) c (length (log_of before_it)) t None
    lets_go = record {
      done = done_last before_it c gift g.to.core;
      was = may.was;
      claimed = state_here before_it c gift g.to.core end t side.at.tells ∙ may.claimed;
      own = claimer_here before_it c gift g.to.core t ∙ (claimed_mid own hs z g others back undone records backs (GivesBack t None) steps_are logged_mid).1;
      left = inr refl;
    }

    right : AreRightThen before_it c (gift ∷ []) g.to.core
    right = ((may.was, state_here before_it c gift g.to.core end t side.at.tells ∙ may.claimed, inr refl, claimer_here before_it c gift g.to.core t ∙ (claimed_mid own hs z g others back undone records backs (GivesBack t None) steps_are logged_mid).1), tt)

    did_gift : Did means precheck s B p w c state gs y v (side.ds ++ gift ∷ []) B g.to hs z v
    did_gift = did_all own hs z g others back undone records backs (GivesBack t None) steps_are logged_mid gift refl right (ap is_claimed_in again) (λ b. refl)

    same_world : after before_it c (gift ∷ []) g.to.core ≡ after w c (side.ds ++ gift ∷ []) g.to.core
    same_world = same_late own hs z g others back undone records backs (GivesBack t None) steps_are logged_mid gift refl right

    -- since the engine is stopped
    pub stops_short : (cause : Cause) → y.stop ≡ Some cause → CleansUp means precheck s B p w gs y v c state m g.to hs z
    unfolding lets_go
    stops_short cause stop = record {
      deeds = side.ds ++ gift ∷ [];
      did = did_gift;
      aside = asides_all own hs z g others back undone records backs (GivesBack t None) steps_are logged_mid gift refl right
          (subst (λ (n : World). IsAside n c m (length (log_of before_it), gift)) same_world (not_own, record { given = lets_go; why = inr (cause, stop_then) }));
      still = undone_all own hs z g others back undone records backs (GivesBack t None) steps_are logged_mid gift refl right (λ us. refl);
      leaves = leaves_each own hs z g others back undone records backs (GivesBack t None) steps_are;
    }
      where
        front_goes : Goes w c p side.ds before_it end
        front_goes = course_tells (bases_of s) s.log w c p end (map Does (Claims t ∷ (recovers latched ++ back))) side.ds stood.stands.at.vault.run stood.tells side.are

        stop_end : end.core.system.stop ≡ Some cause
        stop_end = front_goes.grows.stopped cause (ap (λ (d : CoreState). d.system.stop) stood.tells.core ∙ (ap (λ (n : SystemState). n.stop) stood.stands.at.system ∙ stop))

        stop_then : stop_at (after before_it c (gift ∷ []) g.to.core) (length before_it.happened) ≡ Some cause
        stop_then = stop_there before_it c gift g.to.core ∙ (stop_is_told (bases_of s) s.log before_it end side.at.run side.at.tells (λ e. ap is_some stop_end) ∙ stop_end)

    -- since memory is refused
    pub falls_short : CleansHalf means precheck s B p w gs y v c state m g.to hs z
    falls_short = record {
      deeds = side.ds ++ gift ∷ [];
      did = did_gift;
      cut =
          let end_world = after w c (side.ds ++ gift ∷ []) g.to.core in
          unfinished_all own hs z g others back undone records backs (GivesBack t None) steps_are logged_mid gift refl right
          (λ r. IsCutAside end_world c m r)
          (cut_of end_world c m)
          (not_own, subst (λ (n : World). LetsGo n c (length (log_of before_it)) t None) same_world lets_go);
      still = undone_all own hs z g others back undone records backs (GivesBack t None) steps_are logged_mid gift refl right (λ us. refl);
    }

-- ---- for the call
module _ {V : Type 0} (means : Ghosts V)
    (precheck : Bool) (s : Start) (B : List (List Record)) (p : Point) (w : World) (gs : List RegionState) (y : SystemState) (v : Vaulted V) (stood : Stood means s B p w precheck gs y v)
    (c : ℕ) (state : State) (m : ℕ) (lives : state_of y m ≡ Some Live) (t : ℕ) (hs : List RegionState) (z : SystemState) (dead : AreDead hs) (others : OthersStay gs y t hs z) (was : IsDead (state_of y t)) where
  pub cleaned : EndsTxn gs y t hs z → IsGone z t → (to : Point) × CleansUp means precheck s B p w gs y v c state m to hs z
  cleaned ends gone =
      let (records, backs, g, by, beside) = clean_goes means s B p gs hs y z v t stood.stands dead ends others was gone in
      (g.to, cleans_up means precheck s B p w gs y v stood c state m lives t by.latched by.was (records ++ Ended t ∷ []) hs z g others by.back by.undone records backs by.is refl gone.0)

  module _ (left : LeavesTxn gs y t hs z) (again : state_of z t ≡ Some (Dead None)) where
    pub cut_short : (cause : Cause) → y.stop ≡ Some cause → (to : Point) × CleansUp means precheck s B p w gs y v c state m to hs z
    cut_short cause stop =
        let (records, backs, g, by, beside) = left_goes means s B p gs hs y z v t stood.stands dead left others was again in
        (g.to, stops_short means precheck s B p w gs y v stood c state m lives t by.latched by.was records hs z g others by.back by.undone records backs by.is refl again cause stop)

    pub fallen_short : (to : Point) × CleansHalf means precheck s B p w gs y v c state m to hs z
    fallen_short =
        let (records, backs, g, by, beside) = left_goes means s B p gs hs y z v t stood.stands dead left others was again in
        (g.to, falls_short means precheck s B p w gs y v stood c state m lives t by.latched by.was records hs z g others by.back by.undone records backs by.is refl again)
