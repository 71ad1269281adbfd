-- A transaction of a client is taken back, as a whole or in part: what the client does by that.
use Rattle.std.proofs.Common.{◌≡◌, ℕ, zero, suc, ◌+◌, Bool, true, false, List, [], ◌∷◌, ◌++◌, length, map, Option, Some, None, refl, ap, sym, subst, ◌∙◌, inl, inr, ⊎_elim, arith, option_map}
use Rattle.std.specs.Prelude.{◌==◌, slice_get}
use Rattle.std.specs.List.{AllByRecursion, list_all}
use Rattle.std.proofs.lemmas.List.{append_assoc, append_cancel_right, length-append, map-append}
use Rattle.dali_lists.proofs.Lists.{get_append_cases, get_push}
use Rattle.dali_lists.proofs.Members.{contains_from_get}
use Rattle.dali_runs.proofs.CountsLemmas.Lists.{equal}
use Rattle.dali_record.specs.declared.records.Record.{Record}
use Rattle.dali_record.specs.declared.records.Record.TheVariants.{Ended, Commit}
use Rattle.dali_region.specs.State.{RegionState}
use Rattle.dali_att.specs.declared.state.State.TheVariants.{Live, Dead}
use Rattle.dali_att.specs.Table.{with_state}
use Rattle.dali_store.specs.Store.{Files as Disk}
use Rattle.dali_store.specs.declared.store.Store.{Ghosts}
use Rattle.dali_runs.specs.State.{TxnRow, SystemState, row_of, state_in, state_of}
use Rattle.dali_runs.specs.Wholes.{latched_in}
use Rattle.dali_runs.specs.Courses.{Step, Ends}
use Rattle.dali_crash.specs.Checkpoints.{Does, Point, IsPointStep, IsPointCourse}
use Rattle.dali_crash.specs.Traces.{Start, bases_of}
use Rattle.dali_core.specs.Vault.Vaulted.{Vaulted}
use Rattle.dali_calls.specs.Single.Ending.{IsBackOf}
use Rattle.dali_clean.specs.Others.{RowStays, OthersStay}
use Rattle.dali_transactions.specs.Ended.{AreOfEnd}
use Rattle.dali_transactions.specs.Beside.Went.{Went as GoneOn}
use Rattle.dali_transactions.proofs.BesideLemmas.Runs.{live_is_uncommitted}
use Rattle.dali_transcripts.specs.World.{Deed, Logs, World, logged_by, log_of, IsUncommitted, is_dead_in, is_claimed_in}
use Rattle.dali_transcripts.specs.Causes.{AreAside}
use Rattle.dali_transcripts.specs.Laws.{receipts_from}
use Rattle.dali_transcripts.specs.Rounds.{by}
use Rattle.dali_transcripts.proofs.Growing.{get_back, asides}
use Rattle.dali_transcripts.specs.Telling.Tells.{after, AreRightThen, Goes}
use Rattle.dali_transcripts.specs.Telling.Laws.{AreOfCourse}
use Rattle.dali_transcripts.proofs.TellingLemmas.Courses.{after_after}
use Rattle.dali_turns.specs.declared.client.State.{State}
use Rattle.dali_turns.specs.Stood.{IsQuiet, Stood}
use Rattle.dali_turns.specs.Fits.{Owns}
use Rattle.dali_turns.proofs.Beside.{is_out_of}
use Rattle.dali_turns.proofs.Doing.{Did, vault_stops}
use Rattle.dali_turns.proofs.Refusals.{runs_on_log}
use Rattle.dali_turns.proofs.Sides.{At, InHand, Sided, AreBacks, sided, one_goes, receipts_then, course_split, courses_told, logged_is, backs_sides, asides_of, ended_right}
use Rattle.dali_turns.proofs.Along.{end_out, out_both, did_calm}
use Rattle.dali_transactions.specs.Beside.Went.{is_open}

-- ---- lists
pub all_at : {X : Type 0} (P : X → Type 0) (xs : List X) (i : ℕ) (x : X) → AllByRecursion P xs → slice_get xs i ≡ Some x → P x
all_at P [] i x h e = absurd (cc)
all_at P (y ∷ xs) zero x h e = let same : y ≡ x = cc in subst P same h.0
all_at P (y ∷ xs) (suc i) x h e = all_at P xs i x h.1 e

-- ---- rows behind an end
module _ (gs hs : List RegionState) (y z : SystemState) (t : ℕ) (others : OthersStay gs y t hs z) where
  claimed_row : (row : Option TxnRow) → is_claimed_in (state_in (option_map (with_state (Dead None)) row)) ≡ false
  claimed_row None = refl
  claimed_row (Some row) = refl

  live_row : (row : Option TxnRow) → is_open (state_in (option_map (with_state (Dead None)) row)) ≡ true → ⊥
  live_row None e = absurd (cc)
  live_row (Some row) e = absurd (cc)

  pub unclaimed_then : IsQuiet y → is_claimed_in (state_of z t) ≡ false → (u : ℕ) → is_claimed_in (state_of z u) ≡ false
  unclaimed_then quiet own u = by_test (t == u) refl
    where
      by_row : RowStays gs y u hs z → is_claimed_in (state_of z u) ≡ false
      by_row (inl same) = ap (λ r. is_claimed_in (state_in r)) same ∙ quiet.unclaimed u
      by_row (inr dead) = ap (λ r. is_claimed_in (state_in r)) dead.2 ∙ claimed_row (row_of y u)

      by_test : (b : Bool) → (t == u) ≡ b → is_claimed_in (state_of z u) ≡ false
      by_test true e = subst (λ (n : ℕ). is_claimed_in (state_of z n) ≡ false) (equal t u e) own
      by_test false e = by_row (others.rows u e)

  -- another one that is live or committed was so
  pub was_open : (u : ℕ) → (t == u) ≡ false → is_open (state_of z u) ≡ true → is_open (state_of y u) ≡ true
  was_open u apart e = by_row (others.rows u apart)
    where
      by_row : RowStays gs y u hs z → is_open (state_of y u) ≡ true
      by_row (inl same) = ap (λ (r : Option TxnRow). is_open (state_in r)) (sym same) ∙ e
      by_row (inr dead) = absurd (live_row (row_of y u) (ap (λ (r : Option TxnRow). is_open (state_in r)) (sym dead.2) ∙ e))

  -- so was each, where this one is no more
  pub lived : (is_open (state_of z t) ≡ true → ⊥) → (u : ℕ) → is_open (state_of z u) ≡ true → (is_open (state_of y u) ≡ true) × (t ≡ u → ⊥)
  lived own u e = by_test (t == u) refl
    where
      by_test : (b : Bool) → (t == u) ≡ b → (is_open (state_of y u) ≡ true) × (t ≡ u → ⊥)
      by_test true f = absurd (own (subst (λ (n : ℕ). is_open (state_of z n) ≡ true) (sym (equal t u f)) e))
      by_test false f = (was_open u f e, λ same. own (subst (λ (n : ℕ). is_open (state_of z n) ≡ true) (sym same) e))

-- ---- a transaction of the client's own
module _ {V : Type 0} (means : Ghosts V)
    (precheck : Bool) (s : Start) (B : List (List Record)) (p : Point) (w : World) (gs : List RegionState) (y : SystemState) (v : Vaulted V) (c : ℕ) (state : State) (t : ℕ) (to : Point) (hs : List RegionState) (z : SystemState) where
  -- some of its undos were performed
  pub record GoesBack : Type 0 where
    pub back : List Deed
    pub did : Did means precheck s B p w c state gs y v back B to hs z v
    pub aside : AreAside (after w c back to.core) c t (receipts_from (length (log_of w)) back)

  -- all of them, and its end was logged
  pub record GoesAway : Type 0 where
    pub back : List Deed
    pub number : ℕ
    pub did : Did means precheck s B p w c state gs y v (back ++ Logs (Ended t) ∷ []) B to hs z v
    pub aside : AreAside (after w c (back ++ Logs (Ended t) ∷ []) to.core) c t (receipts_from (length (log_of w)) back)
    pub receipts : receipts_from (length (log_of w)) (back ++ Logs (Ended t) ∷ []) ≡ receipts_from (length (log_of w)) back ++ (number, Logs (Ended t)) ∷ []
    pub uncommitted : IsUncommitted (after w c (back ++ Logs (Ended t) ∷ []) to.core) t number

module _ {V : Type 0} (means : Ghosts V)
    (precheck : Bool) (s : Start) (B : List (List Record)) (p : Point) (w : World) (gs : List RegionState) (y : SystemState) (v : Vaulted V) (stood : Stood means s B p w precheck gs y v)
    (c : ℕ) (state : State) (t : ℕ) (lives : state_of y t ≡ Some Live) (owns : (u : ℕ) → t ≡ u → Owns state u) where
  at_first : At (bases_of s) s.log w p
  at_first = record { run = stood.stands.at.vault.run; tells = stood.tells; whole = stood.stands.whole }

  lives_here : state_of p.core.system t ≡ Some Live
  lives_here = ap (λ (m : SystemState). state_of m t) stood.stands.at.system ∙ lives

  in_hand : InHand w p c t t
  in_hand = record {
    others = λ u e. let none : is_claimed_in (state_of p.core.system u) ≡ false = ap (λ (m : SystemState). is_claimed_in (state_of m u)) stood.stands.at.system ∙ stood.quiet.unclaimed u in let no : true ≡ false = sym e ∙ none in absurd (cc);
    free = λ r h held own dead.
        let named : latched_in (state_of p.core.system t) ≡ Some r = subst (λ (n : ℕ). latched_in (state_of p.core.system n) ≡ Some r) own (stood.stands.whole.dead r h held dead) in
        let no : None ≡ Some r = sym (ap latched_in lives_here) ∙ named in
        absurd (cc);
    lives = ap is_dead_in lives_here;
    holds = inl refl;
  }

  apart_from : (u : ℕ) → is_open (state_of y u) ≡ true → (Owns state u → ⊥) → (t == u) ≡ false
  apart_from u _ other = by_test (t == u) refl
    where
      by_test : (b : Bool) → (t == u) ≡ b → (t == u) ≡ false
      by_test true e = absurd (other (owns u (equal t u e)))
      by_test false e = e

  module _ (own : List Record) (hs : List RegionState) (z : SystemState) (g : GoneOn means t own s B p gs hs z v) (others : OthersStay gs y t hs z) (front : List Step) (are : AreOfEnd t front)
      (records : List Record) (backs : AreBacks t records) where
    -- ---- in part
    module _ (steps_are : g.steps ≡ front) (own_is : own ≡ records) (still : state_of z t ≡ Some Live) where
      course_is : IsPointCourse p (map Does front) g.to
      course_is = subst (λ xs. IsPointCourse p (map Does xs) g.to) steps_are g.course

      abbrev part : Sided (bases_of s) s.log c t t w p front g.to
      part = sided (bases_of s) s.log c t t front w p g.to records are at_first in_hand course_is (g.log ∙ ap (λ l. p.log ++ l) own_is) (backs_sides t records backs)

      abbrev part_deeds : List Deed
      part_deeds = part.ds

      part_did : Did means precheck s B p w c state gs y v part_deeds B g.to hs z v
      part_did = did_calm means precheck s B p w gs y v stood c state t own hs z g part.ds (subst (λ xs. AreOfCourse w c p (map Does xs) g.to part.ds) (sym steps_are) part.are)
          (unclaimed_then gs hs y z t others stood.quiet (ap is_claimed_in still))
          apart_from (λ b. subst (λ xs. list_all (is_out_of b) (map Does xs) ≡ true) (sym steps_are) (end_out b t front are))

      part_aside : AreAside (after w c part_deeds g.to.core) c t (receipts_from (length (log_of w)) part_deeds)
      part_aside = asides_of (after w c part.ds g.to.core) c t t (length (log_of w)) part.ds part.sides
          (subst (λ xs. AreBacks t xs) (sym (logged_is w c part.ds p g.to records stood.tells part.at.tells (g.log ∙ ap (λ l. p.log ++ l) own_is))) backs)

      pub goes_back : GoesBack means precheck s B p w gs y v c state t g.to hs z
      goes_back = record { back = part_deeds; did = part_did; aside = part_aside }

    -- ---- and its end is logged
    module _ (steps_are : g.steps ≡ front ++ Ends t ∷ []) (own_is : own ≡ records ++ Ended t ∷ []) (gone : row_of z t ≡ None) where
      parts : (k : Point) × IsPointCourse p (map Does front) k × IsPointCourse k (map Does (Ends t ∷ [])) g.to
      parts = course_split p g.to front (Ends t ∷ []) (subst (λ xs. IsPointCourse p (map Does xs) g.to) steps_are g.course)

      abbrev mid : Point
      mid = parts.0

      end_step : IsPointStep mid (Does (Ends t)) g.to
      end_step = subst (λ (k : Point). IsPointStep mid (Does (Ends t)) k) parts.2.2 parts.2.1

      all_logged : g.to.log ≡ (p.log ++ records) ++ Ended t ∷ []
      all_logged = g.log ∙ (ap (λ l. p.log ++ l) own_is ∙ sym (append_assoc p.log records (Ended t ∷ [])))

      mid_log : mid.log ≡ p.log ++ records
      mid_log = append_cancel_right mid.log (p.log ++ records) (Ended t ∷ []) (sym end_step.1.0.2.0 ∙ all_logged)

      abbrev first : Sided (bases_of s) s.log c t t w p front mid
      first = sided (bases_of s) s.log c t t front w p mid records are at_first in_hand parts.1 mid_log (backs_sides t records backs)

      abbrev whole_deeds : List Deed
      whole_deeds = first.ds

      abbrev between : World
      between = after w c first.ds mid.core

      abbrev late : World
      late = after w c (first.ds ++ Logs (Ended t) ∷ []) g.to.core

      same_late : after between c (Logs (Ended t) ∷ []) g.to.core ≡ late
      same_late = after_after w c first.ds (Logs (Ended t) ∷ []) mid.core g.to.core

      ended_there : AreRightThen between c (Logs (Ended t) ∷ []) g.to.core
      ended_there = ended_right (bases_of s) s.log c t t w p mid front at_first (vault_stops means precheck s B p w gs y v stood) first t g.to end_step

      last_goes : Goes between c mid (Logs (Ended t) ∷ []) late g.to
      last_goes = subst (λ (x : World). Goes between c mid (Logs (Ended t) ∷ []) x g.to) same_late (one_goes (bases_of s) s.log c between mid g.to (Ends t) (Logs (Ended t) ∷ []) first.at end_step refl ended_there)

      told_all : AreOfCourse w c p (map Does g.steps) g.to (first.ds ++ Logs (Ended t) ∷ [])
      told_all =
          subst (λ xs. AreOfCourse w c p (map Does xs) g.to (first.ds ++ Logs (Ended t) ∷ [])) (sym steps_are)
          (subst (λ xs. AreOfCourse w c p xs g.to (first.ds ++ Logs (Ended t) ∷ [])) (sym (map-append Does front (Ends t ∷ [])))
          (courses_told w c p mid g.to (map Does front) (Does (Ends t) ∷ []) first.ds (Logs (Ended t) ∷ []) stood.tells.core first.are
          (g.to, Logs (Ended t) ∷ [], [], end_step, refl, ended_there, (refl, refl), refl)))

      all_out : (b : ℕ) → list_all (is_out_of b) (map Does g.steps) ≡ true
      all_out b =
          subst (λ xs. list_all (is_out_of b) (map Does xs) ≡ true) (sym steps_are)
          (subst (λ xs. list_all (is_out_of b) xs ≡ true) (sym (map-append Does front (Ends t ∷ []))) (out_both b (map Does front) (Does (Ends t) ∷ []) (end_out b t front are) refl))

      none_there : state_of z t ≡ None
      none_there = ap state_in gone

      whole_did : Did means precheck s B p w c state gs y v (whole_deeds ++ Logs (Ended t) ∷ []) B g.to hs z v
      whole_did = did_calm means precheck s B p w gs y v stood c state t own hs z g (first.ds ++ Logs (Ended t) ∷ []) told_all
          (unclaimed_then gs hs y z t others stood.quiet (ap is_claimed_in none_there))
          apart_from all_out

      backs_logged : logged_by (by c first.ds) ≡ records
      backs_logged = logged_is w c first.ds p mid records stood.tells first.at.tells mid_log

      whole_aside : AreAside (after w c (whole_deeds ++ Logs (Ended t) ∷ []) g.to.core) c t (receipts_from (length (log_of w)) whole_deeds)
      whole_aside = asides between late last_goes.grows c t (receipts_from (length (log_of w)) first.ds)
          (asides_of between c t t (length (log_of w)) first.ds first.sides (subst (λ xs. AreBacks t xs) (sym backs_logged) backs))

      -- the number of its end
      abbrev end_number : ℕ
      end_number = length (log_of w) + length (logged_by (by c whole_deeds))

      whole_receipts : receipts_from (length (log_of w)) (whole_deeds ++ Logs (Ended t) ∷ []) ≡ receipts_from (length (log_of w)) whole_deeds ++ (end_number, Logs (Ended t)) ∷ []
      whole_receipts = receipts_then c (length (log_of w)) first.ds (Logs (Ended t) ∷ [])

      number_is : end_number ≡ length (p.log ++ records)
      number_is = omega (arith, ap length stood.tells.log, ap length backs_logged, length-append p.log records)

      log_late : log_of late ≡ (p.log ++ records) ++ Ended t ∷ []
      log_late = sym last_goes.tells.log ∙ all_logged

      whole_uncommitted : IsUncommitted (after w c (whole_deeds ++ Logs (Ended t) ∷ []) g.to.core) t end_number
      whole_uncommitted = (
        subst (λ l. slice_get l end_number ≡ Some (Ended t)) (sym log_late) (subst (λ n. slice_get ((p.log ++ records) ++ Ended t ∷ []) n ≡ Some (Ended t)) (sym number_is) (get_push (p.log ++ records) (Ended t))),
        λ k below has.
            ⊎_elim
            (λ before. live_is_uncommitted (bases_of s) p.log p.core t (runs_on_log (bases_of s) s.log p stood.stands.at.vault.run) lives_here (contains_from_get p.log k (Commit t) before))
            (λ among. all_at (IsBackOf t) records among.0 (Commit t) backs among.1)
            (get_append_cases p.log records k (Commit t) (get_back (p.log ++ records) (Ended t ∷ []) k (Commit t) (omega (arith, below, number_is)) (subst (λ l. slice_get l k ≡ Some (Commit t)) log_late has))),
      )

      pub goes_away : GoesAway means precheck s B p w gs y v c state t g.to hs z
      goes_away = record { back = whole_deeds; number = end_number; did = whole_did; aside = whole_aside; receipts = whole_receipts; uncommitted = whole_uncommitted }
