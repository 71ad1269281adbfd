-- What a client's step on another transaction leaves of its own one, which it may call in or whose plan it drives.
use Rattle.std.proofs.Common.{◌≡◌, ℕ, ◌<◌, Bool, true, List, [], ◌∷◌, ◌++◌, length, Option, Some, ap, sym, subst, ◌∙◌}
use Rattle.std.specs.Prelude.{take}
use Rattle.dali_lists.proofs.Lists.{get_behind}
use Rattle.dali_att.specs.declared.state.State.TheVariants.{Live}
use Rattle.dali_runs.specs.State.{CoreState, state_of, state_in}
use Rattle.dali_runs.specs.Run.{Bases}
use Rattle.dali_runs.specs.Regions.{is_alive}
use Rattle.dali_runs.specs.Courses.{Step}
use Rattle.dali_runs.proofs.FactsLemmas.OlderRows.{rows_are_older}
use Rattle.dali_crash.specs.Checkpoints.{Does, Point}
use Rattle.dali_calls.specs.Plans.{Planned}
use Rattle.dali_calls.specs.Others.{is_apart}
use Rattle.dali_calls.specs.Stepwise.Beside.{LeavesBe}
use Rattle.dali_calls.proofs.SingleLemmas.Going.{row_there}
use Rattle.dali_calls.proofs.StepwiseLemmas.Waiting.{each_leaves, plan_waits, call_waits, rest_waits}
use Rattle.dali_notes.specs.History.{IsSeen}
use Rattle.dali_concurrent.specs.Entries.{Entry, client_note, actor_step, actor_by}
use Rattle.dali_concurrent.specs.Rules.{Outset, count_of, log_by, state_by}
use Rattle.dali_concurrent.specs.Told.{Effect, Line, History, plain, plain_one, core_told}
use Rattle.dali_concurrent.specs.Landing.{Stands, Landing}
use Rattle.dali_concurrent.specs.Kept.{Follows}
use Rattle.dali_concurrent.specs.Holds.{IsLed}
use Rattle.dali_concurrent.proofs.Lists.{take_length}
use Rattle.dali_concurrent.proofs.Landing.{onward}
use Rattle.dali_concurrent.proofs.Kept.{stands_of}
use Rattle.dali_concurrent.proofs.Holds.{states_are_told, runs_there}
use Rattle.dali_concurrent.proofs.Beside.{others_leave_be}
use Rattle.dali_locked.specs.Sights.{Acts}
use Rattle.dali_locked.specs.SystemSteps.{Resting, Driving}
use Rattle.dali_locked.proofs.SystemTelling.{actor_push}
use Rattle.dali_locked.proofs.RegionMay.{acts_stay}
use Rattle.dali_locked.proofs.RegionAmid.{plan_stays}

module _ (bases : Bases) (p : Point) (o : Outset) (c : ℕ) (seen now : History) (led : IsLed bases p o now) (mine : IsSeen now (client_note (count_of o) c) seen) where
  -- while others go on
  pub resting_still : (t : ℕ) → Resting c t o seen → Resting c t o now
  resting_still t w = record {
    acts = acts_stay bases p o c t seen now led mine w.acts;
    may = call_waits _ _ _ _ t (others_leave_be bases p o t c seen now led mine w.acts.actor (ap is_alive w.acts.lives)) w.may;
  }

  -- behind a line with one step, which isn't one of t
  module _ (ks : List ℕ) (en : Entry) (f : Effect) (x : Step) (behind : IsLed bases p o (now ++ (ks, (en, f, Does x ∷ [])) ∷ [])) (t : ℕ) (apart : is_apart t x ≡ true)
      (same : (a : Option ℕ) → actor_step t a (ks, en) ≡ a)
    where
      abbrev e : Line
      e = (ks, (en, f, Does x ∷ []))

      follows : Follows bases p o now e
      follows = subst (λ S. Follows bases p o S e) (take_length now (e ∷ [])) (behind.all (length now) e (get_behind now e []))

      abbrev q : Point
      q = (stands_of bases p o now led.begins led.all).0

      abbrev stands : Stands bases p o now q
      stands = (stands_of bases p o now led.begins led.all).1

      abbrev to : Point
      to = (follows.lands q stands).0

      abbrev landing : Landing o now e q to
      landing = (follows.lands q stands).1

      then_stands : Stands bases p o (now ++ e ∷ []) to
      then_stands = onward bases p o now e q to stands landing

      left : state_of (core_told o now).system t ≡ Some Live → LeavesBe t (log_by o (plain now)) (core_told o now) (log_by o (plain (now ++ e ∷ []))) (core_told o (now ++ e ∷ []))
      left lives =
          let mid : Point = landing.course.0 in
          let less : t < q.core.system.next =
          subst (λ (k : CoreState). t < k.system.next) (sym stands.comes.core) (rows_are_older bases (log_by o (plain now)) (core_told o now) (runs_there bases p o now led) t (row_there (core_told o now).system t Live lives)) in
          let be : LeavesBe t q.log q.core mid.log mid.core = each_leaves t q.log mid.log q.core mid.core x less apart landing.course.1.1.0 in
          let end : LeavesBe t q.log q.core to.log to.core = subst (λ (m : Point). LeavesBe t q.log q.core m.log m.core) landing.course.2 be in
          subst (λ C. LeavesBe t (log_by o (plain now)) (core_told o now) (log_by o (plain (now ++ e ∷ []))) C) landing.core
          (subst (λ L. LeavesBe t (log_by o (plain now)) (core_told o now) L to.core) then_stands.comes.log
          (subst (λ C. LeavesBe t (log_by o (plain now)) C to.log to.core) stands.comes.core (subst (λ L. LeavesBe t L q.core to.log to.core) stands.comes.log end)))

      lives_there : Acts c t o now → state_of (core_told o now).system t ≡ Some Live
      lives_there acts = states_are_told bases p o now t led ∙ acts.lives

      acts_then : Acts c t o now → Acts c t o (now ++ e ∷ [])
      acts_then acts = record {
        actor = actor_push o now e t ∙ (same (actor_by t (plain now)) ∙ acts.actor);
        lives = sym (states_are_told bases p o (now ++ e ∷ []) t behind) ∙ (ap state_in (left (lives_there acts)).row ∙ lives_there acts);
      }

      pub resting_beside : Resting c t o seen → Resting c t o (now ++ e ∷ [])
      resting_beside w =
          let r : Resting c t o now = resting_still t w in
          record { acts = acts_then r.acts; may = call_waits _ _ _ _ t (left (lives_there r.acts)) r.may }

      pub driving_beside : (g : Planned) → g.txn ≡ t → Driving c g o seen → Driving c g o (now ++ e ∷ [])
      driving_beside g own w =
          let r : Driving c g o now = plan_stays bases p o c g seen now led mine w in
          let acts : Acts c t o now = subst (λ u. Acts c u o now) own r.acts in
          let be : LeavesBe g.txn (log_by o (plain now)) (core_told o now) (log_by o (plain (now ++ e ∷ []))) (core_told o (now ++ e ∷ [])) =
          subst (λ u. LeavesBe u (log_by o (plain now)) (core_told o now) (log_by o (plain (now ++ e ∷ []))) (core_told o (now ++ e ∷ []))) (sym own) (left (lives_there acts)) in
          record {
            acts = subst (λ u. Acts c u o (now ++ e ∷ [])) (sym own) (acts_then acts);
            rest = rest_waits _ _ _ _ g be r.rest;
            at = plan_waits _ _ _ _ g be r.at;
          }
