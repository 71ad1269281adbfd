-- What a client knows amid an operation, and behind it.
use Rattle.std.proofs.Common.{◌≡◌, ℕ, zero, suc, ◌+◌, ◌<◌, Bool, true, false, List, [], ◌∷◌, ◌++◌, length, Option, Some, None, refl, ap, sym, subst, ◌∙◌, arith}
use Rattle.std.specs.Prelude.{slice_get, slice_set, take, fold, filter_map, ◌==◌, not, if◌then◌else◌}
use Rattle.std.specs.List.{cons_option}
use Rattle.std.proofs.lemmas.List.{append-nil, length-set}
use Rattle.std.proofs.lemmas.List.Elements.{filter_map-append}
use Rattle.std.proofs.lemmas.List.Sums.{fold-append}
use Rattle.std.proofs.lemmas.Bool.{eqb-true}
use Rattle.dali_lists.proofs.Lists.{get_push, get_within}
use Rattle.dali_lists.proofs.Numbers.{eqb-self}
use Rattle.dali_lists.proofs.Tests.{not_both_ways}
use Rattle.dali_runs.proofs.CountsLemmas.Lists.{some_same}
use Rattle.dali_record.specs.declared.records.Record.{Record}
use Rattle.dali_region.specs.declared.Hold.{Hold}
use Rattle.dali_region.specs.State.{RegionState}
use Rattle.dali_runs.specs.State.{SystemState, CoreState, hold_of, hold_in, state_of}
use Rattle.dali_runs.specs.Run.{Bases}
use Rattle.dali_runs.specs.Run.{covers}
use Rattle.dali_runs.specs.Keeps.{IsFree}
use Rattle.dali_runs.specs.Facts.Plans.{AtWork}
use Rattle.dali_runs.specs.Regions.{is_alive}
use Rattle.dali_crash.specs.Checkpoints.{StoreStep, Point}
use Rattle.dali_system.specs.declared.operation.Operation.{Operation}
use Rattle.dali_transcripts.specs.World.{Happening, logged_by, state_step, stray_after}
use Rattle.dali_transcripts.specs.Rounds.{is_on}
use Rattle.dali_notes.specs.History.{IsSeen}
use Rattle.dali_calls.specs.Followed.{Follows as FollowsLog, HoldsCall}
use Rattle.dali_calls.specs.Steps.{call_key, is_get}
use Rattle.dali_calls.specs.Plans.{Planned, is_back, with_operation}
use Rattle.dali_geometry.specs.Sizes.{Sizes}
use Rattle.dali_geometry.specs.Places.{regions}
use Rattle.dali_calls.proofs.Operating.{held_of}
use Rattle.dali_calls.specs.Single.Stands.{AtPlan, IsAtRest}
use Rattle.dali_calls.specs.Stepwise.Beside.{LeavesBe}
use Rattle.dali_calls.proofs.StepwiseLemmas.Waiting.{plan_waits, rest_waits}
use Rattle.dali_concurrent.specs.Entries.{Latches, Entry, Did, Latched, Updated, Freed, Entries, region_note, client_note, deed_in, deeds_of, done_in, done_by, on, on_in, live_by, live_step, actor_by, actor_step}
use Rattle.dali_concurrent.specs.Rules.{Outset, before, count_of, log_by, state_by, live_in, dead_in, dead_by, dead_step, LookFits, AllFit}
use Rattle.dali_concurrent.specs.Told.{OnRegion, Line, History, plain, plain_one, core_told}
use Rattle.dali_concurrent.specs.Kept.{txn_in, RegionTold}
use Rattle.dali_concurrent.specs.Holds.{IsLed}
use Rattle.dali_concurrent.proofs.Lists.{take_length, get_of_front}
use Rattle.dali_concurrent.proofs.Entries.{IdleIn, idle_of, deeds_push, picked_seen, not_done}
use Rattle.dali_concurrent.proofs.Fitting.{quiet_rest}
use Rattle.dali_concurrent.proofs.Told.{plain-append, plain_seen, told_push, lengths}
use Rattle.dali_concurrent.proofs.Kept.{stands_of, fit_of}
use Rattle.dali_concurrent.proofs.Holds.{old_count, holds_are_told, hold_is_of_actor, states_are_told, runs_there, told_live, told_dead, live_is, dead_there}
use Rattle.dali_concurrent.proofs.Clients.{live_back}
use Rattle.dali_concurrent.proofs.Passed.{stray_is}
use Rattle.dali_concurrent.proofs.Amid.{own_hold_is_seen, dead_is_seen}
use Rattle.dali_concurrent.proofs.Beside.{others_leave_be}
use Rattle.dali_locked.specs.Sights.{Acts}
use Rattle.dali_locked.specs.SystemSteps.{Driving}
use Rattle.dali_locked.specs.Regions.{IsAmid}
use Rattle.dali_locked.proofs.RegionMay.{acts_stay, own_hold}

pub follows_with : (s : Sizes) (L : List Record) (p : Planned) (o : Option Operation) → FollowsLog s L p → FollowsLog s L (with_operation p o)
follows_with s L p o f = record {
  working = f.working;
  at_work = f.at_work;
  before = f.before;
  undos = f.undos;
  rests = f.rests;
  progress = f.progress;
  mark = f.mark;
  winds = f.winds;
  onward = f.onward;
}

-- ---- an entry that is no deed
module _ (o : Outset) (P : Entries) (p : List ℕ × Entry) (quiet : deed_in p ≡ None) where
  pub tie_deeds : deeds_of (P ++ p ∷ []) ≡ deeds_of P
  tie_deeds = filter_map-append deed_in P (p ∷ []) ∙ (ap (λ q. deeds_of P ++ cons_option q []) quiet ∙ append-nil (deeds_of P))

  pub tie_log : log_by o (P ++ p ∷ []) ≡ log_by o P
  tie_log = ap (λ ds. before o ++ logged_by ds) tie_deeds

  pub tie_state : (t : ℕ) → state_by o (P ++ p ∷ []) t ≡ state_by o P t
  tie_state t = ap (fold (state_step t) (state_of o.old.system t)) tie_deeds

-- ---- a look, while its client has the live hold
none_on : (r t c : ℕ) (R : Entries) (s : Option (ℕ × ℕ)) → IdleIn c R → fold (live_step r) s R ≡ Some (t, c) → on r R ≡ []
none_on r t c [] s idle h = refl
none_on r t c (p ∷ R) s idle h =
    let rest : IdleIn c R = λ i q e. idle (suc i) q e in
    ap (λ q. cons_option q (on r R)) (one p s (live_back r t c R (live_step r s p) rest h)) ∙ none_on r t c R (live_step r s p) rest h
  where
    one : (p : List ℕ × Entry) (s : Option (ℕ × ℕ)) → live_step r s p ≡ Some (t, c) → on_in r p ≡ None
    one (k, Did x d) s h = by_test (is_on r x) h
      where
        by_test : (b : Bool) → (if b then None else s) ≡ Some (t, c) → ◌≡◌ {A = Option Happening} (if b then Some (x, d) else None) None
        by_test true f = absurd (cc)
        by_test false f = refl
    one p s h = refl

pub look_on : (o : Outset) (c r t : ℕ) (seen now : Entries) → AllFit o now → IsSeen now (client_note (count_of o) c) seen → live_by r now ≡ Some (t, c) → LookFits o seen c r → LookFits o now c r
look_on o c r t seen now good is live look =
    let front = get_of_front seen is.rest look.place _ look.there in
    let same : take look.place now ≡ take look.place seen = ap (take look.place) is.all ∙ front.1 in
    let quiet = quiet_rest o now (client_note (count_of o) c) seen good is in
    let was : live_by r seen ≡ Some (t, c) = own_hold_is_seen o r t c seen now good is live in
    record {
      place = look.place;
      notes = look.notes;
      txn = look.txn;
      there = ap (λ l. slice_get l look.place) is.all ∙ front.0;
      alone = ap (filter_map (done_in c)) is.all
          ∙ (picked_seen (count_of o) (client_note (count_of o) c) seen is.rest quiet (done_in c) (not_done (count_of o) c)
          ∙ (look.alone ∙ ap (λ P. filter_map (done_in c) P ++ Latches r ∷ []) (sym same)));
      held = ap (on r) is.all
          ∙ (filter_map-append (on_in r) seen is.rest
          ∙ (ap (λ l. on r seen ++ l) (none_on r t c is.rest (live_by r seen) (idle_of (count_of o) c is.rest quiet) (sym (fold-append (live_step r) None seen is.rest) ∙ (ap (live_by r) (sym is.all) ∙ live)))
          ∙ (append-nil (on r seen) ∙ (look.held ∙ ap (on r) (sym same)))));
      live = live ∙ (sym was ∙ look.live);
      right = λ check g at. subst (λ P. stray_after r g.stray (deeds_of P) ≡ 0) (sym same) (look.right check g at);
    }

-- ---- a plan, while others go on
module _ (bases : Bases) (p : Point) (o : Outset) (c : ℕ) (plan : Planned) (seen now : History) (led : IsLed bases p o now) (is : IsSeen now (client_note (count_of o) c) seen) where
  left_be : Acts c plan.txn o seen → LeavesBe plan.txn (log_by o (plain seen)) (core_told o seen) (log_by o (plain now)) (core_told o now)
  left_be acts = others_leave_be bases p o plan.txn c seen now led is acts.actor (ap is_alive acts.lives)

  pub plan_stays : Driving c plan o seen → Driving c plan o now
  plan_stays at = record {
    acts = acts_stay bases p o c plan.txn seen now led is at.acts;
    rest = rest_waits (log_by o (plain seen)) (log_by o (plain now)) (core_told o seen) (core_told o now) plan (left_be at.acts) at.rest;
    at = plan_waits (log_by o (plain seen)) (log_by o (plain now)) (core_told o seen) (core_told o now) plan (left_be at.acts) at.at;
  }

-- no hold is one of t
module _ (bases : Bases) (p : Point) (o : Outset) (t : ℕ) (T : History) (led : IsLed bases p o T) (free : IsFree (core_told o T) t) where
  other_hold : (q : ℕ) (h : Hold) → hold_of (core_told o T) q ≡ Some h → h.txn ≡ t → ⊥
  other_hold q h at own = not_both_ways (ap (λ n. n == t) own ∙ eqb-self t) (free q h at)

  pub free_live : (q d : ℕ) → live_by q (plain T) ≡ Some (t, d) → ⊥
  free_live q d live =
      let low = (hold_is_of_actor o (plain T) q t d (fit_of bases p o T led.all) live).0 in
      let g = get_within (core_told o T).regions q (omega (arith, low, lengths o T, old_count bases p o led.begins)) in
      let is = (holds_are_told bases p o T led q g.0 g.1).1 in
      let h = live_is g.0.hold t (is.live ∙ ap txn_in live) in
      other_hold q h.0 (ap hold_in g.1 ∙ h.1) h.2

  pub free_dead : (q : ℕ) → q < count_of o → dead_by o q (plain T) ≡ Some t → ⊥
  free_dead q low dead = let h = dead_there bases p o T led q t low dead in other_hold q h.0 h.1 h.2

-- ---- a latch
module _ (bases : Bases) (p : Point) (o : Outset) (c r : ℕ) (plan : Planned) (op : Option Operation) (g h : RegionState) (ks : List ℕ) (xs : List StoreStep) (now : History) where
  abbrev latch_line : Line
  latch_line = (ks, (Latched r plan.txn c, OnRegion r h, xs))

  pub latched_amid : IsLed bases p o now → RegionTold o r g now → Driving c plan o now → (is_back plan ≡ false → o.precheck ≡ true → g.stray ≡ 0)
      → IsAmid c r (with_operation plan op) o (now ++ latch_line ∷ [])
  latched_amid led told at checked = record {
    acts = record {
      actor = ap (actor_by t) push ∙ (fold-append (actor_step t) None P (e ∷ []) ∙ at.acts.actor);
      lives = ap (λ Q. state_by o Q t) push ∙ (tie_state o P e refl t ∙ at.acts.lives);
    };
    sizes = at.rest.sizes ∙ ap (λ (y : SystemState). y.sizes) (sym system);
    follows = subst (λ (y : SystemState). FollowsLog y.sizes (log_by o (plain (now ++ latch_line ∷ []))) (with_operation plan op)) (sym system)
        (subst (λ L. FollowsLog (core_told o now).system.sizes L (with_operation plan op)) (sym log) (follows_with (core_told o now).system.sizes (log_by o P) plan op at.at.follows));
    holds = subst (λ y. HoldsCall y plan) (sym system) at.at.holds;
    only = λ q d live. by_place q d (r == q) refl (sym (fold-append (live_step q) None P (e ∷ [])) ∙ (ap (live_by q) (sym push) ∙ live));
    none = λ q low dead. by_dead q low (r == q) (sym (fold-append (dead_step q) (dead_in (hold_of o.old q)) P (e ∷ [])) ∙ (ap (dead_by o q) (sym push) ∙ dead));
    look = λ onward. record {
      place = length P;
      notes = ks;
      txn = t;
      there = ap (λ Q. slice_get Q (length P)) push ∙ get_push P e;
      alone = ap (done_by c) push
          ∙ (filter_map-append (done_in c) P (e ∷ [])
          ∙ (ap (λ b. done_by c P ++ cons_option (if b then Some (Latches r) else None) []) (eqb-self c) ∙ ap (λ Q. done_by c Q ++ Latches r ∷ []) (sym front)));
      held = ap (on r) push ∙ (filter_map-append (on_in r) P (e ∷ []) ∙ (append-nil (on r P) ∙ ap (on r) (sym front)));
      live = ap (live_by r) push ∙ (fold-append (live_step r) None P (e ∷ []) ∙ ap (λ b. if b then Some (t, c) else live_by r P) (eqb-self r));
      right = λ check old was.
          let stands = stands_of bases p o now led.begins led.all in
          ap (λ Q. stray_after r old.stray (deeds_of Q)) front
          ∙ (sym (stray_is bases p o led.begins 0 now stands.0 r g old stands.1 (ap (λ (d : CoreState). slice_get d.regions r) stands.1.comes.core ∙ told.is) was) ∙ checked onward check);
    };
  }
    where
      t : ℕ
      t = plan.txn

      P : Entries
      P = plain now

      e : List ℕ × Entry
      e = (ks, Latched r plan.txn c)

      push : plain (now ++ latch_line ∷ []) ≡ P ++ e ∷ []
      push = plain-append now (latch_line ∷ [])

      front : take (length P) (plain (now ++ latch_line ∷ [])) ≡ P
      front = ap (take (length P)) push ∙ take_length P (e ∷ [])

      system : (core_told o (now ++ latch_line ∷ [])).system ≡ (core_told o now).system
      system = ap (λ (d : CoreState). d.system) (told_push o now latch_line)

      log : log_by o (plain (now ++ latch_line ∷ [])) ≡ log_by o P
      log = ap (log_by o) push ∙ tie_log o P e refl

      by_place : (q d : ℕ) (b : Bool) → (r == q) ≡ b → (if b then Some (t, c) else live_by q P) ≡ Some (t, d) → r ≡ q
      by_place q d true is f = eqb-true r q is
      by_place q d false is f = absurd (free_live bases p o t now led at.at.free q d f)

      by_dead : (q : ℕ) → q < count_of o → (b : Bool) → (if b then None else dead_by o q P) ≡ Some t → ⊥
      by_dead q low true f = absurd (cc)
      by_dead q low false f = free_dead bases p o t now led at.at.free q low f

-- ---- while others go on
module _ (bases : Bases) (p : Point) (o : Outset) (c r : ℕ) (plan : Planned) (g : RegionState) (seen now : History) (led : IsLed bases p o now)
    (is : IsSeen now (client_note (count_of o) c) seen) (told : RegionTold o r g now) (held : live_in g.hold ≡ Some plan.txn) where
  pub amid_stays : IsAmid c r plan o seen → IsAmid c r plan o now
  amid_stays at = record {
    acts = acts;
    sizes = at.sizes ∙ sym be.sizes;
    follows = record {
      working = at.follows.working;
      at_work = subst (λ s. AtWork s (log_by o (plain now)) plan.txn at.follows.working) (sym be.sizes) (be.rules ∙ at.follows.at_work);
      before = at.follows.before;
      undos = at.follows.undos;
      rests = at.follows.rests;
      progress = at.follows.progress;
      mark = at.follows.mark;
      winds = at.follows.winds;
      onward = at.follows.onward;
    };
    holds = ap (λ m. covers m (not (is_get plan.call))) (be.locks (call_key plan.call)) ∙ at.holds;
    only = λ q d live.
        let theirs = (hold_is_of_actor o (plain now) q plan.txn d (fit_of bases p o now led.all) live).1 in
        let same : d ≡ c = some_same (sym theirs ∙ acts.actor) in
        at.only q c (own_hold_is_seen o q plan.txn c (plain seen) (plain now) (fit_of bases p o now led.all) plain_is (live ∙ ap (λ n. Some (plan.txn, n)) same));
    none = λ q low dead. at.none q low (dead_is_seen o q plan.txn c (plain seen) (plain now) (fit_of bases p o now led.all) plain_is at.acts.actor (ap is_alive at.acts.lives) dead);
    look = λ onward.
        look_on o c r plan.txn (plain seen) (plain now) (fit_of bases p o now led.all) plain_is (own_hold bases p o c plan.txn r g now led told acts.actor held) (at.look onward);
  }
    where
      be : LeavesBe plan.txn (log_by o (plain seen)) (core_told o seen) (log_by o (plain now)) (core_told o now)
      be = others_leave_be bases p o plan.txn c seen now led is at.acts.actor (ap is_alive at.acts.lives)

      acts : Acts c plan.txn o now
      acts = acts_stay bases p o c plan.txn seen now led is at.acts

      plain_is : IsSeen (plain now) (client_note (count_of o) c) (plain seen)
      plain_is = plain_seen now (client_note (count_of o) c) seen is

-- ---- a word
module _ (o : Outset) (c r : ℕ) (plan : Planned) (op : Option Operation) (h : RegionState) (ks : List ℕ) (xs : List StoreStep) (now : History) where
  abbrev word_line : Line
  word_line = (ks, (Updated r c, OnRegion r h, xs))

  pub updated_amid : IsAmid c r plan o now → IsAmid c r (with_operation plan op) o (now ++ word_line ∷ [])
  updated_amid at = record {
    acts = record {
      actor = ap (actor_by plan.txn) push ∙ (fold-append (actor_step plan.txn) None P (e ∷ []) ∙ at.acts.actor);
      lives = ap (λ Q. state_by o Q plan.txn) push ∙ (tie_state o P e refl plan.txn ∙ at.acts.lives);
    };
    sizes = at.sizes ∙ ap (λ (y : SystemState). y.sizes) (sym system);
    follows = subst (λ (y : SystemState). FollowsLog y.sizes (log_by o (plain (now ++ word_line ∷ []))) (with_operation plan op)) (sym system)
        (subst (λ L. FollowsLog (core_told o now).system.sizes L (with_operation plan op)) (sym log) (follows_with (core_told o now).system.sizes (log_by o P) plan op at.follows));
    holds = subst (λ y. HoldsCall y plan) (sym system) at.holds;
    only = λ q d live. at.only q d (sym (fold-append (live_step q) None P (e ∷ [])) ∙ (ap (live_by q) (sym push) ∙ live));
    none = λ q low dead. at.none q low (sym (fold-append (dead_step q) (dead_in (hold_of o.old q)) P (e ∷ [])) ∙ (ap (dead_by o q) (sym push) ∙ dead));
    look = λ onward.
        let look = at.look onward in
        let front = get_of_front P (e ∷ []) look.place _ look.there in
        let same : take look.place (plain (now ++ word_line ∷ [])) ≡ take look.place P = ap (take look.place) push ∙ front.1 in
        record {
          place = look.place;
          notes = look.notes;
          txn = look.txn;
          there = ap (λ Q. slice_get Q look.place) push ∙ front.0;
          alone = ap (done_by c) push ∙ (filter_map-append (done_in c) P (e ∷ []) ∙ (append-nil (done_by c P) ∙ (look.alone ∙ ap (λ Q. done_by c Q ++ Latches r ∷ []) (sym same))));
          held = ap (on r) push ∙ (filter_map-append (on_in r) P (e ∷ []) ∙ (append-nil (on r P) ∙ (look.held ∙ ap (on r) (sym same))));
          live = ap (live_by r) push ∙ (fold-append (live_step r) None P (e ∷ []) ∙ look.live);
          right = λ check old was. subst (λ Q. stray_after r old.stray (deeds_of Q) ≡ 0) (sym same) (look.right check old was);
        };
  }
    where
      P : Entries
      P = plain now

      e : List ℕ × Entry
      e = (ks, Updated r c)

      push : plain (now ++ word_line ∷ []) ≡ P ++ e ∷ []
      push = plain-append now (word_line ∷ [])

      system : (core_told o (now ++ word_line ∷ [])).system ≡ (core_told o now).system
      system = ap (λ (d : CoreState). d.system) (told_push o now word_line)

      log : log_by o (plain (now ++ word_line ∷ [])) ≡ log_by o P
      log = ap (log_by o) push ∙ tie_log o P e refl

-- ---- the region in hand is free again, and no other one has a hold of t
module _ (bases : Bases) (p : Point) (o : Outset) (r t : ℕ) (g h : RegionState) (now : History) (led : IsLed bases p o now) (told : RegionTold o r g now)
    (only : (q d : ℕ) → live_by q (plain now) ≡ Some (t, d) → r ≡ q) (left : (q : ℕ) → q < count_of o → dead_by o q (plain now) ≡ Some t → ⊥) (none : h.hold ≡ None) where
  pub free_of : (q : ℕ) (k : Hold) → hold_in (slice_get (slice_set (core_told o now).regions r h) q) ≡ Some k → (k.txn == t) ≡ false
  free_of q k there = by_test (k.txn == t) refl
    where
      other : k.txn ≡ t → (r ≡ q → ⊥) → hold_of (core_told o now) q ≡ Some k → (n : Bool) → k.dead ≡ n → ⊥
      other same apart was false e = let w = told_live bases p o now led q k was e in apart (only q w.0 (w.1 ∙ ap (λ n. Some (n, w.0)) same))
      other same apart was true e = let w = told_dead bases p o now led q k was e in left q w.0 (w.1 ∙ ap Some same)

      by_test : (n : Bool) → (k.txn == t) ≡ n → n ≡ false
      by_test false e = refl
      by_test true e = let w = held_of (core_told o now).regions r g h q k told.is none there in absurd (other (eqb-true k.txn t e) w.0 w.1 k.dead refl)

module _ (bases : Bases) (p : Point) (o : Outset) (c r : ℕ) (plan : Planned) (g h : RegionState) (now : History) (led : IsLed bases p o now) (told : RegionTold o r g now) (at : IsAmid c r plan o now) (none : h.hold ≡ None) where
  module _ (ks : List ℕ) (xs : List StoreStep) where
    abbrev freed_line : Line
    freed_line = (ks, (Freed r c, OnRegion r h, xs))

    pub freed_drives : Driving c (with_operation plan None) o (now ++ freed_line ∷ [])
    freed_drives = record {
      acts = record {
        actor = ap (actor_by plan.txn) push ∙ (fold-append (actor_step plan.txn) None P (e ∷ []) ∙ at.acts.actor);
        lives = ap (λ Q. state_by o Q plan.txn) push ∙ (tie_state o P e refl plan.txn ∙ at.acts.lives);
      };
      rest = record {
        sizes = at.sizes ∙ ap (λ (d : CoreState). d.system.sizes) (sym core_is);
        whole = ap (λ (d : CoreState). length d.regions) core_is ∙ (length-set (core_told o now).regions r h ∙ ((runs_there bases p o now led).whole ∙ ap (λ (d : CoreState). regions d.system.sizes) (sym core_is)));
        lives = ap (λ (d : CoreState). state_of d.system plan.txn) core_is ∙ (states_are_told bases p o now plan.txn led ∙ at.acts.lives);
        closed = refl;
      };
      at = record {
        follows = subst (λ (d : CoreState). FollowsLog d.system.sizes (log_by o (plain (now ++ freed_line ∷ []))) (with_operation plan None)) (sym core_is)
            (subst (λ L. FollowsLog (core_told o now).system.sizes L (with_operation plan None)) (sym log) (follows_with (core_told o now).system.sizes (log_by o P) plan None at.follows));
        holds = subst (λ (d : CoreState). HoldsCall d.system plan) (sym core_is) at.holds;
        free = λ q k there. free_of bases p o r plan.txn g h now led told at.only at.none none q k (ap (λ (d : CoreState). hold_of d q) (sym core_is) ∙ there);
      };
    }
      where
        P : Entries
        P = plain now

        e : List ℕ × Entry
        e = (ks, Freed r c)

        push : plain (now ++ freed_line ∷ []) ≡ P ++ e ∷ []
        push = plain-append now (freed_line ∷ [])

        log : log_by o (plain (now ++ freed_line ∷ [])) ≡ log_by o P
        log = ap (log_by o) push ∙ tie_log o P e refl

        core_is : core_told o (now ++ freed_line ∷ []) ≡ record { regions = slice_set (core_told o now).regions r h; system = (core_told o now).system; vault = (core_told o now).vault }
        core_is = told_push o now freed_line
