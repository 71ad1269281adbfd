-- Where a transaction stands behind a step of its client, and while others go on.
use Rattle.std.proofs.Common.{◌≡◌, ℕ, ◌+◌, ◌<◌, Bool, true, false, List, [], ◌∷◌, ◌++◌, Option, Some, None, refl, ap, sym, subst, ◌∙◌, arith}
use Rattle.std.specs.Prelude.{slice_get, slice_set, fold, filter_map, ◌==◌, if◌then◌else◌}
use Rattle.std.proofs.lemmas.List.Elements.{filter_map-append}
use Rattle.std.proofs.lemmas.List.Sums.{fold-append}
use Rattle.std.proofs.lemmas.Bool.{eqb-true}
use Rattle.atomic_table.specs.Seated.{TableId}
use Rattle.dali_lists.proofs.Lists.{get_set}
use Rattle.dali_runs.proofs.CountsLemmas.Lists.{some_same}
use Rattle.dali_record.specs.declared.records.Record.{Record}
use Rattle.dali_record.specs.Legal.{TxnState, txn_state}
use Rattle.dali_region.specs.State.{RegionState}
use Rattle.dali_att.specs.declared.state.State.{State}
use Rattle.dali_runs.specs.State.{SystemState, CoreState, state_of, hold_of, hold_in}
use Rattle.dali_runs.specs.Run.{Bases}
use Rattle.dali_runs.specs.Keeps.{IsFree}
use Rattle.dali_runs.specs.Regions.{is_alive}
use Rattle.dali_calls.specs.Stepwise.Beside.{LeavesBe}
use Rattle.dali_crash.specs.Checkpoints.{StoreStep, Point}
use Rattle.dali_crash.specs.Traces.{Start, bases_of}
use Rattle.dali_transcripts.specs.World.{Logs, state_step}
use Rattle.dali_notes.specs.History.{IsSeen, AllMay, Added, signed_by}
use Rattle.dali_concurrent.specs.Entries.{Entry, Did, Latched, Updated, Freed, client_note, region_note, deed_in, deeds_of, live_by, live_step, actor_by, actor_step}
use Rattle.dali_concurrent.specs.Rules.{Outset, count_of, log_by, state_by, dead_in, dead_by, dead_step}
use Rattle.dali_concurrent.specs.Told.{OnRegion, OnBoth, Item, Line, History, plain, core_told}
use Rattle.dali_concurrent.specs.Kept.{RegionTold}
use Rattle.dali_concurrent.specs.Holds.{IsLed}
use Rattle.dali_concurrent.proofs.Told.{plain-append, plain_seen, told_push}
use Rattle.dali_concurrent.proofs.Kept.{fit_of}
use Rattle.dali_concurrent.proofs.Holds.{hold_is_of_actor, actor_stays}
use Rattle.dali_concurrent.proofs.Amid.{own_hold_is_seen, dead_is_seen}
use Rattle.dali_concurrent.proofs.Beside.{others_leave_be}
use Rattle.dali_concurrent.proofs.Own.{sizes_told}
use Rattle.dali_locked.specs.Begun.{Begun, outset, may_add, Of}
use Rattle.dali_locked.specs.Sights.{ClientSight, RegionSight, Knows, client_sight, region_sight}
use Rattle.dali_locked.specs.Regions.{RegionKept, latch_item, update_item, freed_item}
use Rattle.dali_locked.specs.Undoing.{Stands, StandsFree, StandsLatched}
use Rattle.dali_locked.proofs.RegionAdding.{led_on, front_may, told_on}
use Rattle.dali_locked.proofs.RegionAmid.{tie_log, tie_state, free_live, free_dead, free_of}
use Rattle.dali_locked.proofs.RegionCommit.{log_more}

-- ---- behind a tie on a region
module _ (o : Outset) (c r t : ℕ) (Q : Option State → Option TxnState → Type 0) (h : RegionState) (ks : List ℕ) (e : Entry) (xs : List StoreStep) (now : History)
    (quiet : deed_in (ks, e) ≡ None) (still : actor_step t (actor_by t (plain now)) (ks, e) ≡ actor_by t (plain now)) where
  pub stands_tied : Stands c t Q o now → Stands c t Q o (now ++ (ks, (e, OnRegion r h, xs)) ∷ [])
  stands_tied at = record {
    tends = record {
      actor = ap (actor_by t) push ∙ (fold-append (actor_step t) None (plain now) ((ks, e) ∷ []) ∙ (still ∙ at.tends.actor));
      alive = ap (λ P. is_alive (state_by o P t)) push ∙ (ap is_alive (tie_state o (plain now) (ks, e) quiet t) ∙ at.tends.alive);
    };
    at = subst (λ P. Q (state_by o P t) (txn_state o.old.system.sizes t (log_by o P))) (sym push)
        (subst (λ q. Q q (txn_state o.old.system.sizes t (log_by o (plain now ++ (ks, e) ∷ [])))) (sym (tie_state o (plain now) (ks, e) quiet t))
        (subst (λ L. Q (state_by o (plain now) t) (txn_state o.old.system.sizes t L)) (sym (tie_log o (plain now) (ks, e) quiet)) at.at));
  }
    where
      push : plain (now ++ (ks, (e, OnRegion r h, xs)) ∷ []) ≡ plain now ++ (ks, e) ∷ []
      push = plain-append now ((ks, (e, OnRegion r h, xs)) ∷ [])

module _ (bases : Bases) (p : Point) (o : Outset) (c r t : ℕ) (Q : Option State → Option TxnState → Type 0) (g h : RegionState) (ks : List ℕ) (xs : List StoreStep) (now : History) where
  -- a latch
  pub latched_stands : IsLed bases p o now → StandsFree c t Q o now → StandsLatched c r t Q o (now ++ (ks, (Latched r t c, OnRegion r h, xs)) ∷ [])
  latched_stands led at = record {
    stands = stands_tied o c r t Q h ks (Latched r t c) xs now refl refl at.stands;
    only = λ q d live. by_place q d (r == q) refl (sym (fold-append (live_step q) None (plain now) ((ks, Latched r t c) ∷ [])) ∙ (ap (live_by q) (sym push) ∙ live));
    none = λ q low dead. by_dead q low (r == q) (sym (fold-append (dead_step q) (dead_in (hold_of o.old q)) (plain now) ((ks, Latched r t c) ∷ [])) ∙ (ap (dead_by o q) (sym push) ∙ dead));
  }
    where
      push : plain (now ++ (ks, (Latched r t c, OnRegion r h, xs)) ∷ []) ≡ plain now ++ (ks, Latched r t c) ∷ []
      push = plain-append now ((ks, (Latched r t c, OnRegion r h, xs)) ∷ [])

      by_place : (q d : ℕ) (b : Bool) → (r == q) ≡ b → (if b then Some (t, c) else live_by q (plain now)) ≡ Some (t, d) → r ≡ q
      by_place q d true is f = eqb-true r q is
      by_place q d false is f = absurd (free_live bases p o t now led at.free q d f)

      by_dead : (q : ℕ) → q < count_of o → (b : Bool) → (if b then None else dead_by o q (plain now)) ≡ Some t → ⊥
      by_dead q low true f = absurd (cc)
      by_dead q low false f = free_dead bases p o t now led at.free q low f

  -- a word
  pub updated_stands : StandsLatched c r t Q o now → StandsLatched c r t Q o (now ++ (ks, (Updated r c, OnRegion r h, xs)) ∷ [])
  updated_stands at = record {
    stands = stands_tied o c r t Q h ks (Updated r c) xs now refl refl at.stands;
    only = λ q d live. at.only q d (sym (fold-append (live_step q) None (plain now) ((ks, Updated r c) ∷ [])) ∙ (ap (live_by q) (sym push) ∙ live));
    none = λ q low dead. at.none q low (sym (fold-append (dead_step q) (dead_in (hold_of o.old q)) (plain now) ((ks, Updated r c) ∷ [])) ∙ (ap (dead_by o q) (sym push) ∙ dead));
  }
    where
      push : plain (now ++ (ks, (Updated r c, OnRegion r h, xs)) ∷ []) ≡ plain now ++ (ks, Updated r c) ∷ []
      push = plain-append now ((ks, (Updated r c, OnRegion r h, xs)) ∷ [])

  -- its words are taken back
  pub freed_stands : IsLed bases p o now → RegionTold o r g now → h.hold ≡ None → StandsLatched c r t Q o now → StandsFree c t Q o (now ++ (ks, (Freed r c, OnRegion r h, xs)) ∷ [])
  freed_stands led told none at = record {
    stands = stands_tied o c r t Q h ks (Freed r c) xs now refl refl at.stands;
    free = λ q k there. free_of bases p o r t g h now led told at.only at.none none q k (ap (λ (d : CoreState). hold_of d q) (sym (told_push o now (ks, (Freed r c, OnRegion r h, xs)))) ∙ there);
  }

-- ---- while others go on
module _ (bases : Bases) (p : Point) (o : Outset) (c t : ℕ) (Q : Option State → Option TxnState → Type 0) (seen now : History) (led : IsLed bases p o now) (is : IsSeen now (client_note (count_of o) c) seen) where
  plain_is : IsSeen (plain now) (client_note (count_of o) c) (plain seen)
  plain_is = plain_seen now (client_note (count_of o) c) seen is

  be : Stands c t Q o seen → LeavesBe t (log_by o (plain seen)) (core_told o seen) (log_by o (plain now)) (core_told o now)
  be at = others_leave_be bases p o t c seen now led is at.tends.actor at.tends.alive

  stay : Stands c t Q o seen → (actor_by t (plain now) ≡ Some c) × (state_by o (plain now) t ≡ state_by o (plain seen) t)
  stay at = actor_stays o t c (plain seen) (plain now) (fit_of bases p o now led.all) plain_is at.tends.actor at.tends.alive

  rules : Stands c t Q o seen → txn_state o.old.system.sizes t (log_by o (plain now)) ≡ txn_state o.old.system.sizes t (log_by o (plain seen))
  rules at = subst (λ s. txn_state s t (log_by o (plain now)) ≡ txn_state s t (log_by o (plain seen))) (sym (be at).sizes ∙ sizes_told bases p o now led) (be at).rules

  stands_stay : Stands c t Q o seen → Stands c t Q o now
  stands_stay at = record {
    tends = record { actor = (stay at).0; alive = ap is_alive (stay at).1 ∙ at.tends.alive };
    at = subst (λ q. Q q (txn_state o.old.system.sizes t (log_by o (plain now)))) (sym (stay at).1) (subst (Q (state_by o (plain seen) t)) (sym (rules at)) at.at);
  }

  pub free_stays : StandsFree c t Q o seen → StandsFree c t Q o now
  free_stays at = record { stands = stands_stay at.stands; free = (be at.stands).free at.free }

  pub latched_stays : (r : ℕ) → StandsLatched c r t Q o seen → StandsLatched c r t Q o now
  latched_stays r at = record {
    stands = stands_stay at.stands;
    only = λ q d live.
        let theirs = (hold_is_of_actor o (plain now) q t d (fit_of bases p o now led.all) live).1 in
        let same : d ≡ c = some_same (sym theirs ∙ (stay at.stands).0) in
        at.only q c (own_hold_is_seen o q t c (plain seen) (plain now) (fit_of bases p o now led.all) plain_is (live ∙ ap (λ n. Some (t, n)) same));
    none = λ q low dead. at.none q low (dead_is_seen o q t c (plain seen) (plain now) (fit_of bases p o now led.all) plain_is at.stands.tends.actor at.stands.tends.alive dead);
  }

-- ---- the operation is logged
module _ (bases : Bases) (p : Point) (o : Outset) (c r t : ℕ) (Q W : Option State → Option TxnState → Type 0) (g h : RegionState) (R : Record) (z : SystemState) (ks : List ℕ) (xs : List StoreStep) (now : History) where
  pub logged_stands : IsLed bases p o now → RegionTold o r g now → h.hold ≡ None → StandsLatched c r t Q o now
      → state_step t (state_by o (plain now) t) (Logs R, c) ≡ state_by o (plain now) t → actor_step t (actor_by t (plain now)) (ks, Did (Logs R) c) ≡ actor_by t (plain now)
      → W (state_by o (plain now) t) (txn_state o.old.system.sizes t (log_by o (plain now) ++ R ∷ []))
      → StandsFree c t W o (now ++ (ks, (Did (Logs R) c, OnBoth r h z, xs)) ∷ [])
  logged_stands led told none at still acts stands = record {
    stands = record {
      tends = record {
        actor = ap (actor_by t) push ∙ (fold-append (actor_step t) None (plain now) ((ks, Did (Logs R) c) ∷ []) ∙ (acts ∙ at.stands.tends.actor));
        alive = ap is_alive state ∙ at.stands.tends.alive;
      };
      at = subst (λ q. W q (txn_state o.old.system.sizes t (log_by o (plain (now ++ (ks, (Did (Logs R) c, OnBoth r h z, xs)) ∷ []))))) (sym state)
          (subst (λ L. W (state_by o (plain now) t) (txn_state o.old.system.sizes t L)) (sym (log_more o now ks c R (OnBoth r h z) xs)) stands);
    };
    free = λ q k there. free_of bases p o r t g h now led told at.only at.none none q k (ap (λ (d : CoreState). hold_of d q) (sym (told_push o now (ks, (Did (Logs R) c, OnBoth r h z, xs)))) ∙ there);
  }
    where
      push : plain (now ++ (ks, (Did (Logs R) c, OnBoth r h z, xs)) ∷ []) ≡ plain now ++ (ks, Did (Logs R) c) ∷ []
      push = plain-append now ((ks, (Did (Logs R) c, OnBoth r h z, xs)) ∷ [])

      state : state_by o (plain (now ++ (ks, (Did (Logs R) c, OnBoth r h z, xs)) ∷ [])) t ≡ state_by o (plain now) t
      state = ap (λ P. state_by o P t) push
          ∙ (ap (λ ds. fold (state_step t) (state_of o.old.system t) ds) (filter_map-append deed_in (plain now) ((ks, Did (Logs R) c) ∷ []))
          ∙ (fold-append (state_step t) (state_of o.old.system t) (deeds_of (plain now)) ((Logs R, c) ∷ []) ∙ still))

-- ---- what the client knows behind the step, wherever the round began
module _ (b : Begun) (client : ClientSight) (t : TableId) (k : ℕ) (x : RegionSight) (kept : RegionKept b t k x) (u : ℕ) (Q : Option State → Option TxnState → Type 0) (h : RegionState) (new : History) where
  module _ (item : Item) (added : Added (client_sight b client ∷ region_sight b x ∷ []) item new) (all : AllMay (may_add b) new) (s : Start) (p : Point) (each : b.each s p) where
    before : AllMay (may_add b) added.0
    before = front_may b added.0 (signed_by (client_sight b client ∷ region_sight b x ∷ []) item ∷ []) (subst (AllMay (may_add b)) added.2 all)

    from_led : IsLed (bases_of s) p (outset b s p) added.0
    from_led = (led_on b x.seen added.0 kept.led before s p each).led

    mine : IsSeen added.0 (client_note (count_of (outset b s p)) client.id) client.seen
    mine = subst (λ n. IsSeen added.0 (client_note n client.id) client.seen) (sym (led_on b x.seen added.0 kept.led before s p each).count) added.1.0

  pub latched_stands_known : Knows b (StandsFree client.id u Q) client → Added (client_sight b client ∷ region_sight b x ∷ []) (latch_item client.id x.number u h) new → AllMay (may_add b) new
      → Of b (StandsLatched client.id x.number u Q) new
  latched_stands_known at added all s p each =
      let item = latch_item client.id x.number u h in
      let led = from_led item added all s p each in
      subst (StandsLatched client.id x.number u Q (outset b s p)) (sym added.2)
      (latched_stands (bases_of s) p (outset b s p) client.id x.number u Q x.region h (client_note b.count client.id ∷ region_note x.number ∷ []) item.2 added.0 led
      (free_stays (bases_of s) p (outset b s p) client.id u Q client.seen added.0 led (mine item added all s p each) (at s p each)))

  pub updated_stands_known : (word value : ℕ) → Knows b (StandsLatched client.id x.number u Q) client → Added (client_sight b client ∷ region_sight b x ∷ []) (update_item client.id x.number word value h) new → AllMay (may_add b) new
      → Of b (StandsLatched client.id x.number u Q) new
  updated_stands_known word value at added all s p each =
      let item = update_item client.id x.number word value h in
      let led = from_led item added all s p each in
      subst (StandsLatched client.id x.number u Q (outset b s p)) (sym added.2)
      (updated_stands (bases_of s) p (outset b s p) client.id x.number u Q x.region h (client_note b.count client.id ∷ region_note x.number ∷ []) item.2 added.0
      (latched_stays (bases_of s) p (outset b s p) client.id u Q client.seen added.0 led (mine item added all s p each) x.number (at s p each)))

  pub freed_stands_known : Knows b (StandsLatched client.id x.number u Q) client → h.hold ≡ None → Added (client_sight b client ∷ region_sight b x ∷ []) (freed_item client.id x.number h) new → AllMay (may_add b) new
      → Of b (StandsFree client.id u Q) new
  freed_stands_known at none added all s p each =
      let item = freed_item client.id x.number h in
      let led = from_led item added all s p each in
      subst (StandsFree client.id u Q (outset b s p)) (sym added.2)
      (freed_stands (bases_of s) p (outset b s p) client.id x.number u Q x.region h (client_note b.count client.id ∷ region_note x.number ∷ []) item.2 added.0 led
      (told_on b t k x added.0 kept added.1.1.0 (before item added all s p each) s p each) none
      (latched_stays (bases_of s) p (outset b s p) client.id u Q client.seen added.0 led (mine item added all s p each) x.number (at s p each)))
