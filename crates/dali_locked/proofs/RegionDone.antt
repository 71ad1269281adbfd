-- A plan's operation is logged or let go by who has its region and the system in hand, wherever the round began.
use Rattle.std.proofs.Common.{◌≡◌, ℕ, ◌+◌, ◌<◌, ◌^◌, Bool, true, false, List, [], ◌∷◌, ◌++◌, Option, Some, None, IsSome, IfSome, IsSomeAnd, Result, Ok, Err, IfErr, refl, ap, sym, subst, ◌∙◌, ◌⊎◌, inl, inr}
use Rattle.std.specs.Prelude.{slice_get, slice_set}
use Rattle.atomic_table.specs.Seated.{TableId}
use Rattle.dali_lists.proofs.Lists.{get_set}
use Rattle.dali_runs.proofs.CountsLemmas.Lists.{some_same}
use Rattle.dali_record.specs.declared.operations.Block.{Block}
use Rattle.dali_record.specs.declared.records.Record.{Record}
use Rattle.dali_record.specs.declared.records.Record.TheVariants.{Forward, Back}
use Rattle.dali_region.specs.State.{RegionState, touched}
use Rattle.dali_runs.specs.State.{SystemState, CoreState, state_of}
use Rattle.dali_runs.specs.Steps.{op_logged, back_logged}
use Rattle.dali_runs.specs.Keeps.{HasRoom}
use Rattle.dali_runs.specs.Regions.{IsOpen}
use Rattle.dali_system.specs.Served.{Served}
use Rattle.dali_system.specs.declared.operation.Operation.{Operation}
use Rattle.dali_system.specs.UnderWay.{OneIsUnderWay, all_written}
use Rattle.dali_system.proofs.UnderWays.{written_is_open}
use Rattle.dali_calls.specs.Steps.{region_in}
use Rattle.dali_calls.specs.Plans.{Planned, is_back, plan_next, went_back, commit_refusal, GoesOn, IsOfPlan, IsWhole}
use Rattle.dali_crash.specs.Checkpoints.{Point}
use Rattle.dali_crash.specs.Traces.{Start, bases_of}
use Rattle.dali_notes.specs.History.{IsSeen, Sight, AllMay, MayAdd, Added, signed_by}
use Rattle.dali_concurrent.specs.Entries.{Passed, system_note, region_note, client_note}
use Rattle.dali_concurrent.specs.Rules.{Outset, count_of, live_in}
use Rattle.dali_concurrent.specs.Told.{Item, Line, Effect, effect_on, History, core_told}
use Rattle.dali_concurrent.specs.Kept.{SystemTold, RegionTold, Follows}
use Rattle.dali_concurrent.specs.Holds.{IsLed}
use Rattle.dali_concurrent.proofs.Told.{told_push}
use Rattle.dali_concurrent.proofs.Kept.{system_meets}
use Rattle.dali_concurrent.proofs.Holds.{states_are_told}
use Rattle.dali_att.specs.declared.state.State.{State}
use Rattle.dali_att.specs.declared.state.State.TheVariants.{Live, Dead, Cleaning, Committed}
use Rattle.dali_record.specs.Spelling.{record_length}
use Rattle.dali_region.specs.declared.Receipt.{Receipt}
use Rattle.dali_system.specs.declared.error.SystemError.{SystemError}
use Rattle.dali_system.specs.declared.error.SystemError.TheVariants.{OutOfMemory as Memory}
use Rattle.dali_locked.specs.declared.error.LockedError.{LockedError}
use Rattle.dali_locked.specs.declared.error.LockedError.TheVariants.{System as BySystem}
use Rattle.dali_locked.proofs.RegionMay.{acts_stay}
use Rattle.dali_locked.specs.Begun.{Begun, outset, may_add, FromEach, Of, LedFrom, Led}
use Rattle.dali_locked.specs.Sights.{ClientSight, SystemSight, RegionSight, Acts, HasLogged, Knows, client_sight, system_sight, region_sight}
use Rattle.dali_locked.specs.SystemSteps.{Driving}
use Rattle.dali_locked.specs.Regions.{RegionKept, IsAmid, is_live, is_operating, region_on, op_region, forward_item, back_item, logged_item, record_on}
use Rattle.dali_locked.proofs.RegionAdding.{led_on, seen_further, front_may, told_on, passes_meet, passes_stay, kept_behind}
use Rattle.dali_locked.proofs.RegionSigns.{signs_three}
use Rattle.dali_locked.proofs.RegionOps.{counted, operation_next}
use Rattle.dali_locked.proofs.RegionAmid.{amid_stays}
use Rattle.dali_locked.proofs.RegionCommit.{by_three, forward_follows, back_item_follows, onward_behind, back_behind, logged_there}

-- the plan's operation is open on its region
pub record IsInHand (plan : Planned) (op : Operation) (x : RegionSight) : Type 0 where
  pub whole : IsWhole plan
  pub is_open : plan.operation ≡ Some op
  pub here : op.block.region ≡ x.number
  pub written : IsOpen x.region op.txn op.block
  pub held : live_in x.region.hold ≡ Some plan.txn

pub in_hand : (plan : Planned) (x : RegionSight) → IsWhole plan → OneIsUnderWay plan.operation x.region → all_written plan.operation ≡ true → region_in (plan_next plan) ≡ Some x.number
    → (op : Operation) × IsInHand plan op x
in_hand plan x whole under all here = of plan.operation refl
  where
    of : (q : Option Operation) → plan.operation ≡ q → (op : Operation) × IsInHand plan op x
    of None e = absurd (subst (λ z. OneIsUnderWay z x.region) e under)
    of (Some op) e =
        let own = subst (IsOfPlan plan) e whole.operation in
        let is : IsOpen x.region op.txn op.block = subst (λ z. IsSomeAnd z (λ o. IsOpen x.region o.txn o.block)) e (written_is_open plan.operation x.region under all) in (
          op,
          record {
            whole = whole;
            is_open = e;
            here = some_same (sym (ap region_in own.1.op) ∙ here);
            written = is;
            held = ap live_in is.hold ∙ ap Some own.0;
          },
        )

pub some_hold : (g : RegionState) (t : ℕ) (bl : Block) → IsOpen g t bl → IsSome g.hold
some_hold g t bl is = subst (λ z. IsSome z) (sym is.hold) refl

-- why it may be logged
abbrev pub MayBeLogged : Bool → Planned → Operation → SystemState → Planned → Type 0
MayBeLogged false plan op y q = HasRoom y (Forward plan.txn op.block) × GoesOn plan op.block q
MayBeLogged true plan op y q = (y.stop ≡ None) × (q ≡ went_back plan)

abbrev pub system_after : Bool → ℕ → Operation → SystemState → SystemState
system_after false t op y = op_logged y t op.block
system_after true t op y = back_logged y t op.block

pub logs_by :
    (plan : Planned) (op : Operation) (y z : Served) (q : Planned) → plan.operation ≡ Some op
    → (is_back plan ≡ false → IfSome plan.operation (λ o. (z ≡ record y { state = op_logged y.state plan.txn o.block }) × HasRoom y.state (Forward plan.txn o.block) × GoesOn plan o.block q))
    → (is_back plan ≡ true → IfSome plan.operation (λ o. (z ≡ record y { state = back_logged y.state plan.txn o.block }) × (y.state.stop ≡ None) × (q ≡ went_back plan)))
    → MayBeLogged (is_back plan) plan op y.state q × (z.state ≡ system_after (is_back plan) plan.txn op y.state)
logs_by plan op y z q is onward back = by_way (is_back plan) refl
  where
    by_way : (way : Bool) → is_back plan ≡ way → MayBeLogged way plan op y.state q × (z.state ≡ system_after way plan.txn op y.state)
    by_way false e =
        let w = subst (λ o. IfSome o (λ o. (z ≡ record y { state = op_logged y.state plan.txn o.block }) × HasRoom y.state (Forward plan.txn o.block) × GoesOn plan o.block q)) is (onward e) in
        ((w.1, w.2), ap (λ (k : Served). k.state) w.0)
    by_way true e =
        let w = subst (λ o. IfSome o (λ o. (z ≡ record y { state = back_logged y.state plan.txn o.block }) × (y.state.stop ≡ None) × (q ≡ went_back plan))) is (back e) in
        ((w.1, w.2), ap (λ (k : Served). k.state) w.0)

-- ---- notes in words of what contracts see
pub may_of_three : (b : Begun) (m n l m' n' l' : Sight Item) (item item' : Item) → m ≡ m' → n ≡ n' → l ≡ l' → item ≡ item' → MayAdd (may_add b) (m' ∷ n' ∷ l' ∷ []) item' → MayAdd (may_add b) (m ∷ n ∷ l ∷ []) item
may_of_three b m n l m' n' l' item item' e f g h may =
    subst (λ z. MayAdd (may_add b) (z ∷ n ∷ l ∷ []) item) (sym e)
    (subst (λ z. MayAdd (may_add b) (m' ∷ z ∷ l ∷ []) item) (sym f) (subst (λ z. MayAdd (may_add b) (m' ∷ n' ∷ z ∷ []) item) (sym g) (subst (λ z. MayAdd (may_add b) (m' ∷ n' ∷ l' ∷ []) z) (sym h) may)))

pub added_of_three : (m n l m' n' l' : Sight Item) (item item' : Item) (new : History) → m ≡ m' → n ≡ n' → l ≡ l' → item ≡ item' → Added (m ∷ n ∷ l ∷ []) item new → Added (m' ∷ n' ∷ l' ∷ []) item' new
added_of_three m n l m' n' l' item item' new e f g h added =
    subst (λ z. Added (z ∷ n' ∷ l' ∷ []) item' new) e
    (subst (λ z. Added (m ∷ z ∷ l' ∷ []) item' new) f (subst (λ z. Added (m ∷ n ∷ z ∷ []) item' new) g (subst (λ z. Added (m ∷ n ∷ l ∷ []) z new) h added)))

pub added_before_three : (b : Begun) (client : ClientSight) (w : SystemSight) (x : RegionSight) (mid : History) (item : Item) (new : History) → IsSeen mid (region_note x.number) x.seen
    → Added (client_sight b client ∷ system_sight b w ∷ region_sight b (record x { seen = mid }) ∷ []) item new → Added (client_sight b client ∷ system_sight b w ∷ region_sight b x ∷ []) item new
added_before_three b client w x mid item new is added = (added.0, (added.1.0, (added.1.1.0, (seen_further (region_note x.number) x.seen mid added.0 is added.1.1.1.0, tt))), added.2)

module _ (b : Begun) (client : ClientSight) (t : TableId) (k : ℕ) (x : RegionSight) (kept : RegionKept b t k x) (w : SystemSight) (system : Of b (λ o T. SystemTold o w.served.state T) w.seen)
    (plan : Planned) (op : Operation) (hand : IsInHand plan op x) (knows : Knows b (IsAmid client.id x.number plan) client) (q : Planned) (logs : MayBeLogged (is_back plan) plan op w.served.state q) where
  abbrev item : Item
  item = logged_item client.id (is_back plan) plan.txn plan.operation w.served.state (touched x.region)

  -- from where the round may have begun, where the history has come to now
  module _ (s : Start) (p : Point) (each : b.each s p) (now : History) (all : AllMay (may_add b) now) (mine : IsSeen now (client_note b.count client.id) client.seen)
      (theirs : IsSeen now system_note w.seen) (its : IsSeen now (region_note x.number) x.seen) where
    abbrev o : Outset
    o = outset b s p

    from : LedFrom b s p now
    from = led_on b x.seen now kept.led all s p each

    told : RegionTold o x.number x.region now
    told = told_on b t k x now kept its all s p each

    told_there : RegionTold o op.block.region x.region now
    told_there = subst (λ r. RegionTold o r x.region now) (sym hand.here) told

    is_y : w.served.state ≡ (core_told o now).system
    is_y = system_meets (bases_of s) p o w.seen now w.served.state theirs from.led.all (system s p each)

    amid : IsAmid client.id op.block.region plan o now
    amid = subst (λ r. IsAmid client.id r plan o now) (sym hand.here)
        (amid_stays (bases_of s) p o client.id x.number plan x.region client.seen now from.led (subst (λ n. IsSeen now (client_note n client.id) client.seen) (sym from.count) mine) told hand.held (knows s p each))

    item_by : (back : Bool) → is_back plan ≡ back → item ≡ logged_item client.id back plan.txn (Some op) w.served.state (touched x.region)
    item_by back way = ap (λ z. logged_item client.id z plan.txn plan.operation w.served.state (touched x.region)) way ∙ ap (λ z. logged_item client.id back plan.txn z w.served.state (touched x.region)) hand.is_open

    follows_by : (back : Bool) → is_back plan ≡ back → MayBeLogged back plan op w.served.state q
        → Follows (bases_of s) p o now (by_three (count_of o) client.id op.block.region, logged_item client.id back plan.txn (Some op) w.served.state (touched x.region))
    follows_by false way m = forward_follows (bases_of s) p o client.id plan op x.region w.served.state now from.led told_there is_y amid hand.whole hand.is_open hand.written q way m.0 m.1
    follows_by true way m = back_item_follows (bases_of s) p o client.id plan op x.region w.served.state now from.led told_there is_y amid hand.whole hand.is_open hand.written way m.0

    follows_now : Follows (bases_of s) p o now (by_three b.count client.id x.number, item)
    follows_now =
        subst (λ n. Follows (bases_of s) p o now (by_three n client.id x.number, item)) from.count
        (subst (λ r. Follows (bases_of s) p o now (by_three (count_of o) client.id r, item)) hand.here
        (subst (λ i. Follows (bases_of s) p o now (by_three (count_of o) client.id op.block.region, i)) (sym (item_by (is_back plan) refl)) (follows_by (is_back plan) refl logs)))

    plan_by : (back : Bool) → is_back plan ≡ back → MayBeLogged back plan op w.served.state q
        → Driving client.id q o (now ++ (by_three (count_of o) client.id op.block.region, logged_item client.id back plan.txn (Some op) w.served.state (touched x.region)) ∷ [])
        × HasLogged w.served.state.records (record_on back plan.txn plan.operation) o (now ++ (by_three (count_of o) client.id op.block.region, logged_item client.id back plan.txn (Some op) w.served.state (touched x.region)) ∷ [])
    plan_by false way m = (
      onward_behind (bases_of s) p o client.id plan op x.region w.served.state now from.led told_there is_y amid hand.whole hand.is_open hand.written q way m.1,
      subst (λ z. HasLogged w.served.state.records (record_on false plan.txn z) o (now ++ (by_three (count_of o) client.id op.block.region, forward_item client.id plan.txn op.block (op_logged w.served.state plan.txn op.block) (touched x.region)) ∷ [])) (sym hand.is_open)
          (logged_there (bases_of s) p o client.id plan op x.region w.served.state now from.led told_there is_y amid hand.whole hand.is_open hand.written (Forward plan.txn op.block) _ q _),
    )
    plan_by true way m = (
      subst (λ z. Driving client.id z o (now ++ (by_three (count_of o) client.id op.block.region, back_item client.id plan.txn op.block (back_logged w.served.state plan.txn op.block) (touched x.region)) ∷ [])) (sym m.1)
          (back_behind (bases_of s) p o client.id plan op x.region w.served.state now from.led told_there is_y amid hand.whole hand.is_open hand.written way),
      subst (λ z. HasLogged w.served.state.records (record_on true plan.txn z) o (now ++ (by_three (count_of o) client.id op.block.region, back_item client.id plan.txn op.block (back_logged w.served.state plan.txn op.block) (touched x.region)) ∷ [])) (sym hand.is_open)
          (logged_there (bases_of s) p o client.id plan op x.region w.served.state now from.led told_there is_y amid hand.whole hand.is_open hand.written (Back plan.txn op.block) _ q _),
    )

    knows_now : Driving client.id q o (now ++ (by_three b.count client.id x.number, item) ∷ []) × HasLogged w.served.state.records (record_on (is_back plan) plan.txn plan.operation) o (now ++ (by_three b.count client.id x.number, item) ∷ [])
    knows_now =
        let Q : ℕ → ℕ → Item → Type 0 = λ n r i. Driving client.id q o (now ++ (by_three n client.id r, i) ∷ []) × HasLogged w.served.state.records (record_on (is_back plan) plan.txn plan.operation) o (now ++ (by_three n client.id r, i) ∷ []) in
        subst (λ n. Q n x.number item) from.count (subst (λ r. Q (count_of o) r item) hand.here (subst (λ i. Q (count_of o) op.block.region i) (sym (item_by (is_back plan) refl)) (plan_by (is_back plan) refl logs)))

    system_now : SystemTold o (system_after (is_back plan) plan.txn op w.served.state) (now ++ (by_three b.count client.id x.number, item) ∷ [])
    system_now = sym (ap (λ (c : CoreState). c.system) (told_push o now (by_three b.count client.id x.number, item)) ∙ (ap (λ (i : Item). (effect_on (core_told o now) i.1).system) (item_by (is_back plan) refl) ∙ by_way (is_back plan)))
      where
        by_way : (back : Bool) → (effect_on (core_told o now) (logged_item client.id back plan.txn (Some op) w.served.state (touched x.region)).1).system ≡ system_after back plan.txn op w.served.state
        by_way false = refl
        by_way true = refl

  pub commit_may : MayAdd (may_add b) (client_sight b client ∷ system_sight b w ∷ region_sight b x ∷ []) item
  commit_may now saw all s p each = follows_now s p each now all saw.0 saw.1.0 saw.1.1.0

  module _ (new : History) (added : Added (client_sight b client ∷ system_sight b w ∷ region_sight b x ∷ []) item new) (behind : AllMay (may_add b) new) where
    before : AllMay (may_add b) added.0
    before = front_may b added.0 ((by_three b.count client.id x.number, item) ∷ []) (subst (AllMay (may_add b)) added.2 behind)

    pub committed_knows : Of b (Driving client.id q) new × Of b (HasLogged w.served.state.records (record_on (is_back plan) plan.txn plan.operation)) new
    committed_knows = (
      λ s p each. subst (Driving client.id q (outset b s p)) (sym added.2) (knows_now s p each added.0 before added.1.0 added.1.1.0 added.1.1.1.0).0,
      λ s p each. subst (HasLogged w.served.state.records (record_on (is_back plan) plan.txn plan.operation) (outset b s p)) (sym added.2) (knows_now s p each added.0 before added.1.0 added.1.1.0 added.1.1.1.0).1,
    )

    pub committed_system : Of b (λ o T. SystemTold o (system_after (is_back plan) plan.txn op w.served.state) T) new
    committed_system s p each = subst (SystemTold (outset b s p) (system_after (is_back plan) plan.txn op w.served.state)) (sym added.2) (system_now s p each added.0 before added.1.0 added.1.1.0 added.1.1.1.0)

    -- what is kept of the region
    item_open : (back : Bool) → (region_on (logged_item client.id back plan.txn (Some op) w.served.state (touched x.region)).1 ≡ Some (touched x.region))
        × (is_operating (logged_item client.id back plan.txn (Some op) w.served.state (touched x.region)).0 ≡ true)
    item_open false = (refl, refl)
    item_open true = (refl, refl)

    item_is : item ≡ logged_item client.id (is_back plan) plan.txn (Some op) w.served.state (touched x.region)
    item_is = ap (λ z. logged_item client.id (is_back plan) plan.txn z w.served.state (touched x.region)) hand.is_open

    counts : op_region x.number (by_three b.count client.id x.number, item) ≡ Some (touched x.region)
    counts =
        counted x.number (by_three b.count client.id x.number) item (touched x.region) (signs_three (client_note b.count client.id) x.number)
        (ap (λ (i : Item). is_operating i.0) item_is ∙ (item_open (is_back plan)).1) (ap (λ (i : Item). region_on i.1) item_is ∙ (item_open (is_back plan)).0)

    leaves : (c : CoreState) → slice_get c.regions x.number ≡ Some x.region → slice_get (effect_on c item.1).regions x.number ≡ Some (touched x.region)
    leaves c at = ap (λ (i : Item). slice_get (effect_on c i.1).regions x.number) item_is ∙ by_way (is_back plan)
      where
        here : slice_get (slice_set c.regions op.block.region (touched x.region)) x.number ≡ Some (touched x.region)
        here = subst (λ r. slice_get (slice_set c.regions op.block.region (touched x.region)) r ≡ Some (touched x.region)) hand.here (get_set c.regions op.block.region x.region (touched x.region) (ap (slice_get c.regions) hand.here ∙ at))

        by_way : (back : Bool) → slice_get (effect_on c (logged_item client.id back plan.txn (Some op) w.served.state (touched x.region)).1).regions x.number ≡ Some (touched x.region)
        by_way false = here
        by_way true = here

    pub kept_logged : RegionKept b t k (record { number = x.number; steps = x.steps + 1; audits = x.audits; region = touched x.region; seen = new })
    kept_logged =
        subst (λ T. RegionKept b t k (record { number = x.number; steps = x.steps + 1; audits = x.audits; region = touched x.region; seen = T })) (sym added.2)
        (kept_behind b t k (x.steps + 1) x.audits x (touched x.region) added.0 (by_three b.count client.id x.number, item) kept added.1.1.1.0 (subst (AllMay (may_add b)) added.2 behind)
        (signs_three (client_note b.count client.id) x.number) leaves
        (operation_next x.number x.steps x.region (touched x.region) x.seen added.0 (by_three b.count client.id x.number, item) kept.operation added.1.1.1.0 counts)
        (passes_stay x.number x.audits added.0 (by_three b.count client.id x.number, item) other (passes_meet x.number x.audits x.seen added.0 added.1.1.1.0 kept.passed)))
      where
        no_pass : (back : Bool) (n : ℕ) (right : Bool) → (logged_item client.id back plan.txn (Some op) w.served.state (touched x.region)).0 ≡ Passed x.number n right → ⊥
        no_pass false n right e = cc
        no_pass true n right e = cc

        other : (n : ℕ) (right : Bool) → item.0 ≡ Passed x.number n right → ⊥
        other n right e = no_pass (is_back plan) n right (sym (ap (λ (i : Item). i.0) item_is) ∙ e)

-- ---- a transaction that its client acts for is live, by the system in hand
pub lives_there : (b : Begun) (client : ClientSight) (w : SystemSight) (t : ℕ) (now : History) → Led b w.seen → Of b (λ o T. SystemTold o w.served.state T) w.seen → Knows b (Acts client.id t) client
    → IsSeen now system_note w.seen → IsSeen now (client_note b.count client.id) client.seen → AllMay (may_add b) now
    → FromEach b (λ s p. state_of w.served.state t ≡ Some Live)
lives_there b client w t now led system knows theirs mine all s p each =
    let from = led_on b w.seen now led all s p each in
    let acts = acts_stay (bases_of s) p (outset b s p) client.id t client.seen now from.led (subst (λ n. IsSeen now (client_note n client.id) client.seen) (sym from.count) mine) (knows s p each) in
    ap (λ y. state_of y t) (system_meets (bases_of s) p (outset b s p) w.seen now w.served.state theirs from.led.all (system s p each)) ∙ (states_are_told (bases_of s) p (outset b s p) now t from.led ∙ acts.lives)

pub live_is : (q : Option State) → is_live q ≡ true → q ≡ Some Live
live_is (Some Live) e = refl
live_is (Some Committed) e = absurd (cc)
live_is (Some (Dead latched)) e = absurd (cc)
live_is (Some (Cleaning latched)) e = absurd (cc)
live_is None e = absurd (cc)

-- its note has met others
pub system_told_on : (b : Begun) (w : SystemSight) (now : History) → Led b w.seen → Of b (λ o T. SystemTold o w.served.state T) w.seen → IsSeen now system_note w.seen → AllMay (may_add b) now
    → Of b (λ o T. SystemTold o w.served.state T) now
system_told_on b w now led system theirs all s p each =
    system_meets (bases_of s) p (outset b s p) w.seen now w.served.state theirs (led_on b w.seen now led all s p each).led.all (system s p each)

-- ---- why the system refuses
module _ (op : Option Operation) (back : Bool) (t : ℕ) (y z : SystemState) (same : y ≡ z) (r : Result Receipt SystemError) where
  abbrev why : SystemState → Operation → Option SystemError
  why u o = commit_refusal back u (record_length (Forward t o.block))

  pub refused_in : IfSome op (λ o. IfSome (why y o) (λ e. r ≡ Err e)) → IfSome op (λ o. IfSome (why z o) (λ e. r ≡ Err e))
  refused_in h = subst (λ u. IfSome op (λ o. IfSome (why u o) (λ e. r ≡ Err e))) same h

  pub memory_in : IfSome op (λ o. why y o ≡ None → IfErr r (λ e. e ≡ Memory)) → IfSome op (λ o. why z o ≡ None → IfErr r (λ e. e ≡ Memory))
  memory_in h = subst (λ u. IfSome op (λ o. why u o ≡ None → IfErr r (λ e. e ≡ Memory))) same h

pub ok_unrefused : (op : Option Operation) (why : Operation → Option SystemError) (x : Receipt)
    → IfSome op (λ o. IfSome (why o) (λ e. ◌≡◌ {A = Result Receipt SystemError} (Ok x) (Err e))) → IfSome op (λ o. IfSome (why o) (λ e. ◌≡◌ {A = Result Receipt LockedError} (Ok x) (Err (BySystem e))))
ok_unrefused None why x h = tt
ok_unrefused (Some o) why x h = of (why o) h
  where
    of : (q : Option SystemError) → IfSome q (λ e. ◌≡◌ {A = Result Receipt SystemError} (Ok x) (Err e)) → IfSome q (λ e. ◌≡◌ {A = Result Receipt LockedError} (Ok x) (Err (BySystem e)))
    of None h = tt
    of (Some e) h = absurd (cc)

pub err_refused : (op : Option Operation) (why : Operation → Option SystemError) (x : SystemError)
    → IfSome op (λ o. IfSome (why o) (λ e. ◌≡◌ {A = Result Receipt SystemError} (Err x) (Err e))) → IfSome op (λ o. IfSome (why o) (λ e. ◌≡◌ {A = Result Receipt LockedError} (Err (BySystem x)) (Err (BySystem e))))
err_refused None why x h = tt
err_refused (Some o) why x h = of (why o) h
  where
    of : (q : Option SystemError) → IfSome q (λ e. ◌≡◌ {A = Result Receipt SystemError} (Err x) (Err e)) → IfSome q (λ e. ◌≡◌ {A = Result Receipt LockedError} (Err (BySystem x)) (Err (BySystem e)))
    of None h = tt
    of (Some e) h = let same : x ≡ e = cc in ap (λ z. Err (BySystem z)) same
