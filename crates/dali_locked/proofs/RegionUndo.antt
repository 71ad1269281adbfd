-- The operation that performs an undo: its block, and how it is logged.
use Rattle.std.proofs.Common.{◌≡◌, ℕ, ◌<◌, ◌^◌, Bool, true, false, List, [], ◌∷◌, ◌++◌, length, Option, Some, None, IsSomeAnd, refl, ap, sym, subst, ◌∙◌}
use Rattle.std.specs.Prelude.{slice_get, slice_set, ◌==◌, ◌&&◌, if◌then◌else◌, nat_lt}
use Rattle.std.specs.FinMap.{get}
use Rattle.std.specs.Option.{option_map_or}
use Rattle.dali_lists.proofs.Lists.{get_behind}
use Rattle.dali_lists.proofs.Numbers.{eqb-self}
use Rattle.dali_runs.proofs.CountsLemmas.Lists.{some_same}
use Rattle.dali_geometry.specs.Sizes.{Sizes}
use Rattle.dali_record.specs.declared.operations.Block.{Block}
use Rattle.dali_record.specs.declared.operations.Pending.{Pending}
use Rattle.dali_record.specs.declared.records.Record.{Record}
use Rattle.dali_record.specs.declared.records.Record.TheVariants.{Back}
use Rattle.dali_record.specs.Spelling.{Is64}
use Rattle.dali_record.specs.Legal.{Working, Active, txn_state}
use Rattle.dali_record.specs.Log.{last_of, drop_last}
use Rattle.dali_region.specs.State.{RegionState, touched}
use Rattle.dali_att.specs.declared.state.State.{State}
use Rattle.dali_att.specs.declared.state.State.TheVariants.{Live, Dead, Cleaning, Committed}
use Rattle.dali_att.specs.Table.{Table, undos_at, last_of as table_last}
use Rattle.dali_runs.specs.State.{SystemState, CoreState, TxnRow, state_of}
use Rattle.dali_runs.specs.Steps.{back_logged}
use Rattle.dali_runs.specs.Run.{Bases, RunsOn, IsRow}
use Rattle.dali_runs.specs.Keeps.{may_log_in}
use Rattle.dali_runs.specs.Regions.{is_alive, IsOpen}
use Rattle.dali_runs.specs.Courses.{TakesBack}
use Rattle.dali_runs.specs.Facts.Plans.{AtWork}
use Rattle.dali_runs.specs.Facts.Undos.{MayBePerformed}
use Rattle.dali_runs.proofs.FactsLemmas.Undos.{undos_may_be_performed}
use Rattle.dali_runs.proofs.Tables.{last_same}
use Rattle.dali_system.specs.declared.operation.Operation.{Operation}
use Rattle.dali_system.specs.declared.take_back.TakeBack.{TakeBack}
use Rattle.dali_system.specs.TakenBack.{next_undo, IsMadeOf, IsUndoBlock}
use Rattle.dali_calls.specs.TakingBack.{IsTakenBackBy}
use Rattle.dali_calls.proofs.TakingBack.{taking_back_is_step}
use Rattle.dali_calls.proofs.Following.{last_all}
use Rattle.dali_crash.specs.Checkpoints.{Does, Point}
use Rattle.dali_crash.specs.Traces.{Start, bases_of}
use Rattle.dali_transcripts.specs.World.{Logs}
use Rattle.dali_concurrent.specs.Entries.{Did, live_by, actor_by}
use Rattle.dali_concurrent.specs.Rules.{Outset, count_of, log_by, state_by, live_in, dead_by, DeedFits}
use Rattle.dali_concurrent.specs.Told.{OnBoth, Item, History, plain, core_told}
use Rattle.dali_concurrent.specs.Kept.{RegionTold}
use Rattle.dali_concurrent.specs.Holds.{IsLed}
use Rattle.dali_concurrent.proofs.Told.{told_push}
use Rattle.dali_concurrent.proofs.Holds.{states_are_told, runs_there}
use Rattle.dali_concurrent.proofs.Cases.{takes_back_land}
use Rattle.dali_concurrent.proofs.Own.{sizes_told}
use Rattle.dali_locked.specs.Begun.{Begun, outset}
use Rattle.dali_locked.specs.Sights.{ClientSight, SystemSight, RegionSight}
use Rattle.dali_locked.specs.Regions.{back_item, logged_item}
use Rattle.dali_locked.specs.Undoing.{can_undo, HasUndos, IsUndoing}
use Rattle.dali_locked.proofs.RegionMay.{own_hold}
use Rattle.dali_locked.proofs.RegionCommit.{by_three, both_follows, no_verdict_back, may_held_there, record_number, log_more}
use Rattle.dali_locked.proofs.Standing.{logged_stands}
use Rattle.dali_locked.proofs.OwnOperation.{InHand}
use Rattle.dali_locked.proofs.StandingLogged.{told_item, IsLoggedThere}

pub alive_of : (q : Option State) → can_undo q ≡ true → is_alive q ≡ true
alive_of (Some Live) e = refl
alive_of (Some (Cleaning latched)) e = refl
alive_of (Some (Dead latched)) e = absurd (cc)
alive_of (Some Committed) e = absurd (cc)
alive_of None e = absurd (cc)

may_back : (q : Option State) (t : ℕ) (b : Block) → can_undo q ≡ true → may_log_in q (Back t b) ≡ true
may_back (Some Live) t b e = refl
may_back (Some (Cleaning latched)) t b e = refl
may_back (Some (Dead latched)) t b e = absurd (cc)
may_back (Some Committed) t b e = absurd (cc)
may_back None t b e = absurd (cc)

-- ---- its block
pub undo_few : (next : Option Pending) (b : Block) → IsUndoBlock next b → b.read < 2 ^ 64
undo_few None b made = absurd made
undo_few (Some u) b made = made.spelled.read

pub undo_here : (next : Option Pending) (b : Block) (r : ℕ) → IsUndoBlock next b → IsSomeAnd next (λ u. u.region ≡ r) → b.region ≡ r
undo_here None b r made here = absurd made
undo_here (Some u) b r made here = ap (λ (z : Block). z.region) made.made_on ∙ here

pub undo_of : (next : Option Pending) (b : Block) → IsUndoBlock next b → (u : Pending) × (next ≡ Some u) × IsMadeOf u b
undo_of None b made = absurd made
undo_of (Some u) b made = (u, refl, made)

-- ---- its record
next_is_last : (us : List Pending) (n : ℕ) (u : Pending) → next_undo us n ≡ Some u → last_of us ≡ Some u
next_is_last us n u e = by_test (nat_lt n (length us)) e
  where
    by_test : (b : Bool) → (if b then table_last us else None) ≡ Some u → last_of us ≡ Some u
    by_test true f = sym (last_same us) ∙ f
    by_test false f = absurd (cc)

-- the undos of the row are those that the rules keep
pub undos_are : (s : Sizes) (L : List Record) (t : ℕ) (w : Working) (table : Table Pending) → AtWork s L t w → IsRow (txn_state s t L) (get table t) → undos_at table t ≡ w.undos
undos_are s L t w table at row = let is = subst (λ q. IsRow q (get table t)) at row in ap (λ (q : Option TxnRow). option_map_or (λ (k : TxnRow). k.undos) q []) is.2

module _ (bases : Bases) (p : Point) (o : Outset) (c : ℕ) (tb : TakeBack) (op : Operation) (u : Pending) (g : RegionState) (y : SystemState) (now : History) (led : IsLed bases p o now)
    (told : RegionTold o op.block.region g now) (is_y : y ≡ (core_told o now).system) (at : IsUndoing c op.block.region tb o now) (fits : Is64 tb.txn) (is_next : tb.next ≡ Some u)
    (own : op.txn ≡ tb.txn) (made : IsMadeOf u op.block) (written : IsOpen g op.txn op.block) (runs : y.stop ≡ None) where
  abbrev t : ℕ
  t = tb.txn

  abbrev b : Block
  b = op.block

  abbrev core : CoreState
  core = core_told o now

  stood : HasUndos tb.next tb.down_to (state_by o (plain now) t) (txn_state o.old.system.sizes t (log_by o (plain now)))
  stood = at.stands.at

  at_work : AtWork core.system.sizes (log_by o (plain now)) t stood.working
  at_work = subst (λ s. AtWork s (log_by o (plain now)) t stood.working) (sym (sizes_told bases p o now led)) stood.at_work

  is_open : IsOpen g t b
  is_open = subst (λ n. IsOpen g n b) own written

  last : last_of stood.working.undos ≡ Some u
  last = next_is_last stood.working.undos tb.down_to u (sym stood.next ∙ is_next)

  row : undos_at core.system.table t ≡ stood.working.undos
  row = undos_are core.system.sizes (log_by o (plain now)) t stood.working core.system.table at_work ((runs_there bases p o now led).table t)

  may : MayBePerformed core.system t u
  may = last_all (MayBePerformed core.system t) (undos_at core.system.table t) u (undos_may_be_performed bases (log_by o (plain now)) core (runs_there bases p o now led) t) (ap last_of row ∙ last)

  step : IsTakenBackBy (log_by o (plain now)) core t stood.working b g
  step = taking_back_is_step (log_by o (plain now)) core t stood.working u b g at_work last (record {
    txn = fits;
    runs = ap (λ (z : SystemState). z.stop) (sym is_y) ∙ runs;
    by = ap (λ q. may_log_in q (Back t b)) (states_are_told bases p o now t led) ∙ may_back (state_by o (plain now) t) t b stood.able;
    holds = may.lock;
    kind = may.kind;
    made = made;
    at = subst (λ n. slice_get core.regions n ≡ Some g) (ap (λ (z : Block). z.region) made.made_on) told.is;
    written = is_open;
  })

  held : live_by b.region (plain now) ≡ Some (t, c)
  held = own_hold bases p o c t b.region g now led told at.stands.tends.actor (ap live_in is_open.hold)

  back_fits : DeedFits o (plain now) (Logs (Back t b)) c
  back_fits = record {
    txn = tt;
    acts = λ n e. subst (λ k. actor_by k (plain now) ≡ Some c) (some_same e) at.stands.tends.actor;
    audited = λ n found e. absurd (no_verdict_back t b n found e);
    looked = λ q e. absurd (cc);
    held = held;
  }

  abbrev new : History
  new = now ++ (by_three (count_of o) c b.region, back_item c t b (back_logged y t b) (touched g)) ∷ []

  log_is : log_by o (plain new) ≡ log_by o (plain now) ++ Back t b ∷ []
  log_is = log_more o now (by_three (count_of o) c b.region) c (Back t b) (OnBoth b.region (touched g) (back_logged y t b)) (Does (TakesBack t b) ∷ [])

  core_is : core_told o new ≡ record { regions = slice_set core.regions b.region (touched g); system = back_logged y t b; vault = core.vault }
  core_is = told_push o now (by_three (count_of o) c b.region, back_item c t b (back_logged y t b) (touched g))

  -- the undos that are left
  left_there : IsLed bases p o new → HasUndos (next_undo (undos_at (back_logged y t b).table t) tb.down_to) tb.down_to (state_by o (plain now) t) (txn_state o.old.system.sizes t (log_by o (plain now) ++ Back t b ∷ []))
  left_there led_new =
      let left : AtWork o.old.system.sizes (log_by o (plain now) ++ Back t b ∷ []) t step.left = subst (λ s. AtWork s (log_by o (plain now) ++ Back t b ∷ []) t step.left) (sizes_told bases p o now led) step.at_work in
      let behind : AtWork (core_told o new).system.sizes (log_by o (plain new)) t step.left =
      subst (λ s. AtWork s (log_by o (plain new)) t step.left) (sym (sizes_told bases p o new led_new)) (subst (λ L. AtWork o.old.system.sizes L t step.left) (sym log_is) left) in
      record {
        able = stood.able;
        working = step.left;
        at_work = left;
        next = ap (λ us. next_undo us tb.down_to)
            (ap (λ (k : CoreState). undos_at k.system.table t) (sym core_is) ∙ undos_are (core_told o new).system.sizes (log_by o (plain new)) t step.left (core_told o new).system.table behind ((runs_there bases p o new led_new).table t));
      }

  pub undo_is_logged : IsLoggedThere bases p o c b.region t y.records (HasUndos (next_undo (undos_at (back_logged y t b).table t) tb.down_to) tb.down_to) (Back t b) (back_item c t b (back_logged y t b) (touched g)) now
  undo_is_logged = record {
    follows =
        both_follows bases p o now c b.region g (back_logged y t b) (TakesBack t b) (Logs (Back t b)) told.is (λ k h. h) back_fits
        (takes_back_land bases p o now (by_three (count_of o) c b.region) c t b y g is_y told.is (may_held_there bases p o now led b g told y is_y t is_open (Back t b) step.step.0 step.step.1))
        refl refl (ap (λ n. n && true) (eqb-self b.region)) (ap (λ n. if n then None else live_by b.region (plain now)) (eqb-self b.region)) (ap (λ n. if n then None else dead_by o b.region (plain now)) (eqb-self b.region));
    behind = λ led_new.
        logged_stands bases p o c b.region t (HasUndos tb.next tb.down_to) (HasUndos (next_undo (undos_at (back_logged y t b).table t) tb.down_to) tb.down_to) g (touched g) (Back t b) (back_logged y t b)
        (by_three (count_of o) c b.region) (Does (TakesBack t b) ∷ []) now led told refl at refl refl (left_there led_new);
    logged = ap (λ l. slice_get l y.records) log_is ∙ (ap (slice_get (log_by o (plain now) ++ Back t b ∷ [])) (record_number bases p o now led y is_y) ∙ get_behind (log_by o (plain now)) (Back t b) []);
  }

-- ---- on a region in hand, wherever the round began
module _ (b : Begun) (client : ClientSight) (x : RegionSight) (w : SystemSight) (tb : TakeBack) (hand : InHand tb.txn (IsUndoBlock tb.next) tb.operation x.region) where
  abbrev undo_told : Item
  undo_told = told_item client.id hand.op.block.region (Back tb.txn hand.op.block) x.region (back_logged w.served.state tb.txn hand.op.block) (Does (TakesBack tb.txn hand.op.block) ∷ [])

  pub undo_item_is : logged_item client.id true tb.txn tb.operation w.served.state (touched x.region) ≡ undo_told
  undo_item_is = ap (λ z. logged_item client.id true tb.txn z w.served.state (touched x.region)) hand.is_it

  pub undo_there : Is64 tb.txn → w.served.state.stop ≡ None → (s : Start) (p : Point) → b.each s p → (now : History) → IsLed (bases_of s) p (outset b s p) now → RegionTold (outset b s p) hand.op.block.region x.region now
      → w.served.state ≡ (core_told (outset b s p) now).system → IsUndoing client.id hand.op.block.region tb (outset b s p) now
      → IsLoggedThere (bases_of s) p (outset b s p) client.id hand.op.block.region tb.txn w.served.state.records
      (HasUndos (next_undo (undos_at (back_logged w.served.state tb.txn hand.op.block).table tb.txn) tb.down_to) tb.down_to) (Back tb.txn hand.op.block) undo_told now
  undo_there fits runs s p each now led told is_y at =
      let undo = undo_of tb.next hand.op.block hand.block in
      undo_is_logged (bases_of s) p (outset b s p) client.id tb hand.op undo.0 x.region w.served.state now led told is_y at fits undo.1 hand.own undo.2 hand.written runs
