-- The plan's operation is logged, under the locks of its region and of the system.
use Rattle.std.proofs.Common.{◌≡◌, ◌≢◌, ℕ, zero, suc, ◌+◌, ◌<◌, Bool, true, false, not, List, [], ◌∷◌, ◌++◌, length, Option, Some, None, refl, ap, sym, subst, ◌∙◌, arith}
use Rattle.std.specs.Prelude.{slice_get, slice_set, fold, filter_map, ◌==◌, ◌&&◌, if◌then◌else◌}
use Rattle.std.specs.List.{cons_option}
use Rattle.std.proofs.lemmas.List.{append-nil, append_assoc, length-set}
use Rattle.std.proofs.lemmas.List.Elements.{filter_map-append}
use Rattle.std.proofs.lemmas.List.Sums.{fold-append}
use Rattle.std.proofs.lemmas.Option.{slice_get_within}
use Rattle.std.proofs.lemmas.Bool.{eqb-true}
use Rattle.dali_lists.proofs.Lists.{get_set, get_behind}
use Rattle.dali_lists.proofs.Numbers.{eqb-self}
use Rattle.dali_lists.proofs.Tests.{not_both_ways}
use Rattle.dali_runs.proofs.CountsLemmas.Lists.{some_same}
use Rattle.dali_runs.proofs.CountsLemmas.Tallies.{tallies}
use Rattle.dali_geometry.specs.Places.{regions}
use Rattle.dali_record.specs.declared.operations.Block.{Block}
use Rattle.dali_record.specs.declared.records.Record.{Record}
use Rattle.dali_record.specs.declared.records.Record.TheVariants.{Forward, Back}
use Rattle.dali_region.specs.declared.Hold.{Hold}
use Rattle.dali_region.specs.State.{RegionState, touched}
use Rattle.std.specs.FinMap.{get}
use Rattle.std.specs.Option.{option_map}
use Rattle.dali_record.specs.declared.operations.Undo.{Undo}
use Rattle.dali_att.specs.Table.{with_undo, without_last}
use Rattle.dali_att.specs.declared.state.State.{State}
use Rattle.dali_att.specs.declared.state.State.TheVariants.{Live}
use Rattle.dali_runs.specs.State.{SystemState, CoreState, TxnRow, state_in, state_of, hold_of}
use Rattle.dali_runs.specs.Steps.{op_logged, back_logged, undo_kept, audit_record}
use Rattle.dali_runs.specs.Run.{Bases, RunsOn}
use Rattle.dali_runs.specs.Keeps.{HasRoom, MayLogBlock, IsFree}
use Rattle.dali_runs.specs.Regions.{IsOpen}
use Rattle.dali_runs.specs.Courses.{Step, Operates, TakesBack}
use Rattle.dali_runs.specs.Parts.Systems.{MayLogHeld}
use Rattle.dali_system.specs.declared.operation.Operation.{Operation}
use Rattle.dali_calls.specs.Steps.{call_key, region_in, IsBlockOf}
use Rattle.dali_calls.specs.Plans.{Planned, is_back, plan_next, went_back, GoesOn, IsOfPlan, IsWhole}
use Rattle.dali_calls.specs.Followed.{Follows as FollowsLog, HoldsCall, IsReady}
use Rattle.dali_calls.specs.Single.Stands.{AtPlan, IsAtRest}
use Rattle.dali_calls.proofs.Stepping.{onward_is_step, back_is_step}
use Rattle.dali_calls.proofs.Following.{onward_follows, back_follows}
use Rattle.dali_calls.proofs.Rows.{row_here}
use Rattle.dali_calls.proofs.Operating.{held_of}
use Rattle.dali_crash.specs.Checkpoints.{StoreStep, Does, Point}
use Rattle.dali_transcripts.specs.World.{Deed, Logs, Happening, logged_by, record_of, state_step}
use Rattle.dali_notes.specs.History.{IsSeen, signs}
use Rattle.dali_concurrent.specs.Entries.{Did, Entry, Entries, system_note, region_note, client_note, notes_of, deed_in, deeds_of, live_by, live_step, actor_by, actor_step}
use Rattle.dali_concurrent.specs.Rules.{Outset, before, count_of, log_by, state_by, live_in, dead_in, dead_by, dead_step, LookFits, DeedFits}
use Rattle.dali_concurrent.specs.Told.{Effect, OnBoth, Item, Line, History, plain, plain_one, core_told}
use Rattle.dali_concurrent.specs.Landing.{Lands}
use Rattle.dali_concurrent.specs.Kept.{is_silent, StepsFit, WritesFit, txn_in, HoldIs, RegionTold, Follows, SystemTold}
use Rattle.dali_concurrent.specs.Holds.{IsLed}
use Rattle.dali_concurrent.proofs.Told.{plain-append, told_push, lengths}
use Rattle.dali_concurrent.proofs.Cases.{operates_land, takes_back_land, look_is_made}
use Rattle.dali_concurrent.proofs.Kept.{fit_of}
use Rattle.dali_concurrent.proofs.Holds.{states_are_told, runs_there, told_live, told_dead}
use Rattle.dali_locked.specs.Sights.{Acts, HasLogged}
use Rattle.dali_locked.specs.SystemSteps.{Driving}
use Rattle.dali_locked.specs.Regions.{IsAmid, forward_item, back_item}
use Rattle.dali_locked.proofs.RegionSigns.{signs_three, signs_one_of_three, signs_system}
use Rattle.dali_locked.proofs.RegionLines.{hold_next}
use Rattle.dali_locked.proofs.RegionMay.{own_hold}
use Rattle.dali_locked.proofs.RegionAmid.{free_of}
use Rattle.dali_locked.proofs.Adding.{one_silent}

-- ---- a line of a client, the system and a region follows

no_verdict_forward : (t : ℕ) (bl : Block) (b : ℕ) (found : List ℕ) → Logs (Forward t bl) ≡ Logs (audit_record b found) → ⊥
no_verdict_forward t bl b [] e = cc
no_verdict_forward t bl b (q ∷ found) e = cc

pub no_verdict_back : (t : ℕ) (bl : Block) (b : ℕ) (found : List ℕ) → Logs (Back t bl) ≡ Logs (audit_record b found) → ⊥
no_verdict_back t bl b [] e = cc
no_verdict_back t bl b (q ∷ found) e = cc

abbrev pub by_three : ℕ → ℕ → ℕ → List ℕ
by_three n c r = client_note n c ∷ system_note ∷ region_note r ∷ []

module _ (bases : Bases) (p : Point) (o : Outset) (T : History) (c r : ℕ) (g : RegionState) (z : SystemState) (x : Step) (d : Deed) where
  abbrev both_line : Line
  both_line = (by_three (count_of o) c r, (Did d c, OnBoth r (touched g) z, Does x ∷ []))

  pub both_follows : slice_get (core_told o T).regions r ≡ Some g
      → ((k : ℕ) → signs k (notes_of (count_of o) (Did d c)) ≡ true → signs k (by_three (count_of o) c r) ≡ true)
      → DeedFits o (plain T) d c → Lands bases p o T both_line → is_silent (Does x) ≡ true → StepsFit (Did d c) (Does x ∷ []) → WritesFit (Did d c) (Does x ∷ [])
      → live_step r (live_by r (plain T)) (by_three (count_of o) c r, Did d c) ≡ None → dead_step r (dead_by o r (plain T)) (by_three (count_of o) c r, Did d c) ≡ None
      → Follows bases p o T both_line
  both_follows there by fits lands silent steps writes live dead = record {
    fits = record { by = by; fits = fits };
    effect = (signs_three (client_note (count_of o) c) r, signs_system (client_note (count_of o) c) r);
    lands = lands;
    silent = λ none. one_silent (Does x) silent;
    steps = steps;
    writes = writes;
    holds = λ q k low signed at.
        let here : r ≡ q = signs_one_of_three (count_of o) c r q low signed in
        let now : touched g ≡ k = some_same (sym behind ∙ (ap (λ n. slice_get (core_told o (T ++ both_line ∷ [])).regions n) here ∙ at)) in
        subst (λ n. HoldIs o n k (plain (T ++ both_line ∷ []))) here (subst (λ h. HoldIs o r h (plain (T ++ both_line ∷ []))) now
        (subst (HoldIs o r (touched g)) (sym (plain-append T (both_line ∷ []))) (hold_next o r (touched g) (plain T) (plain_one both_line) (ap txn_in (sym live)) (sym dead))));
    checks = λ some. absurd (cc);
  }
    where
      behind : slice_get (core_told o (T ++ both_line ∷ [])).regions r ≡ Some (touched g)
      behind = ap (λ (d : CoreState). slice_get d.regions r) (told_push o T both_line) ∙ get_set (core_told o T).regions r g (touched g) there

-- ---- the row of the transaction
state_kept : (y : SystemState) (t : ℕ) (b : Block) → state_of (op_logged y t b) t ≡ state_of y t
state_kept y t b = kept b.undo
  where
    kept : (u : Option Undo) → state_in (get (undo_kept y.table t b u) t) ≡ state_in (get y.table t)
    kept None = refl
    kept (Some u) = ap state_in (row_here y.table t (with_undo (record { key = b.key; region = b.region; undo = u }))) ∙ same (get y.table t)
      where
        same : (row : Option TxnRow) → state_in (option_map (with_undo (record { key = b.key; region = b.region; undo = u })) row) ≡ state_in row
        same None = refl
        same (Some r) = refl

pub state_popped : (y : SystemState) (t : ℕ) (b : Block) → state_of (back_logged y t b) t ≡ state_of y t
state_popped y t b = ap state_in (row_here y.table t without_last) ∙ same (get y.table t)
  where
    same : (row : Option TxnRow) → state_in (option_map without_last row) ≡ state_in row
    same None = refl
    same (Some r) = refl

-- ---- the block in hand may be logged
pub may_held_there :
    (bases : Bases) (p : Point) (o : Outset) (now : History) (led : IsLed bases p o now) (b : Block) (g : RegionState) (told : RegionTold o b.region g now) (y : SystemState) (is_y : y ≡ (core_told o now).system) (t : ℕ)
    → IsOpen g t b → (x : Record) (k : RegionState) → MayLogBlock (log_by o (plain now)) (core_told o now) x t b k → MayLogHeld (log_by o (plain now)) y x t b g
may_held_there bases p o now led b g told y is_y t is_open x k may =
    let run = runs_there bases p o now led in
    subst (λ (z : SystemState). MayLogHeld (log_by o (plain now)) z x t b g) (sym is_y) (record {
      runs = may.runs;
      spelled = may.spelled;
      next = may.next;
      by = may.by;
      kind = may.kind;
      locked = may.locked;
      hand = record {
        within = let low = slice_get_within (core_told o now).regions b.region g told.is in omega (arith, low, run.whole);
        protected = (run.regions b.region g told.is).protected;
        reads = (run.regions b.region g told.is).reads;
        is_open = is_open;
      };
    })

pub record_number : (bases : Bases) (p : Point) (o : Outset) (now : History) → IsLed bases p o now → (y : SystemState) → y ≡ (core_told o now).system → y.records ≡ length (log_by o (plain now))
record_number bases p o now led y is_y =
    let run = runs_there bases p o now led in
    ap (λ (z : SystemState). z.records) is_y ∙ (run.counts.records ∙ (tallies (core_told o now).system.sizes (log_by o (plain now)) run.counts.now run.counts.rules).0)

pub log_more : (o : Outset) (now : History) (ks : List ℕ) (c : ℕ) (R : Record) (f : Effect) (xs : List StoreStep) → log_by o (plain (now ++ (ks, (Did (Logs R) c, f, xs)) ∷ [])) ≡ log_by o (plain now) ++ R ∷ []
log_more o now ks c R f xs =
    ap (log_by o) (plain-append now ((ks, (Did (Logs R) c, f, xs)) ∷ []))
    ∙ (ap (λ ds. before o ++ logged_by ds) (filter_map-append deed_in (plain now) ((ks, Did (Logs R) c) ∷ []))
    ∙ (ap (λ l. before o ++ l) (filter_map-append record_of (deeds_of (plain now)) (deeds_of ((ks, Did (Logs R) c) ∷ []))) ∙ sym (append_assoc (before o) (logged_by (deeds_of (plain now))) (R ∷ []))))

-- ---- the operation of a plan, in hand
module _ (bases : Bases) (p : Point) (o : Outset) (c : ℕ) (plan : Planned) (op : Operation) (g : RegionState) (y : SystemState) (now : History) (led : IsLed bases p o now)
    (told : RegionTold o op.block.region g now) (is_y : y ≡ (core_told o now).system) (amid : IsAmid c op.block.region plan o now) (whole : IsWhole plan) (is_open : plan.operation ≡ Some op)
    (written : IsOpen g op.txn op.block) where
  abbrev t : ℕ
  t = plan.txn

  abbrev b : Block
  b = op.block

  abbrev core : CoreState
  core = core_told o now

  own : (op.txn ≡ plan.txn) × IsBlockOf (plan_next plan) (call_key plan.call) op.block
  own = subst (IsOfPlan plan) is_open whole.operation

  lives : state_of core.system t ≡ Some Live
  lives = states_are_told bases p o now t led ∙ amid.acts.lives

  ready : IsReady core plan op g
  ready = record { sizes = amid.sizes; whole = whole; lives = lives; holds = amid.holds; is_open = is_open; at = told.is; written = written }

  held : live_by b.region (plain now) ≡ Some (t, c)
  held = own_hold bases p o c t b.region g now led told amid.acts.actor (ap live_in written.hold ∙ ap Some own.0)

  may_held : (x : Record) (k : RegionState) → MayLogBlock (log_by o (plain now)) core x t b k → MayLogHeld (log_by o (plain now)) y x t b g
  may_held x k may = may_held_there bases p o now led b g told y is_y t (subst (λ n. IsOpen g n b) own.0 written) x k may

  -- onward
  forward_fits : is_back plan ≡ false → DeedFits o (plain now) (Logs (Forward t b)) c
  forward_fits onward = record {
    txn = tt;
    acts = λ u e. subst (λ n. actor_by n (plain now) ≡ Some c) (some_same e) amid.acts.actor;
    audited = λ n found e. absurd (no_verdict_forward t b n found e);
    looked = λ q e. subst (LookFits o (plain now) c) (eqb-true b.region q e) (amid.look onward);
    held = held;
  }

  pub forward_follows : (q : Planned) → is_back plan ≡ false → HasRoom y (Forward t b) → GoesOn plan b q
      → Follows bases p o now (by_three (count_of o) c b.region, forward_item c t b (op_logged y t b) (touched g))
  forward_follows q onward room goes =
      let fits = forward_fits onward in
      let step = onward_is_step (log_by o (plain now)) core plan op g ready amid.follows onward (subst (λ (z : SystemState). HasRoom z (Forward t b)) is_y room) q goes in
      both_follows bases p o now c b.region g (op_logged y t b) (Operates t b) (Logs (Forward t b)) told.is (λ k h. h) fits
      (operates_land bases p o now (by_three (count_of o) c b.region) c t b y g is_y told.is room (may_held (Forward t b) step.0 step.2) (look_is_made o now c (Logs (Forward t b)) (fit_of bases p o now led.all) fits))
      refl refl (ap (λ n. n && true) (eqb-self b.region)) (ap (λ n. if n then None else live_by b.region (plain now)) (eqb-self b.region)) (ap (λ n. if n then None else dead_by o b.region (plain now)) (eqb-self b.region))

  -- on its way back
  back_fits : DeedFits o (plain now) (Logs (Back t b)) c
  back_fits = record {
    txn = tt;
    acts = λ u e. subst (λ n. actor_by n (plain now) ≡ Some c) (some_same e) amid.acts.actor;
    audited = λ n found e. absurd (no_verdict_back t b n found e);
    looked = λ q e. absurd (cc);
    held = held;
  }

  pub back_item_follows : is_back plan ≡ true → y.stop ≡ None → Follows bases p o now (by_three (count_of o) c b.region, back_item c t b (back_logged y t b) (touched g))
  back_item_follows way runs =
      let step = back_is_step (log_by o (plain now)) core plan op g ready amid.follows way (ap (λ (z : SystemState). z.stop) (sym is_y) ∙ runs) in
      both_follows bases p o now c b.region g (back_logged y t b) (TakesBack t b) (Logs (Back t b)) told.is (λ k h. h) back_fits
      (takes_back_land bases p o now (by_three (count_of o) c b.region) c t b y g is_y told.is (may_held (Back t b) step.0 step.1))
      refl refl (ap (λ n. n && true) (eqb-self b.region)) (ap (λ n. if n then None else live_by b.region (plain now)) (eqb-self b.region)) (ap (λ n. if n then None else dead_by o b.region (plain now)) (eqb-self b.region))

  -- ---- behind it
  module _ (R : Record) (z : SystemState) (q : Planned) (steps : List StoreStep) where
    abbrev line : Line
    line = (by_three (count_of o) c b.region, (Did (Logs R) c, OnBoth b.region (touched g) z, steps))

    abbrev new : History
    new = now ++ line ∷ []

    push : plain new ≡ plain now ++ plain_one line ∷ []
    push = plain-append now (line ∷ [])

    log_is : log_by o (plain new) ≡ log_by o (plain now) ++ R ∷ []
    log_is = log_more o now (by_three (count_of o) c b.region) c R (OnBoth b.region (touched g) z) steps

    pub logged_there : HasLogged y.records R o new
    logged_there = ap (λ l. slice_get l y.records) log_is ∙ (ap (slice_get (log_by o (plain now) ++ R ∷ [])) (record_number bases p o now led y is_y) ∙ get_behind (log_by o (plain now)) R [])

    core_is : core_told o new ≡ record { regions = slice_set core.regions b.region (touched g); system = z; vault = core.vault }
    core_is = told_push o now line

    free_there : IsFree (core_told o new) t
    free_there q h at = free_of bases p o b.region t g (touched g) now led told amid.only amid.none refl q h (ap (λ (k : CoreState). hold_of k q) (sym core_is) ∙ at)

    pub plan_behind : q.txn ≡ t → z.sizes ≡ y.sizes → state_of z t ≡ state_of y t → HoldsCall z q → q.geometry ≡ plan.geometry → q.operation ≡ None
        → ((a : Option ℕ) → actor_step t a (plain_one line) ≡ a) → ((s : Option State) → state_step t s (Logs R, c) ≡ s)
        → FollowsLog core.system.sizes (log_by o (plain now) ++ R ∷ []) q
        → Driving c q o new
    plan_behind txn sizes state holds geometry closed actor stays follows = record {
      acts = record {
        actor = ap (λ n. actor_by n (plain new)) txn ∙ (ap (actor_by t) push ∙ (fold-append (actor_step t) None (plain now) (plain_one line ∷ []) ∙ (actor (actor_by t (plain now)) ∙ amid.acts.actor)));
        lives = ap (λ n. state_by o (plain new) n) txn
            ∙ (ap (λ P. state_by o P t) push
            ∙ (ap (fold (state_step t) (state_of o.old.system t)) (filter_map-append deed_in (plain now) (plain_one line ∷ []))
            ∙ (fold-append (state_step t) (state_of o.old.system t) (deeds_of (plain now)) ((Logs R, c) ∷ []) ∙ (stays (state_by o (plain now) t) ∙ amid.acts.lives))));
      };
      rest = record {
        sizes = geometry ∙ (amid.sizes ∙ sizes_are);
        whole = ap (λ (k : CoreState). length k.regions) core_is ∙ (length-set core.regions b.region (touched g) ∙ ((runs_there bases p o now led).whole ∙ ap regions sizes_are));
        lives = ap (λ n. state_of (core_told o new).system n) txn ∙ (ap (λ (k : CoreState). state_of k.system t) core_is ∙ (state ∙ (ap (λ k. state_of k t) is_y ∙ lives)));
        closed = closed;
      };
      at = record {
        follows = subst (λ s. FollowsLog s (log_by o (plain new)) q) sizes_are (subst (λ L. FollowsLog core.system.sizes L q) (sym log_is) follows);
        holds = subst (λ (k : CoreState). HoldsCall k.system q) (sym core_is) holds;
        free = subst (IsFree (core_told o new)) (sym txn) free_there;
      };
    }
      where
        sizes_are : core.system.sizes ≡ (core_told o new).system.sizes
        sizes_are = ap (λ (k : SystemState). k.sizes) (sym is_y) ∙ (sym sizes ∙ ap (λ (k : CoreState). k.system.sizes) (sym core_is))

  pub onward_behind : (q : Planned) → is_back plan ≡ false → GoesOn plan b q → Driving c q o (now ++ (by_three (count_of o) c b.region, forward_item c t b (op_logged y t b) (touched g)) ∷ [])
  onward_behind q onward goes =
      plan_behind (Forward t b) (op_logged y t b) q (Does (Operates t b) ∷ []) (ap (λ (k : Planned). k.txn) goes.rest) refl (state_kept y t b) (subst (HoldsCall (op_logged y t b)) (sym goes.rest) (subst (λ k. HoldsCall k plan) (sym is_y) amid.holds))
      (ap (λ (k : Planned). k.geometry) goes.rest) (ap (λ (k : Planned). k.operation) goes.rest) (λ a. refl) (λ s. refl)
      (onward_follows core.system.sizes (log_by o (plain now)) plan q b amid.sizes whole amid.follows onward own.1 goes)

  pub back_behind : is_back plan ≡ true → Driving c (went_back plan) o (now ++ (by_three (count_of o) c b.region, back_item c t b (back_logged y t b) (touched g)) ∷ [])
  back_behind way =
      plan_behind (Back t b) (back_logged y t b) (went_back plan) (Does (TakesBack t b) ∷ []) refl refl (state_popped y t b) (subst (λ k. HoldsCall k plan) (sym is_y) amid.holds)
      refl refl (λ a. refl) (λ s. refl)
      (back_follows core.system.sizes (log_by o (plain now)) plan b amid.sizes whole amid.follows way own.1)
