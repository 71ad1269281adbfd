-- What a client knows behind a step on a region in hand, wherever the round began.
use Rattle.std.proofs.Common.{◌≡◌, ℕ, ◌<◌, ◌^◌, Bool, true, false, not, List, [], ◌∷◌, ◌++◌, Option, Some, None, IsSome, IfSome, IsSomeAnd, refl, ap, sym, subst, ◌∙◌}
use Rattle.atomic_table.specs.Seated.{TableId}
use Rattle.dali_record.specs.declared.operations.Op.{Op}
use Rattle.dali_record.specs.Blocks.{IsSoundOn}
use Rattle.dali_region.specs.State.{RegionState, latched, with_reads}
use Rattle.dali_system.specs.declared.operation.Operation.{Operation}
use Rattle.dali_system.specs.UnderWay.{IsUnderWay, OneIsUnderWay, IsUpdated, WritesNext, all_written}
use Rattle.dali_calls.specs.Steps.{call_key, IsBlockOf}
use Rattle.dali_calls.specs.Plans.{Planned, plan_next, is_back, with_operation, IsOfPlan, IsWhole}
use Rattle.dali_crash.specs.Checkpoints.{Point}
use Rattle.dali_crash.specs.Traces.{Start, bases_of}
use Rattle.dali_notes.specs.History.{IsSeen, AllMay, Added, signed_by}
use Rattle.dali_concurrent.specs.Entries.{region_note, client_note}
use Rattle.dali_concurrent.specs.Rules.{count_of, live_in}
use Rattle.dali_concurrent.specs.Told.{Item, History}
use Rattle.dali_locked.specs.Begun.{Begun, outset, may_add, Of, LedFrom}
use Rattle.dali_locked.specs.Sights.{ClientSight, RegionSight, Knows, client_sight, region_sight}
use Rattle.dali_locked.specs.SystemSteps.{Driving}
use Rattle.dali_locked.specs.Regions.{RegionKept, IsAt, OperationStands, IsAmid, latch_item, update_item, freed_item}
use Rattle.dali_locked.proofs.RegionOps.{finds}
use Rattle.dali_locked.proofs.RegionAdding.{led_on, front_may, told_on}
use Rattle.dali_locked.proofs.RegionAmid.{plan_stays, latched_amid, amid_stays, updated_amid, freed_drives}

-- ---- an operation that was opened
pub record Opening (op : Option Operation) (t : ℕ) (g h : RegionState) : Type 0 where
  pub mask : ℕ
  pub fits : mask < 2 ^ 64
  pub is : h ≡ with_reads mask (latched t g)
  pub under_way : OneIsUnderWay op h

with_whole : (p : Planned) (op : Option Operation) → IsWhole p → IsOfPlan p op → IsWhole (with_operation p op)
with_whole p op w of = record { sizes = w.sizes; txn = w.txn; call = w.call; at = w.at; undoes = w.undoes; few = w.few; gets = w.gets; operation = of }

pub updated_whole : (p : Planned) (op : Option Operation) → IsWhole p → IsSome p.operation → IfSome p.operation (λ o. IsSomeAnd op (λ q. (q.txn ≡ o.txn) × (q.block ≡ o.block))) → IsWhole (with_operation p op)
updated_whole p op w some same = with_whole p op w (of p.operation op some same w.operation)
  where
    of : (a b : Option Operation) → IsSome a → IfSome a (λ o. IsSomeAnd b (λ q. (q.txn ≡ o.txn) × (q.block ≡ o.block))) → IsOfPlan p a → IsOfPlan p b
    of None b i s w = absurd (cc)
    of (Some a) None i s w = absurd s
    of (Some a) (Some b) i s w = (s.0 ∙ w.0, subst (IsBlockOf (plan_next p) (call_key p.call)) (sym s.1) w.1)

-- the hold is the plan's transaction's
pub held_for : (p : Planned) (g : RegionState) → IsWhole p → OneIsUnderWay p.operation g → live_in g.hold ≡ Some p.txn
held_for p g w under = of p.operation w.operation under
  where
    of : (a : Option Operation) → IsOfPlan p a → OneIsUnderWay a g → live_in g.hold ≡ Some p.txn
    of None w under = absurd under
    of (Some o) w under = ap live_in under.hold ∙ ap Some w.0

pub there_is : (a : Option Operation) (g : RegionState) → OneIsUnderWay a g → IsSome a
there_is None g under = absurd under
there_is (Some o) g under = refl

-- a word is left, so it is written
pub writes_one : (a : Option Operation) (g : RegionState) (goes : Bool) (q : Option Operation) (h : RegionState) → OneIsUnderWay a g → all_written a ≡ false → WritesNext a g goes q h → WritesNext a g true q h
writes_one None g goes q h under left w = absurd under
writes_one (Some o) g goes q h under left w = subst (λ t. WritesNext (Some o) g t q h) (w.some ∙ ap not left) w

pub step_of : (a q : Option Operation) (g h : RegionState) → OneIsUnderWay a g → WritesNext a g true q h → IsUpdated g h
step_of a q g h under w = (w.step refl).1

pub opening :
    (op : Option Operation) (t : ℕ) (next : Option (ℕ × Op)) (key : ℕ) (g h : RegionState)
    → IsSomeAnd op (λ o. (o.txn ≡ t) × IsBlockOf next key o.block × IsUnderWay o.txn o.block o.left o.taken h × (h ≡ with_reads o.block.read (latched t g)))
    → Opening op t g h
opening None t next key g h w = absurd w
opening (Some o) t next key g h w = record { mask = o.block.read; fits = w.1.spelled.read; is = w.3; under_way = w.2 }

pub opened_soundly :
    (op : Option Operation) (t : ℕ) (next : Option (ℕ × Op)) (key : ℕ) (g h : RegionState)
    → IsSomeAnd op (λ o. (o.txn ≡ t) × IsBlockOf next key o.block × IsUnderWay o.txn o.block o.left o.taken h × (h ≡ with_reads o.block.read (latched t g)))
    → IsSomeAnd op (λ o. IsSoundOn g.words o.block)
    → IsSomeAnd op (λ o. (o.txn ≡ t) × IsBlockOf next key o.block × IsSoundOn g.words o.block × (h ≡ with_reads o.block.read (latched t g)))
opened_soundly None t next key g h w s = w
opened_soundly (Some o) t next key g h w s = (w.0, w.1, s, w.3)

pub opened_whole :
    (p : Planned) (op : Option Operation) (g h : RegionState) → IsWhole p
    → IsSomeAnd op (λ o. (o.txn ≡ p.txn) × IsBlockOf (plan_next p) (call_key p.call) o.block × IsUnderWay o.txn o.block o.left o.taken h × (h ≡ with_reads o.block.read (latched p.txn g)))
    → IsWhole (with_operation p op)
opened_whole p None g h whole w = absurd w
opened_whole p (Some o) g h whole w = with_whole p (Some o) whole (w.0, w.1)

-- a client comes back to it
pub comes_back : (client : ClientSight) (x : RegionSight) (at : ℕ) (op : Option Operation) (k : ℕ) (now : History) → IsSeen now k client.seen → IsSeen now (region_note x.number) x.seen → at ≡ x.steps
    → IsAt x.number at op client.seen → OperationStands x.number x.steps x.region x.seen → OneIsUnderWay op x.region
comes_back client x at op k now mine theirs steps stood keeps = finds x.number x.steps k op client.seen x.seen now x.region mine theirs (subst (λ n. IsAt x.number n op client.seen) steps stood) keeps

-- ---- behind the step
module _ (b : Begun) (client : ClientSight) (t : TableId) (k : ℕ) (x : RegionSight) (kept : RegionKept b t k x) (plan : Planned) (op : Option Operation) (h : RegionState) (new : History) where
  pub latched_knows : Knows b (Driving client.id plan) client → (is_back plan ≡ false → b.precheck ≡ true → x.region.stray ≡ 0)
      → Added (client_sight b client ∷ region_sight b x ∷ []) (latch_item client.id x.number plan.txn h) new → AllMay (may_add b) new
      → Of b (IsAmid client.id x.number (with_operation plan op)) new
  latched_knows at checked added all s p each =
      let item = latch_item client.id x.number plan.txn h in
      let before : AllMay (may_add b) added.0 = front_may b added.0 (signed_by (client_sight b client ∷ region_sight b x ∷ []) item ∷ []) (subst (AllMay (may_add b)) added.2 all) in
      let led = led_on b x.seen added.0 kept.led before s p each in
      let seen : IsSeen added.0 (client_note (count_of (outset b s p)) client.id) client.seen = subst (λ n. IsSeen added.0 (client_note n client.id) client.seen) (sym led.count) added.1.0 in
      subst (λ T. IsAmid client.id x.number (with_operation plan op) (outset b s p) T) (sym added.2)
      (latched_amid (bases_of s) p (outset b s p) client.id x.number plan op x.region h (client_note b.count client.id ∷ region_note x.number ∷ []) item.2 added.0 led.led
      (told_on b t k x added.0 kept added.1.1.0 before s p each) (plan_stays (bases_of s) p (outset b s p) client.id plan client.seen added.0 led.led seen (at s p each)) checked)

  pub updated_knows : (word value : ℕ) → Knows b (IsAmid client.id x.number plan) client → live_in x.region.hold ≡ Some plan.txn
      → Added (client_sight b client ∷ region_sight b x ∷ []) (update_item client.id x.number word value h) new → AllMay (may_add b) new
      → Of b (IsAmid client.id x.number (with_operation plan op)) new
  updated_knows word value at held added all s p each =
      let item = update_item client.id x.number word value h in
      let before : AllMay (may_add b) added.0 = front_may b added.0 (signed_by (client_sight b client ∷ region_sight b x ∷ []) item ∷ []) (subst (AllMay (may_add b)) added.2 all) in
      let led = led_on b x.seen added.0 kept.led before s p each in
      let seen : IsSeen added.0 (client_note (count_of (outset b s p)) client.id) client.seen = subst (λ n. IsSeen added.0 (client_note n client.id) client.seen) (sym led.count) added.1.0 in
      subst (λ T. IsAmid client.id x.number (with_operation plan op) (outset b s p) T) (sym added.2)
      (updated_amid (outset b s p) client.id x.number plan op h (client_note b.count client.id ∷ region_note x.number ∷ []) item.2 added.0
      (amid_stays (bases_of s) p (outset b s p) client.id x.number plan x.region client.seen added.0 led.led seen (told_on b t k x added.0 kept added.1.1.0 before s p each) held (at s p each)))

  pub freed_knows : Knows b (IsAmid client.id x.number plan) client → live_in x.region.hold ≡ Some plan.txn → h.hold ≡ None
      → Added (client_sight b client ∷ region_sight b x ∷ []) (freed_item client.id x.number h) new → AllMay (may_add b) new
      → Of b (Driving client.id (with_operation plan None)) new
  freed_knows at held none added all s p each =
      let item = freed_item client.id x.number h in
      let before : AllMay (may_add b) added.0 = front_may b added.0 (signed_by (client_sight b client ∷ region_sight b x ∷ []) item ∷ []) (subst (AllMay (may_add b)) added.2 all) in
      let led = led_on b x.seen added.0 kept.led before s p each in
      let seen : IsSeen added.0 (client_note (count_of (outset b s p)) client.id) client.seen = subst (λ n. IsSeen added.0 (client_note n client.id) client.seen) (sym led.count) added.1.0 in
      let told = told_on b t k x added.0 kept added.1.1.0 before s p each in
      subst (Driving client.id (with_operation plan None) (outset b s p)) (sym added.2)
      (freed_drives (bases_of s) p (outset b s p) client.id x.number plan x.region h added.0 led.led told
      (amid_stays (bases_of s) p (outset b s p) client.id x.number plan x.region client.seen added.0 led.led seen told held (at s p each)) none (client_note b.count client.id ∷ region_note x.number ∷ []) item.2)
