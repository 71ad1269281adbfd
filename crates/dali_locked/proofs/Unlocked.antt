-- What a step on a region in hand says, said of some region.
use Rattle.std.proofs.Common.{◌≡◌, ℕ, Bool, true, [], ◌∷◌, not, ◌&&◌, Option, Some, None, Ok, IsSomeAnd, refl, ap, sym, subst, ◌∙◌}
use Rattle.dali_record.specs.Blocks.{IsSoundOn}
use Rattle.dali_region.specs.State.{RegionState, poked, latched, with_reads, touched}
use Rattle.dali_region.specs.Answers.{latch_answer}
use Rattle.dali_system.specs.declared.operation.Operation.{Operation}
use Rattle.dali_system.specs.UnderWay.{WritesNext}
use Rattle.dali_calls.specs.Steps.{call_key, IsBlockOf}
use Rattle.dali_calls.specs.Plans.{Planned, is_back, plan_next}
use Rattle.dali_notes.specs.History.{Added}
use Rattle.dali_concurrent.specs.Entries.{system_note, region_note}
use Rattle.dali_concurrent.specs.Told.{Item}
use Rattle.dali_locked.specs.Begun.{Begun}
use Rattle.dali_locked.specs.Sights.{ClientSight, SystemSight, RegionSight, client_sight, system_sight, region_sight}
use Rattle.dali_locked.specs.Regions.{HasGoneBack, LogsPlan, stray_item, latch_item, logged_item}
use Rattle.dali_locked.specs.RegionWords.{word_item}
use Rattle.dali_locked.specs.Unlocked.{note_of, TellsOn, StraysOn, LatchesOn, UpdatesOn, CommitsOn}

module _ (b : Begun) (x z : ClientSight) (y : RegionSight) (r : ℕ) (here : y.number ≡ r) (id : z.id ≡ x.id) where
  tells_on : (item : ℕ → Item) → Added (client_sight b x ∷ region_sight b y ∷ []) (item y.number) z.seen → TellsOn b x r (item r) z
  tells_on item added = record { seen = y.seen; added = subst (λ k. Added (client_sight b x ∷ note_of b (region_note k) y.seen ∷ []) (item k) z.seen) here added; id = id }

  pub strays_on : (word mask : ℕ) (h : RegionState) → h ≡ poked word mask y.region → Added (client_sight b x ∷ region_sight b y ∷ []) (stray_item x.id y.number word mask h) z.seen → StraysOn b x r word mask z
  strays_on word mask h is added = record {
    region = y.region;
    told = tells_on (λ k. stray_item x.id k word mask (poked word mask y.region)) (subst (λ j. Added (client_sight b x ∷ region_sight b y ∷ []) (stray_item x.id y.number word mask j) z.seen) is added);
  }

  pub latches_on : (p q : Planned) (h : RegionState) (check : Bool) → check ≡ b.precheck → Ok tt ≡ latch_answer (not (is_back p) && check) y.region
      → IsSomeAnd q.operation (λ o. (o.txn ≡ p.txn) × IsBlockOf (plan_next p) (call_key p.call) o.block × IsSoundOn y.region.words o.block × (h ≡ with_reads o.block.read (latched p.txn y.region)))
      → Added (client_sight b x ∷ region_sight b y ∷ []) (latch_item x.id y.number p.txn h) z.seen → LatchesOn b x p r q z
  latches_on p q h check same free made added = record {
    region = y.region;
    free = subst (λ k. Ok tt ≡ latch_answer (not (is_back p) && k) y.region) same free;
    made = of q.operation made;
  }
    where
      of : (a : Option Operation)
          → IsSomeAnd a (λ o. (o.txn ≡ p.txn) × IsBlockOf (plan_next p) (call_key p.call) o.block × IsSoundOn y.region.words o.block × (h ≡ with_reads o.block.read (latched p.txn y.region)))
          → IsSomeAnd a (λ o. (o.txn ≡ p.txn) × IsBlockOf (plan_next p) (call_key p.call) o.block × IsSoundOn y.region.words o.block
          × TellsOn b x r (latch_item x.id r p.txn (with_reads o.block.read (latched p.txn y.region))) z)
      of None w = absurd w
      of (Some o) w = (
        w.0,
        w.1,
        w.2,
        tells_on (λ k. latch_item x.id k p.txn (with_reads o.block.read (latched p.txn y.region)))
            (subst (λ j. Added (client_sight b x ∷ region_sight b y ∷ []) (latch_item x.id y.number p.txn j) z.seen) w.3 added),
      )

  pub updates_on : (p q : Planned) (h : RegionState) → WritesNext p.operation y.region true q.operation h → Added (client_sight b x ∷ region_sight b y ∷ []) (word_item x.id y.number y.region h) z.seen
      → UpdatesOn b x p r q z
  updates_on p q h writes added = record { region = y.region; behind = h; writes = writes; told = tells_on (λ k. word_item x.id k y.region h) added }

  pub commits_on : (p q : Planned) (w v : SystemSight) (h : RegionState) → LogsPlan p w.served q v.served → h ≡ touched y.region
      → Added (client_sight b x ∷ system_sight b w ∷ region_sight b y ∷ []) (logged_item x.id (is_back p) p.txn p.operation w.served.state h) z.seen → CommitsOn b x p r q z
  commits_on p q w v h logs is added = record {
    region = y.region;
    system = w.served;
    behind = v.served;
    logs = logs;
    theirs = w.seen;
    seen = y.seen;
    added = subst (λ k. Added (client_sight b x ∷ note_of b system_note w.seen ∷ note_of b (region_note k) y.seen ∷ []) (logged_item x.id (is_back p) p.txn p.operation w.served.state (touched y.region)) z.seen) here
        (subst (λ j. Added (client_sight b x ∷ system_sight b w ∷ region_sight b y ∷ []) (logged_item x.id (is_back p) p.txn p.operation w.served.state j) z.seen) is added);
    id = id;
  }
