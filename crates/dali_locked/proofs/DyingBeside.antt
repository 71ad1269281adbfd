-- What each step of a death and of a clean-up leaves of the other transactions of its client.
use Rattle.std.proofs.Common.{◌≡◌, ℕ, Bool, true, false, not, List, [], ◌∷◌, ◌++◌, Option, Some, refl, ap, sym, subst}
use Rattle.std.specs.Prelude.{◌==◌}
use Rattle.atomic_table.specs.Seated.{TableId}
use Rattle.dali_region.specs.State.{RegionState, dead, taken_back}
use Rattle.dali_att.specs.declared.state.State.TheVariants.{Dead}
use Rattle.dali_runs.specs.State.{SystemState}
use Rattle.dali_runs.specs.Steps.{in_state}
use Rattle.dali_runs.specs.Courses.{Dies, Recovers, GivesBack as GivesItBack}
use Rattle.dali_calls.specs.Plans.{Planned}
use Rattle.dali_crash.specs.Checkpoints.{Point}
use Rattle.dali_crash.specs.Traces.{Start, bases_of}
use Rattle.dali_transcripts.specs.World.{DiesOn, GivesBack}
use Rattle.dali_notes.specs.History.{IsSeen, AllMay, Added}
use Rattle.dali_concurrent.specs.Entries.{Did, Freed, client_note}
use Rattle.dali_concurrent.specs.Rules.{Outset, count_of}
use Rattle.dali_concurrent.specs.Told.{OnRegion, OnSystem, OnBoth, History}
use Rattle.dali_concurrent.specs.Kept.{SystemTold}
use Rattle.dali_locked.specs.Begun.{Begun, outset, may_add, Of, LedFrom, Led}
use Rattle.dali_locked.specs.Sights.{ClientSight, SystemSight, RegionSight, Knows}
use Rattle.dali_locked.specs.Regions.{RegionKept}
use Rattle.dali_locked.specs.SystemSteps.{Resting, Driving}
use Rattle.dali_locked.specs.Dying.{recovered_item}
use Rattle.dali_locked.proofs.RegionAdding.{led_on}
use Rattle.dali_locked.proofs.RegionAmid.{plan_stays}
use Rattle.dali_locked.proofs.RegionCommit.{by_three}
use Rattle.dali_locked.proofs.DyingAdding.{by_pair, two, two_behind, three, three_behind}
use Rattle.dali_locked.proofs.DyingKnows.{died}
use Rattle.dali_locked.proofs.DyingGiving.{item}
use Rattle.dali_locked.proofs.DyingAside.{resting_still, resting_beside, driving_beside}

-- from the client x on to what it has seen then
abbrev StayThen : Begun → (x : ClientSight) → ℕ → History → Type 0
StayThen b x u new = (Knows b (Resting x.id u) x → Of b (Resting x.id u) new) × ((g : Planned) → g.txn ≡ u → Knows b (Driving x.id g) x → Of b (Driving x.id g) new)

module _ (b : Begun) (client : ClientSight) (x : RegionSight) (t : TableId) (k : ℕ) (kept : RegionKept b t k x) where
  module _ (w : SystemSight) (system : Of b (λ o T. SystemTold o w.served.state T) w.seen) where
    pub died_beside : (plan : Planned) (new : History) → Added (three b client x t k kept w system) (died b client x t k kept w system plan) new → AllMay (may_add b) new
        → (u : ℕ) → (plan.txn == u) ≡ false → StayThen b client u new
    died_beside plan new added all u apart = (
      λ rests. three_behind b client x t k kept w system (died b client x t k kept w system plan) new added all (Resting client.id u) (λ s p each now hand led.
          resting_beside (bases_of s) p (outset b s p) client.id client.seen now hand.two.led hand.two.mine (by_three (count_of (outset b s p)) client.id x.number) (Did (DiesOn plan.txn x.number) client.id)
          (OnBoth x.number (dead x.region) (in_state w.served.state plan.txn (Dead (Some x.number)))) (Dies plan.txn (Some x.number)) led u (ap not apart) (λ a. refl) (rests s p each)),
      λ g own drives. three_behind b client x t k kept w system (died b client x t k kept w system plan) new added all (Driving client.id g) (λ s p each now hand led.
          driving_beside (bases_of s) p (outset b s p) client.id client.seen now hand.two.led hand.two.mine (by_three (count_of (outset b s p)) client.id x.number) (Did (DiesOn plan.txn x.number) client.id)
          (OnBoth x.number (dead x.region) (in_state w.served.state plan.txn (Dead (Some x.number)))) (Dies plan.txn (Some x.number)) led u (ap not apart) (λ a. refl) g own (drives s p each)),
    )

    pub gives_beside : (v : ℕ) (new : History) → Added (three b client x t k kept w system) (item b client x t k kept w system v) new → AllMay (may_add b) new
        → (u : ℕ) → (v == u) ≡ false → StayThen b client u new
    gives_beside v new added all u apart = (
      λ rests. three_behind b client x t k kept w system (item b client x t k kept w system v) new added all (Resting client.id u) (λ s p each now hand led.
          resting_beside (bases_of s) p (outset b s p) client.id client.seen now hand.two.led hand.two.mine (by_three (count_of (outset b s p)) client.id x.number) (Did (GivesBack v (Some x.number)) client.id)
          (OnSystem (in_state w.served.state v (Dead (Some x.number)))) (GivesItBack v (Some x.number)) led u (ap not apart) (λ a. refl) (rests s p each)),
      λ g own drives. three_behind b client x t k kept w system (item b client x t k kept w system v) new added all (Driving client.id g) (λ s p each now hand led.
          driving_beside (bases_of s) p (outset b s p) client.id client.seen now hand.two.led hand.two.mine (by_three (count_of (outset b s p)) client.id x.number) (Did (GivesBack v (Some x.number)) client.id)
          (OnSystem (in_state w.served.state v (Dead (Some x.number)))) (GivesItBack v (Some x.number)) led u (ap not apart) (λ a. refl) g own (drives s p each)),
    )

  pub recovered_beside : (new : History) → Added (two b client x t k kept) (recovered_item client.id x.number (taken_back x.region)) new → AllMay (may_add b) new → (u : ℕ) → StayThen b client u new
  recovered_beside new added all u = (
    λ rests. two_behind b client x t k kept (recovered_item client.id x.number (taken_back x.region)) new added all (Resting client.id u) (λ s p each now hand led.
        resting_beside (bases_of s) p (outset b s p) client.id client.seen now hand.led hand.mine (by_pair (count_of (outset b s p)) client.id x.number) (Freed x.number client.id)
        (OnRegion x.number (taken_back x.region)) (Recovers x.number) led u refl (λ a. refl) (rests s p each)),
    λ g own drives. two_behind b client x t k kept (recovered_item client.id x.number (taken_back x.region)) new added all (Driving client.id g) (λ s p each now hand led.
        driving_beside (bases_of s) p (outset b s p) client.id client.seen now hand.led hand.mine (by_pair (count_of (outset b s p)) client.id x.number) (Freed x.number client.id)
        (OnRegion x.number (taken_back x.region)) (Recovers x.number) led u refl (λ a. refl) g own (drives s p each)),
  )

-- where it has only met others
pub beside_on : (b : Begun) (client : ClientSight) (now : History) → Led b client.seen → AllMay (may_add b) now → IsSeen now (client_note b.count client.id) client.seen → (u : ℕ) → StayThen b client u now
beside_on b client now led all mine u = (
  λ rests s p each. resting_still (bases_of s) p (outset b s p) client.id client.seen now (from s p each).led (there s p each) u (rests s p each),
  λ g own drives s p each. plan_stays (bases_of s) p (outset b s p) client.id g client.seen now (from s p each).led (there s p each) (drives s p each),
)
  where
    from : (s : Start) (p : Point) → b.each s p → LedFrom b s p now
    from s p each = led_on b client.seen now led all s p each

    there : (s : Start) (p : Point) → b.each s p → IsSeen now (client_note (count_of (outset b s p)) client.id) client.seen
    there s p each = subst (λ n. IsSeen now (client_note n client.id) client.seen) (sym (from s p each).count) mine
