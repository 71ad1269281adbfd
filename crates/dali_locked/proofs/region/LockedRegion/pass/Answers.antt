use Rattle.std.proofs.Common.{◌≡◌, ◌<◌, ◌≤◌, ◌+◌, ◌==◌, ℕ, Bool, List, [], ◌∷◌, ◌++◌, refl, ap, sym, subst, ◌∙◌, arith}
use Rattle.dali_region.specs.State.{RegionState, checked}
use Rattle.dali_notes.specs.History.{IsSeen, Added, Sight, MayAdd}
use Rattle.dali_concurrent.specs.Entries.{At, Passed, client_note, region_note}
use Rattle.dali_concurrent.specs.Told.{Item, plain}
use Rattle.dali_locked.specs.Begun.{Of, may_add, homed}
use Rattle.dali_locked.specs.Sights.{ClientSight, RegionSight, region_sight}
use Rattle.dali_locked.specs.Regions.{RegionKept, IsOpenAudit, HasPassed, pass_item}
use Rattle.dali_locked.proofs.RegionAdding.{led_on, met_seen, met_is, still_noted, kept_of, kept_meets}
use Rattle.dali_locked.proofs.RegionPass.{pass_may, passed_kept, pass_before, passed_told, last_pass, may_of_one, added_of_one}
use Rattle.dali_locked.proofs.region.LockedRegion.pass.Goals as goal

pub returns-then-begin-self-clause-later : goal.returns-then-begin-self-clause-later
returns-then-begin-self-clause-later g c =
    λ e.
    let s = c.self.inside in
    subst (λ (z : RegionSight). (n : ℕ) × (c.args.begin ≤ n) × (i : ℕ) × (k : List ℕ) × (right : Bool) × At (plain z.seen) i (k, Passed z.number n right)) c.self.view_is
    (last_pass (homed g.H.Home.table g.B.Beginning.begun) s.note.table s.note.number (record { number = s.number; steps = s.steps; audits = s.audits; region = s.region; seen = s.note.seen }) c.args.begin c.self.invariant c.if-begin-self.true)

pub tell_pass-requires-clause-may : goal.tell_pass-requires-clause-may
tell_pass-requires-clause-may g c κs within =
    let b = (homed g.H.Home.table g.B.Beginning.begun) in
    let s = c.self.inside in
    let x : RegionSight = record { number = s.number; steps = s.steps; audits = s.audits; region = s.region; seen = s.note.seen } in
    let seen : IsSeen c.meet.new.note.seen (region_note x.number) x.seen = met_seen b s.note c.meet.new.note x c.self.invariant c.meet.ensures.seen in
    let y : RegionSight = record { number = s.number; steps = s.steps; audits = s.audits; region = s.region; seen = c.meet.new.note.seen } in
    let kept : RegionKept b s.note.table s.note.number y = kept_meets b s.note.table s.note.number x c.meet.new.note.seen c.self.invariant seen c.meet.ensures.all in
    let its : c.meet.new.note ≡ region_sight b y = met_is b s.note c.meet.new.note x c.self.invariant c.meet.ensures.table c.meet.ensures.number in
    let low : s.audits ≤ c.args.begin = omega (arith, c.if-begin-self.false) in
    let knows : Of b (IsOpenAudit c.args.begin) c.witness.inside.note.seen = subst (λ (z : ClientSight). Of b (IsOpenAudit c.args.begin) z.seen) (sym c.witness.view_is) c.requires.begun in
    let right = c.check-right.result == 0 in
    let item = pass_item s.number c.args.begin right (checked s.region) in
    let same : pass_item s.number c.args.begin right c.check-right.new.self ≡ item = ap (pass_item s.number c.args.begin right) c.check-right.ensures.after in
    may_of_one b c.meet.new.note (region_sight b y) _ item its same
    (subst (λ r. MayAdd (may_add b) (region_sight b y ∷ []) (pass_item s.number c.args.begin r (checked s.region))) (ap (λ n. n == 0) (sym c.check-right.ensures.answer))
    (pass_may b s.note.table s.note.number y kept c.witness.inside.note.seen c.meet.ensures.theirs.rest c.args.begin c.meet.ensures.theirs.all knows low))

pub invariant_of-self : goal.invariant_of-self
invariant_of-self g c =
    let b = (homed g.H.Home.table g.B.Beginning.begun) in
    let s = c.self.inside in
    let x : RegionSight = record { number = s.number; steps = s.steps; audits = s.audits; region = s.region; seen = s.note.seen } in
    let seen : IsSeen c.meet.new.note.seen (region_note x.number) x.seen = met_seen b s.note c.meet.new.note x c.self.invariant c.meet.ensures.seen in
    let y : RegionSight = record { number = s.number; steps = s.steps; audits = s.audits; region = s.region; seen = c.meet.new.note.seen } in
    let kept : RegionKept b s.note.table s.note.number y = kept_meets b s.note.table s.note.number x c.meet.new.note.seen c.self.invariant seen c.meet.ensures.all in
    let its : c.meet.new.note ≡ region_sight b y = met_is b s.note c.meet.new.note x c.self.invariant c.meet.ensures.table c.meet.ensures.number in
    let low : s.audits ≤ c.args.begin = omega (arith, c.if-begin-self.false) in
    let knows : Of b (IsOpenAudit c.args.begin) c.witness.inside.note.seen = subst (λ (z : ClientSight). Of b (IsOpenAudit c.args.begin) z.seen) (sym c.witness.view_is) c.requires.begun in
    let right = c.check-right.result == 0 in
    let item = pass_item s.number c.args.begin right (checked s.region) in
    let same : pass_item s.number c.args.begin right c.check-right.new.self ≡ item = ap (pass_item s.number c.args.begin right) c.check-right.ensures.after in
    let new = c.tell_pass.new.note.seen in
    let told : Added (region_sight b y ∷ []) item new = added_of_one c.meet.new.note (region_sight b y) _ item new its same c.tell_pass.ensures.added in
    kept_of b s.note c.meet-2.new.other (record { number = s.number; steps = s.steps; audits = c.args.begin + 1; region = c.check-right.new.self; seen = new })
    (c.meet-2.ensures.other ∙ (λ i. record { table = (c.tell_pass.ensures.note.0 ∙ c.meet.ensures.table) i; number = (c.tell_pass.ensures.note.1 ∙ c.meet.ensures.number) i; seen = new }))
    (subst (λ h. RegionKept b s.note.table s.note.number (record { number = s.number; steps = s.steps; audits = c.args.begin + 1; region = h; seen = new })) (sym c.check-right.ensures.after)
    (passed_kept b s.note.table s.note.number y kept c.args.begin right new low told c.tell_pass.ensures.all))

pub invariant_of-witness : goal.invariant_of-witness
invariant_of-witness g c =
    let was = c.meet.ensures.other in (
      c.meet-2.ensures.table ∙ (ap (λ (n : Sight Item). n.table) was ∙ c.witness.invariant.0),
      c.meet-2.ensures.number ∙ (ap (λ (n : Sight Item). n.number) was ∙ c.witness.invariant.1),
      led_on (homed g.H.Home.table g.B.Beginning.begun) c.witness.inside.note.seen c.meet-2.new.note.seen c.witness.invariant.2 c.meet-2.ensures.all,
    )

pub returns-clause-tells : goal.returns-clause-tells
returns-clause-tells g c =
    let b = (homed g.H.Home.table g.B.Beginning.begun) in
    let s = c.self.inside in
    let x : RegionSight = record { number = s.number; steps = s.steps; audits = s.audits; region = s.region; seen = s.note.seen } in
    let seen : IsSeen c.meet.new.note.seen (region_note x.number) x.seen = met_seen b s.note c.meet.new.note x c.self.invariant c.meet.ensures.seen in
    let y : RegionSight = record { number = s.number; steps = s.steps; audits = s.audits; region = s.region; seen = c.meet.new.note.seen } in
    let kept : RegionKept b s.note.table s.note.number y = kept_meets b s.note.table s.note.number x c.meet.new.note.seen c.self.invariant seen c.meet.ensures.all in
    let its : c.meet.new.note ≡ region_sight b y = met_is b s.note c.meet.new.note x c.self.invariant c.meet.ensures.table c.meet.ensures.number in
    let low : s.audits ≤ c.args.begin = omega (arith, c.if-begin-self.false) in
    let knows : Of b (IsOpenAudit c.args.begin) c.witness.inside.note.seen = subst (λ (z : ClientSight). Of b (IsOpenAudit c.args.begin) z.seen) (sym c.witness.view_is) c.requires.begun in
    let right = c.check-right.result == 0 in
    let item = pass_item s.number c.args.begin right (checked s.region) in
    let same : pass_item s.number c.args.begin right c.check-right.new.self ≡ item = ap (pass_item s.number c.args.begin right) c.check-right.ensures.after in
    let new = c.tell_pass.new.note.seen in
    let told : Added (region_sight b y ∷ []) item new = added_of_one c.meet.new.note (region_sight b y) _ item new its same c.tell_pass.ensures.added in
    let all : Added (region_sight b x ∷ []) item new = pass_before b x c.meet.new.note.seen item new seen told in
    subst (λ n. Added (region_sight b c.args.self.now ∷ []) (pass_item c.args.self.now.number c.args.begin right c.check-right.new.self) n) (ap (λ (n : Sight Item). n.seen) (sym c.meet-2.ensures.other))
    (subst (λ (z : RegionSight). Added (region_sight b z ∷ []) (pass_item z.number c.args.begin right c.check-right.new.self) new) c.self.view_is (subst (λ i. Added (region_sight b x ∷ []) i new) (sym same) all))

pub returns-clause-told : goal.returns-clause-told
returns-clause-told g c =
    let b = (homed g.H.Home.table g.B.Beginning.begun) in
    let s = c.self.inside in
    let x : RegionSight = record { number = s.number; steps = s.steps; audits = s.audits; region = s.region; seen = s.note.seen } in
    let seen : IsSeen c.meet.new.note.seen (region_note x.number) x.seen = met_seen b s.note c.meet.new.note x c.self.invariant c.meet.ensures.seen in
    let y : RegionSight = record { number = s.number; steps = s.steps; audits = s.audits; region = s.region; seen = c.meet.new.note.seen } in
    let kept : RegionKept b s.note.table s.note.number y = kept_meets b s.note.table s.note.number x c.meet.new.note.seen c.self.invariant seen c.meet.ensures.all in
    let its : c.meet.new.note ≡ region_sight b y = met_is b s.note c.meet.new.note x c.self.invariant c.meet.ensures.table c.meet.ensures.number in
    let low : s.audits ≤ c.args.begin = omega (arith, c.if-begin-self.false) in
    let knows : Of b (IsOpenAudit c.args.begin) c.witness.inside.note.seen = subst (λ (z : ClientSight). Of b (IsOpenAudit c.args.begin) z.seen) (sym c.witness.view_is) c.requires.begun in
    let right = c.check-right.result == 0 in
    let item = pass_item s.number c.args.begin right (checked s.region) in
    let same : pass_item s.number c.args.begin right c.check-right.new.self ≡ item = ap (pass_item s.number c.args.begin right) c.check-right.ensures.after in
    let new = c.tell_pass.new.note.seen in
    let told : Added (region_sight b y ∷ []) item new = added_of_one c.meet.new.note (region_sight b y) _ item new its same c.tell_pass.ensures.added in
    let all : Added (region_sight b x ∷ []) item new = pass_before b x c.meet.new.note.seen item new seen told in (
      ap (λ (z : ClientSight). z.id) c.witness.view_is,
      subst (λ (z : RegionSight). Of b (HasPassed z.number c.args.begin right) c.meet-2.new.note.seen) c.self.view_is
          (passed_told b x c.args.begin right (checked s.region) new c.meet-2.new.note.seen c.tell_pass.new.note.number all c.meet-2.ensures.theirs),
    )
