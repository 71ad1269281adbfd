use Rattle.std.proofs.Common.{◌≡◌, ◌+◌, ◌<◌, ℕ, Bool, true, false, [], ◌∷◌, Option, Some, None, IsSome, refl, ap, sym, subst, ◌∙◌}
use Rattle.dali_lists.proofs.Lists.{get_set}
use Rattle.dali_region.specs.declared.Hold.{Hold}
use Rattle.dali_region.specs.State.{RegionState, taken_back}
use Rattle.dali_notes.specs.History.{IsSeen, Sight, Added}
use Rattle.dali_concurrent.specs.Entries.{client_note, region_note}
use Rattle.dali_concurrent.specs.Told.{Item, History}
use Rattle.dali_locked.specs.Begun.{Begun, Of, homed}
use Rattle.dali_locked.specs.Sights.{ClientSight, RegionSight, Knows, client_sight, region_sight}
use Rattle.dali_locked.specs.Regions.{RegionKept}
use Rattle.dali_locked.specs.SystemSteps.{Cleaning, Keeps, StaysAll, MayGiveBack}
use Rattle.dali_locked.specs.Dying.{recovered_item, IsIdle, left_in}
use Rattle.dali_locked.proofs.RegionSigns.{signs_pair}
use Rattle.dali_locked.proofs.RegionOps.{counted}
use Rattle.dali_locked.proofs.RegionAdding.{led_on, client_is, region_is, still_noted, may_of, added_of, kept_of, kept_next}
use Rattle.dali_locked.proofs.DyingAdding.{by_pair, client_added_before}
use Rattle.dali_locked.proofs.DyingKnows.{cleans_on, idle_on, keeps_on, recovers_may, recovered_cleans, recovered_clear, recovered_keeps, nothing_cleans, nothing_clear, nothing_keeps}
use Rattle.dali_locked.proofs.DyingBeside.{recovered_beside, beside_on}
use Rattle.dali_locked.proofs.region.LockedRegion.recover.Given as given
use Rattle.dali_locked.proofs.region.LockedRegion.recover.Goals as goal

of : (u : ℕ) (q : Option Hold) → left_in u q ≡ true → IsSome q
of u None e = absurd (cc)
of u (Some h) e = refl

pub invariant_of-client : goal.invariant_of-client
invariant_of-client g c =
    let was = c.client.invariant in
    (c.meet.ensures.table ∙ was.0, c.meet.ensures.number ∙ was.1, led_on (homed g.H.Home.table g.B.Beginning.begun) c.client.inside.note.seen c.meet.new.note.seen was.2 c.meet.ensures.all)

-- ---- nothing is left
pub returns-then-not-left-clause-cleans : goal.returns-then-not-left-clause-cleans
returns-then-not-left-clause-cleans g c =
    let b = (homed g.H.Home.table g.B.Beginning.begun) in
    let s = c.self.inside in
    let client : ClientSight = record { id = c.client.inside.id; seen = c.client.inside.note.seen } in
    let x : RegionSight = record { number = s.number; steps = s.steps; audits = s.audits; region = s.region; seen = s.note.seen } in
    let m = c.meet.new.note in
    let mine : IsSeen m.seen (client_note b.count client.id) client.seen = subst (λ n. IsSeen m.seen n client.seen) c.client.invariant.1 c.meet.ensures.seen in
    let its : IsSeen m.seen (region_note x.number) x.seen = subst (λ n. IsSeen m.seen n x.seen) c.self.invariant.numbered c.meet.ensures.theirs in
    let knows : Knows b (Cleaning client.id c.args.txn (Some x.number)) client =
    subst (λ (k : ClientSight). Knows b (Cleaning k.id c.args.txn (Some x.number)) k) (sym c.client.view_is) (subst (λ (k : RegionSight). Knows b (Cleaning c.args.client.now.id c.args.txn (Some k.number)) c.args.client.now) (sym c.self.view_is) c.requires.cleans) in
    subst (λ (k : ClientSight). Of b (Cleaning k.id c.args.txn (Some c.args.self.now.number)) m.seen) c.client.view_is
    (subst (λ (k : RegionSight). Of b (Cleaning client.id c.args.txn (Some k.number)) m.seen) c.self.view_is
    (nothing_cleans b client x s.note.table s.note.number c.self.invariant c.args.txn knows m.seen c.meet.ensures.all mine its))

pub returns-then-not-left-clause-clear : goal.returns-then-not-left-clause-clear
returns-then-not-left-clause-clear g c =
    let b = (homed g.H.Home.table g.B.Beginning.begun) in
    let s = c.self.inside in
    let client : ClientSight = record { id = c.client.inside.id; seen = c.client.inside.note.seen } in
    let x : RegionSight = record { number = s.number; steps = s.steps; audits = s.audits; region = s.region; seen = s.note.seen } in
    let m = c.meet.new.note in
    let mine : IsSeen m.seen (client_note b.count client.id) client.seen = subst (λ n. IsSeen m.seen n client.seen) c.client.invariant.1 c.meet.ensures.seen in
    let its : IsSeen m.seen (region_note x.number) x.seen = subst (λ n. IsSeen m.seen n x.seen) c.self.invariant.numbered c.meet.ensures.theirs in
    let knows : Knows b (Cleaning client.id c.args.txn (Some x.number)) client =
    subst (λ (k : ClientSight). Knows b (Cleaning k.id c.args.txn (Some x.number)) k) (sym c.client.view_is) (subst (λ (k : RegionSight). Knows b (Cleaning c.args.client.now.id c.args.txn (Some k.number)) c.args.client.now) (sym c.self.view_is) c.requires.cleans) in
    let idle : Knows b (IsIdle c.args.txn) client = subst (λ (k : ClientSight). Knows b (IsIdle c.args.txn) k) (sym c.client.view_is) c.requires.idle in
    let none : left_in c.args.txn x.region.hold ≡ false = sym (ap (left_in c.args.txn) c.hold.ensures.value) ∙ (sym c.is_left-left.ensures ∙ c.if-not-left.true) in
    subst (λ (k : ClientSight). Of b (MayGiveBack k.id c.args.txn) m.seen) c.client.view_is
    (nothing_clear b client x s.note.table s.note.number c.self.invariant c.args.txn knows m.seen c.meet.ensures.all mine its idle none)

pub returns-then-not-left-clause-keeps : goal.returns-then-not-left-clause-keeps
returns-then-not-left-clause-keeps g c =
    let b = (homed g.H.Home.table g.B.Beginning.begun) in
    let client : ClientSight = record { id = c.client.inside.id; seen = c.client.inside.note.seen } in
    let m = c.meet.new.note in
    let mine : IsSeen m.seen (client_note b.count client.id) client.seen = subst (λ n. IsSeen m.seen n client.seen) c.client.invariant.1 c.meet.ensures.seen in
    subst (λ (q : ClientSight). Keeps b q (record { id = q.id; seen = m.seen })) c.client.view_is (λ t k had. keeps_on b client t k m.seen c.client.invariant.2 c.meet.ensures.all mine had)

pub returns-then-not-left-clause-beside : goal.returns-then-not-left-clause-beside
returns-then-not-left-clause-beside g c =
    let b = (homed g.H.Home.table g.B.Beginning.begun) in
    let client : ClientSight = record { id = c.client.inside.id; seen = c.client.inside.note.seen } in
    let m = c.meet.new.note in
    let mine : IsSeen m.seen (client_note b.count client.id) client.seen = subst (λ n. IsSeen m.seen n client.seen) c.client.invariant.1 c.meet.ensures.seen in
    subst (λ (q : ClientSight). StaysAll b q (record { id = q.id; seen = m.seen })) c.client.view_is (beside_on b client m.seen c.client.invariant.2 c.meet.ensures.all mine)

-- ---- it is taken back
pub take_back-requires : goal.take_back-requires
take_back-requires g c = of c.args.txn c.self.inside.region.hold (ap (left_in c.args.txn) (sym c.hold.ensures.value) ∙ (sym c.is_left-left.ensures ∙ c.if-not-left.false))

pub sign_recovery-requires-clause-may : goal.sign_recovery-requires-clause-may
sign_recovery-requires-clause-may g c κs within =
    let b = (homed g.H.Home.table g.B.Beginning.begun) in
    let s = c.self.inside in
    let client : ClientSight = record { id = c.client.inside.id; seen = c.client.inside.note.seen } in
    let x : RegionSight = record { number = s.number; steps = s.steps; audits = s.audits; region = s.region; seen = s.note.seen } in
    let m = c.meet.new.note in
    let z : ClientSight = record { id = c.client.inside.id; seen = m.seen } in
    let mine : IsSeen m.seen (client_note b.count client.id) client.seen = subst (λ n. IsSeen m.seen n client.seen) c.client.invariant.1 c.meet.ensures.seen in
    let knows : Knows b (Cleaning client.id c.args.txn (Some x.number)) client =
    subst (λ (k : ClientSight). Knows b (Cleaning k.id c.args.txn (Some x.number)) k) (sym c.client.view_is) (subst (λ (k : RegionSight). Knows b (Cleaning c.args.client.now.id c.args.txn (Some k.number)) c.args.client.now) (sym c.self.view_is) c.requires.cleans) in
    let left : left_in c.args.txn x.region.hold ≡ true = ap (left_in c.args.txn) (sym c.hold.ensures.value) ∙ (sym c.is_left-left.ensures ∙ c.if-not-left.false) in
    let later : Knows b (Cleaning z.id c.args.txn (Some x.number)) z = cleans_on b client c.args.txn (Some x.number) m.seen c.client.invariant.2 knows c.meet.ensures.all mine in
    let m_is : m ≡ client_sight b z = client_is b m client.id (c.meet.ensures.table ∙ c.client.invariant.0) (c.meet.ensures.number ∙ c.client.invariant.1) in
    let o_is : c.meet.new.other ≡ region_sight b x = c.meet.ensures.other ∙ region_is b s.note x c.self.invariant refl in
    may_of b m c.meet.new.other (client_sight b z) (region_sight b x) _ (recovered_item client.id x.number (taken_back x.region)) m_is o_is (ap (recovered_item client.id x.number) c.take_back.ensures.after)
    (recovers_may b z x s.note.table s.note.number c.self.invariant c.args.txn later left)

module _ (g : given.Over) (c : goal.After-self-1 g) where
  abbrev b : Begun
  b = (homed g.H.Home.table g.B.Beginning.begun)

  abbrev t : ℕ
  t = c.args.txn

  abbrev client : ClientSight
  client = record { id = c.client.inside.id; seen = c.client.inside.note.seen }

  abbrev x : RegionSight
  x = record { number = c.self.inside.number; steps = c.self.inside.steps; audits = c.self.inside.audits; region = c.self.inside.region; seen = c.self.inside.note.seen }

  abbrev m : Sight Item
  m = c.meet.new.note

  abbrev z : ClientSight
  z = record { id = c.client.inside.id; seen = m.seen }

  abbrev h : RegionState
  h = c.take_back.new.self

  abbrev new : History
  new = c.sign_recovery.new.client.seen

  mine : IsSeen m.seen (client_note b.count client.id) client.seen
  mine = subst (λ n. IsSeen m.seen n client.seen) c.client.invariant.1 c.meet.ensures.seen

  knows : Knows b (Cleaning client.id t (Some x.number)) client
  knows = subst (λ (k : ClientSight). Knows b (Cleaning k.id t (Some x.number)) k) (sym c.client.view_is) (subst (λ (k : RegionSight). Knows b (Cleaning c.args.client.now.id t (Some k.number)) c.args.client.now) (sym c.self.view_is) c.requires.cleans)

  idle : Knows b (IsIdle t) client
  idle = subst (λ (k : ClientSight). Knows b (IsIdle t) k) (sym c.client.view_is) c.requires.idle

  later : Knows b (Cleaning z.id t (Some x.number)) z
  later = cleans_on b client t (Some x.number) m.seen c.client.invariant.2 knows c.meet.ensures.all mine

  idle_later : Knows b (IsIdle t) z
  idle_later = idle_on b client t (Some x.number) m.seen c.client.invariant.2 knows idle c.meet.ensures.all mine

  told : Added (client_sight b z ∷ region_sight b x ∷ []) (recovered_item client.id x.number h) new
  told = added_of m c.meet.new.other (client_sight b z) (region_sight b x) (recovered_item client.id x.number h) (recovered_item client.id x.number h) new
      (client_is b m client.id (c.meet.ensures.table ∙ c.client.invariant.0) (c.meet.ensures.number ∙ c.client.invariant.1))
      (c.meet.ensures.other ∙ region_is b c.self.inside.note x c.self.invariant refl) refl c.sign_recovery.ensures.added

  told_so : Added (client_sight b z ∷ region_sight b x ∷ []) (recovered_item client.id x.number (taken_back x.region)) new
  told_so = subst (λ k. Added (client_sight b z ∷ region_sight b x ∷ []) (recovered_item client.id x.number k) new) c.take_back.ensures.after told

pub invariant_of-self-2 : goal.invariant_of-self-2
invariant_of-self-2 g c =
    let s = c.self.inside in
    let o = c.meet.new.other in
    kept_of (b g c) s.note c.sign_recovery.new.note (record { number = s.number; steps = s.steps + 1; audits = s.audits; region = h g c; seen = new g c })
    (still_noted s.note o c.sign_recovery.new.note (new g c) (ap (λ (n : Sight Item). n.table) c.meet.ensures.other) (ap (λ (n : Sight Item). n.number) c.meet.ensures.other) c.sign_recovery.ensures.region)
    (kept_next (b g c) (z g c) s.note.table s.note.number (x g c) c.self.invariant (h g c) (recovered_item (client g c).id s.number (h g c)) (new g c) (told g c) c.sign_recovery.ensures.all
    (λ d at. get_set d.regions s.number s.region (h g c) at) (λ a right e. cc)
    (counted s.number (by_pair (b g c).count (client g c).id s.number) (recovered_item (client g c).id s.number (h g c)) (h g c) (signs_pair (client_note (b g c).count (client g c).id) s.number) refl refl))

pub invariant_of-client-2 : goal.invariant_of-client-2
invariant_of-client-2 g c =
    let was = c.client.invariant in (
      c.sign_recovery.ensures.client.1 ∙ (c.meet.ensures.table ∙ was.0),
      c.sign_recovery.ensures.client.0 ∙ (c.meet.ensures.number ∙ was.1),
      led_on (b g c) c.client.inside.note.seen (new g c) was.2 c.sign_recovery.ensures.all,
    )

pub returns-clause-tells : goal.returns-clause-tells
returns-clause-tells g c =
    λ _. subst (λ (k : ClientSight). Added (client_sight (b g c) k ∷ region_sight (b g c) c.args.self.now ∷ []) (recovered_item k.id c.args.self.now.number (h g c)) (new g c)) c.client.view_is
    (subst (λ (k : RegionSight). Added (client_sight (b g c) (client g c) ∷ region_sight (b g c) k ∷ []) (recovered_item (client g c).id k.number (h g c)) (new g c)) c.self.view_is
    (client_added_before (b g c) (client g c) (x g c) (m g c).seen (recovered_item (client g c).id (x g c).number (h g c)) (new g c) (mine g c) (told g c)))

pub returns-clause-cleans : goal.returns-clause-cleans
returns-clause-cleans g c =
    let s = c.self.inside in
    subst (λ (k : ClientSight). Of (b g c) (Cleaning k.id (t g c) (Some c.args.self.now.number)) (new g c)) c.client.view_is
    (subst (λ (k : RegionSight). Of (b g c) (Cleaning (client g c).id (t g c) (Some k.number)) (new g c)) c.self.view_is
    (recovered_cleans (b g c) (z g c) (x g c) s.note.table s.note.number c.self.invariant (t g c) (later g c) (new g c) (told_so g c) c.sign_recovery.ensures.all))

pub returns-clause-clear : goal.returns-clause-clear
returns-clause-clear g c =
    let s = c.self.inside in
    subst (λ (k : ClientSight). Of (b g c) (MayGiveBack k.id (t g c)) (new g c)) c.client.view_is
    (recovered_clear (b g c) (z g c) (x g c) s.note.table s.note.number c.self.invariant (t g c) (later g c) (new g c) (told_so g c) c.sign_recovery.ensures.all (idle_later g c))

pub returns-clause-keeps : goal.returns-clause-keeps
returns-clause-keeps g c =
    let s = c.self.inside in
    subst (λ (q : ClientSight). Keeps (b g c) q (record { id = q.id; seen = new g c })) c.client.view_is (λ l v had.
    recovered_keeps (b g c) (z g c) (x g c) s.note.table s.note.number c.self.invariant (t g c) (later g c) (new g c) (told_so g c) c.sign_recovery.ensures.all l v
    (keeps_on (b g c) (client g c) l v (m g c).seen c.client.invariant.2 c.meet.ensures.all (mine g c) had))

pub returns-clause-beside : goal.returns-clause-beside
returns-clause-beside g c =
    let s = c.self.inside in
    subst (λ (q : ClientSight). StaysAll (b g c) q (record { id = q.id; seen = new g c })) c.client.view_is (λ u.
    let met = beside_on (b g c) (client g c) (m g c).seen c.client.invariant.2 c.meet.ensures.all (mine g c) u in
    let then = recovered_beside (b g c) (z g c) (x g c) s.note.table s.note.number c.self.invariant (new g c) (told_so g c) c.sign_recovery.ensures.all u in
    ((λ rests. then.0 (met.0 rests)), (λ p own drives. then.1 p own (met.1 p own drives))))
