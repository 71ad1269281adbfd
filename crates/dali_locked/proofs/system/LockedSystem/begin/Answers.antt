use Rattle.std.proofs.Common.{◌≡◌, ℕ, [], ◌∷◌, Option, Some, None, refl, sym, ap, subst, ◌∙◌}
use Rattle.dali_record.specs.declared.records.Record.TheVariants.{Begin}
use Rattle.dali_runs.specs.State.{SystemState}
use Rattle.dali_runs.specs.Steps.{begun}
use Rattle.dali_runs.specs.Courses.{Begins}
use Rattle.dali_crash.specs.Checkpoints.{Does}
use Rattle.dali_crash.specs.Traces.{bases_of}
use Rattle.dali_system.specs.Served.{Served}
use Rattle.dali_transcripts.specs.World.{Logs}
use Rattle.dali_notes.specs.History.{MayAdd, Added, Sight}
use Rattle.dali_concurrent.specs.Entries.{Did}
use Rattle.dali_concurrent.specs.Told.{OnSystem, Item}
use Rattle.dali_locked.specs.Begun.{Begun, may_add, outset, homed}
use Rattle.dali_locked.specs.Sights.{ClientSight, HasLogged, Knows}
use Rattle.dali_locked.specs.SystemSteps.{Resting, Takes}
use Rattle.dali_locked.proofs.SystemTelling.{Hands, may_tell, known, client_kept, system_kept, has_begun, logged_there}
use Rattle.dali_locked.proofs.SystemCases.{begin_line, begin_rests}
use Rattle.dali_locked.proofs.system.LockedSystem.begin.Given as given
use Rattle.dali_locked.proofs.system.LockedSystem.begin.Goals as goal

abbrev item : ℕ → ℕ → SystemState → Item
item c t z = (Did (Logs (Begin t)) c, OnSystem z, Does Begins ∷ [])

same_item : (c t u : ℕ) (z w : Served) → u ≡ t → w ≡ z → item c t z.state ≡ item c u w.state
same_item c t u z w e f = ap (λ v. item c v z.state) (sym e) ∙ ap (λ (v : Served). item c u v.state) (sym f)

pub tell-requires-clause-may : goal.tell-requires-clause-may
tell-requires-clause-may g c κs within =
    let b = (homed g.H.Home.table g.B.Beginning.begun) in
    let x = c.client.inside.note in
    let y = c.self.inside.note in
    let st : SystemState = c.self.inside.system.state in
    let h : Hands b x y c.client.inside.id st = record { client = c.client.invariant.1; system = c.self.invariant.1; led = c.client.invariant.2; told = c.self.invariant.3 } in
    subst (MayAdd (may_add b) (x ∷ y ∷ [])) (same_item c.client.inside.id st.next c.in_ok-txn.txn (record c.self.inside.system { state = begun st }) c.begin.new.self c.in_ok-txn.ensures.number.0 c.in_ok-txn.ensures.ok)
    (may_tell b x y c.client.inside.id st h (item c.client.inside.id st.next (begun st)) (λ s p from now hand. begin_line (bases_of s) p (outset b s p) b.count c.client.inside.id x.seen st now hand c.in_ok-txn.ensures.room))

module _ (g : given.Over) (c : goal.After-tell g) where
  abbrev b : Begun
  b = (homed g.H.Home.table g.B.Beginning.begun)

  abbrev x : Sight Item
  x = c.client.inside.note

  abbrev y : Sight Item
  y = c.self.inside.note

  abbrev id : ℕ
  id = c.client.inside.id

  abbrev st : SystemState
  st = c.self.inside.system.state

  hands : Hands b x y id st
  hands = record { client = c.client.invariant.1; system = c.self.invariant.1; led = c.client.invariant.2; told = c.self.invariant.3 }

  added : Added (x ∷ y ∷ []) (item id st.next (begun st)) c.tell.new.client.seen
  added = subst (λ i. Added (x ∷ y ∷ []) i c.tell.new.client.seen)
      (sym (same_item id st.next c.in_ok-txn.txn (record c.self.inside.system { state = begun st }) c.begin.new.self c.in_ok-txn.ensures.number.0 c.in_ok-txn.ensures.ok)) c.tell.ensures.added

pub invariant_of-self-2 : goal.invariant_of-self-2
invariant_of-self-2 g c =
    system_kept (b g c) (x g c) (y g c) (id g c) (st g c) (hands g c) c.tell.new.system (Did (Logs (Begin c.in_ok-txn.txn)) (id g c)) c.begin.new.self.state (Does Begins ∷ []) c.tell.new.client.seen
    c.tell.ensures.system c.self.invariant.0 c.tell.ensures.added c.tell.ensures.all

pub invariant_of-client : goal.invariant_of-client
invariant_of-client g c = client_kept (b g c) (x g c) (y g c) (id g c) (st g c) (hands g c) c.tell.new.client c.tell.ensures.client c.client.invariant.0 c.tell.ensures.all

pub returns-clause-rests : goal.returns-clause-rests
returns-clause-rests g c =
    subst (λ (v : ClientSight). Knows (b g c) (Resting v.id c.in_ok-txn.txn) (record { id = v.id; seen = c.tell.new.client.seen })) c.client.view_is
    (subst (λ t. Knows (b g c) (Resting (id g c) t) (record { id = id g c; seen = c.tell.new.client.seen })) (sym c.in_ok-txn.ensures.number.0)
    (known (b g c) (x g c) (y g c) (id g c) (st g c) (hands g c) (item (id g c) (st g c).next (begun (st g c))) c.tell.new.client.seen (added g c) c.tell.ensures.all (Resting (id g c) (st g c).next)
    (λ s p from now hand behind. begin_rests (bases_of s) p (outset (b g c) s p) (b g c).count (id g c) (x g c).seen (st g c) now hand)))

pub returns-clause-takes : goal.returns-clause-takes
returns-clause-takes g c =
    subst (λ (v : ClientSight). Takes (b g c) v c.in_ok-txn.txn (record { id = v.id; seen = c.tell.new.client.seen })) c.client.view_is
    (has_begun (b g c) (x g c) (y g c) (id g c) (st g c) (hands g c) (Logs (Begin c.in_ok-txn.txn)) (OnSystem c.begin.new.self.state) (Does Begins ∷ []) c.tell.new.client.seen c.tell.ensures.added c.tell.ensures.all c.in_ok-txn.txn refl)

pub returns-clause-receipt : goal.returns-clause-receipt
returns-clause-receipt g c =
    subst (λ t. Knows (b g c) (HasLogged t (Begin c.in_ok-txn.txn)) (record { id = id g c; seen = c.tell.new.client.seen })) (sym c.in_ok-txn.ensures.number.1)
    (known (b g c) (x g c) (y g c) (id g c) (st g c) (hands g c) (item (id g c) c.in_ok-txn.txn c.begin.new.self.state) c.tell.new.client.seen c.tell.ensures.added c.tell.ensures.all (HasLogged (st g c).records (Begin c.in_ok-txn.txn))
    (λ s p from now hand behind. logged_there (bases_of s) p (outset (b g c) s p) (b g c).count (id g c) (x g c).seen (st g c) now hand _ (Begin c.in_ok-txn.txn) _ _))
