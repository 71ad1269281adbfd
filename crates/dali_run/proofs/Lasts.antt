-- What a step leaves of what is noted of a region: each region behind it stood there before, and what was noted of it lasts.
use Rattle.std.proofs.Common.{◌≡◌, ℕ, Bool, true, false, List, None, Some, refl, ap, sym, subst, ◌∙◌, ⊎_elim}
use Rattle.std.specs.Prelude.{◌==◌, ◌&&◌, ◌||◌, if◌then◌else◌, slice_get, slice_set}
use Rattle.dali_lists.proofs.Lists.{set_cases}
use Rattle.dali_region.specs.declared.Side.{Side}
use Rattle.dali_region.specs.declared.Side.TheVariants.{A, B}
use Rattle.dali_region.specs.Answers.{cleaned}
use Rattle.dali_region.specs.State.{RegionState, checked, counted, dead, taken_back, touched}
use Rattle.dali_runs.specs.Courses.{Step, Begins, Operates, TakesBack, Frees, Answers, Commits, Ends, AuditBegins, AuditEnds, Locks, Refuses, OnRegion, Passes, Dies, Claims, GivesBack, Recovers, Stops, Checkpoints, Takes, Flushes, Faults, ReadFails, Moment, IsStepAt}
use Rattle.dali_runs.specs.Regions.{RegionStep, Latch, NoteReads, Update, TakeBack, Poke, Check, Die, Clean, region_after}
use Rattle.dali_runs.specs.State.{CoreState}
use Rattle.dali_runs.proofs.Deaths.{dead_at, region_with}
use Rattle.dali_crash.specs.Checkpoints.{Point, StoreStep, Does, Keeps, Copies, Skips, Turns, CopyFails, TurnFails, target, IsPointStep, moment_of}

-- ---- one region
-- a stray write and a missed one are never forgotten, and no block is counted as sound behind the first stray write
pub record Lasts (g h : RegionState) : Type 0 where
  pub poked : g.poked ≡ true → h.poked ≡ true
  pub missed : g.missed ≡ true → h.missed ≡ true
  pub sound : g.poked ≡ true → h.sound ≡ g.sound

pub stays : (g : RegionState) → Lasts g g
stays g = record { poked = λ p. p; missed = λ m. m; sound = λ p. refl }

pub on : (g h k : RegionState) → Lasts g h → Lasts h k → Lasts g k
on g h k one two = record {
  poked = λ p. two.poked (one.poked p);
  missed = λ m. two.missed (one.missed m);
  sound = λ p. two.sound (one.poked p) ∙ one.sound p;
}

by_touch : (g : RegionState) → Lasts g (touched g)
by_touch g = record { poked = λ p. p; missed = λ m. m; sound = λ p. ap (λ (b : Bool). if b then g.sound else counted g.sound) p }

by_check : (g : RegionState) → Lasts g (checked g)
by_check g = record { poked = λ p. p; missed = λ m. ap (λ (b : Bool). b || (g.poked && (g.stray == 0))) m; sound = λ p. refl }

by_clean : (t : Side) (g : RegionState) → Lasts g (cleaned t g)
by_clean A g = record { poked = λ p. p; missed = λ m. m; sound = λ p. refl }
by_clean B g = record { poked = λ p. p; missed = λ m. m; sound = λ p. refl }

by_step : (x : RegionStep) (g : RegionState) → Lasts g (region_after x g)
by_step (Poke i m) g = record { poked = λ p. refl; missed = λ m. m; sound = λ p. refl }
by_step Check g = by_check g
by_step (Clean t) g = by_clean t g
by_step (Latch t) g = record { poked = λ p. p; missed = λ m. m; sound = λ p. refl }
by_step (NoteReads m) g = record { poked = λ p. p; missed = λ m. m; sound = λ p. refl }
by_step (Update i v) g = record { poked = λ p. p; missed = λ m. m; sound = λ p. refl }
by_step TakeBack g = record { poked = λ p. p; missed = λ m. m; sound = λ p. refl }
by_step Die g = record { poked = λ p. p; missed = λ m. m; sound = λ p. refl }

-- ---- one region of all, over a step
pub record WasBefore (old : List RegionState) (r : ℕ) (h : RegionState) : Type 0 where
  pub was : RegionState
  pub at : slice_get old r ≡ Some was
  pub lasts : Lasts was h

same_all : (old new : List RegionState) (r : ℕ) (h : RegionState) → new ≡ old → slice_get new r ≡ Some h → WasBefore old r h
same_all old new r h same e = record { was = h; at = ap (λ (rs : List RegionState). slice_get rs r) (sym same) ∙ e; lasts = stays h }

one_set : (old new : List RegionState) (q r : ℕ) (g k h : RegionState) → new ≡ slice_set old q k → slice_get old q ≡ Some g → Lasts g k → slice_get new r ≡ Some h → WasBefore old r h
one_set old new q r g k h is at lasts e = ⊎_elim
    (λ w. record {
      was = g;
      at = subst (λ i. slice_get old i ≡ Some g) (sym w.0) at;
      lasts = subst (Lasts g) (sym w.1) lasts;
    })
    (λ w. record { was = h; at = w.1; lasts = stays h })
    (set_cases old q k r h (ap (λ (rs : List RegionState). slice_get rs r) (sym is) ∙ e))

moment_was : (m n : Moment) (x : Step) → IsStepAt m x n → (r : ℕ) (h : RegionState) → slice_get n.core.regions r ≡ Some h → WasBefore m.core.regions r h
moment_was m n Begins s r h e = same_all m.core.regions n.core.regions r h (ap (λ (c : CoreState). c.regions) s.0.1.1) e
moment_was m n (Operates t b) s r h e = one_set m.core.regions n.core.regions b.region r s.0.0 (touched s.0.0) h (ap (λ (c : CoreState). c.regions) s.0.3.1) s.0.2.at (by_touch s.0.0) e
moment_was m n (TakesBack t b) s r h e = one_set m.core.regions n.core.regions b.region r s.0.0 (touched s.0.0) h (ap (λ (c : CoreState). c.regions) s.0.2.1) s.0.1.at (by_touch s.0.0) e
moment_was m n (Frees p b) s r h e = one_set m.core.regions n.core.regions b.region r s.0.0 (touched s.0.0) h (ap (λ (c : CoreState). c.regions) s.0.2.1) s.0.1.at (by_touch s.0.0) e
moment_was m n (Answers t k a) s r h e = same_all m.core.regions n.core.regions r h (ap (λ (c : CoreState). c.regions) s.0.3.1) e
moment_was m n (Commits t) s r h e = same_all m.core.regions n.core.regions r h (ap (λ (c : CoreState). c.regions) s.0.2.1) e
moment_was m n (Ends t) s r h e = same_all m.core.regions n.core.regions r h (ap (λ (c : CoreState). c.regions) s.0.2.1) e
moment_was m n AuditBegins s r h e = same_all m.core.regions n.core.regions r h (ap (λ (c : CoreState). c.regions) s.0.2.1) e
moment_was m n (AuditEnds b found) s r h e = same_all m.core.regions n.core.regions r h (ap (λ (c : CoreState). c.regions) s.0.1.1) e
moment_was m n (Locks t k mode) s r h e = same_all m.core.regions n.core.regions r h (ap (λ (c : CoreState). c.regions) s.0.2.1) e
moment_was m n (Refuses t k mode o) s r h e = same_all m.core.regions n.core.regions r h (ap (λ (c : CoreState). c.regions) s.0.2.1) e
moment_was m n (OnRegion q x) s r h e = one_set m.core.regions n.core.regions q r s.0.0 (region_after x s.0.0) h (ap (λ (c : CoreState). c.regions) s.0.3.1) s.0.1 (by_step x s.0.0) e
moment_was m n (Passes b q) s r h e = one_set m.core.regions n.core.regions q r s.0.0 (checked s.0.0) h (ap (λ (c : CoreState). c.regions) s.0.2.1) s.0.1 (by_check s.0.0) e
moment_was m n (Dies t None) s r h e = same_all m.core.regions n.core.regions r h (ap (λ (c : CoreState). c.regions) s.0.1.1) e
moment_was m n (Dies t (Some q)) s r h e =
    let held = s.0.0.latched.held q refl in
    let region = region_with (slice_get m.core.regions q) held.0 held.1 in
    one_set m.core.regions n.core.regions q r region.0 (dead region.0) h (ap (λ (c : CoreState). c.regions) s.0.1.1 ∙ dead_at m.core.regions q region.0 region.1) region.1 (by_step Die region.0) e
moment_was m n (Claims t) s r h e = same_all m.core.regions n.core.regions r h (ap (λ (c : CoreState). c.regions) s.0.2.1) e
moment_was m n (GivesBack t o) s r h e = same_all m.core.regions n.core.regions r h (ap (λ (c : CoreState). c.regions) s.0.1.1) e
moment_was m n (Recovers q) s r h e = one_set m.core.regions n.core.regions q r s.0.0 (taken_back s.0.0) h (ap (λ (c : CoreState). c.regions) s.0.3.1) s.0.1 (by_step TakeBack s.0.0) e
moment_was m n Stops s r h e = same_all m.core.regions n.core.regions r h (ap (λ (c : CoreState). c.regions) s.0.1.1) e
moment_was m n (Checkpoints b) s r h e = same_all m.core.regions n.core.regions r h (ap (λ (c : CoreState). c.regions) s.0.1.1) e
moment_was m n Takes s r h e = same_all m.core.regions n.core.regions r h (ap (λ (c : CoreState). c.regions) s.0.1) e
moment_was m n Flushes s r h e = same_all m.core.regions n.core.regions r h (ap (λ (c : CoreState). c.regions) s.0.1.1) e
moment_was m n (Faults k) s r h e = same_all m.core.regions n.core.regions r h (ap (λ (c : CoreState). c.regions) s.0.2.1) e
moment_was m n (ReadFails k) s r h e = same_all m.core.regions n.core.regions r h (ap (λ (c : CoreState). c.regions) s.0.1.1) e

pub point_was : (p q : Point) (x : StoreStep) → IsPointStep p x q → (r : ℕ) (h : RegionState) → slice_get q.core.regions r ≡ Some h → WasBefore p.core.regions r h
point_was p q (Does x) s r h e = moment_was (moment_of p) (moment_of q) x s.1 r h e
point_was p q (Copies i n) s r h e = one_set p.core.regions q.core.regions i r s.0 (cleaned (target p) s.0) h (ap (λ (z : Point). z.core.regions) s.5) s.1 (by_clean (target p) s.0) e
point_was p q Keeps s r h e = same_all p.core.regions q.core.regions r h (ap (λ (z : Point). z.core.regions) s.4) e
point_was p q (Skips i n) s r h e = same_all p.core.regions q.core.regions r h (ap (λ (z : Point). z.core.regions) s.5) e
point_was p q Turns s r h e = same_all p.core.regions q.core.regions r h (ap (λ (z : Point). z.core.regions) s.5) e
point_was p q (CopyFails i ws n) s r h e = same_all p.core.regions q.core.regions r h (ap (λ (z : Point). z.core.regions) s.4) e
point_was p q (TurnFails n) s r h e = same_all p.core.regions q.core.regions r h (ap (λ (z : Point). z.core.regions) s.5) e
point_was p q _ s r h e = same_all p.core.regions q.core.regions r h (ap (λ (z : Point). z.core.regions) s.1) e

-- ---- a flag that was never set
pub never_yet : (b : Bool) → (b ≡ true → true ≡ false) → b ≡ false
never_yet false no_more = refl
never_yet true no_more = no_more refl
