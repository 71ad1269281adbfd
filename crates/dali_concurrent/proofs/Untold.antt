-- Where no entry tells a flush, none is made.
use Rattle.std.proofs.Common.{◌≡◌, ℕ, false, List, [], ◌∷◌, ◌++◌, length, Some, refl, ap, sym, ◌∙◌}
use Rattle.std.specs.Prelude.{slice_get}
use Rattle.std.specs.List.{list_any}
use Rattle.dali_lists.proofs.Lists.{get_behind}
use Rattle.dali_runs.specs.State.{stable}
use Rattle.dali_runs.specs.Run.{Bases}
use Rattle.dali_runs.specs.Courses.{Step, Begins, Operates, TakesBack, Frees, Answers, Commits, Ends, AuditBegins, AuditEnds, Locks, Refuses, OnRegion, Passes, Dies, Claims, GivesBack, Recovers, Stops, Checkpoints, Takes, Flushes, Faults, ReadFails, Moment, IsStepAt}
use Rattle.dali_crash.specs.Checkpoints.{StoreStep, Does, Starts, Keeps, Copies, Skips, WritesHead, Syncs, Turns, CopyFails, HeadFails, SyncFails, TurnFails, Finishes, Point, IsPointStep, IsPointCourse, moment_of}
use Rattle.dali_concurrent.specs.Entries.{Entry, Flushed, Entries, At}
use Rattle.dali_concurrent.specs.Rules.{Outset}
use Rattle.dali_concurrent.specs.Told.{Line, History, plain, plain_one, core_told}
use Rattle.dali_concurrent.specs.Landing.{BeginsAt}
use Rattle.dali_concurrent.specs.Kept.{Follows, AllFollow}
use Rattle.dali_concurrent.proofs.Lists.{get_of_front, by_fronts}
use Rattle.dali_concurrent.proofs.Entries.{neither}
use Rattle.dali_concurrent.proofs.Steps.{is_flush, is_flushing, no_flushes}
use Rattle.dali_concurrent.proofs.Told.{plain-append}
use Rattle.dali_concurrent.proofs.Kept.{stands_of}

-- ---- steps
still_step : (m n : Moment) (x : Step) → IsStepAt m x n → is_flush (Does x) ≡ false → stable n.core ≡ stable m.core
still_step m n Begins s none = ap stable s.0.1.1
still_step m n (Operates t b) s none = ap stable s.0.3.1
still_step m n (TakesBack t b) s none = ap stable s.0.2.1
still_step m n (Frees p b) s none = ap stable s.0.2.1
still_step m n (Answers t k a) s none = ap stable s.0.3.1
still_step m n (Commits t) s none = ap stable s.0.2.1
still_step m n (Ends t) s none = ap stable s.0.2.1
still_step m n AuditBegins s none = ap stable s.0.2.1
still_step m n (AuditEnds b found) s none = ap stable s.0.1.1
still_step m n (Locks t k mode) s none = ap stable s.0.2.1
still_step m n (Refuses t k mode h) s none = ap stable s.0.2.1
still_step m n (OnRegion r x) s none = ap stable s.0.3.1
still_step m n (Passes b r) s none = ap stable s.0.2.1
still_step m n (Dies t o) s none = ap stable s.0.1.1
still_step m n (Claims t) s none = ap stable s.0.2.1
still_step m n (GivesBack t o) s none = ap stable s.0.1.1
still_step m n (Recovers r) s none = ap stable s.0.3.1
still_step m n Stops s none = ap stable s.0.1.1
still_step m n (Checkpoints b) s none = ap stable s.0.1.1
still_step m n Takes s none = ap stable s.0.1
still_step m n Flushes s none = absurd (cc)
still_step m n (Faults k) s none = ap stable s.0.2.1
still_step m n (ReadFails k) s none = ap stable s.0.1.1

as_was : {q z : Point} → q ≡ z → stable q.core ≡ stable z.core
as_was e = ap (λ (y : Point). stable y.core) e

still_one : (p q : Point) (x : StoreStep) → IsPointStep p x q → is_flush x ≡ false → stable q.core ≡ stable p.core
still_one p q (Does x) s none = still_step (moment_of p) (moment_of q) x s.1 none
still_one p q Starts s none = as_was s.1
still_one p q Keeps s none = as_was s.4
still_one p q (Copies r n) s none = as_was s.5
still_one p q (Skips r n) s none = as_was s.5
still_one p q (WritesHead h) s none = as_was s.1
still_one p q Syncs s none = as_was s.1
still_one p q Turns s none = as_was s.5
still_one p q (CopyFails r ws n) s none = as_was s.4
still_one p q (HeadFails h n) s none = as_was s.1
still_one p q (SyncFails n) s none = as_was s.1
still_one p q (TurnFails n) s none = as_was s.5
still_one p q Finishes s none = as_was s.1

still_course : (p q : Point) (xs : List StoreStep) → IsPointCourse p xs q → list_any is_flush xs ≡ false → stable q.core ≡ stable p.core
still_course p q [] course none = ap (λ (z : Point). stable z.core) (sym course)
still_course p q (x ∷ xs) course none =
    let both = neither (is_flush x) (list_any is_flush xs) none in still_course course.0 q xs course.2 both.1 ∙ still_one p course.0 x course.1 both.0

-- ---- along the history
abbrev NoFlush : Entries → Type 0
NoFlush P = (i : ℕ) (ks : List ℕ) → At P i (ks, Flushed) → ⊥

unflushed : (x : Entry) → (x ≡ Flushed → ⊥) → is_flushing x ≡ false
unflushed Flushed other = absurd (other refl)
unflushed x other = refl

module _ (bases : Bases) (p : Point) (o : Outset) (begins : BeginsAt bases p o) where
  abbrev AsWas : History → Type 0
  AsWas T = NoFlush (plain T) → stable (core_told o T) ≡ stable o.old

  step : (A : History) (e : Line) → AllFollow bases p o A → Follows bases p o A e → AsWas A → AsWas (A ++ e ∷ [])
  step A e all follows had none =
      let at = stands_of bases p o A begins all in
      let l = follows.lands at.0 at.1 in
      let told : plain (A ++ e ∷ []) ≡ plain A ++ plain_one e ∷ [] = plain-append A (e ∷ []) in
      let before : NoFlush (plain A) = λ i ks there. none i ks (ap (λ P. slice_get P i) told ∙ (get_of_front (plain A) (plain_one e ∷ []) i (ks, Flushed) there).0) in
      let other : e.1.0 ≡ Flushed → ⊥ = λ is. none (length (plain A)) e.0 (ap (λ P. slice_get P (length (plain A))) told ∙ (get_behind (plain A) (plain_one e) [] ∙ ap (λ z. Some (e.0, z)) is)) in
      ap stable (sym l.1.core)
      ∙ (still_course at.0 l.0 e.1.2 l.1.course (no_flushes e.1.0 e.1.2 (unflushed e.1.0 other) follows.steps) ∙ (ap stable at.1.comes.core ∙ had before))

  pub flushes_are_told : (T : History) → AllFollow bases p o T → AsWas T
  flushes_are_told T all = by_fronts (Follows bases p o) AsWas (λ none. refl) step T all
