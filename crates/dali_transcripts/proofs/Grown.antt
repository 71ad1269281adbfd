-- Each step of the engine is one in which the world goes on.
use Rattle.std.proofs.Common.{◌≡◌, ℕ, ◌≤◌, true, false, List, [], ◌∷◌, ◌++◌, Option, Some, None, refl, ap, sym, subst, ◌∙◌, arith}
use Rattle.std.specs.Prelude.{Contains}
use Rattle.std.proofs.lemmas.List.{append_assoc, append-nil}
use Rattle.std.proofs.lemmas.List.Elements.{Contains-append_left}
use Rattle.dali_record.specs.declared.records.Record.{Record}
use Rattle.dali_runs.specs.declared.causes.Cause.{Cause}
use Rattle.dali_runs.specs.declared.refusals.Refusal.{Refusal}
use Rattle.dali_runs.specs.State.{CoreState, VaultState, stable}
use Rattle.dali_runs.specs.Steps.{stop_by_audit, stopped_by}
use Rattle.dali_runs.specs.Flushes.{frame_of, longer}
use Rattle.dali_runs.specs.Courses.{Step, Begins, Operates, Answers, AuditEnds, Refuses, OnRegion, Dies, GivesBack, Recovers, Stops, Checkpoints, Takes, Flushes, Faults, ReadFails, IsStep, Moment, IsCourse}
use Rattle.dali_runs.proofs.Flushes.{longer_stopped}
use Rattle.dali_transcripts.specs.World.{Happening, World, Grows}
use Rattle.dali_transcripts.specs.Grown.{world_of, StepsGrow, CoursesGrow}
use Rattle.dali_transcripts.specs.Laws.{GrowsOn}

-- what a step leaves of a core
pub record Onward (c d : CoreState) : Type 0 where
  pub sizes : d.system.sizes ≡ c.system.sizes
  pub limit : d.system.limit ≡ c.system.limit
  pub flushed : stable c ≤ stable d
  pub failed : c.vault.stopped ≡ true → d.vault.stopped ≡ true
  pub sealed : c.vault.stopped ≡ true → stable d ≡ stable c
  pub stop : (cause : Cause) → c.system.stop ≡ Some cause → d.system.stop ≡ Some cause
  pub refusals : (f : Refusal) → Contains c.system.refusals f → Contains d.system.refusals f

audit_stop : (found : List ℕ) (o : Option Cause) (cause : Cause) → o ≡ None → o ≡ Some cause → stop_by_audit found o ≡ Some cause
audit_stop found o cause none some = let no : None ≡ Some cause = sym none ∙ some in absurd (cc)

pub keeps_stop : (o : Option Cause) (cause : Cause) → o ≡ Some cause → stopped_by o ≡ Some cause
keeps_stop None cause e = absurd (cc)
keeps_stop (Some c) cause e = e

-- the system's stop and refusals, and the vault, as they were
pub plain : (c d : CoreState) → d.system.sizes ≡ c.system.sizes → d.system.limit ≡ c.system.limit → d.system.first ≡ c.system.first → d.system.stop ≡ c.system.stop
    → d.system.refusals ≡ c.system.refusals → d.vault ≡ c.vault → Onward c d
plain c d sizes limit first stop refusals vault =
    let same : stable d ≡ stable c = rw (first, vault) refl in
    record {
      sizes = sizes;
      limit = limit;
      flushed = omega (arith, same);
      failed = λ e. rw vault e;
      sealed = λ e. same;
      stop = λ z e. stop ∙ e;
      refusals = λ f h. rw refusals h;
    }

longer_flushed : (v : VaultState) (frame : List Record) → v.flushed ≤ (longer v frame).flushed
longer_flushed v [] = omega arith
longer_flushed v (r ∷ rs) = omega arith

along : (L M : List Record) (c d : CoreState) (x : Step) → IsStep L c x M d → Onward c d
along L M c d Begins (room, adds) = rw (adds.1) (plain c _ refl refl refl refl refl refl)
along L M c d (Operates t b) (g, room, may, adds) = rw (adds.1) (plain c _ refl refl refl refl refl refl)
along L M c d (Answers t k a) (room, spelled, next, adds) = rw (adds.1) (plain c _ refl refl refl refl refl refl)
along L M c d (AuditEnds b found) (may, adds) = rw (adds.1) (record { sizes = refl; limit = refl; flushed = omega arith; failed = λ e. e; sealed = λ e. refl; stop = λ z e. audit_stop found c.system.stop z may.runs e; refusals = λ f h. h })
along L M c d (Refuses t k m h) (row, answer, adds) = rw (adds.1) (record { sizes = refl; limit = refl; flushed = omega arith; failed = λ e. e; sealed = λ e. refl; stop = λ z e. e; refusals = λ f is. Contains-append_left c.system.refusals _ f is })
along L M c d (OnRegion r x) (g, at, may, adds) = rw (adds.1) (plain c _ refl refl refl refl refl refl)
along L M c d (Dies t o) (may, adds) = rw (adds.1) (plain c _ refl refl refl refl refl refl)
along L M c d (GivesBack t o) (may, adds) = rw (adds.1) (plain c _ refl refl refl refl refl refl)
along L M c d (Recovers r) (g, at, may, adds) = rw (adds.1) (plain c _ refl refl refl refl refl refl)
along L M c d Stops (stopped, adds) = rw (adds.1) (record { sizes = refl; limit = refl; flushed = omega arith; failed = λ e. e; sealed = λ e. refl; stop = λ z e. keeps_stop c.system.stop z e; refusals = λ f h. h })
along L M c d (Checkpoints b) (was, adds) = rw (adds.1) (plain c _ refl refl refl refl refl refl)
along L M c d Takes adds = rw (adds.1) (plain c _ refl refl refl refl refl refl)
along L M c d Flushes (runs, adds) =
    let more = longer_flushed c.vault (frame_of L c) in
    rw (adds.1) (record {
      sizes = refl;
      limit = refl;
      flushed = omega (arith, more);
      failed = λ e. longer_stopped c.vault (frame_of L c) ∙ e;
      sealed = λ e. let no : true ≡ false = sym e ∙ runs in absurd (cc);
      stop = λ z e. e;
      refusals = λ f h. h;
    })
along L M c d (Faults k) (runs, rose, adds) = rw (adds.1) (record { sizes = refl; limit = refl; flushed = omega arith; failed = λ e. refl; sealed = λ e. refl; stop = λ z e. e; refusals = λ f h. h })
along L M c d (ReadFails k) (rose, adds) = rw (adds.1) (record { sizes = refl; limit = refl; flushed = omega arith; failed = λ e. e; sealed = λ e. refl; stop = λ z e. e; refusals = λ f h. h })
along L M c d _ s = rw (s.2.1) (plain c _ refl refl refl refl refl refl)

still : (c : CoreState) → Onward c c
still c = plain c c refl refl refl refl refl refl

further : (b c d : CoreState) → Onward b c → Onward c d → Onward b d
further b c d f g = record {
  sizes = g.sizes ∙ f.sizes;
  limit = g.limit ∙ f.limit;
  flushed = let p = f.flushed in let q = g.flushed in omega (arith, p, q);
  failed = λ e. g.failed (f.failed e);
  sealed = λ e. g.sealed (f.failed e) ∙ f.sealed e;
  stop = λ z e. g.stop z (f.stop z e);
  refusals = λ r h. g.refusals r (f.refusals r h);
}

course : (m n : Moment) (xs : List Step) → IsCourse m xs n → Onward m.core n.core
course m n [] h = subst (λ (k : Moment). Onward m.core k.core) h (still m.core)
course m n (x ∷ xs) (k, step, rest) = further m.core k.core n.core (along m.log k.log m.core k.core x step.0) (course k n xs rest)

unfoldable pub grown : (v : World) (more : List Happening) (d : CoreState) → Onward v.core d → Grows v (record v { happened = v.happened ++ more; core = d })
grown v more d on = record {
  old = refl;
  before = refl;
  precheck = refl;
  more = more;
  happened = refl;
  sizes = on.sizes;
  limit = on.limit;
  flushed = on.flushed;
  failed = on.failed;
  sealed = on.sealed;
  stopped = on.stop;
  refusals = on.refusals;
}

pub steps_grow : StepsGrow
steps_grow old before precheck happened more m n x step = grown (world_of old before precheck happened m.core) more n.core (along m.log n.log m.core n.core x step.0)

pub courses_grow : CoursesGrow
courses_grow old before precheck happened more m n xs is = grown (world_of old before precheck happened m.core) more n.core (course m n xs is)

pub grows_on : GrowsOn
grows_on = record {
  still = λ w. (
    record {
      old = refl;
      before = refl;
      precheck = refl;
      more = [];
      happened = sym (append-nil w.happened);
      sizes = refl;
      limit = refl;
      flushed = omega arith;
      failed = λ e. e;
      sealed = λ e. refl;
      stopped = λ z e. e;
      refusals = λ f h. h;
    },
    refl,
  );
  further = λ u v w f g. (
    record {
      old = g.old ∙ f.old;
      before = g.before ∙ f.before;
      precheck = g.precheck ∙ f.precheck;
      more = f.more ++ g.more;
      happened = g.happened ∙ (ap (λ l. l ++ g.more) f.happened ∙ append_assoc u.happened f.more g.more);
      sizes = g.sizes ∙ f.sizes;
      limit = g.limit ∙ f.limit;
      flushed = let p = f.flushed in let q = g.flushed in omega (arith, p, q);
      failed = λ e. g.failed (f.failed e);
      sealed = λ e. g.sealed (f.failed e) ∙ f.sealed e;
      stopped = λ z e. g.stopped z (f.stopped z e);
      refusals = λ r h. g.refusals r (f.refusals r h);
    },
    refl,
  );
}
