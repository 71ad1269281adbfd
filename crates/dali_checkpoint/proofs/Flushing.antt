-- A flush of all records between the calls.
use Rattle.std.proofs.Common.{refl, Option, ℕ, [], ◌∷◌, sym, subst, ◌∙◌, arith}
use Rattle.dali_geometry.specs.Sizes.{Sizes}
use Rattle.dali_geometry.specs.Places.{regions}
use Rattle.dali_store.specs.Store.{Files as Disk}
use Rattle.dali_store.specs.declared.store.Store.{Ghosts}
use Rattle.dali_runs.specs.Steps.{taken}
use Rattle.dali_runs.specs.Courses.{Takes, Flushes}
use Rattle.dali_crash.specs.Checkpoints.{Head, Does, Point, IsPointCourse}
use Rattle.dali_core.specs.Flushed.{AllFlushed}
use Rattle.dali_core.proofs.Flushing.{flushes_all}
use Rattle.dali_checkpoint.specs.Running.{AreCopied, PassesTell}
use Rattle.dali_checkpoint.specs.Laws.{FlushKeeps}
use Rattle.dali_checkpoint.proofs.Audited.{passes_go_on, certified_on}
use Rattle.dali_checkpoint.proofs.Calls.{flush_ran, copying_flushed, CopyingFlushed, settled_flushed, SettledFlushed}
use Rattle.dali_checkpoint.proofs.Stays.{Stays, takes_stays, flushes_stays, both_stay, all_copied_on}

pub same_regions : (p q : Point) (h : Head) (n : ℕ) → Stays p q → AreCopied p h n (regions p.core.system.sizes) → AreCopied q h n (regions q.core.system.sizes)
same_regions p q h n stay copies = subst (λ (z : Sizes). AreCopied q h n (regions z)) (sym stay.sizes) (all_copied_on p q h n n (regions p.core.system.sizes) stay (omega arith) copies)

-- what an audit has told, a flush leaves
pub tells_on : (p q : Point) (h : Head) (n b : ℕ) → IsPointCourse p (Does Takes ∷ Does Flushes ∷ []) q → AreCopied p h n (regions p.core.system.sizes) → PassesTell p b → PassesTell q b
tells_on p q h n b course copies tells =
    let m = course.0 in
    let stay = takes_stays p m course.1 in
    let mid = passes_go_on p m Takes h n b course.1 stay copies tells in
    let late = passes_go_on m course.2.0 Flushes h n b course.2.1 (flushes_stays m course.2.0 course.2.1) (same_regions p m h n stay copies) mid in
    subst (λ (z : Point). PassesTell z b) course.2.2 late

module _ {V : Type 0} (means : Ghosts V) where
  pub flush_keeps : FlushKeeps means
  flush_keeps s B p gs y v w said = record {
    idle = λ k.
        let f : AllFlushed means s p gs v (taken y) w = flushes_all means gs y (taken y) v w (flush_ran means y v w said) said refl s B p k.at in
        record {
          to = f.to;
          batches = f.batches;
          course = f.course;
          is = record { at = f.at; flag = k.flag; begun = (both_stay p f.to f.course).begun ∙ k.begun };
        };
    copying = λ c h k.
        let f : CopyingFlushed means s p gs (taken y) w c h = copying_flushed means s B p gs y (taken y) v w c h k said refl in
        record { to = f.to; batches = f.batches; course = f.course; is = f.is };
    settled = λ c h n k.
        let f : SettledFlushed means s p gs (taken y) w c h n = settled_flushed means s B p gs y (taken y) v w c h n k said refl in
        record {
          to = f.to;
          batches = f.batches;
          course = f.course;
          is = (f.is, λ b. tells_on p f.to h n b f.course k.copies, λ m b. certified_on p f.to m b f.stay);
        };
  }
