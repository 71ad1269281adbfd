-- What a step of others leaves of a checkpoint.
use Rattle.std.proofs.Common.{◌≡◌, ℕ, ◌+◌, ◌≤◌, Bool, true, [], ◌∷◌, length, Option, Some, None, refl, ap, sym, subst, ◌∙◌, ⊎_elim, arith, length-append}
use Rattle.std.specs.Prelude.{◌||◌, slice_get}
use Rattle.std.proofs.lemmas.Bool.{or_left}
use Rattle.dali_lists.proofs.Lists.{get_front}
use Rattle.dali_record.specs.declared.records.Record.{Record}
use Rattle.dali_region.specs.declared.Side.{Side}
use Rattle.dali_runs.specs.State.{CoreState}
use Rattle.dali_runs.specs.Flushes.{frame_of}
use Rattle.dali_runs.specs.Courses.{Step, Takes, Flushes}
use Rattle.dali_runs.proofs.Courses.{Goes, step_goes}
use Rattle.dali_crash.specs.Checkpoints.{Head, Copy, Does, Point, target, side_of, pass_copy, passes_region, IsPointStep, IsPointCourse, moment_of}
use Rattle.dali_crash.proofs.StepLeaves.{longer_parts}
use Rattle.dali_image.specs.Laws.{header_of}
use Rattle.dali_checkpoint.specs.Kept.{Checkpointed}
use Rattle.dali_checkpoint.specs.Running.{IsCopiedAt, AreCopied, IsOf, IsPassedAt}

-- a copy, as it was or passed besides
pub record IsStill (o : Option Copy) (k : Copy) : Type 0 where
  pub copy : Copy
  pub there : o ≡ Some copy
  pub at : copy.at ≡ k.at
  pub passed : k.passed ≡ true → copy.passed ≡ true

pub record Stays (p q : Point) : Type 0 where
  pub begun : q.begun ≡ p.begun
  pub sizes : q.core.system.sizes ≡ p.core.system.sizes
  pub current : q.core.vault.current ≡ p.core.vault.current
  pub told : q.told ≡ p.told
  pub copies : (side : Side) (r : ℕ) (k : Copy) → p.copies side r ≡ Some k → IsStill (q.copies side r) k
  pub longer : length p.log ≤ length q.log
  pub log : (k : ℕ) (x : Record) → slice_get p.log k ≡ Some x → slice_get q.log k ≡ Some x

pub stays_then : (p q r : Point) → Stays p q → Stays q r → Stays p r
stays_then p q r s t = record {
  begun = t.begun ∙ s.begun;
  sizes = t.sizes ∙ s.sizes;
  current = t.current ∙ s.current;
  told = t.told ∙ s.told;
  copies = λ side n k e.
      let a = s.copies side n k e in
      let b = t.copies side n a.copy a.there in
      record { copy = b.copy; there = b.there; at = b.at ∙ a.at; passed = λ f. b.passed (a.passed f) };
  longer = omega (arith, s.longer, t.longer);
  log = λ k x e. t.log k x (s.log k x e);
}

-- ---- a step of the core

passed_copy : (b : Bool) (o : Option Copy) (k : Copy) → o ≡ Some k → IsStill (pass_copy b o) k
passed_copy b (Some j) k e = record { copy = record j { passed = j.passed || b }; there = refl; at = let one : j ≡ k = cc in ap (λ (z : Copy). z.at) one; passed = λ f. let one : j ≡ k = cc in or_left j.passed b (ap (λ (z : Copy). z.passed) one ∙ f) }
passed_copy b None k e = absurd (cc)

pub does_stays : (p q : Point) (x : Step) → IsPointStep p (Does x) q → q.core.vault.current ≡ p.core.vault.current → Stays p q
does_stays p q x s current = record {
  begun = ap (λ (z : Point). z.begun) s.2;
  sizes = goes.sizes;
  current = current;
  told = ap (λ (z : Point). z.told) s.2;
  copies = λ side r k e.
      let now = passed_copy (passes_region p.core x r) (p.copies side r) k e in
      record { copy = now.copy; there = ap (λ (z : Point). z.copies side r) s.2 ∙ now.there; at = now.at; passed = now.passed };
  longer = ⊎_elim (λ same. omega (arith, ap length same)) (λ more. omega (arith, ap length more.2, length-append p.log (more.0 ∷ []))) goes.log;
  log = λ k y e. ⊎_elim (λ same. ap (λ L. slice_get L k) same ∙ e) (λ more. ap (λ L. slice_get L k) more.2 ∙ get_front p.log (more.0 ∷ []) k y e) goes.log;
}
  where
    goes : Goes (moment_of p) (moment_of q)
    goes = step_goes (moment_of p) (moment_of q) x s.1

pub takes_stays : (p q : Point) → IsPointStep p (Does Takes) q → Stays p q
takes_stays p q s = does_stays p q Takes s (ap (λ (c : CoreState). c.vault.current) s.1.0.1)

pub flushes_stays : (p q : Point) → IsPointStep p (Does Flushes) q → Stays p q
flushes_stays p q s = does_stays p q Flushes s (ap (λ (c : CoreState). c.vault.current) s.1.0.1.1 ∙ longer_parts p.core.vault (frame_of p.log p.core))

pub both_stay : (p q : Point) → IsPointCourse p (Does Takes ∷ Does Flushes ∷ []) q → Stays p q
both_stay p q c = stays_then p c.0 q (takes_stays p c.0 c.1) (subst (Stays c.0) c.2.2 (flushes_stays c.0 c.2.0 c.2.1))

-- ---- what stays with it
pub same_target : (p q : Point) → q.core.vault.current ≡ p.core.vault.current → target q ≡ target p
same_target p q e = ap (λ n. side_of (n + 1)) e

pub is_of_on : (p q : Point) (c : Checkpointed) (h : Head) → Stays p q → IsOf p c h → IsOf q c h
is_of_on p q c h s is = record {
  begun = s.begun ∙ is.begun;
  header = is.header ∙ ap (λ z. header_of z h) (sym s.sizes);
  table = is.table;
}

pub copied_on : (p q : Point) (h : Head) (n m r : ℕ) → Stays p q → n ≤ m → IsCopiedAt p h n r → IsCopiedAt q h m r
copied_on p q h n m r s le is =
    let now = s.copies (target p) r is.copy is.there in
    record {
      copy = now.copy;
      there = ap (λ side. q.copies side r) (same_target p q s.current) ∙ now.there;
      since = omega (arith, is.since, now.at);
      until = omega (arith, is.until, now.at, le);
    }

pub all_copied_on : (p q : Point) (h : Head) (n m k : ℕ) → Stays p q → n ≤ m → AreCopied p h n k → AreCopied q h m k
all_copied_on p q h n m k s le are = λ r l. copied_on p q h n m r s le (are r l)

pub passed_on : (p q : Point) (r : ℕ) → Stays p q → IsPassedAt p r → IsPassedAt q r
passed_on p q r s is =
    let now = s.copies (target p) r is.copy is.there in
    record { copy = now.copy; there = ap (λ side. q.copies side r) (same_target p q s.current) ∙ now.there; passed = now.passed is.passed }
