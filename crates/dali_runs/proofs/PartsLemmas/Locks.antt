-- Each step on the locks keeps their part.
use Rattle.std.proofs.Common.{◌≡◌, ℕ, Bool, true, false, cond, Some, None, refl, ap, sym, ◌∙◌, ◌⊎◌, inl, inr, ⊎_elim}
use Rattle.std.specs.Prelude.{◌==◌}
use Rattle.std.specs.FinMap.{get}
use Rattle.std.proofs.lemmas.Bool.{eqb-true}
use Rattle.dali_record.specs.declared.records.Record.{Record}
use Rattle.dali_record.specs.declared.records.Record.TheVariants.{Format, Ended, Restarted}
use Rattle.dali_record.specs.Blocks.{changes_item}
use Rattle.dali_record.specs.Epochs.{separates}
use Rattle.dali_record.specs.Log.{Touch, touch_of}
use Rattle.dali_locks.specs.declared.mode.Mode.{Mode}
use Rattle.dali_locks.specs.Locks.{Locks, locks_without}
use Rattle.dali_locks.proofs.Kept.{locks_without_at}
use Rattle.dali_runs.specs.Run.{covers}
use Rattle.dali_runs.proofs.OneMore.{is_inside, LockRun-push}
use Rattle.dali_runs.proofs.QuietSteps.{lock_granted, lock_refused}
use Rattle.dali_runs.specs.Parts.Locks.{LocksGrant, LocksRefuse, locks_after, LocksLog}

-- ---- a lock that is granted

pub locks_grant : LocksGrant
locks_grant = lock_granted

-- ---- a lock that is refused

pub locks_refuse : LocksRefuse
locks_refuse = lock_refused

-- ---- one record more
pub inside_of : (x : Record) → separates x ≡ false → is_inside x ≡ true
inside_of (Format i h) e = absurd (cc)
inside_of (Restarted rs ds) e = absurd (cc)
inside_of _ e = refl

-- who ends, or what is held still
stays : (x : Record) (K : Locks) (t k : ℕ) → (x ≡ Ended t) ⊎ (get (locks_after x K) (t, k) ≡ get K (t, k))
stays (Ended u) K t k = by_test (u == t) refl
  where
    by_test : (b : Bool) → (u == t) ≡ b → (Ended u ≡ Ended t) ⊎ (get (locks_without K u) (t, k) ≡ get K (t, k))
    by_test true e = inl (ap Ended (eqb-true u t e))
    by_test false e = inr (locks_without_at K u t k ∙ ap (λ (b : Bool). cond b None (get K (t, k))) e)
stays (Format i h) K t k = inr refl
stays _ K t k = inr refl

-- no lock is new
was_held : (x : Record) (K : Locks) (t k : ℕ) (m : Mode) → get (locks_after x K) (t, k) ≡ Some m → get K (t, k) ≡ Some m
was_held (Ended u) K t k m e = by_test (u == t) (sym (locks_without_at K u t k) ∙ e)
  where
    by_test : (b : Bool) → cond b None (get K (t, k)) ≡ Some m → get K (t, k) ≡ Some m
    by_test true f = absurd (cc)
    by_test false f = f
was_held (Format i h) K t k m e = e
was_held _ K t k m e = e

-- a record with a block ends nobody
block_leaves : (x : Record) (a : Touch) (K : Locks) → touch_of x ≡ Some a → locks_after x K ≡ K
block_leaves (Ended u) a K e = absurd (cc)
block_leaves _ a K e = refl

pub locks_log : LocksLog
locks_log s L x y z run inside locks refusals owned owner = LockRun-push s L x y z run (inside_of x inside) refusals
    (λ t k. ⊎_elim (λ ends. inl ends) (λ same. inr (ap (λ (K : Locks). get K (t, k)) locks ∙ same)) (stays x y.locks t k))
    (λ t k m e. (was_held x y.locks t k m (sym (ap (λ (K : Locks). get K (t, k)) locks) ∙ e), owned t k m e))
    (λ a e. ap (λ (K : Locks). covers (get K (a.owner, a.block.key)) (changes_item a.block)) (locks ∙ block_leaves x a y.locks e) ∙ owner a e)
