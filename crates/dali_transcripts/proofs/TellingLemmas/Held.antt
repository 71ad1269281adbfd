-- The locks of each transaction behind a change of the table of locks.
use Rattle.std.proofs.Common.{◌≡◌, ℕ, Bool, true, false, Option, Some, None, refl, sym, subst}
use Rattle.std.specs.Prelude.{if◌then◌else◌, ◌==◌, ◌&&◌}
use Rattle.std.specs.FinMap.{get}
use Rattle.dali_locks.specs.declared.mode.Mode.{Mode}
use Rattle.dali_locks.specs.declared.mode.Mode.TheVariants.{Shared, Exclusive}
use Rattle.dali_locks.specs.Locks.{Locks, stronger_mode, locks_with, locks_without}
use Rattle.dali_locks.proofs.Changes.{get-locks_with}
use Rattle.dali_locks.proofs.Kept.{locks_without_at}
use Rattle.dali_transcripts.specs.World.{IsNoWeaker}

asked_again : (m : Mode) → Some m ≡ Some (stronger_mode (Some m) m)
asked_again Shared = refl
asked_again Exclusive = refl

both_stronger : (held o : Option Mode) (m : Mode) → IsNoWeaker held o → IsNoWeaker (Some (stronger_mode held m)) (Some (stronger_mode o m))
both_stronger None None m h = asked_again m
both_stronger None (Some n) m h = absurd (cc)
both_stronger (Some Shared) None m h = asked_again m
both_stronger (Some Shared) (Some Shared) m h = asked_again m
both_stronger (Some Shared) (Some Exclusive) m h = absurd (cc)
both_stronger (Some Exclusive) o m h = refl

one_stronger : (held o : Option Mode) (m : Mode) → IsNoWeaker held o → IsNoWeaker (Some (stronger_mode held m)) o
one_stronger held None m h = tt
one_stronger None (Some n) m h = absurd (cc)
one_stronger (Some Shared) (Some Shared) Shared h = refl
one_stronger (Some Shared) (Some Shared) Exclusive h = refl
one_stronger (Some Shared) (Some Exclusive) m h = absurd (cc)
one_stronger (Some Exclusive) (Some n) m h = refl

-- a lock that is granted, and told
pub told_lock : (locks : Locks) (t k : ℕ) (m : Mode) (u j : ℕ) (o : Option Mode) → IsNoWeaker (get locks (u, j)) o
    → IsNoWeaker (get (locks_with locks t k m) (u, j)) (if (t == u) && (k == j) then Some (stronger_mode o m) else o)
told_lock locks t k m u j o h =
    subst (λ held. IsNoWeaker held (if (t == u) && (k == j) then Some (stronger_mode o m) else o)) (sym (get-locks_with locks t k m u j)) (by_test ((t == u) && (k == j)))
  where
    by_test : (b : Bool) → IsNoWeaker (if b then Some (stronger_mode (get locks (u, j)) m) else get locks (u, j)) (if b then Some (stronger_mode o m) else o)
    by_test true = both_stronger (get locks (u, j)) o m h
    by_test false = h

-- or not told
pub untold_lock : (locks : Locks) (t k : ℕ) (m : Mode) (u j : ℕ) (o : Option Mode) → IsNoWeaker (get locks (u, j)) o → IsNoWeaker (get (locks_with locks t k m) (u, j)) o
untold_lock locks t k m u j o h = subst (λ held. IsNoWeaker held o) (sym (get-locks_with locks t k m u j)) (by_test ((t == u) && (k == j)))
  where
    by_test : (b : Bool) → IsNoWeaker (if b then Some (stronger_mode (get locks (u, j)) m) else get locks (u, j)) o
    by_test true = one_stronger (get locks (u, j)) o m h
    by_test false = h

-- a transaction ends
pub ended_lock : (locks : Locks) (t u j : ℕ) (o : Option Mode) → IsNoWeaker (get locks (u, j)) o → IsNoWeaker (get (locks_without locks t) (u, j)) (if t == u then None else o)
ended_lock locks t u j o h = subst (λ held. IsNoWeaker held (if t == u then None else o)) (sym (locks_without_at locks t u j)) (by_test (t == u))
  where
    by_test : (b : Bool) → IsNoWeaker (if b then None else get locks (u, j)) (if b then None else o)
    by_test true = tt
    by_test false = h
