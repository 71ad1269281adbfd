-- The locks, as a finite map: at the pair of a transaction's number and a key stands the mode in which the transaction holds the key.
--     lock_cmp, Locks          the order of such pairs;  the map
--     both_shared m n          neither of two modes is exclusive
--     IsApart locks            two holders of one key share it
--     IsFree locks t k m       no other holder of k is in the way of t asking for it in the mode m
--     IsConflict locks t k m h, IsOldestConflict locks t k m h     h is in its way;  and is the oldest that is
--     IsAnswer locks t k m a   what such a request is answered
--     stronger_mode o m        the mode m, or the one that is held (if any), whichever is stronger
--     locks_with locks t k m   the locks with this one, in the stronger of the mode m and the one that t has
--     table_after locks t k m a       the locks after such an answer
--     locks_without locks t    the locks of all others
use Rattle.std.specs.Prelude.{◌≡◌, ℕ, zero, suc, ◌<◌, ◌≤◌, Bool, true, false, not, ◌==◌, Option, Some, None, refl}
use Rattle.std.specs.declared.cmp.Ordering.{Ordering}
use Rattle.std.specs.Ordering.{nat_cmp, ordering_then}
use Rattle.std.specs.FinMap as map
use Rattle.std.specs.Coded.{Coded, code_by, coded_ℕ}
use Rattle.dali_locks.specs.declared.mode.Mode.{Mode}
use Rattle.dali_locks.specs.declared.mode.Mode.TheVariants.{Shared, Exclusive}
use Rattle.dali_locks.specs.declared.mode.LockAnswer.{LockAnswer}
use Rattle.dali_locks.specs.declared.mode.LockAnswer.TheVariants.{Granted, Wait, Busy}

abbrev pub lock_cmp : ℕ × ℕ → ℕ × ℕ → Ordering
lock_cmp a b = ordering_then (nat_cmp a.0 b.0) (nat_cmp a.1 b.1)

abbrev pub Locks : Type 0
Locks = map.FinMap lock_cmp Mode

abbrev pub both_shared : Mode → Mode → Bool
both_shared Shared Shared = true
both_shared _ _ = false

abbrev pub IsApart : Locks → Type 0
IsApart locks = (t u k : ℕ) (m n : Mode) → (t == u) ≡ false → map.get locks (t, k) ≡ Some m → map.get locks (u, k) ≡ Some n → both_shared m n ≡ true

-- ---- a request
abbrev pub IsFree : Locks → ℕ → ℕ → Mode → Type 0
IsFree locks t k m = (u : ℕ) (n : Mode) → (t == u) ≡ false → map.get locks (u, k) ≡ Some n → both_shared m n ≡ true

pub record IsConflict (locks : Locks) (t k : ℕ) (m : Mode) (h : ℕ) : Type 0 where
  pub other : (t == h) ≡ false
  pub mode : Mode
  pub holds : map.get locks (h, k) ≡ Some mode
  pub clash : both_shared m mode ≡ false

pub record IsOldestConflict (locks : Locks) (t k : ℕ) (m : Mode) (h : ℕ) : Type 0 where
  pub conflict : IsConflict locks t k m h
  pub oldest : (u : ℕ) → IsConflict locks t k m u → h ≤ u

-- the wait-die rule: it waits for younger ones alone
abbrev pub IsAnswer : Locks → ℕ → ℕ → Mode → LockAnswer → Type 0
IsAnswer locks t k m Granted = IsFree locks t k m
IsAnswer locks t k m (Wait h) = IsOldestConflict locks t k m h × (t < h)
IsAnswer locks t k m (Busy h) = IsOldestConflict locks t k m h × (h < t)

abbrev pub stronger_mode : Option Mode → Mode → Mode
stronger_mode None m = m
stronger_mode (Some Shared) m = m
stronger_mode (Some Exclusive) m = Exclusive

abbrev pub locks_with : Locks → ℕ → ℕ → Mode → Locks
locks_with locks t k m = map.insert locks (t, k) (stronger_mode (map.get locks (t, k)) m)

abbrev pub table_after : Locks → ℕ → ℕ → Mode → LockAnswer → Locks
table_after locks t k m Granted = locks_with locks t k m
table_after locks t k m (Wait h) = locks
table_after locks t k m (Busy h) = locks

-- ---- the end of a transaction
abbrev pub locks_without : Locks → ℕ → Locks
locks_without locks t = map.retain_keys locks (λ lock. not (t == lock.0))

-- ---- a code for modes
abbrev number_of : Mode → ℕ
number_of Shared = 0
number_of Exclusive = 1

abbrev mode_of : ℕ → Mode
mode_of zero = Shared
mode_of (suc n) = Exclusive

pub there_and_back : (m : Mode) → mode_of (number_of m) ≡ m
there_and_back Shared = refl
there_and_back Exclusive = refl

abbrev pub coded_mode : Coded Mode
coded_mode = code_by ℕ coded_ℕ number_of mode_of there_and_back
