-- The two lists in which the lock table keeps its locks, one by transaction and key, the other by key and transaction.
--     Pairs, mode_at pairs a b     the entries of an ordered map under pairs;  the mode that stands at (a, b)
--     IsMirror held holders    the second list has at (k, t) what the first has at (t, k)
--     AreApart held            two holders of one key share it
--     IsKept held holders      both
--     IsSetTo o a b old new    the new list has o at (a, b), and else what the old one has
--     HasSame old new          it has the same everywhere
--     IsReleased t old new     it has nothing of t, and else what the old one has
--     IsLeast IsIn holders k h m      h is the least holder of k of these numbers, and its mode is m
--     HasNone IsIn holders k   there is none
--     IsOther t                the numbers other than t
use Rattle.std.specs.Prelude.{◌≡◌, ℕ, ◌≤◌, true, false, ◌==◌, ◌&&◌, if◌then◌else◌, List, Option, Some, None, IsSome}
use Rattle.std.specs.Map.{lookup}
use Rattle.std.specs.BTreeMap.{is_at}
use Rattle.dali_locks.specs.declared.mode.Mode.{Mode}
use Rattle.dali_locks.specs.Locks.{lock_cmp, both_shared}

abbrev pub Pairs : Type 0
Pairs = List ((ℕ × ℕ) × Mode)

abbrev pub mode_at : Pairs → ℕ → ℕ → Option Mode
mode_at pairs a b = lookup (is_at (lock_cmp (a, b))) pairs

abbrev pub IsMirror : Pairs → Pairs → Type 0
IsMirror held holders = (t k : ℕ) → mode_at holders k t ≡ mode_at held t k

abbrev pub AreApart : Pairs → Type 0
AreApart held = (t u k : ℕ) (m n : Mode) → (t == u) ≡ false → mode_at held t k ≡ Some m → mode_at held u k ≡ Some n → both_shared m n ≡ true

pub record IsKept (held holders : Pairs) : Type 0 where
  pub mirror : IsMirror held holders
  pub apart : AreApart held

abbrev pub IsSetTo : Option Mode → ℕ → ℕ → Pairs → Pairs → Type 0
IsSetTo o a b old new = (c d : ℕ) → mode_at new c d ≡ (if (a == c) && (b == d) then o else mode_at old c d)

abbrev pub HasSame : Pairs → Pairs → Type 0
HasSame old new = (c d : ℕ) → mode_at new c d ≡ mode_at old c d

abbrev pub IsReleased : ℕ → Pairs → Pairs → Type 0
IsReleased t old new = (u k : ℕ) → mode_at new u k ≡ (if t == u then None else mode_at old u k)

pub record IsLeast (IsIn : ℕ → Type 0) (holders : Pairs) (k h : ℕ) (m : Mode) : Type 0 where
  pub inside : IsIn h
  pub holds : mode_at holders k h ≡ Some m
  pub least : (u : ℕ) → IsIn u → IsSome (mode_at holders k u) → h ≤ u

abbrev pub HasNone : (ℕ → Type 0) → Pairs → ℕ → Type 0
HasNone IsIn holders k = (u : ℕ) → IsIn u → mode_at holders k u ≡ None

abbrev pub IsOther : ℕ → ℕ → Type 0
IsOther t u = (t == u) ≡ false
