-- What the locks have at a transaction and a key after each change.
use Rattle.std.proofs.Common.{◌≡◌, ℕ, Bool, true, false, refl, ◌∙◌, ap}
use Rattle.std.specs.Prelude.{Some, ◌&&◌, ◌==◌, if◌then◌else◌}
use Rattle.std.specs.FinMap.{get}
use Rattle.std.proofs.lemmas.Map.Views.{exact_unsigned_eq}
use Rattle.dali_lists.proofs.Tests.{left_true, right_true}
use Rattle.dali_locks.specs.declared.mode.Mode.{Mode}
use Rattle.dali_locks.specs.Locks.{Locks, stronger_mode, locks_with}
use Rattle.dali_locks.proofs.Kept.{get-put}

locks_with_at : (locks : Locks) (t k : ℕ) (m : Mode) (u l : ℕ) (b : Bool) → ((t == u) && (k == l)) ≡ b
    → (if b then Some (stronger_mode (get locks (t, k)) m) else get locks (u, l)) ≡ (if b then Some (stronger_mode (get locks (u, l)) m) else get locks (u, l))
locks_with_at locks t k m u l true here = ap (λ (p : ℕ × ℕ). Some (stronger_mode (get locks p) m)) (λ i. (exact_unsigned_eq t u (left_true _ _ here) i, exact_unsigned_eq k l (right_true _ _ here) i))
locks_with_at locks t k m u l false apart = refl

pub get-locks_with : (locks : Locks) (t k : ℕ) (m : Mode) (u l : ℕ) → get (locks_with locks t k m) (u, l) ≡ (if (t == u) && (k == l) then Some (stronger_mode (get locks (u, l)) m) else get locks (u, l))
get-locks_with locks t k m u l = get-put locks t k (stronger_mode (get locks (t, k)) m) u l ∙ locks_with_at locks t k m u l _ refl
