-- What the two lists say of the locks, and how a change of them changes the locks.
use Rattle.std.proofs.Common.{◌≡◌, ℕ, Bool, true, false, cond, not, [], ◌∷◌, refl, sym, ◌∙◌, ap, subst, arith}
use Rattle.std.specs.Prelude.{Option, Some, None, IsSome, ◌&&◌, ◌==◌, if◌then◌else◌}
use Rattle.std.specs.Cmp.{eq_by_cmp_equiv}
use Rattle.std.specs.Ordering.{eq_by_cmp}
use Rattle.std.specs.Map.{lookup}
use Rattle.std.specs.BTreeMap.{is_at}
use Rattle.std.specs.FinMap.{get, insert, empty, find, from_entries, get-from_entries, get-insert, get-empty, get-retain_keys, same_map}
use Rattle.std.proofs.lemmas.Map.Views.{exact_unsigned_eq}
use Rattle.std.proofs.lemmas.Bool.Decides.{nat_tests}
use Rattle.std.proofs.lemmas.Option.{same_Some}
use mathlib.Core.Bool.{and_comm}
use Rattle.dali_lists.proofs.Numbers.{eqb_turned}
use Rattle.dali_lists.proofs.Tests.{left_true, right_true}
use Rattle.dali_locks.specs.declared.mode.Mode.{Mode}
use Rattle.dali_locks.specs.declared.mode.Mode.TheVariants.{Shared, Exclusive}
use Rattle.dali_locks.specs.Locks.{Locks, lock_cmp, both_shared, stronger_mode, IsApart, IsFree, IsOldestConflict, locks_without}
use Rattle.dali_locks.specs.Pairs.{Pairs, mode_at, IsMirror, AreApart, IsKept, IsSetTo, HasSame, IsReleased, IsLeast, HasNone, IsOther}
use Rattle.dali_locks.proofs.Order.{total, exact, tied}

find_lookup : (es : Pairs) (q : ℕ × ℕ) → find lock_cmp q es ≡ lookup (is_at (lock_cmp q)) es
find_lookup [] q = refl
find_lookup (e ∷ es) q = ap (cond (is_at (lock_cmp q) e.0) (Some e.1)) (find_lookup es q)

-- ---- the locks, from the first list
module _ (held : Pairs) where
  pub made : (t k : ℕ) → get (from_entries {R = lock_cmp} held) (t, k) ≡ mode_at held t k
  made t k = get-from_entries total held (t, k) ∙ find_lookup held (t, k)

  module _ (locks : Locks) (seen : from_entries held ≡ locks) where
    pub has : (t k : ℕ) → get locks (t, k) ≡ mode_at held t k
    has t k = ap (λ (ls : Locks). get ls (t, k)) (sym seen) ∙ made t k

    pub apart_from : AreApart held → IsApart locks
    apart_from apart t u k m n other one two = apart t u k m n other (sym (has t k) ∙ one) (sym (has u k) ∙ two)

pub same_locks : (a b : Locks) → ((t k : ℕ) → get a (t, k) ≡ get b (t, k)) → a ≡ b
same_locks a b h = same_map total exact a b (λ q. h q.0 q.1)

pub empty_apart : IsApart (empty {X = Mode} {R = lock_cmp})
empty_apart t u k m n other one two = let none : None ≡ Some m = sym (get-empty lock_cmp (t, k)) ∙ one in cc

-- ---- no change
module _ (old new : Pairs) (same : HasSame old new) where
  pub same_apart : AreApart old → AreApart new
  same_apart apart t u k m n other one two = apart t u k m n other (sym (same t k) ∙ one) (sym (same u k) ∙ two)

  pub same_made : (locks : Locks) → from_entries old ≡ locks → from_entries new ≡ locks
  same_made locks seen = same_locks _ locks (λ t k. made new t k ∙ same t k ∙ sym (has old locks seen t k))

pub same_kept : (held holders held' holders' : Pairs) → IsKept held holders → HasSame held held' → HasSame holders holders' → IsKept held' holders'
same_kept held holders held' holders' kept one two = record {
  mirror = λ t k. two k t ∙ kept.mirror t k ∙ sym (one t k);
  apart = same_apart held held' one kept.apart;
}

-- ---- a lock that is granted

at_pair : (t k u l : ℕ) → eq_by_cmp lock_cmp (u, l) (t, k) ≡ ((t == u) && (k == l))
at_pair t k u l = (eq_by_cmp_equiv total).symm (u, l) (t, k) ∙ tied t k u l

pub get-put : (locks : Locks) (t k : ℕ) (m : Mode) (u l : ℕ) → get (insert locks (t, k) m) (u, l) ≡ (if (t == u) && (k == l) then Some m else get locks (u, l))
get-put locks t k m u l = get-insert total locks (t, k) m (u, l) ∙ ap (λ b. cond b (Some m) (get locks (u, l))) (at_pair t k u l)

pub put_made : (old new : Pairs) (locks : Locks) (t k : ℕ) (m : Mode) → from_entries old ≡ locks → IsSetTo (Some m) t k old new → from_entries new ≡ insert locks (t, k) m
put_made old new locks t k m seen put = same_locks _ _ (λ u l.
    made new u l ∙ put u l ∙ ap (λ o. if (t == u) && (k == l) then Some m else o) (sym (has old locks seen u l)) ∙ sym (get-put locks t k m u l))

pub set_mirror : (held held' holders holders' : Pairs) (t k : ℕ) (o : Option Mode) → IsMirror held holders → IsSetTo o t k held held' → IsSetTo o k t holders holders' → IsMirror held' holders'
set_mirror held held' holders holders' t k o mirror one two u l =
    two l u ∙ ap (λ b. if b then o else mode_at holders l u) (and_comm (k == l) (t == u))
    ∙ ap (λ p. if (t == u) && (k == l) then o else p) (mirror u l) ∙ sym (one u l)

-- a lock that was new is gone again
pub taken_back : (old mid new : Pairs) (t k : ℕ) (m : Mode) → mode_at old t k ≡ None → IsSetTo (Some m) t k old mid → IsSetTo None t k mid new → HasSame old new
taken_back old mid new t k m absent put gone u l = gone u l ∙ ap (λ o. if (t == u) && (k == l) then None else o) (put u l) ∙ taken_by ((t == u) && (k == l)) refl
  where
    taken_by : (b : Bool) → ((t == u) && (k == l)) ≡ b → (if b then None else (if b then Some m else mode_at old u l)) ≡ mode_at old u l
    taken_by true here = sym absent ∙ ap (λ a. mode_at old a k) (exact_unsigned_eq t u (left_true _ _ here)) ∙ ap (mode_at old u) (exact_unsigned_eq k l (right_true _ _ here))
    taken_by false apart = refl

both_comm : (m n : Mode) → both_shared m n ≡ both_shared n m
both_comm Shared Shared = refl
both_comm Shared Exclusive = refl
both_comm Exclusive Shared = refl
both_comm Exclusive Exclusive = refl

-- the stronger of two modes goes with what each of them goes with
pub stronger_apart : (o : Option Mode) (m n : Mode) → ((h : Mode) → o ≡ Some h → both_shared h n ≡ true) → both_shared m n ≡ true → both_shared (stronger_mode o m) n ≡ true
stronger_apart None m n h free = free
stronger_apart (Some Shared) m n h free = free
stronger_apart (Some Exclusive) m n h free = h Exclusive refl

one_of_them : (t u v : ℕ) → (t == u) ≡ true → (t == v) ≡ true → (u == v) ≡ false → ⊥
one_of_them t u v a b c = grind (arith, nat_tests)

not_both : (t u v : ℕ) → (t == u) ≡ true → (u == v) ≡ false → (t == v) ≡ false
not_both t u v a b = grind (arith, nat_tests)

module _ (old new : Pairs) (t k : ℕ) (m : Mode) (apart : AreApart old) (free : (u : ℕ) (n : Mode) → (t == u) ≡ false → mode_at old u k ≡ Some n → both_shared m n ≡ true) (put : IsSetTo (Some (stronger_mode (mode_at old t k) m)) t k old new) where
  -- another's lock of the key beside the new one
  beside : (u : ℕ) (n : Mode) → (t == u) ≡ false → mode_at old u k ≡ Some n → both_shared (stronger_mode (mode_at old t k) m) n ≡ true
  beside u n other stands = stronger_apart (mode_at old t k) m n (λ h is. apart t u k h n other is stands) (free u n other stands)

  put_apart_by : (u v l : ℕ) (p q : Mode) (a b : Bool) → (u == v) ≡ false → ((t == u) && (k == l)) ≡ a → ((t == v) && (k == l)) ≡ b
      → (if a then Some (stronger_mode (mode_at old t k) m) else mode_at old u l) ≡ Some p → (if b then Some (stronger_mode (mode_at old t k) m) else mode_at old v l) ≡ Some q → both_shared p q ≡ true
  put_apart_by u v l p q true true other here there one two = absurd (one_of_them t u v (left_true _ _ here) (left_true _ _ there) other)
  put_apart_by u v l p q true false other here there one two =
      ap (λ r. both_shared r q) (sym (same_Some _ _ one))
      ∙ beside v q (not_both t u v (left_true _ _ here) other) (ap (λ a. mode_at old v a) (exact_unsigned_eq k l (right_true _ _ here)) ∙ two)
  put_apart_by u v l p q false true other here there one two =
      both_comm p q ∙ ap (λ r. both_shared r p) (sym (same_Some _ _ two))
      ∙ beside u p (not_both t v u (left_true _ _ there) (eqb_turned u v other)) (ap (λ a. mode_at old u a) (exact_unsigned_eq k l (right_true _ _ there)) ∙ one)
  put_apart_by u v l p q false false other here there one two = apart u v l p q other one two

  pub put_apart : AreApart new
  put_apart u v l p q other one two = put_apart_by u v l p q _ _ other refl refl (sym (put u l) ∙ one) (sym (put v l) ∙ two)

pub put_kept : (held held' holders holders' : Pairs) (locks : Locks) (t k : ℕ) (m new : Mode) → from_entries held ≡ locks → IsKept held holders → IsFree locks t k m → new ≡ stronger_mode (get locks (t, k)) m
    → IsSetTo (Some new) t k held held' → IsSetTo (Some new) k t holders holders' → IsKept held' holders'
put_kept held held' holders holders' locks t k m new seen kept free is one two = record {
  mirror = set_mirror held held' holders holders' t k (Some new) kept.mirror one two;
  apart = put_apart held held' t k m kept.apart (λ u n other stands. free u n other (has held locks seen u k ∙ stands))
      (subst (λ (r : Mode). IsSetTo (Some r) t k held held') (is ∙ ap (λ o. stronger_mode o m) (has held locks seen t k)) one);
}

-- ---- locks that are released
-- another's locks stay where one of the transaction is taken out
pub others_stay : (old new : Pairs) (t k u l : ℕ) → IsSetTo None t k old new → (t == u) ≡ false → mode_at new u l ≡ mode_at old u l
others_stay old new t k u l gone other = gone u l ∙ ap (λ b. if b && (k == l) then None else mode_at old u l) other

pub all_released : (old new : Pairs) (t : ℕ) → ((u k : ℕ) → (t == u) ≡ false → mode_at new u k ≡ mode_at old u k) → ((k : ℕ) → mode_at new t k ≡ None) → IsReleased t old new
all_released old new t others none u k = released_by (t == u) refl
  where
    released_by : (b : Bool) → (t == u) ≡ b → mode_at new u k ≡ (if b then None else mode_at old u k)
    released_by true same = ap (λ v. mode_at new v k) (sym (exact_unsigned_eq t u same)) ∙ none k
    released_by false other = others u k other

turned : (b : Bool) (o : Option Mode) → cond (not b) o None ≡ (if b then None else o)
turned true o = refl
turned false o = refl

pub locks_without_at : (locks : Locks) (t u k : ℕ) → get (locks_without locks t) (u, k) ≡ (if t == u then None else get locks (u, k))
locks_without_at locks t u k =
    get-retain_keys locks (λ lock. not (t == lock.0)) (u, k) (λ x same. ap (λ (lock : ℕ × ℕ). not (t == lock.0)) (sym (exact (u, k) x same))) ∙ turned (t == u) (get locks (u, k))

still : (b : Bool) (o : Option Mode) (m : Mode) → (if b then None else o) ≡ Some m → o ≡ Some m
still true o m h = cc
still false o m h = h

pub released_made : (old new : Pairs) (locks : Locks) (t : ℕ) → from_entries old ≡ locks → IsReleased t old new → from_entries new ≡ locks_without locks t
released_made old new locks t seen gone = same_locks _ _ (λ u k.
    made new u k ∙ gone u k ∙ ap (λ o. if t == u then None else o) (sym (has old locks seen u k)) ∙ sym (locks_without_at locks t u k))

pub released_apart : (old new : Pairs) (t : ℕ) → IsReleased t old new → AreApart old → AreApart new
released_apart old new t gone apart u v k m n other one two = apart u v k m n other (still (t == u) _ m (sym (gone u k) ∙ one)) (still (t == v) _ n (sym (gone v k) ∙ two))

-- ---- requests
shared_through : (m n p : Mode) → both_shared m n ≡ true → both_shared n p ≡ true → both_shared m p ≡ true
shared_through Shared Shared p one two = two
shared_through Shared Exclusive p one two = cc
shared_through Exclusive n p one two = one

module _ (held holders : Pairs) (locks : Locks) (seen : from_entries held ≡ locks) (kept : IsKept held holders) (t k : ℕ) (m : Mode) where
  holder_has : (u : ℕ) → get locks (u, k) ≡ mode_at holders k u
  holder_has u = has held locks seen u k ∙ sym (kept.mirror u k)

  pub nobody_in_the_way : HasNone (IsOther t) holders k → IsFree locks t k m
  nobody_in_the_way none u n other stands = let gone : None ≡ Some n = sym (none u other) ∙ sym (holder_has u) ∙ stands in cc

  pub one_in_the_way : (h : ℕ) (n : Mode) → IsLeast (IsOther t) holders k h n → both_shared m n ≡ false → IsOldestConflict locks t k m h
  one_in_the_way h n least clash = record {
    conflict = record { other = least.inside; mode = n; holds = holder_has h ∙ least.holds; clash = clash };
    oldest = λ u c. least.least u c.other (subst (λ (o : Option Mode). IsSome o) (sym c.holds ∙ holder_has u) refl);
  }

  -- all others share the key with the one that was looked at
  pub all_beside : (h : ℕ) (n : Mode) → IsLeast (IsOther t) holders k h n → both_shared m n ≡ true → IsFree locks t k m
  all_beside h n least beside u p other stands = beside_by (h == u) refl
    where
      standing : mode_at holders k u ≡ Some p
      standing = sym (holder_has u) ∙ stands

      beside_by : (b : Bool) → (h == u) ≡ b → both_shared m p ≡ true
      beside_by true same = ap (both_shared m) (same_Some p n (sym standing ∙ ap (mode_at holders k) (sym (exact_unsigned_eq h u same)) ∙ least.holds)) ∙ beside
      beside_by false apart = shared_through m n p beside (kept.apart h u k n p apart (sym (kept.mirror h k) ∙ least.holds) (sym (kept.mirror u k) ∙ standing))
