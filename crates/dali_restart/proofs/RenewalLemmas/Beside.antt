-- Calls that write to one file, one after another.
use Rattle.std.proofs.Common.{◌≡◌, ◌≤◌, ℕ, refl, sym, subst, ◌∙◌, Option, Some, None}
use Rattle.dali_store.specs.declared.store.FileName.{FileName}
use Rattle.dali_store.specs.Store.{Files, SameBut, TornIn, TornTold, Follows, Elapses, LeavesOnly}
use Rattle.dali_store.proofs.Moments.{started, goes_on, joins}
use Rattle.dali_restart.specs.Renewal.Written.{LeftBeside, ToldBeside, WritesOnly}

pub same_all : (f : FileName) (c : Files) → SameBut f c c
same_all f c = λ g other. refl

pub same_then : (f : FileName) (b c d : Files) → SameBut f b c → SameBut f c d → SameBut f b d
same_then f b c d one two = λ g other. two g other ∙ one g other

-- ---- what reads give
told_all : (f : FileName) (t : Option Files) → ToldBeside f t t
told_all f None = refl
told_all f (Some fs) = same_all f fs

told_torn : (f : FileName) (at n : ℕ) (t u : Option Files) → TornTold f at n t u → ToldBeside f t u
told_torn f at n None u torn = torn
told_torn f at n (Some fs) None torn = torn
told_torn f at n (Some fs) (Some gs) torn = torn.same

told_then : (f : FileName) (t u v : Option Files) → ToldBeside f t u → ToldBeside f u v → ToldBeside f t v
told_then f None None v one two = two
told_then f None (Some gs) v one two = absurd cc
told_then f (Some fs) None v one two = absurd one
told_then f (Some fs) (Some gs) None one two = absurd two
told_then f (Some fs) (Some gs) (Some hs) one two = same_then f fs gs hs one two

told_same : (f : FileName) (t u : Option Files) → u ≡ t → ToldBeside f t u
told_same f None u same = same
told_same f (Some fs) None same = absurd cc
told_same f (Some fs) (Some gs) same = subst (ToldBeside f (Some fs)) (sym same) (same_all f fs)

module _ {V : Type 0} (told : V → Option Files) (may_leave : V → Files → Type 0) (moment : V → ℕ) (left_since : V → ℕ → Files → Type 0) where
  abbrev Only : FileName → V → V → Type 0
  Only f old new = WritesOnly told may_leave moment left_since f old new

  left : (f : FileName) (old : V) → ((s : V) (c : Files) → left_since s (moment s) c → may_leave s c) → LeavesOnly moment left_since old old (LeftBeside (may_leave old) f)
  left f old now = started moment left_since old (LeftBeside (may_leave old) f) (λ c was. (c, now old c was, same_all f c))

  pub only_all : (f : FileName) (old : V) → ((s : V) (c : Files) → left_since s (moment s) c → may_leave s c) → Only f old old
  only_all f old now = record { reads = told_all f (told old); any_moment = left f old now }

  pub only_write :
      (f : FileName) (at n : ℕ) (old new : V) → ((s : V) (c : Files) → left_since s (moment s) c → may_leave s c)
      → TornTold f at n (told old) (told new) → Follows (TornIn f at n) (may_leave old) (may_leave new)
      → Elapses (moment old) (moment new) (left_since old) (left_since new) (may_leave new)
      → Only f old new
  only_write f at n old new now torn crash time = record {
    reads = told_torn f at n (told old) (told new) torn;
    any_moment = goes_on moment left_since old old new (LeftBeside (may_leave old) f) (may_leave new) (left f old now) time (λ c is. let d = crash c is in (d.0, d.1, d.2.same));
  }

  pub only_sync :
      (f : FileName) (old new : V) → ((s : V) (c : Files) → left_since s (moment s) c → may_leave s c)
      → told new ≡ told old → ((c : Files) → may_leave new c → may_leave old c)
      → Elapses (moment old) (moment new) (left_since old) (left_since new) (may_leave new)
      → Only f old new
  only_sync f old new now same crash time = record {
    reads = told_same f (told old) (told new) same;
    any_moment = goes_on moment left_since old old new (LeftBeside (may_leave old) f) (may_leave new) (left f old now) time (λ c is. (c, crash c is, same_all f c));
  }

  -- what is left now was left since
  pub now_beside : (f : FileName) (old new : V) → ((s : V) (t : ℕ) (c : Files) → t ≤ moment s → may_leave s c → left_since s t c) → Only f old new → (c : Files) → may_leave new c → LeftBeside (may_leave old) f c
  now_beside f old new counts only c is = only.any_moment.each c (counts new (moment old) c only.any_moment.later is)

  pub only_then :
      (f : FileName) (old mid new : V) → ((s : V) (t : ℕ) (c : Files) → t ≤ moment s → may_leave s c → left_since s t c)
      → Only f old mid → Only f mid new → Only f old new
  only_then f old mid new counts one two = record {
    reads = told_then f (told old) (told mid) (told new) one.reads two.reads;
    any_moment = joins moment left_since old mid new (LeftBeside (may_leave old) f) (LeftBeside (may_leave mid) f) (LeftBeside (may_leave old) f) one.any_moment two.any_moment (λ c p. p)
        (λ c q. let e = now_beside f old mid counts one q.0 q.1 in (e.0, e.1, same_then f e.0 q.0 c e.2 q.2));
  }
