-- How a run of store calls goes on: what each crash leaves, and what is said only where a store tells its contents.
use Rattle.std.proofs.Common.{◌≡◌, inl, inr, ⊎_elim, ℕ, [], ◌∷◌, arith, subst, Option, Some, None, IfSome}
use Rattle.std.specs.Prelude.{is_some}
use Rattle.dali_store.specs.declared.store.FileName.{FileName}
use Rattle.dali_store.specs.declared.store.FileName.TheVariants.{Log, ImageA, ImageB, Anchor}
use Rattle.dali_store.specs.Store.{Files, file_of, Elapses, LeavesOnly}
use Rattle.dali_store.specs.Laws.{ARunGoesOn}

-- a fact of a store that may not tell its contents
pub if_some : {A P : Type 0} (o : Option A) → P → IfSome o (λ _. P)
if_some None p = tt
if_some (Some x) p = p

pub if_some_with : {A P : Type 0} (Q : Type 0) (o : Option A) → (P → Q) → IfSome o (λ _. P) → IfSome o (λ _. Q)
if_some_with Q None f p = tt
if_some_with Q (Some x) f p = f p

pub if_some_both : {A P : Type 0} (Q : Type 0) (o : Option A) → IfSome o (λ _. P) → (P → IfSome o (λ _. Q)) → IfSome o (λ _. Q)
if_some_both Q None p f = tt
if_some_both Q (Some x) p f = f p

-- from one store to another that tells its contents exactly where the first does
pub moved : {A P : Type 0} (Q : Type 0) (o p : Option A) → is_some p ≡ is_some o → IfSome o (λ _. P) → (P → Q) → IfSome p (λ _. Q)
moved Q None None same h f = tt
moved Q None (Some y) same h f = absurd cc
moved Q (Some x) None same h f = tt
moved Q (Some x) (Some y) same h f = f h

-- four files are the same where each of them is
pub same_files : (c fs : Files) → ((f : FileName) → file_of f c ≡ file_of f fs) → c ≡ fs
same_files c fs same = λ i. record { log = same Log i; a = same ImageA i; b = same ImageB i; anchor = same Anchor i }

module _ {D : Type 0} (moment : D → ℕ) (left_since : D → ℕ → Files → Type 0) where
  -- before the first call
  pub started : (old : D) (P : Files → Type 0) → ((c : Files) → left_since old (moment old) c → P c) → LeavesOnly moment left_since old old P
  started old P here = record { later = omega arith; each = here; before = λ t c le left. inl left }

  -- one call more, after which a crash leaves what has P
  pub goes_on : (old mid new : D) (P may_leave : Files → Type 0) → LeavesOnly moment left_since old mid P → Elapses (moment mid) (moment new) (left_since mid) (left_since new) may_leave
      → ((c : Files) → may_leave c → P c) → LeavesOnly moment left_since old new P
  goes_on old mid new P may_leave so_far time here = record {
    later = omega (arith, so_far.later, time.later);
    each = λ c left. ⊎_elim (so_far.each c) (here c) (time.nothing_else (moment old) c so_far.later left);
    before = λ t c le left. ⊎_elim (so_far.before t c le) (λ now. inr (here c now)) (time.nothing_else t c (omega (arith, le, so_far.later)) left);
  }

  -- what has P has R
  pub weaker : (old new : D) (P R : Files → Type 0) → LeavesOnly moment left_since old new P → ((c : Files) → P c → R c) → LeavesOnly moment left_since old new R
  weaker old new P R run weak = record { later = run.later; each = λ c left. weak c (run.each c left); before = λ t c le left. ⊎_elim (λ past. inl past) (λ now. inr (weak c now)) (run.before t c le left) }

  -- one run and then another
  pub joins : (old mid new : D) (P Q R : Files → Type 0) → LeavesOnly moment left_since old mid P → LeavesOnly moment left_since mid new Q → ((c : Files) → P c → R c) → ((c : Files) → Q c → R c) → LeavesOnly moment left_since old new R
  joins old mid new P Q R first second one two = record {
    later = omega (arith, first.later, second.later);
    each = λ c left. ⊎_elim (λ past. one c (first.each c past)) (two c) (second.before (moment old) c first.later left);
    before = λ t c le left. ⊎_elim (λ past. ⊎_elim (λ old_one. inl old_one) (λ now. inr (one c now)) (first.before t c le past)) (λ now. inr (two c now)) (second.before t c (omega (arith, le, first.later)) left);
  }

  -- the same with one property
  pub joined : (old mid new : D) (P : Files → Type 0) → LeavesOnly moment left_since old mid P → LeavesOnly moment left_since mid new P → LeavesOnly moment left_since old new P
  joined old mid new P first second = joins old mid new P P P first second (λ c p. p) (λ c p. p)

  -- a run of any length
  pub a_run_goes_on : (P : Files → Type 0) → ARunGoesOn moment left_since P
  a_run_goes_on P start old [] new so_far same = subst (λ (d : D). LeavesOnly moment left_since start d P) same so_far
  a_run_goes_on P start old (mid ∷ states) new so_far run =
      a_run_goes_on P start mid states new (goes_on start old mid P P so_far run.0 (λ c p. p)) run.1
