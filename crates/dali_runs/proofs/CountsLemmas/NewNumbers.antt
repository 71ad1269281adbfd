-- Numbers that weren't given yet have no record; and without pokes every block is sound.
use Rattle.std.proofs.Common.{◌≡◌, ℕ, ◌<◌, ◌≤◌, Bool, true, false, cond, List, Option, Some, None, refl, ap, sym, subst, ◌∙◌, arith}
use Rattle.std.specs.Prelude.{IsSome, ◌==◌, not}
use Rattle.std.proofs.lemmas.Bool.{ne_eqb, eqb-true}
use Rattle.dali_lists.proofs.Tests.{left_true}
use Rattle.dali_geometry.specs.Sizes.{Sizes}
use Rattle.dali_record.specs.declared.operations.Block.{Block}
use Rattle.dali_record.specs.declared.records.Record.{Record}
use Rattle.dali_record.specs.declared.records.Record.TheVariants.{Format, Begin, Forward, Done, Commit, Ended, Solo, Back}
use Rattle.dali_record.specs.Legal.{Unbegun, txn_state, txn_next, unbegun_step, allowed, Rules, rules_state, rules_next, rules_step, rules_first, rules_behind, runs, has_room, on_kind}
use Rattle.dali_record.proofs.Ends.{by_push}
use Rattle.dali_record.proofs.Pushes.{rules_state_push, txn_state_push}
use Rattle.dali_runs.proofs.CountsLemmas.Tallies.{tells_step, if_kept, if_none, next_some}
use Rattle.dali_runs.specs.Counts.Counts.{next_with, UnbegunAbove}

begin_number : (s : Sizes) (h : Rules) (u : ℕ) → IsSome (rules_step s h (Begin u)) → (u == h.next) ≡ true
begin_number s h u k = by_test (h.count == 0) k
  where
    by_test : (c : Bool) → IsSome (cond c (rules_first s h (Begin u)) (rules_behind s h (Begin u))) → (u == h.next) ≡ true
    by_test true k = absurd (cc)
    by_test false k = left_true (u == h.next) (has_room h (Begin u)) (if_kept _ _ (if_none h.failed (runs s h (Begin u)) k))

solo_number : (s : Sizes) (h : Rules) (u p : ℕ) (b : Block) → IsSome (rules_step s h (Solo u p b)) → (u == h.next) ≡ true
solo_number s h u p b k = by_test (h.count == 0) k
  where
    by_test : (c : Bool) → IsSome (cond c (rules_first s h (Solo u p b)) (rules_behind s h (Solo u p b))) → (u == h.next) ≡ true
    by_test true k = absurd (cc)
    by_test false k = left_true (u == h.next) (on_kind s b.region b.op) (if_kept _ _ (if_none h.failed (runs s h (Solo u p b)) k))

if_allowed : (c : Bool) → IsSome (allowed c (Some Unbegun)) → allowed c (Some Unbegun) ≡ Some Unbegun
if_allowed true h = refl
if_allowed false h = absurd (cc)

apart : (u n t : ℕ) → (u == n) ≡ true → n < t → (u == t) ≡ false
apart u n t e h = ne_eqb u t (λ f. absurd (omega (arith, eqb-true u n e, f, h)))

-- t is above every number that the record gives
stays : (s : Sizes) (h : Rules) (t : ℕ) (x : Record) → IsSome (rules_step s h x) → next_with x h.next ≤ t → IsSome (unbegun_step t x) → unbegun_step t x ≡ Some Unbegun
stays s h t (Begin u) k l i = rw (apart u h.next t (begin_number s h u k) (omega (arith, l))) refl
stays s h t (Forward u b) k l i = if_allowed _ i
stays s h t (Done u c a) k l i = if_allowed _ i
stays s h t (Commit u) k l i = if_allowed _ i
stays s h t (Ended u) k l i = if_allowed _ i
stays s h t (Solo u p b) k l i = let f : (u == t) ≡ false = apart u h.next t (solo_number s h u p b k) (omega (arith, l)) in let j = rw f at i in rw f (if_allowed (not (p == t)) j)
stays s h t (Back u b) k l i = if_allowed _ i
stays s h t _ k l i = refl

pub next_grows : (x : Record) (n : ℕ) → n ≤ next_with x n
next_grows (Format i h) n = omega arith
next_grows _ n = omega arith

abbrev pub Above : Sizes → ℕ → List Record → Type 0
Above s t L = (g : Rules) → rules_state s L ≡ Some g → g.next ≤ t → IsSome (txn_state s t L) → txn_state s t L ≡ Some Unbegun

pub above : (s : Sizes) (t : ℕ) (L : List Record) → Above s t L
above s t = by_push (Above s t) (λ g e l i. refl) (λ L x here g e l i. txn_state_push s t L x ∙ step L x here g (rules_state s L) refl (sym (rules_state_push s L x) ∙ e) l (rw (txn_state_push s t L x) at i))
  where
    step : (L : List Record) (x : Record) → Above s t L → (g : Rules) (o : Option Rules) → rules_state s L ≡ o → rules_next s o x ≡ Some g → g.next ≤ t → IsSome (txn_next s t (txn_state s t L) x) → txn_next s t (txn_state s t L) x ≡ Some Unbegun
    step L x here g None e f l i = absurd (cc)
    step L x here g (Some h) e f l i =
        let n : g.next ≡ next_with x h.next = (tells_step s h x g f).2 in
        let was : txn_state s t L ≡ Some Unbegun = here h e (omega (arith, n, l, next_grows x h.next)) (next_some s t (txn_state s t L) x i) in
        let some : IsSome (unbegun_step t x) = subst (λ o. IsSome (txn_next s t o x)) was i in
        ap (λ o. txn_next s t o x) was ∙ stays s h t x (rw f refl) (omega (arith, n, l)) some

pub unbegun_above : UnbegunAbove
unbegun_above s L g t legal e l = above s t L g e l (legal.txns t)
