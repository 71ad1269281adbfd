-- Undo lists along the records: each undo that stands was left by a block.
use Rattle.std.proofs.Common.{◌≡◌, ℕ, zero, suc, ◌+◌, ◌<◌, ◌≤◌, Bool, true, false, List, [], ◌∷◌, ◌++◌, length, take, drop, Option, Some, None, refl, ap, sym, subst, ◌∙◌, ◌⊎◌, inl, inr, ⊎_elim, arith, append-nil}
use Rattle.std.specs.Prelude.{◌==◌, if◌then◌else◌, slice_get}
use Rattle.std.proofs.Math.Seq.{take-append_seam}
use Rattle.std.proofs.lemmas.List.{length-append, take-append-le, take_all}
use Rattle.std.proofs.lemmas.Bool.{eqb-true, cases_lt}
use Rattle.std.proofs.lemmas.Option.{slice_get_within}
use Rattle.dali_lists.proofs.Lists.{get_push}
use Rattle.dali_record.specs.declared.operations.Pending.{Pending}
use Rattle.dali_record.specs.declared.operations.Block.{Block}
use Rattle.dali_record.specs.declared.operations.Undo.{Undo}
use Rattle.dali_record.specs.declared.records.Record.{Record}
use Rattle.dali_record.specs.declared.records.Record.TheVariants.{Format, Begin, Forward, Done, Commit, Ended, Solo, AuditBegin, AuditClean, AuditFail, Restarted, Back}
use Rattle.dali_record.specs.Log.{undos_of, undo_step, undo_added, drop_last}
use Rattle.dali_record.proofs.Pushes.{undos_of_push}
use Rattle.dali_record.proofs.Ends.{get_old, get_push_cases}
use Rattle.dali_history.specs.Undone.AsLeft.{IsPushed, OneBlockLeaves}

-- ---- lists
-- a list ends, or is empty
pub ends : {X : Type 0} (xs : List X) → (xs ≡ []) ⊎ ((ys : List X) × (y : X) × (xs ≡ ys ++ y ∷ []) × (drop_last xs ≡ ys))
ends [] = inl refl
ends (x ∷ []) = inr ([], x, refl, refl)
ends (x ∷ y ∷ ys) = ⊎_elim (λ a. absurd (cc (a))) (λ a. inr (x ∷ a.0, a.1, ap (λ zs. x ∷ zs) a.2, ap (λ zs. x ∷ zs) a.3)) (ends (y ∷ ys))

-- an element with what stands before and behind it
pub split_at : {X : Type 0} (xs : List X) (n : ℕ) (x : X) → slice_get xs n ≡ Some x → xs ≡ take n xs ++ x ∷ drop (n + 1) xs
split_at [] n x h = absurd (cc (h))
split_at (y ∷ ys) zero x h = let same : y ≡ x = cc (h) in ap (λ z. z ∷ ys) same
split_at (y ∷ ys) (suc n) x h = let e : suc (n + 1) ≡ suc n + 1 = omega arith in subst (λ m. y ∷ ys ≡ take (suc n) (y ∷ ys) ++ x ∷ drop m (y ∷ ys)) e (ap (λ zs. y ∷ zs) (split_at ys n x h))

pub get_nil : (us : List Pending) (n : ℕ) (p : Pending) → us ≡ [] → slice_get us n ≡ Some p → ⊥
get_nil [] n p e h = cc (h)
get_nil (u ∷ us) n p e h = absurd (cc (e))

get_front : {X : Type 0} (xs : List X) (y : X) (n : ℕ) (x : X) → slice_get xs n ≡ Some x → slice_get (xs ++ y ∷ []) n ≡ Some x
get_front xs y n x h = get_old xs y n (slice_get_within xs n x h) ∙ h

-- ---- one record more
-- an undo that stands stood before it, or is that of its block
pub listed :
    (t : ℕ) (J : List Record) (r : Record) (n : ℕ) (p : Pending) → slice_get (undos_of t (J ++ r ∷ [])) n ≡ Some p
    → (slice_get (undos_of t J) n ≡ Some p) ⊎ ((b : Block) × (r ≡ Forward t b) × (undo_added b b.undo ≡ p ∷ []) × (n ≡ length (undos_of t J)))
listed t J r n p h = go r (sym (ap (λ us. slice_get us n) (undos_of_push t J r)) ∙ h)
  where
    us : List Pending
    us = undos_of t J

    by_added : (b : Block) (vs : List Pending) (o : Option Undo) → slice_get (vs ++ undo_added b o) n ≡ Some p → (slice_get vs n ≡ Some p) ⊎ ((undo_added b o ≡ p ∷ []) × (n ≡ length vs))
    by_added b vs None e = inl (sym (ap (λ ws. slice_get ws n) (append-nil vs)) ∙ e)
    by_added b vs (Some u) e = ⊎_elim (λ a. inl a.1) (λ a. inr (ap (λ x. x ∷ []) a.1, a.0)) (get_push_cases vs (record { key = b.key; region = b.region; undo = u }) n p e)

    by_forward : (u : ℕ) (b : Block) (c : Bool) → (u == t) ≡ c → slice_get (if c then undos_of t J ++ undo_added b b.undo else undos_of t J) n ≡ Some p → (slice_get (undos_of t J) n ≡ Some p) ⊎ ((d : Block) × (Forward u b ≡ Forward t d) × (undo_added d d.undo ≡ p ∷ []) × (n ≡ length (undos_of t J)))
    by_forward u b true e g = ⊎_elim (λ a. inl a) (λ a. inr (b, ap (λ z. Forward z b) (eqb-true u t e), a.0, a.1)) (by_added b (undos_of t J) b.undo g)
    by_forward u b false e g = inl g

    dropped : (vs : List Pending) → slice_get (drop_last vs) n ≡ Some p → slice_get vs n ≡ Some p
    dropped vs e = ⊎_elim (λ a. absurd (get_nil (drop_last vs) n p (ap drop_last a) e)) (λ a. subst (λ zs. slice_get zs n ≡ Some p) (sym a.2) (get_front a.0 a.1 n p (sym (ap (λ zs. slice_get zs n) a.3) ∙ e))) (ends vs)

    by_back : (c : Bool) → slice_get (if c then drop_last (undos_of t J) else undos_of t J) n ≡ Some p → slice_get (undos_of t J) n ≡ Some p
    by_back true e = dropped (undos_of t J) e
    by_back false e = e

    go : (x : Record) → slice_get (undo_step t (undos_of t J) x) n ≡ Some p → (slice_get (undos_of t J) n ≡ Some p) ⊎ ((b : Block) × (x ≡ Forward t b) × (undo_added b b.undo ≡ p ∷ []) × (n ≡ length (undos_of t J)))
    go (Forward u b) e = by_forward u b (u == t) refl e
    go (Back u b) e = inl (by_back (u == t) e)
    go (Format i k) e = inl e
    go (Begin u) e = inl e
    go (Done u c a) e = inl e
    go (Commit u) e = inl e
    go (Ended u) e = inl e
    go (Solo u o b) e = inl e
    go AuditBegin e = inl e
    go (AuditClean k) e = inl e
    go (AuditFail k rs) e = inl e
    go (Restarted rs ds) e = inl e

-- ---- the block that left it
front_same : (J : List Record) (r : Record) (j : ℕ) → j ≤ length J → take j (J ++ r ∷ []) ≡ take j J
front_same J r j l = take-append-le j J (r ∷ []) l

whole : (J : List Record) (r : Record) → take (length J + 1) (J ++ r ∷ []) ≡ J ++ r ∷ []
whole J r = take_all (length J + 1) (J ++ r ∷ []) (omega (arith, length-append J (r ∷ [])))

-- where the undo stands behind one record more, so does its block
pub pushed_on : (t : ℕ) (J : List Record) (r : Record) (n i : ℕ) (b : Block) (p : Pending) → IsPushed t J n i b p → n < length (undos_of t (J ++ r ∷ [])) → IsPushed t (J ++ r ∷ []) n i b p
pushed_on t J r n i b p h more = record {
  block = get_front J r i (Forward t b) h.block;
  adds = h.adds;
  below = ap (λ K. length (undos_of t K)) (front_same J r i (omega (arith, slice_get_within J i (Forward t b) h.block))) ∙ h.below;
  stands = λ j a l. go j a l (cases_lt (length J) j);
}
  where
    go : (j : ℕ) → i < j → j ≤ length (J ++ r ∷ []) → (length J < j) ⊎ (j ≤ length J) → n < length (undos_of t (take j (J ++ r ∷ [])))
    go j a l (inl x) = let same : j ≡ length J + 1 = omega (arith, x, l, length-append J (r ∷ [])) in subst (λ K. n < length (undos_of t K)) (sym (ap (λ z. take z (J ++ r ∷ [])) same ∙ whole J r)) more
    go j a l (inr x) = subst (λ K. n < length (undos_of t K)) (sym (front_same J r j x)) (h.stands j a x)

-- the block itself
pub pushed_now : (t : ℕ) (J : List Record) (b : Block) (p : Pending) → undo_added b b.undo ≡ p ∷ [] → length (undos_of t J) < length (undos_of t (J ++ Forward t b ∷ [])) → IsPushed t (J ++ Forward t b ∷ []) (length (undos_of t J)) (length J) b p
pushed_now t J b p adds more = record {
  block = get_push J (Forward t b);
  adds = adds;
  below = ap (λ K. length (undos_of t K)) (take-append_seam J (Forward t b ∷ []));
  stands = λ j a l. let same : j ≡ length J + 1 = omega (arith, a, l, length-append J (Forward t b ∷ [])) in subst (λ K. length (undos_of t J) < length (undos_of t K)) (sym (ap (λ z. take z (J ++ Forward t b ∷ [])) same ∙ whole J (Forward t b))) more;
}

-- only one block did
no_later : (t n i j : ℕ) (K : List Record) (b c : Block) (p q : Pending) → IsPushed t K n i b p → IsPushed t K n j c q → i < j → ⊥
no_later t n i j K b c p q h g l = let more = h.stands j l (omega (arith, slice_get_within K j (Forward t c) g.block)) in let same = g.below in omega (arith, more, same)

pub one_block_leaves : OneBlockLeaves
one_block_leaves t n i j K b c p q h g = (same, first p q (sym h.adds ∙ ap (λ (x : Block). undo_added x x.undo) block ∙ g.adds))
  where
    same : i ≡ j
    same = ⊎_elim (λ l. absurd (no_later t n i j K b c p q h g l)) (λ l. ⊎_elim (λ m. absurd (no_later t n j i K c b q p g h m)) (λ m. omega (arith, l, m)) (cases_lt j i)) (cases_lt i j)

    block : b ≡ c
    block = let both : Some (Forward t b) ≡ Some (Forward t c) = sym h.block ∙ ap (slice_get K) same ∙ g.block in cc (both)

    first : (x y : Pending) → x ∷ [] ≡ y ∷ [] → x ≡ y
    first x y e = cc (e)
