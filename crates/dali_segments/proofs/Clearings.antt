-- Removals one after another.
use Rattle.std.specs.Prelude.{◌≡◌, ◌≢◌, ◌⊎◌, ◌≤◌, ◌<◌, ℕ, ◌+◌, [], Option, Some, None, IfSome, refl}
use Rattle.std.proofs.Common.{inl, inr, ⊎_elim, sym, ◌∙◌, ap, subst, arith}
use Rattle.dali_files.specs.Files.{Contents, RemovedIn, EmptiedIn, EmptiedTold, Follows, Elapses}
use Rattle.dali_files.specs.declared.key.FileKey.{FileKey}
use Rattle.dali_files.specs.declared.key.FileKey.TheVariants.{ImageA, ImageB, Anchor, Segment}
use Rattle.dali_segments.specs.Quiet.{IsQuiet}
use Rattle.dali_segments.specs.Clears.{IsWithin, IsCleared, ClearedTold, Clears, AreGone}
use Rattle.dali_segments.proofs.Logs.{other_segment, no_segment}

pub cleared_same : (from below : ℕ) (c : Contents) → IsCleared from below c c
cleared_same from below c key = inl refl

pub cleared_on : (from below : ℕ) (a b c : Contents) → IsCleared from below a b → IsCleared from below b c → IsCleared from below a c
cleared_on from below a b c one two key =
    ⊎_elim (λ same. ⊎_elim (λ was. inl (same ∙ was)) (λ none. inr (same ∙ none.0, none.1)) (one key)) (λ none. inr none) (two key)

key_or : (key : FileKey) (n : ℕ) → (key ≡ Segment n) ⊎ (key ≢ Segment n)
key_or ImageA n = inr (no_segment ImageA n refl)
key_or ImageB n = inr (no_segment ImageB n refl)
key_or Anchor n = inr (no_segment Anchor n refl)
key_or (Segment k) n = ⊎_elim (λ same. inl (ap (λ (i : ℕ). Segment i) same)) (λ differs. inr (other_segment k n differs)) (place k n)
  where
    place : (k n : ℕ) → (k ≡ n) ⊎ (k ≢ n)
    place k n = grind arith

within_key : (from below n : ℕ) (key : FileKey) → key ≡ Segment n → from ≤ n → n < below → IsWithin from below key
within_key from below n key is above under = subst (λ (k : FileKey). IsWithin from below k) (sym is) (above, under)

pub emptied_cleared : (from below n : ℕ) → from ≤ n → n < below → (old new : Contents) → EmptiedIn (Segment n) old new → IsCleared from below old new
emptied_cleared from below n above under old new emptied key = by_key (key_or key n)
  where
    by_key : (key ≡ Segment n) ⊎ (key ≢ Segment n) → (new key ≡ old key) ⊎ ((new key ≡ []) × IsWithin from below key)
    by_key (inl is) = ⊎_elim
        (λ same. inl (ap (λ (k : FileKey). new k) is ∙ same ∙ ap (λ (k : FileKey). old k) (sym is)))
        (λ none. inr (ap (λ (k : FileKey). new k) is ∙ none, within_key from below n key is above under))
        emptied.either
    by_key (inr differs) = inl (emptied.same key differs)

pub clears_none : (from below : ℕ) (told : Option Contents) (left : Contents → Type 0) (going : FileKey → Type 0) (moment : ℕ) (past : ℕ → Contents → Type 0)
    → Clears from below told told left left going going moment moment past past
clears_none from below told left going moment past = record {
  told = by_told told;
  crash = λ c out. (c, out, cleared_same from below c);
  going = λ g is. inr is;
  time = record { later = omega arith; nothing_else = λ t c le is. inl is; keeps = λ t c le is. is };
}
  where
    by_told : (t : Option Contents) → ClearedTold from below t t
    by_told None = refl
    by_told (Some fs) = cleared_same from below fs

told_on : (from below : ℕ) (old mid new : Option Contents) → ClearedTold from below old mid → ClearedTold from below mid new → ClearedTold from below old new
told_on from below None None new one two = two
told_on from below None (Some m) new one two = absurd cc
told_on from below (Some o) None new one two = absurd one
told_on from below (Some o) (Some m) None one two = absurd two
told_on from below (Some o) (Some m) (Some n) one two = cleared_on from below o m n one two

pub clears_on : (from below : ℕ) (old mid new : Option Contents) (a b c : Contents → Type 0) (ga gb gc : FileKey → Type 0) (ma mb mc : ℕ) (pa pb pc : ℕ → Contents → Type 0)
    → Clears from below old mid a b ga gb ma mb pa pb → Clears from below mid new b c gb gc mb mc pb pc → Clears from below old new a c ga gc ma mc pa pc
clears_on from below old mid new a b c ga gb gc ma mb mc pa pb pc one two = record {
  told = told_on from below old mid new one.told two.told;
  crash = λ x out.
      let was = two.crash x out in
      let first = one.crash was.0 was.1 in
      (first.0, first.1, cleared_on from below first.0 was.0 x first.2 was.2);
  going = λ g is. ⊎_elim (λ within. inl within) (λ before. one.going g before) (two.going g is);
  time = record {
    later = omega (arith, one.time.later, two.time.later);
    nothing_else = λ t x le since. ⊎_elim
        (λ before. one.time.nothing_else t x le before)
        (λ after.
        let first = one.crash after.0 after.1 in
        inr (first.0, first.1, cleared_on from below first.0 after.0 x first.2 after.2))
        (two.time.nothing_else t x (omega (arith, le, one.time.later)) since);
    keeps = λ t x le past. two.time.keeps t x (omega (arith, le, one.time.later)) (one.time.keeps t x le past);
  };
}

-- a removal is one of them
pub clears_remove : (from below n : ℕ) → from ≤ n → n < below → (old new : Option Contents) (a b : Contents → Type 0) (ga gb : FileKey → Type 0) (ma mb : ℕ) (pa pb : ℕ → Contents → Type 0)
    → EmptiedTold (Segment n) old new → Follows (EmptiedIn (Segment n)) a b → ((g : FileKey) → gb g → (g ≡ Segment n) ⊎ ga g) → Elapses ma mb pa pb b
    → Clears from below old new a b ga gb ma mb pa pb
clears_remove from below n above under old new a b ga gb ma mb pa pb emptied follows going time = record {
  told = by_told old new emptied;
  crash = step;
  going = λ g is. ⊎_elim (λ same. inl (within_key from below n g same above under)) (λ was. inr was) (going g is);
  time = record {
    later = time.later;
    nothing_else = λ t c le since. ⊎_elim (λ past. inl past) (λ now. inr (step c now)) (time.nothing_else t c le since);
    keeps = time.keeps;
  };
}
  where
    step : Follows (IsCleared from below) a b
    step c out = let was = follows c out in (was.0, was.1, emptied_cleared from below n above under was.0 c was.2)

    by_told : (o w : Option Contents) → EmptiedTold (Segment n) o w → ClearedTold from below o w
    by_told None w is = is
    by_told (Some o) None is = is
    by_told (Some o) (Some w) is = emptied_cleared from below n above under o w is

-- and so is a call that changes nothing of what reads give
pub clears_quiet : (from below : ℕ) (old new : Option Contents) (a b : Contents → Type 0) (ga gb : FileKey → Type 0) (ma mb : ℕ) (pa pb : ℕ → Contents → Type 0)
    → IsQuiet old new a b ga gb ma mb pa pb → Clears from below old new a b ga gb ma mb pa pb
clears_quiet from below old new a b ga gb ma mb pa pb quiet = record {
  told = subst (λ (t : Option Contents). ClearedTold from below old t) (sym quiet.told) (by_told old);
  crash = step;
  going = λ g is. inr (quiet.going g is);
  time = record {
    later = quiet.time.later;
    nothing_else = λ t c le since. ⊎_elim (λ past. inl past) (λ now. inr (step c now)) (quiet.time.nothing_else t c le since);
    keeps = quiet.time.keeps;
  };
}
  where
    step : Follows (IsCleared from below) a b
    step c out = (c, quiet.crash c out, cleared_same from below c)

    by_told : (t : Option Contents) → ClearedTold from below t t
    by_told None = refl
    by_told (Some fs) = cleared_same from below fs

-- which are gone, before the first removal
pub gone_none : (from : ℕ) (told : Option Contents) (left : Contents → Type 0) (going : FileKey → Type 0) → AreGone from from told left going
gone_none from told left going = record {
  empty = none_empty told;
  kept = none_kept told;
  settled = λ n above under. absurd (omega (arith, above, under));
}
  where
    none_empty : (t : Option Contents) → IfSome t (λ fs. (n : ℕ) → from ≤ n → n < from → fs (Segment n) ≡ [])
    none_empty None = tt
    none_empty (Some fs) = λ n above under. absurd (omega (arith, above, under))

    none_kept : (t : Option Contents) → IfSome t (λ fs. (c : Contents) → left c → (n : ℕ) → from ≤ n → n < from → c (Segment n) ≡ [])
    none_kept None = tt
    none_kept (Some fs) = λ c out n above under. absurd (omega (arith, above, under))

-- one more is gone behind its removal and its sync
pub gone_next : (from below next : ℕ) → next ≡ below + 1 → (old mid new : Option Contents) (a b c : Contents → Type 0) (ga gb gc : FileKey → Type 0)
    → AreGone from below old a ga → RemovedIn (Segment below) old mid → Follows (EmptiedIn (Segment below)) a b → ((g : FileKey) → gb g → (g ≡ Segment below) ⊎ ga g)
    → new ≡ mid → ((x : Contents) → c x → b x) → ((g : FileKey) → gc g → gb g) → (gc (Segment below) → ⊥)
    → IfSome mid (λ fs. (x : Contents) → c x → x (Segment below) ≡ fs (Segment below)) → AreGone from next new c gc
gone_next from below next is old mid new a b c ga gb gc gone removed follows going same fewer less settled durable = record {
  empty = subst (λ (t : Option Contents). IfSome t (λ fs. (n : ℕ) → from ≤ n → n < next → fs (Segment n) ≡ [])) (sym same) (by_empty old mid gone.empty removed);
  kept = subst (λ (t : Option Contents). IfSome t (λ fs. (x : Contents) → c x → (n : ℕ) → from ≤ n → n < next → x (Segment n) ≡ [])) (sym same) (by_kept old mid gone.kept removed durable);
  settled = λ n above under is_going. ⊎_elim
      (λ here. settled (subst (λ (k : ℕ). gc (Segment k)) here is_going))
      (λ before. ⊎_elim
      (λ same_key. other_segment n below (λ e. omega (arith, e, before)) same_key)
      (λ was. gone.settled n above before was)
      (going (Segment n) (less (Segment n) is_going)))
      (place n below (omega (arith, under, is)));
}
  where
    place : (n below : ℕ) → n < below + 1 → (n ≡ below) ⊎ (n < below)
    place n below lt = grind arith

    by_empty : (o m : Option Contents) → IfSome o (λ fs. (n : ℕ) → from ≤ n → n < below → fs (Segment n) ≡ []) → RemovedIn (Segment below) o m
        → IfSome m (λ fs. (n : ℕ) → from ≤ n → n < next → fs (Segment n) ≡ [])
    by_empty None None was rem = tt
    by_empty None (Some m) was rem = absurd cc
    by_empty (Some o) None was rem = tt
    by_empty (Some o) (Some m) was rem = λ n above under. ⊎_elim
        (λ here. subst (λ (k : ℕ). m (Segment k) ≡ []) (sym here) rem.0)
        (λ before. rem.1 (Segment n) (other_segment n below (λ e. omega (arith, e, before))) ∙ was n above before)
        (place n below (omega (arith, under, is)))

    by_kept : (o m : Option Contents) → IfSome o (λ fs. (x : Contents) → a x → (n : ℕ) → from ≤ n → n < below → x (Segment n) ≡ []) → RemovedIn (Segment below) o m
        → IfSome m (λ fs. (x : Contents) → c x → x (Segment below) ≡ fs (Segment below))
        → IfSome m (λ fs. (x : Contents) → c x → (n : ℕ) → from ≤ n → n < next → x (Segment n) ≡ [])
    by_kept None None was rem dur = tt
    by_kept None (Some m) was rem dur = absurd cc
    by_kept (Some o) None was rem dur = tt
    by_kept (Some o) (Some m) was rem dur = λ x out n above under. ⊎_elim
        (λ here. subst (λ (k : ℕ). x (Segment k) ≡ []) (sym here) (dur x out ∙ rem.0))
        (λ before.
        let step = follows x (fewer x out) in
        step.2.same (Segment n) (other_segment n below (λ e. omega (arith, e, before))) ∙ was step.0 step.1 n above before)
        (place n below (omega (arith, under, is)))

pub gone_less : (from below most : ℕ) → below ≤ most → (told : Option Contents) (left : Contents → Type 0) (going : FileKey → Type 0)
    → AreGone from most told left going → AreGone from below told left going
gone_less from below most le told left going gone = record {
  empty = less_empty told gone.empty;
  kept = less_kept told gone.kept;
  settled = λ n above under. gone.settled n above (omega (arith, under, le));
}
  where
    less_empty : (t : Option Contents) → IfSome t (λ fs. (n : ℕ) → from ≤ n → n < most → fs (Segment n) ≡ []) → IfSome t (λ fs. (n : ℕ) → from ≤ n → n < below → fs (Segment n) ≡ [])
    less_empty None is = tt
    less_empty (Some fs) is = λ n above under. is n above (omega (arith, under, le))

    less_kept : (t : Option Contents) → IfSome t (λ fs. (c : Contents) → left c → (n : ℕ) → from ≤ n → n < most → c (Segment n) ≡ [])
        → IfSome t (λ fs. (c : Contents) → left c → (n : ℕ) → from ≤ n → n < below → c (Segment n) ≡ [])
    less_kept None is = tt
    less_kept (Some fs) is = λ c out n above under. is c out n above (omega (arith, under, le))
