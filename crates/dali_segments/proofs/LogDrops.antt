-- A drop of the log: what it makes of numbers, and one that does nothing.
use Rattle.std.specs.Prelude.{◌⊎◌, ◌*◌, ◌/◌, ◌==◌, if◌then◌else◌, Bool, false, max, Option}
use Rattle.std.proofs.Common.{◌≡◌, inl, inr, ⊎_elim, ℕ, ◌+◌, ◌-◌, ◌≤◌, ◌<◌, sym, ◌∙◌, ap, subst, arith}
use Rattle.std.proofs.lemmas.Bool.Decides.{nat_tests}
use Rattle.dali_store.specs.Store.{Files, Follows, Elapses}
use Rattle.dali_store.specs.Drops.{DroppedIn, DroppedTold, After}
use Rattle.dali_store.proofs.Drops.{dropped_none_in, dropped_none_told}
use Rattle.dali_segments.specs.Segments.{droppable_of, dropped_to_of}
use Rattle.dali_segments.specs.LogDrops.{DropsLog}
use Rattle.dali_segments.proofs.Places.{place_of, mul_up}

-- the end of what is dropped, by cases
none_dropped : (size dropped : ℕ) → dropped ≡ 0 → dropped_to_of size dropped ≡ 0
none_dropped size dropped is = grind (arith, nat_tests)

some_dropped : (size dropped : ℕ) → 0 < dropped → dropped_to_of size dropped ≡ (dropped + 1) * size
some_dropped size dropped is = ap (λ (b : Bool). if b then 0 else (dropped + 1) * size) (test dropped is)
  where
    test : (n : ℕ) → 0 < n → (n == 0) ≡ false
    test n is = grind (arith, nat_tests)

pub none_or : (n : ℕ) → (n ≡ 0) ⊎ (0 < n)
none_or n = grind arith

-- more segments are dropped
pub fewer_left : (size a b place : ℕ) → a ≤ b → droppable_of size b place ≤ droppable_of size a place
fewer_left size a b place le = mul_up (place / size - 1 - b) (place / size - 1 - a) size (omega (arith, le))

pub ends_further : (size a b : ℕ) → a ≤ b → dropped_to_of size a ≤ dropped_to_of size b
ends_further size a b le = ⊎_elim
    (λ none. omega (arith, none_dropped size a none))
    (λ some. omega (arith, some_dropped size a some, some_dropped size b (omega (arith, some, le)), mul_up (a + 1) (b + 1) size (omega (arith, le))))
    (none_or a)

-- numbers of a drop: as many as end at a place or before it
pub record IsWanted (size below wanted : ℕ) : Type 0 where
  pub is : wanted ≡ below / size - 1
  pub ends : 0 < wanted → (wanted + 1) * size ≤ below

pub a_wanted : (size below wanted : ℕ) → wanted ≡ below / size - 1 → IsWanted size below wanted
a_wanted size below wanted is = record {
  is = is;
  ends = λ some.
      let here : wanted + 1 ≡ below / size = omega (arith, is, some) in
      omega (arith, place_of below size, ap (λ (n : ℕ). n * size) here);
}

pub drop_count : (size below wanted before : ℕ) → IsWanted size below wanted → (wanted - before) * size ≡ droppable_of size before below
drop_count size below wanted before is = ap (λ (n : ℕ). (n - before) * size) is.is

pub none_left_of : (size below wanted dropped : ℕ) → IsWanted size below wanted → wanted ≤ dropped → droppable_of size dropped below ≡ 0
none_left_of size below wanted dropped is le =
    ap (λ (n : ℕ). n * size) none ∙ zero_mul
  where
    none : below / size - 1 - dropped ≡ 0
    none = omega (arith, is.is, le)

    zero_mul : 0 * size ≡ 0
    zero_mul = omega arith

some_left : (size below wanted before : ℕ) → 64 ≤ size → before < wanted → IsWanted size below wanted → droppable_of size before below ≡ 0 → ⊥
some_left size below wanted before large lt is none =
    omega (arith, none, large, mul_up 1 (below / size - 1 - before) size (omega (arith, is.is, lt)), one_mul)
  where
    one_mul : 1 * size ≡ size
    one_mul = omega arith

-- what ends so is no more than what was dropped
pub drop_reaches : (size below wanted before : ℕ) → before < wanted → IsWanted size below wanted → droppable_of size before below ≤ dropped_to_of size wanted
drop_reaches size below wanted before lt is =
    omega (arith, some_dropped size wanted (omega (arith, lt)), mul_up (below / size - 1 - before) (wanted + 1) size (omega (arith, is.is)))

pub drop_place : (size below wanted before : ℕ) → before < wanted → IsWanted size below wanted → (wanted + 1) * size ≤ below
drop_place size below wanted before lt is = is.ends (omega (arith, lt))

pub drop_end : (size wanted before : ℕ) → before < wanted → (wanted + 1) * size ≤ dropped_to_of size wanted
drop_end size wanted before lt = omega (arith, some_dropped size wanted (omega (arith, lt)))

module _ (below size now_size dropped now_dropped : ℕ) (old mid : Option Files) (before between : Files → Type 0) (moment next : ℕ) (past since : ℕ → Files → Type 0)
    (same : mid ≡ old) (fewer : (c : Files) → between c → before c) (time : Elapses moment next past since between) where
  told_same : (place : ℕ) → DroppedTold place old mid
  told_same place = subst (λ (t : Option Files). DroppedTold place old t) (sym same) (dropped_none_told place old)

  -- a call that drops nothing
  pub quiet_drop : now_size ≡ size → now_dropped ≡ dropped → DropsLog below size now_size dropped now_dropped old mid before between moment next past since
  quiet_drop sizes drops = record {
    fewer = λ place. subst (λ (s : ℕ). droppable_of s now_dropped place ≤ droppable_of size dropped place) (sym sizes) (fewer_left size dropped now_dropped place (omega (arith, drops)));
    further = subst (λ (s : ℕ). dropped_to_of size dropped ≤ dropped_to_of s now_dropped) (sym sizes) (ends_further size dropped now_dropped (omega (arith, drops)));
    within = subst (λ (s : ℕ). dropped_to_of s now_dropped ≤ max (dropped_to_of size dropped) below) (sym sizes) (omega (arith, ap (λ (n : ℕ). dropped_to_of size n) drops));
    idle = λ none. record { told = same; crash = fewer };
    dropped_below = told_same below;
    kept = told_same (dropped_to_of now_size now_dropped);
    crash = λ c out. (c, fewer c out, dropped_none_in below c);
    time = record {
      later = time.later;
      nothing_else = λ t c le since. ⊎_elim (λ was. inl was) (λ now. inr (c, fewer c now, dropped_none_in below c)) (time.nothing_else t c le since);
      keeps = time.keeps;
    };
  }

  -- a sync, and a drop behind it
  module _ (new : Option Files) (after : Files → Type 0) (now : ℕ) (onward : ℕ → Files → Type 0) where
    pub real_drop : 64 ≤ size → now_size ≡ size → dropped < now_dropped → IsWanted size below now_dropped
        → DroppedTold below mid new → DroppedTold (dropped_to_of now_size now_dropped) mid new → Follows (DroppedIn below) between after → Elapses next now since onward (After (DroppedIn below) between)
        → DropsLog below size now_size dropped now_dropped old new before after moment now past onward
    real_drop large sizes lt is told_below told_end follows step = record {
      fewer = λ place. subst (λ (s : ℕ). droppable_of s now_dropped place ≤ droppable_of size dropped place) (sym sizes) (fewer_left size dropped now_dropped place (omega (arith, lt)));
      further = subst (λ (s : ℕ). dropped_to_of size dropped ≤ dropped_to_of s now_dropped) (sym sizes) (ends_further size dropped now_dropped (omega (arith, lt)));
      within = subst (λ (s : ℕ). dropped_to_of s now_dropped ≤ max (dropped_to_of size dropped) below) (sym sizes)
          (omega (arith, some_dropped size now_dropped (omega (arith, lt)), is.ends (omega (arith, lt))));
      idle = λ none. absurd (some_left size below now_dropped dropped large lt is none);
      dropped_below = subst (λ (t : Option Files). DroppedTold below t new) same told_below;
      kept = subst (λ (t : Option Files). DroppedTold (dropped_to_of now_size now_dropped) t new) same told_end;
      crash = λ c out. let was = follows c out in (was.0, fewer was.0 was.1, was.2);
      time = record {
        later = omega (arith, time.later, step.later);
        nothing_else = λ t c le since_next. ⊎_elim
            (λ earlier. ⊎_elim (λ was. inl was) (λ next_one. inr (c, fewer c next_one, dropped_none_in below c)) (time.nothing_else t c le earlier))
            (λ was. inr (was.0, fewer was.0 was.1, was.2))
            (step.nothing_else t c (omega (arith, le, time.later)) since_next);
        keeps = λ t c le was. step.keeps t c (omega (arith, le, time.later)) (time.keeps t c le was);
      };
    }

-- all of it, from the drop of the segments
pub whole_drop : (below size now_size dropped mid_dropped wanted : ℕ) (old mid new : Option Files) (before between after : Files → Type 0) (moment next now : ℕ) (past since onward : ℕ → Files → Type 0)
    → mid ≡ old → ((c : Files) → between c → before c) → Elapses moment next past since between → 64 ≤ size → now_size ≡ size → mid_dropped ≡ dropped → mid_dropped < wanted → wanted ≡ below / now_size - 1
    → ((place : ℕ) → (wanted + 1) * now_size ≤ place → DroppedTold place mid new) → Follows (DroppedIn below) between after → Elapses next now since onward (After (DroppedIn below) between)
    → DropsLog below size now_size dropped wanted old new before after moment now past onward
whole_drop below size now_size dropped mid_dropped wanted old mid new before between after moment next now past since onward same fewer time large sizes drops lt is told follows step =
    real_drop below size now_size dropped wanted old mid before between moment next past since same fewer time new after now onward large sizes (omega (arith, drops, lt)) wanted_is
    (told below (subst (λ (s : ℕ). (wanted + 1) * s ≤ below) (sym sizes) (wanted_is.ends (omega (arith, lt)))))
    (told (dropped_to_of now_size wanted) (drop_end now_size wanted mid_dropped lt))
    follows step
  where
    wanted_is : IsWanted size below wanted
    wanted_is = a_wanted size below wanted (is ∙ ap (λ (s : ℕ). below / s - 1) sizes)
