-- Calls one after another that change nothing of what reads give.
use Rattle.std.specs.Prelude.{true, false, ◌≡◌, ◌⊎◌, ◌≤◌, ◌<◌, ℕ, ◌+◌, ◌^◌, Result, IsErr, Option, Some, None, IfSome, refl}
use Rattle.std.proofs.Common.{inl, inr, ⊎_elim, sym, ◌∙◌, subst, arith, Ok, Err}
use Rattle.dali_store.specs.Faults.{HasCause, Rose, one_more}
use Rattle.dali_files.specs.Files.{Contents}
use Rattle.dali_files.specs.declared.key.FileKey.{FileKey}
use Rattle.dali_files.specs.declared.key.FileKey.TheVariants.{Segment}
use Rattle.dali_segments.specs.Quiet.{IsQuiet}

pub quiet_same : (told : Option Contents) (left : Contents → Type 0) (going : FileKey → Type 0) (moment : ℕ) (past : ℕ → Contents → Type 0)
    → IsQuiet told told left left going going moment moment past past
quiet_same told left going moment past = record {
  told = refl;
  crash = λ c is. is;
  going = λ g is. is;
  time = record { later = omega arith; nothing_else = λ t c le is. inl is; keeps = λ t c le is. is };
}

pub quiet_on : (old mid new : Option Contents) (a b c : Contents → Type 0) (ga gb gc : FileKey → Type 0) (ma mb mc : ℕ) (pa pb pc : ℕ → Contents → Type 0)
    → ((t : ℕ) (x : Contents) → t ≤ ma → a x → pa t x)
    → IsQuiet old mid a b ga gb ma mb pa pb → IsQuiet mid new b c gb gc mb mc pb pc → IsQuiet old new a c ga gc ma mc pa pc
quiet_on old mid new a b c ga gb gc ma mb mc pa pb pc counts one two = record {
  told = two.told ∙ one.told;
  crash = λ x left. one.crash x (two.crash x left);
  going = λ g is. one.going g (two.going g is);
  time = record {
    later = omega (arith, one.time.later, two.time.later);
    nothing_else = λ t x le since. ⊎_elim
        (λ before. ⊎_elim (λ past. inl past) (λ between. inl (counts t x le (one.crash x between))) (one.time.nothing_else t x le before))
        (λ now. inr now)
        (two.time.nothing_else t x (omega (arith, le, one.time.later)) since);
    keeps = λ t x le past. two.time.keeps t x (omega (arith, le, one.time.later)) (one.time.keeps t x le past);
  };
}

-- of the segments from one on and below another one a crash leaves what reads give
abbrev pub AreKept : Option Contents → (Contents → Type 0) → ℕ → ℕ → Type 0
AreKept told left from below = IfSome told (λ fs. (c : Contents) → left c → (n : ℕ) → from ≤ n → n < below → c (Segment n) ≡ fs (Segment n))

pub kept_none : (told : Option Contents) (left : Contents → Type 0) (from below : ℕ) → below ≤ from → AreKept told left from below
kept_none None left from below le = tt
kept_none (Some fs) left from below le = λ c is n above under. absurd (omega (arith, le, above, under))

pub kept_next : (told mid : Option Contents) (was left : Contents → Type 0) (from below next : ℕ) → next ≡ below + 1 → mid ≡ told → AreKept told was from below
    → IfSome mid (λ fs. (c : Contents) → left c → c (Segment below) ≡ fs (Segment below)) → ((c : Contents) → left c → was c) → AreKept told left from next
kept_next told mid was left from below next is same kept one fewer =
    by_told told kept (subst (λ (t : Option Contents). IfSome t (λ fs. (c : Contents) → left c → c (Segment below) ≡ fs (Segment below))) same one)
  where
    here_or : (n below : ℕ) → n < below + 1 → (n ≡ below) ⊎ (n < below)
    here_or n below lt = grind arith

    by_told : (t : Option Contents) → AreKept t was from below → IfSome t (λ fs. (c : Contents) → left c → c (Segment below) ≡ fs (Segment below)) → AreKept t left from next
    by_told None before here = tt
    by_told (Some fs) before here = λ c out n above under. ⊎_elim
        (λ same_n. subst (λ (k : ℕ). c (Segment k) ≡ fs (Segment k)) (sym same_n) (here c out))
        (λ lt. before c (fewer c out) n above lt)
        (here_or n below (omega (arith, under, is)))

-- a failure behind calls that are Ok
false_true : false ≡ true → ⊥
false_true e = cc

pub cause_err : {T E : Type 0} (first before now : ℕ) (result : Result T E) → before ≡ first → IsErr result → before ≤ now → Rose before now → HasCause first now result
cause_err first before now (Ok x) same err later rose = absurd (false_true err)
cause_err first before now (Err e) same err later rose =
    record { later = omega (arith, same, later); failed = subst (λ (n : ℕ). Rose n now) same rose; kept = tt }

pub kept_less : (told : Option Contents) (left : Contents → Type 0) (from below most : ℕ) → below ≤ most → AreKept told left from most → AreKept told left from below
kept_less None left from below most le kept = tt
kept_less (Some fs) left from below most le kept = λ c out n above under. kept c out n above (omega (arith, le, under))

-- a count of faults and another one that stands still
pub cause_plus : {T E : Type 0} (before now more : ℕ) (result : Result T E) → HasCause before now result → HasCause (before + more) (now + more) result
cause_plus before now more (Ok x) cause = record { later = omega (arith, cause.later); failed = tt; kept = omega (arith, cause.kept) }
cause_plus before now more (Err e) cause = record { later = omega (arith, cause.later); failed = rose cause.failed; kept = tt }
  where
    rose : Rose before now → Rose (before + more) (now + more)
    rose (inl lt) = inl (omega (arith, lt))
    rose (inr full) = inr (omega (arith, full))

-- a call that fails here
pub cause_here : {T E : Type 0} (faults before now : ℕ) (result : Result T E) → before < 2 ^ 64 → now ≡ one_more before → IsErr result → HasCause (faults + before) (faults + now) result
cause_here faults before now (Ok x) fits is err = absurd (false_true err)
cause_here faults before now (Err e) fits is err = record { later = omega (arith, is, fits); failed = by_place (place before); kept = tt }
  where
    place : (n : ℕ) → (n + 1 < 2 ^ 64) ⊎ (2 ^ 64 ≤ n + 1)
    place n = grind arith

    by_place : (before + 1 < 2 ^ 64) ⊎ (2 ^ 64 ≤ before + 1) → Rose (faults + before) (faults + now)
    by_place (inl lt) = inl (omega (arith, is, lt))
    by_place (inr full) = inr (omega (arith, is, full))

-- a failure behind calls that are Ok, beside a count that stands still
pub cause_behind : {T E : Type 0} (first f1 r1 f2 r2 : ℕ) (result : Result T E) → f1 + r1 ≡ first → IsErr result → r2 ≡ r1 → f1 ≤ f2 → Rose f1 f2 → HasCause first (f2 + r2) result
cause_behind first f1 r1 f2 r2 (Ok x) same err still later rose = absurd (false_true err)
cause_behind first f1 r1 f2 r2 (Err e) same err still later rose =
    record { later = omega (arith, same, later, still); failed = ⊎_elim (λ lt. inl (omega (arith, same, lt, still))) (λ full. inr (omega (arith, full))) rose; kept = tt }

pub cause_from : {T E : Type 0} (first before now : ℕ) (result : Result T E) → before ≡ first → HasCause before now result → HasCause first now result
cause_from first before now result same cause = subst (λ (n : ℕ). HasCause n now result) same cause

-- a count that rose behind one that stayed
pub rose_up : (first before now : ℕ) → before ≡ first → Rose before now → Rose first now
rose_up first before now same rose = subst (λ (n : ℕ). Rose n now) same rose

-- a call that fails here, behind one that may have failed
pub cause_both : {T E : Type 0} (first before now past counted : ℕ) (result : Result T E) → before ≡ first → before ≤ now → past < 2 ^ 64 → counted ≡ one_more past → IsErr result → HasCause (first + past) (now + counted) result
cause_both first before now past counted (Ok x) same later fits is err = absurd (false_true err)
cause_both first before now past counted (Err e) same later fits is err = record { later = omega (arith, same, later, is, fits); failed = by_place (place past); kept = tt }
  where
    place : (n : ℕ) → (n + 1 < 2 ^ 64) ⊎ (2 ^ 64 ≤ n + 1)
    place n = grind arith

    by_place : (past + 1 < 2 ^ 64) ⊎ (2 ^ 64 ≤ past + 1) → Rose (first + past) (now + counted)
    by_place (inl lt) = inl (omega (arith, same, later, is, lt))
    by_place (inr full) = inr (omega (arith, is, full))
