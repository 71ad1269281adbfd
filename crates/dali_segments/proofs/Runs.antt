-- Writes to the log one after another.
use Rattle.std.specs.Prelude.{◌≡◌, ◌≤◌, ℕ, ◌+◌, List, [], ◌++◌, length, Option, Some, None, IfSome, refl}
use Rattle.std.proofs.Common.{inl, inr, ⊎_elim, sym, ◌∙◌, ap, subst, arith, take, drop, length-append}
use Rattle.std.proofs.lemmas.List.{append-nil, take-append-drop, length-take-le}
use Rattle.dali_store.specs.Store.{Files, Holds, HoldsIn, Torn, TornIn, TornTold, Follows, Elapses}
use Rattle.dali_store.specs.declared.store.FileName.TheVariants.{Log}
use Rattle.dali_segments.specs.Writes.{Writes}
use Rattle.dali_segments.proofs.Parts.{torn_same, torn_on, holds_on, drop_above}

pub torn_in_same : (at n : ℕ) (fs : Files) → TornIn Log at n fs fs
torn_in_same at n fs = record { torn = torn_same at n fs.log; same = λ g differs. refl }

pub torn_in_on : (at n m : ℕ) (old mid new : Files) → TornIn Log at n old mid → TornIn Log (at + n) m mid new → TornIn Log at (n + m) old new
torn_in_on at n m old mid new one two =
    record { torn = torn_on at n m old.log mid.log new.log one.torn two.torn; same = λ g differs. two.same g differs ∙ one.same g differs }

pub torn_told_same : (at n : ℕ) (told : Option Files) → TornTold Log at n told told
torn_told_same at n None = refl
torn_told_same at n (Some fs) = torn_in_same at n fs

pub torn_told_on : (at n m : ℕ) (old mid new : Option Files) → TornTold Log at n old mid → TornTold Log (at + n) m mid new → TornTold Log at (n + m) old new
torn_told_on at n m None None new one two = two
torn_told_on at n m None (Some md) new one two = absurd cc
torn_told_on at n m (Some od) None new one two = absurd one
torn_told_on at n m (Some od) (Some md) None one two = absurd two
torn_told_on at n m (Some od) (Some md) (Some nw) one two = torn_in_on at n m od md nw one two

torn_more : (at n m : ℕ) (old new : List ℕ) → n ≤ m → Torn at n old new → Torn at m old new
torn_more at n m old new le torn = record {
  before = torn.before;
  after = drop_above (at + n) (at + m) new old (omega (arith, le)) torn.after;
  no_shorter = torn.no_shorter;
  no_longer = omega (arith, torn.no_longer, le);
}

torn_in_more : (at n m : ℕ) (old new : Files) → n ≤ m → TornIn Log at n old new → TornIn Log at m old new
torn_in_more at n m old new le torn = record { torn = torn_more at n m old.log new.log le torn.torn; same = torn.same }

-- a part of a write
pub writes_more : (at n m : ℕ) → n ≤ m → (old new : Option Files) (a b : Files → Type 0) (ma mb : ℕ) (pa pb : ℕ → Files → Type 0)
    → Writes at n old new a b ma mb pa pb → Writes at m old new a b ma mb pa pb
writes_more at n m le old new a b ma mb pa pb writes = record {
  torn = by_told old new writes.torn;
  crash = λ c out. let was = writes.crash c out in (was.0, was.1, torn_in_more at n m was.0 c le was.2);
  more = writes.more;
  time = writes.time;
}
  where
    by_told : (o w : Option Files) → TornTold Log at n o w → TornTold Log at m o w
    by_told None w is = is
    by_told (Some o) None is = is
    by_told (Some o) (Some w) is = torn_in_more at n m o w le is

-- no write at all
pub writes_none : (at n : ℕ) (told : Option Files) (left : Files → Type 0) (moment : ℕ) (past : ℕ → Files → Type 0)
    → Writes at n told told left left moment moment past past
writes_none at n told left moment past = record {
  torn = torn_told_same at n told;
  crash = λ c out. (c, out, torn_in_same at n c);
  more = λ c out. out;
  time = record { later = omega arith; nothing_else = λ t c le is. inl is; keeps = λ t c le is. is };
}

-- one write, and another one at its end
pub writes_on : (at n m : ℕ) (old mid new : Option Files) (a b c : Files → Type 0) (ma mb mc : ℕ) (pa pb pc : ℕ → Files → Type 0)
    → Writes at n old mid a b ma mb pa pb → Writes (at + n) m mid new b c mb mc pb pc → Writes at (n + m) old new a c ma mc pa pc
writes_on at n m old mid new a b c ma mb mc pa pb pc one two = record {
  torn = torn_told_on at n m old mid new one.torn two.torn;
  crash = λ x out.
      let was = two.crash x out in
      let first = one.crash was.0 was.1 in
      (first.0, first.1, torn_in_on at n m first.0 was.0 x first.2 was.2);
  more = λ x out. two.more x (one.more x out);
  time = record {
    later = omega (arith, one.time.later, two.time.later);
    nothing_else = λ t x le since. ⊎_elim
        (λ before. ⊎_elim (λ past. inl past) (λ now. inr (two.more x now)) (one.time.nothing_else t x le before))
        (λ now. inr now)
        (two.time.nothing_else t x (omega (arith, le, one.time.later)) since);
    keeps = λ t x le past. two.time.keeps t x (omega (arith, le, one.time.later)) (one.time.keeps t x le past);
  };
}

-- a sync, and a write behind it
pub time_behind : (at n : ℕ) (mid new : Option Files) (b c : Files → Type 0) (ma mb mc : ℕ) (pa pb pc : ℕ → Files → Type 0)
    → Elapses ma mb pa pb b → Writes at n mid new b c mb mc pb pc → Elapses ma mc pa pc c
time_behind at n mid new b c ma mb mc pa pb pc time write = record {
  later = omega (arith, time.later, write.time.later);
  nothing_else = λ t x le since. ⊎_elim
      (λ before. ⊎_elim (λ past. inl past) (λ now. inr (write.more x now)) (time.nothing_else t x le before))
      (λ now. inr now)
      (write.time.nothing_else t x (omega (arith, le, time.later)) since);
  keeps = λ t x le past. write.time.keeps t x (omega (arith, le, time.later)) (time.keeps t x le past);
}

pub torn_behind_sync : (at n : ℕ) (old mid new : Option Files) → mid ≡ old → TornTold Log at n mid new → TornTold Log at n old new
torn_behind_sync at n old mid new same torn = subst (λ (t : Option Files). TornTold Log at n t new) same torn

-- a call that changes nothing is a write of any bytes that was cut short
pub torn_told_eq : (at n : ℕ) (old new : Option Files) → new ≡ old → TornTold Log at n old new
torn_told_eq at n old new same = subst (λ (t : Option Files). TornTold Log at n old t) (sym same) (torn_told_same at n old)

pub follows_fewer : (at n : ℕ) (a b : Files → Type 0) → ((x : Files) → b x → a x) → Follows (TornIn Log at n) a b
follows_fewer at n a b fewer x out = (x, fewer x out, torn_in_same at n x)

pub follows_same : (at n : ℕ) (a : Files → Type 0) → Follows (TornIn Log at n) a a
follows_same at n a x out = (x, out, torn_in_same at n x)

pub crash_behind_sync : (at n : ℕ) (a b c : Files → Type 0) → ((x : Files) → b x → a x) → Follows (TornIn Log at n) b c → Follows (TornIn Log at n) a c
crash_behind_sync at n a b c fewer follows x out = let was = follows x out in (was.0, fewer was.0 was.1, was.2)

pub holds_none : (at : ℕ) (told : Option Files) → HoldsIn Log at [] told told
holds_none at None = refl
holds_none at (Some fs) = (none fs.log, λ g differs. refl)
  where
    none : (bytes : List ℕ) → Holds bytes at [] bytes
    none bytes =
        let there : at + 0 ≡ at = omega arith in
        sym (
        ap (λ (l : List ℕ). l ++ drop (at + 0) bytes) (append-nil (take at bytes))
        ∙ ap (λ (k : ℕ). take at bytes ++ drop k bytes) there
        ∙ take-append-drop at bytes
        )

pub holds_told_on : (at : ℕ) (one two : List ℕ) (old mid new : Option Files) → IfSome old (λ fs. at ≤ length fs.log)
    → HoldsIn Log at one old mid → HoldsIn Log (at + length one) two mid new → HoldsIn Log at (one ++ two) old new
holds_told_on at one two None None new le first second = second
holds_told_on at one two None (Some md) new le first second = absurd cc
holds_told_on at one two (Some od) None new le first second = absurd first
holds_told_on at one two (Some od) (Some md) None le first second = absurd second
holds_told_on at one two (Some od) (Some md) (Some nw) le first second =
    (holds_on at one two od.log md.log nw.log le first.0 second.0, λ g differs. second.1 g differs ∙ first.1 g differs)

-- the log reaches to the end of what was written
pub holds_reach : (at : ℕ) (bytes : List ℕ) (old new : Option Files) → IfSome old (λ fs. at ≤ length fs.log) → HoldsIn Log at bytes old new
    → IfSome new (λ fs. at + length bytes ≤ length fs.log)
holds_reach at bytes None None le holds = tt
holds_reach at bytes None (Some nw) le holds = absurd cc
holds_reach at bytes (Some od) None le holds = tt
holds_reach at bytes (Some od) (Some nw) le holds = omega (
  arith,
  ap (λ (l : List ℕ). length l) holds.0,
  length-append (take at od.log ++ bytes) (drop (at + length bytes) od.log),
  length-append (take at od.log) bytes,
  length-take-le at od.log le,
)
