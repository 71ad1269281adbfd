-- Writes that are cut short, one after another.
use Rattle.std.proofs.Common.{◌≡◌, ℕ, ◌+◌, ◌-◌, ◌≤◌, List, drop, refl, sym, ◌∙◌, ap, subst, arith, Option, Some, None}
use Rattle.std.proofs.lemmas.List.{drop-drop}
use Rattle.dali_store.specs.Store.{Files, Torn, TornTold}
use Rattle.dali_store.specs.declared.store.FileName.{FileName}
use Rattle.dali_log.proofs.Bytes.{take_below}

drop_above : (n m : ℕ) (xs ys : List ℕ) → n ≤ m → drop n xs ≡ drop n ys → drop m xs ≡ drop m ys
drop_above n m xs ys le same =
    let here : n + (m - n) ≡ m = omega arith in
    subst (λ (k : ℕ). drop k xs ≡ drop k ys) here (sym (drop-drop (m - n) n xs) ∙ ap (λ (l : List ℕ). drop (m - n) l) same ∙ drop-drop (m - n) n ys)

-- nothing was written
pub torn_same : (at n : ℕ) (xs : List ℕ) → Torn at n xs xs
torn_same at n xs = record { before = refl; after = refl; no_shorter = omega arith; no_longer = omega arith }

-- less was written
pub torn_wider : (at n bt m : ℕ) (old new : List ℕ) → bt ≤ at → at + n ≤ bt + m → Torn at n old new → Torn bt m old new
torn_wider at n bt m old new below above torn = record {
  before = take_below bt at new old below torn.before;
  after = drop_above (at + n) (bt + m) new old above torn.after;
  no_shorter = torn.no_shorter;
  no_longer = omega (arith, torn.no_longer);
}

pub torn_then : (at n : ℕ) (old mid new : List ℕ) → Torn at n old mid → Torn at n mid new → Torn at n old new
torn_then at n old mid new one two = record {
  before = two.before ∙ one.before;
  after = two.after ∙ one.after;
  no_shorter = omega (arith, one.no_shorter, two.no_shorter);
  no_longer = omega (arith, one.no_longer, two.no_longer);
}

-- the same of what reads give
pub told_same : (f : FileName) (at n : ℕ) (t : Option Files) → TornTold f at n t t
told_same f at n None = refl
told_same f at n (Some fs) = record { torn = torn_same at n _; same = λ g other. refl }

pub told_wider : (f : FileName) (at n bt m : ℕ) (t u : Option Files) → bt ≤ at → at + n ≤ bt + m → TornTold f at n t u → TornTold f bt m t u
told_wider f at n bt m None u below above torn = torn
told_wider f at n bt m (Some fs) None below above torn = torn
told_wider f at n bt m (Some fs) (Some gs) below above torn = record { torn = torn_wider at n bt m _ _ below above torn.torn; same = torn.same }

pub told_then : (f : FileName) (at n : ℕ) (t u v : Option Files) → TornTold f at n t u → TornTold f at n u v → TornTold f at n t v
told_then f at n None None v one two = two
told_then f at n None (Some gs) v one two = absurd cc
told_then f at n (Some fs) None v one two = absurd one
told_then f at n (Some fs) (Some gs) None one two = absurd two
told_then f at n (Some fs) (Some gs) (Some hs) one two = record { torn = torn_then at n _ _ _ one.torn two.torn; same = λ g other. two.same g other ∙ one.same g other }

-- where it is told as before
pub told_on : (f : FileName) (at n : ℕ) (t u v : Option Files) → v ≡ u → TornTold f at n t u → TornTold f at n t v
told_on f at n t u v same torn = subst (TornTold f at n t) (sym same) torn

-- a write behind the place, a sync, and a write at the place, all within n bytes
pub told_both : (f : FileName) (at m n : ℕ) (t0 t1 t2 t3 : Option Files) → m + 1 ≤ n → TornTold f (at + 1) m t0 t1 → t2 ≡ t1 → TornTold f at 1 t2 t3 → TornTold f at n t0 t3
told_both f at m n t0 t1 t2 t3 most first same second =
    told_then f at n t0 t2 t3
    (told_on f at n t0 t1 t2 same (told_wider f (at + 1) m at n t0 t1 (omega arith) (omega (arith, most)) first))
    (told_wider f at 1 at n t2 t3 (omega arith) (omega (arith, most)) second)
