-- The walk of a key, as a test and as a relation.
use Rattle.std.proofs.Common.{◌≡◌, ℕ, zero, suc, ◌<◌, Bool, true, false, not, List, refl, ap, sym, subst, ◌∙◌, ◌⊎◌, inl, inr, ◌≢◌, arith}
use Rattle.std.specs.Prelude.{◌==◌, if◌then◌else◌}
use Rattle.std.proofs.lemmas.Bool.Decides.{eqb_tells}
use Rattle.dali_geometry.specs.Sizes.{Sizes}
use Rattle.dali_geometry.specs.Places.{home, next_index}
use Rattle.dali_access.specs.Index.Entries as entry
use Rattle.dali_access.specs.Index.Records.{reaches, is_reached, words_of}
use Rattle.dali_access.proofs.IndexLemmas.Worlds.{flags}
use Rattle.dali_access.proofs.IndexLemmas.Reaches.{walk, Reach}

walk_next : (s : Sizes) (n r : ℕ) → walk s n (next_index s r) ≡ walk s (suc n) r
walk_next s zero r = refl
walk_next s (suc n) r = ap (next_index s) (walk_next s n r)

flag_up : (image : List (List ℕ)) (r : ℕ) → flags image r ≡ true → (entry.flag_of (words_of image r) == 0) ≡ false
unfolding flags
flag_up image r h = go (entry.flag_of (words_of image r) == 0) h
  where
    go : (b : Bool) → not b ≡ true → b ≡ false
    go true e = absurd (cc (e))
    go false e = refl

flag_there : (image : List (List ℕ)) (r : ℕ) → (entry.flag_of (words_of image r) == 0) ≡ false → flags image r ≡ true
unfolding flags
flag_there image r h = rw h refl

-- what the test says of the walk from here
reaches_walk : (s : Sizes) (image : List (List ℕ)) (n here r : ℕ) → reaches s image n here r ≡ true → (m : ℕ) × (m < n) × (walk s m here ≡ r) × ((i : ℕ) → i < m → flags image (walk s i here) ≡ true)
reaches_walk s image zero here r h = absurd (cc (h))
reaches_walk s image (suc n) here r h = go (eqb_tells here r) (reaches_walk s image n (next_index s here) r)
  where
    go :
        (((here == r) ≡ true) × (here ≡ r)) ⊎ (((here == r) ≡ false) × (here ≢ r))
        → (reaches s image n (next_index s here) r ≡ true → (m : ℕ) × (m < n) × (walk s m (next_index s here) ≡ r) × ((i : ℕ) → i < m → flags image (walk s i (next_index s here)) ≡ true))
        → (m : ℕ) × (m < suc n) × (walk s m here ≡ r) × ((i : ℕ) → i < m → flags image (walk s i here) ≡ true)
    go (inl a) ih = (0, omega arith, a.1, λ i b. absurd (omega arith))
    go (inr a) ih = by_flag (entry.flag_of (words_of image here) == 0) refl (rw (a.0) at h)
      where
        by_flag : (f : Bool) → (entry.flag_of (words_of image here) == 0) ≡ f → (if f then false else reaches s image n (next_index s here) r) ≡ true → (m : ℕ) × (m < suc n) × (walk s m here ≡ r) × ((i : ℕ) → i < m → flags image (walk s i here) ≡ true)
        by_flag true e g = absurd (cc (g))
        by_flag false e g = let x = ih g in (suc x.0, omega (arith, x.1), sym (walk_next s x.0 here) ∙ x.2, λ i b. each i x.0 b x.3)
          where
            each : (i : ℕ) → (m : ℕ) → i < suc m → ((j : ℕ) → j < m → flags image (walk s j (next_index s here)) ≡ true) → flags image (walk s i here) ≡ true
            each zero m b all = flag_there image here e
            each (suc i) m b all = subst (λ x. flags image x ≡ true) (walk_next s i here) (all i (omega arith))

walk_reaches : (s : Sizes) (image : List (List ℕ)) (n here r m : ℕ) → m < n → walk s m here ≡ r → ((i : ℕ) → i < m → flags image (walk s i here) ≡ true) → reaches s image n here r ≡ true
walk_reaches s image zero here r m b e up = absurd (omega arith)
walk_reaches s image (suc n) here r m b e up = go (λ q. walk_reaches s image n (next_index s here) r q) (eqb_tells here r) m b e up
  where
    go : ((q : ℕ) → q < n → walk s q (next_index s here) ≡ r → ((i : ℕ) → i < q → flags image (walk s i (next_index s here)) ≡ true) → reaches s image n (next_index s here) r ≡ true) → (((here == r) ≡ true) × (here ≡ r)) ⊎ (((here == r) ≡ false) × (here ≢ r)) → (q : ℕ) → q < suc n → walk s q here ≡ r → ((i : ℕ) → i < q → flags image (walk s i here) ≡ true) → reaches s image (suc n) here r ≡ true
    go ih (inl a) q b e up = rw (a.0) refl
    go ih (inr a) zero b e up = absurd (a.1 e)
    go ih (inr a) (suc q) b e up =
        let flag = flag_up image here (up 0 (omega arith)) in
        let later = ih q (omega arith) (walk_next s q here ∙ e) (λ i l. subst (λ x. flags image x ≡ true) (sym (walk_next s i here)) (up (suc i) (omega arith))) in
        rw (a.0, flag) later

-- the walk of k comes to a region exactly where the test says so
pub reach_tests : (s : Sizes) (image : List (List ℕ)) (k r : ℕ) → Reach s (flags image) k r → is_reached s image k r ≡ true
reach_tests s image k r h = walk_reaches s image s.index (home s k) r h.0 h.1 h.2 h.3

pub tests_reach : (s : Sizes) (image : List (List ℕ)) (k r : ℕ) → is_reached s image k r ≡ true → Reach s (flags image) k r
tests_reach s image k r h = reaches_walk s image s.index (home s k) r h
