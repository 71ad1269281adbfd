-- Where a deed of a client stands among all that happened, and whose a transaction is.
use Rattle.std.proofs.Common.{◌≡◌, ℕ, zero, suc, ◌==◌, Bool, true, false, List, [], ◌∷◌, Option, Some, None, refl, sym, ◌∙◌, ap, arith}
use Rattle.std.specs.Prelude.{Contains, filter_map, if◌then◌else◌, slice_get}
use Rattle.std.specs.List.{AllByRecursion, cons_option}
use Rattle.std.proofs.lemmas.Bool.{eqb-true, eq-eqb}
use Rattle.dali_runs.proofs.CountsLemmas.Lists.{some_same}
use Rattle.dali_record.specs.declared.records.Record.{Record}
use Rattle.dali_record.specs.declared.records.Record.TheVariants.{Begin}
use Rattle.dali_transcripts.specs.World.{Deed, Logs, Happening, record_of}
use Rattle.dali_transcripts.specs.Moves.{Receipt}
use Rattle.dali_transcripts.specs.Transcripts.{owned_one, owned, count_with}

-- ---- members

later_in : {X Y : Type 0} (f : X → Option Y) (x : X) (xs : List X) (y : Y) → (z : X) × Contains xs z × (f z ≡ Some y) → (z : X) × Contains (x ∷ xs) z × (f z ≡ Some y)
later_in f x xs y g = (g.0, (suc g.1.0, omega (arith, g.1.1), g.1.2), g.2)

got_next : {X Y : Type 0} (f : X → Option Y) (x : X) (xs : List X) (y : Y) → (Contains (filter_map f xs) y → (z : X) × Contains xs z × (f z ≡ Some y)) → (o : Option Y) → f x ≡ o → Contains (cons_option o (filter_map f xs)) y
    → (z : X) × Contains (x ∷ xs) z × (f z ≡ Some y)
got_next f x xs y more None e h = later_in f x xs y (more h)
got_next f x xs y more (Some u) e (zero, l, is) = (x, (0, omega arith, refl), e ∙ ap (λ z. Some z) is)
got_next f x xs y more (Some u) e (suc k, l, is) = later_in f x xs y (more (k, omega (arith, l), is))

into_first : {Y : Type 0} (o : Option Y) (ys : List Y) (y : Y) → o ≡ Some y → Contains (cons_option o ys) y
into_first None ys y e = absurd cc
into_first (Some u) ys y e = (0, omega arith, some_same e)

into_later : {Y : Type 0} (o : Option Y) (ys : List Y) (y : Y) → Contains ys y → Contains (cons_option o ys) y
into_later None ys y g = g
into_later (Some u) ys y g = (suc g.0, omega (arith, g.1), g.2)

pub all_there : {X : Type 0} (P : X → Type 0) (xs : List X) → ((j : ℕ) (x : X) → slice_get xs j ≡ Some x → P x) → AllByRecursion P xs
all_there P [] h = tt
all_there P (x ∷ xs) h = (h 0 x refl, all_there P xs (λ j y e. h (suc j) y e))

-- ---- deeds
pub logged_is : (z : Happening) (r : Record) → record_of z ≡ Some r → z ≡ (Logs r, z.1)
logged_is (Logs x, c) r e = ap (λ y. (Logs y, c)) (some_same e)
logged_is z r e = absurd cc

pub got_owned : (c n : ℕ) (xs : List Happening) (m : ℕ) (x : Deed) → Contains (owned c n xs) (m, x) → (j : ℕ) × (slice_get xs j ≡ Some (x, c))
got_owned c n [] m x h = absurd (omega (arith, h.1))
got_owned c n (y ∷ ys) m x h = by_owner (got_owned c (count_with n y.0) ys m x) (y.1 == c) refl h
  where
    by_owner : (Contains (owned c (count_with n y.0) ys) (m, x) → (j : ℕ) × (slice_get ys j ≡ Some (x, c))) → (b : Bool) → (y.1 == c) ≡ b → Contains (owned_one b (n, y.0) (owned c (count_with n y.0) ys)) (m, x)
        → (j : ℕ) × (slice_get (y ∷ ys) j ≡ Some (x, c))
    by_owner more true e (zero, l, is) = (0, ap (λ (d : ℕ). Some (y.0, d)) (eqb-true y.1 c e) ∙ ap (λ (z : Receipt). Some (z.1, c)) is)
    by_owner more true e (suc k, l, is) = let later = more (k, omega (arith, l), is) in (suc later.0, later.1)
    by_owner more false e h = let later = more h in (suc later.0, later.1)

-- ---- who began a transaction
begins : ℕ → Happening → Bool
begins t (Logs (Begin u), c) = u == t
begins t x = false

begins_it : (t : ℕ) (x : Happening) → begins t x ≡ true → x ≡ (Logs (Begin t), x.1)
unfolding begins
begins_it t (Logs (Begin u), c) e = ap (λ v. (Logs (Begin v), c)) (eqb-true u t e)
begins_it t x e = absurd cc

begins_own : (t d : ℕ) (x : Happening) → x ≡ (Logs (Begin t), d) → begins t x ≡ true
unfolding begins
begins_own t d x e = ap (begins t) e ∙ eq-eqb t t refl

pub beginner : ℕ → List Happening → ℕ
beginner t [] = 0
beginner t (x ∷ xs) = if begins t x then x.1 else beginner t xs

pub began_there : (t : ℕ) (xs : List Happening) (j d : ℕ) → slice_get xs j ≡ Some (Logs (Begin t), d) → (k : ℕ) × (slice_get xs k ≡ Some (Logs (Begin t), beginner t xs))
unfolding beginner
began_there t [] j d e = absurd cc
began_there t (x ∷ xs) j d e = by_test (λ i f. began_there t xs i d f) (begins t x) refl j e
  where
    by_test : ((i : ℕ) → slice_get xs i ≡ Some (Logs (Begin t), d) → (k : ℕ) × (slice_get xs k ≡ Some (Logs (Begin t), beginner t xs))) → (b : Bool) → begins t x ≡ b → (i : ℕ) → slice_get (x ∷ xs) i ≡ Some (Logs (Begin t), d)
        → (k : ℕ) × (slice_get (x ∷ xs) k ≡ Some (Logs (Begin t), if b then x.1 else beginner t xs))
    by_test more true f i at = (0, ap (λ z. Some z) (begins_it t x f))
    by_test more false f zero at = let never : true ≡ false = sym (begins_own t d x (some_same at)) ∙ f in absurd cc
    by_test more false f (suc i) at = let later = more i at in (suc later.0, later.1)
