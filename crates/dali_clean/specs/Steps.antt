-- Which steps a clean-up makes, one behind another.
--     is_own_change t x        the step x on a region is one of an operation of t
--     AreBack t xs             undos of t are performed, and nobody's claim is left. What another dead client left open in the way is taken back
--                              under a claim of its transaction that is given back at once, or under the claim that another thread has on it
--     recovers latched         what was left open on this region is taken back, if a region is named
--     IsClaim y t xs           t, dead in the system y, is claimed, and right behind that what its client left open is taken back
--     IsCleanUp y t x xs       so it is, then its undos are performed, and the last step is x: its end, or its claim given back
--     is_own_step t x          the step x is one of a clean-up of t
--     OwnSteps                 each step of one is: nothing is logged but its undos and its end
--     AreBeside t y xs         no step is one of another transaction that is alive in the system y
use Rattle.std.specs.Prelude.{◌≡◌, ◌==◌, ⊤, ℕ, Bool, true, false, List, [], ◌∷◌, ◌++◌, Option, Some, None}
use Rattle.std.specs.List.{list_all}
use Rattle.dali_att.specs.declared.state.State.TheVariants.{Dead}
use Rattle.dali_runs.specs.State.{SystemState, state_of}
use Rattle.dali_runs.specs.Regions.{RegionStep, Latch, NoteReads, Update, TakeBack, is_alive}
use Rattle.dali_runs.specs.Courses.{Step, TakesBack, Ends, OnRegion, Claims, GivesBack, Recovers}
use Rattle.dali_calls.specs.Others.{is_apart}

abbrev pub is_own_change : ℕ → RegionStep → Bool
is_own_change t (Latch u) = u == t
is_own_change t (NoteReads mask) = true
is_own_change t (Update word value) = true
is_own_change t TakeBack = true
is_own_change t x = false

-- ---- in order
abbrev pub AreBack : ℕ → List Step → Type 0
AreBack t [] = ⊤
AreBack t (OnRegion r x ∷ xs) = (is_own_change t x ≡ true) × AreBack t xs
AreBack t (TakesBack u b ∷ xs) = (u ≡ t) × AreBack t xs
AreBack t (Claims u ∷ Recovers r ∷ GivesBack v o ∷ xs) = ((u == t) ≡ false) × (v ≡ u) × (o ≡ None) × AreBack t xs
-- of a transaction that was claimed before
AreBack t (Recovers r ∷ xs) = AreBack t xs
AreBack t (x ∷ xs) = ⊥

abbrev pub recovers : Option ℕ → List Step
recovers None = []
recovers (Some r) = Recovers r ∷ []

abbrev pub IsClaim : SystemState → ℕ → List Step → Type 0
IsClaim y t xs = (latched : Option ℕ) × (state_of y t ≡ Some (Dead latched)) × (xs ≡ Claims t ∷ recovers latched)

pub record IsCleanUp (y : SystemState) (t : ℕ) (x : Step) (xs : List Step) : Type 0 where
  pub latched : Option ℕ
  pub was : state_of y t ≡ Some (Dead latched)
  pub back : List Step
  pub is : xs ≡ Claims t ∷ (recovers latched ++ (back ++ x ∷ []))
  pub undone : AreBack t back

-- ---- each of them
abbrev pub is_own_step : ℕ → Step → Bool
is_own_step t (TakesBack u b) = u == t
is_own_step t (Ends u) = u == t
is_own_step t (Claims u) = true
is_own_step t (Recovers r) = true
is_own_step t (GivesBack u o) = true
is_own_step t (OnRegion r x) = is_own_change t x
is_own_step t x = false

abbrev pub OwnSteps : Type 0
OwnSteps = (y : SystemState) (t : ℕ) (x : Step) (xs : List Step) → IsCleanUp y t x xs → is_own_step t x ≡ true → list_all (is_own_step t) xs ≡ true

-- ---- others
abbrev pub AreBeside : ℕ → SystemState → List Step → Type 0
AreBeside t y xs = (u : ℕ) → (t == u) ≡ false → is_alive (state_of y u) ≡ true → list_all (is_apart u) xs ≡ true
