-- Runs of neighbouring regions, each written to an image by one call of the store.
--     has_flag side b g        the flag of the region g for this side is b
--     is_first_dirty side gs   the flag of the first region is set
--     run_of side gs           how many of the first regions have the first one's flag for this side, 128 at most
--     runs_in side gs          how many runs whose flags are set there are, where one begins behind the other
--     AreNext side b gs i run  the regions `run` stand in gs from i on, and their flag for this side is b
--     words_of run             their words, without the updates of open operations
--     change f i n xs          the n elements from i on changed by f
--     run_at c gs              how many regions the checkpoint c copies next
--     is_run_dirty c gs        they have their flag set
--     run_bytes c gs           the bytes of their words, without the updates of open operations
--     behind_run c gs          the checkpoint behind them
--     cleaned_run c gs         the regions with the flags of these cleared
use Rattle.std.specs.Prelude.{◌≡◌, ℕ, suc, zero, ◌+◌, Bool, true, false, not, if◌then◌else◌, List, [], ◌∷◌, Some, min, take, drop, map, flat_map, slice_get}
use Rattle.std.specs.List.{prefix_len}
use Rattle.dali_record.specs.Spelling.{words_bytes}
use Rattle.dali_region.specs.declared.Side.{Side}
use Rattle.dali_region.specs.State.{RegionState}
use Rattle.dali_region.specs.Answers.{is_dirty, cleaned}
use Rattle.dali_checkpoint.specs.Kept.{Checkpointed, side_in}

abbrev pub has_flag : Side → Bool → RegionState → Bool
has_flag side true g = is_dirty g side
has_flag side false g = not (is_dirty g side)

abbrev pub is_first_dirty : Side → List RegionState → Bool
is_first_dirty side [] = false
is_first_dirty side (g ∷ gs) = is_dirty g side

abbrev pub run_of : Side → List RegionState → ℕ
run_of side [] = 0
run_of side (g ∷ gs) = min 128 (prefix_len (has_flag side (is_dirty g side)) (g ∷ gs))

-- k regions more fit the run under way
abbrev pub runs_from : Side → ℕ → List RegionState → ℕ
runs_from side k [] = 0
runs_from side zero (g ∷ gs) = if is_dirty g side then suc (runs_from side 127 gs) else runs_from side 0 gs
runs_from side (suc k) (g ∷ gs) = if is_dirty g side then runs_from side k gs else runs_from side 0 gs

abbrev pub runs_in : Side → List RegionState → ℕ
runs_in side gs = runs_from side 0 gs

abbrev pub AreNext : Side → Bool → List RegionState → ℕ → List RegionState → Type 0
AreNext side flag gs i run = (k : ℕ) (g : RegionState) → slice_get run k ≡ Some g → (slice_get gs (i + k) ≡ Some g) × (is_dirty g side ≡ flag)

abbrev pub words_of : List RegionState → List (List ℕ)
words_of run = map (λ g. g.back) run

abbrev pub change : {A : Type 0} → (A → A) → ℕ → ℕ → List A → List A
change f i n [] = []
change f zero zero (x ∷ xs) = x ∷ xs
change f zero (suc n) (x ∷ xs) = f x ∷ change f zero n xs
change f (suc i) n (x ∷ xs) = x ∷ change f i n xs

-- ---- the run of a checkpoint
abbrev pub run_at : Checkpointed → List RegionState → ℕ
run_at c gs = run_of (side_in c) (drop c.copied gs)

abbrev pub is_run_dirty : Checkpointed → List RegionState → Bool
is_run_dirty c gs = is_first_dirty (side_in c) (drop c.copied gs)

abbrev pub bytes_between : ℕ → ℕ → List RegionState → List ℕ
bytes_between i n gs = flat_map (λ g. words_bytes g.back) (take n (drop i gs))

abbrev pub run_bytes : Checkpointed → List RegionState → List ℕ
run_bytes c gs = bytes_between c.copied (run_at c gs) gs

abbrev pub behind_run : Checkpointed → List RegionState → Checkpointed
behind_run c gs = record c { copied = c.copied + run_at c gs }

abbrev pub cleaned_run : Checkpointed → List RegionState → List RegionState
cleaned_run c gs = change (cleaned (side_in c)) c.copied (run_at c gs) gs
