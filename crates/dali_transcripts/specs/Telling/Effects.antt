-- What a deed does to each value of a core, in whatever world: so who has one value in hand may use it.
--     IsDoneBy L y hs M z      the log M and the system z are what these deeds make of the log L and the system y
--     DeedsSay                 so it is of each step, with the deeds that tell it
--     IsLeft x c d             each value of the core c on which the deed x isn't made is in the core d as it was
--     DeedLeaves               so it is of each step that the deed tells
use Rattle.std.specs.Prelude.{◌≡◌, ℕ, ◌+◌, false, List, [], ◌∷◌, ◌++◌, Option, fold, length, slice_get}
use Rattle.dali_record.specs.declared.records.Record.{Record}
use Rattle.dali_locks.specs.declared.mode.Mode.{Mode}
use Rattle.dali_runs.specs.State.{SystemState, CoreState, state_of, lock_of}
use Rattle.dali_runs.specs.Courses.{Step}
use Rattle.dali_runs.specs.Parts.Systems.{IsSystemStep}
use Rattle.dali_crash.specs.Checkpoints.{StoreStep, Point, IsPointStep}
use Rattle.dali_transcripts.specs.World.{Deed, Happening, World, logged_by, state_step, lock_step, IsNoWeaker, refused_by}
use Rattle.dali_transcripts.specs.Rounds.{by}
use Rattle.dali_transcripts.specs.Touches.{touches, is_at}
use Rattle.dali_transcripts.specs.Telling.Deeds.{TellsStep, AreOf}

pub record IsDoneBy (L : List Record) (y : SystemState) (hs : List Happening) (M : List Record) (z : SystemState) : Type 0 where
  pub log : M ≡ L ++ logged_by hs
  pub since : z.since ≡ y.since ++ logged_by hs
  pub records : z.records ≡ y.records + length (logged_by hs)
  pub states : (t : ℕ) → state_of z t ≡ fold (state_step t) (state_of y t) hs
  -- a lock may also be granted untold
  pub locks : (t k : ℕ) (o : Option Mode) → IsNoWeaker (lock_of y t k) o → IsNoWeaker (lock_of z t k) (fold (lock_step t k) o hs)
  pub refusals : z.refusals ≡ y.refusals ++ refused_by hs

abbrev pub DeedsSay : Type 0
DeedsSay = (L M : List Record) (y z : SystemState) (x : Step) (c : ℕ) (ds : List Deed) → IsSystemStep L y x M z → TellsStep y x ds → IsDoneBy L y (by c ds) M z

-- ---- what it leaves
pub record IsLeft (x : Deed) (c d : CoreState) : Type 0 where
  pub count : length d.regions ≡ length c.regions
  pub regions : (r : ℕ) → is_at r x ≡ false → slice_get d.regions r ≡ slice_get c.regions r
  pub system : (touches x).system ≡ false → d.system ≡ c.system
  pub vault : (touches x).vault ≡ false → d.vault ≡ c.vault

abbrev pub DeedLeaves : Type 0
DeedLeaves = (w : World) (c : ℕ) (p q : Point) (x : StoreStep) (deed : Deed) → IsPointStep p x q → AreOf w c p x (deed ∷ []) → IsLeft deed p.core q.core
