-- Where a client stands outside a transaction.
--     MaySay y b               it has said that the engine is stopped, and so it is
--     FitsOutside, FitsLeftOut it is in none, or its begin was refused
--     FitsWaiting tries holder its last try gave way
--     FitsGone                 it died
--     HasGone y t              the transaction has ended, or its client died
--     BeginsFrom y tries state     a transaction that was tried so often begins there: the first time, or again where the holder of the last try has
--                              gone, or where the engine is stopped and nobody ends any more
use Rattle.std.specs.Prelude.{◌≡◌, ◌⊎◌, ℕ, ◌<◌, Bool, true, false, List, [], ◌∷◌, None, IsSome}
use Rattle.dali_runs.specs.State.{SystemState, state_of}
use Rattle.dali_transcripts.specs.Words.{Act, Begins}
use Rattle.dali_transcripts.specs.World.{World, is_dead_in}
use Rattle.dali_transcripts.specs.Moves.{Outside, Again, LeftOut, Gone, at}
use Rattle.dali_transcripts.specs.Rounds.{Standing, IsPlaced}
use Rattle.dali_turns.specs.declared.client.State.{State}
use Rattle.dali_turns.specs.declared.client.State.TheVariants.{Outside as IsOutside, Waiting as IsWaiting}
use Rattle.dali_turns.specs.Stood.{HadRow}

abbrev pub MaySay : SystemState → Bool → Type 0
MaySay y b = b ≡ true → IsSome y.stop

pub record FitsOutside (y : SystemState) (a : Standing) (rest : List Act) : Type 0 where
  pub said : Bool
  pub may : MaySay y said
  pub spot : a.spot ≡ at (Outside said) rest
  pub none : a.pending ≡ []
  pub placed : IsPlaced false rest

pub record FitsLeftOut (y : SystemState) (a : Standing) (rest : List Act) : Type 0 where
  pub said : Bool
  pub may : MaySay y said
  pub spot : a.spot ≡ at (LeftOut said) rest
  pub none : a.pending ≡ []
  pub placed : IsPlaced true rest

pub record FitsWaiting (w : World) (y : SystemState) (a : Standing) (rest : List Act) (tries holder : ℕ) : Type 0 where
  pub said : Bool
  pub may : MaySay y said
  pub spot : a.spot ≡ at (Again tries holder said) rest
  pub none : a.pending ≡ []
  pub more : List Act
  pub begins : rest ≡ Begins ∷ more
  pub placed : IsPlaced false rest
  pub few : tries < 1000
  pub had : HadRow w holder

-- what it was told behind its death isn't looked at any more
pub record FitsGone (a : Standing) : Type 0 where
  pub txn : ℕ
  pub place : a.spot.place ≡ Gone txn
  pub none : a.pending ≡ []

-- ---- a begin
abbrev pub HasGone : SystemState → ℕ → Type 0
HasGone y t = (state_of y t ≡ None) ⊎ (is_dead_in (state_of y t) ≡ true)

abbrev pub BeginsFrom : SystemState → (tries : ℕ) → State → Type 0
BeginsFrom y tries IsOutside = tries ≡ 0
BeginsFrom y tries (IsWaiting n holder) = (n ≡ tries) × (HasGone y holder ⊎ IsSome y.stop)
BeginsFrom y tries state = ⊥
