-- A client of which every try gets Busy.
--     tries_said txn n         what it says in n tries that are followed by another
--     AreRefused ..            each of a thousand tries is refused, is taken back, and begins behind the holder of the one before
--     ThousandTries            so it says; at the thousandth it says who is in its way, and no try follows
use Rattle.std.specs.Prelude.{◌≡◌, ℕ, zero, suc, ◌<◌, false, List, [], ◌∷◌, ◌++◌, Option}
use Rattle.dali_record.specs.declared.records.Call.{Call}
use Rattle.dali_runs.specs.declared.refusals.Refusal.{Refusal}
use Rattle.dali_transcripts.specs.Words.{Act, Begins, Calls, Said, Begun, Aborted, Busy}
use Rattle.dali_transcripts.specs.World.{World, IsUncommitted, HasEndedBy}
use Rattle.dali_transcripts.specs.Moves.{Receipt, Outside, Ending, Move, GivesWay, at, start, behind_close}
use Rattle.dali_transcripts.specs.Causes.{GetsBusy, HasCause}
use Rattle.dali_transcripts.specs.Transcripts.{IsPath, said_by}

abbrev pub tries_said : (ℕ → ℕ) → ℕ → List Said
tries_said txn zero = []
tries_said txn (suc n) = tries_said txn n ++ Begun (txn n) ∷ Aborted ∷ []

-- of each try: its transaction, the numbers of its first and its last record, and its refusal
pub record AreRefused (w : World) (c : ℕ) (call : Call) (txn begun ended : ℕ → ℕ) (refusal : ℕ → Refusal) : Type 0 where
  pub refused : (n : ℕ) → n < 1000 → GetsBusy w c (txn n) call (refusal n)
  pub back : (n : ℕ) → n < 1000 → IsUncommitted w (txn n) (ended n)
  pub behind : (n : ℕ) → n < 999 → HasEndedBy w (refusal n).holder (begun (suc n))

pub record AllTried (w : World) (c : ℕ) (call : Call) (rest : List Act) (txn : ℕ → ℕ) (holder : ℕ) : Type 0 where
  pub moves : List Move
  pub path : IsPath w c (start (Begins ∷ Calls call ∷ rest)) moves (at (Outside false) (behind_close rest))
  pub said : said_by moves ≡ tries_said txn 999 ++ Begun (txn 999) ∷ Busy holder ∷ Aborted ∷ []

pub record ThousandTries : Type 0 where
  pub all :
      (w : World) (c : ℕ) (call : Call) (rest : List Act) (txn begun ended : ℕ → ℕ) (refusal : ℕ → Refusal) → AreRefused w c call txn begun ended refusal
      → AllTried w c call rest txn (refusal 999).holder
  -- the thousandth try gives way to none
  pub last :
      (w : World) (c t : ℕ) (cs : List Act) (d : Option ℕ) (work : List Receipt) (call : Call) (f : Refusal) (back : List Receipt) (end : Ending) (rest : List Act)
      → HasCause w c (GivesWay t 999 cs d work call f back end rest) → ⊥
