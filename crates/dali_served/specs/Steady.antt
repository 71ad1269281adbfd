-- That a transaction answers what it takes back, in a round of which no line tells of a refusal.
--     is_answered line         a transaction began or was committed, or a call was answered, whatever the answer
--     steady_by t back x       as the deed x leaves it, whether t has taken something back that it didn't answer; None where it goes on nevertheless
--     NoneClaimed w            at no place a transaction is claimed for a clean-up
--     IsNoDeath x, NoneDied w   no client died in the round; and none had before it
--     NoneIsClaimed            so none is claimed
--     is_of t r                it is an operation, a taking back, an answer, the commit or the end of t
--     IsAlone t c x            only the client c logs such a record
--     LogIsSteady              then the log leaves t steady where the deeds of c do
--     OwnIsSteady              a client whose lines are all such leaves each transaction steady, and nothing unanswered
use Rattle.std.specs.Prelude.{◌≡◌, ℕ, ◌==◌, Bool, true, false, List, [], ◌∷◌, Option, Some, fold}
use Rattle.std.specs.List.{list_all, AllByRecursion}
use Rattle.dali_record.specs.declared.records.Record.{Record}
use Rattle.dali_record.specs.declared.records.Record.TheVariants.{Format, Forward, Back, Done, Commit, Ended}
use Rattle.dali_history.specs.Room.Room.{steady_next, IsSteady}
use Rattle.dali_transcripts.specs.Words.{Act, Said, Begun, Answered, CommitOk}
use Rattle.dali_runs.specs.State.{state_of}
use Rattle.dali_transcripts.specs.World.{Logs, DiesOn, Happening, World, log_of, state_at, is_dead_in, is_claimed_in}
use Rattle.dali_transcripts.specs.Moves.{Receipt}
use Rattle.dali_transcripts.specs.Causes.{AreRight}
use Rattle.dali_transcripts.specs.Transcripts.{deeds_of, IsTranscript}

abbrev pub is_answered : Said → Bool
is_answered (Begun t) = true
is_answered (Answered call a) = true
is_answered CommitOk = true
is_answered line = false

abbrev pub steady_by : ℕ → Option Bool → Receipt → Option Bool
steady_by t back (n, Logs r) = steady_next t back r
steady_by t back x = back

abbrev pub NoneClaimed : World → Type 0
NoneClaimed w = (i t : ℕ) → is_claimed_in (state_at w i t) ≡ false

abbrev pub IsNoDeath : Happening → Type 0
IsNoDeath (DiesOn t r, c) = ⊥
IsNoDeath x = Unit {0}

abbrev pub NoneDied : World → Type 0
NoneDied w = (t : ℕ) → (is_dead_in (state_of w.old.system t) ≡ false) × (is_claimed_in (state_of w.old.system t) ≡ false)

abbrev pub NoneIsClaimed : Type 0
NoneIsClaimed = (w : World) → AreRight w → NoneDied w → AllByRecursion IsNoDeath w.happened → NoneClaimed w

abbrev pub OwnIsSteady : Type 0
OwnIsSteady =
    (w : World) (c : ℕ) (acts : List Act) (lines : List Said) (did : List Receipt) → NoneClaimed w → IsTranscript w c acts lines did → list_all is_answered lines ≡ true
    → (t : ℕ) → fold (steady_by t) (Some false) did ≡ Some false

-- ---- the log
-- whether it is a record that steady_step looks at
abbrev pub is_of : ℕ → Record → Bool
is_of t (Forward u b) = u == t
is_of t (Back u b) = u == t
is_of t (Done u k a) = u == t
is_of t (Commit u) = u == t
is_of t (Ended u) = u == t
is_of t r = false

abbrev pub IsAlone : (txn client : ℕ) → Happening → Type 0
IsAlone t c (Logs r, d) = is_of t r ≡ true → d ≡ c
IsAlone t c x = Unit {0}

abbrev pub LogIsSteady : Type 0
LogIsSteady =
    (w : World) (t c i h : ℕ) → w.before ≡ Format i h ∷ [] → AllByRecursion (IsAlone t c) w.happened
    → fold (steady_by t) (Some false) (deeds_of w c) ≡ Some false → IsSteady t (log_of w)
