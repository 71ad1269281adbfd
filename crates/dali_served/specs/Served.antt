-- A round of which each client was told whole transactions, and each line says that all went well.
--     has_room a               it isn't the answer of an insert for which there was no room
--     is_served line           a transaction began or was committed, or a call was answered, and there was room
--     AllServed lines          so are all lines of the clients
--     acts_of transactions     begin, its calls and commit, for each of these transactions
--     AreTold calls blocks     each client was told these transactions of its, and no other client has any
--     HaveMade calls L ts      the transactions ts of the log L are those that the clients were told, each client's in its order: with these calls, and room for each
--                              insert
--     Once ts                  each of these numbers stands once
--     IsFront w K              the log of the round's world or a front of it, with all that is flushed
--     HasServed calls K        the committed transactions of the log K are those that were told, each once, and no audit failed in it
--     ServedRounds             behind such a round each such front has so served
use Rattle.std.specs.Prelude.{◌≡◌, ◌≤◌, ℕ, Bool, true, false, List, [], ◌∷◌, ◌++◌, ◌==◌, Some, Contains, filter, length, map, slice_get, take}
use Rattle.std.specs.List.{list_all, range_with_len, AllByRecursion}
use Rattle.dali_record.specs.declared.records.Call.{Call}
use Rattle.dali_record.specs.declared.records.Answer.{Answer}
use Rattle.dali_record.specs.declared.records.Answer.TheVariants.{FullHeap, FullIndex}
use Rattle.dali_record.specs.declared.records.Record.{Record}
use Rattle.dali_record.specs.declared.records.Record.TheVariants.{Format, AuditFail}
use Rattle.dali_record.specs.Legal.{IsLegal}
use Rattle.dali_record.specs.Log.{calls_of, committed}
use Rattle.dali_runs.specs.State.{CoreState, stable}
use Rattle.dali_transcripts.specs.Words.{Act, Begins, Calls, Commits, Said, Begun, Answered, CommitOk}
use Rattle.dali_transcripts.specs.World.{World, log_of}
use Rattle.dali_transcripts.specs.Transcripts.{Told, is_among}
use Rattle.dali_transcripts.specs.Rounds.{IsRound}

-- ---- the lines
abbrev pub has_room : Answer → Bool
has_room FullHeap = false
has_room FullIndex = false
has_room a = true

abbrev pub is_served : Said → Bool
is_served (Begun t) = true
is_served (Answered call a) = has_room a
is_served CommitOk = true
is_served line = false

abbrev pub AllServed : List (List Said) → Type 0
AllServed lines = AllByRecursion (λ said. list_all is_served said ≡ true) lines

-- ---- the blocks
abbrev pub acts_of : List (List Call) → List Act
acts_of [] = []
acts_of (calls ∷ later) = Begins ∷ map Calls calls ++ Commits ∷ acts_of later

pub record AreTold (calls : ℕ → List (List Call)) (blocks : List Told) : Type 0 where
  pub acts : (i : ℕ) (b : Told) → slice_get blocks i ≡ Some b → b.acts ≡ acts_of (calls b.client)
  pub others : (c : ℕ) → is_among blocks c ≡ false → calls c ≡ []

-- ---- the transactions of a log
pub record HaveMade (calls : ℕ → List (List Call)) (L : List Record) (ts : List ℕ) : Type 0 where
  -- whose transaction it is, and which of its own
  pub client : ℕ → ℕ
  pub place : ℕ → ℕ
  pub in_order : (c : ℕ) → map place (filter (λ t. client t == c) ts) ≡ range_with_len 0 (length (calls c))
  pub apart : (t u : ℕ) → Contains ts t → Contains ts u → client t ≡ client u → place t ≡ place u → t ≡ u
  pub made : (t : ℕ) → Contains ts t → slice_get (calls (client t)) (place t) ≡ Some (map (λ p. p.0) (calls_of t L))
  pub room : (t : ℕ) → Contains ts t → AllByRecursion (λ p. has_room p.1 ≡ true) (calls_of t L)

abbrev pub Once : List ℕ → Type 0
Once [] = Unit {0}
Once (t ∷ ts) = (Contains ts t → ⊥) × Once ts

-- ---- the law
pub record IsFront (w : World) (K : List Record) : Type 0 where
  pub count : ℕ
  pub is : K ≡ take count (log_of w)
  pub begun : length w.before ≤ count
  pub flushed : stable w.core ≤ count

pub record HasServed (calls : ℕ → List (List Call)) (K : List Record) : Type 0 where
  pub made : HaveMade calls K (committed K)
  pub once : Once (committed K)
  pub none_failed : (b : ℕ) (rs : List ℕ) → Contains K (AuditFail b rs) → ⊥

abbrev pub ServedRounds : Type 0
ServedRounds =
    (precheck : Bool) (before : List Record) (old new : CoreState) (blocks : List Told) (lines : List (List Said)) (receipts : List (List ℕ)) (calls : ℕ → List (List Call)) (i h : ℕ) (K : List Record)
    → (round : IsRound precheck true before old new blocks lines receipts) → round.world.before ≡ Format i h ∷ []
    → AreTold calls blocks → AllServed lines → IsFront round.world K → IsLegal K
    → HasServed calls K
