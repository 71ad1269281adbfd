-- Laws over transcripts.
--     OneMoreDeed, OneMoreStep what a step of the code owes
--     receipts_from n xs       these deeds, where n records stood before them
--     DeedIsDone, DeedsAreDone a client does a deed, or some: they go to those of the step that is under way
--     GrowsOn                  a world goes on from itself, and step by step
--     OthersGoOn, OwnGoesOn    what a deed of one client does to the lists of all
--     WorldGoesOn              a transcript stays while the world goes on
--     RightGoesOn              each deed of the round has what it asks for at its place, also while the world goes on
--     LinesTell                each line has the record or the cause that the table names
--     LinesAreRecords          each Begin, Done and Commit, and each Ended of a transaction of the client that isn't committed, is told by one line, in order, and these
--                              lines are determined
--     CutLinesAreRecords       the lines of a client that was cut are those of the first part of its records
--     EachIsOwned, OwnedByOne  each deed of the round is one client's
--     OwnAscend                the numbers of a client's records ascend, and the records are the log's
--     GoneIsSilent             after a death nothing is said and nothing done
--     NothingAfterDied         no line follows `died`
--     NothingAfterStop         behind a line that says that the engine is stopped, no line tells a record
--     TriesAreFew              no try follows the thousandth
--     OkIsFlushed              a commit that was answered ok is committed and flushed
--     DeedsAreTold             each poke, each move of the anchor and the death of a client is told by one line, in order
--     OperationsAreTold        a step that logs an operation says the answer of a call, that it was refused, or that the client died
--     AnchorsRise              the number of a move of the anchor is above the one at the start
--     TextAscends              a round's text has the lines of each client, by ascending number
use Rattle.std.specs.Prelude.{◌≡◌, ℕ, ◌+◌, ◌<◌, ◌≤◌, Bool, true, false, not, if◌then◌else◌, List, [], ◌∷◌, ◌++◌, ◌==◌, Option, Some, None, Contains, filter_map, length, slice_get, take}
use Rattle.std.specs.List.{AllByRecursion, list_all}
use Rattle.dali_record.specs.declared.records.Record.{Record}
use Rattle.dali_record.specs.declared.records.Record.TheVariants.{Forward, Commit}
use Rattle.dali_runs.specs.State.{stable}
use Rattle.dali_transcripts.specs.Words.{Act, Calls, Commits as CommitAct, Said, Answered, CommitOk, CheckpointSaid, LeftOpen, Died, Busy, PokeOk, PokeOutOfRange, Refused, StoreFailed, is_stop}
use Rattle.dali_transcripts.specs.World.{Deed, Logs, Strays, DiesOn, MovesAnchor, Happening, World, logged_by, log_of, IsFlushed, Grows}
use Rattle.dali_transcripts.specs.Moves.{Receipt, Place, Within, Again, Gone, Spot, Move, from, said, own, to, at}
use Rattle.dali_transcripts.specs.Causes.{AreRightFrom, AreRight, HasCause}
use Rattle.dali_transcripts.specs.Transcripts.{IsPath, said_by, own_by, IsSoFar, IsTranscript, IsCut, line_told, lines_of_records, count_with, owned, deeds_of, Told, lines_of, round_text}
use Rattle.dali_transcripts.specs.Table.{AllTell}
use Rattle.dali_transcripts.specs.Rounds.{by, AreAnchors}

-- ---- one step more
abbrev pub OneMoreDeed : Type 0
OneMoreDeed =
    (w : World) (c : ℕ) (acts : List Act) (lines : List Said) (did pending : List Receipt) (q : Spot) (x : Receipt)
    → IsSoFar w c acts lines did pending q
    → IsSoFar w c acts lines (did ++ x ∷ []) (pending ++ x ∷ []) q

abbrev pub OneMoreStep : Type 0
OneMoreStep =
    (w : World) (c : ℕ) (acts : List Act) (lines : List Said) (did pending : List Receipt) (q : Spot) (x : Move)
    → IsSoFar w c acts lines did pending q → q ≡ from x → pending ≡ own x → HasCause w c x
    → IsSoFar w c acts (lines ++ said x) did [] (to x)

abbrev pub DeedIsDone : Type 0
DeedIsDone =
    (v w : World) (c : ℕ) (acts : List Act) (lines : List Said) (pending : List Receipt) (q : Spot) (x : Deed)
    → (g : Grows v w) → g.more ≡ (x, c) ∷ [] → IsSoFar v c acts lines (deeds_of v c) pending q
    → IsSoFar w c acts lines (deeds_of w c) (pending ++ (length (log_of v), x) ∷ []) q

abbrev pub receipts_from : ℕ → List Deed → List Receipt
receipts_from n [] = []
receipts_from n (x ∷ xs) = (n, x) ∷ receipts_from (count_with n x) xs

abbrev pub DeedsAreDone : Type 0
DeedsAreDone =
    (v w : World) (c : ℕ) (acts : List Act) (lines : List Said) (pending : List Receipt) (q : Spot) (xs : List Deed)
    → (g : Grows v w) → g.more ≡ by c xs → IsSoFar v c acts lines (deeds_of v c) pending q
    → IsSoFar w c acts lines (deeds_of w c) (pending ++ receipts_from (length (log_of v)) xs) q

pub record GrowsOn : Type 0 where
  pub still : (w : World) → (g : Grows w w) × (g.more ≡ [])
  pub further : (u v w : World) (f : Grows u v) (g : Grows v w) → (h : Grows u w) × (h.more ≡ f.more ++ g.more)

-- ---- what happened in the round
abbrev pub OwnGoesOn : Type 0
OwnGoesOn =
    (c n : ℕ) (xs : List Happening) (x : Deed) → owned c n (xs ++ (x, c) ∷ []) ≡ owned c n xs ++ (n + length (logged_by xs), x) ∷ []

abbrev pub OthersGoOn : Type 0
OthersGoOn = (c d n : ℕ) (xs : List Happening) (x : Deed) → (d == c) ≡ false → owned c n (xs ++ (x, d) ∷ []) ≡ owned c n xs

abbrev pub WorldGoesOn : Type 0
WorldGoesOn =
    (v w : World) (c : ℕ) (acts : List Act) (lines : List Said) (did pending : List Receipt) (q : Spot) → Grows v w
    → IsSoFar v c acts lines did pending q → IsSoFar w c acts lines did pending q

-- each deed has what it asks for, also those that come
abbrev pub RightGoesOn : Type 0
RightGoesOn = (v w : World) (g : Grows v w) → AreRight v → AreRightFrom w (length v.happened) g.more → AreRight w

-- ---- lines and records
abbrev pub LinesTell : Type 0
LinesTell =
    (w : World) (c : ℕ) (acts : List Act) (lines : List Said) (did : List Receipt)
    → IsTranscript w c acts lines did → AllTell w c did lines

abbrev pub LinesAreRecords : Type 0
LinesAreRecords =
    (w : World) (c : ℕ) (acts : List Act) (lines : List Said) (did : List Receipt)
    → IsTranscript w c acts lines did → filter_map line_told lines ≡ lines_of_records (stable w.core) None did

abbrev pub CutLinesAreRecords : Type 0
CutLinesAreRecords =
    (w : World) (c : ℕ) (acts : List Act) (lines : List Said) (did : List Receipt) → IsCut w c acts lines did
    → (more : List Said) × (lines_of_records (stable w.core) None did ≡ filter_map line_told lines ++ more)

-- ---- the deeds that are no records, and have a line of their own
abbrev pub deed_told : Said → Option Said
deed_told (CheckpointSaid number) = Some (CheckpointSaid number)
deed_told PokeOk = Some PokeOk
deed_told Died = Some Died
deed_told line = None

abbrev pub line_of_deed : Receipt → Option Said
line_of_deed (n, MovesAnchor number) = Some (CheckpointSaid number)
line_of_deed (n, Strays r word mask) = Some PokeOk
line_of_deed (n, DiesOn t r) = Some Died
line_of_deed x = None

abbrev pub DeedsAreTold : Type 0
DeedsAreTold =
    (w : World) (c : ℕ) (acts : List Act) (lines : List Said) (did : List Receipt)
    → IsTranscript w c acts lines did → filter_map deed_told lines ≡ filter_map line_of_deed did

abbrev pub tells_call : Said → Bool
tells_call (Answered call a) = true
tells_call (Refused (Calls call) why) = true
tells_call Died = true
tells_call line = false

abbrev pub is_forward : Receipt → Bool
is_forward (n, Logs (Forward t b)) = true
is_forward x = false

abbrev pub OperationsAreTold : Type 0
OperationsAreTold =
    (w : World) (c : ℕ) (x : Move) → HasCause w c x → list_all (λ line. not (tells_call line)) (said x) ≡ true
    → list_all (λ (y : Receipt). not (is_forward y)) (own x) ≡ true

abbrev pub AnchorsRise : Type 0
AnchorsRise = (old new : ℕ) (xs : List Happening) (n c : ℕ) → AreAnchors old xs new → Contains xs (MovesAnchor n, c) → (old < n) × (n ≤ new)

-- ---- each deed is its owner's, and no one else's
abbrev pub EachIsOwned : Type 0
EachIsOwned =
    (c n : ℕ) (xs : List Happening) (i : ℕ) (x : Deed) → slice_get xs i ≡ Some (x, c)
    → Contains (owned c n xs) (n + length (logged_by (take i xs)), x)

abbrev pub OwnedByOne : Type 0
OwnedByOne =
    (c d n : ℕ) (xs : List Happening) (m : ℕ) (x y : Record)
    → Contains (owned c n xs) (m, Logs x) → Contains (owned d n xs) (m, Logs y) → c ≡ d

-- each number is at least n, and that of a record is below those behind it
abbrev pub AscendFrom : ℕ → List Receipt → Type 0
AscendFrom n [] = Unit {0}
AscendFrom n (x ∷ xs) = (n ≤ x.0) × AscendFrom (count_with x.0 x.1) xs

abbrev pub IsIn : List Record → Receipt → Type 0
IsIn L (n, Logs x) = slice_get L n ≡ Some x
IsIn L x = Unit {0}

pub record AreOwn (n : ℕ) (L : List Record) (xs : List Receipt) : Type 0 where
  pub ascend : AscendFrom n xs
  pub logged : AllByRecursion (IsIn L) xs

abbrev pub OwnAscend : Type 0
OwnAscend = (w : World) (c : ℕ) → AreOwn (length w.before) (log_of w) (deeds_of w c)

abbrev pub GoneIsSilent : Type 0
GoneIsSilent =
    (w : World) (c t : ℕ) (acts : List Act) (xs : List Move) (q : Spot) → IsPath w c (at (Gone t) acts) xs q
    → (said_by xs ≡ []) × (own_by xs ≡ [])

-- the lines behind the first `died`
abbrev pub behind_died : List Said → List Said
behind_died [] = []
behind_died (Died ∷ lines) = lines
behind_died (line ∷ lines) = behind_died lines

abbrev pub NothingAfterDied : Type 0
NothingAfterDied =
    (w : World) (c : ℕ) (acts : List Act) (lines : List Said) (did : List Receipt)
    → IsTranscript w c acts lines did → behind_died lines ≡ []

-- a line that tells a record
abbrev pub has_record : Said → Bool
has_record LeftOpen = false
has_record Died = false
has_record (Busy h) = false
has_record PokeOk = false
has_record PokeOutOfRange = false
has_record (Refused CommitAct StoreFailed) = true
has_record (Refused act why) = false
has_record line = true

-- `stopped damage`, `stopped store` and `store stopped`
abbrev pub says_stop : Said → Bool
says_stop (Refused act why) = is_stop why
says_stop line = false

abbrev pub behind_stop : List Said → List Said
behind_stop [] = []
behind_stop (line ∷ lines) = if says_stop line then lines else behind_stop lines

abbrev pub NothingAfterStop : Type 0
NothingAfterStop =
    (w : World) (c : ℕ) (acts : List Act) (lines : List Said) (did : List Receipt)
    → IsTranscript w c acts lines did → list_all (λ line. not (has_record line)) (behind_stop lines) ≡ true

abbrev pub FewTries : Place → Type 0
FewTries (Within t tries cs d s) = tries < 1000
FewTries (Again tries h s) = tries < 1000
FewTries place = Unit {0}

abbrev pub TriesAreFew : Type 0
TriesAreFew = (w : World) (c : ℕ) (acts : List Act) (lines : List Said) (did pending : List Receipt) (q : Spot) → IsSoFar w c acts lines did pending q → FewTries q.place

-- a commit that was answered ok
pub record IsOkCommit (w : World) (did : List Receipt) : Type 0 where
  pub txn : ℕ
  pub number : ℕ
  pub own : Contains did (number, Logs (Commit txn))
  pub flushed : IsFlushed w number

abbrev pub OkIsFlushed : Type 0
OkIsFlushed =
    (w : World) (c : ℕ) (acts : List Act) (lines : List Said) (did : List Receipt)
    → IsTranscript w c acts lines did → Contains lines CommitOk → IsOkCommit w did

-- ---- the text
pub record StandsBefore (text first second : List ℕ) : Type 0 where
  pub front : List ℕ
  pub between : List ℕ
  pub behind : List ℕ
  pub is : text ≡ front ++ (first ++ (between ++ (second ++ behind)))

abbrev pub TextAscends : Type 0
TextAscends =
    (text : ℕ → List Said → List ℕ) (blocks : List Told) (lines : List (List Said)) (c d : ℕ) → 1 ≤ c → c < d → d ≤ 64
    → StandsBefore (round_text text blocks lines) (text c (lines_of blocks lines c)) (text d (lines_of blocks lines d))
