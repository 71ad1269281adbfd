-- The transcript of a client, and those of a round.
--     IsPath w c p xs q        these steps lead the client c from p to q
--     said_by xs, own_by xs    what it said and did in them
--     IsSoFar w c acts lines did pending q       a client that was told these acts has come to q; it said these lines and did these deeds, of
--                              which those of pending belong to the step that is under way
--     IsTranscript w c acts lines did    the client is done
--     IsBeingSaid ..           the step under way is done, and some of its lines are missing
--     IsUnderWay ..            so it is, or the step isn't done and said nothing
--     IsCut ..                 the round ended before the client was done
--     owned c n xs             of what happened, what c did; n records stood before
--     deeds_of w c             all that c did
--     numbers_of xs            the numbers of the records that were logged in these deeds
--     AreHanded ..             the numbers that the clients were handed
--     AreTranscripts ..        the transcripts of all clients of a round
--     round_text ..            the text of a round
use Rattle.std.specs.Prelude.{◌≡◌, ℕ, zero, suc, ◌+◌, ◌⊎◌, Bool, true, false, List, [], ◌∷◌, ◌++◌, if◌then◌else◌, ◌==◌, Option, Some, None, option_to_list, filter_map, flat_map, length, map, nat_lt}
use Rattle.std.specs.List.{list_all}
use Rattle.dali_record.specs.declared.records.Record.TheVariants.{Begin, Done, Commit, Ended}
use Rattle.dali_transcripts.specs.Words.{Act, Said, Begun, Answered, CommitOk, AbortOk, Aborted, Refused, Commits as CommitAct, StoreFailed}
use Rattle.dali_transcripts.specs.World.{Deed, Logs, Happening, World}
use Rattle.dali_transcripts.specs.Moves.{Receipt, Place, Outside, LeftOut, Gone, Spot, Move, from, said, own, to, start}
use Rattle.dali_transcripts.specs.Causes.{AreUnfinished, HasCause}

-- ---- one client
abbrev pub IsPath : World → ℕ → Spot → List Move → Spot → Type 0
IsPath w c p [] q = p ≡ q
IsPath w c p (x ∷ xs) q = (p ≡ from x) × HasCause w c x × IsPath w c (to x) xs q

abbrev pub said_by : List Move → List Said
said_by xs = flat_map said xs

abbrev pub own_by : List Move → List Receipt
own_by xs = flat_map own xs

pub record IsSoFar (w : World) (c : ℕ) (acts : List Act) (lines : List Said) (did pending : List Receipt) (q : Spot) : Type 0 where
  pub moves : List Move
  pub path : IsPath w c (start acts) moves q
  pub lines_are : lines ≡ said_by moves
  pub did_are : did ≡ own_by moves ++ pending

abbrev pub IsOver : Place → Type 0
IsOver (Outside stopped) = Unit {0}
IsOver (LeftOut stopped) = Unit {0}
IsOver (Gone t) = Unit {0}
IsOver place = ⊥

pub record IsTranscript (w : World) (c : ℕ) (acts : List Act) (lines : List Said) (did : List Receipt) : Type 0 where
  pub place : Place
  pub over : IsOver place
  pub so_far : IsSoFar w c acts lines did [] (record { place = place; rest = [] })

-- ---- the lines that tell records of transactions, and the records that lines tell
abbrev pub line_told : Said → Option Said
line_told (Begun t) = Some (Begun t)
line_told (Answered call a) = Some (Answered call a)
line_told CommitOk = Some CommitOk
line_told AbortOk = Some Aborted
line_told Aborted = Some Aborted
line_told (Refused CommitAct StoreFailed) = Some (Refused CommitAct StoreFailed)
line_told line = None

abbrev pub commit_line : Bool → Said
commit_line true = CommitOk
commit_line false = Refused CommitAct StoreFailed

-- whether this is the client's transaction
abbrev pub is_own : ℕ → Option ℕ → Bool
is_own t None = false
is_own t (Some u) = t == u

-- so many records are flushed, and the client is in this transaction
abbrev pub line_of : ℕ → Option ℕ → Receipt → Option Said
line_of flushed in_txn (n, Logs (Begin t)) = Some (Begun t)
line_of flushed in_txn (n, Logs (Done t call a)) = Some (Answered call a)
line_of flushed in_txn (n, Logs (Commit t)) = Some (commit_line (nat_lt n flushed))
line_of flushed in_txn (n, Logs (Ended t)) = if is_own t in_txn then Some Aborted else None
line_of flushed in_txn x = None

-- in which transaction it is then, that isn't committed
abbrev pub txn_after : Option ℕ → Receipt → Option ℕ
txn_after in_txn (n, Logs (Begin t)) = Some t
txn_after in_txn (n, Logs (Commit t)) = None
txn_after in_txn x = in_txn

abbrev pub txn_behind : Option ℕ → List Receipt → Option ℕ
txn_behind in_txn [] = in_txn
txn_behind in_txn (x ∷ xs) = txn_behind (txn_after in_txn x) xs

-- the lines that these deeds are told by
abbrev pub lines_of_records : ℕ → Option ℕ → List Receipt → List Said
lines_of_records flushed in_txn [] = []
lines_of_records flushed in_txn (x ∷ xs) = option_to_list (line_of flushed in_txn x) ++ lines_of_records flushed (txn_after in_txn x) xs

-- ---- a client that was cut
-- the step under way is done, and its last lines are missing
pub record IsBeingSaid (w : World) (c : ℕ) (q : Spot) (pending : List Receipt) (part : List Said) : Type 0 where
  pub move : Move
  pub starts : q ≡ from move
  pub own_is : pending ≡ own move
  pub cause : HasCause w c move
  pub lacking : List Said
  pub said_is : said move ≡ part ++ lacking

-- the step under way isn't done, or some of its lines are missing; part: what it said of it
abbrev pub IsUnderWay : World → ℕ → Spot → List Receipt → List Said → Type 0
IsUnderWay w c q pending part = ((part ≡ []) × AreUnfinished w c q.place q.rest pending) ⊎ IsBeingSaid w c q pending part

pub record IsCut (w : World) (c : ℕ) (acts : List Act) (lines : List Said) (did : List Receipt) : Type 0 where
  pub spot : Spot
  pub pending : List Receipt
  pub told : List Said
  pub part : List Said
  pub lines_are : lines ≡ told ++ part
  pub so_far : IsSoFar w c acts told did pending spot
  pub under_way : IsUnderWay w c spot pending part

abbrev pub MayBeCut : (whole : Bool) → World → ℕ → List Act → List Said → List Receipt → Type 0
MayBeCut true w c acts lines did = IsTranscript w c acts lines did
MayBeCut false w c acts lines did = IsCut w c acts lines did

-- ---- a round
abbrev pub owned_one : Bool → Receipt → List Receipt → List Receipt
owned_one true x xs = x ∷ xs
owned_one false x xs = xs

-- how many records stand behind the deed
abbrev pub count_with : ℕ → Deed → ℕ
count_with n (Logs x) = n + 1
count_with n deed = n

abbrev pub owned : ℕ → ℕ → List Happening → List Receipt
owned c n [] = []
owned c n (x ∷ xs) = owned_one (x.1 == c) (n, x.0) (owned c (count_with n x.0) xs)

abbrev pub deeds_of : World → ℕ → List Receipt
deeds_of w c = owned c (length w.before) w.happened

-- a client of the round: its number, and what it was told to do
pub record Told : Type 0 where
  pub client : ℕ
  pub acts : List Act

-- the numbers of the records among some deeds
abbrev pub number_in : Receipt → Option ℕ
number_in (n, Logs x) = Some n
number_in x = None

abbrev pub numbers_of : List Receipt → List ℕ
numbers_of xs = filter_map number_in xs

abbrev pub receipts_of : World → List Told → List (List ℕ)
receipts_of w blocks = map (λ (b : Told). numbers_of (deeds_of w b.client)) blocks

-- all of them, or the first of each client where the round was cut
abbrev pub AreHanded : (whole : Bool) → (all given : List (List ℕ)) → Type 0
AreHanded true all given = given ≡ all
AreHanded false all [] = Unit {0}
AreHanded false [] (given ∷ others) = ⊥
AreHanded false (all ∷ more) (given ∷ others) = ((lacking : List ℕ) × (all ≡ given ++ lacking)) × AreHanded false more others

abbrev pub is_among : List Told → ℕ → Bool
is_among [] c = false
is_among (b ∷ bs) c = if b.client == c then true else is_among bs c

abbrev pub EachTells : Bool → World → List Told → List (List Said) → Type 0
EachTells whole w [] [] = Unit {0}
EachTells whole w (b ∷ bs) (lines ∷ more) = MayBeCut whole w b.client b.acts lines (deeds_of w b.client) × EachTells whole w bs more
-- where the round was cut, clients without a list said nothing
EachTells false w (b ∷ bs) [] = MayBeCut false w b.client b.acts [] (deeds_of w b.client) × EachTells false w bs []
EachTells whole w bs more = ⊥

-- whole: the round ended with Done
pub record AreTranscripts (whole : Bool) (w : World) (blocks : List Told) (lines : List (List Said)) : Type 0 where
  -- nothing is done but by these clients
  pub owners : list_all (λ (x : Happening). is_among blocks x.1) w.happened ≡ true
  pub each : EachTells whole w blocks lines

-- ---- its text: by ascending number of the client
abbrev pub lines_of : List Told → List (List Said) → ℕ → List Said
lines_of (b ∷ bs) (lines ∷ more) c = if b.client == c then lines else lines_of bs more c
lines_of bs more c = []

abbrev pub text_up_to : (ℕ → List Said → List ℕ) → List Told → List (List Said) → ℕ → List ℕ
text_up_to text blocks lines zero = []
text_up_to text blocks lines (suc c) = text_up_to text blocks lines c ++ text (suc c) (lines_of blocks lines (suc c))

-- text gives the lines of one client, behind its number
abbrev pub round_text : (ℕ → List Said → List ℕ) → List Told → List (List Said) → List ℕ
round_text text blocks lines = text_up_to text blocks lines 64
