-- A round while it goes on, and when it is done.
--     Standing                 how far one client has come
--     AllStand w ss            so far have the clients come
--     RoundGoesOn              a step of one client leaves the others as they stand
--     RoundIsDone              a round of which each client is done has transcripts
--     RoundIsCut               a round that ends before has transcripts that are cut
--     AreSpans, AreAnchors       one checkpoint is under way at a time;  the anchor moves by one
--     PokesTell                each region's stray writes are those of the round's pokes
--     VerdictsTell             the regions that an audit names
--     FaultsTell               the store failed exactly where a deed says so
--     fits limit end xs        no record that uses room passes the limit
--     is_on r x                the deed x wants the hold of the region r
--     HasLooked w c i r g      a look of c at the region r, which had no damage then, whose hold lasts up to the place i
--     PrecheckTells            with precheck no operation is made on a region whose words differed from its codeword when its client looked
--     AreAtOnce                each such look is at the place of the operation itself, as where one thread makes all steps
--     HoldsTogether w          what is so of all clients together, while a round goes on too
--     IsPlaced within acts     each act stands where it may, and can be carried out
--     AreBlocks                what a round asks of its blocks
--     IsAtRest c               what a core is before a round, and behind one that ended in whichever way
--     IsBetween c              what it is before a round, and behind one that ended with Done
--     IsRound ..               what a round does: the clause of its call
--     Rounds ..                the same, with the text that is printed
use Rattle.std.specs.Prelude.{◌≡◌, ◌≢◌, ◌↔◌, ℕ, ◌+◌, ◌^◌, ◌<◌, ◌≤◌, true, false, ◌==◌, List, [], ◌∷◌, ◌++◌, Bool, if◌then◌else◌, Option, Some, None, Contains, length, map, slice_get, slice_set, take, IsSome, nat_le, sum_by, ◌&&◌}
use Rattle.dali_record.specs.declared.operations.Block.{Block}
use Rattle.dali_record.specs.declared.records.Record.{Record}
use Rattle.dali_record.specs.declared.records.Record.TheVariants.{Begin, Forward, Back, Solo, Done, AuditBegin}
use Rattle.dali_record.specs.Spelling.{IsCall, record_length}
use Rattle.dali_region.specs.State.{RegionState, IsLive}
use Rattle.dali_runs.specs.declared.causes.Cause.{Cause}
use Rattle.dali_runs.specs.Run.{HasRisen}
use Rattle.dali_runs.specs.State.{CoreState, row_of, state_of, lock_of, log_after}
use Rattle.dali_runs.specs.Steps.{audit_record}
use Rattle.dali_transcripts.specs.Words.{Act, Begins, Calls, Arms, Commits, Aborts, Pokes, Audits, Checkpoints, StoreFailed, Said}
use Rattle.dali_transcripts.specs.World.{Deed, Logs, DiesOn, GivesBack, StartsCheckpoint, MovesAnchor, EndsCheckpoint, Meets, Happening, World, state_after, lock_after, IsNoWeaker, is_dead_in, is_claimed_in, has_failed, log_of, log_at, stray_after, poked_after, refused_by, Grows}
use Rattle.dali_transcripts.specs.Moves.{Receipt, Spot}
use Rattle.dali_transcripts.specs.Causes.{AreRight}
use Rattle.dali_transcripts.specs.Transcripts.{IsSoFar, IsOver, IsUnderWay, deeds_of, receipts_of, AreHanded, Told, EachTells, AreTranscripts, round_text}

-- ---- while it goes on
pub record Standing : Type 0 where
  pub client : ℕ
  pub acts : List Act
  pub lines : List Said
  -- the deeds of the step that is under way
  pub pending : List Receipt
  pub spot : Spot

abbrev pub Stands : World → Standing → Type 0
Stands w s = IsSoFar w s.client s.acts s.lines (deeds_of w s.client) s.pending s.spot

abbrev pub AllStand : World → List Standing → Type 0
AllStand w ss = (i : ℕ) (s : Standing) → slice_get ss i ≡ Some s → Stands w s

-- the clients' numbers differ
abbrev pub Differ : List Standing → Type 0
Differ ss = (i j : ℕ) (s t : Standing) → slice_get ss i ≡ Some s → slice_get ss j ≡ Some t → (s.client == t.client) ≡ true → i ≡ j

-- deeds of one client
abbrev pub by : ℕ → List Deed → List Happening
by c xs = map (λ x. (x, c)) xs

abbrev pub RoundGoesOn : Type 0
RoundGoesOn =
    (v w : World) (xs : List Deed) (ss : List Standing) (i : ℕ) (s s' : Standing)
    → (g : Grows v w) → g.more ≡ by s.client xs → Differ ss → slice_get ss i ≡ Some s → s'.client ≡ s.client
    → AllStand v ss → Stands w s'
    → AllStand w (slice_set ss i s')

-- ---- when it is done
abbrev pub IsDone : Standing → Type 0
IsDone s = IsOver s.spot.place × (s.spot.rest ≡ []) × (s.pending ≡ [])

abbrev pub told_of : Standing → Told
told_of s = record { client = s.client; acts = s.acts }

abbrev pub lines_in : Standing → List Said
lines_in s = s.lines

abbrev pub RoundIsDone : Type 0
RoundIsDone =
    (w : World) (ss : List Standing)
    → AllStand w ss → ((i : ℕ) (s : Standing) → slice_get ss i ≡ Some s → IsDone s)
    → EachTells true w (map told_of ss) (map lines_in ss)

abbrev pub RoundIsCut : Type 0
RoundIsCut =
    (w : World) (ss : List Standing)
    → AllStand w ss → ((i : ℕ) (s : Standing) → slice_get ss i ≡ Some s → IsUnderWay w s.client s.spot s.pending [])
    → EachTells false w (map told_of ss) (map lines_in ss)

-- ---- checkpoints
-- one starts where none is under way, and its own client ends it
abbrev pub AreSpans : Option ℕ → List Happening → Type 0
AreSpans o [] = Unit {0}
AreSpans o ((StartsCheckpoint, c) ∷ xs) = (o ≡ None) × AreSpans (Some c) xs
AreSpans o ((EndsCheckpoint, c) ∷ xs) = (o ≡ Some c) × AreSpans None xs
AreSpans o (x ∷ xs) = AreSpans o xs

-- the anchor is moved so, one number at a time
abbrev pub AreAnchors : ℕ → List Happening → ℕ → Type 0
AreAnchors old [] new = new ≡ old
AreAnchors old ((MovesAnchor n, c) ∷ xs) new = (n ≡ old + 1) × AreAnchors n xs new
AreAnchors old (x ∷ xs) new = AreAnchors old xs new

-- ---- stray writes
abbrev pub PokesTell : World → Type 0
PokesTell w =
    (r : ℕ) (g h : RegionState) → slice_get w.old.regions r ≡ Some g → slice_get w.core.regions r ≡ Some h
    → (h.stray ≡ stray_after r g.stray w.happened) × (h.poked ≡ poked_after r g.poked w.happened)

-- once between its begin and its end an audit passes the region, and names it exactly where its stray writes don't cancel there
abbrev pub VerdictsTell : World → Type 0
VerdictsTell w =
    (i b c : ℕ) (found : List ℕ) → slice_get w.happened i ≡ Some (Logs (audit_record b found), c)
    → (r : ℕ) (g : RegionState) → slice_get w.old.regions r ≡ Some g
    → (j : ℕ) × (j ≤ i) × (b < length (log_at w j)) × (Contains found r ↔ (stray_after r g.stray (take j w.happened) ≢ 0))

-- ---- the store
-- it fails once, and its count of faults rises then alone
pub record FaultsTell (w : World) : Type 0 where
  pub stopped : w.core.vault.stopped ≡ has_failed w.old.vault.stopped w.happened
  pub once : (i c : ℕ) → slice_get w.happened i ≡ Some (Meets StoreFailed, c) → has_failed w.old.vault.stopped (take i w.happened) ≡ false
  pub none : has_failed false w.happened ≡ false → w.core.vault.faults ≡ w.old.vault.faults
  pub rose : has_failed false w.happened ≡ true → HasRisen w.old.vault.faults w.core.vault.faults

-- ---- room
-- what must not end behind the limit, and behind which; an audit's begin has some room that others lack
abbrev pub room_for : ℕ → Record → Option ℕ
room_for limit (Begin t) = Some limit
room_for limit (Forward t b) = Some limit
room_for limit (Done t call a) = Some limit
room_for limit AuditBegin = Some (limit + 1048576)
room_for limit x = None

abbrev pub ends_within : ℕ → Option ℕ → Bool
ends_within end None = true
ends_within end (Some limit) = nat_le end limit

-- behind records of this length
abbrev pub fits : (limit end : ℕ) → List Happening → Bool
fits limit end [] = true
fits limit end ((Logs x, c) ∷ xs) = ends_within (end + record_length x) (room_for limit x) && fits limit (end + record_length x) xs
fits limit end (x ∷ xs) = fits limit end xs

-- ---- precheck
-- the stray writes to the region cancel at this place
abbrev pub WasRight : World → (place region : ℕ) → RegionState → Type 0
WasRight w i r g = stray_after r g.stray (take i w.happened) ≡ 0

-- what is done on a region by its holder alone
abbrev pub is_on : ℕ → Deed → Bool
is_on r (Logs (Forward t b)) = b.region == r
is_on r (Logs (Back t b)) = b.region == r
is_on r (Logs (Solo p t b)) = b.region == r
is_on r (DiesOn t q) = q == r
is_on r (GivesBack t (Some q)) = q == r
is_on r x = false

-- behind the look its client does nothing else, and no other client what wants the hold; stray writes and audits may come between
pub record HasLooked (w : World) (c i r : ℕ) (g : RegionState) : Type 0 where
  pub place : ℕ
  pub before : place ≤ i
  pub right : WasRight w place r g
  pub held : (k d : ℕ) (x : Deed) → place ≤ k → k < i → slice_get w.happened k ≡ Some (x, d) → ((d == c) ≡ false) × (is_on r x ≡ false)

pub record PrecheckTells (w : World) : Type 0 where
  pub operations : (i t c : ℕ) (b : Block) (g : RegionState) → slice_get w.happened i ≡ Some (Logs (Forward t b), c)
      → slice_get w.old.regions b.region ≡ Some g → HasLooked w c i b.region g
  pub deaths : (i t r c : ℕ) (g : RegionState) → slice_get w.happened i ≡ Some (DiesOn t r, c) → slice_get w.old.regions r ≡ Some g → HasLooked w c i r g

pub record AreAtOnce (w : World) : Type 0 where
  pub operations : (i t c : ℕ) (b : Block) (g : RegionState) → slice_get w.happened i ≡ Some (Logs (Forward t b), c)
      → slice_get w.old.regions b.region ≡ Some g → WasRight w i b.region g
  pub deaths : (i t r c : ℕ) (g : RegionState) → slice_get w.happened i ≡ Some (DiesOn t r, c) → slice_get w.old.regions r ≡ Some g → WasRight w i r g

-- ---- all clients together
pub record HoldsTogether (w : World) : Type 0 where
  pub spans : AreSpans None w.happened
  pub anchors : AreAnchors w.old.vault.current w.happened w.core.vault.current
  pub pokes : PokesTell w
  pub verdicts : VerdictsTell w
  -- each transaction stands where the deeds leave it
  pub states : (t : ℕ) → state_of w.core.system t ≡ state_after w w.happened t
  -- and has the locks that they tell
  pub locks : (t k : ℕ) → IsNoWeaker (lock_of w.core.system t k) (lock_after w w.happened t k)
  pub faults : FaultsTell w
  pub refusals : w.core.system.refusals ≡ w.old.system.refusals ++ refused_by w.happened
  pub room : fits w.old.system.limit (sum_by record_length w.before) w.happened ≡ true
  pub prechecks : w.precheck ≡ true → PrecheckTells w

-- ---- what a round asks for
-- within: a transaction is open in front of the acts
abbrev pub IsPlaced : (within : Bool) → List Act → Type 0
IsPlaced within [] = Unit {0}
IsPlaced false (Begins ∷ acts) = IsPlaced true acts
IsPlaced true (Calls call ∷ acts) = IsCall call × IsPlaced true acts
IsPlaced true (Arms operations ∷ acts) = (1 ≤ operations) × IsPlaced true acts
IsPlaced true (Commits ∷ acts) = IsPlaced false acts
IsPlaced true (Aborts ∷ acts) = IsPlaced false acts
IsPlaced false (Pokes region word mask ∷ acts) = (word < 64) × (1 ≤ mask) × (mask < 2 ^ 64) × IsPlaced false acts
IsPlaced false (Audits ∷ acts) = IsPlaced false acts
IsPlaced false (Checkpoints ∷ acts) = IsPlaced false acts
IsPlaced within acts = ⊥

pub record AreBlocks (blocks : List Told) : Type 0 where
  pub numbers : (i : ℕ) (b : Told) → slice_get blocks i ≡ Some b → (1 ≤ b.client) × (b.client ≤ 64)
  pub placed : (i : ℕ) (b : Told) → slice_get blocks i ≡ Some b → IsPlaced false b.acts
  pub apart : (i j : ℕ) (a b : Told) → slice_get blocks i ≡ Some a → slice_get blocks j ≡ Some b → a.client ≡ b.client → i ≡ j

-- a store that failed has stopped the engine; no hold is live, no checkpoint under way, and no transaction claimed
pub record IsAtRest (c : CoreState) : Type 0 where
  pub stopped : c.vault.stopped ≡ true → (cause : Cause) × (c.system.stop ≡ Some cause)
  pub holds : (r : ℕ) (g : RegionState) → slice_get c.regions r ≡ Some g → IsLive g → ⊥
  pub flag : c.system.checking ≡ false
  pub free : (t : ℕ) → is_claimed_in (state_of c.system t) ≡ false

-- while the engine runs, each transaction is that of a client that died
pub record IsBetween (c : CoreState) : Type 0 where
  pub rests : IsAtRest c
  pub idle : c.system.stop ≡ None → (t : ℕ) → IsSome (row_of c.system t) → is_dead_in (state_of c.system t) ≡ true

-- ---- the clause of a round
-- whole: it ended with Done. before: the records that stood when the system was made; lines and receipts are those of the blocks
pub record IsRound (precheck whole : Bool) (before : List Record) (old new : CoreState) (blocks : List Told) (lines : List (List Said)) (receipts : List (List ℕ)) : Type 0 where
  pub world : World
  pub old_is : world.old ≡ old
  pub before_is : world.before ≡ log_after before old.system
  pub precheck_is : world.precheck ≡ precheck
  pub core_is : world.core ≡ new
  -- nothing that was so before the round is lost
  pub grew : Grows (record world { happened = []; core = old }) world
  pub log : log_after before new.system ≡ log_of world
  pub transcripts : AreTranscripts whole world blocks lines
  pub receipts_are : AreHanded whole (receipts_of world blocks) receipts
  pub right : AreRight world
  pub together : HoldsTogether world
  pub rests : IsAtRest new
  pub between : whole ≡ true → IsBetween new

-- text gives the lines of one client, behind its number; a round that was cut prints nothing
pub record Rounds (text : ℕ → List Said → List ℕ) (precheck whole : Bool) (before : List Record) (old new : CoreState) (blocks : List Told) (printed : List ℕ) : Type 0 where
  pub lines : List (List Said)
  pub receipts : List (List ℕ)
  pub round : IsRound precheck whole before old new blocks lines receipts
  pub printed_is : printed ≡ (if whole then round_text text blocks lines else [])
