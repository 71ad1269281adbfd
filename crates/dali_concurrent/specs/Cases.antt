-- Deeds of a round, each by what the value under the lock gives.
--     BeginsLand               Logs (Begin t), by the system
--     AnswersLand              Logs (Done t k a)
--     GrantsLand               GetsLock, by the system and what the client knows of its transaction
--     YieldsLand               Yields and FindsDead, with what is right of them
--     StraysLand               Strays, by the region
--     OperatesLand             Logs (Forward t b), by the region and the system, with a look
--     CommitsLand, ClaimsLand, AuditBeginsLand     Logs (Commit t), Claims, Logs AuditBegin, by the system
--     TakesBackLand, FreesLand     Logs (Back t b), Logs (Solo ..), by the region and the system
--     EndsLand                 Logs (Ended t), by the system, where no region is told to have a hold of t
--     DiesLand                 DiesOn, by the region and the system, with a look, where t has no other live hold
--     GivesBackLand            GivesBack, by the system, where just this region is told to have a hold of t, which is dead, and what is right of it
--     RecoversLand             who has claimed t takes back the operation in which its client died, by the region
--     TakesLand                a frame is taken, by the system
--     LookIsMade               what an entry's fitting gives of its look
use Rattle.std.specs.Prelude.{◌≡◌, true, Option, ◌≢◌, ◌⊎◌, ℕ, ◌+◌, ◌≤◌, ◌<◌, ◌^◌, List, [], ◌∷◌, Some, None, IsSome, slice_get}
use Rattle.dali_record.specs.declared.operations.Block.{Block}
use Rattle.dali_record.specs.declared.records.Call.{Call}
use Rattle.dali_record.specs.declared.records.Answer.{Answer}
use Rattle.dali_record.specs.declared.records.Record.TheVariants.{Begin, Forward, Done, Commit, Ended, Solo, AuditBegin, Back}
use Rattle.dali_record.specs.Spelling.{CanBeSpelled}
use Rattle.dali_region.specs.State.{RegionState, touched, taken_back, poked, dead}
use Rattle.dali_locks.specs.declared.mode.Mode.{Mode}
use Rattle.dali_locks.specs.declared.mode.LockAnswer.TheVariants.{Granted, Busy}
use Rattle.dali_locks.specs.Locks.{IsAnswer}
use Rattle.dali_att.specs.declared.state.State.TheVariants.{Live, Dead, Cleaning}
use Rattle.dali_runs.specs.State.{SystemState, row_of, state_of}
use Rattle.dali_runs.specs.Run.{Bases}
use Rattle.dali_runs.specs.Keeps.{HasRoom, MayAdd, MayRecover}
use Rattle.dali_runs.specs.Steps.{begun, op_logged, back_logged, solo_logged, done_logged, commit_logged, ended_logged, audit_begun, granted, refused, in_state, taken}
use Rattle.dali_runs.specs.Regions.{Poke}
use Rattle.dali_runs.specs.Courses.{Begins, Operates, TakesBack, Frees, Answers, Commits, Ends, AuditBegins, Locks, Refuses, OnRegion as StepsOn, Dies, Claims, GivesBack, Recovers, Takes}
use Rattle.dali_runs.specs.Parts.Systems.{MayLogHeld}
use Rattle.dali_crash.specs.Checkpoints.{Does, Point}
use Rattle.dali_transcripts.specs.World.{Deed, Logs, Strays, DiesOn, Claims as ClaimsTxn, GivesBack as GivesTxnBack, GetsLock, Yields, FindsDead}
use Rattle.dali_transcripts.specs.Telling.Deeds.{HasLookedFor, refusal_at}
use Rattle.dali_concurrent.specs.Entries.{Entry, Did, Took, live_by}
use Rattle.dali_concurrent.specs.Rules.{Outset, count_of, log_by, live_in, dead_by, NoneLive, DeedFits, AllFit}
use Rattle.dali_concurrent.specs.Told.{OnRegion, OnSystem, OnBoth, History, plain, core_told, world_told, is_tie}
use Rattle.dali_concurrent.specs.Landing.{Lands}
use Rattle.dali_concurrent.specs.Sorts.{RightHere}
use Rattle.dali_concurrent.specs.Holds.{IsLed}

abbrev pub BeginsLand : Type 0
BeginsLand =
    (bases : Bases) (p : Point) (o : Outset) (T : History) (ks : List ℕ) (c : ℕ) (y : SystemState) → y ≡ (core_told o T).system → HasRoom y (Begin y.next)
    → Lands bases p o T (ks, (Did (Logs (Begin y.next)) c, OnSystem (begun y), Does Begins ∷ []))

abbrev pub AnswersLand : Type 0
AnswersLand =
    (bases : Bases) (p : Point) (o : Outset) (T : History) (ks : List ℕ) (c t : ℕ) (k : Call) (a : Answer) (y : SystemState) → y ≡ (core_told o T).system
    → HasRoom y (Done t k a) → CanBeSpelled (Done t k a) → MayAdd (log_by o (plain T)) y t (Done t k a)
    → Lands bases p o T (ks, (Did (Logs (Done t k a)) c, OnSystem (done_logged y t k a), Does (Answers t k a) ∷ []))

abbrev pub GrantsLand : Type 0
GrantsLand =
    (bases : Bases) (p : Point) (o : Outset) (T : History) (ks : List ℕ) (c t k : ℕ) (m : Mode) (y : SystemState) → y ≡ (core_told o T).system
    → y.stop ≡ None → state_of y t ≡ Some Live → IsAnswer y.locks t k m Granted
    → Lands bases p o T (ks, (Did (GetsLock t k m) c, OnSystem (granted y t k m), Does (Locks t k m) ∷ []))

-- the deed x tells it
abbrev pub YieldsLand : Type 0
YieldsLand =
    (bases : Bases) (p : Point) (o : Outset) (T : History) (ks : List ℕ) (c t k h : ℕ) (m : Mode) (y : SystemState) (x : Deed) → y ≡ (core_told o T).system
    → IsSome (row_of y t) → IsAnswer y.locks t k m (Busy h)
    → (x ≡ Yields (refusal_at y t k m h)) ⊎ (x ≡ FindsDead (refusal_at y t k m h))
    → RightHere bases p o T (Did x c) (OnSystem (refused y t k m h))
    → Lands bases p o T (ks, (Did x c, OnSystem (refused y t k m h), Does (Refuses t k m h) ∷ []))

abbrev pub StraysLand : Type 0
StraysLand =
    (bases : Bases) (p : Point) (o : Outset) (T : History) (ks : List ℕ) (c r word mask : ℕ) (g : RegionState) → slice_get (core_told o T).regions r ≡ Some g
    → word < 64 → mask ≢ 0 → mask < 2 ^ 64
    → Lands bases p o T (ks, (Did (Strays r word mask) c, OnRegion r (poked word mask g), Does (StepsOn r (Poke word mask)) ∷ []))

abbrev pub OperatesLand : Type 0
OperatesLand =
    (bases : Bases) (p : Point) (o : Outset) (T : History) (ks : List ℕ) (c t : ℕ) (b : Block) (y : SystemState) (g : RegionState) → y ≡ (core_told o T).system
    → slice_get (core_told o T).regions b.region ≡ Some g
    → HasRoom y (Forward t b) → MayLogHeld (log_by o (plain T)) y (Forward t b) t b g → HasLookedFor (world_told o T) c (Logs (Forward t b))
    → Lands bases p o T (ks, (Did (Logs (Forward t b)) c, OnBoth b.region (touched g) (op_logged y t b), Does (Operates t b) ∷ []))

abbrev pub CommitsLand : Type 0
CommitsLand =
    (bases : Bases) (p : Point) (o : Outset) (T : History) (ks : List ℕ) (c t : ℕ) (y : SystemState) → y ≡ (core_told o T).system
    → y.stop ≡ None → MayAdd (log_by o (plain T)) y t (Commit t)
    → Lands bases p o T (ks, (Did (Logs (Commit t)) c, OnSystem (commit_logged y t), Does (Commits t) ∷ []))

abbrev pub ClaimsLand : Type 0
ClaimsLand =
    (bases : Bases) (p : Point) (o : Outset) (T : History) (ks : List ℕ) (c t : ℕ) (latched : Option ℕ) (y : SystemState) → y ≡ (core_told o T).system
    → state_of y t ≡ Some (Dead latched)
    → Lands bases p o T (ks, (Did (ClaimsTxn t) c, OnSystem (in_state y t (Cleaning latched)), Does (Claims t) ∷ []))

abbrev pub AuditBeginsLand : Type 0
AuditBeginsLand =
    (bases : Bases) (p : Point) (o : Outset) (T : History) (ks : List ℕ) (c : ℕ) (y : SystemState) → y ≡ (core_told o T).system
    → y.stop ≡ None → y.end + 1 ≤ y.limit + 1048576
    → Lands bases p o T (ks, (Did (Logs AuditBegin) c, OnSystem (audit_begun y), Does AuditBegins ∷ []))

abbrev pub TakesBackLand : Type 0
TakesBackLand =
    (bases : Bases) (p : Point) (o : Outset) (T : History) (ks : List ℕ) (c t : ℕ) (b : Block) (y : SystemState) (g : RegionState) → y ≡ (core_told o T).system
    → slice_get (core_told o T).regions b.region ≡ Some g → MayLogHeld (log_by o (plain T)) y (Back t b) t b g
    → Lands bases p o T (ks, (Did (Logs (Back t b)) c, OnBoth b.region (touched g) (back_logged y t b), Does (TakesBack t b) ∷ []))

abbrev pub FreesLand : Type 0
FreesLand =
    (bases : Bases) (p : Point) (o : Outset) (T : History) (ks : List ℕ) (c t : ℕ) (b : Block) (y : SystemState) (g : RegionState) → y ≡ (core_told o T).system
    → slice_get (core_told o T).regions b.region ≡ Some g → MayLogHeld (log_by o (plain T)) y (Solo y.next t b) t b g
    → Lands bases p o T (ks, (Did (Logs (Solo y.next t b)) c, OnBoth b.region (touched g) (solo_logged y t b), Does (Frees t b) ∷ []))

-- ---- what other values are asked for is so of the core that is told
abbrev pub EndsLand : Type 0
EndsLand =
    (bases : Bases) (p : Point) (o : Outset) (T : History) (ks : List ℕ) (c t : ℕ) (y : SystemState) → y ≡ (core_told o T).system
    → y.stop ≡ None → MayAdd (log_by o (plain T)) y t (Ended t) → IsLed bases p o T
    → NoneLive (plain T) t → ((r : ℕ) → r < count_of o → dead_by o r (plain T) ≡ Some t → ⊥)
    → Lands bases p o T (ks, (Did (Logs (Ended t)) c, OnSystem (ended_logged y t), Does (Ends t) ∷ []))

abbrev pub DiesLand : Type 0
DiesLand =
    (bases : Bases) (p : Point) (o : Outset) (T : History) (ks : List ℕ) (c t r : ℕ) (y : SystemState) (g : RegionState) → y ≡ (core_told o T).system
    → slice_get (core_told o T).regions r ≡ Some g
    → state_of y t ≡ Some Live → live_in g.hold ≡ Some t → IsLed bases p o T
    → ((q d : ℕ) → live_by q (plain T) ≡ Some (t, d) → r ≡ q) → HasLookedFor (world_told o T) c (DiesOn t r)
    → Lands bases p o T (ks, (Did (DiesOn t r) c, OnBoth r (dead g) (in_state y t (Dead (Some r))), Does (Dies t (Some r)) ∷ []))

abbrev pub GivesBackLand : Type 0
GivesBackLand =
    (bases : Bases) (p : Point) (o : Outset) (T : History) (ks : List ℕ) (c t : ℕ) (was latched : Option ℕ) (y : SystemState) → y ≡ (core_told o T).system
    → state_of y t ≡ Some (Cleaning was) → IsLed bases p o T → NoneLive (plain T) t
    → ((r : ℕ) → latched ≡ Some r → (r < count_of o) × (dead_by o r (plain T) ≡ Some t)) → ((r : ℕ) → r < count_of o → dead_by o r (plain T) ≡ Some t → latched ≡ Some r)
    → RightHere bases p o T (Did (GivesTxnBack t latched) c) (OnSystem (in_state y t (Dead latched)))
    → Lands bases p o T (ks, (Did (GivesTxnBack t latched) c, OnSystem (in_state y t (Dead latched)), Does (GivesBack t latched) ∷ []))

abbrev pub RecoversLand : Type 0
RecoversLand =
    (bases : Bases) (p : Point) (o : Outset) (T : History) (ks : List ℕ) (e : Entry) (r : ℕ) (g : RegionState) → is_tie e ≡ true
    → slice_get (core_told o T).regions r ≡ Some g → MayRecover (core_told o T) g
    → Lands bases p o T (ks, (e, OnRegion r (taken_back g), Does (Recovers r) ∷ []))

abbrev pub TakesLand : Type 0
TakesLand =
    (bases : Bases) (p : Point) (o : Outset) (T : History) (ks : List ℕ) (y : SystemState) → y ≡ (core_told o T).system
    → Lands bases p o T (ks, (Took, OnSystem (taken y), Does Takes ∷ []))

abbrev pub LookIsMade : Type 0
LookIsMade =
    (o : Outset) (T : History) (c : ℕ) (x : Deed) → AllFit o (plain T) → DeedFits o (plain T) x c → HasLookedFor (world_told o T) c x
