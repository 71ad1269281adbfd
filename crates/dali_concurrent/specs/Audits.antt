-- Audits: each region is passed under its own lock, and the client that began the audit ends it.
--     pass_told x, passed_in b p, passes_by b P      what a pass tells;  and what the entries tell of the passes of the audit from record b
--     PassesAreLines           the passes of an audit of the round are just those that its entries tell
--     NotPassed P b r          it hasn't passed the region r
--     PassFitsHere             what a pass of the region in hand finds fits
--     PassesLand               Passed, by the region
--     AuditEndsLand            Logs (AuditClean ..) and Logs (AuditFail ..), by the system, where the end fits
--     BeganIsHere              who began an audit began one of the round
--     AuditOpens               behind its begin it is open
--     NotEnded P b             no entry ends it
--     AuditStaysOpen           while no entry ends it, it stays open
--     OpenUntilPassed          one that hasn't passed a region hasn't ended: so a region's note knows, whatever others add
--     OpenUntilItsEnd          nor has one whose client hasn't ended it
use Rattle.std.specs.Prelude.{◌≡◌, ℕ, ◌+◌, ◌<◌, ◌≤◌, Bool, List, [], ◌∷◌, ◌++◌, Option, Some, None, if◌then◌else◌, ◌==◌, filter_map, map, slice_get}
use Rattle.dali_record.specs.declared.records.Record.TheVariants.{AuditBegin}
use Rattle.dali_region.specs.State.{RegionState, checked}
use Rattle.dali_runs.specs.State.{SystemState}
use Rattle.dali_runs.specs.Run.{Bases}
use Rattle.dali_runs.specs.Steps.{audit_begun, audit_ended, audit_record}
use Rattle.dali_runs.specs.Passes.{Pass}
use Rattle.dali_runs.specs.Audits.{IsAuditing}
use Rattle.dali_runs.specs.Courses.{Passes, AuditBegins, AuditEnds}
use Rattle.dali_runs.specs.Parts.Systems.{MayLogFound}
use Rattle.dali_crash.specs.Checkpoints.{Does, Point}
use Rattle.dali_transcripts.specs.World.{Logs}
use Rattle.dali_transcripts.specs.Telling.Deeds.{BeganHere}
use Rattle.dali_notes.specs.History.{IsSeen}
use Rattle.dali_concurrent.specs.Entries.{Entry, Did, Passed, Entries, At, client_note}
use Rattle.dali_concurrent.specs.Rules.{Outset, count_of, log_by, BeganAudit, AuditFits, PassFits, AllFit}
use Rattle.dali_concurrent.specs.Told.{OnRegion, OnSystem, Line, History, plain, core_told, world_told}
use Rattle.dali_concurrent.specs.Landing.{Stands, Lands}
use Rattle.dali_concurrent.specs.Holds.{IsLed}

-- the region, and whether its words were as its codeword says
abbrev pub pass_told : Pass → ℕ × Bool
pass_told x = (x.region, x.answer == 0)

abbrev pub passed_in : ℕ → List ℕ × Entry → Option (ℕ × Bool)
passed_in b (k, Passed r a right) = if b == a then Some (r, right) else None
passed_in b p = None

abbrev pub passes_by : ℕ → Entries → List (ℕ × Bool)
passes_by b P = filter_map (passed_in b) P

abbrev pub PassesAreLines : Type 0
PassesAreLines =
    (bases : Bases) (p : Point) (o : Outset) (T : History) (q : Point) (b : ℕ) → IsLed bases p o T → Stands bases p o T q → BeganHere (world_told o T) b
    → map pass_told (q.audits b) ≡ passes_by b (plain T)

abbrev pub NotPassed : Entries → ℕ → ℕ → Type 0
NotPassed P b r = (i : ℕ) (k : List ℕ) (right : Bool) → At P i (k, Passed r b right) → ⊥

abbrev pub PassFitsHere : Type 0
PassFitsHere =
    (bases : Bases) (p : Point) (o : Outset) (T : History) (b r : ℕ) (g : RegionState) → IsLed bases p o T → BeganHere (world_told o T) b
    → slice_get (core_told o T).regions r ≡ Some g → PassFits o (plain T) r b (g.stray == 0)

abbrev pub PassesLand : Type 0
PassesLand =
    (bases : Bases) (p : Point) (o : Outset) (T : History) (ks : List ℕ) (b r : ℕ) (right : Bool) (g : RegionState) → IsLed bases p o T
    → BeganHere (world_told o T) b → IsAuditing (core_told o T).system.sizes (log_by o (plain T)) b → NotPassed (plain T) b r
    → slice_get (core_told o T).regions r ≡ Some g
    → Lands bases p o T (ks, (Passed r b right, OnRegion r (checked g), Does (Passes b r) ∷ []))

abbrev pub AuditEndsLand : Type 0
AuditEndsLand =
    (bases : Bases) (p : Point) (o : Outset) (T : History) (ks : List ℕ) (c b : ℕ) (found : List ℕ) (y : SystemState) → IsLed bases p o T
    → y ≡ (core_told o T).system → MayLogFound (log_by o (plain T)) y b found → AuditFits o (plain T) c b found
    → Lands bases p o T (ks, (Did (Logs (audit_record b found)) c, OnSystem (audit_ended y b found), Does (AuditEnds b found) ∷ []))

abbrev pub BeganIsHere : Type 0
BeganIsHere = (o : Outset) (T : History) (c b : ℕ) → BeganAudit o (plain T) c b → BeganHere (world_told o T) b

abbrev pub AuditOpens : Type 0
AuditOpens =
    (bases : Bases) (p : Point) (o : Outset) (T : History) (ks : List ℕ) (c : ℕ) (y : SystemState) (e : Line) → IsLed bases p o T → y ≡ (core_told o T).system
    → y.stop ≡ None → y.end + 1 ≤ y.limit + 1048576
    → e ≡ (ks, (Did (Logs AuditBegin) c, OnSystem (audit_begun y), Does AuditBegins ∷ []))
    → BeganAudit o (plain (T ++ e ∷ [])) c y.records × IsAuditing (core_told o (T ++ e ∷ [])).system.sizes (log_by o (plain (T ++ e ∷ []))) y.records

abbrev pub NotEnded : Entries → ℕ → Type 0
NotEnded P b = (i c : ℕ) (k found : List ℕ) → At P i (k, Did (Logs (audit_record b found)) c) → ⊥

abbrev pub AuditStaysOpen : Type 0
AuditStaysOpen =
    (bases : Bases) (p : Point) (o : Outset) (S R : History) (b : ℕ) → IsLed bases p o (S ++ R)
    → IsAuditing (core_told o S).system.sizes (log_by o (plain S)) b → NotEnded (plain R) b
    → IsAuditing (core_told o (S ++ R)).system.sizes (log_by o (plain (S ++ R))) b

abbrev pub OpenUntilPassed : Type 0
OpenUntilPassed = (o : Outset) (P : Entries) (b r : ℕ) → AllFit o P → r < count_of o → NotPassed P b r → NotEnded P b

abbrev pub OpenUntilItsEnd : Type 0
OpenUntilItsEnd =
    (o : Outset) (seen new : Entries) (c b : ℕ) → AllFit o new → IsSeen new (client_note (count_of o) c) seen → BeganAudit o seen c b → NotEnded seen b
    → BeganAudit o new c b × NotEnded new b
