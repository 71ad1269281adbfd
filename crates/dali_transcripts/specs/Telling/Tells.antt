-- What is so of all deeds of a round while it goes on.
--     after w c ds d           the world behind these deeds of the client c, which leave the core d
--     AreRightThen w c ds d    each of these deeds has what it asks for at its place
--     WasPassed w b x          a pass of the audit from record b gave what stray writes had left at some place of the round
--     PassesAreTold w audits   so did each pass of an audit of the round
--     Tells w p                the world w tells of the point p: its log and core, and what a round says of all its clients together
--     Goes w c p ds v q        the client c did these deeds, which lead from w and p to v and q
use Rattle.std.specs.Prelude.{◌≡◌, ℕ, ◌<◌, ◌≤◌, is_some, List, [], ◌++◌, Some, length, slice_get, take}
use Rattle.dali_record.specs.declared.records.Record.TheVariants.{AuditBegin}
use Rattle.dali_region.specs.State.{RegionState}
use Rattle.dali_runs.specs.State.{CoreState}
use Rattle.dali_runs.specs.Passes.{Pass, Audits}
use Rattle.dali_crash.specs.Checkpoints.{Point}
use Rattle.dali_transcripts.specs.World.{Deed, World, IsLogged, log_of, log_at, stray_after, under_way, Grows}
use Rattle.dali_transcripts.specs.Causes.{AreRightFrom, AreRight}
use Rattle.dali_transcripts.specs.Rounds.{by, HoldsTogether}

abbrev pub after : World → (client : ℕ) → List Deed → CoreState → World
after w c ds d = record w { happened = w.happened ++ by c ds; core = d }

abbrev pub AreRightThen : World → (client : ℕ) → List Deed → CoreState → Type 0
AreRightThen w c ds d = AreRightFrom (after w c ds d) (length w.happened) (by c ds)

-- ---- the passes of the round's audits
pub record WasPassed (w : World) (b : ℕ) (x : Pass) : Type 0 where
  pub place : ℕ
  pub within : place ≤ length w.happened
  pub behind : b < length (log_at w place)
  pub answer : (g : RegionState) → slice_get w.old.regions x.region ≡ Some g → x.answer ≡ stray_after x.region g.stray (take place w.happened)

abbrev pub PassesAreTold : World → Audits → Type 0
PassesAreTold w audits = (b i : ℕ) (x : Pass) → length w.before ≤ b → IsLogged w b AuditBegin → slice_get (audits b) i ≡ Some x → WasPassed w b x

-- ---- the world of a point
pub record Tells (w : World) (p : Point) : Type 0 where
  pub core : w.core ≡ p.core
  pub log : p.log ≡ log_of w
  pub grew : Grows (record w { happened = []; core = w.old }) w
  pub together : HoldsTogether w
  -- what this asks for while the round goes on
  pub count : length w.core.regions ≡ length w.old.regions
  pub flag : w.core.system.checking ≡ is_some (under_way w.happened)
  pub passes : PassesAreTold w p.audits
  -- each deed has what it asks for at its place
  pub right : AreRight w

pub record Goes (w : World) (c : ℕ) (p : Point) (ds : List Deed) (v : World) (q : Point) : Type 0 where
  pub is : v ≡ after w c ds q.core
  pub grows : Grows w v
  pub more : grows.more ≡ by c ds
  pub tells : Tells v q
