-- What a client knows of a step on a region once the lock is free again: the region, and a system, are there, and no clause names them.
--     TellsOn b x r item z     the client x and the region r told this together, and the client is z then
--     StraysOn b x r word mask z     so it told a stray write
--     LatchesOn b x p r q z    its plan p has latched the region, and is q then
--     UpdatesOn b x p r q z    the next word of its plan's operation is written
--     CommitsOn b x p r q z    the operation is logged, with a system behind its lock
--     GoesBackOn b x p r q z   its record was refused, and its words are taken back
--     RefusedOn b p e          why no latch was made for the plan p
--     LeftOn e A B             what a commit's error leaves: A where the system refuses, B where nothing was done
use Rattle.std.specs.Prelude.{◌≡◌, ℕ, ◌&&◌, not, true, List, [], ◌∷◌, Ok, Err, IsSomeAnd}
use Rattle.dali_record.specs.Blocks.{IsSoundOn}
use Rattle.dali_region.specs.State.{RegionState, poked, latched, with_reads, touched}
use Rattle.dali_region.specs.Answers.{latch_answer}
use Rattle.dali_system.specs.Served.{Served}
use Rattle.dali_system.specs.UnderWay.{WritesNext}
use Rattle.dali_calls.specs.Steps.{call_key, IsBlockOf}
use Rattle.dali_calls.specs.Plans.{Planned, is_back, plan_next}
use Rattle.dali_notes.specs.History.{Sight, Added}
use Rattle.dali_concurrent.specs.Entries.{system_note, region_note}
use Rattle.dali_concurrent.specs.Told.{Item, History}
use Rattle.dali_locked.specs.declared.locks.RegionError.{RegionError}
use Rattle.dali_locked.specs.declared.locks.RegionError.TheVariants.{NoRegion, Latch, Logged}
use Rattle.dali_locked.specs.Begun.{Begun}
use Rattle.dali_locked.specs.Sights.{ClientSight, RegionSight, client_sight}
use Rattle.dali_locked.specs.Regions.{HasGoneBack, LogsPlan, LeftBy, stray_item, latch_item, logged_item}
use Rattle.dali_locked.specs.RegionWords.{word_item}

abbrev pub note_of : Begun → ℕ → History → Sight Item
note_of b k seen = record { table = b.table; number = k; seen = seen }

pub record TellsOn (b : Begun) (x : ClientSight) (r : ℕ) (item : Item) (z : ClientSight) : Type 0 where
  pub seen : History
  pub added : Added (client_sight b x ∷ note_of b (region_note r) seen ∷ []) item z.seen
  pub id : z.id ≡ x.id

pub record StraysOn (b : Begun) (x : ClientSight) (r word mask : ℕ) (z : ClientSight) : Type 0 where
  pub region : RegionState
  pub told : TellsOn b x r (stray_item x.id r word mask (poked word mask region)) z

pub record LatchesOn (b : Begun) (x : ClientSight) (p : Planned) (r : ℕ) (q : Planned) (z : ClientSight) : Type 0 where
  pub region : RegionState
  pub free : Ok tt ≡ latch_answer (not (is_back p) && b.precheck) region
  pub made : IsSomeAnd q.operation (λ o. (o.txn ≡ p.txn) × IsBlockOf (plan_next p) (call_key p.call) o.block × IsSoundOn region.words o.block
      × TellsOn b x r (latch_item x.id r p.txn (with_reads o.block.read (latched p.txn region))) z)

pub record UpdatesOn (b : Begun) (x : ClientSight) (p : Planned) (r : ℕ) (q : Planned) (z : ClientSight) : Type 0 where
  pub region : RegionState
  pub behind : RegionState
  pub writes : WritesNext p.operation region true q.operation behind
  pub told : TellsOn b x r (word_item x.id r region behind) z

pub record CommitsOn (b : Begun) (x : ClientSight) (p : Planned) (r : ℕ) (q : Planned) (z : ClientSight) : Type 0 where
  pub region : RegionState
  pub system : Served
  pub behind : Served
  pub logs : LogsPlan p system q behind
  pub theirs : History
  pub seen : History
  pub added : Added (client_sight b x ∷ note_of b system_note theirs ∷ note_of b (region_note r) seen ∷ []) (logged_item x.id (is_back p) p.txn p.operation system.state (touched region)) z.seen
  pub id : z.id ≡ x.id

abbrev pub GoesBackOn : Begun → (x : ClientSight) → Planned → ℕ → Planned → (z : ClientSight) → Type 0
GoesBackOn b x p r q z = (y w : RegionSight) × (y.number ≡ r) × HasGoneBack b x y p z w q

-- ---- why it isn't made
abbrev pub RefusedOn : Begun → Planned → RegionError → Type 0
RefusedOn b p NoRegion = Unit {0}
RefusedOn b p (Latch cause) = (g : RegionState) × (Err cause ≡ latch_answer (not (is_back p) && b.precheck) g)
RefusedOn b p (Logged cause) = ⊥

abbrev pub LeftOn : RegionError → Type 0 → Type 0 → Type 0
LeftOn NoRegion A B = B
LeftOn (Latch cause) A B = ⊥
LeftOn (Logged cause) A B = LeftBy cause A B
