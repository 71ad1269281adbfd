-- A log read in passes, each of which knows the damage of some epochs, until one reads it whole.
--     told_of d                what a damage says
--     HasDamageFor ds p        one of these is of the epoch whose first record has number p
--     ScansKnown x y ds        y is x, or where an epoch begins of which one of these is the damage, x with a scan for it
--     damages_on s F Q Z       behind the records Q: the damages of the epochs with a failed audit that end within the records Z
--     damages_through s F Q    so of all records Q behind the image of the files F
--     FindsDamage log s F es d   behind a front of the log an epoch ends whose audit failed: d is its damage, and es are those of the epochs before it
--     AreFound log s F ds      these were found so, one after another
--     Finds log r x ds d       so it is for all files whose image the reader and the recovery stand at
--     MayGoOn log r x t        the reader, which has come to t, may be told to go on at a place again
--     IfWhole p P, IfDamaged p P       what a pass hands out has P
--     AreSmall o               what is counted isn't above the log's end, whatever a store tells
use Rattle.std.specs.Prelude.{◌≡◌, ◌⊎◌, ◌≤◌, ◌<◌, ◌^◌, ◌&&◌, ℕ, ⊤, List, [], ◌∷◌, ◌++◌, Contains, map, if◌then◌else◌, IfSome}
use Rattle.dali_geometry.specs.Sizes.{Sizes}
use Rattle.dali_record.specs.declared.records.Record.{Record}
use Rattle.dali_record.specs.Damage.{Damage}
use Rattle.dali_record.specs.Files.{Files, is_restarted}
use Rattle.dali_log.specs.Stream.{IsWindow, Reading}
use Rattle.dali_resume.specs.Batches.{records_of}
use Rattle.dali_resume.specs.Onward.{goes_through}
use Rattle.dali_recovery.specs.Laws.{damage_through}
use Rattle.dali_recovery.specs.Standing.{Scans}
use Rattle.dali_recovery.specs.declared.recovery.Damage.{Damage as Told}
use Rattle.dali_recovery.specs.declared.recovery.Recovery.{Recovery}
use Rattle.dali_recovery.specs.Reload.Reading.{IsAtImage, IsUnscanned}
use Rattle.dali_recovery.specs.declared.reload.reading.Reloaded.{Reloaded}
use Rattle.dali_recovery.specs.declared.reload.scanning.Pass.{Pass}
use Rattle.dali_recovery.specs.declared.reload.scanning.Pass.TheVariants.{Whole, Damaged}

abbrev pub told_of : Told → Damage
told_of d = record { first = d.first; clean = d.clean; failing = d.failing.items }

-- ---- one epoch
abbrev pub HasDamageFor : List Told → ℕ → Type 0
HasDamageFor ds p = (d : Told) × Contains ds d × (d.first ≡ p)

pub record BeginsScan (x y : Recovery) (ds : List Told) : Type 0 where
  pub damage : Told
  pub known : Contains ds damage
  pub first : damage.first ≡ x.first
  pub begins : x.number ≡ x.first
  pub scans : Scans x y damage.clean damage.failing.items

abbrev pub ScansKnown : Recovery → Recovery → List Told → Type 0
ScansKnown x y ds = ((y ≡ x) × (x.number ≡ x.first → HasDamageFor ds x.first → ⊥)) ⊎ BeginsScan x y ds

-- ---- all that ended
abbrev pub damages_on : Sizes → Files → List Record → List Record → List Damage
damages_on s F Q [] = []
damages_on s F Q (r ∷ Z) =
    let later = damages_on s F (Q ++ r ∷ []) Z in
    if is_restarted r && (goes_through s F Q).known.failed then damage_through s F Q ∷ later else later

abbrev pub damages_through : Sizes → Files → List Record → List Damage
damages_through s F Q = damages_on s F [] Q

pub record FindsDamage (log : List ℕ) (s : Sizes) (F : Files) (es : List Damage) (d : Damage) : Type 0 where
  pub unscanned : IsUnscanned log s F
  pub before : es ≡ damages_through s F (records_of unscanned.front)
  pub damage_is : d ≡ damage_through s F (records_of unscanned.front)

pub record AreSome (log : List ℕ) (s : Sizes) (F : Files) (ds : List Damage) : Type 0 where
  pub earlier : List Damage
  pub last : Damage
  pub all : ds ≡ earlier ++ last ∷ []
  pub found : FindsDamage log s F earlier last

abbrev pub AreFound : List ℕ → Sizes → Files → List Told → Type 0
AreFound log s F ds = (ds ≡ []) ⊎ AreSome log s F (map told_of ds)

abbrev pub Finds : List ℕ → Reading → Recovery → List Told → Told → Type 0
Finds log r x ds d = (s : Sizes) (F : Files) → IsAtImage log s F r x → AreFound log s F ds → FindsDamage log s F (map told_of ds) (told_of d)

abbrev pub MayGoOn : List ℕ → Reading → Recovery → Reading → Type 0
MayGoOn log r x t = (s : Sizes) (F : Files) → IsAtImage log s F r x → IsWindow log t

-- ---- what a pass hands out
abbrev pub IfWhole : Pass → (Reloaded → Type 0) → Type 0
IfWhole (Whole o) P = P o
IfWhole (Damaged d) P = ⊤

abbrev pub IfDamaged : Pass → (Told → Type 0) → Type 0
IfDamaged (Whole o) P = ⊤
IfDamaged (Damaged d) P = P d

-- whatever a store tells
pub record AreSmall (o : Reloaded) : Type 0 where
  pub end : o.end < 2 ^ 62
  pub records : o.counts.records ≤ o.end
  pub bytes : o.counts.bytes ≤ o.end
  pub before : IfSome o.counts.restarted (λ m. (m.place ≤ o.end) × (m.bytes ≤ o.end))
