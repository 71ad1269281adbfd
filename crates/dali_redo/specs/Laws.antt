-- Whoever applies and skips as the scan for damage judges comes to what a restart computes.
--     Judges b x y r           y is x behind r, skipped where b says so
--     RunsBy d k R x y         so y comes of x by the records R, as the scan with the damage d judges each
--     ComesTo                  and then, rolled back and freed, to the recovered image of the epoch
--     OnePassComesTo           where no record of R is a failed audit, that is so of whoever applies each
--     StartsRedo, AppliesOn, SkipsOn, EndsEpoch      step by step: before an epoch, behind a record, and behind a Restarted
--     Recovers, OnePassRecovers                      at its end
--     OnePassKeeps             where no region failed the scan skips nothing
--     TellsRolled              the transactions at work are those that a restart rolls back and reports
--     SpelledUndo              each record that has a spelling may be applied and skipped
--     TestsRules               a record breaks its rule exactly where the tests don't allow it
use Rattle.std.specs.Prelude.{◌≡◌, ◌+◌, ℕ, Bool, true, false, not, List, [], ◌∷◌, Some, filter}
use Rattle.std.specs.List.{list_any}
use Rattle.std.specs.FinMap as map
use Rattle.dali_geometry.specs.Sizes.{Sizes}
use Rattle.dali_record.specs.declared.records.Record.{Record}
use Rattle.dali_record.specs.declared.records.Record.TheVariants.{Restarted}
use Rattle.dali_record.specs.Damage.{Damage}
use Rattle.dali_record.specs.Epochs.{separates}
use Rattle.dali_record.specs.Spelling.{CanBeSpelled}
use Rattle.dali_history.specs.Recovered.{freed}
use Rattle.dali_resume.specs.Laws.{is_audit_fail}
use Rattle.dali_resume.specs.Resumed.{damage_from, is_left_out, rolled_by, recover_by}
use Rattle.dali_resume.specs.Tests.{Known, allows, is_running, known_next, may_follow, tests}
use Rattle.dali_redo.specs.Taint.Following.{scanned, Begins}
use Rattle.dali_redo.specs.Redoing.{Redoing, Knows, status_at, is_tested, breaks, MayUndo}
use Rattle.dali_redo.specs.Steps.{Applies, Skips, RollsBack}
use Rattle.dali_redo.specs.Following.{Redoes}

-- ---- the tests
abbrev pub SpelledUndo : Type 0
SpelledUndo = (r : Record) → CanBeSpelled r → MayUndo r

abbrev pub TestsRules : Type 0
TestsRules = (s : Sizes) (n : ℕ) (k : Known) (r : Record) → is_tested r ≡ true → breaks s k r ≡ not (allows s n k r)

-- ---- step by step
pub record IsFirst (x : Redoing) (d : Damage) (k : Known) : Type 0 where
  pub begins : Begins d k x.table
  pub knows : Knows x k
  pub left : x.left ≡ map.empty

abbrev pub StartsRedo : Type 0
StartsRedo = (x : Redoing) (d : Damage) (k : Known) → IsFirst x d k → Redoes x.image x d k

abbrev pub AppliesOn : Type 0
AppliesOn =
    (s : Sizes) (n : ℕ) (base : List (List ℕ)) (x y : Redoing) (d : Damage) (k : Known) (r : Record) → Redoes base x d k → Applies x y r
    → may_follow s n k r ≡ true → separates r ≡ false → is_left_out d (scanned d k) r ≡ false → Redoes base y d (known_next k r)

abbrev pub SkipsOn : Type 0
SkipsOn =
    (s : Sizes) (n : ℕ) (base : List (List ℕ)) (x y : Redoing) (d : Damage) (k : Known) (r : Record) → Redoes base x d k → Skips x y r
    → may_follow s n k r ≡ true → separates r ≡ false → is_left_out d (scanned d k) r ≡ true → Redoes base y d (known_next k r)

-- the next epoch begins over the words that it stands on, whatever its tables were
abbrev pub EndsEpoch : Type 0
EndsEpoch =
    (x y : Redoing) (d : Damage) (k : Known) (rs ds : List ℕ) → x.next ≡ k.next → Applies x y (Restarted rs ds) → d.first ≡ k.number + 1
    → Redoes x.image y d (known_next k (Restarted rs ds))

abbrev pub Recovers : Type 0
Recovers =
    (s : Sizes) (base : List (List ℕ)) (x y : Redoing) (d : Damage) (k : Known) → Redoes base x d k → RollsBack x y
    → freed s y.image ≡ recover_by s base d k.table k.seen

abbrev pub OnePassKeeps : Type 0
OnePassKeeps = (d : Damage) (k : Known) (r : Record) → d.failing ≡ [] → is_left_out d (scanned d k) r ≡ false

abbrev pub OnePassRecovers : Type 0
OnePassRecovers =
    (s : Sizes) (base : List (List ℕ)) (x y : Redoing) (d : Damage) (k : Known) → d.failing ≡ [] → Redoes base x d k → RollsBack x y
    → list_any is_audit_fail k.seen ≡ false → (p : ℕ) → freed s y.image ≡ recover_by s base (damage_from p k.seen) k.table k.seen

abbrev pub TellsRolled : Type 0
TellsRolled =
    (base : List (List ℕ)) (x : Redoing) (d : Damage) (k : Known) → Redoes base x d k
    → filter (λ t. is_running (status_at x.table t)) (map.keys x.table) ≡ rolled_by k.table k.seen

-- ---- an epoch's records
abbrev pub Judges : Bool → Redoing → Redoing → Record → Type 0
Judges true x y r = Skips x y r
Judges false x y r = Applies x y r

abbrev pub RunsBy : Damage → Known → List Record → Redoing → Redoing → Type 0
RunsBy d k [] x z = z ≡ x
RunsBy d k (r ∷ R) x z = (y : Redoing) × Judges (is_left_out d (scanned d k) r) x y r × RunsBy d (known_next k r) R y z

abbrev pub AppliesAll : List Record → Redoing → Redoing → Type 0
AppliesAll [] x z = z ≡ x
AppliesAll (r ∷ R) x z = (y : Redoing) × Applies x y r × AppliesAll R y z

abbrev pub ComesTo : Type 0
ComesTo =
    (s : Sizes) (n : ℕ) (x y z : Redoing) (d : Damage) (g k : Known) (R : List Record) → IsFirst x d g → tests s n g R ≡ Some k → list_any separates R ≡ false
    → RunsBy d g R x y → RollsBack y z
    → (freed s z.image ≡ recover_by s x.image d g.table R) × (filter (λ t. is_running (status_at y.table t)) (map.keys y.table) ≡ rolled_by g.table R)

-- the damage is known at their end: it is that of the records themselves
abbrev pub OnePassComesTo : Type 0
OnePassComesTo =
    (s : Sizes) (n : ℕ) (x y z : Redoing) (d : Damage) (g k : Known) (R : List Record) → IsFirst x d g → tests s n g R ≡ Some k → list_any separates R ≡ false
    → list_any is_audit_fail R ≡ false → AppliesAll R x y → RollsBack y z
    → (freed s z.image ≡ recover_by s x.image (damage_from g.first R) g.table R) × (filter (λ t. is_running (status_at y.table t)) (map.keys y.table) ≡ rolled_by g.table R)
