-- Where a round began, and its history.
--     Begun                    its history's word, how many regions there are, whether a latch compares words with the codeword, and from which start a run
--                              may have come to which point where the round began
--     homed t b               the same, its history's word being t
--     outset b s p             the outset there
--     FromEach b P             so it is of each start and point
--     Of b P T                 and so of each outset and of the history T
--     may_add b                the rule of the history: an entry follows, wherever the round began
--     Led b T                  the history began there, and each entry of it follows
--     nowhere                  where a round began that nobody begins
use Rattle.std.specs.Prelude.{◌≡◌, ℕ, Bool, false, []}
use Rattle.atomic_table.specs.Seated.{TableId}
use Rattle.dali_crash.specs.Checkpoints.{Point}
use Rattle.dali_crash.specs.Traces.{Start, bases_of}
use Rattle.dali_concurrent.specs.Entries.{Wrote}
use Rattle.dali_concurrent.specs.Rules.{Outset, count_of}
use Rattle.dali_concurrent.specs.Told.{Item, Line, History, Leaves}
use Rattle.dali_concurrent.specs.Kept.{Follows}
use Rattle.dali_concurrent.specs.Holds.{IsLed}
use Rattle.dali_concurrent.specs.Leads.{outset_of}

pub record Begun : Type 1 where
  pub table : TableId
  pub count : ℕ
  pub precheck : Bool
  pub each : Start → Point → Type 0

abbrev pub homed : TableId → Begun → Begun
homed t b = record { table = t; count = b.count; precheck = b.precheck; each = b.each }

abbrev pub outset : Begun → Start → Point → Outset
outset b s p = outset_of b.precheck s p

abbrev pub FromEach : Begun → (Start → Point → Type 0) → Type 0
FromEach b P = (s : Start) (p : Point) → b.each s p → P s p

abbrev pub Of : Begun → (Outset → History → Type 0) → History → Type 0
Of b P T = FromEach b (λ s p. P (outset b s p) T)

abbrev pub may_add : Begun → History → Line → Type 0
may_add b T e = FromEach b (λ s p. Follows (bases_of s) p (outset b s p) T e)

pub record LedAt (n : ℕ) (s : Start) (p : Point) (o : Outset) (T : History) : Type 0 where
  pub led : IsLed (bases_of s) p o T
  pub count : count_of o ≡ n

abbrev pub LedFrom : Begun → Start → Point → History → Type 0
LedFrom b s p T = LedAt b.count s p (outset b s p) T

abbrev pub Led : Begun → History → Type 0
Led b T = FromEach b (λ s p. LedFrom b s p T)

-- ---- a round that nobody begins
abbrev pub no_item : Item
no_item = (Wrote, Leaves, [])

abbrev pub no_table : TableId
no_table = record { words = 0; slots = 0; views_name = 0; atom = 0; block = 0; offset = 0; slot_names = [] }

abbrev pub nowhere : Begun
nowhere = record { table = no_table; count = 0; precheck = false; each = λ s p. ⊥ }
