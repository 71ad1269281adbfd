-- What a round says of all its clients together holds while it goes on, deed by deed.
--     Owes v w c x             what the deed x of c owes, which leads from the world v to the world w
--     RightNow v x             the look of the deed x, if it needs one, is at its own place, behind the world v
--     HasKept v w              what a core owes that goes on without a deed
--     AtOnceTells              where a look is at its own place, its client has looked; where each one is, there is a look for each operation
--     TogetherAtFirst, TogetherByDeed, TogetherByNone      it holds where a round begins, and then goes on to hold
use Rattle.std.specs.Prelude.{◌≡◌, ◌≢◌, ◌↔◌, ℕ, ◌+◌, ◌<◌, ◌≤◌, true, false, List, [], ◌∷◌, ◌++◌, Option, Some, None, Contains, length, slice_get, sum_by, take}
use Rattle.dali_record.specs.declared.records.Record.TheVariants.{Forward}
use Rattle.dali_record.specs.Spelling.{record_length}
use Rattle.dali_region.specs.State.{RegionState}
use Rattle.dali_locks.specs.declared.mode.Mode.{Mode}
use Rattle.dali_runs.specs.Run.{HasRisen}
use Rattle.dali_runs.specs.State.{state_of, lock_of}
use Rattle.dali_runs.specs.Steps.{audit_record}
use Rattle.dali_transcripts.specs.Words.{StoreFailed}
use Rattle.dali_transcripts.specs.World.{Deed, Logs, DiesOn, StartsCheckpoint, MovesAnchor, EndsCheckpoint, Meets, Happening, World, log_of, log_at, state_step, lock_step, IsNoWeaker, stray_step, stray_after, poked_step, refused_by, under_way, Grows}
use Rattle.dali_transcripts.specs.Rounds.{room_for, ends_within, WasRight, HasLooked, PrecheckTells, AreAtOnce, HoldsTogether}

-- ---- what a deed owes
abbrev pub SpanFits : Option ℕ → Happening → Type 0
SpanFits o (StartsCheckpoint, c) = o ≡ None
SpanFits o (EndsCheckpoint, c) = o ≡ Some c
SpanFits o x = Unit {0}

abbrev pub AnchorIs : ℕ → Happening → ℕ → Type 0
AnchorIs old (MovesAnchor n, c) new = (n ≡ old + 1) × (new ≡ n)
AnchorIs old x new = new ≡ old

-- the store fails where it hasn't failed before
abbrev pub FaultsBy : World → World → Deed → Type 0
FaultsBy v w (Meets StoreFailed) = (v.core.vault.stopped ≡ false) × (w.core.vault.stopped ≡ true) × HasRisen v.core.vault.faults w.core.vault.faults
FaultsBy v w x = (w.core.vault.stopped ≡ v.core.vault.stopped) × (w.core.vault.faults ≡ v.core.vault.faults)

abbrev pub RoomBy : World → Deed → Type 0
RoomBy v (Logs y) = ends_within (sum_by record_length (log_of v) + record_length y) (room_for v.old.system.limit y) ≡ true
RoomBy v x = Unit {0}

-- its client has looked
abbrev pub RightBy : World → ℕ → Deed → Type 0
RightBy v c (Logs (Forward t b)) = (g : RegionState) → slice_get v.old.regions b.region ≡ Some g → HasLooked v c (length v.happened) b.region g
RightBy v c (DiesOn t r) = (g : RegionState) → slice_get v.old.regions r ≡ Some g → HasLooked v c (length v.happened) r g
RightBy v c x = Unit {0}

abbrev pub RightNow : World → Deed → Type 0
RightNow v (Logs (Forward t b)) = (g : RegionState) → slice_get v.old.regions b.region ≡ Some g → WasRight v (length v.happened) b.region g
RightNow v (DiesOn t r) = (g : RegionState) → slice_get v.old.regions r ≡ Some g → WasRight v (length v.happened) r g
RightNow v x = Unit {0}

pub record Owes (v w : World) (c : ℕ) (x : Deed) : Type 0 where
  pub span : SpanFits (under_way v.happened) (x, c)
  pub anchor : AnchorIs v.core.vault.current (x, c) w.core.vault.current
  pub poke : (r : ℕ) (h : RegionState) → slice_get w.core.regions r ≡ Some h
      → (g : RegionState) × (slice_get v.core.regions r ≡ Some g) × (h.stray ≡ stray_step r g.stray (x, c)) × (h.poked ≡ poked_step r g.poked (x, c))
  -- an audit that ends has passed each region behind its begin
  pub verdict : (b : ℕ) (found : List ℕ) → x ≡ Logs (audit_record b found) → (r : ℕ) (g : RegionState) → slice_get v.old.regions r ≡ Some g
      → (j : ℕ) × (j ≤ length v.happened) × (b < length (log_at v j)) × (Contains found r ↔ (stray_after r g.stray (take j v.happened) ≢ 0))
  pub state : (t : ℕ) → state_of w.core.system t ≡ state_step t (state_of v.core.system t) (x, c)
  pub lock : (t k : ℕ) (o : Option Mode) → IsNoWeaker (lock_of v.core.system t k) o → IsNoWeaker (lock_of w.core.system t k) (lock_step t k o (x, c))
  pub fault : FaultsBy v w x
  pub refusal : w.core.system.refusals ≡ v.core.system.refusals ++ refused_by ((x, c) ∷ [])
  pub room : RoomBy v x
  pub right : v.precheck ≡ true → RightBy v c x

abbrev pub TogetherByDeed : Type 0
TogetherByDeed = (v w : World) (c : ℕ) (x : Deed) → (g : Grows v w) → g.more ≡ (x, c) ∷ [] → HoldsTogether v → Owes v w c x → HoldsTogether w

-- ---- without a deed
pub record HasKept (v w : World) : Type 0 where
  pub anchor : w.core.vault.current ≡ v.core.vault.current
  pub poke : (r : ℕ) (h : RegionState) → slice_get w.core.regions r ≡ Some h → (g : RegionState) × (slice_get v.core.regions r ≡ Some g) × (h.stray ≡ g.stray) × (h.poked ≡ g.poked)
  pub states : (t : ℕ) → state_of w.core.system t ≡ state_of v.core.system t
  pub locks : (t k : ℕ) (o : Option Mode) → IsNoWeaker (lock_of v.core.system t k) o → IsNoWeaker (lock_of w.core.system t k) o
  pub stopped : w.core.vault.stopped ≡ v.core.vault.stopped
  pub faults : w.core.vault.faults ≡ v.core.vault.faults
  pub refusals : w.core.system.refusals ≡ v.core.system.refusals

abbrev pub TogetherByNone : Type 0
TogetherByNone = (v w : World) → (g : Grows v w) → g.more ≡ [] → HoldsTogether v → HasKept v w → HoldsTogether w

-- where a round begins, nothing was done
abbrev pub TogetherAtFirst : Type 0
TogetherAtFirst = (w : World) → w.happened ≡ [] → w.core ≡ w.old → HoldsTogether w

-- ---- looks that are made at once
pub record AtOnceTells : Type 0 where
  pub all : (w : World) → AreAtOnce w → PrecheckTells w
  pub one : (v : World) (c : ℕ) (x : Deed) → RightNow v x → RightBy v c x
