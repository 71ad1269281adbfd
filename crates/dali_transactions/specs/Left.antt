-- What the parts of an end leave of regions and system.
--     IsRunning gs y           some run has come to these regions, of which none is latched for a client that is alive, and this system
--     IsSettling gs y t us     and the rules of its log have t committed, with these removals left to be freed
--     held gs                  how many regions are latched
--     is_on r u                the undo u is on the region r
--     HoldsStay us gs hs       each region on which none of these undos is has the hold that it had
--     Left own last t gs s hs z    an end of t, or a part of it, led from the one to the other, and logged own records and these last ones
--     Cleared t gs s hs z      what dead clients had left open was taken back, and nothing was logged
--     Settled t us gs s hs z   what the committed t removed was freed, and its end logged
--     FreesIn t u gs y hs z    the first removal u of those that are left to the committed t was freed, and the others are left
use Rattle.std.specs.Prelude.{◌≡◌, ◌==◌, ℕ, ◌+◌, Bool, false, if◌then◌else◌, is_some, List, [], ◌∷◌, slice_get}
use Rattle.std.specs.List.{list_any}
use Rattle.dali_record.specs.declared.operations.Pending.{Pending}
use Rattle.dali_record.specs.declared.records.Record.{Record}
use Rattle.dali_record.specs.declared.records.Record.TheVariants.{Ended}
use Rattle.dali_region.specs.State.{RegionState}
use Rattle.dali_runs.specs.State.{SystemState, VaultState, row_of, hold_in}
use Rattle.dali_runs.specs.Run.{Bases}
use Rattle.dali_runs.specs.Passes.{Audits}
use Rattle.dali_runs.specs.Facts.Ends.{IsEnding}
use Rattle.dali_system.specs.Promised.{promised_to}
use Rattle.dali_system.specs.Served.{Served}
use Rattle.dali_calls.specs.Others.{PromisesStay, IsGone}
use Rattle.dali_calls.specs.Single.Settling.{IsSoloOf}
use Rattle.dali_clean.specs.Cleaned.{moment, AreDead, InRun}
use Rattle.dali_clean.specs.Others.{OthersStay}
use Rattle.dali_transactions.specs.Ended.{Walked, Walks}

pub record IsRunning (gs : List RegionState) (y : SystemState) : Type 0 where
  pub bases : Bases
  pub before : List Record
  pub log : List Record
  pub vault : VaultState
  pub audits : Audits
  pub run : InRun bases before (moment gs y log vault audits)
  pub dead : AreDead gs

pub record IsSettling (gs : List RegionState) (y : SystemState) (t : ℕ) (us : List Pending) : Type 0 where
  pub running : IsRunning gs y
  pub ending : IsEnding y.sizes running.log t us

abbrev pub is_on : ℕ → Pending → Bool
is_on r u = u.region == r

abbrev pub HoldsStay : List Pending → List RegionState → List RegionState → Type 0
HoldsStay us gs hs = (r : ℕ) → list_any (is_on r) us ≡ false → hold_in (slice_get hs r) ≡ hold_in (slice_get gs r)

abbrev pub held : List RegionState → ℕ
held [] = 0
held (g ∷ gs) = (if is_some g.hold then 1 else 0) + held gs

pub record Left (own : Record → Type 0) (last : List Record) (t : ℕ) (gs : List RegionState) (s : Served) (hs : List RegionState) (z : Served) : Type 0 where
  pub walks : Walks t own last gs s.state hs z.state
  pub others : OthersStay gs s.state t hs z.state
  pub promises : PromisesStay s t z

abbrev pub none_of : Record → Type 0
none_of x = ⊥

pub record Cleared (t : ℕ) (gs : List RegionState) (s : Served) (hs : List RegionState) (z : Served) : Type 0 where
  pub left : Left none_of [] t gs s hs z
  pub sizes : z.state.sizes ≡ s.state.sizes
  pub stop : z.state.stop ≡ s.state.stop
  pub locks : z.state.locks ≡ s.state.locks
  pub promised : z.promised ≡ s.promised
  pub row : row_of z.state t ≡ row_of s.state t

abbrev pub SettlesIn : ℕ → List Pending → List RegionState → SystemState → List RegionState → SystemState → Type 0
SettlesIn t us gs y hs z =
    (bases : Bases) (before L : List Record) (v : VaultState) (a : Audits) → InRun bases before (moment gs y L v a) → AreDead gs → IsEnding y.sizes L t us
    → Walked t (IsSoloOf t) (Ended t ∷ []) (moment gs y L v a) hs z

abbrev pub FreesIn : ℕ → Pending → List RegionState → SystemState → List RegionState → SystemState → Type 0
FreesIn t u gs y hs z =
    (us : List Pending) (bases : Bases) (before L : List Record) (v : VaultState) (a : Audits) → InRun bases before (moment gs y L v a) → AreDead gs → IsEnding y.sizes L t (u ∷ us)
    → (w : Walked t (IsSoloOf t) [] (moment gs y L v a) hs z) × IsEnding z.sizes w.log t us

pub record Settled (t : ℕ) (us : List Pending) (gs : List RegionState) (s : Served) (hs : List RegionState) (z : Served) : Type 0 where
  pub walks : SettlesIn t us gs s.state hs z.state
  pub others : OthersStay gs s.state t hs z.state
  pub promises : PromisesStay s t z
  pub gone : IsGone z.state t
  pub released : promised_to z.promised t ≡ 0
  pub holds : IsSettling gs s.state t us → HoldsStay us gs hs
