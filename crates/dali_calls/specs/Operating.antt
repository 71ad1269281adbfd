-- An operation of a transaction on its region, step by step, and one undo.
--     IsHeldBy t g             the region g is latched for t, whose client is alive
--     IsOwn t x g              the step x on the region g is one of an operation of t: its latch, what it reads and writes, its taking back
--     Goes t g xs h            these steps lead from g to h, each one an operation's of t that may be taken
--     AreWritten g h           some words that the hold of g has read were written
--     IsTakenBack t g h        such steps of t lead to h, and no operation is open on it
--     Undone b g y b' h z      the last undo was performed on the region g, and its block logged by the system y
use Rattle.std.specs.Prelude.{◌≡◌, ℕ, false, List, [], ◌∷◌, None, IsSomeAnd}
use Rattle.dali_record.specs.declared.operations.Block.{Block}
use Rattle.dali_region.specs.State.{RegionState, touched}
use Rattle.dali_att.specs.Table.{undos_at}
use Rattle.dali_runs.specs.State.{SystemState}
use Rattle.dali_runs.specs.Steps.{back_logged}
use Rattle.dali_runs.specs.Regions.{RegionStep, Latch, NoteReads, Update, TakeBack as TakesBack, IsOpen, MayChange, region_after}
use Rattle.dali_system.specs.declared.take_back.TakeBack.{TakeBack}
use Rattle.dali_system.specs.TakenBack.{next_undo, IsUndoBlock, IsUndoOn}

abbrev pub IsHeldBy : ℕ → RegionState → Type 0
IsHeldBy t g = IsSomeAnd g.hold (λ h. (h.txn ≡ t) × (h.dead ≡ false))

abbrev pub IsOwn : ℕ → RegionStep → RegionState → Type 0
IsOwn t (Latch u) g = u ≡ t
IsOwn t (NoteReads mask) g = IsHeldBy t g
IsOwn t (Update word value) g = IsHeldBy t g
IsOwn t TakesBack g = IsHeldBy t g
IsOwn t x g = ⊥

abbrev pub Goes : ℕ → RegionState → List RegionStep → RegionState → Type 0
Goes t g [] h = g ≡ h
Goes t g (x ∷ xs) h = MayChange x g × IsOwn t x g × Goes t (region_after x g) xs h

abbrev pub AreUpdates : RegionState → List (ℕ × ℕ) → RegionState → Type 0
AreUpdates g [] h = g ≡ h
AreUpdates g (w ∷ ws) h = MayChange (Update w.0 w.1) g × AreUpdates (region_after (Update w.0 w.1) g) ws h

abbrev pub AreWritten : RegionState → RegionState → Type 0
AreWritten g h = (ws : List (ℕ × ℕ)) × AreUpdates g ws h

abbrev pub IsTakenBack : ℕ → RegionState → RegionState → Type 0
IsTakenBack t g h = (steps : List RegionStep) × Goes t g steps h × (h.hold ≡ None)

pub record Undone (p : TakeBack) (g : RegionState) (y : SystemState) (q : TakeBack) (h : RegionState) (z : SystemState) : Type 0 where
  pub block : Block
  pub of : IsUndoBlock p.next block
  -- made on the region's own words
  pub on : IsUndoOn g.words p.next block
  -- the region with the operation open
  pub opened : RegionState
  pub steps : List RegionStep
  pub goes : Goes p.txn g steps opened
  pub is_open : IsOpen opened p.txn block
  pub region : h ≡ touched opened
  pub runs : y.stop ≡ None
  pub system : z ≡ back_logged y p.txn block
  pub next : q ≡ record p { next = next_undo (undos_at z.table p.txn) p.down_to; operation = None }
