-- How the log is written out.
--     Dumps old text new           the store was only read, its count stayed, and this is the text of the records of its log
--     NotDumped halt old new       why it wasn't: the log is bad at a place, or has no first gate; a call of the store failed; or no memory
use Rattle.std.specs.Prelude.{◌≡◌, ℕ, List, IfSome}
use Rattle.dali_log.specs.Batch.{IsUnformatted}
use Rattle.dali_log.specs.Log.{BadAt}
use Rattle.dali_log.specs.Reads.{OnlyReads}
use Rattle.dali_dump.specs.Lines.{IsDump}
use Rattle.dali_store.specs.Faults.{Rose}
use Rattle.dali_store.specs.declared.store.FileName.TheVariants.{Log}
use Rattle.dali_store.specs.declared.store.Store.{Ghosts}
use Rattle.dali_run.specs.declared.halt.Halt.{Halt}
use Rattle.dali_run.specs.declared.halt.Halt.TheVariants.{StoreFault, BadStore, Unformatted, OutOfMemory}

module _ {V : Type 0} (g : Ghosts V) where
  abbrev pub Reads : V → V → Type 0
  Reads old new = OnlyReads g.told g.moment g.left_since g.may_leave old new

  pub record Dumps (old : V) (text : List ℕ) (new : V) : Type 0 where
    pub read : Reads old new
    pub kept : g.faults new ≡ g.faults old
    pub is : IfSome (g.told old) (λ fs. IsDump fs.log text)

  abbrev pub NotDumped : Halt → V → V → Type 0
  NotDumped StoreFault old new = Reads old new × Rose (g.faults old) (g.faults new)
  NotDumped (BadStore file at) old new = Reads old new × (g.faults new ≡ g.faults old) × (file ≡ Log) × IfSome (g.told old) (λ fs. BadAt fs.log at)
  NotDumped Unformatted old new = Reads old new × (g.faults new ≡ g.faults old) × IfSome (g.told old) (λ fs. IsUnformatted fs.log)
  NotDumped OutOfMemory old new = Reads old new × (g.faults new ≡ g.faults old)
  NotDumped _ old new = ⊥
