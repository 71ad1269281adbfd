-- What is shown of a database into which nobody wrote astray.
--     AreUnpoked gs            no region was poked since the core was made
--     ShowsJust L text         the text lists just the records that the log L is expected to leave, each once and in order, and their number
--     HasServed c d            behind its clean-up of dead transactions, from a point of a run, the engine runs on and nobody poked its regions
--     UnpokedShows             there show prints just the records that the log of that point is expected to leave
--     UnpokedVerifies          and the comparison with a replay of the whole log comes out equal
use Rattle.std.specs.Prelude.{◌≡◌, ◌↔◌, ℕ, false, List, ◌∷◌, [], ◌++◌, Some, None, IfSome, Contains, slice_get, map, length}
use Rattle.std.specs.List.Sorted.{IsStrictlySortedBy}
use Rattle.dali_history.specs.Serial.{Map, expected}
use Rattle.dali_listing.specs.declared.Listed.{Listed}
use Rattle.dali_listing.specs.Listing.{in_memory, order, pairs_of}
use Rattle.dali_fuse.specs.declared.fuse.Fuse.{Fuse}
use Rattle.dali_record.specs.declared.records.Record.{Record}
use Rattle.dali_region.specs.State.{RegionState}
use Rattle.dali_report.specs.declared.printed.Line.TheVariants as lines
use Rattle.dali_report.specs.Lines.{texts}
use Rattle.dali_store.specs.declared.store.Store.{Ghosts}
use Rattle.dali_verify.specs.Verified.{IsWholeLog, IsVerified}
use Rattle.dali_core.specs.declared.whole.Core.{Core}
use Rattle.dali_run.specs.Program.{told_in}
use Rattle.dali_run.specs.Steps.{HasCleaned, Lists}
use Rattle.dali_run.specs.Survives.{BeginsWith, IsPointOf}
use Rattle.dali_run.specs.Texts.{shown}

abbrev pub AreUnpoked : List RegionState → Type 0
AreUnpoked gs = (r : ℕ) (g : RegionState) → slice_get gs r ≡ Some g → (g.poked ≡ false) × (g.missed ≡ false)

pub record ShowsJust (L : List Record) (text : List ℕ) : Type 0 where
  pub expects : Map
  pub defined : expected L ≡ Some expects
  pub rows : List Listed
  pub each : (k : ℕ) (v : List ℕ) → Contains (pairs_of rows) (k, v) ↔ (expects k ≡ Some v)
  pub ascending : IsStrictlySortedBy order rows
  pub printed : text ≡ texts (map shown rows ++ lines.Records (length rows) ∷ [])

module _ {V : Type 0} (g : Ghosts V) where
  pub record HasServed (base : List Record) (c d : Core (Fuse V)) : Type 0 where
    pub at : IsPointOf g base c
    pub ran : c.system.state.stop ≡ None
    pub cleaned : HasCleaned g c d
    pub runs : d.system.state.stop ≡ None
    pub unpoked : AreUnpoked d.regions.items

  abbrev pub UnpokedShows : Type 0
  UnpokedShows =
      (base : List Record) (c d : Core (Fuse V)) (text : List ℕ) → HasServed base c d → Lists d text
      → (log : List Record) × BeginsWith base log × (at : IsPointOf g log d) × ShowsJust at.point.log text

  abbrev pub UnpokedVerifies : Type 0
  UnpokedVerifies =
      (base : List Record) (c d : Core (Fuse V)) → HasServed base c d
      → IfSome (told_in g d.vault.store) (λ fs. (L : List Record) → IsWholeLog fs.log d.system.state L → IsVerified d.system.state.sizes (in_memory d.regions.items) L)
