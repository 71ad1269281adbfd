-- What an audit outside of a round says of stray writes.
--     LoneAuditTells     where it answers from a point of a run, it names just the regions whose stray writes don't cancel
use Rattle.std.specs.Prelude.{◌≡◌, ◌≢◌, ◌↔◌, ℕ, Bool, List, [], ◌∷◌, Some, Contains, map, slice_get}
use Rattle.dali_fuse.specs.declared.fuse.Fuse.{Fuse}
use Rattle.dali_record.specs.declared.records.Record.{Record}
use Rattle.dali_region.specs.State.{RegionState}
use Rattle.dali_round.specs.Leads.{lines_in}
use Rattle.dali_store.specs.declared.store.Store.{Ghosts}
use Rattle.dali_transcripts.specs.Words.{Audits, AuditSaid}
use Rattle.dali_core.specs.declared.whole.Core.{Core}
use Rattle.dali_run.specs.Steps.{ActsAlone}
use Rattle.dali_run.specs.Survives.{IsPointOf}

module _ {V : Type 0} (g : Ghosts V) (precheck : Bool) where
  abbrev pub LoneAuditTells : Type 0
  LoneAuditTells =
      (base : List Record) (c d : Core (Fuse V)) (text : List ℕ) (found : List ℕ) → IsPointOf g base c
      → (acts : ActsAlone g precheck Audits c text d) → map lines_in acts.transcripts ≡ (AuditSaid found ∷ []) ∷ []
      → (r : ℕ) (region : RegionState) → slice_get c.regions.items r ≡ Some region → Contains found r ↔ (region.stray ≢ 0)
