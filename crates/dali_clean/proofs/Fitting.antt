-- What `may_clean` looks at is what a clean-up asks.
use Rattle.std.proofs.Common.{◌≡◌, ℕ, true, List, [], Option, Some, None, length, ap, ◌∙◌, slice_get}
use Rattle.std.specs.List.{list_all}
use Rattle.std.specs.Option.{option_map_or}
use Rattle.dali_lists.proofs.Options.{if_some_at}
use Rattle.dali_geometry.specs.Sizes.{Sizes}
use Rattle.dali_geometry.specs.Places.{regions}
use Rattle.dali_region.specs.State.{RegionState}
use Rattle.dali_att.specs.Table.{undos_at}
use Rattle.dali_runs.specs.State.{TxnRow, SystemState, state_of, row_of, hold_in}
use Rattle.dali_runs.specs.Wholes.{AreOfKind, is_of_kind, latched_in}
use Rattle.dali_runs.proofs.Deaths.{region_with}
use Rattle.dali_clean.specs.Cleaned.{MayClean}
use Rattle.dali_clean.specs.Fit.{IsNamed, StandSo}
use Rattle.dali_clean.proofs.Cleaning.{if_some_by, if_some_then}

pub kind_of : (s : Sizes) (row : Option TxnRow) → list_all (is_of_kind s) (option_map_or (λ r. r.undos) row []) ≡ true → AreOfKind s row
kind_of s None e = tt
kind_of s (Some row) e = e

module _ (rs : List RegionState) (y : SystemState) (t : ℕ) where
  pub fits : length rs ≡ regions y.sizes → list_all (is_of_kind y.sizes) (undos_at y.table t) ≡ true → IsNamed rs (state_of y t) t → StandSo (latched_in (state_of y t)) t rs → MayClean rs y t
  fits count kinds named stand = record {
    regions = count;
    kind = kind_of y.sizes (row_of y t) kinds;
    dead = λ r g at. if_some_then g.hold _ _ (stand r g at) (λ h both. both.0);
    own = λ r h held own. let by = region_with (slice_get rs r) h held in (if_some_at by.0.hold _ h by.2 (stand r by.0 by.1)).1 own;
    named = named;
  }

  pub stand_fit : MayClean rs y t → StandSo (latched_in (state_of y t)) t rs
  stand_fit may r g at = if_some_by g.hold _ (λ h held. (if_some_at g.hold _ h held (may.dead r g at), λ own. may.own r h (ap hold_in at ∙ held) own))
