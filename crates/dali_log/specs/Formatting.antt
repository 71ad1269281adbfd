-- What a store holds while its log is formatted.
--     CloseLeaves may c           files that a crash leaves while the first gates are closed: the images as before, the anchor torn in its first byte at most, and no batch in the log
--     AreClosed c                 the first gates of log and anchor are closed
--     HasFirst body c             the log is the first batch alone, and the anchor's first gate is closed
--     FormatLeaves may body c     files that a crash leaves while the log is formatted: no batch, or the first one
--     IsFormattedBy may body c    files that it leaves then
use Rattle.std.specs.Prelude.{◌≡◌, ◌⊎◌, ℕ, List, [], ◌∷◌}
use Rattle.dali_store.specs.Store.{Files, Torn}
use Rattle.dali_log.specs.Batch.{IsClosedAt, IsUnformatted, Ends}
use Rattle.dali_log.specs.Appending.{next_place}

-- the images of an old outcome of a crash, and its anchor with any first byte
abbrev pub SameImages : (Files → Type 0) → Files → Type 0
SameImages may_leave c = (d : Files) × may_leave d × (c.a ≡ d.a) × (c.b ≡ d.b) × Torn 0 1 d.anchor c.anchor

pub record CloseLeaves (may_leave : Files → Type 0) (c : Files) : Type 0 where
  pub others : SameImages may_leave c
  pub log : IsUnformatted c.log

pub record AreClosed (c : Files) : Type 0 where
  pub log : IsClosedAt 0 c.log
  pub anchor : IsClosedAt 0 c.anchor

pub record HasFirst (body : List ℕ) (c : Files) : Type 0 where
  pub anchor : IsClosedAt 0 c.anchor
  pub log : Ends c.log 0 (body ∷ []) (next_place 0 (body ∷ []))

pub record FormatLeaves (may_leave : Files → Type 0) (body : List ℕ) (c : Files) : Type 0 where
  pub others : SameImages may_leave c
  pub log : IsUnformatted c.log ⊎ HasFirst body c

pub record IsFormattedBy (may_leave : Files → Type 0) (body : List ℕ) (c : Files) : Type 0 where
  pub others : SameImages may_leave c
  pub anchor : IsClosedAt 0 c.anchor
  pub log : Ends c.log 0 (body ∷ []) (next_place 0 (body ∷ []))
