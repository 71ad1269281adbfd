-- The anchor's file, and what a crash leaves while the anchor is moved, from n open gates to one more.
--     IsAnchor bytes n         n open gates, and a closed one behind them
--     HasMoved may n c         it has been moved: one gate more is open, and each other file is as before
--     MayHaveMoved may n c     meanwhile: as many as before, or one more
--     AreAnchored may n        each disk that may be left has n open gates and a closed one behind them
use Rattle.std.specs.Prelude.{ℕ, ◌<◌, ◌+◌, ◌⊎◌, List}
use Rattle.dali_store.specs.declared.store.FileName.TheVariants.{Anchor}
use Rattle.dali_store.specs.Store.{Files, SameBut}
use Rattle.dali_log.specs.Batch.{IsOpenAt, IsClosedAt}

pub record IsAnchor (bytes : List ℕ) (n : ℕ) : Type 0 where
  pub gates : (i : ℕ) → i < n → IsOpenAt i bytes
  pub closed : IsClosedAt n bytes

pub record HasMoved (may : Files → Type 0) (n : ℕ) (c : Files) : Type 0 where
  pub others : (d : Files) × may d × SameBut Anchor d c
  pub anchor : IsAnchor c.anchor (n + 1)

pub record MayHaveMoved (may : Files → Type 0) (n : ℕ) (c : Files) : Type 0 where
  pub others : (d : Files) × may d × SameBut Anchor d c
  pub anchor : IsAnchor c.anchor n ⊎ IsAnchor c.anchor (n + 1)

abbrev pub AreAnchored : (Files → Type 0) → ℕ → Type 0
AreAnchored may n = (c : Files) → may c → IsAnchor c.anchor n
