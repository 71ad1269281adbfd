-- A drop of the log that drops nothing.
use Rattle.std.proofs.Common.{refl, inl, ℕ, List, arith, Option, Some, None}
use Rattle.dali_store.specs.Store.{Files, Follows, Elapses}
use Rattle.dali_store.specs.Drops.{Dropped, DroppedIn, DroppedTold}

pub dropped_none : (below : ℕ) (bytes : List ℕ) → Dropped below bytes bytes
dropped_none below bytes = record { size = refl; front = refl; behind = refl; each = λ i. inl refl }

pub dropped_none_in : (below : ℕ) (files : Files) → DroppedIn below files files
dropped_none_in below files = record { dropped = dropped_none below files.log; same = λ f other. refl }

pub dropped_none_told : (below : ℕ) (told : Option Files) → DroppedTold below told told
dropped_none_told below None = refl
dropped_none_told below (Some files) = dropped_none_in below files

pub follows_none : (below : ℕ) (may_leave : Files → Type 0) → Follows (DroppedIn below) may_leave may_leave
follows_none below may_leave c left = (c, left, dropped_none_in below c)

pub elapses_none : (moment : ℕ) (left_since : ℕ → Files → Type 0) (P : Files → Type 0) → Elapses moment moment left_since left_since P
elapses_none moment left_since P = record { later = omega arith; nothing_else = λ t c le left. inl left; keeps = λ t c le left. left }
