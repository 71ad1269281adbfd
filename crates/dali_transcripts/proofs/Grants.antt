-- The grant of a call's lock, among its deeds.
use Rattle.std.proofs.Common.{ℕ, List, [], ◌∷◌, ◌++◌}
use Rattle.std.specs.List.{AllByRecursion}
use Rattle.dali_locks.specs.declared.mode.Mode.{Mode}
use Rattle.dali_record.specs.declared.records.Record.TheVariants.{Forward}
use Rattle.dali_transcripts.specs.World.{Logs, GetsLock}
use Rattle.dali_transcripts.specs.Moves.{Receipt}
use Rattle.dali_transcripts.specs.Causes.{IsNoOperation, AsksFirst, WasGranted}

pub granted_asks : (xs : List Receipt) → WasGranted xs → AsksFirst xs
granted_asks [] h = absurd h
granted_asks ((n, GetsLock t k m) ∷ xs) h = tt
granted_asks ((n, Logs (Forward t b)) ∷ xs) h = absurd h
granted_asks (x ∷ xs) h = granted_asks xs h

-- where more is done
pub granted_more : (xs ys : List Receipt) → WasGranted xs → WasGranted (xs ++ ys)
granted_more [] ys h = absurd h
granted_more ((n, GetsLock t k m) ∷ xs) ys h = tt
granted_more ((n, Logs (Forward t b)) ∷ xs) ys h = absurd h
granted_more (x ∷ xs) ys h = granted_more xs ys h

-- where no operation was made
pub idle_asks : (xs : List Receipt) → AllByRecursion IsNoOperation xs → AsksFirst xs
idle_asks [] h = tt
idle_asks ((n, GetsLock t k m) ∷ xs) h = tt
idle_asks ((n, Logs (Forward t b)) ∷ xs) h = absurd h.0
idle_asks (x ∷ xs) h = idle_asks xs h.1

pub idle_granted : (xs : List Receipt) (n t k : ℕ) (m : Mode) → AllByRecursion IsNoOperation xs → WasGranted (xs ++ (n, GetsLock t k m) ∷ [])
idle_granted [] n t k m h = tt
idle_granted ((i, GetsLock u j l) ∷ xs) n t k m h = tt
idle_granted ((i, Logs (Forward u b)) ∷ xs) n t k m h = absurd h.0
idle_granted (x ∷ xs) n t k m h = idle_granted xs n t k m h.1

-- or none since
pub asks_then : (xs ys : List Receipt) → AsksFirst xs → AllByRecursion IsNoOperation ys → AsksFirst (xs ++ ys)
asks_then [] ys h idle = idle_asks ys idle
asks_then ((n, GetsLock t k m) ∷ xs) ys h idle = tt
asks_then ((n, Logs (Forward t b)) ∷ xs) ys h idle = absurd h
asks_then (x ∷ xs) ys h idle = asks_then xs ys h idle
