use Rattle.std.proofs.Common.{◌≡◌, ◌⊎◌, ◌+◌, ◌++◌, ℕ, List, Some, length, vec_len, vec_capacity}
use Rattle.std.specs.Prelude.{slice_get}
use Rattle.dali_notes.specs.History.{AreOf, In, Sight}
use Rattle.dali_concurrent.specs.Told.{Item}
use Rattle.dali_locked.specs.Sights.{ClientSight, client_sight}
use Rattle.dali_locked.specs.Begun.{homed}
use Rattle.dali_locked.proofs.gathering.gather_clients.Given as goal

abbrev pub invariant-loop-client : goal.invariant-loop-client
invariant-loop-client g l = record {
  more : (rest : List (Sight Item)) × (l.notes.items ≡ l.fn.notes.items ++ rest);
  many : length l.notes.items + length l.clients.items ≡ length l.fn.clients.items + length l.fn.notes.items;
  tables : AreOf (homed g.H.Home.table g.B.Beginning.begun).table l.notes.items;
  seen : (i : ℕ) (x : ClientSight) → slice_get l.fn.clients.items i ≡ Some x → (slice_get l.clients.items i ≡ Some x) ⊎ In l.notes.items (client_sight (homed g.H.Home.table g.B.Beginning.begun) x);
  spare : vec_capacity l.notes ≡ vec_capacity l.fn.notes;
}

abbrev pub decreases-loop-client : goal.decreases-loop-client
decreases-loop-client g l = vec_len l.clients
