use Rattle.std.proofs.Common.{◌≡◌, ◌≤◌, ◌+◌, length, vec_len, vec_capacity}
use Rattle.dali_notes.specs.History.{AreFresh}
use Rattle.dali_locked.specs.Beginnings.{AreNew}
use Rattle.dali_locked.specs.Begun.{homed}
use Rattle.dali_locked.proofs.sharing.share_clients.Given as goal

abbrev pub invariant-loop-list : goal.invariant-loop-list
invariant-loop-list g l = record {
  fresh : AreFresh (homed g.H.Home.table g.B.Beginning.begun).table 0 l.list.items;
  kept : l.kept ≤ length l.list.items;
  within : length l.list.items ≤ length l.fn.list.items;
  room : vec_len l.clients + length l.list.items ≡ length l.fn.list.items;
  spare : vec_capacity l.list ≡ vec_capacity l.fn.list;
  capacity : vec_capacity l.clients ≡ vec_capacity l.fn.clients;
  clients : AreNew l.kept (length l.list.items) (length l.fn.list.items) l.clients.items;
}

abbrev pub decreases-loop-list : goal.decreases-loop-list
decreases-loop-list g l = vec_len l.list
