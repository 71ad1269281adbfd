-- The system's fields, and what is true of them.
use Rattle.std.specs.Prelude.{◌+◌, ◌<◌, ◌≤◌, ◌^◌, length}
use Rattle.dali_log.specs.Log.{body_bytes}
use Rattle.dali_runs.specs.State.{SystemState}
use Rattle.dali_system.specs.declared.system.System.TheInside.{Inside}
use Rattle.dali_system.specs.Served.{Served}
use Rattle.dali_system.specs.Rows.{AreRows}

abbrev pub state_of : Inside → SystemState
state_of s = record {
  sizes = s.geometry;
  first = s.first;
  since = s.journal.since;
  taken = s.journal.taken;
  table = s.table;
  locks = s.locks;
  refusals = s.refusals.items;
  records = s.first + length s.journal.since;
  end = s.end;
  next = s.next;
  limit = s.limit;
  stop = s.stop;
  checking = s.checking;
}

abbrev pub served_of : Inside → Served
served_of s = record { state = state_of s; promised = s.journal.promised }

-- no count comes near its type's end: each record has a byte, and the bytes are at most 2^62
pub record IsBounded (s : Inside) : Type 0 where
  pub first : s.first < 2 ^ 63
  pub end : s.end < 2 ^ 63 + length (body_bytes s.journal.since) + 1
  pub next : s.next < 2 ^ 63 + length s.journal.since + 1
  pub limit : s.limit ≤ 268435456
  pub rows : AreRows s.next s.table
