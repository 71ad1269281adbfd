-- The system after a step, and its bounds.
use Rattle.std.proofs.Common.{◌≡◌, ℕ, ◌+◌, ◌<◌, List, [], ◌∷◌, ◌++◌, length, sym, ap, subst, ◌∙◌, arith, length-append}
use Rattle.std.specs.Prelude.{◌^◌}
use Rattle.dali_bytes.proofs.Numbers.{length-number64}
use Rattle.dali_record.specs.declared.records.Record.{Record}
use Rattle.dali_record.specs.declared.operations.Pending.{Pending}
use Rattle.dali_record.specs.Spelling.{spelling}
use Rattle.dali_log.specs.Log.{body_bytes}
use Rattle.dali_record.specs.declared.records.Record.TheVariants.{Begin, Commit, Ended}
use Rattle.dali_log.proofs.Bodies.{bytes_push}
use Rattle.dali_att.specs.Table.{Table}
use Rattle.dali_locks.specs.Locks.{Locks}
use Rattle.dali_system.specs.declared.system.System.TheInside.{Inside}
use Rattle.dali_system.specs.Served.{Served}
use Rattle.dali_system.specs.Rows.{AreRows}
use Rattle.dali_system.specs.Fields.{state_of, served_of, IsBounded}
use Rattle.dali_system.specs.Promised.{Promised}
use Rattle.dali_system.specs.Journaled.{Journaled, IsSmall}

abbrev pub with_parts : Inside → Journaled → Table Pending → Locks → ℕ → ℕ → Inside
with_parts s j table locks end next = record s { journal = j; table = table; locks = locks; end = end; next = next }

-- one record more, and so much promised
abbrev pub with_one : Journaled → Record → Promised → Journaled
with_one j x p = record { since = j.since ++ x ∷ []; taken = j.taken; promised = p }

pub stepped : (s : Inside) (j : Journaled) (x : Record) (p : Promised) (tb tc : Table Pending) (ls ms : Locks) (e f n m : ℕ) → j ≡ with_one s.journal x p → tb ≡ tc → ls ≡ ms → e ≡ f → n ≡ m
    → served_of (with_parts s j tb ls e n)
    ≡ record {
      state = record (state_of s) { since = s.journal.since ++ x ∷ []; records = s.first + length s.journal.since + 1; table = tc; locks = ms; end = f; next = m };
      promised = p;
    }
stepped s j x p tb tc ls ms e f n m is same_table same_locks same_end same_next =
    ap (λ (k : Journaled). served_of (with_parts s k tb ls e n)) is
    ∙ ap (λ (k : Table Pending). served_of (with_parts s (with_one s.journal x p) k ls e n)) same_table
    ∙ ap (λ (k : Locks). served_of (with_parts s (with_one s.journal x p) tc k e n)) same_locks
    ∙ ap (λ (k : ℕ). served_of (with_parts s (with_one s.journal x p) tc ms k n)) same_end
    ∙ ap (λ (k : ℕ). served_of (with_parts s (with_one s.journal x p) tc ms f k)) same_next
    ∙ ap (λ (k : ℕ). let y : Served = record { state = record (state_of (with_parts s (with_one s.journal x p) tc ms f m)) { records = k }; promised = p } in y) counted
  where
    counted : s.first + length (s.journal.since ++ x ∷ []) ≡ s.first + length s.journal.since + 1
    counted = omega (arith, length-append s.journal.since (x ∷ []))

-- a refused step: the journal and the table are as before
pub same_parts : (s : Inside) (j : Journaled) (tb : Table Pending) (y : Served) → j ≡ s.journal → tb ≡ s.table → served_of s ≡ y → served_of (record s { journal = j; table = tb }) ≡ y
same_parts s j tb y is same_table view =
    ap (λ (k : Journaled). let t : Inside = record s { journal = k; table = tb } in served_of t) is
    ∙ ap (λ (k : Table Pending). let t : Inside = record s { table = k } in served_of t) same_table ∙ view

-- ---- bounds
longer : (L : List Record) (x : Record) → length (body_bytes (L ++ x ∷ [])) ≡ length (body_bytes L) + length (spelling x)
longer L x = ap length (sym (bytes_push L x)) ∙ length-append (body_bytes L) (spelling x)

pub bounded_push : (s : Inside) (j : Journaled) (x : Record) (p : Promised) (tb : Table Pending) (ls : Locks) (n : ℕ) → IsBounded s → j ≡ with_one s.journal x p → n ≡ length (spelling x) → AreRows s.next tb → IsBounded (with_parts s j tb ls (s.end + n) s.next)
bounded_push s j x p tb ls n b is e rows =
    subst (λ (k : Journaled). IsBounded (with_parts s k tb ls (s.end + n) s.next)) (sym is) (record {
      first = b.first;
      end = omega (arith, b.end, e, longer s.journal.since x);
      next = omega (arith, b.next, length-append s.journal.since (x ∷ []));
      limit = b.limit;
      rows = rows;
    })

pub bounded_begin : (s : Inside) (j : Journaled) (x : Record) (p : Promised) (tb : Table Pending) (ls : Locks) (n : ℕ) → IsBounded s → j ≡ with_one s.journal x p → n ≡ length (spelling x) → AreRows (s.next + 1) tb → IsBounded (with_parts s j tb ls (s.end + n) (s.next + 1))
bounded_begin s j x p tb ls n b is e rows =
    subst (λ (k : Journaled). IsBounded (with_parts s k tb ls (s.end + n) (s.next + 1))) (sym is) (record {
      first = b.first;
      end = omega (arith, b.end, e, longer s.journal.since x);
      next = omega (arith, b.next, length-append s.journal.since (x ∷ []));
      limit = b.limit;
      rows = rows;
    })

pub bounded_same : (s : Inside) (j : Journaled) (tb : Table Pending) → IsBounded s → j ≡ s.journal → AreRows s.next tb → IsBounded (record s { journal = j; table = tb })
bounded_same s j tb b is rows = subst (λ (k : Journaled). let t : Inside = record s { journal = k; table = tb } in IsBounded t) (sym is) (record { first = b.first; end = b.end; next = b.next; limit = b.limit; rows = rows })

pub bounded_table : (s : Inside) (tb : Table Pending) → IsBounded s → AreRows s.next tb → IsBounded (record s { table = tb })
bounded_table s tb b rows = record { first = b.first; end = b.end; next = b.next; limit = b.limit; rows = rows }

-- nothing overflows
pub end_fits : (s : Inside) (j : Journaled) (x : Record) (p : Promised) (n : ℕ) → IsBounded s → j ≡ with_one s.journal x p → n ≡ length (spelling x) → IsSmall j → s.end + n < 2 ^ 64
end_fits s j x p n b is e small =
    let short : IsSmall (with_one s.journal x p) = subst IsSmall is small in omega (arith, b.end, e, longer s.journal.since x, short.bytes)

pub next_fits : (s : Inside) (j : Journaled) (x : Record) (p : Promised) → IsBounded s → j ≡ with_one s.journal x p → IsSmall j → s.next + 1 < 2 ^ 64
next_fits s j x p b is small =
    let short : IsSmall (with_one s.journal x p) = subst IsSmall is small in omega (arith, b.next, short.records, length-append s.journal.since (x ∷ []))

pub nine_begin : (t : ℕ) → 9 ≡ length (spelling (Begin t))
nine_begin t = omega (arith, length-number64 t)

pub nine_commit : (t : ℕ) → 9 ≡ length (spelling (Commit t))
nine_commit t = omega (arith, length-number64 t)

pub nine_ended : (t : ℕ) → 9 ≡ length (spelling (Ended t))
nine_ended t = omega (arith, length-number64 t)
