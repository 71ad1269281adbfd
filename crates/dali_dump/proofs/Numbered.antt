-- The lines of a log so far.
--     IsDumpedTo log r n text     the reader has handed out so many records of the log, and the text has their lines
--     IsDumping .. old new r n text   so it has of a store that tells its contents, and the store was only read
use Rattle.std.proofs.Common.{◌≡◌, ◌≤◌, ◌∙◌, ◌+◌, ℕ, List, [], ◌∷◌, ◌++◌, length, refl, sym, ap, arith, append-nil, append_assoc, length-append, subst, Option, Some, None, IfSome}
use Rattle.dali_record.specs.declared.records.Record.{Record}
use Rattle.dali_record.specs.declared.records.Record.TheVariants.{Format}
use Rattle.dali_store.specs.Store.{Files}
use Rattle.dali_store.specs.Calls.{PassesFewer}
use Rattle.dali_store.specs.declared.store.Store.{Ghosts}
use Rattle.dali_log.specs.declared.reader.Placed.{Placed}
use Rattle.dali_log.specs.Log.{BadAt}
use Rattle.dali_log.specs.Stream.{Reading, IsReadFrom, IsReadTo, GoesOn, EndsAt, IsBadFrom, IsWhole}
use Rattle.dali_log.specs.Reads.{OnlyReads}
use Rattle.dali_log.proofs.Streaming.{read_on, read_all, read_bad}
use Rattle.dali_log.proofs.Readings.{reads_then}
use Rattle.dali_dump.specs.Lines.{record_line, record_lines, IsDump}

pub record IsDumpedTo (log : List ℕ) (r : Reading) (n : ℕ) (text : List ℕ) : Type 0 where
  pub records : List Record
  pub read : IsReadTo log r records
  pub number : n ≡ length records
  pub lines : text ≡ record_lines 0 records

record_lines-push : (n : ℕ) (rs : List Record) (r : Record) → record_lines n (rs ++ r ∷ []) ≡ record_lines n rs ++ record_line (n + length rs) r
record_lines-push n [] r = let number : n ≡ n + length {A = Record} [] = omega arith in append-nil (record_line n r) ∙ ap (λ (m : ℕ). record_line m r) number
record_lines-push n (x ∷ rs) r =
    let number : n + 1 + length rs ≡ n + length (x ∷ rs) = omega arith in
    ap (λ (l : List ℕ). record_line n x ++ l) (record_lines-push (n + 1) rs r)
    ∙ sym (append_assoc (record_line n x) (record_lines (n + 1) rs) (record_line (n + 1 + length rs) r))
    ∙ ap (λ (m : ℕ). (record_line n x ++ record_lines (n + 1) rs) ++ record_line m r) number

pub first_dumped : (log : List ℕ) (r : Reading) (index heap : ℕ) (text : List ℕ) → IsReadFrom log 0 ((Format index heap ∷ []) ∷ []) [] r → text ≡ record_line 0 (Format index heap) → IsDumpedTo log r 1 text
first_dumped log r index heap text is added = record {
  records = Format index heap ∷ [];
  read = record { front = (Format index heap ∷ []) ∷ []; done = []; format = (index, heap, [], refl); read = is; records = refl };
  number = refl;
  lines = added ∙ sym (append-nil (record_line 0 (Format index heap)));
}

pub dumped_on : (log : List ℕ) (r s : Reading) (given : Placed) (n : ℕ) (old new : List ℕ) → GoesOn log r given s → IsDumpedTo log r n old → new ≡ old ++ record_line n given.entry → IsDumpedTo log s (n + 1) new
dumped_on log r s given n old new goes so_far added =
    let rs = so_far.records in
    let count : n ≡ 0 + length rs = omega (arith, so_far.number) in
    record {
      records = rs ++ given.entry ∷ [];
      read = read_on log r s given goes rs so_far.read;
      number = omega (arith, so_far.number, length-append rs (given.entry ∷ []));
      lines = added ∙ ap (λ (l : List ℕ). l ++ record_line n given.entry) so_far.lines
          ∙ ap (λ (m : ℕ). record_lines 0 rs ++ record_line m given.entry) count ∙ sym (record_lines-push 0 rs given.entry);
    }

-- ---- over a store
module _ {V : Type 0} (means : Ghosts V) where
  pub record IsDumping (old new : V) (r : Reading) (n : ℕ) (text : List ℕ) : Type 0 where
    pub whole : IsWhole r
    pub few : n ≤ r.at
    pub dumped : IfSome (means.told old) (λ fs. IsDumpedTo fs.log r n text)
    pub reads : OnlyReads means.told means.moment means.left_since means.may_leave old new
    pub passes : PassesFewer (means.lets_pass old) (means.lets_pass new)
    pub kept : means.faults new ≡ means.faults old

  -- the next record
  pub dumps_next : (old mid new : V) (read : Option Placed) (given : Placed) (r s : Reading) (n : ℕ) (text longer : List ℕ) → IsDumping old mid r n text
      → IfSome read (λ x. IfSome (means.told mid) (λ fs. GoesOn fs.log r x s)) → read ≡ Some given → longer ≡ text ++ record_line n given.entry
      → IsWhole s → n + 1 ≤ s.at → OnlyReads means.told means.moment means.left_since means.may_leave mid new → PassesFewer (means.lets_pass old) (means.lets_pass new) → means.faults new ≡ means.faults old → IsDumping old new s (n + 1) longer
  dumps_next old mid new read given r s n text longer so_far goes is added whole few reads passes kept = record {
    whole = whole;
    few = few;
    dumped = by_told (means.told old) (means.told mid) so_far.dumped so_far.reads.same goes;
    reads = reads_then means.told means.moment means.left_since means.may_leave old mid new so_far.reads reads;
    passes = passes;
    kept = kept;
  }
    where
      by_told : (o p : Option Files) → IfSome o (λ fs. IsDumpedTo fs.log r n text) → p ≡ o → IfSome read (λ x. IfSome p (λ fs. GoesOn fs.log r x s)) → IfSome o (λ fs. IsDumpedTo fs.log s (n + 1) longer)
      by_told None p before same on = tt
      by_told (Some fs) p before same on =
          dumped_on fs.log r s given n text longer (subst (λ (q : Option Files). IfSome q (λ gs. GoesOn gs.log r given s)) same (subst (λ (z : Option Placed). IfSome z (λ x. IfSome p (λ gs. GoesOn gs.log r x s))) is on)) before added

pub all_dumped : (log : List ℕ) (r s : Reading) (n : ℕ) (text : List ℕ) → EndsAt log r s → IsDumpedTo log r n text → IsDump log text
all_dumped log r s n text ends so_far =
    let all = read_all log r s ends so_far.records so_far.read in
    (all.0, s.at, all.1, so_far.lines ∙ ap (record_lines 0) all.2)

pub dump_bad : (log : List ℕ) (r : Reading) (n bad : ℕ) (text : List ℕ) → IsBadFrom log r bad → IsDumpedTo log r n text → BadAt log bad
dump_bad log r n bad text is so_far = read_bad log r bad is so_far.records so_far.read
