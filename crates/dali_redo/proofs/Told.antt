-- What the table tells the tests.
use Rattle.std.proofs.Common.{◌≡◌, ℕ, ◌^◌, ◌≤◌, Bool, true, false, List, [], Option, Some, None, refl, ap, arith}
use Rattle.std.specs.Prelude.{not, ◌&&◌, nat_le, nat_lt}
use Rattle.std.proofs.lemmas.Bool.{and_parts, ltb-true}
use Rattle.dali_geometry.specs.Sizes.{Sizes}
use Rattle.dali_att.specs.declared.state.State.{State}
use Rattle.dali_att.specs.declared.state.State.TheVariants.{Live, Dead, Cleaning, Committed}
use Rattle.dali_att.specs.Table.{Table, last_of as table_last}
use Rattle.dali_record.specs.declared.operations.Block.{Block}
use Rattle.dali_record.specs.declared.operations.Pending.{Pending}
use Rattle.dali_record.specs.declared.records.Record.{Record}
use Rattle.dali_record.specs.declared.records.Record.TheVariants.{Format, Begin, Forward, Done, Commit, Ended, Solo, AuditBegin, AuditClean, AuditFail, Restarted, Back}
use Rattle.dali_record.specs.Legal.{is_none_left, on_kind}
use Rattle.dali_runs.proofs.Tables.{last_same}
use Rattle.dali_resume.specs.Laws.{undos_in}
use Rattle.dali_resume.specs.Tests.{Known, Status, Idle, Running, Waiting, is_running, is_waiting, may_end, may_take_back, undoes_last, next_behind, draws_number}
use Rattle.dali_redo.specs.Redoing.{Redoing, Knows, status_by, status_at, told_by, told, breaks}
use Rattle.dali_redo.specs.Laws.{TestsRules}

-- ---- the undos of a transaction
pub running_undos : (o : Option State) (us : List Pending) → is_running (status_by o us) ≡ true → us ≡ undos_in (status_by o us)
running_undos None us h = absurd (cc)
running_undos (Some Live) us h = refl
running_undos (Some (Dead l)) us h = refl
running_undos (Some (Cleaning l)) us h = refl
running_undos (Some Committed) us h = absurd (cc)

pub other_undos : (z : Status) → is_running z ≡ false → [] ≡ undos_in z
other_undos Idle h = refl
other_undos (Running us) h = absurd (cc)
other_undos Waiting h = refl

pub ends_waiting : (z : Status) → is_waiting z ≡ true → true ≡ may_end z
ends_waiting Idle h = absurd (cc)
ends_waiting (Running us) h = absurd (cc)
ends_waiting Waiting h = refl

pub ends_idle : (z : Status) → is_waiting z ≡ false → is_running z ≡ false → false ≡ may_end z
ends_idle Idle h g = refl
ends_idle (Running us) h g = absurd (cc)
ends_idle Waiting h g = absurd (cc)

pub ends_running : (o : Option State) (us : List Pending) → is_running (status_by o us) ≡ true → is_none_left us ≡ may_end (status_by o us)
ends_running None us h = absurd (cc)
ends_running (Some Live) us h = refl
ends_running (Some (Dead l)) us h = refl
ends_running (Some (Cleaning l)) us h = refl
ends_running (Some Committed) us h = absurd (cc)

pub takes_idle : (z : Status) (b : Block) → is_running z ≡ false → false ≡ may_take_back z b
takes_idle Idle b h = refl
takes_idle (Running us) b h = absurd (cc)
takes_idle Waiting b h = refl

pub takes_running : (o : Option State) (us : List Pending) (b : Block) → is_running (status_by o us) ≡ true → undoes_last b (table_last us) ≡ may_take_back (status_by o us) b
takes_running None us b h = absurd (cc)
takes_running (Some Live) us b h = ap (undoes_last b) (last_same us)
takes_running (Some (Dead l)) us b h = ap (undoes_last b) (last_same us)
takes_running (Some (Cleaning l)) us b h = ap (undoes_last b) (last_same us)
takes_running (Some Committed) us b h = absurd (cc)

-- ---- what is known is what the table tells
pub tests_rules : TestsRules
tests_rules s n k (Format i j) h = absurd (cc)
tests_rules s n k AuditBegin h = absurd (cc)
tests_rules s n k (AuditClean b) h = absurd (cc)
tests_rules s n k (AuditFail b rs) h = absurd (cc)
tests_rules s n k (Restarted rs ds) h = absurd (cc)
tests_rules s n k _ h = refl

pub breaks_alike : (s : Sizes) (x : Redoing) (k : Known) (r : Record) → Knows x k → breaks s (told x) r ≡ breaks s k r
breaks_alike s x k (Begin t) w = rw (w.next) refl
breaks_alike s x k (Forward t b) w = rw (w.statuses t) refl
breaks_alike s x k (Done t c a) w = rw (w.statuses t) refl
breaks_alike s x k (Back t b) w = rw (w.statuses t) refl
breaks_alike s x k (Commit t) w = rw (w.statuses t) refl
breaks_alike s x k (Ended t) w = rw (w.statuses t) refl
breaks_alike s x k (Solo t p b) w = rw (w.next, w.statuses p) refl
breaks_alike s x k (Format i j) w = refl
breaks_alike s x k AuditBegin w = refl
breaks_alike s x k (AuditClean b) w = refl
breaks_alike s x k (AuditFail b rs) w = refl
breaks_alike s x k (Restarted rs ds) w = refl

-- a number that passed has one behind it
pub number_fits : (s : Sizes) (m : Table Pending) (n : ℕ) (r : Record) → breaks s (told_by m n) r ≡ false → next_behind 0 r ≤ 2 ^ 40
number_fits s m n (Begin t) h = let low = ltb-true t (2 ^ 40) (and_parts (nat_lt t (2 ^ 40)) (nat_le n t) (not_false _ h)).0 in omega (arith, low)
  where
    not_false : (a : Bool) → not a ≡ false → a ≡ true
    not_false true q = refl
    not_false false q = absurd (cc)
number_fits s m n (Solo t p b) h = let low = ltb-true t (2 ^ 40) (and_parts (nat_lt t (2 ^ 40)) (nat_le n t) (and_parts (draws_number (told_by m n) t) (is_waiting (status_at m p) && on_kind s b.region b.op) (not_false _ h)).0).0 in omega (arith, low)
  where
    not_false : (a : Bool) → not a ≡ false → a ≡ true
    not_false true q = refl
    not_false false q = absurd (cc)
number_fits s m n (Format i j) h = omega arith
number_fits s m n _ h = omega arith
