-- A redo before an epoch, and behind a Restarted.
use Rattle.std.proofs.Common.{◌≡◌, ℕ, ◌≤◌, Bool, true, false, cond, List, [], ◌∷◌, Option, Some, None, refl, ap, sym, subst, ◌∙◌, arith}
use Rattle.std.specs.Prelude.{◌&&◌, ◌||◌, ◌==◌, is_some}
use Rattle.std.specs.List.Sorted.{IsStrictlyIncreasing}
use Rattle.std.specs.Option.{option_map, option_map_or}
use Rattle.std.specs.Ordering.{nat_cmp}
use Rattle.std.specs.FinMap.{empty, get, get-empty}
use Rattle.std.proofs.lemmas.Bool.{both_ways, false_from_ne_true, eqb-true}
use Rattle.std.proofs.lemmas.List.{append-nil}
use mathlib.Core.Bool.{or-false}
use Rattle.dali_att.specs.declared.state.State.{State}
use Rattle.dali_att.specs.declared.state.State.TheVariants.{Live, Dead, Cleaning, Committed}
use Rattle.dali_att.specs.Table.{Row as Entry, Table, state_at, undos_at}
use Rattle.dali_record.specs.declared.operations.Pending.{Pending}
use Rattle.dali_record.specs.declared.records.Record.TheVariants.{Restarted}
use Rattle.dali_record.specs.Damage.{Damage, has}
use Rattle.dali_record.specs.Files.{Row}
use Rattle.dali_record.specs.Log.{ended}
use Rattle.dali_history.proofs.Rising.{Up, up_from, not_below}
use Rattle.dali_resume.specs.Laws.{undos_in}
use Rattle.dali_resume.specs.Resumed.{scan, scan_start, row_undos, row_committed, begun_by, committed_by}
use Rattle.dali_resume.specs.Tests.{Known, Status, Idle, Running, Waiting, is_running, is_waiting, known_next, status_in}
use Rattle.dali_redo.specs.Taint.Following.{is_begun, is_committed, IsOrderly, Begins}
use Rattle.dali_redo.proofs.TaintLemmas.Starts.{txns, committed_there, no_row}
use Rattle.dali_redo.specs.Redoing.{Redoing, Knows, status_by, status_at, is_left}
use Rattle.dali_redo.specs.Following.{is_ended, IsSettled, FollowsScan, Redoes}
use Rattle.dali_redo.specs.Laws.{StartsRedo, EndsEpoch}
use Rattle.dali_redo.proofs.Statuses.{status_of, idle_behind}

abbrev chosen : Bool → Bool → List Pending → Status → Status
chosen b c us z = cond b (cond c Waiting (Running us)) z

-- one row of each transaction: what it says is its status
record IsRow (rows : List Row) (t : ℕ) : Type 0 where
  works : is_running (status_in rows t) ≡ true → (has (txns rows) t ≡ true) × (row_committed rows t ≡ false)
  waits : is_waiting (status_in rows t) ≡ true → row_committed rows t ≡ true
  runs : has (txns rows) t ≡ true → row_committed rows t ≡ false → is_running (status_in rows t) ≡ true
  undos : row_committed rows t ≡ false → undos_in (status_in rows t) ≡ row_undos rows t

is_row : (rows : List Row) (t : ℕ) → Up (txns rows) → IsRow rows t
is_row [] t up = record { works = λ h. absurd (cc); waits = λ h. absurd (cc); runs = λ h. absurd (cc); undos = λ h. refl }
is_row (w ∷ ws) t up = by_test (w.txn == t) refl (is_row ws t up.1)
  where
    by_test : (b : Bool) → (w.txn == t) ≡ b → IsRow ws t → IsRow (w ∷ ws) t
    by_test false e ih = record {
      works = λ h. let p = ih.works (subst (λ z. is_running (chosen z w.is_committed w.undos (status_in ws t)) ≡ true) e h) in (rw e p.0, rw e p.1);
      waits = λ h. rw e (ih.waits (subst (λ z. is_waiting (chosen z w.is_committed w.undos (status_in ws t)) ≡ true) e h));
      runs = λ h g. rw e (ih.runs (subst (λ z. (z || has (txns ws) t) ≡ true) e h) (subst (λ z. ((z && w.is_committed) || row_committed ws t) ≡ false) e g));
      undos = λ h. rw e (ih.undos (subst (λ z. ((z && w.is_committed) || row_committed ws t) ≡ false) e h));
    }
    by_test true e ih = by_committed w.is_committed refl
      where
        none : row_committed ws t ≡ false
        none = false_from_ne_true (row_committed ws t) (λ g. both_ways (has (txns ws) t) (subst (λ u. has (txns ws) u ≡ false) (eqb-true w.txn t e) (not_below w.txn (txns ws) w.txn up.0 (omega arith))) (committed_there ws t g))

        status : (c : Bool) → w.is_committed ≡ c → status_in (w ∷ ws) t ≡ cond c Waiting (Running w.undos)
        status c g = rw (e, g) refl

        rows_committed : (c : Bool) → w.is_committed ≡ c → row_committed (w ∷ ws) t ≡ c
        rows_committed true g = rw (e, g) refl
        rows_committed false g = rw (e, g) none

        by_committed : (c : Bool) → w.is_committed ≡ c → IsRow (w ∷ ws) t
        by_committed true g = record {
          works = λ h. let bad : is_running Waiting ≡ true = subst (λ z. is_running z ≡ true) (status true g) h in absurd (cc);
          waits = λ h. rows_committed true g;
          runs = λ h f. absurd (both_ways (row_committed (w ∷ ws) t) f (rows_committed true g));
          undos = λ f. absurd (both_ways (row_committed (w ∷ ws) t) f (rows_committed true g));
        }
        by_committed false g = record {
          works = λ h. (rw e refl, rows_committed false g);
          waits = λ h. let bad : is_waiting (Running w.undos) ≡ true = subst (λ z. is_waiting z ≡ true) (status false g) h in absurd (cc);
          runs = λ h f. ap is_running (status false g);
          undos = λ f. ap undos_in (status false g) ∙ sym (ap (λ b. cond b w.undos (row_undos ws t)) e);
        }

-- ---- the start
module _ (d : Damage) (k : Known) (m : Table Pending) (b : Begins d k m) where
  begun_is : begun_by k.table k.seen ≡ txns k.table
  begun_is = ap (begun_by k.table) b.seen ∙ append-nil (txns k.table)

  has_begun : (t : ℕ) → is_begun k t ≡ has (txns k.table) t
  has_begun t = ap (λ ts. has ts t) begun_is

  committed_is : (t : ℕ) → is_committed k t ≡ row_committed k.table t
  committed_is t = ap (λ R. committed_by k.table R t) b.seen ∙ or-false (row_committed k.table t)

  row : (t : ℕ) → IsRow k.table t
  row t = is_row k.table t (up_from (txns k.table) b.ascend)

  unbegun : (t : ℕ) → k.next ≤ t → has (txns k.table) t ≡ false
  unbegun t above = false_from_ne_true (has (txns k.table) t) (λ h. let low = b.drawn t h in absurd (omega (arith, low, above)))

  none_ended : (t : ℕ) → is_ended k t ≡ false
  none_ended t = ap (λ R. has (ended R) t) b.seen

  orderly : IsOrderly k (scan_start d.first k.table)
  orderly = record {
    number = b.number;
    ascend = subst IsStrictlyIncreasing (sym begun_is) b.ascend;
    begun = λ t h. has_begun t ∙ committed_there k.table t (sym (committed_is t) ∙ h);
    works = λ t h.
        let w = (row t).works (subst (λ z. is_running z ≡ true) (b.statuses t) h) in
        (has_begun t ∙ w.0, committed_is t ∙ w.1);
    marked = λ t i h there. absurd (cc);
    new = λ t above. record { unbegun = has_begun t ∙ unbegun t above; sound = refl; undos = no_row k.table t (unbegun t above) };
  }

  settled : IsSettled k
  settled = record {
    ends = λ t h. absurd (both_ways (is_ended k t) (none_ended t) h);
    waits = λ t h. committed_is t ∙ (row t).waits (subst (λ z. is_waiting z ≡ true) (b.statuses t) h);
    works = λ t h. none_ended t;
    runs = λ t h g f. ap is_running (b.statuses t) ∙ (row t).runs (sym (has_begun t) ∙ h) (sym (committed_is t) ∙ g);
  }

none_left : (x : Redoing) → x.left ≡ empty → (t : ℕ) → is_left x t ≡ false
none_left x e t = ap (λ m. is_some (state_at m t)) e ∙ ap (λ o. is_some (option_map (λ row. row.state) o)) (get-empty {X = Entry Pending} nat_cmp t)

starts_with : (x : Redoing) (d : Damage) (k : Known) → Begins d k x.table → Knows x k → ((t : ℕ) → is_left x t ≡ false) → Redoes x.image x d k
starts_with x d k b knows left = subst (λ c. FollowsScan x.image x d k c) (ap (scan d k.table) (sym b.seen)) (record {
  knows = knows;
  orderly = orderly d k x.table b;
  settled = settled d k x.table b;
  image = refl;
  left = left;
  undos = λ t h. absurd (cc);
  plain = λ t h g. ap undos_in (b.statuses t) ∙ (row d k x.table b t).undos (sym (committed_is d k x.table b t) ∙ g);
  born = λ t h. no_row k.table t (sym (has_begun d k x.table b t) ∙ h);
})

pub starts_redo : StartsRedo
starts_redo x d k first = starts_with x d k first.begins first.knows (none_left x first.left)

-- ---- behind a Restarted
pub ends_epoch : EndsEpoch
ends_epoch x y d k rs ds next a number = subst (λ im. Redoes im y d (known_next k (Restarted rs ds))) a.image (starts_with y d (known_next k (Restarted rs ds)) begins knows a.left)
  where
    behind : Knows y (known_next (record k { statuses = λ t. status_at x.table t }) (Restarted rs ds))
    behind = a.knows (record k { statuses = λ t. status_at x.table t }) (record { next = next; statuses = λ t. refl })

    told : (t : ℕ) → status_at y.table t ≡ Idle
    told t = behind.statuses t ∙ sym (idle_behind t (status_at x.table t) rs ds)

    knows : Knows y (known_next k (Restarted rs ds))
    knows = record { next = behind.next; statuses = λ t. told t ∙ idle_behind t (k.statuses t) rs ds }

    no_undos : (t : ℕ) → undos_at y.table t ≡ []
    no_undos t = by_row (get y.table t) (told t)
      where
        by_state : (z : State) (us : List Pending) → status_by (Some z) us ≡ Idle → us ≡ []
        by_state Live us e = absurd (cc)
        by_state (Dead l) us e = absurd (cc)
        by_state (Cleaning l) us e = absurd (cc)
        by_state Committed us e = absurd (cc)

        by_row : (o : Option (Entry Pending)) → status_of o ≡ Idle → option_map_or (λ row. row.undos) o [] ≡ []
        by_row None e = refl
        by_row (Some row) e = by_state row.state row.undos e

    begins : Begins d (known_next k (Restarted rs ds)) y.table
    begins = record {
      number = number;
      seen = refl;
      statuses = λ t. sym (idle_behind t (k.statuses t) rs ds);
      ascend = λ i h. absurd (omega (arith, h));
      drawn = λ t h. absurd (cc);
      undos = λ t. sym (no_undos t);
    }
