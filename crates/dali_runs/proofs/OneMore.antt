-- The parts of a run with one more record at the end of its log.
use Rattle.std.proofs.Common.{◌≡◌, ℕ, ◌+◌, ◌<◌, ◌≤◌, Bool, true, false, List, [], ◌∷◌, ◌++◌, length, Option, Some, None, refl, ap, sym, subst, ◌∙◌, ◌⊎◌, inl, inr, ⊎_elim, arith}
use Rattle.std.specs.Prelude.{◌*◌, IsSome, ◌==◌, not, slice_get, sum_by}
use Rattle.std.specs.FinMap.{get}
use Rattle.std.proofs.lemmas.List.{take-append-le, length_push}
use Rattle.std.proofs.lemmas.Option.{slice_get_within}
use Rattle.std.proofs.lemmas.Bool.{ne_eqb}
use Rattle.std.proofs.lemmas.List.Sums.{fold_push}
use Rattle.dali_lists.proofs.Lists.{get_push}
use Rattle.dali_geometry.specs.Sizes.{Sizes}
use Rattle.dali_record.specs.declared.operations.Pending.{Pending}
use Rattle.dali_record.specs.declared.records.Record.{Record}
use Rattle.dali_record.specs.declared.records.Record.TheVariants.{Format, Ended, AuditClean, AuditFail, Restarted}
use Rattle.dali_record.specs.Log.{Touch, touch_of, touch_at}
use Rattle.dali_record.specs.Epochs.{Epoch, Cut, cut, cut_step, last_epoch, next_number, clean_place, clean_step}
use Rattle.dali_record.specs.Locks.{conflicts, EndedBetween}
use Rattle.dali_record.specs.Legal.{TxnState, Unbegun, Active, Committed as Ending, Over, txn_state, txn_next, concerns, Rules, rules_state, rules_next}
use Rattle.dali_record.proofs.Ends.{get_old, get_push_cases}
use Rattle.dali_record.proofs.Pushes.{txn_state_push, txn_step-other, rules_state_push, cut_push, touch_push_cases, IsLegalFor-push, IsLockLegal-push, txn_next-same}
use Rattle.dali_locks.specs.declared.mode.Mode.{Mode}
use Rattle.dali_locks.specs.Locks.{IsConflict}
use Rattle.dali_runs.specs.declared.refusals.Refusal.{Refusal}
use Rattle.dali_att.specs.Table.{Table}
use Rattle.dali_runs.specs.State.{TxnRow, SystemState, VaultState, row_of, lock_of}
use Rattle.dali_record.specs.Files.{Files}
use Rattle.dali_record.specs.Spelling.{record_length, CanBeSpelled}
use Rattle.dali_runs.specs.Run.{LogRun, CountRun, IsRow, TableRun, holds, EndedSince, IsRefusal, LockRun, fail_step, failed_first, on_step, blocks_on, VaultRun, IsPrefix, IsFlushed}
use Rattle.dali_runs.specs.Counts.Counts.{next_with}

-- a record that neither ends an epoch nor ends an audit
abbrev pub is_plain : Record → Bool
is_plain (Format i h) = false
is_plain (AuditClean b) = false
is_plain (AuditFail b rs) = false
is_plain (Restarted rs ds) = false
is_plain _ = true

abbrev pub is_inside : Record → Bool
is_inside (Format i h) = false
is_inside (Restarted rs ds) = false
is_inside _ = true

pub step_inside : (c : Cut) (x : Record) → is_inside x ≡ true → cut_step c x ≡ record { closed = c.closed; now = record { first = c.now.first; records = c.now.records ++ x ∷ [] } }
step_inside c (Format i h) e = absurd (cc)
step_inside c (Restarted rs ds) e = absurd (cc)
step_inside c _ e = refl

abbrev pub one_more : Epoch → Record → Epoch
one_more e x = record { first = e.first; records = e.records ++ x ∷ [] }

pub last_epoch-push : (L : List Record) (x : Record) → is_inside x ≡ true → last_epoch (L ++ x ∷ []) ≡ one_more (last_epoch L) x
last_epoch-push L x e = ap (λ c. c.now) (cut_push L x ∙ step_inside (cut L) x e)

pub plain_inside : (x : Record) → is_plain x ≡ true → is_inside x ≡ true
plain_inside (Format i h) e = absurd (cc)
plain_inside (Restarted rs ds) e = absurd (cc)
plain_inside _ e = refl

clean_plain : (n : ℕ) (x : Record) → is_plain x ≡ true → clean_step n x ≡ n
clean_plain n (AuditClean b) e = absurd (cc)
clean_plain n _ e = refl

pub clean_place-push : (e : Epoch) (x : Record) → clean_place (one_more e x) ≡ clean_step (clean_place e) x
clean_place-push e x = fold_push clean_step e.first e.records x

pub clean_place-plain : (e : Epoch) (x : Record) → is_plain x ≡ true → clean_place (one_more e x) ≡ clean_place e
clean_place-plain e x h = clean_place-push e x ∙ clean_plain (clean_place e) x h

pub fail_plain : (o : Option ℕ) (x : Record) → is_plain x ≡ true → fail_step o x ≡ o
fail_plain n (AuditFail b rs) e = absurd (cc)
fail_plain n _ e = refl

pub failed_first-push : (E : List Record) (x : Record) → failed_first (E ++ x ∷ []) ≡ fail_step (failed_first E) x
failed_first-push E x = fold_push fail_step None E x

pub blocks_on-push : (r : ℕ) (E : List Record) (x : Record) → blocks_on r (E ++ x ∷ []) ≡ on_step r (blocks_on r E) x
blocks_on-push r E x = fold_push (on_step r) 0 E x

-- ---- a row of a state that is
pub row_is : (o : Option TxnState) (row : Option TxnRow) → IsRow o row → IsSome o
row_is None row h = absurd h
row_is (Some Unbegun) row h = refl
row_is (Some (Active w)) row h = refl
row_is (Some (Ending dead)) row h = refl
row_is (Some Over) row h = refl

-- the table with one more record: only the rows of those that it concerns may change
pub TableRun-push :
    (s : Sizes) (L : List Record) (x : Record) (old new : Table Pending) → TableRun s L old
    → ((t : ℕ) → concerns t x ≡ true → IsRow (txn_next s t (txn_state s t L) x) (get new t))
    → ((t : ℕ) → concerns t x ≡ false → get new t ≡ get old t)
    → TableRun s (L ++ x ∷ []) new
TableRun-push s L x old new table here other t = rw (txn_state_push s t L x) (by_concern (concerns t x) refl)
  where
    by_concern : (b : Bool) → concerns t x ≡ b → IsRow (txn_next s t (txn_state s t L) x) (get new t)
    by_concern true e = here t e
    by_concern false e = rw (txn_next-same s t (txn_state s t L) x e (row_is (txn_state s t L) (get old t) (table t)), other t e) (table t)

-- ---- the log
same_format : (L : List Record) (x y : Record) → slice_get L 0 ≡ Some y → slice_get (L ++ x ∷ []) 0 ≡ Some y
same_format [] x y e = absurd (cc)
same_format (z ∷ L) x y e = e

spelled_push : (L : List Record) (x : Record) → ((i : ℕ) (r : Record) → slice_get L i ≡ Some r → CanBeSpelled r) → CanBeSpelled x → (i : ℕ) (r : Record) → slice_get (L ++ x ∷ []) i ≡ Some r → CanBeSpelled r
spelled_push L x old new i r e = ⊎_elim (λ before. old i r before.1) (λ last. subst CanBeSpelled last.1 new) (get_push_cases L x i r e)

pub LogRun-push :
    (s : Sizes) (L : List Record) (x : Record) (new : Table Pending) → LogRun s L
    → TableRun s (L ++ x ∷ []) new
    → IsSome (rules_next s (rules_state s L) x)
    → is_inside x ≡ true
    → CanBeSpelled x
    → ((a : Touch) → touch_of x ≡ Some a → not (a.block.read == 0) ≡ true)
    → ((i : ℕ) (a b : Touch) → touch_at (last_epoch L).records i ≡ Some a → touch_of x ≡ Some b → conflicts a b ≡ true → EndedBetween a.owner i (length (last_epoch L).records) (last_epoch L).records)
    → LogRun s (L ++ x ∷ [])
LogRun-push s L x new run table rule inside spelled reads free = record {
  format = same_format L x _ run.format;
  spelled = spelled_push L x run.spelled spelled;
  legal = IsLegalFor-push s L x run.legal rule (λ t c. rw (txn_state_push s t L x) at (row_is (txn_state s t (L ++ x ∷ [])) (get new t) (table t))) (λ rs ds e. absurd (let f : is_inside (Restarted rs ds) ≡ true = subst (λ z. is_inside z ≡ true) e inside in cc)) reads;
  locks = IsLockLegal-push L x run.locks free;
}

-- ---- counts
pub CountRun-push :
    (s : Sizes) (L : List Record) (x : Record) (y : SystemState) (run : CountRun s L y) (g : Rules) → is_inside x ≡ true
    → rules_next s (rules_state s L) x ≡ Some g
    → g.count ≡ run.now.count + 1 → g.weight ≡ run.now.weight + record_length x → g.next ≡ next_with x run.now.next
    → ((t : ℕ) → g.next ≤ t → concerns t x ≡ false)
    → run.now.next ≤ g.next
    → clean_place (last_epoch (L ++ x ∷ [])) ≤ next_number (last_epoch (L ++ x ∷ []))
    → (z : SystemState) → z.records ≡ y.records + 1 → z.end ≡ y.end + record_length x → z.next ≡ next_with x y.next → z.limit ≡ y.limit
    → CountRun s (L ++ x ∷ []) z
CountRun-push s L x y run g inside rule count weight next fresh grows clean z zr ze zn zl = record {
  now = g;
  rules = rules_state_push s L x ∙ rule;
  some = ne_eqb g.count 0 (λ e. absurd (omega (arith, e, count)));
  records = zr ∙ ap (λ n. n + 1) run.records ∙ sym count;
  end = ze ∙ ap (λ n. n + record_length x) run.end ∙ sym weight;
  next = zn ∙ ap (next_with x) run.next ∙ sym next;
  limit = rw zl run.limit;
  fresh = λ t h. txn_state_push s t L x ∙ (ap (λ o. txn_next s t o x) (run.fresh t (omega (arith, h, grows))) ∙ txn_step-other s t Unbegun x (fresh t h));
  number = ap next_number (last_epoch-push L x inside) ∙ (more_number (last_epoch L) ∙ (ap (λ n. n + 1) run.number ∙ sym count));
  clean = clean;
}
  where
    more_number : (e : Epoch) → next_number (one_more e x) ≡ next_number e + 1
    more_number e = omega (arith, length_push e.records x)

pub clean_stays :
    (s : Sizes) (L : List Record) (x : Record) (y : SystemState) (run : CountRun s L y) → is_plain x ≡ true
    → clean_place (last_epoch (L ++ x ∷ [])) ≤ next_number (last_epoch (L ++ x ∷ []))
clean_stays s L x y run plain = rw (last_epoch-push L x (plain_inside x plain), clean_place-plain (last_epoch L) x plain) (omega (arith, run.clean, length_push (last_epoch L).records x))

-- ---- locks
pub LockRun-push :
    (s : Sizes) (L : List Record) (x : Record) (y z : SystemState) → LockRun s L y → is_inside x ≡ true
    → z.refusals ≡ y.refusals
    -- a lock that was held is held still, or its transaction ends with this record
    → ((t k : ℕ) → (x ≡ Ended t) ⊎ (lock_of z t k ≡ lock_of y t k))
    → ((t k : ℕ) (m : Mode) → lock_of z t k ≡ Some m → (lock_of y t k ≡ Some m) × IsSome (row_of z t))
    → ((a : Touch) → touch_of x ≡ Some a → holds z a.owner a.block ≡ true)
    → LockRun s (L ++ x ∷ []) z
LockRun-push s L x y z run inside same keeps fewer owner = record {
  held = λ i a. let e : List Record = (last_epoch L).records in rw (last_epoch-push L x inside) (λ h. ⊎_elim (λ old. ⊎_elim (λ w. inl (longer a.owner i w old.0)) (λ holding. ⊎_elim (λ ends. inl (ends_here a.owner i old.0 ends)) (λ stays. inr (rw stays holding)) (keeps a.owner a.block.key)) (run.held i a old.1)) (λ new. inr (owner a new.1)) (touch_push_cases e x i a h));
  apart = λ t u k m n d p q. run.apart t u k m n d (fewer t k m p).0 (fewer u k n q).0;
  owned = λ t k m p. (fewer t k m p).1;
  refused = λ n f e. refusal f (run.refused n f (rw same at e));
}
  where
    in_the_way : (f : Refusal) → f.at ≤ length L → IsConflict y.locks f.txn f.key f.mode f.holder → EndedSince f.holder f.at (L ++ x ∷ []) ⊎ IsConflict z.locks f.txn f.key f.mode f.holder
    in_the_way f within way = ⊎_elim (λ ends. inl (length L, within, get_push L x ∙ ap Some ends)) (λ stays. inr (record { other = way.other; mode = way.mode; holds = stays ∙ way.holds; clash = way.clash })) (keeps f.holder f.key)

    refusal : (f : Refusal) → IsRefusal s L y.locks f → IsRefusal s (L ++ x ∷ []) z.locks f
    refusal f old = record {
      older = old.older;
      within = omega (arith, old.within, length_push L x);
      asking = rw (take-append-le f.at L (x ∷ []) old.within) old.asking;
      running = rw (take-append-le f.at L (x ∷ []) old.within) old.running;
      conflict = ⊎_elim (λ w. inl (w.0, w.1, get_old L x w.0 (slice_get_within L w.0 (Ended f.holder) w.2) ∙ w.2)) (in_the_way f old.within) old.conflict;
    }

    longer : (t i : ℕ) → EndedBetween t i (length (last_epoch L).records) (last_epoch L).records → i < length (last_epoch L).records → EndedBetween t i (length ((last_epoch L).records ++ x ∷ [])) ((last_epoch L).records ++ x ∷ [])
    longer t i w h = (w.0, w.1, omega (arith, w.2, length_push (last_epoch L).records x), get_old (last_epoch L).records x w.0 w.2 ∙ w.3)

    ends_here : (t i : ℕ) → i < length (last_epoch L).records → x ≡ Ended t → EndedBetween t i (length ((last_epoch L).records ++ x ∷ [])) ((last_epoch L).records ++ x ∷ [])
    ends_here t i h e = (length (last_epoch L).records, h, omega (arith, length_push (last_epoch L).records x), get_push (last_epoch L).records x ∙ ap Some e)

-- ---- the vault
pub VaultRun-push : (leave : Files → Type 0) (L : List Record) (x : Record) (n : ℕ) (v : VaultState) → VaultRun leave L n v → VaultRun leave (L ++ x ∷ []) n v
VaultRun-push leave L x n v run = record {
  within = omega (arith, run.within, length_push L x);
  prefix = λ F h. let old : IsPrefix L n F = run.prefix F h in record { count = old.count; flushed = old.flushed; within = omega (arith, old.within, length_push L x); log = old.log ∙ sym (take-append-le old.count L (x ∷ []) old.within) };
  exact = λ running F h. let old : IsFlushed L n v F = run.exact running F h in record { log = old.log ∙ sym (take-append-le n L (x ∷ []) run.within); end = old.end };
  short = subst (λ K. v.end ≤ sum_by record_length K + 5 * n) (sym (take-append-le n L (x ∷ []) run.within)) run.short;
  then_fits = run.then_fits;
  counts = run.counts;
  rose = run.rose;
}
