-- Where no audit failed, the scan marks nothing and leaves nothing out.
use Rattle.std.proofs.Common.{◌≡◌, ℕ, Bool, true, false, List, [], ◌∷◌, ◌++◌, Option, Some, None, refl, ap, sym, subst, ◌∙◌}
use Rattle.std.specs.Prelude.{not, ◌&&◌, ◌||◌, ◌==◌, nat_le, fold, filter, bit_and}
use Rattle.std.proofs.lemmas.List.Sums.{fold_push}
use Rattle.dali_record.specs.declared.records.Record.{Record}
use Rattle.dali_record.specs.Log.{Touch, touch_of, txn_of, undo_step}
use Rattle.dali_record.specs.Damage.{Damage, any_touch, any_txn}
use Rattle.dali_record.specs.Settled.{redo_all}
use Rattle.dali_record.specs.Files.{Row}
use Rattle.std.proofs.Common.{append_assoc}
use Rattle.std.specs.Prelude.{IsSome, slice_get}
use Rattle.std.specs.List.{list_any}
use Rattle.std.proofs.lemmas.Bool.{or_parts, both_ways}
use Rattle.dali_record.specs.declared.records.Record.TheVariants.{Format, Begin, Forward, Done, Commit, Ended, Solo, AuditBegin, AuditClean, AuditFail, Restarted, Back}
use Rattle.dali_record.specs.Epochs.{failing_step, separates}
use Rattle.dali_record.specs.Legal.{Rules, rules_step, rules_next}
use Rattle.dali_record.proofs.Stages.{IsWithin}
use Rattle.dali_record.proofs.EpochRules.{StandsThrough, stands_in_epochs, AllEpochs-contains}
use Rattle.dali_resume.specs.Resumed.{damage_from}
use Rattle.dali_resume.specs.Laws.{is_audit_fail, UnfailedIsPlain, FailEndsEpoch}
use Rattle.dali_resume.proofs.Audits.{Began, begun_epochs, front_some, last_step, step_changes}
use Rattle.dali_resume.proofs.Standing.{IsWithin-parts}
use Rattle.dali_resume.proofs.Walks.{first_rule}
use Rattle.dali_record.proofs.Ends.{by_push}
use Rattle.dali_record.proofs.Survivors.{filter_same}
use Rattle.dali_history.specs.Recovered.{roll_back, freed}
use Rattle.dali_history.proofs.Members.{fold_within}
use Rattle.dali_resume.specs.Resumed.{row_undos, Scan, is_marked, corrupt_after, is_left_out, scan_step, scan_start, scan, begun_by, committed_by, losers_by}
use Rattle.dali_resume.specs.Laws.{losers_of, UndamagedIsPlain}

record IsPlain (rows : List Row) (R : List Record) (c : Scan) : Type 0 where
  words : (q : ℕ) → c.words q ≡ 0
  items : (k : ℕ) → c.items k ≡ false
  corrupt : (t : ℕ) → c.corrupt t ≡ false
  undos : (t : ℕ) → c.undos t ≡ fold (undo_step t) (row_undos rows t) R
  kept : c.kept ≡ R

module _ (d : Damage) (sound : d.failing ≡ []) (rows : List Row) (R : List Record) (c : Scan) (plain : IsPlain rows R c) (r : Record) where
  unmarked : (b : Touch) → is_marked d c b ≡ false
  unmarked b = rw (sound, plain.words b.block.region, plain.items b.block.key) (none (nat_le d.clean c.number) (not (b.block.read == 0)) (bit_and 0 b.block.read) refl)
    where
      none : (x y : Bool) (n : ℕ) → bit_and 0 b.block.read ≡ n → ((x && false && y) || (not (bit_and 0 b.block.read == 0) || false)) ≡ false
      none true y n e = refl
      none false y n e = refl

  clean : (t : ℕ) → corrupt_after d c r t ≡ false
  clean t = rw (plain.corrupt t) (by_touch (touch_of r))
    where
      by_touch : (o : Option Touch) → any_touch (λ b. is_marked d c b && (b.txn == t)) o ≡ false
      by_touch None = refl
      by_touch (Some b) = rw (unmarked b) refl

  stays : is_left_out d c r ≡ false
  stays = by_txn (txn_of r)
    where
      by_txn : (o : Option ℕ) → any_txn (corrupt_after d c r) o ≡ false
      by_txn None = refl
      by_txn (Some t) = clean t

  plain_step : IsPlain rows (R ++ r ∷ []) (scan_step d c r)
  plain_step = record {
    words = λ q. rw stays (plain.words q);
    items = λ k. rw (stays, plain.items k) refl;
    corrupt = clean;
    undos = λ t. rw (clean t) (ap (λ us. undo_step t us r) (plain.undos t) ∙ sym (fold_push (undo_step t) (row_undos rows t) R r));
    kept = rw stays (ap (λ K. K ++ r ∷ []) plain.kept);
  }

scan_plain : (d : Damage) → d.failing ≡ [] → (rows : List Row) (R : List Record) → IsPlain rows R (scan d rows R)
scan_plain d sound rows = by_push (λ R. IsPlain rows R (scan d rows R)) (record { words = λ q. refl; items = λ k. refl; corrupt = λ t. refl; undos = λ t. refl; kept = refl })
    (λ R r ih. subst (IsPlain rows (R ++ r ∷ [])) (sym (fold_push (scan_step d) (scan_start d.first rows) R r)) (plain_step d sound rows R (scan d rows R) ih r))

-- so no record is left out behind any others
pub nothing_left_out : (d : Damage) → d.failing ≡ [] → (rows : List Row) (R : List Record) (r : Record) → is_left_out d (scan d rows R) r ≡ false
nothing_left_out d sound rows R r = stays d sound rows R (scan d rows R) (scan_plain d sound rows R) r

filter_none : (p : ℕ → Bool) (xs : List ℕ) → ((t : ℕ) → p t ≡ false) → filter p xs ≡ []
filter_none p [] h = refl
filter_none p (x ∷ xs) h = rw (h x) (filter_none p xs h)

pub undamaged_is_plain : UndamagedIsPlain
undamaged_is_plain s image d rows R sound = (ap (freed s) image_is, filter_none (λ t. committed_by rows R t && (scan d rows R).corrupt t) (begun_by rows R) (λ t. rw (w.corrupt t) (none (committed_by rows R t))))
  where
    w : IsPlain rows R (scan d rows R)
    w = scan_plain d sound rows R

    none : (x : Bool) → (x && false) ≡ false
    none true = refl
    none false = refl

    losers_same : losers_by rows R (scan d rows R) ≡ losers_of rows R
    losers_same = filter_same (λ t. (scan d rows R).corrupt t || not (committed_by rows R t)) (λ t. not (committed_by rows R t)) (begun_by rows R) (λ t h. rw (w.corrupt t) refl)

    image_is : fold (λ im t. roll_back im ((scan d rows R).undos t)) (redo_all image (scan d rows R).kept) (losers_by rows R (scan d rows R)) ≡ fold (λ im t. roll_back im (fold (undo_step t) (row_undos rows t) R)) (redo_all image R) (losers_of rows R)
    image_is =
        ap (fold (λ im t. roll_back im ((scan d rows R).undos t)) (redo_all image (scan d rows R).kept)) losers_same
        ∙ (fold_within (λ im t. roll_back im ((scan d rows R).undos t)) (λ im t. roll_back im (fold (undo_step t) (row_undos rows t) R)) (losers_of rows R) (λ t h x. ap (roll_back x) (w.undos t)) (redo_all image (scan d rows R).kept)
        ∙ ap (λ K. fold (λ im t. roll_back im (fold (undo_step t) (row_undos rows t) R)) (redo_all image K) (losers_of rows R)) w.kept)

unfailed : (R : List Record) → list_any is_audit_fail R ≡ false → (rs : List ℕ) → fold failing_step rs R ≡ rs
unfailed [] h rs = refl
unfailed (r ∷ R) h rs = let w = or_parts (is_audit_fail r) (list_any is_audit_fail R) h in ap (λ z. fold failing_step z R) (same r w.0) ∙ unfailed R w.1 rs
  where
    same : (q : Record) → is_audit_fail q ≡ false → failing_step rs q ≡ rs
    same (Format i k) e = refl
    same (Begin t) e = refl
    same (Forward t b) e = refl
    same (Done t c a) e = refl
    same (Commit t) e = refl
    same (Ended t) e = refl
    same (Solo t p b) e = refl
    same AuditBegin e = refl
    same (AuditClean b) e = refl
    same (AuditFail b fs) e = absurd (cc)
    same (Restarted as' ds) e = refl
    same (Back t b) e = refl

pub unfailed_is_plain : UnfailedIsPlain
unfailed_is_plain s image p rows R h = undamaged_is_plain s image (damage_from p R) rows R (unfailed R h [])

-- ---- a failed audit ends its epoch
pub fail_ends_epoch : FailEndsEpoch
fail_ends_epoch s L e A B b rs legal here parts = by_rest B refl
  where
    began : Began s e
    began = AllEpochs-contains (Began s) L e (begun_epochs s L legal.rules) here

    within : IsWithin (A ++ AuditFail b rs ∷ B)
    within = subst IsWithin parts (AllEpochs-contains (StandsThrough s) L e (stands_in_epochs s L legal) here).0

    some : IsSome (fold (rules_next s) (Some began.start) ((A ++ AuditFail b rs ∷ []) ++ B))
    some = subst (λ E. IsSome (fold (rules_next s) (Some began.start) E)) (parts ∙ sym (append_assoc A (AuditFail b rs ∷ []) B)) began.allowed

    m : (g : Rules) × (fold (rules_next s) (Some began.start) (A ++ AuditFail b rs ∷ []) ≡ Some g) × IsSome (fold (rules_next s) (Some g) B)
    m = front_some s began.start (A ++ AuditFail b rs ∷ []) B some

    l : (h : Rules) × (fold (rules_next s) (Some began.start) A ≡ Some h) × (rules_step s h (AuditFail b rs) ≡ Some m.0)
    l = last_step s began.start A (AuditFail b rs) m.0 m.1

    failed : m.0.failed ≡ true
    failed = (step_changes s l.0 m.0 (AuditFail b rs) refl l.2).1.2

    by_rest : (Z : List Record) → B ≡ Z → Z ≡ []
    by_rest [] h = refl
    by_rest (z ∷ Z) h = absurd (both_ways m.0.failed (step_changes s m.0 k.0 z plain k.1).0 failed)
      where
        plain : separates z ≡ false
        plain = (IsWithin-parts (A ++ AuditFail b rs ∷ []) B (subst IsWithin (sym (append_assoc A (AuditFail b rs ∷ []) B)) within)).1 0 z (ap (λ (Y : List Record). slice_get Y 0) h)

        k : (q : Rules) × (rules_step s m.0 z ≡ Some q) × IsSome (fold (rules_next s) (Some q) Z)
        k = first_rule s m.0 z Z (subst (λ Y. IsSome (fold (rules_next s) (Some m.0) Y)) h m.2)
