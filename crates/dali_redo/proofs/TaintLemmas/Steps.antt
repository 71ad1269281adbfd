-- One record more, on the scan and on its tables.
use Rattle.std.proofs.Common.{◌≡◌, ◌⊎◌, ℕ, ◌+◌, ◌^◌, ◌≤◌, ◌<◌, Bool, true, false, cond, List, [], ◌∷◌, ◌++◌, Some, None, refl, ap, sym, subst, ◌∙◌, inl, inr, append_assoc}
use Rattle.std.specs.Prelude.{◌&&◌, ◌||◌, ◌==◌, nat_le, nat_lt, map}
use Rattle.std.proofs.lemmas.Bool.{and_parts, leb-true, eqb-true}
use Rattle.std.proofs.lemmas.List.Sums.{fold_push}
use Rattle.std.proofs.lemmas.List.Elements.{filter_map-append}
use Rattle.std.proofs.lemmas.Option.{same_Some as some_same}
use mathlib.Core.Bool.{or-false}
use Rattle.dali_record.proofs.Stages.{has_committed_push}
use Rattle.dali_history.proofs.Members.{has_append}
use Rattle.dali_geometry.specs.Sizes.{Sizes}
use Rattle.dali_geometry.specs.Places.{regions}
use Rattle.dali_record.specs.declared.operations.Block.{Block}
use Rattle.dali_record.specs.declared.operations.Pending.{Pending}
use Rattle.dali_record.specs.declared.records.Record.{Record}
use Rattle.dali_record.specs.declared.records.Record.TheVariants.{Format, Begin, Forward, Commit, Ended, Solo, Restarted, Back}
use Rattle.dali_record.specs.Log.{Touch, touch_of, txn_of, undo_step, begun, committed, begin_by, commit_by}
use Rattle.dali_record.specs.Epochs.{separates}
use Rattle.dali_record.specs.Damage.{Damage, has}
use Rattle.dali_record.specs.Legal.{on_kind}
use Rattle.dali_record.proofs.EpochRules.{kind_in}
use Rattle.dali_resume.specs.Resumed.{scan, scan_step, scan_start, begun_by, committed_by, row_committed}
use Rattle.dali_resume.specs.Tests.{Known, Status, Idle, Running, Waiting, allows, may_take_back, is_running, is_waiting, known_next, status_next, next_behind, draws_number}
use Rattle.dali_redo.specs.Taint.Tables.{is_block_of, is_commit_of, is_end_of}
use Rattle.dali_redo.specs.Taint.Following.{scanned, is_begun, is_committed}

-- ---- one record more in the scan
tables_same : (k : Known) (r : Record) → separates r ≡ false → (known_next k r).table ≡ k.table
tables_same k r e = ap (λ z. cond z [] k.table) e

seen_more : (k : Known) (r : Record) → separates r ≡ false → (known_next k r).seen ≡ k.seen ++ r ∷ []
seen_more k r e = ap (λ z. cond z [] (k.seen ++ r ∷ [])) e

pub scanned_next : (d : Damage) (k : Known) (r : Record) → separates r ≡ false → scanned d (known_next k r) ≡ scan_step d (scanned d k) r
scanned_next d k r e =
    ap (λ rows. scan d rows (known_next k r).seen) (tables_same k r e)
    ∙ (ap (scan d k.table) (seen_more k r e) ∙ fold_push (scan_step d) (scan_start d.first k.table) k.seen r)

-- ---- a block
-- whose block may follow: of a transaction at work, or of a new number
pub record MayTouch (s : Sizes) (k : Known) (r : Record) (b : Touch) : Type 0 where
  pub inside : b.block.region < regions s
  pub who : (is_running (k.statuses b.txn) ≡ true) ⊎ ((k.next ≤ b.txn) × (next_behind k.next r ≡ b.txn + 1))
  pub txn : txn_of r ≡ Some b.txn
  pub plain : (begin_by r ≡ None) × (commit_by r ≡ None)

taking : (z : Status) (b : Block) → may_take_back z b ≡ true → is_running z ≡ true
taking Idle b e = absurd (cc)
taking (Running us) b e = refl
taking Waiting b e = absurd (cc)

pub may_touch : (s : Sizes) (n : ℕ) (k : Known) (r : Record) (b : Touch) → allows s n k r ≡ true → touch_of r ≡ Some b → MayTouch s k r b
may_touch s n k (Forward t c) b h e =
    let p = and_parts (is_running (k.statuses t)) (on_kind s c.region c.op) h in
    subst (MayTouch s k (Forward t c)) (some_same _ b e) (record { inside = kind_in s c.region c.op p.1; who = inl p.0; txn = refl; plain = (refl, refl) })
may_touch s n k (Back t c) b h e =
    let p = and_parts (may_take_back (k.statuses t) c) (on_kind s c.region c.op) h in
    subst (MayTouch s k (Back t c)) (some_same _ b e) (record { inside = kind_in s c.region c.op p.1; who = inl (taking (k.statuses t) c p.0); txn = refl; plain = (refl, refl) })
may_touch s n k (Solo t o c) b h e =
    let p = and_parts (draws_number k t) (is_waiting (k.statuses o) && on_kind s c.region c.op) h in
    let q = and_parts (is_waiting (k.statuses o)) (on_kind s c.region c.op) p.1 in
    let fresh : k.next ≤ t = leb-true k.next t (and_parts (nat_lt t (2 ^ 40)) (nat_le k.next t) p.0).1 in
    subst (MayTouch s k (Solo t o c)) (some_same _ b e) (record { inside = kind_in s c.region c.op q.1; who = inr (fresh, refl); txn = refl; plain = (refl, refl) })
may_touch s n k (Format i j) b h e = absurd (cc)
may_touch s n k _ b h e = absurd (cc)

-- ---- what a record tells of one transaction

pub commit_is : (r : Record) (t : ℕ) → is_commit_of t r ≡ true → r ≡ Commit t
commit_is (Commit u) t h = ap Commit (eqb-true u t (sym (or-false (u == t)) ∙ h))
commit_is _ t h = absurd (cc)

-- a block of another leaves an undo list
pub other_step : (r : Record) (t : ℕ) (us : List Pending) → is_block_of t r ≡ false → undo_step t us r ≡ us
other_step (Forward u b) t us h = rw h refl
other_step (Back u b) t us h = rw h refl
other_step _ t us h = refl

-- who is at work behind a record was so before it, unless it begins by it
abbrev pub Was : ℕ → Status → Record → Type 0
Was t z r = ((is_running z ≡ true) × (is_end_of t r ≡ false)) ⊎ (r ≡ Begin t)

idle_was : (t : ℕ) (r : Record) → is_running (status_next t Idle r) ≡ true → Was t Idle r
idle_was t (Begin u) h = inr (ap Begin (eqb-true u t (by_test (u == t) h)))
  where
    by_test : (b : Bool) → is_running (cond b (Running []) Idle) ≡ true → b ≡ true
    by_test true e = refl
    by_test false e = absurd (cc)
idle_was t (Format i j) h = absurd (cc)
idle_was t _ h = absurd (cc)

waiting_was : (t : ℕ) (r : Record) → is_running (status_next t Waiting r) ≡ true → Was t Waiting r
waiting_was t (Ended u) h = absurd (by_test (u == t) h)
  where
    by_test : (b : Bool) → is_running (cond b Idle Waiting) ≡ true → ⊥
    by_test true e = cc
    by_test false e = cc
waiting_was t (Format i j) h = absurd (cc)
waiting_was t _ h = absurd (cc)

running_was : (t : ℕ) (us : List Pending) (r : Record) → is_running (status_next t (Running us) r) ≡ true → Was t (Running us) r
running_was t us (Commit u) h = inl (refl, by_test (u == t) h)
  where
    by_test : (b : Bool) → is_running (cond b Waiting (Running us)) ≡ true → ((b || false) || false) ≡ false
    by_test true e = absurd (cc)
    by_test false e = refl
running_was t us (Ended u) h = inl (refl, by_test (u == t) h)
  where
    by_test : (b : Bool) → is_running (cond b Idle (Running us)) ≡ true → (false || (b || false)) ≡ false
    by_test true e = absurd (cc)
    by_test false e = refl
running_was t us (Restarted rs ds) h = absurd (cc)
running_was t us _ h = inl (refl, refl)

pub was : (t : ℕ) (z : Status) (r : Record) → is_running (status_next t z r) ≡ true → Was t z r
was t Idle r h = idle_was t r h
was t (Running us) r h = running_was t us r h
was t Waiting r h = waiting_was t r h

-- ---- what is known behind it
pub begun_next : (k : Known) (r : Record) → separates r ≡ false → begun_by (known_next k r).table (known_next k r).seen ≡ begun_by k.table k.seen ++ begun (r ∷ [])
begun_next k r e =
    ap (λ rows. begun_by rows (known_next k r).seen) (tables_same k r e)
    ∙ (ap (begun_by k.table) (seen_more k r e)
    ∙ (ap (λ ts. map (λ w. w.txn) k.table ++ ts) (filter_map-append begin_by k.seen (r ∷ []))
    ∙ sym (append_assoc (map (λ w. w.txn) k.table) (begun k.seen) (begun (r ∷ [])))))

pub is_begun_next : (k : Known) (r : Record) → separates r ≡ false → (t : ℕ) → is_begun (known_next k r) t ≡ (is_begun k t || has (begun (r ∷ [])) t)
is_begun_next k r e t = ap (λ ts. has ts t) (begun_next k r e) ∙ has_append (begun_by k.table k.seen) (begun (r ∷ [])) t

pub is_committed_next : (k : Known) (r : Record) → separates r ≡ false → (t : ℕ) → is_committed (known_next k r) t ≡ (is_committed k t || is_commit_of t r)
is_committed_next k r e t =
    ap (λ rows. committed_by rows (known_next k r).seen t) (tables_same k r e)
    ∙ (ap (λ R. committed_by k.table R t) (seen_more k r e)
    ∙ (ap (λ b. row_committed k.table t || b) (has_committed_push k.seen r t)
    ∙ or_assoc (row_committed k.table t) (has (committed k.seen) t) (is_commit_of t r)))
  where
    or_assoc : (a b c : Bool) → (a || (b || c)) ≡ ((a || b) || c)
    or_assoc true b c = refl
    or_assoc false b c = refl
