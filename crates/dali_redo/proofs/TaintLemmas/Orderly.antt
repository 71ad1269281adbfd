-- What is so of numbers and transactions stays so behind a record that may follow.
use Rattle.std.proofs.Common.{◌≡◌, ℕ, ◌+◌, ◌^◌, ◌≤◌, ◌<◌, Bool, true, false, cond, [], ◌∷◌, ◌++◌, Option, Some, None, refl, ap, sym, subst, ◌∙◌, ⊎_elim, arith, get_or}
use Rattle.std.specs.Prelude.{◌&&◌, ◌==◌, nat_le, nat_lt, All}
use Rattle.std.specs.List.Sorted.{IsStrictlyIncreasing}
use Rattle.std.proofs.lemmas.Bool.{and_parts, both_ways, or_cases, or_parts, or_left, or_right, or_from, leb-true, ne_eqb, false_from_ne_true, cases_lt, eqb-true, eq-eqb, and_from}
use Rattle.std.proofs.lemmas.List.{append-nil}
use Rattle.std.proofs.lemmas.List.Elements.{All-from_get_or}
use Rattle.std.proofs.lemmas.Option.{slice_get-get_or}
use Rattle.std.proofs.lemmas.Map.Keys.{any_passes_from_place}
use mathlib.Core.Bool.{or-false}
use Rattle.dali_geometry.specs.Sizes.{Sizes}
use Rattle.dali_record.specs.declared.records.Record.{Record}
use Rattle.dali_record.specs.declared.records.Record.TheVariants.{Format, Begin, Forward, Done, Commit, Ended, Solo, AuditBegin, AuditClean, AuditFail, Restarted, Back}
use Rattle.dali_record.specs.Log.{Touch, touch_of, undo_step, begun}
use Rattle.dali_record.specs.Epochs.{separates}
use Rattle.dali_record.specs.Damage.{Damage, has, any_touch, any_txn}
use Rattle.dali_record.proofs.Chains.{touch_true, true_touch}
use Rattle.dali_history.proofs.Ascending.{IsStrictlyIncreasing-push}
use Rattle.dali_resume.specs.Resumed.{Scan, scan_step, is_marked, corrupt_after, items_after, marks_item, begun_by, is_left_out as leaves_out}
use Rattle.dali_resume.specs.Tests.{Known, allows, is_running, known_next, next_behind, draws_number}
use Rattle.dali_redo.specs.Taint.Tables.{is_block_of, is_commit_of, is_end_of}
use Rattle.dali_redo.specs.Taint.Following.{is_begun, is_committed, IsNew, IsOrderly}
use Rattle.dali_redo.proofs.TaintLemmas.Bits.{keys}
use Rattle.dali_redo.proofs.TaintLemmas.Steps.{may_touch, was, commit_is, other_step, begun_next, is_begun_next, is_committed_next}

-- no block of t
pub none_of : (r : Record) (t : ℕ) (test : Touch → Bool) → is_block_of t r ≡ false → any_touch (λ b. test b && (b.txn == t)) (touch_of r) ≡ false
none_of r t test h = by_touch (touch_of r) h
  where
    drop' : (a : Bool) → (a && false) ≡ false
    drop' true = refl
    drop' false = refl

    by_touch : (o : Option Touch) → any_touch (λ b. b.txn == t) o ≡ false → any_touch (λ b. test b && (b.txn == t)) o ≡ false
    by_touch None e = refl
    by_touch (Some b) e = rw e (drop' (test b))

-- of whom the record makes corrupt
pub by_block : (d : Damage) (c : Scan) (r : Record) (t : ℕ) → c.corrupt t ≡ false → corrupt_after d c r t ≡ true → (b : Touch) × (touch_of r ≡ Some b) × (is_marked d c b ≡ true) × (b.txn ≡ t)
by_block d c r t clear h = ⊎_elim (λ e. absurd (both_ways (c.corrupt t) clear e)) new (or_cases (c.corrupt t) (any_touch (λ b. is_marked d c b && (b.txn == t)) (touch_of r)) h)
  where
    new : any_touch (λ b. is_marked d c b && (b.txn == t)) (touch_of r) ≡ true → (b : Touch) × (touch_of r ≡ Some b) × (is_marked d c b ≡ true) × (b.txn ≡ t)
    new e =
        let w = touch_true (λ b. is_marked d c b && (b.txn == t)) (touch_of r) e in
        let p = and_parts (is_marked d c w.0) (w.0.txn == t) w.2 in
        (w.0, w.1, p.0, eqb-true w.0.txn t p.1)

module _ (s : Sizes) (n : ℕ) (d : Damage) (k : Known) (c : Scan) (r : Record) (o : IsOrderly k c) (ok : allows s n k r ≡ true) (inside : separates r ≡ false) where
  -- a new number hasn't begun
  unlike : (t u : ℕ) → k.next ≤ t → is_begun k u ≡ true → (u == t) ≡ false
  unlike t u above there = ne_eqb u t (λ e. both_ways (is_begun k t) (o.new t above).unbegun (subst (λ z. is_begun k z ≡ true) e there))

  -- and the record isn't one of those that are new behind it
  pub record Apart (t : ℕ) : Type 0 where
    pub above : k.next ≤ t
    pub begins : has (begun (r ∷ [])) t ≡ false
    pub block : is_block_of t r ≡ false

  pub by_touching : (t : ℕ) (b : Touch) → touch_of r ≡ Some b → next_behind k.next r ≤ t → k.next ≤ t → (b.txn == t) ≡ false
  by_touching t b e low above =
      let m = may_touch s n k r b ok e in
      ⊎_elim (λ w. unlike t b.txn above (o.works b.txn w).0) (λ w. ne_eqb b.txn t (λ f. absurd (omega (arith, low, w.1, f)))) m.who

  pub apart : (t : ℕ) → next_behind k.next r ≤ t → Apart t
  apart t low = record { above = above; begins = begins; block = by_test (touch_of r) refl }
    where
      parts : (above : k.next ≤ t) × (has (begun (r ∷ [])) t ≡ false)
      parts = by_kind r ok low
        where
          by_kind : (q : Record) → allows s n k q ≡ true → next_behind k.next q ≤ t → (above : k.next ≤ t) × (has (begun (q ∷ [])) t ≡ false)
          by_kind (Begin u) h e =
              let f : k.next ≤ u = leb-true k.next u (and_parts (nat_lt u (2 ^ 40)) (nat_le k.next u) h).1 in
              (omega (arith, e, f), or-false (u == t) ∙ ne_eqb u t (λ g. absurd (omega (arith, e, g))))
          by_kind (Solo u p b) h e =
              let f : k.next ≤ u = leb-true k.next u (and_parts (nat_lt u (2 ^ 40)) (nat_le k.next u) (and_parts (draws_number k u) _ h).0).1 in
              (omega (arith, e, f), refl)
          by_kind (Format i j) h e = (e, refl)
          by_kind (Forward u b) h e = (e, refl)
          by_kind (Done u b a) h e = (e, refl)
          by_kind (Commit u) h e = (e, refl)
          by_kind (Ended u) h e = (e, refl)
          by_kind AuditBegin h e = (e, refl)
          by_kind (AuditClean i) h e = (e, refl)
          by_kind (AuditFail i rs) h e = (e, refl)
          by_kind (Restarted rs ds) h e = (e, refl)
          by_kind (Back u b) h e = (e, refl)

      above : k.next ≤ t
      above = parts.0

      begins : has (begun (r ∷ [])) t ≡ false
      begins = parts.1

      by_test : (q : Option Touch) → touch_of r ≡ q → any_touch (λ b. b.txn == t) q ≡ false
      by_test None e = refl
      by_test (Some b) e = by_touching t b e low above

  -- whoever is at work behind it wasn't committed, and has begun
  works_next : (t : ℕ) → is_running ((known_next k r).statuses t) ≡ true → (is_begun (known_next k r) t ≡ true) × (is_committed (known_next k r) t ≡ false)
  works_next t h = ⊎_elim old new (was t (k.statuses t) r h)
    where
      old : (is_running (k.statuses t) ≡ true) × (is_end_of t r ≡ false) → (is_begun (known_next k r) t ≡ true) × (is_committed (known_next k r) t ≡ false)
      old w =
          let f = o.works t w.0 in
          (is_begun_next k r inside t ∙ or_left (is_begun k t) (has (begun (r ∷ [])) t) f.0, is_committed_next k r inside t ∙ or_from (is_committed k t) (is_commit_of t r) f.1 (or_parts (is_commit_of t r) _ w.1).0)

      new : r ≡ Begin t → (is_begun (known_next k r) t ≡ true) × (is_committed (known_next k r) t ≡ false)
      new e =
          let drawn : draws_number k t ≡ true = subst (λ q. allows s n k q ≡ true) e ok in
          let above : k.next ≤ t = leb-true k.next t (and_parts (nat_lt t (2 ^ 40)) (nat_le k.next t) drawn).1 in
          let here : has (begun (r ∷ [])) t ≡ true = ap (λ q. has (begun (q ∷ [])) t) e ∙ or_left (t == t) false (eq-eqb t t refl) in
          let none : is_commit_of t r ≡ false = ap (λ q. is_commit_of t q) e in
          let old : is_committed k t ≡ false = false_from_ne_true (is_committed k t) (λ f. both_ways (is_begun k t) (o.new t above).unbegun (o.begun t f)) in
          (is_begun_next k r inside t ∙ or_right (is_begun k t) (has (begun (r ∷ [])) t) here, is_committed_next k r inside t ∙ or_from (is_committed k t) (is_commit_of t r) old none)

  begun_committed : (t : ℕ) → is_committed (known_next k r) t ≡ true → is_begun (known_next k r) t ≡ true
  begun_committed t h = is_begun_next k r inside t ∙ or_left (is_begun k t) (has (begun (r ∷ [])) t) (⊎_elim (λ e. o.begun t e) by_commit (or_cases (is_committed k t) (is_commit_of t r) (sym (is_committed_next k r inside t) ∙ h)))
    where
      by_commit : is_commit_of t r ≡ true → is_begun k t ≡ true
      by_commit e = (o.works t (subst (λ q. allows s n k q ≡ true) (commit_is r t e) ok)).0

  -- a block that makes its transaction corrupt is left out
  pub left_by : (b : Touch) → touch_of r ≡ Some b → is_marked d c b ≡ true → leaves_out d c r ≡ true
  left_by b e m = ap (any_txn (corrupt_after d c r)) (may_touch s n k r b ok e).txn
      ∙ or_right (c.corrupt b.txn) (any_touch (λ a. is_marked d c a && (a.txn == b.txn)) (touch_of r)) (true_touch (λ a. is_marked d c a && (a.txn == b.txn)) (touch_of r) b e (and_from (is_marked d c b) (b.txn == b.txn) m (eq-eqb b.txn b.txn refl)))

  marked_next : (t i : ℕ) → corrupt_after d c r t ≡ true → has (keys (cond (corrupt_after d c r t) (c.undos t) (undo_step t (c.undos t) r))) i ≡ true → items_after (leaves_out d c r) c (touch_of r) i ≡ true
  marked_next t i h there = by_old (c.corrupt t) refl
    where
      held : has (keys (c.undos t)) i ≡ true
      held = subst (λ b. has (keys (cond b (c.undos t) (undo_step t (c.undos t) r))) i ≡ true) h there

      by_old : (b : Bool) → c.corrupt t ≡ b → items_after (leaves_out d c r) c (touch_of r) i ≡ true
      by_old true e = or_left (c.items i) (leaves_out d c r && any_touch (marks_item c.undos i) (touch_of r)) (o.marked t i e held)
      by_old false e =
          let w = by_block d c r t e h in
          let own : has (keys (c.undos w.0.txn)) i ≡ true = subst (λ u. has (keys (c.undos u)) i ≡ true) (sym w.3) held in
          or_right (c.items i) (leaves_out d c r && any_touch (marks_item c.undos i) (touch_of r))
          (and_from (leaves_out d c r) (any_touch (marks_item c.undos i) (touch_of r)) (left_by w.0 w.1 w.2) (true_touch (marks_item c.undos i) (touch_of r) w.0 w.1 (or_right _ (has (keys (c.undos w.0.txn)) i) own)))

  new_next : (t : ℕ) → next_behind k.next r ≤ t → IsNew (known_next k r) (scan_step d c r) t
  new_next t low =
      let a = apart t low in
      let f = o.new t a.above in
      let clear : corrupt_after d c r t ≡ false = or_from (c.corrupt t) _ f.sound (none_of r t (is_marked d c) a.block) in
      record {
        unbegun = is_begun_next k r inside t ∙ or_from (is_begun k t) (has (begun (r ∷ [])) t) f.unbegun a.begins;
        sound = clear;
        undos = ap (λ b. cond b (c.undos t) (undo_step t (c.undos t) r)) clear ∙ (other_step r t (c.undos t) a.block ∙ f.undos);
      }

  ascends : IsStrictlyIncreasing (begun_by (known_next k r).table (known_next k r).seen)
  ascends = subst IsStrictlyIncreasing (sym (begun_next k r inside)) (by_kind r ok)
    where
      by_order : (v : ℕ) → is_begun k v ≡ true → v < k.next
      by_order v there = ⊎_elim (λ e. e) (λ e. absurd (both_ways (is_begun k v) (o.new v e).unbegun there)) (cases_lt v k.next)

      plain : IsStrictlyIncreasing (begun_by k.table k.seen ++ [])
      plain = subst IsStrictlyIncreasing (sym (append-nil (begun_by k.table k.seen))) o.ascend

      by_kind : (q : Record) → allows s n k q ≡ true → IsStrictlyIncreasing (begun_by k.table k.seen ++ begun (q ∷ []))
      by_kind (Begin u) h = IsStrictlyIncreasing-push (begun_by k.table k.seen) u o.ascend below
        where
          above : k.next ≤ u
          above = leb-true k.next u (and_parts (nat_lt u (2 ^ 40)) (nat_le k.next u) h).1

          below : All (λ x. x < u) (begun_by k.table k.seen)
          below = All-from_get_or (λ x. x < u) (begun_by k.table k.seen) 0 (λ i within.
              let there = any_passes_from_place (λ z. z == get_or (begun_by k.table k.seen) i 0) (begun_by k.table k.seen) i (get_or (begun_by k.table k.seen) i 0) (slice_get-get_or (begun_by k.table k.seen) i 0 within) (eq-eqb _ _ refl) in
              let low : get_or (begun_by k.table k.seen) i 0 < k.next = by_order (get_or (begun_by k.table k.seen) i 0) there in
              omega (arith, above, low))
      by_kind (Format i j) h = plain
      by_kind (Forward v b) h = plain
      by_kind (Done v b a) h = plain
      by_kind (Commit v) h = plain
      by_kind (Ended v) h = plain
      by_kind (Solo v p b) h = plain
      by_kind AuditBegin h = plain
      by_kind (AuditClean i) h = plain
      by_kind (AuditFail i rs) h = plain
      by_kind (Restarted rs ds) h = plain
      by_kind (Back v b) h = plain

  pub orderly_next : IsOrderly (known_next k r) (scan_step d c r)
  orderly_next = record {
    number = ap (λ m. m + 1) o.number;
    ascend = ascends;
    begun = begun_committed;
    works = works_next;
    marked = marked_next;
    new = new_next;
  }
