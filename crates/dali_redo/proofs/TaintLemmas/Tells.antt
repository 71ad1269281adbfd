-- The tables go on to follow the scan.
use Rattle.std.proofs.Common.{◌≡◌, ◌⊎◌, ℕ, ◌^◌, ◌≤◌, ◌<◌, Bool, true, false, cond, List, [], length, Option, Some, None, refl, ap, sym, subst, ◌∙◌, inl, inr, ⊎_elim}
use Rattle.std.specs.Prelude.{not, ◌&&◌, ◌||◌, ◌==◌, nat_le, nat_lt}
use Rattle.std.specs.Int.Bits.{bit_or}
use Rattle.std.proofs.lemmas.Bool.{and_parts, both_ways, or_cases, or_parts, or_left, or_right, leb-true, false_from_ne_true, eqb-true, eq-eqb, and_from}
use mathlib.Core.Bool.{or-false}
use Rattle.dali_geometry.specs.Sizes.{Sizes}
use Rattle.dali_att.specs.Table.{undos_at}
use Rattle.dali_record.specs.declared.operations.Pending.{Pending}
use Rattle.dali_record.specs.declared.records.Record.{Record}
use Rattle.dali_record.specs.declared.records.Record.TheVariants.{Begin, Commit}
use Rattle.dali_record.specs.Blocks.{changes_item}
use Rattle.dali_record.specs.Log.{Touch, touch_of, txn_of, undo_step}
use Rattle.dali_record.specs.Epochs.{separates}
use Rattle.dali_record.specs.Damage.{Damage, has, any_touch, any_txn}
use Rattle.dali_record.specs.Files.{is_restarted}
use Rattle.dali_record.proofs.Chains.{touch_true}
use Rattle.dali_resume.specs.Resumed.{Scan, scan_step, is_marked, corrupt_after, items_after, words_after, words_touched, marks_item, is_left_out as leaves_out}
use Rattle.dali_resume.specs.Tests.{Known, allows, is_running, known_next, draws_number}
use Rattle.dali_redo.specs.Taint.Tables.{word_set, has_number, is_reached, is_left_out, is_block_of, is_commit_of, is_end_of, Drops, Keeps}
use Rattle.dali_redo.specs.Taint.Following.{scanned, is_begun, is_committed, FollowsScan, JudgedIn}
use Rattle.dali_redo.specs.declared.taint.taint.Taint.{Taint}
use Rattle.dali_redo.specs.declared.taint.taint.Judgement.TheVariants.{Keep, Drop}
use Rattle.dali_redo.proofs.TaintLemmas.Bits.{keys}
use Rattle.dali_redo.proofs.TaintLemmas.Steps.{may_touch, was, commit_is, other_step, is_committed_next, scanned_next}
use Rattle.dali_redo.proofs.TaintLemmas.Orderly.{by_block, left_by, orderly_next, apart}

module _ (s : Sizes) (n : ℕ) (d : Damage) (k : Known) (c : Scan) (r : Record) (x : Taint) (f : FollowsScan s x d k c) (ok : allows s n k r ≡ true) (inside : separates r ≡ false) where
  reached_is : (b : Touch) → is_reached x k.number b.block ≡ is_marked d c b
  reached_is b = rw (f.clean, f.failing b.block.region, f.words b.block.region, f.items b.block.key, f.orderly.number) refl

  pub left_is : is_left_out x k.number r ≡ leaves_out d c r
  left_is = by_txn (txn_of r) refl
    where
      by_txn : (q : Option ℕ) → txn_of r ≡ q → any_txn (λ t. has_number x.corrupt t || any_touch (λ b. is_reached x k.number b.block) (touch_of r)) q ≡ any_txn (corrupt_after d c r) q
      by_txn None e = refl
      by_txn (Some t) e = ap (λ b. b || any_touch (λ b. is_reached x k.number b.block) (touch_of r)) (f.corrupt t) ∙ ap (λ b. c.corrupt t || b) (by_touch (touch_of r) refl)
        where
          and_one : (a : Bool) → a ≡ (a && true)
          and_one true = refl
          and_one false = refl

          by_touch : (p : Option Touch) → touch_of r ≡ p → any_touch (λ b. is_reached x k.number b.block) p ≡ any_touch (λ b. is_marked d c b && (b.txn == t)) p
          by_touch None g = refl
          by_touch (Some b) g =
              let same : b.txn ≡ t = some_same b.txn t (sym (may_touch s n k r b ok g).txn ∙ e) in
              reached_is b ∙ (and_one (is_marked d c b) ∙ ap (λ z. is_marked d c b && z) (sym (eq-eqb b.txn t same)))
            where
              some_same : (u v : ℕ) → Some u ≡ Some v → u ≡ v
              some_same u v h = cc

  -- what a block that is left out tells
  left_block : (b : Touch) → touch_of r ≡ Some b → leaves_out d c r ≡ true → (c.corrupt b.txn ≡ true) ⊎ (is_marked d c b ≡ true)
  left_block b e h = ⊎_elim (λ w. inl w) (λ w. inr (and_parts (is_marked d c b) (b.txn == b.txn) (sym (ap (any_touch (λ a. is_marked d c a && (a.txn == b.txn))) e) ∙ w)).0)
      (or_cases (c.corrupt b.txn) (any_touch (λ a. is_marked d c a && (a.txn == b.txn)) (touch_of r)) (sym (ap (any_txn (corrupt_after d c r)) (may_touch s n k r b ok e).txn) ∙ h))

  own_corrupt : (t : ℕ) → leaves_out d c r ≡ false → txn_of r ≡ Some t → c.corrupt t ≡ false
  own_corrupt t h e = (or_parts (c.corrupt t) _ (sym (ap (any_txn (corrupt_after d c r)) e) ∙ h)).0

  kept_clear : (t : ℕ) → leaves_out d c r ≡ false → corrupt_after d c r t ≡ c.corrupt t
  kept_clear t h = by_touch (touch_of r) refl
    where
      by_touch : (p : Option Touch) → touch_of r ≡ p → (c.corrupt t || any_touch (λ b. is_marked d c b && (b.txn == t)) p) ≡ c.corrupt t
      by_touch None e = or-false (c.corrupt t)
      by_touch (Some b) e =
          let clear : is_marked d c b ≡ false = false_from_ne_true (is_marked d c b) (λ m. both_ways (leaves_out d c r) h (left_by s n d k c r f.orderly ok inside b e m)) in
          rw clear (or-false (c.corrupt t))

  dropped_corrupt : (t : ℕ) → leaves_out d c r ≡ true → (c.corrupt t || is_block_of t r) ≡ corrupt_after d c r t
  dropped_corrupt t h = by_touch (touch_of r) refl
    where
      by_touch : (p : Option Touch) → touch_of r ≡ p → (c.corrupt t || any_touch (λ b. b.txn == t) p) ≡ (c.corrupt t || any_touch (λ b. is_marked d c b && (b.txn == t)) p)
      by_touch None e = refl
      by_touch (Some b) e = ⊎_elim old new (left_block b e h)
        where
          new : is_marked d c b ≡ true → (c.corrupt t || (b.txn == t)) ≡ (c.corrupt t || (is_marked d c b && (b.txn == t)))
          new m = rw m refl

          old : c.corrupt b.txn ≡ true → (c.corrupt t || (b.txn == t)) ≡ (c.corrupt t || (is_marked d c b && (b.txn == t)))
          old w = by_test (b.txn == t) refl
            where
              two : (a y : Bool) → a ≡ true → (a || true) ≡ (a || y)
              two true y g = refl
              two false y g = absurd (cc)

              none : (a m : Bool) → (a || false) ≡ (a || (m && false))
              none a true = refl
              none a false = refl

              by_test : (y : Bool) → (b.txn == t) ≡ y → (c.corrupt t || y) ≡ (c.corrupt t || (is_marked d c b && y))
              by_test true g = two (c.corrupt t) (is_marked d c b && true) (subst (λ u. c.corrupt u ≡ true) (eqb-true b.txn t g) w)
              by_test false g = none (c.corrupt t) (is_marked d c b)

  inside_regions : (b : Touch) → touch_of r ≡ Some b → b.block.region < length x.words.items
  inside_regions b e = subst (λ m. b.block.region < m) (sym f.regions) (may_touch s n k r b ok e).inside

  -- the undos of the block's transaction
  own_undos : (b : Touch) (i : ℕ) → touch_of r ≡ Some b → (c.items i || ((changes_item b.block && (b.block.key == i)) || has (keys (undos_at x.undos b.txn)) i)) ≡ (c.items i || ((changes_item b.block && (b.block.key == i)) || has (keys (c.undos b.txn)) i))
  own_undos b i e = by_test (c.corrupt b.txn) refl
    where
      late : (a u h : Bool) → (h ≡ true → a ≡ true) → (a || (u || false)) ≡ (a || (u || h))
      late a u false g = refl
      late a u true g = rw (g refl) refl

      by_test : (y : Bool) → c.corrupt b.txn ≡ y → (c.items i || ((changes_item b.block && (b.block.key == i)) || has (keys (undos_at x.undos b.txn)) i)) ≡ (c.items i || ((changes_item b.block && (b.block.key == i)) || has (keys (c.undos b.txn)) i))
      by_test true g =
          ap (λ us. c.items i || ((changes_item b.block && (b.block.key == i)) || has (keys us) i)) (f.gone b.txn g)
          ∙ late (c.items i) (changes_item b.block && (b.block.key == i)) (has (keys (c.undos b.txn)) i) (λ h. f.orderly.marked b.txn i g h)
      by_test false g = ap (λ us. c.items i || ((changes_item b.block && (b.block.key == i)) || has (keys us) i)) same
        where
          same : undos_at x.undos b.txn ≡ c.undos b.txn
          same = ⊎_elim (λ w. f.undos b.txn w g) (λ w. f.new b.txn w.0 ∙ sym (f.orderly.new b.txn w.0).undos) (may_touch s n k r b ok e).who

  -- who is at work behind it, and isn't corrupt
  begins_new : (t : ℕ) → r ≡ Begin t → k.next ≤ t
  begins_new t e =
      let drawn : draws_number k t ≡ true = subst (λ q. allows s n k q ≡ true) e ok in
      leb-true k.next t (and_parts (nat_lt t (2 ^ 40)) (nat_le k.next t) drawn).1

  clear_before : (t : ℕ) → corrupt_after d c r t ≡ false → c.corrupt t ≡ false
  clear_before t h = (or_parts (c.corrupt t) _ h).0

  old_undos : (t : ℕ) → is_running ((known_next k r).statuses t) ≡ true → corrupt_after d c r t ≡ false → (undos_at x.undos t ≡ c.undos t) × (is_end_of t r ≡ false)
  old_undos t h clear = ⊎_elim (λ w. (f.undos t w.0 (clear_before t clear), w.1)) (λ e. let above = begins_new t e in (f.new t above ∙ sym (f.orderly.new t above).undos, ap (is_end_of t) e)) (was t (k.statuses t) r h)

  -- a committed one isn't made corrupt
  deleted_is : (t : ℕ) → leaves_out d c r ≡ true → ((is_committed k t && c.corrupt t) || is_commit_of t r) ≡ (is_committed (known_next k r) t && corrupt_after d c r t)
  deleted_is t h = by_commit (is_commit_of t r) refl ∙ ap (λ z. z && corrupt_after d c r t) (sym (is_committed_next k r inside t))
    where
      same_bools : (a b : Bool) → (a ≡ true → b ≡ true) → (b ≡ true → a ≡ true) → a ≡ b
      same_bools true b g e = sym (g refl)
      same_bools false true g e = e refl
      same_bools false false g e = refl

      by_commit : (y : Bool) → is_commit_of t r ≡ y → ((is_committed k t && c.corrupt t) || is_commit_of t r) ≡ ((is_committed k t || is_commit_of t r) && corrupt_after d c r t)
      by_commit true e = rw e (or_right (is_committed k t && c.corrupt t) true refl ∙ sym (and_from (is_committed k t || true) (corrupt_after d c r t) (or_right (is_committed k t) true refl) now))
        where
          own : c.corrupt t ≡ true
          own =
              let is : r ≡ Commit t = commit_is r t e in
              let left : any_txn (corrupt_after d c (Commit t)) (Some t) ≡ true = subst (λ q. leaves_out d c q ≡ true) is h in
              sym (or-false (c.corrupt t)) ∙ left

          now : corrupt_after d c r t ≡ true
          now = or_left (c.corrupt t) _ own
      by_commit false e = rw e (or-false (is_committed k t && c.corrupt t) ∙ (by_committed (is_committed k t) refl ∙ ap (λ z. z && corrupt_after d c r t) (sym (or-false (is_committed k t)))))
        where
          by_committed : (y : Bool) → is_committed k t ≡ y → (is_committed k t && c.corrupt t) ≡ (is_committed k t && corrupt_after d c r t)
          by_committed false g = rw g refl
          by_committed true g = ap (λ z. is_committed k t && z) (same_bools (c.corrupt t) (corrupt_after d c r t) (λ w. or_left (c.corrupt t) _ w) later)
            where
              later : corrupt_after d c r t ≡ true → c.corrupt t ≡ true
              later w = by_old (c.corrupt t) refl
                where
                  by_old : (z : Bool) → c.corrupt t ≡ z → z ≡ true
                  by_old true q = refl
                  by_old false q =
                      let b = by_block d c r t q w in
                      absurd (⊎_elim
                      (λ m. both_ways (is_committed k t) (f.orderly.works t (subst (λ u. is_running (k.statuses u) ≡ true) b.3 m)).1 g)
                      (λ m. both_ways (is_begun k t) (f.orderly.new t (subst (λ u. k.next ≤ u) b.3 m.0)).unbegun (f.orderly.begun t g))
                      (may_touch s n k r b.0 ok b.1).who)

  deleted_still : (t : ℕ) → leaves_out d c r ≡ false → (is_committed k t && c.corrupt t) ≡ (is_committed (known_next k r) t && corrupt_after d c r t)
  deleted_still t h = by_commit (is_commit_of t r) refl ∙ ap2 (sym (is_committed_next k r inside t)) (sym (kept_clear t h))
    where
      ap2 : {a b p q : Bool} → a ≡ b → p ≡ q → (a && p) ≡ (b && q)
      ap2 {a = a} {b = b} {p = p} {q = q} e g = ap (λ z. z && p) e ∙ ap (λ z. b && z) g

      none : (a b : Bool) → b ≡ false → (a && b) ≡ ((a || true) && b)
      none true b e = refl
      none false b e = sym e

      by_commit : (y : Bool) → is_commit_of t r ≡ y → (is_committed k t && c.corrupt t) ≡ ((is_committed k t || is_commit_of t r) && c.corrupt t)
      by_commit true e = rw e (none (is_committed k t) (c.corrupt t) (own_corrupt t h (ap txn_of (commit_is r t e))))
      by_commit false e = rw e (ap (λ z. z && c.corrupt t) (sym (or-false (is_committed k t))))

  pub follows_left : (y : Taint) → leaves_out d c r ≡ true → Drops x y r → FollowsScan s y d (known_next k r) (scan_step d c r)
  follows_left y h g = record {
    orderly = orderly_next s n d k c r f.orderly ok inside;
    clean = g.steady.clean ∙ f.clean;
    failing = λ q. ap (λ z. has_number z q) g.steady.failing ∙ f.failing q;
    regions = g.steady.regions ∙ f.regions;
    words = λ q. g.words inside_regions q ∙ (by_word q (touch_of r) ∙ ap (λ b. words_after b c.words (touch_of r) q) (sym h));
    items = λ i. g.items i ∙ (ap (λ z. z || any_touch (marks_item (undos_at x.undos) i) (touch_of r)) (f.items i) ∙ (by_item i (touch_of r) refl ∙ ap (λ b. items_after b c (touch_of r) i) (sym h)));
    corrupt = λ t. g.corrupt t ∙ (ap (λ z. z || is_block_of t r) (f.corrupt t) ∙ dropped_corrupt t h);
    undos = λ t w e.
        let p = old_undos t w e in
        let off : is_block_of t r ≡ false = (or_parts (c.corrupt t) (is_block_of t r) (dropped_corrupt t h ∙ e)).1 in
        g.undos t ∙ (ap (λ b. cond b [] (undos_at x.undos t)) off ∙ (p.0 ∙ (sym (other_step r t (c.undos t) off) ∙ sym (ap (λ b. cond b (c.undos t) (undo_step t (c.undos t) r)) e))));
    gone = λ t e. g.undos t ∙ by_block_of t e (is_block_of t r) refl;
    new = λ t low. let a = apart s n d k c r f.orderly ok inside t low in g.undos t ∙ (ap (λ b. cond b [] (undos_at x.undos t)) a.block ∙ f.new t a.above);
    deleted = λ t. g.deleted t ∙ (ap (λ z. z || is_commit_of t r) (f.deleted t) ∙ deleted_is t h);
  }
    where
      by_word : (q : ℕ) (p : Option Touch) → words_touched (word_set x.words.items) p q ≡ words_touched c.words p q
      by_word q None = f.words q
      by_word q (Some b) = ap (λ w. cond (b.block.region == q) (bit_or w b.block.write) w) (f.words q)

      by_item : (i : ℕ) (p : Option Touch) → touch_of r ≡ p → (c.items i || any_touch (marks_item (undos_at x.undos) i) p) ≡ (c.items i || (true && any_touch (marks_item c.undos i) p))
      by_item i None e = refl
      by_item i (Some b) e = own_undos b i e

      by_block_of : (t : ℕ) → corrupt_after d c r t ≡ true → (z : Bool) → is_block_of t r ≡ z → cond (is_block_of t r) [] (undos_at x.undos t) ≡ []
      by_block_of t e true q = rw q refl
      by_block_of t e false q =
          let old : c.corrupt t ≡ true = sym (or-false (c.corrupt t)) ∙ (ap (λ z. c.corrupt t || z) (sym q) ∙ (dropped_corrupt t h ∙ e)) in
          rw q (f.gone t old)

  pub follows_kept : (y : Taint) → leaves_out d c r ≡ false → Keeps x y r → FollowsScan s y d (known_next k r) (scan_step d c r)
  follows_kept y h g = record {
    orderly = orderly_next s n d k c r f.orderly ok inside;
    clean = g.steady.clean ∙ f.clean;
    failing = λ q. ap (λ z. has_number z q) g.steady.failing ∙ f.failing q;
    regions = g.steady.regions ∙ f.regions;
    words = λ q. ap (λ ws. word_set ws q) g.words ∙ (f.words q ∙ ap (λ b. words_after b c.words (touch_of r) q) (sym h));
    items = λ i. g.items i ∙ (f.items i ∙ (sym (or-false (c.items i)) ∙ ap (λ b. items_after b c (touch_of r) i) (sym h)));
    corrupt = λ t. ap (λ z. has_number z t) g.corrupt ∙ (f.corrupt t ∙ sym (kept_clear t h));
    undos = λ t w e.
        let p = old_undos t w e in
        g.undos t ∙ (ap (λ b. cond b [] (undo_step t (undos_at x.undos t) r)) p.1 ∙ (ap (λ us. undo_step t us r) p.0 ∙ sym (ap (λ b. cond b (c.undos t) (undo_step t (c.undos t) r)) e)));
    gone = λ t e.
        let old : c.corrupt t ≡ true = sym (kept_clear t h) ∙ e in
        g.undos t ∙ by_end (is_end_of t r) (undo_step t (undos_at x.undos t) r) (other_step r t (undos_at x.undos t) (not_own t old) ∙ f.gone t old);
    new = λ t low.
        let a = apart s n d k c r f.orderly ok inside t low in
        g.undos t ∙ by_end (is_end_of t r) (undo_step t (undos_at x.undos t) r) (other_step r t (undos_at x.undos t) a.block ∙ f.new t a.above);
    deleted = λ t. ap (λ z. has_number z t) g.deleted ∙ (f.deleted t ∙ deleted_still t h);
  }
    where
      by_end : (b : Bool) (us : List Pending) → us ≡ [] → cond b [] us ≡ []
      by_end true us e = refl
      by_end false us e = e

      not_own : (t : ℕ) → c.corrupt t ≡ true → is_block_of t r ≡ false
      not_own t e = false_from_ne_true (is_block_of t r) own
        where
          own : is_block_of t r ≡ true → ⊥
          own q =
              let w = touch_true (λ b. b.txn == t) (touch_of r) q in
              both_ways (c.corrupt t) (own_corrupt t h ((may_touch s n k r w.0 ok w.1).txn ∙ ap Some (eqb-true w.0.txn t w.2))) e

pub judged_drop : (x y : Taint) (n : ℕ) (r : Record) → is_left_out x n r ≡ true → Drops x y r → JudgedIn x n r Drop y
judged_drop x y n r left g s m d k f number may inside =
    let ok : allows s m k r ≡ true = (and_parts (allows s m k r) (not k.failed || is_restarted r) may).0 in
    let out : leaves_out d (scanned d k) r ≡ true = sym (left_is s m d k (scanned d k) r x f ok inside) ∙ subst (λ z. is_left_out x z r ≡ true) number left in
    (rw out refl, subst (λ c. FollowsScan s y d (known_next k r) c) (sym (scanned_next d k r inside)) (follows_left s m d k (scanned d k) r x f ok inside y out g))

pub judged_keep : (x y : Taint) (n : ℕ) (r : Record) → is_left_out x n r ≡ false → Keeps x y r → JudgedIn x n r Keep y
judged_keep x y n r left g s m d k f number may inside =
    let ok : allows s m k r ≡ true = (and_parts (allows s m k r) (not k.failed || is_restarted r) may).0 in
    let out : leaves_out d (scanned d k) r ≡ false = sym (left_is s m d k (scanned d k) r x f ok inside) ∙ subst (λ z. is_left_out x z r ≡ false) number left in
    (rw out refl, subst (λ c. FollowsScan s y d (known_next k r) c) (sym (scanned_next d k r inside)) (follows_kept s m d k (scanned d k) r x f ok inside y out g))
