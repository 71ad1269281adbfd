-- A redo goes on to follow the scan.
use Rattle.std.proofs.Common.{◌≡◌, ℕ, ◌≤◌, Bool, true, false, cond, List, [], Option, Some, None, refl, ap, sym, subst, ◌∙◌, ⊎_elim}
use Rattle.std.specs.Prelude.{not, ◌&&◌, ◌||◌, ◌==◌}
use Rattle.std.proofs.lemmas.Bool.{and_parts, both_ways, or_parts, false_from_ne_true, eqb-true}
use Rattle.std.proofs.lemmas.List.Sums.{fold_push}
use mathlib.Core.Bool.{or-false}
use Rattle.dali_geometry.specs.Sizes.{Sizes}
use Rattle.dali_att.specs.Table.{undos_at}
use Rattle.dali_record.specs.declared.records.Record.{Record}
use Rattle.dali_record.specs.Damage.{Damage, any_touch, any_txn}
use Rattle.dali_record.specs.Epochs.{separates}
use Rattle.dali_record.specs.Files.{is_restarted}
use Rattle.dali_record.specs.Log.{Touch, touch_of, txn_of, undo_step}
use Rattle.dali_record.specs.Settled.{redo, redo_all}
use Rattle.dali_record.proofs.Batches.{not_restarted}
use Rattle.dali_resume.specs.Laws.{undos_in}
use Rattle.dali_resume.specs.Resumed.{Scan, scan_step, is_marked, corrupt_after, is_left_out, kept_after}
use Rattle.dali_resume.specs.Tests.{Known, allows, is_running, known_next}
use Rattle.dali_redo.specs.Taint.Tables.{is_commit_of}
use Rattle.dali_redo.specs.Taint.Following.{scanned, is_begun, is_committed}
use Rattle.dali_redo.proofs.TaintLemmas.Steps.{may_touch, is_begun_next, is_committed_next, scanned_next}
use Rattle.dali_redo.proofs.TaintLemmas.Orderly.{by_block, left_by, orderly_next}
use Rattle.dali_redo.specs.Redoing.{Redoing, status_at, is_left, performed, either, is_of}
use Rattle.dali_redo.specs.Steps.{Applies, Skips}
use Rattle.dali_redo.specs.Following.{FollowsScan}
use Rattle.dali_redo.specs.Laws.{AppliesOn, SkipsOn}
use Rattle.dali_redo.proofs.Settled.{settled_next, none_added, undos_next}

-- who wasn't skipped has what is at work performed
pub performed_plain : (x : Redoing) (t : ℕ) → is_left x t ≡ false → performed x t ≡ undos_in (status_at x.table t)
performed_plain x t h = ap (λ b. either b (undos_at x.left t) (undos_in (status_at x.table t))) h

module _ (s : Sizes) (n : ℕ) (base : List (List ℕ)) (d : Damage) (k : Known) (c : Scan) (r : Record) (x : Redoing) (f : FollowsScan base x d k c) (ok : allows s n k r ≡ true) (inside : separates r ≡ false) where
  -- of whom the record leaves out or keeps nothing stays as it is
  kept_clear : (t : ℕ) → is_left_out d c r ≡ false → corrupt_after d c r t ≡ c.corrupt t
  kept_clear t h = by_touch (touch_of r) refl
    where
      by_touch : (p : Option Touch) → touch_of r ≡ p → (c.corrupt t || any_touch (λ b. is_marked d c b && (b.txn == t)) p) ≡ c.corrupt t
      by_touch None e = or-false (c.corrupt t)
      by_touch (Some b) e =
          let clear : is_marked d c b ≡ false = false_from_ne_true (is_marked d c b) (λ m. both_ways (is_left_out d c r) h (left_by s n d k c r f.orderly ok inside b e m)) in
          rw clear (or-false (c.corrupt t))

  dropped_corrupt : (t : ℕ) → is_left_out d c r ≡ true → (c.corrupt t || is_of t r) ≡ corrupt_after d c r t
  dropped_corrupt t h = by_txn (txn_of r) refl
    where
      by_txn : (q : Option ℕ) → txn_of r ≡ q → (c.corrupt t || any_txn (λ u. u == t) q) ≡ corrupt_after d c r t
      by_txn None e =
          let no : any_txn (corrupt_after d c r) None ≡ true = subst (λ q. any_txn (corrupt_after d c r) q ≡ true) e h in
          absurd (both_ways false refl no)
      by_txn (Some u) e = by_test (u == t) refl
        where
          whole : corrupt_after d c r u ≡ true
          whole = subst (λ q. any_txn (corrupt_after d c r) q ≡ true) e h

          true_right : (a : Bool) → (a || true) ≡ true
          true_right true = refl
          true_right false = refl

          by_test : (b : Bool) → (u == t) ≡ b → (c.corrupt t || b) ≡ corrupt_after d c r t
          by_test true g = true_right (c.corrupt t) ∙ sym (subst (λ v. corrupt_after d c r v ≡ true) (eqb-true u t g) whole)
          by_test false g = ap (λ z. c.corrupt t || z) (sym (by_touch (touch_of r) refl))
            where
              none_and : (a : Bool) → (a && false) ≡ false
              none_and true = refl
              none_and false = refl

              by_touch : (p : Option Touch) → touch_of r ≡ p → any_touch (λ b. is_marked d c b && (b.txn == t)) p ≡ false
              by_touch None i = refl
              by_touch (Some b) i =
                  let same : u ≡ b.txn = some_same u b.txn (sym e ∙ (may_touch s n k r b ok i).txn) in
                  ap (λ z. is_marked d c b && z) (subst (λ v. (v == t) ≡ false) same g) ∙ none_and (is_marked d c b)
                where
                  some_same : (v w : ℕ) → Some v ≡ Some w → v ≡ w
                  some_same v w j = cc

  -- what is performed of whom the record makes corrupt
  held : (t : ℕ) → corrupt_after d c r t ≡ true → performed x t ≡ c.undos t
  held t h = by_old (c.corrupt t) refl
    where
      by_old : (b : Bool) → c.corrupt t ≡ b → performed x t ≡ c.undos t
      by_old true e = f.undos t e
      by_old false e = performed_plain x t (f.left t ∙ e) ∙ (ap undos_in (f.knows.statuses t) ∙ f.plain t e uncommitted)
        where
          b : (b : Touch) × (touch_of r ≡ Some b) × (is_marked d c b ≡ true) × (b.txn ≡ t)
          b = by_block d c r t e h

          uncommitted : is_committed k t ≡ false
          uncommitted = ⊎_elim
              (λ w. subst (λ u. is_committed k u ≡ false) b.3 (f.orderly.works b.0.txn w).1)
              (λ w. false_from_ne_true (is_committed k t) (λ g. both_ways (is_begun k t) (f.orderly.new t (subst (λ u. k.next ≤ u) b.3 w.0)).unbegun (f.orderly.begun t g)))
              (may_touch s n k r b.0 ok b.1).who

  -- lists of those that aren't corrupt, and of those that haven't begun
  plain_next : (t : ℕ) → corrupt_after d c r t ≡ false → is_committed (known_next k r) t ≡ false → undos_in ((known_next k r).statuses t) ≡ (scan_step d c r).undos t
  plain_next t h g =
      let clear : c.corrupt t ≡ false = (or_parts (c.corrupt t) _ h).0 in
      let parts = or_parts (is_committed k t) (is_commit_of t r) (sym (is_committed_next k r inside t) ∙ g) in
      undos_next s n k c r f.orderly f.settled ok inside t (c.undos t) (f.plain t clear parts.0) parts.1
      ∙ sym (ap (λ b. cond b (c.undos t) (undo_step t (c.undos t) r)) h)

  born_next : (t : ℕ) → is_begun (known_next k r) t ≡ false → (scan_step d c r).undos t ≡ []
  born_next t h = by_test (corrupt_after d c r t)
    where
      unbegun : is_begun k t ≡ false
      unbegun = (or_parts (is_begun k t) _ (sym (is_begun_next k r inside t) ∙ h)).0

      idle : is_running (k.statuses t) ≡ false
      idle = false_from_ne_true (is_running (k.statuses t)) (λ e. both_ways (is_begun k t) unbegun (f.orderly.works t e).0)

      by_test : (b : Bool) → cond b (c.undos t) (undo_step t (c.undos t) r) ≡ []
      by_test true = f.born t unbegun
      by_test false = ap (λ us. undo_step t us r) (f.born t unbegun) ∙ none_added s n k c r f.orderly f.settled ok inside t idle

  still_corrupt : (t : ℕ) → corrupt_after d c r t ≡ true → c.undos t ≡ (scan_step d c r).undos t
  still_corrupt t h = sym (ap (λ b. cond b (c.undos t) (undo_step t (c.undos t) r)) h)

  pub follows_applied : (y : Redoing) → is_left_out d c r ≡ false → Applies x y r → FollowsScan base y d (known_next k r) (scan_step d c r)
  follows_applied y out a = record {
    knows = a.knows k f.knows;
    orderly = orderly_next s n d k c r f.orderly ok inside;
    settled = settled_next s n k c r f.orderly f.settled ok inside;
    image = a.image ∙ (ap (λ im. redo im r) f.image ∙ (sym (fold_push redo base c.kept r) ∙ sym (ap (λ b. redo_all base (kept_after b c.kept r)) out)));
    left = λ t. left t ∙ (f.left t ∙ sym (kept_clear t out));
    undos = λ t h.
        let old : c.corrupt t ≡ true = sym (kept_clear t out) ∙ h in
        a.performed t (left t ∙ (f.left t ∙ old)) ∙ (f.undos t old ∙ still_corrupt t h);
    plain = plain_next;
    born = born_next;
  }
    where
      left : (t : ℕ) → is_left y t ≡ is_left x t
      left t = a.left t ∙ ap (λ b. not b && is_left x t) (not_restarted r inside)

  pub follows_skipped : (y : Redoing) → is_left_out d c r ≡ true → Skips x y r → FollowsScan base y d (known_next k r) (scan_step d c r)
  follows_skipped y out a = record {
    knows = a.knows k f.knows;
    orderly = orderly_next s n d k c r f.orderly ok inside;
    settled = settled_next s n k c r f.orderly f.settled ok inside;
    image = a.image ∙ (f.image ∙ sym (ap (λ b. redo_all base (kept_after b c.kept r)) out));
    left = λ t. a.left t ∙ (ap (λ b. not b && (is_left x t || is_of t r)) (not_restarted r inside) ∙ (ap (λ b. b || is_of t r) (f.left t) ∙ dropped_corrupt t out));
    undos = λ t h. a.performed (not_restarted r inside) t ∙ (held t h ∙ still_corrupt t h);
    plain = plain_next;
    born = born_next;
  }

pub applies_on : AppliesOn
applies_on s n base x y d k r f a may inside out =
    let ok : allows s n k r ≡ true = (and_parts (allows s n k r) (not k.failed || is_restarted r) may).0 in
    subst (λ c. FollowsScan base y d (known_next k r) c) (sym (scanned_next d k r inside)) (follows_applied s n base d k (scanned d k) r x f ok inside y out a)

pub skips_on : SkipsOn
skips_on s n base x y d k r f a may inside out =
    let ok : allows s n k r ≡ true = (and_parts (allows s n k r) (not k.failed || is_restarted r) may).0 in
    subst (λ c. FollowsScan base y d (known_next k r) c) (sym (scanned_next d k r inside)) (follows_skipped s n base d k (scanned d k) r x f ok inside y out a)
