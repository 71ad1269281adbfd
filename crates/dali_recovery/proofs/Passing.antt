-- Behind a record within an epoch.
use Rattle.std.proofs.Common.{◌≡◌, ℕ, ◌<◌, ◌≤◌, ◌+◌, true, false, cond, [], ◌∷◌, ◌++◌, Option, ap, sym, subst, ◌∙◌, arith, length}
use Rattle.std.specs.Prelude.{not, ◌&&◌, ◌||◌, ◌==◌, fold}
use Rattle.std.specs.BTreeSet as tree
use Rattle.std.specs.List.{list_any}
use Rattle.std.proofs.lemmas.Bool.{and_from}
use Rattle.std.proofs.lemmas.List.{length-append}
use Rattle.std.proofs.lemmas.List.Folds.{list_any-append}
use Rattle.std.proofs.lemmas.List.Sums.{fold_push}
use mathlib.Core.Bool.{and-false, or-false}
use Rattle.dali_lists.proofs.Lists.{push-not_nil}
use Rattle.dali_geometry.specs.Sizes.{Sizes}
use Rattle.dali_record.specs.declared.records.Record.{Record}
use Rattle.dali_record.specs.Damage.{has}
use Rattle.dali_record.specs.Epochs.{clean_step, failing_step, separates}
use Rattle.dali_record.specs.Files.{is_restarted}
use Rattle.dali_record.proofs.Batches.{not_restarted}
use Rattle.dali_resume.specs.Laws.{is_audit_fail}
use Rattle.dali_resume.specs.Onward.{Going, closed_image, going_next}
use Rattle.dali_resume.specs.Tests.{Known, allows, audits_behind, failed_behind, known_next, may_follow, next_behind}
use Rattle.dali_resume.proofs.Followed.{failed_is}
use Rattle.dali_resume.proofs.Reached.{lists_stay}
use Rattle.dali_redo.specs.Taint.Following.{Begins as BeginsTables}
use Rattle.dali_redo.specs.Taint.Tables.{has_number}
use Rattle.dali_redo.specs.Following.{Redoes}
use Rattle.dali_redo.specs.Redoing.{Redoing}
use Rattle.dali_recovery.specs.Standing.{FollowsBy, Stands, StandsOn, assumed_by, passed, undamaged}
use Rattle.dali_recovery.specs.declared.scan.Scan.{Scan}
use Rattle.dali_recovery.specs.declared.recovery.Recovery.{Recovery}

-- ---- whether a record may follow
pub may_sound : (s : Sizes) (n : ℕ) (k : Known) (r : Record) → k.failed ≡ false → allows s n k r ≡ true → may_follow s n k r ≡ true
may_sound s n k r sound ok = and_from (allows s n k r) (not k.failed || is_restarted r) ok (ap (λ b. not b || is_restarted r) sound)

pub may_not : (s : Sizes) (n : ℕ) (k : Known) (r : Record) → allows s n k r ≡ false → may_follow s n k r ≡ false
may_not s n k r bad = ap (λ b. b && (not k.failed || is_restarted r)) bad

pub may_not_failed : (s : Sizes) (n : ℕ) (k : Known) (r : Record) → k.failed ≡ true → is_restarted r ≡ false → may_follow s n k r ≡ false
may_not_failed s n k r failed e = ap (λ b. allows s n k r && (not b || is_restarted r)) failed ∙ (ap (λ b. allows s n k r && b) e ∙ and-false (allows s n k r))

-- ---- what stays

-- all but the numbers, as they stand behind the record
pub record IsNearly (s : Sizes) (n : ℕ) (w : Recovery) (c : Going) (r : Record) : Type 0 where
  pub geometry : w.geometry ≡ s
  pub sizes : w.redo.sizes ≡ s
  pub image : w.image ≡ n
  pub positive : 0 < n
  pub behind : n ≤ c.known.number
  pub counted : c.known.number ≡ c.known.first + length c.known.seen
  pub redoes : Redoes c.image w.redo (assumed_by w.scan c.known.first) (known_next c.known r)
  pub follows : FollowsBy s w.scan c.known.first (known_next c.known r)
  pub first : w.first ≡ c.known.first
  pub clean : w.clean ≡ clean_step (fold clean_step c.known.first c.known.seen) r
  pub failing : w.failing.items ≡ failing_step (fold failing_step [] c.known.seen) r
  pub number : w.number ≡ c.known.number
  pub next : w.next ≡ c.known.next
  pub audits : (b : ℕ) → has_number w.audits b ≡ has (audits_behind c.known.number c.known.audits r) b
  pub failed : w.failed ≡ failed_behind c.known.failed r
  pub fails : list_any is_audit_fail c.known.seen ≡ c.known.failed
  pub rolled : w.rolled_back.items ≡ c.rolled
  pub deleted : w.deleted.items ≡ c.deleted

pub passes_on : (s : Sizes) (n : ℕ) (w : Recovery) (c : Going) (r : Record) → separates r ≡ false → IsNearly s n w c r → Stands s n (passed w r) (going_next s n c r)
passes_on s n w c r inside f = record {
  geometry = f.geometry;
  sizes = f.sizes;
  image = f.image;
  positive = f.positive;
  behind = omega (arith, f.behind);
  fresh = λ e. absurd (omega (arith, e, f.behind));
  counted = omega (arith, f.counted, first_is, ap length seen_is, length-append c.known.seen (r ∷ []));
  redoes = subst (λ im. Redoes im w.redo (assumed_by w.scan (known_next c.known r).first) (known_next c.known r)) (sym image_is) (subst (λ p. Redoes c.image w.redo (assumed_by w.scan p) (known_next c.known r)) (sym first_is) f.redoes);
  follows = subst (λ p. FollowsBy s w.scan p (known_next c.known r)) (sym first_is) f.follows;
  begins = λ e. absurd (push-not_nil c.known.seen r (sym seen_is ∙ e));
  first = f.first ∙ sym first_is;
  clean = f.clean ∙ (sym (fold_push clean_step c.known.first c.known.seen r) ∙ (ap (λ p. fold clean_step p (c.known.seen ++ r ∷ [])) (sym first_is) ∙ ap (fold clean_step (known_next c.known r).first) (sym seen_is)));
  failing = f.failing ∙ (sym (fold_push failing_step [] c.known.seen r) ∙ ap (fold failing_step []) (sym seen_is));
  number = ap (λ m. m + 1) f.number;
  next = ap (λ m. next_behind m r) f.next;
  audits = f.audits;
  failed = f.failed;
  fails =
      ap (list_any is_audit_fail) seen_is
      ∙ (list_any-append is_audit_fail c.known.seen (r ∷ [])
      ∙ (ap (λ z. list_any is_audit_fail c.known.seen || z) (or-false (is_audit_fail r))
      ∙ (ap (λ z. z || is_audit_fail r) f.fails ∙ sym (failed_is c.known.failed r inside))));
  restarted = sym (not_restarted r inside);
  rolled = f.rolled ∙ sym (lists_stay c.rolled c.deleted r inside).0;
  deleted = f.deleted ∙ sym (lists_stay c.rolled c.deleted r inside).1;
}
  where
    image_is : (going_next s n c r).image ≡ c.image
    image_is = ap (λ b. cond (b && not (c.known.number == n)) (closed_image s c) c.image) (not_restarted r inside)

    first_is : (known_next c.known r).first ≡ c.known.first
    first_is = ap (λ b. cond b (c.known.number + 1) c.known.first) inside

    seen_is : (known_next c.known r).seen ≡ c.known.seen ++ r ∷ []
    seen_is = ap (λ b. cond b [] (c.known.seen ++ r ∷ [])) inside

-- ---- what an error leaves
-- it stands there with another redo, scan and audits, of which as much holds
pub stands_with : (s : Sizes) (n : ℕ) (x : Recovery) (c : Going) (o : Option Scan) (z : Redoing) (a : tree.BTreeSet ℕ) → Stands s n x c → z.sizes ≡ s → Redoes c.image z (assumed_by o c.known.first) c.known → FollowsBy s o c.known.first c.known
    → (c.known.seen ≡ [] → BeginsTables (undamaged c.known.first) c.known z.table) → ((b : ℕ) → has_number a b ≡ has c.known.audits b) → Stands s n (record x { scan = o; redo = z; audits = a }) c
stands_with s n x c o z a st sizes redoes follows begins audits = record {
  geometry = st.geometry;
  sizes = sizes;
  image = st.image;
  positive = st.positive;
  behind = st.behind;
  fresh = st.fresh;
  counted = st.counted;
  redoes = redoes;
  follows = follows;
  begins = begins;
  first = st.first;
  clean = st.clean;
  failing = st.failing;
  number = st.number;
  next = st.next;
  audits = audits;
  failed = st.failed;
  fails = st.fails;
  restarted = st.restarted;
  rolled = st.rolled;
  deleted = st.deleted;
}

pub same_redo : (x : Recovery) (z : Redoing) → z ≡ x.redo → StandsOn x (record x { redo = z })
same_redo x z e s n c st =
    stands_with s n x c x.scan z x.audits st (ap (λ (v : Redoing). v.sizes) e ∙ st.sizes) (subst (λ v. Redoes c.image v (assumed_by x.scan c.known.first) c.known) (sym e) st.redoes) st.follows
    (λ h. subst (λ (v : Redoing). BeginsTables (undamaged c.known.first) c.known v.table) (sym e) (st.begins h)) st.audits
