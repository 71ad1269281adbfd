-- Records that end no epoch.
use Rattle.std.proofs.Common.{◌≡◌, ℕ, ◌<◌, ◌≤◌, ◌+◌, ◌^◌, Bool, true, false, List, [], Option, Some, None, Vec, Global, refl, ap, sym, subst, ◌∙◌, arith}
use Rattle.std.specs.Prelude.{not, ◌&&◌, ◌||◌, ◌==◌, nat_lt, nat_le, max, fold, Ok, Err}
use Rattle.std.specs.BTreeSet as tree
use Rattle.std.specs.List.{list_all}
use Rattle.std.proofs.lemmas.Bool.{and_parts, ltb-true, ne_eqb}
use Rattle.dali_geometry.specs.Sizes.{Sizes}
use Rattle.dali_geometry.specs.Places as places
use Rattle.dali_record.specs.declared.records.Record.{Record}
use Rattle.dali_record.specs.declared.records.Record.TheVariants.{Format, Begin, Solo, AuditBegin, AuditClean, AuditFail, Restarted}
use Rattle.dali_record.specs.Damage.{Damage, has}
use Rattle.dali_record.specs.Epochs.{clean_step, failing_step, separates}
use Rattle.dali_record.specs.Files.{is_restarted}
use Rattle.dali_record.specs.Settled.{redo}
use Rattle.dali_resume.specs.Onward.{Going, going_next}
use Rattle.dali_record.specs.Legal.{on_kind}
use Rattle.dali_resume.specs.Resumed.{Scan as Scanned, is_left_out}
use Rattle.dali_resume.specs.Tests.{Known, allows, audits_behind, draws_number, ends_audit, failed_behind, is_waiting, known_next, may_follow, next_behind}
use Rattle.dali_redo.specs.Taint.Following.{scanned}
use Rattle.dali_redo.specs.Taint.Tables.{Keeps, has_number, is_left_out as leaves_out}
use Rattle.dali_redo.specs.declared.taint.taint.Taint.{Taint}
use Rattle.dali_redo.proofs.TaintLemmas.Tells.{judged_keep}
use Rattle.dali_redo.specs.Following.{Redoes}
use Rattle.dali_redo.specs.Redoing.{Redoing, is_left, is_of, is_tested}
use Rattle.dali_redo.specs.Steps.{Applies}
use Rattle.dali_redo.proofs.Follows.{applies_on}
use Rattle.dali_redo.proofs.Statuses.{still}
use Rattle.dali_recovery.specs.Standing.{EndsScanned, Fails, Follows, FollowsBy, IsAt, IsMade, Makes, Refuses, SameDamage, Stands, StandsOn, Takes, assumed_by, passed}
use Rattle.dali_recovery.specs.declared.error.RecoveryError.{RecoveryError}
use Rattle.dali_recovery.specs.declared.error.RecoveryError.TheVariants.{Misfit, Unscanned, OutOfMemory}
use Rattle.dali_recovery.specs.declared.scan.Scan.{Scan}
use Rattle.dali_recovery.specs.declared.recovery.Recovery.{Recovery}
use Rattle.dali_recovery.proofs.Passing.{IsNearly, may_not, may_not_failed, may_sound, passes_on, same_redo, stands_with}

-- ---- records of a transaction
pub record IsQuiet (r : Record) : Type 0 where
  pub inside : separates r ≡ false
  pub audits : (m : ℕ) (bs : List ℕ) → audits_behind m bs r ≡ bs
  pub failed : (f : Bool) → failed_behind f r ≡ f
  pub clean : (m : ℕ) → clean_step m r ≡ m
  pub failing : (rs : List ℕ) → failing_step rs r ≡ rs

pub is_quiet : (r : Record) → is_tested r ≡ true → IsQuiet r
is_quiet (Format i j) w = absurd (cc)
is_quiet AuditBegin w = absurd (cc)
is_quiet (AuditClean b) w = absurd (cc)
is_quiet (AuditFail b rs) w = absurd (cc)
is_quiet (Restarted rs ds) w = absurd (cc)
is_quiet _ w = record { inside = refl; audits = λ m bs. refl; failed = λ f. refl; clean = λ m. refl; failing = λ rs. refl }

pub misfit_failed : (x : Recovery) (r : Record) → x.failed ≡ true → is_restarted r ≡ false → Follows false x r
misfit_failed x r failed e s n c st = may_not_failed s n c.known r (sym st.failed ∙ failed) e

-- a number that was drawn has one behind it
pub number_low : (s : Sizes) (n : ℕ) (k : Known) (r : Record) → allows s n k r ≡ true → next_behind 0 r ≤ 2 ^ 40
number_low s n k (Begin t) h = let low = ltb-true t (2 ^ 40) (and_parts (nat_lt t (2 ^ 40)) (nat_le k.next t) h).0 in omega (arith, low)
number_low s n k (Solo t p b) h = let low = ltb-true t (2 ^ 40) (and_parts (nat_lt t (2 ^ 40)) (nat_le k.next t) (and_parts (draws_number k t) (is_waiting (k.statuses p) && on_kind s b.region b.op) h).0).0 in omega (arith, low)
number_low s n k _ h = omega arith

-- a record within an epoch is no restart's
never : {A : Type 0} (r : Record) → separates r ≡ false → is_restarted r ≡ true → A
never (Begin t) f e = absurd (cc)
never _ f e = absurd (cc)

pub scanned_within : (x : Recovery) (r q : Record) → r ≡ q → separates q ≡ false → EndsScanned x r
scanned_within x r q e f h = never q f (sym (ap is_restarted e) ∙ h)

is_at : (s : Sizes) (n : ℕ) (x : Recovery) (c : Going) → Stands s n x c → x.failed ≡ false → IsAt s x.redo x.scan x.number c.image c.known.first c.known
is_at s n x c st sound = record { sizes = st.sizes; redoes = st.redoes; follows = st.follows; number = st.number; sound = sym st.failed ∙ sound }

pub takes_again : (x y : Recovery) (z : Redoing) (q : Option Scan) (r : Record) → is_tested r ≡ true → x.failed ≡ false → Makes x.redo x.scan x.number r z q
    → (next_behind 0 r ≤ 2 ^ 40 → x.number + 1 < 2 ^ 64 → y ≡ passed (record x { redo = z; scan = q }) r) → Takes x y r
takes_again x y z q r tested sound makes is s n c st room =
    (made.0, subst (λ v. Stands s n v (going_next s n c r)) (sym (is low below)) (passes_on s n (record x { redo = z; scan = q }) c r quiet.inside nearly), λ e. subst (λ (v : Recovery). SameDamage x.scan v.scan) (sym (is low below)) made.2, λ e. never r quiet.inside e)
  where
    quiet : IsQuiet r
    quiet = is_quiet r tested

    made : (may_follow s n c.known r ≡ true) × IsMade s z q c.image c.known.first (known_next c.known r) × SameDamage x.scan q
    made = makes s n c.image c.known.first c.known (is_at s n x c st sound)

    low : next_behind 0 r ≤ 2 ^ 40
    low = number_low s n c.known r (and_parts (allows s n c.known r) (not c.known.failed || is_restarted r) made.0).0

    below : x.number + 1 < 2 ^ 64
    below = subst (λ m. m + 1 < 2 ^ 64) (sym st.number) room

    nearly : IsNearly s n (record x { redo = z; scan = q }) c r
    nearly = record {
      geometry = st.geometry;
      sizes = made.1.sizes;
      image = st.image;
      positive = st.positive;
      behind = st.behind;
      counted = st.counted;
      redoes = made.1.redoes;
      follows = made.1.follows;
      first = st.first;
      clean = st.clean ∙ sym (quiet.clean (fold clean_step c.known.first c.known.seen));
      failing = st.failing ∙ sym (quiet.failing (fold failing_step [] c.known.seen));
      number = st.number;
      next = st.next;
      audits = λ b. st.audits b ∙ sym (ap (λ bs. has bs b) (quiet.audits c.known.number c.known.audits));
      failed = st.failed ∙ sym (quiet.failed c.known.failed);
      fails = st.fails;
      rolled = st.rolled;
      deleted = st.deleted;
    }

-- what is refused leaves all as it was
same_parts : (x : Recovery) (z : Redoing) (q : Option Scan) → z ≡ x.redo → q ≡ x.scan → StandsOn x (record x { redo = z; scan = q })
same_parts x z q e f = subst (λ o. StandsOn x (record x { redo = z; scan = o })) (sym f) (same_redo x z e)

pub refuses_again : (x : Recovery) (z : Redoing) (q : Option Scan) (r : Record) (e : RecoveryError) → x.failed ≡ false
    → Refuses x.redo x.scan x.number r e z q → Fails x (record x { redo = z; scan = q }) r e
refuses_again x z q r Misfit sound f = (λ s n c st. f.0 s n c.image c.known.first c.known (is_at s n x c st sound), same_parts x z q f.1 f.2)
refuses_again x z q r Unscanned sound f = absurd f
refuses_again x z q r OutOfMemory sound f = (
  λ e s n c st. f.0 s n c.image c.known.first c.known (is_at s n x c st sound),
  λ none. let w = f.1 none in same_parts x z q w.0 (w.1 ∙ sym none),
)

-- ---- audits
-- the redo stays where it is
stays : (z : Redoing) (r : Record) → is_restarted r ≡ false → ((t : ℕ) → is_of t r ≡ false) → ((m : ℕ) → next_behind m r ≡ m) → ((im : List (List ℕ)) → redo im r ≡ im) → Applies z z r
stays z r a b e f = record {
  sizes = refl;
  image = sym (f z.image);
  knows = λ k w. record { next = w.next ∙ sym (e k.next); statuses = λ t. w.statuses t ∙ sym (still t (k.statuses t) r a (b t)) };
  left = λ t. sym (ap (λ q. not q && is_left z t) a);
  performed = λ t h. refl;
}

or_swap : (a b : Bool) → (a || b) ≡ (b || a)
or_swap true true = refl
or_swap true false = refl
or_swap false true = refl
or_swap false false = refl

-- an audit's record leaves a scan as it is
keeps_audit : (s : Sizes) (n : ℕ) (o : Option Scan) (p : ℕ) (k : Known) (r : Record) → may_follow s n k r ≡ true → separates r ≡ false
    → ((x : Taint) → Keeps x x r) → ((x : Taint) (m : ℕ) → leaves_out x m r ≡ false) → FollowsBy s o p k → FollowsBy s o p (known_next k r)
keeps_audit s n None p k r may inside keeps stays f = tt
keeps_audit s n (Some z) p k r may inside keeps stays f = (judged_keep z.taint z.taint k.number r (stays z.taint k.number) (keeps z.taint) s n (assumed_by (Some z) p) k f refl may inside).1

pub record IsAudit (r : Record) : Type 0 where
  pub inside : separates r ≡ false
  pub applies : (z : Redoing) → Applies z z r
  pub keeps : (x : Taint) → Keeps x x r
  pub stays : (x : Taint) (m : ℕ) → leaves_out x m r ≡ false
  pub kept : (d : Damage) (c : Scanned) → is_left_out d c r ≡ false

audit_begin : IsAudit AuditBegin
audit_begin = record { inside = refl; applies = λ z. stays z AuditBegin refl (λ t. refl) (λ m. refl) (λ im. refl); keeps = λ x. record { steady = record { clean = refl; failing = refl; regions = refl }; words = refl; items = λ k. refl; corrupt = refl; undos = λ t. refl; deleted = refl }; stays = λ x m. refl; kept = λ d c. refl }

audit_clean : (b : ℕ) → IsAudit (AuditClean b)
audit_clean b = record { inside = refl; applies = λ z. stays z (AuditClean b) refl (λ t. refl) (λ m. refl) (λ im. refl); keeps = λ x. record { steady = record { clean = refl; failing = refl; regions = refl }; words = refl; items = λ k. refl; corrupt = refl; undos = λ t. refl; deleted = refl }; stays = λ x m. refl; kept = λ d c. refl }

audit_fail : (b : ℕ) (rs : List ℕ) → IsAudit (AuditFail b rs)
audit_fail b rs = record { inside = refl; applies = λ z. stays z (AuditFail b rs) refl (λ t. refl) (λ m. refl) (λ im. refl); keeps = λ x. record { steady = record { clean = refl; failing = refl; regions = refl }; words = refl; items = λ k. refl; corrupt = refl; undos = λ t. refl; deleted = refl }; stays = λ x m. refl; kept = λ d c. refl }

-- what stands behind an audit's record, where all else stays
module _ (s : Sizes) (n : ℕ) (x w y : Recovery) (c : Going) (r : Record) (st : Stands s n x c) (audit : IsAudit r) (may : may_follow s n c.known r ≡ true) where
  audited : w.geometry ≡ x.geometry → w.redo ≡ x.redo → w.scan ≡ x.scan → w.image ≡ x.image → w.first ≡ x.first → w.number ≡ x.number → w.next ≡ x.next
      → w.clean ≡ clean_step x.clean r → w.failing.items ≡ failing_step x.failing.items r
      → ((b : ℕ) → has_number w.audits b ≡ has (audits_behind c.known.number c.known.audits r) b) → w.failed ≡ failed_behind c.known.failed r
      → w.rolled_back ≡ x.rolled_back → w.deleted ≡ x.deleted → y ≡ passed w r → Stands s n y (going_next s n c r)
  audited geometry redo scan image first number next clean failing audits failed rolled deleted is = subst (λ v. Stands s n v (going_next s n c r)) (sym is) (passes_on s n w c r audit.inside (record {
    geometry = geometry ∙ st.geometry;
    sizes = ap (λ (v : Redoing). v.sizes) redo ∙ st.sizes;
    image = image ∙ st.image;
    positive = st.positive;
    behind = st.behind;
    counted = st.counted;
    redoes = subst (λ o. Redoes c.image w.redo (assumed_by o c.known.first) (known_next c.known r)) (sym scan) (subst (λ v. Redoes c.image v (assumed_by x.scan c.known.first) (known_next c.known r)) (sym redo) follows_on);
    follows = subst (λ o. FollowsBy s o c.known.first (known_next c.known r)) (sym scan) (keeps_audit s n x.scan c.known.first c.known r may audit.inside audit.keeps audit.stays st.follows);
    first = first ∙ st.first;
    clean = clean ∙ ap (λ m. clean_step m r) st.clean;
    failing = failing ∙ ap (λ rs. failing_step rs r) st.failing;
    number = number ∙ st.number;
    next = next ∙ st.next;
    audits = audits;
    failed = failed;
    fails = st.fails;
    rolled = ap (λ v. v.items) rolled ∙ st.rolled;
    deleted = ap (λ v. v.items) deleted ∙ st.deleted;
  }))
    where
      follows_on : Redoes c.image x.redo (assumed_by x.scan c.known.first) (known_next c.known r)
      follows_on = applies_on s n c.image x.redo x.redo (assumed_by x.scan c.known.first) c.known r st.redoes (audit.applies x.redo) may audit.inside (audit.kept (assumed_by x.scan c.known.first) (scanned (assumed_by x.scan c.known.first) c.known))

same_self : (o : Option Scan) → SameDamage o o
same_self None = refl
same_self (Some z) = (refl, refl)

kept : (x y w : Recovery) (r : Record) → y ≡ passed w r → w.scan ≡ x.scan → is_restarted r ≡ false → SameDamage x.scan y.scan
kept x y w r is e q = subst (SameDamage x.scan) (sym (ap (λ (v : Recovery). v.scan) is ∙ e)) (same_self x.scan)

pub takes_begin : (x y : Recovery) (a : tree.BTreeSet ℕ) → x.failed ≡ false → ((b : ℕ) → has_number a b ≡ (has_number x.audits b || (x.number == b)))
    → (next_behind 0 AuditBegin ≤ 2 ^ 40 → x.number + 1 < 2 ^ 64 → y ≡ passed (record x { audits = a }) AuditBegin) → Takes x y AuditBegin
takes_begin x y a sound more is s n c st room =
    let may = may_sound s n c.known AuditBegin (sym st.failed ∙ sound) refl in
    let below = subst (λ m. m + 1 < 2 ^ 64) (sym st.number) room in (
      may,
      audited s n x (record x { audits = a }) y c AuditBegin st audit_begin may refl refl refl refl refl refl refl refl refl
          (λ b. more b ∙ (or_swap (has_number x.audits b) (x.number == b) ∙ (ap (λ z. (x.number == b) || z) (st.audits b) ∙ ap (λ m. (m == b) || has c.known.audits b) st.number)))
          st.failed refl refl (is (omega arith) below),
      kept x y (record x { audits = a }) AuditBegin (is (omega arith) below) refl,
      λ e. absurd (cc),
    )

pub wants_begin : (x : Recovery) (a : tree.BTreeSet ℕ) → x.failed ≡ false → ((b : ℕ) → has_number a b ≡ has_number x.audits b) → Fails x (record x { audits = a }) AuditBegin OutOfMemory
wants_begin x a sound same = (
  λ e s n c st. may_sound s n c.known AuditBegin (sym st.failed ∙ sound) refl,
  λ none s n c st. stands_with s n x c x.scan x.redo a st st.sizes st.redoes st.follows st.begins (λ b. same b ∙ st.audits b),
)

-- whether an audit with this begin may end
ends_is : (s : Sizes) (n : ℕ) (x : Recovery) (c : Going) (b : ℕ) → Stands s n x c → (has_number x.audits b || nat_lt b x.image) ≡ ends_audit n c.known b
ends_is s n x c b st = ap (λ z. z || nat_lt b x.image) (st.audits b) ∙ ap (λ m. has c.known.audits b || nat_lt b m) st.image

pub takes_clean : (x y : Recovery) (b m : ℕ) → m ≡ max x.clean b → x.failed ≡ false → (has_number x.audits b || nat_lt b x.image) ≡ true
    → (next_behind 0 (AuditClean b) ≤ 2 ^ 40 → x.number + 1 < 2 ^ 64 → y ≡ passed x (AuditClean b)) → Takes x (record y { clean = m }) (AuditClean b)
takes_clean x y b m later sound ends is s n c st room =
    let may = may_sound s n c.known (AuditClean b) (sym st.failed ∙ sound) (sym (ends_is s n x c b st) ∙ ends) in
    let below = subst (λ m. m + 1 < 2 ^ 64) (sym st.number) room in (
      may,
      audited s n x (record x { clean = m }) (record y { clean = m }) c (AuditClean b) st (audit_clean b) may refl refl refl refl refl refl refl later refl st.audits st.failed refl refl
          (ap (λ (v : Recovery). record v { clean = m }) (is (omega arith) below)),
      kept x y x (AuditClean b) (is (omega arith) below) refl,
      λ e. absurd (cc),
    )

pub misfit_clean : (x : Recovery) (b : ℕ) → (has_number x.audits b || nat_lt b x.image) ≡ false → Follows false x (AuditClean b)
misfit_clean x b ends s n c st = may_not s n c.known (AuditClean b) (sym (ends_is s n x c b st) ∙ ends)

module _ (x : Recovery) (b : ℕ) (rs : List ℕ) where
  abbrev are_there : Bool
  are_there = list_all (λ r. nat_lt r (places.regions x.geometry)) rs

  fail_rule : (s : Sizes) (n : ℕ) (c : Going) → Stands s n x c → allows s n c.known (AuditFail b rs) ≡ ((has_number x.audits b || nat_lt b x.image) && are_there)
  fail_rule s n c st =
      ap (λ z. z && list_all (λ r. nat_lt r (places.regions s)) rs) (sym (ends_is s n x c b st))
      ∙ ap (λ g. (has_number x.audits b || nat_lt b x.image) && list_all (λ r. nat_lt r (places.regions g)) rs) (sym st.geometry)

  pub takes_fail : (y : Recovery) (failing : Vec ℕ Global) → failing.items ≡ rs → x.failed ≡ false → (has_number x.audits b || nat_lt b x.image) ≡ true → are_there ≡ true
      → (next_behind 0 (AuditFail b rs) ≤ 2 ^ 40 → x.number + 1 < 2 ^ 64 → y ≡ passed x (AuditFail b rs)) → Takes x (record y { failing = failing; failed = true }) (AuditFail b rs)
  takes_fail y failing copied sound ends there is s n c st room =
      let ok : allows s n c.known (AuditFail b rs) ≡ true = fail_rule s n c st ∙ (ap (λ z. z && are_there) ends ∙ there) in
      let may = may_sound s n c.known (AuditFail b rs) (sym st.failed ∙ sound) ok in
      let below = subst (λ m. m + 1 < 2 ^ 64) (sym st.number) room in (
        may,
        audited s n x (record x { failing = failing; failed = true }) (record y { failing = failing; failed = true }) c (AuditFail b rs) st (audit_fail b rs) may refl refl refl refl refl refl refl refl copied st.audits refl refl refl
            (ap (λ (v : Recovery). record v { failing = failing; failed = true }) (is (omega arith) below)),
        kept x y x (AuditFail b rs) (is (omega arith) below) refl,
        λ e. absurd (cc),
      )

  pub wants_fail : x.failed ≡ false → (has_number x.audits b || nat_lt b x.image) ≡ true → are_there ≡ true → Fails x x (AuditFail b rs) OutOfMemory
  wants_fail sound ends there = (
    λ e s n c st. may_sound s n c.known (AuditFail b rs) (sym st.failed ∙ sound) (fail_rule s n c st ∙ (ap (λ z. z && are_there) ends ∙ there)),
    λ none s n c st. st,
  )

  pub misfit_fail_ends : (has_number x.audits b || nat_lt b x.image) ≡ false → Follows false x (AuditFail b rs)
  misfit_fail_ends ends s n c st = may_not s n c.known (AuditFail b rs) (fail_rule s n c st ∙ ap (λ z. z && are_there) ends)

  pub misfit_fail_regions : (has_number x.audits b || nat_lt b x.image) ≡ true → are_there ≡ false → Follows false x (AuditFail b rs)
  misfit_fail_regions ends there s n c st = may_not s n c.known (AuditFail b rs) (fail_rule s n c st ∙ (ap (λ z. z && are_there) ends ∙ there))

-- ---- Format
pub misfit_format : (x : Recovery) (i h : ℕ) → Follows false x (Format i h)
misfit_format x i h s n c st = may_not s n c.known (Format i h) (ne_eqb c.known.number 0 (λ e. absurd (omega (arith, e, st.positive, st.behind))))

-- ---- the record is one of these
pub passed_at : (w y : Recovery) (r q : Record) → r ≡ q → (next_behind 0 r ≤ 2 ^ 40 → w.number + 1 < 2 ^ 64 → y ≡ passed w r) → next_behind 0 q ≤ 2 ^ 40 → w.number + 1 < 2 ^ 64 → y ≡ passed w q
passed_at w y r q e h = subst (λ z. next_behind 0 z ≤ 2 ^ 40 → w.number + 1 < 2 ^ 64 → y ≡ passed w z) e h

pub takes_as : (x y : Recovery) (r q : Record) → r ≡ q → Takes x y q → Takes x y r
takes_as x y r q e t = subst (Takes x y) (sym e) t

pub no_error : {E : Type 0} (v : Unit {0}) (e : E) → Ok v ≡ Err e → ⊥
no_error v e h = cc
