-- What a redo comes to at the end of its epoch, and whom it names.
use Rattle.std.proofs.Common.{◌≡◌, ℕ, Bool, true, false, cond, List, [], ◌∷◌, ◌++◌, Some, None, refl, ap, sym, subst, ◌∙◌, append_assoc}
use Rattle.std.specs.Prelude.{not, ◌&&◌, ◌||◌, fold, filter}
use Rattle.std.specs.List.{list_any}
use Rattle.std.specs.FinMap as finite
use Rattle.std.proofs.lemmas.Bool.{and_parts, and_from, both_ways, or_parts, false_from_ne_true}
use Rattle.std.proofs.lemmas.List.{append-nil}
use Rattle.std.proofs.lemmas.List.Kept.{IsStrictlyIncreasing-filter}
use Rattle.std.proofs.lemmas.Option.{same_Some}
use Rattle.dali_lists.proofs.Tests.{same_tests}
use Rattle.dali_geometry.specs.Sizes.{Sizes}
use Rattle.dali_record.specs.declared.records.Record.{Record}
use Rattle.dali_record.specs.Damage.{Damage, has}
use Rattle.dali_record.specs.Epochs.{separates}
use Rattle.dali_record.specs.Settled.{redo_all}
use Rattle.dali_history.specs.Recovered.{roll_back, freed}
use Rattle.dali_history.proofs.Members.{fold_within, has-filter, has-filter_from}
use Rattle.dali_history.proofs.Rising.{up_from, up_filter, keys_up, has_keys, same_up}
use Rattle.dali_resume.specs.Laws.{undos_in}
use Rattle.dali_resume.specs.Resumed.{Scan, begun_by, committed_by, losers_by, rolled_by, recover_by, is_left_out}
use Rattle.dali_resume.specs.Tests.{Known, Status, Idle, Running, Waiting, is_running, known_next, may_follow, test_next, tests}
use Rattle.dali_resume.proofs.OnePass.{undamaged_is_plain, unfailed_is_plain}
use Rattle.dali_resume.proofs.Reached.{none_passes}
use Rattle.dali_redo.specs.Taint.Following.{scanned, is_begun, is_committed}
use Rattle.dali_redo.specs.Redoing.{Redoing, status_at, performed}
use Rattle.dali_redo.specs.Steps.{RollsBack}
use Rattle.dali_redo.specs.Following.{is_ended, FollowsScan, Redoes}
use Rattle.dali_redo.specs.Laws.{IsFirst, Recovers, TellsRolled, OnePassRecovers, Judges, RunsBy, AppliesAll, ComesTo, OnePassComesTo}
use Rattle.dali_redo.proofs.Statuses.{works_some}
use Rattle.dali_redo.proofs.Follows.{performed_plain, applies_on, skips_on}
use Rattle.dali_redo.proofs.Starts.{starts_redo}
use Rattle.dali_redo.proofs.OnePass.{one_pass_keeps}

idle_undos : (k : Known) (t : ℕ) → is_running (k.statuses t) ≡ false → undos_in (k.statuses t) ≡ []
idle_undos k t h = by_status (k.statuses t) h
  where
    by_status : (z : Status) → is_running z ≡ false → undos_in z ≡ []
    by_status Idle e = refl
    by_status (Running us) e = absurd (cc)
    by_status Waiting e = refl

module _ (base : List (List ℕ)) (x : Redoing) (d : Damage) (k : Known) (c : Scan) (f : FollowsScan base x d k c) where
  losers : List ℕ
  losers = losers_by k.table k.seen c

  unleft : (t : ℕ) → c.corrupt t ≡ false → performed x t ≡ undos_in (k.statuses t)
  unleft t h = performed_plain x t (f.left t ∙ h) ∙ ap undos_in (f.knows.statuses t)

  unbegun_none : (t : ℕ) → is_begun k t ≡ false → performed x t ≡ []
  unbegun_none t h = by_corrupt (c.corrupt t) refl
    where
      by_corrupt : (b : Bool) → c.corrupt t ≡ b → performed x t ≡ []
      by_corrupt true e = f.undos t e ∙ f.born t h
      by_corrupt false e = unleft t e ∙ idle_undos k t (false_from_ne_true (is_running (k.statuses t)) (λ g. both_ways (is_begun k t) h (f.orderly.works t g).0))

  committed_none : (t : ℕ) → c.corrupt t ≡ false → is_committed k t ≡ true → performed x t ≡ []
  committed_none t e h = unleft t e ∙ idle_undos k t (false_from_ne_true (is_running (k.statuses t)) (λ g. both_ways (is_committed k t) (f.orderly.works t g).1 h))

  covers : (t : ℕ) → has (losers_by k.table k.seen c) t ≡ false → performed x t ≡ []
  covers t h = by_begun (is_begun k t) refl
    where
      by_begun : (b : Bool) → is_begun k t ≡ b → performed x t ≡ []
      by_begun false e = unbegun_none t e
      by_begun true e = by_test (c.corrupt t || not (is_committed k t)) refl
        where
          by_test : (b : Bool) → (c.corrupt t || not (is_committed k t)) ≡ b → performed x t ≡ []
          by_test true g = absurd (both_ways (has (losers_by k.table k.seen c) t) h (has-filter_from (λ u. c.corrupt u || not (committed_by k.table k.seen u)) (begun_by k.table k.seen) t e g))
          by_test false g = let p = or_parts (c.corrupt t) (not (is_committed k t)) g in committed_none t p.0 (not_false (is_committed k t) p.1)
            where
              not_false : (a : Bool) → not a ≡ false → a ≡ true
              not_false true q = refl
              not_false false q = absurd (cc)

  loser_undos : (t : ℕ) → has (losers_by k.table k.seen c) t ≡ true → (im : List (List ℕ)) → roll_back im (performed x t) ≡ roll_back im (c.undos t)
  loser_undos t h im = ap (roll_back im) (by_corrupt (c.corrupt t) refl)
    where
      by_corrupt : (b : Bool) → c.corrupt t ≡ b → performed x t ≡ c.undos t
      by_corrupt true e = f.undos t e
      by_corrupt false e = unleft t e ∙ f.plain t e (by_committed (is_committed k t) refl)
        where
          mine : (c.corrupt t || not (is_committed k t)) ≡ true
          mine = (has-filter (λ u. c.corrupt u || not (committed_by k.table k.seen u)) (begun_by k.table k.seen) t h).1

          by_committed : (q : Bool) → is_committed k t ≡ q → q ≡ false
          by_committed false g = refl
          by_committed true g = let bad : (false || not true) ≡ true = subst (λ z. (z || not true) ≡ true) e (subst (λ z. (c.corrupt t || not z) ≡ true) g mine) in absurd (cc)

  rolls_losers : (y : Redoing) → RollsBack x y → y.image ≡ fold (λ im t. roll_back im (c.undos t)) (redo_all base c.kept) (losers_by k.table k.seen c)
  rolls_losers y r =
      r.image (losers_by k.table k.seen c) (IsStrictlyIncreasing-filter (λ t. c.corrupt t || not (committed_by k.table k.seen t)) (begun_by k.table k.seen) f.orderly.ascend) covers
      ∙ (fold_within (λ im t. roll_back im (performed x t)) (λ im t. roll_back im (c.undos t)) (losers_by k.table k.seen c) loser_undos x.image
      ∙ ap (λ im. fold (λ im t. roll_back im (c.undos t)) im (losers_by k.table k.seen c)) f.image)

  -- ---- whom it names
  runs_is : (t : ℕ) → is_running (k.statuses t) ≡ (is_begun k t && (not (is_committed k t) && not (is_ended k t)))
  runs_is t = same_tests (is_running (k.statuses t)) (is_begun k t && (not (is_committed k t) && not (is_ended k t))) up down
    where
      all : (a b e : Bool) → a ≡ true → b ≡ false → e ≡ false → (a && (not b && not e)) ≡ true
      all true false false p q r = refl
      all false b e p q r = absurd (cc)
      all true true e p q r = absurd (cc)
      all true false true p q r = absurd (cc)

      up : is_running (k.statuses t) ≡ true → (is_begun k t && (not (is_committed k t) && not (is_ended k t))) ≡ true
      up h = let w = f.orderly.works t h in all (is_begun k t) (is_committed k t) (is_ended k t) w.0 w.1 (f.settled.works t h)

      split : (a b e : Bool) → (a && (not b && not e)) ≡ true → (a ≡ true) × (b ≡ false) × (e ≡ false)
      split true false false p = (refl, refl, refl)
      split false b e p = absurd (cc)
      split true true e p = absurd (cc)
      split true false true p = absurd (cc)

      down : (is_begun k t && (not (is_committed k t) && not (is_ended k t))) ≡ true → is_running (k.statuses t) ≡ true
      down h = let w = split (is_begun k t) (is_committed k t) (is_ended k t) h in f.settled.runs t w.0 w.1 w.2

  named : filter (λ t. is_running (status_at x.table t)) (finite.keys x.table) ≡ rolled_by k.table k.seen
  named = same_up _ _ (up_filter (λ t. is_running (status_at x.table t)) (finite.keys x.table) (keys_up x.table)) (up_filter (λ t. not (committed_by k.table k.seen t) && not (is_ended k t)) (begun_by k.table k.seen) (up_from (begun_by k.table k.seen) f.orderly.ascend)) same
    where
      same : (t : ℕ) → has (filter (λ u. is_running (status_at x.table u)) (finite.keys x.table)) t ≡ has (rolled_by k.table k.seen) t
      same t = same_tests _ _ forth back
        where
          told : is_running (status_at x.table t) ≡ is_running (k.statuses t)
          told = ap is_running (f.knows.statuses t)

          forth : has (filter (λ u. is_running (status_at x.table u)) (finite.keys x.table)) t ≡ true → has (rolled_by k.table k.seen) t ≡ true
          forth h =
              let runs : is_running (status_at x.table t) ≡ true = (has-filter (λ u. is_running (status_at x.table u)) (finite.keys x.table) t h).1 in
              let p = and_parts (is_begun k t) (not (is_committed k t) && not (is_ended k t)) (sym (runs_is t) ∙ (sym told ∙ runs)) in
              has-filter_from (λ u. not (committed_by k.table k.seen u) && not (is_ended k u)) (begun_by k.table k.seen) t p.0 p.1

          back : has (rolled_by k.table k.seen) t ≡ true → has (filter (λ u. is_running (status_at x.table u)) (finite.keys x.table)) t ≡ true
          back h =
              let p = has-filter (λ u. not (committed_by k.table k.seen u) && not (is_ended k u)) (begun_by k.table k.seen) t h in
              let runs : is_running (status_at x.table t) ≡ true = told ∙ (runs_is t ∙ and_from (is_begun k t) (not (is_committed k t) && not (is_ended k t)) p.0 p.1) in
              has-filter_from (λ u. is_running (status_at x.table u)) (finite.keys x.table) t (has_keys x.table t ∙ works_some x.table t runs) runs

pub recovers : Recovers
recovers s base x y d k f r = ap (freed s) (rolls_losers base x d k (scanned d k) f y r)

pub tells_rolled : TellsRolled
tells_rolled base x d k f = named base x d k (scanned d k) f

pub one_pass_recovers : OnePassRecovers
one_pass_recovers s base x y d k sound f r h p =
    recovers s base x y d k f r ∙ ((undamaged_is_plain s base d k.table k.seen sound).0 ∙ sym (unfailed_is_plain s base p k.table k.seen h).0)

-- ---- an epoch's records

record IsThrough (base : List (List ℕ)) (y : Redoing) (d : Damage) (g k : Known) (R : List Record) : Type 0 where
  follows : Redoes base y d k
  table : k.table ≡ g.table
  seen : k.seen ≡ g.seen ++ R

judged : (s : Sizes) (n : ℕ) (base : List (List ℕ)) (x y : Redoing) (d : Damage) (g : Known) (r : Record) → Redoes base x d g → may_follow s n g r ≡ true → separates r ≡ false
    → (b : Bool) → is_left_out d (scanned d g) r ≡ b → Judges b x y r → Redoes base y d (known_next g r)
judged s n base x y d g r f may inside true e j = skips_on s n base x y d g r f j may inside e
judged s n base x y d g r f may inside false e j = applies_on s n base x y d g r f j may inside e

through : (s : Sizes) (n : ℕ) (base : List (List ℕ)) (d : Damage) (R : List Record) (g k : Known) (x y : Redoing) → Redoes base x d g → tests s n g R ≡ Some k → list_any separates R ≡ false → RunsBy d g R x y
    → IsThrough base y d g k R
through s n base d [] g k x y f e none same =
    subst (λ q. IsThrough base y d g q []) (same_Some g k e) (record { follows = subst (λ z. Redoes base z d g) (sym same) f; table = refl; seen = sym (append-nil g.seen) })
through s n base d (r ∷ R) g k x y f e none w = by_test (λ next q. through s n base d R (known_next g r) k w.0 y next q (or_parts (separates r) (list_any separates R) none).1 w.2) (may_follow s n g r) refl e
  where
    inside : separates r ≡ false
    inside = (or_parts (separates r) (list_any separates R) none).0

    by_test : (Redoes base w.0 d (known_next g r) → tests s n (known_next g r) R ≡ Some k → IsThrough base y d (known_next g r) k R)
        → (b : Bool) → may_follow s n g r ≡ b → fold (test_next s n) (cond b (Some (known_next g r)) None) R ≡ Some k → IsThrough base y d g k (r ∷ R)
    by_test later false h q = absurd (none_passes s n R k q)
    by_test later true h q =
        let rest : IsThrough base y d (known_next g r) k R = later (judged s n base x w.0 d g r f h inside (is_left_out d (scanned d g) r) refl w.1) q in
        record {
          follows = rest.follows;
          table = rest.table ∙ ap (λ b. cond b [] g.table) inside;
          seen = rest.seen ∙ (ap (λ b. cond b [] (g.seen ++ r ∷ []) ++ R) inside ∙ append_assoc g.seen (r ∷ []) R);
        }

pub comes_to : ComesTo
comes_to s n x y z d g k R first e none w r = (
  recovers s x.image y z d k t.follows r ∙ ap2 (λ rows E. recover_by s x.image d rows E) t.table seen,
  tells_rolled x.image y d k t.follows ∙ ap2 rolled_by t.table seen,
)
  where
    ap2 : {X Y Z : Type 0} (f : X → Y → Z) {a b : X} {c d : Y} → a ≡ b → c ≡ d → f a c ≡ f b d
    ap2 f {a = a} {b = b} {c = c} {d = d} p q = ap (λ x. f x c) p ∙ ap (f b) q

    t : IsThrough x.image y d g k R
    t = through s n x.image d R g k x y (starts_redo x d g first) e none w

    seen : k.seen ≡ R
    seen = t.seen ∙ ap (λ E. E ++ R) first.begins.seen

all_judged : (d : Damage) → d.failing ≡ [] → (R : List Record) (g : Known) (x y : Redoing) → AppliesAll R x y → RunsBy d g R x y
all_judged d sound [] g x y w = w
all_judged d sound (r ∷ R) g x y w = (w.0, subst (λ b. Judges b x w.0 r) (sym (one_pass_keeps d g r sound)) w.1, all_judged d sound R (known_next g r) w.0 y w.2)

pub one_pass_comes_to : OnePassComesTo
one_pass_comes_to s n x y z d g k R first e none unfailed w r = (
  end.0 ∙ ((undamaged_is_plain s x.image sound g.table R refl).0 ∙ sym (unfailed_is_plain s x.image g.first g.table R unfailed).0),
  end.1,
)
  where
    sound : Damage
    sound = record { first = d.first; clean = 0; failing = [] }

    same : IsFirst x (record { first = d.first; clean = 0; failing = [] }) g
    same =
        let b = first.begins in
        record {
          begins = record { number = b.number; seen = b.seen; statuses = b.statuses; ascend = b.ascend; drawn = b.drawn; undos = b.undos };
          knows = first.knows;
          left = first.left;
        }

    end : (freed s z.image ≡ recover_by s x.image (record { first = d.first; clean = 0; failing = [] }) g.table R) × (filter (λ t. is_running (status_at y.table t)) (finite.keys y.table) ≡ rolled_by g.table R)
    end = comes_to s n x y z sound g k R same e none (all_judged sound refl R g x y w) r
