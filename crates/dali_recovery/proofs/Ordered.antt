-- What is so whatever records were taken.
use Rattle.std.proofs.Common.{◌≡◌, ℕ, ◌<◌, ◌≤◌, ◌+◌, ◌^◌, true, false, List, [], ◌∷◌, Option, Some, None, Vec, Global, refl, ap, sym, subst, ◌∙◌, arith}
use Rattle.std.specs.Prelude.{◌&&◌, ◌↔◌, nat_lt, filter, length, Ok, Err, IsErrOf}
use Rattle.std.specs.BTreeSet as tree
use Rattle.std.specs.FinMap as finite
use Rattle.std.proofs.lemmas.Bool.{and_from, lt-ltb, false_from_ne_true, not-false}
use Rattle.dali_geometry.specs.Sizes.{Sizes}
use Rattle.dali_geometry.specs.Places.{regions}
use Rattle.dali_att.specs.Table.{Table}
use Rattle.dali_record.specs.declared.operations.Pending.{Pending}
use Rattle.dali_record.specs.declared.records.Record.{Record}
use Rattle.dali_record.specs.declared.records.Record.TheVariants.{Begin, Solo, AuditBegin, AuditClean, AuditFail, Restarted}
use Rattle.dali_record.specs.Spelling.{CanBeSpelled, ascends}
use Rattle.dali_resume.specs.Tests.{Known, allows, is_running, known_next, next_behind}
use Rattle.dali_redo.specs.declared.taint.taint.Judgement.{Judgement}
use Rattle.dali_redo.specs.declared.taint.taint.Judgement.TheVariants.{Keep, Drop}
use Rattle.dali_redo.specs.Redoing.{Redoing, Knows, breaks, is_tested, status_at, told}
use Rattle.dali_redo.specs.Steps.{Applies}
use Rattle.dali_redo.specs.declared.error.RedoError.TheVariants.{Misfit as RedoMisfit}
use Rattle.dali_history.proofs.Rising.{Up, keys_up, up_filter}
use Rattle.dali_redo.proofs.Told.{tests_rules}
use Rattle.dali_recovery.specs.Standing.{Ascend, IsOrdered, IsOrderedOut, IsRecovered, JudgedBy, KeepsOrder, MakesOrdered, Passes, Reopens}
use Rattle.dali_recovery.specs.declared.scan.Scan.{Scan}
use Rattle.dali_recovery.specs.declared.recovery.Recovery.{Recovery}
use Rattle.dali_recovery.specs.declared.recovery.Recovered.{Recovered}
use Rattle.dali_recovery.proofs.Records.{number_low}

-- ---- who is rolled back
up_ascends : (xs : List ℕ) → Up xs → ascends xs ≡ true
up_ascends [] up = refl
up_ascends (x ∷ []) up = refl
up_ascends (x ∷ y ∷ ys) up = and_from (nat_lt x y) (ascends (y ∷ ys)) (lt-ltb x y up.0.0) (up_ascends (y ∷ ys) up.1)

pub at_work_ascend : (m : Table Pending) (us : List ℕ) → us ≡ filter (λ t. is_running (status_at m t)) (finite.keys m) → ascends us ≡ true
at_work_ascend m us e = ap ascends e ∙ up_ascends (filter (λ t. is_running (status_at m t)) (finite.keys m)) (up_filter (λ t. is_running (status_at m t)) (finite.keys m) (keys_up m))

pub ascend_copied : (us vs rs ds : List ℕ) → us ≡ rs → vs ≡ ds → Ascend rs ds → Ascend us vs
ascend_copied us vs rs ds e f h = (ap ascends e ∙ h.0, ap ascends f ∙ h.1)

-- ---- a record of a transaction
-- the number behind a record
number_stays : (n : ℕ) (r : Record) → next_behind 0 r ≤ 2 ^ 40 → n ≤ 2 ^ 40 → next_behind n r ≤ 2 ^ 40
number_stays n (Begin t) low h = low
number_stays n (Solo t p b) low h = low
number_stays n _ low h = h

knows_told : (a : Redoing) → Knows a (told a)
knows_told a = record { next = refl; statuses = λ t. refl }

ordered_by : (a b : Redoing) (r : Record) → is_tested r ≡ true → ((k : Known) → Knows a k → breaks a.sizes k r ≡ false) → b.sizes ≡ a.sizes → ((k : Known) → Knows a k → Knows b (known_next k r)) → MakesOrdered a r b
ordered_by a b r tested fits sizes knows = record {
  sizes = sizes;
  low = number_low a.sizes 0 (told a) r (not-false (allows a.sizes 0 (told a) r) (sym (tests_rules a.sizes 0 (told a) r tested) ∙ fits (told a) (knows_told a)));
  next = (knows (told a) (knows_told a)).next;
}

pub ordered_judged : (a b : Redoing) (j : Judgement) (r : Record) → is_tested r ≡ true → ((k : Known) → Knows a k → breaks a.sizes k r ≡ false) → JudgedBy j a b r → MakesOrdered a r b
ordered_judged a b Keep r tested fits g = ordered_by a b r tested fits g.sizes g.knows
ordered_judged a b Drop r tested fits g = ordered_by a b r tested fits g.sizes g.knows

pub ordered_plain : (a b : Redoing) (r : Record) → is_tested r ≡ true → ((k : Known) → Knows a k → breaks a.sizes k r ≡ true → ⊥) → Applies a b r → MakesOrdered a r b
ordered_plain a b r tested fits g = ordered_by a b r tested (λ k w. false_from_ne_true (breaks a.sizes k r) (fits k w)) g.sizes g.knows

pub keeps_again : (x y : Recovery) (z : Redoing) (q : Option Scan) (r : Record) → MakesOrdered x.redo r z → Passes (record x { redo = z; scan = q }) y r → KeepsOrder x y
keeps_again x y z q r made rest s f = record {
  geometry = rest.geometry ∙ f.geometry;
  sizes = ap (λ (v : Redoing). v.sizes) rest.redo ∙ (made.sizes ∙ f.sizes);
  rolled = ap (λ v. ascends v.items) rest.rolled ∙ f.rolled;
  deleted = ap (λ v. ascends v.items) rest.deleted ∙ f.deleted;
  next = (
    subst (λ n. n ≤ 2 ^ 40) (sym (ap (λ (v : Redoing). v.next) rest.redo ∙ made.next)) (number_stays x.redo.next r made.low f.next.0),
    subst (λ n. n ≤ 2 ^ 40) (sym (rest.next made.low)) (number_stays x.next r made.low f.next.1),
  );
}

-- ---- an audit
module _ (x y : Recovery) (r : Record) (level : (n : ℕ) → next_behind n r ≡ n) where
  keeps_on : y.geometry ≡ x.geometry → y.redo ≡ x.redo → y.rolled_back ≡ x.rolled_back → y.deleted ≡ x.deleted → (next_behind 0 r ≤ 2 ^ 40 → y.next ≡ next_behind x.next r) → KeepsOrder x y
  keeps_on geometry redo rolled deleted next s f = record {
    geometry = geometry ∙ f.geometry;
    sizes = ap (λ (v : Redoing). v.sizes) redo ∙ f.sizes;
    rolled = ap (λ v. ascends v.items) rolled ∙ f.rolled;
    deleted = ap (λ v. ascends v.items) deleted ∙ f.deleted;
    next = (
      subst (λ n. n ≤ 2 ^ 40) (sym (ap (λ (v : Redoing). v.next) redo)) f.next.0,
      subst (λ n. n ≤ 2 ^ 40) (sym (next low ∙ level x.next)) f.next.1,
    );
  }
    where
      low : next_behind 0 r ≤ 2 ^ 40
      low = omega (arith, level 0)

pub keeps_begin : (x y : Recovery) (a : tree.BTreeSet ℕ) (r : Record) → r ≡ AuditBegin → Passes (record x { audits = a }) y r → KeepsOrder x y
keeps_begin x y a r e p = keeps_on x y r (λ n. ap (next_behind n) e) p.geometry p.redo p.rolled p.deleted p.next

pub keeps_clean : (x y : Recovery) (m b : ℕ) (r : Record) → r ≡ AuditClean b → Passes x y r → KeepsOrder x (record y { clean = m })
keeps_clean x y m b r e p = keeps_on x (record y { clean = m }) r (λ n. ap (next_behind n) e) p.geometry p.redo p.rolled p.deleted p.next

pub keeps_fail : (x y : Recovery) (failing : Vec ℕ Global) (b : ℕ) (rs : List ℕ) (r : Record) → r ≡ AuditFail b rs → Passes x y r → KeepsOrder x (record y { failing = failing; failed = true })
keeps_fail x y failing b rs r e p = keeps_on x (record y { failing = failing; failed = true }) r (λ n. ap (next_behind n) e) p.geometry p.redo p.rolled p.deleted p.next

-- ---- a record of a restart
reopens_ordered : (x y : Recovery) (z : Redoing) (rs ds : List ℕ) → z.sizes ≡ x.redo.sizes → z.next ≡ x.redo.next → ascends rs ≡ true → ascends ds ≡ true → Reopens (record x { redo = z }) y rs ds → KeepsOrder x y
reopens_ordered x y z rs ds sizes next up vp p s f = record {
  geometry = p.geometry ∙ f.geometry;
  sizes = ap (λ (v : Redoing). v.sizes) p.redo ∙ (sizes ∙ f.sizes);
  rolled = ap ascends p.rolled ∙ up;
  deleted = ap ascends p.deleted ∙ vp;
  next = (
    subst (λ n. n ≤ 2 ^ 40) (sym (ap (λ (v : Redoing). v.next) p.redo ∙ next)) f.next.0,
    subst (λ n. n ≤ 2 ^ 40) (sym p.next) f.next.1,
  );
}

spelled_lists : (r : Record) (rs ds : List ℕ) → r ≡ Restarted rs ds → CanBeSpelled r → (ascends rs ≡ true) × (ascends ds ≡ true)
spelled_lists r rs ds e h = let w : CanBeSpelled (Restarted rs ds) = subst CanBeSpelled e h in (w.0.2, w.1.2)

pub keeps_first : (x y : Recovery) (z : Redoing) (r : Record) (rs ds : List ℕ) → r ≡ Restarted rs ds → Applies x.redo z r → Reopens (record x { redo = z }) y rs ds → CanBeSpelled r → KeepsOrder x y
keeps_first x y z r rs ds e a p h =
    let up = spelled_lists r rs ds e h in
    reopens_ordered x y z rs ds a.sizes ((a.knows (told x.redo) (knows_told x.redo)).next ∙ ap (next_behind x.redo.next) e) up.0 up.1 p

recovered_stays : (a b : Redoing) → IsRecovered a b → (b.sizes ≡ a.sizes) × (b.next ≡ a.next)
recovered_stays a b r = (ap (λ (v : Redoing). v.sizes) r.2 ∙ ap (λ (v : Redoing). v.sizes) r.1.rest, ap (λ (v : Redoing). v.next) r.2 ∙ ap (λ (v : Redoing). v.next) r.1.rest)

pub keeps_end : (x y : Recovery) (z : Redoing) (r : Record) (us vs rs ds : List ℕ) → r ≡ Restarted rs ds → us ≡ rs → vs ≡ ds → IsRecovered x.redo z → Reopens (record x { redo = z }) y us vs → CanBeSpelled r → KeepsOrder x y
keeps_end x y z r us vs rs ds e f g w p h =
    let up = spelled_lists r rs ds e h in
    let stays = recovered_stays x.redo z w in
    reopens_ordered x y z us vs stays.0 stays.1 (ap ascends f ∙ up.0) (ap ascends g ∙ up.1) p

-- ---- where an epoch begins, and at the log's end
pub keeps_scan : (x : Recovery) (z : Scan) → KeepsOrder x (record x { scan = Some z })
keeps_scan x z s f = record { geometry = f.geometry; sizes = f.sizes; rolled = f.rolled; deleted = f.deleted; next = f.next }

pub starts_ordered : (x : Recovery) (g : Sizes) (ims : List (List ℕ)) (m l : Table Pending) (p : ℕ) → x.geometry ≡ g → x.redo ≡ record { sizes = g; image = ims; table = m; left = l; next = p } → x.next ≡ p → x.rolled_back.items ≡ [] → x.deleted.items ≡ []
    → p ≤ 2 ^ 40 → IsOrdered g x
starts_ordered x g ims m l p geometry redo next rolled deleted low = record {
  geometry = geometry;
  sizes = ap (λ (v : Redoing). v.sizes) redo;
  rolled = ap ascends rolled;
  deleted = ap ascends deleted;
  next = (subst (λ n. n ≤ 2 ^ 40) (sym (ap (λ (v : Redoing). v.next) redo)) low, subst (λ n. n ≤ 2 ^ 40) (sym next) low);
}

pub hands_ordered : (x : Recovery) (o : Recovered) (z : Redoing) → (Ascend x.rolled_back.items x.deleted.items → Ascend o.rolled_back.items o.deleted.items) → IsRecovered x.redo z → length o.regions.items ≡ regions z.sizes → o.next ≡ x.next
    → (s : Sizes) → IsOrdered s x → IsOrderedOut s o
hands_ordered x o z lists r whole next s f =
    let up = lists (f.rolled, f.deleted) in
    record {
      whole = whole ∙ ap regions ((recovered_stays x.redo z r).0 ∙ f.sizes);
      rolled = up.0;
      deleted = up.1;
      next = subst (λ n. n ≤ 2 ^ 40) (sym next) f.next.1;
    }
