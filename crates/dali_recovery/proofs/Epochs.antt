-- Records of a restart, and the log's end.
use Rattle.std.proofs.Common.{◌≡◌, ℕ, ◌<◌, ◌+◌, ◌^◌, Bool, true, false, cond, List, [], ◌∷◌, Option, Some, None, refl, ap, sym, subst, ◌∙◌, arith}
use Rattle.std.specs.Prelude.{not, ◌&&◌, ◌||◌, ◌==◌, ◌↔◌, filter, fold, Err, IsErrOf}
use Rattle.std.specs.List.{list_any}
use Rattle.std.specs.FinMap as finite
use Rattle.std.specs.Option.{option_map_or}
use Rattle.std.specs.Ordering.{nat_cmp}
use Rattle.std.proofs.lemmas.Bool.{and_parts, both_ways, eq-eqb, not-false, eqb-true}
use Rattle.std.proofs.lemmas.List.{nil_from_length}
use Rattle.dali_geometry.specs.Sizes.{Sizes}
use Rattle.dali_att.specs.declared.state.State.{State}
use Rattle.dali_att.specs.declared.state.State.TheVariants.{Live, Dead, Cleaning, Committed}
use Rattle.dali_att.specs.Table.{Row as Entry, Table, undos_at}
use Rattle.dali_record.specs.declared.operations.Pending.{Pending}
use Rattle.dali_record.specs.declared.records.Record.{Record}
use Rattle.dali_record.specs.declared.records.Record.TheVariants.{Restarted}
use Rattle.dali_record.specs.Damage.{Damage}
use Rattle.dali_record.specs.Epochs.{clean_step, failing_step}
use Rattle.dali_record.specs.Files.{Files}
use Rattle.dali_record.specs.Settled.{redo_all}
use Rattle.dali_history.specs.Recovered.{freed}
use Rattle.dali_resume.specs.Laws.{is_audit_fail}
use Rattle.dali_resume.specs.Onward.{Going, closed_image, going_at, going_next}
use Rattle.dali_resume.specs.Resumed.{damage_from, deleted_by, recover_by, rolled_by, scan}
use Rattle.dali_resume.specs.Tests.{Idle, Known, is_running, known_next, may_follow, same_numbers, tells_lists}
use Rattle.dali_resume.proofs.OnePass.{undamaged_is_plain, unfailed_is_plain}
use Rattle.dali_resume.proofs.Through.{numbers_same}
use Rattle.dali_redo.specs.Taint.Following.{Begins as BeginsEpoch}
use Rattle.dali_redo.specs.Taint.Tables.{has_number}
use Rattle.dali_redo.specs.Following.{FollowsScan, Redoes}
use Rattle.dali_redo.specs.Redoing.{Redoing, Knows, breaks, status_at, status_by, told}
use Rattle.dali_redo.specs.declared.error.RedoError.{RedoError}
use Rattle.dali_redo.specs.declared.error.RedoError.TheVariants.{Misfit as RedoMisfit, OutOfMemory as RedoMemory}
use Rattle.dali_redo.specs.Steps.{Applies}
use Rattle.dali_redo.specs.Laws.{IsFirst}
use Rattle.dali_redo.proofs.Ends.{recovers, tells_rolled}
use Rattle.dali_redo.proofs.Starts.{ends_epoch, starts_redo}
use Rattle.dali_redo.proofs.Statuses.{idle_behind, none_there, status_of}
use Rattle.dali_recovery.specs.Errors.{refused_as}
use Rattle.dali_recovery.specs.Standing.{Begins, Fails, Finds, FindsDeleted, Follows, FollowsBy, HandsLists, HandsOn, IsRecovered, Scans, Stands, StandsOn, Starts, Takes, Tells, TellsDamage, assumed_by, is_unscanned, undamaged, unscanned_by}
use Rattle.dali_recovery.specs.declared.scan.Scan.{Scan}
use Rattle.dali_recovery.specs.declared.recovery.Recovery.{Recovery}
use Rattle.dali_recovery.specs.declared.recovery.Recovered.{Recovered}
use Rattle.dali_recovery.proofs.Passing.{may_not, same_redo, stands_with}

none_at : (m : Table Pending) (t : ℕ) → m ≡ finite.empty → undos_at m t ≡ []
none_at m t e = ap (λ o. undos_at o t) e ∙ ap (λ o. option_map_or (λ row. row.undos) o []) (finite.get-empty {X = Entry Pending} nat_cmp t)

none_idle : (m : Table Pending) (t : ℕ) → status_at m t ≡ Idle → undos_at m t ≡ []
none_idle m t e = by_row (finite.get m t) e
  where
    by_state : (z : State) (us : List Pending) → status_by (Some z) us ≡ Idle → us ≡ []
    by_state Live us h = absurd (cc)
    by_state (Dead l) us h = absurd (cc)
    by_state (Cleaning l) us h = absurd (cc)
    by_state Committed us h = absurd (cc)

    by_row : (o : Option (Entry Pending)) → status_of o ≡ Idle → option_map_or (λ row. row.undos) o [] ≡ []
    by_row None h = refl
    by_row (Some row) h = by_state row.state row.undos h

-- ---- the start
starts_known : (F : Files) (z : Redoing) → Starts F z.table → z.left ≡ finite.empty → z.next ≡ F.next → IsFirst z (undamaged F.first) (going_at F).known
starts_known F z st left next = record {
  begins = record { number = refl; seen = refl; statuses = λ t. refl; ascend = st.ascend; drawn = st.drawn; undos = st.undos };
  knows = record { next = next; statuses = st.statuses };
  left = left;
}

pub begins_here : (x : Recovery) (F : Files) (m : Table Pending) (n : ℕ) → F.first ≡ n → x.image ≡ n → x.first ≡ n → x.clean ≡ n → x.failing.items ≡ [] → x.scan ≡ None → x.number ≡ n → x.next ≡ F.next
    → x.redo ≡ record { sizes = x.geometry; image = F.image; table = m; left = finite.empty; next = F.next }
    → ((b : ℕ) → has_number x.audits b ≡ false) → x.failed ≡ false → x.restarted ≡ false → x.rolled_back.items ≡ [] → x.deleted.items ≡ [] → Starts F m → Stands x.geometry n x (going_at F)
begins_here x F m n first image begun clean failing scan number next redo audits failed restarted rolled deleted st = record {
  geometry = refl;
  sizes = ap (λ (v : Redoing). v.sizes) redo;
  image = image;
  positive = subst (λ k. 0 < k) first st.positive;
  behind = omega (arith, first);
  fresh = λ e. refl;
  counted = omega arith;
  redoes = subst (λ o. Redoes F.image x.redo (assumed_by o F.first) (going_at F).known) (sym scan) (subst (λ im. Redoes im x.redo (undamaged F.first) (going_at F).known) (ap (λ (v : Redoing). v.image) redo) (starts_redo x.redo (undamaged F.first) (going_at F).known start));
  follows = subst (λ o. FollowsBy x.geometry o F.first (going_at F).known) (sym scan) tt;
  begins = λ e. start.begins;
  first = begun ∙ sym first;
  clean = clean ∙ sym first;
  failing = failing;
  number = number ∙ sym first;
  next = next;
  audits = audits;
  failed = failed;
  fails = refl;
  restarted = restarted;
  rolled = rolled;
  deleted = deleted;
}
  where
    start : IsFirst x.redo (undamaged F.first) (going_at F).known
    start = starts_known F x.redo (subst (Starts F) (sym (ap (λ (v : Redoing). v.table) redo)) st) (ap (λ (v : Redoing). v.left) redo) (ap (λ (v : Redoing). v.next) redo)

pub built_as : (z : Redoing) (g : Sizes) (ims jms : List (List ℕ)) (m : Table Pending) (p q : ℕ) → z ≡ record { sizes = g; image = ims; table = m; left = finite.empty; next = p } → ims ≡ jms → p ≡ q
    → z ≡ record { sizes = g; image = jms; table = m; left = finite.empty; next = q }
built_as z g ims jms m p q e i n = e ∙ (ap (λ im. let y : Redoing = record { sizes = g; image = im; table = m; left = finite.empty; next = p } in y) i ∙ ap (λ k. let y : Redoing = record { sizes = g; image = jms; table = m; left = finite.empty; next = k } in y) n)

pub applied_as : (x z : Redoing) (r q : Record) → r ≡ q → Applies x z r → Applies x z q
applied_as x z r q e a = subst (Applies x z) e a

-- ---- the end of an epoch whose damage is assumed rightly

-- what is computed with the damage that is assumed
record IsCovered (s : Sizes) (c : Going) (d : Damage) : Type 0 where
  image : recover_by s c.image d c.known.table c.known.seen ≡ closed_image s c
  deleted : deleted_by c.known.table c.known.seen (scan d c.known.table c.known.seen) ≡ deleted_by c.known.table c.known.seen (scan (damage_from c.known.first c.known.seen) c.known.table c.known.seen)

covered : (s : Sizes) (c : Going) (o : Option Scan) (failed : Bool) (clean : ℕ) (failing : List ℕ) → clean ≡ fold clean_step c.known.first c.known.seen → failing ≡ fold failing_step [] c.known.seen
    → list_any is_audit_fail c.known.seen ≡ failed → unscanned_by o failed clean failing ≡ false → IsCovered s c (assumed_by o c.known.first)
covered s c None failed clean failing e f fails sound =
    let plain = undamaged_is_plain s c.image (undamaged c.known.first) c.known.table c.known.seen refl in
    let real = unfailed_is_plain s c.image c.known.first c.known.table c.known.seen (fails ∙ sound) in
    record { image = plain.0 ∙ sym real.0; deleted = plain.1 ∙ sym real.1 }
covered s c (Some z) failed clean failing e f fails sound = record {
  image = ap (λ d. recover_by s c.image d c.known.table c.known.seen) same;
  deleted = ap (λ d. deleted_by c.known.table c.known.seen (scan d c.known.table c.known.seen)) same;
}
  where
    parts : ((z.clean == clean) ≡ true) × (same_numbers z.failing.items failing ≡ true)
    parts = and_parts (z.clean == clean) (same_numbers z.failing.items failing) (not-false ((z.clean == clean) && same_numbers z.failing.items failing) sound)

    same : assumed_by (Some z) c.known.first ≡ damage_from c.known.first c.known.seen
    same =
        ap (λ m. let d : Damage = record { first = c.known.first; clean = m; failing = z.failing.items } in d) (eqb-true z.clean clean parts.0 ∙ e)
        ∙ ap (λ rs. let d : Damage = record { first = c.known.first; clean = fold clean_step c.known.first c.known.seen; failing = rs } in d) (numbers_same z.failing.items failing parts.1 ∙ f)

module _ (s : Sizes) (n : ℕ) (x : Recovery) (c : Going) (st : Stands s n x c) (sound : is_unscanned x ≡ false) where
  covers : IsCovered s c (assumed_by x.scan c.known.first)
  covers = covered s c x.scan x.failed x.clean x.failing.items st.clean st.failing (st.fails ∙ sym st.failed) sound

  pub at_work : filter (λ t. is_running (status_at x.redo.table t)) (finite.keys x.redo.table) ≡ rolled_by c.known.table c.known.seen
  at_work = tells_rolled c.image x.redo (assumed_by x.scan c.known.first) c.known st.redoes

  -- rolled back and freed
  pub closes : (z : Redoing) → IsRecovered x.redo z → z.image ≡ closed_image s c
  closes z r =
      ap (λ (v : Redoing). v.image) r.2
      ∙ (ap (λ g. freed g r.0.image) (ap (λ (v : Redoing). v.sizes) r.1.rest ∙ st.sizes)
      ∙ (recovers s c.image x.redo r.0 (assumed_by x.scan c.known.first) c.known st.redoes r.1 ∙ covers.image))

  pub opens : (z : Redoing) (rs ds : List ℕ) → IsRecovered x.redo z → IsFirst z (undamaged (c.known.number + 1)) (known_next c.known (Restarted rs ds))
  opens z rs ds r = record {
    begins = record {
      number = refl;
      seen = refl;
      statuses = λ t. sym (idle_behind t (c.known.statuses t) rs ds);
      ascend = λ i h. absurd (omega (arith, h));
      drawn = λ t h. absurd (cc);
      undos = λ t. sym (none_at z.table t table);
    };
    knows = record {
      next = ap (λ (v : Redoing). v.next) r.2 ∙ (ap (λ (v : Redoing). v.next) r.1.rest ∙ st.redoes.knows.next);
      statuses = λ t. ap (λ m. status_at m t) table ∙ (none_there t ∙ idle_behind t (c.known.statuses t) rs ds);
    };
    left = ap (λ (v : Redoing). v.left) r.2 ∙ ap (λ (v : Redoing). v.left) r.1.rest;
  }
    where
      table : z.table ≡ finite.empty
      table = ap (λ (v : Redoing). v.table) r.2 ∙ ap (λ (v : Redoing). v.table) r.1.rest

-- ---- a Restarted
module _ (s : Sizes) (n : ℕ) (x y : Recovery) (c : Going) (rs ds : List ℕ) (st : Stands s n x c) where
  begins_on : (z : Redoing) → z.sizes ≡ s → BeginsEpoch (undamaged (c.known.number + 1)) (known_next c.known (Restarted rs ds)) z.table → Redoes (going_next s n c (Restarted rs ds)).image z (undamaged (c.known.number + 1)) (known_next c.known (Restarted rs ds))
      → Begins (record x { redo = z }) y rs ds → Stands s n y (going_next s n c (Restarted rs ds))
  begins_on z sizes table follows b = record {
    geometry = b.geometry ∙ st.geometry;
    sizes = ap (λ (v : Redoing). v.sizes) b.redo ∙ sizes;
    image = b.image ∙ st.image;
    positive = st.positive;
    behind = omega (arith, st.behind);
    fresh = λ e. refl;
    counted = omega arith;
    redoes = subst (λ o. Redoes (going_next s n c (Restarted rs ds)).image y.redo (assumed_by o (c.known.number + 1)) (known_next c.known (Restarted rs ds))) (sym b.scan)
        (subst (λ v. Redoes (going_next s n c (Restarted rs ds)).image v (undamaged (c.known.number + 1)) (known_next c.known (Restarted rs ds))) (sym b.redo) follows);
    follows = subst (λ o. FollowsBy s o (c.known.number + 1) (known_next c.known (Restarted rs ds))) (sym b.scan) tt;
    begins = λ e. subst (λ (v : Redoing). BeginsEpoch (undamaged (c.known.number + 1)) (known_next c.known (Restarted rs ds)) v.table) (sym b.redo) table;
    first = b.first ∙ ap (λ m. m + 1) st.number;
    clean = b.clean ∙ ap (λ m. m + 1) st.number;
    failing = b.failing;
    number = b.number ∙ ap (λ m. m + 1) st.number;
    next = b.next ∙ st.next;
    audits = b.audits;
    failed = b.failed;
    fails = refl;
    restarted = b.restarted;
    rolled = b.rolled;
    deleted = b.deleted;
  }

  open_flag : x.restarted ≡ false → c.known.restarted ≡ false
  open_flag e = sym st.restarted ∙ e

  may_restart : x.restarted ≡ false → ((c.known.number == n) || tells_lists c.known rs ds) ≡ true → may_follow s n c.known (Restarted rs ds) ≡ true
  may_restart e h = ap (λ b. (not b && ((c.known.number == n) || tells_lists c.known rs ds)) && (not c.known.failed || true)) (open_flag e) ∙ (ap (λ b. b && (not c.known.failed || true)) h ∙ any_true (not c.known.failed))
    where
      any_true : (a : Bool) → (a || true) ≡ true
      any_true true = refl
      any_true false = refl

-- at the image's place
pub takes_first : (x y : Recovery) (z : Redoing) (rs ds : List ℕ) → x.number ≡ x.image → x.restarted ≡ false → Applies x.redo z (Restarted rs ds)
    → (x.number + 1 < 2 ^ 64 → Begins (record x { redo = z }) y rs ds) → Takes x y (Restarted rs ds)
takes_first x y z rs ds first alone a is s n c st room =
    (may_restart s n x y c rs ds st alone (ap (λ b. b || tells_lists c.known rs ds) (eq-eqb c.known.number n here)), begins_on s n x y c rs ds st z (a.sizes ∙ st.sizes) table follows (is (subst (λ m. m + 1 < 2 ^ 64) (sym st.number) room)), λ e. absurd (cc), λ e. (is (subst (λ m. m + 1 < 2 ^ 64) (sym st.number) room)).scan)
  where
    here : c.known.number ≡ n
    here = sym st.number ∙ (first ∙ st.image)

    image_is : x.redo.image ≡ c.image
    image_is = st.redoes.image ∙ ap (λ R. redo_all c.image (scan (assumed_by x.scan c.known.first) c.known.table R).kept) (st.fresh here)

    idle : (t : ℕ) → status_at z.table t ≡ Idle
    idle t = (a.knows c.known st.redoes.knows).statuses t ∙ sym (idle_behind t (c.known.statuses t) rs ds)

    table : BeginsEpoch (undamaged (c.known.number + 1)) (known_next c.known (Restarted rs ds)) z.table
    table = record {
      number = refl;
      seen = refl;
      statuses = λ t. sym (idle_behind t (c.known.statuses t) rs ds);
      ascend = λ i h. absurd (omega (arith, h));
      drawn = λ t h. absurd (cc);
      undos = λ t. sym (none_idle z.table t (idle t));
    }

    goes : (going_next s n c (Restarted rs ds)).image ≡ c.image
    goes = ap (λ b. cond (true && not b) (closed_image s c) c.image) (eq-eqb c.known.number n here)

    follows : Redoes (going_next s n c (Restarted rs ds)).image z (undamaged (c.known.number + 1)) (known_next c.known (Restarted rs ds))
    follows = subst (λ im. Redoes im z (undamaged (c.known.number + 1)) (known_next c.known (Restarted rs ds))) (image_is ∙ sym goes)
        (ends_epoch x.redo z (undamaged (c.known.number + 1)) c.known rs ds st.redoes.knows.next a refl)

refuses_this : (x : Recovery) (z : Redoing) (rs ds : List ℕ) (e : RedoError)
    → ((k : Known) → Knows x.redo k → (IsErrOf {T = Unit {0}} (Err e) RedoMisfit ↔ (breaks x.redo.sizes k (Restarted rs ds) ≡ true))) → z ≡ x.redo → Fails x (record x { redo = z }) (Restarted rs ds) (refused_as e)
refuses_this x z rs ds RedoMisfit misfit same = absurd (both_ways false refl ((misfit (told x.redo) (record { next = refl; statuses = λ t. refl })).0 refl))
refuses_this x z rs ds RedoMemory misfit same = (λ e. absurd (cc), λ none. same_redo x z same)

pub refuses_first : (x : Recovery) (z : Redoing) (r : Record) (rs ds : List ℕ) (e : RedoError) → r ≡ Restarted rs ds
    → ((k : Known) → Knows x.redo k → (IsErrOf {T = Unit {0}} (Err e) RedoMisfit ↔ (breaks x.redo.sizes k r ≡ true))) → z ≡ x.redo → Fails x (record x { redo = z }) r (refused_as e)
refuses_first x z r rs ds e is misfit same =
    subst (λ q. Fails x (record x { redo = z }) q (refused_as e)) (sym is)
    (refuses_this x z rs ds e (subst (λ q. (k : Known) → Knows x.redo k → (IsErrOf {T = Unit {0}} (Err e) RedoMisfit ↔ (breaks x.redo.sizes k q ≡ true))) is misfit) same)

-- behind it
elsewhere : (s : Sizes) (n : ℕ) (x : Recovery) (c : Going) → Stands s n x c → (x.number == x.image) ≡ false → (c.known.number == n) ≡ false
elsewhere s n x c st e = ap (λ m. m == n) (sym st.number) ∙ (ap (λ m. x.number == m) (sym st.image) ∙ e)

pub takes_end : (x y : Recovery) (z : Redoing) (rs ds : List ℕ) → x.restarted ≡ false → (x.number == x.image) ≡ false → is_unscanned x ≡ false → Tells x rs ds true → IsRecovered x.redo z
    → (x.number + 1 < 2 ^ 64 → Begins (record x { redo = z }) y rs ds) → Takes x y (Restarted rs ds)
takes_end x y z rs ds alone later sound tells r is s n c st room =
    (may_restart s n x y c rs ds st alone (ap (λ b. b || tells_lists c.known rs ds) there ∙ sym (tells s n c st sound)), begins_on s n x y c rs ds st z sizes (opens s n x c st sound z rs ds r).begins follows (is (subst (λ m. m + 1 < 2 ^ 64) (sym st.number) room)), λ e. absurd (cc), λ e. (is (subst (λ m. m + 1 < 2 ^ 64) (sym st.number) room)).scan)
  where
    there : (c.known.number == n) ≡ false
    there = elsewhere s n x c st later

    sizes : z.sizes ≡ s
    sizes = ap (λ (v : Redoing). v.sizes) r.2 ∙ (ap (λ (v : Redoing). v.sizes) r.1.rest ∙ st.sizes)

    goes : (going_next s n c (Restarted rs ds)).image ≡ closed_image s c
    goes = ap (λ b. cond (true && not b) (closed_image s c) c.image) there

    follows : Redoes (going_next s n c (Restarted rs ds)).image z (undamaged (c.known.number + 1)) (known_next c.known (Restarted rs ds))
    follows = subst (λ im. Redoes im z (undamaged (c.known.number + 1)) (known_next c.known (Restarted rs ds))) (closes s n x c st sound z r ∙ sym goes)
        (starts_redo z (undamaged (c.known.number + 1)) (known_next c.known (Restarted rs ds)) (opens s n x c st sound z rs ds r))

-- the lists were copied
pub begins_as : (x y : Recovery) (us vs rs ds : List ℕ) → us ≡ rs → vs ≡ ds → (x.number + 1 < 2 ^ 64 → Begins x y us vs) → x.number + 1 < 2 ^ 64 → Begins x y rs ds
begins_as x y us vs rs ds e f h low = subst (λ ts. Begins x y ts ds) e (subst (λ ts. Begins x y us ts) f (h low))

pub misfit_alone : (x : Recovery) (rs ds : List ℕ) → x.restarted ≡ true → Follows false x (Restarted rs ds)
misfit_alone x rs ds e s n c st = may_not s n c.known (Restarted rs ds) (ap (λ b. not b && ((c.known.number == n) || tells_lists c.known rs ds)) (sym st.restarted ∙ e))

pub misfit_lists : (x : Recovery) (rs ds : List ℕ) → (x.number == x.image) ≡ false → is_unscanned x ≡ false → Tells x rs ds false → Follows false x (Restarted rs ds)
misfit_lists x rs ds later sound tells s n c st = may_not s n c.known (Restarted rs ds) (
    ap (λ b. not c.known.restarted && (b || tells_lists c.known rs ds)) (elsewhere s n x c st later)
    ∙ (ap (λ b. not c.known.restarted && b) (sym (tells s n c st sound)) ∙ and_none (not c.known.restarted)))
  where
    and_none : (a : Bool) → (a && false) ≡ false
    and_none true = refl
    and_none false = refl

-- ---- whom a restart names
pub finds_both : (x : Recovery) (us vs : List ℕ) → us ≡ filter (λ t. is_running (status_at x.redo.table t)) (finite.keys x.redo.table) → FindsDeleted x vs → Finds x us vs
finds_both x us vs e f s n c st sound = record { rolled = e ∙ at_work s n x c st sound; deleted = f s n c st sound }

pub none_gone : (x : Recovery) (vs : List ℕ) → x.scan ≡ None → vs ≡ [] → FindsDeleted x vs
none_gone x vs e f s n c st sound = f ∙ sym (unfailed_is_plain s c.image c.known.first c.known.table c.known.seen (st.fails ∙ (sym st.failed ∙ (sym (ap (λ o. unscanned_by o x.failed x.clean x.failing.items) e) ∙ sound)))).1

pub gone_scanned : (x : Recovery) (z : Scan) (vs : List ℕ) → x.scan ≡ Some z
    → ((p : ℕ) (k : Known) (s : Sizes) → FollowsBy s (Some z) p k → vs ≡ deleted_by k.table k.seen (scan (assumed_by (Some z) p) k.table k.seen)) → FindsDeleted x vs
gone_scanned x z vs e f s n c st sound =
    f c.known.first c.known s (subst (λ o. FollowsBy s o c.known.first c.known) e st.follows)
    ∙ (ap (λ o. deleted_by c.known.table c.known.seen (scan (assumed_by o c.known.first) c.known.table c.known.seen)) (sym e) ∙ (covers s n x c st sound).deleted)

pub tells_by : (x : Recovery) (rs ds us vs : List ℕ) (b : Bool) → Finds x us vs → b ≡ (same_numbers rs us && same_numbers ds vs) → Tells x rs ds b
tells_by x rs ds us vs b f h s n c st sound =
    let w = f s n c st sound in
    h ∙ (ap (λ ts. same_numbers rs ts && same_numbers ds vs) w.rolled ∙ ap (λ ts. same_numbers rs (rolled_by c.known.table c.known.seen) && same_numbers ds ts) w.deleted)

-- ---- the log's end
pub hands_told : (x : Recovery) → x.restarted ≡ true → HandsLists x x.rolled_back.items x.deleted.items
hands_told x e s n c st sound = (
  st.rolled ∙ sym (ap (λ b. cond b c.rolled (rolled_by c.known.table c.known.seen)) flag),
  st.deleted ∙ sym (ap (λ b. cond b c.deleted (deleted_by c.known.table c.known.seen (scan (damage_from c.known.first c.known.seen) c.known.table c.known.seen))) flag),
)
  where
    flag : c.known.restarted ≡ true
    flag = sym st.restarted ∙ e

pub hands_found : (x : Recovery) (us vs : List ℕ) → x.restarted ≡ false → Finds x us vs → HandsLists x us vs
hands_found x us vs e f s n c st sound = (
  (f s n c st sound).rolled ∙ sym (ap (λ b. cond b c.rolled (rolled_by c.known.table c.known.seen)) flag),
  (f s n c st sound).deleted ∙ sym (ap (λ b. cond b c.deleted (deleted_by c.known.table c.known.seen (scan (damage_from c.known.first c.known.seen) c.known.table c.known.seen))) flag),
)
  where
    flag : c.known.restarted ≡ false
    flag = sym st.restarted ∙ e

pub hands_out : (x : Recovery) (o : Recovered) (z : Redoing) → is_unscanned x ≡ false → HandsLists x o.rolled_back.items o.deleted.items → IsRecovered x.redo z → o.regions.items ≡ z.image → o.number ≡ x.number → o.next ≡ x.next → HandsOn x o
hands_out x o z sound lists r image number next s n c st =
    let l = lists s n c st sound in
    record {
      image = image ∙ closes s n x c st sound z r;
      rolled = l.0;
      deleted = l.1;
      number = number ∙ st.number;
      next = next ∙ st.next;
    }

-- ---- a scan, and the damage
pub begins_with : (d e : Damage) (k : Known) (m : Table Pending) → e.first ≡ d.first → BeginsEpoch d k m → BeginsEpoch e k m
begins_with d e k m same b = record { number = same ∙ b.number; seen = b.seen; statuses = b.statuses; ascend = b.ascend; drawn = b.drawn; undos = b.undos }

-- before the first record the damage that is assumed doesn't matter
assumes_other : (base : List (List ℕ)) (x : Redoing) (d e : Damage) (k : Known) (R : List Record) → R ≡ [] → e.first ≡ d.first
    → FollowsScan base x d k (scan d k.table R) → FollowsScan base x e k (scan e k.table R)
assumes_other base x d e k [] none same f = record {
  knows = f.knows;
  orderly = record { number = same ∙ f.orderly.number; ascend = f.orderly.ascend; begun = f.orderly.begun; works = f.orderly.works; marked = f.orderly.marked; new = λ t above. record { unbegun = (f.orderly.new t above).unbegun; sound = (f.orderly.new t above).sound; undos = (f.orderly.new t above).undos } };
  settled = f.settled;
  image = f.image;
  left = f.left;
  undos = f.undos;
  plain = f.plain;
  born = f.born;
}
assumes_other base x d e k (r ∷ R) none same f = absurd (cc)

first_is : (o : Option Scan) (p : ℕ) → (assumed_by o p).first ≡ p
first_is None p = refl
first_is (Some z) p = refl

pub scans_on : (x : Recovery) (z : Scan) (clean : ℕ) (failing : List ℕ) → x.number ≡ x.first → z.clean ≡ clean → z.failing.items ≡ failing
    → ((k : Known) (d : Damage) → d.clean ≡ clean → d.failing ≡ failing → BeginsEpoch d k x.redo.table → FollowsBy x.geometry (Some z) d.first k)
    → Scans x (record x { scan = Some z }) clean failing
scans_on x z clean failing first is also follows = record { stands = stands; assumes = (is, also) }
  where
    stands : StandsOn x (record x { scan = Some z })
    stands s n c st =
        stands_with s n x c (Some z) x.redo x.audits st st.sizes
        (assumes_other c.image x.redo (assumed_by x.scan c.known.first) (assumed_by (Some z) c.known.first) c.known c.known.seen none (sym (first_is x.scan c.known.first)) st.redoes)
        (subst (λ g. FollowsBy g (Some z) c.known.first c.known) st.geometry (follows c.known (assumed_by (Some z) c.known.first) is also (begins_with (undamaged c.known.first) (assumed_by (Some z) c.known.first) c.known x.redo.table refl (st.begins none))))
        st.begins st.audits
      where
        none : c.known.seen ≡ []
        none = nil_from_length c.known.seen (omega (arith, st.counted, st.number, st.first, first))

pub tells_damage : (x : Recovery) → TellsDamage x x.first x.clean x.failing.items
tells_damage x s n c st =
    ap (λ m. let d : Damage = record { first = m; clean = x.clean; failing = x.failing.items } in d) st.first
    ∙ (ap (λ m. let d : Damage = record { first = c.known.first; clean = m; failing = x.failing.items } in d) st.clean
    ∙ ap (λ rs. let d : Damage = record { first = c.known.first; clean = fold clean_step c.known.first c.known.seen; failing = rs } in d) st.failing)
