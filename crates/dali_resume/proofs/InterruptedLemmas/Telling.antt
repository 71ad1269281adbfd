-- What stands behind an image tells at which stage of a restart its files are.
use Rattle.std.proofs.Common.{◌≡◌, ℕ, ◌+◌, ◌<◌, ◌≤◌, Bool, true, false, List, [], ◌∷◌, ◌++◌, length, drop, append_assoc, refl, ap, sym, subst, ◌∙◌, ◌⊎◌, inl, inr, arith}
use Rattle.std.specs.Prelude.{◌&&◌, ◌||◌, IsSome, not}
use Rattle.std.specs.List.{AllByRecursion, list_all, list_any}
use Rattle.std.proofs.lemmas.Bool.{and_parts, both_ways}
use Rattle.std.proofs.lemmas.List.{append-nil, length-append, length-drop}
use Rattle.std.proofs.lemmas.List.Concat.{flat_map-append}
use Rattle.dali_lists.proofs.Lists.{push-not_nil, drop_front}
use Rattle.dali_lists.proofs.Members.{all_parts}
use Rattle.dali_lists.proofs.Options.{some_of}
use Rattle.dali_geometry.specs.Sizes.{Sizes}
use Rattle.dali_record.specs.declared.records.Record.{Record}
use Rattle.dali_record.specs.declared.records.Record.TheVariants.{Format, Restarted}
use Rattle.dali_record.specs.Epochs.{Cut, cut, cut_step, last_epoch}
use Rattle.dali_record.specs.Files.{Files, is_restarted, is_restarted_first}
use Rattle.dali_record.specs.Legal.{IsLegal, IsLegalFor, Rules, rules_state, sizes_of}
use Rattle.dali_record.specs.Locks.{IsLockLegalIn}
use Rattle.dali_record.specs.Log.{last_of}
use Rattle.dali_record.proofs.Ends.{last_of_push}
use Rattle.dali_record.proofs.EpochRules.{format_first, rules_before}
use Rattle.dali_record.proofs.Pushes.{cut_push}
use Rattle.dali_record.proofs.Batches.{number_is_length}
use Rattle.dali_history.proofs.Prefixes.{IsLegalFor-front, sizes_of-front}
use Rattle.dali_history.proofs.Spelled.{AreSpelled-front}
use Rattle.dali_store.specs.Store.{Files as Disk}
use Rattle.dali_log.specs.Batch.{IsBody}
use Rattle.dali_log.specs.Log.{bodies, records_in}
use Rattle.dali_runs.specs.Run.{log_in}
use Rattle.dali_crash.specs.Starts.{IsLawful}
use Rattle.dali_crash.specs.Disks.Disks.{Spells}
use Rattle.dali_resume.specs.Batches.{records_of}
use Rattle.dali_resume.specs.Rules.{ends_restarted}
use Rattle.dali_resume.proofs.Numbers.{number_is_some}
use Rattle.dali_resume.proofs.Onward.{restart_rule}
use Rattle.dali_resume.proofs.Reading.{placed}
use Rattle.dali_resume.specs.Interrupted.Found.{FindsIt, IsResting}
use Rattle.dali_resume.specs.Interrupted.Rests.{EndsLogged, IsToBegin, StandsAlone, StandsTold, TellsStage}
use Rattle.dali_resume.specs.Interrupted.Stages.{IsFound, IsRestarting}
use Rattle.dali_resume.proofs.InterruptedLemmas.Stages.{behind_found, found_logged}

-- ---- ends of lists
abbrev HasEnd : {X : Type 0} → List X → Type 0
HasEnd {X} xs = (ys : List X) × (x : X) × (xs ≡ ys ++ x ∷ [])

ends : {X : Type 0} (x : X) (xs : List X) → HasEnd (x ∷ xs)
ends x [] = ([], x, refl)
ends x (y ∷ xs) = let w = ends y xs in (x ∷ w.0, w.1, ap (λ zs. x ∷ zs) w.2)

some_end : {X : Type 0} (xs : List X) → 0 < length xs → HasEnd xs
some_end [] h = absurd (omega (arith, h))
some_end (x ∷ xs) h = ends x xs

-- ---- the record that ends a log without a record in its last epoch
abbrev Separates : Record → Type 0
Separates x = ((rs ds : List ℕ) × (x ≡ Restarted rs ds)) ⊎ ((i h : ℕ) × (x ≡ Format i h))

separator : (c : Cut) (x : Record) → (cut_step c x).now.records ≡ [] → Separates x
separator c (Restarted rs ds) e = inl (rs, ds, refl)
separator c (Format i h) e = inr (i, h, refl)
separator c x e = absurd (push-not_nil c.now.records x e)

last_separates : (M : List Record) (x : Record) → (last_epoch (M ++ x ∷ [])).records ≡ [] → Separates x
last_separates M x e = separator (cut M) x (ap (λ (c : Cut). c.now.records) (sym (cut_push M x)) ∙ e)

-- where it isn't the first record it is that of a restart
restarted_ends :
    (M : List Record) (x : Record) → IsLegal (M ++ x ∷ []) → 0 < length M → (last_epoch (M ++ x ∷ [])).records ≡ []
    → (rs ds : List ℕ) × (x ≡ Restarted rs ds)
restarted_ends M x legal some none = by_kind (last_separates M x none)
  where
    by_kind : Separates x → (rs ds : List ℕ) × (x ≡ Restarted rs ds)
    by_kind (inl r) = r
    by_kind (inr f) =
        let s = sizes_of (M ++ x ∷ []) in
        let g = some_of (rules_state s (M ++ x ∷ [])) legal.rules in
        let none : M ≡ [] = format_first s M f.0 f.1 g.0 (ap (λ z. rules_state s (M ++ z ∷ [])) (sym f.2) ∙ g.1) in
        absurd (omega (arith, some, ap length none))

-- a restart logs nothing right behind another
pub not_twice : (s : Sizes) (N : List Record) (rs ds us vs : List ℕ) → IsSome (rules_state s ((N ++ Restarted rs ds ∷ []) ++ Restarted us vs ∷ [])) → ⊥
not_twice s N rs ds us vs legal =
    let h = some_of (rules_state s ((N ++ Restarted rs ds ∷ []) ++ Restarted us vs ∷ [])) legal in
    let b = rules_before s (N ++ Restarted rs ds ∷ []) (Restarted us vs) h.0 h.1 in
    let a = rules_before s N (Restarted rs ds) b.0 b.1 in
    both_ways b.0.restarted (restart_rule s b.0 h.0 us vs b.2).0 (ap (λ (z : Rules). z.restarted) (restart_rule s a.0 b.0 rs ds a.2).1)

-- so a record stands in the epoch that it ended
some_closed :
    (M : List Record) (rs ds : List ℕ) → IsLegal (M ++ Restarted rs ds ∷ []) → 1 < length M
    → (r : Record) × (E : List Record) × ((last_epoch M).records ≡ r ∷ E)
some_closed M rs ds legal two = by_records (last_epoch M).records refl
  where
    by_records : (X : List Record) → (last_epoch M).records ≡ X → (r : Record) × (E : List Record) × ((last_epoch M).records ≡ r ∷ E)
    by_records (r ∷ E) e = (r, E, e)
    by_records [] e =
        let n = some_end M (omega (arith, two)) in
        let s = sizes_of (M ++ Restarted rs ds ∷ []) in
        let legal_n : IsLegalFor s (n.0 ++ n.1 ∷ []) = subst (IsLegalFor s) n.2 (IsLegalFor-front s M (Restarted rs ds ∷ []) legal) in
        let same : sizes_of (n.0 ++ n.1 ∷ []) ≡ s = ap sizes_of (sym n.2) ∙ sym (sizes_of-front M (Restarted rs ds ∷ []) (omega (arith, two))) in
        let some : 0 < length n.0 = omega (arith, two, ap length n.2, length-append n.0 (n.1 ∷ [])) in
        let z = restarted_ends n.0 n.1 (subst (λ y. IsLegalFor y (n.0 ++ n.1 ∷ [])) (sym same) legal_n) some (ap (λ K. (last_epoch K).records) (sym n.2) ∙ e) in
        absurd (not_twice s n.0 z.0 z.1 rs ds (subst (λ K. IsSome (rules_state s (K ++ Restarted rs ds ∷ []))) (n.2 ∙ ap (λ y. n.0 ++ y ∷ []) z.2) legal.rules))

restart_closes : (c : Cut) (x : Record) → is_restarted x ≡ true → (cut_step c x).now.records ≡ []
restart_closes c (Restarted rs ds) e = refl
restart_closes c x e = absurd (cc)

not_restarted : (L : List Record) (r : Record) (E : List Record) → (last_epoch L).records ≡ r ∷ E → ends_restarted (last_of L) ≡ false
not_restarted [] r E some = refl
not_restarted (y ∷ L) r E some = ap (λ M. ends_restarted (last_of M)) w.2 ∙ (ap ends_restarted (last_of_push w.0 w.1) ∙ by_test (is_restarted w.1) refl)
  where
    w : HasEnd (y ∷ L)
    w = ends y L

    by_test : (b : Bool) → is_restarted w.1 ≡ b → is_restarted w.1 ≡ false
    by_test false e = e
    by_test true e =
        let closed : (last_epoch (w.0 ++ w.1 ∷ [])).records ≡ [] = ap (λ (c : Cut). c.now.records) (cut_push w.0 w.1) ∙ restart_closes (cut w.0) w.1 e in
        let never : r ∷ E ≡ [] = sym some ∙ (ap (λ M. (last_epoch M).records) w.2 ∙ closed) in
        absurd (cc)

-- ---- a front of a log

abbrev LockedCut : Cut → Type 0
LockedCut c = AllByRecursion (λ e. IsLockLegalIn e.records) c.closed × IsLockLegalIn c.now.records

lawful_before : (M : List Record) (rs ds : List ℕ) → 0 < length M → IsLawful (M ++ Restarted rs ds ∷ []) → IsLawful M
lawful_before M rs ds some is = record {
  some_index = subst (λ s. 0 < s.index) same is.some_index;
  some_heap = subst (λ s. 0 < s.heap) same is.some_heap;
  spelled = AreSpelled-front M (Restarted rs ds ∷ []) is.spelled;
  legal = subst (λ s. IsLegalFor s M) same (IsLegalFor-front (sizes_of (M ++ Restarted rs ds ∷ [])) M (Restarted rs ds ∷ []) is.legal);
  locks = (epochs.0, epochs.1.0);
}
  where
    same : sizes_of (M ++ Restarted rs ds ∷ []) ≡ sizes_of M
    same = sizes_of-front M (Restarted rs ds ∷ []) some

    cut_locks : LockedCut (cut_step (cut M) (Restarted rs ds))
    cut_locks = subst LockedCut (cut_push M (Restarted rs ds)) is.locks

    epochs : AllByRecursion (λ e. IsLockLegalIn e.records) (cut M).closed × AllByRecursion (λ e. IsLockLegalIn e.records) ((cut M).now ∷ [])
    epochs = all_parts (λ e. IsLockLegalIn e.records) (cut M).closed ((cut M).now ∷ []) cut_locks.0

-- ---- batches
good_parts :
    (bs : List (List Record)) (b : List Record) → list_all is_restarted_first (bs ++ b ∷ []) ≡ true
    → (list_all is_restarted_first bs ≡ true) × (is_restarted_first b ≡ true)
good_parts [] b e = (refl, (and_parts (is_restarted_first b) true e).0)
good_parts (c ∷ bs) b e =
    let p = and_parts (is_restarted_first c) (list_all is_restarted_first (bs ++ b ∷ [])) e in
    let w = good_parts bs b p.1 in
    (ap (λ x. x && list_all is_restarted_first bs) p.0 ∙ w.0, w.1)

-- a batch that a disk has isn't empty
last_filled : (bs : List (List Record)) (b : List Record) → AllByRecursion IsBody (bodies (bs ++ b ∷ [])) → 0 < length b
last_filled [] [] all = absurd (omega (arith, all.0.0))
last_filled [] (r ∷ b) all = omega arith
last_filled (c ∷ bs) b all = last_filled bs b all.1

-- a Restarted that ends a batch is alone in it, where it is the first of it
has_restarted : (c : List Record) (rs ds : List ℕ) → list_any is_restarted (c ++ Restarted rs ds ∷ []) ≡ true
has_restarted [] rs ds = refl
has_restarted (r ∷ c) rs ds = by_first (is_restarted r) (has_restarted c rs ds)
  where
    by_first : (b : Bool) → list_any is_restarted (c ++ Restarted rs ds ∷ []) ≡ true → (b || list_any is_restarted (c ++ Restarted rs ds ∷ [])) ≡ true
    by_first true e = refl
    by_first false e = e

alone : (c : List Record) (rs ds : List ℕ) → is_restarted_first (c ++ Restarted rs ds ∷ []) ≡ true → c ≡ []
alone [] rs ds e = refl
alone (r ∷ c) rs ds e = let never : false ≡ true = sym (ap not (has_restarted c rs ds)) ∙ e in absurd (cc)

abbrev HasFirst : List (List Record) → Type 0
HasFirst bs = (r : Record) × (b : List Record) × (rest : List (List Record)) × (bs ≡ (r ∷ b) ∷ rest)

first_of : (bs more rest : List (List Record)) (x : Record) → bs ++ more ≡ (x ∷ []) ∷ rest → 0 < length (records_in bs) → HasFirst bs
first_of [] more rest x e some = absurd (omega (arith, some))
first_of (c ∷ bs) more rest x e some = (x, [], bs, ap (λ z. z ∷ bs) (let same : c ≡ x ∷ [] = cc in same))

-- ---- files that a disk spells
module _ (fs : Disk) (F : Files) (is : Spells fs F) (finds : FindsIt F) where
  abbrev L : List Record
  L = log_in F

  abbrev f : IsFound (log_in F) F.batches F.gates F
  f = finds.found

  abbrev bs : List (List Record)
  bs = f.fits.0

  first_log : records_in finds.found.fits.0 ≡ finds.found.front
  first_log = f.fits.1.fits.log

  first_some : 0 < F.first
  first_some = number_is_some (sizes_of f.front) _ f.front (record F { batches = bs }) (last_epoch f.front) f.fits.1
      (first_of bs f.more is.log.format.2 (Format is.log.format.0 is.log.format.1) (f.parts ∙ is.log.format.3) (omega (arith, ap length first_log, f.some)))
      f.place.placed

  -- the image isn't far from the end, where the last epoch has no record and no batch stands behind it
  near : f.more ≡ [] → (last_epoch L).records ≡ [] → length L ≤ F.first + 1
  near none empty = omega (arith, at, number_is_length L, ap length empty)
    where
      same : finds.found.front ≡ log_in F
      same = sym (append-nil f.front) ∙ (ap (λ X. f.front ++ records_of X) (sym none) ∙ f.log)

      at : (last_epoch (log_in F)).first ≤ F.first + 1
      at = subst (λ M. (last_epoch M).first ≤ F.first + 1) same
          (placed (sizes_of f.front) f.front (last_epoch f.front) F.first (subst IsLegal (sym same) finds.lawful.legal).rules f.fits.1.fits.epoch).1

  -- ---- the record of a restart ends it, behind another one
  module _ (empty : (last_epoch L).records ≡ []) (far : F.first + 1 < length L) (older : List (List Record)) (b : List Record) (more_is : f.more ≡ older ++ b ∷ []) where
    abbrev B : List (List Record)
    B = bs ++ older

    abbrev M : List Record
    M = records_in (bs ++ older)

    batches : F.batches ≡ B ++ b ∷ []
    batches = sym f.parts ∙ (ap (λ X. bs ++ X) more_is ∙ sym (append_assoc bs older (b ∷ [])))

    log : L ≡ M ++ b
    log = ap records_in batches ∙ (flat_map-append (λ x. x) B (b ∷ []) ∙ ap (λ X. M ++ X) (append-nil b))

    good : (list_all is_restarted_first older ≡ true) × (is_restarted_first b ≡ true)
    good = good_parts older b (ap (list_all is_restarted_first) (sym more_is) ∙ f.good)

    ended : HasEnd b
    ended = some_end b (last_filled B b (subst (λ X. AllByRecursion IsBody (bodies X)) batches is.log.front.sizes))

    log_end : L ≡ (M ++ ended.0) ++ ended.1 ∷ []
    log_end = log ∙ (ap (λ X. M ++ X) ended.2 ∙ sym (append_assoc M ended.0 (ended.1 ∷ [])))

    last : (rs ds : List ℕ) × (ended.1 ≡ Restarted rs ds)
    last =
        restarted_ends (M ++ ended.0) ended.1 (subst IsLegal log_end finds.lawful.legal)
        (omega (arith, far, ap length log_end, length-append (M ++ ended.0) (ended.1 ∷ []))) (ap (λ X. (last_epoch X).records) (sym log_end) ∙ empty)

    abbrev rs : List ℕ
    rs = last.0

    abbrev ds : List ℕ
    ds = last.1

    batch : b ≡ Restarted rs ds ∷ []
    batch = is_end ∙ ap (λ X. X ++ Restarted rs ds ∷ []) (alone ended.0 rs ds (ap is_restarted_first (sym is_end) ∙ good.1))
      where
        is_end : b ≡ ended.0 ++ Restarted last.0 last.1 ∷ []
        is_end = ended.2 ∙ ap (λ x. ended.0 ++ x ∷ []) last.2

    whole : L ≡ M ++ Restarted rs ds ∷ []
    whole = log ∙ ap (λ X. M ++ X) batch

    size : length L ≡ length M + 1
    size = ap length whole ∙ length-append M (Restarted rs ds ∷ [])

    lawful : IsLawful (M ++ Restarted rs ds ∷ [])
    lawful = subst IsLawful whole finds.lawful

    some_before : 0 < length M
    some_before = omega (arith, far, size)

    restarting : IsRestarting M B
    restarting = record {
      lawful = lawful_before M rs ds some_before lawful;
      batches = refl;
      some = some_closed M rs ds lawful.legal (omega (arith, far, size, first_some));
    }

    found : IsFound M B F.gates (record F { batches = B })
    found = record {
      batches = refl;
      gates = refl;
      place = record { placed = f.place.placed; moved = f.place.moved; some = inr (omega (arith, far, size, first_some)); read = inr (omega (arith, far, size)) };
      front = f.front;
      more = older;
      log = ap (λ X. X ++ records_of older) (sym first_log) ∙ sym (flat_map-append (λ x. x) bs older);
      some = f.some;
      fits = f.fits;
      parts = refl;
      good = good.0;
    }

    ends_logged : EndsLogged F
    ends_logged = record {
      log = M;
      batches = B;
      restarting = restarting;
      behind = omega (arith, far, size);
      logged = found_logged M B F.gates F rs ds restarting
          (subst (λ s. IsLegalFor s (M ++ Restarted rs ds ∷ [])) (sizes_of-front M (Restarted rs ds ∷ []) some_before) lawful.legal)
          (batches ∙ ap (λ X. B ++ X ∷ []) batch) found;
    }

  by_far : (last_epoch L).records ≡ [] → F.first + 1 < length L → EndsLogged F
  by_far empty far = by_more f.more refl
    where
      by_more : (X : List (List Record)) → finds.found.more ≡ X → EndsLogged F
      by_more [] e = absurd (omega (arith, far, near e empty))
      by_more (x ∷ X) e = let w = ends x X in ends_logged empty far w.0 w.1 (e ∙ w.2)

  -- ---- or stands alone there
  by_alone : (last_epoch L).records ≡ [] → length L ≡ F.first + 1 → IsResting F → StandsTold F
  by_alone empty size rests = record {
    rolled = last.0;
    deleted = last.1;
    alone = ap (λ n. drop n L) at ∙ (ap (drop (length end.0)) end.2 ∙ (drop_front end.0 (end.1 ∷ []) ∙ ap (λ x. x ∷ []) last.2));
    resting = rests;
  }
    where
      end : HasEnd (log_in F)
      end = some_end L (omega (arith, size))

      at : F.first ≡ length end.0
      at = omega (arith, size, ap length end.2, length-append end.0 (end.1 ∷ []))

      last : (rs ds : List ℕ) × (end.1 ≡ Restarted rs ds)
      last =
          restarted_ends end.0 end.1 (subst IsLegal end.2 finds.lawful.legal) (omega (arith, at, first_some))
          (ap (λ X. (last_epoch X).records) (sym end.2) ∙ empty)

pub tells_stage : TellsStage
tells_stage fs F is finds = by_records (last_epoch (log_in F)).records refl
  where
    by_rest : (last_epoch (log_in F)).records ≡ [] → (Q : List Record) → drop F.first (log_in F) ≡ Q → IsToBegin F ⊎ StandsAlone F ⊎ StandsTold F ⊎ EndsLogged F
    by_rest empty [] e = inr (inl (e, finds.resting empty (omega (arith, length-drop F.first (log_in F), ap length e))))
    by_rest empty (x ∷ []) e =
        let size : length (log_in F) ≡ F.first + 1 = omega (arith, length-drop F.first (log_in F), ap length e) in
        inr (inr (inl (by_alone fs F is finds empty size (finds.resting empty (omega (arith, size))))))
    by_rest empty (x ∷ y ∷ Q) e = inr (inr (inr (by_far fs F is finds empty (omega (arith, length-drop F.first (log_in F), ap length e)))))

    by_records : (X : List Record) → (last_epoch (log_in F)).records ≡ X → IsToBegin F ⊎ StandsAlone F ⊎ StandsTold F ⊎ EndsLogged F
    by_records [] e = by_rest e (drop F.first (log_in F)) refl
    by_records (r ∷ E) e =
        let w = finds.restarting r E e in
        inl (record { restarting = w; behind = behind_found (log_in F) F.batches F.gates F w finds.found; last = not_restarted (log_in F) r E e })
