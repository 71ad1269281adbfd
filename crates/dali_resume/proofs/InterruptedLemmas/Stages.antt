-- Each stage of a restart answers alike, and each call of it leaves a stage.
use Rattle.std.proofs.Common.{◌≡◌, ℕ, true, zero, suc, ◌+◌, ◌<◌, ◌≤◌, List, [], ◌∷◌, ◌++◌, length, take, drop, None, append_assoc, refl, ap, sym, subst, ◌∙◌, ◌⊎◌, inl, inr, ⊎_elim, arith}
use Rattle.std.specs.Prelude.{sum_by}
use Rattle.std.specs.List.{AllByRecursion, list_all}
use Rattle.std.proofs.lemmas.List.{append-nil, length-append, take-take}
use Rattle.std.proofs.lemmas.List.Concat.{flat_map-append}
use Rattle.dali_lists.proofs.Lists.{get_push}
use Rattle.dali_lists.proofs.Members.{all_left}
use Rattle.dali_geometry.specs.Sizes.{Sizes}
use Rattle.dali_record.specs.declared.records.Record.{Record}
use Rattle.dali_record.specs.declared.records.Record.TheVariants.{Format, Restarted}
use Rattle.dali_record.specs.Epochs.{Cut, last_epoch}
use Rattle.dali_record.specs.Damage.{rolled_list, deleted_list}
use Rattle.dali_record.specs.Spelling.{record_length}
use Rattle.dali_record.specs.Legal.{IsLegal, sizes_of}
use Rattle.dali_record.specs.Files.{Files, batch_length, is_restarted_first, next_after}
use Rattle.dali_record.proofs.Pushes.{cut_push}
use Rattle.dali_history.specs.Recovered.{base_of, recovered}
use Rattle.dali_history.specs.History.{IsHistory}
use Rattle.dali_history.proofs.Prefixes.{sizes_of-front}
use Rattle.dali_history.proofs.Restarts.{sizes_of-restarted}
use Rattle.dali_store.specs.declared.store.FileName.TheVariants.{Log, Anchor}
use Rattle.dali_store.specs.Store.{Files as Disk, SameBut}
use Rattle.dali_log.specs.Appending.{Adds, next_place}
use Rattle.dali_log.specs.Batch.{IsBody, IsClosedAt, batches}
use Rattle.dali_log.specs.Log.{AreSpelled, HasFormat, IsFront, LogOf, bodies, records_in}
use Rattle.dali_log.proofs.Rows.{batches-append, grown}
use Rattle.dali_log.proofs.Unique.{one_log}
use Rattle.dali_log.proofs.Fronts.{bodies_join}
use Rattle.dali_log.proofs.Bytes.{batches_length}
use Rattle.dali_runs.specs.Run.{log_in}
use Rattle.dali_crash.specs.Checkpoints.{side_of, turned as turned_to}
use Rattle.dali_crash.specs.Starts.{IsRestarted, IsFresh, IsLawful}
use Rattle.dali_crash.proofs.Closing.{lawful_restarts}
use Rattle.dali_crash.proofs.Traces.{fresh_rests}
use Rattle.dali_crash.specs.Disks.Disks.{AllSpell, IsImageOf, Spells, image_file, image_name, sizes_in}
use Rattle.dali_log.specs.Anchors.{IsAnchor}
use Rattle.dali_crash.specs.Disks.Bridges.{closed_head}
use Rattle.dali_crash.proofs.DisksLemmas.Bridges.{ends_at, spells_unmoved}
use Rattle.dali_crash.proofs.DisksLemmas.Once.{anchor_once}
use Rattle.dali_log.specs.Anchors.{AreAnchored}
use Rattle.dali_crash.proofs.DisksLemmas.Changes.{spells_beside, spells_longer, spells_turned}
use Rattle.dali_resume.specs.Again.{Outcome, closing, closed_log, with_closing, turned, outcome_is}
use Rattle.dali_resume.specs.Onward.{FitsFront, HandedOut, IsAgainOnward, verdict_of}
use Rattle.dali_resume.specs.Batches.{misplaced, records_of, verdict_over}
use Rattle.dali_resume.proofs.Again.{turned_is_fresh as fresh_behind}
use Rattle.dali_resume.proofs.Batches.{answers_over_batches, both_good, fits_in_batches, front_answers_over_batches}
use Rattle.dali_resume.proofs.Numbers.{image_stands_within}
use Rattle.dali_resume.proofs.Stopped.{restarts_onward}
use Rattle.dali_resume.specs.Interrupted.Stages.{IsRestarting, IsFound, IsLogged, IsTurned, AnswersAs, EveryStageAnswers, StartsBehind, FoundLogged, closing_bodies, HoldsImage, IsAppending, IsMoving, AppendStages, Appended, LogSettles, MoveStages, Moved, AnchorSettles, Written}

-- ---- the files
again_at : (L : List Record) (B : List (List Record)) (n : ℕ) (D : Files) → IsHistory L → IsRestarting L B → IsFound L B n D → IsAgainOnward L D
again_at L B n D h w f =
    let e = sym f.log in
    subst (λ M. IsAgainOnward M D) f.log
    (restarts_onward f.front (records_of f.more) D w.some.0 w.some.1 (subst IsHistory e h) f.some f.fits (ap records_in f.batches ∙ (w.batches ∙ e)) (ap (λ M. (last_epoch M).records) f.log ∙ w.some.2))

pub found_log : (L : List Record) (B : List (List Record)) (n : ℕ) (D : Files) → IsRestarting L B → IsFound L B n D → log_in D ≡ L
found_log L B n D w f = ap records_in f.batches ∙ w.batches

pub closing_log : (L : List Record) (B : List (List Record)) (n : ℕ) (D : Files) → IsRestarting L B → IsFound L B n D → log_in (with_closing L D) ≡ closed_log L
closing_log L B n D w f = flat_map-append (λ b. b) D.batches ((closing L ∷ []) ∷ []) ∙ ap (λ M. M ++ closing L ∷ []) (found_log L B n D w f)

-- some record stands behind the image: in its front, or in the batches behind that
pub behind_found : (L : List Record) (B : List (List Record)) (n : ℕ) (D : Files) → IsRestarting L B → IsFound L B n D → D.first < length L
behind_found L B n D w f = by_more (records_of f.more) refl
  where
    by_more : (Q : List Record) → records_of f.more ≡ Q → D.first < length L
    by_more (x ∷ Q) e = omega (arith, f.fits.1.fits.count, ap length f.log, length-append f.front (records_of f.more), ap length e)
    by_more [] e =
        omega (
          arith,
          ap length same,
          image_stands_within (sizes_of f.front) (base_of (sizes_of f.front) f.front) f.front (record D { batches = f.fits.0 }) w.some.0 w.some.1 f.fits.1
              (subst IsLegal (sym same) w.lawful.legal) (ap (λ M. (last_epoch M).records) same ∙ w.some.2),
        )
      where
        same : f.front ≡ L
        same = sym (append-nil f.front) ∙ (ap (λ X. f.front ++ X) (sym e) ∙ f.log)

-- ---- over batches
abbrev AnswersOver : Sizes → Files → Outcome → Type 0
AnswersOver s F o = (k : ℕ) × (F.place ≡ sum_by batch_length (take k F.batches)) × (verdict_over s F (drop k F.batches) ≡ HandedOut o)

take_part : {X : Type 0} (k : ℕ) (A B : List X) → take (length (take k A)) (A ++ B) ≡ take k A
take_part zero [] B = refl
take_part zero (a ∷ A) B = refl
take_part (suc k) [] B = refl
take_part (suc k) (a ∷ A) B = ap (λ z. a ∷ z) (take_part k A B)

drop_part : {X : Type 0} (k : ℕ) (A B : List X) → drop (length (take k A)) (A ++ B) ≡ drop k A ++ B
drop_part zero [] B = refl
drop_part zero (a ∷ A) B = refl
drop_part (suc k) [] B = refl
drop_part (suc k) (a ∷ A) B = drop_part k A B

-- the image fits a front of the log, whose batches are the first
over_front : (s : Sizes) (K : List Record) (F : Files) (more : List (List Record)) (o : Outcome) (front : FitsFront s K F) → list_all is_restarted_first more ≡ true → F.batches ≡ front.0 ++ more → verdict_of s F (K ++ records_of more) ≡ HandedOut o → AnswersOver s F o
over_front s K F more o front good parts answer =
    let w = front_answers_over_batches s K F more front good in (
      length (take w.0 front.0),
      w.1 ∙ ap (sum_by batch_length) (sym (ap (take (length (take w.0 front.0))) parts ∙ take_part w.0 front.0 more)),
      ap (verdict_over s F) (ap (drop (length (take w.0 front.0))) parts ∙ drop_part w.0 front.0 more) ∙ (w.2 ∙ answer),
    )

front_sizes : (L : List Record) (B : List (List Record)) (n : ℕ) (D : Files) (f : IsFound L B n D) → sizes_of f.front ≡ sizes_of L
front_sizes L B n D f = sym (sizes_of-front f.front (records_of f.more) f.some) ∙ ap sizes_of f.log

found_over : (L : List Record) (B : List (List Record)) (n : ℕ) (D : Files) → IsHistory L → IsRestarting L B → IsFound L B n D → AnswersOver (sizes_of L) D (outcome_is L)
found_over L B n D h w f =
    subst (λ z. AnswersOver z D (outcome_is L)) (front_sizes L B n D f)
    (over_front (sizes_of f.front) f.front D f.more (outcome_is L) f.fits f.good (f.batches ∙ sym f.parts) answer)
  where
    answer : verdict_of (sizes_of f.front) D (f.front ++ records_of f.more) ≡ HandedOut (outcome_is L)
    answer = ap (λ z. verdict_of z D (f.front ++ records_of f.more)) (front_sizes L B n D f) ∙ (ap (verdict_of (sizes_of L) D) f.log ∙ (again_at L B n D h w f).first)

logged_over : (L : List Record) (B : List (List Record)) (n : ℕ) (D : Files) → IsHistory L → IsRestarting L B → IsFound L B n D → AnswersOver (sizes_of L) (with_closing L D) (outcome_is L)
logged_over L B n D h w f =
    subst (λ z. AnswersOver z (with_closing L D) (outcome_is L)) (front_sizes L B n D f)
    (over_front (sizes_of f.front) f.front (with_closing L D) (f.more ++ (closing L ∷ []) ∷ []) (outcome_is L) f.fits (both_good f.more ((closing L ∷ []) ∷ []) f.good refl) parts answer)
  where
    parts : D.batches ++ (closing L ∷ []) ∷ [] ≡ f.fits.0 ++ (f.more ++ (closing L ∷ []) ∷ [])
    parts = ap (λ bs. bs ++ (closing L ∷ []) ∷ []) (f.batches ∙ sym f.parts) ∙ append_assoc f.fits.0 f.more ((closing L ∷ []) ∷ [])

    log : f.front ++ records_of (f.more ++ (closing L ∷ []) ∷ []) ≡ closed_log L
    log =
        ap (λ Q. f.front ++ Q) (flat_map-append (λ b. b) f.more ((closing L ∷ []) ∷ []))
        ∙ (sym (append_assoc f.front (records_of f.more) (closing L ∷ [])) ∙ ap (λ M. M ++ closing L ∷ []) f.log)

    answer : verdict_of (sizes_of f.front) (with_closing L D) (f.front ++ records_of (f.more ++ (closing L ∷ []) ∷ [])) ≡ HandedOut (outcome_is L)
    answer =
        ap (λ z. verdict_of z (with_closing L D) (f.front ++ records_of (f.more ++ (closing L ∷ []) ∷ []))) (front_sizes L B n D f)
        ∙ (ap (verdict_of (sizes_of L) (with_closing L D)) log ∙ (again_at L B n D h w f).logged)

-- the image of the restart fits the whole log
turned_over : (L : List Record) (B : List (List Record)) (n : ℕ) (D : Files) → IsHistory L → IsRestarting L B → IsFound L B n D → AnswersOver (sizes_of L) (turned L D) (outcome_is L)
turned_over L B n D h w f = (k.0, k.1, (answers_over_batches (sizes_of L) (turned L D) (closed_log L) (drop k.0 (turned L D).batches) k.2).0 none ∙ again.turned_again)
  where
    again : IsAgainOnward L D
    again = again_at L B n D h w f

    k : (k : ℕ) × ((turned L D).place ≡ sum_by batch_length (take k (turned L D).batches)) × (records_of (drop k (turned L D).batches) ≡ drop (turned L D).first (closed_log L)) × (misplaced (drop k (turned L D).batches ++ []) ≡ None)
    k = fits_in_batches (sizes_of L) (recovered (sizes_of L) L) (closed_log L) (turned L D) (last_epoch (closed_log L)) [] again.turned_fits refl

    none : misplaced (drop k.0 (turned L D).batches) ≡ None
    none = ap misplaced (sym (append-nil (drop k.0 (turned L D).batches))) ∙ k.3

-- ---- both
answers_by : (L K : List Record) (F : Files) → log_in F ≡ K → verdict_of (sizes_of L) F K ≡ HandedOut (outcome_is L) → AnswersOver (sizes_of L) F (outcome_is L) → AnswersAs L F
answers_by L K F e v over = record { records = ap (verdict_of (sizes_of L) F) e ∙ v; batches = over }

pub every_stage_answers : EveryStageAnswers
every_stage_answers L B n F h w = record {
  found = λ f. answers_by L L F (found_log L B n F w f) (again_at L B n F h w f).first (found_over L B n F h w f);
  logged = λ g. subst (AnswersAs L) (sym g.2) (answers_by L (closed_log L) (with_closing L g.0) (closing_log L B n g.0 w g.1) (again_at L B n g.0 h w g.1).logged (logged_over L B n g.0 h w g.1));
  turned = λ g. subst (AnswersAs L) (sym g.2) (answers_by L (closed_log L) (turned L g.0) (closing_log L B n g.0 w g.1) (again_at L B n g.0 h w g.1).turned_again (turned_over L B n g.0 h w g.1));
}

pub closed_lawful : (L : List Record) (B : List (List Record)) → IsRestarting L B → IsLawful (closed_log L)
closed_lawful L B w = lawful_restarts L w.some.0 w.some.1 w.lawful w.some.2

pub same_sizes : (L : List Record) → sizes_of (closed_log L) ≡ sizes_of L
same_sizes L = sizes_of-restarted L (rolled_list (last_epoch L)) (deleted_list (last_epoch L))

-- the image stands right before the batch of Restarted
pub turned_is_fresh : (L : List Record) (B : List (List Record)) (n : ℕ) (D : Files) → IsRestarting L B → IsFound L B n D → IsRestarted (closed_log L) (turned L D)
turned_is_fresh L B n D w f = fresh_behind L D w.some.0 w.some.1 w.some.2 (found_log L B n D w f)

pub starts_behind : StartsBehind
starts_behind L B n F s w g log rules fits may end current = record {
  lawful = subst IsLawful (sym log) (closed_lawful L B w);
  rules = rules;
  fits = fits;
  rests = fresh_rests s.log s.vault F (record {
    vault = may;
    none = ap (λ M. (last_epoch M).records) log ∙ ap (λ (q : Cut). q.now.records) (cut_push L (closing L));
    files = subst (λ M. IsFresh M F) (sym log) (subst (IsFresh (closed_log L)) (sym g.2) fresh);
    end = end;
    current = ap (λ (z : Files). z.gates) g.2 ∙ (ap (λ m. m + 1) g.1.gates ∙ sym current);
  });
}
  where
    fresh : IsFresh (closed_log L) (turned L g.0)
    fresh = record { log = closing_log L B n g.0 w g.1; kind = inr (turned_is_fresh L B n g.0 w g.1) }

-- ---- a log that ends with the batch of Restarted
take_front : {X : Type 0} (A B : List X) → take (length A) (A ++ B) ≡ A
take_front [] B = refl
take_front (a ∷ A) B = ap (λ z. a ∷ z) (take_front A B)

pub found_logged : FoundLogged
found_logged L B n F rs ds w legal batches found = (
  record F { batches = B },
  found,
  ap (λ bs. let G : Files = record { batches = bs; gates = F.gates; number = F.number; place = F.place; first = F.first; weight = F.weight; next = F.next; image = F.image; table = F.table } in G) (batches ∙ ap (λ r. B ++ (r ∷ []) ∷ []) closes),
)
  where
    lists : (rs ≡ rolled_list (last_epoch (take (length L) (L ++ Restarted rs ds ∷ [])))) × (ds ≡ deleted_list (last_epoch (take (length L) (L ++ Restarted rs ds ∷ []))))
    lists = legal.scans (length L) rs ds (get_push L (Restarted rs ds))

    closes : Restarted rs ds ≡ closing L
    closes =
        ap (λ xs. Restarted xs ds) (lists.0 ∙ ap (λ M. rolled_list (last_epoch M)) (take_front L (Restarted rs ds ∷ [])))
        ∙ ap (λ xs. Restarted (rolled_list (last_epoch L)) xs) (lists.1 ∙ ap (λ M. deleted_list (last_epoch M)) (take_front L (Restarted rs ds ∷ [])))

-- ---- the batch of Restarted
closing_spelled : (L : List Record) (B : List (List Record)) → IsRestarting L B → AllByRecursion AreSpelled ((closing L ∷ []) ∷ [])
closing_spelled L B w = (((closed_lawful L B w).spelled (length L) (closing L) (get_push L (closing L)), tt), tt)

found_at : (old : Disk → Type 0) (L : List Record) (B : List (List Record)) (n : ℕ) → AllSpell old (IsFound L B n) → (d : Disk) → old d → LogOf d.log B (sum_by batch_length B)
found_at old L B n all d left =
    let G = all d left in
    let log : LogOf d.log B G.1.end = subst (λ M. LogOf d.log M G.1.end) G.2.batches G.1.log in
    subst (LogOf d.log B) (ends_at d.log B G.1.end log) log

logged_by : (L : List Record) (B : List (List Record)) (n : ℕ) (c d l : Disk) (D : Files) → IsRestarting L B → IsFound L B n D → Spells d D → SameBut Log d c → LogOf l.log B (sum_by batch_length B) → Adds (sum_by batch_length B) (closing_bodies L) l.log c.log → Spells c (with_closing L D)
logged_by L B n c d l D w f is same log adds =
    spells_longer c d D ((closing L ∷ []) ∷ []) (next_place (sum_by batch_length B) (closing_bodies L)) is same
    (subst (λ M. LogOf c.log (M ++ (closing L ∷ []) ∷ []) (next_place (sum_by batch_length B) (closing_bodies L))) (sym f.batches) (grown l.log c.log B ((closing L ∷ []) ∷ []) (sum_by batch_length B) log (closing_spelled L B w) adds))

-- the first batch of a log with one batch more, where it isn't this one
format_first : (B : List (List Record)) (x : List Record) → HasFormat (B ++ x ∷ []) → 0 < length B → HasFormat B
format_first [] x format some = absurd (omega (arith, some))
format_first (b ∷ B) x format some = (format.0, format.1, B, ap (λ z. z ∷ B) (let e : b ≡ Format format.0 format.1 ∷ [] = cc in e))

some_batch : (L : List Record) (B : List (List Record)) → IsRestarting L B → 0 < length B
some_batch L B w = by_batches B (w.batches)
  where
    by_batches : (C : List (List Record)) → records_in C ≡ L → 0 < length C
    by_batches [] e = absurd (no_record L (sym e) w.some.2)
      where
        no_record : (K : List Record) → K ≡ [] → (last_epoch K).records ≡ w.some.0 ∷ w.some.1 → ⊥
        no_record [] q h = cc
        no_record (r ∷ K) q h = cc
    by_batches (b ∷ C) e = omega arith

-- where the log ends before the batch it hasn't the batch
more_at_least : {X : Type 0} (B : List X) (x : X) → B ≡ B ++ x ∷ [] → ⊥
more_at_least B x e = omega (arith, ap length e, length-append B (x ∷ []))

closed_before : (bytes : List ℕ) (B : List (List Record)) (x : List Record) (e : ℕ) → LogOf bytes (B ++ x ∷ []) e → HasFormat B → IsClosedAt (sum_by batch_length B) bytes → ⊥
closed_before bytes B x e log format closed = more_at_least B x (one_log bytes B (B ++ x ∷ []) (sum_by batch_length B) e shorter log).0
  where
    p : ℕ
    p = length (batches (bodies B))

    parts : take e bytes ≡ batches (bodies B) ++ batches (bodies (x ∷ []))
    parts = log.front.spells ∙ (ap batches (bodies_join B (x ∷ [])) ∙ batches-append (bodies B) (bodies (x ∷ [])))

    within : length (batches (bodies B)) ≤ e
    within = omega (arith, log.front.place, ap length (ap batches (bodies_join B (x ∷ [])) ∙ batches-append (bodies B) (bodies (x ∷ []))), length-append (batches (bodies B)) (batches (bodies (x ∷ []))))

    spells : take (length (batches (bodies B))) bytes ≡ batches (bodies B)
    spells = sym (take-take (length (batches (bodies B))) e bytes within) ∙ (ap (take p) parts ∙ take_front (batches (bodies B)) (batches (bodies (x ∷ []))))

    front : IsFront bytes B p
    front = record { place = refl; spells = spells; sizes = all_left IsBody (bodies B) (bodies (x ∷ [])) (subst (AllByRecursion IsBody) (bodies_join B (x ∷ [])) log.front.sizes); each = all_left AreSpelled B (x ∷ []) log.front.each; first = inr format }

    at : length (batches (bodies B)) ≡ sum_by batch_length B
    at = batches_length B front.each

    shorter : LogOf bytes B (sum_by batch_length B)
    shorter = record { front = subst (IsFront bytes B) at front; format = format; closed = closed }

found_of : (L : List Record) (B : List (List Record)) (n : ℕ) (d : Disk) (F : Files) → IsRestarting L B → Spells d F → IsAppending L B n F → IsClosedAt (sum_by batch_length B) d.log → IsFound L B n F
found_of L B n d F w is (inl f) closed = f
found_of L B n d F w is (inr g) closed =
    let log : LogOf d.log (B ++ (closing L ∷ []) ∷ []) is.end = subst (λ M. LogOf d.log M is.end) (ap (λ (z : Files). z.batches) g.2 ∙ ap (λ M. M ++ (closing L ∷ []) ∷ []) g.1.batches) is.log in
    absurd (closed_before d.log B (closing L ∷ []) is.end log (format_first B (closing L ∷ []) log.format (some_batch L B w)) closed)

all_found : (old : Disk → Type 0) (L : List Record) (B : List (List Record)) (n : ℕ) → IsRestarting L B → AllSpell old (IsAppending L B n) → ((d : Disk) → old d → IsClosedAt (sum_by batch_length B) d.log) → AllSpell old (IsFound L B n)
all_found old L B n w all closed d left = let D = all d left in (D.0, D.1, found_of L B n d D.0 w D.1 D.2 (closed d left))

pub appended : (old : Disk → Type 0) → Appended old
appended old L B n w either closed c added =
    let all = all_found old L B n w either closed in
    let o = added.others in
    let l = added.log in
    let D = all o.0 o.1 in
    (with_closing L D.0, logged_by L B n c o.0 l.0 D.0 w D.2 D.1 o.2 (found_at old L B n all l.0 l.1) l.2, (D.0, D.2, refl))

pub append_stages : (old : Disk → Type 0) → AppendStages old
append_stages old L B n w either closed c added = by_count added.log.2 added.log.3 added.log.4
  where
    all : AllSpell old (IsFound L B n)
    all = all_found old L B n w either closed

    o : (d : Disk) × old d × SameBut Log d c
    o = added.others

    D : Files
    D = (all o.0 o.1).0

    f : IsFound L B n D
    f = (all o.0 o.1).2

    is : Spells o.0 D
    is = (all o.0 o.1).1

    log : LogOf added.log.0.log B (sum_by batch_length B)
    log = found_at old L B n all added.log.0 added.log.1

    none : Adds (sum_by batch_length B) [] added.log.0.log c.log → Spells c D
    none adds =
        subst (Spells c) (ap (λ bs. let F : Files = record { batches = bs; gates = D.gates; number = D.number; place = D.place; first = D.first; weight = D.weight; next = D.next; image = D.image; table = D.table } in F) (append-nil D.batches))
        (spells_longer c o.0 D [] (next_place (sum_by batch_length B) []) is o.2
        (subst (λ M. LogOf c.log (M ++ []) (next_place (sum_by batch_length B) [])) (sym f.batches) (grown added.log.0.log c.log B [] (sum_by batch_length B) log tt adds)))

    by_count : (k : ℕ) → k ≤ length (closing_bodies L) → Adds (sum_by batch_length B) (take k (closing_bodies L)) added.log.0.log c.log → (F : Files) × Spells c F × (IsFound L B n F ⊎ IsLogged L B n F)
    by_count zero le adds = (D, none adds, inl f)
    by_count (suc zero) le adds = (with_closing L D, logged_by L B n c o.0 added.log.0 D w f is o.2 log adds, inr (D, f, refl))
    by_count (suc (suc k)) le adds = absurd (omega (arith, le))

-- ---- the other image
logged_gates : (L : List Record) (B : List (List Record)) (n : ℕ) (F : Files) → IsLogged L B n F → F.gates ≡ n
logged_gates L B n F g = ap (λ (z : Files). z.gates) g.2 ∙ g.1.gates

appending_gates : (L : List Record) (B : List (List Record)) (n : ℕ) (F : Files) → IsAppending L B n F → F.gates ≡ n
appending_gates L B n F (inl f) = f.gates
appending_gates L B n F (inr g) = logged_gates L B n F g

written_as : (old new : Disk → Type 0) (P : Files → Type 0) (n : ℕ) → ((c : Disk) → new c → (d : Disk) × old d × SameBut (image_name (side_of (n + 1))) d c) → ((F : Files) → P F → F.gates ≡ n) → AllSpell old P → AllSpell new P
written_as old new P n same gates all c left =
    let w = same c left in
    let F = all w.0 w.1 in
    (F.0, spells_beside c w.0 F.0 F.1 (subst (λ m. SameBut (image_name (side_of (m + 1))) w.0 c) (sym (gates F.0 F.2)) w.2), F.2)

pub written : (old new : Disk → Type 0) → Written old new
written old new L B n same = (written_as old new (IsAppending L B n) n same (appending_gates L B n), written_as old new (IsLogged L B n) n same (logged_gates L B n))

-- ---- a sync of the log
logged_log : (L : List Record) (B : List (List Record)) (n : ℕ) (c : Disk) (F : Files) (is : Spells c F) → IsLogged L B n F → LogOf c.log (B ++ (closing L ∷ []) ∷ []) is.end
logged_log L B n c F is g = subst (λ M. LogOf c.log M is.end) (ap (λ (z : Files). z.batches) g.2 ∙ ap (λ M. M ++ (closing L ∷ []) ∷ []) g.1.batches) is.log

pub log_settles : (old new : Disk → Type 0) → LogSettles old new
log_settles old new L B n end fs all settled = (
  λ log c left. let D = all c (settled c left).0 in (D.0, D.1, found D.0 c D.1 D.2 (subst (λ bytes. LogOf bytes B end) (sym (settled c left).1) log)),
  λ log c left. let D = all c (settled c left).0 in (D.0, D.1, logged D.0 c D.1 D.2 (subst (λ bytes. LogOf bytes (B ++ (closing L ∷ []) ∷ []) end) (sym (settled c left).1) log)),
)
  where
    found : (F : Files) (c : Disk) → Spells c F → IsAppending L B n F → LogOf c.log B end → IsFound L B n F
    found F c is (inl f) log = f
    found F c is (inr g) log = absurd (more_at_least B (closing L ∷ []) (one_log c.log B (B ++ (closing L ∷ []) ∷ []) end is.end log (logged_log L B n c F is g)).0)

    logged : (F : Files) (c : Disk) → Spells c F → IsAppending L B n F → LogOf c.log (B ++ (closing L ∷ []) ∷ []) end → IsLogged L B n F
    logged F c is (inl f) log = absurd (more_at_least B (closing L ∷ []) (one_log c.log B (B ++ (closing L ∷ []) ∷ []) is.end end (subst (λ M. LogOf c.log M is.end) f.batches is.log) log).0)
    logged F c is (inr g) log = g

-- ---- the anchor
turned_is : (L : List Record) (B : List (List Record)) (n : ℕ) (D : Files) → IsRestarting L B → IsFound L B n D → turned_to (with_closing L D) (closed_head (n + 1) B) (recovered (sizes_of L) L) ≡ turned L D
turned_is L B n D w f =
    ap (λ m. turned_to (with_closing L D) (closed_head (m + 1) B) (recovered (sizes_of L) L)) (sym f.gates)
    ∙ (ap (λ M. turned_to (with_closing L D) (closed_head (D.gates + 1) M) (recovered (sizes_of L) L)) (sym f.batches)
    ∙ ap (λ M. let F : Files = record { batches = D.batches ++ (closing L ∷ []) ∷ []; gates = D.gates + 1; number = D.gates + 1; place = sum_by batch_length D.batches; first = length M; weight = sum_by record_length M; next = next_after M; image = recovered (sizes_of L) L; table = [] } in F) (found_log L B n D w f))

turns : (L : List Record) (B : List (List Record)) (n : ℕ) (c d : Disk) (F : Files) → IsRestarting L B → IsLogged L B n F → Spells d F → SameBut Anchor d c → IsAnchor c.anchor (n + 1) → HoldsImage L B n d → (G : Files) × Spells c G × IsTurned L B n G
turns L B n c d F w g is same anchor holds = (
  turned L g.0,
  subst (Spells c) (turned_is L B n g.0 w g.1)
      (spells_turned c d (with_closing L g.0) (closed_head (n + 1) B) (recovered (sizes_of L) L) (subst (Spells d) g.2 is) same (subst (λ m. IsAnchor c.anchor (m + 1)) (sym g.1.gates) anchor)
      (subst (λ m. IsImageOf (sizes_in (with_closing L g.0)) (image_file (side_of (m + 1)) d) (closed_head (n + 1) B) (recovered (sizes_of L) L)) (sym g.1.gates)
      (subst (λ z. IsImageOf z (image_file (side_of (n + 1)) d) (closed_head (n + 1) B) (recovered (sizes_of L) L)) (sym (ap sizes_of (closing_log L B n g.0 w g.1) ∙ same_sizes L)) holds))),
  (g.0, g.1, refl),
)

-- an anchor without the new gate names no new image
pub turned_gates : (L : List Record) (B : List (List Record)) (n : ℕ) (F : Files) → IsTurned L B n F → F.gates ≡ n + 1
turned_gates L B n F g = ap (λ (z : Files). z.gates) g.2 ∙ ap (λ m. m + 1) g.1.gates

logged_of : (L : List Record) (B : List (List Record)) (n : ℕ) (d : Disk) (F : Files) → Spells d F → IsMoving L B n F → IsAnchor d.anchor n → IsLogged L B n F
logged_of L B n d F is (inl g) anchor = g
logged_of L B n d F is (inr t) anchor = absurd (omega (arith, anchor_once d.anchor n F.gates anchor is.anchor, turned_gates L B n F t))

turned_of : (L : List Record) (B : List (List Record)) (n : ℕ) (d : Disk) (F : Files) → Spells d F → IsMoving L B n F → IsAnchor d.anchor (n + 1) → IsTurned L B n F
turned_of L B n d F is (inl g) anchor = absurd (omega (arith, anchor_once d.anchor (n + 1) F.gates anchor is.anchor, logged_gates L B n F g))
turned_of L B n d F is (inr t) anchor = t

all_logged : (old : Disk → Type 0) (L : List Record) (B : List (List Record)) (n : ℕ) → AllSpell old (IsMoving L B n) → AreAnchored old n → AllSpell old (IsLogged L B n)
all_logged old L B n all anchored d left = let D = all d left in (D.0, D.1, logged_of L B n d D.0 D.1 D.2 (anchored d left))

pub moved : (old : Disk → Type 0) → Moved old
moved old L B n w either anchored holds c has =
    let o = has.others in
    let F = all_logged old L B n either anchored o.0 o.1 in
    turns L B n c o.0 F.0 w F.2 F.1 o.2 has.anchor (holds o.0 o.1)

pub move_stages : (old : Disk → Type 0) → MoveStages old
move_stages old L B n w either anchored holds c may =
    let o = may.others in
    let F = all_logged old L B n either anchored o.0 o.1 in
    ⊎_elim
    (λ stays. (F.0, spells_unmoved c o.0 F.0 o.2 (subst (IsAnchor c.anchor) (sym (logged_gates L B n F.0 F.2)) stays) F.1, inl F.2))
    (λ more. let G = turns L B n c o.0 F.0 w F.2 F.1 o.2 more (holds o.0 o.1) in (G.0, G.1, inr G.2))
    may.anchor

-- ---- a sync of the anchor
pub anchor_settles : (old new : Disk → Type 0) → AnchorSettles old new
anchor_settles old new L B n fs all settled = (
  λ anchor c left. let D = all c (settled c left).0 in (D.0, D.1, logged_of L B n c D.0 D.1 D.2 (subst (λ bytes. IsAnchor bytes n) (sym (settled c left).1) anchor)),
  λ anchor c left. let D = all c (settled c left).0 in (D.0, D.1, turned_of L B n c D.0 D.1 D.2 (subst (λ bytes. IsAnchor bytes (n + 1)) (sym (settled c left).1) anchor)),
)
