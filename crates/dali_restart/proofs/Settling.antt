-- What each decision of a restart leaves is at rest, and at any moment says the same.
use Rattle.std.proofs.Common.{◌≡◌, ℕ, zero, suc, ◌+◌, ◌*◌, ◌-◌, ◌<◌, ◌≤◌, ◌^◌, true, false, cond, List, [], ◌∷◌, ◌++◌, length, drop, Option, Some, None, append_assoc, filter_map, refl, ap, sym, subst, ◌∙◌, ◌⊎◌, inl, inr, ⊎_elim, arith}
use Rattle.std.specs.Prelude.{◌==◌, nat_le, sum_by}
use Rattle.std.specs.List.{AllByRecursion}
use Rattle.std.proofs.lemmas.Bool.{both_ways, lt-leb, ne_eqb}
use Rattle.std.proofs.lemmas.List.{append-nil, length-append, length-drop, same_from_push}
use Rattle.std.proofs.lemmas.List.Concat.{flat_map-append}
use Rattle.std.proofs.lemmas.List.Elements.{filter_map-append}
use Rattle.std.proofs.lemmas.List.Sums.{sum_by-append}
use Rattle.dali_lists.proofs.Lists.{drop_front}
use Rattle.dali_lists.proofs.Members.{all_left, all_right}
use Rattle.dali_lists.proofs.Options.{some_of}
use Rattle.dali_record.specs.declared.records.Record.{Record}
use Rattle.dali_record.specs.declared.records.Record.TheVariants.{Restarted}
use Rattle.dali_record.specs.Damage.{deleted_list, rolled_list}
use Rattle.dali_record.specs.Epochs.{Cut, last_epoch, recovered_epoch}
use Rattle.dali_record.specs.Files.{Files, batch_length, draws, next_after}
use Rattle.dali_record.specs.Legal.{Rules, rules_state, sizes_of}
use Rattle.dali_record.specs.Log.{last_of}
use Rattle.dali_record.specs.Spelling.{record_length}
use Rattle.dali_record.proofs.Ends.{last_of_push}
use Rattle.dali_record.proofs.Pushes.{cut_push}
use Rattle.dali_history.specs.History.{IsHistory}
use Rattle.dali_history.proofs.Restarts.{IsHistory-restarted}
use Rattle.dali_history.specs.Recovered.{base_of, recovered}
use Rattle.dali_store.specs.Store.{Files as Disk, Only}
use Rattle.dali_store.proofs.Moments.{weaker}
use Rattle.dali_log.specs.Log.{AreSpelled, TailOf}
use Rattle.dali_log.proofs.Bytes.{batches_length}
use Rattle.dali_runs.proofs.CountsLemmas.ShortLogs.{batches_framed}
use Rattle.dali_runs.proofs.CountsLemmas.Tallies.{numbers, numbers_drawn, tallies}
use Rattle.dali_runs.specs.Run.{log_in}
use Rattle.dali_crash.specs.Fitting.{FitsWhole}
use Rattle.dali_crash.specs.Traces.{IsRead}
use Rattle.dali_crash.specs.Disks.Disks.{AllSpell, Spells, sizes_in}
use Rattle.dali_crash.proofs.DisksLemmas.Ends.{some_in}
use Rattle.dali_image.specs.declared.header.Header.{Header}
use Rattle.dali_resume.specs.Again.{Outcome, closed_log, closing, outcome_is}
use Rattle.dali_resume.specs.Batches.{records_of, verdict_over}
use Rattle.dali_resume.specs.Onward.{HandedOut, goes_through}
use Rattle.dali_resume.specs.Rules.{ends_restarted}
use Rattle.dali_resume.specs.Interrupted.Found.{FindsIt, IsResting}
use Rattle.dali_resume.specs.Interrupted.Rests.{EndsLogged, IsToBegin, SaysOf, StandsAlone, StandsTold}
use Rattle.dali_resume.specs.Interrupted.Stages.{IsAppending, IsLogged, IsMoving, IsRestarting, IsTurned}
use Rattle.dali_resume.proofs.InterruptedLemmas.Places.{turned_has_place}
use Rattle.dali_resume.proofs.InterruptedLemmas.Saying.{stages_say}
use Rattle.dali_resume.proofs.InterruptedLemmas.Stages.{closed_lawful, closing_log, same_sizes, turned_gates}
use Rattle.dali_resume.proofs.InterruptedLemmas.Telling.{tells_stage}
use Rattle.dali_recovery.specs.Laws.{outcome_of}
use Rattle.dali_recovery.specs.Reload.Counting.{AreCounted, IsLast, StandsBefore}
use Rattle.dali_recovery.specs.Reload.Reading.{IsReloaded}
use Rattle.dali_recovery.specs.declared.reload.counts.BeforeRestart.{BeforeRestart}
use Rattle.dali_restart.specs.Renewal.Logged.{restart_of}
use Rattle.dali_restart.specs.Renewal.Renewed.{AnyStage, IsStanding, Renews, SpellsSome, Stops, end_of}
use Rattle.dali_restart.specs.declared.renewal.renewing.Standing.{Standing}
use Rattle.dali_restart.proofs.RenewalLemmas.Staged.{ends_behind}
use Rattle.dali_restart.specs.Rise.Behind.{HasRoom, resting_behind}
use Rattle.dali_restart.specs.Rise.Risen.{IsAtLog}
use Rattle.dali_restart.specs.declared.rise.rising.Resting.{Resting}
use Rattle.dali_restart.proofs.RiseLemmas.Behind.{rests_behind}
use Rattle.dali_restart.specs.Deciding.{IsBase, IsRestingOn, IsSettled, LogsRecord, ReadsAll, Settles, WritesImage, at_end, before, due_by, due_of, resting_of}
use Rattle.dali_restart.specs.Restarting.{IsAtRest, IsOnWay, IsTold, SpellsOnWay, StopsAlike, told_by}
use Rattle.dali_restart.specs.declared.restarting.Due.TheVariants as dues
use Rattle.dali_restart.specs.declared.restarting.Found.{Found}
use Rattle.dali_restart.proofs.Beginning.{begins}
use Rattle.dali_restart.proofs.Telling.{ReadsBehind, right, said, tail_behind}

-- ---- lists
last_drop : {X : Type 0} (n : ℕ) (xs : List X) → n < length xs → last_of (drop n xs) ≡ last_of xs
last_drop zero xs h = refl
last_drop (suc n) [] h = absurd (omega (arith, h))
last_drop (suc n) (x ∷ []) h = absurd (omega (arith, h))
last_drop (suc n) (x ∷ y ∷ xs) h = last_drop n (y ∷ xs) (omega (arith, h))

-- ---- batches that a disk has

-- the file is no longer than its records, with a frame for each
framed : (fs : Disk) (F : Files) → Spells fs F → sum_by batch_length F.batches ≤ sum_by record_length (log_in F) + 5 * length (log_in F)
framed fs F is = batches_framed F.batches (some_in F.batches is.log.front.sizes)

-- ---- stages that say the same
says_told : (M : List Record) (G : Files) → SaysOf M G → told_by G ≡ outcome_is M
says_told M G says = λ i. record { image = says.image i; rolled = rolled i; deleted = deleted i }
  where
    rolled : rolled_list (recovered_epoch (log_in G)) ≡ rolled_list (last_epoch M)
    rolled = ap rolled_list says.epoch

    deleted : deleted_list (recovered_epoch (log_in G)) ≡ deleted_list (last_epoch M)
    deleted = ap deleted_list says.epoch

way_begun : (F G : Files) → SaysOf (log_in F) F → SaysOf (log_in F) G → IsOnWay F G
way_begun F G own says = record {
  finds = says.finds;
  log = says.log;
  told = says_told (log_in F) G says ∙ sym (says_told (log_in F) F own);
  history = says.history;
}

way_ended : (M : List Record) (F G : Files) → log_in G ≡ log_in F → SaysOf M F → SaysOf M G → IsOnWay F G
way_ended M F G same own says = record {
  finds = says.finds;
  log = inl same;
  told = says_told M G says ∙ sym (says_told M F own);
  history = λ h. subst IsHistory (sym same) h;
}

moving_log : (M : List Record) (B : List (List Record)) (n : ℕ) (G : Files) → IsRestarting M B → IsMoving M B n G → log_in G ≡ closed_log M
moving_log M B n G w (inl g) = ap log_in g.2 ∙ closing_log M B n g.0 w g.1
moving_log M B n G w (inr t) = ap log_in t.2 ∙ closing_log M B n t.0 w t.1

moving_says : (M : List Record) (B : List (List Record)) (n : ℕ) (G : Files) → IsRestarting M B → IsMoving M B n G → SaysOf M G
moving_says M B n G w (inl g) = (stages_say M B n G w).logged g
moving_says M B n G w (inr t) = (stages_say M B n G w).turned t

any_says : (M : List Record) (B : List (List Record)) (n : ℕ) (G : Files) → IsRestarting M B → AnyStage M B n G → SaysOf M G
any_says M B n G w (inl (inl f)) = (stages_say M B n G w).found f
any_says M B n G w (inl (inr g)) = (stages_say M B n G w).logged g
any_says M B n G w (inr t) = (stages_say M B n G w).turned t

-- ---- behind the anchor's move
turned_batches : (M : List Record) (B : List (List Record)) (n : ℕ) (G : Files) → IsTurned M B n G → G.batches ≡ B ++ (closing M ∷ []) ∷ []
turned_batches M B n G t = ap (λ (z : Files). z.batches) t.2 ∙ ap (λ bs. bs ++ (closing M ∷ []) ∷ []) t.1.batches

turned_first : (M : List Record) (B : List (List Record)) (n : ℕ) (G : Files) → IsTurned M B n G → G.first ≡ length M
turned_first M B n G t = ap (λ (z : Files). z.first) t.2

turned_alone : (M : List Record) (B : List (List Record)) (n : ℕ) (G : Files) → IsRestarting M B → IsTurned M B n G → IsAtRest G
turned_alone M B n G w t = inr (
  rolled_list (last_epoch M),
  deleted_list (last_epoch M),
  ap (λ k. drop k (log_in G)) (turned_first M B n G t) ∙ (ap (drop (length M)) (moving_log M B n G w (inr t)) ∙ drop_front M (closing M ∷ [])),
)

-- the files rest: a run may start from them
turned_rests : (M : List Record) (B : List (List Record)) (n : ℕ) (G : Files) → IsRestarting M B → IsTurned M B n G → IsResting G
turned_rests M B n G w t =
    let says = (stages_say M B n G w).turned t in
    let log = moving_log M B n G w (inr t) in
    says.finds.resting (ap (λ K. (last_epoch K).records) log ∙ ap (λ (c : Cut). c.now.records) (cut_push M (closing M)))
    (omega (arith, ap length log, length-append M (closing M ∷ []), turned_first M B n G t))

rests_on :
    (M : List Record) (B : List (List Record)) (r : Resting) (G : Files) → log_in G ≡ M → G.batches ≡ B → IsResting G → IsRead G
    → r.end ≡ sum_by batch_length B → r.current ≡ G.gates
    → IsRestingOn M B r G
rests_on M B r G log batches rests read end gates = record {
  log = log;
  batches = batches;
  rests = λ v may at number. record {
    vault = may;
    none = subst (λ K. (last_epoch K).records ≡ []) log rests.none;
    files = subst (λ K. FitsWhole (sizes_of K) (base_of (sizes_of K) K) K G (last_epoch K)) log rests.files;
    end = at ∙ (end ∙ ap (sum_by batch_length) (sym batches));
    current = sym (number ∙ gates);
    read = read;
  };
}

-- the record of the restart stands behind it
turned_read : (M : List Record) (B : List (List Record)) (n : ℕ) (G : Files) → IsRestarting M B → IsTurned M B n G → IsRead G
turned_read M B n G w t = (turned_has_place M B n G w t).read

same_next : (M : List Record) → next_after (closed_log M) ≡ next_after M
same_next M = ap (λ (l : List ℕ). length l + 1) (filter_map-append draws M (closing M ∷ []) ∙ append-nil (filter_map draws M))

-- ---- what was read of files that are found
-- the numbers and lists are those of these files, whatever the words are
pub record IsReadOf (fs : Disk) (F : Files) (x : Found) : Type 0 where
  pub batches : List (List Record)
  pub tail : TailOf fs.log F.place batches x.reloaded.end
  pub outcome : Outcome
  pub verdict : verdict_over (sizes_in F) F batches ≡ HandedOut outcome
  pub rolled : x.reloaded.recovered.rolled_back.items ≡ outcome.rolled
  pub deleted : x.reloaded.recovered.deleted.items ≡ outcome.deleted
  pub next : x.reloaded.recovered.next ≡ (goes_through (sizes_in F) F (records_of batches)).known.next
  pub counted : AreCounted F.place batches x.reloaded.counts

abbrev pub read_as : (fs : Disk) (F : Files) (x : Found) → IsBase (sizes_in F) F x.base × IsReloaded fs.log (sizes_in F) F x.reloaded → IsBase (sizes_in F) F x.base × IsReadOf fs F x
read_as fs F x r = (
  r.0,
  record {
    batches = r.1.batches;
    tail = r.1.tail;
    outcome = outcome_of x.reloaded.recovered;
    verdict = r.1.verdict;
    rolled = refl;
    deleted = refl;
    next = r.1.next;
    counted = r.1.counted;
  },
)

abbrev read_of : (fs : Disk) (F : Files) (is : Spells fs F) → FindsIt F → (x : Found) → ReadsAll fs x → IsBase (sizes_in F) F x.base × IsReadOf fs F x
read_of fs F is finds x all = read_as fs F x (all (sizes_in F) F (begins fs F is finds))

module _ (fs : Disk) (F : Files) (is : Spells fs F) (finds : FindsIt F) (x : Found) (read : IsBase (sizes_in F) F x.base × IsReadOf fs F x) where
  abbrev L : List Record
  L = log_in F

  abbrev words : List (List ℕ)
  words = read.1.outcome.image

  abbrev rs : List ℕ
  rs = x.reloaded.recovered.rolled_back.items

  abbrev ds : List ℕ
  ds = x.reloaded.recovered.deleted.items

  told : IsTold F read.1.outcome
  told = said fs F is finds read.1.batches x.reloaded.end read.1.outcome read.1.tail read.1.verdict

  behind : ReadsBehind F read.1.batches × (x.reloaded.end ≡ sum_by batch_length F.batches)
  behind = tail_behind fs F is finds read.1.batches x.reloaded.end read.1.tail

  tail : ReadsBehind F read.1.batches
  tail = behind.0

  place_whole : x.reloaded.end ≡ sum_by batch_length F.batches
  place_whole = behind.1

  next_whole : x.reloaded.recovered.next ≡ next_after (log_in F)
  next_whole = read.1.next ∙ (ap (λ Q. (goes_through (sizes_in F) F Q).known.next) tail.records ∙ (right fs F is finds).next)

  weight_whole : F.weight + x.reloaded.counts.bytes ≡ sum_by record_length (log_in F)
  weight_whole = omega (arith, (right fs F is finds).weight, read.1.counted.bytes, ap (sum_by record_length) tail.records)

  count : F.first ≤ length (log_in F)
  count = omega (arith, finds.found.fits.1.fits.count, ap length finds.found.log, length-append finds.found.front (records_of finds.found.more))

  -- ---- where it ends
  read_count : x.reloaded.counts.records ≡ length (log_in F) - F.first
  read_count = read.1.counted.records ∙ (ap length tail.records ∙ length-drop F.first L)

  first_is : (at_end x).first ≡ length (log_in F)
  first_is = omega (arith, ap (λ (h : Header). h.first) read.0.header, read_count, count)

  weight_is : (at_end x).weight ≡ sum_by record_length (log_in F)
  weight_is = ap (λ (h : Header). h.weight + x.reloaded.counts.bytes) read.0.header ∙ weight_whole

  image_is : words ≡ recovered (sizes_of (log_in F)) (log_in F)
  image_is = ap (λ (o : Outcome). o.image) told.told

  g : (g : Rules) × (rules_state (sizes_of (log_in F)) (log_in F) ≡ Some g)
  g = some_of (rules_state (sizes_of L) L) finds.lawful.legal.rules

  at_log :
      (r : Resting) (current : ℕ) → r ≡ record (resting_of (at_end x)) { current = current } → current ≤ length (log_in F) + 2 ^ 61
      → (last_epoch (log_in F)).records ≡ []
      → IsAtLog (log_in F) g.0 r words
  at_log r current at few none = subst (λ (z : Resting). IsAtLog L g.0 z words) (sym at) (record {
    lawful = finds.lawful;
    rules = g.1;
    none = none;
    sizes = read.0.geometry;
    records = first_is ∙ sym tally.0;
    weight = weight_is ∙ sym tally.1;
    next = next_whole ∙ (sym (numbers_drawn L) ∙ sym tally.2);
    image = image_is;
    short = omega (arith, place_whole, framed fs F is);
    moved = few;
  })
    where
      tally : (g.0.count ≡ length (log_in F)) × (g.0.weight ≡ sum_by record_length (log_in F)) × (g.0.next ≡ numbers (log_in F))
      tally = tallies (sizes_of L) L g.0 g.1

  -- ---- what is due
  not_restarted : ends_restarted (last_of (drop F.first (log_in F))) ≡ false → x.reloaded.counts.restarted ≡ None
  not_restarted other = by_last x.reloaded.counts.restarted refl read.1.counted.last
    where
      by_last : (c : Option BeforeRestart) → x.reloaded.counts.restarted ≡ c → IsLast F.place read.1.batches c → x.reloaded.counts.restarted ≡ None
      by_last None e last = e
      by_last (Some m) e last =
          let ends : drop F.first (log_in F) ≡ records_of last.front ++ Restarted last.rolled last.deleted ∷ [] =
          sym tail.records ∙ (ap records_of last.alone ∙ flat_map-append (λ b. b) last.front ((Restarted last.rolled last.deleted ∷ []) ∷ [])) in
          absurd (both_ways (ends_restarted (last_of (drop F.first L))) other
          (ap (λ Q. ends_restarted (last_of Q)) ends ∙ ap ends_restarted (last_of_push (records_of last.front) (Restarted last.rolled last.deleted))))

  abbrev LastIs : Type 0
  LastIs = (m : BeforeRestart) × (x.reloaded.counts.restarted ≡ Some m) × StandsBefore F.place read.1.batches m

  a_restart : ends_restarted (last_of (drop F.first (log_in F))) ≡ true → LastIs
  a_restart stands = by_last x.reloaded.counts.restarted refl read.1.counted.last
    where
      by_last : (c : Option BeforeRestart) → x.reloaded.counts.restarted ≡ c → IsLast F.place read.1.batches c → LastIs
      by_last (Some m) e last = (m, e, last)
      by_last None e last =
          absurd (both_ways (ends_restarted (last_of (drop F.first L))) (ap (λ Q. ends_restarted (last_of Q)) (sym tail.records) ∙ last) stands)

  due_begun : IsToBegin F → due_of x ≡ dues.Record
  due_begun b =
      ap (due_by x) (not_restarted (ap ends_restarted (last_drop F.first L b.behind) ∙ b.last))
      ∙ ap (λ z. cond z dues.Nothing dues.Record) (ne_eqb x.reloaded.counts.records 0 (λ e. absurd (omega (arith, e, read_count, b.behind))))

  due_alone : StandsAlone F → due_of x ≡ dues.Nothing
  due_alone a =
      ap (due_by x) (not_restarted (ap (λ Q. ends_restarted (last_of Q)) a.0))
      ∙ ap (λ n. cond (n == 0) dues.Nothing dues.Record) (read.1.counted.records ∙ (ap length tail.records ∙ ap length a.0))

  due_told : StandsTold F → due_of x ≡ dues.Nothing
  due_told a =
      let m = a_restart (ap (λ Q. ends_restarted (last_of Q)) a.alone) in
      ap (due_by x) m.1
      ∙ ap (λ n. cond (nat_le n 1) dues.Nothing (dues.Image (before x m.0))) (read.1.counted.records ∙ (ap length tail.records ∙ ap length a.alone))

  pub ended_log : (e : EndsLogged F) → log_in F ≡ closed_log e.log
  ended_log e = moving_log e.log e.batches F.gates F e.restarting (inl e.logged)

  ended_size : (e : EndsLogged F) → length (log_in F) ≡ length e.log + 1
  ended_size e = ap length (ended_log e) ∙ length-append e.log (closing e.log ∷ [])

  ended_last : (e : EndsLogged F) → ends_restarted (last_of (drop F.first (log_in F))) ≡ true
  ended_last e =
      ap ends_restarted (last_drop F.first L (omega (arith, e.behind, ended_size e)) ∙ (ap last_of (ended_log e) ∙ last_of_push e.log (closing e.log)))

  due_ended : (e : EndsLogged F) → (m : BeforeRestart) × StandsBefore F.place read.1.batches m × (due_of x ≡ dues.Image (before x m))
  due_ended e =
      let m = a_restart (ended_last e) in (
        m.0,
        m.2,
        ap (due_by x) m.1
            ∙ ap (λ z. cond z dues.Nothing (dues.Image (before x m.0))) (lt-leb x.reloaded.counts.records 1 (omega (arith, read_count, e.behind, ended_size e))),
      )

  -- ---- and so at which stage the files are
  pub to_begin : due_of x ≡ dues.Record → IsToBegin F
  to_begin due = by_stage (tells_stage fs F is finds)
    where
      by_stage : IsToBegin F ⊎ StandsAlone F ⊎ StandsTold F ⊎ EndsLogged F → IsToBegin F
      by_stage (inl b) = b
      by_stage (inr (inl a)) = let never : dues.Nothing ≡ dues.Record = sym (due_alone a) ∙ due in absurd (cc)
      by_stage (inr (inr (inl a))) = let never : dues.Nothing ≡ dues.Record = sym (due_told a) ∙ due in absurd (cc)
      by_stage (inr (inr (inr e))) = let d = due_ended e in let never : dues.Image (before x d.0) ≡ dues.Record = sym d.2 ∙ due in absurd (cc)

  at_rest : due_of x ≡ dues.Nothing → IsResting F × IsAtRest F
  at_rest due = by_stage (tells_stage fs F is finds)
    where
      by_stage : IsToBegin F ⊎ StandsAlone F ⊎ StandsTold F ⊎ EndsLogged F → IsResting F × IsAtRest F
      by_stage (inl b) = let never : dues.Record ≡ dues.Nothing = sym (due_begun b) ∙ due in absurd (cc)
      by_stage (inr (inl a)) = (a.1, inl a.0)
      by_stage (inr (inr (inl a))) = (a.resting, inr (a.rolled, a.deleted, a.alone))
      by_stage (inr (inr (inr e))) = let d = due_ended e in let never : dues.Image (before x d.0) ≡ dues.Nothing = sym d.2 ∙ due in absurd (cc)

  abbrev pub EndsSo : Standing → Type 0
  EndsSo p = (e : EndsLogged F) × (m : BeforeRestart) × StandsBefore F.place read.1.batches m × (p ≡ before x m)

  pub ends_so : (p : Standing) → due_of x ≡ dues.Image p → EndsSo p
  ends_so p due = by_stage (tells_stage fs F is finds)
    where
      by_stage : IsToBegin F ⊎ StandsAlone F ⊎ StandsTold F ⊎ EndsLogged F → EndsSo p
      by_stage (inl b) = let never : dues.Record ≡ dues.Image p = sym (due_begun b) ∙ due in absurd (cc)
      by_stage (inr (inl a)) = let never : dues.Nothing ≡ dues.Image p = sym (due_alone a) ∙ due in absurd (cc)
      by_stage (inr (inr (inl a))) = let never : dues.Nothing ≡ dues.Image p = sym (due_told a) ∙ due in absurd (cc)
      by_stage (inr (inr (inr e))) = let d = due_ended e in let same : dues.Image p ≡ dues.Image (before x d.0) = sym due ∙ d.2 in (e, d.0, d.1, cc)

  -- ---- the record of the restart is due
  module _ (b : IsToBegin F) where
    own_begun : SaysOf (log_in F) F
    own_begun = (stages_say L F.batches F.gates F b.restarting).found finds.found

    pub names : restart_of rs ds ≡ closing (log_in F)
    names = λ i. restart_of (rolled i) (deleted i)
      where
        told_same : told_by F ≡ outcome_is (log_in F)
        told_same = says_told L F own_begun

        rolled : rs ≡ rolled_list (last_epoch (log_in F))
        rolled = read.1.rolled ∙ ap (λ (o : Outcome). o.rolled) (told.told ∙ told_same)

        deleted : ds ≡ deleted_list (last_epoch (log_in F))
        deleted = read.1.deleted ∙ ap (λ (o : Outcome). o.deleted) (told.told ∙ told_same)

    pub stands_begun : IsStanding (log_in F) F.batches F.gates (at_end x) words
    stands_begun = record {
      restarting = b.restarting;
      sizes = read.0.geometry;
      current = read.0.current;
      place = place_whole;
      first = first_is;
      weight = weight_is;
      next = next_whole;
      image = image_is;
    }

    end_begun : end_of None (at_end x) rs ds ≡ sum_by batch_length (F.batches ++ (closing (log_in F) ∷ []) ∷ [])
    end_begun = ends_behind L F.batches F.gates (at_end x) words rs ds stands_begun names

    way_to : (G : Files) → AnyStage (log_in F) F.batches F.gates G → IsOnWay F G
    way_to G stage = way_begun F G own_begun (any_says L F.batches F.gates G b.restarting stage)

    h : (h : Rules) × (rules_state (sizes_of (closed_log (log_in F))) (closed_log (log_in F)) ≡ Some h)
    h = some_of (rules_state (sizes_of (closed_log L)) (closed_log L)) (closed_lawful L F.batches b.restarting).legal.rules

    room : HasRoom (at_end x) (end_of None (at_end x) rs ds) (log_in F)
    room = record {
      short = omega (
        arith,
        end_begun,
        framed fs F is,
        sum_by-append batch_length F.batches ((closing L ∷ []) ∷ []),
        sum_by-append record_length L (closing L ∷ []),
        length-append L (closing L ∷ []),
      );
      moved = omega (arith, read.0.current, finds.few, length-append L (closing L ∷ []));
    }

    settled_record : words ≡ x.reloaded.recovered.regions.items → (r : Resting) (may : Disk → Type 0) → LogsRecord x r → AllSpell may (IsTurned (log_in F) F.batches F.gates) → IsSettled F x r may
    settled_record given r may logs now = record {
      log = closed_log L;
      goes_on = inr refl;
      history = λ past.
          IsHistory-restarted L b.restarting.some.0 b.restarting.some.1 (rolled_list (last_epoch L)) (deleted_list (last_epoch L)) past b.restarting.some.2 refl
          refl;
      begun = inr (omega (arith, b.behind, length-append L (closing L ∷ [])));
      rules = h.0;
      at = subst (λ (z : Resting). IsAtLog (closed_log L) h.0 z x.reloaded.recovered.regions.items) (sym rest_is)
          (subst (λ ws. IsAtLog (closed_log L) h.0 (resting_behind (at_end x) (end_of None (at_end x) rs ds) (closing L)) ws) given
          (rests_behind L F.batches F.gates (at_end x) words (end_of None (at_end x) rs ds) h.0 stands_begun room h.1));
      batches = F.batches ++ (closing L ∷ []) ∷ [];
      disks = λ c left. let q = now c left in (
        q.0,
        q.1,
        way_to q.0 (inr q.2),
        turned_alone L F.batches F.gates q.0 b.restarting q.2,
        rests_on (closed_log L) (F.batches ++ (closing L ∷ []) ∷ []) r q.0 (moving_log L F.batches F.gates q.0 b.restarting (inr q.2))
            (turned_batches L F.batches F.gates q.0 q.2)
            (turned_rests L F.batches F.gates q.0 b.restarting q.2)
            (turned_read L F.batches F.gates q.0 b.restarting q.2)
            (ap (λ (z : Resting). z.end) rest_is ∙ end_begun)
            (ap (λ (z : Resting). z.current) rest_is ∙ (ap (λ n. n + 1) read.0.current ∙ sym (turned_gates L F.batches F.gates q.0 q.2))),
      );
    }
      where
        rest_is : r ≡ resting_behind (at_end x) (end_of None (at_end x) rs ds) (closing (log_in F))
        rest_is = logs ∙ ap (resting_behind (at_end x) (end_of None (at_end x) rs ds)) names

  -- ---- the image is due
  module _ (e : EndsLogged F) (m : BeforeRestart) (st : StandsBefore F.place read.1.batches m) where
    own_ended : SaysOf e.log F
    own_ended = (stages_say e.log e.batches F.gates F e.restarting).logged e.logged

    batches_are : F.batches ≡ e.batches ++ (closing e.log ∷ []) ∷ []
    batches_are = ap (λ (z : Files). z.batches) e.logged.2 ∙ ap (λ bs. bs ++ (closing e.log ∷ []) ∷ []) e.logged.1.batches

    parted : (tail.older ++ st.front ≡ e.batches) × ((Restarted st.rolled st.deleted ∷ []) ≡ closing e.log ∷ [])
    parted = same_from_push (tail.older ++ st.front) e.batches (Restarted st.rolled st.deleted ∷ []) (closing e.log ∷ [])
        (append_assoc tail.older st.front ((Restarted st.rolled st.deleted ∷ []) ∷ [])
        ∙ (ap (λ l. tail.older ++ l) (sym st.alone) ∙ (sym tail.batches ∙ batches_are)))

    front_spelled : AllByRecursion AreSpelled st.front
    front_spelled =
        all_left AreSpelled st.front ((Restarted st.rolled st.deleted ∷ []) ∷ [])
        (all_right AreSpelled tail.older (st.front ++ (Restarted st.rolled st.deleted ∷ []) ∷ [])
        (subst (AllByRecursion AreSpelled) (tail.batches ∙ ap (λ l. tail.older ++ l) st.alone) is.log.front.each))

    place_is : m.place ≡ sum_by batch_length e.batches
    place_is = omega (
      arith,
      st.place,
      tail.place,
      batches_length st.front front_spelled,
      sum_by-append batch_length tail.older st.front,
      ap (sum_by batch_length) parted.0,
    )

    weight_before : x.base.header.weight + m.bytes ≡ sum_by record_length e.log
    weight_before = omega (
      arith,
      ap (λ (h : Header). h.weight) read.0.header,
      st.bytes,
      weight_whole,
      read.1.counted.bytes,
      ap (sum_by record_length) (ap records_of st.alone ∙ flat_map-append (λ b. b) st.front ((Restarted st.rolled st.deleted ∷ []) ∷ [])),
      sum_by-append record_length (records_of st.front) (Restarted st.rolled st.deleted ∷ []),
      ap (sum_by record_length) parted.1,
      ap (sum_by record_length) (ended_log e),
      sum_by-append record_length e.log (closing e.log ∷ []),
    )

    pub stands_ended : IsStanding e.log e.batches F.gates (before x m) words
    stands_ended = record {
      restarting = e.restarting;
      sizes = read.0.geometry ∙ (ap sizes_of (ended_log e) ∙ same_sizes e.log);
      current = read.0.current;
      place = place_is;
      first = omega (arith, first_is, ended_size e);
      weight = weight_before;
      next = next_whole ∙ (ap next_after (ended_log e) ∙ same_next e.log);
      image = image_is ∙ own_ended.image;
    }

    way_on : (G : Files) → IsMoving e.log e.batches F.gates G → IsOnWay F G
    way_on G stage =
        way_ended e.log F G (moving_log e.log e.batches F.gates G e.restarting stage ∙ sym (ended_log e)) own_ended
        (moving_says e.log e.batches F.gates G e.restarting stage)

    settled_image : words ≡ x.reloaded.recovered.regions.items → (r : Resting) (may : Disk → Type 0) → WritesImage x r → AllSpell may (IsTurned e.log e.batches F.gates) → IsSettled F x r may
    settled_image given r may writes now = record {
      log = L;
      goes_on = inl refl;
      history = λ past. past;
      begun = inr (omega (arith, e.behind, ended_size e));
      rules = g.0;
      at = subst (λ ws. IsAtLog L g.0 r ws) given
          (at_log r (x.base.current + 1) writes (omega (arith, read.0.current, finds.found.place.moved, e.behind, ended_size e))
          (ap (λ K. (last_epoch K).records) (ended_log e) ∙ ap (λ (c : Cut). c.now.records) (cut_push e.log (closing e.log))));
      batches = F.batches;
      disks = λ c left. let q = now c left in (
        q.0,
        q.1,
        way_on q.0 (inr q.2),
        turned_alone e.log e.batches F.gates q.0 e.restarting q.2,
        rests_on L F.batches r q.0 (moving_log e.log e.batches F.gates q.0 e.restarting (inr q.2) ∙ sym (ended_log e))
            (turned_batches e.log e.batches F.gates q.0 q.2 ∙ sym batches_are)
            (turned_rests e.log e.batches F.gates q.0 e.restarting q.2)
            (turned_read e.log e.batches F.gates q.0 e.restarting q.2)
            (ap (λ (z : Resting). z.end) writes ∙ place_whole)
            (ap (λ (z : Resting). z.current) writes ∙ (ap (λ n. n + 1) read.0.current ∙ sym (turned_gates e.log e.batches F.gates q.0 q.2))),
      );
    }

-- ---- nothing is due
pub settles_nothing : (fs : Disk) (x : Found) (may : Disk → Type 0) → due_of x ≡ dues.Nothing → Only fs may → Settles fs x (resting_of (at_end x)) may
settles_nothing fs x may due only all F is finds = record {
  log = log_in F;
  goes_on = inl refl;
  history = λ past. past;
  begun = ⊎_elim (λ none. inl (read'.current ∙ none)) (λ two. inr two) finds.found.place.some;
  rules = (g fs F is finds x (read_of fs F is finds x all)).0;
  at = at_log fs F is finds x (read_of fs F is finds x all) (resting_of (at_end x)) x.base.current refl (omega (arith, read'.current, finds.few)) rests.0.none;
  batches = F.batches;
  disks = λ c left. (
    F,
    subst (λ d. Spells d F) (sym (only c left)) is,
    record { finds = finds; log = inl refl; told = refl; history = λ h. h },
    rests.1,
    rests_on (log_in F) F.batches (resting_of (at_end x)) F refl refl rests.0 finds.found.place.read (place_whole fs F is finds x (read_of fs F is finds x all)) read'.current,
  );
}
  where
    read' : IsBase (sizes_in F) F x.base
    read' = (read_of fs F is finds x all).0

    rests : IsResting F × IsAtRest F
    rests = at_rest fs F is finds x (read_of fs F is finds x all) due

-- ---- behind a renewal
-- each disk that may be left spells what was read
read_spells : (fs : Disk) (F : Files) (may : Disk → Type 0) (P : Files → Type 0) → Spells fs F → Only fs may → P F → AllSpell may P
read_spells fs F may P is only has c left = (F, subst (λ d. Spells d F) (sym (only c left)) is, has)

module _
    {V : Type 0} (may_leave : V → Disk → Type 0) (moment : V → ℕ) (left_since : V → ℕ → Disk → Type 0) (fs : Disk) (x : Found) (old new : V)
    (only : Only fs (may_leave old)) where
  abbrev told_rolled : List ℕ
  told_rolled = x.reloaded.recovered.rolled_back.items

  abbrev told_deleted : List ℕ
  told_deleted = x.reloaded.recovered.deleted.items

  abbrev told_words : List (List ℕ)
  told_words = x.reloaded.recovered.regions.items

  module _ (due : due_of x ≡ dues.Record) where
    pub settles_record :
        (r : Resting) → LogsRecord x r → Renews may_leave moment left_since (at_end x) None told_rolled told_deleted told_words old new
        → Settles fs x r (may_leave new)
    settles_record r logs renews all F is finds =
        let b = to_begin fs F is finds x (read_of fs F is finds x all) due in
        settled_record fs F is finds x (read_of fs F is finds x all) b refl r (may_leave new) logs
        (renews (log_in F) F.batches F.gates (stands_begun fs F is finds x (read_of fs F is finds x all) b) (names fs F is finds x (read_of fs F is finds x all) b)
        (read_spells fs F (may_leave old) (IsAppending (log_in F) F.batches F.gates) is only (inl finds.found)))

    pub stops_record :
        Stops may_leave moment left_since (at_end x) None told_rolled told_deleted told_words old new → ReadsAll fs x
        → StopsAlike may_leave moment left_since fs old new
    stops_record stops all F is finds =
        let b = to_begin fs F is finds x (read_of fs F is finds x all) due in
        weaker moment left_since old new (SpellsSome (AnyStage (log_in F) F.batches F.gates)) (λ c. may_leave old c ⊎ SpellsOnWay F c)
        (stops (log_in F) F.batches F.gates (stands_begun fs F is finds x (read_of fs F is finds x all) b) (names fs F is finds x (read_of fs F is finds x all) b)
        (read_spells fs F (may_leave old) (IsAppending (log_in F) F.batches F.gates) is only (inl finds.found)))
        (λ c q. inr (q.0, q.1, way_to fs F is finds x (read_of fs F is finds x all) b q.0 q.2))

  module _ (p : Standing) (due : due_of x ≡ dues.Image p) where
    stands_due :
        (F : Files) (is : Spells fs F) (finds : FindsIt F) (all : ReadsAll fs x) (w : EndsSo fs F is finds x (read_of fs F is finds x all) p)
        → IsStanding w.0.log w.0.batches F.gates p told_words
    stands_due F is finds all w = subst (λ z. IsStanding w.0.log w.0.batches F.gates z told_words) (sym w.3) (stands_ended fs F is finds x (read_of fs F is finds x all) w.0 w.1 w.2)

    pub settles_image :
        (r : Resting) → WritesImage x r → Renews may_leave moment left_since p (Some x.reloaded.end) [] [] told_words old new
        → Settles fs x r (may_leave new)
    settles_image r writes renews all F is finds =
        let w = ends_so fs F is finds x (read_of fs F is finds x all) p due in
        settled_image fs F is finds x (read_of fs F is finds x all) w.0 w.1 w.2 refl r (may_leave new) writes
        (renews w.0.log w.0.batches F.gates (stands_due F is finds all w) tt
        (read_spells fs F (may_leave old) (IsLogged w.0.log w.0.batches F.gates) is only w.0.logged))

    pub stops_image :
        Stops may_leave moment left_since p (Some x.reloaded.end) [] [] told_words old new → ReadsAll fs x
        → StopsAlike may_leave moment left_since fs old new
    stops_image stops all F is finds =
        let w = ends_so fs F is finds x (read_of fs F is finds x all) p due in
        weaker moment left_since old new (SpellsSome (IsMoving w.0.log w.0.batches F.gates)) (λ c. may_leave old c ⊎ SpellsOnWay F c)
        (stops w.0.log w.0.batches F.gates (stands_due F is finds all w) tt
        (read_spells fs F (may_leave old) (IsLogged w.0.log w.0.batches F.gates) is only w.0.logged))
        (λ c q. inr (q.0, q.1, way_on fs F is finds x (read_of fs F is finds x all) w.0 w.1 w.2 q.0 q.2))
