-- The head that is kept for an image fits its fields, where the log is legal.
use Rattle.std.specs.List.{AllByRecursion, range_with_len}
use Rattle.std.specs.List.Sorted.{IsStrictlyIncreasing}
use Rattle.std.specs.Prelude.{filter, filter_map, flat_map, map, nat_lt, not, slice_get, slice_index, sum_by, ◌&&◌, ◌||◌, ◌==◌}
use Rattle.std.proofs.Common.{Bool, List, None, Option, Some, ap, arith, cond, drop, false, inl, inr, length, length-append, refl, subst, suc, sym, take, take-append-drop, true, zero, ℕ, ◌≡◌, ◌∷◌, ◌++◌, ◌∙◌, ◌⊎◌, ◌≤◌, ◌^◌, ◌+◌, ◌-◌, ◌<◌, ◌*◌, [], ⊎_elim}
use Rattle.std.proofs.lemmas.Bool.{and_from, and_parts, both_ways, cases_lt, lt-ltb, or_cases, or_left, or_right, eq-eqb, leb-true, eqb-true}
use Rattle.std.proofs.lemmas.List.{append-nil, length-map, length-take-le, take-append-le, length_push}
use Rattle.std.proofs.lemmas.List.Elements.{Contains-append_right, filter_map-append}
use Rattle.std.proofs.lemmas.List.Folds.{list_any-append}
use Rattle.std.proofs.lemmas.List.Kept.{IsStrictlyIncreasing-filter}
use Rattle.std.proofs.lemmas.List.Sums.{sum_by_push}
use Rattle.dali_geometry.specs.Places.{regions}
use Rattle.dali_geometry.specs.Sizes.{Sizes}
use Rattle.dali_record.specs.Blocks.{AreWords, AllAreWords, pending}
use Rattle.dali_record.specs.Damage.{has}
use Rattle.dali_record.specs.Epochs.{Cut, Epoch, cut, last_epoch, separates}
use Rattle.dali_record.specs.Files.{Row, draws, next_after, row_of, table_before}
use Rattle.dali_record.specs.Legal.{IsLegalFor, Rules, has_room, on_kind, room, rules_start, rules_state, rules_step, runs}
use Rattle.dali_record.specs.Log.{begin_by, begun, committed, drop_last, ended, undo_added, undo_step, undos_of}
use Rattle.dali_record.specs.Spelling.{CanBeSpelled, IsBlock, MayBeUndo, ascends, flag_bytes, frees_cell, frees_entry, is_outcome_of, is_within, record_length, restores, revives_cell, revives_entry, undo_bytes, undoes, undoes_add, undoes_change, undoes_kill_cell, undoes_kill_entry, undoes_put}
use Rattle.dali_record.specs.declared.operations.Block.{Block}
use Rattle.dali_record.specs.declared.operations.Op.{Op}
use Rattle.dali_record.specs.declared.operations.Op.TheVariants.{Add, Change, FreeCell, KillCell, KillEntry, Look, Put, Read}
use Rattle.dali_record.specs.declared.operations.Outcome.{Outcome}
use Rattle.dali_record.specs.declared.operations.Pending.{Pending}
use Rattle.dali_record.specs.declared.operations.Undo.{Undo}
use Rattle.dali_record.specs.declared.records.Record.{Record}
use Rattle.dali_record.specs.declared.records.Record.TheVariants.{AuditBegin, AuditClean, AuditFail, Back, Begin, Commit, Done, Ended, Format, Forward, Restarted, Solo}
use Rattle.dali_record.proofs.Batches.{last_push, number_is_length}
use Rattle.dali_record.proofs.Ends.{by_push}
use Rattle.dali_record.proofs.EpochRules.{rules_before, ran}
use Rattle.dali_record.proofs.Lengths.{length-undo}
use Rattle.dali_record.proofs.Pushes.{cut_push, undos_of_push, none_now}
use Rattle.dali_record.proofs.Survivors.{has_filter}
use Rattle.dali_history.specs.History.{AreSpelled}
use Rattle.dali_history.proofs.Ascending.{begun_ascends}
use Rattle.dali_history.proofs.Prefixes.{IsLegalFor-front}
use Rattle.dali_history.proofs.Spelled.{AreSpelled-front}
use Rattle.dali_runs.proofs.CountsLemmas.SmallLogs.{is_small, some_length, of_kept}
use Rattle.dali_runs.proofs.CountsLemmas.LightLogs.{is_light}
use Rattle.dali_runs.proofs.CountsLemmas.Tallies.{numbers, numbers_drawn, tallies}
use Rattle.dali_bytes.specs.Fields.{number32, number64}
use Rattle.dali_crash.specs.Checkpoints.{head_now, image_in, target}
use Rattle.dali_crash.specs.StoreRuns.{IsKept}
use Rattle.dali_crash.proofs.StoreRuns.{current_is_small}
use Rattle.dali_runs.proofs.Flushes.{end_within}
use Rattle.std.proofs.lemmas.List.FromFn.{length-range_with_len}
use mathlib.Core.Bool.{or-false}
use Rattle.dali_lists.proofs.Lists.{get_push}
use Rattle.dali_lists.proofs.Members.{all_push}
use Rattle.dali_lists.proofs.Options.{some_of, some_of_test}
use Rattle.dali_bytes.proofs.Numbers.{length-number32, length-number64}
use Rattle.dali_runs.specs.State.{log_after}
use Rattle.dali_crash.specs.Disks.Disks.{IsPendingIn, IsRowIn, pending_bytes, row_bytes, txn_in, undoes_on}
use Rattle.dali_crash.specs.Disks.Heads.{HeadsFit, KeptFits, StaysFitting, NextFits}
use Rattle.dali_record.specs.declared.operations.Outcome.TheVariants.{Added, Killed, Put as PutIn, Changed}
use Rattle.dali_record.specs.declared.operations.Undo.TheVariants.{FreeCell as UndoFreeCell, ReviveCell as UndoReviveCell, Restore as UndoRestore, FreeEntry as UndoFreeEntry, ReviveEntry as UndoReviveEntry}
use Rattle.dali_runs.proofs.CountsLemmas.ShortLogs.{begun_most, undo_most}
use Rattle.dali_runs.specs.Run.{LogRun, no_image}
use Rattle.dali_crash.proofs.RecoveredWords.{all_drop_last}

-- what the rules say of a record behind the log Y
runs_behind : (s : Sizes) (Y : List Record) (r : Record) → separates r ≡ false → IsLegalFor s (Y ++ r ∷ []) → (h k : Rules) × (rules_state s Y ≡ Some h) × (rules_state s (Y ++ r ∷ []) ≡ Some k) × (runs s h r ≡ Some k)
runs_behind s Y r w legal =
    let k = some_of (rules_state s (Y ++ r ∷ [])) legal.rules in
    let b = rules_before s Y r k.0 k.1 in
    (b.0, k.0, b.1, k.1, ran s b.0 k.0 r w b.2)

-- ---- lengths
weighs : (L : List Record) → length L ≤ sum_by record_length L
weighs = by_push (λ L. length L ≤ sum_by record_length L) (omega arith) (λ L x here. omega (arith, here, some_length x, length_push L x, sum_by_push record_length L x))

-- a record that uses room: no more records stand then than there is room
room_left : (s : Sizes) (Y : List Record) (r : Record) (h : Rules) → rules_state s Y ≡ Some h → has_room h r ≡ true → length (Y ++ r ∷ []) ≤ room
room_left s Y r h e q =
    let w = tallies s Y h e in
    let le : h.weight + record_length r ≤ room = leb-true (h.weight + record_length r) room q in
    omega (arith, le, w.1, weighs Y, some_length r, length_push Y r)

-- ---- the lists of an epoch
undos_few : (t : ℕ) (E : List Record) → length (undos_of t E) ≤ length E
undos_few t = by_push (λ E. length (undos_of t E) ≤ length E) (omega arith) (λ E r here. omega (arith, here, length_push E r, ap length (undos_of_push t E r), one_more (undos_of t E) r))
  where
    added : (us : List Pending) (b : Block) (o : Option Undo) → length (us ++ undo_added b o) ≤ length us + 1
    added us b None = omega (arith, length-append us (undo_added b None))
    added us b (Some u) = omega (arith, length-append us (undo_added b (Some u)))

    dropped : (us : List Pending) → length (drop_last us) ≤ length us
    dropped [] = omega arith
    dropped (x ∷ []) = omega arith
    dropped (x ∷ y ∷ us) = omega (arith, dropped (y ∷ us))

    one_more : (us : List Pending) (r : Record) → length (undo_step t us r) ≤ length us + 1
    one_more us (Format i j) = omega arith
    one_more us (Begin u) = omega arith
    one_more us (Forward u b) = by_test (u == t)
      where
        by_test : (k : Bool) → length (cond k (us ++ undo_added b b.undo) us) ≤ length us + 1
        by_test true = added us b b.undo
        by_test false = omega arith
    one_more us (Done u c a) = omega arith
    one_more us (Commit u) = omega arith
    one_more us (Ended u) = omega arith
    one_more us (Solo u p b) = omega arith
    one_more us AuditBegin = omega arith
    one_more us (AuditClean b) = omega arith
    one_more us (AuditFail b rs) = omega arith
    one_more us (Restarted rs ds) = omega arith
    one_more us (Back u b) = by_test (u == t)
      where
        by_test : (k : Bool) → length (cond k (drop_last us) us) ≤ length us + 1
        by_test true = omega (arith, dropped us)
        by_test false = omega arith

-- ---- what holds of each epoch
abbrev open_records : List Record → List Record
open_records Y = (last_epoch Y).records

more_now : (Y : List Record) (r : Record) → separates r ≡ false → (last_epoch (Y ++ r ∷ [])).records ≡ (last_epoch Y).records ++ r ∷ []
more_now Y r e = ap (λ (z : Epoch). z.records) (last_push Y r e)

inside : (Y : List Record) → length (last_epoch Y).records ≤ length Y
inside Y = omega (arith, number_is_length Y)

record Fitting (s : Sizes) (Y : List Record) : Type 0 where
  rows : length (begun (last_epoch Y).records) ≤ room
  undos : (t : ℕ) → length (undos_of t (last_epoch Y).records) ≤ room
  each : (t : ℕ) → AllByRecursion (IsPendingIn s) (undos_of t (last_epoch Y).records)
  drawn : (t : ℕ) → has (begun (last_epoch Y).records) t ≡ true → t < next_after Y

fitting_none : (s : Sizes) (Y : List Record) → (last_epoch Y).records ≡ [] → Fitting s Y
fitting_none s Y none = record {
  rows = omega (arith, ap (λ E. length (begun E)) none);
  undos = λ t. omega (arith, ap (λ E. length (undos_of t E)) none);
  each = λ t. subst (λ E. AllByRecursion (IsPendingIn s) (undos_of t E)) (sym none) tt;
  drawn = λ t h. let z : has (begun []) t ≡ true = subst (λ E. has (begun E) t ≡ true) none h in absurd (cc);
}

-- the undo of an operation is on a region of its kind
kind_of : (s : Sizes) (r : ℕ) (op : Op) (o : Outcome) (u : Undo) → on_kind s r op ≡ true → undoes op o (Some u) ≡ true → undoes_on s r u ≡ true
kind_of s r Look o u k h = absurd (cc)
kind_of s r (Add p) o u k h = by_outcome o u h
  where
    by_undo : (e : ℕ) (v : Undo) → frees_entry e (Some v) ≡ true → undoes_on s r v ≡ true
    by_undo e (UndoFreeEntry f) q = k
    by_undo e _ q = absurd (cc)

    by_outcome : (z : Outcome) (v : Undo) → undoes_add z (Some v) ≡ true → undoes_on s r v ≡ true
    by_outcome (Added e) v q = by_undo e v q
    by_outcome _ v q = absurd (cc)
kind_of s r (KillEntry e) o u k h = by_outcome o u h
  where
    by_undo : (v : Undo) → revives_entry e (Some v) ≡ true → undoes_on s r v ≡ true
    by_undo (UndoReviveEntry f) q = k
    by_undo _ q = absurd (cc)

    by_outcome : (z : Outcome) (v : Undo) → undoes_kill_entry e z (Some v) ≡ true → undoes_on s r v ≡ true
    by_outcome Killed v q = by_undo v q
    by_outcome _ v q = absurd (cc)
kind_of s r (Put w) o u k h = by_outcome o u h
  where
    by_undo : (c : ℕ) (v : Undo) → frees_cell c (Some v) ≡ true → undoes_on s r v ≡ true
    by_undo c (UndoFreeCell d) q = k
    by_undo c _ q = absurd (cc)

    by_outcome : (z : Outcome) (v : Undo) → undoes_put z (Some v) ≡ true → undoes_on s r v ≡ true
    by_outcome (PutIn c) v q = by_undo c v q
    by_outcome _ v q = absurd (cc)
kind_of s r (Read c) o u k h = absurd (cc)
kind_of s r (Change c w) o u k h = by_outcome o u h
  where
    by_undo : (v : Undo) → restores c (Some v) ≡ true → undoes_on s r v ≡ true
    by_undo (UndoRestore d n ws) q = k
    by_undo _ q = absurd (cc)

    by_outcome : (z : Outcome) (v : Undo) → undoes_change c z (Some v) ≡ true → undoes_on s r v ≡ true
    by_outcome Changed v q = by_undo v q
    by_outcome _ v q = absurd (cc)
kind_of s r (KillCell c) o u k h = by_outcome o u h
  where
    by_undo : (v : Undo) → revives_cell c (Some v) ≡ true → undoes_on s r v ≡ true
    by_undo (UndoReviveCell d) q = k
    by_undo _ q = absurd (cc)

    by_outcome : (z : Outcome) (v : Undo) → undoes_kill_cell c z (Some v) ≡ true → undoes_on s r v ≡ true
    by_outcome Killed v q = by_undo v q
    by_outcome _ v q = absurd (cc)
kind_of s r (FreeCell c) o u k h = absurd (cc)
kind_of s r _ o u k h = absurd (cc)

-- ---- one record more
module _ (s : Sizes) (Y : List Record) (r : Record) (plain : separates r ≡ false) (legal : IsLegalFor s (Y ++ r ∷ [])) (w : Fitting s Y) where
  abbrev E : List Record
  E = (last_epoch Y).records

  now : (last_epoch (Y ++ r ∷ [])).records ≡ (last_epoch Y).records ++ r ∷ []
  now = more_now Y r plain

  rises : next_after Y ≤ next_after (Y ++ r ∷ [])
  rises = omega (arith, ap length (filter_map-append draws Y (r ∷ [])), length-append (filter_map draws Y) (filter_map draws (r ∷ [])))

  -- a record that begins nothing
  old_drawn : ((t : ℕ) → has (begun (r ∷ [])) t ≡ false) → (t : ℕ) → has (begun ((last_epoch Y).records ++ r ∷ [])) t ≡ true → t < next_after (Y ++ r ∷ [])
  old_drawn none t h = ⊎_elim (λ a. let lt : t < next_after Y = w.drawn t a in omega (arith, lt, rises)) (λ a. absurd (both_ways (has (begun (r ∷ [])) t) (none t) a)) (or_cases (has (begun E) t) (has (begun (r ∷ [])) t) (sym (begun_push E r t) ∙ h))
    where
      begun_push : (D : List Record) (q : Record) (u : ℕ) → has (begun (D ++ q ∷ [])) u ≡ (has (begun D) u || has (begun (q ∷ [])) u)
      begun_push D q u = ap (λ ts. has ts u) (filter_map-append begin_by D (q ∷ [])) ∙ list_any-append (λ v. v == u) (begun D) (begun (q ∷ []))

  grows : length (begun (r ∷ [])) ≡ 0 → ((t : ℕ) → has (begun (r ∷ [])) t ≡ false) → ((t : ℕ) → length (undo_step t (undos_of t (last_epoch Y).records) r) ≤ room) → ((t : ℕ) → AllByRecursion (IsPendingIn s) (undo_step t (undos_of t (last_epoch Y).records) r)) → Fitting s (Y ++ r ∷ [])
  grows size none few all = record {
    rows = omega (arith, w.rows, size, ap (λ D. length (begun D)) now, ap length (filter_map-append begin_by E (r ∷ [])), length-append (begun E) (begun (r ∷ [])));
    undos = λ t. omega (arith, few t, ap (λ D. length (undos_of t D)) now, ap length (undos_of_push t E r));
    each = λ t. subst (AllByRecursion (IsPendingIn s)) (sym (ap (undos_of t) now ∙ undos_of_push t E r)) (all t);
    drawn = λ t h. old_drawn none t (subst (λ D. has (begun D) t ≡ true) now h);
  }

-- the record of a block, of which nothing else changes
quiet : (s : Sizes) (Y : List Record) (r : Record) → separates r ≡ false → IsLegalFor s (Y ++ r ∷ []) → Fitting s Y → begun (r ∷ []) ≡ [] → ((t : ℕ) (us : List Pending) → undo_step t us r ≡ us) → Fitting s (Y ++ r ∷ [])
quiet s Y r plain legal w none same = grows s Y r plain legal w (ap length none) (λ t. ap (λ ts. has ts t) none)
    (λ t. omega (arith, w.undos t, ap length (same t (undos_of t (last_epoch Y).records))))
    (λ t. subst (AllByRecursion (IsPendingIn s)) (sym (same t (undos_of t (last_epoch Y).records))) (w.each t))

begins : (s : Sizes) (Y : List Record) (u : ℕ) → IsLegalFor s (Y ++ Begin u ∷ []) → Fitting s Y → Fitting s (Y ++ Begin u ∷ [])
begins s Y u legal w = record {
  rows = omega (arith, space, begun_most (last_epoch (Y ++ Begin u ∷ [])).records, inside (Y ++ Begin u ∷ []));
  undos = λ t. omega (arith, w.undos t, ap (λ D. length (undos_of t D)) now, ap length (undos_of_push t E (Begin u)));
  each = λ t. subst (AllByRecursion (IsPendingIn s)) (sym (ap (undos_of t) now ∙ undos_of_push t E (Begin u))) (w.each t);
  drawn = λ t h. ⊎_elim
      (λ a. let lt : t < next_after Y = w.drawn t a in omega (arith, lt, next))
      (λ a. let same : u ≡ t = eqb-true u t (sym (or-false (u == t)) ∙ a) in omega (arith, same, next, at))
      (or_cases (has (begun E) t) (has (begun (Begin u ∷ [])) t) (sym (begun_push t) ∙ subst (λ D. has (begun D) t ≡ true) now h));
}
  where
    E : List Record
    E = (last_epoch Y).records

    now : (last_epoch (Y ++ Begin u ∷ [])).records ≡ (last_epoch Y).records ++ Begin u ∷ []
    now = more_now Y (Begin u) refl

    begun_push : (t : ℕ) → has (begun ((last_epoch Y).records ++ Begin u ∷ [])) t ≡ (has (begun (last_epoch Y).records) t || has (begun (Begin u ∷ [])) t)
    begun_push t = ap (λ ts. has ts t) (filter_map-append begin_by E (Begin u ∷ [])) ∙ list_any-append (λ v. v == t) (begun E) (begun (Begin u ∷ []))

    v : (h k : Rules) × (rules_state s Y ≡ Some h) × (rules_state s (Y ++ Begin u ∷ []) ≡ Some k) × (runs s h (Begin u) ≡ Some k)
    v = runs_behind s Y (Begin u) refl legal

    asked : ((u == v.0.next) && has_room v.0 (Begin u)) ≡ true
    asked = of_kept ((u == v.0.next) && has_room v.0 (Begin u)) _ v.1 v.4

    space : length (Y ++ Begin u ∷ []) ≤ room
    space = room_left s Y (Begin u) v.0 v.2 (and_parts (u == v.0.next) (has_room v.0 (Begin u)) asked).1

    at : u ≡ next_after Y
    at = eqb-true u v.0.next (and_parts (u == v.0.next) (has_room v.0 (Begin u)) asked).0 ∙ ((tallies s Y v.0 v.2).2 ∙ numbers_drawn Y)

    next : next_after (Y ++ Begin u ∷ []) ≡ next_after Y + 1
    next = omega (arith, ap length (filter_map-append draws Y (Begin u ∷ [])), length-append (filter_map draws Y) (u ∷ []))

works : (s : Sizes) (Y : List Record) (u : ℕ) (b : Block) → IsLegalFor s (Y ++ Forward u b ∷ []) → CanBeSpelled (Forward u b) → Fitting s Y → Fitting s (Y ++ Forward u b ∷ [])
works s Y u b legal spelled w = grows s Y (Forward u b) refl legal w refl (λ t. refl)
    (λ t. omega (arith, space, undos_few t (last_epoch (Y ++ Forward u b ∷ [])).records, inside (Y ++ Forward u b ∷ []), ap (λ D. length (undos_of t D)) (more_now Y (Forward u b) refl), ap length (undos_of_push t (last_epoch Y).records (Forward u b))))
    (λ t. by_test t (u == t))
  where
    v : (h k : Rules) × (rules_state s Y ≡ Some h) × (rules_state s (Y ++ Forward u b ∷ []) ≡ Some k) × (runs s h (Forward u b) ≡ Some k)
    v = runs_behind s Y (Forward u b) refl legal

    asked : (on_kind s b.region b.op && has_room v.0 (Forward u b)) ≡ true
    asked = of_kept (on_kind s b.region b.op && has_room v.0 (Forward u b)) _ v.1 v.4

    space : length (Y ++ Forward u b ∷ []) ≤ room
    space = room_left s Y (Forward u b) v.0 v.2 (and_parts (on_kind s b.region b.op) (has_room v.0 (Forward u b)) asked).1

    is : IsBlock b
    is = spelled.1

    added : (us : List Pending) (o : Option Undo) → MayBeUndo o → undoes b.op b.outcome o ≡ true → AllByRecursion (IsPendingIn s) us → AllByRecursion (IsPendingIn s) (us ++ undo_added b o)
    added us None m h all = subst (AllByRecursion (IsPendingIn s)) (sym (append-nil us)) all
    added us (Some x) m h all = all_push (IsPendingIn s) us (pending b x) all (record {
      key = is.key;
      region = is.region;
      undo = m;
      kind = kind_of s b.region b.op b.outcome x (and_parts (on_kind s b.region b.op) (has_room v.0 (Forward u b)) asked).0 h;
    })

    goes_with : undoes b.op b.outcome b.undo ≡ true
    goes_with = (and_parts (is_within b.write b.read && is_outcome_of b.op b.outcome) (undoes b.op b.outcome b.undo) is.fit).1

    by_test : (t : ℕ) (k : Bool) → AllByRecursion (IsPendingIn s) (cond k (undos_of t (last_epoch Y).records ++ undo_added b b.undo) (undos_of t (last_epoch Y).records))
    by_test t true = added (undos_of t (last_epoch Y).records) b.undo is.undo goes_with (w.each t)
    by_test t false = w.each t

takes_back : (s : Sizes) (Y : List Record) (u : ℕ) (b : Block) → IsLegalFor s (Y ++ Back u b ∷ []) → Fitting s Y → Fitting s (Y ++ Back u b ∷ [])
takes_back s Y u b legal w = grows s Y (Back u b) refl legal w refl (λ t. refl) (λ t. fewer t (u == t)) (λ t. by_test t (u == t))
  where
    dropped : (us : List Pending) → length (drop_last us) ≤ length us
    dropped [] = omega arith
    dropped (x ∷ []) = omega arith
    dropped (x ∷ y ∷ us) = omega (arith, dropped (y ∷ us))

    fewer : (t : ℕ) (k : Bool) → length (cond k (drop_last (undos_of t (last_epoch Y).records)) (undos_of t (last_epoch Y).records)) ≤ room
    fewer t true = omega (arith, w.undos t, dropped (undos_of t (last_epoch Y).records))
    fewer t false = w.undos t

    by_test : (t : ℕ) (k : Bool) → AllByRecursion (IsPendingIn s) (cond k (drop_last (undos_of t (last_epoch Y).records)) (undos_of t (last_epoch Y).records))
    by_test t true = all_drop_last (IsPendingIn s) (undos_of t (last_epoch Y).records) (w.each t)
    by_test t false = w.each t

fitting : (s : Sizes) (L : List Record) → IsLegalFor s L → AreSpelled L → Fitting s L
fitting s = by_push (λ Y. IsLegalFor s Y → AreSpelled Y → Fitting s Y) (λ legal spelled. fitting_none s [] refl) (λ Y r ih legal spelled.
    step Y r legal (spelled (length Y) r (get_push Y r)) (ih (IsLegalFor-front s Y (r ∷ []) legal) (AreSpelled-front Y (r ∷ []) spelled)))
  where
    step : (Y : List Record) (r : Record) → IsLegalFor s (Y ++ r ∷ []) → CanBeSpelled r → Fitting s Y → Fitting s (Y ++ r ∷ [])
    step Y (Format i j) legal c w = fitting_none s (Y ++ Format i j ∷ []) (none_now Y (Format i j) refl)
    step Y (Begin u) legal c w = begins s Y u legal w
    step Y (Forward u b) legal c w = works s Y u b legal c w
    step Y (Done u k a) legal c w = quiet s Y (Done u k a) refl legal w refl (λ t us. refl)
    step Y (Commit u) legal c w = quiet s Y (Commit u) refl legal w refl (λ t us. refl)
    step Y (Ended u) legal c w = quiet s Y (Ended u) refl legal w refl (λ t us. refl)
    step Y (Solo u p b) legal c w = quiet s Y (Solo u p b) refl legal w refl (λ t us. refl)
    step Y AuditBegin legal c w = quiet s Y AuditBegin refl legal w refl (λ t us. refl)
    step Y (AuditClean b) legal c w = quiet s Y (AuditClean b) refl legal w refl (λ t us. refl)
    step Y (AuditFail b rs) legal c w = quiet s Y (AuditFail b rs) refl legal w refl (λ t us. refl)
    step Y (Restarted rs ds) legal c w = fitting_none s (Y ++ Restarted rs ds ∷ []) (none_now Y (Restarted rs ds) refl)
    step Y (Back u b) legal c w = takes_back s Y u b legal w

-- ---- the bytes of a table

pending_most : (s : Sizes) (u : Pending) → IsPendingIn s u → length (pending_bytes u) ≤ 62
pending_most s u is = omega (arith, length-append (number64 u.key) (number32 u.region ++ undo_bytes (Some u.undo)), length-append (number32 u.region) (undo_bytes (Some u.undo)), length-number64 u.key, length-number32 u.region, length-undo (Some u.undo) is.undo, undo_most (Some u.undo))

pendings_most : (s : Sizes) (us : List Pending) → AllByRecursion (IsPendingIn s) us → length (flat_map pending_bytes us) ≤ 62 * length us
pendings_most s [] h = omega arith
pendings_most s (u ∷ us) h = omega (arith, length-append (pending_bytes u) (flat_map pending_bytes us), pending_most s u h.0, pendings_most s us h.1)

row_most : (s : Sizes) (row : Row) → AllByRecursion (IsPendingIn s) row.undos → length row.undos ≤ room → length (row_bytes row) ≤ 16708009997
row_most s row h le = omega (
  arith,
  le,
  pendings_most s row.undos h,
  length-append (number64 row.txn) (flag_bytes row.is_committed ++ (number32 (length row.undos) ++ flat_map pending_bytes row.undos)),
  length-number64 row.txn,
  length-append (flag_bytes row.is_committed) (number32 (length row.undos) ++ flat_map pending_bytes row.undos),
  flag_is_1 row.is_committed,
  length-append (number32 (length row.undos)) (flat_map pending_bytes row.undos),
  length-number32 (length row.undos),
)
  where
    flag_is_1 : (b : Bool) → length (flag_bytes b) ≡ 1
    flag_is_1 true = refl
    flag_is_1 false = refl

-- ---- the table
module _ (s : Sizes) (L : List Record) (legal : IsLegalFor s L) (spelled : AreSpelled L) where
  abbrev N : List Record
  N = (last_epoch L).records

  w : Fitting s L
  w = fitting s L legal spelled

  row_undos_few : (t : ℕ) → length (row_of (last_epoch L).records t).undos ≤ room
  row_undos_few t = by_test (has (committed N) t)
    where
      by_test : (k : Bool) → length (cond k [] (undos_of t (last_epoch L).records)) ≤ room
      by_test true = omega arith
      by_test false = w.undos t

  row_each : (t : ℕ) → AllByRecursion (IsPendingIn s) (row_of (last_epoch L).records t).undos
  row_each t = by_test (has (committed N) t)
    where
      by_test : (k : Bool) → AllByRecursion (IsPendingIn s) (cond k [] (undos_of t (last_epoch L).records))
      by_test true = tt
      by_test false = w.each t

  row_committed : (t : ℕ) → (row_of (last_epoch L).records t).is_committed ≡ true → (row_of (last_epoch L).records t).undos ≡ []
  row_committed t h = ap (λ k. cond k [] (undos_of t N)) h

  row_fits : (t : ℕ) → has (begun (last_epoch L).records) t ≡ true → IsRowIn s (next_after L) (row_of (last_epoch L).records t)
  row_fits t h = record { txn = w.drawn t h; count = omega (arith, row_undos_few t); undos = row_each t; committed = row_committed t }

  rows_fit : (ts : List ℕ) → ((t : ℕ) → has ts t ≡ true → has (begun (last_epoch L).records) t ≡ true) → AllByRecursion (IsRowIn s (next_after L)) (map (row_of (last_epoch L).records) ts)
  rows_fit [] h = tt
  rows_fit (t ∷ ts) h = (row_fits t (h t (or_left (t == t) (has ts t) (eq-eqb t t refl))), rows_fit ts (λ u k. h u (or_right (t == u) (has ts u) k)))

  rows_most : (ts : List ℕ) → length (flat_map row_bytes (map (row_of (last_epoch L).records) ts)) ≤ 16708009997 * length ts
  rows_most [] = omega arith
  rows_most (t ∷ ts) = omega (arith, length-append (row_bytes (row_of N t)) (flat_map row_bytes (map (row_of N) ts)), row_most s (row_of N t) (row_each t) (row_undos_few t), rows_most ts)

  abbrev T : List ℕ
  T = filter (λ t. not (has (ended N) t)) (begun N)

  few : length (filter (λ t. not (has (ended (last_epoch L).records) t)) (begun (last_epoch L).records)) ≤ room
  few = omega (arith, fewer (λ t. not (has (ended N) t)) (begun N), w.rows)
    where
      fewer : (p : ℕ → Bool) (xs : List ℕ) → length (filter p xs) ≤ length xs
      fewer p [] = omega arith
      fewer p (x ∷ xs) = by_test (p x) (filter p xs) (fewer p xs)
        where
          by_test : (b : Bool) (ys : List ℕ) → length ys ≤ length xs → length (cond b (x ∷ ys) ys) ≤ length (x ∷ xs)
          by_test true ys h = omega (arith, h)
          by_test false ys h = omega (arith, h)

  txns : (ts : List ℕ) → map txn_in (map (row_of (last_epoch L).records) ts) ≡ ts
  txns [] = refl
  txns (t ∷ ts) = ap (λ us. t ∷ us) (txns ts)

  up : ascends (filter (λ t. not (has (ended (last_epoch L).records) t)) (begun (last_epoch L).records)) ≡ true
  up = ascends_of T (IsStrictlyIncreasing-filter (λ t. not (has (ended N) t)) (begun N) (begun_ascends s L (last_epoch L) legal.rules (Contains-append_right (cut L).closed ((cut L).now ∷ []) (cut L).now (0, omega arith, refl))))
    where
      ascends_of : (xs : List ℕ) → IsStrictlyIncreasing xs → ascends xs ≡ true
      ascends_of [] h = refl
      ascends_of (x ∷ []) h = refl
      ascends_of (x ∷ y ∷ ys) h = and_from (nat_lt x y) (ascends (y ∷ ys)) (lt-ltb x y (h 0 (omega arith))) (ascends_of (y ∷ ys) (λ k l. next k (h (suc k) (omega (arith, l)))))
        where
          next : (k : ℕ) → slice_index (x ∷ y ∷ ys) (suc k) < slice_index (x ∷ y ∷ ys) (suc k + 1) → slice_index (y ∷ ys) k < slice_index (y ∷ ys) (k + 1)
          next k l = let same : suc k + 1 ≡ suc (k + 1) = omega arith in subst (λ j. slice_index (y ∷ ys) k < slice_index (x ∷ y ∷ ys) j) same l

  whole : table_before (last_epoch L) (length L) ≡ map (row_of (last_epoch L).records) (filter (λ t. not (has (ended (last_epoch L).records) t)) (begun (last_epoch L).records))
  whole = ap (λ P. map (row_of P) (filter (λ t. not (has (ended P) t)) (begun P))) (take_whole (length L - (last_epoch L).first) N (omega (arith, number_is_length L)))
    where
      take_whole : {X : Type 0} (k : ℕ) (xs : List X) → length xs ≤ k → take k xs ≡ xs
      take_whole zero [] h = refl
      take_whole zero (x ∷ xs) h = absurd (omega (arith, h))
      take_whole (suc k) [] h = refl
      take_whole (suc k) (x ∷ xs) h = ap (λ z. x ∷ z) (take_whole k xs (omega (arith, h)))

  -- what a table asks for
  abbrev Asks : List Row → Type 0
  Asks rows = (length rows ≤ room) × (length (flat_map row_bytes rows) ≤ 16708009997 * length rows) × AllByRecursion (IsRowIn s (next_after L)) rows × (ascends (map txn_in rows) ≡ true)

  has_filtered : (t : ℕ) → has (filter (λ u. not (has (ended (last_epoch L).records) u)) (begun (last_epoch L).records)) t ≡ true → has (begun (last_epoch L).records) t ≡ true
  has_filtered t h = (and_parts (not (has (ended N) t)) (has (begun N) t) (sym (has_filter (λ u. not (has (ended N) u)) (begun N) t) ∙ h)).1

  asks : (rows : List Row) → (rows ≡ table_before (last_epoch L) (length L)) ⊎ (rows ≡ []) → (length rows ≤ room) × (length (flat_map row_bytes rows) ≤ 16708009997 * length rows) × AllByRecursion (IsRowIn s (next_after L)) rows × (ascends (map txn_in rows) ≡ true)
  asks rows (inl e) = subst Asks (sym (e ∙ whole)) (omega (arith, few, length-map T (row_of N)), omega (arith, rows_most T, length-map T (row_of N)), rows_fit T has_filtered, ap ascends (txns T) ∙ up)
  asks rows (inr e) = subst Asks (sym e) (omega arith, omega arith, tt, refl)

pub heads_fit : HeadsFit
heads_fit s L h image legal spelled some is number place regions_are words = record {
  number = number;
  place = place;
  first = omega (arith, is.first, small);
  weight = omega (arith, is.weight, is_light s L legal spelled);
  some = omega (arith, is.next);
  next = omega (arith, is.next, drawn_few, small);
  whole = regions_are;
  words = words;
  count = omega (arith, w.0);
  size = omega (arith, length-append (number32 (length h.table)) (flat_map row_bytes h.table), length-number32 (length h.table), w.0, w.1);
  rows = subst (λ n. AllByRecursion (IsRowIn s n) h.table) (sym is.next) w.2;
  ascending = w.3;
}
  where
    w : (length h.table ≤ room) × (length (flat_map row_bytes h.table) ≤ 16708009997 * length h.table) × AllByRecursion (IsRowIn s (next_after L)) h.table × (ascends (map txn_in h.table) ≡ true)
    w = asks s L legal spelled h.table is.table

    small : length L < 2 ^ 40
    small = is_small s L legal

    -- the Format draws no number
    drawn_few : next_after L ≤ length L
    drawn_few = first_of L some legal
      where
        draws_few : (X : List Record) → length (filter_map draws X) ≤ length X
        draws_few = by_push (λ X. length (filter_map draws X) ≤ length X) (omega arith) (λ X r here. omega (arith, here, length_push X r, ap length (filter_map-append draws X (r ∷ [])), length-append (filter_map draws X) (filter_map draws (r ∷ [])), one r))
          where
            one : (r : Record) → length (filter_map draws (r ∷ [])) ≤ 1
            one (Format i j) = omega arith
            one (Begin u) = omega arith
            one (Forward u b) = omega arith
            one (Done u c a) = omega arith
            one (Commit u) = omega arith
            one (Ended u) = omega arith
            one (Solo u p b) = omega arith
            one AuditBegin = omega arith
            one (AuditClean b) = omega arith
            one (AuditFail b rs) = omega arith
            one (Restarted rs ds) = omega arith
            one (Back u b) = omega arith

        none_first : (r : Record) (k : Rules) → rules_step s rules_start r ≡ Some k → draws r ≡ None
        none_first (Format i j) k e = refl
        none_first (Begin u) k e = absurd (cc)
        none_first (Forward u b) k e = absurd (cc)
        none_first (Done u c a) k e = absurd (cc)
        none_first (Commit u) k e = absurd (cc)
        none_first (Ended u) k e = absurd (cc)
        none_first (Solo u p b) k e = absurd (cc)
        none_first AuditBegin k e = absurd (cc)
        none_first (AuditClean b) k e = absurd (cc)
        none_first (AuditFail b rs) k e = absurd (cc)
        none_first (Restarted rs ds) k e = absurd (cc)
        none_first (Back u b) k e = absurd (cc)

        alone : (r : Record) → draws r ≡ None → filter_map draws (r ∷ []) ≡ []
        alone r h = rw h refl

        first_of : (X : List Record) → 0 < length X → IsLegalFor s X → next_after X ≤ length X
        first_of [] h l = absurd (omega (arith, h))
        first_of (x ∷ X) h l =
            let k = some_of (rules_state s (x ∷ [])) (IsLegalFor-front s (x ∷ []) X l).rules in
            let none : draws x ≡ None = none_first x k.0 k.1 in
            let parts : length (filter_map draws (x ∷ X)) ≡ length (filter_map draws X) = ap length (filter_map-append draws (x ∷ []) X) ∙ ap (λ ts. length (ts ++ filter_map draws X)) (alone x none) in
            omega (arith, parts, draws_few X)

pub kept_fits : KeptFits
kept_fits bases L c image runs number place regions_are words = heads_fit c.system.sizes L (head_now L c) image runs.log.legal runs.log.spelled some (record { first = first; weight = runs.counts.end ∙ tally.1; next = next; table = inl refl }) number place regions_are words
  where
    tally : (runs.counts.now.count ≡ length L) × (runs.counts.now.weight ≡ sum_by record_length L) × (runs.counts.now.next ≡ numbers L)
    tally = tallies c.system.sizes L runs.counts.now runs.counts.rules

    first : c.system.records ≡ length L
    first = runs.counts.records ∙ tally.0

    next : c.system.next ≡ next_after L
    next = runs.counts.next ∙ (tally.2 ∙ numbers_drawn L)

    some : 0 < length L
    some = by_count runs.counts.now.count refl
      where
        by_count : (m : ℕ) → runs.counts.now.count ≡ m → 0 < length L
        by_count zero e = absurd (both_ways (runs.counts.now.count == 0) runs.counts.some (eq-eqb runs.counts.now.count 0 e))
        by_count (suc m) e = omega (arith, tally.0, e)

-- ---- a front of the log
-- the log up to number n of its last epoch
front_epoch : (L : List Record) (n : ℕ) → (last_epoch L).first ≤ n → n ≤ length L → last_epoch (take n L) ≡ record { first = (last_epoch L).first; records = take (n - (last_epoch L).first) (last_epoch L).records }
front_epoch L n from to = by_push (λ X. (last_epoch X).first ≤ n → n ≤ length X → last_epoch (take n X) ≡ record { first = (last_epoch X).first; records = take (n - (last_epoch X).first) (last_epoch X).records }) none more L from to
  where
    none : (last_epoch []).first ≤ n → n ≤ 0 → last_epoch (take n []) ≡ record { first = (last_epoch []).first; records = take (n - (last_epoch []).first) (last_epoch []).records }
    none from to = let zero_is : 0 ≡ n = omega (arith, to) in subst (λ k. last_epoch (take k []) ≡ record { first = (last_epoch []).first; records = take (k - (last_epoch []).first) (last_epoch []).records }) zero_is refl

    all_of : {X : Type 0} (k : ℕ) (xs : List X) → length xs ≤ k → take k xs ≡ xs
    all_of zero [] h = refl
    all_of zero (x ∷ xs) h = absurd (omega (arith, h))
    all_of (suc k) [] h = refl
    all_of (suc k) (x ∷ xs) h = ap (λ z. x ∷ z) (all_of k xs (omega (arith, h)))

    more : (X : List Record) (r : Record) → ((last_epoch X).first ≤ n → n ≤ length X → last_epoch (take n X) ≡ record { first = (last_epoch X).first; records = take (n - (last_epoch X).first) (last_epoch X).records })
        → (last_epoch (X ++ r ∷ [])).first ≤ n → n ≤ length (X ++ r ∷ []) → last_epoch (take n (X ++ r ∷ [])) ≡ record { first = (last_epoch (X ++ r ∷ [])).first; records = take (n - (last_epoch (X ++ r ∷ [])).first) (last_epoch (X ++ r ∷ [])).records }
    more X r ih from to = by_size (cases_lt n (length (X ++ r ∷ [])))
      where
        D : Epoch
        D = last_epoch (X ++ r ∷ [])

        by_kind : (b : Bool) → separates r ≡ b → n < length (X ++ r ∷ []) → last_epoch (take n (X ++ r ∷ [])) ≡ record { first = (last_epoch (X ++ r ∷ [])).first; records = take (n - (last_epoch (X ++ r ∷ [])).first) (last_epoch (X ++ r ∷ [])).records }
        by_kind true e lt = absurd (omega (arith, lt, from, number_is_length (X ++ r ∷ []), ap length (none_now X r e)))
        by_kind false e lt =
            let now : last_epoch (X ++ r ∷ []) ≡ record { first = (last_epoch X).first; records = (last_epoch X).records ++ r ∷ [] } = last_push X r e in
            let le : n ≤ length X = omega (arith, lt, length_push X r) in
            let low : (last_epoch X).first ≤ n = omega (arith, from, ap (λ (z : Epoch). z.first) now) in
            let within : n - (last_epoch X).first ≤ length (last_epoch X).records = omega (arith, le, number_is_length X) in
            ap last_epoch (take-append-le n X (r ∷ []) le)
            ∙ (ih low le
            ∙ (ap (λ E. record { first = (last_epoch X).first; records = E }) (sym (take-append-le (n - (last_epoch X).first) (last_epoch X).records (r ∷ []) within))
            ∙ ap (λ (z : Epoch). record { first = z.first; records = take (n - z.first) z.records }) (sym now)))

        by_size : (n < length (X ++ r ∷ [])) ⊎ (length (X ++ r ∷ []) ≤ n) → last_epoch (take n (X ++ r ∷ [])) ≡ record { first = (last_epoch (X ++ r ∷ [])).first; records = take (n - (last_epoch (X ++ r ∷ [])).first) (last_epoch (X ++ r ∷ [])).records }
        by_size (inl lt) = by_kind (separates r) refl lt
        by_size (inr ge) = ap last_epoch (all_of n (X ++ r ∷ []) ge) ∙ ap (λ E. record { first = D.first; records = E }) (sym (all_of (n - D.first) D.records (omega (arith, ge, number_is_length (X ++ r ∷ [])))))

-- behind its Format a log's last epoch doesn't begin at 0
begins_late : (L : List Record) (i h : ℕ) → slice_get L 0 ≡ Some (Format i h) → 0 < (last_epoch L).first
begins_late L i h = by_push (λ X. slice_get X 0 ≡ Some (Format i h) → 0 < (last_epoch X).first) (λ e. absurd (cc)) (λ X r ih e. more X r ih e) L
  where
    later : (X : List Record) (r : Record) → (separates r ≡ false → 0 < (last_epoch X).first) → 0 < (last_epoch (X ++ r ∷ [])).first
    later X (Format a b) f = omega (arith, ap (λ (c : Cut). c.now.first) (cut_push X (Format a b)))
    later X (Begin t) f = omega (arith, f refl, ap (λ (c : Cut). c.now.first) (cut_push X (Begin t)))
    later X (Forward t b) f = omega (arith, f refl, ap (λ (c : Cut). c.now.first) (cut_push X (Forward t b)))
    later X (Done t b a) f = omega (arith, f refl, ap (λ (c : Cut). c.now.first) (cut_push X (Done t b a)))
    later X (Commit t) f = omega (arith, f refl, ap (λ (c : Cut). c.now.first) (cut_push X (Commit t)))
    later X (Ended t) f = omega (arith, f refl, ap (λ (c : Cut). c.now.first) (cut_push X (Ended t)))
    later X (Solo t p b) f = omega (arith, f refl, ap (λ (c : Cut). c.now.first) (cut_push X (Solo t p b)))
    later X AuditBegin f = omega (arith, f refl, ap (λ (c : Cut). c.now.first) (cut_push X AuditBegin))
    later X (AuditClean b) f = omega (arith, f refl, ap (λ (c : Cut). c.now.first) (cut_push X (AuditClean b)))
    later X (AuditFail b rs) f = omega (arith, f refl, ap (λ (c : Cut). c.now.first) (cut_push X (AuditFail b rs)))
    later X (Restarted rs ds) f = omega (arith, ap (λ (c : Cut). c.now.first) (cut_push X (Restarted rs ds)))
    later X (Back t b) f = omega (arith, f refl, ap (λ (c : Cut). c.now.first) (cut_push X (Back t b)))

    more : (X : List Record) (r : Record) → (slice_get X 0 ≡ Some (Format i h) → 0 < (last_epoch X).first) → slice_get (X ++ r ∷ []) 0 ≡ Some (Format i h) → 0 < (last_epoch (X ++ r ∷ [])).first
    more [] r ih e = let same : r ≡ Format i h = cc in later [] r (λ q. let z : true ≡ false = subst (λ x. separates x ≡ false) same q in absurd (cc))
    more (x ∷ X) r ih e = later (x ∷ X) r (λ q. ih e)

pub stays_fitting : StaysFitting
stays_fitting bases before st h image run begun number place regions_are words =
    heads_fit s front h image (IsLegalFor-front s front rest (subst (IsLegalFor s) (sym parts) legal)) (AreSpelled-front front rest (subst AreSpelled (sym parts) spelled)) some (record {
      first = sym size;
      weight = w.weight;
      next = w.next;
      table = inl (w.table ∙ (sym twice ∙ ap (λ m. table_before (last_epoch front) m) (sym size)));
    }) number place regions_are words
  where
    s : Sizes
    s = st.core.system.sizes

    L : List Record
    L = st.log

    w : IsKept st.log st.core.vault no_image h
    w = run.kept h begun

    log : st.log ≡ log_after before st.core.system
    log = run.run.log

    legal : IsLegalFor st.core.system.sizes st.log
    legal = subst (IsLegalFor s) (sym log) run.run.run.runs.log.legal

    spelled : AreSpelled st.log
    spelled = subst AreSpelled (sym log) run.run.run.runs.log.spelled

    front : List Record
    front = take h.first st.log

    rest : List Record
    rest = drop h.first st.log

    parts : take h.first st.log ++ drop h.first st.log ≡ st.log
    parts = take-append-drop h.first L

    size : length (take h.first st.log) ≡ h.first
    size = length-take-le h.first L w.to

    now : last_epoch (take h.first st.log) ≡ record { first = (last_epoch st.log).first; records = take (h.first - (last_epoch st.log).first) (last_epoch st.log).records }
    now = front_epoch L h.first w.from w.to

    again : {X : Type 0} (k : ℕ) (xs : List X) → take k (take k xs) ≡ take k xs
    again zero xs = refl
    again (suc k) [] = refl
    again (suc k) (x ∷ xs) = ap (λ z. x ∷ z) (again k xs)

    twice : table_before (last_epoch (take h.first st.log)) h.first ≡ table_before (last_epoch st.log) h.first
    twice = ap (λ z. table_before z h.first) now ∙ ap (λ P. map (row_of P) (filter (λ t. not (has (ended P) t)) (begun_in P))) (again (h.first - (last_epoch L).first) (last_epoch L).records)
      where
        begun_in : List Record → List ℕ
        begun_in P = filter_map begin_by P

    some : 0 < length (take h.first st.log)
    some = omega (arith, size, w.from, begins_late L s.index s.heap (subst (λ M. slice_get M 0 ≡ Some (Format s.index s.heap)) (sym log) run.run.run.runs.log.format))

-- ---- the words, once each region has a copy
words_told : (told : ℕ → List ℕ) (k n : ℕ) → ((r : ℕ) → r < k + n → AreWords (told r)) → AllAreWords (map told (range_with_len k n))
words_told told k zero each = tt
words_told told k (suc n) each = (each k (omega arith), words_told told (k + 1) n (λ r lt. each r (omega (arith, lt))))

pub next_fits : NextFits
next_fits bases before st h run begun copied =
    stays_fitting bases before st h (image_in s st.told (target st)) run begun
    (omega (arith, kept.number, current_is_small bases before st run))
    (omega (arith, kept.weight, kept.short, end_within s st.log h.first h.place log kept.to (omega (arith, kept.weight, kept.short))))
    (length-map (range_with_len 0 (regions s)) (st.told (target st)) ∙ length-range_with_len 0 (regions s))
    (words_told (st.told (target st)) 0 (regions s) (λ r lt. let k = some_of_test (st.copies (target st) r) (copied r (omega (arith, lt))) in run.written.copied (target st) r k.0 k.1))
  where
    s : Sizes
    s = st.core.system.sizes

    kept : IsKept st.log st.core.vault no_image h
    kept = run.kept h begun

    log : LogRun st.core.system.sizes st.log
    log = subst (LogRun s) (sym run.run.log) run.run.run.runs.log
