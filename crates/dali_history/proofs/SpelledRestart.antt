-- The record of a restart can be spelled: its lists ascend, and name transactions that had room to begin.
use Rattle.std.proofs.Common.{◌≡◌, ℕ, suc, ◌+◌, ◌*◌, ◌<◌, ◌≤◌, ◌^◌, Bool, true, false, cond, List, [], ◌∷◌, ◌++◌, length, Option, Some, None, refl, ap, sym, subst, ◌∙◌, arith}
use Rattle.std.specs.Prelude.{IsSome, ⊤, ◌==◌, ◌&&◌, not, nat_lt, filter, slice_index}
use Rattle.std.specs.List.{AllByRecursion}
use Rattle.std.specs.List.Sorted.{IsStrictlyIncreasing}
use Rattle.std.proofs.lemmas.List.{length-append}
use Rattle.std.proofs.lemmas.List.Elements.{filter_map-append, Contains-append_right}
use Rattle.std.proofs.lemmas.Bool.{and_parts, and_from, lt-ltb, leb-true}
use Rattle.dali_lists.proofs.Lists.{length_filter, get_push}
use Rattle.dali_geometry.specs.Sizes.{Sizes}
use Rattle.dali_record.specs.declared.records.Record.{Record}
use Rattle.dali_record.specs.declared.records.Record.TheVariants.{Format, Begin, Forward, Done, Commit, Ended, Solo, AuditBegin, AuditClean, AuditFail, Restarted, Back}
use Rattle.dali_record.specs.Spelling.{Is64, AreNumbers, ascends, CanBeSpelled, record_length}
use Rattle.dali_record.specs.Log.{begun, begin_by, committed, ended}
use Rattle.dali_record.specs.Epochs.{Cut, cut, last_epoch}
use Rattle.dali_record.specs.Damage.{has, damage_of, marks, has_corrupt, rolled_list, deleted_list}
use Rattle.dali_record.specs.Legal.{Rules, rules_state, rules_next, rules_first, rules_behind, runs, kept_if, passes, has_room, room}
use Rattle.dali_record.proofs.Ends.{by_push}
use Rattle.dali_record.proofs.Pushes.{cut_push, rules_state_push, separates}
use Rattle.dali_history.specs.History.{AreSpelled}
use Rattle.dali_history.proofs.OwnEpoch.{cut_step_more}
use Rattle.dali_history.proofs.Ascending.{rolled_list_ascends, deleted_list_ascends}
use Rattle.dali_history.proofs.Spelled.{AreSpelled-front, AreSpelled-push}

-- ---- each Begin takes 9 bytes, and has room
abbrev pub Weighs : ℕ → Option Rules → Type 0
Weighs n None = ⊤
Weighs n (Some g) = (9 * n ≤ g.weight) × (9 * n ≤ room)

weighs_if : (c : Bool) (n : ℕ) (g : Rules) → (c ≡ true → (9 * n ≤ g.weight) × (9 * n ≤ room)) → Weighs n (kept_if c g)
weighs_if true n g h = h refl
weighs_if false n g h = tt

weighs_either : (c : Bool) (n : ℕ) (o p : Option Rules) → Weighs n o → Weighs n p → Weighs n (cond c o p)
weighs_either true n o p h k = h
weighs_either false n o p h k = k

-- how many transactions begin with the record
abbrev pub more_begun : ℕ → Record → ℕ
more_begun n r = n + length (begun (r ∷ []))

grows : (n w m : ℕ) → (9 * n ≤ w) × (9 * n ≤ room) → (9 * (n + 0) ≤ w + m) × (9 * (n + 0) ≤ room)
grows n w m h = (omega (arith, h.0), omega (arith, h.1))

begins : (n : ℕ) (g : Rules) (t : ℕ) → (9 * n ≤ g.weight) × (9 * n ≤ room) → ((t == g.next) && has_room g (Begin t)) ≡ true → (9 * (n + 1) ≤ g.weight + 9) × (9 * (n + 1) ≤ room)
begins n g t h e =
    let fits : g.weight + 9 ≤ room = leb-true (g.weight + 9) room (and_parts (t == g.next) (has_room g (Begin t)) e).1 in
    (omega (arith, h.0), omega (arith, h.0, fits))

weighs_runs : (s : Sizes) (n : ℕ) (g : Rules) (r : Record) → (9 * n ≤ g.weight) × (9 * n ≤ room) → Weighs (more_begun n r) (runs s g r)
weighs_runs s n g (Format i k) h = tt
weighs_runs s n g (Begin t) h = weighs_if ((t == g.next) && has_room g (Begin t)) (n + 1) _ (begins n g t h)
weighs_runs s n g (Forward t b) h = weighs_if _ (n + 0) (passes g (Forward t b)) (λ e. grows n g.weight (record_length (Forward t b)) h)
weighs_runs s n g (Back t b) h = weighs_if _ (n + 0) (passes g (Back t b)) (λ e. grows n g.weight (record_length (Back t b)) h)
weighs_runs s n g (Done t c a) h = weighs_if _ (n + 0) (passes g (Done t c a)) (λ e. grows n g.weight (record_length (Done t c a)) h)
weighs_runs s n g (Commit t) h = grows n g.weight 9 h
weighs_runs s n g (Ended t) h = grows n g.weight 9 h
weighs_runs s n g (Solo t p b) h = weighs_if _ (n + 0) _ (λ e. grows n g.weight (record_length (Solo t p b)) h)
weighs_runs s n g AuditBegin h = weighs_if _ (n + 0) _ (λ e. grows n g.weight 1 h)
weighs_runs s n g (AuditClean b) h = weighs_if _ (n + 0) _ (λ e. grows n g.weight 9 h)
weighs_runs s n g (AuditFail b rs) h = weighs_if _ (n + 0) _ (λ e. grows n g.weight (record_length (AuditFail b rs)) h)
weighs_runs s n g (Restarted rs ds) h = tt

weighs_first : (s : Sizes) (n : ℕ) (g : Rules) (r : Record) → (9 * n ≤ g.weight) × (9 * n ≤ room) → Weighs (more_begun n r) (rules_first s g r)
weighs_first s n g (Format i k) h = weighs_if _ (n + 0) (passes g (Format i k)) (λ e. grows n g.weight 10 h)
weighs_first s n g r h = tt

weighs_behind : (s : Sizes) (n : ℕ) (g : Rules) (r : Record) → (9 * n ≤ g.weight) × (9 * n ≤ room) → Weighs (more_begun n r) (rules_behind s g r)
weighs_behind s n g (Restarted rs ds) h = weighs_if _ (n + 0) _ (λ e. grows n g.weight (record_length (Restarted rs ds)) h)
weighs_behind s n g r h = weighs_either g.failed (more_begun n r) None (runs s g r) tt (weighs_runs s n g r h)

weighs_next : (s : Sizes) (n : ℕ) (o : Option Rules) (r : Record) → Weighs n o → Weighs (more_begun n r) (rules_next s o r)
weighs_next s n None r h = tt
weighs_next s n (Some g) r h = weighs_either (g.count == 0) (more_begun n r) _ _ (weighs_first s n g r h) (weighs_behind s n g r h)

pub begun_push : (E : List Record) (r : Record) → length (begun (E ++ r ∷ [])) ≡ more_begun (length (begun E)) r
begun_push E r = ap length (filter_map-append begin_by E (r ∷ [])) ∙ length-append (begun E) (begun (r ∷ []))

pub weighs_all : (s : Sizes) (L : List Record) → Weighs (length (begun L)) (rules_state s L)
weighs_all s L = by_push (λ M. Weighs (length (begun M)) (rules_state s M)) (omega arith, omega arith) (λ M r h. rw (rules_state_push s M r, begun_push M r) (weighs_next s (length (begun M)) (rules_state s M) r h)) L

pub few_begun : (n : ℕ) (o : Option Rules) → IsSome o → Weighs n o → 9 * n ≤ room
few_begun n None k h = absurd (cc)
few_begun n (Some g) k h = h.1

-- ---- the last epoch
more_now : (M : List Record) (r : Record) → separates r ≡ false → (last_epoch (M ++ r ∷ [])).records ≡ (last_epoch M).records ++ r ∷ []
more_now M r f = ap (λ (c : Cut). c.now.records) (cut_push M r ∙ cut_step_more (cut M) r f)

none_now : (M : List Record) (r : Record) → separates r ≡ true → (last_epoch (M ++ r ∷ [])).records ≡ []
none_now M (Format i n) f = ap (λ (c : Cut). c.now.records) (cut_push M (Format i n))
none_now M (Restarted rs ds) f = ap (λ (c : Cut). c.now.records) (cut_push M (Restarted rs ds))
none_now M r f = absurd (cc)

-- those that began in it are among the log's
begun_within : (L : List Record) → length (begun (last_epoch L).records) ≤ length (begun L)
begun_within L = by_push (λ M. length (begun (last_epoch M).records) ≤ length (begun M)) (omega arith) (λ M r h. by_kind M r (separates r) refl h) L
  where
    by_kind : (M : List Record) (r : Record) (b : Bool) → separates r ≡ b → length (begun (last_epoch M).records) ≤ length (begun M) → length (begun (last_epoch (M ++ r ∷ [])).records) ≤ length (begun (M ++ r ∷ []))
    by_kind M r false f h =
        let more : length (begun ((last_epoch M).records ++ r ∷ [])) ≤ length (begun (M ++ r ∷ [])) = omega (arith, h, begun_push (last_epoch M).records r, begun_push M r) in
        subst (λ E. length (begun E) ≤ length (begun (M ++ r ∷ []))) (sym (more_now M r f)) more
    by_kind M r true f h = subst (λ E. length (begun E) ≤ length (begun (M ++ r ∷ []))) (sym (none_now M r f)) (omega arith)

spelled_now : (L : List Record) → AreSpelled L → AreSpelled (last_epoch L).records
spelled_now L = by_push (λ M. AreSpelled M → AreSpelled (last_epoch M).records) (λ h. h) (λ M r ih. by_kind M r (separates r) refl ih) L
  where
    none : AreSpelled []
    none i x e = absurd (cc)

    by_kind : (M : List Record) (r : Record) (b : Bool) → separates r ≡ b → (AreSpelled M → AreSpelled (last_epoch M).records) → AreSpelled (M ++ r ∷ []) → AreSpelled (last_epoch (M ++ r ∷ [])).records
    by_kind M r false f ih h = subst AreSpelled (sym (more_now M r f)) (AreSpelled-push (last_epoch M).records r (ih (AreSpelled-front M (r ∷ []) h)) (h (length M) r (get_push M r)))
    by_kind M r true f ih h = subst AreSpelled (sym (none_now M r f)) none

-- ---- lists
begun_are_64 : (p : ℕ → Bool) (E : List Record) → AreSpelled E → AllByRecursion Is64 (filter p (begun E))
begun_are_64 p [] h = tt
begun_are_64 p (r ∷ E) h = by_record r (h 0 r refl) (begun_are_64 p E (λ i x e. h (suc i) x e))
  where
    by_test : (t : ℕ) (b : Bool) (ts : List ℕ) → Is64 t → AllByRecursion Is64 ts → AllByRecursion Is64 (cond b (t ∷ ts) ts)
    by_test t true ts k rest = (k, rest)
    by_test t false ts k rest = rest

    by_record : (x : Record) → CanBeSpelled x → AllByRecursion Is64 (filter p (begun E)) → AllByRecursion Is64 (filter p (begun (x ∷ E)))
    by_record (Begin t) k rest = by_test t (p t) (filter p (begun E)) k rest
    by_record (Format i n) k rest = rest
    by_record (Forward t b) k rest = rest
    by_record (Done t c a) k rest = rest
    by_record (Commit t) k rest = rest
    by_record (Ended t) k rest = rest
    by_record (Solo t q b) k rest = rest
    by_record AuditBegin k rest = rest
    by_record (AuditClean b) k rest = rest
    by_record (AuditFail b rs) k rest = rest
    by_record (Restarted rs ds) k rest = rest
    by_record (Back t b) k rest = rest

ascends_from : (xs : List ℕ) → IsStrictlyIncreasing xs → ascends xs ≡ true
ascends_from [] h = refl
ascends_from (x ∷ []) h = refl
ascends_from (x ∷ y ∷ ys) h = and_from (nat_lt x y) (ascends (y ∷ ys)) (lt-ltb x y (h 0 (omega arith))) (ascends_from (y ∷ ys) (λ k l. next k (h (suc k) (omega (arith, l)))))
  where
    next : (k : ℕ) → slice_index (x ∷ y ∷ ys) (suc k) < slice_index (x ∷ y ∷ ys) (suc k + 1) → slice_index (y ∷ ys) k < slice_index (y ∷ ys) (k + 1)
    next k l = let same : suc k + 1 ≡ suc (k + 1) = omega arith in subst (λ j. slice_index (y ∷ ys) k < slice_index (x ∷ y ∷ ys) j) same l

picked : (s : Sizes) (L : List Record) (p : ℕ → Bool) → IsSome (rules_state s L) → AreSpelled L → IsStrictlyIncreasing (filter p (begun (last_epoch L).records)) → AreNumbers (filter p (begun (last_epoch L).records))
picked s L p legal spelled up = (few, begun_are_64 p (last_epoch L).records (spelled_now L spelled), ascends_from (filter p (begun (last_epoch L).records)) up)
  where
    few : length (filter p (begun (last_epoch L).records)) < 2 ^ 32
    few = omega (arith, length_filter p (begun (last_epoch L).records), begun_within L, few_begun (length (begun L)) (rules_state s L) legal (weighs_all s L))

-- the record that a restart of the log adds
pub restarted_is_spelled : (s : Sizes) (L : List Record) → IsSome (rules_state s L) → AreSpelled L → CanBeSpelled (Restarted (rolled_list (last_epoch L)) (deleted_list (last_epoch L)))
restarted_is_spelled s L legal spelled = (
  picked s L (λ t. not (has (committed (last_epoch L).records) t) && not (has (ended (last_epoch L).records) t)) legal spelled (rolled_list_ascends s L (last_epoch L) legal (Contains-append_right (cut L).closed ((cut L).now ∷ []) (cut L).now (0, omega arith, refl))),
  picked s L (λ t. has (committed (last_epoch L).records) t && has_corrupt (marks (damage_of (last_epoch L)) (last_epoch L).records) t) legal spelled (deleted_list_ascends s L (last_epoch L) legal (Contains-append_right (cut L).closed ((cut L).now ∷ []) (cut L).now (0, omega arith, refl))),
)
