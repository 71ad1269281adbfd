-- What others leave of a transaction that a client amid a call acts for.
use Rattle.std.proofs.Common.{◌≡◌, ℕ, zero, suc, ◌<◌, ◌≤◌, Bool, true, false, List, [], ◌∷◌, ◌++◌, Option, Some, None, IsSome, refl, ap, sym, subst, ◌∙◌, ⊎_elim, arith}
use Rattle.std.specs.Prelude.{slice_get, fold, ◌==◌, ◌&&◌, not, if◌then◌else◌}
use Rattle.std.proofs.lemmas.List.{append-nil, append_assoc}
use Rattle.std.proofs.lemmas.List.Elements.{filter_map-append}
use Rattle.std.proofs.lemmas.List.Sums.{fold-append}
use Rattle.std.proofs.lemmas.Bool.{eqb-true}
use Rattle.dali_lists.proofs.Lists.{get_within}
use Rattle.dali_lists.proofs.Tests.{not_both_ways}
use Rattle.dali_lists.proofs.Numbers.{eqb-self}
use Rattle.dali_runs.proofs.CountsLemmas.Lists.{some_same}
use Rattle.dali_geometry.specs.Sizes.{Sizes}
use Rattle.dali_record.specs.declared.records.Record.{Record}
use Rattle.dali_record.specs.declared.records.Record.TheVariants.{Ended, Solo, Restarted}
use Rattle.dali_record.specs.declared.operations.Pending.{Pending}
use Rattle.dali_record.specs.Legal.{TxnState, Unbegun, Active, Committed as Ending, Over, allowed, freed, txn_state, txn_next, concerns, Rules, rules_state, rules_next, rules_step}
use Rattle.dali_record.specs.Log.{undo_step, undos_of}
use Rattle.dali_record.proofs.Pushes.{txn_state_push, rules_state_push, state_stays}
use Rattle.dali_region.specs.declared.Hold.{Hold}
use Rattle.dali_locks.specs.declared.mode.Mode.{Mode}
use Rattle.dali_locks.specs.Locks.{stronger_mode}
use Rattle.dali_att.specs.declared.state.State.{State}
use Rattle.dali_runs.specs.State.{TxnRow, state_in, row_of, state_of, lock_of, hold_of, hold_in}
use Rattle.dali_runs.specs.Run.{Bases, IsRow, RunsOn}
use Rattle.dali_runs.specs.Regions.{is_alive}
use Rattle.dali_runs.specs.Keeps.{IsFree}
use Rattle.dali_runs.proofs.CountsLemmas.Tallies.{tells_step}
use Rattle.dali_runs.proofs.CountsLemmas.NewNumbers.{next_grows}
use Rattle.dali_crash.specs.Checkpoints.{StoreStep, Point}
use Rattle.dali_transcripts.specs.World.{Logs, GetsLock, lock_step, record_of, logged_by}
use Rattle.dali_notes.specs.History.{In, signs, IsSeen}
use Rattle.dali_concurrent.specs.Entries.{Entry, Did, Entries, client_note, notes_of, deed_in, deeds_of, actor_by}
use Rattle.dali_concurrent.specs.Rules.{Outset, before, count_of, log_by, state_by, NoneLive, AllFit}
use Rattle.dali_concurrent.specs.Told.{Effect, Line, History, plain, plain_one, core_told}
use Rattle.dali_concurrent.specs.Landing.{BeginsAt}
use Rattle.dali_concurrent.specs.Kept.{txn_in, HoldIs, Follows, AllFollow}
use Rattle.dali_concurrent.specs.Holds.{IsLed}
use Rattle.dali_concurrent.specs.Locking.{lock_by}
use Rattle.dali_concurrent.specs.Amid.{OthersLog, OthersLeaveBe}
use Rattle.dali_concurrent.proofs.Lists.{get_sides, each_front}
use Rattle.dali_concurrent.proofs.Entries.{neither, not_signed, same_client}
use Rattle.dali_concurrent.proofs.Fitting.{fits_next}
use Rattle.dali_concurrent.proofs.Told.{plain-append, at_plain, lengths}
use Rattle.dali_concurrent.proofs.Kept.{stands_of, fit_of}
use Rattle.dali_concurrent.proofs.Holds.{old_count, holds_are_told, hold_is_of_actor, actor_stays, states_are_told, runs_there, live_is, told_live, told_dead, dead_there}
use Rattle.dali_concurrent.proofs.Locking.{locks_are_told}
use Rattle.dali_concurrent.proofs.Amid.{Own, own_on, Along, along_rest, not_for, is_apart, other_record, undos_along, none_live_is_seen, dead_is_seen}

-- ---- rows
some_row : (row : Option TxnRow) → is_alive (state_in row) ≡ true → IsSome row
some_row None e = absurd (cc)
some_row (Some row) e = refl

no_row : (row : Option TxnRow) → row ≡ None → IsSome row → ⊥
no_row None e some = absurd (cc)
no_row (Some row) e some = absurd (cc)

abbrev row_with : List Pending → State → Option TxnRow
row_with us s = Some (record { state = s; undos = us })

-- the rules and its state tell it
same_row : (st : Option TxnState) (r q : Option TxnRow) → IsRow st r → IsRow st q → state_in r ≡ state_in q → r ≡ q
same_row None r q a b e = absurd a
same_row (Some Unbegun) r q a b e = a ∙ sym b
same_row (Some (Active w)) r q a b e =
    let same : a.0 ≡ b.0 = some_same (sym (ap state_in a.2) ∙ (e ∙ ap state_in b.2)) in
    a.2 ∙ (ap (row_with w.undos) same ∙ sym b.2)
same_row (Some (Ending dead)) r q a b e = a ∙ sym b
same_row (Some Over) r q a b e = a ∙ sym b

-- a solo of its number, or a restart, would end it
apart_ends : (s : Sizes) (t : ℕ) (x : Record) (st : Option TxnState) (row next : Option TxnRow) → is_apart t x ≡ true → IsRow st row → IsSome row → IsRow (txn_next s t st x) next → IsSome next → ⊥
apart_ends s t (Solo u p b) None row next a is some behind more = is
apart_ends s t (Solo u p b) (Some Unbegun) row next a is some behind more = no_row row is some
apart_ends s t (Solo u p b) (Some (Active w)) row next a is some behind more = subst (λ k. IsRow (allowed (not k && not (p == t)) (Some (Active w))) next) a behind
apart_ends s t (Solo u p b) (Some (Ending ps)) row next a is some behind more = subst (λ k. IsRow (allowed (not k) (if p == t then freed b ps else Some (Ending ps))) next) a behind
apart_ends s t (Solo u p b) (Some Over) row next a is some behind more = no_row row is some
apart_ends s t (Restarted rs ds) None row next a is some behind more = is
apart_ends s t (Restarted rs ds) (Some Unbegun) row next a is some behind more = no_row row is some
apart_ends s t (Restarted rs ds) (Some (Active w)) row next a is some behind more = no_row next behind more
apart_ends s t (Restarted rs ds) (Some (Ending ps)) row next a is some behind more = no_row next behind more
apart_ends s t (Restarted rs ds) (Some Over) row next a is some behind more = no_row row is some
apart_ends s t x st row next a is some behind more = absurd (cc)

-- ---- holds
no_other : (t : ℕ) (h : Hold) → h.txn ≡ t → (h.txn == t) ≡ false → ⊥
no_other t h same apart = not_both_ways (subst (λ n. (n == t) ≡ true) (sym same) (eqb-self t)) apart

-- ---- the log
log_append : (o : Outset) (A B : Entries) → log_by o (A ++ B) ≡ log_by o A ++ logged_by (deeds_of B)
log_append o A B =
    ap (λ l. before o ++ logged_by l) (filter_map-append deed_in A B)
    ∙ (ap (λ l. before o ++ l) (filter_map-append record_of (deeds_of A) (deeds_of B)) ∙ sym (append_assoc (before o) (logged_by (deeds_of A)) (logged_by (deeds_of B))))

logged_split : (e : Line) (R : History) → logged_by (deeds_of (plain (e ∷ R))) ≡ logged_by (deeds_of (plain_one e ∷ [])) ++ logged_by (deeds_of (plain R))
logged_split e R = ap logged_by (filter_map-append deed_in (plain_one e ∷ []) (plain R)) ∙ filter_map-append record_of (deeds_of (plain_one e ∷ [])) (deeds_of (plain R))

abbrev Unconcerned : ℕ → List Record → Type 0
Unconcerned t more = (i : ℕ) (x : Record) → slice_get more i ≡ Some x → concerns t x ≡ false

unconcerned_both : (t : ℕ) (xs ys : List Record) → Unconcerned t xs → Unconcerned t ys → Unconcerned t (xs ++ ys)
unconcerned_both t xs ys a b i x at = ⊎_elim (λ old. a i x old) (λ new. b new.0 x new.1) (get_sides xs ys i x at)

-- ---- locks
locks_along : (o : Outset) (t c k : ℕ) (R A : Entries) (q : Option Mode) → Along o t c A R → fold (lock_step t k) q (deeds_of R) ≡ q
locks_along o t c k [] A q w = refl
locks_along o t c k ((ks, Did (GetsLock u j m) d) ∷ R) A q w =
    ap (λ z. fold (lock_step t k) z (deeds_of R)) (ap (λ b. if b && (j == k) then Some (stronger_mode q m) else q) (not_for o t c A ks (GetsLock u j m) d u w.0.0 w.0.1 (same_client (count_of o) d c (neither _ _ w.0.2).0) refl))
    ∙ locks_along o t c k R (A ++ (ks, Did (GetsLock u j m) d) ∷ []) q w.1
locks_along o t c k ((ks, Did (Logs (Ended u)) d) ∷ R) A q w =
    ap (λ z. fold (lock_step t k) z (deeds_of R)) (ap (λ b. if b then None else q) (not_for o t c A ks (Logs (Ended u)) d u w.0.0 w.0.1 (same_client (count_of o) d c (neither _ _ w.0.2).0) refl))
    ∙ locks_along o t c k R (A ++ (ks, Did (Logs (Ended u)) d) ∷ []) q w.1
locks_along o t c k ((ks, Did (Logs x) d) ∷ R) A q w = locks_along o t c k R (A ++ (ks, Did (Logs x) d) ∷ []) q w.1
locks_along o t c k ((ks, Did x d) ∷ R) A q w = locks_along o t c k R (A ++ (ks, Did x d) ∷ []) q w.1
locks_along o t c k (p ∷ R) A q w = locks_along o t c k R (A ++ p ∷ []) q w.1

-- ---- along entries of others
module _ (bases : Bases) (p : Point) (o : Outset) (t c : ℕ) (begins : BeginsAt bases p o) where
  abbrev All : History → Type 0
  All A = AllFollow bases p o A

  abbrev row : History → Option TxnRow
  row A = row_of (core_told o A).system t

  led : (A : History) → All A → IsLed bases p o A
  led A all = record { begins = begins; all = all }

  sizes_at : (A : History) → All A → (core_told o A).system.sizes ≡ o.old.system.sizes
  sizes_at A all = (stands_of bases p o A begins all).1.tells.grew.sizes

  runs_at : (A : History) → All A → RunsOn bases (log_by o (plain A)) (core_told o A)
  runs_at A all = runs_there bases p o A (led A all)

  row_at : (A : History) → All A → IsRow (txn_state o.old.system.sizes t (log_by o (plain A))) (row_of (core_told o A).system t)
  row_at A all = subst (λ s. IsRow (txn_state s t (log_by o (plain A))) (row_of (core_told o A).system t)) (sizes_at A all) ((runs_at A all).table t)

  allowed_at : (A : History) → All A → IsSome (txn_state o.old.system.sizes t (log_by o (plain A)))
  allowed_at A all = subst (λ s. IsSome (txn_state s t (log_by o (plain A)))) (sizes_at A all) ((runs_at A all).log.legal.txns t)

  has_row : (A : History) → All A → Own o t c (plain A) → IsSome (row_of (core_told o A).system t)
  has_row A all own = some_row (row_of (core_told o A).system t) (ap is_alive (states_are_told bases p o A t (led A all)) ∙ own.alive)

  counts_at : (A : History) → All A → (now : Rules) × (rules_state o.old.system.sizes (log_by o (plain A)) ≡ Some now) × ((core_told o A).system.next ≡ now.next)
  counts_at A all =
      let run : RunsOn bases (log_by o (plain A)) (core_told o A) = runs_at A all in
      (run.counts.now, subst (λ s. rules_state s (log_by o (plain A)) ≡ Some run.counts.now) (sizes_at A all) run.counts.rules, run.counts.next)

  next_same : (A B : History) → All A → All B → log_by o (plain B) ≡ log_by o (plain A) → (core_told o A).system.next ≤ (core_told o B).system.next
  next_same A B early behind same =
      let a = counts_at A early in
      let b = counts_at B behind in
      let now : a.0 ≡ b.0 = some_same (sym a.1 ∙ (ap (λ (l : List Record). rules_state o.old.system.sizes l) (sym same) ∙ b.1)) in
      omega (arith, a.2, ap (λ (g : Rules). g.next) now, b.2)

  next_more : (A B : History) (x : Record) → All A → All B → log_by o (plain B) ≡ log_by o (plain A) ++ x ∷ [] → (core_told o A).system.next ≤ (core_told o B).system.next
  next_more A B x early behind same =
      let a = counts_at A early in
      let b = counts_at B behind in
      let step : rules_step o.old.system.sizes a.0 x ≡ Some b.0 =
      ap (λ (g : Option Rules). rules_next o.old.system.sizes g x) (sym a.1)
      ∙ (sym (rules_state_push o.old.system.sizes (log_by o (plain A)) x) ∙ (ap (λ (l : List Record). rules_state o.old.system.sizes l) (sym same) ∙ b.1)) in
      omega (arith, a.2, (tells_step o.old.system.sizes a.0 x b.0 step).2, next_grows x a.0.next, b.2)

  -- a record of others concerns it not
  unconcerned : (A B : History) (x : Record) → All A → All B → log_by o (plain B) ≡ log_by o (plain A) ++ x ∷ [] → Own o t c (plain A) → Own o t c (plain B) → (is_apart t x ≡ false → concerns t x ≡ false) → concerns t x ≡ false
  unconcerned A B x early behind same own further given = by_test (is_apart t x) refl
    where
      by_test : (b : Bool) → is_apart t x ≡ b → concerns t x ≡ false
      by_test false is = given is
      by_test true is = absurd (apart_ends o.old.system.sizes t x (txn_state o.old.system.sizes t (log_by o (plain A))) (row A) (row B) is (row_at A early) (has_row A early own)
          (subst (λ st. IsRow st (row B)) (ap (λ (l : List Record). txn_state o.old.system.sizes t l) same ∙ txn_state_push o.old.system.sizes t (log_by o (plain A)) x) (row_at B behind)) (has_row B behind further))

  -- behind A the entries R leave it be
  record Left (A R : History) : Type 0 where
    rules : txn_state o.old.system.sizes t (log_by o (plain (A ++ R))) ≡ txn_state o.old.system.sizes t (log_by o (plain A))
    next : (core_told o A).system.next ≤ (core_told o (A ++ R)).system.next
    records : Unconcerned t (logged_by (deeds_of (plain R)))

  pushed : (A : History) (e : Line) → log_by o (plain (A ++ e ∷ [])) ≡ log_by o (plain A) ++ logged_by (deeds_of (plain_one e ∷ []))
  pushed A e = ap (λ (P : Entries). log_by o P) (plain-append A (e ∷ [])) ∙ log_append o (plain A) (plain_one e ∷ [])

  logs_none : (A : History) (e : Line) → All A → All (A ++ e ∷ []) → logged_by (deeds_of (plain_one e ∷ [])) ≡ [] → Left A (e ∷ [])
  logs_none A e early behind none =
      let same : log_by o (plain (A ++ e ∷ [])) ≡ log_by o (plain A) = pushed A e ∙ (ap (λ (l : List Record). log_by o (plain A) ++ l) none ∙ append-nil (log_by o (plain A))) in
      record {
        rules = ap (λ (l : List Record). txn_state o.old.system.sizes t l) same;
        next = next_same A (A ++ e ∷ []) early behind same;
        records = λ i x at. nothing i x (ap (λ (l : List Record). slice_get l i) (sym none) ∙ at);
      }
    where
      nothing : (i : ℕ) (x : Record) → slice_get [] i ≡ Some x → concerns t x ≡ false
      nothing zero x at = absurd (cc)
      nothing (suc i) x at = absurd (cc)

  logs_one : (A : History) (e : Line) (x : Record) → All A → All (A ++ e ∷ []) → logged_by (deeds_of (plain_one e ∷ [])) ≡ x ∷ [] → concerns t x ≡ false → Left A (e ∷ [])
  logs_one A e x early behind one other =
      let same : log_by o (plain (A ++ e ∷ [])) ≡ log_by o (plain A) ++ x ∷ [] = pushed A e ∙ ap (λ (l : List Record). log_by o (plain A) ++ l) one in
      record {
        rules = ap (λ (l : List Record). txn_state o.old.system.sizes t l) same ∙ state_stays o.old.system.sizes t (log_by o (plain A)) x other (allowed_at A early);
        next = next_more A (A ++ e ∷ []) x early behind same;
        records = λ i y at. only i y (ap (λ (l : List Record). slice_get l i) (sym one) ∙ at);
      }
    where
      only : (i : ℕ) (y : Record) → slice_get (x ∷ []) i ≡ Some y → concerns t y ≡ false
      only zero y at = subst (λ z. concerns t z ≡ false) (some_same at) other
      only (suc i) y at = absurd (cc)

  one : (A : History) (ks : List ℕ) (x : Entry) (f : Effect) (xs : List StoreStep) → All A → All (A ++ (ks, (x, f, xs)) ∷ []) → signs (client_note (count_of o) c) ks ≡ false
      → Own o t c (plain A) → Own o t c (plain (A ++ (ks, (x, f, xs)) ∷ [])) → Left A ((ks, (x, f, xs)) ∷ [])
  one A ks (Did (Logs x) d) f xs early behind unsigned own further =
      let e : Line = (ks, (Did (Logs x) d, f, xs)) in
      let fits = fits_next o (plain A) (ks, Did (Logs x) d) [] (subst (AllFit o) (plain-append A (e ∷ [])) (fit_of bases p o (A ++ e ∷ []) behind)) in
      let quiet : signs (client_note (count_of o) c) (notes_of (count_of o) (Did (Logs x) d)) ≡ false =
      not_signed (client_note (count_of o) c) (notes_of (count_of o) (Did (Logs x) d)) ks (fits.by (client_note (count_of o) c)) unsigned in
      logs_one A e x early behind refl
      (unconcerned A (A ++ e ∷ []) x early behind (pushed A e) own further (other_record o t c (plain A) ks x d own fits (same_client (count_of o) d c (neither _ _ quiet).0)))
  one A ks (Did x d) f xs early behind unsigned own further = logs_none A (ks, (Did x d, f, xs)) early behind refl
  one A ks x f xs early behind unsigned own further = logs_none A (ks, (x, f, xs)) early behind refl

  along : (R A : History) → All (A ++ R) → ((x : Line) → In R x → signs (client_note (count_of o) c) x.0 ≡ false) → Own o t c (plain A) → Left A R
  along [] A all none own = record {
    rules = ap (λ (Z : History). txn_state o.old.system.sizes t (log_by o (plain Z))) (append-nil A);
    next = omega (arith, ap (λ (Z : History). (core_told o Z).system.next) (append-nil A));
    records = λ i x at. absurd (cc);
  }
  along (e ∷ R) A all none own =
      let moved : A ++ e ∷ R ≡ (A ++ e ∷ []) ++ R = sym (append_assoc A (e ∷ []) R) in
      let all_on : All ((A ++ e ∷ []) ++ R) = subst (AllFollow bases p o) moved all in
      let behind : All (A ++ e ∷ []) = each_front (Follows bases p o) (A ++ e ∷ []) R all_on in
      let early : All A = each_front (Follows bases p o) A (e ∷ []) behind in
      let unsigned : signs (client_note (count_of o) c) e.0 ≡ false = none e (zero, refl) in
      let further : Own o t c (plain (A ++ e ∷ [])) = subst (Own o t c) (sym (plain-append A (e ∷ [])))
      (own_on o t c (plain A) (plain_one e) (subst (AllFit o) (plain-append A (e ∷ [])) (fit_of bases p o (A ++ e ∷ []) behind)) unsigned own) in
      let first : Left A (e ∷ []) = one A e.0 e.1.0 e.1.1 e.1.2 early behind unsigned own further in
      let rest : Left (A ++ e ∷ []) R = along R (A ++ e ∷ []) all_on (λ x w. none x (suc w.0, w.1)) further in
      record {
        rules = ap (λ (Z : History). txn_state o.old.system.sizes t (log_by o (plain Z))) moved ∙ (rest.rules ∙ first.rules);
        next = omega (arith, first.next, rest.next, ap (λ (Z : History). (core_told o Z).system.next) moved);
        records = subst (Unconcerned t) (sym (logged_split e R)) (unconcerned_both t (logged_by (deeds_of (plain_one e ∷ []))) (logged_by (deeds_of (plain R))) first.records rest.records);
      }

  -- where no region has a hold of it, none tells of a live one
  none_live : (A : History) (all : All A) → IsFree (core_told o A) t → NoneLive (plain A) t
  none_live A all free r e live =
      let low : r < count_of o = (hold_is_of_actor o (plain A) r t e (fit_of bases p o A all) live).0 in
      let g = get_within (core_told o A).regions r (omega (arith, low, lengths o A, old_count bases p o begins)) in
      let is : HoldIs o r g.0 (plain A) = (holds_are_told bases p o A (led A all) r g.0 g.1).1 in
      let h = live_is g.0.hold t (is.live ∙ ap txn_in live) in
      no_other t h.0 h.2 (free r h.0 (ap hold_in g.1 ∙ h.1))

module _ (bases : Bases) (p : Point) (o : Outset) (t c : ℕ) (seen new : History) (led : IsLed bases p o new) (is : IsSeen new (client_note (count_of o) c) seen)
    (acts : actor_by t (plain seen) ≡ Some c) (alive : is_alive (state_by o (plain seen) t) ≡ true) where
  all_seen : AllFollow bases p o seen
  all_seen = each_front (Follows bases p o) seen is.rest (subst (AllFollow bases p o) is.all led.all)

  led_seen : IsLed bases p o seen
  led_seen = record { begins = led.begins; all = all_seen }

  abbrev seen_plain : IsSeen (plain new) (client_note (count_of o) c) (plain seen)
  seen_plain = record {
    rest = plain is.rest;
    all = ap plain is.all ∙ plain-append seen is.rest;
    none = λ x there.
        let w = at_plain is.rest there.0 x there.1 in
        subst (λ (z : List ℕ × Entry). signs (client_note (count_of o) c) z.0 ≡ false) w.2 (is.none w.0 (there.0, w.1));
  }

  good : AllFit o (plain new)
  good = fit_of bases p o new led.all

  way : Along o t c (plain seen) seen_plain.rest
  way = along_rest o t c (plain seen) (plain new) good seen_plain acts alive

  left : Left bases p o t c led.begins seen is.rest
  left = along bases p o t c led.begins is.rest seen (subst (AllFollow bases p o) is.all led.all) is.none (record { acts = acts; alive = alive })

  logs : log_by o (plain new) ≡ log_by o (plain seen) ++ logged_by (deeds_of (plain is.rest))
  logs = ap (λ (P : Entries). log_by o P) seen_plain.all ∙ log_append o (plain seen) (plain is.rest)

  undos : undos_of t (log_by o (plain new)) ≡ undos_of t (log_by o (plain seen))
  undos =
      ap (undos_of t) logs
      ∙ (fold-append (undo_step t) [] (log_by o (plain seen)) (logged_by (deeds_of (plain is.rest))) ∙ undos_along o t c (plain is.rest) (plain seen) (undos_of t (log_by o (plain seen))) way)

  rules_same : txn_state o.old.system.sizes t (log_by o (plain new)) ≡ txn_state o.old.system.sizes t (log_by o (plain seen))
  rules_same = ap (λ (Z : History). txn_state o.old.system.sizes t (log_by o (plain Z))) is.all ∙ left.rules

  state_same : state_of (core_told o new).system t ≡ state_of (core_told o seen).system t
  state_same = states_are_told bases p o new t led ∙ ((actor_stays o t c (plain seen) (plain new) good seen_plain acts alive).1 ∙ sym (states_are_told bases p o seen t led_seen))

  lock_same : (k : ℕ) → lock_by o (plain new) t k ≡ lock_by o (plain seen) t k
  lock_same k =
      ap (λ (P : Entries). lock_by o P t k) seen_plain.all
      ∙ (ap (fold (lock_step t k) (lock_of o.old.system t k)) (filter_map-append deed_in (plain seen) (plain is.rest))
      ∙ (fold-append (lock_step t k) (lock_of o.old.system t k) (deeds_of (plain seen)) (deeds_of (plain is.rest)) ∙ locks_along o t c k (plain is.rest) (plain seen) (lock_by o (plain seen) t k) way))

  -- a hold of it was there
  was_held : IsFree (core_told o seen) t → (r : ℕ) (h : Hold) → hold_of (core_told o new) r ≡ Some h → h.txn ≡ t → (b : Bool) → h.dead ≡ b → ⊥
  was_held free r h there same false is_live =
      let live = told_live bases p o new led r h there is_live in
      none_live_is_seen o t c (plain seen) (plain new) good seen_plain acts alive (none_live bases p o t c led.begins seen all_seen free) r live.0 (live.1 ∙ ap (λ n. Some (n, live.0)) same)
  was_held free r h there same true is_dead =
      let dead = told_dead bases p o new led r h there is_dead in
      let was = dead_there bases p o seen led_seen r t dead.0 (dead_is_seen o r t c (plain seen) (plain new) good seen_plain acts alive (dead.1 ∙ ap (λ n. Some n) same)) in
      no_other t was.0 was.2 (free r was.0 was.1)

  still_free : IsFree (core_told o seen) t → IsFree (core_told o new) t
  still_free free r h there = by_test (h.txn == t) refl
    where
      by_test : (b : Bool) → (h.txn == t) ≡ b → b ≡ false
      by_test false e = refl
      by_test true e = absurd (was_held free r h there (eqb-true h.txn t e) h.dead refl)

pub others_log : OthersLog
others_log bases p o t c seen new led is acts alive = (
  logged_by (deeds_of (plain is.rest)),
  logs bases p o t c seen new led is acts alive,
  (left bases p o t c seen new led is acts alive).records,
  undos bases p o t c seen new led is acts alive,
)

pub others_leave_be : OthersLeaveBe
others_leave_be bases p o t c seen new led is acts alive =
    let early : AllFollow bases p o seen = all_seen bases p o t c seen new led is acts alive in
    let led_before : IsLed bases p o seen = led_seen bases p o t c seen new led is acts alive in
    let rules : txn_state o.old.system.sizes t (log_by o (plain new)) ≡ txn_state o.old.system.sizes t (log_by o (plain seen)) = rules_same bases p o t c seen new led is acts alive in
    let sizes_seen : (core_told o seen).system.sizes ≡ o.old.system.sizes = sizes_at bases p o t c led.begins seen early in
    record {
      sizes = sizes_at bases p o t c led.begins new led.all ∙ sym sizes_seen;
      next = omega (arith, (left bases p o t c seen new led is acts alive).next, ap (λ (Z : History). (core_told o Z).system.next) is.all);
      row = same_row (txn_state o.old.system.sizes t (log_by o (plain new))) (row_of (core_told o new).system t) (row_of (core_told o seen).system t) (row_at bases p o t c led.begins new led.all)
          (subst (λ st. IsRow st (row_of (core_told o seen).system t)) (sym rules) (row_at bases p o t c led.begins seen early)) (state_same bases p o t c seen new led is acts alive);
      locks = λ k. locks_are_told bases p o new t k led ∙ (lock_same bases p o t c seen new led is acts alive k ∙ sym (locks_are_told bases p o seen t k led_before));
      rules = subst (λ s. txn_state s t (log_by o (plain new)) ≡ txn_state s t (log_by o (plain seen))) (sym sizes_seen) rules;
      free = still_free bases p o t c seen new led is acts alive;
      count = lengths o new ∙ sym (lengths o seen);
    }
