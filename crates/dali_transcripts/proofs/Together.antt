-- What a round says of all its clients together holds while it goes on.
use Rattle.std.proofs.Common.{◌≡◌, ℕ, zero, suc, ◌+◌, ◌<◌, ◌≤◌, Bool, true, false, List, [], ◌∷◌, ◌++◌, length, Option, Some, None, refl, ap, sym, subst, ◌∙◌, ◌⊎◌, inl, inr, ⊎_elim, arith}
use Rattle.std.specs.Prelude.{◌≢◌, ◌↔◌, Contains, fold, slice_get, take, sum_by}
use Rattle.std.proofs.lemmas.List.{append-nil, append_assoc, take-append-le}
use Rattle.std.proofs.lemmas.List.Elements.{filter_map-append}
use Rattle.std.proofs.lemmas.List.Sums.{fold-append, sum_by-append}
use Rattle.std.proofs.lemmas.Option.{slice_get_within}
use Rattle.dali_runs.proofs.CountsLemmas.Lists.{some_same}
use Rattle.dali_record.specs.declared.records.Record.{Record}
use Rattle.dali_record.specs.declared.records.Record.TheVariants.{Forward}
use Rattle.dali_record.specs.Spelling.{record_length}
use Rattle.dali_record.proofs.Chains.{true_and, and_true}
use Rattle.dali_region.specs.State.{RegionState}
use Rattle.dali_locks.specs.declared.mode.Mode.{Mode}
use Rattle.dali_locks.specs.declared.mode.Mode.TheVariants.{Shared, Exclusive}
use Rattle.dali_runs.specs.Run.{HasRisen}
use Rattle.dali_runs.specs.State.{CoreState, state_of, lock_of}
use Rattle.dali_runs.specs.Steps.{audit_record}
use Rattle.dali_transcripts.specs.Words.{StoreFailed}
use Rattle.dali_transcripts.specs.World.{Deed, Logs, DiesOn, StartsCheckpoint, MovesAnchor, EndsCheckpoint, Meets, Happening, World, logged_by, log_of, log_at, state_step, state_after, lock_step, lock_after, IsNoWeaker, failing, has_failed, span_step, stray_step, stray_after, poked_step, poked_after, refusal_of, refused_by, Grows}
use Rattle.dali_transcripts.specs.Rounds.{AreSpans, AreAnchors, PokesTell, VerdictsTell, FaultsTell, room_for, ends_within, fits, HasLooked, PrecheckTells, HoldsTogether}
use Rattle.dali_transcripts.specs.Together.{SpanFits, AnchorIs, FaultsBy, RoomBy, RightBy, Owes, TogetherByDeed, HasKept, TogetherByNone, TogetherAtFirst}
use Rattle.dali_transcripts.specs.Grown.{world_of}

-- ---- lists that are one deed longer
one_span : (o : Option ℕ) (z : Happening) → SpanFits o z → AreSpans o (z ∷ [])
one_span o (StartsCheckpoint, c) h = (h, tt)
one_span o (EndsCheckpoint, c) h = (h, tt)
one_span o z h = tt

spans_push : (o : Option ℕ) (xs : List Happening) (z : Happening) → AreSpans o xs → SpanFits (fold span_step o xs) z → AreSpans o (xs ++ z ∷ [])
spans_push o [] z a h = one_span o z h
spans_push o ((StartsCheckpoint, d) ∷ xs) z a h = (a.0, spans_push (Some d) xs z a.1 h)
spans_push o ((EndsCheckpoint, d) ∷ xs) z a h = (a.0, spans_push None xs z a.1 h)
spans_push o (y ∷ xs) z a h = spans_push o xs z a h

one_anchor : (old new : ℕ) (z : Happening) → AnchorIs old z new → AreAnchors old (z ∷ []) new
one_anchor old new (MovesAnchor n, c) h = h
one_anchor old new z h = h

anchors_push : (old now new : ℕ) (xs : List Happening) (z : Happening) → AreAnchors old xs now → AnchorIs now z new → AreAnchors old (xs ++ z ∷ []) new
anchors_push old now new [] z a h = one_anchor old new z (subst (λ n. AnchorIs n z new) a h)
anchors_push old now new ((MovesAnchor n, d) ∷ xs) z a h = (a.0, anchors_push n now new xs z a.1 h)
anchors_push old now new (y ∷ xs) z a h = anchors_push old now new xs z a h

-- a record that ends here has room
RoomAt : ℕ → ℕ → Happening → Type 0
RoomAt limit end (Logs y, c) = ends_within (end + record_length y) (room_for limit y) ≡ true
RoomAt limit end z = Unit {0}

one_fits : (limit end : ℕ) (z : Happening) → RoomAt limit end z → fits limit end (z ∷ []) ≡ true
unfolding RoomAt
one_fits limit end (Logs y, c) h = true_and (ends_within (end + record_length y) (room_for limit y)) true h refl
one_fits limit end z h = refl

fits_push : (limit end now : ℕ) (xs : List Happening) (z : Happening) → now ≡ end + sum_by record_length (logged_by xs) → fits limit end xs ≡ true → RoomAt limit now z
    → fits limit end (xs ++ z ∷ []) ≡ true
fits_push limit end now [] z e f h = let same : now ≡ end = omega (arith, e) in one_fits limit end z (subst (λ n. RoomAt limit n z) same h)
fits_push limit end now ((Logs y, d) ∷ xs) z e f h =
    let parts = and_true (ends_within (end + record_length y) (room_for limit y)) (fits limit (end + record_length y) xs) f in
    let sum = sum_by-append record_length (y ∷ []) (logged_by xs) in
    let next : now ≡ (end + record_length y) + sum_by record_length (logged_by xs) = omega (arith, e, sum) in
    true_and (ends_within (end + record_length y) (room_for limit y)) (fits limit (end + record_length y) (xs ++ z ∷ [])) parts.0 (fits_push limit (end + record_length y) now xs z next parts.1 h)
fits_push limit end now (y ∷ xs) z e f h = fits_push limit end now xs z e f h

-- where a store call failed at any time, it failed in the end
pub stays_failed : (xs : List Happening) → has_failed true xs ≡ true
stays_failed [] = refl
stays_failed (y ∷ xs) = ap (λ b. has_failed b xs) (keeps y) ∙ stays_failed xs
  where
    keeps : (y : Happening) → failing true y ≡ true
    keeps (Meets StoreFailed, c) = refl
    keeps y = refl

failed_also : (b : Bool) (xs : List Happening) → has_failed false xs ≡ true → has_failed b xs ≡ true
failed_also true xs e = stays_failed xs
failed_also false xs e = e

-- a place of a list that is one element longer
pub split_push : {X : Type 0} (xs : List X) (z : X) (i : ℕ) (y : X) → slice_get (xs ++ z ∷ []) i ≡ Some y → (slice_get xs i ≡ Some y) ⊎ ((i ≡ length xs) × (z ≡ y))
split_push [] z zero y e = inr (refl, some_same e)
split_push [] z (suc i) y e = absurd (cc)
split_push (x ∷ xs) z zero y e = inl e
split_push (x ∷ xs) z (suc i) y e = ⊎_elim (λ h. inl h) (λ h. inr (omega (arith, h.0), h.1)) (split_push xs z i y e)

module _ (v w : World) (c : ℕ) (x : Deed) (g : Grows v w) (more : g.more ≡ (x, c) ∷ []) (h : HoldsTogether v) (o : Owes v w c x) where
  happened : w.happened ≡ v.happened ++ (x, c) ∷ []
  happened = g.happened ∙ ap (λ l. v.happened ++ l) more

  took : (j : ℕ) → j ≤ length v.happened → take j w.happened ≡ take j v.happened
  took j below = ap (take j) happened ∙ take-append-le j v.happened ((x, c) ∷ []) below

  log_took : (j : ℕ) → j ≤ length v.happened → log_at w j ≡ log_at v j
  log_took j below = ap (λ b. b ++ logged_by (take j w.happened)) g.before ∙ ap (λ l. v.before ++ logged_by l) (took j below)

  split : (i : ℕ) (y : Happening) → slice_get w.happened i ≡ Some y → (slice_get v.happened i ≡ Some y) ⊎ ((i ≡ length v.happened) × ((x, c) ≡ y))
  split i y e = split_push v.happened (x, c) i y (subst (λ l. slice_get l i ≡ Some y) happened e)

  old_region : (r : ℕ) (z : RegionState) → slice_get w.old.regions r ≡ Some z → slice_get v.old.regions r ≡ Some z
  old_region r z e = ap (λ (k : CoreState). slice_get k.regions r) (sym g.old) ∙ e

  pokes : PokesTell w
  pokes r a b was is =
      let p = o.poke r b is in
      let told = h.pokes r a p.0 (old_region r a was) p.1 in
      let stray : b.stray ≡ stray_after r a.stray w.happened =
      p.2 ∙ (ap (λ s. stray_step r s (x, c)) told.0 ∙ (sym (fold-append (stray_step r) a.stray v.happened ((x, c) ∷ [])) ∙ ap (λ l. stray_after r a.stray l) (sym happened))) in
      let poked : b.poked ≡ poked_after r a.poked w.happened =
      p.3 ∙ (ap (λ s. poked_step r s (x, c)) told.1 ∙ (sym (fold-append (poked_step r) a.poked v.happened ((x, c) ∷ [])) ∙ ap (λ l. poked_after r a.poked l) (sym happened))) in
      (stray, poked)

  -- what a verdict says of a region, at this place
  Says : (b i r : ℕ) (found : List ℕ) (a : RegionState) → Type 0
  Says b i r found a = (j : ℕ) × (j ≤ i) × (b < length (log_at w j)) × (Contains found r ↔ (stray_after r a.stray (take j w.happened) ≢ 0))

  says : (b i r : ℕ) (found : List ℕ) (a : RegionState) (j : ℕ) → j ≤ i → j ≤ length v.happened → b < length (log_at v j)
      → (Contains found r ↔ (stray_after r a.stray (take j v.happened) ≢ 0)) → Says b i r found a
  unfolding Says
  says b i r found a j below within begun named = (
    j,
    below,
    subst (λ l. b < length l) (sym (log_took j within)) begun,
    subst (λ l. Contains found r ↔ (stray_after r a.stray l ≢ 0)) (sym (took j within)) named,
  )

  verdicts : VerdictsTell w
  unfolding Says
  verdicts i b d found e r a was =
      ⊎_elim
      (λ before.
      let told = h.verdicts i b d found before r a (old_region r a was) in
      let within = slice_get_within v.happened i _ before in
      says b i r found a told.0 told.1 (omega (arith, told.1, within)) told.2 told.3)
      (λ last.
      let deed : x ≡ Logs (audit_record b found) = ap (λ (z : Happening). z.0) last.1 in
      let told = o.verdict b found deed r a (old_region r a was) in
      let place = last.0 in
      says b i r found a told.0 (omega (arith, told.1, place)) told.1 told.2 told.3)
      (split i (Logs (audit_record b found), d) e)

  states : (t : ℕ) → state_of w.core.system t ≡ state_after w w.happened t
  states t =
      o.state t
      ∙ (ap (λ s. state_step t s (x, c)) (h.states t)
      ∙ (sym (fold-append (state_step t) (state_of v.old.system t) v.happened ((x, c) ∷ []))
      ∙ (ap (λ l. fold (state_step t) (state_of v.old.system t) l) (sym happened) ∙ ap (λ (k : CoreState). fold (state_step t) (state_of k.system t) w.happened) (sym g.old))))

  locks : (t k : ℕ) → IsNoWeaker (lock_of w.core.system t k) (lock_after w w.happened t k)
  locks t k = subst (IsNoWeaker (lock_of w.core.system t k)) told (o.lock t k (lock_after v v.happened t k) (h.locks t k))
    where
      told : lock_step t k (lock_after v v.happened t k) (x, c) ≡ lock_after w w.happened t k
      told =
          sym (fold-append (lock_step t k) (lock_of v.old.system t k) v.happened ((x, c) ∷ []))
          ∙ (ap (λ l. fold (lock_step t k) (lock_of v.old.system t k) l) (sym happened) ∙ ap (λ (j : CoreState). fold (lock_step t k) (lock_of j.system t k) w.happened) (sym g.old))

  refusals : w.core.system.refusals ≡ w.old.system.refusals ++ refused_by w.happened
  refusals =
      o.refusal
      ∙ (ap (λ l. l ++ refused_by ((x, c) ∷ [])) h.refusals
      ∙ (append_assoc v.old.system.refusals (refused_by v.happened) (refused_by ((x, c) ∷ []))
      ∙ (ap (λ l. v.old.system.refusals ++ l) (sym (filter_map-append refusal_of v.happened ((x, c) ∷ [])))
      ∙ (ap (λ l. v.old.system.refusals ++ refused_by l) (sym happened) ∙ ap (λ (k : CoreState). k.system.refusals ++ refused_by w.happened) (sym g.old)))))

  room_at : (y : Deed) → RoomBy v y → RoomAt v.old.system.limit (sum_by record_length (log_of v)) (y, c)
  unfolding RoomAt
  room_at (Logs y) r = r
  room_at y r = tt

  room : fits w.old.system.limit (sum_by record_length w.before) w.happened ≡ true
  room =
      let sum = sum_by-append record_length v.before (logged_by v.happened) in
      let fit = fits_push v.old.system.limit (sum_by record_length v.before) (sum_by record_length (log_of v)) v.happened (x, c) sum h.room (room_at x o.room) in
      ap (λ (k : CoreState). fits k.system.limit (sum_by record_length w.before) w.happened) g.old
      ∙ (ap (λ l. fits v.old.system.limit (sum_by record_length l) w.happened) g.before
      ∙ (ap (λ l. fits v.old.system.limit (sum_by record_length v.before) l) happened ∙ fit))

  looked : (i r d : ℕ) (a : RegionState) → i ≤ length v.happened → HasLooked v d i r a → HasLooked w d i r a
  looked i r d a within look =
      let before = look.before in
      record {
        place = look.place;
        before = look.before;
        right = ap (λ l. stray_after r a.stray l) (took look.place (omega (arith, within, before))) ∙ look.right;
        held = λ k e y from below there.
            ⊎_elim (λ was. look.held k e y from below was) (λ last. let place = last.0 in absurd (omega (arith, place, below, within))) (split k (y, e) there);
      }

  prechecks : w.precheck ≡ true → PrecheckTells w
  prechecks compares =
      let on : v.precheck ≡ true = sym g.precheck ∙ compares in
      let told = h.prechecks on in
      let last_right = o.right on in
      record {
        operations = λ i t d b a e was.
            ⊎_elim
            (λ before. let within = slice_get_within v.happened i _ before in looked i b.region d a (omega (arith, within)) (told.operations i t d b a before (old_region b.region a was)))
            (λ last.
            let deed : x ≡ Logs (Forward t b) = ap (λ (z : Happening). z.0) last.1 in
            let owed : RightBy v c (Logs (Forward t b)) = subst (λ y. RightBy v c y) deed last_right in
            let place = last.0 in
            let client : c ≡ d = ap (λ (z : Happening). z.1) last.1 in
            subst (λ n. HasLooked w n i b.region a) client (looked i b.region c a (omega (arith, place)) (subst (λ k. HasLooked v c k b.region a) (sym place) (owed a (old_region b.region a was)))))
            (split i (Logs (Forward t b), d) e);
        deaths = λ i t r d a e was.
            ⊎_elim
            (λ before. let within = slice_get_within v.happened i _ before in looked i r d a (omega (arith, within)) (told.deaths i t r d a before (old_region r a was)))
            (λ last.
            let deed : x ≡ DiesOn t r = ap (λ (z : Happening). z.0) last.1 in
            let owed : RightBy v c (DiesOn t r) = subst (λ y. RightBy v c y) deed last_right in
            let place = last.0 in
            let client : c ≡ d = ap (λ (z : Happening). z.1) last.1 in
            subst (λ n. HasLooked w n i r a) client (looked i r c a (omega (arith, place)) (subst (λ k. HasLooked v c k r a) (sym place) (owed a (old_region r a was)))))
            (split i (DiesOn t r, d) e);
      }

  -- ---- the store
  failed_is : (b : Bool) → has_failed b w.happened ≡ failing (has_failed b v.happened) (x, c)
  failed_is b = ap (has_failed b) happened ∙ fold-append failing b v.happened ((x, c) ∷ [])

  old_stopped : w.old.vault.stopped ≡ v.old.vault.stopped
  old_stopped = ap (λ (k : CoreState). k.vault.stopped) g.old

  old_faults : w.old.vault.faults ≡ v.old.vault.faults
  old_faults = ap (λ (k : CoreState). k.vault.faults) g.old

  -- of a place before this deed
  once_before : (i d : ℕ) → slice_get v.happened i ≡ Some (Meets StoreFailed, d) → has_failed w.old.vault.stopped (take i w.happened) ≡ false
  once_before i d e =
      let within = slice_get_within v.happened i _ e in
      ap (λ b. has_failed b (take i w.happened)) old_stopped ∙ (ap (λ l. has_failed v.old.vault.stopped l) (took i (omega (arith, within))) ∙ h.faults.once i d e)

  -- this deed is such a failure
  fails : FaultsBy v w (Meets StoreFailed) → x ≡ Meets StoreFailed → FaultsTell w
  fails f is =
      let all : take (length v.happened) w.happened ≡ v.happened = took (length v.happened) (omega arith) ∙ take_all v.happened in
      let ran : has_failed v.old.vault.stopped v.happened ≡ false = sym h.faults.stopped ∙ f.0 in
      let now : (b : Bool) → has_failed b w.happened ≡ true = λ b. failed_is b ∙ ap (λ (y : Deed). failing (has_failed b v.happened) (y, c)) is in
      record {
        stopped = f.1 ∙ sym (now w.old.vault.stopped);
        once = λ i d e.
            ⊎_elim
            (λ before. once_before i d before)
            (λ last. ap (λ k. has_failed w.old.vault.stopped (take k w.happened)) last.0 ∙ (ap (λ l. has_failed w.old.vault.stopped l) all ∙ (ap (λ b. has_failed b v.happened) old_stopped ∙ ran)))
            (split i (Meets StoreFailed, d) e);
        none = λ e. let clash : true ≡ false = sym (now false) ∙ e in absurd (cc);
        rose = λ e. subst (λ n. HasRisen n w.core.vault.faults) (sym old_faults) (subst (λ n. HasRisen n w.core.vault.faults) (h.faults.none (never_yet (has_failed false v.happened) refl ran)) f.2);
      }
    where
      take_all : {X : Type 0} (xs : List X) → take (length xs) xs ≡ xs
      take_all [] = refl
      take_all (y ∷ ys) = ap (λ l. y ∷ l) (take_all ys)

      never_yet : (b : Bool) → has_failed false v.happened ≡ b → has_failed v.old.vault.stopped v.happened ≡ false → has_failed false v.happened ≡ false
      never_yet true e ran = let clash : true ≡ false = sym (failed_also v.old.vault.stopped v.happened e) ∙ ran in absurd (cc)
      never_yet false e ran = e

  -- and where it is none
  runs_on : (w.core.vault.stopped ≡ v.core.vault.stopped) × (w.core.vault.faults ≡ v.core.vault.faults) → ((b : Bool) → failing b (x, c) ≡ b) → (x ≡ Meets StoreFailed → ⊥) → FaultsTell w
  runs_on f keeps other =
      let same : (b : Bool) → has_failed b w.happened ≡ has_failed b v.happened = λ b. failed_is b ∙ keeps (has_failed b v.happened) in
      record {
        stopped = f.0 ∙ (h.faults.stopped ∙ (ap (λ b. has_failed b v.happened) (sym old_stopped) ∙ sym (same w.old.vault.stopped)));
        once = λ i d e. ⊎_elim (λ before. once_before i d before) (λ last. absurd (other (ap (λ (z : Happening). z.0) last.1))) (split i (Meets StoreFailed, d) e);
        none = λ e. f.1 ∙ (h.faults.none (sym (same false) ∙ e) ∙ sym old_faults);
        rose = λ e. subst (λ n. HasRisen n w.core.vault.faults) (sym old_faults) (subst (λ n. HasRisen v.old.vault.faults n) (sym f.1) (h.faults.rose (sym (same false) ∙ e)));
      }

failing_same : (x : Deed) (c : ℕ) → (x ≡ Meets StoreFailed) ⊎ ((x ≡ Meets StoreFailed → ⊥) × ((b : Bool) → failing b (x, c) ≡ b))
failing_same (Meets StoreFailed) c = inl refl
failing_same x c = inr ((λ e. absurd (cc)), λ b. refl)

not_failing : (v w : World) (x : Deed) → (x ≡ Meets StoreFailed → ⊥) → FaultsBy v w x → (w.core.vault.stopped ≡ v.core.vault.stopped) × (w.core.vault.faults ≡ v.core.vault.faults)
not_failing v w (Meets StoreFailed) other f = absurd (other refl)
not_failing v w x other f = f

pub together_by_deed : TogetherByDeed
together_by_deed v w c x g more h o = record {
  spans = subst (AreSpans None) (sym (happened v w c x g more h o)) (spans_push None v.happened (x, c) h.spans o.span);
  anchors = subst (λ (k : CoreState). AreAnchors k.vault.current w.happened w.core.vault.current) (sym g.old)
      (subst (λ l. AreAnchors v.old.vault.current l w.core.vault.current) (sym (happened v w c x g more h o))
      (anchors_push v.old.vault.current v.core.vault.current w.core.vault.current v.happened (x, c) h.anchors o.anchor));
  pokes = pokes v w c x g more h o;
  verdicts = verdicts v w c x g more h o;
  states = states v w c x g more h o;
  locks = locks v w c x g more h o;
  faults = ⊎_elim
      (λ is. fails v w c x g more h o (subst (λ y. FaultsBy v w y) is o.fault) is)
      (λ other. runs_on v w c x g more h o (not_failing v w x other.0 o.fault) other.1 other.0)
      (failing_same x c);
  refusals = refusals v w c x g more h o;
  room = room v w c x g more h o;
  prechecks = prechecks v w c x g more h o;
}

-- ---- without a deed
same_world : (v w : World) (g : Grows v w) (xs : List Happening) → w.happened ≡ xs → w ≡ world_of v.old v.before v.precheck xs w.core
same_world v w g xs e =
    ap (λ k. world_of k w.before w.precheck w.happened w.core) g.old
    ∙ (ap (λ l. world_of v.old l w.precheck w.happened w.core) g.before
    ∙ (ap (λ b. world_of v.old v.before b w.happened w.core) g.precheck ∙ ap (λ l. world_of v.old v.before v.precheck l w.core) e))

looked_still : (v : World) (d : CoreState) (c i r : ℕ) (g : RegionState) → HasLooked v c i r g → HasLooked (world_of v.old v.before v.precheck v.happened d) c i r g
looked_still v d c i r g look = record { place = look.place; before = look.before; right = look.right; held = λ k e x from below there. look.held k e x from below there }

still : (v : World) (d : CoreState) → HoldsTogether v → HasKept v (world_of v.old v.before v.precheck v.happened d) → HoldsTogether (world_of v.old v.before v.precheck v.happened d)
still v d h k = record {
  spans = h.spans;
  anchors = subst (λ n. AreAnchors v.old.vault.current v.happened n) (sym k.anchor) h.anchors;
  pokes = λ r a b was is. let p = k.poke r b is in let told = h.pokes r a p.0 was p.1 in (p.2 ∙ told.0, p.3 ∙ told.1);
  verdicts = h.verdicts;
  states = λ t. k.states t ∙ h.states t;
  locks = λ t j. k.locks t j (lock_after v v.happened t j) (h.locks t j);
  faults = record {
    stopped = k.stopped ∙ h.faults.stopped;
    once = h.faults.once;
    none = λ e. k.faults ∙ h.faults.none e;
    rose = λ e. subst (λ n. HasRisen v.old.vault.faults n) (sym k.faults) (h.faults.rose e);
  };
  refusals = k.refusals ∙ h.refusals;
  room = h.room;
  prechecks = λ on. let told = h.prechecks on in record {
    operations = λ i t c b g e was. looked_still v d c i b.region g (told.operations i t c b g e was);
    deaths = λ i t r c g e was. looked_still v d c i r g (told.deaths i t r c g e was);
  };
}

pub together_by_none : TogetherByNone
together_by_none v w g more h k =
    let same = same_world v w g v.happened (g.happened ∙ (ap (λ l. v.happened ++ l) more ∙ append-nil v.happened)) in
    subst HoldsTogether (sym same) (still v w.core h (subst (λ u. HasKept v u) same k))

itself : (o : Option Mode) → IsNoWeaker o o
itself None = tt
itself (Some Shared) = refl
itself (Some Exclusive) = refl

first : (old : CoreState) (before : List Record) (precheck : Bool) → HoldsTogether (world_of old before precheck [] old)
first old before precheck = record {
  spans = tt;
  anchors = refl;
  pokes = λ r a b was is. let same : b ≡ a = some_same (sym is ∙ was) in (ap (λ (z : RegionState). z.stray) same, ap (λ (z : RegionState). z.poked) same);
  verdicts = λ i b d found e. absurd (cc);
  states = λ t. refl;
  locks = λ t k. itself (lock_of old.system t k);
  faults = record { stopped = refl; once = λ i d e. absurd (cc); none = λ e. refl; rose = λ e. absurd (cc) };
  refusals = sym (append-nil old.system.refusals);
  room = refl;
  prechecks = λ yes. record { operations = λ i t d b a e. absurd (cc); deaths = λ i t r d a e. absurd (cc) };
}

pub together_at_first : TogetherAtFirst
together_at_first w none same =
    let world : w ≡ world_of w.old w.before w.precheck [] w.old = ap (λ l. world_of w.old w.before w.precheck l w.core) none ∙ ap (λ k. world_of w.old w.before w.precheck [] k) same in
    subst HoldsTogether (sym world) (first w.old w.before w.precheck)
