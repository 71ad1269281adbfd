-- What a client has of the transactions that it began and claimed, and what is right by that.
use Rattle.std.proofs.Common.{◌≡◌, ◌≢◌, ℕ, zero, suc, Bool, true, false, List, [], ◌∷◌, ◌++◌, length, Option, Some, None, refl, ap, sym, subst, ◌∙◌, ◌⊎◌, inl, inr, ⊎_elim}
use Rattle.std.specs.Prelude.{IsSome, is_some, fold, slice_get, take, ◌==◌, if◌then◌else◌}
use Rattle.std.specs.FinMap as map
use Rattle.std.proofs.lemmas.Bool.{eqb-true}
use Rattle.std.proofs.lemmas.List.{append-nil, append_assoc}
use Rattle.std.proofs.lemmas.List.Elements.{filter_map-append, Contains-append_cases}
use Rattle.std.proofs.lemmas.List.Sums.{fold-append}
use Rattle.dali_lists.proofs.Lists.{get_behind}
use Rattle.dali_lists.proofs.Members.{contains_none, contains_cases}
use Rattle.dali_lists.proofs.Numbers.{eqb-self}
use Rattle.dali_lists.proofs.Tests.{not_both_ways}
use Rattle.dali_runs.proofs.CountsLemmas.Lists.{some_same}
use Rattle.dali_record.specs.declared.records.Record.TheVariants.{Begin, Commit, Ended}
use Rattle.dali_record.specs.Legal.{TxnState, Unbegun, Active, Committed as Ending, Over, txn_state}
use Rattle.dali_locks.specs.declared.mode.Mode.{Mode}
use Rattle.dali_att.specs.declared.state.State.{State}
use Rattle.dali_att.specs.declared.state.State.TheVariants.{Live, Dead, Cleaning, Committed}
use Rattle.dali_runs.specs.State.{TxnRow, SystemState, CoreState, state_in, state_of, row_of, lock_of}
use Rattle.dali_runs.specs.Run.{Bases, IsRow, RunsOn}
use Rattle.dali_runs.specs.Steps.{in_state}
use Rattle.dali_runs.specs.Wholes.{latched_in}
use Rattle.dali_crash.specs.Checkpoints.{Point}
use Rattle.dali_transcripts.specs.World.{Logs, Claims, GivesBack, GetsLock, Happening, HasGot, record_of, logged_by, state_step, claimer_step, claimed, given_back, is_dead_in, is_claimed_in}
use Rattle.dali_transcripts.specs.Rounds.{by}
use Rattle.dali_notes.specs.History.{signs}
use Rattle.dali_concurrent.specs.Entries.{Entry, Did, Entries, client_note, notes_of, deed_in, deeds_of, opener_by, opener_step, actor_by, actor_step}
use Rattle.dali_concurrent.specs.Rules.{Outset, before, count_of, log_by, state_by, Fits, AllFit}
use Rattle.dali_concurrent.specs.Told.{OnSystem, effect_on, Line, History, plain, plain_one, core_told, world_told}
use Rattle.dali_concurrent.specs.Landing.{BeginsAt}
use Rattle.dali_concurrent.specs.Kept.{Follows, AllFollow}
use Rattle.dali_concurrent.specs.Holds.{IsLed}
use Rattle.dali_concurrent.specs.Clients.{is_open_in}
use Rattle.dali_concurrent.specs.Own.{HasOnly, takes_one, OnlyStarts, OnlyBegins, OnlyEnds, OnlyClaims, OnlyLets, OnlyStays, OnlySeen, YieldsByOwn, GivesBackRight, RecoversByOwn}
use Rattle.dali_concurrent.proofs.Lists.{take_length, get_of_front, each_front, by_fronts}
use Rattle.dali_concurrent.proofs.Entries.{neither, not_signed, same_client, not_its, deeds_push}
use Rattle.dali_concurrent.proofs.Fitting.{by_entries}
use Rattle.dali_concurrent.proofs.Told.{plain-append}
use Rattle.dali_concurrent.proofs.Sorts.{front, state_then}
use Rattle.dali_concurrent.proofs.Opened.{open_before}
use Rattle.dali_concurrent.proofs.Kept.{fit_of, stands_of, follows_behind}
use Rattle.dali_concurrent.proofs.Holds.{states_are_told, runs_there, dead_is_named}
use Rattle.dali_concurrent.proofs.Locking.{yields_right}
use Rattle.dali_concurrent.proofs.Cases.{recovers_land}
use Rattle.dali_concurrent.proofs.Clients.{claimed_before}
use Rattle.dali_concurrent.proofs.WrongRuns.{not_again, unfit}

-- ---- one entry further
module _ (o : Outset) (P : Entries) (x : List ℕ × Entry) (u : ℕ) where
  opener_on : opener_by u (P ++ x ∷ []) ≡ opener_step u (opener_by u P) x
  opener_on = fold-append (opener_step u) None P (x ∷ [])

  actor_on : actor_by u (P ++ x ∷ []) ≡ actor_step u (actor_by u P) x
  actor_on = fold-append (actor_step u) None P (x ∷ [])

  state_on : state_by o (P ++ x ∷ []) u ≡ fold (state_step u) (state_by o P u) (deeds_of (x ∷ []))
  state_on = deeds_push (state_step u) (state_of o.old.system u) P x

  claimer_on : fold (claimer_step u) None (deeds_of (P ++ x ∷ [])) ≡ fold (claimer_step u) (fold (claimer_step u) None (deeds_of P)) (deeds_of (x ∷ []))
  claimer_on = deeds_push (claimer_step u) None P x

log_on : (o : Outset) (P : Entries) (x : List ℕ × Entry) → log_by o (P ++ x ∷ []) ≡ log_by o P ++ logged_by (deeds_of (x ∷ []))
log_on o P x =
    ap (λ l. before o ++ logged_by l) (filter_map-append deed_in P (x ∷ []))
    ∙ (ap (λ l. before o ++ l) (filter_map-append record_of (deeds_of P) (deeds_of (x ∷ [])))
    ∙ sym (append_assoc (before o) (logged_by (deeds_of P)) (logged_by (deeds_of (x ∷ [])))))

not_other : (u v : ℕ) → Some u ≡ Some v → (u == v) ≡ false → ⊥
not_other u v same apart = not_both_ways (subst (λ z. (u == z) ≡ true) (some_same same) (eqb-self u)) apart

some_claim : (b : Bool) (s : Option State) → is_some (if b then claimed s else s) ≡ true → is_some s ≡ true
some_claim true None g = g
some_claim true (Some (Dead latched)) g = refl
some_claim true (Some st) g = refl
some_claim false s g = g

some_given : (b : Bool) (latched : Option ℕ) (s : Option State) → is_some (if b then given_back latched s else s) ≡ true → is_some s ≡ true
some_given true latched None g = g
some_given true latched (Some (Cleaning was)) g = refl
some_given true latched (Some st) g = refl
some_given false latched s g = g

-- ---- its own entries
pub only_starts : OnlyStarts
only_starts o c = record { opened = λ u h g. absurd (cc); claims = λ u h g. absurd (cc) }

pub only_begins : OnlyBegins
only_begins o P ks c u k had = record {
  opened = λ v h g. by_new v (u == v) refl (sym (opener_on o P x v) ∙ h) (ap is_some (sym (state_on o P x v)) ∙ g);
  claims = λ v h g. had.claims v (sym (claimer_on o P x v) ∙ h) (claimed_before v (Logs (Begin u)) c (state_by o P v) (λ w e. absurd (cc)) (ap is_claimed_in (sym (state_on o P x v)) ∙ g));
}
  where
    x : List ℕ × Entry
    x = (ks, Did (Logs (Begin u)) c)

    by_new : (v : ℕ) (b : Bool) → (u == v) ≡ b → (if b then Some c else opener_by v P) ≡ Some c → is_some (if b then Some Live else state_by o P v) ≡ true → Some u ≡ Some v
    by_new v true is h g = ap (λ z. Some z) (eqb-true u v is)
    by_new v false is h g = let none : ◌≡◌ {A = Option ℕ} None (Some v) = had.opened v h g in absurd (cc)

pub only_ends : OnlyEnds
only_ends o P ks c d u k had = record {
  opened = λ v h g. by_same v (u == v) refl (sym (opener_on o P x v) ∙ h) (ap is_some (sym (state_on o P x v)) ∙ g);
  claims = λ v h g. had.claims v (sym (claimer_on o P x v) ∙ h) (claimed_before v (Logs (Ended u)) d (state_by o P v) (λ w e. absurd (cc)) (ap is_claimed_in (sym (state_on o P x v)) ∙ g));
}
  where
    x : List ℕ × Entry
    x = (ks, Did (Logs (Ended u)) d)

    by_same : (v : ℕ) (b : Bool) → (u == v) ≡ b → opener_by v P ≡ Some c → is_some (if b then None else state_by o P v) ≡ true → ◌≡◌ {A = Option ℕ} None (Some v)
    by_same v true is h g = absurd (cc)
    by_same v false is h g = absurd (not_other u v (had.opened v h g) is)

pub only_claims : OnlyClaims
only_claims o P ks c u t had = record {
  opened = λ v h g. had.opened v (sym (opener_on o P x v) ∙ h) (some_claim (u == v) (state_by o P v) (ap is_some (sym (state_on o P x v)) ∙ g));
  claims = λ v h g. by_new v (u == v) refl (sym (claimer_on o P x v) ∙ h) (ap is_claimed_in (sym (state_on o P x v)) ∙ g);
}
  where
    x : List ℕ × Entry
    x = (ks, Did (Claims u) c)

    by_new : (v : ℕ) (b : Bool) → (u == v) ≡ b → (if b then Some c else fold (claimer_step v) None (deeds_of P)) ≡ Some c → is_claimed_in (if b then claimed (state_by o P v) else state_by o P v) ≡ true
        → Some u ≡ Some v
    by_new v true is h g = ap (λ z. Some z) (eqb-true u v is)
    by_new v false is h g = let none : ◌≡◌ {A = Option ℕ} None (Some v) = had.claims v h g in absurd (cc)

unclaimed_given : (latched : Option ℕ) (s : Option State) → is_claimed_in (given_back latched s) ≡ true → ⊥
unclaimed_given latched None g = absurd (cc)
unclaimed_given latched (Some (Cleaning was)) g = absurd (cc)
unclaimed_given latched (Some Live) g = absurd (cc)
unclaimed_given latched (Some Committed) g = absurd (cc)
unclaimed_given latched (Some (Dead was)) g = absurd (cc)

pub only_lets : OnlyLets
only_lets o P ks (Did (Logs (Ended v)) d) c u t is had = record {
  opened = λ w h g. had.opened w (sym (opener_on o P x w) ∙ h) (was w (v == w) (ap is_some (sym (state_on o P x w)) ∙ g));
  claims = λ w h g. by_same w (v == w) refl (sym (claimer_on o P x w) ∙ h) (ap is_claimed_in (sym (state_on o P x w)) ∙ g);
}
  where
    x : List ℕ × Entry
    x = (ks, Did (Logs (Ended v)) d)

    was : (w : ℕ) (b : Bool) → is_some (if b then None else state_by o P w) ≡ true → is_some (state_by o P w) ≡ true
    was w true g = absurd (cc)
    was w false g = g

    by_same : (w : ℕ) (b : Bool) → (v == w) ≡ b → fold (claimer_step w) None (deeds_of P) ≡ Some c → is_claimed_in (if b then None else state_by o P w) ≡ true → ◌≡◌ {A = Option ℕ} None (Some w)
    by_same w true e h g = absurd (cc)
    by_same w false e h g = absurd (not_other v w (ap (λ z. Some z) (eqb-true v u is) ∙ had.claims w h g) e)
only_lets o P ks (Did (GivesBack v latched) d) c u t is had = record {
  opened = λ w h g. had.opened w (sym (opener_on o P x w) ∙ h) (some_given (v == w) latched (state_by o P w) (ap is_some (sym (state_on o P x w)) ∙ g));
  claims = λ w h g. by_same w (v == w) refl (sym (claimer_on o P x w) ∙ h) (ap is_claimed_in (sym (state_on o P x w)) ∙ g);
}
  where
    x : List ℕ × Entry
    x = (ks, Did (GivesBack v latched) d)

    by_same : (w : ℕ) (b : Bool) → (v == w) ≡ b → fold (claimer_step w) None (deeds_of P) ≡ Some c → is_claimed_in (if b then given_back latched (state_by o P w) else state_by o P w) ≡ true
        → ◌≡◌ {A = Option ℕ} None (Some w)
    by_same w true e h g = absurd (unclaimed_given latched (state_by o P w) g)
    by_same w false e h g = absurd (not_other v w (ap (λ z. Some z) (eqb-true v u is) ∙ had.claims w h g) e)
only_lets o P ks e c u t is had = absurd (cc)

-- ---- rows
some_row : (row : Option TxnRow) → IsSome row → is_some (state_in row) ≡ true
some_row None some = absurd (cc)
some_row (Some row) some = refl

no_row_by : (s : Option TxnState) (row now : Option TxnRow) → IsRow s row → IsRow s now → state_in row ≡ None → state_in now ≡ None
no_row_by None row now a b e = absurd a
no_row_by (Some Unbegun) row now a b e = ap state_in b
no_row_by (Some (Active w)) row now a b e = let some : Some a.0 ≡ None = sym (ap state_in a.2) ∙ e in absurd (cc)
no_row_by (Some (Ending dead)) row now a b e = let some : Some Committed ≡ None = sym (ap state_in a) ∙ e in absurd (cc)
no_row_by (Some Over) row now a b e = ap state_in b

pub sizes_told : (bases : Bases) (p : Point) (o : Outset) (T : History) → IsLed bases p o T → (core_told o T).system.sizes ≡ o.old.system.sizes
sizes_told bases p o T led = let at = stands_of bases p o T led.begins led.all in at.1.tells.grew.sizes

module _ (bases : Bases) (p : Point) (o : Outset) (T : History) (e : Line) (led : IsLed bases p o (T ++ e ∷ [])) where
  led_before : IsLed bases p o T
  led_before = record { begins = led.begins; all = each_front (Follows bases p o) T (e ∷ []) led.all }

  follows_here : Follows bases p o T e
  follows_here = subst (λ Z. Follows bases p o Z e) (take_length T (e ∷ [])) (led.all (length T) e (get_behind T e []))

  -- what logs nothing adds no row
  rows_stay : logged_by (deeds_of (plain_one e ∷ [])) ≡ [] → (t : ℕ) → is_some (state_by o (plain (T ++ e ∷ [])) t) ≡ true → is_some (state_by o (plain T) t) ≡ true
  rows_stay none t some = by_state (state_by o (plain T) t) refl
    where
      same_log : log_by o (plain T) ≡ log_by o (plain (T ++ e ∷ []))
      same_log = sym (ap (log_by o) (plain-append T (e ∷ [])) ∙ (log_on o (plain T) (plain_one e) ∙ (ap (λ l. log_by o (plain T) ++ l) none ∙ append-nil (log_by o (plain T)))))

      same_sizes : (core_told o T).system.sizes ≡ (core_told o (T ++ e ∷ [])).system.sizes
      same_sizes = sizes_told bases p o T led_before ∙ sym (sizes_told bases p o (T ++ e ∷ []) led)

      y : SystemState
      y = (core_told o T).system

      z : SystemState
      z = (core_told o (T ++ e ∷ [])).system

      old : IsRow (txn_state z.sizes t (log_by o (plain (T ++ e ∷ [])))) (map.get y.table t)
      old = subst (λ L. IsRow (txn_state z.sizes t L) (map.get y.table t)) same_log
          (subst (λ s. IsRow (txn_state s t (log_by o (plain T))) (map.get y.table t)) same_sizes ((runs_there bases p o T led_before).table t))

      by_state : (s : Option State) → state_by o (plain T) t ≡ s → is_some s ≡ true
      by_state (Some s) is = refl
      by_state None is =
          let gone : state_in (map.get z.table t) ≡ None =
          no_row_by (txn_state z.sizes t (log_by o (plain (T ++ e ∷ [])))) (map.get y.table t) (map.get z.table t) old ((runs_there bases p o (T ++ e ∷ []) led).table t)
          (states_are_told bases p o T t led_before ∙ is) in
          let none : false ≡ true = sym (ap is_some (sym (states_are_told bases p o (T ++ e ∷ []) t led) ∙ gone)) ∙ some in absurd (cc)

  -- ---- any others
  opened_back : (c u : ℕ) → takes_one c e.1.0 ≡ false → opener_by u (plain (T ++ e ∷ [])) ≡ Some c → is_some (state_by o (plain (T ++ e ∷ [])) u) ≡ true
      → (opener_by u (plain T) ≡ Some c) × (is_some (state_by o (plain T) u) ≡ true)
  opened_back c u none h g =
      by e.1.0 none follows_here.fits (sym (opener_on o (plain T) (plain_one e) u) ∙ (ap (opener_by u) (sym (plain-append T (e ∷ []))) ∙ h))
      (ap is_some (sym (ap (λ P. state_by o P u) (plain-append T (e ∷ [])) ∙ state_on o (plain T) (plain_one e) u)) ∙ g) (λ log. rows_stay log u g)
    where
      s : Option State
      s = state_by o (plain T) u

      by : (x : Entry) → takes_one c x ≡ false → Fits o (plain T) (e.0, x) → opener_step u (opener_by u (plain T)) (e.0, x) ≡ Some c
          → is_some (fold (state_step u) s (deeds_of ((e.0, x) ∷ []))) ≡ true → (logged_by (deeds_of ((e.0, x) ∷ [])) ≡ [] → is_some s ≡ true)
          → (opener_by u (plain T) ≡ Some c) × (is_some s ≡ true)
      by (Did (Logs (Begin v)) d) none f h g rows = by_test (v == u) h g
        where
          by_test : (b : Bool) → (if b then Some d else opener_by u (plain T)) ≡ Some c → is_some (if b then Some Live else s) ≡ true → (opener_by u (plain T) ≡ Some c) × (is_some s ≡ true)
          by_test true h g = not_its d c none h
          by_test false h g = (h, g)
      by (Did (Logs (Commit v)) d) none f h g rows = (h, by_test (v == u) refl g)
        where
          by_test : (b : Bool) → (v == u) ≡ b → is_some (if b then Some Committed else s) ≡ true → is_some s ≡ true
          by_test true is g = ap is_some (subst (λ z. state_by o (plain T) z ≡ Some Live) (eqb-true v u is) f.fits.txn)
          by_test false is g = g
      by (Did (Logs (Ended v)) d) none f h g rows = (h, by_test (v == u) g)
        where
          by_test : (b : Bool) → is_some (if b then None else s) ≡ true → is_some s ≡ true
          by_test true g = absurd (cc)
          by_test false g = g
      by (Did (Logs x) d) none f h g rows = (h, g)
      by (Did x d) none f h g rows = (h, rows refl)
      by x none f h g rows = (h, g)

  claims_back : (c u : ℕ) → takes_one c e.1.0 ≡ false → fold (claimer_step u) None (deeds_of (plain (T ++ e ∷ []))) ≡ Some c → is_claimed_in (state_by o (plain (T ++ e ∷ [])) u) ≡ true
      → (fold (claimer_step u) None (deeds_of (plain T)) ≡ Some c) × (is_claimed_in (state_by o (plain T) u) ≡ true)
  claims_back c u none h g =
      by e.1.0 none (sym (claimer_on o (plain T) (plain_one e) u) ∙ (ap (λ P. fold (claimer_step u) None (deeds_of P)) (sym (plain-append T (e ∷ []))) ∙ h))
      (ap is_claimed_in (sym (ap (λ P. state_by o P u) (plain-append T (e ∷ [])) ∙ state_on o (plain T) (plain_one e) u)) ∙ g)
    where
      s : Option State
      s = state_by o (plain T) u

      k : Option ℕ
      k = fold (claimer_step u) None (deeds_of (plain T))

      claims_same : {a b : ℕ} → Claims a ≡ Claims b → a ≡ b
      claims_same q = cc

      by : (x : Entry) → takes_one c x ≡ false → fold (claimer_step u) k (deeds_of ((e.0, x) ∷ [])) ≡ Some c → is_claimed_in (fold (state_step u) s (deeds_of ((e.0, x) ∷ []))) ≡ true
          → (k ≡ Some c) × (is_claimed_in s ≡ true)
      by (Did (Claims v) d) none h g = by_test (v == u) refl h
        where
          by_test : (b : Bool) → (v == u) ≡ b → (if b then Some d else k) ≡ Some c → (k ≡ Some c) × (is_claimed_in s ≡ true)
          by_test true is h = not_its d c none h
          by_test false is h = (h, claimed_before u (Claims v) d s (λ w same. subst (λ z. (z == u) ≡ false) (claims_same same) is) g)
      by (Did x d) none h g = (h, claimed_before u x d s (λ w same. absurd (cc)) g)
      by x none h g = (h, g)

pub only_stays : OnlyStays
only_stays bases p o T e c t k led none had = record {
  opened = λ u h g. let w = opened_back bases p o T e led c u none h g in had.opened u w.0 w.1;
  claims = λ u h g. let w = claims_back bases p o T e led c u none h g in had.claims u w.0 w.1;
}

not_taken : (n c : ℕ) (x : Entry) → signs (client_note n c) (notes_of n x) ≡ false → takes_one c x ≡ false
not_taken n c (Did (Logs (Begin u)) d) h = same_client n d c (neither _ _ h).0
not_taken n c (Did (Claims u) d) h = same_client n d c (neither _ _ h).0
not_taken n c x h = refl

module _ (bases : Bases) (p : Point) (o : Outset) (c : ℕ) (t k : Option ℕ) where
  along : (R A : History) → IsLed bases p o (A ++ R) → ((i : ℕ) (e : Line) → slice_get R i ≡ Some e → takes_one c e.1.0 ≡ false) → HasOnly o (plain A) c t k → HasOnly o (plain (A ++ R)) c t k
  along [] A led none had = subst (λ Z. HasOnly o (plain Z) c t k) (sym (append-nil A)) had
  along (e ∷ R) A led none had =
      let moved : A ++ e ∷ R ≡ (A ++ e ∷ []) ++ R = sym (append_assoc A (e ∷ []) R) in
      let on : IsLed bases p o ((A ++ e ∷ []) ++ R) = subst (IsLed bases p o) moved led in
      let here : IsLed bases p o (A ++ e ∷ []) = record { begins = led.begins; all = each_front (Follows bases p o) (A ++ e ∷ []) R on.all } in
      subst (λ Z. HasOnly o (plain Z) c t k) (sym moved)
      (along R (A ++ e ∷ []) on (λ i d at. none (suc i) d at) (only_stays bases p o A e c t k here (none zero e refl) had))

pub only_seen : OnlySeen
only_seen bases p o seen new c t k led is had =
    subst (λ Z. HasOnly o (plain Z) c t k) (sym is.all) (along bases p o c t k is.rest seen (subst (IsLed bases p o) is.all led) each had)
  where
    note : ℕ
    note = client_note (count_of o) c

    each : (i : ℕ) (e : Line) → slice_get is.rest i ≡ Some e → takes_one c e.1.0 ≡ false
    each i e at = not_taken (count_of o) c e.1.0 (not_signed note (notes_of (count_of o) e.1.0) e.0 ((follows_behind bases p o new note seen is led.all i e at).fits.by note) (is.none e (i, at)))

-- ---- who began an open transaction acts for it
dead_claimed : (s : Option State) → is_dead_in s ≡ true → is_open_in (claimed s) ≡ true → ⊥
dead_claimed None d g = absurd (cc)
dead_claimed (Some (Dead latched)) d g = absurd (cc)
dead_claimed (Some Live) d g = absurd (cc)
dead_claimed (Some Committed) d g = absurd (cc)
dead_claimed (Some (Cleaning was)) d g = absurd (cc)

module _ (o : Outset) (t : ℕ) where
  abbrev OpenerActs : Entries → Type 0
  OpenerActs P = is_open_in (state_by o P t) ≡ true → actor_by t P ≡ opener_by t P

  acts_on : (P : Entries) (x : List ℕ × Entry) → Fits o P x → OpenerActs P → is_open_in (fold (state_step t) (state_by o P t) (deeds_of (x ∷ []))) ≡ true
      → actor_step t (actor_by t P) x ≡ opener_step t (opener_by t P) x
  acts_on P (k, Did (Logs (Begin u)) d) f had g = by_test (u == t) g
    where
      by_test : (b : Bool) → is_open_in (if b then Some Live else state_by o P t) ≡ true → (if b then Some d else actor_by t P) ≡ (if b then Some d else opener_by t P)
      by_test true g = refl
      by_test false g = had g
  acts_on P (k, Did (Claims u) d) f had g = by_test (u == t) refl g
    where
      by_test : (b : Bool) → (u == t) ≡ b → is_open_in (if b then claimed (state_by o P t) else state_by o P t) ≡ true → (if b then Some d else actor_by t P) ≡ opener_by t P
      by_test true is g = absurd (dead_claimed (state_by o P t) (subst (λ z. is_dead_in (state_by o P z) ≡ true) (eqb-true u t is) f.fits.txn.0) g)
      by_test false is g = had g
  acts_on P (k, Did x d) f had g = either (open_before o P t k x d (state_by o P t) refl f g)
    where
      either : (is_open_in (state_by o P t) ≡ true) ⊎ (x ≡ Logs (Begin t)) → actor_by t P ≡ opener_by t P
      either (inl w) = had w
      either (inr same) = absurd (cc)
  acts_on P p f had g = had g

  opener_acts : (P : Entries) → AllFit o P → OpenerActs P
  opener_acts P good = by_entries o OpenerActs (λ g. refl)
      (λ A x before f had g. actor_on o A x t ∙ (acts_on A x f had (ap is_open_in (sym (state_on o A x t)) ∙ g) ∙ sym (opener_on o A x t))) P good

  -- and its begin is logged
  abbrev IsLoggedOf : Entries → Type 0
  IsLoggedOf P = (c : ℕ) → opener_by t P ≡ Some c → (m : ℕ) × (slice_get (log_by o P) m ≡ Some (Begin t))

  longer : (P : Entries) (x : List ℕ × Entry) → (m : ℕ) × (slice_get (log_by o P) m ≡ Some (Begin t)) → (m : ℕ) × (slice_get (log_by o (P ++ x ∷ [])) m ≡ Some (Begin t))
  longer P x (m, there) = (m, ap (λ l. slice_get l m) (log_on o P x) ∙ (get_of_front (log_by o P) (logged_by (deeds_of (x ∷ []))) m (Begin t) there).0)

  logged_on : (P : Entries) (x : List ℕ × Entry) → IsLoggedOf P → (c : ℕ) → opener_step t (opener_by t P) x ≡ Some c → (m : ℕ) × (slice_get (log_by o (P ++ x ∷ [])) m ≡ Some (Begin t))
  logged_on P (k, Did (Logs (Begin u)) d) had c h = by_test (u == t) refl h
    where
      x : List ℕ × Entry
      x = (k, Did (Logs (Begin u)) d)

      by_test : (b : Bool) → (u == t) ≡ b → (if b then Some d else opener_by t P) ≡ Some c → (m : ℕ) × (slice_get (log_by o (P ++ x ∷ [])) m ≡ Some (Begin t))
      by_test true is h = (length (log_by o P), ap (λ l. slice_get l (length (log_by o P))) (log_on o P x) ∙ (get_behind (log_by o P) (Begin u) [] ∙ ap (λ z. Some (Begin z)) (eqb-true u t is)))
      by_test false is h = longer P x (had c h)
  logged_on P x had c h = longer P x (had c h)

  opener_logged : (P : Entries) → AllFit o P → IsLoggedOf P
  opener_logged P good = by_entries o IsLoggedOf (λ c h. absurd (cc)) (λ A x before f had c h. logged_on A x had c (sym (opener_on o A x t) ∙ h)) P good

  -- who claimed it last acts for it while it is claimed
  abbrev ClaimerActs : Entries → Type 0
  ClaimerActs P = is_claimed_in (state_by o P t) ≡ true → fold (claimer_step t) None (deeds_of P) ≡ actor_by t P

  claimer_acts_on : (P : Entries) (x : List ℕ × Entry) → ClaimerActs P → is_claimed_in (fold (state_step t) (state_by o P t) (deeds_of (x ∷ []))) ≡ true
      → fold (claimer_step t) (fold (claimer_step t) None (deeds_of P)) (deeds_of (x ∷ [])) ≡ actor_step t (actor_by t P) x
  claimer_acts_on P (k, Did (Logs (Begin u)) d) had g = by_test (u == t) g
    where
      by_test : (b : Bool) → is_claimed_in (if b then Some Live else state_by o P t) ≡ true → fold (claimer_step t) None (deeds_of P) ≡ (if b then Some d else actor_by t P)
      by_test true g = absurd (cc)
      by_test false g = had g
  claimer_acts_on P (k, Did (Claims u) d) had g = by_test (u == t) g
    where
      by_test : (b : Bool) → is_claimed_in (if b then claimed (state_by o P t) else state_by o P t) ≡ true
          → (if b then Some d else fold (claimer_step t) None (deeds_of P)) ≡ (if b then Some d else actor_by t P)
      by_test true g = refl
      by_test false g = had g
  claimer_acts_on P (k, Did x d) had g = had (claimed_before t x d (state_by o P t) (λ w same. absurd (cc)) g)
  claimer_acts_on P x had g = had g

  claimer_acts : is_claimed_in (state_of o.old.system t) ≡ false → (P : Entries) → AllFit o P → ClaimerActs P
  claimer_acts free P good = by_entries o ClaimerActs (λ g. absurd (not_both_ways g free))
      (λ A x before f had g. claimer_on o A x t ∙ (claimer_acts_on A x had (ap is_claimed_in (sym (state_on o A x t)) ∙ g) ∙ sym (actor_on o A x t))) P good

-- ---- who began a transaction was granted its locks
is_live : (s : Option State) → (s ≢ Some Live → ⊥) → is_open_in s ≡ true
is_live None other = absurd (other (λ e. absurd (cc)))
is_live (Some Live) other = refl
is_live (Some Committed) other = refl
is_live (Some (Dead latched)) other = absurd (other (λ e. absurd (cc)))
is_live (Some (Cleaning latched)) other = absurd (other (λ e. absurd (cc)))

module _ (bases : Bases) (p : Point) (o : Outset) (begins : BeginsAt bases p o) (h k : ℕ) where
  abbrev OfOpener : History → Type 0
  OfOpener T = (c : ℕ) (n : Mode) → HasGot (deeds_of (plain T)) c h k n → opener_by h (plain T) ≡ Some c

  opener_stays : (A : History) (e : Line) → IsLed bases p o A → Follows bases p o A e → (c : ℕ) → opener_by h (plain A) ≡ Some c → opener_step h (opener_by h (plain A)) (plain_one e) ≡ Some c
  opener_stays A (ks, (Did (Logs (Begin u)) d, f, xs)) led follows c was = by_test (u == h) refl
    where
      by_test : (b : Bool) → (u == h) ≡ b → (if b then Some d else opener_by h (plain A)) ≡ Some c
      by_test true is =
          let there = opener_logged o h (plain A) (fit_of bases p o A led.all) c was in
          absurd (not_again bases p o A (ks, (Did (Logs (Begin u)) d, f, xs)) led follows u d refl there.0 (there.1 ∙ ap (λ z. Some (Begin z)) (sym (eqb-true u h is))))
      by_test false is = was
  opener_stays A e led follows c was = was

  granted_here : (A : History) (e : Line) → IsLed bases p o A → Follows bases p o A e → (c : ℕ) (n : Mode) → HasGot (deeds_of (plain_one e ∷ [])) c h k n → opener_step h (opener_by h (plain A)) (plain_one e) ≡ Some c
  granted_here A (ks, (Did x d, f, xs)) led follows c n got = ⊎_elim here (λ none. absurd (contains_none (GetsLock h k n, c) none)) (contains_cases (x, d) (GetsLock h k n, c) [] got)
    where
      line : Entry → Line
      line z = (ks, (z, f, xs))

      granted : Follows bases p o A (line (Did (GetsLock h k n) c)) → opener_by h (plain A) ≡ Some c
      granted at =
          sym (opener_acts o h (plain A) (fit_of bases p o A led.all) (is_live (state_by o (plain A) h) (λ other. unfit.granted h k c n bases p o A (line (Did (GetsLock h k n) c)) led (refl, other) at)))
          ∙ at.fits.fits.acts h refl

      here : ◌≡◌ {A = Happening} (x, d) (GetsLock h k n, c) → opener_step h (opener_by h (plain A)) (ks, Did x d) ≡ Some c
      here same =
          let entry : Did x d ≡ Did (GetsLock h k n) c = ap (λ (z : Happening). Did z.0 z.1) same in
          subst (λ z. opener_step h (opener_by h (plain A)) (ks, z) ≡ Some c) (sym entry) (granted (subst (λ z. Follows bases p o A (line z)) entry follows))
  granted_here A e led follows c n got = absurd (contains_none (GetsLock h k n, c) got)

  step : (A : History) (e : Line) → AllFollow bases p o A → Follows bases p o A e → OfOpener A → OfOpener (A ++ e ∷ [])
  step A e all follows had c n got =
      let led : IsLed bases p o A = record { begins = begins; all = all } in
      let deeds : deeds_of (plain (A ++ e ∷ [])) ≡ deeds_of (plain A) ++ deeds_of (plain_one e ∷ []) = ap deeds_of (plain-append A (e ∷ [])) ∙ filter_map-append deed_in (plain A) (plain_one e ∷ []) in
      ap (opener_by h) (plain-append A (e ∷ []))
      ∙ (opener_on o (plain A) (plain_one e) h
      ∙ ⊎_elim (λ old. opener_stays A e led follows c (had c n old)) (granted_here A e led follows c n)
      (Contains-append_cases (deeds_of (plain A)) (deeds_of (plain_one e ∷ [])) (GetsLock h k n, c) (subst (λ l. HasGot l c h k n) deeds got)))

  of_opener : (T : History) → AllFollow bases p o T → OfOpener T
  of_opener T all = by_fronts (Follows bases p o) OfOpener (λ c n got. absurd (contains_none (GetsLock h k n, c) got)) step T all

-- ---- what is right
pub yields_by_own : YieldsByOwn
yields_by_own bases p o T c t k h m u y led is busy runs alive had apart = yields_right bases p o T c t k h m y led is busy runs alive own (λ by_it. unclaimed by_it (is_claimed_in (state_by o (plain T) h)) refl)
  where
    state_is : state_of y h ≡ state_by o (plain T) h
    state_is = ap (λ (z : SystemState). state_of z h) is ∙ states_are_told bases p o T h led

    row : is_some (state_by o (plain T) h) ≡ true
    row =
        let run : RunsOn bases (log_by o (plain T)) (core_told o T) = runs_there bases p o T led in
        let there : lock_of (core_told o T).system h k ≡ Some busy.0.conflict.mode = ap (λ (z : SystemState). lock_of z h k) (sym is) ∙ busy.0.conflict.holds in
        ap is_some (sym (states_are_told bases p o T h led)) ∙ some_row (row_of (core_told o T).system h) (run.locks.owned h k busy.0.conflict.mode there)

    own : (n : Mode) → HasGot (deeds_of (plain T)) c h k n → ⊥
    own n got = not_other t h (had.opened h (of_opener bases p o led.begins h k T led.all c n got) row) busy.0.conflict.other

    unclaimed : fold (claimer_step h) None (deeds_of (plain T)) ≡ Some c → (b : Bool) → is_claimed_in (state_by o (plain T) h) ≡ b → is_claimed_in (state_of y h) ≡ false
    unclaimed by_it true e = absurd (apart (had.claims h by_it e))
    unclaimed by_it false e = ap is_claimed_in state_is ∙ e

pub gives_back_right : GivesBackRight
gives_back_right bases p o T c t was latched y led is state acts names q at = (
  (was, state_then bases p o T q c (GivesBack t latched ∷ []) to t at ∙ state_is, left latched refl, claimer),
  tt,
)
  where
    to : CoreState
    to = effect_on (core_told o T) (OnSystem (in_state y t (Dead latched)))

    state_is : state_of (core_told o T).system t ≡ Some (Cleaning was)
    state_is = ap (λ (z : SystemState). state_of z t) (sym is) ∙ state

    left : (l : Option ℕ) → latched ≡ l → (latched ≡ was) ⊎ (latched ≡ None)
    left None e = inr e
    left (Some r) e = let w = names r e in inl (e ∙ (sym (dead_is_named bases p o T r t led w.0 w.1) ∙ ap latched_in state_is))

    free : is_claimed_in (state_of o.old.system t) ≡ false
    free = let begins : BeginsAt bases p o = led.begins in subst (λ (d : CoreState). is_claimed_in (state_of d.system t) ≡ false) begins.core (begins.between.rests.free t)

    claimer : fold (claimer_step t) None (take (length (deeds_of (plain T))) (deeds_of (plain T) ++ by c (GivesBack t latched ∷ []))) ≡ Some c
    claimer =
        ap (λ xs. fold (claimer_step t) None xs) (front (world_told o T) (by c (GivesBack t latched ∷ [])))
        ∙ (claimer_acts o t free (plain T) (fit_of bases p o T led.all) (ap is_claimed_in (sym (states_are_told bases p o T t led) ∙ state_is)) ∙ acts)

-- ---- what lands
is_claim : (s : Option State) → is_claimed_in s ≡ true → (latched : Option ℕ) × (s ≡ Some (Cleaning latched))
is_claim None e = absurd (cc)
is_claim (Some Live) e = absurd (cc)
is_claim (Some Committed) e = absurd (cc)
is_claim (Some (Dead latched)) e = absurd (cc)
is_claim (Some (Cleaning latched)) e = (latched, refl)

pub recovers_by_own : RecoversByOwn
recovers_by_own bases p o T ks e r g h led tie there held is_dead claim =
    let c = is_claim (state_of (core_told o T).system h.txn) (ap is_claimed_in (states_are_told bases p o T h.txn led) ∙ claim) in
    recovers_land bases p o T ks e r g tie there (record { hold = h; at = held; dead = is_dead; latched = c.0; claimed = c.1 })
