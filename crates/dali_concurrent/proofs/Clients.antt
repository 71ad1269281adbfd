-- What a client did, and what it has in hand, stays where entries of others come.
use Rattle.std.proofs.Common.{◌≡◌, ℕ, zero, suc, Bool, true, false, List, [], ◌∷◌, ◌++◌, length, Option, Some, None, refl, ap, sym, subst, ◌∙◌}
use Rattle.std.specs.Prelude.{slice_get, filter_map, fold, ◌==◌, ◌||◌, is_some, if◌then◌else◌}
use Rattle.std.specs.List.{cons_option}
use Rattle.std.proofs.lemmas.List.Elements.{filter_map-append}
use Rattle.std.proofs.lemmas.List.Sums.{fold-append}
use Rattle.dali_runs.proofs.CountsLemmas.Lists.{some_same}
use Rattle.dali_lists.proofs.Tests.{not_both_ways}
use Rattle.dali_record.specs.declared.records.Record.TheVariants.{Begin, Commit, Ended}
use Rattle.dali_att.specs.declared.state.State.{State}
use Rattle.dali_att.specs.declared.state.State.TheVariants.{Live, Dead, Cleaning, Committed}
use Rattle.dali_runs.specs.declared.causes.Cause.{Cause}
use Rattle.dali_runs.specs.State.{state_of}
use Rattle.dali_runs.specs.Run.{Bases}
use Rattle.dali_crash.specs.Checkpoints.{Point}
use Rattle.dali_transcripts.specs.World.{Deed, Logs, DiesOn, Claims, GivesBack, StartsCheckpoint, EndsCheckpoint, Happening, state_step, claimer_step, claimed, given_back, is_claimed_in, span_step, under_way, Grows}
use Rattle.dali_transcripts.specs.Rounds.{is_on}
use Rattle.dali_transcripts.specs.Transcripts.{IsSoFar, owned, owned_one, count_with, deeds_of as deeds_of_client}
use Rattle.dali_transcripts.proofs.Growing.{world_goes_on}
use Rattle.dali_notes.specs.History.{IsSeen}
use Rattle.dali_concurrent.specs.Entries.{Does, Latches, Entry, Did, Latched, Freed, Entries, client_note, deed_in, deeds_of, done_in, live_by, live_step, opener_by}
use Rattle.dali_concurrent.specs.Rules.{Outset, before, count_of, state_by, AllFit}
use Rattle.dali_concurrent.proofs.Entries.{IdleIn, idle_of, other, not_its}
use Rattle.dali_concurrent.specs.Told.{History, plain, core_told, world_told}
use Rattle.dali_concurrent.specs.Landing.{BeginsAt}
use Rattle.dali_concurrent.specs.Kept.{AllFollow}
use Rattle.dali_concurrent.specs.Clients.{is_open_in, is_within, ClientMeets}
use Rattle.dali_concurrent.proofs.Told.{plain_seen}
use Rattle.dali_concurrent.proofs.Landing.{front_stands, way_grows}
use Rattle.dali_concurrent.proofs.Kept.{fit_of, stands_of}
use Rattle.dali_concurrent.proofs.Opened.{open_back}
use Rattle.dali_concurrent.proofs.Fitting.{quiet_rest}

-- ---- nothing is picked
pub none_there : {X Y : Type 0} (f : X → Option Y) (xs : List X) (i : ℕ) (x : X) → filter_map f xs ≡ [] → slice_get xs i ≡ Some x → f x ≡ None
none_there f [] i x e h = absurd (cc)
none_there f (z ∷ xs) zero x e h = ap f (sym (some_same h)) ∙ first (filter_map f xs) (f z) e
  where
    first : {Y : Type 0} (l : List Y) (q : Option Y) → cons_option q l ≡ [] → q ≡ None
    first l None g = refl
    first l (Some y) g = absurd (cc)
none_there f (z ∷ xs) (suc i) x e h = none_there f xs i x (rest (filter_map f xs) (f z) e) h
  where
    rest : {Y : Type 0} (l : List Y) (q : Option Y) → cons_option q l ≡ [] → l ≡ []
    rest l None g = g
    rest l (Some y) g = absurd (cc)

-- ---- holds
pub live_back : (r t c : ℕ) (R : Entries) (s : Option (ℕ × ℕ)) → IdleIn c R → fold (live_step r) s R ≡ Some (t, c) → s ≡ Some (t, c)
live_back r t c [] s idle h = h
live_back r t c (p ∷ R) s idle h = one p (idle zero p refl) (live_back r t c R (live_step r s p) (λ i q e. idle (suc i) q e) h)
  where
    by_test : (b : Bool) (q : Option (ℕ × ℕ)) → (q ≡ Some (t, c) → s ≡ Some (t, c)) → (if b then q else s) ≡ Some (t, c) → s ≡ Some (t, c)
    by_test true q k f = k f
    by_test false q k f = f

    one : (p : List ℕ × Entry) → done_in c p ≡ None → live_step r s p ≡ Some (t, c) → s ≡ Some (t, c)
    one (k, Did x e) none f = by_test (is_on r x) None (λ g. absurd (cc)) f
    one (k, Latched q u e) none f = by_test (q == r) (Some (u, e)) (λ g. not_its e c (other e c (Latches q) none) (ap (λ (z : ℕ × ℕ). Some z.1) (some_same g))) f
    one (k, Freed q e) none f = by_test (q == r) None (λ g. absurd (cc)) f
    one p none f = f

-- ---- checkpoints
pub span_back : (c : ℕ) (R : Entries) (s : Option ℕ) → IdleIn c R → fold span_step s (deeds_of R) ≡ Some c → s ≡ Some c
span_back c [] s idle h = h
span_back c ((k, Did x e) ∷ R) s idle h = one x (other e c (Does x) (idle zero (k, Did x e) refl)) (span_back c R (span_step s (x, e)) (λ i q f. idle (suc i) q f) h)
  where
    one : (x : Deed) → (e == c) ≡ false → span_step s (x, e) ≡ Some c → s ≡ Some c
    one StartsCheckpoint none f = not_its e c none f
    one EndsCheckpoint none f = absurd (cc)
    one x none f = f
span_back c (p ∷ R) s idle h = span_back c R s (λ i q f. idle (suc i) q f) h

-- ---- claims
pub claimed_before : (t : ℕ) (x : Deed) (e : ℕ) (s : Option State) → ((u : ℕ) → x ≡ Claims u → (u == t) ≡ false) → is_claimed_in (state_step t s (x, e)) ≡ true → is_claimed_in s ≡ true
claimed_before t (Logs (Begin u)) e s other h = by_test (u == t) h
  where
    by_test : (b : Bool) → is_claimed_in (if b then Some Live else s) ≡ true → is_claimed_in s ≡ true
    by_test true g = absurd (cc)
    by_test false g = g
claimed_before t (Logs (Commit u)) e s other h = by_test (u == t) h
  where
    by_test : (b : Bool) → is_claimed_in (if b then Some Committed else s) ≡ true → is_claimed_in s ≡ true
    by_test true g = absurd (cc)
    by_test false g = g
claimed_before t (Logs (Ended u)) e s other h = by_test (u == t) h
  where
    by_test : (b : Bool) → is_claimed_in (if b then None else s) ≡ true → is_claimed_in s ≡ true
    by_test true g = absurd (cc)
    by_test false g = g
claimed_before t (DiesOn u r) e s other h = by_test (u == t) h
  where
    by_test : (b : Bool) → is_claimed_in (if b then Some (Dead (Some r)) else s) ≡ true → is_claimed_in s ≡ true
    by_test true g = absurd (cc)
    by_test false g = g
claimed_before t (Claims u) e s other h = ap (λ b. is_claimed_in (if b then claimed s else s)) (sym (other u refl)) ∙ h
claimed_before t (GivesBack u latched) e s other h = by_test (u == t) s h
  where
    gives : (s : Option State) → is_claimed_in (given_back latched s) ≡ true → is_claimed_in s ≡ true
    gives None g = g
    gives (Some (Cleaning was)) g = absurd (cc)
    gives (Some st) g = g

    by_test : (b : Bool) (s : Option State) → is_claimed_in (if b then given_back latched s else s) ≡ true → is_claimed_in s ≡ true
    by_test true s g = gives s g
    by_test false s g = g
claimed_before t x e s other h = h

-- who claimed it last, where this client claims nothing more
pub claim_back : (t c : ℕ) (R : Entries) (k : Option ℕ) (s : Option State) → IdleIn c R → fold (claimer_step t) k (deeds_of R) ≡ Some c → is_claimed_in (fold (state_step t) s (deeds_of R)) ≡ true
    → (k ≡ Some c) × (is_claimed_in s ≡ true)
claim_back t c [] k s idle h g = (h, g)
claim_back t c ((n, Did x e) ∷ R) k s idle h g =
    let later = claim_back t c R (claimer_step t k (x, e)) (state_step t s (x, e)) (λ i q f. idle (suc i) q f) h g in
    one x (other e c (Does x) (idle zero (n, Did x e) refl)) later.0 later.1
  where
    one : (x : Deed) → (e == c) ≡ false → claimer_step t k (x, e) ≡ Some c → is_claimed_in (state_step t s (x, e)) ≡ true → (k ≡ Some c) × (is_claimed_in s ≡ true)
    one (Claims u) none f held = by_test (u == t) refl f
      where
        by_test : (b : Bool) → (u == t) ≡ b → (if b then Some e else k) ≡ Some c → (k ≡ Some c) × (is_claimed_in s ≡ true)
        by_test true is l = not_its e c none l
        by_test false is l = (l, claimed_before t (Claims u) e s (λ v same. let eq : u ≡ v = claims_same same in subst (λ w. (w == t) ≡ false) eq is) held)
          where
            claims_same : {a b : ℕ} → Claims a ≡ Claims b → a ≡ b
            claims_same q = cc
    one x none f held = (f, claimed_before t x e s (λ u same. absurd (cc)) held)
claim_back t c (p ∷ R) k s idle h g = claim_back t c R k s (λ i q f. idle (suc i) q f) h g

-- ---- its deeds
owned_none : (c n : ℕ) (R : Entries) → IdleIn c R → owned c n (deeds_of R) ≡ []
owned_none c n [] idle = refl
owned_none c n ((k, Did x e) ∷ R) idle =
    ap (λ b. owned_one b (n, x) (owned c (count_with n x) (deeds_of R))) (other e c (Does x) (idle zero (k, Did x e) refl)) ∙ owned_none c (count_with n x) R (λ i q f. idle (suc i) q f)
owned_none c n (p ∷ R) idle = owned_none c n R (λ i q f. idle (suc i) q f)

owned_front : (c n : ℕ) (xs : List Happening) (R : Entries) → IdleIn c R → owned c n (xs ++ deeds_of R) ≡ owned c n xs
owned_front c n [] R idle = owned_none c n R idle
owned_front c n (x ∷ xs) R idle = ap (λ l. owned_one (x.1 == c) (n, x.0) l) (owned_front c (count_with n x.0) xs R idle)

-- ---- a client that meets others
module _ (o : Outset) (P : Entries) (good : AllFit o P) (c : ℕ) (seen : Entries) (is : IsSeen P (client_note (count_of o) c) seen) where
  idle : IdleIn c is.rest
  idle = idle_of (count_of o) c is.rest (quiet_rest o P (client_note (count_of o) c) seen good is)

  deeds_are : deeds_of P ≡ deeds_of seen ++ deeds_of is.rest
  deeds_are = ap deeds_of is.all ∙ filter_map-append deed_in seen is.rest

  pub own_deeds : (n : ℕ) → owned c n (deeds_of P) ≡ owned c n (deeds_of seen)
  own_deeds n = ap (owned c n) deeds_are ∙ owned_front c n (deeds_of seen) is.rest idle

  fold_more : {S : Type 0} (f : S → Happening → S) (z : S) → fold f z (deeds_of P) ≡ fold f (fold f z (deeds_of seen)) (deeds_of is.rest)
  fold_more f z = ap (fold f z) deeds_are ∙ fold-append f z (deeds_of seen) (deeds_of is.rest)

  pub no_hold : (r t : ℕ) → (live_by r seen ≡ Some (t, c) → ⊥) → live_by r P ≡ Some (t, c) → ⊥
  no_hold r t none h = none (live_back r t c is.rest (live_by r seen) idle (sym (fold-append (live_step r) None seen is.rest) ∙ (ap (live_by r) (sym is.all) ∙ h)))

  pub no_span : (under_way (deeds_of seen) ≡ Some c → ⊥) → under_way (deeds_of P) ≡ Some c → ⊥
  no_span none h = none (span_back c is.rest (under_way (deeds_of seen)) idle (sym (fold_more span_step None) ∙ h))

  pub not_claimed : (t : ℕ) → (fold (claimer_step t) None (deeds_of seen) ≡ Some c → is_claimed_in (state_by o seen t) ≡ false) → fold (claimer_step t) None (deeds_of P) ≡ Some c → is_claimed_in (state_by o P t) ≡ false
  not_claimed t none h = by_test (is_claimed_in (state_by o P t)) refl
    where
      by_test : (b : Bool) → is_claimed_in (state_by o P t) ≡ b → b ≡ false
      by_test false e = refl
      by_test true e =
          let w = claim_back t c is.rest (fold (claimer_step t) None (deeds_of seen)) (state_by o seen t) idle
          (sym (fold_more (claimer_step t) None) ∙ h) (ap is_claimed_in (sym (fold_more (state_step t) (state_of o.old.system t))) ∙ e) in
          absurd (not_both_ways w.1 (none w.0))

  pub was_open : (t : ℕ) → opener_by t P ≡ Some c → is_open_in (state_by o P t) ≡ true → (opener_by t seen ≡ Some c) × (is_open_in (state_by o seen t) ≡ true)
  was_open t h g =
      open_back o t c is.rest seen (subst (AllFit o) is.all good) idle (ap (opener_by t) (sym is.all) ∙ h) (ap (λ Q. is_open_in (state_by o Q t)) (sym is.all) ∙ g)

-- the world goes on where a note meets others
pub seen_grows : (bases : Bases) (p : Point) (o : Outset) (k : ℕ) (seen new : History) → BeginsAt bases p o → IsSeen new k seen → AllFollow bases p o new → Grows (world_told o seen) (world_told o new)
seen_grows bases p o k seen new begins is all =
    let at = stands_of bases p o new begins all in
    let front = front_stands bases p o seen is.rest new at.0 begins is.all at.1 in
    subst (λ S. Grows (world_told o seen) (world_told o S)) (sym is.all) (way_grows o seen front.0 is.rest at.0 front.2)

pub client_meets : ClientMeets
client_meets bases p o s seen new begins is all told = record {
  stands = subst (λ l. IsSoFar (world_told o new) s.client s.acts s.lines l s.pending s.spot) (sym (own_deeds o (plain new) fit s.client (plain seen) plain_is (length (before o))))
      (world_goes_on (world_told o seen) (world_told o new) s.client s.acts s.lines (deeds_of_client (world_told o seen) s.client) s.pending s.spot grows told.stands);
  holds = λ r t. no_hold o (plain new) fit s.client (plain seen) plain_is r t (told.holds r t);
  spans = no_span o (plain new) fit s.client (plain seen) plain_is told.spans;
  opened = λ t h g. let was = was_open o (plain new) fit s.client (plain seen) plain_is t h g in
      or_more (is_within t s.spot.place) (is_some (core_told o seen).system.stop) (is_some (core_told o new).system.stop) (told.opened t was.0 was.1)
      (stop_stays (core_told o seen).system.stop (core_told o new).system.stop grows.stopped);
  claims = λ t. not_claimed o (plain new) fit s.client (plain seen) plain_is t (told.claims t);
}
  where
    fit : AllFit o (plain new)
    fit = fit_of bases p o new all

    plain_is : IsSeen (plain new) (client_note (count_of o) s.client) (plain seen)
    plain_is = plain_seen new (client_note (count_of o) s.client) seen is

    grows : Grows (world_told o seen) (world_told o new)
    grows = seen_grows bases p o (client_note (count_of o) s.client) seen new begins is all

    or_more : (a b d : Bool) → (a || b) ≡ true → (b ≡ true → d ≡ true) → (a || d) ≡ true
    or_more true b d e f = refl
    or_more false b d e f = f e

    stop_stays : (old now : Option Cause) → ((cause : Cause) → old ≡ Some cause → now ≡ Some cause) → is_some old ≡ true → is_some now ≡ true
    stop_stays None now stays e = absurd (cc)
    stop_stays (Some cause) now stays e = ap is_some (stays cause refl)
