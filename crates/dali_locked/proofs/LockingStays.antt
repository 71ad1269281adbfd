-- What a client knows stays while others go on, and behind an entry of its own that isn't about it.
use Rattle.std.proofs.Common.{◌≡◌, ◌⊎◌, ℕ, zero, suc, ◌+◌, ◌<◌, ◌≤◌, Bool, true, false, List, [], ◌∷◌, ◌++◌, length, Option, Some, None, refl, ap, sym, subst, ◌∙◌, ⊎_elim, arith}
use Rattle.std.specs.Prelude.{slice_get, take, fold, ◌==◌}
use Rattle.std.specs.List.{list_all}
use Rattle.std.proofs.lemmas.Bool.{and_parts}
use Rattle.std.proofs.lemmas.List.{append_assoc}
use Rattle.dali_lists.proofs.Lists.{get_behind}
use Rattle.dali_lists.proofs.Options.{some_same}
use Rattle.dali_lists.proofs.Tests.{not_both_ways}
use Rattle.dali_record.specs.declared.records.Record.TheVariants.{AuditBegin, AuditClean, AuditFail}
use Rattle.dali_att.specs.declared.state.State.TheVariants.{Live}
use Rattle.dali_runs.specs.State.{CoreState, state_of, state_in}
use Rattle.dali_runs.specs.Run.{Bases}
use Rattle.dali_runs.specs.Steps.{audit_record}
use Rattle.dali_runs.specs.Audits.{IsAuditing}
use Rattle.dali_runs.specs.Regions.{is_alive}
use Rattle.dali_runs.proofs.FactsLemmas.OlderRows.{rows_are_older}
use Rattle.dali_crash.specs.Checkpoints.{StoreStep, Does, Starts, Finishes, Point, IsPointCourse}
use Rattle.dali_crash.specs.Traces.{Start, bases_of}
use Rattle.dali_transcripts.specs.World.{Logs, span_step}
use Rattle.dali_calls.specs.Plans.{Planned}
use Rattle.dali_calls.specs.Others.{is_apart}
use Rattle.dali_calls.specs.Stepwise.Beside.{LeavesBe}
use Rattle.dali_calls.proofs.SingleLemmas.Going.{row_there}
use Rattle.dali_calls.proofs.StepwiseLemmas.Waiting.{each_leaves, further, plan_waits, call_waits, rest_waits}
use Rattle.dali_notes.specs.History.{IsSeen}
use Rattle.dali_concurrent.specs.Entries.{Entry, Did, At, client_note, deeds_of, actor_by, actor_step}
use Rattle.dali_concurrent.specs.Rules.{Outset, count_of, log_by, state_by, BeganAudit, AllFit}
use Rattle.dali_concurrent.specs.Told.{Line, History, plain, plain_one, core_told}
use Rattle.dali_concurrent.specs.Landing.{Stands, Landing}
use Rattle.dali_concurrent.specs.Kept.{Follows}
use Rattle.dali_concurrent.specs.Holds.{IsLed}
use Rattle.dali_concurrent.specs.Own.{HasOnly, takes_one}
use Rattle.dali_concurrent.specs.Audits.{NotEnded}
use Rattle.dali_concurrent.proofs.Lists.{take_length, get_of_front, get_sides, get_back_of, each_front}
use Rattle.dali_concurrent.proofs.Told.{plain-append, plain_seen}
use Rattle.dali_concurrent.proofs.Landing.{onward}
use Rattle.dali_concurrent.proofs.Kept.{fit_of, stands_of}
use Rattle.dali_concurrent.proofs.Holds.{actor_stays, states_are_told, runs_there}
use Rattle.dali_concurrent.proofs.Clients.{no_span}
use Rattle.dali_concurrent.proofs.Own.{only_seen, only_stays}
use Rattle.dali_concurrent.proofs.Beside.{others_leave_be}
use Rattle.dali_concurrent.proofs.Auditing.{audit_stays_open, open_until_its_end}
use Rattle.dali_locked.specs.Begun.{Begun, outset, Led, LedFrom}
use Rattle.dali_locked.specs.Sights.{ClientSight, Acts, Knows}
use Rattle.dali_locked.specs.SystemSteps.{Resting, Driving, Auditing, NotChecking, HasJust, Keeps, Stays}
use Rattle.dali_locked.specs.Locking.{HasGrown, StaysIdle, StaysOpen, Advances, KeepsAll}
use Rattle.dali_locked.proofs.SystemTelling.{fold_push, state_push, actor_push, plain_push}

-- ---- while others go on
module _ (bases : Bases) (p : Point) (o : Outset) (c : ℕ) (seen now : History) (led : IsLed bases p o now) (mine : IsSeen now (client_note (count_of o) c) seen) where
  good : AllFit o (plain now)
  good = fit_of bases p o now led.all

  seen_plain : IsSeen (plain now) (client_note (count_of o) c) (plain seen)
  seen_plain = plain_seen now (client_note (count_of o) c) seen mine

  acts_seen : (t : ℕ) → Acts c t o seen → Acts c t o now
  acts_seen t acts =
      let w = actor_stays o t c (plain seen) (plain now) good seen_plain acts.actor (ap is_alive acts.lives) in
      record { actor = w.0; lives = w.1 ∙ acts.lives }

  left_seen : (t : ℕ) → Acts c t o seen → LeavesBe t (log_by o (plain seen)) (core_told o seen) (log_by o (plain now)) (core_told o now)
  left_seen t acts = others_leave_be bases p o t c seen now led mine acts.actor (ap is_alive acts.lives)

  pub resting_seen : (t : ℕ) → Resting c t o seen → Resting c t o now
  resting_seen t w = record { acts = acts_seen t w.acts; may = call_waits _ _ _ _ t (left_seen t w.acts) w.may }

  pub driving_seen : (q : Planned) → Driving c q o seen → Driving c q o now
  driving_seen q w = record {
    acts = acts_seen q.txn w.acts;
    rest = rest_waits _ _ _ _ q (left_seen q.txn w.acts) w.rest;
    at = plan_waits _ _ _ _ q (left_seen q.txn w.acts) w.at;
  }

  pub idle_seen : NotChecking c o seen → NotChecking c o now
  idle_seen = no_span o (plain now) good c (plain seen) seen_plain

  pub only_so : (t k : Option ℕ) → HasJust c t k o seen → HasJust c t k o now
  only_so t k had = only_seen bases p o seen now c t k led mine had

  pub audit_seen : (b : ℕ) → Auditing c b o seen → Auditing c b o now
  audit_seen b w = record {
    began = still.0;
    unended = still.1;
    is_open =
        subst (λ T. IsAuditing (core_told o T).system.sizes (log_by o (plain T)) b) (sym mine.all)
        (audit_stays_open bases p o seen mine.rest b (subst (IsLed bases p o) mine.all led) w.is_open
        (λ i d k found there. still.1 (length (plain seen) + i) d k found (ap (λ P. slice_get P (length (plain seen) + i)) rest ∙ (get_back_of (plain seen) (plain mine.rest) i ∙ there))));
  }
    where
      still : BeganAudit o (plain now) c b × NotEnded (plain now) b
      still = open_until_its_end o (plain seen) (plain now) c b good seen_plain w.began w.unended

      rest : plain now ≡ plain seen ++ plain mine.rest
      rest = ap plain mine.all ∙ plain-append seen mine.rest

-- ---- an audit's end
abbrev pub is_end : Entry → Bool
is_end (Did (Logs (AuditClean b)) c) = true
is_end (Did (Logs (AuditFail b found)) c) = true
is_end e = false

no_end : (e : Entry) → is_end e ≡ false → (a : ℕ) (found : List ℕ) (d : ℕ) → e ≡ Did (Logs (audit_record a found)) d → ⊥
no_end e none a [] d is = not_both_ways (ap is_end is) none
no_end e none a (r ∷ rs) d is = not_both_ways (ap is_end is) none

-- ---- steps that aren't of t
abbrev pub apart_in : ℕ → StoreStep → Bool
apart_in t (Does x) = is_apart t x
apart_in t Starts = true
apart_in t Finishes = true
apart_in t x = false

same_core : (t : ℕ) (q : Point) → LeavesBe t q.log q.core q.log q.core
same_core t q = record { sizes = refl; next = omega arith; row = refl; locks = λ k. refl; rules = refl; free = λ free. free; count = refl }

one_apart : (t : ℕ) (x : StoreStep) (q to : Point) → t < q.core.system.next → apart_in t x ≡ true → IsPointCourse q (x ∷ []) to → LeavesBe t q.log q.core to.log to.core
one_apart t (Does x) q to less apart go =
    subst (λ (m : Point). LeavesBe t q.log q.core m.log m.core) go.2 (each_leaves t q.log go.0.log q.core go.0.core x less apart go.1.1.0)
one_apart t Starts q to less apart go =
    subst (λ (m : Point). LeavesBe t q.log q.core m.log m.core) (sym go.1.1 ∙ go.2)
    (record { sizes = refl; next = omega arith; row = refl; locks = λ k. refl; rules = refl; free = λ free. free; count = refl })
one_apart t Finishes q to less apart go =
    subst (λ (m : Point). LeavesBe t q.log q.core m.log m.core) (sym go.1.1 ∙ go.2)
    (record { sizes = refl; next = omega arith; row = refl; locks = λ k. refl; rules = refl; free = λ free. free; count = refl })
one_apart t x q to less apart go = absurd (cc)

all_apart : (t : ℕ) (xs : List StoreStep) (q to : Point) → t < q.core.system.next → list_all (apart_in t) xs ≡ true → IsPointCourse q xs to → LeavesBe t q.log q.core to.log to.core
all_apart t [] q to less apart go = subst (λ (m : Point). LeavesBe t q.log q.core m.log m.core) go (same_core t q)
all_apart t (x ∷ xs) q to less apart go =
    let two = and_parts (apart_in t x) (list_all (apart_in t) xs) apart in
    let one : LeavesBe t q.log q.core go.0.log go.0.core = one_apart t x q go.0 less two.0 (go.0, go.1, refl) in
    let later : t < go.0.core.system.next = let up = one.next in omega (arith, less, up) in
    let more : LeavesBe t go.0.log go.0.core to.log to.core = all_apart t xs go.0 to later two.1 go.2 in
    further t q.log go.0.log to.log q.core go.0.core to.core one more

-- ---- behind its own entry
module _ (bases : Bases) (p : Point) (o : Outset) (c : ℕ) (now : History) (e : Line) (behind : IsLed bases p o (now ++ e ∷ [])) where
  before : IsLed bases p o now
  before = record { begins = behind.begins; all = each_front (Follows bases p o) now (e ∷ []) behind.all }

  abbrev follows : Follows bases p o now e
  follows = subst (λ S. Follows bases p o S e) (take_length now (e ∷ [])) (behind.all (length now) e (get_behind now e []))

  pub idle_own : ((s : Option ℕ) → fold span_step s (deeds_of (plain_one e ∷ [])) ≡ s) → NotChecking c o now → NotChecking c o (now ++ e ∷ [])
  idle_own still none h = none (sym (still _) ∙ (sym (fold_push o now e span_step None) ∙ h))

  pub only_own : takes_one c e.1.0 ≡ false → (t k : Option ℕ) → HasJust c t k o now → HasJust c t k o (now ++ e ∷ [])
  only_own none t k had = only_stays bases p o now e c t k behind none had

  pub audit_own : (b : ℕ) → ((found : List ℕ) (d : ℕ) → e.1.0 ≡ Did (Logs (audit_record b found)) d → ⊥) → Auditing c b o now → Auditing c b o (now ++ e ∷ [])
  audit_own b other w = record {
    began =
        let g = get_of_front (plain now) (plain_one e ∷ []) w.began.place (w.began.notes, Did (Logs AuditBegin) c) w.began.there in
        record {
          place = w.began.place;
          notes = w.began.notes;
          there = ap (λ P. slice_get P w.began.place) (plain_push o now e) ∙ g.0;
          number = w.began.number ∙ ap (λ P. length (log_by o P)) (sym (ap (take w.began.place) (plain_push o now e) ∙ g.1));
        };
    unended = λ i d k found there.
        ⊎_elim (λ old. w.unended i d k found old) (λ new. none new.0 d k found new.1)
        (get_sides (plain now) (plain_one e ∷ []) i (k, Did (Logs (audit_record b found)) d) (ap (λ P. slice_get P i) (sym (plain_push o now e)) ∙ there));
    is_open = audit_stays_open bases p o now (e ∷ []) b behind w.is_open none;
  }
    where
      none : NotEnded (plain_one e ∷ []) b
      none zero d k found there = other found d (ap (λ (x : List ℕ × Entry). x.1) (some_same there))
      none (suc i) d k found there = absurd (cc)

  module _ (t : ℕ) (apart : list_all (apart_in t) e.1.2 ≡ true) (same : actor_step t (actor_by t (plain now)) (plain_one e) ≡ actor_by t (plain now)) where
    abbrev at : (q : Point) × Stands bases p o now q
    at = stands_of bases p o now before.begins before.all

    abbrev to : Point
    to = (follows.lands at.0 at.1).0

    abbrev landing : Landing o now e at.0 to
    landing = (follows.lands at.0 at.1).1

    then_stands : Stands bases p o (now ++ e ∷ []) to
    then_stands = onward bases p o now e at.0 to at.1 landing

    left : state_of (core_told o now).system t ≡ Some Live → LeavesBe t (log_by o (plain now)) (core_told o now) (log_by o (plain (now ++ e ∷ []))) (core_told o (now ++ e ∷ []))
    left lives =
        let less : t < at.0.core.system.next =
        subst (λ (k : CoreState). t < k.system.next) (sym at.1.comes.core)
        (rows_are_older bases (log_by o (plain now)) (core_told o now) (runs_there bases p o now before) t (row_there (core_told o now).system t Live lives)) in
        let be : LeavesBe t at.0.log at.0.core to.log to.core = all_apart t e.1.2 at.0 to less apart landing.course in
        subst (λ C. LeavesBe t (log_by o (plain now)) (core_told o now) (log_by o (plain (now ++ e ∷ []))) C) landing.core
        (subst (λ L. LeavesBe t (log_by o (plain now)) (core_told o now) L to.core) then_stands.comes.log
        (subst (λ C. LeavesBe t (log_by o (plain now)) C to.log to.core) at.1.comes.core (subst (λ L. LeavesBe t L at.0.core to.log to.core) at.1.comes.log be)))

    lives_here : Acts c t o now → state_of (core_told o now).system t ≡ Some Live
    lives_here acts = states_are_told bases p o now t before ∙ acts.lives

    acts_own : Acts c t o now → Acts c t o (now ++ e ∷ [])
    acts_own acts = record {
      actor = actor_push o now e t ∙ (same ∙ acts.actor);
      lives = sym (states_are_told bases p o (now ++ e ∷ []) t behind) ∙ (ap state_in (left (lives_here acts)).row ∙ lives_here acts);
    }

    pub resting_own : Resting c t o now → Resting c t o (now ++ e ∷ [])
    resting_own r = record { acts = acts_own r.acts; may = call_waits _ _ _ _ t (left (lives_here r.acts)) r.may }

    pub driving_own : (g : Planned) → g.txn ≡ t → Driving c g o now → Driving c g o (now ++ e ∷ [])
    driving_own g own r =
        let acts : Acts c t o now = subst (λ u. Acts c u o now) own r.acts in
        let be : LeavesBe g.txn (log_by o (plain now)) (core_told o now) (log_by o (plain (now ++ e ∷ []))) (core_told o (now ++ e ∷ [])) =
        subst (λ u. LeavesBe u (log_by o (plain now)) (core_told o now) (log_by o (plain (now ++ e ∷ []))) (core_told o (now ++ e ∷ []))) (sym own) (left (lives_here acts)) in
        record {
          acts = subst (λ u. Acts c u o (now ++ e ∷ [])) (sym own) (acts_own acts);
          rest = rest_waits _ _ _ _ g be r.rest;
          at = plan_waits _ _ _ _ g be r.at;
        }

-- ---- of a client, wherever the round began
module _ (b : Begun) (x : ClientSight) where
  mine_at : (s : Start) (p : Point) → b.each s p → (now : History) → LedFrom b s p now → IsSeen now (client_note b.count x.id) x.seen → IsSeen now (client_note (count_of (outset b s p)) x.id) x.seen
  mine_at s p from now is mine = subst (λ m. IsSeen now (client_note m x.id) x.seen) (sym is.count) mine

  -- its note has met others
  module _ (z : ClientSight) (id : z.id ≡ x.id) (led : Led b z.seen) (mine : IsSeen z.seen (client_note b.count x.id) x.seen) where
    met_so : (P : Outset → History → Type 0)
        → ((s : Start) (p : Point) (o : Outset) → IsLed (bases_of s) p o z.seen → IsSeen z.seen (client_note (count_of o) x.id) x.seen → P o x.seen → P o z.seen) → Knows b P x → Knows b P z
    met_so P each had s p from = each s p (outset b s p) (led s p from).led (mine_at s p from z.seen (led s p from) mine) (had s p from)

    pub met_keeps : KeepsAll b x z
    met_keeps = (
      (
        record { id = id; seen = (mine.rest, mine.all) },
        met_so (NotChecking x.id) (λ s p o is saw. idle_seen (bases_of s) p o x.id x.seen z.seen is saw),
        (λ a. met_so (Auditing x.id a) (λ s p o is saw. audit_seen (bases_of s) p o x.id x.seen z.seen is saw a)),
      ),
      (λ t k. met_so (HasJust x.id t k) (λ s p o is saw. only_so (bases_of s) p o x.id x.seen z.seen is saw t k)),
      (λ t. (
        met_so (Resting x.id t) (λ s p o is saw. resting_seen (bases_of s) p o x.id x.seen z.seen is saw t),
        (λ q own. met_so (Driving x.id q) (λ s p o is saw. driving_seen (bases_of s) p o x.id x.seen z.seen is saw q)),
      )),
    )

  -- it told a line, with others
  module _ (z : ClientSight) (id : z.id ≡ x.id) (led : Led b z.seen) (now : History) (mine : IsSeen now (client_note b.count x.id) x.seen) (e : Line) (is : z.seen ≡ now ++ e ∷ []) where
    led_own : (s : Start) (p : Point) → b.each s p → IsLed (bases_of s) p (outset b s p) (now ++ e ∷ [])
    led_own s p from = subst (IsLed (bases_of s) p (outset b s p)) is (led s p from).led

    led_then : (s : Start) (p : Point) → b.each s p → LedFrom b s p now
    led_then s p from = record { led = before (bases_of s) p (outset b s p) x.id now e (led_own s p from); count = (led s p from).count }

    own_so : (P : Outset → History → Type 0)
        → ((s : Start) (p : Point) (o : Outset) → IsLed (bases_of s) p o now → IsLed (bases_of s) p o (now ++ e ∷ []) → IsSeen now (client_note (count_of o) x.id) x.seen → P o x.seen → P o (now ++ e ∷ []))
        → Knows b P x → Knows b P z
    own_so P each had s p from =
        subst (P (outset b s p)) (sym is)
        (each s p (outset b s p) (led_then s p from).led (led_own s p from) (mine_at s p from now (led_then s p from) mine) (had s p from))

    pub own_grows : HasGrown x z
    own_grows = record { id = id; seen = (mine.rest ++ e ∷ [], is ∙ (ap (λ T. T ++ e ∷ []) mine.all ∙ append_assoc x.seen mine.rest (e ∷ []))) }

    pub own_idle : ((s : Option ℕ) → fold span_step s (deeds_of (plain_one e ∷ [])) ≡ s) → StaysIdle b x z
    own_idle still = own_so (NotChecking x.id) (λ s p o is behind saw h. idle_own (bases_of s) p o x.id now e behind still (idle_seen (bases_of s) p o x.id x.seen now is saw h))

    pub own_open : is_end e.1.0 ≡ false → StaysOpen b x z
    own_open none a = own_so (Auditing x.id a) (λ s p o is behind saw h.
        audit_own (bases_of s) p o x.id now e behind a (no_end e.1.0 none a) (audit_seen (bases_of s) p o x.id x.seen now is saw a h))

    pub own_keeps : takes_one x.id e.1.0 ≡ false → Keeps b x z
    own_keeps none t k = own_so (HasJust x.id t k) (λ s p o is behind saw h. only_own (bases_of s) p o x.id now e behind none t k (only_so (bases_of s) p o x.id x.seen now is saw t k h))

    pub own_stays : (t : ℕ) → list_all (apart_in t) e.1.2 ≡ true → ((a : Option ℕ) → actor_step t a (plain_one e) ≡ a) → Stays b x t z
    own_stays t apart same = (
      own_so (Resting x.id t) (λ s p o is behind saw h. resting_own (bases_of s) p o x.id now e behind t apart (same _) (resting_seen (bases_of s) p o x.id x.seen now is saw t h)),
      (λ q txn. own_so (Driving x.id q) (λ s p o is behind saw h. driving_own (bases_of s) p o x.id now e behind t apart (same _) q txn (driving_seen (bases_of s) p o x.id x.seen now is saw q h))),
    )

    pub own_advances : ((s : Option ℕ) → fold span_step s (deeds_of (plain_one e ∷ [])) ≡ s) → is_end e.1.0 ≡ false → Advances b x z
    own_advances still none = (own_grows, own_idle still, own_open none)
