-- An audit is open until its client ends it.
use Rattle.std.proofs.Common.{◌≡◌, ℕ, zero, suc, ◌+◌, ◌<◌, ◌≤◌, Bool, true, false, not, List, [], ◌∷◌, ◌++◌, length, Option, Some, None, refl, ap, sym, subst, ◌∙◌, ◌⊎◌, inl, inr, arith, length-append}
use Rattle.std.specs.Prelude.{slice_get, take, ◌==◌, if◌then◌else◌, IsSome}
use Rattle.std.specs.List.{list_all}
use Rattle.std.proofs.lemmas.List.{append-nil, append_assoc, append_cancel_left, map-append}
use Rattle.std.proofs.lemmas.List.Elements.{filter_map-append}
use Rattle.std.proofs.lemmas.Bool.{eqb-true, and_parts}
use Rattle.dali_lists.proofs.Lists.{get_behind}
use Rattle.dali_lists.proofs.Numbers.{eqb-self}
use Rattle.dali_runs.proofs.CountsLemmas.Lists.{some_same}
use Rattle.dali_runs.proofs.CountsLemmas.Tallies.{tallies}
use Rattle.dali_record.specs.declared.records.Record.{Record}
use Rattle.dali_record.specs.declared.records.Record.TheVariants.{AuditBegin, AuditClean, AuditFail, Format, Restarted}
use Rattle.dali_record.specs.Damage.{has}
use Rattle.dali_record.specs.Legal.{rules_state}
use Rattle.dali_runs.specs.State.{SystemState, CoreState}
use Rattle.dali_runs.specs.Run.{Bases, RunsOn}
use Rattle.dali_runs.specs.Steps.{audit_record}
use Rattle.dali_runs.specs.Audits.{IsAuditing, ends_audit}
use Rattle.dali_runs.proofs.OpenAudits.{audit_starts, audit_goes_on}
use Rattle.dali_crash.specs.Checkpoints.{Point}
use Rattle.dali_transcripts.specs.World.{Logs, logged_by, record_of}
use Rattle.dali_concurrent.specs.Entries.{Does, Entry, Did, Passed, Entries, At, client_note, deed_in, deeds_of, done_in}
use Rattle.dali_concurrent.specs.Rules.{Outset, before, count_of, log_by, BeganAudit}
use Rattle.dali_concurrent.specs.Told.{Line, History, plain, plain_one, core_told, effect_on}
use Rattle.dali_concurrent.specs.Landing.{BeginsAt, Landing, Way, Stands}
use Rattle.dali_concurrent.specs.Audits.{AuditOpens, NotEnded, AuditStaysOpen, OpenUntilPassed, OpenUntilItsEnd}
use Rattle.dali_concurrent.proofs.Lists.{take_length, get_taken, get_of_front, get_sides}
use Rattle.dali_concurrent.proofs.Entries.{IdleIn, idle_of}
use Rattle.dali_concurrent.proofs.Fitting.{quiet_rest}
use Rattle.dali_concurrent.proofs.Told.{told_push}
use Rattle.dali_concurrent.proofs.Landing.{onward, front_stands, told_is_whole}
use Rattle.dali_concurrent.proofs.Kept.{stands_of}
use Rattle.dali_concurrent.proofs.Passed.{is_of_round, course_logs, log_split}

-- ---- one line more
logged_more : (o : Outset) (S : History) (e : Line) → log_by o (plain (S ++ e ∷ [])) ≡ log_by o (plain S) ++ logged_by (deeds_of (plain_one e ∷ []))
logged_more o S e =
    ap (λ P. before o ++ logged_by (deeds_of P)) (map-append plain_one S (e ∷ []))
    ∙ (ap (λ l. before o ++ logged_by l) (filter_map-append deed_in (plain S) (plain_one e ∷ []))
    ∙ (ap (λ l. before o ++ l) (filter_map-append record_of (deeds_of (plain S)) (deeds_of (plain_one e ∷ [])))
    ∙ sym (append_assoc (before o) (logged_by (deeds_of (plain S))) (logged_by (deeds_of (plain_one e ∷ []))))))

-- ---- its begin
pub audit_opens : AuditOpens
audit_opens bases p o T ks c y e led is runs room e_is = (
  record {
    place = length (plain T);
    notes = ks;
    there = ap (λ P. slice_get P (length (plain T))) (map-append plain_one T (e ∷ [])) ∙ (get_behind (plain T) (plain_one e) [] ∙ ap (λ (l : Line). Some (plain_one l)) e_is);
    number = number ∙ ap (λ P. length (log_by o P)) (sym (ap (take (length (plain T))) (map-append plain_one T (e ∷ [])) ∙ take_length (plain T) (plain_one e ∷ [])));
  },
  subst (λ s. IsAuditing s (log_by o (plain (T ++ e ∷ []))) y.records) (sym sizes)
      (subst (λ L. IsAuditing y.sizes L y.records) (sym (logged_more o T e ∙ ap (λ (l : Line). log_by o (plain T) ++ logged_by (deeds_of (plain_one l ∷ []))) e_is))
      (subst (λ (z : SystemState). IsAuditing z.sizes (log_by o (plain T) ++ AuditBegin ∷ []) z.records) (sym is)
      (audit_starts bases (log_by o (plain T)) (core_told o T) run
      (ap (λ (z : SystemState). z.stop) (sym is) ∙ runs)
      (subst (λ (z : SystemState). z.end + 1 ≤ z.limit + 1048576) is room)))),
)
  where
    at : (q : Point) × Stands bases p o T q
    at = stands_of bases p o T led.begins led.all

    run : RunsOn bases (log_by o (plain T)) (core_told o T)
    run = (told_is_whole bases p o T at.0 led.begins at.1).1

    number : y.records ≡ length (log_by o (plain T))
    number = ap (λ (z : SystemState). z.records) is ∙ (run.counts.records ∙ (tallies (core_told o T).system.sizes (log_by o (plain T)) run.counts.now run.counts.rules).0)

    sizes : (core_told o (T ++ e ∷ [])).system.sizes ≡ y.sizes
    sizes = ap (λ (k : CoreState). k.system.sizes) (told_push o T e) ∙ ap (λ (l : Line). (effect_on (core_told o T) l.1.1).system.sizes) e_is

-- ---- the records of others
ends_none : (b : ℕ) (x : Record) → is_of_round x ≡ true → ((found : List ℕ) → x ≡ audit_record b found → ⊥) → ends_audit b x ≡ false
ends_none b (AuditClean a) of none = by_test (a == b) refl
  where
    by_test : (t : Bool) → (a == b) ≡ t → t ≡ false
    by_test false e = refl
    by_test true e = absurd (none [] (ap AuditClean (eqb-true a b e)))
ends_none b (AuditFail a []) of none = absurd (cc)
ends_none b (AuditFail a (r ∷ rs)) of none = by_test (a == b) refl
  where
    by_test : (t : Bool) → (a == b) ≡ t → t ≡ false
    by_test false e = refl
    by_test true e = absurd (none (r ∷ rs) (ap (λ n. AuditFail n (r ∷ rs)) (eqb-true a b e)))
ends_none b (Format i h) of none = absurd (cc)
ends_none b (Restarted rs ds) of none = absurd (cc)
ends_none b x of none = refl

module _ (bases : Bases) (p : Point) (o : Outset) (b : ℕ) where
  abbrev Open : History → Type 0
  Open S = IsAuditing (core_told o S).system.sizes (log_by o (plain S)) b

  -- behind the records of a line
  more_records : (S : History) (e : Line) (m to : Point) → BeginsAt bases p o → Stands bases p o S m → Landing o S e m to → (Ms : List Record) → logged_by (deeds_of (plain_one e ∷ [])) ≡ Ms
      → ((x : Record) → Ms ≡ x ∷ [] → (found : List ℕ) → x ≡ audit_record b found → ⊥) → (Ms ≡ []) ⊎ ((x : Record) × (Ms ≡ x ∷ [])) → Open S → Open (S ++ e ∷ [])
  more_records S e m to begins at land Ms are none few open_there = by_few few
    where
      next : Stands bases p o (S ++ e ∷ []) to
      next = onward bases p o S e m to at land

      sizes : (core_told o (S ++ e ∷ [])).system.sizes ≡ (core_told o S).system.sizes
      sizes = next.tells.grew.sizes ∙ sym at.tells.grew.sizes

      log : log_by o (plain (S ++ e ∷ [])) ≡ log_by o (plain S) ++ Ms
      log = logged_more o S e ∙ ap (λ l. log_by o (plain S) ++ l) are

      here : IsAuditing (core_told o S).system.sizes (log_by o (plain S) ++ Ms) b → Open (S ++ e ∷ [])
      here is = subst (λ s. IsAuditing s (log_by o (plain (S ++ e ∷ []))) b) (sym sizes) (subst (λ L. IsAuditing (core_told o S).system.sizes L b) (sym log) is)

      some_rules : IsSome (rules_state (core_told o S).system.sizes (log_by o (plain S) ++ Ms))
      some_rules =
          let run = (told_is_whole bases p o (S ++ e ∷ []) to begins next).1 in
          subst (λ L. IsSome (rules_state (core_told o S).system.sizes L)) log
          (subst (λ s. IsSome (rules_state s (log_by o (plain (S ++ e ∷ []))))) sizes (subst IsSome (sym run.counts.rules) refl))

      by_few : (Ms ≡ []) ⊎ ((x : Record) × (Ms ≡ x ∷ [])) → Open (S ++ e ∷ [])
      by_few (inl e_is) = here (subst (λ L. IsAuditing (core_told o S).system.sizes L b) (sym (ap (λ l. log_by o (plain S) ++ l) e_is ∙ append-nil (log_by o (plain S)))) open_there)
      by_few (inr (x, e_is)) =
          let logs = course_logs m to e.1.2 land.course in
          let same : Ms ≡ logs.0 = append_cancel_left (log_by o (plain S)) Ms logs.0 (sym log ∙ (sym next.comes.log ∙ (logs.1 ∙ ap (λ l. l ++ logs.0) at.comes.log))) in
          let all : list_all is_of_round (x ∷ []) ≡ true = ap (list_all is_of_round) (sym e_is ∙ same) ∙ logs.2 in
          here (subst (λ l. IsAuditing (core_told o S).system.sizes (log_by o (plain S) ++ l) b) (sym e_is)
          (audit_goes_on (core_told o S).system.sizes (log_by o (plain S)) x b open_there
          (subst (λ l. IsSome (rules_state (core_told o S).system.sizes (log_by o (plain S) ++ l))) e_is some_rules)
          (ends_none b x (and_parts (is_of_round x) true all).0 (none x e_is))))

  -- a line logs one record, or none
  one_logged : (k : List ℕ) (e : Entry) (Ms : List Record) → logged_by (deeds_of ((k, e) ∷ [])) ≡ Ms → (Ms ≡ []) ⊎ ((x : Record) × (c : ℕ) × (Ms ≡ x ∷ []) × (e ≡ Did (Logs x) c))
  one_logged k (Did (Logs x) c) Ms is = inr (x, c, sym is, refl)
  one_logged k (Did x c) Ms is = inl (sym is)
  one_logged k e Ms is = inl (sym is)

  open_line : (S : History) (e : Line) (m to : Point) → BeginsAt bases p o → Stands bases p o S m → Landing o S e m to
      → ((c : ℕ) (found : List ℕ) → e.1.0 ≡ Did (Logs (audit_record b found)) c → ⊥) → Open S → Open (S ++ e ∷ [])
  open_line S e m to begins at land none open_there = by_kind (one_logged e.0 e.1.0 (logged_by (deeds_of (plain_one e ∷ []))) refl)
    where
      by_kind : (logged_by (deeds_of (plain_one e ∷ [])) ≡ []) ⊎ ((x : Record) × (c : ℕ) × (logged_by (deeds_of (plain_one e ∷ [])) ≡ x ∷ []) × (e.1.0 ≡ Did (Logs x) c)) → Open (S ++ e ∷ [])
      by_kind (inl is) = more_records S e m to begins at land [] is (λ x f found same. absurd (cc)) (inl refl) open_there
      by_kind (inr (x, c, is, entry)) =
          more_records S e m to begins at land (x ∷ []) is
          (λ y f found same. none c found (entry ∙ ap (λ z. Did (Logs z) c) (first_same f ∙ same))) (inr (x, refl)) open_there
        where
          first_same : {a d : Record} → a ∷ [] ≡ d ∷ [] → a ≡ d
          first_same g = cc

  open_on : (R S : History) (m q : Point) → BeginsAt bases p o → Stands bases p o S m → Way o S m R q → NotEnded (plain R) b → Open S → Open (S ++ R)
  open_on [] S m q begins at way none open_there = subst Open (sym (append-nil S)) open_there
  open_on (e ∷ R) S m q begins at way none open_there =
      subst Open (append_assoc S (e ∷ []) R)
      (open_on R (S ++ e ∷ []) way.0 q begins (onward bases p o S e m way.0 at way.1) way.2 (λ i c k found h. none (suc i) c k found h)
      (open_line S e m way.0 begins at way.1 (λ c found is. none zero c e.0 found (ap (λ z. Some (e.0, z)) is)) open_there))

pub audit_stays_open : AuditStaysOpen
audit_stays_open bases p o S R b led is none =
    let at = stands_of bases p o (S ++ R) led.begins led.all in
    let front = front_stands bases p o S R (S ++ R) at.0 led.begins refl at.1 in
    open_on bases p o b R S front.0 at.0 led.begins front.1 front.2 none is

-- ---- who ends it
pub open_until_passed : OpenUntilPassed
open_until_passed o P b r good low none i c k found at =
    let line = ((good i (k, Did (Logs (audit_record b found)) c) at).fits.audited b found refl).passed r low in
    let there = get_taken i P line.0 (line.1, Passed r b (not (has found r))) line.2 in
    none line.0 line.1 (not (has found r)) there.0

-- in front of a place
in_front : {X : Type 0} (n : ℕ) (xs : List X) (i : ℕ) (x : X) → i < n → slice_get xs i ≡ Some x → (slice_get (take n xs) i ≡ Some x) × (take i (take n xs) ≡ take i xs)
in_front zero xs i x low e = absurd (omega (arith, low))
in_front (suc n) [] i x low e = absurd (cc)
in_front (suc n) (y ∷ xs) zero x low e = (e, refl)
in_front (suc n) (y ∷ xs) (suc i) x low e = let w = in_front n xs i x (omega (arith, low)) e in (w.0, ap (λ l. y ∷ l) w.1)

not_before : (o : Outset) (P : Entries) (c d b : ℕ) (f : BeganAudit o P c b) (g : BeganAudit o P d b) → f.place < g.place → ⊥
not_before o P c d b f g less =
    let w = in_front g.place P f.place (f.notes, Did (Logs AuditBegin) c) less f.there in
    let s = log_split o (take g.place P) f.place (f.notes, Did (Logs AuditBegin) c) w.0 in
    let l = length-append (log_by o (take f.place (take g.place P))) (AuditBegin ∷ s.0) in
    omega (arith, f.number, g.number, ap length s.1, l, ap (λ Q. length (log_by o Q)) w.1)

abbrev client_in : List ℕ × Entry → ℕ
client_in (k, Did x c) = c
client_in p = 0

same_client : (o : Outset) (P : Entries) (c d b : ℕ) → BeganAudit o P c b → BeganAudit o P d b → c ≡ d
same_client o P c d b f g = by_order (compared f.place g.place)
  where
    compared : (m n : ℕ) → (m < n) ⊎ ((n < m) ⊎ (m ≡ n))
    compared zero zero = inr (inr refl)
    compared zero (suc n) = inl (omega arith)
    compared (suc m) zero = inr (inl (omega arith))
    compared (suc m) (suc n) = up (compared m n)
      where
        up : (m < n) ⊎ ((n < m) ⊎ (m ≡ n)) → (suc m < suc n) ⊎ ((suc n < suc m) ⊎ (suc m ≡ suc n))
        up (inl h) = inl (omega (arith, h))
        up (inr (inl h)) = inr (inl (omega (arith, h)))
        up (inr (inr h)) = inr (inr (ap suc h))

    who : (j k : List ℕ) → ◌≡◌ {A = Option (List ℕ × Entry)} (Some (j, Did (Logs AuditBegin) c)) (Some (k, Did (Logs AuditBegin) d)) → c ≡ d
    who j k e = ap client_in (some_same e)

    by_order : (f.place < g.place) ⊎ ((g.place < f.place) ⊎ (f.place ≡ g.place)) → c ≡ d
    by_order (inl h) = absurd (not_before o P c d b f g h)
    by_order (inr (inl h)) = absurd (not_before o P d c b g f h)
    by_order (inr (inr h)) = who f.notes g.notes (sym f.there ∙ (ap (slice_get P) h ∙ g.there))

pub open_until_its_end : OpenUntilItsEnd
open_until_its_end o seen new c b good is began none = (now, not_ended)
  where
    now : BeganAudit o new c b
    now =
        let w = get_of_front seen is.rest began.place (began.notes, Did (Logs AuditBegin) c) began.there in
        record {
          place = began.place;
          notes = began.notes;
          there = ap (λ P. slice_get P began.place) is.all ∙ w.0;
          number = began.number ∙ ap (λ P. length (log_by o P)) (sym (ap (take began.place) is.all ∙ w.1));
        }

    idle : IdleIn c is.rest
    idle = idle_of (count_of o) c is.rest (quiet_rest o new (client_note (count_of o) c) seen good is)

    not_ended : NotEnded new b
    not_ended i d k found at = by_side (get_sides seen is.rest i (k, Did (Logs (audit_record b found)) d) (ap (λ P. slice_get P i) (sym is.all) ∙ at))
      where
        ended : BeganAudit o (take i new) d b
        ended = ((good i (k, Did (Logs (audit_record b found)) d) at).fits.audited b found refl).began

        theirs : BeganAudit o new d b
        theirs =
            let w = get_taken i new ended.place (ended.notes, Did (Logs AuditBegin) d) ended.there in
            record {
              place = ended.place;
              notes = ended.notes;
              there = w.0;
              number = ended.number ∙ ap (λ P. length (log_by o P)) w.1;
            }

        by_side : (At seen i (k, Did (Logs (audit_record b found)) d)) ⊎ ((j : ℕ) × At is.rest j (k, Did (Logs (audit_record b found)) d) × (i ≡ length seen + j)) → ⊥
        by_side (inl h) = none i d k found h
        by_side (inr (j, h, place)) = done (audit_record b found) (subst (λ n. done_in n (k, Did (Logs (audit_record b found)) d) ≡ None) (same_client o new c d b now theirs) (idle j (k, Did (Logs (audit_record b found)) d) h))
          where
            done : (x : Record) → done_in d (k, Did (Logs x) d) ≡ None → ⊥
            done x e = let f : Some (Does (Logs x)) ≡ None = ap (λ t. if t then Some (Does (Logs x)) else None) (sym (eqb-self d)) ∙ e in absurd (cc)
