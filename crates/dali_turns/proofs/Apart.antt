-- What a step of another client leaves of one that is in an audit or makes a checkpoint.
use Rattle.std.proofs.Common.{◌≡◌, ℕ, ◌<◌, Bool, true, false, List, [], ◌∷◌, ◌++◌, length, fold, Option, Some, None, refl, ap, sym, subst, ◌∙◌, arith}
use Rattle.std.specs.Prelude.{Contains, slice_get}
use Rattle.std.proofs.lemmas.List.{append_assoc}
use Rattle.std.proofs.lemmas.List.Elements.{Contains-append_right, filter_map-append}
use Rattle.std.proofs.lemmas.List.Sums.{fold-append}
use Rattle.std.proofs.lemmas.Option.{slice_get_within}
use Rattle.dali_lists.proofs.Lists.{get_front}
use Rattle.dali_runs.proofs.CountsLemmas.Lists.{some_same}
use Rattle.dali_geometry.specs.Places.{regions}
use Rattle.dali_record.specs.declared.records.Record.{Record}
use Rattle.dali_record.specs.declared.records.Record.TheVariants.{AuditBegin}
use Rattle.dali_region.specs.State.{RegionState}
use Rattle.dali_store.specs.Store.{Files as Disk}
use Rattle.dali_store.specs.declared.store.Store.{Ghosts}
use Rattle.dali_runs.specs.State.{SystemState, CoreState}
use Rattle.dali_crash.specs.Checkpoints.{Point}
use Rattle.dali_crash.specs.Traces.{Start}
use Rattle.dali_core.specs.Vault.Vaulted.{Vaulted}
use Rattle.dali_audit.specs.Findings.{Audited}
use Rattle.dali_checkpoint.specs.Kept.{Checkpointed}
use Rattle.dali_transcripts.specs.Words.{Act}
use Rattle.dali_transcripts.specs.World.{Deed, Logs, StartsCheckpoint, EndsCheckpoint, Happening, World, record_of, logged_by, log_of, IsLogged, span_step, under_way}
use Rattle.dali_transcripts.specs.Moves.{Receipt}
use Rattle.dali_transcripts.specs.Transcripts.{own_by, deeds_of}
use Rattle.dali_transcripts.specs.Rounds.{Standing, Stands, by, AreSpans}
use Rattle.dali_transcripts.proofs.Owned.{owned_by_one}
use Rattle.dali_transcripts.specs.Telling.Tells.{Goes}
use Rattle.dali_turns.specs.declared.client.State.{State}
use Rattle.dali_turns.specs.declared.client.State.TheVariants.{Auditing, Copying, Certifying}
use Rattle.dali_turns.specs.Stood.{Stood}
use Rattle.dali_turns.specs.Audits.{IsPassing, FitsAuditing}
use Rattle.dali_turns.specs.Checkpoints.{IsMaking, FitsCopying, FitsCertifying}
use Rattle.dali_turns.specs.Fits.{Audits, Makes, Fits}
use Rattle.dali_turns.specs.Others.{ImageStays, LeavesOthers}
use Rattle.dali_turns.proofs.Passing.{still_passing}

-- ---- one checkpoint at a time
spans_behind : (o : Option ℕ) (xs ys : List Happening) → AreSpans o (xs ++ ys) → AreSpans (fold span_step o xs) ys
spans_behind o [] ys h = h
spans_behind o ((StartsCheckpoint, c) ∷ xs) ys h = spans_behind (Some c) xs ys h.1
spans_behind o ((EndsCheckpoint, c) ∷ xs) ys h = spans_behind None xs ys h.1
spans_behind o (_ ∷ xs) ys h = spans_behind o xs ys h

-- deeds of another client don't end it
spans_stay : (c d : ℕ) (ds : List Deed) → (c ≡ d → ⊥) → AreSpans (Some c) (by d ds) → fold span_step (Some c) (by d ds) ≡ Some c
spans_stay c d [] other h = refl
spans_stay c d (StartsCheckpoint ∷ ds) other h = let no : Some c ≡ None = h.0 in absurd (cc)
spans_stay c d (EndsCheckpoint ∷ ds) other h = absurd (other (some_same h.0))
spans_stay c d (_ ∷ ds) other h = spans_stay c d ds other h

-- ---- the log goes on

pub log_more : (w : World) (more : List Happening) → w.before ++ logged_by (w.happened ++ more) ≡ log_of w ++ logged_by more
log_more w more = ap (λ l. w.before ++ l) (filter_map-append record_of w.happened more) ∙ sym (append_assoc w.before (logged_by w.happened) (logged_by more))

-- ---- one owner of a begin
pending_there : (w : World) (a : Standing) (own : List Receipt) (x : Receipt) → a.pending ≡ own → Contains own x → Stands w a → Contains (deeds_of w a.client) x
pending_there w a own x is there so = subst (λ l. Contains l x) (sym so.did_are) (Contains-append_right (own_by so.moves) a.pending x (subst (λ l. Contains l x) (sym is) there))

module _ {V : Type 0} (means : Ghosts V)
    (s : Start) (B C : List (List Record)) (p q : Point) (w x : World) (gs hs : List RegionState) (y z : SystemState) (v u : Vaulted V) (precheck : Bool) (a b : Standing) (ds : List Deed) (yours : State)
    (stood : Stood means s B p w precheck gs y v) (late : Stood means s C q x precheck hs z u)
    (other : a.client ≡ b.client → ⊥) (stands : Stands w a) (theirs : Stands w b) (fits : Fits means s B p w gs y v b (b.spot.rest) yours)
    (goes : Goes w b.client p ds x q) (leaves : LeavesOthers means yours s B p gs y v C q hs z u) where
  -- ---- an audit
  begins_apart : (n : ℕ) → Contains (deeds_of w a.client) (n, Logs AuditBegin) → Contains (deeds_of w b.client) (n, Logs AuditBegin) → ⊥
  begins_apart n mine yours = other (owned_by_one a.client b.client (length w.before) w.happened n AuditBegin AuditBegin mine yours)

  not_theirs : (n : ℕ) → Contains (deeds_of w a.client) (n, Logs AuditBegin) → Audits yours n → ⊥
  not_theirs n mine = by_state yours fits
    where
      at_begin : (m : ℕ) → Contains (deeds_of w b.client) (m, Logs AuditBegin) → m ≡ n → ⊥
      at_begin m there same = begins_apart n mine (subst (λ i. Contains (deeds_of w b.client) (i, Logs AuditBegin)) same there)

      by_state : (st : State) → Fits means s B p w gs y v b (b.spot.rest) st → Audits st n → ⊥
      by_state (Auditing audit next) k same = at_begin audit.begin (pending_there w b ((audit.begin, Logs AuditBegin) ∷ []) (audit.begin, Logs AuditBegin) k.pending (0, omega arith, refl) theirs) same
      by_state (Certifying c audit next) k same = at_begin audit.begin (pending_there w b ((k.making.since, StartsCheckpoint) ∷ (audit.begin, Logs AuditBegin) ∷ []) (audit.begin, Logs AuditBegin) k.making.pending (1, omega arith, refl) theirs) same
      by_state state k none = none

  logged_on : (n : ℕ) → IsLogged w n AuditBegin → IsLogged x n AuditBegin
  logged_on n at = subst (λ (l : World). IsLogged l n AuditBegin) (sym goes.is) (subst (λ l. slice_get l n ≡ Some AuditBegin) (sym (log_more w (by b.client ds))) (get_front (log_of w) (logged_by (by b.client ds)) n AuditBegin at))

  before_same : x.before ≡ w.before
  before_same = ap (λ (l : World). l.before) goes.is

  sizes_same : q.core.system.sizes ≡ p.core.system.sizes
  sizes_same = ap (λ (m : CoreState). m.system.sizes) (sym late.tells.core) ∙ (goes.grows.sizes ∙ ap (λ (m : CoreState). m.system.sizes) stood.tells.core)

  passing_still : (audit : Audited) (next : ℕ) → Contains (deeds_of w a.client) (audit.begin, Logs AuditBegin) → IsPassing p w audit next → IsPassing q x audit next
  passing_still audit next mine is =
      still_passing p q w x audit next (leaves.audits audit.begin (subst (λ (l : List Record). audit.begin < length l) (sym stood.tells.log) (slice_get_within (log_of w) audit.begin AuditBegin is.began.began)) (not_theirs audit.begin mine))
      sizes_same before_same logged_on is

  pub auditing_waits : (rest : List Act) (audit : Audited) (next : ℕ) → FitsAuditing p w a rest audit next → FitsAuditing q x a rest audit next
  auditing_waits rest audit next k = record {
    more = k.more;
    audits = k.audits;
    spot = k.spot;
    pending = k.pending;
    placed = k.placed;
    passing = passing_still audit next (pending_there w a ((audit.begin, Logs AuditBegin) ∷ []) (audit.begin, Logs AuditBegin) k.pending (0, omega arith, refl) stands) k.passing;
  }

  -- ---- a checkpoint
  makes_none : under_way w.happened ≡ Some a.client → Makes yours → ⊥
  makes_none mine = by_state yours fits
    where
      not_both : under_way w.happened ≡ Some b.client → ⊥
      not_both theirs_is = other (some_same (sym mine ∙ theirs_is))

      by_state : (st : State) → Fits means s B p w gs y v b (b.spot.rest) st → Makes st → ⊥
      by_state (Copying c next) k makes = not_both k.making.under
      by_state (Certifying c audit next) k makes = not_both k.making.under
      by_state state k none = none

  image_there : p.core.system.checking ≡ true → under_way w.happened ≡ Some a.client → ImageStays means s B p gs y v C q hs z u
  image_there flag mine = leaves.image (ap (λ (m : SystemState). m.checking) (sym stood.stands.at.system) ∙ flag) (makes_none mine)

  making_still : (rest : List Act) (own : List Receipt) → IsMaking p w a rest own → IsMaking q x a rest own
  making_still rest own k = record {
    more = k.more;
    makes = k.makes;
    spot = k.spot;
    since = k.since;
    pending = k.pending;
    placed = k.placed;
    flag = ap (λ (m : SystemState). m.checking) late.stands.at.system ∙ ((image_there k.flag k.under).flag ∙ (ap (λ (m : SystemState). m.checking) (sym stood.stands.at.system) ∙ k.flag));
    under = ap (λ (l : World). under_way l.happened) goes.is ∙ (fold-append span_step None w.happened (by b.client ds) ∙ (ap (λ o. fold span_step o (by b.client ds)) k.under
        ∙ spans_stay a.client b.client ds other (subst (λ o. AreSpans o (by b.client ds)) k.under
        (spans_behind None w.happened (by b.client ds) (subst (λ (l : World). AreSpans None l.happened) goes.is late.tells.together.spans)))));
  }

  -- a vault that runs behind the step ran before it
  ran : u.stopped ≡ false → v.stopped ≡ false
  ran runs = by_flag v.stopped refl
    where
      by_flag : (f : Bool) → v.stopped ≡ f → v.stopped ≡ false
      by_flag false e = e
      by_flag true e =
          let before : w.core.vault.stopped ≡ true = ap (λ (m : CoreState). m.vault.stopped) stood.tells.core ∙ (stood.stands.at.vault.vault.stopped ∙ e) in
          let behind : u.stopped ≡ true = sym late.stands.at.vault.vault.stopped ∙ (ap (λ (m : CoreState). m.vault.stopped) (sym late.tells.core) ∙ goes.grows.failed before) in
          let no : true ≡ false = sym behind ∙ runs in
          absurd (cc)

  pub copying_waits : (rest : List Act) (c : Checkpointed) (next : ℕ) → FitsCopying means s B p w gs y v a rest c next → FitsCopying means s C q x hs z u a rest c next
  copying_waits rest c next k = record {
    making = making_still rest [] k.making;
    head = k.head;
    copying = λ runs. (image_there k.making.flag k.making.under).copying runs c k.head (k.copying (ran runs));
    copied = k.copied;
    upto = omega (arith, k.upto, ap length stood.stands.at.regions, ap length late.stands.at.regions, stood.stands.whole.regions, late.stands.whole.regions, ap regions sizes_same);
    sound = k.sound;
  }

  pub certifying_waits : (rest : List Act) (c : Checkpointed) (audit : Audited) (next : ℕ) → FitsCertifying means s B p w gs y v a rest c audit next → FitsCertifying means s C q x hs z u a rest c audit next
  certifying_waits rest c audit next k = record {
    making = making_still rest ((audit.begin, Logs AuditBegin) ∷ []) k.making;
    head = k.head;
    number = k.number;
    settled = λ runs. (image_there k.making.flag k.making.under).settled runs c k.head k.number (k.settled (ran runs));
    passes = λ runs. (image_there k.making.flag k.making.under).passes runs c k.head k.number audit.begin (k.settled (ran runs)) (k.passes (ran runs));
    settled_at = k.settled_at;
    behind = k.behind;
    sound = k.sound;
    passing = passing_still audit next (pending_there w a ((k.making.since, StartsCheckpoint) ∷ (audit.begin, Logs AuditBegin) ∷ []) (audit.begin, Logs AuditBegin) k.making.pending (1, omega arith, refl) stands) k.passing;
  }
