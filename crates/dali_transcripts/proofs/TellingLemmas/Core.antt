-- Each step of a core, with the deeds that tell it.
use Rattle.std.proofs.Common.{◌≡◌, ℕ, ◌+◌, ◌<◌, ◌≤◌, Bool, true, false, List, [], ◌∷◌, ◌++◌, length, Option, Some, None, refl, ap, sym, subst, ◌∙◌, ⊎_elim, arith}
use Rattle.std.specs.Prelude.{Contains, is_some, nat_le, not, if◌then◌else◌, ◌==◌, slice_get, slice_set, sum_by, ◌↔◌, ◌≢◌, take}
use Rattle.std.proofs.lemmas.List.{append-nil, length-set}
use Rattle.std.proofs.lemmas.Bool.{le-leb}
use Rattle.std.proofs.lemmas.Option.{slice_get_within}
use Rattle.dali_runs.proofs.CountsLemmas.Lists.{equal, same_number}
use Rattle.dali_runs.proofs.CountsLemmas.Tallies.{tallies}
use Rattle.dali_record.specs.declared.operations.Block.{Block}
use Rattle.dali_record.specs.declared.records.Call.{Call}
use Rattle.dali_record.specs.declared.records.Answer.{Answer}
use Rattle.dali_record.specs.declared.records.Record.{Record}
use Rattle.dali_record.specs.declared.records.Record.TheVariants.{Begin, Forward, Done, Commit, Ended, Solo, AuditBegin, AuditClean, AuditFail, Back}
use Rattle.dali_record.specs.Spelling.{record_length}
use Rattle.dali_record.specs.Damage.{has}
use Rattle.dali_geometry.specs.Places.{regions}
use Rattle.dali_history.proofs.Members.{Contains-from_has, has_from_Contains}
use Rattle.dali_region.specs.State.{RegionState, touched}
use Rattle.dali_locks.specs.declared.mode.Mode.{Mode}
use Rattle.dali_att.specs.declared.state.State.{State}
use Rattle.dali_att.specs.declared.state.State.TheVariants.{Committed}
use Rattle.dali_att.specs.Table.{without_last}
use Rattle.dali_runs.specs.declared.causes.Cause.{Cause}
use Rattle.dali_runs.specs.Run.{Bases, RunsOn, no_image}
use Rattle.dali_runs.specs.State.{CoreState, state_of, lock_of}
use Rattle.dali_runs.specs.Steps.{begun, op_logged, back_logged, solo_logged, done_logged, commit_logged, committed_row, ended_logged, audit_begun, audit_ended, audit_record, stop_by_audit}
use Rattle.dali_runs.specs.Keeps.{with_system, with_touched, HasRoom, may_log_in}
use Rattle.dali_runs.specs.Passes.{audits_with}
use Rattle.dali_runs.specs.Courses.{AuditEnds, IsStepAt, AuditTells}
use Rattle.dali_runs.proofs.Courses.{audit_end_tells}
use Rattle.dali_crash.specs.Checkpoints.{Point, moment_of}
use Rattle.dali_crash.specs.StoreRuns.{StoreRun}
use Rattle.dali_transcripts.specs.World.{Deed, Logs, World, IsLogged, logged_by, log_of, log_at, state_step, lock_step, IsNoWeaker, span_step, stray_after, under_way}
use Rattle.dali_transcripts.specs.Rounds.{by}
use Rattle.dali_transcripts.specs.Together.{RoomBy, RightBy, Owes}
use Rattle.dali_transcripts.specs.Telling.Deeds.{HasLookedFor, BeganHere}
use Rattle.dali_transcripts.specs.Telling.Tells.{after, AreRightThen, WasPassed, PassesAreTold, Tells, Goes}
use Rattle.dali_transcripts.proofs.TellingLemmas.States.{begun_state, ended_state, kept_state, new_state, undone_state}
use Rattle.dali_transcripts.proofs.TellingLemmas.Held.{ended_lock}
use Rattle.dali_transcripts.proofs.TellingLemmas.Strays.{Stays, same_regions, one_region}
use Rattle.dali_transcripts.proofs.TellingLemmas.Told.{Onward, plain, push_cases, push_before, log_is, passed_on, passes_on, goes_by, by_deed, by_none}

abbrev pub is_begin : Record → Bool
is_begin AuditBegin = true
is_begin x = false

abbrev pub is_end : Record → Bool
is_end (AuditClean b) = true
is_end (AuditFail b rs) = true
is_end x = false

pub ends : (b : ℕ) (found : List ℕ) → is_end (audit_record b found) ≡ true
ends b [] = refl
ends b (r ∷ rs) = refl

abbrev record_in : Deed → Record
record_in (Logs x) = x
record_in x = AuditBegin

pub no_end : (R : Record) → is_end R ≡ false → (b : ℕ) (found : List ℕ) → Logs R ≡ Logs (audit_record b found) → ⊥
no_end R e b found same =
    let end : is_end R ≡ true = ap (λ x. is_end (record_in x)) same ∙ ends b found in
    let no : false ≡ true = sym e ∙ end in
    absurd (cc)

-- what a transaction has of locks it has still
abbrev pub LocksStay : CoreState → CoreState → Type 0
LocksStay c d = (t k : ℕ) (o : Option Mode) → IsNoWeaker (lock_of c.system t k) o → IsNoWeaker (lock_of d.system t k) o

-- what a step that logs R owes
pub record Wrote (w : World) (c : ℕ) (R : Record) (d : CoreState) : Type 0 where
  pub onward : Onward w.core d
  pub stays : Stays w.core.regions d.regions
  pub vault : d.vault ≡ w.core.vault
  pub states : (t : ℕ) → state_of d.system t ≡ state_step t (state_of w.core.system t) (Logs R, c)
  pub locks : (t k : ℕ) (o : Option Mode) → IsNoWeaker (lock_of w.core.system t k) o → IsNoWeaker (lock_of d.system t k) (lock_step t k o (Logs R, c))
  pub refusals : d.system.refusals ≡ w.core.system.refusals
  pub checking : d.system.checking ≡ w.core.system.checking
  pub room : RoomBy w (Logs R)
  pub right : w.precheck ≡ true → RightBy w c (Logs R)
  pub verdict : (b : ℕ) (found : List ℕ) → Logs R ≡ Logs (audit_record b found) → (r : ℕ) (g : RegionState) → slice_get w.old.regions r ≡ Some g
      → (j : ℕ) × (j ≤ length w.happened) × (b < length (log_at w j)) × (Contains found r ↔ (stray_after r g.stray (take j w.happened) ≢ 0))

module _ (w : World) (c : ℕ) (p q : Point) (told : Tells w p) where
  owes_log : (R : Record) (d : CoreState) → Wrote w c R d → Owes w (after w c (Logs R ∷ []) d) c (Logs R)
  owes_log R d h = record {
    span = tt;
    anchor = ap (λ v. v.current) h.vault;
    poke = λ r g at. h.stays.each r g at;
    verdict = λ b found e. h.verdict b found e;
    state = h.states;
    lock = h.locks;
    fault = (ap (λ v. v.stopped) h.vault, ap (λ v. v.faults) h.vault);
    refusal = h.refusals ∙ sym (append-nil w.core.system.refusals);
    room = h.room;
    right = h.right;
  }

  began_before : (R : Record) (d : CoreState) → is_begin R ≡ false → (b : ℕ) → IsLogged (after w c (Logs R ∷ []) d) b AuditBegin → IsLogged w b AuditBegin
  began_before R d other b at =
      ⊎_elim (λ h. h) (λ e. let no : is_begin R ≡ true = ap is_begin e in let never : false ≡ true = sym other ∙ no in absurd (cc))
      (push_cases (log_of w) R b AuditBegin (subst (λ l. slice_get l b ≡ Some AuditBegin) (log_is w c (Logs R ∷ []) d) at))

  pub told_log : (R : Record) (d : CoreState) → q.core ≡ d → q.log ≡ p.log ++ R ∷ [] → Wrote w c R d → PassesAreTold (after w c (Logs R ∷ []) d) q.audits → AreRightThen w c (Logs R ∷ []) q.core
      → Goes w c p (Logs R ∷ []) (after w c (Logs R ∷ []) q.core) q
  told_log R d is log h passes right =
      goes_by w c p q told (Logs R ∷ []) d is h.onward log (by_deed w c p q told (Logs R) d h.onward (owes_log R d h)) (h.checking ∙ told.flag) passes right

  pub told_plain : (R : Record) (d : CoreState) → is_begin R ≡ false → q.core ≡ d → q.log ≡ p.log ++ R ∷ [] → q.audits ≡ p.audits → Wrote w c R d → AreRightThen w c (Logs R ∷ []) q.core
      → Goes w c p (Logs R ∷ []) (after w c (Logs R ∷ []) q.core) q
  told_plain R d other is log audits h right =
      told_log R d is log h (subst (λ A. PassesAreTold (after w c (Logs R ∷ []) d) A) (sym audits) (passes_on w c (Logs R ∷ []) d p.audits (began_before R d other) told.passes)) right

-- ---- the steps
module _ (bases : Bases) (before : List Record) (w0 : World) (c : ℕ) (p q : Point) (run : StoreRun bases before no_image p) (told : Tells (record w0 { core = p.core }) p) where
  abbrev w : World
  w = record w0 { core = p.core }

  runs : RunsOn bases p.log p.core
  runs = subst (λ L. RunsOn bases L p.core) (sym run.run.log) run.run.run.runs

  pub end_is : p.core.system.end ≡ sum_by record_length (log_of w0)
  end_is = runs.counts.end ∙ ((tallies p.core.system.sizes p.log runs.counts.now runs.counts.rules).1 ∙ ap (sum_by record_length) told.log)

  pub records_is : p.core.system.records ≡ length (log_of w0)
  records_is = runs.counts.records ∙ ((tallies p.core.system.sizes p.log runs.counts.now runs.counts.rules).0 ∙ ap length told.log)

  limit_is : p.core.system.limit ≡ w0.old.system.limit
  limit_is = told.grew.limit

  within : (n : ℕ) → p.core.system.end + n ≤ p.core.system.limit → nat_le (sum_by record_length (log_of w0) + n) w0.old.system.limit ≡ true
  within n room = le-leb _ _ (omega (arith, room, end_is, limit_is))

  -- what a step that logs a record owes, where it leaves the rest
  simple : (R : Record) (d : CoreState) → is_end R ≡ false → d.system.sizes ≡ p.core.system.sizes → d.system.limit ≡ p.core.system.limit → d.system.first ≡ p.core.system.first → d.system.stop ≡ p.core.system.stop
      → d.system.refusals ≡ p.core.system.refusals → d.vault ≡ p.core.vault → d.system.checking ≡ p.core.system.checking → length d.regions ≡ length p.core.regions → Stays p.core.regions d.regions
      → ((t : ℕ) → state_of d.system t ≡ state_step t (state_of p.core.system t) (Logs R, c)) → ((t k : ℕ) (o : Option Mode) → IsNoWeaker (lock_of p.core.system t k) o → IsNoWeaker (lock_of d.system t k) (lock_step t k o (Logs R, c))) → RoomBy w (Logs R) → (w0.precheck ≡ true → RightBy w c (Logs R)) → Wrote w c R d
  simple R d none sizes limit first stop refusals vault checking count stays states locks room right = record {
    onward = plain p.core d sizes limit first stop refusals vault count;
    stays = stays;
    vault = vault;
    states = states;
    locks = locks;
    refusals = refusals;
    checking = checking;
    room = room;
    right = right;
    verdict = λ b found e. absurd (no_end R none b found e);
  }

  state_there : (o : Option State) (R : Record) → may_log_in o R ≡ true → (s : State) × (o ≡ Some s)
  state_there None R e = absurd (cc)
  state_there (Some s) R e = (s, refl)

  pub begins : HasRoom p.core.system (Begin p.core.system.next) → q.core ≡ with_system p.core (begun p.core.system) → q.log ≡ p.log ++ Begin p.core.system.next ∷ [] → q.audits ≡ p.audits → AreRightThen w c (Logs (Begin p.core.system.next) ∷ []) q.core
      → Goes w c p (Logs (Begin p.core.system.next) ∷ []) (after w c (Logs (Begin p.core.system.next) ∷ []) q.core) q
  begins room is log audits proper =
      told_plain w c p q told (Begin p.core.system.next) (with_system p.core (begun p.core.system)) refl is log audits
      (simple _ _ refl refl refl refl refl refl refl refl refl (same_regions p.core.regions) (λ t. begun_state p.core.system.table p.core.system.next t) (λ t k o e. e) (within 9 room.room) (λ e. tt))
      proper

  touched_region : (r : ℕ) (g : RegionState) → slice_get p.core.regions r ≡ Some g → Stays p.core.regions (slice_set p.core.regions r (touched g))
  touched_region r g at = one_region p.core.regions r g (touched g) at refl refl

  pub operates : (t : ℕ) (b : Block) (g : RegionState) → HasRoom p.core.system (Forward t b) → slice_get p.core.regions b.region ≡ Some g → HasLookedFor w c (Logs (Forward t b))
      → q.core ≡ with_touched p.core (op_logged p.core.system t b) b.region g → q.log ≡ p.log ++ Forward t b ∷ [] → q.audits ≡ p.audits → AreRightThen w c (Logs (Forward t b) ∷ []) q.core
      → Goes w c p (Logs (Forward t b) ∷ []) (after w c (Logs (Forward t b) ∷ []) q.core) q
  operates t b g room at right is log audits proper =
      told_plain w c p q told (Forward t b) (with_touched p.core (op_logged p.core.system t b) b.region g) refl is log audits
      (simple _ _ refl refl refl refl refl refl refl refl (length-set p.core.regions b.region (touched g)) (touched_region b.region g at) (λ u. undone_state p.core.system.table t b b.undo u) (λ t k o e. e) (within (record_length (Forward t b)) room.room) right)
      proper

  pub takes_back : (t : ℕ) (b : Block) (g : RegionState) → slice_get p.core.regions b.region ≡ Some g
      → q.core ≡ with_touched p.core (back_logged p.core.system t b) b.region g → q.log ≡ p.log ++ Back t b ∷ [] → q.audits ≡ p.audits → AreRightThen w c (Logs (Back t b) ∷ []) q.core
      → Goes w c p (Logs (Back t b) ∷ []) (after w c (Logs (Back t b) ∷ []) q.core) q
  takes_back t b g at is log audits proper =
      told_plain w c p q told (Back t b) (with_touched p.core (back_logged p.core.system t b) b.region g) refl is log audits
      (simple _ _ refl refl refl refl refl refl refl refl (length-set p.core.regions b.region (touched g)) (touched_region b.region g at) (λ u. kept_state p.core.system.table t without_last (λ row. refl) u) (λ t k o e. e) refl (λ e. tt))
      proper

  pub frees : (t : ℕ) (b : Block) (g : RegionState) → slice_get p.core.regions b.region ≡ Some g
      → q.core ≡ with_touched p.core (solo_logged p.core.system t b) b.region g → q.log ≡ p.log ++ Solo p.core.system.next t b ∷ [] → q.audits ≡ p.audits → AreRightThen w c (Logs (Solo p.core.system.next t b) ∷ []) q.core
      → Goes w c p (Logs (Solo p.core.system.next t b) ∷ []) (after w c (Logs (Solo p.core.system.next t b) ∷ []) q.core) q
  frees t b g at is log audits proper =
      told_plain w c p q told (Solo p.core.system.next t b) (with_touched p.core (solo_logged p.core.system t b) b.region g) refl is log audits
      (simple _ _ refl refl refl refl refl refl refl refl (length-set p.core.regions b.region (touched g)) (touched_region b.region g at) (λ u. refl) (λ t k o e. e) refl (λ e. tt))
      proper

  pub answers : (t : ℕ) (call : Call) (a : Answer) → HasRoom p.core.system (Done t call a)
      → q.core ≡ with_system p.core (done_logged p.core.system t call a) → q.log ≡ p.log ++ Done t call a ∷ [] → q.audits ≡ p.audits → AreRightThen w c (Logs (Done t call a) ∷ []) q.core
      → Goes w c p (Logs (Done t call a) ∷ []) (after w c (Logs (Done t call a) ∷ []) q.core) q
  answers t call a room is log audits proper =
      told_plain w c p q told (Done t call a) (with_system p.core (done_logged p.core.system t call a)) refl is log audits
      (simple _ _ refl refl refl refl refl refl refl refl refl (same_regions p.core.regions) (λ u. refl) (λ t k o e. e) (within (record_length (Done t call a)) room.room) (λ e. tt))
      proper

  pub commits : (t : ℕ) → may_log_in (state_of p.core.system t) (Commit t) ≡ true
      → q.core ≡ with_system p.core (commit_logged p.core.system t) → q.log ≡ p.log ++ Commit t ∷ [] → q.audits ≡ p.audits → AreRightThen w c (Logs (Commit t) ∷ []) q.core
      → Goes w c p (Logs (Commit t) ∷ []) (after w c (Logs (Commit t) ∷ []) q.core) q
  commits t may is log audits proper =
      let was = state_there (state_of p.core.system t) (Commit t) may in
      told_plain w c p q told (Commit t) (with_system p.core (commit_logged p.core.system t)) refl is log audits
      (simple _ _ refl refl refl refl refl refl refl refl refl (same_regions p.core.regions) (λ u. new_state p.core.system.table t committed_row Committed (λ row. refl) was.0 was.1 u) (λ t k o e. e) refl (λ e. tt))
      proper

  pub ends_txn : (t : ℕ) → q.core ≡ with_system p.core (ended_logged p.core.system t) → q.log ≡ p.log ++ Ended t ∷ [] → q.audits ≡ p.audits → AreRightThen w c (Logs (Ended t) ∷ []) q.core
      → Goes w c p (Logs (Ended t) ∷ []) (after w c (Logs (Ended t) ∷ []) q.core) q
  ends_txn t is log audits proper =
      told_plain w c p q told (Ended t) (with_system p.core (ended_logged p.core.system t)) refl is log audits
      (simple _ _ refl refl refl refl refl refl refl refl refl (same_regions p.core.regions) (λ u. ended_state p.core.system.table t u) (λ u k o e. ended_lock p.core.system.locks t u k o e) refl (λ e. tt))
      proper

  -- an audit begins: it has passed nothing
  begun_passes : (d : CoreState) → PassesAreTold (after w c (Logs AuditBegin ∷ []) d) (audits_with p.audits p.core.system.records [])
  begun_passes d b i x since is at = by_test (b == p.core.system.records) refl at
    where
      by_test : (test : Bool) → (b == p.core.system.records) ≡ test → slice_get (if test then [] else p.audits b) i ≡ Some x → WasPassed (after w c (Logs AuditBegin ∷ []) d) b x
      by_test true e none = absurd (cc)
      by_test false e there =
          passed_on w c (Logs AuditBegin ∷ []) d b x
          (told.passes b i x since (push_before (log_of w) AuditBegin b AuditBegin (λ f. let n : b ≡ p.core.system.records = f ∙ sym records_is in let no : true ≡ false = sym (same_number b p.core.system.records n) ∙ e in absurd (cc)) (subst (λ l. slice_get l b ≡ Some AuditBegin) (log_is w c (Logs AuditBegin ∷ []) d) is)) there)

  pub audit_begins : p.core.system.end + 1 ≤ p.core.system.limit + 1048576 → q.core ≡ with_system p.core (audit_begun p.core.system) → q.log ≡ p.log ++ AuditBegin ∷ []
      → q.audits ≡ audits_with p.audits p.core.system.records [] → AreRightThen w c (Logs AuditBegin ∷ []) q.core
      → Goes w c p (Logs AuditBegin ∷ []) (after w c (Logs AuditBegin ∷ []) q.core) q
  audit_begins room is log audits proper =
      told_log w c p q told AuditBegin (with_system p.core (audit_begun p.core.system)) is log
      (simple _ _ refl refl refl refl refl refl refl refl refl (same_regions p.core.regions) (λ u. refl) (λ t k o e. e) (le-leb _ _ (omega (arith, room, end_is, limit_is))) (λ e. tt))
      (subst (λ A. PassesAreTold (after w c (Logs AuditBegin ∷ []) (with_system p.core (audit_begun p.core.system))) A) (sym audits) (begun_passes (with_system p.core (audit_begun p.core.system))))
      proper

  -- ---- an audit ends
  number_in : Record → ℕ
  number_in (AuditClean b) = b
  number_in (AuditFail b rs) = b
  number_in x = 0

  found_in : Record → List ℕ
  found_in (AuditFail b rs) = rs
  found_in x = []

  number_of : (b : ℕ) (found : List ℕ) → number_in (audit_record b found) ≡ b
  unfolding number_in
  number_of b [] = refl
  number_of b (r ∷ rs) = refl

  found_of : (b : ℕ) (found : List ℕ) → found_in (audit_record b found) ≡ found
  unfolding found_in
  found_of b [] = refl
  found_of b (r ∷ rs) = refl

  logged_one : Deed → Record
  logged_one (Logs x) = x
  logged_one x = AuditBegin

  one_of : (R S : Record) → Logs R ≡ Logs S → R ≡ S
  unfolding logged_one
  one_of R S e = ap logged_one e

  answered : (n m : ℕ) (found : List ℕ) (r : ℕ) → has found r ≡ not (n == 0) → n ≡ m → Contains found r ↔ (m ≢ 0)
  answered n m found r named same = (
    λ h e. let t : true ≡ not (n == 0) = sym (has_from_Contains found r h) ∙ named in let z : (n == 0) ≡ true = same_number n 0 (same ∙ e) in let no : true ≡ false = t ∙ ap not z in absurd (cc),
    λ differ. Contains-from_has found r (named ∙ by_test (n == 0) refl differ),
  )
    where
      by_test : (b : Bool) → (n == 0) ≡ b → (m ≢ 0) → not (n == 0) ≡ true
      by_test true e differ = absurd (differ (sym same ∙ equal n 0 e))
      by_test false e differ = ap not e

  -- what an audit of this round that ends has found of a region
  says : (b : ℕ) (found : List ℕ) → BeganHere w b → AuditTells (moment_of p) b found → (r : ℕ) (g : RegionState) → slice_get w0.old.regions r ≡ Some g
      → (j : ℕ) × (j ≤ length w0.happened) × (b < length (log_at w j)) × (Contains found r ↔ (stray_after r g.stray (take j w0.happened) ≢ 0))
  says b found began tells r g was =
      let low : r < regions p.core.system.sizes = omega (arith, slice_get_within w0.old.regions r g was, told.count, runs.whole) in
      let e = tells.each r low in
      let h = told.passes b e.1 e.0 began.since began.began e.2 in
      let same : e.0.answer ≡ stray_after r g.stray (take h.place w0.happened) = h.answer g (ap (slice_get w0.old.regions) e.3 ∙ was) ∙ ap (λ n. stray_after n g.stray (take h.place w0.happened)) e.3 in
      (h.place, h.within, h.behind, answered e.0.answer (stray_after r g.stray (take h.place w0.happened)) found r e.4 same)

  end_stop : (found : List ℕ) (cause : Cause) → p.core.system.stop ≡ None → p.core.system.stop ≡ Some cause → stop_by_audit found p.core.system.stop ≡ Some cause
  end_stop found cause none some = let no : None ≡ Some cause = sym none ∙ some in absurd (cc)

  end_room : (b : ℕ) (found : List ℕ) → RoomBy w (Logs (audit_record b found))
  end_room b [] = refl
  end_room b (r ∷ rs) = refl

  end_right : (b : ℕ) (found : List ℕ) → RightBy w c (Logs (audit_record b found))
  end_right b [] = tt
  end_right b (r ∷ rs) = tt

  end_state : (b : ℕ) (found : List ℕ) (t : ℕ) (o : Option State) → o ≡ state_step t o (Logs (audit_record b found), c)
  end_state b [] t o = refl
  end_state b (r ∷ rs) t o = refl

  end_lock : (b : ℕ) (found : List ℕ) (t k : ℕ) (o : Option Mode) → IsNoWeaker (lock_of p.core.system t k) o → IsNoWeaker (lock_of p.core.system t k) (lock_step t k o (Logs (audit_record b found), c))
  end_lock b [] t k o e = e
  end_lock b (r ∷ rs) t k o e = e

  not_begin : (b : ℕ) (found : List ℕ) → is_begin (audit_record b found) ≡ false
  not_begin b [] = refl
  not_begin b (r ∷ rs) = refl

  pub audit_ends : (b : ℕ) (found : List ℕ) → BeganHere w b → IsStepAt (moment_of p) (AuditEnds b found) (moment_of q) → p.core.system.stop ≡ None
      → q.core ≡ with_system p.core (audit_ended p.core.system b found) → q.log ≡ p.log ++ audit_record b found ∷ [] → q.audits ≡ p.audits → AreRightThen w c (Logs (audit_record b found) ∷ []) q.core
      → Goes w c p (Logs (audit_record b found) ∷ []) (after w c (Logs (audit_record b found) ∷ []) q.core) q
  audit_ends b found began step runs_on is log audits proper =
      told_plain w c p q told (audit_record b found) (with_system p.core (audit_ended p.core.system b found)) (not_begin b found) is log audits
      (record {
        onward = record { core = record { sizes = refl; limit = refl; flushed = omega arith; failed = λ e. e; sealed = λ e. refl; stop = λ cause e. end_stop found cause runs_on e; refusals = λ f h. h }; count = refl };
        stays = same_regions p.core.regions;
        vault = refl;
        states = λ t. end_state b found t (state_of p.core.system t);
        locks = end_lock b found;
        refusals = refl;
        checking = refl;
        room = end_room b found;
        right = λ e. end_right b found;
        verdict = λ b' found' e r g was. named b' found' (one_of _ _ e) r g was;
      })
      proper
    where
      tells : AuditTells (moment_of p) b found
      tells = audit_end_tells bases before (moment_of p) (moment_of q) b found run.run step

      named : (b' : ℕ) (found' : List ℕ) → audit_record b found ≡ audit_record b' found' → (r : ℕ) (g : RegionState) → slice_get w0.old.regions r ≡ Some g
          → (j : ℕ) × (j ≤ length w0.happened) × (b' < length (log_at w j)) × (Contains found' r ↔ (stray_after r g.stray (take j w0.happened) ≢ 0))
      named b' found' e =
          let number : b ≡ b' = sym (number_of b found) ∙ (ap number_in e ∙ number_of b' found') in
          let list : found ≡ found' = sym (found_of b found) ∙ (ap found_in e ∙ found_of b' found') in
          subst (λ n. (r : ℕ) (g : RegionState) → slice_get w0.old.regions r ≡ Some g → (j : ℕ) × (j ≤ length w0.happened) × (n < length (log_at w j)) × (Contains found' r ↔ (stray_after r g.stray (take j w0.happened) ≢ 0))) number
          (subst (λ l. (r : ℕ) (g : RegionState) → slice_get w0.old.regions r ≡ Some g → (j : ℕ) × (j ≤ length w0.happened) × (b < length (log_at w j)) × (Contains l r ↔ (stray_after r g.stray (take j w0.happened) ≢ 0))) list (says b found began tells))

  -- ---- steps that no deed tells
  none_began : (d : CoreState) (b : ℕ) → IsLogged (after w c [] d) b AuditBegin → IsLogged w b AuditBegin
  none_began d b at = subst (λ l. slice_get l b ≡ Some AuditBegin) (log_is w c [] d ∙ append-nil (log_of w)) at

  pub unseen : (d : CoreState) → q.core ≡ d → q.log ≡ p.log → Onward p.core d → Stays p.core.regions d.regions → ((t : ℕ) → state_of d.system t ≡ state_of p.core.system t)
      → LocksStay p.core d
      → d.vault.current ≡ p.core.vault.current → d.vault.stopped ≡ p.core.vault.stopped → d.vault.faults ≡ p.core.vault.faults → d.system.refusals ≡ p.core.system.refusals
      → d.system.checking ≡ p.core.system.checking → PassesAreTold (after w c [] d) q.audits
      → Goes w c p [] (after w c [] q.core) q
  unseen d is log on stays states locks current stopped faults refusals checking passes =
      goes_by w c p q told [] d is on (log ∙ sym (append-nil p.log))
      (by_none w c p q told d on (record { anchor = current; poke = λ r h at. stays.each r h at; states = states; locks = locks; stopped = stopped; faults = faults; refusals = refusals }))
      (checking ∙ told.flag) passes tt

  pub unseen_passes : (d : CoreState) → q.audits ≡ p.audits → PassesAreTold (after w c [] d) q.audits
  unseen_passes d audits = subst (λ A. PassesAreTold (after w c [] d) A) (sym audits) (passes_on w c [] d p.audits (none_began d) told.passes)

  -- where the vault and the table are left
  pub quiet : (d : CoreState) → q.core ≡ d → q.log ≡ p.log → q.audits ≡ p.audits → Onward p.core d → Stays p.core.regions d.regions → ((t : ℕ) → state_of d.system t ≡ state_of p.core.system t)
      → LocksStay p.core d → d.vault ≡ p.core.vault → d.system.refusals ≡ p.core.system.refusals → d.system.checking ≡ p.core.system.checking
      → Goes w c p [] (after w c [] q.core) q
  quiet d is log audits on stays states locks vault refusals checking =
      unseen d is log on stays states locks (ap (λ v. v.current) vault) (ap (λ v. v.stopped) vault) (ap (λ v. v.faults) vault) refusals checking (unseen_passes d audits)

  -- ---- deeds that are no records
  other_began : (x : Deed) (d : CoreState) → logged_by (by c (x ∷ [])) ≡ [] → (b : ℕ) → IsLogged (after w c (x ∷ []) d) b AuditBegin → IsLogged w b AuditBegin
  other_began x d none b at = subst (λ l. slice_get l b ≡ Some AuditBegin) (log_is w c (x ∷ []) d ∙ (ap (λ l. log_of w ++ l) none ∙ append-nil (log_of w))) at

  pub seen : (x : Deed) (d : CoreState) → logged_by (by c (x ∷ [])) ≡ [] → q.core ≡ d → q.log ≡ p.log → q.audits ≡ p.audits → Onward p.core d → Owes w (after w c (x ∷ []) d) c x
      → d.system.checking ≡ is_some (span_step (under_way w0.happened) (x, c)) → AreRightThen w c (x ∷ []) q.core
      → Goes w c p (x ∷ []) (after w c (x ∷ []) q.core) q
  seen x d none is log audits on owes flag right =
      goes_by w c p q told (x ∷ []) d is on (log ∙ (sym (append-nil p.log) ∙ ap (λ l. p.log ++ l) (sym none))) (by_deed w c p q told x d on owes) flag
      (subst (λ A. PassesAreTold (after w c (x ∷ []) d) A) (sym audits) (passes_on w c (x ∷ []) d p.audits (other_began x d none) told.passes))
      right
