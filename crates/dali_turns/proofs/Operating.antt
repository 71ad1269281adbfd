-- An operation of a call of a client, made.
use Rattle.std.proofs.Common.{◌≡◌, ℕ, ◌+◌, ◌-◌, ◌<◌, Bool, true, false, List, [], ◌∷◌, ◌++◌, length, map, Option, Some, None, is_some, if◌then◌else◌, refl, ap, sym, subst, ◌∙◌, ◌⊎◌, inl, inr, arith}
use Rattle.std.specs.Prelude.{◌==◌, ◌≢◌, filter}
use Rattle.std.proofs.lemmas.Bool.{ltb-true, lt-ltb}
use Rattle.std.proofs.lemmas.List.{append-nil, append_assoc, append_cancel_left, length-append}
use Rattle.std.proofs.lemmas.List.Elements.{filter-append}
use Rattle.dali_runs.proofs.CountsLemmas.Lists.{equal, self, same_number, some_same}
use Rattle.dali_geometry.specs.Sizes.{Sizes}
use Rattle.dali_geometry.specs.Places.{is_place, region_at, cell_at}
use Rattle.dali_record.specs.declared.operations.Block.{Block}
use Rattle.dali_record.specs.declared.operations.Op.{Op}
use Rattle.dali_record.specs.declared.operations.Op.TheVariants.{Look, Add, KillEntry}
use Rattle.dali_record.specs.declared.operations.Pending.{Pending}
use Rattle.dali_record.specs.declared.records.Call.{Call}
use Rattle.dali_record.specs.declared.records.Call.TheVariants.{Insert, Update, Delete, Get}
use Rattle.dali_record.specs.declared.records.Record.{Record}
use Rattle.dali_record.specs.declared.records.Record.TheVariants.{Forward, Back}
use Rattle.dali_record.specs.Log.{last_of, undo_step}
use Rattle.dali_region.specs.State.{RegionState}
use Rattle.dali_calls.specs.declared.stage.Stage.{Stage}
use Rattle.dali_calls.specs.declared.stage.Stage.TheVariants.{Fresh, Walking, Nowhere, Somewhere, Storing, Adding, Removing, Finished}
use Rattle.dali_att.specs.Table.{without_last}
use Rattle.dali_store.specs.Store.{Files as Disk}
use Rattle.dali_store.specs.declared.store.Store.{Ghosts}
use Rattle.dali_runs.specs.State.{SystemState, VaultState, CoreState, state_of, lock_of}
use Rattle.dali_crash.specs.Checkpoints.{Point}
use Rattle.dali_crash.specs.Traces.{Start}
use Rattle.dali_core.specs.Vault.Vaulted.{Vaulted}
use Rattle.dali_calls.specs.declared.plan.Phase.{Phase}
use Rattle.dali_calls.specs.declared.plan.Phase.TheVariants.{Calling as IsCalling, Refused as IsRefused}
use Rattle.dali_calls.specs.Plans.{Planned, IsWhole, goes_back, is_back, is_back_in, plan_next, onward_next, undo_next}
use Rattle.dali_calls.specs.Single.Stands.{core, IsAtRest, AtPlan}
use Rattle.dali_calls.specs.Stepwise.Opened.{IsLogged, record_on}
use Rattle.dali_calls.specs.Stepwise.Stepwise.{OneFurther, LeadsOnce}
use Rattle.dali_calls.specs.Steps.{call_key, next_op, answer_of, put_of, in_cell, IsAt, IsBlockOf}
use Rattle.dali_transcripts.specs.Words.{Calls, key_of}
use Rattle.dali_transcripts.specs.World.{Logs, Meets, World, log_of, is_claimed_in}
use Rattle.dali_transcripts.specs.Moves.{Receipt, Within as IsWithin, at, is_operation, operations, left}
use Rattle.dali_transcripts.specs.Causes.{IsOpOf, IsAside, IsWork, AreWork, spares, undos_behind}
use Rattle.dali_transcripts.specs.Rounds.{Standing, IsPlaced}
use Rattle.dali_transcripts.proofs.Grants.{granted_more}
use Rattle.dali_transcripts.proofs.Growing.{works, asides, all_tried, met, survives}
use Rattle.dali_transcripts.specs.Telling.Tells.{after}
use Rattle.dali_transcripts.proofs.TellingLemmas.States.{kept_state, undone_state}
use Rattle.dali_transactions.specs.Beside.Went.{Went as RoundsWent}
use Rattle.dali_transactions.proofs.BesideLemmas.Calls.{operate_goes}
use Rattle.dali_transcripts.specs.declared.clients.line.Why.{Why}
use Rattle.dali_transcripts.specs.Clients.Told.{act_of, reason_of}
use Rattle.std.specs.FinMap.{get}
use Rattle.dali_lists.proofs.Members.{all_append}
use Rattle.dali_turns.specs.declared.client.Client.{Client}
use Rattle.dali_turns.specs.declared.client.State.{State}
use Rattle.dali_turns.specs.declared.client.State.TheVariants.{Calling, TakingBack}
use Rattle.dali_turns.specs.declared.client.Transaction.{Transaction}
use Rattle.dali_turns.specs.Calls.{less_one, deadly_behind, IsFurther}
use Rattle.dali_turns.specs.Stood.{IsQuiet, Stood}
use Rattle.dali_turns.specs.Within.{IsAtCall, HasTurned, FitsCalling, FitsTakingBack, AreGot}
use Rattle.dali_turns.specs.Fits.{rest_of, IsOf, Owns, Fits}
use Rattle.dali_turns.specs.Goes.{RowsTell, Went}
use Rattle.dali_turns.proofs.Locking.{still_got}
use Rattle.dali_turns.proofs.Returning.{back_answered, unanswered, turned_forward, turned_back}
use Rattle.dali_turns.proofs.Undoing.{undone_then, undone_once}
use Rattle.dali_turns.proofs.Doing.{Did, vault_stops, behind, went_on}
use Rattle.dali_turns.proofs.Walking.{Led, led, did_led}
use Rattle.dali_turns.proofs.Asked.{same_key}
use Rattle.dali_transactions.specs.Beside.Went.{is_open}

-- ---- the operations of a call

look_of : (call : Call) → IsOpOf call Look
look_of (Insert key v) = tt
look_of (Update key v) = tt
look_of (Delete key) = tt
look_of (Get key) = tt

op_in : {r q : ℕ} {a b : Op} → (let o : Option (ℕ × Op) = Some (r, a) in o ≡ Some (q, b)) → a ≡ b
op_in e = ap (λ (z : ℕ × Op). z.1) (some_same e)

put_op : (call : Call) (q r : ℕ) (op : Op) → put_of call q ≡ Some (r, op) → IsOpOf call op
put_op (Insert key v) q r op e = subst (IsOpOf (Insert key v)) (op_in e) refl
put_op (Update key v) q r op e = absurd (cc)
put_op (Delete key) q r op e = absurd (cc)
put_op (Get key) q r op e = absurd (cc)

cell_op_of : (call : Call) (q cell r : ℕ) (op : Op) → in_cell call q cell ≡ Some (r, op) → IsOpOf call op
cell_op_of (Insert key v) q cell r op e = absurd (cc)
cell_op_of (Update key v) q cell r op e = subst (IsOpOf (Update key v)) (op_in e) refl
cell_op_of (Delete key) q cell r op e = subst (IsOpOf (Delete key)) (op_in e) tt
cell_op_of (Get key) q cell r op e = subst (IsOpOf (Get key)) (op_in e) tt

place_op_of : (call : Call) (place : ℕ) (b : Bool) (r : ℕ) (op : Op) → (if b then in_cell call (region_at place) (cell_at place) else None) ≡ Some (r, op) → IsOpOf call op
place_op_of call place true r op e = cell_op_of call (region_at place) (cell_at place) r op e
place_op_of call place false r op e = absurd (cc)

add_op : (s : Sizes) (call : Call) (place region tried r : ℕ) (op : Op) → IsAt s call (Adding place region tried) → (let o : Option (ℕ × Op) = Some (region, Add place) in o ≡ Some (r, op)) → IsOpOf call op
add_op s (Insert key v) place region tried r op is e = subst (IsOpOf (Insert key v)) (op_in e) tt
add_op s (Update key v) place region tried r op is e = let no : false ≡ true = is.3 in absurd (cc)
add_op s (Delete key) place region tried r op is e = let no : false ≡ true = is.3 in absurd (cc)
add_op s (Get key) place region tried r op is e = let no : false ≡ true = is.3 in absurd (cc)

kill_op : (s : Sizes) (call : Call) (region entry place r : ℕ) (op : Op) → IsAt s call (Removing region entry place) → (let o : Option (ℕ × Op) = Some (region, KillEntry entry) in o ≡ Some (r, op)) → IsOpOf call op
kill_op s (Insert key v) region entry place r op is e = let no : false ≡ true = is.2 in absurd (cc)
kill_op s (Update key v) region entry place r op is e = let no : false ≡ true = is.2 in absurd (cc)
kill_op s (Delete key) region entry place r op is e = subst (IsOpOf (Delete key)) (op_in e) tt
kill_op s (Get key) region entry place r op is e = let no : false ≡ true = is.2 in absurd (cc)

pub op_of : (s : Sizes) (t : ℕ) (call : Call) (stage : Stage) (r : ℕ) (op : Op) → IsAt s call stage → next_op s t call stage ≡ Some (r, op) → IsOpOf call op
op_of s t call Fresh r op is e = subst (IsOpOf call) (op_in e) (look_of call)
op_of s t call (Walking region looked) r op is e = subst (IsOpOf call) (op_in e) (look_of call)
op_of s t call Nowhere r op is e = put_op call _ r op e
op_of s t call (Somewhere region entry place) r op is e = place_op_of call place (is_place s place) r op e
op_of s t call (Storing region tried) r op is e = put_op call region r op e
op_of s t call (Adding place region tried) r op is e = add_op s call place region tried r op is e
op_of s t call (Removing region entry place) r op is e = kill_op s call region entry place r op is e
op_of s t call (Finished answer) r op is e = absurd (cc)

-- the block of such an operation is on the call's key
pub key_there : (next : Option (ℕ × Op)) (call : Call) (b : Block) → IsBlockOf next (call_key call) b → b.key ≡ key_of call
key_there next call b of = ap (λ (z : Block). z.key) of.made_on ∙ same_key call

-- ---- the death that comes nearer
pub counted : (t : ℕ) (work : List Receipt) (n : ℕ) (b : Block) → operations t (work ++ (n, Logs (Forward t b)) ∷ []) ≡ operations t work + 1
counted t work n b =
    ap length (filter-append (is_operation t) work ((n, Logs (Forward t b)) ∷ []))
    ∙ (length-append (filter (is_operation t) work) (filter (is_operation t) ((n, Logs (Forward t b)) ∷ []))
    ∙ ap (λ k. operations t work + k) (one (t == t) (self t)))
  where
    one : (b' : Bool) → b' ≡ true → length {A = Receipt} (if b' then (n, Logs (Forward t b)) ∷ [] else []) ≡ 1
    one true e = refl
    one false e = absurd (cc)

pub uncounted : (t : ℕ) (work : List Receipt) (n : ℕ) (b : Block) → operations t (work ++ (n, Logs (Back t b)) ∷ []) ≡ operations t work
uncounted t work n b =
    ap length (filter-append (is_operation t) work ((n, Logs (Back t b)) ∷ [])) ∙ ap length (append-nil (filter (is_operation t) work))

pub nearer_one : (d : Option ℕ) (n : ℕ) → less_one (left d n) ≡ left d (n + 1)
nearer_one None n = refl
nearer_one (Some d) n = ap Some (omega arith)

pub spared_one : (d : Option ℕ) (n : ℕ) → spares d n ≡ true → (left d n ≡ Some 1 → ⊥) → spares d (n + 1) ≡ true
spared_one None n e not_now = refl
spared_one (Some d) n e not_now = lt-ltb (n + 1) d (by_size (d - n == 1) refl)
  where
    by_size : (b : Bool) → (d - n == 1) ≡ b → n + 1 < d
    by_size true f = absurd (not_now (ap Some (equal (d - n) 1 f)))
    by_size false f = let differ : d - n ≢ 1 = λ same. (let yes : (d - n == 1) ≡ true = same_number (d - n) 1 same in let no : true ≡ false = sym yes ∙ f in absurd (cc)) in omega (arith, ltb-true n d e, differ)

-- ---- the system behind it
-- each transaction's state, the stop, and what was taken
pub record SameStates (y z : SystemState) : Type 0 where
  pub states : (t : ℕ) → state_of z t ≡ state_of y t
  pub stop : z.stop ≡ y.stop
  pub locks : z.locks ≡ y.locks

logged_states : (back : Bool) (plan : Planned) (b : Block) (y z : SystemState) (q : Planned) → IsLogged back plan b y q z → SameStates y z
logged_states false plan b y z q h = subst (SameStates y) (sym h.0) (record { states = λ t. undone_state y.table plan.txn b b.undo t; stop = refl; locks = refl })
logged_states true plan b y z q h = subst (SameStates y) (sym h.0) (record { states = λ t. kept_state y.table plan.txn without_last (λ row. refl) t; stop = refl; locks = refl })

still_quiet : (y z : SystemState) → SameStates y z → IsQuiet y → IsQuiet z
still_quiet y z same quiet = record { unclaimed = λ t. ap is_claimed_in (same.states t) ∙ quiet.unclaimed t }

-- ---- what the plan wants next, on its way
pub onward_op : (plan : Planned) (r : ℕ) (op : Op) → is_back plan ≡ false → plan.phase ≡ IsCalling → plan_next plan ≡ Some (r, op) → next_op plan.geometry plan.txn plan.call plan.stage ≡ Some (r, op)
onward_op plan r op on phase next =
    ap (λ f. onward_next f (next_op plan.geometry plan.txn plan.call plan.stage)) (sym phase)
    ∙ (sym (ap (λ (b : Bool). if b then undo_next (last_of plan.changes) else onward_next plan.phase (next_op plan.geometry plan.txn plan.call plan.stage)) on) ∙ next)

module _ {V : Type 0} (means : Ghosts V)
    (precheck : Bool) (s : Start) (B : List (List Record)) (p : Point) (w : World) (a : Standing) (gs hs : List RegionState) (y z : SystemState) (v : Vaulted V)
    (state : State) (t : ℕ) (owns : (n : ℕ) → t ≡ n → Owns state n) (call : Call) (phase : Phase) (plan q : Planned) (stood : Stood means s B p w precheck gs y v) (plan_is : IsAtCall p plan t call phase)
    (further : OneFurther precheck plan gs y q hs z) where
  abbrev pub u : VaultState
  u = p.core.vault

  abbrev pub R : Record
  R = record_on (is_back plan) plan.txn further.block

  core_here : core gs y u ≡ p.core
  core_here = ap (λ rs. core rs y u) (sym stood.stands.at.regions) ∙ ap (λ (m : SystemState). core p.core.regions m u) (sym stood.stands.at.system)

  pub once : LeadsOnce precheck p.log p.core plan further.block (core hs z u) q
  once = subst (λ (k : CoreState). LeadsOnce precheck p.log k plan further.block (core hs z u) q) core_here (further.leads p.log u (subst (λ (k : CoreState). AtPlan p.log k plan) (sym core_here) plan_is.stands))

  pub walked : Led means plan.txn s B p w a.client gs y v (p.log ++ R ∷ []) (core hs z u)
  walked = led means precheck plan.txn a.client s B v once.steps p w gs y (p.log ++ R ∷ []) (core hs z u) stood.stands.at stood.precheck_is (record { run = stood.stands.at.vault.run; tells = stood.tells; whole = stood.stands.whole }) (vault_stops means precheck s B p w gs y v stood) once.leads

  own_is : map Logs walked.own ≡ Logs R ∷ []
  own_is = ap (map Logs) (sym (append_cancel_left p.log (R ∷ []) walked.own walked.log))

  pub same : SameStates y z
  same = logged_states (is_back plan) plan further.block y z q further.logged

  rounds : (r : RoundsWent means plan.txn (R ∷ []) s B p gs hs z v) × AtPlan r.to.log r.to.core q
  rounds = operate_goes means precheck s B p gs hs y z v plan q stood.stands plan_is.stands further

  pub did_operate : Did means precheck s B p w a.client state gs y v (Logs R ∷ []) B walked.to hs z v
  did_operate = did_led means precheck plan.txn state (λ n e. owns n (sym plan_is.txn ∙ e)) s B p w a.client gs y v stood (Logs R ∷ []) (p.log ++ R ∷ []) (core hs z u) walked own_is
      rounds.0.stands.dead (rounds.0.places stood.files) (still_quiet y z same stood.quiet) (λ e. ap is_some same.stop ∙ e)

  -- its locks
  pub locks_behind : (c u : ℕ) → AreGot p w c u → AreGot walked.to (after w a.client (Logs R ∷ []) walked.to.core) c u
  locks_behind c u got =
      still_got p walked.to w (after w a.client (Logs R ∷ []) walked.to.core) did_operate.goes.grows c u
      (λ n.
      sym (ap (λ (m : SystemState). lock_of m u n) stood.stands.at.system
      ∙ (ap (λ l. get l (u, n)) (sym same.locks) ∙ ap (λ (k : CoreState). lock_of k.system u n) (sym walked.core_there))))
      got

  -- the plan behind it
  pub plan_behind : IsAtCall walked.to q t call phase
  plan_behind = record {
    txn = ap (λ (m : Planned). m.txn) further.same ∙ plan_is.txn;
    call_is = ap (λ (m : Planned). m.call) further.same ∙ plan_is.call_is;
    phase_is = ap (λ (m : Planned). m.phase) further.same ∙ plan_is.phase_is;
    rest = subst (λ (c : CoreState). IsAtRest c.regions c.system q) (sym walked.core_there) further.rest;
    stands = subst (λ (c : CoreState). AtPlan walked.to.log c q) (sym walked.core_there) (subst (λ (l : List Record). AtPlan l (core hs z u) q) (sym walked.log_there) once.at);
  }

  pub rows_behind : (new : State) → ((n : ℕ) → t ≡ n → Owns new n) → ((n : ℕ) → Owns state n → t ≡ n) → RowsTell state y new z
  rows_behind new owns_new only e n lives = by_test (t == n) refl
    where
      by_test : (b : Bool) → (t == n) ≡ b → Owns new n ⊎ ((is_open (state_of y n) ≡ true) × (Owns state n → ⊥))
      by_test true g = inl (owns_new n (equal t n g))
      by_test false g = inr (ap is_open (sym (same.states n)) ∙ lives, λ one. let yes : (t == n) ≡ true = same_number t n (only n one) in let no : true ≡ false = sym yes ∙ g in absurd (cc))

-- ---- onward, or back before its answer
module _ {V : Type 0} (means : Ghosts V)
    (precheck : Bool) (s : Start) (B : List (List Record)) (p : Point) (w : World) (a : Standing) (gs hs : List RegionState) (y z : SystemState) (v : Vaulted V) (k j : Client)
    (x x' : Transaction) (plan q : Planned) (stood : Stood means s B p w precheck gs y v) (is : IsOf w a k) (fits : FitsCalling p w a (rest_of k) x plan)
    (whole : IsWhole plan) (further : OneFurther precheck plan gs y q hs z) where
  abbrev rec : Record
  rec = record_on (is_back plan) plan.txn further.block

  way : Led means plan.txn s B p w a.client gs y v (p.log ++ rec ∷ []) (core hs z p.core.vault)
  way = walked means precheck s B p w a gs hs y z v (Calling x plan) x.txn (λ n e. e) fits.call IsCalling plan q stood fits.plan_is further

  did : Did means precheck s B p w a.client (Calling x plan) gs y v (Logs rec ∷ []) B way.to hs z v
  unfolding way walked
  did = did_operate means precheck s B p w a gs hs y z v (Calling x plan) x.txn (λ n e. e) fits.call IsCalling plan q stood fits.plan_is further

  abbrev here : World
  here = after w a.client (Logs rec ∷ []) way.to.core

  -- it is work of the call
  is_work : (back : Bool) → is_back plan ≡ back → IsWork here a.client x.txn fits.call (length (log_of w), Logs (record_on back plan.txn further.block))
  is_work true e = inl fits.plan_is.txn
  is_work false e = (
    fits.plan_is.txn,
    key_there (plan_next plan) fits.call further.block (subst (λ c. IsBlockOf (plan_next plan) (call_key c) further.block) fits.plan_is.call_is further.is.of),
    subst (λ c. IsOpOf c further.block.op) fits.plan_is.call_is (op_of plan.geometry plan.txn plan.call plan.stage further.block.region further.block.op whole.at (onward_op plan further.block.region further.block.op e fits.plan_is.phase_is further.is.of.op)),
  )

  works_behind : AreWork here a.client x.txn fits.call (a.pending ++ (length (log_of w), Logs rec) ∷ [])
  works_behind = all_append (IsWork here a.client x.txn fits.call) a.pending ((length (log_of w), Logs rec) ∷ []) (works w here did.goes.grows a.client x.txn fits.call a.pending fits.work) (is_work (is_back plan) refl, tt)

  -- it takes back where its answer does, and makes an operation where it has no answer
  turned_behind : HasTurned (goes_back (answer_of q.geometry q.call q.stage)) x.txn (a.pending ++ (length (log_of w), Logs rec) ∷ [])
  turned_behind = subst (λ t. HasTurned now_back x.txn (a.pending ++ (length (log_of w), Logs (record_on (is_back plan) t further.block)) ∷ [])) (sym fits.plan_is.txn) (by_back (is_back plan) refl further.logged)
    where
      was_back : Bool
      was_back = goes_back (answer_of plan.geometry plan.call plan.stage)

      now_back : Bool
      now_back = goes_back (answer_of q.geometry q.call q.stage)

      by_back : (b : Bool) → is_back plan ≡ b → IsLogged b plan further.block y q z → HasTurned now_back x.txn (a.pending ++ (length (log_of w), Logs (record_on b x.txn further.block)) ∷ [])
      by_back true e logged = turned_back was_back now_back x.txn (length (log_of w)) a.pending further.block
          (ap (λ (m : Planned). goes_back (answer_of m.geometry m.call m.stage)) logged.2 ∙ back_answered plan.phase (answer_of plan.geometry plan.call plan.stage) plan.changes fits.plan_is.phase_is e) fits.turned
      by_back false e logged = turned_forward was_back now_back x.txn (length (log_of w)) a.pending further.block
          (unanswered plan.geometry plan.txn plan.call plan.stage (further.block.region, further.block.op) (onward_op plan further.block.region further.block.op e fits.plan_is.phase_is further.is.of.op)) fits.turned

  undone_behind : (us : List Pending) → undos_behind x.txn us (a.pending ++ (length (log_of w), Logs rec) ∷ []) ≡ us ++ q.changes
  undone_behind us =
      undone_then x.txn us (us ++ plan.changes) a.pending ((length (log_of w), Logs rec) ∷ []) (fits.undone us)
      ∙ subst (λ t. undo_step t (us ++ plan.changes) rec ≡ us ++ q.changes) fits.plan_is.txn (undone_once plan q further.block y z (is_back plan) refl further.is.of further.logged us)

  -- how near its death is
  nearer_behind : (back : Bool) → deadly_behind back x.deadly ≡ left fits.deadly (operations x.txn (a.pending ++ (length (log_of w), Logs (record_on back plan.txn further.block)) ∷ []))
  nearer_behind true = fits.nearer ∙ ap (left fits.deadly) (sym (subst (λ t. operations x.txn (a.pending ++ (length (log_of w), Logs (Back t further.block)) ∷ []) ≡ operations x.txn a.pending) (sym fits.plan_is.txn) (uncounted x.txn a.pending (length (log_of w)) further.block)))
  nearer_behind false =
      ap less_one fits.nearer
      ∙ (nearer_one fits.deadly (operations x.txn a.pending)
      ∙ ap (left fits.deadly) (sym (subst (λ t. operations x.txn (a.pending ++ (length (log_of w), Logs (Forward t further.block)) ∷ []) ≡ operations x.txn a.pending + 1) (sym fits.plan_is.txn) (counted x.txn a.pending (length (log_of w)) further.block))))

  spared_behind : (back : Bool) → (back ≡ false → x.deadly ≡ Some 1 → ⊥) → spares fits.deadly (operations x.txn (a.pending ++ (length (log_of w), Logs (record_on back plan.txn further.block)) ∷ [])) ≡ true
  spared_behind true lives = ap (spares fits.deadly) (subst (λ t. operations x.txn (a.pending ++ (length (log_of w), Logs (Back t further.block)) ∷ []) ≡ operations x.txn a.pending) (sym fits.plan_is.txn) (uncounted x.txn a.pending (length (log_of w)) further.block)) ∙ fits.spared
  spared_behind false lives =
      ap (spares fits.deadly) (subst (λ t. operations x.txn (a.pending ++ (length (log_of w), Logs (Forward t further.block)) ∷ []) ≡ operations x.txn a.pending + 1) (sym fits.plan_is.txn) (counted x.txn a.pending (length (log_of w)) further.block))
      ∙ spared_one fits.deadly (operations x.txn a.pending) fits.spared (λ e. lives refl (fits.nearer ∙ e))

  pub operate_on : IsFurther x (is_back plan) x' → (is_back plan ≡ false → x.deadly ≡ Some 1 → ⊥) → j.transcript ≡ k.transcript → j.rest.now ≡ k.rest.now → j.state ≡ Calling x' q
      → Went means precheck s B p w a (Calling x plan) gs y v true j hs z v
  unfolding way walked
  operate_on f lives transcript rest state =
      went_on means precheck s B B p way.to w a (Calling x plan) gs hs y z v v (Logs rec ∷ []) k j is did true transcript
      (subst (λ (n : State). Fits means s B way.to here hs z v (behind a w (Logs rec ∷ [])) (rest_of j) n) (sym state) fitting)
      (λ e. rows)
    where
      same_rest : rest_of j ≡ rest_of k
      same_rest = ap (map act_of) rest

      fitting : FitsCalling way.to here (behind a w (Logs rec ∷ [])) (rest_of j) x' q
      fitting = record {
        call = fits.call;
        more = fits.more;
        calls = same_rest ∙ fits.calls;
        deadly = fits.deadly;
        spot = fits.spot
            ∙ (ap (λ t. at (IsWithin t x.tries (map act_of x.commands.now) fits.deadly false) (rest_of k)) (sym f.txn)
            ∙ (ap (λ n. at (IsWithin x'.txn n (map act_of x.commands.now) fits.deadly false) (rest_of k)) (sym f.tries)
            ∙ (ap (λ cs. at (IsWithin x'.txn x'.tries (map act_of cs) fits.deadly false) (rest_of k)) (sym f.commands)
            ∙ ap (at (IsWithin x'.txn x'.tries (map act_of x'.commands.now) fits.deadly false)) (sym same_rest))));
        work = subst (λ t. AreWork here a.client t fits.call (a.pending ++ (length (log_of w), Logs rec) ∷ [])) (sym f.txn) works_behind;
        granted = granted_more a.pending ((length (log_of w), Logs rec) ∷ []) fits.granted;
        turned = subst (λ t. HasTurned (goes_back (answer_of q.geometry q.call q.stage)) t (a.pending ++ (length (log_of w), Logs rec) ∷ [])) (sym f.txn) turned_behind;
        undone = λ us. ap (λ t. undos_behind t us (a.pending ++ (length (log_of w), Logs rec) ∷ [])) f.txn ∙ undone_behind us;
        nearer = f.deadly ∙ (nearer_behind (is_back plan) ∙ ap (λ t. left fits.deadly (operations t (a.pending ++ (length (log_of w), Logs rec) ∷ []))) (sym f.txn));
        spared = ap (λ t. spares fits.deadly (operations t (a.pending ++ (length (log_of w), Logs rec) ∷ []))) f.txn ∙ spared_behind (is_back plan) lives;
        placed = subst (IsPlaced true) (sym same_rest) fits.placed;
        again = record {
          more = fits.again.more;
          begins = ap (map act_of) f.commands ∙ fits.again.begins;
          placed = subst (λ cs. IsPlaced false (map act_of cs)) (sym f.commands) fits.again.placed;
          few = omega (arith, f.tries, fits.again.few);
        };
        locks = subst (λ t. AreGot way.to here a.client t) (sym f.txn) (locks_behind means precheck s B p w a gs hs y z v (Calling x plan) x.txn (λ n e. e) fits.call IsCalling plan q stood fits.plan_is further a.client x.txn fits.locks);
        plan_is = subst (λ t. IsAtCall way.to q t fits.call IsCalling) (sym f.txn) (plan_behind means precheck s B p w a gs hs y z v (Calling x plan) x.txn (λ n e. e) fits.call IsCalling plan q stood fits.plan_is further);
      }

      rows : RowsTell (Calling x plan) y j.state z
      rows = rows_behind means precheck s B p w a gs hs y z v (Calling x plan) x.txn (λ n e. e) fits.call IsCalling plan q stood fits.plan_is further j.state
          (λ n e. subst (λ (m : State). Owns m n) (sym state) (f.txn ∙ e)) (λ n e. e)

-- ---- a change of a refused call is taken back
module _ {V : Type 0} (means : Ghosts V)
    (precheck : Bool) (s : Start) (B : List (List Record)) (p : Point) (w : World) (a : Standing) (gs hs : List RegionState) (y z : SystemState) (v : Vaulted V) (k j : Client)
    (x : Transaction) (plan q : Planned) (why : Why) (stood : Stood means s B p w precheck gs y v) (is : IsOf w a k) (fits : FitsTakingBack p w a (rest_of k) x plan why)
    (further : OneFurther precheck plan gs y q hs z) where
  back_now : is_back plan ≡ true
  back_now = ap (λ f. is_back_in f (answer_of plan.geometry plan.call plan.stage) plan.changes) fits.plan_is.phase_is

  abbrev back_rec : Record
  back_rec = record_on (is_back plan) plan.txn further.block

  back_way : Led means plan.txn s B p w a.client gs y v (p.log ++ back_rec ∷ []) (core hs z p.core.vault)
  back_way = walked means precheck s B p w a gs hs y z v (TakingBack x plan why) x.txn (λ n e. e) fits.call IsRefused plan q stood fits.plan_is further

  did_back : Did means precheck s B p w a.client (TakingBack x plan why) gs y v (Logs back_rec ∷ []) B back_way.to hs z v
  unfolding back_way walked
  did_back = did_operate means precheck s B p w a gs hs y z v (TakingBack x plan why) x.txn (λ n e. e) fits.call IsRefused plan q stood fits.plan_is further

  abbrev there : World
  there = after w a.client (Logs back_rec ∷ []) back_way.to.core

  is_aside : (b : Bool) → b ≡ true → IsAside there a.client x.txn (length (log_of w), Logs (record_on b plan.txn further.block))
  is_aside true e = inl fits.plan_is.txn
  is_aside false e = absurd (cc)

  pub back_on : j.transcript ≡ k.transcript → j.rest.now ≡ k.rest.now → j.state ≡ TakingBack x q why → Went means precheck s B p w a (TakingBack x plan why) gs y v true j hs z v
  unfolding back_way walked
  back_on transcript rest state =
      went_on means precheck s B B p back_way.to w a (TakingBack x plan why) gs hs y z v v (Logs back_rec ∷ []) k j is did_back true transcript
      (subst (λ (n : State). Fits means s B back_way.to there hs z v (behind a w (Logs back_rec ∷ [])) (rest_of j) n) (sym state) fitting)
      (λ e. rows_behind means precheck s B p w a gs hs y z v (TakingBack x plan why) x.txn (λ n e'. e') fits.call IsRefused plan q stood fits.plan_is further j.state (λ n e'. subst (λ (m : State). Owns m n) (sym state) e') (λ n e'. e'))
    where
      same_rest : rest_of j ≡ rest_of k
      same_rest = ap (map act_of) rest

      fitting : FitsTakingBack back_way.to there (behind a w (Logs back_rec ∷ [])) (rest_of j) x q why
      fitting = record {
        call = fits.call;
        more = fits.more;
        calls = same_rest ∙ fits.calls;
        deadly = fits.deadly;
        spot = fits.spot ∙ ap (at (IsWithin x.txn x.tries (map act_of x.commands.now) fits.deadly false)) (sym same_rest);
        work = fits.work;
        met = fits.met;
        back = fits.back ++ (length (log_of w), Logs back_rec) ∷ [];
        pending = ap (λ l. l ++ (length (log_of w), Logs back_rec) ∷ []) fits.pending ∙ append_assoc fits.work ((fits.met, Meets (reason_of why)) ∷ fits.back) ((length (log_of w), Logs back_rec) ∷ []);
        tried = all_tried w there did_back.goes.grows a.client x.txn fits.call fits.work fits.tried;
        stays = fits.stays;
        granted = fits.granted;
        cause = met w there did_back.goes.grows a.client fits.met (Calls fits.call) (Some x.txn) (reason_of why) fits.cause;
        survives = survives w there did_back.goes.grows a.client fits.met x.txn fits.call fits.deadly (operations x.txn fits.work) (reason_of why) fits.cause fits.survives;
        no_stop = fits.no_stop;
        aside = all_append (IsAside there a.client x.txn) fits.back ((length (log_of w), Logs back_rec) ∷ []) (asides w there did_back.goes.grows a.client x.txn fits.back fits.aside) (is_aside (is_back plan) back_now, tt);
        undone = λ us.
            undone_then x.txn us (us ++ plan.changes) a.pending ((length (log_of w), Logs back_rec) ∷ []) (fits.undone us)
            ∙ subst (λ t. undo_step t (us ++ plan.changes) back_rec ≡ us ++ q.changes) fits.plan_is.txn (undone_once plan q further.block y z (is_back plan) refl further.is.of further.logged us);
        nearer = fits.nearer;
        spared = fits.spared;
        placed = subst (IsPlaced true) (sym same_rest) fits.placed;
        again = fits.again;
        locks = locks_behind means precheck s B p w a gs hs y z v (TakingBack x plan why) x.txn (λ n e. e) fits.call IsRefused plan q stood fits.plan_is further a.client x.txn fits.locks;
        plan_is = plan_behind means precheck s B p w a gs hs y z v (TakingBack x plan why) x.txn (λ n e. e) fits.call IsRefused plan q stood fits.plan_is further;
      }
