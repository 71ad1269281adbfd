-- What must be so behind which entries each entry is added. Who adds one may rely on it that all entries before it fit.
--     Outset                   how a round begins
--     before o, log_by o P     the log at the start, and behind these entries
--     state_by o P t           the state of t behind them
--     dead_by o r P            which transaction has a dead hold of the region r behind them
--     NoneLive P t             no region has a live hold of t
--     acting_for x             the transaction that the deed x is done for by who acts for it
--     TxnFits o P x            where the deed x begins, claims or commits a transaction, it stands so that it may
--     LookFits o P c r         the client c latched the region r, which was undamaged where a look is asked for, and since then did nothing more, and no
--                              other deed wanted the hold
--     BeganAudit o P c b       the client c began the audit from record b
--     AuditFits o P c b found  its end may follow, which names these regions: it has passed each region, and found these damaged
--     HoldFits o P x c         what a deed on a region is done under: the client's live hold, for the deed's transaction, or a dead one that it leaves
--     DeedFits o P x c         what a deed asks for
--     LatchFits, UpdateFits, FreeFits, PassFits    what the other entries ask for
--     EntryFits o P e          what the entry e asks for
--     Fits o P p               so it is of the entry p, and its notes have signed it
--     AllFit o H               so may each of these entries
use Rattle.std.specs.Prelude.{◌≡◌, ◌⊎◌, ℕ, ◌<◌, Bool, true, false, List, [], ◌∷◌, ◌++◌, if◌then◌else◌, ◌==◌, not, Option, Some, None, fold, slice_get, take, length}
use Rattle.dali_geometry.specs.Places.{regions}
use Rattle.dali_record.specs.declared.records.Record.{Record}
use Rattle.dali_record.specs.declared.records.Record.TheVariants.{Begin, Forward, Back, Solo, Done, Commit, Ended, AuditBegin}
use Rattle.dali_record.specs.Damage.{has}
use Rattle.dali_region.specs.declared.Hold.{Hold}
use Rattle.dali_region.specs.State.{RegionState}
use Rattle.dali_att.specs.declared.state.State.{State}
use Rattle.dali_att.specs.declared.state.State.TheVariants.{Live}
use Rattle.dali_runs.specs.State.{CoreState, hold_of, log_after, state_of}
use Rattle.dali_runs.specs.Steps.{audit_record}
use Rattle.dali_transcripts.specs.World.{Deed, Logs, DiesOn, Claims, GivesBack, GetsLock, Yields, FindsDead, logged_by, state_step, stray_after, is_dead_in}
use Rattle.dali_transcripts.specs.Rounds.{is_on}
use Rattle.dali_notes.specs.History.{signs}
use Rattle.dali_concurrent.specs.Entries.{Latches, Entry, Did, Latched, Updated, Freed, Passed, Entries, At, notes_of, deeds_of, done_by, on, live_by, actor_by}

pub record Outset : Type 0 where
  -- the core at the start, the records that stood when its system was made, and whether a latch compares a region's words with its codeword
  pub old : CoreState
  pub made : List Record
  pub precheck : Bool

abbrev pub before : Outset → List Record
before o = log_after o.made o.old.system

abbrev pub log_by : Outset → Entries → List Record
log_by o P = before o ++ logged_by (deeds_of P)

abbrev pub count_of : Outset → ℕ
count_of o = regions o.old.system.sizes

abbrev pub state_by : Outset → Entries → ℕ → Option State
state_by o P t = fold (state_step t) (state_of o.old.system t) (deeds_of P)

-- ---- holds
-- whose hold it is, if it is live;  and if it is dead
abbrev pub live_in : Option Hold → Option ℕ
live_in None = None
live_in (Some h) = if h.dead then None else Some h.txn

abbrev pub dead_in : Option Hold → Option ℕ
dead_in None = None
dead_in (Some h) = if h.dead then Some h.txn else None

abbrev pub dead_deed : ℕ → Option ℕ → Deed → Option ℕ
dead_deed r o (DiesOn t q) = if q == r then Some t else o
dead_deed r o (GivesBack t latched) = o
dead_deed r o x = if is_on r x then None else o

abbrev pub dead_step : ℕ → Option ℕ → List ℕ × Entry → Option ℕ
dead_step r o (k, Did x c) = dead_deed r o x
dead_step r o (k, Latched q t c) = if q == r then None else o
dead_step r o (k, Freed q c) = if q == r then None else o
dead_step r o p = o

abbrev pub dead_by : Outset → ℕ → Entries → Option ℕ
dead_by o r P = fold (dead_step r) (dead_in (hold_of o.old r)) P

abbrev pub NoneLive : Entries → ℕ → Type 0
NoneLive P t = (r c : ℕ) → live_by r P ≡ Some (t, c) → ⊥

-- ---- a deed
abbrev pub acting_for : Deed → Option ℕ
acting_for (Logs (Forward t b)) = Some t
acting_for (Logs (Back t b)) = Some t
acting_for (Logs (Solo n t b)) = Some t
acting_for (Logs (Done t k a)) = Some t
acting_for (Logs (Commit t)) = Some t
acting_for (Logs (Ended t)) = Some t
acting_for (DiesOn t r) = Some t
acting_for (GivesBack t latched) = Some t
acting_for (GetsLock t k m) = Some t
acting_for (Yields f) = Some f.txn
acting_for (FindsDead f) = Some f.txn
acting_for x = None

-- one that begins wasn't there, one that is committed was open, and one that is claimed was dead
abbrev pub TxnFits : Outset → Entries → Deed → Type 0
TxnFits o P (Logs (Begin t)) = (state_by o P t ≡ None) × NoneLive P t
TxnFits o P (Logs (Commit t)) = state_by o P t ≡ Some Live
TxnFits o P (Claims t) = (is_dead_in (state_by o P t) ≡ true) × NoneLive P t
TxnFits o P x = Unit {0}

-- the regions on which a deed needs a look
abbrev pub is_looked : ℕ → Deed → Bool
is_looked r (Logs (Forward t b)) = b.region == r
is_looked r (DiesOn t q) = q == r
is_looked r x = false

pub record LookFits (o : Outset) (P : Entries) (c r : ℕ) : Type 0 where
  pub place : ℕ
  pub notes : List ℕ
  pub txn : ℕ
  pub there : At P place (notes, Latched r txn c)
  pub alone : done_by c P ≡ done_by c (take place P) ++ Latches r ∷ []
  pub held : on r P ≡ on r (take place P)
  -- nor has its hold ended without a deed
  pub live : live_by r P ≡ Some (txn, c)
  -- who takes back what was done may latch a damaged region too
  pub right : o.precheck ≡ true → (g : RegionState) → slice_get o.old.regions r ≡ Some g → stray_after r g.stray (deeds_of (take place P)) ≡ 0

-- who operates on a region, takes back, frees or dies there has its live hold;  what is given back is dead there
abbrev pub HoldFits : Outset → Entries → Deed → ℕ → Type 0
HoldFits o P (Logs (Forward t b)) c = live_by b.region P ≡ Some (t, c)
HoldFits o P (Logs (Back t b)) c = live_by b.region P ≡ Some (t, c)
HoldFits o P (Logs (Solo n t b)) c = live_by b.region P ≡ Some (t, c)
HoldFits o P (DiesOn t r) c = live_by r P ≡ Some (t, c)
HoldFits o P (GivesBack t (Some r)) c = dead_by o r P ≡ Some t
HoldFits o P x c = Unit {0}

pub record BeganAudit (o : Outset) (P : Entries) (c b : ℕ) : Type 0 where
  pub place : ℕ
  pub notes : List ℕ
  pub there : At P place (notes, Did (Logs AuditBegin) c)
  pub number : b ≡ length (log_by o (take place P))

pub record AuditFits (o : Outset) (P : Entries) (c b : ℕ) (found : List ℕ) : Type 0 where
  pub began : BeganAudit o P c b
  pub passed : (r : ℕ) → r < count_of o → (p : ℕ) × (k : List ℕ) × At P p (k, Passed r b (not (has found r)))

pub record DeedFits (o : Outset) (P : Entries) (x : Deed) (c : ℕ) : Type 0 where
  pub txn : TxnFits o P x
  -- its client acts for the transaction
  pub acts : (t : ℕ) → acting_for x ≡ Some t → actor_by t P ≡ Some c
  -- an audit is ended by who began it, and has passed each region
  pub audited : (b : ℕ) (found : List ℕ) → x ≡ Logs (audit_record b found) → AuditFits o P c b found
  pub looked : (r : ℕ) → is_looked r x ≡ true → LookFits o P c r
  pub held : HoldFits o P x c

-- ---- other entries
pub record LatchFits (o : Outset) (P : Entries) (r t c : ℕ) : Type 0 where
  pub within : r < count_of o
  pub acts : actor_by t P ≡ Some c
  -- nobody holds it
  pub free : (live_by r P ≡ None) × (dead_by o r P ≡ None)

-- who changes a region beside its latch and its deeds has the live hold
abbrev pub UpdateFits : Entries → ℕ → ℕ → Type 0
UpdateFits P r c = (t : ℕ) × (live_by r P ≡ Some (t, c))

-- who has the live hold lets it go, and who acts for it takes back what a dead one left
pub record FreeFits (o : Outset) (P : Entries) (r c : ℕ) : Type 0 where
  pub txn : ℕ
  pub acts : actor_by txn P ≡ Some c
  pub held : (live_by r P ≡ Some (txn, c)) ⊎ (dead_by o r P ≡ Some txn)

pub record PassFits (o : Outset) (P : Entries) (r b : ℕ) (right : Bool) : Type 0 where
  pub begun : slice_get (log_by o P) b ≡ Some AuditBegin
  pub tells : (g : RegionState) → slice_get o.old.regions r ≡ Some g → right ≡ (stray_after r g.stray (deeds_of P) == 0)

abbrev pub EntryFits : Outset → Entries → Entry → Type 0
EntryFits o P (Did x c) = DeedFits o P x c
EntryFits o P (Latched r t c) = LatchFits o P r t c
EntryFits o P (Updated r c) = UpdateFits P r c
EntryFits o P (Freed r c) = FreeFits o P r c
EntryFits o P (Passed r b right) = PassFits o P r b right
EntryFits o P e = Unit {0}

pub record Fits (o : Outset) (P : Entries) (p : List ℕ × Entry) : Type 0 where
  -- others may sign it too
  pub by : (k : ℕ) → signs k (notes_of (count_of o) p.1) ≡ true → signs k p.0 ≡ true
  pub fits : EntryFits o P p.1

-- ---- all
abbrev pub AllFit : Outset → Entries → Type 0
AllFit o H = (i : ℕ) (p : List ℕ × Entry) → At H i p → Fits o (take i H) p
