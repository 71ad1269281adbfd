-- Wrong transcripts and wrong rounds: none of these is one.
use Rattle.std.specs.Prelude.{◌≡◌, ◌≢◌, ℕ, ◌<◌, ◌≤◌, ◌⊎◌, ◌==◌, Bool, true, false, List, [], ◌∷◌, ◌++◌, Option, Some, None, Contains, slice_get, sum_by, take}
use Rattle.dali_record.specs.declared.operations.Block.{Block}
use Rattle.dali_record.specs.declared.records.Call.{Call}
use Rattle.dali_record.specs.declared.records.Answer.{Answer}
use Rattle.dali_record.specs.declared.records.Answer.TheVariants.{Ok as AnswerOk, Exists}
use Rattle.dali_record.specs.declared.records.Record.{Record}
use Rattle.dali_record.specs.declared.records.Record.TheVariants.{Begin, Forward, Back, Done, Commit, AuditBegin, AuditClean}
use Rattle.dali_region.specs.State.{RegionState, IsLive}
use Rattle.dali_att.specs.declared.state.State.TheVariants.{Live}
use Rattle.dali_locks.specs.declared.mode.Mode.{Mode}
use Rattle.dali_locks.specs.declared.mode.Mode.TheVariants.{Shared}
use Rattle.dali_locks.specs.Locks.{both_shared}
use Rattle.dali_runs.specs.declared.causes.Cause.{Cause}
use Rattle.dali_runs.specs.declared.causes.Cause.TheVariants.{Damage}
use Rattle.dali_runs.specs.declared.refusals.Refusal.{Refusal}
use Rattle.dali_runs.specs.Run.{failed_first}
use Rattle.dali_runs.specs.State.{CoreState, state_of, lock_of, stable}
use Rattle.dali_runs.specs.Steps.{audit_record}
use Rattle.dali_transcripts.specs.Words.{Act, Calls, Commits, Audits, Checkpoints, StoppedBy, Full, Damaged, UnderWay, Why, is_stop, Said, Begun, Answered, CommitOk, Aborted, LeftOpen, Died, Busy, CheckpointSaid, Refused}
use Rattle.dali_record.specs.Epochs.{last_epoch}
use Rattle.dali_record.specs.Spelling.{record_length}
use Rattle.dali_transcripts.specs.World.{Deed, Logs, DiesOn, Meets, Claims, GivesBack, GetsLock, Yields, World, log_of, log_at, HasGot, lock_after, lock_at, state_at, is_dead_in, is_claimed_in, claimer_at, stop_at, stray_after, under_way}
use Rattle.dali_transcripts.specs.Moves.{Receipt, Outside, Within, Ending, Move, Answers, IsRefusedCall, GivesWay, said as says, own as does}
use Rattle.dali_transcripts.specs.Causes.{AreUnfinished, HasCause}
use Rattle.dali_transcripts.specs.Transcripts.{IsTranscript, Told, EachTells, AreTranscripts}
use Rattle.dali_transcripts.specs.Rounds.{is_on, IsRound}
use Rattle.dali_transcripts.specs.Worked.{put, free_cell, world}

-- whatever the world is, and whatever the client was told
abbrev pub Never : (World → List Said → Type 0) → List Receipt → Type 0
Never lines did = (w : World) (c : ℕ) (acts : List Act) (said : List Said) → lines w said → IsTranscript w c acts said did → ⊥

abbrev pub Says : List Said → World → List Said → Type 0
Says lines w said = said ≡ lines

-- whatever the step is, and the world in which it is done
abbrev pub NoStep : List Said → List Receipt → Type 0
NoStep lines did = (w : World) (c : ℕ) (x : Move) → says x ≡ lines → does x ≡ did → HasCause w c x → ⊥

-- the stray writes to the region cancel at each moment
abbrev pub IsCleanSoFar : World → ℕ → Type 0
IsCleanSoFar w r = (i : ℕ) (g : RegionState) → slice_get w.old.regions r ≡ Some g → stray_after r g.stray (take i w.happened) ≡ 0

-- at this place before i the client did something else, or another client what wants the hold of the region
pub record WasLastAt (w : World) (k i c r : ℕ) (x : Deed) (d : ℕ) : Type 0 where
  pub before : k < i
  pub there : slice_get w.happened k ≡ Some (x, d)
  pub wants : ((d == c) ≡ true) ⊎ (is_on r x ≡ true)

-- behind that place and up to i the stray writes to the region never cancel
abbrev pub IsDamagedFrom : World → (place end region : ℕ) → RegionState → Type 0
IsDamagedFrom w k i r g = (j : ℕ) → k < j → j ≤ i → stray_after r g.stray (take j w.happened) ≢ 0

-- no client gives way; this one is dead all the time; nothing stops the engine
abbrev pub NoneYields : World → Type 0
NoneYields w = (i c : ℕ) (f : Refusal) → slice_get w.happened i ≡ Some (Yields f, c) → ⊥

abbrev pub IsDeadThroughout : World → ℕ → Type 0
IsDeadThroughout w t = (i : ℕ) → is_dead_in (state_at w i t) ≡ true

abbrev pub RunsThroughout : World → Type 0
RunsThroughout w = (i : ℕ) → stop_at w i ≡ None

-- before this place no other client than c was granted the lock for t
abbrev pub IsItsOwn : World → (place client txn key : ℕ) → Type 0
IsItsOwn w i c t k = (d : ℕ) (m : Mode) → HasGot (take i w.happened) d t k m → (d == c) ≡ true

-- nothing is done in it
abbrev pub IsIdle : World → Type 0
IsIdle w = w.happened ≡ []

-- whatever the round is, however it ends
abbrev pub NoRound : (World → CoreState → Type 0) → Type 0
NoRound fails =
    (precheck whole : Bool) (before : List Record) (old new : CoreState) (blocks : List Told) (lines : List (List Said)) (receipts : List (List ℕ))
    → (round : IsRound precheck whole before old new blocks lines receipts) → fails round.world new → ⊥

pub record WrongOnes : Type 0 where
  -- another number
  pub another_number : Never (Says (Begun 2 ∷ [])) ((1, Logs (Begin 1)) ∷ [])
  -- a record that no line tells
  pub untold : Never (Says []) ((1, Logs (Begin 1)) ∷ [])
  -- a record that two lines tell
  pub told_twice : Never (Says (Begun 1 ∷ Begun 1 ∷ [])) ((1, Logs (Begin 1)) ∷ [])
  -- another answer than the one that was did
  pub another_answer : (call : Call) → Never (Says (Begun 1 ∷ Answered call AnswerOk ∷ [])) ((1, Logs (Begin 1)) ∷ (2, Logs (Done 1 call Exists)) ∷ [])
  -- a commit that isn't flushed
  pub not_flushed : (t n : ℕ) → Never (λ w said. (stable w.core ≤ n) × Contains said CommitOk) ((n, Logs (Commit t)) ∷ [])
  -- no request is refused, or only where the holder is dead
  pub busy_by_itself : (h : ℕ) (did : List Receipt) → Never (λ w said. NoneYields w × Contains said (Busy h)) did
  pub busy_of_a_dead_one : (h : ℕ) (did : List Receipt) → Never (λ w said. IsDeadThroughout w h × Contains said (Busy h)) did
  -- the engine isn't stopped
  pub stopped_by_itself : (act : Act) (cause : Cause) (did : List Receipt) → Never (λ w said. RunsThroughout w × Contains said (Refused act (StoppedBy cause))) did
  pub open_by_itself : (did : List Receipt) → Never (λ w said. RunsThroughout w × Contains said LeftOpen) did
  -- nothing was taken back
  pub not_ended : (t n : ℕ) → Never (λ w said. Contains said Aborted) ((n, Logs (Begin t)) ∷ [])
  -- an end that the log never had
  pub end_never_had : (act : Act) (end limit : ℕ) (did : List Receipt) → Never (λ w said. (sum_by record_length (log_of w) < end) × Contains said (Refused act (Full end limit))) did
  -- damage that no audit found
  pub stopped_too_early : (act : Act) (r : ℕ) (did : List Receipt) → Never (λ w said. ((i : ℕ) → failed_first (last_epoch (log_at w i)).records ≡ None) × Contains said (Refused act (StoppedBy (Damage r)))) did
  -- no checkpoint of another client is under way
  pub under_way_by_itself : (did : List Receipt) → Never (λ w said. ((i : ℕ) → under_way (take i w.happened) ≡ None) × Contains said (Refused Checkpoints UnderWay)) did
  -- damage, where no latch looks, and in a region that no one poked
  pub unchecked : (call : Call) (r codeword found : ℕ) (did : List Receipt) → Never (λ w said. (w.precheck ≡ false) × Contains said (Refused (Calls call) (Damaged r codeword found))) did
  pub unpoked : (call : Call) (r codeword found : ℕ) (did : List Receipt) → Never (λ w said. IsCleanSoFar w r × Contains said (Refused (Calls call) (Damaged r codeword found))) did
  -- a checkpoint that moved no anchor
  pub not_moved : (k b n m : ℕ) → Never (λ w said. Contains said (CheckpointSaid k)) ((b, Logs AuditBegin) ∷ (n, Logs (AuditClean m)) ∷ [])
  -- a refusal that never happened
  pub never_met : (act : Act) (end limit : ℕ) (did : List Receipt) → Never (λ w said. (w.happened ≡ []) × Contains said (Refused act (Full end limit))) did
  -- a call that was refused by a full log, and keeps its insert; or takes back one that was there before it
  pub refused_and_kept : (call : Call) (t n m end limit : ℕ)
      → NoStep (Refused (Calls call) (Full end limit) ∷ []) ((n, Logs (Forward t (put 97 0))) ∷ (m, Meets (Full end limit)) ∷ [])
  pub refused_and_more : (w : World) (c t tries n m end limit : ℕ) (call : Call) (cs rest : List Act)
      → HasCause w c (IsRefusedCall t tries cs None false [] m ((n, Logs (Back t free_cell)) ∷ []) call (Full end limit) rest) → ⊥
  -- a call that makes an operation behind a refusal
  pub refused_and_on : (w : World) (c t tries m n k end limit : ℕ) (b : Block) (call : Call) (cs rest : List Act)
      → HasCause w c (IsRefusedCall t tries cs None false ((m, Meets (Full end limit)) ∷ (n, Logs (Forward t b)) ∷ []) k [] call (Full end limit) rest) → ⊥
  -- a line after a death
  pub said_after_death : (first later : List Said) (line : Said) (did : List Receipt) → Never (Says (first ++ Died ∷ line ∷ later)) did
  -- a client that nothing is said of
  pub dropped : (w : World) (b : Told) → EachTells true w (b ∷ []) [] → ⊥
  -- a checkpoint under way, a live hold, a claimed transaction, a store that failed while the engine runs: behind a round that was cut too
  pub left_under_way : NoRound (λ w new. new.system.checking ≡ true)
  pub left_held : (r : ℕ) (g : RegionState) → NoRound (λ w new. (slice_get new.regions r ≡ Some g) × IsLive g)
  pub left_claimed : (t : ℕ) → NoRound (λ w new. is_claimed_in (state_of new.system t) ≡ true)
  pub left_running : NoRound (λ w new. (new.vault.stopped ≡ true) × (new.system.stop ≡ None))
  -- a claim of a transaction that isn't dead; a claim that another client gives back; a request that is refused behind a stop
  pub live_claimed : (i c t : ℕ) → NoRound (λ w new. (slice_get w.happened i ≡ Some (Claims t, c)) × (is_dead_in (state_at w i t) ≡ false))
  pub given_back_by_another : (i c t : ℕ) (latched : Option ℕ) → NoRound (λ w new. (slice_get w.happened i ≡ Some (GivesBack t latched, c)) × (claimer_at w i t ≢ Some c))
  pub refused_behind_a_stop : (i c : ℕ) (f : Refusal) → NoRound (λ w new. (slice_get w.happened i ≡ Some (Yields f, c)) × (stop_at w i ≢ None))
  -- one that gives way to a holder without a lock, to one that shares the key as it would, to a lock that its own client was granted, or to one that its client cleans up
  pub gave_way_to_none : (i c : ℕ) (f : Refusal) → NoRound (λ w new. (slice_get w.happened i ≡ Some (Yields f, c)) × (lock_at w i f.holder f.key ≡ None))
  pub gave_way_to_a_share : (i c : ℕ) (f : Refusal)
      → NoRound (λ w new. (slice_get w.happened i ≡ Some (Yields f, c)) × (f.mode ≡ Shared) × (lock_at w i f.holder f.key ≡ Some Shared))
  pub gave_way_to_its_own : (i c : ℕ) (f : Refusal)
      → NoRound (λ w new. (slice_get w.happened i ≡ Some (Yields f, c)) × (is_dead_in (state_of w.old.system f.holder) ≡ false) × IsItsOwn w i c f.holder f.key)
  pub gave_way_to_its_claim : (i c : ℕ) (f : Refusal)
      → NoRound (λ w new. (slice_get w.happened i ≡ Some (Yields f, c)) × (claimer_at w i f.holder ≡ Some c) × (is_claimed_in (state_at w i f.holder) ≡ true))
  -- one that is granted to a transaction that isn't live, or though another one has a lock that conflicts, or behind a stop, or in a call that gives way; a lock that is told, and that nobody has
  pub granted_to_none_live : (i c t k : ℕ) (m : Mode) → NoRound (λ w new. (slice_get w.happened i ≡ Some (GetsLock t k m, c)) × (state_at w i t ≢ Some Live))
  pub granted_in_the_way : (i c t k u : ℕ) (m n : Mode)
      → NoRound (λ w new. (slice_get w.happened i ≡ Some (GetsLock t k m, c)) × ((t == u) ≡ false) × (lock_at w i u k ≡ Some n) × (both_shared m n ≡ false))
  pub granted_behind_a_stop : (i c t k : ℕ) (m : Mode) → NoRound (λ w new. (slice_get w.happened i ≡ Some (GetsLock t k m, c)) × (stop_at w i ≢ None))
  pub granted_and_gave_way : (w : World) (c t tries n k : ℕ) (m : Mode) (d : Option ℕ) (call : Call) (f : Refusal) (back : List Receipt) (end : Ending) (cs rest : List Act)
      → HasCause w c (GivesWay t tries cs d ((n, GetsLock t k m) ∷ []) call f back end rest) → ⊥
  -- a call that answers, or is refused by no stop, or makes an operation, whatever refuses it, and in a round that is cut too, and was granted nothing
  pub answered_ungranted : (w : World) (c t tries n : ℕ) (d : Option ℕ) (call : Call) (a : Answer) (cs rest : List Act) → HasCause w c (Answers t tries cs d [] n call a rest) → ⊥
  pub operated_ungranted : (w : World) (c t tries n m : ℕ) (d : Option ℕ) (s : Bool) (b : Block) (work back : List Receipt) (call : Call) (why : Why) (cs rest : List Act)
      → HasCause w c (IsRefusedCall t tries cs d s ((n, Logs (Forward t b)) ∷ work) m back call why rest) → ⊥
  pub operated_and_cut : (w : World) (c t tries n : ℕ) (d : Option ℕ) (s : Bool) (b : Block) (work : List Receipt) (call : Call) (cs rest : List Act)
      → AreUnfinished w c (Within t tries cs d s) (Calls call ∷ rest) ((n, Logs (Forward t b)) ∷ work) → ⊥
  pub refused_ungranted : (w : World) (c t tries m : ℕ) (d : Option ℕ) (s : Bool) (back : List Receipt) (call : Call) (why : Why) (cs rest : List Act)
      → is_stop why ≡ false → HasCause w c (IsRefusedCall t tries cs d s [] m back call why rest) → ⊥
  pub had_by_nobody : (t k : ℕ) (m : Mode) → NoRound (λ w new. (lock_after w w.happened t k ≡ Some m) × (lock_of new.system t k ≡ None))
  -- behind a stop a transaction that begins or commits, an operation, or an answer
  pub begun_behind_a_stop : (i c t : ℕ) → NoRound (λ w new. (slice_get w.happened i ≡ Some (Logs (Begin t), c)) × (stop_at w i ≢ None))
  pub answered_behind_a_stop : (i c t : ℕ) (call : Call) (a : Answer) → NoRound (λ w new. (slice_get w.happened i ≡ Some (Logs (Done t call a), c)) × (stop_at w i ≢ None))
  pub operated_behind_a_stop : (i c t : ℕ) (b : Block) → NoRound (λ w new. (slice_get w.happened i ≡ Some (Logs (Forward t b), c)) × (stop_at w i ≢ None))
  pub committed_behind_a_stop : (i c t : ℕ) → NoRound (λ w new. (slice_get w.happened i ≡ Some (Logs (Commit t), c)) × (stop_at w i ≢ None))
  -- with precheck an operation on a region that wasn't right at any time since its client did something else, or another one held it
  pub operated_on_damage : (i c t k d : ℕ) (b : Block) (x : Deed) (g : RegionState)
      → NoRound (λ w new. (w.precheck ≡ true) × (slice_get w.happened i ≡ Some (Logs (Forward t b), c)) × (slice_get w.old.regions b.region ≡ Some g) × WasLastAt w k i c b.region x d × IsDamagedFrom w k i b.region g)
  pub died_on_damage : (i c t r k d : ℕ) (x : Deed) (g : RegionState)
      → NoRound (λ w new. (w.precheck ≡ true) × (slice_get w.happened i ≡ Some (DiesOn t r, c)) × (slice_get w.old.regions r ≡ Some g) × WasLastAt w k i c r x d × IsDamagedFrom w k i r g)
  -- a round that is cut: an audit that began twice, a commit that is neither flushed nor failed, an operation of a client that is to die in it
  pub begun_twice : (w : World) (c a b : ℕ) (s : Bool) (rest : List Act) → AreUnfinished w c (Outside s) (Audits ∷ rest) ((a, Logs AuditBegin) ∷ (b, Logs AuditBegin) ∷ []) → ⊥
  pub committed_and_cut : (w : World) (c t tries n : ℕ) (d : Option ℕ) (s : Bool) (cs rest : List Act) → AreUnfinished w c (Within t tries cs d s) (Commits ∷ rest) ((n, Logs (Commit t)) ∷ []) → ⊥
  pub operated_and_died : (w : World) (c t tries n : ℕ) (b : Block) (s : Bool) (cs rest : List Act) (call : Call)
      → AreUnfinished w c (Within t tries cs (Some 1) s) (Calls call ∷ rest) ((n, Logs (Forward t b)) ∷ []) → ⊥
  -- a stray write, a failure of the store, a refusal, a transaction or a new image of nobody
  pub poked_by_nobody : (r : ℕ) (g h : RegionState) → NoRound (λ w new. IsIdle w × (slice_get w.old.regions r ≡ Some g) × (slice_get new.regions r ≡ Some h) × (h.stray ≢ g.stray))
  pub failed_by_nobody : NoRound (λ w new. IsIdle w × (new.vault.faults ≢ w.old.vault.faults))
  pub refused_by_nobody : NoRound (λ w new. IsIdle w × (new.system.refusals ≢ w.old.system.refusals))
  pub begun_by_nobody : (t : ℕ) → NoRound (λ w new. IsIdle w × (state_of new.system t ≢ state_of w.old.system t))
  pub moved_by_nobody : NoRound (λ w new. IsIdle w × (new.vault.current ≢ w.old.vault.current))
  -- an audit that names a region whose stray writes always cancel
  pub clean_one_named : (i b c r : ℕ) (found : List ℕ) (g : RegionState)
      → NoRound (λ w new. (slice_get w.happened i ≡ Some (Logs (audit_record b found), c)) × (slice_get w.old.regions r ≡ Some g) × IsCleanSoFar w r × Contains found r)
  -- a record of the round that none of its clients did
  pub of_nobody : AreTranscripts true (record world { happened = (Logs (Begin 1), 1) ∷ [] }) [] [] → ⊥
