-- Wrong histories: behind one whose entries all follow, no line of these follows.
--     Never wrong              no such line follows
--     Nowhere wrong            there is no such history
--     NoLatch P r c            no entry among these says that the client c latched the region r
--     Unsigned                 lines that lack who has to sign them
--     Unlatched                deeds on a region without a latch of it, and latches that may not be
--     Unaudited                verdicts without the passes that they tell, and passes that tell what isn't so
--     Unfit                    deeds of transactions that aren't where they would have to be
--     Beside s, Besides        a deed's entry that makes the step s, which only an entry of its own name makes;  each of these steps, and a grant that it doesn't tell
--     Unstored                 flushes of what wasn't taken, stops without a fault, anchors that may not move
--     Untold                   what no entry tells
use Rattle.std.specs.Prelude.{◌≡◌, ◌≢◌, ℕ, ◌+◌, ◌<◌, ◌≤◌, ◌==◌, Bool, true, false, List, [], ◌∷◌, ◌++◌, Option, Some, None, Contains, nat_lt, count_by, slice_get, take}
use Rattle.dali_record.specs.declared.operations.Block.{Block}
use Rattle.dali_record.specs.declared.records.Record.TheVariants.{Begin, Forward, Back, Solo, Commit, AuditClean}
use Rattle.dali_record.specs.Damage.{has}
use Rattle.dali_region.specs.State.{RegionState}
use Rattle.dali_locks.specs.declared.mode.Mode.{Mode}
use Rattle.dali_locks.specs.Locks.{both_shared}
use Rattle.dali_att.specs.declared.state.State.TheVariants.{Live}
use Rattle.dali_runs.specs.declared.causes.Cause.TheVariants.{Store}
use Rattle.dali_runs.specs.State.{stable, taken_to}
use Rattle.dali_runs.specs.Run.{Bases}
use Rattle.dali_runs.specs.Steps.{audit_record}
use Rattle.dali_runs.specs.Regions.{is_alive}
use Rattle.dali_runs.specs.Courses.{Step, Operates, TakesBack, Frees, Locks, Passes, Takes, Flushes}
use Rattle.dali_crash.specs.Checkpoints.{StoreStep, Does, Head, Keeps, Copies, Skips, WritesHead, Syncs, Turns, Point, MayTurn, IsPointCourse}
use Rattle.dali_transcripts.specs.Words.{Said, StoreFailed, CommitOk}
use Rattle.dali_transcripts.specs.World.{Deed, Logs, Claims, GivesBack, GetsLock, StartsCheckpoint, MovesAnchor, EndsCheckpoint, Meets, has_failed, is_dead_in, lock_after, stray_after, under_way}
use Rattle.dali_transcripts.specs.Moves.{Receipt}
use Rattle.dali_transcripts.specs.Transcripts.{deeds_of as own_deeds}
use Rattle.dali_transcripts.specs.Rounds.{Standing, is_on}
use Rattle.dali_transcripts.specs.Touches.{touches, is_at}
use Rattle.dali_notes.specs.History.{signs}
use Rattle.dali_concurrent.specs.Entries.{Did, Latched, Updated, Freed, Passed, Took, Flushed, Kept, Copied, Entries, At, system_note, vault_note, region_note, client_note, notes_of, deeds_of, live_by, actor_by}
use Rattle.dali_concurrent.specs.Rules.{Outset, count_of, log_by, state_by, acting_for, is_looked, dead_by}
use Rattle.dali_concurrent.specs.Told.{Line, History, plain, core_told, world_told}
use Rattle.dali_concurrent.specs.Landing.{Stands}
use Rattle.dali_concurrent.specs.Kept.{is_silent, wants, writes_to, txn_in, HoldIs, Follows}
use Rattle.dali_concurrent.specs.Holds.{IsLed}
use Rattle.dali_concurrent.specs.Clients.{ClientTold}

abbrev pub Never : (Outset → History → Line → Type 0) → Type 0
Never wrong = (bases : Bases) (p : Point) (o : Outset) (T : History) (e : Line) → IsLed bases p o T → wrong o T e → Follows bases p o T e → ⊥

abbrev pub Nowhere : (Outset → History → Type 0) → Type 0
Nowhere wrong = (bases : Bases) (p : Point) (o : Outset) (T : History) → IsLed bases p o T → wrong o T → ⊥

abbrev pub NoLatch : Entries → ℕ → ℕ → Type 0
NoLatch P r c = (i t : ℕ) (ks : List ℕ) → At P i (ks, Latched r t c) → ⊥

-- ---- who signs
pub record Unsigned : Type 0 where
  -- any entry without a note of those that sign it
  pub entry : (k : ℕ) → Never (λ o T e. (signs k (notes_of (count_of o) e.1.0) ≡ true) × (signs k e.0 ≡ false))
  -- so a deed without its client, or without a value on which it is made; a flush without the vault
  pub by_client : (c : ℕ) (x : Deed) → Never (λ o T e. (e.1.0 ≡ Did x c) × (signs (client_note (count_of o) c) e.0 ≡ false))
  pub by_region : (r c : ℕ) (x : Deed) → is_at r x ≡ true → Never (λ o T e. (e.1.0 ≡ Did x c) × (signs (region_note r) e.0 ≡ false))
  pub by_system : (c : ℕ) (x : Deed) → (touches x).system ≡ true → Never (λ o T e. (e.1.0 ≡ Did x c) × (signs system_note e.0 ≡ false))
  pub by_vault : (c : ℕ) (x : Deed) → (touches x).vault ≡ true → Never (λ o T e. (e.1.0 ≡ Did x c) × (signs vault_note e.0 ≡ false))
  pub flushed : Never (λ o T e. (e.1.0 ≡ Flushed) × (signs vault_note e.0 ≡ false))
  -- a value changes that hasn't signed
  pub region : (r : ℕ) → Never (λ o T e. (signs (region_note r) e.0 ≡ false) × (slice_get (core_told o (T ++ e ∷ [])).regions r ≢ slice_get (core_told o T).regions r))
  pub system : Never (λ o T e. (signs system_note e.0 ≡ false) × ((core_told o (T ++ e ∷ [])).system ≢ (core_told o T).system))
  pub vault : Never (λ o T e. (signs vault_note e.0 ≡ false) × ((core_told o (T ++ e ∷ [])).vault ≢ (core_told o T).vault))
  -- a store call, or a frame that is taken, without the vault
  pub called : (i : ℕ) (x : StoreStep) → Never (λ o T e. (signs vault_note e.0 ≡ false) × (slice_get e.1.2 i ≡ Some x) × (is_silent x ≡ false))

-- ---- latches
pub record Unlatched : Type 0 where
  -- an operation, or a death in one, whose client never latched the region
  pub operated : (r c : ℕ) (x : Deed) → is_looked r x ≡ true → Never (λ o T e. (e.1.0 ≡ Did x c) × NoLatch (plain T) r c)
  -- or not since a deed that ended the hold: so two under one latch
  pub twice : (r c d : ℕ) (x y : Deed) (A R : History) (l : Line) → is_on r x ≡ true → is_looked r y ≡ true
      → Never (λ o T e. (T ≡ A ++ l ∷ R) × (l.1.0 ≡ Did x c) × (e.1.0 ≡ Did y d) × NoLatch (plain R) r d)
  -- or not since it did something else
  pub behind_another : (r c : ℕ) (x y : Deed) (A R : History) (l : Line) → is_looked r y ≡ true
      → Never (λ o T e. (T ≡ A ++ l ∷ R) × (l.1.0 ≡ Did x c) × (e.1.0 ≡ Did y c) × NoLatch (plain R) r c)
  -- a deed, or a latch, for a transaction that another client acts for
  pub deed_of_another : (c t : ℕ) (x : Deed) → acting_for x ≡ Some t → Never (λ o T e. (e.1.0 ≡ Did x c) × (actor_by t (plain T) ≢ Some c))
  pub latch_of_another : (r c t : ℕ) → Never (λ o T e. (e.1.0 ≡ Latched r t c) × (actor_by t (plain T) ≢ Some c))
  -- a latch of a region that has a hold;  an operation whose hold was let go;  a region that another client changes, or lets go, than the one whose hold it has
  pub latched_twice : (r c t u d : ℕ) → Never (λ o T e. (e.1.0 ≡ Latched r t c) × (live_by r (plain T) ≡ Some (u, d)))
  pub let_go : (r c : ℕ) (x : Deed) → is_looked r x ≡ true → Never (λ o T e. (e.1.0 ≡ Did x c) × (live_by r (plain T) ≡ None))
  pub updated_by_another : (r c t d : ℕ) → Never (λ o T e. (e.1.0 ≡ Updated r c) × (live_by r (plain T) ≡ Some (t, d)) × ((c == d) ≡ false))
  pub freed_by_another : (r c t d : ℕ) → Never (λ o T e. (e.1.0 ≡ Freed r c) × (live_by r (plain T) ≡ Some (t, d)) × ((c == d) ≡ false))
  -- or one whose dead hold is of a transaction that another client acts for
  pub dead_freed_by_another : (r c t : ℕ)
      → Never (λ o T e. (e.1.0 ≡ Freed r c) × (dead_by o r (plain T) ≡ Some t) × (actor_by t (plain T) ≢ Some c) × ((u : ℕ) → live_by r (plain T) ≢ Some (u, c)))
  -- what is taken back, or freed, without the live hold of its transaction;  a claim that is given back with a region that isn't dead
  pub back_unheld : (t c : ℕ) (b : Block) → Never (λ o T e. (e.1.0 ≡ Did (Logs (Back t b)) c) × (live_by b.region (plain T) ≢ Some (t, c)))
  pub solo_unheld : (n t c : ℕ) (b : Block) → Never (λ o T e. (e.1.0 ≡ Did (Logs (Solo n t b)) c) × (live_by b.region (plain T) ≢ Some (t, c)))
  pub given_unheld : (t r c : ℕ) → Never (λ o T e. (e.1.0 ≡ Did (GivesBack t (Some r)) c) × (dead_by o r (plain T) ≢ Some t))
  -- a hold, or words otherwise than by a stray write, that change where no entry tells it
  pub written : (r i : ℕ) (x : StoreStep) → Never (λ o T e. (slice_get e.1.2 i ≡ Some x) × (writes_to x ≡ Some r) × (wants r e.1.0 ≡ false))
  -- with precheck an operation for which its client latched a region whose stray writes didn't cancel
  pub damaged : (t c : ℕ) (b : Block) (g : RegionState)
      → Never (λ o T e. (e.1.0 ≡ Did (Logs (Forward t b)) c) × (o.precheck ≡ true) × (slice_get o.old.regions b.region ≡ Some g)
      × ((i u : ℕ) (ks : List ℕ) → At (plain T) i (ks, Latched b.region u c) → stray_after b.region g.stray (deeds_of (take i (plain T))) ≢ 0))
  -- a hold that is left otherwise than the entries tell it
  pub hold : (r : ℕ) (g : RegionState)
      → Never (λ o T e. (r < count_of o) × (signs (region_note r) e.0 ≡ true) × (slice_get (core_told o (T ++ e ∷ [])).regions r ≡ Some g) × (HoldIs o r g (plain (T ++ e ∷ [])) → ⊥))

-- ---- audits
pub record Unaudited : Type 0 where
  -- a verdict where the audit didn't pass some region, or each of its passes of it says otherwise
  pub unpassed : (b r c : ℕ) (found : List ℕ)
      → Never (λ o T e. (e.1.0 ≡ Did (Logs (audit_record b found)) c) × (r < count_of o) × ((i : ℕ) (ks : List ℕ) (right : Bool) → At (plain T) i (ks, Passed r b right) → ⊥))
  pub contrary : (b r c : ℕ) (found : List ℕ)
      → Never (λ o T e. (e.1.0 ≡ Did (Logs (audit_record b found)) c) × (r < count_of o) × ((i : ℕ) (ks : List ℕ) (right : Bool) → At (plain T) i (ks, Passed r b right) → right ≡ has found r))
  -- a pass that doesn't tell what the region's stray writes left
  pub pass : (b r : ℕ) (right : Bool) (g : RegionState)
      → Never (λ o T e. (e.1.0 ≡ Passed r b right) × (slice_get o.old.regions r ≡ Some g) × (right ≢ (stray_after r g.stray (deeds_of (plain T)) == 0)))

-- ---- transactions and locks
-- whose block the step logs
abbrev pub block_of : Step → Option (ℕ × Block)
block_of (Operates t b) = Some (t, b)
block_of (TakesBack t b) = Some (t, b)
block_of (Frees t b) = Some (t, b)
block_of x = None

pub record Unfit : Type 0 where
  -- a commit of one that isn't live, a claim of one that isn't dead, and a number that begins while it is open
  pub committed : (t c : ℕ) → Never (λ o T e. (e.1.0 ≡ Did (Logs (Commit t)) c) × (state_by o (plain T) t ≢ Some Live))
  pub claimed : (t c : ℕ) → Never (λ o T e. (e.1.0 ≡ Did (Claims t) c) × (is_dead_in (state_by o (plain T) t) ≡ false))
  pub begun : (t c : ℕ) → Never (λ o T e. (e.1.0 ≡ Did (Logs (Begin t)) c) × (state_by o (plain T) t ≢ None))
  -- or that has begun before, also if it has ended since
  pub begun_again : (t c n : ℕ) → Never (λ o T e. (e.1.0 ≡ Did (Logs (Begin t)) c) × (slice_get (log_by o (plain T)) n ≡ Some (Begin t)))
  -- a grant to one that isn't live, or where another one has a lock that conflicts
  pub granted : (t k c : ℕ) (m : Mode) → Never (λ o T e. (e.1.0 ≡ Did (GetsLock t k m) c) × (state_by o (plain T) t ≢ Some Live))
  pub granted_in_the_way : (t k c u : ℕ) (m n : Mode)
      → Never (λ o T e. (e.1.0 ≡ Did (GetsLock t k m) c) × ((t == u) ≡ false) × (lock_after (world_told o T) (deeds_of (plain T)) u k ≡ Some n) × (both_shared m n ≡ false))
  -- a record of another block than the one that is operated on
  pub other_block : (t u c : ℕ) (b d : Block) → Never (λ o T e. (e.1.0 ≡ Did (Logs (Forward t b)) c) × (e.1.2 ≡ Does (Operates u d) ∷ []) × (d ≢ b))
  -- a block that is logged of one that has no live hold of its region;  and a latch for one that isn't alive
  pub unheld : (t : ℕ) (b : Block) (x : Step) → block_of x ≡ Some (t, b) → Never (λ o T e. (e.1.2 ≡ Does x ∷ []) × (txn_in (live_by b.region (plain T)) ≢ Some t))
  pub latch_of_dead : (r t c : ℕ) → Never (λ o T e. (e.1.0 ≡ Latched r t c) × (is_alive (state_by o (plain T) t) ≡ false))

-- ---- the store
abbrev pub Beside : StoreStep → Type 0
Beside s = (x : Deed) (c i : ℕ) → Never (λ o T e. (e.1.0 ≡ Did x c) × (slice_get e.1.2 i ≡ Some s))

pub record Besides : Type 0 where
  pub flushes : Beside (Does Flushes)
  pub takes : Beside (Does Takes)
  pub passes : (b r : ℕ) → Beside (Does (Passes b r))
  pub keeps : Beside Keeps
  pub copies : (r n : ℕ) → Beside (Copies r n)
  pub skips : (r n : ℕ) → Beside (Skips r n)
  pub writes : (h : Head) → Beside (WritesHead h)
  pub syncs : Beside Syncs
  pub grants : (x : Deed) (c i t k : ℕ) (m : Mode) → Never (λ o T e. (e.1.0 ≡ Did x c) × (slice_get e.1.2 i ≡ Some (Does (Locks t k m))) × (x ≢ GetsLock t k m))

pub record Unstored : Type 0 where
  -- a flush of records that weren't taken, where the system hasn't signed;  of more than was flushed, where all that was taken is
  pub untaken : Never (λ o T e. (signs system_note e.0 ≡ false) × (taken_to (core_told o T).system < stable (core_told o (T ++ e ∷ []))))
  pub again : Never (λ o T e. (signs system_note e.0 ≡ false) × (taken_to (core_told o T).system ≡ stable (core_told o T)) × (stable (core_told o (T ++ e ∷ [])) ≢ stable (core_told o T)))
  -- of any, where the store has failed
  pub behind_fault : Never (λ o T e. (has_failed o.old.vault.stopped (deeds_of (plain T)) ≡ true) × (stable (core_told o (T ++ e ∷ [])) ≢ stable (core_told o T)))
  -- a frame that is taken, where what is flushed changes; a flush, where the system does; what another entry is to tell, in a deed's; a copy of another region
  -- than it names, or another one that is passed over
  pub taken : Never (λ o T e. (e.1.0 ≡ Took) × (stable (core_told o (T ++ e ∷ [])) ≢ stable (core_told o T)))
  pub flushed : Never (λ o T e. (e.1.0 ≡ Flushed) × ((core_told o (T ++ e ∷ [])).system ≢ (core_told o T).system))
  pub besides : Besides
  pub copied : (r q n i : ℕ) → Never (λ o T e. (e.1.0 ≡ Copied r) × (slice_get e.1.2 i ≡ Some (Copies q n)) × ((q == r) ≡ false))
  pub skipped : (r q n i : ℕ) → Never (λ o T e. (e.1.0 ≡ Copied r) × (slice_get e.1.2 i ≡ Some (Skips q n)) × ((q == r) ≡ false))
  -- a stop by the store that leaves the vault running, one that leaves the engine running, and a second one
  pub no_fault : (c : ℕ) → Never (λ o T e. (e.1.0 ≡ Did (Meets StoreFailed) c) × ((core_told o (T ++ e ∷ [])).vault.stopped ≡ false))
  pub no_stop : (c : ℕ) → Never (λ o T e. (e.1.0 ≡ Did (Meets StoreFailed) c) × ((core_told o (T ++ e ∷ [])).system.stop ≡ None))
  pub twice : (c : ℕ) → Never (λ o T e. (e.1.0 ≡ Did (Meets StoreFailed) c) × (has_failed o.old.vault.stopped (deeds_of (plain T)) ≡ true))
  -- an anchor that moves to another number than the next one;  where no clean audit is flushed, or none that began behind the last head
  -- that was kept;  where the image isn't as it has to be, in the one step of the move, or by then within its own entry
  pub by_two : (n c : ℕ) → Never (λ o T e. (e.1.0 ≡ Did (MovesAnchor n) c) × (n ≢ (core_told o T).vault.current + 1))
  pub unclean : (n c : ℕ)
      → Never (λ o T e. (e.1.0 ≡ Did (MovesAnchor n) c) × ((k b : ℕ) → slice_get (log_by o (plain T)) k ≡ Some (AuditClean b) → stable (core_told o (T ++ e ∷ [])) ≤ k))
  pub stale : (n c : ℕ) (A R : History) (l : Line)
      → Never (λ o T e. (e.1.0 ≡ Did (MovesAnchor n) c) × (T ≡ A ++ l ∷ R) × (l.1.0 ≡ Kept) × ((i : ℕ) (ks : List ℕ) → At (plain R) i (ks, Kept) → ⊥)
      × ((k b : ℕ) → slice_get (log_by o (plain T)) k ≡ Some (AuditClean b) → (core_told o A).system.records ≤ b → stable (core_told o (T ++ e ∷ [])) ≤ k))
  pub unready : (n c : ℕ) (bases : Bases) (p : Point) (o : Outset) (T : History) (e : Line) → IsLed bases p o T → e.1.0 ≡ Did (MovesAnchor n) c
      → ((q mid : Point) (first last : List StoreStep) → Stands bases p o T q → first ++ last ≡ e.1.2 → IsPointCourse q first mid → (h : Head) (b k : ℕ) → MayTurn mid h b k → ⊥)
      → Follows bases p o T e → ⊥
  -- a checkpoint that starts where one is under way, or is ended by another client
  pub started : (c : ℕ) → Never (λ o T e. (e.1.0 ≡ Did StartsCheckpoint c) × (under_way (deeds_of (plain T)) ≢ None))
  pub ended : (c : ℕ) → Never (λ o T e. (e.1.0 ≡ Did EndsCheckpoint c) × (under_way (deeds_of (plain T)) ≢ Some c))
  pub incomplete : (bases : Bases) (p : Point) (o : Outset) (T : History) (e : Line) → IsLed bases p o T → e.1.2 ≡ Turns ∷ []
      → ((q : Point) → Stands bases p o T q → (h : Head) (b k : ℕ) → MayTurn q h b k → ⊥) → Follows bases p o T e → ⊥

-- ---- what no entry tells
abbrev pub is_ok : Said → Bool
is_ok CommitOk = true
is_ok line = false

-- it logs a commit, among the first n records
abbrev pub is_commit_below : ℕ → Receipt → Bool
is_commit_below n (k, Logs (Commit t)) = nat_lt k n
is_commit_below n x = false

pub record Untold : Type 0 where
  -- a stray write, a stop of the vault, an anchor that moves, a flush
  pub poke : (r : ℕ) (g h : RegionState)
      → Nowhere (λ o T. (slice_get o.old.regions r ≡ Some g) × (slice_get (core_told o T).regions r ≡ Some h) × (h.stray ≢ stray_after r g.stray (deeds_of (plain T))))
  pub fault : Nowhere (λ o T. ((core_told o T).vault.stopped ≡ true) × (has_failed o.old.vault.stopped (deeds_of (plain T)) ≡ false))
  pub turn : Nowhere (λ o T. ((n c : ℕ) → Contains (deeds_of (plain T)) (MovesAnchor n, c) → ⊥) × ((core_told o T).vault.current ≢ o.old.vault.current))
  pub flush : Nowhere (λ o T. ((i : ℕ) (ks : List ℕ) → At (plain T) i (ks, Flushed) → ⊥) × (stable (core_told o T) ≢ stable o.old))
  -- an engine that the store stopped, without a fault
  pub stop : Nowhere (λ o T. ((core_told o T).system.stop ≡ Some Store) × (has_failed o.old.vault.stopped (deeds_of (plain T)) ≡ false))
  -- a client that was answered ok to more commits than records of its commits are flushed
  pub commit : (s : Standing) (o : Outset) (T : History) → ClientTold o s T
      → count_by (is_commit_below (stable (core_told o T))) (own_deeds (world_told o T) s.client) < count_by is_ok s.lines → ⊥
