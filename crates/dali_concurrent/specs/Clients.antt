-- What a client keeps of what its note has seen of the history.
--     is_within t place        the client is within this transaction
--     ClientTold o s T         a client that has come so far did these deeds, holds nothing, and has nothing under way or claimed
--     begun_at c acts          a client that has done nothing
--     ClientMeets              entries of others leave it so
use Rattle.std.specs.Prelude.{◌≡◌, ℕ, Bool, true, false, ◌||◌, ◌==◌, List, [], Option, Some, None, is_some, fold}
use Rattle.dali_att.specs.declared.state.State.{State}
use Rattle.dali_att.specs.declared.state.State.TheVariants.{Live, Committed}
use Rattle.dali_runs.specs.Run.{Bases}
use Rattle.dali_crash.specs.Checkpoints.{Point}
use Rattle.dali_transcripts.specs.Words.{Act}
use Rattle.dali_transcripts.specs.World.{is_claimed_in, claimer_step, under_way}
use Rattle.dali_transcripts.specs.Moves.{Place, Within, start}
use Rattle.dali_transcripts.specs.Rounds.{Standing, Stands as StandsIn}
use Rattle.dali_notes.specs.History.{IsSeen}
use Rattle.dali_concurrent.specs.Entries.{client_note, deeds_of, live_by, opener_by}
use Rattle.dali_concurrent.specs.Rules.{Outset, count_of, state_by}
use Rattle.dali_concurrent.specs.Told.{History, plain, core_told, world_told}
use Rattle.dali_concurrent.specs.Landing.{BeginsAt}
use Rattle.dali_concurrent.specs.Kept.{AllFollow}

abbrev pub is_open_in : Option State → Bool
is_open_in (Some Live) = true
is_open_in (Some Committed) = true
is_open_in o = false

abbrev pub is_within : ℕ → Place → Bool
is_within t (Within u tries cs d stopped) = u == t
is_within t place = false

pub record ClientTold (o : Outset) (s : Standing) (T : History) : Type 0 where
  pub stands : StandsIn (world_told o T) s
  pub holds : (r t : ℕ) → live_by r (plain T) ≡ Some (t, s.client) → ⊥
  pub spans : under_way (deeds_of (plain T)) ≡ Some s.client → ⊥
  -- what it began and is open still is what it is within, or the engine is stopped
  pub opened : (t : ℕ) → opener_by t (plain T) ≡ Some s.client → is_open_in (state_by o (plain T) t) ≡ true
      → (is_within t s.spot.place || is_some (core_told o T).system.stop) ≡ true
  pub claims : (t : ℕ) → fold (claimer_step t) None (deeds_of (plain T)) ≡ Some s.client → is_claimed_in (state_by o (plain T) t) ≡ false

abbrev pub begun_at : ℕ → List Act → Standing
begun_at c acts = record { client = c; acts = acts; lines = []; pending = []; spot = start acts }

abbrev pub ClientMeets : Type 0
ClientMeets =
    (bases : Bases) (p : Point) (o : Outset) (s : Standing) (seen new : History) → BeginsAt bases p o → IsSeen new (client_note (count_of o) s.client) seen
    → AllFollow bases p o new → ClientTold o s seen → ClientTold o s new
