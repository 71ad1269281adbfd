-- From a core that was made, through rounds, to a crash, and to a core that is made again.
--     FormatBegins             a core that a format made stands where a round may begin, whatever is taken for the words, heads and syncs of the image
--                              files, which aren't read before a checkpoint
--     RestartBegins            so does one that a restart made, over files that are found
--     RoundBegins              behind a round that ended with Done it stands so again
--     Round, AreRounds         rounds, one behind another, each of which ended with Done, lead from one core to another
--     RoundsBegin              behind these it stands so too
--     CrashRestarts            what a crash leaves is found, and a restart of it answers right, where no audit missed a stray write
use Rattle.std.specs.Prelude.{◌≡◌, ℕ, Bool, true, List, [], ◌∷◌, IfSome}
use Rattle.dali_geometry.specs.Sizes.{Sizes}
use Rattle.dali_record.specs.declared.records.Record.{Record}
use Rattle.dali_record.specs.Files.{Files}
use Rattle.dali_region.specs.declared.Side.{Side}
use Rattle.dali_region.specs.State.{RegionState}
use Rattle.dali_history.specs.History.{IsHistory}
use Rattle.dali_store.specs.Store.{Files as Disk}
use Rattle.dali_store.specs.declared.store.Store.{Ghosts}
use Rattle.dali_runs.specs.State.{SystemState}
use Rattle.dali_runs.specs.Images.{Told}
use Rattle.dali_runs.specs.Run.{log_in}
use Rattle.dali_system.specs.Served.{Served}
use Rattle.dali_crash.specs.Checkpoints.{Head, StoreStep, Point, IsPointCourse}
use Rattle.dali_crash.specs.Traces.{Start, start_point}
use Rattle.dali_crash.specs.Disks.Disks.{Spells, AllSpell}
use Rattle.dali_core.specs.Vault.Vaulted.{Vaulted}
use Rattle.dali_core.specs.Cores.{IsWholeCore}
use Rattle.dali_transactions.specs.Stands.{StandsAt}
use Rattle.dali_resume.specs.Interrupted.Found.{FindsIt, NoneMissed}
use Rattle.dali_restart.specs.Formatted.{first_record, first_at, IsNewCore, RunBegins}
use Rattle.dali_restart.specs.Restarting.{GoesOnFrom, IsFresh, BeginsRun}
use Rattle.dali_restart.specs.Headline.{IsPlaced, EachRestart, AnswersRight}
use Rattle.dali_transcripts.specs.Words.{Said}
use Rattle.dali_transcripts.specs.Transcripts.{Told as Blocks}
use Rattle.dali_transcripts.specs.declared.clients.command.Block.{Block}
use Rattle.dali_transcripts.specs.Clients.Said.{Transcribed}
use Rattle.dali_round.specs.declared.rounds.RoundEnd.TheVariants.{Done}
use Rattle.dali_round.specs.Leads.{BeginsAt, RoundLeads, RoundGoes}

-- a round that ended with Done, and the core behind it
pub record Round (V : Type 0) : Type 0 where
  pub precheck : Bool
  pub blocks : List Block
  pub transcripts : List Transcribed
  pub regions : List RegionState
  pub system : SystemState
  pub vault : Vaulted V

module _ {V : Type 0} (g : Ghosts V) where
  -- ---- a core that was made
  abbrev pub FormatBegins : Type 0
  FormatBegins =
      (s : Sizes) (limit : ℕ) (gs : List RegionState) (y : Served) (v : Vaulted V) → IsNewCore s limit gs y v → IsWholeCore g.told gs y.state v
      → RunBegins g s limit gs y.state v
      → (words : Told) (heads : Side → Head) (synced : Side → Bool)
      → let start = first_at g s limit v words heads synced in
      BeginsAt g start ((first_record s ∷ []) ∷ []) (start_point start) gs y.state v × IsPlaced start

  -- a start over the log of the files F, or over that with the record of the restart
  pub record RestartedAt (F : Files) (limit : ℕ) (gs : List RegionState) (y : SystemState) (v : Vaulted V) (words : Told) (heads : Side → Head) (synced : Side → Bool) : Type 0 where
    pub start : Start
    pub log : GoesOnFrom (log_in F) start.log
    pub history : IsHistory (log_in F) → IsHistory start.log
    pub limit_is : start.limit ≡ limit
    pub images : (start.told ≡ words) × (start.heads ≡ heads) × (start.synced ≡ synced)
    pub placed : IsPlaced start
    pub batches : List (List Record)
    pub begins : BeginsAt g start batches (start_point start) gs y v

  abbrev pub RestartBegins : Type 0
  RestartBegins =
      (limit : ℕ) (fs : Disk) (F : Files) (gs : List RegionState) (y : Served) (v : Vaulted V) → IsFresh limit gs y v → IsWholeCore g.told gs y.state v
      → BeginsRun g limit fs gs y.state v → Spells fs F → FindsIt F
      → (words : Told) (heads : Side → Head) (synced : Side → Bool)
      → RestartedAt F limit gs y.state v words heads synced

  -- ---- rounds
  abbrev pub RoundBegins : Type 0
  RoundBegins =
      (precheck : Bool) (s : Start) (p : Point) (blocks : List Blocks) (lines : List (List Said)) (receipts : List (List ℕ)) (hs : List RegionState) (z : SystemState) (u : Vaulted V)
      → (led : RoundLeads g precheck true s p blocks lines receipts hs z u)
      → BeginsAt g s led.batches led.to hs z u

  abbrev pub AreRounds : List RegionState → SystemState → Vaulted V → List (Round V) → List RegionState → SystemState → Vaulted V → Type 0
  AreRounds gs y v [] hs z u = (hs ≡ gs) × (z ≡ y) × (u ≡ v)
  AreRounds gs y v (r ∷ rs) hs z u = RoundGoes g r.precheck r.blocks gs y v Done r.transcripts r.regions r.system r.vault × AreRounds r.regions r.system r.vault rs hs z u

  -- the run goes on from p to where a round may begin
  pub record LedOn (s : Start) (p : Point) (hs : List RegionState) (z : SystemState) (u : Vaulted V) : Type 0 where
    pub to : Point
    pub batches : List (List Record)
    pub steps : List StoreStep
    pub course : IsPointCourse p steps to
    pub begins : BeginsAt g s batches to hs z u

  abbrev pub RoundsBegin : Type 0
  RoundsBegin =
      (s : Start) (B : List (List Record)) (p : Point) (gs hs : List RegionState) (y z : SystemState) (v u : Vaulted V) (rs : List (Round V))
      → BeginsAt g s B p gs y v → AreRounds gs y v rs hs z u
      → LedOn s p hs z u

  -- ---- a crash
  abbrev pub CrashRestarts : Type 0
  CrashRestarts =
      (s : Start) (B : List (List Record)) (p : Point) (gs : List RegionState) (y : SystemState) (v : Vaulted V)
      → StandsAt g s B p gs y v → IsPlaced s → NoneMissed p.core
      → IfSome (g.told v.store) (λ _. AllSpell (g.may_leave v.store) (λ F. FindsIt F × EachRestart F (AnswersRight s.log p.core F)))
