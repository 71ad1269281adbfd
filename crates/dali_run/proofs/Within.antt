-- What a crash at any moment within a command leaves, but within a round that was run.
use Rattle.std.proofs.Common.{◌≡◌, ◌≤◌, ℕ, Bool, true, false, List, Option, Some, None, ◌∙◌, ap, subst, inl, inr, ⊎_elim, arith}
use Rattle.std.specs.Prelude.{IfSome}
use Rattle.dali_log.specs.Reads.{OnlyReads}
use Rattle.dali_fuse.specs.Fuse.{inner}
use Rattle.dali_fuse.specs.declared.fuse.Fuse.{Fuse}
use Rattle.dali_record.specs.declared.records.Record.{Record}
use Rattle.dali_script.specs.declared.commands.Command.{Command}
use Rattle.dali_script.specs.declared.commands.Command.TheVariants.{Size, Open, Round, Poke, Audit, Checkpoint, Cleanup, Crash, Restart, Show, Verify, Next, Fuse as SetFuse}
use Rattle.dali_store.specs.Store.{Files as Disk}
use Rattle.dali_store.specs.declared.store.Store.{Ghosts}
use Rattle.dali_runs.specs.declared.causes.Cause.{Cause}
use Rattle.dali_core.specs.Vault.Vaulted.{Vaulted}
use Rattle.dali_core.specs.declared.whole.Core.{Core}
use Rattle.dali_run.specs.declared.program.Program.{Program}
use Rattle.dali_run.specs.declared.program.Program.TheVariants.{Up, Down}
use Rattle.dali_run.specs.Fails.{Breaks, StoreFailsIn}
use Rattle.dali_run.specs.Headline.{SafeWithin}
use Rattle.dali_run.specs.Program.{store_of, told_in, leaves_in, moment_in, since_in}
use Rattle.dali_run.specs.Steps.{CleanupIn, EndsComparison, HasCleaned, LeavesLess, ShowIn, Steps, StepsRestart, VerifyIn}
use Rattle.dali_run.specs.Survives.{Holds, IsOwnWhere, NoneEscapesIn, NoneEscapesMaking}
use Rattle.dali_run.specs.Told.{IsFit}
use Rattle.dali_run.proofs.Surviving.{cleaned_vault, made_within, restarts_within, stops_within, was_before}

abbrev pub is_round : Command → Bool
is_round (Round blocks) = true
is_round (Poke region word mask) = true
is_round Audit = true
is_round Checkpoint = true
is_round command = false

module _ {V : Type 0} (g : Ghosts V)
    (reads_now : (s : V) → IfSome (g.told s) (λ fs. g.may_leave s fs)) (counts_now : (s : V) (t : ℕ) (c : Disk) → t ≤ g.moment s → g.may_leave s c → g.left_since s t c)
    (only_now : (s : V) (c : Disk) → g.left_since s (g.moment s) c → g.may_leave s c) where
  abbrev Since : Program V → V → Disk → Type 0
  Since old s c = g.left_since s (g.moment (inner (store_of old))) c

  abbrev pub HoldsWithin : (Disk → Type 0) → List Record → Program V → V → Type 0
  HoldsWithin P base old s = (c : Disk) → Since old s c → P c → Holds base c

  abbrev Owns : (Disk → Type 0) → List Record → Program V → Type 0
  Owns P base old = IsOwnWhere g P base (inner (store_of old))

  -- the store wasn't called
  same_within : (P : Disk → Type 0) (base : List Record) (old : Program V) (s : V) → s ≡ inner (store_of old) → Owns P base old → HoldsWithin P base old s
  same_within P base old s same own c left is = own.1 c (only_now (inner (store_of old)) c (subst (λ (x : V). Since old x c) same left)) is

  pub same_fuse : (P : Disk → Type 0) (base : List Record) (old : Program V) (f : Fuse V) → f ≡ store_of old → Owns P base old → HoldsWithin P base old (inner f)
  same_fuse P base old f same own = same_within P base old (inner f) (ap (λ (x : Fuse V). inner x) same) own

  pub same_state : (P : Disk → Type 0) (base : List Record) (old new : Program V) → new ≡ old → Owns P base old → HoldsWithin P base old (inner (store_of new))
  same_state P base old new same own = same_within P base old (inner (store_of new)) (ap (λ (p : Program V). inner (store_of p)) same) own

  -- it was only read
  read_within : (P : Disk → Type 0) (base : List Record) (old : Program V) (f : Fuse V)
      → OnlyReads (told_in g) (moment_in g) (since_in g) (leaves_in g) (store_of old) f → Owns P base old → HoldsWithin P base old (inner f)
  read_within P base old f reads own c left is = own.1 c (reads.any_moment.each c left) is

  making_read : (Safe : Disk → Type 0) (base : List Record) (old : Program V) (f : Fuse V)
      → OnlyReads (told_in g) (moment_in g) (since_in g) (leaves_in g) (store_of old) f → Owns (NoneEscapesIn Safe old) base old
      → HoldsWithin (NoneEscapesMaking g Safe old) base old (inner f)
  making_read Safe base old f reads own c left is =
      let was = reads.any_moment.each c left in was_before g (NoneEscapesIn Safe old) base (inner (store_of old)) c own (λ none before. own.1 c was (before was)) is

  -- a crash leaves nothing that it might not have left before
  less_within : (P : Disk → Type 0) (base : List Record) (old : Program V) (s : V) → LeavesLess g (inner (store_of old)) s → Owns P base old → HoldsWithin P base old s
  less_within P base old s less own c left is =
      own.1 c
      (⊎_elim (λ past. only_now (inner (store_of old)) c past) (λ now. less.crash c now) (less.time.nothing_else (g.moment (inner (store_of old))) c (omega arith) left))
      is

  module _ (limit : ℕ) (precheck : Bool) where
    abbrev Within : (Disk → Type 0) → Command → List Record → Program V → V → Type 0
    Within Safe command base old s = HoldsWithin (SafeWithin g limit precheck Safe command old) base old s

    restart_within : (Safe : Disk → Type 0) (base : List Record) (old new : Program V) (text : List ℕ) → StepsRestart g limit old text new → Owns (NoneEscapesIn Safe old) base old
        → HoldsWithin (NoneEscapesMaking g Safe old) base old (inner (store_of new))
    restart_within Safe base old new text (inl step) own c left is =
        was_before g (NoneEscapesIn Safe old) base (inner (store_of old)) c own
        (restarts_within g reads_now counts_now limit (NoneEscapesIn Safe old) base old new text step own c
        (subst (λ (p : Program V). Since old (inner (store_of p)) c) step.up left)) is
    restart_within Safe base old new text (inr step) own c left is =
        was_before g (NoneEscapesIn Safe old) base (inner (store_of old)) c own
        (stops_within g reads_now counts_now (NoneEscapesIn Safe old) base (store_of old) step.store step.left own c
        (λ later. subst (λ (p : Program V). Since old (inner (store_of p)) c) step.down left)) is

    -- where dead transactions were cleaned up, the store is the same
    cleaned_within : (P : Disk → Type 0) (base : List Record) (core d : Core (Fuse V)) (new : Program V) → HasCleaned g core d → new ≡ Up d → Owns P base (Up core)
        → HoldsWithin P base (Up core) (inner (store_of new))
    cleaned_within P base core d new cleaned up own =
        same_within P base (Up core) (inner (store_of new))
        (ap (λ (p : Program V). inner (store_of p)) up ∙ ap (λ (v : Vaulted (Fuse V)). inner v.store) (cleaned_vault g reads_now counts_now core d cleaned)) own

    cleanup_within : (P : Disk → Type 0) (stop : Option Cause) (base : List Record) (core : Core (Fuse V)) (new : Program V) (text : List ℕ) → CleanupIn g stop core text new
        → Owns P base (Up core) → HoldsWithin P base (Up core) (inner (store_of new))
    cleanup_within P (Some cause) base core new text step own = same_state P base (Up core) new step.1 own
    cleanup_within P None base core new text step own = cleaned_within P base core step.0 new step.1 step.2 own

    show_within : (P : Disk → Type 0) (stop : Option Cause) (base : List Record) (core : Core (Fuse V)) (new : Program V) (text : List ℕ) → ShowIn g stop core text new
        → Owns P base (Up core) → HoldsWithin P base (Up core) (inner (store_of new))
    show_within P (Some cause) base core new text step own = same_state P base (Up core) new step.1 own
    show_within P None base core new text step own = cleaned_within P base core step.0 new step.1 step.2 own

    compared_reads : (c d : Core (Fuse V)) (text : List ℕ) → EndsComparison g c text d
        → OnlyReads (told_in g) (moment_in g) (since_in g) (leaves_in g) c.vault.store d.vault.store
    compared_reads c d text (inl compares) = compares.read.reads
    compared_reads c d text (inr stops) = stops.read.reads

    verify_within : (P : Disk → Type 0) (stop : Option Cause) (base : List Record) (core : Core (Fuse V)) (new : Program V) (text : List ℕ)
        → VerifyIn g stop core text new → Owns P base (Up core) → HoldsWithin P base (Up core) (inner (store_of new))
    verify_within P (Some cause) base core new text step own = same_state P base (Up core) new step.1 own
    verify_within P None base core new text step own =
        λ c left is.
        let vault : step.0.vault.store ≡ core.vault.store =
        ap (λ (v : Vaulted (Fuse V)). v.store) (cleaned_vault g reads_now counts_now core step.0 step.2) in
        let reads = subst (λ (f : Fuse V). OnlyReads (told_in g) (moment_in g) (since_in g) (leaves_in g) f step.1.vault.store) vault
        (compared_reads step.0 step.1 text step.3) in
        read_within P base (Up core) step.1.vault.store reads own c (subst (λ (p : Program V). Since (Up core) (inner (store_of p)) c) step.4 left) is

    pub step_within : (Safe : Disk → Type 0) (command : Command) → IsFit command → is_round command ≡ false → (base : List Record) (old new : Program V) (text : List ℕ)
        → Steps g limit precheck old command text new → Owns (NoneEscapesIn Safe old) base old → Within Safe command base old (inner (store_of new))
    step_within Safe (Size index heap) fit none base old new text step own =
        λ c left is.
        was_before g (NoneEscapesIn Safe old) base (inner (store_of old)) c own
        (made_within g reads_now counts_now index heap fit (NoneEscapesIn Safe old) base (store_of old) step.core.vault.store step.left own c
        (λ later. subst (λ (p : Program V). Since old (inner (store_of p)) c) step.up left)) is
    step_within Safe Open fit none base old new text step own = restart_within Safe base old new text step own
    step_within Safe Restart fit none base old new text step own = restart_within Safe base old new text step own
    step_within Safe Cleanup fit none base (Up core) new text step own = cleanup_within (NoneEscapesIn Safe (Up core)) core.system.state.stop base core new text step own
    step_within Safe Cleanup fit none base (Down store) new text step own = same_state Safe base (Down store) new step.1 own
    step_within Safe (Crash choice) fit none base old new text step own =
        λ c left is.
        less_within (NoneEscapesIn Safe old) base old step.store step.left own c
        (subst (λ (s : V). Since old s c) (ap (λ (p : Program V). inner (store_of p)) step.down.down ∙ step.down.store_is) left) is
    step_within Safe Show fit none base (Up core) new text step own = show_within (NoneEscapesIn Safe (Up core)) core.system.state.stop base core new text step own
    step_within Safe Show fit none base (Down store) new text step own = same_state Safe base (Down store) new step.1 own
    step_within Safe Verify fit none base (Up core) new text step own = verify_within (NoneEscapesIn Safe (Up core)) core.system.state.stop base core new text step own
    step_within Safe Verify fit none base (Down store) new text step own = same_state Safe base (Down store) new step.1 own
    step_within Safe Next fit none base old new text step own = same_state (NoneEscapesIn Safe old) base old new step.1 own
    step_within Safe (SetFuse passes) fit none base (Up core) new text step own =
        same_within (NoneEscapesIn Safe (Up core)) base (Up core) (inner (store_of new)) (ap (λ (p : Program V). inner (store_of p)) step.0.2 ∙ step.0.1.store) own
    step_within Safe (SetFuse passes) fit none base (Down store) new text step own =
        same_within Safe base (Down store) (inner (store_of new)) (ap (λ (p : Program V). inner (store_of p)) step.0.2 ∙ step.0.1.store) own
    step_within Safe (Round blocks) fit none base old new text step own = absurd (cc none)
    step_within Safe (Poke region word mask) fit none base old new text step own = absurd (cc none)
    step_within Safe Audit fit none base old new text step own = absurd (cc none)
    step_within Safe Checkpoint fit none base old new text step own = absurd (cc none)

    -- ---- a command that failed
    pub only_within : (Safe : Disk → Type 0) (command : Command) (base : List Record) (old : Program V) (f : Fuse V)
        → OnlyReads (told_in g) (moment_in g) (since_in g) (leaves_in g) (store_of old) f → Owns (NoneEscapesIn Safe old) base old → Within Safe command base old (inner f)
    only_within Safe (Size index heap) base old f reads own = making_read Safe base old f reads own
    only_within Safe Open base old f reads own = making_read Safe base old f reads own
    only_within Safe Restart base old f reads own = making_read Safe base old f reads own
    only_within Safe Cleanup base old f reads own = read_within (NoneEscapesIn Safe old) base old f reads own
    only_within Safe (Crash choice) base old f reads own = read_within (NoneEscapesIn Safe old) base old f reads own
    only_within Safe Show base old f reads own = read_within (NoneEscapesIn Safe old) base old f reads own
    only_within Safe Verify base old f reads own = read_within (NoneEscapesIn Safe old) base old f reads own
    only_within Safe Next base old f reads own = read_within (NoneEscapesIn Safe old) base old f reads own
    only_within Safe (SetFuse passes) base old f reads own = read_within (NoneEscapesIn Safe old) base old f reads own
    only_within Safe (Round blocks) base old f reads own = read_within (NoneEscapesIn Safe old) base old f reads own
    only_within Safe (Poke region word mask) base old f reads own = read_within (NoneEscapesIn Safe old) base old f reads own
    only_within Safe Audit base old f reads own = read_within (NoneEscapesIn Safe old) base old f reads own
    only_within Safe Checkpoint base old f reads own = read_within (NoneEscapesIn Safe old) base old f reads own

    pub broken_within : (Safe : Disk → Type 0) (command : Command) → IsFit command → is_round command ≡ false → (base : List Record) (old : Program V) (f : Fuse V)
        → Breaks g precheck command old f → Owns (NoneEscapesIn Safe old) base old → Within Safe command base old (inner f)
    broken_within Safe (Size index heap) fit none base old f breaks own =
        λ c left is.
        was_before g (NoneEscapesIn Safe old) base (inner (store_of old)) c own
        (made_within g reads_now counts_now index heap fit (NoneEscapesIn Safe old) base (store_of old) f breaks.0 own c (λ later. left)) is
    broken_within Safe Open fit none base old f breaks own =
        λ c left is.
        was_before g (NoneEscapesIn Safe old) base (inner (store_of old)) c own
        (stops_within g reads_now counts_now (NoneEscapesIn Safe old) base (store_of old) f breaks.0 own c (λ later. left)) is
    broken_within Safe Restart fit none base old f breaks own =
        λ c left is.
        was_before g (NoneEscapesIn Safe old) base (inner (store_of old)) c own
        (stops_within g reads_now counts_now (NoneEscapesIn Safe old) base (store_of old) f breaks.0 own c (λ later. left)) is
    broken_within Safe (Crash choice) fit none base old f breaks own = less_within (NoneEscapesIn Safe old) base old (inner f) breaks.0 own
    broken_within Safe (SetFuse passes) fit none base old f breaks own = same_within (NoneEscapesIn Safe old) base old (inner f) breaks own
    broken_within Safe Next fit none base old f breaks own = absurd breaks
    broken_within Safe Cleanup fit none base old f breaks own = same_fuse (NoneEscapesIn Safe old) base old f breaks own
    broken_within Safe Show fit none base old f breaks own = same_fuse (NoneEscapesIn Safe old) base old f breaks own
    broken_within Safe Verify fit none base old f breaks own = read_within (NoneEscapesIn Safe old) base old f breaks.0 own
    broken_within Safe (Round blocks) fit none base old f breaks own = absurd (cc none)
    broken_within Safe (Poke region word mask) fit none base old f breaks own = absurd (cc none)
    broken_within Safe Audit fit none base old f breaks own = absurd (cc none)
    broken_within Safe Checkpoint fit none base old f breaks own = absurd (cc none)

    pub failed_within : (Safe : Disk → Type 0) (command : Command) → IsFit command → is_round command ≡ false → (base : List Record) (old : Program V) (f : Fuse V)
        → StoreFailsIn g precheck command old f → Owns (NoneEscapesIn Safe old) base old → Within Safe command base old (inner f)
    failed_within Safe (Size index heap) fit none base old f fails own =
        λ c left is.
        was_before g (NoneEscapesIn Safe old) base (inner (store_of old)) c own
        (made_within g reads_now counts_now index heap fit (NoneEscapesIn Safe old) base (store_of old) f fails.1 own c (λ later. left)) is
    failed_within Safe Open fit none base old f fails own =
        λ c left is.
        was_before g (NoneEscapesIn Safe old) base (inner (store_of old)) c own
        (stops_within g reads_now counts_now (NoneEscapesIn Safe old) base (store_of old) f fails.1 own c (λ later. left)) is
    failed_within Safe Restart fit none base old f fails own =
        λ c left is.
        was_before g (NoneEscapesIn Safe old) base (inner (store_of old)) c own
        (stops_within g reads_now counts_now (NoneEscapesIn Safe old) base (store_of old) f fails.1 own c (λ later. left)) is
    failed_within Safe (Crash choice) fit none base old f fails own = less_within (NoneEscapesIn Safe old) base old (inner f) fails.1 own
    failed_within Safe Verify fit none base old f fails own = read_within (NoneEscapesIn Safe old) base old f fails.1 own
    failed_within Safe Cleanup fit none base old f fails own = absurd fails
    failed_within Safe Show fit none base old f fails own = absurd fails
    failed_within Safe Next fit none base old f fails own = absurd fails
    failed_within Safe (SetFuse passes) fit none base old f fails own = absurd fails
    failed_within Safe (Round blocks) fit none base old f fails own = absurd fails
    failed_within Safe (Poke region word mask) fit none base old f fails own = absurd (cc none)
    failed_within Safe Audit fit none base old f fails own = absurd (cc none)
    failed_within Safe Checkpoint fit none base old f fails own = absurd (cc none)
