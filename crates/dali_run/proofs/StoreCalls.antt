-- How making a database, or a restart, fails.
use Rattle.std.proofs.Common.{◌≡◌, ◌⊎◌, ◌<◌, ◌≤◌, ℕ, Bool, List, [], ◌∷◌, Option, Some, None, Result, Ok, Err, sym, ap, subst, ◌∙◌, inl, inr, refl, arith}
use Rattle.std.specs.Prelude.{IfErr, IfSome}
use Rattle.dali_log.specs.Batch.{IsUnformatted}
use Rattle.dali_log.specs.Formatting.{IsFormattedBy}
use Rattle.dali_log.specs.Reads.{OnlyReads}
use Rattle.dali_restart.proofs.Once.{reads_once}
use Rattle.dali_geometry.specs.Sizes.{Sizes}
use Rattle.dali_fuse.specs.Fuse.{failed_of, passes_of}
use Rattle.dali_fuse.specs.declared.fuse.Fuse.{Fuse}
use Rattle.dali_restart.specs.declared.error.RestartError.{RestartError}
use Rattle.dali_restart.specs.declared.error.RestartError.TheVariants as errors
use Rattle.dali_restart.specs.Formatted.{first_body, IsLeft, IsNewCore, RunBegins}
use Rattle.dali_restart.specs.declared.restarting.Report.{Report}
use Rattle.dali_restart.specs.Restarting.{outcome, BeginsRun, Gives, IsBadAnywhere, IsFresh, IsReadAs, LeavesAtRest, StaysIdle}
use Rattle.dali_report.specs.declared.printed.Line.TheVariants as lines
use Rattle.dali_report.specs.Lines.{texts}
use Rattle.dali_core.specs.declared.whole.Core.{Core}
use Rattle.dali_core.specs.Cores.{IsWholeCore}
use Rattle.dali_script.specs.declared.commands.Command.TheVariants.{Size, Restart}
use Rattle.dali_store.specs.declared.store.FileName.{FileName}
use Rattle.dali_store.specs.Faults.{Rose}
use Rattle.dali_store.specs.Store.{Files}
use Rattle.dali_store.specs.declared.store.Store.{Ghosts}
use Rattle.dali_inspect.specs.Inspected.{IsTooLong}
use Rattle.dali_run.specs.declared.halt.Halt.{Halt}
use Rattle.dali_run.specs.declared.halt.Halt.TheVariants.{OutOfMemory}
use Rattle.dali_run.specs.declared.program.Program.{Program}
use Rattle.dali_run.specs.declared.program.Program.TheVariants.{Up, Down}
use Rattle.dali_run.specs.Fails.{Fails, HaltsWith, KeepsCount, OnlyRead}
use Rattle.dali_run.specs.Halts.{halt_of_restart}
use Rattle.dali_run.specs.Program.{store_of, told_in, leaves_in, moment_in, since_in, faults_in, fused}
use Rattle.dali_run.specs.Steps.{Leaves, Rereads, StepsRestart, StepsSize}
use Rattle.dali_run.specs.Told.{sizes_of}

module _ {V : Type 0} (g : Ghosts V) (precheck : Bool) where
  abbrev Reads : Fuse V → Fuse V → Type 0
  Reads = OnlyRead g precheck

  abbrev Keeps : Fuse V → Fuse V → Type 0
  Keeps = KeepsCount g precheck

  pub record FormatRefused (s : Sizes) (e : RestartError) (old f : Fuse V) : Type 0 where
    pub formatted : e ≡ errors.Formatted → IfSome (told_in g old) (λ fs. IsUnformatted fs.log → ⊥)
    pub wanting : e ≡ errors.OutOfMemory → IfSome (told_in g old) (λ fs. IsUnformatted fs.log)
    pub reads : (e ≡ errors.Formatted) ⊎ (e ≡ errors.OutOfMemory) → Reads old f
    pub errors_are : (e ≡ errors.Fault) ⊎ (e ≡ errors.Formatted) ⊎ (e ≡ errors.OutOfMemory)
    pub fault : e ≡ errors.Fault → Rose (faults_in g old) (faults_in g f)
    pub kept : (e ≡ errors.Fault → ⊥) → Keeps old f
    pub left : IsLeft (fused g) s old f

  none_other : {P : Type 0} (e x : RestartError) → e ≡ x → (x ≡ errors.Fault → ⊥) → (x ≡ errors.Formatted → ⊥) → (x ≡ errors.OutOfMemory → ⊥)
      → (e ≡ errors.Fault) ⊎ (e ≡ errors.Formatted) ⊎ (e ≡ errors.OutOfMemory) → P
  none_other e x is a b c (inl p) = absurd (a cc)
  none_other e x is a b c (inr (inl p)) = absurd (b cc)
  none_other e x is a b c (inr (inr p)) = absurd (c cc)

  pub format_fails : (index heap : ℕ) (e : RestartError) (p : Program V) (f : Fuse V) → FormatRefused (sizes_of index heap) e (store_of p) f
      → Fails g precheck (halt_of_restart e) (Size index heap) p f
  format_fails index heap errors.Fault p f r = (r.fault refl, r.left)
  format_fails index heap errors.Formatted p f r = (tt, r.formatted refl, r.reads (inl refl), r.kept (λ e. absurd cc))
  format_fails index heap errors.OutOfMemory p f r = (r.left, r.kept (λ e. absurd cc), r.reads (inr refl), r.wanting refl)
  format_fails index heap (errors.BadStore file at) p f r = none_other (errors.BadStore file at) _ refl (λ e. absurd cc) (λ e. absurd cc) (λ e. absurd cc) r.errors_are
  format_fails index heap errors.Unformatted p f r = none_other errors.Unformatted _ refl (λ e. absurd cc) (λ e. absurd cc) (λ e. absurd cc) r.errors_are
  format_fails index heap errors.TooLong p f r = none_other errors.TooLong _ refl (λ e. absurd cc) (λ e. absurd cc) (λ e. absurd cc) r.errors_are
  format_fails index heap errors.Unsteady p f r = none_other errors.Unsteady _ refl (λ e. absurd cc) (λ e. absurd cc) (λ e. absurd cc) r.errors_are

  pub record RestartRefused (e : RestartError) (old f : Fuse V) : Type 0 where
    pub bad : (file : FileName) (at : ℕ) → e ≡ errors.BadStore file at → IfSome (told_in g old) (λ fs. IsBadAnywhere fs file at)
    pub unformatted : e ≡ errors.Unformatted → IfSome (told_in g old) (λ fs. IsUnformatted fs.log)
    pub formatted : e ≡ errors.Formatted → ⊥
    pub long : e ≡ errors.TooLong → IfSome (told_in g old) IsTooLong
    pub steady : e ≡ errors.Unsteady → told_in g old ≡ None
    pub reads : (e ≡ errors.Fault → ⊥) → (e ≡ errors.OutOfMemory → ⊥) → Reads old f
    pub fault : e ≡ errors.Fault → Rose (faults_in g old) (faults_in g f)
    pub kept : (e ≡ errors.Fault → ⊥) → Keeps old f
    pub left : Rereads g old f

  refused : (e : RestartError) (p : Program V) (f : Fuse V) → RestartRefused e (store_of p) f → (e ≡ errors.Fault → failed_of f ≤ failed_of (store_of p))
      → Fails g precheck (halt_of_restart e) Restart p f
  refused errors.Fault p f r few = (record { rose = r.fault refl; none_by_fuse = few refl }, r.left)
  refused (errors.BadStore file at) p f r few = (tt, r.bad file at refl, r.reads (λ e. absurd cc) (λ e. absurd cc), r.kept (λ e. absurd cc))
  refused errors.Unformatted p f r few = (tt, r.unformatted refl, r.reads (λ e. absurd cc) (λ e. absurd cc), r.kept (λ e. absurd cc))
  refused errors.Formatted p f r few = absurd (r.formatted refl)
  refused errors.TooLong p f r few = (tt, r.long refl, r.reads (λ e. absurd cc) (λ e. absurd cc), r.kept (λ e. absurd cc))
  refused errors.Unsteady p f r few = (tt, r.steady refl, r.reads (λ e. absurd cc) (λ e. absurd cc), r.kept (λ e. absurd cc))
  refused errors.OutOfMemory p f r few = (r.left, λ le. r.kept (λ e. absurd cc))

  pub restart_fails : (e : RestartError) (halt : Halt) (failed : ℕ) (p : Program V) (f : Fuse V) → failed ≡ failed_of (store_of p) → HaltsWith e failed (failed_of f) halt
      → RestartRefused e (store_of p) f → Fails g precheck halt Restart p f
  restart_fails e halt failed p f was (inl w) r =
      subst (λ (h : Halt). Fails g precheck h Restart p f) (sym w.0)
      (refused e p f r (λ is. subst (λ (n : ℕ). failed_of f ≤ n) was (w.1 is)))
  restart_fails e halt failed p f was (inr w) r =
      let less : failed_of (store_of p) < failed_of f = subst (λ (n : ℕ). n < failed_of f) was w.2 in
      subst (λ (h : Halt). Fails g precheck h Restart p f) (sym w.0) (r.left, λ le. absurd (omega (arith, less, le)))

  -- the store was that of the program
  pub restart_fails_over : (e : RestartError) (halt : Halt) (failed : ℕ) (p : Program V) (old f : Fuse V) → old ≡ store_of p → failed ≡ failed_of old → HaltsWith e failed (failed_of f) halt
      → RestartRefused e old f → Fails g precheck halt Restart p f
  restart_fails_over e halt failed p old f is was halts r =
      restart_fails e halt failed p f (was ∙ ap (λ (o : Fuse V). failed_of o) is) halts (subst (λ (o : Fuse V). RestartRefused e o f) is r)

  pub format_fails_over : (index heap : ℕ) (s : Sizes) (e : RestartError) (halt : Halt) (p : Program V) (old f : Fuse V) → s ≡ sizes_of index heap → old ≡ store_of p
      → halt ≡ halt_of_restart e → FormatRefused s e old f → Fails g precheck halt (Size index heap) p f
  format_fails_over index heap s e halt p old f size is halts r =
      subst (λ (h : Halt). Fails g precheck h (Size index heap) p f) (sym halts)
      (format_fails index heap e p f (subst (λ (z : Sizes). FormatRefused z e (store_of p) f) size (subst (λ (o : Fuse V). FormatRefused s e o f) is r)))

-- what a database that was made is, of whatever sizes
module _ {V : Type 0} (g : Ghosts V) (limit : ℕ) where
  pub record Formatted (s : Sizes) (old : Fuse V) (c : Core (Fuse V)) : Type 0 where
    pub core : IsNewCore s limit c.regions.items c.system c.vault
    pub whole : IsWholeCore (told_in g) c.regions.items c.system.state c.vault
    pub begins : RunBegins (fused g) s limit c.regions.items c.system.state c.vault
    pub unformatted : IfSome (told_in g old) (λ fs. IsUnformatted fs.log)
    pub makes : IfSome (told_in g old) (λ _. (x : Files) → leaves_in g c.vault.store x → IsFormattedBy (leaves_in g old) (first_body s) x)
    pub left : IsLeft (fused g) s old c.vault.store
    pub kept : faults_in g c.vault.store ≡ faults_in g old

  pub format_steps : (index heap : ℕ) (p : Program V) (c : Core (Fuse V)) (text : List ℕ) → text ≡ [] → Formatted (sizes_of index heap) (store_of p) c
      → StepsSize g limit index heap p text (Up c)
  format_steps index heap p c text none made = record {
    core = c;
    up = refl;
    fresh = made.core;
    whole = made.whole;
    begins = made.begins;
    unformatted = made.unformatted;
    makes = made.makes;
    left = made.left;
    kept = made.kept;
    silent = none;
  }

  -- what a restart handed out
  pub record Restored (old : Fuse V) (c : Core (Fuse V)) (report : Report) : Type 0 where
    pub gives : IfSome (told_in g old) (λ fs. Gives fs (outcome c.regions.items report))
    pub read : IfSome (told_in g old) (λ fs. IsReadAs fs (outcome c.regions.items report))
    pub fresh : IsFresh limit c.regions.items c.system c.vault
    pub whole : IsWholeCore (told_in g) c.regions.items c.system.state c.vault
    pub begins : IfSome (told_in g old) (λ fs. BeginsRun (fused g) limit fs c.regions.items c.system.state c.vault)
    pub rests : IfSome (told_in g old) (λ fs. (x : Files) → leaves_in g c.vault.store x → LeavesAtRest fs x)
    pub idle : IfSome (told_in g old) (λ fs. StaysIdle (told_in g) (leaves_in g) (moment_in g) (since_in g) fs old c.vault.store)
    pub left : Leaves g old c.vault.store
    pub kept : faults_in g c.vault.store ≡ faults_in g old

  -- it began with the store that was given up
  pub restored_by : (old f : Fuse V) (c : Core (Fuse V)) (report : Report) → f ≡ old → IfSome (told_in g f) (λ fs. Gives fs (outcome c.regions.items report)) → IfSome (told_in g f) (λ fs. IsReadAs fs (outcome c.regions.items report))
      → IsFresh limit c.regions.items c.system c.vault → IsWholeCore (told_in g) c.regions.items c.system.state c.vault
      → IfSome (told_in g f) (λ fs. BeginsRun (fused g) limit fs c.regions.items c.system.state c.vault) → IfSome (told_in g f) (λ fs. (x : Files) → leaves_in g c.vault.store x → LeavesAtRest fs x)
      → IfSome (told_in g f) (λ fs. StaysIdle (told_in g) (leaves_in g) (moment_in g) (since_in g) fs f c.vault.store) → Leaves g f c.vault.store → faults_in g c.vault.store ≡ faults_in g f → Restored old c report
  restored_by old f c report same gives read fresh whole begins rests idle left kept =
      subst (λ (o : Fuse V). Restored o c report) same
      (record { gives = gives; read = read; fresh = fresh; whole = whole; begins = begins; rests = rests; idle = idle; left = left; kept = kept })

  -- no database was missing
  pub restored_rereads : (old : Fuse V) (c : Core (Fuse V)) (report : Report) → Restored old c report → Rereads g old c.vault.store
  restored_rereads old c report made = record { left = made.left; none = by_told (told_in g old) made.read }
    where
      by_told : (o : Option Files) → IfSome o (λ fs. IsReadAs fs (outcome c.regions.items report))
          → IfSome o (λ fs. IsUnformatted fs.log → OnlyReads (told_in g) (moment_in g) (since_in g) (leaves_in g) old c.vault.store)
      by_told None read = tt
      by_told (Some fs) read = λ without. absurd ((reads_once fs (outcome c.regions.items report) read).2 without)

  pub restart_steps : (p : Program V) (c : Core (Fuse V)) (report : Report) (text : List ℕ)
      → text ≡ texts (lines.RolledBack report.rolled_back.items ∷ lines.Deleted report.deleted.items ∷ []) → Restored (store_of p) c report
      → StepsRestart g limit p text (Up c)
  restart_steps p c report text printed made = inl (record {
    core = c;
    report = report;
    up = refl;
    gives = made.gives;
    read = made.read;
    fresh = made.fresh;
    whole = made.whole;
    begins = made.begins;
    rests = made.rests;
    idle = made.idle;
    left = made.left;
    kept = made.kept;
    printed = printed;
  })

  pub restart_stops : (p : Program V) (f : Fuse V) (failed : ℕ) (text : List ℕ) → failed ≡ failed_of (store_of p) → failed < failed_of f
      → Rose (faults_in g (store_of p)) (faults_in g f) → Rereads g (store_of p) f → text ≡ texts (lines.RestartStoreStopped ∷ [])
      → StepsRestart g limit p text (Down f)
  restart_stops p f failed text was less rose left printed = inr (record {
    store = f;
    down = refl;
    by_fuse = subst (λ (n : ℕ). n < failed_of f) was less;
    rose = rose;
    left = left;
    printed = printed;
  })

  pub restart_stops_over : (p : Program V) (old f : Fuse V) (failed : ℕ) (text : List ℕ) → old ≡ store_of p → failed ≡ failed_of old → failed < failed_of f
      → Rose (faults_in g old) (faults_in g f) → Rereads g old f → text ≡ texts (lines.RestartStoreStopped ∷ [])
      → StepsRestart g limit p text (Down f)
  restart_stops_over p old f failed text is was less rose left printed =
      restart_stops p f failed text (was ∙ ap (λ (o : Fuse V). failed_of o) is) less (subst (λ (o : Fuse V). Rose (faults_in g o) (faults_in g f)) is rose)
      (subst (λ (o : Fuse V). Rereads g o f) is left) printed

  -- it was handed out, and there was no memory for its lines
  pub restored_fails : {T : Type 0} (precheck : Bool) (r : Result T Halt) (p : Program V) (c : Core (Fuse V)) (report : Report) → Restored (store_of p) c report
      → IfErr r (λ halt. halt ≡ OutOfMemory) → IfErr r (λ halt. Fails g precheck halt Restart p c.vault.store)
  restored_fails precheck (Ok x) p c report made memory = tt
  restored_fails precheck (Err halt) p c report made memory =
      subst (λ (h : Halt). Fails g precheck h Restart p c.vault.store) (sym memory)
      (restored_rereads (store_of p) c report made, λ few. made.kept)
