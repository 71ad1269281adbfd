-- A failure of the store that ends a run shows in its count, and a run that reads a script whose gate is found comes to its end.
use Rattle.std.proofs.Common.{◌≡◌, ◌≤◌, ◌<◌, ℕ, ◌+◌, zero, suc, Bool, true, false, List, [], ◌∷◌, ◌++◌, Option, Some, None, length, take, refl, sym, ◌∙◌, ap, subst, arith}
use Rattle.std.specs.Prelude.{IfSome, is_some}
use Rattle.std.specs.List.{AllByRecursion}
use Rattle.dali_arguments.specs.declared.task.Task.TheVariants.{Run}
use Rattle.dali_log.specs.Batch.{IsUnformatted}
use Rattle.dali_fuse.specs.Fuse.{inner, passes_of}
use Rattle.dali_record.specs.declared.records.Record.{Record}
use Rattle.dali_restart.specs.Formatted.{first_record}
use Rattle.dali_script.specs.declared.commands.Command.{Command}
use Rattle.dali_script.specs.declared.commands.Command.TheVariants.{Size, Open}
use Rattle.dali_script.specs.Grammar.{IsSpelled, IsWrong}
use Rattle.dali_script.specs.Scripts.{BeginsOnce, begins}
use Rattle.dali_script.proofs.Outcomes.{never_both, one_script}
use Rattle.dali_script.proofs.RightScripts.{right_script}
use Rattle.dali_store.specs.Store.{Files as Disk}
use Rattle.dali_store.proofs.Causes.{rose_before}
use Rattle.dali_store.specs.declared.store.Store.{Ghosts}
use Rattle.dali_streams.specs.Streams.{ReadAll, ReadTooMany}
use Rattle.dali_run.specs.declared.halt.Halt.TheVariants as halts
use Rattle.dali_run.specs.declared.program.Program.{Program}
use Rattle.dali_run.specs.declared.status.Status.{Status}
use Rattle.dali_run.specs.declared.status.Status.TheVariants.{Done, BadWords, BadScript, TooLong, ReadFault, WriteFault, StoreFault, BadStore, Unformatted, Formatted, StoreUnsteady, RecordTooLong, OutOfMemory, LogFull, TooSmall, NotLoaded}
use Rattle.dali_run.specs.Complete.{FaultRises, FindsItsGate, IsRead, MayEnd, NoneRises, RunsComplete, StoreFaultsRise}
use Rattle.dali_run.specs.Ends.{Course, EndsAs, HasStopped}
use Rattle.dali_run.specs.Fails.{IsSize, Opens}
use Rattle.dali_run.specs.Program.{store_of}
use Rattle.dali_run.specs.Run.{HasRun}
use Rattle.dali_run.specs.Scripts.{Spells, SpellsNone}
use Rattle.dali_run.specs.Survives.{AnyFiles, BeginsWith, IsOwn, NoneEscapeThere, NoneEscapesBefore, NoneEscapesIn, NoneEscapesRead, SafeThere, ScriptIsHonest}
use Rattle.dali_run.specs.Told.{sizes_of}
use Rattle.dali_run.proofs.Failing.{fault_rises}
use Rattle.dali_run.proofs.Surviving.{begins_down, grows, made_some, none_yet, own_store, script_survives, there}

-- ---- what was read
same_bytes : (o : Option (List ℕ)) (bytes read : List ℕ) (rest : Option (List ℕ)) → o ≡ Some bytes → ReadAll o read rest → read ≡ bytes
same_bytes (Some all) bytes read rest is all_read = let same : all ≡ bytes = cc is in all_read.0 ∙ same
same_bytes None bytes read rest is all_read = absurd cc

too_many : (o : Option (List ℕ)) (bytes : List ℕ) (limit : ℕ) (rest : Option (List ℕ)) → o ≡ Some bytes → length bytes ≤ limit → ReadTooMany o limit rest → ⊥
too_many (Some all) bytes limit rest is short many = let same : all ≡ bytes = cc is in omega (arith, ap length same, short, many.0)
too_many None bytes limit rest is short many = absurd cc

-- ---- only the first command makes or opens a database
at_place : (xs : List Command) (n : ℕ) (x : Command) → AllByRecursion (λ (c : Command). begins c ≡ false) xs → take (suc n) xs ≡ take n xs ++ x ∷ [] → begins x ≡ false
at_place [] zero x all next = absurd (cc next)
at_place [] (suc n) x all next = absurd (cc next)
at_place (y ∷ ys) zero x all next = let same : y ≡ x = cc next in subst (λ (c : Command). begins c ≡ false) same all.0
at_place (y ∷ ys) (suc n) x all next = at_place ys n x all.1 (cc next)

size_begins : (command : Command) → IsSize command → begins command ≡ true
size_begins (Size index heap) is = refl
size_begins _ is = absurd is

-- a count that stands at nothing has the first command behind it
first_is : (first x : Command) (later : List Command) → take 1 (first ∷ later) ≡ take 0 (first ∷ later) ++ x ∷ [] → first ≡ x
first_is first x later next = cc next

size_is_first : (script : List Command) (n : ℕ) (x : Command) → BeginsOnce script → take (suc n) script ≡ take n script ++ x ∷ [] → IsSize x → n ≡ 0
size_is_first [] n x once next is = absurd once
size_is_first (first ∷ later) zero x once next is = refl
size_is_first (first ∷ later) (suc n) x once next is =
    let other : begins x ≡ false = at_place later n x once.1 (cc next) in
    let clash : true ≡ false = sym (size_begins x is) ∙ other in absurd cc

some_first : (base L : List Record) → BeginsWith base L → L ≡ [] → 0 < length base → ⊥
some_first [] L begins none some = omega (arith, some)
some_first (x ∷ base) L begins none some = let clash : x ∷ base ++ begins.0 ≡ [] = sym begins.1 ∙ none in absurd cc

module _ {V : Type 0} (g : Ghosts V)
    (reads_now : (s : V) → IfSome (g.told s) (λ fs. g.may_leave s fs)) (counts_now : (s : V) (t : ℕ) (c : Disk) → t ≤ g.moment s → g.may_leave s c → g.left_since s t c)
    (limit : ℕ) (precheck : Bool) where
  -- before the first command the store is the one that was handed in
  at_first : (start : V) (script : List Command) (text : List ℕ) (new : Program V) → HasRun g limit precheck start script 0 text new → inner (store_of new) ≡ start
  at_first start script text new run = ap (λ (p : Program V). inner (store_of p)) (run.runs.1 ∙ run.down.down) ∙ run.down.store_is

  unfused_at_first : (start : V) (script : List Command) (text : List ℕ) (new : Program V) → HasRun g limit precheck start script 0 text new → passes_of (store_of new) ≡ None
  unfused_at_first start script text new run = ap (λ (p : Program V). passes_of (store_of p)) (run.runs.1 ∙ run.down.down) ∙ run.down.unfused.passes

  is_no_database : (o : Option Disk) → is_some o ≡ true → IfSome o (λ fs. IsUnformatted fs.log) → IfSome o (λ fs. IsUnformatted fs.log → ⊥) → ⊥
  is_no_database None tells none some = absurd cc
  is_no_database (Some fs) tells none some = some none

  module _ (c : Course V) (base : List Record) (own : IsOwn g base c.store) where
    never_formatted : (script : List Command) (n : ℕ) (x : Command) (text : List ℕ) (state : Program V) → BeginsOnce script → FindsItsGate g base script c.store
        → take (n + 1) script ≡ take n script ++ x ∷ [] → IsSize x → HasRun g limit precheck c.store script n text state
        → IfSome (g.told (inner (store_of state))) (λ fs. IsUnformatted fs.log → ⊥) → ⊥
    never_formatted [] n x text state once gate next is run some = once
    never_formatted (first ∷ later) n x text state once gate next is run some =
        let more : n + 1 ≡ suc n = omega arith in
        let zero_is : n ≡ 0 = size_is_first (first ∷ later) n x once (subst (λ (m : ℕ). take m (first ∷ later) ≡ take n (first ∷ later) ++ x ∷ []) more next) is in
        let run0 = subst (λ (m : ℕ). HasRun g limit precheck c.store (first ∷ later) m text state) zero_is run in
        let next0 = subst (λ (m : ℕ). take (m + 1) (first ∷ later) ≡ take m (first ∷ later) ++ x ∷ []) zero_is next in
        by_first first x later gate (first_is first x later next0) is
        (subst (λ (s : V). IfSome (g.told s) (λ fs. IsUnformatted fs.log → ⊥)) (at_first c.store (first ∷ later) text state run0) some)
      where
        by_first : (first x : Command) (later : List Command) → FindsItsGate g base (first ∷ later) c.store → first ≡ x → IsSize x
            → IfSome (g.told c.store) (λ fs. IsUnformatted fs.log → ⊥) → ⊥
        by_first (Size index heap) x later gate same is some = is_no_database (g.told c.store) own.0 gate some
        by_first Open x later gate same is some = subst IsSize (sym same) is
        by_first _ x later gate same is some = gate

    never_unformatted : (script : List Command) (n : ℕ) (x : Command) (text : List ℕ) (state : Program V) → BeginsOnce script → FindsItsGate g base script c.store
        → take (n + 1) script ≡ take n script ++ x ∷ [] → Opens x
        → (run : HasRun g limit precheck c.store script n text state)
        → NoneEscapeThere g limit precheck c.store script n text state run
        → NoneEscapesRead g (SafeThere g limit precheck c.store script n text state run) state
        → IfSome (g.told (inner (store_of state))) (λ fs. IsUnformatted fs.log) → ⊥
    unfolding there
    never_unformatted [] n x text state once gate next is run honest last none = once
    never_unformatted (Open ∷ later) n x text state once gate next is run honest last none =
        let gone = there g reads_now counts_now limit precheck base c.store (Open ∷ later) n text state run own honest in
        let safe = SafeThere g limit precheck c.store (Open ∷ later) n text state run in
        let empty = none_yet g reads_now counts_now (NoneEscapesIn safe state) gone.log (inner (store_of state))
        (own_store g safe gone.log state gone.point) last none in
        some_first base gone.log
        (grows g reads_now counts_now limit precheck AnyFiles (take n (Open ∷ later)) base run.first
        (begins_down g base run.first c.store run.down own) text state run.runs gone.log gone.each) empty gate
    never_unformatted (Size index heap ∷ later) zero x text state once gate next is run honest last none =
        subst Opens (sym (first_is (Size index heap) x later next)) is
    never_unformatted (Size index heap ∷ later) (suc n) x text state once gate next is run honest last none =
        let a = begins_down g base run.first c.store run.down own in
        let gone = there g reads_now counts_now limit precheck base c.store (Size index heap ∷ later) (suc n) text state run own honest in
        let safe = SafeThere g limit precheck c.store (Size index heap ∷ later) (suc n) text state run in
        let empty = none_yet g reads_now counts_now (NoneEscapesIn safe state) gone.log (inner (store_of state))
        (own_store g safe gone.log state gone.point) last none in
        some_first (first_record (sizes_of index heap) ∷ []) gone.log
        (made_some g reads_now counts_now limit precheck AnyFiles index heap (take n later) base run.first text state run.runs a honest) empty (omega arith)
    never_unformatted _ n x text state once gate next is run honest last none = gate

    -- a database is made by the first command, before which no fuse is set
    unfused : (script : List Command) (n : ℕ) (x : Command) (text : List ℕ) (state : Program V) → BeginsOnce script → take (n + 1) script ≡ take n script ++ x ∷ []
        → HasRun g limit precheck c.store script n text state → IsSize x → passes_of (store_of state) ≡ None
    unfused script n x text state once next run is =
        let more : n + 1 ≡ suc n = omega arith in
        let zero_is : n ≡ 0 = size_is_first script n x once (subst (λ (m : ℕ). take m script ≡ take n script ++ x ∷ []) more next) is in
        unfused_at_first c.store script text state (subst (λ (m : ℕ). HasRun g limit precheck c.store script m text state) zero_is run)

    pub store_rises : (e : EndsAs g (Some (Run precheck limit)) c StoreFault)
        → NoneEscapesBefore g limit precheck c e.mid e.count StoreFault e.ended
        → FaultRises g limit precheck c e.mid e.count e.ended
    store_rises e honest =
        let stopped : HasStopped g limit precheck halts.StoreFault c e.mid = e.ended in
        let stops = stopped.2 in
        let once = (right_script stopped.1.bytes stopped.0 stopped.1.spelled).once in
        let gone = there g reads_now counts_now limit precheck base c.store stopped.0 stops.count stops.text stops.state stops.run own honest in
        fault_rises g precheck
        (SafeThere g limit precheck c.store stopped.0 stops.count stops.text stops.state stops.run) stops.command gone.log stops.state stops.last gone.point
        (λ is. unfused stopped.0 stops.count stops.command stops.text stops.state once stops.next.next stops.run is) stops.fails

    script_is : (s script : List Command) → IsRead c script → Spells c.left s c.left' → s ≡ script
    script_is s script read spells =
        one_script read.bytes s script
        (subst (λ (b : List ℕ). IsSpelled b s) (same_bytes c.left read.bytes spells.bytes c.left' read.left spells.all) spells.spelled) read.spelled

    pub may_end : (status : Status) (script : List Command) → IsRead c script → FindsItsGate g base script c.store
        → (e : EndsAs g (Some (Run precheck limit)) c status)
        → ScriptIsHonest g limit precheck c e.mid e.count status e.ended
        → NoneRises g limit precheck c e.mid e.count status e.ended
        → MayEnd status
    may_end Done script read gate e honest calm = tt
    may_end OutOfMemory script read gate e honest calm = tt
    may_end ReadFault script read gate e honest calm = absurd (calm.source e.ended.0)
    may_end WriteFault script read gate e honest calm = absurd (calm.sink (rose_before c.write_faults e.count c.write_faults' e.ended.0 e.later))
    may_end StoreFault script read gate e honest calm = absurd (calm.store (store_rises e honest.0))
    may_end BadWords script read gate e honest calm = e.ended
    may_end (BadScript line kind) script read gate e honest calm =
        let none : SpellsNone c.left line kind c.left' = e.ended.0 in
        never_both read.bytes script line kind read.spelled
        (subst (λ (b : List ℕ). IsWrong b line kind) (same_bytes c.left read.bytes none.bytes c.left' read.left none.all) none.wrong)
    may_end TooLong script read gate e honest calm = too_many c.left read.bytes 1048576 c.left' read.left read.short e.ended.0
    may_end (BadStore file at) script read gate e honest calm =
        script_survives g reads_now counts_now limit precheck c e.mid e.count base own (BadStore file at) e.ended honest
    may_end (LogFull end most) script read gate e honest calm = e.ended
    may_end StoreUnsteady script read gate e honest calm =
        script_survives g reads_now counts_now limit precheck c e.mid e.count base own StoreUnsteady e.ended honest
    may_end RecordTooLong script read gate e honest calm = tt
    may_end TooSmall script read gate e honest calm = e.ended
    may_end NotLoaded script read gate e honest calm = e.ended
    may_end Formatted script read gate e honest calm =
        let stopped : HasStopped g limit precheck halts.Formatted c e.mid = e.ended in
        let same = script_is stopped.0 script read stopped.1 in
        let stops = stopped.2 in
        never_formatted stopped.0 stops.count stops.command stops.text stops.state
        (subst BeginsOnce (sym same) (right_script read.bytes script read.spelled).once)
        (subst (λ (s : List Command). FindsItsGate g base s c.store) (sym same) gate) stops.next.next stops.fails.0 stops.run stops.fails.1
    may_end Unformatted script read gate e honest calm =
        let stopped : HasStopped g limit precheck halts.Unformatted c e.mid = e.ended in
        let same = script_is stopped.0 script read stopped.1 in
        let stops = stopped.2 in
        never_unformatted stopped.0 stops.count stops.command stops.text stops.state
        (subst BeginsOnce (sym same) (right_script read.bytes script read.spelled).once)
        (subst (λ (s : List Command). FindsItsGate g base s c.store) (sym same) gate) stops.next.next stops.fails.0 stops.run honest.0 honest.1 stops.fails.1

  pub store_faults_rise : StoreFaultsRise g limit precheck
  store_faults_rise c base own e honest = store_rises c base own e honest

  pub runs_complete : RunsComplete g limit precheck
  runs_complete c status base script own read gate e honest calm = may_end c base own status script read gate e honest calm
