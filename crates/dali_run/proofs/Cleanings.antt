-- Behind the clean-up of dead transactions a round may begin, where one might before it.
use Rattle.std.proofs.Common.{◌≡◌, ℕ, Bool, true, false, List, [], ◌∷◌, ◌++◌, Option, Some, None, map, refl, sym, ◌∙◌, ap, subst, inl, inr}
use Rattle.std.specs.Prelude.{◌==◌, IfSome, IsSome, IsSomeAnd, slice_get}
use Rattle.std.specs.Option.{option_map}
use Rattle.std.proofs.lemmas.Bool.{eqb-true}
use Rattle.dali_att.specs.declared.state.State.{State}
use Rattle.dali_att.specs.declared.state.State.TheVariants.{Live, Dead, Cleaning, Committed}
use Rattle.dali_att.specs.Table.{with_state}
use Rattle.dali_clean.specs.Cleaned.{AreDead, IsDead}
use Rattle.dali_clean.specs.Others.{RowStays}
use Rattle.dali_system.specs.Served.{Served}
use Rattle.dali_crash.specs.Checkpoints.{Does, IsPointCourse, Point, StoreStep}
use Rattle.dali_crash.specs.StoreRuns.{FlagTells}
use Rattle.dali_crash.specs.Traces.{Start}
use Rattle.dali_crash.proofs.Flags.{flag_changes, flag_stays}
use Rattle.dali_checkpoint.proofs.Calls.{course_join}
use Rattle.dali_fuse.specs.declared.fuse.Fuse.{Fuse}
use Rattle.dali_record.specs.declared.records.Record.{Record}
use Rattle.dali_region.specs.declared.Hold.{Hold}
use Rattle.dali_region.specs.State.{RegionState}
use Rattle.dali_round.specs.Leads.{BeginsAt}
use Rattle.dali_store.specs.declared.store.Store.{Ghosts}
use Rattle.dali_runs.specs.Courses.{Step}
use Rattle.dali_runs.specs.State.{SystemState, TxnRow, row_of, state_in, state_of}
use Rattle.dali_transcripts.specs.Rounds.{IsBetween}
use Rattle.dali_transcripts.specs.World.{is_claimed_in, is_dead_in}
use Rattle.dali_core.specs.Vault.Vaulted.{Vaulted}
use Rattle.dali_core.specs.declared.whole.Core.{Core}
use Rattle.dali_core.specs.Cores.{HoldsPlaces, IsCoreAt}
use Rattle.dali_run.specs.Program.{told_in, leaves_in, faults_in, fused}
use Rattle.dali_run.specs.Steps.{CleansAll, CleansUp, HasCleanedUp, IsSame}
use Rattle.dali_core.proofs.Lengths.{flags_hold}

-- ---- rows
abbrev pub AllDead : SystemState → Type 0
AllDead y = (t : ℕ) → IsSome (row_of y t) → is_dead_in (state_of y t) ≡ true

dead_row : (o p : Option TxnRow) → IsDead (state_in o) → p ≡ option_map (with_state (Dead None)) o → is_dead_in (state_in p) ≡ true
dead_row None p dead is = let left : None ≡ Some (Dead dead.0) = dead.1 in absurd cc
dead_row (Some row) p dead is = ap (λ (q : Option TxnRow). is_dead_in (state_in q)) is

row_goes : (gs hs : List RegionState) (y z : SystemState) (t : ℕ) → RowStays gs y t hs z → AllDead y → IsSome (row_of z t) → is_dead_in (state_of z t) ≡ true
row_goes gs hs y z t (inl same) all some = ap (λ (o : Option TxnRow). is_dead_in (state_in o)) same ∙ all t (subst IsSome same some)
row_goes gs hs y z t (inr freed) all some = dead_row (row_of y t) (row_of z t) freed.0 freed.2

free_so : (o : Option TxnRow) → (IsSome o → is_dead_in (state_in o) ≡ true) → is_claimed_in (state_in o) ≡ false
free_so None dead = refl
free_so (Some row) dead = by_state row.state (dead refl)
  where
    by_state : (s : State) → is_dead_in (Some s) ≡ true → is_claimed_in (Some s) ≡ false
    by_state Live e = refl
    by_state (Dead latched) e = refl
    by_state (Cleaning latched) e = absurd cc
    by_state Committed e = refl

-- ---- holds
none_live : (o : Option Hold) → IfSome o (λ h. h.dead ≡ true) → IsSomeAnd o (λ h. h.dead ≡ false) → ⊥
none_live None dead live = absurd live
none_live (Some h) dead live = let clash : true ≡ false = sym dead ∙ live in absurd cc

-- ---- the flag
flags_go : (xs : List Step) (p q : Point) → IsPointCourse p (map Does xs) q → FlagTells p → FlagTells q × (q.core.system.checking ≡ p.core.system.checking)
flags_go [] p q same tells = (subst FlagTells same tells, ap (λ (z : Point). z.core.system.checking) (sym same))
flags_go (x ∷ xs) p q course tells =
    let rest = flags_go xs course.0 q course.2 (flag_stays p course.0 (Does x) tells course.1) in
    (rest.0, rest.1 ∙ flag_changes p course.0 (Does x) course.1)

module _ {V : Type 0} (g : Ghosts V) where
  abbrev pub At : Start → List (List Record) → Point → List RegionState → SystemState → Vaulted (Fuse V) → Type 0
  At s B p gs y v = BeginsAt (fused g) s B p gs y v

  all_dead : (u : ℕ) (c d : Core (Fuse V)) → HasCleanedUp g u c d → AllDead c.system.state → AllDead d.system.state
  all_dead u c d one all = λ t some. by_test t some (u == t) refl
    where
      by_test : (t : ℕ) → IsSome (row_of d.system.state t) → (b : Bool) → (u == t) ≡ b → is_dead_in (state_of d.system.state t) ≡ true
      by_test t some true is =
          let gone : row_of d.system.state t ≡ None = subst (λ (x : ℕ). row_of d.system.state x ≡ None) (eqb-true u t is) one.gone.0 in
          let left : IsSome {T = TxnRow} None = subst IsSome gone some in absurd cc
      by_test t some false is = row_goes c.regions.items d.regions.items c.system.state d.system.state t (one.others.rows t is) all some

  -- the run goes on to where a round may begin
  pub record Moved (s : Start) (B : List (List Record)) (p : Point) (d : Core (Fuse V)) : Type 0 where
    pub to : Point
    pub steps : List StoreStep
    pub course : IsPointCourse p steps to
    pub begins : At s B to d.regions.items d.system.state d.vault
    pub dead : AllDead d.system.state

  between_so : (p q : Point) (d : Core (Fuse V)) → q.core.regions ≡ d.regions.items → q.core.system ≡ d.system.state → q.core.vault.stopped ≡ false
      → q.core.system.checking ≡ p.core.system.checking → IsBetween p.core → AreDead d.regions.items → AllDead d.system.state → IsBetween q.core
  between_so p q d regions system runs flag was dead all =
      let there : AllDead q.core.system = subst AllDead (sym system) all in
      record {
        rests = record {
          stopped = λ e. let clash : true ≡ false = sym e ∙ runs in absurd cc;
          holds = λ r x at live. none_live x.hold (dead r x (subst (λ (l : List RegionState). slice_get l r ≡ Some x) regions at)) live;
          flag = flag ∙ was.rests.flag;
          free = λ t. free_so (row_of q.core.system t) (there t);
        };
        idle = λ up. there;
      }

  cleaned_up : (s : Start) (B : List (List Record)) (p : Point) (t : ℕ) (c d : Core (Fuse V)) → HasCleanedUp g t c d → At s B p c.regions.items c.system.state c.vault
      → AllDead c.system.state → c.vault.stopped ≡ false → Moved s B p d
  cleaned_up s B p t c d one begins all runs =
      let at = one.ends s B p begins.stands.at begins.stands.whole in
      let flags = flags_go at.steps p at.to at.course begins.keeps in
      let dead : AreDead d.regions.items = one.dead begins.stands.dead in
      let here = all_dead t c d one all in
      record {
        to = at.to;
        steps = map Does at.steps;
        course = at.course;
        begins = record {
          stands = record {
            at =
                subst (λ (w : Vaulted (Fuse V)). IsCoreAt (fused g) s B at.to d.regions.items d.system.state w) (sym one.vault) at.at;
            whole = at.whole;
            dead = dead;
          };
          files =
              flags_hold (told_in g d.vault.store) c.regions.items d.regions.items one.flags
              (subst (λ (w : Vaulted (Fuse V)). IfSome (told_in g w.store) (HoldsPlaces c.regions.items)) (sym one.vault) begins.files);
          keeps = flags.0;
          between = between_so p at.to d at.at.regions at.at.system (at.at.vault.vault.stopped ∙ runs) flags.1 begins.between dead here;
        };
        dead = here;
      }

  same_begins : (s : Start) (B : List (List Record)) (p : Point) (c d : Core (Fuse V)) → IsSame c d → At s B p c.regions.items c.system.state c.vault
      → At s B p d.regions.items d.system.state d.vault
  same_begins s B p c d same begins =
      subst (λ (w : Vaulted (Fuse V)). At s B p d.regions.items d.system.state w) (sym same.vault)
      (subst (λ (y : Served). At s B p d.regions.items y.state c.vault) (sym same.system) (subst (λ (gs : List RegionState). At s B p gs c.system.state c.vault) (sym same.regions) begins))

  pub moved_one : (s : Start) (B : List (List Record)) (p : Point) (t : ℕ) (c d : Core (Fuse V)) → CleansUp g t c d → At s B p c.regions.items c.system.state c.vault
      → AllDead c.system.state → c.vault.stopped ≡ false → Moved s B p d × (d.vault.stopped ≡ false)
  moved_one s B p t c d (inl one) begins all runs = (cleaned_up s B p t c d one begins all runs, ap (λ (w : Vaulted (Fuse V)). w.stopped) one.vault ∙ runs)
  moved_one s B p t c d (inr none) begins all runs = (
    record {
      to = p;
      steps = [];
      course = refl;
      begins = same_begins s B p c d none.1 begins;
      dead = subst (λ (y : Served). AllDead y.state) (sym none.1.system) all;
    },
    ap (λ (w : Vaulted (Fuse V)). w.stopped) none.1.vault ∙ runs,
  )

  pub moved_all : (ts : List ℕ) (s : Start) (B : List (List Record)) (p : Point) (c d : Core (Fuse V)) → CleansAll g ts c d → At s B p c.regions.items c.system.state c.vault
      → AllDead c.system.state → c.vault.stopped ≡ false → Moved s B p d
  moved_all [] s B p c d same begins all runs =
      subst (Moved s B p) (sym same) (record { to = p; steps = []; course = refl; begins = begins; dead = all })
  moved_all (t ∷ ts) s B p c d cleans begins all runs =
      let one = moved_one s B p t c cleans.0 cleans.1 begins all runs in
      let rest = moved_all ts s B one.0.to cleans.0 d cleans.2 one.0.begins one.0.dead one.1 in
      record {
        to = rest.to;
        steps = one.0.steps ++ rest.steps;
        course = course_join p one.0.to rest.to one.0.steps rest.steps one.0.course rest.course;
        begins = rest.begins;
        dead = rest.dead;
      }

  -- an engine that runs: each transaction that has a row is dead, and the vault runs
  pub idle_runs : (s : Start) (B : List (List Record)) (p : Point) (c : Core (Fuse V)) → At s B p c.regions.items c.system.state c.vault → c.system.state.stop ≡ None
      → AllDead c.system.state × (c.vault.stopped ≡ false)
  idle_runs s B p c begins up =
      let at = begins.stands.at in (
        subst AllDead at.system (begins.between.idle (ap (λ (y : SystemState). y.stop) at.system ∙ up)),
        sym at.vault.vault.stopped ∙ by_test p.core.vault.stopped refl,
      )
    where
      by_test : (b : Bool) → p.core.vault.stopped ≡ b → p.core.vault.stopped ≡ false
      by_test false is = is
      by_test true is =
          let stop = begins.between.rests.stopped is in
          let clash : Some stop.0 ≡ None = sym stop.1 ∙ (ap (λ (y : SystemState). y.stop) begins.stands.at.system ∙ up) in absurd cc
