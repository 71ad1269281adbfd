-- Dead transactions are cleaned up, one after another.
use Rattle.std.proofs.Common.{◌≡◌, ◌<◌, ◌+◌, ℕ, Bool, true, false, List, [], ◌∷◌, ◌++◌, Option, Some, None, length, take, slice_index_or, refl, sym, ◌∙◌, ap, subst, inl, inr}
use Rattle.std.specs.Prelude.{◌==◌, ◌&&◌, ◌||◌, is_some}
use Rattle.std.specs.FinMap as finite
use Rattle.std.proofs.lemmas.Bool.{eqb-true}
use Rattle.std.proofs.lemmas.List.{take_more}
use Rattle.dali_history.proofs.Rising.{has_keys}
use Rattle.dali_record.specs.Damage.{has}
use Rattle.dali_record.proofs.Survivors.{has_filter}
use Rattle.dali_region.specs.State.{RegionState}
use Rattle.dali_att.specs.declared.state.State.{State}
use Rattle.dali_att.specs.declared.state.State.TheVariants.{Dead}
use Rattle.dali_fuse.specs.declared.fuse.Fuse.{Fuse}
use Rattle.dali_store.specs.declared.store.Store.{Ghosts}
use Rattle.dali_runs.specs.declared.causes.Cause.{Cause}
use Rattle.dali_runs.specs.State.{SystemState, TxnRow, row_of, state_in, state_of}
use Rattle.dali_transcripts.specs.World.{is_dead_in}
use Rattle.dali_clean.specs.Cleaned.{IsDead}
use Rattle.dali_clean.specs.Others.{RowStays}
use Rattle.dali_system.specs.Served.{Served}
use Rattle.dali_core.specs.declared.whole.Core.{Core}
use Rattle.dali_report.specs.Lines.{texts}
use Rattle.dali_report.specs.declared.printed.Line.TheVariants as lines
use Rattle.dali_run.specs.declared.program.Program.TheVariants.{Up}
use Rattle.dali_run.specs.Steps.{dead_in, IsSame, HasCleanedUp, CleansUp, CleansAll, CleanupIn, HasCleaned, Lists, ShowIn}

-- ---- who is dead

some_row : (o : Option TxnRow) (latched : Option ℕ) → state_in o ≡ Some (Dead latched) → is_some o ≡ true
some_row None latched e = absurd cc
some_row (Some row) latched e = refl

dead_test : (o : Option State) → IsDead o → is_dead_in o ≡ true
dead_test o dead = subst (λ (x : Option State). is_dead_in x ≡ true) (sym dead.1) refl

pub dead_is_listed : (y : SystemState) (t : ℕ) → IsDead (state_of y t) → has (dead_in y) t ≡ true
dead_is_listed y t dead =
    let listed : has (finite.keys y.table) t ≡ true = has_keys y.table t ∙ some_row (row_of y t) dead.0 dead.1 in
    has_filter (λ u. is_dead_in (state_of y u)) (finite.keys y.table) t
    ∙ ap (λ (b : Bool). b && has (finite.keys y.table) t) (dead_test (state_of y t) dead) ∙ listed

row_dead : (gs hs : List RegionState) (y z : SystemState) (t : ℕ) → RowStays gs y t hs z → IsDead (state_of z t) → IsDead (state_of y t)
row_dead gs hs y z t (inl same) dead = (dead.0, sym (ap state_in same) ∙ dead.1)
row_dead gs hs y z t (inr freed) dead = freed.0

module _ {V : Type 0} (g : Ghosts V) where
  after_it : (u t : ℕ) (c d : Core (Fuse V)) (same : Bool) → (u == t) ≡ same → HasCleanedUp g u c d → IsDead (state_of d.system.state t)
      → IsDead (state_of c.system.state t) × (same ≡ false)
  after_it u t c d true is one dead =
      let gone : state_of d.system.state t ≡ None = subst (λ (x : ℕ). state_of d.system.state x ≡ None) (eqb-true u t is) (ap state_in one.gone.0) in
      let left : None ≡ Some (Dead dead.0) = sym gone ∙ dead.1 in absurd cc
  after_it u t c d false is one dead = (row_dead c.regions.items d.regions.items c.system.state d.system.state t (one.others.rows t is) dead, refl)

  same_dead : (c d : Core (Fuse V)) (t : ℕ) → IsSame c d → IsDead (state_of d.system.state t) → IsDead (state_of c.system.state t)
  same_dead c d t same dead = subst (λ (s : Served). IsDead (state_of s.state t)) same.system dead

  after_one : (u t : ℕ) (c d : Core (Fuse V)) → CleansUp g u c d → IsDead (state_of d.system.state t)
      → IsDead (state_of c.system.state t) × ((u == t) ≡ false)
  after_one u t c d (inl one) dead =
      let two = after_it u t c d (u == t) refl one dead in (two.0, two.1)
  after_one u t c d (inr none) dead = by_test (u == t) refl
    where
      was : IsDead (state_of c.system.state t)
      was = same_dead c d t none.1 dead

      by_test : (b : Bool) → (u == t) ≡ b → IsDead (state_of c.system.state t) × ((u == t) ≡ false)
      by_test true is = absurd (none.0 (subst (λ (x : ℕ). IsDead (state_of c.system.state x)) (sym (eqb-true u t is)) was))
      by_test false is = (was, is)

  -- who is dead behind them was dead before, and is none of them
  after_all : (ts : List ℕ) (t : ℕ) (c d : Core (Fuse V)) → CleansAll g ts c d → IsDead (state_of d.system.state t)
      → IsDead (state_of c.system.state t) × (has ts t ≡ false)
  after_all [] t c d same dead = (subst (λ (x : Core (Fuse V)). IsDead (state_of x.system.state t)) same dead, refl)
  after_all (u ∷ us) t c d all dead =
      let later = after_all us t all.0 d all.2 dead in
      let one = after_one u t c all.0 all.1 later.0 in
      (one.0, ap (λ (b : Bool). b || has us t) one.1 ∙ later.1)

  pub has_cleaned : (ts : List ℕ) (c d : Core (Fuse V)) → ts ≡ dead_in c.system.state → CleansAll g ts c d → HasCleaned g c d
  has_cleaned ts c d is all =
      let each : CleansAll g (dead_in c.system.state) c d = subst (λ (l : List ℕ). CleansAll g l c d) is all in
      record {
        each = each;
        none = λ t dead.
            let two = after_all (dead_in c.system.state) t c d each dead in
            let there : has (dead_in c.system.state) t ≡ true = dead_is_listed c.system.state t two.0 in
            let clash : true ≡ false = sym there ∙ two.1 in absurd cc;
      }

  cleans_more : (ts : List ℕ) (t : ℕ) (c m d : Core (Fuse V)) → CleansAll g ts c m → CleansUp g t m d
      → CleansAll g (ts ++ t ∷ []) c d
  cleans_more [] t c m d same one = (d, subst (λ (x : Core (Fuse V)). CleansUp g t x d) same one, refl)
  cleans_more (u ∷ us) t c m d all one = (all.0, all.1, cleans_more us t all.0 m d all.2 one)

  pub cleans_on : (ts : List ℕ) (i e : ℕ) (c m d : Core (Fuse V)) → i < length ts → CleansAll g (take i ts) c m
      → CleansUp g (slice_index_or ts i e) m d → CleansAll g (take (i + 1) ts) c d
  cleans_on ts i e c m d within all one =
      subst (λ (l : List ℕ). CleansAll g l c d) (sym (take_more ts i e within)) (cleans_more (take i ts) (slice_index_or ts i e) c m d all one)

  -- ---- the commands that begin with it, of an engine that runs
  pub cleanup_none : (stop : Option Cause) (c d : Core (Fuse V)) (ts text : List ℕ) → stop ≡ None → ts ≡ dead_in c.system.state → HasCleaned g c d
      → text ≡ texts (lines.Cleaned ts ∷ []) → CleanupIn g stop c text (Up d)
  cleanup_none stop c d ts text runs is cleaned printed =
      subst (λ (o : Option Cause). CleanupIn g o c text (Up d)) (sym runs)
      (d, cleaned, refl, printed ∙ ap (λ (l : List ℕ). texts (lines.Cleaned l ∷ [])) is)

  pub show_none : (stop : Option Cause) (c d : Core (Fuse V)) (text : List ℕ) → stop ≡ None → HasCleaned g c d → Lists d text
      → ShowIn g stop c text (Up d)
  show_none stop c d text runs cleaned lists = subst (λ (o : Option Cause). ShowIn g o c text (Up d)) (sym runs) (d, cleaned, refl, lists)
