-- A line that says that the store failed is of a deed that says so, and a count rose then.
--     alone_rises        a poke, an audit or a checkpoint from a point of a run
--     fault_rises        each command that a failure of the store ends
use Rattle.std.proofs.Common.{◌≡◌, ◌≤◌, ℕ, Bool, true, false, List, [], ◌∷◌, ◌++◌, Option, Some, None, length, map, refl, sym, ◌∙◌, ap, subst, inl, inr, ⊎_elim, arith}
use Rattle.std.specs.Prelude.{◌⊎◌, ◌||◌, ◌&&◌, ◌==◌, is_some}
use Rattle.std.specs.List.{list_all, list_any}
use Rattle.std.proofs.lemmas.List.Folds.{list_any-append}
use Rattle.std.proofs.lemmas.Bool.{or_cases, or_right}
use Rattle.dali_transcripts.specs.Clients.Said.{Transcribed}
use Rattle.dali_fuse.specs.Fuse.{passes_of, failed_by, failed_of}
use Rattle.dali_fuse.specs.declared.fuse.Fuse.{Fuse}
use Rattle.dali_record.specs.declared.records.Record.{Record}
use Rattle.dali_round.specs.Leads.{lines_in}
use Rattle.dali_script.specs.declared.commands.Command.{Command}
use Rattle.dali_script.specs.declared.commands.Command.TheVariants.{Size, Open, Round, Poke, Audit, Checkpoint, Cleanup, Crash, Restart, Show, Verify, Next, Fuse as SetFuse}
use Rattle.dali_store.specs.Faults.{Rose}
use Rattle.dali_store.specs.Store.{Files as Disk}
use Rattle.dali_store.specs.declared.store.Store.{Ghosts}
use Rattle.dali_runs.specs.Run.{HasRisen}
use Rattle.dali_runs.specs.State.{CoreState}
use Rattle.dali_transcripts.specs.Moves.{Receipt, Place, Outside, Spot, Move, Begins, IsRefusedBegin, Pokes as PokesOnce, PokesNothing, Audits as AuditsOnce, IsRefusedAudit, Checkpoints as ChecksOnce, FailsCheckpoint, IsRefusedCheckpoint, from, said, own, to, start, spanned, refused_own}
use Rattle.dali_transcripts.specs.Transcripts.{EachTells, IsPath, MayBeCut, count_with, deeds_of, own_by, owned, owned_one, said_by}
use Rattle.dali_transcripts.specs.Words.{Act, Pokes, Audits, Checkpoints, Said, Refused, Why, StoppedBy, Full, Damaged, StoreFailed, UnderWay}
use Rattle.dali_transcripts.specs.World.{Deed, EndsCheckpoint, Happening, Meets, World, failing, has_failed}
use Rattle.dali_transcripts.proofs.Together.{stays_failed}
use Rattle.dali_core.specs.declared.whole.Core.{Core}
use Rattle.dali_run.specs.declared.program.Program.{Program}
use Rattle.dali_run.specs.declared.program.Program.TheVariants.{Up, Down}
use Rattle.dali_run.specs.Complete.{OwnRose}
use Rattle.dali_run.specs.Fails.{AloneFails, FailsAlone, IsSize, StoreFailsIn}
use Rattle.dali_run.specs.Program.{faults_in, store_of}
use Rattle.dali_run.specs.Survives.{IsAPoint, IsPointOf}
use Rattle.dali_run.specs.Texts.{is_failure, says_failure}
use Rattle.dali_run.specs.Told.{alone}

-- ---- a test of some element of a list

any_left : {X : Type 0} (p : X → Bool) (xs ys : List X) → list_any p xs ≡ true → list_any p (xs ++ ys) ≡ true
any_left p xs ys e = list_any-append p xs ys ∙ ap (λ (b : Bool). b || list_any p ys) e

any_right : {X : Type 0} (p : X → Bool) (xs ys : List X) → list_any p ys ≡ true → list_any p (xs ++ ys) ≡ true
any_right p xs ys e = list_any-append p xs ys ∙ or_right (list_any p xs) (list_any p ys) e

any_split : {X : Type 0} (p : X → Bool) (xs ys : List X) → list_any p (xs ++ ys) ≡ true → (list_any p xs ≡ true) ⊎ (list_any p ys ≡ true)
any_split p xs ys e = or_cases (list_any p xs) (list_any p ys) (sym (list_any-append p xs ys) ∙ e)

-- ---- the steps of a client that only pokes, audits and makes checkpoints
abbrev is_failing : Receipt → Bool
is_failing (n, Meets StoreFailed) = true
is_failing x = false

abbrev is_lone : Act → Bool
is_lone (Pokes region word mask) = true
is_lone Audits = true
is_lone Checkpoints = true
is_lone act = false

abbrev IsCalm : Place → Type 0
IsCalm (Outside stopped) = Unit {0}
IsCalm place = ⊥

met : (act : Act) (n : ℕ) (why : Why) → list_any is_failure (Refused act why ∷ []) ≡ true → list_any is_failing ((n, Meets why) ∷ []) ≡ true
met act n StoreFailed e = refl
met act n (StoppedBy cause) e = absurd (cc e)
met act n (Full end limit) e = absurd (cc e)
met act n (Damaged region codeword found) e = absurd (cc e)
met act n UnderWay e = absurd (cc e)

in_span : (span : Option (ℕ × ℕ)) (xs : List Receipt) → list_any is_failing xs ≡ true → list_any is_failing (spanned span xs) ≡ true
in_span None xs e = e
in_span (Some (since, until)) xs e = any_left is_failing xs ((until, EndsCheckpoint) ∷ []) e

in_refused : (late : Bool) (span : Option (ℕ × ℕ)) (work : List Receipt) (x : Receipt) → list_any is_failing (x ∷ []) ≡ true → list_any is_failing (refused_own late span work x) ≡ true
in_refused true span work x e = any_right is_failing (spanned span work) (x ∷ []) e
in_refused false span work x e = in_span span (work ++ x ∷ []) (any_right is_failing work (x ∷ []) e)

abbrev Steps : Move → Type 0
Steps x = IsCalm (to x).place × (list_all is_lone (to x).rest ≡ true) × (list_any is_failure (said x) ≡ true → list_any is_failing (own x) ≡ true)

steps : (x : Move) → IsCalm (from x).place → list_all is_lone (from x).rest ≡ true → Steps x
steps (Begins t n rest) calm lone = absurd (cc lone)
steps (IsRefusedBegin place s n why rest) calm lone = absurd (cc lone)
steps (PokesOnce s n r w m rest) calm lone = (tt, lone, λ e. absurd (cc e))
steps (PokesNothing s r w m rest) calm lone = (tt, lone, λ e. absurd (cc e))
steps (AuditsOnce b n rs failed rest) calm lone = (tt, lone, λ e. absurd (cc e))
steps (IsRefusedAudit s work n why rest) calm lone = (tt, lone, λ e. any_right is_failing work ((n, Meets why) ∷ []) (met Audits n why e))
steps (ChecksOnce since b n m until current rest) calm lone = (tt, lone, λ e. absurd (cc e))
steps (FailsCheckpoint since b n until r rs failed rest) calm lone = (tt, lone, λ e. absurd (cc e))
steps (IsRefusedCheckpoint s span late work n why rest) calm lone = (tt, lone, λ e. in_refused late span work (n, Meets why) (met Checkpoints n why e))
steps _ calm lone = absurd calm

path_fails : (w : World) (c : ℕ) (p q : Spot) (xs : List Move) → IsPath w c p xs q → IsCalm p.place → list_all is_lone p.rest ≡ true
    → list_any is_failure (said_by xs) ≡ true → list_any is_failing (own_by xs) ≡ true
path_fails w c p q [] path calm lone says = absurd (cc says)
path_fails w c p q (x ∷ xs) path calm lone says =
    let goes : Steps x = steps x (subst (λ (s : Spot). IsCalm s.place) path.0 calm) (subst (λ (s : Spot). list_all is_lone s.rest ≡ true) path.0 lone) in
    ⊎_elim
    (λ first. any_left is_failing (own x) (own_by xs) (goes.2 first))
    (λ later. any_right is_failing (own x) (own_by xs) (path_fails w c (to x) q xs path.2 goes.0 goes.1 later))
    (any_split is_failure (said x) (said_by xs) says)

-- ---- its deeds are among those of the round

deed_fails : (n : ℕ) (x : Deed) (d : ℕ) (b : Bool) → is_failing (n, x) ≡ true → failing b (x, d) ≡ true
deed_fails n (Meets StoreFailed) d b e = refl
deed_fails n x d b e = absurd (cc e)

one_fails : (same : Bool) (n : ℕ) (x : Deed) (d : ℕ) (b : Bool) (ys : List Receipt) → list_any is_failing (owned_one same (n, x) ys) ≡ true
    → (failing b (x, d) ≡ true) ⊎ (list_any is_failing ys ≡ true)
one_fails true n x d b ys e = ⊎_elim (λ first. inl (deed_fails n x d b first)) (λ later. inr later) (or_cases (is_failing (n, x)) (list_any is_failing ys) e)
one_fails false n x d b ys e = inr e

owned_fails : (c n : ℕ) (b : Bool) (xs : List Happening) → list_any is_failing (owned c n xs) ≡ true → has_failed b xs ≡ true
owned_fails c n b [] e = absurd (cc e)
owned_fails c n b ((x, d) ∷ xs) e =
    ⊎_elim
    (λ now. ap (λ k. has_failed k xs) now ∙ stays_failed xs)
    (λ later. owned_fails c (count_with n x) (failing b (x, d)) xs later)
    (one_fails (d == c) n x d b (owned c (count_with n x) xs) e)

client_fails : (w : World) (c : ℕ) (act : Act) (lines : List Said) → is_lone act ≡ true → MayBeCut true w c (act ∷ []) lines (deeds_of w c)
    → list_any is_failure lines ≡ true → has_failed false w.happened ≡ true
client_fails w c act lines lone told says =
    let so_far = told.so_far in
    let path = path_fails w c (start (act ∷ [])) (record { place = told.place; rest = [] }) so_far.moves so_far.path tt (ap (λ (b : Bool). b && true) lone)
    (subst (λ (l : List Said). list_any is_failure l ≡ true) so_far.lines_are says) in
    owned_fails c (length w.before) false w.happened
    (subst (λ (l : List Receipt). list_any is_failing l ≡ true) (sym so_far.did_are) (any_left is_failing (own_by so_far.moves) [] path))

round_fails : (w : World) (act : Act) (ts : List Transcribed) → is_lone act ≡ true → EachTells true w (alone act) (map lines_in ts)
    → list_any says_failure ts ≡ true → has_failed false w.happened ≡ true
round_fails w act [] lone tells says = absurd (cc says)
round_fails w act (t ∷ []) lone tells says =
    client_fails w 1 act (lines_in t) lone tells.0 (⊎_elim (λ it. it) (λ none. absurd (cc none)) (or_cases (says_failure t) false says))
round_fails w act (t ∷ u ∷ ts) lone tells says = absurd tells.1

pub rises : (a b n m : ℕ) → a ≡ n → b ≡ m → HasRisen a b → Rose n m
rises a b n m was is rose = subst (λ k. Rose k m) was (subst (λ k. Rose a k) is rose)

-- ---- counts
unset : (o : Option ℕ) (n : ℕ) → is_some o ≡ false → failed_by o n ≡ 0
unset None n e = refl
unset (Some left) n e = absurd (cc e)

pub none_failed : {V : Type 0} (f : Fuse V) → is_some (passes_of f) ≡ false → failed_of f ≡ 0
none_failed f e = unset (passes_of f) _ e

module _ {V : Type 0} (g : Ghosts V) (precheck : Bool) where
  alone_rises : (act : Act) → is_lone act ≡ true → (base : List Record) (c : Core (Fuse V)) (f : Fuse V) → IsPointOf g base c
      → FailsAlone g precheck act c f → Rose (faults_in g c.vault.store) (faults_in g f)
  alone_rises act lone base c f at fails =
      let leads = fails.plays at.start at.batches at.point at.begins in
      let round = leads.round in
      let w = round.world in
      let was : w.old.vault.faults ≡ faults_in g c.vault.store = ap (λ (k : CoreState). k.vault.faults) round.old_is ∙ at.begins.stands.at.vault.vault.counted in
      let is : w.core.vault.faults ≡ faults_in g f =
      ap (λ (k : CoreState). k.vault.faults) round.core_is ∙ (leads.stands.at.vault.vault.counted ∙ ap (λ (s : Fuse V). faults_in g s) (sym fails.store)) in
      rises w.old.vault.faults w.core.vault.faults (faults_in g c.vault.store) (faults_in g f) was is
      (round.together.faults.rose (round_fails w act fails.transcripts lone round.transcripts.each fails.said))

  pub own_rises : (old f : Fuse V) → Rose (faults_in g old) (faults_in g f) → failed_of f ≤ failed_of old → OwnRose g old f
  own_rises old f (inl more) few = inl (omega (arith, more, few))
  own_rises old f (inr end) few = inr end

  in_act : (Safe : Disk → Type 0) (act : Act) → is_lone act ≡ true → (base : List Record) (old : Program V) (f : Fuse V) → IsAPoint g Safe base old
      → AloneFails g precheck act old f → OwnRose g (store_of old) f
  in_act Safe act lone base (Up core) f at fails = own_rises core.vault.store f (alone_rises act lone base core f at fails) fails.none_by_fuse
  in_act Safe act lone base (Down store) f at fails = absurd fails

  pub fault_rises : (Safe : Disk → Type 0) (command : Command) (base : List Record) (old : Program V) (f : Fuse V) → IsAPoint g Safe base old
      → (IsSize command → passes_of (store_of old) ≡ None) → StoreFailsIn g precheck command old f → OwnRose g (store_of old) f
  fault_rises Safe (Size index heap) base old f at unfused fails =
      let counted : is_some (passes_of f) ≡ is_some (passes_of (store_of old)) = fails.1.passes.counted in
      let none = none_failed f (counted ∙ ap (λ (o : Option ℕ). is_some o) (unfused tt)) in
      own_rises (store_of old) f fails.0 (omega (arith, none))
  fault_rises Safe Open base old f at unfused fails = own_rises (store_of old) f fails.0.rose fails.0.none_by_fuse
  fault_rises Safe Restart base old f at unfused fails = own_rises (store_of old) f fails.0.rose fails.0.none_by_fuse
  fault_rises Safe Verify base old f at unfused fails = own_rises (store_of old) f fails.0.rose fails.0.none_by_fuse
  fault_rises Safe (Poke region word mask) base old f at unfused fails = in_act Safe (Pokes region word mask) refl base old f at fails
  fault_rises Safe Audit base old f at unfused fails = in_act Safe Audits refl base old f at fails
  fault_rises Safe Checkpoint base old f at unfused fails = in_act Safe Checkpoints refl base old f at fails
  fault_rises Safe (Crash choice) base old f at unfused fails = ⊎_elim (λ more. inl more) (λ end. inr (omega (arith, end))) fails.0
  fault_rises Safe (Round blocks) base old f at unfused fails = absurd fails
  fault_rises Safe Cleanup base old f at unfused fails = absurd fails
  fault_rises Safe Show base old f at unfused fails = absurd fails
  fault_rises Safe Next base old f at unfused fails = absurd fails
  fault_rises Safe (SetFuse passes) base old f at unfused fails = absurd fails
