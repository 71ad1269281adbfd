-- What a restart hands out, and that a run begins with it.
use Rattle.std.proofs.Common.{◌≡◌, ◌⊎◌, inl, inr, ⊎_elim, ℕ, ◌≤◌, Bool, List, [], ◌∷◌, map, Option, Some, None, IfSome, Err, refl, ap, sym, subst, ◌∙◌, arith}
use Rattle.std.specs.Prelude.{IsErrOf, is_some}
use Rattle.dali_lists.proofs.Options.{if_some_then}
use Rattle.dali_record.specs.Files.{Files}
use Rattle.dali_region.specs.declared.Side.{Side}
use Rattle.dali_region.specs.State.{RegionState, loaded}
use Rattle.dali_store.specs.Store.{Files as Disk, LeavesOnly, Only}
use Rattle.dali_store.specs.Calls.{PassesFewer}
use Rattle.dali_store.proofs.Moments.{joins, weaker}
use Rattle.dali_store.specs.declared.store.Store.{Ghosts}
use Rattle.dali_log.proofs.Finds.{if_some_any, if_some_same, if_some_two}
use Rattle.dali_log.specs.Batch.{IsUnformatted}
use Rattle.dali_log.specs.Reads.{OnlyReads}
use Rattle.dali_runs.specs.Images.{Told}
use Rattle.dali_system.specs.Served.{Served}
use Rattle.dali_crash.specs.Checkpoints.{Head}
use Rattle.dali_crash.specs.Traces.{MayRun, StartsAt}
use Rattle.dali_crash.specs.Disks.Disks.{AllSpell, Spells}
use Rattle.dali_core.specs.Vault.Vaulted.{Vaulted}
use Rattle.dali_core.specs.Vault.Stepped.{vault_in}
use Rattle.dali_core.proofs.VaultLemmas.Stepped.{begins_right}
use Rattle.dali_resume.specs.Interrupted.Found.{FindsIt}
use Rattle.dali_recovery.specs.Laws.{outcome_of}
use Rattle.dali_recovery.specs.declared.recovery.Recovered.{Recovered}
use Rattle.dali_restart.specs.Rise.Risen.{IsRisen, RunBegins, start_at}
use Rattle.dali_restart.specs.declared.rise.rising.Resting.{Resting}
use Rattle.dali_restart.specs.declared.restarting.Found.{Found}
use Rattle.dali_restart.specs.declared.restarting.Report.{Report}
use Rattle.dali_restart.specs.Deciding.{IsReadIn, IsSettled, Settles}
use Rattle.dali_restart.specs.Restarting.{BeginsRun, Gives, IsFresh, IsLeft, IsOnWay, IsReadAs, LeavesAtRest, RunsFrom, SpellsLater, SpellsOnWay, StopsAlike, StopsAppending, outcome}
use Rattle.dali_restart.proofs.Once.{reads_once}
use Rattle.dali_restart.proofs.Telling.{gives_all, reads_as}

-- ---- a result
pub err_same : {T E : Type 0} (a b : E) → IsErrOf {T = T} {E = E} (Err a) b → a ≡ b
err_same a b h = let is : a ≡ b = cc in is

-- ---- the words
words_loaded : (ws : List (List ℕ)) → map (λ (g : RegionState). g.words) (map loaded ws) ≡ ws
words_loaded [] = refl
words_loaded (w ∷ ws) = ap (λ (l : List (List ℕ)). w ∷ l) (words_loaded ws)

abbrev pub report_of : Recovered → Report
report_of o = record { rolled_back = o.rolled_back; deleted = o.deleted }

pub outcome_is : (gs : List RegionState) (o : Recovered) → gs ≡ map loaded o.regions.items → outcome_of o ≡ outcome gs (report_of o)
outcome_is gs o e =
    ap (λ (ws : List (List ℕ)). record { image = ws; rolled = o.rolled_back.items; deleted = o.deleted.items }) (sym (ap (map (λ (g : RegionState). g.words)) e ∙ words_loaded o.regions.items))

pub gives_in : (fs : Disk) (may : Disk → Type 0) (x : Found) (gs : List RegionState) → IsReadIn fs may x
    → gs ≡ map loaded x.reloaded.recovered.regions.items → Gives fs (outcome gs (report_of x.reloaded.recovered))
gives_in fs may x gs is e = subst (Gives fs) (outcome_is gs x.reloaded.recovered e) (gives_all fs x.reloaded (λ s F begins. (is.reads s F begins).1))

pub reads_in : (fs : Disk) (may : Disk → Type 0) (x : Found) → IsReadIn fs may x → IsReadAs fs (outcome_of x.reloaded.recovered)
reads_in fs may x is = reads_as fs x.base.geometry is.files x.reloaded is.begins (is.reads x.base.geometry is.files is.begins).1

pub reads_out : (fs : Disk) (may : Disk → Type 0) (x : Found) (gs : List RegionState) → IsReadIn fs may x
    → gs ≡ map loaded x.reloaded.recovered.regions.items → IsReadAs fs (outcome gs (report_of x.reloaded.recovered))
reads_out fs may x gs is e = subst (IsReadAs fs) (outcome_is gs x.reloaded.recovered e) (reads_in fs may x is)

-- a disk that was read has a database
pub none_read : (fs : Disk) (may : Disk → Type 0) (x : Found) → IsReadIn fs may x → IsUnformatted fs.log → ⊥
none_read fs may x is without = (reads_once fs (outcome_of x.reloaded.recovered) (reads_in fs may x is)).2 without

-- ---- the core
pub is_fresh : {V : Type 0} (r : Resting) (words : List (List ℕ)) (limit : ℕ) (store : V) (gs : List RegionState) (y : Served) (v : Vaulted V)
    → IsRisen r words limit store gs y v → IsFresh limit gs y v
is_fresh {V = V} r words limit store gs y v risen =
    let here : store ≡ v.store = sym (ap (λ (w : Vaulted V). w.store) risen.vault) in
    record { resting = r; words = words; risen = subst (λ (w : V). IsRisen r words limit w gs y v) here risen }

module _ {V : Type 0} (means : Ghosts V) (limit : ℕ) (fits : limit ≤ 268435456) (x : Found) (r : Resting) (store : V) (gs : List RegionState) (y : Served) (v : Vaulted V)
    (risen : IsRisen r x.reloaded.recovered.regions.items limit store gs y v) (begins : RunBegins means r x.reloaded.recovered.regions.items limit gs y.state v) where
  here : store ≡ v.store
  here = sym (ap (λ (w : Vaulted V). w.store) risen.vault)

  runs_from : (F : Files) → IsSettled F x r (means.may_leave store) → RunsFrom means limit F gs y.state v
  runs_from F s = record {
    log = s.log;
    goes_on = s.goes_on;
    history = s.history;
    begun = ⊎_elim (λ none. inl (ap (λ (w : Vaulted V). w.current) risen.vault ∙ none)) (λ two. inr two) s.begun;
    rules = s.rules;
    allowed = s.at.rules;
    batches = s.batches;
    begins = λ words heads synced. begins s.log s.rules s.batches words heads synced s.at (starts words heads synced);
  }
    where
      may_run : MayRun s.log (vault_in means.faults (means.faults v.store) v)
      may_run = subst (λ (w : Vaulted V). MayRun s.log (vault_in means.faults (means.faults w.store) w)) (sym risen.vault) (begins_right means.faults s.log store r.end r.current s.at.short s.at.moved)

      starts : (words : Told) (heads : Side → Head) (synced : Side → Bool)
          → IfSome (means.told v.store) (λ _. AllSpell (means.may_leave v.store) (λ G. StartsAt (start_at means s.log s.rules limit v words heads synced) G × (G.batches ≡ s.batches)))
      starts words heads synced =
          if_some_any _ (means.told v.store)
          (λ fs c left.
          let q = s.disks c (subst (λ (w : V). means.may_leave w c) (sym here) left) in (
            q.0,
            q.1,
            (
              record {
                lawful = s.at.lawful;
                rules = s.at.rules;
                fits = fits;
                rests = q.4.rests (vault_in means.faults (means.faults v.store) v) may_run (ap (λ (w : Vaulted V). w.end) risen.vault) (ap (λ (w : Vaulted V). w.current) risen.vault);
              },
              q.4.batches,
            ),
          ))

  begins_run : (fs : Disk) (may : Disk → Type 0) → IsReadIn fs may x → Settles fs x r (means.may_leave store)
      → BeginsRun means limit fs gs y.state v
  begins_run fs may is settles F spells finds = runs_from F (settles is.reads F spells finds)

  rests_then : (fs : Disk) (may : Disk → Type 0) → IsReadIn fs may x → Settles fs x r (means.may_leave store) → (c : Disk) → means.may_leave v.store c
      → LeavesAtRest fs c
  rests_then fs may is settles c left F spells finds =
      let q = (settles is.reads F spells finds).disks c (subst (λ (w : V). means.may_leave w c) (sym here) left) in (q.0, q.1, q.2, q.3)

-- the same where the words were read through a slice
module _ {V : Type 0} (means : Ghosts V) (limit : ℕ) (fits : limit ≤ 268435456) (x : Found) (r : Resting) (store : V) (gs : List RegionState) (y : Served) (v : Vaulted V)
    (words : List (List ℕ)) (same : words ≡ x.reloaded.recovered.regions.items) (risen : IsRisen r words limit store gs y v) (begins : RunBegins means r words limit gs y.state v)
    (fs : Disk) (may : Disk → Type 0) (is : IsReadIn fs may x) (settles : Settles fs x r (means.may_leave store)) where
  risen_there : IsRisen r x.reloaded.recovered.regions.items limit store gs y v
  risen_there = subst (λ ws. IsRisen r ws limit store gs y v) same risen

  begins_there : RunBegins means r x.reloaded.recovered.regions.items limit gs y.state v
  begins_there = subst (λ ws. RunBegins means r ws limit gs y.state v) same begins

  pub begins_over : BeginsRun means limit fs gs y.state v
  begins_over = begins_run means limit fits x r store gs y v risen_there begins_there fs may is settles

  pub rests_over : (c : Disk) → means.may_leave v.store c → LeavesAtRest fs c
  rests_over = rests_then means limit fits x r store gs y v risen_there begins_there fs may is settles

-- ---- what is left
is_on_way : (F : Files) → FindsIt F → IsOnWay F F
is_on_way F finds = record { finds = finds; log = inl refl; told = refl; history = λ h. h }

comes_same : (o p : Option Disk) → p ≡ o → IfSome o (λ fs. IfSome p (λ gs. (F : Files) → Spells fs F → FindsIt F → SpellsOnWay F gs))
comes_same None p same = tt
comes_same (Some fs) p same = subst (λ (q : Option Disk). IfSome q (λ gs. (F : Files) → Spells fs F → FindsIt F → SpellsOnWay F gs)) (sym same) (λ F spells finds. (F, spells, is_on_way F finds))

module _ {V : Type 0} (told : V → Option Disk) (may_leave : V → Disk → Type 0) (moment : V → ℕ) (left_since : V → ℕ → Disk → Type 0) where
  pub stops_reading : (fs : Disk) (old new : V) → LeavesOnly moment left_since old new (may_leave old) → StopsAlike may_leave moment left_since fs old new
  stops_reading fs old new reads F spells finds =
      weaker moment left_since old new (may_leave old) (λ c. may_leave old c ⊎ SpellsOnWay F c) reads (λ c left. inl left)

  pub appends_reading : (fs : Disk) (old new : V) → LeavesOnly moment left_since old new (may_leave old) → StopsAppending may_leave moment left_since fs old new
  appends_reading fs old new reads F spells but =
      weaker moment left_since old new (may_leave old) (λ c. may_leave old c ⊎ SpellsLater F c) reads (λ c left. inl left)

  pub appends_settling : (fs : Disk) (old mid new : V) → OnlyReads told moment left_since may_leave old mid
      → StopsAppending may_leave moment left_since fs mid new → StopsAppending may_leave moment left_since fs old new
  appends_settling fs old mid new reads appends F spells but =
      joins moment left_since old mid new (may_leave old) (λ c. may_leave mid c ⊎ SpellsLater F c) (λ c. may_leave old c ⊎ SpellsLater F c) reads.any_moment (appends F spells but)
      (λ c left. inl left) (λ c p. ⊎_elim (λ left. inl (reads.crash c left)) (λ later. inr later) p)

  pub stops_settling : (fs : Disk) (old mid new : V) → OnlyReads told moment left_since may_leave old mid
      → StopsAlike may_leave moment left_since fs mid new → StopsAlike may_leave moment left_since fs old new
  stops_settling fs old mid new reads stops F spells finds =
      joins moment left_since old mid new (may_leave old) (λ c. may_leave mid c ⊎ SpellsOnWay F c) (λ c. may_leave old c ⊎ SpellsOnWay F c) reads.any_moment (stops F spells finds)
      (λ c left. inl left) (λ c p. ⊎_elim (λ left. inl (reads.crash c left)) (λ way. inr way) p)

  -- the store that comes back has one of the disks that a crash may leave then
  comes_settling :
      (mid new : V) → ((t : ℕ) (c : Disk) → t ≤ moment new → may_leave new c → left_since new t c) → (o p : Option Disk)
      → IfSome o (λ fs. Only fs (may_leave mid) × StopsAlike may_leave moment left_since fs mid new) → IfSome p (may_leave new)
      → IfSome o (λ fs. IfSome p (λ gs. (F : Files) → Spells fs F → FindsIt F → SpellsOnWay F gs))
  comes_settling mid new counts None p stops now = tt
  comes_settling mid new counts (Some fs) None stops now = tt
  comes_settling mid new counts (Some fs) (Some gs) stops now = λ F spells finds.
      let run = stops.1 F spells finds in
      ⊎_elim (λ left. (F, subst (λ (d : Disk). Spells d F) (sym (stops.0 gs left)) spells, is_on_way F finds)) (λ way. way) (run.each gs (counts (moment mid) gs run.later now))

module _ {V : Type 0} (means : Ghosts V) where
  pub left_reading :
      (old new : V) → OnlyReads means.told means.moment means.left_since means.may_leave old new → means.faults old ≤ means.faults new → PassesFewer (means.lets_pass old) (means.lets_pass new)
      → IsLeft means old new
  left_reading old new reads later passes = record {
    any_moment = if_some_any _ (means.told old) (λ fs. stops_reading means.told means.may_leave means.moment means.left_since fs old new reads.any_moment);
    appends = if_some_any _ (means.told old) (λ fs. appends_reading means.told means.may_leave means.moment means.left_since fs old new reads.any_moment);
    comes_back = comes_same (means.told old) (means.told new) reads.same;
    tells = ap is_some reads.same;
    later = later;
    passes = passes;
  }

  pub left_settling :
      (old mid new : V) → ((t : ℕ) (c : Disk) → t ≤ means.moment new → means.may_leave new c → means.left_since new t c) → IfSome (means.told new) (means.may_leave new)
      → OnlyReads means.told means.moment means.left_since means.may_leave old mid → (x : Found) → IfSome (means.told old) (λ fs. IsReadIn fs (means.may_leave mid) x) → IfSome (means.told mid) (λ fs. StopsAlike means.may_leave means.moment means.left_since fs mid new)
      → IfSome (means.told mid) (λ fs. StopsAppending means.may_leave means.moment means.left_since fs mid new) → is_some (means.told new) ≡ is_some (means.told mid)
      → means.faults old ≤ means.faults mid → means.faults mid ≤ means.faults new → PassesFewer (means.lets_pass old) (means.lets_pass mid) → PassesFewer (means.lets_pass mid) (means.lets_pass new)
      → IsLeft means old new
  left_settling old mid new counts now reads x is stops adds tells later then passes goes = record {
    any_moment = if_some_then _ _ (means.told old) (if_some_same _ (means.told old) (means.told mid) reads.same stops) (λ fs alike. stops_settling means.told means.may_leave means.moment means.left_since fs old mid new reads alike);
    appends = if_some_then _ _ (means.told old) (if_some_same _ (means.told old) (means.told mid) reads.same adds) (λ fs added. appends_settling means.told means.may_leave means.moment means.left_since fs old mid new reads added);
    comes_back =
        comes_settling means.told means.may_leave means.moment means.left_since mid new counts (means.told old) (means.told new)
        (if_some_two _ _ _ (means.told old) is (if_some_same _ (means.told old) (means.told mid) reads.same stops) (λ fs is alike. (is.only, alike))) now;
    tells = tells ∙ ap is_some reads.same;
    later = omega (arith, later, then);
    passes = record { counted = goes.counted ∙ passes.counted; fewer = omega (arith, passes.fewer, goes.fewer) };
  }
