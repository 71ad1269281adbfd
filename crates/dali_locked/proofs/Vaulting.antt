-- The vault behind its lock: what entries of others leave of it, and what its own entries make of it.
use Rattle.std.proofs.Common.{◌≡◌, ℕ, zero, suc, ◌+◌, ◌-◌, ◌≤◌, Bool, true, false, List, [], ◌∷◌, ◌++◌, length, take, Some, None, refl, ap, sym, subst, ◌∙◌, arith, length-append}
use Rattle.std.specs.Prelude.{slice_get}
use Rattle.std.proofs.lemmas.List.{append_assoc, append-nil, map-append, length-drop, length-take-le}
use Rattle.std.proofs.lemmas.List.Elements.{filter_map-append}
use Rattle.dali_lists.proofs.Options.{some_same}
use Rattle.dali_lists.proofs.Tests.{not_both_ways}
use Rattle.dali_record.specs.declared.records.Record.{Record}
use Rattle.dali_store.specs.declared.store.Store.{Ghosts}
use Rattle.dali_log.specs.Batch.{Framed}
use Rattle.dali_log.specs.Appending.{bodies_of, SomeAdded}
use Rattle.dali_log.specs.Log.{body_bytes}
use Rattle.dali_runs.specs.State.{SystemState, VaultState, CoreState, taken_to, stable, log_after}
use Rattle.dali_runs.specs.Run.{Bases, no_image}
use Rattle.dali_runs.specs.Steps.{taken}
use Rattle.dali_runs.specs.Keeps.{with_system}
use Rattle.dali_runs.specs.Flushes.{frame_of, with_batch, with_vault, longer}
use Rattle.dali_runs.specs.Courses.{RunsAt}
use Rattle.dali_runs.proofs.CountsLemmas.Tallies.{tallies}
use Rattle.dali_crash.specs.Checkpoints.{StoreStep, Point, moment_of}
use Rattle.dali_crash.specs.Traces.{Start, bases_of}
use Rattle.dali_transcripts.specs.World.{record_of, logged_by}
use Rattle.dali_core.specs.Vault.Vaulted.{Vaulted}
use Rattle.dali_core.specs.Vault.Stepped.{IsFrameOf}
use Rattle.dali_core.specs.Flushed.{IsUntaken}
use Rattle.dali_core.specs.Steps.At.{IsVault}
use Rattle.dali_core.specs.Steps.Said.{IsFrameAt}
use Rattle.dali_core.specs.Cores.{IsNoShorter}
use Rattle.dali_core.specs.Moments.{Within}
use Rattle.dali_core.proofs.Lengths.{then_length}
use Rattle.dali_core.proofs.StepsLemmas.Steps.{flush_goes}
use Rattle.dali_core.proofs.Flushing.{frame_at, take_point}
use Rattle.dali_notes.specs.History.{signs, IsSeen}
use Rattle.dali_concurrent.specs.Entries.{Entry, Flushed, vault_note, deed_in, deeds_of}
use Rattle.dali_concurrent.specs.Rules.{Outset, before, log_by}
use Rattle.dali_concurrent.specs.Told.{Effect, vault_on, Leaves, OnRegion, OnSystem, OnVault, OnBoth, OnStop, effect_on, EffectFits, Line, History, plain, plain_one, core_told}
use Rattle.dali_concurrent.specs.Landing.{BeginsAt, Stands}
use Rattle.dali_concurrent.specs.Kept.{AllFollow}
use Rattle.dali_concurrent.specs.Moments.{VaultMoments}
use Rattle.dali_concurrent.specs.Calls.{is_still, AreStill}
use Rattle.dali_concurrent.proofs.Told.{told_push, told_same}
use Rattle.dali_concurrent.proofs.Kept.{follows_behind, stands_of}
use Rattle.dali_concurrent.proofs.Sorts.{frame_stays}
use Rattle.dali_concurrent.proofs.Stored.{none_in_hand_meets, vault_meets}
use Rattle.dali_concurrent.proofs.Moments.{moments_meet, moments_go_on}
use Rattle.dali_concurrent.proofs.CallMoments.{flush_adds}
use Rattle.dali_concurrent.proofs.Calls.{at_meets, flush_holds, fault_holds}
use Rattle.dali_locked.specs.Vaults.{vault_told, taking, flushing, failing, VaultStands, HasFrame, HasWritten, HasFault}

-- ---- what is told of the vault, where others add
vault_left : (ks : List ℕ) (f : Effect) (d : CoreState) → EffectFits ks f → signs vault_note ks ≡ false → (effect_on d f).vault ≡ d.vault
vault_left ks Leaves d g h = refl
vault_left ks (OnRegion r x) d g h = refl
vault_left ks (OnSystem y) d g h = refl
vault_left ks (OnVault v) d g h = absurd (not_both_ways g h)
vault_left ks (OnBoth r x y) d g h = refl
vault_left ks (OnStop v y) d g h = absurd (not_both_ways g.0 h)

pub vault_stays : (bases : Bases) (p : Point) (o : Outset) (seen new : History) → IsSeen new vault_note seen → AllFollow bases p o new → (core_told o new).vault ≡ (core_told o seen).vault
vault_stays bases p o seen new is all =
    ap (λ S. (core_told o S).vault) is.all
    ∙ told_same o (λ (c : CoreState). c.vault) seen is.rest (λ i e d at. vault_left e.0 e.1.1 d (follows_behind bases p o new vault_note seen is all i e at).effect (is.none e (i, at)))

-- the log of what comes behind
pub log_behind : (o : Outset) (S R : History) → log_by o (plain (S ++ R)) ≡ log_by o (plain S) ++ logged_by (deeds_of (plain R))
log_behind o S R =
    ap (λ P. log_by o P) (map-append plain_one S R)
    ∙ (ap (λ xs. before o ++ logged_by xs) (filter_map-append deed_in (plain S) (plain R))
    ∙ (ap (λ l. before o ++ l) (filter_map-append record_of (deeds_of (plain S)) (deeds_of (plain R)))
    ∙ sym (append_assoc (before o) (logged_by (deeds_of (plain S))) (logged_by (deeds_of (plain R))))))

pub deeds_still : (S R : History) → deeds_of (plain R) ≡ [] → deeds_of (plain (S ++ R)) ≡ deeds_of (plain S)
deeds_still S R none = ap deeds_of (map-append plain_one S R) ∙ (filter_map-append deed_in (plain S) (plain R) ∙ (ap (λ xs. deeds_of (plain S) ++ xs) none ∙ append-nil (deeds_of (plain S))))

pub log_still : (o : Outset) (S R : History) → deeds_of (plain R) ≡ [] → log_by o (plain (S ++ R)) ≡ log_by o (plain S)
log_still o S R none = log_behind o S R ∙ (ap (λ xs. log_by o (plain S) ++ logged_by xs) none ∙ append-nil (log_by o (plain S)))

pub log_longer : (o : Outset) (S R : History) → length (log_by o (plain S)) ≤ length (log_by o (plain (S ++ R)))
log_longer o S R = omega (arith, ap length (log_behind o S R), length-append (log_by o (plain S)) (logged_by (deeds_of (plain R))))

-- ---- where the history has come to
module _ (bases : Bases) (p : Point) (o : Outset) (begins : BeginsAt bases p o) where
  -- how many records stood when the system was made
  pub first_is : (T : History) (q : Point) → Stands bases p o T q → (core_told o T).system.first ≡ p.core.system.first
  first_is T q at = ap (λ (c : CoreState). c.system.first) (sym at.comes.core) ∙ (at.run.run.run.first ∙ sym begins.run.run.run.first)

  -- all records are counted
  pub counted : (T : History) (q : Point) → Stands bases p o T q → (core_told o T).system.records ≡ length (log_by o (plain T))
  counted T q at =
      let run : RunsAt bases o.made no_image (moment_of q) = at.run.run in
      ap (λ (c : CoreState). c.system.records) (sym at.comes.core)
      ∙ (run.run.runs.counts.records
      ∙ ((tallies q.core.system.sizes (log_after o.made q.core.system) run.run.runs.counts.now run.run.runs.counts.rules).0
      ∙ ap length (sym run.log ∙ at.comes.log)))

  -- what is flushed was taken, and what was taken is logged
  pub in_order : (T : History) (q : Point) → Stands bases p o T q → (stable (core_told o T) ≤ taken_to (core_told o T).system) × (taken_to (core_told o T).system ≤ length (log_by o (plain T)))
  in_order T q at =
      let run : RunsAt bases o.made no_image (moment_of q) = at.run.run in
      let logged : log_after o.made q.core.system ≡ log_by o (plain T) = sym run.log ∙ at.comes.log in (
        subst (λ c. stable c ≤ taken_to c.system) at.comes.core run.run.frame,
        subst (λ L. taken_to (core_told o T).system ≤ length L) logged (subst (λ (c : CoreState). taken_to c.system ≤ length (log_after o.made q.core.system)) at.comes.core run.run.taken),
      )

  pub frame_here : (T : History) (q : Point) → Stands bases p o T q → frame_of q.log q.core ≡ frame_of (log_by o (plain T)) (core_told o T)
  frame_here T q at = ap (λ L. frame_of L q.core) at.comes.log ∙ ap (λ c. frame_of (log_by o (plain T)) c) at.comes.core

  pub at_point : (T : History) (q : Point) (f : Framed) → Stands bases p o T q → IsFrameOf f (frame_of (log_by o (plain T)) (core_told o T)) → IsFrameAt q f
  at_point T q f at is = record { body = is.body ∙ ap body_bytes (sym (frame_here T q at)); records = is.records ∙ ap length (sym (frame_here T q at)) }

  -- entries of others leave what was taken
  pub taken_stays : {V : Type 0} (means : Ghosts V) (seen new : History) (v : Vaulted V) → IsSeen new vault_note seen → AllFollow bases p o new → (core_told o new).system.taken ≡ (core_told o seen).system.taken
  taken_stays means seen new v is all = sym (none_in_hand_meets means bases p o seen new (record v { stopped = false; flushed = (core_told o seen).system.taken }) begins is all (λ _. refl) refl)

  pub taken_to_stays : {V : Type 0} (means : Ghosts V) (seen new : History) (v : Vaulted V) → IsSeen new vault_note seen → AllFollow bases p o seen → AllFollow bases p o new
      → taken_to (core_told o new).system ≡ taken_to (core_told o seen).system
  taken_to_stays means seen new v is early all =
      let q = stands_of bases p o seen begins early in
      let r = stands_of bases p o new begins all in
      ap (λ n. n + (core_told o new).system.taken) (first_is new r.0 r.1 ∙ sym (first_is seen q.0 q.1)) ∙ ap (λ n. (core_told o seen).system.first + n) (taken_stays means seen new v is all)

  -- and the frame
  pub frame_stays_here : {V : Type 0} (means : Ghosts V) (seen new : History) (v : Vaulted V) → IsSeen new vault_note seen → AllFollow bases p o seen → AllFollow bases p o new
      → frame_of (log_by o (plain new)) (core_told o new) ≡ frame_of (log_by o (plain seen)) (core_told o seen)
  frame_stays_here means seen new v is early all =
      let q = stands_of bases p o seen begins early in
      let r = stands_of bases p o new begins all in
      let first : (core_told o new).system.first ≡ (core_told o seen).system.first = first_is new r.0 r.1 ∙ sym (first_is seen q.0 q.1) in
      let to : taken_to (core_told o new).system ≡ taken_to (core_told o seen).system = taken_to_stays means seen new v is early all in
      let same : stable (core_told o new) ≡ stable (core_told o seen) =
      ap (λ n. n + (core_told o new).vault.flushed) first ∙ ap (λ (u : VaultState). (core_told o seen).system.first + u.flushed) (vault_stays bases p o seen new is all) in
      ap (λ L. frame_of L (core_told o new)) (ap (λ S. log_by o (plain S)) is.all ∙ log_behind o seen is.rest)
      ∙ frame_stays (log_by o (plain seen)) (logged_by (deeds_of (plain is.rest))) (core_told o seen) (core_told o new) (in_order seen q.0 q.1).1 to same

-- ---- a frame's length
longer_flushed : (v : VaultState) (rs : List Record) → (longer v rs).flushed ≡ v.flushed + length rs
longer_flushed v [] = omega arith
longer_flushed v (r ∷ rs) = refl

frame_length : (L : List Record) (c : CoreState) → stable c ≤ taken_to c.system → taken_to c.system ≤ length L → stable c + length (frame_of L c) ≡ taken_to c.system
frame_length L c one two = omega (arith, one, two, length-drop (stable c) (take (taken_to c.system) L), length-take-le (taken_to c.system) L two)

-- ---- the vault of a run
abbrev made_vault : Bool → ℕ → ℕ → ℕ → ℕ → ℕ → VaultState
made_vault a b c d e f = record { stopped = a; end = b; flushed = c; current = d; faults_then = e; faults = f }

module _ {V : Type 0} (means : Ghosts V) where
  -- behind an entry that leaves it so
  pub same_vault : (u z : VaultState) (w : Vaulted V) → IsVault means.faults w z → vault_on u (vault_told means w) ≡ vault_on u z
  same_vault u z w is =
      ap (λ x. made_vault x w.end w.flushed w.current u.faults_then (means.faults w.store)) (sym is.stopped)
      ∙ (ap (λ x. made_vault z.stopped x w.flushed w.current u.faults_then (means.faults w.store)) (sym is.end)
      ∙ (ap (λ x. made_vault z.stopped z.end x w.current u.faults_then (means.faults w.store)) (sym is.flushed)
      ∙ (ap (λ x. made_vault z.stopped z.end z.flushed x u.faults_then (means.faults w.store)) (sym is.current)
      ∙ ap (λ x. made_vault z.stopped z.end z.flushed z.current u.faults_then x) (sym is.counted))))

  pub told_so : (u : VaultState) (w : Vaulted V) → IsVault means.faults w (vault_on u (vault_told means w))
  told_so u w = record { stopped = refl; end = refl; flushed = refl; current = refl; counted = refl }

  module _ (began : Vaulted V → Type 0) (s : Start) (p : Point) (o : Outset) (begins : BeginsAt (bases_of s) p o) where
    -- ---- entries of others
    pub stands_meets : (v : Vaulted V) (seen new : History) → IsSeen new vault_note seen → AllFollow (bases_of s) p o new → VaultStands means began s p o v seen → VaultStands means began s p o v new
    stands_meets v seen new is all has = record {
      batches = has.batches;
      at = vault_meets means s has.batches p o seen new v begins is all has.at;
      none = none_in_hand_meets means (bases_of s) p o seen new v begins is all has.none;
      moments = λ u was. moments_meet means s p o vault_note seen new u v begins is (has.moments u was);
      told = subst (IsVault means.faults v) (sym (vault_stays (bases_of s) p o seen new is all)) has.told;
    }

    pub frame_meets : (f : Framed) (v : Vaulted V) (seen new : History) → IsSeen new vault_note seen → AllFollow (bases_of s) p o seen → AllFollow (bases_of s) p o new → HasFrame means began s p o f v seen
        → HasFrame means began s p o f v new
    frame_meets f v seen new is early all has = record {
      batches = has.batches;
      at = vault_meets means s has.batches p o seen new v begins is all has.at;
      frame = subst (IsFrameOf f) (sym (frame_stays_here (bases_of s) p o begins means seen new v is early all)) has.frame;
      moments = λ u was. moments_meet means s p o vault_note seen new u v begins is (has.moments u was);
      told = subst (IsVault means.faults v) (sym (vault_stays (bases_of s) p o seen new is all)) has.told;
    }

    pub written_meets : (f : Framed) (v w : Vaulted V) (seen new : History) → IsSeen new vault_note seen → AllFollow (bases_of s) p o seen → AllFollow (bases_of s) p o new → HasWritten means began s p o f v w seen
        → HasWritten means began s p o f v w new
    written_meets f v w seen new is early all has = record {
      has = frame_meets f v seen new is early all has.has;
      said = has.said;
      moments = λ u was. moments_meet means s p o vault_note seen new u w begins is (has.moments u was);
    }

    pub fault_meets : (f : Framed) (v w : Vaulted V) (seen new : History) → IsSeen new vault_note seen → AllFollow (bases_of s) p o seen → AllFollow (bases_of s) p o new → HasFault means began s p o f v w seen
        → HasFault means began s p o f v w new
    fault_meets f v w seen new is early all has = record {
      has = frame_meets f v seen new is early all has.has;
      said = has.said;
      longer = has.longer;
      moments = λ u was. moments_meet means s p o vault_note seen new u w begins is (has.moments u was);
    }

    -- ---- a frame is taken
    abbrev one : List ℕ → (Entry × Effect × List StoreStep) → History
    one ks x = (ks, x) ∷ []

    takes_still : (ks : List ℕ) (z : SystemState) → AreStill (one ks (taking z))
    takes_still ks z zero e at zero x there =
        let same : (ks, taking z) ≡ e = some_same at in subst (λ w. is_still w ≡ true) (some_same (ap (λ (l : Line). slice_get l.1.2 zero) same ∙ there)) refl
    takes_still ks z zero e at (suc j) x there =
        let same : (ks, taking z) ≡ e = some_same at in let none : None ≡ Some x = ap (λ (l : Line). slice_get l.1.2 (suc j)) same ∙ there in absurd (cc)
    takes_still ks z (suc i) e at j x there = absurd (cc)

    pub frame_taken : (v : Vaulted V) (f : Framed) (T : History) (ks : List ℕ) (y z : SystemState) → AllFollow (bases_of s) p o T → VaultStands means began s p o v T → v.stopped ≡ false
        → y ≡ (core_told o T).system → IsUntaken y f → z ≡ taken y → HasFrame means began s p o f v (T ++ one ks (taking z))
    frame_taken v f T ks y z all has runs is untaken after = record {
      batches = has.batches;
      at = at_meets means s has.batches p o T (one ks (taking z)) v begins (takes_still ks z) has.at;
      frame = record { body = framed.body ∙ ap body_bytes there; records = framed.records ∙ ap length there };
      moments = λ u was. moments_go_on means s p o T (one ks (taking z)) u v begins (has.moments u was);
      told = subst (IsVault means.faults v) (sym (ap (λ (c : CoreState). c.vault) (told_push o T (ks, taking z)))) has.told;
    }
      where
        stood : (q : Point) × Stands (bases_of s) p o T q
        stood = stands_of (bases_of s) p o T begins all

        here : stood.0.core.system ≡ y
        here = ap (λ (c : CoreState). c.system) stood.1.comes.core ∙ sym is

        framed : IsFrameAt (take_point stood.0) f
        framed = frame_at means s has.batches stood.0 v f (has.at.at stood.0 stood.1) (has.none runs ∙ ap (λ (x : SystemState). x.taken) (sym is ∙ sym here)) (subst (λ x. IsUntaken x f) (sym here) untaken)

        core : (take_point stood.0).core ≡ core_told o (T ++ one ks (taking z))
        core =
            ap (λ (c : CoreState). with_system c (taken c.system)) stood.1.comes.core
            ∙ (ap (λ x. with_system (core_told o T) (taken x)) (sym is) ∙ (ap (λ x. with_system (core_told o T) x) (sym after) ∙ sym (told_push o T (ks, taking z))))

        there : frame_of (take_point stood.0).log (take_point stood.0).core ≡ frame_of (log_by o (plain (T ++ one ks (taking z)))) (core_told o (T ++ one ks (taking z)))
        there = ap (λ L. frame_of L (take_point stood.0).core) (stood.1.comes.log ∙ sym (log_still o T (one ks (taking z)) refl)) ∙ ap (λ c. frame_of (log_by o (plain (T ++ one ks (taking z)))) c) core

    -- all that was logged is taken
    pub all_taken : (T : History) (ks : List ℕ) (y z : SystemState) → AllFollow (bases_of s) p o T → y ≡ (core_told o T).system → z ≡ taken y
        → length (log_by o (plain T)) ≤ taken_to (core_told o (T ++ one ks (taking z))).system
    all_taken T ks y z all is after =
        let q = stands_of (bases_of s) p o T begins all in
        let count : (core_told o T).system.records ≡ length (log_by o (plain T)) = counted (bases_of s) p o begins T q.0 q.1 in
        let now : (core_told o (T ++ one ks (taking z))).system ≡ taken (core_told o T).system = ap (λ (c : CoreState). c.system) (told_push o T (ks, taking z)) ∙ (after ∙ ap taken is) in
        omega (arith, ap (λ (x : SystemState). x.first + x.taken) now, count)

    -- what is left at each moment of a call that flushes it
    pub moments_on : (f : Framed) (v w : Vaulted V) (T : History) → HasFrame means began s p o f v T → v.stopped ≡ false → IsNoShorter means.told v w
        → Within means.told means.moment means.left_since v w (SomeAdded (means.may_leave v.store) v.end (bodies_of f.body)) → (u : Vaulted V) → began u → VaultMoments means s p o u w T
    moments_on f v w T has runs longer within u was =
        let before = has.moments u was in
        flush_adds means s has.batches p o T f u v w has.at before runs (λ q at. at_point (bases_of s) p o begins T q f at has.frame)
        (then_length (means.told u.store) (means.told v.store) (means.told w.store) before.longer longer) within

    -- ---- it is flushed
    module _ (f : Framed) (v w : Vaulted V) (T : History) (ks : List ℕ) (all : AllFollow (bases_of s) p o T) (has : HasWritten means began s p o f v w T) where
      stood : (q : Point) × Stands (bases_of s) p o T q
      stood = stands_of (bases_of s) p o T begins all

      abbrev frame : List Record
      frame = frame_of (log_by o (plain T)) (core_told o T)

      -- what the run has of it
      pub grows : IsVault means.faults w (longer (core_told o T).vault frame)
      grows =
          let goes = flush_goes means s has.has.batches stood.0 v w f (has.has.at.at stood.0 stood.1) (at_point (bases_of s) p o begins T stood.0 f stood.1 has.has.frame) has.said in
          let core : goes.goes.to.core ≡ with_vault stood.0.core (longer stood.0.core.vault (frame_of stood.0.log stood.0.core)) = goes.goes.step.1.0.1.1 in
          let there : goes.goes.to.core.vault ≡ longer (core_told o T).vault frame =
          ap (λ (c : CoreState). c.vault) core ∙ (ap (λ (c : CoreState). longer c.vault (frame_of stood.0.log stood.0.core)) stood.1.comes.core ∙ ap (λ rs. longer (core_told o T).vault rs) (frame_here (bases_of s) p o begins T stood.0 stood.1)) in
          subst (IsVault means.faults w) there goes.goes.is.vault

      pub all_flushed : stable (core_told o (T ++ one ks (flushing (vault_told means w)))) ≡ taken_to (core_told o T).system
      all_flushed =
          ap stable (told_push o T (ks, flushing (vault_told means w)))
          ∙ (ap (λ n. (core_told o T).system.first + n) (sym grows.flushed)
          ∙ (ap (λ n. (core_told o T).system.first + n) (longer_flushed (core_told o T).vault frame)
          ∙ let order = in_order (bases_of s) p o begins T stood.0 stood.1 in
          omega (arith, frame_length (log_by o (plain T)) (core_told o T) order.0 order.1)))

      pub flush_told : VaultStands means began s p o w (T ++ one ks (flushing (vault_told means w)))
      flush_told = record {
        batches = with_batch has.has.batches frame;
        at = flush_holds means s has.has.batches p o T ks Flushed (vault_told means w) v w f begins has.has.at (λ r there. at_point (bases_of s) p o begins T r f there has.has.frame) has.said;
        none = λ _.
            let now = told_push o T (ks, flushing (vault_told means w)) in
            omega (arith, all_flushed, ap (λ (c : CoreState). c.system.first + c.vault.flushed) now, ap (λ (c : CoreState). c.system.taken) now);
        moments = λ u was. moments_go_on means s p o T (one ks (flushing (vault_told means w))) u w begins (has.moments u was);
        told = subst (IsVault means.faults w) (sym (ap (λ (c : CoreState). c.vault) (told_push o T (ks, flushing (vault_told means w))))) (told_so (core_told o T).vault w);
      }

    -- ---- its flush met a fault
    pub fault_told : (f : Framed) (v w : Vaulted V) (T : History) (ks : List ℕ) (c : ℕ) (y : SystemState) → AllFollow (bases_of s) p o T → HasFault means began s p o f v w T
        → VaultStands means began s p o w (T ++ one ks (failing (vault_told means w) y c))
    fault_told f v w T ks c y all has =
        let stops : w.stopped ≡ true = ap (λ (z : Vaulted V). z.stopped) has.said.vault in
        record {
          batches = has.has.batches;
          at = fault_holds means s has.has.batches p o T ks c (vault_told means w) y v w f begins has.has.at (λ r there. at_point (bases_of s) p o begins T r f there has.has.frame) has.said;
          none = λ runs. absurd (not_both_ways stops runs);
          moments = λ u was. moments_go_on means s p o T (one ks (failing (vault_told means w) y c)) u w begins (has.moments u was);
          told = subst (IsVault means.faults w) (sym (ap (λ (d : CoreState). d.vault) (told_push o T (ks, failing (vault_told means w) y c)))) (told_so (core_told o T).vault w);
        }
