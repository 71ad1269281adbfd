-- What the vault's steps tell may be added, whatever others add meanwhile.
use Rattle.std.proofs.Common.{◌≡◌, ℕ, ◌+◌, ◌^◌, ◌<◌, ◌≤◌, Bool, true, false, List, [], ◌∷◌, ◌++◌, length, refl, ap, sym, subst, ◌∙◌, arith}
use Rattle.std.specs.Prelude.{◌==◌, ◌||◌}
use Rattle.std.proofs.lemmas.Bool.{ne_eqb}
use Rattle.dali_lists.proofs.Tests.{not_both_ways}
use Rattle.dali_store.specs.declared.store.Store.{Ghosts}
use Rattle.dali_log.specs.Batch.{Framed}
use Rattle.dali_log.specs.Appending.{bodies_of, SomeAdded}
use Rattle.dali_runs.specs.State.{SystemState, VaultState, CoreState, taken_to, stable}
use Rattle.dali_runs.specs.Run.{Bases, HasRisen}
use Rattle.dali_runs.specs.Steps.{taken, store_stopped}
use Rattle.dali_runs.specs.Keeps.{with_system}
use Rattle.dali_runs.specs.Flushes.{frame_of, with_vault, longer, faulted}
use Rattle.dali_runs.specs.Courses.{Flushes, Faults, Stops}
use Rattle.dali_crash.specs.Checkpoints.{StoreStep, Does, Point}
use Rattle.dali_crash.specs.Traces.{Start, bases_of}
use Rattle.dali_transcripts.specs.Words.{StoreFailed}
use Rattle.dali_transcripts.specs.World.{Meets}
use Rattle.dali_core.specs.Vault.Vaulted.{Vaulted}
use Rattle.dali_core.specs.Flushed.{IsUntaken}
use Rattle.dali_core.specs.Steps.At.{IsVault}
use Rattle.dali_core.specs.Steps.Said.{HasFlushed, FlushHasFailed}
use Rattle.dali_core.specs.Cores.{IsNoShorter}
use Rattle.dali_core.specs.Moments.{Within}
use Rattle.dali_core.proofs.StepsLemmas.Steps.{places_are_small}
use Rattle.dali_notes.specs.History.{signs, Sight, IsSeen, Added, AllMay, MayAdd}
use Rattle.dali_concurrent.specs.Entries.{Entry, Did, Flushed, system_note, vault_note, region_note, client_note}
use Rattle.dali_concurrent.specs.Rules.{Outset, count_of, log_by}
use Rattle.dali_concurrent.specs.Told.{Effect, vault_on, OnVault, OnStop, effect_on, Item, History, plain, core_told}
use Rattle.dali_concurrent.specs.Landing.{BeginsAt, Lands}
use Rattle.dali_concurrent.specs.Kept.{Follows, AllFollow, SystemTold}
use Rattle.dali_concurrent.proofs.Told.{told_push}
use Rattle.dali_concurrent.proofs.Kept.{system_meets, stands_of}
use Rattle.dali_concurrent.proofs.Cases.{takes_land}
use Rattle.dali_concurrent.proofs.Sorts.{flush_lands, fault_lands}
use Rattle.dali_locked.proofs.Adding.{led_now, front_may}
use Rattle.dali_locked.specs.Begun.{Begun, outset, FromEach, Of, Led, may_add}
use Rattle.dali_locked.specs.Vaults.{vault_told, taking, flushing, failing, VaultStands, HasFrame, HasWritten, HasFault, IsTold, IsVaultNote, AllAreTaken, AllAreDurable, HasStopped}
use Rattle.dali_locked.specs.Sights.{ClientSight}
use Rattle.dali_locked.proofs.Vaulting.{same_vault, frame_taken, moments_on, all_taken, stands_meets, written_meets, fault_meets, grows, all_flushed, flush_told, fault_told, log_longer, taken_to_stays, first_is}

-- ---- who signs
-- no region signs with vault and system alone, nor with a client
pub apart : (m r : ℕ) → (m ≡ region_note r → ⊥) → (m == region_note r) ≡ false
apart m r differs = ne_eqb m (region_note r) differs

no_region_two : (r : ℕ) → signs (region_note r) (vault_note ∷ system_note ∷ []) ≡ false
no_region_two r =
    ap (λ b. b || signs (region_note r) (system_note ∷ [])) (apart vault_note r (λ e. omega (arith, e)))
    ∙ ap (λ b. b || false) (apart system_note r (λ e. omega (arith, e)))

no_region_one : (r : ℕ) → signs (region_note r) (vault_note ∷ []) ≡ false
no_region_one r = ap (λ b. b || false) (apart vault_note r (λ e. omega (arith, e)))

pub no_region_three : (n c r : ℕ) → r < n → signs (region_note r) (client_note n c ∷ system_note ∷ vault_note ∷ []) ≡ false
no_region_three n c r below =
    ap (λ b. b || signs (region_note r) (system_note ∷ vault_note ∷ [])) (apart (client_note n c) r (λ e. omega (arith, e, below)))
    ∙ (ap (λ b. b || signs (region_note r) (vault_note ∷ [])) (apart system_note r (λ e. omega (arith, e)))
    ∙ ap (λ b. b || false) (apart vault_note r (λ e. omega (arith, e))))

swapped : (a b : Bool) → (a || (b || false)) ≡ true → (b || (a || false)) ≡ true
swapped true true e = refl
swapped true false e = refl
swapped false true e = refl
swapped false false e = e

-- ---- what each owes
module _ (bases : Bases) (p : Point) (o : Outset) (T : History) where
  take_follows : (y z : SystemState) → y ≡ (core_told o T).system → z ≡ taken y → Follows bases p o T (vault_note ∷ system_note ∷ [], taking z)
  take_follows y z told is = record {
    fits = record { by = λ k h. swapped (system_note == k) (vault_note == k) h; fits = tt };
    effect = refl;
    lands = subst (λ x. Lands bases p o T (vault_note ∷ system_note ∷ [], taking x)) (sym is) (takes_land bases p o T (vault_note ∷ system_note ∷ []) y told);
    silent = λ none i x at. absurd (cc);
    steps = refl;
    writes = refl;
    holds = λ r g below mine there. absurd (not_both_ways mine (no_region_two r));
    checks = λ no. absurd (cc);
  }

  -- an effect that leaves the same lands too
  pub lands_as : (ks : List ℕ) (e : Entry) (f g : Effect) (xs : List StoreStep) → effect_on (core_told o T) f ≡ effect_on (core_told o T) g → Lands bases p o T (ks, (e, f, xs)) → Lands bases p o T (ks, (e, g, xs))
  lands_as ks e f g xs same lands q at =
      let l = lands q at in
      (l.0, record { course = l.1.course; core = l.1.core ∙ (told_push o T (ks, (e, f, xs)) ∙ (same ∙ sym (told_push o T (ks, (e, g, xs))))); goes = l.1.goes; halts = l.1.halts })

  -- u: the vault in hand, as the entry leaves it
  flush_follows : (u : VaultState) → (core_told o T).vault.stopped ≡ false → vault_on (core_told o T).vault (longer (core_told o T).vault (frame_of (log_by o (plain T)) (core_told o T))) ≡ vault_on (core_told o T).vault u
      → Follows bases p o T (vault_note ∷ [], flushing u)
  flush_follows u runs is = record {
    fits = record { by = λ k h. h; fits = tt };
    effect = refl;
    lands = lands_as (vault_note ∷ []) Flushed (OnVault (longer (core_told o T).vault (frame_of (log_by o (plain T)) (core_told o T)))) (OnVault u) (Does Flushes ∷ []) (ap (λ z. with_vault (core_told o T) z) is)
        (flush_lands bases p o T (vault_note ∷ []) (core_told o T).vault (frame_of (log_by o (plain T)) (core_told o T)) refl runs refl);
    silent = λ none i x at. absurd (cc);
    steps = refl;
    writes = refl;
    holds = λ r g below mine there. absurd (not_both_ways mine (no_region_one r));
    checks = λ no. absurd (cc);
  }

  fault_follows : (c : ℕ) (u : VaultState) (y : SystemState) → y ≡ (core_told o T).system → (core_told o T).vault.stopped ≡ false → HasRisen (core_told o T).vault.faults u.faults
      → vault_on (core_told o T).vault (faulted (core_told o T).vault u.faults) ≡ vault_on (core_told o T).vault u
      → Follows bases p o T (client_note (count_of o) c ∷ system_note ∷ vault_note ∷ [], failing u (store_stopped y) c)
  fault_follows c u y told runs rose is = record {
    fits = record {
      by = λ k h. h;
      fits = record { txn = tt; acts = λ t e. absurd (cc); audited = λ b found e. absurd (cc); looked = λ r e. absurd (cc); held = tt };
    };
    effect = (signs_last (client_note (count_of o) c == vault_note), signs_last (client_note (count_of o) c == system_note));
    lands = lands_as (client_note (count_of o) c ∷ system_note ∷ vault_note ∷ []) (Did (Meets StoreFailed) c) (OnStop (faulted (core_told o T).vault u.faults) (store_stopped y)) (OnStop u (store_stopped y))
        (Does (Faults u.faults) ∷ Does Stops ∷ []) (ap (λ z. with_system (with_vault (core_told o T) z) (store_stopped y)) is)
        (fault_lands bases p o T (client_note (count_of o) c ∷ system_note ∷ vault_note ∷ []) u.faults c (core_told o T).vault y refl told runs rose);
    silent = λ none i x at. absurd (not_both_ways (signs_last (client_note (count_of o) c == vault_note)) none);
    steps = refl;
    writes = refl;
    holds = λ r g below mine there. absurd (not_both_ways mine (no_region_three (count_of o) c r below));
    checks = λ no. absurd (cc);
  }
    where
      signs_last : (b : Bool) → (b || true) ≡ true
      signs_last true = refl
      signs_last false = refl

-- ---- notes
pub follow_all : (b : Begun) (T : History) → AllMay (may_add b) T → (s : Start) (p : Point) → b.each s p → AllFollow (bases_of s) p (outset b s p) T
follow_all b T may s p here i e at = may i e at s p here

pub vault_note_on : (b : Begun) (a c : Sight Item) → IsVaultNote b a → c.table ≡ a.table → c.number ≡ a.number → AllMay (may_add b) c.seen → IsVaultNote b c
vault_note_on b a c is table number may = (table ∙ is.0, number ∙ is.1, led_now b a.seen c.seen is.2 may)

pub vault_note_as : (b : Begun) (a c : Sight Item) (new : History) → IsVaultNote b a → c ≡ record a { seen = new } → AllMay (may_add b) new → IsVaultNote b c
vault_note_as b a c new is same may = subst (IsVaultNote b) (sym same) (is.0, is.1, led_now b a.seen new is.2 may)

abbrev pub SystemIs : Begun → SystemState → Sight Item → Type 0
SystemIs b y n = (n.table ≡ b.table) × (n.number ≡ system_note) × Led b n.seen × Of b (λ o T. SystemTold o y T) n.seen

-- what a system in hand is behind what its note meets
pub system_on : (b : Begun) (y : SystemState) (m : ℕ) (seen new : History) → m ≡ system_note → IsSeen new m seen → AllMay (may_add b) new → Of b (λ o T. SystemTold o y T) seen → Of b (λ o T. SystemTold o y T) new
system_on b y m seen new own is may told s p here =
    system_meets (bases_of s) p (outset b s p) seen new y (subst (λ k. IsSeen new k seen) own is) (follow_all b new may s p here) (told s p here)

pub system_met : (b : Begun) (y : SystemState) (a c : Sight Item) → SystemIs b y a → c.table ≡ a.table → c.number ≡ a.number → IsSeen c.seen a.number a.seen → AllMay (may_add b) c.seen → SystemIs b y c
system_met b y a c is table number seen may = (table ∙ is.0, number ∙ is.1, led_now b a.seen c.seen is.2 may, system_on b y a.number a.seen c.seen is.1 seen may is.3)

-- behind an entry that leaves the system z
pub system_tells : (b : Begun) (y z : SystemState) (ns : List (Sight Item)) (c d : Sight Item) (x : Item) (new : History) → SystemIs b y c → ((w : CoreState) → (effect_on w x.1).system ≡ z)
    → Added ns x new → AllMay (may_add b) new → d ≡ record c { seen = new } → SystemIs b z d
system_tells b y z ns c d x new is leaves added may same = subst (SystemIs b z) (sym same) (
  is.0,
  is.1,
  led_now b c.seen new is.2 may,
  λ s p here. sym (ap (λ T. (core_told (outset b s p) T).system) added.2 ∙ (ap (λ (w : CoreState). w.system) (told_push (outset b s p) added.0 _) ∙ leaves (core_told (outset b s p) added.0))),
)

-- ---- a frame is taken
pub may_take : (b : Begun) (a c : Sight Item) (y z : SystemState) → a.number ≡ vault_note → c.number ≡ system_note → Of b (λ o T. SystemTold o y T) c.seen → z ≡ taken y
    → MayAdd (may_add b) (a ∷ c ∷ []) (taking z)
may_take b a c y z va sy told is now saw may s p here =
    subst (λ k. Follows (bases_of s) p (outset b s p) now (k ∷ c.number ∷ [], taking z)) (sym va)
    (subst (λ k. Follows (bases_of s) p (outset b s p) now (vault_note ∷ k ∷ [], taking z)) (sym sy)
    (take_follows (bases_of s) p (outset b s p) now y z (system_on b y c.number c.seen now sy saw.1.0 may told s p here) is))

module _ {V : Type 0} (means : Ghosts V) (began : Vaulted V → Type 0) (b : Begun) where
  abbrev pub HasFrameIn : Framed → Vaulted V → History → Type 0
  HasFrameIn f v T = FromEach b (λ s p. HasFrame means began s p (outset b s p) f v T)

  abbrev pub HasWrittenIn : Framed → Vaulted V → Vaulted V → History → Type 0
  HasWrittenIn f v w T = FromEach b (λ s p. HasWritten means began s p (outset b s p) f v w T)

  abbrev pub HasFaultIn : Framed → Vaulted V → Vaulted V → History → Type 0
  HasFaultIn f v w T = FromEach b (λ s p. HasFault means began s p (outset b s p) f v w T)

  -- a, c: the notes of vault and system;  new: what both have seen then
  pub took_frame : (a c : Sight Item) (v : Vaulted V) (f : Framed) (y z : SystemState) (new : History) → IsVaultNote b a → c.number ≡ system_note → Of b (λ o T. SystemTold o y T) c.seen
      → IsTold means began b v a.seen → v.stopped ≡ false → IsUntaken y f → z ≡ taken y → Added (a ∷ c ∷ []) (taking z) new → AllMay (may_add b) new → HasFrameIn f v new
  took_frame a c v f y z new va sy told stands runs untaken is added may s p here =
      let now : History = added.0 in
      let early : AllMay (may_add b) now = front_may b now _ (subst (AllMay (may_add b)) added.2 may) in
      let all : AllFollow (bases_of s) p (outset b s p) now = follow_all b now early s p here in
      let begins : BeginsAt (bases_of s) p (outset b s p) = (va.2 s p here).led.begins in
      subst (HasFrame means began s p (outset b s p) f v) (sym added.2)
      (frame_taken means began s p (outset b s p) begins v f now _ y z all
      (stands_meets means began s p (outset b s p) begins v a.seen now (subst (λ n. IsSeen now n a.seen) va.1 added.1.0) all (stands s p here)) runs
      (system_on b y c.number c.seen now sy added.1.1.0 early told s p here) untaken is)

  -- S: what the system's note saw of a client before
  pub took_all : (a c : Sight Item) (v : Vaulted V) (y z : SystemState) (S new : History) (m : ℕ) → IsVaultNote b a → c.number ≡ system_note → Of b (λ o T. SystemTold o y T) c.seen
      → z ≡ taken y → IsSeen c.seen m S → Added (a ∷ c ∷ []) (taking z) new → AllMay (may_add b) new → AllAreTaken b S new
  took_all a c v y z S new m va sy told is theirs added may s p here =
      let now : History = added.0 in
      let early : AllMay (may_add b) now = front_may b now _ (subst (AllMay (may_add b)) added.2 may) in
      let all : AllFollow (bases_of s) p (outset b s p) now = follow_all b now early s p here in
      let begins : BeginsAt (bases_of s) p (outset b s p) = (va.2 s p here).led.begins in
      let taken_now = all_taken means began s p (outset b s p) begins now (a.number ∷ c.number ∷ []) y z all (system_on b y c.number c.seen now sy added.1.1.0 early told s p here) is in
      let one = log_longer (outset b s p) S theirs.rest in
      let two = log_longer (outset b s p) c.seen added.1.1.0.rest in
      subst (λ T. length (log_by (outset b s p) (plain S)) ≤ taken_to (core_told (outset b s p) T).system) (sym added.2)
      (omega (arith, taken_now, one, two, ap (λ T. length (log_by (outset b s p) (plain T))) theirs.all, ap (λ T. length (log_by (outset b s p) (plain T))) added.1.1.0.all))

  -- what a flush of the frame says
  pub written_in : (T : History) (f : Framed) (v w : Vaulted V) → Led b T → HasFrameIn f v T → v.stopped ≡ false → IsNoShorter means.told v w
      → Within means.told means.moment means.left_since v w (SomeAdded (means.may_leave v.store) v.end (bodies_of f.body)) → HasFlushed means v f w → HasWrittenIn f v w T
  written_in T f v w led has runs longer within said s p here = record {
    has = has s p here;
    said = said;
    moments = moments_on means began s p (outset b s p) (led s p here).led.begins f v w T (has s p here) runs longer within;
  }

  pub fault_in : (T : History) (f : Framed) (v w : Vaulted V) → Led b T → HasFrameIn f v T → v.stopped ≡ false → IsNoShorter means.told v w
      → Within means.told means.moment means.left_since v w (SomeAdded (means.may_leave v.store) v.end (bodies_of f.body)) → FlushHasFailed means v f w → HasFaultIn f v w T
  fault_in T f v w led has runs longer within said s p here = record {
    has = has s p here;
    said = said;
    longer = longer;
    moments = moments_on means began s p (outset b s p) (led s p here).led.begins f v w T (has s p here) runs longer within;
  }

  -- ---- it is flushed
  pub may_flush : (a : Sight Item) (f : Framed) (v w : Vaulted V) → IsVaultNote b a → HasWrittenIn f v w a.seen → MayAdd (may_add b) (a ∷ []) (flushing (vault_told means w))
  may_flush a f v w va has now saw may s p here =
      let all : AllFollow (bases_of s) p (outset b s p) now = follow_all b now may s p here in
      let begins : BeginsAt (bases_of s) p (outset b s p) = (va.2 s p here).led.begins in
      let here_now = written_meets means began s p (outset b s p) begins f v w a.seen now (subst (λ n. IsSeen now n a.seen) va.1 saw.0) (va.2 s p here).led.all all (has s p here) in
      subst (λ n. Follows (bases_of s) p (outset b s p) now (n ∷ [], flushing (vault_told means w))) (sym va.1)
      (flush_follows (bases_of s) p (outset b s p) now (vault_told means w)
      (here_now.has.told.stopped ∙ (ap (λ (z : Vaulted V). z.stopped) (sym here_now.said.vault) ∙ here_now.said.ok.runs))
      (sym (same_vault means (core_told (outset b s p) now).vault _ w (grows means began s p (outset b s p) begins f v w now (vault_note ∷ []) all here_now))))

  pub wrote_frame : (a : Sight Item) (f : Framed) (v w : Vaulted V) (new : History) → IsVaultNote b a → HasWrittenIn f v w a.seen
      → Added (a ∷ []) (flushing (vault_told means w)) new → AllMay (may_add b) new → IsTold means began b w new
  wrote_frame a f v w new va has added may s p here =
      let now : History = added.0 in
      let early : AllMay (may_add b) now = front_may b now _ (subst (AllMay (may_add b)) added.2 may) in
      let all : AllFollow (bases_of s) p (outset b s p) now = follow_all b now early s p here in
      let begins : BeginsAt (bases_of s) p (outset b s p) = (va.2 s p here).led.begins in
      let here_now = written_meets means began s p (outset b s p) begins f v w a.seen now (subst (λ n. IsSeen now n a.seen) va.1 added.1.0) (va.2 s p here).led.all all (has s p here) in
      subst (VaultStands means began s p (outset b s p) w) (sym added.2) (flush_told means began s p (outset b s p) begins f v w now _ all here_now)

  pub wrote_all : (a : Sight Item) (f : Framed) (v w : Vaulted V) (new : History) → IsVaultNote b a → HasWrittenIn f v w a.seen
      → Added (a ∷ []) (flushing (vault_told means w)) new → AllMay (may_add b) new
      → FromEach b (λ s p. taken_to (core_told (outset b s p) a.seen).system ≤ stable (core_told (outset b s p) new))
  wrote_all a f v w new va has added may s p here =
      let now : History = added.0 in
      let early : AllMay (may_add b) now = front_may b now _ (subst (AllMay (may_add b)) added.2 may) in
      let all : AllFollow (bases_of s) p (outset b s p) now = follow_all b now early s p here in
      let begins : BeginsAt (bases_of s) p (outset b s p) = (va.2 s p here).led.begins in
      let is : IsSeen now vault_note a.seen = subst (λ n. IsSeen now n a.seen) va.1 added.1.0 in
      let first : AllFollow (bases_of s) p (outset b s p) a.seen = (va.2 s p here).led.all in
      let here_now = written_meets means began s p (outset b s p) begins f v w a.seen now is first all (has s p here) in
      let same : taken_to (core_told (outset b s p) now).system ≡ taken_to (core_told (outset b s p) a.seen).system = taken_to_stays (bases_of s) p (outset b s p) begins means a.seen now w is first all in
      subst (λ T. taken_to (core_told (outset b s p) a.seen).system ≤ stable (core_told (outset b s p) T)) (sym added.2)
      (omega (arith, same, all_flushed means began s p (outset b s p) begins f v w now (a.number ∷ []) all here_now))

  -- ---- its flush met a fault
  abbrev stop_item : Vaulted V → SystemState → ℕ → Item
  stop_item w y c = failing (vault_told means w) (store_stopped y) c

  -- d: the client's note
  pub may_stop : (d c a : Sight Item) (f : Framed) (v w : Vaulted V) (y : SystemState) (i : ℕ) → d.number ≡ client_note b.count i → c.number ≡ system_note → IsVaultNote b a
      → Of b (λ o T. SystemTold o y T) c.seen → HasFaultIn f v w a.seen → MayAdd (may_add b) (d ∷ c ∷ a ∷ []) (stop_item w y i)
  may_stop d c a f v w y i cl sy va told has now saw may s p here =
      let o : Outset = outset b s p in
      let all : AllFollow (bases_of s) p o now = follow_all b now may s p here in
      let begins : BeginsAt (bases_of s) p o = (va.2 s p here).led.begins in
      let here_now = fault_meets means began s p o begins f v w a.seen now (subst (λ n. IsSeen now n a.seen) va.1 saw.1.1.0) (va.2 s p here).led.all all (has s p here) in
      let u : VaultState = (core_told o now).vault in
      let was = here_now.has.told in
      let is : IsVault means.faults w (faulted u (means.faults w.store)) = record {
        stopped = ap (λ (z : Vaulted V). z.stopped) (sym here_now.said.vault);
        end = was.end ∙ ap (λ (z : Vaulted V). z.end) (sym here_now.said.vault);
        flushed = was.flushed ∙ ap (λ (z : Vaulted V). z.flushed) (sym here_now.said.vault);
        current = was.current ∙ ap (λ (z : Vaulted V). z.current) (sym here_now.said.vault);
        counted = refl;
      } in
      let own : d.number ≡ client_note (count_of o) i = cl ∙ ap (λ n. client_note n i) (sym (va.2 s p here).count) in
      subst (λ n. Follows (bases_of s) p o now (n ∷ c.number ∷ a.number ∷ [], stop_item w y i)) (sym own)
      (subst (λ n. Follows (bases_of s) p o now (client_note (count_of o) i ∷ n ∷ a.number ∷ [], stop_item w y i)) (sym sy)
      (subst (λ n. Follows (bases_of s) p o now (client_note (count_of o) i ∷ system_note ∷ n ∷ [], stop_item w y i)) (sym va.1)
      (fault_follows (bases_of s) p o now i (vault_told means w) y (system_on b y c.number c.seen now sy saw.1.0 may told s p here) (was.stopped ∙ here_now.said.ran)
      (subst (λ n. HasRisen n (means.faults w.store)) (sym was.counted) here_now.said.rose) (sym (same_vault means u _ w is)))))

  pub stopped_with : (d c a : Sight Item) (f : Framed) (v w : Vaulted V) (y : SystemState) (i : ℕ) (new : History) → IsVaultNote b a → HasFaultIn f v w a.seen
      → Added (d ∷ c ∷ a ∷ []) (stop_item w y i) new → AllMay (may_add b) new → IsTold means began b w new
  stopped_with d c a f v w y i new va has added may s p here =
      let now : History = added.0 in
      let early : AllMay (may_add b) now = front_may b now _ (subst (AllMay (may_add b)) added.2 may) in
      let all : AllFollow (bases_of s) p (outset b s p) now = follow_all b now early s p here in
      let begins : BeginsAt (bases_of s) p (outset b s p) = (va.2 s p here).led.begins in
      let here_now = fault_meets means began s p (outset b s p) begins f v w a.seen now (subst (λ n. IsSeen now n a.seen) va.1 added.1.1.1.0) (va.2 s p here).led.all all (has s p here) in
      subst (VaultStands means began s p (outset b s p) w) (sym added.2) (fault_told means began s p (outset b s p) begins f v w now _ i (store_stopped y) all here_now)

-- what the client has seen of it: d is its note before
pub has_stopped : (b : Begun) (x y : ClientSight) (d c a : Sight Item) (u : VaultState) (z : SystemState) (i : ℕ) (new : History) → d.number ≡ client_note b.count x.id → d.seen ≡ x.seen → i ≡ x.id
    → c.number ≡ system_note → a.number ≡ vault_note → Added (d ∷ c ∷ a ∷ []) (failing u z i) new → y.id ≡ x.id → y.seen ≡ new → HasStopped b x y
has_stopped b x y d c a u z i new own same who sy va added id seen = record {
  id = id;
  now = added.0;
  seen = subst (λ T. IsSeen added.0 (client_note b.count x.id) T) same (subst (λ n. IsSeen added.0 n d.seen) own added.1.0);
  vault = u;
  system = z;
  last = seen ∙ (added.2
      ∙ (ap (λ n. added.0 ++ (n ∷ c.number ∷ a.number ∷ [], failing u z i) ∷ []) own
      ∙ (ap (λ n. added.0 ++ (client_note b.count x.id ∷ n ∷ a.number ∷ [], failing u z i) ∷ []) sy
      ∙ (ap (λ n. added.0 ++ (client_note b.count x.id ∷ system_note ∷ n ∷ [], failing u z i) ∷ []) va
      ∙ ap (λ j. added.0 ++ (client_note b.count x.id ∷ system_note ∷ vault_note ∷ [], failing u z j) ∷ []) who))));
}

-- what was taken is flushed
pub durable_then : (b : Begun) (S T U : History) → AllAreTaken b S T → FromEach b (λ s p. taken_to (core_told (outset b s p) T).system ≤ stable (core_told (outset b s p) U)) → AllAreDurable b S U
durable_then b S T U one two s p here = omega (arith, one s p here, two s p here)

-- the first record that isn't flushed, by the vault in hand
pub stable_is : {V : Type 0} (means : Ghosts V) (began : Vaulted V → Type 0) (b : Begun) (v : Vaulted V) (first : ℕ) (T : History) → Led b T → IsTold means began b v T → FromEach b (λ s p. p.core.system.first ≡ first)
    → FromEach b (λ s p. stable (core_told (outset b s p) T) ≡ first + v.flushed)
stable_is means began b v first T led told firsts s p here =
    let is = (led s p here).led in
    let q = stands_of (bases_of s) p (outset b s p) T is.begins is.all in
    ap (λ n. n + (core_told (outset b s p) T).vault.flushed) (first_is (bases_of s) p (outset b s p) is.begins T q.0 q.1 ∙ firsts s p here) ∙ ap (λ n. first + n) (told s p here).told.flushed

-- behind what a note that met the vault's has seen
pub told_on : {V : Type 0} (means : Ghosts V) (began : Vaulted V → Type 0) (b : Begun) (v : Vaulted V) (m : ℕ) (seen new : History) → m ≡ vault_note → IsSeen new m seen → Led b new → IsTold means began b v seen → IsTold means began b v new
told_on means began b v m seen new own is led told s p here =
    stands_meets means began s p (outset b s p) (led s p here).led.begins v seen new (subst (λ n. IsSeen new n seen) own is) (led s p here).led.all (told s p here)

-- a vault of a run ends below 2^62
pub ends_small : {V : Type 0} (means : Ghosts V) (began : Vaulted V → Type 0) (b : Begun) (v : Vaulted V) (T : History) → Led b T → IsTold means began b v T → FromEach b (λ s p. v.end < 2 ^ 62)
ends_small means began b v T led told s p here =
    let is = (led s p here).led in
    let q = stands_of (bases_of s) p (outset b s p) T is.begins is.all in
    let has = told s p here in
    (places_are_small means s has.batches q.0 v (has.at.at q.0 q.1)).0

abbrev pub client_as : ℕ → History → ClientSight
client_as id seen = record { id = id; seen = seen }
