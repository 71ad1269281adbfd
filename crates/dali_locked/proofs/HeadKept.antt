-- The head that a checkpoint keeps.
use Rattle.std.proofs.Common.{◌≡◌, ℕ, zero, suc, ◌+◌, ◌-◌, ◌<◌, ◌^◌, Bool, true, false, List, [], ◌∷◌, ◌++◌, length, Some, None, refl, ap, sym, subst, ◌∙◌, inr, arith}
use Rattle.std.specs.Prelude.{slice_get, ◌==◌, ◌||◌, is_some}
use Rattle.std.proofs.lemmas.List.{map-append}
use Rattle.std.proofs.lemmas.List.Elements.{filter_map-append}
use Rattle.std.proofs.lemmas.List.Sums.{fold-append}
use Rattle.dali_record.specs.declared.records.Record.{Record}
use Rattle.dali_lists.proofs.Numbers.{eqb-self}
use Rattle.dali_lists.proofs.Options.{some_same}
use Rattle.dali_lists.proofs.Tests.{not_both_ways}
use Rattle.dali_store.specs.declared.store.Store.{Ghosts}
use Rattle.dali_runs.specs.State.{SystemState, CoreState, stable}
use Rattle.dali_runs.specs.Run.{Bases, RunsOn}
use Rattle.dali_crash.specs.Checkpoints.{Head, Starts, Keeps, Point, head_now}
use Rattle.dali_crash.specs.Disks.Disks.{table_bytes}
use Rattle.dali_geometry.specs.Sizes.{Sizes}
use Rattle.dali_image.specs.Laws.{header_of}
use Rattle.dali_crash.specs.Traces.{Start, bases_of}
use Rattle.dali_transcripts.specs.World.{StartsCheckpoint, span_step, under_way}
use Rattle.dali_core.specs.Vault.Vaulted.{Vaulted}
use Rattle.dali_core.specs.Steps.At.{IsVault}
use Rattle.dali_core.proofs.StepsLemmas.Steps.{places_are_small}
use Rattle.dali_notes.specs.History.{signs, Sight, IsSeen, Added, AllMay, MayAdd}
use Rattle.dali_concurrent.specs.Entries.{Did, Kept, system_note, vault_note, client_note, deed_in, deeds_of}
use Rattle.dali_concurrent.specs.Rules.{Outset, count_of, log_by}
use Rattle.dali_concurrent.specs.Told.{OnSystem, Item, Line, History, plain, plain_one, core_told}
use Rattle.dali_concurrent.specs.Landing.{Stands}
use Rattle.dali_concurrent.specs.Kept.{Follows, AllFollow, SystemTold}
use Rattle.dali_concurrent.specs.Holds.{IsLed}
use Rattle.dali_concurrent.specs.Stages.{Stage, Nowhere, Started, HasKept, Copying, Settled, stage_by, stage_after, stage_line, IsBehind, IsStage}
use Rattle.dali_concurrent.specs.Calls.{is_still, AreStill}
use Rattle.dali_concurrent.proofs.Told.{told_push}
use Rattle.dali_concurrent.proofs.Kept.{stands_of, system_meets}
use Rattle.dali_concurrent.proofs.Moments.{moments_go_on}
use Rattle.dali_concurrent.proofs.Copying.{keeps_land}
use Rattle.dali_concurrent.proofs.Stages.{stage_push, stage_begins, stage_stands, sizes_are}
use Rattle.dali_concurrent.proofs.Landing.{told_is_whole}
use Rattle.dali_concurrent.proofs.Checking.{stage_sees}
use Rattle.dali_concurrent.proofs.Calls.{at_meets}
use Rattle.dali_locked.specs.Begun.{Begun, outset, FromEach, Of, Led, may_add}
use Rattle.dali_locked.specs.Sights.{ClientSight}
use Rattle.dali_locked.specs.Vaults.{VaultStands, IsTold, IsVaultNote}
use Rattle.dali_locked.specs.HeadKept.{keeping, HeadBytes, head_in, IsMadeOf, HasStage, HasKeptAll}
use Rattle.dali_locked.proofs.HeadRead.{kept_fits, head_read, is_head, made_table, made_header}
use Rattle.dali_locked.proofs.Adding.{led_now, front_may}
use Rattle.dali_locked.proofs.Vaulting.{counted, in_order, deeds_still, log_still, stands_meets}
use Rattle.dali_locked.proofs.VaultTelling.{no_region_three, follow_all, SystemIs, system_on}

-- ---- who signs
first_signs : (n : ℕ) (ks : List ℕ) → signs n (n ∷ ks) ≡ true
first_signs n ks = ap (λ b. b || signs n ks) (eqb-self n)

or_last : (a b : Bool) → b ≡ true → (a || b) ≡ true
or_last true b e = refl
or_last false b e = e

abbrev line : Outset → ℕ → Line
line o c = (client_note (count_of o) c ∷ system_note ∷ vault_note ∷ [], keeping)

-- ---- entries of others leave a stage
stage_on : (bases : Bases) (p : Point) (o : Outset) (seen new : History) (c : ℕ) → IsLed bases p o new → IsSeen new (client_note (count_of o) c) seen → HasStage c Started o seen → HasStage c Started o new
stage_on bases p o seen new c led is has =
    let q = stands_of bases p o new led.begins led.all in
    let w = stage_sees bases p o seen new q.0 c q.1 led.all is has.mine in
    record { mine = w.0; stage = subst (λ st. IsBehind st (stage_by o new)) has.stage w.1 }

module _ (bases : Bases) (p : Point) (o : Outset) (T : History) (c : ℕ) (led : IsLed bases p o T) (has : HasStage c Started o T) where
  keep_follows : (core_told o T).vault.stopped ≡ false → (core_told o T).system.first + (core_told o T).vault.flushed ≡ (core_told o T).system.records → Follows bases p o T (line o c)
  keep_follows runs all =
      let q = stands_of bases p o T led.begins led.all in
      let checking : (core_told o T).system.checking ≡ true = q.1.tells.flag ∙ ap is_some has.mine in
      record {
        fits = record { by = λ k h. or_last (client_note (count_of o) c == k) (signs k (system_note ∷ vault_note ∷ [])) h; fits = tt };
        effect = tt;
        lands = keeps_land bases p o T (client_note (count_of o) c ∷ system_note ∷ vault_note ∷ []) Kept (core_told o T).vault (core_told o T).system refl refl refl runs checking all
            (stage_begins.none bases p o T led.begins has.stage);
        silent = λ none i x at. absurd (not_both_ways (or_last (client_note (count_of o) c == vault_note) true refl) none);
        steps = refl;
        writes = refl;
        holds = λ r g below mine there. absurd (not_both_ways mine (no_region_three (count_of o) c r below));
        checks = λ no. (c, first_signs (client_note (count_of o) c) (system_note ∷ vault_note ∷ []), inr has.mine);
      }

  same_core : (e : Line) → e ≡ line o c → core_told o (T ++ e ∷ []) ≡ core_told o T
  same_core e is = ap (λ z. core_told o (T ++ z ∷ [])) is ∙ told_push o T (line o c)

  record AllKept (new : History) : Type 0 where
    stage : HasStage c (HasKept (head_now (log_by o (plain new)) (core_told o new))) o new
    flushed : stable (core_told o new) ≡ length (log_by o (plain new))

  kept_all : (core_told o T).system.first + (core_told o T).vault.flushed ≡ (core_told o T).system.records → (ks : List ℕ) → AllKept (T ++ (ks, keeping) ∷ [])
  kept_all all ks = record {
    stage = record {
      mine = ap under_way (deeds_still T ((ks, keeping) ∷ []) refl) ∙ has.mine;
      stage = stage_push o T (ks, keeping)
          ∙ (ap (λ st. stage_line (count_of o) (log_by o (plain T)) (core_told o T) st (Keeps ∷ [])) has.stage
          ∙ (ap (λ L. HasKept (head_now L (core_told o T))) (sym log) ∙ ap (λ d. HasKept (head_now (log_by o (plain (T ++ (ks, keeping) ∷ []))) d)) (sym (told_push o T (ks, keeping)))));
    };
    flushed = ap stable (told_push o T (ks, keeping)) ∙ (all ∙ (let q = stands_of bases p o T led.begins led.all in counted bases p o led.begins T q.0 q.1 ∙ ap length (sym log)));
  }
    where
      log : log_by o (plain (T ++ (ks, keeping) ∷ [])) ≡ log_by o (plain T)
      log = log_still o T ((ks, keeping) ∷ []) refl

-- what is kept is the head of these bytes
head_kept : {V : Type 0} (means : Ghosts V) (s : Start) (p : Point) (o : Outset) (new : History) (c : ℕ) (led : IsLed (bases_of s) p o new) (st : HasStage c (HasKept (head_now (log_by o (plain new)) (core_told o new))) o new)
    (flushed : stable (core_told o new) ≡ length (log_by o (plain new))) (y : SystemState) (system : y ≡ (core_told o new).system) (v : Vaulted V) (is : IsVault means.faults v (core_told o new).vault) (k : HeadBytes) (made : IsMadeOf y v k)
    → HasKeptAll c k o new
head_kept means s p o new c led st flushed y system v is k made = record {
  keeps = record { stage = record { mine = st.mine; stage = st.stage ∙ ap HasKept (sym same) }; is = is_head sizes h k same header table };
  now = same;
  flushed = flushed;
}
  where
    q : (q : Point) × Stands (bases_of s) p o new q
    q = stands_of (bases_of s) p o new led.begins led.all

    h : Head
    h = head_now (log_by o (plain new)) (core_told o new)

    sizes : Sizes
    sizes = o.old.system.sizes

    sizes_here : q.0.core.system.sizes ≡ sizes
    sizes_here = sizes_are (bases_of s) p o new q.0 q.1

    begun : q.0.begun ≡ Some h
    begun = subst (IsStage q.0) st.stage (stage_stands (bases_of s) p o new q.0 led.begins q.1)

    run : RunsOn (bases_of s) (log_by o (plain new)) (core_told o new)
    run = (told_is_whole (bases_of s) p o new q.0 led.begins q.1).1

    table : k.table ≡ table_bytes h.table
    table = made_table (bases_of s) (log_by o (plain new)) (core_told o new) run y system v is.current is.end k made

    header : k.header ≡ header_of sizes h
    header = made_header (bases_of s) (log_by o (plain new)) (core_told o new) run y system v is.current is.end k made
        ∙ ap (λ z. header_of z h) (ap (λ (d : CoreState). d.system.sizes) (sym q.1.comes.core) ∙ sizes_here)

    same : head_in k ≡ h
    same = head_read q.0.core.system.sizes h k _ (kept_fits (bases_of s) o.made q.0 h q.1.run begun) (header ∙ ap (λ z. header_of z h) (sym sizes_here)) table

-- ---- a checkpoint starts
starts_so : (n : ℕ) (L : List Record) (d : CoreState) (st : Stage) → stage_after n L d st Starts ≡ Started
starts_so n L d Nowhere = refl
starts_so n L d Started = refl
starts_so n L d (HasKept h) = refl
starts_so n L d (Copying h g k) = refl
starts_so n L d (Settled h i) = refl

abbrev starting : List ℕ → ℕ → SystemState → Line
starting ks c y = (ks, (Did StartsCheckpoint c, OnSystem y, Starts ∷ []))

pub start_stage : (o : Outset) (T : History) (ks : List ℕ) (c : ℕ) (y : SystemState) → HasStage c Started o (T ++ starting ks c y ∷ [])
start_stage o T ks c y = record {
  mine = ap under_way (ap deeds_of (map-append plain_one T (starting ks c y ∷ [])) ∙ filter_map-append deed_in (plain T) (plain (starting ks c y ∷ [])))
      ∙ fold-append span_step None (deeds_of (plain T)) ((StartsCheckpoint, c) ∷ []);
  stage = stage_push o T (starting ks c y) ∙ starts_so (count_of o) (log_by o (plain T)) (core_told o T) (stage_by o T);
}

-- ---- an entry that keeps leaves the files
keeps_still : (ks : List ℕ) → AreStill ((ks, keeping) ∷ [])
keeps_still ks zero e at zero x there =
    let same : (ks, keeping) ≡ e = some_same at in subst (λ w. is_still w ≡ true) (some_same (ap (λ (l : Line). slice_get l.1.2 zero) same ∙ there)) refl
keeps_still ks zero e at (suc j) x there =
    let same : (ks, keeping) ≡ e = some_same at in let none : None ≡ Some x = ap (λ (l : Line). slice_get l.1.2 (suc j)) same ∙ there in absurd (cc)
keeps_still ks (suc i) e at j x there = absurd (cc)

-- ---- notes: d the client's, c the system's, a the vault's
module _ {V : Type 0} (means : Ghosts V) (began : Vaulted V → Type 0) (b : Begun) (d c a : Sight Item) (v : Vaulted V) (y : SystemState) (i : ℕ) (seen : History)
    (own : d.number ≡ client_note b.count i) (known : d.seen ≡ seen) (sy : SystemIs b y c) (va : IsVaultNote b a)
    (stands : IsTold means began b v a.seen) (taken : y.taken ≡ y.records - y.first) (runs : v.stopped ≡ false) (started : Of b (HasStage i Started) seen) where
  module _ (s : Start) (p : Point) (here : b.each s p) (now : History) (saw : IsSeen now d.number d.seen × (IsSeen now c.number c.seen × (IsSeen now a.number a.seen × Unit {0}))) (may : AllMay (may_add b) now) where
    abbrev o : Outset
    o = outset b s p

    led_here : IsLed (bases_of s) p o now
    led_here = record { begins = (va.2 s p here).led.begins; all = follow_all b now may s p here }

    has_here : HasStage i Started o now
    has_here =
        let own_here : d.number ≡ client_note (count_of o) i = own ∙ ap (λ n. client_note n i) (sym (va.2 s p here).count) in
        stage_on (bases_of s) p o d.seen now i led_here (subst (λ n. IsSeen now n d.seen) own_here saw.0) (subst (HasStage i Started o) (sym known) (started s p here))

    told_here : SystemTold o y now
    told_here = system_on b y c.number c.seen now sy.1 saw.1.0 may sy.3 s p here

    stands_here : VaultStands means began s p o v now
    stands_here = stands_meets means began s p o led_here.begins v a.seen now (subst (λ n. IsSeen now n a.seen) va.1 saw.1.1.0) led_here.all (stands s p here)

    stopped_here : (core_told o now).vault.stopped ≡ false
    stopped_here = stands_here.told.stopped ∙ runs

    all_here : (core_told o now).system.first + (core_told o now).vault.flushed ≡ (core_told o now).system.records
    all_here =
        let q = stands_of (bases_of s) p o now led_here.begins led_here.all in
        let order = in_order (bases_of s) p o led_here.begins now q.0 q.1 in
        omega (arith, order.0, order.1, counted (bases_of s) p o led_here.begins now q.0 q.1, stands_here.told.flushed, stands_here.none runs, taken, ap (λ (x : SystemState). x.taken) told_here, ap (λ (x : SystemState). x.records) told_here, ap (λ (x : SystemState). x.first) told_here)

  pub may_keep : MayAdd (may_add b) (d ∷ c ∷ a ∷ []) keeping
  may_keep now saw may s p here =
      let own_here : d.number ≡ client_note (count_of (outset b s p)) i = own ∙ ap (λ n. client_note n i) (sym (va.2 s p here).count) in
      subst (λ n. Follows (bases_of s) p (outset b s p) now (n ∷ c.number ∷ a.number ∷ [], keeping)) (sym own_here)
      (subst (λ n. Follows (bases_of s) p (outset b s p) now (client_note (count_of (outset b s p)) i ∷ n ∷ a.number ∷ [], keeping)) (sym sy.1)
      (subst (λ n. Follows (bases_of s) p (outset b s p) now (client_note (count_of (outset b s p)) i ∷ system_note ∷ n ∷ [], keeping)) (sym va.1)
      (keep_follows (bases_of s) p (outset b s p) now i (led_here s p here now saw may) (has_here s p here now saw may) (stopped_here s p here now saw may) (all_here s p here now saw may))))

  module _ (new : History) (added : Added (d ∷ c ∷ a ∷ []) keeping new) (may : AllMay (may_add b) new) where
    early : AllMay (may_add b) added.0
    early = front_may b added.0 ((d.number ∷ c.number ∷ a.number ∷ [], keeping) ∷ []) (subst (AllMay (may_add b)) added.2 may)

    pub stands_kept : IsTold means began b v new
    stands_kept s p here =
        let has = stands_here s p here added.0 added.1 early in
        let push = told_push (outset b s p) added.0 (d.number ∷ c.number ∷ a.number ∷ [], keeping) in
        subst (VaultStands means began s p (outset b s p) v) (sym added.2) (record {
          batches = has.batches;
          at = at_meets means s has.batches p (outset b s p) added.0 ((d.number ∷ c.number ∷ a.number ∷ [], keeping) ∷ []) v (led_here s p here added.0 added.1 early).begins (keeps_still (d.number ∷ c.number ∷ a.number ∷ [])) has.at;
          none = λ going. has.none going ∙ ap (λ (x : CoreState). x.system.taken) (sym push);
          moments = λ u was. moments_go_on means s p (outset b s p) added.0 ((d.number ∷ c.number ∷ a.number ∷ [], keeping) ∷ []) u v (led_here s p here added.0 added.1 early).begins (has.moments u was);
          told = subst (IsVault means.faults v) (ap (λ (x : CoreState). x.vault) (sym push)) has.told;
        })

    pub system_kept : (e : Sight Item) → e ≡ record c { seen = new } → SystemIs b y e
    system_kept e same = subst (SystemIs b y) (sym same) (
      sy.0,
      sy.1,
      led_now b c.seen new sy.2 may,
      λ s p here. told_here s p here added.0 added.1 early ∙ (ap (λ (x : CoreState). x.system) (sym (told_push (outset b s p) added.0 (d.number ∷ c.number ∷ a.number ∷ [], keeping))) ∙ ap (λ T. (core_told (outset b s p) T).system) (sym added.2)),
    )

    pub kept_in : (k : HeadBytes) → IsMadeOf y v k → Of b (HasKeptAll i k) new
    kept_in k made s p here =
        let o : Outset = outset b s p in
        let ks : List ℕ = d.number ∷ c.number ∷ a.number ∷ [] in
        let all = kept_all (bases_of s) p o added.0 i (led_here s p here added.0 added.1 early) (has_here s p here added.0 added.1 early) (all_here s p here added.0 added.1 early) ks in
        let new_led : IsLed (bases_of s) p o (added.0 ++ (ks, keeping) ∷ []) = subst (IsLed (bases_of s) p o) added.2 (record { begins = (va.2 s p here).led.begins; all = follow_all b new may s p here }) in
        let system : y ≡ (core_told o (added.0 ++ (ks, keeping) ∷ [])).system = told_here s p here added.0 added.1 early ∙ ap (λ (x : CoreState). x.system) (sym (told_push o added.0 (ks, keeping))) in
        let vault : IsVault means.faults v (core_told o (added.0 ++ (ks, keeping) ∷ [])).vault =
        subst (IsVault means.faults v) (ap (λ (x : CoreState). x.vault) (sym (told_push o added.0 (ks, keeping)))) (stands_here s p here added.0 added.1 early).told in
        subst (HasKeptAll i k o) (sym added.2)
        (head_kept means s p o (added.0 ++ (ks, keeping) ∷ []) i new_led all.stage all.flushed y system v vault k made)

-- the image of a vault of a run has a number below 2^62
pub number_small : {V : Type 0} (means : Ghosts V) (began : Vaulted V → Type 0) (b : Begun) (v : Vaulted V) (T : History) → Led b T → IsTold means began b v T → FromEach b (λ s p. v.current < 2 ^ 62)
number_small means began b v T led told s p here =
    let is = (led s p here).led in
    let q = stands_of (bases_of s) p (outset b s p) T is.begins is.all in
    let has = told s p here in
    (places_are_small means s has.batches q.0 v (has.at.at q.0 q.1)).1
