-- The core over a log that was just formatted is whole, and a run begins with it.
use Rattle.std.proofs.Common.{inl, inr, ⊎_elim, ◌≡◌, ℕ, ◌+◌, ◌<◌, ◌≤◌, true, false, List, [], ◌∷◌, ◌++◌, Some, None, Option, IfSome, length, take, refl, ap, sym, subst, ◌∙◌, arith, length-append}
use Rattle.std.proofs.Common.{get_or}
use Rattle.std.specs.Prelude.{is_some, Result, Ok, Err, IfOk}
use Rattle.dali_store.specs.declared.store.StoreFault.{StoreFault}
use Rattle.std.proofs.lemmas.List.{length-map, take_more, take_all, get_or-map}
use Rattle.dali_geometry.specs.Sizes.{Sizes}
use Rattle.dali_geometry.specs.Places.{regions, formatted, formatted_image}
use Rattle.dali_geometry.proofs.Regions.{region_is_formatted, length_formatted}
use Rattle.dali_bytes.specs.Fields.{number32}
use Rattle.dali_bytes.proofs.Numbers.{length-number32}
use Rattle.dali_record.specs.Spelling.{CanBeSpelled}
use Rattle.dali_record.specs.Legal.{passes, rules_start, Rules}
use Rattle.dali_region.specs.State.{RegionState, loaded}
use Rattle.dali_region.specs.Answers.{is_dirty}
use Rattle.dali_store.specs.Store.{Files as Disk, LeavesOnly}
use Rattle.dali_store.proofs.Moments.{moved, joins, if_some_with}
use Rattle.dali_store.specs.declared.store.Store.{Ghosts}
use Rattle.dali_log.proofs.Finds.{if_some_two, if_some_same}
use Rattle.dali_log.specs.Reads.{OnlyReads}
use Rattle.dali_log.specs.Appending.{next_place}
use Rattle.dali_log.specs.Batch.{batch, IsClosedAt, IsUnformatted}
use Rattle.dali_log.specs.Formatting.{FormatLeaves, IsFormattedBy}
use Rattle.dali_runs.specs.State.{VaultState}
use Rattle.dali_runs.specs.Loads.{IsAtRest}
use Rattle.dali_runs.proofs.WholeSteps.{load_is_whole}
use Rattle.dali_runs.proofs.Loads.{format_rests}
use Rattle.dali_system.specs.Served.{Served}
use Rattle.dali_crash.specs.Traces.{Start, start_point, MayRun}
use Rattle.dali_crash.proofs.Courses.{format_is_history}
use Rattle.dali_crash.proofs.Starts.{lawful}
use Rattle.dali_crash.proofs.StoreStarts.{all_dirty}
use Rattle.dali_crash.proofs.Traces.{bare_start_runs}
use Rattle.dali_log.specs.Anchors.{AreAnchored}
use Rattle.dali_crash.specs.Disks.Bridges.{IsNewVault}
use Rattle.dali_crash.proofs.DisksLemmas.Bridges.{format_starts}
use Rattle.dali_crash.proofs.DisksLemmas.NewFiles.{start_reads}
use Rattle.dali_core.specs.Vault.Vaulted.{Vaulted}
use Rattle.dali_core.specs.Vault.Stepped.{vault_in}
use Rattle.dali_core.specs.Steps.At.{IsAt}
use Rattle.dali_core.specs.Cores.{IsWholeCore}
use Rattle.dali_restart.specs.Formatted.{first_record, first_body, formatted_regions, first_system, IsNewCore, MakesAtAnyMoment, first_at, RunBegins}

-- ---- the first batch
pub body_length : (s : Sizes) → length (first_body s) ≡ 10
body_length s = omega (arith, length-append (number32 s.index) (number32 s.heap), length-number32 s.index, length-number32 s.heap)

pub few_bytes : (s : Sizes) (frame bytes : List ℕ) → bytes ≡ first_body s → frame ≡ [] → length frame + length bytes ≤ 1073741824
few_bytes s frame bytes is empty = omega (arith, ap length empty, ap length is, body_length s)

pub first_end : (s : Sizes) → next_place 0 (first_body s ∷ []) ≡ 15
first_end s =
    omega (arith, length-append (batch (first_body s)) [], length-append (number32 (length (first_body s))) (first_body s), length-number32 (length (first_body s)), body_length s)

pub ends_at : (s : Sizes) (body : List ℕ) (r : Result ℕ StoreFault) → body ≡ first_body s → IfOk r (λ n. n ≡ next_place 0 (body ∷ [])) → IfOk r (λ n. n ≡ 15)
ends_at s body (Ok n) is e = e ∙ ap (λ (b : List ℕ). next_place 0 (b ∷ [])) is ∙ first_end s
ends_at s body (Err fault) is e = tt

pub some_bytes : (s : Sizes) (body : List ℕ) → body ≡ first_body s → 0 < length body
some_bytes s body is = omega (arith, ap length is, body_length s)

-- ---- the regions
pub one_words : (s : Sizes) (n : ℕ) (old new : List (List ℕ)) → n < regions s → old ≡ take n (formatted_image s) → new ≡ old ++ formatted s n ∷ []
    → new ≡ take (n + 1) (formatted_image s)
one_words s n old new lt here is =
    let inside : n < length (formatted_image s) = omega (arith, length_formatted s, lt) in
    is ∙ (ap (λ (l : List (List ℕ)). l ++ formatted s n ∷ []) here
    ∙ sym (take_more (formatted_image s) n [] inside ∙ ap (λ (ws : List ℕ). take n (formatted_image s) ++ ws ∷ []) (region_is_formatted s n lt)))

pub one_region : (s : Sizes) (n : ℕ) (old new : List RegionState) → n < regions s → old ≡ take n (formatted_regions s)
    → new ≡ old ++ loaded (formatted s n) ∷ [] → new ≡ take (n + 1) (formatted_regions s)
one_region s n old new lt here is =
    let many : n < length (formatted_image s) = omega (arith, length_formatted s, lt) in
    let inside : n < length (formatted_regions s) = omega (arith, length-map (formatted_image s) loaded, many) in
    let word : get_or (formatted_regions s) n (loaded []) ≡ loaded (formatted s n) =
    get_or-map loaded (formatted_image s) n [] (loaded []) many ∙ ap loaded (region_is_formatted s n lt) in
    is ∙ (ap (λ (l : List RegionState). l ++ loaded (formatted s n) ∷ []) here
    ∙ sym (take_more (formatted_regions s) n (loaded []) inside ∙ ap (λ (g : RegionState). take n (formatted_regions s) ++ g ∷ []) word))

pub all_words : (s : Sizes) (n : ℕ) (words : List (List ℕ)) → regions s ≤ n → words ≡ take n (formatted_image s) → words ≡ formatted_image s
all_words s n words le is = is ∙ take_all n (formatted_image s) (omega (arith, length_formatted s, le))

pub all_regions : (s : Sizes) (n : ℕ) (gs : List RegionState) → regions s ≤ n → gs ≡ take n (formatted_regions s) → gs ≡ formatted_regions s
all_regions s n gs le is = is ∙ take_all n (formatted_regions s) (omega (arith, length-map (formatted_image s) loaded, length_formatted s, le))

-- ---- the core
pub is_new :
    {V : Type 0} (s : Sizes) (limit : ℕ) (gs : List RegionState) (y : Served) (store : V) (end : ℕ) (v : Vaulted V) → gs ≡ formatted_regions s
    → y ≡ first_system s limit → end ≡ 15
    → v ≡ record { store = store; end = end; flushed = 0; current = 0; stopped = false }
    → IsNewCore s limit gs y v
is_new s limit gs y store end v regions system is made = record {
  regions = regions;
  system = system;
  vault = λ i. record { store = v.store; end = (ap (λ (w : Vaulted _). w.end) made ∙ is) i; flushed = ap (λ (w : Vaulted _). w.flushed) made i; current = ap (λ (w : Vaulted _). w.current) made i; stopped = ap (λ (w : Vaulted _). w.stopped) made i };
}

module _ {V : Type 0} (told : V → Option Disk) where
  pub is_whole : (s : Sizes) (limit : ℕ) (gs : List RegionState) (y : Served) (v : Vaulted V) → IsNewCore s limit gs y v → IsWholeCore told gs y.state v
  is_whole s limit gs y v new = subst (λ (rs : List RegionState). IsWholeCore told rs y.state v) (sym new.regions) (subst (λ (z : Served). IsWholeCore told (formatted_regions s) z.state v) (sym new.system) whole)
    where
      first : Rules
      first = passes rules_start (first_record s)

      every : (o : Option Disk) (P : Disk → Type 0) → ((fs : Disk) → P fs) → IfSome o P
      every None P all = tt
      every (Some fs) P all = all fs

      whole : IsWholeCore told (formatted_regions s) (first_system s limit).state v
      whole = record {
        parts = λ u. load_is_whole s (formatted_image s) first limit u (length_formatted s);
        files = every (told v.store) _ (λ fs side r g at clean. let dirty : is_dirty g side ≡ true = all_dirty (formatted_image s) r g side at in absurd (cc));
      }

module _ {V : Type 0} (means : Ghosts V) where
  pub run_begins :
      (s : Sizes) (limit : ℕ) (gs : List RegionState) (y : Served) (store : V) (end : ℕ) (v : Vaulted V) (old : V) → IsNewCore s limit gs y v
      → v ≡ record { store = store; end = end; flushed = 0; current = 0; stopped = false } → limit ≤ 268435456
      → CanBeSpelled (first_record s) → is_some (means.told store) ≡ is_some (means.told old)
      → IfSome (means.told old) (λ _. (c : Disk) → means.may_leave store c → IsFormattedBy (means.may_leave old) (first_body s) c)
      → RunBegins means s limit gs y.state v
  run_begins s limit gs y store end v old new made fits can told_then left words heads synced = record {
    regions = sym new.regions;
    system = ap (λ (z : Served). z.state) (sym new.system);
    vault = at;
    none_in_hand = λ runs. ap (λ (w : Vaulted V). w.flushed) new.vault ∙ ap (λ (z : Served). z.state.taken) (sym new.system);
  }
    where
      start : Start
      start = first_at means s limit v words heads synced

      u : VaultState
      u = vault_in means.faults (means.faults v.store) v

      rests : IsAtRest s (first_record s ∷ []) (passes rules_start (first_record s))
      rests = format_rests s can

      is_new : IsNewVault u
      is_new = record {
        runs = ap (λ (w : Vaulted V). w.stopped) new.vault;
        flushed = ap (λ (w : Vaulted V). w.flushed) new.vault;
        faults = omega arith;
        faults_fit = omega arith;
        end = ap (λ (w : Vaulted V). w.end) new.vault;
        current = ap (λ (w : Vaulted V). w.current) new.vault;
      }

      may_run : MayRun (first_record s ∷ []) u
      may_run = record {
        runs = is_new.runs;
        flushed = is_new.flushed;
        faults = is_new.faults;
        faults_fit = is_new.faults_fit;
        short = omega (arith, is_new.end);
        moved = omega (arith, is_new.current);
      }

      every : (o : Option Disk) (P : Disk → Type 0) → ((fs : Disk) → P fs) → IfSome o P
      every None P all = tt
      every (Some fs) P all = all fs

      here : store ≡ v.store
      here = sym (ap (λ (w : Vaulted V). w.store) made)

      tells : is_some (means.told v.store) ≡ is_some (means.told old)
      tells = subst (λ (w : V). is_some (means.told w) ≡ is_some (means.told old)) here told_then

      formatted : IfSome (means.told old) (λ _. (c : Disk) → means.may_leave v.store c → IsFormattedBy (means.may_leave old) (first_body s) c)
      formatted = subst (λ (w : V). IfSome (means.told old) (λ _. (c : Disk) → means.may_leave w c → IsFormattedBy (means.may_leave old) (first_body s) c)) here left

      at : IsAt means start ((first_record s ∷ []) ∷ []) (start_point start) v
      at = record {
        run = bare_start_runs start (lawful (first_record s ∷ []) (format_is_history s can)) rests.rules refl fits may_run;
        vault = record { stopped = refl; end = refl; flushed = refl; current = refl; counted = refl };
        files = moved _ (means.told old) (means.told v.store) tells formatted (λ all. format_starts (means.may_leave old) (means.may_leave v.store) s.index s.heap (passes rules_start (first_record s)) limit u words heads synced can rests.rules fits is_new all);
        reads = λ runs. every (means.told v.store) _ (λ fs. start_reads start fs);
      }

-- ---- its vault
closed_gate : (may : Disk → Type 0) (s : Sizes) (c : Disk) → IsFormattedBy may (first_body s) c → IsClosedAt 15 c.log
closed_gate may s c is = subst (λ n. IsClosedAt n c.log) (first_end s) is.log.closed

module _ {V : Type 0} (told : V → Option Disk) (may_leave : V → Disk → Type 0) where
  pub is_closed :
      (s : Sizes) (old new : V) (end : ℕ) → end ≡ 15 → is_some (told new) ≡ is_some (told old)
      → IfSome (told old) (λ _. (c : Disk) → may_leave new c → IsFormattedBy (may_leave old) (first_body s) c)
      → IfSome (told new) (λ _. (c : Disk) → may_leave new c → IsClosedAt end c.log)
  is_closed s old new end is tells formatted =
      moved _ (told old) (told new) tells formatted (λ all c left. subst (λ n. IsClosedAt n c.log) (sym is) (closed_gate (may_leave old) s c (all c left)))

  pub is_anchored :
      (s : Sizes) (old new : V) → is_some (told new) ≡ is_some (told old)
      → IfSome (told old) (λ _. (c : Disk) → may_leave new c → IsFormattedBy (may_leave old) (first_body s) c)
      → IfSome (told new) (λ _. AreAnchored (may_leave new) 0)
  is_anchored s old new tells formatted =
      moved _ (told old) (told new) tells formatted (λ all c left. record { gates = λ i lt. absurd (omega (arith, lt)); closed = (all c left).anchor })

-- ---- what a crash leaves
module _ {V : Type 0} (told : V → Option Disk) (may_leave : V → Disk → Type 0) (moment : V → ℕ) (left_since : V → ℕ → Disk → Type 0) where
  weaker : (old new : V) (P Q : Disk → Type 0) → ((c : Disk) → P c → Q c) → LeavesOnly moment left_since old new P → LeavesOnly moment left_since old new Q
  weaker old new P Q f l = record {
    later = l.later;
    each = λ c left. f c (l.each c left);
    before = λ t c le left. ⊎_elim (λ past. inl past) (λ p. inr (f c p)) (l.before t c le left);
  }

  among : (o : Option Disk) (P : Disk → Type 0) → ((fs : Disk) → P fs) → IfSome o P
  among None P all = tt
  among (Some fs) P all = all fs

  pub only_read : (s : Sizes) (old new : V) → OnlyReads told moment left_since may_leave old new → MakesAtAnyMoment told may_leave moment left_since s old new
  only_read s old new reads = among (told old) _ (λ fs. weaker old new (may_leave old) _ (λ c p. inl p) reads.any_moment)

  leaves_on : (s : Sizes) (old mid : V) → OnlyReads told moment left_since may_leave old mid → (c : Disk)
      → FormatLeaves (may_leave mid) (first_body s) c → FormatLeaves (may_leave old) (first_body s) c
  leaves_on s old mid reads c p = record { others = (p.others.0, reads.crash p.others.0 p.others.1, p.others.2, p.others.3, p.others.4); log = p.log }

  formatted_on : (s : Sizes) (old mid : V) → OnlyReads told moment left_since may_leave old mid → (c : Disk)
      → IsFormattedBy (may_leave mid) (first_body s) c → IsFormattedBy (may_leave old) (first_body s) c
  formatted_on s old mid reads c p = record { others = (p.others.0, reads.crash p.others.0 p.others.1, p.others.2, p.others.3, p.others.4); anchor = p.anchor; log = p.log }

  pub then_written :
      (s : Sizes) (old mid new : V) → OnlyReads told moment left_since may_leave old mid → IfSome (told old) (λ fs. IsUnformatted fs.log)
      → IfSome (told mid) (λ _. LeavesOnly moment left_since mid new (FormatLeaves (may_leave mid) (first_body s)))
      → MakesAtAnyMoment told may_leave moment left_since s old new
  then_written s old mid new reads un second =
      if_some_two (λ fs. IsUnformatted fs.log) _ _ (told old) un (if_some_same _ (told old) (told mid) reads.same second)
      (λ fs no two. joins moment left_since old mid new (may_leave old) (FormatLeaves (may_leave mid) (first_body s)) _ reads.any_moment two (λ c p. inl p) (λ c p. inr (no, leaves_on s old mid reads c p)))

  pub then_formatted :
      (s : Sizes) (old mid new : V) → OnlyReads told moment left_since may_leave old mid
      → IfSome (told mid) (λ _. (c : Disk) → may_leave new c → IsFormattedBy (may_leave mid) (first_body s) c)
      → IfSome (told old) (λ _. (c : Disk) → may_leave new c → IsFormattedBy (may_leave old) (first_body s) c)
  then_formatted s old mid new reads all =
      if_some_with _ (told old) (λ f c left. formatted_on s old mid reads c (f c left)) (if_some_same _ (told old) (told mid) reads.same all)
