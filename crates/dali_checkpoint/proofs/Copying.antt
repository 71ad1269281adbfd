-- The copies of a whole checkpoint, one run after another.
use Rattle.std.proofs.Common.{◌≡◌, ℕ, ◌+◌, ◌≤◌, Bool, true, false, List, length, map, drop, Option, IfSome, refl, ap, sym, subst, ◌∙◌, arith}
use Rattle.std.specs.Prelude.{is_some}
use Rattle.std.proofs.lemmas.List.{drop-drop, drop_all}
use Rattle.dali_region.specs.declared.Side.{Side}
use Rattle.dali_region.specs.State.{RegionState}
use Rattle.dali_region.specs.Answers.{cleaned}
use Rattle.dali_store.specs.Store.{Files as Disk}
use Rattle.dali_store.specs.Calls.{fewer, one_less}
use Rattle.dali_store.specs.Faults.{Rose}
use Rattle.dali_store.specs.declared.store.Store.{Ghosts}
use Rattle.dali_crash.specs.Disks.Disks.{image_name}
use Rattle.dali_crash.specs.Disks.Places.{place_of}
use Rattle.dali_core.specs.Vault.Vaulted.{Vaulted, with_store}
use Rattle.dali_core.specs.Steps.Said.{HasWritten, WriteHasFailed}
use Rattle.dali_core.specs.Cores.{HoldsPlaces}
use Rattle.dali_checkpoint.specs.Kept.{Checkpointed, side_in}
use Rattle.dali_checkpoint.specs.Done.{Reaches}
use Rattle.dali_core.specs.Cores.{IsNoShorter}
use Rattle.dali_checkpoint.specs.Runs.{is_first_dirty, run_of, runs_in, change, run_at, is_run_dirty, run_bytes, behind_run, cleaned_run}
use Rattle.dali_checkpoint.specs.Making.{hold_on, CopiesGo, CopiesFail, HasCopied, HasNotCopied}
use Rattle.dali_checkpoint.proofs.Lengths.{places_stay}
use Rattle.dali_checkpoint.proofs.Pieces.{one_if, change_none, change_length, change_then, change_all, change_map, drop_changed, runs_step}
use Rattle.dali_checkpoint.proofs.Results.{hold_cleaned}
use Rattle.dali_checkpoint.proofs.Walks.{no_calls, calls_then, one_call}
use Rattle.dali_checkpoint.proofs.Whole.{copies_none, copies_run, copies_skip, copies_fail}

module _ {V : Type 0} (means : Ghosts V) where
  -- so many calls were made for the runs so far
  pub record Counted (side : Side) (init : List RegionState) (i : ℕ) (v0 v : V) : Type 0 where
    pub made : ℕ
    pub calls : means.lets_pass v ≡ fewer made (means.lets_pass v0)
    pub rest : made + runs_in side (drop i init) ≡ runs_in side init

  pub record CopiesTo (c0 : Checkpointed) (init : List RegionState) (v0 : Vaulted V) (c : Checkpointed) (gs : List RegionState) (v : Vaulted V) : Type 0 where
    pub checkpoint : c ≡ record c0 { copied = c.copied }
    pub within : c.copied ≤ length init
    pub regions : gs ≡ change (cleaned (side_in c0)) 0 c.copied init
    pub vault : v ≡ with_store v0 v.store
    pub kept : means.faults v.store ≡ means.faults v0.store
    pub tells : is_some (means.told v.store) ≡ is_some (means.told v0.store)
    pub reaches : Reaches means.told (side_in c0) c.copied v
    pub places : IfSome (means.told v.store) (HoldsPlaces gs)
    pub counted : Counted (side_in c0) init c.copied v0.store v.store
    pub goes : CopiesGo means init v0 c0 gs v c

  pub copies_begin : (c0 : Checkpointed) (init : List RegionState) (v0 : Vaulted V) → c0.copied ≡ 0 → Reaches means.told (side_in c0) 0 v0 → IfSome (means.told v0.store) (HoldsPlaces init) → CopiesTo c0 init v0 c0 init v0
  copies_begin c0 init v0 first reaches places = record {
    checkpoint = refl;
    within = omega (arith, first);
    regions = sym (ap (λ n. change (cleaned (side_in c0)) 0 n init) first ∙ change_none (cleaned (side_in c0)) 0 init);
    vault = refl;
    kept = refl;
    tells = refl;
    reaches = subst (λ n. Reaches means.told (side_in c0) n v0) (sym first) reaches;
    places = places;
    counted = record { made = 0; calls = no_calls (means.lets_pass v0.store); rest = omega (arith, ap (λ n. runs_in (side_in c0) (drop n init)) first) };
    goes = copies_none means init v0 c0;
  }

  module _ (c0 : Checkpointed) (init : List RegionState) (v0 : Vaulted V) (c : Checkpointed) (gs : List RegionState) (v : Vaulted V) (k : CopiesTo c0 init v0 c gs v) where
    side_is : side_in c ≡ side_in c0
    side_is = ap side_in k.checkpoint

    left_is : drop c.copied gs ≡ drop c.copied init
    left_is = ap (drop c.copied) k.regions ∙ drop_changed (cleaned (side_in c0)) c.copied init

    pub copies_count : length gs ≡ length init
    copies_count = ap length k.regions ∙ change_length (cleaned (side_in c0)) 0 c.copied init

    pub copies_next : (d : Checkpointed) (hs : List RegionState) (w : Vaulted V) → d ≡ behind_run c gs → hs ≡ cleaned_run c gs → d.copied ≤ length gs → Reaches means.told (side_in c) d.copied w
        → IfSome (means.told w.store) (HoldsPlaces hs)
        → (is_run_dirty c gs ≡ false → (hs ≡ gs) × (w ≡ v))
        → (is_run_dirty c gs ≡ true → HasWritten means v (image_name (side_in c)) (place_of c.copied) (run_bytes c gs) w)
        → (is_run_dirty c gs ≡ true → means.lets_pass w.store ≡ one_less (means.lets_pass v.store))
        → CopiesTo c0 init v0 d hs w
    copies_next d hs w next cleans le reaches places clean written counts = record {
      checkpoint = next ∙ (ap (λ (e : Checkpointed). record e { copied = c.copied + run_at c gs }) k.checkpoint ∙ ap (λ n. record c0 { copied = n }) (sym copied_is));
      within = omega (arith, le, copies_count);
      regions = regions_are;
      vault = by_flag_vault (is_run_dirty c gs) refl;
      kept = by_flag_kept (is_run_dirty c gs) refl;
      tells = by_flag_tells (is_run_dirty c gs) refl;
      reaches = subst (λ side. Reaches means.told side d.copied w) side_is reaches;
      places = places;
      counted = record {
        made = k.counted.made + one_if (is_run_dirty c gs);
        calls = calls_then k.counted.made (one_if (is_run_dirty c gs)) (means.lets_pass v0.store) (means.lets_pass v.store) (means.lets_pass w.store) k.counted.calls (by_flag_calls (is_run_dirty c gs) refl);
        rest = omega (arith, k.counted.rest, one_more);
      };
      goes = subst (λ e. CopiesGo means init v0 c0 hs w e) (sym next) (by_flag_goes (is_run_dirty c gs) refl);
    }
      where
        copied_is : d.copied ≡ c.copied + run_at c gs
        copied_is = ap (λ (e : Checkpointed). e.copied) next

        run_is : run_at c gs ≡ run_of (side_in c0) (drop c.copied init)
        run_is = ap (λ side. run_of side (drop c.copied gs)) side_is ∙ ap (run_of (side_in c0)) left_is

        regions_are : hs ≡ change (cleaned (side_in c0)) 0 d.copied init
        regions_are =
            cleans
            ∙ (ap (λ side. change (cleaned side) c.copied (run_at c gs) gs) side_is
            ∙ (ap (change (cleaned (side_in c0)) c.copied (run_at c gs)) k.regions
            ∙ (change_then (cleaned (side_in c0)) c.copied (run_at c gs) init
            ∙ ap (λ n. change (cleaned (side_in c0)) 0 n init) (sym copied_is))))

        by_flag_vault : (b : Bool) → is_run_dirty c gs ≡ b → w ≡ with_store v0 w.store
        by_flag_vault true e = (written e).vault ∙ ap (λ (x : Vaulted V). with_store x w.store) k.vault
        by_flag_vault false e = (clean e).1 ∙ (k.vault ∙ ap (λ (x : Vaulted V). with_store v0 x.store) (sym (clean e).1))

        by_flag_kept : (b : Bool) → is_run_dirty c gs ≡ b → means.faults w.store ≡ means.faults v0.store
        by_flag_kept true e = (written e).ok.kept ∙ k.kept
        by_flag_kept false e = ap (λ (x : Vaulted V). means.faults x.store) (clean e).1 ∙ k.kept

        by_flag_tells : (b : Bool) → is_run_dirty c gs ≡ b → is_some (means.told w.store) ≡ is_some (means.told v0.store)
        by_flag_tells true e = (written e).ok.tells ∙ k.tells
        by_flag_tells false e = ap (λ (x : Vaulted V). is_some (means.told x.store)) (clean e).1 ∙ k.tells

        by_flag_calls : (b : Bool) → is_run_dirty c gs ≡ b → means.lets_pass w.store ≡ fewer (one_if b) (means.lets_pass v.store)
        by_flag_calls true e = counts e ∙ one_call (means.lets_pass v.store)
        by_flag_calls false e = ap (λ (x : Vaulted V). means.lets_pass x.store) (clean e).1 ∙ no_calls (means.lets_pass v.store)

        flag_is : is_run_dirty c gs ≡ is_first_dirty (side_in c0) (drop c.copied init)
        flag_is = ap (λ side. is_first_dirty side (drop c.copied gs)) side_is ∙ ap (is_first_dirty (side_in c0)) left_is

        behind_is : drop (run_of (side_in c0) (drop c.copied init)) (drop c.copied init) ≡ drop d.copied init
        behind_is = ap (λ n. drop n (drop c.copied init)) (sym run_is) ∙ (drop-drop (run_at c gs) c.copied init ∙ ap (λ n. drop n init) (sym copied_is))

        one_more : runs_in (side_in c0) (drop c.copied init) ≡ one_if (is_run_dirty c gs) + runs_in (side_in c0) (drop d.copied init)
        one_more =
            runs_step (side_in c0) (drop c.copied init)
            ∙ (ap (λ b. one_if b + runs_in (side_in c0) (drop (run_of (side_in c0) (drop c.copied init)) (drop c.copied init))) (sym flag_is)
            ∙ ap (λ l. one_if (is_run_dirty c gs) + runs_in (side_in c0) l) behind_is)

        by_flag_goes : (b : Bool) → is_run_dirty c gs ≡ b → CopiesGo means init v0 c0 hs w (behind_run c gs)
        by_flag_goes true e =
            subst (λ (l : List RegionState). CopiesGo means init v0 c0 l w (behind_run c gs)) (sym cleans)
            (copies_run means init gs v0 v w c0 c k.goes e (written e))
        by_flag_goes false e =
            subst (λ (l : List RegionState). CopiesGo means init v0 c0 l w (behind_run c gs)) (sym (clean e).0)
            (subst (λ (x : Vaulted V). CopiesGo means init v0 c0 gs x (behind_run c gs)) (sym (clean e).1)
            (copies_skip means init gs v0 v c0 c k.goes e
            (subst (λ (x : Vaulted V). Reaches means.told (side_in c) (c.copied + run_at c gs) x) (clean e).1 (subst (λ n. Reaches means.told (side_in c) n w) copied_is reaches))))

    -- where its write fails it is as it was
    pub copies_stop : (d : Checkpointed) (hs : List RegionState) (w : Vaulted V) → hs ≡ gs → d ≡ record c { faulted = true } → IsNoShorter means.told v w
        → WriteHasFailed means v (image_name (side_in c)) (place_of c.copied) (length (run_bytes c gs)) w
        → HasNotCopied means c0 init v0 d hs w
    copies_stop d hs w left failing longer failed = record {
      faulted = ap (λ (x : Checkpointed). x.faulted) failing;
      stopped = ap (λ (x : Vaulted V). x.stopped) failed.vault;
      current = ap (λ (x : Vaulted V). x.current) failed.vault ∙ ap (λ (x : Vaulted V). x.current) k.vault;
      rose = subst (λ n. Rose n (means.faults w.store)) k.kept failed.rose;
      places = subst (λ (l : List RegionState). IfSome (means.told w.store) (HoldsPlaces l)) (sym left) (places_stay (means.told v.store) (means.told w.store) gs longer k.places);
      holds = ap (map hold_on) (left ∙ k.regions) ∙ change_map (cleaned (side_in c0)) hold_on (hold_cleaned (side_in c0)) 0 c.copied init;
      fails = subst (λ (l : List RegionState). CopiesFail means init v0 c0 l w) (sym left) (copies_fail means init gs v0 v w c0 c k.goes failed);
    }

    -- behind the last one
    pub copies_end : length gs ≤ c.copied → HasCopied means c0 init v0 c gs v
    copies_end all = record {
      checkpoint = k.checkpoint ∙ ap (λ n. record c0 { copied = n }) end;
      regions = k.regions ∙ (ap (λ n. change (cleaned (side_in c0)) 0 n init) end ∙ change_all (cleaned (side_in c0)) init);
      vault = k.vault;
      kept = k.kept;
      tells = k.tells;
      reaches = subst (λ n. Reaches means.told (side_in c0) n v) end k.reaches;
      places = k.places;
      calls = k.counted.calls ∙ ap (λ n. fewer n (means.lets_pass v0.store)) made_all;
      goes = k.goes;
    }
      where
        end : c.copied ≡ length init
        end = omega (arith, all, k.within, copies_count)

        none : runs_in (side_in c0) (drop c.copied init) ≡ 0
        none = ap (runs_in (side_in c0)) (drop_all c.copied init (omega (arith, end)))

        made_all : k.counted.made ≡ runs_in (side_in c0) init
        made_all = omega (arith, k.counted.rest, none)
