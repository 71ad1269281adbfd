-- A core that was just made stands where a round may begin.
use Rattle.std.proofs.Common.{◌≡◌, ℕ, zero, suc, true, false, List, [], ◌∷◌, map, Option, Some, None, is_some, refl, ap, sym, subst, ◌∙◌, inl, nat_cmp}
use Rattle.std.specs.Prelude.{IfSome, IsSomeAnd, slice_get}
use Rattle.std.specs.FinMap.{get-empty}
use Rattle.dali_record.specs.declared.records.Record.{Record}
use Rattle.dali_record.specs.Legal.{sizes_of}
use Rattle.dali_region.specs.declared.Hold.{Hold}
use Rattle.dali_region.specs.State.{RegionState, IsLive, loaded}
use Rattle.dali_history.specs.Recovered.{recovered}
use Rattle.dali_store.specs.declared.store.Store.{Ghosts}
use Rattle.dali_runs.specs.State.{SystemState, CoreState, TxnRow, row_of, state_in}
use Rattle.dali_runs.specs.Wholes.{IsWhole}
use Rattle.dali_crash.specs.Traces.{Start, start_point}
use Rattle.dali_core.specs.Vault.Vaulted.{Vaulted}
use Rattle.dali_core.specs.Cores.{IsWholeCore, IsCoreAt}
use Rattle.dali_restart.specs.Rise.Risen.{start_at}
use Rattle.dali_transcripts.specs.World.{is_claimed_in}
use Rattle.dali_round.specs.Leads.{BeginsAt}
use Rattle.dali_run.specs.Chain.{FormatBegins, RestartBegins}

-- ---- regions as they are loaded
no_hold : (ws : List (List ℕ)) (r : ℕ) (g : RegionState) → slice_get (map loaded ws) r ≡ Some g → g.hold ≡ None
no_hold [] r g e = absurd (cc)
no_hold (w ∷ ws) zero g e = by_same (loaded w) g e refl
  where
    by_same : (h k : RegionState) → Some h ≡ Some k → h.hold ≡ None → k.hold ≡ None
    by_same h k same none = subst (λ (o : Option RegionState). IfSome o (λ (j : RegionState). j.hold ≡ None)) same none
no_hold (w ∷ ws) (suc r) g e = no_hold ws r g e

dead_hold : (o : Option Hold) → o ≡ None → IfSome o (λ (h : Hold). h.dead ≡ true)
dead_hold None e = tt
dead_hold (Some h) e = absurd (cc)

not_live : (g : RegionState) → g.hold ≡ None → IsLive g → ⊥
not_live g e live = by_hold g.hold e live
  where
    by_hold : (o : Option Hold) → o ≡ None → IsSomeAnd o (λ (h : Hold). h.dead ≡ false) → ⊥
    by_hold None e live = absurd live
    by_hold (Some h) e live = absurd (cc)

module _ {V : Type 0} (g : Ghosts V) where
  pub made_begins : (s : Start) (B : List (List Record)) (gs : List RegionState) (y : SystemState) (v : Vaulted V) → IsCoreAt g s B (start_point s) gs y v → IsWholeCore g.told gs y v → v.stopped ≡ false
      → BeginsAt g s B (start_point s) gs y v
  made_begins s B gs y v at whole runs = record {
    stands = record { at = at; whole = whole_there; dead = λ r x e. dead_hold x.hold (none_at r x (at.regions ∙ refl) e) };
    files = whole.files;
    keeps = λ e. absurd (cc);
    between = record {
      rests = record {
        stopped = λ e. let no_way : true ≡ false = sym e ∙ (at.vault.vault.stopped ∙ runs) in absurd (cc);
        holds = λ r x e. not_live x (no_hold (recovered (sizes_of s.log) s.log) r x e);
        flag = refl;
        free = λ t. ap (λ (o : Option TxnRow). is_claimed_in (state_in o)) (no_row t);
      };
      idle = λ up t some. let no_way : false ≡ true = ap is_some (sym (no_row t)) ∙ some in absurd (cc);
    };
  }
    where
      none_at : (r : ℕ) (x : RegionState) → map loaded (recovered (sizes_of s.log) s.log) ≡ gs → slice_get gs r ≡ Some x → x.hold ≡ None
      none_at r x same e = no_hold (recovered (sizes_of s.log) s.log) r x (subst (λ l. slice_get l r ≡ Some x) (sym same) e)

      no_row : (t : ℕ) → row_of (start_point s).core.system t ≡ None
      no_row t = get-empty nat_cmp t

      whole_there : IsWhole (start_point s).core
      whole_there =
          subst (λ (c : CoreState). IsWhole c)
          (ap (λ l. record { regions = l; system = y; vault = (start_point s).core.vault }) (sym at.regions) ∙ ap (λ (m : SystemState). record { regions = (start_point s).core.regions; system = m; vault = (start_point s).core.vault }) (sym at.system))
          (whole.parts (start_point s).core.vault)

  pub format_begins : FormatBegins g
  format_begins s limit gs y v new whole begins words heads synced = (
    made_begins _ _ gs y.state v (begins words heads synced) whole (ap (λ (w : Vaulted V). w.stopped) new.vault),
    inl (ap (λ (w : Vaulted V). w.current) new.vault),
  )

  pub restart_begins : RestartBegins g
  restart_begins limit fs F gs y v fresh whole begins spells finds words heads synced =
      let from = begins F spells finds in
      record {
        start = start_at g from.log from.rules limit v words heads synced;
        log = from.goes_on;
        history = from.history;
        limit_is = refl;
        images = (refl, refl, refl);
        placed = from.begun;
        batches = from.batches;
        begins = made_begins _ from.batches gs y.state v (from.begins words heads synced) whole (ap (λ (w : Vaulted V). w.stopped) fresh.risen.vault);
      }
