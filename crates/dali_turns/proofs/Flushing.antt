-- A flush of all records, made by a client of a round.
use Rattle.std.proofs.Common.{◌≡◌, ℕ, Bool, true, false, List, [], ◌∷◌, length, Option, Some, None, is_some, refl, ap, sym, subst, ◌∙◌, arith}
use Rattle.dali_record.specs.declared.records.Record.{Record}
use Rattle.dali_region.specs.State.{RegionState}
use Rattle.dali_store.specs.Store.{Files as Disk}
use Rattle.dali_store.specs.declared.store.Store.{Ghosts}
use Rattle.dali_runs.specs.declared.causes.Cause.{Cause}
use Rattle.dali_runs.specs.State.{SystemState, VaultState}
use Rattle.dali_runs.specs.Steps.{taken, store_stopped, stopped_by}
use Rattle.dali_runs.specs.Wholes.{IsWhole}
use Rattle.dali_runs.specs.Courses.{Takes, Flushes, Faults, Stops}
use Rattle.dali_crash.specs.Checkpoints.{Does, Point, target}
use Rattle.dali_crash.specs.Traces.{Start}
use Rattle.dali_core.specs.Vault.Vaulted.{Vaulted}
use Rattle.dali_core.specs.Cores.{IsWholeCore}
use Rattle.dali_core.specs.Flushed.{AllFlushed, HasStopped}
use Rattle.dali_checkpoint.proofs.Stays.{Stays, both_stay, all_copied_on, is_of_on, same_target}
use Rattle.dali_transcripts.specs.Words.{StoreFailed}
use Rattle.dali_transcripts.specs.World.{Meets, World}
use Rattle.dali_checkpoint.proofs.Calls.{both_heads}
use Rattle.dali_checkpoint.proofs.Flushing.{same_regions, tells_on}
use Rattle.dali_turns.specs.declared.client.State.{State}
use Rattle.dali_turns.specs.Stood.{IsQuiet, Stood}
use Rattle.dali_turns.specs.Others.{ImageStays}
use Rattle.dali_turns.proofs.Doing.{Did}
use Rattle.dali_turns.proofs.Coursing.{did_course}

-- rows are left
quiet_taken : (y z : SystemState) → z ≡ taken y → IsQuiet y → IsQuiet z
quiet_taken y z is quiet = subst IsQuiet (sym is) (record { unclaimed = quiet.unclaimed })

pub has_stop : (o : Option Cause) → is_some (stopped_by o) ≡ true
has_stop None = refl
has_stop (Some c) = refl

quiet_stopped : (y z : SystemState) → z ≡ store_stopped (taken y) → IsQuiet y → IsQuiet z
quiet_stopped y z is quiet = subst IsQuiet (sym is) (record { unclaimed = quiet.unclaimed })

-- a checkpoint of another client
module _ {V : Type 0} (means : Ghosts V)
    (s : Start) (B : List (List Record)) (p : Point) (gs : List RegionState) (y z : SystemState) (v u : Vaulted V) (is : z ≡ taken y) (f : AllFlushed means s p gs v z u) where
  stay : Stays p f.to
  stay = both_stay p f.to f.course

  pub flush_image : ImageStays means s B p gs y v f.batches f.to gs z u
  flush_image = record {
    flag = ap (λ (m : SystemState). m.checking) is;
    copying = λ _ c h k. record {
      at = f.at;
      flag = ap (λ (m : SystemState). m.checking) is ∙ k.flag;
      is = is_of_on p f.to c h stay k.is;
      copies = all_copied_on p f.to h (length p.log) (length f.to.log) c.copied stay stay.longer k.copies;
      under_way = f.keeps.under_way h c.copied k.under_way;
    };
    settled = λ _ c h n k. record {
      at = f.at;
      flag = ap (λ (m : SystemState). m.checking) is ∙ k.flag;
      is = is_of_on p f.to c h stay k.is;
      settled = k.settled;
      within = omega (arith, k.within, stay.longer);
      copies = same_regions p f.to h n stay k.copies;
      head = ap f.to.heads (same_target p f.to stay.current) ∙ (ap (λ heads. heads (target p)) (both_heads p f.to f.course) ∙ k.head);
      whole = f.keeps.whole k.whole;
    };
    passes = λ _ c h n b k tell. tells_on p f.to h n b f.course k.copies tell;
  }

module _ {V : Type 0} (means : Ghosts V)
    (precheck : Bool) (s : Start) (B : List (List Record)) (p : Point) (w : World) (c : ℕ) (state : State) (gs : List RegionState) (y z : SystemState) (v u : Vaulted V)
    (stood : Stood means s B p w precheck gs y v) where
  pub whole_now : IsWholeCore means.told gs y v
  whole_now = record {
    parts = λ x. same x (subst (λ (rs : List RegionState). IsWhole (record { regions = rs; system = y; vault = p.core.vault })) stood.stands.at.regions
        (subst (λ (m : SystemState). IsWhole (record { regions = p.core.regions; system = m; vault = p.core.vault })) stood.stands.at.system stood.stands.whole));
    files = stood.files;
  }
    where
      same : (x : VaultState) → IsWhole (record { regions = gs; system = y; vault = p.core.vault }) → IsWhole (record { regions = gs; system = y; vault = x })
      same x k = record { regions = k.regions; undos = k.undos; dead = k.dead; named = k.named; live = k.live }

  -- ---- Ok
  module _ (is : z ≡ taken y) (runs : u.stopped ≡ false) (whole : IsWholeCore means.told gs y v → IsWholeCore means.told gs z u) (f : AllFlushed means s p gs v z u) where
    pub did_flush : Did means precheck s B p w c state gs y v [] f.batches f.to gs z u
    did_flush = did_course means precheck s B p w gs y v stood c state (Does Takes ∷ Does Flushes ∷ []) [] f.batches f.to gs z u f.course
        (f.course.0, [], [], f.course.1, refl, tt, (f.course.2.0, [], [], f.course.2.1, refl, tt, (f.course.2.2, refl), refl), refl)
        f.at stood.stands.dead (whole whole_now).files (quiet_taken y z is stood.quiet) (λ e. let no : true ≡ false = sym e ∙ runs in absurd (cc))
        (λ t lives other. refl) (λ b other. refl) (λ flag other. flush_image means s B p gs y z v u is f)

  -- ---- a fault
  module _ (is : z ≡ store_stopped (taken y)) (stopped : u.stopped ≡ true) (whole : IsWholeCore means.told gs y v → IsWholeCore means.told gs z u) (f : HasStopped means s B p gs z u) where
    pub did_fault : Did means precheck s B p w c state gs y v (Meets StoreFailed ∷ []) B f.to gs z u
    did_fault = did_course means precheck s B p w gs y v stood c state (Does Takes ∷ Does (Faults (means.faults u.store)) ∷ Does Stops ∷ []) (Meets StoreFailed ∷ []) B f.to gs z u f.course
        (f.course.0, [], Meets StoreFailed ∷ [], f.course.1, refl, tt, (f.course.2.0, Meets StoreFailed ∷ [], [], f.course.2.1, refl, (tt, tt), (f.course.2.2.0, [], [], f.course.2.2.1, refl, tt, (f.course.2.2.2, refl), refl), refl), refl)
        f.at stood.stands.dead (whole whole_now).files (quiet_stopped y z is stood.quiet) (λ e. ap (λ (m : SystemState). is_some m.stop) is ∙ has_stop y.stop)
        (λ t lives other. refl) (λ b other. refl)
        (λ flag other. record {
          flag = ap (λ (m : SystemState). m.checking) is;
          copying = λ runs. let no : true ≡ false = sym stopped ∙ runs in absurd (cc);
          settled = λ runs. let no : true ≡ false = sym stopped ∙ runs in absurd (cc);
          passes = λ runs. let no : true ≡ false = sym stopped ∙ runs in absurd (cc);
        })
