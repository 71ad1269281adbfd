-- What a client does keeps what a world tells, whatever the step is by which it does it.
use Rattle.std.proofs.Common.{◌≡◌, ℕ, zero, suc, ◌<◌, List, [], ◌∷◌, ◌++◌, length, Some, None, refl, ap, sym, subst, ◌∙◌, ◌⊎◌, inl, inr, arith}
use Rattle.std.specs.Prelude.{fold, is_some, slice_get, take}
use Rattle.std.proofs.lemmas.List.{append_assoc, take-append-le, length-append}
use Rattle.std.proofs.lemmas.List.Elements.{filter_map-append}
use Rattle.std.proofs.lemmas.List.Sums.{fold-append}
use Rattle.dali_runs.proofs.CountsLemmas.Lists.{some_same}
use Rattle.dali_record.specs.declared.records.Record.TheVariants.{AuditBegin}
use Rattle.dali_runs.specs.State.{CoreState}
use Rattle.dali_runs.specs.Passes.{Pass, Audits}
use Rattle.dali_crash.specs.Checkpoints.{Point}
use Rattle.dali_transcripts.specs.World.{Deed, World, IsLogged, record_of, logged_by, log_of, span_step, stray_after, under_way, Grows}
use Rattle.dali_transcripts.specs.Causes.{AreRightFrom}
use Rattle.dali_transcripts.specs.Rounds.{by, HoldsTogether}
use Rattle.dali_transcripts.specs.Together.{Owes, HasKept}
use Rattle.dali_transcripts.proofs.Together.{together_by_deed, together_by_none}
use Rattle.dali_transcripts.proofs.Grown.{Onward as CoreOnward, plain as plain_core, grown, grows_on}
use Rattle.dali_transcripts.proofs.Growing.{right_goes_on}
use Rattle.dali_transcripts.specs.Telling.Tells.{after, AreRightThen, WasPassed, PassesAreTold, Tells, Goes}

-- ---- a core that goes on
pub record Onward (c d : CoreState) : Type 0 where
  pub core : CoreOnward c d
  pub count : length d.regions ≡ length c.regions

-- its stop and refusals, and the vault, as they were
pub plain : (c d : CoreState) → d.system.sizes ≡ c.system.sizes → d.system.limit ≡ c.system.limit → d.system.first ≡ c.system.first → d.system.stop ≡ c.system.stop
    → d.system.refusals ≡ c.system.refusals → d.vault ≡ c.vault → length d.regions ≡ length c.regions → Onward c d
plain c d sizes limit first stop refusals vault count = record { core = plain_core c d sizes limit first stop refusals vault; count = count }

pub grows : (w : World) (c : ℕ) (ds : List Deed) (d : CoreState) → Onward w.core d → (g : Grows w (after w c ds d)) × (g.more ≡ by c ds)
unfolding grown
grows w c ds d on = (grown w (by c ds) d on.core, refl)

-- ---- lists
pub push_cases : {X : Type 0} (xs : List X) (z : X) (i : ℕ) (y : X) → slice_get (xs ++ z ∷ []) i ≡ Some y → (slice_get xs i ≡ Some y) ⊎ (z ≡ y)
push_cases [] z zero y e = inr (some_same e)
push_cases [] z (suc i) y e = absurd (cc)
push_cases (x ∷ xs) z zero y e = inl e
push_cases (x ∷ xs) z (suc i) y e = push_cases xs z i y e

pub push_before : {X : Type 0} (xs : List X) (z : X) (i : ℕ) (y : X) → (i ≡ length xs → ⊥) → slice_get (xs ++ z ∷ []) i ≡ Some y → slice_get xs i ≡ Some y
push_before [] z zero y apart e = absurd (apart refl)
push_before [] z (suc i) y apart e = absurd (cc)
push_before (x ∷ xs) z zero y apart e = e
push_before (x ∷ xs) z (suc i) y apart e = push_before xs z i y (λ f. apart (omega (arith, f))) e

module _ (w : World) (c : ℕ) (ds : List Deed) (d : CoreState) where
  pub log_is : log_of (after w c ds d) ≡ log_of w ++ logged_by (by c ds)
  log_is = ap (λ l. w.before ++ l) (filter_map-append record_of w.happened (by c ds)) ∙ sym (append_assoc w.before (logged_by w.happened) (logged_by (by c ds)))

  under_is : under_way (after w c ds d).happened ≡ fold span_step (under_way w.happened) (by c ds)
  under_is = fold-append span_step None w.happened (by c ds)

  -- ---- what was passed stays so
  pub passed_on : (b : ℕ) (x : Pass) → WasPassed w b x → WasPassed (after w c ds d) b x
  passed_on b x h = record {
    place = h.place;
    within = omega (arith, h.within, length-append w.happened (by c ds));
    behind = subst (λ l. b < length (w.before ++ logged_by l)) (sym took) h.behind;
    answer = λ g at. h.answer g at ∙ ap (stray_after x.region g.stray) (sym took);
  }
    where
      took : take h.place (w.happened ++ by c ds) ≡ take h.place w.happened
      took = take-append-le h.place w.happened (by c ds) h.within

  -- no audit has begun
  pub passes_on : (A : Audits) → ((b : ℕ) → IsLogged (after w c ds d) b AuditBegin → IsLogged w b AuditBegin) → PassesAreTold w A → PassesAreTold (after w c ds d) A
  passes_on A began told b i x since is at = passed_on b x (told b i x since (began b is) at)

-- ---- what is told at a point
module _ (w : World) (c : ℕ) (p q : Point) (told : Tells w p) where
  pub goes_by : (ds : List Deed) (d : CoreState) → q.core ≡ d → Onward w.core d → q.log ≡ p.log ++ logged_by (by c ds) → HoldsTogether (after w c ds d)
      → d.system.checking ≡ is_some (fold span_step (under_way w.happened) (by c ds)) → PassesAreTold (after w c ds d) q.audits → AreRightThen w c ds q.core
      → Goes w c p ds (after w c ds q.core) q
  goes_by ds d is on log together flag passes right =
      let g = grows w c ds q.core (subst (λ k. Onward w.core k) (sym is) on) in
      record {
        is = refl;
        grows = g.0;
        more = g.1;
        tells = record {
          core = refl;
          log = log ∙ ap (λ l. l ++ logged_by (by c ds)) told.log ∙ sym (log_is w c ds q.core);
          grew = (grows_on.further (record w { happened = []; core = w.old }) w (after w c ds q.core) told.grew g.0).0;
          count = ap (λ (k : CoreState). length k.regions) is ∙ (on.count ∙ told.count);
          together = subst (λ k. HoldsTogether (after w c ds k)) (sym is) together;
          flag = ap (λ (k : CoreState). k.system.checking) is ∙ (flag ∙ ap is_some (sym (under_is w c ds q.core)));
          passes = subst (λ k. PassesAreTold (after w c ds k) q.audits) (sym is) passes;
          right = right_goes_on w (after w c ds q.core) g.0 told.right (subst (λ xs. AreRightFrom (after w c ds q.core) (length w.happened) xs) (sym g.1) right);
        };
      }

  pub by_deed : (x : Deed) (d : CoreState) → Onward w.core d → Owes w (after w c (x ∷ []) d) c x → HoldsTogether (after w c (x ∷ []) d)
  by_deed x d on o = let g = grows w c (x ∷ []) d on in together_by_deed w (after w c (x ∷ []) d) c x g.0 g.1 told.together o

  pub by_none : (d : CoreState) → Onward w.core d → HasKept w (after w c [] d) → HoldsTogether (after w c [] d)
  by_none d on kept = let g = grows w c [] d on in together_by_none w (after w c [] d) g.0 g.1 told.together kept
