-- Files that fit a log at rest, and behind whose image no record stands or Restarted alone.
use Rattle.std.proofs.Common.{◌≡◌, ℕ, ◌+◌, ◌≤◌, ◌<◌, List, [], ◌∷◌, ◌++◌, length, Some, None, refl, ap, sym, subst, ◌∙◌, inl, inr, ⊎_elim, arith}
use Rattle.std.specs.Prelude.{◌⊎◌, Option, IsSome, unwrap_or}
use Rattle.dali_geometry.specs.Sizes.{Sizes}
use Rattle.dali_record.specs.declared.records.Record.{Record}
use Rattle.dali_record.specs.declared.records.Record.TheVariants.{Format, Begin, Forward, Done, Commit, Ended, Solo, AuditBegin, AuditClean, AuditFail, Restarted, Back}
use Rattle.dali_record.specs.Log.{last_of}
use Rattle.dali_record.specs.Epochs.{Epoch, Cut, next_number, cut_step, cut, last_epoch, recovered_or, recovered_epoch}
use Rattle.dali_record.specs.Legal.{sizes_of, Rules, rules_state}
use Rattle.dali_record.proofs.Ends.{by_push, last_of_push}
use Rattle.dali_record.proofs.Pushes.{cut_push}
use Rattle.dali_record.proofs.EpochRules.{format_first, rules_before}
use Rattle.dali_record.proofs.Batches.{number_is_length}
use Rattle.dali_crash.proofs.Fitting.{ends_there}
use Rattle.dali_crash.specs.Traces.{FitsAtLast}

-- the last epoch begins behind the record that closed the one before it
abbrev IsLinked : Cut → Type 0
IsLinked c = (c.closed ≡ []) ⊎ ((d : Epoch) × (last_of c.closed ≡ Some d) × (c.now.first ≡ next_number d + 1))

abbrev Links : Sizes → List Record → Type 0
Links s L = (g : Rules) → rules_state s L ≡ Some g → IsLinked (cut L)

links : (s : Sizes) (L : List Record) → Links s L
links s = by_push (Links s) (λ g e. inl refl) step
  where
    step : (L : List Record) (x : Record) → Links s L → Links s (L ++ x ∷ [])
    step L x before g e = subst IsLinked (sym (cut_push L x)) (by_record x e (before was.0 was.1))
      where
        was : (h : Rules) × (rules_state s L ≡ Some h)
        was = let before = rules_before s L x g e in (before.0, before.1)

        by_record : (r : Record) → rules_state s (L ++ r ∷ []) ≡ Some g → IsLinked (cut L) → IsLinked (cut_step (cut L) r)
        by_record (Format i h) f w = inl (ap (λ M. (cut M).closed) (format_first s L i h g f))
        by_record (Restarted rs ds) f w = inr ((cut L).now, last_of_push (cut L).closed (cut L).now, refl)
        by_record (Begin t) f w = w
        by_record (Forward t b) f w = w
        by_record (Done t q a) f w = w
        by_record (Commit t) f w = w
        by_record (Ended t) f w = w
        by_record (Solo t p b) f w = w
        by_record AuditBegin f w = w
        by_record (AuditClean b) f w = w
        by_record (AuditFail b rs) f w = w
        by_record (Back t b) f w = w

pub fits_at_last : FitsAtLast
fits_at_last L base D e is none fits behind = ⊎_elim by_recovered (λ same. same) fits.recent
  where
    some : (g : Rules) × (rules_state (sizes_of L) L ≡ Some g)
    some = given (rules_state (sizes_of L) L) is.legal.rules
      where
        given : (o : Option Rules) → IsSome o → (g : Rules) × (o ≡ Some g)
        given None e = absurd (cc)
        given (Some g) e = (g, refl)

    now : recovered_epoch L ≡ unwrap_or (last_of (cut L).closed) (cut L).now
    now = ap (recovered_or (cut L)) none

    by_recovered : e ≡ recovered_epoch L → e ≡ last_epoch L
    by_recovered is = ⊎_elim
        (λ empty. is ∙ (now ∙ ap (λ (es : List Epoch). unwrap_or (last_of es) (cut L).now) empty))
        (λ w. closed_one w.0 (is ∙ (now ∙ ap (λ o. unwrap_or o (cut L).now) w.1)) w.2)
        (links (sizes_of L) L some.0 some.1)
      where
        -- the image stands behind all of it
        closed_one : (d : Epoch) → e ≡ d → (last_epoch L).first ≡ next_number d + 1 → e ≡ last_epoch L
        closed_one d same linked = ⊎_elim
            (λ lt. absurd (omega (arith, lt, behind, number_is_length L, ap length none, linked, ap next_number same)))
            (λ last. last)
            (ends_there D.first L e fits.epoch)
