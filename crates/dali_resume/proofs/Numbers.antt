-- The number of records before an image that stands behind a batch, or in an epoch with a record.
use Rattle.std.proofs.Common.{◌≡◌, ℕ, zero, suc, ◌<◌, List, [], ◌∷◌, length, take, Some, refl, ap, ◌∙◌, ⊎_elim, arith}
use Rattle.std.specs.Prelude.{flat_map, sum_by}
use Rattle.dali_lists.proofs.Options.{some_of}
use Rattle.dali_record.specs.declared.records.Record.{Record}
use Rattle.dali_record.specs.Epochs.{last_epoch, next_number}
use Rattle.dali_record.specs.Files.{batch_length}
use Rattle.dali_record.specs.Legal.{Rules, rules_state}
use Rattle.dali_resume.specs.Numbers.{ImageStandsWithin, NumberIsSome}
use Rattle.dali_resume.proofs.Audits.{Audited, audited_now}

-- behind the first batch stands a record
none_before : (k : ℕ) (bs : List (List Record)) (r : Record) (b : List Record) (rest : List (List Record)) → bs ≡ (r ∷ b) ∷ rest → 0 < sum_by batch_length (take k bs) → flat_map (λ x. x) (take k bs) ≡ [] → ⊥
none_before zero bs r b rest is some none = omega (arith, some)
none_before (suc k) [] r b rest is some none = cc
none_before (suc k) ([] ∷ bs) r b rest is some none = let same : [] ≡ r ∷ b = cc in cc
none_before (suc k) ((q ∷ c) ∷ bs) r b rest is some none = cc

pub number_is_some : NumberIsSome
number_is_some s base L F e fit has some = by_number F.first refl
  where
    by_number : (n : ℕ) → F.first ≡ n → 0 < F.first
    by_number zero q = absurd (none_before fit.fits.batch.0 F.batches has.0 has.1 has.2 has.3 (omega (arith, some, fit.fits.batch.2)) (fit.fits.batch.1 ∙ ap (λ n. take n L) q))
    by_number (suc n) q = omega (arith, q)

-- the place up to which the epoch is known clean is its first number, or an audit's begin
pub image_stands_within : ImageStandsWithin
image_stands_within s base K F r E fit legal some =
    ⊎_elim
    (λ first. omega (arith, fit.fits.certified, first, now.1, ap length some))
    (λ below. omega (arith, fit.fits.certified, below, now.1))
    now.0.clean
  where
    g : (g : Rules) × (rules_state s K ≡ Some g)
    g = some_of (rules_state s K) legal.rules

    now : Audited (last_epoch K) g.0 × (next_number (last_epoch K) ≡ length K)
    now = audited_now s K g.0 g.1
