-- The stray writes to each region behind a change of the regions.
--     Stays old new            each region's stray writes are as they were
use Rattle.std.proofs.Common.{◌≡◌, ℕ, Bool, true, false, List, Some, refl, ap, sym, ◌∙◌, ⊎_elim}
use Rattle.std.specs.Prelude.{slice_get, slice_set, if◌then◌else◌, ◌==◌, ◌≢◌, bit_xor}
use Rattle.dali_runs.proofs.CountsLemmas.Lists.{set_cases, same_number, equal}
use Rattle.dali_region.specs.State.{RegionState, poked}

pub record Stays (old new : List RegionState) : Type 0 where
  pub each : (r : ℕ) (h : RegionState) → slice_get new r ≡ Some h → (g : RegionState) × (slice_get old r ≡ Some g) × (h.stray ≡ g.stray) × (h.poked ≡ g.poked)

pub same_regions : (gs : List RegionState) → Stays gs gs
same_regions gs = record { each = λ r h at. (h, at, refl, refl) }

pub one_region : (gs : List RegionState) (q : ℕ) (g new : RegionState) → slice_get gs q ≡ Some g → new.stray ≡ g.stray → new.poked ≡ g.poked → Stays gs (slice_set gs q new)
one_region gs q g new there stray poked = record { each = λ r h at. ⊎_elim (λ e. here r h e) (λ e. (h, e.1, refl, refl)) (set_cases gs q new r h at) }
  where
    here : (r : ℕ) (h : RegionState) → (r ≡ q) × (h ≡ new) → (k : RegionState) × (slice_get gs r ≡ Some k) × (h.stray ≡ k.stray) × (h.poked ≡ k.poked)
    here r h e = (g, ap (slice_get gs) e.0 ∙ there, ap (λ (k : RegionState). k.stray) e.1 ∙ stray, ap (λ (k : RegionState). k.poked) e.1 ∙ poked)

-- a word of one of them is changed
pub record IsPoked (old : List RegionState) (q mask : ℕ) (new : List RegionState) : Type 0 where
  pub each : (r : ℕ) (h : RegionState) → slice_get new r ≡ Some h → (g : RegionState) × (slice_get old r ≡ Some g) × (h.stray ≡ (if q == r then bit_xor g.stray mask else g.stray)) × (h.poked ≡ (if q == r then true else g.poked))

pub poked_region : (gs : List RegionState) (q i mask : ℕ) (g : RegionState) → slice_get gs q ≡ Some g → IsPoked gs q mask (slice_set gs q (poked i mask g))
poked_region gs q i mask g there = record { each = λ r h at. ⊎_elim (λ e. here r h e) (λ e. apart r h (e.0) (e.1) (q == r) refl) (set_cases gs q (poked i mask g) r h at) }
  where
    here : (r : ℕ) (h : RegionState) → (r ≡ q) × (h ≡ poked i mask g) → (k : RegionState) × (slice_get gs r ≡ Some k) × (h.stray ≡ (if q == r then bit_xor k.stray mask else k.stray)) × (h.poked ≡ (if q == r then true else k.poked))
    here r h e =
        let same : (q == r) ≡ true = same_number q r (sym e.0) in
        (g, ap (slice_get gs) e.0 ∙ there, ap (λ (k : RegionState). k.stray) e.1 ∙ sym (ap (λ b. if b then bit_xor g.stray mask else g.stray) same), ap (λ (k : RegionState). k.poked) e.1 ∙ sym (ap (λ b. if b then true else g.poked) same))

    apart : (r : ℕ) (h : RegionState) → (q ≢ r) → slice_get gs r ≡ Some h → (b : Bool) → (q == r) ≡ b → (k : RegionState) × (slice_get gs r ≡ Some k) × (h.stray ≡ (if q == r then bit_xor k.stray mask else k.stray)) × (h.poked ≡ (if q == r then true else k.poked))
    apart r h differ at true e = absurd (differ (equal q r e))
    apart r h differ at false e = (h, at, sym (ap (λ b. if b then bit_xor h.stray mask else h.stray) e), sym (ap (λ b. if b then true else h.poked) e))
