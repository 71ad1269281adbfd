-- What deeds are made on.
use Rattle.std.proofs.Common.{◌≡◌, ℕ, Bool, true, false, Option, Some, None, refl, ap}
use Rattle.std.specs.Prelude.{if◌then◌else◌, bit_xor}
use Rattle.dali_record.specs.declared.records.Record.TheVariants.{Forward, Back, Solo}
use Rattle.dali_locks.specs.declared.mode.Mode.{Mode}
use Rattle.dali_att.specs.declared.state.State.{State}
use Rattle.dali_transcripts.specs.Words.{StoreFailed}
use Rattle.dali_transcripts.specs.World.{Deed, Logs, Strays, DiesOn, GivesBack, MovesAnchor, Meets, record_of, state_step, lock_step, refusal_of, span_step, failing, stray_step, poked_step}
use Rattle.dali_transcripts.specs.Touches.{touches, is_at, HoldersTouch, OthersAreLeft}

pub holders_touch : HoldersTouch
holders_touch r (Logs (Forward t b)) e = (e, refl)
holders_touch r (Logs (Back t b)) e = (e, refl)
holders_touch r (Logs (Solo p t b)) e = (e, refl)
holders_touch r (DiesOn t q) e = (e, refl)
holders_touch r (GivesBack t (Some q)) e = (e, refl)
holders_touch r x e = absurd (cc)

region_left : (r : ℕ) (x : Deed) (c : ℕ) → is_at r x ≡ false → ((s : ℕ) → stray_step r s (x, c) ≡ s) × ((p : Bool) → poked_step r p (x, c) ≡ p)
region_left r (Strays q word mask) c e = (λ s. ap (λ (b : Bool). if b then bit_xor s mask else s) e, λ p. ap (λ (b : Bool). if b then true else p) e)
region_left r _ c e = (λ s. refl, λ p. refl)

vault_left : (x : Deed) (c : ℕ) → (touches x).vault ≡ false → (b : Bool) → failing b (x, c) ≡ b
vault_left (Meets StoreFailed) c e b = absurd (cc)
vault_left _ c e b = refl

abbrev SystemLeft : Deed → ℕ → Type 0
SystemLeft x c =
    (record_of (x, c) ≡ None) × (refusal_of (x, c) ≡ None) × ((o : Option ℕ) → span_step o (x, c) ≡ o) × ((t : ℕ) (o : Option State) → state_step t o (x, c) ≡ o) × ((t k : ℕ) (o : Option Mode) → lock_step t k o (x, c) ≡ o)

system_left : (x : Deed) (c : ℕ) → (touches x).system ≡ false → SystemLeft x c
system_left (Strays q word mask) c e = (refl, refl, λ o. refl, λ t o. refl, λ t k o. refl)
system_left (MovesAnchor n) c e = (refl, refl, λ o. refl, λ t o. refl, λ t k o. refl)
system_left (Meets why) c e = (refl, refl, λ o. refl, λ t o. refl, λ t k o. refl)
system_left _ c e = absurd (cc)

pub others_are_left : OthersAreLeft
others_are_left = record { region = region_left; system = system_left; vault = vault_left }
