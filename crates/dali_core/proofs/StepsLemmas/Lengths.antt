-- How far a flush makes the log grow.
use Rattle.std.proofs.Common.{◌≡◌, ℕ, ◌+◌, ◌≤◌, ◌^◌, List, [], ◌∷◌, length, ap, arith, length-append}
use Rattle.std.specs.Prelude.{Result, Ok, Err, IfOk, OnOk}
use Rattle.dali_log.specs.Appending.{bodies_of}
use Rattle.dali_log.specs.Batch.{Framed, batch, batches}
use Rattle.dali_log.proofs.Bytes.{length-batch}
use Rattle.dali_core.specs.Vault.Vaulted.{Vaulted, grown}

frame_fits : (body : List ℕ) → length body ≤ 2 ^ 30 → length (batches (bodies_of body)) ≤ 2 ^ 31
frame_fits [] few = omega arith
frame_fits (b ∷ bs) few = omega (arith, few, length-append (batch (b ∷ bs)) [], length-batch (b ∷ bs))

grown_end : {V : Type 0} (v w : Vaulted V) (f : Framed) → w ≡ grown v w.store f → length f.body ≤ 2 ^ 30 → w.end ≤ v.end + 2 ^ 31
grown_end v w f is few = omega (arith, ap (λ (x : Vaulted _). x.end) is, frame_fits f.body few)

pub grows_by : {V T E : Type 0} (v w : Vaulted V) (f : Framed) (r : Result T E) (P : T → Type 0) → length f.body ≤ 2 ^ 30 → ((x : T) → P x → w ≡ grown v w.store f) → IfOk r P → OnOk r (w.end ≤ v.end + 2 ^ 31)
grows_by v w f (Ok x) P few to is = grown_end v w f (to x is) few
grows_by v w f (Err e) P few to is = tt
