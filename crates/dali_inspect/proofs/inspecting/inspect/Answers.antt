use Rattle.std.proofs.Common.{◌≡◌, ℕ, IfSome}
use Rattle.dali_store.specs.Store.{Files as Disk}
use Rattle.dali_store.specs.declared.store.FileName.{FileName}
use Rattle.dali_log.specs.Batch.{IsUnformatted}
use Rattle.dali_memstore.specs.Memory.{files_of}
use Rattle.dali_restart.specs.Restarting.{IsBadAnywhere}
use Rattle.dali_inspect.specs.declared.error.InspectError.{InspectError}
use Rattle.dali_inspect.specs.declared.error.InspectError.TheVariants as errors
use Rattle.dali_inspect.proofs.Told.{along, weaker_err, weaker_ok}
use Rattle.dali_inspect.proofs.inspecting.inspect.Goals as goal

pub returns-in-Ok-clause-bad : goal.returns-in-Ok-clause-bad
returns-in-Ok-clause-bad g c =
    let told = g.V.Store.told c.args.store.now in
    let copied = files_of c.in-Ok.copied in
    weaker_err (λ (e : InspectError). (file : FileName) (at : ℕ) → e ≡ errors.BadStore file at → IsBadAnywhere copied file at)
    (λ (e : InspectError). (file : FileName) (at : ℕ) → e ≡ errors.BadStore file at → IfSome told (λ fs. IsBadAnywhere fs file at)) c.find.result
    (λ e bad file at is. along (λ (d : Disk). IsBadAnywhere d file at) told copied c.in-Ok.ensures.files (bad file at is)) c.find.ensures.bad

pub returns-in-Ok-clause-none : goal.returns-in-Ok-clause-none
returns-in-Ok-clause-none g c =
    let told = g.V.Store.told c.args.store.now in
    let copied = files_of c.in-Ok.copied in
    weaker_ok (IsUnformatted copied.log → ⊥) (IfSome told (λ fs. IsUnformatted fs.log → ⊥)) c.find.result
    (λ no. along (λ (d : Disk). IsUnformatted d.log → ⊥) told copied c.in-Ok.ensures.files no) c.find.ensures.none
