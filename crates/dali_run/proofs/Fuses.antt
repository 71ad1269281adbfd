-- A program whose fuse is set anew.
use Rattle.std.proofs.Common.{◌≡◌, ℕ, refl, sym, ap, subst}
use Rattle.std.specs.Prelude.{IfSome}
use Rattle.dali_fuse.specs.Fuse.{inner}
use Rattle.dali_fuse.specs.declared.fuse.Fuse.{Fuse}
use Rattle.dali_store.specs.declared.store.Store.{Ghosts}
use Rattle.dali_core.specs.Vault.Vaulted.{Vaulted, with_store}
use Rattle.dali_core.specs.declared.whole.Core.{Core}
use Rattle.dali_core.specs.Cores.{HoldsPlaces}
use Rattle.dali_run.specs.declared.program.Program.{Program}
use Rattle.dali_run.specs.declared.program.Program.TheVariants.{Up, Down}
use Rattle.dali_run.specs.Program.{HoldsImages, told_in}
use Rattle.dali_run.specs.Steps.{FuseIn, SetsFuse}
use Rattle.dali_run.proofs.Fusing.{places_over}

pub fuse_up : {V : Type 0} (passes : ℕ) (p : Program V) (core : Core (Fuse V)) (v : Vaulted (Fuse V)) → p ≡ Up core → v ≡ with_store core.vault v.store
    → SetsFuse passes core.vault.store v.store → FuseIn passes p (Up (record core { vault = v }))
fuse_up {V = V} passes p core v is same sets =
    subst (λ (q : Program V). FuseIn passes q (Up (record core { vault = v }))) (sym is) (v.store, sets, ap (λ (w : Vaulted (Fuse V)). Up (record core { vault = w })) same)

pub fuse_down : {V : Type 0} (passes : ℕ) (p : Program V) (store f : Fuse V) → p ≡ Down store → SetsFuse passes store f → FuseIn passes p (Down f)
fuse_down {V = V} passes p store f is sets = subst (λ (q : Program V). FuseIn passes q (Down f)) (sym is) (f, sets, refl)

-- no file changes
pub images_up : {V : Type 0} (g : Ghosts V) (p : Program V) (core : Core (Fuse V)) (f : Fuse V) → p ≡ Up core → inner f ≡ inner core.vault.store → HoldsImages g p
    → IfSome (told_in g f) (HoldsPlaces core.regions.items)
images_up g p core f is same images = places_over g core.regions.items core.vault.store f same (subst (HoldsImages g) is images)
