-- What a run holds between two commands, and the store behind its fuse as contracts see it.
--     Up, Down                the core, with its store; or the store alone
--     store_of p              the store behind its fuse
--     IsUnfused f             no fuse is set, and none has failed a call
--     IsDown p store          the program is down over this store, and no fuse is set
--     told_in, leaves_in, moment_in, since_in, faults_in g f    what g says of the store, said of the fuse over it
--     fused g                 all of it
--     PlacesIn g c            where a region of the core is clean for a side, the image file of that side has its place
--     HoldsImages g p         so it is of the core of a program that is up
use Rattle.std.specs.Prelude.{◌≡◌, ℕ, ◌+◌, Option, None, IfSome}
use Rattle.dali_fuse.specs.Fuse.{inner, passes_of, failed_of}
use Rattle.dali_fuse.specs.declared.fuse.Fuse.{Fuse}
use Rattle.dali_store.specs.Store.{Files}
use Rattle.dali_store.specs.declared.store.Store.{Ghosts}
use Rattle.dali_core.specs.declared.whole.Core.{Core}
use Rattle.dali_core.specs.Cores.{HoldsPlaces}
use Rattle.dali_run.specs.declared.program.Program.{Program}
use Rattle.dali_run.specs.declared.program.Program.TheVariants.{Up, Down}

abbrev pub store_of : {V : Type 0} → Program V → Fuse V
store_of (Up core) = core.vault.store
store_of (Down store) = store

pub record IsUnfused {V : Type 0} (f : Fuse V) : Type 0 where
  pub passes : passes_of f ≡ None
  pub failed : failed_of f ≡ 0

pub record IsDown {V : Type 0} (p : Program V) (store : V) : Type 0 where
  pub fuse : Fuse V
  pub down : p ≡ Down fuse
  pub store_is : inner fuse ≡ store
  pub unfused : IsUnfused fuse

-- the count of the fuse: the store's, and the calls that the fuse failed
abbrev pub faults_in : {V : Type 0} → Ghosts V → Fuse V → ℕ
faults_in g f = g.faults (inner f) + failed_of f

abbrev pub told_in : {V : Type 0} → Ghosts V → Fuse V → Option Files
told_in g f = g.told (inner f)

abbrev pub leaves_in : {V : Type 0} → Ghosts V → Fuse V → Files → Type 0
leaves_in g f = g.may_leave (inner f)

abbrev pub moment_in : {V : Type 0} → Ghosts V → Fuse V → ℕ
moment_in g f = g.moment (inner f)

abbrev pub since_in : {V : Type 0} → Ghosts V → Fuse V → ℕ → Files → Type 0
since_in g f = g.left_since (inner f)

abbrev pub fused : {V : Type 0} → Ghosts V → Ghosts (Fuse V)
fused g = record {
  told = told_in g;
  may_leave = leaves_in g;
  moment = moment_in g;
  left_since = since_in g;
  faults = faults_in g;
  lets_pass = passes_of;
  cuts = λ f. g.cuts (inner f);
  droppable = λ f. g.droppable (inner f);
  dropped_to = λ f. g.dropped_to (inner f);
}

abbrev pub PlacesIn : {V : Type 0} → Ghosts V → Core (Fuse V) → Type 0
PlacesIn g c = IfSome (told_in g c.vault.store) (HoldsPlaces c.regions.items)

abbrev pub HoldsImages : {V : Type 0} → Ghosts V → Program V → Type 0
HoldsImages g (Up core) = PlacesIn g core
HoldsImages g (Down store) = Unit {0}
