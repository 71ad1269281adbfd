-- No image file becomes shorter, so what it reaches it goes on to reach.
use Rattle.std.proofs.Common.{◌≡◌, ℕ, ◌≤◌, Bool, true, false, List, length, Option, Some, None, IfSome, refl, ap, subst, sym, arith}
use Rattle.std.specs.Prelude.{is_some}
use Rattle.dali_region.specs.declared.Side.{Side}
use Rattle.dali_region.specs.declared.Side.TheVariants.{A, B}
use Rattle.dali_region.specs.State.{RegionState}
use Rattle.dali_store.specs.declared.store.FileName.{FileName}
use Rattle.dali_store.specs.declared.store.FileName.TheVariants.{Log, ImageA, ImageB, Anchor}
use Rattle.dali_store.specs.Store.{Files as Disk, TornIn, TornTold}
use Rattle.dali_crash.specs.Disks.Disks.{image_file}
use Rattle.dali_core.specs.Vault.Vaulted.{Vaulted}
use Rattle.dali_calls.specs.Flags.{FlagsStay}
use Rattle.dali_core.specs.Cores.{HoldsPlaces, NoShorter}

-- the store tells its files just where it did
pub no_shorter_tells : (o p : Option Disk) → NoShorter o p → is_some p ≡ is_some o
no_shorter_tells (Some a) (Some b) h = refl
no_shorter_tells (Some a) None h = absurd h
no_shorter_tells None p h = ap is_some h

pub same_length : (o p : Option Disk) → p ≡ o → NoShorter o p
same_length (Some a) (Some b) e = λ side. let one : b ≡ a = cc in subst (λ (z : Disk). length (image_file side a) ≤ length (image_file side z)) (sym one) (omega arith)
same_length (Some a) None e = absurd (cc)
same_length None p e = e

from_same : (x y : List ℕ) → y ≡ x → length x ≤ length y
from_same x y e = omega (arith, ap length e)

torn_one : (f : FileName) (at n : ℕ) (a b : Disk) → TornIn f at n a b → (side : Side) → length (image_file side a) ≤ length (image_file side b)
torn_one Log at n a b t A = from_same a.a b.a (t.same ImageA (λ e. cc))
torn_one Log at n a b t B = from_same a.b b.b (t.same ImageB (λ e. cc))
torn_one ImageA at n a b t A = t.torn.no_shorter
torn_one ImageA at n a b t B = from_same a.b b.b (t.same ImageB (λ e. cc))
torn_one ImageB at n a b t A = from_same a.a b.a (t.same ImageA (λ e. cc))
torn_one ImageB at n a b t B = t.torn.no_shorter
torn_one Anchor at n a b t A = from_same a.a b.a (t.same ImageA (λ e. cc))
torn_one Anchor at n a b t B = from_same a.b b.b (t.same ImageB (λ e. cc))

pub torn_length : (f : FileName) (at n : ℕ) (o p : Option Disk) → TornTold f at n o p → NoShorter o p
torn_length f at n (Some a) (Some b) t = torn_one f at n a b t
torn_length f at n (Some a) None t = t
torn_length f at n None p t = t

pub then_length : (o p q : Option Disk) → NoShorter o p → NoShorter p q → NoShorter o q
then_length (Some a) (Some b) (Some d) s t = λ side. omega (arith, s side, t side)
then_length (Some a) (Some b) None s t = t
then_length (Some a) None q s t = absurd s
then_length None (Some b) q s t = absurd (cc)
then_length None None q s t = t

-- over a call that a stopped vault refuses
pub unless_stopped : (b : Bool) (o p : Option Disk) → (b ≡ true → p ≡ o) → (b ≡ false → NoShorter o p) → NoShorter o p
unless_stopped true o p s t = same_length o p (s refl)
unless_stopped false o p s t = t refl

pub torn_unless_stopped : {V : Type 0} (told : V → Option Disk) (v w : Vaulted V) (f : FileName) (at n : ℕ) → (v.stopped ≡ true → w ≡ v) → (v.stopped ≡ false → TornTold f at n (told v.store) (told w.store)) → NoShorter (told v.store) (told w.store)
torn_unless_stopped {V} told v w f at n same torn =
    unless_stopped v.stopped (told v.store) (told w.store) (λ stopped. ap (λ (z : Vaulted V). told z.store) (same stopped)) (λ runs. torn_length f at n (told v.store) (told w.store) (torn runs))

places_one : (gs : List RegionState) (a b : Disk) → ((side : Side) → length (image_file side a) ≤ length (image_file side b)) → HoldsPlaces gs a → HoldsPlaces gs b
places_one gs a b s holds = λ side r g at clean. omega (arith, s side, holds side r g at clean)

pub places_stay : (o p : Option Disk) (gs : List RegionState) → NoShorter o p → IfSome o (HoldsPlaces gs) → IfSome p (HoldsPlaces gs)
places_stay (Some a) (Some b) gs s holds = places_one gs a b s holds
places_stay (Some a) None gs s holds = tt
places_stay None (Some b) gs s holds = absurd (cc)
places_stay None None gs s holds = tt

-- a clear flag was clear before
flags_one : (gs hs : List RegionState) (fs : Disk) → FlagsStay gs hs → HoldsPlaces gs fs → HoldsPlaces hs fs
flags_one gs hs fs flags holds side r h at clean = let was = flags.each r h at in holds side r was.0 was.1 (was.2 side clean)

pub flags_hold : (o : Option Disk) (gs hs : List RegionState) → FlagsStay gs hs → IfSome o (HoldsPlaces gs) → IfSome o (HoldsPlaces hs)
flags_hold (Some fs) gs hs flags holds = flags_one gs hs fs flags holds
flags_hold None gs hs flags holds = tt
