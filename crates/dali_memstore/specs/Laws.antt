-- What the laws of a store in memory rest on.
use Rattle.std.specs.Prelude.{◌≡◌, ℕ, zero, suc, ◌+◌, ◌≤◌, List, length, take, refl}
use Rattle.std.proofs.Common.{sym, subst, arith, inr}
use Rattle.std.proofs.lemmas.List.{take_all}
use Rattle.dali_store.specs.Store.{Files, NoLonger}
use Rattle.dali_store.specs.declared.store.FileName.TheVariants.{Log, ImageA, ImageB, Anchor}
use Rattle.dali_memstore.specs.declared.disks.Disks.{Disks}
use Rattle.dali_memstore.specs.declared.event.Event.{Event}
use Rattle.dali_memstore.specs.declared.event.Event.TheVariants.{Cut}
use Rattle.dali_memstore.specs.State.{State, IsImage, cut_by}
use Rattle.dali_memstore.specs.Memory.{History, apply, replay, begun, disks, seen_of, IsCrash, LeftSince}
use Rattle.dali_memstore.specs.Mixed.{mixed_image}
use Rattle.dali_memstore.specs.Sound.{IsSound, AllSound}

-- what reads give is one of the images
seen_image : (s : State) → IsSound s → IsImage s s.seen
seen_image s h = record { no_shorter = h.longer; no_longer = omega arith; same = λ i lt out. refl }

pub seen_crash : (ds : Disks) → AllSound ds → IsCrash ds (seen_of ds)
seen_crash ds all Log = seen_image ds.log (all Log)
seen_crash ds all ImageA = seen_image ds.a (all ImageA)
seen_crash ds all ImageB = seen_image ds.b (all ImageB)
seen_crash ds all Anchor = seen_image ds.anchor (all Anchor)

-- no image is longer than the file
pub no_longer_law : (ds : Disks) (c : Files) → IsCrash ds c → NoLonger c (seen_of ds)
no_longer_law ds c left Log = (left Log).no_longer
no_longer_law ds c left ImageA = (left ImageA).no_longer
no_longer_law ds c left ImageB = (left ImageB).no_longer
no_longer_law ds c left Anchor = (left Anchor).no_longer

-- what a cut makes of the files is one of the images
pub cut_image : (n f : ℕ) (s : State) → IsSound s → IsImage s (cut_by n f s).seen
cut_image zero f s h = seen_image s h
cut_image (suc zero) f s h = record {
  no_shorter = omega arith;
  no_longer = h.longer;
  same = λ i lt out. h.agree i lt (λ inside. out (inr inside));
}
cut_image (suc (suc n)) f s h = mixed_image (n + 2) f s h.longer

pub cuts_leave_law : (choice : ℕ) (ds : Disks) → AllSound ds → IsCrash ds (seen_of (apply (Cut choice) ds))
cuts_leave_law choice ds all Log = cut_image choice 0 ds.log (all Log)
cuts_leave_law choice ds all ImageA = cut_image choice 1 ds.a (all ImageA)
cuts_leave_law choice ds all ImageB = cut_image choice 2 ds.b (all ImageB)
cuts_leave_law choice ds all Anchor = cut_image choice 3 ds.anchor (all Anchor)

-- this moment is the last one
pub counts_now_law : (h : History) (t : ℕ) (c : Files) → t ≤ length h.events → IsCrash (disks h) c → LeftSince h t c
counts_now_law h t c le crash =
    (length h.events, le, omega arith, subst (λ (es : List Event). IsCrash (replay es (begun h.start)) c) (sym all) crash)
  where
    all : take (length h.events) h.events ≡ h.events
    all = take_all (length h.events) h.events (omega arith)

pub only_now_law : (h : History) (c : Files) → LeftSince h (length h.events) c → IsCrash (disks h) c
only_now_law h c left =
    subst (λ (es : List Event). IsCrash (replay es (begun h.start)) c)
    (take_all left.0 h.events (omega (arith, left.1))) left.3
