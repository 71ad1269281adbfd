-- What reads give of the four files, and what a crash may leave of them, after a write, a sync and a cut.
use Rattle.std.specs.Prelude.{◌<◌, ◌≡◌, ◌≢◌, ℕ, zero, suc, ◌+◌, ◌≤◌, List, length, refl}
use Rattle.std.proofs.Common.{sym, ◌∙◌, ap, subst, arith, ⊎_elim}
use Rattle.dali_store.specs.Store.{Files, file_of, Torn, TornIn, Follows, SameBut, Holds}
use Rattle.dali_store.specs.declared.store.FileName.{FileName}
use Rattle.dali_store.specs.declared.store.FileName.TheVariants.{Log, ImageA, ImageB, Anchor}
use Rattle.dali_store.proofs.OneFile.{with_file, file_with, file_other}
use Rattle.dali_memstore.specs.declared.disks.Disks.{Disks}
use Rattle.dali_memstore.specs.declared.event.Event.{Event}
use Rattle.dali_memstore.specs.declared.event.Event.TheVariants.{Wrote, Synced, Cut}
use Rattle.dali_memstore.specs.State.{State, wrote, kept, IsImage, cut_by, waits}
use Rattle.dali_memstore.specs.Memory.{disk_of, with_disk, apply, seen_of, IsCrash, starts_of, waits_of}
use Rattle.dali_memstore.specs.Sound.{AllSound, kept_sound, same_or_other, disk_with, disk_other}
use Rattle.dali_memstore.proofs.Mix.{mix}
use Rattle.dali_memstore.proofs.Images.{wrote_image, kept_image, kept_fewer, cut_fewer_one, cut_only_one}
use Rattle.dali_memstore.proofs.Images.{waits_one, cut_waits, kept_quiet, cut_quiet}

-- an image of one file, where that file or another one was changed
image_here : (f : FileName) (s : State) (ds : Disks) (c : Files)
    → IsCrash (with_disk f s ds) c → IsImage s (file_of f c)
image_here f s ds c left = subst (λ (t : State). IsImage t (file_of f c)) (disk_with f s ds) (left f)

image_there : (g f : FileName) (s : State) (ds : Disks) (c : Files)
    → g ≢ f → IsCrash (with_disk f s ds) c → IsImage (disk_of g ds) (file_of g c)
image_there g f s ds c other left =
    subst (λ (t : State). IsImage t (file_of g c)) (disk_other g f s ds other) (left g)

-- what a crash leaves after a write follows from what one left before it
pub wrote_follows : (f : FileName) (at : ℕ) (bytes : List ℕ) (ds : Disks)
    → AllSound ds → at ≤ length (disk_of f ds).seen
    → Follows (TornIn f at (length bytes)) (IsCrash ds) (IsCrash (with_disk f (wrote at bytes (disk_of f ds)) ds))
wrote_follows f at bytes ds all le c left =
    (with_file f before c, images, record { torn = torn; same = λ g other. sym (file_other g f before c other) })
  where
    after : State
    after = wrote at bytes (disk_of f ds)

    before : List ℕ
    before = mix at (length bytes) (disk_of f ds).seen (file_of f c)

    step : IsImage (disk_of f ds) before × Torn at (length bytes) before (file_of f c)
    step = wrote_image at bytes (disk_of f ds) (file_of f c) le (all f) (image_here f after ds c left)

    images : IsCrash ds (with_file f before c)
    images g = ⊎_elim here there (same_or_other g f)
      where
        here : g ≡ f → IsImage (disk_of g ds) (file_of g (with_file f before c))
        here is =
            subst (λ (h : FileName). IsImage (disk_of h ds) (file_of h (with_file f before c))) (sym is)
            (subst (IsImage (disk_of f ds)) (sym (file_with f before c)) step.0)

        there : g ≢ f → IsImage (disk_of g ds) (file_of g (with_file f before c))
        there other =
            subst (IsImage (disk_of g ds)) (sym (file_other g f before c other))
            (image_there g f after ds c other left)

    torn : Torn at (length bytes) (file_of f (with_file f before c)) (file_of f c)
    torn = subst (λ (l : List ℕ). Torn at (length bytes) l (file_of f c)) (sym (file_with f before c)) step.1

-- a sync leaves fewer images, and of its file one alone
pub synced_fewer : (f : FileName) (ds : Disks) → AllSound ds → (c : Files)
    → IsCrash (with_disk f (kept (disk_of f ds)) ds) c → IsCrash ds c
synced_fewer f ds all c left g =
    ⊎_elim here (λ other. image_there g f (kept (disk_of f ds)) ds c other left) (same_or_other g f)
  where
    here : g ≡ f → IsImage (disk_of g ds) (file_of g c)
    here is =
        subst (λ (h : FileName). IsImage (disk_of h ds) (file_of h c)) (sym is)
        (kept_fewer (disk_of f ds) (file_of f c) (all f) (image_here f (kept (disk_of f ds)) ds c left))

pub synced_only : (f : FileName) (ds : Disks) (c : Files)
    → IsCrash (with_disk f (kept (disk_of f ds)) ds) c → file_of f c ≡ (disk_of f ds).seen
synced_only f ds c left =
    kept_image (kept (disk_of f ds)) (file_of f c) refl (kept_sound (disk_of f ds))
    (image_here f (kept (disk_of f ds)) ds c left)

-- a cut leaves one image
pub cut_fewer : (choice : ℕ) (ds : Disks) → AllSound ds → (c : Files)
    → IsCrash (apply (Cut choice) ds) c → IsCrash ds c
cut_fewer choice ds all c left Log = cut_fewer_one choice 0 ds.log c.log (all Log) (left Log)
cut_fewer choice ds all c left ImageA = cut_fewer_one choice 1 ds.a c.a (all ImageA) (left ImageA)
cut_fewer choice ds all c left ImageB = cut_fewer_one choice 2 ds.b c.b (all ImageB) (left ImageB)
cut_fewer choice ds all c left Anchor = cut_fewer_one choice 3 ds.anchor c.anchor (all Anchor) (left Anchor)

pub cut_only : (choice : ℕ) (ds : Disks) (c : Files)
    → IsCrash (apply (Cut choice) ds) c → c ≡ seen_of (apply (Cut choice) ds)
cut_only choice ds c left = λ i. record { log = log i; a = a i; b = b i; anchor = anchor i }
  where
    log : c.log ≡ (cut_by choice 0 ds.log).seen
    log = cut_only_one choice 0 ds.log c.log (left Log)

    a : c.a ≡ (cut_by choice 1 ds.a).seen
    a = cut_only_one choice 1 ds.a c.a (left ImageA)

    b : c.b ≡ (cut_by choice 2 ds.b).seen
    b = cut_only_one choice 2 ds.b c.b (left ImageB)

    anchor : c.anchor ≡ (cut_by choice 3 ds.anchor).seen
    anchor = cut_only_one choice 3 ds.anchor c.anchor (left Anchor)

-- what reads give of a file
pub seen_file : (f : FileName) (ds : Disks) → file_of f (seen_of ds) ≡ (disk_of f ds).seen
seen_file Log ds = refl
seen_file ImageA ds = refl
seen_file ImageB ds = refl
seen_file Anchor ds = refl

pub wrote_seen : (f : FileName) (at : ℕ) (bytes : List ℕ) (ds : Disks)
    → Holds (file_of f (seen_of ds)) at bytes
    (file_of f (seen_of (with_disk f (wrote at bytes (disk_of f ds)) ds)))
wrote_seen Log at bytes ds = refl
wrote_seen ImageA at bytes ds = refl
wrote_seen ImageB at bytes ds = refl
wrote_seen Anchor at bytes ds = refl

pub kept_seen : (f : FileName) (ds : Disks) → seen_of (with_disk f (kept (disk_of f ds)) ds) ≡ seen_of ds
kept_seen Log ds = refl
kept_seen ImageA ds = refl
kept_seen ImageB ds = refl
kept_seen Anchor ds = refl

-- only the file that is written changes
pub same_but : (f : FileName) (s : State) (ds : Disks) → SameBut f (seen_of ds) (seen_of (with_disk f s ds))
same_but f s ds g other =
    seen_file g (with_disk f s ds) ∙ ap (λ (t : State). t.seen) (disk_other g f s ds other) ∙ sym (seen_file g ds)

-- what the files began with stays
starts_with : (f : FileName) (s : State) (ds : Disks)
    → s.start ≡ (disk_of f ds).start → starts_of (with_disk f s ds) ≡ starts_of ds
starts_with Log s ds same = λ i. record { log = same i; a = ds.a.start; b = ds.b.start; anchor = ds.anchor.start }
starts_with ImageA s ds same = λ i. record { log = ds.log.start; a = same i; b = ds.b.start; anchor = ds.anchor.start }
starts_with ImageB s ds same = λ i. record { log = ds.log.start; a = ds.a.start; b = same i; anchor = ds.anchor.start }
starts_with Anchor s ds same = λ i. record { log = ds.log.start; a = ds.a.start; b = ds.b.start; anchor = same i }

start_cut : (n f : ℕ) (s : State) → (cut_by n f s).start ≡ s.start
start_cut zero f s = refl
start_cut (suc zero) f s = refl
start_cut (suc (suc n)) f s = refl

pub starts_apply : (event : Event) (ds : Disks) → starts_of (apply event ds) ≡ starts_of ds
starts_apply (Wrote file at bytes) ds = starts_with file (wrote at bytes (disk_of file ds)) ds refl
starts_apply (Synced file) ds = starts_with file (kept (disk_of file ds)) ds refl
starts_apply (Cut choice) ds = λ i. record {
  log = start_cut choice 0 ds.log i;
  a = start_cut choice 1 ds.a i;
  b = start_cut choice 2 ds.b i;
  anchor = start_cut choice 3 ds.anchor i;
}

-- how many files wait for a sync
pub waits_few : (ds : Disks) → waits_of ds ≤ 4
waits_few ds = omega (arith, waits_one ds.log, waits_one ds.a, waits_one ds.b, waits_one ds.anchor)

pub waits_kept : (f : FileName) (ds : Disks)
    → 0 < waits (disk_of f ds) → waits_of (with_disk f (kept (disk_of f ds)) ds) + 1 ≤ waits_of ds
waits_kept Log ds some = omega (arith, some)
waits_kept ImageA ds some = omega (arith, some)
waits_kept ImageB ds some = omega (arith, some)
waits_kept Anchor ds some = omega (arith, some)

pub waits_cut : (choice : ℕ) (ds : Disks) → waits_of (apply (Cut choice) ds) ≡ 0
waits_cut choice ds =
    omega (arith, cut_waits choice 0 ds.log, cut_waits choice 1 ds.a, cut_waits choice 2 ds.b, cut_waits choice 3 ds.anchor)

-- where nothing waits, a sync and a cut change nothing
pub synced_quiet : (f : FileName) (ds : Disks) → AllSound ds → waits (disk_of f ds) ≡ 0 → ds ≡ apply (Synced f) ds
synced_quiet Log ds all none = ap (λ (s : State). with_disk Log s ds) (sym (kept_quiet ds.log (all Log) none))
synced_quiet ImageA ds all none = ap (λ (s : State). with_disk ImageA s ds) (sym (kept_quiet ds.a (all ImageA) none))
synced_quiet ImageB ds all none = ap (λ (s : State). with_disk ImageB s ds) (sym (kept_quiet ds.b (all ImageB) none))
synced_quiet Anchor ds all none = ap (λ (s : State). with_disk Anchor s ds) (sym (kept_quiet ds.anchor (all Anchor) none))

pub all_quiet : (choice : ℕ) (ds : Disks) → AllSound ds → waits_of ds ≡ 0 → apply (Cut choice) ds ≡ ds
all_quiet choice ds all none = λ i. record { log = log i; a = a i; b = b i; anchor = anchor i }
  where
    log : cut_by choice 0 ds.log ≡ ds.log
    log = cut_quiet choice 0 ds.log (all Log) (omega (arith, none))

    a : cut_by choice 1 ds.a ≡ ds.a
    a = cut_quiet choice 1 ds.a (all ImageA) (omega (arith, none))

    b : cut_by choice 2 ds.b ≡ ds.b
    b = cut_quiet choice 2 ds.b (all ImageB) (omega (arith, none))

    anchor : cut_by choice 3 ds.anchor ≡ ds.anchor
    anchor = cut_quiet choice 3 ds.anchor (all Anchor) (omega (arith, none))
