-- What reads give, and what a crash may leave, after a write, a sync, a removal and a cut.
use Rattle.std.specs.Prelude.{◌≡◌, ◌≢◌, ◌⊎◌, ◌≤◌, ◌==◌, if◌then◌else◌, ℕ, zero, suc, ◌+◌, Bool, false, max, List, [], ◌++◌, length, take, drop, Option, Some, None, refl}
use Rattle.std.proofs.Common.{sym, ◌∙◌, ap, subst, arith, inl, inr, ⊎_elim, length-append, append_assoc}
use Rattle.std.proofs.lemmas.List.{take_at, drop_at, length-take-le}
use Rattle.dali_store.specs.Store.{Torn, Holds}
use Rattle.dali_files.specs.Files.{Contents, SameBut, TornIn, EmptiedIn, Follows}
use Rattle.dali_files.specs.declared.key.FileKey.{FileKey}
use Rattle.dali_disk.specs.State.{State, begun_with, written, kept, IsImage}
use Rattle.dali_disk.specs.Sound.{length-written, kept_sound}
use Rattle.dali_disk.specs.Laws.{seen_image}
use Rattle.dali_disk.proofs.Images.{before_write, wrote_image, wrote_more, kept_image, kept_fewer, cut_only_one}
use Rattle.dali_memfiles.specs.declared.event.Event.TheVariants.{Cut}
use Rattle.dali_memfiles.specs.Held.{HeldState, first_of, held_wrote, held_kept, held_removed, held_cut, IsLeft, IsBefore, IsGoing, IsHeldSound}
use Rattle.dali_memfiles.specs.Laws.{cut_left}
use Rattle.dali_memfiles.specs.Shelf.{number_of, Shelf, with_file, apply, seen_of, IsCrash}
use Rattle.dali_memfiles.proofs.Keys.{by_number, equal_numbers, with_bytes, bytes_with, bytes_other, each_bytes}

-- a changed file and another one
pub file_with : (f : FileKey) (h : HeldState) (files : Shelf) → with_file (number_of f) h files (number_of f) ≡ h
file_with f h files = ap (λ (b : Bool). if b then h else files (number_of f)) (equal_numbers (number_of f))

pub file_other : (g f : FileKey) (h : HeldState) (files : Shelf) → g ≢ f → with_file (number_of f) h files (number_of g) ≡ files (number_of g)
file_other g f h files other = ⊎_elim (λ same. absurd (other same)) (λ differ. ap (λ (b : Bool). if b then h else files (number_of g)) differ) (by_number g f)

-- what a crash leaves of the changed file, and of another one
pub left_here : (f : FileKey) (h : HeldState) (files : Shelf) (c : Contents) → IsCrash (with_file (number_of f) h files) c → IsLeft h (c f)
left_here f h files c left = subst (λ (k : HeldState). IsLeft k (c f)) (file_with f h files) (left f)

pub left_there : (g f : FileKey) (h : HeldState) (files : Shelf) (c : Contents) → g ≢ f → IsCrash (with_file (number_of f) h files) c → IsLeft (files (number_of g)) (c g)
left_there g f h files c other left = subst (λ (k : HeldState). IsLeft k (c g)) (file_other g f h files other) (left g)

-- only the changed file reads otherwise
pub same_but : (f : FileKey) (h : HeldState) (files : Shelf) → SameBut f (seen_of files) (seen_of (with_file (number_of f) h files))
same_but f h files g other = ap (λ (k : HeldState). k.file.seen) (file_other g f h files other)

pub seen_here : (f : FileKey) (h : HeldState) (files : Shelf) → seen_of (with_file (number_of f) h files) f ≡ h.file.seen
seen_here f h files = ap (λ (k : HeldState). k.file.seen) (file_with f h files)

-- a crash of other files before a change: the changed file had these bytes
crash_before : (f : FileKey) (h : HeldState) (files : Shelf) (bytes : List ℕ) (c : Contents)
    → IsLeft (files (number_of f)) bytes → IsCrash (with_file (number_of f) h files) c → IsCrash files (with_bytes f bytes c)
crash_before f h files bytes c here left =
    each_bytes (λ g l. IsLeft (files (number_of g)) l) f bytes c here (λ g other. left_there g f h files c other left)

torn_same : (at n : ℕ) (bytes : List ℕ) → Torn at n bytes bytes
torn_same at n bytes = record { before = refl; after = refl; no_shorter = omega arith; no_longer = omega arith }

pub torn_in_same : (f : FileKey) (at n : ℕ) (c : Contents) → TornIn f at n c c
torn_in_same f at n c = record { torn = torn_same at n (c f); same = λ g other. refl }

pub emptied_same : (f : FileKey) (c : Contents) → EmptiedIn f c c
emptied_same f c = record { either = inl refl; same = λ g other. refl }

-- a write: each image of the file follows from one before it
held_before_write : (at : ℕ) (bytes : List ℕ) (h : HeldState) (c : List ℕ) → at ≤ length h.file.seen → IsHeldSound h → IsLeft (held_wrote at bytes h) c
    → (d : List ℕ) × IsLeft h d × Torn at (length bytes) d c
held_before_write at bytes h c le is (inl image) =
    let step = wrote_image at bytes h.file c le is.file image in
    (before_write at bytes h.file c, inl step.0, step.1)
held_before_write at bytes h c le is (inr old) = (c, inr old, torn_same at (length bytes) c)

pub wrote_follows : (f : FileKey) (at : ℕ) (bytes : List ℕ) (files : Shelf)
    → ((n : ℕ) → IsHeldSound (files n)) → at ≤ length (seen_of files f)
    → Follows (TornIn f at (length bytes)) (IsCrash files) (IsCrash (with_file (number_of f) (held_wrote at bytes (files (number_of f))) files))
wrote_follows f at bytes files all le c left =
    let h : HeldState = held_wrote at bytes (files (number_of f)) in
    let step = held_before_write at bytes (files (number_of f)) (c f) le (all (number_of f)) (left_here f h files c left) in (
      with_bytes f step.0 c,
      crash_before f h files step.0 c step.1 left,
      record {
        torn = subst (λ (l : List ℕ). Torn at (length bytes) l (c f)) (sym (bytes_with f step.0 c)) step.2;
        same = λ g other. sym (bytes_other g f step.0 c other);
      },
    )

-- and each image before it is one behind it
held_wrote_more : (at : ℕ) (bytes : List ℕ) (h : HeldState) (c : List ℕ) → at ≤ length h.file.seen → IsLeft h c → IsLeft (held_wrote at bytes h) c
held_wrote_more at bytes h c le (inl image) = inl (wrote_more at bytes h.file c le image)
held_wrote_more at bytes h c le (inr old) = inr old

pub wrote_keeps : (f : FileKey) (at : ℕ) (bytes : List ℕ) (files : Shelf) → at ≤ length (seen_of files f) → (c : Contents)
    → IsCrash files c → IsCrash (with_file (number_of f) (held_wrote at bytes (files (number_of f))) files) c
wrote_keeps f at bytes files le c left g = ⊎_elim here (λ differ. there differ) (by_number g f)
  where
    h : HeldState
    h = held_wrote at bytes (files (number_of f))

    here : g ≡ f → IsLeft (with_file (number_of f) h files (number_of g)) (c g)
    here is =
        subst (λ (k : FileKey). IsLeft (with_file (number_of f) h files (number_of k)) (c k)) (sym is)
        (subst (λ (k : HeldState). IsLeft k (c f)) (sym (file_with f h files)) (held_wrote_more at bytes (files (number_of f)) (c f) le (left f)))

    there : (number_of g == number_of f) ≡ false → IsLeft (with_file (number_of f) h files (number_of g)) (c g)
    there differ = subst (λ (k : HeldState). IsLeft k (c g)) (sym (ap (λ (b : Bool). if b then h else files (number_of g)) differ)) (left g)

pub wrote_seen : (f : FileKey) (at : ℕ) (bytes : List ℕ) (files : Shelf)
    → Holds (seen_of files f) at bytes (seen_of (with_file (number_of f) (held_wrote at bytes (files (number_of f))) files) f)
wrote_seen f at bytes files = seen_here f (held_wrote at bytes (files (number_of f))) files

pub torn_written : (at : ℕ) (bytes old : List ℕ) → at ≤ length old → Torn at (length bytes) old (written at bytes old)
torn_written at bytes old le = record {
  before = ap (λ (l : List ℕ). take at l) joined ∙ take_at (take at old) (bytes ++ rest) at front;
  after = drop_at (take at old ++ bytes) rest (at + length bytes) (omega (arith, front, length-append (take at old) bytes));
  no_shorter = omega (arith, size);
  no_longer = omega (arith, size);
}
  where
    rest : List ℕ
    rest = drop (at + length bytes) old

    size : length (written at bytes old) ≡ max (length old) (at + length bytes)
    size = length-written at bytes old le

    front : length (take at old) ≡ at
    front = length-take-le at old le

    joined : written at bytes old ≡ take at old ++ (bytes ++ rest)
    joined = append_assoc (take at old) bytes rest

-- a sync leaves fewer images, and of its file one alone
kept_left : (h : HeldState) (c : List ℕ) → IsHeldSound h → IsLeft (held_kept h) c → IsLeft h c
kept_left h c is (inl image) = inl (kept_fewer h.file c is.file image)
kept_left h c is (inr none) = absurd none

pub synced_fewer : (f : FileKey) (files : Shelf) → ((n : ℕ) → IsHeldSound (files n)) → (c : Contents)
    → IsCrash (with_file (number_of f) (held_kept (files (number_of f))) files) c → IsCrash files c
synced_fewer f files all c left g = ⊎_elim here (λ differ. there differ) (by_number g f)
  where
    h : HeldState
    h = held_kept (files (number_of f))

    here : g ≡ f → IsLeft (files (number_of g)) (c g)
    here is =
        subst (λ (k : FileKey). IsLeft (files (number_of k)) (c k)) (sym is)
        (kept_left (files (number_of f)) (c f) (all (number_of f)) (left_here f h files c left))

    there : (number_of g == number_of f) ≡ false → IsLeft (files (number_of g)) (c g)
    there differ = subst (λ (k : HeldState). IsLeft k (c g)) (ap (λ (b : Bool). if b then h else files (number_of g)) differ) (left g)

kept_only : (h : HeldState) (c : List ℕ) → IsLeft (held_kept h) c → c ≡ h.file.seen
kept_only h c (inl image) = kept_image (kept h.file) c refl (kept_sound h.file) image
kept_only h c (inr none) = absurd none

pub synced_only : (f : FileKey) (files : Shelf) (c : Contents)
    → IsCrash (with_file (number_of f) (held_kept (files (number_of f))) files) c → c f ≡ seen_of files f
synced_only f files c left = kept_only (files (number_of f)) (c f) (left_here f (held_kept (files (number_of f))) files c left)

pub synced_seen : (f : FileKey) (files : Shelf) → seen_of (with_file (number_of f) (held_kept (files (number_of f))) files) ≡ seen_of files
synced_seen f files i g = ⊎_elim (λ is. here is) (λ differ. there differ) (by_number g f) i
  where
    h : HeldState
    h = held_kept (files (number_of f))

    here : g ≡ f → seen_of (with_file (number_of f) h files) g ≡ seen_of files g
    here is = subst (λ (k : FileKey). seen_of (with_file (number_of f) h files) k ≡ seen_of files k) (sym is) (seen_here f h files)

    there : (number_of g == number_of f) ≡ false → seen_of (with_file (number_of f) h files) g ≡ seen_of files g
    there differ = ap (λ (b : Bool). (if b then h else files (number_of g)).file.seen) differ

-- a removal: the file is empty, or what it might have been
none_image : (c : List ℕ) → IsImage (begun_with []) c → c ≡ []
none_image c image = kept_image (begun_with []) c refl (kept_sound (begun_with [])) image

first_left : (before : Option State) (file : State) (c : List ℕ) → IsImage (first_of before file) c → IsImage file c ⊎ IsBefore before c
first_left None file c image = inl image
first_left (Some s) file c image = inr image

held_before_removal : (h : HeldState) (c : List ℕ) → IsHeldSound h → IsLeft (held_removed h) c → (d : List ℕ) × IsLeft h d × ((c ≡ d) ⊎ (c ≡ []))
held_before_removal h c is (inl image) = (h.file.seen, inl (seen_image h.file is.file), inr (none_image c image))
held_before_removal h c is (inr old) = (c, first_left h.before h.file c old, inl refl)

pub removed_follows : (f : FileKey) (files : Shelf)
    → ((n : ℕ) → IsHeldSound (files n))
    → Follows (EmptiedIn f) (IsCrash files) (IsCrash (with_file (number_of f) (held_removed (files (number_of f))) files))
removed_follows f files all c left =
    let h : HeldState = held_removed (files (number_of f)) in
    let step = held_before_removal (files (number_of f)) (c f) (all (number_of f)) (left_here f h files c left) in (
      with_bytes f step.0 c,
      crash_before f h files step.0 c step.1 left,
      record {
        either = ⊎_elim (λ same. inl (same ∙ sym (bytes_with f step.0 c))) (λ none. inr none) step.2;
        same = λ g other. sym (bytes_other g f step.0 c other);
      },
    )

-- a cut leaves one image
cut_only_file : (choice number : ℕ) (h : HeldState) (c : List ℕ) → IsLeft (held_cut choice number h) c → c ≡ (held_cut choice number h).file.seen
cut_only_file zero number h c left = kept_only h c left
cut_only_file (suc n) number h c (inl image) = cut_only_one (suc n) number (first_of h.before h.file) c image
cut_only_file (suc n) number h c (inr none) = absurd none

pub cut_only : (choice : ℕ) (files : Shelf) (c : Contents) → IsCrash (apply (Cut choice) files) c → c ≡ seen_of (apply (Cut choice) files)
cut_only choice files c left i f = cut_only_file choice (number_of f) (files (number_of f)) (c f) (left f) i

pub cut_fewer : (choice : ℕ) (files : Shelf) → ((n : ℕ) → IsHeldSound (files n)) → (c : Contents) → IsCrash (apply (Cut choice) files) c → IsCrash files c
cut_fewer choice files all c left f =
    subst (IsLeft (files (number_of f))) (sym (cut_only_file choice (number_of f) (files (number_of f)) (c f) (left f)))
    (cut_left choice (number_of f) (files (number_of f)) (all (number_of f)))

-- which files are going
pub going_cut : (choice number : ℕ) (h : HeldState) → IsGoing (held_cut choice number h).before → ⊥
going_cut zero number h going = going
going_cut (suc n) number h going = going

pub going_same : (f g : FileKey) (h : HeldState) (files : Shelf)
    → (IsGoing h.before → IsGoing (files (number_of f)).before)
    → IsGoing (with_file (number_of f) h files (number_of g)).before → IsGoing (files (number_of g)).before
going_same f g h files here going = ⊎_elim (λ is. at_file is) (λ differ. there differ) (by_number g f)
  where
    at_file : g ≡ f → IsGoing (files (number_of g)).before
    at_file is =
        subst (λ (k : FileKey). IsGoing (files (number_of k)).before) (sym is)
        (here (subst (λ (k : HeldState). IsGoing k.before) (file_with f h files) (subst (λ (k : FileKey). IsGoing (with_file (number_of f) h files (number_of k)).before) is going)))

    there : (number_of g == number_of f) ≡ false → IsGoing (files (number_of g)).before
    there differ = subst (λ (k : HeldState). IsGoing k.before) (ap (λ (b : Bool). if b then h else files (number_of g)) differ) going

pub going_one : (f g : FileKey) (h : HeldState) (files : Shelf)
    → IsGoing (with_file (number_of f) h files (number_of g)).before → (g ≡ f) ⊎ IsGoing (files (number_of g)).before
going_one f g h files going =
    ⊎_elim (λ is. inl is)
    (λ differ. inr (subst (λ (k : HeldState). IsGoing k.before) (ap (λ (b : Bool). if b then h else files (number_of g)) differ) going)) (by_number g f)

pub going_none : (f : FileKey) (files : Shelf) → IsGoing (with_file (number_of f) (held_kept (files (number_of f))) files (number_of f)).before → ⊥
going_none f files going = subst (λ (k : HeldState). IsGoing k.before) (file_with f (held_kept (files (number_of f))) files) going
