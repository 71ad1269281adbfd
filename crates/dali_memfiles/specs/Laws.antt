-- What the laws of files in memory rest on.
use Rattle.std.specs.Prelude.{◌≡◌, ◌≤◌, ◌⊎◌, ◌==◌, if◌then◌else◌, ℕ, zero, suc, Bool, true, false, List, [], ◌∷◌, length, Option, Some, None, IfSome, refl}
use Rattle.std.proofs.Common.{sym, subst, arith, inl, inr}
use Rattle.std.proofs.lemmas.List.{take_all}
use Rattle.std.proofs.lemmas.Bool.Decides.{nat_tests}
use Rattle.dali_files.specs.Files.{Contents}
use Rattle.dali_files.specs.declared.key.FileKey.{FileKey}
use Rattle.dali_disk.specs.State.{State, begun_with, IsImage, cut_by}
use Rattle.dali_disk.specs.Sound.{IsSound, kept_sound, cut_sound, wrote_sound}
use Rattle.dali_disk.specs.Laws.{seen_image, cut_image}
use Rattle.dali_memfiles.specs.declared.event.Event.{Event}
use Rattle.dali_memfiles.specs.declared.event.Event.TheVariants.{Wrote, Synced, Removed, Cut}
use Rattle.dali_memfiles.specs.Held.{HeldState, no_file, first_of, held_wrote, held_kept, held_removed, held_cut, IsLeft, IsBefore, IsGoing, IsHeldSound}
use Rattle.dali_memfiles.specs.Shelf.{number_of, Shelf, with_file, apply, replay, shelf, seen_of, IsCrash, LeftSince}

-- one file
none_sound : IsHeldSound no_file
none_sound = record { file = kept_sound (begun_with []); before = tt }

pub first_sound : (before : Option State) (file : State) → IfSome before (λ s. IsSound s) → IsSound file → IsSound (first_of before file)
first_sound None file before_is is = is
first_sound (Some s) file before_is is = before_is

pub held_wrote_sound : (at : ℕ) (bytes : List ℕ) (h : HeldState) → IsHeldSound h → IsHeldSound (held_wrote at bytes h)
held_wrote_sound at bytes h is = record { file = wrote_sound at bytes h.file is.file; before = is.before }

pub held_kept_sound : (h : HeldState) → IsHeldSound (held_kept h)
held_kept_sound h = record { file = kept_sound h.file; before = tt }

pub held_removed_sound : (h : HeldState) → IsHeldSound h → IsHeldSound (held_removed h)
held_removed_sound h is = record { file = kept_sound (begun_with []); before = first_sound h.before h.file is.before is.file }

pub held_cut_sound : (choice number : ℕ) (h : HeldState) → IsHeldSound (held_cut choice number h)
held_cut_sound zero number h = held_kept_sound h
held_cut_sound (suc n) number h = record { file = cut_sound (suc n) number (first_of h.before h.file); before = tt }

-- what is so of the changed file and of the others is so of each
pub each_file : (P : ℕ → HeldState → Type 0) (n : ℕ) (h : HeldState) (files : Shelf)
    → P n h → ((m : ℕ) → P m (files m)) → (m : ℕ) → P m (with_file n h files m)
each_file P n h files here there m = by_test (m == n) refl
  where
    by_test : (b : Bool) → (m == n) ≡ b → P m (if b then h else files m)
    by_test true is =
        let same : n ≡ m = grind (arith, nat_tests) in
        subst (λ (k : ℕ). P k h) same here
    by_test false is = there m

-- all files
apply_sound : (event : Event) (files : Shelf) → ((n : ℕ) → IsHeldSound (files n)) → (n : ℕ) → IsHeldSound (apply event files n)
apply_sound (Wrote file at bytes) files all =
    each_file (λ n h. IsHeldSound h) (number_of file) (held_wrote at bytes (files (number_of file))) files
    (held_wrote_sound at bytes (files (number_of file)) (all (number_of file))) all
apply_sound (Synced file) files all =
    each_file (λ n h. IsHeldSound h) (number_of file) (held_kept (files (number_of file))) files (held_kept_sound (files (number_of file))) all
apply_sound (Removed file) files all =
    each_file (λ n h. IsHeldSound h) (number_of file) (held_removed (files (number_of file))) files
    (held_removed_sound (files (number_of file)) (all (number_of file))) all
apply_sound (Cut choice) files all = λ n. held_cut_sound choice n (files n)

replay_sound : (events : List Event) (files : Shelf) → ((n : ℕ) → IsHeldSound (files n)) → (n : ℕ) → IsHeldSound (replay events files n)
replay_sound [] files all = all
replay_sound (event ∷ events) files all = replay_sound events (apply event files) (apply_sound event files all)

pub sound : (events : List Event) (n : ℕ) → IsHeldSound (shelf events n)
sound events = replay_sound events (λ n. no_file) (λ n. none_sound)

-- what reads give is one of the things that a crash may leave
pub seen_crash : (files : Shelf) → ((n : ℕ) → IsHeldSound (files n)) → IsCrash files (seen_of files)
seen_crash files all f = inl (seen_image (files (number_of f)).file (all (number_of f)).file)

-- of a file that isn't going, no such thing is longer than the file
left_no_longer : (h : HeldState) (c : List ℕ) → IsLeft h c → (IsGoing h.before → ⊥) → length c ≤ length h.file.seen
left_no_longer h c (inl image) stays = image.no_longer
left_no_longer h c (inr old) stays = absurd (was_going h.before old stays)
  where
    was_going : (before : Option State) → IsBefore before c → (IsGoing before → ⊥) → ⊥
    was_going None none stays = none
    was_going (Some s) image stays = stays tt

pub no_longer_law : (files : Shelf) (c : Contents) → IsCrash files c → (f : FileKey) → (IsGoing (files (number_of f)).before → ⊥) → length (c f) ≤ length (seen_of files f)
no_longer_law files c left f stays = left_no_longer (files (number_of f)) (c f) (left f) stays

-- what a cut makes of a file is one of these things
first_image : (before : Option State) (file : State) (c : List ℕ) → IsImage (first_of before file) c → IsImage file c ⊎ IsBefore before c
first_image None file c image = inl image
first_image (Some s) file c image = inr image

pub cut_left : (choice number : ℕ) (h : HeldState) → IsHeldSound h → IsLeft h (held_cut choice number h).file.seen
cut_left zero number h is = inl (seen_image h.file is.file)
cut_left (suc n) number h is =
    first_image h.before h.file (cut_by (suc n) number (first_of h.before h.file)).seen
    (cut_image (suc n) number (first_of h.before h.file) (first_sound h.before h.file is.before is.file))

pub cuts_leave_law : (choice : ℕ) (files : Shelf) → ((n : ℕ) → IsHeldSound (files n)) → IsCrash files (seen_of (apply (Cut choice) files))
cuts_leave_law choice files all f = cut_left choice (number_of f) (files (number_of f)) (all (number_of f))

-- this moment is the last one
pub counts_now_law : (events : List Event) (t : ℕ) (c : Contents) → t ≤ length events → IsCrash (shelf events) c → LeftSince events t c
counts_now_law events t c le crash =
    (length events, le, omega arith, subst (λ (es : List Event). IsCrash (shelf es) c) (sym (take_all (length events) events (omega arith))) crash)

pub only_now_law : (events : List Event) (c : Contents) → LeftSince events (length events) c → IsCrash (shelf events) c
only_now_law events c left = subst (λ (es : List Event). IsCrash (shelf es) c) (take_all left.0 events (omega (arith, left.1))) left.3
