-- What is so of each file at each moment, whatever was called before.
-- Words: IsSound, AllSound. Laws: sound; what a write leaves of a file's bytes; one file among four.
use Rattle.std.specs.Prelude.{◌<◌, ◌≡◌, ◌≢◌, ◌⊎◌, ℕ, zero, suc, ◌+◌, ◌≤◌, max}
use Rattle.std.specs.Prelude.{List, [], ◌∷◌, ◌++◌, length, take, drop, refl}
use Rattle.std.proofs.Common.{get_or, sym, ◌∙◌, subst, arith, inl, inr, ⊎_elim, rules}
use Rattle.std.proofs.Common.{length-append, length-take, length-drop}
use Rattle.std.proofs.lemmas.List.{places}
use Rattle.dali_store.specs.Store.{Files}
use Rattle.dali_store.specs.declared.store.FileName.{FileName}
use Rattle.dali_store.specs.declared.store.FileName.TheVariants.{Log, ImageA, ImageB, Anchor}
use Rattle.dali_memstore.specs.declared.disk.Span.{Span}
use Rattle.dali_memstore.specs.declared.disks.Disks.{Disks}
use Rattle.dali_memstore.specs.declared.event.Event.{Event}
use Rattle.dali_memstore.specs.declared.event.Event.TheVariants.{Wrote, Synced, Cut}
use Rattle.dali_memstore.specs.State.{State, begun_with, written, wrote, kept, dropped, IsIn, cut_by}
use Rattle.dali_memstore.specs.Memory.{History, disk_of, with_disk, apply, replay, begun, disks}

-- what the last sync kept is no longer than what reads give, and the same where nothing was written since
pub record IsSound (s : State) : Type 0 where
  pub longer : length s.synced ≤ length s.seen
  pub settled : s.spans ≡ [] → s.synced ≡ s.seen
  pub agree : (i : ℕ) → i < length s.synced → (IsIn s.spans i → ⊥) → get_or s.synced i 0 ≡ get_or s.seen i 0

abbrev pub AllSound : Disks → Type 0
AllSound ds = (f : FileName) → IsSound (disk_of f ds)

-- the bytes that a write leaves
parts-written : (at : ℕ) (bytes file : List ℕ)
    → length (written at bytes file) ≡ length (take at file) + length bytes + length (drop (at + length bytes) file)
parts-written at bytes file =
    omega (arith, length-append (take at file ++ bytes) (drop (at + length bytes) file), length-append (take at file) bytes)

pub length-written : (at : ℕ) (bytes file : List ℕ) → at ≤ length file
    → length (written at bytes file) ≡ max (length file) (at + length bytes)
length-written at bytes file le =
    omega (arith, parts-written at bytes file, length-take at file, length-drop (at + length bytes) file)

longer-written : (at : ℕ) (bytes file : List ℕ) → length file ≤ length (written at bytes file)
longer-written at bytes file =
    omega (arith, parts-written at bytes file, length-take at file, length-drop (at + length bytes) file)

get-written-before : (at : ℕ) (bytes file : List ℕ) (i : ℕ) → i < at → i < length file
    → get_or (written at bytes file) i 0 ≡ get_or file i 0
get-written-before at bytes file i lt inside = search (rules, places)

get-written-behind : (at : ℕ) (bytes file : List ℕ) (i : ℕ)
    → at ≤ length file → at + length bytes ≤ i → i < length file
    → get_or (written at bytes file) i 0 ≡ get_or file i 0
get-written-behind at bytes file i le behind inside = search (rules, places)

pub untouched : (at : ℕ) (bytes file : List ℕ) (i : ℕ) → i < length file → ((at ≤ i) × (i < at + length bytes) → ⊥)
    → get_or (written at bytes file) i 0 ≡ get_or file i 0
untouched at bytes file i inside out =
    ⊎_elim (λ before. get-written-before at bytes file i before inside) from_there (lt_or_le i at)
  where
    lt_or_le : (m n : ℕ) → (m < n) ⊎ (n ≤ m)
    lt_or_le m n = grind arith

    from_there : at ≤ i → get_or (written at bytes file) i 0 ≡ get_or file i 0
    from_there from =
        ⊎_elim (λ within. absurd (out (from, within)))
        (λ behind. get-written-behind at bytes file i (omega (arith, from, inside)) behind inside)
        (lt_or_le i (at + length bytes))

-- the ranges after a write
pub in_pushed : (spans : List Span) (span : Span) (i : ℕ)
    → IsIn spans i ⊎ ((span.at ≤ i) × (i < span.at + span.count)) → IsIn (spans ++ span ∷ []) i
in_pushed [] span i (inl none) = absurd none
in_pushed [] span i (inr new) = inl new
in_pushed (s ∷ spans) span i (inl (inl here)) = inl here
in_pushed (s ∷ spans) span i (inl (inr there)) = inr (in_pushed spans span i (inl there))
in_pushed (s ∷ spans) span i (inr new) = inr (in_pushed spans span i (inr new))

some_push : {X : Type 0} (xs : List X) (x : X) → xs ++ x ∷ [] ≢ []
some_push [] x is = cc
some_push (y ∷ xs) x is = cc

-- one file
pub kept_sound : (s : State) → IsSound (kept s)
kept_sound s = record { longer = omega arith; settled = λ none. refl; agree = λ i lt out. refl }

pub dropped_sound : (s : State) → IsSound (dropped s)
dropped_sound s = record { longer = omega arith; settled = λ none. refl; agree = λ i lt out. refl }

pub cut_sound : (n f : ℕ) (s : State) → IsSound (cut_by n f s)
cut_sound zero f s = kept_sound s
cut_sound (suc zero) f s = dropped_sound s
cut_sound (suc (suc n)) f s = record { longer = omega arith; settled = λ none. refl; agree = λ i lt out. refl }

wrote_sound : (at : ℕ) (bytes : List ℕ) (s : State) → IsSound s → IsSound (wrote at bytes s)
wrote_sound at bytes s h = record {
  longer = omega (arith, h.longer, longer-written at bytes s.seen);
  settled = λ none. absurd (some_push s.spans _ none);
  agree = λ i lt out. h.agree i lt (λ old. out (in_pushed s.spans _ i (inl old)))
      ∙ sym (untouched at bytes s.seen i (omega (arith, lt, h.longer)) (λ new. out (in_pushed s.spans _ i (inr new))));
}

-- one file among four: either it is the one that is changed, or it is as before
pub same_or_other : (g f : FileName) → (g ≡ f) ⊎ (g ≢ f)
same_or_other Log Log = inl refl
same_or_other Log ImageA = inr (λ is. cc)
same_or_other Log ImageB = inr (λ is. cc)
same_or_other Log Anchor = inr (λ is. cc)
same_or_other ImageA Log = inr (λ is. cc)
same_or_other ImageA ImageA = inl refl
same_or_other ImageA ImageB = inr (λ is. cc)
same_or_other ImageA Anchor = inr (λ is. cc)
same_or_other ImageB Log = inr (λ is. cc)
same_or_other ImageB ImageA = inr (λ is. cc)
same_or_other ImageB ImageB = inl refl
same_or_other ImageB Anchor = inr (λ is. cc)
same_or_other Anchor Log = inr (λ is. cc)
same_or_other Anchor ImageA = inr (λ is. cc)
same_or_other Anchor ImageB = inr (λ is. cc)
same_or_other Anchor Anchor = inl refl

pub disk_with : (f : FileName) (s : State) (ds : Disks) → disk_of f (with_disk f s ds) ≡ s
disk_with Log s ds = refl
disk_with ImageA s ds = refl
disk_with ImageB s ds = refl
disk_with Anchor s ds = refl

pub disk_other : (g f : FileName) (s : State) (ds : Disks) → g ≢ f → disk_of g (with_disk f s ds) ≡ disk_of g ds
disk_other Log Log s ds other = absurd (other refl)
disk_other Log ImageA s ds other = refl
disk_other Log ImageB s ds other = refl
disk_other Log Anchor s ds other = refl
disk_other ImageA Log s ds other = refl
disk_other ImageA ImageA s ds other = absurd (other refl)
disk_other ImageA ImageB s ds other = refl
disk_other ImageA Anchor s ds other = refl
disk_other ImageB Log s ds other = refl
disk_other ImageB ImageA s ds other = refl
disk_other ImageB ImageB s ds other = absurd (other refl)
disk_other ImageB Anchor s ds other = refl
disk_other Anchor Log s ds other = refl
disk_other Anchor ImageA s ds other = refl
disk_other Anchor ImageB s ds other = refl
disk_other Anchor Anchor s ds other = absurd (other refl)

-- what is so of the changed file and of the others is so of each
pub each_disk : (P : FileName → State → Type 0) (f : FileName) (s : State) (ds : Disks)
    → P f s → ((g : FileName) → P g (disk_of g ds))
    → (g : FileName) → P g (disk_of g (with_disk f s ds))
each_disk P f s ds here there g = ⊎_elim changed as_before (same_or_other g f)
  where
    changed : g ≡ f → P g (disk_of g (with_disk f s ds))
    changed is =
        subst (λ (h : FileName). P h (disk_of h (with_disk f s ds))) (sym is)
        (subst (P f) (sym (disk_with f s ds)) here)

    as_before : g ≢ f → P g (disk_of g (with_disk f s ds))
    as_before other = subst (P g) (sym (disk_other g f s ds other)) (there g)

-- all files
apply_sound : (event : Event) (ds : Disks) → AllSound ds → AllSound (apply event ds)
apply_sound (Wrote file at bytes) ds all =
    each_disk (λ g s. IsSound s) file (wrote at bytes (disk_of file ds)) ds
    (wrote_sound at bytes (disk_of file ds) (all file)) all
apply_sound (Synced file) ds all =
    each_disk (λ g s. IsSound s) file (kept (disk_of file ds)) ds (kept_sound (disk_of file ds)) all
apply_sound (Cut choice) ds all = each
  where
    each : AllSound (apply (Cut choice) ds)
    each Log = cut_sound choice 0 ds.log
    each ImageA = cut_sound choice 1 ds.a
    each ImageB = cut_sound choice 2 ds.b
    each Anchor = cut_sound choice 3 ds.anchor

pub replay_sound : (events : List Event) (start : Files) → AllSound (replay events (begun start))
replay_sound events start = from events (begun start) begins
  where
    from : (events : List Event) (ds : Disks) → AllSound ds → AllSound (replay events ds)
    from [] ds all = all
    from (event ∷ events) ds all = from events (apply event ds) (apply_sound event ds all)

    begins : AllSound (begun start)
    begins Log = kept_sound (begun_with start.log)
    begins ImageA = kept_sound (begun_with start.a)
    begins ImageB = kept_sound (begun_with start.b)
    begins Anchor = kept_sound (begun_with start.anchor)

pub sound : (h : History) → AllSound (disks h)
sound h = replay_sound h.events h.start
