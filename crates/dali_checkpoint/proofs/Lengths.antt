-- No image file becomes shorter, so what it reaches it goes on to reach.
use Rattle.std.proofs.Common.{◌≡◌, ℕ, zero, suc, ◌+◌, ◌-◌, ◌<◌, ◌≤◌, false, List, length, Option, Some, None, IfSome, refl, ap, sym, subst, ◌∙◌, ⊎_elim, arith, length-append, inl, inr}
use Rattle.std.specs.Prelude.{◌⊎◌, ◌++◌, take, drop, slice_get, slice_set}
use Rattle.std.proofs.lemmas.List.{length-take-le, length-drop}
use Rattle.dali_lists.proofs.Lists.{set_cases, get_within}
use Rattle.dali_region.specs.declared.Side.{Side}
use Rattle.dali_region.specs.declared.Side.TheVariants.{A, B}
use Rattle.dali_region.specs.State.{RegionState}
use Rattle.dali_region.specs.Answers.{is_dirty, cleaned}
use Rattle.dali_store.specs.Store.{Files as Disk, file_of, Holds, HoldsIn}
use Rattle.dali_crash.specs.Disks.Disks.{image_file, image_name}
use Rattle.dali_crash.specs.Disks.Places.{place_of}
use Rattle.dali_core.specs.Vault.Vaulted.{Vaulted}
use Rattle.dali_core.specs.Cores.{HoldsPlaces}
pub use Rattle.dali_core.proofs.Lengths.{no_shorter_tells, same_length, torn_length, then_length, torn_unless_stopped, places_stay}
use Rattle.dali_checkpoint.specs.Done.{Reaches}
use Rattle.dali_core.specs.Cores.{NoShorter}
use Rattle.dali_checkpoint.specs.Runs.{is_first_dirty, run_of, AreNext, change}
use Rattle.dali_checkpoint.proofs.Pieces.{change_cases, run_clean, run_length, run_some}
use Rattle.dali_checkpoint.proofs.Results.{place_there}

pub reaches_told : (o p : Option Disk) (side : Side) (n : ℕ) → NoShorter o p → IfSome o (λ fs. place_of n ≤ length (image_file side fs)) → IfSome p (λ fs. place_of n ≤ length (image_file side fs))
reaches_told (Some a) (Some b) side n s r = omega (arith, s side, r)
reaches_told (Some a) None side n s r = tt
reaches_told None (Some b) side n s r = absurd (cc)
reaches_told None None side n s r = tt

pub reaches_on : {V : Type 0} (told : V → Option Disk) (side : Side) (n : ℕ) (v w : Vaulted V) → NoShorter (told v.store) (told w.store) → Reaches told side n v → Reaches told side n w
reaches_on told side n v w s r = reaches_told (told v.store) (told w.store) side n s r

-- the region with the number r was cleaned for one side
clean_cases : (side other : Side) (g : RegionState) → is_dirty (cleaned side g) other ≡ false → (other ≡ side) ⊎ (is_dirty g other ≡ false)
clean_cases A A g e = inl refl
clean_cases A B g e = inr e
clean_cases B A g e = inr e
clean_cases B B g e = inl refl

-- ---- the region that was copied
copied_place : (gs : List RegionState) (r : ℕ) (side : Side) (g : RegionState) (a b : Disk) → slice_get gs r ≡ Some g → ((s : Side) → length (image_file s a) ≤ length (image_file s b))
    → place_of (r + 1) ≤ length (image_file side b)
    → HoldsPlaces gs a → HoldsPlaces (slice_set gs r (cleaned side g)) b
copied_place gs r side g a b at long there holds = λ s q h is clean. ⊎_elim (here s q h clean) (other s q h clean) (set_cases gs r (cleaned side g) q h is)
  where
    of_side : (s : Side) → (s ≡ side) ⊎ (is_dirty g s ≡ false) → place_of (r + 1) ≤ length (image_file s b)
    of_side s same = ⊎_elim
        (λ e. subst (λ z. place_of (r + 1) ≤ length (image_file z b)) (sym e) there)
        (λ clean. omega (arith, long s, holds s r g at clean)) same

    here : (s : Side) (q : ℕ) (h : RegionState) → is_dirty h s ≡ false → (q ≡ r) × (h ≡ cleaned side g) → place_of (q + 1) ≤ length (image_file s b)
    here s q h clean e = subst (λ n. place_of (n + 1) ≤ length (image_file s b)) (sym e.0) (of_side s (clean_cases side s g (ap (λ z. is_dirty z s) (sym e.1) ∙ clean)))

    other : (s : Side) (q : ℕ) (h : RegionState) → is_dirty h s ≡ false → ((r ≡ q → ⊥) × (slice_get gs q ≡ Some h)) → place_of (q + 1) ≤ length (image_file s b)
    other s q h clean e = omega (arith, long s, holds s q h e.1 clean)

pub copied_places : (o p : Option Disk) (gs : List RegionState) (r : ℕ) (side : Side) (g : RegionState) → slice_get gs r ≡ Some g → NoShorter o p
    → IfSome p (λ fs. place_of (r + 1) ≤ length (image_file side fs))
    → IfSome o (HoldsPlaces gs) → IfSome p (HoldsPlaces (slice_set gs r (cleaned side g)))
copied_places (Some a) (Some b) gs r side g at long there holds = copied_place gs r side g a b at long there holds
copied_places (Some a) None gs r side g at long there holds = tt
copied_places None (Some b) gs r side g at long there holds = absurd (cc)
copied_places None None gs r side g at long there holds = tt

-- ---- a run of regions that was copied
copied_run : (gs : List RegionState) (i n : ℕ) (side : Side) (a b : Disk) → ((s : Side) → length (image_file s a) ≤ length (image_file s b)) → place_of (i + n) ≤ length (image_file side b)
    → HoldsPlaces gs a → HoldsPlaces (change (cleaned side) i n gs) b
copied_run gs i n side a b long there holds s r h at clean =
    let k = change_cases (cleaned side) i n gs r h at in
    ⊎_elim (λ e. of_side k.0 k.1 e.0 (clean_cases side s k.0 (ap (λ z. is_dirty z s) (sym e.1) ∙ clean)))
    (λ e. omega (arith, long s, holds s r k.0 k.1 (ap (λ z. is_dirty z s) (sym e) ∙ clean))) k.2
  where
    of_side : (g : RegionState) → slice_get gs r ≡ Some g → r < i + n → (s ≡ side) ⊎ (is_dirty g s ≡ false) → place_of (r + 1) ≤ length (image_file s b)
    of_side g is lt same = ⊎_elim
        (λ e. let far : place_of (i + n) ≤ length (image_file s b) = subst (λ z. place_of (i + n) ≤ length (image_file z b)) (sym e) there in omega (arith, far, lt))
        (λ other. omega (arith, long s, holds s r g is other)) same

pub run_places : (o p : Option Disk) (gs : List RegionState) (i n : ℕ) (side : Side) → NoShorter o p → IfSome p (λ fs. place_of (i + n) ≤ length (image_file side fs))
    → IfSome o (HoldsPlaces gs) → IfSome p (HoldsPlaces (change (cleaned side) i n gs))
run_places (Some a) (Some b) gs i n side long there holds = copied_run gs i n side a b long there holds
run_places (Some a) None gs i n side long there holds = tt
run_places None (Some b) gs i n side long there holds = absurd (cc)
run_places None None gs i n side long there holds = tt

-- where its flags were clear
pub clear_reaches : (o : Option Disk) (gs : List RegionState) (i : ℕ) (side : Side) → i < length gs → is_first_dirty side (drop i gs) ≡ false → IfSome o (HoldsPlaces gs)
    → IfSome o (λ fs. place_of (i + run_of side (drop i gs)) ≤ length (image_file side fs))
clear_reaches o gs i side lt clean holds =
    subst (λ n. IfSome o (λ fs. place_of n ≤ length (image_file side fs))) (let e : i + (run_of side (drop i gs) - 1) + 1 ≡ i + run_of side (drop i gs) = omega (arith, some) in e)
    (place_there o gs side (i + (run_of side (drop i gs) - 1)) last.0 last.1 holds (run_clean side i gs clean (run_of side (drop i gs) - 1) last.0 (omega (arith, some)) last.1))
  where
    some : 0 < run_of side (drop i gs)
    some = run_some side (drop i gs) (omega (arith, length-drop i gs, lt))

    last : (g : RegionState) × (slice_get gs (i + (run_of side (drop i gs) - 1)) ≡ Some g)
    last = get_within gs (i + (run_of side (drop i gs) - 1)) (omega (arith, some, run_length side (drop i gs), length-drop i gs, lt))

pub next_reaches : (o : Option Disk) (gs : List RegionState) (i : ℕ) (side : Side) (run : List RegionState) → AreNext side false gs i run → IfSome o (HoldsPlaces gs)
    → IfSome o (λ fs. place_of i ≤ length (image_file side fs)) → IfSome o (λ fs. place_of (i + length run) ≤ length (image_file side fs))
next_reaches o gs i side run next holds at = by_count (length run) refl
  where
    by_count : (n : ℕ) → length run ≡ n → IfSome o (λ fs. place_of (i + length run) ≤ length (image_file side fs))
    by_count zero none = subst (λ n. IfSome o (λ fs. place_of n ≤ length (image_file side fs))) (let e : i ≡ i + length run = omega (arith, none) in e) at
    by_count (suc n) some =
        let last = get_within run n (omega (arith, some)) in
        let there = next n last.0 last.1 in
        subst (λ m. IfSome o (λ fs. place_of m ≤ length (image_file side fs))) (let e : i + n + 1 ≡ i + length run = omega (arith, some) in e) (place_there o gs side (i + n) last.0 there.0 holds there.1)

-- ---- bytes that were written
held_length : (at : ℕ) (bytes old new : List ℕ) → at ≤ length old → Holds old at bytes new → at + length bytes ≤ length new
held_length at bytes old new inside holds =
    let all : length new ≡ (length (take at old) + length bytes) + length (drop (at + length bytes) old) = ap length holds ∙ (length-append (take at old ++ bytes) (drop (at + length bytes) old) ∙ ap (λ n. n + length (drop (at + length bytes) old)) (length-append (take at old) bytes)) in
    let front : length (take at old) ≡ at = length-take-le at old inside in
    omega (arith, all, front)

written_one : (side : Side) (at : ℕ) (bytes : List ℕ) (a b : Disk) → at ≤ length (image_file side a) → Holds (file_of (image_name side) a) at bytes (file_of (image_name side) b) → at + length bytes ≤ length (image_file side b)
written_one A at bytes a b inside holds = held_length at bytes a.a b.a inside holds
written_one B at bytes a b inside holds = held_length at bytes a.b b.b inside holds

pub written_reaches : (side : Side) (at n : ℕ) (bytes : List ℕ) (o p : Option Disk) → place_of n ≤ at + length bytes → IfSome o (λ fs. at ≤ length (image_file side fs)) → HoldsIn (image_name side) at bytes o p → IfSome p (λ fs. place_of n ≤ length (image_file side fs))
written_reaches side at n bytes (Some a) (Some b) e inside holds = omega (arith, e, written_one side at bytes a b inside holds.0)
written_reaches side at n bytes (Some a) None e inside holds = tt
written_reaches side at n bytes None (Some b) e inside holds = absurd (cc)
written_reaches side at n bytes None None e inside holds = tt

-- a file by its name
pub by_name : (o : Option Disk) (side : Side) (at : ℕ) → IfSome o (λ fs. at ≤ length (image_file side fs)) → IfSome o (λ fs. at ≤ length (file_of (image_name side) fs))
by_name (Some a) A at e = e
by_name (Some a) B at e = e
by_name None side at e = tt

pub at_start : (o : Option Disk) (side : Side) → IfSome o (λ fs. 0 ≤ length (image_file side fs))
at_start (Some a) side = omega arith
at_start None side = tt
