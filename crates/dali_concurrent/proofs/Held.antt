-- What others leave of a region of which a client amid a call has the live hold.
use Rattle.std.proofs.Common.{◌≡◌, ℕ, zero, suc, Bool, true, false, List, [], ◌∷◌, ◌++◌, length, Option, Some, None, refl, ap, sym, subst, ◌∙◌, inl, inr, arith}
use Rattle.std.specs.Prelude.{slice_get, slice_set, ◌==◌, ◌&&◌, if◌then◌else◌}
use Rattle.std.specs.List.{list_all}
use Rattle.std.proofs.lemmas.List.{append-nil, append_assoc}
use Rattle.std.proofs.lemmas.List.Sums.{fold-append}
use Rattle.std.proofs.lemmas.Option.{slice_get_within}
use Rattle.std.proofs.lemmas.Bool.{eqb-true, and_parts}
use Rattle.dali_lists.proofs.Lists.{get_within, get_behind, get_set, get_set_other}
use Rattle.dali_lists.proofs.Tests.{not_both_ways}
use Rattle.dali_lists.proofs.Numbers.{eqb-self}
use Rattle.dali_runs.proofs.CountsLemmas.Lists.{some_same}
use Rattle.dali_region.specs.State.{RegionState, touched, checked, dead, taken_back}
use Rattle.dali_region.specs.Answers.{cleaned}
use Rattle.dali_runs.specs.State.{CoreState}
use Rattle.dali_runs.specs.Run.{Bases}
use Rattle.dali_runs.specs.Regions.{RegionStep, Poke, Check, Clean, region_after}
use Rattle.dali_runs.specs.Courses.{Step, Operates, TakesBack, Frees, OnRegion, Passes, Dies, Recovers}
use Rattle.dali_runs.specs.Parts.Regions.{WhereHere, IsRegionStep}
use Rattle.dali_runs.proofs.PartsLemmas.Regions.{regions_leave, step_has_region}
use Rattle.dali_crash.specs.Checkpoints.{StoreStep, Does, Keeps, Copies, Skips, Turns, CopyFails, TurnFails, Point, IsPointStep, IsPointCourse, target}
use Rattle.dali_notes.specs.History.{In, signs}
use Rattle.dali_concurrent.specs.Entries.{Entry, client_note, notes_of, live_by}
use Rattle.dali_concurrent.specs.Rules.{Outset, count_of}
use Rattle.dali_concurrent.specs.Told.{Line, History, plain, plain_one, core_told}
use Rattle.dali_concurrent.specs.Landing.{BeginsAt}
use Rattle.dali_concurrent.specs.Sorts.{after_one, after_all}
use Rattle.dali_concurrent.specs.Kept.{wants, is_outside, writes_to, is_wanted, Follows, AllFollow}
use Rattle.dali_concurrent.specs.Amid.{IsOfOthers, HeldRegionStays}
use Rattle.dali_concurrent.proofs.Lists.{take_length, each_front}
use Rattle.dali_concurrent.proofs.Entries.{not_signed}
use Rattle.dali_concurrent.proofs.Told.{plain-append}
use Rattle.dali_concurrent.proofs.Kept.{stands_of}
use Rattle.dali_concurrent.proofs.Amid.{unwanted, no_dead_there, hold_on}

-- by such steps g became what stands there
abbrev Outside : RegionState → Option RegionState → Type 0
Outside g q = (xs : List RegionStep) × (list_all is_outside xs ≡ true) × (q ≡ Some (after_all xs g))

none_made : (g : RegionState) (q : Option RegionState) → q ≡ Some g → Outside g q
none_made g q e = ([], refl, e)

all_both : (xs ys : List RegionStep) → list_all is_outside xs ≡ true → list_all is_outside ys ≡ true → list_all is_outside (xs ++ ys) ≡ true
all_both [] ys a b = b
all_both (x ∷ xs) ys a b =
    let both = and_parts (is_outside x) (list_all is_outside xs) a in
    ap (λ k. k && list_all is_outside (xs ++ ys)) both.0 ∙ all_both xs ys both.1 b

further : (g : RegionState) (q r : Option RegionState) → Outside g q → ((h : RegionState) → q ≡ Some h → Outside h r) → Outside g r
further g q r a more =
    let b = more (after_all a.0 g) a.2 in
    (a.0 ++ b.0, all_both a.0 b.0 a.1 b.1, b.2 ∙ ap (λ h. Some h) (sym (fold-append after_one g a.0 b.0)))

-- ---- one step
where_here : (b : Bool) (g : RegionState) (P : Type 0) (k h : RegionState) → WhereHere b g P k h → (b ≡ true → Outside g (Some k)) → Outside g (Some h)
where_here true g P k h w made = subst (λ z. Outside g (Some z)) (sym w.1) (made refl)
where_here false g P k h w made = none_made g (Some h) (ap (λ z. Some z) w)

one_made : (x : RegionStep) (g : RegionState) → is_outside x ≡ true → Outside g (Some (region_after x g))
one_made x g e = (x ∷ [], ap (λ b. b && true) e, refl)

module _ (r : ℕ) where
  abbrev Spares : StoreStep → Type 0
  Spares x = writes_to x ≡ Some r → ⊥

  not_here : (q : ℕ) (g k : RegionState) → (Some q ≡ Some r → ⊥) → (q == r) ≡ true → Outside g (Some k)
  not_here q g k spares is = absurd (spares (ap (λ n. Some n) (eqb-true q r is)))

  by_step : (g : RegionState) (x : Step) (h : RegionState) → Spares (Does x) → IsRegionStep r g x h → Outside g (Some h)
  by_step g (Operates t b) h spares s = where_here (b.region == r) g _ (touched g) h s (not_here b.region g (touched g) spares)
  by_step g (TakesBack t b) h spares s = where_here (b.region == r) g _ (touched g) h s (not_here b.region g (touched g) spares)
  by_step g (Frees t b) h spares s = where_here (b.region == r) g _ (touched g) h s (not_here b.region g (touched g) spares)
  by_step g (OnRegion q x) h spares s = where_here (q == r) g _ (region_after x g) h s (λ here. by_kind (is_outside x) refl here)
    where
      by_kind : (b : Bool) → is_outside x ≡ b → (q == r) ≡ true → Outside g (Some (region_after x g))
      by_kind true e here = one_made x g e
      by_kind false e here = absurd (spares (ap (λ k. if k then None else Some q) e ∙ ap (λ n. Some n) (eqb-true q r here)))
  by_step g (Passes b q) h spares s = where_here (q == r) g _ (checked g) h s (λ here. one_made Check g refl)
  by_step g (Dies t (Some q)) h spares s = where_here (q == r) g _ (dead g) h s (not_here q g (dead g) spares)
  by_step g (Recovers q) h spares s = where_here (q == r) g _ (taken_back g) h s (not_here q g (taken_back g) spares)
  by_step g x h spares s = none_made g (Some h) (ap (λ z. Some z) s)

  same_regions : (p q : Point) (g : RegionState) → slice_get p.core.regions r ≡ Some g → q.core.regions ≡ p.core.regions → Outside g (slice_get q.core.regions r)
  same_regions p q g at e = none_made g (slice_get q.core.regions r) (ap (λ l. slice_get l r) e ∙ at)

  by_point : (p q : Point) (x : StoreStep) (g : RegionState) → Spares x → IsPointStep p x q → slice_get p.core.regions r ≡ Some g → Outside g (slice_get q.core.regions r)
  by_point p q (Does x) g spares step at =
      let count : length q.core.regions ≡ length p.core.regions = (regions_leave p.log q.log p.core q.core x step.1.0).0 in
      let h = get_within q.core.regions r (let low = slice_get_within p.core.regions r g at in omega (arith, low, count)) in
      subst (Outside g) (sym h.1) (by_step g x h.0 spares (step_has_region p.log q.log p.core q.core x r g h.0 step.1.0 at h.1))
  by_point p q (Copies k n) g spares step at =
      subst (λ (z : Point). Outside g (slice_get z.core.regions r)) (sym step.5) (by_place (k == r) refl)
    where
      old : RegionState
      old = step.0

      by_place : (b : Bool) → (k == r) ≡ b → Outside g (slice_get (slice_set p.core.regions k (cleaned (target p) step.0)) r)
      by_place true e =
          let same : k ≡ r = eqb-true k r e in
          let is : step.0 ≡ g = some_same (sym (subst (λ n. slice_get p.core.regions n ≡ Some step.0) same step.1) ∙ at) in
          subst (Outside g) (sym (subst (λ n. slice_get (slice_set p.core.regions k (cleaned (target p) step.0)) n ≡ Some (cleaned (target p) step.0)) same (get_set p.core.regions k step.0 (cleaned (target p) step.0) step.1)))
          (subst (λ z. Outside g (Some (cleaned (target p) z))) (sym is) (one_made (Clean (target p)) g refl))
      by_place false e =
          none_made g (slice_get (slice_set p.core.regions k (cleaned (target p) step.0)) r)
          (get_set_other p.core.regions k (cleaned (target p) step.0) r (λ same. not_both_ways (subst (λ n. (k == n) ≡ true) same (eqb-self k)) e) ∙ at)
  by_point p q Keeps g spares step at = same_regions p q g at (ap (λ (z : Point). z.core.regions) step.4)
  by_point p q (Skips k n) g spares step at = same_regions p q g at (ap (λ (z : Point). z.core.regions) step.5)
  by_point p q Turns g spares step at = same_regions p q g at (ap (λ (z : Point). z.core.regions) step.5)
  by_point p q (CopyFails k ws n) g spares step at = same_regions p q g at (ap (λ (z : Point). z.core.regions) step.4)
  by_point p q (TurnFails n) g spares step at = same_regions p q g at (ap (λ (z : Point). z.core.regions) step.5)
  by_point p q _ g spares step at = same_regions p q g at (ap (λ (z : Point). z.core.regions) step.1)

  by_course : (p q : Point) (xs : List StoreStep) (g : RegionState) → ((i : ℕ) (x : StoreStep) → slice_get xs i ≡ Some x → Spares x) → IsPointCourse p xs q → slice_get p.core.regions r ≡ Some g
      → Outside g (slice_get q.core.regions r)
  by_course p q [] g spares course at = none_made g (slice_get q.core.regions r) (ap (λ (z : Point). slice_get z.core.regions r) (sym course) ∙ at)
  by_course p q (x ∷ xs) g spares course at =
      further g (slice_get course.0.core.regions r) (slice_get q.core.regions r) (by_point p course.0 x g (spares zero x refl) course.1 at)
      (λ h there. by_course course.0 q xs h (λ i y e. spares (suc i) y e) course.2 there)

-- ---- one entry
pub spared : (r : ℕ) (e : Entry) (xs : List StoreStep) → list_all (λ x. is_wanted e (writes_to x)) xs ≡ true → wants r e ≡ false → (i : ℕ) (x : StoreStep) → slice_get xs i ≡ Some x → writes_to x ≡ Some r → ⊥
spared r e [] all none i x at to = absurd (cc)
spared r e (y ∷ xs) all none zero x at to =
    let both = and_parts (is_wanted e (writes_to y)) (list_all (λ x. is_wanted e (writes_to x)) xs) all in
    not_both_ways (subst (λ o. is_wanted e o ≡ true) (ap writes_to (some_same at) ∙ to) both.0) none
spared r e (y ∷ xs) all none (suc i) x at to =
    spared r e xs (and_parts (is_wanted e (writes_to y)) (list_all (λ x. is_wanted e (writes_to x)) xs) all).1 none i x at to

module _ (bases : Bases) (p : Point) (o : Outset) (r t c : ℕ) (begins : BeginsAt bases p o) where
  one : (A : History) (e : Line) → AllFollow bases p o A → Follows bases p o A e → signs (client_note (count_of o) c) e.0 ≡ false → live_by r (plain A) ≡ Some (t, c)
      → (g : RegionState) → slice_get (core_told o A).regions r ≡ Some g
      → (live_by r (plain (A ++ e ∷ [])) ≡ Some (t, c)) × Outside g (slice_get (core_told o (A ++ e ∷ [])).regions r)
  one A e all f unsigned live g at =
      let quiet : signs (client_note (count_of o) c) (notes_of (count_of o) e.1.0) ≡ false =
      not_signed (client_note (count_of o) c) (notes_of (count_of o) e.1.0) e.0 (f.fits.by (client_note (count_of o) c)) unsigned in
      let none : wants r e.1.0 ≡ false = unwanted o r t c (plain A) (plain_one e) f.fits quiet live (no_dead_there o r t c (plain A) live) in
      let stands = stands_of bases p o A begins all in
      let lands = f.lands stands.0 stands.1 in (
        ap (live_by r) (plain-append A (e ∷ [])) ∙ hold_on o r t c (plain A) (plain_one e) f.fits quiet live,
        subst (λ (d : CoreState). Outside g (slice_get d.regions r)) lands.1.core
            (by_course r stands.0 lands.0 e.1.2 g (spared r e.1.0 e.1.2 f.writes none) lands.1.course (ap (λ (d : CoreState). slice_get d.regions r) stands.1.comes.core ∙ at)),
      )

  along : (R A : History) → AllFollow bases p o (A ++ R) → ((x : Line) → In R x → signs (client_note (count_of o) c) x.0 ≡ false) → live_by r (plain A) ≡ Some (t, c)
      → (g : RegionState) → slice_get (core_told o A).regions r ≡ Some g → Outside g (slice_get (core_told o (A ++ R)).regions r)
  along [] A all none live g at = none_made g (slice_get (core_told o (A ++ [])).regions r) (ap (λ (Z : History). slice_get (core_told o Z).regions r) (append-nil A) ∙ at)
  along (e ∷ R) A all none live g at =
      let moved : A ++ e ∷ R ≡ (A ++ e ∷ []) ++ R = sym (append_assoc A (e ∷ []) R) in
      let all_on : AllFollow bases p o ((A ++ e ∷ []) ++ R) = subst (AllFollow bases p o) moved all in
      let behind : AllFollow bases p o (A ++ e ∷ []) = each_front (Follows bases p o) (A ++ e ∷ []) R all_on in
      let early : AllFollow bases p o A = each_front (Follows bases p o) A (e ∷ []) behind in
      let follows : Follows bases p o A e = subst (λ Z. Follows bases p o Z e) (take_length A (e ∷ [])) (behind (length A) e (get_behind A e [])) in
      let first = one A e early follows (none e (zero, refl)) live g at in
      subst (λ (Z : History). Outside g (slice_get (core_told o Z).regions r)) (sym moved)
      (further g (slice_get (core_told o (A ++ e ∷ [])).regions r) (slice_get (core_told o ((A ++ e ∷ []) ++ R)).regions r) first.1
      (λ h there. along R (A ++ e ∷ []) all_on (λ x w. none x (suc w.0, w.1)) first.0 h there))

of_others : (x : RegionStep) → is_outside x ≡ true → IsOfOthers x
of_others (Poke word mask) h = inl (word, mask, refl)
of_others Check h = inr (inl refl)
of_others (Clean side) h = inr (inr (side, refl))
of_others x h = absurd (cc)

all_of_others : (xs : List RegionStep) → list_all is_outside xs ≡ true → (i : ℕ) (x : RegionStep) → slice_get xs i ≡ Some x → IsOfOthers x
all_of_others [] h i x e = absurd (cc)
all_of_others (y ∷ xs) h zero x e = subst IsOfOthers (some_same e) (of_others y (and_parts (is_outside y) (list_all is_outside xs) h).0)
all_of_others (y ∷ xs) h (suc i) x e = all_of_others xs (and_parts (is_outside y) (list_all is_outside xs) h).1 i x e

pub held_region_stays : HeldRegionStays
held_region_stays bases p o r t c seen new led is live g at =
    let w : Outside g (slice_get (core_told o new).regions r) =
    subst (λ (Z : History). Outside g (slice_get (core_told o Z).regions r)) (sym is.all)
    (along bases p o r t c led.begins is.rest seen (subst (AllFollow bases p o) is.all led.all) is.none live g at) in
    (w.0, all_of_others w.0 w.1, w.2)
