-- A front of what a client did that has all that is flushed has all answers and commits.
--     Ends f xs            the last number is below f
use Rattle.std.proofs.Common.{◌≡◌, ℕ, ◌<◌, ◌≤◌, ◌+◌, Bool, true, false, cond, List, [], ◌∷◌, ◌++◌, length, refl, sym, ◌∙◌, ap, subst, arith, append-nil}
use Rattle.std.specs.Prelude.{filter}
use Rattle.std.specs.List.{AllByRecursion}
use Rattle.std.proofs.lemmas.List.Elements.{filter-append}
use Rattle.dali_record.specs.declared.records.Call.{Call}
use Rattle.dali_record.specs.declared.records.Record.TheVariants.{Commit}
use Rattle.dali_transcripts.specs.World.{Logs, Happening, logged_by}
use Rattle.dali_transcripts.specs.Moves.{Receipt}
use Rattle.dali_transcripts.specs.Transcripts.{owned}
use Rattle.dali_transcripts.proofs.Rounds.{owned_append}
use Rattle.dali_served.proofs.Marks.{is_mark, marks, Marks}
use Rattle.dali_served.proofs.Owners.{high}

abbrev Ends : ℕ → List Receipt → Type 0
Ends f [] = Unit {0}
Ends f (x ∷ []) = x.0 < f
Ends f (x ∷ y ∷ ys) = Ends f (y ∷ ys)

ends_append : (f : ℕ) (xs : List Receipt) (y : Receipt) (ys : List Receipt) → Ends f (y ∷ ys) → Ends f (xs ++ y ∷ ys)
ends_append f [] y ys h = h
ends_append f (x ∷ []) y ys h = h
ends_append f (x ∷ z ∷ zs) y ys h = ends_append f (z ∷ zs) y ys h

one_more : (f : ℕ) (x : Receipt) (xs : List Receipt) → x.0 < f → Ends f xs → Ends f (x ∷ xs)
one_more f x [] lt h = lt
one_more f x (y ∷ ys) lt h = h

marks_end : (f : ℕ) (css : List (List Call)) (xs : List Receipt) → Marks f css xs → Ends f xs
marks_end f [] xs m = subst (Ends f) (sym m) tt
marks_end f (cs ∷ css) xs m =
    let last : Receipt = (m.1, Logs (Commit m.0)) in
    subst (Ends f) (sym m.7) (ends_append f m.2 last m.3 (one_more f last m.3 m.5 (marks_end f css m.3 m.6)))

ends_behind : (f : ℕ) (xs : List Receipt) (y : Receipt) (ys : List Receipt) → Ends f (xs ++ y ∷ ys) → Ends f (y ∷ ys)
ends_behind f [] y ys h = h
ends_behind f (x ∷ []) y ys h = h
ends_behind f (x ∷ z ∷ zs) y ys h = ends_behind f (z ∷ zs) y ys h

none_high : (f : ℕ) (y : Receipt) (ys : List Receipt) → Ends f (y ∷ ys) → AllByRecursion (λ (x : Receipt). f ≤ x.0) (y ∷ ys) → ⊥
none_high f y [] h all = omega (arith, h, all.0)
none_high f y (z ∷ zs) h all = none_high f z zs h all.1

none_late : (f : ℕ) (xs ys : List Receipt) → Ends f (xs ++ ys) → AllByRecursion (λ (x : Receipt). f ≤ x.0) ys → ys ≡ []
none_late f xs [] h all = refl
none_late f xs (y ∷ ys) h all = absurd (none_high f y ys (ends_behind f xs y ys h) all)

all_filtered : (P : Receipt → Type 0) (p : Receipt → Bool) (xs : List Receipt) → AllByRecursion P xs → AllByRecursion P (filter p xs)
all_filtered P p [] all = tt
all_filtered P p (x ∷ xs) all = by_test (all_filtered P p xs all.1) (p x)
  where
    by_test : AllByRecursion P (filter p xs) → (b : Bool) → AllByRecursion P (cond b (x ∷ filter p xs) (filter p xs))
    by_test rest true = (all.0, rest)
    by_test rest false = rest

pub front_marked : (f c n : ℕ) (css : List (List Call)) (xs ys : List Happening) → f ≤ n + length (logged_by xs) → Marks f css (marks (owned c n (xs ++ ys))) → Marks f css (marks (owned c n xs))
front_marked f c n css xs ys le m =
    let front = marks (owned c n xs) in
    let late = marks (owned c (n + length (logged_by xs)) ys) in
    let parts : marks (owned c n (xs ++ ys)) ≡ front ++ late = ap marks (owned_append c n xs ys) ∙ filter-append is_mark (owned c n xs) (owned c (n + length (logged_by xs)) ys) in
    let whole : Marks f css (front ++ late) = subst (Marks f css) parts m in
    let none : late ≡ [] = none_late f front late (marks_end f css (front ++ late) whole) (all_filtered (λ (x : Receipt). f ≤ x.0) is_mark (owned c (n + length (logged_by xs)) ys) (high c f (n + length (logged_by xs)) ys le)) in
    subst (Marks f css) (append-nil front) (subst (λ l. Marks f css (front ++ l)) none whole)
