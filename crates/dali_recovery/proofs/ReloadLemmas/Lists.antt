-- Batches and the records of one more.
use Rattle.std.proofs.Common.{◌≡◌, ℕ, Bool, true, false, List, [], ◌∷◌, ◌++◌, refl, ap, sym, ◌∙◌, drop, append_assoc}
use Rattle.std.specs.Prelude.{◌||◌, not, replicate}
use Rattle.std.specs.List.{list_all, list_any}
use Rattle.std.proofs.lemmas.List.{append-nil, drop_at, length-replicate}
use Rattle.std.proofs.lemmas.List.Concat.{flat_map-append}
use Rattle.std.proofs.lemmas.List.Folds.{list_all-append, list_any-append}
use Rattle.std.proofs.lemmas.Bool.{and_from, not-true}
use Rattle.dali_lists.proofs.Tests.{left_true, right_true}
use Rattle.dali_record.specs.declared.records.Record.{Record}
use Rattle.dali_record.specs.declared.records.Record.TheVariants.{AuditBegin}
use Rattle.dali_record.specs.Files.{is_restarted, is_restarted_first}
use Rattle.dali_record.specs.Log.{last_of}
use Rattle.dali_resume.specs.Batches.{records_of}
use Rattle.dali_resume.specs.Rules.{ends_restarted}

-- the batches, with the one that has begun
abbrev pub so_far : List (List Record) → List Record → List (List Record)
so_far front [] = front
so_far front (r ∷ rs) = front ++ (r ∷ rs) ∷ []

pub so_far_push : (front : List (List Record)) (done : List Record) (r : Record) → so_far front (done ++ r ∷ []) ≡ front ++ (done ++ r ∷ []) ∷ []
so_far_push front [] r = refl
so_far_push front (d ∷ ds) r = refl

pub records_with : (front : List (List Record)) (b : List Record) (more : List (List Record))
    → records_of (front ++ b ∷ more) ≡ records_of front ++ (b ++ records_of more)
records_with front b more = flat_map-append (λ z. z) front (b ∷ more)

pub records_so_far : (front : List (List Record)) (done : List Record) → records_of (so_far front done) ≡ records_of front ++ done
records_so_far front [] = sym (append-nil (records_of front))
records_so_far front (d ∷ ds) = records_with front (d ∷ ds) [] ∙ ap (λ z. records_of front ++ z) (append-nil (d ∷ ds))

pub records_pushed : (front : List (List Record)) (done : List Record) (r : Record)
    → records_of (front ++ (done ++ r ∷ []) ∷ []) ≡ records_of (so_far front done) ++ r ∷ []
records_pushed front done r =
    records_with front (done ++ r ∷ []) []
    ∙ (ap (λ z. records_of front ++ z) (append-nil (done ++ r ∷ []))
    ∙ (sym (append_assoc (records_of front) done (r ∷ []))
    ∙ ap (λ z. z ++ r ∷ []) (sym (records_so_far front done))))

-- ---- each Restarted is the first of its batch
pub front_first : (front : List (List Record)) (done : List Record) → list_all is_restarted_first (so_far front done) ≡ true
    → list_all is_restarted_first front ≡ true
front_first front [] e = e
front_first front (d ∷ ds) e = left_true (list_all is_restarted_first front) _ (sym (list_all-append is_restarted_first front ((d ∷ ds) ∷ [])) ∙ e)

pub done_first : (front : List (List Record)) (done : List Record) → list_all is_restarted_first (so_far front done) ≡ true → is_restarted_first done ≡ true
done_first front [] e = refl
done_first front (d ∷ ds) e = left_true (is_restarted_first (d ∷ ds)) true (right_true (list_all is_restarted_first front) _ (sym (list_all-append is_restarted_first front ((d ∷ ds) ∷ [])) ∙ e))

pub with_batch : (front : List (List Record)) (b : List Record) → list_all is_restarted_first front ≡ true → is_restarted_first b ≡ true
    → list_all is_restarted_first (front ++ b ∷ []) ≡ true
with_batch front b e f =
    list_all-append is_restarted_first front (b ∷ []) ∙ and_from (list_all is_restarted_first front) _ e (and_from (is_restarted_first b) true f refl)

pub none_behind : (d : Record) (ds : List Record) → is_restarted_first (d ∷ ds) ≡ true → list_any is_restarted ds ≡ false
none_behind d ds e = not-true (list_any is_restarted ds) e

pub pushed_first : (done : List Record) (r : Record) → is_restarted_first done ≡ true → (is_restarted r ≡ true → done ≡ [])
    → is_restarted_first (done ++ r ∷ []) ≡ true
pushed_first [] r e only = refl
pushed_first (d ∷ ds) r e only = by_test (is_restarted r) refl
  where
    by_test : (c : Bool) → is_restarted r ≡ c → not (list_any is_restarted (ds ++ r ∷ [])) ≡ true
    by_test true h = absurd (let z : (d ∷ ds) ≡ [] = only h in cc)
    by_test false h =
        ap not (list_any-append is_restarted ds (r ∷ []) ∙ (ap (λ c. c || (is_restarted r || false)) (none_behind d ds e) ∙ ap (λ c. c || false) h))

-- ---- the last record
pub last_pushed : (rs : List Record) (r : Record) → ends_restarted (last_of (rs ++ r ∷ [])) ≡ is_restarted r
last_pushed [] r = refl
last_pushed (x ∷ []) r = refl
last_pushed (x ∷ y ∷ ys) r = last_pushed (y ∷ ys) r

-- ---- a log whose records behind so many are these
abbrev pub behind_some : ℕ → List Record → List Record
behind_some n Q = replicate n AuditBegin ++ Q

pub drop_some : (n : ℕ) (Q : List Record) → drop n (behind_some n Q) ≡ Q
drop_some n Q = drop_at (replicate n AuditBegin) Q n (length-replicate n AuditBegin)
