-- Whether an audit ends in a deed.
use Rattle.std.proofs.Common.{◌≡◌, ℕ, zero, suc, Bool, true, false, List, [], ◌∷◌, Some, refl, ap, sym, ◌∙◌}
use Rattle.std.specs.Prelude.{slice_get, take, drop, not}
use Rattle.std.specs.List.{list_all}
use Rattle.dali_lists.proofs.Tests.{left_true, right_true}
use Rattle.dali_runs.proofs.CountsLemmas.Lists.{some_same}
use Rattle.dali_record.specs.declared.records.Record.TheVariants.{Forward, AuditClean, AuditFail}
use Rattle.dali_runs.specs.Steps.{audit_record}
use Rattle.dali_transcripts.specs.World.{Logs, DiesOn, Happening}

abbrev pub is_end : Happening → Bool
is_end (Logs (AuditClean b), c) = true
is_end (Logs (AuditFail b rs), c) = true
is_end x = false

abbrev pub is_no_end : Happening → Bool
is_no_end x = not (is_end x)

pub end_is : (b c : ℕ) (found : List ℕ) → is_end (Logs (audit_record b found), c) ≡ true
end_is b c [] = refl
end_is b c (r ∷ rs) = refl

-- a deed of a kind that there is none of
pub never : (p : Happening → Bool) (xs : List Happening) (i : ℕ) (x : Happening) → list_all (λ y. not (p y)) xs ≡ true → slice_get xs i ≡ Some x → p x ≡ true → ⊥
never p [] i x h e is = absurd (cc)
never p (y ∷ ys) zero x h e is =
    let no = left_true (not (p y)) (list_all (λ z. not (p z)) ys) h in
    let off : not (p y) ≡ false = ap (λ z. not (p z)) (some_same e) ∙ ap not is in
    let clash : false ≡ true = sym off ∙ no in absurd (cc)
never p (y ∷ ys) (suc i) x h e is = never p ys i x (right_true (not (p y)) (list_all (λ z. not (p z)) ys) h) e is

-- a deed of a kind that stands at place n alone
pub only_at : (p : Happening → Bool) (n : ℕ) (xs : List Happening) (i : ℕ) (x : Happening) → list_all (λ y. not (p y)) (take n xs) ≡ true → list_all (λ y. not (p y)) (drop (suc n) xs) ≡ true
    → slice_get xs i ≡ Some x → p x ≡ true → i ≡ n
only_at p n [] i x front behind e is = absurd (cc)
only_at p zero (y ∷ ys) zero x front behind e is = refl
only_at p zero (y ∷ ys) (suc i) x front behind e is = absurd (never p ys i x behind e is)
only_at p (suc n) (y ∷ ys) zero x front behind e is =
    let no = left_true (not (p y)) (list_all (λ z. not (p z)) (take n ys)) front in
    let off : not (p y) ≡ false = ap (λ z. not (p z)) (some_same e) ∙ ap not is in
    let clash : false ≡ true = sym off ∙ no in absurd (cc)
only_at p (suc n) (y ∷ ys) (suc i) x front behind e is = ap suc (only_at p n ys i x (right_true (not (p y)) (list_all (λ z. not (p z)) (take n ys)) front) behind e is)

pub none_ends : (xs : List Happening) (i b c : ℕ) (found : List ℕ) → list_all is_no_end xs ≡ true → slice_get xs i ≡ Some (Logs (audit_record b found), c) → ⊥
none_ends xs i b c found h e = never is_end xs i (Logs (audit_record b found), c) h e (end_is b c found)

-- where the deeds around place n don't end an audit, an audit ends at n alone
pub ends_at : (n : ℕ) (xs : List Happening) (i b c : ℕ) (found : List ℕ) → list_all is_no_end (take n xs) ≡ true → list_all is_no_end (drop (suc n) xs) ≡ true
    → slice_get xs i ≡ Some (Logs (audit_record b found), c) → i ≡ n
ends_at n xs i b c found front behind e = only_at is_end n xs i (Logs (audit_record b found), c) front behind e (end_is b c found)

-- the regions that an audit which ends here names
abbrev pub named_in : Happening → List ℕ
named_in (Logs (AuditFail b rs), c) = rs
named_in x = []

named_by : (b c : ℕ) (found : List ℕ) → named_in (Logs (audit_record b found), c) ≡ found
named_by b c [] = refl
named_by b c (r ∷ rs) = refl

-- the record that began the audit which ends here
abbrev pub begun_in : Happening → ℕ
begun_in (Logs (AuditClean b), c) = b
begun_in (Logs (AuditFail b rs), c) = b
begun_in x = 0

begun_by : (b c : ℕ) (found : List ℕ) → begun_in (Logs (audit_record b found), c) ≡ b
begun_by b c [] = refl
begun_by b c (r ∷ rs) = refl

pub begin_is : (xs : List Happening) (n b c : ℕ) (found : List ℕ) (x : Happening) → slice_get xs n ≡ Some x → slice_get xs n ≡ Some (Logs (audit_record b found), c) → b ≡ begun_in x
begin_is xs n b c found x is e = sym (begun_by b c found) ∙ ap begun_in (some_same (sym e ∙ is))

pub found_is : (xs : List Happening) (n b c : ℕ) (found : List ℕ) (x : Happening) → slice_get xs n ≡ Some x → slice_get xs n ≡ Some (Logs (audit_record b found), c) → found ≡ named_in x
found_is xs n b c found x is e = sym (named_by b c found) ∙ ap named_in (some_same (sym e ∙ is))

-- ---- operations, and deaths in one
abbrev pub is_operation : Happening → Bool
is_operation (Logs (Forward t b), c) = true
is_operation x = false

abbrev pub is_death : Happening → Bool
is_death (DiesOn t r, c) = true
is_death x = false

abbrev pub region_in : Happening → ℕ
region_in (Logs (Forward t b), c) = b.region
region_in x = 0
