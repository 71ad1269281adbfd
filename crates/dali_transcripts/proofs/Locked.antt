-- A log in which the blocks of one transaction alone stand keeps the locks.
use Rattle.std.proofs.Common.{◌≡◌, ℕ, zero, suc, Bool, true, false, List, [], ◌∷◌, Option, Some, None, refl, ap, sym, ◌∙◌}
use Rattle.std.specs.Prelude.{◌==◌, ◌&&◌, ◌||◌, not}
use Rattle.std.specs.List.{list_all}
use Rattle.dali_runs.proofs.CountsLemmas.Lists.{self, equal}
use Rattle.dali_record.proofs.Chains.{and_true}
use Rattle.dali_record.specs.declared.records.Record.{Record}
use Rattle.dali_record.specs.Blocks.{changes_item}
use Rattle.dali_record.specs.Log.{Touch, touch_of, touch_at}
use Rattle.dali_record.specs.Locks.{conflicts, IsLockLegalIn}

abbrev pub is_owner : ℕ → Option Touch → Bool
is_owner t None = true
is_owner t (Some a) = a.owner == t

abbrev pub is_by : ℕ → Record → Bool
is_by t x = is_owner t (touch_of x)

owner_at : (t : ℕ) (E : List Record) (i : ℕ) (a : Touch) → list_all (is_by t) E ≡ true → touch_at E i ≡ Some a → a.owner ≡ t
owner_at t [] i a h e = absurd (cc)
owner_at t (x ∷ E) zero a h e = equal a.owner t (ap (is_owner t) (sym e) ∙ (and_true (is_by t x) (list_all (is_by t) E) h).0)
owner_at t (x ∷ E) (suc i) a h e = owner_at t E i a (and_true (is_by t x) (list_all (is_by t) E) h).1 e

shut : (p q : Bool) → (p && not true && q) ≡ false
shut true true = refl
shut true false = refl
shut false q = refl

no_conflict : (t : ℕ) (a b : Touch) → a.owner ≡ t → b.owner ≡ t → conflicts a b ≡ false
no_conflict t a b e f =
    let same : (a.owner == b.owner) ≡ true = ap (λ n. n == b.owner) (e ∙ sym f) ∙ self b.owner in
    ap (λ s. (a.block.key == b.block.key) && not s && (changes_item a.block || changes_item b.block)) same ∙ shut (a.block.key == b.block.key) (changes_item a.block || changes_item b.block)

pub keeps_locks : (t : ℕ) (E : List Record) → list_all (is_by t) E ≡ true → IsLockLegalIn E
keeps_locks t E h i j a b before e f c =
    let no : true ≡ false = sym c ∙ no_conflict t a b (owner_at t E i a h e) (owner_at t E j b h f) in absurd (cc)
