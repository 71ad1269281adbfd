-- The survivors of a log are those of its epochs one after another, and their calls are those of their own epoch.
use Rattle.std.proofs.Common.{◌≡◌, ℕ, true, false, List, [], ◌∷◌, ◌++◌, refl, ap, sym, ◌∙◌, append_assoc}
use Rattle.std.specs.Prelude.{◌||◌, not, filter, flat_map}
use Rattle.std.specs.List.{list_any}
use Rattle.std.proofs.lemmas.List.{append-nil}
use Rattle.std.proofs.lemmas.List.Folds.{list_any-append}
use Rattle.std.proofs.lemmas.List.Elements.{filter-append}
use Rattle.std.proofs.lemmas.Grind.{flat_map-append}
use mathlib.Core.Bool.{or-false}
use Rattle.dali_geometry.specs.Sizes.{Sizes}
use Rattle.dali_record.specs.declared.records.Record.{Record}
use Rattle.dali_record.specs.Log.{calls_of, committed}
use Rattle.dali_record.specs.Epochs.{Epoch, epochs}
use Rattle.dali_record.specs.Damage.{has}
use Rattle.dali_record.specs.Legal.{IsLegalFor}
use Rattle.dali_record.proofs.Survivors.{filter_same}
use Rattle.dali_history.specs.Serial.{is_deleted_in, is_deleted, survivors}
use Rattle.dali_history.proofs.OwnEpoch.{AreQuiet, others_are_quiet, quiet_calls, quiet_committed, loud_from_committed}
use Rattle.dali_history.proofs.ByEpochs.{calls_in_epochs, committed_in_epochs}

-- the committed transactions of an epoch without those that are deleted in it
abbrev pub survivors_in : Epoch → List ℕ
survivors_in e = filter (λ t. not (is_deleted_in t e)) (committed e.records)

no_calls : (t : ℕ) (es : List Epoch) → AreQuiet t es → flat_map (λ e. calls_of t e.records) es ≡ []
no_calls t [] q = refl
no_calls t (e ∷ es) q = rw (quiet_calls t e.records q.0) (no_calls t es q.1)

none_deleted : (t : ℕ) (es : List Epoch) → AreQuiet t es → list_any (is_deleted_in t) es ≡ false
none_deleted t [] q = refl
none_deleted t (e ∷ es) q = rw (quiet_committed t e.records q.0) (none_deleted t es q.1)

-- the calls of a transaction that committed in an epoch are all in that epoch
pub calls_of_own : (s : Sizes) (L : List Record) (A : List Epoch) (e : Epoch) (B : List Epoch) (t : ℕ) → IsLegalFor s L → epochs L ≡ A ++ e ∷ B → has (committed e.records) t ≡ true → calls_of t L ≡ calls_of t e.records
calls_of_own s L A e B t legal split h =
    let quiet = others_are_quiet s t L A e B (legal.txns t) split (loud_from_committed t e h) in
    calls_in_epochs s t L legal.rules ∙ ap (λ es. flat_map (λ f. calls_of t f.records) es) split
    ∙ flat_map-append (λ f. calls_of t f.records) A (e ∷ B)
    ∙ ap (λ cs. cs ++ flat_map (λ f. calls_of t f.records) (e ∷ B)) (no_calls t A quiet.0)
    ∙ ap (λ cs. calls_of t e.records ++ cs) (no_calls t B quiet.1)
    ∙ append-nil (calls_of t e.records)

-- a transaction that committed in an epoch is deleted where it is deleted in that epoch
pub is_deleted_own : (s : Sizes) (L : List Record) (A : List Epoch) (e : Epoch) (B : List Epoch) (t : ℕ) → IsLegalFor s L → epochs L ≡ A ++ e ∷ B → has (committed e.records) t ≡ true → is_deleted L t ≡ is_deleted_in t e
is_deleted_own s L A e B t legal split h =
    let quiet = others_are_quiet s t L A e B (legal.txns t) split (loud_from_committed t e h) in
    ap (λ es. list_any (is_deleted_in t) es) split
    ∙ list_any-append (is_deleted_in t) A (e ∷ B)
    ∙ ap (λ b. b || list_any (is_deleted_in t) (e ∷ B)) (none_deleted t A quiet.0)
    ∙ ap (λ b. is_deleted_in t e || b) (none_deleted t B quiet.1)
    ∙ or-false (is_deleted_in t e)

-- those of the epochs from one on
from : (s : Sizes) (L : List Record) (A B : List Epoch) → IsLegalFor s L → epochs L ≡ A ++ B → filter (λ t. not (is_deleted L t)) (flat_map (λ e. committed e.records) B) ≡ flat_map survivors_in B
from s L A [] legal split = refl
from s L A (e ∷ B) legal split =
    filter-append (λ t. not (is_deleted L t)) (committed e.records) (flat_map (λ f. committed f.records) B)
    ∙ ap (λ ts. ts ++ filter (λ t. not (is_deleted L t)) (flat_map (λ f. committed f.records) B))
    (filter_same (λ t. not (is_deleted L t)) (λ t. not (is_deleted_in t e)) (committed e.records) (λ t h. ap not (is_deleted_own s L A e B t legal split h)))
    ∙ ap (λ ts. survivors_in e ++ ts) (from s L (A ++ e ∷ []) B legal (split ∙ sym (append_assoc A (e ∷ []) B)))

-- the survivors are those of each epoch, in the order of the epochs
pub survivors_in_epochs : (s : Sizes) (L : List Record) → IsLegalFor s L → survivors L ≡ flat_map survivors_in (epochs L)
survivors_in_epochs s L legal = ap (λ ts. filter (λ t. not (is_deleted L t)) ts) (committed_in_epochs s L legal.rules) ∙ from s L [] (epochs L) legal refl
