-- Undo lists by their keys alone.
use Rattle.std.proofs.Common.{◌≡◌, ℕ, ◌<◌, Bool, true, false, List, [], ◌∷◌, ◌++◌, length, map, fold, Option, Some, None, refl, ap, sym, ◌∙◌, arith}
use Rattle.std.specs.Prelude.{◌==◌, ◌↔◌, IsSome, option_to_list, if◌then◌else◌}
use Rattle.std.proofs.lemmas.List.{append-nil, map-append}
use Rattle.dali_record.specs.declared.operations.Block.{Block}
use Rattle.dali_record.specs.declared.operations.Pending.{Pending}
use Rattle.dali_record.specs.declared.operations.Undo.{Undo}
use Rattle.dali_record.specs.declared.records.Record.{Record}
use Rattle.dali_record.specs.declared.records.Record.TheVariants.{Format, Forward, Back}
use Rattle.dali_record.specs.Log.{undo_added, undo_step, drop_last}
use Rattle.dali_record.proofs.Ends.{drop_last_push}
use Rattle.dali_replay.specs.Marking.{key_added, key_step, undo_keys}

-- what a list is without its last element, where that is taken out
pub popped : (xs ys : List ℕ) (o : Option ℕ) (n : ℕ) → n ≡ length xs → xs ≡ ys ++ option_to_list o → (IsSome o ↔ (0 < n)) → ys ≡ drop_last xs
popped xs ys (Some x) n l e h = sym (drop_last_push ys x) ∙ sym (ap drop_last e)
popped [] ys None n l e h = sym (e ∙ append-nil ys)
popped (x ∷ xs) ys None n l e h = let never : IsSome {T = ℕ} None = h.1 (omega (arith, l)) in absurd (cc)

map_drop_last : {X : Type 0} (f : X → ℕ) (xs : List X) → map f (drop_last xs) ≡ drop_last (map f xs)
map_drop_last f [] = refl
map_drop_last f (x ∷ []) = refl
map_drop_last f (x ∷ y ∷ ys) = ap (λ zs. f x ∷ zs) (map_drop_last f (y ∷ ys))

added : (b : Block) (o : Option Undo) → map (λ (p : Pending). p.key) (undo_added b o) ≡ key_added b o
added b None = refl
added b (Some p) = refl

stepped : (u : ℕ) (us : List Pending) (r : Record) → map (λ p. p.key) (undo_step u us r) ≡ key_step u (map (λ p. p.key) us) r
stepped u us (Forward t b) = by_txn (t == u)
  where
    by_txn : (c : Bool) → map (λ p. p.key) (if c then us ++ undo_added b b.undo else us) ≡ (if c then map (λ p. p.key) us ++ key_added b b.undo else map (λ p. p.key) us)
    by_txn true = map-append (λ p. p.key) us (undo_added b b.undo) ∙ ap (λ ks. map (λ p. p.key) us ++ ks) (added b b.undo)
    by_txn false = refl
stepped u us (Back t b) = by_txn (t == u)
  where
    by_txn : (c : Bool) → map (λ p. p.key) (if c then drop_last us else us) ≡ (if c then drop_last (map (λ p. p.key) us) else map (λ p. p.key) us)
    by_txn true = map_drop_last (λ p. p.key) us
    by_txn false = refl
stepped u us (Format i h) = refl
stepped u us _ = refl

folded : (u : ℕ) (us : List Pending) (L : List Record) → fold (key_step u) (map (λ p. p.key) us) L ≡ map (λ p. p.key) (fold (undo_step u) us L)
folded u us [] = refl
folded u us (r ∷ L) = ap (λ ks. fold (key_step u) ks L) (sym (stepped u us r)) ∙ folded u (undo_step u us r) L

-- the keys record by record are those of the undo list
pub keys_are : (u : ℕ) (L : List Record) → fold (key_step u) [] L ≡ undo_keys u L
keys_are u L = folded u [] L
