-- That the forms of a command's arguments are those by which the grammar tests them.
use Rattle.std.proofs.Common.{◌≡◌, ℕ, Bool, true, false, cond, List, [], ◌∷◌, Option, Some, None, Result, Ok, Err, refl}
use Rattle.std.specs.Prelude.{is_ok, is_some, ok_or}
use Rattle.std.specs.Option.{option_map}
use Rattle.dali_script.specs.Texts.{within, number_of, mask_of, value_in}
use Rattle.dali_script.specs.Faults.{◌>>=◌}
use Rattle.dali_script.specs.Items.{Text, range_of, number_in, key_in, mask_in, stored_in, poke_of, item_of}
use Rattle.dali_script.specs.Forms.{number, forms_of, kind_of, refused_by, fault_in}
use Rattle.dali_script.specs.declared.faults.Kind.{Kind}
use Rattle.dali_script.specs.declared.faults.Kind.TheVariants as kind
use Rattle.dali_script.specs.declared.names.Name.{Name}
use Rattle.dali_script.specs.declared.names.Name.TheVariants as name
use Rattle.dali_script.specs.declared.items.Item.{Item}
use Rattle.dali_script.specs.declared.items.Item.TheVariants as item
use Rattle.dali_script.specs.declared.forms.Form.{Form}
use Rattle.dali_script.specs.declared.forms.Form.TheVariants as form

abbrev pub kind_at : Option (Text × Form) → Option Kind
kind_at found = option_map (λ x. kind_of x.1) found

-- one argument, which gives r or has the fault of its form, and what follows
abbrev IsTestOf : {A : Type 0} → Form → Bool → Result A Kind → Type 0
IsTestOf f b (Ok x) = b ≡ true
IsTestOf f b (Err k) = (b ≡ false) × (k ≡ kind_of f)

next_is : {A : Type 0} (f : Form) (word : Text) (b : Bool) (r : Result A Kind) (make : A → Result Item Kind) (rest : Option (Text × Form))
    → IsTestOf f b r → ((x : A) → fault_in (make x) ≡ kind_at rest) → fault_in (r >>= make) ≡ kind_at (cond b rest (Some (word, f)))
next_is f word b (Ok x) make rest is more = rw is (more x)
next_is f word b (Err k) make rest is more = rw (is.0, is.1) refl

-- ---- the tests of the forms
by_bounds : (low high n : ℕ) (b : Bool) → within low high n ≡ b → IsTestOf (number low high) (is_ok (cond b (Ok n) (Err kind.Number))) (cond b (Ok n) (Err kind.Number))
by_bounds low high n true is = refl
by_bounds low high n false is = (refl, refl)

by_number : (low high : ℕ) (o : Option ℕ) → IsTestOf (number low high) (is_ok (range_of low high o)) (range_of low high o)
by_number low high (Some n) = by_bounds low high n (within low high n) refl
by_number low high None = (refl, refl)

ranged : (low high : ℕ) (word : Text) → IsTestOf (number low high) (is_ok (number_in low high word)) (number_in low high word)
ranged low high word = by_number low high (number_of word)

by_option : {A : Type 0} (f : Form) (o : Option A) → IsTestOf f (is_some o) (ok_or o (kind_of f))
by_option f (Some x) = refl
by_option f None = (refl, refl)

-- ---- the commands
one_number : (low high : ℕ) (word : Text) (make : ℕ → Item) → fault_in (number_in low high word >>= λ n. Ok (make n)) ≡ refused_by (number low high ∷ []) (word ∷ [])
one_number low high word make = next_is (number low high) word _ (number_in low high word) (λ n. Ok (make n)) None (ranged low high word) (λ x. refl)

one_key : (word : Text) (make : ℕ → Item) → fault_in (key_in word >>= λ n. Ok (make n)) ≡ refused_by (form.Key ∷ []) (word ∷ [])
one_key word make = next_is form.Key word _ (key_in word) (λ n. Ok (make n)) None (by_option form.Key (number_of word)) (λ x. refl)

two_numbers : (a b d e : ℕ) (v w : Text) (make : ℕ → ℕ → Item) → fault_in (number_in a b v >>= λ m. number_in d e w >>= λ n. Ok (make m n))
    ≡ refused_by (number a b ∷ number d e ∷ []) (v ∷ w ∷ [])
two_numbers a b d e v w make = next_is (number a b) v _ (number_in a b v) _ _ (ranged a b v)
    (λ m. next_is (number d e) w _ (number_in d e w) _ None (ranged d e w) (λ n. refl))

key_and_value : (k v : Text) (make : ℕ → List ℕ → Item) → fault_in (key_in k >>= λ key. stored_in v >>= λ value. Ok (make key value))
    ≡ refused_by (form.Key ∷ form.Value ∷ []) (k ∷ v ∷ [])
key_and_value k v make = next_is form.Key k _ (key_in k) _ _ (by_option form.Key (number_of k))
    (λ key. next_is form.Value v _ (stored_in v) _ None (by_option form.Value (value_in v)) (λ value. refl))

poked : (r w m : Text) → fault_in (poke_of r w m) ≡ refused_by (forms_of name.Poke) (r ∷ w ∷ m ∷ [])
poked r w m = next_is (number 0 4294967295) r _ (number_in 0 4294967295 r) _ _ (ranged 0 4294967295 r)
    (λ region. next_is (number 0 63) w _ (number_in 0 63 w) _ _ (ranged 0 63 w)
    (λ word. next_is form.Mask m _ (mask_in m) _ None (by_option form.Mask (mask_of m)) (λ mask. refl)))

pub same_fault : (name : Name) (arguments : List Text) → fault_in (item_of name arguments) ≡ refused_by (forms_of name) arguments
same_fault name.Size (i ∷ h ∷ []) = two_numbers 1 32768 1 65536 i h (λ index heap. item.Size index heap)
same_fault name.Size [] = refl
same_fault name.Size (a ∷ []) = refl
same_fault name.Size (a ∷ b ∷ d ∷ more) = refl
same_fault name.Client (n ∷ []) = one_number 1 64 n (λ number. item.Client number)
same_fault name.Client [] = refl
same_fault name.Client (a ∷ b ∷ more) = refl
same_fault name.Insert (k ∷ v ∷ []) = key_and_value k v (λ key value. item.Insert key value)
same_fault name.Insert [] = refl
same_fault name.Insert (a ∷ []) = refl
same_fault name.Insert (a ∷ b ∷ d ∷ more) = refl
same_fault name.Update (k ∷ v ∷ []) = key_and_value k v (λ key value. item.Update key value)
same_fault name.Update [] = refl
same_fault name.Update (a ∷ []) = refl
same_fault name.Update (a ∷ b ∷ d ∷ more) = refl
same_fault name.Delete (k ∷ []) = one_key k (λ key. item.Delete key)
same_fault name.Delete [] = refl
same_fault name.Delete (a ∷ b ∷ more) = refl
same_fault name.Get (k ∷ []) = one_key k (λ key. item.Get key)
same_fault name.Get [] = refl
same_fault name.Get (a ∷ b ∷ more) = refl
same_fault name.Die (n ∷ []) = one_number 1 1000000 n (λ operation. item.Die operation)
same_fault name.Die [] = refl
same_fault name.Die (a ∷ b ∷ more) = refl
same_fault name.Poke (r ∷ w ∷ m ∷ []) = poked r w m
same_fault name.Poke [] = refl
same_fault name.Poke (a ∷ []) = refl
same_fault name.Poke (a ∷ b ∷ []) = refl
same_fault name.Poke (a ∷ b ∷ d ∷ e ∷ more) = refl
same_fault name.Crash (n ∷ []) = one_number 0 1000000 n (λ choice. item.Crash choice)
same_fault name.Crash [] = refl
same_fault name.Crash (a ∷ b ∷ more) = refl
same_fault name.Fuse (n ∷ []) = one_number 0 1000000000 n (λ passes. item.Fuse passes)
same_fault name.Fuse [] = refl
same_fault name.Fuse (a ∷ b ∷ more) = refl
same_fault name.Open [] = refl
same_fault name.Open (a ∷ more) = refl
same_fault name.End [] = refl
same_fault name.End (a ∷ more) = refl
same_fault name.Begin [] = refl
same_fault name.Begin (a ∷ more) = refl
same_fault name.Commit [] = refl
same_fault name.Commit (a ∷ more) = refl
same_fault name.Abort [] = refl
same_fault name.Abort (a ∷ more) = refl
same_fault name.Audit [] = refl
same_fault name.Audit (a ∷ more) = refl
same_fault name.Checkpoint [] = refl
same_fault name.Checkpoint (a ∷ more) = refl
same_fault name.Cleanup [] = refl
same_fault name.Cleanup (a ∷ more) = refl
same_fault name.Restart [] = refl
same_fault name.Restart (a ∷ more) = refl
same_fault name.Show [] = refl
same_fault name.Show (a ∷ more) = refl
same_fault name.Verify [] = refl
same_fault name.Verify (a ∷ more) = refl
same_fault name.Next [] = refl
same_fault name.Next (a ∷ more) = refl
