-- What a command line says on its own, wherever it stands.
--     number_in low high text    the number from low to high that a text spells
--     poke_of r w m              the poke that three arguments make
--     item_of name arguments     the command line that a command's name and arguments make
use Rattle.std.specs.Prelude.{ℕ, List, [], ◌∷◌, Option, Some, None, Result, Ok, Err, ok_or, if◌then◌else◌}
use Rattle.dali_script.specs.Texts.{within, number_of, mask_of, value_in}
use Rattle.dali_script.specs.Faults.{◌>>=◌}
use Rattle.dali_script.specs.declared.faults.Kind.{Kind}
use Rattle.dali_script.specs.declared.faults.Kind.TheVariants as kind
use Rattle.dali_script.specs.declared.names.Name.{Name}
use Rattle.dali_script.specs.declared.names.Name.TheVariants as name
use Rattle.dali_script.specs.declared.items.Item.{Item}
use Rattle.dali_script.specs.declared.items.Item.TheVariants as item

-- what arguments of these forms are
abbrev pub Text : Type 0
Text = List ℕ

abbrev pub range_of : ℕ → ℕ → Option ℕ → Result ℕ Kind
range_of low high (Some n) = if within low high n then Ok n else Err kind.Number
range_of low high None = Err kind.Number

abbrev pub number_in : ℕ → ℕ → Text → Result ℕ Kind
number_in low high text = range_of low high (number_of text)

-- a key is any number
abbrev pub key_in : Text → Result ℕ Kind
key_in text = ok_or (number_of text) kind.Number

abbrev pub mask_in : Text → Result ℕ Kind
mask_in text = ok_or (mask_of text) kind.Number

abbrev pub stored_in : Text → Result (List ℕ) Kind
stored_in text = ok_or (value_in text) kind.Value

-- a command without arguments, and with one, two and three
abbrev pub none : Item → List Text → Result Item Kind
none made [] = Ok made
none made (a ∷ more) = Err kind.Arguments

abbrev pub one : (Text → Result Item Kind) → List Text → Result Item Kind
one make (a ∷ []) = make a
one make [] = Err kind.Arguments
one make (a ∷ b ∷ more) = Err kind.Arguments

abbrev pub two : (Text → Text → Result Item Kind) → List Text → Result Item Kind
two make (a ∷ b ∷ []) = make a b
two make [] = Err kind.Arguments
two make (a ∷ []) = Err kind.Arguments
two make (a ∷ b ∷ c ∷ more) = Err kind.Arguments

abbrev pub three : (Text → Text → Text → Result Item Kind) → List Text → Result Item Kind
three make (a ∷ b ∷ c ∷ []) = make a b c
three make [] = Err kind.Arguments
three make (a ∷ []) = Err kind.Arguments
three make (a ∷ b ∷ []) = Err kind.Arguments
three make (a ∷ b ∷ c ∷ d ∷ more) = Err kind.Arguments

abbrev pub poke_of : Text → Text → Text → Result Item Kind
poke_of r w m = number_in 0 4294967295 r >>= λ region. number_in 0 63 w >>= λ word. mask_in m >>= λ mask. Ok (item.Poke region word mask)

abbrev pub item_of : Name → List Text → Result Item Kind
item_of name.Size = two (λ i h. number_in 1 32768 i >>= λ index. number_in 1 65536 h >>= λ heap. Ok (item.Size index heap))
item_of name.Open = none item.Open
item_of name.Client = one (λ n. number_in 1 64 n >>= λ number. Ok (item.Client number))
item_of name.End = none item.End
item_of name.Begin = none item.Begin
item_of name.Insert = two (λ k v. key_in k >>= λ key. stored_in v >>= λ value. Ok (item.Insert key value))
item_of name.Update = two (λ k v. key_in k >>= λ key. stored_in v >>= λ value. Ok (item.Update key value))
item_of name.Delete = one (λ k. key_in k >>= λ key. Ok (item.Delete key))
item_of name.Get = one (λ k. key_in k >>= λ key. Ok (item.Get key))
item_of name.Die = one (λ n. number_in 1 1000000 n >>= λ operation. Ok (item.Die operation))
item_of name.Commit = none item.Commit
item_of name.Abort = none item.Abort
item_of name.Poke = three poke_of
item_of name.Audit = none item.Audit
item_of name.Checkpoint = none item.Checkpoint
item_of name.Cleanup = none item.Cleanup
item_of name.Crash = one (λ n. number_in 0 1000000 n >>= λ choice. Ok (item.Crash choice))
item_of name.Restart = none item.Restart
item_of name.Show = none item.Show
item_of name.Verify = none item.Verify
item_of name.Next = none item.Next
item_of name.Fuse = one (λ n. number_in 0 1000000000 n >>= λ passes. Ok (item.Fuse passes))
