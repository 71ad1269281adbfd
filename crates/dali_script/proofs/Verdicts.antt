-- What a line that is right is: it may stand where it stands, and its numbers are in their ranges.
use Rattle.std.proofs.Common.{◌≡◌, ℕ, ◌^◌, ◌<◌, ◌≤◌, Bool, true, false, not, ◌||◌, List, [], ◌∷◌, refl, ap, subst, ◌∙◌, arith}
use Rattle.std.specs.Prelude.{Result, Ok, Err, ok_or}
use Rattle.dali_script.specs.Faults.{◌>>=◌, test}
use Rattle.dali_script.specs.Names.{name_of}
use Rattle.dali_script.specs.Items.{Text, none, one, two, three, poke_of, item_of, number_in, key_in, mask_in, stored_in}
use Rattle.dali_script.specs.Places.{is_start, may_stand}
use Rattle.dali_script.specs.Grammar.{Context, begins_a_script, is_new_here, verdict}
use Rattle.dali_script.specs.Scripts.{IsRecord, IsPoke, IsRightCommand}
use Rattle.dali_script.specs.declared.faults.Kind.{Kind}
use Rattle.dali_script.specs.declared.faults.Kind.TheVariants as kind
use Rattle.dali_script.specs.declared.names.Name.{Name}
use Rattle.dali_script.specs.declared.names.Name.TheVariants as name
use Rattle.dali_script.specs.declared.items.Item.{Item}
use Rattle.dali_script.specs.declared.items.Item.TheVariants as item
use Rattle.dali_script.specs.declared.places.Place.{Place}
use Rattle.dali_script.specs.declared.commands.Command.TheVariants as single
use Rattle.dali_script.proofs.Ranges.{ranged, key_fits, mask_fits, stored_is_value}

-- ---- results in a row
pub bind_ok : {A B E : Type 0} (r : Result A E) (f : A → Result B E) (y : B) → (r >>= f) ≡ Ok y → (x : A) × (r ≡ Ok x) × (f x ≡ Ok y)
bind_ok (Ok x) f y e = (x, refl, e)
bind_ok (Err k) f y e = absurd (cc)

pub test_ok : {B : Type 0} (passes : Bool) (k : Kind) (f : Unit {0} → Result B Kind) (y : B) → (test passes k >>= f) ≡ Ok y → (passes ≡ true) × (f tt ≡ Ok y)
test_ok true k f y e = (refl, e)
test_ok false k f y e = absurd (cc)

-- ---- the name of a line
abbrev pub name_of_line : Item → Name
name_of_line (item.Size i h) = name.Size
name_of_line item.Open = name.Open
name_of_line (item.Client n) = name.Client
name_of_line item.End = name.End
name_of_line item.Begin = name.Begin
name_of_line (item.Insert k v) = name.Insert
name_of_line (item.Update k v) = name.Update
name_of_line (item.Delete k) = name.Delete
name_of_line (item.Get k) = name.Get
name_of_line (item.Die n) = name.Die
name_of_line item.Commit = name.Commit
name_of_line item.Abort = name.Abort
name_of_line (item.Poke r w m) = name.Poke
name_of_line item.Audit = name.Audit
name_of_line item.Checkpoint = name.Checkpoint
name_of_line item.Cleanup = name.Cleanup
name_of_line (item.Crash n) = name.Crash
name_of_line item.Restart = name.Restart
name_of_line item.Show = name.Show
name_of_line item.Verify = name.Verify
name_of_line item.Next = name.Next
name_of_line (item.Fuse n) = name.Fuse

-- ---- what is so of each line that arguments make
pub none_makes : (P : Item → Type 0) (i : Item) → P i → (args : List Text) (made : Item) → none i args ≡ Ok made → P made
none_makes P i p [] made e = let same : i ≡ made = cc in subst P same p
none_makes P i p (a ∷ more) made e = absurd (cc)

pub one_makes : (P : Item → Type 0) (f : Text → Result Item Kind) → ((a : Text) (made : Item) → f a ≡ Ok made → P made) → (args : List Text) (made : Item) → one f args ≡ Ok made → P made
one_makes P f each [] made e = absurd (cc)
one_makes P f each (a ∷ []) made e = each a made e
one_makes P f each (a ∷ b ∷ more) made e = absurd (cc)

pub two_makes : (P : Item → Type 0) (f : Text → Text → Result Item Kind) → ((a b : Text) (made : Item) → f a b ≡ Ok made → P made) → (args : List Text) (made : Item) → two f args ≡ Ok made → P made
two_makes P f each [] made e = absurd (cc)
two_makes P f each (a ∷ []) made e = absurd (cc)
two_makes P f each (a ∷ b ∷ []) made e = each a b made e
two_makes P f each (a ∷ b ∷ c ∷ more) made e = absurd (cc)

pub three_makes : (P : Item → Type 0) (f : Text → Text → Text → Result Item Kind) → ((a b c : Text) (made : Item) → f a b c ≡ Ok made → P made) → (args : List Text) (made : Item) → three f args ≡ Ok made → P made
three_makes P f each [] made e = absurd (cc)
three_makes P f each (a ∷ []) made e = absurd (cc)
three_makes P f each (a ∷ b ∷ []) made e = absurd (cc)
three_makes P f each (a ∷ b ∷ c ∷ []) made e = each a b c made e
three_makes P f each (a ∷ b ∷ c ∷ d ∷ more) made e = absurd (cc)

-- ---- the numbers and values of a line
abbrev pub IsRightLine : Item → Type 0
IsRightLine (item.Size i h) = IsRightCommand (single.Size i h)
IsRightLine (item.Client n) = (1 ≤ n) × (n ≤ 64)
IsRightLine (item.Insert k v) = IsRecord k v
IsRightLine (item.Update k v) = IsRecord k v
IsRightLine (item.Delete k) = k < 2 ^ 64
IsRightLine (item.Get k) = k < 2 ^ 64
IsRightLine (item.Die n) = (1 ≤ n) × (n ≤ 1000000)
IsRightLine (item.Poke r w m) = IsPoke r w m
IsRightLine (item.Crash n) = n ≤ 1000000
IsRightLine (item.Fuse n) = n ≤ 1000000000
IsRightLine _ = Unit {0}

-- a line of this name, with its numbers
pub record IsMade (n : Name) (made : Item) : Type 0 where
  pub its_name : name_of_line made ≡ n
  pub its_numbers : IsRightLine made

plain : (i : Item) → IsRightLine i → IsMade (name_of_line i) i
plain i right = record { its_name = refl; its_numbers = right }

-- one number alone
number_made : (n : Name) (f : ℕ → Item) (low high : ℕ) → ((x : ℕ) → name_of_line (f x) ≡ n) → ((x : ℕ) → (low ≤ x) × (x ≤ high) → IsRightLine (f x)) → (a : Text) (made : Item) → (number_in low high a >>= λ x. Ok (f x)) ≡ Ok made → IsMade n made
number_made n f low high named right a made e =
    let read = bind_ok (number_in low high a) (λ x. Ok (f x)) made e in
    let same : f read.0 ≡ made = cc in
    subst (IsMade n) same (record { its_name = named read.0; its_numbers = right read.0 (ranged low high a read.0 read.1) })

key_made : (n : Name) (f : ℕ → Item) → ((x : ℕ) → name_of_line (f x) ≡ n) → ((x : ℕ) → x < 2 ^ 64 → IsRightLine (f x)) → (a : Text) (made : Item) → (key_in a >>= λ x. Ok (f x)) ≡ Ok made → IsMade n made
key_made n f named right a made e =
    let read = bind_ok (key_in a) (λ x. Ok (f x)) made e in
    let same : f read.0 ≡ made = cc in
    subst (IsMade n) same (record { its_name = named read.0; its_numbers = right read.0 (key_fits a read.0 read.1) })

size_made : (a b : Text) (made : Item) → (number_in 1 32768 a >>= λ index. number_in 1 65536 b >>= λ heap. Ok (item.Size index heap)) ≡ Ok made → IsMade name.Size made
size_made a b made e =
    let first = bind_ok (number_in 1 32768 a) (λ index. number_in 1 65536 b >>= λ heap. Ok (item.Size index heap)) made e in
    let second = bind_ok (number_in 1 65536 b) (λ heap. Ok (item.Size first.0 heap)) made first.2 in
    let same : item.Size first.0 second.0 ≡ made = cc in
    let index = ranged 1 32768 a first.0 first.1 in
    let heap = ranged 1 65536 b second.0 second.1 in
    subst (IsMade name.Size) same (plain (item.Size first.0 second.0) (index.0, index.1, heap.0, heap.1))

record_made : (n : Name) (f : ℕ → List ℕ → Item) → ((k : ℕ) (v : List ℕ) → name_of_line (f k v) ≡ n) → ((k : ℕ) (v : List ℕ) → IsRecord k v → IsRightLine (f k v)) → (a b : Text) (made : Item) → (key_in a >>= λ key. stored_in b >>= λ value. Ok (f key value)) ≡ Ok made → IsMade n made
record_made n f named right a b made e =
    let first = bind_ok (key_in a) (λ key. stored_in b >>= λ value. Ok (f key value)) made e in
    let second = bind_ok (stored_in b) (λ value. Ok (f first.0 value)) made first.2 in
    let same : f first.0 second.0 ≡ made = cc in
    subst (IsMade n) same (record { its_name = named first.0 second.0; its_numbers = right first.0 second.0 (key_fits a first.0 first.1, stored_is_value b second.0 second.1) })

poke_made : (a b c : Text) (made : Item) → poke_of a b c ≡ Ok made → IsMade name.Poke made
poke_made a b c made e =
    let first = bind_ok (number_in 0 4294967295 a) (λ region. number_in 0 63 b >>= λ word. mask_in c >>= λ mask. Ok (item.Poke region word mask)) made e in
    let second = bind_ok (number_in 0 63 b) (λ word. mask_in c >>= λ mask. Ok (item.Poke first.0 word mask)) made first.2 in
    let third = bind_ok (mask_in c) (λ mask. Ok (item.Poke first.0 second.0 mask)) made second.2 in
    let same : item.Poke first.0 second.0 third.0 ≡ made = cc in
    let region : first.0 < 2 ^ 32 = omega (arith, (ranged 0 4294967295 a first.0 first.1).1) in
    let word : second.0 < 64 = omega (arith, (ranged 0 63 b second.0 second.1).1) in
    let mask = mask_fits c third.0 third.1 in
    subst (IsMade name.Poke) same (plain (item.Poke first.0 second.0 third.0) (region, word, mask.0, mask.1))

pub item_made : (n : Name) (args : List Text) (made : Item) → item_of n args ≡ Ok made → IsMade n made
item_made name.Size args made e = two_makes (IsMade name.Size) _ size_made args made e
item_made name.Open args made e = none_makes (IsMade name.Open) item.Open (plain item.Open tt) args made e
item_made name.Client args made e = one_makes (IsMade name.Client) _ (number_made name.Client item.Client 1 64 (λ x. refl) (λ x h. h)) args made e
item_made name.End args made e = none_makes (IsMade name.End) item.End (plain item.End tt) args made e
item_made name.Begin args made e = none_makes (IsMade name.Begin) item.Begin (plain item.Begin tt) args made e
item_made name.Insert args made e = two_makes (IsMade name.Insert) _ (record_made name.Insert item.Insert (λ k v. refl) (λ k v h. h)) args made e
item_made name.Update args made e = two_makes (IsMade name.Update) _ (record_made name.Update item.Update (λ k v. refl) (λ k v h. h)) args made e
item_made name.Delete args made e = one_makes (IsMade name.Delete) _ (key_made name.Delete item.Delete (λ x. refl) (λ x h. h)) args made e
item_made name.Get args made e = one_makes (IsMade name.Get) _ (key_made name.Get item.Get (λ x. refl) (λ x h. h)) args made e
item_made name.Die args made e = one_makes (IsMade name.Die) _ (number_made name.Die item.Die 1 1000000 (λ x. refl) (λ x h. h)) args made e
item_made name.Commit args made e = none_makes (IsMade name.Commit) item.Commit (plain item.Commit tt) args made e
item_made name.Abort args made e = none_makes (IsMade name.Abort) item.Abort (plain item.Abort tt) args made e
item_made name.Poke args made e = three_makes (IsMade name.Poke) _ poke_made args made e
item_made name.Audit args made e = none_makes (IsMade name.Audit) item.Audit (plain item.Audit tt) args made e
item_made name.Checkpoint args made e = none_makes (IsMade name.Checkpoint) item.Checkpoint (plain item.Checkpoint tt) args made e
item_made name.Cleanup args made e = none_makes (IsMade name.Cleanup) item.Cleanup (plain item.Cleanup tt) args made e
item_made name.Crash args made e = one_makes (IsMade name.Crash) _ (number_made name.Crash item.Crash 0 1000000 (λ x. refl) (λ x h. h.1)) args made e
item_made name.Restart args made e = none_makes (IsMade name.Restart) item.Restart (plain item.Restart tt) args made e
item_made name.Show args made e = none_makes (IsMade name.Show) item.Show (plain item.Show tt) args made e
item_made name.Verify args made e = none_makes (IsMade name.Verify) item.Verify (plain item.Verify tt) args made e
item_made name.Next args made e = none_makes (IsMade name.Next) item.Next (plain item.Next tt) args made e
item_made name.Fuse args made e = one_makes (IsMade name.Fuse) _ (number_made name.Fuse item.Fuse 0 1000000000 (λ x. refl) (λ x h. h.1)) args made e

-- ---- a right line: it may stand where it stands, its numbers are in their ranges, and its client is new in the round
abbrev pub stands : Item → Place → Bool
stands made p = may_stand (name_of_line made) p

pub record IsRight (c : Context) (made : Item) : Type 0 where
  pub stands_here : stands made c.place ≡ true
  pub numbers : IsRightLine made
  pub new : is_new_here c made ≡ true

pub right_line : (c : Context) (words : List Text) (made : Item) → verdict c words ≡ Ok made → IsRight c made
right_line c [] made e = absurd (cc)
right_line c (word ∷ args) made e =
    let wanted = test_ok (not (is_start c.place) || begins_a_script (name_of word)) kind.SizeOrOpenWanted _ made e in
    let known = bind_ok (ok_or (name_of word) kind.Unknown) _ made wanted.1 in
    let placed = test_ok (may_stand known.0 c.place) kind.Place _ made known.2 in
    let item = bind_ok (item_of known.0 args) _ made placed.1 in
    let fresh = test_ok (is_new_here c item.0) kind.Client _ made item.2 in
    let same : item.0 ≡ made = cc in
    let is : IsMade known.0 made = item_made known.0 args made (item.1 ∙ ap Ok same) in
    record {
      stands_here = ap (λ n. may_stand n c.place) is.its_name ∙ placed.0;
      numbers = is.its_numbers;
      new = subst (λ (i : Item). is_new_here c i ≡ true) same fresh.0;
    }

pub right_stands : (c : Context) (words : List Text) (made : Item) → verdict c words ≡ Ok made → stands made c.place ≡ true
right_stands c words made e = (right_line c words made e).stands_here
