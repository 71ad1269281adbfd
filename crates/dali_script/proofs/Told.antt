-- That there is a reason for each fault of a script.
use Rattle.std.proofs.Common.{◌≡◌, ℕ, ◌+◌, ◌-◌, ◌<◌, ◌==◌, suc, Bool, true, false, cond, not, ◌||◌, List, [], ◌∷◌, ◌++◌, length, Option, Some, None, refl, ap, sym, subst, ◌∙◌, ◌⊎◌, inl, inr, arith}
use Rattle.std.specs.Prelude.{Result, Ok, Err, ok_or, is_some, IsSome, slice_get}
use Rattle.std.specs.List.{cons_option, filter_map, enumerate_from, AllByRecursion}
use Rattle.std.proofs.lemmas.List.Splits.{length-slice_split}
use Rattle.dali_script.specs.Texts.{◌>>=◌ as ◌>>?◌}
use Rattle.dali_script.specs.Lines.{lines_of, words_of, is_comment, is_empty, command_in, command_lines}
use Rattle.dali_script.specs.Faults.{◌>>=◌, test}
use Rattle.dali_script.specs.Names.{name_of}
use Rattle.dali_script.specs.Items.{Text, item_of}
use Rattle.dali_script.specs.Places.{is_start, is_in_block, may_stand, after}
use Rattle.dali_script.specs.Forms.{forms_of, unfit, are_as_many, kind_of, fault_in}
use Rattle.dali_script.specs.Grammar.{Context, start, begins_a_script, is_new_here, verdict, next, opened_after, Reads, IsWrongLine, HasNoCommand, IsUnended, IsWrong}
use Rattle.dali_script.specs.Reasons.{Told, command_words, told_of, told, reason_in, seen_reason}
use Rattle.dali_script.specs.declared.faults.Kind.{Kind}
use Rattle.dali_script.specs.declared.faults.Kind.TheVariants as kind
use Rattle.dali_script.specs.declared.names.Name.{Name}
use Rattle.dali_script.specs.declared.names.Name.TheVariants as name
use Rattle.dali_script.specs.declared.items.Item.{Item}
use Rattle.dali_script.specs.declared.items.Item.TheVariants as item
use Rattle.dali_script.specs.declared.places.Place.{Place}
use Rattle.dali_script.specs.declared.places.Place.TheVariants as place
use Rattle.dali_script.specs.declared.forms.Form.{Form}
use Rattle.dali_script.specs.declared.forms.Form.TheVariants as form
use Rattle.dali_script.specs.declared.reasons.Reason.{Reason}
use Rattle.dali_script.proofs.FormsOfNames.{kind_at, same_fault}
use Rattle.dali_script.proofs.Verdicts.{bind_ok, test_ok, item_made, stands, right_stands}

-- ---- results in a row
bind_err : {A B E : Type 0} (r : Result A E) (f : A → Result B E) (k : E) → (r >>= f) ≡ Err k → (r ≡ Err k) ⊎ ((x : A) × (r ≡ Ok x) × (f x ≡ Err k))
bind_err (Ok x) f k e = inr (x, refl, e)
bind_err (Err j) f k e = let same : j ≡ k = cc in inl (ap Err same)

test_err : (passes : Bool) (j k : Kind) → test passes j ≡ Err k → (passes ≡ false) × (j ≡ k)
test_err true j k e = absurd (cc)
test_err false j k e = (refl, cc)

known_err : (o : Option Name) (j k : Kind) → ok_or o j ≡ Err k → j ≡ k
known_err (Some n) j k e = absurd (cc)
known_err None j k e = cc

known_ok : (o : Option Name) (j : Kind) (n : Name) → ok_or o j ≡ Ok n → o ≡ Some n
known_ok (Some m) j n e = cc
known_ok None j n e = absurd (cc)

-- ---- the words of a client
abbrev HasWord : List Text → Type 0
HasWord args = (a : Text) × (more : List Text) × (args ≡ a ∷ more)

client_word : (n : Name) (args : List Text) (m : ℕ) → item_of n args ≡ Ok (item.Client m) → HasWord args
client_word n args m e =
    by_args args (subst (λ (n : Name). item_of n args ≡ Ok (item.Client m)) (sym (item_made n args (item.Client m) e).its_name) e)
  where
    by_args : (args : List Text) → item_of name.Client args ≡ Ok (item.Client m) → HasWord args
    by_args [] e = absurd (cc)
    by_args (a ∷ more) e = (a, more, refl)

client_in : (c : Context) (made : Item) → is_new_here c made ≡ false → (m : ℕ) × (made ≡ item.Client m)
client_in c (item.Client m) e = (m, refl)
client_in c _ e = absurd (cc)

-- ---- a wrong line
unfit_told : (word : Text) (args : List Text) (n : Name) (x : Text × Form) (k : Kind) → name_of word ≡ Some n → unfit (forms_of n) args ≡ Some x → kind_of x.1 ≡ k
    → is_some (told_of k word args) ≡ true
unfit_told word args n x k is un same = subst (λ (k : Kind). is_some (told_of k word args) ≡ true) same (by_form x un)
  where
    by_form : (x : Text × Form) → unfit (forms_of n) args ≡ Some x → is_some (told_of (kind_of x.1) word args) ≡ true
    by_form (w, form.Number range) un = rw is (rw un refl)
    by_form (w, form.Key) un = rw is (rw un refl)
    by_form (w, form.Mask) un = rw is (rw un refl)
    by_form (w, form.Value) un = rw is (rw un refl)

arguments_told : (word : Text) (args : List Text) (n : Name) (k : Kind) → name_of word ≡ Some n → item_of n args ≡ Err k → is_some (told_of k word args) ≡ true
arguments_told word args n k is e = by_count (are_as_many (forms_of n) args) (sym (same_fault n args) ∙ ap fault_in e)
  where
    by_unfit : (o : Option (Text × Form)) → unfit (forms_of n) args ≡ o → kind_at o ≡ Some k → is_some (told_of k word args) ≡ true
    by_unfit (Some x) un f = let same : kind_of x.1 ≡ k = cc in unfit_told word args n x k is un same
    by_unfit None un f = absurd (cc)

    by_count : (b : Bool) → cond b (kind_at (unfit (forms_of n) args)) (Some kind.Arguments) ≡ Some k → is_some (told_of k word args) ≡ true
    by_count true f = by_unfit (unfit (forms_of n) args) refl f
    by_count false f = let same : kind.Arguments ≡ k = cc in subst (λ (k : Kind). is_some (told_of k word args) ≡ true) same (rw is refl)

line_told : (c : Context) (word : Text) (args : List Text) (k : Kind) → verdict c (word ∷ args) ≡ Err k → is_some (told_of k word args) ≡ true
line_told c word args k e = by_begin (bind_err (test (not (is_start c.place) || begins_a_script (name_of word)) kind.SizeOrOpenWanted) _ k e)
  where
    by_client : (n : Name) (made : Item) → item_of n args ≡ Ok made → (test (is_new_here c made) kind.Client ≡ Err k) ⊎ ((x : Unit {0}) × (test (is_new_here c made) kind.Client ≡ Ok x) × (Ok made ≡ Err k))
        → is_some (told_of k word args) ≡ true
    by_client n made is (inl f) =
        let failed = test_err (is_new_here c made) kind.Client k f in
        let client = client_in c made failed.0 in
        let some = client_word n args client.0 (is ∙ ap Ok client.1) in
        subst (λ (k : Kind). is_some (told_of k word args) ≡ true) failed.1 (rw some.2 refl)
    by_client n made is (inr f) = absurd (cc)

    by_item : (n : Name) → name_of word ≡ Some n → (item_of n args ≡ Err k) ⊎ ((made : Item) × (item_of n args ≡ Ok made) × ((test (is_new_here c made) kind.Client >>= λ fresh. Ok made) ≡ Err k))
        → is_some (told_of k word args) ≡ true
    by_item n is (inl f) = arguments_told word args n k is f
    by_item n is (inr f) = by_client n f.0 f.1 (bind_err (test (is_new_here c f.0) kind.Client) _ k f.2)

    by_place : (n : Name) → name_of word ≡ Some n → (test (may_stand n c.place) kind.Place ≡ Err k)
        ⊎ ((x : Unit {0}) × (test (may_stand n c.place) kind.Place ≡ Ok x) × ((item_of n args >>= λ made. test (is_new_here c made) kind.Client >>= λ fresh. Ok made) ≡ Err k))
        → is_some (told_of k word args) ≡ true
    by_place n is (inl f) = subst (λ (k : Kind). is_some (told_of k word args) ≡ true) (test_err (may_stand n c.place) kind.Place k f).1 (rw is refl)
    by_place n is (inr f) = by_item n is (bind_err (item_of n args) _ k f.2)

    by_name : (ok_or (name_of word) kind.Unknown ≡ Err k) ⊎ ((n : Name) × (ok_or (name_of word) kind.Unknown ≡ Ok n)
        × ((test (may_stand n c.place) kind.Place >>= λ placed. item_of n args >>= λ made. test (is_new_here c made) kind.Client >>= λ fresh. Ok made) ≡ Err k))
        → is_some (told_of k word args) ≡ true
    by_name (inl f) = subst (λ (k : Kind). is_some (told_of k word args) ≡ true) (known_err (name_of word) kind.Unknown k f) refl
    by_name (inr f) = by_place f.0 (known_ok (name_of word) kind.Unknown f.0 f.1) (bind_err (test (may_stand f.0 c.place) kind.Place) _ k f.2)

    by_begin : (test (not (is_start c.place) || begins_a_script (name_of word)) kind.SizeOrOpenWanted ≡ Err k)
        ⊎ ((x : Unit {0}) × (test (not (is_start c.place) || begins_a_script (name_of word)) kind.SizeOrOpenWanted ≡ Ok x)
        × ((ok_or (name_of word) kind.Unknown >>= λ n. test (may_stand n c.place) kind.Place >>= λ placed. item_of n args >>= λ made. test (is_new_here c made) kind.Client >>= λ fresh. Ok made) ≡ Err k))
        → is_some (told_of k word args) ≡ true
    by_begin (inl f) = subst (λ (k : Kind). is_some (told_of k word args) ≡ true) (test_err _ kind.SizeOrOpenWanted k f).1 refl
    by_begin (inr f) = by_name (bind_err (ok_or (name_of word) kind.Unknown) _ k f.2)

-- ---- the lines that are commands
abbrev Numbered : Type 0
Numbered = List (ℕ × List Text)

record IsLine (all : List Text) (l : ℕ × List Text) : Type 0 where
  line : Text
  at : slice_get all (l.0 - 1) ≡ Some line
  words : command_words line ≡ l.1
  some : HasWord l.1

some_words : (words : List Text) → is_empty words ≡ false → HasWord words
some_words [] e = absurd (cc)
some_words (w ∷ ws) e = (w, ws, refl)

line_put : (all : List Text) (n : ℕ) (line : Text) (more : Numbered) (a b : Bool) → is_comment line ≡ a → is_empty (words_of line) ≡ b → slice_get all (n - 1) ≡ Some line
    → AllByRecursion (IsLine all) more → AllByRecursion (IsLine all) (cons_option (cond (a || b) None (Some (n, words_of line))) more)
line_put all n line more true b is none at are = are
line_put all n line more false true is none at are = are
line_put all n line more false false is none at are =
    (record { line = line; at = at; words = ap (λ (c : Bool). cond c [] (words_of line)) is; some = some_words (words_of line) none }, are)

are_lines : (all rest : List Text) (n : ℕ) → ((i : ℕ) → slice_get rest i ≡ slice_get all (n + i - 1)) → AllByRecursion (IsLine all) (filter_map (λ l. command_in l.0 l.1) (enumerate_from n rest))
are_lines all [] n same = tt
are_lines all (line ∷ rest) n same =
    line_put all n line _ _ _ refl refl (ap (slice_get all) (let e : n - 1 ≡ n + 0 - 1 = omega arith in e) ∙ sym (same 0))
    (are_lines all rest (n + 1) (λ i. same (suc i) ∙ ap (slice_get all) (let e : n + suc i - 1 ≡ n + 1 + i - 1 = omega arith in e)))

commands_are_lines : (bytes : Text) → AllByRecursion (IsLine (lines_of bytes)) (command_lines bytes)
commands_are_lines bytes = are_lines (lines_of bytes) (lines_of bytes) 1 (λ i. ap (slice_get (lines_of bytes)) (let e : i ≡ 1 + i - 1 = omega arith in e))

among : (P : ℕ × List Text → Type 0) (before : Numbered) (l : ℕ × List Text) (behind : Numbered) → AllByRecursion P (before ++ l ∷ behind) → P l
among P [] l behind are = are.0
among P (b ∷ before) l behind are = among P before l behind are.1

-- ---- the three kinds of fault
record Found (all : List Text) (n : ℕ) (k : Kind) : Type 0 where
  line : Text
  at : slice_get all (n - 1) ≡ Some line
  is : is_some (told k (command_words line)) ≡ true

found_there : (bytes : Text) (n : ℕ) (k : Kind) → Found (lines_of bytes) n k → is_some (reason_in bytes n k) ≡ true
found_there bytes n k f = rw f.at (by_told (told k (command_words f.line)) f.is)
  where
    by_told : (o : Option Told) → is_some o ≡ true → is_some {T = ℕ × Told} (o >>? λ x. Some (n, x)) ≡ true
    by_told (Some x) e = refl
    by_told None e = absurd (cc)

wrong_line : (bytes : Text) (n : ℕ) (k : Kind) → IsWrongLine bytes n k → Found (lines_of bytes) n k
wrong_line bytes n k w =
    let is : IsLine (lines_of bytes) (n, w.words) = among _ w.before (n, w.words) w.behind (subst (AllByRecursion (IsLine (lines_of bytes))) w.split (commands_are_lines bytes)) in
    record {
      line = is.line;
      at = is.at;
      is = rw is.words (rw is.some.2 (line_told w.context is.some.0 is.some.1 k (ap (verdict w.context) (sym is.some.2) ∙ w.refused)));
    }

last_of : (lines : List Text) → 0 < length lines → (line : Text) × (slice_get lines (length lines - 1) ≡ Some line)
last_of [] some = absurd (omega arith)
last_of (line ∷ []) some = (line, refl)
last_of (line ∷ other ∷ lines) some =
    let more : 0 < length (other ∷ lines) = omega arith in
    let behind = last_of (other ∷ lines) more in
    let e : length (line ∷ other ∷ lines) - 1 ≡ suc (length (other ∷ lines) - 1) = omega arith in
    (behind.0, ap (slice_get (line ∷ other ∷ lines)) e ∙ behind.1)

begin_told : (words : List Text) → is_some (told kind.SizeOrOpenWanted words) ≡ true
begin_told [] = refl
begin_told (w ∷ ws) = refl

no_command : (bytes : Text) (n : ℕ) (k : Kind) → HasNoCommand bytes n k → Found (lines_of bytes) n k
no_command bytes n k h =
    let some : 0 < length (lines_of bytes) = omega (arith, length-slice_split (λ byte. byte == 10) bytes) in
    let last = last_of (lines_of bytes) some in
    record {
      line = last.0;
      at = ap (λ (m : ℕ). slice_get (lines_of bytes) (m - 1)) h.last ∙ last.1;
      is = rw h.wanted (begin_told (command_words last.0));
    }

-- what a command line that isn't of a client says of the place before it
abbrev Before : Item → Place → Type 0
Before (item.Client m) p = Unit {0}
Before _ p = is_in_block p ≡ true

between : (p : Place) → may_stand name.Begin p ≡ true → is_in_block p ≡ true
between place.Start e = absurd (cc)
between place.Outside e = absurd (cc)
between place.InBlock e = refl
between place.InTransaction e = absurd (cc)

within : (p : Place) → may_stand name.Commit p ≡ true → is_in_block p ≡ true
within place.Start e = absurd (cc)
within place.Outside e = absurd (cc)
within place.InBlock e = absurd (cc)
within place.InTransaction e = refl

inside_before : (made : Item) (p : Place) → stands made p ≡ true → is_in_block (after made p) ≡ true → Before made p
inside_before (item.Size i h) p s e = absurd (cc)
inside_before item.Open p s e = absurd (cc)
inside_before (item.Client m) p s e = tt
inside_before item.End p s e = absurd (cc)
inside_before item.Begin p s e = between p s
inside_before item.Commit p s e = within p s
inside_before item.Abort p s e = within p s
inside_before _ p s e = e

verdict_item : (c : Context) (word : Text) (args : List Text) (made : Item) → verdict c (word ∷ args) ≡ Ok made → (n : Name) × (item_of n args ≡ Ok made)
verdict_item c word args made e =
    let wanted = test_ok (not (is_start c.place) || begins_a_script (name_of word)) kind.SizeOrOpenWanted _ made e in
    let known = bind_ok (ok_or (name_of word) kind.Unknown) _ made wanted.1 in
    let placed = test_ok (may_stand known.0 c.place) kind.Place _ made known.2 in
    let item = bind_ok (item_of known.0 args) _ made placed.1 in
    let fresh = test_ok (is_new_here c item.0) kind.Client _ made item.2 in
    let same : item.0 ≡ made = cc in
    (known.0, item.1 ∙ ap Ok same)

client_found : (all : List Text) (l : ℕ × List Text) (c : Context) (m : ℕ) → IsLine all l → verdict c l.1 ≡ Ok (item.Client m) → Found all l.0 kind.Unended
client_found all l c m is e =
    let made = verdict_item c is.some.0 is.some.1 (item.Client m) (ap (verdict c) (sym is.some.2) ∙ e) in
    let word = client_word made.0 is.some.1 m made.1 in
    record { line = is.line; at = is.at; is = rw is.words (rw is.some.2 (rw word.2 refl)) }

opened_next : (all : List Text) (l : ℕ × List Text) (c : Context) (made : Item) → IsLine all l → verdict c l.1 ≡ Ok made → (is_in_block c.place ≡ true → Found all c.opened kind.Unended)
    → Before made c.place → Found all (opened_after l.0 made c) kind.Unended
opened_next all l c (item.Client m) is e known before = client_found all l c m is e
opened_next all l c _ is e known before = known before

opened_found : (all : List Text) (ls : Numbered) (items : List Item) (c d : Context) → AllByRecursion (IsLine all) ls → Reads c ls items d
    → (is_in_block c.place ≡ true → Found all c.opened kind.Unended) → is_in_block d.place ≡ true → Found all d.opened kind.Unended
opened_found all [] [] c d are reads known inside = subst (λ (d : Context). is_in_block d.place ≡ true → Found all d.opened kind.Unended) reads known inside
opened_found all [] (made ∷ more) c d are reads known inside = absurd reads
opened_found all (l ∷ ls) [] c d are reads known inside = absurd reads
opened_found all (l ∷ ls) (made ∷ more) c d are reads known inside =
    opened_found all ls more (next l.0 made c) d are.1 reads.1
    (λ within. opened_next all l c made are.0 reads.0 known (inside_before made c.place (right_stands c l.1 made reads.0) within)) inside

unended : (bytes : Text) (n : ℕ) (k : Kind) → IsUnended bytes n k → Found (lines_of bytes) n k
unended bytes n k u =
    let found = opened_found (lines_of bytes) (command_lines bytes) u.lines start u.end (commands_are_lines bytes) u.reads (λ e. absurd (cc)) u.inside in
    subst (λ (k : Kind). Found (lines_of bytes) n k) (sym u.unended) (subst (λ (m : ℕ). Found (lines_of bytes) m kind.Unended) (sym u.client) found)

found : (bytes : Text) (n : ℕ) (k : Kind) → IsWrong bytes n k → Found (lines_of bytes) n k
found bytes n k (inl w) = wrong_line bytes n k w
found bytes n k (inr (inl h)) = no_command bytes n k h
found bytes n k (inr (inr u)) = unended bytes n k u

seen_some : (r : Option Reason) → is_some (seen_reason r) ≡ true → IsSome r
seen_some (Some r) e = refl
seen_some None e = e

pub always_told : (bytes : Text) (n : ℕ) (k : Kind) (r : Option Reason) → seen_reason r ≡ reason_in bytes n k → IsWrong bytes n k → IsSome r
always_told bytes n k r e w = seen_some r (ap is_some e ∙ found_there bytes n k (found bytes n k w))
