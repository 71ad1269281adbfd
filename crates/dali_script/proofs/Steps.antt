-- What one right line does to what was read so far: the place behind it, the lines so far, and the grouping of rounds.
use Rattle.std.proofs.Common.{◌≡◌, ℕ, ◌<◌, Bool, true, false, cond, List, [], ◌∷◌, ◌++◌, length, map, Some, refl, ap, sym, ◌∙◌, append_assoc, arith, None, ◌⊎◌, inl, inr}
use Rattle.std.specs.Prelude.{flat_map}
use Rattle.std.proofs.lemmas.List.{map-append, append-nil}
use Rattle.std.proofs.lemmas.Grind.{flat_map-append}
use Rattle.std.proofs.lemmas.Bool.Decides.{nat_tests}
use Rattle.dali_script.specs.Lines.{is_empty}
use Rattle.dali_script.specs.Places.{is_start, is_in_block, is_outside, is_between, is_in_transaction, after}
use Rattle.dali_script.specs.Grammar.{next, line_of_step, lines_of_block, lines_of_command, lines_of_script, IsGrouped, round_in}
use Rattle.dali_script.specs.Reading.{State, context_of, taken, step_of, single_of, with_step, with_single, ended}
use Rattle.dali_script.specs.declared.items.Item.{Item}
use Rattle.dali_script.specs.declared.items.Item.TheVariants as item
use Rattle.dali_script.specs.declared.places.Place.{Place}
use Rattle.dali_script.specs.declared.places.Place.TheVariants as place
use Rattle.dali_script.specs.declared.commands.ClientCommand.{ClientCommand}
use Rattle.dali_script.specs.declared.commands.Block.{Block}
use Rattle.dali_script.specs.declared.commands.Command.{Command}
use Rattle.dali_script.specs.declared.commands.Command.TheVariants as single
use Rattle.dali_script.proofs.Verdicts.{stands}

-- ---- places
start_is_out : (p : Place) → is_start p ≡ true → is_in_block p ≡ false
start_is_out place.Start e = refl
start_is_out place.Outside e = absurd (cc)
start_is_out place.InBlock e = absurd (cc)
start_is_out place.InTransaction e = absurd (cc)

outside_is_out : (p : Place) → is_outside p ≡ true → is_in_block p ≡ false
outside_is_out place.Start e = refl
outside_is_out place.Outside e = refl
outside_is_out place.InBlock e = absurd (cc)
outside_is_out place.InTransaction e = absurd (cc)

between_is_in : (p : Place) → is_between p ≡ true → is_in_block p ≡ true
between_is_in place.Start e = absurd (cc)
between_is_in place.Outside e = absurd (cc)
between_is_in place.InBlock e = refl
between_is_in place.InTransaction e = refl

transaction_is_in : (p : Place) → is_in_transaction p ≡ true → is_in_block p ≡ true
transaction_is_in place.Start e = absurd (cc)
transaction_is_in place.Outside e = absurd (cc)
transaction_is_in place.InBlock e = refl
transaction_is_in place.InTransaction e = refl

-- ---- a line that opens no block and closes none
abbrev pub is_plain : Item → Bool
is_plain (item.Client m) = false
is_plain item.End = false
is_plain _ = true

-- in a block it is a command of the block, and outside of blocks a single one
abbrev pub AsStep : Item → Place → Type 0
AsStep made p = (k : ClientCommand) × (step_of made ≡ Some k) × (line_of_step k ≡ made) × (is_in_block p ≡ true) × (is_in_block (after made p) ≡ true)

abbrev pub AsSingle : Item → Place → Type 0
AsSingle made p = (c : Command) × (single_of made ≡ Some c) × (lines_of_command c ≡ made ∷ []) × (round_in c ≡ None) × (is_in_block p ≡ false) × (is_in_block (after made p) ≡ false)

-- where it may stand in a block and outside of one
as_either : (made : Item) (p : Place) (k : ClientCommand) (c : Command) → step_of made ≡ Some k → line_of_step k ≡ made → single_of made ≡ Some c → lines_of_command c ≡ made ∷ [] → round_in c ≡ None
    → after made p ≡ p → AsStep made p ⊎ AsSingle made p
as_either made p k c a b d e f stays = by_test (is_in_block p) refl
  where
    by_test : (t : Bool) → is_in_block p ≡ t → AsStep made p ⊎ AsSingle made p
    by_test true t = inl (k, a, b, t, ap is_in_block stays ∙ t)
    by_test false t = inr (c, d, e, f, t, ap is_in_block stays ∙ t)

pub as_read : (made : Item) (p : Place) → is_plain made ≡ true → stands made p ≡ true → AsStep made p ⊎ AsSingle made p
as_read (item.Client m) p plain e = absurd (cc)
as_read item.End p plain e = absurd (cc)
as_read (item.Size i h) p plain e = inr (_, refl, refl, refl, start_is_out p e, refl)
as_read item.Open p plain e = inr (_, refl, refl, refl, start_is_out p e, refl)
as_read item.Begin p plain e = inl (_, refl, refl, between_is_in p e, refl)
as_read (item.Insert k v) p plain e = inl (_, refl, refl, transaction_is_in p e, transaction_is_in p e)
as_read (item.Update k v) p plain e = inl (_, refl, refl, transaction_is_in p e, transaction_is_in p e)
as_read (item.Delete k) p plain e = inl (_, refl, refl, transaction_is_in p e, transaction_is_in p e)
as_read (item.Get k) p plain e = inl (_, refl, refl, transaction_is_in p e, transaction_is_in p e)
as_read (item.Die m) p plain e = inl (_, refl, refl, transaction_is_in p e, transaction_is_in p e)
as_read item.Commit p plain e = inl (_, refl, refl, transaction_is_in p e, refl)
as_read item.Abort p plain e = inl (_, refl, refl, transaction_is_in p e, refl)
as_read (item.Poke r w m) p plain e = as_either (item.Poke r w m) p _ _ refl refl refl refl refl refl
as_read item.Audit p plain e = as_either item.Audit p _ _ refl refl refl refl refl refl
as_read item.Checkpoint p plain e = as_either item.Checkpoint p _ _ refl refl refl refl refl refl
as_read _ p plain e = inr (_, refl, refl, refl, outside_is_out p e, outside_is_out p e)

-- what was read so far, behind such a line
abbrev pub chosen : Bool → Item → State → State
chosen b made s = record (cond b (with_step (step_of made) s) (with_single (single_of made) s)) { place = after made s.place }

-- ---- the place behind a line
plain_context : (made : Item) (s : State) → AsStep made s.place ⊎ AsSingle made s.place
    → context_of (chosen (is_in_block s.place) made s) ≡ record { place = after made s.place; clients = cond (is_in_block s.place) s.clients []; opened = s.opened }
plain_context made s (inl (k, is, line, inside, still)) = rw (inside, is) refl
plain_context made s (inr (c, is, lines, alone, out, still)) = rw (out, is) refl

pub context_taken : (n : ℕ) (made : Item) (s : State) → stands made s.place ≡ true → context_of (taken n made s) ≡ next n made (context_of s)
context_taken n (item.Client m) s e = refl
context_taken n item.End s e = rw e refl
context_taken n made s e = plain_context made s (as_read made s.place refl e)

-- ---- the lines so far
abbrev pub open_lines : Bool → ℕ → List ClientCommand → List Item
open_lines true m steps = item.Client m ∷ map line_of_step steps
open_lines false m steps = []

abbrev pub lines_so_far : State → List Item
lines_so_far s = lines_of_script s.commands ++ (flat_map lines_of_block s.blocks ++ open_lines (is_in_block s.place) s.client s.steps)

-- no step stands outside a block, and a round may follow the commands
abbrev pub MayFollow : List Command → Type 0
MayFollow commands = (blocks : List Block) → 0 < length blocks → IsGrouped (commands ++ single.Round blocks ∷ [])

pub record IsSound (s : State) : Type 0 where
  pub nothing : is_in_block s.place ≡ false → s.steps ≡ []
  pub grouped : IsGrouped s.commands
  pub follows : MayFollow s.commands

-- the round that ends
pub nonempty : {X : Type 0} (x : X) (xs : List X) → is_empty (x ∷ xs) ≡ false
nonempty x xs = grind (arith, nat_tests)

pub ended-some : (b : Block) (blocks : List Block) (commands : List Command) → ended (b ∷ blocks) commands ≡ commands ++ single.Round (b ∷ blocks) ∷ []
ended-some b blocks commands = ap (λ t. cond t commands (commands ++ single.Round (b ∷ blocks) ∷ [])) (nonempty b blocks)

pub lines-ended : (blocks : List Block) (commands : List Command) → lines_of_script (ended blocks commands) ≡ lines_of_script commands ++ flat_map lines_of_block blocks
lines-ended [] commands = sym (append-nil (lines_of_script commands))
lines-ended (b ∷ blocks) commands = ap lines_of_script (ended-some b blocks commands) ∙ flat_map-append lines_of_command commands (single.Round (b ∷ blocks) ∷ []) ∙ ap (λ ls. lines_of_script commands ++ ls) (append-nil (flat_map lines_of_block (b ∷ blocks)))

-- a single command more
single_line : (c : Command) (line : Item) (s : State) → is_in_block s.place ≡ false → is_in_block (after line s.place) ≡ false → lines_of_command c ≡ line ∷ [] → lines_so_far (record (with_single (Some c) s) { place = after line s.place }) ≡ lines_so_far s ++ line ∷ []
single_line c line s out still is =
    ap (λ b. lines_of_script (ended s.blocks s.commands ++ c ∷ []) ++ open_lines b s.client s.steps) still
    ∙ append-nil (lines_of_script (ended s.blocks s.commands ++ c ∷ []))
    ∙ flat_map-append lines_of_command (ended s.blocks s.commands) (c ∷ [])
    ∙ ap (λ ls. lines_of_script (ended s.blocks s.commands) ++ ls) (append-nil (lines_of_command c) ∙ is)
    ∙ ap (λ ls. ls ++ line ∷ []) (lines-ended s.blocks s.commands ∙ ap (λ ls. lines_of_script s.commands ++ ls) (sym (append-nil (flat_map lines_of_block s.blocks))) ∙ ap (λ b. lines_of_script s.commands ++ (flat_map lines_of_block s.blocks ++ open_lines b s.client s.steps)) (sym out))

-- a command of a block more
step_line : (k : ClientCommand) (line : Item) (s : State) → is_in_block s.place ≡ true → is_in_block (after line s.place) ≡ true → line_of_step k ≡ line → lines_so_far (record (with_step (Some k) s) { place = after line s.place }) ≡ lines_so_far s ++ line ∷ []
step_line k line s inside still is =
    ap (λ b. X ++ (Y ++ open_lines b s.client (s.steps ++ k ∷ []))) still
    ∙ ap (λ ls. X ++ (Y ++ item.Client s.client ∷ ls)) (map-append line_of_step s.steps (k ∷ []) ∙ ap (λ l. map line_of_step s.steps ++ l ∷ []) is)
    ∙ regroup X Y (item.Client s.client ∷ map line_of_step s.steps) (line ∷ [])
    ∙ ap (λ b. (X ++ (Y ++ open_lines b s.client s.steps)) ++ line ∷ []) (sym inside)
  where
    X : List Item
    X = lines_of_script s.commands

    Y : List Item
    Y = flat_map lines_of_block s.blocks

    regroup : (a b c d : List Item) → a ++ (b ++ (c ++ d)) ≡ (a ++ (b ++ c)) ++ d
    regroup a b c d = ap (λ ls. a ++ ls) (sym (append_assoc b c d)) ∙ sym (append_assoc a (b ++ c) d)

plain_lines : (made : Item) (s : State) → AsStep made s.place ⊎ AsSingle made s.place → lines_so_far (chosen (is_in_block s.place) made s) ≡ lines_so_far s ++ made ∷ []
plain_lines made s (inl (k, is, line, inside, still)) =
    ap (λ b. lines_so_far (chosen b made s)) inside
    ∙ ap (λ o. lines_so_far (record (with_step o s) { place = after made s.place })) is
    ∙ step_line k made s inside still line
plain_lines made s (inr (c, is, lines, alone, out, still)) =
    ap (λ b. lines_so_far (chosen b made s)) out
    ∙ ap (λ o. lines_so_far (record (with_single o s) { place = after made s.place })) is
    ∙ single_line c made s out still lines

pub lines_taken : (n : ℕ) (made : Item) (s : State) → IsSound s → stands made s.place ≡ true → lines_so_far (taken n made s) ≡ lines_so_far s ++ made ∷ []
lines_taken n (item.Client m) s sound e =
    let out = outside_is_out s.place e in
    let before = lines_of_script s.commands in
    let round = flat_map lines_of_block s.blocks in
    ap (λ steps. before ++ (round ++ item.Client m ∷ map line_of_step steps)) (sound.nothing out)
    ∙ sym (append_assoc before round (item.Client m ∷ []))
    ∙ ap (λ ls. (before ++ ls) ++ item.Client m ∷ []) (sym (append-nil round))
    ∙ ap (λ b. (before ++ (round ++ open_lines b s.client s.steps)) ++ item.Client m ∷ []) (sym out)
lines_taken n item.End s sound e =
    let before = lines_of_script s.commands in
    let round = flat_map lines_of_block s.blocks in
    let inner = item.Client s.client ∷ map line_of_step s.steps in
    let b : Block = record { client = s.client; commands = s.steps } in
    ap (λ ls. before ++ ls) (append-nil (flat_map lines_of_block (s.blocks ++ b ∷ [])) ∙ flat_map-append lines_of_block s.blocks (b ∷ []) ∙ ap (λ ls. round ++ ls) (append-nil (inner ++ item.End ∷ [])) ∙ sym (append_assoc round inner (item.End ∷ [])))
    ∙ sym (append_assoc before (round ++ inner) (item.End ∷ []))
    ∙ ap (λ t. (before ++ (round ++ open_lines t s.client s.steps)) ++ item.End ∷ []) (sym e)
lines_taken n made s sound e = plain_lines made s (as_read made s.place refl e)
