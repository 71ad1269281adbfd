-- A script that bytes spell is right: its numbers, its places, and the clients of its rounds.
use Rattle.std.proofs.Common.{◌≡◌, ℕ, zero, suc, ◌<◌, ◌≤◌, Bool, true, false, cond, List, [], ◌∷◌, ◌++◌, length, map, Some, refl, ap, sym, subst, ◌∙◌, arith}
use Rattle.std.specs.Prelude.{◌==◌, flat_map}
use Rattle.std.specs.List.{slice_get, list_any, AllByRecursion}
use Rattle.std.proofs.lemmas.List.Folds.{list_any-append}
use Rattle.std.proofs.lemmas.Bool.{not-true, or_parts, eq-eqb}
use Rattle.dali_script.specs.Lines.{command_lines}
use Rattle.dali_script.specs.Items.{Text}
use Rattle.dali_script.specs.Places.{is_start, is_in_block, after}
use Rattle.dali_script.specs.Grammar.{Context, start, next, clients_after, Reads, line_of_step, lines_of_block, lines_of_command, lines_of_script, round_in, IsGroupedBy, IsGroupedAfter, IsSpelled}
use Rattle.dali_script.specs.Scripts.{AreInPlace, IsRightRound, IsRightCommand, begins, BeginsOnce, IsRightScript}
use Rattle.dali_script.specs.declared.items.Item.{Item}
use Rattle.dali_script.specs.declared.items.Item.TheVariants as item
use Rattle.dali_script.specs.declared.places.Place.{Place}
use Rattle.dali_script.specs.declared.places.Place.TheVariants as place
use Rattle.dali_script.specs.declared.commands.ClientCommand.{ClientCommand}
use Rattle.dali_script.specs.declared.commands.ClientCommand.TheVariants as step
use Rattle.dali_script.specs.declared.commands.Block.{Block}
use Rattle.dali_script.specs.declared.commands.Command.{Command}
use Rattle.dali_script.specs.declared.commands.Command.TheVariants as single
use Rattle.dali_script.proofs.Verdicts.{stands, IsRightLine, right_line, right_stands}
use Rattle.dali_script.proofs.Grouping.{never_at_start}

abbrev pub Numbered : Type 0
Numbered = List (ℕ × List Text)

-- lines in two parts
pub record Parted (c : Context) (ls : Numbered) (xs ys : List Item) (d : Context) : Type 0 where
  pub mid : Context
  pub first : Numbered
  pub second : Numbered
  pub front : Reads c first xs mid
  pub rest : Reads mid second ys d

pub parts : (c : Context) (ls : Numbered) (xs ys : List Item) (d : Context) → Reads c ls (xs ++ ys) d → Parted c ls xs ys d
parts c ls [] ys d r = record { mid = c; first = []; second = ls; front = refl; rest = r }
parts c [] (x ∷ xs) ys d r = absurd r
parts c (l ∷ ls) (x ∷ xs) ys d r =
    let later = parts (next l.0 x c) ls xs ys d r.1 in
    record { mid = later.mid; first = l ∷ later.first; second = later.second; front = (r.0, later.front); rest = later.rest }

-- ---- the commands of a block
abbrev place_in : Bool → Place
place_in true = place.InTransaction
place_in false = place.InBlock

place_in_block : (within : Bool) → is_in_block (place_in within) ≡ true
place_in_block true = refl
place_in_block false = refl

-- whether a transaction is open behind a command
abbrev opened_by : ClientCommand → Bool → Bool
opened_by step.Begin within = true
opened_by step.Commit within = false
opened_by step.Abort within = false
opened_by _ within = within

place_behind : (k : ClientCommand) (within : Bool) → after (line_of_step k) (place_in within) ≡ place_in (opened_by k within)
place_behind step.Begin within = refl
place_behind _ within = refl

clients_behind : (k : ClientCommand) (c : Context) → is_in_block c.place ≡ true → clients_after (line_of_step k) c ≡ c.clients
clients_behind step.Begin c e = ap (λ b. cond b c.clients []) e
clients_behind _ c e = ap (λ b. cond b c.clients []) e

-- one command more in front
in_place : (within : Bool) (k : ClientCommand) (later : List ClientCommand) → stands (line_of_step k) (place_in within) ≡ true → IsRightLine (line_of_step k) → AreInPlace (opened_by k within) later → AreInPlace within (k ∷ later)
in_place false step.Begin later e right rest = rest
in_place true step.Begin later e right rest = absurd (cc)
in_place true (step.Insert k v) later e right rest = (right, rest)
in_place false (step.Insert k v) later e right rest = absurd (cc)
in_place true (step.Update k v) later e right rest = (right, rest)
in_place false (step.Update k v) later e right rest = absurd (cc)
in_place true (step.Delete k) later e right rest = (right, rest)
in_place false (step.Delete k) later e right rest = absurd (cc)
in_place true (step.Get k) later e right rest = (right, rest)
in_place false (step.Get k) later e right rest = absurd (cc)
in_place true (step.Die n) later e right rest = (right.0, right.1, rest)
in_place false (step.Die n) later e right rest = absurd (cc)
in_place true step.Commit later e right rest = rest
in_place false step.Commit later e right rest = absurd (cc)
in_place true step.Abort later e right rest = rest
in_place false step.Abort later e right rest = absurd (cc)
in_place false (step.Poke r w m) later e right rest = (right, rest)
in_place true (step.Poke r w m) later e right rest = absurd (cc)
in_place false step.Audit later e right rest = rest
in_place true step.Audit later e right rest = absurd (cc)
in_place false step.Checkpoint later e right rest = rest
in_place true step.Checkpoint later e right rest = absurd (cc)

-- the commands of a block and its end
record AreRead (within : Bool) (commands : List ClientCommand) (c d : Context) : Type 0 where
  placed : AreInPlace within commands
  clients : d.clients ≡ c.clients

are_read : (within : Bool) (commands : List ClientCommand) (c : Context) (ls : Numbered) (d : Context) → c.place ≡ place_in within → Reads c ls (map line_of_step commands ++ item.End ∷ []) d → AreRead within commands c d
are_read within [] c [] d at r = absurd r
are_read within [] c (l ∷ []) d at r =
    let inside : is_in_block c.place ≡ true = ap is_in_block at ∙ place_in_block within in
    record { placed = tt; clients = ap (λ (x : Context). x.clients) (sym r.1) ∙ ap (λ b. cond b c.clients []) inside }
are_read within [] c (l ∷ m ∷ ls) d at r = absurd r.1
are_read within (k ∷ later) c [] d at r = absurd r
are_read within (k ∷ later) c (l ∷ ls) d at r =
    let right = right_line c l.1 (line_of_step k) r.0 in
    let behind : after (line_of_step k) c.place ≡ place_in (opened_by k within) = ap (after (line_of_step k)) at ∙ place_behind k within in
    let rest = are_read (opened_by k within) later (next l.0 (line_of_step k) c) ls d behind r.1 in
    record {
      placed = in_place within k later (ap (λ (p : Place). stands (line_of_step k) p) (sym at) ∙ right.stands_here) right.numbers rest.placed;
      clients = rest.clients ∙ clients_behind k c (ap is_in_block at ∙ place_in_block within);
    }

-- ---- the blocks of a round
record IsRightBlock (seen : List ℕ) (b : Block) : Type 0 where
  number : (1 ≤ b.client) × (b.client ≤ 64)
  new : list_any (λ m. m == b.client) seen ≡ false
  placed : AreInPlace false b.commands

-- behind blocks of the clients that were seen
abbrev AreRightBlocks : List ℕ → List Block → Type 0
AreRightBlocks seen [] = Unit {0}
AreRightBlocks seen (b ∷ later) = IsRightBlock seen b × AreRightBlocks (seen ++ b.client ∷ []) later

record BlockIsRead (b : Block) (c d : Context) : Type 0 where
  right : IsRightBlock c.clients b
  clients : d.clients ≡ c.clients ++ b.client ∷ []

block_is_read : (b : Block) (c : Context) (ls : Numbered) (d : Context) → Reads c ls (lines_of_block b) d → BlockIsRead b c d
block_is_read b c [] d r = absurd r
block_is_read b c (l ∷ ls) d r =
    let first = right_line c l.1 (item.Client b.client) r.0 in
    let rest = are_read false b.commands (next l.0 (item.Client b.client) c) ls d refl r.1 in
    record {
      right = record { number = first.numbers; new = not-true (list_any (λ m. m == b.client) c.clients) first.new; placed = rest.placed };
      clients = rest.clients;
    }

blocks_are_right : (blocks : List Block) (c : Context) (ls : Numbered) (d : Context) → Reads c ls (flat_map lines_of_block blocks) d → AreRightBlocks c.clients blocks
blocks_are_right [] c ls d r = tt
blocks_are_right (b ∷ later) c ls d r =
    let two = parts c ls (lines_of_block b) (flat_map lines_of_block later) d r in
    let first = block_is_read b c two.first two.mid two.front in
    (first.right, subst (λ (seen : List ℕ). AreRightBlocks seen later) first.clients (blocks_are_right later two.mid two.second d two.rest))

at_place : (blocks : List Block) (seen : List ℕ) (i : ℕ) (b : Block) → AreRightBlocks seen blocks → slice_get blocks i ≡ Some b → IsRightBlock seen b
at_place [] seen i b r e = absurd (cc)
at_place (a ∷ later) seen zero b r e = let same : a ≡ b = cc in subst (λ (x : Block). IsRightBlock seen x) same r.0
at_place (a ∷ later) seen (suc i) b r e =
    let right = at_place later (seen ++ a.client ∷ []) i b r.1 e in
    let apart = or_parts (list_any (λ m. m == b.client) seen) (list_any (λ m. m == b.client) (a.client ∷ [])) (sym (list_any-append (λ m. m == b.client) seen (a.client ∷ [])) ∙ right.new) in
    record { number = right.number; new = apart.0; placed = right.placed }

-- a later block has another client
differs : (a b : Block) (later : List Block) (seen : List ℕ) (i : ℕ) → AreRightBlocks (seen ++ a.client ∷ []) later → slice_get later i ≡ Some b → a.client ≡ b.client → ⊥
differs a b later seen i r e same =
    let right = at_place later (seen ++ a.client ∷ []) i b r e in
    let apart = or_parts (list_any (λ m. m == b.client) seen) (list_any (λ m. m == b.client) (a.client ∷ [])) (sym (list_any-append (λ m. m == b.client) seen (a.client ∷ [])) ∙ right.new) in
    let other = or_parts (a.client == b.client) false apart.1 in
    let both : true ≡ false = sym (eq-eqb a.client b.client same) ∙ other.0 in
    cc

are_apart : (blocks : List Block) (seen : List ℕ) → AreRightBlocks seen blocks → (i j : ℕ) (a b : Block) → slice_get blocks i ≡ Some a → slice_get blocks j ≡ Some b → a.client ≡ b.client → i ≡ j
are_apart [] seen r i j a b e f same = absurd (cc)
are_apart (x ∷ later) seen r zero zero a b e f same = refl
are_apart (x ∷ later) seen r zero (suc j) a b e f same = let is : x ≡ a = cc in absurd (differs x b later seen j r.1 f (ap (λ (y : Block). y.client) is ∙ same))
are_apart (x ∷ later) seen r (suc i) zero a b e f same = let is : x ≡ b = cc in absurd (differs x a later seen i r.1 e (ap (λ (y : Block). y.client) is ∙ sym same))
are_apart (x ∷ later) seen r (suc i) (suc j) a b e f same = ap suc (are_apart later (seen ++ x.client ∷ []) r.1 i j a b e f same)

round_is_right : (blocks : List Block) (seen : List ℕ) → AreRightBlocks seen blocks → IsRightRound blocks
round_is_right blocks seen r = record {
  numbers = λ i b e. (at_place blocks seen i b r e).number;
  placed = λ i b e. (at_place blocks seen i b r e).placed;
  apart = λ i j a b e f same. are_apart blocks seen r i j a b e f same;
}

-- ---- commands
line_right : (i : Item) (c : Context) (ls : Numbered) (d : Context) → Reads c ls (i ∷ []) d → IsRightLine i
line_right i c [] d r = absurd r
line_right i c (l ∷ ls) d r = (right_line c l.1 i r.0).numbers

command_right : (command : Command) (c : Context) (ls : Numbered) (d : Context) → Reads c ls (lines_of_command command) d → IsRightCommand command
command_right (single.Size i h) c ls d r = line_right (item.Size i h) c ls d r
command_right (single.Round blocks) c ls d r = round_is_right blocks c.clients (blocks_are_right blocks c ls d r)
command_right (single.Poke q w m) c ls d r = line_right (item.Poke q w m) c ls d r
command_right (single.Crash n) c ls d r = line_right (item.Crash n) c ls d r
command_right (single.Fuse n) c ls d r = line_right (item.Fuse n) c ls d r
command_right _ c ls d r = tt

commands_right : (script : List Command) (c : Context) (ls : Numbered) (d : Context) → Reads c ls (lines_of_script script) d → AllByRecursion IsRightCommand script
commands_right [] c ls d r = tt
commands_right (command ∷ later) c ls d r =
    let two = parts c ls (lines_of_command command) (lines_of_script later) d r in
    (command_right command c two.first two.mid two.front, commands_right later two.mid two.second d two.rest)

-- ---- the first command
abbrev IsBehind : Context → Type 0
IsBehind c = c.place ≡ place.Start → ⊥

stays_behind : (items : List Item) (c : Context) (ls : Numbered) (d : Context) → IsBehind c → Reads c ls items d → IsBehind d
stays_behind [] c [] d off r = λ at. off (ap (λ (x : Context). x.place) r ∙ at)
stays_behind [] c (l ∷ ls) d off r = absurd r
stays_behind (i ∷ later) c [] d off r = absurd r
stays_behind (i ∷ later) c (l ∷ ls) d off r = stays_behind later (next l.0 i c) ls d (never_at_start i c.place (right_stands c l.1 i r.0)) r.1

at_start : (p : Place) → is_start p ≡ true → p ≡ place.Start
at_start place.Start e = refl
at_start place.Outside e = absurd (cc)
at_start place.InBlock e = absurd (cc)
at_start place.InTransaction e = absurd (cc)

begins_at_start : (i : Item) (c : Context) (ls : Numbered) (d : Context) → ((p : Place) → stands i p ≡ true → is_start p ≡ true) → Reads c ls (i ∷ []) d → c.place ≡ place.Start
begins_at_start i c [] d only r = absurd r
begins_at_start i c (l ∷ ls) d only r = at_start c.place (only c.place (right_stands c l.1 i r.0))

begins_none : (command : Command) (c : Context) (ls : Numbered) (d : Context) → IsBehind c → Reads c ls (lines_of_command command) d → begins command ≡ false
begins_none (single.Size i h) c ls d off r = absurd (off (begins_at_start (item.Size i h) c ls d (λ p e. e) r))
begins_none single.Open c ls d off r = absurd (off (begins_at_start item.Open c ls d (λ p e. e) r))
begins_none _ c ls d off r = refl

none_begins : (script : List Command) (c : Context) (ls : Numbered) (d : Context) → IsBehind c → Reads c ls (lines_of_script script) d → AllByRecursion (λ k. begins k ≡ false) script
none_begins [] c ls d off r = tt
none_begins (command ∷ later) c ls d off r =
    let two = parts c ls (lines_of_command command) (lines_of_script later) d r in
    (begins_none command c two.first two.mid off two.front, none_begins later two.mid two.second d (stays_behind (lines_of_command command) c two.first two.mid off two.front) two.rest)

-- what stands at the start
not_first : (i : Item) (c : Context) (ls : Numbered) (d : Context) (later : List Item) → c.place ≡ place.Start → stands i place.Start ≡ false → Reads c ls (i ∷ later) d → ⊥
not_first i c [] d later at no_place r = r
not_first i c (l ∷ ls) d later at no_place r =
    let may : stands i place.Start ≡ true = ap (λ (p : Place). stands i p) (sym at) ∙ right_stands c l.1 i r.0 in
    let both : false ≡ true = sym no_place ∙ may in
    cc

first_round : (blocks : List Block) (c : Context) (ls : Numbered) (d : Context) → c.place ≡ place.Start → 0 < length blocks → Reads c ls (flat_map lines_of_block blocks) d → ⊥
first_round [] c ls d at some r = omega (arith, some)
first_round (b ∷ later) c ls d at some r =
    let two = parts c ls (lines_of_block b) (flat_map lines_of_block later) d r in
    not_first (item.Client b.client) c two.first two.mid (map line_of_step b.commands ++ item.End ∷ []) at refl two.front

first_begins : (command : Command) (c : Context) (ls : Numbered) (d : Context) → c.place ≡ place.Start → IsGroupedBy false (round_in command) → Reads c ls (lines_of_command command) d → begins command ≡ true
first_begins (single.Size i h) c ls d at g r = refl
first_begins single.Open c ls d at g r = refl
first_begins (single.Round blocks) c ls d at g r = absurd (first_round blocks c ls d at g.1 r)
first_begins (single.Poke q w m) c ls d at g r = absurd (not_first (item.Poke q w m) c ls d [] at refl r)
first_begins single.Audit c ls d at g r = absurd (not_first item.Audit c ls d [] at refl r)
first_begins single.Checkpoint c ls d at g r = absurd (not_first item.Checkpoint c ls d [] at refl r)
first_begins single.Cleanup c ls d at g r = absurd (not_first item.Cleanup c ls d [] at refl r)
first_begins (single.Crash n) c ls d at g r = absurd (not_first (item.Crash n) c ls d [] at refl r)
first_begins single.Restart c ls d at g r = absurd (not_first item.Restart c ls d [] at refl r)
first_begins single.Show c ls d at g r = absurd (not_first item.Show c ls d [] at refl r)
first_begins single.Verify c ls d at g r = absurd (not_first item.Verify c ls d [] at refl r)
first_begins single.Next c ls d at g r = absurd (not_first item.Next c ls d [] at refl r)
first_begins (single.Fuse n) c ls d at g r = absurd (not_first (item.Fuse n) c ls d [] at refl r)

behind_first : (command : Command) (c : Context) (ls : Numbered) (d : Context) → begins command ≡ true → Reads c ls (lines_of_command command) d → IsBehind d
behind_first (single.Size i h) c [] d e r = absurd r
behind_first (single.Size i h) c (l ∷ ls) d e r = stays_behind [] (next l.0 (item.Size i h) c) ls d (λ at. absurd (cc)) r.1
behind_first single.Open c [] d e r = absurd r
behind_first single.Open c (l ∷ ls) d e r = stays_behind [] (next l.0 item.Open c) ls d (λ at. absurd (cc)) r.1
behind_first (single.Round blocks) c ls d e r = absurd (cc)
behind_first _ c ls d e r = absurd (cc)

begins_once : (script : List Command) (c : Context) (ls : Numbered) (d : Context) → c.place ≡ place.Start → d.place ≡ place.Outside → IsGroupedAfter false script → Reads c ls (lines_of_script script) d → BeginsOnce script
begins_once [] c [] d at out g r = let both : place.Start ≡ place.Outside = sym at ∙ ap (λ (x : Context). x.place) r ∙ out in cc
begins_once [] c (l ∷ ls) d at out g r = r
begins_once (command ∷ later) c ls d at out g r =
    let two = parts c ls (lines_of_command command) (lines_of_script later) d r in
    let first = first_begins command c two.first two.mid at g.0 two.front in
    (first, none_begins later two.mid two.second d (behind_first command c two.first two.mid first two.front) two.rest)

pub right_script : (bytes : List ℕ) (script : List Command) → IsSpelled bytes script → IsRightScript script
right_script bytes script is = record {
  right = commands_right script start (command_lines bytes) is.end is.reads;
  once = begins_once script start (command_lines bytes) is.end refl is.outside is.grouped is.reads;
}
