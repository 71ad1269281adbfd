-- The rounds of what was read stand apart; and the lines of a script have one grouping.
use Rattle.std.proofs.Common.{◌≡◌, ℕ, ◌<◌, Bool, true, false, not, cond, List, [], ◌∷◌, ◌++◌, length, map, Option, Some, None, refl, ap, sym, subst, ◌∙◌, append_assoc, arith, ◌⊎◌, inl, inr}
use Rattle.std.specs.Prelude.{flat_map, fold}
use Rattle.std.proofs.lemmas.List.{append-nil}
use Rattle.dali_script.specs.Lines.{is_empty}
use Rattle.dali_script.specs.Places.{is_in_block, after}
use Rattle.dali_script.specs.Grammar.{line_of_step, lines_of_block, lines_of_command, lines_of_script, round_in, is_round, IsGroupedBy, IsGrouped, IsGroupedAfter}
use Rattle.dali_script.specs.Reading.{State, taken, step_of, single_of, with_single, ended, with_step}
use Rattle.dali_script.specs.declared.items.Item.{Item}
use Rattle.dali_script.specs.declared.items.Item.TheVariants as item
use Rattle.dali_script.specs.declared.places.Place.{Place}
use Rattle.dali_script.specs.declared.places.Place.TheVariants as place
use Rattle.dali_script.specs.declared.commands.ClientCommand.{ClientCommand}
use Rattle.dali_script.specs.declared.commands.ClientCommand.TheVariants as step
use Rattle.dali_script.specs.declared.commands.Block.{Block}
use Rattle.dali_script.specs.declared.commands.Command.{Command}
use Rattle.dali_script.specs.declared.commands.Command.TheVariants as single
use Rattle.dali_script.proofs.Verdicts.{stands}
use Rattle.dali_script.proofs.Steps.{IsSound, MayFollow, nonempty, ended-some, chosen, AsStep, AsSingle, as_read}

-- ---- a single command more
pub grouped_single : (r : Bool) (cs : List Command) (c : Command) → round_in c ≡ None → IsGroupedAfter r cs → IsGroupedAfter r (cs ++ c ∷ [])
grouped_single r [] c e g = (subst (λ (o : Option (List Block)). IsGroupedBy r o) (sym e) tt, tt)
grouped_single r (d ∷ cs) c e g = (g.0, grouped_single (is_round (round_in d)) cs c e g.1)

pub follows_single : (r : Bool) (cs : List Command) (c : Command) → round_in c ≡ None → IsGroupedAfter r cs → (blocks : List Block) → 0 < length blocks → IsGroupedAfter r ((cs ++ c ∷ []) ++ single.Round blocks ∷ [])
follows_single r [] c e g blocks some = (subst (λ (o : Option (List Block)). IsGroupedBy r o) (sym e) tt, ((ap is_round e, some), tt))
follows_single r (d ∷ cs) c e g blocks some = (g.0, follows_single (is_round (round_in d)) cs c e g.1 blocks some)

pub grouped_ended : (blocks : List Block) (cs : List Command) → IsGrouped cs → MayFollow cs → IsGrouped (ended blocks cs)
grouped_ended [] cs g f = g
grouped_ended (b ∷ blocks) cs g f = subst (λ (s : List Command). IsGrouped s) (sym (ended-some b blocks cs)) (f (b ∷ blocks) (omega arith))

-- ---- what is read stays sound
single_sound : (c : Command) (s : State) (p : Place) → round_in c ≡ None → is_in_block s.place ≡ false → IsSound s → IsSound (record (with_single (Some c) s) { place = p })
single_sound c s p e out sound =
    let g = grouped_ended s.blocks s.commands sound.grouped sound.follows in
    record { nothing = λ h. sound.nothing out; grouped = grouped_single false (ended s.blocks s.commands) c e g; follows = follows_single false (ended s.blocks s.commands) c e g }

-- a line in a block, and behind it
step_sound : (s : State) (steps : List ClientCommand) (p : Place) → is_in_block p ≡ true → IsSound s → IsSound (record s { steps = steps; place = p })
step_sound s steps p inside sound = record { nothing = λ h. absurd (cc); grouped = sound.grouped; follows = sound.follows }

plain_sound : (made : Item) (s : State) → IsSound s → AsStep made s.place ⊎ AsSingle made s.place → IsSound (chosen (is_in_block s.place) made s)
plain_sound made s sound (inl (k, is, line, inside, still)) =
    subst (λ (b : Bool). IsSound (chosen b made s)) (sym inside)
    (subst (λ (o : Option ClientCommand). IsSound (record (with_step o s) { place = after made s.place })) (sym is) (step_sound s _ (after made s.place) still sound))
plain_sound made s sound (inr (c, is, lines, alone, out, still)) =
    subst (λ (b : Bool). IsSound (chosen b made s)) (sym out)
    (subst (λ (o : Option Command). IsSound (record (with_single o s) { place = after made s.place })) (sym is) (single_sound c s (after made s.place) alone out sound))

pub sound_taken : (n : ℕ) (made : Item) (s : State) → IsSound s → stands made s.place ≡ true → IsSound (taken n made s)
sound_taken n (item.Client m) s sound e = record { nothing = λ h. absurd (cc); grouped = sound.grouped; follows = sound.follows }
sound_taken n item.End s sound e = record { nothing = λ h. refl; grouped = sound.grouped; follows = sound.follows }
sound_taken n made s sound e = plain_sound made s sound (as_read made s.place refl e)

-- ---- no line leads back to the start
pub never_at_start : (made : Item) (p : Place) → stands made p ≡ true → after made p ≡ place.Start → ⊥
never_at_start (item.Insert k v) p e at = let h : stands (item.Insert k v) place.Start ≡ true = ap (λ q. stands (item.Insert k v) q) (sym at) ∙ e in absurd (cc)
never_at_start (item.Update k v) p e at = let h : stands (item.Update k v) place.Start ≡ true = ap (λ q. stands (item.Update k v) q) (sym at) ∙ e in absurd (cc)
never_at_start (item.Delete k) p e at = let h : stands (item.Delete k) place.Start ≡ true = ap (λ q. stands (item.Delete k) q) (sym at) ∙ e in absurd (cc)
never_at_start (item.Get k) p e at = let h : stands (item.Get k) place.Start ≡ true = ap (λ q. stands (item.Get k) q) (sym at) ∙ e in absurd (cc)
never_at_start (item.Die m) p e at = let h : stands (item.Die m) place.Start ≡ true = ap (λ q. stands (item.Die m) q) (sym at) ∙ e in absurd (cc)
never_at_start (item.Poke r w m) p e at = let h : stands (item.Poke r w m) place.Start ≡ true = ap (λ q. stands (item.Poke r w m) q) (sym at) ∙ e in absurd (cc)
never_at_start item.Audit p e at = let h : stands item.Audit place.Start ≡ true = ap (λ q. stands item.Audit q) (sym at) ∙ e in absurd (cc)
never_at_start item.Checkpoint p e at = let h : stands item.Checkpoint place.Start ≡ true = ap (λ q. stands item.Checkpoint q) (sym at) ∙ e in absurd (cc)
never_at_start item.Cleanup p e at = let h : stands item.Cleanup place.Start ≡ true = ap (λ q. stands item.Cleanup q) (sym at) ∙ e in absurd (cc)
never_at_start (item.Crash n) p e at = let h : stands (item.Crash n) place.Start ≡ true = ap (λ q. stands (item.Crash n) q) (sym at) ∙ e in absurd (cc)
never_at_start item.Restart p e at = let h : stands item.Restart place.Start ≡ true = ap (λ q. stands item.Restart q) (sym at) ∙ e in absurd (cc)
never_at_start item.Show p e at = let h : stands item.Show place.Start ≡ true = ap (λ q. stands item.Show q) (sym at) ∙ e in absurd (cc)
never_at_start item.Verify p e at = let h : stands item.Verify place.Start ≡ true = ap (λ q. stands item.Verify q) (sym at) ∙ e in absurd (cc)
never_at_start item.Next p e at = let h : stands item.Next place.Start ≡ true = ap (λ q. stands item.Next q) (sym at) ∙ e in absurd (cc)
never_at_start (item.Fuse n) p e at = let h : stands (item.Fuse n) place.Start ≡ true = ap (λ q. stands (item.Fuse n) q) (sym at) ∙ e in absurd (cc)
never_at_start _ p e at = absurd (cc)

-- ---- one grouping: a script is made again from its lines
record Tree : Type 0 where
  inside : Bool
  client : ℕ
  steps : List ClientCommand
  blocks : List Block
  commands : List Command

abbrev with_a_step : Option ClientCommand → Tree → Tree
with_a_step None t = t
with_a_step (Some k) t = record t { steps = t.steps ++ k ∷ [] }

abbrev with_a_single : Option Command → Tree → Tree
with_a_single None t = t
with_a_single (Some c) t = record t { commands = ended t.blocks t.commands ++ c ∷ []; blocks = [] }

abbrev grown : Tree → Item → Tree
grown t (item.Client n) = record t { inside = true; client = n }
grown t item.End = record t { inside = false; client = 0; steps = []; blocks = t.blocks ++ record { client = t.client; commands = t.steps } ∷ [] }
grown t made = cond t.inside (with_a_step (step_of made) t) (with_a_single (single_of made) t)

abbrev outside : List Block → List Command → Tree
outside blocks commands = record { inside = false; client = 0; steps = []; blocks = blocks; commands = commands }

abbrev in_block : ℕ → List ClientCommand → List Block → List Command → Tree
in_block n steps blocks commands = record { inside = true; client = n; steps = steps; blocks = blocks; commands = commands }

abbrev grow : List Item → Tree → Tree
grow lines t = fold grown t lines

abbrev closed : Tree → List Command
closed t = ended t.blocks t.commands

grow_step : (k : ClientCommand) (n : ℕ) (steps : List ClientCommand) (bs : List Block) (cs : List Command) → grown (in_block n steps bs cs) (line_of_step k) ≡ in_block n (steps ++ k ∷ []) bs cs
grow_step step.Begin n steps bs cs = refl
grow_step _ n steps bs cs = refl

grow_steps : (ks : List ClientCommand) (n : ℕ) (steps : List ClientCommand) (bs : List Block) (cs : List Command) (rest : List Item) → grow (map line_of_step ks ++ rest) (in_block n steps bs cs) ≡ grow rest (in_block n (steps ++ ks) bs cs)
grow_steps [] n steps bs cs rest = ap (λ ks. grow rest (in_block n ks bs cs)) (sym (append-nil steps))
grow_steps (k ∷ ks) n steps bs cs rest =
    ap (λ t. grow (map line_of_step ks ++ rest) t) (grow_step k n steps bs cs)
    ∙ grow_steps ks n (steps ++ k ∷ []) bs cs rest
    ∙ ap (λ all. grow rest (in_block n all bs cs)) (append_assoc steps (k ∷ []) ks)

grow_block : (b : Block) (bs : List Block) (cs : List Command) (rest : List Item) → grow (lines_of_block b ++ rest) (outside bs cs) ≡ grow rest (outside (bs ++ b ∷ []) cs)
grow_block b bs cs rest =
    ap (λ lines. grow lines (in_block b.client [] bs cs)) (append_assoc (map line_of_step b.commands) (item.End ∷ []) rest)
    ∙ grow_steps b.commands b.client [] bs cs (item.End ∷ rest)

grow_blocks : (blocks bs : List Block) (cs : List Command) (rest : List Item) → grow (flat_map lines_of_block blocks ++ rest) (outside bs cs) ≡ grow rest (outside (bs ++ blocks) cs)
grow_blocks [] bs cs rest = ap (λ all. grow rest (outside all cs)) (sym (append-nil bs))
grow_blocks (b ∷ blocks) bs cs rest =
    ap (λ lines. grow lines (outside bs cs)) (append_assoc (lines_of_block b) (flat_map lines_of_block blocks) rest)
    ∙ grow_block b bs cs (flat_map lines_of_block blocks ++ rest)
    ∙ grow_blocks blocks (bs ++ b ∷ []) cs rest
    ∙ ap (λ all. grow rest (outside all cs)) (append_assoc bs (b ∷ []) blocks)

-- behind a single command no round goes on
grow_single : (c : Command) (line : Item) (bs : List Block) (cs s : List Command) → lines_of_command c ≡ line ∷ [] → grown (outside bs cs) line ≡ outside [] (ended bs cs ++ c ∷ []) → closed (grow (lines_of_script s) (outside [] (ended bs cs ++ c ∷ []))) ≡ (ended bs cs ++ c ∷ []) ++ s → closed (grow (lines_of_script (c ∷ s)) (outside bs cs)) ≡ ended bs cs ++ c ∷ s
grow_single c line bs cs s is one rest =
    ap (λ lines. closed (grow (lines ++ lines_of_script s) (outside bs cs))) is
    ∙ ap (λ t. closed (grow (lines_of_script s) t)) one
    ∙ rest ∙ append_assoc (ended bs cs) (c ∷ []) s

no_blocks : (bs : List Block) → not (is_empty bs) ≡ false → bs ≡ []
no_blocks [] e = refl
no_blocks (b ∷ bs) e = let h : is_empty (b ∷ bs) ≡ false = nonempty b bs in absurd (cc)

some_blocks : (bs : List Block) → 0 < length bs → not (is_empty bs) ≡ true
some_blocks [] h = absurd (omega (arith, h))
some_blocks (b ∷ bs) h = ap not (nonempty b bs)

ended-all : (bs : List Block) (cs : List Command) → 0 < length bs → ended bs cs ≡ cs ++ single.Round bs ∷ []
ended-all [] cs h = absurd (omega (arith, h))
ended-all (b ∷ bs) cs h = ended-some b bs cs

made_again : (s : List Command) (bs : List Block) (cs : List Command) → IsGroupedAfter (not (is_empty bs)) s → closed (grow (lines_of_script s) (outside bs cs)) ≡ ended bs cs ++ s
made_again [] bs cs g = sym (append-nil (ended bs cs))
made_again (single.Size i h ∷ s) bs cs g = grow_single (single.Size i h) (item.Size i h) bs cs s refl refl (made_again s [] (ended bs cs ++ single.Size i h ∷ []) g.1)
made_again (single.Open ∷ s) bs cs g = grow_single single.Open item.Open bs cs s refl refl (made_again s [] (ended bs cs ++ single.Open ∷ []) g.1)
made_again (single.Round blocks ∷ s) bs cs g =
    let none : bs ≡ [] = no_blocks bs g.0.0 in
    let after : IsGroupedAfter (not (is_empty blocks)) s = subst (λ (b : Bool). IsGroupedAfter b s) (sym (some_blocks blocks g.0.1)) g.1 in
    ap closed (grow_blocks blocks bs cs (lines_of_script s))
    ∙ ap (λ (all : List Block). closed (grow (lines_of_script s) (outside (all ++ blocks) cs))) none
    ∙ made_again s blocks cs after
    ∙ ap (λ (all : List Command). all ++ s) (ended-all blocks cs g.0.1)
    ∙ append_assoc cs (single.Round blocks ∷ []) s
    ∙ ap (λ (all : List Block). ended all cs ++ single.Round blocks ∷ s) (sym none)
made_again (single.Poke r w m ∷ s) bs cs g = grow_single (single.Poke r w m) (item.Poke r w m) bs cs s refl refl (made_again s [] (ended bs cs ++ single.Poke r w m ∷ []) g.1)
made_again (single.Audit ∷ s) bs cs g = grow_single single.Audit item.Audit bs cs s refl refl (made_again s [] (ended bs cs ++ single.Audit ∷ []) g.1)
made_again (single.Checkpoint ∷ s) bs cs g = grow_single single.Checkpoint item.Checkpoint bs cs s refl refl (made_again s [] (ended bs cs ++ single.Checkpoint ∷ []) g.1)
made_again (single.Cleanup ∷ s) bs cs g = grow_single single.Cleanup item.Cleanup bs cs s refl refl (made_again s [] (ended bs cs ++ single.Cleanup ∷ []) g.1)
made_again (single.Crash n ∷ s) bs cs g = grow_single (single.Crash n) (item.Crash n) bs cs s refl refl (made_again s [] (ended bs cs ++ single.Crash n ∷ []) g.1)
made_again (single.Restart ∷ s) bs cs g = grow_single single.Restart item.Restart bs cs s refl refl (made_again s [] (ended bs cs ++ single.Restart ∷ []) g.1)
made_again (single.Show ∷ s) bs cs g = grow_single single.Show item.Show bs cs s refl refl (made_again s [] (ended bs cs ++ single.Show ∷ []) g.1)
made_again (single.Verify ∷ s) bs cs g = grow_single single.Verify item.Verify bs cs s refl refl (made_again s [] (ended bs cs ++ single.Verify ∷ []) g.1)
made_again (single.Next ∷ s) bs cs g = grow_single single.Next item.Next bs cs s refl refl (made_again s [] (ended bs cs ++ single.Next ∷ []) g.1)
made_again (single.Fuse n ∷ s) bs cs g = grow_single (single.Fuse n) (item.Fuse n) bs cs s refl refl (made_again s [] (ended bs cs ++ single.Fuse n ∷ []) g.1)

-- two scripts of the same lines are one
pub one_grouping : (s t : List Command) → IsGrouped s → IsGrouped t → lines_of_script s ≡ lines_of_script t → s ≡ t
one_grouping s t g h same = sym (made_again s [] [] g) ∙ ap (λ lines. closed (grow lines (outside [] []))) same ∙ made_again t [] [] h
