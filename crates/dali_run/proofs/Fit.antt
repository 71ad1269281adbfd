-- In a script that is spelled, each command is such as it is asked to be.
use Rattle.std.proofs.Common.{◌≡◌, ℕ, zero, suc, Bool, true, false, List, [], ◌∷◌, map, Option, Some, None, refl, sym, ◌∙◌, ap, arith}
use Rattle.std.specs.List.{slice_get, AllByRecursion}
use Rattle.std.proofs.lemmas.Option.{slice_get-map}
use Rattle.std.specs.Option.{option_map}
use Rattle.dali_transcripts.specs.Words.{Act, Pokes}
use Rattle.dali_transcripts.specs.Transcripts.{Told}
use Rattle.dali_transcripts.specs.Rounds.{IsPlaced, AreBlocks}
use Rattle.dali_script.specs.Grammar.{IsSpelled}
use Rattle.dali_script.specs.Scripts.{IsPoke, AreInPlace, IsRightRound, IsRightCommand}
use Rattle.dali_script.specs.declared.commands.Block.{Block}
use Rattle.dali_script.specs.declared.commands.ClientCommand.{ClientCommand}
use Rattle.dali_script.specs.declared.commands.ClientCommand.TheVariants.{Begin, Insert, Update, Delete, Get, Die, Commit, Abort, Poke, Audit, Checkpoint}
use Rattle.dali_script.specs.declared.commands.Command.{Command}
use Rattle.dali_script.specs.declared.commands.Command.TheVariants as single
use Rattle.dali_script.proofs.RightScripts.{right_script}
use Rattle.dali_run.specs.Told.{act_by, told_by, alone, IsFit, AreFit}

-- ---- the commands of a block
placed : (within : Bool) (cs : List ClientCommand) → AreInPlace within cs → IsPlaced within (map act_by cs)
placed false [] h = tt
placed true [] h = tt
placed false (Begin ∷ cs) h = placed true cs h
placed true (Begin ∷ cs) h = absurd h
placed false (Insert k v ∷ cs) h = absurd h
placed true (Insert k v ∷ cs) h = (h.0, placed true cs h.1)
placed false (Update k v ∷ cs) h = absurd h
placed true (Update k v ∷ cs) h = (h.0, placed true cs h.1)
placed false (Delete k ∷ cs) h = absurd h
placed true (Delete k ∷ cs) h = (h.0, placed true cs h.1)
placed false (Get k ∷ cs) h = absurd h
placed true (Get k ∷ cs) h = (h.0, placed true cs h.1)
placed false (Die n ∷ cs) h = absurd h
placed true (Die n ∷ cs) h = (h.0, placed true cs h.2)
placed false (Commit ∷ cs) h = absurd h
placed true (Commit ∷ cs) h = placed false cs h
placed false (Abort ∷ cs) h = absurd h
placed true (Abort ∷ cs) h = placed false cs h
placed false (Poke r w m ∷ cs) h = (h.0.1, h.0.2, h.0.3, placed false cs h.1)
placed true (Poke r w m ∷ cs) h = absurd h
placed false (Audit ∷ cs) h = placed false cs h
placed true (Audit ∷ cs) h = absurd h
placed false (Checkpoint ∷ cs) h = placed false cs h
placed true (Checkpoint ∷ cs) h = absurd h

-- ---- the blocks of a round
-- the block that a block of transcripts is told by
record IsTold (bs : List Block) (i : ℕ) (t : Told) : Type 0 where
  block : Block
  here : slice_get bs i ≡ Some block
  same : t ≡ told_by block

told_from : (o : Option Block) (t : Told) → option_map told_by o ≡ Some t → (b : Block) × (o ≡ Some b) × (t ≡ told_by b)
told_from None t e = absurd cc
told_from (Some b) t e = (b, refl, cc)

told_at : (bs : List Block) (i : ℕ) (t : Told) → slice_get (map told_by bs) i ≡ Some t → IsTold bs i t
told_at bs i t e =
    let found = told_from (slice_get bs i) t (sym (slice_get-map told_by bs i) ∙ e) in
    record { block = found.0; here = found.1; same = found.2 }

pub right_blocks : (bs : List Block) → IsRightRound bs → AreBlocks (map told_by bs)
right_blocks bs right = record {
  numbers = λ i t e.
      let at = told_at bs i t e in
      let numbers = right.numbers i at.block at.here in
      rw at.same numbers;
  placed = λ i t e.
      let at = told_at bs i t e in
      rw at.same (placed false at.block.commands (right.placed i at.block at.here));
  apart = λ i j t u e f same.
      let at = told_at bs i t e in
      let at' = told_at bs j u f in
      right.apart i j at.block at'.block at.here at'.here (sym (ap (λ (b : Told). b.client) at.same) ∙ same ∙ ap (λ (b : Told). b.client) at'.same);
}

-- ---- a poke by itself
pub only_one : (act : Act) (i : ℕ) (t : Told) → slice_get (alone act) i ≡ Some t → (i ≡ 0) × (t ≡ record { client = 1; acts = act ∷ [] })
only_one act zero t e = (refl, cc)
only_one act (suc i) t e = absurd cc

right_poke : (r w m : ℕ) → IsPoke r w m → AreBlocks (alone (Pokes r w m))
right_poke r w m right = record {
  numbers = λ i t e. rw (only_one (Pokes r w m) i t e).1 (omega arith, omega arith);
  placed = λ i t e. rw (only_one (Pokes r w m) i t e).1 (right.1, right.2, right.3, tt);
  apart = λ i j t u e f same. (only_one (Pokes r w m) i t e).0 ∙ sym (only_one (Pokes r w m) j u f).0;
}

-- ---- a script
fit : (command : Command) → IsRightCommand command → IsFit command
fit (single.Size i h) right = record { some_index = right.0; few_index = right.1; some_heap = right.2; few_heap = right.3 }
fit (single.Round blocks) right = right_blocks blocks right
fit (single.Poke r w m) right = right_poke r w m right
fit _ right = tt

pub fits : (script : List Command) → AllByRecursion IsRightCommand script → AreFit script
fits [] right = tt
fits (command ∷ script) right = (fit command right.0, fits script right.1)

pub all_fit : (bytes : List ℕ) (script : List Command) → IsSpelled bytes script → AreFit script
all_fit bytes script spelled = fits script (right_script bytes script spelled).right
