-- A client whose begin was refused leaves its transaction out, and one whose holder stands waits.
use Rattle.std.proofs.Common.{◌≡◌, ℕ, Bool, true, false, not, List, [], ◌∷◌, ◌++◌, map, Option, Some, refl, ap, sym, subst, ◌∙◌, inr}
use Rattle.std.specs.Prelude.{if◌then◌else◌}
use Rattle.std.proofs.lemmas.List.{append-nil}
use Rattle.dali_record.specs.declared.records.Record.{Record}
use Rattle.dali_region.specs.State.{RegionState}
use Rattle.dali_store.specs.Store.{Files as Disk}
use Rattle.dali_store.specs.declared.store.Store.{Ghosts}
use Rattle.dali_runs.specs.State.{SystemState}
use Rattle.dali_crash.specs.Checkpoints.{Point}
use Rattle.dali_crash.specs.Traces.{Start}
use Rattle.dali_core.specs.Vault.Vaulted.{Vaulted}
use Rattle.dali_transcripts.specs.declared.clients.command.Command.{Command}
use Rattle.dali_transcripts.specs.Clients.Said.{Transcribed}
use Rattle.dali_transcripts.specs.Clients.Told.{act_of, said_of}
use Rattle.dali_transcripts.specs.Words.{Act, Begins, Calls, Arms, Commits, Aborts, Pokes, Audits, Checkpoints, closes}
use Rattle.dali_transcripts.specs.World.{World}
use Rattle.dali_transcripts.specs.Moves.{Receipt, Outside as IsOutside, LeftOut as IsLeftOut, Again, Skips, at}
use Rattle.dali_transcripts.specs.Rounds.{Standing, IsPlaced}
use Rattle.dali_transcripts.specs.Telling.Tells.{after}
use Rattle.dali_turns.specs.declared.client.Client.{Client}
use Rattle.dali_turns.specs.declared.client.State.{State}
use Rattle.dali_turns.specs.declared.client.State.TheVariants.{Outside, LeftOut, Waiting}
use Rattle.dali_turns.specs.Clients.{next_of, Passes, Stays, left_behind}
use Rattle.dali_turns.specs.Stood.{Stood}
use Rattle.dali_turns.specs.Outside.{FitsLeftOut}
use Rattle.dali_turns.specs.Fits.{rest_of, lines_of, IsOf, Fits}
use Rattle.dali_turns.specs.Goes.{Went, StepGoes}
use Rattle.dali_turns.proofs.Commands.{next_act, behind_next}
use Rattle.dali_turns.proofs.Rows.{had_row}
use Rattle.dali_turns.proofs.Doing.{behind, ended, Did, did_nothing, went_on, went_by}

placed_behind : (act : Act) (rest : List Act) → IsPlaced true (act ∷ rest) → IsPlaced (not (closes act)) rest
placed_behind Begins rest h = absurd h
placed_behind (Calls call) rest h = h.1
placed_behind (Arms count) rest h = h.1
placed_behind Commits rest h = h
placed_behind Aborts rest h = h
placed_behind (Pokes region word mask) rest h = absurd h
placed_behind Audits rest h = absurd h
placed_behind Checkpoints rest h = absurd h

module _ {V : Type 0} (means : Ghosts V) (precheck : Bool) (gs : List RegionState) (y : SystemState) (v : Vaulted V) (k j : Client) where
  -- its block ends
  pub rests_goes : Stays k LeftOut j → StepGoes means precheck LeftOut k gs y v true j gs y v
  rests_goes f s B p w a stood is fits =
      went_on means precheck s B B p p w a LeftOut gs gs y y v v [] k j is (did_nothing means precheck s B p w gs y v stood a.client LeftOut) true f.transcript
      (subst (λ (st : State). Fits means s B p (after w a.client [] p.core) gs y v (behind a w []) (rest_of j) st) (sym f.stands)
      (record {
        said = fits.said;
        may = fits.may;
        spot = fits.spot ∙ ap (at (IsLeftOut fits.said)) (sym (ap (map act_of) f.rest));
        none = ap (λ (xs : List Receipt). xs ++ []) fits.none;
        placed = subst (IsPlaced true) (sym (ap (map act_of) f.rest)) fits.placed;
      }))
      (λ e up t lives. inr (lives, λ e. e))

  -- a command is passed
  module _ (command : Command) (next : next_of k ≡ Some command) (f : Passes k (left_behind command) j)
      (s : Start) (B : List (List Record)) (p : Point) (w : World) (a : Standing) (stood : Stood means s B p w precheck gs y v) (is : IsOf w a k) (fits : FitsLeftOut y a (rest_of k)) where
    acts : rest_of k ≡ act_of command ∷ behind_next k
    acts = next_act k command next

    rest_is : rest_of j ≡ behind_next k
    rest_is = ap (map act_of) f.rest

    came : (b : Bool) → closes (act_of command) ≡ b → Fits means s B p (after w a.client [] p.core) gs y v (ended a (Skips fits.said (act_of command) (behind_next k))) (rest_of j) (if b then Outside else LeftOut)
    came true e = record {
      said = fits.said;
      may = fits.may;
      spot = ap (λ (c : Bool). at (if c then IsOutside fits.said else IsLeftOut fits.said) (behind_next k)) e ∙ ap (at (IsOutside fits.said)) (sym rest_is);
      none = refl;
      placed = subst (IsPlaced false) (sym rest_is) (subst (λ (c : Bool). IsPlaced (not c) (behind_next k)) e (placed_behind (act_of command) (behind_next k) (subst (IsPlaced true) acts fits.placed)));
    }
    came false e = record {
      said = fits.said;
      may = fits.may;
      spot = ap (λ (c : Bool). at (if c then IsOutside fits.said else IsLeftOut fits.said) (behind_next k)) e ∙ ap (at (IsLeftOut fits.said)) (sym rest_is);
      none = refl;
      placed = subst (IsPlaced true) (sym rest_is) (subst (λ (c : Bool). IsPlaced (not c) (behind_next k)) e (placed_behind (act_of command) (behind_next k) (subst (IsPlaced true) acts fits.placed)));
    }

    skipped_went : Went means precheck s B p w a LeftOut gs y v true j gs y v
    skipped_went =
        went_by means precheck s B B p p w a LeftOut gs gs y y v v [] k j is (did_nothing means precheck s B p w gs y v stood a.client LeftOut)
        (Skips fits.said (act_of command) (behind_next k)) (fits.spot ∙ ap (at (IsLeftOut fits.said)) acts) (ap (λ (xs : List Receipt). xs ++ []) fits.none) tt
        (ap (λ (t : Transcribed). t.client) f.transcript) (ap (λ (t : Transcribed). map said_of t.lines) f.transcript ∙ sym (append-nil (lines_of k)))
        (subst (λ (st : State). Fits means s B p (after w a.client [] p.core) gs y v (ended a (Skips fits.said (act_of command) (behind_next k))) (rest_of j) st) (sym f.stands) (came (closes (act_of command)) refl))
        (λ up t lives. inr (lives, λ e. e))

  pub skips_goes : (command : Command) → next_of k ≡ Some command → Passes k (left_behind command) j → StepGoes means precheck LeftOut k gs y v true j gs y v
  skips_goes command next f s B p w a stood is fits = skipped_went command next f s B p w a stood is fits

  -- or it waits still
  pub waits_goes : (tries holder : ℕ) → Stays k (Waiting tries holder) j → StepGoes means precheck (Waiting tries holder) k gs y v true j gs y v
  waits_goes tries holder f s B p w a stood is fits =
      let did : Did means precheck s B p w a.client (Waiting tries holder) gs y v [] B p gs y v = did_nothing means precheck s B p w gs y v stood a.client (Waiting tries holder) in
      went_on means precheck s B B p p w a (Waiting tries holder) gs gs y y v v [] k j is did true f.transcript
      (subst (λ (st : State). Fits means s B p (after w a.client [] p.core) gs y v (behind a w []) (rest_of j) st) (sym f.stands)
      (record {
        said = fits.said;
        may = fits.may;
        spot = fits.spot ∙ ap (at (Again tries holder fits.said)) (sym (ap (map act_of) f.rest));
        none = ap (λ (xs : List Receipt). xs ++ []) fits.none;
        more = fits.more;
        begins = ap (map act_of) f.rest ∙ fits.begins;
        placed = subst (IsPlaced false) (sym (ap (map act_of) f.rest)) fits.placed;
        few = fits.few;
        had = had_row w (after w a.client [] p.core) a.client p p [] stood.tells did.goes holder fits.had;
      }))
      (λ e up t lives. inr (lives, λ e. e))
