-- The commands of a client, and its lines.
use Rattle.std.proofs.Common.{◌≡◌, ℕ, ◌<◌, Bool, true, false, List, [], ◌∷◌, ◌++◌, length, get_or, set, map, drop, Option, Some, None, Result, Ok, Err, IsErr, is_ok, refl, ap, sym, subst, ◌∙◌, inl}
use Rattle.std.specs.Prelude.{slice_get}
use Rattle.std.proofs.lemmas.List.{append-nil, map-append, set-get_or}
use Rattle.std.proofs.lemmas.Option.{slice_get-get_or}
use Rattle.dali_region.specs.State.{RegionState}
use Rattle.dali_store.specs.Store.{Files as Disk}
use Rattle.dali_store.specs.declared.store.Store.{Ghosts}
use Rattle.dali_runs.specs.State.{SystemState}
use Rattle.dali_core.specs.Vault.Vaulted.{Vaulted}
use Rattle.dali_transcripts.specs.declared.clients.command.Command.{Command}
use Rattle.dali_transcripts.specs.declared.clients.line.Line.{Line}
use Rattle.dali_transcripts.specs.Clients.Said.{Transcribed}
use Rattle.dali_transcripts.specs.Clients.Told.{act_of, said_of}
use Rattle.dali_transcripts.specs.Words.{Act, Calls, Aborts as AbortAct, Audits as AuditAct, Checkpoints as CheckpointAct}
use Rattle.dali_transcripts.specs.World.{World}
use Rattle.dali_transcripts.specs.Moves.{Receipt, Place, Outside, Within, Spot, at}
use Rattle.dali_transcripts.specs.Causes.{spares, AreUnfinished}
use Rattle.dali_transcripts.specs.Transcripts.{IsUnderWay}
use Rattle.dali_turns.specs.declared.client.Client.{Client}
use Rattle.dali_turns.specs.declared.client.State.{State}
use Rattle.dali_turns.specs.Clients.{next_of, Finishes}
use Rattle.dali_turns.specs.Fits.{rest_of, lines_of}
use Rattle.dali_turns.specs.Goes.{StepGoes}

pub first_of : {X : Type 0} (xs : List X) (x : X) → slice_get xs 0 ≡ Some x → xs ≡ x ∷ drop 1 xs
first_of [] x e = absurd (cc)
first_of (y ∷ xs) x e = let same : y ≡ x = cc in ap (λ z. z ∷ xs) same

pub none_of : {X : Type 0} (xs : List X) → slice_get xs 0 ≡ None → xs ≡ []
none_of [] e = refl
none_of (y ∷ xs) e = absurd (cc)

-- ---- what a slice lends
pub lent_there : {X : Type 0} (xs : List X) (i : ℕ) (x : X) → i < length xs → x ≡ get_or xs i x → slice_get xs i ≡ Some x
lent_there xs i x within is = slice_get-get_or xs i x within ∙ ap Some (sym is)

pub lent_same : {X : Type 0} (xs : List X) (i : ℕ) (x : X) → x ≡ get_or xs i x → set xs i x ≡ xs
lent_same xs i x is = ap (set xs i) is ∙ set-get_or xs i x

pub err_false : {T E : Type 0} (r : Result T E) → IsErr r → is_ok r ≡ false
err_false (Ok x) h = absurd (cc)
err_false (Err e) h = refl

-- memory was refused
pub unsaid_goes : {V : Type 0} (means : Ghosts V) (precheck : Bool) (state : State) (k j : Client) (gs hs : List RegionState) (y z : SystemState) (v u : Vaulted V) (ok : Bool) → ok ≡ false
    → StepGoes means precheck state k gs y v false j hs z u → StepGoes means precheck state k gs y v ok j hs z u
unsaid_goes means precheck state k j gs hs y z v u ok e goes = subst (λ (b : Bool). StepGoes means precheck state k gs y v b j hs z u) (sym e) goes

-- what is left is this
pub so_left : {V : Type 0} (means : Ghosts V) (precheck : Bool) (state : State) (k j : Client) (gs : List RegionState) (y : SystemState) (v : Vaulted V) (ok : Bool) (hs ks : List RegionState) (z x : SystemState) (u t : Vaulted V)
    → hs ≡ ks → z ≡ x → u ≡ t → StepGoes means precheck state k gs y v ok j ks x t → StepGoes means precheck state k gs y v ok j hs z u
so_left {V} means precheck state k j gs y v ok hs ks z x u t regions system vault goes =
    subst (λ (l : List RegionState). StepGoes means precheck state k gs y v ok j l z u) (sym regions)
    (subst (λ (m : SystemState). StepGoes means precheck state k gs y v ok j ks m u) (sym system)
    (subst (λ (n : Vaulted V). StepGoes means precheck state k gs y v ok j ks x n) (sym vault) goes))

-- ---- the next command
-- the acts behind it
abbrev pub behind_next : Client → List Act
behind_next k = map act_of (drop 1 k.rest.now)

pub next_act : (k : Client) (command : Command) → next_of k ≡ Some command → rest_of k ≡ act_of command ∷ behind_next k
next_act k command e = ap (map act_of) (first_of k.rest.now command e)

pub finished_rest : (k j : Client) (state : State) (line : Line) → Finishes k state line j → rest_of j ≡ behind_next k
finished_rest k j state line f = ap (map act_of) f.rest

pub finished_lines : (k j : Client) (state : State) (line : Line) → Finishes k state line j → lines_of j ≡ lines_of k ++ said_of line ∷ []
finished_lines k j state line f = ap (λ (t : Transcribed). map said_of t.lines) f.transcript ∙ map-append said_of k.transcript.lines (line ∷ [])

pub finished_client : (k j : Client) (state : State) (line : Line) → Finishes k state line j → j.transcript.client ≡ k.transcript.client
finished_client k j state line f = ap (λ (t : Transcribed). t.client) f.transcript

-- ---- a step of which nothing was done
-- in a transaction its client doesn't die before the next operation
abbrev pub IsDue : Place → Type 0
IsDue (Within t tries cs d s) = spares d 0 ≡ true
IsDue place = Unit {0}

pub due_at : (q : Spot) (place : Place) (rest : List Act) → q ≡ at place rest → IsDue place → IsDue q.place
due_at q place rest e due = subst (λ (z : Spot). IsDue z.place) (sym e) due

none_unfinished : (w : World) (c : ℕ) (place : Place) (rest : List Act) → IsDue place → AreUnfinished w c place rest []
none_unfinished w c (Within t tries cs d s) (Calls call ∷ rest) due = inl (record { work = tt; spared = due; asks = tt; older = λ us. ([], sym (append-nil us)) })
none_unfinished w c (Within t tries cs d s) (AbortAct ∷ rest) due = tt
none_unfinished w c (Within t tries cs d s) [] due = tt
none_unfinished w c (Outside s) (AuditAct ∷ rest) due = tt
none_unfinished w c (Outside s) (CheckpointAct ∷ rest) due = tt
none_unfinished w c place rest due = refl

pub none_under_way : (w : World) (c : ℕ) (q : Spot) (pending : List Receipt) → IsDue q.place → pending ≡ [] → IsUnderWay w c q pending []
none_under_way w c q pending due e = inl (refl, subst (λ (xs : List Receipt). AreUnfinished w c q.place q.rest xs) (sym e) (none_unfinished w c q.place q.rest due))
