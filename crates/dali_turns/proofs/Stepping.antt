-- The step of a client by where it stands, and the commands for which nothing is asked of the core.
use Rattle.std.proofs.Common.{◌≡◌, ℕ, ◌≤◌, Bool, true, false, List, [], ◌∷◌, ◌++◌, map, Option, Some, None, Result, Ok, is_ok, refl, ap, sym, subst, ◌∙◌, ◌⊎◌, inl, inr, arith}
use Rattle.std.specs.Prelude.{◌==◌, slice_get}
use Rattle.dali_runs.proofs.CountsLemmas.Lists.{equal, same_number}
use Rattle.std.proofs.lemmas.List.{append-nil}
use Rattle.std.proofs.lemmas.Bool.{lt-ltb}
use Rattle.dali_record.specs.declared.records.Call.{Call as Called}
use Rattle.dali_region.specs.State.{RegionState}
use Rattle.dali_store.specs.Store.{Files as Disk}
use Rattle.dali_store.specs.declared.store.Store.{Ghosts}
use Rattle.dali_runs.specs.State.{SystemState, state_of}
use Rattle.dali_core.specs.Vault.Vaulted.{Vaulted}
use Rattle.dali_transcripts.specs.declared.clients.command.Command.{Command}
use Rattle.dali_transcripts.specs.declared.clients.command.Command.TheVariants.{Begin, Call, Die, Commit, Abort, Poke, Audit, Checkpoint}
use Rattle.dali_transcripts.specs.Clients.Said.{Transcribed}
use Rattle.dali_transcripts.specs.Clients.Told.{act_of, said_of}
use Rattle.dali_transcripts.specs.Words.{Act, Begins, Arms}
use Rattle.dali_transcripts.specs.World.{World}
use Rattle.dali_transcripts.specs.Moves.{Receipt, Outside as IsOutside, Within as IsWithin, Move, IsArmed, at}
use Rattle.dali_transcripts.specs.Causes.{spares}
use Rattle.dali_transcripts.specs.Rounds.{Standing, IsPlaced}
use Rattle.dali_transcripts.specs.Telling.Tells.{after}
use Rattle.dali_turns.specs.declared.client.Client.{Client}
use Rattle.dali_turns.specs.declared.client.State.{State}
use Rattle.dali_turns.specs.declared.client.State.TheVariants.{Outside, LeftOut, Within, Waiting, Gone}
use Rattle.dali_turns.specs.declared.client.Transaction.{Transaction}
use Rattle.dali_turns.specs.Clients.{next_of, Passes, Stays, left_behind}
use Rattle.dali_turns.specs.Within.{AreSoFar}
use Rattle.dali_turns.specs.Fits.{rest_of, lines_of, IsOf, Owns, Fits}
use Rattle.dali_turns.specs.Goes.{RowsTell, Went, StepGoes}
use Rattle.dali_turns.proofs.Locking.{still_got}
use Rattle.dali_turns.proofs.Here.{MayStep}
use Rattle.dali_bytes.specs.declared.error.OutOfMemory.{OutOfMemory}
use Rattle.dali_turns.proofs.Commands.{next_act, behind_next}
use Rattle.dali_turns.proofs.Leaving.{rests_goes, skips_goes}
use Rattle.dali_turns.proofs.Doing.{behind, ended, did_nothing, went_on, went_by}
use Rattle.dali_turns.proofs.Calling.{none_so_far}
use Rattle.dali_transactions.specs.Beside.Went.{is_open}

-- another client, but for its state
pub record TellsSame (k j : Client) : Type 0 where
  pub rest : j.rest.now ≡ k.rest.now
  pub client : j.transcript.client ≡ k.transcript.client
  pub lines : j.transcript.lines ≡ k.transcript.lines

next_begin : (cs : List Command) (more : List Act) → map act_of cs ≡ Begins ∷ more → slice_get cs 0 ≡ Some Begin
next_begin [] more e = absurd (cc)
next_begin (Begin ∷ cs) more e = refl
next_begin (c ∷ cs) more e = absurd (cc)

spared_first : (n : ℕ) → 1 ≤ n → spares (Some n) 0 ≡ true
spared_first n h = lt-ltb 0 n (omega (arith, h))

-- which commands stand outside a transaction, and which in one
pub not_outside : (command : Command) (rest : List Act) → IsPlaced false (act_of command ∷ rest) → (command ≡ Begin → ⊥) → ((r word mask : ℕ) → command ≡ Poke r word mask → ⊥) → (command ≡ Audit → ⊥) → (command ≡ Checkpoint → ⊥) → ⊥
not_outside Begin rest h a b c d = a refl
not_outside (Poke r word mask) rest h a b c d = b r word mask refl
not_outside Audit rest h a b c d = c refl
not_outside Checkpoint rest h a b c d = d refl
not_outside command rest h a b c d = absurd h

pub not_within : (command : Command) (rest : List Act) → IsPlaced true (act_of command ∷ rest) → ((call : Called) → command ≡ Call call → ⊥) → ((n : ℕ) → command ≡ Die n → ⊥) → (command ≡ Commit → ⊥) → (command ≡ Abort → ⊥) → ⊥
not_within (Call call) rest h a b c d = a call refl
not_within (Die n) rest h a b c d = b n refl
not_within Commit rest h a b c d = c refl
not_within Abort rest h a b c d = d refl
not_within command rest h a b c d = absurd h

module _ {V : Type 0} (means : Ghosts V) where
  pub is_told : (w : World) (a : Standing) (k j : Client) → TellsSame k j → IsOf w a k → IsOf w a j
  is_told w a k j same is = record { client = is.client ∙ sym same.client; lines = is.lines ∙ ap (map said_of) (sym same.lines); stands = is.stands; others = is.others }

  pub stepped : (precheck ok : Bool) (gs hs : List RegionState) (y z : SystemState) (v u : Vaulted V) (k j n : Client) (state : State) → k.state ≡ state → TellsSame k j → StepGoes means precheck state j gs y v ok n hs z u
      → StepGoes means precheck k.state k gs y v ok n hs z u
  stepped precheck ok gs hs y z v u k j n state e same goes s B p w a stood is fits =
      subst (λ (st : State). Went means precheck s B p w a st gs y v ok n hs z u) (sym e)
      (goes s B p w a stood (is_told w a k j same is)
      (subst (λ l. Fits means s B p w gs y v a l state) (sym (ap (map act_of) same.rest)) (subst (λ (st : State). Fits means s B p w gs y v a (rest_of k) st) e fits)))

  pub waits_begin : (gs : List RegionState) (y : SystemState) (v : Vaulted V) (k : Client) (tries holder : ℕ) → MayStep means (Waiting tries holder) k gs y v → next_of k ≡ Some Begin
  waits_begin gs y v k tries holder m = next_begin k.rest.now m.fits.more m.fits.begins

  pub outside_placed : (gs : List RegionState) (y : SystemState) (v : Vaulted V) (k : Client) (command : Command) → MayStep means Outside k gs y v → next_of k ≡ Some command → IsPlaced false (act_of command ∷ behind_next k)
  outside_placed gs y v k command m e = subst (IsPlaced false) (next_act k command e) m.fits.placed

  pub within_placed : (gs : List RegionState) (y : SystemState) (v : Vaulted V) (k : Client) (x : Transaction) (command : Command) → MayStep means (Within x) k gs y v → next_of k ≡ Some command → IsPlaced true (act_of command ∷ behind_next k)
  within_placed gs y v k x command m e = subst (IsPlaced true) (next_act k command e) m.fits.placed

  module _ (precheck : Bool) (gs : List RegionState) (y : SystemState) (v : Vaulted V) (k j : Client) where
    -- a client that died, or has no command left
    pub gone_goes : Stays k Gone j → StepGoes means precheck Gone k gs y v true j gs y v
    gone_goes f s B p w a stood is fits =
        went_on means precheck s B B p p w a Gone gs gs y y v v [] k j is (did_nothing means precheck s B p w gs y v stood a.client Gone) true f.transcript
        (subst (λ (st : State). Fits means s B p (after w a.client [] p.core) gs y v (behind a w []) (rest_of j) st) (sym f.stands)
        (record { txn = fits.txn; place = fits.place; none = ap (λ (xs : List Receipt). xs ++ []) fits.none }))
        (λ e up t lives. inr (lives, λ e. e))

    pub none_goes : Stays k Outside j → StepGoes means precheck Outside k gs y v true j gs y v
    none_goes f s B p w a stood is fits =
        went_on means precheck s B B p p w a Outside gs gs y y v v [] k j is (did_nothing means precheck s B p w gs y v stood a.client Outside) true f.transcript
        (subst (λ (st : State). Fits means s B p (after w a.client [] p.core) gs y v (behind a w []) (rest_of j) st) (sym f.stands)
        (record {
          said = fits.said;
          may = fits.may;
          spot = fits.spot ∙ ap (at (IsOutside fits.said)) (sym (ap (map act_of) f.rest));
          none = ap (λ (xs : List Receipt). xs ++ []) fits.none;
          placed = subst (IsPlaced false) (sym (ap (map act_of) f.rest)) fits.placed;
        }))
        (λ e up t lives. inr (lives, λ e. e))

    -- behind a begin that was refused
    pub left_goes : (r : Result Bool OutOfMemory) → (next_of k ≡ None → (r ≡ Ok false) × Stays k LeftOut j) → ((command : Command) → next_of k ≡ Some command → (r ≡ Ok true) × Passes k (left_behind command) j)
        → StepGoes means precheck LeftOut k gs y v (is_ok r) j gs y v
    left_goes r done passed = by_next (next_of k) refl
      where
        by_next : (o : Option Command) → next_of k ≡ o → StepGoes means precheck LeftOut k gs y v (is_ok r) j gs y v
        by_next None e = subst (λ (b : Bool). StepGoes means precheck LeftOut k gs y v b j gs y v) (sym (ap is_ok (done e).0)) (rests_goes means precheck gs y v k j (done e).1)
        by_next (Some command) e = subst (λ (b : Bool). StepGoes means precheck LeftOut k gs y v b j gs y v) (sym (ap is_ok (passed command e).0)) (skips_goes means precheck gs y v k j command e (passed command e).1)

    -- its death is set
    pub armed_goes : (x z : Transaction) (count : ℕ) → next_of k ≡ Some (Die count) → z ≡ record x { deadly = Some count } → Passes k (Within z) j → StepGoes means precheck (Within x) k gs y v true j gs y v
    armed_goes x z count next is_z f s B p w a stood is fits =
        went_by means precheck s B B p p w a (Within x) gs gs y y v v [] k j is (did_nothing means precheck s B p w gs y v stood a.client (Within x)) move starts (ap (λ (xs : List Receipt). xs ++ []) none) tt
        (ap (λ (t : Transcribed). t.client) f.transcript) (ap (λ (t : Transcribed). map said_of t.lines) f.transcript ∙ sym (append-nil (lines_of k)))
        (subst (λ (st : State). Fits means s B p (after w a.client [] p.core) gs y v (ended a move) (rest_of j) st) (sym (f.stands ∙ ap Within is_z)) (record {
          said = fits.said;
          may = fits.may;
          spot = ap (at (IsWithin x.txn x.tries (map act_of x.commands.now) (Some count) fits.said)) (sym rest_is);
          so_far = none_so_far (after w a.client [] p.core) a.client x.txn (rest_of j);
          undone = λ us. refl;
          placed = subst (IsPlaced true) (sym rest_is) placed.1;
          again = record { more = fits.again.more; begins = fits.again.begins; placed = fits.again.placed; few = fits.again.few };
          due = spared_first count placed.0;
          lives = fits.lives;
          free = fits.free;
          locks = still_got p p w (after w a.client [] p.core) (did_nothing means precheck s B p w gs y v stood a.client (Within x)).goes.grows a.client x.txn (λ n. refl) fits.locks;
          may_call = fits.may_call;
        }))
        owned
      where
        move : Move
        move = IsArmed x.txn x.tries (map act_of x.commands.now) x.deadly fits.said count (behind_next k)

        acts : rest_of k ≡ Arms count ∷ behind_next k
        acts = next_act k (Die count) next

        rest_is : rest_of j ≡ behind_next k
        rest_is = ap (map act_of) f.rest

        starts : a.spot ≡ at (IsWithin x.txn x.tries (map act_of x.commands.now) x.deadly fits.said) (Arms count ∷ behind_next k)
        starts = fits.spot ∙ ap (at (IsWithin x.txn x.tries (map act_of x.commands.now) x.deadly fits.said)) acts

        none : a.pending ≡ []
        none = subst (λ (l : List Act). AreSoFar w a.client x.txn l a.pending) acts fits.so_far

        placed : (1 ≤ count) × IsPlaced true (behind_next k)
        placed = subst (IsPlaced true) acts fits.placed

        owned : RowsTell (Within x) y j.state y
        owned up t lives = by_number (x.txn == t) refl
          where
            by_number : (b : Bool) → (x.txn == t) ≡ b → Owns j.state t ⊎ ((is_open (state_of y t) ≡ true) × (Owns (Within x) t → ⊥))
            by_number true e = inl (subst (λ (st : State). Owns st t) (sym (f.stands ∙ ap Within is_z)) (equal x.txn t e))
            by_number false e = inr (lives, λ same. let no_way : true ≡ false = sym (same_number x.txn t same) ∙ e in absurd (cc))
