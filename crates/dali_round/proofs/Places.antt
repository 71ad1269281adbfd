-- Where the standing of a client has it, by its state.
use Rattle.std.proofs.Common.{◌≡◌, ℕ, Bool, true, List, [], ◌∷◌, length, map, Option, Some, refl, ap, sym, subst, ◌∙◌, arith}
use Rattle.std.specs.Prelude.{◌==◌}
use Rattle.std.proofs.lemmas.List.{append-nil}
use Rattle.dali_runs.proofs.CountsLemmas.Lists.{equal}
use Rattle.dali_record.specs.declared.records.Record.{Record}
use Rattle.dali_region.specs.State.{RegionState}
use Rattle.dali_store.specs.Store.{Files as Disk}
use Rattle.dali_store.specs.declared.store.Store.{Ghosts}
use Rattle.dali_runs.specs.State.{SystemState}
use Rattle.dali_crash.specs.Checkpoints.{Point}
use Rattle.dali_crash.specs.Traces.{Start}
use Rattle.dali_core.specs.Vault.Vaulted.{Vaulted}
use Rattle.dali_transcripts.specs.Words.{Act, Said}
use Rattle.dali_transcripts.specs.World.{World}
use Rattle.dali_transcripts.specs.Moves.{Receipt, Place, Outside as IsOutside, LeftOut as IsLeftOut, Gone as IsGone, Spot, Rests, at}
use Rattle.dali_transcripts.specs.Transcripts.{IsSoFar, IsOver, deeds_of}
use Rattle.dali_transcripts.specs.Rounds.{Standing, Stands, IsDone, told_of, lines_in}
use Rattle.dali_transcripts.proofs.Paths.{one_more_step}
use Rattle.dali_transcripts.specs.declared.clients.command.Command.{Command}
use Rattle.dali_transcripts.specs.Clients.Told.{act_of}
use Rattle.dali_turns.specs.declared.client.Client.{Client}
use Rattle.dali_turns.specs.declared.client.State.{State}
use Rattle.dali_turns.specs.declared.client.State.TheVariants.{Outside, LeftOut, Within, Calling, TakingBack, Committing, Waiting, Auditing, Copying, Certifying, Gone}
use Rattle.dali_turns.specs.Clients.{is_over}
use Rattle.dali_turns.specs.Within.{AreGot}
use Rattle.dali_turns.specs.Fits.{rest_of, InTxn, Owns, Fits}
use Rattle.dali_round.proofs.Begun.{in_txn}

-- ---- a client that is done, with nothing left to do
abbrev pub done_of : Standing → Standing
done_of a = record a { spot = at a.spot.place [] }

pub told_done : (ss : List Standing) → map told_of (map done_of ss) ≡ map told_of ss
told_done [] = refl
told_done (a ∷ ss) = ap (λ l. told_of a ∷ l) (told_done ss)

pub lines_done : (ss : List Standing) → map lines_in (map done_of ss) ≡ map lines_in ss
lines_done [] = refl
lines_done (a ∷ ss) = ap (λ l. lines_in a ∷ l) (lines_done ss)

-- one that died is told of no more
rests : (w : World) (c t : ℕ) (acts : List Act) (lines : List Said) (did : List Receipt) (rest : List Act) → IsSoFar w c acts lines did [] (at (IsGone t) rest) → IsSoFar w c acts lines did [] (at (IsGone t) [])
rests w c t acts lines did [] so = so
rests w c t acts lines did (act ∷ rest) so =
    rests w c t acts lines did rest (subst (λ l. IsSoFar w c acts l did [] (at (IsGone t) rest)) (append-nil lines) (one_more_step w c acts lines did [] (at (IsGone t) (act ∷ rest)) (Rests t act rest) so refl refl tt))

no_items : {X : Type 0} (xs : List X) → (length xs == 0) ≡ true → xs ≡ []
no_items [] e = refl
no_items (x ∷ xs) e = absurd (omega (arith, equal (length (x ∷ xs)) 0 e))

no_acts : (cs : List Command) → (length cs == 0) ≡ true → map act_of cs ≡ []
no_acts cs e = ap (map act_of) (no_items cs e)

module _ (w : World) (a : Standing) (so : Stands w a) where
  at_end : (place : Place) → IsOver place → (rest : List Act) → a.spot ≡ at place rest → rest ≡ [] → a.pending ≡ [] → Stands w (done_of a) × IsDone (done_of a)
  at_end place over rest spot none pending =
      let is : a.spot ≡ at place [] = spot ∙ ap (at place) none in
      let same : a.spot ≡ at a.spot.place [] = is ∙ ap (λ (q : Spot). at q.place []) (sym is) in
      (subst (λ (q : Spot). IsSoFar w a.client a.acts a.lines (deeds_of w a.client) a.pending q) same so, (subst (λ (q : Spot). IsOver q.place) (sym is) over, refl, pending))

  at_death : (t : ℕ) → a.spot.place ≡ IsGone t → a.pending ≡ [] → Stands w (done_of a) × IsDone (done_of a)
  at_death t place pending =
      let gone : IsSoFar w a.client a.acts a.lines (deeds_of w a.client) [] (at (IsGone t) a.spot.rest) =
      subst (λ (l : List Receipt). IsSoFar w a.client a.acts a.lines (deeds_of w a.client) l (at (IsGone t) a.spot.rest)) pending (subst (λ z. IsSoFar w a.client a.acts a.lines (deeds_of w a.client) a.pending (at z a.spot.rest)) place so) in
      let there = rests w a.client t a.acts a.lines (deeds_of w a.client) a.spot.rest gone in (
        subst (λ z. IsSoFar w a.client a.acts a.lines (deeds_of w a.client) a.pending (at z [])) (sym place) (subst (λ (l : List Receipt). IsSoFar w a.client a.acts a.lines (deeds_of w a.client) l (at (IsGone t) [])) (sym pending) there),
        (subst IsOver (sym place) tt, refl, pending),
      )

module _ {V : Type 0} (means : Ghosts V)
    (s : Start) (B : List (List Record)) (p : Point) (w : World) (gs : List RegionState) (y : SystemState) (v : Vaulted V) (a : Standing) where
  pub over_stands : (k : Client) → Stands w a → (state : State) → Fits means s B p w gs y v a (rest_of k) state → is_over state (length k.rest.now == 0) ≡ true → Stands w (done_of a) × IsDone (done_of a)
  over_stands k so Outside f e = at_end w a so (IsOutside f.said) tt (rest_of k) f.spot (no_acts k.rest.now e) f.none
  over_stands k so LeftOut f e = at_end w a so (IsLeftOut f.said) tt (rest_of k) f.spot (no_acts k.rest.now e) f.none
  over_stands k so Gone f e = at_death w a so f.txn f.place f.none
  over_stands k so state f e = absurd (cc)

  pub over_pending : (k : Client) (state : State) → Fits means s B p w gs y v a (rest_of k) state → is_over state (length k.rest.now == 0) ≡ true → a.pending ≡ []
  over_pending k Outside f e = f.none
  over_pending k LeftOut f e = f.none
  over_pending k Gone f e = f.none
  over_pending k state f e = absurd (cc)

  pub at_spot : (rest : List Act) (state : State) → Fits means s B p w gs y v a rest state → Fits means s B p w gs y v a a.spot.rest state
  at_spot rest Outside f = subst (λ (l : List Act). Fits means s B p w gs y v a l Outside) (sym (ap (λ (q : Spot). q.rest) f.spot)) f
  at_spot rest LeftOut f = subst (λ (l : List Act). Fits means s B p w gs y v a l LeftOut) (sym (ap (λ (q : Spot). q.rest) f.spot)) f
  at_spot rest (Within x) f = subst (λ (l : List Act). Fits means s B p w gs y v a l (Within x)) (sym (ap (λ (q : Spot). q.rest) f.spot)) f
  at_spot rest (Calling x plan) f = subst (λ (l : List Act). Fits means s B p w gs y v a l (Calling x plan)) (sym (ap (λ (q : Spot). q.rest) f.spot)) f
  at_spot rest (TakingBack x plan why) f = subst (λ (l : List Act). Fits means s B p w gs y v a l (TakingBack x plan why)) (sym (ap (λ (q : Spot). q.rest) f.spot)) f
  at_spot rest (Committing x number removals next) f = subst (λ (l : List Act). Fits means s B p w gs y v a l (Committing x number removals next)) (sym (ap (λ (q : Spot). q.rest) f.spot)) f
  at_spot rest (Waiting tries holder) f = subst (λ (l : List Act). Fits means s B p w gs y v a l (Waiting tries holder)) (sym (ap (λ (q : Spot). q.rest) f.spot)) f
  at_spot rest (Auditing audit next) f = subst (λ (l : List Act). Fits means s B p w gs y v a l (Auditing audit next)) (sym (ap (λ (q : Spot). q.rest) f.spot)) f
  at_spot rest (Copying c next) f = subst (λ (l : List Act). Fits means s B p w gs y v a l (Copying c next)) (sym (ap (λ (q : Spot). q.rest) f.making.spot)) f
  at_spot rest (Certifying c audit next) f = subst (λ (l : List Act). Fits means s B p w gs y v a l (Certifying c audit next)) (sym (ap (λ (q : Spot). q.rest) f.making.spot)) f
  at_spot rest Gone f = f

  pub owns_within : (rest : List Act) (state : State) (t : ℕ) → Fits means s B p w gs y v a rest state → Owns state t → in_txn a.spot.place ≡ Some t
  owns_within rest (Within x) t f owns = ap (λ (q : Spot). in_txn q.place) f.spot ∙ ap Some owns
  owns_within rest (Calling x plan) t f owns = ap (λ (q : Spot). in_txn q.place) f.spot ∙ ap Some owns
  owns_within rest (TakingBack x plan why) t f owns = ap (λ (q : Spot). in_txn q.place) f.spot ∙ ap Some owns
  owns_within rest (Committing x number removals next) t f owns = ap (λ (q : Spot). in_txn q.place) f.spot ∙ ap Some owns
  owns_within rest state t f owns = absurd owns

  pub owns_in : (rest : List Act) (state : State) (t : ℕ) → Fits means s B p w gs y v a rest state → Owns state t → InTxn a.spot.place t
  owns_in rest (Within x) t f owns = subst (λ (q : Spot). InTxn q.place t) (sym f.spot) owns
  owns_in rest (Calling x plan) t f owns = subst (λ (q : Spot). InTxn q.place t) (sym f.spot) owns
  owns_in rest (TakingBack x plan why) t f owns = subst (λ (q : Spot). InTxn q.place t) (sym f.spot) owns
  owns_in rest (Committing x number removals next) t f owns = subst (λ (q : Spot). InTxn q.place t) (sym f.spot) owns
  owns_in rest state t f owns = absurd owns

  -- its locks were granted to it
  pub owns_locks : (rest : List Act) (state : State) (t : ℕ) → Fits means s B p w gs y v a rest state → Owns state t → AreGot p w a.client t
  owns_locks rest (Within x) t f owns = subst (AreGot p w a.client) owns f.locks
  owns_locks rest (Calling x plan) t f owns = subst (AreGot p w a.client) owns f.locks
  owns_locks rest (TakingBack x plan why) t f owns = subst (AreGot p w a.client) owns f.locks
  owns_locks rest (Committing x number removals next) t f owns = subst (AreGot p w a.client) owns f.locks
  owns_locks rest state t f owns = absurd owns

-- who is done is in no transaction
pub over_owns : (state : State) (none : Bool) (t : ℕ) → is_over state none ≡ true → Owns state t → ⊥
over_owns Outside none t e owns = owns
over_owns LeftOut none t e owns = owns
over_owns Gone none t e owns = owns
over_owns state none t e owns = absurd (cc)
