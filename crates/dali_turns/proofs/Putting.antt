-- A client that makes no step stands where it stood, for a reason.
use Rattle.std.proofs.Common.{◌≡◌, ℕ, Bool, true, false, List, ◌++◌, length, Option, Some, None, Result, Ok, Err, IsErr, refl, ap, subst, ◌∙◌, inl, inr, arith}
use Rattle.std.specs.Prelude.{◌==◌, ◌-◌, IfOk}
use Rattle.std.specs.List.{range_with_len}
use Rattle.std.proofs.lemmas.List.{append-nil}
use Rattle.dali_bytes.specs.declared.error.OutOfMemory.{OutOfMemory}
use Rattle.dali_record.specs.declared.records.Call.{Call}
use Rattle.dali_runs.specs.State.{SystemState}
use Rattle.dali_transcripts.specs.declared.clients.command.Command.{Command}
use Rattle.dali_transcripts.specs.Clients.Said.{Transcribed, logged}
use Rattle.dali_turns.specs.declared.client.Client.{Client}
use Rattle.dali_turns.specs.declared.client.State.{State}
use Rattle.dali_turns.specs.declared.client.State.TheVariants.{Outside, LeftOut, Within, Gone}
use Rattle.dali_turns.specs.declared.client.Transaction.{Transaction}
use Rattle.dali_turns.specs.Calls.{MustWait}
use Rattle.dali_turns.specs.Clients.{next_of, Passes, Stays, left_behind}
use Rattle.dali_turns.specs.Waits.{StaysPut}
use Rattle.dali_turns.proofs.Commands.{none_of}

pub never_went : {E X : Type 0} (r : Result Bool E) → IfOk r (λ went. went ≡ true) → r ≡ Ok false → X
never_went (Ok went) on e = absurd (cc)
never_went (Err e) on f = absurd (cc)

pub err_on : (r : Result Bool OutOfMemory) → IsErr r → IfOk r (λ went. went ≡ true)
err_on (Ok went) refused = absurd (cc)
err_on (Err e) refused = tt

-- its state was taken out of it for the step
pub put_from : (y : SystemState) (k j : Client) (state dest : State) → state ≡ k.state → StaysPut y state (record k { state = dest }) j → StaysPut y k.state k j
put_from y k j state dest e p =
    subst (λ s. StaysPut y s k j) e (record { stays = record { rest = p.stays.rest; stands = p.stays.stands; points = p.stays.points; transcript = p.stays.transcript }; reason = p.reason })

none_left : (k : Client) → next_of k ≡ None → (length k.rest.now == 0) ≡ true
none_left k none = ap (λ xs. length xs == 0) (none_of k.rest.now none)

pub outside_put : (y : SystemState) (k : Client) → k.state ≡ Outside → next_of k ≡ None → StaysPut y Outside k k
outside_put y k outside none = record { stays = record { rest = refl; stands = outside; points = refl; transcript = refl }; reason = inl (none_left k none) }

pub gone_put : (y : SystemState) (k : Client) (dest : State) → StaysPut y Gone (record k { state = dest }) (record k { state = Gone })
gone_put y k dest = record { stays = record { rest = refl; stands = refl; points = refl; transcript = refl }; reason = inl refl }

module _ (y : SystemState) (k j : Client) (r : Result Bool OutOfMemory) (done : next_of k ≡ None → (r ≡ Ok false) × Stays k LeftOut j) (passed : (command : Command) → next_of k ≡ Some command → (r ≡ Ok true) × Passes k (left_behind command) j) where
  pub left_out_put : r ≡ Ok false → StaysPut y LeftOut k j
  left_out_put none = by_next (next_of k) refl where
    by_next : (o : Option Command) → next_of k ≡ o → StaysPut y LeftOut k j
    by_next None e = record { stays = (done e).1; reason = inl (none_left k e) }
    by_next (Some command) e = let went = (passed command e).0 in absurd (cc)

-- it must wait for its lock
pub asked_put : (y : SystemState) (k j : Client) (x : Transaction) (call : Call) (r : Result Bool OutOfMemory) (X : Type 0) → IfOk r (λ went. went ≡ false → Stays k (Within x) j × X × (y.stop ≡ None) × MustWait y x.txn call) → r ≡ Ok false
    → StaysPut y (Within x) k j × X
asked_put y k j x call r X waits none =
    let why = subst (λ o. IfOk o (λ went. went ≡ false → Stays k (Within x) j × X × (y.stop ≡ None) × MustWait y x.txn call)) none waits refl in
    (record { stays = why.0; reason = inr (why.2, (call, why.3)) }, why.1)

-- ---- the receipts are put back, and nothing was logged
pub same_transcript : (t : Transcribed) (n : ℕ) → logged t n n ≡ t
same_transcript t n = let none : n - n ≡ 0 = omega arith in ap (λ l. record t { receipts = l }) (ap (λ k. t.receipts ++ range_with_len n k) none ∙ append-nil t.receipts)

pub turn_put : (y : SystemState) (k j : Client) (lent behind first : Transcribed) (none back : List ℕ) (m n : ℕ) → first ≡ record k.transcript { receipts = none } → lent ≡ record j.transcript { receipts = back } → back ≡ k.transcript.receipts
    → behind ≡ logged lent m n → m ≡ n → StaysPut y k.state (record k { transcript = first }) j → StaysPut y k.state k (record j { transcript = behind })
turn_put y k j lent behind first none back m n taken put is_back noted same p = record {
  stays = record {
    rest = p.stays.rest;
    stands = p.stays.stands;
    points = p.stays.points;
    transcript = noted ∙ (subst (λ i. logged lent m i ≡ lent) same (same_transcript lent m) ∙ (put ∙ (ap (λ (t : Transcribed). record t { receipts = back }) (p.stays.transcript ∙ taken) ∙ ap (λ l. record k.transcript { receipts = l }) is_back)));
  };
  reason = p.reason;
}
