-- A client of which every try gets Busy.
use Rattle.std.proofs.Common.{◌≡◌, ℕ, zero, suc, ◌+◌, ◌<◌, false, List, [], ◌∷◌, ◌++◌, None, refl, ap, subst, ◌∙◌, arith}
use Rattle.std.proofs.lemmas.Grind.{flat_map-append}
use Rattle.std.proofs.lemmas.List.{append_assoc, append-nil}
use Rattle.dali_record.specs.declared.records.Call.{Call}
use Rattle.dali_runs.specs.declared.refusals.Refusal.{Refusal}
use Rattle.dali_transcripts.specs.Words.{Act, Begins as BeginAct, Calls, Said, Begun, Aborted, Busy}
use Rattle.dali_transcripts.specs.World.{World}
use Rattle.dali_transcripts.specs.Moves.{Place, Outside, Within, Again, Spot, TakenBack, Move, Begins, BeginsAgain, GivesWay, GivesUp, from, said, to, at, start}
use Rattle.dali_transcripts.specs.Causes.{HasCause}
use Rattle.dali_transcripts.specs.Transcripts.{IsPath, said_by}
use Rattle.dali_transcripts.specs.Tries.{tries_said, AreRefused, AllTried, ThousandTries}
use Rattle.dali_transcripts.proofs.Paths.{longer}

module _ (w : World) (c : ℕ) (call : Call) (rest : List Act) (txn begun ended : ℕ → ℕ) (refusal : ℕ → Refusal) where
  acts : List Act
  acts = BeginAct ∷ Calls call ∷ rest

  -- behind so many tries
  place : ℕ → Place
  place zero = Outside false
  place (suc n) = Again (suc n) (refusal n).holder false

  begins : ℕ → Move
  begins zero = Begins (txn 0) (begun 0) (Calls call ∷ rest)
  begins (suc n) = BeginsAgain (txn (suc n)) (begun (suc n)) (suc n) (refusal n).holder (Calls call ∷ rest)

  begins_from : (n : ℕ) → at (place n) acts ≡ from (begins n)
  unfolding acts place begins
  begins_from zero = refl
  begins_from (suc n) = refl

  begins_to : (n : ℕ) → to (begins n) ≡ at (Within (txn n) n acts None false) (Calls call ∷ rest)
  unfolding acts begins
  begins_to zero = refl
  begins_to (suc n) = refl

  begins_said : (n : ℕ) → said (begins n) ≡ Begun (txn n) ∷ []
  unfolding begins
  begins_said zero = refl
  begins_said (suc n) = refl

  begins_cause : AreRefused w c call txn begun ended refusal → (n : ℕ) → n < 1000 → HasCause w c (begins n)
  unfolding begins
  begins_cause are zero h = tt
  begins_cause are (suc n) h = are.behind n (omega (arith, h))

  gives_way : ℕ → Move
  gives_way n = GivesWay (txn n) n acts None [] call (refusal n) [] (TakenBack (ended n)) rest

  gives_up : Move
  gives_up = GivesUp (txn 999) 999 acts None [] call (refusal 999) [] (TakenBack (ended 999)) rest

  moves : ℕ → List Move
  moves zero = []
  moves (suc n) = (moves n ++ begins n ∷ []) ++ gives_way n ∷ []

  said_push : (xs : List Move) (x : Move) → said_by (xs ++ x ∷ []) ≡ said_by xs ++ said x
  said_push xs x = flat_map-append said xs (x ∷ []) ∙ ap (λ l. said_by xs ++ l) (append-nil (said x))

  -- a try's begin, and how it ends
  said_both : (xs : List Move) (n : ℕ) (x : Move) (lines : List Said) → said x ≡ lines → said_by ((xs ++ begins n ∷ []) ++ x ∷ []) ≡ said_by xs ++ Begun (txn n) ∷ lines
  said_both xs n x lines e =
      said_push (xs ++ begins n ∷ []) x
      ∙ (ap (λ l. l ++ said x) (said_push xs (begins n))
      ∙ (append_assoc (said_by xs) (said (begins n)) (said x)
      ∙ (ap (λ l. said_by xs ++ (l ++ said x)) (begins_said n) ∙ ap (λ l. said_by xs ++ Begun (txn n) ∷ l) e)))

  moves_said : (n : ℕ) → said_by (moves n) ≡ tries_said txn n
  unfolding moves gives_way
  moves_said zero = refl
  moves_said (suc n) = said_both (moves n) n (gives_way n) (Aborted ∷ []) refl ∙ ap (λ l. l ++ Begun (txn n) ∷ Aborted ∷ []) (moves_said n)

  begun_path : AreRefused w c call txn begun ended refusal → (n : ℕ) → n < 1000 → IsPath w c (start acts) (moves n) (at (place n) acts)
      → IsPath w c (start acts) (moves n ++ begins n ∷ []) (at (Within (txn n) n acts None false) (Calls call ∷ rest))
  begun_path are n h path = subst (λ (q : Spot). IsPath w c (start acts) (moves n ++ begins n ∷ []) q) (begins_to n) (longer w c (start acts) (moves n) (at (place n) acts) (begins n) path (begins_from n) (begins_cause are n h))

  path : AreRefused w c call txn begun ended refusal → (n : ℕ) → n < 1000 → IsPath w c (start acts) (moves n) (at (place n) acts)
  unfolding acts moves place gives_way
  path are zero h = refl
  path are (suc n) h =
      let next : n + 1 ≡ suc n = omega arith in
      let few : n < 1000 = omega (arith, h) in
      subst (λ k. IsPath w c (start acts) (moves (suc n)) (at (Again k (refusal n).holder false) acts)) next
      (longer w c (start acts) (moves n ++ begins n ∷ []) (at (Within (txn n) n acts None false) (Calls call ∷ rest)) (gives_way n) (begun_path are n few (path are n few)) refl
      (tt, are.refused n few, tt, are.back n few, omega (arith, h)))

  all_tried : AreRefused w c call txn begun ended refusal → AllTried w c call rest txn (refusal 999).holder
  unfolding acts gives_up
  all_tried are = record {
    moves = (moves 999 ++ begins 999 ∷ []) ++ gives_up ∷ [];
    path = longer w c (start acts) (moves 999 ++ begins 999 ∷ []) (at (Within (txn 999) 999 acts None false) (Calls call ∷ rest)) gives_up (begun_path are 999 (omega arith) (path are 999 (omega arith))) refl
        (tt, are.refused 999 (omega arith), tt, are.back 999 (omega arith), refl);
    said = said_both (moves 999) 999 gives_up (Busy (refusal 999).holder ∷ Aborted ∷ []) refl ∙ ap (λ l. l ++ Begun (txn 999) ∷ Busy (refusal 999).holder ∷ Aborted ∷ []) (moves_said 999);
  }

pub thousand_tries : ThousandTries
thousand_tries = record {
  all = λ w c call rest txn begun ended refusal are. all_tried w c call rest txn begun ended refusal are;
  last = λ w c t cs d work call f back end rest h. omega (arith, h.4);
}
