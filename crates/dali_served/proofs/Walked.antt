-- The steps of a client that was told whole transactions, and of which each line says that all went well.
use Rattle.std.proofs.Common.{◌≡◌, ℕ, true, false, List, [], ◌∷◌, ◌++◌, Some, None, refl, sym, ◌∙◌, ap, subst}
use Rattle.std.specs.List.{list_all}
use Rattle.dali_record.specs.declared.records.Call.{Call}
use Rattle.dali_record.specs.declared.records.Answer.{Answer}
use Rattle.dali_record.specs.declared.records.Answer.TheVariants.{FullHeap, FullIndex}
use Rattle.dali_record.specs.declared.records.Record.TheVariants.{Begin, Done, Commit}
use Rattle.dali_transcripts.specs.Words.{Act, Begins as BeginAct, Calls, Commits as CommitAct, Answered}
use Rattle.dali_transcripts.specs.World.{Logs, World, IsFlushed}
use Rattle.dali_transcripts.specs.Moves.{Receipt, Outside, Within, TakenBack, LeftBehind, Move, Begins, Answers, GivesWay, Commits, at, from, said, own, to}
use Rattle.dali_transcripts.specs.Causes.{AreWork, AreBehind, HasCause}
use Rattle.dali_served.specs.Served.{has_room, is_served}

abbrev pub Serves : Move → Type 0
Serves x = list_all is_served (said x) ≡ true

-- it begins a transaction
pub record HasBegun (x : Move) (rest : List Act) : Type 0 where
  pub txn : ℕ
  pub number : ℕ
  pub own_is : own x ≡ (number, Logs (Begin txn)) ∷ []
  pub to_is : to x ≡ at (Within txn 0 (BeginAct ∷ rest) None false) rest

-- a call is answered, and the answer is such
pub record HasAnswered (w : World) (c : ℕ) (IsSo : Answer → Type 0) (x : Move) (txn : ℕ) (commands : List Act) (call : Call) (rest : List Act) : Type 0 where
  pub work : List Receipt
  pub number : ℕ
  pub answer : Answer
  pub own_is : own x ≡ work ++ (number, Logs (Done txn call answer)) ∷ []
  pub are_work : AreWork w c txn call work
  pub is_so : IsSo answer
  pub to_is : to x ≡ at (Within txn 0 commands None false) rest

-- the transaction is committed
pub record HasCommitted (w : World) (c : ℕ) (x : Move) (txn : ℕ) (rest : List Act) : Type 0 where
  pub number : ℕ
  pub behind : List Receipt
  pub own_is : own x ≡ (number, Logs (Commit txn)) ∷ behind
  pub flushed : IsFlushed w number
  pub are_behind : AreBehind w c txn behind
  pub to_is : to x ≡ at (Outside false) rest

room_of : (k : Call) (a : Answer) → list_all is_served (Answered k a ∷ []) ≡ true → has_room a ≡ true
room_of k FullHeap e = absurd cc
room_of k FullIndex e = absurd cc
room_of k _ e = refl

module _ (w : World) (c : ℕ) where
  pub begins : (r : List Act) (x : Move) → HasCause w c x → Outside false ≡ (from x).place → BeginAct ∷ r ≡ (from x).rest → Serves x → HasBegun x r
  begins r (Begins t n rest) cause p e served =
      let same : rest ≡ r = cc in
      record { txn = t; number = n; own_is = refl; to_is = ap (λ l. at (Within t 0 (BeginAct ∷ l) None false) l) same }
  begins r x cause p e served = absurd cc

  pub answered : (IsSo : Answer → Type 0) (t u tries n : ℕ) (cs ks : List Act) (call k : Call) (a : Answer) (work : List Receipt) (rest r : List Act)
      → AreWork w c t call work → Within u 0 ks None false ≡ Within t tries cs None false → Calls k ∷ r ≡ Calls call ∷ rest → IsSo a → HasAnswered w c IsSo (Answers t tries cs None work n call a rest) u ks k r
  answered IsSo t u tries n cs ks call k a work rest r are p e so =
      let txn : t ≡ u = cc in
      let asked : call ≡ k = cc in
      let place : Within t tries cs None false ≡ Within u 0 ks None false = sym p in
      let left : rest ≡ r = cc in
      record {
        work = work;
        number = n;
        answer = a;
        own_is = ap (λ z. work ++ (n, Logs (Done z call a)) ∷ []) txn ∙ ap (λ z. work ++ (n, Logs (Done u z a)) ∷ []) asked;
        are_work = subst (λ z. AreWork w c u z work) asked (subst (λ z. AreWork w c z call work) txn are);
        is_so = so;
        to_is = ap (λ z. at z rest) place ∙ ap (λ l. at (Within u 0 ks None false) l) left;
      }

  pub answers : (u : ℕ) (ks : List Act) (k : Call) (r : List Act) (x : Move) → HasCause w c x → Within u 0 ks None false ≡ (from x).place → Calls k ∷ r ≡ (from x).rest → Serves x → HasAnswered w c (λ a. has_room a ≡ true) x u ks k r
  answers u ks k r (Answers t tries cs None work n call a rest) cause p e served = answered (λ z. has_room z ≡ true) t u tries n cs ks call k a work rest r cause.0 p e (room_of call a served)
  answers u ks k r (Answers t tries cs (Some d) work n call a rest) cause p e served = absurd cc
  answers u ks k r (GivesWay t tries cs d work call f back (TakenBack n) rest) cause p e served = absurd cc
  answers u ks k r (GivesWay t tries cs d work call f back (LeftBehind n z) rest) cause p e served = absurd cc
  answers u ks k r x cause p e served = absurd cc

  pub commits : (u : ℕ) (ks : List Act) (r : List Act) (x : Move) → HasCause w c x → Within u 0 ks None false ≡ (from x).place → CommitAct ∷ r ≡ (from x).rest → Serves x → HasCommitted w c x u r
  commits u ks r (Commits t tries cs d n behind rest) cause p e served =
      let txn : t ≡ u = cc in
      let left : rest ≡ r = cc in
      record {
        number = n;
        behind = behind;
        own_is = ap (λ z. (n, Logs (Commit z)) ∷ behind) txn;
        flushed = cause.0;
        are_behind = subst (λ z. AreBehind w c z behind) txn cause.1;
        to_is = ap (λ l. at (Outside false) l) left;
      }
  commits u ks r x cause p e served = absurd cc

  -- outside of a transaction nothing is done without a command
  pub ends : (x : Move) → Outside false ≡ (from x).place → [] ≡ (from x).rest → ⊥
  ends (Begins t n rest) p e = absurd cc
  ends x p e = absurd cc
