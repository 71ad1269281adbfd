-- What a client's transactions take back they answer.
use Rattle.std.proofs.Common.{◌≡◌, ℕ, ◌==◌, Bool, true, false, List, [], ◌∷◌, ◌++◌, Some, fold, refl, sym, ◌∙◌, ap, subst, inl, inr}
use Rattle.std.specs.Prelude.{◌&&◌, if◌then◌else◌}
use Rattle.std.specs.List.{list_all, AllByRecursion}
use Rattle.std.proofs.lemmas.List.{append-nil}
use Rattle.std.proofs.lemmas.List.Concat.{flat_map-cons}
use Rattle.std.proofs.lemmas.List.Sums.{fold-append}
use Rattle.std.proofs.lemmas.Bool.{eq-eqb, eqb-true}
use Rattle.dali_record.specs.declared.records.Answer.{Answer}
use Rattle.dali_record.specs.declared.records.Call.{Call}
use Rattle.dali_record.specs.declared.records.Record.TheVariants.{Forward, Back, Done, Commit, Ended}
use Rattle.dali_transcripts.specs.Words.{Said}
use Rattle.dali_transcripts.specs.World.{Deed, Logs, World}
use Rattle.dali_transcripts.specs.Moves.{Receipt, TakenBack, LeftBehind, Spot, Move, Begins, BeginsAgain, Skips, Rests, IsArmed, Answers, GivesWay, Commits, said, own, to, start}
use Rattle.dali_transcripts.specs.Causes.{IsCleaning, IsWork, AreWork, IsBehind, AreBehind, IsNoOperation, StaysBack, HasCause}
use Rattle.dali_transcripts.specs.Transcripts.{IsPath, said_by, own_by}
use Rattle.dali_served.specs.Steady.{is_answered, steady_by, NoneClaimed, OwnIsSteady}

-- from nothing unanswered to nothing unanswered
abbrev Calm : ℕ → List Receipt → Type 0
Calm t xs = fold (steady_by t) (Some false) xs ≡ Some false

calm_append : (t : ℕ) (xs ys : List Receipt) → Calm t xs → Calm t ys → Calm t (xs ++ ys)
calm_append t xs ys h g = fold-append (steady_by t) (Some false) xs ys ∙ (ap (λ b. fold (steady_by t) b ys) h ∙ g)

either : (b : Bool) → (if b then Some false else Some false) ≡ Some false
either true = refl
either false = refl

module _ (w : World) (c : ℕ) (none : NoneClaimed w) where
  no_clean_up : (t n u : ℕ) (x : Deed) → IsCleaning w c t n u x → ⊥
  no_clean_up t n u x h = let never : true ≡ false = sym h.claimed ∙ none h.done.place u in absurd cc

  -- ---- a call of the transaction itself
  record Leaves (u : ℕ) (b : Bool) (xs : List Receipt) : Type 0 where
    back : Bool
    is : fold (steady_by u) (Some b) xs ≡ Some back

  own_work : (u : ℕ) (call : Call) (b : Bool) (xs : List Receipt) → AreWork w c u call xs → StaysBack u xs → (b ≡ true → AllByRecursion IsNoOperation xs) → Leaves u b xs
  own_work u call b [] work stays idle = record { back = b; is = refl }
  own_work u call true ((n, Logs (Forward v x)) ∷ xs) work stays idle = absurd (idle refl).0
  own_work u call false ((n, Logs (Forward v x)) ∷ xs) work stays idle =
      let later = own_work u call false xs work.1 stays.1 (λ e. absurd cc) in
      record { back = later.back; is = ap (λ o. fold (steady_by u) o xs) (either (v == u)) ∙ later.is }
  own_work u call b ((n, Logs (Back v x)) ∷ xs) (inl same, work) stays idle =
      let here : (v == u) ≡ true = eq-eqb v u same in
      let later = own_work u call true xs work stays.1 (λ e. stays.0 here) in
      record { back = later.back; is = ap (λ (k : Bool). fold (steady_by u) (Some (if k then true else b)) xs) here ∙ later.is }
  own_work u call b ((n, Logs (Back v x)) ∷ xs) (inr cleaning, work) stays idle = absurd (no_clean_up u n v (Logs (Back v x)) cleaning)
  own_work u call b ((n, Logs (Ended v)) ∷ xs) work stays idle = absurd (no_clean_up u n v (Logs (Ended v)) work.0)
  own_work u call b ((n, Logs (Done v k a)) ∷ xs) work stays idle = absurd work.0
  own_work u call b ((n, Logs (Commit v)) ∷ xs) work stays idle = absurd work.0
  own_work u call b (x ∷ xs) work stays idle = let later = own_work u call b xs work.1 stays.1 (λ e. (idle e).1) in record { back = later.back; is = later.is }

  own_answer : (u n : ℕ) (call : Call) (a : Answer) (work : List Receipt) → AreWork w c u call work → StaysBack u work → Calm u (work ++ (n, Logs (Done u call a)) ∷ [])
  own_answer u n call a work are stays =
      let left = own_work u call false work are stays (λ e. absurd cc) in
      fold-append (steady_by u) (Some false) work ((n, Logs (Done u call a)) ∷ [])
      ∙ (ap (λ o. fold (steady_by u) o ((n, Logs (Done u call a)) ∷ [])) left.is ∙ ap (λ (k : Bool). Some (if k then false else left.back)) (eq-eqb u u refl))

  -- ---- of another one
  same_test : (t v u : ℕ) → v ≡ u → (u == t) ≡ false → (v == t) ≡ false
  same_test t v u same e = ap (λ z. z == t) same ∙ e

  other_deed : (t u : ℕ) (call : Call) (x : Receipt) → (u == t) ≡ false → IsWork w c u call x → steady_by t (Some false) x ≡ Some false
  other_deed t u call (n, Logs (Forward v b)) e h = either (v == t)
  other_deed t u call (n, Logs (Back v b)) e (inl same) = ap (λ (k : Bool). Some (if k then true else false)) (same_test t v u same e)
  other_deed t u call (n, Logs (Back v b)) e (inr cleaning) = absurd (no_clean_up u n v (Logs (Back v b)) cleaning)
  other_deed t u call (n, Logs (Ended v)) e h = either (v == t)
  other_deed t u call (n, Logs (Done v k a)) e h = absurd h
  other_deed t u call (n, Logs (Commit v)) e h = either (v == t)
  other_deed t u call x e h = refl

  other_work : (t u : ℕ) (call : Call) (xs : List Receipt) → (u == t) ≡ false → AreWork w c u call xs → Calm t xs
  other_work t u call [] e h = refl
  other_work t u call (x ∷ xs) e h = ap (λ o. fold (steady_by t) o xs) (other_deed t u call x e h.0) ∙ other_work t u call xs e h.1

  answer_calm : (t u n : ℕ) (call : Call) (a : Answer) (work : List Receipt) → AreWork w c u call work → StaysBack u work → Calm t (work ++ (n, Logs (Done u call a)) ∷ [])
  answer_calm t u n call a work are stays = by_test (u == t) refl
    where
      by_test : (b : Bool) → (u == t) ≡ b → Calm t (work ++ (n, Logs (Done u call a)) ∷ [])
      by_test true e = subst (λ z. Calm z (work ++ (n, Logs (Done u call a)) ∷ [])) (eqb-true u t e) (own_answer u n call a work are stays)
      by_test false e = calm_append t work ((n, Logs (Done u call a)) ∷ []) (other_work t u call work e are) (ap (λ (k : Bool). Some (if k then false else false)) e)

  -- ---- behind a commit
  behind_deed : (t u : ℕ) (x : Receipt) → IsBehind w c u x → steady_by t (Some false) x ≡ Some false
  behind_deed t u (n, Logs (Forward v b)) h = absurd h
  behind_deed t u (n, Logs (Back v b)) h = absurd (no_clean_up u n v (Logs (Back v b)) h)
  behind_deed t u (n, Logs (Ended v)) h = either (v == t)
  behind_deed t u (n, Logs (Done v k a)) h = absurd h
  behind_deed t u (n, Logs (Commit v)) h = either (v == t)
  behind_deed t u x h = refl

  behind_calm : (t u : ℕ) (xs : List Receipt) → AreBehind w c u xs → Calm t xs
  behind_calm t u [] h = refl
  behind_calm t u (x ∷ xs) h = ap (λ o. fold (steady_by t) o xs) (behind_deed t u x h.0) ∙ behind_calm t u xs h.1

  -- ---- the steps
  move_calm : (t : ℕ) (x : Move) → HasCause w c x → list_all is_answered (said x) ≡ true → Calm t (own x)
  move_calm t (Begins u n rest) cause e = refl
  move_calm t (BeginsAgain u n tries h rest) cause e = refl
  move_calm t (Skips s act rest) cause e = refl
  move_calm t (Rests u act rest) cause e = refl
  move_calm t (IsArmed u tries cs d s count rest) cause e = refl
  move_calm t (Answers u tries cs d work n call a rest) cause e = answer_calm t u n call a work cause.0 cause.2
  move_calm t (Commits u tries cs d n behind rest) cause e = ap (λ o. fold (steady_by t) o behind) (either (u == t)) ∙ behind_calm t u behind cause.1
  move_calm t (GivesWay u tries cs d work call f back (TakenBack n) rest) cause e = absurd cc
  move_calm t (GivesWay u tries cs d work call f back (LeftBehind n z) rest) cause e = absurd cc
  move_calm t x cause e = absurd cc

  both_true : (a b : Bool) → (a && b) ≡ true → (a ≡ true) × (b ≡ true)
  both_true true true e = (refl, refl)
  both_true true false e = absurd cc
  both_true false b e = absurd cc

  all_split : (xs ys : List Said) → list_all is_answered (xs ++ ys) ≡ true → (list_all is_answered xs ≡ true) × (list_all is_answered ys ≡ true)
  all_split [] ys e = (refl, e)
  all_split (x ∷ xs) ys e =
      let one = both_true (is_answered x) (list_all is_answered (xs ++ ys)) e in
      let two = all_split xs ys one.1 in
      (ap (λ b. b && list_all is_answered xs) one.0 ∙ two.0, two.1)

  path_calm : (t : ℕ) (xs : List Move) (p q : Spot) → IsPath w c p xs q → list_all is_answered (said_by xs) ≡ true → Calm t (own_by xs)
  path_calm t [] p q path e = refl
  path_calm t (x ∷ xs) p q path e =
      let two = all_split (said x) (said_by xs) (subst (λ l. list_all is_answered l ≡ true) (flat_map-cons said x xs) e) in
      subst (Calm t) (sym (flat_map-cons own x xs)) (calm_append t (own x) (own_by xs) (move_calm t x path.1 two.0) (path_calm t xs (to x) q path.2 two.1))

pub own_is_steady : OwnIsSteady
own_is_steady w c acts lines did none tells served t =
    let so = tells.so_far in
    subst (Calm t) (sym (so.did_are ∙ append-nil (own_by so.moves)))
    (path_calm w c none t so.moves (start acts) _ so.path (ap (list_all is_answered) (sym so.lines_are) ∙ served))
