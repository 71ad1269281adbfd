-- The answers and commits among a client's marks.
use Rattle.std.proofs.Common.{◌≡◌, ℕ, zero, suc, ◌==◌, true, false, List, [], ◌∷◌, ◌++◌, length, map, Some, refl, sym, ◌∙◌, ap, subst}
use Rattle.std.specs.Prelude.{Contains, filter_map, slice_get}
use Rattle.std.specs.List.{AllByRecursion}
use Rattle.std.proofs.lemmas.Bool.{eq-eqb, ne_eqb}
use Rattle.std.proofs.lemmas.List.{append-nil}
use Rattle.std.proofs.lemmas.List.Elements.{filter_map-append}
use Rattle.dali_lists.proofs.Members.{contains_first, contains_more}
use Rattle.dali_record.specs.declared.records.Call.{Call}
use Rattle.dali_record.specs.declared.records.Answer.{Answer}
use Rattle.dali_record.specs.declared.records.Record.TheVariants.{Done, Commit}
use Rattle.dali_transcripts.specs.World.{Logs}
use Rattle.dali_transcripts.specs.Moves.{Receipt}
use Rattle.dali_served.specs.Served.{has_room, Once}
use Rattle.dali_served.proofs.Marks.{Dones, Marks}
use Rattle.dali_served.proofs.Owners.{commit_in, answer_in}

abbrev pub HaveRoom : List (Call × Answer) → Type 0
HaveRoom ps = AllByRecursion (λ (p : Call × Answer). has_room p.1 ≡ true) ps

abbrev pub asked : List (Call × Answer) → List Call
asked ps = map (λ (p : Call × Answer). p.0) ps

-- ---- of one transaction
no_commits : (t : ℕ) (cs : List Call) (xs : List Receipt) → Dones t cs xs → filter_map commit_in xs ≡ []
no_commits t [] xs d = ap (filter_map commit_in) d
no_commits t (c ∷ cs) xs d = ap (filter_map commit_in) d.5 ∙ no_commits t cs d.2 d.4

record HasAsked (t : ℕ) (cs : List Call) (xs : List Receipt) : Type 0 where
  are : asked (filter_map (answer_in t) xs) ≡ cs
  room : HaveRoom (filter_map (answer_in t) xs)

own_answers : (t : ℕ) (cs : List Call) (xs : List Receipt) → Dones t cs xs → HasAsked t cs xs
own_answers t [] xs d = subst (HasAsked t []) (sym d) (record { are = refl; room = tt })
own_answers t (c ∷ cs) xs d =
    let later = own_answers t cs d.2 d.4 in
    let own = eq-eqb t t refl in
    let here : filter_map (answer_in t) ((d.0, Logs (Done t c d.1)) ∷ d.2) ≡ (c, d.1) ∷ filter_map (answer_in t) d.2 = rw own refl in
    let all : filter_map (answer_in t) xs ≡ (c, d.1) ∷ filter_map (answer_in t) d.2 = ap (filter_map (answer_in t)) d.5 ∙ here in
    record { are = ap asked all ∙ ap (λ l. c ∷ l) later.are; room = subst HaveRoom (sym all) (d.3, later.room) }

other_answers : (t u : ℕ) (cs : List Call) (xs : List Receipt) → (t == u) ≡ false → Dones t cs xs → filter_map (answer_in u) xs ≡ []
other_answers t u [] xs e d = ap (filter_map (answer_in u)) d
other_answers t u (c ∷ cs) xs e d =
    let here : filter_map (answer_in u) ((d.0, Logs (Done t c d.1)) ∷ d.2) ≡ filter_map (answer_in u) d.2 = rw e refl in
    ap (filter_map (answer_in u)) d.5 ∙ (here ∙ other_answers t u cs d.2 e d.4)

-- ---- of all
module _ (f : ℕ) where
  commits_of : (cs : List Call) (css : List (List Call)) (xs : List Receipt) (m : Marks f (cs ∷ css) xs) → filter_map commit_in xs ≡ m.0 ∷ filter_map commit_in m.3
  commits_of cs css xs m =
      ap (filter_map commit_in) m.7
      ∙ (filter_map-append commit_in m.2 ((m.1, Logs (Commit m.0)) ∷ m.3) ∙ ap (λ l. l ++ m.0 ∷ filter_map commit_in m.3) (no_commits m.0 cs m.2 m.4))

  answers_of : (u : ℕ) (cs : List Call) (css : List (List Call)) (xs : List Receipt) (m : Marks f (cs ∷ css) xs) → filter_map (answer_in u) xs ≡ filter_map (answer_in u) m.2 ++ filter_map (answer_in u) m.3
  answers_of u cs css xs m = ap (filter_map (answer_in u)) m.7 ∙ filter_map-append (answer_in u) m.2 ((m.1, Logs (Commit m.0)) ∷ m.3)

  pub commits_count : (css : List (List Call)) (xs : List Receipt) → Marks f css xs → length (filter_map commit_in xs) ≡ length css
  commits_count [] xs m = ap (λ l. length (filter_map commit_in l)) m
  commits_count (cs ∷ css) xs m = ap length (commits_of cs css xs m) ∙ ap suc (commits_count css m.3 m.6)

  pub no_answers : (u : ℕ) (css : List (List Call)) (xs : List Receipt) → Marks f css xs → (Contains (filter_map commit_in xs) u → ⊥) → filter_map (answer_in u) xs ≡ []
  no_answers u [] xs m none = ap (filter_map (answer_in u)) m
  no_answers u (cs ∷ css) xs m none =
      let all = commits_of cs css xs m in
      let not_here : (m.0 == u) ≡ false = ne_eqb m.0 u (λ e. none (subst (λ l. Contains l u) (sym all) (subst (Contains (m.0 ∷ filter_map commit_in m.3)) e (contains_first m.0 (filter_map commit_in m.3))))) in
      answers_of u cs css xs m
      ∙ (ap (λ l. l ++ filter_map (answer_in u) m.3) (other_answers m.0 u cs m.2 not_here m.4)
      ∙ no_answers u css m.3 m.6 (λ h. none (subst (λ l. Contains l u) (sym all) (contains_more m.0 u (filter_map commit_in m.3) h))))

  got_in : (xs : List ℕ) (i t : ℕ) → slice_get xs i ≡ Some t → Contains xs t
  got_in [] i t e = absurd cc
  got_in (x ∷ xs) zero t e = let same : x ≡ t = cc in subst (Contains (x ∷ xs)) same (contains_first x xs)
  got_in (x ∷ xs) (suc i) t e = contains_more x t xs (got_in xs i t e)

  pub record HasCalls (css : List (List Call)) (i t : ℕ) (xs : List Receipt) : Type 0 where
    pub are : slice_get css i ≡ Some (asked (filter_map (answer_in t) xs))
    pub room : HaveRoom (filter_map (answer_in t) xs)

  pub the_answers : (css : List (List Call)) (xs : List Receipt) (i t : ℕ) → Marks f css xs → Once (filter_map commit_in xs) → slice_get (filter_map commit_in xs) i ≡ Some t → HasCalls css i t xs
  the_answers [] xs i t m once at =
      let none : filter_map commit_in xs ≡ [] = ap (filter_map commit_in) m in
      let never : slice_get [] i ≡ Some t = ap (λ (l : List ℕ). slice_get l i) (sym none) ∙ at in
      absurd cc
  the_answers (cs ∷ css) xs zero t m once at =
      let all = commits_of cs css xs m in
      let now : Once (m.0 ∷ filter_map commit_in m.3) = subst Once all once in
      let first : Some m.0 ≡ Some t = ap (λ (l : List ℕ). slice_get l 0) (sym all) ∙ at in
      let same : m.0 ≡ t = cc in
      let own = own_answers m.0 cs m.2 m.4 in
      let told : filter_map (answer_in m.0) xs ≡ filter_map (answer_in m.0) m.2 =
      answers_of m.0 cs css xs m ∙ (ap (λ l. filter_map (answer_in m.0) m.2 ++ l) (no_answers m.0 css m.3 m.6 now.0) ∙ append-nil (filter_map (answer_in m.0) m.2)) in
      let here : HasCalls (cs ∷ css) 0 m.0 xs = record { are = ap (λ (l : List Call). Some l) (sym (ap asked told ∙ own.are)); room = subst HaveRoom (sym told) own.room } in
      subst (λ u. HasCalls (cs ∷ css) 0 u xs) same here
  the_answers (cs ∷ css) xs (suc i) t m once at =
      let all = commits_of cs css xs m in
      let now : Once (m.0 ∷ filter_map commit_in m.3) = subst Once all once in
      let behind : slice_get (filter_map commit_in m.3) i ≡ Some t = ap (λ (l : List ℕ). slice_get l (suc i)) (sym all) ∙ at in
      let later = the_answers css m.3 i t m.6 now.1 behind in
      let other : (m.0 == t) ≡ false = ne_eqb m.0 t (λ e. now.0 (subst (Contains (filter_map commit_in m.3)) (sym e) (got_in (filter_map commit_in m.3) i t behind))) in
      let told : filter_map (answer_in t) xs ≡ filter_map (answer_in t) m.3 =
      answers_of t cs css xs m ∙ ap (λ l. l ++ filter_map (answer_in t) m.3) (other_answers m.0 t cs m.2 other m.4) in
      record { are = later.are ∙ ap (λ l. Some (asked l)) (sym told); room = subst HaveRoom (sym told) later.room }
