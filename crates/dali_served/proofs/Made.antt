-- The committed transactions of a log are those that its clients were told.
use Rattle.std.proofs.Common.{◌≡◌, ℕ, ◌==◌, true, false, List, [], ◌∷◌, length, map, Some, refl, sym, ◌∙◌, ap, subst}
use Rattle.std.specs.Prelude.{Contains, filter, filter_map, slice_get}
use Rattle.std.specs.List.{range_with_len}
use Rattle.std.proofs.lemmas.Bool.{eqb-true, eq-eqb}
use Rattle.dali_record.specs.declared.records.Call.{Call}
use Rattle.dali_record.specs.declared.records.Record.{Record}
use Rattle.dali_record.specs.declared.records.Record.TheVariants.{Format}
use Rattle.dali_record.specs.Log.{calls_of, committed}
use Rattle.dali_transcripts.specs.World.{Happening, logged_by}
use Rattle.dali_transcripts.specs.Moves.{Receipt}
use Rattle.dali_transcripts.specs.Transcripts.{owned}
use Rattle.dali_served.specs.Served.{HaveMade, Once}
use Rattle.dali_served.proofs.Lists.{map_same, filtered_in, in_filter, once_filter, index_in, all_numbered, indexed, owner_in, firsts, owned_by, by_owner}
use Rattle.dali_served.proofs.Marks.{marks, Marks}
use Rattle.dali_served.proofs.Owners.{commit_in, answer_in, commits, commits_logged, commits_owned, by_marks, no_commit, no_answer, answers_owned}
use Rattle.dali_served.proofs.Answers.{HaveRoom, asked, HasCalls, commits_count, no_answers, the_answers}

module _ (calls : ℕ → List (List Call)) (f n : ℕ) (F : List Happening) (marked : (c : ℕ) → Marks f (calls c) (marks (owned c n F))) (i h : ℕ) (once : Once (committed (logged_by F))) where
  abbrev K : List Record
  K = Format i h ∷ logged_by F

  abbrev ps : List (ℕ × ℕ)
  ps = commits F

  abbrev client : ℕ → ℕ
  client t = owner_in ps t

  abbrev mine : ℕ → List ℕ
  mine c = owned_by c ps

  abbrev place : ℕ → ℕ
  place t = index_in (mine (client t)) t

  abbrev told : ℕ → List Receipt
  told c = marks (owned c n F)

  once_all : Once (firsts ps)
  once_all = subst Once (commits_logged F) once

  mine_is : (c : ℕ) → mine c ≡ filter_map commit_in (told c)
  mine_is c = commits_owned c n F ∙ sym (by_marks commit_in no_commit (owned c n F))

  filtered : (c : ℕ) → filter (λ t. client t == c) (firsts ps) ≡ mine c
  filtered c = by_owner c ps once_all

  once_mine : (c : ℕ) → Once (mine c)
  once_mine c = subst Once (filtered c) (once_filter (λ t. client t == c) (firsts ps) once_all)

  in_mine : (t : ℕ) → Contains (firsts ps) t → Contains (mine (client t)) t
  in_mine t has = subst (λ l. Contains l t) (filtered (client t)) (filtered_in (λ u. client u == client t) (firsts ps) t has (eq-eqb (client t) (client t) refl))

  of_client : (c t : ℕ) → Contains (mine c) t → client t ≡ c
  of_client c t has = eqb-true (client t) c (in_filter (λ u. client u == c) (firsts ps) t (subst (λ l. Contains l t) (sym (filtered c)) has)).0

  placed : (t : ℕ) → Contains (firsts ps) t → slice_get (mine (client t)) (place t) ≡ Some t
  placed t has = indexed (mine (client t)) t (in_mine t has)

  in_order : (c : ℕ) → map place (filter (λ t. client t == c) (firsts ps)) ≡ range_with_len 0 (length (calls c))
  in_order c =
      ap (map place) (filtered c)
      ∙ (map_same place (index_in (mine c)) (mine c) (λ t has. ap (λ d. index_in (mine d) t) (of_client c t has))
      ∙ (all_numbered (mine c) (once_mine c) ∙ ap (range_with_len 0) (ap length (mine_is c) ∙ commits_count f (calls c) (told c) (marked c))))

  others : (t d : ℕ) → (d == client t) ≡ false → filter_map (answer_in t) (owned d n F) ≡ []
  others t d away =
      sym (by_marks (answer_in t) (no_answer t) (owned d n F))
      ∙ no_answers f t (calls d) (told d) (marked d) (λ has.
      let same : client t ≡ d = of_client d t (subst (λ l. Contains l t) (sym (mine_is d)) has) in
      let is : (d == client t) ≡ true = eq-eqb d (client t) (sym same) in
      absurd cc)

  answers_are : (t : ℕ) → calls_of t K ≡ filter_map (answer_in t) (told (client t))
  answers_are t = answers_owned t (client t) n F (others t) ∙ sym (by_marks (answer_in t) (no_answer t) (owned (client t) n F))

  has_calls : (t : ℕ) → Contains (firsts ps) t → HasCalls f (calls (client t)) (place t) t (told (client t))
  has_calls t has =
      the_answers f (calls (client t)) (told (client t)) (place t) t (marked (client t)) (subst Once (mine_is (client t)) (once_mine (client t)))
      (subst (λ (l : List ℕ). slice_get l (place t) ≡ Some t) (mine_is (client t)) (placed t has))

  among : (t : ℕ) → Contains (committed K) t → Contains (firsts ps) t
  among t has = subst (λ l. Contains l t) (commits_logged F) has

  pub have_made : HaveMade calls K (committed K)
  have_made = record {
    client = client;
    place = place;
    in_order = λ c. ap (λ l. map place (filter (λ t. client t == c) l)) (commits_logged F) ∙ in_order c;
    apart = λ t u has also same at.
        let one = placed t (among t has) in
        let two : slice_get (mine (client t)) (place t) ≡ Some u = ap (λ j. slice_get (mine (client t)) j) at ∙ (ap (λ c. slice_get (mine c) (place u)) same ∙ placed u (among u also)) in
        let both : Some t ≡ Some u = sym one ∙ two in
        cc;
    made = λ t has. (has_calls t (among t has)).are ∙ ap (λ l. Some (asked l)) (sym (answers_are t));
    room = λ t has. subst HaveRoom (sym (answers_are t)) (has_calls t (among t has)).room;
  }
