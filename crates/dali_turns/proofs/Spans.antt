-- A client between two steps has no checkpoint under way.
use Rattle.std.proofs.Common.{◌≡◌, ℕ, Bool, true, false, List, [], ◌∷◌, ◌++◌, length, fold, Option, Some, None, refl, ap, sym, subst, ◌∙◌}
use Rattle.std.specs.Prelude.{◌==◌}
use Rattle.std.proofs.lemmas.List.{append-nil}
use Rattle.std.proofs.lemmas.List.Concat.{flat_map-cons}
use Rattle.std.proofs.lemmas.List.Sums.{fold-append}
use Rattle.dali_runs.proofs.CountsLemmas.Lists.{some_same, self}
use Rattle.dali_record.specs.declared.records.Call.{Call}
use Rattle.dali_record.specs.declared.records.Record.TheVariants.{Commit, Done, AuditBegin, AuditClean, AuditFail}
use Rattle.dali_runs.specs.declared.refusals.Refusal.{Refusal}
use Rattle.dali_transcripts.specs.Words.{Why, StoppedBy, Full, Damaged, StoreFailed, UnderWay}
use Rattle.dali_transcripts.specs.World.{Deed, Logs, DiesOn, Claims, GivesBack, GetsLock, Yields, FindsDead, StartsCheckpoint, EndsCheckpoint, Meets, Happening, World, span_step, under_way}
use Rattle.dali_transcripts.specs.Moves.{Receipt, Spot, Ending, TakenBack, LeftBehind, Move, Answers, IsRefusedCall, Dies, GivesWay, GivesUp, Commits, Aborts, IsRefusedAbort, Ends, StaysOpen, Audits, IsRefusedAudit, FailsCheckpoint, IsRefusedCheckpoint, own, to, end_own, spanned, refused_own}
use Rattle.dali_transcripts.specs.Causes.{IsCleanUp, IsAside, AreAside, IsAsking, AreAsking, IsWork, AreWork, IsTried, AreTried, IsBehind, AreBehind, IsCutAudit, IsCutBy, HasCause}
use Rattle.dali_transcripts.specs.Transcripts.{IsPath, own_by, owned_one, owned, count_with, deeds_of}
use Rattle.dali_transcripts.specs.Rounds.{Standing, Stands}

-- whether a checkpoint of the client is under way behind this deed of it
abbrev pub mark : Bool → Deed → Bool
mark b StartsCheckpoint = true
mark b EndsCheckpoint = false
mark b x = b

abbrev pub marked : Bool → Receipt → Bool
marked b x = mark b x.1

-- ---- among all that happened
if_mine : Bool → Bool → Deed → Bool
if_mine true b x = mark b x
if_mine false b x = b

one_owned : (same : Bool) (b : Bool) (n : ℕ) (x : Deed) (xs : List Receipt) → fold marked b (owned_one same (n, x) xs) ≡ fold marked (if_mine same b x) xs
unfolding if_mine
one_owned true b n x xs = refl
one_owned false b n x xs = refl

span_goes : (c d : ℕ) (x : Deed) (o : Option ℕ) (b same : Bool) → (d == c) ≡ same → (o ≡ Some c → b ≡ true) → span_step o (x, d) ≡ Some c → if_mine same b x ≡ true
unfolding if_mine
span_goes c d StartsCheckpoint o b true e h is = refl
span_goes c d StartsCheckpoint o b false e h is = let one : (d == c) ≡ true = ap (λ n. n == c) (some_same is) ∙ self c in let never : true ≡ false = sym one ∙ e in absurd (cc)
span_goes c d EndsCheckpoint o b same e h is = let never : None ≡ Some c = is in absurd (cc)
span_goes c d _ o b true e h is = h is
span_goes c d _ o b false e h is = h is

pub mine_too : (c n : ℕ) (xs : List Happening) (o : Option ℕ) (b : Bool) → (o ≡ Some c → b ≡ true) → fold span_step o xs ≡ Some c → fold marked b (owned c n xs) ≡ true
mine_too c n [] o b h is = h is
mine_too c n (x ∷ xs) o b h is =
    one_owned (x.1 == c) b n x.0 (owned c (count_with n x.0) xs)
    ∙ mine_too c (count_with n x.0) xs (span_step o (x.0, x.1)) (if_mine (x.1 == c) b x.0) (λ e. span_goes c x.1 x.0 o b (x.1 == c) refl h e) is

-- ---- in a step
Plain : List Receipt → Type 0
Plain xs = (b : Bool) → fold marked b xs ≡ b

plain_none : Plain []
unfolding Plain
plain_none b = refl

plain_one : (x : Receipt) (xs : List Receipt) → ((b : Bool) → marked b x ≡ b) → Plain xs → Plain (x ∷ xs)
unfolding Plain
plain_one x xs e rest b = ap (λ a. fold marked a xs) (e b) ∙ rest b

plain_append : (xs ys : List Receipt) → Plain xs → Plain ys → Plain (xs ++ ys)
unfolding Plain
plain_append xs ys f g b = fold-append marked b xs ys ∙ (ap (λ a. fold marked a ys) (f b) ∙ g b)

module _ (w : World) (c : ℕ) where
  clean_up_plain : (t : ℕ) (x : Receipt) → IsCleanUp w c t x → (b : Bool) → marked b x ≡ b
  clean_up_plain t (n, Logs y) h b = refl
  clean_up_plain t (n, Claims u) h b = refl
  clean_up_plain t (n, GivesBack u latched) h b = refl
  clean_up_plain t x h b = absurd h

  pub aside_plain : (t : ℕ) (x : Receipt) → IsAside w c t x → (b : Bool) → marked b x ≡ b
  aside_plain t (n, Logs y) h b = refl
  aside_plain t x h b = clean_up_plain t x h b

  asides_plain : (t : ℕ) (xs : List Receipt) → AreAside w c t xs → Plain xs
  asides_plain t [] h = plain_none
  asides_plain t (x ∷ xs) h = plain_one x xs (aside_plain t x h.0) (asides_plain t xs h.1)

  pub asking_plain : (t : ℕ) (call : Call) (x : Receipt) → IsAsking w c t call x → (b : Bool) → marked b x ≡ b
  asking_plain t call (n, FindsDead f) h b = refl
  asking_plain t call x h b = aside_plain t x h b

  askings_plain : (t : ℕ) (call : Call) (xs : List Receipt) → AreAsking w c t call xs → Plain xs
  askings_plain t call [] h = plain_none
  askings_plain t call (x ∷ xs) h = plain_one x xs (asking_plain t call x h.0) (askings_plain t call xs h.1)

  pub work_plain : (t : ℕ) (call : Call) (x : Receipt) → IsWork w c t call x → (b : Bool) → marked b x ≡ b
  work_plain t call (n, Logs y) h b = refl
  work_plain t call (n, GetsLock u k m) h b = refl
  work_plain t call x h b = asking_plain t call x h b

  works_plain : (t : ℕ) (call : Call) (xs : List Receipt) → AreWork w c t call xs → Plain xs
  works_plain t call [] h = plain_none
  works_plain t call (x ∷ xs) h = plain_one x xs (work_plain t call x h.0) (works_plain t call xs h.1)

  pub tried_plain : (t : ℕ) (call : Call) (x : Receipt) → IsTried w c t call x → (b : Bool) → marked b x ≡ b
  tried_plain t call (n, Meets why) h b = refl
  tried_plain t call x h b = work_plain t call x h b

  all_tried_plain : (t : ℕ) (call : Call) (xs : List Receipt) → AreTried w c t call xs → Plain xs
  all_tried_plain t call [] h = plain_none
  all_tried_plain t call (x ∷ xs) h = plain_one x xs (tried_plain t call x h.0) (all_tried_plain t call xs h.1)

  pub behind_plain : (t : ℕ) (x : Receipt) → IsBehind w c t x → (b : Bool) → marked b x ≡ b
  behind_plain t (n, Meets StoreFailed) h b = refl
  behind_plain t (n, Logs y) h b = refl
  behind_plain t x h b = clean_up_plain t x h b

  behinds_plain : (t : ℕ) (xs : List Receipt) → AreBehind w c t xs → Plain xs
  behinds_plain t [] h = plain_none
  behinds_plain t (x ∷ xs) h = plain_one x xs (behind_plain t x h.0) (behinds_plain t xs h.1)

  cut_plain : (later : Bool) (xs : List Receipt) → IsCutAudit w later xs → Plain xs
  unfolding Plain
  cut_plain later [] h b = refl
  cut_plain later ((n, Logs AuditBegin) ∷ []) h b = refl
  cut_plain later ((n, Logs AuditBegin) ∷ (m, Logs (AuditClean a)) ∷ []) h b = refl
  cut_plain later ((n, Logs AuditBegin) ∷ (m, Logs (AuditFail a rs)) ∷ []) h b = refl
  cut_plain later xs h b = absurd h

  none_plain : (xs : List Receipt) → xs ≡ [] → Plain xs
  none_plain xs e = subst Plain (sym e) plain_none

  cut_by_plain : (later : Bool) (why : Why) (xs : List Receipt) → IsCutBy w later why xs → Plain xs
  cut_by_plain later (StoppedBy z) xs h = cut_plain later xs h
  cut_by_plain true StoreFailed xs h = cut_plain true xs h
  cut_by_plain false StoreFailed xs h = cut_plain false xs h.0
  cut_by_plain later (Full end limit) xs h = none_plain xs h
  cut_by_plain later (Damaged r codeword found) xs h = none_plain xs h
  cut_by_plain later UnderWay xs h = none_plain xs h

  end_plain : (t : ℕ) (end : Ending) → Plain (end_own t end)
  unfolding Plain
  end_plain t (TakenBack n) b = refl
  end_plain t (LeftBehind n z) b = refl

  met_plain : (n : ℕ) (why : Why) → Plain ((n, Meets why) ∷ [])
  unfolding Plain
  met_plain n why b = refl

  -- it ends what it starts
  abbrev pub Closed : List Receipt → Type 0
  Closed xs = fold marked false xs ≡ false

  plain_closed : (xs : List Receipt) → Plain xs → Closed xs
  unfolding Plain
  plain_closed xs f = f false

  span_closed : (span : Option (ℕ × ℕ)) (xs : List Receipt) → Plain xs → Closed (spanned span xs)
  unfolding Plain
  span_closed None xs f = f false
  span_closed (Some (since, until)) xs f = fold-append marked true xs ((until, EndsCheckpoint) ∷ [])

  closed_append : (xs ys : List Receipt) → Closed xs → Closed ys → Closed (xs ++ ys)
  closed_append xs ys f g = fold-append marked false xs ys ∙ (ap (λ a. fold marked a ys) f ∙ g)

  refused_closed : (late : Bool) (span : Option (ℕ × ℕ)) (xs : List Receipt) (n : ℕ) (why : Why) → Plain xs → Closed (refused_own late span xs (n, Meets why))
  refused_closed false span xs n why f = span_closed span (xs ++ (n, Meets why) ∷ []) (plain_append xs ((n, Meets why) ∷ []) f (met_plain n why))
  refused_closed true span xs n why f = closed_append (spanned span xs) ((n, Meets why) ∷ []) (span_closed span xs f) (plain_closed ((n, Meets why) ∷ []) (met_plain n why))

  busy_plain : (t : ℕ) (call : Call) (xs ys zs : List Receipt) (f : Refusal) → AreAsking w c t call xs → AreAside w c t ys → Plain zs → Plain (xs ++ (f.at, Yields f) ∷ ys ++ zs)
  busy_plain t call xs ys zs f work back end = plain_append (xs ++ (f.at, Yields f) ∷ ys) zs (plain_append xs ((f.at, Yields f) ∷ ys) (askings_plain t call xs work) (plain_one (f.at, Yields f) ys (λ b. refl) (asides_plain t ys back))) end

  pub one_closed : (x : Move) → HasCause w c x → Closed (own x)
  one_closed (IsRefusedCall t tries cs d s xs n ys call why rest) h = plain_closed (xs ++ (n, Meets why) ∷ ys) (plain_append xs ((n, Meets why) ∷ ys) (all_tried_plain t call xs h.0) (plain_one (n, Meets why) ys (λ b. refl) (asides_plain t ys h.2)))
  one_closed (Answers t tries cs d xs n call a rest) h = plain_closed (xs ++ (n, Logs (Done t call a)) ∷ []) (plain_append xs ((n, Logs (Done t call a)) ∷ []) (works_plain t call xs h.0) (plain_one (n, Logs (Done t call a)) [] (λ b. refl) plain_none))
  one_closed (Dies t tries cs d xs n r call rest) h = plain_closed (xs ++ (n, DiesOn t r) ∷ []) (plain_append xs ((n, DiesOn t r) ∷ []) (works_plain t call xs h.0) (plain_one (n, DiesOn t r) [] (λ b. refl) plain_none))
  one_closed (GivesWay t tries cs d xs call f ys end rest) h = plain_closed (xs ++ (f.at, Yields f) ∷ ys ++ end_own t end) (busy_plain t call xs ys (end_own t end) f h.0 h.2 (end_plain t end))
  one_closed (GivesUp t tries cs d xs call f ys end rest) h = plain_closed (xs ++ (f.at, Yields f) ∷ ys ++ end_own t end) (busy_plain t call xs ys (end_own t end) f h.0 h.2 (end_plain t end))
  one_closed (Commits t tries cs d n xs rest) h = plain_closed ((n, Logs (Commit t)) ∷ xs) (plain_one (n, Logs (Commit t)) xs (λ b. refl) (behinds_plain t xs h.1))
  one_closed (Aborts t tries cs d xs n rest) h = plain_closed _ (plain_append xs _ (asides_plain t xs h.0) (plain_one _ [] (λ b. refl) plain_none))
  one_closed (IsRefusedAbort t tries cs d s xs n why rest) h = plain_closed (xs ++ (n, Meets why) ∷ []) (plain_append xs ((n, Meets why) ∷ []) (asides_plain t xs h.0) (met_plain n why))
  one_closed (Ends t tries cs d xs n) h = plain_closed _ (plain_append xs _ (asides_plain t xs h.0) (plain_one _ [] (λ b. refl) plain_none))
  one_closed (StaysOpen t tries cs d s xs n z) h = plain_closed (xs ++ (n, Meets (StoppedBy z)) ∷ []) (plain_append xs ((n, Meets (StoppedBy z)) ∷ []) (asides_plain t xs h.0) (met_plain n (StoppedBy z)))
  one_closed (Audits n m [] None rest) h = refl
  one_closed (Audits n m [] (Some i) rest) h = refl
  one_closed (Audits n m (r ∷ rs) None rest) h = refl
  one_closed (Audits n m (r ∷ rs) (Some i) rest) h = refl
  one_closed (FailsCheckpoint since n m until r rs None rest) h = refl
  one_closed (FailsCheckpoint since n m until r rs (Some i) rest) h = refl
  one_closed (IsRefusedAudit s xs n why rest) h = plain_closed (xs ++ (n, Meets why) ∷ []) (plain_append xs ((n, Meets why) ∷ []) (cut_by_plain false why xs h.0) (met_plain n why))
  one_closed (IsRefusedCheckpoint s span late xs n why rest) h = refused_closed late span xs n why (cut_by_plain true why xs h.0)
  one_closed x h = refl

  pub path_closed : (p : Spot) (xs : List Move) (q : Spot) → IsPath w c p xs q → Closed (own_by xs)
  path_closed p [] q path = refl
  path_closed p (x ∷ xs) q path = ap (fold marked false) (flat_map-cons own x xs) ∙ closed_append (own x) (own_by xs) (one_closed x path.1) (path_closed (to x) xs q path.2)

pub none_under_way : (w : World) (a : Standing) → Stands w a → a.pending ≡ [] → under_way w.happened ≡ Some a.client → ⊥
none_under_way w a so none is =
    let mine : fold marked false (deeds_of w a.client) ≡ true = mine_too a.client (length w.before) w.happened None false (λ e. absurd (cc)) is in
    let deeds : deeds_of w a.client ≡ own_by so.moves = so.did_are ∙ (ap (λ l. own_by so.moves ++ l) none ∙ append-nil (own_by so.moves)) in
    let closed : fold marked false (own_by so.moves) ≡ false = path_closed w a.client _ so.moves _ so.path in
    let never : true ≡ false = sym mine ∙ (ap (fold marked false) deeds ∙ closed) in
    absurd (cc)
