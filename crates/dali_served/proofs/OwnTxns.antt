-- Each answer and each commit of a client is one of the transaction that it is in.
--     InTxn o xs           so it is of these deeds, where it was in the transaction o before them
use Rattle.std.proofs.Common.{◌≡◌, ℕ, Bool, true, false, List, [], ◌∷◌, ◌++◌, Option, Some, None, refl, sym, ◌∙◌, subst, append-nil}
use Rattle.std.specs.Prelude.{if◌then◌else◌, ◌||◌, ◌+◌}
use Rattle.std.specs.List.{AllByRecursion}
use Rattle.std.proofs.lemmas.List.Concat.{flat_map-cons}
use Rattle.dali_lists.proofs.Members.{all_append, all_map}
use Rattle.dali_record.specs.declared.records.Call.{Call}
use Rattle.dali_record.specs.declared.records.Record.TheVariants.{Begin, Forward, Back, Solo, Done, Commit, Ended, AuditBegin, AuditClean, AuditFail}
use Rattle.dali_transcripts.specs.Words.{Act, Said, Why, StoppedBy, Full, Damaged, StoreFailed, UnderWay, closes, is_stop}
use Rattle.dali_transcripts.specs.World.{Logs, DiesOn, Claims, GivesBack, GetsLock, Yields, FindsDead, MovesAnchor, EndsCheckpoint, Meets, World}
use Rattle.dali_transcripts.specs.Moves.{Receipt, Place, Outside, Within, Again, LeftOut, Gone, Spot, Ending, TakenBack, LeftBehind, Move, Begins, BeginsAgain, IsRefusedBegin, Skips, Rests, Answers, IsRefusedCall, Dies, IsArmed, GivesWay, GivesUp, Commits, CommitFails, IsRefusedCommit, Aborts, IsRefusedAbort, Ends, StaysOpen, Pokes, PokesNothing, Audits, IsRefusedAudit, Checkpoints, FailsCheckpoint, IsRefusedCheckpoint, from, own, to, end_own, is_open, left, operations, audit_own, failure_own, spanned, refused_own}
use Rattle.dali_transcripts.specs.Causes.{IsCleanUp, IsAside, AreAside, IsAsking, AreAsking, IsWork, AreWork, IsTried, AreTried, IsBehind, AreBehind, IsCutAudit, IsCutBy, HasCause}
use Rattle.dali_transcripts.specs.Transcripts.{IsPath, IsTranscript, own_by, txn_after, txn_behind}

abbrev pub IsOf : Option ℕ → Receipt → Type 0
IsOf o (n, Logs (Done t c a)) = o ≡ Some t
IsOf o (n, Logs (Commit t)) = o ≡ Some t
IsOf o x = Unit {0}

abbrev pub InTxn : Option ℕ → List Receipt → Type 0
InTxn o [] = Unit {0}
InTxn o (x ∷ xs) = IsOf o x × InTxn (txn_after o x) xs

pub in_parts : (o : Option ℕ) (xs ys : List Receipt) → InTxn o (xs ++ ys) → InTxn o xs × InTxn (txn_behind o xs) ys
in_parts o [] ys h = (tt, h)
in_parts o (x ∷ xs) ys h = let later = in_parts (txn_after o x) xs ys h.1 in ((h.0, later.0), later.1)

in_append : (o : Option ℕ) (xs ys : List Receipt) → InTxn o xs → InTxn (txn_behind o xs) ys → InTxn o (xs ++ ys)
in_append o [] ys h g = g
in_append o (x ∷ xs) ys h g = (h.0, in_append (txn_after o x) xs ys h.1 g)

-- ---- a deed that begins, answers and commits nothing
abbrev IsPlain : Receipt → Type 0
IsPlain (n, Logs (Begin t)) = ⊥
IsPlain (n, Logs (Done t c a)) = ⊥
IsPlain (n, Logs (Commit t)) = ⊥
IsPlain x = Unit {0}

abbrev ArePlain : List Receipt → Type 0
ArePlain xs = AllByRecursion IsPlain xs

plain_in : (o : Option ℕ) (x : Receipt) → IsPlain x → IsOf o x × (txn_after o x ≡ o)
plain_in o (n, Logs (Begin t)) p = absurd p
plain_in o (n, Logs (Done t c a)) p = absurd p
plain_in o (n, Logs (Commit t)) p = absurd p
plain_in o x p = (tt, refl)

-- where the client is in a transaction, it is in this one
abbrev IsIn : Place → Option ℕ → Type 0
IsIn (Within t tries cs d s) o = o ≡ Some t
IsIn place o = Unit {0}

abbrev Owes : Option ℕ → List Receipt → Place → Type 0
Owes o xs place = InTxn o xs × IsIn place (txn_behind o xs)

front_owes : (o : Option ℕ) (xs ys : List Receipt) (place : Place) → ArePlain xs → Owes o ys place → Owes o (xs ++ ys) place
front_owes o [] ys place p h = h
front_owes o (x ∷ xs) ys place p h =
    let one = plain_in o x p.0 in
    let later : Owes (txn_after o x) (xs ++ ys) place = subst (λ q. Owes q (xs ++ ys) place) (sym one.1) (front_owes o xs ys place p.1 h) in ((one.0, later.0), later.1)

plain_owes : (o : Option ℕ) (xs : List Receipt) (place : Place) → ArePlain xs → IsIn place o → Owes o xs place
plain_owes o xs place p is = subst (λ l. Owes o l place) (append-nil xs) (front_owes o xs [] place p (tt, is))

module _ (w : World) (c : ℕ) where
  cleanup_plain : (t : ℕ) (x : Receipt) → IsCleanUp w c t x → IsPlain x
  cleanup_plain t (n, Logs (Back u b)) h = tt
  cleanup_plain t (n, Logs (Ended u)) h = tt
  cleanup_plain t (n, Claims u) h = tt
  cleanup_plain t (n, GivesBack u latched) h = tt
  cleanup_plain t x h = absurd h

  aside_plain : (t : ℕ) (x : Receipt) → IsAside w c t x → IsPlain x
  aside_plain t (n, Logs (Back u b)) h = tt
  aside_plain t x h = cleanup_plain t x h

  asking_plain : (t : ℕ) (call : Call) (x : Receipt) → IsAsking w c t call x → IsPlain x
  asking_plain t call (n, FindsDead f) h = tt
  asking_plain t call x h = aside_plain t x h

  work_plain : (t : ℕ) (call : Call) (x : Receipt) → IsWork w c t call x → IsPlain x
  work_plain t call (n, GetsLock u k m) h = tt
  work_plain t call (n, Logs (Forward u b)) h = tt
  work_plain t call x h = asking_plain t call x h

  tried_plain : (t : ℕ) (call : Call) (x : Receipt) → IsTried w c t call x → IsPlain x
  tried_plain t call (n, Meets why) h = tt
  tried_plain t call x h = work_plain t call x h

  behind_plain : (t : ℕ) (x : Receipt) → IsBehind w c t x → IsPlain x
  behind_plain t (n, Meets StoreFailed) h = tt
  behind_plain t (n, Logs (Solo u p b)) h = tt
  behind_plain t (n, Logs (Ended u)) h = tt
  behind_plain t x h = cleanup_plain t x h

  asides : (t : ℕ) (xs : List Receipt) → AreAside w c t xs → ArePlain xs
  asides t xs h = all_map (IsAside w c t) IsPlain (aside_plain t) xs h

  askings : (t : ℕ) (call : Call) (xs : List Receipt) → AreAsking w c t call xs → ArePlain xs
  askings t call xs h = all_map (IsAsking w c t call) IsPlain (asking_plain t call) xs h

  works : (t : ℕ) (call : Call) (xs : List Receipt) → AreWork w c t call xs → ArePlain xs
  works t call xs h = all_map (IsWork w c t call) IsPlain (work_plain t call) xs h

  tries_plain : (t : ℕ) (call : Call) (xs : List Receipt) → AreTried w c t call xs → ArePlain xs
  tries_plain t call xs h = all_map (IsTried w c t call) IsPlain (tried_plain t call) xs h

  behinds : (t : ℕ) (xs : List Receipt) → AreBehind w c t xs → ArePlain xs
  behinds t xs h = all_map (IsBehind w c t) IsPlain (behind_plain t) xs h

  cut_plain : (later : Bool) (xs : List Receipt) → IsCutAudit w later xs → ArePlain xs
  cut_plain later [] h = tt
  cut_plain later ((b, Logs AuditBegin) ∷ []) h = (tt, tt)
  cut_plain later ((b, Logs AuditBegin) ∷ (n, Logs (AuditClean a)) ∷ []) h = (tt, (tt, tt))
  cut_plain later ((b, Logs AuditBegin) ∷ (n, Logs (AuditFail a rs)) ∷ []) h = (tt, (tt, tt))
  cut_plain later xs h = absurd h

  none_plain : (xs : List Receipt) → xs ≡ [] → ArePlain xs
  none_plain xs e = subst ArePlain (sym e) tt

  cut_by_plain : (later : Bool) (why : Why) (xs : List Receipt) → IsCutBy w later why xs → ArePlain xs
  cut_by_plain later (StoppedBy z) xs h = cut_plain later xs h
  cut_by_plain true StoreFailed xs h = cut_plain true xs h
  cut_by_plain false StoreFailed xs h = cut_plain false xs h.0
  cut_by_plain later (Full end limit) xs h = none_plain xs h
  cut_by_plain later (Damaged r codeword found) xs h = none_plain xs h
  cut_by_plain later UnderWay xs h = none_plain xs h

  audit_plain : (b n : ℕ) (rs : List ℕ) → ArePlain (audit_own b n rs)
  audit_plain b n [] = (tt, (tt, tt))
  audit_plain b n (r ∷ rs) = (tt, (tt, tt))

  failure_plain : (failed : Option ℕ) → ArePlain (failure_own failed)
  failure_plain None = tt
  failure_plain (Some n) = (tt, tt)

  met_plain : (n : ℕ) (why : Why) (xs ys : List Receipt) → ArePlain xs → ArePlain ys → ArePlain (xs ++ (n, Meets why) ∷ ys)
  met_plain n why xs ys p q = all_append IsPlain xs ((n, Meets why) ∷ ys) p (tt, q)

  span_plain : (span : Option (ℕ × ℕ)) (xs : List Receipt) → ArePlain xs → ArePlain (spanned span xs)
  span_plain None xs p = p
  span_plain (Some (since, until)) xs p = (tt, all_append IsPlain xs ((until, EndsCheckpoint) ∷ []) p (tt, tt))

  late_plain : (late : Bool) (span : Option (ℕ × ℕ)) (xs : List Receipt) (n : ℕ) (why : Why) → ArePlain xs → ArePlain (refused_own late span xs (n, Meets why))
  late_plain false span xs n why p = span_plain span (xs ++ (n, Meets why) ∷ []) (met_plain n why xs [] p tt)
  late_plain true span xs n why p = met_plain n why (spanned span xs) [] (span_plain span xs p) tt

  end_plain : (t : ℕ) (end : Ending) → ArePlain (end_own t end)
  end_plain t (TakenBack n) = (tt, tt)
  end_plain t (LeftBehind n z) = (tt, tt)

  skipped_in : (s b : Bool) (o : Option ℕ) → IsIn (if b then Outside s else LeftOut s) o
  skipped_in s true o = tt
  skipped_in s false o = tt

  one_owes : (x : Move) (o : Option ℕ) → HasCause w c x → IsIn (from x).place o → Owes o (own x) (to x).place
  one_owes (Begins t n rest) o h i = ((tt, tt), refl)
  one_owes (BeginsAgain t n tries held rest) o h i = ((tt, tt), refl)
  one_owes (IsRefusedBegin place s n why rest) o h i = ((tt, tt), tt)
  one_owes (Skips s act rest) o h i = (tt, skipped_in s (closes act) o)
  one_owes (Rests t act rest) o h i = (tt, tt)
  one_owes (Answers t tries cs d xs n call a rest) o h i =
      front_owes o xs ((n, Logs (Done t call a)) ∷ []) (Within t tries cs (left d (operations t xs)) false) (works t call xs h.0) ((i, tt), i)
  one_owes (IsRefusedCall t tries cs d s xs n ys call why rest) o h i =
      plain_owes o (xs ++ (n, Meets why) ∷ ys) (Within t tries cs (left d (operations t xs)) (s || is_stop why)) (met_plain n why xs ys (tries_plain t call xs h.0) (asides t ys h.2)) i
  one_owes (Dies t tries cs d xs n r call rest) o h i =
      plain_owes o (xs ++ (n, DiesOn t r) ∷ []) (Gone t) (all_append IsPlain xs ((n, DiesOn t r) ∷ []) (works t call xs h.0) (tt, tt)) tt
  one_owes (IsArmed t tries cs d s count rest) o h i = (tt, i)
  one_owes (GivesWay t tries cs d xs call f ys end rest) o h i =
      plain_owes o (xs ++ (f.at, Yields f) ∷ ys ++ end_own t end) (Again (tries + 1) f.holder (is_open end))
      (all_append IsPlain (xs ++ (f.at, Yields f) ∷ ys) (end_own t end) (all_append IsPlain xs ((f.at, Yields f) ∷ ys) (askings t call xs h.0) (tt, asides t ys h.2)) (end_plain t end)) tt
  one_owes (GivesUp t tries cs d xs call f ys end rest) o h i =
      plain_owes o (xs ++ (f.at, Yields f) ∷ ys ++ end_own t end) (Outside (is_open end))
      (all_append IsPlain (xs ++ (f.at, Yields f) ∷ ys) (end_own t end) (all_append IsPlain xs ((f.at, Yields f) ∷ ys) (askings t call xs h.0) (tt, asides t ys h.2)) (end_plain t end)) tt
  one_owes (Commits t tries cs d n xs rest) o h i = let later = plain_owes None xs (Outside false) (behinds t xs h.1) tt in ((i, later.0), tt)
  one_owes (CommitFails t tries cs d n m why rest) o h i = ((i, (tt, tt)), tt)
  one_owes (IsRefusedCommit t tries cs d s n why rest) o h i = ((tt, tt), tt)
  one_owes (Aborts t tries cs d xs n rest) o h i =
      plain_owes o (xs ++ (n, Logs (Ended t)) ∷ []) (Outside false) (all_append IsPlain xs ((n, Logs (Ended t)) ∷ []) (asides t xs h.0) (tt, tt)) tt
  one_owes (IsRefusedAbort t tries cs d s xs n why rest) o h i = plain_owes o (xs ++ (n, Meets why) ∷ []) (Outside true) (met_plain n why xs [] (asides t xs h.0) tt) tt
  one_owes (Ends t tries cs d xs n) o h i =
      plain_owes o (xs ++ (n, Logs (Ended t)) ∷ []) (Outside false) (all_append IsPlain xs ((n, Logs (Ended t)) ∷ []) (asides t xs h.0) (tt, tt)) tt
  one_owes (StaysOpen t tries cs d s xs n z) o h i = plain_owes o (xs ++ (n, Meets (StoppedBy z)) ∷ []) (Outside true) (met_plain n (StoppedBy z) xs [] (asides t xs h.0) tt) tt
  one_owes (Pokes s n r word m rest) o h i = ((tt, tt), tt)
  one_owes (PokesNothing s r word m rest) o h i = (tt, tt)
  one_owes (Audits b n rs failed rest) o h i =
      plain_owes o (audit_own b n rs ++ failure_own failed) (Outside false) (all_append IsPlain (audit_own b n rs) (failure_own failed) (audit_plain b n rs) (failure_plain failed)) tt
  one_owes (IsRefusedAudit s xs n why rest) o h i = plain_owes o (xs ++ (n, Meets why) ∷ []) (Outside (s || is_stop why)) (met_plain n why xs [] (cut_by_plain false why xs h.0) tt) tt
  one_owes (Checkpoints since b n m until current rest) o h i =
      plain_owes o (spanned (Some (since, until)) (audit_own b n [] ++ (m, MovesAnchor current) ∷ [])) (Outside false)
      (span_plain (Some (since, until)) (audit_own b n [] ++ (m, MovesAnchor current) ∷ []) (all_append IsPlain (audit_own b n []) ((m, MovesAnchor current) ∷ []) (audit_plain b n []) (tt, tt))) tt
  one_owes (FailsCheckpoint since b n until r rs failed rest) o h i =
      plain_owes o (spanned (Some (since, until)) (audit_own b n (r ∷ rs) ++ failure_own failed)) (Outside false)
      (span_plain (Some (since, until)) (audit_own b n (r ∷ rs) ++ failure_own failed) (all_append IsPlain (audit_own b n (r ∷ rs)) (failure_own failed) (audit_plain b n (r ∷ rs)) (failure_plain failed))) tt
  one_owes (IsRefusedCheckpoint s span late xs n why rest) o h i =
      plain_owes o (refused_own late span xs (n, Meets why)) (Outside (s || is_stop why)) (late_plain late span xs n why (cut_by_plain true why xs h.0)) tt

  all_in : (p : Spot) (xs : List Move) (q : Spot) (o : Option ℕ) → IsIn p.place o → IsPath w c p xs q → InTxn o (own_by xs)
  all_in p [] q o i path = tt
  all_in p (x ∷ xs) q o i path =
      let owes = one_owes x o path.1 (subst (λ (s : Spot). IsIn s.place o) path.0 i) in
      subst (InTxn o) (sym (flat_map-cons own x xs)) (in_append o (own x) (own_by xs) owes.0 (all_in (to x) xs q (txn_behind o (own x)) owes.1 path.2))

  pub own_in : (acts : List Act) (lines : List Said) (did : List Receipt) → IsTranscript w c acts lines did → InTxn None did
  own_in acts lines did t =
      let so = t.so_far in
      subst (InTxn None) (sym (so.did_are ∙ append-nil (own_by so.moves))) (all_in _ so.moves _ None tt so.path)
