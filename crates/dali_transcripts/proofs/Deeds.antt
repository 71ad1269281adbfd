-- Each deed that is no record, and that a line tells, is told by one line, in order.
use Rattle.std.proofs.Common.{◌≡◌, ℕ, Bool, false, true, List, [], ◌∷◌, ◌++◌, Option, Some, None, refl, ap, sym, ◌∙◌}
use Rattle.std.specs.Prelude.{filter_map}
use Rattle.std.proofs.lemmas.List.Concat.{flat_map-cons}
use Rattle.std.proofs.lemmas.List.Elements.{filter_map-append}
use Rattle.std.proofs.lemmas.List.{append-nil}
use Rattle.dali_record.specs.declared.records.Call.{Call}
use Rattle.dali_record.specs.declared.records.Record.TheVariants.{Done, Ended, AuditBegin, AuditClean, AuditFail}
use Rattle.dali_runs.specs.declared.refusals.Refusal.{Refusal}
use Rattle.dali_transcripts.specs.Words.{Calls, Aborts as AbortAct, Audits as AuditAct, Checkpoints as CheckpointAct, Why, StoppedBy, Full, Damaged, StoreFailed, UnderWay, Said, Answered, AbortOk, Aborted, LeftOpen, Died, Busy, Refused}
use Rattle.dali_transcripts.specs.World.{Logs, DiesOn, Claims, GivesBack, GetsLock, Yields, FindsDead, EndsCheckpoint, Meets, World}
use Rattle.dali_transcripts.specs.Moves.{Receipt, Spot, Ending, TakenBack, LeftBehind, Move, Answers, IsRefusedCall, Dies, GivesWay, GivesUp, Commits, CommitFails, Aborts, IsRefusedAbort, Ends, StaysOpen, Audits, IsRefusedAudit, FailsCheckpoint, IsRefusedCheckpoint, said, own, to, end_line, end_own, spanned, refused_own}
use Rattle.dali_transcripts.specs.Causes.{IsCleanUp, IsAside, AreAside, IsAsking, AreAsking, IsWork, AreWork, IsTried, AreTried, IsBehind, AreBehind, IsCutAudit, IsCutBy, HasCause}
use Rattle.dali_transcripts.specs.Transcripts.{IsPath, said_by, own_by}
use Rattle.dali_transcripts.specs.Laws.{deed_told, line_of_deed, DeedsAreTold}

told : List Receipt → List Said
told xs = filter_map line_of_deed xs

-- nothing is told of these
Silent : List Receipt → Type 0
Silent xs = told xs ≡ []

one_silent : (x : Receipt) (xs : List Receipt) → line_of_deed x ≡ None → Silent xs → Silent (x ∷ xs)
unfolding Silent told
one_silent x xs e rest = rw e rest

silent_append : (xs ys : List Receipt) → Silent xs → told (xs ++ ys) ≡ told ys
unfolding Silent told
silent_append xs ys e = filter_map-append line_of_deed xs ys ∙ ap (λ l. l ++ filter_map line_of_deed ys) e

module _ (w : World) (c : ℕ) where
  clean_up_silent : (t : ℕ) (x : Receipt) → IsCleanUp w c t x → line_of_deed x ≡ None
  clean_up_silent t (n, Logs y) h = refl
  clean_up_silent t (n, Claims u) h = refl
  clean_up_silent t (n, GivesBack u latched) h = refl
  clean_up_silent t x h = absurd h

  aside_silent : (t : ℕ) (x : Receipt) → IsAside w c t x → line_of_deed x ≡ None
  aside_silent t (n, Logs y) h = refl
  aside_silent t x h = clean_up_silent t x h

  asides_silent : (t : ℕ) (xs : List Receipt) → AreAside w c t xs → Silent xs
  unfolding Silent told
  asides_silent t [] h = refl
  asides_silent t (x ∷ xs) h = one_silent x xs (aside_silent t x h.0) (asides_silent t xs h.1)

  asking_silent : (t : ℕ) (call : Call) (x : Receipt) → IsAsking w c t call x → line_of_deed x ≡ None
  asking_silent t call (n, FindsDead f) h = refl
  asking_silent t call x h = aside_silent t x h

  askings_silent : (t : ℕ) (call : Call) (xs : List Receipt) → AreAsking w c t call xs → Silent xs
  unfolding Silent told
  askings_silent t call [] h = refl
  askings_silent t call (x ∷ xs) h = one_silent x xs (asking_silent t call x h.0) (askings_silent t call xs h.1)

  work_silent : (t : ℕ) (call : Call) (x : Receipt) → IsWork w c t call x → line_of_deed x ≡ None
  work_silent t call (n, Logs y) h = refl
  work_silent t call (n, GetsLock u k m) h = refl
  work_silent t call x h = asking_silent t call x h

  works_silent : (t : ℕ) (call : Call) (xs : List Receipt) → AreWork w c t call xs → Silent xs
  unfolding Silent told
  works_silent t call [] h = refl
  works_silent t call (x ∷ xs) h = one_silent x xs (work_silent t call x h.0) (works_silent t call xs h.1)

  tried_silent : (t : ℕ) (call : Call) (x : Receipt) → IsTried w c t call x → line_of_deed x ≡ None
  tried_silent t call (n, Meets why) h = refl
  tried_silent t call x h = work_silent t call x h

  all_tried_silent : (t : ℕ) (call : Call) (xs : List Receipt) → AreTried w c t call xs → Silent xs
  unfolding Silent told
  all_tried_silent t call [] h = refl
  all_tried_silent t call (x ∷ xs) h = one_silent x xs (tried_silent t call x h.0) (all_tried_silent t call xs h.1)

  behind_silent : (t : ℕ) (x : Receipt) → IsBehind w c t x → line_of_deed x ≡ None
  behind_silent t (n, Logs y) h = refl
  behind_silent t (n, Meets StoreFailed) h = refl
  behind_silent t x h = clean_up_silent t x h

  behinds_silent : (t : ℕ) (xs : List Receipt) → AreBehind w c t xs → Silent xs
  unfolding Silent told
  behinds_silent t [] h = refl
  behinds_silent t (x ∷ xs) h = one_silent x xs (behind_silent t x h.0) (behinds_silent t xs h.1)

  cut_silent : (later : Bool) (xs : List Receipt) → IsCutAudit w later xs → Silent xs
  unfolding Silent told
  cut_silent later [] h = refl
  cut_silent later ((b, Logs AuditBegin) ∷ []) h = refl
  cut_silent later ((b, Logs AuditBegin) ∷ (n, Logs (AuditClean a)) ∷ []) h = refl
  cut_silent later ((b, Logs AuditBegin) ∷ (n, Logs (AuditFail a rs)) ∷ []) h = refl
  cut_silent later xs h = absurd h

  none_silent : (xs : List Receipt) → xs ≡ [] → Silent xs
  unfolding Silent told
  none_silent xs e = rw e refl

  cut_by_silent : (later : Bool) (why : Why) (xs : List Receipt) → IsCutBy w later why xs → Silent xs
  cut_by_silent later (StoppedBy z) xs h = cut_silent later xs h
  cut_by_silent true StoreFailed xs h = cut_silent true xs h
  cut_by_silent false StoreFailed xs h = cut_silent false xs h.0
  cut_by_silent later (Full end limit) xs h = none_silent xs h
  cut_by_silent later (Damaged r codeword found) xs h = none_silent xs h
  cut_by_silent later UnderWay xs h = none_silent xs h

  Agrees : List Said → List Receipt → Type 0
  Agrees lines xs = filter_map deed_told lines ≡ told xs

  -- a line that tells none of these, of deeds of which none is told
  quietly : (line : Said) (xs : List Receipt) → deed_told line ≡ None → Silent xs → Agrees (line ∷ []) xs
  unfolding Agrees Silent
  quietly line xs e silent = rw (e, silent) refl

  behind_quiet : (xs ys : List Receipt) (lines : List Said) → Silent xs → Agrees lines ys → Agrees lines (xs ++ ys)
  unfolding Agrees
  behind_quiet xs ys lines silent agrees = agrees ∙ sym (silent_append xs ys silent)

  span_silent : (span : Option (ℕ × ℕ)) (xs : List Receipt) → Silent xs → Silent (spanned span xs)
  unfolding Silent told
  span_silent None xs e = e
  span_silent (Some (since, until)) xs e = silent_append xs ((until, EndsCheckpoint) ∷ []) e

  gave_way : (t : ℕ) (end : Ending) → Agrees (end_line end ∷ []) (end_own t end)
  unfolding Agrees told
  gave_way t (TakenBack n) = refl
  gave_way t (LeftBehind n z) = refl

  gave_up : (t h : ℕ) (end : Ending) → Agrees (Busy h ∷ end_line end ∷ []) (end_own t end)
  unfolding Agrees told
  gave_up t h (TakenBack n) = refl
  gave_up t h (LeftBehind n z) = refl

  busy_agrees : (t : ℕ) (call : Call) (xs ys zs : List Receipt) (f : Refusal) (lines : List Said) → AreAsking w c t call xs → AreAside w c t ys → Agrees lines zs → Agrees lines (xs ++ (f.at, Yields f) ∷ ys ++ zs)
  unfolding Silent told
  busy_agrees t call xs ys zs f lines work back agrees =
      let tried : Silent (xs ++ (f.at, Yields f) ∷ ys) = silent_append xs ((f.at, Yields f) ∷ ys) (askings_silent t call xs work) ∙ asides_silent t ys back in
      behind_quiet (xs ++ (f.at, Yields f) ∷ ys) zs lines tried agrees

  met : (xs : List Receipt) (n : ℕ) (why : Why) → Silent xs → Silent (xs ++ (n, Meets why) ∷ [])
  unfolding Silent told
  met xs n why e = silent_append xs ((n, Meets why) ∷ []) e

  late_silent : (late : Bool) (span : Option (ℕ × ℕ)) (xs : List Receipt) (n : ℕ) (why : Why) → Silent xs → Silent (refused_own late span xs (n, Meets why))
  late_silent false span xs n why e = span_silent span (xs ++ (n, Meets why) ∷ []) (met xs n why e)
  late_silent true span xs n why e = met (spanned span xs) n why (span_silent span xs e)

  met_back : (xs : List Receipt) (n : ℕ) (why : Why) (ys : List Receipt) → Silent xs → Silent ys → Silent (xs ++ (n, Meets why) ∷ ys)
  unfolding Silent told
  met_back xs n why ys work back = silent_append xs ((n, Meets why) ∷ ys) work ∙ back

  one_agrees : (x : Move) → HasCause w c x → Agrees (said x) (own x)
  unfolding Agrees told Silent
  one_agrees (IsRefusedCall t tries cs d s xs n ys call why rest) h = quietly (Refused (Calls call) why) (xs ++ (n, Meets why) ∷ ys) refl (met_back xs n why ys (all_tried_silent t call xs h.0) (asides_silent t ys h.2))
  one_agrees (Answers t tries cs d xs n call a rest) h = behind_quiet xs ((n, Logs (Done t call a)) ∷ []) (Answered call a ∷ []) (works_silent t call xs h.0) refl
  one_agrees (Dies t tries cs d xs n r call rest) h = behind_quiet xs ((n, DiesOn t r) ∷ []) (Died ∷ []) (works_silent t call xs h.0) refl
  one_agrees (GivesWay t tries cs d xs call f ys end rest) h = busy_agrees t call xs ys (end_own t end) f (end_line end ∷ []) h.0 h.2 (gave_way t end)
  one_agrees (GivesUp t tries cs d xs call f ys end rest) h = busy_agrees t call xs ys (end_own t end) f (Busy f.holder ∷ end_line end ∷ []) h.0 h.2 (gave_up t f.holder end)
  one_agrees (Commits t tries cs d n xs rest) h = sym (behinds_silent t xs h.1)
  one_agrees (CommitFails t tries cs d n m why rest) h = refl
  one_agrees (Aborts t tries cs d xs n rest) h = behind_quiet xs ((n, Logs (Ended t)) ∷ []) (AbortOk ∷ []) (asides_silent t xs h.0) refl
  one_agrees (IsRefusedAbort t tries cs d s xs n why rest) h = quietly (Refused AbortAct why) (xs ++ (n, Meets why) ∷ []) refl (met xs n why (asides_silent t xs h.0))
  one_agrees (Ends t tries cs d xs n) h = behind_quiet xs ((n, Logs (Ended t)) ∷ []) (Aborted ∷ []) (asides_silent t xs h.0) refl
  one_agrees (StaysOpen t tries cs d s xs n z) h = quietly LeftOpen (xs ++ (n, Meets (StoppedBy z)) ∷ []) refl (met xs n (StoppedBy z) (asides_silent t xs h.0))
  one_agrees (Audits b n [] None rest) h = refl
  one_agrees (Audits b n [] (Some m) rest) h = refl
  one_agrees (Audits b n (r ∷ rs) None rest) h = refl
  one_agrees (Audits b n (r ∷ rs) (Some m) rest) h = refl
  one_agrees (FailsCheckpoint since b n until r rs None rest) h = refl
  one_agrees (FailsCheckpoint since b n until r rs (Some m) rest) h = refl
  one_agrees (IsRefusedAudit s xs n why rest) h = quietly (Refused AuditAct why) (xs ++ (n, Meets why) ∷ []) refl (met xs n why (cut_by_silent false why xs h.0))
  one_agrees (IsRefusedCheckpoint s span late xs n why rest) h = quietly (Refused CheckpointAct why) (refused_own late span xs (n, Meets why)) refl (late_silent late span xs n why (cut_by_silent true why xs h.0))
  one_agrees x h = refl

  all_agree : (p : Spot) (xs : List Move) (q : Spot) → IsPath w c p xs q → Agrees (said_by xs) (own_by xs)
  unfolding Agrees told
  all_agree p [] q path = refl
  all_agree p (x ∷ xs) q path =
      ap (λ l. filter_map deed_told l) (flat_map-cons said x xs)
      ∙ (filter_map-append deed_told (said x) (said_by xs)
      ∙ (ap (λ l. l ++ filter_map deed_told (said_by xs)) (one_agrees x path.1)
      ∙ (ap (λ l. told (own x) ++ l) (all_agree (to x) xs q path.2)
      ∙ (sym (filter_map-append line_of_deed (own x) (own_by xs))
      ∙ ap (λ l. filter_map line_of_deed l) (sym (flat_map-cons own x xs))))))

pub deeds_are_told : DeedsAreTold
unfolding Agrees told
deeds_are_told w c acts lines did transcript =
    let so = transcript.so_far in
    ap (λ l. filter_map deed_told l) so.lines_are
    ∙ (all_agree w c _ so.moves _ so.path ∙ ap (λ l. filter_map line_of_deed l) (sym (so.did_are ∙ append-nil (own_by so.moves))))
