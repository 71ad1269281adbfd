-- The client whose checkpoint is under way when the round is cut ends it: its step stays one that is under way.
use Rattle.std.proofs.Common.{◌≡◌, ℕ, Bool, true, false, List, [], ◌∷◌, ◌++◌, length, fold, Option, Some, None, refl, ap, sym, ◌∙◌, ◌⊎◌, inl, inr}
use Rattle.std.specs.List.{AllByRecursion}
use Rattle.std.proofs.lemmas.List.Sums.{fold-append}
use Rattle.dali_record.specs.declared.records.Call.{Call}
use Rattle.dali_record.specs.declared.records.Record.TheVariants.{AuditBegin}
use Rattle.dali_transcripts.specs.Words.{Act, Calls, Aborts as AbortAct, Audits as AuditAct, Checkpoints as CheckpointAct}
use Rattle.dali_transcripts.specs.World.{Logs, GivesBack, Yields, StartsCheckpoint, EndsCheckpoint, Meets, World, under_way}
use Rattle.dali_transcripts.specs.Moves.{Receipt, Place, Outside, Within, own}
use Rattle.dali_transcripts.specs.Causes.{IsAside, IsAsking, IsTried, IsCutAside, IsCutWork, IsUnanswered, IsTurnedBack, IsGivingWay, IsBegun, MayBeOver, IsStarted, AreUnfinished}
use Rattle.dali_transcripts.specs.Transcripts.{IsUnderWay, own_by, deeds_of}
use Rattle.dali_transcripts.specs.Rounds.{Standing, Stands}
use Rattle.dali_turns.proofs.Spans.{marked, mine_too, aside_plain, asking_plain, work_plain, tried_plain, one_closed, path_closed}

-- the deeds of its step have begun a checkpoint, and not ended it
marked_pending : (w : World) (a : Standing) → Stands w a → under_way w.happened ≡ Some a.client → fold marked false a.pending ≡ true
marked_pending w a so is =
    let mine : fold marked false (deeds_of w a.client) ≡ true = mine_too a.client (length w.before) w.happened None false (λ e. absurd (cc)) is in
    let closed : fold marked false (own_by so.moves) ≡ false = path_closed w a.client _ so.moves _ so.path in
    sym (ap (λ b. fold marked b a.pending) closed) ∙ (sym (fold-append marked false (own_by so.moves) a.pending) ∙ (ap (fold marked false) (sym so.did_are) ∙ mine))

module _ (w : World) (c : ℕ) where
  cut_plain : (t : ℕ) (x : Receipt) → IsCutAside w c t x → (b : Bool) → marked b x ≡ b
  cut_plain t (n, GivesBack u latched) h b = refl
  cut_plain t x h b = aside_plain w c t x h b

  cut_work_plain : (t : ℕ) (call : Call) (x : Receipt) → IsCutWork w c t call x → (b : Bool) → marked b x ≡ b
  cut_work_plain t call (n, GivesBack u latched) h b = refl
  cut_work_plain t call x h b = work_plain w c t call x h b

  all_plain : (P : Receipt → Type 0) → ((x : Receipt) → P x → (b : Bool) → marked b x ≡ b) → (xs : List Receipt) → AllByRecursion P xs → (b : Bool) → fold marked b xs ≡ b
  all_plain P f [] h b = refl
  all_plain P f (x ∷ xs) h b = ap (λ a. fold marked a xs) (f x h.0 b) ∙ all_plain P f xs h.1 b

  never : (P : Type 0) (xs : List Receipt) → ((b : Bool) → fold marked b xs ≡ b) → fold marked false xs ≡ true → P
  never P xs plain e = let no_way : false ≡ true = sym (plain false) ∙ e in absurd (cc)

  -- what stands before a deed that is no checkpoint's, and what behind it
  three_plain : (work back : List Receipt) (x : Receipt) (xs : List Receipt) → xs ≡ work ++ x ∷ back → ((b : Bool) → fold marked b work ≡ b) → ((b : Bool) → marked b x ≡ b) → ((b : Bool) → fold marked b back ≡ b) → (b : Bool) → fold marked b xs ≡ b
  three_plain work back x xs is front here behind b =
      ap (fold marked b) is ∙ (fold-append marked b work (x ∷ back) ∙ (ap (λ a. fold marked (marked a x) back) (front b) ∙ (ap (λ a. fold marked a back) (here b) ∙ behind b)))

  call_plain : (t : ℕ) (d : Option ℕ) (call : Call) (xs : List Receipt) → IsUnanswered w c t d call xs ⊎ (IsTurnedBack w c t d call xs ⊎ IsGivingWay w c t call xs) → (b : Bool) → fold marked b xs ≡ b
  call_plain t d call xs (inl h) b = all_plain (IsCutWork w c t call) (cut_work_plain t call) xs h.work b
  call_plain t d call xs (inr (inl h)) b =
      three_plain h.work h.back (h.at, Meets h.why) xs h.is (all_plain (IsTried w c t call) (tried_plain w c t call) h.work h.tried) (λ z. refl) (all_plain (IsCutAside w c t) (cut_plain t) h.back h.aside) b
  call_plain t d call xs (inr (inr h)) b =
      three_plain h.work h.back (h.refusal.at, Yields h.refusal) xs h.is (all_plain (IsAsking w c t call) (asking_plain w c t call) h.work h.asking) (λ z. refl) (all_plain (IsAside w c t) (aside_plain w c t) h.back h.aside) b

  none_marked : (P : Type 0) (xs : List Receipt) → xs ≡ [] → fold marked false xs ≡ true → P
  none_marked P [] none e = absurd (cc)
  none_marked P (x ∷ xs) none e = absurd (cc)

  audit_never : (P : Type 0) (xs : List Receipt) → IsBegun xs → fold marked false xs ≡ true → P
  audit_never P [] h e = absurd (cc)
  audit_never P ((b, Logs AuditBegin) ∷ []) h e = absurd (cc)
  audit_never P xs h e = absurd h

  over_then : (n : ℕ) (xs : List Receipt) → MayBeOver xs → fold marked true xs ≡ true → MayBeOver (xs ++ (n, EndsCheckpoint) ∷ [])
  over_then n [] h e = tt
  over_then n ((m, EndsCheckpoint) ∷ []) h e = absurd (cc)
  over_then n xs h e = absurd h

  started_then : (n : ℕ) (xs : List Receipt) → IsStarted xs → fold marked false xs ≡ true → IsStarted (xs ++ (n, EndsCheckpoint) ∷ [])
  started_then n [] h e = absurd (cc)
  started_then n ((since, StartsCheckpoint) ∷ []) h e = tt
  started_then n ((since, StartsCheckpoint) ∷ (b, Logs AuditBegin) ∷ xs) h e = over_then n xs h e
  started_then n ((since, StartsCheckpoint) ∷ (m, EndsCheckpoint) ∷ []) h e = absurd (cc)
  started_then n xs h e = absurd h

  unfinished_ends : (place : Place) (rest : List Act) (n : ℕ) (xs : List Receipt) → AreUnfinished w c place rest xs → fold marked false xs ≡ true → AreUnfinished w c place rest (xs ++ (n, EndsCheckpoint) ∷ [])
  unfinished_ends (Within t tries cs d s) (Calls call ∷ rest) n xs h e = never _ xs (call_plain t d call xs h) e
  unfinished_ends (Within t tries cs d s) (AbortAct ∷ rest) n xs h e = never _ xs (all_plain (IsAside w c t) (aside_plain w c t) xs h) e
  unfinished_ends (Within t tries cs d s) [] n xs h e = never _ xs (all_plain (IsAside w c t) (aside_plain w c t) xs h) e
  unfinished_ends (Outside s) (AuditAct ∷ rest) n xs h e = audit_never _ xs h e
  unfinished_ends (Outside s) (CheckpointAct ∷ rest) n xs h e = started_then n xs h e
  unfinished_ends place rest n xs h e = none_marked _ xs h e

-- it does one deed more
pub ends_under_way : (w : World) (a : Standing) (n : ℕ) → Stands w a → under_way w.happened ≡ Some a.client → IsUnderWay w a.client a.spot a.pending [] → IsUnderWay w a.client a.spot (a.pending ++ (n, EndsCheckpoint) ∷ []) []
ends_under_way w a n so is (inl h) = inl (refl, unfinished_ends w a.client a.spot.place a.spot.rest n a.pending h.1 (marked_pending w a so is))
ends_under_way w a n so is (inr h) =
    let closed : fold marked false (own h.move) ≡ false = one_closed w a.client h.move h.cause in
    let no_way : false ≡ true = sym closed ∙ (ap (fold marked false) (sym h.own_is) ∙ marked_pending w a so is) in
    absurd (cc)
