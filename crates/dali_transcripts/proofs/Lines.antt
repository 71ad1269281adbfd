-- Each line has the record or the cause that the table names.
use Rattle.std.proofs.Common.{ℕ, List, [], ◌∷◌, ◌++◌, Option, Some, None, refl, sym, subst, arith}
use Rattle.std.specs.Prelude.{Contains}
use Rattle.std.proofs.lemmas.List.Concat.{flat_map-cons}
use Rattle.std.proofs.lemmas.List.Elements.{Contains-append_left, Contains-append_right, Contains-push}
use Rattle.dali_lists.proofs.Members.{all_append, contains_first}
use Rattle.dali_record.specs.declared.records.Call.{Call}
use Rattle.dali_record.specs.declared.records.Record.TheVariants.{Ended}
use Rattle.dali_runs.specs.declared.refusals.Refusal.{Refusal}
use Rattle.dali_transcripts.specs.Words.{Act, Begins as BeginAct, Calls, Commits as CommitAct, Aborts as AbortAct, Audits as AuditAct, Checkpoints as CheckpointAct, Why, StoreFailed, CommitOk}
use Rattle.dali_transcripts.specs.World.{Logs, Yields, Meets, World}
use Rattle.dali_transcripts.specs.Moves.{Receipt, Spot, Ending, TakenBack, LeftBehind, Move, Begins, BeginsAgain, IsRefusedBegin, Skips, Rests, Answers, IsRefusedCall, Dies, IsArmed, GivesWay, GivesUp, Commits, CommitFails, IsRefusedCommit, Aborts, IsRefusedAbort, Ends, StaysOpen, Pokes, PokesNothing, Audits, IsRefusedAudit, Checkpoints, FailsCheckpoint, IsRefusedCheckpoint, said, own, to, end_line, end_own}
use Rattle.dali_transcripts.specs.Causes.{MetCause, IsEnd, HasCause}
use Rattle.dali_transcripts.specs.Transcripts.{IsPath, said_by, own_by}
use Rattle.dali_transcripts.specs.Table.{TellsRefused, Tells, AllTell}
use Rattle.dali_transcripts.specs.Laws.{LinesTell, OkIsFlushed}
use Rattle.dali_transcripts.proofs.Lists.{all_get}

Within : List Receipt → List Receipt → Type 0
Within xs ys = (y : Receipt) → Contains xs y → Contains ys y

module _ (w : World) (c : ℕ) (did : List Receipt) where
  refused : (n : ℕ) (act : Act) (o : Option ℕ) (why : Why) → MetCause w c n act o why → TellsRefused w c did act why
  refused n CommitAct o StoreFailed h = absurd h.cause
  refused n act o why h = (o, n, h)

  ended : (t : ℕ) (call : Call) (xs : List Receipt) (end : Ending) → IsEnd w c t call end → Within (xs ++ end_own t end) did → Tells w c did (end_line end)
  unfolding Within
  ended t call xs (TakenBack n) h sub = (t, n, sub _ (Contains-push xs (n, Logs (Ended t))), h)
  ended t call xs (LeftBehind n z) h sub = (Calls call, Some t, n, z, h)

  -- as the row has it
  busy_ended : (t : ℕ) (call : Call) (f : Refusal) (xs ys : List Receipt) (end : Ending) → IsEnd w c t call end → Within (xs ++ (f.at, Yields f) ∷ ys ++ end_own t end) did → Tells w c did (end_line end)
  busy_ended t call f xs ys end h sub = ended t call (xs ++ (f.at, Yields f) ∷ ys) end h sub

  one_tells : (x : Move) → HasCause w c x → Within (own x) did → AllTell w c did (said x)
  unfolding Within
  one_tells (Begins t n rest) h sub = ((n, sub _ (contains_first _ [])), tt)
  one_tells (BeginsAgain t n tries held rest) h sub = ((n, sub _ (contains_first _ [])), tt)
  one_tells (IsRefusedBegin place s n why rest) h sub = (refused n BeginAct None why h.1, tt)
  one_tells (Skips s act rest) h sub = tt
  one_tells (Rests t act rest) h sub = tt
  one_tells (Answers t tries cs d xs n call a rest) h sub = ((t, n, sub _ (Contains-push xs _)), tt)
  one_tells (IsRefusedCall t tries cs d s xs n ys call why rest) h sub = (refused n (Calls call) (Some t) why h.1.0, tt)
  one_tells (Dies t tries cs d xs n r call rest) h sub = ((t, r, n, sub _ (Contains-push xs _)), tt)
  one_tells (IsArmed t tries cs d s count rest) h sub = tt
  one_tells (GivesWay t tries cs d xs call f ys end rest) h sub = (busy_ended t call f xs ys end h.3 sub, tt)
  one_tells (GivesUp t tries cs d xs call f ys end rest) h sub = ((t, call, f, h.1, refl), (busy_ended t call f xs ys end h.3 sub, tt))
  one_tells (Commits t tries cs d n xs rest) h sub = ((t, n, sub _ (contains_first _ xs), h.0), tt)
  one_tells (CommitFails t tries cs d n m why rest) h sub = ((t, n, sub _ (contains_first _ ((m, Meets why) ∷ [])), h.0), tt)
  one_tells (IsRefusedCommit t tries cs d s n why rest) h sub = (refused n CommitAct (Some t) why h, tt)
  one_tells (Aborts t tries cs d xs n rest) h sub = ((t, n, sub _ (Contains-push xs _), h.1), tt)
  one_tells (IsRefusedAbort t tries cs d s xs n why rest) h sub = (refused n AbortAct (Some t) why h.1, tt)
  one_tells (Ends t tries cs d xs n) h sub = ((t, n, sub _ (Contains-push xs _), h.1), tt)
  one_tells (StaysOpen t tries cs d s xs n z) h sub = ((AbortAct, Some t, n, z, h.1), tt)
  one_tells (Pokes s n r word m rest) h sub = ((n, r, word, m, sub _ (contains_first _ [])), tt)
  one_tells (PokesNothing s r word m rest) h sub = (tt, tt)
  one_tells (Audits b n rs None rest) h sub = ((b, n, sub _ (1, omega arith, refl), h), tt)
  one_tells (Audits b n rs (Some m) rest) h sub = ((b, n, sub _ (1, omega arith, refl), h), tt)
  one_tells (IsRefusedAudit s xs n why rest) h sub = (refused n AuditAct None why h.1, tt)
  one_tells (Checkpoints since b n m until current rest) h sub = ((b, n, m, sub _ (2, omega arith, refl), h, sub _ (3, omega arith, refl)), tt)
  one_tells (FailsCheckpoint since b n until r rs None rest) h sub = ((b, n, sub _ (2, omega arith, refl), h), tt)
  one_tells (FailsCheckpoint since b n until r rs (Some m) rest) h sub = ((b, n, sub _ (2, omega arith, refl), h), tt)
  one_tells (IsRefusedCheckpoint s span late xs n why rest) h sub = (refused n CheckpointAct None why h.2.0, tt)

  all_tell : (p : Spot) (xs : List Move) (q : Spot) → IsPath w c p xs q → Within (own_by xs) did → AllTell w c did (said_by xs)
  unfolding Within
  all_tell p [] q path sub = tt
  all_tell p (x ∷ xs) q path sub =
      subst (λ l. AllTell w c did l) (sym (flat_map-cons said x xs))
      (all_append (Tells w c did) (said x) (said_by xs)
      (one_tells x path.1 (λ y h. sub y (subst (λ l. Contains l y) (sym (flat_map-cons own x xs)) (Contains-append_left (own x) (own_by xs) y h))))
      (all_tell (to x) xs q path.2 (λ y h. sub y (subst (λ l. Contains l y) (sym (flat_map-cons own x xs)) (Contains-append_right (own x) (own_by xs) y h)))))

pub lines_tell : LinesTell
unfolding Within
lines_tell w c acts lines did transcript =
    let so = transcript.so_far in
    subst (λ l. AllTell w c did l) (sym so.lines_are)
    (all_tell w c did _ so.moves _ so.path (λ y h. subst (λ l. Contains l y) (sym so.did_are) (Contains-append_left (own_by so.moves) [] y h)))

pub ok_is_flushed : OkIsFlushed
ok_is_flushed w c acts lines did transcript ok =
    let told = all_get (Tells w c did) lines CommitOk (lines_tell w c acts lines did transcript) ok in
    record { txn = told.0; number = told.1; own = told.2; flushed = told.3 }
