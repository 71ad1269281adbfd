-- The second worked round.
use Rattle.std.proofs.Common.{◌≡◌, ◌≢◌, ℕ, zero, suc, ◌<◌, true, false, [], ◌∷◌, Some, None, refl, ap, sym, subst, ◌∙◌, arith}
use Rattle.std.specs.Prelude.{fold, length, slice_get, take, Contains, ◌↔◌}
use Rattle.dali_runs.proofs.CountsLemmas.Lists.{some_same}
use Rattle.dali_record.specs.declared.records.Call.TheVariants.{Get}
use Rattle.dali_record.specs.declared.records.Record.TheVariants.{Begin, Commit, AuditFail}
use Rattle.dali_region.specs.State.{RegionState, loaded, poked}
use Rattle.dali_runs.specs.declared.causes.Cause.TheVariants.{Damage}
use Rattle.dali_transcripts.specs.Words.{Begins as BeginAct, Calls, Commits as CommitAct, Aborts as AbortAct, Audits as AuditAct, Checkpoints as CheckpointAct, StoppedBy, Full}
use Rattle.dali_transcripts.specs.World.{Logs, log_of, log_at, state_step, lock_step, stray_after}
use Rattle.dali_transcripts.specs.Moves.{Outside, LeftOut, Begins, IsRefusedBegin, Skips, Aborts, Pokes, Audits, IsRefusedCheckpoint, at}
use Rattle.dali_transcripts.specs.Causes.{IsFull}
use Rattle.dali_transcripts.specs.Transcripts.{IsSoFar, deeds_of, AreTranscripts}
use Rattle.dali_transcripts.specs.Rounds.{PokesTell, VerdictsTell, IsAtRest, IsBetween}
use Rattle.dali_transcripts.specs.Worked.{index_words, heap_words}
use Rattle.dali_transcripts.specs.Corners.{happened, told_1, told_2, blocks, lines_1, lines_2, world, CornersRun}
use Rattle.dali_transcripts.proofs.Verdicts.{begin_is, ends_at, found_is}
use Rattle.dali_transcripts.proofs.Ends.{grew_from, no_row, none_claimed, none_failed, neither_live, strays_same, whole_round, ended_together, by_one}

so_1 : IsSoFar world 1 told_1 lines_1 (deeds_of world 1) [] (at (Outside true) [])
so_1 = record {
  moves =
      Pokes false 2 1 9 1 (AuditAct ∷ BeginAct ∷ Calls (Get 5) ∷ CommitAct ∷ CheckpointAct ∷ [])
      ∷ Audits 3 4 (1 ∷ []) None (BeginAct ∷ Calls (Get 5) ∷ CommitAct ∷ CheckpointAct ∷ [])
      ∷ IsRefusedBegin (Outside false) false 5 (StoppedBy (Damage 1)) (Calls (Get 5) ∷ CommitAct ∷ CheckpointAct ∷ [])
      ∷ Skips true (Calls (Get 5)) (CommitAct ∷ CheckpointAct ∷ [])
      ∷ Skips true CommitAct (CheckpointAct ∷ [])
      ∷ IsRefusedCheckpoint true None false [] 5 (StoppedBy (Damage 1)) []
      ∷ [];
  path = (
    refl,
    omega arith,
    (
      refl,
      omega arith,
      (
        refl,
        (refl, record { met = record { place = 6; there = refl; number = refl }; cause = (tt, refl) }, tt),
        (refl, tt, (refl, tt, (refl, (tt, refl, (record { met = record { place = 7; there = refl; number = refl }; cause = (tt, refl) }, refl)), refl))),
      ),
    ),
  );
  lines_are = refl;
  did_are = refl;
}

none_committed : (k : ℕ) → k < 2 → slice_get (log_of world) k ≡ Some (Commit 1) → ⊥
none_committed zero h e = absurd (cc)
none_committed (suc zero) h e = absurd (cc)
none_committed (suc (suc k)) h e = absurd (omega (arith, h))

full_2 : IsFull world 4 BeginAct None 29 30
full_2 = record { limit_is = refl; end_is = refl; refused = Begin 2; next = (2, refl, refl); spelled = omega arith; passes = omega arith; runs = refl }

so_2 : IsSoFar world 2 told_2 lines_2 (deeds_of world 2) [] (at (LeftOut false) [])
so_2 = record {
  moves =
      Begins 1 1 (AbortAct ∷ BeginAct ∷ Calls (Get 5) ∷ [])
      ∷ Aborts 1 0 told_2 None [] 2 (BeginAct ∷ Calls (Get 5) ∷ [])
      ∷ IsRefusedBegin (Outside false) false 4 (Full 29 30) (Calls (Get 5) ∷ [])
      ∷ Skips false (Calls (Get 5)) []
      ∷ [];
  path = (
    refl,
    tt,
    (
      refl,
      (tt, (refl, none_committed)),
      (
        refl,
        (
          refl,
          record {
            met = record { place = 4; there = refl; number = refl };
            cause = full_2;
          },
          tt,
        ),
        (refl, tt, refl),
      ),
    ),
  );
  lines_are = refl;
  did_are = refl;
}

transcripts : AreTranscripts true world blocks (lines_2 ∷ lines_1 ∷ [])
transcripts = record {
  owners = refl;
  each = (record { place = LeftOut false; over = tt; so_far = so_2 }, (record { place = Outside true; over = tt; so_far = so_1 }, tt));
}

strays : PokesTell world
strays zero g h e f = let a = some_same e in let b = some_same f in strays_same happened 0 (loaded index_words) _ g h a b (refl, refl)
strays (suc zero) g h e f = let a = some_same e in let b = some_same f in strays_same happened 1 (loaded heap_words) _ g h a b (refl, refl)
strays (suc (suc r)) g h e f = absurd (cc)

-- the audit names region 1 alone
Names : ℕ → ℕ → Type 0
Names r stray = Contains {X = ℕ} (1 ∷ []) r ↔ (stray ≢ 0)

not_zero : Contains {X = ℕ} (1 ∷ []) 0 → ⊥
not_zero (zero, below, e) = let no : 1 ≡ 0 = e in absurd (omega (arith, no))
not_zero (suc k, below, e) = absurd (omega (arith, below))

at_0 : Names 0 0
unfolding Names
at_0 = (λ has. absurd (not_zero has), λ other. absurd (other refl))

at_1 : Names 1 1
unfolding Names
at_1 = (λ has e. let no : 1 ≡ 0 = e in absurd (omega (arith, no)), λ other. (0, omega arith, refl))

names : (r : ℕ) (g : RegionState) → slice_get world.old.regions r ≡ Some g → Names r (stray_after r g.stray (take 5 happened))
unfolding Names
names zero g e = subst (λ (z : RegionState). Names 0 (stray_after 0 z.stray (take 5 happened))) (some_same e) at_0
names (suc zero) g e = subst (λ (z : RegionState). Names 1 (stray_after 1 z.stray (take 5 happened))) (some_same e) at_1
names (suc (suc r)) g e = absurd (cc)

verdict : VerdictsTell world
unfolding Names
verdict i b c found e r g was =
    let here : i ≡ 5 = ends_at 5 happened i b c found refl refl e in
    let named : found ≡ 1 ∷ [] = found_is happened 5 b c found (Logs (AuditFail 3 (1 ∷ [])), 1) refl (ap (λ k. slice_get happened k) (sym here) ∙ e) in
    let begun : b ≡ 3 = begin_is happened 5 b c found (Logs (AuditFail 3 (1 ∷ [])), 1) refl (ap (λ k. slice_get happened k) (sym here) ∙ e) in
    let size : length (log_at world 5) ≡ 4 = refl in
    rw (here, named, begun) (5, omega arith, omega (arith, size), names r g was)

rests : IsAtRest world.core
rests = record { stopped = λ e. let no : false ≡ true = e in absurd (cc); holds = neither_live (loaded index_words) (poked 9 1 (loaded heap_words)) refl refl; flag = refl; free = none_claimed world.core.system refl }

between : IsBetween world.core
between = record { rests = rests; idle = λ runs t h. absurd (no_row world.core.system refl t h) }

pub corners_run : CornersRun
unfolding transcripts so_1 so_2
corners_run = record {
  lines = lines_2 ∷ lines_1 ∷ [];
  receipts = (1 ∷ 2 ∷ []) ∷ (3 ∷ 4 ∷ []) ∷ [];
  round =
      whole_round world _ _ _ _ refl (grew_from world refl refl refl refl refl (omega arith)) refl transcripts refl
      (refl, (tt, (refl, (refl, ((BeginAct, None, full_2), (refl, ((BeginAct, None, (tt, refl)), ((BeginAct, None, (tt, refl)), tt))))))))
      (ended_together world tt refl strays verdict refl refl refl
      (by_one (λ t. fold (state_step t) None happened ≡ None) refl (λ t apart. rw apart refl))
      (λ t k. by_one (λ u. fold (lock_step u k) None happened ≡ None) refl (λ u apart. rw apart refl) t)
      (none_failed world refl refl refl refl refl) refl refl refl)
      rests between;
  printed_is = refl;
}
