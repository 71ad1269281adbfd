-- The third worked round.
use Rattle.std.proofs.Common.{◌≡◌, ◌≢◌, ℕ, zero, suc, true, false, [], ◌∷◌, Some, None, refl, ap, sym, subst, ◌∙◌, inl, arith}
use Rattle.std.specs.Prelude.{◌++◌, if◌then◌else◌, ◌==◌, fold, length, slice_get, take, Contains, ◌↔◌}
use Rattle.std.specs.FinMap.{empty, insert, get-empty}
use Rattle.std.specs.Ordering.{nat_cmp}
use Rattle.dali_att.specs.Table.{fresh_row}
use Rattle.dali_att.proofs.Changes.{get-added}
use Rattle.std.proofs.lemmas.List.{append-nil}
use Rattle.dali_runs.proofs.CountsLemmas.Lists.{some_same}
use Rattle.dali_record.specs.declared.records.Record.TheVariants.{Forward, Ended, AuditClean}
use Rattle.dali_region.specs.State.{RegionState, loaded, poked}
use Rattle.dali_runs.specs.declared.causes.Cause.TheVariants.{Store}
use Rattle.dali_runs.specs.State.{row_of, state_in, state_of}
use Rattle.dali_transcripts.specs.Words.{Begins as BeginAct, Calls, Commits as CommitAct, Aborts as AbortAct, Checkpoints as CheckpointAct, StoppedBy, Damaged, StoreFailed, UnderWay}
use Rattle.dali_locks.specs.declared.mode.Mode.TheVariants.{Exclusive}
use Rattle.dali_transcripts.specs.World.{Logs, DiesOn, GetsLock, Meets, log_at, state_step, lock_step, is_claimed_in, stray_after}
use Rattle.dali_transcripts.specs.Moves.{Outside, Begins, IsRefusedBegin, Skips, IsRefusedCall, Commits, CommitFails, StaysOpen, Pokes, Checkpoints, IsRefusedCheckpoint, at}
use Rattle.dali_transcripts.specs.Causes.{IsDamaged, IsUnderWay, IsGrantable}
use Rattle.dali_transcripts.specs.Transcripts.{IsSoFar, deeds_of, AreTranscripts}
use Rattle.dali_transcripts.specs.Rounds.{PokesTell, VerdictsTell, FaultsTell, PrecheckTells, IsAtRest, IsBetween}
use Rattle.dali_transcripts.specs.Worked.{index_words, heap_words, look, put, insert_a}
use Rattle.dali_transcripts.specs.Faults.{happened, told_1, told_2, told_3, blocks, lines_1, lines_2, lines_3, committed, world, FaultsRun}
use Rattle.dali_record.specs.Epochs.{last_epoch}
use Rattle.dali_transcripts.proofs.Looks.{looks_now}
use Rattle.dali_transcripts.proofs.Locked.{keeps_locks}
use Rattle.dali_transcripts.proofs.Worked.{puts_a}
use Rattle.dali_transcripts.proofs.Verdicts.{begin_is, ends_at, found_is, is_death, is_operation, never, only_at, region_in}
use Rattle.dali_transcripts.proofs.Ends.{fails, grew_from, no_state, all_freed, none_in_the_way, neither_live, strays_same, above_three, whole_round, by_one}

damaged_1 : IsDamaged world 12 1 insert_a 1 1 0
damaged_1 = record { compares = refl; next = put 97 0; on_region = refl; goes_on = record { of_call = record { words = heap_words; are_words = (refl, omega arith); of_call = refl; is_made = puts_a }; allowed = refl; locked = (tt, keeps_locks 1 (last_epoch (log_at world 12 ++ Forward 1 (put 97 0) ∷ [])).records refl) }; old = loaded heap_words; was = refl; stray = refl; differ = refl }

under_way_1 : IsUnderWay world 1 3
under_way_1 = record { other = 2; differs = refl; started = refl }

so_1 : IsSoFar world 1 told_1 lines_1 (deeds_of world 1) [] (at (Outside false) [])
so_1 = record {
  moves =
      Pokes false 3 1 9 1 (BeginAct ∷ Calls insert_a ∷ CommitAct ∷ [])
      ∷ Begins 1 3 (Calls insert_a ∷ CommitAct ∷ [])
      ∷ IsRefusedCall 1 0 (BeginAct ∷ Calls insert_a ∷ CommitAct ∷ []) None false ((6, GetsLock 1 5 Exclusive) ∷ (6, Logs (Forward 1 look)) ∷ []) 7 [] insert_a (Damaged 1 1 0) (CommitAct ∷ [])
      ∷ Commits 1 0 (BeginAct ∷ Calls insert_a ∷ CommitAct ∷ []) None 7 ((8, Logs (Ended 1)) ∷ []) []
      ∷ [];
  path = (
    refl,
    omega arith,
    (
      refl,
      tt,
      (
        refl,
        (
          ((refl, refl, refl), ((refl, refl, tt), tt)),
          (
            record {
              met = record { place = 12; there = refl; number = refl };
              cause = damaged_1;
            },
            refl,
          ),
          tt,
          λ e us. append-nil us,
          tt,
          (tt, λ e. tt),
        ),
        (refl, (omega arith, (inl refl, tt)), refl),
      ),
    ),
  );
  lines_are = refl;
  did_are = refl;
}

so_2 : IsSoFar world 2 told_2 lines_2 (deeds_of world 2) [] (at (Outside true) [])
so_2 = record {
  moves = Checkpoints 1 1 2 3 3 1 (BeginAct ∷ []) ∷ Begins 3 5 [] ∷ StaysOpen 3 0 (BeginAct ∷ []) None false [] 10 Store ∷ [];
  path = (refl, omega arith, (refl, tt, (refl, (tt, record { met = record { place = 18; there = refl; number = refl }; cause = (tt, refl) }), refl)));
  lines_are = refl;
  did_are = refl;
}

so_3 : IsSoFar world 3 told_3 lines_3 (deeds_of world 3) [] (at (Outside true) [])
so_3 = record {
  moves =
      IsRefusedCheckpoint false None false [] 1 UnderWay (BeginAct ∷ CommitAct ∷ BeginAct ∷ AbortAct ∷ [])
      ∷ Begins 2 4 (CommitAct ∷ BeginAct ∷ AbortAct ∷ [])
      ∷ CommitFails 2 0 (BeginAct ∷ CommitAct ∷ BeginAct ∷ AbortAct ∷ []) None 9 10 StoreFailed (BeginAct ∷ AbortAct ∷ [])
      ∷ IsRefusedBegin (Outside true) true 10 (StoppedBy Store) (AbortAct ∷ [])
      ∷ Skips true AbortAct []
      ∷ [];
  path = (
    refl,
    (refl, refl, (record { met = record { place = 1; there = refl; number = refl }; cause = under_way_1 }, tt)),
    (
      refl,
      tt,
      (
        refl,
        ((refl, omega arith), tt),
        (refl, (refl, record { met = record { place = 17; there = refl; number = refl }; cause = (tt, refl) }, tt), (refl, tt, refl)),
      ),
    ),
  );
  lines_are = refl;
  did_are = refl;
}

transcripts : AreTranscripts true world blocks (lines_1 ∷ lines_2 ∷ lines_3 ∷ [])
transcripts = record {
  owners = refl;
  each = (
    record { place = Outside false; over = tt; so_far = so_1 },
    (record { place = Outside true; over = tt; so_far = so_2 }, (record { place = Outside true; over = tt; so_far = so_3 }, tt)),
  );
}

strays : PokesTell world
strays zero g h e f = let a = some_same e in let b = some_same f in strays_same happened 0 (loaded index_words) _ g h a b (refl, refl)
strays (suc zero) g h e f = let a = some_same e in let b = some_same f in strays_same happened 1 (loaded heap_words) _ g h a b (refl, refl)
strays (suc (suc r)) g h e f = absurd (cc)

-- the audit of the checkpoint names no region: the poke came later
Names : ℕ → ℕ → Type 0
Names r stray = Contains {X = ℕ} [] r ↔ (stray ≢ 0)

clean : (r : ℕ) → Names r 0
unfolding Names
clean r = (λ has. absurd (omega (arith, has.1)), λ other. absurd (other refl))

names : (r : ℕ) (g : RegionState) → slice_get world.old.regions r ≡ Some g → Names r (stray_after r g.stray (take 3 happened))
unfolding Names
names zero g e = subst (λ (z : RegionState). Names 0 (stray_after 0 z.stray (take 3 happened))) (some_same e) (clean 0)
names (suc zero) g e = subst (λ (z : RegionState). Names 1 (stray_after 1 z.stray (take 3 happened))) (some_same e) (clean 1)
names (suc (suc r)) g e = absurd (cc)

verdict : VerdictsTell world
unfolding Names
verdict i b c found e r g was =
    let here : i ≡ 3 = ends_at 3 happened i b c found refl refl e in
    let named : found ≡ [] = found_is happened 3 b c found (Logs (AuditClean 1), 2) refl (ap (λ k. slice_get happened k) (sym here) ∙ e) in
    let begun : b ≡ 1 = begin_is happened 3 b c found (Logs (AuditClean 1), 2) refl (ap (λ k. slice_get happened k) (sym here) ∙ e) in
    let size : length (log_at world 3) ≡ 2 = refl in
    rw (here, named, begun) (3, omega arith, omega (arith, size), names r g was)

-- ---- the table
kept : (t : ℕ) → state_in (if 3 == t then Some fresh_row else (if 2 == t then Some committed else None)) ≡ fold (state_step t) None happened
kept zero = refl
kept (suc zero) = refl
kept (suc (suc zero)) = refl
kept (suc (suc (suc zero))) = refl
kept (suc (suc (suc (suc t)))) = let apart = above_three t in rw (apart.0, apart.1, apart.2) refl

row_is : (t : ℕ) → row_of world.core.system t ≡ (if 3 == t then Some fresh_row else (if 2 == t then Some committed else None))
row_is t =
    get-added (insert empty 2 committed) 3 fresh_row t
    ∙ ap (λ o. if 3 == t then Some fresh_row else o) (get-added empty 2 committed t ∙ ap (λ o. if 2 == t then Some committed else o) (get-empty nat_cmp t))

none_claimed : (t : ℕ) → is_claimed_in (fold (state_step t) None happened) ≡ false
none_claimed zero = refl
none_claimed (suc zero) = refl
none_claimed (suc (suc zero)) = refl
none_claimed (suc (suc (suc zero))) = refl
none_claimed (suc (suc (suc (suc t)))) = let apart = above_three t in rw (apart.0, apart.1, apart.2) refl

free_1 : IsGrantable world 10 1 5 Exclusive
free_1 = none_in_the_way world 10 1 5 Exclusive refl (λ u other. refl)

state_is : (t : ℕ) → state_of world.core.system t ≡ fold (state_step t) None happened
state_is t = ap state_in (row_is t) ∙ kept t

-- ---- the store fails at one place
failed : FaultsTell world
failed = record {
  stopped = refl;
  once = λ i c e. let here : i ≡ 16 = only_at fails 16 happened i (Meets StoreFailed, c) refl refl e refl in rw here refl;
  none = λ e. let no : true ≡ false = e in absurd (cc);
  rose = λ e. inl (omega arith);
}

-- ---- the one operation is on a region that is right
right_at : (r : ℕ) (g : RegionState) → r ≡ 0 → slice_get world.old.regions r ≡ Some g → stray_after r g.stray (take 11 happened) ≡ 0
right_at zero g z e = subst (λ (y : RegionState). stray_after 0 y.stray (take 11 happened) ≡ 0) (some_same e) refl
right_at (suc r) g z e = absurd (cc)

prechecks : PrecheckTells world
prechecks = record {
  operations = λ i t c b g e was.
      let here : i ≡ 11 = only_at is_operation 11 happened i (Logs (Forward t b), c) refl refl e refl in
      let on : b.region ≡ 0 = sym (ap region_in (some_same (sym (ap (λ k. slice_get happened k) here) ∙ e))) in
      looks_now world c i b.region g (subst (λ k. stray_after b.region g.stray (take k happened) ≡ 0) (sym here) (right_at b.region g on was));
  deaths = λ i t r c g e was. absurd (never is_death happened i (DiesOn t r, c) refl e refl);
}

rests : IsAtRest world.core
rests = record { stopped = λ e. (Store, refl); holds = neither_live (loaded index_words) (poked 9 1 (loaded heap_words)) refl refl; flag = refl; free = λ t. ap is_claimed_in (state_is t) ∙ none_claimed t }

between : IsBetween world.core
between = record { rests = rests; idle = λ runs. let no : Some Store ≡ None = runs in absurd (cc) }

pub faults_run : FaultsRun
unfolding transcripts so_1 so_2 so_3
faults_run = record {
  lines = lines_1 ∷ lines_2 ∷ lines_3 ∷ [];
  receipts = (3 ∷ 6 ∷ 7 ∷ 8 ∷ []) ∷ (1 ∷ 2 ∷ 5 ∷ []) ∷ (4 ∷ 9 ∷ []) ∷ [];
  round =
      whole_round world _ _ _ _ refl (grew_from world refl refl refl refl refl (omega arith)) refl transcripts refl
      (tt, ((CheckpointAct, None, under_way_1), (refl, (refl, (tt, (tt, (tt, (refl, (refl, (refl, ((refl, refl, free_1), (refl, ((Calls insert_a, Some 1, damaged_1), (refl, (refl, (refl, (tt, ((BeginAct, None, (tt, refl)), ((BeginAct, None, (tt, refl)), tt)))))))))))))))))))
      (record {
        spans = (refl, (refl, tt));
        anchors = (refl, refl);
        pokes = strays;
        verdicts = verdict;
        states = λ t. state_is t ∙ sym (ap (λ o. fold (state_step t) o happened) (no_state world.old.system refl t));
        locks = all_freed world refl (λ t k. by_one (λ u. fold (lock_step u k) None happened ≡ None) refl (λ u apart. rw apart refl) t);
        faults = failed;
        refusals = refl;
        room = refl;
        prechecks = λ yes. prechecks;
      })
      rests between;
  printed_is = refl;
}
