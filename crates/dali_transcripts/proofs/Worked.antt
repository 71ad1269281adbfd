-- The worked round.
use Rattle.std.proofs.Common.{◌≡◌, ℕ, zero, suc, Bool, true, false, List, [], ◌∷◌, Some, None, refl, ap, ◌∙◌, inl, inr, arith}
use Rattle.std.specs.Prelude.{take, ◌+◌, ◌*◌, ◌^◌, ◌≤◌, ◌++◌, fold, replicate, slice_get, ◌==◌, not}
use Rattle.std.specs.List.{list_all}
use Rattle.std.proofs.lemmas.Bool.{ne_eqb}
use Rattle.dali_lists.proofs.Tests.{left_true, right_true}
use Rattle.dali_runs.proofs.CountsLemmas.Lists.{self, some_same}
use Rattle.dali_region.specs.State.{loaded}
use Rattle.dali_locks.specs.declared.mode.Mode.TheVariants.{Shared, Exclusive}
use Rattle.dali_access.specs.Index.Entries.{entries}
use Rattle.dali_access.specs.Heap.Cells.{cells}
use Rattle.dali_record.specs.declared.operations.Block.{Block}
use Rattle.dali_record.specs.declared.operations.Op.TheVariants.{Look, Put, Add, Read, FreeEntry, FreeCell}
use Rattle.dali_record.specs.Blocks.{made, rewritten}
use Rattle.dali_record.specs.declared.records.Call.TheVariants.{Get}
use Rattle.dali_record.specs.declared.records.Answer.TheVariants.{Ok as AnswerOk}
use Rattle.dali_record.specs.declared.records.Record.{Record}
use Rattle.dali_record.specs.declared.records.Record.TheVariants.{Forward, Commit, Ended, Back}
use Rattle.dali_record.specs.Epochs.{last_epoch}
use Rattle.dali_runs.specs.Keeps.{IsNext}
use Rattle.dali_transcripts.specs.Words.{Calls, Arms, Commits as CommitAct}
use Rattle.dali_transcripts.specs.World.{Logs, DiesOn, Claims, GetsLock, FindsDead, log_at, HasDone, HasDiedBy, state_step, lock_step, IsUncommitted}
use Rattle.dali_transcripts.specs.Moves.{Receipt, Outside, Gone, TakenBack, Move, Begins, BeginsAgain, Rests, Answers, Dies, IsArmed, GivesWay, Commits, at}
use Rattle.dali_transcripts.specs.Causes.{HasClaimed, HasFoundDead, DiesIn, GetsBusy, IsGrantable, IsHindered}
use Rattle.dali_transcripts.specs.Transcripts.{IsSoFar, deeds_of, AreTranscripts}
use Rattle.dali_transcripts.specs.Rounds.{PokesTell, VerdictsTell, IsAtRest, IsBetween}
use Rattle.dali_transcripts.specs.Worked.{look, put, add, look_again, free_entry, free_cell, insert_a, insert_b, happened, log, told_1, told_2, lines_1, lines_2, refusal, found_dead, small, world, index_words, heap_words, AreMade, Conflict, blocks, ConflictRuns, receipts_1, receipts_2}
use Rattle.dali_transcripts.proofs.Backs.{none_stays}
use Rattle.dali_transcripts.proofs.Verdicts.{none_ends}
use Rattle.dali_transcripts.proofs.Locked.{keeps_locks}
use Rattle.dali_transcripts.proofs.Ends.{grew_from, no_row, told_locks, none_in_the_way, none_claimed, none_failed, neither_live, strays_same, above_three, whole_round, ended_together}

-- ---- client 1
work_1 : List Receipt
work_1 = (3, GetsLock 1 5 Exclusive) ∷ (3, Logs (Forward 1 look)) ∷ (4, Logs (Forward 1 (put 97 0))) ∷ (5, Logs (Forward 1 (add 0))) ∷ []

moves_1 : List Move
unfolding work_1
moves_1 =
    Begins 1 1 (Calls insert_a ∷ Arms 2 ∷ Calls (Get 5) ∷ CommitAct ∷ [])
    ∷ Answers 1 0 told_1 None work_1 6 insert_a AnswerOk (Arms 2 ∷ Calls (Get 5) ∷ CommitAct ∷ [])
    ∷ IsArmed 1 0 told_1 None false 2 (Calls (Get 5) ∷ CommitAct ∷ [])
    ∷ Dies 1 0 told_1 2 ((7, GetsLock 1 5 Shared) ∷ (7, Logs (Forward 1 look_again)) ∷ []) 8 1 (Get 5) (CommitAct ∷ [])
    ∷ Rests 1 CommitAct []
    ∷ []

-- the operation in which client 1 dies, on the words of the heap then
read_words : List ℕ
read_words = 1 ∷ replicate 7 0 ++ 1 ∷ 5 ∷ 1 ∷ 97 * 2 ^ 56 ∷ replicate 52 0

read : Block
unfolding read_words
read = made read_words 5 1 (Read 1)

read_next : IsNext small (log_at world 10) 1 (Forward 1 read)
unfolding read read_words entries cells
read_next = refl

there_1 : HasDone world 1 8 (DiesOn 1 1)
there_1 = record { place = 10; there = refl; number = refl }

dies_1 : DiesIn world 1 8 1 1 (Get 5)
unfolding there_1 read read_words
dies_1 = record {
  done = there_1;
  next = read;
  on_region = refl;
  goes_on = record { of_call = record { words = read_words; are_words = (refl, omega arith); of_call = tt; is_made = refl }; allowed = read_next; locked = (tt, keeps_locks 1 (last_epoch (log_at world 10 ++ Forward 1 read ∷ [])).records refl) };
}

died_1 : IsSoFar world 1 told_1 lines_1 (deeds_of world 1) [] (at (Gone 1) [])
unfolding moves_1
died_1 = record {
  moves = moves_1;
  path =
      (refl, tt, (refl, (((refl, refl, refl), ((refl, refl, tt), ((refl, refl, refl), ((refl, refl, tt), tt)))), refl, none_stays 1 work_1 (refl, (refl, (refl, (refl, tt)))), tt), (refl, tt, (refl, (((refl, refl, refl), ((refl, refl, tt), tt)), refl, dies_1, tt), (refl, tt, refl)))));
  lines_are = refl;
  did_are = refl;
}

-- ---- client 2
-- no Commit of transaction t
is_other : ℕ → Record → Bool
is_other t (Commit u) = not (u == t)
is_other t x = true

other_of : (t : ℕ) (x : Record) → x ≡ Commit t → is_other t x ≡ false
unfolding is_other
other_of t x e = let same : not (t == t) ≡ false = rw (self t) refl in ap (is_other t) e ∙ same

none_of : (t : ℕ) (L : List Record) (k : ℕ) → list_all (is_other t) L ≡ true → slice_get L k ≡ Some (Commit t) → ⊥
none_of t [] k h e = absurd (cc)
none_of t (x ∷ L) zero h e = let same : x ≡ Commit t = cc in let no = other_of t x same in let yes = left_true (is_other t x) (list_all (is_other t) L) h in absurd (cc)
none_of t (x ∷ L) (suc k) h e = none_of t L k (right_true (is_other t x) (list_all (is_other t) L) h) e

uncommitted_2 : IsUncommitted world 2 8
unfolding is_other
uncommitted_2 = (refl, λ k below e. none_of 2 log k refl e)

work_3 : List Receipt
work_3 =
    (10, FindsDead found_dead) ∷ (10, Claims 1) ∷ (10, Logs (Back 1 free_entry)) ∷ (11, Logs (Back 1 free_cell)) ∷ (12, Logs (Ended 1))
    ∷ (13, GetsLock 3 5 Exclusive) ∷ (13, Logs (Forward 3 look)) ∷ (14, Logs (Forward 3 (put 98 (97 * 2 ^ 56 + 4)))) ∷ (15, Logs (Forward 3 (add 12))) ∷ []

moves_2 : List Move
unfolding work_3
moves_2 =
    Begins 2 2 (Calls insert_b ∷ CommitAct ∷ [])
    ∷ GivesWay 2 0 told_2 None [] insert_b refusal [] (TakenBack 8) (CommitAct ∷ [])
    ∷ BeginsAgain 3 9 1 1 (Calls insert_b ∷ CommitAct ∷ [])
    ∷ Answers 3 1 told_2 None work_3 16 insert_b AnswerOk (CommitAct ∷ [])
    ∷ Commits 3 1 told_2 None 17 ((18, Logs (Ended 3)) ∷ []) []
    ∷ []

dead_1 : (n : ℕ) → 8 ≤ n → HasDiedBy world 1 n
dead_1 n h = inr (1, 1, 8, there_1, h)

busy_2 : GetsBusy world 2 2 insert_b refusal
busy_2 = record { txn = refl; key = refl; mode = refl; done = record { place = 7; there = refl; number = refl }; runs = refl }

found_1 : HasFoundDead world 2 10 3 insert_b found_dead
found_1 = record { done = record { place = 13; there = refl; number = refl }; txn = refl; key = refl; mode = refl; number = refl; dead = refl }

claimed_1 : HasClaimed world 2 10 1
claimed_1 = record { done = record { place = 14; there = refl; number = refl }; dead = refl }

told : IsSoFar world 2 told_2 lines_2 (deeds_of world 2) [] (at (Outside false) [])
unfolding moves_2
told = record {
  moves = moves_2;
  path = (
    refl,
    tt,
    (
      refl,
      (tt, busy_2, tt, uncommitted_2, omega arith),
      (
        refl,
        inr (dead_1 9 (omega arith)),
        (
          refl,
          (
            (
              found_1,
              (
                (refl, claimed_1),
                (
                  inr (record { apart = refl; done = record { place = 15; there = refl; number = refl }; claimed = refl; own = refl }),
                  (inr (record { apart = refl; done = record { place = 16; there = refl; number = refl }; claimed = refl; own = refl }), (record { apart = refl; done = record { place = 17; there = refl; number = refl }; claimed = refl; own = refl }, ((refl, refl, refl), ((refl, refl, tt), ((refl, refl, refl), ((refl, refl, tt), tt)))))),
                ),
              ),
            ),
            refl,
            none_stays 3 work_3 (refl, (refl, (refl, (refl, (refl, (refl, (refl, (refl, (refl, tt))))))))),
            tt,
          ),
          (refl, (omega arith, (inl refl, tt)), refl),
        ),
      ),
    ),
  );
  lines_are = refl;
  did_are = refl;
}

looks : look ≡ made index_words 5 0 Look
unfolding entries cells
looks = refl

pub puts_a : (put 97 0) ≡ made heap_words 5 1 (Put (97 ∷ []))
unfolding entries cells
puts_a = refl

puts_b : (put 98 (97 * 2 ^ 56 + 4)) ≡ made (rewritten free_cell (rewritten (put 97 0) heap_words)) 5 1 (Put (98 ∷ []))
unfolding entries cells
puts_b = refl

adds : add 0 ≡ made index_words 5 0 (Add 9)
unfolding entries cells
adds = refl

adds_again : add 12 ≡ made (rewritten free_entry (rewritten (add 0) index_words)) 5 0 (Add 9)
unfolding entries cells
adds_again = refl

looks_at_last : look ≡ made (rewritten free_entry (rewritten (add 0) index_words)) 5 0 Look
unfolding entries cells
looks_at_last = refl

looks_again : look_again ≡ made (rewritten (add 0) index_words) 5 0 Look
unfolding entries cells
looks_again = refl

frees_entry : free_entry ≡ made (rewritten (add 0) index_words) 5 0 (FreeEntry 0)
unfolding entries cells
frees_entry = refl

frees_cell : free_cell ≡ made (rewritten (put 97 0) heap_words) 5 1 (FreeCell 1)
unfolding entries cells
frees_cell = refl

pub are_made : AreMade
are_made = record { looks = looks; puts_a = puts_a; puts_b = puts_b; adds = adds; adds_again = adds_again; looks_at_last = looks_at_last; looks_again = looks_again; frees_entry = frees_entry; frees_cell = frees_cell }

transcripts : AreTranscripts true world blocks (lines_1 ∷ lines_2 ∷ [])
transcripts = record {
  owners = refl;
  each = (record { place = Gone 1; over = tt; so_far = died_1 }, (record { place = Outside false; over = tt; so_far = told }, tt));
}

pub conflict : Conflict
conflict = record {
  legal_1 = refl;
  legal_2 = refl;
  legal_3 = refl;
  transcripts = transcripts;
}

-- no one poked
no_stray : PokesTell world
no_stray zero g h e f = let a = some_same e in let b = some_same f in strays_same happened 0 (loaded index_words) _ g h a b (refl, refl)
no_stray (suc zero) g h e f = let a = some_same e in let b = some_same f in strays_same happened 1 (loaded heap_words) _ g h a b (refl, refl)
no_stray (suc (suc r)) g h e f = absurd (cc)

-- no audit ends
no_verdict : VerdictsTell world
no_verdict i b c found e = absurd (none_ends happened i b c found refl e)

-- all transactions have ended
ended : (t : ℕ) → fold (state_step t) None happened ≡ None
ended zero = refl
ended (suc zero) = refl
ended (suc (suc zero)) = refl
ended (suc (suc (suc zero))) = refl
ended (suc (suc (suc (suc t)))) = let apart = above_three t in rw (apart.0, apart.1, apart.2) refl

-- and their locks are free
freed : (t k : ℕ) → fold (lock_step t k) None happened ≡ None
freed zero k = refl
freed (suc zero) k = refl
freed (suc (suc zero)) k = refl
freed (suc (suc (suc zero))) k = refl
freed (suc (suc (suc (suc t)))) k = let apart = above_three t in rw (apart.0, apart.1, apart.2) refl

-- as the dead one's was when client 2 got it
freed_then : (t : ℕ) → fold (lock_step t 5) None (take 18 happened) ≡ None
freed_then zero = refl
freed_then (suc zero) = refl
freed_then (suc (suc zero)) = refl
freed_then (suc (suc (suc t))) =
    let a : (1 == suc (suc (suc t))) ≡ false = ne_eqb 1 (suc (suc (suc t))) (λ e. absurd (omega (arith, e))) in
    let b : (2 == suc (suc (suc t))) ≡ false = ne_eqb 2 (suc (suc (suc t))) (λ e. absurd (omega (arith, e))) in rw (a, b) refl

free_1 : IsGrantable world 2 1 5 Exclusive
free_1 = none_in_the_way world 2 1 5 Exclusive refl (λ u other. refl)

free_again : IsGrantable world 8 1 5 Shared
free_again = none_in_the_way world 8 1 5 Shared refl (λ u other. rw other refl)

free_3 : IsGrantable world 18 3 5 Exclusive
free_3 = none_in_the_way world 18 3 5 Exclusive refl (λ u other. freed_then u)

hindered_2 : IsHindered world 2 7 refusal
hindered_2 = record { mode = Exclusive; holds = told_locks world refl (take 7 happened) 1 5; clash = refl; by_another = inr (1, Exclusive, refl, (2, omega arith, refl)); unclaimed = λ own. refl }

rests : IsAtRest world.core
rests = record { stopped = λ e. let no : false ≡ true = e in absurd (cc); holds = neither_live (loaded index_words) (loaded heap_words) refl refl; flag = refl; free = none_claimed world.core.system refl }

between : IsBetween world.core
between = record { rests = rests; idle = λ runs t h. absurd (no_row world.core.system refl t h) }

pub conflict_runs : ConflictRuns
unfolding transcripts died_1 told moves_1 moves_2
conflict_runs = record {
  lines = lines_1 ∷ lines_2 ∷ [];
  receipts = receipts_1 ∷ receipts_2 ∷ [];
  round =
      whole_round world _ _ _ _ refl (grew_from world refl refl refl refl refl (omega arith)) refl transcripts refl
      (refl, (refl, ((refl, refl, free_1), (refl, (refl, (refl, (refl, ((refl, refl, refl, hindered_2), ((refl, refl, free_again), (refl, (tt, (refl, (refl, ((refl, refl, refl), (refl, (tt, (tt, (refl, ((refl, refl, free_3), (refl, (refl, (refl, (refl, (refl, (refl, tt)))))))))))))))))))))))))
      (ended_together world tt refl no_stray no_verdict refl refl refl ended freed (none_failed world refl refl refl refl refl) refl refl refl)
      rests between;
  printed_is = refl;
}
