-- An image that stands behind the last Restarted, at the log's end.
use Rattle.std.proofs.Common.{◌≡◌, ℕ, zero, suc, ◌≤◌, Bool, true, false, cond, List, [], ◌∷◌, Some, refl, inr, arith}
use Rattle.std.specs.Prelude.{◌==◌, IsSome, slice_get}
use Rattle.dali_access.specs.Heap.Cells.{cells}
use Rattle.dali_access.specs.Index.Entries.{entries}
use Rattle.dali_record.specs.declared.records.Record.{Record}
use Rattle.dali_record.specs.declared.records.Record.TheVariants.{Restarted}
use Rattle.dali_record.specs.Files.{is_restarted_first}
use Rattle.dali_record.specs.Calls.{Fresh}
use Rattle.dali_record.specs.Legal.{Active, IsLegal, Onward, ReadsWords, TellsScan, Unbegun, sizes_of, txn_next, txn_state}
use Rattle.dali_resume.specs.BehindTheEnd.{NobodyBehindTheEnd, behind_files, behind_log}

told : TellsScan behind_log
told zero rs ds at = absurd (cc)
told (suc zero) rs ds at = absurd (cc)
told (suc (suc zero)) rs ds at = let same : Restarted (1 ∷ []) [] ≡ Restarted rs ds = cc in by_lists rs ds same
  where
    by_lists : (us vs : List ℕ) → Restarted (1 ∷ []) [] ≡ Restarted us vs → (us ≡ 1 ∷ []) × (vs ≡ [])
    by_lists us vs same = (cc, cc)
told (suc (suc (suc n))) rs ds at = absurd (cc)

-- each transaction is over then, or never began
over : (t : ℕ) → IsSome (txn_state (sizes_of behind_log) t behind_log)
over t = by_own (1 == t)
  where
    by_own : (b : Bool) → IsSome (txn_next (sizes_of behind_log) t (Some (cond b (Active (record { undos = []; mark = 0; progress = Fresh; way = Onward })) Unbegun)) (Restarted (1 ∷ []) []))
    by_own true = refl
    by_own false = refl

reads : ReadsWords behind_log
reads zero a at = absurd (cc)
reads (suc zero) a at = absurd (cc)
reads (suc (suc zero)) a at = absurd (cc)
reads (suc (suc (suc n))) a at = absurd (cc)

legal : IsLegal behind_log
legal = record { rules = refl; txns = over; scans = told; reads = reads }

pub nobody_behind_the_end : NobodyBehindTheEnd
unfolding entries cells
nobody_behind_the_end = record {
  legal = legal;
  fits = record {
    fits = record {
      log = refl;
      batch = (3, refl, refl, λ j b le at. none_behind j b le at);
      count = omega arith;
      lengths = refl;
      numbers = refl;
      fresh = λ none. absurd (omega (arith, none));
      current = λ some. refl;
      epoch = refl;
      recent = inr refl;
      certified = omega arith;
      table_is = refl;
      words = λ r lt. refl;
    };
    image_whole = refl;
    base_whole = refl;
  };
  rolled_back = refl;
  hands_out = refl;
}
  where
    none_behind : (j : ℕ) (b : List Record) → 3 ≤ j → slice_get behind_files.batches j ≡ Some b → is_restarted_first b ≡ true
    none_behind zero b le at = absurd (omega (arith, le))
    none_behind (suc zero) b le at = absurd (omega (arith, le))
    none_behind (suc (suc zero)) b le at = absurd (omega (arith, le))
    none_behind (suc (suc (suc j))) b le at = absurd (cc)
