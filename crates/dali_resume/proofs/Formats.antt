-- The files of a format, with a Restarted behind it, fit their log at its last epoch.
use Rattle.std.proofs.Common.{◌≡◌, ℕ, zero, suc, ◌+◌, ◌-◌, true, List, [], ◌∷◌, ◌++◌, length, take, Some, refl, ap, sym, ◌∙◌, inr, arith}
use Rattle.std.specs.Prelude.{flat_map, slice_get, sum_by}
use Rattle.dali_geometry.specs.Places.{formatted_image}
use Rattle.dali_access.proofs.IndexLemmas.Forms.{formatted_is_image, formatted_is_tidy}
use Rattle.dali_record.specs.declared.records.Record.{Record}
use Rattle.dali_record.specs.declared.records.Record.TheVariants.{Format, Restarted}
use Rattle.dali_record.specs.Files.{batch_length, is_restarted_first, next_after}
use Rattle.dali_record.specs.Settled.{words_in}
use Rattle.dali_record.specs.Spelling.{record_length}
use Rattle.dali_history.specs.Recovered.{base_of}
use Rattle.dali_history.proofs.HeadlineLemmas.NothingToFree.{recover_nothing}
use Rattle.dali_runs.proofs.LastEpochs.{epoch_of}
use Rattle.dali_crash.proofs.Starts.{no_rows, nothing_redone}
use Rattle.dali_resume.specs.Onward.{FormatRests, formatted_closed}

pub format_rests : FormatRests
format_rests s F some_index some_heap is = record {
  fits = record {
    log = ap (λ bs. flat_map (λ b. b) (bs ++ batch ∷ [])) is.batches;
    batch = (
      1,
      ap (λ bs. flat_map (λ b. b) (take 1 (bs ++ batch ∷ []))) is.batches ∙ sym (ap (λ n. take n (formatted_closed s)) is.first),
      is.place ∙ sym (ap (λ bs. sum_by batch_length (take 1 (bs ++ batch ∷ []))) is.batches),
      λ j b le at. firsts j b (ap (λ bs. slice_get (bs ++ batch ∷ []) j) (sym is.batches) ∙ at),
    );
    count = omega (arith, is.first);
    lengths = is.weight ∙ sym (ap (λ n. sum_by record_length (take n (formatted_closed s))) is.first);
    numbers = is.next ∙ sym (ap (λ n. next_after (take n (formatted_closed s))) is.first);
    fresh = λ none. (is.place, is.first, is.table, is.image);
    current = λ some. absurd (omega (arith, some, is.gates));
    epoch = epoch_of (formatted_closed s) F.first (omega (arith, is.first));
    recent = inr refl;
    certified = omega (arith, is.first);
    table_is = is.table ∙ no_rows (F.first - 2);
    words = λ r lt. nothing_redone F.image (base_of s (formatted_closed s)) (F.first - 2) 0 r (ap (λ image. words_in image r) (is.image ∙ sym base));
  };
  image_whole = ap length is.image ∙ (formatted_is_image s some_index some_heap).count;
  base_whole = ap length base ∙ (formatted_is_image s some_index some_heap).count;
}
  where
    batch : List Record
    batch = Restarted [] [] ∷ []

    firsts : (j : ℕ) (b : List Record) → slice_get ((Format s.index s.heap ∷ []) ∷ batch ∷ []) j ≡ Some b → is_restarted_first b ≡ true
    firsts zero b at = let same : Format s.index s.heap ∷ [] ≡ b = cc in ap is_restarted_first (sym same)
    firsts (suc zero) b at = let same : batch ≡ b = cc in ap is_restarted_first (sym same)
    firsts (suc (suc j)) b at = absurd (cc)

    -- the epoch between the two has no record
    base : base_of s (formatted_closed s) ≡ formatted_image s
    base = recover_nothing s (formatted_image s) (record { first = 1; records = [] }) (formatted_is_image s some_index some_heap) (formatted_is_tidy s) refl
