-- The files right after a format or a restart fit their log.
use Rattle.std.proofs.Common.{◌≡◌, ℕ, zero, suc, ◌+◌, ◌-◌, ◌<◌, ◌≤◌, Bool, true, List, [], ◌∷◌, ◌++◌, length, take, drop, Some, refl, ap, sym, subst, ◌∙◌, inl, inr, ⊎_elim, arith}
use Rattle.std.specs.Prelude.{map, filter, slice_get, sum_by, flat_map, not}
use Rattle.std.proofs.lemmas.List.{take_all, take-append-le, length_push}
use Rattle.dali_geometry.specs.Sizes.{Sizes}
use Rattle.dali_geometry.specs.Places.{regions, formatted_image}
use Rattle.dali_record.specs.declared.records.Record.{Record}
use Rattle.dali_record.specs.declared.records.Record.TheVariants.{Format, Restarted}
use Rattle.dali_record.specs.Log.{begun, ended}
use Rattle.dali_record.specs.Epochs.{Epoch, Cut, cut, cut_step, last_epoch, recovered_epoch, next_number}
use Rattle.dali_record.specs.Damage.{has, rolled_list, deleted_list}
use Rattle.dali_record.specs.Settled.{words_in, redo_all}
use Rattle.dali_record.specs.Spelling.{record_length}
use Rattle.dali_record.specs.Legal.{sizes_of}
use Rattle.dali_record.specs.Files.{Files, batch_length, is_restarted_first, next_after, row_of}
use Rattle.dali_record.proofs.Ends.{get_push_cases}
use Rattle.dali_record.proofs.Pushes.{cut_push}
use Rattle.dali_record.proofs.Batches.{number_is_length}
use Rattle.dali_history.specs.Recovered.{recovered}
use Rattle.dali_history.specs.History.{IsHistory}
use Rattle.dali_history.specs.Promise.{RestartsAs}
use Rattle.dali_crash.proofs.RecoveredWords.{recovered_count}
use Rattle.dali_history.proofs.HeadlineLemmas.Headline.{restart_is_right}
use Rattle.dali_runs.specs.Run.{Bases, base_at, log_in}
use Rattle.dali_runs.specs.Images.{FitsBut}
use Rattle.dali_runs.proofs.LastEpochs.{epoch_of}
use Rattle.dali_crash.specs.Starts.{IsFormatted, IsRestarted, FreshFits, RestartStarts, IsLawful, HistoryIsLawful}

-- ---- an epoch without records
abbrev no_records : List Record
no_records = []

take_none : (n : ℕ) → take n no_records ≡ no_records
take_none zero = refl
take_none (suc n) = refl

drop_none : (n : ℕ) → drop n no_records ≡ no_records
drop_none zero = refl
drop_none (suc n) = refl

pub nothing_redone : (image base : List (List ℕ)) (a b r : ℕ) → words_in image r ≡ words_in base r → words_in (redo_all image (drop a (take b []))) r ≡ words_in (redo_all base (take b [])) r
nothing_redone image base a b r e =
    ap (λ E. words_in (redo_all image E) r) (ap (drop a) (take_none b) ∙ drop_none a)
    ∙ (e ∙ ap (λ E. words_in (redo_all base E) r) (sym (take_none b)))

pub no_rows : (b : ℕ) → [] ≡ map (row_of (take b [])) (filter (λ t. not (has (ended (take b [])) t)) (begun (take b [])))
no_rows b = ap (λ P. map (row_of P) (filter (λ t. not (has (ended P) t)) (begun P))) (sym (take_none b))

-- ---- after a format
pub formatted_fits : (s : Sizes) (bases : Bases) (missed : ℕ → Bool) (F : Files) → IsFormatted s F → bases 1 ≡ formatted_image s → length (formatted_image s) ≡ regions s → FitsBut s bases missed (Format s.index s.heap ∷ []) F (last_epoch (Format s.index s.heap ∷ []))
formatted_fits s bases missed F is base whole = record {
  log = ap (λ bs. flat_map (λ b. b) bs) is.batches;
  batch = (
    1,
    ap (λ bs. flat_map (λ b. b) (take 1 bs)) is.batches ∙ sym (ap (λ n. take n (Format s.index s.heap ∷ [])) is.first),
    is.place ∙ sym (ap (λ bs. sum_by batch_length (take 1 bs)) is.batches),
    λ j b h e. one j b h (ap (λ bs. slice_get bs j) (sym is.batches) ∙ e),
  );
  count = omega (arith, is.first);
  lengths = is.weight ∙ sym (ap (λ n. sum_by record_length (take n (Format s.index s.heap ∷ []))) is.first);
  numbers = is.next ∙ sym (ap (λ n. next_after (take n (Format s.index s.heap ∷ []))) is.first);
  fresh = λ h. (is.place, is.first, is.table, is.image);
  current = λ h. absurd (omega (arith, h, is.gates));
  whole = ap length is.image ∙ whole;
  epoch = epoch_of (Format s.index s.heap ∷ []) F.first (omega (arith, is.first));
  recent = inr refl;
  certified = omega (arith, is.first);
  table_is = is.table ∙ no_rows (F.first - 1);
  words = λ r h n. nothing_redone F.image (bases 1) (F.first - 1) (1 - 1) r (ap (λ (im : List (List ℕ)). words_in im r) (is.image ∙ sym base));
}
  where
    one : (j : ℕ) (b : List Record) → 1 ≤ j → slice_get ((Format s.index s.heap ∷ []) ∷ []) j ≡ Some b → is_restarted_first b ≡ true
    one zero b h e = absurd (omega (arith, h))
    one (suc j) b h e = absurd (cc)

-- ---- after a restart
-- files whose image stands right before the batch of the restart's record
abbrev pub files_before : List (List Record) → List Record → Record → ℕ → List (List ℕ) → Files
files_before older closed last gates image = record {
  batches = older ++ (last ∷ []) ∷ [];
  gates = gates;
  number = gates;
  place = sum_by batch_length older;
  first = length closed;
  weight = sum_by record_length closed;
  next = next_after closed;
  image = image;
  table = [];
}

pub stands_before :
    (closed : List Record) (rolled deleted : List ℕ) (older : List (List Record)) (gates : ℕ) (image : List (List ℕ))
    → (r : Record) × (E : List Record) × ((last_epoch closed).records ≡ r ∷ E) → flat_map (λ b. b) older ≡ closed → 0 < gates
    → image ≡ recovered (sizes_of (closed ++ Restarted rolled deleted ∷ [])) (closed ++ Restarted rolled deleted ∷ [])
    → IsRestarted (closed ++ Restarted rolled deleted ∷ []) (files_before older closed (Restarted rolled deleted) gates image)
stands_before closed rolled deleted older gates image some spell open_gate image_is = record {
  closed = closed;
  rolled = rolled;
  deleted = deleted;
  log = refl;
  some = some;
  older = older;
  batches = refl;
  spell = spell;
  gates = open_gate;
  number = refl;
  place = refl;
  first = refl;
  weight = refl;
  next = refl;
  image = image_is;
  table = refl;
}

restarted_fits :
    (s : Sizes) (bases : Bases) (missed : ℕ → Bool) (L : List Record) (F : Files) → (is : IsRestarted L F)
    → F.image ≡ bases (last_epoch L).first → length F.image ≡ regions s → log_in F ≡ L
    → FitsBut s bases missed L F (last_epoch L)
restarted_fits s bases missed L F is base whole log = subst (FitsBut s bases missed L F) (sym last) (record {
  log = log;
  batch = (
    length is.older,
    ap (λ bs. flat_map (λ b. b) bs) older ∙ (is.spell ∙ sym front),
    is.place ∙ sym (ap (λ bs. sum_by batch_length bs) older),
    λ j b h e. behind j b h (ap (λ bs. slice_get bs j) (sym is.batches) ∙ e),
  );
  count = omega (arith, is.first, ap length is.log, length_push M x);
  lengths = is.weight ∙ sym (ap (sum_by record_length) front);
  numbers = is.next ∙ sym (ap next_after front);
  fresh = λ h. absurd (omega (arith, h, is.gates));
  current = λ h. is.number;
  whole = whole;
  epoch = epoch_of L F.first (subst (λ (d : Epoch). d.first ≤ F.first + 1) (sym last) (omega (arith, is.first, number_is_length M))) ∙ last;
  recent = inr (sym last);
  certified = omega (arith, is.first, number_is_length M);
  table_is = is.table ∙ no_rows (F.first - e.first);
  words = λ r h n. nothing_redone F.image (bases e.first) (F.first - e.first) (e.first - e.first) r (ap (λ (im : List (List ℕ)). words_in im r) (base ∙ ap (λ (d : Epoch). bases d.first) last));
})
  where
    M : List Record
    M = is.closed

    x : Record
    x = Restarted is.rolled is.deleted

    e : Epoch
    e = record { first = next_number (last_epoch M) + 1; records = [] }

    parts : cut L ≡ cut_step (cut M) x
    parts = ap cut is.log ∙ cut_push M x

    last : last_epoch L ≡ e
    last = ap (λ (c : Cut). c.now) parts

    older : take (length is.older) F.batches ≡ is.older
    older = ap (take (length is.older)) is.batches ∙ (take-append-le (length is.older) is.older _ (omega arith) ∙ take_all (length is.older) is.older (omega arith))

    front : take F.first L ≡ M
    front = ap (λ n. take n L) is.first ∙ (ap (take (length M)) is.log ∙ (take-append-le (length M) M (x ∷ []) (omega arith) ∙ take_all (length M) M (omega arith)))

    behind : (j : ℕ) (b : List Record) → length is.older ≤ j → slice_get (is.older ++ (x ∷ []) ∷ []) j ≡ Some b → is_restarted_first b ≡ true
    behind j b h f = ⊎_elim (λ old. absurd (omega (arith, old.0, h))) (λ new. subst (λ z. is_restarted_first z ≡ true) new.1 refl) (get_push_cases is.older (x ∷ []) j b f)

pub fresh_fits : FreshFits
fresh_fits bases L F missed base is = subst (λ K. FitsBut (sizes_of L) bases missed K F (last_epoch K)) (sym is.log) (⊎_elim formatted restarted is.kind)
  where
    s : Sizes
    s = sizes_of L

    whole : length (recovered s L) ≡ regions s
    whole = recovered_count s L

    formatted : IsFormatted s F → FitsBut s bases missed L F (last_epoch L)
    formatted kind =
        let log : Format s.index s.heap ∷ [] ≡ L = sym (ap (λ bs. flat_map (λ b. b) bs) kind.batches) ∙ is.log in
        let image : recovered s L ≡ formatted_image s = ap (recovered s) (sym log) in
        subst (λ K. FitsBut s bases missed K F (last_epoch K)) log
        (formatted_fits s bases missed F kind (ap (base_at bases) log ∙ (base ∙ image)) (ap length (sym image) ∙ whole))

    restarted : IsRestarted L F → FitsBut s bases missed L F (last_epoch L)
    restarted kind = restarted_fits s bases missed L F kind (kind.image ∙ sym base) (ap length kind.image ∙ whole) is.log

pub restart_starts : RestartStarts
restart_starts K r E history some =
    let again : RestartsAs K (K ++ Restarted (rolled_list (recovered_epoch K)) (deleted_list (recovered_epoch K)) ∷ []) = (restart_is_right K history).again r E some in
    record { history = again.history; rules = again.history.legal.rules; none = ap (λ (c : Cut). c.now.records) (cut_push K (Restarted (rolled_list (recovered_epoch K)) (deleted_list (recovered_epoch K)))) }

-- ---- a log that is honest or not
pub lawful : (L : List Record) → IsHistory L → IsLawful L
lawful L h = record { some_index = h.some_index; some_heap = h.some_heap; spelled = h.spelled; legal = h.legal; locks = h.locks }

pub history_is_lawful : HistoryIsLawful
history_is_lawful L = (
  λ h. (lawful L h, h.honest),
  λ w. record { some_index = w.0.some_index; some_heap = w.0.some_heap; spelled = w.0.spelled; legal = w.0.legal; locks = w.0.locks; honest = w.1 },
)
