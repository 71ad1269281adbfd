-- A history of one epoch in which no audit failed: its records behind the format are sound on the formatted image, and keep the rules.
use Rattle.std.proofs.Common.{◌≡◌, ℕ, ◌+◌, ◌*◌, ◌≤◌, false, List, [], ◌∷◌, ◌++◌, length, Option, Some, None, refl, ap, sym, subst, ◌∙◌, ◌⊎◌, inl, inr, ⊎_elim, arith, append-nil}
use Rattle.std.specs.Prelude.{Contains, filter, filter_map, flat_map, sum_by, IsSome}
use Rattle.std.proofs.lemmas.List.Elements.{Contains-push_cases}
use mathlib.Core.Path.{fun_ext}
use Rattle.dali_lists.proofs.Lists.{push-not_nil}
use Rattle.dali_geometry.specs.Sizes.{Sizes}
use Rattle.dali_geometry.specs.Places.{formatted_image}
use Rattle.dali_record.specs.declared.records.Call.{Call}
use Rattle.dali_record.specs.declared.records.Answer.{Answer}
use Rattle.dali_record.specs.declared.records.Answer.TheVariants.{FullHeap, FullIndex}
use Rattle.dali_record.specs.declared.records.Record.{Record}
use Rattle.dali_record.specs.declared.records.Record.TheVariants.{Format, Begin, Forward, Done, Commit, Ended, Solo, AuditBegin, AuditClean, AuditFail, Restarted, Back}
use Rattle.dali_record.specs.Log.{begun, begin_by, committed, commit_by, calls_of, call_by}
use Rattle.dali_record.specs.Epochs.{Cut, cut, cut_step, epochs, last_epoch, separates}
use Rattle.dali_record.specs.Settled.{AreSound}
use Rattle.dali_record.specs.Legal.{rules_state, rules_first, rules_start, sizes_of}
use Rattle.dali_record.proofs.Ends.{by_push}
use Rattle.dali_record.proofs.Pushes.{cut_push}
use Rattle.dali_record.proofs.EpochRules.{format_empty}
use Rattle.dali_record.proofs.Sole.{rules_earlier, by_epochs}
use Rattle.dali_access.specs.Index.Invariant.{IsImage}
use Rattle.dali_access.proofs.IndexLemmas.Forms.{formatted_is_image, formatted_is_indexed, formatted_is_tidy}
use Rattle.dali_history.specs.Recovered.{IsHonestIn, AreHonest}
use Rattle.dali_history.specs.Kept.Kept.{KeepsCalls}
use Rattle.dali_history.specs.Headline.Bridge.{EpochIsKept}
use Rattle.dali_history.proofs.HeadlineLemmas.KeptEpochs.{history_is_kept}
use Rattle.dali_history.proofs.HeadlineLemmas.Undamaged.{undamaged_kept, undamaged_sound}
use Rattle.dali_history.specs.Room.Room.{is_insert, cell_by, entry_by, cells_taken, entries_taken, inserts_of, inserts, IsSteady, IsPlain, AllAnswer, FullIsFilled, TakesFew, NoneIsFull}
use Rattle.dali_history.proofs.RoomLemmas.Counting.{contains_none, in_filter_map, from_filter_map, block_of_pairs}
use Rattle.dali_history.proofs.RoomLemmas.Held.{Held, held_along}
use Rattle.dali_history.proofs.RoomLemmas.Tries.{AllHeap, AllIndex}
use Rattle.dali_history.proofs.RoomLemmas.Answered.{Inside, few_cells, few_entries}

-- ---- the records of an epoch, and what stands before it
abbrev InNow : List Record → Type 0
InNow L = Inside (cut L).now.records

longer_inside : (ys : List Record) (r : Record) → separates r ≡ false → Inside ys → Inside (ys ++ r ∷ [])
longer_inside ys r e h x c = ⊎_elim (λ a. h x a) (λ a. subst (λ z. separates z ≡ false) a e) (Contains-push_cases ys r x c)

now_step : (c : Cut) (r : Record) → Inside c.now.records → Inside (cut_step c r).now.records
now_step c (Format i h) k = λ x d. absurd (contains_none x d)
now_step c (Restarted rs ds) k = λ x d. absurd (contains_none x d)
now_step c (Begin u) k = longer_inside c.now.records (Begin u) refl k
now_step c (Forward u b) k = longer_inside c.now.records (Forward u b) refl k
now_step c (Done u d a) k = longer_inside c.now.records (Done u d a) refl k
now_step c (Commit u) k = longer_inside c.now.records (Commit u) refl k
now_step c (Ended u) k = longer_inside c.now.records (Ended u) refl k
now_step c (Solo u p b) k = longer_inside c.now.records (Solo u p b) refl k
now_step c AuditBegin k = longer_inside c.now.records AuditBegin refl k
now_step c (AuditClean b) k = longer_inside c.now.records (AuditClean b) refl k
now_step c (AuditFail b rs) k = longer_inside c.now.records (AuditFail b rs) refl k
now_step c (Back u b) k = longer_inside c.now.records (Back u b) refl k

-- none of an epoch's records separates epochs
now_inside : (L : List Record) → InNow L
now_inside L = by_push InNow (λ x d. absurd (contains_none x d)) (λ M r ih. subst (λ c. Inside c.now.records) (sym (cut_push M r)) (now_step (cut M) r ih)) L

abbrev Shape : List Record → Cut → Type 0
Shape M c = (M ≡ []) ⊎ ((i h : ℕ) × (M ≡ Format i h ∷ c.now.records))

-- one that is no separator, behind the format
shape_longer : (s : Sizes) (M : List Record) (r : Record) (c : Cut) → rules_first s rules_start r ≡ None → IsSome (rules_state s (M ++ r ∷ [])) → Shape M c → Shape (M ++ r ∷ []) (record { closed = c.closed; now = record { first = c.now.first; records = c.now.records ++ r ∷ [] } })
shape_longer s M r c none some (inl e) = absurd (no (subst (λ K. IsSome (rules_state s (K ++ r ∷ []))) e some))
  where
    no : IsSome (rules_first s rules_start r) → ⊥
    no h = let f = subst (λ o. IsSome o) none h in cc (f)
shape_longer s M r c none some (inr (i, h, e)) = inr (i, h, ap (λ K. K ++ r ∷ []) e)

abbrev Shaped : Sizes → List Record → Type 0
Shaped s M = IsSome (rules_state s M) → (cut M).closed ≡ [] → Shape M (cut M)

shaped_push : (s : Sizes) (M : List Record) (r : Record) → Shaped s M → Shaped s (M ++ r ∷ [])
shaped_push s M r ih some none = subst (λ c. Shape (M ++ r ∷ []) c) (sym (cut_push M r)) (go r some (subst (λ (c : Cut). c.closed ≡ []) (cut_push M r) none))
  where
    old : (x : Record) → IsSome (rules_state s (M ++ x ∷ [])) → (cut M).closed ≡ [] → Shape M (cut M)
    old x q e = ih (rules_earlier s M x q) e

    go : (x : Record) → IsSome (rules_state s (M ++ x ∷ [])) → (cut_step (cut M) x).closed ≡ [] → Shape (M ++ x ∷ []) (cut_step (cut M) x)
    go (Format i h) q e = inr (i, h, ap (λ K. K ++ Format i h ∷ []) (format_empty s M i h q))
    go (Restarted rs ds) q e = absurd (push-not_nil (cut M).closed (cut M).now e)
    go (Begin u) q e = shape_longer s M (Begin u) (cut M) refl q (old (Begin u) q e)
    go (Forward u b) q e = shape_longer s M (Forward u b) (cut M) refl q (old (Forward u b) q e)
    go (Done u d a) q e = shape_longer s M (Done u d a) (cut M) refl q (old (Done u d a) q e)
    go (Commit u) q e = shape_longer s M (Commit u) (cut M) refl q (old (Commit u) q e)
    go (Ended u) q e = shape_longer s M (Ended u) (cut M) refl q (old (Ended u) q e)
    go (Solo u p b) q e = shape_longer s M (Solo u p b) (cut M) refl q (old (Solo u p b) q e)
    go AuditBegin q e = shape_longer s M AuditBegin (cut M) refl q (old AuditBegin q e)
    go (AuditClean b) q e = shape_longer s M (AuditClean b) (cut M) refl q (old (AuditClean b) q e)
    go (AuditFail b rs) q e = shape_longer s M (AuditFail b rs) (cut M) refl q (old (AuditFail b rs) q e)
    go (Back u b) q e = shape_longer s M (Back u b) (cut M) refl q (old (Back u b) q e)

-- a log of one epoch is its format and the records of the epoch
shaped : (s : Sizes) (L : List Record) → Shaped s L
shaped s L = by_push (Shaped s) (λ q e. inl refl) (shaped_push s) L

-- ---- a plain history
module _ (L : List Record) (plain : IsPlain L) where
  one_epoch : epochs L ≡ last_epoch L ∷ []
  one_epoch = ap (λ es. es ++ (cut L).now ∷ []) plain.no_restart

  honest : IsHonestIn (formatted_image (sizes_of L)) (last_epoch L)
  honest = (subst (λ es. AreHonest (sizes_of L) (formatted_image (sizes_of L)) es) one_epoch plain.history.honest).0

  pub image : IsImage (sizes_of L) (formatted_image (sizes_of L))
  image = formatted_is_image (sizes_of L) plain.history.some_index plain.history.some_heap

  pub sound : AreSound (formatted_image (sizes_of L)) (last_epoch L).records
  sound = undamaged_sound (formatted_image (sizes_of L)) (last_epoch L) plain.no_damage honest

  kept : EpochIsKept (sizes_of L) (formatted_image (sizes_of L)) (last_epoch L)
  kept = history_is_kept L (formatted_image (sizes_of L)) (last_epoch L) plain.history (subst (λ es. Contains es (last_epoch L)) (sym one_epoch) (0, omega arith, refl)) honest image (formatted_is_indexed (sizes_of L)) (formatted_is_tidy (sizes_of L))

  pub calls : KeepsCalls (sizes_of L) (last_epoch L).records
  calls = subst (λ K. KeepsCalls (sizes_of L) K) (undamaged_kept (last_epoch L) plain.no_damage) kept.kept.calls

  pub held : Held (sizes_of L) (formatted_image (sizes_of L)) (last_epoch L).records
  held = held_along (sizes_of L) (last_epoch L).records image calls sound

  -- what is picked from the log is picked from its epoch
  same_of : {B : Type 0} (h : Record → Option B) → ((i k : ℕ) → h (Format i k) ≡ None) → ((rs ds : List ℕ) → h (Restarted rs ds) ≡ None) → filter_map h L ≡ filter_map h (last_epoch L).records
  same_of h f g = by_epochs (sizes_of L) h f g L plain.history.legal.rules ∙ (ap (λ es. flat_map (λ x. filter_map h x.records) es) one_epoch ∙ append-nil (filter_map h (last_epoch L).records))

  done_by : Record → Option Record
  done_by (Done t c a) = Some (Done t c a)
  done_by _ = None

  -- an answer of the log is one of the epoch
  done_in : (t : ℕ) (c : Call) (a : Answer) → Contains L (Done t c a) → Contains (last_epoch L).records (Done t c a)
  unfolding done_by
  done_in t c a h =
      let k = in_filter_map done_by L (Done t c a) (Done t c a) h refl in
      let m = from_filter_map done_by (last_epoch L).records (Done t c a) (subst (λ rs. Contains rs (Done t c a)) (same_of done_by (λ i k. refl) (λ rs ds. refl)) k) in
      subst (λ r. Contains (last_epoch L).records r) (is m.0 m.2) m.1
    where
      is : (r : Record) → done_by r ≡ Some (Done t c a) → r ≡ Done t c a
      is (Done u d b) f = cc (f)
      is (Format i k) f = absurd (cc (f))
      is (Begin u) f = absurd (cc (f))
      is (Forward u b) f = absurd (cc (f))
      is (Commit u) f = absurd (cc (f))
      is (Ended u) f = absurd (cc (f))
      is (Solo u p b) f = absurd (cc (f))
      is AuditBegin f = absurd (cc (f))
      is (AuditClean b) f = absurd (cc (f))
      is (AuditFail b rs) f = absurd (cc (f))
      is (Restarted rs ds) f = absurd (cc (f))
      is (Back u b) f = absurd (cc (f))

  cells_same : cells_taken L ≡ cells_taken (last_epoch L).records
  cells_same = same_of cell_by (λ i k. refl) (λ rs ds. refl)

  entries_same : entries_taken L ≡ entries_taken (last_epoch L).records
  entries_same = same_of entry_by (λ i k. refl) (λ rs ds. refl)

  -- ---- full databases
  pub heap_filled : (t : ℕ) (c : Call) → Contains L (Done t c FullHeap) → 7 * (sizes_of L).heap ≤ length (cells_taken L)
  heap_filled t c h = rw cells_same (block_of_pairs (cells_taken (last_epoch L).records) (sizes_of L).index 1 7 (sizes_of L).heap (λ x i l k. all x l (1 + i) (omega arith) (omega (arith, k))))
    where
      all : AllHeap (sizes_of L) (last_epoch L).records
      all = held.told t c FullHeap (done_in t c FullHeap h)

  pub index_filled : (t : ℕ) (c : Call) → Contains L (Done t c FullIndex) → 21 * (sizes_of L).index ≤ length (entries_taken L)
  index_filled t c h = rw entries_same (block_of_pairs (entries_taken (last_epoch L).records) 0 0 21 (sizes_of L).index (λ x i l k. all x l (0 + i) (omega (arith, k))))
    where
      all : AllIndex (sizes_of L) (last_epoch L).records
      all = held.told t c FullIndex (done_in t c FullIndex h)

  -- ---- what is taken
  module _ (all : AllAnswer L) where
    steady_now : (t : ℕ) → IsSteady t (last_epoch L).records
    steady_now t = ⊎_elim (λ e. absurd (no e)) (λ f. subst (λ K. IsSteady t K) f.2 (all.steady t)) (shaped (sizes_of L) L plain.history.legal.rules plain.no_restart)
      where
        no : L ≡ [] → ⊥
        no e = let none : (sizes_of L).index ≡ 0 = ap (λ K. (sizes_of K).index) e in let some = plain.history.some_index in omega (arith, none, some)

    begun_same : begun L ≡ begun (last_epoch L).records
    begun_same = same_of begin_by (λ i k. refl) (λ rs ds. refl)

    committed_same : committed L ≡ committed (last_epoch L).records
    committed_same = same_of commit_by (λ i k. refl) (λ rs ds. refl)

    commits_now : (t : ℕ) → Contains (begun (last_epoch L).records) t → Contains (committed (last_epoch L).records) t
    commits_now t h = subst (λ ts. Contains ts t) committed_same (all.commits t (subst (λ ts. Contains ts t) (sym begun_same) h))

    calls_same : (t : ℕ) → calls_of t L ≡ calls_of t (last_epoch L).records
    calls_same t = same_of (call_by t) (λ i k. refl) (λ rs ds. refl)

    inserts_same : inserts L ≡ sum_by (inserts_of (last_epoch L).records) (committed (last_epoch L).records)
    inserts_same = ap (λ ts. sum_by (inserts_of L) ts) committed_same ∙ each (committed (last_epoch L).records)
      where
        one : (t : ℕ) → inserts_of L t ≡ inserts_of (last_epoch L).records t
        one t = ap (λ cs. length (filter (λ p. is_insert p.0) cs)) (calls_same t)

        each : (ts : List ℕ) → sum_by (inserts_of L) ts ≡ sum_by (inserts_of (last_epoch L).records) ts
        each ts = ap (λ f. sum_by f ts) (fun_ext one)

    pub cells_few : length (cells_taken L) ≤ inserts L
    cells_few = rw (cells_same, inserts_same) (few_cells (sizes_of L) (formatted_image (sizes_of L)) (last_epoch L).records calls sound (now_inside L) steady_now commits_now)

    pub entries_few : length (entries_taken L) ≤ inserts L
    entries_few = rw (entries_same, inserts_same) (few_entries (sizes_of L) (formatted_image (sizes_of L)) (last_epoch L).records calls sound (now_inside L) steady_now commits_now)

-- ---- the laws
pub full_is_filled : FullIsFilled
full_is_filled L t c plain = (heap_filled L plain t c, index_filled L plain t c)

pub takes_few : TakesFew
takes_few L plain all = (cells_few L plain all, entries_few L plain all)

pub none_is_full : NoneIsFull
none_is_full L t c plain all = (
  (λ less h. omega (arith, less, heap_filled L plain t c h, cells_few L plain all)),
  (λ less h. omega (arith, less, index_filled L plain t c h, entries_few L plain all)),
)
