-- What a checkpoint kept, and what is known of places in image files, goes on to hold.
use Rattle.std.proofs.Common.{◌≡◌, ℕ, ◌+◌, ◌-◌, ◌≤◌, Bool, true, false, List, [], ◌∷◌, ◌++◌, length, take, ap, sym, subst, ◌∙◌, ◌⊎◌, inl, inr, ⊎_elim, arith}
use Rattle.std.specs.Prelude.{◌^◌, ◌||◌, map, filter, not, sum_by}
use Rattle.std.specs.List.{list_any}
use Rattle.std.proofs.lemmas.List.{length-append, take-append-le, length_push}
use Rattle.std.proofs.lemmas.Bool.{or_cases}
use Rattle.dali_record.specs.declared.records.Record.{Record}
use Rattle.dali_record.specs.Log.{begun, ended}
use Rattle.dali_record.specs.Epochs.{separates, Epoch, last_epoch}
use Rattle.dali_record.specs.Damage.{has}
use Rattle.dali_record.specs.Spelling.{record_length}
use Rattle.dali_record.specs.Settled.{words_in, redo_all}
use Rattle.dali_record.specs.Files.{Files, row_of, next_after, table_before}
use Rattle.dali_record.proofs.Batches.{first_of_plain, number_is_length, Placed, placed_still}
use Rattle.dali_region.specs.State.{RegionState}
use Rattle.dali_runs.specs.State.{VaultState}
use Rattle.dali_runs.specs.Run.{Bases, log_in}
use Rattle.dali_runs.specs.Flushes.{with_batch, with_frame}
use Rattle.dali_runs.specs.Courses.{Moment}
use Rattle.dali_runs.proofs.OneMore.{is_inside, one_more, last_epoch-push}
use Rattle.dali_runs.proofs.Flushes.{log_with}
use Rattle.dali_runs.proofs.Courses.{Goes}
use Rattle.dali_crash.specs.Checkpoints.{Head, Copy}
use Rattle.dali_crash.specs.StoreRuns.{IsSettledAt, IsCopied, IsPlace, IsKept}
use Rattle.dali_crash.proofs.StepLeaves.{Onward}

-- ---- the place with one batch more
placed_frame : (bs : List (List Record)) (frame front : List Record) (place : ℕ) → list_any separates frame ≡ false → Placed bs place front → Placed (with_batch bs frame) place front
placed_frame bs [] front place inside p = p
placed_frame bs (r ∷ rs) front place inside p = placed_still bs (r ∷ rs) front place (first_of_plain (r ∷ rs) inside) p

-- the files with a frame hold n records where they held them before
pub held_frame : (F D : Files) (frame : List Record) (n : ℕ) → F ≡ with_frame D frame → n ≤ length (log_in D) → n ≤ length (log_in F)
held_frame F D frame n is h = omega (arith, h, ap length (log_with F D frame (ap (λ (f : Files). f.batches) is)), length-append (log_in D) frame)

place_frame : (F D : Files) (frame : List Record) (n place : ℕ) → list_any separates frame ≡ false → F ≡ with_frame D frame → n ≤ length (log_in D) → IsPlace D n place → IsPlace F n place
place_frame F D frame n place inside is h p =
    let log : log_in F ≡ log_in D ++ frame = log_with F D frame (ap (λ (f : Files). f.batches) is) in
    let front : take n (log_in F) ≡ take n (log_in D) = ap (take n) log ∙ take-append-le n (log_in D) frame h in
    subst (λ bs. Placed bs place (take n (log_in F))) (sym (ap (λ (f : Files). f.batches) is)) (subst (Placed (with_batch D.batches frame) place) (sym front) (placed_frame D.batches frame (take n (log_in D)) place inside p))

-- ---- what a checkpoint kept
-- the log is the same, or has one record more
pub kept_goes :
    (m n : Moment) (h : Head) (v w : VaultState) (old new : Files → Type 0) (frame : List Record) → IsKept m.log v old h → Goes m n → w.current ≡ v.current → list_any separates frame ≡ false
    → ((F : Files) → new F → (D : Files) × old D × ((F ≡ D) ⊎ (F ≡ with_frame D frame)))
    → IsKept n.log w new h
kept_goes m n h v w old new frame kept goes current inside store = ⊎_elim same more goes.log
  where
    held : (F : Files) → new F → h.first ≤ length (log_in F)
    held F l = let s = store F l in ⊎_elim (λ e. subst (λ (f : Files). h.first ≤ length (log_in f)) (sym e) (kept.held s.0 s.1)) (λ e. held_frame F s.0 frame h.first e (kept.held s.0 s.1)) s.2

    place : (F : Files) → new F → IsPlace F h.first h.place
    place F l = let s = store F l in ⊎_elim (λ e. subst (λ (f : Files). IsPlace f h.first h.place) (sym e) (kept.place s.0 s.1)) (λ e. place_frame F s.0 frame h.first h.place inside e (kept.held s.0 s.1) (kept.place s.0 s.1)) s.2

    moved : w.current ≤ h.first + 2 ^ 61
    moved = omega (arith, current, kept.moved)

    same : n.log ≡ m.log → IsKept n.log w new h
    same e = subst (λ L. IsKept L w new h) (sym e) (record { number = kept.number ∙ ap (λ c. c + 1) (sym current); from = kept.from; to = kept.to; weight = kept.weight; next = kept.next; table = kept.table; moved = moved; short = kept.short; held = held; place = place })

    more : (x : Record) × (is_inside x ≡ true) × (n.log ≡ m.log ++ x ∷ []) → IsKept n.log w new h
    more s = subst (λ L. IsKept L w new h) (sym s.2) (record {
      number = kept.number ∙ ap (λ c. c + 1) (sym current);
      from = subst (λ (e : Epoch). e.first ≤ h.first) (sym last) kept.from;
      to = omega (arith, kept.to, length_push m.log s.0);
      weight = kept.weight ∙ ap (sum_by record_length) (sym front);
      next = kept.next ∙ ap next_after (sym front);
      table = kept.table ∙ sym (ap (λ (e : Epoch). table_before e h.first) last ∙ ap (λ P. map (row_of P) (filter (λ t. not (has (ended P) t)) (begun P))) rows);
      moved = moved;
      short = kept.short;
      held = held;
      place = place;
    })
      where
        last : last_epoch (m.log ++ s.0 ∷ []) ≡ one_more (last_epoch m.log) s.0
        last = last_epoch-push m.log s.0 s.1

        front : take h.first (m.log ++ s.0 ∷ []) ≡ take h.first m.log
        front = take-append-le h.first m.log (s.0 ∷ []) kept.to

        rows : take (h.first - (last_epoch m.log).first) ((last_epoch m.log).records ++ s.0 ∷ []) ≡ take (h.first - (last_epoch m.log).first) (last_epoch m.log).records
        rows = take-append-le (h.first - (last_epoch m.log).first) (last_epoch m.log).records (s.0 ∷ []) (omega (arith, kept.to, number_is_length m.log))

-- ---- what is known of a place
pub settled_more : (base : List (List ℕ)) (e : Epoch) (x : Record) (r n : ℕ) (ws : List ℕ) → IsSettledAt base e r n ws → IsSettledAt base (one_more e x) r n ws
settled_more base e x r n ws is = record {
  to = omega (arith, is.to, length_push e.records x);
  words = is.words ∙ ap (λ E. words_in (redo_all base E) r) (sym (take-append-le (n - e.first) e.records (x ∷ []) (omega (arith, is.to))));
}

copied_more : (base : List (List ℕ)) (e : Epoch) (x : Record) (r : ℕ) (g : RegionState) (k : Copy) (ws : List ℕ) → IsCopied base e r g k ws → IsCopied base (one_more e x) r g k ws
copied_more base e x r g k ws is = ⊎_elim (λ a. inl (settled_more base e x r k.at ws a)) (λ a. inr a) is

pub copied_goes : (bases : Bases) (m n : Moment) (r : ℕ) (g : RegionState) (k : Copy) (ws : List ℕ) → Goes m n → IsCopied (bases (last_epoch m.log).first) (last_epoch m.log) r g k ws → IsCopied (bases (last_epoch n.log).first) (last_epoch n.log) r g k ws
copied_goes bases m n r g k ws goes is = ⊎_elim
    (λ e. subst (λ L. IsCopied (bases (last_epoch L).first) (last_epoch L) r g k ws) (sym e) is)
    (λ s. subst (λ L. IsCopied (bases (last_epoch L).first) (last_epoch L) r g k ws) (sym s.2) (subst (λ (e : Epoch). IsCopied (bases e.first) e r g k ws) (sym (last_epoch-push m.log s.0 s.1)) (copied_more (bases (last_epoch m.log).first) (last_epoch m.log) s.0 r g k ws is)))
    goes.log

-- the region goes on, and an audit may pass it
pub copied_onward : (base : List (List ℕ)) (e : Epoch) (r : ℕ) (passes : Bool) (g h : RegionState) (k : Copy) (ws : List ℕ) → Onward passes g h → IsCopied base e r g k ws → IsCopied base e r h (record k { passed = k.passed || passes }) ws
copied_onward base e r passes g h k ws on is = ⊎_elim (λ a. inl (record { to = a.to; words = a.words })) (λ a. inr (record { poked = on.poked a.poked; missed = λ f. ⊎_elim (λ was. on.missed (a.missed was)) (λ now. on.checked now a.poked) (or_cases k.passed passes f) })) is
