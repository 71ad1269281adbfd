-- What a write to a segment, and a removal, do to the log.
use Rattle.std.specs.Prelude.{◌⊎◌, ◌≢◌, ◌*◌, Bool, true, false, replicate, if◌then◌else◌}
use Rattle.std.proofs.Common.{◌≡◌, inl, inr, ⊎_elim, ℕ, ◌+◌, ◌≤◌, ◌<◌, List, [], length, refl, sym, ◌∙◌, ap, subst, arith}
use Rattle.dali_store.specs.Store.{Files, Torn, Holds, SameBut as SameFiles, TornIn as TornFile, Follows as FilesFollow}
use Rattle.dali_store.specs.declared.store.FileName.TheVariants.{Log, ImageA, ImageB, Anchor}
use Rattle.dali_files.specs.Files.{Contents, SameBut, TornIn, Follows}
use Rattle.dali_files.specs.declared.key.FileKey.{FileKey}
use Rattle.dali_files.specs.declared.key.FileKey.TheVariants.{ImageA as KeyA, ImageB as KeyB, Anchor as KeyAnchor, Segment}
use Rattle.dali_segments.specs.Segments.{mark, is_dropped, piece_by, piece, log_of, store_of, Leaves}
use Rattle.dali_segments.proofs.Joins.{joined_same, torn_joined, holds_joined}

abbrev pub number_of : FileKey → ℕ
number_of (Segment n) = n
number_of KeyA = 0
number_of KeyB = 0
number_of KeyAnchor = 0

abbrev pub is_segment : FileKey → Bool
is_segment (Segment n) = true
is_segment KeyA = false
is_segment KeyB = false
is_segment KeyAnchor = false

true_false : true ≡ false → ⊥
true_false e = cc

-- no image is a segment, and segments differ by their numbers
pub no_segment : (key : FileKey) (n : ℕ) → is_segment key ≡ false → key ≢ Segment n
no_segment key n is same = true_false (sym (ap is_segment same) ∙ is)

pub other_segment : (k n : ℕ) → k ≢ n → Segment k ≢ Segment n
other_segment k n differs same = differs (ap number_of same)

-- the images are the same behind a change of a segment
pub images_same : (size n : ℕ) (old new : Contents) → SameBut (Segment n) old new → SameFiles Log (store_of size old) (store_of size new)
images_same size n old new same Log differs = absurd (differs refl)
images_same size n old new same ImageA differs = same KeyA (no_segment KeyA n refl)
images_same size n old new same ImageB differs = same KeyB (no_segment KeyB n refl)
images_same size n old new same Anchor differs = same KeyAnchor (no_segment KeyAnchor n refl)

-- a segment reads the same where the mark and its bytes are the same
pub piece_same : (size : ℕ) (old new : Contents) (n : ℕ) → length (new mark) ≡ length (old mark) → new (Segment n) ≡ old (Segment n) → piece size new n ≡ piece size old n
piece_same size old new n marks bytes =
    ap (λ (m : ℕ). piece_by size m (λ k. new (Segment k)) n) marks
    ∙ ap (λ (l : List ℕ). if is_dropped (length (old mark)) n then replicate size 0 else l) bytes

-- a dropped one reads as 00 whatever its bytes are
pub piece_dropped : (size : ℕ) (files : Contents) (n : ℕ) → is_dropped (length (files mark)) n ≡ true → piece size files n ≡ replicate size 0
piece_dropped size files n is = ap (λ (b : Bool). if b then replicate size 0 else files (Segment n)) is

pub piece_kept : (size : ℕ) (files : Contents) (n : ℕ) → is_dropped (length (files mark)) n ≡ false → piece size files n ≡ files (Segment n)
piece_kept size files n is = ap (λ (b : Bool). if b then replicate size 0 else files (Segment n)) is

pub marks_same : (k : ℕ) (old new : Contents) → k < 4095 → SameBut (Segment k) old new → length (new mark) ≡ length (old mark)
marks_same k old new lt same = ap length (same mark (other_segment 4095 k (λ is. omega (arith, is, lt))))

pub piece_other : (size k : ℕ) (old new : Contents) → k < 4095 → SameBut (Segment k) old new → (n : ℕ) → n ≢ k → piece size new n ≡ piece size old n
piece_other size k old new lt same n differs =
    piece_same size old new n (marks_same k old new lt same) (same (Segment n) (other_segment n k differs))

-- a removal of a dropped segment changes nothing of the log
pub log_emptied : (size k : ℕ) (old new : Contents) → k < 4095 → SameBut (Segment k) old new → is_dropped (length (old mark)) k ≡ true → log_of size new ≡ log_of size old
log_emptied size k old new lt same dropped =
    joined_same size (λ n. piece size old n) (λ n. piece size new n) 0 4095 (λ n from below. each n (by_place n))
  where
    marks : length (new mark) ≡ length (old mark)
    marks = marks_same k old new lt same

    by_place : (n : ℕ) → (n ≡ k) ⊎ (n ≢ k)
    by_place n = grind arith

    here : piece size new k ≡ piece size old k
    here =
        piece_dropped size new k (ap (λ (m : ℕ). is_dropped m k) marks ∙ dropped)
        ∙ sym (piece_dropped size old k dropped)

    each : (n : ℕ) → (n ≡ k) ⊎ (n ≢ k) → piece size new n ≡ piece size old n
    each n (inl is) = subst (λ (i : ℕ). piece size new i ≡ piece size old i) (sym is) here
    each n (inr differs) = piece_other size k old new lt same n differs

-- files in which a segment is written to that isn't dropped: it is full, or none with bytes stands behind it
module _ (size : ℕ) (some : 1 ≤ size) (k at m : ℕ) (below : k < 4095) (inside : at + m ≤ size) (old new : Contents)
    (kept : is_dropped (length (old mark)) k ≡ false) (le : length (piece size old k) ≤ size)
    (last : (length (piece size old k) ≡ size) ⊎ ((n : ℕ) → k < n → n < 4095 → piece size old n ≡ []))
    (torn : TornIn (Segment k) at m old new) where
  here_old : piece size old k ≡ old (Segment k)
  here_old = piece_kept size old k kept

  here_new : piece size new k ≡ new (Segment k)
  here_new = piece_kept size new k (ap (λ (n : ℕ). is_dropped n k) (marks_same k old new below torn.same) ∙ kept)

  torn_piece : Torn at m (piece size old k) (piece size new k)
  torn_piece =
      subst (λ (l : List ℕ). Torn at m l (piece size new k)) (sym here_old)
      (subst (λ (l : List ℕ). Torn at m (old (Segment k)) l) (sym here_new) torn.torn)

  from_zero : k ≡ 0 + k
  from_zero = omega arith

  le_there : length (piece size old (0 + k)) ≤ size
  le_there = subst (λ (i : ℕ). length (piece size old i) ≤ size) from_zero le

  last_there : (length (piece size old (0 + k)) ≡ size) ⊎ ((n : ℕ) → 0 + k < n → n < 0 + 4095 → piece size old n ≡ [])
  last_there = ⊎_elim
      (λ full. inl (subst (λ (i : ℕ). length (piece size old i) ≡ size) from_zero full))
      (λ none. inr (λ n from lt. none n (omega (arith, from)) (omega (arith, lt))))
      last

  torn_there : Torn at m (piece size old (0 + k)) (piece size new (0 + k))
  torn_there = subst (λ (i : ℕ). Torn at m (piece size old i) (piece size new i)) from_zero torn_piece

  pub torn_log : Torn (k * size + at) m (log_of size old) (log_of size new)
  torn_log =
      torn_joined size some (λ n. piece size old n) (λ n. piece size new n) at m inside 0 k 4095 below
      (λ n from lt differs. piece_other size k old new below torn.same n (λ is. differs (is ∙ from_zero)))
      torn_there le_there last_there

  holds_there : (bytes : List ℕ) → Holds (old (Segment k)) at bytes (new (Segment k)) → Holds (piece size old (0 + k)) at bytes (piece size new (0 + k))
  holds_there bytes holds =
      subst (λ (i : ℕ). Holds (piece size old i) at bytes (piece size new i)) from_zero
      (
      subst (λ (l : List ℕ). Holds l at bytes (piece size new k)) (sym here_old)
      (subst (λ (l : List ℕ). Holds (old (Segment k)) at bytes l) (sym here_new) holds)
      )

  pub holds_log : (bytes : List ℕ) → length bytes ≡ m → ((n : ℕ) → n < k → length (piece size old n) ≡ size)
      → Holds (old (Segment k)) at bytes (new (Segment k)) → Holds (log_of size old) (k * size + at) bytes (log_of size new)
  holds_log bytes long full holds =
      holds_joined size some (λ n. piece size old n) (λ n. piece size new n) at m inside bytes long 0 k 4095 below
      (λ n from lt. full n (omega (arith, lt)))
      (λ n from lt differs. piece_other size k old new below torn.same n (λ is. differs (is ∙ from_zero)))
      (holds_there bytes holds) torn_there le_there last_there

  pub torn_store : TornFile Log (k * size + at) m (store_of size old) (store_of size new)
  torn_store = record { torn = torn_log; same = images_same size k old new torn.same }

-- a write to a segment among all that a crash may leave
pub crash_write : (size k at m : ℕ) (outcomes later : Contents → Type 0) → Follows (TornIn (Segment k) at m) outcomes later
    → ((d e : Contents) → outcomes d → TornIn (Segment k) at m d e → TornFile Log (k * size + at) m (store_of size d) (store_of size e))
    → FilesFollow (TornFile Log (k * size + at) m) (Leaves size outcomes) (Leaves size later)
crash_write size k at m outcomes later follows step x left =
    let was = follows left.0 left.1 in (
      store_of size was.0,
      (was.0, was.1, refl),
      subst (λ (y : Files). TornFile Log (k * size + at) m (store_of size was.0) y) (sym left.2) (step was.0 left.0 was.1 was.2),
    )
