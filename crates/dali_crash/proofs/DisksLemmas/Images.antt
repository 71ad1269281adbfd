-- The file of the next image, over a whole checkpoint.
use Rattle.std.proofs.Common.{◌≡◌, ℕ, ◌+◌, false, List, ◌++◌, length, take, drop, refl, ap, sym, subst, ◌∙◌, arith, append_assoc, length-append}
use Rattle.std.specs.Prelude.{codes}
use Rattle.std.proofs.lemmas.List.{drop_at, length-take-le}
use Rattle.dali_geometry.specs.Sizes.{Sizes}
use Rattle.dali_geometry.specs.Places.{regions}
use Rattle.dali_bytes.specs.Fields.{number32, number64}
use Rattle.dali_bytes.proofs.Numbers.{length-number32, length-number64}
use Rattle.dali_region.specs.declared.Side.{Side}
use Rattle.dali_store.specs.Store.{Files as Disk}
use Rattle.dali_crash.specs.Checkpoints.{Head, Point, StoreStep, Does, Starts, Keeps, Copies, Skips, WritesHead, Syncs, Turns, CopyFails, HeadFails, SyncFails, TurnFails, Finishes, side_of, target, image_in, IsPointStep}
use Rattle.dali_crash.proofs.StoreStarts.{store_goes}
use Rattle.dali_crash.specs.Disks.Disks.{header_bytes, table_bytes, IsImageOf, image_file}
use Rattle.dali_crash.specs.Disks.Places.{place_of, ReadsPlaces, ReadsHead}
use Rattle.dali_crash.specs.Disks.Bridges.{is_image_write}
use Rattle.dali_crash.specs.Disks.Images.{next_file, ReadsWords, ReadsNextHead, HeadIsRead, QuietIsRead, SyncHolds, HeldGoesOn}
use Rattle.dali_crash.proofs.DisksLemmas.Places.{image_is_read, before_it, there, behind_it}
use Rattle.dali_crash.proofs.DisksLemmas.Bridges.{file_named}

-- ---- the head
pub eight_fields : (a b : List ℕ) (m n : ℕ) → length a ≡ m → length b ≡ n → length (a ++ b) ≡ m + n
eight_fields a b m n e f = length-append a b ∙ (ap (λ k. k + length b) e ∙ ap (λ k. m + k) f)

pub header_is_64 : (s : Sizes) (h : Head) → length (header_bytes s h) ≡ 64
header_is_64 s h =
    eight_fields (codes "DALIIMG1") _ 8 56 refl
    (eight_fields (number32 s.index) _ 4 52 (length-number32 s.index)
    (eight_fields (number32 s.heap) _ 4 48 (length-number32 s.heap)
    (eight_fields (number64 h.number) _ 8 40 (length-number64 h.number)
    (eight_fields (number64 h.place) _ 8 32 (length-number64 h.place)
    (eight_fields (number64 h.first) _ 8 24 (length-number64 h.first)
    (eight_fields (number64 h.weight) _ 8 16 (length-number64 h.weight)
    (eight_fields (number64 h.next) _ 8 8 (length-number64 h.next)
    (length-number64 (length (table_bytes h.table))))))))))

pub head_is_read : HeadIsRead
head_is_read s h old mid new first inside second = record {
  places = λ r lt. before_it mid new (table_bytes h.table) (place_of (regions s)) inside second 512 (place_of r) (omega (arith, lt))
      ∙ ap (take 512) (behind_it old mid (header_bytes s h) 0 (omega arith) first (place_of r) (omega (arith, header_is_64 s h)));
  head = record {
    header = before_it mid new (table_bytes h.table) (place_of (regions s)) inside second 64 0 (omega arith)
        ∙ (ap (λ (n : ℕ). take n mid) (sym (header_is_64 s h)) ∙ there old mid (header_bytes s h) 0 (omega arith) first);
    rest = drop (place_of (regions s) + length (table_bytes h.table)) mid;
    table = ap (drop (place_of (regions s))) whole ∙ drop_at (take (place_of (regions s)) mid) (table_bytes h.table ++ drop (place_of (regions s) + length (table_bytes h.table)) mid) (place_of (regions s)) size;
  };
}
  where
    size : length (take (place_of (regions s)) mid) ≡ place_of (regions s)
    size = length-take-le (place_of (regions s)) mid inside

    whole : new ≡ take (place_of (regions s)) mid ++ (table_bytes h.table ++ drop (place_of (regions s) + length (table_bytes h.table)) mid)
    whole = second ∙ append_assoc (take (place_of (regions s)) mid) (table_bytes h.table) (drop (place_of (regions s) + length (table_bytes h.table)) mid)

-- ---- steps

-- sizes, side, words and head of the next image are as before
pub record IsLike (p q : Point) : Type 0 where
  sizes : q.core.system.sizes ≡ p.core.system.sizes
  current : q.core.vault.current ≡ p.core.vault.current
  told : q.told ≡ p.told
  heads : q.heads ≡ p.heads

pub over : (p q : Point) → IsLike p q → (P : Sizes → Side → (Side → ℕ → List ℕ) → (Side → Head) → Type 0) → P p.core.system.sizes (target p) p.told p.heads → P q.core.system.sizes (target q) q.told q.heads
over p q like P x =
    subst (λ z. P z (target q) q.told q.heads) (sym like.sizes)
    (subst (λ (n : ℕ). P p.core.system.sizes (side_of (n + 1)) q.told q.heads) (sym like.current)
    (subst (λ t. P p.core.system.sizes (target p) t q.heads) (sym like.told)
    (subst (λ h. P p.core.system.sizes (target p) p.told h) (sym like.heads) x)))

-- no step but a write to the image changes them
pub quiet_like : (p q : Point) (x : StoreStep) → IsPointStep p x q → is_image_write x ≡ false → q.core.vault.current ≡ p.core.vault.current → IsLike p q
quiet_like p q x s quiet current = by_step x s quiet
  where
    like : q.told ≡ p.told → q.heads ≡ p.heads → IsLike p q
    like told heads = record { sizes = (store_goes p q x s).sizes; current = current; told = told; heads = heads }

    by_step : (y : StoreStep) → IsPointStep p y q → is_image_write y ≡ false → IsLike p q
    by_step (Does y) st e = like (ap (λ (z : Point). z.told) st.2) (ap (λ (z : Point). z.heads) st.2)
    by_step Starts st e = like (ap (λ (z : Point). z.told) st.1) (ap (λ (z : Point). z.heads) st.1)
    by_step Keeps st e = like (ap (λ (z : Point). z.told) st.4) (ap (λ (z : Point). z.heads) st.4)
    by_step (Copies r n) st e = absurd (cc)
    by_step (Skips r n) st e = like (ap (λ (z : Point). z.told) st.5) (ap (λ (z : Point). z.heads) st.5)
    by_step (WritesHead h) st e = absurd (cc)
    by_step Syncs st e = like (ap (λ (z : Point). z.told) st.1) (ap (λ (z : Point). z.heads) st.1)
    by_step Turns st e = like (ap (λ (z : Point). z.told) st.5) (ap (λ (z : Point). z.heads) st.5)
    by_step (CopyFails r ws n) st e = absurd (cc)
    by_step (HeadFails h n) st e = absurd (cc)
    by_step (SyncFails n) st e = like (ap (λ (z : Point). z.told) st.1) (ap (λ (z : Point). z.heads) st.1)
    by_step (TurnFails n) st e = like (ap (λ (z : Point). z.told) st.5) (ap (λ (z : Point). z.heads) st.5)
    by_step Finishes st e = like (ap (λ (z : Point). z.told) st.1) (ap (λ (z : Point). z.heads) st.1)

pub quiet_is_read : QuietIsRead
quiet_is_read p q x old new s quiet current file =
    let like : IsLike p q = quiet_like p q x s quiet current in
    record {
      words = λ reads. over p q like (λ z a t h. ReadsPlaces z (t a) (image_file a new)) (subst (ReadsPlaces p.core.system.sizes (p.told (target p))) (sym file) reads);
      head = λ reads. over p q like (λ z a t h. ReadsHead z (h a) (image_file a new)) (subst (ReadsHead p.core.system.sizes (p.heads (target p))) (sym file) reads);
    }

pub held_goes_on : (old new : Disk → Type 0) → HeldGoesOn old new
held_goes_on old new p q x s quiet current from held c left =
    let w = from c left in
    over p q (quiet_like p q x s quiet current) (λ z a t h. IsImageOf z (image_file a c) (h a) (image_in z t a))
    (subst (λ bytes. IsImageOf p.core.system.sizes bytes (p.heads (target p)) (image_in p.core.system.sizes p.told (target p))) (sym w.2) (held w.0 w.1))

-- the point behind a write to the image, whose words and head are these
module _ (p q : Point) (new : Disk) (sizes : q.core.system.sizes ≡ p.core.system.sizes) (current : q.core.vault.current ≡ p.core.vault.current) where
  pub words_at : (t : Side → ℕ → List ℕ) → q.told ≡ t → ReadsPlaces p.core.system.sizes (t (target p)) (next_file p new) → ReadsWords q new
  words_at t told reads =
      subst (λ z. ReadsPlaces z (q.told (target q)) (next_file q new)) (sym sizes)
      (subst (λ (n : ℕ). ReadsPlaces p.core.system.sizes (q.told (side_of (n + 1))) (image_file (side_of (n + 1)) new)) (sym current)
      (subst (λ (u : Side → ℕ → List ℕ). ReadsPlaces p.core.system.sizes (u (target p)) (next_file p new)) (sym told) reads))

  pub head_at : (k : Side → Head) → q.heads ≡ k → ReadsHead p.core.system.sizes (k (target p)) (next_file p new) → ReadsNextHead q new
  head_at k heads reads =
      subst (λ z. ReadsHead z (q.heads (target q)) (next_file q new)) (sym sizes)
      (subst (λ (n : ℕ). ReadsHead p.core.system.sizes (q.heads (side_of (n + 1))) (image_file (side_of (n + 1)) new)) (sym current)
      (subst (λ (u : Side → Head). ReadsHead p.core.system.sizes (u (target p)) (next_file p new)) (sym heads) reads))

pub sync_holds : (may : Disk → Type 0) → SyncHolds may
sync_holds may p fs words head fits synced c left = subst (λ bytes. IsImageOf p.core.system.sizes bytes (p.heads (target p)) (image_in p.core.system.sizes p.told (target p)))
    (sym (file_named c fs (target p) (synced c left)))
    (image_is_read p.core.system.sizes (p.heads (target p)) (p.told (target p)) (next_file p fs) head words fits)
