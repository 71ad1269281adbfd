-- A disk is opened as one thing, and read as one.
use Rattle.std.proofs.Common.{◌≡◌, ◌⊎◌, inl, inr, ℕ, zero, suc, ◌+◌, ◌*◌, ◌<◌, true, List, [], ◌∷◌, ◌++◌, length, drop, take, refl, ap, sym, subst, ◌∙◌, arith, append_assoc}
use Rattle.std.specs.Prelude.{flat_map, map}
use Rattle.dali_geometry.specs.Sizes.{Sizes}
use Rattle.dali_geometry.specs.Places.{regions}
use Rattle.dali_bytes.specs.Fields.{number32}
use Rattle.dali_att.specs.Table.{Table}
use Rattle.dali_record.specs.declared.operations.Pending.{Pending}
use Rattle.dali_record.specs.declared.records.Record.{Record}
use Rattle.dali_record.specs.Blocks.{AllAreWords}
use Rattle.dali_record.specs.Files.{Files, Row}
use Rattle.dali_record.specs.Reading.{numbers_at}
use Rattle.dali_record.specs.Spelling.{ascends, words_bytes}
use Rattle.dali_record.proofs.Fields.{reader_words}
use Rattle.dali_record.proofs.Readers.{some_is}
use Rattle.dali_store.specs.declared.store.FileName.{FileName}
use Rattle.dali_store.specs.Store.{Files as Disk}
use Rattle.dali_log.specs.Log.{TailOf}
use Rattle.dali_log.specs.Stream.{Reading}
use Rattle.dali_crash.specs.Checkpoints.{Head}
use Rattle.dali_crash.specs.Disks.Disks.{CanBeImage, head_of, txn_in, unchecked}
use Rattle.dali_crash.specs.Disks.Places.{place_of}
use Rattle.dali_crash.proofs.DisksLemmas.Once.{anchor_once}
use Rattle.dali_image.specs.Laws.{header_of, table_of}
use Rattle.dali_image.specs.Reading.{ReadsTable}
use Rattle.dali_image.specs.Rows.{rows_of}
use Rattle.dali_image.specs.declared.header.Expected.{Expected}
use Rattle.dali_image.specs.declared.header.Header.{Header}
use Rattle.dali_image.proofs.Kept.{rows_are_kept}
use Rattle.dali_image.proofs.OneHeader.{one_header}
use Rattle.dali_image.proofs.Passed.{what_passes, wanted}
use Rattle.dali_resume.specs.Again.{Outcome}
use Rattle.dali_resume.specs.Batches.{verdict_over}
use Rattle.dali_resume.specs.Onward.{HandedOut}
use Rattle.dali_recovery.specs.Reload.Reading.{FailsAt, IsBadBehind}
use Rattle.dali_recovery.proofs.ReloadLemmas.Tails.{has_batch, none_bad, one_tail}
use Rattle.dali_restart.specs.Opening.{IsFoundIn, IsImageIn, IsOpened, IsNoImage, expected, file_in}
use Rattle.dali_restart.specs.Laws.{IsOneOpening, OpensOnce, ReadsOnce}
use Rattle.dali_restart.specs.Restarting.{BeginsAt, IsBadAnywhere, IsReadAs}
use Rattle.dali_restart.proofs.Exact.{nowhere_bad, one_size}
use Rattle.dali_restart.proofs.Finding.{begun, files_in}
use Rattle.dali_recovery.proofs.Whole.{handed_same}
use Rattle.dali_recovery.proofs.ReloadLemmas.Whole.{apart}

-- ---- the words
words_once : (xs ys : List (List ℕ)) → length xs ≡ length ys → AllAreWords xs → AllAreWords ys
    → flat_map words_bytes xs ≡ flat_map words_bytes ys → xs ≡ ys
words_once [] [] n p q e = refl
words_once [] (b ∷ ys) n p q e = absurd (omega (arith, n))
words_once (a ∷ xs) [] n p q e = absurd (omega (arith, n))
words_once (a ∷ xs) (b ∷ ys) n p q e =
    let pair = some_is (a, flat_map words_bytes xs) (b, flat_map words_bytes ys)
    (sym ((reader_words 64).again a (flat_map words_bytes xs) p.0) ∙ (ap (numbers_at 64) e ∙ (reader_words 64).again b (flat_map words_bytes ys) q.0)) in
    ap (λ (w : List ℕ × List ℕ). w.0 ∷ xs) pair
    ∙ ap (λ l. b ∷ l) (words_once xs ys (omega (arith, n)) p.1 q.1 (ap (λ (w : List ℕ × List ℕ). w.1) pair))

-- ---- the image
record IsOneImage (h k : Header) (image other : List (List ℕ)) (m n : Table Pending) : Type 0 where
  header : h ≡ k
  words : image ≡ other
  table : m ≡ n

one_table : (bytes : List ℕ) (h : Header) (m n : Table Pending) → ReadsTable bytes h m → ReadsTable bytes h n → m ≡ n
one_table bytes h m n a b = let e = sym a.spells ∙ b.spells in cc

one_image_in :
    (bytes : List ℕ) (x : Expected) (h k : Header) (image other : List (List ℕ)) (m n : Table Pending) → IsImageIn bytes x h image m
    → IsImageIn bytes x k other n
    → AllAreWords image → AllAreWords other → IsOneImage h k image other m n
one_image_in bytes x h k image other m n a b p q =
    let same : h ≡ k = (one_header bytes h a.fits a.header).same k b.fits b.header in
    let size : length image ≡ length other = a.whole ∙ (ap (λ (g : Header). regions g.geometry) same ∙ sym b.whole) in
    record {
      header = same;
      words = words_once image other size p q (sym a.words.spells ∙ (ap (λ (l : ℕ). take (512 * l) (drop (place_of 0) bytes)) size ∙ b.words.spells));
      table = one_table bytes h m n a.table (subst (λ (g : Header). ReadsTable bytes g n) (sym same) b.table);
    }

one_alone : (s : Sizes) (h k : Header) (image other : List (List ℕ)) (m n : Table Pending) → IsNoImage s h image m → IsNoImage s k other n
    → IsOneImage h k image other m n
one_alone s h k image other m n a b = record { header = a.header ∙ sym b.header; words = a.words ∙ sym b.words; table = a.table ∙ sym b.table }

one_found :
    (fs : Disk) (s : Sizes) (c : ℕ) (h k : Header) (image other : List (List ℕ)) (m n : Table Pending) → IsFoundIn fs s c h image m
    → IsFoundIn fs s c k other n
    → AllAreWords image → AllAreWords other → IsOneImage h k image other m n
one_found fs s zero h k image other m n a b p q = one_alone s h k image other m n (a.none refl) (b.none refl)
one_found fs s (suc c) h k image other m n a b p q =
    one_image_in (file_in fs (suc c)) (expected s (suc c) (length fs.log)) h k image other m n (a.some (omega arith)) (b.some (omega arith)) p q

-- ---- once
pub opens_as :
    (fs : Disk) (s : Sizes) (c : ℕ) (h : Header) (image : List (List ℕ)) (m : Table Pending) (r : Reading) → IsOpened fs s c h image m r
    → AllAreWords image
    → (z : Sizes) (F : Files) → BeginsAt fs z F → IsOneOpening s z c h image m F
opens_as fs s c h image m r is words z F b =
    let size : s ≡ z = one_size fs s z is.log b.opened.log in
    let number : c ≡ F.gates = anchor_once fs.anchor c F.gates is.anchor b.opened.anchor in
    let other : IsFoundIn fs s c (header_of z (head_of F)) F.image (table_of F.table) =
    subst (λ (n : ℕ). IsFoundIn fs s n (header_of z (head_of F)) F.image (table_of F.table)) (sym number)
    (subst (λ (y : Sizes). IsFoundIn fs y F.gates (header_of z (head_of F)) F.image (table_of F.table)) (sym size) b.opened.image_is) in
    let one = one_found fs s c h (header_of z (head_of F)) image F.image m (table_of F.table) is.image_is other words b.words in
    record { sizes = size; gates = number; header = one.header; image_is = one.words; table = one.table }

-- ---- at all
opened_so :
    (fs : Disk) (s : Sizes) (c d : ℕ) (h k : Header) (image other : List (List ℕ)) (m n : Table Pending) (r : Reading) → c ≡ d
    → IsOneImage h k image other m n
    → IsOpened fs s c h image m r → IsOpened fs s d k other n r
opened_so fs s c d h k image other m n r e one is =
    subst (λ (t : Table Pending). IsOpened fs s d k other t r) one.table
    (subst (λ (l : List (List ℕ)). IsOpened fs s d k l m r) one.words
    (subst (λ (g : Header). IsOpened fs s d g image m r) one.header
    (subst (λ (b : ℕ). IsOpened fs s b h image m r) e is)))

alone_begins : (fs : Disk) (s : Sizes) (h : Header) (image : List (List ℕ)) (m : Table Pending) (r : Reading) → IsOpened fs s 0 h image m r
    → IsNoImage s h image m → AllAreWords image
    → BeginsAt fs s (unchecked s [])
unfolding number32
alone_begins fs s h image m r is alone words =
    let F = unchecked s [] in
    record {
      reader = r;
      opened =
          opened_so fs s 0 0 h (header_of s (head_of F)) image F.image m (table_of F.table) r refl
          (record { header = alone.header; words = alone.words; table = alone.table }) is;
      rows = record { count = omega arith; fit = tt; ascending = refl };
      words = subst AllAreWords alone.words words;
    }

image_begins :
    (fs : Disk) (s : Sizes) (c : ℕ) (h : Header) (image : List (List ℕ)) (m : Table Pending) (r : Reading) → IsOpened fs s c h image m r → 0 < c
    → AllAreWords image
    → (F : Files) × BeginsAt fs s F
image_begins fs s c h image m r is some words =
    let found = is.image_is.some some in
    let x = expected s c (length fs.log) in
    let p = what_passes (file_in fs c) h x m found.fits found.header found.good found.table in
    let size : h.geometry ≡ s = (wanted h x found.good).geometry in
    let F = files_in c p.head image [] in
    let header : header_of s p.head ≡ h = ap (λ (z : Sizes). header_of z p.head) (sym size) ∙ p.header_is in
    let fits : CanBeImage s p.head image = subst (λ (z : Sizes). CanBeImage z p.head image) size (p.fits image found.whole words) in (
      F,
      record {
        reader = r;
        opened =
            opened_so fs s c c h (header_of s p.head) image image m (table_of p.head.table) r refl
            (record { header = sym header; words = refl; table = p.table_is }) is;
        rows = record { count = fits.count; fit = fits.rows; ascending = fits.ascending };
        words = words;
      },
    )

opens_some : (fs : Disk) (s : Sizes) (c : ℕ) (h : Header) (image : List (List ℕ)) (m : Table Pending) (r : Reading) → IsOpened fs s c h image m r
    → AllAreWords image → (F : Files) × BeginsAt fs s F
opens_some fs s zero h image m r is words = (unchecked s [], alone_begins fs s h image m r is (is.image_is.none refl) words)
opens_some fs s (suc c) h image m r is words = image_begins fs s (suc c) h image m r is (omega arith) words

pub opens_once : OpensOnce
opens_once fs s c h image m r is words = (opens_some fs s c h image m r is words, opens_as fs s c h image m r is words)

-- ---- two rows of files of one disk are the same but for their batches
rows_same : (xs ys : List Row) → ascends (map txn_in xs) ≡ true → ascends (map txn_in ys) ≡ true → table_of xs ≡ table_of ys → xs ≡ ys
rows_same xs ys up also e = sym (rows_are_kept xs up) ∙ (ap rows_of e ∙ rows_are_kept ys also)

abbrev bare : Files → Files
bare F = files_in F.gates (head_of F) F.image []

pub record AreSame (s z : Sizes) (F G : Files) : Type 0 where
  pub sizes : s ≡ z
  pub files : bare F ≡ bare G

head_by : Header → List Row → Head
head_by h rows = record { number = h.number; place = h.place; first = h.first; weight = h.weight; next = h.next; table = rows }

pub begin_same : (fs : Disk) (s z : Sizes) (F G : Files) → BeginsAt fs s F → BeginsAt fs z G → AreSame s z F G
unfolding head_by
begin_same fs s z F G a b =
    let one = opens_as fs s F.gates (header_of s (head_of F)) F.image (table_of F.table) a.reader a.opened a.words z G b in
    let rows : F.table ≡ G.table = rows_same F.table G.table a.rows.ascending b.rows.ascending one.table in
    let heads : head_of F ≡ head_of G = ap (λ h. head_by h F.table) one.header ∙ ap (λ t. head_by (header_of z (head_of G)) t) rows in
    record {
      sizes = one.sizes;
      files = ap (λ c. files_in c (head_of F) F.image []) one.gates
          ∙ (ap (λ h. files_in G.gates h F.image []) heads ∙ ap (λ l. files_in G.gates (head_of G) l []) one.image_is);
    }

-- ---- one reading

module _ (log : List ℕ) (s : Sizes) (F : Files) (B : List (List Record)) (end : ℕ) (o : Outcome) (tail : TailOf log F.place B end)
    (verdict : verdict_over s F B ≡ HandedOut o) where
  pub one_outcome : (C : List (List Record)) (e : ℕ) (p : Outcome) → TailOf log F.place C e → verdict_over s F C ≡ HandedOut p → o ≡ p
  one_outcome C e p other also = handed_same o p (sym verdict ∙ (ap (verdict_over s F) (one_tail log F.place B C end e tail other).0 ∙ also))

  pub read_is_good : (at : ℕ) → IsBadBehind log s F at ⊎ FailsAt log s F at → ⊥
  read_is_good at (inl b) = none_bad log F.place b.front B end at b.bad tail
  read_is_good at (inr b) =
      let h = has_batch log F.place b.front B (b.done ++ b.failing ∷ []) end b.stands tail in
      let same : B ≡ b.front ++ (b.done ++ b.failing ∷ h.0) ∷ h.1 =
      h.2 ∙ ap (λ z. b.front ++ z ∷ h.1) (append_assoc b.done (b.failing ∷ []) h.0) in
      apart o _ (sym verdict ∙ (ap (verdict_over s F) same ∙ b.verdict h.0 h.1))

-- what is bad behind one row of files is so behind the other
abbrev pub IsBadThere : List ℕ → ℕ → Sizes → Files → Type 0
IsBadThere log at s F = IsBadBehind log s F at ⊎ FailsAt log s F at

-- which speaks of no batches but those read
abbrev with_bare : Files → Files → Files
with_bare F G = record F { batches = G.batches }

bad_behind_bare : (log : List ℕ) (at : ℕ) (s : Sizes) (F G : Files) → IsBadBehind log s F at → IsBadBehind log s (with_bare F G) at
bad_behind_bare log at s F G b =
    record { front = b.front; done = b.done; bad = b.bad; reached = b.reached; read = b.read; passes = record { rules = b.passes.rules; first = b.passes.first } }

fails_bare : (log : List ℕ) (at : ℕ) (s : Sizes) (F G : Files) → FailsAt log s F at → FailsAt log s (with_bare F G) at
fails_bare log at s F G b = record { front = b.front; done = b.done; failing = b.failing; stands = b.stands; place = b.place; verdict = b.verdict }

bad_bare : (log : List ℕ) (at : ℕ) (s : Sizes) (F G : Files) → IsBadThere log at s F → IsBadThere log at s (with_bare F G)
bad_bare log at s F G (inl b) = inl (bad_behind_bare log at s F G b)
bad_bare log at s F G (inr b) = inr (fails_bare log at s F G b)

pub bad_there : (log : List ℕ) (at : ℕ) (s z : Sizes) (F G : Files) → AreSame s z F G → IsBadThere log at z G → IsBadThere log at s F
bad_there log at s z F G same bad =
    bad_bare log at s (bare F) F
    (subst (IsBadThere log at s) (sym same.files) (subst (λ (y : Sizes). IsBadThere log at y (bare G)) (sym same.sizes) (bad_bare log at z G (bare G) bad)))

IsReadSo : List ℕ → Outcome → List (List Record) → ℕ → Sizes → Files → Type 0
IsReadSo log o B end s F = TailOf log F.place B end × (verdict_over s F B ≡ HandedOut o)

pub read_so : (log : List ℕ) (o : Outcome) (B : List (List Record)) (end : ℕ) (s z : Sizes) (F G : Files) → AreSame s z F G → TailOf log G.place B end
    → verdict_over z G B ≡ HandedOut o
    → TailOf log F.place B end × (verdict_over s F B ≡ HandedOut o)
unfolding IsReadSo
read_so log o B end s z F G same tail verdict =
    let there : IsReadSo log o B end z (bare G) = (tail, verdict) in
    subst (IsReadSo log o B end s) (sym same.files) (subst (λ (y : Sizes). IsReadSo log o B end y (bare G)) (sym same.sizes) there)

module _ (fs : Disk) (o : Outcome) (is : IsReadAs fs o) where
  read_once : (p : Outcome) → IsReadAs fs p → o ≡ p
  read_once p other =
      let here =
      read_so fs.log p other.batches other.end is.sizes other.sizes is.files other.files
      (begin_same fs is.sizes other.sizes is.files other.files is.image other.image) other.log other.verdict in
      one_outcome fs.log is.sizes is.files is.batches is.end o is.log is.verdict other.batches other.end p here.0 here.1

  nowhere : (file : FileName) (at : ℕ) → IsBadAnywhere fs file at → ⊥
  nowhere file at (inl store) =
      nowhere_bad fs is.sizes is.files.gates (header_of is.sizes (head_of is.files)) is.files.image
      (table_of is.files.table) is.image.reader file at is.image.opened store
  nowhere file at (inr tail) =
      read_is_good fs.log is.sizes is.files is.batches is.end o is.log is.verdict at
      (bad_there fs.log at is.sizes tail.sizes is.files tail.files (begin_same fs is.sizes tail.sizes is.files tail.files is.image tail.image) tail.bad)

pub reads_once : ReadsOnce
reads_once fs o is = (read_once fs o is, nowhere fs o is, begun fs is.sizes is.image.opened.log)
