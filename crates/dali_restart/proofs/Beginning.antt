-- Where the disk spells files that are found, their image is what stands there, and a recovery begins behind it.
use Rattle.std.proofs.Common.{◌≡◌, inl, ℕ, zero, suc, ◌+◌, ◌*◌, ◌<◌, ◌≤◌, ◌^◌, List, [], ◌∷◌, ◌++◌, length, drop, take, replicate, None, refl, ap, sym, subst, ◌∙◌, arith, append_assoc, length-append, take-append-drop}
use Rattle.std.specs.Prelude.{flat_map, nat_le, sum_by}
use Rattle.std.specs.List.{AllByRecursion}
use Rattle.std.proofs.lemmas.Bool.{leb-true, and_parts}
use Rattle.std.proofs.lemmas.List.{drop_at, drop-drop, take_at}
use Rattle.std.proofs.lemmas.List.Sums.{sum_by-append, sum_by-cons}
use Rattle.dali_lists.proofs.Members.{all_append}
use Rattle.dali_geometry.specs.Sizes.{AreInRange, Sizes}
use Rattle.dali_geometry.specs.Places.{formatted_image, regions}
use Rattle.dali_bytes.specs.Cursor.{IsBytes}
use Rattle.dali_bytes.specs.Fields.{number32}
use Rattle.dali_att.specs.Table.{Table}
use Rattle.dali_record.specs.declared.operations.Pending.{Pending}
use Rattle.dali_record.specs.declared.records.Record.{Record}
use Rattle.dali_record.specs.declared.records.Record.TheVariants.{Format}
use Rattle.dali_record.specs.Blocks.{AreWords, AllAreWords}
use Rattle.dali_record.specs.Files.{Files, batch_length}
use Rattle.dali_record.specs.Legal.{sizes_of}
use Rattle.dali_record.specs.Spelling.{CanBeSpelled, words_bytes}
use Rattle.dali_record.proofs.Lengths.{words_are_8}
use Rattle.dali_store.specs.Store.{Files as Disk}
use Rattle.dali_log.specs.Batch.{IsBody, batch, batches}
use Rattle.dali_log.specs.Log.{AreSpelled, HasFormat, LogOf, bodies, body_bytes}
use Rattle.dali_log.specs.Stream.{IsReadFrom, Reading}
use Rattle.dali_log.proofs.Fronts.{empty_run}
use Rattle.dali_crash.specs.Checkpoints.{Head, side_of}
use Rattle.dali_crash.specs.Disks.Disks.{IsImageOf, Spells, head_of, header_bytes, sizes_in, table_bytes, unchecked}
use Rattle.dali_log.specs.Anchors.{IsAnchor}
use Rattle.dali_crash.specs.Disks.Places.{place_of}
use Rattle.dali_crash.proofs.DisksLemmas.Bridges.{ends_at}
use Rattle.dali_image.specs.Decoding.{table_in}
use Rattle.dali_image.specs.Headers.{bad_header}
use Rattle.dali_image.specs.Laws.{CanBeTable, header_of, table_of}
use Rattle.dali_image.specs.Reading.{ReadsRegions, ReadsTable, table_part, table_place}
use Rattle.dali_image.specs.declared.header.Expected.{Expected}
use Rattle.dali_image.specs.declared.header.Header.{Header}
use Rattle.dali_image.proofs.Again.{tables_are_read_again}
use Rattle.dali_image.proofs.OneHeader.{heading_is_64}
use Rattle.dali_resume.specs.Onward.{going_at}
use Rattle.dali_resume.specs.Interrupted.Found.{FindsIt}
use Rattle.dali_restart.proofs.RenewalLemmas.Images.{of_side}
use Rattle.dali_recovery.specs.Standing.{Stands, Starts}
use Rattle.dali_recovery.specs.declared.recovery.Recovery.{Recovery}
use Rattle.dali_recovery.proofs.Whole.{begins_behind}
use Rattle.dali_recovery.specs.Reload.Reading.{IsAtImage}
use Rattle.dali_restart.specs.Opening.{BeginsWith, IsImageIn, IsInRange, IsOpened, IsNoImage, expected, file_in}
use Rattle.dali_restart.specs.Laws.{IsOneOpening}
use Rattle.dali_restart.specs.Restarting.{BeginsAt, with_words}
use Rattle.dali_restart.proofs.Bytes.{table_is_bytes}
use Rattle.dali_restart.proofs.Once.{opens_as}
use Rattle.dali_restart.proofs.Started.{are_started}
use Rattle.dali_restart.proofs.Wanted.{right_header}

-- ---- the log's first batch
one_first : (b : List Record) (L rest : List (List Record)) (c : List Record) → b ∷ L ≡ c ∷ rest → b ≡ c
one_first b L rest c e = cc

no_batches : (c : List Record) (rest : List (List Record)) → [] ≡ c ∷ rest → ⊥
no_batches c rest e = cc

pub begins_by : (fs : Disk) (L : List (List Record)) (end : ℕ) → LogOf fs.log L end → BeginsWith fs (sizes_of (flat_map (λ b. b) L))
begins_by fs [] end log = absurd (no_batches (Format log.format.0 log.format.1 ∷ []) log.format.2 log.format.3)
begins_by fs (b ∷ L) end log =
    let r = Format log.format.0 log.format.1 in
    let first = r ∷ [] in
    let same : b ≡ first = one_first b L log.format.2 first log.format.3 in
    let s : Sizes = record { index = log.format.0; heap = log.format.1 } in
    let sizes : sizes_of (b ++ flat_map (λ c. c) L) ≡ s = ap (λ (c : List Record). sizes_of (c ++ flat_map (λ d. d) L)) same in
    let can : AreSpelled first = subst AreSpelled same log.front.each.0 in
    let bytes = batch (body_bytes first) ++ [] in
    let rest = batches (bodies L) ++ drop end fs.log in
    let whole : fs.log ≡ bytes ++ rest =
    sym (take-append-drop end fs.log)
    ∙ (ap (λ (l : List ℕ). l ++ drop end fs.log) (log.front.spells ∙ ap (λ (c : List Record). batch (body_bytes c) ++ batches (bodies L)) same)
    ∙ (append_assoc (batch (body_bytes first)) (batches (bodies L)) (drop end fs.log) ∙ sym (append_assoc (batch (body_bytes first)) [] rest))) in
    subst (BeginsWith fs) (sym sizes) (record {
      spelled = can.0;
      end = 0 + length bytes;
      first = record {
        place = refl;
        spells = ap (λ (l : List ℕ). take (length bytes) l) whole ∙ take_at bytes rest (length bytes) refl;
        sizes = (subst (λ (c : List Record). IsBody (body_bytes c)) same log.front.sizes.0, tt);
        each = (can, tt);
      };
    })

pub size_in_range : (s : Sizes) → CanBeSpelled (Format s.index s.heap) → AreInRange s
size_in_range s can =
    let i = and_parts (nat_le 1 s.index) (nat_le s.index 32768) can.0 in
    let h = and_parts (nat_le 1 s.heap) (nat_le s.heap 65536) can.1 in
    record { some_index = leb-true 1 s.index i.0; few_index = leb-true s.index 32768 i.1; some_heap = leb-true 1 s.heap h.0; few_heap = leb-true s.heap 65536 h.1 }

-- ---- the image's file

image_length : (image : List (List ℕ)) → AllAreWords image → length (flat_map words_bytes image) ≡ 512 * length image
image_length [] all = refl
image_length (ws ∷ image) all = omega (arith, length-append (words_bytes ws) (flat_map words_bytes image), words_are_8 ws, all.0.0, image_length image all.1)

-- a file that begins with the bytes of an image
module _ (s : Sizes) (file : List ℕ) (h : Head) (image : List (List ℕ)) (is : IsImageOf s file h image) where
  abbrev header : List ℕ
  header = header_bytes s h

  abbrev words : List ℕ
  words = flat_map words_bytes image

  abbrev table : List ℕ
  table = table_bytes h.table

  all : file ≡ header ++ (words ++ (table ++ is.rest))
  all = is.spells ∙ (append_assoc header (words ++ table) is.rest ∙ ap (λ (l : List ℕ). header ++ l) (append_assoc words table is.rest))

  behind_header : drop (place_of 0) file ≡ words ++ (table ++ is.rest)
  behind_header = ap (λ (l : List ℕ). drop 64 l) all ∙ drop_at header (words ++ (table ++ is.rest)) 64 (heading_is_64 (header_of s h))

  long : length words ≡ 512 * length image
  long = image_length image is.fits.words

  size : length file ≡ 64 + (512 * length image + (length table + length is.rest))
  size =
      omega (
        arith,
        ap length all,
        length-append header (words ++ (table ++ is.rest)),
        length-append words
            (table ++ is.rest),
        length-append table is.rest,
        heading_is_64 (header_of s h),
        long,
      )

  reads_regions : ReadsRegions file 0 image
  reads_regions = record {
    inside = omega (arith, size);
    spells = ap (λ (l : List ℕ). take (512 * length image) l) behind_header ∙ take_at words (table ++ is.rest) (512 * length image) long;
  }

  abbrev k : Header
  k = header_of s h

  behind_words : drop (table_place k) file ≡ table ++ is.rest
  behind_words =
      let place : 64 + 512 * length image ≡ place_of (regions s) = omega (arith, is.fits.whole) in
      ap (λ (n : ℕ). drop n file) (sym place)
      ∙ (sym (drop-drop (512 * length image) 64 file)
      ∙ (ap (λ (l : List ℕ). drop (512 * length image) l) behind_header ∙ drop_at words (table ++ is.rest) (512 * length image) long))

  part_is : table_part file k ≡ table
  part_is = ap (λ (l : List ℕ). take (length table) l) behind_words ∙ take_at table is.rest (length table) refl

  pub can_be_table : CanBeTable s h.next h.table
  can_be_table = record { count = is.fits.count; fit = is.fits.rows; ascending = is.fits.ascending }

  reads_table : ReadsTable file k (table_of h.table)
  reads_table = record {
    inside = omega (arith, size, is.fits.whole);
    bytes = subst IsBytes (sym part_is) (table_is_bytes s h.next h.table is.fits.rows);
    spells = ap (table_in s h.next) part_is ∙ tables_are_read_again s h.next h.table (omega (arith, is.fits.next)) can_be_table;
  }

  pub image_in : (x : Expected) → AreInRange s → bad_header k x ≡ None → IsImageIn file x k image (table_of h.table)
  image_in x range good = record {
    header = (drop 64 file, all ∙ ap (λ (l : List ℕ). header ++ l) (sym behind_header));
    fits = record {
      sizes = range;
      number = is.fits.number;
      place = is.fits.place;
      first = omega (arith, is.fits.first);
      weight = omega (arith, is.fits.weight);
      next = omega (arith, is.fits.next);
      table = is.fits.size;
    };
    good = good;
    table = reads_table;
    whole = is.fits.whole;
    words = reads_regions;
  }

-- ---- the formatted image
all_same : {X : Type 0} (P : X → Type 0) (n : ℕ) (x : X) → P x → AllByRecursion P (replicate n x)
all_same P zero x is = tt
all_same P (suc n) x is = (is, all_same P n x is)

formatted_words : (s : Sizes) → AllAreWords (formatted_image s)
formatted_words s =
    let zeros : AllByRecursion (λ w. w < 2 ^ 64) (replicate 63 0) = all_same (λ w. w < 2 ^ 64) 63 0 (omega arith) in
    let blank : AreWords (replicate 64 0) = (refl, all_same (λ w. w < 2 ^ 64) 64 0 (omega arith)) in
    let head : AreWords (1 ∷ replicate 63 0) = (refl, (omega arith, zeros)) in
    all_append AreWords (replicate s.index (replicate 64 0)) (replicate s.heap (1 ∷ replicate 63 0)) (all_same AreWords s.index (replicate 64 0) blank)
    (all_same AreWords s.heap (1 ∷ replicate 63 0) head)

-- ---- a reader at a place
abbrev reader_at : List ℕ → ℕ → Reading
reader_at log p = record { bytes = []; from = 0; length = length log; body = p; at = p; end = p }

reads_from : (log : List ℕ) (p : ℕ) → IsReadFrom log p [] [] (reader_at log p)
reads_from log p = record { window = record { all = refl; part = refl; within = omega arith }; stands = inl (refl, empty_run log p, refl) }

-- ---- the image's place
-- some batches before it, of which the first is that of the log
first_before : (k : ℕ) (bs more rest : List (List Record)) (b : List Record) → bs ++ more ≡ b ∷ rest → 0 < sum_by batch_length (take k bs)
    → (later : List (List Record)) × (take k bs ≡ b ∷ later)
first_before zero bs more rest b e some = absurd (omega (arith, some))
first_before (suc k) [] more rest b e some = absurd (omega (arith, some))
first_before (suc k) (c ∷ bs) more rest b e some = (take k bs, ap (λ d. d ∷ take k bs) (one_first c (bs ++ more) rest b e))

record StandsBehind (s : Sizes) (n place : ℕ) (B : List (List Record)) : Type 0 where
  first : 0 < n
  low : 15 ≤ place
  inside : place ≤ sum_by batch_length B

some_first : (n : ℕ) (front later : List Record) (r : Record) → r ∷ later ≡ take n front → 0 < n
some_first zero front later r e = absurd cc
some_first (suc n) front later r e = omega arith

stands_behind :
    (s : Sizes) (n place k : ℕ) (front : List Record) (bs more B : List (List Record)) → HasFormat B → bs ++ more ≡ B
    → flat_map (λ b. b) (take k bs) ≡ take n front
    → place ≡ sum_by batch_length (take k bs) → 0 < place → StandsBehind s n place B
stands_behind s n place k front bs more B has parts records at some =
    let r = Format has.0 has.1 in
    let begins = first_before k bs more has.2 (r ∷ []) (parts ∙ has.3) (omega (arith, some, at)) in
    let later = begins.0 in
    let whole : take k bs ++ (drop k bs ++ more) ≡ B = sym (append_assoc (take k bs) (drop k bs) more)
    ∙ (ap (λ l. l ++ more) (take-append-drop k bs) ∙ parts) in
    record {
      first = some_first n front (flat_map (λ b. b) later) r (sym (ap (λ (l : List (List Record)). flat_map (λ b. b) l) begins.1) ∙ records);
      low =
          let fifteen : batch_length (r ∷ []) ≡ 15 = refl in
          omega (arith, at, ap (sum_by batch_length) begins.1, sum_by-cons batch_length (r ∷ []) later, fifteen);
      inside = omega (arith, at, ap (sum_by batch_length) whole, sum_by-append batch_length (take k bs) (drop k bs ++ more));
    }

-- ---- files that are found, but for the words of their image
module _ (fs : Disk) (F : Files) (is : Spells fs F) (right : List (List ℕ)) (finds : FindsIt (with_words F right)) where
  abbrev s : Sizes
  s = sizes_in F

  pub begins_log : BeginsWith fs s
  begins_log = begins_by fs F.batches is.end is.log

  place_is : StandsBehind s F.first F.place F.batches
  place_is =
      let found = finds.found in
      let fits = found.fits.1.fits in
      stands_behind s F.first F.place fits.batch.0 found.front found.fits.0 found.more F.batches is.log.format
      found.parts fits.batch.1 fits.batch.2 found.place.placed

  pub some_before : 0 < F.first
  some_before = place_is.first

  pub place_within : F.place < length fs.log
  place_within = omega (arith, place_is.inside, is.log.closed.0, ends_at fs.log F.batches is.end is.log)

  good_header : 0 < F.gates → F.first < 2 ^ 40 → F.weight < 2 ^ 40 → 0 < F.next → F.next < 2 ^ 40
      → bad_header (header_of s (head_of F)) (expected s F.gates (length fs.log)) ≡ None
  good_header turned first weight some next =
      right_header (header_of s (head_of F)) (expected s F.gates (length fs.log))
      (record {
        geometry = refl;
        number = finds.found.fits.1.fits.current turned;
        place = (place_is.low, place_within);
        first =
            (some_before, first);
        weight = weight;
        next = (some, next);
      })

  abbrev reader : Reading
  reader = reader_at fs.log F.place

  with_image : 0 < F.gates → BeginsAt fs s F
  with_image turned =
      let there : IsImageOf s (file_in fs F.gates) (head_of F) F.image =
      subst (λ (bytes : List ℕ). IsImageOf s bytes (head_of F) F.image) (of_side (side_of F.gates) fs) (is.image turned) in
      let good = good_header turned there.fits.first there.fits.weight there.fits.some there.fits.next in
      record {
        reader = reader;
        opened = record {
          log = begins_log;
          anchor = is.anchor;
          image_is = record {
            none = λ e. absurd (omega (arith, e, turned));
            some =
                λ lt. image_in s (file_in fs F.gates) (head_of F) F.image there (expected s F.gates (length fs.log))
                (size_in_range s begins_log.spelled) good;
          };
          reader = reads_from fs.log F.place;
        };
        rows = can_be_table s (file_in fs F.gates) (head_of F) F.image there;
        words = there.fits.words;
      }

  alone_found : IsNoImage s (header_of s (head_of (unchecked s F.batches))) (formatted_image s) (table_of [])
  unfolding number32
  alone_found = record { header = refl; words = refl; table = refl }

  without_image : F.gates ≡ 0 → BeginsAt fs s F
  without_image e = subst (BeginsAt fs s) (sym (is.none e)) (record {
    reader = reader_at fs.log 15;
    opened = record {
      log = begins_log;
      anchor = subst (IsAnchor fs.anchor) e is.anchor;
      image_is = record { none = λ z. alone_found; some = λ lt. absurd (omega (arith, lt)) };
      reader = reads_from fs.log 15;
    };
    rows = record { count = omega arith; fit = tt; ascending = refl };
    words = formatted_words s;
  })

  by_gates : (n : ℕ) → F.gates ≡ n → BeginsAt fs s F
  by_gates zero e = without_image e
  by_gates (suc n) e = with_image (omega (arith, e))

  -- the disk has these files before the first record behind their image
  pub begins_but : BeginsAt fs (sizes_in F) F
  begins_but = by_gates F.gates refl

pub begins : (fs : Disk) (F : Files) → Spells fs F → FindsIt F → BeginsAt fs (sizes_in F) F
begins fs F is finds = begins_but fs F is F.image finds

-- ---- a recovery behind what was opened
pub at_image :
    (fs : Disk) (o : Sizes) (c : ℕ) (h : Header) (image : List (List ℕ)) (m : Table Pending) (r : Reading) (x : Recovery)
    → IsOpened fs o c h image m r → IsInRange o h image m → AllAreWords image
    → ((F : Files) → F.first ≡ h.first → F.next ≡ h.next → F.image ≡ image → Starts F m → Stands o h.first x (going_at F)) → x.scan ≡ None
    → (s : Sizes) (F : Files) → BeginsAt fs s F → IsOneOpening o s c h image m F × IsAtImage fs.log s F r x
at_image fs o c h image m r x is range words stands plain s F b =
    let one = opens_as fs o c h image m r is words s F b in
    let first : F.first ≡ h.first = sym (ap (λ (g : Header). g.first) one.header) in
    let next : F.next ≡ h.next = sym (ap (λ (g : Header). g.next) one.header) in
    let place : h.place ≡ F.place = ap (λ (g : Header). g.place) one.header in
    let starts : Starts F m = subst (Starts F) (sym one.table) (are_started s F b.rows (omega (arith, range.first.0, first))) in
    let there : Stands s F.first x (going_at F) =
    subst (λ (z : Sizes). Stands z F.first x (going_at F)) one.sizes
    (subst (λ (n : ℕ). Stands o n x (going_at F)) (sym first) (stands F first next (sym one.image_is) starts)) in (
      one,
      record {
        first = omega (arith, range.first.1, first);
        read = subst (λ (p : ℕ). IsReadFrom fs.log p [] [] r) place is.reader;
        behind = begins_behind s F x there;
        plain = plain;
      },
    )
