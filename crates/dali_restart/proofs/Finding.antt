-- What is found before the first record behind the image.
use Rattle.std.proofs.Common.{◌≡◌, ◌⊎◌, inl, inr, ⊎_elim, ℕ, zero, suc, ◌+◌, ◌*◌, ◌<◌, List, [], ◌∷◌, ◌++◌, length, drop, Option, None, IfSome, refl, ap, sym, subst, ◌∙◌, arith, append_assoc, length-append, take-append-drop}
use Rattle.std.specs.Prelude.{flat_map}
use Rattle.std.specs.Option.{option_map_or}
use Rattle.std.specs.Ordering.{nat_cmp}
use Rattle.std.specs.FinMap.{get, get-empty}
use Rattle.std.proofs.lemmas.List.{drop-drop}
use Rattle.dali_lists.proofs.Options.{if_some_then}
use Rattle.dali_geometry.specs.Sizes.{Sizes}
use Rattle.dali_geometry.specs.Places.{regions}
use Rattle.dali_geometry.proofs.Regions.{length_formatted}
use Rattle.dali_bytes.specs.Fields.{number32}
use Rattle.dali_bytes.proofs.Numbers.{length-number32}
use Rattle.dali_att.specs.Table.{Row, Table, undos_at}
use Rattle.dali_record.specs.declared.operations.Pending.{Pending}
use Rattle.dali_record.specs.declared.records.Record.{Record}
use Rattle.dali_record.specs.declared.records.Record.TheVariants.{Format}
use Rattle.dali_record.specs.Blocks.{AllAreWords}
use Rattle.dali_record.specs.Spelling.{CanBeSpelled, words_bytes}
use Rattle.dali_record.specs.Legal.{sizes_of}
use Rattle.dali_record.specs.Files.{Files}
use Rattle.dali_store.specs.declared.store.FileName.{FileName}
use Rattle.dali_store.specs.Store.{Files as Disk}
use Rattle.dali_log.specs.Batch.{batch, batches, IsUnformatted}
use Rattle.dali_log.specs.Log.{IsRun, LogOf, HasFormat, body_bytes, bodies}
use Rattle.dali_log.specs.Stream.{Reading, IsReadFrom, IsWindow}
use Rattle.dali_log.proofs.Finds.{if_some_two, if_some_three, if_some_same}
use Rattle.dali_log.proofs.Unique.{same_batch, same_records}
use Rattle.dali_crash.specs.Checkpoints.{Head, side_of}
use Rattle.dali_crash.specs.Disks.Disks.{IsImageOf, image_file, image_name, header_bytes, table_bytes, unchecked}
use Rattle.dali_log.specs.Anchors.{IsAnchor}
use Rattle.dali_image.specs.Headers.{HasHeading, bad_header, IsWanted}
use Rattle.dali_image.specs.Rows.{AreUndos}
use Rattle.dali_image.specs.Reading.{NoTable}
use Rattle.dali_image.specs.Laws.{header_of, IsHeader, IsPassed}
use Rattle.dali_image.proofs.Passed.{what_passes, wanted}
use Rattle.dali_image.specs.declared.header.Header.{Header}
use Rattle.dali_image.specs.declared.header.Expected.{Expected}
use Rattle.dali_restart.proofs.RenewalLemmas.Images.{of_side}
use Rattle.dali_restart.specs.Opening.{BeginsWith, BadImageAt, IsImageIn, IsInRange, IsNoImage, IsBadStore, IsBadLog, IsBadAnchor, IsBadImage, file_in, expected}
use Rattle.dali_restart.specs.Laws.{WhatOpensIsSpelled, IsSpelledBy}

-- ---- the first batch
begins_at : (log : List ℕ) (front : List (List Record)) (r : Reading) → IsReadFrom log 0 front [] r → (end : ℕ) × IsRun log 0 front end
begins_at log front r is = ⊎_elim (λ here. (r.at, here.1)) (λ within. (within.1.place, within.1.good)) is.stands

pub begins_with : (fs : Disk) (s : Sizes) (r : Reading) → CanBeSpelled (Format s.index s.heap)
    → IsReadFrom fs.log 0 ((Format s.index s.heap ∷ []) ∷ []) [] r → BeginsWith fs s
begins_with fs s r can is = let b = begins_at fs.log ((Format s.index s.heap ∷ []) ∷ []) r is in record { spelled = can; end = b.0; first = b.1 }

-- ---- an image
pub table_bad :
    (file : Disk → List ℕ) (x : Expected) (h : Header) (at : ℕ) (o p : Option Disk) → p ≡ o → IsHeader h → bad_header h x ≡ None
    → IfSome o (λ fs. HasHeading (file fs) h) → IfSome p (λ fs. NoTable (file fs) h at)
    → IfSome o (λ fs. BadImageAt (file fs) x at)
table_bad file x h at o p same fits good header bad =
    if_some_two (λ fs. HasHeading (file fs) h) (λ fs. NoTable (file fs) h at) (λ fs. BadImageAt (file fs) x at) o header (if_some_same _ o p same bad)
    (λ fs a b. inr (record { header = h; fits = fits; there = a; wrong = inr (good, b) }))

-- ---- one reading
pub first_of : (fs : Disk) (s : Sizes) → BeginsWith fs s
    → fs.log ≡ batch (body_bytes (Format s.index s.heap ∷ [])) ++ ([] ++ drop (length (batches (bodies ((Format s.index s.heap ∷ []) ∷ [])))) fs.log)
first_of fs s is =
    let L = (Format s.index s.heap ∷ []) ∷ [] in
    let n = length (batches (bodies L)) in
    sym (take-append-drop n fs.log)
    ∙ (ap (λ (l : List ℕ). l ++ drop n fs.log) is.first.spells ∙ append_assoc (batch (body_bytes (Format s.index s.heap ∷ []))) [] (drop n fs.log))

formatted_bytes : (log rest body : List ℕ) → log ≡ batch body ++ rest → IsUnformatted log → ⊥
formatted_bytes [] rest body e un = absurd cc
formatted_bytes (x ∷ []) rest body e un = absurd (omega (arith, ap length e, length-append (number32 (length body) ++ body) rest, length-append (number32 (length body)) body, length-number32 (length body)))
formatted_bytes (x ∷ y ∷ log) rest body e un = ⊎_elim (λ short. absurd (omega (arith, short))) (λ closed. closed (let is : x ≡ 165 = cc in is)) un

pub begun : (fs : Disk) (s : Sizes) → BeginsWith fs s → IsUnformatted fs.log → ⊥
begun fs s is un = formatted_bytes fs.log _ (body_bytes (Format s.index s.heap ∷ [])) (first_of fs s is) un

-- ---- what the disk spells
pub no_first : HasFormat [] → ⊥
no_first has = let e : [] ≡ (Format has.0 has.1 ∷ []) ∷ has.2 = has.3 in absurd cc

same_sizes : (fs : Disk) (s : Sizes) (B : List (List Record)) (end : ℕ) → BeginsWith fs s → LogOf fs.log B end → sizes_of (flat_map (λ b. b) B) ≡ s
same_sizes fs s [] end is log = absurd (no_first log.format)
same_sizes fs s (b ∷ B) end is log =
    let first = Format s.index s.heap ∷ [] in
    let whole : batch (body_bytes b) ++ (batches (bodies B) ++ drop end fs.log) ≡ batch (body_bytes first) ++ ([] ++ drop (length (batches (bodies (first ∷ [])))) fs.log) =
    sym (append_assoc (batch (body_bytes b)) (batches (bodies B)) (drop end fs.log))
    ∙ (ap (λ (l : List ℕ). l ++ drop end fs.log) (sym log.front.spells) ∙ (take-append-drop end fs.log ∙ first_of fs s is)) in
    let bytes = same_batch (body_bytes b) (body_bytes first) _ _ log.front.sizes.0 is.first.sizes.0 whole in
    let same : b ≡ first = same_records b first log.front.each.0 is.first.each.0 bytes.0 in
    ap (λ (c : List Record). sizes_of (c ++ flat_map (λ b. b) B)) same

image_there : (bytes : List ℕ) (x : Expected) (h : Header) (image : List (List ℕ)) (m : Table Pending) → IsImageIn bytes x h image m
    → (p : IsPassed bytes h m) → AllAreWords image → IsImageOf h.geometry bytes p.head image
image_there bytes x h image m is p words =
    let s = h.geometry in
    let flat = flat_map words_bytes image in
    let n = 512 * length image in
    record {
      fits = p.fits image is.whole words;
      rest = p.reads.rest;
      spells =
          sym (take-append-drop 64 bytes)
          ∙ (ap (λ (l : List ℕ). l ++ drop 64 bytes) p.reads.header
          ∙ (ap (λ (l : List ℕ). header_bytes s p.head ++ l)
          (sym (take-append-drop n (drop 64 bytes))
          ∙ (ap (λ (l : List ℕ). l ++ drop n (drop 64 bytes)) is.words.spells
          ∙ (ap (λ (l : List ℕ). flat ++ l) (drop-drop n 64 bytes ∙ (ap (λ (k : ℕ). drop (64 + 512 * k) bytes) is.whole ∙ p.reads.table))
          ∙ sym (append_assoc flat (table_bytes p.head.table) p.reads.rest))))
          ∙ sym (append_assoc (header_bytes s p.head) (flat ++ table_bytes p.head.table) p.reads.rest)));
    }

abbrev pub files_in : ℕ → Head → List (List ℕ) → List (List Record) → Files
files_in c h image B = record { batches = B; gates = c; number = h.number; place = h.place; first = h.first; weight = h.weight; next = h.next; image = image; table = h.table }

before_any :
    (fs : Disk) (s : Sizes) (c : ℕ) (h : Header) (image : List (List ℕ)) (m : Table Pending) (B : List (List Record)) (end : ℕ) → LogOf fs.log B end → sizes_of (flat_map (λ b. b) B) ≡ s
    → IsAnchor fs.anchor c → c ≡ 0 → IsNoImage s h image m → IsSpelledBy fs s c h image m B (unchecked s B)
unfolding number32
before_any fs s c h image m B end log sizes anchor none is = record {
  spells = record {
    end = end;
    log = log;
    anchor = subst (IsAnchor fs.anchor) none anchor;
    none = λ e. ap (λ (z : Sizes). unchecked z B) (sym sizes);
    image = λ lt. absurd (omega (arith, lt));
  };
  batches = refl;
  gates = sym none;
  header = sym is.header;
  image_is = sym is.words;
  table = sym is.table;
}

behind_one :
    (fs : Disk) (s : Sizes) (c : ℕ) (h : Header) (image : List (List ℕ)) (m : Table Pending) (B : List (List Record)) (end : ℕ) → LogOf fs.log B end → sizes_of (flat_map (λ b. b) B) ≡ s
    → IsAnchor fs.anchor c → 0 < c → IsImageIn (file_in fs c) (expected s c (length fs.log)) h image m → h.geometry ≡ s → (p : IsPassed (file_in fs c) h m) → AllAreWords image
    → IsSpelledBy fs s c h image m B (files_in c p.head image B)
behind_one fs s c h image m B end log sizes anchor some is same p words = record {
  spells = record {
    end = end;
    log = log;
    anchor = anchor;
    none = λ e. absurd (omega (arith, e, some));
    image = λ lt. subst (λ (z : Sizes). IsImageOf z (image_file (side_of c) fs) p.head image) (same ∙ sym sizes)
        (subst (λ (bytes : List ℕ). IsImageOf h.geometry bytes p.head image) (sym (of_side (side_of c) fs)) (image_there (file_in fs c) _ h image m is p words));
  };
  batches = refl;
  gates = refl;
  header = ap (λ (z : Sizes). header_of z p.head) (sym same) ∙ p.header_is;
  image_is = refl;
  table = sym p.table_is;
}

pub what_opens : WhatOpensIsSpelled
what_opens fs s zero h image m r B end is log words =
    (unchecked s B, before_any fs s 0 h image m B end log (same_sizes fs s B end is.log log) is.anchor refl (is.image_is.none refl))
what_opens fs s (suc c) h image m r B end is log words =
    let found = is.image_is.some (omega arith) in
    let x = expected s (suc c) (length fs.log) in
    let p = what_passes (file_in fs (suc c)) h x m found.fits found.header found.good found.table in
    (files_in (suc c) p.head image B, behind_one fs s (suc c) h image m B end log (same_sizes fs s B end is.log log) is.anchor (omega arith) found (wanted h x found.good).geometry p words)

-- ---- all of it
pub first_bad : (file : FileName) (at : ℕ) (o p : Option Disk) → p ≡ o → IfSome p (λ fs. IsBadLog fs file at ⊎ IsBadAnchor fs file at)
    → IfSome o (λ fs. IsBadStore fs file at)
first_bad file at o p same bad = if_some_then _ _ o (if_some_same _ o p same bad) (λ fs is. ⊎_elim (λ log. inl log) (λ anchor. inr (inl anchor)) is)

pub image_bad :
    (s : Sizes) (c : ℕ) (r0 : Reading) (file : FileName) (at : ℕ) (o p q : Option Disk) → p ≡ o → q ≡ p
    → IfSome p (λ fs. BeginsWith fs s × IsWindow fs.log r0) → IfSome p (λ fs. IsAnchor fs.anchor c) → IfSome q (λ fs. IsBadImage fs s c file at)
    → IfSome o (λ fs. IsBadStore fs file at)
image_bad s c r0 file at o p q same next log anchor bad =
    if_some_three _ _ _ (λ fs. IsBadStore fs file at) o (if_some_same _ o p same log) (if_some_same _ o p same anchor) (if_some_same _ o q (next ∙ same) bad)
    (λ fs a b d. inr (inr (record { sizes = s; log = a.0; current = c; anchor = b; bad = d })))

-- ---- the current image
pub found_bad :
    (s : Sizes) (c n : ℕ) (file : FileName) (at : ℕ) (o p : Option Disk) → (c ≡ 0 → ⊥) → p ≡ o → file ≡ image_name (side_of c)
    → IfSome o (λ fs. n ≡ length fs.log) → IfSome p (λ fs. BadImageAt (file_in fs c) (expected s c n) at)
    → IfSome o (λ fs. IsBadImage fs s c file at)
found_bad s c n file at o p some same name size is =
    if_some_two _ _ (λ fs. IsBadImage fs s c file at) o size (if_some_same _ o p same is)
    (λ fs a b. record { some = omega (arith, some); name = name; bad = subst (λ k. BadImageAt (file_in fs c) (expected s c k) at) a b })

-- ---- over any store
no_undos : (t : ℕ) (o : Option (Row Pending)) → o ≡ None → AreUndos (option_map_or (λ row. row.undos) o [])
no_undos t o none = subst (λ (k : Option (Row Pending)). AreUndos (option_map_or (λ row. row.undos) k [])) (sym none) tt

-- what stands for the image is in range
pub stands_in_range : (s : Sizes) (h : Header) (image : List (List ℕ)) (m : Table Pending) → IsNoImage s h image m → IsInRange s h image m
stands_in_range s h image m is = record {
  geometry = ap (λ (k : Header). k.geometry) is.header;
  first = (omega (arith, ap (λ (k : Header). k.first) is.header), omega (arith, ap (λ (k : Header). k.first) is.header));
  weight = omega (arith, ap (λ (k : Header). k.weight) is.header);
  next = (omega (arith, ap (λ (k : Header). k.next) is.header), omega (arith, ap (λ (k : Header). k.next) is.header));
  whole = ap length is.words ∙ length_formatted s;
  undos = λ t. no_undos t (get m t) (ap (λ (k : Table Pending). get k t) is.table ∙ get-empty nat_cmp t);
}

-- and so is one that was read
pub read_in_range : (x : Expected) (h : Header) (image : List (List ℕ)) (m : Table Pending) → IsWanted h x → length image ≡ regions h.geometry
    → ((t : ℕ) → AreUndos (undos_at m t)) → IsInRange x.geometry h image m
read_in_range x h image m is whole undos = record { geometry = is.geometry; first = is.first; weight = is.weight; next = is.next; whole = whole ∙ ap regions is.geometry; undos = undos }
