-- A disk has one answer: it is bad at one place of one file at most, and nothing is found in it then.
use Rattle.std.proofs.Common.{◌≡◌, ◌⊎◌, inl, inr, ⊎_elim, ℕ, zero, suc, ◌+◌, ◌≤◌, ◌<◌, List, [], ◌∷◌, ◌++◌, length, take, drop, Option, Some, None, IfSome, refl, ap, sym, subst, ◌∙◌, arith, length-append}
use Rattle.std.proofs.lemmas.List.{append-nil}
use Rattle.dali_geometry.specs.Sizes.{Sizes}
use Rattle.dali_att.specs.Table.{Table}
use Rattle.dali_record.specs.declared.operations.Pending.{Pending}
use Rattle.dali_record.specs.declared.records.Record.TheVariants.{Format}
use Rattle.dali_record.specs.Spelling.{spelling}
use Rattle.dali_record.specs.Legal.{sizes_of}
use Rattle.dali_record.proofs.Lengths.{length-spelling}
use Rattle.dali_bytes.specs.Fields.{number32}
use Rattle.dali_bytes.proofs.Numbers.{length-number32}
use Rattle.dali_store.specs.declared.store.FileName.{FileName}
use Rattle.dali_store.specs.Store.{Files as Disk}
use Rattle.dali_log.specs.Batch.{batch}
use Rattle.dali_log.specs.Finding.{BatchAt, IsBad}
use Rattle.dali_log.specs.Log.{HasNoFormat, IsBadFirst, body_bytes}
use Rattle.dali_log.specs.Stream.{Reading, IsWindow}
use Rattle.dali_log.proofs.Finds.{if_some_two, if_some_same}
use Rattle.dali_log.proofs.Fronts.{bad_of_first}
use Rattle.dali_log.proofs.Unique.{same_batch, same_records, one_place}
use Rattle.dali_log.specs.Anchors.{IsAnchor}
use Rattle.dali_crash.proofs.DisksLemmas.Once.{anchor_once}
use Rattle.dali_image.specs.Headers.{NoHeading, bad_header}
use Rattle.dali_image.specs.Reading.{NoAnchor, ReadsTable, NoTable}
use Rattle.dali_image.specs.declared.header.Header.{Header}
use Rattle.dali_image.specs.declared.header.Expected.{Expected}
use Rattle.dali_image.proofs.OneHeader.{one_header}
use Rattle.dali_image.proofs.Passed.{wanted}
use Rattle.dali_restart.specs.Opening.{BeginsWith, BadImageAt, IsImageIn, IsFoundIn, IsOpened, IsBadStore, IsBadImage, IsBadCurrent, file_in, expected}
use Rattle.dali_restart.specs.Laws.{OneAnswer}
use Rattle.dali_restart.proofs.Finding.{begun, first_of}

-- ---- the log's first batch
abbrev first_bytes : Sizes → List ℕ
first_bytes s = body_bytes (Format s.index s.heap ∷ [])

first_is_good : (fs : Disk) (s : Sizes) (at : ℕ) → BeginsWith fs s → IsBadFirst fs.log at → ⊥
first_is_good fs s at is bad = by_case bad.bad
  where
    by_case : IsBad fs.log 0 at ⊎ ((body : List ℕ) × BatchAt fs.log 0 body × HasNoFormat body × (at ≡ 5)) → ⊥
    by_case (inl (inl short)) = absurd (omega (arith, short.0, ap length (first_of fs s is)))
    by_case (inl (inr none)) = none.0.none (first_bytes s) _ is.first.sizes.0 (ap (drop 1) (first_of fs s is))
    by_case (inr found) =
        let same = same_batch found.0 (first_bytes s) found.1.1 _ found.1.0 is.first.sizes.0 (sym found.1.2 ∙ first_of fs s is) in
        found.2 s.index s.heap is.spelled (same.0 ∙ append-nil (spelling (Format s.index s.heap)))

pub one_size : (fs : Disk) (s z : Sizes) → BeginsWith fs s → BeginsWith fs z → s ≡ z
one_size fs s z is other =
    let bytes = same_batch (first_bytes s) (first_bytes z) _ _ is.first.sizes.0 other.first.sizes.0 (sym (first_of fs s is) ∙ first_of fs z other) in
    ap sizes_of (same_records (Format s.index s.heap ∷ []) (Format z.index z.heap ∷ []) is.first.each.0 other.first.each.0 bytes.0)

-- the first batch has 15 bytes
five_more : (log body rest : List ℕ) → log ≡ batch body ++ rest → length body + 5 ≤ length log
five_more log body rest e =
    omega (arith, ap length e, length-append (batch body) rest, length-append (number32 (length body)) body, length-number32 (length body))

long_enough : (fs : Disk) (s : Sizes) → BeginsWith fs s → 15 ≤ length fs.log
long_enough fs s is =
    let r = Format s.index s.heap in
    omega (arith, five_more fs.log (first_bytes s) _ (first_of fs s is), length-append (spelling r) [], length-spelling r is.spelled)

-- ---- the anchor
anchor_is_good : (bytes : List ℕ) (c at : ℕ) → IsAnchor bytes c → NoAnchor bytes at → ⊥
anchor_is_good bytes c at is bad = is.closed.1 (bad.gates c (omega (arith, is.closed.0, bad.ends))).1

-- ---- the image
one_no_heading : (bytes : List ℕ) (at bt : ℕ) → NoHeading bytes at → NoHeading bytes bt → at ≡ bt
one_no_heading bytes at bt (inl a) (inl b) = a.0 ∙ sym b.0
one_no_heading bytes at bt (inr a) (inr b) = a.0 ∙ sym b.0
one_no_heading bytes at bt (inl a) (inr b) = absurd (⊎_elim (λ short. omega (arith, short, b.1)) (λ unmarked. unmarked (ap (take 8) b.2.2)) a.1)
one_no_heading bytes at bt (inr a) (inl b) = absurd (⊎_elim (λ short. omega (arith, short, a.1)) (λ unmarked. unmarked (ap (take 8) a.2.2)) b.1)

one_no_table : (bytes : List ℕ) (h : Header) (at bt : ℕ) → NoTable bytes h at → NoTable bytes h bt → at ≡ bt
one_no_table bytes h at bt (inl a) (inl b) = a.0 ∙ sym b.0
one_no_table bytes h at bt (inl a) (inr b) = absurd (omega (arith, a.1, b.inside))
one_no_table bytes h at bt (inr a) (inl b) = absurd (omega (arith, b.1, a.inside))
one_no_table bytes h at bt (inr a) (inr b) =
    let e = sym a.wrong ∙ b.wrong in
    let same : a.field ≡ b.field = cc in
    omega (arith, a.place, b.place, same)

table_is_good : (bytes : List ℕ) (h : Header) (m : Table Pending) (at : ℕ) → ReadsTable bytes h m → NoTable bytes h at → ⊥
table_is_good bytes h m at is (inl short) = omega (arith, short.1, is.inside)
table_is_good bytes h m at is (inr bad) = let e = sym is.spells ∙ bad.wrong in absurd cc

abbrev WrongAt : List ℕ → Expected → Header → ℕ → Type 0
WrongAt bytes x h at = (bad_header h x ≡ Some at) ⊎ ((bad_header h x ≡ None) × NoTable bytes h at)

one_wrong : (bytes : List ℕ) (x : Expected) (h : Header) (at bt : ℕ) → WrongAt bytes x h at → WrongAt bytes x h bt → at ≡ bt
one_wrong bytes x h at bt (inl a) (inl b) = let e = sym a ∙ b in cc
one_wrong bytes x h at bt (inl a) (inr b) = let e = sym a ∙ b.0 in absurd cc
one_wrong bytes x h at bt (inr a) (inl b) = let e = sym a.0 ∙ b in absurd cc
one_wrong bytes x h at bt (inr a) (inr b) = one_no_table bytes h at bt a.1 b.1

one_bad_image : (bytes : List ℕ) (x : Expected) (at bt : ℕ) → BadImageAt bytes x at → BadImageAt bytes x bt → at ≡ bt
one_bad_image bytes x at bt (inl a) (inl b) = one_no_heading bytes at bt a b
one_bad_image bytes x at bt (inl a) (inr b) = absurd ((one_header bytes b.header b.fits b.there).good at a)
one_bad_image bytes x at bt (inr a) (inl b) = absurd ((one_header bytes a.header a.fits a.there).good bt b)
one_bad_image bytes x at bt (inr a) (inr b) =
    let same = (one_header bytes a.header a.fits a.there).same b.header b.fits b.there in
    one_wrong bytes x a.header at bt a.wrong (subst (λ h. WrongAt bytes x h bt) (sym same) b.wrong)

right_header : (bytes : List ℕ) (x : Expected) (h : Header) (m : Table Pending) (at : ℕ) → bad_header h x ≡ None → ReadsTable bytes h m
    → WrongAt bytes x h at → ⊥
right_header bytes x h m at good reads (inl wrong) = let e = sym good ∙ wrong in absurd cc
right_header bytes x h m at good reads (inr bad) = table_is_good bytes h m at reads bad.1

image_is_good : (bytes : List ℕ) (x : Expected) (h : Header) (image : List (List ℕ)) (m : Table Pending) (at : ℕ) → IsImageIn bytes x h image m
    → BadImageAt bytes x at → ⊥
image_is_good bytes x h image m at is (inl none) = (one_header bytes h is.fits is.header).good at none
image_is_good bytes x h image m at is (inr bad) =
    let same = (one_header bytes h is.fits is.header).same bad.header bad.fits bad.there in
    right_header bytes x h m at is.good is.table (subst (λ k. WrongAt bytes x k at) (sym same) bad.wrong)

-- the log isn't over before its place
pub place_inside : (fs : Disk) (s : Sizes) (c : ℕ) (h : Header) (image : List (List ℕ)) (m : Table Pending) → BeginsWith fs s
    → IsFoundIn fs s c h image m → h.place ≤ length fs.log
place_inside fs s zero h image m begins is = let e = ap (λ (k : Header). k.place) (is.none refl).header in omega (arith, e, long_enough fs s begins)
place_inside fs s (suc c) h image m begins is =
    let found = is.some (omega arith) in
    let w = wanted h (expected s (suc c) (length fs.log)) found.good in
    omega (arith, w.place.1)

-- ---- all of it
module _ (fs : Disk) where
  behind_same : (s z : Sizes) (c d : ℕ) (f : FileName) (at : ℕ) → s ≡ z → c ≡ d → IsBadImage fs z d f at → IsBadImage fs s c f at
  behind_same s z c d f at size number bad = subst (λ n. IsBadImage fs s n f at) (sym number) (subst (λ k. IsBadImage fs k d f at) (sym size) bad)

  one_image : (s : Sizes) (c : ℕ) (f g : FileName) (at bt : ℕ) → IsBadImage fs s c f at → IsBadImage fs s c g bt → (f ≡ g) × (at ≡ bt)
  one_image s c f g at bt a b = (a.name ∙ sym b.name, one_bad_image (file_in fs c) (expected s c (length fs.log)) at bt a.bad b.bad)

  one_behind : (f g : FileName) (at bt : ℕ) → IsBadCurrent fs f at → IsBadCurrent fs g bt → (f ≡ g) × (at ≡ bt)
  one_behind f g at bt a b = one_image a.sizes a.current f g at bt a.bad (behind_same a.sizes b.sizes a.current b.current g bt (one_size fs a.sizes b.sizes a.log b.log) (anchor_once fs.anchor a.current b.current a.anchor b.anchor) b.bad)

  one_bad : (f g : FileName) (at bt : ℕ) → IsBadStore fs f at → IsBadStore fs g bt → (f ≡ g) × (at ≡ bt)
  one_bad f g at bt (inl a) (inl b) = (a.name ∙ sym b.name, one_place fs.log at bt (bad_of_first fs.log at a.bad) (bad_of_first fs.log bt b.bad))
  one_bad f g at bt (inl a) (inr (inl b)) = absurd (first_is_good fs b.sizes at b.log a.bad)
  one_bad f g at bt (inl a) (inr (inr b)) = absurd (first_is_good fs b.sizes at b.log a.bad)
  one_bad f g at bt (inr (inl a)) (inl b) = absurd (first_is_good fs a.sizes bt a.log b.bad)
  one_bad f g at bt (inr (inr a)) (inl b) = absurd (first_is_good fs a.sizes bt a.log b.bad)
  one_bad f g at bt (inr (inl a)) (inr (inl b)) = (a.name ∙ sym b.name, a.bad.ends ∙ sym b.bad.ends)
  one_bad f g at bt (inr (inl a)) (inr (inr b)) = absurd (anchor_is_good fs.anchor b.current at b.anchor a.bad)
  one_bad f g at bt (inr (inr a)) (inr (inl b)) = absurd (anchor_is_good fs.anchor a.current bt a.anchor b.bad)
  one_bad f g at bt (inr (inr a)) (inr (inr b)) = one_behind f g at bt a b

  image_good : (s : Sizes) (c : ℕ) (h : Header) (image : List (List ℕ)) (m : Table Pending) (f : FileName) (at : ℕ) → IsFoundIn fs s c h image m
      → IsBadImage fs s c f at → ⊥
  image_good s c h image m f at is bad = image_is_good (file_in fs c) (expected s c (length fs.log)) h image m at (is.some bad.some) bad.bad

  pub nowhere_bad : (s : Sizes) (c : ℕ) (h : Header) (image : List (List ℕ)) (m : Table Pending) (r : Reading) (f : FileName) (at : ℕ)
      → IsOpened fs s c h image m r → IsBadStore fs f at → ⊥
  nowhere_bad s c h image m r f at is (inl log) = first_is_good fs s at is.log log.bad
  nowhere_bad s c h image m r f at is (inr (inl anchor)) = anchor_is_good fs.anchor c at is.anchor anchor.bad
  nowhere_bad s c h image m r f at is (inr (inr b)) =
      image_good s c h image m f at is.image_is (behind_same s b.sizes c b.current f at (one_size fs s b.sizes is.log b.log) (anchor_once fs.anchor c b.current is.anchor b.anchor) b.bad)

pub one_answer : OneAnswer
one_answer fs = record {
  opened = λ s c h image m r is un. begun fs s is.log un;
  bad = λ file at is un. ⊎_elim (λ log. log.bad.formatted un) (λ more. ⊎_elim (λ anchor. begun fs anchor.sizes anchor.log un) (λ behind. begun fs behind.sizes behind.log un) more) is;
  good = λ s c h image m r file at is bad. nowhere_bad fs s c h image m r file at is bad;
  one = λ f g at bt a b. one_bad fs f g at bt a b;
}

-- what a reader that can't go on at the image's place would say
pub never_before :
    (s : Sizes) (c : ℕ) (h : Header) (image : List (List ℕ)) (m : Table Pending) (r : Reading) (file : FileName) (at : ℕ) (o p q : Option Disk) → p ≡ o → q ≡ p
    → IfSome p (λ fs. BeginsWith fs s × IsWindow fs.log r) → IfSome q (λ fs. IsFoundIn fs s c h image m) → r.length < h.place → IfSome o (λ fs. IsBadStore fs file at)
never_before s c h image m r file at o p q same next log found less =
    if_some_two _ _ (λ fs. IsBadStore fs file at) o (if_some_same _ o p same log) (if_some_same _ o q (next ∙ same) found)
    (λ fs a d. absurd (omega (arith, less, a.1.all, place_inside fs s c h image m a.0 d)))
