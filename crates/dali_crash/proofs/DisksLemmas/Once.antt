-- The bytes of the four files spell one crash image.
use Rattle.std.proofs.Common.{◌≡◌, ℕ, zero, suc, ◌<◌, ◌^◌, List, [], ◌∷◌, ◌++◌, length, drop, Some, refl, ap, sym, subst, ◌∙◌, ⊎_elim, arith, append_assoc}
use Rattle.std.specs.Prelude.{flat_map}
use Rattle.std.specs.List.{AllByRecursion}
use Rattle.std.proofs.lemmas.Bool.{cases_lt}
use Rattle.std.proofs.lemmas.List.{drop_at}
use Rattle.dali_lists.proofs.Options.{some_same}
use Rattle.dali_geometry.specs.Sizes.{Sizes}
use Rattle.dali_bytes.specs.Fields.{number32, number64}
use Rattle.dali_record.specs.declared.operations.Pending.{Pending}
use Rattle.dali_record.specs.declared.records.Record.{Record}
use Rattle.dali_record.specs.Spelling.{flag_bytes, words_bytes, undo_bytes, Is32}
use Rattle.dali_record.specs.Reading.{At}
use Rattle.dali_record.specs.Legal.{sizes_of}
use Rattle.dali_record.specs.Files.{Files, Row}
use Rattle.dali_record.proofs.Readers.{IsReader, some_is}
use Rattle.dali_record.proofs.Fields.{reader32, reader64, reader_flag, reader_words}
use Rattle.dali_record.proofs.Tables.{reader_undo}
use Rattle.dali_crash.specs.Checkpoints.{Head, side_of}
use Rattle.dali_log.proofs.Unique.{one_log}
use Rattle.dali_crash.specs.Disks.Disks.{pending_bytes, row_bytes, table_bytes, header_bytes, IsPendingIn, IsRowIn, CanBeImage, IsImageOf, image_file, head_of, sizes_in, unchecked, SpellsOne}
use Rattle.dali_log.specs.Anchors.{IsAnchor}

-- ---- what begins in one way
record Once {X : Type 0} (s : X → List ℕ) (P : X → Type 0) : Type 0 where
  one : (a b : X) (x y : List ℕ) → P a → P b → s a ++ x ≡ s b ++ y → (a ≡ b) × (x ≡ y)

once : {X : Type 0} {x_at : At X} {s : X → List ℕ} {P : X → Type 0} → IsReader x_at s P → Once s P
once {X = X} {x_at = x_at} r = record {
  one = λ a b x y p q e.
      let pair = some_is (a, x) (b, y) (sym (r.again a x p) ∙ ap x_at e ∙ r.again b y q) in
      (ap (λ (z : X × List ℕ). z.0) pair, ap (λ (z : X × List ℕ). z.1) pair);
}

-- with more fields behind
peel : {X : Type 0} {s : X → List ℕ} {P : X → Type 0} → Once s P → (a b : X) (u v x y : List ℕ) → P a → P b → (s a ++ u) ++ x ≡ (s b ++ v) ++ y → (a ≡ b) × (u ++ x ≡ v ++ y)
peel {s = s} o a b u v x y p q e = o.one a b (u ++ x) (v ++ y) p q (sym (append_assoc (s a) u x) ∙ (e ∙ append_assoc (s b) v y))

-- the same bytes in front
behind : (f u v x y : List ℕ) → (f ++ u) ++ x ≡ (f ++ v) ++ y → u ++ x ≡ v ++ y
behind f u v x y e =
    sym (drop_at f (u ++ x) (length f) refl)
    ∙ (ap (drop (length f)) (sym (append_assoc f u x) ∙ (e ∙ append_assoc f v y))
    ∙ drop_at f (v ++ y) (length f) refl)

list_once : {X : Type 0} {s : X → List ℕ} {P : X → Type 0} → Once s P → (xs ys : List X) (x y : List ℕ) → length xs ≡ length ys → AllByRecursion P xs → AllByRecursion P ys → flat_map s xs ++ x ≡ flat_map s ys ++ y → (xs ≡ ys) × (x ≡ y)
list_once one [] [] x y n p q e = (refl, e)
list_once one [] (b ∷ ys) x y n p q e = absurd (omega (arith, n))
list_once one (a ∷ xs) [] x y n p q e = absurd (omega (arith, n))
list_once {s = s} one (a ∷ xs) (b ∷ ys) x y n p q e =
    let first = peel one a b (flat_map s xs) (flat_map s ys) x y p.0 q.0 e in
    let rest = list_once one xs ys x y (omega (arith, n)) p.1 q.1 first.1 in
    (ap (λ z. z ∷ xs) first.0 ∙ ap (λ zs. b ∷ zs) rest.0, rest.1)

three : {X Y Z W : Type 0} (f : X → Y → Z → W) {a b : X} {c d : Y} {g h : Z} → a ≡ b → c ≡ d → g ≡ h → f a c g ≡ f b d h
three f {a = a} {b = b} {c = c} {d = d} {g = g} {h = h} p q r = ap (λ x. f x c g) p ∙ (ap (λ y. f b y g) q ∙ ap (λ z. f b d z) r)

-- ---- tables
pending_once : (s : Sizes) → Once pending_bytes (IsPendingIn s)
pending_once s = record { one = by_fields }
  where
    by_fields : (a b : Pending) (x y : List ℕ) → IsPendingIn s a → IsPendingIn s b → pending_bytes a ++ x ≡ pending_bytes b ++ y → (a ≡ b) × (x ≡ y)
    by_fields a b x y p q e =
        let key = peel (once reader64) a.key b.key (number32 a.region ++ undo_bytes (Some a.undo)) (number32 b.region ++ undo_bytes (Some b.undo)) x y p.key q.key e in
        let region = peel (once reader32) a.region b.region (undo_bytes (Some a.undo)) (undo_bytes (Some b.undo)) x y p.region q.region key.1 in
        let undo = (once reader_undo).one (Some a.undo) (Some b.undo) x y p.undo q.undo region.1 in
        (three (λ k r u. let w : Pending = record { key = k; region = r; undo = u } in w) key.0 region.0 (some_same undo.0), undo.1)

row_once : (s : Sizes) (next : ℕ) → next < 2 ^ 40 → Once row_bytes (IsRowIn s next)
row_once s next small = record { one = by_fields }
  where
    by_fields : (a b : Row) (x y : List ℕ) → IsRowIn s next a → IsRowIn s next b → row_bytes a ++ x ≡ row_bytes b ++ y → (a ≡ b) × (x ≡ y)
    by_fields a b x y p q e =
        let undos_a : List ℕ = flat_map pending_bytes a.undos in
        let undos_b : List ℕ = flat_map pending_bytes b.undos in
        let fits_a : a.txn < 2 ^ 64 = omega (arith, p.txn, small) in
        let fits_b : b.txn < 2 ^ 64 = omega (arith, q.txn, small) in
        let txn = peel (once reader64) a.txn b.txn (flag_bytes a.is_committed ++ (number32 (length a.undos) ++ undos_a)) (flag_bytes b.is_committed ++ (number32 (length b.undos) ++ undos_b)) x y fits_a fits_b e in
        let state = peel (once reader_flag) a.is_committed b.is_committed (number32 (length a.undos) ++ undos_a) (number32 (length b.undos) ++ undos_b) x y tt tt txn.1 in
        let count = peel (once reader32) (length a.undos) (length b.undos) undos_a undos_b x y p.count q.count state.1 in
        let undos = list_once (pending_once s) a.undos b.undos x y count.0 p.undos q.undos count.1 in
        (three (λ t c us. let w : Row = record { txn = t; is_committed = c; undos = us } in w) txn.0 state.0 undos.0, undos.1)

table_once : (s : Sizes) (next : ℕ) → next < 2 ^ 40 → (xs ys : List Row) (x y : List ℕ) → Is32 (length xs) → Is32 (length ys) → AllByRecursion (IsRowIn s next) xs → AllByRecursion (IsRowIn s next) ys → table_bytes xs ++ x ≡ table_bytes ys ++ y → xs ≡ ys
table_once s next small xs ys x y m n p q e =
    let count = peel (once reader32) (length xs) (length ys) (flat_map row_bytes xs) (flat_map row_bytes ys) x y m n e in
    (list_once (row_once s next small) xs ys x y count.0 p q count.1).0

-- ---- images
-- what stands behind the fields of a header
abbrev size_on : Head → List ℕ
size_on h = number64 (length (table_bytes h.table))

abbrev next_on : Head → List ℕ
next_on h = number64 h.next ++ size_on h

abbrev weight_on : Head → List ℕ
weight_on h = number64 h.weight ++ next_on h

abbrev first_on : Head → List ℕ
first_on h = number64 h.first ++ weight_on h

abbrev place_on : Head → List ℕ
place_on h = number64 h.place ++ first_on h

abbrev number_on : Head → List ℕ
number_on h = number64 h.number ++ place_on h

abbrev IsSame : Head → List (List ℕ) → Head → List (List ℕ) → Type 0
IsSame h image k other = (h ≡ k) × (image ≡ other)

image_once : (s : Sizes) (bytes : List ℕ) (h k : Head) (image other : List (List ℕ)) → IsImageOf s bytes h image → IsImageOf s bytes k other → IsSame h image k other
image_once s bytes h k image other one two =
    let f : CanBeImage s h image = one.fits in
    let g : CanBeImage s k other = two.fits in
    let words_h : List ℕ = flat_map words_bytes image in
    let words_k : List ℕ = flat_map words_bytes other in
    let x : List ℕ = (words_h ++ table_bytes h.table) ++ one.rest in
    let y : List ℕ = (words_k ++ table_bytes k.table) ++ two.rest in
    let e : header_bytes s h ++ x ≡ header_bytes s k ++ y =
    sym (append_assoc (header_bytes s h) (words_h ++ table_bytes h.table) one.rest) ∙ (sym one.spells ∙ (two.spells ∙ append_assoc (header_bytes s k) (words_k ++ table_bytes k.table) two.rest)) in
    let e1 : (number32 s.index ++ (number32 s.heap ++ number_on h)) ++ x ≡ (number32 s.index ++ (number32 s.heap ++ number_on k)) ++ y = ap (drop 8) e in
    let e2 = behind (number32 s.index) (number32 s.heap ++ number_on h) (number32 s.heap ++ number_on k) x y e1 in
    let e3 = behind (number32 s.heap) (number_on h) (number_on k) x y e2 in
    let number = peel (once reader64) h.number k.number (place_on h) (place_on k) x y f.number g.number e3 in
    let place = peel (once reader64) h.place k.place (first_on h) (first_on k) x y f.place g.place number.1 in
    let first = peel (once reader64) h.first k.first (weight_on h) (weight_on k) x y (small h.first f.first) (small k.first g.first) place.1 in
    let weight = peel (once reader64) h.weight k.weight (next_on h) (next_on k) x y (small h.weight f.weight) (small k.weight g.weight) first.1 in
    let next = peel (once reader64) h.next k.next (size_on h) (size_on k) x y (small h.next f.next) (small k.next g.next) weight.1 in
    let size = (once reader64).one (length (table_bytes h.table)) (length (table_bytes k.table)) x y f.size g.size next.1 in
    let split : words_h ++ (table_bytes h.table ++ one.rest) ≡ words_k ++ (table_bytes k.table ++ two.rest) = sym (append_assoc words_h (table_bytes h.table) one.rest) ∙ (size.1 ∙ append_assoc words_k (table_bytes k.table) two.rest) in
    let words = list_once (once (reader_words 64)) image other (table_bytes h.table ++ one.rest) (table_bytes k.table ++ two.rest) (f.whole ∙ sym g.whole) f.words g.words split in
    let table = table_once s h.next f.next h.table k.table one.rest two.rest f.count g.count f.rows (subst (λ n. AllByRecursion (IsRowIn s n) k.table) (sym next.0) g.rows) words.1 in (
      three (λ n p t. head_with h n p t) number.0 place.0 first.0 ∙ three (λ w n t. let z : Head = record { number = k.number; place = k.place; first = k.first; weight = w; next = n; table = t } in z) weight.0 next.0 table,
      words.0,
    )
  where
    small : (n : ℕ) → n < 2 ^ 40 → n < 2 ^ 64
    small n lt = omega (arith, lt)

    head_with : Head → ℕ → ℕ → ℕ → Head
    head_with h n p t = record { number = n; place = p; first = t; weight = h.weight; next = h.next; table = h.table }

-- ---- anchors
pub anchor_once : (bytes : List ℕ) (m n : ℕ) → IsAnchor bytes m → IsAnchor bytes n → m ≡ n
anchor_once bytes m n one two = ⊎_elim (λ lt. absurd (one.closed.1 (two.gates m lt).1)) (λ le. ⊎_elim (λ lt. absurd (two.closed.1 (one.gates n lt).1)) (λ ge. omega (arith, le, ge)) (cases_lt n m)) (cases_lt m n)

-- ---- the four files
-- files are their batches, their gates, their head and their image
files_of : List (List Record) → ℕ → Head → List (List ℕ) → Files
files_of batches gates h image = record { batches = batches; gates = gates; number = h.number; place = h.place; first = h.first; weight = h.weight; next = h.next; image = image; table = h.table }

pub spells_one : SpellsOne
unfolding files_of
spells_one disk F G one two = by_gates F.gates refl
  where
    batches : F.batches ≡ G.batches
    batches = (one_log disk.log F.batches G.batches one.end two.end one.log two.log).0

    gates : F.gates ≡ G.gates
    gates = anchor_once disk.anchor F.gates G.gates one.anchor two.anchor

    sizes : sizes_in F ≡ sizes_in G
    sizes = ap (λ (ys : List (List Record)). sizes_of (flat_map (λ b. b) ys)) batches

    by_gates : (n : ℕ) → F.gates ≡ n → F ≡ G
    by_gates zero e = one.none e ∙ (ap (λ s. unchecked s F.batches) sizes ∙ (ap (unchecked (sizes_in G)) batches ∙ sym (two.none (sym gates ∙ e))))
    by_gates (suc n) e =
        let a = one.image (omega (arith, e)) in
        let b = two.image (omega (arith, e, gates)) in
        let same = image_once (sizes_in F) (image_file (side_of F.gates) disk) (head_of F) (head_of G) F.image G.image a
        (subst (λ s. IsImageOf s (image_file (side_of F.gates) disk) (head_of G) G.image) (sym sizes) (subst (λ k. IsImageOf (sizes_in G) (image_file (side_of k) disk) (head_of G) G.image) (sym gates) b)) in
        three (λ ys k h. files_of ys k h F.image) batches gates same.0 ∙ ap (λ im. files_of G.batches G.gates (head_of G) im) same.1
