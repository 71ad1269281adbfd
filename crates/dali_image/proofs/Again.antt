-- The bytes of rows are read as the table with them.
use Rattle.std.proofs.Common.{◌≡◌, ℕ, ◌<◌, ◌≤◌, ◌^◌, Bool, true, false, List, [], ◌∷◌, ◌++◌, length, drop, Option, Some, None, Result, Ok, refl, ap, sym, ◌∙◌, arith, append_assoc, length-drop}
use Rattle.std.specs.Prelude.{◌==◌, ◌&&◌, ◌||◌, not, nat_lt, nat_le, flat_map, map}
use Rattle.std.specs.List.{AllByRecursion}
use Rattle.std.specs.FinMap.{empty}
use Rattle.std.proofs.lemmas.Bool.{lt-ltb, and_from, and_parts}
use Rattle.std.proofs.lemmas.Bool.Decides.{nat_tests}
use Rattle.std.proofs.lemmas.List.{append-nil, drop-drop, drop_at}
use Rattle.std.proofs.lemmas.List.Concat.{flat_map-cons}
use Rattle.dali_geometry.specs.Sizes.{Sizes}
use Rattle.dali_geometry.specs.Places.{regions}
use Rattle.dali_bytes.specs.Cursor.{Cursor, left, moved}
use Rattle.dali_bytes.specs.Fields.{number32, number64}
use Rattle.dali_bytes.specs.Reading.{byte_at, number32_at, number64_at}
use Rattle.dali_bytes.proofs.Numbers.{number32_again, number64_again, length-number32, length-number64}
use Rattle.dali_att.specs.Table.{Table}
use Rattle.dali_record.specs.declared.operations.Undo.{Undo}
use Rattle.dali_record.specs.declared.operations.Undo.TheVariants.{FreeCell, ReviveCell, Restore, FreeEntry, ReviveEntry}
use Rattle.dali_record.specs.declared.operations.Pending.{Pending}
use Rattle.dali_record.specs.Spelling.{flag_bytes, words_bytes, undo_bytes, Is32, Is64, IsUndo, is_cell, is_entry, IsCell, IsEntry, AreFive, ascends}
use Rattle.dali_record.specs.Reading.{is_above}
use Rattle.dali_record.specs.Files.{Row}
use Rattle.dali_crash.specs.Disks.Disks.{pending_bytes, row_bytes, table_bytes, undoes_on, IsPendingIn, IsRowIn, txn_in}
use Rattle.dali_image.specs.Decoding.{◌>>=◌, or_bad, good, byte_from, number32_from, number64_from, cell_from, entry_from, flag_from, five_from, restore_from, undo_from, kind_from, is_on, region_from, pending_from, pendings_from, txn_from, count_from, row_from, rows_from, with_row, start, table_in}
use Rattle.dali_image.specs.Laws.{with_rows, TablesAreReadAgain}
use Rattle.dali_image.proofs.Taken.{Rises}

-- x is read, and the rest is left
record Gets {X : Type 0} (c : Cursor) (x : X) (rest : List ℕ) (r : Result (X × Cursor) ℕ) : Type 0 where
  behind : Cursor
  is : r ≡ Ok (x, behind)
  all : behind.all ≡ c.all
  rest_is : left behind ≡ rest

then : {X Y : Type 0} (c : Cursor) (x : X) (mid rest : List ℕ) (y : Y) (r : Result (X × Cursor) ℕ) (f : X × Cursor → Result (Y × Cursor) ℕ) → Gets c x mid r → ((d : Cursor) → left d ≡ mid → Gets d y rest (f (x, d))) → Gets c y rest (r >>= f)
then c x mid rest y r f h k =
    let g = k h.behind h.rest_is in
    record { behind = g.behind; is = ap (λ q. q >>= f) h.is ∙ g.is; all = g.all ∙ h.all; rest_is = g.rest_is }

ends : {X : Type 0} (c : Cursor) (x : X) (rest : List ℕ) → left c ≡ rest → Gets c x rest (Ok (x, c))
ends c x rest e = record { behind = c; is = refl; all = refl; rest_is = e }

passed : {X : Type 0} (c : Cursor) (x : X) (rest : List ℕ) (b : Bool) (at : ℕ) → b ≡ true → left c ≡ rest → Gets c x rest (good b at (x, c))
passed c x rest b at so e = record { behind = c; is = ap (λ t. good t at (x, c)) so; all = refl; rest_is = e }

checked : {X Y : Type 0} (c : Cursor) (y : Y) (rest : List ℕ) (b : Bool) (at : ℕ) (x : X) (r : Result (Y × Cursor) ℕ) → b ≡ true → Gets c y rest r → Gets c y rest (good b at x >>= λ _. r)
checked c y rest b at x r so h = record { behind = h.behind; is = ap (λ t. good t at x >>= λ _. r) so ∙ h.is; all = h.all; rest_is = h.rest_is }

-- more fields behind
split : (c : Cursor) (x y rest : List ℕ) → left c ≡ (x ++ y) ++ rest → left c ≡ x ++ (y ++ rest)
split c x y rest e = e ∙ append_assoc x y rest

byte_gets : (c : Cursor) (n : ℕ) (rest : List ℕ) → left c ≡ n ∷ rest → Gets c n rest (byte_from c)
unfolding byte_from
byte_gets c n rest e = record { behind = moved 1 c; is = ap (λ bs. or_bad c.at (moved 1 c) (byte_at bs)) e; all = refl; rest_is = sym (drop-drop 1 c.at c.all) ∙ ap (drop 1) e }

number32_gets : (c : Cursor) (n : ℕ) (rest : List ℕ) → Is32 n → left c ≡ number32 n ++ rest → Gets c n rest (number32_from c)
unfolding number32_from
number32_gets c n rest fits e = record { behind = moved 4 c; is = ap (λ bs. or_bad c.at (moved 4 c) (number32_at bs)) e ∙ ap (or_bad c.at (moved 4 c)) (number32_again n rest fits); all = refl; rest_is = sym (drop-drop 4 c.at c.all) ∙ (ap (drop 4) e ∙ drop_at (number32 n) rest 4 (length-number32 n)) }

number64_gets : (c : Cursor) (n : ℕ) (rest : List ℕ) → Is64 n → left c ≡ number64 n ++ rest → Gets c n rest (number64_from c)
unfolding number64_from
number64_gets c n rest fits e = record { behind = moved 8 c; is = ap (λ bs. or_bad c.at (moved 8 c) (number64_at bs)) e ∙ ap (or_bad c.at (moved 8 c)) (number64_again n rest fits); all = refl; rest_is = sym (drop-drop 8 c.at c.all) ∙ (ap (drop 8) e ∙ drop_at (number64 n) rest 8 (length-number64 n)) }

cell_gets : (c : Cursor) (n : ℕ) (rest : List ℕ) → IsCell n → left c ≡ n ∷ rest → Gets c n rest (cell_from c)
unfolding cell_from
cell_gets c n rest is e = then c n rest rest n (byte_from c) _ (byte_gets c n rest e) (λ d f. passed d n rest (is_cell n) c.at is f)

entry_gets : (c : Cursor) (n : ℕ) (rest : List ℕ) → IsEntry n → left c ≡ n ∷ rest → Gets c n rest (entry_from c)
unfolding entry_from
entry_gets c n rest is e = then c n rest rest n (byte_from c) _ (byte_gets c n rest e) (λ d f. passed d n rest (is_entry n) c.at is f)

kind_gets : (c : Cursor) (k : ℕ) (rest : List ℕ) → (nat_le 1 k && nat_le k 5) ≡ true → left c ≡ k ∷ rest → Gets c k rest (kind_from c)
unfolding kind_from
kind_gets c k rest is e = then c k rest rest k (byte_from c) _ (byte_gets c k rest e) (λ d f. passed d k rest (nat_le 1 k && nat_le k 5) c.at is f)

flag_gets : (c : Cursor) (b : Bool) (rest : List ℕ) → left c ≡ flag_bytes b ++ rest → Gets c b rest (flag_from c)
unfolding flag_from
flag_gets c false rest e = then c 0 rest rest false (byte_from c) _ (byte_gets c 0 rest e) (λ d f. ends d false rest f)
flag_gets c true rest e = then c 1 rest rest true (byte_from c) _ (byte_gets c 1 rest e) (λ d f. ends d true rest f)

words_gets : (c : Cursor) (a b d e f : ℕ) (rest : List ℕ) → Is64 a → Is64 b → Is64 d → Is64 e → Is64 f → left c ≡ words_bytes (a ∷ b ∷ d ∷ e ∷ f ∷ []) ++ rest → Gets c (a ∷ b ∷ d ∷ e ∷ f ∷ []) rest (five_from c)
unfolding five_from
words_gets c a b d e f rest fa fb fd fe ff is =
    let first : (x : ℕ) (xs : List ℕ) (q : Cursor) → left q ≡ words_bytes (x ∷ xs) ++ rest → left q ≡ number64 x ++ (words_bytes xs ++ rest) = λ x xs q g. g ∙ ap (λ l. l ++ rest) (flat_map-cons number64 x xs) ∙ append_assoc (number64 x) (words_bytes xs) rest in
    then c a (words_bytes (b ∷ d ∷ e ∷ f ∷ []) ++ rest) rest _ (number64_from c) _ (number64_gets c a _ fa (first a (b ∷ d ∷ e ∷ f ∷ []) c is)) (λ d1 e1.
    then d1 b (words_bytes (d ∷ e ∷ f ∷ []) ++ rest) rest _ (number64_from d1) _ (number64_gets d1 b _ fb (first b (d ∷ e ∷ f ∷ []) d1 e1)) (λ d2 e2.
    then d2 d (words_bytes (e ∷ f ∷ []) ++ rest) rest _ (number64_from d2) _ (number64_gets d2 d _ fd (first d (e ∷ f ∷ []) d2 e2)) (λ d3 e3.
    then d3 e (words_bytes (f ∷ []) ++ rest) rest _ (number64_from d3) _ (number64_gets d3 e _ fe (first e (f ∷ []) d3 e3)) (λ d4 e4.
    then d4 f rest rest _ (number64_from d4) _ (number64_gets d4 f rest ff (first f [] d4 e4)) (λ d5 e5. ends d5 _ rest e5)))))

five_gets : (c : Cursor) (ws rest : List ℕ) → AreFive ws → left c ≡ words_bytes ws ++ rest → Gets c ws rest (five_from c)
five_gets c [] rest h e = absurd (omega (arith, h.0))
five_gets c (a ∷ []) rest h e = absurd (omega (arith, h.0))
five_gets c (a ∷ b ∷ []) rest h e = absurd (omega (arith, h.0))
five_gets c (a ∷ b ∷ d ∷ []) rest h e = absurd (omega (arith, h.0))
five_gets c (a ∷ b ∷ d ∷ g ∷ []) rest h e = absurd (omega (arith, h.0))
five_gets c (a ∷ b ∷ d ∷ g ∷ f ∷ []) rest h e = words_gets c a b d g f rest h.1.0 h.1.1.0 h.1.1.1.0 h.1.1.1.1.0 h.1.1.1.1.1.0 e
five_gets c (a ∷ b ∷ d ∷ g ∷ f ∷ k ∷ ks) rest h e = absurd (omega (arith, h.0))

restore_gets : (c : Cursor) (cell n : ℕ) (ws rest : List ℕ) → IsCell cell → Is64 n → AreFive ws → left c ≡ cell ∷ ((number64 n ++ words_bytes ws) ++ rest) → Gets c (Restore cell n ws) rest (restore_from c)
unfolding restore_from
restore_gets c cell n ws rest fc fn fw e =
    then c cell ((number64 n ++ words_bytes ws) ++ rest) rest _ (cell_from c) _ (cell_gets c cell _ fc e) (λ d1 e1.
    then d1 n (words_bytes ws ++ rest) rest _ (number64_from d1) _ (number64_gets d1 n _ fn (split d1 (number64 n) (words_bytes ws) rest e1)) (λ d2 e2.
    then d2 ws rest rest _ (five_from d2) _ (five_gets d2 ws rest fw e2) (λ d3 e3. ends d3 _ rest e3)))

-- the kind of an undo, and what stands behind it
kind_of : Undo → ℕ
kind_of (FreeCell n) = 1
kind_of (ReviveCell n) = 2
kind_of (Restore n k ws) = 3
kind_of (FreeEntry n) = 4
kind_of (ReviveEntry n) = 5

record HasKind (s : Sizes) (r : ℕ) (u : Undo) (c : Cursor) (rest : List ℕ) : Type 0 where
  kind : Gets c (kind_of u) (drop 1 (undo_bytes (Some u) ++ rest)) (kind_from c)
  on : is_on s (kind_of u) r ≡ undoes_on s r u
  undo : (d : Cursor) → left d ≡ drop 1 (undo_bytes (Some u) ++ rest) → Gets d u rest (undo_from (kind_of u) d)

undo_gets : (s : Sizes) (r : ℕ) (u : Undo) (c : Cursor) (rest : List ℕ) → IsUndo u → left c ≡ undo_bytes (Some u) ++ rest → HasKind s r u c rest
unfolding undo_from kind_of
undo_gets s r (FreeCell n) c rest h e = record { kind = kind_gets c 1 (n ∷ rest) refl e; on = refl; undo = λ d f. then d n rest rest _ (cell_from d) _ (cell_gets d n rest h f) (λ g k. ends g _ rest k) }
undo_gets s r (ReviveCell n) c rest h e = record { kind = kind_gets c 2 (n ∷ rest) refl e; on = refl; undo = λ d f. then d n rest rest _ (cell_from d) _ (cell_gets d n rest h f) (λ g k. ends g _ rest k) }
undo_gets s r (Restore n k ws) c rest h e = record { kind = kind_gets c 3 (n ∷ ((number64 k ++ words_bytes ws) ++ rest)) refl e; on = refl; undo = λ d f. restore_gets d n k ws rest h.0 h.1 h.2 f }
undo_gets s r (FreeEntry n) c rest h e = record { kind = kind_gets c 4 (n ∷ rest) refl e; on = refl; undo = λ d f. then d n rest rest _ (entry_from d) _ (entry_gets d n rest h f) (λ g k. ends g _ rest k) }
undo_gets s r (ReviveEntry n) c rest h e = record { kind = kind_gets c 5 (n ∷ rest) refl e; on = refl; undo = λ d f. then d n rest rest _ (entry_from d) _ (entry_gets d n rest h f) (λ g k. ends g _ rest k) }

-- a region of either kind is in range
in_range : (s : Sizes) (r : ℕ) (u : Undo) → undoes_on s r u ≡ true → nat_lt r (regions s) ≡ true
in_range s r (FreeCell n) h = grind (arith, nat_tests, h)
in_range s r _ h = grind (arith, nat_tests, h)

region_gets : (s : Sizes) (c : Cursor) (r : ℕ) (rest : List ℕ) → Is32 r → nat_lt r (regions s) ≡ true → left c ≡ number32 r ++ rest → Gets c r rest (region_from s c)
unfolding region_from
region_gets s c r rest fits is e = then c r rest rest r (number32_from c) _ (number32_gets c r rest fits e) (λ d f. passed d r rest (nat_lt r (regions s)) c.at is f)

pending_gets : (s : Sizes) (c : Cursor) (u : Pending) (rest : List ℕ) → IsPendingIn s u → left c ≡ pending_bytes u ++ rest → Gets c u rest (pending_from s c)
unfolding pending_from
pending_gets s c u rest h e =
    let undo = undo_bytes (Some u.undo) in
    then c u.key ((number32 u.region ++ undo) ++ rest) rest _ (number64_from c) _ (number64_gets c u.key _ h.key (split c (number64 u.key) (number32 u.region ++ undo) rest e)) (λ d1 e1.
    then d1 u.region (undo ++ rest) rest _ (region_from s d1) _ (region_gets s d1 u.region _ h.region (in_range s u.region u.undo h.kind) (split d1 (number32 u.region) undo rest e1)) (λ d2 e2.
    let k = undo_gets s u.region u.undo d2 rest h.undo e2 in
    then d2 (kind_of u.undo) (drop 1 (undo ++ rest)) rest _ (kind_from d2) _ k.kind (λ d3 e3.
    checked d3 u rest (is_on s (kind_of u.undo) u.region) d1.at (kind_of u.undo, d3) _ (k.on ∙ h.kind)
    (then d3 u.undo rest rest _ (undo_from (kind_of u.undo) d3) _ (k.undo d3 e3) (λ d4 e4. ends d4 _ rest e4)))))

pendings_gets : (s : Sizes) (c : Cursor) (us : List Pending) (rest : List ℕ) → AllByRecursion (IsPendingIn s) us → left c ≡ flat_map pending_bytes us ++ rest → Gets c us rest (pendings_from s (length us) c)
unfolding pendings_from
pendings_gets s c [] rest h e = ends c [] rest e
pendings_gets s c (u ∷ us) rest h e =
    then c u (flat_map pending_bytes us ++ rest) rest _ (pending_from s c) _ (pending_gets s c u _ h.0 (e ∙ ap (λ l. l ++ rest) (flat_map-cons pending_bytes u us) ∙ append_assoc (pending_bytes u) (flat_map pending_bytes us) rest)) (λ d1 e1.
    then d1 us rest rest _ (pendings_from s (length us) d1) _ (pendings_gets s d1 us rest h.1 e1) (λ d2 e2. ends d2 _ rest e2))

none_or : (b : Bool) (n : ℕ) → (b ≡ true → n ≡ 0) → (not b || (n == 0)) ≡ true
none_or true n h = rw (h refl) refl
none_or false n h = refl

row_gets : (s : Sizes) (next : ℕ) (last : Option ℕ) (c : Cursor) (row : Row) (rest : List ℕ) → next < 2 ^ 64 → IsRowIn s next row → is_above last row.txn ≡ true → left c ≡ row_bytes row ++ rest → Gets c row rest (row_from s next last c)
unfolding row_from txn_from count_from
row_gets s next last c row rest small h above e =
    let undos = flat_map pending_bytes row.undos in
    let fits : Is64 row.txn = omega (arith, h.txn, small) in
    then c row.txn ((flag_bytes row.is_committed ++ (number32 (length row.undos) ++ undos)) ++ rest) rest _ (txn_from next last c) _
    (then c row.txn _ _ row.txn (number64_from c) _ (number64_gets c row.txn _ fits (split c (number64 row.txn) (flag_bytes row.is_committed ++ (number32 (length row.undos) ++ undos)) rest e))
    (λ d f. passed d row.txn _ (is_above last row.txn && nat_lt row.txn next) c.at (and_from _ _ above (lt-ltb row.txn next h.txn)) f)) (λ d1 e1.
    then d1 row.is_committed ((number32 (length row.undos) ++ undos) ++ rest) rest _ (flag_from d1) _ (flag_gets d1 row.is_committed _ (split d1 (flag_bytes row.is_committed) (number32 (length row.undos) ++ undos) rest e1)) (λ d2 e2.
    then d2 (length row.undos) (undos ++ rest) rest _ (count_from row.is_committed d2) _
    (then d2 (length row.undos) _ _ (length row.undos) (number32_from d2) _ (number32_gets d2 (length row.undos) _ h.count (split d2 (number32 (length row.undos)) undos rest e2))
    (λ d f. passed d (length row.undos) _ (not row.is_committed || (length row.undos == 0)) d2.at (none_or row.is_committed (length row.undos) (λ so. ap length (h.committed so))) f)) (λ d3 e3.
    then d3 row.undos rest rest _ (pendings_from s (length row.undos) d3) _ (pendings_gets s d3 row.undos rest h.undos e3) (λ d4 e4. ends d4 _ rest e4))))

rows_gets : (s : Sizes) (next : ℕ) (last : Option ℕ) (m : Table Pending) (c : Cursor) (rows : List Row) (rest : List ℕ) → next < 2 ^ 64 → AllByRecursion (IsRowIn s next) rows → Rises last rows → left c ≡ flat_map row_bytes rows ++ rest → Gets c (with_rows m rows) rest (rows_from s next last m (length rows) c)
unfolding rows_from
rows_gets s next last m c [] rest small h rise e = ends c m rest e
rows_gets s next last m c (row ∷ rows) rest small h rise e =
    then c row (flat_map row_bytes rows ++ rest) rest _ (row_from s next last c) _ (row_gets s next last c row _ small h.0 rise.0 (e ∙ ap (λ l. l ++ rest) (flat_map-cons row_bytes row rows) ∙ append_assoc (row_bytes row) (flat_map row_bytes rows) rest)) (λ d1 e1.
    rows_gets s next (Some row.txn) (with_row m row) d1 rows rest small h.1 rise.1 e1)

rise_on : (last : ℕ) (rows : List Row) → ascends (last ∷ map txn_in rows) ≡ true → Rises (Some last) rows
rise_on last [] h = tt
rise_on last (row ∷ rows) h = let g = and_parts (nat_lt last row.txn) (ascends (row.txn ∷ map txn_in rows)) h in (g.0, rise_on row.txn rows g.1)

pub rise_of : (rows : List Row) → ascends (map txn_in rows) ≡ true → Rises None rows
rise_of [] h = tt
rise_of (row ∷ rows) h = (refl, rise_on row.txn rows h)

pub tables_are_read_again : TablesAreReadAgain
unfolding table_in
tables_are_read_again s next rows small h =
    let bytes = table_bytes rows in
    let all = flat_map row_bytes rows in
    let one = number32_gets (start bytes) (length rows) all h.count refl in
    let two = rows_gets s next None empty one.behind rows [] small h.fit (rise_of rows h.ascending) (one.rest_is ∙ sym (append-nil all)) in
    let whole : two.behind.all ≡ bytes = two.all ∙ one.all in
    let past : length bytes ≤ two.behind.at = omega (arith, ap length whole, ap length two.rest_is, length-drop two.behind.at two.behind.all) in
    let so : nat_le (length bytes) two.behind.at ≡ true = grind (arith, nat_tests, past) in
    ap (λ q. q >>= λ n. rows_from s next None empty n.0 n.1 >>= λ x. good (nat_le (length bytes) x.1.at) x.1.at x.0) one.is
    ∙ (ap (λ q. q >>= λ x. good (nat_le (length bytes) x.1.at) x.1.at x.0) two.is
    ∙ ap (λ t. good t two.behind.at (with_rows empty rows)) so)
