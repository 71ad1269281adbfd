-- A bad place lies within the bytes or at their end, and so does the place behind what was read.
use Rattle.std.proofs.Common.{◌≡◌, ℕ, zero, suc, ◌≤◌, Bool, true, false, cond, ltb, List, [], ◌∷◌, length, drop, Option, Some, None, Result, Ok, Err, refl, ap, sym, subst, ◌∙◌, arith, length-drop}
use Rattle.std.proofs.lemmas.Bool.{ltb-false}
use Rattle.std.specs.FinMap.{empty}
use Rattle.dali_geometry.specs.Sizes.{Sizes}
use Rattle.dali_bytes.specs.Cursor.{Cursor, left, moved}
use Rattle.dali_bytes.specs.Reading.{byte_at, number32_at, number64_at}
use Rattle.dali_att.specs.Table.{Table}
use Rattle.dali_record.specs.declared.operations.Undo.TheVariants.{FreeCell, ReviveCell, FreeEntry, ReviveEntry}
use Rattle.dali_record.specs.declared.operations.Pending.{Pending}
use Rattle.dali_image.specs.Decoding.{At, ◌>>=◌, or_bad, good, as_flag, byte_from, number32_from, number64_from, cell_from, entry_from, flag_from, five_from, restore_from, with_number, undo_from, kind_from, region_from, pending_from, pendings_from, txn_from, count_from, row_from, rows_from, with_row, start, table_in}

abbrev pub Inside : {X : Type 0} → Cursor → Result (X × Cursor) ℕ → Type 0
Inside c (Ok x) = (x.1.all ≡ c.all) × (x.1.at ≤ length c.all)
Inside c (Err at) = at ≤ length c.all

abbrev pub StaysIn : {X : Type 0} → At X → Type 0
StaysIn r = (c : Cursor) → c.at ≤ length c.all → Inside c (r c)

onward : {X : Type 0} (c d : Cursor) (r : Result (X × Cursor) ℕ) → d.all ≡ c.all → Inside d r → Inside c r
onward c d (Ok x) e h = (h.0 ∙ e, subst (λ (l : List ℕ). x.1.at ≤ length l) e h.1)
onward c d (Err at) e h = subst (λ (l : List ℕ). at ≤ length l) e h

then : {X Y : Type 0} (c : Cursor) (r : Result (X × Cursor) ℕ) (f : X × Cursor → Result (Y × Cursor) ℕ) → Inside c r → ((x : X) (d : Cursor) → d.all ≡ c.all → d.at ≤ length d.all → Inside d (f (x, d))) → Inside c (r >>= f)
then c (Ok x) f h g = onward c x.1 (f x) h.0 (g x.0 x.1 h.0 (subst (λ (l : List ℕ). x.1.at ≤ length l) (sym h.0) h.1))
then c (Err at) f h g = h

ends : {X : Type 0} (c : Cursor) (x : X) → c.at ≤ length c.all → Inside c (Ok (x, c))
ends c x h = (refl, h)

-- a test at a place within
tested : {X : Type 0} (c : Cursor) (b : Bool) (at : ℕ) (x : X × Cursor) → at ≤ length c.all → Inside c (Ok x) → Inside c (good b at x)
tested c true at x le h = h
tested c false at x le h = le

-- a test whose value isn't used
checked : {X Y : Type 0} (c : Cursor) (b : Bool) (at : ℕ) (x : X) (r : Result (Y × Cursor) ℕ) → at ≤ length c.all → Inside c r → Inside c (good b at x >>= λ _. r)
checked c true at x r le h = h
checked c false at x r le h = le

-- what is known of a place stays known of the bytes that were read on
as_before : (c d : Cursor) → d.all ≡ c.all → (at : ℕ) → at ≤ length c.all → at ≤ length d.all
as_before c d e at le = subst (λ (l : List ℕ). at ≤ length l) (sym e) le

byte_in : StaysIn byte_from
unfolding byte_from
byte_in c h = by_bytes (drop c.at c.all) refl
  where
    by_bytes : (bs : List ℕ) → drop c.at c.all ≡ bs → Inside c (or_bad c.at (moved 1 c) (byte_at bs))
    by_bytes [] e = h
    by_bytes (b ∷ bs) e = (refl, omega (arith, ap length e, length-drop c.at c.all))

sized : {X : Type 0} (c : Cursor) (n : ℕ) (b : Bool) (x : X × List ℕ) → ltb (length (left c)) n ≡ b → c.at ≤ length c.all → Inside c (or_bad c.at (moved n c) (cond b None (Some x)))
sized c n true x e h = h
sized c n false x e h = (refl, omega (arith, ltb-false (length (left c)) n e, length-drop c.at c.all, h))

number32_in : StaysIn number32_from
unfolding number32_from number32_at
number32_in c h = sized c 4 (ltb (length (left c)) 4) _ refl h

number64_in : StaysIn number64_from
unfolding number64_from number64_at
number64_in c h = sized c 8 (ltb (length (left c)) 8) _ refl h

cell_in : StaysIn cell_from
unfolding cell_from
cell_in c h = then c (byte_from c) _ (byte_in c h) (λ x d e i. tested d _ c.at (x, d) (as_before c d e c.at h) (ends d x i))

entry_in : StaysIn entry_from
unfolding entry_from
entry_in c h = then c (byte_from c) _ (byte_in c h) (λ x d e i. tested d _ c.at (x, d) (as_before c d e c.at h) (ends d x i))

kind_in : StaysIn kind_from
unfolding kind_from
kind_in c h = then c (byte_from c) _ (byte_in c h) (λ x d e i. tested d _ c.at (x, d) (as_before c d e c.at h) (ends d x i))

flag_in : StaysIn flag_from
unfolding flag_from
flag_in c h = then c (byte_from c) _ (byte_in c h) (λ x d e i. by_number d x i (as_before c d e c.at h))
  where
    by_test : (d : Cursor) (a b : Bool) → d.at ≤ length d.all → c.at ≤ length d.all → Inside d (cond a (Ok (false, d)) (cond b (Ok (true, d)) (Err c.at)))
    by_test d true b i le = ends d false i
    by_test d false true i le = ends d true i
    by_test d false false i le = le

    by_number : (d : Cursor) (x : ℕ) → d.at ≤ length d.all → c.at ≤ length d.all → Inside d (as_flag c.at (x, d))
    by_number d x i le = by_test d _ _ i le

five_in : StaysIn five_from
unfolding five_from
five_in c h =
    then c (number64_from c) _ (number64_in c h) (λ x1 d1 e1 i1.
    then d1 (number64_from d1) _ (number64_in d1 i1) (λ x2 d2 e2 i2.
    then d2 (number64_from d2) _ (number64_in d2 i2) (λ x3 d3 e3 i3.
    then d3 (number64_from d3) _ (number64_in d3 i3) (λ x4 d4 e4 i4.
    then d4 (number64_from d4) _ (number64_in d4 i4) (λ x5 d5 e5 i5. (refl, i5))))))

restore_in : StaysIn restore_from
unfolding restore_from
restore_in c h =
    then c (cell_from c) _ (cell_in c h) (λ x1 d1 e1 i1.
    then d1 (number64_from d1) _ (number64_in d1 i1) (λ x2 d2 e2 i2.
    then d2 (five_from d2) _ (five_in d2 i2) (λ x3 d3 e3 i3. (refl, i3))))

undo_in : (kind : ℕ) → StaysIn (undo_from kind)
unfolding undo_from
undo_in kind c h = by_kind _ _ _ _
  where
    cells : (f : ℕ → _) → Inside c (with_number f cell_from c)
    cells f = then c (cell_from c) _ (cell_in c h) (λ x d e i. ends d (f x) i)

    entries : (f : ℕ → _) → Inside c (with_number f entry_from c)
    entries f = then c (entry_from c) _ (entry_in c h) (λ x d e i. ends d (f x) i)

    by_kind : (a b d e : Bool) → Inside c (cond a (with_number FreeCell cell_from c) (cond b (with_number ReviveCell cell_from c) (cond d (restore_from c) (cond e (with_number FreeEntry entry_from c) (with_number ReviveEntry entry_from c)))))
    by_kind true b d e = cells FreeCell
    by_kind false true d e = cells ReviveCell
    by_kind false false true e = restore_in c h
    by_kind false false false true = entries FreeEntry
    by_kind false false false false = entries ReviveEntry

region_in : (s : Sizes) → StaysIn (region_from s)
unfolding region_from
region_in s c h = then c (number32_from c) _ (number32_in c h) (λ x d e i. tested d _ c.at (x, d) (as_before c d e c.at h) (ends d x i))

pending_in : (s : Sizes) → StaysIn (pending_from s)
unfolding pending_from
pending_in s c h =
    then c (number64_from c) _ (number64_in c h) (λ key d1 e1 i1.
    then d1 (region_from s d1) _ (region_in s d1 i1) (λ r d2 e2 i2.
    then d2 (kind_from d2) _ (kind_in d2 i2) (λ k d3 e3 i3.
    checked d3 _ d1.at (k, d3) _ (as_before d2 d3 e3 d1.at (as_before d1 d2 e2 d1.at i1)) (then d3 (undo_from k d3) _ (undo_in k d3 i3) (λ u d4 e4 i4. (refl, i4))))))

pendings_in : (s : Sizes) (k : ℕ) → StaysIn (pendings_from s k)
unfolding pendings_from
pendings_in s zero c h = (refl, h)
pendings_in s (suc k) c h = then c (pending_from s c) _ (pending_in s c h) (λ u d e i. then d (pendings_from s k d) _ (pendings_in s k d i) (λ us d2 e2 i2. ends d2 (u ∷ us) i2))

txn_in : (next : ℕ) (last : Option ℕ) → StaysIn (txn_from next last)
unfolding txn_from
txn_in next last c h = then c (number64_from c) _ (number64_in c h) (λ x d e i. tested d _ c.at (x, d) (as_before c d e c.at h) (ends d x i))

count_in : (b : Bool) → StaysIn (count_from b)
unfolding count_from
count_in b c h = then c (number32_from c) _ (number32_in c h) (λ x d e i. tested d _ c.at (x, d) (as_before c d e c.at h) (ends d x i))

row_in : (s : Sizes) (next : ℕ) (last : Option ℕ) → StaysIn (row_from s next last)
unfolding row_from
row_in s next last c h =
    then c (txn_from next last c) _ (txn_in next last c h) (λ t d1 e1 i1.
    then d1 (flag_from d1) _ (flag_in d1 i1) (λ f d2 e2 i2.
    then d2 (count_from f d2) _ (count_in f d2 i2) (λ n d3 e3 i3.
    then d3 (pendings_from s n d3) _ (pendings_in s n d3 i3) (λ us d4 e4 i4. (refl, i4)))))

rows_in : (s : Sizes) (next : ℕ) (last : Option ℕ) (m : Table Pending) (k : ℕ) → StaysIn (rows_from s next last m k)
unfolding rows_from
rows_in s next last m zero c h = ends c m h
rows_in s next last m (suc k) c h = then c (row_from s next last c) _ (row_in s next last c h) (λ row d e i. rows_in s next (Some row.txn) (with_row m row) k d i)

-- ---- all of the bytes
abbrev Fine : {X : Type 0} → ℕ → Result X ℕ → Type 0
Fine n (Ok x) = Unit {0}
Fine n (Err at) = at ≤ n

then_fine : {X Y : Type 0} (c : Cursor) (r : Result (X × Cursor) ℕ) (f : X × Cursor → Result Y ℕ) → Inside c r → ((x : X) (d : Cursor) → d.all ≡ c.all → d.at ≤ length d.all → Fine (length d.all) (f (x, d))) → Fine (length c.all) (r >>= f)
then_fine c (Ok x) f h g = subst (λ (l : List ℕ). Fine (length l) (f x)) h.0 (g x.0 x.1 h.0 (subst (λ (l : List ℕ). x.1.at ≤ length l) (sym h.0) h.1))
then_fine c (Err at) f h g = h

tested_fine : {X : Type 0} (n : ℕ) (b : Bool) (at : ℕ) (x : X) → at ≤ n → Fine n (good b at x)
tested_fine n true at x le = tt
tested_fine n false at x le = le

table_fine : (s : Sizes) (next : ℕ) (bytes : List ℕ) → Fine (length bytes) (table_in s next bytes)
unfolding table_in
table_fine s next bytes =
    then_fine (start bytes) (number32_from (start bytes)) _ (number32_in (start bytes) (omega arith)) (λ n d e i.
    then_fine d (rows_from s next None empty n d) _ (rows_in s next None empty n d i) (λ m d2 e2 i2.
    tested_fine (length d2.all) _ d2.at m i2))

pub bad_within : (s : Sizes) (next : ℕ) (bytes : List ℕ) (at : ℕ) → table_in s next bytes ≡ Err at → at ≤ length bytes
bad_within s next bytes at e = subst (Fine (length bytes)) e (table_fine s next bytes)
