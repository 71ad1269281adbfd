-- What was read as a table is the bytes of its rows.
use Rattle.std.proofs.Common.{◌≡◌, ℕ, zero, suc, ◌<◌, ◌≤◌, Bool, true, false, cond, List, [], ◌∷◌, ◌++◌, length, drop, Option, Some, None, Result, Ok, Err, refl, ap, sym, subst, ◌∙◌, arith, append_assoc}
use Rattle.std.specs.Prelude.{◌==◌, ◌&&◌, ◌||◌, not, nat_lt, nat_le, ⊤, flat_map, map}
use Rattle.std.specs.List.{AllByRecursion}
use Rattle.std.specs.FinMap.{empty}
use Rattle.std.proofs.lemmas.Bool.{eqb-true, ltb-true, and_parts}
use Rattle.std.proofs.lemmas.Bool.Decides.{nat_tests}
use Rattle.std.proofs.lemmas.List.{append-nil, drop-drop, drop_at, drop_all, nil_from_length}
use Rattle.std.proofs.lemmas.List.Concat.{flat_map-cons}
use Rattle.dali_geometry.specs.Sizes.{Sizes}
use Rattle.dali_geometry.specs.Places.{regions}
use Rattle.dali_bytes.specs.Cursor.{Cursor, left, moved, IsBytes}
use Rattle.dali_bytes.specs.Fields.{number32, number64}
use Rattle.dali_bytes.specs.Reading.{byte_at, number32_at, number64_at}
use Rattle.dali_bytes.proofs.Numbers.{number32_taken, number64_taken, length-number32, length-number64, IsBytes-drop}
use Rattle.dali_att.specs.Table.{Table}
use Rattle.dali_record.specs.declared.operations.Undo.{Undo}
use Rattle.dali_record.specs.declared.operations.Undo.TheVariants.{FreeCell, ReviveCell, Restore, FreeEntry, ReviveEntry}
use Rattle.dali_record.specs.declared.operations.Pending.{Pending}
use Rattle.dali_record.specs.Spelling.{flag_bytes, words_bytes, undo_bytes, Is32, Is64, IsUndo, is_cell, is_entry, IsCell, IsEntry, AreFive, ascends}
use Rattle.dali_record.specs.Reading.{is_above}
use Rattle.dali_record.specs.Files.{Row}
use Rattle.dali_crash.specs.Disks.Disks.{pending_bytes, row_bytes, undoes_on, IsPendingIn, IsRowIn, txn_in}
use Rattle.dali_image.specs.Decoding.{◌>>=◌, or_bad, good, byte_from, number32_from, number64_from, cell_from, entry_from, flag_from, five_from, restore_from, with_number, undo_from, kind_from, is_on, region_from, pending_from, pendings_from, txn_from, count_from, row_from, rows_from, with_row, start, table_in}
use Rattle.dali_image.specs.Laws.{with_rows, TablesAreSpelled}

record Takes (c : Cursor) (text : List ℕ) (d : Cursor) : Type 0 where
  all : d.all ≡ c.all
  parts : left c ≡ text ++ left d

takes_then : (c d e : Cursor) (x y : List ℕ) → Takes c x d → Takes d y e → Takes c (x ++ y) e
takes_then c d e x y p q = record { all = q.all ∙ p.all; parts = p.parts ∙ ap (λ (t : List ℕ). x ++ t) q.parts ∙ sym (append_assoc x y (left e)) }

-- where something was read, it is what R says of some text that was taken
abbrev Reads : {X : Type 0} → Cursor → (X → List ℕ → Type 0) → Result (X × Cursor) ℕ → Type 0
Reads c R (Ok x) = (text : List ℕ) × Takes c text x.1 × R x.0 text
Reads c R (Err at) = ⊤

behind : {Y : Type 0} (c d : Cursor) (text : List ℕ) (Q : Y → List ℕ → Type 0) (r : Result (Y × Cursor) ℕ) → Takes c text d → Reads d (λ y more. Q y (text ++ more)) r → Reads c Q r
behind c d text Q (Ok y) t h = (text ++ h.0, takes_then c d y.1 text h.0 t h.1, h.2)
behind c d text Q (Err at) t h = tt

then : {X Y : Type 0} (c : Cursor) (R : X → List ℕ → Type 0) (Q : Y → List ℕ → Type 0) (r : Result (X × Cursor) ℕ) (f : X × Cursor → Result (Y × Cursor) ℕ) → IsBytes c.all → Reads c R r
    → ((x : X) (d : Cursor) (text : List ℕ) → IsBytes d.all → R x text → Reads d (λ y more. Q y (text ++ more)) (f (x, d))) → Reads c Q (r >>= f)
then c R Q (Ok x) f fits h g = behind c x.1 h.0 Q (f x) h.1 (g x.0 x.1 h.0 (subst IsBytes (sym h.1.all) fits) h.2)
then c R Q (Err at) f fits h g = tt

-- nothing more is read
nothing : {X : Type 0} (c : Cursor) (Q : X → List ℕ → Type 0) (x : X) → Q x [] → Reads c Q (Ok (x, c))
nothing c Q x h = ([], record { all = refl; parts = refl }, h)

tested : {X : Type 0} (c : Cursor) (Q : X → List ℕ → Type 0) (b : Bool) (at : ℕ) (x : X) → (b ≡ true → Q x []) → Reads c Q (good b at (x, c))
tested c Q true at x h = nothing c Q x (h refl)
tested c Q false at x h = tt

checked : {X Y : Type 0} (c : Cursor) (Q : Y → List ℕ → Type 0) (b : Bool) (at : ℕ) (x : X) (r : Result (Y × Cursor) ℕ) → (b ≡ true → Reads c Q r) → Reads c Q (good b at x >>= λ _. r)
checked c Q true at x r h = h refl
checked c Q false at x r h = tt

weaker : {X : Type 0} (c : Cursor) (R Q : X → List ℕ → Type 0) (r : Result (X × Cursor) ℕ) → Reads c R r → ((x : X) (text : List ℕ) → R x text → Q x text) → Reads c Q r
weaker c R Q (Ok x) h f = (h.0, h.1, f x.0 h.0 h.2)
weaker c R Q (Err at) h f = tt

-- ---- fields
abbrev IsByte : ℕ → List ℕ → Type 0
IsByte n text = (text ≡ n ∷ []) × (n < 256)

abbrev IsNumber32 : ℕ → List ℕ → Type 0
IsNumber32 n text = (text ≡ number32 n) × Is32 n

abbrev IsNumber64 : ℕ → List ℕ → Type 0
IsNumber64 n text = (text ≡ number64 n) × Is64 n

byte_reads : (c : Cursor) → IsBytes c.all → Reads c IsByte (byte_from c)
unfolding byte_from
byte_reads c fits = by_bytes (left c) refl
  where
    by_bytes : (bs : List ℕ) → left c ≡ bs → Reads c IsByte (or_bad c.at (moved 1 c) (byte_at bs))
    by_bytes [] e = tt
    by_bytes (b ∷ bs) e =
        let rest : left (moved 1 c) ≡ bs = sym (drop-drop 1 c.at c.all) ∙ ap (drop 1) e in
        let small : (i : ℕ) → _ = subst IsBytes e (IsBytes-drop c.at c.all fits) in
        (b ∷ [], record { all = refl; parts = e ∙ ap (λ l. b ∷ l) (sym rest) }, (refl, small 0))

sized : (c : Cursor) (n : ℕ) (s : ℕ → List ℕ) (P : ℕ → Type 0) (read : Option (ℕ × List ℕ)) → ((x : ℕ) → length (s x) ≡ n) → ((x : ℕ) (rest : List ℕ) → read ≡ Some (x, rest) → (left c ≡ s x ++ rest) × P x)
    → Reads c (λ x text. (text ≡ s x) × P x) (or_bad c.at (moved n c) read)
sized c n s P None size taken = tt
sized c n s P (Some x) size taken =
    let t = taken x.0 x.1 refl in
    let rest : left (moved n c) ≡ x.1 = sym (drop-drop n c.at c.all) ∙ (ap (drop n) t.0 ∙ drop_at (s x.0) x.1 n (size x.0)) in
    (s x.0, record { all = refl; parts = t.0 ∙ ap (λ l. s x.0 ++ l) (sym rest) }, (refl, t.1))

number32_reads : (c : Cursor) → IsBytes c.all → Reads c IsNumber32 (number32_from c)
unfolding number32_from
number32_reads c fits = sized c 4 number32 Is32 (number32_at (left c)) length-number32 (λ x rest e. number32_taken (left c) x rest (IsBytes-drop c.at c.all fits) e)

number64_reads : (c : Cursor) → IsBytes c.all → Reads c IsNumber64 (number64_from c)
unfolding number64_from
number64_reads c fits = sized c 8 number64 Is64 (number64_at (left c)) length-number64 (λ x rest e. number64_taken (left c) x rest (IsBytes-drop c.at c.all fits) e)

none_more : {x y : List ℕ} → x ≡ y → x ++ [] ≡ y
none_more {x = x} e = append-nil x ∙ e

cell_reads : (c : Cursor) → IsBytes c.all → Reads c (λ n text. (text ≡ n ∷ []) × IsCell n) (cell_from c)
unfolding cell_from
cell_reads c fits = then c IsByte _ (byte_from c) _ fits (byte_reads c fits) (λ n d text bs h. tested d _ (is_cell n) c.at n (λ is. (none_more h.0, is)))

entry_reads : (c : Cursor) → IsBytes c.all → Reads c (λ n text. (text ≡ n ∷ []) × IsEntry n) (entry_from c)
unfolding entry_from
entry_reads c fits = then c IsByte _ (byte_from c) _ fits (byte_reads c fits) (λ n d text bs h. tested d _ (is_entry n) c.at n (λ is. (none_more h.0, is)))

flag_reads : (c : Cursor) → IsBytes c.all → Reads c (λ b text. text ≡ flag_bytes b) (flag_from c)
unfolding flag_from
flag_reads c fits = then c IsByte _ (byte_from c) _ fits (byte_reads c fits) (λ n d text bs h. by_test d n text h.0 (n == 0) refl (n == 1) refl)
  where
    by_test : (d : Cursor) (n : ℕ) (text : List ℕ) → text ≡ n ∷ [] → (a : Bool) → (n == 0) ≡ a → (b : Bool) → (n == 1) ≡ b → Reads d (λ f more. text ++ more ≡ flag_bytes f) (cond a (Ok (false, d)) (cond b (Ok (true, d)) (Err c.at)))
    by_test d n text e true p b q = nothing d (λ f more. text ++ more ≡ flag_bytes f) false (none_more (e ∙ ap (λ k. k ∷ []) (eqb-true n 0 p)))
    by_test d n text e false p true q = nothing d (λ f more. text ++ more ≡ flag_bytes f) true (none_more (e ∙ ap (λ k. k ∷ []) (eqb-true n 1 q)))
    by_test d n text e false p false q = tt

cat : {x y u v : List ℕ} → x ≡ y → u ≡ v → x ++ u ≡ y ++ v
cat {y = y} {u = u} e f = ap (λ l. l ++ u) e ∙ ap (λ l. y ++ l) f

five_bytes : (a b c d e : ℕ) → words_bytes (a ∷ b ∷ c ∷ d ∷ e ∷ []) ≡ number64 a ++ (number64 b ++ (number64 c ++ (number64 d ++ (number64 e ++ []))))
five_bytes a b c d e =
    flat_map-cons number64 a (b ∷ c ∷ d ∷ e ∷ []) ∙ ap (λ l. number64 a ++ l)
    (flat_map-cons number64 b (c ∷ d ∷ e ∷ []) ∙ ap (λ l. number64 b ++ l)
    (flat_map-cons number64 c (d ∷ e ∷ []) ∙ ap (λ l. number64 c ++ l)
    (flat_map-cons number64 d (e ∷ []) ∙ ap (λ l. number64 d ++ l)
    (flat_map-cons number64 e []))))

abbrev IsFive : List ℕ → List ℕ → Type 0
IsFive ws text = (text ≡ words_bytes ws) × AreFive ws

five_reads : (c : Cursor) → IsBytes c.all → Reads c IsFive (five_from c)
unfolding five_from
five_reads c fits =
    then c IsNumber64 _ (number64_from c) _ fits (number64_reads c fits) (λ x1 d1 t1 f1 h1.
    then d1 IsNumber64 _ (number64_from d1) _ f1 (number64_reads d1 f1) (λ x2 d2 t2 f2 h2.
    then d2 IsNumber64 _ (number64_from d2) _ f2 (number64_reads d2 f2) (λ x3 d3 t3 f3 h3.
    then d3 IsNumber64 _ (number64_from d3) _ f3 (number64_reads d3 f3) (λ x4 d4 t4 f4 h4.
    then d4 IsNumber64 _ (number64_from d4) _ f4 (number64_reads d4 f4) (λ x5 d5 t5 f5 h5.
    let ws = x1 ∷ x2 ∷ x3 ∷ x4 ∷ x5 ∷ [] in
    let h : IsFive ws (t1 ++ (t2 ++ (t3 ++ (t4 ++ (t5 ++ []))))) = (cat h1.0 (cat h2.0 (cat h3.0 (cat h4.0 (cat h5.0 refl)))) ∙ sym (five_bytes x1 x2 x3 x4 x5), (refl, (h1.1, (h2.1, (h3.1, (h4.1, (h5.1, tt))))))) in
    nothing d5 (λ y more. IsFive y (t1 ++ (t2 ++ (t3 ++ (t4 ++ (t5 ++ more)))))) ws h)))))

-- what stands behind the kind of an undo
record Args (kind : ℕ) (u : Undo) (text : List ℕ) : Type 0 where
  bytes : kind ∷ text ≡ undo_bytes (Some u)
  fits : IsUndo u
  on : (s : Sizes) (r : ℕ) → is_on s kind r ≡ undoes_on s r u

restore_reads : (c : Cursor) → IsBytes c.all → Reads c (Args 3) (restore_from c)
unfolding restore_from
restore_reads c fits =
    then c (λ n text. (text ≡ n ∷ []) × IsCell n) _ (cell_from c) _ fits (cell_reads c fits) (λ x1 d1 t1 f1 h1.
    then d1 IsNumber64 _ (number64_from d1) _ f1 (number64_reads d1 f1) (λ x2 d2 t2 f2 h2.
    then d2 IsFive _ (five_from d2) _ f2 (five_reads d2 f2) (λ ws d3 t3 f3 h3.
    let h : Args 3 (Restore x1 x2 ws) (t1 ++ (t2 ++ (t3 ++ []))) = record { bytes = ap (λ l. 3 ∷ l) (cat h1.0 (cat h2.0 (none_more h3.0))); fits = (h1.1, h2.1, h3.1); on = λ s r. refl } in
    nothing d3 (λ y more. Args 3 y (t1 ++ (t2 ++ (t3 ++ more)))) (Restore x1 x2 ws) h)))

undo_reads : (kind : ℕ) (c : Cursor) → IsBytes c.all → (nat_le 1 kind && nat_le kind 5) ≡ true → Reads c (Args kind) (undo_from kind c)
unfolding undo_from
undo_reads kind c fits range = by_kind (kind == 1) refl (kind == 2) refl (kind == 3) refl (kind == 4) refl
  where
    cells : (k : ℕ) (f : ℕ → Undo) → ((n : ℕ) → k ∷ n ∷ [] ≡ undo_bytes (Some (f n))) → ((n : ℕ) → IsCell n → IsUndo (f n)) → ((n : ℕ) (s : Sizes) (r : ℕ) → is_on s k r ≡ undoes_on s r (f n)) → Reads c (Args k) (with_number f cell_from c)
    cells k f bytes is on = then c (λ n text. (text ≡ n ∷ []) × IsCell n) (Args k) (cell_from c) (λ n. Ok (f n.0, n.1)) fits (cell_reads c fits) (λ n d text bs h.
        let made : Args k (f n) (text ++ []) = record { bytes = ap (λ l. k ∷ l) (none_more h.0) ∙ bytes n; fits = is n h.1; on = on n } in
        nothing d (λ y more. Args k y (text ++ more)) (f n) made)

    entries : (k : ℕ) (f : ℕ → Undo) → ((n : ℕ) → k ∷ n ∷ [] ≡ undo_bytes (Some (f n))) → ((n : ℕ) → IsEntry n → IsUndo (f n)) → ((n : ℕ) (s : Sizes) (r : ℕ) → is_on s k r ≡ undoes_on s r (f n)) → Reads c (Args k) (with_number f entry_from c)
    entries k f bytes is on = then c (λ n text. (text ≡ n ∷ []) × IsEntry n) (Args k) (entry_from c) (λ n. Ok (f n.0, n.1)) fits (entry_reads c fits) (λ n d text bs h.
        let made : Args k (f n) (text ++ []) = record { bytes = ap (λ l. k ∷ l) (none_more h.0) ∙ bytes n; fits = is n h.1; on = on n } in
        nothing d (λ y more. Args k y (text ++ more)) (f n) made)

    by_kind : (p : Bool) → (kind == 1) ≡ p → (q : Bool) → (kind == 2) ≡ q → (r : Bool) → (kind == 3) ≡ r → (t : Bool) → (kind == 4) ≡ t
        → Reads c (Args kind) (cond p (with_number FreeCell cell_from c) (cond q (with_number ReviveCell cell_from c) (cond r (restore_from c) (cond t (with_number FreeEntry entry_from c) (with_number ReviveEntry entry_from c)))))
    by_kind true a q b r d t e = subst (λ k. Reads c (Args k) (with_number FreeCell cell_from c)) (sym (eqb-true kind 1 a)) (cells 1 FreeCell (λ n. refl) (λ n h. h) (λ n s r. refl))
    by_kind false a true b r d t e = subst (λ k. Reads c (Args k) (with_number ReviveCell cell_from c)) (sym (eqb-true kind 2 b)) (cells 2 ReviveCell (λ n. refl) (λ n h. h) (λ n s r. refl))
    by_kind false a false b true d t e = subst (λ k. Reads c (Args k) (restore_from c)) (sym (eqb-true kind 3 d)) (restore_reads c fits)
    by_kind false a false b false d true e = subst (λ k. Reads c (Args k) (with_number FreeEntry entry_from c)) (sym (eqb-true kind 4 e)) (entries 4 FreeEntry (λ n. refl) (λ n h. h) (λ n s r. refl))
    by_kind false a false b false d false e =
        let five : kind ≡ 5 = grind (arith, nat_tests, a, b, d, e, range) in
        subst (λ k. Reads c (Args k) (with_number ReviveEntry entry_from c)) (sym five) (entries 5 ReviveEntry (λ n. refl) (λ n h. h) (λ n s r. refl))

kind_reads : (c : Cursor) → IsBytes c.all → Reads c (λ k text. (text ≡ k ∷ []) × ((nat_le 1 k && nat_le k 5) ≡ true)) (kind_from c)
unfolding kind_from
kind_reads c fits = then c IsByte _ (byte_from c) _ fits (byte_reads c fits) (λ k d text bs h. tested d _ (nat_le 1 k && nat_le k 5) c.at k (λ is. (none_more h.0, is)))

region_reads : (s : Sizes) (c : Cursor) → IsBytes c.all → Reads c IsNumber32 (region_from s c)
unfolding region_from
region_reads s c fits = then c IsNumber32 _ (number32_from c) _ fits (number32_reads c fits) (λ r d text bs h. tested d _ (nat_lt r (regions s)) c.at r (λ is. (none_more h.0, h.1)))

abbrev IsOne : Sizes → Pending → List ℕ → Type 0
IsOne s u text = (text ≡ pending_bytes u) × IsPendingIn s u

pending_reads : (s : Sizes) (c : Cursor) → IsBytes c.all → Reads c (IsOne s) (pending_from s c)
unfolding pending_from
pending_reads s c fits =
    then c IsNumber64 _ (number64_from c) _ fits (number64_reads c fits) (λ key d1 t1 f1 h1.
    then d1 IsNumber32 _ (region_from s d1) _ f1 (region_reads s d1 f1) (λ r d2 t2 f2 h2.
    then d2 (λ k text. (text ≡ k ∷ []) × ((nat_le 1 k && nat_le k 5) ≡ true)) _ (kind_from d2) _ f2 (kind_reads d2 f2) (λ k d3 t3 f3 h3.
    checked d3 _ (is_on s k r) d1.at (k, d3) _ (λ on.
    then d3 (Args k) _ (undo_from k d3) _ f3 (undo_reads k d3 f3 h3.1) (λ u d4 t4 f4 h4.
    let whole : Pending = record { key = key; region = r; undo = u } in
    let h : IsOne s whole (t1 ++ (t2 ++ (t3 ++ (t4 ++ [])))) = (cat h1.0 (cat h2.0 (cat h3.0 (append-nil t4) ∙ h4.bytes)), record { key = h1.1; region = h2.1; undo = h4.fits; kind = sym (h4.on s r) ∙ on }) in
    nothing d4 (λ y more. IsOne s y (t1 ++ (t2 ++ (t3 ++ (t4 ++ more))))) whole h)))))

abbrev AreSome : Sizes → ℕ → List Pending → List ℕ → Type 0
AreSome s k us text = (text ≡ flat_map pending_bytes us) × (length us ≡ k) × AllByRecursion (IsPendingIn s) us

pendings_reads : (s : Sizes) (k : ℕ) (c : Cursor) → IsBytes c.all → Reads c (AreSome s k) (pendings_from s k c)
unfolding pendings_from
pendings_reads s zero c fits = nothing c (AreSome s zero) [] (refl, refl, tt)
pendings_reads s (suc k) c fits =
    then c (IsOne s) _ (pending_from s c) _ fits (pending_reads s c fits) (λ u d1 t1 f1 h1.
    then d1 (AreSome s k) _ (pendings_from s k d1) _ f1 (pendings_reads s k d1 f1) (λ us d2 t2 f2 h2.
    let h : AreSome s (suc k) (u ∷ us) (t1 ++ (t2 ++ [])) = (cat h1.0 (none_more h2.0) ∙ sym (flat_map-cons pending_bytes u us), ap suc h2.1, (h1.1, h2.2)) in
    nothing d2 (λ y more. AreSome s (suc k) y (t1 ++ (t2 ++ more))) (u ∷ us) h))

txn_reads : (next : ℕ) (last : Option ℕ) (c : Cursor) → IsBytes c.all → Reads c (λ t text. (text ≡ number64 t) × (is_above last t ≡ true) × (t < next)) (txn_from next last c)
unfolding txn_from
txn_reads next last c fits = then c IsNumber64 _ (number64_from c) _ fits (number64_reads c fits) (λ t d text bs h.
    tested d _ (is_above last t && nat_lt t next) c.at t (λ is. let g = and_parts (is_above last t) (nat_lt t next) is in (none_more h.0, g.0, ltb-true t next g.1)))

none_of : (b : Bool) (n : ℕ) → (not b || (n == 0)) ≡ true → b ≡ true → n ≡ 0
none_of true n e so = eqb-true n 0 e
none_of false n e so = absurd (cc)

count_reads : (b : Bool) (c : Cursor) → IsBytes c.all → Reads c (λ n text. (text ≡ number32 n) × Is32 n × (b ≡ true → n ≡ 0)) (count_from b c)
unfolding count_from
count_reads b c fits = then c IsNumber32 _ (number32_from c) _ fits (number32_reads c fits) (λ n d text bs h. tested d _ (not b || (n == 0)) c.at n (λ is. (none_more h.0, h.1, none_of b n is)))

abbrev IsRow : Sizes → ℕ → Option ℕ → Row → List ℕ → Type 0
IsRow s next last row text = (text ≡ row_bytes row) × IsRowIn s next row × (is_above last row.txn ≡ true)

row_reads : (s : Sizes) (next : ℕ) (last : Option ℕ) (c : Cursor) → IsBytes c.all → Reads c (IsRow s next last) (row_from s next last c)
unfolding row_from
row_reads s next last c fits =
    then c (λ t text. (text ≡ number64 t) × (is_above last t ≡ true) × (t < next)) _ (txn_from next last c) _ fits (txn_reads next last c fits) (λ t d1 t1 f1 h1.
    then d1 (λ b text. text ≡ flag_bytes b) _ (flag_from d1) _ f1 (flag_reads d1 f1) (λ b d2 t2 f2 h2.
    then d2 (λ n text. (text ≡ number32 n) × Is32 n × (b ≡ true → n ≡ 0)) _ (count_from b d2) _ f2 (count_reads b d2 f2) (λ n d3 t3 f3 h3.
    then d3 (AreSome s n) _ (pendings_from s n d3) _ f3 (pendings_reads s n d3 f3) (λ us d4 t4 f4 h4.
    let row : Row = record { txn = t; is_committed = b; undos = us } in
    let h : IsRow s next last row (t1 ++ (t2 ++ (t3 ++ (t4 ++ [])))) = (cat h1.0 (cat h2 (cat (h3.0 ∙ ap number32 (sym h4.1)) (none_more h4.0))), record { txn = h1.2; count = subst Is32 (sym h4.1) h3.1; undos = h4.2; committed = λ so. nil_from_length us (h4.1 ∙ h3.2 so) }, h1.1) in
    nothing d4 (λ y more. IsRow s next last y (t1 ++ (t2 ++ (t3 ++ (t4 ++ more))))) row h))))

-- each number above the one before
abbrev pub Rises : Option ℕ → List Row → Type 0
Rises last [] = ⊤
Rises last (row ∷ rows) = (is_above last row.txn ≡ true) × Rises (Some row.txn) rows

record AreRows (s : Sizes) (next : ℕ) (last : Option ℕ) (k : ℕ) (m n : Table Pending) (text : List ℕ) : Type 0 where
  list : List Row
  bytes : text ≡ flat_map row_bytes list
  count : length list ≡ k
  fit : AllByRecursion (IsRowIn s next) list
  rise : Rises last list
  table : n ≡ with_rows m list

rows_reads : (s : Sizes) (next : ℕ) (last : Option ℕ) (m : Table Pending) (k : ℕ) (c : Cursor) → IsBytes c.all → Reads c (AreRows s next last k m) (rows_from s next last m k c)
unfolding rows_from
rows_reads s next last m zero c fits = nothing c (AreRows s next last zero m) m (record { list = []; bytes = refl; count = refl; fit = tt; rise = tt; table = refl })
rows_reads s next last m (suc k) c fits =
    then c (IsRow s next last) _ (row_from s next last c) _ fits (row_reads s next last c fits) (λ row d1 t1 f1 h1.
    weaker d1 (AreRows s next (Some row.txn) k (with_row m row)) (λ n more. AreRows s next last (suc k) m n (t1 ++ more)) _ (rows_reads s next (Some row.txn) (with_row m row) k d1 f1) (λ n text h.
    record { list = row ∷ h.list; bytes = cat h1.0 h.bytes ∙ sym (flat_map-cons row_bytes row h.list); count = ap suc h.count; fit = (h1.1, h.fit); rise = (h1.2, h.rise); table = h.table }))

-- ---- all of the bytes
bind_ok : {A B : Type 0} (r : Result A ℕ) (f : A → Result B ℕ) (y : B) → (r >>= f) ≡ Ok y → (x : A) × (r ≡ Ok x) × (f x ≡ Ok y)
bind_ok (Ok x) f y e = (x, refl, e)
bind_ok (Err at) f y e = absurd cc

good_ok : {X : Type 0} (b : Bool) (at : ℕ) (x y : X) → good b at x ≡ Ok y → (b ≡ true) × (x ≡ y)
good_ok true at x y e = (refl, cc)
good_ok false at x y e = absurd cc

pub rises_ascends : (last : ℕ) (rows : List Row) → Rises (Some last) rows → ascends (last ∷ map txn_in rows) ≡ true
rises_ascends last [] h = refl
rises_ascends last (row ∷ rows) h = rw h.0 (rises_ascends row.txn rows h.1)

rise_from_none : (rows : List Row) → Rises None rows → ascends (map txn_in rows) ≡ true
rise_from_none [] h = refl
rise_from_none (row ∷ rows) h = rises_ascends row.txn rows h.1

pub tables_are_spelled : TablesAreSpelled
unfolding table_in
tables_are_spelled s next bytes m fits e =
    let a = bind_ok (number32_from (start bytes)) (λ n. rows_from s next None empty n.0 n.1 >>= λ x. good (nat_le (length bytes) x.1.at) x.1.at x.0) m e in
    let b = bind_ok (rows_from s next None empty a.0.0 a.0.1) (λ x. good (nat_le (length bytes) x.1.at) x.1.at x.0) m a.2 in
    let g = good_ok (nat_le (length bytes) b.0.1.at) b.0.1.at b.0.0 m b.2 in
    let one = subst (Reads (start bytes) IsNumber32) a.1 (number32_reads (start bytes) fits) in
    let two = subst (Reads a.0.1 (AreRows s next None a.0.0 empty)) b.1 (rows_reads s next None empty a.0.0 a.0.1 (subst IsBytes (sym one.1.all) fits)) in
    let all : b.0.1.all ≡ bytes = two.1.all ∙ one.1.all in
    let past : length bytes ≤ b.0.1.at = grind (arith, nat_tests, g.0) in
    let none : left b.0.1 ≡ [] = ap (drop b.0.1.at) all ∙ drop_all b.0.1.at bytes past in
    record {
      list = two.2.list;
      fits = record { count = subst Is32 (sym two.2.count) one.2.1; fit = two.2.fit; ascending = rise_from_none two.2.list two.2.rise };
      bytes_are = one.1.parts ∙ cat (one.2.0 ∙ ap number32 (sym two.2.count)) (two.1.parts ∙ cat two.2.bytes none ∙ append-nil (flat_map row_bytes two.2.list));
      table_is = sym g.1 ∙ two.2.table;
    }
