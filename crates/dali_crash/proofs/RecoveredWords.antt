-- The image that a restart recovers from a log that can be spelled is made of words: each region has 64 numbers of 64 bits.
use Rattle.std.proofs.Common.{◌≡◌, ℕ, zero, suc, Bool, true, false, cond, List, [], ◌∷◌, ◌++◌, length, map, take, drop, Option, Some, None, refl, ap, sym, subst, ◌∙◌, arith, get_or}
use Rattle.std.specs.Prelude.{◌==◌, ◌/◌, fold, reverse, replicate, slice_get, slice_set, zip}
use Rattle.std.specs.List.{AllByRecursion}
use Rattle.std.proofs.lemmas.List.{length-append, length-map, length-replicate, reverse-append}
use Rattle.dali_lists.proofs.Members.{all_append}
use Rattle.dali_words.specs.Words.{has_first, first_or, rest_of, write_under, AllAreWords}
use Rattle.dali_words.specs.Effects.{write_all}
use Rattle.dali_geometry.specs.Sizes.{Sizes}
use Rattle.dali_geometry.specs.Places.{formatted_image, regions}
use Rattle.dali_access.specs.Heap.Cells as cell
use Rattle.dali_access.specs.Index.Entries as entry
use Rattle.dali_record.specs.declared.operations.Block.{Block}
use Rattle.dali_record.specs.declared.operations.Pending.{Pending}
use Rattle.dali_record.specs.declared.operations.Undo.{Undo}
use Rattle.dali_record.specs.declared.operations.Undo.TheVariants.{FreeCell as UndoFreeCell, ReviveCell as UndoReviveCell, Restore as UndoRestore, FreeEntry as UndoFreeEntry, ReviveEntry as UndoReviveEntry}
use Rattle.dali_record.specs.declared.records.Record.{Record}
use Rattle.dali_record.specs.declared.records.Record.TheVariants.{Format, Begin, Forward, Done, Commit, Ended, Solo, AuditBegin, AuditClean, AuditFail, Restarted, Back}
use Rattle.dali_record.specs.Operations.{effect, undo_op}
use Rattle.dali_record.specs.Log.{undo_added, undo_step, undos_of, drop_last}
use Rattle.dali_record.specs.Epochs.{Epoch, Cut, cut, cut_step}
use Rattle.dali_record.specs.Damage.{Damage, damage_of, mark_of, mark_step, marks, kept, kept_from, is_dropped, is_corrupt_of, before_corrupt}
use Rattle.dali_record.specs.Settled.{words_in, redo, redo_all}
use Rattle.dali_record.specs.Spelling.{Is64, IsUndo, MayBeUndo, CanBeSpelled}
use Rattle.dali_record.specs.Legal.{sizes_of}
use Rattle.dali_history.specs.Recovered.{undo_into, roll_back, free_word, freed, losers, undos_left, recover, base_of, recovered, recovered_now}
use Rattle.dali_history.specs.History.{AreSpelled}
use Rattle.dali_words.proofs.Masks.{length-write_under}
use Rattle.dali_history.proofs.Images.{length-undo, length-free_words}

-- ---- lists

all_take : {X : Type 0} (P : X → Type 0) (n : ℕ) (xs : List X) → AllByRecursion P xs → AllByRecursion P (take n xs)
all_take P zero xs h = tt
all_take P (suc n) [] h = tt
all_take P (suc n) (x ∷ xs) h = (h.0, all_take P n xs h.1)

all_drop : {X : Type 0} (P : X → Type 0) (n : ℕ) (xs : List X) → AllByRecursion P xs → AllByRecursion P (drop n xs)
all_drop P zero xs h = h
all_drop P (suc n) [] h = tt
all_drop P (suc n) (x ∷ xs) h = all_drop P n xs h.1

all_set : {X : Type 0} (P : X → Type 0) (xs : List X) (i : ℕ) (x : X) → AllByRecursion P xs → P x → AllByRecursion P (slice_set xs i x)
all_set P [] i x h p = tt
all_set P (y ∷ xs) zero x h p = (p, h.1)
all_set P (y ∷ xs) (suc i) x h p = (h.0, all_set P xs i x h.1 p)

all_map : {X Y : Type 0} (P : X → Type 0) (Q : Y → Type 0) (f : X → Y) (xs : List X) → ((x : X) → P x → Q (f x)) → AllByRecursion P xs → AllByRecursion Q (map f xs)
all_map P Q f [] keeps h = tt
all_map P Q f (x ∷ xs) keeps h = (keeps x h.0, all_map P Q f xs keeps h.1)

all_reverse : {X : Type 0} (P : X → Type 0) (xs : List X) → AllByRecursion P xs → AllByRecursion P (reverse xs)
all_reverse P [] h = tt
all_reverse P (x ∷ xs) h = subst (AllByRecursion P) (sym (reverse-append (x ∷ []) xs)) (all_append P (reverse xs) (x ∷ []) (all_reverse P xs h.1) (h.0, tt))

pub all_drop_last : {X : Type 0} (P : X → Type 0) (xs : List X) → AllByRecursion P xs → AllByRecursion P (drop_last xs)
all_drop_last P [] h = tt
all_drop_last P (x ∷ []) h = tt
all_drop_last P (x ∷ y ∷ xs) h = (h.0, all_drop_last P (y ∷ xs) h.1)

-- what holds at the start of a fold and is kept by each element that is as it should be, holds at its end
all_fold : {X Y : Type 0} (P : X → Type 0) (Q : Y → Type 0) (f : Y → X → Y) (y : Y) (xs : List X) → ((z : Y) (x : X) → Q z → P x → Q (f z x)) → AllByRecursion P xs → Q y → Q (fold f y xs)
all_fold P Q f y [] keeps h q = q
all_fold P Q f y (x ∷ xs) keeps h q = all_fold P Q f (f y x) xs keeps h.1 (keeps y x q h.0)

-- ---- words
abbrev Fit : List ℕ → Type 0
Fit ws = AllByRecursion Is64 ws

abbrev AreFit : List (List ℕ) → Type 0
AreFit image = AllByRecursion Fit image

fit_in : (image : List (List ℕ)) (r : ℕ) → AreFit image → Fit (words_in image r)
fit_in [] r h = tt
fit_in (ws ∷ image) zero h = h.0
fit_in (ws ∷ image) (suc r) h = fit_in image r h.1

write_fits : (m : ℕ) (news ws : List ℕ) → Fit news → Fit ws → Fit (write_under m news ws)
write_fits m news [] g h = tt
write_fits m news (w ∷ ws) g h = by_test (λ xs k. write_fits (m / 2) xs ws k h.1) (has_first m) news g
  where
    by_test : ((xs : List ℕ) → Fit xs → Fit (write_under (m / 2) xs ws)) → (c : Bool) (xs : List ℕ) → Fit xs → Is64 (cond c (first_or w xs) w) × Fit (write_under (m / 2) (cond c (rest_of xs) xs) ws)
    by_test later true [] k = (h.0, later [] tt)
    by_test later true (x ∷ xs) k = (k.0, later xs k.1)
    by_test later false xs k = (h.0, later xs k)

zip_fits : (ws is vs : List ℕ) → Fit ws → Fit vs → Fit (write_all ws (zip is vs))
zip_fits ws [] vs h g = h
zip_fits ws (i ∷ is) [] h g = h
zip_fits ws (i ∷ is) (v ∷ vs) h g = zip_fits (slice_set ws i v) is vs (all_set Is64 ws i v h g.0) g.1

-- ---- blocks
block_fits : (image : List (List ℕ)) (b : Block) → AreFit image → Fit b.after → AreFit (slice_set image b.region (write_under b.write b.after (words_in image b.region)))
block_fits image b h g = all_set Fit image b.region _ h (write_fits b.write b.after (words_in image b.region) g (fit_in image b.region h))

redo_fits : (image : List (List ℕ)) (r : Record) → AreFit image → CanBeSpelled r → AreFit (redo image r)
redo_fits image (Forward t b) h s = block_fits image b h s.1.after
redo_fits image (Solo t p b) h s = block_fits image b h s.2.after
redo_fits image (Back t b) h s = block_fits image b h s.1.after
redo_fits image _ h s = h

abbrev AllSpelled : List Record → Type 0
AllSpelled E = AllByRecursion CanBeSpelled E

redo_all_fits : (image : List (List ℕ)) (E : List Record) → AreFit image → AllSpelled E → AreFit (redo_all image E)
redo_all_fits image E h s = all_fold CanBeSpelled AreFit redo image E (λ z x q p. redo_fits z x q p) s h

-- ---- undos
abbrev AreUndos : List Pending → Type 0
AreUndos us = AllByRecursion (λ p. IsUndo p.undo) us

added_fits : (us : List Pending) (b : Block) (o : Option Undo) → AreUndos us → MayBeUndo o → AreUndos (us ++ undo_added b o)
added_fits us b None h g = all_append (λ p. IsUndo p.undo) us [] h tt
added_fits us b (Some u) h g = all_append (λ p. IsUndo p.undo) us (undo_added b (Some u)) h (g, tt)

step_fits : (t : ℕ) (us : List Pending) (r : Record) → AreUndos us → CanBeSpelled r → AreUndos (undo_step t us r)
step_fits t us (Format i n) h s = h
step_fits t us (Begin u) h s = h
step_fits t us (Forward u b) h s = by_test (u == t)
  where
    by_test : (c : Bool) → AreUndos (cond c (us ++ undo_added b b.undo) us)
    by_test true = added_fits us b b.undo h s.1.undo
    by_test false = h
step_fits t us (Done u c a) h s = h
step_fits t us (Back u b) h s = by_test (u == t)
  where
    by_test : (c : Bool) → AreUndos (cond c (drop_last us) us)
    by_test true = all_drop_last (λ p. IsUndo p.undo) us h
    by_test false = h
step_fits t us _ h s = h

undos_fit : (t : ℕ) (E : List Record) → AllSpelled E → AreUndos (undos_of t E)
undos_fit t E s = all_fold CanBeSpelled AreUndos (undo_step t) [] E (λ us r h p. step_fits t us r h p) s tt

undo_fits : (u : Undo) (key : ℕ) (ws : List ℕ) → IsUndo u → Fit ws → Fit (effect (undo_op u) key ws).0.after
undo_fits (UndoFreeCell c) key ws u h = all_set Is64 ws (cell.state_word c) 0 h (omega arith)
undo_fits (UndoReviveCell c) key ws u h = all_set Is64 ws (cell.state_word c) 1 h (omega arith)
undo_fits (UndoRestore c n vs) key ws u h = zip_fits ws (cell.length_word c ∷ cell.value_words c) (n ∷ vs) h (u.1, u.2.1)
undo_fits (UndoFreeEntry e) key ws u h = all_set Is64 ws (entry.state_word e) 0 h (omega arith)
undo_fits (UndoReviveEntry e) key ws u h = all_set Is64 ws (entry.state_word e) 1 h (omega arith)

into_fits : (image : List (List ℕ)) (p : Pending) → AreFit image → IsUndo p.undo → AreFit (undo_into image p)
into_fits image p h u = all_set Fit image p.region _ h (undo_fits p.undo p.key (words_in image p.region) u (fit_in image p.region h))

rolled_fits : (image : List (List ℕ)) (us : List Pending) → AreFit image → AreUndos us → AreFit (roll_back image us)
rolled_fits image us h u = all_fold (λ p. IsUndo p.undo) AreFit undo_into image (reverse us) (λ z p q k. into_fits z p q k) (all_reverse (λ p. IsUndo p.undo) us u) h

-- ---- what is freed
abbrev Any : ℕ → Type 0
Any n = n ≡ n

all_any : (is : List ℕ) → AllByRecursion Any is
all_any [] = tt
all_any (i ∷ is) = (refl, all_any is)

word_freed : (ws : List ℕ) (i : ℕ) → Fit ws → Fit (free_word ws i)
word_freed ws i h = by_test (get_or ws i 0 == 2)
  where
    by_test : (c : Bool) → Fit (cond c (slice_set ws i 0) ws)
    by_test true = all_set Is64 ws i 0 h (omega arith)
    by_test false = h

words_freed : (ws is : List ℕ) → Fit ws → Fit (fold free_word ws is)
words_freed ws is h = all_fold Any Fit free_word ws is (λ z i q k. word_freed z i q) (all_any is) h

freed_fits : (s : Sizes) (image : List (List ℕ)) → AreFit image → AreFit (freed s image)
freed_fits s image h =
    all_append Fit (map _ (take s.index image)) (map _ (drop s.index image))
    (all_map Fit Fit _ (take s.index image) (λ ws k. words_freed ws (map entry.state_word entry.entries) k) (all_take Fit s.index image h))
    (all_map Fit Fit _ (drop s.index image) (λ ws k. words_freed ws (map cell.state_word cell.cells) k) (all_drop Fit s.index image h))

-- ---- marks
abbrev AllMarked : List (Record × Bool) → Type 0
AllMarked ms = AllByRecursion (λ m. CanBeSpelled m.0) ms

marked_fits : (d : Damage) (E : List Record) → AllSpelled E → AllMarked (marks d E)
marked_fits d E s = all_fold CanBeSpelled AllMarked (mark_step d) [] E (λ ms r h p. all_append (λ m. CanBeSpelled m.0) ms ((r, mark_of d ms r) ∷ []) h (p, tt)) s tt

kept_fits : (before ms : List (Record × Bool)) → AllMarked ms → AllSpelled (kept_from before ms)
kept_fits before [] h = tt
kept_fits before (m ∷ ms) h = by_test (is_dropped (before ++ m ∷ []) m.0) (kept_fits (before ++ m ∷ []) ms h.1)
  where
    by_test : (c : Bool) → AllSpelled (kept_from (before ++ m ∷ []) ms) → AllSpelled (cond c (kept_from (before ++ m ∷ []) ms) (m.0 ∷ kept_from (before ++ m ∷ []) ms))
    by_test true k = k
    by_test false k = (h.0, k)

front_fits : (t : ℕ) (ms : List (Record × Bool)) → AllMarked ms → AllSpelled (before_corrupt t ms)
front_fits t [] h = tt
front_fits t (m ∷ ms) h = by_test (is_corrupt_of t m) (front_fits t ms h.1)
  where
    by_test : (c : Bool) → AllSpelled (before_corrupt t ms) → AllSpelled (cond c [] (m.0 ∷ before_corrupt t ms))
    by_test true k = tt
    by_test false k = (h.0, k)

-- ---- epochs
recover_fits : (s : Sizes) (base : List (List ℕ)) (e : Epoch) → AreFit base → AllSpelled e.records → AreFit (recover s base e)
recover_fits s base e h spelled =
    freed_fits s _
    (all_fold Any AreFit (λ image t. roll_back image (undos_left ms t)) (redo_all base (kept ms)) (losers e ms)
    (λ image t q k. rolled_fits image (undos_left ms t) q (undos_fit t (before_corrupt t ms) (front_fits t ms marked)))
    (all_any (losers e ms)) (redo_all_fits base (kept ms) h (kept_fits [] ms marked)))
  where
    ms : List (Record × Bool)
    ms = marks (damage_of e) e.records

    marked : AllMarked ms
    marked = marked_fits (damage_of e) e.records spelled

abbrev IsSpelledCut : Cut → Type 0
IsSpelledCut c = AllByRecursion (λ e. AllSpelled e.records) c.closed × AllSpelled c.now.records

cut_fits : (c : Cut) (r : Record) → IsSpelledCut c → CanBeSpelled r → IsSpelledCut (cut_step c r)
cut_fits c (Format i n) h s = (h.0, tt)
cut_fits c (Begin t) h s = (h.0, all_append CanBeSpelled c.now.records (Begin t ∷ []) h.1 (s, tt))
cut_fits c (Forward t b) h s = (h.0, all_append CanBeSpelled c.now.records (Forward t b ∷ []) h.1 (s, tt))
cut_fits c (Done t k a) h s = (h.0, all_append CanBeSpelled c.now.records (Done t k a ∷ []) h.1 (s, tt))
cut_fits c (Commit t) h s = (h.0, all_append CanBeSpelled c.now.records (Commit t ∷ []) h.1 (s, tt))
cut_fits c (Ended t) h s = (h.0, all_append CanBeSpelled c.now.records (Ended t ∷ []) h.1 (s, tt))
cut_fits c (Solo t p b) h s = (h.0, all_append CanBeSpelled c.now.records (Solo t p b ∷ []) h.1 (s, tt))
cut_fits c AuditBegin h s = (h.0, all_append CanBeSpelled c.now.records (AuditBegin ∷ []) h.1 (s, tt))
cut_fits c (AuditClean b) h s = (h.0, all_append CanBeSpelled c.now.records (AuditClean b ∷ []) h.1 (s, tt))
cut_fits c (AuditFail b rs) h s = (h.0, all_append CanBeSpelled c.now.records (AuditFail b rs ∷ []) h.1 (s, tt))
cut_fits c (Restarted rs ds) h s = (all_append (λ e. AllSpelled e.records) c.closed (c.now ∷ []) h.0 (h.1, tt), tt)
cut_fits c (Back t b) h s = (h.0, all_append CanBeSpelled c.now.records (Back t b ∷ []) h.1 (s, tt))

all_spelled : (L : List Record) → ((i : ℕ) (r : Record) → slice_get L i ≡ Some r → CanBeSpelled r) → AllSpelled L
all_spelled [] h = tt
all_spelled (x ∷ L) h = (h 0 x refl, all_spelled L (λ i r e. h (suc i) r e))

all_epochs : (L : List Record) → AllSpelled L → IsSpelledCut (cut L)
all_epochs L s = all_fold CanBeSpelled IsSpelledCut cut_step (record { closed = []; now = record { first = 0; records = [] } }) L (λ c r h p. cut_fits c r h p) s (tt, tt)

zeros : (n : ℕ) → Fit (replicate n 0)
zeros zero = tt
zeros (suc n) = (omega arith, zeros n)

alike : (n : ℕ) (ws : List ℕ) → Fit ws → AreFit (replicate n ws)
alike zero ws h = tt
alike (suc n) ws h = (h, alike n ws h)

formatted_fits : (s : Sizes) → AreFit (formatted_image s)
formatted_fits s = all_append Fit (replicate s.index (replicate 64 0)) (replicate s.heap (1 ∷ replicate 63 0)) (alike s.index (replicate 64 0) (zeros 64)) (alike s.heap (1 ∷ replicate 63 0) (omega arith, zeros 63))

recovered_fits : (s : Sizes) (L : List Record) → AllSpelled L → AreFit (recovered s L)
recovered_fits s L spelled = by_records (cut L).now.records
  where
    epochs : IsSpelledCut (cut L)
    epochs = all_epochs L spelled

    base : AreFit (base_of s L)
    base = all_fold (λ e. AllSpelled e.records) AreFit (recover s) (formatted_image s) (cut L).closed (λ z e q k. recover_fits s z e q k) epochs.0 (formatted_fits s)

    by_records : (E : List Record) → AreFit (recovered_now s (base_of s L) (cut L).now E)
    by_records [] = base
    by_records (r ∷ E) = recover_fits s (base_of s L) (cut L).now base epochs.1

-- ---- lengths: each of these leaves as many regions of as many words
abbrev shape : List (List ℕ) → List ℕ
shape image = map length image

same_set : (image : List (List ℕ)) (r : ℕ) (ws : List ℕ) → length ws ≡ length (words_in image r) → shape (slice_set image r ws) ≡ shape image
same_set [] r ws e = refl
same_set (us ∷ image) zero ws e = ap (λ n. n ∷ shape image) e
same_set (us ∷ image) (suc r) ws e = ap (λ l. length us ∷ l) (same_set image r ws e)

same_fold : {X Y Z : Type 0} (f : Y → X → Y) (g : Y → Z) → ((y : Y) (x : X) → g (f y x) ≡ g y) → (xs : List X) (y : Y) → g (fold f y xs) ≡ g y
same_fold f g keeps [] y = refl
same_fold f g keeps (x ∷ xs) y = same_fold f g keeps xs (f y x) ∙ keeps y x

same_block : (image : List (List ℕ)) (b : Block) → shape (slice_set image b.region (write_under b.write b.after (words_in image b.region))) ≡ shape image
same_block image b = same_set image b.region _ (length-write_under b.write b.after (words_in image b.region))

same_redo : (image : List (List ℕ)) (r : Record) → shape (redo image r) ≡ shape image
same_redo image (Forward t b) = same_block image b
same_redo image (Solo t p b) = same_block image b
same_redo image (Back t b) = same_block image b
same_redo image _ = refl

same_rolled : (image : List (List ℕ)) (us : List Pending) → shape (roll_back image us) ≡ shape image
same_rolled image us = same_fold undo_into shape (λ z p. same_set z p.region _ (length-undo p.undo p.key (words_in z p.region))) (reverse us) image

same_map : (f : List ℕ → List ℕ) → ((ws : List ℕ) → length (f ws) ≡ length ws) → (image : List (List ℕ)) → shape (map f image) ≡ shape image
same_map f keeps [] = refl
same_map f keeps (ws ∷ image) = ap (λ n. n ∷ shape (map f image)) (keeps ws) ∙ ap (λ l. length ws ∷ l) (same_map f keeps image)

same_parts : (f g : List ℕ → List ℕ) → ((ws : List ℕ) → length (f ws) ≡ length ws) → ((ws : List ℕ) → length (g ws) ≡ length ws) → (n : ℕ) (image : List (List ℕ)) → shape (map f (take n image) ++ map g (drop n image)) ≡ shape image
same_parts f g keeps holds zero image = same_map g holds image
same_parts f g keeps holds (suc n) [] = refl
same_parts f g keeps holds (suc n) (ws ∷ image) = ap (λ k. k ∷ shape (map f (take n image) ++ map g (drop n image))) (keeps ws) ∙ ap (λ l. length ws ∷ l) (same_parts f g keeps holds n image)

same_freed : (s : Sizes) (image : List (List ℕ)) → shape (freed s image) ≡ shape image
same_freed s image = same_parts (λ ws. fold free_word ws (map entry.state_word entry.entries)) (λ ws. fold free_word ws (map cell.state_word cell.cells))
    (length-free_words (map entry.state_word entry.entries))
    (length-free_words (map cell.state_word cell.cells))
    s.index image

same_recover : (s : Sizes) (base : List (List ℕ)) (e : Epoch) → shape (recover s base e) ≡ shape base
same_recover s base e =
    let ms : List (Record × Bool) = marks (damage_of e) e.records in
    same_freed s _
    ∙ (same_fold (λ image t. roll_back image (undos_left ms t)) shape (λ z t. same_rolled z (undos_left ms t)) (losers e ms) (redo_all base (kept ms))
    ∙ same_fold redo shape same_redo (kept ms) base)

same_recovered : (s : Sizes) (L : List Record) → shape (recovered s L) ≡ shape (formatted_image s)
same_recovered s L = by_records (cut L).now.records
  where
    base : shape (base_of s L) ≡ shape (formatted_image s)
    base = same_fold (recover s) shape (same_recover s) (cut L).closed (formatted_image s)

    by_records : (E : List Record) → shape (recovered_now s (base_of s L) (cut L).now E) ≡ shape (formatted_image s)
    by_records [] = base
    by_records (r ∷ E) = same_recover s (base_of s L) (cut L).now ∙ base

-- a formatted image has regions of 64 words
abbrev Long : List ℕ → Type 0
Long ns = AllByRecursion (λ n. n ≡ 64) ns

alike_long : (n : ℕ) (ws : List ℕ) (image : List (List ℕ)) → length ws ≡ 64 → Long (shape image) → Long (shape (replicate n ws ++ image))
alike_long zero ws image e h = h
alike_long (suc n) ws image e h = (e, alike_long n ws image e h)

only_long : (n : ℕ) (ws : List ℕ) → length ws ≡ 64 → Long (shape (replicate n ws))
only_long zero ws e = tt
only_long (suc n) ws e = (e, only_long n ws e)

pub recovered_count : (s : Sizes) (L : List Record) → length (recovered s L) ≡ regions s
recovered_count s L =
    sym (length-map (recovered s L) length)
    ∙ (ap length (same_recovered s L)
    ∙ (length-map (formatted_image s) length
    ∙ omega (arith, length-append (replicate s.index (replicate {A = ℕ} 64 0)) (replicate s.heap (1 ∷ replicate 63 0)), length-replicate s.index (replicate {A = ℕ} 64 0), length-replicate s.heap (1 ∷ replicate {A = ℕ} 63 0))))

each_fits : (image : List (List ℕ)) → Long (shape image) → AreFit image → AllAreWords image
each_fits [] long fits = tt
each_fits (ws ∷ image) long fits = ((long.0, fits.0), each_fits image long.1 fits.1)

pub recovered_words : (L : List Record) → AreSpelled L → AllAreWords (recovered (sizes_of L) L)
recovered_words L spelled =
    let s : Sizes = sizes_of L in
    let long : Long (shape (formatted_image s)) = alike_long s.index (replicate 64 0) (replicate s.heap (1 ∷ replicate 63 0)) refl (only_long s.heap (1 ∷ replicate 63 0) refl) in
    each_fits (recovered s L) (subst Long (sym (same_recovered s L)) long) (recovered_fits s L (all_spelled L spelled))
