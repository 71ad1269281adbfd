-- Marks beside the records are the marks of the definition.
use Rattle.std.proofs.Common.{◌≡◌, ℕ, suc, ◌+◌, ◌<◌, Bool, true, false, List, [], ◌∷◌, ◌++◌, length, map, take, get_or, Option, Some, None, refl, ap, sym, subst, ◌∙◌, arith}
use Rattle.std.specs.Prelude.{◌&&◌, ◌||◌, ◌==◌, not, bit_and}
use Rattle.std.specs.List.{list_any}
use Rattle.std.proofs.lemmas.List.{map-append, length_push, take_more}
use Rattle.dali_record.specs.declared.records.Record.{Record}
use Rattle.dali_record.specs.Blocks.{changes_item}
use Rattle.dali_record.specs.Log.{Touch, touch_of}
use Rattle.dali_record.specs.Damage.{Damage, has, any_touch, writes_for, changes_for, is_linked_from, is_linked, is_first, mark_of, marks, has_corrupt, any_txn}
use Rattle.dali_record.proofs.Pushes.{marks_push}
use Rattle.dali_record.proofs.Chains.{recs, marks-records}
use Rattle.dali_replay.specs.Marking.{txn_in, touches, reaches, undo_keys, links_from, linked_after, block_is_first, mark_by, marks_only, corrupted}

-- the marks of marked records
abbrev pub ticks : List (Record × Bool) → List Bool
ticks ms = map (λ m. m.1) ms

both_ways : (x p q r s : Bool) → ((x && p && q) || (x && r && s)) ≡ (x && ((p && q) || (r && s)))
both_ways true p q r s = refl
both_ways false p q r s = refl

touched : (u : ℕ) (b : Touch) (o : Option Touch) → any_touch (λ c. writes_for u b c || changes_for u b c) o ≡ any_touch (λ c. (c.txn == u) && touches c.block b.block) o
touched u b None = refl
touched u b (Some c) = both_ways (c.txn == u) (c.block.region == b.block.region) (not (bit_and c.block.write b.block.read == 0)) (changes_item c.block) (c.block.key == b.block.key)

any_reach : (u : ℕ) (b : Touch) (ms : List (Record × Bool)) → list_any (λ m. any_touch (λ c. writes_for u b c || changes_for u b c) (touch_of m.0)) ms ≡ list_any (reaches u b.block) (recs ms)
any_reach u b [] = refl
any_reach u b (m ∷ ms) = rw (touched u b (touch_of m.0), any_reach u b ms) refl

linked_from : (before : List Record) (ms : List (Record × Bool)) (a b : Touch) → is_linked_from before ms a b ≡ links_from before (recs ms) a.txn b.txn b.block
linked_from before ms a b = ap (λ x. not (a.txn == b.txn) && (x || has (undo_keys a.txn before) b.block.key)) (any_reach a.txn b ms)

linked_first : (before : List Record) (ms : List (Record × Bool)) (b : Touch) (o : Option Touch) → any_touch (λ a. is_linked_from before ms a b) o ≡ any_txn (λ u. links_from before (recs ms) u b.txn b.block) (txn_in o)
linked_first before ms b None = refl
linked_first before ms b (Some a) = linked_from before ms a b

linked_is : (before : List Record) (ms : List (Record × Bool)) (b : Touch) → is_linked before ms b ≡ linked_after before (recs ms) (ticks ms) b.txn b.block
linked_is before [] b = refl
linked_is before (m ∷ ms) b =
    ap (λ x. (m.1 && x) || is_linked (before ++ m.0 ∷ []) ms b) (linked_first before (m ∷ ms) b (touch_of m.0))
    ∙ ap (λ x. (m.1 && any_txn (λ u. links_from before (recs (m ∷ ms)) u b.txn b.block) (txn_in (touch_of m.0))) || x) (linked_is (before ++ m.0 ∷ []) ms b)

pub length-recs : (ms : List (Record × Bool)) → length (recs ms) ≡ length ms
length-recs [] = refl
length-recs (m ∷ ms) = ap suc (length-recs ms)

pub length-ticks : (ms : List (Record × Bool)) → length (ticks ms) ≡ length ms
length-ticks [] = refl
length-ticks (m ∷ ms) = ap suc (length-ticks ms)

mark_is : (d : Damage) (ms : List (Record × Bool)) (o : Option Touch) → any_touch (λ b. is_first d (length ms) b || is_linked [] ms b) o ≡ any_touch (λ b. block_is_first d (length (recs ms)) b.block || linked_after [] (recs ms) (ticks ms) b.txn b.block) o
mark_is d ms None = refl
mark_is d ms (Some b) = rw (linked_is [] ms b) (ap (λ n. block_is_first d n b.block || linked_after [] (recs ms) (ticks ms) b.txn b.block) (sym (length-recs ms)))

pub mark_by_is : (d : Damage) (E : List Record) (r : Record) → mark_of d (marks d E) r ≡ mark_by d E (marks_only d E) r
mark_by_is d E r = mark_is d (marks d E) (touch_of r) ∙ ap (λ rs. mark_by d rs (marks_only d E) r) (marks-records d E)

pub marks_more : (d : Damage) (E : List Record) (r : Record) → marks_only d (E ++ r ∷ []) ≡ marks_only d E ++ mark_by d E (marks_only d E) r ∷ []
marks_more d E r = ap ticks (marks_push d E r) ∙ map-append (λ m. m.1) (marks d E) ((r, mark_of d (marks d E) r) ∷ []) ∙ ap (λ k. marks_only d E ++ k ∷ []) (mark_by_is d E r)

-- one mark more, in a walk over the records
pub marks_step : (d : Damage) (E : List Record) (n : ℕ) (r : Record) (ks js : List Bool) (k : Bool) → n < length E → r ≡ get_or E n r → (ks ≡ marks_only d (take n E)) × (length ks ≡ n) → k ≡ mark_by d (take n E) ks r → js ≡ ks ++ k ∷ [] → (js ≡ marks_only d (take (n + 1) E)) × (length js ≡ n + 1)
marks_step d E n r ks js k l is h m j = (
  j ∙ ap (λ x. ks ++ x ∷ []) m ∙ subst (λ xs. ks ++ mark_by d (take n E) ks r ∷ [] ≡ marks_only d xs) (sym whole) (subst (λ xs. ks ++ mark_by d (take n E) xs r ∷ [] ≡ marks_only d (take n E ++ r ∷ [])) (sym h.0) (ap (λ xs. xs ++ mark_by d (take n E) (marks_only d (take n E)) r ∷ []) h.0 ∙ sym (marks_more d (take n E) r))),
  ap length j ∙ length_push ks k ∙ omega (arith, h.1),
)
  where
    whole : take (n + 1) E ≡ take n E ++ r ∷ []
    whole = take_more E n r l ∙ ap (λ x. take n E ++ x ∷ []) (sym is)

-- a transaction is found by the marks beside the records where it has a corrupt block
found : (t : ℕ) (o : Option Touch) → any_touch (λ a. a.txn == t) o ≡ any_txn (λ u. u == t) (txn_in o)
found t None = refl
found t (Some a) = refl

corrupted_ticks : (ms : List (Record × Bool)) (t : ℕ) → has_corrupt ms t ≡ corrupted (recs ms) (ticks ms) t
corrupted_ticks [] t = refl
corrupted_ticks (m ∷ ms) t = rw (found t (touch_of m.0), corrupted_ticks ms t) refl

pub corrupted_is : (d : Damage) (E : List Record) (t : ℕ) → has_corrupt (marks d E) t ≡ corrupted E (marks_only d E) t
corrupted_is d E t = corrupted_ticks (marks d E) t ∙ ap (λ rs. corrupted rs (marks_only d E) t) (marks-records d E)
