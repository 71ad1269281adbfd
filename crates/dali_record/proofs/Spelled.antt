-- Reading takes the spelling of the record that it gives, and a record that can be spelled is read again.
use Rattle.std.proofs.Common.{◌≡◌, ℕ, ◌≤◌, arith, Bool, true, ◌==◌, leb, List, [], ◌∷◌, ◌++◌, length, Option, Some, None, refl, sym, ap, subst, ◌∙◌, append_assoc}
use Rattle.std.specs.Prelude.{⊤, nat_lt, count_ones, IsSome}
use Rattle.std.specs.List.{AllByRecursion}
use Rattle.std.proofs.lemmas.Bool.{eqb-true, ltb-true, lt-ltb, leb-true, and_parts}
use Rattle.dali_bytes.specs.Cursor.{IsBytes}
use Rattle.dali_bytes.specs.Fields.{number32, number64}
use Rattle.dali_bytes.specs.Reading.{number32_at, number64_at}
use Rattle.dali_record.specs.declared.operations.Op.{Op}
use Rattle.dali_record.specs.declared.operations.Outcome.{Outcome}
use Rattle.dali_record.specs.declared.operations.Undo.{Undo}
use Rattle.dali_record.specs.declared.operations.Block.{Block}
use Rattle.dali_record.specs.declared.records.Call.{Call}
use Rattle.dali_record.specs.declared.records.Answer.{Answer}
use Rattle.dali_record.specs.declared.records.Record.{Record}
use Rattle.dali_record.specs.declared.records.Record.TheVariants.{Format, Begin, Forward, Done, Commit, Ended, Solo, AuditBegin, AuditClean, AuditFail, Restarted, Back}
use Rattle.dali_record.specs.Spelling.{byte, op_bytes, outcome_bytes, undo_bytes, block_bytes, call_bytes, answer_bytes, words_bytes, counted32, spelling, Is32, Is64, IsOperation, IsOutcome, MayBeUndo, IsBlock, IsCall, IsAnswer, AreRegions, CanBeSpelled, fits, is_forward, is_back, is_solo, is_answer_of, is_size_of_index, is_size_of_heap, has_list, Begins}
use Rattle.dali_record.specs.Reading.{At, ◌>>=◌, only, two, tested, HasList, triple, asked_at, masks_at, given_at, block_from, block_at, block_of_at, call_at, answer_at, done_at, version_at, format_at, audit_fail_at, restarted_at, counted32_at, counted64_at, record_rows, record_at}
use Rattle.dali_record.proofs.Readers.{Takes, Takes-then, IsBytes-rest, bind_some, only_some, found, some_is, AreRows, IsReader, takes_3, again_1, again_2, again_3, tested_reader, row_nothing, row_one, row_two, row_three, numbered_takes}
use Rattle.dali_record.proofs.Fields.{reader32, reader64, reader_words, reader_counted32, reader_counted64}
use Rattle.dali_record.proofs.Tables.{reader_op, reader_outcome, reader_undo, reader_call, reader_answer}

reader_triple : {X Z W : Type 0} {x_at : At X} {s : X → List ℕ} {P : X → Type 0} {z_at : At Z} {t : Z → List ℕ} {Q : Z → Type 0} {w_at : At W} {u : W → List ℕ} {R : W → Type 0}
    (r : IsReader x_at s P) (q : IsReader z_at t Q) (o : IsReader w_at u R)
    → IsReader (triple x_at z_at w_at) (λ (p : X × Z × W). s p.0 ++ (t p.1 ++ u p.2)) (λ p. P p.0 × Q p.1 × R p.2)
reader_triple {X = X} {Z = Z} {W = W} {s = s} {P = P} {t = t} {Q = Q} {u = u} {R = R} r q o = record {
  takes = λ bytes y rest fits e.
      let k = takes_3 r q o (λ x z w. (x, z, w)) bytes y rest fits e in
      subst (λ (p : X × Z × W). Takes bytes (s p.0 ++ (t p.1 ++ u p.2)) rest × (P p.0 × Q p.1 × R p.2)) k.3 (k.4, (k.5, k.6, k.7));
  again = λ y rest h. again_3 r q o (λ x z w. (x, z, w)) y.0 y.1 y.2 rest h.0 h.1 h.2;
}

-- ---- blocks
abbrev asked_bytes : ℕ × ℕ × Op → List ℕ
asked_bytes a = number64 a.0 ++ (number32 a.1 ++ op_bytes a.2)

abbrev masks_bytes : ℕ × ℕ × ℕ → List ℕ
masks_bytes m = number64 m.0 ++ (number64 m.1 ++ number64 m.2)

abbrev given_bytes : List ℕ × Outcome × Option Undo → List ℕ
given_bytes g = words_bytes g.0 ++ (outcome_bytes g.1 ++ undo_bytes g.2)

abbrev IsAsked : ℕ × ℕ × Op → Type 0
IsAsked a = Is64 a.0 × Is32 a.1 × IsOperation a.2

abbrev AreMasks : ℕ × ℕ × ℕ → Type 0
AreMasks m = Is64 m.0 × Is64 m.1 × Is64 m.2

abbrev IsGiven : ℕ → List ℕ × Outcome × Option Undo → Type 0
IsGiven write g = ((length g.0 ≡ count_ones write) × AllByRecursion Is64 g.0) × IsOutcome g.1 × MayBeUndo g.2

reader_asked : IsReader asked_at asked_bytes IsAsked
reader_asked = reader_triple reader64 reader32 reader_op

reader_masks : IsReader masks_at masks_bytes AreMasks
reader_masks = reader_triple reader64 reader64 reader64

reader_given : (write : ℕ) → IsReader (given_at write) given_bytes (IsGiven write)
reader_given write = reader_triple (reader_words (count_ones write)) reader_outcome reader_undo

-- nine fields in groups of three
regroup : (a b c d e f g h i : List ℕ) → (a ++ (b ++ c)) ++ ((d ++ (e ++ f)) ++ (g ++ (h ++ i))) ≡ a ++ (b ++ (c ++ (d ++ (e ++ (f ++ (g ++ (h ++ i)))))))
regroup a b c d e f g h i = simp append_assoc

block_is : (b : Block) → asked_bytes (b.key, b.region, b.op) ++ (masks_bytes (b.read, b.xor, b.write) ++ given_bytes (b.after, b.outcome, b.undo)) ≡ block_bytes b
block_is b = regroup (number64 b.key) (number32 b.region) (op_bytes b.op) (number64 b.read) (number64 b.xor) (number64 b.write) (words_bytes b.after) (outcome_bytes b.outcome) (undo_bytes b.undo)

block_made : (a : ℕ × ℕ × Op) (m : ℕ × ℕ × ℕ) (g : List ℕ × Outcome × Option Undo) → IsAsked a → AreMasks m → IsGiven m.2 g → fits (block_from a m g) ≡ true → IsBlock (block_from a m g)
block_made a m g p q r e = record {
  key = p.0;
  region = p.1;
  op = p.2;
  read = q.0;
  xor = q.1;
  write = q.2;
  count = r.0.0;
  after = r.0.1;
  outcome = r.1;
  undo = r.2;
  fit = e;
}

block_takes : (bytes : List ℕ) (b : Block) (rest more some left : List ℕ) (a : ℕ × ℕ × Op) (m : ℕ × ℕ × ℕ) (g : List ℕ × Outcome × Option Undo)
    → Takes bytes (asked_bytes a) more → Takes more (masks_bytes m) some → Takes some (given_bytes g) left → ◌≡◌ {A = Block × List ℕ} (block_from a m g, left) (b, rest) → IsBlock (block_from a m g)
    → Takes bytes (block_bytes b) rest × IsBlock b
block_takes bytes b rest more some left a m g s t u e is =
    let tail = Takes-then more (masks_bytes m) some (given_bytes g) left t u in
    let all = Takes-then bytes (asked_bytes a) more (masks_bytes m ++ given_bytes g) left s tail in
    let whole : Takes bytes (block_bytes (block_from a m g)) left = subst (λ (l : List ℕ). Takes bytes l left) (block_is (block_from a m g)) all in
    subst (λ (p : Block × List ℕ). Takes bytes (block_bytes p.0) p.1 × IsBlock p.0) e (whole, is)

pub reader_block : IsReader block_at block_bytes IsBlock
unfolding block_at
reader_block = record { takes = block_taken; again = block_again }
  where
    block_taken : (bytes : List ℕ) (b : Block) (rest : List ℕ) → IsBytes bytes → block_at bytes ≡ Some (b, rest) → Takes bytes (block_bytes b) rest × IsBlock b
    block_taken bytes b rest fit e =
        let x = bind_some (asked_at bytes) (λ a. masks_at a.1 >>= λ m. given_at m.0.2 m.1 >>= λ g. only (fits (block_from a.0 m.0 g.0)) (block_from a.0 m.0 g.0, g.1)) (b, rest) e in
        let y = bind_some (masks_at x.0.1) (λ m. given_at m.0.2 m.1 >>= λ g. only (fits (block_from x.0.0 m.0 g.0)) (block_from x.0.0 m.0 g.0, g.1)) (b, rest) x.2 in
        let z = bind_some (given_at y.0.0.2 y.0.1) (λ g. only (fits (block_from x.0.0 y.0.0 g.0)) (block_from x.0.0 y.0.0 g.0, g.1)) (b, rest) y.2 in
        let o = only_some (fits (block_from x.0.0 y.0.0 z.0.0)) (block_from x.0.0 y.0.0 z.0.0, z.0.1) (b, rest) z.2 in
        let s = reader_asked.takes bytes x.0.0 x.0.1 fit x.1 in
        let t = reader_masks.takes x.0.1 y.0.0 y.0.1 s.0.rest_fits y.1 in
        let u = (reader_given y.0.0.2).takes y.0.1 z.0.0 z.0.1 t.0.rest_fits z.1 in
        block_takes bytes b rest x.0.1 y.0.1 z.0.1 x.0.0 y.0.0 z.0.0 s.0 t.0 u.0 o.1 (block_made x.0.0 y.0.0 z.0.0 s.1 t.1 u.1 o.0)

    block_again : (b : Block) (rest : List ℕ) → IsBlock b → block_at (block_bytes b ++ rest) ≡ Some (b, rest)
    block_again b rest is =
        let a : ℕ × ℕ × Op = (b.key, b.region, b.op) in
        let m : ℕ × ℕ × ℕ = (b.read, b.xor, b.write) in
        let g : List ℕ × Outcome × Option Undo = (b.after, b.outcome, b.undo) in
        let regrouped : block_bytes b ++ rest ≡ asked_bytes a ++ (masks_bytes m ++ (given_bytes g ++ rest)) =
        ap (λ (l : List ℕ). l ++ rest) (sym (block_is b)) ∙ append_assoc (asked_bytes a) (masks_bytes m ++ given_bytes g) rest ∙ ap (λ (l : List ℕ). asked_bytes a ++ l) (append_assoc (masks_bytes m) (given_bytes g) rest) in
        ap block_at regrouped
        ∙ rw (reader_asked.again a (masks_bytes m ++ (given_bytes g ++ rest)) (is.key, is.region, is.op), reader_masks.again m (given_bytes g ++ rest) (is.read, is.xor, is.write), (reader_given b.write).again g rest ((is.count, is.after), is.outcome, is.undo), is.fit) refl

pub reader_block_of : (test : Op → Bool) → IsReader (block_of_at test) block_bytes (λ b. IsBlock b × (test b.op ≡ true))
unfolding block_of_at
reader_block_of test = let r = tested_reader reader_block (λ b. test b.op) in record { takes = r.takes; again = r.again }

-- ---- records
reader_version : IsReader version_at (λ (v : ⊤). byte 1) (λ v. ⊤)
unfolding version_at
reader_version = record { takes = version_taken; again = λ v rest h. refl }
  where
    version_taken : (bytes : List ℕ) (v : ⊤) (rest : List ℕ) → IsBytes bytes → version_at bytes ≡ Some (v, rest) → Takes bytes (byte 1) rest × ⊤
    version_taken [] v rest fit e = absurd cc
    version_taken (n ∷ bytes) v rest fit e =
        let o = only_some (n == 1) (tt, bytes) (v, rest) e in
        let whole : Takes (n ∷ bytes) (byte 1) bytes = record { parts = rw (eqb-true n 1 o.0) refl; rest_fits = IsBytes-rest n bytes fit } in
        (subst (λ (p : ⊤ × List ℕ). Takes (n ∷ bytes) (byte 1) p.1) o.1 whole, tt)

reader_index : IsReader (tested is_size_of_index number32_at) number32 (λ n. Is32 n × (is_size_of_index n ≡ true))
reader_index = tested_reader reader32 is_size_of_index

reader_heap : IsReader (tested is_size_of_heap number32_at) number32 (λ n. Is32 n × (is_size_of_heap n ≡ true))
reader_heap = tested_reader reader32 is_size_of_heap

reader_done : IsReader (tested (λ d. is_answer_of d.1 d.2) (triple number64_at call_at answer_at)) (λ (d : ℕ × Call × Answer). number64 d.0 ++ (call_bytes d.1 ++ answer_bytes d.2)) (λ d. (Is64 d.0 × IsCall d.1 × IsAnswer d.2) × (is_answer_of d.1 d.2 ≡ true))
reader_done = tested_reader (reader_triple reader64 reader_call reader_answer) (λ d. is_answer_of d.1 d.2)

reader_failing : IsReader (tested (λ rs. nat_lt 0 (length rs)) counted32_at) counted32 (λ rs. AreRegions rs × (nat_lt 0 (length rs) ≡ true))
reader_failing = tested_reader reader_counted32 (λ rs. nat_lt 0 (length rs))

is_index32 : (n : ℕ) → is_size_of_index n ≡ true → Is32 n
is_index32 n e = let h = and_parts (leb 1 n) (leb n 32768) e in let le : n ≤ 32768 = leb-true _ _ h.1 in omega (arith, le)

is_heap32 : (n : ℕ) → is_size_of_heap n ≡ true → Is32 n
is_heap32 n e = let h = and_parts (leb 1 n) (leb n 65536) e in let le : n ≤ 65536 = leb-true _ _ h.1 in omega (arith, le)

pub reader_record : IsReader record_at spelling CanBeSpelled
unfolding record_at format_at done_at audit_fail_at restarted_at
reader_record = record { takes = λ bytes y rest fits e. numbered_takes spelling CanBeSpelled record_rows rows bytes y rest fits e; again = record_again }
  where
    rows : AreRows spelling CanBeSpelled record_rows
    rows = (
      row_three spelling CanBeSpelled 1 (λ v index heap. Format index heap) reader_version reader_index reader_heap (λ v i h. refl) (λ v i h p q r. (q.1, r.1)),
      (
        row_one spelling CanBeSpelled 2 Begin reader64 (λ t. refl) (λ t p. p),
        (
          row_two spelling CanBeSpelled 3 Forward reader64 (reader_block_of is_forward) (λ t b. refl) (λ t b p q. (p, q.0, q.1)),
          (
            row_one spelling CanBeSpelled 4 (λ d. Done d.0 d.1 d.2) reader_done (λ d. refl) (λ d p. (p.0.0, p.0.1, p.0.2, p.1)),
            (
              row_one spelling CanBeSpelled 5 Commit reader64 (λ t. refl) (λ t p. p),
              (
                row_one spelling CanBeSpelled 6 Ended reader64 (λ t. refl) (λ t p. p),
                (
                  row_three spelling CanBeSpelled 7 Solo reader64 reader64 (reader_block_of is_solo) (λ t u b. refl) (λ t u b p q r. (p, q, r.0, r.1)),
                  (
                    row_nothing spelling CanBeSpelled 8 AuditBegin refl tt,
                    (
                      row_one spelling CanBeSpelled 9 AuditClean reader64 (λ n. refl) (λ n p. p),
                      (
                        row_two spelling CanBeSpelled 10 AuditFail reader64 reader_failing (λ n rs. refl) (λ n rs p q. (p, q.0, ltb-true _ _ q.1)),
                        (
                          row_two spelling CanBeSpelled 11 Restarted reader_counted64 reader_counted64 (λ rs ds. refl) (λ rs ds p q. (p, q)),
                          (
                            row_two spelling CanBeSpelled 12 Back reader64 (reader_block_of is_back) (λ t b. refl) (λ t b p q. (p, q.0, q.1)),
                            tt,
                          ),
                        ),
                      ),
                    ),
                  ),
                ),
              ),
            ),
          ),
        ),
      ),
    )

    record_again : (r : Record) (rest : List ℕ) → CanBeSpelled r → record_at (spelling r ++ rest) ≡ Some (r, rest)
    record_again (Format i h) rest is = again_3 reader_version reader_index reader_heap (λ v index heap. Format index heap) tt i h rest tt (is_index32 i is.0, is.0) (is_heap32 h is.1, is.1)
    record_again (Begin t) rest is = again_1 reader64 Begin t rest is
    record_again (Forward t b) rest is = again_2 reader64 (reader_block_of is_forward) Forward t b rest is.0 (is.1, is.2)
    record_again (Done t c a) rest is = again_1 reader_done (λ d. Done d.0 d.1 d.2) (t, c, a) rest ((is.0, is.1, is.2), is.3)
    record_again (Commit t) rest is = again_1 reader64 Commit t rest is
    record_again (Ended t) rest is = again_1 reader64 Ended t rest is
    record_again (Solo t u b) rest is = again_3 reader64 reader64 (reader_block_of is_solo) Solo t u b rest is.0 is.1 (is.2, is.3)
    record_again AuditBegin rest is = refl
    record_again (AuditClean n) rest is = again_1 reader64 AuditClean n rest is
    record_again (AuditFail n rs) rest is = again_2 reader64 reader_failing AuditFail n rs rest is.0 (is.1, lt-ltb _ _ is.2)
    record_again (Restarted rs ds) rest is = again_2 reader_counted64 reader_counted64 Restarted rs ds rest is.0 is.1
    record_again (Back t b) rest is = again_2 reader64 (reader_block_of is_back) Back t b rest is.0 (is.1, is.2)

-- ---- the laws
-- what is read is spelled so
pub record_taken : (bytes : List ℕ) (r : Record) (rest : List ℕ) → IsBytes bytes → record_at bytes ≡ Some (r, rest) → CanBeSpelled r × (bytes ≡ spelling r ++ rest)
record_taken bytes r rest fits e = let t = reader_record.takes bytes r rest fits e in (t.1, t.0.parts)

-- what is spelled is read again
pub record_again : (r : Record) (rest : List ℕ) → CanBeSpelled r → record_at (spelling r ++ rest) ≡ Some (r, rest)
record_again r rest is = reader_record.again r rest is

-- where nothing is read, no spelling begins
pub none_begins : (bytes : List ℕ) → record_at bytes ≡ None → (r : Record) (rest : List ℕ) → CanBeSpelled r → bytes ≡ spelling r ++ rest → ⊥
none_begins bytes e r rest is same =
    let read : record_at bytes ≡ Some (r, rest) = ap record_at same ∙ record_again r rest is in
    cc

-- no spelling begins another
pub one_begins : (r s : Record) (a b : List ℕ) → CanBeSpelled r → CanBeSpelled s → spelling r ++ a ≡ spelling s ++ b → (r ≡ s) × (a ≡ b)
one_begins r s a b p q e =
    let same : found (r, a) ≡ found (s, b) = sym (record_again r a p) ∙ ap record_at e ∙ record_again s b q in
    let pair = some_is (r, a) (s, b) same in
    (ap (λ (x : Record × List ℕ). x.0) pair, ap (λ (x : Record × List ℕ). x.1) pair)

-- ---- memory
two_lists : {X Z : Type 0} (f : X → Z → Record) (x_at : At X) (z_at : At Z) (bytes : List ℕ) → ((x : X) (z : Z) → has_list (f x z) ≡ true) → HasList (two f x_at z_at bytes)
two_lists {X = X} {Z = Z} f x_at z_at bytes h = second (x_at bytes)
  where
    third : (x : X) (read : Option (Z × List ℕ)) → HasList (read >>= λ z. Some (f x z.0, z.1))
    third x None = tt
    third x (Some z) = h x z.0

    second : (read : Option (X × List ℕ)) → HasList (read >>= λ x. z_at x.1 >>= λ z. Some (f x.0 z.0, z.1))
    second None = tt
    second (Some x) = third x.0 (z_at x.1)

pub audit_fail_lists : (bytes : List ℕ) → HasList (audit_fail_at bytes)
unfolding audit_fail_at
audit_fail_lists bytes = two_lists AuditFail number64_at (tested (λ rs. nat_lt 0 (length rs)) counted32_at) bytes (λ x z. refl)

pub restarted_lists : (bytes : List ℕ) → HasList (restarted_at bytes)
unfolding restarted_at
restarted_lists bytes = two_lists Restarted counted64_at counted64_at bytes (λ x z. refl)

-- a record that memory was wanted for
pub list_begins : (bytes : List ℕ) → IsBytes bytes → IsSome (record_at bytes) → HasList (record_at bytes) → (r : Record) × Begins bytes r × (has_list r ≡ true)
list_begins bytes fits is has = of_read (record_at bytes) refl is has
  where
    of_read : (read : Option (Record × List ℕ)) → record_at bytes ≡ read → IsSome read → HasList read → (r : Record) × Begins bytes r × (has_list r ≡ true)
    of_read None e h l = absurd cc
    of_read (Some x) e h l = let t = record_taken bytes x.0 x.1 fits e in (x.0, (t.0, x.1, t.1), l)
