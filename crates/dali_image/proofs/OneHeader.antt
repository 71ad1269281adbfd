-- A file begins with one header at most, and then isn't bad at a header's place.
use Rattle.std.proofs.Common.{◌≡◌, ℕ, ◌+◌, List, ◌++◌, length, take, drop, refl, ap, sym, ◌∙◌, inl, inr, arith, append_assoc, length-append}
use Rattle.std.specs.Prelude.{codes}
use Rattle.dali_bytes.specs.Fields.{number32, number64}
use Rattle.dali_bytes.specs.Reading.{number32_at, number64_at}
use Rattle.dali_bytes.proofs.Numbers.{number32_again, number64_again, length-number32, length-number64}
use Rattle.dali_record.specs.Spelling.{Is32, Is64}
use Rattle.dali_record.proofs.Readers.{some_is}
use Rattle.dali_crash.specs.Disks.Disks.{mark}
use Rattle.dali_crash.proofs.DisksLemmas.Images.{eight_fields}
use Rattle.dali_image.specs.Headers.{heading, NoHeading}
use Rattle.dali_image.specs.Laws.{HeadersAreBytes, IsHeader, OneHeader}
use Rattle.dali_image.specs.declared.header.Header.{Header}

pub headers_are_bytes : HeadersAreBytes
headers_are_bytes s h = refl

once32 : (a b : ℕ) (x y : List ℕ) → Is32 a → Is32 b → number32 a ++ x ≡ number32 b ++ y → (a ≡ b) × (x ≡ y)
once32 a b x y fa fb e =
    let pair = some_is (a, x) (b, y) (sym (number32_again a x fa) ∙ ap number32_at e ∙ number32_again b y fb) in
    (ap (λ (z : ℕ × List ℕ). z.0) pair, ap (λ (z : ℕ × List ℕ). z.1) pair)

once64 : (a b : ℕ) (x y : List ℕ) → Is64 a → Is64 b → number64 a ++ x ≡ number64 b ++ y → (a ≡ b) × (x ≡ y)
once64 a b x y fa fb e =
    let pair = some_is (a, x) (b, y) (sym (number64_again a x fa) ∙ ap number64_at e ∙ number64_again b y fb) in
    (ap (λ (z : ℕ × List ℕ). z.0) pair, ap (λ (z : ℕ × List ℕ). z.1) pair)

-- what stands behind each field
abbrev on_table : Header → List ℕ → List ℕ
on_table h rest = number64 h.table ++ rest

abbrev on_next : Header → List ℕ → List ℕ
on_next h rest = number64 h.next ++ on_table h rest

abbrev on_weight : Header → List ℕ → List ℕ
on_weight h rest = number64 h.weight ++ on_next h rest

abbrev on_first : Header → List ℕ → List ℕ
on_first h rest = number64 h.first ++ on_weight h rest

abbrev on_place : Header → List ℕ → List ℕ
on_place h rest = number64 h.place ++ on_first h rest

abbrev on_number : Header → List ℕ → List ℕ
on_number h rest = number64 h.number ++ on_place h rest

abbrev on_heap : Header → List ℕ → List ℕ
on_heap h rest = number32 h.geometry.heap ++ on_number h rest

abbrev on_index : Header → List ℕ → List ℕ
on_index h rest = number32 h.geometry.index ++ on_heap h rest

spread : (h : Header) (rest : List ℕ) → heading h ++ rest ≡ mark ++ on_index h rest
spread h rest =
    append_assoc mark _ rest ∙ ap (λ l. mark ++ l)
    (append_assoc (number32 h.geometry.index) _ rest ∙ ap (λ l. number32 h.geometry.index ++ l)
    (append_assoc (number32 h.geometry.heap) _ rest ∙ ap (λ l. number32 h.geometry.heap ++ l)
    (append_assoc (number64 h.number) _ rest ∙ ap (λ l. number64 h.number ++ l)
    (append_assoc (number64 h.place) _ rest ∙ ap (λ l. number64 h.place ++ l)
    (append_assoc (number64 h.first) _ rest ∙ ap (λ l. number64 h.first ++ l)
    (append_assoc (number64 h.weight) _ rest ∙ ap (λ l. number64 h.weight ++ l)
    (append_assoc (number64 h.next) _ rest)))))))

small32 : (h : Header) → IsHeader h → Is32 h.geometry.index × Is32 h.geometry.heap
small32 h f = (omega (arith, f.sizes.few_index), omega (arith, f.sizes.few_heap))

pub heading_is_64 : (h : Header) → length (heading h) ≡ 64
heading_is_64 h =
    eight_fields (codes "DALIIMG1") _ 8 56 refl
    (eight_fields (number32 h.geometry.index) _ 4 52 (length-number32 h.geometry.index)
    (eight_fields (number32 h.geometry.heap) _ 4 48 (length-number32 h.geometry.heap)
    (eight_fields (number64 h.number) _ 8 40 (length-number64 h.number)
    (eight_fields (number64 h.place) _ 8 32 (length-number64 h.place)
    (eight_fields (number64 h.first) _ 8 24 (length-number64 h.first)
    (eight_fields (number64 h.weight) _ 8 16 (length-number64 h.weight)
    (eight_fields (number64 h.next) _ 8 8 (length-number64 h.next)
    (length-number64 h.table))))))))

same_header : (h k : Header) (x y : List ℕ) → IsHeader h → IsHeader k → heading h ++ x ≡ heading k ++ y → h ≡ k
same_header h k x y f g e =
    let sh = small32 h f in
    let sk = small32 k g in
    let e0 : on_index h x ≡ on_index k y = ap (drop 8) (sym (spread h x) ∙ e ∙ spread k y) in
    let index = once32 h.geometry.index k.geometry.index (on_heap h x) (on_heap k y) sh.0 sk.0 e0 in
    let heap = once32 h.geometry.heap k.geometry.heap (on_number h x) (on_number k y) sh.1 sk.1 index.1 in
    let number = once64 h.number k.number (on_place h x) (on_place k y) f.number g.number heap.1 in
    let place = once64 h.place k.place (on_first h x) (on_first k y) f.place g.place number.1 in
    let first = once64 h.first k.first (on_weight h x) (on_weight k y) f.first g.first place.1 in
    let weight = once64 h.weight k.weight (on_next h x) (on_next k y) f.weight g.weight first.1 in
    let next = once64 h.next k.next (on_table h x) (on_table k y) f.next g.next weight.1 in
    let table = once64 h.table k.table x y f.table g.table next.1 in
    λ i. record { geometry = record { index = index.0 i; heap = heap.0 i }; number = number.0 i; place = place.0 i; first = first.0 i; weight = weight.0 i; next = next.0 i; table = table.0 i }

not_bad : (bytes : List ℕ) (h : Header) (x : List ℕ) (at : ℕ) → IsHeader h → bytes ≡ heading h ++ x → NoHeading bytes at → ⊥
not_bad bytes h x at f e (inl (zero_at, inl short)) = omega (arith, short, ap length e, length-append (heading h) x, heading_is_64 h)
not_bad bytes h x at f e (inl (zero_at, inr unmarked)) = unmarked (ap (take 8) e)
not_bad bytes h x at f e (inr (eight, long, (s, rest, is, li, lh, out))) =
    let sh = small32 h f in
    let e0 : on_index h x ≡ number32 s.index ++ (number32 s.heap ++ rest) = ap (drop 8) (sym (spread h x) ∙ sym e ∙ is) in
    let index = once32 h.geometry.index s.index (on_heap h x) (number32 s.heap ++ rest) sh.0 li e0 in
    let heap = once32 h.geometry.heap s.heap (on_number h x) rest sh.1 lh index.1 in
    out (record { some_index = omega (arith, f.sizes.some_index, index.0); few_index = omega (arith, f.sizes.few_index, index.0); some_heap = omega (arith, f.sizes.some_heap, heap.0); few_heap = omega (arith, f.sizes.few_heap, heap.0) })

pub one_header : OneHeader
one_header bytes h f has = record { same = λ k g other. same_header h k has.0 other.0 f g (sym has.1 ∙ other.1); good = λ at no_header. not_bad bytes h has.0 at f has.1 no_header }
