-- A file whose header and table pass has header and table of an image.
use Rattle.std.proofs.Common.{◌≡◌, ℕ, ◌^◌, Bool, true, false, cond, ◌++◌, length, take, drop, Option, Some, None, refl, ap, sym, subst, ◌∙◌, arith, length-take, length-drop, take-append-drop}
use Rattle.std.specs.Prelude.{◌||◌, ◌==◌, not, nat_lt, nat_le}
use Rattle.std.proofs.lemmas.Bool.Decides.{nat_tests}
use Rattle.std.proofs.lemmas.List.{take_at}
use Rattle.std.proofs.lemmas.Bool.{or_parts}
use Rattle.dali_record.specs.Spelling.{Is64}
use Rattle.dali_crash.specs.Checkpoints.{Head}
use Rattle.dali_crash.specs.Disks.Disks.{table_bytes}
use Rattle.dali_image.specs.Headers.{heading, bad_header, IsWanted}
use Rattle.dali_image.specs.Reading.{table_place, table_part}
use Rattle.dali_image.specs.Laws.{header_of, IsSpelled, WhatPassesIsAnImage}
use Rattle.dali_image.specs.declared.header.Header.{Header}
use Rattle.dali_image.specs.declared.header.Expected.{Expected}
use Rattle.dali_image.proofs.Taken.{tables_are_spelled}
use Rattle.dali_image.proofs.OneHeader.{heading_is_64}

none_then : (b : Bool) (at : ℕ) (o : Option ℕ) → cond b (Some at) o ≡ None → (b ≡ false) × (o ≡ None)
none_then true at o e = absurd cc
none_then false at o e = (refl, e)

same_numbers : (a b : ℕ) → not (a == b) ≡ false → a ≡ b
same_numbers a b e = grind (arith, nat_tests, e)

pub wanted : (h : Header) (x : Expected) → bad_header h x ≡ None → IsWanted h x
wanted h x e =
    let a = none_then (not (h.geometry.index == x.geometry.index) || not (h.geometry.heap == x.geometry.heap)) 8 _ e in
    let b = none_then (not (h.number == x.number)) 16 _ a.1 in
    let c = none_then (nat_lt h.place 15 || nat_le x.log h.place) 24 _ b.1 in
    let d = none_then (nat_le (2 ^ 40) h.first || (h.first == 0)) 32 _ c.1 in
    let f = none_then (nat_le (2 ^ 40) h.weight) 40 _ d.1 in
    let g = none_then (nat_le (2 ^ 40) h.next || (h.next == 0)) 48 _ f.1 in
    let s = or_parts (not (h.geometry.index == x.geometry.index)) (not (h.geometry.heap == x.geometry.heap)) a.0 in
    let p = or_parts (nat_lt h.place 15) (nat_le x.log h.place) c.0 in
    let q = or_parts (nat_le (2 ^ 40) h.first) (h.first == 0) d.0 in
    let n = or_parts (nat_le (2 ^ 40) h.next) (h.next == 0) g.0 in
    let index : h.geometry.index ≡ x.geometry.index = same_numbers _ _ s.0 in
    let heap : h.geometry.heap ≡ x.geometry.heap = same_numbers _ _ s.1 in
    record {
      geometry = λ i. record { index = index i; heap = heap i };
      number = same_numbers _ _ b.0;
      place = (grind (arith, nat_tests, p.0), grind (arith, nat_tests, p.1));
      first = (grind (arith, nat_tests, q.1), grind (arith, nat_tests, q.0));
      weight = grind (arith, nat_tests, f.0);
      next = (grind (arith, nat_tests, n.1), grind (arith, nat_tests, n.0));
    }

pub what_passes : WhatPassesIsAnImage
what_passes bytes h x m is has checked reads =
    let place = table_place h in
    let part = table_part bytes h in
    let s : IsSpelled h.geometry h.next part m = tables_are_spelled h.geometry h.next part m reads.bytes reads.spells in
    let size : length part ≡ h.table = omega (arith, length-take h.table (drop place bytes), length-drop place bytes, reads.inside) in
    let same : length (table_bytes s.list) ≡ h.table = ap length (sym s.bytes_are) ∙ size in
    let head : Head = record { number = h.number; place = h.place; first = h.first; weight = h.weight; next = h.next; table = s.list } in
    let header_is : header_of h.geometry head ≡ h = λ i. record { geometry = h.geometry; number = h.number; place = h.place; first = h.first; weight = h.weight; next = h.next; table = same i } in
    let low = wanted h x checked in
    record {
      head = head;
      header_is = header_is;
      table_is = s.table_is;
      reads = record {
        header = ap (take 64) has.1 ∙ (take_at (heading h) has.0 64 (heading_is_64 h) ∙ ap heading (sym header_is));
        rest = drop h.table (drop place bytes);
        table = sym (take-append-drop h.table (drop place bytes)) ∙ ap (λ l. l ++ drop h.table (drop place bytes)) s.bytes_are;
      };
      fits = λ image whole words. record { number = is.number; place = is.place; first = low.first.1; weight = low.weight; some = low.next.0; next = low.next.1; whole = whole; words = words; count = s.fits.count; size = subst Is64 (sym same) is.table; rows = s.fits.fit; ascending = s.fits.ascending };
    }
