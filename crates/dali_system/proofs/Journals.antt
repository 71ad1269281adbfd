-- What a push and a flush do to a journal.
use Rattle.std.proofs.Common.{◌≡◌, ℕ, zero, suc, ◌+◌, ◌≤◌, List, [], ◌∷◌, ◌++◌, length, drop, refl, sym, ap, subst, ◌∙◌, arith, length-append}
use Rattle.std.specs.Prelude.{◌^◌, Result, Ok, Err, OnErr, OnOk, is_err, true, false}
use Rattle.std.proofs.lemmas.List.{append-nil}
use Rattle.dali_record.specs.declared.records.Record.{Record}
use Rattle.dali_record.specs.Spelling.{spelling}
use Rattle.dali_store.specs.Faults.{one_more}
use Rattle.dali_log.specs.Batch.{Framed}
use Rattle.dali_log.specs.Log.{body_bytes}
use Rattle.dali_log.proofs.Unique.{some_bytes}
use Rattle.dali_log.proofs.Bodies.{bytes_push}
use Rattle.dali_system.specs.Promised.{Promised}
use Rattle.dali_system.specs.Journaled.{Journaled, IsKept, HasMemory, IsSmall}

-- ---- lists
drop_more : (n : ℕ) (L : List Record) (x : Record) → n ≤ length L → drop n (L ++ x ∷ []) ≡ drop n L ++ x ∷ []
drop_more zero L x le = refl
drop_more (suc n) [] x le = absurd (omega (arith, le))
drop_more (suc n) (y ∷ L) x le = drop_more n L x (omega (arith, le))

drop_all : (L : List Record) → drop (length L) L ≡ []
drop_all [] = refl
drop_all (y ∷ L) = drop_all L

pub few : (L : List Record) → length L ≤ length (body_bytes L)
few [] = omega arith
few (y ∷ L) = omega (arith, few L, one_byte y (body_bytes L), length-append (spelling y) (body_bytes L))
  where
    one_byte : (r : Record) (more : List ℕ) → 1 ≤ length (spelling r)
    one_byte r more = some_length (spelling r) (λ e. some_bytes r [] (sym e ∙ sym (append-nil (spelling r))))
      where
        some_length : (l : List ℕ) → (l ≡ [] → ⊥) → 1 ≤ length l
        some_length [] empty = absurd (empty refl)
        some_length (b ∷ l) empty = omega arith

fewer_left : (n : ℕ) (L : List Record) → length (drop n L) ≤ length L
fewer_left zero L = omega arith
fewer_left (suc n) [] = omega arith
fewer_left (suc n) (y ∷ L) = omega (arith, fewer_left n L)

-- ---- what is true of every journal
pub small_of : (L : List Record) (f : Framed) (count taken all : ℕ) (promised : Promised) → IsKept L f count taken all → IsSmall (record { since = L; taken = taken; promised = promised })
small_of L f count taken all promised k = record { bytes = omega (arith, k.weighs, k.small); records = omega (arith, few L, k.weighs, k.small) }

pub kept_none : (L : List Record) (f : Framed) → L ≡ [] → f.body ≡ [] → f.records ≡ 0 → IsKept L f 0 0 0
kept_none L f none e n = subst (λ (l : List Record). IsKept l f 0 0 0) (sym none) (record { counts = refl; within = omega arith; frame = e; records = n; weighs = refl; small = omega arith })

pub kept_same : (L : List Record) (f g : Framed) (count taken all : ℕ) → g.body ≡ f.body → g.records ≡ f.records → IsKept L f count taken all → IsKept L g count taken all
kept_same L f g count taken all body n k = record { counts = k.counts; within = k.within; frame = body ∙ k.frame; records = n ∙ k.records; weighs = k.weighs; small = k.small }

pub kept_flushed : (L : List Record) (f g : Framed) (count taken all : ℕ) → g.body ≡ [] → g.records ≡ 0 → IsKept L f count taken all → IsKept L g count count all
kept_flushed L f g count taken all e n k =
    let none : drop count L ≡ [] = ap (λ (m : ℕ). drop m L) k.counts ∙ drop_all L in
    record {
      counts = k.counts;
      within = omega (arith, k.counts);
      frame = e ∙ sym (ap body_bytes none);
      records = n ∙ sym (ap length none);
      weighs = k.weighs;
      small = k.small;
    }

pub kept_push : (L M : List Record) (x : Record) (f g : Framed) (count taken all sum : ℕ) → M ≡ L ++ x ∷ [] → g.body ≡ f.body ++ spelling x → g.records ≡ one_more f.records → sum ≡ all + length (spelling x) → sum ≤ 2 ^ 62
    → IsKept L f count taken all → IsKept M g (count + 1) taken sum
kept_push L M x f g count taken all sum e body n more short k = subst (λ (l : List Record). IsKept l g (count + 1) taken sum) (sym e) (record {
  counts = omega (arith, k.counts, length-append L (x ∷ []));
  within = omega (arith, k.within, length-append L (x ∷ []));
  frame = body ∙ ap (λ (l : List ℕ). l ++ spelling x) k.frame ∙ bytes_push (drop taken L) x ∙ ap body_bytes (sym (drop_more taken L x k.within));
  records = omega (arith, n, k.records, ap length (drop_more taken L x k.within), length-append (drop taken L) (x ∷ []), fewer_left taken L, few L, k.weighs, k.small);
  weighs = omega (arith, more, k.weighs, ap length (bytes_push L x), length-append (body_bytes L) (spelling x));
  small = short;
})

-- ---- memory
pub same_memory : (n m all : ℕ) (f : Framed) → n ≡ m → HasMemory n all f → HasMemory m all f
same_memory n m all f e h = subst (λ (k : ℕ). HasMemory k all f) e h

pub less_memory : (n m all : ℕ) (f : Framed) → n ≤ m → HasMemory m all f → HasMemory n all f
less_memory n m all f e h = record { frame = omega (arith, e, h.frame); few = omega (arith, e, h.few); small = omega (arith, e, h.small) }

pub grown_memory : (n all : ℕ) (f g : Framed) → g.body ≡ f.body → f.room ≤ g.room → HasMemory n all f → HasMemory n all g
grown_memory n all f g body room h = record { frame = omega (arith, room, h.frame); few = rw body h.few; small = h.small }

-- ---- views
pub view_push : (M : List Record) (x : Record) (taken : ℕ) (promised left p : Promised) (j : Journaled) → (L : List Record) → M ≡ L ++ x ∷ [] → p ≡ left → record { since = L; taken = taken; promised = promised } ≡ j
    → let m : Journaled = record { since = M; taken = taken; promised = p } in m ≡ record { since = j.since ++ x ∷ []; taken = j.taken; promised = left }
view_push M x taken promised left p j L e same is =
    ap (λ (l : List Record). let m : Journaled = record { since = l; taken = taken; promised = p } in m) e
    ∙ ap (λ (q : Promised). let m : Journaled = record { since = L ++ x ∷ []; taken = taken; promised = q } in m) same
    ∙ ap (λ (i : Journaled). let m : Journaled = record { since = i.since ++ x ∷ []; taken = i.taken; promised = left } in m) is

pub view_flushed : (L : List Record) (f : Framed) (count taken all : ℕ) (promised : Promised) (j : Journaled) → IsKept L f count taken all → record { since = L; taken = taken; promised = promised } ≡ j
    → let m : Journaled = record { since = L; taken = count; promised = promised } in m ≡ record { since = j.since; taken = length j.since; promised = j.promised }
view_flushed L f count taken all promised j k is =
    ap (λ (n : ℕ). let m : Journaled = record { since = L; taken = n; promised = promised } in m) k.counts
    ∙ ap (λ (i : Journaled). let m : Journaled = record { since = i.since; taken = length i.since; promised = i.promised } in m) is

pub on_err : {A E : Type 0} (r : Result A E) (P : Type 0) → P → OnErr r P
on_err (Ok x) P p = tt
on_err (Err e) P p = p

pub err_here : {A E : Type 0} (r : Result A E) (P : Type 0) → true ≡ is_err r → OnErr r P → P
err_here (Ok x) P e h = absurd cc
err_here (Err e) P is h = h

pub ok_here : {A E : Type 0} (r : Result A E) (P : Type 0) → false ≡ is_err r → OnOk r P → P
ok_here (Ok x) P e h = h
ok_here (Err e) P is h = absurd cc
