-- A round in which nobody does anything.
use Rattle.std.proofs.Common.{◌≡◌, ℕ, zero, suc, ◌+◌, ◌<◌, true, List, [], ◌∷◌, ◌++◌, length, Some, refl, ap, sym, subst, ◌∙◌, arith}
use Rattle.std.specs.Prelude.{slice_get, map, ◌==◌}
use Rattle.std.proofs.lemmas.Bool.{eq-eqb, ne_eqb}
use Rattle.std.proofs.lemmas.List.{length-map}
use Rattle.std.proofs.lemmas.Option.{slice_get_within}
use Rattle.dali_lists.proofs.Lists.{get_within}
use Rattle.dali_runs.proofs.CountsLemmas.Lists.{some_same}
use Rattle.dali_geometry.specs.Places.{regions}
use Rattle.dali_record.specs.declared.records.Record.{Record}
use Rattle.dali_store.specs.declared.store.Store.{Ghosts}
use Rattle.dali_runs.specs.State.{SystemState}
use Rattle.dali_crash.specs.Checkpoints.{Point}
use Rattle.dali_crash.specs.Traces.{Start, bases_of}
use Rattle.dali_transcripts.specs.Rounds.{Standing}
use Rattle.dali_notes.specs.History.{Sight, AllSaw, IsWhole, notes_of, below, one_if}
use Rattle.dali_concurrent.specs.Entries.{system_note, vault_note, region_note, client_note, done_by}
use Rattle.dali_concurrent.specs.Rules.{Outset, count_of}
use Rattle.dali_concurrent.specs.Told.{Item, History, plain}
use Rattle.dali_concurrent.specs.Landing.{BeginsAt}
use Rattle.dali_concurrent.specs.Kept.{SystemTold, RegionTold}
use Rattle.dali_concurrent.specs.Clients.{ClientTold, begun_at}
use Rattle.dali_concurrent.specs.Starts.{ValuesStart}
use Rattle.dali_concurrent.specs.Leads.{outset_of, MayBegin, Saw, ClientEnds, VaultEnds, RoundEnds}
use Rattle.dali_concurrent.specs.Idle.{HaveSeenNothing, RoundMayBegin, IdleRoundEnds}
use Rattle.dali_concurrent.proofs.Starts.{round_starts, vault_starts}
use Rattle.dali_concurrent.proofs.Moments.{moments_begin}
use Rattle.dali_concurrent.proofs.Leads.{outset_begins}

-- ---- the notes
abbrev From : ℕ → List (Sight Item) → Type 0
From k xs = (n : ℕ) (x : Sight Item) → slice_get xs n ≡ Some x → (x.number ≡ k + n) × (x.seen ≡ [])

from_next : (k : ℕ) (x : Sight Item) (xs : List (Sight Item)) → From k (x ∷ xs) → From (suc k) xs
from_next k x xs f n z e = let w = f (suc n) z e in (omega (arith, w.0), w.1)

none_more : (n : ℕ) → 0 + n ≡ n
none_more n = omega arith

other_number : (n k : ℕ) (x : Sight Item) (more : ℕ) → x.number ≡ n → (n ≡ k → ⊥) → one_if (x.number == k) + more ≡ more
other_number n k x more e apart = ap (λ b. one_if b + more) (ne_eqb x.number k (λ same. apart (sym e ∙ same))) ∙ none_more more

none_below : (k n : ℕ) (xs : List (Sight Item)) → From k xs → n < k → notes_of n xs ≡ 0
none_below k n [] f low = refl
none_below k n (x ∷ xs) f low = other_number k n x (notes_of n xs) (let w = f zero x refl in omega (arith, w.0)) (λ e. omega (arith, e, low)) ∙ none_below (suc k) n xs (from_next k x xs f) (omega (arith, low))

each_once : (k n m : ℕ) (xs : List (Sight Item)) → From k xs → n ≡ k + m → notes_of n xs ≡ below m (length xs)
each_once k n zero [] f e = refl
each_once k n (suc m) [] f e = refl
each_once k n zero (x ∷ xs) f e =
    ap (λ b. one_if b + notes_of n xs) (eq-eqb x.number n (let w = f zero x refl in omega (arith, w.0, e))) ∙ ap (λ z. 1 + z) (none_below (suc k) n xs (from_next k x xs f) (omega (arith, e)))
each_once k n (suc m) (x ∷ xs) f e =
    other_number k n x (notes_of n xs) (let w = f zero x refl in omega (arith, w.0)) (λ same. omega (arith, e, same)) ∙ each_once (suc k) n m xs (from_next k x xs f) (omega (arith, e))

nothing_seen : (k : ℕ) (xs : List (Sight Item)) → From k xs → AllSaw [] xs
nothing_seen k [] f = tt
nothing_seen k (x ∷ xs) f =
    (record { rest = []; all = subst (λ (S : History). ◌≡◌ {A = History} [] (S ++ [])) (sym (f zero x refl).1) refl; none = λ z w. absurd (cc) }, nothing_seen (suc k) xs (from_next k x xs f))

from_first : (notes : List (Sight Item)) → HaveSeenNothing notes → From 0 notes
from_first notes fresh n x e = let w = fresh n x e in (omega (arith, w.0), w.1)

whole_there : (notes : List (Sight Item)) → HaveSeenNothing notes → IsWhole [] notes
whole_there notes fresh = record {
  seen = nothing_seen 0 notes (from_first notes fresh);
  numbered = λ x w n s. absurd (cc);
  each = λ n. each_once 0 n n notes (from_first notes fresh) (omega arith);
}

saw : (notes : List (Sight Item)) → HaveSeenNothing notes → (k : ℕ) (P : History → Type 0) → k < length notes → P [] → Saw notes k P
saw notes fresh k P low so =
    let note = get_within notes k low in
    let is = fresh k note.0 note.1 in
    record { note = note.0; there = (k, note.1); number = is.0; so = subst P (sym is.1) so }

-- ---- the clients
mapped : {X : Type 0} (f : ℕ → X) (cs : List ℕ) (i : ℕ) (x : X) → slice_get (map f cs) i ≡ Some x → (c : ℕ) × (slice_get cs i ≡ Some c) × (x ≡ f c)
mapped f [] i x e = absurd (cc)
mapped f (c ∷ cs) zero x e = (c, refl, sym (some_same e))
mapped f (c ∷ cs) (suc i) x e = mapped f cs i x e

client_ends : (o : Outset) (c : ℕ) → ClientTold o (begun_at c []) [] → ClientEnds true o (begun_at c []) [] []
client_ends o c told = record { stands = told; ended = (tt, refl, refl); handed = refl }

module _ {V : Type 0} (means : Ghosts V) where
  pub round_may_begin : RoundMayBegin means
  round_may_begin s B p gs y v stands keeps between = record { stands = stands; keeps = keeps; between = between }

  pub idle_round_ends : IdleRoundEnds means
  idle_round_ends precheck gs y v notes cs now fresh enough clients = (whole_there notes fresh, ends)
    where
      ends : (s : Start) (B : List (List Record)) (p : Point) → MayBegin means s B p gs y v
          → RoundEnds means true s p (outset_of precheck s p) v notes gs y v (map (λ c. begun_at c []) cs) (map (λ c. []) cs)
      ends s B p may = record {
        system = saw notes fresh system_note (SystemTold o y) (omega (arith, enough)) (sym same);
        vault = saw notes fresh vault_note (VaultEnds means s p o v v) (omega (arith, enough)) (record {
          batches = B;
          held = vault_starts means s B p o v may.stands.at.vault;
          flushed = λ runs. may.stands.at.none_in_hand runs ∙ ap (λ (z : SystemState). z.taken) (sym same);
          moments = moments_begin means s B p o gs y v now may.stands;
        });
        all = ap length (sym may.stands.at.regions);
        regions = λ r g at.
            let low = slice_get_within gs r g at in
            saw notes fresh (region_note r) (RegionTold o r g) (omega (arith, low, enough)) (start.regions r g (subst (λ l. slice_get l r ≡ Some g) (sym may.stands.at.regions) at));
        each = length-map cs (λ c. []) ∙ sym (length-map cs (λ c. begun_at c []));
        clients = λ i x given at there.
            let one = mapped (λ c. begun_at c []) cs i x at in
            let handed = mapped (λ c. []) cs i given there in
            subst (λ (z : Standing). Saw notes (client_note (count_of o) z.client) (ClientEnds true o z given)) (sym one.2)
            (subst (λ l. Saw notes (client_note (count_of o) one.0) (ClientEnds true o (begun_at one.0 []) l)) (sym handed.2)
            (saw notes fresh (client_note (count_of o) one.0) (ClientEnds true o (begun_at one.0 []) [])
            (subst (λ (z : SystemState). client_note (regions z.sizes) one.0 < length notes) (sym same) (clients i one.0 one.1)) (client_ends o one.0 (start.clients one.0 []))));
        others = λ d low none. saw notes fresh (client_note (count_of o) d) (λ T. done_by d (plain T) ≡ []) low refl;
      }
        where
          o : Outset
          o = outset_of precheck s p

          begins : BeginsAt (bases_of s) p o
          begins = outset_begins means precheck gs y v s B p may

          same : p.core.system ≡ y
          same = may.stands.at.system

          start : ValuesStart (bases_of s) p o
          start = round_starts (bases_of s) p o begins
