-- Each undo that stands was left by a block, and the undos above it lead the slots of its key back to where they were right behind that block.
use Rattle.std.proofs.Common.{◌≡◌, ℕ, ◌+◌, false, List, [], ◌∷◌, ◌++◌, length, take, drop, Some, refl, ap, sym, subst, ◌∙◌, ◌⊎◌, inl, inr, arith}
use Rattle.std.specs.Prelude.{reverse, slice_get}
use Rattle.std.proofs.Math.ListN.{drop_of_length-le}
use Rattle.std.proofs.lemmas.Bool.{eq-eqb}
use Rattle.std.proofs.lemmas.List.{length-append, take-append-le, drop-append-le, take_all}
use Rattle.std.proofs.lemmas.Option.{slice_get_within}
use Rattle.dali_geometry.specs.Sizes.{Sizes}
use Rattle.dali_record.specs.declared.operations.Pending.{Pending}
use Rattle.dali_record.specs.declared.operations.Block.{Block}
use Rattle.dali_record.specs.declared.records.Record.{Record}
use Rattle.dali_record.specs.declared.records.Record.TheVariants.{Forward}
use Rattle.dali_record.specs.Log.{undos_of, undo_added, committed}
use Rattle.dali_record.specs.Damage.{has}
use Rattle.dali_record.specs.Settled.{redo_all}
use Rattle.dali_record.proofs.Ends.{by_push}
use Rattle.dali_record.proofs.Pushes.{undos_of_push}
use Rattle.dali_access.proofs.IndexLemmas.Worlds.{part}
use Rattle.dali_history.proofs.SlotsLemmas.SlotUndos.{NoneOn}
use Rattle.dali_history.proofs.KeptLemmas.WithoutLast.{left}
use Rattle.dali_history.proofs.KeptLemmas.InvariantSteps.{Fine, Along, fine_before, along_all}
use Rattle.dali_history.specs.Undone.AsLeft.{IsPushed}
use Rattle.dali_history.proofs.UndoneLemmas.After.{after, after_push, none_at}
use Rattle.dali_history.proofs.UndoneLemmas.Listed.{listed, split_at, pushed_on, pushed_now}
use Rattle.dali_history.proofs.UndoneLemmas.Stepped.{Stepped, stepped, stays_committed}

pub record Left (s : Sizes) (base : List (List ℕ)) (t : ℕ) (J : List Record) (n : ℕ) (p : Pending) : Type 0 where
  pub place : ℕ
  pub block : Block
  pub pushed : IsPushed t J n place block p
  pub slots : after p.key (reverse (drop (n + 1) (undos_of t J))) (part s (redo_all base J) p.key) ≡ part s (redo_all base (take (place + 1) J)) p.key

abbrev pub AllLeft : Sizes → List (List ℕ) → ℕ → List Record → Type 0
AllLeft s base t J = (n : ℕ) (p : Pending) → slice_get (undos_of t J) n ≡ Some p → Left s base t J n p

-- t has an undo on the key of each of its undos
pub holds_on : (t : ℕ) (J : List Record) (n : ℕ) (p : Pending) → has (committed J) t ≡ false → slice_get (undos_of t J) n ≡ Some p → NoneOn p.key (left t J) → ⊥
holds_on t J n p un at none =
    let all : left t J ≡ undos_of t J = rw un refl in
    none_at p.key (take n (undos_of t J)) p (drop (n + 1) (undos_of t J)) (subst (λ us. NoneOn p.key us) (all ∙ split_at (undos_of t J) n p at) none) refl

module _ (s : Sizes) (base : List (List ℕ)) (cuts : List ℕ) (J : List Record) (r : Record) (h : Fine s base cuts (J ++ r ∷ [])) (along : Along s base cuts J) (t : ℕ) (un : has (committed J) t ≡ false) where
  -- one that stood before
  old : (n : ℕ) (p : Pending) → slice_get (undos_of t (J ++ r ∷ [])) n ≡ Some p → slice_get (undos_of t J) n ≡ Some p → Left s base t J n p → Left s base t (J ++ r ∷ []) n p
  old n p now at l = record {
    place = l.place;
    block = l.block;
    pushed = pushed_on t J r n l.place l.block p l.pushed (slice_get_within (undos_of t (J ++ r ∷ [])) n p now);
    slots = still ∙ l.slots ∙ ap (λ K. part s (redo_all base K) p.key) (sym (take-append-le (l.place + 1) J (r ∷ []) (omega (arith, slice_get_within J l.place (Forward t l.block) l.pushed.block))));
  }
    where
      step : Stepped p.key t J r (part s (redo_all base J) p.key) (part s (redo_all base (J ++ r ∷ [])) p.key)
      step = stepped s base cuts J r h along t p.key un (holds_on t J n p un at)

      still : after p.key (reverse (drop (n + 1) (undos_of t (J ++ r ∷ [])))) (part s (redo_all base (J ++ r ∷ [])) p.key) ≡ after p.key (reverse (drop (n + 1) (undos_of t J))) (part s (redo_all base J) p.key)
      still = go step
        where
          go : Stepped p.key t J r (part s (redo_all base J) p.key) (part s (redo_all base (J ++ r ∷ [])) p.key) → after p.key (reverse (drop (n + 1) (undos_of t (J ++ r ∷ [])))) (part s (redo_all base (J ++ r ∷ [])) p.key) ≡ after p.key (reverse (drop (n + 1) (undos_of t J))) (part s (redo_all base J) p.key)
          go (inl x) = ap (λ us. after p.key (reverse (drop (n + 1) us)) (part s (redo_all base (J ++ r ∷ [])) p.key)) x.0 ∙ ap (after p.key (reverse (drop (n + 1) (undos_of t J)))) x.1
          go (inr (inl x)) =
              let more : drop (n + 1) (undos_of t (J ++ r ∷ [])) ≡ drop (n + 1) (undos_of t J) ++ x.0 ∷ [] = ap (drop (n + 1)) x.1 ∙ drop-append-le (n + 1) (undos_of t J) (x.0 ∷ []) (omega (arith, slice_get_within (undos_of t J) n p at)) in
              ap (λ us. after p.key (reverse us) (part s (redo_all base (J ++ r ∷ [])) p.key)) more
              ∙ after_push p.key (drop (n + 1) (undos_of t J)) x.0 (part s (redo_all base (J ++ r ∷ [])) p.key)
              ∙ ap (after p.key (reverse (drop (n + 1) (undos_of t J)))) x.2
          go (inr (inr x)) =
              let less : drop (n + 1) (undos_of t J) ≡ drop (n + 1) (undos_of t (J ++ r ∷ [])) ++ x.0 ∷ [] = ap (drop (n + 1)) x.1 ∙ drop-append-le (n + 1) (undos_of t (J ++ r ∷ [])) (x.0 ∷ []) (omega (arith, slice_get_within (undos_of t (J ++ r ∷ [])) n p now)) in
              ap (after p.key (reverse (drop (n + 1) (undos_of t (J ++ r ∷ []))))) x.2
              ∙ sym (ap (λ us. after p.key (reverse us) (part s (redo_all base J) p.key)) less ∙ after_push p.key (drop (n + 1) (undos_of t (J ++ r ∷ []))) x.0 (part s (redo_all base J) p.key))

-- that of the last block: none stands above it
fresh : (s : Sizes) (base : List (List ℕ)) (t : ℕ) (J : List Record) (b : Block) (n : ℕ) (p : Pending) → undo_added b b.undo ≡ p ∷ [] → n ≡ length (undos_of t J) → Left s base t (J ++ Forward t b ∷ []) n p
fresh s base t J b n p adds at = subst (λ i. Left s base t (J ++ Forward t b ∷ []) i p) (sym at) (record {
  place = length J;
  block = b;
  pushed = pushed_now t J b p adds (omega (arith, long));
  slots =
      ap (λ us. after p.key (reverse us) (part s (redo_all base (J ++ Forward t b ∷ [])) p.key)) (drop_of_length-le (undos_of t (J ++ Forward t b ∷ [])) (omega (arith, long)))
      ∙ ap (λ K. part s (redo_all base K) p.key) (sym (take_all (length J + 1) (J ++ Forward t b ∷ []) (omega (arith, length-append J (Forward t b ∷ [])))));
})
  where
    more : undos_of t (J ++ Forward t b ∷ []) ≡ undos_of t J ++ p ∷ []
    more = undos_of_push t J (Forward t b) ∙ rw (eq-eqb t t refl) (ap (λ us. undos_of t J ++ us) adds)

    long : length (undos_of t (J ++ Forward t b ∷ [])) ≡ length (undos_of t J) + 1
    long = ap length more ∙ length-append (undos_of t J) (p ∷ [])

pub all_left : (s : Sizes) (base : List (List ℕ)) (cuts : List ℕ) (K : List Record) (t : ℕ) → Along s base cuts [] → Fine s base cuts K → has (committed K) t ≡ false → AllLeft s base t K
all_left s base cuts K t start = by_push (λ J. Fine s base cuts J → has (committed J) t ≡ false → AllLeft s base t J) (λ h un n p at. absurd (cc (at))) step K
  where
    step : (J : List Record) (r : Record) → (Fine s base cuts J → has (committed J) t ≡ false → AllLeft s base t J) → Fine s base cuts (J ++ r ∷ []) → has (committed (J ++ r ∷ [])) t ≡ false → AllLeft s base t (J ++ r ∷ [])
    step J r ih h un n p at = go (listed t J r n p at)
      where
        before : Fine s base cuts J
        before = fine_before s base cuts J r h

        open_before : has (committed J) t ≡ false
        open_before = stays_committed t J r un

        go : (slice_get (undos_of t J) n ≡ Some p) ⊎ ((b : Block) × (r ≡ Forward t b) × (undo_added b b.undo ≡ p ∷ []) × (n ≡ length (undos_of t J))) → Left s base t (J ++ r ∷ []) n p
        go (inl x) = old s base cuts J r h (along_all s base cuts J start before) t open_before n p at x (ih before open_before n p x)
        go (inr x) = subst (λ z. Left s base t (J ++ z ∷ []) n p) (sym x.1) (fresh s base t J x.0 n p x.2 x.3)
