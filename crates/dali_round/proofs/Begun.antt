-- A client that is in a transaction has begun it, so no two clients are in one.
use Rattle.std.proofs.Common.{◌≡◌, ℕ, zero, suc, Bool, true, false, List, [], ◌∷◌, length, Option, Some, None, refl, ap, sym, subst, ◌∙◌, ◌⊎◌, inl, inr, ⊎_elim, arith}
use Rattle.std.specs.Prelude.{if◌then◌else◌, Contains, IsSome, slice_get}
use Rattle.std.specs.List.{AllByRecursion}
use Rattle.std.proofs.lemmas.List.Concat.{flat_map-cons}
use Rattle.std.proofs.lemmas.List.Elements.{Contains-append_right, Contains-append_left}
use Rattle.dali_geometry.specs.Sizes.{Sizes}
use Rattle.dali_record.specs.declared.records.Record.TheVariants.{Begin}
use Rattle.dali_record.specs.Legal.{rules_state}
use Rattle.dali_runs.proofs.CountsLemmas.Begins.{one_begin}
use Rattle.dali_transcripts.specs.Words.{closes}
use Rattle.dali_transcripts.specs.World.{Logs, World, log_of}
use Rattle.dali_transcripts.specs.Moves.{Receipt, Place, Outside, LeftOut, Within, Spot, Move, Begins, BeginsAgain, Skips, Answers, IsRefusedCall, IsArmed, from, own, to, start}
use Rattle.dali_transcripts.specs.Transcripts.{IsPath, own_by, deeds_of}
use Rattle.dali_transcripts.specs.Rounds.{Standing, Stands}
use Rattle.dali_transcripts.specs.Laws.{IsIn}
use Rattle.dali_transcripts.proofs.Owned.{own_ascend, owned_by_one}

abbrev pub in_txn : Place → Option ℕ
in_txn (Within t tries cs d s) = Some t
in_txn place = None

abbrev HasBegun : ℕ → List Receipt → Type 0
HasBegun t xs = (n : ℕ) × Contains xs (n, Logs (Begin t))

-- ---- along its path
skipped_out : (b s : Bool) → in_txn (if b then Outside s else LeftOut s) ≡ None
skipped_out true s = refl
skipped_out false s = refl

none_some : (o : Option ℕ) (t : ℕ) (X : Type 0) → o ≡ None → o ≡ Some t → X
none_some o t X e f = let no_way : None ≡ Some t = sym e ∙ f in absurd (cc)

by_move : (x : Move) (t : ℕ) → in_txn (to x).place ≡ Some t → (in_txn (from x).place ≡ Some t) ⊎ HasBegun t (own x)
by_move (Begins u n rest) t e = let same : u ≡ t = cc in inr (n, (zero, omega arith, ap (λ k. (n, Logs (Begin k))) same))
by_move (BeginsAgain u n tries h rest) t e = let same : u ≡ t = cc in inr (n, (zero, omega arith, ap (λ k. (n, Logs (Begin k))) same))
by_move (Answers u tries cs d work n call a rest) t e = inl e
by_move (IsRefusedCall u tries cs d s work n back call why rest) t e = inl e
by_move (IsArmed u tries cs d s count rest) t e = inl e
by_move (Skips s act rest) t e = none_some (in_txn (if closes act then Outside s else LeftOut s)) t _ (skipped_out (closes act) s) e
by_move x t e = absurd (cc)

by_path : (w : World) (c t : ℕ) (p : Spot) (xs : List Move) (q : Spot) → IsPath w c p xs q → in_txn q.place ≡ Some t → (in_txn p.place ≡ Some t) ⊎ HasBegun t (own_by xs)
by_path w c t p [] q path e = inl (ap (λ (z : Spot). in_txn z.place) path ∙ e)
by_path w c t p (x ∷ xs) q path e =
    subst (λ l. (in_txn p.place ≡ Some t) ⊎ HasBegun t l) (sym (flat_map-cons own x xs))
    (⊎_elim
    (λ here. ⊎_elim
    (λ before. inl (ap (λ (z : Spot). in_txn z.place) path.0 ∙ before))
    (λ one. inr (one.0, Contains-append_left (own x) (own_by xs) _ one.1))
    (by_move x t here))
    (λ more. inr (more.0, Contains-append_right (own x) (own_by xs) _ more.1))
    (by_path w c t (to x) xs q path.2 e))

has_begun : (w : World) (a : Standing) (t : ℕ) → Stands w a → in_txn a.spot.place ≡ Some t → HasBegun t (deeds_of w a.client)
has_begun w a t so e =
    ⊎_elim
    (λ at_start. absurd (cc))
    (λ begun. (begun.0, subst (λ l. Contains l (begun.0, Logs (Begin t))) (sym so.did_are) (Contains-append_left (own_by so.moves) a.pending _ begun.1)))
    (by_path w a.client t (start a.acts) so.moves a.spot so.path e)

-- ---- in the log
in_log : (w : World) (c t : ℕ) (h : HasBegun t (deeds_of w c)) → slice_get (log_of w) h.0 ≡ Some (Begin t)
in_log w c t h = by_place (deeds_of w c) h.1 (own_ascend w c).logged
  where
    by_place : (xs : List Receipt) → Contains xs (h.0, Logs (Begin t)) → AllByRecursion (IsIn (log_of w)) xs → slice_get (log_of w) h.0 ≡ Some (Begin t)
    by_place [] (k, below, is) all = absurd (omega (arith, below))
    by_place (x ∷ xs) (zero, below, is) all = subst (IsIn (log_of w)) is all.0
    by_place (x ∷ xs) (suc k, below, is) all = by_place xs (k, omega (arith, below), is) all.1

-- two clients that are in one transaction are one
pub in_one : (s : Sizes) (w : World) (a b : Standing) (t : ℕ) → IsSome (rules_state s (log_of w)) → Stands w a → Stands w b → in_txn a.spot.place ≡ Some t → in_txn b.spot.place ≡ Some t → a.client ≡ b.client
in_one s w a b t legal so also e f =
    let one = has_begun w a t so e in
    let two = has_begun w b t also f in
    let same : one.0 ≡ two.0 = one_begin s (log_of w) one.0 two.0 t legal (in_log w a.client t one) (in_log w b.client t two) in
    owned_by_one a.client b.client (length w.before) w.happened one.0 (Begin t) (Begin t) one.1 (subst (λ n. Contains (deeds_of w b.client) (n, Logs (Begin t))) (sym same) two.1)
