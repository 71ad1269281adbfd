-- What a round in threads promises, from what its caller holds where it ends.
use Rattle.std.proofs.Common.{◌≡◌, ℕ, zero, suc, ◌<◌, Bool, true, false, List, [], ◌∷◌, length, Some, inl, inr, refl, ap, sym, subst, ◌∙◌, arith}
use Rattle.std.specs.Prelude.{slice_get, map}
use Rattle.std.proofs.lemmas.Option.{slice_get_within}
use Rattle.dali_lists.proofs.Lists.{get_within}
use Rattle.dali_region.specs.State.{RegionState}
use Rattle.dali_store.specs.declared.store.Store.{Ghosts}
use Rattle.dali_runs.specs.State.{SystemState}
use Rattle.dali_runs.specs.Run.{Bases}
use Rattle.dali_crash.specs.Checkpoints.{Point}
use Rattle.dali_crash.specs.Traces.{Start, bases_of}
use Rattle.dali_transcripts.specs.Words.{Said}
use Rattle.dali_transcripts.specs.World.{World, Grows}
use Rattle.dali_transcripts.specs.Moves.{Receipt, Spot}
use Rattle.dali_transcripts.specs.Transcripts.{IsUnderWay, AreHanded, deeds_of as deeds_of_client, numbers_of, receipts_of}
use Rattle.dali_transcripts.specs.Rounds.{Standing, AllStand, told_of}
use Rattle.dali_transcripts.proofs.Growing.{unfinished, has_cause}
use Rattle.dali_transcripts.proofs.Rounds.{round_is_done, round_is_cut}
use Rattle.dali_core.specs.Vault.Vaulted.{Vaulted}
use Rattle.dali_notes.specs.History.{Sight, IsSeen}
use Rattle.dali_concurrent.specs.Entries.{system_note, vault_note, region_note, client_note, done_by}
use Rattle.dali_concurrent.specs.Rules.{Outset, before, count_of}
use Rattle.dali_concurrent.specs.Told.{Item, History, plain, steps_told, world_told}
use Rattle.dali_concurrent.specs.Landing.{BeginsAt, Stands}
use Rattle.dali_concurrent.specs.Kept.{AllFollow, SystemTold, RegionTold}
use Rattle.dali_concurrent.specs.Closed.{Closed, ValuesTold, ClientsTold}
use Rattle.dali_concurrent.specs.Round.{AllDone, AllCut, IsRoundWith}
use Rattle.dali_concurrent.specs.Stored.{HandedOut}
use Rattle.dali_concurrent.specs.Leads.{outset_of, Saw, HasEnded, IsHanded, ClientEnds, OutsetBegins, VaultEnds, RoundEnds, RoundIsLed}
use Rattle.dali_concurrent.proofs.Told.{plain_seen}
use Rattle.dali_concurrent.proofs.Kept.{fit_of}
use Rattle.dali_concurrent.proofs.Clients.{own_deeds, seen_grows}
use Rattle.dali_concurrent.proofs.Round.{stand, promise}
use Rattle.dali_concurrent.proofs.Stored.{hands_out}
use Rattle.dali_concurrent.proofs.Moments.{moments_meet, history_leaves_right}
use Rattle.dali_concurrent.proofs.Finish.{notes_finish}

-- a step that is under way stays so while the world goes on
under_way_on : (v w : World) → Grows v w → (c : ℕ) (q : Spot) (pending : List Receipt) (part : List Said) → IsUnderWay v c q pending part → IsUnderWay w c q pending part
under_way_on v w g c q pending part (inl h) = inl (h.0, unfinished v w g c q.place q.rest pending h.1)
under_way_on v w g c q pending part (inr h) = inr (record { move = h.move; starts = h.starts; own_is = h.own_is; cause = has_cause v w g c h.move h.cause; lacking = h.lacking; said_is = h.said_is })

ended_on : (whole : Bool) (v w : World) (s : Standing) → Grows v w → HasEnded whole v s → HasEnded whole w s
ended_on true v w s g h = h
ended_on false v w s g h = under_way_on v w g s.client s.spot s.pending [] h

-- ---- what the clients were handed
all_handed : (whole : Bool) (w : World) (ss : List Standing) (givens : List (List ℕ)) → length givens ≡ length ss
    → ((i : ℕ) (s : Standing) (given : List ℕ) → slice_get ss i ≡ Some s → slice_get givens i ≡ Some given → IsHanded whole (numbers_of (deeds_of_client w s.client)) given)
    → AreHanded whole (receipts_of w (map told_of ss)) givens
all_handed true w [] [] e h = refl
all_handed true w (s ∷ ss) (given ∷ givens) e h =
    ap (λ (x : List ℕ). x ∷ givens) (h zero s given refl refl) ∙ ap (λ l. numbers_of (deeds_of_client w s.client) ∷ l) (all_handed true w ss givens (omega (arith, e)) (λ i x g a b. h (suc i) x g a b))
all_handed false w [] [] e h = tt
all_handed false w (s ∷ ss) (given ∷ givens) e h = (h zero s given refl refl, all_handed false w ss givens (omega (arith, e)) (λ i x g a b. h (suc i) x g a b))
all_handed whole w [] (given ∷ givens) e h = absurd (omega (arith, e))
all_handed whole w (s ∷ ss) [] e h = absurd (omega (arith, e))

-- ---- of a closed history
module _ (bases : Bases) (p : Point) (o : Outset) (T : History) (begins : BeginsAt bases p o) (closed : Closed bases p o T) (notes : List (Sight Item)) (many : closed.count ≡ length notes)
    (own : (i : ℕ) (x : Sight Item) → slice_get notes i ≡ Some x → (closed.seen x.number ≡ x.seen) × (x.number < length notes)) where
  saw_so : (k : ℕ) (P : History → Type 0) → Saw notes k P → (k < closed.count) × P (closed.seen k)
  saw_so k P saw =
      let at = own saw.there.0 saw.note saw.there.1 in (
        subst (λ n. k < n) (sym many) (subst (λ n. n < length notes) saw.number at.1),
        subst (λ n. P (closed.seen n)) saw.number (subst P (sym at.0) saw.so),
      )

  -- a client of which this was so still has ended, and was handed the same
  client_ends : (whole : Bool) (s : Standing) (given : List ℕ) → Saw notes (client_note (count_of o) s.client) (ClientEnds whole o s given)
      → HasEnded whole (world_told o T) s × IsHanded whole (numbers_of (deeds_of_client (world_told o T) s.client)) given
  client_ends whole s given saw =
      let k : ℕ = client_note (count_of o) s.client in
      let here = saw_so k (ClientEnds whole o s given) saw in
      let seen : History = closed.seen k in
      let is : IsSeen T k seen = closed.is k here.0 in (
        ended_on whole (world_told o seen) (world_told o T) s (seen_grows bases p o k seen T begins is closed.all) here.1.ended,
        subst (λ l. IsHanded whole (numbers_of l) given)
            (sym (own_deeds o (plain T) (fit_of bases p o T closed.all) s.client (plain seen) (plain_seen T k seen is) (length (before o)))) here.1.handed,
      )

module _ {V : Type 0} (means : Ghosts V) where
  pub outset_begins : OutsetBegins means
  outset_begins precheck gs y v s B p may = record {
    core = refl;
    log = may.stands.at.vault.run.run.log;
    run = may.stands.at.vault.run;
    between = may.between;
    whole = may.stands.whole;
    keeps = may.keeps;
  }

  module _ (whole : Bool) (s : Start) (p : Point) (o : Outset) (v : Vaulted V) (T : History) (notes : List (Sight Item)) (hs : List RegionState) (z : SystemState) (u : Vaulted V)
      (ss : List Standing) (givens : List (List ℕ)) (begins : BeginsAt (bases_of s) p o) (closed : Closed (bases_of s) p o T) (many : closed.count ≡ length notes)
      (own : (i : ℕ) (x : Sight Item) → slice_get notes i ≡ Some x → (closed.seen x.number ≡ x.seen) × (x.number < length notes))
      (ends : RoundEnds means whole s p o v notes hs z u ss givens) where
    here : (k : ℕ) (P : History → Type 0) → Saw notes k P → (k < closed.count) × P (closed.seen k)
    here k P saw = saw_so (bases_of s) p o T begins closed notes many own k P saw

    region_here : (r : ℕ) (g : RegionState) → slice_get hs r ≡ Some g → (region_note r < closed.count) × RegionTold o r g (closed.seen (region_note r))
    region_here r g at = here (region_note r) (RegionTold o r g) (ends.regions r g at)

    values : ValuesTold (bases_of s) p o T closed hs z
    values = record {
      enough = λ r below. let g = get_within hs r (omega (arith, below, ends.all)) in (region_here r g.0 g.1).0;
      both = (here vault_note (VaultEnds means s p o v u) ends.vault).0;
      whole = ends.all;
      system = (here system_note (SystemTold o z) ends.system).1;
      regions = λ r g at. (region_here r g at).1;
    }

    saw_client : (i : ℕ) (x : Standing) → slice_get ss i ≡ Some x → (given : List ℕ) × (slice_get givens i ≡ Some given) × Saw notes (client_note (count_of o) x.client) (ClientEnds whole o x given)
    saw_client i x at =
        let given = get_within givens i (let low = slice_get_within ss i x at in omega (arith, low, ends.each)) in
        (given.0, given.1, ends.clients i x given.0 at given.1)

    clients : ClientsTold (bases_of s) p o T closed ss
    clients = record {
      numbered = λ i x at. let saw = saw_client i x at in (here (client_note (count_of o) x.client) (ClientEnds whole o x saw.0) saw.2).0;
      each = λ i x at. let saw = saw_client i x at in (here (client_note (count_of o) x.client) (ClientEnds whole o x saw.0) saw.2).1.stands;
      others = λ d low none. (here (client_note (count_of o) d) (λ S. done_by d (plain S) ≡ []) (ends.others d (subst (λ n. client_note (count_of o) d < n) many low) none)).1;
    }

    all_ended : (i : ℕ) (x : Standing) → slice_get ss i ≡ Some x → HasEnded whole (world_told o T) x
    all_ended i x at = let saw = saw_client i x at in (client_ends (bases_of s) p o T begins closed notes many own whole x saw.0 saw.2).0

    handed : AreHanded whole (receipts_of (world_told o T) (map told_of ss)) givens
    handed = all_handed whole (world_told o T) ss givens ends.each
        (λ i x given at there. (client_ends (bases_of s) p o T begins closed notes many own whole x given (ends.clients i x given at there)).1)

    vault_here : VaultEnds means s p o v u (closed.seen vault_note)
    vault_here = (here vault_note (VaultEnds means s p o v u) ends.vault).1

    out : HandedOut means s vault_here.batches p o T hs z u
    out = hands_out means s vault_here.batches p o T closed hs z u ss values clients begins vault_here.held vault_here.flushed

    round_there : (to : Point) → Stands (bases_of s) p o T to → IsRoundWith givens whole o ss to
    round_there to at = by_end whole refl
      where
        tells : AllStand (world_told o T) ss
        tells = stand (bases_of s) p o T closed hs z ss values clients begins to at

        by_end : (b : Bool) → whole ≡ b → IsRoundWith givens whole o ss to
        by_end true e =
            let done : AllDone ss = λ i x there. subst (λ b. HasEnded b (world_told o T) x) e (all_ended i x there) in
            subst (λ b. IsRoundWith givens b o ss to) (sym e)
            (promise (bases_of s) p o T closed hs z ss values clients begins to at true givens (round_is_done (world_told o T) ss tells done)
            (subst (λ b. AreHanded b (receipts_of (world_told o T) (map told_of ss)) givens) e handed) (λ f. done))
        by_end false e =
            let cut : AllCut (world_told o T) ss = λ i x there. subst (λ b. HasEnded b (world_told o T) x) e (all_ended i x there) in
            subst (λ b. IsRoundWith givens b o ss to) (sym e)
            (promise (bases_of s) p o T closed hs z ss values clients begins to at false givens (round_is_cut (world_told o T) ss tells cut)
            (subst (λ b. AreHanded b (receipts_of (world_told o T) (map told_of ss)) givens) e handed) (λ f. absurd (cc)))

  pub round_is_led : RoundIsLed means
  round_is_led precheck whole gs y v H notes hs z u ss givens finished may ends s B p begins =
      let o : Outset = outset_of precheck s p in
      let all : AllFollow (bases_of s) p o H = λ i e at. may i e at s B p begins in
      let at = outset_begins precheck gs y v s B p begins in
      let closed = notes_finish (bases_of s) p o H notes finished all in
      let ended = ends s B p begins in
      let vault = vault_here whole s p o v H notes hs z u ss givens at closed.0 closed.1 closed.2 ended in
      let there = out whole s p o v H notes hs z u ss givens at closed.0 closed.1 closed.2 ended in
      let low = (values whole s p o v H notes hs z u ss givens at closed.0 closed.1 closed.2 ended).both in
      record {
        to = there.to;
        batches = vault.batches;
        steps = steps_told H;
        course = there.is.comes.course;
        stands = there.stands;
        files = there.files;
        keeps = there.keeps;
        round = round_there whole s p o v H notes hs z u ss givens at closed.0 closed.1 closed.2 ended there.to there.is;
        right = history_leaves_right means s vault.batches p o H hs z v u there
            (moments_meet means s p o vault_note (closed.0.seen vault_note) H v u at (closed.0.is vault_note low) vault.moments);
      }
