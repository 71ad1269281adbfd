-- A stray write of a client.
use Rattle.std.proofs.Common.{◌≡◌, ◌≢◌, ℕ, zero, suc, ◌+◌, ◌<◌, ◌≤◌, ◌^◌, Bool, true, false, List, [], ◌∷◌, ◌++◌, length, Option, Some, None, IfSome, refl, ap, sym, subst, ◌∙◌, ◌⊎◌, inl, inr, arith}
use Rattle.std.specs.Prelude.{slice_get, slice_set}
use Rattle.std.proofs.lemmas.Option.{slice_get_within}
use Rattle.dali_runs.proofs.CountsLemmas.Lists.{set_cases}
use Rattle.dali_geometry.specs.Places.{regions}
use Rattle.dali_record.specs.declared.records.Record.{Record}
use Rattle.dali_region.specs.declared.Hold.{Hold}
use Rattle.dali_region.specs.declared.Side.{Side}
use Rattle.dali_region.specs.declared.Side.TheVariants.{A as SideA, B as SideB}
use Rattle.dali_region.specs.State.{RegionState, poked}
use Rattle.dali_region.specs.Answers.{is_dirty}
use Rattle.dali_store.specs.Store.{Files as Disk}
use Rattle.dali_store.specs.declared.store.Store.{Ghosts}
use Rattle.dali_runs.specs.State.{SystemState}
use Rattle.dali_runs.specs.Keeps.{with_region}
use Rattle.dali_runs.specs.Regions.{Poke as PokeStep}
use Rattle.dali_runs.specs.Courses.{OnRegion}
use Rattle.dali_crash.specs.Checkpoints.{Does, Point, IsPointStep, copies_after}
use Rattle.dali_crash.specs.Traces.{Start}
use Rattle.dali_core.specs.Vault.Vaulted.{Vaulted}
use Rattle.dali_clean.specs.Cleaned.{AreDead}
use Rattle.dali_core.specs.Cores.{HoldsPlaces}
use Rattle.dali_crash.specs.Disks.Disks.{image_file}
use Rattle.dali_crash.specs.Disks.Places.{place_of}
use Rattle.dali_transcripts.specs.declared.clients.command.Command.TheVariants.{Poke}
use Rattle.dali_transcripts.specs.declared.clients.line.Line.TheVariants.{PokeOk, PokeOutOfRange}
use Rattle.dali_transcripts.specs.Words.{Pokes as PokeAct}
use Rattle.dali_transcripts.specs.World.{Strays, World, log_of}
use Rattle.dali_transcripts.specs.Moves.{Receipt, Outside as IsOutside, Pokes, PokesNothing, at}
use Rattle.dali_transcripts.specs.Rounds.{Standing, IsPlaced}
use Rattle.dali_transcripts.specs.Telling.Tells.{after}
use Rattle.dali_turns.specs.declared.client.Client.{Client}
use Rattle.dali_turns.specs.declared.client.State.{State}
use Rattle.dali_turns.specs.declared.client.State.TheVariants.{Outside}
use Rattle.dali_turns.specs.Clients.{next_of, Passes, Finishes}
use Rattle.dali_turns.specs.Stood.{Stood}
use Rattle.dali_turns.specs.Outside.{FitsOutside}
use Rattle.dali_turns.specs.Fits.{rest_of, IsOf, Fits}
use Rattle.dali_turns.specs.Goes.{RowsTell, Went, StepGoes}
use Rattle.dali_turns.proofs.Here.{MayStep}
use Rattle.dali_turns.proofs.Commands.{next_act, behind_next, finished_rest, finished_lines, finished_client, IsDue, due_at, none_under_way}
use Rattle.dali_turns.proofs.Doing.{ended, Did, did_nothing, did_quietly, went_on, went_by}

-- ---- what the write leaves of the regions
same_flag : (word mask : ℕ) (g : RegionState) (side : Side) → is_dirty (poked word mask g) side ≡ is_dirty g side
same_flag word mask g SideA = refl
same_flag word mask g SideB = refl

module _ (gs : List RegionState) (r word mask : ℕ) (g : RegionState) (there : slice_get gs r ≡ Some g) where
  still_dead : AreDead gs → AreDead (slice_set gs r (poked word mask g))
  still_dead dead i h e = by_place (set_cases gs r (poked word mask g) i h e)
    where
      by_place : ((i ≡ r) × (h ≡ poked word mask g)) ⊎ ((r ≢ i) × (slice_get gs i ≡ Some h)) → IfSome h.hold (λ (o : Hold). o.dead ≡ true)
      by_place (inl here) = subst (λ (z : RegionState). IfSome z.hold (λ (o : Hold). o.dead ≡ true)) (sym here.1) (dead r g there)
      by_place (inr other) = dead i h other.1

  still_places : (fs : Disk) → HoldsPlaces gs fs → HoldsPlaces (slice_set gs r (poked word mask g)) fs
  still_places fs held side i h e clear = by_place (set_cases gs r (poked word mask g) i h e)
    where
      by_place : ((i ≡ r) × (h ≡ poked word mask g)) ⊎ ((r ≢ i) × (slice_get gs i ≡ Some h)) → place_of (i + 1) ≤ length (image_file side fs)
      by_place (inl here) =
          subst (λ (n : ℕ). place_of (n + 1) ≤ length (image_file side fs)) (sym here.0)
          (held side r g there (sym (same_flag word mask g side) ∙ (ap (λ (z : RegionState). is_dirty z side) (sym here.1) ∙ clear)))
      by_place (inr other) = held side i h other.1 clear

module _ {V : Type 0} (means : Ghosts V) where
  -- nothing was done, since memory for a line was refused
  pub went_nowhere : (precheck : Bool) (state : State) (s : Start) (B : List (List Record)) (p : Point) (w : World) (a : Standing) (gs : List RegionState) (y : SystemState) (v : Vaulted V) (k j : Client)
      → Stood means s B p w precheck gs y v → IsOf w a k → IsDue a.spot.place → a.pending ≡ [] → j.transcript ≡ k.transcript → Went means precheck s B p w a state gs y v false j gs y v
  went_nowhere precheck state s B p w a gs y v k j stood is due none same =
      let did : Did means precheck s B p w a.client state gs y v [] B p gs y v = did_nothing means precheck s B p w gs y v stood a.client state in
      went_on means precheck s B B p p w a state gs gs y y v v [] k j is did false same (none_under_way (after w a.client [] p.core) a.client a.spot (a.pending ++ []) due (ap (λ (xs : List Receipt). xs ++ []) none)) (λ e. absurd (cc))

  module _ (precheck : Bool) (s : Start) (B : List (List Record)) (p : Point) (w : World) (a : Standing) (gs : List RegionState) (y : SystemState) (v : Vaulted V) (k j : Client) (r word mask : ℕ)
      (stood : Stood means s B p w precheck gs y v) (is : IsOf w a k) (fits : FitsOutside y a (rest_of k)) (next : next_of k ≡ Some (Poke r word mask)) where
    acts : rest_of k ≡ PokeAct r word mask ∷ behind_next k
    acts = next_act k (Poke r word mask) next

    placed : (word < 64) × (1 ≤ mask) × (mask < 2 ^ 64) × IsPlaced false (behind_next k)
    placed = subst (IsPlaced false) acts fits.placed

    pub may_poke : (word < 64) × (mask ≢ 0)
    may_poke = (placed.0, λ e. absurd (omega (arith, e, placed.1)))

    starts : a.spot ≡ at (IsOutside fits.said) (PokeAct r word mask ∷ behind_next k)
    starts = fits.spot ∙ ap (at (IsOutside fits.said)) acts

    count : length gs ≡ regions y.sizes
    count = ap length (sym stood.stands.at.regions) ∙ (stood.stands.whole.regions ∙ ap (λ (m : SystemState). regions m.sizes) stood.stands.at.system)

    outside : (j.state ≡ Outside) → RowsTell Outside y j.state y
    outside e = subst (λ (st : State). RowsTell Outside y st y) (sym e) (λ up t lives. inr (lives, λ e. e))

    -- the region is there
    module _ (g : RegionState) (there : slice_get gs r ≡ Some g) (f : Finishes k Outside PokeOk j) where
      abbrev here : slice_get p.core.regions r ≡ Some g
      here = ap (λ (rs : List RegionState). slice_get rs r) stood.stands.at.regions ∙ there

      abbrev q : Point
      q = record p { core = with_region p.core r (poked word mask g); copies = copies_after p.core (OnRegion r (PokeStep word mask)) p.copies }

      step : IsPointStep p (Does (OnRegion r (PokeStep word mask))) q
      step = (refl, ((g, here, ((placed.0, may_poke.1, placed.2), tt), (refl, refl)), refl), refl)

      did : Did means precheck s B p w a.client Outside gs y v (Strays r word mask ∷ []) B q (slice_set gs r (poked word mask g)) y v
      did = did_quietly means precheck s B p w gs y v stood a.client Outside q (OnRegion r (PokeStep word mask)) (Strays r word mask ∷ []) y (slice_set gs r (poked word mask g)) refl step refl (tt, tt)
          stood.stands.at.system (ap (λ (rs : List RegionState). slice_set rs r (poked word mask g)) stood.stands.at.regions) refl (still_dead gs r word mask g there stood.stands.dead) (still_places gs r word mask g there)
          stood.quiet (λ e. e) (λ t lives other. refl) (λ b other. refl)

      pub poke_went : Went means precheck s B p w a Outside gs y v true j (slice_set gs r (poked word mask g)) y v
      poke_went = went_by means precheck s B B p q w a Outside gs (slice_set gs r (poked word mask g)) y y v v (Strays r word mask ∷ []) k j is did
          (Pokes fits.said (length (log_of w)) r word mask (behind_next k)) starts (ap (λ (xs : List Receipt). xs ++ (length (log_of w), Strays r word mask) ∷ []) fits.none)
          (subst (λ (m : SystemState). r < regions m.sizes) (sym stood.stands.at.system) (omega (arith, count, slice_get_within gs r g there)))
          (finished_client k j Outside PokeOk f) (finished_lines k j Outside PokeOk f)
          (subst (λ (st : State). Fits means s B q (after w a.client (Strays r word mask ∷ []) q.core) (slice_set gs r (poked word mask g)) y v (ended a (Pokes fits.said (length (log_of w)) r word mask (behind_next k))) (rest_of j) st) (sym f.stands)
          (record {
            said = fits.said;
            may = fits.may;
            spot = ap (at (IsOutside fits.said)) (sym (finished_rest k j Outside PokeOk f));
            none = refl;
            placed = subst (IsPlaced false) (sym (finished_rest k j Outside PokeOk f)) placed.3;
          }))
          (outside f.stands)

    -- there is no such region
    pub poke_none_went : slice_get gs r ≡ None → Finishes k Outside PokeOutOfRange j → Went means precheck s B p w a Outside gs y v true j gs y v
    poke_none_went past f =
        let did : Did means precheck s B p w a.client Outside gs y v [] B p gs y v = did_nothing means precheck s B p w gs y v stood a.client Outside in
        went_by means precheck s B B p p w a Outside gs gs y y v v [] k j is did
        (PokesNothing fits.said r word mask (behind_next k)) starts (ap (λ (xs : List Receipt). xs ++ []) fits.none)
        (subst (λ (m : SystemState). regions m.sizes ≤ r) (sym stood.stands.at.system) (omega (arith, count, none_within gs r past)))
        (finished_client k j Outside PokeOutOfRange f) (finished_lines k j Outside PokeOutOfRange f)
        (subst (λ (st : State). Fits means s B p (after w a.client [] p.core) gs y v (ended a (PokesNothing fits.said r word mask (behind_next k))) (rest_of j) st) (sym f.stands)
        (record {
          said = fits.said;
          may = fits.may;
          spot = ap (at (IsOutside fits.said)) (sym (finished_rest k j Outside PokeOutOfRange f));
          none = refl;
          placed = subst (IsPlaced false) (sym (finished_rest k j Outside PokeOutOfRange f)) placed.3;
        }))
        (outside f.stands)
      where
        none_within : (xs : List RegionState) (i : ℕ) → slice_get xs i ≡ None → length xs ≤ i
        none_within [] i e = omega arith
        none_within (z ∷ xs) zero e = absurd (cc)
        none_within (z ∷ xs) (suc i) e = omega (arith, none_within xs i e)

  -- ---- for the call
  pub pokes_goes : (precheck : Bool) (gs : List RegionState) (y : SystemState) (v : Vaulted V) (k j : Client) (r word mask : ℕ) (g : RegionState) → next_of k ≡ Some (Poke r word mask) → slice_get gs r ≡ Some g → Finishes k Outside PokeOk j
      → StepGoes means precheck Outside k gs y v true j (slice_set gs r (poked word mask g)) y v
  pokes_goes precheck gs y v k j r word mask g next there f s B p w a stood is fits = poke_went precheck s B p w a gs y v k j r word mask stood is fits next g there f

  pub pokes_none_goes : (precheck : Bool) (gs : List RegionState) (y : SystemState) (v : Vaulted V) (k j : Client) (r word mask : ℕ) → next_of k ≡ Some (Poke r word mask) → slice_get gs r ≡ None → Finishes k Outside PokeOutOfRange j
      → StepGoes means precheck Outside k gs y v true j gs y v
  pokes_none_goes precheck gs y v k j r word mask next past f s B p w a stood is fits = poke_none_went precheck s B p w a gs y v k j r word mask stood is fits next past f

  pub nowhere_goes : (precheck : Bool) (gs : List RegionState) (y : SystemState) (v : Vaulted V) (k j : Client) → j.transcript ≡ k.transcript → StepGoes means precheck Outside k gs y v false j gs y v
  nowhere_goes precheck gs y v k j same s B p w a stood is fits = went_nowhere precheck Outside s B p w a gs y v k j stood is (due_at a.spot (IsOutside fits.said) (rest_of k) fits.spot tt) fits.none same

  pub silent_goes : (precheck : Bool) (gs hs : List RegionState) (y : SystemState) (v : Vaulted V) (k j : Client) (ok : Bool) → ok ≡ false → hs ≡ gs → Passes k Outside j → StepGoes means precheck Outside k gs y v ok j hs y v
  silent_goes precheck gs hs y v k j ok no_line same f =
      subst (λ (b : Bool). StepGoes means precheck Outside k gs y v b j hs y v) (sym no_line)
      (subst (λ (rs : List RegionState). StepGoes means precheck Outside k gs y v false j rs y v) (sym same) (nowhere_goes precheck gs y v k j f.transcript))

  pub pokes_region : (precheck : Bool) (gs : List RegionState) (y : SystemState) (v : Vaulted V) (k j : Client) (r word mask : ℕ) (g h : RegionState) → next_of k ≡ Some (Poke r word mask) → slice_get gs r ≡ Some g → h ≡ poked word mask g → Finishes k Outside PokeOk j
      → StepGoes means precheck Outside k gs y v true j (slice_set gs r h) y v
  pokes_region precheck gs y v k j r word mask g h next there is f =
      subst (λ (z : RegionState). StepGoes means precheck Outside k gs y v true j (slice_set gs r z) y v) (sym is) (pokes_goes precheck gs y v k j r word mask g next there f)

  pub pokes_may : (gs : List RegionState) (y : SystemState) (v : Vaulted V) (k : Client) (r word mask : ℕ) → MayStep means Outside k gs y v → next_of k ≡ Some (Poke r word mask) → (word < 64) × (mask ≢ 0)
  pokes_may gs y v k r word mask may next = may_poke may.precheck may.start may.batches may.point may.world may.standing gs y v k k r word mask may.stood may.is may.fits next
