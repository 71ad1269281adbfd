-- A closed round is what a round is to promise.
use Rattle.std.proofs.Common.{◌≡◌, ℕ, zero, suc, Bool, true, false, List, [], ◌∷◌, Option, Some, None, IsSome, refl, ap, sym, subst, ◌∙◌, ⊎_elim}
use Rattle.std.specs.Prelude.{slice_get, map, ◌==◌, ◌&&◌, ◌||◌, if◌then◌else◌, is_some}
use Rattle.std.specs.List.{list_all}
use Rattle.std.proofs.lemmas.List.{append-nil}
use Rattle.dali_lists.proofs.Numbers.{eqb-self}
use Rattle.dali_lists.proofs.Tests.{not_both_ways}
use Rattle.dali_region.specs.State.{RegionState}
use Rattle.dali_att.specs.declared.state.State.{State}
use Rattle.dali_att.specs.declared.state.State.TheVariants.{Live, Dead, Cleaning, Committed}
use Rattle.dali_runs.specs.declared.causes.Cause.{Cause}
use Rattle.dali_runs.specs.State.{TxnRow, SystemState, CoreState, state_in, row_of, state_of}
use Rattle.dali_runs.specs.Run.{Bases}
use Rattle.dali_crash.specs.Checkpoints.{Point}
use Rattle.dali_transcripts.specs.World.{Happening, World, is_dead_in, is_claimed_in}
use Rattle.dali_transcripts.specs.Moves.{Place, Outside, Within, Again, LeftOut, Gone}
use Rattle.dali_transcripts.specs.Transcripts.{IsOver, is_among, EachTells, AreHanded, receipts_of}
use Rattle.dali_transcripts.specs.Rounds.{Standing, AllStand, told_of, lines_in, IsAtRest}
use Rattle.dali_transcripts.proofs.Rounds.{round_is_done, round_is_cut}
use Rattle.dali_concurrent.specs.Entries.{Does, Did, deeds_of, done_in}
use Rattle.dali_concurrent.specs.Rules.{Outset}
use Rattle.dali_concurrent.specs.Told.{History, plain, core_told, world_told}
use Rattle.dali_concurrent.specs.Landing.{BeginsAt, Stands}
use Rattle.dali_concurrent.specs.Clients.{is_open_in, is_within}
use Rattle.dali_concurrent.specs.Closed.{Closed, ValuesTold, ClientsTold}
use Rattle.dali_concurrent.specs.Round.{AllDone, IsRoundWith, RoundIsDone, RoundIsCut}
use Rattle.dali_concurrent.proofs.Entries.{deed_there, other}
use Rattle.dali_concurrent.proofs.Closed.{client_is}
use Rattle.dali_concurrent.proofs.Rests.{of_these, others_idle, none_open, at_rest}

-- one of these is among them
among : (ss : List Standing) (i : ℕ) (s : Standing) (d : ℕ) → slice_get ss i ≡ Some s → s.client ≡ d → is_among (map told_of ss) d ≡ true
among [] i s d e same = absurd (cc)
among (u ∷ ss) zero s d e same = ap (λ b. if b then true else is_among (map told_of ss) d) (is e)
  where
    is : Some u ≡ Some s → (u.client == d) ≡ true
    is f = let whole : u ≡ s = cc in subst (λ n. (u.client == n) ≡ true) (ap (λ (z : Standing). z.client) whole ∙ same) (eqb-self u.client)
among (u ∷ ss) (suc i) s d e same = by_test (u.client == d) (among ss i s d e same)
  where
    by_test : (b : Bool) → is_among (map told_of ss) d ≡ true → (if b then true else is_among (map told_of ss) d) ≡ true
    by_test true later = refl
    by_test false later = later

all_pass : {X : Type 0} (p : X → Bool) (xs : List X) → ((i : ℕ) (x : X) → slice_get xs i ≡ Some x → p x ≡ true) → list_all p xs ≡ true
all_pass p [] h = refl
all_pass p (x ∷ xs) h = both (p x) (list_all p xs) (h zero x refl) (all_pass p xs (λ i y e. h (suc i) y e))
  where
    both : (a b : Bool) → a ≡ true → b ≡ true → (a && b) ≡ true
    both true b e f = f
    both false b e f = absurd (cc)

handed_all : (all : List (List ℕ)) → AreHanded false all all
handed_all [] = tt
handed_all (xs ∷ all) = (([], sym (append-nil xs)), handed_all all)

over_is_outside : (t : ℕ) (place : Place) → IsOver place → is_within t place ≡ false
over_is_outside t (Outside s) over = refl
over_is_outside t (Within u tries cs d s) over = absurd over
over_is_outside t (Again tries h s) over = refl
over_is_outside t (LeftOut s) over = refl
over_is_outside t (Gone u) over = refl

-- a row's state is one of three kinds
dead_else : (s : Option State) → is_some s ≡ true → is_open_in s ≡ false → is_claimed_in s ≡ false → is_dead_in s ≡ true
dead_else None a b d = absurd (cc)
dead_else (Some Live) a b d = absurd (cc)
dead_else (Some Committed) a b d = absurd (cc)
dead_else (Some (Cleaning latched)) a b d = absurd (cc)
dead_else (Some (Dead latched)) a b d = refl

has_state : (row : Option TxnRow) → IsSome row → is_some (state_in row) ≡ true
has_state None h = absurd (cc)
has_state (Some row) h = refl

shut_where_dead : (s : Option State) → is_dead_in s ≡ true → is_open_in s ≡ false
shut_where_dead None e = refl
shut_where_dead (Some (Dead latched)) e = refl
shut_where_dead (Some st) e = absurd (cc)

shut_where_none : (row : Option TxnRow) → (IsSome row → is_dead_in (state_in row) ≡ true) → is_open_in (state_in row) ≡ false
shut_where_none None h = refl
shut_where_none (Some row) h = shut_where_dead (state_in (Some row)) (h refl)

module _ (bases : Bases) (p : Point) (o : Outset) (T : History) (closed : Closed bases p o T) (gs : List RegionState) (y : SystemState) (ss : List Standing)
    (values : ValuesTold bases p o T closed gs y) (clients : ClientsTold bases p o T closed ss) (begins : BeginsAt bases p o) (to : Point) (at : Stands bases p o T to) where
  abbrev w : World
  w = world_told o T

  owned_by : (i : ℕ) (z : Happening) → slice_get (deeds_of (plain T)) i ≡ Some z → is_among (map told_of ss) z.1 ≡ true
  owned_by i z e = ⊎_elim (λ it. among ss it.0 it.1 z.1 it.2 it.3) none (of_these ss z.1)
    where
      none : ((i : ℕ) (s : Standing) → slice_get ss i ≡ Some s → (s.client == z.1) ≡ false) → is_among (map told_of ss) z.1 ≡ true
      none others =
          let entry = deed_there (plain T) i z e in
          let idle : done_in z.1 (entry.1, Did z.0 z.1) ≡ None = others_idle bases p o T closed ss clients begins z.1 others entry.0 (entry.1, Did z.0 z.1) entry.2 in
          absurd (not_both_ways (eqb-self z.1) (other z.1 z.1 (Does z.0) idle))

  owners : list_all (λ (x : Happening). is_among (map told_of ss) x.1) w.happened ≡ true
  owners = all_pass (λ (x : Happening). is_among (map told_of ss) x.1) (deeds_of (plain T)) owned_by

  pub stand : AllStand w ss
  stand i s there = (client_is bases p o T closed ss clients begins i s there).stands

  rests : IsAtRest to.core
  rests = at_rest bases p o T closed gs y ss values clients begins to at

  -- while the engine runs, each transaction is that of a client that died
  dead : AllDone ss → to.core.system.stop ≡ None → (t : ℕ) → IsSome (row_of to.core.system t) → is_dead_in (state_of to.core.system t) ≡ true
  dead all runs t row = dead_else (state_of to.core.system t) (has_state (row_of to.core.system t) row) shut (rests.free t)
    where
      ran : (stop : Option Cause) → ((cause : Cause) → stop ≡ Some cause → to.core.system.stop ≡ Some cause) → stop ≡ None
      ran None stays = refl
      ran (Some cause) stays = absurd (let f : None ≡ Some cause = sym runs ∙ stays cause refl in cc)

      stays : (cause : Cause) → o.old.system.stop ≡ Some cause → to.core.system.stop ≡ Some cause
      stays cause e = ap (λ (c : CoreState). c.system.stop) at.comes.core ∙ at.tells.grew.stopped cause e

      was : is_open_in (state_of o.old.system t) ≡ false
      was = shut_where_none (row_of o.old.system t)
          (subst (λ (c : CoreState). c.system.stop ≡ None → (u : ℕ) → IsSome (row_of c.system u) → is_dead_in (state_of c.system u) ≡ true) begins.core begins.between.idle (ran o.old.system.stop stays) t)

      now : (core_told o T).system.stop ≡ None
      now = ap (λ (c : CoreState). c.system.stop) (sym at.comes.core) ∙ runs

      out : (i : ℕ) (s : Standing) → slice_get ss i ≡ Some s → (is_within t s.spot.place || is_some (core_told o T).system.stop) ≡ false
      out i s there = ap (λ b. b || is_some (core_told o T).system.stop) (over_is_outside t s.spot.place (all i s there).0) ∙ ap is_some now

      shut : is_open_in (state_of to.core.system t) ≡ false
      shut = ap (λ (c : CoreState). is_open_in (state_of c.system t)) at.comes.core
          ∙ (ap is_open_in (at.tells.together.states t) ∙ none_open bases p o T closed ss clients begins t was out)

  -- whole: it ended with Done
  pub promise : (whole : Bool) (receipts : List (List ℕ)) → EachTells whole w (map told_of ss) (map lines_in ss) → AreHanded whole (receipts_of w (map told_of ss)) receipts
      → (whole ≡ true → AllDone ss) → IsRoundWith receipts whole o ss to
  promise whole receipts each handed all = record {
    world = w;
    old_is = refl;
    before_is = refl;
    precheck_is = refl;
    core_is = sym at.comes.core;
    grew = at.tells.grew;
    log = sym at.run.run.log ∙ at.tells.log;
    transcripts = record { owners = owners; each = each };
    receipts_are = handed;
    right = at.tells.right;
    together = at.tells.together;
    rests = rests;
    between = λ is. record { rests = rests; idle = dead (all is) };
  }

pub round_is_done_there : RoundIsDone
round_is_done_there bases p o T closed gs y ss values clients begins all to at =
    promise bases p o T closed gs y ss values clients begins to at true (receipts_of (world_told o T) (map told_of ss))
    (round_is_done (world_told o T) ss (stand bases p o T closed gs y ss values clients begins to at) all) refl (λ e. all)

pub round_is_cut_there : RoundIsCut
round_is_cut_there bases p o T closed gs y ss values clients begins all to at =
    promise bases p o T closed gs y ss values clients begins to at false (receipts_of (world_told o T) (map told_of ss))
    (round_is_cut (world_told o T) ss (stand bases p o T closed gs y ss values clients begins to at) all) (handed_all (receipts_of (world_told o T) (map told_of ss))) (λ e. absurd (cc))
