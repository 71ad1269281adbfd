-- Where a round begins.
use Rattle.std.proofs.Common.{◌≡◌, ℕ, zero, suc, ◌≤◌, Bool, true, false, List, [], ◌∷◌, length, map, Option, Some, None, is_some, refl, ap, sym, subst, ◌∙◌, arith}
use Rattle.std.specs.Prelude.{slice_get}
use Rattle.std.proofs.lemmas.List.{length-append}
use Rattle.dali_runs.proofs.CountsLemmas.Lists.{some_same}
use Rattle.dali_record.specs.declared.records.Record.{Record}
use Rattle.dali_region.specs.State.{RegionState}
use Rattle.dali_att.specs.declared.state.State.{State as TxnState}
use Rattle.dali_att.specs.declared.state.State.TheVariants.{Live, Committed}
use Rattle.dali_store.specs.Store.{Files as Disk}
use Rattle.dali_store.specs.declared.store.Store.{Ghosts}
use Rattle.dali_runs.specs.declared.causes.Cause.{Cause}
use Rattle.dali_runs.specs.State.{SystemState, row_of, state_of}
use Rattle.dali_crash.specs.Checkpoints.{Point}
use Rattle.dali_crash.specs.Traces.{Start, bases_of}
use Rattle.dali_core.specs.Vault.Vaulted.{Vaulted}
use Rattle.dali_transcripts.specs.World.{World, is_dead_in, is_claimed_in}
use Rattle.dali_transcripts.specs.Moves.{Outside as IsOutside, at, start}
use Rattle.dali_transcripts.specs.Rounds.{Standing, IsPlaced, AreBlocks, told_of as told_in}
use Rattle.dali_system.proofs.Guards.{some_row}
use Rattle.dali_transcripts.proofs.TellingLemmas.Courses.{round_tells}
use Rattle.dali_transcripts.specs.declared.clients.command.Block.{Block}
use Rattle.dali_transcripts.specs.declared.clients.command.Command.{Command}
use Rattle.dali_transcripts.specs.Clients.Said.{Transcribed}
use Rattle.dali_transcripts.specs.Clients.Told.{act_of, said_of, told_of}
use Rattle.dali_checkpoint.proofs.Walks.{map_length}
use Rattle.dali_turns.specs.declared.client.Client.{Client}
use Rattle.dali_turns.specs.declared.client.State.{State}
use Rattle.dali_turns.specs.Stood.{Stood}
use Rattle.dali_turns.specs.Fits.{rest_of, Fits}
use Rattle.dali_round.specs.Leads.{BeginsAt}
use Rattle.dali_round.specs.Played.{IsNew, AreNew, IsSeated, Played}
use Rattle.dali_transactions.specs.Beside.Went.{is_open}

abbrev pub standing_of : Block → Standing
standing_of b = record { client = b.client; acts = map act_of b.commands.items; lines = []; pending = []; spot = start (map act_of b.commands.items) }

told_same : (bs : List Block) → map told_in (map standing_of bs) ≡ map told_of bs
told_same [] = refl
told_same (b ∷ bs) = ap (λ l. told_of b ∷ l) (told_same bs)

pub get_back : {X Y : Type 0} (f : X → Y) (xs : List X) (i : ℕ) (y : Y) → slice_get (map f xs) i ≡ Some y → (x : X) × (slice_get xs i ≡ Some x) × (y ≡ f x)
get_back f [] i y e = absurd (cc)
get_back f (x ∷ xs) zero y e = (x, refl, sym (some_same e))
get_back f (x ∷ xs) (suc i) y e = get_back f xs i y e

pub get_told : (bs : List Block) (i : ℕ) (b : Block) → slice_get bs i ≡ Some b → slice_get (map told_of bs) i ≡ Some (told_of b)
get_told [] i b e = absurd (cc)
get_told (z ∷ bs) zero b e = ap (λ c. Some (told_of c)) (some_same e)
get_told (z ∷ bs) (suc i) b e = get_told bs i b e

module _ {V : Type 0} (means : Ghosts V)
    (precheck : Bool) (s : Start) (B : List (List Record)) (p : Point) (gs : List RegionState) (y : SystemState) (v : Vaulted V) (b : BeginsAt means s B p gs y v) where
  abbrev pub world : World
  world = record { old = p.core; before = p.log; precheck = precheck; happened = []; core = p.core }

  system_is : p.core.system ≡ y
  system_is = b.stands.at.system

  -- nobody works
  not_alive : (x : TxnState) → is_dead_in (Some x) ≡ false → y.stop ≡ None → (t : ℕ) → state_of y t ≡ Some x → ⊥
  not_alive x alive up t e =
      let there : state_of p.core.system t ≡ Some x = ap (λ (m : SystemState). state_of m t) system_is ∙ e in
      let dead = b.between.idle (ap (λ (m : SystemState). m.stop) system_is ∙ up) t (some_row (row_of p.core.system t) x there) in
      let no_way : true ≡ false = sym dead ∙ (ap is_dead_in there ∙ alive) in
      absurd (cc)

  not_open : y.stop ≡ None → (t : ℕ) → is_open (state_of y t) ≡ true → ⊥
  not_open up t is_so = by_state (state_of y t) refl is_so
    where
      by_state : (o : Option TxnState) → state_of y t ≡ o → is_open o ≡ true → ⊥
      by_state (Some Live) e f = not_alive Live refl up t e
      by_state (Some Committed) e f = not_alive Committed refl up t e
      by_state o e f = absurd (cc)

  some_stop : (o : Option Cause) (cause : Cause) → o ≡ Some cause → is_some o ≡ true
  some_stop o cause e = ap is_some e

  since : length s.log ≤ length p.log
  since = subst (λ (L : List Record). length s.log ≤ length L) (sym b.stands.at.vault.run.run.log) (omega (arith, length-append s.log p.core.system.since))

  pub stood : Stood means s B p world precheck gs y v
  stood = record {
    stands = b.stands;
    files = b.files;
    quiet = record { unclaimed = λ t. ap (λ (m : SystemState). is_claimed_in (state_of m t)) (sym system_is) ∙ b.between.rests.free t };
    stops = λ e. let why = b.between.rests.stopped (b.stands.at.vault.vault.stopped ∙ e) in some_stop y.stop why.0 (ap (λ (m : SystemState). m.stop) (sym system_is) ∙ why.1);
    tells = round_tells (bases_of s) s.log p precheck b.stands.at.vault.run b.between;
    precheck_is = refl;
    began = b.between;
    since = since;
    keeps = b.keeps;
  }

  new_seat : (c : Block) (k : Client) → IsPlaced false (map act_of c.commands.items) → IsNew c k → IsSeated means true s B p world gs y v (standing_of c) k
  new_seat c k placed new = record {
    is = record {
      client = sym (ap (λ (t : Transcribed). t.client) new.transcript);
      lines = sym (ap (λ (t : Transcribed). map said_of t.lines) new.transcript);
      stands = record { moves = []; path = refl; lines_are = refl; did_are = refl };
    };
    came = subst (λ (st : State). Fits means s B p world gs y v (standing_of c) (rest_of k) st) (sym new.state) (record {
      said = false;
      may = λ e. absurd (cc);
      spot = ap (λ (cs : List Command). at (IsOutside false) (map act_of cs)) (sym new.rest);
      none = refl;
      placed = subst (λ (cs : List Command). IsPlaced false (map act_of cs)) (sym new.rest) placed;
    });
    receipts = ap (λ (t : Transcribed). t.receipts) new.transcript;
  }

  pub start_played : (bs : List Block) (ks : List Client) → AreBlocks (map told_of bs) → AreNew bs ks → Played means true precheck s p (map told_of bs) ks gs y v
  start_played bs ks are new = record {
    are = are;
    log = b.stands.at.vault.run.run.log;
    to = p;
    batches = B;
    steps = [];
    course = refl;
    world = world;
    old_is = refl;
    before_is = refl;
    stood = stood;
    owners = refl;
    standings = map standing_of bs;
    blocks = told_same bs;
    count = new.count ∙ sym (map_length standing_of bs);
    seats = λ i a k at_a at_k.
        let c = get_back standing_of bs i a at_a in
        subst (λ z. IsSeated means true s B p world gs y v z k) (sym c.2) (new_seat c.0 k (are.placed i (told_of c.0) (get_told bs i c.0 c.1)) (new.each i c.0 k c.1 at_k));
    owned = λ e up t is_so. absurd (not_open up t is_so);
  }
