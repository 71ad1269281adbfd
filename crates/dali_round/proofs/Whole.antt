-- A whole round, from the core that was handed in.
use Rattle.std.proofs.Common.{◌≡◌, ℕ, Bool, false, List, [], ◌∷◌, length, map, Option, refl, ap, sym, subst, ◌∙◌, arith}
use Rattle.dali_record.specs.declared.records.Record.{Record}
use Rattle.dali_region.specs.State.{RegionState}
use Rattle.dali_store.specs.Store.{Files as Disk}
use Rattle.dali_store.specs.declared.store.Store.{Ghosts}
use Rattle.dali_runs.specs.State.{SystemState}
use Rattle.dali_crash.specs.Checkpoints.{Point}
use Rattle.dali_crash.specs.Traces.{Start}
use Rattle.dali_core.specs.Vault.Vaulted.{Vaulted}
use Rattle.dali_transcripts.specs.World.{World}
use Rattle.dali_transcripts.specs.Moves.{start}
use Rattle.dali_transcripts.specs.Transcripts.{Told, EachTells, deeds_of, receipts_of, AreHanded}
use Rattle.dali_transcripts.specs.Rounds.{AreBlocks}
use Rattle.dali_transcripts.specs.declared.clients.command.Block.{Block}
use Rattle.dali_transcripts.specs.Clients.Said.{Transcribed}
use Rattle.dali_transcripts.specs.Clients.Told.{told_of}
use Rattle.dali_turns.specs.declared.client.Client.{Client}
use Rattle.dali_turns.specs.Fits.{lines_of}
use Rattle.dali_turns.proofs.Commands.{none_under_way}
use Rattle.dali_round.specs.Leads.{lines_in, BeginsAt, RoundLeads}
use Rattle.dali_round.specs.Played.{AreNew}
use Rattle.dali_round.specs.Ends.{EndGoes, named}
use Rattle.dali_round.proofs.Starts.{world, stood, start_played}

-- ---- under the numbers of the blocks
lines_same : (bs : List Block) (ks : List Client) → length ks ≡ length bs → map lines_in (named bs ks) ≡ map lines_of ks
lines_same [] [] e = refl
lines_same [] (k ∷ ks) e = absurd (omega (arith, e))
lines_same (b ∷ bs) [] e = absurd (omega (arith, e))
lines_same (b ∷ bs) (k ∷ ks) e = ap (λ l. lines_of k ∷ l) (lines_same bs ks (omega (arith, e)))

receipts_same : (bs : List Block) (ks : List Client) → length ks ≡ length bs → map (λ (t : Transcribed). t.receipts) (named bs ks) ≡ map (λ (k : Client). k.transcript.receipts) ks
receipts_same [] [] e = refl
receipts_same [] (k ∷ ks) e = absurd (omega (arith, e))
receipts_same (b ∷ bs) [] e = absurd (omega (arith, e))
receipts_same (b ∷ bs) (k ∷ ks) e = ap (λ l. k.transcript.receipts ∷ l) (receipts_same bs ks (omega (arith, e)))

pub many_named : (bs : List Block) (ks : List Client) → length ks ≡ length bs → length (named bs ks) ≡ length bs
many_named [] [] e = refl
many_named [] (k ∷ ks) e = absurd (omega (arith, e))
many_named (b ∷ bs) [] e = absurd (omega (arith, e))
many_named (b ∷ bs) (k ∷ ks) e = let more = many_named bs ks (omega (arith, e)) in omega (arith, more)

pub numbers_same : (bs : List Block) (ks : List Client) → length ks ≡ length bs → map (λ (t : Transcribed). t.client) (named bs ks) ≡ map (λ (b : Block). b.client) bs
numbers_same [] [] e = refl
numbers_same [] (k ∷ ks) e = absurd (omega (arith, e))
numbers_same (b ∷ bs) [] e = absurd (omega (arith, e))
numbers_same (b ∷ bs) (k ∷ ks) e = ap (λ l. b.client ∷ l) (numbers_same bs ks (omega (arith, e)))

-- a round of which nothing was done or said
none_tell : (w : World) (bs : List Told) → w.happened ≡ [] → EachTells false w bs []
none_tell w [] e = tt
none_tell w (b ∷ bs) e = (
  record {
    spot = start b.acts;
    pending = [];
    told = [];
    part = [];
    lines_are = refl;
    so_far = record { moves = []; path = refl; lines_are = refl; did_are = none };
    under_way = none_under_way w b.client (start b.acts) [] tt refl;
  },
  none_tell w bs e,
)
  where
    none : deeds_of w b.client ≡ []
    none = rw e refl

module _ {V : Type 0} (means : Ghosts V) (precheck : Bool) where
  pub none_leads : (s : Start) (B : List (List Record)) (p : Point) (gs : List RegionState) (y : SystemState) (v : Vaulted V) (bs : List Told) → BeginsAt means s B p gs y v → RoundLeads means precheck false s p bs [] [] gs y v
  none_leads s B p gs y v bs b =
      let now = stood means precheck s B p gs y v b in
      record {
        to = p;
        batches = B;
        steps = [];
        course = refl;
        stands = b.stands;
        files = b.files;
        keeps = b.keeps;
        round = record {
          world = world means precheck s B p gs y v b;
          old_is = refl;
          before_is = b.stands.at.vault.run.run.log;
          precheck_is = refl;
          core_is = refl;
          grew = now.tells.grew;
          log = sym b.stands.at.vault.run.run.log ∙ now.tells.log;
          transcripts = record { owners = refl; each = none_tell (world means precheck s B p gs y v b) bs refl };
          receipts_are = handed bs;
          right = now.tells.right;
          together = now.tells.together;
          rests = b.between.rests;
          between = λ e. absurd (cc);
        };
      }
    where
      handed : (bs : List Told) → AreHanded false (receipts_of (world means precheck s B p gs y v b) bs) []
      handed [] = tt
      handed (c ∷ bs) = tt

  module _ (gs hs : List RegionState) (y z : SystemState) (v u : Vaulted V) (whole : Bool) (bs : List Block) (ks js : List Client) (ts : List Transcribed) (are : AreBlocks (map told_of bs)) (new : AreNew bs ks)
      (goes : EndGoes means precheck ks gs y v whole js hs z u) (size : length js ≡ length bs) (is : ts ≡ named bs js) where
    pub round_leads : (s : Start) (B : List (List Record)) (p : Point) → BeginsAt means s B p gs y v → RoundLeads means precheck whole s p (map told_of bs) (map lines_in ts) (map (λ (t : Transcribed). t.receipts) ts) hs z u
    round_leads s B p b =
        subst (λ (l : List Transcribed). RoundLeads means precheck whole s p (map told_of bs) (map lines_in l) (map (λ (t : Transcribed). t.receipts) l) hs z u) (sym is)
        (subst (λ l. RoundLeads means precheck whole s p (map told_of bs) l (map (λ (t : Transcribed). t.receipts) (named bs js)) hs z u) (sym (lines_same bs js size))
        (subst (λ l. RoundLeads means precheck whole s p (map told_of bs) (map lines_of js) l hs z u) (sym (receipts_same bs js size))
        (goes s p (map told_of bs) (start_played means precheck s B p gs y v b bs ks are new))))
