-- An audit or a checkpoint outside of a round names just the regions whose stray writes don't cancel.
use Rattle.std.proofs.Common.{◌≡◌, ◌≢◌, ◌<◌, ℕ, zero, suc, Bool, true, false, List, [], ◌∷◌, ◌++◌, Option, Some, None, length, map, take, refl, sym, ◌∙◌, ap, subst, inl, inr, ⊎_elim, arith}
use Rattle.std.specs.Prelude.{◌⊎◌, ◌↔◌, ◌==◌, ◌&&◌, Contains, IsSome, flat_map, fold, if◌then◌else◌, nat_lt, not, slice_get}
use Rattle.std.specs.List.{AllByRecursion, list_all, list_any}
use Rattle.std.proofs.lemmas.List.{append-nil}
use Rattle.std.proofs.lemmas.Bool.{eqb-true, ltb-true, and_parts, or_parts}
use Rattle.dali_transcripts.specs.Clients.Said.{Transcribed}
use Rattle.dali_fuse.specs.declared.fuse.Fuse.{Fuse}
use Rattle.dali_geometry.specs.Places.{regions}
use Rattle.dali_geometry.specs.Sizes.{Sizes}
use Rattle.dali_record.specs.declared.records.Record.{Record}
use Rattle.dali_record.specs.declared.records.Record.TheVariants.{AuditFail}
use Rattle.dali_record.specs.Damage.{has}
use Rattle.dali_record.specs.Legal.{Rules, kept_if, rules_next, rules_start}
use Rattle.dali_record.specs.Spelling.{ascends}
use Rattle.dali_region.specs.State.{RegionState}
use Rattle.dali_report.specs.Lines.{alone_text}
use Rattle.dali_round.specs.Leads.{lines_in}
use Rattle.dali_store.specs.declared.store.Store.{Ghosts}
use Rattle.dali_history.proofs.Prefixes.{rules_front}
use Rattle.dali_runs.specs.Run.{LogRun}
use Rattle.dali_runs.specs.State.{CoreState}
use Rattle.dali_runs.specs.Steps.{audit_record}
use Rattle.dali_transcripts.proofs.Owned.{own_ascend}
use Rattle.dali_transcripts.specs.Laws.{IsIn}
use Rattle.dali_transcripts.specs.Moves.{Receipt, Place, Outside, Spot, Move, Begins, BeginsAgain, IsRefusedBegin, Ends, StaysOpen, Pokes, PokesNothing, Audits as AuditsOnce, IsRefusedAudit, Checkpoints, FailsCheckpoint, IsRefusedCheckpoint, from, said, own, to, start, audit_own, failure_own, spanned}
use Rattle.dali_transcripts.specs.Rounds.{HoldsTogether}
use Rattle.dali_transcripts.specs.Transcripts.{EachTells, IsPath, IsTranscript, count_with, deeds_of, is_among, own_by, owned, said_by}
use Rattle.dali_transcripts.specs.Words.{Act, Audits, Checkpoints as CheckpointAct, Said, AuditSaid, CheckpointSaid, CheckpointFailed, Refused}
use Rattle.dali_transcripts.specs.World.{Deed, EndsCheckpoint, Happening, Logs, MovesAnchor, Strays, World, log_of, stray_after}
use Rattle.dali_core.specs.declared.whole.Core.{Core}
use Rattle.dali_run.specs.Masks.{list_in}
use Rattle.dali_run.specs.Steps.{ActsAlone}
use Rattle.dali_run.specs.Strays.{LoneAuditTells}
use Rattle.dali_run.specs.Texts.{alone_texts}
use Rattle.dali_run.specs.Told.{alone}
use Rattle.dali_run.proofs.Standing.{IsStanding, standing_of}

-- ---- the one step of the client
abbrev pub is_lone : Act → Bool
is_lone Audits = true
is_lone CheckpointAct = true
is_lone act = false

abbrev IsCalm : Place → Type 0
IsCalm (Outside stopped) = Unit {0}
IsCalm place = ⊥

abbrev is_stray : Receipt → Bool
is_stray (n, Strays region word mask) = true
is_stray x = false

abbrev HasRecord : Record → List Receipt → Type 0
HasRecord x [] = ⊥
HasRecord x (y ∷ ys) = (y.1 ≡ Logs x) ⊎ HasRecord x ys

-- it says one line; has it a list, then an audit that found these regions is among its deeds, and no stray write is
pub record TellsOnce (lines : List Said) (did : List Receipt) : Type 0 where
  pub line : Said
  pub lines_are : lines ≡ line ∷ []
  pub tells : (found : List ℕ) → list_in line ≡ Some found → (begin : ℕ) × HasRecord (audit_record begin found) did × (list_any is_stray did ≡ false)

no_stray : (begin number : ℕ) (found : List ℕ) (failed : Option ℕ) → list_any is_stray (audit_own begin number found ++ failure_own failed) ≡ false
no_stray begin number found None = refl
no_stray begin number found (Some n) = refl

no_stray_between : (since until begin number : ℕ) (found : List ℕ) (failed : Option ℕ)
    → list_any is_stray (spanned (Some (since, until)) (audit_own begin number found ++ failure_own failed)) ≡ false
no_stray_between since until begin number found None = refl
no_stray_between since until begin number found (Some n) = refl

has_record : (begin number : ℕ) (found list : List ℕ) (more : List Receipt) → found ≡ list → HasRecord (audit_record begin list) (audit_own begin number found ++ more)
has_record begin number found list more same = inr (inl (ap (λ (l : List ℕ). Logs (audit_record begin l)) same))

last_one : (act : Act) (rest : List Act) → length (act ∷ rest) ≡ 1 → rest ≡ []
last_one act [] one = refl
last_one act (next ∷ rest) one = absurd (cc one)

abbrev Lone : Move → Type 0
Lone x = TellsOnce (said x) (own x) × IsCalm (to x).place × ((to x).rest ≡ [])

silent : (line : Said) (did : List Receipt) → list_in line ≡ None → TellsOnce (line ∷ []) did
silent line did none = record {
  line = line;
  lines_are = refl;
  tells = λ found e. let clash : None ≡ Some found = sym none ∙ e in absurd (cc clash);
}

lone_move : (x : Move) → IsCalm (from x).place → list_all is_lone (from x).rest ≡ true → length (from x).rest ≡ 1 → Lone x
lone_move (Begins t n rest) calm only one = absurd (cc only)
lone_move (BeginsAgain t n tries h rest) calm only one = absurd calm
lone_move (IsRefusedBegin place s n why rest) calm only one = absurd (cc only)
lone_move (Pokes s n r w m rest) calm only one = absurd (cc only)
lone_move (PokesNothing s r w m rest) calm only one = absurd (cc only)
lone_move (AuditsOnce b n found failed rest) calm only one = (
  record {
    line = AuditSaid found;
    lines_are = refl;
    tells = λ list e. (b, has_record b n found list (failure_own failed) (cc e), no_stray b n found failed);
  },
  tt,
  last_one Audits rest one,
)
lone_move (IsRefusedAudit s work n why rest) calm only one = (silent (Refused Audits why) (own (IsRefusedAudit s work n why rest)) refl, tt, last_one Audits rest one)
lone_move (Checkpoints since b n m until current rest) calm only one = (
  record {
    line = CheckpointSaid current;
    lines_are = refl;
    tells = λ list e. (b, inr (has_record b n [] list ((m, MovesAnchor current) ∷ (until, EndsCheckpoint) ∷ []) (cc e)), refl);
  },
  tt,
  last_one CheckpointAct rest one,
)
lone_move (FailsCheckpoint since b n until r rs failed rest) calm only one = (
  record {
    line = CheckpointFailed (r ∷ rs);
    lines_are = refl;
    tells = λ list e. (b, inr (has_record b n (r ∷ rs) list (failure_own failed ++ (until, EndsCheckpoint) ∷ []) (cc e)), no_stray_between since until b n (r ∷ rs) failed);
  },
  tt,
  last_one CheckpointAct rest one,
)
lone_move (IsRefusedCheckpoint s span late work n why rest) calm only one =
    (silent (Refused CheckpointAct why) (own (IsRefusedCheckpoint s span late work n why rest)) refl, tt, last_one CheckpointAct rest one)
lone_move _ calm only one = absurd calm

no_more : (x : Move) → IsCalm (from x).place → (from x).rest ≡ [] → ⊥
no_more (Ends t tries cs d work n) calm none = absurd calm
no_more (StaysOpen t tries cs d s work n cause) calm none = absurd calm
no_more _ calm none = absurd (cc none)

tells_so : (lines lines' : List Said) (did did' : List Receipt) → lines ≡ lines' → did ≡ did' → TellsOnce lines did → TellsOnce lines' did'
tells_so lines lines' did did' e f once = subst (λ (l : List Said). TellsOnce l did') e (subst (λ (l : List Receipt). TellsOnce lines l) f once)

lone_path : (w : World) (c : ℕ) (p q : Spot) (xs : List Move) → IsPath w c p xs q → IsCalm p.place → list_all is_lone p.rest ≡ true → length p.rest ≡ 1 → q.rest ≡ []
    → TellsOnce (said_by xs) (own_by xs)
lone_path w c p q [] path calm only one none =
    let clash : 0 ≡ 1 = sym (ap (λ (l : List Act). length l) (ap (λ (s : Spot). s.rest) path ∙ none)) ∙ one in absurd (cc clash)
lone_path w c p q (x ∷ []) path calm only one none =
    let here =
    lone_move x (subst (λ (s : Spot). IsCalm s.place) path.0 calm) (subst (λ (s : Spot). list_all is_lone s.rest ≡ true) path.0 only)
    (subst (λ (s : Spot). length s.rest ≡ 1) path.0 one) in
    tells_so (said x) (said x ++ []) (own x) (own x ++ []) (sym (append-nil (said x))) (sym (append-nil (own x))) here.0
lone_path w c p q (x ∷ y ∷ ys) path calm only one none =
    let here =
    lone_move x (subst (λ (s : Spot). IsCalm s.place) path.0 calm) (subst (λ (s : Spot). list_all is_lone s.rest ≡ true) path.0 only)
    (subst (λ (s : Spot). length s.rest ≡ 1) path.0 one) in
    absurd (no_more y (subst (λ (s : Spot). IsCalm s.place) path.2.0 here.1) (ap (λ (s : Spot). s.rest) (sym path.2.0) ∙ here.2))

pub lone_transcript : (w : World) (act : Act) (lines : List Said) (did : List Receipt) → is_lone act ≡ true → IsTranscript w 1 (act ∷ []) lines did → TellsOnce lines did
lone_transcript w act lines did lone t =
    let so_far = t.so_far in
    let end : Spot = record { place = t.place; rest = [] } in
    tells_so (said_by so_far.moves) lines (own_by so_far.moves) did (sym so_far.lines_are) (sym (so_far.did_are ∙ append-nil (own_by so_far.moves)))
    (lone_path w 1 (start (act ∷ [])) end so_far.moves so_far.path tt (ap (λ (b : Bool). b && true) lone) refl refl)

-- ---- the deeds of a round of one client
abbrev IsLogged : Record → List Happening → Type 0
IsLogged x xs = (i : ℕ) × (slice_get xs i ≡ Some (Logs x, 1))

only_one : (d : ℕ) → (if 1 == d then true else false) ≡ true → 1 ≡ d
only_one d e = eqb-true 1 d (by_test (1 == d) e)
  where
    by_test : (b : Bool) → (if b then true else false) ≡ true → b ≡ true
    by_test true e = refl
    by_test false e = absurd (cc e)

abbrev are_ones : List Happening → Bool
are_ones xs = list_all (λ (x : Happening). is_among (alone Audits) x.1) xs

calm_step : (r s n c : ℕ) (x : Deed) → is_stray (n, x) ≡ false → stray_after r s ((x, c) ∷ []) ≡ s
calm_step r s n c (Strays region word mask) none = absurd (cc none)
calm_step r s n c x none = refl

stays : (r s n : ℕ) (xs : List Happening) → are_ones xs ≡ true → list_any is_stray (owned 1 n xs) ≡ false → (j : ℕ) → stray_after r s (take j xs) ≡ s
stays r s n [] all none zero = refl
stays r s n [] all none (suc j) = refl
stays r s n (x ∷ xs) all none zero = refl
stays r s n ((x, d) ∷ xs) all none (suc j) =
    let parts = and_parts (is_among (alone Audits) d) (are_ones xs) all in
    let here : list_any is_stray (owned 1 n ((x, 1) ∷ xs)) ≡ false = subst (λ (k : ℕ). list_any is_stray (owned 1 n ((x, k) ∷ xs)) ≡ false) (sym (only_one d parts.0)) none in
    let quiet = or_parts (is_stray (n, x)) (list_any is_stray (owned 1 (count_with n x) xs)) here in
    ap (λ (k : ℕ). stray_after r k (take j xs)) (calm_step r s n d x quiet.0) ∙ stays r s (count_with n x) xs parts.1 quiet.1 j

logged : (x : Record) (n : ℕ) (xs : List Happening) → are_ones xs ≡ true → HasRecord x (owned 1 n xs) → IsLogged x xs
logged x n [] all has = absurd has
logged x n ((y, d) ∷ xs) all has =
    let parts = and_parts (is_among (alone Audits) d) (are_ones xs) all in
    let same = only_one d parts.0 in
    let here : HasRecord x (owned 1 n ((y, 1) ∷ xs)) = subst (λ (k : ℕ). HasRecord x (owned 1 n ((y, k) ∷ xs))) (sym same) has in
    subst (λ (k : ℕ). IsLogged x ((y, k) ∷ xs)) same
    (⊎_elim
    (λ now. (0, ap (λ (z : Deed). Some (z, 1)) now))
    (λ later. let place = logged x (count_with n y) xs parts.1 later in (suc place.0, place.1))
    here)

-- the list of its audit has just the regions whose stray writes didn't cancel when the round began
pub names_strays : (w : World) → HoldsTogether w → are_ones w.happened ≡ true → (begin : ℕ) (found : List ℕ) → HasRecord (audit_record begin found) (deeds_of w 1)
    → list_any is_stray (deeds_of w 1) ≡ false → (r : ℕ) (g : RegionState) → slice_get w.old.regions r ≡ Some g → Contains found r ↔ (g.stray ≢ 0)
names_strays w together owners begin found has none r g old =
    let place = logged (audit_record begin found) (length w.before) w.happened owners has in
    let verdict = together.verdicts place.0 begin 1 found place.1 r g old in
    subst (λ (k : ℕ). Contains found r ↔ (k ≢ 0)) (stays r g.stray (length w.before) w.happened owners none verdict.0) verdict.3

-- ---- an audit's list
abbrev pub AreBelow : ℕ → List ℕ → Type 0
AreBelow count found = list_all (λ r. nat_lt r count) found ≡ true

-- it ascends, and names regions of the database
pub record IsList (count : ℕ) (found : List ℕ) : Type 0 where
  pub ascend : ascends found ≡ true
  pub below : AreBelow count found

kept_only : (first failed some all : Bool) (g : Rules) → IsSome (if first then None else if failed then None else kept_if (some && all) g) → all ≡ true
kept_only true failed some all g is = absurd (cc is)
kept_only false true some all g is = absurd (cc is)
kept_only false false true true g is = refl
kept_only false false true false g is = absurd (cc is)
kept_only false false false all g is = absurd (cc is)

rules_tell : (s : Sizes) (o : Option Rules) (b : ℕ) (rs : List ℕ) → IsSome (rules_next s o (AuditFail b rs)) → AreBelow (regions s) rs
rules_tell s None b rs is = absurd (cc is)
rules_tell s (Some g) b rs is = kept_only (g.count == 0) g.failed (has g.audits b && not (has g.closed b)) (list_all (λ r. nat_lt r (regions s)) rs) _ is

rules_at : (s : Sizes) (o : Option Rules) (L : List Record) (n b : ℕ) (rs : List ℕ) → IsSome (fold (rules_next s) o L) → slice_get L n ≡ Some (AuditFail b rs) → AreBelow (regions s) rs
rules_at s o [] n b rs is e = absurd (cc e)
rules_at s o (x ∷ L) zero b rs is e =
    let same : x ≡ AuditFail b rs = cc e in rules_tell s o b rs (subst (λ (y : Record). IsSome (rules_next s o y)) same (rules_front s (rules_next s o x) L is))
rules_at s o (x ∷ L) (suc n) b rs is e = rules_at s (rules_next s o x) L n b rs is e

list_at : (s : Sizes) (L : List Record) (n b : ℕ) (found : List ℕ) → LogRun s L → slice_get L n ≡ Some (audit_record b found) → IsList (regions s) found
list_at s L n b [] log e = record { ascend = refl; below = refl }
list_at s L n b (r ∷ rs) log e = record {
  ascend = (log.spelled n (AuditFail b (r ∷ rs)) e).1.2;
  below = rules_at s (Some rules_start) L n b (r ∷ rs) log.legal.rules e;
}

in_log : (L : List Record) (x : Record) (xs : List Receipt) → AllByRecursion (IsIn L) xs → HasRecord x xs → (n : ℕ) × (slice_get L n ≡ Some x)
in_log L x [] all has = absurd has
in_log L x ((n, y) ∷ xs) all has = ⊎_elim (λ here. (n, subst (λ (z : Deed). IsIn L (n, z)) here all.0)) (λ later. in_log L x xs all.1 later) has

pub below_at : (count : ℕ) (found : List ℕ) (r : ℕ) → AreBelow count found → Contains found r → r < count
below_at count [] r all (i, within, is) = absurd (omega (arith, within))
below_at count (x ∷ xs) r all (zero, within, is) =
    let same : x ≡ r = is in subst (λ (k : ℕ). k < count) same (ltb-true x count (and_parts (nat_lt x count) (list_all (λ q. nat_lt q count) xs) all).0)
below_at count (x ∷ xs) r all (suc i, within, is) = below_at count xs r (and_parts (nat_lt x count) (list_all (λ q. nat_lt q count) xs) all).1 (i, omega (arith, within), is)

-- ---- the text of a transcript
pub record SaysOnce (w : World) (ts : List Transcribed) : Type 0 where
  pub line : Said
  pub lines_are : map lines_in ts ≡ (line ∷ []) ∷ []
  pub printed : flat_map alone_texts ts ≡ alone_text line
  pub tells : (found : List ℕ) → list_in line ≡ Some found → (begin : ℕ) × HasRecord (audit_record begin found) (deeds_of w 1) × (list_any is_stray (deeds_of w 1) ≡ false)

says_once : (w : World) (act : Act) (ts : List Transcribed) → is_lone act ≡ true → EachTells true w (alone act) (map lines_in ts) → SaysOnce w ts
says_once w act [] lone tells = absurd tells
says_once w act (t ∷ u ∷ ts) lone tells = absurd tells.1
says_once w act (t ∷ []) lone tells =
    let once = lone_transcript w act (lines_in t) (deeds_of w 1) lone tells.0 in
    record {
      line = once.line;
      lines_are = ap (λ (l : List Said). l ∷ []) once.lines_are;
      printed = append-nil (alone_texts t) ∙ (ap (λ (l : List Said). flat_map alone_text l) once.lines_are ∙ append-nil (alone_text once.line));
      tells = once.tells;
    }

module _ {V : Type 0} (g : Ghosts V) (precheck : Bool) where
  pub record LoneNames (act : Act) (c : Core (Fuse V)) (text : List ℕ) (d : Core (Fuse V)) (acts : ActsAlone g precheck act c text d) : Type 0 where
    pub line : Said
    pub lines_are : map lines_in acts.transcripts ≡ (line ∷ []) ∷ []
    pub printed : text ≡ alone_text line
    pub list : (found : List ℕ) → list_in line ≡ Some found → IsList (length c.regions.items) found
    pub names : (found : List ℕ) → list_in line ≡ Some found → (r : ℕ) (x : RegionState) → slice_get c.regions.items r ≡ Some x → Contains found r ↔ (x.stray ≢ 0)

  pub lone_names : (act : Act) (c d : Core (Fuse V)) (text : List ℕ) → is_lone act ≡ true → IsStanding g c
      → (acts : ActsAlone g precheck act c text d) → LoneNames act c text d acts
  lone_names act c d text lone at acts =
      let led = acts.plays at.start at.batches at.point at.begins in
      let round = led.round in
      let w = round.world in
      let once = says_once round.world act acts.transcripts lone round.transcripts.each in
      let log : LogRun led.to.core.system.sizes (log_of w) =
      subst (λ (l : List Record). LogRun led.to.core.system.sizes l) round.log led.stands.at.vault.run.run.run.runs.log in
      let sizes : regions led.to.core.system.sizes ≡ length c.regions.items =
      ap (λ (k : CoreState). regions k.system.sizes) (sym round.core_is)
      ∙ (
      ap regions round.grew.sizes
      ∙ (sym at.begins.stands.whole.regions ∙ ap (λ (l : List RegionState). length l) at.begins.stands.at.regions)
      ) in
      let start_is = ap (λ (k : CoreState). k.regions) round.old_is ∙ at.begins.stands.at.regions in
      record {
        line = once.line;
        lines_are = once.lines_are;
        printed = acts.printed ∙ once.printed;
        list = λ found e.
            let tells = once.tells found e in
            let there = in_log (log_of w) (audit_record tells.0 found) (deeds_of w 1) (own_ascend w 1).logged tells.1 in
            subst (λ (n : ℕ). IsList n found) sizes (list_at led.to.core.system.sizes (log_of w) there.0 tells.0 found log there.1);
        names = λ found e r x region.
            let tells = once.tells found e in
            names_strays round.world round.together round.transcripts.owners tells.0 found tells.1 tells.2 r x (ap (λ (l : List RegionState). slice_get l r) start_is ∙ region);
      }

  pub lone_audit_tells : LoneAuditTells g precheck
  lone_audit_tells base c d text found at acts lines_are r x region =
      let once = lone_names Audits c d text refl (standing_of g base c at) acts in
      let same : once.line ≡ AuditSaid found = cc (sym once.lines_are ∙ lines_are) in
      once.names found (ap list_in same) r x region
