-- Along a run each region's stray writes are those that its lines tell, and a lone audit names just the regions that they change.
use Rattle.std.proofs.Common.{◌≡◌, ◌≢◌, ◌<◌, ◌≤◌, ℕ, Bool, true, false, List, [], ◌∷◌, ◌++◌, Option, Some, None, length, map, take, refl, sym, ◌∙◌, ap, subst, inl, inr, arith}
use Rattle.std.specs.Prelude.{◌⊎◌, ◌↔◌, ◌||◌, Contains, IfSome, IsTrue, bit_xor, filter_map, is_some, slice_get}
use Rattle.std.proofs.lemmas.List.{append-nil}
use Rattle.std.proofs.lemmas.Option.{slice_get_within}
use Rattle.dali_lists.proofs.Lists.{get_within, EachFrom}
use Rattle.dali_transcripts.specs.Clients.Said.{Transcribed}
use Rattle.dali_geometry.specs.Places.{regions}
use Rattle.dali_listing.specs.Listing.{in_memory}
use Rattle.dali_fuse.specs.declared.fuse.Fuse.{Fuse}
use Rattle.dali_record.specs.declared.records.Record.{Record}
use Rattle.dali_region.specs.State.{RegionState, loaded}
use Rattle.dali_report.specs.Lines.{texts}
use Rattle.dali_report.specs.declared.printed.Line.TheVariants as lines
use Rattle.dali_round.specs.Leads.{lines_in}
use Rattle.dali_script.specs.declared.commands.Command.{Command}
use Rattle.dali_script.specs.declared.commands.Command.TheVariants.{Size, Open, Round, Poke, Audit, Checkpoint, Cleanup, Crash, Restart, Show, Verify, Next, Fuse as SetFuse}
use Rattle.dali_script.specs.declared.names.Name.{Name}
use Rattle.dali_script.specs.declared.names.Name.TheVariants as names
use Rattle.dali_store.specs.Store.{Files as Disk}
use Rattle.dali_store.specs.declared.store.Store.{Ghosts}
use Rattle.dali_runs.specs.declared.causes.Cause.{Cause}
use Rattle.dali_runs.specs.State.{CoreState}
use Rattle.dali_transcripts.specs.Words.{Act, Pokes, Audits, Checkpoints, Said}
use Rattle.dali_transcripts.specs.World.{poked_after, stray_after}
use Rattle.dali_transcripts.specs.Transcripts.{Told as Blocks}
use Rattle.dali_transcripts.specs.Rounds.{AreBlocks, IsPlaced}
use Rattle.dali_verify.specs.Verified.{IsWholeLog, IsVerified}
use Rattle.dali_core.specs.declared.whole.Core.{Core}
use Rattle.dali_run.specs.declared.program.Program.{Program}
use Rattle.dali_run.specs.declared.program.Program.TheVariants.{Up, Down}
use Rattle.dali_run.specs.declared.halt.Halt.{Halt}
use Rattle.dali_run.specs.declared.halt.Halt.TheVariants as halts
use Rattle.dali_run.specs.declared.status.Status.{Status}
use Rattle.dali_run.specs.declared.status.Status.TheVariants.{Done, BadWords, BadScript, TooLong, ReadFault, WriteFault, StoreFault, BadStore, Unformatted, Formatted, StoreUnsteady, RecordTooLong, OutOfMemory, LogFull, TooSmall, NotLoaded}
use Rattle.dali_run.specs.Ends.{Course, EndedScript, HasStopped, Untouched}
use Rattle.dali_run.specs.Masks.{list_in, poke_in, answer_in, done_on, masks_of, xor_of, has_any, AreTold, NamesOf, IsNone, NamesTold, ShowsNone, NamesBy, TellsBy, VerifiesNone, masks_behind, AllNamed, AllTold, NamedThere, ToldThere, BeforeHalt, BeforeWant, OfRun, StraysAreNamed, PokesAreTold}
use Rattle.dali_run.specs.Program.{told_in}
use Rattle.dali_run.specs.Run.{HasRun, RunsAll}
use Rattle.dali_run.specs.Scripts.{Spells}
use Rattle.dali_run.specs.Steps.{ActsAlone, CleanupIn, EndsComparison, HasCleaned, Plays, ShowIn, Steps, StepsAlone, StepsShow, StepsVerify, VerifyIn, verdict}
use Rattle.dali_run.specs.Survives.{AllSurvive, AnyFiles, IsAPoint, IsOwn, IsPointOf, NoneEscapeThere, NoneEscapesBefore, NoneEscapesStopped, NoneEscapesWanting, SafeBehind}
use Rattle.dali_run.specs.Told.{AreFit, IsFit, alone, told_by}
use Rattle.dali_run.specs.Unpoked.{HasServed}
use Rattle.dali_run.proofs.Fit.{all_fit, only_one}
use Rattle.dali_run.proofs.Marks.{cleaned_stays, keep_same, none_loaded, SameMarks}
use Rattle.dali_run.proofs.Standing.{IsStanding, Stands, standing_of, stands_of, step_stands}
use Rattle.dali_run.proofs.Straying.{below_at, is_lone, lone_names}
use Rattle.dali_run.proofs.Sums.{any_both, poked_told, stray_told, xor_both}
use Rattle.dali_run.proofs.Surviving.{begins_down, cleaned_point, there, fit_front}
use Rattle.dali_run.proofs.Unpoked.{unpoked_shows, unpoked_verifies}
use Rattle.dali_run.proofs.Unstrayed.{done_none}

-- ---- regions
abbrev AreTheirs : (ℕ → List ℕ) → List RegionState → Type 0
AreTheirs masks gs = (r : ℕ) (g : RegionState) → slice_get gs r ≡ Some g → (g.stray ≡ xor_of (masks r)) × (g.poked ≡ has_any (masks r))

kept : (masks : ℕ → List ℕ) (gs hs : List RegionState) → EachFrom SameMarks gs hs → AreTheirs masks gs → AreTheirs masks hs
kept masks gs hs keep theirs = λ r h e.
    let was = keep r h e in
    let is = theirs r was.0 was.1 in (was.2.0 ∙ is.0, was.2.1 ∙ is.1)

new_ones : (image : List (List ℕ)) (gs : List RegionState) → gs ≡ map loaded image → AreTheirs (λ r. []) gs
new_ones image gs same = λ r g e. none_loaded image r g (ap (λ (l : List RegionState). slice_get l r) (sym same) ∙ e)

-- ---- blocks of one client

lone_blocks : (act : Act) → IsPlaced false (act ∷ []) → AreBlocks (alone act)
lone_blocks act placed = record {
  numbers = λ i t e. rw (only_one act i t e).1 (omega arith, omega arith);
  placed = λ i t e. rw (only_one act i t e).1 placed;
  apart = λ i j t u e f same. (only_one act i t e).0 ∙ sym (only_one act j u f).0;
}

none_alone : (r : ℕ) (act : Act) → filter_map poke_in (act ∷ []) ≡ [] → (lines : List (List Said)) → masks_of r (alone act) lines ≡ []
none_alone r act e [] = refl
none_alone r act e (said ∷ more) =
    append-nil (done_on r (filter_map answer_in said) (filter_map poke_in (act ∷ []))) ∙ (ap (done_on r (filter_map answer_in said)) e ∙ done_none r (filter_map answer_in said))

module _ {V : Type 0} (g : Ghosts V) (precheck : Bool) where
  -- ---- a round
  -- what a region is behind one, it is of what stood there before by the round's pokes
  pub round_pokes : (whole : Bool) (blocks : List Blocks) (c d : Core (Fuse V)) (ts : List Transcribed) (plays : Plays g precheck whole blocks c ts d) (a : IsStanding g c) (r : ℕ) (h : RegionState) → slice_get d.regions.items r ≡ Some h
      → (was : RegionState) × (slice_get c.regions.items r ≡ Some was) × (h.stray ≡ stray_after r was.stray (plays a.start a.batches a.point a.begins).round.world.happened)
      × (h.poked ≡ poked_after r was.poked (plays a.start a.batches a.point a.begins).round.world.happened)
  round_pokes whole blocks c d ts plays a r h e =
      let led = plays a.start a.batches a.point a.begins in
      let round = led.round in
      let w = round.world in
      let new_is : w.core.regions ≡ d.regions.items = ap (λ (k : CoreState). k.regions) round.core_is ∙ led.stands.at.regions in
      let old_is : w.old.regions ≡ c.regions.items = ap (λ (k : CoreState). k.regions) round.old_is ∙ a.begins.stands.at.regions in
      let sizes : regions led.to.core.system.sizes ≡ regions a.point.core.system.sizes =
      ap (λ (k : CoreState). regions k.system.sizes) (sym round.core_is) ∙ ap regions round.grew.sizes in
      let count : length d.regions.items ≡ length c.regions.items =
      ap (λ (l : List RegionState). length l) (sym led.stands.at.regions)
      ∙ (led.stands.whole.regions ∙ (sizes ∙ (sym a.begins.stands.whole.regions ∙ ap (λ (l : List RegionState). length l) a.begins.stands.at.regions))) in
      let within = slice_get_within d.regions.items r h e in
      let was = get_within c.regions.items r (omega (arith, within, count)) in
      let pokes =
      round.together.pokes r was.0 h (ap (λ (l : List RegionState). slice_get l r) old_is ∙ was.1) (ap (λ (l : List RegionState). slice_get l r) new_is ∙ e) in (was.0, was.1, pokes.0, pokes.1)

  round_theirs : (blocks : List Blocks) (c d : Core (Fuse V)) (ts : List Transcribed) → AreBlocks blocks → Plays g precheck true blocks c ts d
      → IsStanding g c → (masks : ℕ → List ℕ) → AreTheirs masks c.regions.items → AreTheirs (λ r. masks r ++ masks_of r blocks (map lines_in ts)) d.regions.items
  round_theirs blocks c d ts are plays a masks theirs = λ r h e.
      let round = (plays a.start a.batches a.point a.begins).round in
      let w = round.world in
      let more = masks_of r blocks (map lines_in ts) in
      let was = round_pokes true blocks c d ts plays a r h e in
      let is = theirs r was.0 was.1 in (
        was.2
            ∙ (
            stray_told r was.0.stray w blocks (map lines_in ts) round.transcripts are
            ∙ (ap (λ (s : ℕ). bit_xor s (xor_of more)) is.0 ∙ sym (xor_both (masks r) more))
            ),
        was.3
            ∙ (
            poked_told r was.0.poked w blocks (map lines_in ts) round.transcripts are
            ∙ (ap (λ (p : Bool). p || has_any more) is.1 ∙ sym (any_both (masks r) more))
            ),
      )

  -- a round of one client that pokes nothing
  lone_theirs : (act : Act) (c d : Core (Fuse V)) (text : List ℕ) → IsPlaced false (act ∷ []) → filter_map poke_in (act ∷ []) ≡ []
      → ActsAlone g precheck act c text d → IsStanding g c → (masks : ℕ → List ℕ) → AreTheirs masks c.regions.items → AreTheirs masks d.regions.items
  lone_theirs act c d text placed none acts a masks theirs = λ r h e.
      let is = round_theirs (alone act) c d acts.transcripts (lone_blocks act placed) acts.plays a masks theirs r h e in
      let same : masks r ++ masks_of r (alone act) (map lines_in acts.transcripts) ≡ masks r =
      ap (λ (l : List ℕ). masks r ++ l) (none_alone r act none (map lines_in acts.transcripts)) ∙ append-nil (masks r) in
      (is.0 ∙ ap xor_of same, is.1 ∙ ap has_any same)

  -- ---- a lone audit
  audit_names : (act : Act) (c d : Core (Fuse V)) (text : List ℕ) → is_lone act ≡ true → (acts : ActsAlone g precheck act c text d)
      → IsStanding g c → (masks : ℕ → List ℕ) → AreTheirs masks c.regions.items
      → NamesOf masks (length c.regions.items) (map lines_in acts.transcripts) text
  audit_names act c d text lone acts a masks theirs =
      let named = lone_names g precheck act c d text lone a acts in
      let named_so : (found : List ℕ) → list_in named.line ≡ Some found → (r : ℕ) → r < length c.regions.items → Contains found r ↔ (xor_of (masks r) ≢ 0) =
      λ found e r below.
      let region = get_within c.regions.items r below in
      subst (λ (k : ℕ). Contains found r ↔ (k ≢ 0)) (theirs r region.0 region.1).0 (named.names found e r region.0 region.1) in
      record {
        line = named.line;
        lines_are = named.lines_are;
        printed = named.printed;
        names = λ found e. (
          (named.list found e).ascend,
          λ r. (
            λ has.
                let below = below_at (length c.regions.items) found r (named.list found e).below has in
                (below, (named_so found e r below).0 has),
            λ is. (named_so found e r is.0).1 is.1,
          ),
        );
      }

  lone_told : (name : Name) (act : Act) (masks : ℕ → List ℕ) (old new : Program V) (text : List ℕ) → IsPlaced false (act ∷ []) → filter_map poke_in (act ∷ []) ≡ []
      → StepsAlone g precheck name act old text new → Stands g old → AreTold masks old → AreTold masks new
  lone_told name act masks (Up core) new text placed none step a are =
      subst (AreTold masks) (sym step.2) (lone_theirs act core step.0 text placed none step.1 a masks are)
  lone_told name act masks (Down store) new text placed none step a are = subst (AreTold masks) (sym step.1) tt

  lone_named : (name : Name) (act : Act) (masks : ℕ → List ℕ) (old new : Program V) (text : List ℕ) → is_lone act ≡ true
      → (step : StepsAlone g precheck name act old text new) → Stands g old → AreTold masks old
      → NamesTold g precheck masks name act old text new step
  lone_named name act masks (Up core) new text lone step a are = audit_names act core step.0 text lone step.1 a masks are
  lone_named name act masks (Down store) new text lone step a are = tt

-- ---- each command
module _ {V : Type 0} (g : Ghosts V)
    (reads_now : (s : V) → IfSome (g.told s) (λ fs. g.may_leave s fs)) (counts_now : (s : V) (t : ℕ) (c : Disk) → t ≤ g.moment s → g.may_leave s c → g.left_since s t c)
    (limit : ℕ) (precheck : Bool) where
  cleanup_told : (stop : Option Cause) (masks : ℕ → List ℕ) (core : Core (Fuse V)) (new : Program V) (text : List ℕ) → core.system.state.stop ≡ stop
      → CleanupIn g stop core text new → IsStanding g core → AreTheirs masks core.regions.items → AreTold masks new
  cleanup_told (Some cause) masks core new text is step a are = subst (AreTold masks) (sym step.1) are
  cleanup_told None masks core new text is step a are =
      subst (AreTold masks) (sym step.2) (kept masks core.regions.items step.0.regions.items (cleaned_stays g core step.0 step.1 is a).marks are)

  show_told : (stop : Option Cause) (masks : ℕ → List ℕ) (core : Core (Fuse V)) (new : Program V) (text : List ℕ) → core.system.state.stop ≡ stop
      → ShowIn g stop core text new → IsStanding g core → AreTheirs masks core.regions.items → AreTold masks new
  show_told (Some cause) masks core new text is step a are = subst (AreTold masks) (sym step.1) are
  show_told None masks core new text is step a are =
      subst (AreTold masks) (sym step.2) (kept masks core.regions.items step.0.regions.items (cleaned_stays g core step.0 step.1 is a).marks are)

  compared_same : (c d : Core (Fuse V)) (text : List ℕ) → EndsComparison g c text d → d.regions.items ≡ c.regions.items
  compared_same c d text (inl compares) = ap (λ (x : Core (Fuse V)). x.regions.items) compares.read.same
  compared_same c d text (inr stops) = ap (λ (x : Core (Fuse V)). x.regions.items) stops.read.same

  verify_told : (stop : Option Cause) (masks : ℕ → List ℕ) (core : Core (Fuse V)) (new : Program V) (text : List ℕ) → core.system.state.stop ≡ stop
      → VerifyIn g stop core text new → IsStanding g core → AreTheirs masks core.regions.items → AreTold masks new
  verify_told (Some cause) masks core new text is step a are = subst (AreTold masks) (sym step.1) are
  verify_told None masks core new text is step a are =
      subst (AreTold masks) (sym step.4)
      (
      kept masks step.0.regions.items step.1.regions.items (keep_same step.0.regions.items step.1.regions.items (compared_same step.0 step.1 text step.3))
      (kept masks core.regions.items step.0.regions.items (cleaned_stays g core step.0 step.2 is a).marks are)
      )

  pub step_told : (command : Command) → IsFit command → (masks : ℕ → List ℕ) (old new : Program V) (text : List ℕ)
      → (step : Steps g limit precheck old command text new) → Stands g old → AreTold masks old
      → AreTold (masks_behind g limit precheck command old text new step masks) new
  step_told (Size index heap) fit masks old new text step a are =
      subst (AreTold (λ r. [])) (sym step.up) (new_ones _ step.core.regions.items step.fresh.regions)
  step_told Open fit masks old new text (inl step) a are = subst (AreTold (λ r. [])) (sym step.up) (new_ones step.fresh.words step.core.regions.items step.fresh.risen.regions)
  step_told Open fit masks old new text (inr step) a are = subst (AreTold (λ r. [])) (sym step.down) tt
  step_told Restart fit masks old new text (inl step) a are =
      subst (AreTold (λ r. [])) (sym step.up) (new_ones step.fresh.words step.core.regions.items step.fresh.risen.regions)
  step_told Restart fit masks old new text (inr step) a are = subst (AreTold (λ r. [])) (sym step.down) tt
  step_told (Round blocks) fit masks (Up core) new text step a are =
      subst (AreTold (λ r. masks r ++ masks_of r (map told_by blocks) (map lines_in step.1.transcripts))) (sym step.2)
      (round_theirs g precheck (map told_by blocks) core step.0 step.1.transcripts fit step.1.plays a masks are)
  step_told (Round blocks) fit masks (Down store) new text step a are = subst (AreTold (λ r. masks r ++ [])) (sym step.1) tt
  step_told (Poke region word mask) fit masks (Up core) new text step a are =
      subst (AreTold (λ r. masks r ++ masks_of r (alone (Pokes region word mask)) (map lines_in step.1.transcripts))) (sym step.2)
      (round_theirs g precheck (alone (Pokes region word mask)) core step.0 step.1.transcripts fit step.1.plays a masks are)
  step_told (Poke region word mask) fit masks (Down store) new text step a are = subst (AreTold (λ r. masks r ++ [])) (sym step.1) tt
  step_told Audit fit masks old new text step a are = lone_told g precheck names.Audit Audits masks old new text tt refl step a are
  step_told Checkpoint fit masks old new text step a are =
      lone_told g precheck names.Checkpoint Checkpoints masks old new text tt refl step a are
  step_told Cleanup fit masks (Up core) new text step a are = cleanup_told core.system.state.stop masks core new text refl step a are
  step_told Cleanup fit masks (Down store) new text step a are = subst (AreTold masks) (sym step.1) tt
  step_told (Crash choice) fit masks old new text step a are = subst (AreTold (λ r. [])) (sym step.down.down) tt
  step_told Show fit masks (Up core) new text step a are = show_told core.system.state.stop masks core new text refl step a are
  step_told Show fit masks (Down store) new text step a are = subst (AreTold masks) (sym step.1) tt
  step_told Verify fit masks (Up core) new text step a are = verify_told core.system.state.stop masks core new text refl step a are
  step_told Verify fit masks (Down store) new text step a are = subst (AreTold masks) (sym step.1) tt
  step_told Next fit masks old new text step a are = subst (AreTold masks) (sym step.1) are
  step_told (SetFuse passes) fit masks (Up core) new text step a are = subst (AreTold masks) (sym step.0.2) are
  step_told (SetFuse passes) fit masks (Down store) new text step a are = subst (AreTold masks) (sym step.0.2) tt

  -- ---- where nobody wrote astray
  none_poked : (masks : ℕ → List ℕ) (base : List Record) (c d : Core (Fuse V)) → HasCleaned g c d → c.system.state.stop ≡ None → IsPointOf g base c
      → AreTheirs masks c.regions.items → IsNone masks → HasServed g base c d
  none_poked masks base c d cleaned ran a are none =
      let stays = cleaned_stays g c d cleaned ran (standing_of g base c a) in
      let at = (cleaned_point g reads_now counts_now base c d cleaned ran a).point in
      let theirs = kept masks c.regions.items d.regions.items stays.marks are in
      record {
        at = a;
        ran = ran;
        cleaned = cleaned;
        runs = stays.stop ∙ ran;
        unpoked = λ r x e.
            let poked : x.poked ≡ false = (theirs r x e).1 ∙ ap has_any (none r) in
            let run = at.begins.stands.at.vault.run.run.run.runs.regions r x (ap (λ (l : List RegionState). slice_get l r) at.begins.stands.at.regions ∙ e) in
            (poked, run.protected.none_missed poked);
      }

  show_none : (Safe : Disk → Type 0) (masks : ℕ → List ℕ) (base : List Record) (old new : Program V) (text : List ℕ) → StepsShow g old text new → IsAPoint g Safe base old
      → AreTold masks old → ShowsNone g masks old text new
  show_none Safe masks base (Up core) new text step a are = λ ran none.
      let shows : ShowIn g None core text new = subst (λ (o : Option Cause). ShowIn g o core text new) ran step in
      let served = none_poked masks base core shows.0 shows.1 ran a are none in
      let just = unpoked_shows g reads_now counts_now base core shows.0 text served shows.3 in
      record { core = shows.0; up = shows.2; base = just.0; at = just.2; shows = just.3 }
  show_none Safe masks base (Down store) new text step a are = tt

  agreed : (o : Option Disk) (L' : Disk → List Record → Type 0) (P : List Record → Type 0) (is : Bool) → is_some o ≡ true
      → IfSome o (λ fs. (L : List Record) × L' fs L × (IsTrue is ↔ P L)) → IfSome o (λ fs. (L : List Record) → L' fs L → P L) → is ≡ true
  agreed None whole P is tells replayed verified = absurd (cc tells)
  agreed (Some fs) whole P is tells replayed verified = by_truth is (replayed.2.1 (verified replayed.0 replayed.1))
    where
      by_truth : (b : Bool) → IsTrue b → b ≡ true
      by_truth true t = refl
      by_truth false t = absurd (cc t)

  verify_ends : (base : List Record) (core c d : Core (Fuse V)) (text : List ℕ) → HasServed g base core c → EndsComparison g c text d
      → (text ≡ texts (lines.VerifyOk ∷ [])) ⊎ (text ≡ texts (lines.VerifyStoreStopped ∷ []))
  verify_ends base core c d text served (inl compares) =
      let at = (cleaned_point g reads_now counts_now base core c served.cleaned served.ran served.at).point in
      let verified = unpoked_verifies g reads_now counts_now base core c served in
      let is =
      agreed (told_in g c.vault.store) (λ fs L. IsWholeLog fs.log c.system.state L) (λ L. IsVerified c.system.state.sizes (in_memory c.regions.items) L) compares.is at.tells compares.replayed verified in
      inl (compares.printed ∙ ap (λ (b : Bool). texts (verdict b ∷ [])) is)
  verify_ends base core c d text served (inr stops) = inr stops.printed

  verify_none : (Safe : Disk → Type 0) (masks : ℕ → List ℕ) (base : List Record) (old new : Program V) (text : List ℕ) → StepsVerify g old text new
      → IsAPoint g Safe base old → AreTold masks old → VerifiesNone masks old text
  verify_none Safe masks base (Up core) new text step a are = λ ran none.
      let verifies : VerifyIn g None core text new =
      subst (λ (o : Option Cause). VerifyIn g o core text new) ran step in
      verify_ends base core verifies.0 verifies.1 text (none_poked masks base core verifies.0 verifies.2 ran a are none) verifies.3
  verify_none Safe masks base (Down store) new text step a are = tt

  names_by : (command : Command) (masks : ℕ → List ℕ) (old new : Program V) (text : List ℕ)
      → (step : Steps g limit precheck old command text new) → Stands g old → AreTold masks old
      → NamesBy g limit precheck command masks old text new step
  names_by Audit masks old new text step a are = lone_named g precheck names.Audit Audits masks old new text refl step a are
  names_by Checkpoint masks old new text step a are = lone_named g precheck names.Checkpoint Checkpoints masks old new text refl step a are
  names_by Show masks old new text step a are = tt
  names_by Verify masks old new text step a are = tt
  names_by (Size index heap) masks old new text step a are = tt
  names_by Open masks old new text step a are = tt
  names_by (Round blocks) masks old new text step a are = tt
  names_by (Poke region word mask) masks old new text step a are = tt
  names_by Cleanup masks old new text step a are = tt
  names_by (Crash choice) masks old new text step a are = tt
  names_by Restart masks old new text step a are = tt
  names_by Next masks old new text step a are = tt
  names_by (SetFuse passes) masks old new text step a are = tt

  step_tells : (Safe : Disk → Type 0) (command : Command) (masks : ℕ → List ℕ) (base : List Record) (old new : Program V) (text : List ℕ)
      → (step : Steps g limit precheck old command text new) → IsAPoint g Safe base old → AreTold masks old
      → TellsBy g limit precheck command masks old text new step
  step_tells Safe Audit masks base old new text step a are = names_by Audit masks old new text step (stands_of g Safe base old a) are
  step_tells Safe Checkpoint masks base old new text step a are = names_by Checkpoint masks old new text step (stands_of g Safe base old a) are
  step_tells Safe Show masks base old new text step a are = show_none Safe masks base old new text step a are
  step_tells Safe Verify masks base old new text step a are = verify_none Safe masks base old new text step a are
  step_tells Safe (Size index heap) masks base old new text step a are = tt
  step_tells Safe Open masks base old new text step a are = tt
  step_tells Safe (Round blocks) masks base old new text step a are = tt
  step_tells Safe (Poke region word mask) masks base old new text step a are = tt
  step_tells Safe Cleanup masks base old new text step a are = tt
  step_tells Safe (Crash choice) masks base old new text step a are = tt
  step_tells Safe Restart masks base old new text step a are = tt
  step_tells Safe Next masks base old new text step a are = tt
  step_tells Safe (SetFuse passes) masks base old new text step a are = tt

  -- ---- along a run
  all_told : (Safe : Disk → Type 0) (commands : List Command) → AreFit commands → (masks : ℕ → List ℕ) (base : List Record) (old : Program V) (text : List ℕ) (new : Program V)
      → (runs : RunsAll g limit precheck old commands text new) (a : IsAPoint g Safe base old) (base' : List Record)
      → AllSurvive g limit precheck Safe commands base old a text new runs base' → AreTold masks old
      → AllTold g limit precheck commands masks old text new runs
  all_told Safe [] fit masks base old text new runs a base' all are = are
  all_told Safe (command ∷ later) fit masks base old text new runs a base' all are = (
    are,
    step_tells Safe command masks base old runs.1 runs.0 runs.3 a are,
    all_told (SafeBehind g limit precheck Safe command old runs.0 runs.1 runs.3) later fit.1 (masks_behind g limit precheck command old runs.0 runs.1 runs.3 masks) all.0 runs.1 runs.2 new runs.4 all.2 base' all.4
        (step_told command fit.0 masks old runs.1 runs.0 runs.3 (stands_of g Safe base old a) are),
  )

  all_named : (commands : List Command) → AreFit commands → (masks : ℕ → List ℕ) (old : Program V) (text : List ℕ) (new : Program V)
      → (runs : RunsAll g limit precheck old commands text new) → Stands g old → AreTold masks old
      → AllNamed g limit precheck commands masks old text new runs
  all_named [] fit masks old text new runs a are = are
  all_named (command ∷ later) fit masks old text new runs a are = (
    are,
    λ found. (
      names_by command masks old runs.1 runs.0 runs.3 a are,
      all_named later fit.1 (masks_behind g limit precheck command old runs.0 runs.1 runs.3 masks) runs.1 runs.2 new runs.4
          (step_stands g limit precheck command old runs.1 runs.0 runs.3 found a)
          (step_told command fit.0 masks old runs.1 runs.0 runs.3 a are),
    ),
  )

  named_there : (start : V) (script : List Command) (count : ℕ) (text : List ℕ) (new : Program V) (before after : Option (List ℕ))
      → (run : HasRun g limit precheck start script count text new) → Spells before script after
      → NamedThere g limit precheck start script count text new run
  named_there start script count text new before after run spells =
      all_named (take count script) (fit_front count script (all_fit spells.bytes script spells.spelled)) (λ r. []) run.first text new run.runs
      (subst (Stands g) (sym run.down.down) tt) (subst (AreTold (λ r. [])) (sym run.down.down) tt)

  told_there : (base : List Record) (start : V) (script : List Command) (count : ℕ) (text : List ℕ) (new : Program V) (before after : Option (List ℕ))
      → (run : HasRun g limit precheck start script count text new) → IsOwn g base start → Spells before script after
      → NoneEscapeThere g limit precheck start script count text new run
      → ToldThere g limit precheck start script count text new run
  told_there base start script count text new before after run own spells none =
      let gone = there g reads_now counts_now limit precheck base start script count text new run own none in
      all_told AnyFiles (take count script) (fit_front count script (all_fit spells.bytes script spells.spelled)) (λ r. []) base run.first text new run.runs
      (begins_down g base run.first start run.down own) gone.log gone.each (subst (AreTold (λ r. [])) (sym run.down.down) tt)

  module _ (c : Course V) (mid : Option (List ℕ)) (count : ℕ) (base : List Record) (own : IsOwn g base c.store) where
    before_it : (halt : Halt) (stopped : HasStopped g limit precheck halt c mid)
        → NoneEscapesStopped g limit precheck c mid count halt stopped
        → BeforeHalt g limit precheck (ToldThere g limit precheck) c mid count halt stopped
    before_it halt stopped honest =
        told_there base c.store stopped.0 stopped.2.count stopped.2.text stopped.2.state c.left c.left' stopped.2.run own stopped.1 honest

    memory_told : (ended : Untouched c mid ⊎ HasStopped g limit precheck halts.OutOfMemory c mid)
        → NoneEscapesWanting g limit precheck c mid count ended
        → BeforeWant g limit precheck (ToldThere g limit precheck) c mid count ended
    memory_told (inl untouched) honest = tt
    memory_told (inr stopped) honest = before_it halts.OutOfMemory stopped honest

    script_told : (status : Status) (ended : EndedScript g limit precheck c mid count status)
        → NoneEscapesBefore g limit precheck c mid count status ended
        → OfRun g limit precheck (ToldThere g limit precheck) c mid count status ended
    script_told Done ended honest =
        told_there base c.store ended.0 (length ended.0) ended.2.text ended.2.state c.left c.left' ended.2.run own ended.1 honest
    script_told WriteFault ended honest =
        let cut = ended.1.2 in told_there base c.store ended.1.0 cut.count cut.text cut.earlier c.left c.left' cut.ran own ended.1.1 honest
    script_told StoreFault ended honest = before_it halts.StoreFault ended honest
    script_told (BadStore file at) ended honest = before_it (halts.BadStore file at) ended honest
    script_told Unformatted ended honest = before_it halts.Unformatted ended honest
    script_told Formatted ended honest = before_it halts.Formatted ended honest
    script_told StoreUnsteady ended honest = before_it halts.StoreUnsteady ended honest
    script_told RecordTooLong ended honest = before_it halts.RecordTooLong ended honest
    script_told OutOfMemory ended honest = memory_told ended honest
    script_told BadWords ended honest = tt
    script_told (BadScript line kind) ended honest = tt
    script_told TooLong ended honest = tt
    script_told ReadFault ended honest = tt
    script_told (LogFull end most) ended honest = tt
    script_told TooSmall ended honest = tt
    script_told NotLoaded ended honest = tt

  module _ (c : Course V) (mid : Option (List ℕ)) (count : ℕ) where
    abbrev There : (start : V) (script : List Command) (count : ℕ) (text : List ℕ) (new : Program V) → HasRun g limit precheck start script count text new → Type 0
    There = NamedThere g limit precheck

    named_before : (halt : Halt) (stopped : HasStopped g limit precheck halt c mid)
        → BeforeHalt g limit precheck There c mid count halt stopped
    named_before halt stopped = named_there c.store stopped.0 stopped.2.count stopped.2.text stopped.2.state c.left c.left' stopped.2.run stopped.1

    named_wanting : (ended : Untouched c mid ⊎ HasStopped g limit precheck halts.OutOfMemory c mid)
        → BeforeWant g limit precheck There c mid count ended
    named_wanting (inl untouched) = tt
    named_wanting (inr stopped) = named_before halts.OutOfMemory stopped

    script_named : (status : Status) (ended : EndedScript g limit precheck c mid count status)
        → OfRun g limit precheck There c mid count status ended
    script_named Done ended = named_there c.store ended.0 (length ended.0) ended.2.text ended.2.state c.left c.left' ended.2.run ended.1
    script_named WriteFault ended = let cut = ended.1.2 in named_there c.store ended.1.0 cut.count cut.text cut.earlier c.left c.left' cut.ran ended.1.1
    script_named StoreFault ended = named_before halts.StoreFault ended
    script_named (BadStore file at) ended = named_before (halts.BadStore file at) ended
    script_named Unformatted ended = named_before halts.Unformatted ended
    script_named Formatted ended = named_before halts.Formatted ended
    script_named StoreUnsteady ended = named_before halts.StoreUnsteady ended
    script_named RecordTooLong ended = named_before halts.RecordTooLong ended
    script_named OutOfMemory ended = named_wanting ended
    script_named BadWords ended = tt
    script_named (BadScript line kind) ended = tt
    script_named TooLong ended = tt
    script_named ReadFault ended = tt
    script_named (LogFull end most) ended = tt
    script_named TooSmall ended = tt
    script_named NotLoaded ended = tt

  pub strays_are_named : StraysAreNamed g limit precheck
  strays_are_named c status e = script_named c e.mid e.count status e.ended

  pub pokes_are_told : PokesAreTold g limit precheck
  pokes_are_told c status base own e honest = script_told c e.mid e.count base own status e.ended honest
