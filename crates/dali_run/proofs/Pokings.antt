-- The stray writes of one client are those that its lines tell.
use Rattle.std.proofs.Common.{◌≡◌, ℕ, Bool, true, false, List, [], ◌∷◌, ◌++◌, Option, Some, None, refl, sym, ◌∙◌, ap, subst}
use Rattle.std.specs.Prelude.{filter_map, flat_map}
use Rattle.std.specs.List.{AllByRecursion}
use Rattle.std.proofs.lemmas.List.{append-nil}
use Rattle.std.proofs.lemmas.List.Elements.{filter_map-append}
use Rattle.std.proofs.lemmas.Grind.{flat_map-append}
use Rattle.dali_record.specs.declared.records.Call.{Call}
use Rattle.dali_record.specs.declared.records.Record.TheVariants.{AuditBegin, AuditClean, AuditFail}
use Rattle.dali_transcripts.specs.Words.{Act, Begins as BeginAct, Calls, Arms, Commits as CommitAct, Aborts as AbortAct, Pokes as PokeAct, Audits as AuditAct, Checkpoints as CheckpointAct, Why, StoppedBy, Full, Damaged, StoreFailed, UnderWay, Said}
use Rattle.dali_transcripts.specs.World.{Deed, Logs, Strays, DiesOn, Yields, StartsCheckpoint, EndsCheckpoint, Meets, World}
use Rattle.dali_transcripts.specs.Moves.{Receipt, Place, Outside, Within, Again, LeftOut, Gone, Spot, Ending, TakenBack, LeftBehind, Move, Begins, BeginsAgain, IsRefusedBegin, Skips, Rests, Answers, IsRefusedCall, Dies, IsArmed, GivesWay, GivesUp, Commits, CommitFails, IsRefusedCommit, Aborts, IsRefusedAbort, Ends, StaysOpen, Pokes, PokesNothing, Audits, IsRefusedAudit, Checkpoints, FailsCheckpoint, IsRefusedCheckpoint, audit_own, failure_own, end_line, end_own, spanned, refused_own, behind_close, from, said, own, to, start}
use Rattle.dali_transcripts.specs.Causes.{AreAside, AreAsking, AreTried, AreWork, AreBehind, IsAside, IsAsking, IsTried, IsWork, IsBehind, IsCutAudit, IsCutBy, HasCause, MayBegin}
use Rattle.dali_transcripts.specs.Transcripts.{IsPath, IsTranscript, own_by, said_by}
use Rattle.dali_transcripts.specs.Rounds.{IsPlaced}
use Rattle.dali_run.specs.Masks.{poke_in, answer_in, mask_on, done_on, masks_in}

-- ---- the masks among deeds
abbrev pub mask_by : ℕ → Deed → List ℕ
mask_by r (Strays region word mask) = mask_on r region mask
mask_by r x = []

abbrev pub mask_of : ℕ → Receipt → List ℕ
mask_of r x = mask_by r x.1

abbrev pub own_masks : ℕ → List Receipt → List ℕ
own_masks r xs = flat_map (mask_of r) xs

-- deeds that are no stray writes
pub quiet_both : (r : ℕ) (xs ys : List Receipt) → own_masks r xs ≡ [] → own_masks r ys ≡ [] → own_masks r (xs ++ ys) ≡ []
quiet_both r xs ys e f = flat_map-append (mask_of r) xs ys ∙ (ap (λ (l : List ℕ). l ++ own_masks r ys) e ∙ f)

quiet_one : (r : ℕ) (P : Receipt → Type 0) → ((n region word mask : ℕ) → P (n, Strays region word mask) → ⊥) → (x : Receipt) → P x → mask_of r x ≡ []
quiet_one r P never (n, Logs x) p = refl
quiet_one r P never (n, Strays region word mask) p = absurd (never n region word mask p)
quiet_one r P never (n, DiesOn t q) p = refl
quiet_one r P never _ p = refl

pub quiet_all : (r : ℕ) (P : Receipt → Type 0) → ((n region word mask : ℕ) → P (n, Strays region word mask) → ⊥) → (xs : List Receipt) → AllByRecursion P xs → own_masks r xs ≡ []
quiet_all r P never [] all = refl
quiet_all r P never (x ∷ xs) all = ap (λ (l : List ℕ). l ++ own_masks r xs) (quiet_one r P never x all.0) ∙ quiet_all r P never xs all.1

quiet_work : (r : ℕ) (w : World) (c t : ℕ) (call : Call) (xs : List Receipt) → AreWork w c t call xs → own_masks r xs ≡ []
quiet_work r w c t call xs all = quiet_all r (IsWork w c t call) (λ n region word mask p. p) xs all

pub quiet_asking : (r : ℕ) (w : World) (c t : ℕ) (call : Call) (xs : List Receipt) → AreAsking w c t call xs → own_masks r xs ≡ []
quiet_asking r w c t call xs all = quiet_all r (IsAsking w c t call) (λ n region word mask p. p) xs all

pub quiet_tried : (r : ℕ) (w : World) (c t : ℕ) (call : Call) (xs : List Receipt) → AreTried w c t call xs → own_masks r xs ≡ []
quiet_tried r w c t call xs all = quiet_all r (IsTried w c t call) (λ n region word mask p. p) xs all

pub quiet_aside : (r : ℕ) (w : World) (c t : ℕ) (xs : List Receipt) → AreAside w c t xs → own_masks r xs ≡ []
quiet_aside r w c t xs all = quiet_all r (IsAside w c t) (λ n region word mask p. p) xs all

quiet_behind : (r : ℕ) (w : World) (c t : ℕ) (xs : List Receipt) → AreBehind w c t xs → own_masks r xs ≡ []
quiet_behind r w c t xs all = quiet_all r (IsBehind w c t) (λ n region word mask p. p) xs all

quiet_cut : (r : ℕ) (w : World) (later : Bool) (xs : List Receipt) → IsCutAudit w later xs → own_masks r xs ≡ []
quiet_cut r w later [] is = refl
quiet_cut r w later ((b, Logs AuditBegin) ∷ []) is = refl
quiet_cut r w later ((b, Logs AuditBegin) ∷ (n, Logs (AuditClean a)) ∷ []) is = refl
quiet_cut r w later ((b, Logs AuditBegin) ∷ (n, Logs (AuditFail a rs)) ∷ []) is = refl
quiet_cut r w later xs is = absurd is

quiet_none : (r : ℕ) (xs : List Receipt) → xs ≡ [] → own_masks r xs ≡ []
quiet_none r xs e = ap (own_masks r) e

quiet_cut_by : (r : ℕ) (w : World) (later : Bool) (why : Why) (xs : List Receipt) → IsCutBy w later why xs → own_masks r xs ≡ []
quiet_cut_by r w later (StoppedBy cause) xs is = quiet_cut r w later xs is
quiet_cut_by r w true StoreFailed xs is = quiet_cut r w true xs is
quiet_cut_by r w false StoreFailed xs is = quiet_cut r w false xs is.0
quiet_cut_by r w later (Full end limit) xs is = quiet_none r xs is
quiet_cut_by r w later (Damaged region codeword found) xs is = quiet_none r xs is
quiet_cut_by r w later UnderWay xs is = quiet_none r xs is

quiet_failure : (r : ℕ) (failed : Option ℕ) → own_masks r (failure_own failed) ≡ []
quiet_failure r None = refl
quiet_failure r (Some n) = refl

quiet_end : (r t : ℕ) (end : Ending) → own_masks r (end_own t end) ≡ []
quiet_end r t (TakenBack n) = refl
quiet_end r t (LeftBehind n cause) = refl

quiet_span : (r : ℕ) (span : Option (ℕ × ℕ)) (xs : List Receipt) → own_masks r xs ≡ [] → own_masks r (spanned span xs) ≡ []
quiet_span r None xs e = e
quiet_span r (Some (since, until)) xs e = quiet_both r ((since, StartsCheckpoint) ∷ xs) ((until, EndsCheckpoint) ∷ []) e refl

quiet_refused : (r : ℕ) (late : Bool) (span : Option (ℕ × ℕ)) (work : List Receipt) (n : ℕ) (why : Why) → own_masks r work ≡ []
    → own_masks r (refused_own late span work (n, Meets why)) ≡ []
quiet_refused r false span work n why e = quiet_span r span (work ++ (n, Meets why) ∷ []) (quiet_both r work ((n, Meets why) ∷ []) e refl)
quiet_refused r true span work n why e = quiet_both r (spanned span work) ((n, Meets why) ∷ []) (quiet_span r span work e) refl

-- a step with a line of a poke
abbrev pub is_poke : Move → Bool
is_poke (Pokes s n region word mask rest) = true
is_poke (PokesNothing s region word mask rest) = true
is_poke x = false

pub quiet_own : (r : ℕ) (w : World) (c : ℕ) (x : Move) → HasCause w c x → is_poke x ≡ false → own_masks r (own x) ≡ []
quiet_own r w c (Begins t n rest) cause is = refl
quiet_own r w c (BeginsAgain t n tries h rest) cause is = refl
quiet_own r w c (IsRefusedBegin place s n why rest) cause is = refl
quiet_own r w c (Skips s act rest) cause is = refl
quiet_own r w c (Rests t act rest) cause is = refl
quiet_own r w c (Answers t tries cs d work n call a rest) cause is = quiet_both r work _ (quiet_work r w c t call work cause.0) refl
quiet_own r w c (IsRefusedCall t tries cs d s work n back call why rest) cause is =
    quiet_both r work ((n, Meets why) ∷ back) (quiet_tried r w c t call work cause.0) (quiet_aside r w c t back cause.2)
quiet_own r w c (Dies t tries cs d work n q call rest) cause is = quiet_both r work _ (quiet_work r w c t call work cause.0) refl
quiet_own r w c (IsArmed t tries cs d s count rest) cause is = refl
quiet_own r w c (GivesWay t tries cs d work call f back end rest) cause is =
    quiet_both r (work ++ (f.at, Yields f) ∷ back) (end_own t end)
    (quiet_both r work ((f.at, Yields f) ∷ back) (quiet_asking r w c t call work cause.0) (quiet_aside r w c t back cause.2)) (quiet_end r t end)
quiet_own r w c (GivesUp t tries cs d work call f back end rest) cause is =
    quiet_both r (work ++ (f.at, Yields f) ∷ back) (end_own t end)
    (quiet_both r work ((f.at, Yields f) ∷ back) (quiet_asking r w c t call work cause.0) (quiet_aside r w c t back cause.2)) (quiet_end r t end)
quiet_own r w c (Commits t tries cs d n behind rest) cause is = quiet_behind r w c t behind cause.1
quiet_own r w c (CommitFails t tries cs d n m why rest) cause is = refl
quiet_own r w c (IsRefusedCommit t tries cs d s n why rest) cause is = refl
quiet_own r w c (Aborts t tries cs d work n rest) cause is = quiet_both r work _ (quiet_aside r w c t work cause.0) refl
quiet_own r w c (IsRefusedAbort t tries cs d s work n why rest) cause is = quiet_both r work _ (quiet_aside r w c t work cause.0) refl
quiet_own r w c (Ends t tries cs d work n) cause is = quiet_both r work _ (quiet_aside r w c t work cause.0) refl
quiet_own r w c (StaysOpen t tries cs d s work n why) cause is = quiet_both r work _ (quiet_aside r w c t work cause.0) refl
quiet_own r w c (Pokes s n region word mask rest) cause is = absurd (cc is)
quiet_own r w c (PokesNothing s region word mask rest) cause is = absurd (cc is)
quiet_own r w c (Audits b n rs failed rest) cause is = quiet_failure r failed
quiet_own r w c (IsRefusedAudit s work n why rest) cause is = quiet_both r work _ (quiet_cut_by r w false why work cause.0) refl
quiet_own r w c (Checkpoints since b n m until current rest) cause is = refl
quiet_own r w c (FailsCheckpoint since b n until q rs failed rest) cause is =
    quiet_span r (Some (since, until)) (audit_own b n (q ∷ rs) ++ failure_own failed) (quiet_failure r failed)
quiet_own r w c (IsRefusedCheckpoint s span late work n why rest) cause is = quiet_refused r late span work n why (quiet_cut_by r w true why work cause.0)

-- ---- lines
abbrev answers_of : List Said → List Bool
answers_of lines = filter_map answer_in lines

silent_end : (end : Ending) → answers_of (end_line end ∷ []) ≡ []
silent_end (TakenBack n) = refl
silent_end (LeftBehind n cause) = refl

quiet_said : (x : Move) → is_poke x ≡ false → answers_of (said x) ≡ []
quiet_said (GivesWay t tries cs d work call f back end rest) is = silent_end end
quiet_said (GivesUp t tries cs d work call f back end rest) is = silent_end end
quiet_said (Pokes s n region word mask rest) is = absurd (cc is)
quiet_said (PokesNothing s region word mask rest) is = absurd (cc is)
quiet_said _ is = refl

-- ---- commands
abbrev pub coming : List Act → List (ℕ × ℕ)
coming acts = filter_map poke_in acts

-- in a transaction no poke stands; from its begin on the same pokes come
abbrev FitsAt : Place → List Act → Type 0
FitsAt (Outside s) rest = IsPlaced false rest
FitsAt (Within t tries cs d s) rest = IsPlaced true rest × IsPlaced false cs × (coming cs ≡ coming rest)
FitsAt (Again tries h s) rest = IsPlaced false rest
FitsAt (LeftOut s) rest = IsPlaced true rest
FitsAt (Gone t) rest = Unit {0}

behind_placed : (rest : List Act) → IsPlaced true rest → IsPlaced false (behind_close rest)
behind_placed [] h = tt
behind_placed (BeginAct ∷ rest) h = absurd h
behind_placed (Calls call ∷ rest) h = behind_placed rest h.1
behind_placed (Arms count ∷ rest) h = behind_placed rest h.1
behind_placed (CommitAct ∷ rest) h = h
behind_placed (AbortAct ∷ rest) h = h
behind_placed (PokeAct region word mask ∷ rest) h = absurd h
behind_placed (AuditAct ∷ rest) h = absurd h
behind_placed (CheckpointAct ∷ rest) h = absurd h

behind_coming : (rest : List Act) → IsPlaced true rest → coming rest ≡ coming (behind_close rest)
behind_coming [] h = refl
behind_coming (BeginAct ∷ rest) h = absurd h
behind_coming (Calls call ∷ rest) h = behind_coming rest h.1
behind_coming (Arms count ∷ rest) h = behind_coming rest h.1
behind_coming (CommitAct ∷ rest) h = refl
behind_coming (AbortAct ∷ rest) h = refl
behind_coming (PokeAct region word mask ∷ rest) h = absurd h
behind_coming (AuditAct ∷ rest) h = absurd h
behind_coming (CheckpointAct ∷ rest) h = absurd h

begin_placed : (place : Place) (s : Bool) (rest : List Act) → MayBegin place s → FitsAt place (BeginAct ∷ rest) → IsPlaced true rest
begin_placed (Outside u) s rest may h = h
begin_placed (Again tries k u) s rest may h = h
begin_placed (Within t tries cs d u) s rest may h = absurd may
begin_placed (LeftOut u) s rest may h = absurd may
begin_placed (Gone t) s rest may h = absurd may

skip_placed : (s : Bool) (act : Act) (rest : List Act) → IsPlaced true (act ∷ rest) → FitsAt (to (Skips s act rest)).place rest
skip_placed s BeginAct rest h = absurd h
skip_placed s (Calls call) rest h = h.1
skip_placed s (Arms count) rest h = h.1
skip_placed s CommitAct rest h = h
skip_placed s AbortAct rest h = h
skip_placed s (PokeAct region word mask) rest h = absurd h
skip_placed s AuditAct rest h = absurd h
skip_placed s CheckpointAct rest h = absurd h

skip_coming : (act : Act) (rest : List Act) → IsPlaced true (act ∷ rest) → coming (act ∷ rest) ≡ coming rest
skip_coming BeginAct rest h = absurd h
skip_coming (Calls call) rest h = refl
skip_coming (Arms count) rest h = refl
skip_coming CommitAct rest h = refl
skip_coming AbortAct rest h = refl
skip_coming (PokeAct region word mask) rest h = absurd h
skip_coming AuditAct rest h = absurd h
skip_coming CheckpointAct rest h = absurd h

abbrev pub Fits : Spot → Type 0
Fits s = FitsAt s.place s.rest

pub fits_on : (w : World) (c : ℕ) (x : Move) → HasCause w c x → Fits (from x) → Fits (to x)
fits_on w c (Begins t n rest) cause h = (h, h, refl)
fits_on w c (BeginsAgain t n tries k rest) cause h = (h, h, refl)
fits_on w c (IsRefusedBegin place s n why rest) cause h = begin_placed place s rest cause.0 h
fits_on w c (Skips s act rest) cause h = skip_placed s act rest h
fits_on w c (Rests t act rest) cause h = tt
fits_on w c (Answers t tries cs d work n call a rest) cause h = (h.0.1, h.1, h.2)
fits_on w c (IsRefusedCall t tries cs d s work n back call why rest) cause h = (h.0.1, h.1, h.2)
fits_on w c (Dies t tries cs d work n q call rest) cause h = tt
fits_on w c (IsArmed t tries cs d s count rest) cause h = (h.0.1, h.1, h.2)
fits_on w c (GivesWay t tries cs d work call f back end rest) cause h = h.1
fits_on w c (GivesUp t tries cs d work call f back end rest) cause h = behind_placed rest h.0.1
fits_on w c (Ends t tries cs d work n) cause h = tt
fits_on w c (StaysOpen t tries cs d s work n why) cause h = tt
fits_on w c (Pokes s n region word mask rest) cause h = h.3
fits_on w c (PokesNothing s region word mask rest) cause h = h.3
fits_on w c (Audits b n rs failed rest) cause h = h
fits_on w c (IsRefusedAudit s work n why rest) cause h = h
fits_on w c (Checkpoints since b n m until current rest) cause h = h
fits_on w c (FailsCheckpoint since b n until q rs failed rest) cause h = h
fits_on w c (IsRefusedCheckpoint s span late work n why rest) cause h = h
fits_on w c _ cause h = h.0

-- a client that died
abbrev is_gone : Move → Bool
is_gone (Dies t tries cs d work n q call rest) = true
is_gone (Rests t act rest) = true
is_gone x = false

pub coming_stays : (x : Move) → is_poke x ≡ false → is_gone x ≡ false → Fits (from x) → coming (from x).rest ≡ coming (to x).rest
coming_stays (Skips s act rest) is here h = skip_coming act rest h
coming_stays (Rests t act rest) is here h = absurd (cc here)
coming_stays (Dies t tries cs d work n q call rest) is here h = absurd (cc here)
coming_stays (GivesWay t tries cs d work call f back end rest) is here h = sym h.2
coming_stays (GivesUp t tries cs d work call f back end rest) is here h = behind_coming rest h.0.1
coming_stays (Pokes s n region word mask rest) is here h = absurd (cc is)
coming_stays (PokesNothing s region word mask rest) is here h = absurd (cc is)
coming_stays _ is here h = refl

-- ---- a client that died does and says nothing more
abbrev AtEnd : Place → Type 0
AtEnd (Gone t) = Unit {0}
AtEnd place = ⊥

gone_rests : (w : World) (c : ℕ) (x : Move) → HasCause w c x → AtEnd (from x).place → (own x ≡ []) × (said x ≡ []) × AtEnd (to x).place
gone_rests w c (Rests t act rest) cause at = (refl, refl, tt)
gone_rests w c (IsRefusedBegin (Gone t) s n why rest) cause at = absurd cause.0
gone_rests w c x cause at = absurd at

gone_path : (r : ℕ) (w : World) (c : ℕ) (p q : Spot) (xs : List Move) → IsPath w c p xs q → AtEnd p.place → (own_masks r (own_by xs) ≡ []) × (answers_of (said_by xs) ≡ [])
gone_path r w c p q [] path at = (refl, refl)
gone_path r w c p q (x ∷ xs) path at =
    let here = gone_rests w c x path.1 (subst (λ (s : Spot). AtEnd s.place) path.0 at) in
    let later = gone_path r w c (to x) q xs path.2 here.2 in (
      ap (λ (l : List Receipt). own_masks r (l ++ own_by xs)) here.0 ∙ later.0,
      ap (λ (l : List Said). answers_of (l ++ said_by xs)) here.1 ∙ later.1,
    )

-- ---- a path
abbrev Matches : ℕ → List Move → List Act → Type 0
Matches r xs acts = own_masks r (own_by xs) ≡ done_on r (answers_of (said_by xs)) (coming acts)

matches_none : (r : ℕ) (xs : List Move) (acts : List Act) → own_masks r (own_by xs) ≡ [] → answers_of (said_by xs) ≡ [] → Matches r xs acts
matches_none r xs acts none silent = none ∙ sym (ap (λ (l : List Bool). done_on r l (coming acts)) silent)

matches_quiet : (r : ℕ) (w : World) (c : ℕ) (x : Move) (xs : List Move) → HasCause w c x → is_poke x ≡ false → is_gone x ≡ false → Fits (from x) → Matches r xs (to x).rest
    → Matches r (x ∷ xs) (from x).rest
matches_quiet r w c x xs cause is here fits rest =
    let deeds = flat_map-append (mask_of r) (own x) (own_by xs) ∙ ap (λ (l : List ℕ). l ++ own_masks r (own_by xs)) (quiet_own r w c x cause is) in
    let lines = filter_map-append answer_in (said x) (said_by xs) ∙ ap (λ (l : List Bool). l ++ answers_of (said_by xs)) (quiet_said x is) in
    deeds ∙ rest
    ∙ sym (ap (λ (l : List Bool). done_on r l (coming (from x).rest)) lines ∙ ap (done_on r (answers_of (said_by xs))) (coming_stays x is here fits))

matches_first : (r : ℕ) (w : World) (c : ℕ) (q : Spot) (x : Move) (xs : List Move) → HasCause w c x → IsPath w c (to x) xs q → Fits (from x) → Matches r xs (to x).rest
    → Matches r (x ∷ xs) (from x).rest
matches_first r w c q (Pokes s n region word mask rest) xs cause path fits later = ap (λ (l : List ℕ). mask_on r region mask ++ l) later
matches_first r w c q (PokesNothing s region word mask rest) xs cause path fits later = later
matches_first r w c q (Dies t tries cs d work n z call rest) xs cause path fits later =
    let x = Dies t tries cs d work n z call rest in
    let gone = gone_path r w c (to x) q xs path tt in
    matches_none r (x ∷ xs) (from x).rest (quiet_both r (own x) (own_by xs) (quiet_own r w c x cause refl) gone.0) gone.1
matches_first r w c q (Rests t act rest) xs cause path fits later =
    let x = Rests t act rest in
    let gone = gone_path r w c (to x) q xs path tt in
    matches_none r (x ∷ xs) (from x).rest gone.0 gone.1
matches_first r w c q (Begins t n rest) xs cause path fits later = matches_quiet r w c (Begins t n rest) xs cause refl refl fits later
matches_first r w c q (BeginsAgain t n tries k rest) xs cause path fits later = matches_quiet r w c (BeginsAgain t n tries k rest) xs cause refl refl fits later
matches_first r w c q (IsRefusedBegin place s n why rest) xs cause path fits later = matches_quiet r w c (IsRefusedBegin place s n why rest) xs cause refl refl fits later
matches_first r w c q (Skips s act rest) xs cause path fits later = matches_quiet r w c (Skips s act rest) xs cause refl refl fits later
matches_first r w c q (Answers t tries cs d work n call a rest) xs cause path fits later = matches_quiet r w c (Answers t tries cs d work n call a rest) xs cause refl refl fits later
matches_first r w c q (IsRefusedCall t tries cs d s work n back call why rest) xs cause path fits later =
    matches_quiet r w c (IsRefusedCall t tries cs d s work n back call why rest) xs cause refl refl fits later
matches_first r w c q (IsArmed t tries cs d s count rest) xs cause path fits later = matches_quiet r w c (IsArmed t tries cs d s count rest) xs cause refl refl fits later
matches_first r w c q (GivesWay t tries cs d work call f back end rest) xs cause path fits later =
    matches_quiet r w c (GivesWay t tries cs d work call f back end rest) xs cause refl refl fits later
matches_first r w c q (GivesUp t tries cs d work call f back end rest) xs cause path fits later =
    matches_quiet r w c (GivesUp t tries cs d work call f back end rest) xs cause refl refl fits later
matches_first r w c q (Commits t tries cs d n behind rest) xs cause path fits later = matches_quiet r w c (Commits t tries cs d n behind rest) xs cause refl refl fits later
matches_first r w c q (CommitFails t tries cs d n m why rest) xs cause path fits later = matches_quiet r w c (CommitFails t tries cs d n m why rest) xs cause refl refl fits later
matches_first r w c q (IsRefusedCommit t tries cs d s n why rest) xs cause path fits later =
    matches_quiet r w c (IsRefusedCommit t tries cs d s n why rest) xs cause refl refl fits later
matches_first r w c q (Aborts t tries cs d work n rest) xs cause path fits later = matches_quiet r w c (Aborts t tries cs d work n rest) xs cause refl refl fits later
matches_first r w c q (IsRefusedAbort t tries cs d s work n why rest) xs cause path fits later =
    matches_quiet r w c (IsRefusedAbort t tries cs d s work n why rest) xs cause refl refl fits later
matches_first r w c q (Ends t tries cs d work n) xs cause path fits later = matches_quiet r w c (Ends t tries cs d work n) xs cause refl refl fits later
matches_first r w c q (StaysOpen t tries cs d s work n why) xs cause path fits later = matches_quiet r w c (StaysOpen t tries cs d s work n why) xs cause refl refl fits later
matches_first r w c q (Audits b n rs failed rest) xs cause path fits later = matches_quiet r w c (Audits b n rs failed rest) xs cause refl refl fits later
matches_first r w c q (IsRefusedAudit s work n why rest) xs cause path fits later = matches_quiet r w c (IsRefusedAudit s work n why rest) xs cause refl refl fits later
matches_first r w c q (Checkpoints since b n m until current rest) xs cause path fits later =
    matches_quiet r w c (Checkpoints since b n m until current rest) xs cause refl refl fits later
matches_first r w c q (FailsCheckpoint since b n until z rs failed rest) xs cause path fits later =
    matches_quiet r w c (FailsCheckpoint since b n until z rs failed rest) xs cause refl refl fits later
matches_first r w c q (IsRefusedCheckpoint s span late work n why rest) xs cause path fits later =
    matches_quiet r w c (IsRefusedCheckpoint s span late work n why rest) xs cause refl refl fits later

path_matches : (r : ℕ) (w : World) (c : ℕ) (p q : Spot) (xs : List Move) → IsPath w c p xs q → Fits p → Matches r xs p.rest
path_matches r w c p q [] path fits = refl
path_matches r w c p q (x ∷ xs) path fits =
    let here = subst Fits path.0 fits in
    let later = path_matches r w c (to x) q xs path.2 (fits_on w c x path.1 here) in
    subst (λ (s : Spot). Matches r (x ∷ xs) s.rest) (sym path.0) (matches_first r w c q x xs path.1 path.2 here later)

-- ---- a transcript
pub client_matches : (r : ℕ) (w : World) (c : ℕ) (acts : List Act) (lines : List Said) (did : List Receipt) → IsPlaced false acts → IsTranscript w c acts lines did
    → own_masks r did ≡ masks_in r acts lines
client_matches r w c acts lines did placed t =
    let so_far = t.so_far in
    let end : Spot = record { place = t.place; rest = [] } in
    let matched = path_matches r w c (start acts) end so_far.moves so_far.path placed in
    ap (own_masks r) (so_far.did_are ∙ append-nil (own_by so_far.moves)) ∙ matched
    ∙ sym (ap (λ (l : List Said). done_on r (answers_of l) (coming acts)) so_far.lines_are)
