-- A round whose clients poke nothing leaves each region as poked as it was, where it was cut too.
use Rattle.std.proofs.Common.{◌≡◌, ℕ, Bool, true, false, List, [], ◌∷◌, ◌++◌, Option, map, refl, sym, ◌∙◌, ap, subst}
use Rattle.std.specs.Prelude.{◌==◌, ◌⊎◌, filter_map, if◌then◌else◌, length}
use Rattle.std.specs.List.{AllByRecursion, list_all, list_any}
use Rattle.std.proofs.Common.{inl, inr}
use Rattle.std.proofs.lemmas.Bool.{eqb-true, eq-eqb, and_parts}
use Rattle.dali_record.specs.declared.records.Call.{Call}
use Rattle.dali_record.specs.declared.records.Record.TheVariants.{AuditBegin}
use Rattle.dali_script.specs.declared.commands.ClientCommand.{ClientCommand}
use Rattle.dali_script.specs.declared.commands.ClientCommand.TheVariants as clients
use Rattle.dali_transcripts.specs.Words.{Act, Calls, Aborts as AbortAct, Pokes as PokeAct, Audits as AuditAct, Checkpoints as CheckpointAct, Said}
use Rattle.dali_transcripts.specs.World.{Logs, StartsCheckpoint, EndsCheckpoint, Meets, Yields, Happening, World}
use Rattle.dali_transcripts.specs.Moves.{Receipt, Place, Outside, Within, Spot, Move, Rests, Dies, Pokes, PokesNothing, from, own, to, start}
use Rattle.dali_transcripts.specs.Causes.{AreUnfinished, IsBegun, IsCutAside, IsCutWork, IsGivingWay, IsStarted, IsTurnedBack, IsUnanswered, MayBeOver}
use Rattle.dali_transcripts.specs.Transcripts.{AreTranscripts, EachTells, IsPath, IsUnderWay, MayBeCut, Told, count_with, deeds_of, is_among, owned, owned_one, own_by}
use Rattle.dali_transcripts.specs.Rounds.{IsPlaced}
use Rattle.dali_run.specs.Honest.{is_poke}
use Rattle.dali_run.specs.Masks.{answer_in, done_on, poke_in}
use Rattle.dali_run.specs.Told.{act_by}
use Rattle.dali_run.proofs.Pokings.{Fits, client_matches, coming, coming_stays, fits_on, is_poke as is_poking, mask_of, own_masks, quiet_all, quiet_aside, quiet_asking, quiet_both, quiet_own, quiet_tried}
use Rattle.dali_run.proofs.Sums.{masks_at}

-- ---- commands of blocks
pub coming_none : (commands : List ClientCommand) → list_any is_poke commands ≡ false → filter_map poke_in (map act_by commands) ≡ []
coming_none [] none = refl
coming_none (clients.Poke region word mask ∷ later) none = absurd (cc none)
coming_none (clients.Audit ∷ later) none = coming_none later none
coming_none (clients.Checkpoint ∷ later) none = coming_none later none
coming_none (_ ∷ later) none = coming_none later none

-- ---- one client
rests_none : (act : Act) (rest : List Act) → coming (act ∷ rest) ≡ [] → coming rest ≡ []
rests_none (PokeAct region word mask) rest none = absurd (cc none)
rests_none _ rest none = none

quiet_move : (x : Move) → Fits (from x) → coming (from x).rest ≡ [] → (is_poking x ≡ false) × (coming (to x).rest ≡ [])
quiet_move (Pokes s n region word mask rest) fits none = absurd (cc none)
quiet_move (PokesNothing s region word mask rest) fits none = absurd (cc none)
quiet_move (Dies t tries cs d work n r call rest) fits none = (refl, none)
quiet_move (Rests t act rest) fits none = (refl, rests_none act rest none)
quiet_move x fits none = (refl, sym (coming_stays x refl refl fits) ∙ none)

quiet_path : (r : ℕ) (w : World) (c : ℕ) (p q : Spot) (xs : List Move) → IsPath w c p xs q → Fits p → coming p.rest ≡ [] → (own_masks r (own_by xs) ≡ []) × Fits q × (coming q.rest ≡ [])
quiet_path r w c p q [] path fits none = (refl, subst Fits path fits, ap (λ (s : Spot). coming s.rest) (sym path) ∙ none)
quiet_path r w c p q (x ∷ xs) path fits none =
    let here = subst Fits path.0 fits in
    let quiet = quiet_move x here (ap (λ (s : Spot). coming s.rest) (sym path.0) ∙ none) in
    let later = quiet_path r w c (to x) q xs path.2 (fits_on w c x path.1 here) quiet.1 in
    (quiet_both r (own x) (own_by xs) (quiet_own r w c x path.1 quiet.0) later.0, later.1, later.2)

quiet_begun : (r : ℕ) (xs : List Receipt) → IsBegun xs → own_masks r xs ≡ []
quiet_begun r [] is = refl
quiet_begun r ((b, Logs AuditBegin) ∷ []) is = refl
quiet_begun r xs is = absurd is

quiet_over : (r : ℕ) (xs : List Receipt) → MayBeOver xs → own_masks r xs ≡ []
quiet_over r [] is = refl
quiet_over r ((n, EndsCheckpoint) ∷ []) is = refl
quiet_over r xs is = absurd is

quiet_started : (r : ℕ) (xs : List Receipt) → IsStarted xs → own_masks r xs ≡ []
quiet_started r [] is = refl
quiet_started r ((since, StartsCheckpoint) ∷ (b, Logs AuditBegin) ∷ xs) is = quiet_over r xs is
quiet_started r ((since, StartsCheckpoint) ∷ xs) is = quiet_over r xs is
quiet_started r xs is = absurd is

quiet_call : (r : ℕ) (w : World) (c t : ℕ) (d : Option ℕ) (call : Call) (xs : List Receipt)
    → IsUnanswered w c t d call xs ⊎ (IsTurnedBack w c t d call xs ⊎ IsGivingWay w c t call xs) → own_masks r xs ≡ []
quiet_call r w c t d call xs (inl is) = quiet_all r (IsCutWork w c t call) (λ n region word mask p. p) xs is.work
quiet_call r w c t d call xs (inr (inl is)) =
    ap (own_masks r) is.is
    ∙ quiet_both r is.work ((is.at, Meets is.why) ∷ is.back) (quiet_tried r w c t call is.work is.tried) (quiet_all r (IsCutAside w c t) (λ n region word mask p. p) is.back is.aside)
quiet_call r w c t d call xs (inr (inr is)) =
    ap (own_masks r) is.is
    ∙ quiet_both r is.work ((is.refusal.at, Yields is.refusal) ∷ is.back) (quiet_asking r w c t call is.work is.asking) (quiet_aside r w c t is.back is.aside)

quiet_unfinished : (r : ℕ) (w : World) (c : ℕ) (place : Place) (rest : List Act) (xs : List Receipt) → AreUnfinished w c place rest xs → own_masks r xs ≡ []
quiet_unfinished r w c (Within t tries cs d s) (Calls call ∷ rest) xs are = quiet_call r w c t d call xs are
quiet_unfinished r w c (Within t tries cs d s) (AbortAct ∷ rest) xs are = quiet_aside r w c t xs are
quiet_unfinished r w c (Within t tries cs d s) [] xs are = quiet_aside r w c t xs are
quiet_unfinished r w c (Outside s) (AuditAct ∷ rest) xs are = quiet_begun r xs are
quiet_unfinished r w c (Outside s) (CheckpointAct ∷ rest) xs are = quiet_started r xs are
quiet_unfinished r w c place rest xs are = ap (own_masks r) are

quiet_under_way : (r : ℕ) (w : World) (c : ℕ) (q : Spot) (pending : List Receipt) (part : List Said) → IsUnderWay w c q pending part → Fits q → coming q.rest ≡ [] → own_masks r pending ≡ []
quiet_under_way r w c q pending part (inl unfinished) fits none = quiet_unfinished r w c q.place q.rest pending unfinished.1
quiet_under_way r w c q pending part (inr said) fits none =
    let quiet = quiet_move said.move (subst Fits said.starts fits) (ap (λ (s : Spot). coming s.rest) (sym said.starts) ∙ none) in
    ap (own_masks r) said.own_is ∙ quiet_own r w c said.move said.cause quiet.0

pub done_none : (r : ℕ) (answers : List Bool) → done_on r answers [] ≡ []
done_none r [] = refl
done_none r (true ∷ answers) = refl
done_none r (false ∷ answers) = refl

quiet_client : (r : ℕ) (whole : Bool) (w : World) (c : ℕ) (acts : List Act) (lines : List Said) (did : List Receipt) → IsPlaced false acts → coming acts ≡ [] → MayBeCut whole w c acts lines did
    → own_masks r did ≡ []
quiet_client r true w c acts lines did placed none tells =
    client_matches r w c acts lines did placed tells ∙ (ap (done_on r (filter_map answer_in lines)) none ∙ done_none r (filter_map answer_in lines))
quiet_client r false w c acts lines did placed none cut =
    let so_far = cut.so_far in
    let path = quiet_path r w c (start acts) cut.spot so_far.moves so_far.path placed none in
    ap (own_masks r) so_far.did_are ∙ quiet_both r (own_by so_far.moves) cut.pending path.0 (quiet_under_way r w c cut.spot cut.pending cut.part cut.under_way path.1 path.2)

-- ---- all clients
abbrev pub AreQuiet : List Told → Type 0
AreQuiet = AllByRecursion (λ (b : Told). IsPlaced false b.acts × (coming b.acts ≡ []))

of_one : (r : ℕ) (w : World) (b : Told) (bs : List Told) (c : ℕ) → own_masks r (deeds_of w b.client) ≡ [] → (is_among bs c ≡ true → own_masks r (deeds_of w c) ≡ []) → is_among (b ∷ bs) c ≡ true
    → own_masks r (deeds_of w c) ≡ []
of_one r w b bs c first later among = by_test (b.client == c) refl among
  where
    by_test : (same : Bool) → (b.client == c) ≡ same → (if same then true else is_among bs c) ≡ true → own_masks r (deeds_of w c) ≡ []
    by_test true is among = subst (λ (d : ℕ). own_masks r (deeds_of w d) ≡ []) (eqb-true b.client c is) first
    by_test false is among = later among

quiet_among : (r : ℕ) (whole : Bool) (w : World) (bs : List Told) (lines : List (List Said)) → AreQuiet bs → EachTells whole w bs lines → (c : ℕ) → is_among bs c ≡ true → own_masks r (deeds_of w c) ≡ []
quiet_among r whole w [] lines quiet tells c among = absurd (cc among)
quiet_among r whole w (b ∷ bs) (said ∷ more) quiet tells c among =
    of_one r w b bs c (quiet_client r whole w b.client b.acts said (deeds_of w b.client) quiet.0.0 quiet.0.1 tells.0) (λ later. quiet_among r whole w bs more quiet.1 tells.1 c later) among
quiet_among r false w (b ∷ bs) [] quiet tells c among =
    of_one r w b bs c (quiet_client r false w b.client b.acts [] (deeds_of w b.client) quiet.0.0 quiet.0.1 tells.0) (λ later. quiet_among r false w bs [] quiet.1 tells.1 c later) among
quiet_among r true w (b ∷ bs) [] quiet tells c among = absurd tells

none_left : {A : Type 0} (xs ys : List A) → xs ++ ys ≡ [] → (xs ≡ []) × (ys ≡ [])
none_left [] ys e = (refl, e)
none_left (x ∷ xs) ys e = absurd (cc e)

later_quiet : (r : ℕ) (own : Bool) (x : Receipt) (xs : List Receipt) → own_masks r (owned_one own x xs) ≡ [] → own_masks r xs ≡ []
later_quiet r true x xs e = (none_left (mask_of r x) (own_masks r xs) e).1
later_quiet r false x xs e = e

first_quiet : (r : ℕ) (own : Bool) (x : Receipt) (xs : List Receipt) → own ≡ true → own_masks r (owned_one own x xs) ≡ [] → mask_of r x ≡ []
first_quiet r true x xs is e = (none_left (mask_of r x) (own_masks r xs) e).0
first_quiet r false x xs is e = absurd (cc is)

quiet_happened : (r n : ℕ) (bs : List Told) (xs : List Happening) → list_all (λ (x : Happening). is_among bs x.1) xs ≡ true
    → ((c : ℕ) → is_among bs c ≡ true → own_masks r (owned c n xs) ≡ []) → masks_at r xs ≡ []
quiet_happened r n bs [] owners each = refl
quiet_happened r n bs ((x, d) ∷ xs) owners each =
    let parts = and_parts (is_among bs d) (list_all (λ (y : Happening). is_among bs y.1) xs) owners in
    let m = count_with n x in
    let later = quiet_happened r m bs xs parts.1 (λ c among. later_quiet r (d == c) (n, x) (owned c m xs) (each c among)) in
    ap (λ (l : List ℕ). l ++ masks_at r xs) (first_quiet r (d == d) (n, x) (owned d m xs) (eq-eqb d d refl) (each d parts.0)) ∙ later

pub quiet_round : (r : ℕ) (whole : Bool) (w : World) (bs : List Told) (lines : List (List Said)) → AreQuiet bs → AreTranscripts whole w bs lines → masks_at r w.happened ≡ []
quiet_round r whole w bs lines quiet t = quiet_happened r (length w.before) bs w.happened t.owners (quiet_among r whole w bs lines quiet t.each)
