-- After a death nothing is said, and no try follows the thousandth.
use Rattle.std.proofs.Common.{◌≡◌, ℕ, Bool, true, false, List, [], ◌∷◌, ◌++◌, refl, ap, subst, ◌∙◌, arith}
use Rattle.std.specs.Prelude.{if◌then◌else◌}
use Rattle.std.proofs.lemmas.List.Concat.{flat_map-cons}
use Rattle.dali_transcripts.specs.Words.{Act, Said, closes}
use Rattle.dali_transcripts.specs.World.{World}
use Rattle.dali_transcripts.specs.Moves.{Place, Outside, Again, LeftOut, Gone, Spot, Ending, TakenBack, LeftBehind, Move, Begins, BeginsAgain, IsRefusedBegin, Skips, Rests, Answers, IsRefusedCall, Dies, IsArmed, GivesWay, GivesUp, from, said, own, to, at, end_line}
use Rattle.dali_transcripts.specs.Causes.{HasCause, MayBegin}
use Rattle.dali_transcripts.specs.Transcripts.{IsPath, said_by, own_by}
use Rattle.dali_transcripts.specs.Laws.{GoneIsSilent, FewTries, TriesAreFew, behind_died, NothingAfterDied}

abbrev is_gone : Place → Bool
is_gone (Gone t) = true
is_gone place = false

not_gone : (place : Place) (s : Bool) → MayBegin place s → is_gone place ≡ false
not_gone (Outside u) s h = refl
not_gone (Again tries held u) s h = refl
not_gone place s h = absurd h

abbrev Silent : Move → Type 0
Silent x = (said x ≡ []) × (own x ≡ []) × (is_gone (to x).place ≡ true)

silent : (w : World) (c : ℕ) (x : Move) → HasCause w c x → is_gone (from x).place ≡ true → Silent x
silent w c (Rests t act rest) h e = (refl, refl, refl)
silent w c (IsRefusedBegin place s n why rest) h e = let f : is_gone place ≡ false = not_gone place s h.0 in absurd (cc)
silent w c x h e = absurd (cc)

all_silent : (w : World) (c : ℕ) (p : Spot) (xs : List Move) (q : Spot) → is_gone p.place ≡ true → IsPath w c p xs q → (said_by xs ≡ []) × (own_by xs ≡ [])
all_silent w c p [] q e path = (refl, refl)
all_silent w c p (x ∷ xs) q e path =
    let here : Silent x = silent w c x path.1 (subst (λ s. is_gone s.place ≡ true) path.0 e) in
    let later = all_silent w c (to x) xs q here.2 path.2 in
    (flat_map-cons said x xs ∙ (ap (λ l. l ++ said_by xs) here.0 ∙ later.0), flat_map-cons own x xs ∙ (ap (λ l. l ++ own_by xs) here.1 ∙ later.1))

pub gone_is_silent : GoneIsSilent
gone_is_silent w c t acts xs q path = all_silent w c (at (Gone t) acts) xs q refl path

-- ---- tries
skips_few : (s : Bool) (act : Act) (b : Bool) → FewTries (if b then Outside s else LeftOut s)
skips_few s act true = tt
skips_few s act false = tt

few : (w : World) (c : ℕ) (x : Move) → HasCause w c x → FewTries (from x).place → FewTries (to x).place
few w c (Begins t n rest) h old = omega arith
few w c (BeginsAgain t n tries held rest) h old = old
few w c (Skips s act rest) h old = skips_few s act (closes act)
few w c (Answers t tries cs d xs n call a rest) h old = old
few w c (IsRefusedCall t tries cs d s xs n ys call why rest) h old = old
few w c (IsArmed t tries cs d s count rest) h old = old
few w c (GivesWay t tries cs d xs call f ys end rest) h old = h.4
few w c _ h old = tt

all_few : (w : World) (c : ℕ) (p : Spot) (xs : List Move) (q : Spot) → FewTries p.place → IsPath w c p xs q → FewTries q.place
all_few w c p [] q old path = subst (λ (s : Spot). FewTries s.place) path old
all_few w c p (x ∷ xs) q old path = all_few w c (to x) xs q (few w c x path.1 (subst (λ (s : Spot). FewTries s.place) path.0 old)) path.2

pub tries_are_few : TriesAreFew
tries_are_few w c acts lines did pending q so = all_few w c _ so.moves q tt so.path

-- ---- lines after a death
-- the lines behind the first death, of a step that isn't one
ended_on : (end : Ending) (lines : List Said) → behind_died (end_line end ∷ lines) ≡ behind_died lines
ended_on (TakenBack n) lines = refl
ended_on (LeftBehind n z) lines = refl

dies : Move → Bool
dies (Dies t tries cs d xs n r call rest) = true
dies x = false

lives_on : (x : Move) (lines : List Said) → dies x ≡ false → behind_died (said x ++ lines) ≡ behind_died lines
unfolding dies
lives_on (GivesWay t tries cs d xs call f ys end rest) lines e = ended_on end lines
lives_on (GivesUp t tries cs d xs call f ys end rest) lines e = ended_on end lines
lives_on (Dies t tries cs d xs n r call rest) lines e = absurd (cc)
lives_on x lines e = refl

one_behind : (w : World) (c : ℕ) (x : Move) (xs : List Move) (q : Spot) (b : Bool) → dies x ≡ b → IsPath w c (to x) xs q → behind_died (said_by xs) ≡ [] → behind_died (said x ++ said_by xs) ≡ []
unfolding dies
one_behind w c x xs q false e path later = lives_on x (said_by xs) e ∙ later
one_behind w c (Dies t tries cs d work n r call rest) xs q true e path later = (all_silent w c _ xs q refl path).0
one_behind w c x xs q true e path later = absurd (cc)

none_behind : (w : World) (c : ℕ) (p : Spot) (xs : List Move) (q : Spot) → IsPath w c p xs q → behind_died (said_by xs) ≡ []
none_behind w c p [] q path = refl
none_behind w c p (x ∷ xs) q path = ap behind_died (flat_map-cons said x xs) ∙ one_behind w c x xs q (dies x) refl path.2 (none_behind w c (to x) xs q path.2)

pub nothing_after_died : NothingAfterDied
nothing_after_died w c acts lines did transcript = let so = transcript.so_far in ap behind_died so.lines_are ∙ none_behind w c _ so.moves _ so.path
