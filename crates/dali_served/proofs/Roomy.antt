-- Lines of answered calls, for which there was room.
use Rattle.std.proofs.Common.{◌≡◌, ℕ, Bool, true, List, [], ◌∷◌, ◌++◌, refl, sym, ◌∙◌, ap, subst}
use Rattle.std.specs.Prelude.{◌&&◌, Contains}
use Rattle.std.specs.List.{list_all}
use Rattle.std.proofs.lemmas.List.Concat.{flat_map-cons}
use Rattle.std.proofs.lemmas.List.Elements.{Contains-append_left, Contains-append_right, Contains-push}
use Rattle.std.proofs.lemmas.Bool.{and_parts}
use Rattle.dali_record.specs.declared.records.Answer.{Answer}
use Rattle.dali_record.specs.declared.records.Call.{Call}
use Rattle.dali_record.specs.declared.records.Record.TheVariants.{Done}
use Rattle.dali_transcripts.specs.Words.{Said}
use Rattle.dali_transcripts.specs.World.{Logs}
use Rattle.dali_transcripts.specs.Moves.{Receipt, TakenBack, LeftBehind, Move, Begins, BeginsAgain, Skips, Rests, Answers, IsArmed, GivesWay, Commits, said, own}
use Rattle.dali_transcripts.specs.Transcripts.{said_by, own_by}
use Rattle.dali_served.specs.Served.{has_room, is_served}
use Rattle.dali_served.specs.Steady.{is_answered}

abbrev pub HasRooms : List Receipt → Type 0
HasRooms xs = (n t : ℕ) (call : Call) (a : Answer) → Contains xs (n, Logs (Done t call a)) → has_room a ≡ true

all_split : (p : Said → Bool) (xs ys : List Said) → list_all p (xs ++ ys) ≡ true → (list_all p xs ≡ true) × (list_all p ys ≡ true)
all_split p [] ys e = (refl, e)
all_split p (x ∷ xs) ys e =
    let one = and_parts (p x) (list_all p (xs ++ ys)) e in
    let two = all_split p xs ys one.1 in
    (ap (λ b. b && list_all p xs) one.0 ∙ two.0, two.1)

all_join : (p : Said → Bool) (xs ys : List Said) → list_all p xs ≡ true → list_all p ys ≡ true → list_all p (xs ++ ys) ≡ true
all_join p [] ys e f = f
all_join p (x ∷ xs) ys e f =
    let one = and_parts (p x) (list_all p xs) e in
    ap (λ b. b && list_all p (xs ++ ys)) one.0 ∙ all_join p xs ys one.1 f

one_served : (x : Move) → list_all is_answered (said x) ≡ true → HasRooms (own x) → list_all is_served (said x) ≡ true
one_served (Begins u n rest) e h = refl
one_served (BeginsAgain u n tries held rest) e h = refl
one_served (Skips s act rest) e h = refl
one_served (Rests u act rest) e h = refl
one_served (IsArmed u tries cs d s count rest) e h = refl
one_served (Answers u tries cs d work n call a rest) e h = ap (λ b. b && true) (h n u call a (Contains-push work (n, Logs (Done u call a))))
one_served (Commits u tries cs d n behind rest) e h = refl
one_served (GivesWay u tries cs d work call f back (TakenBack n) rest) e h = absurd cc
one_served (GivesWay u tries cs d work call f back (LeftBehind n z) rest) e h = absurd cc
one_served x e h = absurd cc

pub path_served : (xs : List Move) → list_all is_answered (said_by xs) ≡ true → HasRooms (own_by xs) → list_all is_served (said_by xs) ≡ true
path_served [] e h = refl
path_served (x ∷ xs) e h =
    let parts = all_split is_answered (said x) (said_by xs) (subst (λ l. list_all is_answered l ≡ true) (flat_map-cons said x xs) e) in
    let all : HasRooms (own x ++ own_by xs) = subst HasRooms (flat_map-cons own x xs) h in
    subst (λ l. list_all is_served l ≡ true) (sym (flat_map-cons said x xs))
    (all_join is_served (said x) (said_by xs) (one_served x parts.0 (λ n t call a has. all n t call a (Contains-append_left (own x) (own_by xs) _ has)))
    (path_served xs parts.1 (λ n t call a has. all n t call a (Contains-append_right (own x) (own_by xs) _ has))))
