-- Paths of a client, one step longer.
use Rattle.std.proofs.Common.{◌≡◌, ℕ, List, [], ◌∷◌, ◌++◌, refl, ap, sym, ◌∙◌}
use Rattle.std.proofs.lemmas.Grind.{flat_map-append}
use Rattle.std.proofs.lemmas.List.{append-nil, append_assoc}
use Rattle.dali_transcripts.specs.World.{World}
use Rattle.dali_transcripts.specs.Moves.{Spot, Move, from, said, own, to}
use Rattle.dali_transcripts.specs.Causes.{HasCause}
use Rattle.dali_transcripts.specs.Transcripts.{IsPath, said_by, own_by}
use Rattle.dali_transcripts.specs.Laws.{OneMoreDeed, OneMoreStep}

pub longer : (w : World) (c : ℕ) (p : Spot) (xs : List Move) (q : Spot) (x : Move) → IsPath w c p xs q → q ≡ from x → HasCause w c x → IsPath w c p (xs ++ x ∷ []) (to x)
longer w c p [] q x path stands cause = (path ∙ stands, cause, refl)
longer w c p (y ∷ ys) q x path stands cause = (path.0, path.1, longer w c (to y) ys q x path.2 stands cause)

pub one_more_deed : OneMoreDeed
one_more_deed w c acts lines logged pending q x so = record {
  moves = so.moves;
  path = so.path;
  lines_are = so.lines_are;
  did_are = ap (λ l. l ++ x ∷ []) so.did_are ∙ append_assoc (own_by so.moves) pending (x ∷ []);
}

pub one_more_step : OneMoreStep
one_more_step w c acts lines logged pending q x so stands whole cause = record {
  moves = so.moves ++ x ∷ [];
  path = longer w c _ so.moves q x so.path stands cause;
  lines_are = ap (λ l. l ++ said x) so.lines_are ∙ (ap (λ l. said_by so.moves ++ l) (sym (append-nil (said x))) ∙ sym (flat_map-append said so.moves (x ∷ [])));
  did_are = so.did_are ∙ (ap (λ l. own_by so.moves ++ l) (whole ∙ sym (append-nil (own x))) ∙ (sym (flat_map-append own so.moves (x ∷ [])) ∙ sym (append-nil (own_by (so.moves ++ x ∷ [])))));
}
