-- A round goes on by a step of one client.
use Rattle.std.proofs.Common.{◌≡◌, ℕ, zero, suc, ◌+◌, ◌<◌, ◌≤◌, false, List, [], ◌∷◌, ◌++◌, length, refl, ap, sym, subst, ◌∙◌, ⊎_elim, arith}
use Rattle.std.specs.Prelude.{◌==◌, Contains}
use Rattle.std.proofs.lemmas.List.{append_assoc, append-nil, length-append}
use Rattle.std.proofs.lemmas.Bool.{false_from_ne_true}
use Rattle.dali_runs.proofs.CountsLemmas.Lists.{self, set_cases}
use Rattle.dali_transcripts.specs.Words.{Act, Said}
use Rattle.dali_transcripts.specs.World.{Deed, Logs, Strays, DiesOn, Claims, GivesBack, GetsLock, Yields, FindsDead, StartsCheckpoint, MovesAnchor, EndsCheckpoint, Meets, Happening, World, logged_by, log_of, Grows}
use Rattle.dali_transcripts.specs.Moves.{Receipt, Spot, at, start}
use Rattle.dali_transcripts.specs.Transcripts.{IsSoFar, IsPath, own_by, count_with, owned_one, owned, deeds_of}
use Rattle.dali_transcripts.specs.Rounds.{Stands, by, AreAnchors, RoundGoesOn, RoundIsDone, RoundIsCut}
use Rattle.dali_transcripts.specs.Laws.{receipts_from, DeedIsDone, DeedsAreDone, AnchorsRise}
use Rattle.dali_transcripts.proofs.Owned.{one_append, counts, others_go_on}
use Rattle.dali_transcripts.proofs.Growing.{world_goes_on}

-- the deeds of d are none of c's
pub others_stay : (c d n : ℕ) (happened : List Happening) (xs : List Deed) → (d == c) ≡ false → owned c n (happened ++ by d xs) ≡ owned c n happened
others_stay c d n happened [] other = ap (owned c n) (append-nil happened)
others_stay c d n happened (x ∷ xs) other =
    ap (owned c n) (sym (append_assoc happened ((x, d) ∷ []) (by d xs)))
    ∙ (others_stay c d n (happened ++ (x, d) ∷ []) xs other ∙ others_go_on c d n happened x other)

-- what c did, where the world goes on
deeds_are : (v w : World) (c : ℕ) (g : Grows v w) → deeds_of w c ≡ owned c (length v.before) (v.happened ++ g.more)
deeds_are v w c g = ap (λ b. owned c (length b) w.happened) g.before ∙ ap (owned c (length v.before)) g.happened

pub round_goes_on : RoundGoesOn
round_goes_on v w xs ss i s s' grows theirs differ here client all step j u e =
    ⊎_elim
    (λ at_i. subst (λ z. Stands w z) (sym at_i.1) step)
    (λ other.
    let apart : (s.client == u.client) ≡ false = false_from_ne_true (s.client == u.client) (λ same. other.0 (differ i j s u here other.1 same)) in
    let same : deeds_of w u.client ≡ deeds_of v u.client =
    deeds_are v w u.client grows ∙ (ap (λ l. owned u.client (length v.before) (v.happened ++ l)) theirs ∙ others_stay u.client s.client (length v.before) v.happened xs apart) in
    subst (λ l. IsSoFar w u.client u.acts u.lines l u.pending u.spot) (sym same)
    (world_goes_on v w u.client u.acts u.lines (deeds_of v u.client) u.pending u.spot grows (all j u other.1)))
    (set_cases ss i s' j u e)

owned_by : (c n : ℕ) (xs : List Deed) → owned c n (by c xs) ≡ receipts_from n xs
owned_by c n [] = refl
owned_by c n (x ∷ xs) = rw (self c) (ap (λ l. (n, x) ∷ l) (owned_by c (count_with n x) xs))

pub owned_append : (c n : ℕ) (ys zs : List Happening) → owned c n (ys ++ zs) ≡ owned c n ys ++ owned c (n + length (logged_by ys)) zs
owned_append c n [] zs = let e : n + 0 ≡ n = omega arith in rw e refl
owned_append c n (y ∷ ys) zs =
    ap (λ l. owned_one (y.1 == c) (n, y.0) l) (owned_append c (count_with n y.0) ys zs)
    ∙ (one_append (y.1 == c) (n, y.0) (owned c (count_with n y.0) ys) (owned c (count_with n y.0 + length (logged_by ys)) zs)
    ∙ ap (λ k. owned_one (y.1 == c) (n, y.0) (owned c (count_with n y.0) ys) ++ owned c k zs) (counts n y ys))

more_deeds : (w : World) (c : ℕ) (acts : List Act) (lines : List Said) (did pending : List Receipt) (q : Spot) (xs : List Receipt)
    → IsSoFar w c acts lines did pending q → IsSoFar w c acts lines (did ++ xs) (pending ++ xs) q
more_deeds w c acts lines did pending q xs so = record {
  moves = so.moves;
  path = so.path;
  lines_are = so.lines_are;
  did_are = ap (λ l. l ++ xs) so.did_are ∙ append_assoc (own_by so.moves) pending xs;
}

pub deeds_are_done : DeedsAreDone
deeds_are_done v w c acts lines pending q xs grows more so =
    let n = length (log_of v) in
    let same : deeds_of w c ≡ deeds_of v c ++ receipts_from n xs =
    deeds_are v w c grows
    ∙ (ap (λ l. owned c (length v.before) (v.happened ++ l)) more
    ∙ (owned_append c (length v.before) v.happened (by c xs)
    ∙ (ap (λ k. deeds_of v c ++ owned c k (by c xs)) (sym (length-append v.before (logged_by v.happened)))
    ∙ ap (λ l. deeds_of v c ++ l) (owned_by c n xs)))) in
    subst (λ l. IsSoFar w c acts lines l (pending ++ receipts_from n xs) q) (sym same)
    (more_deeds w c acts lines (deeds_of v c) pending q (receipts_from n xs) (world_goes_on v w c acts lines (deeds_of v c) pending q grows so))

pub deed_is_done : DeedIsDone
deed_is_done v w c acts lines pending q x grows more so = deeds_are_done v w c acts lines pending q (x ∷ []) grows more so

spot_is : (p : Spot) → p.rest ≡ [] → p ≡ record { place = p.place; rest = [] }
spot_is p e = ap (λ (l : List Act). at p.place l) e

pub round_is_done : RoundIsDone
round_is_done w [] all done = tt
round_is_done w (s ∷ ss) all done =
    let here = all 0 s refl in
    let d = done 0 s refl in (
      record {
        place = s.spot.place;
        over = d.0;
        so_far = record {
          moves = here.moves;
          path = subst (λ (z : Spot). IsPath w s.client (start s.acts) here.moves z) (spot_is s.spot d.1) here.path;
          lines_are = here.lines_are;
          did_are = here.did_are ∙ ap (λ l. own_by here.moves ++ l) d.2;
        };
      },
      round_is_done w ss (λ i u e. all (suc i) u e) (λ i u e. done (suc i) u e),
    )

pub round_is_cut : RoundIsCut
round_is_cut w [] all lacks = tt
round_is_cut w (s ∷ ss) all lacks =
    let here = all 0 s refl in (
      record {
        spot = s.spot;
        pending = s.pending;
        told = s.lines;
        part = [];
        lines_are = sym (append-nil s.lines);
        so_far = here;
        under_way = lacks 0 s refl;
      },
      round_is_cut w ss (λ i u e. all (suc i) u e) (λ i u e. lacks (suc i) u e),
    )

-- ---- the anchor
no_lower : (old new : ℕ) (xs : List Happening) → AreAnchors old xs new → old ≤ new
no_lower old new [] h = omega (arith, h)
no_lower old new ((MovesAnchor n, c) ∷ xs) h = let more = no_lower n new xs h.1 in omega (arith, h.0, more)
no_lower old new (_ ∷ xs) h = no_lower old new xs h

Rises : ℕ → ℕ → ℕ → Type 0
Rises old new n = (old < n) × (n ≤ new)

anchor_in : (old new m d : ℕ) (xs : List Happening) (n c : ℕ) → m ≡ old + 1 → AreAnchors m xs new → (Contains xs (MovesAnchor n, c) → Rises m new n) → Contains ((MovesAnchor m, d) ∷ xs) (MovesAnchor n, c) → Rises old new n
unfolding Rises
anchor_in old new m d xs n c e moves more (zero, below, is) =
    let deed : MovesAnchor m ≡ MovesAnchor n = ap (λ (z : Happening). z.0) is in
    let same : m ≡ n = cc in
    let up = no_lower m new xs moves in (omega (arith, e, same), omega (arith, up, same))
anchor_in old new m d xs n c e moves more (suc k, below, is) = let r = more (k, omega (arith, below), is) in (omega (arith, r.0, e), r.1)

passed : (y : Deed) (d : ℕ) (xs : List Happening) (n c : ℕ) → (y ≡ MovesAnchor n → ⊥) → Contains ((y, d) ∷ xs) (MovesAnchor n, c) → Contains xs (MovesAnchor n, c)
passed y d xs n c other (zero, below, is) = absurd (other (ap (λ (z : Happening). z.0) is))
passed y d xs n c other (suc k, below, is) = (k, omega (arith, below), is)

rises : (old new : ℕ) (xs : List Happening) (n c : ℕ) → AreAnchors old xs new → Contains xs (MovesAnchor n, c) → Rises old new n
rises old new [] n c h (k, below, is) = absurd (omega (arith, below))
rises old new ((MovesAnchor m, d) ∷ xs) n c h has = anchor_in old new m d xs n c h.0 h.1 (rises m new xs n c h.1) has
rises old new ((Logs x, d) ∷ xs) n c h has = rises old new xs n c h (passed (Logs x) d xs n c (λ e. absurd (cc)) has)
rises old new ((Strays r word mask, d) ∷ xs) n c h has = rises old new xs n c h (passed (Strays r word mask) d xs n c (λ e. absurd (cc)) has)
rises old new ((DiesOn t r, d) ∷ xs) n c h has = rises old new xs n c h (passed (DiesOn t r) d xs n c (λ e. absurd (cc)) has)
rises old new ((Claims u, d) ∷ xs) n c h has = rises old new xs n c h (passed (Claims u) d xs n c (λ e. absurd (cc)) has)
rises old new ((GivesBack u o, d) ∷ xs) n c h has = rises old new xs n c h (passed (GivesBack u o) d xs n c (λ e. absurd (cc)) has)
rises old new ((Yields f, d) ∷ xs) n c h has = rises old new xs n c h (passed (Yields f) d xs n c (λ e. absurd (cc)) has)
rises old new ((GetsLock u k m, d) ∷ xs) n c h has = rises old new xs n c h (passed (GetsLock u k m) d xs n c (λ e. absurd (cc)) has)
rises old new ((FindsDead f, d) ∷ xs) n c h has = rises old new xs n c h (passed (FindsDead f) d xs n c (λ e. absurd (cc)) has)
rises old new ((StartsCheckpoint, d) ∷ xs) n c h has = rises old new xs n c h (passed StartsCheckpoint d xs n c (λ e. absurd (cc)) has)
rises old new ((EndsCheckpoint, d) ∷ xs) n c h has = rises old new xs n c h (passed EndsCheckpoint d xs n c (λ e. absurd (cc)) has)
rises old new ((Meets why, d) ∷ xs) n c h has = rises old new xs n c h (passed (Meets why) d xs n c (λ e. absurd (cc)) has)

pub anchors_rise : AnchorsRise
unfolding Rises
anchors_rise old new xs n c moves has = rises old new xs n c moves has
