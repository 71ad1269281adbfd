-- Where no two clients call one key, no request gives way.
use Rattle.std.proofs.Common.{◌≡◌, ℕ, zero, suc, ◌+◌, ◌==◌, Bool, true, false, List, [], ◌∷◌, length, Some, refl, sym, ◌∙◌, ap, subst, arith, inl, inr}
use Rattle.std.specs.Prelude.{Contains, if◌then◌else◌, slice_get, take}
use Rattle.std.specs.List.{AllByRecursion}
use Rattle.std.proofs.lemmas.Bool.{eqb-true, eq-eqb}
use Rattle.dali_runs.proofs.CountsLemmas.Lists.{some_same}
use Rattle.dali_record.specs.declared.records.Call.{Call}
use Rattle.dali_record.specs.declared.records.Record.{Record}
use Rattle.dali_runs.specs.State.{CoreState}
use Rattle.dali_transcripts.specs.Rounds.{IsRound}
use Rattle.dali_transcripts.specs.Words.{Said, key_of}
use Rattle.dali_transcripts.specs.World.{Deed, GetsLock, Yields, Happening, World, logged_by}
use Rattle.dali_transcripts.specs.Causes.{IsAnothers, IsRight, AreRightFrom}
use Rattle.dali_transcripts.specs.Transcripts.{deeds_of, Told, EachTells, is_among}
use Rattle.dali_transcripts.proofs.Lists.{all_get}
use Rattle.dali_transcripts.proofs.Owned.{each_is_owned}
use Rattle.dali_served.specs.Served.{acts_of, AreTold as AreToldCalls}
use Rattle.dali_served.specs.Apart.{AreAtHome, NoneGivesWay}
use Rattle.dali_served.proofs.AtHome.{AreFine, IsTold, AreTold, told_all, fine_acts}
use Rattle.dali_served.proofs.Law.{none_of}

-- ---- of each client
module _ (w : World) (P : ℕ → ℕ → Type 0) (calls : ℕ → List (List Call)) (fine : (c : ℕ) → AllByRecursion (λ cs. AllByRecursion (λ call. P c (key_of call)) cs) (calls c)) where
  among : (bs : List Told) (ls : List (List Said)) → EachTells true w bs ls → ((i : ℕ) (b : Told) → slice_get bs i ≡ Some b → b.acts ≡ acts_of (calls b.client)) → (c : ℕ) → is_among bs c ≡ true → AreTold (P c) (deeds_of w c)
  among [] [] tells acts c is = absurd cc
  among (b ∷ bs) (lines ∷ ls) tells acts c is = by_test (among bs ls tells.1 (λ i a at. acts (suc i) a at) c) (b.client == c) refl is
    where
      by_test : (is_among bs c ≡ true → AreTold (P c) (deeds_of w c)) → (x : Bool) → (b.client == c) ≡ x → (if x then true else is_among bs c) ≡ true → AreTold (P c) (deeds_of w c)
      by_test ih true e is =
          subst (λ d. AreTold (P d) (deeds_of w d)) (eqb-true b.client c e)
          (told_all (P b.client) w b.client b.acts lines (deeds_of w b.client) tells.0 (subst (AreFine (P b.client)) (sym (acts 0 b refl)) (fine_acts (P b.client) (calls b.client) (fine b.client))))
      by_test ih false e is = ih is
  among [] (lines ∷ ls) tells acts c is = absurd tells
  among (b ∷ bs) [] tells acts c is = absurd tells

-- ---- places
right_from : (w : World) (i : ℕ) (xs : List Happening) (j c : ℕ) (x : Deed) → AreRightFrom w i xs → slice_get xs j ≡ Some (x, c) → IsRight w c (i + j) x
right_from w i [] j c x h at = absurd cc
right_from w i (y ∷ xs) zero c x h at = let same = some_same at in let here : i + 0 ≡ i = omega arith in subst (λ k. IsRight w c k x) (sym here) (subst (λ (z : Happening). IsRight w z.1 i z.0) same h.0)
right_from w i (y ∷ xs) (suc j) c x h at = let here : i + 1 + j ≡ i + suc j = omega arith in subst (λ k. IsRight w c k x) here (right_from w (i + 1) xs j c x h.1 at)

got_place : (i : ℕ) (xs : List Happening) (y : Happening) → Contains (take i xs) y → (j : ℕ) × (slice_get xs j ≡ Some y)
got_place zero xs y h = absurd (omega (arith, h.1))
got_place (suc i) [] y h = absurd (omega (arith, h.1))
got_place (suc i) (x ∷ xs) y (zero, l, e) = (0, ap (λ (z : Happening). Some z) e)
got_place (suc i) (x ∷ xs) y (suc j, l, e) = let later = got_place i xs y (j, omega (arith, l), e) in (suc later.0, later.1)

abbrev pub IsHome : (ℕ → ℕ) → ℕ → ℕ → Type 0
IsHome home c k = home k ≡ c

-- a client that isn't among them did nothing
pub told_by_each : (precheck : Bool) (before : List Record) (old new : CoreState) (blocks : List Told) (lines : List (List Said)) (receipts : List (List ℕ)) (calls : ℕ → List (List Call)) (home : ℕ → ℕ)
    → (round : IsRound precheck true before old new blocks lines receipts) → AreToldCalls calls blocks → AreAtHome home calls → (c : ℕ) → AreTold (IsHome home c) (deeds_of round.world c)
told_by_each precheck before old new blocks lines receipts calls home round told at_home c = by_test (is_among blocks c) refl
  where
    by_test : (b : Bool) → is_among blocks c ≡ b → AreTold (IsHome home c) (deeds_of round.world c)
    by_test true e = among round.world (IsHome home) calls at_home blocks lines round.transcripts.each told.acts c e
    by_test false e = subst (AreTold (IsHome home c)) (sym (none_of blocks c (length round.world.before) round.world.happened round.transcripts.owners e)) tt

pub none_gives_way : NoneGivesWay
none_gives_way precheck before old new blocks lines receipts calls home round none_dead told at_home i c f at =
    let w = round.world in
    let here : 0 + i ≡ i = omega arith in
    let right : IsRight w c i (Yields f) = subst (λ k. IsRight w c k (Yields f)) here (right_from w 0 w.happened i c (Yields f) round.right at) in
    by_right right.3.by_another
  where
    of_deed : (c j : ℕ) (x : Deed) → slice_get round.world.happened j ≡ Some (x, c) → IsTold (IsHome home c) (length round.world.before + length (logged_by (take j round.world.happened)), x)
    of_deed c j x at =
        all_get (IsTold (IsHome home c)) (deeds_of round.world c) _ (told_by_each precheck before old new blocks lines receipts calls home round told at_home c)
        (each_is_owned c (length round.world.before) round.world.happened j x at)

    by_right : IsAnothers round.world c i f.holder f.key → ⊥
    by_right (inl dead) = none_dead f.holder dead
    by_right (inr (d, m, apart, granted)) =
        let got = got_place i round.world.happened (GetsLock f.holder f.key m, d) granted in
        let mine : home f.key ≡ c = of_deed c i (Yields f) at in
        let its : home f.key ≡ d = of_deed d got.0 (GetsLock f.holder f.key m) got.1 in
        let same : (d == c) ≡ true = eq-eqb d c (sym its ∙ mine) in
        let never : true ≡ false = sym same ∙ apart in absurd cc
