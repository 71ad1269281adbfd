-- What deeds leave of the row of a transaction, and what is known of one that has none any more.
use Rattle.std.proofs.Common.{◌≡◌, ℕ, zero, suc, ◌≤◌, Bool, true, false, List, [], ◌∷◌, ◌++◌, length, take, Option, Some, None, is_some, refl, ap, sym, subst, ◌∙◌, ◌⊎◌, inl, inr, ⊎_elim, arith, length-append}
use Rattle.std.specs.Prelude.{◌==◌, if◌then◌else◌, fold, slice_get}
use Rattle.std.proofs.lemmas.List.{append_assoc, take-append-le}
use Rattle.std.proofs.lemmas.List.Elements.{filter_map-append}
use Rattle.std.proofs.lemmas.List.Sums.{fold-append}
use Rattle.std.proofs.lemmas.Option.{slice_get_within}
use Rattle.dali_lists.proofs.Lists.{get_front}
use Rattle.dali_runs.proofs.CountsLemmas.Lists.{equal}
use Rattle.dali_record.specs.declared.records.Record.{Record}
use Rattle.dali_record.specs.declared.records.Record.TheVariants.{Begin, Commit, Ended}
use Rattle.dali_att.specs.declared.state.State.{State}
use Rattle.dali_att.specs.declared.state.State.TheVariants.{Live, Dead, Cleaning, Committed}
use Rattle.dali_runs.specs.declared.causes.Cause.{Cause}
use Rattle.dali_runs.specs.State.{CoreState, row_of, state_of}
use Rattle.dali_crash.specs.Checkpoints.{Point}
use Rattle.dali_transcripts.specs.World.{Deed, Logs, DiesOn, Claims, GivesBack, Happening, World, record_of, logged_by, log_of, log_at, IsLogged, claimed, given_back, state_step, HasDiedBy, HasEndedBy}
use Rattle.dali_transcripts.specs.Rounds.{by, IsBetween}
use Rattle.dali_transcripts.proofs.Left.{is_left, DiedIn, left_by_deeds, dead_left, has_row}
use Rattle.dali_transcripts.specs.Telling.Tells.{after, Tells, Goes}
use Rattle.dali_turns.specs.Stood.{HadRow}
use Rattle.dali_turns.specs.Outside.{HasGone}
use Rattle.dali_turns.proofs.Locking.{get_behind}

-- ---- who had a row has it, or has ended
chosen : (b : Bool) (p o : Option State) → is_some p ≡ true → is_some o ≡ true → is_some (if b then p else o) ≡ true
chosen true p o e f = e
chosen false p o e f = f

claimed_some : (o : Option State) → is_some o ≡ true → is_some (claimed o) ≡ true
claimed_some None e = absurd (cc)
claimed_some (Some (Dead latched)) e = refl
claimed_some (Some Live) e = refl
claimed_some (Some (Cleaning latched)) e = refl
claimed_some (Some Committed) e = refl

given_some : (latched : Option ℕ) (o : Option State) → is_some o ≡ true → is_some (given_back latched o) ≡ true
given_some latched None e = absurd (cc)
given_some latched (Some (Dead was)) e = refl
given_some latched (Some Live) e = refl
given_some latched (Some (Cleaning was)) e = refl
given_some latched (Some Committed) e = refl

abbrev IsEndOf : ℕ → Happening → Type 0
IsEndOf t y = (c : ℕ) × (y ≡ (Logs (Ended t), c))

abbrev HasEndIn : ℕ → List Record → Type 0
HasEndIn t rs = (n : ℕ) × (slice_get rs n ≡ Some (Ended t))

ended_one : (b : Bool) (t u c : ℕ) (o : Option State) → (u == t) ≡ b → is_some o ≡ true → (is_some (if b then None else o) ≡ true) ⊎ IsEndOf t (Logs (Ended u), c)
ended_one true t u c o same e = inr (c, ap (λ k. (Logs (Ended k), c)) (equal u t same))
ended_one false t u c o same e = inl e

by_deed : (t : ℕ) (o : Option State) (y : Happening) → is_some o ≡ true → (is_some (state_step t o y) ≡ true) ⊎ IsEndOf t y
by_deed t o (Logs (Begin u), c) e = inl (chosen (u == t) (Some Live) o refl e)
by_deed t o (Logs (Commit u), c) e = inl (chosen (u == t) (Some Committed) o refl e)
by_deed t o (Logs (Ended u), c) e = ended_one (u == t) t u c o refl e
by_deed t o (DiesOn u r, c) e = inl (chosen (u == t) (Some (Dead (Some r))) o refl e)
by_deed t o (Claims u, c) e = inl (chosen (u == t) (claimed o) o (claimed_some o e) e)
by_deed t o (GivesBack u latched, c) e = inl (chosen (u == t) (given_back latched o) o (given_some latched o e) e)
by_deed t o y e = inl e

one_later : (t : ℕ) (y : Happening) (ys : List Happening) → HasEndIn t (logged_by ys) → HasEndIn t (logged_by (y ∷ ys))
one_later t (Logs x, c) ys h = (suc h.0, h.1)
one_later t y ys h = h

by_deeds : (t : ℕ) (o : Option State) (xs : List Happening) → is_some o ≡ true → (is_some (fold (state_step t) o xs) ≡ true) ⊎ HasEndIn t (logged_by xs)
by_deeds t o [] e = inl e
by_deeds t o (y ∷ ys) e =
    ⊎_elim
    (λ kept. ⊎_elim (λ h. inl h) (λ later. inr (one_later t y ys later)) (by_deeds t (state_step t o y) ys kept))
    (λ here. inr (subst (λ (z : Happening). HasEndIn t (logged_by (z ∷ ys))) (sym here.1) (zero, refl)))
    (by_deed t o y e)

-- ---- the world behind some deeds
module _ (w : World) (c : ℕ) (ds : List Deed) (d : CoreState) where
  log_behind : log_of (after w c ds d) ≡ log_of w ++ logged_by (by c ds)
  log_behind = ap (λ l. w.before ++ l) (filter_map-append record_of w.happened (by c ds)) ∙ sym (append_assoc w.before (logged_by w.happened) (logged_by (by c ds)))

  pub logged_behind : (n : ℕ) (x : Record) → IsLogged w n x → IsLogged (after w c ds d) n x
  logged_behind n x h = subst (λ l. slice_get l n ≡ Some x) (sym log_behind) (get_front (log_of w) (logged_by (by c ds)) n x h)

  logged_in : (n : ℕ) (x : Record) → slice_get (logged_by (by c ds)) n ≡ Some x → (m : ℕ) × IsLogged (after w c ds d) m x
  logged_in n x e = let h = get_behind (log_of w) (logged_by (by c ds)) n x e in (h.0, subst (λ l. slice_get l h.0 ≡ Some x) (sym log_behind) h.1)

one_shorter : (y : Happening) (xs ys : List Happening) → length (logged_by xs) ≤ length (logged_by ys) → length (logged_by (y ∷ xs)) ≤ length (logged_by (y ∷ ys))
one_shorter (Logs x, c) xs ys h = omega (arith, h)
one_shorter y xs ys h = h

shorter : (i : ℕ) (xs : List Happening) → length (logged_by (take i xs)) ≤ length (logged_by xs)
shorter zero [] = omega arith
shorter (suc i) [] = omega arith
shorter zero (y ∷ ys) = omega arith
shorter (suc i) (y ∷ ys) = one_shorter y (take i ys) ys (shorter i ys)

module _ (w v : World) (c : ℕ) (p q : Point) (ds : List Deed) (told : Tells w p) (goes : Goes w c p ds v q) where
  state_behind : (t : ℕ) → state_of v.core.system t ≡ fold (state_step t) (state_of w.core.system t) (by c ds)
  state_behind t =
      goes.tells.together.states t
      ∙ (ap (λ (k : CoreState). fold (state_step t) (state_of k.system t) v.happened) goes.grows.old
      ∙ (ap (fold (state_step t) (state_of w.old.system t)) (goes.grows.happened ∙ ap (λ (xs : List Happening). w.happened ++ xs) goes.more)
      ∙ (fold-append (state_step t) (state_of w.old.system t) w.happened (by c ds)
      ∙ ap (λ (o : Option State). fold (state_step t) o (by c ds)) (sym (told.together.states t)))))

  -- who had a row, or had ended, does so behind them
  pub had_row : (t : ℕ) → HadRow w t → HadRow v t
  had_row t (inl there) =
      ⊎_elim
      (λ kept. inl (ap is_some (state_behind t) ∙ kept))
      (λ h. let found = logged_in w c ds q.core h.0 (Ended t) h.1 in inr (found.0, subst (λ (x : World). IsLogged x found.0 (Ended t)) (sym goes.is) found.1))
      (by_deeds t (state_of w.core.system t) (by c ds) there)
  had_row t (inr h) = inr (h.0, subst (λ (x : World). IsLogged x h.0 (Ended t)) (sym goes.is) (logged_behind w c ds q.core h.0 (Ended t) h.1))

-- ---- a holder that has gone
module _ (w : World) (p : Point) (told : Tells w p) (began : IsBetween w.old) where
  ran : w.core.system.stop ≡ None → w.old.system.stop ≡ None
  ran up = by_stop w.old.system.stop refl
    where
      by_stop : (o : Option Cause) → w.old.system.stop ≡ o → w.old.system.stop ≡ None
      by_stop None e = e
      by_stop (Some cause) e = let still : w.core.system.stop ≡ Some cause = told.grew.stopped cause e in absurd (cc)

  -- where the engine runs, before the deeds that follow it has ended, or its client has died
  pub gone_by : (c : ℕ) (ds : List Deed) (d : CoreState) (t : ℕ) → w.core.system.stop ≡ None → HadRow w t → HasGone w.core.system t → HasEndedBy (after w c ds d) t (length (log_of w))
  gone_by c ds d t up (inl there) (inl none) = let never : is_some (state_of w.core.system t) ≡ false = ap is_some none in absurd (cc)
  gone_by c ds d t up (inr h) (inl none) = inl (h.0, slice_get_within (log_of w) h.0 (Ended t) h.1, logged_behind w c ds d h.0 (Ended t) h.1)
  gone_by c ds d t up had (inr dead) =
      inr (⊎_elim was in_round
      (left_by_deeds t (state_of w.old.system t) w.happened (ap is_left (sym (told.together.states t)) ∙ dead_left (state_of w.core.system t) dead)))
    where
      was : is_left (state_of w.old.system t) ≡ true → HasDiedBy (after w c ds d) t (length (log_of w))
      was e = inl (began.idle (ran up) t (has_row (row_of w.old.system t) e))

      in_round : DiedIn t w.happened → HasDiedBy (after w c ds d) t (length (log_of w))
      in_round (i, e, r, at) =
          let within = slice_get_within w.happened i (DiesOn t r, e) at in
          let front : take i (w.happened ++ by c ds) ≡ take i w.happened = take-append-le i w.happened (by c ds) (omega (arith, within)) in
          inr (
            e,
            r,
            length (log_at (after w c ds d) i),
            record { place = i; there = get_front w.happened (by c ds) i (DiesOn t r, e) at; number = refl },
            omega (arith, ap (λ (xs : List Happening). length (w.before ++ logged_by xs)) front, length-append w.before (logged_by (take i w.happened)), length-append w.before (logged_by w.happened), shorter i w.happened),
          )
