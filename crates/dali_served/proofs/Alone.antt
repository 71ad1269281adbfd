-- The log leaves a transaction steady where its client does.
use Rattle.std.proofs.Common.{◌≡◌, ℕ, ◌+◌, ◌==◌, Bool, true, false, List, [], ◌∷◌, ◌++◌, Option, Some, None, fold, refl, sym, ◌∙◌, ap, subst}
use Rattle.std.specs.Prelude.{IsSome, if◌then◌else◌, length}
use Rattle.std.specs.List.{AllByRecursion}
use Rattle.std.proofs.lemmas.Bool.{eq-eqb}
use Rattle.dali_record.specs.declared.records.Record.{Record}
use Rattle.dali_record.specs.declared.records.Record.TheVariants.{Forward, Back, Done, Commit, Ended}
use Rattle.dali_history.specs.Room.Room.{unless, steady_next}
use Rattle.dali_transcripts.specs.World.{Logs, Happening, logged_by}
use Rattle.dali_transcripts.specs.Moves.{Receipt}
use Rattle.dali_transcripts.specs.Transcripts.{owned_one, owned}
use Rattle.dali_served.specs.Steady.{steady_by, is_of, IsAlone, LogIsSteady}

otherwise : (b : Bool) (o q : Option Bool) → b ≡ false → (if b then o else q) ≡ q
otherwise true o q e = absurd cc
otherwise false o q e = refl

-- ---- a record of another transaction
unmoved : (t : ℕ) (o : Option Bool) (r : Record) → is_of t r ≡ false → steady_next t o r ≡ o
unmoved t None r e = refl
unmoved t (Some back) (Forward u b) e = otherwise (u == t) (unless back) (Some back) e
unmoved t (Some back) (Back u b) e = ap (λ (k : Bool). Some (if k then true else back)) e
unmoved t (Some back) (Done u k a) e = ap (λ (k : Bool). Some (if k then false else back)) e
unmoved t (Some back) (Commit u) e = otherwise (u == t) (unless back) (Some back) e
unmoved t (Some back) (Ended u) e = otherwise (u == t) (unless back) (Some back) e
unmoved t (Some back) r e = refl

module _ (t c : ℕ) where
  -- ---- one that was logged
  logged : (o : Option Bool) (n d : ℕ) (r : Record) (ys : List Receipt) → IsAlone t c (Logs r, d) → fold (steady_by t) o (owned_one (d == c) (n, Logs r) ys) ≡ fold (steady_by t) (steady_next t o r) ys
  logged o n d r ys alone = by_owner (d == c) refl
    where
      by_owner : (b : Bool) → (d == c) ≡ b → fold (steady_by t) o (owned_one b (n, Logs r) ys) ≡ fold (steady_by t) (steady_next t o r) ys
      by_owner true e = refl
      by_owner false e = by_record (is_of t r) refl
        where
          by_record : (b : Bool) → is_of t r ≡ b → fold (steady_by t) o ys ≡ fold (steady_by t) (steady_next t o r) ys
          by_record true f = let never : true ≡ false = sym (eq-eqb d c (alone f)) ∙ e in absurd cc
          by_record false f = ap (λ q. fold (steady_by t) q ys) (sym (unmoved t o r f))

  -- ---- one that wasn't
  passed : (o : Option Bool) (b : Bool) (x : Receipt) (ys : List Receipt) → steady_by t o x ≡ o → fold (steady_by t) o (owned_one b x ys) ≡ fold (steady_by t) o ys
  passed o true x ys e = ap (λ q. fold (steady_by t) q ys) e
  passed o false x ys e = refl

  along : (o : Option Bool) (n : ℕ) (xs : List Happening) → AllByRecursion (IsAlone t c) xs → fold (steady_by t) o (owned c n xs) ≡ fold (steady_next t) o (logged_by xs)
  along o n [] alone = refl
  along o n ((Logs r, d) ∷ xs) alone = logged o n d r (owned c (n + 1) xs) alone.0 ∙ along (steady_next t o r) (n + 1) xs alone.1
  along o n ((x, d) ∷ xs) alone = passed o (d == c) (n, x) (owned c n xs) refl ∙ along o n xs alone.1

pub log_is_steady : LogIsSteady
log_is_steady w t c i h before alone steady =
    let parts : fold (steady_next t) (Some false) (w.before ++ logged_by w.happened) ≡ fold (steady_next t) (Some false) (logged_by w.happened) = ap (λ l. fold (steady_next t) (Some false) (l ++ logged_by w.happened)) before in
    let is : fold (steady_next t) (Some false) (w.before ++ logged_by w.happened) ≡ Some false = parts ∙ (sym (along t c (Some false) (length w.before) w.happened alone) ∙ steady) in
    subst IsSome (sym is) refl
