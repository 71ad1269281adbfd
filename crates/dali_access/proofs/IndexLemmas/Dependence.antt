-- What each operation on an index region does depends on the words that it reads alone.
use Rattle.std.proofs.Common.{◌≡◌, ℕ, Bool, true, false, List, [], ◌∷◌, ◌++◌, refl, sym, inl, inr}
use Rattle.std.specs.Prelude.{◌==◌, not}
use Rattle.dali_lists.proofs.Numbers.{eqb_carried}
use Rattle.dali_words.specs.declared.KillOutcome.{KillOutcome}
use Rattle.dali_words.specs.declared.KillOutcome.TheVariants.{NotLive, OtherKey, Killed}
use Rattle.dali_words.specs.Effects.{effect_of, AnswersByReads, DependsOnReads}
use Rattle.dali_words.proofs.Masks.{IsIn, in_left, in_right}
use Rattle.dali_words.proofs.Dependence.{Agree, Row, row_answers, effect_depends}
use Rattle.dali_access.specs.declared.index.LookOutcome.{LookOutcome}
use Rattle.dali_access.specs.declared.index.LookOutcome.TheVariants.{Found, Absent}
use Rattle.dali_access.specs.declared.index.AddOutcome.{AddOutcome}
use Rattle.dali_access.specs.declared.index.AddOutcome.TheVariants.{Added, NoEntry}
use Rattle.dali_access.specs.Index.Entries as entry
use Rattle.dali_access.specs.Index.Rows as index

abbrev Within : List ℕ → List ℕ → Type 0
Within xs ys = (i : ℕ) → IsIn xs i → IsIn ys i

-- ---- the walks over the entries
pub look_row : (ws : List ℕ) (key : ℕ) (seen es : List ℕ) → (R : Row LookOutcome (λ us. index.look_among us key seen es) ws) × Within seen R.reads
look_row ws key seen [] = (record { reads = seen ++ 0 ∷ []; writes = []; inside = λ i h. absurd h; out = Absent (not (entry.flag_of ws == 0)); gives = gives }, in_left seen (0 ∷ []))
  where
    gives : (us : List ℕ) → Agree (seen ++ 0 ∷ []) ws us → index.look_among us key seen [] ≡ (effect_of us (seen ++ 0 ∷ []) [], Absent (not (entry.flag_of ws == 0)))
    gives us a = let e : entry.flag_of us ≡ entry.flag_of ws = sym (a.1 0 (in_right seen (0 ∷ []) 0 (inl refl))) in rw e refl
look_row ws key seen (e ∷ es) = by_tests (look_row ws key (seen ++ entry.state_word e ∷ entry.key_word e ∷ []) es) (look_row ws key (seen ++ entry.state_word e ∷ []) es) (entry.state_of ws e == 1) (entry.key_of ws e == key) refl refl
  where
    by_tests :
        (R : Row LookOutcome (λ us. index.look_among us key (seen ++ entry.state_word e ∷ entry.key_word e ∷ []) es) ws) × Within (seen ++ entry.state_word e ∷ entry.key_word e ∷ []) R.reads
        → (R : Row LookOutcome (λ us. index.look_among us key (seen ++ entry.state_word e ∷ []) es) ws) × Within (seen ++ entry.state_word e ∷ []) R.reads
        → (c d : Bool) → (entry.state_of ws e == 1) ≡ c → (entry.key_of ws e == key) ≡ d
        → (R : Row LookOutcome (λ us. index.look_among us key seen (e ∷ es)) ws) × Within seen R.reads
    by_tests two one true true p q = (record { reads = seen ++ entry.state_word e ∷ entry.key_word e ∷ entry.place_word e ∷ []; writes = []; inside = λ i h. absurd h; out = Found e (entry.place_of ws e); gives = gives }, in_left seen _)
      where
        gives : (us : List ℕ) → Agree (seen ++ entry.state_word e ∷ entry.key_word e ∷ entry.place_word e ∷ []) ws us → index.look_among us key seen (e ∷ es) ≡ (effect_of us (seen ++ entry.state_word e ∷ entry.key_word e ∷ entry.place_word e ∷ []) [], Found e (entry.place_of ws e))
        gives us a =
            let f : (entry.state_of us e == 1) ≡ true = eqb_carried _ _ 1 true (a.1 (entry.state_word e) (in_right seen _ (entry.state_word e) (inl refl))) p in
            let g : (entry.key_of us e == key) ≡ true = eqb_carried _ _ key true (a.1 (entry.key_word e) (in_right seen _ (entry.key_word e) (inr (inl refl)))) q in
            let h : entry.place_of us e ≡ entry.place_of ws e = sym (a.1 (entry.place_word e) (in_right seen _ (entry.place_word e) (inr (inr (inl refl))))) in
            rw (f, g, h) refl
    by_tests two one true false p q = (record { reads = two.0.reads; writes = two.0.writes; out = two.0.out; inside = two.0.inside; gives = gives }, λ i h. two.1 i (in_left seen _ i h))
      where
        gives : (us : List ℕ) → Agree two.0.reads ws us → index.look_among us key seen (e ∷ es) ≡ (effect_of us two.0.reads two.0.writes, two.0.out)
        gives us a =
            let f : (entry.state_of us e == 1) ≡ true = eqb_carried _ _ 1 true (a.1 (entry.state_word e) (two.1 (entry.state_word e) (in_right seen _ (entry.state_word e) (inl refl)))) p in
            let g : (entry.key_of us e == key) ≡ false = eqb_carried _ _ key false (a.1 (entry.key_word e) (two.1 (entry.key_word e) (in_right seen _ (entry.key_word e) (inr (inl refl))))) q in
            rw (f, g) (two.0.gives us a)
    by_tests two one false d p q = (record { reads = one.0.reads; writes = one.0.writes; out = one.0.out; inside = one.0.inside; gives = gives }, λ i h. one.1 i (in_left seen _ i h))
      where
        gives : (us : List ℕ) → Agree one.0.reads ws us → index.look_among us key seen (e ∷ es) ≡ (effect_of us one.0.reads one.0.writes, one.0.out)
        gives us a =
            let f : (entry.state_of us e == 1) ≡ false = eqb_carried _ _ 1 false (a.1 (entry.state_word e) (one.1 (entry.state_word e) (in_right seen _ (entry.state_word e) (inl refl)))) p in
            rw f (one.0.gives us a)

pub add_row : (ws : List ℕ) (key p : ℕ) (seen es : List ℕ) → (R : Row AddOutcome (λ us. index.add_among us key p seen es) ws) × Within seen R.reads
add_row ws key p seen [] = by_test (entry.flag_of ws == 0) refl
  where
    by_test : (c : Bool) → (entry.flag_of ws == 0) ≡ c → (R : Row AddOutcome (λ us. index.add_among us key p seen []) ws) × Within seen R.reads
    by_test true q = (record { reads = seen ++ 0 ∷ []; writes = (0, 1) ∷ []; inside = in_right seen (0 ∷ []); out = NoEntry; gives = gives }, in_left seen (0 ∷ []))
      where
        gives : (us : List ℕ) → Agree (seen ++ 0 ∷ []) ws us → index.add_among us key p seen [] ≡ (effect_of us (seen ++ 0 ∷ []) ((0, 1) ∷ []), NoEntry)
        gives us a = let f : (entry.flag_of us == 0) ≡ true = eqb_carried _ _ 0 true (a.1 0 (in_right seen (0 ∷ []) 0 (inl refl))) q in rw f refl
    by_test false q = (record { reads = seen ++ 0 ∷ []; writes = []; inside = λ i h. absurd h; out = NoEntry; gives = gives }, in_left seen (0 ∷ []))
      where
        gives : (us : List ℕ) → Agree (seen ++ 0 ∷ []) ws us → index.add_among us key p seen [] ≡ (effect_of us (seen ++ 0 ∷ []) [], NoEntry)
        gives us a = let f : (entry.flag_of us == 0) ≡ false = eqb_carried _ _ 0 false (a.1 0 (in_right seen (0 ∷ []) 0 (inl refl))) q in rw f refl
add_row ws key p seen (e ∷ es) = by_test (add_row ws key p (seen ++ entry.state_word e ∷ []) es) (entry.state_of ws e == 0) refl
  where
    by_test :
        (R : Row AddOutcome (λ us. index.add_among us key p (seen ++ entry.state_word e ∷ []) es) ws) × Within (seen ++ entry.state_word e ∷ []) R.reads
        → (c : Bool) → (entry.state_of ws e == 0) ≡ c
        → (R : Row AddOutcome (λ us. index.add_among us key p seen (e ∷ es)) ws) × Within seen R.reads
    by_test later true q = (record { reads = seen ++ entry.state_word e ∷ entry.key_word e ∷ entry.place_word e ∷ []; writes = (entry.state_word e, 1) ∷ (entry.key_word e, key) ∷ (entry.place_word e, p) ∷ []; inside = in_right seen (entry.state_word e ∷ entry.key_word e ∷ entry.place_word e ∷ []); out = Added e; gives = gives }, in_left seen _)
      where
        gives : (us : List ℕ) → Agree (seen ++ entry.state_word e ∷ entry.key_word e ∷ entry.place_word e ∷ []) ws us → index.add_among us key p seen (e ∷ es) ≡ (effect_of us (seen ++ entry.state_word e ∷ entry.key_word e ∷ entry.place_word e ∷ []) ((entry.state_word e, 1) ∷ (entry.key_word e, key) ∷ (entry.place_word e, p) ∷ []), Added e)
        gives us a = let f : (entry.state_of us e == 0) ≡ true = eqb_carried _ _ 0 true (a.1 (entry.state_word e) (in_right seen _ (entry.state_word e) (inl refl))) q in rw f refl
    by_test later false q = (record { reads = later.0.reads; writes = later.0.writes; out = later.0.out; inside = later.0.inside; gives = gives }, λ i h. later.1 i (in_left seen _ i h))
      where
        gives : (us : List ℕ) → Agree later.0.reads ws us → index.add_among us key p seen (e ∷ es) ≡ (effect_of us later.0.reads later.0.writes, later.0.out)
        gives us a = let f : (entry.state_of us e == 0) ≡ false = eqb_carried _ _ 0 false (a.1 (entry.state_word e) (later.1 (entry.state_word e) (in_right seen _ (entry.state_word e) (inl refl)))) q in rw f (later.0.gives us a)

pub look_by_reads : (key : ℕ) (ws : List ℕ) → AnswersByReads (λ us. index.look us key) ws
look_by_reads key ws = row_answers (λ us. index.look us key) ws (look_row ws key [] entry.entries).0

pub add_by_reads : (key p : ℕ) (ws : List ℕ) → AnswersByReads (λ us. index.add us key p) ws
add_by_reads key p ws = row_answers (λ us. index.add us key p) ws (add_row ws key p [] entry.entries).0

-- ---- one entry
pub kill_row : (e key : ℕ) (ws : List ℕ) → Row KillOutcome (λ us. index.kill us e key) ws
kill_row e key ws = by_tests (entry.state_of ws e == 1) (entry.key_of ws e == key) refl refl
  where
    by_tests : (c d : Bool) → (entry.state_of ws e == 1) ≡ c → (entry.key_of ws e == key) ≡ d → Row KillOutcome (λ us. index.kill us e key) ws
    by_tests true true p q = record { reads = entry.state_word e ∷ entry.key_word e ∷ []; writes = (entry.state_word e, 2) ∷ []; inside = in_left (entry.state_word e ∷ []) (entry.key_word e ∷ []); out = Killed; gives = gives }
      where
        gives : (us : List ℕ) → Agree (entry.state_word e ∷ entry.key_word e ∷ []) ws us → index.kill us e key ≡ (effect_of us (entry.state_word e ∷ entry.key_word e ∷ []) ((entry.state_word e, 2) ∷ []), Killed)
        gives us a =
            let f : (entry.state_of us e == 1) ≡ true = eqb_carried _ _ 1 true (a.1 (entry.state_word e) (inl refl)) p in
            let g : (entry.key_of us e == key) ≡ true = eqb_carried _ _ key true (a.1 (entry.key_word e) (inr (inl refl))) q in
            rw (f, g) refl
    by_tests true false p q = record { reads = entry.state_word e ∷ entry.key_word e ∷ []; writes = []; inside = λ i h. absurd h; out = OtherKey (entry.key_of ws e); gives = gives }
      where
        gives : (us : List ℕ) → Agree (entry.state_word e ∷ entry.key_word e ∷ []) ws us → index.kill us e key ≡ (effect_of us (entry.state_word e ∷ entry.key_word e ∷ []) [], OtherKey (entry.key_of ws e))
        gives us a =
            let f : (entry.state_of us e == 1) ≡ true = eqb_carried _ _ 1 true (a.1 (entry.state_word e) (inl refl)) p in
            let g : (entry.key_of us e == key) ≡ false = eqb_carried _ _ key false (a.1 (entry.key_word e) (inr (inl refl))) q in
            let k : entry.key_of us e ≡ entry.key_of ws e = sym (a.1 (entry.key_word e) (inr (inl refl))) in
            rw (f, g, k) refl
    by_tests false d p q = record { reads = entry.state_word e ∷ []; writes = []; inside = λ i h. absurd h; out = NotLive (entry.state_of ws e); gives = gives }
      where
        gives : (us : List ℕ) → Agree (entry.state_word e ∷ []) ws us → index.kill us e key ≡ (effect_of us (entry.state_word e ∷ []) [], NotLive (entry.state_of ws e))
        gives us a =
            let f : (entry.state_of us e == 1) ≡ false = eqb_carried _ _ 1 false (a.1 (entry.state_word e) (inl refl)) p in
            let k : entry.state_of us e ≡ entry.state_of ws e = sym (a.1 (entry.state_word e) (inl refl)) in
            rw (f, k) refl

pub kill_by_reads : (e key : ℕ) (ws : List ℕ) → AnswersByReads (λ us. index.kill us e key) ws
kill_by_reads e key ws = row_answers (λ us. index.kill us e key) ws (kill_row e key ws)

pub free_by_reads : (e : ℕ) (ws : List ℕ) → DependsOnReads (λ us. index.free us e) ws
free_by_reads e ws = effect_depends (entry.state_word e ∷ []) ((entry.state_word e, 0) ∷ []) ws

pub revive_by_reads : (e : ℕ) (ws : List ℕ) → DependsOnReads (λ us. index.revive us e) ws
revive_by_reads e ws = effect_depends (entry.state_word e ∷ []) ((entry.state_word e, 1) ∷ []) ws
